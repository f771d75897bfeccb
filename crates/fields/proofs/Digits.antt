-- Laws of the digits of a number. Assumes nothing.
use Rattle.std.specs.Prelude.{Option, None, Some, ◌&&◌}
use Rattle.std.specs.List.{list_all}
use mathlib.Core.Path.{◌≡◌, refl, sym, subst}
use mathlib.Core.List.{List, [], ◌∷◌}
use mathlib.Core.Bool.{Bool, true, false, cond}
use Prim.Native.Nat.{ℕ, zero, suc, ◌+◌, ◌-◌, ◌*◌, ◌^◌, ◌≤◌, ◌<◌}
use native.Mathlib.Nat.{pow-suc, pow-le-pow_right, lt_of_lt_of_le}
use native.Mathlib.Numerals.{add-one}
use native.Mathlib.Omega.{arith}
use lib.Dec.{T, eqb, ltb}
use lib.ListN.{length, drop, get_or, drop_of_length-le}
use lib.Seq.{drop-cons}
use borrow.Author.Tests.{lt-ltb, le-ltb, ltb-true, ltb-false}
use Rattle.fields.specs.Number.{digit_of, is_hex_of, hex_pad_of, digit_at_of, is_decimal, decimal_from, is_led_by_zero_of, read_whole_of}

clash : false ≡ true → ⊥
clash e = subst T (sym e) tt

-- ---- a hex digit more

pub pow_again : (v i d : ℕ) → v < 16 ^ i → d < 16 → v * 16 + d < 16 ^ (i + 1)
pow_again v i d p q = rw (add-one, pow-suc) (omega arith)

pub pow_fits : (v i d : ℕ) → v < 16 ^ i → i < 16 → d < 16 → v * 16 + d < 2 ^ 64
pow_fits v i d p h q = lt_of_lt_of_le (pow_again v i d p q) (let k : i + 1 ≤ 16 = omega arith in let z : 0 < 16 = omega arith in pow-le-pow_right z {i = i + 1} {j = 16} k)

module _ (t : List ℕ) (i : ℕ) (h : i < length t) where
  pub hex_again : (z : Bool) → digit_of (get_or t i 0) < 16 → is_hex_of (drop i t) ≡ z → is_hex_of (drop (i + 1) t) ≡ z
  unfolding is_hex_of
  hex_again z q e = let e2 = rw (drop-cons t i 0 h) at e in rw add-one (simp (lt-ltb _ _ q) at e2)

  pub hex_stop : (z : Bool) → 16 ≤ digit_of (get_or t i 0) → is_hex_of (drop i t) ≡ z → false ≡ z
  unfolding is_hex_of
  hex_stop z q e = let e2 = rw (drop-cons t i 0 h) at e in simp (le-ltb _ _ q) at e2

  hex_here : is_hex_of (drop i t) ≡ true → digit_of (get_or t i 0) < 16
  unfolding is_hex_of
  hex_here e = go (ltb (digit_of (get_or t i 0)) 16) refl (rw (drop-cons t i 0 h) at e)
    where
      go : (b : Bool) → ltb (digit_of (get_or t i 0)) 16 ≡ b → cond (ltb (digit_of (get_or t i 0)) 16) (is_hex_of (drop (suc i) t)) false ≡ true → digit_of (get_or t i 0) < 16
      go true q e = ltb-true _ _ q
      go false q e = absurd (clash (simp q at e))

  pad_again : (v w : ℕ) → i < 16 → hex_pad_of v (16 - i) (drop i t) ≡ w → hex_pad_of (v * 16 + digit_of (get_or t i 0)) (16 - (i + 1)) (drop (i + 1) t) ≡ w
  unfolding hex_pad_of
  pad_again v w p e =
      let q : 16 - i ≡ suc (16 - (i + 1)) = omega arith in
      let e2 = rw (drop-cons t i 0 h, q) at e in
      rw (add-one i) (rw (add-one i) at e2)

pub hex_end : (t : List ℕ) (i : ℕ) (z : Bool) → length t ≤ i → is_hex_of (drop i t) ≡ z → true ≡ z
unfolding is_hex_of
hex_end t i z h e = rw (drop_of_length-le t h) at e

pad_zeros : (t : List ℕ) (v i w : ℕ) → length t ≤ i → i < 16 → hex_pad_of v (16 - i) (drop i t) ≡ w → hex_pad_of (v * 16 + 0) (16 - (i + 1)) (drop (i + 1) t) ≡ w
unfolding hex_pad_of
pad_zeros t v i w h p e =
    let q : 16 - i ≡ suc (16 - (i + 1)) = omega arith in
    let k : length t ≤ i + 1 = omega arith in
    let z : v * 16 + 0 ≡ v * 16 = omega arith in
    rw (drop_of_length-le t k, z) (rw (drop_of_length-le t h, q) at e)

-- the same at any place, past the end too
pub pad_step : (t : List ℕ) (v i w : ℕ) → i < 16 → hex_pad_of v (16 - i) (drop i t) ≡ w → hex_pad_of (v * 16 + digit_at_of t i) (16 - (i + 1)) (drop (i + 1) t) ≡ w
unfolding digit_at_of
pad_step t v i w p e = go (ltb i (length t)) refl
  where
    go : (b : Bool) → ltb i (length t) ≡ b → hex_pad_of (v * 16 + cond (ltb i (length t)) (digit_of (get_or t i 0)) 0) (16 - (i + 1)) (drop (i + 1) t) ≡ w
    go true q = rw q (pad_again t i (ltb-true _ _ q) v w p e)
    go false q = rw q (pad_zeros t v i w (ltb-false _ _ q) p e)

pub pad_done : (t : List ℕ) (v i w : ℕ) → 16 ≤ i → hex_pad_of v (16 - i) (drop i t) ≡ w → v ≡ w
unfolding hex_pad_of
pad_done t v i w h e = let q : 16 - i ≡ 0 = omega arith in rw q at e

-- every digit of a hex text is below 16, and so are the zeros behind it
hex_tail : (b : ℕ) (t : List ℕ) → is_hex_of (b ∷ t) ≡ true → is_hex_of t ≡ true
unfolding is_hex_of
hex_tail b t e = go (ltb (digit_of b) 16) e
  where
    go : (x : Bool) → cond x (is_hex_of t) false ≡ true → is_hex_of t ≡ true
    go true e = e
    go false e = absurd (clash e)

hex_drop : (t : List ℕ) (i : ℕ) → is_hex_of t ≡ true → is_hex_of (drop i t) ≡ true
hex_drop t zero e = e
hex_drop [] (suc i) e = e
hex_drop (b ∷ t) (suc i) e = hex_drop t i (hex_tail b t e)

pub digit_at_lt : (t : List ℕ) (i : ℕ) → is_hex_of t ≡ true → digit_at_of t i < 16
unfolding digit_at_of
digit_at_lt t i e = go (ltb i (length t)) refl
  where
    go : (b : Bool) → ltb i (length t) ≡ b → cond (ltb i (length t)) (digit_of (get_or t i 0)) 0 < 16
    go true q = rw q (hex_here t i (ltb-true _ _ q) (hex_drop t i e))
    go false q = rw q (omega arith)

-- ---- all digits of a text

pub hex_all : (t : List ℕ) → list_all (λ b. ltb (digit_of b) 16) t ≡ is_hex_of t
unfolding is_hex_of
hex_all [] = refl
hex_all (b ∷ t) = go (ltb (digit_of b) 16) (hex_all t)
  where
    go : (x : Bool) → list_all (λ b. ltb (digit_of b) 16) t ≡ is_hex_of t → (x && list_all (λ b. ltb (digit_of b) 16) t) ≡ cond x (is_hex_of t) false
    go true i = i
    go false i = refl

-- ---- a decimal digit more

module _ (t : List ℕ) (i : ℕ) (h : i < length t) where
  pub dec_again : (z : Bool) → digit_of (get_or t i 0) < 10 → is_decimal (drop i t) ≡ z → is_decimal (drop (i + 1) t) ≡ z
  unfolding is_decimal
  dec_again z q e = let e2 = rw (drop-cons t i 0 h) at e in rw add-one (simp (lt-ltb _ _ q) at e2)

  pub dec_stop : (z : Bool) → 10 ≤ digit_of (get_or t i 0) → is_decimal (drop i t) ≡ z → z ≡ false
  unfolding is_decimal
  dec_stop z q e = let e2 = rw (drop-cons t i 0 h) at e in sym (simp (le-ltb _ _ q) at e2)

  pub from_again : (v w : ℕ) → decimal_from v (drop i t) ≡ w → decimal_from (v * 10 + digit_of (get_or t i 0)) (drop (i + 1) t) ≡ w
  unfolding decimal_from
  from_again v w e = let e2 = rw (drop-cons t i 0 h) at e in rw (add-one i) e2

pub from_grows : (v : ℕ) (t : List ℕ) → v ≤ decimal_from v t
unfolding decimal_from
from_grows v [] = omega arith
from_grows v (b ∷ t) = let g = from_grows (v * 10 + digit_of b) t in omega arith

pub dec_end : (t : List ℕ) (i : ℕ) (z : Bool) → length t ≤ i → is_decimal (drop i t) ≡ z → z ≡ true
unfolding is_decimal
dec_end t i z h e = let e2 = rw (drop_of_length-le t h) at e in sym e2

pub from_end : (t : List ℕ) (i v w : ℕ) → length t ≤ i → decimal_from v (drop i t) ≡ w → v ≡ w
unfolding decimal_from
from_end t i v w h e = rw (drop_of_length-le t h) at e

-- ---- each answer of `read_whole`

module _ (t : List ℕ) where
  pub whole_none : eqb (length t) 0 ≡ true → None ≡ read_whole_of t
  unfolding read_whole_of
  whole_none e = simp e

  module _ (n : eqb (length t) 0 ≡ false) where
    pub whole-led : is_led_by_zero_of t ≡ true → None ≡ read_whole_of t
    unfolding read_whole_of
    whole-led l = simp (n, l)

    module _ (l : is_led_by_zero_of t ≡ false) where
      pub whole-bad : is_decimal t ≡ false → None ≡ read_whole_of t
      unfolding read_whole_of
      whole-bad e = simp (n, l, e)

      pub whole-big : 2 ^ 32 ≤ decimal_from 0 t → None ≡ read_whole_of t
      unfolding read_whole_of
      whole-big e = simp (n, l, le-ltb _ _ e) (same (is_decimal t))
        where
          same : (b : Bool) → ◌≡◌ {A = Option ℕ} None (cond b None None)
          same true = refl
          same false = refl

      pub whole_is : (v : ℕ) → is_decimal t ≡ true → v ≡ decimal_from 0 t → v < 2 ^ 32 → Some v ≡ read_whole_of t
      unfolding read_whole_of
      whole_is v e w b = let b2 : decimal_from 0 t < 2 ^ 32 = rw w at b in simp (n, l, e, lt-ltb _ _ b2, w)
