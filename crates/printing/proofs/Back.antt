-- Reading what was printed gives the number back. Assumes nothing.
use Rattle.std.specs.Prelude.{Some}
use Prim.Native.Nat.{ℕ, zero, suc, ◌+◌, ◌-◌, ◌*◌, ◌/◌, ◌%◌, ◌^◌, ◌≤◌, ◌<◌}
use mathlib.Core.Path.{◌≡◌, refl, sym, ap, ◌∙◌, subst}
use mathlib.Core.List.{List, [], ◌∷◌, ◌++◌}
use mathlib.Core.Bool.{Bool, true, false, cond}
use native.Mathlib.Nat.{pow-suc, pow-le-pow_right, add-mul, mul_assoc, mul_comm, div-add-mod', mod-lt, div-lt_iff_lt-mul, mul-lt-mul_of_pos_right, le-div_iff_mul-le, mod-eq_of_lt, mul-pos, mul-one, lt_irrefl, lt_of_lt_of_le}
use native.Mathlib.Omega.{arith}
use lib.Arith.{digits_div, digits_mod}
use lib.Pow.{pow-add}
use lib.Dec.{T, ltb, leb, eqb}
use lib.ListN.{length, get_or, length-append, get_or-append}
use borrow.Author.Tests.{lt-ltb, le-ltb, ne_eqb, ltb-true, ltb-false, eqb-true, leb-true, leb-false}
use lib.Ieee.{Float, binary64, of_bits, to_bits, fits}
use lib.Ieee.Bits.{of_bits-to_bits, to_bits-lt}
use Rattle.io.specs.Digits.{last_digits as digits, IsDigitCount}
use Rattle.fields.specs.Number.{digit_of, is_hex_of, hex_pad_of, read_bits_of, is_decimal, decimal_from, is_led_by_zero_of, read_whole_of}
use Rattle.printing.specs.Printing.{glyph_of, hex_text, double_text, decimal_text}

pub digit_glyph : (d : ℕ) → d < 16 → digit_of (glyph_of d) ≡ d
unfolding digit_of glyph_of
digit_glyph d h = go (ltb d 10) refl
  where
    go : (t : Bool) → ltb d 10 ≡ t → digit_of (cond (ltb d 10) (48 + d) (87 + d)) ≡ d
    go true q =
        let a : d < 10 = ltb-true _ _ q in
        let b : 48 ≤ 48 + d = omega arith in
        let c : 48 + d < 58 = omega arith in
        let e : 48 + d - 48 ≡ d = omega arith in
        simp (q, le-ltb _ _ b, lt-ltb _ _ c, e)
    go false q =
        let a : 10 ≤ d = ltb-false _ _ q in
        let b : 48 ≤ 87 + d = omega arith in
        let c : 58 ≤ 87 + d = omega arith in
        let c2 : 97 ≤ 87 + d = omega arith in
        let c3 : 87 + d < 103 = omega arith in
        let e : 87 + d - 87 ≡ d = omega arith in
        simp (q, le-ltb _ _ b, le-ltb _ _ c, le-ltb _ _ c2, lt-ltb _ _ c3, e)

pad_nil : (v k : ℕ) → hex_pad_of v k [] ≡ v * 16 ^ k
unfolding hex_pad_of
pad_nil v zero = omega arith
pad_nil v (suc k) = pad_nil (v * 16) k ∙ mul_assoc v 16 (16 ^ k) ∙ ap (λ (n : ℕ). v * n) (mul_comm 16 (16 ^ k) ∙ sym (pow-suc 16 k))

pow_pos16 : (k : ℕ) → 0 < 16 ^ k
pow_pos16 zero = omega arith
pow_pos16 (suc k) = let h = pow_pos16 k in rw (pow-suc 16 k) (omega arith)

-- s * P with s = a * Q + b
shifted : (s Q P : ℕ) → s * P ≡ s / Q * (Q * P) + s % Q * P
shifted s Q P = sym (ap (λ (n : ℕ). n * P) (div-add-mod' s Q)) ∙ add-mul (s / Q * Q) (s % Q) P ∙ ap (λ (n : ℕ). n + s % Q * P) (mul_assoc (s / Q) Q P)

module _ (s Q P : ℕ) (q : 0 < Q) (p : 0 < P) (w : Q * P ≡ 2 ^ 60) where
  below : s % Q * P < Q * P
  below = mul-lt-mul_of_pos_right (mod-lt s q) p

  lead_is : s * P / 2 ^ 60 ≡ s / Q
  lead_is = rw (← w, shifted s Q P) (digits_div (s / Q) below)

  left_is : s * P % 2 ^ 60 ≡ s % Q * P
  left_is = rw (← w, shifted s Q P) (digits_mod (s / Q) below)

zero_of : (a P : ℕ) → 0 < P → a * P ≡ 0 → a ≡ 0
zero_of zero P p e = refl
zero_of (suc a) P p e = absurd (lt_irrefl 0 (subst (λ (n : ℕ). 0 < n) e (mul-pos (omega arith) p)))

gathered : (v s Q : ℕ) → (v * 16 + s / Q) * Q + s % Q ≡ v * (Q * 16) + s
gathered v s Q =
    let a = add-mul (v * 16) (s / Q) Q in
    let b = mul_assoc v 16 Q in
    let c = ap (λ (n : ℕ). v * n) (mul_comm 16 Q) in
    let d = div-add-mod' s Q in
    omega arith

pub hex_back : (k m v s : ℕ) → k + m ≡ 16 → s < 16 ^ k → hex_pad_of v k (hex_text k (s * 16 ^ m)) ≡ v * 16 ^ k + s
unfolding hex_pad_of hex_text
hex_back zero m v s e h = omega arith
hex_back (suc k) m v s e h =
    let Q = 16 ^ k in
    let P = 16 ^ m in
    let q : 0 < Q = pow_pos16 k in
    let p : 0 < P = pow_pos16 m in
    let f : k + m ≡ 15 = omega arith in
    let w : Q * P ≡ 2 ^ 60 = sym (pow-add 16 k m) ∙ ap (λ (n : ℕ). 16 ^ n) f in
    let ih = hex_back k (suc m) (v * 16 + s / Q) (s % Q) (omega arith) (mod-lt s q) in
    let h2 : s < 16 * Q = rw (mul_comm 16 Q) (rw (pow-suc 16 k) at h) in
    let lead : digit_of (glyph_of (s / Q)) ≡ s / Q = digit_glyph (s / Q) ((div-lt_iff_lt-mul q).1 h2) in
    rw (lead_is s Q P q p w, left_is s Q P q p w, lead, pow-suc 16 k) (go k m v s Q P p refl ih ∙ gathered v s Q)
  where
    go : (k m v s Q P : ℕ) → 0 < P → P ≡ 16 ^ m → hex_pad_of (v * 16 + s / Q) k (hex_text k (s % Q * 16 ^ suc m)) ≡ (v * 16 + s / Q) * 16 ^ k + s % Q → hex_pad_of (v * 16 + s / Q) k (cond (eqb (s % Q * P) 0) [] (hex_text k (s % Q * P * 16))) ≡ (v * 16 + s / Q) * 16 ^ k + s % Q
    go k m v s Q P p w ih = on (eqb (s % Q * P) 0) refl
      where
        on : (t : Bool) → eqb (s % Q * P) 0 ≡ t → hex_pad_of (v * 16 + s / Q) k (cond t [] (hex_text k (s % Q * P * 16))) ≡ (v * 16 + s / Q) * 16 ^ k + s % Q
        on true z =
            let y : s % Q ≡ 0 = zero_of (s % Q) P p (eqb-true _ _ z) in
            pad_nil (v * 16 + s / Q) k ∙ omega arith
        on false z =
            let y : s % Q * P * 16 ≡ s % Q * 16 ^ suc m = mul_assoc (s % Q) P 16 ∙ ap (λ (n : ℕ). s % Q * n) (ap (λ (n : ℕ). n * 16) w ∙ sym (pow-suc 16 m)) in
            rw y ih

hex_all : (k r : ℕ) → r < 2 ^ 64 → is_hex_of (hex_text k r) ≡ true
unfolding is_hex_of hex_text
hex_all zero r h = refl
hex_all (suc k) r h =
    let d : r / 2 ^ 60 < 16 = omega arith in
    let l : digit_of (glyph_of (r / 2 ^ 60)) < 16 = rw (digit_glyph (r / 2 ^ 60) d) d in
    simp (lt-ltb _ _ l) (on (eqb (r % 2 ^ 60) 0) (hex_all k (r % 2 ^ 60 * 16) (omega arith)))
  where
    on : (t : Bool) → is_hex_of (hex_text k (r % 2 ^ 60 * 16)) ≡ true → is_hex_of (cond t [] (hex_text k (r % 2 ^ 60 * 16))) ≡ true
    on true ih = refl
    on false ih = ih

pub hex_short : (k r : ℕ) → length (hex_text k r) ≤ k
unfolding hex_text
hex_short zero r = omega arith
hex_short (suc k) r = let h = on (eqb (r % 2 ^ 60) 0) (hex_short k (r % 2 ^ 60 * 16)) in omega arith
  where
    on : (t : Bool) → length (hex_text k (r % 2 ^ 60 * 16)) ≤ k → length (cond t [] (hex_text k (r % 2 ^ 60 * 16))) ≤ k
    on true ih = omega arith
    on false ih = ih

some_digit : (k r : ℕ) → length (hex_text (suc k) r) ≡ 0 → ⊥
unfolding hex_text
some_digit k r e = omega arith

-- bits that are printed and read are the bits themselves
pub bits_back : (b : ℕ) → b < 2 ^ 64 → read_bits_of (hex_text 16 b) ≡ Some b
unfolding read_bits_of
bits_back b h =
    let one : b * 16 ^ 0 ≡ b = mul-one b in
    let v : hex_pad_of 0 16 (hex_text 16 b) ≡ b = subst (λ (n : ℕ). hex_pad_of 0 16 (hex_text 16 n) ≡ b) one (hex_back 16 0 0 b refl h ∙ omega arith) in
    simp (ne_eqb _ _ (some_digit 15 b), le-ltb _ _ (hex_short 16 b), hex_all 16 b h, v)

-- A double that is printed and read is the double itself. Every NaN is the one `nan`.
pub double_back : (x : Float) → T (fits binary64 x) → (read_bits_of (double_text x) ≡ Some (to_bits binary64 x)) × (of_bits binary64 (to_bits binary64 x) ≡ x)
unfolding double_text
double_back x f = (bits_back (to_bits binary64 x) (to_bits-lt binary64 x f), of_bits-to_bits binary64 x f)

-- ---- decimals

from_snoc : (v : ℕ) (t : List ℕ) (b : ℕ) → decimal_from v (t ++ (b ∷ [])) ≡ decimal_from v t * 10 + digit_of b
unfolding decimal_from
from_snoc v [] b = refl
from_snoc v (x ∷ t) b = from_snoc (v * 10 + digit_of x) t b

decimal_snoc : (t : List ℕ) (b : ℕ) → is_decimal t ≡ true → digit_of b < 10 → is_decimal (t ++ (b ∷ [])) ≡ true
unfolding is_decimal
decimal_snoc [] b e h = simp (lt-ltb _ _ h)
decimal_snoc (x ∷ t) b e h = go (ltb (digit_of x) 10) e (decimal_snoc t b)
  where
    go : (c : Bool) → cond c (is_decimal t) false ≡ true → (is_decimal t ≡ true → digit_of b < 10 → is_decimal (t ++ (b ∷ [])) ≡ true) → cond c (is_decimal (t ++ (b ∷ []))) false ≡ true
    go true e ih = ih e h
    go false e ih = e

-- what `decimal_text` is of n: a last digit, or more before it
pub decimal_small : (k n : ℕ) → n < 10 → decimal_text (suc k) n ≡ glyph_of n ∷ []
unfolding decimal_text
decimal_small k n h = simp (lt-ltb _ _ h)

pub decimal_more : (k n : ℕ) → 10 ≤ n → decimal_text (suc k) n ≡ decimal_text k (n / 10) ++ (glyph_of (n % 10) ∷ [])
unfolding decimal_text
decimal_more k n h = simp (le-ltb _ _ h)

record Reads (t : List ℕ) (n : ℕ) : Type 0 where
  digits : is_decimal t ≡ true
  value : decimal_from 0 t ≡ n
  some : 0 < length t
  head : 0 < n → get_or t 0 0 ≡ 48 → ⊥

digit_one : (n : ℕ) → n < 10 → digit_of (glyph_of n) ≡ n
digit_one n h = digit_glyph n (omega arith)

one : (n : ℕ) → n < 10 → Reads (glyph_of n ∷ []) n
unfolding is_decimal decimal_from glyph_of
one n h =
    let d : digit_of (cond (ltb n 10) (48 + n) (87 + n)) ≡ n = digit_one n h in
    let l : digit_of (cond (ltb n 10) (48 + n) (87 + n)) < 10 = rw d h in
    record {
      digits = simp (lt-ltb _ _ l);
      value = rw d (omega arith);
      some = omega arith;
      head = λ p e. let e2 : 48 + n ≡ 48 = simp (lt-ltb _ _ h) at e in omega arith;
    }

more : (t : List ℕ) (n : ℕ) → 10 ≤ n → Reads t (n / 10) → Reads (t ++ (glyph_of (n % 10) ∷ [])) n
more t n h r =
    let d : digit_of (glyph_of (n % 10)) ≡ n % 10 = digit_one (n % 10) (omega arith) in
    let l : digit_of (glyph_of (n % 10)) < 10 = rw d (omega arith) in
    let v = r.value in
    let s = r.some in
    record {
      digits = decimal_snoc t (glyph_of (n % 10)) r.digits l;
      value = rw (from_snoc 0 t (glyph_of (n % 10)), d) (omega arith);
      some = rw (length-append t (glyph_of (n % 10) ∷ [])) (omega arith);
      head = λ p. rw (get_or-append t (glyph_of (n % 10) ∷ []) 0 0 s) (r.head (omega arith));
    }

decimal_back : (k n : ℕ) → n < 10 ^ suc k → Reads (decimal_text (suc k) n) n
decimal_back zero n h = rw (decimal_small zero n (omega arith)) (one n (omega arith))
decimal_back (suc k) n h =
    let m : n / 10 < 10 ^ suc k = (div-lt_iff_lt-mul {k = 10} (omega arith)).1 (rw (pow-suc 10 (suc k)) at h) in
    go (ltb n 10) refl (decimal_back k (n / 10) m)
  where
    go : (c : Bool) → ltb n 10 ≡ c → Reads (decimal_text (suc k) (n / 10)) (n / 10) → Reads (decimal_text (suc (suc k)) n) n
    go true q r = let a : n < 10 = ltb-true _ _ q in rw (decimal_small (suc k) n a) (one n a)
    go false q r = let a : 10 ≤ n = ltb-false _ _ q in rw (decimal_more (suc k) n a) (more _ n a r)

not_led : (t : List ℕ) (n : ℕ) → Reads t n → (1 < length t → 0 < n) → is_led_by_zero_of t ≡ false
unfolding is_led_by_zero_of
not_led t n r g = go (ltb (length t) 2) refl
  where
    go : (c : Bool) → ltb (length t) 2 ≡ c → cond (ltb (length t) 2) false (eqb (get_or t 0 0) 48) ≡ false
    go true q = simp q
    go false q = let a : 2 ≤ length t = ltb-false _ _ q in simp q (ne_eqb _ _ (r.head (g (omega arith))))

long_some : (k n : ℕ) → 1 < length (decimal_text (suc k) n) → 0 < n
long_some k n h = go (ltb n 10) refl
  where
    go : (c : Bool) → ltb n 10 ≡ c → 0 < n
    go true q = let a : n < 10 = ltb-true _ _ q in let b : 1 < length (glyph_of n ∷ []) = rw (decimal_small k n a) at h in omega arith
    go false q = let a : 10 ≤ n = ltb-false _ _ q in omega arith

-- A whole number below 2 ^ 32 that is printed and read is the number itself.
pub whole_back : (n : ℕ) → n < 2 ^ 32 → read_whole_of (decimal_text 20 n) ≡ Some n
unfolding read_whole_of
whole_back n h =
    let g : n < 10 ^ 20 = omega arith in
    let r = decimal_back 19 n g in
    let some = r.some in
    let ne : length (decimal_text 20 n) ≡ 0 → ⊥ = λ e. lt_irrefl 0 (subst (λ (m : ℕ). 0 < m) e some) in
    simp (ne_eqb _ _ ne, not_led _ n r (long_some 19 n), r.digits, r.value, lt-ltb _ _ h)

-- ---- the digits that `io::decimal` writes

pow_pos10 : (k : ℕ) → 0 < 10 ^ k
pow_pos10 zero = omega arith
pow_pos10 (suc k) = let h = pow_pos10 k in rw (pow-suc 10 k) (omega arith)

pub digits_are : (f k n : ℕ) → k ≤ f → IsDigitCount 10 1 n k → digits 10 k n ≡ decimal_text f n
unfolding glyph_of
digits_are f zero n h w = absurd (lt_irrefl 0 w.0)
digits_are zero (suc k) n h w = absurd (lt_irrefl 0 (lt_of_lt_of_le (omega arith) h))
digits_are (suc f) (suc zero) n h w =
    let a : n < 10 = w.1 in
    let m : n % 10 ≡ n = mod-eq_of_lt a in
    sym (decimal_small f n a ∙ rw m)
digits_are (suc f) (suc (suc k)) n h w =
    let o : suc (suc k) - 1 ≡ suc k = omega arith in
    let o2 : suc k - 1 ≡ k = omega arith in
    let b : 10 ^ suc k ≤ n = rw o at (w.2 (omega arith)) in
    let p : 0 < 10 ^ k = pow_pos10 k in
    let a : 10 ≤ n = let c = rw (pow-suc 10 k) at b in omega arith in
    let up : n / 10 < 10 ^ suc k = (div-lt_iff_lt-mul {k = 10} (omega arith)).1 (rw (pow-suc 10 (suc k)) at w.1) in
    let low : 10 ^ k ≤ n / 10 = (le-div_iff_mul-le {k = 10} (omega arith)).1 (rw (pow-suc 10 k) at b) in
    let ih = digits_are f (suc k) (n / 10) (omega arith) (omega arith, up, λ _. rw o2 low) in
    sym (decimal_more f n a ∙ rw (← ih))

pub few_digits : (k n : ℕ) → n < 2 ^ 64 → IsDigitCount 10 1 n k → k ≤ 20
few_digits k n h w = go (leb k 20) refl
  where
    go : (c : Bool) → leb k 20 ≡ c → k ≤ 20
    go true q = leb-true _ _ q
    go false q =
        let a : 20 < k = leb-false _ _ q in
        let b : 10 ^ (k - 1) ≤ n = w.2 (omega arith) in
        let e : 20 ≤ k - 1 = omega arith in
        let p : 0 < 10 = omega arith in
        let d : 10 ^ 20 ≤ 10 ^ (k - 1) = pow-le-pow_right p e in
        absurd (over (10 ^ (k - 1)) n d b h)
      where
        over : (x n : ℕ) → 10 ^ 20 ≤ x → x ≤ n → n < 2 ^ 64 → ⊥
        over x n d b h = omega arith

-- ---- how long a number is

pub decimal_short : (k n : ℕ) → length (decimal_text k n) ≤ k
unfolding decimal_text
decimal_short zero n = omega arith
decimal_short (suc k) n = go (ltb n 10) (decimal_short k (n / 10))
  where
    go : (c : Bool) → length (decimal_text k (n / 10)) ≤ k → length (cond c (glyph_of n ∷ []) (decimal_text k (n / 10) ++ (glyph_of (n % 10) ∷ []))) ≤ suc k
    go true h = omega arith
    go false h = rw (length-append (decimal_text k (n / 10)) (glyph_of (n % 10) ∷ [])) (omega arith)
