-- How long printed numbers and lines of them are at most. Assumes nothing.
use Prim.Native.Nat.{ℕ, zero, suc, ◌+◌, ◌*◌, ◌/◌, ◌%◌, ◌^◌, ◌≤◌, ◌<◌}
use mathlib.Core.List.{List, [], ◌∷◌, ◌++◌}
use mathlib.Core.Bool.{Bool, true, false, cond}
use native.Mathlib.Nat.{pow-suc, div-lt_iff_lt-mul}
use native.Mathlib.Omega.{arith}
use lib.Dec.{ltb, eqb}
use lib.Ieee.{Float, binary64, to_bits}
use lib.ListN.{length, length-append}
use Rattle.printing.specs.Printing.{glyph_of, double_text, decimal_text}
use Rattle.printing.specs.Rows.{spaced, wholes_text, doubles_text, row_text}
use Rattle.printing.proofs.Back.{hex_short, decimal_short, decimal_small}

pub double_short : (x : Float) → length (double_text x) ≤ 16
unfolding double_text
double_short x = hex_short 16 (to_bits binary64 x)

-- a number below a power of ten has no more digits than that power has zeros
pub decimal_few : (k j n : ℕ) → n < 10 ^ suc j → length (decimal_text k n) ≤ suc j
unfolding decimal_text
decimal_few zero j n h = omega arith
decimal_few (suc k) zero n h = let a : n < 10 = omega arith in rw (decimal_small k n a) (omega arith)
decimal_few (suc k) (suc j) n h =
    let m : n / 10 < 10 ^ suc j = (div-lt_iff_lt-mul {k = 10} (omega arith)).1 (rw (pow-suc 10 (suc j)) at h) in
    go (ltb n 10) (decimal_few k j (n / 10) m)
  where
    go : (c : Bool) → length (decimal_text k (n / 10)) ≤ suc j → length (cond c (glyph_of n ∷ []) (decimal_text k (n / 10) ++ (glyph_of (n % 10) ∷ []))) ≤ suc (suc j)
    go true i = omega arith
    go false i = rw (length-append (decimal_text k (n / 10)) (glyph_of (n % 10) ∷ [])) (omega arith)

-- ---- lines

module _ {A : Type 0} (text : A → List ℕ) (k : ℕ) (short : (x : A) → length (text x) ≤ k) where
  spaced_short : (l : List A) (last : ℕ) → length (spaced text l last) ≤ length l * suc k
  unfolding spaced
  spaced_short [] last = omega arith
  spaced_short (x ∷ []) last = rw (length-append (text x) (last ∷ [])) (omega (arith, short x))
  spaced_short (x ∷ y ∷ l) last =
      let h = spaced_short (y ∷ l) last in
      rw (length-append (text x) (32 ∷ spaced text (y ∷ l) last)) (omega (arith, short x))

wholes_short : (ws : List ℕ) (last : ℕ) → length (wholes_text ws last) ≤ length ws * 21
unfolding wholes_text
wholes_short = spaced_short (decimal_text 20) 20 (decimal_short 20)

doubles_short : (ds : List Float) (last : ℕ) → length (doubles_text ds last) ≤ length ds * 17
unfolding doubles_text
doubles_short = spaced_short double_text 16 double_short

pub row_short : (ws : List ℕ) (ds : List Float) → length (row_text ws ds) ≤ length ws * 21 + length ds * 17
unfolding row_text
row_short ws ds = go (eqb (length ds) 0)
  where
    go : (b : Bool) → length (cond b (wholes_text ws 10) (wholes_text ws 32 ++ doubles_text ds 10)) ≤ length ws * 21 + length ds * 17
    go true = omega (arith, wholes_short ws 10)
    go false = rw (length-append (wholes_text ws 32) (doubles_text ds 10)) (omega (arith, wholes_short ws 32, doubles_short ds 10))

-- three whole numbers of i, j and k digits, and a double
pub three_short : (a b c : ℕ) (x : Float) (i j k : ℕ) → length (decimal_text 20 a) ≤ i → length (decimal_text 20 b) ≤ j → length (decimal_text 20 c) ≤ k
    → length (row_text (a ∷ b ∷ c ∷ []) (x ∷ [])) ≤ i + j + k + 20
unfolding row_text wholes_text doubles_text spaced
three_short a b c x i j k p q r = let s = double_short x in simp length-append (omega arith)
