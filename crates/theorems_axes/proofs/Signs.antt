-- Sizes with signs: what is nearly equal stays so when all signs in it are turned, and when it is multiplied. A flip of
-- signs swaps the two numbers of a size (`plus` and `minus`), so one case split on the flip does where the signs
-- themselves would take sixteen cases. Assumes nothing.
use Prim.Native.Nat.{ℕ, ◌+◌, ◌*◌, ◌≤◌, zero-le}
use native.Mathlib.Nat.{le_refl}
use native.Mathlib.Omega.{arith}
use mathlib.Core.Path.{◌≡◌, refl, ap}
use mathlib.Core.Bool.{Bool, true, false, cond}
use lib.Ieee.{unlike}
use Rattle.theorems_axes.specs.Axes.{Within}
use Rattle.theorems_axes.proofs.Words.{plus, minus}

-- ---- one size with a sign

pub plus_most : (s : Bool) (x : ℕ) → plus s x ≤ x
plus_most true x = zero-le
plus_most false x = le_refl x

pub minus_most : (s : Bool) (x : ℕ) → minus s x ≤ x
minus_most true x = le_refl x
minus_most false x = zero-le

-- a sign goes into both sides of a product that is nearly another
pub signed : (s : Bool) (k p l n u : ℕ) → Within k (p * l) (n * u) → Within k (plus s p * l) (n * plus s u) × Within k (minus s p * l) (n * minus s u)
signed true k p l n u w = (omega arith, w)
signed false k p l n u w = (w, omega arith)

-- ---- signs turned

-- a and b swapped if g says so
abbrev pub Turned : Bool → ℕ → ℕ → ℕ → ℕ → Type 0
Turned g a b a' b' = (a' ≡ cond g b a) × (b' ≡ cond g a b)

pub turned : (g s : Bool) (x : ℕ) → Turned g (plus s x) (minus s x) (plus (unlike s g) x) (minus (unlike s g) x)
turned true true x = (refl, refl)
turned true false x = (refl, refl)
turned false true x = (refl, refl)
turned false false x = (refl, refl)

pub times : (g : Bool) (n a b a' b' : ℕ) → Turned g a b a' b' → Turned g (n * a) (n * b) (n * a') (n * b')
times true n a b a' b' h = (ap (λ (x : ℕ). n * x) h.0, ap (λ (x : ℕ). n * x) h.1)
times false n a b a' b' h = (ap (λ (x : ℕ). n * x) h.0, ap (λ (x : ℕ). n * x) h.1)

pub turned_times : (g s : Bool) (n x : ℕ) → Turned g (n * plus s x) (n * minus s x) (n * plus (unlike s g) x) (n * minus (unlike s g) x)
turned_times g s n x = times g n (plus s x) (minus s x) (plus (unlike s g) x) (minus (unlike s g) x) (turned g s x)

-- a sum, relative to its own sign
pub sum_turned : (g : Bool) (k l c a1 b1 a2 b2 a3 b3 x1 y1 x2 y2 x3 y3 : ℕ)
    → Turned g a1 b1 x1 y1 → Turned g a2 b2 x2 y2 → Turned g a3 b3 x3 y3
    → Within k (plus g c * l + b1 + b2 + b3) (minus g c * l + a1 + a2 + a3) → Within k (x1 + x2 + x3) (y1 + y2 + y3 + c * l)
sum_turned true k l c a1 b1 a2 b2 a3 b3 x1 y1 x2 y2 x3 y3 p q r w = omega arith
sum_turned false k l c a1 b1 a2 b2 a3 b3 x1 y1 x2 y2 x3 y3 p q r w = omega arith

-- a difference, relative to the sign of what is taken away
pub difference_turned : (g : Bool) (e p a b c d a' b' c' d' : ℕ) → Turned g a b a' b' → Turned g c d c' d'
    → Within e (a + d + plus g p) (b + c + minus g p) → Within e (a' + d' + p) (b' + c')
difference_turned true e p a b c d a' b' c' d' h k w = omega arith
difference_turned false e p a b c d a' b' c' d' h k w = omega arith

-- two sizes turned back together
pub both_turned : (g : Bool) (k a b c d a' b' c' d' : ℕ) → Turned g a b a' b' → Turned g c d c' d' → Within k (b' + c') (a' + d') → Within k (b + c) (a + d)
both_turned true k a b c d a' b' c' d' p q w = omega arith
both_turned false k a b c d a' b' c' d' p q w = omega arith

-- ---- products of signs

pub regroup : (n u g : Bool) → unlike u (unlike n g) ≡ unlike (unlike n u) g
regroup true true true = refl
regroup true true false = refl
regroup true false true = refl
regroup true false false = refl
regroup false true true = refl
regroup false true false = refl
regroup false false true = refl
regroup false false false = refl

-- by way of k
pub through : (a k n : Bool) → unlike (unlike a k) (unlike k n) ≡ unlike a n
through true true true = refl
through true true false = refl
through true false true = refl
through true false false = refl
through false true true = refl
through false true false = refl
through false false true = refl
through false false false = refl

pub exchange : (n g m : Bool) → unlike (unlike m g) n ≡ unlike (unlike n g) m
exchange true true true = refl
exchange true true false = refl
exchange true false true = refl
exchange true false false = refl
exchange false true true = refl
exchange false true false = refl
exchange false false true = refl
exchange false false false = refl
