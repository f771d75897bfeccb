-- Signs of doubles: of products, quotients, differences and the values that are at most 0. Assumes nothing.
use Prim.Native.Nat.{ℕ, zero, suc, ◌+◌, ◌-◌, ◌*◌, ◌%◌, ◌^◌, ◌≤◌, ◌<◌, zero-le}
use native.Mathlib.Nat.{zero-mul, mul-one, one-mul, mul-pos, mul_comm, zero-lt-suc, le_trans, le_of_eq, le_of_lt}
use native.Mathlib.Omega.{arith}
use mathlib.Core.Path.{◌≡◌, refl, sym, ap, ◌∙◌, subst}
use mathlib.Core.Bool.{Bool, true, false, not, cond, ◌&&◌, ◌||◌, beq}
use lib.Dec.{T, leb, ltb, eqb, ltb→lt, lt→ltb}
use borrow.Author.Tests.{ne_eqb, le-ltb}
use lib.Pow.{pow_pos}
use lib.IntN.{ℤ, negsuc}
use lib.Ieee.{Float, nan, inf, fin, binary64, up, down, odd, units, round, sum, add, sub, mul, div, neg, lt, le, eq, of_bits, fits, is_nan}
use lib.Ieee.Bits.{is_true}
use lib.Ieee.Fits.{up_pos, down_pos, round_is, and_r}
use lib.Ieee.Order.{round_mono}
use lib.Ieee.Positive.{positive, between}
use Rattle.doubles.proofs.Floats.{clash}
use Rattle.doubles.specs.Doubles.{abs_of, is_finite_of, #0, #1}
use Rattle.geometry.specs.Hits.{parallel}
use Rattle.rays.specs.Rays.{min_local_distance}
use Rattle.doubles.proofs.Small.{abs_odd}

-- 1e-9 as a fraction
pub near_is : min_local_distance ≡ fin false 0x112e0be826d695 (negsuc 81)
unfolding of_bits
near_is = refl

-- a number of the sign s, true for negative; a zero has its sign too
abbrev pub Signed : Bool → Float → Type 0
Signed s nan = ⊥
Signed s (inf t) = t ≡ s
Signed s (fin t m e) = t ≡ s

-- a number that is at most 0
abbrev pub under : Float → Bool
under nan = false
under (inf s) = s
under (fin true m e) = true
under (fin false zero e) = true
under (fin false (suc m) e) = false

clash' : {b : Bool} → b ≡ true → b ≡ false → ⊥
clash' p q = clash (sym p ∙ q)

-- ---- rounding

odd_signed : (d : ℕ) (s : Bool) (q k l : ℕ) → Signed s (odd d s q k l)
unfolding odd
odd_signed d s zero k l = refl
odd_signed d s (suc q) k l = refl

units_signed : (s : Bool) (q k : ℕ) → Signed s (units binary64 s q k)
unfolding units
units_signed s q k = go (ltb (q * 2 ^ k) (2 ^ (1074 + 1024)))
  where
    go : (b : Bool) → Signed s (cond b (odd 54 s q k 1074) (inf s))
    go true = odd_signed 54 s q k 1074
    go false = refl

pub round_signed : (s : Bool) (a c : ℕ) → Signed s (round binary64 s a c)
round_signed s a c = subst (Signed s) (sym (round_is binary64 s a c)) (units_signed s _ _)

abs_units : (s : Bool) (q k : ℕ) → abs_of (units binary64 s q k) ≡ units binary64 false q k
unfolding units abs_of
abs_units s q k = go (ltb (q * 2 ^ k) (2 ^ (1074 + 1024)))
  where
    go : (b : Bool) → abs_of (cond b (odd 54 s q k 1074) (inf s)) ≡ cond b (odd 54 false q k 1074) (inf false)
    go true = abs_odd 54 s q k 1074
    go false = refl

pub abs_round : (s : Bool) (a c : ℕ) → abs_of (round binary64 s a c) ≡ round binary64 false a c
abs_round s a c = ap abs_of (round_is binary64 s a c) ∙ abs_units s _ _ ∙ sym (round_is binary64 false a c)

-- ---- at most 0

pub signed_under : (x : Float) → Signed true x → T (under x)
signed_under nan h = absurd h
signed_under (inf s) h = subst T (sym h) tt
signed_under (fin true m e) h = tt
signed_under (fin false m e) h = absurd (clash (sym h))

some_more : (a b : ℕ) → 0 < b → ltb 0 (a + b) ≡ true
some_more a b h = is_true (ltb 0 (a + b)) (lt→ltb 0 (a + b) (more a b h))
  where
    more : (a b : ℕ) → 0 < b → 0 < a + b
    more a b h = omega arith

some_above : (a b c : ℕ) → 0 < c → ltb (0 * a * b) c ≡ true
some_above a b c h = ap (λ (n : ℕ). ltb (n * b) c) (zero-mul a) ∙ ap (λ (n : ℕ). ltb n c) (zero-mul b) ∙ is_true (ltb 0 c) (lt→ltb 0 c h)

pub nothing_below : (a b c : ℕ) → ltb a (0 * b * c) ≡ false
nothing_below a b c = ap (λ (n : ℕ). ltb a (n * c)) (zero-mul b) ∙ ap (λ (n : ℕ). ltb a n) (zero-mul c) ∙ le-ltb a 0 zero-le

or_left : (a b : Bool) → a ≡ true → (a || b) ≡ true
or_left true b e = refl
or_left false b e = absurd (clash (sym e))

-- at most any value above 0
pub under_le : (x : Float) (m : ℕ) (e : ℤ) → 0 < m → T (under x) → le x (fin false m e) ≡ true
unfolding le lt eq
under_le nan m e p h = absurd h
under_le (inf true) m e p h = refl
under_le (inf false) m e p h = absurd h
under_le (fin true n d) m e p h = or_left _ _ (some_more (n * up d * down e) (m * up e * down d) (mul-pos (mul-pos p (up_pos e)) (down_pos d)))
under_le (fin false zero d) m e p h = or_left _ _ (some_above (up d) (down e) (m * up e * down d) (mul-pos (mul-pos p (up_pos e)) (down_pos d)))
under_le (fin false (suc n) d) m e p h = absurd h

-- what lies below is under too
pub below_under : (t x : Float) → lt t x ≡ true → T (under x) → T (under t)
unfolding lt
below_under nan x e h = absurd (clash (sym e))
below_under (inf true) x e h = tt
below_under (inf false) nan e h = absurd h
below_under (inf false) (inf u) e h = absurd (clash (sym e))
below_under (inf false) (fin u n d) e h = absurd (clash (sym e))
below_under (fin true m k) x e h = tt
below_under (fin false zero k) x e h = tt
below_under (fin false (suc m) k) nan e h = absurd h
below_under (fin false (suc m) k) (inf true) e h = absurd (clash (sym e))
below_under (fin false (suc m) k) (inf false) e h = absurd h
below_under (fin false (suc m) k) (fin true n d) e h = absurd (clash (sym e))
below_under (fin false (suc m) k) (fin false zero d) e h = absurd (clash' e (nothing_below (suc m * up k * down d) (up d) (down k)))
below_under (fin false (suc m) k) (fin false (suc n) d) e h = absurd h

-- and so is what a value at most 0 does not lie below
pub not_below_under : (t x : Float) → T (under t) → lt t x ≡ false → T (not (is_nan x)) → T (under x)
unfolding lt is_nan
not_below_under t nan h e n = absurd n
not_below_under t (inf true) h e n = tt
not_below_under nan (inf false) h e n = absurd h
not_below_under (inf true) (inf false) h e n = absurd (clash e)
not_below_under (inf false) (inf false) h e n = absurd h
not_below_under (fin s m k) (inf false) h e n = absurd (clash e)
not_below_under t (fin true a d) h e n = tt
not_below_under t (fin false zero d) h e n = tt
not_below_under nan (fin false (suc a) d) h e n = absurd h
not_below_under (inf true) (fin false (suc a) d) h e n = absurd (clash e)
not_below_under (inf false) (fin false (suc a) d) h e n = absurd h
not_below_under (fin true m k) (fin false (suc a) d) h e n = absurd (clash' (some_more (m * up k * down d) (suc a * up d * down k) (mul-pos (mul-pos (zero-lt-suc a) (up_pos d)) (down_pos k))) e)
not_below_under (fin false zero k) (fin false (suc a) d) h e n = absurd (clash' (some_above (up k) (down d) (suc a * up d * down k) (mul-pos (mul-pos (zero-lt-suc a) (up_pos d)) (down_pos k))) e)
not_below_under (fin false (suc m) k) (fin false (suc a) d) h e n = absurd h

-- nothing negative is above 0
not_above : (x : Float) → Signed true x → lt #0 x ≡ true → ⊥
unfolding lt of_bits
not_above nan h e = h
not_above (inf true) h e = clash (sym e)
not_above (inf false) h e = clash (sym h)
not_above (fin true m k) h e = clash (sym e)
not_above (fin false m k) h e = clash (sym h)

-- ---- a product above 0 is of two numbers of one sign

abbrev pub Alike : Float → Float → Type 0
Alike x y = (s : Bool) × (Signed s x × Signed s y)

alike : (s : Bool) (x y : Float) → Signed s x → Signed s y → Alike x y
alike s x y p q = (s, (p, q))

-- an infinity times a number of the other sign
not_opposed : (b : Bool) → lt #0 (cond b nan (inf true)) ≡ true → ⊥
unfolding lt of_bits
not_opposed true e = clash (sym e)
not_opposed false e = clash (sym e)

pub product_alike : (x y : Float) → lt #0 (mul binary64 x y) ≡ true → Alike x y
unfolding mul lt of_bits
product_alike nan y e = absurd (clash (sym e))
product_alike (inf s) nan e = absurd (clash (sym e))
product_alike (inf true) (inf true) e = alike true (inf true) (inf true) refl refl
product_alike (inf true) (inf false) e = absurd (clash (sym e))
product_alike (inf false) (inf true) e = absurd (clash (sym e))
product_alike (inf false) (inf false) e = alike false (inf false) (inf false) refl refl
product_alike (inf true) (fin true n d) e = alike true (inf true) (fin true n d) refl refl
product_alike (inf true) (fin false n d) e = absurd (not_opposed (eqb n 0) e)
product_alike (inf false) (fin true n d) e = absurd (not_opposed (eqb n 0) e)
product_alike (inf false) (fin false n d) e = alike false (inf false) (fin false n d) refl refl
product_alike (fin s m k) nan e = absurd (clash (sym e))
product_alike (fin true m k) (inf true) e = alike true (fin true m k) (inf true) refl refl
product_alike (fin false m k) (inf true) e = absurd (not_opposed (eqb m 0) e)
product_alike (fin true m k) (inf false) e = absurd (not_opposed (eqb m 0) e)
product_alike (fin false m k) (inf false) e = alike false (fin false m k) (inf false) refl refl
product_alike (fin true m k) (fin true n d) e = alike true (fin true m k) (fin true n d) refl refl
product_alike (fin true m k) (fin false n d) e = absurd (not_above (round binary64 true (m * up k * (n * up d)) (down k * down d)) (round_signed true (m * up k * (n * up d)) (down k * down d)) e)
product_alike (fin false m k) (fin true n d) e = absurd (not_above (round binary64 true (m * up k * (n * up d)) (down k * down d)) (round_signed true (m * up k * (n * up d)) (down k * down d)) e)
product_alike (fin false m k) (fin false n d) e = alike false (fin false m k) (fin false n d) refl refl

-- ---- a quotient by a value above 0 keeps the sign

pub suc_not_zero : (n : ℕ) → eqb (suc n) 0 ≡ false
suc_not_zero n = ne_eqb (suc n) 0 (λ (e : suc n ≡ 0). none n e)
  where
    none : (n : ℕ) → suc n ≡ 0 → ⊥
    none n e = omega arith

pub cond_no : {X : Type 0} (b : Bool) (x y : X) → b ≡ false → cond b x y ≡ y
cond_no b x y e = rw e

by_some : (s : Bool) (n : ℕ) (x y : Float) → Signed s y → Signed s (cond (eqb (suc n) 0) x y)
by_some s n x y h = subst (Signed s) (sym (cond_no _ x y (suc_not_zero n))) h

by_round : (s : Bool) (n : ℕ) (x : Float) (a c : ℕ) → Signed s (cond (eqb (suc n) 0) x (round binary64 s a c))
by_round s n x a c = by_some s n x (round binary64 s a c) (round_signed s a c)

pub quotient_signed : (s : Bool) (x l : Float) → Signed s x → T (positive l) → Signed s (div binary64 x l)
unfolding div
quotient_signed s x nan h p = absurd p
quotient_signed s x (inf t) h p = absurd p
quotient_signed s x (fin true n d) h p = absurd p
quotient_signed s x (fin false zero d) h p = absurd p
quotient_signed s nan (fin false (suc n) d) h p = absurd h
quotient_signed s (inf true) (fin false (suc n) d) h p = h
quotient_signed s (inf false) (fin false (suc n) d) h p = h
quotient_signed true (fin true m k) (fin false (suc n) d) h p = by_round true n (cond (eqb m 0) nan (inf true)) (m * up k * down d) (suc n * up d * down k)
quotient_signed false (fin true m k) (fin false (suc n) d) h p = absurd (clash h)
quotient_signed true (fin false m k) (fin false (suc n) d) h p = absurd (clash (sym h))
quotient_signed false (fin false m k) (fin false (suc n) d) h p = by_round false n (cond (eqb m 0) nan (inf false)) (m * up k * down d) (suc n * up d * down k)

-- a finite value that is not at most one above 0 is above 0
pub length_positive : (l : Float) (m : ℕ) (e : ℤ) → 0 < m → le l (fin false m e) ≡ false → is_finite_of l ≡ true → T (positive l)
unfolding is_finite_of
length_positive nan m e p h f = absurd (clash (sym f))
length_positive (inf s) m e p h f = absurd (clash (sym f))
length_positive (fin true n d) m e p h f = absurd (clash' (under_le (fin true n d) m e p tt) h)
length_positive (fin false zero d) m e p h f = absurd (clash' (under_le (fin false zero d) m e p tt) h)
length_positive (fin false (suc n) d) m e p h f = lt→ltb 0 (suc n) (zero-lt-suc n)

-- ---- differences and products

-- ±a / c ± b / c, where b is the larger
larger : (s : Bool) (a b c : ℕ) (y : Float) → ltb a b ≡ true → Signed s (cond (ltb a b) (round binary64 s (b - a) c) y)
larger s a b c y e = subst (λ (t : Bool). Signed s (cond t (round binary64 s (b - a) c) y)) (sym e) (round_signed s (b - a) c)

-- h - o for an o above h
pub difference_signed : (h : Float) (n : ℕ) (d : ℤ) → lt h (fin false n d) ≡ true → Signed true (sub binary64 h (fin false n d))
unfolding sub add neg sum lt
difference_signed nan n d e = absurd (clash (sym e))
difference_signed (inf true) n d e = refl
difference_signed (inf false) n d e = absurd (clash (sym e))
difference_signed (fin true m k) n d e = round_signed true (m * up k * down d + n * up d * down k) (down k * down d)
difference_signed (fin false m k) n d e = larger true (m * up k * down d) (n * up d * down k) (down k * down d) (round binary64 false (m * up k * down d - n * up d * down k) (down k * down d)) e

-- -h - o for an o below -h
pub mirrored_signed : (h : Float) (n : ℕ) (d : ℤ) → lt h (fin false n d) ≡ true → Signed false (sub binary64 (neg h) (fin true n d))
unfolding sub add neg sum lt
mirrored_signed nan n d e = absurd (clash (sym e))
mirrored_signed (inf true) n d e = refl
mirrored_signed (inf false) n d e = absurd (clash (sym e))
mirrored_signed (fin true m k) n d e = round_signed false (m * up k * down d + n * up d * down k) (down k * down d)
mirrored_signed (fin false m k) n d e = larger false (m * up k * down d) (n * up d * down k) (down k * down d) (round binary64 (ltb (n * up d * down k) (m * up k * down d)) (m * up k * down d - n * up d * down k) (down k * down d)) e

-- a product of numbers of opposite signs, the second finite and no zero, is at most 0
pub opposed_under : (s : Bool) (x y : Float) → Signed (not s) x → Signed s y → T (positive (abs_of y)) → T (under (mul binary64 x y))
unfolding mul abs_of
opposed_under s x nan h g p = absurd g
opposed_under s x (inf t) h g p = absurd p
opposed_under s x (fin t zero d) h g p = absurd p
opposed_under s nan (fin t (suc n) d) h g p = absurd h
opposed_under true (inf true) (fin t (suc n) d) h g p = absurd (clash h)
opposed_under true (inf false) (fin false (suc n) d) h g p = absurd (clash (sym g))
opposed_under true (inf false) (fin true (suc n) d) h g p = signed_under (cond (eqb (suc n) 0) nan (inf true)) (by_some true n nan (inf true) refl)
opposed_under false (inf false) (fin t (suc n) d) h g p = absurd (clash (sym h))
opposed_under false (inf true) (fin true (suc n) d) h g p = absurd (clash g)
opposed_under false (inf true) (fin false (suc n) d) h g p = signed_under (cond (eqb (suc n) 0) nan (inf true)) (by_some true n nan (inf true) refl)
opposed_under true (fin true m k) (fin t (suc n) d) h g p = absurd (clash h)
opposed_under true (fin false m k) (fin false (suc n) d) h g p = absurd (clash (sym g))
opposed_under true (fin false m k) (fin true (suc n) d) h g p = signed_under (round binary64 true (m * up k * (suc n * up d)) (down k * down d)) (round_signed true (m * up k * (suc n * up d)) (down k * down d))
opposed_under false (fin false m k) (fin t (suc n) d) h g p = absurd (clash (sym h))
opposed_under false (fin true m k) (fin true (suc n) d) h g p = absurd (clash g)
opposed_under false (fin true m k) (fin false (suc n) d) h g p = signed_under (round binary64 true (m * up k * (suc n * up d)) (down k * down d)) (round_signed true (m * up k * (suc n * up d)) (down k * down d))

-- ---- 1 / d, for a finite d that is not parallel

-- 1e-12
abbrev least : ℕ
least = 0x119799812dea11

inverse_positive : (a d : ℕ) → 0 < a → 0 < d → a < 2 ^ 1024 * d → least * 1 * d < a * 2 ^ 92 → T (positive (round binary64 false (1 * 1 * d) (a * 1)))
unfolding round
inverse_positive a d p q h g =
    between (round binary64 false 1 (2 ^ 1024)) (round binary64 false (1 * 1 * d) (a * 1)) (round binary64 false (2 ^ 92) least) tt tt
    (round_mono binary64 1 (2 ^ 1024) (1 * 1 * d) (a * 1) (pow_pos 1024) (mul-pos p (pow_pos 0)) (low a d (2 ^ 1024) h))
    (round_mono binary64 (1 * 1 * d) (a * 1) (2 ^ 92) least (mul-pos p (pow_pos 0)) (lt-of-ltb) (high a d least (2 ^ 92) g))
  where
    lt-of-ltb : 0 < least
    lt-of-ltb = omega arith

    low : (a d k : ℕ) → a < k * d → 1 * (a * 1) ≤ 1 * 1 * d * k
    low a d k h = le_trans (le_of_eq (one-mul (a * 1) ∙ mul-one a)) (le_trans (le_of_lt h) (le_of_eq (mul_comm k d ∙ ap (λ (n : ℕ). n * k) (sym (one-mul d)))))

    high : (a d c k : ℕ) → c * 1 * d < a * k → 1 * 1 * d * c ≤ k * (a * 1)
    high a d c k h = le_trans (le_of_eq (ap (λ (n : ℕ). n * c) (one-mul d) ∙ mul_comm d c ∙ ap (λ (n : ℕ). n * d) (sym (mul-one c)))) (le_trans (le_of_lt h) (le_of_eq (mul_comm a k ∙ ap (λ (n : ℕ). k * n) (sym (mul-one a)))))

inverse_of : (s : Bool) (n : ℕ) (d : ℤ) → div binary64 #1 (fin s (suc n) d) ≡ round binary64 (not (beq false s)) (1 * 1 * down d) (suc n * up d * 1)
unfolding div of_bits
inverse_of s n d = cond_no _ _ _ (suc_not_zero n)

pub inverse_counts : (x : Float) → T (fits binary64 x) → is_finite_of x ≡ true → lt parallel (abs_of x) ≡ true → T (positive (abs_of (div binary64 #1 x)))
unfolding is_finite_of fits lt abs_of of_bits
inverse_counts nan f g h = absurd (clash (sym g))
inverse_counts (inf s) f g h = absurd (clash (sym g))
inverse_counts (fin s zero d) f g h = absurd (clash' h (nothing_below (least * 1 * down d) (up d) (2 ^ 92)))
inverse_counts (fin s (suc n) d) f g h =
    subst (λ (x : Float). T (positive x))
    (sym (ap abs_of (inverse_of s n d) ∙ abs_round (not (beq false s)) (1 * 1 * down d) (suc n * up d * 1)))
    (inverse_positive (suc n * up d) (down d) (mul-pos (zero-lt-suc n) (up_pos d)) (down_pos d)
    (ltb→lt (suc n * up d) (2 ^ 1024 * down d) (and_r (eqb (suc n % 2) 1 && ltb (suc n) (2 ^ 53) && leb (down d) (2 ^ 1074)) (ltb (suc n * up d) (2 ^ 1024 * down d)) f))
    (ltb→lt (least * 1 * down d) (suc n * up d * 2 ^ 92) (subst T (sym h) tt)))

pub inverse_signed : (s : Bool) (x : Float) → Signed s x → is_finite_of x ≡ true → lt parallel (abs_of x) ≡ true → Signed s (div binary64 #1 x)
unfolding is_finite_of lt abs_of of_bits
inverse_signed s nan h g k = absurd h
inverse_signed s (inf t) h g k = absurd (clash (sym g))
inverse_signed s (fin t zero d) h g k = absurd (clash' k (nothing_below (least * 1 * down d) (up d) (2 ^ 92)))
inverse_signed true (fin true (suc n) d) h g k = subst (Signed true) (sym (inverse_of true n d)) (round_signed true (1 * 1 * down d) (suc n * up d * 1))
inverse_signed false (fin true (suc n) d) h g k = absurd (clash h)
inverse_signed true (fin false (suc n) d) h g k = absurd (clash (sym h))
inverse_signed false (fin false (suc n) d) h g k = subst (Signed false) (sym (inverse_of false n d)) (round_signed false (1 * 1 * down d) (suc n * up d * 1))

-- which of the two ends of an axis is the far one
pub zero_le_above : (x : Float) → Signed false x → T (positive (abs_of x)) → le #0 x ≡ true
unfolding le lt eq abs_of of_bits
zero_le_above nan h p = absurd h
zero_le_above (inf s) h p = absurd p
zero_le_above (fin true m e) h p = absurd (clash h)
zero_le_above (fin false m e) h p = or_left _ _ (some_above 1 (down e) (m * up e * 1) (mul-pos (mul-pos (ltb→lt 0 m p) (up_pos e)) (pow_pos 0)))

pub zero_le_below : (x : Float) → Signed true x → T (positive (abs_of x)) → le #0 x ≡ false
unfolding le lt eq abs_of of_bits
zero_le_below nan h p = absurd h
zero_le_below (inf s) h p = absurd p
zero_le_below (fin false m e) h p = absurd (clash (sym h))
zero_le_below (fin true m e) h p = ap (λ (b : Bool). b && (beq false true || eqb (0 * 1 * down e) 0)) (level-no (down e) (m * up e * 1) (mul-pos (mul-pos (ltb→lt 0 m p) (up_pos e)) (pow_pos 0)))
  where
    level-no : (a b : ℕ) → 0 < b → eqb (0 * 1 * a) b ≡ false
    level-no a b h = ap (λ (n : ℕ). eqb n b) (zero-mul a) ∙ ne_eqb 0 b (λ (e : 0 ≡ b). none b h e)
      where
        none : (b : ℕ) → 0 < b → 0 ≡ b → ⊥
        none b h e = omega arith

-- ---- a quotient of numbers of opposite signs
opposed : (m : ℕ) (e : ℤ) (n : ℕ) (d : ℤ) → T (under (cond (eqb (suc n) 0) (cond (eqb m 0) nan (inf true)) (round binary64 true (m * up e * down d) (suc n * up d * down e))))
opposed m e n d =
    signed_under (cond (eqb (suc n) 0) (cond (eqb m 0) nan (inf true)) (round binary64 true (m * up e * down d) (suc n * up d * down e)))
    (by_round true n (cond (eqb m 0) nan (inf true)) (m * up e * down d) (suc n * up d * down e))

pub opposed_quotient : (s : Bool) (m : ℕ) (e : ℤ) (n : ℕ) (d : ℤ) → T (under (div binary64 (fin (not s) m e) (fin s (suc n) d)))
unfolding div
opposed_quotient true m e n d = opposed m e n d
opposed_quotient false m e n d = opposed m e n d

pub zero_below : (d : ℤ) (m : ℕ) (e : ℤ) → 0 < m → lt (fin false zero d) (fin false m e) ≡ true
unfolding lt
zero_below d m e p = some_above (up d) (down e) (m * up e * down d) (mul-pos (mul-pos p (up_pos e)) (down_pos d))
