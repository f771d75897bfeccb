-- The order of values above zero, infinity among them. Assumes nothing.
use Rattle.std.proofs.Common.{◌≡◌, ℕ, zero, suc, ◌*◌, ◌<◌, ◌≤◌, Bool, true, false, not, ◌||◌, T, ltb, ℤ, sym, refl, subst, le_refl, lt_of_lt_of_le, lt_irrefl, mul-le-mul_right, zero-lt-suc, lt_of_mul-lt-mul_right, mul-lt-mul_of_pos_right, zero-mul, mul_right_comm, arith, ltb→lt, lt→ltb, nltb→le}
use lib.Ieee.{Float, nan, inf, fin, up, down, lt, le, eq}
use lib.Ieee.Bits.{is_true}
use lib.Ieee.Positive.{num, den, positive, den_pos, le→cross, cross→le, le_trans_positive}
use Rattle.doubles.proofs.Floats.{clash}

pub holds : {b : Bool} → b ≡ true → T b
holds e = subst T (sym e) tt

fails : {b : Bool} → b ≡ false → T (not b)
fails e = subst (λ (t : Bool). T (not t)) (sym e) tt

pub none_below : (a : ℕ) → a < 0 → ⊥
none_below a h = omega arith

-- above zero: a finite value, or infinity
abbrev pub above : Float → Bool
above nan = false
above (inf s) = not s
above (fin s m e) = positive (fin s m e)

-- above a finite value that is not negative: above zero
pub beyond : (m : ℕ) (e : ℤ) (t : Float) → lt (fin false m e) t ≡ true → T (above t)
unfolding lt
beyond m e nan p = absurd (clash (sym p))
beyond m e (inf true) p = absurd (clash (sym p))
beyond m e (inf false) p = tt
beyond m e (fin true n d) p = absurd (clash (sym p))
beyond m e (fin false n d) p = more n (ltb→lt (m * up e * down d) (n * up d * down e) (holds p))
  where
    more : (n : ℕ) → m * up e * down d < n * up d * down e → T (ltb 0 n)
    more zero h = absurd (none_below (m * up e * down d) (rw (zero-mul (up d), zero-mul (down e)) at h))
    more (suc n) h = lt→ltb 0 (suc n) (zero-lt-suc n)

-- ---- as fractions

lt→cross : (x y : Float) → T (positive x) → T (positive y) → lt x y ≡ true → num x * den y < num y * den x
unfolding lt
lt→cross nan y p q h = absurd p
lt→cross (inf s) y p q h = absurd p
lt→cross (fin true m e) y p q h = absurd p
lt→cross (fin false m e) nan p q h = absurd q
lt→cross (fin false m e) (inf t) p q h = absurd q
lt→cross (fin false m e) (fin true n d) p q h = absurd q
lt→cross (fin false m e) (fin false n d) p q h = ltb→lt (m * up e * down d) (n * up d * down e) (holds h)

cross→lt : (x y : Float) → T (positive x) → T (positive y) → num x * den y < num y * den x → lt x y ≡ true
unfolding lt
cross→lt nan y p q h = absurd p
cross→lt (inf s) y p q h = absurd p
cross→lt (fin true m e) y p q h = absurd p
cross→lt (fin false m e) nan p q h = absurd q
cross→lt (fin false m e) (inf t) p q h = absurd q
cross→lt (fin false m e) (fin true n d) p q h = absurd q
cross→lt (fin false m e) (fin false n d) p q h = is_true (ltb (m * up e * down d) (n * up d * down e)) (lt→ltb (m * up e * down d) (n * up d * down e) h)

not_lt→cross : (x y : Float) → T (positive x) → T (positive y) → lt x y ≡ false → num y * den x ≤ num x * den y
unfolding lt
not_lt→cross nan y p q h = absurd p
not_lt→cross (inf s) y p q h = absurd p
not_lt→cross (fin true m e) y p q h = absurd p
not_lt→cross (fin false m e) nan p q h = absurd q
not_lt→cross (fin false m e) (inf t) p q h = absurd q
not_lt→cross (fin false m e) (fin true n d) p q h = absurd q
not_lt→cross (fin false m e) (fin false n d) p q h = nltb→le (m * up e * down d) (n * up d * down e) (fails h)

-- x / p < y / q ≤ z / r
through : (x y z p q r : ℕ) → 0 < p → 0 < q → 0 < r → x * q < y * p → y * r ≤ z * q → x * r < z * p
through x y z p q r P Q R h k =
    let a : x * q * r < y * p * r = mul-lt-mul_of_pos_right h R in
    let b : y * r * p ≤ z * q * p = mul-le-mul_right p k in
    lt_of_mul-lt-mul_right q (rw (mul_right_comm x r q, mul_right_comm z p q) (lt_of_lt_of_le (rw (mul_right_comm y p r) at a) b))

-- ---- the order

or_left : (a b : Bool) → a ≡ true → (a || b) ≡ true
or_left a b e = rw e

pub below_le : (x y : Float) → lt x y ≡ true → le x y ≡ true
unfolding le
below_le x y h = or_left (lt x y) (eq x y) h

pub self_le : (x : Float) → T (above x) → le x x ≡ true
unfolding le
self_le nan p = absurd p
self_le (inf true) p = absurd p
self_le (inf false) p = refl
self_le (fin s m e) p = is_true (le (fin s m e) (fin s m e)) (cross→le (fin s m e) (fin s m e) p p (le_refl (m * up e * down e)))

pub not_below_le : (x y : Float) → T (above x) → T (above y) → lt x y ≡ false → le y x ≡ true
unfolding le
not_below_le nan y p q h = absurd p
not_below_le (inf true) y p q h = absurd p
not_below_le (inf false) nan p q h = absurd q
not_below_le (inf false) (inf true) p q h = absurd q
not_below_le (inf false) (inf false) p q h = refl
not_below_le (inf false) (fin s n d) p q h = refl
not_below_le (fin s m e) nan p q h = absurd q
not_below_le (fin s m e) (inf true) p q h = absurd q
not_below_le (fin s m e) (inf false) p q h = absurd (clash h)
not_below_le (fin s m e) (fin t n d) p q h =
    is_true (le (fin t n d) (fin s m e)) (cross→le (fin t n d) (fin s m e) q p (not_lt→cross (fin s m e) (fin t n d) p q h))

pub below_le_below : (x y z : Float) → T (above x) → T (above y) → T (above z) → lt x y ≡ true → le y z ≡ true → lt x z ≡ true
unfolding le
below_le_below nan y z a b c h k = absurd a
below_le_below (inf true) y z a b c h k = absurd a
below_le_below (inf false) nan z a b c h k = absurd b
below_le_below (inf false) (inf t) z a b c h k = absurd (clash (sym h))
below_le_below (inf false) (fin t n d) z a b c h k = absurd (clash (sym h))
below_le_below (fin s m e) y nan a b c h k = absurd c
below_le_below (fin s m e) y (inf true) a b c h k = absurd c
below_le_below (fin s m e) y (inf false) a b c h k = refl
below_le_below (fin s m e) nan (fin u l g) a b c h k = absurd b
below_le_below (fin s m e) (inf true) (fin u l g) a b c h k = absurd b
below_le_below (fin s m e) (inf false) (fin u l g) a b c h k = absurd (clash (sym k))
below_le_below (fin s m e) (fin t n d) (fin u l g) a b c h k =
    let x = fin s m e in
    let y = fin t n d in
    let z = fin u l g in
    cross→lt x z a c
    (through (num x) (num y) (num z) (den x) (den y) (den z) (den_pos x) (den_pos y) (den_pos z) (lt→cross x y a b h) (le→cross y z b c (holds k)))

pub le_trans_above : (x y z : Float) → T (above x) → T (above y) → T (above z) → le x y ≡ true → le y z ≡ true → le x z ≡ true
unfolding le
le_trans_above nan y z a b c h k = absurd a
le_trans_above (inf true) y z a b c h k = absurd a
le_trans_above (inf false) nan z a b c h k = absurd b
le_trans_above (inf false) (inf true) z a b c h k = absurd b
le_trans_above (inf false) (inf false) z a b c h k = k
le_trans_above (inf false) (fin t n d) z a b c h k = absurd (clash (sym h))
le_trans_above (fin s m e) y nan a b c h k = absurd c
le_trans_above (fin s m e) y (inf true) a b c h k = absurd c
le_trans_above (fin s m e) y (inf false) a b c h k = refl
le_trans_above (fin s m e) nan (fin u l g) a b c h k = absurd b
le_trans_above (fin s m e) (inf true) (fin u l g) a b c h k = absurd b
le_trans_above (fin s m e) (inf false) (fin u l g) a b c h k = absurd (clash (sym k))
le_trans_above (fin s m e) (fin t n d) (fin u l g) a b c h k =
    is_true (le (fin s m e) (fin u l g)) (le_trans_positive (fin s m e) (fin t n d) (fin u l g) a b c (holds h) (holds k))

pub below_not_le : (x y : Float) → T (above x) → T (above y) → lt x y ≡ true → le y x ≡ true → ⊥
unfolding le
below_not_le nan y p q h l = absurd p
below_not_le (inf true) y p q h l = absurd p
below_not_le (inf false) nan p q h l = absurd q
below_not_le (inf false) (inf t) p q h l = absurd (clash (sym h))
below_not_le (inf false) (fin t n d) p q h l = absurd (clash (sym h))
below_not_le (fin s m e) nan p q h l = absurd q
below_not_le (fin s m e) (inf true) p q h l = absurd q
below_not_le (fin s m e) (inf false) p q h l = absurd (clash (sym l))
below_not_le (fin s m e) (fin t n d) p q h l =
    let x = fin s m e in
    let y = fin t n d in
    lt_irrefl (num x * den y) (lt_of_lt_of_le (lt→cross x y p q h) (le→cross y x q p (holds l)))
