-- The order of distances that count, which are finite and above zero. Assumes nothing.
use Prim.Native.Nat.{ℕ}
use mathlib.Core.Path.{◌≡◌, refl, sym, ◌∙◌, subst}
use mathlib.Core.Bool.{Bool, true, false, ◌&&◌}
use lib.Dec.{T}
use lib.IntN.{ℤ, negsuc}
use lib.Ieee.{Float, nan, inf, fin, lt, le, of_bits}
use Rattle.doubles.proofs.Floats.{clash, and_left, and_right, and_both}
use Rattle.doubles.proofs.Order.{above, beyond}
use Rattle.doubles.proofs.Order as order
use Rattle.doubles.specs.Doubles.{is_finite_of}
use Rattle.rays.specs.Rays.{min_world_distance}
use Rattle.nearest.specs.Nearest.{is_counted, is_nearer_of}

-- ---- 1e-8 as a fraction
limit_is : min_world_distance ≡ fin false 3022314549036573 (negsuc 77)
unfolding of_bits
limit_is = refl

-- above a value that is finite and above zero, and below any: finite
between : (m : ℕ) (e : ℤ) (t u : Float) → lt t u ≡ true → lt (fin false m e) t ≡ true → is_finite_of t ≡ true
unfolding lt is_finite_of
between m e nan u p q = p
between m e (inf true) u p q = q
between m e (inf false) nan p q = p
between m e (inf false) (inf s) p q = p
between m e (inf false) (fin s n d) p q = p
between m e (fin s n d) u p q = refl

counts_above : (t : Float) → is_counted t ≡ true → T (above t)
unfolding is_counted
counts_above t c =
    beyond _ _ t
    (subst (λ (l : Float). lt l t ≡ true) limit_is (and_left (lt min_world_distance t) (is_finite_of t) c))

pub nearer_counts : (t u : Float) → is_nearer_of t u ≡ true → is_counted t ≡ true
unfolding is_counted is_nearer_of
nearer_counts t u c =
    let p : lt t u ≡ true = and_left (lt t u) (lt min_world_distance t) c in
    let q : lt min_world_distance t ≡ true = and_right (lt t u) (lt min_world_distance t) c in
    and_both (lt min_world_distance t) (is_finite_of t) q (between _ _ t u p (subst (λ (l : Float). lt l t ≡ true) limit_is q))

pub nearer_below : (t u : Float) → is_nearer_of t u ≡ true → lt t u ≡ true
unfolding is_nearer_of
nearer_below t u c = and_left (lt t u) (lt min_world_distance t) c

-- a distance that counts and is not nearer is not below
pub counts_not_below : (t u : Float) → is_counted t ≡ true → is_nearer_of t u ≡ false → lt t u ≡ false
unfolding is_counted is_nearer_of
counts_not_below t u c e = off (lt t u) (lt min_world_distance t) (and_left (lt min_world_distance t) (is_finite_of t) c) e
  where
    off : (a b : Bool) → b ≡ true → (a && b) ≡ false → a ≡ false
    off true b p q = absurd (clash (sym p ∙ q))
    off false b p q = refl

-- below infinity
pub counts_below_infinity : (t : Float) → is_counted t ≡ true → lt t (inf false) ≡ true
unfolding is_counted lt is_finite_of
counts_below_infinity nan c = absurd (clash (sym (and_right (lt min_world_distance nan) false c)))
counts_below_infinity (inf s) c = absurd (clash (sym (and_right (lt min_world_distance (inf s)) false c)))
counts_below_infinity (fin s m e) c = refl

-- ---- of distances that count

pub self_le : (x : Float) → is_counted x ≡ true → le x x ≡ true
self_le x c = order.self_le x (counts_above x c)

pub not_below_le : (x y : Float) → is_counted x ≡ true → is_counted y ≡ true → lt x y ≡ false → le y x ≡ true
not_below_le x y c k h = order.not_below_le x y (counts_above x c) (counts_above y k) h

pub below_le_below : (x y z : Float) → is_counted x ≡ true → is_counted y ≡ true → is_counted z ≡ true → lt x y ≡ true → le y z ≡ true → lt x z ≡ true
below_le_below x y z a b c h k = order.below_le_below x y z (counts_above x a) (counts_above y b) (counts_above z c) h k

pub below_not_le : (x y : Float) → is_counted x ≡ true → is_counted y ≡ true → lt x y ≡ true → le y x ≡ true → ⊥
below_not_le x y c k h l = order.below_not_le x y (counts_above x c) (counts_above y k) h l
