-- A direction that is made a unit vector is finite. Assumes nothing.
use Rattle.std.specs.Prelude.{Option, None, Some}
use Rattle.std.proofs.lemmas.Option.{same_Some, none-some}
use Prim.Native.Nat.{ℕ, zero, suc, ◌*◌, ◌^◌, ◌≤◌, ◌<◌}
use native.Mathlib.Nat.{mul-one, one-mul, mul-pos, mul_comm, mul_assoc, mul_left_comm, zero-lt-suc, le_trans, le_of_eq, le_of_lt, mul-le-mul, mul-le-mul_right}
use native.Mathlib.Omega.{arith}
use mathlib.Core.Path.{◌≡◌, refl, sym, ap, ◌∙◌, subst}
use mathlib.Core.Bool.{Bool, true, false, not, cond, ◌&&◌, ◌||◌, beq}
use lib.Dec.{T, ltb, ltb→lt, nltb→le}
use lib.IntN.{ℤ, pos, negsuc}
use lib.Pow.{pow_pos}
use lib.Ieee.{Float, nan, inf, fin, binary64, up, down, round, add, mul, div, lt, le, eq}
use lib.Ieee.Fits.{up_pos, down_pos}
use lib.Ieee.Order.{round_mono}
use lib.Ieee.Positive.{positive}
use Rattle.doubles.proofs.Floats.{clash}
use Rattle.doubles.proofs.Finite.{Finite, root_of_finite, sum_of_finite}
use Rattle.doubles.specs.Doubles.{abs_of, is_finite_of}
use Rattle.doubles.specs.Root.{sqrt_of}
use Rattle.error.specs.Refusals.{value, refusal}
use Rattle.rays.specs.declared.vector.Vec3.{Vec3}
use Rattle.rays.specs.declared.Ray.{Ray}
use Rattle.rays.specs.Vectors.{dot_of, norm_of, min_length, divide_of, is_finite_vec_of}
use Rattle.rays.specs.Rays.{is_finite_ray_of, new_ray_of}
use Rattle.rays.proofs.Shortest.{short, short_is}
use Rattle.geometry.specs.Transforms.{unit_of, made_ray}
use Rattle.geometry.specs.Contacts.{ray_by, ray_from_of}
use Rattle.geometry.proofs.Signs.{Signed, round_signed, abs_round, length_positive, suc_not_zero, cond_no}

-- ---- what a finite product is made of

-- below 2 ^ 512 in size
abbrev Modest : Float → Type 0
Modest nan = ⊥
Modest (inf s) = ⊥
Modest (fin s m e) = m * up e < 2 ^ 512 * down e

too_large : round binary64 false (2 ^ 1024) 1 ≡ inf false
unfolding round
too_large = refl

-- what is at least infinity is not finite
not_finite : (x : Float) → T (le (inf false) x) → is_finite_of x ≡ true → ⊥
unfolding le lt eq is_finite_of
not_finite nan t h = t
not_finite (inf s) t h = clash (sym h)
not_finite (fin s m e) t h = t

square : (a d : ℕ) → 2 ^ 512 * d ≤ a → 2 ^ 1024 * (d * d) ≤ a * a * 1
square a d h = le_trans (le_of_eq (split (2 ^ 512) d)) (le_trans (mul-le-mul h h) (le_of_eq (sym (mul-one (a * a)))))
  where
    split : (k d : ℕ) → k * k * (d * d) ≡ k * d * (k * d)
    split k d = simp (mul_assoc, mul_comm, mul_left_comm) refl

modest : (a d : ℕ) → 0 < d → is_finite_of (round binary64 false (a * a) (d * d)) ≡ true → a < 2 ^ 512 * d
modest a d p h = go (ltb a (2 ^ 512 * d)) (ltb→lt a (2 ^ 512 * d)) (nltb→le a (2 ^ 512 * d))
  where
    go : (t : Bool) → (T t → a < 2 ^ 512 * d) → (T (not t) → 2 ^ 512 * d ≤ a) → a < 2 ^ 512 * d
    go true f g = f tt
    go false f g =
        absurd
        (not_finite (round binary64 false (a * a) (d * d))
        (subst (λ (x : Float). T (le x (round binary64 false (a * a) (d * d)))) too_large
        (round_mono binary64 (2 ^ 1024) 1 (a * a) (d * d) (pow_pos 0) (mul-pos p p) (square a d (g tt))))
        h)

square_finite : (x : Float) → Finite (mul binary64 x x) → Modest x
unfolding mul is_finite_of
square_finite nan h = absurd (clash (sym h))
square_finite (inf true) h = absurd (clash (sym h))
square_finite (inf false) h = absurd (clash (sym h))
square_finite (fin true m e) h = modest (m * up e) (down e) (down_pos e) h
square_finite (fin false m e) h = modest (m * up e) (down e) (down_pos e) h

-- ---- the quotient of such a value by a length above 1e-15

abs_finite : (x : Float) → is_finite_of (abs_of x) ≡ is_finite_of x
unfolding abs_of is_finite_of
abs_finite nan = refl
abs_finite (inf s) = refl
abs_finite (fin s m e) = refl

most_is : round binary64 false (2 ^ 613) 1 ≡ fin false 1 (pos 613)
unfolding round
most_is = refl

below_finite : (x : Float) (m : ℕ) (e : ℤ) → Signed false x → T (le x (fin false m e)) → Finite x
unfolding le lt eq is_finite_of
below_finite nan m e s t = absurd s
below_finite (inf true) m e s t = absurd (clash s)
below_finite (inf false) m e s t = absurd t
below_finite (fin u n d) m e s t = refl

or_false : (a b : Bool) → (a || b) ≡ false → a ≡ false
or_false true b e = absurd (clash e)
or_false false b e = refl

not_le_lt : (x y : Float) → le x y ≡ false → lt x y ≡ false
unfolding le
not_le_lt x y e = or_false (lt x y) (eq x y) e

bound : (a de dd n S : ℕ) → 0 < S → a ≤ 2 ^ 512 * de → S * dd ≤ n * 2 ^ 101 → a * dd * 1 ≤ 2 ^ 613 * (n * de)
bound a de dd n S p h g =
    le_trans (le_of_eq (mul-one (a * dd)))
    (le_trans (mul-le-mul h (le_trans (grow dd S p) g)) (le_of_eq (regroup (2 ^ 512) de n (2 ^ 101))))
  where
    grow : (d S : ℕ) → 0 < S → d ≤ S * d
    grow d S p = let q : 1 ≤ S = omega arith in le_trans (le_of_eq (sym (one-mul d))) (mul-le-mul_right d q)

    regroup : (k d n j : ℕ) → k * d * (n * j) ≡ k * j * (n * d)
    regroup k d n j = simp (mul_assoc, mul_comm, mul_left_comm) refl

quotient_is : (s : Bool) (m : ℕ) (e : ℤ) (n : ℕ) (d : ℤ) → div binary64 (fin s m e) (fin false (suc n) d) ≡ round binary64 (not (beq s false)) (m * up e * down d) (suc n * up d * down e)
unfolding div
quotient_is s m e n d = cond_no _ _ _ (suc_not_zero n)

rounded_finite : (s : Bool) (a c : ℕ) → 0 < c → a * 1 ≤ 2 ^ 613 * c → Finite (round binary64 s a c)
rounded_finite s a c p h =
    sym (abs_finite (round binary64 s a c))
    ∙ ap is_finite_of (abs_round s a c)
    ∙ below_finite (round binary64 false a c) 1 (pos 613) (round_signed false a c)
    (subst (λ (x : Float). T (le (round binary64 false a c) x)) most_is (round_mono binary64 a c (2 ^ 613) 1 p (pow_pos 0) h))

quotient_finite : (x l : Float) → Modest x → T (positive l) → le l (fin false short (negsuc 100)) ≡ false → Finite (div binary64 x l)
unfolding le lt
quotient_finite x nan h p k = absurd p
quotient_finite x (inf s) h p k = absurd p
quotient_finite x (fin true n d) h p k = absurd p
quotient_finite x (fin false zero d) h p k = absurd p
quotient_finite nan (fin false (suc n) d) h p k = absurd h
quotient_finite (inf s) (fin false (suc n) d) h p k = absurd h
quotient_finite (fin s m e) (fin false (suc n) d) h p k =
    ap is_finite_of (quotient_is s m e n d)
    ∙ rounded_finite (not (beq s false)) (m * up e * down d) (suc n * up d * down e) (mul-pos (mul-pos (zero-lt-suc n) (up_pos d)) (down_pos e))
    (bound (m * up e) (down e) (down d) (suc n * up d) (short * 1) (omega arith) (le_of_lt h)
    (nltb→le (suc n * up d * 2 ^ 101) (short * 1 * down d) (subst (λ (t : Bool). T (not t)) (sym (not_le_lt (fin false (suc n) d) (fin false short (negsuc 100)) k)) tt)))

-- ---- the vector

three : (a b c : Bool) → a ≡ true → b ≡ true → c ≡ true → (a && b && c) ≡ true
three a b c p q r = rw (p, q, r)

divided_finite : (v : Vec3) → le (norm_of v) (fin false short (negsuc 100)) ≡ false → Finite (norm_of v) → is_finite_vec_of (divide_of v (norm_of v)) ≡ true
unfolding norm_of dot_of divide_of is_finite_vec_of
divided_finite v k f =
    let xx = mul binary64 v.x v.x in
    let yy = mul binary64 v.y v.y in
    let zz = mul binary64 v.z v.z in
    let l = sqrt_of (add binary64 (add binary64 xx yy) zz) in
    let p = length_positive l short (negsuc 100) (omega arith) k f in
    let outer = sum_of_finite (add binary64 xx yy) zz (root_of_finite (add binary64 (add binary64 xx yy) zz) f) in
    let inner = sum_of_finite xx yy outer.0 in
    three (is_finite_of (div binary64 v.x l)) (is_finite_of (div binary64 v.y l)) (is_finite_of (div binary64 v.z l))
    (quotient_finite v.x l (square_finite v.x inner.0) p k)
    (quotient_finite v.y l (square_finite v.y inner.1) p k)
    (quotient_finite v.z l (square_finite v.z outer.1) p k)

pub unit_finite : (v u : Vec3) → unit_of v ≡ Some u → is_finite_vec_of u ≡ true
unfolding unit_of
unit_finite v u e = go (le l min_length) (is_finite_of l) refl refl e
  where
    l : Float
    l = norm_of v

    go : (a b : Bool) → le l min_length ≡ a → is_finite_of l ≡ b → cond a None (cond b (Some (divide_of v l)) None) ≡ Some u → is_finite_vec_of u ≡ true
    go true b p q h = absurd (none-some u h)
    go false false p q h = absurd (none-some u h)
    go false true p q h =
        subst (λ (w : Vec3). is_finite_vec_of w ≡ true) (same_Some (divide_of v l) u h)
        (divided_finite v (subst (λ (x : Float). le l x ≡ false) short_is p) q)

-- ---- the ray from o along v: only its origin, wavelength and power have to be looked at

abbrev ray_of : Vec3 → Vec3 → Ray → Ray
ray_of o u r = record { origin = o; direction = u; wavelength_nm = r.wavelength_nm; energy = r.energy }

choose : (a t b c : Bool) (q : Ray) → t ≡ true → made_ray (cond (a && t && b && c) (value q) (refusal 16)) ≡ cond (a && b && c) (Some q) None
unfolding made_ray
choose true t true true q e = rw e
choose true t true false q e = rw e
choose true t false c q e = rw e
choose false t b c q e = refl

from_made : (o v : Vec3) (r : Ray) (k : Option Vec3) (u : Vec3) → k ≡ unit_of v → k ≡ Some u → ray_from_of o v r ≡ cond (is_finite_vec_of o && is_finite_of r.wavelength_nm && is_finite_of r.energy) (Some (ray_of o u r)) None
unfolding ray_from_of ray_by new_ray_of is_finite_ray_of
from_made o v r k u p e =
    let is : unit_of v ≡ Some u = sym p ∙ e in
    ap (ray_by o r) is
    ∙ choose (is_finite_vec_of o) (is_finite_vec_of u) (is_finite_of r.wavelength_nm) (is_finite_of r.energy) (ray_of o u r) (unit_finite v u is)

pub ray_made : (o v : Vec3) (r : Ray) (k : Option Vec3) (u : Vec3) (a : Bool) → k ≡ unit_of v → k ≡ Some u → a ≡ (is_finite_vec_of o && is_finite_of r.wavelength_nm && is_finite_of r.energy) → a ≡ true → Some (ray_of o u r) ≡ ray_from_of o v r
ray_made o v r k u a p e f t = sym (from_made o v r k u p e ∙ rw (← f, t))

pub no_ray_lem : (o v : Vec3) (r : Ray) (k : Option Vec3) (u : Vec3) (a : Bool) → k ≡ unit_of v → k ≡ Some u → a ≡ (is_finite_vec_of o && is_finite_of r.wavelength_nm && is_finite_of r.energy) → a ≡ false → None ≡ ray_from_of o v r
no_ray_lem o v r k u a p e f t = sym (from_made o v r k u p e ∙ rw (← f, t))
