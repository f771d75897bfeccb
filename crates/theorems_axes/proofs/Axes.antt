-- A normal and an up that are long enough and not nearly parallel give three unit vectors: the normal, up made
-- orthogonal to it, and their cross product. Were one of the two vectors that are made unit not above 1e-15 in length,
-- then up less its part along the normal would be nearly parallel to the normal, which `core` refutes. Assumes nothing.
use Prim.Native.Nat.{ℕ, ◌*◌, ◌≤◌}
use native.Mathlib.Nat.{le-add_right, le_of_eq, le_trans}
use mathlib.Core.Path.{◌≡◌, refl, sym, subst}
use mathlib.Core.Bool.{Bool, true, false, ◌&&◌}
use lib.Dec.{T}
use lib.Pow.{pow_pos}
use lib.Ieee.{binary64, unlike, lt, fits}
use lib.Ieee.Exact.{HasValue}
use Rattle.doubles.proofs.Floats.{clash, and_left, and_right}
use Rattle.doubles.specs.Doubles.{abs_of, is_finite_of}
use Rattle.rays.specs.declared.vector.Vec3.{Vec3}
use Rattle.rays.specs.Vectors.{dot_of, cross_of, minus_of, scale_of, norm_of, min_length, has_direction_of, normalize_of, is_finite_vec_of}
use Rattle.detector.specs.Checks.{is_parallel_of}
use Rattle.detector.specs.Faces.{orthogonal_of}
use Rattle.theorems_axes.specs.Axes.{L, E, are_doubles, IsUnit}
use Rattle.theorems_axes.proofs.Core.{below_one, core}
use Rattle.theorems_axes.proofs.Lengths.{Made, made as make, short_parts, modest_length}
use Rattle.theorems_axes.proofs.Values.{has_finite, same_value, value, limit, not_beyond}
use Rattle.theorems_axes.proofs.Pieces.{Part, unit_parts, along, Dot, dot, Lessened, lessened, Crossed, crossed, Level, returned, tiny}

-- three tests in one
three : (a b c : Bool) → (a && b && c) ≡ true → (a ≡ true) × (b ≡ true) × (c ≡ true)
three true true true e = (refl, refl, refl)
three true true false e = absurd (clash (sym e))
three true false c e = absurd (clash (sym e))
three false b c e = absurd (clash (sym e))

made_unit : (v : Vec3) (x y z : ℕ) (r s t : Bool) → Made v x y z r s t → IsUnit (normalize_of v)
made_unit v x y z r s t q =
    record { r = r; s = s; t = t; a = q.a; b = q.b; c = q.c; is_x = q.is_x; is_y = q.is_y; is_z = q.is_z; unit = q.unit }

cosine_part : (c : ℕ) → 100000 * c ≤ 99991 * L → Part c
cosine_part c h = le_trans (below_one L c h) (le-add_right L E)

not_false : (b : Bool) → (b ≡ false → ⊥) → b ≡ true
not_false true h = refl
not_false false h = absurd (h refl)

-- a vector of modest parts that are not all at most E, divided by its length
made_of : (v : Vec3) (x y z : ℕ) (r s t : Bool) → HasValue v.x r x L → HasValue v.y s y L → HasValue v.z t z L → x ≤ 4 * L → y ≤ 4 * L → z ≤ 4 * L
    → ((x ≤ E) × (y ≤ E) × (z ≤ E) → ⊥) → (q : Made v x y z r s t) × (q.m ≤ 8 * L)
made_of v x y z r s t a b c h i j large =
    let l = modest_length v x y z r s t a b c h i j in
    let f = has_finite (norm_of v) false l.0 l.1 in
    let q = make v x y z r s t a b c (not_false (lt min_length (norm_of v)) (λ (e : lt min_length (norm_of v) ≡ false). large (short_parts v x y z r s t a b c f e))) f in
    (q, le_trans (le_of_eq (same_value (norm_of v) false false q.m l.0 q.long l.1)) l.2)

-- ---- unit vectors n and u that are not nearly parallel
module _ (n u : Vec3) (k : IsUnit n) (o : IsUnit u) (apart : lt limit (abs_of (dot_of n u)) ≡ false) where
  abbrev d : Dot n u k o
  d = dot n u k o

  few : 100000 * d.1 ≤ 99991 * L
  few = not_beyond (dot_of n u) d.0 d.1 d.2 apart

  normal_parts : Part k.a × Part k.b × Part k.c
  normal_parts = unit_parts k.a k.b k.c k.unit

  up_parts : Part o.a × Part o.b × Part o.c
  up_parts = unit_parts o.a o.b o.c o.unit

  -- ---- u less its part along n
  abbrev rest : Vec3
  rest = minus_of u (scale_of n (dot_of n u))

  w1 : Lessened n.x u.x (dot_of n u) k.r o.r d.0 k.a o.a d.1
  w1 = lessened n.x u.x (dot_of n u) k.r o.r d.0 k.a o.a d.1 k.is_x o.is_x d.2 normal_parts.0 up_parts.0 (cosine_part d.1 few)

  w2 : Lessened n.y u.y (dot_of n u) k.s o.s d.0 k.b o.b d.1
  w2 = lessened n.y u.y (dot_of n u) k.s o.s d.0 k.b o.b d.1 k.is_y o.is_y d.2 normal_parts.1 up_parts.1 (cosine_part d.1 few)

  w3 : Lessened n.z u.z (dot_of n u) k.t o.t d.0 k.c o.c d.1
  w3 = lessened n.z u.z (dot_of n u) k.t o.t d.0 k.c o.c d.1 k.is_z o.is_z d.2 normal_parts.2 up_parts.2 (cosine_part d.1 few)

  -- their signs, relative to what is taken away
  abbrev t1 : Bool
  t1 = unlike w1.0 (unlike k.r d.0)

  abbrev t2 : Bool
  t2 = unlike w2.0 (unlike k.s d.0)

  abbrev t3 : Bool
  t3 = unlike w3.0 (unlike k.t d.0)

  not_level : Level k.a k.b t1 t2 w1.1 w2.1 → Level k.b k.c t2 t3 w2.1 w3.1 → Level k.c k.a t3 t1 w3.1 w1.1 → ⊥
  not_level =
      core L E (pow_pos 1034) refl k.a k.b k.c k.unit
      o.a o.b o.c (along k.r o.r d.0) (along k.s o.s d.0) (along k.t o.t d.0) o.unit d.1 few d.3
      w1.2 w2.2 w3.2 w1.5 w2.5 w3.5 w1.1 w2.1 w3.1 t1 t2 t3 w1.6 w2.6 w3.6

  rest_large : (w1.1 ≤ E) × (w2.1 ≤ E) × (w3.1 ≤ E) → ⊥
  rest_large p =
      not_level
      (tiny t1 t2 k.a k.b w1.1 w2.1 normal_parts.0 normal_parts.1 p.0 p.1)
      (tiny t2 t3 k.b k.c w2.1 w3.1 normal_parts.1 normal_parts.2 p.1 p.2)
      (tiny t3 t1 k.c k.a w3.1 w1.1 normal_parts.2 normal_parts.0 p.2 p.0)

  -- ---- the up axis
  made : (q : Made rest w1.1 w2.1 w3.1 w1.0 w2.0 w3.0) × (q.m ≤ 8 * L)
  unfolding minus_of scale_of
  made = made_of rest w1.1 w2.1 w3.1 w1.0 w2.0 w3.0 w1.3 w2.3 w3.3 w1.4 w2.4 w3.4 rest_large

  abbrev axis : Made rest w1.1 w2.1 w3.1 w1.0 w2.0 w3.0
  axis = made.0

  up_axis : IsUnit (normalize_of rest)
  up_axis = made_unit rest w1.1 w2.1 w3.1 w1.0 w2.0 w3.0 axis

  axis_parts : Part axis.a × Part axis.b × Part axis.c
  axis_parts = unit_parts axis.a axis.b axis.c axis.unit

  -- ---- its cross product with n
  abbrev side : Vec3
  side = cross_of (normalize_of rest) n

  g1 : Crossed (normalize_of rest).y (normalize_of rest).z n.y n.z w2.0 w3.0 k.s k.t d.0 axis.b axis.c k.b k.c
  g1 =
      crossed (normalize_of rest).y (normalize_of rest).z n.y n.z w2.0 w3.0 k.s k.t d.0 axis.b axis.c k.b k.c
      axis.is_y axis.is_z k.is_y k.is_z axis_parts.1 axis_parts.2 normal_parts.1 normal_parts.2

  g2 : Crossed (normalize_of rest).z (normalize_of rest).x n.z n.x w3.0 w1.0 k.t k.r d.0 axis.c axis.a k.c k.a
  g2 =
      crossed (normalize_of rest).z (normalize_of rest).x n.z n.x w3.0 w1.0 k.t k.r d.0 axis.c axis.a k.c k.a
      axis.is_z axis.is_x k.is_z k.is_x axis_parts.2 axis_parts.0 normal_parts.2 normal_parts.0

  g3 : Crossed (normalize_of rest).x (normalize_of rest).y n.x n.y w1.0 w2.0 k.r k.s d.0 axis.a axis.b k.a k.b
  g3 =
      crossed (normalize_of rest).x (normalize_of rest).y n.x n.y w1.0 w2.0 k.r k.s d.0 axis.a axis.b k.a k.b
      axis.is_x axis.is_y k.is_x k.is_y axis_parts.0 axis_parts.1 normal_parts.0 normal_parts.1

  side_large : (g1.1 ≤ E) × (g2.1 ≤ E) × (g3.1 ≤ E) → ⊥
  side_large p =
      not_level
      (returned t1 t2 axis.m k.a k.b axis.a axis.b w1.1 w2.1 normal_parts.0 normal_parts.1 made.1 axis.near_x axis.near_y (g3.4 p.2))
      (returned t2 t3 axis.m k.b k.c axis.b axis.c w2.1 w3.1 normal_parts.1 normal_parts.2 made.1 axis.near_y axis.near_z (g1.4 p.0))
      (returned t3 t1 axis.m k.c k.a axis.c axis.a w3.1 w1.1 normal_parts.2 normal_parts.0 made.1 axis.near_z axis.near_x (g2.4 p.1))

  right_axis : IsUnit (normalize_of side)
  unfolding cross_of
  right_axis =
      made_unit side g1.1 g2.1 g3.1 g1.0 g2.0 g3.0
      (made_of side g1.1 g2.1 g3.1 g1.0 g2.0 g3.0 g1.2 g2.2 g3.2 g1.3 g2.3 g3.3 side_large).0

-- ---- a normal and an up

-- a vector that is long enough, made unit
unit_of_lem : (v : Vec3) → is_finite_vec_of v ≡ true → are_doubles v ≡ true → has_direction_of v ≡ true → IsUnit (normalize_of v)
unfolding is_finite_vec_of has_direction_of
unit_of_lem v f t h =
    let p = three (is_finite_of v.x) (is_finite_of v.y) (is_finite_of v.z) f in
    let q = three (fits binary64 v.x) (fits binary64 v.y) (fits binary64 v.z) t in
    let a = value v.x p.0 (subst T (sym q.0) tt) in
    let b = value v.y p.1 (subst T (sym q.1) tt) in
    let c = value v.z p.2 (subst T (sym q.2) tt) in
    made_unit v a.1 b.1 c.1 a.0 b.0 c.0
    (make v a.1 b.1 c.1 a.0 b.0 c.0 a.2 b.2 c.2
    (and_left (lt min_length (norm_of v)) (is_finite_of (norm_of v)) h) (and_right (lt min_length (norm_of v)) (is_finite_of (norm_of v)) h))

module _ (normal up : Vec3) (f : is_finite_vec_of normal ≡ true) (f' : is_finite_vec_of up ≡ true) (t : are_doubles normal ≡ true) (t' : are_doubles up ≡ true) (h : has_direction_of normal ≡ true) (h' : has_direction_of up ≡ true) where
  pub unit_normal : IsUnit (normalize_of normal)
  unit_normal = unit_of_lem normal f t h

  unit_up : IsUnit (normalize_of up)
  unit_up = unit_of_lem up f' t' h'

  -- the unit normal dot the unit up is a number
  pub dot_number : is_finite_of (dot_of (normalize_of normal) (normalize_of up)) ≡ true
  dot_number = let c = dot (normalize_of normal) (normalize_of up) unit_normal unit_up in has_finite (dot_of (normalize_of normal) (normalize_of up)) c.0 c.1 c.2

  module _ (apart : is_parallel_of normal up ≡ false) where
    pub unit-orthogonal : IsUnit (orthogonal_of (normalize_of normal) up)
    unfolding is_parallel_of orthogonal_of
    unit-orthogonal = up_axis (normalize_of normal) (normalize_of up) unit_normal unit_up apart

    pub unit-cross : IsUnit (normalize_of (cross_of (orthogonal_of (normalize_of normal) up) (normalize_of normal)))
    unfolding is_parallel_of orthogonal_of
    unit-cross = right_axis (normalize_of normal) (normalize_of up) unit_normal unit_up apart
