-- What the sign tests rule out is not met. Assumes nothing.
use Rattle.std.specs.Prelude.{Option, None, Some}
use Prim.Native.Nat.{ℕ, zero, suc}
use native.Mathlib.Omega.{arith}
use mathlib.Core.Path.{◌≡◌, refl, sym, ap, ◌∙◌, subst}
use mathlib.Core.Bool.{Bool, true, false, not, cond, ◌&&◌, ◌||◌}
use mathlib.Core.Logic.{◌⊎◌, inl, inr}
use lib.Dec.{T}
use lib.IntN.{ℤ, negsuc}
use lib.Ieee.{Float, nan, inf, fin, binary64, sub, mul, div, neg, lt, le, of_bits, fits, is_nan}
use lib.Ieee.Fits.{div-fits}
use lib.Ieee.Positive.{positive}
use Rattle.doubles.proofs.Floats.{clash, and_left, and_right}
use Rattle.doubles.specs.Doubles.{abs_of, is_finite_of, #0, #1}
use Rattle.error.specs.Refusals.{value, refusal}
use Rattle.rays.specs.declared.vector.Vec3.{Vec3}
use Rattle.rays.specs.declared.matrix.Mat4.{Mat4}
use Rattle.rays.specs.declared.Ray.{Ray}
use Rattle.rays.specs.Vectors.{norm_of, min_length, divide_of, is_finite_vec_of}
use Rattle.rays.proofs.Shortest.{short, short_is}
use Rattle.rays.specs.Matrices.{transform_point_of, transform_direction_of}
use Rattle.rays.specs.Rays.{min_local_distance, is_finite_ray_of, new_ray_of}
use Rattle.geometry.specs.declared.PrimitiveGeometry.{PrimitiveGeometry}
use Rattle.geometry.specs.declared.PrimitiveGeometry.TheVariants.{Plane, Disk, Sphere, Cylinder, Box, ClosedCylinder}
use Rattle.geometry.specs.declared.slab.Side.{Side}
use Rattle.geometry.specs.Hits.{parallel}
use Rattle.geometry.specs.Flat.{flat_distance_of, plane_from, disk_from, intersect_plane_of, intersect_disk_of}
use Rattle.geometry.specs.Slabs.{Interval, moved_near, moved_far, cut_by, whole_ray, outside_of, inside_of, side_hit_of, hit_within, intersect_box_of}
use Rattle.geometry.specs.declared.slab.Side.TheVariants.{MinusX, PlusX, MinusY, PlusY, MinusZ, PlusZ}
use Rattle.geometry.specs.Shapes.{intersect_local_of}
use Rattle.geometry.specs.Transforms.{unit_of, made_ray}
use Rattle.geometry.specs.Behind.{recedes_of, leaves_of, is_behind_of}
use Rattle.geometry.specs.Contacts.{ray_by, ray_from_of, meet_by, meet_along_of, meet_of}
use Rattle.geometry.proofs.Signs.{Signed, under, Alike, under_le, below_under, not_below_under, product_alike, quotient_signed, length_positive, difference_signed, mirrored_signed, opposed_under, inverse_counts, inverse_signed, zero_le_above, zero_le_below, opposed_quotient, zero_below, near_is}

-- at most 1e-9
under_near : (x : Float) → T (under x) → le x min_local_distance ≡ true
under_near x h = subst (λ (l : Float). le x l ≡ true) (sym near_is) (under_le x 0x112e0be826d695 (negsuc 81) (omega arith) h)

-- what a finite ray's parts are along one axis
abbrev Finite : Float → Type 0
Finite x = is_finite_of x ≡ true

-- ---- Plane and Disk

parallel_is : parallel ≡ fin false 0x119799812dea11 (negsuc 91)
unfolding of_bits
parallel_is = refl

zero_parallel : (d : ℤ) → lt (fin false 0 d) parallel ≡ true
zero_parallel d = subst (λ (l : Float). lt (fin false 0 d) l ≡ true) (sym parallel_is) (zero_below d 0x119799812dea11 (negsuc 91) (omega arith))

beside : (b : Bool) (x : Option Float) → b ≡ true → cond b None x ≡ None
beside b x e = rw e

behind : (a b : Bool) (t : Float) → b ≡ true → cond a None (cond b None (Some t)) ≡ None
behind true b t e = refl
behind false b t e = rw e

near_quotient : (s : Bool) (m : ℕ) (e : ℤ) (n : ℕ) (k : ℤ) → le (div binary64 (fin (not s) m e) (fin s (suc n) k)) min_local_distance ≡ true
near_quotient s m e n k = under_near (div binary64 (fin (not s) m e) (fin s (suc n) k)) (opposed_quotient s m e n k)

flat_none : (s : Bool) (o d : Float) → Signed s o → Signed s d → Finite o → Finite d → cond (lt (abs_of d) parallel) None (cond (le (div binary64 (neg o) d) min_local_distance) None (Some (div binary64 (neg o) d))) ≡ None
unfolding is_finite_of abs_of neg
flat_none s nan d p q f g = absurd p
flat_none s (inf u) d p q f g = absurd (clash (sym f))
flat_none s (fin u m e) nan p q f g = absurd q
flat_none s (fin u m e) (inf v) p q f g = absurd (clash (sym g))
flat_none s (fin u m e) (fin v zero k) p q f g = beside (lt (fin false 0 k) parallel) _ (zero_parallel k)
flat_none true (fin false m e) (fin v (suc n) k) p q f g = absurd (clash (sym p))
flat_none true (fin true m e) (fin false (suc n) k) p q f g = absurd (clash (sym q))
flat_none true (fin true m e) (fin true (suc n) k) p q f g = behind (lt (fin false (suc n) k) parallel) _ (div binary64 (fin (not true) m e) (fin true (suc n) k)) (near_quotient true m e n k)
flat_none false (fin true m e) (fin v (suc n) k) p q f g = absurd (clash p)
flat_none false (fin false m e) (fin true (suc n) k) p q f g = absurd (clash q)
flat_none false (fin false m e) (fin false (suc n) k) p q f g = behind (lt (fin false (suc n) k) parallel) _ (div binary64 (fin (not false) m e) (fin false (suc n) k)) (near_quotient false m e n k)

-- a ray in the shape's coordinates with one sign along an axis
abbrev AlikeZ : Ray → Type 0
AlikeZ r = Alike r.origin.z r.direction.z

flat_nowhere : (r : Ray) → AlikeZ r → Finite r.origin.z → Finite r.direction.z → flat_distance_of r ≡ None
unfolding flat_distance_of
flat_nowhere r (s, (p, q)) f g = flat_none s r.origin.z r.direction.z p q f g

plane_none : (w h : Float) (r : Ray) → AlikeZ r → Finite r.origin.z → Finite r.direction.z → intersect_plane_of w h r ≡ None
unfolding intersect_plane_of plane_from
plane_none w h r a f g = ap (plane_from w h r) (flat_nowhere r a f g)

disk_none : (outer inner : Float) (r : Ray) → AlikeZ r → Finite r.origin.z → Finite r.direction.z → intersect_disk_of outer inner r ≡ None
unfolding intersect_disk_of disk_from
disk_none outer inner r a f g = ap (disk_from outer inner r) (flat_nowhere r a f g)

-- ---- Box: the far end only moves down, and one axis moves it to at most 0

to_keeps : (Q : Float → Type 0) → ((t x : Float) → lt t x ≡ true → Q x → Q t) → (s : Interval) (t : Float) (side : Side) → Q s.far → Q (moved_far s t side).far
unfolding moved_far
to_keeps Q low s t side q = go (lt t s.far) refl
  where
    go : (b : Bool) → lt t s.far ≡ b → Q (cond b (record { near = s.near; far = t; near_side = s.near_side; far_side = Some side }) s).far
    go true e = low t s.far e q
    go false e = q

from_far : (s : Interval) (t : Float) (side : Side) → s.far ≡ (moved_near s t side).far
unfolding moved_near
from_far s t side = go (lt s.near t)
  where
    go : (b : Bool) → s.far ≡ (cond b (record { near = t; far = s.far; near_side = Some side; far_side = s.far_side }) s).far
    go true = refl
    go false = refl

cut_keeps : (Q : Float → Type 0) → ((t x : Float) → lt t x ≡ true → Q x → Q t) → (s : Interval) (o d h : Float) (minus plus : Side) → Q s.far → Q (cut_by s o d h minus plus).far
unfolding cut_by
cut_keeps Q low s o d h minus plus q = go (lt parallel (abs_of d)) (le #0 i)
  where
    i : Float
    i = div binary64 #1 d

    t1 : Float
    t1 = mul binary64 (sub binary64 (neg h) o) i

    t2 : Float
    t2 = mul binary64 (sub binary64 h o) i

    go : (b c : Bool) → Q (cond b (cond c (moved_far (moved_near s t1 minus) t2 plus) (moved_far (moved_near s t2 plus) t1 minus)) s).far
    go true true = to_keeps Q low (moved_near s t1 minus) t2 plus (subst Q (from_far s t1 minus) q)
    go true false = to_keeps Q low (moved_near s t2 plus) t1 minus (subst Q (from_far s t2 plus) q)
    go false c = q

abbrev Number : Float → Type 0
Number x = T (not (is_nan x))

abbrev Under : Float → Type 0
Under x = T (under x)

below_number : (t x : Float) → lt t x ≡ true → Number x → Number t
unfolding lt is_nan
below_number nan x e n = absurd (clash (sym e))
below_number (inf s) x e n = tt
below_number (fin s m k) x e n = tt

to_under : (s : Interval) (t : Float) (side : Side) → Number s.far → Under t → Under (moved_far s t side).far
unfolding moved_far
to_under s t side n h = go (lt t s.far) refl
  where
    go : (b : Bool) → lt t s.far ≡ b → Under (cond b (record { near = s.near; far = t; near_side = s.near_side; far_side = Some side }) s).far
    go true e = h
    go false e = not_below_under t s.far h e n

-- one axis of a ray: both parts finite and of one sign, the origin beyond the half size
abbrev Leaves : Float → Float → Float → Type 0
Leaves o d h = (Finite o × Finite d) × (T (fits binary64 d) × (Alike o d × (lt h (abs_of o) ≡ true)))

cut_under : (s : Interval) (sign : Bool) (o d h : Float) (minus plus : Side) → Number s.far → Finite o → Finite d → T (fits binary64 d) → Signed sign o → Signed sign d → lt h (abs_of o) ≡ true → lt parallel (abs_of d) ≡ true → Under (cut_by s o d h minus plus).far
unfolding cut_by is_finite_of abs_of
cut_under s sign nan d h minus plus n f g fd p q b k = absurd p
cut_under s sign (inf u) d h minus plus n f g fd p q b k = absurd (clash (sym f))
cut_under s true (fin false m e) d h minus plus n f g fd p q b k = absurd (clash (sym p))
cut_under s true (fin true m e) d h minus plus n f g fd p q b k =
    let i = div binary64 #1 d in
    let c = inverse_counts d fd g k in
    let j = inverse_signed true d q g k in
    let t2 = mul binary64 (sub binary64 h (fin true m e)) i in
    rw (k, zero_le_below i j c)
    (to_under (moved_near s t2 plus) _ minus (subst Number (from_far s t2 plus) n)
    (opposed_under true (sub binary64 (neg h) (fin true m e)) i (mirrored_signed h m e b) j c))
cut_under s false (fin true m e) d h minus plus n f g fd p q b k = absurd (clash p)
cut_under s false (fin false m e) d h minus plus n f g fd p q b k =
    let i = div binary64 #1 d in
    let c = inverse_counts d fd g k in
    let j = inverse_signed false d q g k in
    let t1 = mul binary64 (sub binary64 (neg h) (fin false m e)) i in
    rw (k, zero_le_above i j c)
    (to_under (moved_near s t1 minus) _ plus (subst Number (from_far s t1 minus) n)
    (opposed_under false (sub binary64 h (fin false m e)) i (difference_signed h m e b) j c))

-- such an axis is outside, or it leaves nothing of the ray
axis : (s : Interval) (o d h : Float) (minus plus : Side) → Number s.far → Leaves o d h → (outside_of o d h ≡ true) ⊎ Under (cut_by s o d h minus plus).far
unfolding outside_of
axis s o d h minus plus n ((f, g), (fd, ((sign, (p, q)), b))) = go (lt parallel (abs_of d)) refl
  where
    go : (c : Bool) → lt parallel (abs_of d) ≡ c → (cond c false (lt h (abs_of o)) ≡ true) ⊎ Under (cut_by s o d h minus plus).far
    go true k = inr (cut_under s sign o d h minus plus n f g fd p q b k)
    go false k = inl b

hit_none : (s : Interval) → Under s.far → hit_within s ≡ None
unfolding hit_within
hit_none s h = go (lt s.far s.near)
  where
    go : (b : Bool) → cond b None (cond (le s.far min_local_distance) None (cond (lt min_local_distance s.near) (side_hit_of s.near s.near_side) (side_hit_of s.far s.far_side))) ≡ None
    go true = refl
    go false = rw (under_near s.far h)

box_none : (a b c : Bool) (s : Interval) → ((a || (b || c)) ≡ true) ⊎ Under s.far → cond (a || (b || c)) None (hit_within s) ≡ None
box_none a b c s (inl e) = rw e
box_none a b c s (inr h) = go (a || (b || c))
  where
    go : (t : Bool) → cond t None (hit_within s) ≡ None
    go true = refl
    go false = hit_none s h

whole_number : Number whole_ray.far
unfolding whole_ray is_nan
whole_number = tt

or_1 : (a b c : Bool) → a ≡ true → (a || (b || c)) ≡ true
or_1 a b c e = rw e

or_2 : (a b c : Bool) → b ≡ true → (a || (b || c)) ≡ true
or_2 true b c e = refl
or_2 false b c e = rw e

or_3 : (a b c : Bool) → c ≡ true → (a || (b || c)) ≡ true
or_3 true b c e = refl
or_3 false true c e = refl
or_3 false false c e = e

-- the interval after one axis, two, three
abbrev cut_x : Float → Ray → Interval
cut_x h r = cut_by whole_ray r.origin.x r.direction.x h MinusX PlusX

abbrev cut_y : Interval → Float → Ray → Interval
cut_y s h r = cut_by s r.origin.y r.direction.y h MinusY PlusY

abbrev cut_z : Interval → Float → Ray → Interval
cut_z s h r = cut_by s r.origin.z r.direction.z h MinusZ PlusZ

abbrev out_x : Float → Ray → Bool
out_x h r = outside_of r.origin.x r.direction.x h

abbrev out_y : Float → Ray → Bool
out_y h r = outside_of r.origin.y r.direction.y h

abbrev out_z : Float → Ray → Bool
out_z h r = outside_of r.origin.z r.direction.z h

-- outside, or nothing left
abbrev Out : Float → Float → Float → Ray → Type 0
Out hx hy hz r = ((out_x hx r || (out_y hy r || out_z hz r)) ≡ true) ⊎ Under (cut_z (cut_y (cut_x hx r) hy r) hz r).far

keep_y : (s : Interval) (h : Float) (r : Ray) (Q : Float → Type 0) → ((t x : Float) → lt t x ≡ true → Q x → Q t) → Q s.far → Q (cut_y s h r).far
keep_y s h r Q low q = cut_keeps Q low s r.origin.y r.direction.y h MinusY PlusY q

keep_z : (s : Interval) (h : Float) (r : Ray) → Under s.far → Under (cut_z s h r).far
keep_z s h r q = cut_keeps Under below_under s r.origin.z r.direction.z h MinusZ PlusZ q

number_x : (h : Float) (r : Ray) → Number (cut_x h r).far
number_x h r = cut_keeps Number below_number whole_ray r.origin.x r.direction.x h MinusX PlusX whole_number

left_x : (hx hy hz : Float) (r : Ray) → (out_x hx r ≡ true) ⊎ Under (cut_x hx r).far → Out hx hy hz r
left_x hx hy hz r (inl e) = inl (or_1 (out_x hx r) (out_y hy r) (out_z hz r) e)
left_x hx hy hz r (inr h) = inr (keep_z (cut_y (cut_x hx r) hy r) hz r (keep_y (cut_x hx r) hy r Under below_under h))

left_y : (hx hy hz : Float) (r : Ray) → (out_y hy r ≡ true) ⊎ Under (cut_y (cut_x hx r) hy r).far → Out hx hy hz r
left_y hx hy hz r (inl e) = inl (or_2 (out_x hx r) (out_y hy r) (out_z hz r) e)
left_y hx hy hz r (inr h) = inr (keep_z (cut_y (cut_x hx r) hy r) hz r h)

left_z : (hx hy hz : Float) (r : Ray) → (out_z hz r ≡ true) ⊎ Under (cut_z (cut_y (cut_x hx r) hy r) hz r).far → Out hx hy hz r
left_z hx hy hz r (inl e) = inl (or_3 (out_x hx r) (out_y hy r) (out_z hz r) e)
left_z hx hy hz r (inr h) = inr h

box_out : (hx hy hz : Float) (r : Ray) → Out hx hy hz r → intersect_box_of hx hy hz r ≡ None
unfolding intersect_box_of inside_of
box_out hx hy hz r o = box_none (out_x hx r) (out_y hy r) (out_z hz r) (cut_z (cut_y (cut_x hx r) hy r) hz r) o

box_x : (hx hy hz : Float) (r : Ray) → Leaves r.origin.x r.direction.x hx → intersect_box_of hx hy hz r ≡ None
box_x hx hy hz r l = box_out hx hy hz r (left_x hx hy hz r (axis whole_ray r.origin.x r.direction.x hx MinusX PlusX whole_number l))

box_y : (hx hy hz : Float) (r : Ray) → Leaves r.origin.y r.direction.y hy → intersect_box_of hx hy hz r ≡ None
box_y hx hy hz r l = box_out hx hy hz r (left_y hx hy hz r (axis (cut_x hx r) r.origin.y r.direction.y hy MinusY PlusY (number_x hx r) l))

box_z : (hx hy hz : Float) (r : Ray) → Leaves r.origin.z r.direction.z hz → intersect_box_of hx hy hz r ≡ None
box_z hx hy hz r l = box_out hx hy hz r (left_z hx hy hz r (axis (cut_y (cut_x hx r) hy r) r.origin.z r.direction.z hz MinusZ PlusZ (keep_y (cut_x hx r) hy r Number below_number (number_x hx r)) l))

-- ---- any shape

-- one axis of the local ray, whose direction was divided by a length l above 0
alike_along : (o d l : Float) → T (positive l) → recedes_of o d ≡ true → Alike o (div binary64 d l)
unfolding recedes_of
alike_along o d l p e = go (product_alike o d e)
  where
    go : Alike o d → Alike o (div binary64 d l)
    go (s, (a, b)) = (s, (a, quotient_signed s d l b p))

leaves_along : (o d h l : Float) → T (positive l) → Finite o → Finite (div binary64 d l) → leaves_of o d h ≡ true → Leaves o (div binary64 d l) h
unfolding leaves_of
leaves_along o d h l p f g e = ((f, g), (div-fits binary64 d l, (alike_along o d l p (and_left (recedes_of o d) (lt h (abs_of o)) e), and_right (recedes_of o d) (lt h (abs_of o)) e)))

abbrev FiniteVec : Vec3 → Type 0
FiniteVec v = Finite v.x × (Finite v.y × Finite v.z)

finite_vec : (v : Vec3) → is_finite_vec_of v ≡ true → FiniteVec v
unfolding is_finite_vec_of
finite_vec v e =
    let xy = and_left (is_finite_of v.x && is_finite_of v.y) (is_finite_of v.z) e in
    (and_left (is_finite_of v.x) (is_finite_of v.y) xy, (and_right (is_finite_of v.x) (is_finite_of v.y) xy, and_right (is_finite_of v.x && is_finite_of v.y) (is_finite_of v.z) e))

any_of : (a b c : Bool) → (a || (b || c)) ≡ true → (a ≡ true) ⊎ ((b ≡ true) ⊎ (c ≡ true))
any_of true b c e = inl refl
any_of false true c e = inr (inl refl)
any_of false false c e = inr (inr e)

shape_none : (g : PrimitiveGeometry) (o d : Vec3) (l w p : Float) → T (positive l) → FiniteVec o → FiniteVec (divide_of d l) → is_behind_of g o d ≡ true → intersect_local_of g (record { origin = o; direction = divide_of d l; wavelength_nm = w; energy = p }) ≡ None
unfolding intersect_local_of is_behind_of divide_of
shape_none (Plane a b) o d l w p k (ox, (oy, oz)) (dx, (dy, dz)) e = plane_none a b _ (alike_along o.z d.z l k e) oz dz
shape_none (Disk a b) o d l w p k (ox, (oy, oz)) (dx, (dy, dz)) e = disk_none a b _ (alike_along o.z d.z l k e) oz dz
shape_none (Sphere a) o d l w p k f g e = absurd (clash (sym e))
shape_none (Cylinder a b) o d l w p k f g e = absurd (clash (sym e))
shape_none (ClosedCylinder a b) o d l w p k f g e = absurd (clash (sym e))
shape_none (Box a b c) o d l w p k (ox, (oy, oz)) (dx, (dy, dz)) e = go (any_of (leaves_of o.x d.x a) (leaves_of o.y d.y b) (leaves_of o.z d.z c) e)
  where
    r : Ray
    r = record { origin = o; direction = record { x = div binary64 d.x l; y = div binary64 d.y l; z = div binary64 d.z l }; wavelength_nm = w; energy = p }

    go : (leaves_of o.x d.x a ≡ true) ⊎ ((leaves_of o.y d.y b ≡ true) ⊎ (leaves_of o.z d.z c ≡ true)) → intersect_box_of a b c r ≡ None
    go (inl x) = box_x a b c r (leaves_along o.x d.x a l k ox dx x)
    go (inr (inl y)) = box_y a b c r (leaves_along o.y d.y b l k oy dy y)
    go (inr (inr z)) = box_z a b c r (leaves_along o.z d.z c l k oz dz z)

finite_ray : (r : Ray) → is_finite_ray_of r ≡ true → FiniteVec r.origin × FiniteVec r.direction
unfolding is_finite_ray_of
finite_ray r e =
    let a = is_finite_vec_of r.origin in
    let b = is_finite_vec_of r.direction in
    let abc = and_left (a && b && is_finite_of r.wavelength_nm) (is_finite_of r.energy) e in
    let ab = and_left (a && b) (is_finite_of r.wavelength_nm) abc in
    (finite_vec r.origin (and_left a b ab), finite_vec r.direction (and_right a b ab))

made_none : (g : PrimitiveGeometry) (o d : Vec3) (l : Float) (r : Ray) → T (positive l) → is_behind_of g o d ≡ true → meet_along_of g (ray_by o r (Some (divide_of d l))) ≡ None
unfolding ray_by new_ray_of meet_along_of meet_by made_ray
made_none g o d l r k e = go (is_finite_ray_of q) refl
  where
    q : Ray
    q = record { origin = o; direction = divide_of d l; wavelength_nm = r.wavelength_nm; energy = r.energy }

    go : (c : Bool) → is_finite_ray_of q ≡ c → meet_along_of g (made_ray (cond c (value q) (refusal 16))) ≡ None
    go true f =
        let parts = finite_ray q f in
        ap (meet_by q) (shape_none g o d l r.wavelength_nm r.energy k parts.0 parts.1 e)
    go false f = refl

pub behind_misses : (g : PrimitiveGeometry) (o d : Vec3) (r : Ray) → is_behind_of g o d ≡ true → meet_along_of g (ray_from_of o d r) ≡ None
unfolding ray_from_of unit_of ray_by meet_along_of
behind_misses g o d r e = go (le l min_length) (is_finite_of l) refl refl
  where
    l : Float
    l = norm_of d

    go : (a b : Bool) → le l min_length ≡ a → is_finite_of l ≡ b → meet_along_of g (ray_by o r (cond a None (cond b (Some (divide_of d l)) None))) ≡ None
    go true b p q = refl
    go false false p q = refl
    go false true p q = made_none g o d l r (length_positive l short (negsuc 100) (omega arith) (subst (λ (x : Float). le l x ≡ false) short_is p) q) e

pub miss_is : (g : PrimitiveGeometry) (w : Mat4) (r : Ray) (o d : Vec3) (b : Bool) → o ≡ transform_point_of w r.origin → d ≡ transform_direction_of w r.direction → b ≡ is_behind_of g o d → b ≡ true → None ≡ meet_of g w r
unfolding meet_of
miss_is g w r o d b p q e t =
    sym
    (ap (λ (v : Vec3). meet_along_of g (ray_from_of v (transform_direction_of w r.direction) r)) (sym p)
    ∙ ap (λ (v : Vec3). meet_along_of g (ray_from_of o v r)) (sym q)
    ∙ behind_misses g o d r (sym e ∙ t))
