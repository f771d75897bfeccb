-- The box with its sides left to the end is the box. Assumes nothing.
use Rattle.std.specs.Prelude.{Option, Some}
use mathlib.Core.Path.{◌≡◌, refl, sym, ap, ◌∙◌}
use mathlib.Core.Bool.{Bool, true, false, cond}
use lib.Ieee.{Float, nan, inf, fin, binary64, sub, mul, div, neg, lt, le}
use Rattle.doubles.specs.Doubles.{abs_of, #0, #1}
use Rattle.rays.specs.declared.Ray.{Ray}
use Rattle.geometry.specs.declared.LocalHit.{LocalHit}
use Rattle.geometry.specs.declared.slab.Side.{Side}
use Rattle.geometry.specs.declared.slab.Side.TheVariants.{MinusX, PlusX, MinusY, PlusY, MinusZ, PlusZ}
use Rattle.geometry.specs.declared.slab.Span.{Span}
use Rattle.geometry.specs.Hits.{parallel}
use Rattle.geometry.specs.Slabs.{Interval, whole_ray, moved_near, moved_far, cut_by, inside_of, hit_within}
use Rattle.geometry.specs.Spans.{first_face_of, along_of, later_of, sooner_of, near_ends_of, far_ends_of, side_for_of, near_side_of, far_side_of, hit_between_of}

-- nothing is below minus infinity, and infinity is below nothing
none_below : (x : Float) → lt x (neg (inf false)) ≡ false
unfolding lt neg
none_below nan = refl
none_below (inf true) = refl
none_below (inf false) = refl
none_below (fin s m e) = refl

none_above : (x : Float) → lt (inf false) x ≡ false
unfolding lt
none_above nan = refl
none_above (inf s) = refl
none_above (fin s m e) = refl

turned_twice : (x : Float) → neg (neg x) ≡ x
unfolding neg
turned_twice nan = refl
turned_twice (inf true) = refl
turned_twice (inf false) = refl
turned_twice (fin true m e) = refl
turned_twice (fin false m e) = refl

-- an interval with one axis more
unfoldable with : Interval → Span → Side → Side → Interval
with s x first last =
    record {
      near = later_of x.near s.near;
      far = sooner_of x.far s.far;
      near_side = cond (lt s.near x.near) (Some first) s.near_side;
      far_side = cond (lt x.far s.far) (Some last) s.far_side;
    }

abbrev made : Float → Float → Option Side → Option Side → Interval
made near far first last = record { near = near; far = far; near_side = first; far_side = last }

both : (s : Interval) (t u : Float) (a b : Side) → moved_far (moved_near s t a) u b ≡ with s (record { near = t; far = u }) a b
unfolding moved_far moved_near with later_of sooner_of
both s t u a b = go (lt s.near t)
  where
    ends : (n : Float) (k : Option Side) (q : Bool) → cond q (made n u k (Some b)) (made n s.far k s.far_side) ≡ made n (cond q u s.far) k (cond q (Some b) s.far_side)
    ends n k true = refl
    ends n k false = refl

    go : (p : Bool) → moved_far (cond p (made t s.far (Some a) s.far_side) s) u b ≡ made (cond p t s.near) (cond (lt u s.far) u s.far) (cond p (Some a) s.near_side) (cond (lt u s.far) (Some b) s.far_side)
    go true = ends t (Some a) (lt u s.far)
    go false = ends s.near s.near_side (lt u s.far)

all_kept : (s : Interval) (a b : Side) → s ≡ with s (record { near = neg (inf false); far = inf false }) a b
unfolding with later_of sooner_of
all_kept s a b = rw (none_below s.near, none_above s.far)

cut_is : (s : Interval) (o d h : Float) (minus plus : Side) → cut_by s o d h minus plus ≡ with s (along_of o d h) (side_for_of d minus plus) (side_for_of d plus minus)
unfolding cut_by along_of first_face_of side_for_of
cut_is s o d h minus plus = go (lt parallel (abs_of d)) (le #0 i)
  where
    i : Float
    i = div binary64 #1 d

    at : Float → Float
    at x = mul binary64 (sub binary64 x o) i

    go : (b c : Bool) → cond b (cond c (moved_far (moved_near s (at (neg h)) minus) (at h) plus) (moved_far (moved_near s (at h) plus) (at (neg h)) minus)) s ≡ with s (cond b (record { near = at (cond c (neg h) h); far = at (neg (cond c (neg h) h)) }) (record { near = neg (inf false); far = inf false })) (cond c minus plus) (cond c plus minus)
    go true true = both s (at (neg h)) (at h) minus plus ∙ ap (λ (x : Float). with s (record { near = at (neg h); far = at x }) minus plus) (sym (turned_twice h))
    go true false = both s (at h) (at (neg h)) plus minus
    go false c = all_kept s (cond c minus plus) (cond c plus minus)

-- what three axes leave
three : (x y z : Span) (r : Ray) → hit_within (with (with (with whole_ray x (side_for_of r.direction.x MinusX PlusX) (side_for_of r.direction.x PlusX MinusX)) y (side_for_of r.direction.y MinusY PlusY) (side_for_of r.direction.y PlusY MinusY)) z (side_for_of r.direction.z MinusZ PlusZ) (side_for_of r.direction.z PlusZ MinusZ)) ≡ hit_between_of r.direction x y z
unfolding hit_within with whole_ray hit_between_of near_ends_of far_ends_of near_side_of far_side_of
three x y z r = refl

pub inside_is : (hx hy hz : Float) (r : Ray) → hit_within (inside_of hx hy hz r) ≡ hit_between_of r.direction (along_of r.origin.x r.direction.x hx) (along_of r.origin.y r.direction.y hy) (along_of r.origin.z r.direction.z hz)
unfolding inside_of
inside_is hx hy hz r =
    rw (cut_is whole_ray r.origin.x r.direction.x hx MinusX PlusX, cut_is (with whole_ray (along_of r.origin.x r.direction.x hx) (side_for_of r.direction.x MinusX PlusX) (side_for_of r.direction.x PlusX MinusX)) r.origin.y r.direction.y hy MinusY PlusY)
    (ap hit_within (cut_is _ r.origin.z r.direction.z hz MinusZ PlusZ) ∙ three _ _ _ r)

-- by the spans of the three axes and what lies between them
pub inside_by : (hx hy hz : Float) (r : Ray) (x y z : Span) (a : Option LocalHit) → x ≡ along_of r.origin.x r.direction.x hx → y ≡ along_of r.origin.y r.direction.y hy → z ≡ along_of r.origin.z r.direction.z hz → a ≡ hit_between_of r.direction x y z → a ≡ hit_within (inside_of hx hy hz r)
inside_by hx hy hz r x y z a ex ey ez e = e ∙ rw (ex, ey, ez) (sym (inside_is hx hy hz r))
