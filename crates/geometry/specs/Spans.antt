-- Nobody has to believe this page: a box as the code goes about it, tied to Slabs by `inside_is` (proofs/Spans.antt).
-- The distances of all three axes come first, and which sides set the two ends only where one of them is met.
use Rattle.std.specs.Prelude.{Float, false, cond, Option, None, Some}
use Rattle.std.specs.Float.{inf, binary64}
use Rattle.std.specs.Float.Ieee.{sub, mul, div, neg, lt, le}
use Rattle.doubles.specs.Doubles.{abs_of, #0, #1}
use Rattle.rays.specs.declared.vector.Vec3.{Vec3}
use Rattle.rays.specs.Rays.{min_local_distance}
use Rattle.geometry.specs.declared.LocalHit.{LocalHit}
use Rattle.geometry.specs.declared.slab.Side.{Side}
use Rattle.geometry.specs.declared.slab.Side.TheVariants.{MinusX, PlusX, MinusY, PlusY, MinusZ, PlusZ}
use Rattle.geometry.specs.declared.slab.Span.{Span}
use Rattle.geometry.specs.declared.slab.Ends.{Ends}
use Rattle.geometry.specs.Hits.{parallel}
use Rattle.geometry.specs.Slabs.{side_hit_of}

-- the place of the plane that a ray comes to first, i being 1 over its direction
unfoldable pub first_face_of : Float → Float → Float
first_face_of i h = cond (le #0 i) (neg h) h

-- where a ray enters between an axis's planes and leaves them; all of a ray along them
unfoldable pub along_of : Float → Float → Float → Span
along_of o d h =
    let i = div binary64 #1 d in
    let face = first_face_of i h in
    cond
    (lt parallel (abs_of d))
    (record { near = mul binary64 (sub binary64 face o) i; far = mul binary64 (sub binary64 (neg face) o) i })
    (record { near = neg (inf false); far = inf false })

-- an end moved to t where that is farther, or nearer
unfoldable pub later_of : Float → Float → Float
later_of t end = cond (lt end t) t end

unfoldable pub sooner_of : Float → Float → Float
sooner_of t end = cond (lt t end) t end

-- both ends after one axis, two, all
unfoldable pub near_ends_of : Span → Span → Span → Ends
near_ends_of x y z =
    let one = later_of x.near (neg (inf false)) in
    let two = later_of y.near one in
    record { one = one; two = two; all = later_of z.near two }

unfoldable pub far_ends_of : Span → Span → Span → Ends
far_ends_of x y z =
    let one = sooner_of x.far (inf false) in
    let two = sooner_of y.far one in
    record { one = one; two = two; all = sooner_of z.far two }

-- one side for a ray that goes up its axis, another for one that goes down
unfoldable pub side_for_of : Float → Side → Side → Side
side_for_of d up down = cond (le #0 (div binary64 #1 d)) up down

-- the side that set an end: the last axis that moved it
unfoldable pub near_side_of : Vec3 → Span → Span → Span → Ends → Option Side
near_side_of d x y z ends =
    cond (lt ends.two z.near) (Some (side_for_of d.z MinusZ PlusZ))
    (cond (lt ends.one y.near) (Some (side_for_of d.y MinusY PlusY))
    (cond (lt (neg (inf false)) x.near) (Some (side_for_of d.x MinusX PlusX)) None))

unfoldable pub far_side_of : Vec3 → Span → Span → Span → Ends → Option Side
far_side_of d x y z ends =
    cond (lt z.far ends.two) (Some (side_for_of d.z PlusZ MinusZ))
    (cond (lt y.far ends.one) (Some (side_for_of d.y PlusY MinusY))
    (cond (lt x.far (inf false)) (Some (side_for_of d.x PlusX MinusX)) None))

-- the near end, or the far one where the near end is not ahead
unfoldable pub hit_between_of : Vec3 → Span → Span → Span → Option LocalHit
hit_between_of d x y z =
    let near = near_ends_of x y z in
    let far = far_ends_of x y z in
    cond (lt far.all near.all) None
    (cond (le far.all min_local_distance) None
    (cond (lt min_local_distance near.all) (side_hit_of near.all (near_side_of d x y z near))
    (side_hit_of far.all (far_side_of d x y z far))))
