-- ClosedCylinder, an addition to the Rust (document 02, a): the side of a cylinder around the z axis and its two ends.
-- Of up to four candidates the smallest distance wins; it is kept which wall that one lies on.
use Rattle.std.specs.Prelude.{Float, ◌≡◌, Bool, true, false, cond, ◌&&◌, ◌⊎◌, Option, None, Some}
use Rattle.std.specs.Float.{binary64}
use Rattle.std.specs.Float.Ieee.{sub, mul, div, neg, lt, le}
use Rattle.doubles.specs.Doubles.{abs_of, #0, #1}
use Rattle.rays.specs.declared.vector.Vec3.{Vec3}
use Rattle.rays.specs.declared.Ray.{Ray}
use Rattle.rays.specs.Rays.{min_local_distance}
use Rattle.rays.specs.Vectors.{vec3}
use Rattle.geometry.specs.declared.LocalHit.{LocalHit}
use Rattle.geometry.specs.declared.round.Roots.{Roots}
use Rattle.geometry.specs.declared.closed.Wall.{Wall}
use Rattle.geometry.specs.declared.closed.Wall.TheVariants.{Side, Lower, Upper}
use Rattle.geometry.specs.declared.closed.Offer.{Offer}
use Rattle.geometry.specs.Hits.{parallel, hit_at}
use Rattle.geometry.specs.Flat.{from_axis_of}
use Rattle.geometry.specs.Round.{cylinder_roots_of, is_on_side_of, side_normal_of}

-- ---- the candidates that qualify: a distance and the wall there, or none

-- on the side, at a distance of `Cylinder`
unfoldable pub side_offer_of : Float → Ray → Float → Option Offer
side_offer_of half r t = cond (is_on_side_of half r t) (Some (record { t = t; wall = Side })) None

-- the distance to an end plane: end less origin over direction
unfoldable pub end_distance_of : Float → Ray → Float
end_distance_of end r = div binary64 (sub binary64 end r.origin.z) r.direction.z

-- a distance above 1e-9 whose point's squared distance from the axis is at most the radius times itself
unfoldable pub is_on_end_of : Float → Ray → Float → Bool
is_on_end_of radius r t = lt min_local_distance t && le (from_axis_of r t) (mul binary64 radius radius)

-- on an end, only where the direction along z is at least 1e-12 in size
unfoldable pub end_offer_of : Float → Float → Ray → Wall → Option Offer
end_offer_of radius end r wall =
    let t = end_distance_of end r in
    cond (le parallel (abs_of r.direction.z) && is_on_end_of radius r t) (Some (record { t = t; wall = wall })) None

-- ---- the choice

-- the smaller distance; on a tie the first
unfoldable pub nearer_offer_of : Option Offer → Option Offer → Option Offer
nearer_offer_of None b = b
nearer_offer_of (Some a) None = Some a
nearer_offer_of (Some a) (Some b) = cond (lt b.t a.t) (Some b) (Some a)

unfoldable pub sides_of : Float → Ray → Option Roots → Option Offer
sides_of half r (Some c) = nearer_offer_of (side_offer_of half r c.first) (side_offer_of half r c.second)
sides_of half r None = None

unfoldable pub ends_of : Float → Float → Ray → Option Offer
ends_of radius half r = nearer_offer_of (end_offer_of radius (neg half) r Lower) (end_offer_of radius half r Upper)

-- on a tie the side before the lower end before the upper
unfoldable pub closest_wall_of : Float → Float → Ray → Option Offer
closest_wall_of radius half r = nearer_offer_of (sides_of half r (cylinder_roots_of radius r)) (ends_of radius half r)

-- ---- the hit

-- the side's normal is `Cylinder`'s; those of the ends point outward along z
unfoldable pub wall_normal_of : Float → Ray → Float → Wall → Vec3
wall_normal_of radius r t Side = side_normal_of radius r t
wall_normal_of radius r t Lower = vec3 #0 #0 (neg #1)
wall_normal_of radius r t Upper = vec3 #0 #0 #1

unfoldable pub wall_hit : Float → Ray → Option Offer → Option LocalHit
wall_hit radius r (Some o) = hit_at o.t (wall_normal_of radius r o.t o.wall)
wall_hit radius r None = None

unfoldable pub intersect_closed_cylinder_of : Float → Float → Ray → Option LocalHit
intersect_closed_cylinder_of radius half r = wall_hit radius r (closest_wall_of radius half r)

-- ---- what the request says of it

abbrev pub IsRoot : Float → Option Roots → Type 0
IsRoot t (Some c) = (t ≡ c.first) ⊎ (t ≡ c.second)
IsRoot t None = ⊥

abbrev pub IsEnd : Float → Float → Ray → Float → Type 0
IsEnd radius end r t =
    (t ≡ end_distance_of end r) × ((le parallel (abs_of r.direction.z) ≡ true) × (is_on_end_of radius r t ≡ true))

-- what qualifies on a wall: a candidate of it that is above 1e-9 and inside the other limit
abbrev pub Qualifies : Float → Float → Ray → Float → Wall → Type 0
Qualifies radius half r t Side = IsRoot t (cylinder_roots_of radius r) × (is_on_side_of half r t ≡ true)
Qualifies radius half r t Lower = IsEnd radius (neg half) r t
Qualifies radius half r t Upper = IsEnd radius half r t

-- the side before the lower end before the upper
abbrev pub is_before : Wall → Wall → Bool
is_before Side Side = false
is_before Side Lower = true
is_before Side Upper = true
is_before Lower Side = false
is_before Lower Lower = false
is_before Lower Upper = true
is_before Upper wall = false

-- what is answered: none, and no candidate qualifies; or the distance of one that qualifies, with its normal, and none
-- is smaller, nor as small on a wall before it
abbrev pub IsMet : Float → Float → Ray → Option LocalHit → Type 0
IsMet radius half r None = (t : Float) (wall : Wall) → Qualifies radius half r t wall → ⊥
IsMet radius half r (Some h) =
    (wall : Wall) ×
    (Qualifies radius half r h.t wall ×
    ((h.normal ≡ wall_normal_of radius r h.t wall) ×
    ((t : Float) (other : Wall) → Qualifies radius half r t other → (le h.t t ≡ true) ×
    (is_before other wall ≡ true → lt h.t t ≡ true))))
