-- A hit in a shape's own coordinates, and the choice among candidates.
use Rattle.std.specs.Prelude.{Float, Option, None, Some}
use Rattle.std.specs.Float.{binary64}
use Rattle.std.specs.Float.Ieee.{of_bits}
use Rattle.rays.specs.declared.vector.Vec3.{Vec3}
use Rattle.geometry.specs.declared.LocalHit.{LocalHit}

-- 1e-12: a direction's part below it in size is taken as 0
abbrev pub parallel : Float
parallel = of_bits binary64 0x3d719799812dea11

abbrev pub hit_at : Float → Vec3 → Option LocalHit
hit_at t n = Some (record { t = t; normal = n })

-- the first candidate that is there
unfoldable pub first_there : Option LocalHit → Option LocalHit → Option LocalHit
first_there (Some h) b = Some h
first_there None b = b
