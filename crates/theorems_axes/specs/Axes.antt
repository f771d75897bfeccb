-- What is said of a detector's axes: they are unit vectors, but for rounding. A finite double is taken as a whole
-- number of the smallest one, 2 ^ -1074, with a sign (`HasValue` of the kit), so that its square is a whole number too.
use Rattle.std.specs.Prelude.{ℕ, ◌+◌, ◌*◌, ◌^◌, ◌≤◌, Bool, ◌&&◌}
use Rattle.std.specs.Float.{binary64}
use Rattle.std.specs.Float.Ieee.{fits}
use Rattle.std.specs.Float.Ieee.Exact.{HasValue}
use Rattle.rays.specs.declared.vector.Vec3.{Vec3}
use Rattle.detector.specs.declared.face.Face.{Face}

-- 1 in units of the smallest double, and 2 ^ -40
abbrev pub L : ℕ
L = 2 ^ 1074

abbrev pub E : ℕ
E = 2 ^ 1034

-- a and b differ by at most e
abbrev pub Within : ℕ → ℕ → ℕ → Type 0
Within e a b = (a ≤ b + e) × (b ≤ a + e)

-- the parts are doubles, as those of every vector in the code are
abbrev pub are_doubles : Vec3 → Bool
are_doubles v = fits binary64 v.x && fits binary64 v.y && fits binary64 v.z

-- finite parts of the sizes a, b, c in units, whose squares add up to 1 to within 2 ^ -40
pub record IsUnit (v : Vec3) : Type 0 where
  pub r : Bool
  pub s : Bool
  pub t : Bool
  pub a : ℕ
  pub b : ℕ
  pub c : ℕ
  pub is_x : HasValue v.x r a L
  pub is_y : HasValue v.y s b L
  pub is_z : HasValue v.z t c L
  pub unit : Within (E * L) (a * a + b * b + c * c) (L * L)

pub record UnitAxes (f : Face) : Type 0 where
  pub normal : IsUnit f.normal
  pub up : IsUnit f.up
  pub right : IsUnit f.right
