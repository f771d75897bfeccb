-- The solids of a scene as two lists of numbers, as they stand in the scene text: of each solid the doubles p q r, rho,
-- a to f, m (16) and w (16), and the whole numbers shape, active, finish, medium.
use Rattle.std.specs.Prelude.{ℕ, zero, suc, ◌+◌, ◌*◌, Bool, cond, ◌&&◌, List, eqb, leb, Float, length, get_or, Option, None, Some}
use Rattle.std.specs.Float.{nan}
use Rattle.error.specs.Refusals.{Checked, passed, refused_at}
use Rattle.rays.specs.declared.matrix.Row.{Row}
use Rattle.rays.specs.declared.matrix.Mat4.{Mat4}
use Rattle.material.specs.declared.OpticalMedium.{OpticalMedium}
use Rattle.material.specs.declared.SurfaceFinish.{SurfaceFinish}
use Rattle.material.specs.Media.{last_finish, numbered_finish_of, or_clear_of, last_medium, numbered_medium_of, or_air_of}
use Rattle.geometry.specs.declared.PrimitiveGeometry.{PrimitiveGeometry}
use Rattle.geometry.specs.Shapes.{last_shape, numbered_geometry_of}
use Rattle.scene.specs.declared.SolidNo.{SolidNo}
use Rattle.scene.specs.declared.solids.Solids as code
use Rattle.scene.specs.declared.NonSeqObject.{NonSeqObject}

-- doubles and whole numbers of a solid, and where its matrix and inverse start
abbrev pub solid_doubles : ℕ
solid_doubles = 42

abbrev pub solid_wholes : ℕ
solid_wholes = 4

abbrev pub matrix_at : ℕ
matrix_at = 10

abbrev pub inverse_at : ℕ
inverse_at = 26

-- the most solids (else 3)
abbrev pub max_solids : ℕ
max_solids = 32

-- double j and whole number j of solid i
abbrev value_at : List Float → ℕ → ℕ → Float
value_at x i j = get_or x (i * solid_doubles + j) nan

abbrev tag_at : List ℕ → ℕ → ℕ → ℕ
tag_at k i j = get_or k (i * solid_wholes + j) 0

unfoldable pub row_at_of : List Float → ℕ → Row
row_at_of x i = record { a = get_or x i nan; b = get_or x (i + 1) nan; c = get_or x (i + 2) nan; d = get_or x (i + 3) nan }

unfoldable pub mat_at_of : List Float → ℕ → Mat4
mat_at_of x i = record { r0 = row_at_of x i; r1 = row_at_of x (i + 4); r2 = row_at_of x (i + 8); r3 = row_at_of x (i + 12) }

-- the shape of solid i, if there is one of its number
unfoldable pub shape_in_of : List Float → List ℕ → ℕ → Option PrimitiveGeometry
shape_in_of x k i =
    numbered_geometry_of (get_or k (i * solid_wholes) 0) (get_or x (i * solid_doubles) nan) (value_at x i 1) (value_at x i 2)

-- solid i with the shape g
unfoldable pub solid_with : List Float → List ℕ → ℕ → PrimitiveGeometry → NonSeqObject
solid_with x k i g =
    record {
      id = record { 0 = i };
      geometry = g;
      transform = record {
        matrix = mat_at_of x (i * solid_doubles + matrix_at);
        inverse = mat_at_of x (i * solid_doubles + inverse_at);
      };
      is_active = eqb (tag_at k i 1) 1;
    }

unfoldable pub object_with : List Float → List ℕ → ℕ → Option PrimitiveGeometry → Option NonSeqObject
object_with x k i (Some g) = Some (solid_with x k i g)
object_with x k i None = None

unfoldable pub read_object_of : List Float → List ℕ → ℕ → Option NonSeqObject
read_object_of x k i = object_with x k i (shape_in_of x k i)

-- whether both lists reach to the end of solid i
unfoldable pub holds : List Float → List ℕ → ℕ → Bool
holds x k i = leb (i * solid_doubles + solid_doubles) (length x) && leb (i * solid_wholes + solid_wholes) (length k)

-- solid i, where the lists hold it and there is a shape of its number
unfoldable pub object_at_of : List Float → List ℕ → ℕ → Option NonSeqObject
object_at_of x k i = cond (holds x k i) (read_object_of x k i) None

-- the solids of the code's lists
abbrev pub objects_in : code.Solids → ℕ → Option NonSeqObject
objects_in s = object_at_of s.values.now s.tags.now

-- a finish that the lists do not hold, or that is none, reads as clear, a medium as air
unfoldable pub finish_at_of : List Float → List ℕ → SolidNo → SurfaceFinish
finish_at_of x k s =
    let i = s.0 in
    or_clear_of (cond (holds x k i) (numbered_finish_of (tag_at k i 2) (value_at x i 3)) None)

unfoldable pub medium_at_of : List Float → List ℕ → SolidNo → OpticalMedium
medium_at_of x k s =
    let i = s.0 in
    or_air_of (cond (holds x k i) (numbered_medium_of (tag_at k i 3) (value_at x i 4) (value_at x i 5) (value_at x i 6)
    (value_at x i 7) (value_at x i 8) (value_at x i 9)) None)

-- shape 0 to 5, active 0 or 1, finish 0 to 2, medium 0 to 3
unfoldable pub tags_fit_of : ℕ → ℕ → ℕ → ℕ → Bool
tags_fit_of shape active finish medium =
    leb shape last_shape && (leb active 1 && (leb finish last_finish && leb medium last_medium))

-- 17 at the first of the n solids from i on whose whole numbers do not fit
unfoldable pub check_tags_of : List ℕ → ℕ → ℕ → Checked Unit
check_tags_of k zero i = passed tt
check_tags_of k (suc n) i =
    cond (tags_fit_of (get_or k (i * solid_wholes) 0) (tag_at k i 1) (tag_at k i 2) (tag_at k i 3)) (check_tags_of k n (i + 1))
    (refused_at 17 i)

-- 17 at 0 for lists of another length than n solids need
unfoldable pub check_solids_of : List Float → List ℕ → ℕ → Checked Unit
check_solids_of x k n =
    cond (eqb (length x) (n * solid_doubles) && eqb (length k) (n * solid_wholes)) (check_tags_of k n 0) (refused_at 17 0)
