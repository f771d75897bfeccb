-- The given rays as two lists of numbers, as they stand in the scene text: of each ray the doubles of its origin and
-- direction, wavelength and power, and the whole numbers bounce, number of media and eight media.
use Rattle.std.specs.Prelude.{ℕ, zero, suc, ◌+◌, ◌*◌, Bool, true, false, cond, ◌&&◌, List, [], ◌∷◌, leb, ltb, eqb, Float, length, get_or, replicate}
use Rattle.std.specs.Float.{nan, binary64}
use Rattle.std.specs.Float.Ieee.{of_bits, add}
use Rattle.error.specs.Refusals.{Checked, passed, refused_at, after}
use Rattle.rays.specs.declared.Ray.{Ray}
use Rattle.rays.specs.Vectors.{vec3}
use Rattle.rays.specs.Rays.{is_valid_ray_of}
use Rattle.scene.specs.declared.SolidNo.{SolidNo}
use Rattle.media.specs.declared.Media.{Media}
use Rattle.media.specs.Media.{no_solid, solid_in, max_media}
use Rattle.step.specs.declared.ActiveRay.{ActiveRay}
use Rattle.given_rays.specs.declared.GivenRays as code

-- doubles and whole numbers of a ray
abbrev pub ray_doubles : ℕ
ray_doubles = 8

abbrev pub ray_wholes : ℕ
ray_wholes = 10

-- the most rays (else 3), and room for one more, so that 3 comes in its order
abbrev pub max_rays : ℕ
max_rays = 4096

abbrev pub ray_room : ℕ
ray_room = max_rays + 1

-- double j and whole number j of ray i
abbrev value_at : List Float → ℕ → ℕ → Float
value_at v i j = get_or v (i * ray_doubles + j) nan

abbrev tag_at : List ℕ → ℕ → ℕ → ℕ
tag_at t i j = get_or t (i * ray_wholes + j) 0

abbrev solid_no_at : List ℕ → ℕ → ℕ → SolidNo
solid_no_at t i j = record { 0 = tag_at t i j }

unfoldable pub read_ray_of : List Float → ℕ → Ray
read_ray_of v i =
    record {
      origin = vec3 (get_or v (i * ray_doubles) nan) (value_at v i 1) (value_at v i 2);
      direction = vec3 (value_at v i 3) (value_at v i 4) (value_at v i 5);
      wavelength_nm = value_at v i 6;
      energy = value_at v i 7;
    }

-- the eight media, then empty places
unfoldable pub read_media_of : List ℕ → ℕ → Media
read_media_of t i =
    record {
      list =
          solid_no_at t i 2 ∷ solid_no_at t i 3 ∷ solid_no_at t i 4 ∷ solid_no_at t i 5 ∷ solid_no_at t i 6 ∷ solid_no_at t i 7
          ∷ solid_no_at t i 8 ∷ solid_no_at t i 9
          ∷ no_solid ∷ no_solid ∷ no_solid ∷ no_solid ∷ no_solid ∷ no_solid ∷ no_solid ∷ no_solid
          ∷ no_solid ∷ no_solid ∷ no_solid ∷ no_solid ∷ no_solid ∷ no_solid ∷ no_solid ∷ no_solid ∷ [];
      depth = tag_at t i 1;
    }

-- what stands for a ray that the lists do not hold
unfoldable pub no_ray_of : ActiveRay
no_ray_of =
    record {
      ray = record { origin = vec3 nan nan nan; direction = vec3 nan nan nan; wavelength_nm = nan; energy = nan };
      bounce_count = 0;
      reflection_count = 0;
      tir_count = 0;
      media = record { list = replicate max_media no_solid; depth = 0 };
    }

-- given ray i
unfoldable pub given_at_of : List Float → List ℕ → ℕ → ActiveRay
given_at_of v t i =
    cond (leb (i * ray_doubles + ray_doubles) (length v) && leb (i * ray_wholes + ray_wholes) (length t))
    (record {
      ray = read_ray_of v i;
      bounce_count = get_or t (i * ray_wholes) 0;
      reflection_count = 0;
      tir_count = 0;
      media = read_media_of t i;
    })
    no_ray_of

-- the given rays of the code's lists
abbrev pub rays_given : code.GivenRays → ℕ → ActiveRay
rays_given g = given_at_of g.values.now g.tags.now

-- 17 for lists of another length than so many rays need
unfoldable pub check_lists_of : ℕ → ℕ → ℕ → Checked Unit
check_lists_of nv nt rays = cond (eqb nv (rays * ray_doubles) && eqb nt (rays * ray_wholes)) (passed tt) (refused_at 17 0)

-- whether the n places from i on hold solids
unfoldable pub all_solids_of : List SolidNo → ℕ → ℕ → ℕ → Bool
all_solids_of l solids zero i = true
all_solids_of l solids (suc n) i = cond (ltb (solid_in l i).0 solids) (all_solids_of l solids n (i + 1)) false

abbrev pub max_given_media : ℕ
max_given_media = 8

unfoldable pub valid_media_of : Media → ℕ → Bool
valid_media_of m solids = cond (leb m.depth max_given_media) (all_solids_of m.list solids m.depth 0) false

-- 10, then 11
unfoldable pub check_ray_of : ActiveRay → ℕ → ℕ → Checked Unit
check_ray_of a solids place =
    cond (is_valid_ray_of a.ray) (cond (valid_media_of a.media solids) (passed tt) (refused_at 11 place))
    (refused_at 10 place)

-- the n rays from i on, in list order
unfoldable pub check_rays_of : (ℕ → ActiveRay) → ℕ → ℕ → ℕ → Checked Unit
check_rays_of given solids zero i = passed tt
check_rays_of given solids (suc n) i = after (check_ray_of (given i) solids i) (check_rays_of given solids n (i + 1))

-- launched flux, first to last: the n rays from i on added to a sum
unfoldable pub launched_from : (ℕ → ActiveRay) → ℕ → ℕ → Float → Float
launched_from given zero i sum = sum
launched_from given (suc n) i sum = launched_from given n (i + 1) (add binary64 sum (given i).ray.energy)

unfoldable pub launched_of : (ℕ → ActiveRay) → ℕ → Float
launched_of given n = launched_from given n 0 (of_bits binary64 0)
