-- Rays that come as structs, laid out in the two flat lists of `given_rays`: of each ray 8 doubles and 10 whole
-- numbers.
use Rattle.std.specs.Prelude.{ℕ, ◌+◌, ◌*◌, Bool, cond, ◌&&◌, List, [], ◌∷◌, ◌++◌, leb, ltb, Float, length}
use Rattle.std.proofs.lemmas.List.Edits.{sets}
use Rattle.media.specs.Media.{solid_in}
use Rattle.host_tracing.specs.declared.slices.GivenRay.{GivenRay}
use Rattle.given_rays.specs.Given.{ray_doubles, ray_wholes, ray_room}

-- origin, direction, wavelength, power
unfoldable pub ray_values_row : GivenRay → List Float
ray_values_row r =
    r.origin.x ∷ r.origin.y ∷ r.origin.z ∷ r.direction.x ∷ r.direction.y ∷ r.direction.z
    ∷ r.wavelength_nm ∷ r.energy ∷ []

-- bounce, number of media, eight media
unfoldable pub ray_tags_row : GivenRay → List ℕ
ray_tags_row r =
    let m : ℕ → ℕ = λ i. (solid_in r.media i).0 in
    r.bounce_count ∷ r.media_count ∷ m 0 ∷ m 1 ∷ m 2 ∷ m 3 ∷ m 4 ∷ m 5 ∷ m 6 ∷ m 7 ∷ []

unfoldable pub flat_values : List GivenRay → List Float
flat_values [] = []
flat_values (r ∷ rs) = ray_values_row r ++ flat_values rs

unfoldable pub flat_tags : List GivenRay → List ℕ
flat_tags [] = []
flat_tags (r ∷ rs) = ray_tags_row r ++ flat_tags rs

-- ---- as the code lays them out, in two lists with room for one ray more than the limit, so that 3 comes in its order

-- how many rays were laid out, and the two lists
pub record Laid : Type 0 where
  pub count : ℕ
  pub ray_values : List Float
  pub ray_tags : List ℕ

abbrev pub laid : ℕ → List Float → List ℕ → Laid
laid n v m = record { count = n; ray_values = v; ray_tags = m }

-- whether there is room for ray n in lists of these lengths
unfoldable pub has_room_of : ℕ → ℕ → ℕ → Bool
has_room_of n nv nt = ltb n ray_room && (leb (ray_room * ray_doubles) nv && leb (ray_room * ray_wholes) nt)

-- a ray more, while there is room: its numbers stored one after the other, behind those of the rays before it
unfoldable pub put_ray_of : GivenRay → Laid → Laid
put_ray_of r s =
    cond (has_room_of s.count (length s.ray_values) (length s.ray_tags))
    (laid (s.count + 1) (sets s.ray_values (s.count * ray_doubles) (ray_values_row r))
    (sets s.ray_tags (s.count * ray_wholes) (ray_tags_row r)))
    s

unfoldable pub flatten_of : List GivenRay → Laid → Laid
flatten_of [] s = s
flatten_of (r ∷ rs) s = flatten_of rs (put_ray_of r s)
