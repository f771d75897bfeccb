-- The solids that a ray is inside of, the newest last: 24 places, of which the first `depth` are used. No traced ray
-- uses more; what stands here for one that would keeps the functions total.
use Rattle.std.specs.Prelude.{ℕ, zero, suc, ◌+◌, ◌-◌, cond, ◌&&◌, List, leb, ltb, eqb, get_or, set, Option, None, Some}
use Rattle.scene.specs.declared.SolidNo.{SolidNo}
use Rattle.media.specs.declared.Media.{Media}

abbrev pub max_media : ℕ
max_media = 24

abbrev pub no_solid : SolidNo
no_solid = record { 0 = 0 }

abbrev pub solid_in : List SolidNo → ℕ → SolidNo
solid_in l i = get_or l i no_solid

-- the newest medium, if the ray is inside of any
unfoldable pub newest_of : Media → Option SolidNo
newest_of m = cond (ltb 0 m.depth && leb m.depth max_media) (Some (solid_in m.list (m.depth - 1))) None

-- on entering, the solid is appended
unfoldable pub entered_of : Media → SolidNo → Media
entered_of m s = cond (ltb m.depth max_media) (record { list = set m.list m.depth s; depth = m.depth + 1 }) m

-- the last of the first i places that holds the solid
unfoldable pub last_place_of : List SolidNo → ℕ → SolidNo → Option ℕ
last_place_of l zero s = None
last_place_of l (suc i) s = cond (eqb (solid_in l i).0 s.0) (Some i) (last_place_of l i s)

-- k places from place i on, each with what stood in the next
unfoldable pub move_down_of : ℕ → ℕ → List SolidNo → List SolidNo
move_down_of zero i l = l
move_down_of (suc k) i l = move_down_of k (i + 1) (set l i (solid_in l (i + 1)))

unfoldable pub without_place : Media → Option ℕ → Media
without_place m (Some i) = record { list = move_down_of (m.depth - 1 - i) i m.list; depth = m.depth - 1 }
without_place m None = m

-- on leaving, the last place holding the solid is removed, if there is one
unfoldable pub left_of : Media → SolidNo → Media
left_of m s = cond (leb m.depth max_media) (without_place m (last_place_of m.list m.depth s)) m
