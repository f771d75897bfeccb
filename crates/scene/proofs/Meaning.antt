-- What the nearest solid is, however the solids are kept. Assumes nothing.
use Rattle.std.specs.Prelude.{Option, None, Some}
use Rattle.std.proofs.lemmas.Option.{same_Some, none-some}
use Prim.Native.Nat.{ℕ}
use mathlib.Core.Path.{◌≡◌, sym, ap}
use mathlib.Core.Logic.{◌↔◌}
use mathlib.Core.Bool.{Bool, true, false, cond}
use mathlib.Core.List.{List}
use lib.Ieee.{Float}
use Rattle.geometry.specs.declared.PrimitiveGeometry.{PrimitiveGeometry}
use Rattle.rays.specs.declared.Ray.{Ray}
use Rattle.rays.specs.declared.vector.Vec3.{Vec3}
use Rattle.geometry.specs.Transforms.{world_normal_of}
use Rattle.nearest.specs.Nearest.{NoneCounts, IsNearest}
use Rattle.nearest.proofs.Laws.{nearest_is, nearest_only, none_iff}
use Rattle.scene.specs.declared.SolidNo.{SolidNo}
use Rattle.scene.specs.declared.NonSeqObject.{NonSeqObject}
use Rattle.scene.specs.declared.NonSeqHit.{NonSeqHit}
use Rattle.scene.specs.declared.object.Approach.{Approach}
use Rattle.scene.specs.Objects.{approach_of, turned_of, arrive_with, arrive_of, arrive_from, intersect_of}
use Rattle.scene.specs.Solids.{shape_in_of, solid_with, object_with, read_object_of, holds, object_at_of}
use Rattle.scene.specs.Closest.{hit_distance, offer_by, offers_in, closest_object_of}

-- below all others, first among equals
pub closest_is : (f : ℕ → Option NonSeqObject) (n : ℕ) (r : Ray) → IsNearest NonSeqHit hit_distance (offers_in f r) n (closest_object_of f n r)
unfolding closest_object_of
closest_is f n r = nearest_is NonSeqHit hit_distance (offers_in f r) n

-- and nothing else is
pub closest_only : (f : ℕ → Option NonSeqObject) (n : ℕ) (r : Ray) (h : Option NonSeqHit) → IsNearest NonSeqHit hit_distance (offers_in f r) n h → h ≡ closest_object_of f n r
closest_only f n r h p = nearest_only NonSeqHit hit_distance (offers_in f r) n h (closest_object_of f n r) p (closest_is f n r)

-- "no hit" is given precisely if no solid offers a distance that counts
pub no_hit_iff : (f : ℕ → Option NonSeqObject) (n : ℕ) (r : Ray) → (closest_object_of f n r ≡ None) ↔ NoneCounts NonSeqHit hit_distance (offers_in f r) n
unfolding closest_object_of
no_hit_iff f n r = none_iff NonSeqHit hit_distance (offers_in f r) n

-- ---- a hit names its solid

number_with : (o : NonSeqObject) (r : Ray) (a : Approach) (n : Option Vec3) (h : NonSeqHit) → arrive_with o r a n ≡ Some h → h.object_id ≡ o.id
unfolding arrive_with turned_of
number_with o r a None h e = absurd (none-some h e)
number_with o r a (Some n) h e = ap (λ (g : NonSeqHit). g.object_id) (sym (same_Some (turned_of o r a n) h e))

number_from : (o : NonSeqObject) (r : Ray) (a : Option Approach) (h : NonSeqHit) → arrive_from o r a ≡ Some h → h.object_id ≡ o.id
unfolding arrive_from arrive_of
number_from o r None h e = absurd (none-some h e)
number_from o r (Some a) h e = number_with o r a (world_normal_of o.transform a.local.normal) h e

pub number_is : (o : NonSeqObject) (r : Ray) (h : NonSeqHit) → intersect_of o r ≡ Some h → h.object_id ≡ o.id
unfolding intersect_of
number_is o r h e = number_from o r (approach_of o r) h e

-- of flat lists: the place
pub place_is : (x : List Float) (k : List ℕ) (r : Ray) (i : ℕ) (h : NonSeqHit) → offers_in (object_at_of x k) r i ≡ Some h → h.object_id.0 ≡ i
unfolding object_at_of read_object_of object_with solid_with offer_by
place_is x k r i h e = at_place (holds x k i) (shape_in_of x k i) e
  where
    at_place : (b : Bool) (g : Option PrimitiveGeometry) → offer_by (cond b (object_with x k i g) None) r ≡ Some h → h.object_id.0 ≡ i
    at_place true (Some g) p = ap (λ (s : SolidNo). s.0) (number_is (solid_with x k i g) r h p)
    at_place true None p = absurd (none-some h p)
    at_place false g p = absurd (none-some h p)
