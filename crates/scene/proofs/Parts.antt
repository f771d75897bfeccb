-- A solid's approach by its parts. Assumes nothing.
use Rattle.std.specs.Prelude.{Option, None, Some}
use mathlib.Core.Path.{◌≡◌, refl, sym, ap, ◌∙◌}
use mathlib.Core.Bool.{Bool, true, false, cond}
use mathlib.Core.List.{List}
use Prim.Native.Nat.{ℕ, ◌+◌, ◌*◌}
use lib.Dec.{eqb}
use lib.Ieee.{Float}
use lib.ListN.{get_or}
use Rattle.rays.specs.declared.matrix.Mat4.{Mat4}
use Rattle.rays.specs.declared.Ray.{Ray}
use Rattle.geometry.specs.declared.LocalHit.{LocalHit}
use Rattle.geometry.specs.declared.PrimitiveGeometry.{PrimitiveGeometry}
use Rattle.geometry.specs.declared.contact.Contact.{Contact}
use Rattle.geometry.specs.Shapes.{intersect_local_of}
use Rattle.geometry.specs.Transforms.{inverse_transform_ray_of}
use Rattle.geometry.specs.Contacts.{meet_by, meet_along_of, meet_of}
use Rattle.geometry.proofs.Local.{from_is}
use Rattle.scene.specs.declared.NonSeqObject.{NonSeqObject}
use Rattle.scene.specs.declared.object.Approach.{Approach}
use Rattle.scene.specs.Objects.{approach_point, approach_by, approach_along, approach_from, approach_of, reached_of, reached_by, approach_parts}
use Rattle.scene.specs.Solids.{solid_with, object_with}
use Rattle.scene.specs.Closest.{approach_at_of}

by_hit : (o : NonSeqObject) (r q : Ray) (h : Option LocalHit) → reached_by o.transform.matrix r (meet_by q h) ≡ approach_by o r q h
unfolding reached_by meet_by approach_by reached_of approach_point
by_hit o r q (Some h) = refl
by_hit o r q None = refl

by_ray : (o : NonSeqObject) (r : Ray) (q : Option Ray) → reached_by o.transform.matrix r (meet_along_of o.geometry q) ≡ approach_from o r q
unfolding meet_along_of approach_from approach_along reached_by
by_ray o r (Some q) = by_hit o r q (intersect_local_of o.geometry q)
by_ray o r None = refl

pub parts_are : (o : NonSeqObject) (r : Ray) → approach_parts o.is_active o.geometry o.transform.matrix o.transform.inverse r ≡ approach_of o r
unfolding approach_parts approach_of meet_of
parts_are o r =
    ap (λ (x : Option Approach). cond o.is_active x None)
    (ap (λ (q : Option Ray). reached_by o.transform.matrix r (meet_along_of o.geometry q)) (from_is o.transform r) ∙ by_ray o r (inverse_transform_ray_of o.transform r))

-- ---- the three ways through an approach by parts

meets : (o : NonSeqObject) (r : Ray) (g : PrimitiveGeometry) (w : Mat4) (m : Option Contact) → o.is_active ≡ true → g ≡ o.geometry → w ≡ o.transform.inverse → m ≡ meet_of g w r → approach_of o r ≡ reached_by o.transform.matrix r m
unfolding approach_parts
meets o r g w m a p q e =
    sym (parts_are o r)
    ∙ ap (λ (b : Bool). cond b (reached_by o.transform.matrix r (meet_of o.geometry o.transform.inverse r)) None) a
    ∙ ap (λ (v : Mat4). reached_by o.transform.matrix r (meet_of o.geometry v r)) (sym q)
    ∙ ap (λ (v : PrimitiveGeometry). reached_by o.transform.matrix r (meet_of v w r)) (sym p)
    ∙ ap (reached_by o.transform.matrix r) (sym e)

pub approach_met : (o : NonSeqObject) (r : Ray) (g : PrimitiveGeometry) (m w : Mat4) (k : Option Contact) (a : Contact) (x : Option Approach) → o.is_active ≡ true → g ≡ o.geometry → w ≡ o.transform.inverse → m ≡ o.transform.matrix → k ≡ meet_of g w r → k ≡ Some a → x ≡ reached_of m r a.point a.hit → x ≡ approach_of o r
unfolding reached_by
approach_met o r g m w k a x e p q s t u v =
    v ∙ ap (λ (n : Mat4). reached_of n r a.point a.hit) s ∙ sym (meets o r g w (Some a) e p q (sym (u) ∙ t))

pub approach_missed : (o : NonSeqObject) (r : Ray) (g : PrimitiveGeometry) (w : Mat4) (k : Option Contact) → o.is_active ≡ true → g ≡ o.geometry → w ≡ o.transform.inverse → k ≡ meet_of g w r → k ≡ None → None ≡ approach_of o r
unfolding reached_by
approach_missed o r g w k e p q t u = sym (meets o r g w None e p q (sym (u) ∙ t))

pub approach_inactive : (o : NonSeqObject) (r : Ray) → o.is_active ≡ false → None ≡ approach_of o r
unfolding approach_of
approach_inactive o r e = sym (ap (λ (b : Bool). cond b (approach_from o r (inverse_transform_ray_of o.transform r)) None) e)

-- ---- a solid of the lists, if it has a shape

pub none_inactive : (x : List Float) (k : List ℕ) (i : ℕ) (g : Option PrimitiveGeometry) (r : Ray) → eqb (get_or k (i * 4 + 1) 0) 1 ≡ false → None ≡ approach_at_of (object_with x k i g) r
unfolding approach_at_of object_with solid_with
none_inactive x k i (Some g) r e = approach_inactive (solid_with x k i g) r e
none_inactive x k i None r e = refl
