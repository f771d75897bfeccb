-- The search that gives only the nearest approach a normal finds the nearest solid. Assumes nothing.
use Rattle.std.specs.Prelude.{Option, None, Some}
use Rattle.std.proofs.lemmas.Option.{same_Some, none-some}
use Prim.Native.Nat.{ℕ, ◌<◌}
use mathlib.Core.Path.{◌≡◌, refl, sym, ap, ◌∙◌, subst}
use mathlib.Core.Bool.{Bool, true, false, cond}
use lib.Ieee.{Float, lt, le}
use Rattle.doubles.proofs.Floats.{clash}
use Rattle.rays.specs.declared.Ray.{Ray}
use Rattle.rays.specs.declared.vector.Vec3.{Vec3}
use Rattle.geometry.specs.Transforms.{world_normal_of}
use Rattle.nearest.specs.Nearest.{is_counted, is_nearer_of, distance_of, nearer_of, nearest_among, NoneCounts, NoneNearer, IsNearest}
use Rattle.nearest.proofs.Laws.{nearest_is}
use Rattle.nearest.proofs.Loops.{nearer_nothing, nearer_taken, nearer_kept}
use Rattle.scene.specs.declared.NonSeqObject.{NonSeqObject}
use Rattle.scene.specs.declared.NonSeqHit.{NonSeqHit}
use Rattle.scene.specs.declared.object.Approach.{Approach}
use Rattle.scene.specs.declared.closest.Candidate.{Candidate}
use Rattle.scene.specs.Objects.{approach_of, turned_of, arrive_with, arrive_of, arrive_from, intersect_of}
use Rattle.scene.specs.Closest.{hit_distance, offer_by, offers_in, closest_object_of, approach_at_of, arrive_at_of, is_kept_of, candidate_at, candidate_distance, candidates_in}
use Rattle.scene.proofs.Meaning.{closest_only}

-- ---- the three ways through `nearer_candidate`

abbrev with_candidate : Option Candidate → Option Candidate → Option Candidate
with_candidate b c = nearer_of Candidate candidate_distance b c

abbrev at : ℕ → Approach → Candidate
at i a = record { place = i; approach = a }

near_is : (b : Option Candidate) (a : Approach) (D : Float) (t u : Bool) → D ≡ distance_of Candidate candidate_distance b → t ≡ is_nearer_of a.t D → t ≡ u → is_nearer_of a.t (distance_of Candidate candidate_distance b) ≡ u
near_is b a D t u p q e = ap (is_nearer_of a.t) (sym p) ∙ sym q ∙ e

-- the candidate of an approach a, kept or not
abbrev kept_at : ℕ → Approach → Bool → Option Candidate
kept_at i a u = cond u (Some (at i a)) None

at_is : (strict : Bool) (o : Option NonSeqObject) (r : Ray) (i : ℕ) (a : Approach) (k : Option Approach) → k ≡ approach_at_of o r → k ≡ Some a → candidate_at strict o r i (approach_at_of o r) ≡ kept_at i a (is_kept_of strict (arrive_at_of o r a))
unfolding candidate_at
at_is strict o r i a k p e = ap (candidate_at strict o r i) (sym p ∙ e)

pub candidate_taken : (strict : Bool) (o : Option NonSeqObject) (r : Ray) (i : ℕ) (b : Option Candidate) (a : Approach) (k : Option Approach) (D : Float) (t u : Bool) → k ≡ approach_at_of o r → k ≡ Some a → D ≡ distance_of Candidate candidate_distance b → t ≡ is_nearer_of a.t D → t ≡ true → u ≡ is_kept_of strict (arrive_at_of o r a) → u ≡ true → Some (at i a) ≡ with_candidate b (candidate_at strict o r i (approach_at_of o r))
candidate_taken strict o r i b a k D t u p e q s w m n =
    sym
    (ap (with_candidate b) (at_is strict o r i a k p e ∙ ap (kept_at i a) (sym m ∙ n))
    ∙ nearer_taken Candidate candidate_distance b (at i a) (near_is b a D t true q s w))

pub candidate_dropped : (strict : Bool) (o : Option NonSeqObject) (r : Ray) (i : ℕ) (b : Option Candidate) (a : Approach) (k : Option Approach) (u : Bool) → k ≡ approach_at_of o r → k ≡ Some a → u ≡ is_kept_of strict (arrive_at_of o r a) → u ≡ false → b ≡ with_candidate b (candidate_at strict o r i (approach_at_of o r))
candidate_dropped strict o r i b a k u p e m n =
    sym (ap (with_candidate b) (at_is strict o r i a k p e ∙ ap (kept_at i a) (sym m ∙ n)) ∙ nearer_nothing Candidate candidate_distance b)

far_kept : (i : ℕ) (b : Option Candidate) (a : Approach) (u : Bool) → is_nearer_of a.t (distance_of Candidate candidate_distance b) ≡ false → with_candidate b (kept_at i a u) ≡ b
far_kept i b a true e = nearer_kept Candidate candidate_distance b (at i a) e
far_kept i b a false e = nearer_nothing Candidate candidate_distance b

pub candidate_far : (strict : Bool) (o : Option NonSeqObject) (r : Ray) (i : ℕ) (b : Option Candidate) (a : Approach) (k : Option Approach) (D : Float) (t : Bool) → k ≡ approach_at_of o r → k ≡ Some a → D ≡ distance_of Candidate candidate_distance b → t ≡ is_nearer_of a.t D → t ≡ false → b ≡ with_candidate b (candidate_at strict o r i (approach_at_of o r))
candidate_far strict o r i b a k D t p e q s w =
    sym (ap (with_candidate b) (at_is strict o r i a k p e) ∙ far_kept i b a (is_kept_of strict (arrive_at_of o r a)) (near_is b a D t false q s w))

pub candidate_missed : (strict : Bool) (o : Option NonSeqObject) (r : Ray) (i : ℕ) (b : Option Candidate) (k : Option Approach) → k ≡ approach_at_of o r → k ≡ None → b ≡ with_candidate b (candidate_at strict o r i (approach_at_of o r))
unfolding candidate_at
candidate_missed strict o r i b k p e =
    sym (ap (λ (x : Option Approach). with_candidate b (candidate_at strict o r i x)) (sym p ∙ e) ∙ nearer_nothing Candidate candidate_distance b)

-- ---- an offer's approach

-- a hit's distance is its approach's
same_with : (o : NonSeqObject) (r : Ray) (a : Approach) (n : Option Vec3) (h : NonSeqHit) → arrive_with o r a n ≡ Some h → a.t ≡ h.t
unfolding arrive_with turned_of
same_with o r a None h e = absurd (none-some h e)
same_with o r a (Some n) h e = ap (λ (g : NonSeqHit). g.t) (same_Some (turned_of o r a n) h e)

same_distance : (o : NonSeqObject) (r : Ray) (a : Approach) (h : NonSeqHit) → arrive_of o r a ≡ Some h → a.t ≡ h.t
unfolding arrive_of
same_distance o r a h e = same_with o r a (world_normal_of o.transform a.local.normal) h e

-- what arrives is kept
kept_hit : (strict : Bool) (h : NonSeqHit) → is_kept_of strict (Some h) ≡ true
unfolding is_kept_of
kept_hit true h = refl
kept_hit false h = refl

abbrev Approaching : Bool → Option NonSeqObject → Ray → Option Approach → ℕ → NonSeqHit → Type 0
Approaching strict o r x i h = (a : Approach) × ((candidate_at strict o r i x ≡ Some (at i a)) × (a.t ≡ h.t))

hit_from_lem : (strict : Bool) (o : NonSeqObject) (r : Ray) (x : Option Approach) (i : ℕ) (h : NonSeqHit) → arrive_from o r x ≡ Some h → Approaching strict (Some o) r x i h
unfolding arrive_from candidate_at arrive_at_of
hit_from_lem strict o r None i h e = absurd (none-some h e)
hit_from_lem strict o r (Some a) i h e = (a, (ap (λ (v : Option NonSeqHit). kept_at i a (is_kept_of strict v)) e ∙ ap (kept_at i a) (kept_hit strict h), same_distance o r a h e))

offer_candidate : (strict : Bool) (o : Option NonSeqObject) (r : Ray) (i : ℕ) (h : NonSeqHit) → offer_by o r ≡ Some h → Approaching strict o r (approach_at_of o r) i h
unfolding offer_by approach_at_of intersect_of
offer_candidate strict None r i h e = absurd (none-some h e)
offer_candidate strict (Some o) r i h e = hit_from_lem strict o r (approach_of o r) i h e

-- ---- a candidate's hit

-- the place and the approach of a candidate, and that it was kept
abbrev Parts : Bool → Option NonSeqObject → Ray → Option Approach → ℕ → Candidate → Type 0
Parts strict o r x i c = (i ≡ c.place) × ((x ≡ Some c.approach) × (is_kept_of strict (arrive_at_of o r c.approach) ≡ true))

parts_at : (strict : Bool) (o : Option NonSeqObject) (r : Ray) (a : Approach) (i : ℕ) (c : Candidate) (u : Bool) → is_kept_of strict (arrive_at_of o r a) ≡ u → kept_at i a u ≡ Some c → Parts strict o r (Some a) i c
parts_at strict o r a i c false k e = absurd (none-some c e)
parts_at strict o r a i c true k e =
    let g = same_Some (at i a) c e in
    (ap (λ (c : Candidate). c.place) g, (ap (λ (c : Candidate). Some c.approach) g, subst (λ (c : Candidate). is_kept_of strict (arrive_at_of o r c.approach) ≡ true) g k))

candidate_parts : (strict : Bool) (o : Option NonSeqObject) (r : Ray) (x : Option Approach) (i : ℕ) (c : Candidate) → candidate_at strict o r i x ≡ Some c → Parts strict o r x i c
unfolding candidate_at
candidate_parts strict o r None i c e = absurd (none-some c e)
candidate_parts strict o r (Some a) i c e = parts_at strict o r a i c (is_kept_of strict (arrive_at_of o r a)) refl e

arrived_offer : (o : Option NonSeqObject) (r : Ray) (a : Approach) (h : NonSeqHit) → approach_at_of o r ≡ Some a → arrive_at_of o r a ≡ Some h → (offer_by o r ≡ Some h) × (a.t ≡ h.t)
unfolding offer_by approach_at_of intersect_of arrive_at_of arrive_from
arrived_offer None r a h p e = absurd (none-some h e)
arrived_offer (Some o) r a h p e = (ap (arrive_from o r) p ∙ e, same_distance o r a h e)

-- ---- what the search answers

abbrev Placed : Bool → (ℕ → Option NonSeqObject) → Ray → ℕ → Option Candidate → Type 0
Placed strict f r n c = IsNearest Candidate candidate_distance (candidates_in strict f r) n c

none_nearer : (strict : Bool) (f : ℕ → Option NonSeqObject) (r : Ray) (n i : ℕ) (c : Candidate) (h : NonSeqHit) → candidate_distance c ≡ h.t → NoneNearer Candidate candidate_distance (candidates_in strict f r) n i c → NoneNearer NonSeqHit hit_distance (offers_in f r) n i h
none_nearer strict f r n i c h s u j g l o k = go (offer_candidate strict (f j) r j g o)
  where
    go : Approaching strict (f j) r (approach_at_of (f j) r) j g → (le h.t g.t ≡ true) × (j < i → lt h.t g.t ≡ true)
    go (a, (p, q)) =
        let v = u j (at j a) l p (subst (λ (t : Float). is_counted t ≡ true) (sym q) k) in (
          subst (λ (t : Float). le t g.t ≡ true) s (subst (λ (t : Float). le (candidate_distance c) t ≡ true) q v.0),
          λ (m : j < i). subst (λ (t : Float). lt t g.t ≡ true) s (subst (λ (t : Float). lt (candidate_distance c) t ≡ true) q (v.1 m)),
        )

found_is : (strict : Bool) (f : ℕ → Option NonSeqObject) (r : Ray) (n : ℕ) (c : Candidate) (h : NonSeqHit) → Placed strict f r n (Some c) → arrive_at_of (f c.place) r c.approach ≡ Some h → IsNearest NonSeqHit hit_distance (offers_in f r) n (Some h)
found_is strict f r n c h (i, (l, (o, (k, u)))) e =
    let parts = candidate_parts strict (f i) r (approach_at_of (f i) r) i c o in
    let w = arrived_offer (f i) r c.approach h parts.1.0 (subst (λ (j : ℕ). arrive_at_of (f j) r c.approach ≡ Some h) (sym parts.0) e) in
    (i, (l, (w.0, (subst (λ (t : Float). is_counted t ≡ true) w.1 k, none_nearer strict f r n i c h w.1 u))))

none_counts : (strict : Bool) (f : ℕ → Option NonSeqObject) (r : Ray) (n : ℕ) → Placed strict f r n None → NoneCounts NonSeqHit hit_distance (offers_in f r) n
none_counts strict f r n u j g l o = go (offer_candidate strict (f j) r j g o)
  where
    go : Approaching strict (f j) r (approach_at_of (f j) r) j g → is_counted g.t ≡ false
    go (a, (p, q)) = subst (λ (t : Float). is_counted t ≡ false) q (u j (at j a) l p)

placed : (strict : Bool) (f : ℕ → Option NonSeqObject) (n : ℕ) (r : Ray) (c : Option Candidate) (k : Option Candidate) → k ≡ nearest_among Candidate candidate_distance (candidates_in strict f r) n → k ≡ c → Placed strict f r n c
placed strict f n r c k p e = subst (Placed strict f r n) (sym p ∙ e) (nearest_is Candidate candidate_distance (candidates_in strict f r) n)

pub closest_found : (strict : Bool) (f : ℕ → Option NonSeqObject) (n : ℕ) (r : Ray) (c : Candidate) (h : NonSeqHit) (k : Option Candidate) (v : Option NonSeqHit) → k ≡ nearest_among Candidate candidate_distance (candidates_in strict f r) n → k ≡ Some c → v ≡ arrive_at_of (f c.place) r c.approach → v ≡ Some h → Some h ≡ closest_object_of f n r
closest_found strict f n r c h k v p e q g =
    closest_only f n r (Some h) (found_is strict f r n c h (placed strict f n r (Some c) k p e) (sym (sym g ∙ q)))

pub closest_nothing : (strict : Bool) (f : ℕ → Option NonSeqObject) (n : ℕ) (r : Ray) (k : Option Candidate) → k ≡ nearest_among Candidate candidate_distance (candidates_in strict f r) n → k ≡ None → None ≡ closest_object_of f n r
closest_nothing strict f n r k p e = closest_only f n r None (none_counts strict f r n (placed strict f n r None k p e))

-- what a strict search finds arrives
strict_arrives : (f : ℕ → Option NonSeqObject) (r : Ray) (n : ℕ) (c : Candidate) → Placed true f r n (Some c) → arrive_at_of (f c.place) r c.approach ≡ None → ⊥
unfolding is_kept_of
strict_arrives f r n c (i, (l, (o, (k, u)))) e =
    let parts = candidate_parts true (f i) r (approach_at_of (f i) r) i c o in
    clash (sym (sym (ap (is_kept_of true) (subst (λ (j : ℕ). arrive_at_of (f j) r c.approach ≡ None) (sym parts.0) e)) ∙ parts.1.1))

pub closest_strictly : (f : ℕ → Option NonSeqObject) (n : ℕ) (r : Ray) (c : Candidate) (k : Option Candidate) (x : Option NonSeqHit) → k ≡ nearest_among Candidate candidate_distance (candidates_in true f r) n → k ≡ Some c → x ≡ arrive_at_of (f c.place) r c.approach → x ≡ closest_object_of f n r
closest_strictly f n r c k None p e q = absurd (strict_arrives f r n c (placed true f n r (Some c) k p e) (sym q))
closest_strictly f n r c k (Some h) p e q = closest_only f n r (Some h) (found_is true f r n c h (placed true f n r (Some c) k p e) (sym q))
