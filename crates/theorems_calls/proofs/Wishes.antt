-- What a wish must bring so that the memory and the plain book grant it alike, and that the wish of every call brings it. Assumes nothing.
use Prim.Native.Nat.{ℕ, ◌≤◌, ◌<◌}
use mathlib.Core.Path.{◌≡◌, refl, ap, sym, ◌∙◌}
use mathlib.Core.Bool.{Bool, true, false, cond}
use native.Mathlib.Omega.{arith}
use lib.ListN.{length}
use borrow.Author.Tests.{le-leb, lt-ltb}
use Rattle.error.specs.Refusals.{Checked, passed, refused_at, after}
use Rattle.detector.specs.declared.DetectorNo.{DetectorNo}
use Rattle.detector.specs.declared.DetectorHit.{DetectorHit}
use Rattle.detectors.specs.declared.Detectors.{Detectors}
use Rattle.detectors.specs.Detectors.{check_asked, placed_of, find_of}
use Rattle.detectors.proofs.Passed.{Sound, sound, asked_sound, both_passed}
use Rattle.memory.specs.Memory.{Memory, Outcome, refused, unless, record_of, is_memory, record_hit_classified_of}
use Rattle.memory.proofs.Plain.{map_outcome}
use Rattle.faces.specs.declared.Faces.{Faces}
use Rattle.faces.specs.Faces.{new_faces_of, face_count_of}
use Rattle.step.specs.Rays.{Scene, listed_scene}
use Rattle.run.specs.Run.{Run, drive}
use Rattle.trace.specs.Trace.{Batch, rays_in, all_steps, start_of, scene_in, run_on, check_lengths_of, check_batch, trace_after, trace_rays_of}
use Rattle.trace.proofs.Pieces.{same_checks}
use Rattle.theorems_runs.specs.Room.{Admitted}
use Rattle.theorems_runs.proofs.Waves.{admitted_kept}
use Rattle.theorems_calls.specs.Calls.{Call, tracing, recording, refilter, part, irradiance, crossing, area, outcome_in}
use Rattle.theorems_calls.specs.Book.{bare_detectors, bare, Wish, granted, check_hit, no_wish, wish_in}
use Rattle.theorems_calls.proofs.Drives.{Brought, map_run, map-drive}
use Rattle.theorems_calls.proofs.Sights.{brought_there}
use Rattle.theorems_calls.proofs.Checks.{Passes, passes, started, said}
use Rattle.theorems_calls.proofs.Bare.{emptied, bare_each, bare_asked, bare_all, faces_bare, bare_flux, bare_counts, bare_values, bare_tags, bare_detectors_lem, bare_memory}

pub record Lawful (w : Wish) : Type 1 where
  -- the hits that it can bring with these detectors
  pub Brings : Detectors → DetectorHit → Type 0
  -- once its check passed, its writer is natural in the memory, for puts that agree on these
  pub natural :
      (N M : Type 0) (φ : N → M) (put : M → DetectorHit → Outcome M) (put' : N → DetectorHit → Outcome N) (s : Memory)
      → w.check s ≡ passed tt → ((n : N) (h : DetectorHit) → Brings s.detectors h → put (φ n) h ≡ map_outcome φ (put' n h)) → (n : N) → w.write M put s.detectors (φ n) ≡ map_outcome φ (w.write N put' s.detectors n)
  -- and so passes the check of a recording of any of these
  pub there : (m : Memory) → w.check m ≡ passed tt → (h : DetectorHit) → Brings m.detectors h → check_hit h m ≡ passed tt

-- ---- what the check of a recording says

pub hit_there : (m : Memory) (h : DetectorHit) → check_hit h m ≡ passed tt → Sound m.detectors × (h.detector.0 < m.detectors.count) × (is_memory m ≡ true)
unfolding check_hit
hit_there m h e =
    let b = both_passed tt (check_asked m.detectors h.detector) _ e in
    let d = asked_sound m.detectors h.detector b.0 in
    (d.0, d.1, said (is_memory m) 9 0 b.1)

pub shown_all : (n : ℕ) → n ≤ 8 → face_count_of n ≡ n
unfolding face_count_of
shown_all n k = rw (le-leb n 8 k)

-- ---- a tracing

lengths_held : (m : Memory) → check_lengths_of m.detectors (length m.flux) (length m.hits) (length m.hit_values) (length m.hit_tags) m.used ≡ passed tt → is_memory m ≡ true
unfolding is_memory check_lengths_of
lengths_held m e = said _ 9 0 e

module _ (B : Batch) where
  pub batch_blind : (m : Memory) → check_batch B (emptied m) ≡ check_batch B m
  unfolding check_batch
  batch_blind m =
      rw (bare_detectors_lem m, bare_flux m, bare_counts m, bare_values m, bare_tags m)
      (same_checks B m.detectors (bare_detectors m.detectors) (length m.flux) (length m.hits) (length m.hit_values) (length m.hit_tags) m.used refl (bare_each m.detectors) (bare_all m.detectors))

  abbrev ran_with : {M : Type 0} → (M → DetectorHit → Outcome M) → M → Faces → Run M
  ran_with put m fs = drive put (listed_scene B.solid_values B.solid_tags B.solids fs B.config) (rays_in B) all_steps m (start_of (rays_in B) B.rays)

  pub run_faces : {M : Type 0} (put : M → DetectorHit → Outcome M) (ds es : Detectors) (m : M) → new_faces_of es ≡ new_faces_of ds → run_on put es B m ≡ run_on put ds B m
  unfolding run_on
  run_faces put ds es m e = ap (ran_with put m) e

  pub run_natural : {N M : Type 0} (φ : N → M) (put : M → DetectorHit → Outcome M) (put' : N → DetectorHit → Outcome N) (s : Memory)
      → check_batch B s ≡ passed tt → ((n : N) (h : DetectorHit) → Brought Admitted (scene_in B s.detectors) h → put (φ n) h ≡ map_outcome φ (put' n h)) → (n : N) → run_on put s.detectors B (φ n) ≡ map_run φ (run_on put' s.detectors B n)
  unfolding run_on
  run_natural φ put put' s e same n =
      let S : Scene = scene_in B s.detectors in
      map-drive φ put put' Admitted S (admitted_kept S) (rays_in B) same all_steps n (start_of (rays_in B) B.rays) (started B s (passes B s e))

  pub batch_there : (m : Memory) → check_batch B m ≡ passed tt → (h : DetectorHit) → Brought Admitted (scene_in B m.detectors) h → check_hit h m ≡ passed tt
  unfolding check_hit check_asked new_faces_of
  batch_there m e h r =
      let p : Passes B m = passes B m e in
      let d : Sound m.detectors = sound m.detectors p.detectors in
      let k : h.detector.0 < m.detectors.count = omega (arith, brought_there Admitted _ h r, shown_all m.detectors.count d.most) in
      rw (p.detectors, lt-ltb h.detector.0 m.detectors.count k, lengths_held m p.lengths)

  tracing_lawful : Lawful (wish_in (tracing B))
  unfolding wish_in
  tracing_lawful =
      record {
        Brings = λ ds h. Brought Admitted (scene_in B ds) h;
        natural = λ N M φ put put' s e same n. ap (λ (r : Run M). r.outcome) (run_natural φ put put' s e same n);
        there = batch_there;
      }

-- ---- a recording

module _ (h : DetectorHit) where
  pub hit_blind : (m : Memory) → check_hit h (emptied m) ≡ check_hit h m
  unfolding check_hit
  hit_blind m = rw (bare_memory m m.used, bare_detectors_lem m, bare_asked h.detector m.detectors)

  recording_lawful : Lawful (wish_in (recording h))
  unfolding wish_in
  recording_lawful =
      record {
        Brings = λ ds k. k ≡ h;
        natural = λ N M φ put put' s e same n. same n h refl;
        there = λ m e k q. ap (λ x. check_hit x m) q ∙ e;
      }

-- ---- every call

nothing_lawful : Lawful no_wish
nothing_lawful =
    record {
      Brings = λ ds h. ⊥;
      natural = λ N M φ put put' s e same n. refl;
      there = λ m e h x. absurd x;
    }

pub lawful : (c : Call) → Lawful (wish_in c)
unfolding wish_in
lawful (tracing B) = tracing_lawful B
lawful (recording h) = recording_lawful h
lawful (refilter d f work) = nothing_lawful
lawful (part d f work) = nothing_lawful
lawful (irradiance d px py) = nothing_lawful
lawful (crossing d r) = nothing_lawful
lawful (area d) = nothing_lawful

-- ---- what a call leaves by its contract is its wish granted, the check and the writer fed no contents

after_unless : {M : Type 0} (c : Checked Unit) (m : M) (r : Run M) → (trace_after c m r).outcome ≡ unless c m r.outcome
after_unless (passed u) m r = refl
after_unless (refused_at n place) m r = refl

abbrev nine_unless : Bool → Checked Unit
nine_unless x = cond x (passed tt) (refused_at 9 0)

found_unless : {M : Type 0} (ds : Detectors) (d : DetectorNo) (x : Bool) (m : M) (o : Outcome M)
    → unless (find_of ds d) m (cond x o (refused 9 0 m)) ≡ unless (after (check_asked ds d) (nine_unless x)) m o
unfolding find_of
found_unless ds d x m o = go (check_asked ds d) x
  where
    go : (c : Checked Unit) (x : Bool) → unless (after c (passed (placed_of ds.list d.0))) m (cond x o (refused 9 0 m)) ≡ unless (after c (nine_unless x)) m o
    go (passed u) true = refl
    go (passed u) false = refl
    go (refused_at n place) x = refl

pub meant : (c : Call) (m : Memory) → outcome_in c m ≡ granted (wish_in c) (emptied m) record_of m
unfolding outcome_in wish_in granted trace_rays_of record_hit_classified_of check_hit
meant (tracing B) m =
    after_unless (check_batch B m) m (run_on record_of m.detectors B m)
    ∙ ap (λ c. unless c m (run_on record_of m.detectors B m).outcome) (sym (batch_blind B m))
    ∙ ap (λ (r : Run Memory). unless (check_batch B (emptied m)) m r.outcome) (sym (run_faces B record_of m.detectors (bare m).detectors m (faces_bare m)))
meant (recording h) m =
    found_unless m.detectors h.detector (is_memory m) m (record_of m h)
    ∙ ap (λ c. unless c m (record_of m h)) (sym (hit_blind h m))
meant (refilter d f work) m = refl
meant (part d f work) m = refl
meant (irradiance d px py) m = refl
meant (crossing d r) m = refl
meant (area d) m = refl
