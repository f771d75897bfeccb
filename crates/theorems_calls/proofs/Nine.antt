-- In a run no hit is refused by 9: every refusal by 9 comes before it. Assumes nothing.
use Prim.Native.Nat.{ℕ, ◌<◌}
use mathlib.Core.Path.{◌≡◌, refl, ap, sym, subst, ◌∙◌}
use mathlib.Core.Bool.{true}
use mathlib.Core.Logic.{◌⊎◌, inl, inr}
use native.Mathlib.Omega.{arith}
use Rattle.error.specs.Refusals.{Checked, passed, refused_at}
use Rattle.detectors.proofs.Passed.{Sound, sound}
use Rattle.detector.specs.declared.DetectorHit.{DetectorHit}
use Rattle.memory.specs.Memory.{Memory, Outcome, done, refused, memory_left, record_of, has_pixel, is_memory}
use Rattle.memory.proofs.Booked.{holds_checked}
use Rattle.faces.specs.Faces.{new_faces_of}
use Rattle.run.specs.Run.{Run, is_left}
use Rattle.trace.specs.Trace.{Batch, rays_in, start_of, scene_in, check_lengths_of, check_batch, run_on, trace_after, trace_rays_of}
use Rattle.theorems_runs.specs.Room.{Admitted, next_ray}
use Rattle.theorems_runs.proofs.Bred.{false_true}
use Rattle.theorems_runs.proofs.Waves.{admitted_kept}
use Rattle.theorems_runs.proofs.Checked.{trace_admitted}
use Rattle.theorems_marks.specs.Refused.{RunRefused}
use Rattle.theorems_marks.proofs.Refused.{trace_refuses}
use Rattle.theorems_marks.proofs.Only.{at_9}
use Rattle.theorems_calls.proofs.Drives.{Brought, drive_keeps}
use Rattle.theorems_calls.proofs.Sights.{brought_there}
use Rattle.theorems_calls.proofs.Reached.{Reached, reached_itself, reached_record, added_count}
use Rattle.theorems_calls.proofs.Checks.{Passes, passes, all_pass, started, said, used_room, reached_lengths, reached_checks}
use Rattle.theorems_calls.proofs.Wishes.{shown_all}

-- every memory of a run holds every hit that a step can bring
module _ (B : Batch) (s : Memory) (p : Passes B s) where
  held_memory : (m : Memory) → Reached s m → is_memory m ≡ true
  unfolding is_memory check_lengths_of
  held_memory m r = said _ 9 0 (reached_lengths s m r p.lengths)

  same_count : (m : Memory) → Reached s m → m.detectors.count ≡ s.detectors.count
  same_count m r = ap (λ (x : Memory). x.detectors.count) r.sum ∙ added_count r.hits s

  all_held : (m : Memory) (h : DetectorHit) → Reached s m → Brought Admitted (scene_in B s.detectors) h → has_pixel m h ≡ true
  unfolding new_faces_of
  all_held m h r b =
      let d : Sound m.detectors = sound m.detectors (reached_checks s m r p.detectors) in
      let k : h.detector.0 < m.detectors.count = omega (arith, brought_there Admitted _ h b, same_count m r, shown_all s.detectors.count (sound s.detectors p.detectors).most) in
      holds_checked m h d k (held_memory m r)

  no_nine : (place : ℕ) (t : Memory) → RunRefused B s 9 place t → ⊥
  no_nine place t (j, (q, (e, (l, (at, c))))) =
      let S = scene_in B s.detectors in
      let r : Reached s t =
      subst (λ (x : Run Memory). Reached s (memory_left x.outcome)) e
      (drive_keeps record_of Admitted S (admitted_kept S) (rays_in B) (Reached s) (λ m h b x. reached_record s m h x) j s (start_of (rays_in B) B.rays) (started B s p) (reached_itself s (used_room s p.lengths))) in
      let z = at_9 t S _ c in
      let f : Admitted (next_ray (rays_in B) q) =
      subst (λ (x : Run Memory). (is_left x.progress ≡ true → Admitted (next_ray (rays_in B) x.progress))) e (trace_admitted B s (all_pass B s p) j) l in
      false_true (sym z.1.1 ∙ all_held t z.0 r (_, (f, z.1.0)))

abbrev number : {M : Type 0} → Outcome M → ℕ
number (done m) = 0
number (refused n place m) = n

abbrev place_in : {M : Type 0} → Outcome M → ℕ
place_in (done m) = 0
place_in (refused n place m) = place

pub nine_before : (B : Batch) (s : Memory) (place : ℕ) (t : Memory) → (trace_rays_of B s).outcome ≡ refused 9 place t → check_batch B s ≡ refused_at 9 place
unfolding trace_rays_of
nine_before B s place t x = go (check_batch B s) refl x (trace_refuses B s 9 place t x)
  where
    go : (c : Checked Unit) → check_batch B s ≡ c → (trace_after c s (run_on record_of s.detectors B s)).outcome ≡ refused 9 place t
        → (check_batch B s ≡ refused_at 9 place) ⊎ RunRefused B s 9 place t → check_batch B s ≡ refused_at 9 place
    go c e y (inl f) = f
    go (passed tt) e y (inr r) = absurd (no_nine B s (passes B s e) place t r)
    go (refused_at n at) e y (inr r) = e ∙ ap (λ k. refused_at k at) (ap number y) ∙ ap (λ k. refused_at 9 k) (ap place_in y)
