-- Split batches: the parts of a batch, traced one by one, the last first, leave what the batch leaves. Assumes nothing.
use Prim.Native.Nat.{ℕ, ◌+◌, ◌≤◌}
use mathlib.Core.Path.{◌≡◌, refl, ap, sym, subst, ◌∙◌}
use mathlib.Core.List.{List, [], ◌∷◌}
use Rattle.error.specs.Refusals.{passed}
use Rattle.memory.specs.Memory.{Memory, Outcome, done, refused, memory_left, record_of}
use Rattle.faces.specs.declared.Faces.{Faces}
use Rattle.faces.specs.Faces.{new_faces_of}
use Rattle.step.specs.Rays.{listed_scene}
use Rattle.run.specs.Stack.{empty_stack_of}
use Rattle.run.specs.Run.{is_left, drive}
use Rattle.trace.specs.Trace.{Batch, rays_in, all_steps, start_of, scene_in, run_on, check_batch, trace_rays_of}
use Rattle.theorems_runs.specs.Room.{Admitted}
use Rattle.theorems_runs.proofs.Waves.{admitted_kept}
use Rattle.theorems_runs.proofs.Checked.{fit}
use Rattle.theorems_calls.specs.Parts.{Part, Exact, AllExact, no_rays, joined, joined_all, with_rays, Splits, shifted, then_on, trace_parts}
use Rattle.theorems_calls.proofs.Drives.{drive_keeps}
use Rattle.theorems_calls.proofs.Later.{over, two_runs}
use Rattle.theorems_calls.proofs.Reached.{Reached, added_faces, reached_itself, reached_record}
use Rattle.theorems_calls.proofs.Joined.{exact_all, former-given, later-given}
use Rattle.theorems_calls.proofs.Checks.{Passes, passes, all_pass, started, used_room, former_passes, later_passes}

-- ---- a tracing whose checks passed is its run

abbrev ran_in : Faces → Batch → Memory → Outcome Memory
ran_in fs B m = (drive record_of (listed_scene B.solid_values B.solid_tags B.solids fs B.config) (rays_in B) all_steps m (start_of (rays_in B) B.rays)).outcome

pub traced : (B : Batch) (m : Memory) → Passes B m → (trace_rays_of B m).outcome ≡ ran_in (new_faces_of m.detectors) B m
unfolding trace_rays_of run_on
traced B m p = rw (all_pass B m p)

pub trace_reaches : (B : Batch) (s : Memory) → Passes B s → Reached s (memory_left (trace_rays_of B s).outcome)
trace_reaches B s p =
    let S = scene_in B s.detectors in
    rw (traced B s p)
    (drive_keeps record_of Admitted S (admitted_kept S) (rays_in B) (Reached s) (λ m h b r. reached_record s m h r) all_steps s (start_of (rays_in B) B.rays) (started B s p) (reached_itself s (used_room s p.lengths)))

-- ---- two parts

then_same : (c : ℕ) (o : Outcome Memory) (f g : Memory → Outcome Memory) → ((m : Memory) → o ≡ done m → f m ≡ g m) → then_on (shifted c o) f ≡ then_on (shifted c o) g
then_same c (done m) f g e = e m refl
then_same c (refused n place m) f g e = refl

module _ (B : Batch) (p q : Part) (s : Memory) (ep : Exact p) (eq : Exact q) (w : Passes (with_rays B (joined p q)) s) where
  abbrev fs : Faces
  fs = new_faces_of s.detectors

  lim : B.config.max_bounces ≤ 16
  lim = (fit (with_rays B (joined p q)) s (all_pass _ s w)).limit

  few : p.rays + q.rays ≤ 4096
  few = (fit (with_rays B (joined p q)) s (all_pass _ s w)).few

  -- the former part, on what the later one leaves
  former_traced : (m : Memory) → (trace_rays_of (with_rays B q) s).outcome ≡ done m → (trace_rays_of (with_rays B p) m).outcome ≡ ran_in fs (with_rays B p) m
  former_traced m e =
      let r : Reached s m = subst (λ (o : Outcome Memory). Reached s (memory_left o)) e (trace_reaches (with_rays B q) s (later_passes B p q s ep eq w)) in
      traced (with_rays B p) m (former_passes B p q s ep eq w m r)
      ∙ ap (λ f. ran_in f (with_rays B p) m) (ap (λ (x : Memory). new_faces_of x.detectors) r.sum ∙ added_faces r.hits s)

  pub two_parts : then_on (shifted p.rays (trace_rays_of (with_rays B q) s).outcome) (λ m. (trace_rays_of (with_rays B p) m).outcome) ≡ (trace_rays_of (with_rays B (joined p q)) s).outcome
  two_parts =
      then_same p.rays (trace_rays_of (with_rays B q) s).outcome _ (ran_in fs (with_rays B p)) former_traced
      ∙ ap (λ o. then_on (shifted p.rays o) (ran_in fs (with_rays B p))) (traced (with_rays B q) s (later_passes B p q s ep eq w))
      ∙ sym (two_runs record_of (listed_scene B.solid_values B.solid_tags B.solids fs B.config) lim p.rays q.rays (rays_in (with_rays B (joined p q))) (rays_in (with_rays B p)) (rays_in (with_rays B q)) few (former-given p q ep) (λ i k. later-given p q ep i eq k) s)
      ∙ sym (traced (with_rays B (joined p q)) s w)

-- ---- any list of parts

no_rays_lem : (B : Batch) (s : Memory) → Passes (with_rays B no_rays) s → done s ≡ (trace_rays_of (with_rays B no_rays) s).outcome
unfolding start_of empty_stack_of is_left
no_rays_lem B s w = sym (traced (with_rays B no_rays) s w ∙ over record_of _ _ all_steps s _ refl)

parts_of : (B : Batch) (ps : List Part) (s : Memory) → AllExact ps → Passes (with_rays B (joined_all ps)) s → trace_parts B ps s ≡ (trace_rays_of (with_rays B (joined_all ps)) s).outcome
unfolding trace_parts joined_all AllExact
parts_of B [] s e w = no_rays_lem B s w
parts_of B (p ∷ ps) s e w =
    let x = exact_all ps e.1 in
    ap (λ o. then_on (shifted p.rays o) (λ m. (trace_rays_of (with_rays B p) m).outcome)) (parts_of B ps s e.1 (later_passes B p (joined_all ps) s e.0 x w))
    ∙ two_parts B p (joined_all ps) s e.0 x w

-- from any start, refused or not: the memory, and the number and the place of the refusal
pub split : (B : Batch) (ps : List Part) (s : Memory) → Splits B ps → check_batch B s ≡ passed tt → trace_parts B ps s ≡ (trace_rays_of B s).outcome
split B ps s e c =
    parts_of B ps s e.exact (passes (with_rays B (joined_all ps)) s (ap (λ C. check_batch C s) e.whole ∙ c))
    ∙ ap (λ C. (trace_rays_of C s).outcome) e.whole
