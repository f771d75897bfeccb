-- The two ways through `trace_rays`. Assumes nothing.
use mathlib.Core.Path.{◌≡◌, ap}
use Rattle.std.specs.Prelude.{Result, Ok, Err}
use Rattle.error.specs.declared.Refusal.{Refusal}
use Rattle.error.specs.Refusals.{as_checked}
use Rattle.memory.specs.Memory.{Memory, record_of}
use Rattle.faces.specs.declared.Faces.{Faces}
use Rattle.faces.specs.Faces.{new_faces_of}
use Rattle.step.specs.Rays.{listed_scene}
use Rattle.run.specs.declared.Progress.{Progress}
use Rattle.run.specs.declared.Advanced.{Advanced}
use Rattle.run.specs.Run.{drive, as_advanced}
use Rattle.trace.specs.declared.Traced.{Traced}
use Rattle.trace.specs.Trace.{Batch, rays_in, check_batch, all_steps, start_of, run_on, traced, trace_rays_of, answer_of, refused_before_of, as_traced}

module _ (B : Batch) (s : Memory) (c : Result Unit Refusal)
    (said : as_checked c ≡ check_batch B s) where
  pub refused_call : (x : Refusal) → c ≡ Err x → (r : Traced) → r ≡ refused_before_of x → as_traced r s ≡ trace_rays_of B s
  unfolding trace_rays_of
  refused_call x k r er = rw (er, ← said, k)

  pub passed_call : (u : Unit) → c ≡ Ok u → (fs : Faces) → fs ≡ new_faces_of s.detectors → (p : Progress) → p ≡ start_of (rays_in B) B.rays
      → (a : Advanced) (m : Memory)
      → as_advanced a m ≡ drive record_of (listed_scene B.solid_values B.solid_tags B.solids fs B.config) (rays_in B) all_steps s p
      → (r : Traced) → r ≡ answer_of a → as_traced r m ≡ trace_rays_of B s
  unfolding trace_rays_of run_on
  passed_call u k fs efs p ep a m ran r er = rw (er, ← said, k) (ap traced (rw (efs, ep) at ran))
