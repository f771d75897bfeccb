-- What the given rays have and a step keeps, every ray that a run takes has. Assumes nothing.
use Prim.Native.Nat.{ℕ, ◌≤◌, ◌-◌}
use mathlib.Core.Path.{◌≡◌}
use mathlib.Core.Bool.{true, ◌&&◌}
use mathlib.Core.Logic.{⊎_elim}
use native.Mathlib.Omega.{arith}
use native.Mathlib.Nat.{eq-zero-or-pos}
use lib.Dec.{ltb, leb}
use Rattle.detector.specs.declared.DetectorHit.{DetectorHit}
use Rattle.memory.specs.Memory.{Outcome}
use Rattle.step.specs.declared.ActiveRay.{ActiveRay}
use Rattle.step.specs.Rays.{Scene}
use Rattle.step.specs.Steps.{take_step_of}
use Rattle.run.specs.declared.stack.Stack.{Stack}
use Rattle.run.specs.declared.stack.Taken.{Taken}
use Rattle.run.specs.declared.Progress.{Progress}
use Rattle.run.specs.Stack.{load_of, taken_from, empty_stack_of}
use Rattle.run.specs.Run.{is_left, drive}
use Rattle.trace.specs.Trace.{start_of}
use Rattle.theorems_runs.specs.Room.{EachGiven, EachMade, Keeps, Held, next_ray}
use Rattle.theorems_runs.proofs.Bred.{pick}
use Rattle.theorems_runs.proofs.Stacks.{next, next_stack, next_left, next_full, top_taken, given_taken, some_left}
use Rattle.theorems_runs.proofs.Runs.{drive_keeps}
use Rattle.theorems_runs.proofs.Tracings.{start_full}
use Rattle.theorems_runs.proofs.Places.{each_after}

taken_left : (given : ℕ → ActiveRay) (s : Stack) (left : ℕ) → (taken_from given s left).left ≤ left
unfolding taken_from load_of
taken_left given s left = pick (λ (t : Taken). t.left ≤ left) (ltb 0 s.len && leb s.len 17) (λ q. omega arith) (λ q. omega arith)

module _ (P : ActiveRay → Type 0) (given : ℕ → ActiveRay) where
  -- the ray that the next step takes
  pub held_ray : (p : Progress) → is_left p ≡ true → Held P given p → P (next_ray given p)
  held_ray p l h =
      ⊎_elim
      (λ z. rw (given_taken given p.stack p.left z, next_ray) (h.left (p.left - 1) (omega (arith, some_left p l z))))
      (λ q. rw (top_taken given p.stack p.left q h.full.small, next_ray) (h.stack (p.stack.len - 1) (omega arith)))
      (eq-zero-or-pos p.stack.len)

  pub start_held : (n : ℕ) → EachGiven P given n → Held P given (start_of given n)
  unfolding start_of empty_stack_of
  start_held n f = record { full = start_full given n; stack = λ i q. absurd (omega arith); left = f }

  module _ {M : Type 0} (put : M → DetectorHit → Outcome M) (S : Scene) (keeps : Keeps P S) where
    pub next-held : (m : M) (p : Progress) → is_left p ≡ true → Held P given p → Held P given (next put S given m p)
    next-held m p l h =
        let a : ActiveRay = next_ray given p in
        let c : EachMade P (take_step_of S a) = keeps a (held_ray p l h) in
        record {
          full = next_full put S given m p h.full;
          stack = rw (next_stack put S given m p) (each_after (λ i a. P a) p.stack (take_step_of S a) h.full h.stack c.0 (λ i k. c.1));
          left = λ i q. h.left i (omega (arith, next_left put S given m p, taken_left given p.stack p.left));
        }

    -- after any k steps of a run of n given rays, the ray that the next one takes
    pub every-ray : (n : ℕ) → EachGiven P given n → (k : ℕ) (m : M) → is_left (drive put S given k m (start_of given n)).progress ≡ true → P (next_ray given (drive put S given k m (start_of given n)).progress)
    every-ray n f k m l = held_ray (drive put S given k m (start_of given n)).progress l (drive_keeps put S given (Held P given) (λ u p q h. next-held u p q h) k m (start_of given n) (start_held n f))
