-- The ray that the code takes, and the stack that it hands back, are the definitions'. Assumes nothing.
use Rattle.std.specs.Prelude.{Option, None, Some, is_some}
use Prim.Native.Nat.{ℕ, ◌+◌, ◌-◌, ◌≤◌, ◌<◌}
use mathlib.Core.Path.{◌≡◌, refl, sym, ap, ◌∙◌}
use mathlib.Core.Bool.{Bool, true, false, cond, ◌&&◌, ◌||◌}
use lib.Dec.{leb, ltb}
use mathlib.Core.List.{List}
use lib.ListN.{get_or, set}
use borrow.Author.Tests.{lt-ltb, le-ltb}
use Rattle.doubles.proofs.Floats.{clash}
use Rattle.step.specs.declared.ActiveRay.{ActiveRay}
use Rattle.detector.specs.declared.DetectorHit.{DetectorHit}
use Rattle.step.specs.Rays.{Scene, Step}
use Rattle.step.specs.Steps.{take_step_of}
use Rattle.run.specs.declared.stack.Stack.{Stack}
use Rattle.run.specs.declared.stack.Taken.{Taken}
use Rattle.run.specs.Run.{hit_in_of}
use Rattle.run.proofs.Quiet.{step_quiet}
use Rattle.run.specs.Stack.{no_ray, max_stack, pair_room, load_of, taken_from, pushed, pushed_if, popped, stack_after, top_at_of, take_of}

-- ---- the ray that is taken

taken_case : (b : Bool) (given : ℕ → ActiveRay) (s : Stack) (left : ℕ) → cond b (record { ray = get_or s.rays (cond b (s.len - 1) 0) no_ray; left = left }) (load_of given left) ≡ cond b (record { ray = get_or s.rays (s.len - 1) no_ray; left = left }) (load_of given left)
taken_case true given s left = refl
taken_case false given s left = refl

pub taken_is : (given : ℕ → ActiveRay) (s : Stack) (left at : ℕ) → at ≡ top_at_of s.len → (top : ActiveRay) → top ≡ get_or s.rays at no_ray → (t : Taken) → t ≡ take_of given top s.len left → t ≡ taken_from given s left
unfolding take_of taken_from top_at_of
taken_is given s left at ea top et t e = rw (e, et, ea) (taken_case (ltb 0 s.len && leb s.len max_stack) given s left)

-- ---- the stack after a step

module _ (s : Stack) (n : ℕ) (under : n ≡ s.len - 1) where
  pub first_made : (o : Option ActiveRay) (r : ActiveRay) (rays : List ActiveRay) (at : ℕ) → o ≡ Some r → rays ≡ set s.rays n r → at ≡ n + 1 → record { rays = rays; len = at } ≡ pushed_if (popped s) o
  unfolding popped pushed_if pushed
  first_made o r rays at f er ea = rw (er, ea, f, under)

  pub first_missing : (o : Option ActiveRay) (rays : List ActiveRay) (at : ℕ) → o ≡ None → rays ≡ s.rays → at ≡ n → record { rays = rays; len = at } ≡ pushed_if (popped s) o
  unfolding popped pushed_if
  first_missing o rays at f er ea = rw (er, ea, f, under)

  module _ (e : Step) where
    pub no_room : pair_room ≤ n → record { rays = s.rays; len = n } ≡ stack_after s e
    unfolding stack_after popped
    no_room q = rw (under, le-ltb _ _ (rw under at q))

    module _ (rays : List ActiveRay) (at : ℕ) (grown : record { rays = rays; len = at } ≡ pushed_if (popped s) e.reflected) (room : n < pair_room) where
      second-by : (o : Option ActiveRay) → e.transmitted ≡ o → pushed_if (record { rays = rays; len = at }) o ≡ stack_after s e
      unfolding stack_after popped
      second-by o f = rw (grown, ← f, lt-ltb _ _ (rw under at room))

      pub second-made : (t : ActiveRay) → e.transmitted ≡ Some t → record { rays = set rays at t; len = at + 1 } ≡ stack_after s e
      unfolding pushed_if pushed
      second-made t f = second-by (Some t) f

      pub second-missing : e.transmitted ≡ None → record { rays = rays; len = at } ≡ stack_after s e
      unfolding pushed_if
      second-missing f = second-by None f

neither : (a b : Option ActiveRay) → (is_some a || is_some b) ≡ false → (a ≡ None) × (b ≡ None)
neither None None e = (refl, refl)
neither None (Some r) e = absurd (clash e)
neither (Some r) b e = absurd (clash e)

module _ (s : Stack) (e : Step) where
  quiet_by : (room : Bool) → ltb (s.len - 1) pair_room ≡ room → e.reflected ≡ None → e.transmitted ≡ None → popped s ≡ stack_after s e
  unfolding stack_after popped pushed_if
  quiet_by true q f g = rw (f, g, q)
  quiet_by false q f g = rw q

  -- no ray comes
  quiet : e.reflected ≡ None → e.transmitted ≡ None → (t : Stack) → t ≡ popped s → t ≡ stack_after s e
  quiet f g t et = et ∙ quiet_by (ltb (s.len - 1) pair_room) refl f g

  pub after_quiet : (a b : Bool) → a ≡ is_some e.reflected → b ≡ is_some e.transmitted → (a || b) ≡ false → (t : Stack) → t ≡ popped s → t ≡ stack_after s e
  after_quiet a b ea eb f = let none-comes = neither e.reflected e.transmitted (rw (ea, eb) at f) in quiet none-comes.0 none-comes.1

-- no ray comes of a ray that a detector catches
pub after_hit : (s : Stack) (e : Step) (S : Scene) (a : ActiveRay) → e ≡ take_step_of S a → (k : Option DetectorHit) → k ≡ hit_in_of e.end → (d : DetectorHit) → k ≡ Some d → (t : Stack) → t ≡ popped s → t ≡ stack_after s e
after_hit s e S a came k caught d ek =
    let none-comes = step_quiet S a d (ap (λ (x : Step). hit_in_of x.end) (sym came) ∙ sym caught ∙ ek) in
    quiet s e (ap (λ (x : Step). x.reflected) came ∙ none-comes.0) (ap (λ (x : Step). x.transmitted) came ∙ none-comes.1)
