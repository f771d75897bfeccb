-- What holds of every ray at its place on the stack, and that a tidy stack has room for what a step makes. Assumes nothing.
use Rattle.std.specs.Prelude.{Option, None, Some, IfSome}
use Rattle.std.proofs.lemmas.Option.{IfSome_then}
use Prim.Native.Nat.{ℕ, ◌≤◌, ◌<◌, ◌+◌, ◌-◌}
use mathlib.Core.Path.{◌≡◌, refl}
use mathlib.Core.Bool.{Bool, true, false}
use mathlib.Core.Logic.{⊎_elim}
use native.Mathlib.Omega.{arith}
use native.Mathlib.Nat.{eq-zero-or-pos}
use lib.Dec.{ltb}
use lib.ListN.{length, get_or, set}
use lib.Seq.{get_or-set_same, get_or-set_other}
use borrow.Author.Count.{below_more}
use borrow.Author.Tests.{ltb-true, ltb-false}
use Rattle.detector.specs.declared.DetectorHit.{DetectorHit}
use Rattle.memory.specs.Memory.{Outcome}
use Rattle.step.specs.declared.ActiveRay.{ActiveRay}
use Rattle.step.specs.Rays.{Scene, Step}
use Rattle.step.specs.Steps.{take_step_of}
use Rattle.run.specs.declared.stack.Stack.{Stack}
use Rattle.run.specs.declared.Progress.{Progress}
use Rattle.run.specs.Stack.{no_ray, taken_from, pushed, pushed_if, popped, stack_after}
use Rattle.run.specs.Run.{is_left}
use Rattle.theorems_runs.specs.Sums.{sum_left, sum_made, Full, Each, Low, Tidy}
use Rattle.theorems_runs.proofs.Bred.{pick, bred}
use Rattle.theorems_runs.proofs.Stacks.{ray, next, next_stack, next_is, next_full, full_popped, full_if, if_len, sum_after, sum_none, taken_sum, top_taken, popped_len}
use Rattle.theorems_runs.proofs.Weights.{made_most, one_low, two_low, one_more, two_more}

module _ (Q : ℕ → ActiveRay → Type 0) where
  each_popped : (s : Stack) → Each Q s → Each Q (popped s)
  unfolding popped
  each_popped s h = λ i q. h i (omega arith)

  each_pushed : (s : Stack) (a : ActiveRay) → s.len < 17 → Full s → Each Q s → Q s.len a → Each Q (pushed s a)
  unfolding pushed
  each_pushed s a l f h r =
      let j : s.len < length s.rays = omega (arith, f.room) in
      below_more (λ (i : ℕ). Q i (get_or (set s.rays s.len a) i no_ray)) s.len
      (λ i q. rw (get_or-set_other s.rays s.len i a no_ray (λ e. omega arith)) (h i q))
      (rw (get_or-set_same s.rays s.len a no_ray j) r)

  each_if : (s : Stack) (o : Option ActiveRay) → s.len < 17 → Full s → Each Q s → IfSome o (Q s.len) → Each Q (pushed_if s o)
  unfolding pushed_if
  each_if s (Some a) l f h r = each_pushed s a l f h r
  each_if s None l f h r = h

  -- the transmitted ray comes to the next place, or to the one after it
  pub each_after : (s : Stack) (e : Step) → Full s → Each Q s → IfSome e.reflected (Q (popped s).len) → ((i : ℕ) → i ≤ (popped s).len + 1 → IfSome e.transmitted (Q i)) → Each Q (stack_after s e)
  unfolding stack_after
  each_after s e f h one two =
      pick (Each Q) (ltb (popped s).len 16)
      (λ q.
      let l : (popped s).len < 16 = ltb-true (popped s).len 16 q in
      let u : Stack = pushed_if (popped s) e.reflected in
      let k : u.len ≤ (popped s).len + 1 = if_len (popped s) e.reflected in
      each_if u e.transmitted (omega arith) (full_if (popped s) e.reflected (omega arith) (full_popped s f))
      (each_if (popped s) e.reflected (omega arith) (full_popped s f) (each_popped s h) one) (two u.len k))
      (λ q. each_popped s h)

-- ---- a tidy stack

pub taken_low : (given : ℕ → ActiveRay) (s : Stack) (left : ℕ) → Tidy s → (popped s).len ≤ (taken_from given s left).ray.bounce_count
taken_low given s left t =
    ⊎_elim (λ z. omega (arith, popped_len s))
    (λ q. rw (top_taken given s left q t.full.small) (omega (arith, popped_len s, t.low (s.len - 1) (omega arith))))
    (eq-zero-or-pos s.len)

module _ {M : Type 0} (put : M → DetectorHit → Outcome M) (S : Scene) (given : ℕ → ActiveRay) (m : M) (p : Progress) (lim : S.optics.config.max_bounces ≤ 16) (t : Tidy p.stack) where
  abbrev here : ActiveRay
  here = ray put S given m p

  abbrev made : Step
  made = take_step_of S here

  abbrev b : ℕ
  b = S.optics.config.max_bounces

  -- a step that makes a ray has room for two
  pub room_one : IfSome made.reflected (λ r. (popped p.stack).len < 16)
  room_one = IfSome_then made.reflected (one_low b here made (bred S here)) (λ r q. omega (arith, taken_low given p.stack p.left t))

  pub room_two : IfSome made.transmitted (λ r. (popped p.stack).len < 16)
  room_two = IfSome_then made.transmitted (two_low b here made (bred S here)) (λ r q. omega (arith, taken_low given p.stack p.left t))

  pub next_tidy : Tidy (next put S given m p).stack
  next_tidy =
      record {
        full = next_full put S given m p t.full;
        low =
            rw (next_stack put S given m p)
            (each_after Low p.stack made t.full t.low
            (IfSome_then made.reflected (one_more b here made lim (bred S here)) (λ r q. omega (arith, taken_low given p.stack p.left t)))
            (λ i l. IfSome_then made.transmitted (two_more b here made lim (bred S here)) (λ r q. omega (arith, taken_low given p.stack p.left t))));
      }

  -- a step changes a sum by the taken ray and the rays that it makes, precisely
  pub next_same : (f : ActiveRay → ℕ) → is_left p ≡ true → sum_left f given (next put S given m p) + f here ≡ sum_made f made + sum_left f given p
  next_same f l = more (ltb (popped p.stack).len 16) refl
    where
      more : (s : Bool) → ltb (popped p.stack).len 16 ≡ s → sum_left f given (next put S given m p) + f here ≡ sum_made f made + sum_left f given p
      more true q =
          omega (arith, next_is put S given m p f, taken_sum f given p t.full l, sum_after f p.stack made t.full (ltb-true (popped p.stack).len 16 q))
      more false q =
          let g : 16 ≤ (popped p.stack).len = ltb-false (popped p.stack).len 16 q in
          let z : sum_made f made ≤ 0 + 0 = made_most f made 0 (IfSome_then made.reflected room_one (λ r y. absurd (omega arith))) (IfSome_then made.transmitted room_two (λ r y. absurd (omega arith))) in
          omega (arith, next_is put S given m p f, taken_sum f given p t.full l, sum_none f p.stack made g)
