-- Two work stacks with the same rays: what a step takes from them and leaves on them. Assumes nothing.
use Rattle.std.specs.Prelude.{Option, None, Some}
use Prim.{yes, no}
use Prim.Native.Nat.{ℕ, ◌+◌, ◌-◌, ◌≤◌, ◌<◌}
use mathlib.Core.Path.{◌≡◌, refl, ap, sym, ◌∙◌}
use mathlib.Core.Bool.{Bool, true, false}
use mathlib.Core.List.{List}
use mathlib.Core.Logic.{⊎_elim}
use native.Mathlib.Omega.{arith}
use native.Mathlib.Nat.{eq-zero-or-pos}
use native.Mathlib.Decide.{ℕ_discrete}
use lib.Dec.{ltb}
use lib.ListN.{length, get_or, set}
use lib.Seq.{get_or-set_same, get_or-set_other}
use borrow.Author.Tests.{ltb-true, ltb-false, lt-ltb, le-ltb}
use Rattle.step.specs.declared.ActiveRay.{ActiveRay}
use Rattle.step.specs.Rays.{Step}
use Rattle.run.specs.declared.stack.Stack.{Stack}
use Rattle.run.specs.declared.Progress.{Progress}
use Rattle.run.specs.Stack.{no_ray, taken_from, pushed, pushed_if, popped, stack_after}
use Rattle.run.specs.Run.{is_left}
use Rattle.theorems_runs.specs.Sums.{Full}
use Rattle.theorems_runs.proofs.Stacks.{full_popped, full_if, if_len, top_taken, given_taken, some_left}

-- the same rays; what stands in the places above them may differ
pub record Alike (s t : Stack) : Type 0 where
  pub len : t.len ≡ s.len
  pub each : (i : ℕ) → i < s.len → get_or t.rays i no_ray ≡ get_or s.rays i no_ray
  pub full : Full s
  pub also_full : Full t

popped_alike : (s t : Stack) → Alike s t → Alike (popped s) (popped t)
unfolding popped
popped_alike s t h =
    record {
      len = omega (arith, h.len);
      each = λ i k. h.each i (omega arith);
      full = full_popped s h.full;
      also_full = full_popped t h.also_full;
    }

set_alike : (l m : List ActiveRay) (n : ℕ) (a : ActiveRay) → n < length l → n < length m → ((i : ℕ) → i < n → get_or m i no_ray ≡ get_or l i no_ray)
    → (i : ℕ) → i < n + 1 → get_or (set m n a) i no_ray ≡ get_or (set l n a) i no_ray
set_alike l m n a p q f i k =
    elim (ℕ_discrete i n) [
      | yes e ↦ rw e (get_or-set_same m n a no_ray q ∙ sym (get_or-set_same l n a no_ray p))
      | no d ↦ get_or-set_other m n i a no_ray d ∙ f i (omega arith) ∙ sym (get_or-set_other l n i a no_ray d)
    ]

if_alike : (o : Option ActiveRay) (s t : Stack) → s.len < 17 → Alike s t → Alike (pushed_if s o) (pushed_if t o)
unfolding pushed_if pushed
if_alike None s t k h = h
if_alike (Some a) s t k h =
    record {
      len = omega (arith, h.len);
      each = λ i q. rw h.len (set_alike s.rays t.rays s.len a (omega (arith, h.full.room)) (omega (arith, h.also_full.room)) h.each i q);
      full = full_if s (Some a) k h.full;
      also_full = full_if t (Some a) (omega (arith, h.len)) h.also_full;
    }

pub after_alike : (s t : Stack) (e : Step) → Alike s t → Alike (stack_after s e) (stack_after t e)
unfolding stack_after
after_alike s t e h = more (ltb (popped s).len 16) refl
  where
    more : (b : Bool) → ltb (popped s).len 16 ≡ b → Alike (stack_after s e) (stack_after t e)
    more true q =
        let p : Alike (popped s) (popped t) = popped_alike s t h in
        let l : (popped s).len < 16 = ltb-true (popped s).len 16 q in
        rw (lt-ltb (popped s).len 16 l, lt-ltb (popped t).len 16 (omega (arith, p.len)))
        (if_alike e.transmitted _ _ (omega (arith, if_len (popped s) e.reflected))
        (if_alike e.reflected (popped s) (popped t) (omega arith) p))
    more false q =
        let p : Alike (popped s) (popped t) = popped_alike s t h in
        let l : 16 ≤ (popped s).len = ltb-false (popped s).len 16 q in
        rw (le-ltb (popped s).len 16 l, le-ltb (popped t).len 16 (omega (arith, p.len))) p

-- ---- the ray that is taken; c given rays stand before those of the first run

module _ (c n : ℕ) (given later : ℕ → ActiveRay) (same : (i : ℕ) → i < n → later i ≡ given (c + i)) where
  pub record Like (p q : Progress) : Type 0 where
    pub stacks : Alike p.stack q.stack
    pub left : q.left ≡ c + p.left
    pub few : p.left ≤ n

  pub record Takes (p q : Progress) : Type 0 where
    pub ray : (taken_from given q.stack q.left).ray ≡ (taken_from later p.stack p.left).ray
    pub left : (taken_from given q.stack q.left).left ≡ c + (taken_from later p.stack p.left).left
    pub few : (taken_from later p.stack p.left).left ≤ n

  pub takes : (p q : Progress) → is_left p ≡ true → Like p q → Takes p q
  takes p q l h =
      ⊎_elim
      (λ z.
      let f : 0 < p.left = some_left p l z in
      let t = given_taken given q.stack q.left (h.stacks.len ∙ z) in
      let u = given_taken later p.stack p.left z in
      let e : q.left - 1 ≡ c + (p.left - 1) = omega (arith, h.left) in
      record {
        ray = ap (λ x. x.ray) t ∙ ap given e ∙ sym (same (p.left - 1) (omega (arith, h.few))) ∙ sym (ap (λ x. x.ray) u);
        left = ap (λ x. x.left) t ∙ e ∙ ap (λ x. c + x.left) (sym u);
        few = rw u (omega (arith, h.few));
      })
      (λ k.
      let t = top_taken given q.stack q.left (omega (arith, h.stacks.len)) h.stacks.also_full.small in
      let u = top_taken later p.stack p.left k h.stacks.full.small in
      let e : get_or q.stack.rays (q.stack.len - 1) no_ray ≡ get_or p.stack.rays (p.stack.len - 1) no_ray =
      ap (λ i. get_or q.stack.rays (i - 1) no_ray) h.stacks.len ∙ h.stacks.each (p.stack.len - 1) (omega arith) in
      record {
        ray = ap (λ x. x.ray) t ∙ e ∙ sym (ap (λ x. x.ray) u);
        left = ap (λ x. x.left) t ∙ h.left ∙ ap (λ x. c + x.left) (sym u);
        few = rw u h.few;
      })
      (eq-zero-or-pos p.stack.len)
