-- What a step does to the sums over the stack and over the given rays that are left. Assumes nothing.
use Rattle.std.specs.Prelude.{Option, None, Some}
use Prim.Native.Nat.{ℕ, zero, suc, ◌≤◌, ◌<◌, ◌+◌, ◌-◌}
use mathlib.Core.Path.{◌≡◌, refl, sym, ◌∙◌}
use mathlib.Core.Bool.{Bool, true, false, ◌||◌}
use mathlib.Core.List.{List}
use mathlib.Core.Logic.{⊎_elim}
use native.Mathlib.Omega.{arith}
use native.Mathlib.Nat.{eq-zero-or-pos}
use native.Mathlib.Numerals.{add-one}
use lib.Dec.{ltb}
use lib.ListN.{length, get_or, set, length-set}
use lib.Seq.{get_or-set_same, get_or-set_other}
use borrow.Author.Tests.{ltb-true, ltb-false, lt-ltb, le-ltb, le-leb}
use Rattle.detector.specs.declared.DetectorHit.{DetectorHit}
use Rattle.memory.specs.Memory.{Outcome}
use Rattle.step.specs.declared.ActiveRay.{ActiveRay}
use Rattle.step.specs.Rays.{Scene, Step}
use Rattle.step.specs.Steps.{take_step_of}
use Rattle.run.specs.declared.stack.Stack.{Stack}
use Rattle.run.specs.declared.Progress.{Progress}
use Rattle.run.specs.Stack.{no_ray, load_of, taken_from, pushed, pushed_if, popped, stack_after}
use Rattle.run.specs.Run.{is_left, step_on}
use Rattle.theorems_runs.specs.Sums.{sum_first, sum_given, sum_stack, sum_left, sum_some, sum_made, Full}
use Rattle.theorems_runs.proofs.Bred.{pick, false_true}

-- ---- the stack

pub full_popped : (s : Stack) → Full s → Full (popped s)
unfolding popped
full_popped s h = record { room = h.room; small = omega (arith, h.small) }

full_pushed : (s : Stack) (a : ActiveRay) → s.len < 17 → Full s → Full (pushed s a)
unfolding pushed
full_pushed s a q h = record { room = length-set s.rays s.len a ∙ h.room; small = omega arith }

pub full_if : (s : Stack) (o : Option ActiveRay) → s.len < 17 → Full s → Full (pushed_if s o)
unfolding pushed_if
full_if s (Some a) q h = full_pushed s a q h
full_if s None q h = h

pub if_len : (s : Stack) (o : Option ActiveRay) → (pushed_if s o).len ≤ s.len + 1
unfolding pushed_if pushed
if_len s (Some a) = omega arith
if_len s None = omega arith

pub full_after : (s : Stack) (e : Step) → Full s → Full (stack_after s e)
unfolding stack_after
full_after s e h =
    pick Full (ltb (popped s).len 16)
    (λ q.
    let l : (popped s).len < 16 = ltb-true (popped s).len 16 q in
    full_if _ e.transmitted (omega (arith, if_len (popped s) e.reflected))
    (full_if (popped s) e.reflected (omega arith) (full_popped s h)))
    (λ q. full_popped s h)

-- ---- the sum over the stack

module _ (f : ActiveRay → ℕ) where
  sum_set : (n i : ℕ) (xs : List ActiveRay) (a : ActiveRay) → n ≤ i → sum_first f (set xs i a) n ≡ sum_first f xs n
  unfolding sum_first
  sum_set zero i xs a h = refl
  sum_set (suc n) i xs a h = rw (get_or-set_other xs i n a no_ray (λ e. omega arith), sum_set n i xs a (omega arith))

  sum_split : (xs : List ActiveRay) (n : ℕ) → 0 < n → sum_first f xs n ≡ f (get_or xs (n - 1) no_ray) + sum_first f xs (n - 1)
  unfolding sum_first
  sum_split xs zero h = absurd (omega arith)
  sum_split xs (suc m) h = let q : suc m - 1 ≡ m = omega arith in rw q

  given_split : (given : ℕ → ActiveRay) (n : ℕ) → 0 < n → sum_given f given n ≡ f (given (n - 1)) + sum_given f given (n - 1)
  unfolding sum_given
  given_split given zero h = absurd (omega arith)
  given_split given (suc m) h = let q : suc m - 1 ≡ m = omega arith in rw q

  sum_pushed : (s : Stack) (a : ActiveRay) → s.len < 17 → Full s → sum_stack f (pushed s a) ≡ f a + sum_stack f s
  unfolding sum_stack pushed sum_first
  sum_pushed s a q h =
      let l : s.len < length s.rays = omega (arith, h.room) in
      rw (add-one, get_or-set_same s.rays s.len a no_ray l, sum_set s.len s.len s.rays a (omega arith))

  sum_if : (s : Stack) (o : Option ActiveRay) → s.len < 17 → Full s → sum_stack f (pushed_if s o) ≡ sum_some f o + sum_stack f s
  unfolding pushed_if
  sum_if s (Some a) q h = sum_pushed s a q h
  sum_if s None q h = omega arith

  -- with room for both rays
  pub sum_after : (s : Stack) (e : Step) → Full s → (popped s).len < 16 → sum_stack f (stack_after s e) ≡ sum_made f e + sum_stack f (popped s)
  unfolding stack_after sum_made
  sum_after s e h l =
      let u : Stack = pushed_if (popped s) e.reflected in
      let p1 : sum_stack f u ≡ sum_some f e.reflected + sum_stack f (popped s) = sum_if (popped s) e.reflected (omega arith) (full_popped s h) in
      let p2 : sum_stack f (pushed_if u e.transmitted) ≡ sum_some f e.transmitted + sum_stack f u =
      sum_if u e.transmitted (omega (arith, if_len (popped s) e.reflected)) (full_if (popped s) e.reflected (omega arith) (full_popped s h)) in
      rw (lt-ltb (popped s).len 16 l) (omega (arith, p1, p2))

  -- without
  pub sum_none : (s : Stack) (e : Step) → 16 ≤ (popped s).len → sum_stack f (stack_after s e) ≡ sum_stack f (popped s)
  unfolding stack_after
  sum_none s e l = rw (le-ltb (popped s).len 16 l)

  pub sum_most : (s : Stack) (e : Step) → Full s → sum_stack f (stack_after s e) ≤ sum_made f e + sum_stack f (popped s)
  sum_most s e h = more (ltb (popped s).len 16) refl
    where
      more : (t : Bool) → ltb (popped s).len 16 ≡ t → sum_stack f (stack_after s e) ≤ sum_made f e + sum_stack f (popped s)
      more true q = omega (arith, sum_after s e h (ltb-true (popped s).len 16 q))
      more false q = omega (arith, sum_none s e (ltb-false (popped s).len 16 q))

-- ---- the ray that is taken

pub top_taken : (given : ℕ → ActiveRay) (s : Stack) (left : ℕ) → 0 < s.len → s.len ≤ 17 → taken_from given s left ≡ record { ray = get_or s.rays (s.len - 1) no_ray; left = left }
unfolding taken_from
top_taken given s left p q = rw (lt-ltb 0 s.len p, le-leb s.len 17 q)

pub given_taken : (given : ℕ → ActiveRay) (s : Stack) (left : ℕ) → s.len ≡ 0 → taken_from given s left ≡ record { ray = given (left - 1); left = left - 1 }
unfolding taken_from load_of
given_taken given s left z = rw (le-ltb 0 s.len (omega arith))

pub some_left : (p : Progress) → is_left p ≡ true → p.stack.len ≡ 0 → 0 < p.left
unfolding is_left
some_left p h z = ltb-true 0 p.left (rw (le-ltb 0 p.stack.len (omega arith)) at h)

pub none_left : (p : Progress) → is_left p ≡ false → (p.stack.len ≡ 0) × (p.left ≡ 0)
unfolding is_left
none_left p h = more (ltb 0 p.stack.len) (ltb 0 p.left) refl refl h
  where
    more : (s t : Bool) → ltb 0 p.stack.len ≡ s → ltb 0 p.left ≡ t → (s || t) ≡ false → (p.stack.len ≡ 0) × (p.left ≡ 0)
    more true t x y e = false_true (sym e)
    more false true x y e = false_true (sym e)
    more false false x y e = (omega (arith, ltb-false 0 p.stack.len x), omega (arith, ltb-false 0 p.left y))

pub popped_len : (s : Stack) → (popped s).len ≡ s.len - 1
unfolding popped
popped_len s = refl

module _ (f : ActiveRay → ℕ) (given : ℕ → ActiveRay) where
  top_sum : (s : Stack) → 0 < s.len → sum_stack f s ≡ f (get_or s.rays (s.len - 1) no_ray) + sum_stack f (popped s)
  unfolding sum_stack popped
  top_sum s h = sum_split f s.rays s.len h

  empty_sum : (s : Stack) → s.len ≡ 0 → sum_stack f s ≡ 0
  unfolding sum_stack sum_first
  empty_sum s h = rw h

  empty_popped : (s : Stack) → s.len ≡ 0 → sum_stack f (popped s) ≡ 0
  empty_popped s h = empty_sum (popped s) (omega (arith, popped_len s))

  pub taken_sum : (p : Progress) → Full p.stack → is_left p ≡ true → sum_left f given p ≡ f (taken_from given p.stack p.left).ray + sum_stack f (popped p.stack) + sum_given f given (taken_from given p.stack p.left).left
  unfolding sum_left
  taken_sum p h l =
      ⊎_elim
      (λ z.
      rw (given_taken given p.stack p.left z) (omega (arith, empty_sum p.stack z, empty_popped p.stack z, given_split f given p.left (some_left p l z))))
      (λ q. rw (top_taken given p.stack p.left q h.small) (omega (arith, top_sum p.stack q)))
      (eq-zero-or-pos p.stack.len)

-- ---- a step

module _ {M : Type 0} (put : M → DetectorHit → Outcome M) (S : Scene) (given : ℕ → ActiveRay) (m : M) (p : Progress) where
  abbrev pub ray : ActiveRay
  ray = (taken_from given p.stack p.left).ray

  abbrev pub next : Progress
  next = (step_on put S given m p).progress

  pub next_stack : next.stack ≡ stack_after p.stack (take_step_of S ray)
  unfolding step_on
  next_stack = refl

  pub next_left : next.left ≡ (taken_from given p.stack p.left).left
  unfolding step_on
  next_left = refl

  pub next_full : Full p.stack → Full next.stack
  next_full h = rw next_stack (full_after p.stack (take_step_of S ray) h)

  pub next_is : (f : ActiveRay → ℕ) → sum_left f given next ≡ sum_stack f (stack_after p.stack (take_step_of S ray)) + sum_given f given (taken_from given p.stack p.left).left
  unfolding step_on sum_left
  next_is f = refl

  pub next_sum : (f : ActiveRay → ℕ) → Full p.stack → is_left p ≡ true → sum_left f given next + f ray ≤ sum_made f (take_step_of S ray) + sum_left f given p
  next_sum f h l = omega (arith, next_is f, taken_sum f given p h l, sum_most f p.stack (take_step_of S ray) h)
