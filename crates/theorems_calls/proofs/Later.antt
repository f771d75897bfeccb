-- A run of some rays is how the run of a longer batch begins: rays are taken last to first. Assumes nothing.
use Prim.Native.Nat.{ℕ, zero, suc, ◌+◌, ◌≤◌, ◌<◌}
use mathlib.Core.Path.{◌≡◌, refl, ap, sym, ◌∙◌}
use mathlib.Core.Bool.{Bool, true, false}
use native.Mathlib.Omega.{arith}
use native.Mathlib.Nat.{zero-add}
use borrow.Author.Tests.{le-ltb}
use Rattle.detector.specs.declared.DetectorHit.{DetectorHit}
use Rattle.memory.specs.Memory.{Outcome, done, refused}
use Rattle.step.specs.declared.ActiveRay.{ActiveRay}
use Rattle.step.specs.Rays.{Scene, End, dim, spent, gone, caught, met, refusing}
use Rattle.step.specs.Steps.{take_step_of}
use Rattle.report.specs.declared.NonSeqTraceReport.{NonSeqTraceReport}
use Rattle.run.specs.declared.Progress.{Progress}
use Rattle.run.specs.Stack.{taken_from, empty_stack_of}
use Rattle.run.specs.Run.{hit_in_of, refusal_in_of, put_from, is_left, and_then, settle_with, step_on, drive}
use Rattle.trace.specs.Trace.{all_steps, start_of}
use Rattle.theorems_runs.specs.Sums.{Full}
use Rattle.theorems_runs.proofs.Bred.{false_true}
use Rattle.theorems_runs.proofs.Stacks.{next, none_left}
use Rattle.theorems_runs.proofs.Runs.{limit, weight, next_less, weight_pos}
use Rattle.theorems_runs.proofs.Tracings.{start_full, start_weight}
use Rattle.theorems_calls.specs.Parts.{shifted, then_on}
use Rattle.theorems_calls.proofs.Stacks.{after_alike, Like, Takes, takes}

-- ---- with no ray left nothing happens

pub over : {M : Type 0} (put : M → DetectorHit → Outcome M) (S : Scene) (given : ℕ → ActiveRay) (k : ℕ) (m : M) (p : Progress) → is_left p ≡ false → (drive put S given k m p).outcome ≡ done m
unfolding drive
over put S given zero m p e = refl
over put S given (suc k) m p e = rw e

is_over : (p : Progress) → p.stack.len ≡ 0 → p.left ≡ 0 → is_left p ≡ false
unfolding is_left
is_over p z y = rw (le-ltb 0 p.stack.len (omega arith), le-ltb 0 p.left (omega arith))

is_left_lem : (c : ℕ) (p q : Progress) → q.stack.len ≡ p.stack.len → q.left ≡ c + p.left → is_left p ≡ true → is_left q ≡ true
unfolding is_left
is_left_lem c p q e f l = go (is_left q) refl
  where
    go : (b : Bool) → is_left q ≡ b → is_left q ≡ true
    go true g = g
    go false g =
        let n = none_left q g in
        let z : is_left p ≡ false = is_over p (omega (arith, e, n.0)) (omega (arith, f, n.1)) in
        false_true (sym z ∙ l)

-- ---- one step of both runs

module _ {M : Type 0} (put : M → DetectorHit → Outcome M) (S : Scene) (c : ℕ) where
  put_later : (place : ℕ) (r a r' a' : NonSeqTraceReport) (o : Outcome M) → (put_from (c + place) r' a' o).outcome ≡ shifted c (put_from place r a o).outcome
  put_later place r a r' a' (done m) = refl
  put_later place r a r' a' (refused k at m) = refl

  settle_later : (m : M) (place : ℕ) (r a r' a' : NonSeqTraceReport) (e : End)
      → (settle_with put m (c + place) r' a' (refusal_in_of e (c + place)) (hit_in_of e)).outcome ≡ shifted c (settle_with put m place r a (refusal_in_of e place) (hit_in_of e)).outcome
  unfolding hit_in_of refusal_in_of
  settle_later m place r a r' a' dim = refl
  settle_later m place r a r' a' spent = refl
  settle_later m place r a r' a' gone = refl
  settle_later m place r a r' a' (caught h) = put_later place r a r' a' (put m h)
  settle_later m place r a r' a' (met x) = refl
  settle_later m place r a r' a' (refusing k) = refl

  module _ (n : ℕ) (given later : ℕ → ActiveRay) (same : (i : ℕ) → i < n → later i ≡ given (c + i)) (m : M) (p q : Progress) where
    step-outcome : Takes c n given later same p q → (step_on put S given m q).outcome ≡ shifted c (step_on put S later m p).outcome
    unfolding step_on
    step-outcome t =
        rw (t.ray, t.left) (settle_later m _ p.report _ q.report _ (take_step_of S (taken_from later p.stack p.left).ray).end)

    step-like : Like c n given later same p q → Takes c n given later same p q → Like c n given later same (next put S later m p) (next put S given m q)
    unfolding step_on
    step-like h t =
        record {
          stacks = rw t.ray (after_alike p.stack q.stack (take_step_of S (taken_from later p.stack p.left).ray) h.stacks);
          left = t.left;
          few = t.few;
        }

-- ---- the whole run

module _ {M : Type 0} (put : M → DetectorHit → Outcome M) (S : Scene) (lim : S.optics.config.max_bounces ≤ 16) (c n : ℕ) (given later : ℕ → ActiveRay) (same : (i : ℕ) → i < n → later i ≡ given (c + i)) (W : M → Outcome M) (ends : (k : ℕ) (m : M) (q : Progress) → q.stack.len ≡ 0 → q.left ≡ c → Full q.stack → weight put S given q ≤ k → (drive put S given k m q).outcome ≡ W m) where
  then_later : (j k : ℕ) (x y : Outcome M) (p q : Progress) → y ≡ shifted c x
      → ((m : M) → (drive put S given k m q).outcome ≡ then_on (shifted c (drive put S later j m p).outcome) W)
      → (and_then (drive put S given k) y q).outcome ≡ then_on (shifted c (and_then (drive put S later j) x p).outcome) W
  then_later j k (done m) y p q e f = rw e (f m)
  then_later j k (refused i place m) y p q e f = rw e

  -- nothing is left of the later rays
  at_end : (j k : ℕ) (m : M) (p q : Progress) → is_left p ≡ false → Like c n given later same p q → weight put S given q ≤ k
      → (drive put S given k m q).outcome ≡ then_on (shifted c (drive put S later j m p).outcome) W
  at_end j k m p q e h w =
      let z = none_left p e in
      ends k m q (h.stacks.len ∙ z.0) (h.left ∙ omega (arith, z.1)) h.stacks.also_full w
      ∙ sym (ap (λ o. then_on (shifted c o) W) (over put S later j m p e))

  pub run_later : (j k : ℕ) (m : M) (p q : Progress) → Like c n given later same p q → weight put S later p ≤ j → weight put S given q ≤ k
      → (drive put S given k m q).outcome ≡ then_on (shifted c (drive put S later j m p).outcome) W
  unfolding drive
  run_later zero k m p q h v w = go (is_left p) refl
    where
      go : (b : Bool) → is_left p ≡ b → (drive put S given k m q).outcome ≡ then_on (shifted c (drive put S later zero m p).outcome) W
      go true e = absurd (omega (arith, weight_pos put S later p h.stacks.full e))
      go false e = at_end zero k m p q e h w
  run_later (suc j) zero m p q h v w = go (is_left p) refl
    where
      go : (b : Bool) → is_left p ≡ b → (drive put S given zero m q).outcome ≡ then_on (shifted c (drive put S later (suc j) m p).outcome) W
      go true e = absurd (omega (arith, weight_pos put S given q h.stacks.also_full (is_left_lem c p q h.stacks.len h.left e)))
      go false e = at_end (suc j) zero m p q e h w
  run_later (suc j) (suc k) m p q h v w = go (λ m2 h2 v2 w2. run_later j k m2 (next put S later m p) (next put S given m q) h2 v2 w2) (is_left p) refl
    where
      go : ((m2 : M) → Like c n given later same (next put S later m p) (next put S given m q) → weight put S later (next put S later m p) ≤ j → weight put S given (next put S given m q) ≤ k
          → (drive put S given k m2 (next put S given m q)).outcome ≡ then_on (shifted c (drive put S later j m2 (next put S later m p)).outcome) W)
          → (b : Bool) → is_left p ≡ b → (drive put S given (suc k) m q).outcome ≡ then_on (shifted c (drive put S later (suc j) m p).outcome) W
      go f true e =
          let i : is_left q ≡ true = is_left_lem c p q h.stacks.len h.left e in
          let t = takes c n given later same p q e h in
          rw (e, i)
          (then_later j k (step_on put S later m p).outcome (step_on put S given m q).outcome (next put S later m p) (next put S given m q)
          (step-outcome put S c n given later same m p q t)
          (λ m2.
          f m2 (step-like put S c n given later same m p q h t) (omega (arith, next_less put S later m p lim h.stacks.full e))
          (omega (arith, next_less put S given m q lim h.stacks.also_full i))))
      go f false e = at_end (suc j) (suc k) m p q e h w

-- ---- two runs of the same rays, and a batch in two

shift_none : {M : Type 0} (o : Outcome M) → then_on (shifted 0 o) (λ m. done m) ≡ o
shift_none (done m) = refl
shift_none (refused k place m) = ap (λ i. refused k i m) (zero-add place)

start_like : (c n : ℕ) (given later : ℕ → ActiveRay) (same : (i : ℕ) → i < n → later i ≡ given (c + i)) (q : Progress) → q.stack.len ≡ 0 → q.left ≡ c + n → Full q.stack → Like c n given later same (start_of later n) q
unfolding start_of empty_stack_of
start_like c n given later same q z e f =
    record { stacks = record { len = z; each = λ i k. absurd (omega arith); full = start_full later n; also_full = f }; left = e; few = omega arith }

module _ {M : Type 0} (put : M → DetectorHit → Outcome M) (S : Scene) (lim : S.optics.config.max_bounces ≤ 16) where
  -- from an empty stack, whatever stands in its places, with any number of steps that is enough
  same_start : (n : ℕ) (given again : ℕ → ActiveRay) → n ≤ 4096 → ((i : ℕ) → i < n → again i ≡ given i)
      → (k : ℕ) (m : M) (q : Progress) → q.stack.len ≡ 0 → q.left ≡ n → Full q.stack → weight put S given q ≤ k
      → (drive put S given k m q).outcome ≡ (drive put S again all_steps m (start_of again n)).outcome
  same_start n given again few same k m q z e f w =
      let same0 : (i : ℕ) → i < n → again i ≡ given (0 + i) = λ i l. same i l ∙ ap given (sym (zero-add i)) in
      run_later put S lim 0 n given again same0 (λ m. done m) (λ k m q z e f w. over put S given k m q (is_over q z e)) all_steps k m (start_of again n) q
      (start_like 0 n given again same0 q z (e ∙ sym (zero-add n)) f) (omega (arith, start_weight (limit put S again) again n lim few)) w
      ∙ shift_none _

  -- a batch of c + n rays: the n later ones first, then, unless they are refused, the c before them
  pub two_runs : (c n : ℕ) (given former later : ℕ → ActiveRay) → c + n ≤ 4096 → ((i : ℕ) → i < c → former i ≡ given i) → ((i : ℕ) → i < n → later i ≡ given (c + i)) → (m : M)
      → (drive put S given all_steps m (start_of given (c + n))).outcome
      ≡ then_on (shifted c (drive put S later all_steps m (start_of later n)).outcome) (λ m. (drive put S former all_steps m (start_of former c)).outcome)
  unfolding start_of empty_stack_of
  two_runs c n given former later few same-former same-later m =
      run_later put S lim c n given later same-later (λ m. (drive put S former all_steps m (start_of former c)).outcome)
      (λ k m q z e f w. same_start c given former (omega arith) same-former k m q z e f w)
      all_steps all_steps m (start_of later n) (start_of given (c + n))
      (start_like c n given later same-later (start_of given (c + n)) refl refl (start_full given (c + n)))
      (omega (arith, start_weight (limit put S later) later n lim (omega arith)))
      (omega (arith, start_weight (limit put S given) given (c + n) lim few))
