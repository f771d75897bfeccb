-- A run, step after step: what every step keeps, the run keeps; a run stops because nothing is left; its interactions are bounded. Assumes nothing.
use Prim.Native.Nat.{ℕ, zero, suc, ◌≤◌, ◌+◌}
use mathlib.Core.Path.{◌≡◌, refl, ap}
use mathlib.Core.Bool.{Bool, true, false, cond}
use native.Mathlib.Omega.{arith}
use Rattle.detector.specs.declared.DetectorHit.{DetectorHit}
use Rattle.memory.specs.Memory.{Outcome, done, refused}
use Rattle.step.specs.declared.ActiveRay.{ActiveRay}
use Rattle.step.specs.Rays.{Scene, End, dim, spent, gone, caught, met, refusing}
use Rattle.step.specs.Steps.{take_step_of}
use Rattle.report.specs.declared.NonSeqTraceReport.{NonSeqTraceReport}
use Rattle.report.specs.Report.{is_interaction_of, more_if_of, report_after_of, counted_of}
use Rattle.run.specs.declared.Progress.{Progress}
use Rattle.run.specs.Stack.{taken_from}
use Rattle.run.specs.Run.{Run, hit_in_of, refusal_in_of, put_from, is_left, and_then, settle_with, step_on, drive}
use Rattle.theorems_runs.specs.Sums.{sum_left, heft, share, Full}
use Rattle.theorems_runs.proofs.Bred.{pick, false_true, bred, more_most}
use Rattle.theorems_runs.proofs.Stacks.{ray, next, next_full, next_sum, taken_sum}
use Rattle.theorems_runs.proofs.Weights.{heft_pos, made_heft, made_share}

-- ---- outcomes

abbrev is_done : {M : Type 0} → Outcome M → Bool
is_done (done m) = true
is_done (refused n place m) = false

pub not_done : {M : Type 0} {A : Type 0} (n place : ℕ) (m m' : M) → refused n place m ≡ done m' → A
not_done n place m m' e = false_true (ap is_done e)

-- ---- the interactions that a step counts

if_more : (t : Bool) (n : ℕ) → more_if_of t n ≤ n + cond t 1 0
unfolding more_if_of
if_more true n = more_most n
if_more false n = omega arith

module _ {M : Type 0} (put : M → DetectorHit → Outcome M) (S : Scene) (given : ℕ → ActiveRay) where
  put_count : (place : ℕ) (r after : NonSeqTraceReport) (o : Outcome M) → after.total_interactions ≤ r.total_interactions + 1 → (put_from place r after o).report.total_interactions ≤ r.total_interactions + 1
  unfolding counted_of
  put_count place r after (done m) h = h
  put_count place r after (refused n at m) h = more_most r.total_interactions

  settle_count : (m : M) (place : ℕ) (r after : NonSeqTraceReport) (e : End) → after.total_interactions ≤ r.total_interactions + cond (is_interaction_of e) 1 0
      → (settle_with put m place r after (refusal_in_of e place) (hit_in_of e)).report.total_interactions ≤ r.total_interactions + cond (is_interaction_of e) 1 0
  unfolding hit_in_of is_interaction_of
  settle_count m place r after dim h = h
  settle_count m place r after spent h = h
  settle_count m place r after gone h = h
  settle_count m place r after (caught k) h = put_count place r after (put m k) h
  settle_count m place r after (met x) h = h
  settle_count m place r after (refusing n) h = h

  pub next_count : (m : M) (p : Progress) → (next put S given m p).report.total_interactions ≤ p.report.total_interactions + cond (is_interaction_of (take_step_of S (ray put S given m p)).end) 1 0
  unfolding step_on report_after_of
  next_count m p = settle_count m _ p.report _ (take_step_of S (ray put S given m p)).end (if_more (is_interaction_of (take_step_of S (ray put S given m p)).end) p.report.total_interactions)

  -- ---- what each step keeps

  module _ (P : Progress → Type 0) where
    then_keeps : (k : ℕ) (o : Outcome M) (p : Progress) → P p → ((m : M) → P (drive put S given k m p).progress) → P (and_then (drive put S given k) o p).progress
    then_keeps k (done m) p h f = f m
    then_keeps k (refused n place m) p h f = h

    pub drive_keeps : ((m : M) (p : Progress) → is_left p ≡ true → P p → P (next put S given m p)) → (k : ℕ) (m : M) (p : Progress) → P p → P (drive put S given k m p).progress
    unfolding drive
    drive_keeps f zero m p h = h
    drive_keeps f (suc k) m p h =
        pick (λ (r : Run M). P r.progress) (is_left p)
        (λ q. then_keeps k (step_on put S given m p).outcome (next put S given m p) (f m p q h) (λ m2. drive_keeps f k m2 (next put S given m p) (f m p q h)))
        (λ q. h)

    then-done : (k : ℕ) (z : M) (o : Outcome M) (p : Progress) → ((m : M) → o ≡ done m → (drive put S given k m p).outcome ≡ done z → P (drive put S given k m p).progress)
        → (and_then (drive put S given k) o p).outcome ≡ done z → P (and_then (drive put S given k) o p).progress
    then-done k z (done m) p f e = f m refl e
    then-done k z (refused n place m) p f e = not_done n place m z e

    -- what each step that is not refused keeps, a run that is not refused keeps
    pub drive-done : ((m u : M) (p : Progress) → is_left p ≡ true → P p → (step_on put S given m p).outcome ≡ done u → P (next put S given m p))
        → (k : ℕ) (m z : M) (p : Progress) → P p → (drive put S given k m p).outcome ≡ done z → P (drive put S given k m p).progress
    unfolding drive
    drive-done f zero m z p h = λ e. h
    drive-done f (suc k) m z p h =
        pick (λ (r : Run M). (r.outcome ≡ done z → P r.progress)) (is_left p)
        (λ q. then-done k z (step_on put S given m p).outcome (next put S given m p) (λ u s. drive-done f k u z (next put S given m p) (f m u p q h s)))
        (λ q e. h)

  -- ---- the weight

  abbrev pub limit : ℕ
  limit = S.optics.config.max_bounces

  abbrev pub weight : Progress → ℕ
  weight p = sum_left (heft limit) given p

  -- every step lowers the weight
  pub next_less : (m : M) (p : Progress) → limit ≤ 16 → Full p.stack → is_left p ≡ true → weight (next put S given m p) + 1 ≤ weight p
  next_less m p lim h l =
      omega (arith, next_sum put S given m p (heft limit) h l, made_heft limit (ray put S given m p) (take_step_of S (ray put S given m p)) lim (bred S (ray put S given m p)))

  -- the interactions counted and those that can still come do not rise
  pub next_shares : (m : M) (p : Progress) → limit ≤ 16 → Full p.stack → is_left p ≡ true
      → (next put S given m p).report.total_interactions + sum_left (share limit) given (next put S given m p) ≤ p.report.total_interactions + sum_left (share limit) given p
  next_shares m p lim h l =
      omega (arith, next_count m p, next_sum put S given m p (share limit) h l, made_share limit (ray put S given m p) (take_step_of S (ray put S given m p)) lim (bred S (ray put S given m p)))

  pub weight_pos : (p : Progress) → Full p.stack → is_left p ≡ true → 1 ≤ weight p
  weight_pos p h l = omega (arith, taken_sum (heft limit) given p h l, heft_pos limit (taken_from given p.stack p.left).ray)

  weightless : (p : Progress) (t : Bool) → is_left p ≡ t → Full p.stack → weight p ≤ 0 → is_left p ≡ false
  weightless p true q h z = absurd (omega (arith, weight_pos p h q))
  weightless p false q h z = q

  then_stops : (k : ℕ) (z : M) (o : Outcome M) (p : Progress) → ((m : M) → (drive put S given k m p).outcome ≡ done z → is_left (drive put S given k m p).progress ≡ false)
      → (and_then (drive put S given k) o p).outcome ≡ done z → is_left (and_then (drive put S given k) o p).progress ≡ false
  then_stops k z (done m) p f e = f m e
  then_stops k z (refused n place m) p f e = not_done n place m z e

  -- with as many steps as the weight, a run stops because nothing is left, or is refused
  pub drive_stops : limit ≤ 16 → (k : ℕ) (m z : M) (p : Progress) → Full p.stack → weight p ≤ k → (drive put S given k m p).outcome ≡ done z → is_left (drive put S given k m p).progress ≡ false
  unfolding drive
  drive_stops lim zero m z p h w = λ e. weightless p (is_left p) refl h w
  drive_stops lim (suc k) m z p h w =
      pick (λ (r : Run M). (r.outcome ≡ done z → is_left r.progress ≡ false)) (is_left p)
      (λ q.
      then_stops k z (step_on put S given m p).outcome (next put S given m p)
      (λ u. drive_stops lim k u z (next put S given m p) (next_full put S given m p h) (omega (arith, next_less m p lim h q))))
      (λ q e. q)
