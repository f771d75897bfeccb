-- An amount of the report that a step changes by its ray alone is after a run what the rays taken make of it. Assumes nothing.
use Prim.Native.Nat.{ℕ, zero, suc}
use mathlib.Core.Path.{◌≡◌, refl, sym, ◌∙◌}
use mathlib.Core.Bool.{Bool, true, false, cond}
use mathlib.Core.List.{List, [], ◌∷◌}
use Rattle.detector.specs.declared.DetectorHit.{DetectorHit}
use Rattle.memory.specs.Memory.{Outcome, done, refused}
use Rattle.step.specs.declared.ActiveRay.{ActiveRay}
use Rattle.step.specs.Rays.{Scene, End, dim, spent, gone, caught, met, refusing}
use Rattle.step.specs.Steps.{take_step_of}
use Rattle.report.specs.declared.NonSeqTraceReport.{NonSeqTraceReport}
use Rattle.report.specs.Report.{report_after_of, counted_of}
use Rattle.run.specs.declared.Progress.{Progress}
use Rattle.run.specs.Run.{hit_in_of, refusal_in_of, put_from, is_left, and_then, settle_with, step_on, drive}
use Rattle.theorems_runs.specs.Room.{next_ray}
use Rattle.theorems_runs.specs.Dropped.{unless_refused, rays_taken}
use Rattle.theorems_runs.proofs.Stacks.{next}

-- an amount of the report that a step changes by its ray alone
module _ {M : Type 0} (put : M → DetectorHit → Outcome M) (S : Scene) (given : ℕ → ActiveRay) {X : Type 0} (amount : NonSeqTraceReport → X) where
  put_same : (place : ℕ) (r after : NonSeqTraceReport) (o : Outcome M) → amount (counted_of r) ≡ amount after → amount (put_from place r after o).report ≡ amount after
  put_same place r after (done m) e = refl
  put_same place r after (refused n at m) e = e

  -- a hit that is refused leaves the amount as if it had been caught
  settle_same : (m : M) (place : ℕ) (r after : NonSeqTraceReport) (e : End) → ((h : DetectorHit) → e ≡ caught h → amount (counted_of r) ≡ amount after)
      → amount (settle_with put m place r after (refusal_in_of e place) (hit_in_of e)).report ≡ amount after
  unfolding hit_in_of refusal_in_of
  settle_same m place r after dim f = refl
  settle_same m place r after spent f = refl
  settle_same m place r after gone f = refl
  settle_same m place r after (caught d) f = put_same place r after (put m d) (f d refl)
  settle_same m place r after (met x) f = refl
  settle_same m place r after (refusing n) f = refl

  abbrev pub after : Progress → NonSeqTraceReport
  after p = report_after_of p.report (next_ray given p).ray.energy (take_step_of S (next_ray given p))

  pub next_amount : (m : M) (p : Progress) → ((h : DetectorHit) → (take_step_of S (next_ray given p)).end ≡ caught h → amount (counted_of p.report) ≡ amount (after p)) → amount (next put S given m p).report ≡ amount (after p)
  unfolding step_on
  next_amount m p f = settle_same m _ p.report _ (take_step_of S (next_ray given p)).end f

  -- what all rays make of it, if `all` says what each does
  module _ (all : X → List ActiveRay → X) (P : Progress → Type 0)
      (none : (x : X) → all x [] ≡ x)
      (keeps : (m : M) (p : Progress) → is_left p ≡ true → P p → P (next put S given m p))
      (steps : (m : M) (p : Progress) (rest : List ActiveRay) → is_left p ≡ true → P p → all (amount (next put S given m p).report) rest ≡ all (amount p.report) (next_ray given p ∷ rest)) where
    then-amount : (k : ℕ) (o : Outcome M) (p : Progress) → ((m : M) → amount (drive put S given k m p).progress.report ≡ all (amount p.report) (rays_taken put S given k m p))
        → amount (and_then (drive put S given k) o p).progress.report ≡ all (amount p.report) (unless_refused (rays_taken put S given k) o p)
    then-amount k (done m) p f = f m
    then-amount k (refused n place m) p f = sym (none _)

    pub drive-amount : (k : ℕ) (m : M) (p : Progress) → P p → amount (drive put S given k m p).progress.report ≡ all (amount p.report) (rays_taken put S given k m p)
    unfolding drive rays_taken
    drive-amount zero m p h = sym (none _)
    drive-amount (suc k) m p h = go (is_left p) refl (λ u g. drive-amount k u (next put S given m p) g)
      where
        p' : Progress
        p' = next put S given m p

        go : (b : Bool) → is_left p ≡ b → ((u : M) → P p' → amount (drive put S given k u p').progress.report ≡ all (amount p'.report) (rays_taken put S given k u p'))
            → amount (cond b (and_then (drive put S given k) (step_on put S given m p).outcome p') (record { outcome = done m; progress = p })).progress.report
            ≡ all (amount p.report) (cond b (next_ray given p ∷ unless_refused (rays_taken put S given k) (step_on put S given m p).outcome p') [])
        go true e f = then-amount k (step_on put S given m p).outcome p' (λ u. f u (keeps m p e h)) ∙ steps m p _ e h
        go false e f = sym (none _)
