-- What holds of every ray of a run, and what a step needs so that no guard of the definitions acts.
use Rattle.std.specs.Prelude.{ℕ, ◌+◌, ◌≤◌, ◌<◌, ◌≡◌, true, length, IfSome}
use Rattle.doubles.specs.Doubles.{is_finite_of}
use Rattle.step.specs.declared.ActiveRay.{ActiveRay}
use Rattle.step.specs.Rays.{Scene, Step}
use Rattle.step.specs.Steps.{take_step_of}
use Rattle.report.specs.declared.tallies.Tallies.{Tallies}
use Rattle.report.specs.declared.NonSeqTraceReport.{NonSeqTraceReport}
use Rattle.run.specs.declared.stack.Stack.{Stack}
use Rattle.run.specs.declared.Progress.{Progress}
use Rattle.run.specs.Stack.{taken_from, pushed_if, popped, stack_after}
use Rattle.theorems_runs.specs.Sums.{Full, Each}
use Rattle.media.specs.Media.{max_media}
use Rattle.given_rays.specs.Given.{max_given_media}
use Rattle.trace.specs.Trace.{max_bounces}

-- P holds of the first n given rays
abbrev pub EachGiven : (ActiveRay → Type 0) → (ℕ → ActiveRay) → ℕ → Type 0
EachGiven P given n = (i : ℕ) → i < n → P (given i)

-- of the rays that a step makes
abbrev pub EachMade : (ActiveRay → Type 0) → Step → Type 0
EachMade P e = IfSome e.reflected P × IfSome e.transmitted P

-- of a ray of which P holds, a step in S makes only such rays
abbrev pub Keeps : (ActiveRay → Type 0) → Scene → Type 0
Keeps P S = (a : ActiveRay) → P a → EachMade P (take_step_of S a)

-- P holds of every ray that is still to be taken
pub record Held (P : ActiveRay → Type 0) (given : ℕ → ActiveRay) (p : Progress) : Type 0 where
  pub full : Full p.stack
  pub stack : Each (λ i a. P a) p.stack
  pub left : EachGiven P given p.left

-- what the checks say of every given ray, and a step keeps: its wavelength is neither infinite nor NaN
pub record Admitted (a : ActiveRay) : Type 0 where
  pub wave : is_finite_of a.ray.wavelength_nm ≡ true

pub record Housed (a : ActiveRay) : Type 0 where
  pub deep : a.media.depth ≤ a.bounce_count + max_given_media
  pub long : length a.media.list ≡ max_media
  pub reflections : a.reflection_count ≤ a.bounce_count
  pub tirs : a.tir_count ≤ a.bounce_count

-- the ray that the next step takes
abbrev pub next_ray : (ℕ → ActiveRay) → Progress → ActiveRay
next_ray given p = (taken_from given p.stack p.left).ray

-- the stack after a step, without a guard
abbrev pub plain_after : Stack → Step → Stack
plain_after s e = pushed_if (pushed_if (popped s) e.reflected) e.transmitted

-- a ray that goes on has room for one medium more and for one more of every count
pub record Going (a : ActiveRay) : Type 0 where
  pub deep : a.media.depth < max_media
  pub bounces : a.bounce_count < max_bounces
  pub reflections : a.reflection_count < max_bounces
  pub tirs : a.tir_count < max_bounces

pub record Roomy (S : Scene) (given : ℕ → ActiveRay) (p : Progress) : Type 0 where
  pub full : Full p.stack
  pub after_full : Full (stack_after p.stack (take_step_of S (next_ray given p)))
  pub after-plain :
      stack_after p.stack (take_step_of S (next_ray given p)) ≡ plain_after p.stack (take_step_of S (next_ray given p))
  pub long : length (next_ray given p).media.list ≡ max_media
  pub going : (next_ray given p).bounce_count < S.optics.config.max_bounces → Going (next_ray given p)

-- every count of a report with w more is at most n
pub record SmallTallies (n w : ℕ) (t : Tallies) : Type 0 where
  pub made : t.made + w ≤ n
  pub dim : t.dim + w ≤ n
  pub spent : t.spent + w ≤ n
  pub caught : t.caught + w ≤ n
  pub gone : t.gone + w ≤ n
  pub surface : t.surface + w ≤ n
  pub weak : t.weak + w ≤ n

pub record SmallCounts (n w : ℕ) (r : NonSeqTraceReport) : Type 0 where
  pub tallies : SmallTallies n w r.tallies
  pub interactions : r.total_interactions + w ≤ n
