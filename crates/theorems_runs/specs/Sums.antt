-- Sums over the rays that are still to be traced, and what holds of every stack of a run.
use Rattle.std.specs.Prelude.{ℕ, zero, suc, ◌+◌, ◌-◌, ◌^◌, ◌≤◌, ◌<◌, List, ◌≡◌, Bool, true, false, length, get_or, Option, None, Some}
use Rattle.step.specs.declared.ActiveRay.{ActiveRay}
use Rattle.step.specs.Rays.{Step, End, dim, spent, gone, caught, met, refusing}
use Rattle.report.specs.declared.tallies.Tallies.{Tallies}
use Rattle.run.specs.declared.stack.Stack.{Stack}
use Rattle.run.specs.declared.Progress.{Progress}
use Rattle.run.specs.Stack.{no_ray, max_stack}

-- f summed over the first n places of a list
unfoldable pub sum_first : (ActiveRay → ℕ) → List ActiveRay → ℕ → ℕ
sum_first f xs zero = 0
sum_first f xs (suc n) = f (get_or xs n no_ray) + sum_first f xs n

-- f summed over the first n given rays
unfoldable pub sum_given : (ActiveRay → ℕ) → (ℕ → ActiveRay) → ℕ → ℕ
sum_given f given zero = 0
sum_given f given (suc n) = f (given n) + sum_given f given n

unfoldable pub sum_stack : (ActiveRay → ℕ) → Stack → ℕ
sum_stack f s = sum_first f s.rays s.len

-- over the stack and the given rays that are left
unfoldable pub sum_left : (ActiveRay → ℕ) → (ℕ → ActiveRay) → Progress → ℕ
sum_left f given p = sum_stack f p.stack + sum_given f given p.left

-- f of a ray, if there is one
abbrev pub sum_some : (ActiveRay → ℕ) → Option ActiveRay → ℕ
sum_some f (Some a) = f a
sum_some f None = 0

-- over the rays that a step makes
unfoldable pub sum_made : (ActiveRay → ℕ) → Step → ℕ
sum_made f s = sum_some f s.reflected + sum_some f s.transmitted

-- the most steps that a ray can lead to, itself counted, with at most b bounces
unfoldable pub heft : ℕ → ActiveRay → ℕ
heft b a = 2 ^ (b - a.bounce_count + 1) - 1

-- the most interactions that a ray can lead to which may bounce k times
unfoldable pub most_interactions : ℕ → ℕ
most_interactions k = 2 ^ k - 1

unfoldable pub share : ℕ → ActiveRay → ℕ
share b a = most_interactions (b - a.bounce_count)

pub record Full (s : Stack) : Type 0 where
  pub room : length s.rays ≡ max_stack
  pub small : s.len ≤ max_stack

-- Q holds of every place and its ray
abbrev pub Each : (ℕ → ActiveRay → Type 0) → Stack → Type 0
Each Q s = (i : ℕ) → i < s.len → Q i (get_or s.rays i no_ray)

-- a ray's place on the stack is no higher than its bounces
abbrev pub Low : ℕ → ActiveRay → Type 0
Low i a = i ≤ a.bounce_count

pub record Tidy (s : Stack) : Type 0 where
  pub full : Full s
  pub low : Each Low s

-- whether a step ends at a surface
unfoldable pub is_surface : End → Bool
is_surface dim = false
is_surface spent = false
is_surface gone = false
is_surface (caught h) = false
is_surface (met m) = true
is_surface (refusing n) = false

-- whether a step is refused by itself
unfoldable pub refuses : End → Bool
refuses dim = false
refuses spent = false
refuses gone = false
refuses (caught h) = false
refuses (met m) = false
refuses (refusing n) = true

-- the rays whose life is over, and those that interacted
unfoldable pub over_in : Tallies → ℕ
over_in t = t.dim + t.spent + t.caught + t.gone + t.surface

unfoldable pub met_in : Tallies → ℕ
met_in t = t.caught + t.gone + t.surface
