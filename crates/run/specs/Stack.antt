-- The work stack, the newest ray last.
use Rattle.std.specs.Prelude.{ℕ, ◌+◌, ◌-◌, cond, ◌&&◌, [], leb, ltb, get_or, set, replicate, Option, None, Some}
use Rattle.std.specs.Float.{nan}
use Rattle.rays.specs.Vectors.{vec3}
use Rattle.step.specs.declared.ActiveRay.{ActiveRay}
use Rattle.step.specs.Rays.{Step}
use Rattle.given_rays.specs.Given.{no_ray_of}
use Rattle.run.specs.declared.stack.Stack.{Stack}
use Rattle.run.specs.declared.stack.Taken.{Taken}

abbrev pub max_stack : ℕ
max_stack = 17

-- a place below it has room for two rays
abbrev pub pair_room : ℕ
pair_room = 16

-- what stands past the end of a list of rays
abbrev pub no_ray : ActiveRay
no_ray =
    record {
      ray = record { origin = vec3 nan nan nan; direction = vec3 nan nan nan; wavelength_nm = nan; energy = nan };
      bounce_count = 0;
      reflection_count = 0;
      tir_count = 0;
      media = record { list = []; depth = 0 };
    }

unfoldable pub empty_stack_of : Stack
empty_stack_of = record { rays = replicate max_stack no_ray_of; len = 0 }

-- the last given ray that is left
unfoldable pub load_of : (ℕ → ActiveRay) → ℕ → Taken
load_of given left = record { ray = given (left - 1); left = left - 1 }

-- the newest ray and the given rays left: the top of the stack, or else a given ray
unfoldable pub taken_from : (ℕ → ActiveRay) → Stack → ℕ → Taken
taken_from given s left =
    cond (ltb 0 s.len && leb s.len max_stack) (record { ray = get_or s.rays (s.len - 1) no_ray; left = left })
    (load_of given left)

unfoldable pub pushed : Stack → ActiveRay → Stack
pushed s a = record { rays = set s.rays s.len a; len = s.len + 1 }

unfoldable pub pushed_if : Stack → Option ActiveRay → Stack
pushed_if s (Some a) = pushed s a
pushed_if s None = s

unfoldable pub popped : Stack → Stack
popped s = record { rays = s.rays; len = s.len - 1 }

-- the newest ray is gone, the reflected one is pushed, then the transmitted one; a stack without room for both takes
-- neither, which no tracing meets
unfoldable pub stack_after : Stack → Step → Stack
stack_after s e =
    cond (ltb (popped s).len pair_room)
    (pushed_if (pushed_if (popped s) e.reflected) e.transmitted) (popped s)

-- ---- what the code's functions are held to

abbrev pub popped_of : Stack → Stack
popped_of = popped

abbrev pub stack_after_of : Stack → Step → Stack
stack_after_of = stack_after

unfoldable pub top_at_of : ℕ → ℕ
top_at_of len = cond (ltb 0 len && leb len max_stack) (len - 1) 0

unfoldable pub take_of : (ℕ → ActiveRay) → ActiveRay → ℕ → ℕ → Taken
take_of given top len left = cond (ltb 0 len && leb len max_stack) (record { ray = top; left = left }) (load_of given left)
