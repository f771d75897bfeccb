-- A batch traced in parts by `nonseq_trace_rays`.
use Rattle.std.specs.Prelude.{ℕ, cond, List, [], ◌∷◌, eqb, Float}
use Rattle.memory.specs.Memory.{Memory, Outcome, done, refused}
use Rattle.host_tracing.specs.declared.answers.HostConfig.{HostConfig}
use Rattle.host_tracing.specs.Tracing.{Left, host_trace_rays_of}
use Rattle.theorems_calls.specs.Parts.{Part, shifted, then_on}
use Rattle.theorems_hosts.specs.HostCalls.{tracing_left}

-- what the numbers of an answer say: it is done where the refusal is 0
unfoldable pub outcome_from : Left → Outcome Memory
outcome_from l =
    cond (eqb l.answer.refusal 0) (done (tracing_left l))
    (refused l.answer.refusal l.answer.place (tracing_left l))

-- the same settings and solids with the rays of one part after the other, the last first, until one is refused
unfoldable pub host_trace_parts : HostConfig → List Float → List ℕ → ℕ → List Part → Memory → Outcome Memory
host_trace_parts g x k n [] s = done s
host_trace_parts g x k n (p ∷ ps) s =
    then_on (shifted p.rays (host_trace_parts g x k n ps s))
    (λ m. outcome_from (host_trace_rays_of g x k n p.ray_values p.ray_tags p.rays m))
