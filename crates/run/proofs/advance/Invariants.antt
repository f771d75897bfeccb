use mathlib.Core.Path.{◌≡◌}
use Rattle.memory.specs.Memory.{SameSlices, as_memory, as_outcome, record_of}
use Rattle.step.specs.Rays.{lent_scene}
use Rattle.given_rays.specs.Given.{rays_given}
use Rattle.run.specs.Run.{and_then, drive}
use Rattle.run.proofs.advance.Given as goal

abbrev pub invariant-loop-check : goal.invariant-loop-check
invariant-loop-check l =
    SameSlices l.initial.memory l.memory
    × (and_then (drive record_of (lent_scene l.solids l.faces l.config) (rays_given l.given) l.k)
    (as_outcome l.check (as_memory l.memory)) (record { stack = l.stack; left = l.left; report = l.report })
    ≡ drive record_of (lent_scene l.solids l.faces l.config) (rays_given l.given) l.steps
    (as_memory l.initial.memory) (record { stack = l.initial.stack; left = l.initial.left; report = l.initial.report }))

abbrev pub decreases-loop-check : goal.decreases-loop-check
decreases-loop-check l = l.k
