use Rattle.std.proofs.Common.{drop, ◌≡◌}
use Rattle.host_tracing.specs.Flat.{laid, flatten_of}
use Rattle.host_tracing.proofs.slices.flatten.Given as goal

-- what is left, laid out from here, makes the whole
abbrev pub invariant-loop-ray : goal.invariant-loop-ray
invariant-loop-ray l =
    flatten_of (drop l.ray-index l.rays) (laid l.n l.ray_values l.ray_tags) ≡ flatten_of l.rays (laid 0 l.initial.ray_values l.initial.ray_tags)
