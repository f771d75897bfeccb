use Prim.Native.Nat.{◌≤◌, ◌-◌}
use mathlib.Core.Path.{◌≡◌}
use Rattle.nearest.specs.Nearest.{nearest_from, nearest_among}
use Rattle.scene.specs.declared.closest.Candidate.{Candidate}
use Rattle.scene.specs.Closest.{candidate_distance, candidates_in}
use Rattle.scene.specs.Solids.{object_at_of}
use Rattle.scene.proofs.solids.Solids.nearest_candidate.Given as goal

abbrev pub invariant-loop-i : goal.invariant-loop-i
invariant-loop-i l = (l.i ≤ l.self.count)
    × (nearest_from Candidate candidate_distance (candidates_in l.strict (object_at_of l.self.values.now l.self.tags.now) l.ray) (l.self.count - l.i) l.i l.best
    ≡ nearest_among Candidate candidate_distance (candidates_in l.strict (object_at_of l.self.values.now l.self.tags.now) l.ray) l.self.count)
