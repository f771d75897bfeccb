use Rattle.std.proofs.Common.{refl}
use Rattle.std.specs.Float.Ieee.{of_bits}
use Rattle.memory.specs.Memory.{hit_from}
use Rattle.memory.proofs.hits.no_hit.Goals as goal

pub returns : goal.returns
unfolding hit_from of_bits
returns c = refl
