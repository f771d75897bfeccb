use Rattle.std.proofs.Common.{◌∙◌}
use Rattle.fields.proofs.Parts.{one_byte}
use Rattle.fields.proofs.split.is_byte.Goals as goal

pub returns : goal.returns
returns c = rw c.as_slice.ensures at c.eq.ensures ∙ one_byte _ _
