use Rattle.memory.proofs.Lengths.{hit_inside}
use Rattle.memory.proofs.recording.Memory.put.Goals as goal

pub put_hit_tags-requires : goal.put_hit_tags-requires
put_hit_tags-requires c = (hit_inside _ _ _ c.requires.3 c.if-self.false).1
