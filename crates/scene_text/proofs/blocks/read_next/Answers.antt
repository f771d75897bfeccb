use Rattle.fields.proofs.Parts.{end_in}
use Rattle.scene_text.proofs.Standing.{stands-last}
use Rattle.scene_text.proofs.blocks.read_next.Goals as goal

pub read_line-requires : goal.read_line-requires
read_line-requires c = (c.end_at-e.ensures, c.if-e-s.true, c.requires.0, (end_in _ _ _ _ c.end_at-e.ensures c.requires.1).0, c.requires.2, c.requires.3, c.requires.4)

pub returns-clause-nw_after : goal.returns-clause-nw_after
returns-clause-nw_after c = stands-last _ _ _ _ c.end_at-e.ensures c.requires.1 _ _ _ _ _ _ _ _ _ c.requires.4 _ c.if-e-s.false c.ends_well.ensures
