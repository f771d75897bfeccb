use Rattle.std.proofs.Common.{sym, ◌∙◌}
use Rattle.detectors.proofs.Lists.{there_first, there_below}
use Rattle.memory.proofs.Records.{told_lengths, record_put, record_outside, record_nowhere}
use Rattle.memory.proofs.recording.Memory.record.Goals as goal

pub returns-in_default-clause-value : goal.returns-in_default-clause-value
returns-in_default-clause-value c = record_nowhere _ _ c.in_default.ensures

pub cell-p-requires : goal.cell-p-requires
cell-p-requires c = there_first _ _ _ (sym c.in-Some.ensures)

pub returns-then-not-in_maps-clause-value : goal.returns-then-not-in_maps-clause-value
returns-then-not-in_maps-clause-value c = record_outside _ _ _ _ c.in-Some.ensures c.cell-p.ensures c.if-not-in_maps.ensures

pub put-requires : goal.put-requires
put-requires c =
    let t = told_lengths _ _ _ _ _ c.if-not-in_maps.ensures in
    (there_below _ _ _ (sym c.in-Some.ensures), t.0, t.1, t.2)

pub returns-clause-value : goal.returns-clause-value
returns-clause-value c = c.put.ensures.value ∙ record_put _ _ _ _ c.in-Some.ensures c.cell-p.ensures c.if-not-in_maps.ensures
