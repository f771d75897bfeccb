use Rattle.std.proofs.Common.{◌≡◌, ◌+◌, ◌-◌, ◌≤◌, length, drop}
use Rattle.fields.specs.Split.{text_lines}
use Rattle.test_vectors.specs.Count.{tally_lines_of, empty_of}
use Rattle.test_vectors.specs.Count.{empty_of, tally_lines_of}
use Rattle.test_vectors.specs.Lines.{line_agrees_of}
use Rattle.test_vectors.proofs.tally_lines.Given as goal

abbrev pub invariant-loop-at : goal.invariant-loop-at
invariant-loop-at l = (l.at ≤ length l.text + 1)
    × (tally_lines_of (line_agrees_of l.kind) l.t (text_lines (drop l.at l.text)) ≡ tally_lines_of (line_agrees_of l.kind) empty_of (text_lines l.text))

abbrev pub decreases-loop-at : goal.decreases-loop-at
decreases-loop-at l = length l.text - l.at
