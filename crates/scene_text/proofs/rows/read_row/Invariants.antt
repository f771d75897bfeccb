use mathlib.Core.Path.{◌≡◌}
use mathlib.Core.Bool.{true}
use Prim.Native.Nat.{◌≤◌}
use lib.ListN.{length}
use Rattle.scene_text.specs.Lines.{read_row_of}
use Rattle.scene_text.specs.Steps.{table, put, line_from}
use Rattle.scene_text.proofs.rows.read_row.Given as goal

abbrev pub invariant-loop-cells : goal.invariant-loop-cells
invariant-loop-cells l = (l.r.at ≤ length l.line)
    × (length l.d ≡ length l.initial.d)
    × (length l.w ≡ length l.initial.w)
    × (line_from l.line l.r.at l.cells (table l.r.ok l.d l.r.nd l.w l.r.nw) ≡ put (read_row_of l.form l.line) (table true l.initial.d l.nd l.initial.w l.nw))

abbrev pub decreases-loop-cells : goal.decreases-loop-cells
decreases-loop-cells l = length l.cells
