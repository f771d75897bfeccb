use mathlib.Core.Path.{◌≡◌}
use Prim.Native.Nat.{◌+◌, ◌≤◌}
use lib.ListN.{length}
use Rattle.scene_text.specs.Steps.{table, comes_to}
use Rattle.scene_text.proofs.Standing.{left}
use Rattle.scene_text.proofs.blocks.read_lines.Given as goal

abbrev pub invariant-loop-f : goal.invariant-loop-f
invariant-loop-f l = (l.f.at ≤ length l.s)
    × (l.f.line ≤ l.f.at + 1)
    × (l.f.rows ≤ l.f.at)
    × (length l.d ≡ length l.initial.d)
    × (length l.w ≡ length l.initial.w)
    × (comes_to l.s l.names l.form l.f.more l.f.ok l.f.at l.f.line l.f.rows (table l.f.ok l.d l.f.nd l.w l.f.nw)
    ≡ comes_to l.s l.names l.form l.initial.f.more l.initial.f.ok l.initial.f.at l.initial.f.line l.initial.f.rows (table l.initial.f.ok l.initial.d l.initial.f.nd l.initial.w l.initial.f.nw))

abbrev pub decreases-loop-f : goal.decreases-loop-f
decreases-loop-f l = left l.f.more (length l.s) l.f.at
