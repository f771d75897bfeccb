use mathlib.Core.Path.{◌≡◌}
use Prim.Native.Nat.{◌+◌, ◌-◌, ◌≤◌}
use lib.ListN.{length}
use Rattle.fields.specs.Split.{parts_at}
use Rattle.scene_text.specs.Cells.{count_media_of}
use Rattle.scene_text.proofs.media.count_media.Given as goal

abbrev pub invariant-loop-at : goal.invariant-loop-at
invariant-loop-at l = (l.at ≤ length l.f + 1) × (count_media_of (parts_at 44 l.f l.at) l.n ≡ count_media_of (parts_at 44 l.f l.from) 0)

abbrev pub decreases-loop-at : goal.decreases-loop-at
decreases-loop-at l = length l.f + 1 - l.at
