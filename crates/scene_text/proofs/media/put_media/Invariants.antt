use mathlib.Core.Path.{◌≡◌}
use Prim.Native.Nat.{◌+◌, ◌-◌, ◌≤◌}
use lib.ListN.{length}
use Rattle.fields.specs.Split.{parts_at}
use Rattle.scene_text.specs.Tables.{put_all}
use Rattle.scene_text.specs.Cells.{media_row}
use Rattle.scene_text.proofs.media.put_media.Given as goal

abbrev pub invariant-loop : goal.invariant-loop
invariant-loop l = (l.at ≤ length l.f + 1) × (length l.w ≡ length l.initial.w) × (put_all l.w l.p (media_row (8 - l.counter) (parts_at 44 l.f l.at)) ≡ put_all l.initial.w l.nw (media_row 8 (parts_at 44 l.f l.from)))
