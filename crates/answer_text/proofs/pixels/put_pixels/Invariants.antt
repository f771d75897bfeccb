use Prim.Native.Nat.{◌≤◌}
use mathlib.Core.Path.{◌≡◌}
use lib.ListN.{length, drop}
use Rattle.printing.specs.Printing.{put_all}
use Rattle.answer_text.specs.Answer.{pixels_text}
use Rattle.answer_text.proofs.pixels.put_pixels.Given as goal

abbrev pub invariant-loop-i : goal.invariant-loop-i
invariant-loop-i l = (l.i ≤ length l.map) × (length l.buf ≡ length l.initial.buf)
    × (put_all l.buf l.p (pixels_text l.detector l.width l.i (drop l.i l.map)) ≡ put_all l.initial.buf l.at (pixels_text l.detector l.width 0 l.map))
