use Prim.Native.Nat.{◌-◌}
use mathlib.Core.Path.{◌≡◌}
use lib.ListN.{length}
use Rattle.printing.specs.Printing.{put_all}
use Rattle.answer_text.specs.Answer.{as_held, each_from, detector_count_of}
use Rattle.answer_text.proofs.detectors_text.put_each.Given as goal

abbrev pub invariant-loop-d : goal.invariant-loop-d
invariant-loop-d g l = (length l.buf ≡ length l.initial.buf)
    × (put_all l.buf l.p (each_from (g.L.Listed.text (as_held l.held) l.filter) (l.n - l.d) l.d)
    ≡ put_all l.initial.buf l.at (each_from (g.L.Listed.text (as_held l.held) l.filter) (detector_count_of l.held.detectors.count) 0))
