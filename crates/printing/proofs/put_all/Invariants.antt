use mathlib.Core.Path.{◌≡◌}
use lib.ListN.{length, drop}
use Rattle.printing.specs.Printing.{put_all}
use Rattle.printing.proofs.put_all.Given as goal

abbrev pub invariant-loop-b : goal.invariant-loop-b
invariant-loop-b l = (length l.buf ≡ length l.initial.buf) × (put_all l.buf l.p (drop l.b-index l.t) ≡ put_all l.initial.buf l.at l.t)
