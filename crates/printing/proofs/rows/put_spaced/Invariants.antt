use mathlib.Core.Path.{◌≡◌}
use lib.ListN.{length, drop}
use Rattle.printing.specs.Printing.{put_all}
use Rattle.printing.specs.Rows.{spaced}
use Rattle.printing.proofs.rows.put_spaced.Given as goal

abbrev pub invariant-loop-i : goal.invariant-loop-i
invariant-loop-i g l = (length l.buf ≡ length l.initial.buf)
    × (put_all l.buf l.p (spaced g.T.Printed.text (drop l.i l.numbers) l.last) ≡ put_all l.initial.buf l.at (spaced g.T.Printed.text l.numbers l.last))
