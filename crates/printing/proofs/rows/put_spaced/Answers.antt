use Rattle.std.proofs.Common.{refl, ap, ◌∙◌}
use Rattle.printing.specs.Printing.{put_all}
use Rattle.printing.proofs.Lines.{spaced_again, spaced_end}
use Rattle.printing.proofs.rows.put_spaced.Goals as goal

pub loop-i-preserved : goal.loop-i-preserved
loop-i-preserved g c =
    let text = g.T.Printed.text in
    let x = c.index-numbers-i.result in
    let here = c.put-p.ensures ∙ ap (λ y. put_all c.loop-i.buf c.loop-i.p (text y)) c.index-numbers-i.is in (
      c.put-p-in-loop-i.auto.buf ∙ c.put-p.auto.buf ∙ c.loop-i.invariant.0,
      spaced_again text x _ c.loop-i.i _ _ c.behind.result _ _ _ _ _ _ _ c.loop-i-test.true refl here c.behind.ensures c.put-p-in-loop-i.ensures c.loop-i.invariant.1,
    )

pub returns : goal.returns
returns g c = spaced_end g.T.Printed.text _ _ _ _ _ _ _ c.loop-i-test.false refl c.loop-i.invariant.1
