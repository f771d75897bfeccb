use Rattle.std.proofs.Common.{refl, ◌∙◌, arith, length}
use Rattle.filter.proofs.Sift.{sift_start, sift_again, sift_end, turn_count, same_room}
use Rattle.filter.proofs.sifting.refill.Goals as goal

pub loop-i-init : goal.loop-i-init
loop-i-init c = (refl, omega arith, sift_start _ _ _ (length c.args.work.now) _ _ _ c.clear.ensures)

pub loop-i-preserved : goal.loop-i-preserved
loop-i-preserved c = (
  c.sift_hit-t.auto.work ∙ c.loop-i.invariant.0,
  omega (arith, turn_count _ _ _ _ _ c.sift_hit-t.ensures, c.loop-i.invariant.1),
  sift_again _ _ _ _ _ _ _ _ _ _ c.loop-i-test.true c.hit_at-h.ensures c.sift_hit-t.ensures c.loop-i.invariant.2,
)

pub returns : goal.returns
returns c = same_room _ _ _ _ (length c.args.work.now) _ c.clear.ensures (sift_end _ _ _ _ _ _ _ _ c.loop-i-test.false c.loop-i.invariant.2)
