use Rattle.host_tracing.proofs.Laying.{put_again, put_end}
use Rattle.host_tracing.proofs.slices.flatten.Goals as goal

pub loop-ray-preserved : goal.loop-ray-preserved
loop-ray-preserved c = put_again _ _ _ _ _ c.loop-ray-test.true c.loop-ray.invariant c.put_ray-n.ensures

pub returns : goal.returns
returns c = put_end _ _ _ _ c.loop-ray-test.false c.loop-ray.invariant
