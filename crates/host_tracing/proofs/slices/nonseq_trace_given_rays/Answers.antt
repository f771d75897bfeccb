use Rattle.host_tracing.proofs.Given.{given_is}
use Rattle.host_tracing.proofs.slices.nonseq_trace_given_rays.Goals as goal

pub returns : goal.returns
returns c = given_is _ _ _ _ _ _ _ _ _ _ c.flatten-flat.ensures c.trace_flat.ensures
