use Rattle.trace.proofs.Calls.{refused_call, passed_call}
use Rattle.trace.proofs.trace_rays.Goals as goal

pub returns-in-Err-clause-value : goal.returns-in-Err-clause-value
returns-in-Err-clause-value c = refused_call _ _ _ c.check_batch-check.ensures _ c.in-Err.is _ c.refused_before.ensures

pub returns-clause-value : goal.returns-clause-value
returns-clause-value c = passed_call _ _ _ c.check_batch-check.ensures _ c.in_default.is c.new-faces.result c.new-faces.ensures c.start-progress.result c.start-progress.ensures
    c.advance-r.result _ c.advance-r.ensures.value c.answer.result c.answer.ensures
