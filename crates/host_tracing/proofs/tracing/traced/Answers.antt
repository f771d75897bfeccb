use Rattle.host_tracing.proofs.Told.{traced_is, no_medium_is}
use Rattle.memory.specs.Memory.{as_memory}
use Rattle.host_tracing.proofs.tracing.traced.Goals as goal

pub returns-in_default-clause-value : goal.returns-in_default-clause-value
returns-in_default-clause-value c = no_medium_is _ _ _ _ _ _ _ _ _ (as_memory c.args.memory.now) c.numbered-numbered.ensures c.in_default.is c.no_medium.ensures

pub returns-clause-value : goal.returns-clause-value
returns-clause-value c = traced_is _ _ _ _ _ _ _ _ _ c.trace_config.result c.trace_rays-r.result _ (as_memory c.trace_rays-r.new.memory) _ c.numbered-numbered.ensures c.in-Some.is
    c.trace_config.ensures c.trace_rays-r.ensures.value c.told.ensures
