use Rattle.host_detectors.specs.Maps.{refilter_by, host_refilter_of}
use Rattle.host_detectors.proofs.maps.nonseq_refilter.Goals as goal

pub returns-in_default : goal.returns-in_default
unfolding host_refilter_of refilter_by
returns-in_default c = rw (← c.in_default.ensures) (c.told.ensures _)
