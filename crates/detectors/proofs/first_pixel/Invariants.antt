use Rattle.std.proofs.Common.{◌≡◌}
use Rattle.detectors.specs.Detectors.{first_pixel_of}
use Rattle.detectors.proofs.first_pixel.Given as goal

abbrev pub invariant-loop-d : goal.invariant-loop-d
invariant-loop-d l = l.sum ≡ first_pixel_of l.list l.d-index
