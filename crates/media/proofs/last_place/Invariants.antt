use mathlib.Core.Path.{◌≡◌}
use Rattle.media.specs.Media.{last_place_of}
use Rattle.media.proofs.last_place.Given as goal

abbrev pub invariant-loop-i : goal.invariant-loop-i
invariant-loop-i l = last_place_of l.list l.i l.solid ≡ last_place_of l.list l.depth l.solid
