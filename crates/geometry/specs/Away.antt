-- Nobody has to believe this page: what it rules out is not met (`not_met`, proofs/Receding.antt).
-- Rays that surely run away from a sphere, by the numbers b and c of its equation.
use Rattle.std.specs.Prelude.{leb, ltb, Float, Bool, ◌&&◌}
use Rattle.std.specs.Float.{binary64}
use Rattle.std.specs.Float.Ieee.{lt, to_bits}
use Rattle.doubles.specs.Doubles.{#0}

-- from outside the sphere, with a b above 0 whose square neither overflows nor loses digits; false says nothing
unfoldable pub is_away_of : Float → Float → Bool
is_away_of b c = lt #0 c && leb 0x2000000000000000 (to_bits binary64 b) && ltb (to_bits binary64 b) 0x5000000000000000
