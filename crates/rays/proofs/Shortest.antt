-- 1e-15, the longest length without a direction, as a fraction. Assumes nothing.
use Prim.Native.Nat.{ℕ}
use mathlib.Core.Path.{◌≡◌, refl}
use mathlib.Core.Bool.{false}
use lib.IntN.{negsuc}
use lib.Ieee.{fin, of_bits}
use Rattle.rays.specs.Vectors.{min_length}

abbrev pub short : ℕ
short = 0x901d7cf73ab0b

pub short_is : min_length ≡ fin false short (negsuc 100)
unfolding of_bits
short_is = refl
