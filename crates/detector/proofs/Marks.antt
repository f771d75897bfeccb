-- Document 01's marked fact M8, by computing the definitions.
use mathlib.Core.Path.{◌≡◌, refl}
use mathlib.Core.List.{List, [], ◌∷◌}
use Prim.Native.Nat.{ℕ}
use lib.Ieee.{nan, of_bits, binary64, of_int, to_unsigned, add, mul, div, lt}
use Rattle.doubles.specs.Doubles.{clamp_of}
use Rattle.detector.specs.Pixels.{index_along_of}

-- M8: width 4, resx 2: x = 2 is column 1, x = -2 column 0, NaN column 0
pub m8 : ◌≡◌ {A = List ℕ}
    (index_along_of (of_bits binary64 0x4000000000000000) (of_bits binary64 0x4010000000000000) 2
    ∷ index_along_of (of_bits binary64 0xc000000000000000) (of_bits binary64 0x4010000000000000) 2
    ∷ index_along_of nan (of_bits binary64 0x4010000000000000) 2
    ∷ [])
    (1 ∷ 0 ∷ 0 ∷ [])
unfolding index_along_of clamp_of of_bits of_int to_unsigned add mul div lt
m8 = refl
