-- The small functions on doubles, over the values of IEEE 754 as the kit's `lib.Ieee` has them: one `nan`, two
-- infinities, and `fin s m e` for ±m * 2 ^ e.
-- From bits, to bits and `as usize` are `lib.Ieee`'s own `of_bits`, `to_bits` and `to_unsigned`.
use Rattle.std.specs.Prelude.{Bool, true, false, cond, from_bits, Float}
use Rattle.std.specs.Float.{nan, inf, fin, binary64}
use Rattle.std.specs.Float.Ieee.{lt, le}

-- doubles that are written often

abbrev pub #0 : Float
#0 = from_bits binary64 0

abbrev pub #½ : Float
#½ = from_bits binary64 0x3fe0000000000000

abbrev pub #1 : Float
#1 = from_bits binary64 0x3ff0000000000000

abbrev pub #2 : Float
#2 = from_bits binary64 0x4000000000000000

abbrev pub #3 : Float
#3 = from_bits binary64 0x4008000000000000

abbrev pub #4 : Float
#4 = from_bits binary64 0x4010000000000000

abbrev pub #5 : Float
#5 = from_bits binary64 0x4014000000000000

abbrev pub #10 : Float
#10 = from_bits binary64 0x4024000000000000

-- IEEE 754 `abs`: the sign cleared
unfoldable pub abs_of : Float → Float
abs_of nan = nan
abs_of (inf s) = inf false
abs_of (fin s m e) = fin false m e

-- a size compared with h: above it, below it, at most it
abbrev pub exceeds_of : Float → Float → Bool
exceeds_of x h = lt h (abs_of x)

abbrev pub is_under_of : Float → Float → Bool
is_under_of x h = lt (abs_of x) h

abbrev pub is_within_of : Float → Float → Bool
is_within_of x h = le (abs_of x) h

-- Rust's `f64::clamp`: lo where x is below it, else hi where x is above it, else x. So NaN stays, and so does a -0
-- between 0 and 1.
unfoldable pub clamp_of : Float → Float → Float → Float
clamp_of x lo hi = cond (lt x lo) lo (cond (lt hi x) hi x)

-- Rust's `x.max(0.0)`: +0 where x is NaN, and where it is -0
unfoldable pub max_zero_of : Float → Float
max_zero_of x = cond (lt (from_bits binary64 0) x) x (from_bits binary64 0)

-- IEEE 754 `isFinite`: neither NaN nor infinite
unfoldable pub is_finite_of : Float → Bool
is_finite_of nan = false
is_finite_of (inf s) = false
is_finite_of (fin s m e) = true
