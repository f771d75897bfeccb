use Rattle.std.proofs.Common.{◌≡◌, sym, refl, subst}
use lib.Ieee.{Float, nan, binary64, to_bits}
use Rattle.doubles.proofs.Floats.{same_no_nan, differs_is_nan}
use Rattle.doubles.proofs.to_bits.Goals as goal

of_nan : (x : Float) → x ≡ nan → 0x7ff8_0000_0000_0000 ≡ to_bits binary64 x
unfolding to_bits
of_nan x e = subst (λ (v : Float). 0x7ff8_0000_0000_0000 ≡ to_bits binary64 v) (sym e) refl

pub returns-then-x : goal.returns-then-x
returns-then-x c = of_nan _ (differs_is_nan _ c.if-x.true)

pub float_to_bits-result : goal.float_to_bits-result
float_to_bits-result c = same_no_nan _ c.if-x.false
