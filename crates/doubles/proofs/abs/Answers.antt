use Rattle.std.proofs.Common.{◌≡◌, T, sym, refl, subst}
use lib.Ieee.{Float, nan, binary64, fits}
use Rattle.doubles.specs.Doubles.{abs_of}
use Rattle.doubles.proofs.Floats.{same_no_nan, differs_is_nan}
use Rattle.doubles.proofs.Small.{abs_is, abs_no_nan}
use Rattle.doubles.proofs.abs.Goals as goal

pub returns-then-x : goal.returns-then-x
returns-then-x c = own c.args.x (differs_is_nan c.args.x c.if-x.true)
  where
    own : (x : Float) → x ≡ nan → x ≡ abs_of x
    own x e = subst (λ (v : Float). v ≡ abs_of v) (sym e) (unfold abs_of in refl)

pub float_to_bits-result : goal.float_to_bits-result
float_to_bits-result c = same_no_nan _ c.if-x.false

pub float_from_bits-result : goal.float_from_bits-result
float_from_bits-result c = let held : T (fits binary64 c.args.x) = subst T (sym c.well_formed.0.1) tt in
    abs_no_nan _ held (same_no_nan _ c.if-x.false)

pub returns : goal.returns
returns c = let held : T (fits binary64 c.args.x) = subst T (sym c.well_formed.0.1) tt in
    abs_is _ held
