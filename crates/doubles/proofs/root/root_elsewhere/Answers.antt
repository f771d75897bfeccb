use Rattle.std.proofs.Common.{T, sym, ◌∙◌, subst}
use lib.Ieee.{binary64, fits, to_bits}
use lib.Ieee.Bits.{to_bits-lt}
use Rattle.doubles.proofs.Floats.{same_no_nan, differs_is_nan, zero_by_zero}
use Rattle.doubles.proofs.Roots.{own_nan, own_inf, own_zero, own_minus_zero, by_bits, rest_root}
use Rattle.doubles.proofs.root.root_elsewhere.Goals as goal

pub returns-then-x : goal.returns-then-x
returns-then-x c = own_nan c.args.x (differs_is_nan c.args.x c.if-x.true)

pub float_to_bits-b : goal.float_to_bits-b
float_to_bits-b c = same_no_nan c.args.x c.if-x.false

pub returns-then-b-lt9218868437227405312 : goal.returns-then-b-lt9218868437227405312
returns-then-b-lt9218868437227405312 c = let held : T (fits binary64 c.args.x) = subst T (sym c.well_formed.0.1) tt in
    by_bits _ _ held c.root_guessed.ensures

pub returns-then-b-eq9218868437227405312 : goal.returns-then-b-eq9218868437227405312
returns-then-b-eq9218868437227405312 c = let held : T (fits binary64 c.args.x) = subst T (sym c.well_formed.0.1) tt in
    own_inf _ held c.if-b-eq9218868437227405312.true

pub returns-then-b : goal.returns-then-b
returns-then-b c = let held : T (fits binary64 c.args.x) = subst T (sym c.well_formed.0.1) tt in
    own_minus_zero _ held c.if-b.true

pub returns-then-b-ge4503599627370496 : goal.returns-then-b-ge4503599627370496
returns-then-b-ge4503599627370496 c = let held : T (fits binary64 c.args.x) = subst T (sym c.well_formed.0.1) tt in
    let x = c.args.x in
    by_bits x _ held
    (zero_by_zero
    ∙ sym (rest_root (to_bits binary64 x) c.if-b-lt9218868437227405312.false c.if-b-eq9218868437227405312.false c.if-b.false (to_bits-lt binary64 x held)))

pub returns-then-b-eq0 : goal.returns-then-b-eq0
returns-then-b-eq0 c = let held : T (fits binary64 c.args.x) = subst T (sym c.well_formed.0.1) tt in
    own_zero _ held c.if-b-eq0.true

pub returns : goal.returns
returns c = let held : T (fits binary64 c.args.x) = subst T (sym c.well_formed.0.1) tt in
    by_bits _ _ held c.root_slowly.ensures
