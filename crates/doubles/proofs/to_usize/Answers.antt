use Rattle.std.proofs.Common.{T, sym, subst}
use lib.Ieee.{of_bits, neg}
use Rattle.doubles.proofs.Small.{at_most, at_least}
use Rattle.doubles.proofs.to_usize.Goals as goal

pub truncating_f64_to_u64-requires-clause-lower_bound : goal.truncating_f64_to_u64-requires-clause-lower_bound
unfolding of_bits neg
truncating_f64_to_u64-requires-clause-lower_bound c = subst T (sym c.if-x.true) tt

pub truncating_f64_to_u64-requires-clause-upper_bound : goal.truncating_f64_to_u64-requires-clause-upper_bound
unfolding of_bits neg
truncating_f64_to_u64-requires-clause-upper_bound c = subst T (sym c.if-x-2.true) tt

pub returns-then-x : goal.returns-then-x
unfolding of_bits neg
returns-then-x c = at_most _ c.if-x.true c.if-x-2.false

pub returns : goal.returns
unfolding of_bits neg
returns c = at_least _ c.if-x.false
