use Rattle.std.proofs.Common.{◌+◌, ◌/◌, ◌%◌, ◌^◌, sym, ◌∙◌, arith}
use Rattle.doubles.proofs.Floats.{positive_no_nan}
use Rattle.doubles.proofs.Squares.{near_of_true}
use Rattle.doubles.proofs.Whole.{nearest_of}
use Rattle.doubles.proofs.Roots.{digits_least, digits_most, even_most, evened_in, normal_root}
use Rattle.doubles.proofs.root.root_by.Goals as goal

pub is_nearest_root-requires : goal.is_nearest_root-requires
is_nearest_root-requires c = let b = c.args.b in
    let lo = c.requires.0 in
    let hi = c.requires.1 in
    let m = evened_in (b % 2 ^ 52 + 2 ^ 52) ((b / 2 ^ 52 + 1) % 2) (digits_least b lo hi) (digits_most b lo hi) (even_most b lo hi) in
    (omega arith, c.requires.2)

pub float_from_bits-result : goal.float_from_bits-result
float_from_bits-result c = positive_no_nan _ (omega arith)

pub returns-then-is_nearest_root : goal.returns-then-is_nearest_root
returns-then-is_nearest_root c = normal_root c.args.b c.requires.0 c.requires.1 _
    (nearest_of _ _ (near_of_true _ _ (sym c.is_nearest_root.ensures ∙ c.if-is_nearest_root.true)))
