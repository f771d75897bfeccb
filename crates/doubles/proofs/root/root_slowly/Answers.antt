use Rattle.std.proofs.Common.{◌+◌, ◌/◌, ◌%◌, ◌^◌, ◌<◌, arith}
use Rattle.doubles.proofs.Floats.{positive_no_nan}
use Rattle.doubles.proofs.Roots.{digits_least, digits_most, even_most, evened_in, root_most, normal_root}
use Rattle.doubles.proofs.root.root_slowly.Goals as goal

most : (c : goal.After-nearest_root-r) → c.nearest_root-r.result < 2 ^ 53
most c =
    let b = c.args.b in
    let lo = c.if-b-lt4503599627370496.false in
    let hi = c.requires.1 in
    root_most (b % 2 ^ 52 + 2 ^ 52) ((b / 2 ^ 52 + 1) % 2) (digits_least b lo hi) (digits_most b lo hi) (even_most b lo hi) c.nearest_root-r.result
    c.nearest_root-r.ensures

pub nearest_root-r-requires : goal.nearest_root-r-requires
nearest_root-r-requires c = let b = c.args.b in
    let lo = c.if-b-lt4503599627370496.false in
    let hi = c.requires.1 in
    evened_in (b % 2 ^ 52 + 2 ^ 52) ((b / 2 ^ 52 + 1) % 2) (digits_least b lo hi) (digits_most b lo hi) (even_most b lo hi)

pub overflow_add-result-2 : goal.overflow_add-result-2
overflow_add-result-2 c = omega (arith, most c)

pub float_from_bits-result : goal.float_from_bits-result
float_from_bits-result c = positive_no_nan _ (omega (arith, most c))

pub returns : goal.returns
returns c = normal_root c.args.b c.if-b-lt4503599627370496.false c.requires.1 c.nearest_root-r.result c.nearest_root-r.ensures
