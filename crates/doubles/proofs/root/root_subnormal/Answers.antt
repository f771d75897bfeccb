use Rattle.std.proofs.Common.{◌≡◌, ℕ, ◌+◌, ◌-◌, ◌*◌, ◌%◌, ◌^◌, ◌<◌, ◌≤◌, sym, subst, arith}
use lib.Count.{count_leading_zeros}
use Rattle.doubles.specs.Root.{nearest_root_of}
use Rattle.doubles.proofs.Floats.{positive_no_nan}
use Rattle.doubles.proofs.Roots.{Aligned, aligned, sub_even, evened_in, root_most, subnormal_root}
use Rattle.doubles.proofs.root.root_subnormal.Goals as goal

pub overflow_sub-s : goal.overflow_sub-s
overflow_sub-s c = let at : Aligned c.args.b (count_leading_zeros 64 c.args.b) = aligned c.args.b c.requires.0 c.requires.1 in
    at.enough

pub nearest_root-r-requires : goal.nearest_root-r-requires
nearest_root-r-requires c = let at : Aligned c.args.b (count_leading_zeros 64 c.args.b) = aligned c.args.b c.requires.0 c.requires.1 in
    let b = c.args.b in
    let a = at in
    let s = count_leading_zeros 64 b - 11 in
    let e = sub_even b s c.requires.0 c.requires.1 a.least a.most a.short in
    subst (λ (x : ℕ). (2 ^ 52 ≤ (x * 2 ^ (s % 2)) % 2 ^ 64) × ((x * 2 ^ (s % 2)) % 2 ^ 64 + 1 < 2 ^ 54)) (sym a.fits)
    (evened_in (b * 2 ^ s) (s % 2) a.least a.most e)

pub overflow_add-result : goal.overflow_add-result
overflow_add-result c = let most : c.nearest_root-r.result < 2 ^ 53 = let near : c.nearest_root-r.result ≡ nearest_root_of ((c.args.b * 2 ^ (count_leading_zeros 64 c.args.b - 11) * 2 ^ ((count_leading_zeros 64 c.args.b - 11) % 2)) % 2 ^ 64 * 2 ^ 52) = let at : Aligned c.args.b (count_leading_zeros 64 c.args.b) = aligned c.args.b c.requires.0 c.requires.1 in
    let s = count_leading_zeros 64 c.args.b - 11 in
    subst (λ (x : ℕ). c.nearest_root-r.result ≡ nearest_root_of ((x * 2 ^ (s % 2)) % 2 ^ 64 * 2 ^ 52)) at.fits c.nearest_root-r.ensures in
    let at : Aligned c.args.b (count_leading_zeros 64 c.args.b) = aligned c.args.b c.requires.0 c.requires.1 in
    let b = c.args.b in
    let a = at in
    let s = count_leading_zeros 64 b - 11 in
    let e = sub_even b s c.requires.0 c.requires.1 a.least a.most a.short in
    root_most (b * 2 ^ s) (s % 2) a.least a.most e c.nearest_root-r.result near in
    omega (arith, most)

pub float_from_bits-result : goal.float_from_bits-result
float_from_bits-result c = let most : c.nearest_root-r.result < 2 ^ 53 = let near : c.nearest_root-r.result ≡ nearest_root_of ((c.args.b * 2 ^ (count_leading_zeros 64 c.args.b - 11) * 2 ^ ((count_leading_zeros 64 c.args.b - 11) % 2)) % 2 ^ 64 * 2 ^ 52) = let at : Aligned c.args.b (count_leading_zeros 64 c.args.b) = aligned c.args.b c.requires.0 c.requires.1 in
    let s = count_leading_zeros 64 c.args.b - 11 in
    subst (λ (x : ℕ). c.nearest_root-r.result ≡ nearest_root_of ((x * 2 ^ (s % 2)) % 2 ^ 64 * 2 ^ 52)) at.fits c.nearest_root-r.ensures in
    let at : Aligned c.args.b (count_leading_zeros 64 c.args.b) = aligned c.args.b c.requires.0 c.requires.1 in
    let b = c.args.b in
    let a = at in
    let s = count_leading_zeros 64 b - 11 in
    let e = sub_even b s c.requires.0 c.requires.1 a.least a.most a.short in
    root_most (b * 2 ^ s) (s % 2) a.least a.most e c.nearest_root-r.result near in
    positive_no_nan _ (omega (arith, most))

pub returns : goal.returns
returns c = let near : c.nearest_root-r.result ≡ nearest_root_of ((c.args.b * 2 ^ (count_leading_zeros 64 c.args.b - 11) * 2 ^ ((count_leading_zeros 64 c.args.b - 11) % 2)) % 2 ^ 64 * 2 ^ 52) = let at : Aligned c.args.b (count_leading_zeros 64 c.args.b) = aligned c.args.b c.requires.0 c.requires.1 in
    let s = count_leading_zeros 64 c.args.b - 11 in
    subst (λ (x : ℕ). c.nearest_root-r.result ≡ nearest_root_of ((x * 2 ^ (s % 2)) % 2 ^ 64 * 2 ^ 52)) at.fits c.nearest_root-r.ensures in
    let at : Aligned c.args.b (count_leading_zeros 64 c.args.b) = aligned c.args.b c.requires.0 c.requires.1 in
    let b = c.args.b in
    let a = at in
    subnormal_root b (count_leading_zeros 64 b - 11) c.requires.0 c.requires.1 a.least a.most a.short c.nearest_root-r.result near
