-- Nobody has to believe this page: the first guess of the root, which `root_by` tests exactly (`nearest_of`,
-- proofs/Whole.antt) and replaces where it fails.
use Rattle.std.specs.Prelude.{ℕ, ◌+◌, ◌-◌, ◌/◌, ◌%◌, ◌^◌, from_bits, Float}
use Rattle.std.specs.Float.{binary64}
use Rattle.std.specs.Float.Ieee.{add, sub, mul}

-- b's digits with an exponent such that the number is from 1/2 up and below 2
unfoldable pub scaled_bits : ℕ → ℕ
scaled_bits b = b % 2 ^ 53 + 0x3fe0000000000000

-- Goldschmidt's iteration, twice, on a g near √x and an h near 1 / (2 * √x), and then the error of g
unfoldable pub guess_of : ℕ → Float
guess_of b =
    let n = scaled_bits b in
    let x = from_bits binary64 n in
    let y = from_bits binary64 (0x5fe6ed2100000000 - n / 2) in
    let c = from_bits binary64 0x41a8000000000000 in
    let g0 = mul binary64 x y in
    let h0 = mul binary64 y (from_bits binary64 0x3fe0000000000000) in
    let r0 = sub binary64 (mul binary64 g0 h0) (from_bits binary64 0x3ff80399a2a8e1e1) in
    let g1 = mul binary64 g0 r0 in
    let h1 = mul binary64 h0 r0 in
    let t = sub binary64 (add binary64 g1 c) c in
    let r1 = sub binary64 (mul binary64 g1 h1) (from_bits binary64 0x3ff800009bb14be8) in
    let g = mul binary64 g1 r1 in
    let h = mul binary64 h1 r1 in
    let d = sub binary64 (sub binary64 x (mul binary64 t t)) (mul binary64 (sub binary64 g t) (add binary64 g t)) in
    let w = sub binary64 (from_bits binary64 0x3ffc000000000000)
    (mul binary64 g (mul binary64 h (from_bits binary64 0x3ff8000000000000))) in
    add binary64 g (mul binary64 d (mul binary64 h w))
