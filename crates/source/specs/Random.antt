-- xorshift64*: S. Vigna, "An experimental exploration of Marsaglia's xorshift generators, scrambled", ACM Transactions
-- on Mathematical Software 42, 2016.
-- The shifts are 12, 25 and 27, and the state is multiplied by 2685821657736338717, all in 64 bits.
use Rattle.std.specs.Prelude.{ℕ, ◌*◌, ◌/◌, ◌%◌, ◌^◌, cond, pos, ◌==◌, bit_xor, from_bits, Float}
use Rattle.std.specs.Float.{binary64}
use Rattle.std.specs.Float.Ieee.{mul, of_int}
use Rattle.source.specs.declared.Rng64.{Rng64}
use Rattle.source.specs.declared.Drawn.{Drawn}

-- Vigna's next state: x ^= x >> 12; x ^= x << 25; x ^= x >> 27
unfoldable pub next_state : ℕ → ℕ
next_state x =
    let a = bit_xor x (x / 2 ^ 12) in
    let b = bit_xor a (a * 2 ^ 25 % 2 ^ 64) in
    bit_xor b (b / 2 ^ 27)

-- Vigna's output of a state: the low 64 bits of the product
unfoldable pub scrambled : ℕ → ℕ
scrambled x = x * 2685821657736338717 % 2 ^ 64

-- the Rust's own: seed 0 becomes 0x853c49e6748fea9b
unfoldable pub new_of : ℕ → Rng64
new_of seed = record { state = cond (seed == 0) 0x853c49e6748fea9b seed }

unfoldable pub next_u64_of : Rng64 → Drawn ℕ
next_u64_of g = let x = next_state g.state in record { rng = record { state = x }; value = scrambled x }

-- the top 53 bits as a whole number, times 2 ^ -53
unfoldable pub unit_interval : ℕ → Float
unit_interval n = mul binary64 (of_int binary64 (pos (n / 2 ^ 11))) (from_bits binary64 0x3ca0000000000000)

unfoldable pub next_f64_of : Rng64 → Drawn Float
next_f64_of g = let d = next_u64_of g in record { rng = d.rng; value = unit_interval d.value }
