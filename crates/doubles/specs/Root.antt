-- IEEE 754 `squareRoot`: the value of the format that is nearest to the exact root, a tie to the even one.
-- There are no real numbers here, so a root is told from another number by comparing squares of whole numbers.
use Rattle.std.specs.Prelude.{ℕ, zero, suc, ◌+◌, ◌-◌, ◌*◌, ◌/◌, ◌^◌, Bool, false, cond, ◌&&◌, ◌==◌, nat_le, nat_lt, Float}
use Prim.Native.Nat.{compare}
use Rattle.std.specs.Float.{nan, inf, fin, Format, binary64}
use Rattle.std.specs.Float.Ieee.{prec, low, up, down, size, nearest, units}

-- The largest r with r * r ≤ n, for an n below 4 ^ d, found a binary digit at a time: twice the root of n / 4, or one
-- more.
unfoldable pub root_in : ℕ → ℕ → ℕ
root_in zero n = 0
root_in (suc d) n = let r = 2 * root_in d (n / 4) in cond (nat_le (suc r * suc r) n) (suc r) r

-- the largest r with r * r ≤ n
unfoldable pub whole_root : ℕ → ℕ
unfolding root_in size
whole_root n = root_in (size n) n

-- The value of the format f that is nearest to √n of the format's smallest values. Of the root's whole part w the
-- format keeps the `prec` leading digits, q, and drops k.
-- So the result is q or q + 1, times 2 ^ k, by how √n compares with the number halfway between the two,
-- (2 * q + 1) * 2 ^ k / 2: both are doubled, and squared.
unfoldable pub root_round : Format → ℕ → Float
unfolding whole_root size units
root_round f n =
    let w = whole_root n in
    let k = size w - prec f in
    let q = w / 2 ^ k in
    let h = (2 * q + 1) * 2 ^ k in
    units f false (nearest q (compare (4 * n) (h * h))) k

-- Of a zero that zero, of any other negative number `nan`. m * 2 ^ e is (√n * 2 ^ -low) ^ 2 for
-- n = m * 2 ^ (e + 2 * low), a whole number.
unfoldable pub sqrt_in : Format → Float → Float
unfolding root_round
sqrt_in f nan = nan
sqrt_in f (inf s) = cond s nan (inf s)
sqrt_in f (fin s m e) = cond (m == 0) (fin s m e) (cond s nan (root_round f (m * up e * 2 ^ (low f + low f) / down e)))

-- the square root of a double
unfoldable pub sqrt_of : Float → Float
unfolding sqrt_in
sqrt_of x = sqrt_in binary64 x

-- ---- on whole numbers: what the functions that `sqrt` calls answer

-- the whole number nearest to √w, which never lies halfway between two: the whole part q, or one more
-- from (q + 1/2) ^ 2 on
unfoldable pub nearest_root_of : ℕ → ℕ
unfolding whole_root
nearest_root_of w = let q = whole_root w in cond (nat_le w (q * q + q)) q (suc q)

-- whether q is that number, for a q above 0: (q - 1/2) ^ 2 < w < (q + 1/2) ^ 2
unfoldable pub is_nearest_root_of : ℕ → ℕ → Bool
is_nearest_root_of w q = nat_lt (q * q) (w + q) && nat_le w (q * q + q)
