-- Numbers that are equal up to j parts of 2 ^ 50 and an absolute error t, and chains of such numbers. The 2 ^ 50 is a
-- variable in the steps: `omega` multiplies out, and squares of the numeral would be too long for it. Assumes nothing.
use Prim.Native.Nat.{ℕ, ◌+◌, ◌*◌, ◌^◌, ◌≤◌, ◌<◌}
use native.Mathlib.Nat.{le_of_mul-le-mul_left, mul-le-mul_left, mul-le-mul_right}
use native.Mathlib.Omega.{arith}
use lib.Dec.{lit<}

-- at most j of K parts and t more
abbrev Part : ℕ → ℕ → ℕ → ℕ → ℕ → Type 0
Part K j t a b = K * a ≤ (K + j) * b + K * t

chain_part : (K i j k t u s a b c : ℕ) → 0 < K → i * j ≤ K → i ≤ K → i + j + 1 ≤ k → 2 * (t + u) ≤ s → Part K i t a b → Part K j u b c → Part K k s a c
chain_part K i j k t u s a b c pos small less parts most h g = le_of_mul-le-mul_left fine pos
  where
    fine : K * (K * a) ≤ K * ((K + k) * c + K * s)
    fine =
        let h' : K * (K * a) ≤ K * ((K + i) * b + K * t) = mul-le-mul_left K h in
        let g' : (K + i) * (K * b) ≤ (K + i) * ((K + j) * c + K * u) = mul-le-mul_left (K + i) g in
        let o : i * j * c ≤ K * c = mul-le-mul_right c small in
        let l : i * (K * u) ≤ K * (K * u) = mul-le-mul_right (K * u) less in
        let p : (i + j + 1) * (K * c) ≤ k * (K * c) = mul-le-mul_right (K * c) parts in
        let q : 2 * (t + u) * (K * K) ≤ s * (K * K) = mul-le-mul_right (K * K) most in
        omega arith

-- ---- with K = 2 ^ 50

abbrev pub Under : ℕ → ℕ → ℕ → ℕ → Type 0
Under j t a b = Part (2 ^ 50) j t a b

abbrev pub Near : ℕ → ℕ → ℕ → ℕ → Type 0
Near j t a b = Under j t a b × Under j t b a

pub chain : (i j k t u s a b c : ℕ) → i * j ≤ 2 ^ 50 → i ≤ 2 ^ 50 → j ≤ 2 ^ 50 → i + j + 1 ≤ k → 2 * (t + u) ≤ s → Near i t a b → Near j u b c → Near k s a c
chain i j k t u s a b c p q r parts most h g = (
  chain_part (2 ^ 50) i j k t u s a b c (lit< tt) p q parts most h.0 g.0,
  chain_part (2 ^ 50) j i k u t s c b a (lit< tt) (swap i j p) r (more i j k parts) (less t u s most) g.1 h.1,
)
  where
    swap : (i j : ℕ) → i * j ≤ 2 ^ 50 → j * i ≤ 2 ^ 50
    swap i j h = omega arith

    more : (i j k : ℕ) → i + j + 1 ≤ k → j + i + 1 ≤ k
    more i j k h = omega arith

    less : (t u s : ℕ) → 2 * (t + u) ≤ s → 2 * (u + t) ≤ s
    less t u s h = omega arith
