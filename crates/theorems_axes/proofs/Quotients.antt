-- The numbers behind a vector's length and a vector made of length 1, as inequalities of whole numbers: K stands for 2
-- ^ 50, L for 1 in units and F for 2 ^ -48, so that `omega` has to multiply no large numerals. Assumes nothing.
use Prim.Native.Nat.{ℕ, ◌+◌, ◌*◌, ◌≤◌, ◌<◌}
use native.Mathlib.Nat.{le_of_mul-le-mul_left, le_of_mul-le-mul_right, mul-le-mul, mul-le-mul_left, mul-le-mul_right}
use native.Mathlib.Omega.{arith}
use mathlib.Core.Path.{◌≡◌, ap}
use Rattle.theorems_axes.specs.Axes.{Within}

-- ---- a part x divided by the length m

module _ (K L F m x a : ℕ) (pos : 0 < K) (unit : K * F ≡ 4 * L) (few : K ≤ L) (fine : F ≤ L) (modest : x ≤ 2 * m) where
  quotient_above : K * (a * m) ≤ (K + 1) * (x * L) + K * m → a * m ≤ x * L + F * m
  quotient_above h = le_of_mul-le-mul_left scaled pos
    where
      scaled : K * (a * m) ≤ K * (x * L + F * m)
      scaled =
          let p : x * L ≤ 2 * m * L = mul-le-mul_right L modest in
          let q : K * m ≤ L * m = mul-le-mul_right m few in
          let e : K * F * m ≡ 4 * L * m = ap (λ (z : ℕ). z * m) unit in
          omega arith

  quotient_below : a * m ≤ x * L + F * m → K * (x * L) ≤ (K + 1) * (a * m) + K * m → x * L ≤ a * m + F * m
  quotient_below g h = le_of_mul-le-mul_left scaled pos
    where
      scaled : K * (x * L) ≤ K * (a * m + F * m)
      scaled =
          let p : x * L ≤ 2 * m * L = mul-le-mul_right L modest in
          let q : K * m ≤ L * m = mul-le-mul_right m few in
          let r : F * m ≤ L * m = mul-le-mul_right m fine in
          let e : K * F * m ≡ 4 * L * m = ap (λ (z : ℕ). z * m) unit in
          omega arith

  pub quotient_within : K * (a * m) ≤ (K + 1) * (x * L) + K * m → K * (x * L) ≤ (K + 1) * (a * m) + K * m → Within (F * m) (a * m) (x * L)
  quotient_within h g = (quotient_above h, quotient_below (quotient_above h) g)

-- ---- its square

module _ (L F m x a : ℕ) (fine : F ≤ L) (modest : x ≤ 2 * m) (within : Within (F * m) (a * m) (x * L)) where
  pub quotient_most : 0 < m → a ≤ 3 * L
  quotient_most pos = le_of_mul-le-mul_right scaled pos
    where
      scaled : a * m ≤ 3 * L * m
      scaled =
          let h : a * m ≤ x * L + F * m = within.0 in
          let p : x * L ≤ 2 * m * L = mul-le-mul_right L modest in
          let r : F * m ≤ L * m = mul-le-mul_right m fine in
          omega arith

  pub square_above : a * a * (m * m) ≤ x * x * (L * L) + 5 * (L * F * (m * m))
  square_above =
      let h : a * m * (a * m) ≤ (x * L + F * m) * (x * L + F * m) = mul-le-mul within.0 within.0 in
      let p : x * (L * (F * m)) ≤ 2 * m * (L * (F * m)) = mul-le-mul_right (L * (F * m)) modest in
      let q : F * (F * (m * m)) ≤ L * (F * (m * m)) = mul-le-mul_right (F * (m * m)) fine in
      omega arith

  pub square_below : x * x * (L * L) ≤ a * a * (m * m) + 7 * (L * F * (m * m))
  square_below =
      let h : x * L * (x * L) ≤ (a * m + F * m) * (a * m + F * m) = mul-le-mul within.1 within.1 in
      let g : a * m * (F * m) ≤ (x * L + F * m) * (F * m) = mul-le-mul_right (F * m) within.0 in
      let p : x * (L * (F * m)) ≤ 2 * m * (L * (F * m)) = mul-le-mul_right (L * (F * m)) modest in
      let q : F * (F * (m * m)) ≤ L * (F * (m * m)) = mul-le-mul_right (F * (m * m)) fine in
      omega arith

-- ---- the sum of the squares

-- S is the sum of the squared parts, M the squared length
module _ (K L F E M S : ℕ) (some : 0 < M) (unit : K * F ≡ 4 * L) (coarse : E ≡ 256 * F) (above : K * S ≤ (K + 15) * M) (below : K * M ≤ K * S + 29 * M) where
  sum_above : S * (L * L) ≤ L * L * M + 4 * (L * F * M)
  sum_above =
      let e : K * F * (L * S) ≡ 4 * L * (L * S) = ap (λ (z : ℕ). z * (L * S)) unit in
      let f : K * F * (L * M) ≡ 4 * L * (L * M) = ap (λ (z : ℕ). z * (L * M)) unit in
      let h : L * F * (K * S) ≤ L * F * ((K + 15) * M) = mul-le-mul_left (L * F) above in
      omega arith

  sum_below : L * L * M ≤ S * (L * L) + 8 * (L * F * M)
  sum_below =
      let e : K * F * (L * S) ≡ 4 * L * (L * S) = ap (λ (z : ℕ). z * (L * S)) unit in
      let f : K * F * (L * M) ≡ 4 * L * (L * M) = ap (λ (z : ℕ). z * (L * M)) unit in
      let h : L * F * (K * M) ≤ L * F * (K * S + 29 * M) = mul-le-mul_left (L * F) below in
      omega arith

  pub unit_within : (Q : ℕ) → Q * M ≤ S * (L * L) + 15 * (L * F * M) → S * (L * L) ≤ Q * M + 21 * (L * F * M) → Within (E * L) Q (L * L)
  unit_within Q h g = (le_of_mul-le-mul_right up some, le_of_mul-le-mul_right down some)
    where
      up : Q * M ≤ (L * L + E * L) * M
      up =
          let s : S * (L * L) ≤ L * L * M + 4 * (L * F * M) = sum_above in
          let e : E * (L * M) ≡ 256 * F * (L * M) = ap (λ (z : ℕ). z * (L * M)) coarse in
          omega arith

      down : L * L * M ≤ (Q + E * L) * M
      down =
          let s : L * L * M ≤ S * (L * L) + 8 * (L * F * M) = sum_below in
          let e : E * (L * M) ≡ 256 * F * (L * M) = ap (λ (z : ℕ). z * (L * M)) coarse in
          omega arith
