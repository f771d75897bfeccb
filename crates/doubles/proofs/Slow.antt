-- The root of m * 2 ^ 52 a binary digit at a time: what the loop of `nearest_root` keeps. Assumes nothing.
use Rattle.std.proofs.Common.{◌≡◌, ℕ, zero, suc, ◌+◌, ◌-◌, ◌*◌, ◌/◌, ◌%◌, ◌^◌, ◌<◌, ◌≤◌, ap, ◌∙◌, pow-suc, add-one, arith, pow_mono}
use Rattle.doubles.specs.Root.{nearest_root_of}
use Rattle.doubles.proofs.Squares.{NearRoot}
use Rattle.doubles.proofs.Whole.{nearest_of}

-- q is the root of the digits taken so far, r what is left of them, and n holds the digits to come
pub record Kept (m n q r j : ℕ) : Type 0 where
  pub sum : (q * q + r) * 2 ^ 54 + n ≡ m * 4 ^ j
  pub left : r ≤ q + q
  pub short : q < 2 ^ j
  pub held : n < 2 ^ 54
  pub turns : j ≤ 53

pub power : (b j : ℕ) → b ^ (j + 1) ≡ b ^ j * b
power b j = ap (λ (x : ℕ). b ^ x) (add-one j) ∙ pow-suc b j

pub root_small : {m n q r j : ℕ} → Kept m n q r j → q < 2 ^ 53
root_small {m} {n} {q} {r} {j} k = omega (arith, pow_mono k.turns, k.short)

-- what the turns compute with fits
pub small : {m n q r j : ℕ} → Kept m n q r j → (q < 2 ^ 53) × (r < 2 ^ 54) × (n < 2 ^ 54)
small {m} {n} {q} {r} {j} k = (root_small k, double q r (root_small k) k.left, k.held)
  where
    double : (q r : ℕ) → q < 2 ^ 53 → r ≤ q + q → r < 2 ^ 54
    double q r h g = omega arith

module _ (m n q r j : ℕ) (k : Kept m n q r j) (l : j < 53) where
  below : q < 2 ^ 52
  below = omega (arith, pow_mono (le l), k.short)
    where
      le : {a b : ℕ} → a < suc b → a ≤ b
      le h = omega arith

  pub up : q * 4 + 1 ≤ r * 4 + n / 2 ^ 52 → Kept m (n % 2 ^ 52 * 4) (q * 2 + 1) (r * 4 + n / 2 ^ 52 - (q * 4 + 1)) (j + 1)
  up h =
      let s = k.sum in
      let a = k.left in
      let b = k.short in
      record {
        sum = rw (power 4 j) (omega arith);
        left = omega arith;
        short = rw (power 2 j) (omega arith);
        held = omega arith;
        turns = omega arith;
      }

  pub down : r * 4 + n / 2 ^ 52 < q * 4 + 1 → Kept m (n % 2 ^ 52 * 4) (q * 2) (r * 4 + n / 2 ^ 52) (j + 1)
  down h =
      let s = k.sum in
      let a = k.left in
      let b = k.short in
      record {
        sum = rw (power 4 j) (omega arith);
        left = omega arith;
        short = rw (power 2 j) (omega arith);
        held = omega arith;
        turns = omega arith;
      }

-- ---- at the end

near_down : (q r w : ℕ) → q * q + r ≡ w → r ≤ q → 0 < w → NearRoot w q
near_down q r w e h p = record { over = fine q e h p; under = omega arith }
  where
    fine : (q : ℕ) → q * q + r ≡ w → r ≤ q → 0 < w → q * q < w + q
    fine zero e h p = omega arith
    fine (suc q) e h p = omega arith

near_up : (q r w : ℕ) → q * q + r ≡ w → r ≤ q + q → q < r → NearRoot w (q + 1)
near_up q r w e h p = record { over = omega arith; under = omega arith }

module _ (m n q r j : ℕ) (k : Kept m n q r j) (l : 53 ≤ j) (lo : 2 ^ 52 ≤ m) where
  at_end : j ≡ 53
  at_end = omega (arith, k.turns)

  whole : q * q + r ≡ m * 2 ^ 52
  whole =
      let s : (q * q + r) * 2 ^ 54 + n ≡ m * 4 ^ 53 = k.sum ∙ ap (λ (x : ℕ). m * 4 ^ x) at_end in
      omega (arith, k.held)

  some : 0 < m * 2 ^ 52
  some = omega arith

  pub end_down : r ≤ q → q ≡ nearest_root_of (m * 2 ^ 52)
  end_down h = nearest_of (m * 2 ^ 52) q (near_down q r (m * 2 ^ 52) whole h some)

  pub end_up : q < r → q + 1 ≡ nearest_root_of (m * 2 ^ 52)
  end_up h = nearest_of (m * 2 ^ 52) (q + 1) (near_up q r (m * 2 ^ 52) whole k.left h)
