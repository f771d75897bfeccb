-- Facts of whole numbers and their squares, and what the tests of `is_nearest_root` show. Assumes nothing.
use Rattle.std.proofs.Common.{◌≡◌, ℕ, ◌+◌, ◌-◌, ◌*◌, ◌/◌, ◌%◌, ◌^◌, ◌<◌, ◌≤◌, true, false, T, ltb, leb, sym, refl, ap, ◌∙◌, subst, lt_of_le_of_lt, le_of_lt, add_assoc, mul_assoc, mul_comm, add-mul, add_comm, mul-le-mul_left, mul-lt-mul_of_pos_right, div-add-mod', mul-add, mul_left_comm, arith, le→leb, ltb→lt, lt→ltb, leb→le, pow_pos, pow-add}
use native.Mathlib.Nat.{add_left_comm}
use lib.Dec.{not_T}
use lib.Ieee.Bits.{is_true, is_false}
use lib.Ieee.Fits.{and_i, and_l, and_r}
use Rattle.doubles.specs.Root.{is_nearest_root_of}

-- q is the whole number nearest to √w: (q - 1/2) ^ 2 < w < (q + 1/2) ^ 2
pub record NearRoot (w q : ℕ) : Type 0 where
  pub over : q * q < w + q
  pub under : w ≤ q * q + q

-- the same of m * 2 ^ 52, with 53 digits
pub record Root53 (m r : ℕ) : Type 0 where
  pub near : NearRoot (m * 2 ^ 52) r
  pub least : 2 ^ 52 ≤ r
  pub most : r < 2 ^ 53

pub near_true : {w q : ℕ} → NearRoot w q → true ≡ is_nearest_root_of w q
unfolding is_nearest_root_of
near_true {w} {q} n = sym (is_true _ (and_i (ltb (q * q) (w + q)) (leb w (q * q + q)) (lt→ltb _ _ n.over) (le→leb _ _ n.under)))

pub near_of_true : (w q : ℕ) → is_nearest_root_of w q ≡ true → NearRoot w q
unfolding is_nearest_root_of
near_of_true w q e =
    let t = subst T (sym e) tt in
    record {
      over = ltb→lt (q * q) (w + q) (and_l (ltb (q * q) (w + q)) (leb w (q * q + q)) t);
      under = leb→le w (q * q + q) (and_r (ltb (q * q) (w + q)) (leb w (q * q + q)) t);
    }

pub near_false : {w q : ℕ} → (NearRoot w q → ⊥) → false ≡ is_nearest_root_of w q
near_false {w} {q} refuted = sym (is_false (is_nearest_root_of w q) (not_T (is_nearest_root_of w q) (λ t. refuted (near_of_true w q (is_true (is_nearest_root_of w q) t)))))

pub product_lt : (i j : ℕ) {a b : ℕ} → a < 2 ^ i → b < 2 ^ j → a * b < 2 ^ (i + j)
product_lt i j {a} {b} ha hb =
    subst (λ (n : ℕ). a * b < n) (sym (pow-add 2 i j))
    (lt_of_le_of_lt (mul-le-mul_left a (le_of_lt hb)) (mul-lt-mul_of_pos_right ha (pow_pos j)))

pub square_of : (p h l : ℕ) → (h * p + l) * (h * p + l) ≡ h * h * (p * p) + h * l * (p + p) + l * l
square_of p h l = simp (mul-add, add-mul, mul_assoc, mul_comm, mul_left_comm, add_assoc, add_comm, add_left_comm) refl

-- q by its halves h and l, which `is_nearest_root` computes with
pub record Halves (q h l : ℕ) : Type 0 where
  pub square : q * q ≡ h * h * (2 ^ 27 * 2 ^ 27) + h * l * (2 ^ 27 + 2 ^ 27) + l * l
  pub short : q < 2 ^ 53
  pub upper : h * h < 2 ^ 52
  pub cross : h * l < 2 ^ 53
  pub lower : l * l < 2 ^ 54

pub halves : (q : ℕ) → q < 2 ^ 53 → Halves q (q / 2 ^ 27) (q % 2 ^ 27)
halves q k =
    record {
      square = ap (λ (x : ℕ). x * x) (sym (div-add-mod' q (2 ^ 27))) ∙ square_of (2 ^ 27) (q / 2 ^ 27) (q % 2 ^ 27);
      short = k;
      upper = product_lt 26 26 (high q k) (high q k);
      cross = product_lt 26 27 (high q k) (low q);
      lower = product_lt 27 27 (low q) (low q);
    }
  where
    high : (q : ℕ) → q < 2 ^ 53 → q / 2 ^ 27 < 2 ^ 26
    high q h = omega arith

    low : (q : ℕ) → q % 2 ^ 27 < 2 ^ 27
    low q = omega arith

-- the tests of `is_nearest_root`, with the products as numbers of their own
module _ (m q qq hh hl ll : ℕ) (s : qq ≡ hh * (2 ^ 27 * 2 ^ 27) + hl * (2 ^ 27 + 2 ^ 27) + ll) where
  all_pass : hh * 4 ≤ m + 4 → hl ≤ (m + 4 - hh * 4) * 2 ^ 24 → ll + 2 ^ 54 < ((m + 4 - hh * 4) * 2 ^ 24 - hl) * 2 ^ 28 + q
      → ((m + 4 - hh * 4) * 2 ^ 24 - hl) * 2 ^ 28 + q - (ll + 2 ^ 54) ≤ q + q
      → (qq < m * 2 ^ 52 + q) × (m * 2 ^ 52 ≤ qq + q)
  all_pass a b c d = omega arith

  module _ (short : q < 2 ^ 53) (over : qq < m * 2 ^ 52 + q) (under : m * 2 ^ 52 ≤ qq + q) where
    first-fails : m + 4 < hh * 4 → ⊥
    first-fails t = omega arith

    second-fails : hl < 2 ^ 53 → ll < 2 ^ 54 → 2 ^ 30 ≤ m + 4 - hh * 4 → ⊥
    second-fails b l t = omega arith

    module _ (a : hh * 4 ≤ m + 4) where
      third-fails : (m + 4 - hh * 4) * 2 ^ 24 < hl → ⊥
      third-fails t = omega arith

      module _ (b : hl ≤ (m + 4 - hh * 4) * 2 ^ 24) where
        fourth-fails : ll < 2 ^ 54 → 2 ^ 32 ≤ (m + 4 - hh * 4) * 2 ^ 24 - hl → ⊥
        fourth-fails l t = omega arith

        fifth-fails : ((m + 4 - hh * 4) * 2 ^ 24 - hl) * 2 ^ 28 + q ≤ ll + 2 ^ 54 → ⊥
        fifth-fails t = omega arith

        sixth-fails : q + q < ((m + 4 - hh * 4) * 2 ^ 24 - hl) * 2 ^ 28 + q - (ll + 2 ^ 54) → ⊥
        sixth-fails t = omega arith

-- each answer of `is_nearest_root`
module _ (m q h l : ℕ) (k : Halves q h l) where
  abbrev is : Type 0
  is = false ≡ is_nearest_root_of (m * 2 ^ 52) q

  pub pinned : h * h * 4 ≤ m + 4 → h * l ≤ (m + 4 - h * h * 4) * 2 ^ 24 → l * l + 2 ^ 54 < ((m + 4 - h * h * 4) * 2 ^ 24 - h * l) * 2 ^ 28 + q
      → ((m + 4 - h * h * 4) * 2 ^ 24 - h * l) * 2 ^ 28 + q - (l * l + 2 ^ 54) ≤ q + q
      → true ≡ is_nearest_root_of (m * 2 ^ 52) q
  pinned a b c d =
      let r = all_pass m q (q * q) (h * h) (h * l) (l * l) k.square a b c d in
      near_true (record { over = r.0; under = r.1 })

  pub fails_1 : m + 4 < h * h * 4 → is
  fails_1 t = near_false (λ n. first-fails m q (q * q) (h * h) (h * l) (l * l) k.square k.short n.over n.under t)

  pub fails_2 : 2 ^ 30 ≤ m + 4 - h * h * 4 → is
  fails_2 t = near_false (λ n. second-fails m q (q * q) (h * h) (h * l) (l * l) k.square k.short n.over n.under k.cross k.lower t)

  pub fails_3 : h * h * 4 ≤ m + 4 → (m + 4 - h * h * 4) * 2 ^ 24 < h * l → is
  fails_3 a t = near_false (λ n. third-fails m q (q * q) (h * h) (h * l) (l * l) k.square k.short n.over n.under a t)

  module _ (a : h * h * 4 ≤ m + 4) (b : h * l ≤ (m + 4 - h * h * 4) * 2 ^ 24) where
    pub fails-4 : 2 ^ 32 ≤ (m + 4 - h * h * 4) * 2 ^ 24 - h * l → is
    fails-4 t = near_false (λ n. fourth-fails m q (q * q) (h * h) (h * l) (l * l) k.square k.short n.over n.under a b k.lower t)

    pub fails-5 : ((m + 4 - h * h * 4) * 2 ^ 24 - h * l) * 2 ^ 28 + q ≤ l * l + 2 ^ 54 → is
    fails-5 t = near_false (λ n. fifth-fails m q (q * q) (h * h) (h * l) (l * l) k.square k.short n.over n.under a b t)

    pub fails-6 : q + q < ((m + 4 - h * h * 4) * 2 ^ 24 - h * l) * 2 ^ 28 + q - (l * l + 2 ^ 54) → is
    fails-6 t = near_false (λ n. sixth-fails m q (q * q) (h * h) (h * l) (l * l) k.square k.short n.over n.under a b t)
