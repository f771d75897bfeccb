-- The root of a float by its bit pattern: the patterns that `root_by`, `root_subnormal` and `sqrt` hand back stand for `sqrt_of`. Assumes nothing.
use Rattle.std.proofs.Common.{◌≡◌, ℕ, zero, suc, ◌+◌, ◌-◌, ◌*◌, ◌/◌, ◌%◌, ◌^◌, ◌<◌, ◌≤◌, Bool, true, false, cond, not, T, eqb, leb, ◌⊎◌, sym, refl, ap, ◌∙◌, subst, inl, inr, le_of_suc-le-suc, lt_of_le_of_lt, mul-le-mul_right, mul_assoc, add_comm, suc-add, eq-or-lt_of_le, mul-lt-mul_of_pos_right, mul-pos, lt_of_not-le, not-le_of_lt, arith, le→leb, eqb→eq, leb→le, pow_pos, pow_mono, pow-add, shl_lt, shl_exact}
use lib.Dec.{not_T, nleb→lt}
use lib.Count.{count_leading_zeros, leading_top}
use lib.Ieee.{Float, nan, inf, binary64, odd, of_fields, of_bits, to_bits, fits}
use lib.Ieee.Bits.{is_true, cond_no, of_bits-to_bits}
use lib.Ieee.Exact.{HasValue, odd_sign}
use Rattle.doubles.specs.Root.{root_round, sqrt_in, sqrt_of, nearest_root_of}
use Rattle.doubles.proofs.Whole.{rounded, root53}
use Rattle.doubles.proofs.Patterns.{of_bits_is, under_ones, at_zero, plus, normal, subnormal, pattern_is, positive_root, negative_root}

sqrt_of_is : (x : Float) → sqrt_of x ≡ sqrt_in binary64 x
unfolding sqrt_of
sqrt_of_is x = refl

-- ---- the number whose root is taken: digits d with 2 ^ t, for a t of 0 or 1

module _ (d t : ℕ) (lo : 2 ^ 52 ≤ d) (hi : d < 2 ^ 53) (bit : t < 2) where
  go_least : (t : ℕ) → t < 2 → 2 ^ 52 ≤ d * 2 ^ t
  go_least zero h = omega arith
  go_least (suc zero) h = omega arith
  go_least (suc (suc t)) h = omega arith

  go_most : (t : ℕ) → t < 2 → d * 2 ^ t + 1 < 2 ^ 54
  go_most zero h = omega arith
  go_most (suc zero) h = omega arith
  go_most (suc (suc t)) h = omega arith

  pub evened_least : 2 ^ 52 ≤ d * 2 ^ t
  evened_least = go_least t bit

  pub evened_most : d * 2 ^ t + 1 < 2 ^ 54
  evened_most = go_most t bit

  pub evened_fits : (d * 2 ^ t) % 2 ^ 64 ≡ d * 2 ^ t
  evened_fits = shl_exact 53 t 64 hi (wide t bit)
    where
      wide : (t : ℕ) → t < 2 → 53 + t ≤ 64
      wide t h = omega arith

  pub evened_in : (2 ^ 52 ≤ (d * 2 ^ t) % 2 ^ 64) × ((d * 2 ^ t) % 2 ^ 64 + 1 < 2 ^ 54)
  evened_in = subst (λ (m : ℕ). (2 ^ 52 ≤ m) × (m + 1 < 2 ^ 54)) (sym evened_fits) (evened_least, evened_most)

  pub root_most : (r : ℕ) → r ≡ nearest_root_of ((d * 2 ^ t) % 2 ^ 64 * 2 ^ 52) → r < 2 ^ 53
  root_most r near = (root53 ((d * 2 ^ t) % 2 ^ 64) r evened_in.0 evened_in.1 near).most

  -- the rounded root
  pub root_at_lem : (k r a : ℕ) → k < 2045 → r ≡ nearest_root_of (d * 2 ^ t * 2 ^ 52) → a ≡ d * 2 ^ t * 2 ^ 52 * (2 ^ k * 2 ^ k) → root_round binary64 a ≡ of_bits binary64 (k * 2 ^ 52 + r)
  root_at_lem k r a K near e =
      let is = root53 (d * 2 ^ t) r evened_least evened_most near in
      ap (root_round binary64) e
      ∙ rounded binary64 (d * 2 ^ t * 2 ^ 52) k r is.near (mul-le-mul_right (2 ^ 52) evened_least) (mul-lt-mul_of_pos_right (weaker (d * 2 ^ t) evened_most) (pow_pos 52))
      ∙ sym (pattern_is k r K is.least is.most)
    where
      weaker : (x : ℕ) → x + 1 < 2 ^ 54 → x < 2 ^ 54
      weaker x h = omega arith

powers : (d x y t k : ℕ) → x + y ≡ t + (52 + (k + k)) → d * 2 ^ x * 2 ^ y ≡ d * 2 ^ t * 2 ^ 52 * (2 ^ k * 2 ^ k)
powers d x y t k e =
    mul_assoc d (2 ^ x) (2 ^ y)
    ∙ ap (λ (z : ℕ). d * z)
    (sym (pow-add 2 x y) ∙ ap (λ (z : ℕ). 2 ^ z) e ∙ pow-add 2 t (52 + (k + k)) ∙ ap (λ (z : ℕ). 2 ^ t * z) (pow-add 2 52 (k + k) ∙ ap (λ (z : ℕ). 2 ^ 52 * z) (pow-add 2 k k)))
    ∙ sym (mul_assoc d (2 ^ t) (2 ^ 52 * (2 ^ k * 2 ^ k)))
    ∙ sym (mul_assoc (d * 2 ^ t) (2 ^ 52) (2 ^ k * 2 ^ k))

-- ---- a normal float

module _ (b : ℕ) (lo : 2 ^ 52 ≤ b) (hi : b < 0x7ff0_0000_0000_0000) where
  pub digits_least : 2 ^ 52 ≤ b % 2 ^ 52 + 2 ^ 52
  digits_least = omega arith

  pub digits_most : b % 2 ^ 52 + 2 ^ 52 < 2 ^ 53
  digits_most = omega arith

  pub exponent_most : (b / 2 ^ 52 + 1021) / 2 < 2045
  exponent_most = omega arith

  pub even_most : (b / 2 ^ 52 + 1) % 2 < 2
  even_most = omega arith

  exponents : b / 2 ^ 52 - 1 + 1074 ≡ (b / 2 ^ 52 + 1) % 2 + (52 + ((b / 2 ^ 52 + 1021) / 2 + (b / 2 ^ 52 + 1021) / 2))
  exponents = omega arith

  some : 0 < b % 2 ^ 52 + 2 ^ 52
  some = omega arith

  value : HasValue (of_bits binary64 b) false ((b % 2 ^ 52 + 2 ^ 52) * 2 ^ (b / 2 ^ 52 - 1)) (2 ^ 1074)
  value =
      subst (λ (x : Float). HasValue x false ((b % 2 ^ 52 + 2 ^ 52) * 2 ^ (b / 2 ^ 52 - 1)) (2 ^ 1074))
      (sym (normal b lo hi ∙ ap (λ (x : ℕ). odd 53 false x (b / 2 ^ 52 - 1) 1074) (add_comm (2 ^ 52) (b % 2 ^ 52))))
      (odd_sign 53 false (b % 2 ^ 52 + 2 ^ 52) (b / 2 ^ 52 - 1) 1074)

  pub normal_root : (r : ℕ) → r ≡ nearest_root_of (((b % 2 ^ 52 + 2 ^ 52) * 2 ^ ((b / 2 ^ 52 + 1) % 2)) % 2 ^ 64 * 2 ^ 52)
      → of_bits binary64 ((b / 2 ^ 52 + 1021) / 2 * 2 ^ 52 + r) ≡ sqrt_of (of_bits binary64 b)
  normal_root r is =
      let d = b % 2 ^ 52 + 2 ^ 52 in
      let t = (b / 2 ^ 52 + 1) % 2 in
      let k = (b / 2 ^ 52 + 1021) / 2 in
      sym
      (sqrt_of_is (of_bits binary64 b)
      ∙ positive_root binary64 (of_bits binary64 b) (d * 2 ^ (b / 2 ^ 52 - 1)) value (mul-pos some (pow_pos (b / 2 ^ 52 - 1)))
      ∙ root_at_lem d t digits_least digits_most even_most k r (d * 2 ^ (b / 2 ^ 52 - 1) * 2 ^ 1074) exponent_most
      (subst (λ (m : ℕ). r ≡ nearest_root_of (m * 2 ^ 52)) (evened_fits d t digits_least digits_most even_most) is)
      (powers d (b / 2 ^ 52 - 1) 1074 t k exponents))

-- ---- a subnormal float

pub record Aligned (b z : ℕ) : Type 0 where
  pub enough : 11 ≤ z
  pub least : 2 ^ 52 ≤ b * 2 ^ (z - 11)
  pub most : b * 2 ^ (z - 11) < 2 ^ 53
  pub fits : (b * 2 ^ (z - 11)) % 2 ^ 64 ≡ b * 2 ^ (z - 11)
  pub short : z - 11 ≤ 52

pub aligned : (b : ℕ) → 0 < b → b < 2 ^ 52 → Aligned b (count_leading_zeros 64 b)
aligned b h k = go (count_leading_zeros 64 b) (leading_top 64 b h (wide b k))
  where
    wide : (b : ℕ) → b < 2 ^ 52 → b < 2 ^ 64
    wide b h = omega arith

    go : (z : ℕ) → (j : ℕ) × (z + suc j ≡ 64) × (2 ^ j ≤ b) × (b < 2 ^ suc j) → Aligned b z
    go z l =
        let j = l.0 in
        let s = z - 11 in
        let j-lt : j < 52 = pow_lt_back j 52 (lt_of_le_of_lt l.2 k) in
        let e : j + s ≡ 52 = sum z j l.1 j-lt in
        record {
          enough = far z j l.1 j-lt;
          least = subst (λ (x : ℕ). x ≤ b * 2 ^ s) (sym (pow-add 2 j s) ∙ ap (λ (x : ℕ). 2 ^ x) e) (mul-le-mul_right (2 ^ s) l.2);
          most = subst (λ (x : ℕ). b * 2 ^ s < x) (ap (λ (x : ℕ). 2 ^ x) (ap suc e ∙ refl)) (subst (λ (x : ℕ). b * 2 ^ s < 2 ^ x) (suc-add j s) (shl_lt (suc j) s l.3));
          fits = shl_exact (suc j) s 64 l.3 (room j s e);
          short = near j s e;
        }
      where
        pow_lt_back : (i p : ℕ) → 2 ^ i < 2 ^ p → i < p
        pow_lt_back i p h = lt_of_not-le (λ (g : p ≤ i). not-le_of_lt h (pow_mono g))

        sum : (z j : ℕ) → z + suc j ≡ 64 → j < 52 → j + (z - 11) ≡ 52
        sum z j h g = omega arith

        far : (z j : ℕ) → z + suc j ≡ 64 → j < 52 → 11 ≤ z
        far z j h g = omega arith

        room : (j s : ℕ) → j + s ≡ 52 → suc j + s ≤ 64
        room j s h = omega arith

        near : (j s : ℕ) → j + s ≡ 52 → s ≤ 52
        near j s h = omega arith

split_power : (b s t : ℕ) → b * 2 ^ (s + t) ≡ b * 2 ^ s * 2 ^ t
split_power b s t = ap (λ (x : ℕ). b * x) (pow-add 2 s t) ∙ sym (mul_assoc b (2 ^ s) (2 ^ t))

module _ (b s : ℕ) (some : 0 < b) (low : b < 2 ^ 52) (lo : 2 ^ 52 ≤ b * 2 ^ s) (hi : b * 2 ^ s < 2 ^ 53) (short : s ≤ 52) where
  pub sub_even : s % 2 < 2
  sub_even = odds s
    where
      odds : (s : ℕ) → s % 2 < 2
      odds s = omega arith

  pub sub_exponent : (1022 - s) / 2 < 2045
  sub_exponent = under s
    where
      under : (s : ℕ) → (1022 - s) / 2 < 2045
      under s = omega arith

  sub_exponents : 0 + 1074 ≡ s + s % 2 + (52 + ((1022 - s) / 2 + (1022 - s) / 2))
  sub_exponents = total s short
    where
      total : (s : ℕ) → s ≤ 52 → 0 + 1074 ≡ s + s % 2 + (52 + ((1022 - s) / 2 + (1022 - s) / 2))
      total s h = omega arith

  sub_value : HasValue (of_bits binary64 b) false (b * 2 ^ 0) (2 ^ 1074)
  sub_value = subst (λ (x : Float). HasValue x false (b * 2 ^ 0) (2 ^ 1074)) (sym (subnormal b low)) (odd_sign 53 false b 0 1074)

  pub subnormal_root : (r : ℕ) → r ≡ nearest_root_of ((b * 2 ^ s * 2 ^ (s % 2)) % 2 ^ 64 * 2 ^ 52) → of_bits binary64 ((1022 - s) / 2 * 2 ^ 52 + r) ≡ sqrt_of (of_bits binary64 b)
  subnormal_root r is =
      let t = s % 2 in
      let k = (1022 - s) / 2 in
      sym
      (sqrt_of_is (of_bits binary64 b)
      ∙ positive_root binary64 (of_bits binary64 b) (b * 2 ^ 0) sub_value (mul-pos some (pow_pos 0))
      ∙ root_at_lem (b * 2 ^ s) t lo hi sub_even k r (b * 2 ^ 0 * 2 ^ 1074) sub_exponent
      (subst (λ (m : ℕ). r ≡ nearest_root_of (m * 2 ^ 52)) (evened_fits (b * 2 ^ s) t lo hi sub_even) is)
      (powers b 0 1074 (s + t) k sub_exponents ∙ ap (λ (x : ℕ). x * 2 ^ 52 * (2 ^ k * 2 ^ k)) (split_power b s t)))

-- ---- the other floats

at_ones : (s : Bool) (t : ℕ) → of_fields binary64 s 2047 t ≡ cond (eqb t 0) (inf s) nan
unfolding of_fields
at_ones s t = refl

root_nan : sqrt_of nan ≡ nan
unfolding sqrt_of
root_nan = refl

root_minus : (b : Bool) → sqrt_of (cond b (inf true) nan) ≡ nan
unfolding sqrt_of
root_minus true = refl
root_minus false = refl

minus_odd : (q k : ℕ) → 0 < q → sqrt_of (odd 53 true q k 1074) ≡ nan
minus_odd q k h = sqrt_of_is (odd 53 true q k 1074) ∙ negative_root binary64 (odd 53 true q k 1074) (q * 2 ^ k) (2 ^ 1074) (odd_sign 53 true q k 1074) (mul-pos h (pow_pos k))

minus_fields : (x t : ℕ) → x < 2048 → (x ≡ 0 → 0 < t) → sqrt_of (of_fields binary64 true x t) ≡ nan
minus_fields zero t h p = ap sqrt_of (at_zero true t) ∙ minus_odd t 0 (p refl)
minus_fields (suc x) t h p = go (eq-or-lt_of_le (le_of_suc-le-suc h))
  where
    lead : (t : ℕ) → 0 < 2 ^ 52 + t
    lead t = omega arith

    go : (suc x ≡ 2047) ⊎ (suc x < 2047) → sqrt_of (of_fields binary64 true (suc x) t) ≡ nan
    go (inl e) = ap (λ (y : ℕ). sqrt_of (of_fields binary64 true y t)) e ∙ ap sqrt_of (at_ones true t) ∙ root_minus (eqb t 0)
    go (inr l) = ap sqrt_of (under_ones true t x l) ∙ minus_odd (2 ^ 52 + t) x (lead t)

pub rest_root : (b : ℕ) → 0x7ff0_0000_0000_0000 ≤ b → (b ≡ 0x7ff0_0000_0000_0000 → ⊥) → (b ≡ 0x8000_0000_0000_0000 → ⊥) → b < 2 ^ 64 → sqrt_of (of_bits binary64 b) ≡ nan
rest_root b lo ni nz hi = go (leb (2 ^ 63) b) (leb→le (2 ^ 63) b) (nleb→lt (2 ^ 63) b)
  where
    field : b < 2 ^ 63 → b / 2 ^ 52 ≡ 2047
    field h = omega arith

    digits : b < 2 ^ 63 → b % 2 ^ 52 ≡ 0 → ⊥
    digits h e = omega arith

    field_lt : b % 2 ^ 63 / 2 ^ 52 < 2048
    field_lt = omega arith

    some : 2 ^ 63 ≤ b → b % 2 ^ 63 / 2 ^ 52 ≡ 0 → 0 < b % 2 ^ 52
    some h e = omega arith

    go : (s : Bool) → (T s → 2 ^ 63 ≤ b) → (T (not s) → b < 2 ^ 63) → sqrt_of (of_bits binary64 b) ≡ nan
    go true h k =
        ap sqrt_of (of_bits_is b ∙ ap (λ (s : Bool). of_fields binary64 s (b % 2 ^ 63 / 2 ^ 52) (b % 2 ^ 52)) (is_true (leb (2 ^ 63) b) (le→leb (2 ^ 63) b (h tt))))
        ∙ minus_fields (b % 2 ^ 63 / 2 ^ 52) (b % 2 ^ 52) field_lt (some (h tt))
    go false h k =
        ap sqrt_of
        (plus b (k tt)
        ∙ ap (λ (x : ℕ). of_fields binary64 false x (b % 2 ^ 52)) (field (k tt))
        ∙ at_ones false (b % 2 ^ 52)
        ∙ cond_no (eqb (b % 2 ^ 52) 0) (inf false) nan (not_T (eqb (b % 2 ^ 52) 0) (λ (u : T (eqb (b % 2 ^ 52) 0)). digits (k tt) (eqb→eq (b % 2 ^ 52) 0 u))))
        ∙ root_nan

-- the three patterns whose float is its own root
own : (b : ℕ) (x : Float) → T (fits binary64 x) → to_bits binary64 x ≡ b → of_bits binary64 b ≡ sqrt_of (of_bits binary64 b) → x ≡ sqrt_of x
own b x f e h = subst (λ (v : Float). v ≡ sqrt_of v) (ap (of_bits binary64) (sym e) ∙ of_bits-to_bits binary64 x f) h

pub own_inf : (x : Float) → T (fits binary64 x) → to_bits binary64 x ≡ 0x7ff0_0000_0000_0000 → x ≡ sqrt_of x
unfolding of_bits sqrt_of
own_inf x f e = own 0x7ff0_0000_0000_0000 x f e refl

pub own_minus_zero : (x : Float) → T (fits binary64 x) → to_bits binary64 x ≡ 0x8000_0000_0000_0000 → x ≡ sqrt_of x
unfolding of_bits sqrt_of
own_minus_zero x f e = own 0x8000_0000_0000_0000 x f e refl

pub own_zero : (x : Float) → T (fits binary64 x) → to_bits binary64 x ≡ 0 → x ≡ sqrt_of x
unfolding of_bits sqrt_of
own_zero x f e = own 0 x f e refl

pub own_nan : (x : Float) → x ≡ nan → x ≡ sqrt_of x
unfolding sqrt_of
own_nan x e = subst (λ (v : Float). v ≡ sqrt_of v) (sym e) refl

pub by_bits : (x y : Float) → T (fits binary64 x) → y ≡ sqrt_of (of_bits binary64 (to_bits binary64 x)) → y ≡ sqrt_of x
by_bits x y f e = e ∙ ap sqrt_of (of_bits-to_bits binary64 x f)
