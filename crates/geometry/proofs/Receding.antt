-- A sphere that a ray runs away from, from outside it, is not met: with b above 0 and c not below 0 both roots are at most 0. Assumes nothing.
use Rattle.std.specs.Prelude.{Option, None, Some}
use Prim.Native.Nat.{ℕ, zero, suc, ◌+◌, ◌-◌, ◌*◌, ◌/◌, ◌%◌, ◌^◌, ◌≤◌, ◌<◌}
use native.Mathlib.Nat.{le_trans, le_of_eq, mul_assoc, mul_right_comm, mul-le-mul_right, mul-pos, zero-mul, zero-lt-suc}
use native.Mathlib.Omega.{arith}
use mathlib.Core.Path.{◌≡◌, refl, sym, ap, ◌∙◌, subst}
use mathlib.Core.Logic.{◌⊎◌, inl, inr}
use mathlib.Core.Bool.{Bool, true, false, not, cond, ◌&&◌, true≢false}
use lib.Dec.{T, ltb, leb, eqb, ltb→lt, leb→le, nltb→le, eqb→eq}
use lib.IntN.{ℤ, pos, negsuc}
use lib.Pow.{pow_pos}
use borrow.Author.Tests.{le-ltb}
use lib.Ieee.{Float, nan, inf, fin, binary64, up, down, round, sum, add, sub, mul, div, neg, lt, of_bits, to_bits, fits}
use lib.Ieee.Exact.{HasValue, odd_sign}
use lib.Ieee.Bits.{of_bits-to_bits}
use lib.Ieee.Fits.{up_pos, down_pos, mul-fits}
use lib.Ieee.Order.{transfer}
use lib.Ieee.Scale.{round_same, round_val}
use Rattle.doubles.specs.Root.{sqrt_in, sqrt_of}
use Rattle.doubles.specs.Doubles.{abs_of, #2, #4, #0}
use Rattle.doubles.proofs.Rounding.{square_is}
use Rattle.doubles.proofs.Patterns.{normal}
use Rattle.rays.specs.declared.vector.Vec3.{Vec3}
use Rattle.rays.specs.declared.Ray.{Ray}
use Rattle.rays.specs.Vectors.{dot_of}
use Rattle.rays.specs.Rays.{min_local_distance}
use Rattle.geometry.specs.declared.LocalHit.{LocalHit}
use Rattle.geometry.specs.declared.round.Roots.{Roots}
use Rattle.geometry.specs.Hits.{first_there}
use Rattle.geometry.specs.Round.{solve_of, sphere_at_of, sphere_among_of, intersect_sphere_of}
use Rattle.geometry.specs.Away.{is_away_of}
use Rattle.geometry.proofs.Signs.{Signed, under, round_signed, signed_under, suc_not_zero, cond_no, near_is}
use Rattle.geometry.proofs.Squares.{L, squared, squared_most, RootMost, root-of}
use Rattle.doubles.proofs.Floats.{and_left, and_right}

abbrev two : Float → Float → Option Roots
two t1 t2 = Some (record { first = t1; second = t2 })

-- ---- not negative, or no number at all

abbrev pub Above : Float → Type 0
Above nan = Unit
Above (inf s) = s ≡ false
Above (fin s m e) = s ≡ false

signed_above : (x : Float) → Signed false x → Above x
signed_above nan h = absurd h
signed_above (inf s) h = h
signed_above (fin s m e) h = h

above_cond : (b : Bool) (x y : Float) → Above x → Above y → Above (cond b x y)
above_cond true x y p q = p
above_cond false x y p q = q

pub above_mul : (x y : Float) → Above x → Above y → Above (mul binary64 x y)
unfolding mul
above_mul nan y p q = tt
above_mul (inf s) nan p q = tt
above_mul (inf true) (inf t) p q = absurd (true≢false p)
above_mul (inf false) (inf true) p q = absurd (true≢false q)
above_mul (inf false) (inf false) p q = refl
above_mul (inf true) (fin t n d) p q = absurd (true≢false p)
above_mul (inf false) (fin true n d) p q = absurd (true≢false q)
above_mul (inf false) (fin false n d) p q = above_cond (eqb n 0) nan (inf false) tt refl
above_mul (fin s m e) nan p q = tt
above_mul (fin true m e) (inf t) p q = absurd (true≢false p)
above_mul (fin false m e) (inf true) p q = absurd (true≢false q)
above_mul (fin false m e) (inf false) p q = above_cond (eqb m 0) nan (inf false) tt refl
above_mul (fin true m e) (fin t n d) p q = absurd (true≢false p)
above_mul (fin false m e) (fin true n d) p q = absurd (true≢false q)
above_mul (fin false m e) (fin false n d) p q = signed_above (round binary64 false (m * up e * (n * up d)) (down e * down d)) (round_signed false (m * up e * (n * up d)) (down e * down d))

pub above_square : (x : Float) → Above (mul binary64 x x)
unfolding mul
above_square nan = tt
above_square (inf true) = refl
above_square (inf false) = refl
above_square (fin true m e) = signed_above (round binary64 false (m * up e * (m * up e)) (down e * down e)) (round_signed false (m * up e * (m * up e)) (down e * down e))
above_square (fin false m e) = signed_above (round binary64 false (m * up e * (m * up e)) (down e * down e)) (round_signed false (m * up e * (m * up e)) (down e * down e))

pub above_add : (x y : Float) → Above x → Above y → Above (add binary64 x y)
unfolding add sum
above_add nan y p q = tt
above_add (inf s) nan p q = tt
above_add (inf true) (inf t) p q = absurd (true≢false p)
above_add (inf false) (inf true) p q = absurd (true≢false q)
above_add (inf false) (inf false) p q = refl
above_add (inf s) (fin t n d) p q = p
above_add (fin s m e) nan p q = tt
above_add (fin s m e) (inf t) p q = q
above_add (fin true m e) (fin t n d) p q = absurd (true≢false p)
above_add (fin false m e) (fin true n d) p q = absurd (true≢false q)
above_add (fin false m e) (fin false n d) p q = signed_above (round binary64 false (m * up e * down d + n * up d * down e) (down e * down d)) (round_signed false (m * up e * down d + n * up d * down e) (down e * down d))

-- ---- at most 0, or no number at all

abbrev pub low : Float → Bool
low nan = true
low (inf s) = s
low (fin true m e) = true
low (fin false zero e) = true
low (fin false (suc m) e) = false

under_low : (x : Float) → T (under x) → T (low x)
under_low nan h = absurd h
under_low (inf s) h = h
under_low (fin true m e) h = tt
under_low (fin false zero e) h = tt
under_low (fin false (suc m) e) h = absurd h

low_cond : (b : Bool) (x y : Float) → T (low x) → T (low y) → T (low (cond b x y))
low_cond true x y p q = p
low_cond false x y p q = q

round_low : (a c : ℕ) → T (low (round binary64 true a c))
round_low a c = under_low (round binary64 true a c) (signed_under (round binary64 true a c) (round_signed true a c))

zero_round : round binary64 false 0 1 ≡ fin false 0 (pos 0)
unfolding round
zero_round = refl

zero_low : (a c : ℕ) → a ≡ 0 → 0 < c → T (low (round binary64 false a c))
zero_low a c e p =
    subst (λ (x : Float). T (low x))
    (sym (ap (λ (n : ℕ). round binary64 false n c) e ∙ round_same binary64 false 0 c 0 1 p (pow_pos 0) (zero-mul 1 ∙ sym (zero-mul c)) ∙ zero_round)) tt

-- -b plus what is no larger than b
low_sum : (m : ℕ) (e : ℤ) (t : Bool) (n : ℕ) (d : ℤ) → n * up d * down e ≤ m * up e * down d → T (low (add binary64 (fin true m e) (fin t n d)))
unfolding add sum
low_sum m e true n d h = round_low (m * up e * down d + n * up d * down e) (down e * down d)
low_sum m e false n d h =
    subst (λ (x : Bool). T (low (cond x (round binary64 false (B - A) C) (round binary64 (true && ltb B A) (A - B) C)))) (sym (le-ltb A B h))
    (go (ltb B A) (nltb→le B A))
  where
    A : ℕ
    A = m * up e * down d

    B : ℕ
    B = n * up d * down e

    C : ℕ
    C = down e * down d

    nothing : (a b : ℕ) → a ≤ b → a - b ≡ 0
    nothing a b h = omega arith

    go : (x : Bool) → (T (not x) → A ≤ B) → T (low (round binary64 (true && x) (A - B) C))
    go true g = round_low (A - B) C
    go false g = zero_low (A - B) C (nothing A B (g tt)) (mul-pos (down_pos e) (down_pos d))

low_div : (x y : Float) → T (low x) → Above y → T (low (div binary64 x y))
unfolding div
low_div nan y p q = tt
low_div (inf false) y p q = absurd p
low_div (inf true) nan p q = tt
low_div (inf true) (inf t) p q = tt
low_div (inf true) (fin true n d) p q = absurd (true≢false q)
low_div (inf true) (fin false n d) p q = tt
low_div (fin false (suc m) e) y p q = absurd p
low_div (fin false zero e) nan p q = tt
low_div (fin false zero e) (inf true) p q = absurd (true≢false q)
low_div (fin false zero e) (inf false) p q = tt
low_div (fin false zero e) (fin true n d) p q = absurd (true≢false q)
low_div (fin false zero e) (fin false zero d) p q = tt
low_div (fin false zero e) (fin false (suc n) d) p q =
    subst (λ (x : Float). T (low x)) (sym (cond_no (eqb (suc n) 0) nan (round binary64 false (0 * up e * down d) (suc n * up d * down e)) (suc_not_zero n)))
    (zero_low (0 * up e * down d) (suc n * up d * down e) (ap (λ (x : ℕ). x * down d) (zero-mul (up e)) ∙ zero-mul (down d)) (mul-pos (mul-pos (zero-lt-suc n) (up_pos d)) (down_pos e)))
low_div (fin true m e) nan p q = tt
low_div (fin true m e) (inf true) p q = absurd (true≢false q)
low_div (fin true m e) (inf false) p q = tt
low_div (fin true m e) (fin true n d) p q = absurd (true≢false q)
low_div (fin true m e) (fin false n d) p q =
    low_cond (eqb n 0) (cond (eqb m 0) nan (inf true)) (round binary64 true (m * up e * down d) (n * up d * down e))
    (low_cond (eqb m 0) nan (inf true) tt tt) (round_low (m * up e * down d) (n * up d * down e))

low_near_is : (t : Float) → T (low t) → lt (fin false 0x112e0be826d695 (negsuc 81)) t ≡ false
unfolding lt
low_near_is nan h = refl
low_near_is (inf true) h = refl
low_near_is (inf false) h = absurd h
low_near_is (fin true m e) h = refl
low_near_is (fin false zero e) h = nothing_below (0x112e0be826d695 * 1 * down e) (up e) (2 ^ 82)
  where
    nothing_below : (a b c : ℕ) → ltb a (0 * b * c) ≡ false
    nothing_below a b c = ap (λ (n : ℕ). ltb a (n * c)) (zero-mul b) ∙ ap (λ (n : ℕ). ltb a n) (zero-mul c) ∙ le-ltb a 0 (least a)
      where
        least : (a : ℕ) → 0 ≤ a
        least a = omega arith
low_near_is (fin false (suc m) e) h = absurd h

pub not_ahead : (t : Float) → T (low t) → lt min_local_distance t ≡ false
not_ahead t h = subst (λ (x : Float). lt x t ≡ false) (sym near_is) (low_near_is t h)

-- ---- the choice among the roots

two_above : Above #2
unfolding of_bits
two_above = refl

four_above : Above #4
unfolding of_bits
four_above = refl

nothing_among : (radius : Float) (r : Ray) (t : Bool) (x : Option Roots) → t ≡ true → sphere_among_of radius r (cond t None x) ≡ None
unfolding sphere_among_of
nothing_among radius r true x e = refl
nothing_among radius r false x e = absurd (true≢false (sym e))

low_among : (radius : Float) (r : Ray) (t : Bool) (t1 t2 : Float) → T (low t1) → T (low t2) → sphere_among_of radius r (cond t None (two t1 t2)) ≡ None
unfolding sphere_among_of sphere_at_of first_there
low_among radius r true t1 t2 p q = refl
low_among radius r false t1 t2 p q = rw (not_ahead t1 p, not_ahead t2 q)

-- ---- with b = M units, of 53 digits, neither very small nor very large

module _ (m j : ℕ) (lo : 2 ^ 52 ≤ m) (hi : m < 2 ^ 53) (least : 511 ≤ j) (most : j ≤ 1278) (b : Float) (is : HasValue b false (m * 2 ^ j) L) where
  abbrev bb : Float
  bb = mul binary64 b b

  square_value : HasValue bb false (squared (m * 2 ^ j)) L
  square_value =
      subst (λ (x : Float). HasValue x false (squared (m * 2 ^ j)) L) (sym (square_is b false (m * 2 ^ j) is))
      (round_val binary64 (m * 2 ^ j * (m * 2 ^ j)) (L * L) (squared_most m j lo hi least most))

  -- a root no larger than b, or no number
  abbrev Small : Float → Type 0
  Small nan = Unit
  Small (inf s) = ⊥
  Small (fin s n d) = n * up d * L ≤ m * 2 ^ j * down d

  most_small : (q : Float) → RootMost m j lo hi least most q → Small q
  most_small nan (r, (v, h)) = absurd v
  most_small (inf s) (r, (v, h)) = absurd v
  most_small (fin s n d) (r, (v, h)) = le_trans (le_of_eq v.1) (mul-le-mul_right (down d) h)

  small_cond : (t : Bool) (x y : Float) → (t ≡ true → Small x) → Small y → Small (cond t x y)
  small_cond true x y p q = p refl
  small_cond false x y p q = q

  negative_small : (x : Float) → Signed true x → Small (sqrt_of x)
  unfolding sqrt_of sqrt_in
  negative_small nan h = tt
  negative_small (inf true) h = tt
  negative_small (inf false) h = absurd (true≢false (sym h))
  negative_small (fin false n d) h = absurd (true≢false (sym h))
  negative_small (fin true n d) h = small_cond (eqb n 0) (fin true n d) nan (λ (e : eqb n 0 ≡ true). zero-small n (eqb→eq n 0 (subst T (sym e) tt))) tt
    where
      zero-small : (n : ℕ) → n ≡ 0 → n * up d * L ≤ m * 2 ^ j * down d
      zero-small n e = subst (λ (x : ℕ). x ≤ m * 2 ^ j * down d) (sym (ap (λ (x : ℕ). x * up d * L) e ∙ ap (λ (x : ℕ). x * L) (zero-mul (up d)) ∙ zero-mul L)) (nothing (m * 2 ^ j * down d))
        where
          nothing : (x : ℕ) → 0 ≤ x
          nothing x = omega arith

  -- b * b less what is not negative: below 0, or with such a root
  abbrev Few : Float → Type 0
  Few x = (lt x #0 ≡ true) ⊎ Small (sqrt_of x)

  few_fin : (x : Float) (n : ℕ) (d : ℤ) → HasValue x false (squared (m * 2 ^ j)) L → Few (sub binary64 x (fin false n d))
  unfolding sub add neg sum
  few_fin nan n d v = absurd v
  few_fin (inf s) n d v = absurd v
  few_fin (fin true X x) n d v = absurd (true≢false v.0)
  few_fin (fin false X x) n d v = go (ltb A B)
    where
      A : ℕ
      A = X * up x * down d

      B : ℕ
      B = n * up d * down x

      C : ℕ
      C = down x * down d

      less : (a b : ℕ) → a - b ≤ a
      less a b = omega arith

      level : (X k D l s : ℕ) → X * l ≡ s * k → X * D * l ≡ s * (k * D)
      level X k D l s e = mul_right_comm X D l ∙ ap (λ (z : ℕ). z * D) e ∙ mul_assoc s k D

      under-square : (A - B) * L ≤ squared (m * 2 ^ j) * C
      under-square = le_trans (mul-le-mul_right L (less A B)) (le_of_eq (level (X * up x) (down x) (down d) L (squared (m * 2 ^ j)) v.1))

      go : (t : Bool) → Few (cond t (round binary64 true (B - A) C) (round binary64 (false && ltb B A) (A - B) C))
      go true = inr (negative_small (round binary64 true (B - A) C) (round_signed true (B - A) C))
      go false = inr (most_small (sqrt_of (round binary64 false (A - B) C)) (root-of m j lo hi least most (A - B) C (mul-pos (down_pos x) (down_pos d)) under-square))

  few_inf : (x : Float) → HasValue x false (squared (m * 2 ^ j)) L → lt (sub binary64 x (inf false)) #0 ≡ true
  unfolding sub add neg lt of_bits
  few_inf nan v = absurd v
  few_inf (inf s) v = absurd v
  few_inf (fin s n d) v = refl

  few_nan : (x : Float) → HasValue x false (squared (m * 2 ^ j)) L → Small (sqrt_of (sub binary64 x nan))
  unfolding sub add neg sqrt_of sqrt_in
  few_nan nan v = absurd v
  few_nan (inf s) v = absurd v
  few_nan (fin s n d) v = tt

  few : (p : Float) → Above p → Few (sub binary64 bb p)
  few nan h = inr (few_nan bb square_value)
  few (inf true) h = absurd (true≢false h)
  few (inf false) h = inl (few_inf bb square_value)
  few (fin true n d) h = absurd (true≢false h)
  few (fin false n d) h = few_fin bb n d square_value

  -- the two numerators
  low_both : (x q : Float) → HasValue x false (m * 2 ^ j) L → Small q → T (low (sub binary64 (neg x) q)) × T (low (add binary64 (neg x) q))
  unfolding sub neg
  low_both nan q v h = absurd v
  low_both (inf s) q v h = absurd v
  low_both (fin true n d) q v h = absurd (true≢false v.0)
  low_both (fin false n d) (inf s) v h = absurd h
  low_both (fin false n d) nan v h = (unfold add in tt, unfold add in tt)
  low_both (fin false n d) (fin s k e) v h =
      let c : k * up e * down d ≤ n * up d * down e = transfer (k * up e) (n * up d) (down e) (down d) (k * up e) (m * 2 ^ j) (down e) L (down_pos e) (pow_pos 1074) refl v.1 h in
      (low_sum n d (not s) k e c, low_sum n d s k e c)

  pub not_met : (a c radius : Float) (r : Ray) → Above a → Above c → sphere_among_of radius r (solve_of a b c) ≡ None
  unfolding solve_of
  not_met a c radius r p q = go (few prod (above_mul (mul binary64 #4 a) c (above_mul #4 a four_above p) q))
    where
      prod : Float
      prod = mul binary64 (mul binary64 #4 a) c

      root : Float
      root = sqrt_of (sub binary64 bb prod)

      twice : Float
      twice = mul binary64 #2 a

      go : Few (sub binary64 bb prod) → sphere_among_of radius r (cond (lt (sub binary64 bb prod) #0) None (two (div binary64 (sub binary64 (neg b) root) twice) (div binary64 (add binary64 (neg b) root) twice))) ≡ None
      go (inl e) = nothing_among radius r (lt (sub binary64 bb prod) #0) (two (div binary64 (sub binary64 (neg b) root) twice) (div binary64 (add binary64 (neg b) root) twice)) e
      go (inr h) =
          let l = low_both b root is h in
          let t = above_mul #2 a two_above p in
          low_among radius r (lt (sub binary64 bb prod) #0) (div binary64 (sub binary64 (neg b) root) twice) (div binary64 (add binary64 (neg b) root) twice)
          (low_div (sub binary64 (neg b) root) twice l.0 t) (low_div (add binary64 (neg b) root) twice l.1 t)

-- ---- the same by the bits of b

pattern_value : (k : ℕ) → 2 ^ 52 ≤ k → k < 0x7ff0_0000_0000_0000 → HasValue (of_bits binary64 k) false ((2 ^ 52 + k % 2 ^ 52) * 2 ^ (k / 2 ^ 52 - 1)) L
pattern_value k lo hi =
    subst (λ (x : Float). HasValue x false ((2 ^ 52 + k % 2 ^ 52) * 2 ^ (k / 2 ^ 52 - 1)) L) (sym (normal k lo hi))
    (odd_sign 53 false (2 ^ 52 + k % 2 ^ 52) (k / 2 ^ 52 - 1) 1074)

pub by_bits : (k : ℕ) → 0x2000_0000_0000_0000 ≤ k → k < 0x5000_0000_0000_0000 → (b : Float) → T (fits binary64 b) → k ≡ to_bits binary64 b → (a c radius : Float) (r : Ray) → Above a → Above c → sphere_among_of radius r (solve_of a b c) ≡ None
by_bits k lo hi b f e =
    not_met (2 ^ 52 + k % 2 ^ 52) (k / 2 ^ 52 - 1) (digits k) (digits_most k) (field k lo) (field-most k hi) b
    (subst (λ (x : Float). HasValue x false ((2 ^ 52 + k % 2 ^ 52) * 2 ^ (k / 2 ^ 52 - 1)) L) (ap (of_bits binary64) e ∙ of_bits-to_bits binary64 b f)
    (pattern_value k (over k lo) (beneath k hi)))
  where
    digits : (k : ℕ) → 2 ^ 52 ≤ 2 ^ 52 + k % 2 ^ 52
    digits k = omega arith

    digits_most : (k : ℕ) → 2 ^ 52 + k % 2 ^ 52 < 2 ^ 53
    digits_most k = omega arith

    field : (k : ℕ) → 0x2000_0000_0000_0000 ≤ k → 511 ≤ k / 2 ^ 52 - 1
    field k h = omega arith

    field-most : (k : ℕ) → k < 0x5000_0000_0000_0000 → k / 2 ^ 52 - 1 ≤ 1278
    field-most k h = omega arith

    over : (k : ℕ) → 0x2000_0000_0000_0000 ≤ k → 2 ^ 52 ≤ k
    over k h = omega arith

    beneath : (k : ℕ) → k < 0x5000_0000_0000_0000 → k < 0x7ff0_0000_0000_0000
    beneath k h = omega arith

-- ---- the sphere

positive_above : (c : Float) → lt #0 c ≡ true → Above c
unfolding lt of_bits
positive_above nan e = tt
positive_above (inf true) e = absurd (true≢false (sym e))
positive_above (inf false) e = refl
positive_above (fin true n d) e = absurd (true≢false (sym e))
positive_above (fin false n d) e = refl

dot_above : (v : Vec3) → Above (dot_of v v)
unfolding dot_of
dot_above v =
    above_add (add binary64 (mul binary64 v.x v.x) (mul binary64 v.y v.y)) (mul binary64 v.z v.z)
    (above_add (mul binary64 v.x v.x) (mul binary64 v.y v.y) (above_square v.x) (above_square v.y)) (above_square v.z)

away_none : (b c : Float) → T (fits binary64 b) → is_away_of b c ≡ true → (a radius : Float) (r : Ray) → Above a → sphere_among_of radius r (solve_of a b c) ≡ None
unfolding is_away_of
away_none b c f e a radius r p =
    let k = to_bits binary64 b in
    let left = and_left (lt #0 c && leb 0x2000000000000000 k) (ltb k 0x5000000000000000) e in
    by_bits k (leb→le 0x2000000000000000 k (subst T (sym (and_right (lt #0 c) (leb 0x2000000000000000 k) left)) tt))
    (ltb→lt k 0x5000000000000000 (subst T (sym (and_right (lt #0 c && leb 0x2000000000000000 k) (ltb k 0x5000000000000000) e)) tt)) b f refl a c radius r p
    (positive_above c (and_left (lt #0 c) (leb 0x2000000000000000 k) left))

-- the sign of a radius is lost in its square
pub abs_square : (x : Float) → mul binary64 (abs_of x) (abs_of x) ≡ mul binary64 x x
unfolding abs_of mul
abs_square nan = refl
abs_square (inf true) = refl
abs_square (inf false) = refl
abs_square (fin true m e) = refl
abs_square (fin false m e) = refl

pub sphere_passed : (radius : Float) (r : Ray) (x o2 : Float) (t : Bool) → x ≡ dot_of r.origin r.direction → o2 ≡ dot_of r.origin r.origin → t ≡ is_away_of (mul binary64 #2 x) (sub binary64 o2 (mul binary64 radius radius)) → t ≡ true → None ≡ intersect_sphere_of radius r
unfolding intersect_sphere_of
sphere_passed radius r x o2 t ex eo et e =
    sym
    (away_none (mul binary64 #2 (dot_of r.origin r.direction)) (sub binary64 (dot_of r.origin r.origin) (mul binary64 (abs_of radius) (abs_of radius)))
    (mul-fits binary64 #2 (dot_of r.origin r.direction))
    (ap (λ (y : Float). is_away_of (mul binary64 #2 y) (sub binary64 (dot_of r.origin r.origin) (mul binary64 (abs_of radius) (abs_of radius)))) (sym ex)
    ∙ ap (λ (y : Float). is_away_of (mul binary64 #2 x) (sub binary64 y (mul binary64 (abs_of radius) (abs_of radius)))) (sym eo)
    ∙ ap (λ (y : Float). is_away_of (mul binary64 #2 x) (sub binary64 o2 y)) (abs_square radius)
    ∙ sym et ∙ e)
    (dot_of r.direction r.direction) (abs_of radius) r (dot_above r.direction))

-- the sphere by its roots
pub sphere_rooted : (radius s : Float) (r : Ray) (a x o2 : Float) (k : Option Roots) (h : Option LocalHit) → s ≡ abs_of radius → a ≡ dot_of r.direction r.direction → x ≡ dot_of r.origin r.direction → o2 ≡ dot_of r.origin r.origin → k ≡ solve_of a (mul binary64 #2 x) (sub binary64 o2 (mul binary64 radius radius)) → h ≡ sphere_among_of s r k → h ≡ intersect_sphere_of radius r
unfolding intersect_sphere_of
sphere_rooted radius s r a x o2 k h es ea ex eo ek eh = rw (eh, ek, es, ea, ex, eo, ← abs_square radius)
