-- The root of a double beside 1 is half as far from 1, rounded away from the greater side. Assumes nothing.
use Rattle.std.proofs.Common.{◌≡◌, ℕ, zero, suc, ◌+◌, ◌-◌, ◌*◌, ◌/◌, ◌%◌, ◌^◌, ◌<◌, ◌≤◌, Bool, true, false, not, T, ltb, sym, refl, ap, ◌∙◌, subst, mul-le-mul_left, mul-add, arith, ltb→lt, nltb→le}
use lib.Ieee.{binary64, of_bits}
use Rattle.doubles.specs.Root.{sqrt_of}
use Rattle.doubles.proofs.Squares.{NearRoot, product_lt, square_of}
use Rattle.doubles.proofs.Whole.{nearest_of}
use Rattle.doubles.proofs.Roots.{normal_root}

-- from 1 up: k digits above, h is half of k
above : (k h hh qq : ℕ) → k / 2 ≡ h → hh < 2 ^ 52 → qq ≡ 1 * 1 * (2 ^ 52 * 2 ^ 52) + 1 * h * (2 ^ 52 + 2 ^ 52) + hh → (qq < (2 ^ 52 + k) * 2 ^ 52 + (1 * 2 ^ 52 + h)) × ((2 ^ 52 + k) * 2 ^ 52 ≤ qq + (1 * 2 ^ 52 + h))
above k h hh qq e s p = (omega arith, omega arith)

near_above : (k h : ℕ) → k / 2 ≡ h → h < 2 ^ 26 → NearRoot ((2 ^ 52 + k) * 2 ^ 52) (1 * 2 ^ 52 + h)
near_above k h e s =
    let p : h * h < 2 ^ 52 = product_lt 26 26 s s in
    let a = above k h (h * h) ((1 * 2 ^ 52 + h) * (1 * 2 ^ 52 + h)) e p (square_of (2 ^ 52) 1 h) in
    record { over = a.0; under = a.1 }

-- below 1: k digits below, h is half of k, rounded up
square_below : (h hh hq qq : ℕ) → h * 2 ^ 53 ≡ hq + hh → 2 ^ 53 * 2 ^ 53 ≡ 1 * 1 * qq + (hq + hq) + hh → qq + 2 ^ 54 * h ≡ 2 ^ 106 + hh
square_below h hh hq qq a b = omega arith

over_by : (n H K hh q qq : ℕ) → qq + H ≡ n + hh → K ≤ H → hh < q → K ≤ n → qq < n - K + q
over_by n H K hh q qq a b c d = omega arith

over_below : (k h hh q qq : ℕ) → (k + 1) / 2 ≡ h → hh < 2 ^ 52 → h < 2 ^ 26 → q + h ≡ 2 ^ 53 → qq + 2 ^ 54 * h ≡ 2 ^ 106 + hh → qq < 2 ^ 106 - k * 2 ^ 53 + q
over_below k h hh q qq e s c p a =
    let t : k ≤ h + h = omega arith in
    over_by (2 ^ 106) (2 ^ 54 * h) (k * 2 ^ 53) hh q qq a (more k h t) (room h hh q s c p) (few k h t c)
  where
    more : (k h : ℕ) → k ≤ h + h → k * 2 ^ 53 ≤ 2 ^ 54 * h
    more k h t = omega arith

    room : (h hh q : ℕ) → hh < 2 ^ 52 → h < 2 ^ 26 → q + h ≡ 2 ^ 53 → hh < q
    room h hh q s c p = omega arith

    few : (k h : ℕ) → k ≤ h + h → h < 2 ^ 26 → k * 2 ^ 53 ≤ 2 ^ 106
    few k h t c = omega arith

under_below : (k h hh q qq : ℕ) → (k + 1) / 2 ≡ h → h ≤ hh → h < 2 ^ 26 → q + h ≡ 2 ^ 53 → qq + 2 ^ 54 * h ≡ 2 ^ 106 + hh → 2 ^ 106 - k * 2 ^ 53 ≤ qq + q
under_below k h hh q qq e l c p a = omega arith

square_is : (q h : ℕ) → q + h ≡ 2 ^ 53 → q * q + 2 ^ 54 * h ≡ 2 ^ 106 + h * h
square_is q h p =
    let one : 1 * h ≡ h = omega arith in
    let whole : 2 ^ 53 ≡ 1 * q + h = omega arith in
    let twice : 1 * h * (q + q) ≡ h * q + h * q = ap (λ (x : ℕ). x * (q + q)) one ∙ mul-add h q q in
    square_below h (h * h) (h * q) (q * q)
    (ap (λ (x : ℕ). h * x) (sym p) ∙ mul-add h q h)
    (ap (λ (x : ℕ). x * x) whole ∙ square_of q 1 h ∙ ap (λ (x : ℕ). 1 * 1 * (q * q) + x + h * h) twice)

at_least : (h : ℕ) → h ≤ h * h
at_least zero = omega arith
at_least (suc h) =
    let p : suc h * 1 ≤ suc h * suc h = mul-le-mul_left (suc h) (omega arith) in
    let e : suc h * 1 ≡ suc h = omega arith in
    rw e at p

near_below : (k h q : ℕ) → (k + 1) / 2 ≡ h → h < 2 ^ 26 → q + h ≡ 2 ^ 53 → NearRoot (2 ^ 106 - k * 2 ^ 53) q
near_below k h q e c p =
    record {
      over = over_below k h (h * h) q (q * q) e (product_lt 26 26 c c) c p (square_is q h p);
      under = under_below k h (h * h) q (q * q) e (at_least h) c p (square_is q h p);
    }

-- ---- by the patterns

abbrev one : ℕ
one = 0x3ff0_0000_0000_0000

root_above : (b : ℕ) → one ≤ b → b < one + 2 ^ 26 → of_bits binary64 (one + (b - one) / 2) ≡ sqrt_of (of_bits binary64 b)
root_above b lo hi =
    let k = b - one in
    let even : (b / 2 ^ 52 + 1) % 2 ≡ 0 = omega arith in
    let digits : ((b % 2 ^ 52 + 2 ^ 52) * 2 ^ ((b / 2 ^ 52 + 1) % 2)) % 2 ^ 64 ≡ 2 ^ 52 + k = rw even (omega arith) in
    let place : one + k / 2 ≡ (b / 2 ^ 52 + 1021) / 2 * 2 ^ 52 + (1 * 2 ^ 52 + k / 2) = omega arith in
    ap (of_bits binary64) place
    ∙ normal_root b (omega arith) (omega arith) (1 * 2 ^ 52 + k / 2)
    (nearest_of _ _ (subst (λ (m : ℕ). NearRoot (m * 2 ^ 52) (1 * 2 ^ 52 + k / 2)) (sym digits) (near_above k (k / 2) refl (omega arith))))

whole_below : (k : ℕ) → k ≤ 2 ^ 26 → (2 ^ 53 - k) * 2 * 2 ^ 52 ≡ 2 ^ 106 - k * 2 ^ 53
whole_below k h = omega arith

root_below : (b : ℕ) → one ≤ b + 2 ^ 26 → b < one → of_bits binary64 (one - (one - b + 1) / 2) ≡ sqrt_of (of_bits binary64 b)
root_below b lo hi =
    let k = one - b in
    let h = (k + 1) / 2 in
    let odd : (b / 2 ^ 52 + 1) % 2 ≡ 1 = omega arith in
    let digits : ((b % 2 ^ 52 + 2 ^ 52) * 2 ^ ((b / 2 ^ 52 + 1) % 2)) % 2 ^ 64 ≡ (2 ^ 53 - k) * 2 = rw odd (omega arith) in
    let place : one - h ≡ (b / 2 ^ 52 + 1021) / 2 * 2 ^ 52 + (2 ^ 53 - h) = omega arith in
    ap (of_bits binary64) place
    ∙ normal_root b (omega arith) (omega arith) (2 ^ 53 - h)
    (nearest_of _ _ (subst (λ (w : ℕ). NearRoot w (2 ^ 53 - h)) (sym (ap (λ (m : ℕ). m * 2 ^ 52) digits ∙ whole_below k (omega arith))) (near_below k h (2 ^ 53 - h) refl (omega arith) (omega arith))))

-- both at once
middle_below : (b : ℕ) → b < one → (b + one) / 2 ≡ one - (one - b + 1) / 2
middle_below b h = omega arith

middle_above : (b : ℕ) → one ≤ b → (b + one) / 2 ≡ one + (b - one) / 2
middle_above b h = omega arith

pub root_beside : (b : ℕ) → one ≤ b + 2 ^ 26 → b < one + 2 ^ 26 → of_bits binary64 ((b + one) / 2) ≡ sqrt_of (of_bits binary64 b)
root_beside b lo hi = go (ltb b one) (ltb→lt b one) (nltb→le b one)
  where
    go : (t : Bool) → (T t → b < one) → (T (not t) → one ≤ b) → of_bits binary64 ((b + one) / 2) ≡ sqrt_of (of_bits binary64 b)
    go true p q = ap (of_bits binary64) (middle_below b (p tt)) ∙ root_below b lo (p tt)
    go false p q = ap (of_bits binary64) (middle_above b (q tt)) ∙ root_above b (q tt) hi
