-- What the small functions lean on: the sign's bit, the finite test and `as usize`. Assumes nothing.
use Rattle.std.proofs.Common.{◌≡◌, ℕ, zero, suc, ◌+◌, ◌-◌, ◌*◌, ◌/◌, ◌%◌, ◌^◌, ◌<◌, ◌≤◌, min, Bool, true, false, cond, not, ◌&&◌, T, eqb, ltb, leb, pos, sym, refl, ap, ◌∙◌, subst, le_refl, lt_irrefl, mul-pos, le-div_iff_mul-le, zero-mul, mul-one, arith, le→leb, lt→ltb, leb→le, nltb→le, pow_pos, le-ltb}
use native.Mathlib.Nat.{sub_self}
use lib.Ieee.{Float, nan, inf, fin, binary64, up, down, odd, of_fields, of_bits, to_bits, fits, is_nan, nan_bits, lt, eq, level, add, sub, neg, sum, round, to_unsigned, in_float}
use lib.Ieee.Bits.{is_true, of_bits-to_bits, nan_bits_is, nan_bits_above}
use lib.Ieee.Fits.{down_pos}
use lib.Ieee.Exact.{HasValue, round_exact}
use lib.Ieee.Scale.{round_same}
use Rattle.doubles.specs.Doubles.{abs_of, is_finite_of}
use Rattle.doubles.proofs.Floats.{clash}
use Rattle.doubles.proofs.Patterns.{of_bits_is}

clash' : false ≡ true → ⊥
clash' e = clash (sym e)

-- ---- abs

pub abs_odd : (d : ℕ) (s : Bool) (q k l : ℕ) → abs_of (odd d s q k l) ≡ odd d false q k l
unfolding abs_of odd
abs_odd d s zero k l = refl
abs_odd d s (suc q) k l = refl

abs_cond : (b : Bool) (x y : Float) → abs_of (cond b x y) ≡ cond b (abs_of x) (abs_of y)
abs_cond true x y = refl
abs_cond false x y = refl

abs_fields : (s : Bool) (x t : ℕ) → abs_of (of_fields binary64 s x t) ≡ of_fields binary64 false x t
unfolding of_fields abs_of
abs_fields s zero t = abs_odd 53 s t 0 1074
abs_fields s (suc x) t =
    abs_cond (eqb (suc x) 2047) (cond (eqb t 0) (inf s) nan) (odd 53 s (2 ^ 52 + t) x 1074)
    ∙ ap (λ (v : Float). cond (eqb (suc x) 2047) v (abs_of (odd 53 s (2 ^ 52 + t) x 1074))) (abs_cond (eqb t 0) (inf s) nan)
    ∙ ap (λ (v : Float). cond (eqb (suc x) 2047) (cond (eqb t 0) (inf false) nan) v) (abs_odd 53 s (2 ^ 52 + t) x 1074)

plus : (b : ℕ) → leb (2 ^ 63) (b % 2 ^ 63) ≡ false
plus b = off (leb (2 ^ 63) (b % 2 ^ 63)) (leb→le (2 ^ 63) (b % 2 ^ 63))
  where
    off : (t : Bool) → (T t → 2 ^ 63 ≤ b % 2 ^ 63) → t ≡ false
    off true h = absurd (over (h tt))
      where
        over : 2 ^ 63 ≤ b % 2 ^ 63 → ⊥
        over h = omega arith
    off false h = refl

field_same : (b : ℕ) → b % 2 ^ 63 % 2 ^ 63 / 2 ^ 52 ≡ b % 2 ^ 63 / 2 ^ 52
field_same b = omega arith

digits_same : (b : ℕ) → b % 2 ^ 63 % 2 ^ 52 ≡ b % 2 ^ 52
digits_same b = omega arith

abs_bits : (b : ℕ) → of_bits binary64 (b % 2 ^ 63) ≡ abs_of (of_bits binary64 b)
abs_bits b =
    of_bits_is (b % 2 ^ 63)
    ∙ ap (λ (s : Bool). of_fields binary64 s (b % 2 ^ 63 % 2 ^ 63 / 2 ^ 52) (b % 2 ^ 63 % 2 ^ 52)) (plus b)
    ∙ ap (λ (x : ℕ). of_fields binary64 false x (b % 2 ^ 63 % 2 ^ 52)) (field_same b)
    ∙ ap (λ (x : ℕ). of_fields binary64 false (b % 2 ^ 63 / 2 ^ 52) x) (digits_same b)
    ∙ sym (ap abs_of (of_bits_is b) ∙ abs_fields (leb (2 ^ 63) b) (b % 2 ^ 63 / 2 ^ 52) (b % 2 ^ 52))

pub abs_is : (x : Float) → T (fits binary64 x) → of_bits binary64 (to_bits binary64 x % 2 ^ 63) ≡ abs_of x
abs_is x f = abs_bits (to_bits binary64 x) ∙ ap abs_of (of_bits-to_bits binary64 x f)

mod_twice : (b : ℕ) → b % 2 ^ 63 % 2 ^ 63 ≡ b % 2 ^ 63
mod_twice b = omega arith

pub abs_no_nan : (x : Float) → T (fits binary64 x) → T (not (is_nan x)) → T (not (nan_bits binary64 (to_bits binary64 x % 2 ^ 63)))
abs_no_nan x f h =
    let b = to_bits binary64 x in
    subst (λ (t : Bool). T (not t))
    (sym
    (nan_bits_above binary64 (b % 2 ^ 63)
    ∙ ap (λ (n : ℕ). ltb (2047 * 2 ^ 52) n) (mod_twice b)
    ∙ sym (nan_bits_above binary64 b)
    ∙ nan_bits_is binary64 b
    ∙ ap is_nan (of_bits-to_bits binary64 x f)))
    h

-- ---- a float as a u64

pub at_most : (x : Float) → lt (fin true 1 (pos 0)) x ≡ true → lt x (fin false 1 (pos 64)) ≡ false → 0xffff_ffff_ffff_ffff ≡ to_unsigned 64 x
unfolding lt to_unsigned
at_most nan a b = absurd (clash' a)
at_most (inf true) a b = absurd (clash' a)
at_most (inf false) a b = refl
at_most (fin true m e) a b = absurd (clash (sym (on (m * up e * 1) (1 * 2 ^ 64 * down e) (mul-pos (some) (down_pos e))) ∙ b))
  where
    some : 0 < 1 * 2 ^ 64
    some = omega arith

    on : (p q : ℕ) → 0 < q → ltb 0 (p + q) ≡ true
    on p q h = is_true (ltb 0 (p + q)) (lt→ltb 0 (p + q) (more p q h))
      where
        more : (p q : ℕ) → 0 < q → 0 < p + q
        more p q h = omega arith
at_most (fin false m e) a b = top_of (m * up e) (down e) (down_pos e) (nltb→le (m * up e * 1) (1 * 2 ^ 64 * down e) (subst (λ (t : Bool). T (not t)) (sym b) tt))
  where
    cap : (q : ℕ) → 2 ^ 64 ≤ q → 0xffff_ffff_ffff_ffff ≡ min q (2 ^ 64 - 1)
    cap q h = omega arith

    top_of : (p d : ℕ) → 0 < d → 1 * 2 ^ 64 * d ≤ p * 1 → 0xffff_ffff_ffff_ffff ≡ min (p / d) (2 ^ 64 - 1)
    top_of p d h g = cap (p / d) ((le-div_iff_mul-le h).1 (subst (λ (x : ℕ). 2 ^ 64 * d ≤ x) (mul-one p) g))

pub at_least : (x : Float) → lt (fin true 1 (pos 0)) x ≡ false → 0 ≡ to_unsigned 64 x
unfolding lt to_unsigned
at_least nan a = refl
at_least (inf true) a = refl
at_least (inf false) a = absurd (clash a)
at_least (fin true m e) a = refl
at_least (fin false m e) a = absurd (clash (sym (is_true (ltb 0 (1 * 1 * down e + m * up e * 1)) (lt→ltb 0 (1 * 1 * down e + m * up e * 1) (more (down e) (m * up e * 1) (down_pos e)))) ∙ a))
  where
    more : (d p : ℕ) → 0 < d → 0 < 1 * 1 * d + p
    more d p h = omega arith

-- ---- the finite test

zero_equals : (x : Float) (c : ℕ) → 0 < c → HasValue x false 0 c → eq x (fin false 0 (pos 0)) ≡ true
unfolding eq
zero_equals nan c p v = elim v [ ]
zero_equals (inf _) c p v = elim v [ ]
zero_equals (fin s m e) c p v = go s (m * up e * 1) (0 * down e) (none (m * up e) c (v.1 ∙ zero-mul (down e)) p) (zero-mul (down e))
  where
    none : (x c : ℕ) → x * c ≡ 0 → 0 < c → x * 1 ≡ 0
    none zero c h p = refl
    none (suc x) c h p = absurd (lt_irrefl 0 (subst (λ (y : ℕ). 0 < y) h (mul-pos (some x) p)))
      where
        some : (x : ℕ) → 0 < suc x
        some x = omega arith

    go : (s : Bool) (a b : ℕ) → a ≡ 0 → b ≡ 0 → level s a false b ≡ true
    go true a b e h = rw (e, h)
    go false a b e h = rw (e, h)

and_false : (s : Bool) → (s && false) ≡ false
and_false true = refl
and_false false = refl

zero_rounded : (s : Bool) (a c : ℕ) → 0 < c → eq (round binary64 (s && ltb a a) (a - a) c) (fin false 0 (pos 0)) ≡ true
zero_rounded s a c p =
    rw (sub_self a, le-ltb a a (le_refl a), and_false s)
    (zero_equals (round binary64 false 0 c) c p (round_exact binary64 false 0 c 0 0 p (pow_pos 53) (pow_pos (1074 + 1024)) (sym (zero-mul c))))

cond_false : (t : Bool) (x y : Float) → t ≡ false → cond t x y ≡ y
cond_false t x y e = rw e

same_sum : (s : Bool) (a c : ℕ) → sum binary64 s a (not s) a c ≡ round binary64 (s && ltb a a) (a - a) c
unfolding sum
same_sum true a c = cond_false (ltb a a) (round binary64 false (a - a) c) (round binary64 (ltb a a) (a - a) c) (le-ltb a a (le_refl a))
same_sum false a c = cond_false (ltb a a) (round binary64 true (a - a) c) (round binary64 false (a - a) c) (le-ltb a a (le_refl a))

pub finite_is : (x : Float) → eq (sub binary64 x x) (of_bits binary64 0) ≡ is_finite_of x
unfolding sub add neg eq is_finite_of of_bits
finite_is nan = refl
finite_is (inf true) = refl
finite_is (inf false) = refl
finite_is (fin s m e) =
    let a = m * up e * down e in
    let c = down e * down e in
    ap (λ (v : Float). eq v (fin false 0 (pos 0))) (same_sum s a c) ∙ zero_rounded s a c (mul-pos (down_pos e) (down_pos e))

zero_is : round binary64 false 0 1 ≡ fin false 0 (pos 0)
unfolding round
zero_is = refl

zero_round : (s : Bool) (a c : ℕ) → 0 < c → round binary64 (s && ltb a a) (a - a) c ≡ fin false 0 (pos 0)
zero_round s a c p = rw (sub_self a, le-ltb a a (le_refl a), and_false s) (round_same binary64 false 0 c 0 1 p (pow_pos 0) (sym (zero-mul c)) ∙ zero_is)

-- x - x is +0 for a finite x, and not a number for any other
pub difference_of_itself : (x : Float) → sub binary64 x x ≡ cond (is_finite_of x) (of_bits binary64 0) nan
unfolding sub add neg is_finite_of of_bits
difference_of_itself nan = refl
difference_of_itself (inf true) = refl
difference_of_itself (inf false) = refl
difference_of_itself (fin s m e) = same_sum s (m * up e * down e) (down e * down e) ∙ zero_round s (m * up e * down e) (down e * down e) (mul-pos (down_pos e) (down_pos e))

-- ---- a whole number as a float

pub in_float_lem : (n : ℕ) → n ≤ 2 ^ 53 → T (in_float binary64 (pos n))
unfolding in_float
in_float_lem n h = le→leb n (2 ^ 53) h
