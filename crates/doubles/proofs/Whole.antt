-- `whole_root n` is the largest r with r * r ≤ n. A q that is near the root of w (`NearRoot`) is `nearest_root_of w`, and what `root_round` rounds w * 4 ^ k to. Assumes nothing.
use Rattle.std.proofs.Common.{◌≡◌, ℕ, zero, suc, ◌+◌, ◌-◌, ◌*◌, ◌/◌, ◌^◌, ◌<◌, ◌≤◌, Bool, true, false, cond, not, T, eqb, leb, sym, refl, ap, ◌∙◌, subst, le_trans, le_of_eq, le_refl, lt_of_lt_of_le, le_of_suc-le-suc, lt_of_le_of_lt, mul-le-mul_right, mul_assoc, lt-suc_self, div-lt_iff_lt-mul, mul-le-mul, le_antisymm, lt_of_mul-lt-mul_right, mul-le-mul_left, mul-pos, pow-suc, lt_of_not-le, not-le_of_lt, div-mul-le_self, le_of_mul-le-mul_right, arith, eqb→eq, leb→le, pow_pos, pow_mono, pow-add}
use Prim.Native.Nat.{compare, Ordering}
use native.Mathlib.Nat.{mul-mul-mul_comm, eq_of_mul-eq-mul_right}
use lib.Dec.{is_le, compare_is_eq, nleb→lt, eqb_refl}
use lib.Arith.{lt_of_le-ne}
use lib.Ieee.{Format, prec, size, nearest, units}
use lib.Ieee.Digits.{size-lt, size-le}
use lib.Ieee.Fits.{two}
use Rattle.doubles.specs.Root.{root_in, whole_root, root_round, nearest_root_of}
use Rattle.doubles.proofs.Squares.{NearRoot, Root53}

-- ---- the whole part of a root

abbrev pub IsRoot : ℕ → ℕ → Type 0
IsRoot n r = (r * r ≤ n) × (n < suc r * suc r)

quarter : (n x : ℕ) → n < x * 4 → n / 4 < x
quarter n x h = omega arith

below_one : (n : ℕ) → n < 1 → IsRoot n 0
below_one n h = (omega arith, omega arith)

step_up : (n r : ℕ) → IsRoot (n / 4) r → suc (2 * r) * suc (2 * r) ≤ n → IsRoot n (suc (2 * r))
step_up n r h l = (l, fine h.1)
  where
    fine : n / 4 < suc r * suc r → n < suc (suc (2 * r)) * suc (suc (2 * r))
    fine g = omega arith

step_down : (n r : ℕ) → IsRoot (n / 4) r → n < suc (2 * r) * suc (2 * r) → IsRoot n (2 * r)
step_down n r h l = (fine h.0, l)
  where
    fine : r * r ≤ n / 4 → 2 * r * (2 * r) ≤ n
    fine g = omega arith

root_in_is : (d n : ℕ) → n < 4 ^ d → IsRoot n (root_in d n)
unfolding root_in
root_in_is zero n h = below_one n h
root_in_is (suc d) n h =
    let r = root_in d (n / 4) in
    go r (leb (suc (2 * r) * suc (2 * r)) n) (leb→le (suc (2 * r) * suc (2 * r)) n) (nleb→lt (suc (2 * r) * suc (2 * r)) n)
    (root_in_is d (n / 4) (quarter n (4 ^ d) (subst (λ (x : ℕ). n < x) (pow-suc 4 d) h)))
  where
    go : (r : ℕ) (b : Bool) → (T b → suc (2 * r) * suc (2 * r) ≤ n) → (T (not b) → n < suc (2 * r) * suc (2 * r)) → IsRoot (n / 4) r
        → IsRoot n (cond b (suc (2 * r)) (2 * r))
    go r true h k i = step_up n r i (h tt)
    go r false h k i = step_down n r i (k tt)

two_four : (k : ℕ) → 2 ^ k ≤ 4 ^ k
two_four zero = le_refl 1
two_four (suc k) = le_trans (le_of_eq (pow-suc 2 k)) (le_trans (more (2 ^ k) (4 ^ k) (two_four k)) (le_of_eq (sym (pow-suc 4 k))))
  where
    more : (a b : ℕ) → a ≤ b → a * 2 ≤ b * 4
    more a b h = omega arith

pub whole_root_is : (n : ℕ) → IsRoot n (whole_root n)
unfolding whole_root
whole_root_is n = root_in_is (size n) n (lt_of_lt_of_le (size-lt n) (two_four (size n)))

-- ---- squares in order

pub less_root : (a b : ℕ) → a * a < b * b → a < b
less_root a b h = lt_of_not-le (λ (g : b ≤ a). not-le_of_lt h (mul-le-mul g g))

-- ---- q is v or v + 1, for the whole part v of the root of w

below_half : (w q v : ℕ) → NearRoot w q → v * v ≤ w → w ≤ v * v + v → q ≡ v
below_half w q v n a b = le_antisymm (le_of_suc-le-suc (lt_of_not-le not_more)) (le_of_suc-le-suc (lt_of_not-le not-less))
  where
    more : q * q < w + q → q * suc v ≤ q * q → suc v * v ≤ q * v → ⊥
    more x y z = omega arith

    not_more : suc v ≤ q → ⊥
    not_more g = more n.over (mul-le-mul_left q g) (mul-le-mul_right v g)

    less : w ≤ q * q + q → q * suc q ≤ q * v → suc q * v ≤ v * v → suc q ≤ v → ⊥
    less x y z p = omega arith

    not-less : suc q ≤ v → ⊥
    not-less g = less n.under (mul-le-mul_left q g) (mul-le-mul_right v g) g

above_half : (w q v : ℕ) → NearRoot w q → v * v + v < w → w < suc v * suc v → q ≡ suc v
above_half w q v n a b = le_antisymm (le_of_suc-le-suc (lt_of_not-le not_more)) (lt_of_not-le not-less)
  where
    more : q * q < w + q → q * suc (suc v) ≤ q * q → suc (suc v) * v ≤ q * v → suc (suc v) ≤ q → ⊥
    more x y z p = omega arith

    not_more : suc (suc v) ≤ q → ⊥
    not_more g = more n.over (mul-le-mul_left q g) (mul-le-mul_right v g) g

    less : w ≤ q * q + q → q * q ≤ v * v → q ≤ v → ⊥
    less x y z = omega arith

    not-less : q ≤ v → ⊥
    not-less g = less n.under (mul-le-mul g g) g

-- ---- `nearest_root_of` is the one number that is near

near_low : (w v : ℕ) → 0 < w → v * v ≤ w → w ≤ v * v + v → NearRoot w v
near_low w v p a b = record { over = fine v p a b; under = b }
  where
    fine : (v : ℕ) → 0 < w → v * v ≤ w → w ≤ v * v + v → v * v < w + v
    fine zero p a b = omega arith
    fine (suc v) p a b = omega arith

near_high : (w v : ℕ) → v * v + v < w → w < suc v * suc v → NearRoot w (suc v)
near_high w v a b = record { over = omega arith; under = omega arith }

near_pick : (w v : ℕ) (t : Bool) → 0 < w → (T t → w ≤ v * v + v) → (T (not t) → v * v + v < w) → IsRoot w v → NearRoot w (cond t v (suc v))
near_pick w v true p h k is = near_low w v p is.0 (h tt)
near_pick w v false p h k is = near_high w v (k tt) is.1

pub near_nearest : (w : ℕ) → 0 < w → NearRoot w (nearest_root_of w)
unfolding nearest_root_of
near_nearest w p =
    let v = whole_root w in
    near_pick w v (leb w (v * v + v)) p (leb→le w (v * v + v)) (nleb→lt w (v * v + v)) (whole_root_is w)

pick_is : (w q v : ℕ) (t : Bool) → NearRoot w q → (T t → w ≤ v * v + v) → (T (not t) → v * v + v < w) → IsRoot w v → q ≡ cond t v (suc v)
pick_is w q v true n h k is = below_half w q v n is.0 (h tt)
pick_is w q v false n h k is = above_half w q v n (k tt) is.1

pub nearest_of : (w q : ℕ) → NearRoot w q → q ≡ nearest_root_of w
unfolding nearest_root_of
nearest_of w q n =
    let v = whole_root w in
    pick_is w q v (leb w (v * v + v)) n (leb→le w (v * v + v)) (nleb→lt w (v * v + v)) (whole_root_is w)

-- with 53 digits where m has 53 or 54 and is not the last of them
pub root53 : (m r : ℕ) → 2 ^ 52 ≤ m → m + 1 < 2 ^ 54 → r ≡ nearest_root_of (m * 2 ^ 52) → Root53 m r
root53 m r lo hi e =
    let n : NearRoot (m * 2 ^ 52) r = subst (NearRoot (m * 2 ^ 52)) (sym e) (near_nearest (m * 2 ^ 52) (some m lo)) in
    record {
      near = n;
      least = le_of_suc-le-suc (lt_of_not-le (λ (g : suc r ≤ 2 ^ 52). short r n.under lo g (mul-le-mul_left r g)));
      most = lt_of_not-le (λ (g : 2 ^ 53 ≤ r). long (r - 2 ^ 53) (subst (λ (x : ℕ). x * 2 ^ 53 < m * 2 ^ 52 + x) (from-top r g) (lt_of_le_of_lt (mul-le-mul_left r g) n.over)) hi);
    }
  where
    some : (m : ℕ) → 2 ^ 52 ≤ m → 0 < m * 2 ^ 52
    some m h = omega arith

    short : (r : ℕ) → m * 2 ^ 52 ≤ r * r + r → 2 ^ 52 ≤ m → suc r ≤ 2 ^ 52 → r * suc r ≤ r * 2 ^ 52 → ⊥
    short r u lo g p = omega arith

    from-top : (r : ℕ) → 2 ^ 53 ≤ r → r ≡ 2 ^ 53 + (r - 2 ^ 53)
    from-top r g = omega arith

    long : (u : ℕ) → (2 ^ 53 + u) * 2 ^ 53 < m * 2 ^ 52 + (2 ^ 53 + u) → m + 1 < 2 ^ 54 → ⊥
    long u o hi = omega arith

-- ---- the comparison with the halfway point

abbrev Cmp : Ordering → ℕ → ℕ → Type 0
Cmp Ordering.lt a b = a < b
Cmp Ordering.eq a b = a ≡ b
Cmp Ordering.gt a b = b < a

cmp : (a b : ℕ) → Cmp (compare a b) a b
cmp a b = go (compare a b) (leb→le a b) (nleb→lt a b) (eqb→eq a b) (λ (e : a ≡ b). subst (λ (x : ℕ). T (eqb a x)) e (eqb_refl a))
  where
    go : (o : Ordering) → (T (is_le o) → a ≤ b) → (T (not (is_le o)) → b < a) → (T (compare_is_eq o) → a ≡ b) → (a ≡ b → T (compare_is_eq o)) → Cmp o a b
    go Ordering.lt h k e n = lt_of_le-ne (h tt) n
    go Ordering.eq h k e n = e tt
    go Ordering.gt h k e n = k tt

nearest_is : (w q v : ℕ) → NearRoot w q → v * v ≤ w → w < suc v * suc v → (o : Ordering) → Cmp o (4 * w) ((2 * v + 1) * (2 * v + 1)) → nearest v o ≡ q
nearest_is w q v n a b Ordering.lt c = sym (below_half w q v n a (half c))
  where
    half : 4 * w < (2 * v + 1) * (2 * v + 1) → w ≤ v * v + v
    half h = omega arith
nearest_is w q v n a b Ordering.eq c = absurd (never c)
  where
    never : 4 * w ≡ (2 * v + 1) * (2 * v + 1) → ⊥
    never h = omega arith
nearest_is w q v n a b Ordering.gt c = sym (above_half w q v n (half c) b)
  where
    half : (2 * v + 1) * (2 * v + 1) < 4 * w → v * v + v < w
    half h = omega arith

-- both sides of the comparison times P * P
unscale : (o : Ordering) (a b s : ℕ) → 0 < s → Cmp o (a * s) (b * s) → Cmp o a b
unscale Ordering.lt a b s p c = lt_of_mul-lt-mul_right s c
unscale Ordering.eq a b s p c = eq_of_mul-eq-mul_right s p a b c
unscale Ordering.gt a b s p c = lt_of_mul-lt-mul_right s c

-- ---- the root of w * (P * P), with P = 2 ^ k

module _ (w P n : ℕ) (pos : 0 < P) (is : IsRoot (w * (P * P)) n) where
  floor : n / P * (n / P) ≤ w
  floor =
      le_of_mul-le-mul_right
      (le_trans (le_of_eq (sym (mul-mul-mul_comm (n / P) P (n / P) P))) (le_trans (mul-le-mul (div-mul-le_self n P) (div-mul-le_self n P)) is.0))
      (mul-pos pos pos)

  next : suc n ≤ suc (n / P) * P
  next = (div-lt_iff_lt-mul pos).0 (lt-suc_self (n / P))

  ceiling : w < suc (n / P) * suc (n / P)
  ceiling =
      lt_of_mul-lt-mul_right (P * P)
      (lt_of_lt_of_le is.1 (le_trans (mul-le-mul next next) (le_of_eq (mul-mul-mul_comm (suc (n / P)) P (suc (n / P)) P))))

size_is : (n a : ℕ) → 2 ^ a ≤ n → n < 2 ^ suc a → size n ≡ suc a
size_is n a lo hi = le_antisymm (size-le n (suc a) hi) (lt_of_not-le (λ (g : size n ≤ a). not-le_of_lt (lt_of_lt_of_le (size-lt n) (pow_mono g)) lo))

root_round_is : (f : Format) (n : ℕ) → root_round f n ≡ (let w = whole_root n in let k = size w - prec f in let q = w / 2 ^ k in let h = (2 * q + 1) * 2 ^ k in units f false (nearest q (compare (4 * n) (h * h))) k)
unfolding root_round
root_round_is f n = refl

pub rounded : (f : Format) (w k q : ℕ) → NearRoot w q → 2 ^ (prec f - 1) * 2 ^ (prec f - 1) ≤ w → w < 2 ^ prec f * 2 ^ prec f → root_round f (w * (2 ^ k * 2 ^ k)) ≡ units f false q k
rounded f w k q near lo hi =
    let P = 2 ^ k in
    let N = w * (P * P) in
    let n = whole_root N in
    let is = whole_root_is N in
    let v = n / P in
    let fl = floor w P n (pow_pos k) is in
    let ce = ceiling w P n (pow_pos k) is in
    let v-ge : 2 ^ (prec f - 1) ≤ v = le_of_suc-le-suc (less_root (2 ^ (prec f - 1)) (suc v) (lt_of_le_of_lt lo ce)) in
    let v-lt : suc v ≤ 2 ^ prec f = less_root v (2 ^ prec f) (lt_of_le_of_lt fl hi) in
    let n-ge : 2 ^ (prec f - 1 + k) ≤ n = le_trans (le_of_eq (pow-add 2 (prec f - 1) k)) (le_trans (mul-le-mul_right P v-ge) (div-mul-le_self n P)) in
    let n-lt : n < 2 ^ (prec f + k) = lt_of_lt_of_le (next w P n (pow_pos k) is) (le_trans (mul-le-mul_right P v-lt) (le_of_eq (sym (pow-add 2 (prec f) k)))) in
    let e : size n - prec f ≡ k = dropped (prec f) k (size n) (two f) (size_is n (prec f - 1 + k) n-ge (subst (λ (x : ℕ). n < 2 ^ x) (one_more (prec f) k (two f)) n-lt)) in
    let c : (o : Ordering) → Cmp o (4 * N) ((2 * v + 1) * P * ((2 * v + 1) * P)) → nearest v o ≡ q =
    λ o z. nearest_is w q v near fl ce o (unscale o (4 * w) ((2 * v + 1) * (2 * v + 1)) (P * P) (mul-pos (pow_pos k) (pow_pos k))
    (subst (λ (x : ℕ). Cmp o x ((2 * v + 1) * (2 * v + 1) * (P * P))) (sym (mul_assoc 4 w (P * P)))
    (subst (λ (x : ℕ). Cmp o (4 * N) x) (mul-mul-mul_comm (2 * v + 1) P (2 * v + 1) P) z))) in
    root_round_is f N
    ∙ ap (λ (j : ℕ). units f false (nearest (n / 2 ^ j) (compare (4 * N) ((2 * (n / 2 ^ j) + 1) * 2 ^ j * ((2 * (n / 2 ^ j) + 1) * 2 ^ j)))) j) e
    ∙ ap (λ (x : ℕ). units f false x k) (c (compare (4 * N) ((2 * v + 1) * P * ((2 * v + 1) * P))) (cmp (4 * N) ((2 * v + 1) * P * ((2 * v + 1) * P))))
  where
    one_more : (p k : ℕ) → 2 ≤ p → p + k ≡ suc (p - 1 + k)
    one_more p k h = omega arith

    dropped : (p k z : ℕ) → 2 ≤ p → z ≡ suc (p - 1 + k) → z - p ≡ k
    dropped p k z h e = omega arith
