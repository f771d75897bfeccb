-- Two values above zero that the format holds, neither below the other, are one: a finite one is an odd number times a power of two in one way. Assumes nothing.
use Rattle.std.proofs.Common.{◌≡◌, ℕ, zero, suc, ◌*◌, ◌%◌, ◌^◌, true, false, ◌&&◌, T, eqb, ltb, leb, ℤ, pos, negsuc, sym, refl, ap, ◌∙◌, le_antisymm, mul-one, mul_left_comm, arith, eqb→eq}
use native.Mathlib.Nat.{pow-succ'}
use lib.Ieee.{Float, nan, inf, fin, binary64, up, down, prec, low, emax, le, fits}
use lib.Ieee.Fits.{and_l}
use lib.Ieee.Positive.{le→cross}
use Rattle.doubles.proofs.Floats.{clash}
use Rattle.doubles.proofs.Order.{above, holds}

even_odd : (m t : ℕ) → m % 2 ≡ 1 → m ≡ 2 * t → ⊥
even_odd m t o h = omega arith

-- m times the next power is twice m times the power
twice : (m a : ℕ) → m * 2 ^ suc a ≡ 2 * (m * 2 ^ a)
twice m a = ap (λ (x : ℕ). m * x) (pow-succ' 2 a) ∙ mul_left_comm m 2 (2 ^ a)

half : (a b : ℕ) → 2 * a ≡ 2 * b → a ≡ b
half a b h = omega arith

odd_times_power : (m n a b : ℕ) → m % 2 ≡ 1 → n % 2 ≡ 1 → m * 2 ^ a ≡ n * 2 ^ b → (m ≡ n) × (a ≡ b)
odd_times_power m n zero zero o p h = (sym (mul-one m) ∙ h ∙ mul-one n, refl)
odd_times_power m n zero (suc b) o p h = absurd (even_odd m (n * 2 ^ b) o (sym (mul-one m) ∙ h ∙ twice n b))
odd_times_power m n (suc a) zero o p h = absurd (even_odd n (m * 2 ^ a) p (sym (mul-one n) ∙ sym h ∙ twice m a))
odd_times_power m n (suc a) (suc b) o p h =
    let r = odd_times_power m n a b o p (half (m * 2 ^ a) (n * 2 ^ b) (sym (twice m a) ∙ h ∙ twice n b)) in
    (r.0, ap suc r.1)

-- m * 2 ^ e as a fraction
one_way : (m n : ℕ) (e d : ℤ) → m % 2 ≡ 1 → n % 2 ≡ 1 → m * up e * down d ≡ n * up d * down e → (m ≡ n) × (e ≡ d)
one_way m n (pos a) (pos b) o p h =
    let r = odd_times_power m n a b o p (sym (mul-one (m * 2 ^ a)) ∙ h ∙ mul-one (n * 2 ^ b)) in
    (r.0, ap pos r.1)
one_way m n (pos a) (negsuc b) o p h =
    absurd (even_odd n (m * 2 ^ a * 2 ^ b) p (sym (mul-one n) ∙ sym (mul-one (n * 1)) ∙ sym h ∙ twice (m * 2 ^ a) b))
one_way m n (negsuc a) (pos b) o p h =
    absurd (even_odd m (n * 2 ^ b * 2 ^ a) o (sym (mul-one m) ∙ sym (mul-one (m * 1)) ∙ h ∙ twice (n * 2 ^ b) a))
one_way m n (negsuc a) (negsuc b) o p h =
    let r = odd_times_power m n (suc b) (suc a) o p (ap (λ (x : ℕ). x * 2 ^ suc b) (sym (mul-one m)) ∙ h ∙ ap (λ (x : ℕ). x * 2 ^ suc a) (mul-one n)) in
    (r.0, sym (ap below r.1))
  where
    below : ℕ → ℤ
    below zero = pos 0
    below (suc k) = negsuc k

is_odd : (m : ℕ) (e : ℤ) → T (fits binary64 (fin false (suc m) e)) → suc m % 2 ≡ 1
unfolding fits
is_odd m e t =
    eqb→eq (suc m % 2) 1 (and_l (eqb (suc m % 2) 1) (ltb (suc m) (2 ^ prec binary64)) (and_l (eqb (suc m % 2) 1 && ltb (suc m) (2 ^ prec binary64)) (leb (down e) (2 ^ low binary64))
    (and_l (eqb (suc m % 2) 1 && ltb (suc m) (2 ^ prec binary64) && leb (down e) (2 ^ low binary64)) (ltb (suc m * up e) (2 ^ suc (emax binary64) * down e)) t)))

pub same : (x y : Float) → T (fits binary64 x) → T (fits binary64 y) → T (above x) → T (above y) → le x y ≡ true → le y x ≡ true → x ≡ y
unfolding le
same nan y f g p q h k = absurd p
same (inf true) y f g p q h k = absurd p
same (inf false) nan f g p q h k = absurd q
same (inf false) (inf true) f g p q h k = absurd q
same (inf false) (inf false) f g p q h k = refl
same (inf false) (fin t n d) f g p q h k = absurd (clash (sym h))
same (fin s m e) nan f g p q h k = absurd q
same (fin s m e) (inf true) f g p q h k = absurd q
same (fin s m e) (inf false) f g p q h k = absurd (clash (sym k))
same (fin true m e) (fin t n d) f g p q h k = absurd p
same (fin false m e) (fin true n d) f g p q h k = absurd q
same (fin false zero e) (fin false n d) f g p q h k = absurd p
same (fin false (suc m) e) (fin false zero d) f g p q h k = absurd q
same (fin false (suc m) e) (fin false (suc n) d) f g p q h k =
    let x = fin false (suc m) e in
    let y = fin false (suc n) d in
    let r = one_way (suc m) (suc n) e d (is_odd m e f) (is_odd n d g) (le_antisymm (le→cross x y p q (holds h)) (le→cross y x q p (holds k))) in
    λ i. fin false (r.0 i) (r.1 i)
