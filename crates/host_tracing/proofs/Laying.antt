-- Rays laid out flat: what a loop over them keeps, and what it makes. Assumes nothing.
use mathlib.Core.Path.{◌≡◌, sym, ap, ◌∙◌}
use mathlib.Core.Bool.{Bool, true, false}
use mathlib.Core.List.{List, [], ◌∷◌, ◌++◌, append_assoc, append-nil}
use Prim.Native.Nat.{ℕ, zero, suc, ◌+◌, ◌*◌, ◌≤◌, ◌<◌}
use native.Mathlib.Numerals.{add-one}
use native.Mathlib.Nat.{add-zero}
use native.Mathlib.Omega.{arith}
use lib.Dec.{leb, ltb}
use lib.Ieee.{Float, nan, binary64, of_bits}
use borrow.Author.Tests.{lt-ltb, le-ltb, le-leb, lt-leb, ltb-true, leb-true}
use lib.ListN.{length, get_or, take, drop, replicate, length-append, length-replicate, drop_of_length-le}
use lib.Seq.{sets, sets-eq, length-sets, drop-cons, take_at, length-take-le}
use Rattle.host_tracing.specs.declared.slices.GivenRay.{GivenRay}
use Rattle.host_tracing.specs.Flat.{ray_values_row, ray_tags_row, flat_values, flat_tags, Laid, laid, has_room_of, put_ray_of, flatten_of}
use Rattle.doubles.proofs.Floats.{and_left, and_right}

-- what stands for a ray past the end of a list
abbrev pub no_ray_lem : GivenRay
no_ray_lem =
    record {
      origin = record { x = nan; y = nan; z = nan };
      direction = record { x = nan; y = nan; z = nan };
      wavelength_nm = nan;
      energy = nan;
      bounce_count = 0;
      media_count = 0;
      media = [];
    }

-- ---- the lists that are laid out in

abbrev pub zero_f : Float
zero_f = of_bits binary64 0

abbrev pub zeros : List Float
zeros = replicate 32776 zero_f

abbrev pub nones : List ℕ
nones = replicate 40970 0

pub long_f : length zeros ≡ 32776
long_f = length-replicate 32776 zero_f

pub long_h : length nones ≡ 40970
long_h = length-replicate {A = ℕ} 40970 0

-- ---- room

pub room_in : (r : Bool) (n a b : ℕ) → r ≡ has_room_of n a b → r ≡ true → (n < 4097) × ((32776 ≤ a) × (40970 ≤ b))
unfolding has_room_of
room_in r n a b e h =
    let k = sym e ∙ h in
    let t = and_right (ltb n 4097) _ k in
    (ltb-true _ _ (and_left (ltb n 4097) _ k), (leb-true _ _ (and_left (leb 32776 a) _ t), leb-true _ _ (and_right (leb 32776 a) _ t)))

pub room_yes : (n a b : ℕ) → n < 4097 → 32776 ≤ a → leb 40970 b ≡ has_room_of n a b
unfolding has_room_of
room_yes n a b h k = simp (lt-ltb n 4097 h, le-leb 32776 a k)

pub room_short : (n a b : ℕ) → n < 4097 → a < 32776 → false ≡ has_room_of n a b
unfolding has_room_of
room_short n a b h k = simp (lt-ltb n 4097 h, lt-leb 32776 a k)

pub room_past : (n a b : ℕ) → 4097 ≤ n → false ≡ has_room_of n a b
unfolding has_room_of
room_past n a b h = simp (le-ltb n 4097 h)

-- ---- the loop

pub put_again : (ys : List GivenRay) (s t z : Laid) (i : ℕ) → i < length ys → flatten_of (drop i ys) s ≡ z → t ≡ put_ray_of (get_or ys i no_ray_lem) s → flatten_of (drop (i + 1) ys) t ≡ z
unfolding flatten_of
put_again ys s t z i h p e = rw (e, add-one i) (rw (drop-cons ys i no_ray_lem h) at p)

pub put_end : (ys : List GivenRay) (s z : Laid) (i : ℕ) → length ys ≤ i → flatten_of (drop i ys) s ≡ z → s ≡ z
unfolding flatten_of
put_end ys s z i h p = rw (drop_of_length-le ys h) at p

pub add_nine : (n : ℕ) → n + 9 ≡ suc (suc (suc (suc (suc (suc (suc (suc (suc n))))))))
add_nine n = omega arith

-- ---- what the loop makes

take_sets : {A : Type 0} (l xs : List A) (i m : ℕ) → i + length xs ≤ length l → m ≡ i + length xs → take m (sets l i xs) ≡ take i l ++ xs
take_sets l xs i m h e = ap (take m) (sets-eq xs l i h) ∙ take_at (take i l ++ xs) _ m (length-append (take i l) xs ∙ ap (λ (k : ℕ). k + length xs) (length-take-le i l (omega (arith, h))) ∙ sym e)

put_more : (y : GivenRay) (n : ℕ) (v : List Float) (m : List ℕ) → n < 4097 → length v ≡ 32776 → length m ≡ 40970 → put_ray_of y (laid n v m) ≡ laid (n + 1) (sets v (n * 8) (ray_values_row y)) (sets m (n * 10) (ray_tags_row y))
unfolding put_ray_of has_room_of
put_more y n v m h a b = simp (lt-ltb n 4097 h, a, b)

put_full : (y : GivenRay) (n : ℕ) (v : List Float) (m : List ℕ) → 4097 ≤ n → put_ray_of y (laid n v m) ≡ laid n v m
unfolding put_ray_of has_room_of
put_full y n v m h = simp (le-ltb n 4097 h)

-- the rays zs behind the first n
pub record LaidOut (n : ℕ) (v : List Float) (m : List ℕ) (zs : List GivenRay) (s : Laid) : Type 0 where
  pub count_is : s.count ≡ n + length zs
  pub values_are : take (s.count * 8) s.ray_values ≡ take (n * 8) v ++ flat_values zs
  pub marks_are : take (s.count * 10) s.ray_tags ≡ take (n * 10) m ++ flat_tags zs
  pub values_long : length s.ray_values ≡ 32776
  pub marks_long : length s.ray_tags ≡ 40970

none : (n : ℕ) (v : List Float) (m : List ℕ) → length v ≡ 32776 → length m ≡ 40970 → LaidOut n v m [] (laid n v m)
unfolding flat_values flat_tags
none n v m a b = record { count_is = sym (add-zero n); values_are = sym (append-nil (take (n * 8) v)); marks_are = sym (append-nil (take (n * 10) m)); values_long = a; marks_long = b }

one_more : (y : GivenRay) (n : ℕ) (v : List Float) (m : List ℕ) (zs : List GivenRay) (s : Laid) → n < 4097 → length v ≡ 32776 → length m ≡ 40970
    → LaidOut (n + 1) (sets v (n * 8) (ray_values_row y)) (sets m (n * 10) (ray_tags_row y)) zs s → LaidOut n v m (y ∷ zs) s
unfolding flat_values flat_tags ray_values_row ray_tags_row
one_more y n v m zs s h a b o =
    record {
      count_is = o.count_is ∙ omega arith;
      values_are = o.values_are ∙ ap (λ (l : List Float). l ++ flat_values zs) (take_sets v (ray_values_row y) (n * 8) ((n + 1) * 8) (omega (arith, a, h)) (omega arith)) ∙ append_assoc (take (n * 8) v) (ray_values_row y) (flat_values zs);
      marks_are = o.marks_are ∙ ap (λ (l : List ℕ). l ++ flat_tags zs) (take_sets m (ray_tags_row y) (n * 10) ((n + 1) * 10) (omega (arith, b, h)) (omega arith)) ∙ append_assoc (take (n * 10) m) (ray_tags_row y) (flat_tags zs);
      values_long = o.values_long;
      marks_long = o.marks_long;
    }

pub out : (k : ℕ) (ys : List GivenRay) (n : ℕ) (v : List Float) (m : List ℕ) → n + k ≡ 4097 → length v ≡ 32776 → length m ≡ 40970 → LaidOut n v m (take k ys) (flatten_of ys (laid n v m))
unfolding flatten_of
out zero [] n v m e a b = none n v m a b
out (suc k) [] n v m e a b = none n v m a b
out zero (y ∷ ys) n v m e a b = rw (put_full y n v m (omega (arith, e))) (out zero ys n v m e a b)
out (suc k) (y ∷ ys) n v m e a b =
    let h : n < 4097 = omega (arith, e) in
    rw (put_more y n v m h a b)
    (one_more y n v m (take k ys) _ h a b
    (out k ys (n + 1) (sets v (n * 8) (ray_values_row y)) (sets m (n * 10) (ray_tags_row y)) (omega (arith, e)) (length-sets v (n * 8) (ray_values_row y) ∙ a) (length-sets m (n * 10) (ray_tags_row y) ∙ b)))
