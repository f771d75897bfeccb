-- Rows of a list, stored and read back. Assumes nothing.
use Prim.Native.Nat.{ℕ, suc, ◌+◌, ◌-◌, ◌*◌, ◌≤◌, ◌<◌}
use mathlib.Core.Path.{◌≡◌, refl, ap, subst, ◌∙◌}
use mathlib.Core.List.{List, [], ◌∷◌, ◌++◌, append_assoc}
use native.Mathlib.Nat.{mul-suc, mul-le-mul_left}
use native.Mathlib.Omega.{arith}
use lib.ListN.{length, get_or, set, take, drop}
use lib.Seq.{sets, sets-eq, drop_at, take_at, length-take-le, drop-set-add, take-set-le, get_or-take, get_or-drop}
use Rattle.detector.specs.declared.DetectorHit.{DetectorHit}
use Rattle.memory.specs.Memory.{hit_doubles, hit_wholes, hit_values_row, hit_tags_row, hit_from, row_at}

-- ---- rows of n

-- what is stored at or behind a part's end is not in the part
sets_behind : {A : Type 0} (n b : ℕ) (r l : List A) (p : ℕ) → b + n ≤ p → take n (drop b (sets l p r)) ≡ take n (drop b l)
sets_behind n b [] l p h = refl
sets_behind n b (a ∷ r) l p h =
    let e : p ≡ b + (p - b) = omega arith in
    sets_behind n b r (set l p a) (suc p) (omega arith)
    ∙ ap (λ k. take n (drop b (set l k a))) e
    ∙ ap (take n) (drop-set-add b l (p - b) a)
    ∙ take-set-le n (drop b l) (p - b) a (omega arith)

module _ {A : Type 0} (n : ℕ) (l : List A) (i : ℕ) where
  pub row_at_lem : (k : ℕ) (z : A) → k < n → get_or (row_at n l i) k z ≡ get_or l (n * i + k) z
  unfolding row_at
  row_at_lem k z h = get_or-take n (drop (n * i) l) k z h ∙ get_or-drop (n * i) l k z

  -- a row stored at its place is read back
  pub row_stored : (r : List A) → length r ≡ n → n * i + n ≤ length l → row_at n (sets l (n * i) r) i ≡ r
  unfolding row_at
  row_stored r e h =
      let rest = drop (n * i + length r) l in
      ap (λ k. take n (drop (n * i) k)) (sets-eq r l (n * i) (rw e h) ∙ append_assoc (take (n * i) l) r rest)
      ∙ ap (take n) (drop_at (take (n * i) l) (r ++ rest) (n * i) (length-take-le (n * i) l (omega (arith, h))))
      ∙ take_at r rest n e

  -- and leaves the rows before it
  pub row_kept : (r : List A) (j : ℕ) → j < i → row_at n (sets l (n * i) r) j ≡ row_at n l j
  unfolding row_at
  row_kept r j h = sets_behind n (n * j) r l (n * i) (subst (λ k. k ≤ n * i) (mul-suc n j) (mul-le-mul_left n h))

-- ---- the rows of a hit

pub values_long : (h : DetectorHit) → length (hit_values_row h) ≡ hit_doubles
unfolding hit_values_row
values_long h = refl

pub tags_long : (h : DetectorHit) → length (hit_tags_row h) ≡ hit_wholes
unfolding hit_tags_row
tags_long h = refl

pub hit_back : (h : DetectorHit) → hit_from (hit_values_row h) (hit_tags_row h) ≡ h
unfolding hit_from hit_values_row hit_tags_row
hit_back h = refl
