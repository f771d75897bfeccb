-- Laws of the parts of a text. Assumes nothing.
use mathlib.Core.Path.{◌≡◌, refl, sym, ap, ◌∙◌}
use mathlib.Core.List.{List, [], ◌∷◌}
use mathlib.Core.Bool.{Bool, true, false, cond, ◌&&◌}
use Prim.Native.Nat.{ℕ, suc, ◌+◌, ◌-◌, ◌≤◌, ◌<◌}
use native.Mathlib.Nat.{le_refl, le_trans, le_of_eq, lt_irrefl, lt_of_lt_of_le, add-zero}
use native.Mathlib.Numerals.{add-one}
use native.Mathlib.Omega.{arith}
use lib.Dec.{eqb, ltb}
use lib.Pointwise.{pointwise}
use lib.ListN.{length, take, drop, get_or, length-drop, drop_of_length-le}
use lib.Seq.{drop-cons, drop-drop}
use borrow.Author.Tests.{lt-ltb, le-ltb, eq-eqb, ne_eqb, ltb-true, ltb-false, eqb-true, eqb-false}
use Rattle.fields.specs.Split.{before, later, split, ended, text_lines, end_at_of, after_of, parts_at, is_byte_of}

-- ---- what stands before the first b

pub before_le : (b : ℕ) (l : List ℕ) → length (before b l) ≤ length l
unfolding before
before_le b [] = le_refl 0
before_le b (x ∷ l) = go (eqb x b) (before_le b l)
  where
    go : (t : Bool) → length (before b l) ≤ length l → length (cond t [] (x ∷ before b l)) ≤ length (x ∷ l)
    go true i = omega arith
    go false i = omega arith

pub before_take : (b : ℕ) (l : List ℕ) → take (length (before b l)) l ≡ before b l
unfolding before
before_take b [] = refl
before_take b (x ∷ l) = go (eqb x b) (before_take b l)
  where
    go : (t : Bool) → take (length (before b l)) l ≡ before b l → take (length (cond t [] (x ∷ before b l))) (x ∷ l) ≡ cond t [] (x ∷ before b l)
    go true i = refl
    go false i = ap (λ (y : List ℕ). x ∷ y) i

module _ (s : List ℕ) (i b : ℕ) where
  pub before_end : length s ≤ i → before b (drop i s) ≡ []
  unfolding before
  before_end h = rw (drop_of_length-le s h)

  pub before_here : i < length s → get_or s i 0 ≡ b → before b (drop i s) ≡ []
  unfolding before
  before_here h e = rw (drop-cons s i 0 h) (simp (eq-eqb _ _ e))

  pub before_again : i < length s → (get_or s i 0 ≡ b → ⊥) → before b (drop i s) ≡ get_or s i 0 ∷ before b (drop (suc i) s)
  unfolding before
  before_again h n = rw (drop-cons s i 0 h) (simp (ne_eqb _ _ n))

  pub later_end : length s ≤ i → later b (drop i s) ≡ []
  unfolding later
  later_end h = rw (drop_of_length-le s h)

  pub later_here : i < length s → get_or s i 0 ≡ b → later b (drop i s) ≡ before b (drop (suc i) s) ∷ later b (drop (suc i) s)
  unfolding later
  later_here h e = rw (drop-cons s i 0 h) (simp (eq-eqb _ _ e))

  pub later_again : i < length s → (get_or s i 0 ≡ b → ⊥) → later b (drop i s) ≡ later b (drop (suc i) s)
  unfolding later
  later_again h n = rw (drop-cons s i 0 h) (simp (ne_eqb _ _ n))

-- ---- a turn of the loops of `end_at` and `count_parts`

module _ (s : List ℕ) (b i e : ℕ) where
  pub end_here : i < length s → get_or s i 0 ≡ b → i + length (before b (drop i s)) ≡ e → i ≡ e
  end_here h q p = sym (add-zero i) ∙ ap (λ (l : List ℕ). i + length l) (sym (before_here s i b h q)) ∙ p

  pub end_again : i < length s → (get_or s i 0 ≡ b → ⊥) → i + length (before b (drop i s)) ≡ e → i + 1 + length (before b (drop (i + 1) s)) ≡ e
  end_again h q p =
      let z = ap length (before_again s i b h q) in
      rw (add-one i) (omega (arith, p, z))

  pub end_end : length s ≤ i → i + length (before b (drop i s)) ≡ e → i ≡ e
  end_end h p = sym (add-zero i) ∙ ap (λ (l : List ℕ). i + length l) (sym (before_end s i b h)) ∙ p

  pub count_here : (n : ℕ) → i < length s → get_or s i 0 ≡ b → n + length (later b (drop i s)) ≡ e → n + 1 + length (later b (drop (i + 1) s)) ≡ e
  count_here n h q p =
      let z = ap length (later_here s i b h q) in
      rw (add-one i) (omega (arith, p, z))

  pub count_again : (n : ℕ) → i < length s → (get_or s i 0 ≡ b → ⊥) → n + length (later b (drop i s)) ≡ e → n + length (later b (drop (i + 1) s)) ≡ e
  count_again n h q p = rw (add-one i) (ap (λ (l : List (List ℕ)). n + length l) (sym (later_again s i b h q)) ∙ p)

  pub count_end : (n : ℕ) → length s ≤ i → n + length (later b (drop i s)) ≡ e → n ≡ e
  count_end n h p = sym (add-zero n) ∙ ap (λ (l : List (List ℕ)). n + length l) (sym (later_end s i b h)) ∙ p

-- ---- a text of one byte

pub one_byte : (s : List ℕ) (b : ℕ) → pointwise eqb s (b ∷ []) ≡ is_byte_of s b
unfolding is_byte_of
one_byte [] b = refl
one_byte (x ∷ []) b = go (eqb x b)
  where
    go : (t : Bool) → (t && true) ≡ t
    go true = refl
    go false = refl
one_byte (x ∷ y ∷ s) b = let n : eqb (suc (suc (length s))) 1 ≡ false = ne_eqb _ _ (λ e. omega (arith, e)) in rw n (go (eqb x b))
  where
    go : (t : Bool) → (t && false) ≡ false
    go true = refl
    go false = refl

-- ---- the end of a part

module _ (s : List ℕ) (at b : ℕ) where
  pub end_le : at ≤ length s → end_at_of s at b ≤ length s
  unfolding end_at_of
  end_le h =
      let k : length (before b (drop at s)) ≤ length s - at = rw (length-drop at s) at (before_le b (drop at s)) in
      omega arith

  pub end_ge : at ≤ end_at_of s at b
  unfolding end_at_of
  end_ge = omega arith

  pub end_part : take (end_at_of s at b - at) (drop at s) ≡ before b (drop at s)
  unfolding end_at_of
  end_part = rw (back at (length (before b (drop at s)))) (before_take b (drop at s))
    where
      back : (a n : ℕ) → a + n - a ≡ n
      back a n = omega arith

-- ---- the parts from a place on

pub parts_past : (b : ℕ) (s : List ℕ) (at : ℕ) → length s < at → parts_at b s at ≡ []
unfolding parts_at
parts_past b s at h = simp (lt-ltb _ _ h)

pub parts_in : (b : ℕ) (s : List ℕ) (at : ℕ) → at ≤ length s → parts_at b s at ≡ split b (drop at s)
unfolding parts_at
parts_in b s at h = simp (le-ltb _ _ h)

parts_suc : (b x : ℕ) (l : List ℕ) (k : ℕ) → parts_at b (x ∷ l) (suc k) ≡ parts_at b l k
unfolding parts_at
parts_suc b x l k = go (ltb (length l) k) refl
  where
    go : (t : Bool) → ltb (length l) k ≡ t → cond (ltb (suc (length l)) (suc k)) [] (split b (drop k l)) ≡ cond (ltb (length l) k) [] (split b (drop k l))
    go true e = let h : length l < k = ltb-true _ _ e in simp (e, lt-ltb (suc (length l)) (suc k) (omega arith))
    go false e = let h : k ≤ length l = ltb-false _ _ e in simp (e, le-ltb (suc (length l)) (suc k) (omega arith))

pub later_parts : (b : ℕ) (l : List ℕ) → later b l ≡ parts_at b l (suc (length (before b l)))
unfolding later before split
later_parts b [] = sym (parts_past b [] 1 (omega arith))
later_parts b (x ∷ l) = go (eqb x b) (later_parts b l)
  where
    zeroth : parts_at b l 0 ≡ split b l
    zeroth = parts_in b l 0 (omega arith)

    go : (t : Bool) → later b l ≡ parts_at b l (suc (length (before b l))) → cond t (before b l ∷ later b l) (later b l) ≡ parts_at b (x ∷ l) (suc (length (cond t [] (x ∷ before b l))))
    go true i = sym (parts_suc b x l 0 ∙ zeroth)
    go false i = i ∙ sym (parts_suc b x l (suc (length (before b l))))

parts_drop : (b : ℕ) (s : List ℕ) (at k : ℕ) → at ≤ length s → parts_at b (drop at s) k ≡ parts_at b s (at + k)
unfolding parts_at
parts_drop b s at k h = go (ltb (length s) (at + k)) refl
  where
    go : (t : Bool) → ltb (length s) (at + k) ≡ t → cond (ltb (length (drop at s)) k) [] (split b (drop k (drop at s))) ≡ cond (ltb (length s) (at + k)) [] (split b (drop (at + k) s))
    go true e =
        let g : length s < at + k = ltb-true _ _ e in
        let m : length (drop at s) < k = rw (length-drop at s) (omega arith) in
        simp (e, lt-ltb _ _ m)
    go false e =
        let g : at + k ≤ length s = ltb-false _ _ e in
        let m : k ≤ length (drop at s) = rw (length-drop at s) (omega arith) in
        simp (e, le-ltb _ _ m, drop-drop)

pub later_after : (s : List ℕ) (at b : ℕ) → at ≤ length s → later b (drop at s) ≡ parts_at b s (end_at_of s at b + 1)
unfolding end_at_of
later_after s at b h =
    later_parts b (drop at s)
    ∙ parts_drop b s at (suc (length (before b (drop at s)))) h
    ∙ ap (parts_at b s) (next at (length (before b (drop at s))))
  where
    next : (a n : ℕ) → a + suc n ≡ a + n + 1
    next a n = omega arith

-- going on to the next part
pub after_again : (s : List ℕ) (at b n : ℕ) → get_or (parts_at b s (after_of s at b)) n [] ≡ get_or (parts_at b s at) (suc n) []
unfolding after_of split
after_again s at b n = go (ltb (length s) at) refl
  where
    go : (t : Bool) → ltb (length s) at ≡ t → get_or (parts_at b s (cond (ltb (length s) at) at (end_at_of s at b + 1))) n [] ≡ get_or (parts_at b s at) (suc n) []
    go true e =
        let h : length s < at = ltb-true _ _ e in
        simp (e, parts_past b s at h)
    go false e =
        let h : at ≤ length s = ltb-false _ _ e in
        simp (e, parts_in b s at h) (ap (λ (l : List (List ℕ)). get_or l n []) (sym (later_after s at b h)))

pub after_le : (s : List ℕ) (at b : ℕ) → at ≤ length s + 1 → after_of s at b ≤ length s + 1
unfolding after_of
after_le s at b h = go (ltb (length s) at) refl
  where
    go : (t : Bool) → ltb (length s) at ≡ t → cond (ltb (length s) at) at (end_at_of s at b + 1) ≤ length s + 1
    go true e = simp e h
    go false e = let k = end_le s at b (ltb-false _ _ e) in simp e (omega arith)

-- ---- what `after`, `part_at` and `part` lean on

pub end_in : (s : List ℕ) (at b e : ℕ) → e ≡ end_at_of s at b → at ≤ length s → (at ≤ e) × (e ≤ length s)
end_in s at b e q h = rw q (end_ge s at b, end_le s at b h)

pub part_is : (s : List ℕ) (at b e : ℕ) → e ≡ end_at_of s at b → at ≤ length s → take (e - at) (drop at s) ≡ get_or (parts_at b s at) 0 []
unfolding split
part_is s at b e q h = rw (q, parts_in b s at h) (end_part s at b)

module _ (s : List ℕ) (b k : ℕ) (z : List ℕ) where
  pub part_start : get_or (parts_at b s 0) (k - 0) [] ≡ get_or (split b s) k []
  part_start = let n : k - 0 ≡ k = omega arith in rw (n, parts_in b s 0 (omega arith))

  pub part_again : (at j r : ℕ) → j < k → r ≡ after_of s at b → get_or (parts_at b s at) (k - j) [] ≡ z → get_or (parts_at b s r) (k - (j + 1)) [] ≡ z
  part_again at j r h q e =
      let n : k - j ≡ suc (k - (j + 1)) = omega arith in
      rw q (after_again s at b (k - (j + 1)) ∙ (rw n at e))

  pub part_end : (at j : ℕ) → k ≤ j → get_or (parts_at b s at) (k - j) [] ≡ z → get_or (parts_at b s at) 0 [] ≡ z
  part_end at j h e = let n : k - j ≡ 0 = omega arith in rw n at e

-- ---- lines

-- a part that has bytes is no empty last one
ended_cons : (x : ℕ) (l : List ℕ) → ended ((x ∷ l) ∷ []) ≡ (x ∷ l) ∷ []
unfolding ended
ended_cons x l = refl

ended_more : (l : List ℕ) (b : ℕ) (m : List ℕ) → ended (l ∷ split b m) ≡ l ∷ ended (split b m)
unfolding ended split
ended_more [] b m = refl
ended_more (x ∷ l) b m = refl

pub lines_none : text_lines [] ≡ []
unfolding text_lines split ended before later
lines_none = refl

-- the last line, where no LF follows
last_line : (s : List ℕ) (at : ℕ) → at < length s → length s ≤ end_at_of s at 10 → ended (before 10 (drop at s) ∷ []) ≡ before 10 (drop at s) ∷ []
unfolding end_at_of
last_line s at h k = go (eqb (get_or s at 0) 10) refl
  where
    go : (t : Bool) → eqb (get_or s at 0) 10 ≡ t → ended (before 10 (drop at s) ∷ []) ≡ before 10 (drop at s) ∷ []
    go true e =
        let z = ap length (before_here s at 10 h (eqb-true _ _ e)) in
        absurd (lt_irrefl at (lt_of_lt_of_le h (le_trans k (le_of_eq (rw z (add-zero at))))))
    go false e = rw (before_again s at 10 h (eqb-false _ _ e)) (ended_cons _ _)

-- a text that is not at its end has a line first, and then the lines after it
pub lines_again : (s : List ℕ) (at : ℕ) → at < length s → text_lines (drop at s) ≡ take (end_at_of s at 10 - at) (drop at s) ∷ text_lines (drop (end_at_of s at 10 + 1) s)
unfolding text_lines split
lines_again s at h =
    let e = end_at_of s at 10 in
    let k : at ≤ length s = omega arith in
    rw (end_part s at 10) (go (ltb (length s) (e + 1)) refl (later_after s at 10 k))
  where
    go : (t : Bool) → ltb (length s) (end_at_of s at 10 + 1) ≡ t → later 10 (drop at s) ≡ parts_at 10 s (end_at_of s at 10 + 1) → ended (before 10 (drop at s) ∷ later 10 (drop at s)) ≡ before 10 (drop at s) ∷ text_lines (drop (end_at_of s at 10 + 1) s)
    go true q p =
        let f : length s < end_at_of s at 10 + 1 = ltb-true _ _ q in
        let g : length s ≤ end_at_of s at 10 = omega arith in
        let g2 : length s ≤ end_at_of s at 10 + 1 = omega arith in
        rw (p ∙ parts_past 10 s (end_at_of s at 10 + 1) f, drop_of_length-le s g2, lines_none) (last_line s at h g)
    go false q p = rw (p ∙ parts_in 10 s (end_at_of s at 10 + 1) (ltb-false _ _ q)) (ended_more (before 10 (drop at s)) 10 (drop (end_at_of s at 10 + 1) s))
