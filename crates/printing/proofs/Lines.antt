-- Laws of lines of numbers: one number more. Assumes nothing.
use Prim.Native.Nat.{ℕ, suc, ◌+◌, ◌-◌, ◌≤◌, ◌<◌}
use mathlib.Core.Path.{◌≡◌, refl, ap, sym, ◌∙◌}
use mathlib.Core.List.{List, [], ◌∷◌, ◌++◌}
use mathlib.Core.Bool.{Bool, true, false, cond}
use native.Mathlib.Numerals.{add-one}
use native.Mathlib.Omega.{arith}
use lib.Dec.{eqb, ltb}
use lib.Ieee.{Float}
use lib.ListN.{length, drop, get_or, length-drop, drop_of_length-le}
use lib.Seq.{drop-cons}
use borrow.Author.Tests.{lt-ltb, le-ltb, ltb-true, ltb-false}
use Rattle.printing.specs.Printing.{Out, out, put_all, decimal_text, double_text}
use Rattle.printing.specs.Rows.{spaced, wholes_text, doubles_text, row_text, behind_of}
use Rattle.printing.proofs.Writing.{put_again, put_append, put_join}

-- what stands behind a number that l follows
abbrev sep : {A : Type 0} → List A → ℕ → ℕ
sep [] last = last
sep (x ∷ l) last = 32

module _ {A : Type 0} (text : A → List ℕ) where
  spaced_cons : (x : A) (l : List A) (last : ℕ) → spaced text (x ∷ l) last ≡ text x ++ sep l last ∷ spaced text l last
  unfolding spaced
  spaced_cons x [] last = refl
  spaced_cons x (y ∷ l) last = refl

  sep_is : (l : List A) (last : ℕ) → sep l last ≡ cond (ltb 0 (length l)) 32 last
  sep_is [] last = refl
  sep_is (x ∷ l) last = sym (let h : 0 < suc (length l) = omega arith in rw (lt-ltb 0 (suc (length l)) h))

  after_is : (l : List A) (i last : ℕ) → i < length l → sep (drop (suc i) l) last ≡ behind_of i (length l) last
  unfolding behind_of
  after_is l i last h = sep_is (drop (suc i) l) last ∙ rw (lt-ltb i (length l) h, length-drop) (go (ltb (i + 1) (length l)) refl)
    where
      go : (b : Bool) → ltb (i + 1) (length l) ≡ b → cond (ltb 0 (length l - suc i)) 32 last ≡ cond b 32 last
      go true e = let k : i + 1 < length l = ltb-true (i + 1) (length l) e in rw (lt-ltb 0 (length l - suc i) (omega arith))
      go false e = let k : length l ≤ i + 1 = ltb-false (i + 1) (length l) e in rw (le-ltb 0 (length l - suc i) (omega arith))

  -- a number and what stands behind it are written
  pub spaced_again : (z : A) (l : List A) (i n last g : ℕ) (b b1 b2 : List ℕ) (p p1 p2 : ℕ) (w : Out) → i < n → n ≡ length l → out b1 p1 ≡ put_all b p (text (get_or l i z)) → g ≡ behind_of i n last → out b2 p2 ≡ put_all b1 p1 (g ∷ [])
      → put_all b p (spaced text (drop i l) last) ≡ w → put_all b2 p2 (spaced text (drop (i + 1) l) last) ≡ w
  spaced_again z l i n last g b b1 b2 p p1 p2 w h e f k q v =
      let i-in : i < length l = omega arith in
      let rest = spaced text (drop (suc i) l) last in
      let g-is : g ≡ sep (drop (suc i) l) last = k ∙ ap (λ m. behind_of i m last) e ∙ sym (after_is l i last i-in) in
      let s : put_all b p (text (get_or l i z) ++ sep (drop (suc i) l) last ∷ rest) ≡ w = ap (put_all b p) (sym (ap (λ m. spaced text m last) (drop-cons l i z i-in) ∙ spaced_cons (get_or l i z) (drop (suc i) l) last)) ∙ v in
      let t : put_all b1 p1 (g ∷ rest) ≡ w =
      ap (λ (o : Out). put_all o.buf o.at (g ∷ rest)) f ∙ put_append b p (text (get_or l i z)) (g ∷ rest) ∙ ap (λ m. put_all b p (text (get_or l i z) ++ m ∷ rest)) g-is ∙ s in
      rw (add-one i) (put_again b1 b2 p1 p2 g rest w q t)

  pub spaced_end : (l : List A) (i n last : ℕ) (b : List ℕ) (p : ℕ) (w : Out) → n ≤ i → n ≡ length l → put_all b p (spaced text (drop i l) last) ≡ w → out b p ≡ w
  unfolding spaced put_all
  spaced_end l i n last b p w h e v = let k : length l ≤ i = omega arith in rw (drop_of_length-le l k) at v

-- ---- a whole line

pub row_wholes : (ws : List ℕ) (ds : List Float) (b : List ℕ) (p : ℕ) (w : Out) → eqb (length ds) 0 ≡ true → w ≡ put_all b p (spaced (decimal_text 20) ws 10) → w ≡ put_all b p (row_text ws ds)
unfolding row_text wholes_text
row_wholes ws ds b p w e f = rw e f

pub row_both : (ws : List ℕ) (ds : List Float) (b b1 : List ℕ) (p p1 : ℕ) (w : Out) → eqb (length ds) 0 ≡ false → out b1 p1 ≡ put_all b p (spaced (decimal_text 20) ws 32) → w ≡ put_all b1 p1 (spaced double_text ds 10)
    → w ≡ put_all b p (row_text ws ds)
unfolding row_text wholes_text doubles_text
row_both ws ds b b1 p p1 w e f g = rw e (put_join b b1 p p1 (spaced (decimal_text 20) ws 32) (spaced double_text ds 10) w f g)
