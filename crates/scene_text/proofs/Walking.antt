-- Laws of a line that is read cell by cell. Assumes nothing.
use mathlib.Core.Path.{◌≡◌, refl, sym, ap, ◌∙◌}
use mathlib.Core.List.{List, [], ◌∷◌}
use mathlib.Core.Bool.{Bool, true, false, cond}
use Prim.Native.Nat.{ℕ, suc, ◌+◌, ◌-◌, ◌≤◌, ◌<◌}
use native.Mathlib.Nat.{lt_irrefl, lt_of_lt_of_le}
use native.Mathlib.Omega.{arith}
use Rattle.std.proofs.lemmas.Grind.{common_steps}
use lib.Dec.{eqb}
use lib.ListN.{length, take, drop, get_or, length-drop, drop_of_length-le}
use lib.Seq.{drop-cons, drop-drop}
use lib.Ieee.{Float}
use borrow.Author.Tests.{lt-ltb, le-ltb, eqb-true, eqb-false}
use Rattle.fields.specs.Split.{before, end_at_of}
use Rattle.fields.proofs.Parts.{end_part}
use Rattle.scene_text.specs.Cells.{Values, no_values, bad_values, joined, read_cell_of}
use Rattle.scene_text.specs.Lines.{is_nil, has, behind, read_row_of}
use Rattle.scene_text.specs.Tables.{put_all}
use Rattle.scene_text.specs.Steps.{Table, table, put, line_from}
use Rattle.scene_text.proofs.Filling.{put_ok, put_any, put_then, put_stop}

pick : (o : Bool) (x y z : Table) → (o ≡ true → x ≡ z) → (o ≡ false → y ≡ z) → cond o x y ≡ z
pick true x y z f g = f refl
pick false x y z f g = g refl

line_go : (l : List ℕ) (at : ℕ) (form : List ℕ) (t : Table) → t.ok ≡ true → line_from l at form t ≡ put (read_row_of form (drop at l)) t
unfolding line_from
line_go l at form t o = ap (λ (b : Bool). cond b (put (read_row_of form (drop at l)) t) t) o

line_put : (l : List ℕ) (at : ℕ) (form : List ℕ) (a : Values) (t : Table) → line_from l at form (put a t) ≡ put (joined a (read_row_of form (drop at l))) t
unfolding line_from
line_put l at form a t = pick (put a t).ok _ _ _ (λ r. put_then a (read_row_of form (drop at l)) t (sym (put_ok a t) ∙ r)) (λ r. put_stop a (read_row_of form (drop at l)) t (sym (put_ok a t) ∙ r))

module _ (l : List ℕ) (at b e : ℕ) (q : e ≡ end_at_of l at b) (h : at ≤ length l) where
  there : e < length l → has b (drop at l) ≡ true
  unfolding has end_at_of
  there g = lt-ltb (length (before b (drop at l))) (length (drop at l)) (rw (length-drop at l) (omega (arith, q)))

  not_there : length l ≤ e → has b (drop at l) ≡ false
  unfolding has end_at_of
  not_there g = le-ltb (length (before b (drop at l))) (length (drop at l)) (rw (length-drop at l) (omega (arith, q)))

  onward : behind b (drop at l) ≡ drop (e + 1) l
  unfolding behind end_at_of
  onward =
      let n : at + suc (length (before b (drop at l))) ≡ e + 1 = omega (arith, q) in
      drop-drop (suc (length (before b (drop at l)))) at l ∙ ap (λ (m : ℕ). drop m l) n

  cell_text_lem : take (e - at) (drop at l) ≡ before b (drop at l)
  cell_text_lem = rw q (end_part l at b)

  line_cell : (k : ℕ) (form : List ℕ) → e < length l → read_row_of (k ∷ b ∷ form) (drop at l) ≡ joined (read_cell_of k (before b (drop at l))) (read_row_of form (drop (e + 1) l))
  unfolding read_row_of
  line_cell k form g = rw (there g, onward)

  -- a cell that ends where it should
  pub cell_again : (k : ℕ) (o : Bool) (d : List Float) (nd : ℕ) (w : List ℕ) (nw : ℕ) (t : Table) (form : List ℕ) → e < length l → o ≡ true → t ≡ put (read_cell_of k (take (e - at) (drop at l))) (table true d nd w nw) → line_from l (e + 1) form t ≡ line_from l at (k ∷ b ∷ form) (table o d nd w nw)
  cell_again k o d nd w nw t form g y p =
      let p2 : t ≡ put (read_cell_of k (before b (drop at l))) (table true d nd w nw) = rw (← cell_text_lem) p in
      let p3 = p2 ∙ put_any (read_cell_of k (before b (drop at l))) o d nd w nw in
      ap (line_from l (e + 1) form) p3
      ∙ line_put l (e + 1) form (read_cell_of k (before b (drop at l))) (table o d nd w nw)
      ∙ ap (λ (v : Values). put v (table o d nd w nw)) (sym (line_cell k form g))
      ∙ sym (line_go l at (k ∷ b ∷ form) (table o d nd w nw) y)

  -- a cell that nothing ends
  pub cell_none : (k : ℕ) (d : List Float) (nd : ℕ) (w : List ℕ) (nw : ℕ) (o : Bool) (form : List ℕ) → length l ≤ e → o ≡ true → line_from l at form (table false d nd w nw) ≡ line_from l at (k ∷ b ∷ form) (table o d nd w nw)
  unfolding line_from read_row_of put put_all
  cell_none k d nd w nw o form g r = rw (r, not_there g)

pub cell_past : (l : List ℕ) (at k b : ℕ) (t : Table) (form : List ℕ) → t.ok ≡ false → line_from l at form t ≡ line_from l at (k ∷ b ∷ form) t
unfolding line_from
cell_past l at k b t form o = rw o

-- ---- behind the last cell

pub ends_is : (l : List ℕ) (at : ℕ) (o : Bool) (d : List Float) (nd : ℕ) (w : List ℕ) (nw : ℕ) → at ≤ length l → o ≡ true → table (eqb at (length l)) d nd w nw ≡ line_from l at [] (table o d nd w nw)
unfolding line_from read_row_of is_nil put put_all
ends_is l at o d nd w nw h r = rw r (go (eqb at (length l)) refl)
  where
    go : (z : Bool) → eqb at (length l) ≡ z → table (eqb at (length l)) d nd w nw ≡ put (cond (is_nil (drop at l)) no_values bad_values) (table true d nd w nw)
    go true q = let s : at ≡ length l = eqb-true _ _ q in let g : length l ≤ at = omega arith in rw (q, drop_of_length-le l g)
    go false q = let s : at ≡ length l → ⊥ = eqb-false _ _ q in let g : at < length l = omega arith in rw (q, drop-cons l at 0 g)

pub ends_not : (l : List ℕ) (at : ℕ) (o : Bool) (d : List Float) (nd : ℕ) (w : List ℕ) (nw : ℕ) → o ≡ false → table o d nd w nw ≡ line_from l at [] (table o d nd w nw)
unfolding line_from
ends_not l at o d nd w nw r = rw r

-- ---- a form, two bytes a cell

pub line_start : (l form : List ℕ) (d : List Float) (nd : ℕ) (w : List ℕ) (nw : ℕ) → line_from l 0 form (table true d nd w nw) ≡ put (read_row_of form l) (table true d nd w nw)
unfolding line_from
line_start l form d nd w nw = refl

two_front : (form : List ℕ) → 2 ≤ length form → get_or form 0 0 ∷ get_or form 1 0 ∷ drop 2 form ≡ form
two_front [] h = absurd (omega arith)
two_front (x ∷ []) h = absurd (omega arith)
two_front (x ∷ y ∷ f) h = refl

rest_whole : (form : List ℕ) → take (length form - 2) (drop 2 form) ≡ drop 2 form
rest_whole form = grind (arith, common_steps)

-- a cell of the form, and those behind it
pub line_again : (l form : List ℕ) (at at2 : ℕ) (t t2 z : Table) → 2 ≤ length form → ((f : List ℕ) → line_from l at2 f t2 ≡ line_from l at (get_or form 0 0 ∷ get_or form 1 0 ∷ f) t) → line_from l at form t ≡ z → line_from l at2 (take (length form - 2) (drop 2 form)) t2 ≡ z
line_again l form at at2 t t2 z h m e = rw (rest_whole form) (m (drop 2 form) ∙ ap (λ f. line_from l at f t) (two_front form h) ∙ e)

short_form : (l : List ℕ) (at : ℕ) (f : List ℕ) (t : Table) → length f ≤ 1 → line_from l at [] t ≡ line_from l at f t
unfolding line_from read_row_of
short_form l at [] t h = refl
short_form l at (x ∷ []) t h = refl
short_form l at (x ∷ y ∷ f) t h = absurd (lt_irrefl 1 (lt_of_lt_of_le (let g : 1 < suc (suc (length f)) = omega arith in g) h))

pub line_end : (l form : List ℕ) (at : ℕ) (t z : Table) → length form < 2 → line_from l at form t ≡ z → line_from l at [] t ≡ z
line_end l form at t z h e = short_form l at form t (omega arith) ∙ e
