-- Laws of a text that is read line by line. Assumes nothing.
use mathlib.Core.Path.{◌≡◌, refl, sym, ap, ◌∙◌}
use mathlib.Core.List.{List, [], ◌∷◌, ◌++◌}
use mathlib.Core.Bool.{Bool, true, false, cond}
use Prim.Native.Nat.{ℕ, suc, ◌+◌, ◌-◌, ◌≤◌, ◌<◌}
use native.Mathlib.Nat.{add-zero, lt_irrefl}
use native.Mathlib.Omega.{arith}
use lib.Dec.{eqb}
use lib.ListN.{length, take, drop, length-drop}
use lib.Ieee.{Float}
use borrow.Author.Tests.{eqb-true}
use Rattle.fields.specs.Split.{before, split, end_at_of, parts_at}
use Rattle.fields.proofs.Parts.{parts_past, parts_in, later_after}
use Rattle.scene_text.specs.Names.{ended}
use Rattle.scene_text.specs.Cells.{Values, joined}
use Rattle.scene_text.specs.Lines.{is_nil, read_row_of}
use Rattle.scene_text.specs.Tables.{put_all}
use Rattle.scene_text.specs.Blocks.{same_of, Block, block, over, stopped, line_then, read_one_of, ends_well_of, read_lines_of}
use Rattle.scene_text.specs.Steps.{Table, table, put, Reading, reading, onto, rest_at, comes_to}
use Rattle.scene_text.proofs.Filling.{put_ok, put_any, put_then}

-- ---- the first line of a text

take_ended : (b : ℕ) (l : List ℕ) → length (before b l) < length l → take (suc (length (before b l))) l ≡ before b l ++ (b ∷ [])
unfolding before
take_ended b [] h = absurd (lt_irrefl 0 h)
take_ended b (x ∷ l) h = go (eqb x b) refl h (take_ended b l)
  where
    go : (t : Bool) → eqb x b ≡ t → length (cond t [] (x ∷ before b l)) < suc (length l) → (length (before b l) < length l → take (suc (length (before b l))) l ≡ before b l ++ (b ∷ [])) → take (suc (length (cond t [] (x ∷ before b l)))) (x ∷ l) ≡ cond t [] (x ∷ before b l) ++ (b ∷ [])
    go true e g i = ap (λ (n : ℕ). n ∷ []) (eqb-true _ _ e)
    go false e g i = ap (λ (y : List ℕ). x ∷ y) (i (omega (arith, g)))

split_not_nil : (b : ℕ) (l : List ℕ) → is_nil (split b l) ≡ false
unfolding is_nil split
split_not_nil b l = refl

module _ (s : List ℕ) (at e : ℕ) (q : e ≡ end_at_of s at 10) (h : at ≤ length s) where
  line_text_lem : e < length s → take (e + 1 - at) (drop at s) ≡ ended (before 10 (drop at s))
  unfolding ended end_at_of
  line_text_lem g =
      let n : e + 1 - at ≡ suc (length (before 10 (drop at s))) = omega (arith, q) in
      let m : length (before 10 (drop at s)) < length (drop at s) = rw (length-drop at s) (omega (arith, q)) in
      rw n (take_ended 10 (drop at s) m)

  first : e < length s → split 10 (drop at s) ≡ before 10 (drop at s) ∷ split 10 (drop (e + 1) s)
  unfolding split
  first g =
      let k : e + 1 ≤ length s = omega arith in
      ap (λ (m : List (List ℕ)). before 10 (drop at s) ∷ m) (later_after s at 10 h ∙ ap (λ (i : ℕ). parts_at 10 s (i + 1)) (sym q) ∙ parts_in 10 s (e + 1) k)

  only : length s ≤ e → split 10 (drop at s) ≡ before 10 (drop at s) ∷ []
  unfolding split
  only g =
      let k : length s < e + 1 = omega arith in
      ap (λ (m : List (List ℕ)). before 10 (drop at s) ∷ m) (later_after s at 10 h ∙ ap (λ (i : ℕ). parts_at 10 s (i + 1)) (sym q) ∙ parts_past 10 s (e + 1) k)

  bytes : length (before 10 (drop at s)) ≡ e - at
  unfolding end_at_of
  bytes = omega (arith, q)

-- ---- the first of the lines

lines_row : (names form x : List ℕ) (ls : List (List ℕ)) (n : ℕ) → is_nil ls ≡ false → same_of (ended x) names ≡ false → read_lines_of names form (x ∷ ls) n ≡ line_then (read_row_of form (ended x)) n (read_lines_of names form ls (n + 1))
unfolding read_lines_of
lines_row names form x ls n a b = rw (a, b)

lines_over : (names form x : List ℕ) (ls : List (List ℕ)) (n : ℕ) → is_nil ls ≡ false → same_of (ended x) names ≡ true → read_lines_of names form (x ∷ ls) n ≡ over (n + 1) ls
unfolding read_lines_of
lines_over names form x ls n a b = rw (a, b)

lines_last : (names form x : List ℕ) (n : ℕ) → read_lines_of names form (x ∷ []) n ≡ cond (ends_well_of (length x) names) (over n (x ∷ [])) (stopped n)
unfolding read_lines_of is_nil
lines_last names form x n = refl

one_row : (form x : List ℕ) (ls : List (List ℕ)) (n : ℕ) → is_nil ls ≡ false → read_one_of form (x ∷ ls) n ≡ line_then (read_row_of form (ended x)) n (over (n + 1) ls)
unfolding read_one_of
one_row form x ls n a = rw a

one_last : (form x : List ℕ) (n : ℕ) → read_one_of form (x ∷ []) n ≡ stopped n
unfolding read_one_of is_nil
one_last form x n = refl

-- ---- with slices

then_is : (v : Values) (n : ℕ) (b : Block) → v.ok ≡ true → line_then v n b ≡ block b.ok b.line (suc b.rows) (joined v b.read) b.rest
unfolding line_then
then_is v n b e = ap (λ (c : Bool). cond c (block b.ok b.line (suc b.rows) (joined v b.read) b.rest) (block false n 0 v [])) e

onto_joined : (v : Values) (k : ℕ) (t : Table) (b : Block) → v.ok ≡ true → onto (k + 1) (put v t) b ≡ onto k t (block b.ok b.line (suc b.rows) (joined v b.read) b.rest)
unfolding onto
onto_joined v k t b e = let m : k + 1 + b.rows ≡ k + suc b.rows = omega arith in rw (m, put_then v b.read t e)

onto_then : (v : Values) (n k : ℕ) (t : Table) (b : Block) → v.ok ≡ true → onto (k + 1) (put v t) b ≡ onto k t (line_then v n b)
onto_then v n k t b e = onto_joined v k t b e ∙ ap (onto k t) (sym (then_is v n b e))

onto_stop : (v : Values) (n k : ℕ) (t : Table) (b : Block) → v.ok ≡ false → reading false n k (put v t) [] ≡ onto k t (line_then v n b)
unfolding onto line_then
onto_stop v n k t b e = rw (e, add-zero k)

onto_over : (n k : ℕ) (t : Table) (ls : List (List ℕ)) → reading true n k (table true t.doubles t.nd t.wholes t.nw) ls ≡ onto k t (over n ls)
unfolding onto put put_all
onto_over n k t ls = rw (add-zero k)

onto_stopped : (n k : ℕ) (t : Table) → reading false n k (table false t.doubles t.nd t.wholes t.nw) [] ≡ onto k t (stopped n)
unfolding onto put put_all
onto_stopped n k t = rw (add-zero k)

rest_go : (s : List ℕ) (at : ℕ) → rest_at true s at ≡ split 10 (drop at s)
unfolding rest_at
rest_go s at = refl

rest_no : (s : List ℕ) (at : ℕ) → rest_at false s at ≡ []
unfolding rest_at
rest_no s at = refl

-- a row that was read, by the lines' own words
module _ (s form : List ℕ) (at e : ℕ) (q : e ≡ end_at_of s at 10) (h : at ≤ length s) (g : e < length s) (o b : Bool) (d d2 : List Float) (nd nd2 : ℕ) (w w2 : List ℕ) (nw nw2 : ℕ) (r : table b d2 nd2 w2 nw2 ≡ put (read_row_of form (take (e + 1 - at) (drop at s))) (table true d nd w nw)) where
  row_is : (z : Bool) → b ≡ z → table z d2 nd2 w2 nw2 ≡ put (read_row_of form (ended (before 10 (drop at s)))) (table o d nd w nw)
  row_is z y = ap (λ (c : Bool). table c d2 nd2 w2 nw2) (sym y) ∙ r ∙ ap (λ (x : List ℕ). put (read_row_of form x) (table true d nd w nw)) (line_text_lem s at e q h g) ∙ put_any (read_row_of form (ended (before 10 (drop at s)))) o d nd w nw

  row_ok : (z : Bool) → b ≡ z → (read_row_of form (ended (before 10 (drop at s)))).ok ≡ z
  row_ok z y = sym (put_ok (read_row_of form (ended (before 10 (drop at s)))) (table o d nd w nw)) ∙ sym (ap (λ (t : Table). t.ok) (row_is z y))

  module _ (names : List ℕ) (m : Bool) (n k : ℕ) (y : m ≡ true) (x : false ≡ same_of (take (e + 1 - at) (drop at s)) names) where
    row-lines : read_lines_of names form (split 10 (drop at s)) n ≡ line_then (read_row_of form (ended (before 10 (drop at s)))) n (read_lines_of names form (split 10 (drop (e + 1) s)) (n + 1))
    row-lines =
        let x2 : same_of (ended (before 10 (drop at s))) names ≡ false = rw (← line_text_lem s at e q h g) (sym x) in
        ap (λ (ls : List (List ℕ)). read_lines_of names form ls n) (first s at e q h g) ∙ lines_row names form (before 10 (drop at s)) (split 10 (drop (e + 1) s)) n (split_not_nil 10 (drop (e + 1) s)) x2

    pub stands-row : b ≡ true → comes_to s names form true true (e + 1) (n + 1) (k + 1) (table true d2 nd2 w2 nw2) ≡ comes_to s names form m o at n k (table o d nd w nw)
    unfolding comes_to
    stands-row z =
        let v = read_row_of form (ended (before 10 (drop at s))) in
        rw (y, row-lines, row_is true z) (onto_then v n k (table o d nd w nw) (read_lines_of names form (split 10 (drop (e + 1) s)) (n + 1)) (row_ok true z))

    pub stands_bad : b ≡ false → comes_to s names form false false at n k (table false d2 nd2 w2 nw2) ≡ comes_to s names form m o at n k (table o d nd w nw)
    unfolding comes_to rest_at
    stands_bad z =
        let v = read_row_of form (ended (before 10 (drop at s))) in
        rw (y, row-lines, row_is false z) (onto_stop v n k (table o d nd w nw) (read_lines_of names form (split 10 (drop (e + 1) s)) (n + 1)) (row_ok false z))

  module _ (n : ℕ) (y : o ≡ true) where
    row_one : read_one_of form (rest_at o s at) n ≡ line_then (read_row_of form (ended (before 10 (drop at s)))) n (over (n + 1) (split 10 (drop (e + 1) s)))
    unfolding rest_at
    row_one = rw y (ap (λ (ls : List (List ℕ)). read_one_of form ls n) (first s at e q h g) ∙ one_row form (before 10 (drop at s)) (split 10 (drop (e + 1) s)) n (split_not_nil 10 (drop (e + 1) s)))

    pub one-is : b ≡ true → reading true (n + 1) 1 (table true d2 nd2 w2 nw2) (rest_at true s (e + 1)) ≡ onto 0 (table true d nd w nw) (read_one_of form (rest_at o s at) n)
    unfolding rest_at
    one-is z =
        let v = read_row_of form (ended (before 10 (drop at s))) in
        let f = over (n + 1) (split 10 (drop (e + 1) s)) in
        onto_over (n + 1) 1 (table true d2 nd2 w2 nw2) (split 10 (drop (e + 1) s))
        ∙ ap (λ (t : Table). onto 1 t f) (row_is true z ∙ sym (put_any v o d nd w nw))
        ∙ onto_then v n 0 (table true d nd w nw) f (row_ok true z)
        ∙ ap (onto 0 (table true d nd w nw)) (sym row_one)

    pub one-not : b ≡ false → reading false n 0 (table false d2 nd2 w2 nw2) (rest_at false s at) ≡ onto 0 (table true d nd w nw) (read_one_of form (rest_at o s at) n)
    unfolding rest_at
    one-not z =
        let v = read_row_of form (ended (before 10 (drop at s))) in
        let f = over (n + 1) (split 10 (drop (e + 1) s)) in
        ap (λ (t : Table). reading false n 0 t []) (row_is false z ∙ sym (put_any v o d nd w nw))
        ∙ onto_stop v n 0 (table true d nd w nw) f (row_ok false z)
        ∙ ap (onto 0 (table true d nd w nw)) (sym row_one)

module _ (s form : List ℕ) (at e : ℕ) (q : e ≡ end_at_of s at 10) (h : at ≤ length s) (o : Bool) (d : List Float) (nd : ℕ) (w : List ℕ) (nw : ℕ) where
  module _ (names : List ℕ) (m : Bool) (n k : ℕ) (y : m ≡ true) where
    pub stands_over : e < length s → true ≡ same_of (take (e + 1 - at) (drop at s)) names → comes_to s names form false true (e + 1) (n + 1) k (table true d nd w nw) ≡ comes_to s names form m o at n k (table o d nd w nw)
    unfolding comes_to rest_at
    stands_over g x =
        let x2 : same_of (ended (before 10 (drop at s))) names ≡ true = rw (← line_text_lem s at e q h g) (sym x) in
        let l = ap (λ (ls : List (List ℕ)). read_lines_of names form ls n) (first s at e q h g) ∙ lines_over names form (before 10 (drop at s)) (split 10 (drop (e + 1) s)) n (split_not_nil 10 (drop (e + 1) s)) x2 in
        rw (y, l) (onto_over (n + 1) k (table o d nd w nw) (split 10 (drop (e + 1) s)))

    pub stands-last : (b : Bool) → length s ≤ e → b ≡ ends_well_of (e - at) names → comes_to s names form false b at n k (table b d nd w nw) ≡ comes_to s names form m o at n k (table o d nd w nw)
    unfolding comes_to
    stands-last b g x =
        let x2 : ends_well_of (length (before 10 (drop at s))) names ≡ b = rw (bytes s at e q h) (sym x) in
        let l = ap (λ (ls : List (List ℕ)). read_lines_of names form ls n) (only s at e q h g) ∙ lines_last names form (before 10 (drop at s)) n ∙ ap (λ (c : Bool). cond c (over n (before 10 (drop at s) ∷ [])) (stopped n)) x2 in
        rw (y, l) (go b)
      where
        go : (b : Bool) → reading b n k (table b d nd w nw) (rest_at b s at) ≡ onto k (table o d nd w nw) (cond b (over n (before 10 (drop at s) ∷ [])) (stopped n))
        go true = ap (reading true n k (table true d nd w nw)) (rest_go s at ∙ only s at e q h g) ∙ onto_over n k (table o d nd w nw) (before 10 (drop at s) ∷ [])
        go false = ap (reading false n k (table false d nd w nw)) (rest_no s at) ∙ onto_stopped n k (table o d nd w nw)

  pub one_unended : (n : ℕ) → o ≡ true → length s ≤ e → reading false n 0 (table false d nd w nw) (rest_at false s at) ≡ onto 0 (table true d nd w nw) (read_one_of form (rest_at o s at) n)
  unfolding rest_at
  one_unended n y g =
      rw y (onto_stopped n 0 (table true d nd w nw) ∙ ap (onto 0 (table true d nd w nw)) (sym (ap (λ (ls : List (List ℕ)). read_one_of form ls n) (only s at e q h g) ∙ one_last form (before 10 (drop at s)) n)))

pub one_none : (s form : List ℕ) (at : ℕ) (o : Bool) (d : List Float) (nd : ℕ) (w : List ℕ) (nw n : ℕ) → o ≡ false → reading false n 0 (table false d nd w nw) (rest_at false s at) ≡ onto 0 (table true d nd w nw) (read_one_of form (rest_at o s at) n)
unfolding rest_at read_one_of
one_none s form at o d nd w nw n y = rw y (onto_stopped n 0 (table true d nd w nw))

-- ---- the loop over lines

pub stands_start : (s names form : List ℕ) (b : Bool) (at n : ℕ) (d : List Float) (w : List ℕ) → comes_to s names form b b at n 0 (table b d 0 w 0) ≡ onto 0 (table true d 0 w 0) (read_lines_of names form (rest_at b s at) n)
unfolding comes_to rest_at read_lines_of onto put put_all
stands_start s names form true at n d w = refl
stands_start s names form false at n d w = refl

pub stands_end : (s names form : List ℕ) (m b : Bool) (at n k : ℕ) (t : Table) (z : Reading) → m ≡ false → comes_to s names form m b at n k t ≡ z → reading b n k t (rest_at b s at) ≡ z
unfolding comes_to
stands_end s names form m b at n k t z y e = rw y at e

-- what is left of a text of n bytes
abbrev pub left : Bool → ℕ → ℕ → ℕ
left m n at = cond m (n + 1 - at) 0

pub less : (m b : Bool) (n at at2 : ℕ) → m ≡ true → at ≤ n → at2 ≤ n → (b ≡ true → at < at2) → left b n at2 < left m n at
less m true n at at2 y h g f = let k : at < at2 = f refl in rw y (omega arith)
less m false n at at2 y h g f = rw y (omega arith)
