-- The lines of a text, one after the other.
use Rattle.std.specs.Prelude.{ℕ, suc, ◌+◌, List, [], ◌∷◌, Bool, true, false, cond, eqb, length}
use Rattle.scene_text.specs.Names.{ended}
use Rattle.scene_text.specs.Cells.{Values, no_values, bad_values, joined}
use Rattle.scene_text.specs.Lines.{is_nil, read_row_of}

unfoldable pub same_of : List ℕ → List ℕ → Bool
same_of [] [] = true
same_of [] (y ∷ b) = false
same_of (x ∷ a) [] = false
same_of (x ∷ a) (y ∷ b) = cond (eqb x y) (same_of a b) false

-- What a block of lines is: whether all are well formed, the number of the line to come or else of the first bad or
-- missing one,
-- how many lines of values there are, what they hold, and the lines behind the block
pub record Block : Type 0 where
  pub ok : Bool
  pub line : ℕ
  pub rows : ℕ
  pub read : Values
  pub rest : List (List ℕ)

abbrev pub block : Bool → ℕ → ℕ → Values → List (List ℕ) → Block
block b n k v ls = record { ok = b; line = n; rows = k; read = v; rest = ls }

-- a block that is over, with line n to come
abbrev pub over : ℕ → List (List ℕ) → Block
over n ls = block true n 0 no_values ls

-- line n is bad or missing
abbrev pub stopped : ℕ → Block
stopped n = block false n 0 bad_values []

-- line n holds v, and then comes b
unfoldable pub line_then : Values → ℕ → Block → Block
line_then v n b =
    cond v.ok (block b.ok b.line (suc b.rows) (joined v b.read) b.rest) (block false n 0 v [])

-- In all that follows the lines are a text's parts between its LFs. What follows the last LF is the last part, and no
-- line.

-- line n, the first of these, has this form
unfoldable pub read_one_of : List ℕ → List (List ℕ) → ℕ → Block
read_one_of form [] n = stopped n
read_one_of form (l ∷ ls) n = cond (is_nil ls) (stopped n) (line_then (read_row_of form (ended l)) n (over (n + 1) ls))

-- whether a text may end with so many bytes behind its last LF, before this line of names: with none, and if there are
-- no names to come
unfoldable pub ends_well_of : ℕ → List ℕ → Bool
ends_well_of bytes names = cond (eqb bytes 0) (eqb (length names) 0) false

-- any number of lines of this form, up to the next block's line of names; up to the text's end if there are no names
unfoldable pub read_lines_of : List ℕ → List ℕ → List (List ℕ) → ℕ → Block
read_lines_of names form [] n = stopped n
read_lines_of names form (l ∷ ls) n =
    cond (is_nil ls) (cond (ends_well_of (length l) names) (over n (l ∷ ls)) (stopped n))
    (cond (same_of (ended l) names) (over (n + 1) ls)
    (line_then (read_row_of form (ended l)) n (read_lines_of names form ls (n + 1))))

-- line n is this line of names: no line has the empty form
unfoldable pub read_names_of : List ℕ → List (List ℕ) → ℕ → Block
read_names_of names ls n = read_lines_of names [] ls n
