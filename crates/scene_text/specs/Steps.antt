-- Nobody has to believe this page: what private functions answer on the way, tied to Scene by `gathered`
-- (proofs/Gathering.antt). They read a line or a block step by step, and say what it all comes to from there on.
use Rattle.std.specs.Prelude.{ℕ, ◌+◌, List, [], Bool, cond, drop, Float}
use Rattle.fields.specs.Split.{split}
use Rattle.scene_text.specs.Cells.{Values}
use Rattle.scene_text.specs.Lines.{read_row_of}
use Rattle.scene_text.specs.Tables.{put_all}
use Rattle.scene_text.specs.Blocks.{Block, read_lines_of}

-- a slice of doubles and one of whole numbers, and whether all was well formed so far
pub record Table : Type 0 where
  pub ok : Bool
  pub doubles : List Float
  pub nd : ℕ
  pub wholes : List ℕ
  pub nw : ℕ

abbrev pub table : Bool → List Float → ℕ → List ℕ → ℕ → Table
table b d nd w nw = record { ok = b; doubles = d; nd = nd; wholes = w; nw = nw }

unfoldable pub put : Values → Table → Table
put v t =
    let d = put_all t.doubles t.nd v.doubles in
    let w = put_all t.wholes t.nw v.wholes in
    table v.ok d.list d.next w.list w.next

-- a line, read up to this place, with this form to come
unfoldable pub line_from : List ℕ → ℕ → List ℕ → Table → Table
line_from line at form t = cond t.ok (put (read_row_of form (drop at line)) t) t

-- a block whose values are in slices
pub record Reading : Type 0 where
  pub ok : Bool
  pub line : ℕ
  pub rows : ℕ
  pub read : Table
  pub rest : List (List ℕ)

abbrev pub reading : Bool → ℕ → ℕ → Table → List (List ℕ) → Reading
reading b n k t ls = record { ok = b; line = n; rows = k; read = t; rest = ls }

-- b behind k lines
unfoldable pub onto : ℕ → Table → Block → Reading
onto k t b = reading b.ok b.line (k + b.rows) (put b.read t) b.rest

-- the lines from place at of the text on, if all before are well formed
unfoldable pub rest_at : Bool → List ℕ → ℕ → List (List ℕ)
rest_at b s at = cond b (split 10 (drop at s)) []

-- a block that was read up to line n at this place, after k lines of values: `more` where it goes on, else `ok` where
-- it is over
unfoldable pub comes_to : List ℕ → List ℕ → List ℕ → Bool → Bool → ℕ → ℕ → ℕ → Table → Reading
comes_to s names form more ok at n k t =
    cond more (onto k t (read_lines_of names form (split 10 (drop at s)) n)) (reading ok n k t (rest_at ok s at))
