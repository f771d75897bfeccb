-- What a cell holds.
use Rattle.std.specs.Prelude.{ℕ, zero, suc, ◌+◌, ◌-◌, List, [], ◌∷◌, ◌++◌, Bool, true, false, cond, eqb, ltb, Float, Option, None, Some}
use Rattle.std.specs.Float.{binary64}
use Rattle.std.specs.Float.Ieee.{of_bits}
use Rattle.fields.specs.Split.{split, is_byte_of}
use Rattle.fields.specs.Number.{read_bits_of, read_whole_of}

-- What a piece of text holds: whether it is well formed, and its doubles and its whole numbers in the text's order, up
-- to the first cell that is not
pub record Values : Type 0 where
  pub ok : Bool
  pub doubles : List Float
  pub wholes : List ℕ

abbrev pub values : Bool → List Float → List ℕ → Values
values b d w = record { ok = b; doubles = d; wholes = w }

abbrev pub no_values : Values
no_values = values true [] []

abbrev pub bad_values : Values
bad_values = values false [] []

-- one piece and then another, of which nothing is read if the first is not well formed
unfoldable pub joined : Values → Values → Values
joined a b = cond a.ok (values b.ok (a.doubles ++ b.doubles) (a.wholes ++ b.wholes)) a

-- ---- numbers

unfoldable pub double_cell : Option ℕ → Values
double_cell (Some n) = values true (of_bits binary64 n ∷ []) []
double_cell None = bad_values

unfoldable pub whole_cell : Option ℕ → Values
whole_cell (Some n) = values true [] (n ∷ [])
whole_cell None = bad_values

-- a whole number below m
unfoldable pub read_below_of : ℕ → Option ℕ → Option ℕ
read_below_of m (Some n) = cond (ltb n m) (Some n) None
read_below_of m None = None

-- the number by which the filter `-` is told from 0, which also means All
abbrev pub no_filter : ℕ
no_filter = 5

-- a filter: its number, or - (45)
unfoldable pub read_filter_of : List ℕ → Option ℕ
read_filter_of f = cond (is_byte_of f 45) (Some no_filter) (read_below_of 5 (read_whole_of f))

-- a whole number of the kind k: f is 102, n 110, the digits are from 48 on
unfoldable pub read_number_of : ℕ → List ℕ → Option ℕ
read_number_of k f =
    cond (eqb k 102) (read_filter_of f) (cond (eqb k 110) (read_whole_of f) (read_below_of (k - 48) (read_whole_of f)))

-- ---- media

-- media are joined by commas (44), and - stands for none
unfoldable pub media_parts : List ℕ → List (List ℕ)
media_parts f = cond (is_byte_of f 45) [] (split 44 f)

-- cells for the media of a ray
abbrev pub media_cells : ℕ
media_cells = 8

-- one more, but no more than one past the cells
unfoldable pub one_more_of : ℕ → ℕ
one_more_of n = cond (ltb n (media_cells + 1)) (n + 1) n

unfoldable pub is_number : Option ℕ → Bool
is_number (Some n) = true
is_number None = false

-- how many media there are, n and those of the list, 9 for more than eight, if each is a whole number
unfoldable pub count_media_of : List (List ℕ) → ℕ → Option ℕ
count_media_of [] n = Some n
count_media_of (f ∷ fs) n = cond (is_number (read_whole_of f)) (count_media_of fs (one_more_of n)) None

unfoldable pub number_or_zero_of : Option ℕ → ℕ
number_or_zero_of (Some n) = n
number_or_zero_of None = 0

-- the first n media of a list, and 0 where there are no more
unfoldable pub media_row : ℕ → List (List ℕ) → List ℕ
media_row zero fs = []
media_row (suc n) [] = 0 ∷ media_row n []
media_row (suc n) (f ∷ fs) = number_or_zero_of (read_whole_of f) ∷ media_row n fs

-- how many media there are, and then eight places for them
unfoldable pub media_cell : Option ℕ → List (List ℕ) → Values
media_cell (Some n) fs = values true [] (n ∷ media_row media_cells fs)
media_cell None fs = bad_values

unfoldable pub read_media_of : List ℕ → Values
read_media_of f = media_cell (count_media_of (media_parts f) 0) (media_parts f)

-- ---- any cell, by its kind: d is 100, l 108

unfoldable pub read_cell_of : ℕ → List ℕ → Values
read_cell_of k f =
    cond (eqb k 100) (double_cell (read_bits_of f)) (cond (eqb k 108) (read_media_of f) (whole_cell (read_number_of k f)))
