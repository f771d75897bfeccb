-- What a line of values holds, by its form.
use Rattle.std.specs.Prelude.{ℕ, suc, List, [], ◌∷◌, Bool, true, false, cond, ltb, length, drop}
use Rattle.fields.specs.Split.{before}
use Rattle.scene_text.specs.Cells.{Values, no_values, bad_values, joined, read_cell_of}

unfoldable pub is_nil : {A : Type 0} → List A → Bool
is_nil [] = true
is_nil (x ∷ l) = false

-- whether b stands in l
unfoldable pub has : ℕ → List ℕ → Bool
has b l = ltb (length (before b l)) (length l)

-- what follows the first b of l
unfoldable pub behind : ℕ → List ℕ → List ℕ
behind b l = drop (suc (length (before b l))) l

-- the cells of a form, each up to the first byte that ends it, and nothing behind the last; a form has two bytes a cell
unfoldable pub read_row_of : List ℕ → List ℕ → Values
read_row_of [] l = cond (is_nil l) no_values bad_values
read_row_of (k ∷ []) l = cond (is_nil l) no_values bad_values
read_row_of (k ∷ b ∷ form) l = cond (has b l) (joined (read_cell_of k (before b l)) (read_row_of form (behind b l))) bad_values
