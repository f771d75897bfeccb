-- Lines of numbers.
use Rattle.std.specs.Prelude.{ℕ, ◌+◌, List, [], ◌∷◌, ◌++◌, cond, ◌&&◌, eqb, ltb, Float, length}
use Rattle.printing.specs.Printing.{double_text, decimal_text}

-- numbers by their texts, a space behind each, `last` behind the last one
unfoldable pub spaced : {A : Type 0} → (A → List ℕ) → List A → ℕ → List ℕ
spaced text [] last = []
spaced text (x ∷ []) last = text x ++ last ∷ []
spaced text (x ∷ y ∷ l) last = text x ++ 32 ∷ spaced text (y ∷ l) last

unfoldable pub wholes_text : List ℕ → ℕ → List ℕ
wholes_text l last = spaced (decimal_text 20) l last

unfoldable pub doubles_text : List Float → ℕ → List ℕ
doubles_text l last = spaced double_text l last

-- whole numbers, then doubles; one space between, LF at the end
unfoldable pub row_text : List ℕ → List Float → List ℕ
row_text ws ds = cond (eqb (length ds) 0) (wholes_text ws 10) (wholes_text ws 32 ++ doubles_text ds 10)

-- what stands behind number i of n
unfoldable pub behind_of : ℕ → ℕ → ℕ → ℕ
behind_of i n last = cond (ltb i n && ltb (i + 1) n) 32 last
