-- The parts of a text between the places where a byte stands. A text is the list of its bytes.
use Rattle.std.specs.Prelude.{ℕ, ◌+◌, List, [], ◌∷◌, Bool, cond, ◌&&◌, eqb, ltb, leb, length, drop, get_or, take}
use Prim.Native.Char.{code}
use Prim.Native.String.{String, [] as none, ◌∷◌ as ◌then◌}

-- the bytes of a text in quotes
unfoldable pub bytes : String → List ℕ
bytes none = []
bytes (c then s) = code c ∷ bytes s

-- the first n of a list, or all
unfoldable pub front_of : {A : Type 0} → ℕ → List A → List A
front_of n l = cond (leb n (length l)) (take n l) l

-- l up to its first b, or all of it
unfoldable pub before : ℕ → List ℕ → List ℕ
before b [] = []
before b (x ∷ l) = cond (eqb x b) [] (x ∷ before b l)

-- the parts that follow the first b of l
unfoldable pub later : ℕ → List ℕ → List (List ℕ)
later b [] = []
later b (x ∷ l) = cond (eqb x b) (before b l ∷ later b l) (later b l)

-- the parts of l between its bs: one more than there are bs
unfoldable pub split : ℕ → List ℕ → List (List ℕ)
split b l = before b l ∷ later b l

-- all parts but a last one that is empty
unfoldable pub ended : List (List ℕ) → List (List ℕ)
ended [] = []
ended ([] ∷ []) = []
ended ((x ∷ l) ∷ []) = (x ∷ l) ∷ []
ended (l ∷ m ∷ ls) = l ∷ ended (m ∷ ls)

-- the lines of a text: what stands before each LF, and what follows the last one if there is anything
unfoldable pub text_lines : List ℕ → List (List ℕ)
text_lines t = ended (split 10 t)

-- the first place from `at` on that holds b, or the length; `at` itself if that lies past the length
unfoldable pub end_at_of : List ℕ → ℕ → ℕ → ℕ
end_at_of s at b = at + length (before b (drop at s))

-- where the part after the one at `at` starts; past the length if there is none
unfoldable pub after_of : List ℕ → ℕ → ℕ → ℕ
after_of s at b = cond (ltb (length s) at) at (end_at_of s at b + 1)

-- the parts from place `at` on
unfoldable pub parts_at : ℕ → List ℕ → ℕ → List (List ℕ)
parts_at b s at = cond (ltb (length s) at) [] (split b (drop at s))

-- the first of these, or nothing
abbrev pub part_at_of : List ℕ → ℕ → ℕ → List ℕ
part_at_of s at b = get_or (parts_at b s at) 0 []

-- part k, or nothing, and how many parts there are
abbrev pub part_of : List ℕ → ℕ → ℕ → List ℕ
part_of s b k = get_or (split b s) k []

abbrev pub count_parts_of : List ℕ → ℕ → ℕ
count_parts_of s b = length (split b s)

-- the text is the one byte b
unfoldable pub is_byte_of : List ℕ → ℕ → Bool
is_byte_of t b = eqb (length t) 1 && eqb (get_or t 0 0) b
