-- Numbers as text, and bytes written one after another.
use Rattle.std.specs.Prelude.{ℕ, zero, suc, ◌+◌, ◌*◌, ◌/◌, ◌%◌, ◌^◌, List, [], ◌∷◌, ◌++◌, cond, eqb, ltb, length, set, Float}
use Rattle.std.specs.Float.{binary64}
use Rattle.std.specs.Float.Ieee.{to_bits}

-- ---- numbers

-- the byte of a digit below 16: 0 to 9, a to f
unfoldable pub glyph_of : ℕ → ℕ
glyph_of d = cond (ltb d 10) (48 + d) (87 + d)

-- the first of sixteen hex digits, and then those behind it while what is left is not 0: k at most
unfoldable pub hex_text : ℕ → ℕ → List ℕ
hex_text zero r = []
hex_text (suc k) r = glyph_of (r / 2 ^ 60) ∷ cond (eqb (r % 2 ^ 60) 0) [] (hex_text k (r % 2 ^ 60 * 16))

-- the hex digits of a double's bits, trailing zeros dropped, at least one; 7ff8 for NaN, whose bits `to_bits` gives as
-- 7ff8000000000000
unfoldable pub double_text : Float → List ℕ
double_text x = hex_text 16 (to_bits binary64 x)

-- the decimal digits of n, k at most
unfoldable pub decimal_text : ℕ → ℕ → List ℕ
decimal_text zero n = []
decimal_text (suc k) n = cond (ltb n 10) (glyph_of n ∷ []) (decimal_text k (n / 10) ++ (glyph_of (n % 10) ∷ []))

-- ---- writing

-- a buffer, and the place of it that is to be written next
pub record Out : Type 0 where
  pub buf : List ℕ
  pub at : ℕ

abbrev pub out : List ℕ → ℕ → Out
out l n = record { buf = l; at = n }

-- one place on, while there is one
unfoldable pub next_at : List ℕ → ℕ → ℕ
next_at l n = cond (ltb n (length l)) (n + 1) n

-- bytes written one after another; those for which the buffer has no place are not written
unfoldable pub put_all : List ℕ → ℕ → List ℕ → Out
put_all l n [] = out l n
put_all l n (b ∷ t) = put_all (set l n b) (next_at l n) t
