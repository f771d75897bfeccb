-- Numbers in text.
use Rattle.std.specs.Prelude.{ℕ, zero, suc, ◌+◌, ◌-◌, ◌*◌, ◌^◌, List, [], ◌∷◌, Bool, true, false, cond, eqb, ltb, length, get_or, Option, None, Some}

-- ---- doubles, by their bits

-- what a hex digit counts: 0 to 9, a to f; 16 for any other byte
unfoldable pub digit_of : ℕ → ℕ
digit_of b = cond (ltb b 48) 16 (cond (ltb b 58) (b - 48) (cond (ltb b 97) 16 (cond (ltb b 103) (b - 87) 16)))

unfoldable pub is_hex_of : List ℕ → Bool
is_hex_of [] = true
is_hex_of (b ∷ t) = cond (ltb (digit_of b) 16) (is_hex_of t) false

-- the number v with n hex digits put behind it: those of t, and zeros where t has no more
unfoldable pub hex_pad_of : ℕ → ℕ → List ℕ → ℕ
hex_pad_of v zero t = v
hex_pad_of v (suc n) [] = hex_pad_of (v * 16) n []
hex_pad_of v (suc n) (b ∷ t) = hex_pad_of (v * 16 + digit_of b) n t

-- the digit at place i, or 0 past the end
unfoldable pub digit_at_of : List ℕ → ℕ → ℕ
digit_at_of t i = cond (ltb i (length t)) (digit_of (get_or t i 0)) 0

-- 1 to 16 hex digits, zeros understood on the right
unfoldable pub read_bits_of : List ℕ → Option ℕ
read_bits_of t =
    cond (eqb (length t) 0) None
    (cond (ltb 16 (length t)) None
    (cond (is_hex_of t) (Some (hex_pad_of 0 16 t)) None))

-- ---- decimals

unfoldable pub is_decimal : List ℕ → Bool
is_decimal [] = true
is_decimal (b ∷ t) = cond (ltb (digit_of b) 10) (is_decimal t) false

-- the number v with the digits of t put behind it
unfoldable pub decimal_from : ℕ → List ℕ → ℕ
decimal_from v [] = v
decimal_from v (b ∷ t) = decimal_from (v * 10 + digit_of b) t

-- whether a 0 stands before another byte
unfoldable pub is_led_by_zero_of : List ℕ → Bool
is_led_by_zero_of t = cond (ltb (length t) 2) false (eqb (get_or t 0 0) 48)

-- a decimal below 2 ^ 32 without leading zeros
unfoldable pub read_whole_of : List ℕ → Option ℕ
read_whole_of t =
    cond (eqb (length t) 0) None
    (cond (is_led_by_zero_of t) None
    (cond (is_decimal t) (cond (ltb (decimal_from 0 t) (2 ^ 32)) (Some (decimal_from 0 t)) None) None))
