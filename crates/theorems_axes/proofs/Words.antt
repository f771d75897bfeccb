-- A size with its sign as two numbers, of which it is the difference. Assumes nothing.
use Prim.Native.Nat.{ℕ}
use mathlib.Core.Bool.{Bool, cond}

abbrev pub plus : Bool → ℕ → ℕ
plus s m = cond s 0 m

abbrev pub minus : Bool → ℕ → ℕ
minus s m = cond s m 0
