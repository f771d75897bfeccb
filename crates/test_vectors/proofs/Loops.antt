-- A turn of the loop that counts the lines of a text, for any test of a line; and all of a text but its first byte. Assumes nothing.
use Rattle.std.proofs.Common.{◌≡◌, ℕ, ◌+◌, ◌-◌, ◌<◌, ◌≤◌, Bool, List, length, take, drop, le_of_eq, length-drop, drop_of_length-le, take_all}
use Rattle.fields.specs.Split.{text_lines, end_at_of}
use Rattle.fields.proofs.Parts.{lines_again, lines_none}
use Rattle.test_vectors.specs.declared.tally.Tally.{Tally}
use Rattle.test_vectors.specs.Count.{count_of, tally_lines_of}

module _ (agrees : List ℕ → Bool) (s : List ℕ) (z : Tally) where
  pub turn : (at e : ℕ) (t u : Tally) (b : Bool) → at < length s → e ≡ end_at_of s at 10 → b ≡ agrees (take (e - at) (drop at s)) → u ≡ count_of t b
      → tally_lines_of agrees t (text_lines (drop at s)) ≡ z → tally_lines_of agrees u (text_lines (drop (e + 1) s)) ≡ z
  unfolding tally_lines_of
  turn at e t u b h q p w i = rw (w, p, q) ((rw (lines_again s at h) at i))

  pub done : (at : ℕ) (t : Tally) → length s ≤ at → tally_lines_of agrees t (text_lines (drop at s)) ≡ z → t ≡ z
  unfolding tally_lines_of
  done at t h i = rw (drop_of_length-le s h, lines_none) at i

pub all_but_first : (l : List ℕ) → take (length l - 1) (drop 1 l) ≡ drop 1 l
all_but_first l = take_all (length l - 1) (drop 1 l) (le_of_eq (length-drop 1 l))
