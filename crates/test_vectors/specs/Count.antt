-- Of a list of lines, how many there are, how many agree, and the first that does not.
use Rattle.std.specs.Prelude.{ℕ, ◌+◌, ◌%◌, ◌^◌, Bool, cond, List, [], ◌∷◌, ◌==◌}
use Rattle.test_vectors.specs.declared.tally.Tally.{Tally}

abbrev pub tally : ℕ → ℕ → ℕ → Tally
tally n a f = record { lines = n; agree = a; first = f }

unfoldable pub empty_of : Tally
empty_of = tally 0 0 0

unfoldable pub count_of : Tally → Bool → Tally
count_of t agrees =
    let n = (t.lines + 1) % 2 ^ 64 in
    cond agrees (tally n ((t.agree + 1) % 2 ^ 64) t.first)
    (tally n t.agree (cond (t.first == 0) n t.first))

-- the tally t with the lines of ls counted, which agree where `agrees` says so
unfoldable pub tally_lines_of : (List ℕ → Bool) → Tally → List (List ℕ) → Tally
tally_lines_of agrees t [] = t
tally_lines_of agrees t (l ∷ ls) = tally_lines_of agrees (count_of t (agrees l)) ls
