-- A drawn number has 64 bits. Assumes nothing.
use Rattle.std.proofs.Common.{◌≡◌, ℕ, ◌*◌, ◌%◌, ◌^◌, ◌<◌, sym, ap, subst, arith}
use Rattle.source.specs.declared.Rng64.{Rng64}
use Rattle.source.specs.declared.Drawn.{Drawn}
use Rattle.source.specs.Random.{next_u64_of, next_state, scrambled}

pub drawn_fits : (g : Rng64) (d : Drawn ℕ) → d ≡ next_u64_of g → d.value < 2 ^ 64
unfolding next_u64_of scrambled
drawn_fits g d e = subst (λ (n : ℕ). n < 2 ^ 64) (sym (ap (λ (x : Drawn ℕ). x.value) e)) (below (next_state g.state * 2685821657736338717))
  where
    below : (n : ℕ) → n % 2 ^ 64 < 2 ^ 64
    below n = omega arith
