-- A turn of the loop over the drawn numbers of a line. Assumes nothing.
use Rattle.std.proofs.Common.{◌≡◌, ℕ, suc, ◌+◌, ◌-◌, ◌<◌, ◌≤◌, Bool, true, false, List, ◌∙◌, arith}
use Rattle.source.specs.declared.Rng64.{Rng64}
use Rattle.std.specs.Prelude.{Float}
use Rattle.source.specs.declared.Drawn.{Drawn}
use Rattle.source.specs.Random.{next_u64_of, next_f64_of}
use Rattle.fields.specs.Number.{read_bits_of}
use Rattle.test_vectors.specs.Parts.{part_in, is_number, is_double_of}
use Rattle.test_vectors.specs.Lines.{draws_agree_of}

module _ (l : List ℕ) (k : ℕ) (g : Rng64) (z : Bool) (i : draws_agree_of l (7 - k) k g ≡ z) where
  module _ (d : Drawn ℕ) (b : Bool) (h : k < 7) (e : d ≡ next_u64_of g) (q : b ≡ is_number (read_bits_of (part_in l k)) d.value) where
    left : 7 - k ≡ suc (7 - (k + 1))
    left = omega arith

    pub draw-again : b ≡ true → draws_agree_of l (7 - (k + 1)) (k + 1) d.rng ≡ z
    unfolding draws_agree_of
    draw-again t = let j = rw (left, ← e, ← q, t) at i in j

    pub draw-stop : b ≡ false → false ≡ z
    unfolding draws_agree_of
    draw-stop t = let j = rw (left, ← e, ← q, t) at i in j

  pub draw_end : (d : Drawn Float) (b : Bool) → 7 ≤ k → k ≤ 7 → d ≡ next_f64_of g → b ≡ is_double_of (part_in l 7) d.value → b ≡ z
  unfolding draws_agree_of
  draw_end d b h m e q =
      let at : k ≡ 7 = omega arith in
      q ∙ (rw (at, ← e) at i)
