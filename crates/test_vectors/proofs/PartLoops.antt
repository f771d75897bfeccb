-- A turn of the loop over the parts of a line that are to be bits. Assumes nothing.
use Rattle.std.proofs.Common.{◌≡◌, ℕ, suc, ◌+◌, ◌-◌, ◌<◌, ◌≤◌, Bool, true, false, List, arith}
use Rattle.fields.specs.Number.{read_bits_of}
use Rattle.test_vectors.specs.Parts.{part_in, is_read, bits_from}

module _ (l : List ℕ) (k to : ℕ) (z : Bool) (i : bits_from l k (to - k) ≡ z) where
  module _ (b : Bool) (h : k < to) (q : b ≡ is_read (read_bits_of (part_in l k))) where
    left : to - k ≡ suc (to - (k + 1))
    left = omega arith

    pub bits-again : b ≡ true → bits_from l (k + 1) (to - (k + 1)) ≡ z
    unfolding bits_from
    bits-again t = rw (left, ← q, t) at i

    pub bits-stop : b ≡ false → false ≡ z
    unfolding bits_from
    bits-stop t = rw (left, ← q, t) at i

  pub bits_end : to ≤ k → true ≡ z
  unfolding bits_from
  bits_end h = let e : to - k ≡ 0 = omega arith in rw e at i
