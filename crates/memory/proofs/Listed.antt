-- The hit list of the memory, read back. Assumes nothing.
use Prim.Native.Nat.{ℕ, zero, suc, ◌+◌, ◌*◌, ◌/◌, ◌≤◌, ◌<◌}
use mathlib.Core.Path.{◌≡◌, refl, ap, sym, ◌∙◌}
use mathlib.Core.Bool.{true}
use mathlib.Core.List.{List, [], ◌∷◌, ◌++◌, append_assoc, append-nil}
use native.Mathlib.Nat.{add-zero, zero-add}
use native.Mathlib.Omega.{arith}
use lib.Ieee.{Float}
use lib.ListN.{length}
use lib.Seq.{sets}
use borrow.Author.Tests.{lt-ltb}
use Rattle.detector.specs.declared.DetectorHit.{DetectorHit}
use Rattle.memory.specs.Memory.{Memory, hit_doubles, hit_wholes, hit_values_row, hit_tags_row, hit_from, row_at, are_hits_of, capacity, read_hit_of, hit_at_of, hits_from, listed, cell_in, written_at}
use Rattle.memory.specs.Plain.{added}
use Rattle.memory.proofs.Rows.{row_stored, row_kept, values_long, tags_long, hit_back}
use Rattle.memory.proofs.Lengths.{same_number, hit_inside}
use Rattle.memory.proofs.Keeps.{written_values, written_tags}

-- ---- one more hit

hits_snoc : (v : List Float) (t : List ℕ) (n k : ℕ) → hits_from v t (n + 1) k ≡ hits_from v t n k ++ hit_at_of v t (k + n) ∷ []
unfolding hits_from
hits_snoc v t zero k = rw add-zero
hits_snoc v t (suc n) k =
    let e : suc n + 1 ≡ suc (n + 1) = omega arith in
    let f : k + 1 + n ≡ k + suc n = omega arith in
    ap (λ m. hits_from v t m k) e ∙ ap (λ r. hit_at_of v t k ∷ r) (hits_snoc v t n (k + 1) ∙ ap (λ m. hits_from v t n (k + 1) ++ hit_at_of v t m ∷ []) f)

hits_same : (v v' : List Float) (t t' : List ℕ) (n k : ℕ) → ((i : ℕ) → i < k + n → hit_at_of v t i ≡ hit_at_of v' t' i) → hits_from v t n k ≡ hits_from v' t' n k
unfolding hits_from
hits_same v v' t t' zero k e = refl
hits_same v v' t t' (suc n) k e =
    ap (λ h. h ∷ hits_from v t n (k + 1)) (e k (omega arith)) ∙ ap (λ r. hit_at_of v' t' k ∷ r) (hits_same v v' t t' n (k + 1) (λ i l. e i (omega arith)))

-- a hit that the slices hold
pub hit_is : (v : List Float) (t : List ℕ) (i : ℕ) → i < length v / hit_doubles → i < length t / hit_wholes → hit_at_of v t i ≡ read_hit_of v t i
unfolding hit_at_of
hit_is v t i a b = rw (lt-ltb i (length v / hit_doubles) a, lt-ltb i (length t / hit_wholes) b)

module _ (s : Memory) (p : ℕ) (h : DetectorHit) (hits : are_hits_of (length s.hit_values) (length s.hit_tags) ≡ true) (room : s.used < length s.hit_values / hit_doubles) where
  read_old : (i : ℕ) → i < s.used → read_hit_of (written_at s p h).hit_values (written_at s p h).hit_tags i ≡ read_hit_of s.hit_values s.hit_tags i
  unfolding written_at read_hit_of
  read_old i k =
      ap (λ v. hit_from v (row_at hit_wholes (sets s.hit_tags (hit_wholes * s.used) (hit_tags_row h)) i)) (row_kept hit_doubles s.hit_values s.used (hit_values_row h) i k)
      ∙ ap (hit_from (row_at hit_doubles s.hit_values i)) (row_kept hit_wholes s.hit_tags s.used (hit_tags_row h) i k)

  read_new : read_hit_of (written_at s p h).hit_values (written_at s p h).hit_tags s.used ≡ h
  unfolding written_at read_hit_of
  read_new =
      let f = hit_inside _ _ _ hits room in
      ap (λ v. hit_from v (row_at hit_wholes (sets s.hit_tags (hit_wholes * s.used) (hit_tags_row h)) s.used)) (row_stored hit_doubles s.hit_values s.used (hit_values_row h) (values_long h) f.0)
      ∙ ap (hit_from (hit_values_row h)) (row_stored hit_wholes s.hit_tags s.used (hit_tags_row h) (tags_long h) f.1)
      ∙ hit_back h

  in_tags : (i : ℕ) → i ≤ s.used → i < length s.hit_tags / hit_wholes
  in_tags i k = omega (arith, same_number _ _ hits, room, k)

  hit_there : (i : ℕ) → i ≤ s.used → hit_at_of (written_at s p h).hit_values (written_at s p h).hit_tags i ≡ read_hit_of (written_at s p h).hit_values (written_at s p h).hit_tags i
  hit_there i k = hit_is _ _ i (rw (written_values s p h) (omega (arith, room, k))) (rw (written_tags s p h) (in_tags i k))

  hit_old : (i : ℕ) → i < s.used → hit_at_of (written_at s p h).hit_values (written_at s p h).hit_tags i ≡ hit_at_of s.hit_values s.hit_tags i
  hit_old i k = hit_there i (omega arith) ∙ read_old i k ∙ sym (hit_is s.hit_values s.hit_tags i (omega (arith, room, k)) (in_tags i (omega (arith, k))))

  pub listed_written : hits_from (written_at s p h).hit_values (written_at s p h).hit_tags (s.used + 1) 0 ≡ listed s ++ h ∷ []
  listed_written =
      hits_snoc (written_at s p h).hit_values (written_at s p h).hit_tags s.used 0
      ∙ ap (λ r. r ++ hit_at_of (written_at s p h).hit_values (written_at s p h).hit_tags (0 + s.used) ∷ []) (hits_same _ _ _ _ s.used 0 (λ i l. hit_old i (omega arith)))
      ∙ ap (λ k. listed s ++ k ∷ []) (ap (hit_at_of (written_at s p h).hit_values (written_at s p h).hit_tags) (zero-add s.used) ∙ hit_there s.used (omega arith) ∙ read_new)

-- the hits added are read behind those listed before
pub listed_added : (b : List DetectorHit) (s : Memory) → are_hits_of (length s.hit_values) (length s.hit_tags) ≡ true → s.used + length b ≤ capacity s → listed (added s b) ≡ listed s ++ b
unfolding added capacity written_at
listed_added [] s g k = sym (append-nil (listed s))
listed_added (h ∷ b) s g k =
    let p = cell_in s.detectors.list h in
    listed_added b (written_at s p h) (rw (written_values s p h, written_tags s p h) g) (rw (written_values s p h) (omega arith))
    ∙ ap (λ r. r ++ b) (listed_written s p h g (omega arith))
    ∙ append_assoc (listed s) (h ∷ []) b
