-- A map of zeros, refilled hit by hit. Assumes nothing.
use Prim.Native.Nat.{ℕ, suc, ◌+◌, ◌-◌, ◌≤◌, ◌<◌}
use mathlib.Core.Path.{◌≡◌, refl, ap, sym, ◌∙◌}
use mathlib.Core.Bool.{Bool, true, false, cond}
use mathlib.Core.List.{List, ◌∷◌}
use native.Mathlib.Omega.{arith}
use lib.Ieee.{Float}
use lib.ListN.{length, replicate, length-replicate}
use lib.Seq.{set_out}
use Rattle.detector.specs.declared.Detector2D.{Detector2D}
use Rattle.detector.specs.declared.DetectorHit.{DetectorHit}
use Rattle.memory.specs.Memory.{hit_at_of, hits_from}
use Rattle.filter.specs.Filters.{Map, add_at_of, add_hit_of, plus_each, passing, sift_hit_of, refill_of}
use Rattle.doubles.specs.Doubles.{#0}

-- ---- adding where there is no pixel

pub added_beyond : (m : List Float) (p : ℕ) (x : Float) → length m ≤ p → m ≡ add_at_of m p x
unfolding add_at_of
added_beyond m p x k = sym (set_out m p _ k)

-- ---- the loop over the listed hits, whichever of them are wanted

module _ (wanted : DetectorHit → Bool) (d : Detector2D) where
  pub sift_start : (w : List Float) (n : ℕ) (v : List Float) (t : List ℕ) (used : ℕ) → w ≡ replicate n #0
      → plus_each d (record { flux = w; total = #0; count = 0 }) (passing wanted (hits_from v t (used - 0) 0)) ≡ refill_of wanted d (length w) (hits_from v t used 0)
  unfolding refill_of
  sift_start w n v t used e = let q : used - 0 ≡ used = omega arith in rw (q, e, length-replicate)

  one : (m : Map) (h : DetectorHit) (b : List DetectorHit) → plus_each d m (passing wanted (h ∷ b)) ≡ plus_each d (sift_hit_of wanted d m h) (passing wanted b)
  unfolding plus_each passing sift_hit_of
  one m h b = go (wanted h)
    where
      go : (x : Bool) → plus_each d m (cond x (h ∷ passing wanted b) (passing wanted b)) ≡ plus_each d (cond x (add_hit_of d m h) m) (passing wanted b)
      go true = refl
      go false = refl

  pub sift_again : (m k z : Map) (v : List Float) (t : List ℕ) (used i : ℕ) (h : DetectorHit) → i < used → h ≡ hit_at_of v t i → k ≡ sift_hit_of wanted d m h
      → plus_each d m (passing wanted (hits_from v t (used - i) i)) ≡ z → plus_each d k (passing wanted (hits_from v t (used - (i + 1)) (i + 1))) ≡ z
  unfolding hits_from
  sift_again m k z v t used i h p eh ek e =
      let q : used - i ≡ suc (used - (i + 1)) = omega arith in
      rw (ek, eh) (sym (one m (hit_at_of v t i) (hits_from v t (used - (i + 1)) (i + 1))) ∙ (rw q at e))

  pub sift_end : (m z : Map) (v : List Float) (t : List ℕ) (used i : ℕ) → used ≤ i → plus_each d m (passing wanted (hits_from v t (used - i) i)) ≡ z → m ≡ z
  unfolding plus_each passing hits_from
  sift_end m z v t used i p e = let q : used - i ≡ 0 = omega arith in rw q at e

  pub same_room : (m : Map) (w : List Float) (n : ℕ) (hits : List DetectorHit) → w ≡ replicate n #0 → m ≡ refill_of wanted d (length w) hits → m ≡ refill_of wanted d n hits
  same_room m w n hits e g = g ∙ ap (λ k. refill_of wanted d k hits) (ap length e ∙ length-replicate n #0)

  -- a hit raises the count by one at most
  pub turn_count : (m k : Map) (h : DetectorHit) → k ≡ sift_hit_of wanted d m h → k.count ≤ m.count + 1
  unfolding sift_hit_of add_hit_of
  turn_count m k h e = rw e (go (wanted h))
    where
      go : (x : Bool) → (cond x (add_hit_of d m h) m).count ≤ m.count + 1
      go true = omega arith
      go false = omega arith
