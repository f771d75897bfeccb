-- What the lengths of the hit list's two slices, and of all slices of a memory, say. Assumes nothing.
use Prim.{yes, no}
use Prim.Native.Nat.{ℕ, ◌+◌, ◌*◌, ◌/◌, ◌%◌, ◌≤◌, ◌<◌}
use mathlib.Core.Path.{◌≡◌, refl, sym}
use mathlib.Core.Bool.{Bool, true, false, ◌&&◌}
use native.Mathlib.Omega.{arith}
use native.Mathlib.Decide.{ℕ_discrete}
use lib.Dec.{eqb}
use borrow.Author.Tests.{eq-eqb, ne_eqb, eqb-true, le-leb, leb-true}
use Rattle.doubles.proofs.Floats.{and_left, and_right}
use Rattle.detectors.specs.declared.Detectors.{Detectors}
use Rattle.detectors.specs.Detectors.{all_pixels_of}
use Rattle.memory.specs.Memory.{hit_doubles, hit_wholes, are_hits_of, is_hit_list_of, are_lengths_of}

-- ---- slices that hold hits

pub same_number : (nv nt : ℕ) → are_hits_of nv nt ≡ true → nv / hit_doubles ≡ nt / hit_wholes
unfolding are_hits_of
same_number nv nt e = eqb-true (nv / hit_doubles) (nt / hit_wholes) (and_right (eqb (nt % hit_wholes) 0) _ (and_right (eqb (nv % hit_doubles) 0) _ e))

-- a hit's rows lie in both
pub hit_inside : (nv nt i : ℕ) → are_hits_of nv nt ≡ true → i < nv / hit_doubles → (hit_doubles * i + hit_doubles ≤ nv) × (hit_wholes * i + hit_wholes ≤ nt)
hit_inside nv nt i e k = let q = same_number nv nt e in (omega (arith, k), omega (arith, q, k))

-- where a hit has four of each: equal, and a multiple of four
pub are_four : (nv nt : ℕ) → are_hits_of nv nt ≡ eqb nv nt && eqb (nv % 4) 0
unfolding are_hits_of
are_four nv nt =
    elim (ℕ_discrete (nv % 4) 0) [
      | no a ↦ rw (ne_eqb (nv % 4) 0 a) (none (eqb nv nt))
      | yes a ↦ elim (ℕ_discrete nv nt) [
        | yes b ↦ rw (sym b, eq-eqb (nv % 4) 0 a, eq-eqb (nv / 4) (nv / 4) refl, eq-eqb nv nv refl)
        | no b ↦ elim (ℕ_discrete (nt % 4) 0) [
          | no c ↦ rw (eq-eqb (nv % 4) 0 a, ne_eqb (nt % 4) 0 c, ne_eqb nv nt b)
          | yes c ↦ rw (eq-eqb (nv % 4) 0 a, eq-eqb (nt % 4) 0 c, ne_eqb nv nt b, ne_eqb (nv / 4) (nt / 4) (λ d. b (omega (arith, a, c, d))))
        ]
      ]
    ]
  where
    none : (x : Bool) → false ≡ x && false
    none true = refl
    none false = refl

-- ---- all slices of a memory

module _ (ds : Detectors) (nf nh nv nt : ℕ) where
  pub record Long (used : ℕ) : Type 0 where
    pub flux : nf ≡ all_pixels_of ds
    pub hits : nh ≡ all_pixels_of ds
    pub rows : are_hits_of nv nt ≡ true
    pub room : used ≤ nv / hit_doubles

  pub long : (used : ℕ) → are_lengths_of ds nf nh nv nt used ≡ true → Long used
  unfolding are_lengths_of is_hit_list_of
  long used e =
      let f = and_right (eqb nf (all_pixels_of ds)) _ e in
      let g = and_right (eqb nh (all_pixels_of ds)) _ f in
      record {
        flux = eqb-true _ _ (and_left _ _ e);
        hits = eqb-true _ _ (and_left _ _ f);
        rows = and_left (are_hits_of nv nt) _ g;
        room = leb-true _ _ (and_right (are_hits_of nv nt) _ g);
      }

  -- and are long enough for any number of hits that they have room for
  pub long_enough : (used more : ℕ) → more ≤ nv / hit_doubles → are_lengths_of ds nf nh nv nt used ≡ true → are_lengths_of ds nf nh nv nt more ≡ true
  unfolding are_lengths_of is_hit_list_of
  long_enough used more k e =
      let l = long used e in
      rw (eq-eqb nf (all_pixels_of ds) l.flux, eq-eqb nh (all_pixels_of ds) l.hits, l.rows, le-leb more (nv / hit_doubles) k)
