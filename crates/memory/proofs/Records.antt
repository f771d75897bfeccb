-- What the tests of a recording say of the memory. Assumes nothing.
use Rattle.std.specs.Prelude.{None, Some}
use Prim.Native.Nat.{ℕ, ◌<◌}
use mathlib.Core.Path.{◌≡◌, refl, sym, ap, ◌∙◌}
use mathlib.Core.Bool.{Bool, true, false, ◌&&◌}
use lib.Dec.{ltb}
use borrow.Author.Tests.{ltb-true, lt-ltb}
use Rattle.doubles.proofs.Floats.{clash}
use lib.ListN.{length}
use Rattle.detector.specs.declared.DetectorHit.{DetectorHit}
use Rattle.detectors.specs.declared.Placed.{Placed}
use Rattle.detectors.specs.Detectors.{at_of}
use Rattle.detectors.proofs.Lists.{there, nowhere}
use Rattle.memory.specs.Memory.{Memory, are_hits_of, in_maps_of, cell_of, cell_in, has_pixel, refused, put_of, record_of}

-- what two tests that both held say
pub both : (x y : Bool) → (x && y) ≡ true → (x ≡ true) × (y ≡ true)
both true y e = (refl, e)
both false y e = absurd (clash (sym e))

pub told_lengths : (p nf nh nv nt : ℕ) → true ≡ in_maps_of p nf nh nv nt → (p < nf) × (p < nh) × (are_hits_of nv nt ≡ true)
unfolding in_maps_of
told_lengths p nf nh nv nt told =
    let f = both (ltb p nf) (ltb p nh && are_hits_of nv nt) (sym told) in
    let g = both (ltb p nh) (are_hits_of nv nt) f.1 in
    (ltb-true p nf f.0, ltb-true p nh g.0, g.1)

-- what `record` knows at its returns
module _ (s : Memory) (h : DetectorHit) where
  pub record_nowhere : None ≡ at_of s.detectors h.detector → refused 9 0 s ≡ record_of s h
  unfolding record_of has_pixel
  record_nowhere e = rw (nowhere s.detectors h.detector (sym e))

  module _ (d : Placed) (p : ℕ) (found : Some d ≡ at_of s.detectors h.detector) (placed : p ≡ cell_of d h) where
    at-cell : p ≡ cell_in s.detectors.list h
    unfolding cell_in
    at-cell = placed ∙ ap (λ x. cell_of x h) (there s.detectors h.detector d (sym found)).1

    has : (b : Bool) → b ≡ in_maps_of p (length s.flux) (length s.hits) (length s.hit_values) (length s.hit_tags) → has_pixel s h ≡ b
    unfolding has_pixel
    has b told = rw (lt-ltb h.detector.0 8 (there s.detectors h.detector d (sym found)).0, ← at-cell, ← told)

    pub record_outside : false ≡ in_maps_of p (length s.flux) (length s.hits) (length s.hit_values) (length s.hit_tags) → refused 9 0 s ≡ record_of s h
    unfolding record_of
    record_outside told = rw (has false told)

    pub record_put : true ≡ in_maps_of p (length s.flux) (length s.hits) (length s.hit_values) (length s.hit_tags) → put_of s p h ≡ record_of s h
    unfolding record_of
    record_put told = rw (has true told, ← at-cell)
