-- What calls leave of a memory: it with hits added, and so the same detectors but for totals and counts, slices as long, and no more used than they hold. Assumes nothing.
use Prim.Native.Nat.{◌≤◌, ◌<◌}
use mathlib.Core.Path.{◌≡◌, refl, ap, sym, ◌∙◌}
use mathlib.Core.Bool.{Bool, true, false}
use mathlib.Core.List.{List, [], ◌∷◌, ◌++◌}
use native.Mathlib.Omega.{arith}
use lib.ListN.{length}
use borrow.Author.Tests.{leb-false}
use Rattle.detectors.specs.Detectors.{all_pixels_of, check_detectors_of}
use Rattle.detector.specs.declared.DetectorHit.{DetectorHit}
use Rattle.memory.specs.Memory.{Memory, Outcome, memory_left, cell_in, capacity, judged, put_of, record_of, has_pixel, written_at}
use Rattle.memory.specs.Plain.{added}
use Rattle.memory.proofs.Keeps.{written_flux, written_hits, written_values, written_tags, added_keeps, added_capacity}
use Rattle.memory.proofs.Plain.{added_snoc}
use Rattle.faces.specs.Faces.{new_faces_of}
use Rattle.theorems_runs.proofs.Bred.{pick}
use Rattle.theorems_calls.proofs.Bare.{same_seen, bare_checks, bare_faces, bare_all}

-- ---- any number of hits added

module _ (b : List DetectorHit) (s : Memory) where
  pub added_checks : check_detectors_of (added s b).detectors ≡ check_detectors_of s.detectors
  added_checks = same_seen check_detectors_of bare_checks b s

  pub added_faces : new_faces_of (added s b).detectors ≡ new_faces_of s.detectors
  added_faces = same_seen new_faces_of bare_faces b s

  pub added_all : all_pixels_of (added s b).detectors ≡ all_pixels_of s.detectors
  added_all = same_seen all_pixels_of bare_all b s

  pub added_count : (added s b).detectors.count ≡ s.detectors.count
  added_count = same_seen (λ ds. ds.count) (λ ds. refl) b s

  pub added_flux : length (added s b).flux ≡ length s.flux
  added_flux = added_keeps (λ m. length m.flux) written_flux b s

  pub added_hits : length (added s b).hits ≡ length s.hits
  added_hits = added_keeps (λ m. length m.hits) written_hits b s

  pub added_values : length (added s b).hit_values ≡ length s.hit_values
  added_values = added_keeps (λ m. length m.hit_values) written_values b s

  pub added_tags : length (added s b).hit_tags ≡ length s.hit_tags
  added_tags = added_keeps (λ m. length m.hit_tags) written_tags b s

-- ---- what a run leaves of a memory

pub record Reached (s m : Memory) : Type 0 where
  pub hits : List DetectorHit
  pub sum : m ≡ added s hits
  pub room : m.used ≤ capacity s

pub reached_itself : (s : Memory) → s.used ≤ capacity s → Reached s s
unfolding added
reached_itself s r = record { hits = []; sum = refl; room = r }

reached_written : (s m : Memory) (h : DetectorHit) → m.used < capacity m → Reached s m → Reached s (written_at m (cell_in m.detectors.list h) h)
unfolding written_at
reached_written s m h k r =
    record {
      hits = r.hits ++ h ∷ [];
      sum = ap (λ x. written_at x (cell_in x.detectors.list h) h) r.sum ∙ sym (added_snoc r.hits s h);
      room = omega (arith, ap capacity r.sum ∙ added_capacity r.hits s);
    }

judged_keeps : {M : Type 0} (P : M → Type 0) (full most : Bool) (m n : M) → P m → (full ≡ false → P n) → P (memory_left (judged full most m n))
unfolding judged
judged_keeps P true most m n p f = p
judged_keeps P false true m n p f = p
judged_keeps P false false m n p f = f refl

record_at : (s m : Memory) (h : DetectorHit) → Reached s m → Reached s (memory_left (put_of m (cell_in m.detectors.list h) h))
unfolding put_of
record_at s m h r = judged_keeps (Reached s) _ _ m _ r (λ z. reached_written s m h (leb-false (capacity m) m.used z) r)

pub reached_record : (s m : Memory) (h : DetectorHit) → Reached s m → Reached s (memory_left (record_of m h))
unfolding record_of
reached_record s m h r = pick (λ (o : Outcome Memory). Reached s (memory_left o)) (has_pixel m h) (λ q. record_at s m h r) (λ q. r)
