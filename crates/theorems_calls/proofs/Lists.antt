-- Any list of calls on the memory and in the plain book. Assumes nothing.
use Prim.Native.Nat.{ℕ, ◌<◌}
use mathlib.Core.Path.{◌≡◌, refl, ap, sym, ◌∙◌}
use mathlib.Core.List.{List, [], ◌∷◌}
use lib.ListN.{length}
use Rattle.detector.specs.declared.DetectorHit.{DetectorHit}
use Rattle.detectors.specs.Detectors.{detector_at}
use Rattle.memory.specs.Memory.{Memory, memory_left, listed}
use Rattle.memory.specs.Plain.{Empty, added, view_in, plus_all}
use Rattle.memory.proofs.Plain.{map_outcome, used_by}
use Rattle.memory.proofs.Booked.{booked_view}
use Rattle.theorems_calls.specs.Calls.{Call, outcome_in, memory_after}
use Rattle.theorems_calls.specs.Book.{bare, wish_in, book_granted, book_after, book_view, Told}
use Rattle.theorems_calls.proofs.Bare.{bare_added, zero_view_lem, view_bare}
use Rattle.theorems_calls.proofs.Wishes.{lawful, meant}
use Rattle.theorems_calls.proofs.Booked.{left_map, Sane, start_sane, granted-booked, granted-sane}

module _ (s : Memory) (eight : length s.detectors.list ≡ 8) (empty : Empty s) where
  -- ---- one call: done or refused, with the same number and place, in both

  pub call_booked : (c : Call) (b : List DetectorHit) → outcome_in c (added s b) ≡ map_outcome (added s) (book_granted (bare s) (wish_in c) b)
  call_booked c b = meant c (added s b) ∙ granted-booked s eight empty (wish_in c) (lawful c) b

  -- ---- any list of calls

  calls_booked : (cs : List Call) (b : List DetectorHit) → memory_after cs (added s b) ≡ added s (book_after (bare s) cs b)
  unfolding memory_after book_after
  calls_booked [] b = refl
  calls_booked (c ∷ cs) b =
      ap (memory_after cs) (ap memory_left (call_booked c b) ∙ left_map (added s) (book_granted (bare s) (wish_in c) b))
      ∙ calls_booked cs (memory_left (book_granted (bare s) (wish_in c) b))

  calls_sane : (cs : List Call) (b : List DetectorHit) → Sane s eight empty b → Sane s eight empty (book_after (bare s) cs b)
  unfolding book_after
  calls_sane [] b x = x
  calls_sane (c ∷ cs) b x = calls_sane cs (memory_left (book_granted (bare s) (wish_in c) b)) (granted-sane s eight empty (wish_in c) (lawful c) b x)

  -- from the empty memory
  pub after_calls : (cs : List Call) → memory_after cs s ≡ added s (book_after (bare s) cs [])
  unfolding added
  after_calls cs = calls_booked cs []

  pub after_sane : (cs : List Call) → Sane s eight empty (book_after (bare s) cs [])
  after_sane cs = calls_sane cs [] (start_sane s eight empty)

  -- what the book is fed is the same after them
  pub fed : (cs : List Call) → bare (memory_after cs s) ≡ bare s
  fed cs = ap bare (after_calls cs) ∙ bare_added (book_after (bare s) cs []) s

  -- ---- each detector's view

  pub book_view_lem : (b : List DetectorHit) (d : ℕ) → Sane s eight empty b → d < s.detectors.count → d < 8 → view_in (added s b) d ≡ book_view (bare s) d b
  unfolding book_view
  book_view_lem b d x n k =
      booked_view s eight empty (added s b) d x.booked
      ∙ ap (plus_all d (detector_at s.detectors.list d) (view_in s d)) x.back
      ∙ ap (λ v. plus_all d (detector_at s.detectors.list d) v b) (zero_view_lem s eight empty d n k)
      ∙ sym (view_bare s d b)

  pub told : (cs : List Call) → Told s (memory_after cs s) (book_after (bare s) cs [])
  told cs =
      let b = book_after (bare s) cs [] in
      let e : memory_after cs s ≡ added s b = after_calls cs in
      let x : Sane s eight empty b = after_sane cs in
      record {
        used = ap (λ (m : Memory). m.used) e ∙ used_by s eight empty b;
        list = ap listed e ∙ x.back;
        views = λ d n k. ap (λ (m : Memory). view_in m d) e ∙ book_view_lem b d x n k;
        memory = e;
      }
