-- What a call answers after any list of calls is what it answers in the plain book. Assumes nothing.
use Prim.Native.Nat.{ℕ, ◌+◌, ◌*◌, ◌<◌}
use mathlib.Core.Path.{◌≡◌, refl, ap, sym, ◌∙◌}
use mathlib.Core.Bool.{Bool, true, false, cond, ◌&&◌}
use mathlib.Core.List.{List, []}
use native.Mathlib.Nat.{zero-add}
use native.Mathlib.Omega.{arith}
use lib.Dec.{ltb, eqb}
use lib.Ieee.{Float, nan}
use lib.ListN.{length, get_or}
use borrow.Author.Tests.{ltb-true}
use Rattle.doubles.proofs.Floats.{and_left, and_right}
use Rattle.error.specs.Refusals.{Checked, passed, refused_at, after}
use Rattle.detector.specs.declared.Detector2D.{Detector2D}
use Rattle.detector.specs.declared.DetectorNo.{DetectorNo}
use Rattle.detector.specs.declared.DetectorHit.{DetectorHit}
use Rattle.detector.specs.Pixels.{pixels_of, pixel_at_of, area_of, irradiance_of}
use Rattle.detector.proofs.Grid.{Gridded, in_grid_lem, pixels_are}
use Rattle.detectors.specs.declared.Detectors.{Detectors}
use Rattle.detectors.specs.declared.Placed.{Placed}
use Rattle.detectors.specs.Detectors.{detector_at, first_pixel_of, all_pixels_of, check_asked, placed_of, find_of}
use Rattle.detectors.specs.Readings.{irradiance_in_of, irradiance_from, irradiance_at_of}
use Rattle.detectors.proofs.Passed.{asked_sound}
use Rattle.memory.specs.Memory.{Memory, Outcome, done, refused, is_hit_list_of, record_of}
use Rattle.memory.specs.Plain.{Empty, View, added, part_in, view_in}
use Rattle.memory.proofs.Plain.{map_outcome, used_by}
use Rattle.memory.proofs.Views.{part_get}
use Rattle.filter.specs.declared.RayPathFilter.{RayPathFilter}
use Rattle.filter.specs.Filters.{is_all_of, passes_of, refill_of}
use Rattle.filter.specs.Handed.{handed, from_map, check_placed, check_filter_of, refilter_placed, refilter_of, stored_part_of, part_placed, filtered_pixel_flux_of}
use Rattle.filter.proofs.Agree.{each_same}
use Rattle.run.specs.Run.{Run}
use Rattle.trace.specs.Trace.{Batch, run_on, traced, check_batch, trace_after, trace_rays_of}
use Rattle.theorems_calls.specs.Calls.{Call, tracing, recording, refilter, part, irradiance, crossing, area, trace_said, record_said, filter_said, part_said, reading_said, verdict, traced_answer, answer_in, outcome_in, memory_after}
use Rattle.theorems_calls.specs.Book.{bare_detector, bare_detectors, bare, with_used, wish_in, plain_hit, book_granted, book_after, book_view, book_traced, book_asked, book_filtered, book_part, book_reading, book_answer}
use Rattle.theorems_calls.proofs.Drives.{map_run}
use Rattle.theorems_calls.proofs.Reached.{added_flux, added_values, added_tags, added_faces}
use Rattle.theorems_calls.proofs.Bare.{bare_at, bare_pixels_at, bare_pixel_at, bare_asked, bare_all, bare_hits, faces_bare, bare_used, bare_detectors_lem, bare_flux, bare_values, bare_tags}
use Rattle.theorems_calls.proofs.Wishes.{batch_blind, run_faces, run_natural, batch_there}
use Rattle.theorems_calls.proofs.Booked.{Sane, put-booked}
use Rattle.theorems_calls.proofs.Lists.{call_booked, after_calls, after_sane, book_view_lem}

verdict_map : {N M : Type 0} (φ : N → M) (o : Outcome N) → verdict (map_outcome φ o) ≡ verdict o
verdict_map φ (done n) = refl
verdict_map φ (refused k place n) = refl

cond_same : {A : Type 0} (t : Bool) (x x' y y' : A) → x ≡ x' → y ≡ y' → cond t x y ≡ cond t x' y'
cond_same true x x' y y' e f = e
cond_same false x x' y y' e f = f

-- ---- the detector that a call asks for: p, unless a check of the detectors refuses, or lengths do

abbrev asked_for : Checked Unit → Bool → Placed → Checked Placed
asked_for c t p = after c (cond t (passed p) (refused_at 9 0))

by_asked : {A : Type 0} (F G : Checked Placed → A) (c : Checked Unit) (t : Bool) (p q : Placed) → ((n place : ℕ) → F (refused_at n place) ≡ G (refused_at n place))
    → (c ≡ passed tt → F (passed p) ≡ G (passed q)) → F (asked_for c t p) ≡ G (asked_for c t q)
by_asked F G (passed tt) true p q r k = k refl
by_asked F G (passed tt) false p q r k = r 9 0
by_asked F G (refused_at n place) t p q r k = r n place

-- by lengths: nf of the stored map, nw of the work map, nv and nt of the hit list, of which u hits are used
abbrev lengths_fit : Detectors → DetectorNo → ℕ → ℕ → ℕ → ℕ → ℕ → Bool
lengths_fit ds d nf nw nv nt u = eqb nf (all_pixels_of ds) && (eqb nw (pixels_of (detector_at ds.list d.0)) && is_hit_list_of nv nt u)

filter_asks : (ds : Detectors) (d : DetectorNo) (nf nw nv nt u : ℕ) → check_filter_of ds d nf nw nv nt u ≡ asked_for (check_asked ds d) (lengths_fit ds d nf nw nv nt u) (placed_of ds.list d.0)
unfolding check_filter_of find_of check_placed placed_of
filter_asks ds d nf nw nv nt u = go (check_asked ds d)
  where
    go : (c : Checked Unit) → check_placed ds nf nw nv nt u (after c (passed (placed_of ds.list d.0))) ≡ asked_for c (lengths_fit ds d nf nw nv nt u) (placed_of ds.list d.0)
    go (passed x) = refl
    go (refused_at n place) = refl

-- ---- a map made anew, and a reading: of the detector only pixels and sizes are used

refill_same : (wanted : DetectorHit → Bool) (e e' : Detector2D) → ((x y : Float) → pixel_at_of e' x y ≡ pixel_at_of e x y) → (n : ℕ) (b : List DetectorHit) → refill_of wanted e' n b ≡ refill_of wanted e n b
unfolding refill_of
refill_same wanted e e' same n b = each_same e e' same _ _

abbrev own_reading : List Float → ℕ → ℕ → Detector2D → Float
own_reading flux px py e = irradiance_in_of (record { detector = e; first = 0 }) flux px py

bare_reading : (flux : List Float) (px py : ℕ) (e : Detector2D) → own_reading flux px py (bare_detector e) ≡ own_reading flux px py e
unfolding irradiance_in_of irradiance_of area_of
bare_reading flux px py e = refl

-- a reading of the stored map is one of the detector's own part
module _ (l : List Detector2D) (d : ℕ) (flux : List Float) (px py : ℕ) (g : Gridded (detector_at l d)) where
  abbrev own : Detector2D
  own = detector_at l d

  abbrev pixel : ℕ
  pixel = py * own.res_x + px

  abbrev in_grid : Bool
  in_grid = ltb px own.res_x && ltb py own.res_y

  own_pixel : in_grid ≡ true → get_or flux (first_pixel_of l d + pixel) nan ≡ get_or (part_in Float l d flux) (0 + pixel) nan
  unfolding part_in
  own_pixel t =
      let x : px < own.res_x = ltb-true px own.res_x (and_left (ltb px own.res_x) (ltb py own.res_y) t) in
      let y : py < own.res_y = ltb-true py own.res_y (and_right (ltb px own.res_x) (ltb py own.res_y) t) in
      let k : pixel < pixels_of own = omega (arith, pixels_are own g, in_grid_lem px py own.res_x own.res_y x y) in
      rw zero-add (sym (part_get Float flux (first_pixel_of l d) (pixels_of own) pixel nan k))

  cond_known : {A : Type 0} (t : Bool) (x y z : A) → (t ≡ true → x ≡ y) → cond t x z ≡ cond t y z
  cond_known true x y z e = e refl
  cond_known false x y z e = refl

  own_reading_lem : irradiance_in_of (placed_of l d) flux px py ≡ own_reading (part_in Float l d flux) px py own
  unfolding irradiance_in_of placed_of
  own_reading_lem = cond_known in_grid _ _ _ (λ t. ap (irradiance_of own) (own_pixel t))

-- ---- s is the empty memory, b the book

module _ (s : Memory) (eight : length s.detectors.list ≡ 8) (empty : Empty s) (b : List DetectorHit) (sane : Sane s eight empty b) where
  abbrev m : Memory
  m = added s b

  abbrev es : Detectors
  es = (bare s).detectors

  -- what looks at no total and no count
  seen : {A : Type 0} (g : Detectors → A) → ((ds : Detectors) → g (bare_detectors ds) ≡ g ds) → g m.detectors ≡ g es
  seen g e = sym (e m.detectors) ∙ ap g (bare_hits b s ∙ sym (bare_detectors_lem s))

  seen_at : {A : Type 0} (g : Detector2D → A) → ((d : Detector2D) → g (bare_detector d) ≡ g d) → (d : ℕ) → g (detector_at m.detectors.list d) ≡ g (detector_at es.list d)
  seen_at g e d = seen (λ ds. g (detector_at ds.list d)) (λ ds. bare_at g e ds.list d)

  module _ (d : DetectorNo) where
    abbrev there : Placed
    there = placed_of m.detectors.list d.0

    abbrev plain : Placed
    plain = placed_of es.list d.0

    asked-same : check_asked m.detectors d ≡ check_asked es d
    asked-same = seen (λ ds. check_asked ds d) (bare_asked d)

    view-same : check_asked es d ≡ passed tt → view_in m d.0 ≡ book_view (bare s) d.0 b
    unfolding bare
    view-same e =
        let t = asked_sound es d e in
        book_view_lem s eight empty b d.0 sane t.1 (omega (arith, t.0.most, t.1))

    -- ---- filters

    module _ (f : RayPathFilter) (work : List Float) where
      fit_same : lengths_fit m.detectors d (length m.flux) (length work) (length m.hit_values) (length m.hit_tags) m.used
          ≡ lengths_fit es d (length (bare s).flux) (length work) (length (bare s).hit_values) (length (bare s).hit_tags) (length b)
      fit_same =
          rw (
            added_flux b s,
            added_values b s,
            added_tags b s,
            used_by s eight empty b,
            bare_flux s,
            bare_values s,
            bare_tags s,
            seen all_pixels_of bare_all,
            seen (λ ds. pixels_of (detector_at ds.list d.0)) (λ ds. bare_pixels_at ds.list d.0),
          )

      asks-same : {A : Type 0} (F G : Checked Placed → A) → ((n place : ℕ) → F (refused_at n place) ≡ G (refused_at n place)) → (check_asked es d ≡ passed tt → F (passed there) ≡ G (passed plain))
          → F (check_filter_of m.detectors d (length m.flux) (length work) (length m.hit_values) (length m.hit_tags) m.used) ≡ G (book_asked (bare s) d work b)
      unfolding book_asked
      asks-same F G r k =
          let t = lengths_fit es d (length (bare s).flux) (length work) (length (bare s).hit_values) (length (bare s).hit_tags) (length b) in
          ap F (filter_asks m.detectors d (length m.flux) (length work) (length m.hit_values) (length m.hit_tags) m.used)
          ∙ ap (λ c. F (asked_for c (lengths_fit m.detectors d (length m.flux) (length work) (length m.hit_values) (length m.hit_tags) m.used) there)) asked-same
          ∙ ap (λ t. F (asked_for (check_asked es d) t there)) fit_same
          ∙ by_asked F G (check_asked es d) t there plain r k
          ∙ sym (ap G (filter_asks es d (length (bare s).flux) (length work) (length (bare s).hit_values) (length (bare s).hit_tags) (length b)))

      pixel-same : (x y : Float) → pixel_at_of (detector_at m.detectors.list d.0) x y ≡ pixel_at_of (detector_at es.list d.0) x y
      pixel-same x y = seen (λ ds. pixel_at_of (detector_at ds.list d.0) x y) (λ ds. bare_pixel_at ds.list d.0 x y)

      placed_same : check_asked es d ≡ passed tt → refilter_placed f d work b (passed there) ≡ book_filtered (bare s) d f work b (passed plain)
      unfolding refilter_placed book_filtered placed_of view_in
      placed_same e =
          cond_same (is_all_of f) _ _ _ _ (ap (λ (v : View). handed (passed tt) work v.total v.count) (view-same e))
          (ap from_map (refill_same (passes_of f d) (detector_at es.list d.0) (detector_at m.detectors.list d.0) pixel-same (length work) b))

      refused-same : (n place : ℕ) → refilter_placed f d work b (refused_at n place) ≡ book_filtered (bare s) d f work b (refused_at n place)
      unfolding refilter_placed book_filtered
      refused-same n place = refl

      refilter_same : refilter_of m.detectors d f m.flux work m.hit_values m.hit_tags m.used ≡ book_filtered (bare s) d f work b (book_asked (bare s) d work b)
      unfolding refilter_of
      refilter_same =
          ap (λ hs. refilter_placed f d work hs (check_filter_of m.detectors d (length m.flux) (length work) (length m.hit_values) (length m.hit_tags) m.used)) sane.back
          ∙ asks-same (refilter_placed f d work b) (book_filtered (bare s) d f work b) refused-same placed_same

      own_part : check_asked es d ≡ passed tt → part_placed f m.flux work (passed there) ≡ book_part (bare s) d f work b (passed plain)
      unfolding part_placed book_part stored_part_of placed_of view_in part_in
      own_part e = cond_same (is_all_of f) _ _ work work (ap (λ (v : View). v.flux) (view-same e)) refl

      no_part : (n place : ℕ) → part_placed f m.flux work (refused_at n place) ≡ book_part (bare s) d f work b (refused_at n place)
      unfolding part_placed book_part
      no_part n place = refl

      part_same : filtered_pixel_flux_of m.detectors d f m.flux work m.hit_values m.hit_tags m.used ≡ book_part (bare s) d f work b (book_asked (bare s) d work b)
      unfolding filtered_pixel_flux_of
      part_same = asks-same (part_placed f m.flux work) (book_part (bare s) d f work b) no_part own_part

    -- ---- readings

    module _ (px py : ℕ) where
      grid-there : check_asked es d ≡ passed tt → Gridded (detector_at m.detectors.list d.0)
      grid-there e = let t = asked_sound m.detectors d (asked-same ∙ e) in t.0.each d.0 t.1

      flux-there : check_asked es d ≡ passed tt → part_in Float m.detectors.list d.0 m.flux ≡ (book_view (bare s) d.0 b).flux
      unfolding view_in
      flux-there e = ap (λ (v : View). v.flux) (view-same e)

      own_same : check_asked es d ≡ passed tt → irradiance_in_of there m.flux px py ≡ own_reading (book_view (bare s) d.0 b).flux px py (detector_at es.list d.0)
      own_same e =
          own_reading_lem m.detectors.list d.0 m.flux px py (grid-there e)
          ∙ seen_at (own_reading (part_in Float m.detectors.list d.0 m.flux) px py) (bare_reading _ px py) d.0
          ∙ ap (λ fl. own_reading fl px py (detector_at es.list d.0)) (flux-there e)

      read_same : check_asked es d ≡ passed tt → irradiance_from m.detectors m.flux px py (passed there) ≡ book_reading (bare s) d px py b (passed plain)
      unfolding irradiance_from book_reading placed_of
      read_same e = rw (added_flux b s, bare_flux s, seen all_pixels_of bare_all) (cond_same (eqb (length s.flux) (all_pixels_of es)) _ _ _ _ (ap passed (own_same e)) refl)

      unread-same : (n place : ℕ) → irradiance_from m.detectors m.flux px py (refused_at n place) ≡ book_reading (bare s) d px py b (refused_at n place)
      unfolding irradiance_from book_reading
      unread-same n place = refl

      reading-same : irradiance_at_of m.detectors d m.flux px py ≡ book_reading (bare s) d px py b (find_of es d)
      unfolding irradiance_at_of find_of
      reading-same =
          ap (λ c. irradiance_from m.detectors m.flux px py (asked_for c true there)) asked-same
          ∙ by_asked (irradiance_from m.detectors m.flux px py) (book_reading (bare s) d px py b) (check_asked es d) true there plain unread-same read_same

  -- ---- a tracing, its report included

  module _ (B : Batch) where
    both : check_batch B (with_used (bare s) (length b)) ≡ passed tt → check_batch B (with_used s (length b)) ≡ passed tt
    unfolding bare
    both e = sym (batch_blind B (with_used s (length b))) ∙ e

    run-same : check_batch B (with_used (bare s) (length b)) ≡ passed tt → run_on record_of m.detectors B m ≡ map_run (added s) (run_on (plain_hit (bare s)) es B b)
    run-same e =
        run_faces B record_of s.detectors m.detectors m (added_faces b s)
        ∙ run_natural B (added s) record_of (plain_hit (bare s)) (with_used s (length b)) (both e)
        (λ c h r. put-booked s eight empty (length b) h (batch_there B (with_used s (length b)) (both e) h r) c) b
        ∙ ap (map_run (added s)) (run_faces B (plain_hit (bare s)) es s.detectors b (sym (faces_bare s)))

    ran-same : (r : Run (List DetectorHit)) → traced_answer (traced (map_run (added s) r)) ≡ traced_answer (traced r)
    ran-same r = ap (λ c. trace_said c r.progress.report) (verdict_map (added s) r.outcome)

    tracing_same : traced_answer (trace_rays_of B m) ≡ traced_answer (book_traced (bare s) B b)
    unfolding trace_rays_of book_traced
    tracing_same =
        ap (λ c. traced_answer (trace_after c m (run_on record_of m.detectors B m))) (sym (batch_blind B m) ∙ ap (check_batch B) (bare_used s eight empty b))
        ∙ go (check_batch B (with_used (bare s) (length b))) refl
      where
        go : (c : Checked Unit) → check_batch B (with_used (bare s) (length b)) ≡ c
            → traced_answer (trace_after c m (run_on record_of m.detectors B m)) ≡ traced_answer (trace_after c b (run_on (plain_hit (bare s)) es B b))
        go (passed tt) e = ap (λ (r : Run Memory). traced_answer (traced r)) (run-same e) ∙ ran-same (run_on (plain_hit (bare s)) es B b)
        go (refused_at n place) e = refl

  -- ---- every call

  recording_same : (h : DetectorHit) → answer_in (recording h) m ≡ book_answer (bare s) (recording h) b
  unfolding answer_in book_answer outcome_in
  recording_same h = ap (λ o. record_said (verdict o)) (call_booked s eight empty (recording h) b) ∙ ap record_said (verdict_map (added s) (book_granted (bare s) (wish_in (recording h)) b))

  pub answer_same : (c : Call) → answer_in c m ≡ book_answer (bare s) c b
  unfolding answer_in book_answer
  answer_same (tracing B) = tracing_same B
  answer_same (recording h) = recording_same h
  answer_same (refilter d f work) = ap filter_said (refilter_same d f work)
  answer_same (part d f work) = ap part_said (part_same d f work)
  answer_same (irradiance d px py) = ap reading_said (reading-same d px py)
  answer_same (crossing d r) = refl
  answer_same (area d) = refl

-- from the empty memory, after any list of calls
pub answers : (s : Memory) → length s.detectors.list ≡ 8 → Empty s → (cs : List Call) (c : Call) → answer_in c (memory_after cs s) ≡ book_answer (bare s) c (book_after (bare s) cs [])
answers s eight empty cs c = ap (answer_in c) (after_calls s eight empty cs) ∙ answer_same s eight empty (book_after (bare s) cs []) (after_sane s eight empty cs) c
