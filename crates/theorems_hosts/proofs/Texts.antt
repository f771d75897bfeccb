-- The text of an answer is made of what the filter calls answer, and so is the book's. Assumes nothing.
use Rattle.std.specs.Prelude.{Option, None, Some}
use Prim.Native.Nat.{ℕ, zero, suc, ◌+◌, ◌<◌}
use mathlib.Core.Path.{◌≡◌, refl, ap, sym, subst, ◌∙◌}
use mathlib.Core.Bool.{Bool, true, false, cond}
use mathlib.Core.List.{List, [], ◌∷◌, map}
use native.Mathlib.Omega.{arith}
use lib.Dec.{ltb}
use lib.Ieee.{Float, nan}
use lib.ListN.{length, take, replicate, length-replicate, get_or-replicate}
use Rattle.error.specs.Refusals.{passed}
use Rattle.detector.specs.declared.Detector2D.{Detector2D}
use Rattle.detector.specs.declared.DetectorHit.{DetectorHit}
use Rattle.detector.specs.Pixels.{pixels_of}
use Rattle.detectors.specs.declared.Detectors.{Detectors}
use Rattle.detectors.specs.Detectors.{max_detectors, detector_at, all_pixels_of, placed_of, at_of, check_detectors_of}
use Rattle.memory.specs.Memory.{Memory, text_pixels}
use Rattle.memory.specs.Plain.{Empty, added}
use Rattle.memory.proofs.Plain.{used_by}
use Rattle.filter.specs.declared.RayPathFilter.{RayPathFilter}
use Rattle.filter.specs.declared.RayPathFilter.TheVariants.{SignalOnly, StrayLight}
use Rattle.filter.specs.Filters.{numbered_filter_of}
use Rattle.filter.specs.Handed.{Handed, handed, refilter_of, filtered_pixel_flux_of}
use Rattle.report.specs.declared.NonSeqTraceReport.{NonSeqTraceReport}
use Rattle.answer_text.specs.declared.maps.Grid.{Grid}
use Rattle.answer_text.specs.Answer.{Held, few_of, grid_from, grid_at_of, shown_of, shown_map, detector_text, detector_map_text, each_from, detector_count_of, count_in, detectors_text, maps_text, answer_text}
use Rattle.host_texts.specs.Texts.{is_held_of, check_held_of, written_after, put_checked_of, put_by, host_put_answer_of}
use Rattle.theorems_calls.specs.Calls.{Call, refilter, part, Answer, trace_said, record_said, filter_said, part_said, reading_said, crossing_said, answer_in}
use Rattle.theorems_calls.specs.Book.{bare_detector, bare_detectors, bare, book_after, book_answer}
use Rattle.theorems_calls.proofs.Bare.{bare_at, bare_pixels_at, bare_checks, bare_all, bare_hits, bare_flux, bare_values, bare_tags, bare_detectors_lem}
use Rattle.theorems_calls.proofs.Reached.{added_flux, added_values, added_tags}
use Rattle.theorems_calls.proofs.Booked.{Sane}
use Rattle.theorems_calls.proofs.Lists.{after_sane}
use Rattle.theorems_calls.proofs.Answers.{answer_same}
use Rattle.theorems_hosts.specs.HostCalls.{held_in}
use Rattle.doubles.specs.Doubles.{#0}

-- ---- two memories of which the filter calls answer the same

record Alike (p q : Held) : Type 0 where
  count : p.detectors.count ≡ q.detectors.count
  grid : (d : ℕ) → grid_at_of p.detectors d ≡ grid_at_of q.detectors d
  shown : (f : RayPathFilter) (d : ℕ) → shown_of p f d ≡ shown_of q f d
  maps : (f : RayPathFilter) (d : ℕ) → shown_map p f d ≡ shown_map q f d

each_same : (t u : ℕ → List ℕ) → ((d : ℕ) → t d ≡ u d) → (n d : ℕ) → each_from t n d ≡ each_from u n d
unfolding each_from
each_same t u e zero d = refl
each_same t u e (suc n) d = rw (e d, each_same t u e n (d + 1))

module _ (p q : Held) (a : Alike p q) where
  detector_same : (f : RayPathFilter) (d : ℕ) → detector_text p f d ≡ detector_text q f d
  unfolding detector_text
  detector_same f d = rw (a.shown f d, a.shown SignalOnly d, a.shown StrayLight d)

  map_same : (f : RayPathFilter) (d : ℕ) → detector_map_text p f d ≡ detector_map_text q f d
  unfolding detector_map_text
  map_same f d = rw (a.grid d, a.maps f d)

  all_same : (t u : ℕ → List ℕ) → ((d : ℕ) → t d ≡ u d) → each_from t (count_in p) 0 ≡ each_from u (count_in q) 0
  all_same t u e = each_same t u e (count_in p) 0 ∙ ap (λ n. each_from u (detector_count_of n) 0) a.count

  text_same : (r : NonSeqTraceReport) (f : RayPathFilter) → answer_text r f p ≡ answer_text r f q
  unfolding answer_text detectors_text maps_text
  text_same r f = rw (all_same (detector_text p f) (detector_text q f) (detector_same f), all_same (detector_map_text p f) (detector_map_text q f) (map_same f))

-- ---- a memory without contents is empty

bare_twice : (l : List Detector2D) → map bare_detector (map bare_detector l) ≡ map bare_detector l
bare_twice [] = refl
bare_twice (d ∷ l) = ap (λ t. bare_detector d ∷ t) (bare_twice l)

bare_long : (l : List Detector2D) → length (map bare_detector l) ≡ length l
bare_long [] = refl
bare_long (d ∷ l) = ap suc (bare_long l)

bare_zero : (l : List Detector2D) (d : ℕ) → d < length l → ((detector_at (map bare_detector l) d).total_flux_watts ≡ #0) × ((detector_at (map bare_detector l) d).total_rays_hit ≡ 0)
bare_zero [] d k = absurd (omega arith)
bare_zero (e ∷ l) zero k = (refl, refl)
bare_zero (e ∷ l) (suc d) k = bare_zero l d (omega arith)

bare_bare : (s : Memory) → bare (bare s) ≡ bare s
unfolding bare
bare_bare s = rw (bare_twice s.detectors.list, length-replicate (length s.flux) #0, length-replicate {A = ℕ} (length s.hits) 0, length-replicate (length s.hit_values) #0, length-replicate {A = ℕ} (length s.hit_tags) 0)

module _ (s : Memory) (eight : length s.detectors.list ≡ 8) where
  bare_eight : length (bare s).detectors.list ≡ 8
  unfolding bare
  bare_eight = bare_long s.detectors.list ∙ eight

  bare_empty : Empty (bare s)
  unfolding bare
  bare_empty =
      record {
        used = refl;
        flux = λ p k. get_or-replicate (length s.flux) p #0 nan (rw (length-replicate (length s.flux) #0) at k);
        hits = λ p k. get_or-replicate (length s.hits) p 0 0 (rw (length-replicate {A = ℕ} (length s.hits) 0) at k);
        totals = λ d n k. (bare_zero s.detectors.list d (omega (arith, eight))).0;
        counts = λ d n k. (bare_zero s.detectors.list d (omega (arith, eight))).1;
      }

-- ---- after any list of calls

abbrev pub handed_in : Answer → Handed
handed_in (trace_said c r) = handed c [] #0 0
handed_in (record_said c) = handed c [] #0 0
handed_in (filter_said h) = h
handed_in (part_said l) = handed (passed tt) l #0 0
handed_in (reading_said c) = handed (passed tt) [] #0 0
handed_in (crossing_said c) = handed (passed tt) [] #0 0

abbrev grid_with : ℕ → ℕ → Grid
grid_with n w = record { pixels = few_of n; columns = w }

bare_grid : (d : ℕ) (ds : Detectors) → grid_at_of (bare_detectors ds) d ≡ grid_at_of ds d
unfolding grid_at_of grid_from at_of placed_of
bare_grid d ds = go (ltb d max_detectors)
  where
    go : (t : Bool) → grid_from (cond t (Some (placed_of (map bare_detector ds.list) d)) None) ≡ grid_from (cond t (Some (placed_of ds.list d)) None)
    go true =
        ap (λ n. grid_with n (detector_at (map bare_detector ds.list) d).res_x) (bare_pixels_at ds.list d)
        ∙ ap (λ w. grid_with (pixels_of (detector_at ds.list d)) w) (bare_at (λ e. e.res_x) (λ e. refl) ds.list d)
    go false = refl

module _ (s : Memory) (eight : length s.detectors.list ≡ 8) (empty : Empty s) (cs : List Call) where
  abbrev b : List DetectorHit
  b = book_after (bare s) cs []

  abbrev m : Memory
  m = added s b

  abbrev z : Memory
  z = added (bare s) b

  plain_sane : Sane (bare s) (bare_eight s eight) (bare_empty s eight) b
  plain_sane = subst (λ x. Sane (bare s) (bare_eight s eight) (bare_empty s eight) (book_after x cs [])) (bare_bare s) (after_sane (bare s) (bare_eight s eight) (bare_empty s eight) cs)

  both : (c : Call) → answer_in c m ≡ answer_in c z
  both c =
      answer_same s eight empty b (after_sane s eight empty cs) c
      ∙ ap (λ x. book_answer x c b) (sym (bare_bare s))
      ∙ sym (answer_same (bare s) (bare_eight s eight) (bare_empty s eight) b plain_sane c)

  seen : {A : Type 0} (g : Detectors → A) → ((ds : Detectors) → g (bare_detectors ds) ≡ g ds) → g m.detectors ≡ g z.detectors
  seen g e =
      sym (e m.detectors) ∙ ap g (bare_hits b s ∙ sym (bare_detectors_lem s) ∙ ap (λ (x : Memory). x.detectors) (sym (bare_bare s)) ∙ bare_detectors_lem (bare s) ∙ sym (bare_hits b (bare s)))
      ∙ e z.detectors

  abbrev made : Memory → ℕ → RayPathFilter → List Float → Handed
  made x d f work = refilter_of x.detectors (record { 0 = d }) f x.flux work x.hit_values x.hit_tags x.used

  abbrev shown_part : Memory → ℕ → RayPathFilter → List Float → List Float
  shown_part x d f work = filtered_pixel_flux_of x.detectors (record { 0 = d }) f x.flux work x.hit_values x.hit_tags x.used

  shown_same : (f : RayPathFilter) (d : ℕ) → shown_of (held_in m) f d ≡ shown_of (held_in z) f d
  unfolding shown_of answer_in
  shown_same f d =
      ap handed_in (both (refilter (record { 0 = d }) f (take (grid_at_of m.detectors d).pixels (replicate text_pixels #0))))
      ∙ ap (λ (g : Grid). made z d f (take g.pixels (replicate text_pixels #0))) (seen (λ ds. grid_at_of ds d) (bare_grid d))

  shown_map_lem : (f : RayPathFilter) (d : ℕ) → shown_map (held_in m) f d ≡ shown_map (held_in z) f d
  unfolding shown_map answer_in
  shown_map_lem f d =
      ap (λ h. (handed_in h).map) (both (part (record { 0 = d }) f (shown_of (held_in m) f d).map))
      ∙ ap (λ (h : Handed). shown_part z d f h.map) (shown_same f d)

  alike : Alike (held_in m) (held_in z)
  alike = record { count = seen (λ ds. ds.count) (λ ds. refl); grid = λ d. seen (λ ds. grid_at_of ds d) (bare_grid d); shown = shown_same; maps = shown_map_lem }

  check_same : check_held_of m.detectors (length m.flux) (length m.hit_values) (length m.hit_tags) m.used
      ≡ check_held_of z.detectors (length z.flux) (length z.hit_values) (length z.hit_tags) z.used
  unfolding check_held_of is_held_of
  check_same =
      rw (
        seen check_detectors_of bare_checks,
        seen all_pixels_of bare_all,
        added_flux b s,
        added_values b s,
        added_tags b s,
        used_by s eight empty b,
        added_flux b (bare s),
        added_values b (bare s),
        added_tags b (bare s),
        used_by (bare s) (bare_eight s eight) (bare_empty s eight) b,
        bare_flux s,
        bare_values s,
        bare_tags s,
      )

  -- the text of the memory, and of the book
  pub written_same : (buf : List ℕ) (r : NonSeqTraceReport) (f : ℕ) → host_put_answer_of buf r f (held_in m) ≡ host_put_answer_of buf r f (held_in z)
  unfolding host_put_answer_of put_checked_of
  written_same buf r f = go (numbered_filter_of f)
    where
      go : (o : Option RayPathFilter) → put_by buf r o (held_in m) ≡ put_by buf r o (held_in z)
      go (Some g) = ap (λ c. written_after c buf (answer_text r g (held_in m))) check_same ∙ ap (λ t. written_after (check_held_of z.detectors (length z.flux) (length z.hit_values) (length z.hit_tags) z.used) buf t) (text_same (held_in m) (held_in z) alike r g)
      go None = refl
