-- How long an answer is at most: a line of at most 29 bytes for each pixel, the detectors together have no more pixels than the stored map, and what else is printed is short. Assumes nothing.
use Prim.Native.Nat.{ℕ, zero, suc, ◌+◌, ◌*◌, ◌/◌, ◌%◌, ◌≤◌, ◌<◌}
use mathlib.Core.Path.{◌≡◌, refl, ap}
use mathlib.Core.List.{List, [], ◌∷◌, ◌++◌}
use mathlib.Core.Bool.{Bool, true, false, cond, ◌&&◌}
use mathlib.Core.Logic.{◌⊎◌, inl, inr}
use native.Mathlib.Nat.{add-zero, mod-le, div-le_self, min-le_left}
use native.Mathlib.Omega.{arith}
use lib.Dec.{eqb, leb}
use lib.Ieee.{Float, ne}
use lib.ListN.{length, take, drop, length-append, length-take}
use borrow.Author.Tests.{eqb-true, eqb-false, leb-true}
use Rattle.error.specs.Refusals.{Checked, passed, refused_at}
use Rattle.detector.specs.declared.DetectorNo.{DetectorNo}
use Rattle.detector.specs.declared.Detector2D.{Detector2D}
use Rattle.detector.specs.Pixels.{pixels_of}
use Rattle.detectors.specs.declared.Detectors.{Detectors}
use Rattle.detectors.specs.declared.Placed.{Placed}
use Rattle.detectors.specs.Detectors.{max_detectors, detector_at, first_pixel_of, all_pixels_of, placed_of, find_of}
use Rattle.detectors.proofs.Passed.{asked_there, part_in}
use Rattle.detectors.proofs.Lists.{first_more}
use Rattle.memory.specs.Memory.{is_hit_list_of, text_pixels}
use Rattle.filter.specs.declared.RayPathFilter.{RayPathFilter}
use Rattle.filter.specs.declared.RayPathFilter.TheVariants.{SignalOnly, StrayLight}
use Rattle.filter.specs.Filters.{is_all_of}
use Rattle.filter.specs.Handed.{check_placed, check_filter_of, stored_part_of, part_placed, filtered_pixel_flux_of}
use Rattle.report.specs.declared.NonSeqTraceReport.{NonSeqTraceReport}
use Rattle.report.specs.declared.tallies.Tallies.{Tallies}
use Rattle.printing.specs.Rows.{row_text}
use Rattle.printing.proofs.Lengths.{decimal_few, row_short, three_short}
use Rattle.answer_text.specs.Answer.{Held, ledger_text, tallies_text, grid_at_of, shown_of, shown_map, detector_text, pixel_text, pixels_text, detector_map_text, each_from, detector_count_of, count_in, detectors_text, maps_text, answer_text, refusal_text}
use Rattle.doubles.specs.Doubles.{#0}
use Rattle.fields.specs.Split.{bytes}

-- ---- lines

ledger_short : (r : NonSeqTraceReport) → length (ledger_text r) ≤ 185
unfolding ledger_text bytes
ledger_short r =
    let l = r.ledger in
    omega (arith, row_short (r.total_rays_traced ∷ r.total_interactions ∷ []) (l.launched_flux_watts ∷ l.detected_flux_watts ∷ l.absorbed_flux_watts ∷ l.escaped_flux_watts ∷ l.lost_flux_watts ∷ []))

tallies_short : (t : Tallies) → length (tallies_text t) ≤ 187
unfolding tallies_text bytes
tallies_short t = omega (arith, row_short (t.made ∷ t.dim ∷ t.spent ∷ t.caught ∷ t.gone ∷ t.surface ∷ t.weak ∷ []) [])

pub refusal_short : (n place : ℕ) → length (refusal_text n place) ≤ 56
unfolding refusal_text bytes
refusal_short n place = omega (arith, row_short (n ∷ place ∷ []) [])

detector_short : (m : Held) (f : RayPathFilter) (d : ℕ) → length (detector_text m f d) ≤ 101
unfolding detector_text
detector_short m f d = row_short (d ∷ (shown_of m f d).count ∷ (shown_of m SignalOnly d).count ∷ (shown_of m StrayLight d).count ∷ []) ((shown_of m f d).total ∷ [])

pixel_short : (d px py : ℕ) (x : Float) → d < 10 → px < 10000 → py < 10000 → length (pixel_text d px py x) ≤ 29
unfolding pixel_text
pixel_short d px py x p q r = go (ne x #0)
  where
    go : (b : Bool) → length (cond b (row_text (d ∷ px ∷ py ∷ []) (x ∷ [])) []) ≤ 29
    go true = three_short d px py x 1 4 4 (decimal_few 20 0 d p) (decimal_few 20 3 px q) (decimal_few 20 3 py r)
    go false = omega arith

pixels_short : (d w i : ℕ) (l : List Float) → d < 10 → i + length l ≤ 10000 → length (pixels_text d w i l) ≤ length l * 29
unfolding pixels_text
pixels_short d w i [] p h = omega arith
pixels_short d w i (x ∷ l) p h =
    let a : i % w < 10000 = omega (arith, mod-le i w) in
    let b : i / w < 10000 = omega (arith, div-le_self i w) in
    let t = pixel_short d (i % w) (i / w) x p a b in
    let r = pixels_short d w (i + 1) l p (omega arith) in
    rw (length-append (pixel_text d (i % w) (i / w) x) (pixels_text d w (i + 1) l)) (omega arith)

-- ---- what a filter hands back

-- no more than the detector's pixels
part_short : (f : RayPathFilter) (stored work : List Float) (p : Placed) → length work ≡ pixels_of p.detector → length (part_placed f stored work (passed p)) ≤ pixels_of p.detector
unfolding part_placed stored_part_of
part_short f stored work p e = go (is_all_of f)
  where
    go : (b : Bool) → length (cond b (take (pixels_of p.detector) (drop p.first stored)) work) ≤ pixels_of p.detector
    go true = rw (length-take (pixels_of p.detector) (drop p.first stored)) (min-le_left (pixels_of p.detector) (length (drop p.first stored)))
    go false = omega (arith, e)

part_none : (f : RayPathFilter) (stored work : List Float) (n place : ℕ) → length (part_placed f stored work (refused_at n place)) ≡ 0
unfolding part_placed
part_none f stored work n place = refl

-- a map of n pixels that is handed back of detector d, where so many are stored
pub record Part (ds : Detectors) (d stored n : ℕ) : Type 0 where
  pub all : stored ≡ all_pixels_of ds
  pub own : n ≤ pixels_of (detector_at ds.list d)
  pub most : n ≤ stored

-- the same, or nothing is handed back
abbrev pub PartOrNone : Detectors → ℕ → ℕ → ℕ → Type 0
PartOrNone ds d stored n = (n ≡ 0) ⊎ Part ds d stored n

module _ (ds : Detectors) (d : ℕ) (f : RayPathFilter) (stored work : List Float) where
  abbrev asked : DetectorNo
  asked = record { 0 = d }

  abbrev back : Checked Placed → ℕ
  back c = length (part_placed f stored work c)

  placed_part : (q : Placed) → find_of ds asked ≡ passed q → length stored ≡ all_pixels_of ds → length work ≡ pixels_of q.detector → Part ds d (length stored) (back (passed q))
  unfolding placed_of
  placed_part q v a b =
      let t = asked_there ds asked q v in
      let k : pixels_of q.detector ≡ pixels_of (detector_at ds.list d) = ap (λ (x : Placed). pixels_of x.detector) t.2 in
      let s = part_short f stored work q b in
      let w = part_in ds d (length stored) t.0 t.1 a in
      record { all = a; own = omega arith; most = omega arith }

  found_part : (values tags used : ℕ) (c : Checked Placed) → find_of ds asked ≡ c
      → PartOrNone ds d (length stored) (back (check_placed ds (length stored) (length work) values tags used c))
  unfolding check_placed
  found_part values tags used (refused_at n place) v = inl (part_none f stored work n place)
  found_part values tags used (passed q) v = go (eqb (length stored) (all_pixels_of ds)) (eqb (length work) (pixels_of q.detector)) (is_hit_list_of values tags used) refl refl
    where
      go : (x y z : Bool) → eqb (length stored) (all_pixels_of ds) ≡ x → eqb (length work) (pixels_of q.detector) ≡ y
          → PartOrNone ds d (length stored) (back (cond (x && (y && z)) (passed q) (refused_at 9 0)))
      go true true true a b = inr (placed_part q v (eqb-true _ _ a) (eqb-true _ _ b))
      go true true false a b = inl (part_none f stored work 9 0)
      go true false z a b = inl (part_none f stored work 9 0)
      go false y z a b = inl (part_none f stored work 9 0)

pub held_part : (m : Held) (f : RayPathFilter) (d : ℕ) → PartOrNone m.detectors d (length m.flux) (length (shown_map m f d))
unfolding shown_map filtered_pixel_flux_of check_filter_of
held_part m f d =
    found_part m.detectors d f m.flux (shown_of m f d).map (length m.hit_values) (length m.hit_tags) m.used (find_of m.detectors (record { 0 = d })) refl

map_short : (m : Held) (f : RayPathFilter) (d : ℕ) → d < 10 → length (shown_map m f d) ≤ 10000 → length (detector_map_text m f d) ≤ length (shown_map m f d) * 29
unfolding detector_map_text
map_short m f d p h = go (eqb (grid_at_of m.detectors d).columns 0)
  where
    go : (b : Bool) → length (cond b [] (pixels_text d (grid_at_of m.detectors d).columns 0 (shown_map m f d))) ≤ length (shown_map m f d) * 29
    go true = omega arith
    go false = pixels_short d (grid_at_of m.detectors d).columns 0 (shown_map m f d) p (omega arith)

-- ---- one text after another: g says how far each may go

pub each_most : (text : ℕ → List ℕ) (g : ℕ → ℕ) (k : ℕ) → ((i : ℕ) → i < k → g i + length (text i) ≤ g (i + 1)) → (n d : ℕ) → d + n ≤ k → g d + length (each_from text n d) ≤ g (d + n)
unfolding each_from
each_most text g k h zero d p = rw (add-zero d) (omega arith)
each_most text g k h (suc n) d p =
    let a = h d (omega arith) in
    let b = each_most text g k h n (d + 1) (omega arith) in
    let q : d + suc n ≡ d + 1 + n = omega arith in
    rw (q, length-append (text d) (each_from text n (d + 1))) (omega arith)

count_most : (n : ℕ) → detector_count_of n ≤ 8
unfolding detector_count_of
count_most n = go (leb n 8) refl
  where
    go : (b : Bool) → leb n 8 ≡ b → cond b n 0 ≤ 8
    go true e = leb-true n 8 e
    go false e = omega arith

detectors_short : (f : RayPathFilter) (m : Held) → length (detectors_text f m) ≤ 840
unfolding detectors_text bytes
detectors_short f m =
    let c = count_most m.detectors.count in
    let e = each_most (detector_text m f) (λ i. i * 101) 8 (λ i h. omega (arith, detector_short m f i)) (count_in m) 0 (omega arith) in
    omega arith

-- the first pixel behind all detectors
first_all : (ds : Detectors) → first_pixel_of ds.list (detector_count_of ds.count) ≡ all_pixels_of ds
unfolding detector_count_of all_pixels_of first_pixel_of
first_all ds = go (leb ds.count max_detectors)
  where
    go : (b : Bool) → first_pixel_of ds.list (cond b ds.count 0) ≡ cond b (first_pixel_of ds.list ds.count) 0
    go true = refl
    go false = refl

module _ (f : RayPathFilter) (m : Held) (few : length m.flux ≤ text_pixels) where
  abbrev list : List Detector2D
  list = m.detectors.list

  abbrev maps : ℕ
  maps = length (each_from (detector_map_text m f) (count_in m) 0)

  -- a detector's lines, by its pixels
  some_lines : (d : ℕ) → d < 8 → length (detector_map_text m f d) ≤ pixels_of (detector_at list d) * 29
  some_lines d p = go (held_part m f d)
    where
      go : PartOrNone m.detectors d (length m.flux) (length (shown_map m f d)) → length (detector_map_text m f d) ≤ pixels_of (detector_at list d) * 29
      go (inl z) = omega (arith, map_short m f d (omega arith) (omega arith))
      go (inr r) = omega (arith, map_short m f d (omega arith) (omega arith))

  no_lines : (d : ℕ) → d < 8 → (length m.flux ≡ all_pixels_of m.detectors → ⊥) → length (detector_map_text m f d) ≤ 0
  no_lines d p n = go (held_part m f d)
    where
      go : PartOrNone m.detectors d (length m.flux) (length (shown_map m f d)) → length (detector_map_text m f d) ≤ 0
      go (inl z) = omega (arith, map_short m f d (omega arith) (omega arith))
      go (inr r) = absurd (n r.all)

  lines_short : maps ≤ 118784
  unfolding first_pixel_of
  lines_short = go (eqb (length m.flux) (all_pixels_of m.detectors)) refl
    where
      go : (b : Bool) → eqb (length m.flux) (all_pixels_of m.detectors) ≡ b → maps ≤ 118784
      go true e =
          let a = eqb-true (length m.flux) (all_pixels_of m.detectors) e in
          let c = count_most m.detectors.count in
          let z : 0 + count_in m ≡ count_in m = omega arith in
          let h = each_most (detector_map_text m f) (λ i. first_pixel_of list i * 29) 8 (λ i p. omega (arith, some_lines i p, first_more list i)) (count_in m) 0 (omega arith) in
          omega (arith, rw z at h, first_all m.detectors)
      go false e =
          let a = eqb-false (length m.flux) (all_pixels_of m.detectors) e in
          let c = count_most m.detectors.count in
          let h = each_most (detector_map_text m f) (λ i. 0) 8 (λ i p. omega (arith, no_lines i p a)) (count_in m) 0 (omega arith) in
          omega arith

  maps_short : length (maps_text f m) ≤ 118804
  unfolding maps_text bytes
  maps_short = omega (arith, lines_short)

-- ---- all of it

pub answer_short : (r : NonSeqTraceReport) (f : RayPathFilter) (m : Held) → length m.flux ≤ text_pixels → length (answer_text r f m) ≤ 120016
unfolding answer_text
answer_short r f m few =
    let a = ledger_short r in
    let b = tallies_short r.tallies in
    let c = detectors_short f m in
    let d = maps_short f m few in
    rw (length-append (ledger_text r) (tallies_text r.tallies ++ (detectors_text f m ++ maps_text f m)), length-append (tallies_text r.tallies) (detectors_text f m ++ maps_text f m), length-append (detectors_text f m) (maps_text f m)) (omega arith)
