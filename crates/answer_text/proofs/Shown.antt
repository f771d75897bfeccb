-- What a filter hands back, as the code has it. Assumes nothing.
use Prim.Native.Nat.{ℕ, ◌≤◌}
use mathlib.Core.Path.{◌≡◌, refl, ap, sym, ◌∙◌}
use mathlib.Core.List.{List, ◌++◌}
use native.Mathlib.Omega.{arith}
use lib.Ieee.{Float}
use lib.ListN.{length, take, drop, replicate, length-append, length-replicate}
use lib.Seq.{length-take-le, take-append_seam}
use borrow.Author.Tests.{eq-eqb, ne_eqb}
use Rattle.filter.specs.declared.RayPathFilter.{RayPathFilter}
use Rattle.std.specs.Prelude.{Result, Ok, Err}
use Rattle.std.specs.Result.{result_unwrap_or}
use Rattle.error.specs.declared.Refusal.{Refusal}
use Rattle.filter.specs.declared.sifting.Tally.{Tally}
use Rattle.filter.specs.Handed.{Handed, as_handed, refilter_of, filtered_pixel_flux_of}
use Rattle.printing.specs.Printing.{Out, out, put_all}
use Rattle.answer_text.specs.declared.maps.Grid.{Grid}
use Rattle.answer_text.specs.Answer.{Held, grid_at_of, shown_of, shown_map, pixels_text, detector_map_text}
use Rattle.memory.specs.Memory.{text_pixels}
use Rattle.doubles.specs.Doubles.{#0}

-- ---- a work map of n places that is lent, and lent again with what a call left in it; said tells what that is

module _ (n : ℕ) (r : Result Tally Refusal) (l : List Float) (o : Handed) (said : as_handed r l ≡ o) (few : n ≤ text_pixels) (h : length l ≡ length (take n (replicate text_pixels #0))) where
  -- the whole room afterwards
  abbrev left : List Float
  left = l ++ drop n (replicate text_pixels #0)

  same : length l ≡ n
  same = h ∙ length-take-le n (replicate text_pixels #0) (omega (arith, length-replicate text_pixels #0, few))

  pub again_fits : n ≤ length left
  again_fits = omega (arith, length-append l (drop n (replicate text_pixels #0)), same)

  pub again_is : take n left ≡ l
  again_is = ap (λ k. take k left) (sym same) ∙ take-append_seam l (drop n (replicate text_pixels #0))

  pub again_count : n ≡ length (take n left)
  again_count = sym (ap length again_is ∙ same)

-- ---- what the calls hand back

-- zeros where it is refused
abbrev unwrapped : Result Tally Refusal → Tally
unwrapped r = result_unwrap_or r (record { total = #0; count = 0 })

handed_total : (r : Result Tally Refusal) (l : List Float) → (unwrapped r).total ≡ (as_handed r l).total
handed_total (Ok t) l = refl
handed_total (Err e) l = refl

handed_map : (r : Result Tally Refusal) (l : List Float) → (as_handed r l).map ≡ l
handed_map (Ok t) l = refl
handed_map (Err e) l = refl

handed_count : (r : Result Tally Refusal) (l : List Float) → (unwrapped r).count ≡ (as_handed r l).count
handed_count (Ok t) l = refl
handed_count (Err e) l = refl

module _ (m : Held) (f : RayPathFilter) (d : ℕ) (g : Grid) (e : g ≡ grid_at_of m.detectors d) where
  -- the work map as it is lent
  abbrev work : List Float
  work = take g.pixels (replicate text_pixels #0)

  pub map_none : (b : List ℕ) (p : ℕ) → g.columns ≡ 0 → out b p ≡ put_all b p (detector_map_text m f d)
  unfolding detector_map_text put_all
  map_none b p z = rw (← e, eq-eqb g.columns 0 z)

  module _ (r : Result Tally Refusal) (l : List Float) (h : as_handed r l ≡ refilter_of m.detectors (record { 0 = d }) f m.flux work m.hit_values m.hit_tags m.used) where
    made-is : as_handed r l ≡ shown_of m f d
    unfolding shown_of
    made-is = h ∙ ap (λ (x : Grid). refilter_of m.detectors (record { 0 = d }) f m.flux (take x.pixels (replicate text_pixels #0)) m.hit_values m.hit_tags m.used) e

    pub total_shown : (unwrapped r).total ≡ (shown_of m f d).total
    total_shown = handed_total r l ∙ ap (λ (x : Handed). x.total) made-is

    pub count_shown : (unwrapped r).count ≡ (shown_of m f d).count
    count_shown = handed_count r l ∙ ap (λ (x : Handed). x.count) made-is

    pub map_some : (b : List ℕ) (p : ℕ) (w : Out) (again map : List Float) → (g.columns ≡ 0 → ⊥) → again ≡ l
        → map ≡ filtered_pixel_flux_of m.detectors (record { 0 = d }) f m.flux again m.hit_values m.hit_tags m.used
        → w ≡ put_all b p (pixels_text d g.columns 0 map) → w ≡ put_all b p (detector_map_text m f d)
    unfolding detector_map_text shown_map
    map_some b p w again map z i q v =
        let k : again ≡ (shown_of m f d).map = i ∙ sym (handed_map r l) ∙ ap (λ (x : Handed). x.map) made-is in
        rw (← e, ne_eqb g.columns 0 z, ← k, ← q) v
