-- Rays that were laid out flat are traced as they were given: the first 4,097 of them have the answer of all. Assumes nothing.
use Rattle.std.specs.Prelude.{Option, None, Some}
use mathlib.Core.Path.{◌≡◌, refl, sym, ap, ◌∙◌, subst}
use mathlib.Core.Bool.{Bool, true, false}
use mathlib.Core.List.{List, [], ◌∷◌}
use Prim.Native.Nat.{ℕ, ◌*◌, ◌≤◌, ◌<◌}
use native.Mathlib.Omega.{arith}
use lib.Dec.{leb}
use lib.Ieee.{Float}
use lib.ListN.{length, take, length-append, length-take}
use lib.Seq.{take_all, length-take-le}
use borrow.Author.Tests.{le-leb, eq-eqb, leb-true, leb-false}
use Rattle.error.specs.Refusals.{Checked, passed, refused_at, after}
use Rattle.material.specs.declared.OpticalMedium.{OpticalMedium}
use Rattle.scene.specs.Solids.{check_solids_of}
use Rattle.memory.specs.Memory.{Memory, record_of}
use Rattle.step.specs.declared.NonSeqTraceConfig.{NonSeqTraceConfig}
use Rattle.given_rays.specs.Given.{check_lists_of}
use Rattle.run.specs.Run.{Run}
use Rattle.trace.specs.Trace.{Batch, lent_batch, check_flat_of, check_config_of, check_batch, run_on, trace_after, trace_rays_of}
use Rattle.trace.proofs.Pieces.{too_many, over_limit}
use Rattle.host_tracing.specs.declared.answers.HostConfig.{HostConfig}
use Rattle.host_tracing.specs.declared.slices.GivenRay.{GivenRay}
use Rattle.host_tracing.specs.Tracing.{trace_config_of, Left, left_by, traced_in, host_trace_rays_of}
use Rattle.host_tracing.specs.Flat.{ray_values_row, ray_tags_row, flat_values, flat_tags, laid, flatten_of}
use Rattle.host_tracing.proofs.Laying.{zeros, nones, long_f, long_h, LaidOut, out}
use Rattle.fields.specs.Split.{front_of}

-- ---- the lists of the rays are as long as 17 asks

values_length : (ys : List GivenRay) → length (flat_values ys) ≡ length ys * 8
unfolding flat_values ray_values_row
values_length [] = refl
values_length (y ∷ ys) = length-append (ray_values_row y) (flat_values ys) ∙ omega (arith, values_length ys)

marks_length : (ys : List GivenRay) → length (flat_tags ys) ≡ length ys * 10
unfolding flat_tags ray_tags_row
marks_length [] = refl
marks_length (y ∷ ys) = length-append (ray_tags_row y) (flat_tags ys) ∙ omega (arith, marks_length ys)

lists_fit : (ys : List GivenRay) → check_lists_of (length (flat_values ys)) (length (flat_tags ys)) (length ys) ≡ passed tt
unfolding check_lists_of
lists_fit ys = simp (values_length ys, marks_length ys, eq-eqb (length ys * 8) _ refl, eq-eqb (length ys * 10) _ refl)

-- ---- more than 4,096 rays are refused, and nothing but their number is looked at

abbrev three : Checked Unit → Checked Unit → Checked Unit
three p q = after p (after q (refused_at 3 0))

no_run : (p q : Checked Unit) (s : Memory) (r r2 : Run Memory) → trace_after (three p q) s r ≡ trace_after (three p q) s r2
no_run (passed u) (passed w) s r r2 = refl
no_run (passed u) (refused_at n i) s r r2 = refl
no_run (refused_at n i) q s r r2 = refl

module _ (c : NonSeqTraceConfig) (x : List Float) (k : List ℕ) (n : ℕ) (s : Memory) where
  abbrev batch : List GivenRay → Batch
  batch ys = lent_batch c x k n (flat_values ys) (flat_tags ys) (length ys)

  many : (ys : List GivenRay) → 4096 < length ys → check_batch (batch ys) s ≡ three (check_solids_of x k n) (check_config_of c)
  unfolding check_flat_of
  many ys h =
      over_limit (batch ys) s (too_many n (length ys) s.detectors.count h)
      ∙ ap (λ l. after (after (check_solids_of x k n) l) (after (check_config_of c) (refused_at 3 0))) (lists_fit ys)
      ∙ go (check_solids_of x k n)
    where
      go : (p : Checked Unit) → after (after p (passed tt)) (after (check_config_of c) (refused_at 3 0)) ≡ three p (check_config_of c)
      go (passed u) = refl
      go (refused_at n i) = refl

  same_refusal : (ys zs : List GivenRay) → 4096 < length ys → 4096 < length zs → trace_rays_of (batch ys) s ≡ trace_rays_of (batch zs) s
  unfolding trace_rays_of
  same_refusal ys zs h i =
      let run : List GivenRay → Run Memory = λ l. run_on record_of s.detectors (batch l) s in
      ap (λ (q : Checked Unit). trace_after q s (run ys)) (many ys h)
      ∙ no_run (check_solids_of x k n) (check_config_of c) s (run ys) (run zs)
      ∙ sym (ap (λ (q : Checked Unit). trace_after q s (run zs)) (many zs i))

-- ---- the first 4,097

module _ (g : HostConfig) (x : List Float) (k : List ℕ) (c : ℕ) (s : Memory) where
  abbrev hosted : List GivenRay → Left
  hosted ys = host_trace_rays_of g x k c (flat_values ys) (flat_tags ys) (length ys) s

  same_in : (o : Option OpticalMedium) (ys zs : List GivenRay) → 4096 < length ys → 4096 < length zs
      → traced_in o (λ medium. trace_rays_of (batch (trace_config_of g medium) x k c s ys) s) s ≡ traced_in o (λ medium. trace_rays_of (batch (trace_config_of g medium) x k c s zs) s) s
  unfolding traced_in
  same_in (Some medium) ys zs h i = ap left_by (same_refusal (trace_config_of g medium) x k c s ys zs h i)
  same_in None ys zs h i = refl

  same_many : (ys zs : List GivenRay) → 4096 < length ys → 4096 < length zs → hosted ys ≡ hosted zs
  unfolding host_trace_rays_of
  same_many ys zs h i = same_in _ ys zs h i

  cut_by : (ys : List GivenRay) (b : Bool) → leb (length ys) 4097 ≡ b → hosted (take 4097 ys) ≡ hosted ys
  cut_by ys true e = ap hosted (take_all 4097 ys (leb-true _ _ e))
  cut_by ys false e =
      let h : 4097 < length ys = leb-false _ _ e in
      same_many (take 4097 ys) ys (omega (arith, length-take-le 4097 ys (omega (arith, h)))) (omega (arith, h))

  front_is : {A : Type 0} (j : ℕ) (l : List A) → j ≤ length l → front_of j l ≡ take j l
  unfolding front_of
  front_is j l h = rw (le-leb j (length l) h) refl

  few : (ys : List GivenRay) → length (take 4097 ys) ≤ 4097
  few ys = omega (arith, length-take 4097 ys)

  module _ (ys : List GivenRay) (n : ℕ) (v : List Float) (m : List ℕ) (e : laid n v m ≡ flatten_of ys (laid 0 zeros nones)) where
    there : LaidOut 0 zeros nones (take 4097 ys) (laid n v m)
    there = subst (LaidOut 0 zeros nones (take 4097 ys)) (sym e) (out 4097 ys 0 zeros nones refl long_f long_h)

    n-is : n ≡ length (take 4097 ys)
    n-is = omega (arith, there.count_is)

    values-is : front_of (n * 8) v ≡ flat_values (take 4097 ys)
    values-is = front_is (n * 8) v (omega (arith, n-is, few ys, there.values_long)) ∙ there.values_are

    marks-is : front_of (n * 10) m ≡ flat_tags (take 4097 ys)
    marks-is = front_is (n * 10) m (omega (arith, n-is, few ys, there.marks_long)) ∙ there.marks_are

    cut_is : host_trace_rays_of g x k c (front_of (n * 8) v) (front_of (n * 10) m) n s ≡ hosted ys
    cut_is =
        ap (λ (l : List Float). host_trace_rays_of g x k c l (front_of (n * 10) m) n s) values-is
        ∙ ap (λ (l : List ℕ). host_trace_rays_of g x k c (flat_values (take 4097 ys)) l n s) marks-is
        ∙ ap (λ (j : ℕ). host_trace_rays_of g x k c (flat_values (take 4097 ys)) (flat_tags (take 4097 ys)) j s) n-is
        ∙ cut_by ys (leb (length ys) 4097) refl

pub given_is : (g : HostConfig) (x : List Float) (k : List ℕ) (c : ℕ) (ys : List GivenRay) (s : Memory) (n : ℕ) (v : List Float) (m : List ℕ) (r : Left) → laid n v m ≡ flatten_of ys (laid 0 zeros nones)
    → r ≡ host_trace_rays_of g x k c (front_of (n * 8) v) (front_of (n * 10) m) n s → r ≡ host_trace_rays_of g x k c (flat_values ys) (flat_tags ys) (length ys) s
given_is g x k c ys s n v m r e said = said ∙ cut_is g x k c s ys n v m e
