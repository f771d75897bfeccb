-- The text of a tracing, by the code's answer. Assumes nothing.
use Prim.Native.Nat.{ℕ, ◌*◌}
use mathlib.Core.Path.{◌≡◌, ap, sym, ◌∙◌}
use mathlib.Core.List.{List}
use lib.Ieee.{Float}
use lib.ListN.{take, replicate}
use Rattle.std.specs.Prelude.{Ok, Err}
use Rattle.error.specs.declared.Refusal.{Refusal}
use Rattle.error.specs.Refusals.{number_of}
use Rattle.detectors.specs.declared.Detectors.{Detectors}
use Rattle.detectors.specs.Detectors.{all_pixels_of}
use Rattle.memory.specs.Memory.{Memory, lent_memory, as_outcome, text_pixels}
use Rattle.filter.specs.declared.RayPathFilter.{RayPathFilter}
use Rattle.step.specs.declared.NonSeqTraceConfig.{NonSeqTraceConfig}
use Rattle.trace.specs.declared.Traced.{Traced}
use Rattle.trace.specs.Trace.{lent_batch, Trace, trace_rays_of, as_traced}
use Rattle.printing.specs.Printing.{Out, put_all}
use Rattle.answer_text.specs.Answer.{held, answer_text, refusal_text, few_of}
use Rattle.map_text.specs.Tables.{Tables, whole_of, config_of, meant_of, detectors_of, at_most_of, batch_in, memory_in, outcome_text, traced_text, map_text}
use Rattle.doubles.specs.Doubles.{#0}
use Rattle.fields.specs.Split.{front_of}

module _ (g : RayPathFilter) (r : Traced) (m : Memory) (T : Trace Memory) (q : as_traced r m ≡ T) (b : List ℕ) (p : ℕ) (w : Out) where
  pub refused_text : (x : Refusal) (n : ℕ) → r.check ≡ Err x → n ≡ number_of x.error → w ≡ put_all b p (refusal_text n x.place) → w ≡ put_all b p (traced_text g T)
  unfolding traced_text
  refused_text x n k e z =
      z ∙ ap (λ i. put_all b p (refusal_text i x.place)) e
      ∙ ap (λ c. put_all b p (outcome_text g r.report (as_outcome c m))) (sym k)
      ∙ ap (λ (y : Trace Memory). put_all b p (outcome_text g y.report y.outcome)) q

  pub done_text : (u : Unit) → r.check ≡ Ok u → w ≡ put_all b p (answer_text r.report g (held m.detectors m.flux m.hit_values m.hit_tags m.used)) → w ≡ put_all b p (traced_text g T)
  unfolding traced_text
  done_text u k z =
      z ∙ ap (λ c. put_all b p (outcome_text g r.report (as_outcome c m))) (sym k)
      ∙ ap (λ (y : Trace Memory). put_all b p (outcome_text g y.report y.outcome)) q

-- ---- the tables, as the code hands them on

module _ (t : Tables) (ds : Detectors) (n k q all wh : ℕ) (g : NonSeqTraceConfig) (xs : List Float) (ks : List ℕ) (rs : List Float) (ms : List ℕ) (f : RayPathFilter) where
  pub map_is : ds ≡ detectors_of t.detector_values t.detector_tags t.detectors → n ≡ at_most_of 33 t.solids → k ≡ at_most_of 4097 t.rays → all ≡ all_pixels_of ds → q ≡ few_of all → g ≡ config_of t.run_values t.run_tags
      → xs ≡ front_of (n * 42) t.solid_values → ks ≡ front_of (n * 4) t.solid_tags → rs ≡ front_of (k * 8) t.ray_values → ms ≡ front_of (k * 10) t.ray_tags → wh ≡ whole_of t.run_tags 1 → f ≡ meant_of wh
      → (b : List ℕ) (p : ℕ) (w : Out)
      → w ≡ put_all b p (traced_text f (trace_rays_of (lent_batch g xs ks n rs ms k) (lent_memory ds (take q (replicate text_pixels #0)) (take q (replicate text_pixels 0)) (replicate 4096 #0) (replicate 4096 0) 0)))
      → w ≡ put_all b p (map_text t)
  unfolding map_text batch_in memory_in
  map_is e1 e2 e3 e4 e5 e6 e7 e8 e9 e10 e11 e12 b p w z = rw (e12, e11, e10, e9, e8, e7, e6, e5, e4, e3, e2, e1) at z
