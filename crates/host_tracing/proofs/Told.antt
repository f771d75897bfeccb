-- The code's answers and slices are what the definitions say. Assumes nothing.
use Rattle.std.specs.Prelude.{Option, Some, None, Result, Ok, Err}
use Prim.Native.Nat.{ℕ}
use Rattle.error.specs.declared.Refusal.{Refusal}
use mathlib.Core.Path.{◌≡◌, refl, ap, ◌∙◌}
use mathlib.Core.List.{List}
use lib.Ieee.{Float}
use Rattle.material.specs.declared.OpticalMedium.{OpticalMedium}
use Rattle.material.specs.Media.{numbered_medium_of}
use Rattle.memory.specs.Memory.{Memory, as_outcome}
use Rattle.report.specs.declared.NonSeqTraceReport.{NonSeqTraceReport}
use Rattle.step.specs.declared.NonSeqTraceConfig.{NonSeqTraceConfig}
use Rattle.trace.specs.declared.Traced.{Traced}
use Rattle.trace.specs.Trace.{as_traced, lent_batch, trace_rays_of}
use Rattle.host_tracing.specs.declared.answers.HostConfig.{HostConfig}
use Rattle.host_tracing.specs.declared.answers.HostTraced.{HostTraced}
use Rattle.host_tracing.specs.Tracing.{trace_config_of, left, left_by, traced_in, host_trace_rays_of, told_of, no_medium_of}

left_by_lem : (c : Result Unit Refusal) (m : Memory) (p : NonSeqTraceReport) → left (told_of (record { check = c; report = p }) m.detectors m.used) m.flux m.hits m.hit_values m.hit_tags ≡ left_by (record { outcome = as_outcome c m; report = p })
unfolding told_of left_by
left_by_lem (Ok u) m p = refl
left_by_lem (Err r) m p = refl

module _ (g : HostConfig) (x : List Float) (k : List ℕ) (n : ℕ) (v : List Float) (t : List ℕ) (m : ℕ) where
  pub traced_is : (o : Option OpticalMedium) (medium : OpticalMedium) (c : NonSeqTraceConfig) (r : Traced) (h : HostTraced) (a s : Memory)
      → o ≡ numbered_medium_of g.ambient g.a g.b g.c g.d g.e g.f → o ≡ Some medium → c ≡ trace_config_of g medium
      → as_traced r a ≡ trace_rays_of (lent_batch c x k n v t m) s → h ≡ told_of r a.detectors a.used → left h a.flux a.hits a.hit_values a.hit_tags ≡ host_trace_rays_of g x k n v t m s
  unfolding host_trace_rays_of traced_in
  traced_is o medium c r h a s number is config said e = rw (← number, is) (ap (λ (y : HostTraced). left y a.flux a.hits a.hit_values a.hit_tags) e ∙ left_by_lem r.check a r.report ∙ ap left_by said ∙ ap (λ (y : NonSeqTraceConfig). left_by (trace_rays_of (lent_batch y x k n v t m) s)) config)

  pub no_medium_is : (o : Option OpticalMedium) (h : HostTraced) (s : Memory) → o ≡ numbered_medium_of g.ambient g.a g.b g.c g.d g.e g.f → o ≡ None → h ≡ no_medium_of s.detectors s.used → left h s.flux s.hits s.hit_values s.hit_tags ≡ host_trace_rays_of g x k n v t m s
  unfolding host_trace_rays_of traced_in left_by no_medium_of
  no_medium_is o h s number is e = rw (← number, is) (ap (λ (y : HostTraced). left y s.flux s.hits s.hit_values s.hit_tags) e)
