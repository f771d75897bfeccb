-- A tracing as a host asks for it: what it answers, and what it leaves in the four lent slices.
use Rattle.std.specs.Prelude.{ℕ, List, Float, Option, None, Some}
use Rattle.error.specs.Refusals.{as_checked}
use Rattle.material.specs.declared.OpticalMedium.{OpticalMedium}
use Rattle.material.specs.Media.{numbered_medium_of}
use Rattle.detectors.specs.declared.Detectors.{Detectors}
use Rattle.memory.specs.Memory.{Memory, Outcome, done, refused, memory_left}
use Rattle.step.specs.declared.NonSeqTraceConfig.{NonSeqTraceConfig}
use Rattle.report.specs.Report.{start_report_of}
use Rattle.trace.specs.declared.Traced.{Traced}
use Rattle.trace.specs.Trace.{lent_batch, Trace, trace_rays_of}
use Rattle.host_numbers.specs.Numbers.{checked_of}
use Rattle.host_tracing.specs.declared.answers.HostConfig.{HostConfig}
use Rattle.host_tracing.specs.declared.answers.HostTraced.{HostTraced}
use Rattle.doubles.specs.Doubles.{#0}

-- the rules that a host's numbers mean, in an ambient medium
unfoldable pub trace_config_of : HostConfig → OpticalMedium → NonSeqTraceConfig
trace_config_of g medium =
    record {
      max_bounces = g.max_bounces;
      min_power_threshold = g.min_power_threshold;
      ambient_medium = medium;
    }

-- the refusal's number and place, 0 and 0 for none
abbrev pub refusal_number : Outcome Memory → ℕ
refusal_number (done m) = 0
refusal_number (refused n place m) = n

abbrev pub refusal_place : Outcome Memory → ℕ
refusal_place (done m) = 0
refusal_place (refused n place m) = place

-- the answer, and the four slices
pub record Left : Type 0 where
  pub answer : HostTraced
  pub flux : List Float
  pub hits : List ℕ
  pub hit_values : List Float
  pub hit_tags : List ℕ

abbrev pub left : HostTraced → List Float → List ℕ → List Float → List ℕ → Left
left r f h v t = record { answer = r; flux = f; hits = h; hit_values = v; hit_tags = t }

unfoldable pub left_by : Trace Memory → Left
left_by t =
    let m = memory_left t.outcome in
    left (record {
      refusal = refusal_number t.outcome;
      place = refusal_place
          t.outcome;
      used = m.used;
      report = t.report;
      detectors = m.detectors;
    }) m.flux m.hits m.hit_values
    m.hit_tags

-- a tracing in the ambient medium; 17 where that is none
unfoldable pub traced_in : Option OpticalMedium → (OpticalMedium → Trace Memory) → Memory → Left
traced_in (Some medium) traced s = left_by (traced medium)
traced_in None traced s = left_by (record { outcome = refused 17 0 s; report = start_report_of 0 #0 })

-- the ambient medium's number first of all
unfoldable pub host_trace_rays_of : HostConfig → List Float → List ℕ → ℕ → List Float → List ℕ → ℕ → Memory → Left
host_trace_rays_of g x k n v t m s =
    traced_in (numbered_medium_of g.ambient g.a g.b g.c g.d g.e g.f)
    (λ medium. trace_rays_of (lent_batch (trace_config_of g medium) x k n v t m) s) s

-- of the code's answers
unfoldable pub told_of : Traced → Detectors → ℕ → HostTraced
told_of r ds used =
    let c = checked_of (as_checked r.check) in
    record { refusal = c.refusal; place = c.place; used = used; report = r.report; detectors = ds }

unfoldable pub no_medium_of : Detectors → ℕ → HostTraced
no_medium_of ds used = record { refusal = 17; place = 0; used = used; report = start_report_of 0 #0; detectors = ds }
