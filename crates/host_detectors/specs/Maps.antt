-- The lent maps and the hit list.
use Rattle.std.specs.Prelude.{ℕ, List, Float, Option, None, Some}
use Rattle.error.specs.Refusals.{Checked, passed, refused_at}
use Rattle.detector.specs.Pixels.{pixels_of}
use Rattle.detectors.specs.declared.Detectors.{Detectors}
use Rattle.detectors.specs.declared.Placed.{Placed}
use Rattle.memory.specs.Memory.{Memory, Outcome, done, refused}
use Rattle.filter.specs.declared.RayPathFilter.{RayPathFilter}
use Rattle.filter.specs.Filters.{numbered_filter_of}
use Rattle.filter.specs.Handed.{Handed, handed, refilter_of}
use Rattle.host_detectors.specs.declared.maps.HostRecorded.{HostRecorded}
use Rattle.host_detectors.specs.declared.maps.HostFiltered.{HostFiltered}
use Rattle.host_detectors.specs.declared.maps.HostPart.{HostPart}
use Rattle.doubles.specs.Doubles.{#0}

-- ---- what a recording answers and leaves

pub record Recording : Type 0 where
  pub answer : HostRecorded
  pub flux : List Float
  pub hits : List ℕ
  pub hit_values : List Float
  pub hit_tags : List ℕ

abbrev pub recorded : HostRecorded → List Float → List ℕ → List Float → List ℕ → Recording
recorded r f h v t = record { answer = r; flux = f; hits = h; hit_values = v; hit_tags = t }

abbrev pub recorded_with : ℕ → ℕ → Memory → Recording
recorded_with n place m =
    recorded (record { refusal = n; place = place; used = m.used; detectors = m.detectors }) m.flux m.hits
    m.hit_values m.hit_tags

abbrev pub recorded_from : Outcome Memory → Recording
recorded_from (done m) = recorded_with 0 0 m
recorded_from (refused n place m) = recorded_with n place m

-- ---- what a filter answers, and the work map

pub record Sifted : Type 0 where
  pub answer : HostFiltered
  pub work : List Float

abbrev pub filtered : HostFiltered → List Float → Sifted
filtered r m = record { answer = r; work = m }

abbrev pub filtered_with : Checked Unit → List Float → Float → ℕ → Sifted
filtered_with (passed u) m t n = filtered (record { refusal = 0; place = 0; total_flux_watts = t; hit_count = n }) m
filtered_with (refused_at k place) m t n =
    filtered (record { refusal = k; place = place; total_flux_watts = t; hit_count = n }) m

abbrev pub filtered_from : Handed → Sifted
filtered_from h = filtered_with h.check h.map h.total h.count

-- a number that is no filter's is 17
unfoldable pub refilter_by :
    Option RayPathFilter → Detectors → ℕ → List Float → List Float → List Float → List ℕ → ℕ → Handed
refilter_by (Some f) ds asked stored work hit_values hit_tags used =
    refilter_of ds (record { 0 = asked }) f stored work hit_values hit_tags used
refilter_by None ds asked stored work hit_values hit_tags used = handed (refused_at 17 0) work #0 0

unfoldable pub host_refilter_of : Detectors → ℕ → ℕ → List Float → List Float → List Float → List ℕ → ℕ → Handed
host_refilter_of ds asked f stored work hit_values hit_tags used =
    refilter_by (numbered_filter_of f) ds asked stored work hit_values hit_tags used

-- ---- where a detector's pixels stand

abbrev pub part_from : Checked Placed → HostPart
part_from (passed p) = record { refusal = 0; place = 0; «first» = p.«first»; pixels = pixels_of p.detector }
part_from (refused_at n place) = record { refusal = n; place = place; «first» = 0; pixels = 0 }
