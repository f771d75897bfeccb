-- A scene as it was read, traced into an empty memory with room for 4,096 pixels and 1,024 hits, and its answer.
use Rattle.std.specs.Prelude.{ℕ, ◌+◌, ◌*◌, List, [], ◌∷◌, cond, leb, ltb, eqb, Float, length, get_or, take, replicate, Option, None, Some}
use Rattle.std.specs.Float.{nan}
use Rattle.rays.specs.Vectors.{vec3}
use Rattle.material.specs.Media.{numbered_medium_of, or_air_of}
use Rattle.detector.specs.declared.Detector2D.{Detector2D}
use Rattle.detectors.specs.declared.Detectors.{Detectors}
use Rattle.detectors.specs.Detectors.{all_pixels_of}
use Rattle.memory.specs.Memory.{Memory, lent_memory, Outcome, done, refused, text_pixels, text_hits, hit_doubles, hit_wholes}
use Rattle.filter.specs.declared.RayPathFilter.{RayPathFilter}
use Rattle.filter.specs.declared.RayPathFilter.TheVariants.{All}
use Rattle.filter.specs.Filters.{numbered_filter_of}
use Rattle.step.specs.declared.NonSeqTraceConfig.{NonSeqTraceConfig}
use Rattle.report.specs.declared.NonSeqTraceReport.{NonSeqTraceReport}
use Rattle.trace.specs.Trace.{Batch, lent_batch, Trace, trace_rays_of}
use Rattle.answer_text.specs.Answer.{held, answer_text, refusal_text, few_of}
use Rattle.scene.specs.Solids.{solid_doubles, solid_wholes, max_solids}
use Rattle.given_rays.specs.Given.{ray_doubles, ray_wholes, ray_room}
use Rattle.scene_text.specs.Cells.{no_filter}
use Rattle.doubles.specs.Doubles.{#0}
use Rattle.fields.specs.Split.{front_of}

-- doubles and whole numbers of the run and of a detector
abbrev pub run_doubles : ℕ
run_doubles = 7

abbrev pub run_wholes : ℕ
run_wholes = 3

abbrev pub detector_doubles : ℕ
detector_doubles = 11

abbrev pub detector_wholes : ℕ
detector_wholes = 2

-- room for one solid more than the most, so that 3 comes in its order
abbrev pub solid_room : ℕ
solid_room = max_solids + 1

-- The numbers of a scene text, block by block: the run's, those of the solids, detectors and rays, and how many lines
-- each of these blocks has
pub record Tables : Type 0 where
  pub run_values : List Float
  pub run_tags : List ℕ
  pub solid_values : List Float
  pub solid_tags : List ℕ
  pub solids : ℕ
  pub detector_values : List Float
  pub detector_tags : List ℕ
  pub detectors : ℕ
  pub ray_values : List Float
  pub ray_tags : List ℕ
  pub rays : ℕ

abbrev pub tables :
    List Float → List ℕ → List Float → List ℕ → ℕ → List Float → List ℕ → ℕ → List Float → List ℕ → ℕ → Tables
tables a b c d i e f j g h k =
    record {
      run_values = a;
      run_tags = b;
      solid_values = c;
      solid_tags = d;
      solids = i;
      detector_values = e;
      detector_tags = f;
      detectors = j;
      ray_values = g;
      ray_tags = h;
      rays = k;
    }

-- number i of a table; NaN and 0 past the end
unfoldable pub value_of : List Float → ℕ → Float
value_of l i = cond (ltb i (length l)) (get_or l i nan) nan

unfoldable pub whole_of : List ℕ → ℕ → ℕ
whole_of l i = cond (ltb i (length l)) (get_or l i 0) 0

-- ---- the run

-- an ambient medium that is none reads as air
unfoldable pub config_of : List Float → List ℕ → NonSeqTraceConfig
config_of v w =
    record {
      max_bounces = whole_of w 0;
      min_power_threshold = value_of v 0;
      ambient_medium = or_air_of
          (numbered_medium_of (whole_of w 2) (value_of v 1) (value_of v 2) (value_of v 3) (value_of v 4)
          (value_of v 5) (value_of v 6));
    }

-- a number that is no filter's, which no scene text has, means All
abbrev pub or_all : Option RayPathFilter → RayPathFilter
or_all (Some f) = f
or_all None = All

-- `-` means All
unfoldable pub meant_of : ℕ → RayPathFilter
meant_of n = cond (eqb n no_filter) All (or_all (numbered_filter_of n))

-- ---- the detectors, which have caught nothing

unfoldable pub detector_of : List Float → List ℕ → ℕ → Detector2D
detector_of v w i =
    let j = i * detector_doubles in
    record {
      center = vec3 (value_of v j) (value_of v (j + 1)) (value_of v (j + 2));
      normal = vec3 (value_of v (j + 3)) (value_of v (j + 4)) (value_of v (j + 5));
      up = vec3 (value_of v (j + 6)) (value_of v (j + 7)) (value_of v (j + 8));
      width_mm = value_of v (j + 9);
      height_mm = value_of v (j + 10);
      res_x = whole_of w (i * detector_wholes);
      res_y = whole_of w (i * detector_wholes + 1);
      total_flux_watts = #0;
      total_rays_hit = 0;
    }

unfoldable pub detectors_of : List Float → List ℕ → ℕ → Detectors
detectors_of v w n =
    let d = detector_of v w in
    record { list = d 0 ∷ d 1 ∷ d 2 ∷ d 3 ∷ d 4 ∷ d 5 ∷ d 6 ∷ d 7 ∷ []; count = n }

-- ---- the batch and the memory

-- as many as there is room for: one more than the limit, so that 3 comes in its order
unfoldable pub at_most_of : ℕ → ℕ → ℕ
at_most_of most n = cond (leb n most) n most

unfoldable pub batch_in : Tables → Batch
batch_in t =
    let n = at_most_of solid_room t.solids in
    let k = at_most_of ray_room t.rays in
    lent_batch (config_of t.run_values t.run_tags) (front_of (n * solid_doubles) t.solid_values)
    (front_of (n * solid_wholes) t.solid_tags) n (front_of (k * ray_doubles) t.ray_values)
    (front_of (k * ray_wholes) t.ray_tags) k

-- room for 1,024 hits
unfoldable pub memory_in : Detectors → Memory
memory_in ds =
    let p = few_of (all_pixels_of ds) in
    lent_memory ds (take p (replicate text_pixels #0)) (take p (replicate text_pixels 0))
    (replicate (text_hits * hit_doubles) #0) (replicate (text_hits * hit_wholes) 0) 0

-- ---- the answer

abbrev pub outcome_text : RayPathFilter → NonSeqTraceReport → Outcome Memory → List ℕ
outcome_text f r (done m) = answer_text r f (held m.detectors m.flux m.hit_values m.hit_tags m.used)
outcome_text f r (refused n place m) = refusal_text n place

unfoldable pub traced_text : RayPathFilter → Trace Memory → List ℕ
traced_text f t = outcome_text f t.report t.outcome

unfoldable pub map_text : Tables → List ℕ
map_text t =
    traced_text (meant_of (whole_of t.run_tags 1))
    (trace_rays_of (batch_in t) (memory_in (detectors_of t.detector_values t.detector_tags t.detectors)))
