-- A tracing: the checks before the run in document 01's order, then steps until no ray is left.
use Rattle.std.specs.Prelude.{ℕ, cond, ◌&&◌, List, leb, Float, length, Err}
use Rattle.std.specs.Float.Ieee.{le}
use Rattle.doubles.specs.Doubles.{is_finite_of, #0}
use Rattle.error.specs.declared.Refusal.{Refusal}
use Rattle.error.specs.Refusals.{Checked, passed, refused_at, after}
use Rattle.scene.specs.declared.solids.Solids as solids
use Rattle.scene.specs.Solids.{check_solids_of, max_solids}
use Rattle.detectors.specs.declared.Detectors.{Detectors}
use Rattle.detectors.specs.Detectors.{check_count_of, check_each_of}
use Rattle.detector.specs.declared.DetectorHit.{DetectorHit}
use Rattle.memory.specs.Memory.{Memory, Outcome, refused, as_outcome, are_lengths_of, record_of}
use Rattle.faces.specs.Faces.{new_faces_of}
use Rattle.step.specs.declared.NonSeqTraceConfig.{NonSeqTraceConfig}
use Rattle.step.specs.declared.ActiveRay.{ActiveRay}
use Rattle.step.specs.Rays.{Scene, listed_scene}
use Rattle.report.specs.declared.NonSeqTraceReport.{NonSeqTraceReport}
use Rattle.report.specs.Report.{start_report_of}
use Rattle.given_rays.specs.declared.GivenRays as rays
use Rattle.given_rays.specs.Given.{given_at_of, check_lists_of, check_rays_of, launched_of, max_rays}
use Rattle.run.specs.declared.Progress.{Progress}
use Rattle.run.specs.declared.Advanced.{Advanced}
use Rattle.run.specs.Stack.{empty_stack_of}
use Rattle.run.specs.Run.{Run, drive}
use Rattle.trace.specs.declared.Traced.{Traced}

-- what a tracing is given, the memory aside: the rules, the solids, the rays
pub record Batch : Type 0 where
  pub config : NonSeqTraceConfig
  pub solid_values : List Float
  pub solid_tags : List ℕ
  pub solids : ℕ
  pub ray_values : List Float
  pub ray_tags : List ℕ
  pub rays : ℕ

abbrev pub lent_batch : NonSeqTraceConfig → List Float → List ℕ → ℕ → List Float → List ℕ → ℕ → Batch
lent_batch g x k n v t m =
    record { config = g; solid_values = x; solid_tags = k; solids = n; ray_values = v; ray_tags = t; rays = m }

-- of the code's lists
abbrev pub as_batch : NonSeqTraceConfig → solids.Solids → rays.GivenRays → Batch
as_batch g s r = lent_batch g s.values.now s.tags.now s.count r.values.now r.tags.now r.count

abbrev pub rays_in : Batch → ℕ → ActiveRay
rays_in B = given_at_of B.ray_values B.ray_tags

-- ---- the checks before the run

-- 17, solids before rays
unfoldable pub check_flat_of : Batch → Checked Unit
check_flat_of B =
    after (check_solids_of B.solid_values B.solid_tags B.solids)
    (check_lists_of (length B.ray_values) (length B.ray_tags) B.rays)

abbrev pub max_bounces : ℕ
max_bounces = 16

-- 1, then 2
unfoldable pub check_config_of : NonSeqTraceConfig → Checked Unit
check_config_of g =
    cond (is_finite_of g.min_power_threshold && le #0 g.min_power_threshold)
    (cond (leb g.max_bounces max_bounces) (passed tt) (refused_at 2 0))
    (refused_at 1 0)

-- 3 for solids, rays and detectors
unfoldable pub check_counts_of : ℕ → ℕ → ℕ → Checked Unit
check_counts_of solids rays detectors =
    cond (leb solids max_solids && leb rays max_rays) (check_count_of detectors) (refused_at 3 0)

-- 1, 2, 3
unfoldable pub check_rules_of : NonSeqTraceConfig → ℕ → ℕ → ℕ → Checked Unit
check_rules_of g solids rays detectors = after (check_config_of g) (check_counts_of solids rays detectors)

-- what comes before 9: 17, 1, 2, 3, then 5 to 8 and 18 of each detector
unfoldable pub check_scene_of : Batch → Detectors → Checked Unit
check_scene_of B ds =
    after (check_flat_of B) (after (check_rules_of B.config B.solids B.rays ds.count) (check_each_of ds))

-- 9; nf, nh, nv and nt are the lengths of the memory's slices
unfoldable pub check_lengths_of : Detectors → ℕ → ℕ → ℕ → ℕ → ℕ → Checked Unit
check_lengths_of ds nf nh nv nt used = cond (are_lengths_of ds nf nh nv nt used) (passed tt) (refused_at 9 0)

-- all, the rays in list order (10, 11) last; `nine` stands in the place of 9: passed where no memory is lent
unfoldable pub checks_with : Checked Unit → Batch → Detectors → Checked Unit
checks_with nine B ds =
    after (check_scene_of B ds) (after nine (check_rays_of (rays_in B) B.solids B.rays 0))

-- 17, 1, 2, 3, the detectors, 9, the rays
unfoldable pub check_trace_of : Batch → Detectors → ℕ → ℕ → ℕ → ℕ → ℕ → Checked Unit
check_trace_of B ds nf nh nv nt used = checks_with (check_lengths_of ds nf nh nv nt used) B ds

unfoldable pub check_batch : Batch → Memory → Checked Unit
check_batch B s =
    check_trace_of B s.detectors (length s.flux) (length s.hits) (length s.hit_values) (length s.hit_tags)
    s.used

-- ---- the run

-- more steps than any batch takes (the theorem `enough`)
abbrev pub all_steps : ℕ
all_steps = 4294967295

unfoldable pub start_of : (ℕ → ActiveRay) → ℕ → Progress
start_of given n = record { stack = empty_stack_of; left = n; report = start_report_of n (launched_of given n) }

abbrev pub scene_in : Batch → Detectors → Scene
scene_in B ds = listed_scene B.solid_values B.solid_tags B.solids (new_faces_of ds) B.config

-- into any memory; of the detectors it uses the faces
unfoldable pub run_on : {M : Type 0} → (M → DetectorHit → Outcome M) → Detectors → Batch → M → Run M
run_on put ds B m = drive put (scene_in B ds) (rays_in B) all_steps m (start_of (rays_in B) B.rays)

-- what a tracing answers and leaves
pub record Trace (M : Type 0) : Type 0 where
  pub outcome : Outcome M
  pub report : NonSeqTraceReport

abbrev pub traced : {M : Type 0} → Run M → Trace M
traced r = record { outcome = r.outcome; report = r.progress.report }

-- a refusal before the run changes nothing, and its report is all zeros
abbrev pub trace_after : {M : Type 0} → Checked Unit → M → Run M → Trace M
trace_after (passed u) m r = traced r
trace_after (refused_at n place) m r = record { outcome = refused n place m; report = start_report_of 0 #0 }

unfoldable pub trace_rays_of : Batch → Memory → Trace Memory
trace_rays_of B s = trace_after (check_batch B s) s (run_on record_of s.detectors B s)

-- what the code's answers say
abbrev pub answer_of : Advanced → Traced
answer_of r = record { check = r.check; report = r.progress.report }

abbrev pub refused_before_of : Refusal → Traced
refused_before_of r = record { check = Err r; report = start_report_of 0 #0 }

abbrev pub as_traced : Traced → Memory → Trace Memory
as_traced r m = record { outcome = as_outcome r.check m; report = r.report }
