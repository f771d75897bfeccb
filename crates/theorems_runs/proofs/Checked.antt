-- A batch that passed the checks is as the theorems ask, so they hold of every tracing. Assumes nothing.
use Prim.Native.Nat.{ℕ, zero, suc, ◌≤◌, ◌<◌, ◌+◌, ◌*◌}
use mathlib.Core.Path.{◌≡◌, refl, ap, ◌∙◌}
use mathlib.Core.Bool.{Bool, true, false, ◌&&◌}
use mathlib.Core.List.{List}
use native.Mathlib.Omega.{arith}
use native.Mathlib.Nat.{add-zero, zero-add}
use lib.Dec.{leb}
use borrow.Author.Tests.{leb-true}
use lib.Ieee.{Float, le}
use Rattle.doubles.specs.Doubles.{is_finite_of, #0}
use Rattle.error.specs.Refusals.{Checked, passed, refused_at}
use Rattle.rays.specs.declared.Ray.{Ray}
use Rattle.rays.specs.Vectors.{is_finite_vec_of}
use Rattle.rays.specs.Rays.{is_finite_ray_of, is_valid_ray_of}
use Rattle.media.specs.declared.Media.{Media}
use Rattle.memory.specs.Memory.{Memory, Outcome, done, refused, record_of}
use Rattle.step.specs.declared.ActiveRay.{ActiveRay}
use Rattle.step.specs.declared.NonSeqTraceConfig.{NonSeqTraceConfig}
use Rattle.report.specs.declared.tallies.Tallies.{Tallies}
use Rattle.report.specs.Report.{start_report_of}
use Rattle.given_rays.specs.Given.{valid_media_of, check_ray_of, check_rays_of}
use Rattle.run.specs.Run.{is_left, drive}
use Rattle.trace.specs.Trace.{Batch, rays_in, check_config_of, check_batch, all_steps, start_of, scene_in, run_on, trace_after, trace_rays_of}
use Rattle.trace.proofs.Pieces.{passes as pieces_of}
use Rattle.theorems_runs.specs.Sums.{most_interactions}
use Rattle.theorems_runs.specs.Room.{EachGiven, Admitted, next_ray}
use Rattle.theorems_runs.specs.Dropped.{rays_taken, all_dropped, added_to, all_weak}
use Rattle.theorems_runs.proofs.Bred.{pick, false_true}
use Rattle.theorems_runs.proofs.Tracings.{enough, bound}
use Rattle.theorems_runs.proofs.Balance.{balance, balance_met}
use Rattle.theorems_runs.proofs.Held.{every-ray}
use Rattle.theorems_runs.proofs.Waves.{admitted_kept}
use Rattle.theorems_runs.proofs.Counts.{start_kept}
use Rattle.theorems_runs.proofs.Lost.{run_lost}
use Rattle.theorems_runs.proofs.Weak.{run-weak}
use Rattle.doubles.proofs.Floats.{and_left, and_right}
use Rattle.detectors.proofs.Passed.{both_passed}

abbrev is_passed : {A : Type 0} → Checked A → Bool
is_passed (passed a) = true
is_passed (refused_at n place) = false

not_passed : {A : Type 0} {C : Type 0} (n place : ℕ) (a : A) → refused_at n place ≡ passed a → C
not_passed n place a e = false_true (ap is_passed e)

config_lim : (g : NonSeqTraceConfig) → check_config_of g ≡ passed tt → g.max_bounces ≤ 16
unfolding check_config_of
config_lim g =
    pick (λ (c : Checked Unit). (c ≡ passed tt → g.max_bounces ≤ 16)) (is_finite_of g.min_power_threshold && le #0 g.min_power_threshold)
    (λ q. pick (λ (c : Checked Unit). (c ≡ passed tt → g.max_bounces ≤ 16)) (leb g.max_bounces 16) (λ z e. leb-true g.max_bounces 16 z) (λ z e. not_passed 2 0 tt e))
    (λ q e. not_passed 1 0 tt e)

media_deep : (m : Media) (solids : ℕ) → valid_media_of m solids ≡ true → m.depth ≤ 8
unfolding valid_media_of
media_deep m solids =
    pick (λ (t : Bool). (t ≡ true → m.depth ≤ 8)) (leb m.depth 8) (λ q e. leb-true m.depth 8 q) (λ q e. false_true e)

-- a ray that passed: its parts are finite, and it is in at most 8 media
ray_passed : (a : ActiveRay) (solids place : ℕ) → check_ray_of a solids place ≡ passed tt → (is_valid_ray_of a.ray ≡ true) × (a.media.depth ≤ 8)
unfolding check_ray_of
ray_passed a solids place =
    let Q : Checked Unit → Type 0 = λ c. (c ≡ passed tt → (is_valid_ray_of a.ray ≡ true) × (a.media.depth ≤ 8)) in
    pick Q (is_valid_ray_of a.ray)
    (λ q. pick Q (valid_media_of a.media solids) (λ z e. (q, media_deep a.media solids z)) (λ z e. not_passed 11 place tt e))
    (λ q e. not_passed 10 place tt e)

rays_passed : (given : ℕ → ActiveRay) (solids n i j : ℕ) → check_rays_of given solids n i ≡ passed tt → j < n → (is_valid_ray_of (given (i + j)).ray ≡ true) × ((given (i + j)).media.depth ≤ 8)
unfolding check_rays_of
rays_passed given solids zero i j e k = absurd (omega arith)
rays_passed given solids (suc n) i zero e k =
    rw add-zero (ray_passed (given i) solids i (both_passed tt (check_ray_of (given i) solids i) (check_rays_of given solids n (i + 1)) e).0)
rays_passed given solids (suc n) i (suc j) e k =
    let q : i + suc j ≡ i + 1 + j = omega arith in
    rw q (rays_passed given solids n (i + 1) j (both_passed tt (check_ray_of (given i) solids i) (check_rays_of given solids n (i + 1)) e).1 (omega arith))

finite_wave : (r : Ray) → is_finite_ray_of r ≡ true → is_finite_of r.wavelength_nm ≡ true
unfolding is_finite_ray_of
finite_wave r e =
    let ends = is_finite_vec_of r.origin && is_finite_vec_of r.direction in
    and_right ends (is_finite_of r.wavelength_nm) (and_left (ends && is_finite_of r.wavelength_nm) (is_finite_of r.energy) e)

valid_wave : (r : Ray) → is_valid_ray_of r ≡ true → is_finite_of r.wavelength_nm ≡ true
unfolding is_valid_ray_of
valid_wave r e = finite_wave r (and_left (is_finite_ray_of r) _ (and_left (is_finite_ray_of r && le #0 r.energy) _ e))

pub rays_admitted : (given : ℕ → ActiveRay) (solids n : ℕ) → check_rays_of given solids n 0 ≡ passed tt → EachGiven Admitted given n
rays_admitted given solids n e = λ i q. record { wave = valid_wave (given i).ray (rw zero-add at (rays_passed given solids n 0 i e q).0) }

-- what the theorems ask of a batch
pub record Fit (B : Batch) : Type 0 where
  pub limit : B.config.max_bounces ≤ 16
  pub few : B.rays ≤ 4096
  pub deep : (i : ℕ) → i < B.rays → (rays_in B i).media.depth ≤ 8
  pub admits : EachGiven Admitted (rays_in B) B.rays

pub fit : (B : Batch) (s : Memory) → check_batch B s ≡ passed tt → Fit B
fit B s e =
    let p = pieces_of B s e in
    record {
      limit = config_lim B.config p.config;
      few = p.few_rays;
      deep = λ i q. rw zero-add at (rays_passed (rays_in B) B.solids B.rays 0 i p.rays q).1;
      admits = rays_admitted (rays_in B) B.solids B.rays p.rays;
    }

-- ---- every tracing

abbrev is_done : {M : Type 0} → Outcome M → Bool
is_done (done m) = true
is_done (refused n place m) = false

-- a tracing that is not refused passed the checks, and is its run
pub record Ran (B : Batch) (s z : Memory) : Type 0 where
  pub passes : check_batch B s ≡ passed tt
  pub run : (run_on record_of s.detectors B s).outcome ≡ done z
  pub reports : (trace_rays_of B s).report ≡ (run_on record_of s.detectors B s).progress.report

module _ (B : Batch) (s : Memory) where
  after_passed : check_batch B s ≡ passed tt → (trace_rays_of B s).report ≡ (run_on record_of s.detectors B s).progress.report
  unfolding trace_rays_of
  after_passed q = rw q

  after_refused : (n place : ℕ) → check_batch B s ≡ refused_at n place → (trace_rays_of B s).report.total_interactions ≡ 0
  unfolding trace_rays_of start_report_of
  after_refused n place q = rw q

  ran_by : (z : Memory) (c : Checked Unit) → check_batch B s ≡ c → (trace_after c s (run_on record_of s.detectors B s)).outcome ≡ done z → Ran B s z
  ran_by z (passed tt) q e = record { passes = q; run = e; reports = after_passed q }
  ran_by z (refused_at n place) q e = false_true (ap is_done e)

  pub ran : (z : Memory) → (trace_rays_of B s).outcome ≡ done z → Ran B s z
  unfolding trace_rays_of
  ran z e = ran_by z (check_batch B s) refl e

  -- every ray that a tracing takes, after any k steps
  pub trace_admitted : check_batch B s ≡ passed tt → (k : ℕ) → is_left (drive record_of (scene_in B s.detectors) (rays_in B) k s (start_of (rays_in B) B.rays)).progress ≡ true
      → Admitted (next_ray (rays_in B) (drive record_of (scene_in B s.detectors) (rays_in B) k s (start_of (rays_in B) B.rays)).progress)
  trace_admitted e k = every-ray Admitted (rays_in B) record_of (scene_in B s.detectors) (admitted_kept (scene_in B s.detectors)) B.rays (fit B s e).admits k s

  -- no ray is left where a tracing is done
  pub trace_enough : (z : Memory) → (trace_rays_of B s).outcome ≡ done z → is_left (run_on record_of s.detectors B s).progress ≡ false
  trace_enough z e = let f : Fit B = fit B s (ran z e).passes in enough record_of s.detectors B s f.limit z f.few (ran z e).run

  -- refused or not, rays without bounces lead to at most 2 ^ limit - 1 interactions each
  bound_by : (c : Checked Unit) → check_batch B s ≡ c → ((i : ℕ) → i < B.rays → (rays_in B i).bounce_count ≡ 0) → (trace_rays_of B s).report.total_interactions ≤ B.rays * most_interactions B.config.max_bounces
  bound_by (passed tt) q h = rw (after_passed q) (bound record_of s.detectors B s (fit B s q).limit h)
  bound_by (refused_at n place) q h = omega (arith, after_refused n place q)

  pub trace_bound : ((i : ℕ) → i < B.rays → (rays_in B i).bounce_count ≡ 0) → (trace_rays_of B s).report.total_interactions ≤ B.rays * most_interactions B.config.max_bounces
  trace_bound h = bound_by (check_batch B s) refl h

  -- every ray of a tracing that is done ended in one tally, and its interactions are the tallies that are interactions
  abbrev tallies : Tallies
  tallies = (trace_rays_of B s).report.tallies

  pub trace_balance : (z : Memory) → (trace_rays_of B s).outcome ≡ done z → B.rays + tallies.made ≡ tallies.dim + tallies.spent + tallies.caught + tallies.gone + tallies.surface
  trace_balance z e = let f : Fit B = fit B s (ran z e).passes in rw ((ran z e).reports, tallies) (balance record_of s.detectors B s z f.limit f.few (ran z e).run)

  -- the rays that it takes, in step order, if it passed the checks
  abbrev pub taken : List ActiveRay
  taken = rays_taken record_of (scene_in B s.detectors) (rays_in B) all_steps s (start_of (rays_in B) B.rays)

  start_lost : (start_of (rays_in B) B.rays).report.ledger.lost_flux_watts ≡ #0
  unfolding start_of start_report_of
  start_lost = refl

  start_weak : (start_of (rays_in B) B.rays).report.tallies.weak ≡ 0
  unfolding start_of start_report_of
  start_weak = refl

  -- of a tracing that passed the checks, refused in the run or not, lost is the sum in step order of what mirrors dropped
  pub trace_lost : check_batch B s ≡ passed tt → (trace_rays_of B s).report.ledger.lost_flux_watts ≡ added_to #0 (all_dropped (scene_in B s.detectors) taken)
  unfolding run_on
  trace_lost q =
      rw (after_passed q)
      (run_lost record_of (scene_in B s.detectors) (rays_in B) all_steps s (start_of (rays_in B) B.rays)
      ∙ ap (λ (x : Float). added_to x (all_dropped (scene_in B s.detectors) taken)) start_lost)

  -- and weak counts the rays that the threshold left unmade
  pub trace_weak : check_batch B s ≡ passed tt → tallies.weak ≡ all_weak (scene_in B s.detectors) taken
  unfolding run_on
  trace_weak q =
      let f : Fit B = fit B s q in
      rw (after_passed q, tallies)
      (omega (
        arith,
        run-weak record_of (scene_in B s.detectors) (rays_in B) 1073733632 (omega arith) f.limit all_steps s (start_of (rays_in B) B.rays) (start_kept (rays_in B) B.config.max_bounces B.rays f.limit f.few),
        start_weak,
      ))

  pub trace_met : (z : Memory) → (trace_rays_of B s).outcome ≡ done z → (trace_rays_of B s).report.total_interactions ≡ tallies.caught + tallies.gone + tallies.surface
  trace_met z e = let f : Fit B = fit B s (ran z e).passes in rw ((ran z e).reports, tallies) (balance_met record_of s.detectors B s z f.limit f.few (ran z e).run)
