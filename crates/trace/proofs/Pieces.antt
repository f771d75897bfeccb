-- The checks before a run, piece by piece. Assumes nothing.
use Prim.Native.Nat.{ℕ, ◌≤◌, ◌<◌}
use mathlib.Core.Path.{◌≡◌, refl, ap, ◌∙◌}
use mathlib.Core.Bool.{Bool, true, false, cond, ◌&&◌}
use lib.Dec.{leb}
use lib.ListN.{length}
use borrow.Author.Tests.{leb-true, le-leb, lt-leb}
use Rattle.doubles.proofs.Floats.{and_left, and_right}
use Rattle.error.specs.Refusals.{Checked, passed, refused_at, after}
use Rattle.scene.specs.Solids.{check_solids_of, max_solids}
use Rattle.detector.proofs.Grid.{never}
use Rattle.detectors.specs.declared.Detectors.{Detectors}
use Rattle.detectors.specs.Detectors.{max_detectors, all_pixels_of, check_count_of, check_each_of, check_detectors_of}
use Rattle.detectors.proofs.Passed.{both_passed, counted, count_passes, pieces, whole}
use Rattle.memory.specs.Memory.{Memory, are_lengths_of}
use Rattle.given_rays.specs.Given.{check_lists_of, check_rays_of, max_rays}
use Rattle.trace.specs.Trace.{Batch, rays_in, check_flat_of, check_config_of, check_counts_of, check_rules_of, check_scene_of, check_lengths_of, checks_with, check_trace_of, check_batch}

abbrev pub check_lengths_in : Memory → Checked Unit
check_lengths_in s = check_lengths_of s.detectors (length s.flux) (length s.hits) (length s.hit_values) (length s.hit_tags) s.used

-- ---- the numbers

module _ (solids rays detectors : ℕ) where
  pub counts_say : check_counts_of solids rays detectors ≡ passed tt → (solids ≤ max_solids) × (rays ≤ max_rays) × (detectors ≤ max_detectors)
  unfolding check_counts_of
  counts_say = go (leb solids max_solids && leb rays max_rays) refl
    where
      go : (b : Bool) → (leb solids max_solids && leb rays max_rays) ≡ b → cond b (check_count_of detectors) (refused_at 3 0) ≡ passed tt → (solids ≤ max_solids) × (rays ≤ max_rays) × (detectors ≤ max_detectors)
      go true t e = (leb-true solids max_solids (and_left (leb solids max_solids) (leb rays max_rays) t), leb-true rays max_rays (and_right (leb solids max_solids) (leb rays max_rays) t), counted detectors e)
      go false t e = never 3 0 tt e

  pub counts_pass : solids ≤ max_solids → rays ≤ max_rays → detectors ≤ max_detectors → check_counts_of solids rays detectors ≡ passed tt
  unfolding check_counts_of
  counts_pass a b c = rw (le-leb solids max_solids a, le-leb rays max_rays b, count_passes detectors c)

  pub too_many : max_rays < rays → check_counts_of solids rays detectors ≡ refused_at 3 0
  unfolding check_counts_of
  too_many k = rw (lt-leb rays max_rays k) (go (leb solids max_solids))
    where
      go : (b : Bool) → cond (b && false) (check_count_of detectors) (refused_at 3 0) ≡ refused_at 3 0
      go true = refl
      go false = refl

-- ---- a batch passes on a memory precisely if each piece does

pub record Passes (B : Batch) (s : Memory) : Type 0 where
  pub solids : check_solids_of B.solid_values B.solid_tags B.solids ≡ passed tt
  pub lists : check_lists_of (length B.ray_values) (length B.ray_tags) B.rays ≡ passed tt
  pub config : check_config_of B.config ≡ passed tt
  pub few_solids : B.solids ≤ max_solids
  pub few_rays : B.rays ≤ max_rays
  pub detectors : check_detectors_of s.detectors ≡ passed tt
  pub lengths : check_lengths_in s ≡ passed tt
  pub rays : check_rays_of (rays_in B) B.solids B.rays 0 ≡ passed tt

pub passes : (B : Batch) (s : Memory) → check_batch B s ≡ passed tt → Passes B s
unfolding check_batch check_trace_of checks_with check_scene_of check_flat_of check_rules_of
passes B s e =
    let e1 = both_passed tt (check_scene_of B s.detectors) (after (check_lengths_in s) (check_rays_of (rays_in B) B.solids B.rays 0)) e in
    let e2 = both_passed tt (check_lengths_in s) (check_rays_of (rays_in B) B.solids B.rays 0) e1.1 in
    let e3 = both_passed tt (check_flat_of B) (after (check_rules_of B.config B.solids B.rays s.detectors.count) (check_each_of s.detectors)) e1.0 in
    let e4 = both_passed tt (check_solids_of B.solid_values B.solid_tags B.solids) (check_lists_of (length B.ray_values) (length B.ray_tags) B.rays) e3.0 in
    let e5 = both_passed tt (check_rules_of B.config B.solids B.rays s.detectors.count) (check_each_of s.detectors) e3.1 in
    let e6 = both_passed tt (check_config_of B.config) (check_counts_of B.solids B.rays s.detectors.count) e5.0 in
    let few = counts_say B.solids B.rays s.detectors.count e6.1 in
    record {
      solids = e4.0;
      lists = e4.1;
      config = e6.0;
      few_solids = few.0;
      few_rays = few.1;
      detectors = whole s.detectors few.2 e5.1;
      lengths = e2.0;
      rays = e2.1;
    }

pub all_pass : (B : Batch) (s : Memory) → Passes B s → check_batch B s ≡ passed tt
unfolding check_batch check_trace_of checks_with check_scene_of check_flat_of check_rules_of
all_pass B s p =
    let d = pieces s.detectors p.detectors in
    let c = counts_pass B.solids B.rays s.detectors.count p.few_solids p.few_rays d.0 in
    rw (p.solids, p.lists, p.config, c, d.1, p.lengths, p.rays)

-- what comes behind a number over its limit is not looked at
pub over_limit : (B : Batch) (s : Memory) → check_counts_of B.solids B.rays s.detectors.count ≡ refused_at 3 0
    → check_batch B s ≡ after (check_flat_of B) (after (check_config_of B.config) (refused_at 3 0))
unfolding check_batch check_trace_of checks_with check_scene_of check_rules_of
over_limit B s e = rw e (go (check_flat_of B) (check_config_of B.config) (check_each_of s.detectors) (after (check_lengths_in s) (check_rays_of (rays_in B) B.solids B.rays 0)))
  where
    go : (p q each rest : Checked Unit) → after (after p (after (after q (refused_at 3 0)) each)) rest ≡ after p (after q (refused_at 3 0))
    go (passed u) (passed w) each rest = refl
    go (passed u) (refused_at n i) each rest = refl
    go (refused_at n i) q each rest = refl

-- what holds of each piece, and of one after another, holds of all
pub of_all : (P : Checked Unit → Type 0) → ((a b : Checked Unit) → P a → P b → P (after a b)) → (B : Batch) (s : Memory)
    → P (check_flat_of B) → P (check_config_of B.config) → P (check_counts_of B.solids B.rays s.detectors.count) → P (check_each_of s.detectors)
    → P (check_lengths_in s) → P (check_rays_of (rays_in B) B.solids B.rays 0) → P (check_batch B s)
unfolding check_batch check_trace_of checks_with check_scene_of check_rules_of
of_all P next B s flat config counts each lengths rays =
    next _ _ (next _ _ flat (next _ _ (next _ _ config counts) each)) (next _ _ lengths rays)

-- ---- what the checks read of the detectors

-- by pixels and lengths alone
pub same_lengths : (ds es : Detectors) (nf nh nv nt u : ℕ) → all_pixels_of es ≡ all_pixels_of ds → check_lengths_of es nf nh nv nt u ≡ check_lengths_of ds nf nh nv nt u
unfolding check_lengths_of are_lengths_of
same_lengths ds es nf nh nv nt u e = rw e

pub same_checks : (B : Batch) (ds es : Detectors) (nf nh nv nt u : ℕ) → es.count ≡ ds.count → check_each_of es ≡ check_each_of ds → all_pixels_of es ≡ all_pixels_of ds
    → check_trace_of B es nf nh nv nt u ≡ check_trace_of B ds nf nh nv nt u
unfolding check_trace_of checks_with check_scene_of
same_checks B ds es nf nh nv nt u count each pixels =
    let last = check_rays_of (rays_in B) B.solids B.rays 0 in
    let first : ℕ → Checked Unit → Checked Unit = λ n c. after (check_flat_of B) (after (check_rules_of B.config B.solids B.rays n) c) in
    ap (λ n. after (first n (check_each_of es)) (after (check_lengths_of es nf nh nv nt u) last)) count
    ∙ ap (λ c. after (first ds.count c) (after (check_lengths_of es nf nh nv nt u) last)) each
    ∙ ap (λ c. after (first ds.count (check_each_of ds)) (after c last)) (same_lengths ds es nf nh nv nt u pixels)
