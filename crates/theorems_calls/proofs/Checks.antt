-- What the checks before a run say of a batch and a memory, and that parts of a batch that passed pass. Assumes nothing.
use Prim.Native.Nat.{ℕ, zero, suc, ◌+◌, ◌*◌, ◌/◌, ◌≤◌, ◌<◌}
use mathlib.Core.Path.{◌≡◌, refl, ap, ◌∙◌}
use mathlib.Core.Bool.{Bool, true, false, cond, ◌&&◌}
use native.Mathlib.Omega.{arith}
use native.Mathlib.Nat.{add-zero, zero-add}
use lib.Dec.{eqb}
use lib.ListN.{length}
use borrow.Author.Tests.{eq-eqb, eqb-true}
use Rattle.error.specs.Refusals.{Checked, passed, refused_at}
use Rattle.rays.specs.Rays.{is_valid_ray_of}
use Rattle.detectors.specs.declared.Detectors.{Detectors}
use Rattle.detectors.specs.Detectors.{check_detectors_of}
use Rattle.memory.specs.Memory.{Memory, hit_doubles, capacity}
use Rattle.memory.proofs.Lengths.{long, long_enough}
use Rattle.step.specs.declared.ActiveRay.{ActiveRay}
use Rattle.given_rays.specs.Given.{valid_media_of, check_lists_of, check_ray_of, check_rays_of}
use Rattle.trace.specs.Trace.{Batch, rays_in, check_lengths_of, start_of}
use Rattle.trace.proofs.Pieces.{check_lengths_in, same_lengths}
pub use Rattle.trace.proofs.Pieces.{Passes, passes, all_pass}
use Rattle.theorems_runs.specs.Room.{Held, Admitted}
use Rattle.theorems_runs.proofs.Bred.{false_true}
use Rattle.theorems_runs.proofs.Held.{start_held}
use Rattle.theorems_runs.proofs.Checked.{rays_admitted}
use Rattle.theorems_calls.specs.Parts.{Part, Exact, joined, with_rays}
use Rattle.theorems_calls.proofs.Reached.{Reached, added_checks, added_all, added_flux, added_hits, added_values, added_tags}
use Rattle.theorems_calls.proofs.Joined.{former-given, later-given}
use Rattle.doubles.proofs.Floats.{and_left, and_right}
use Rattle.detectors.proofs.Passed.{both_passed}

-- every ray of a batch that passed is one that the checks admit
pub started : (B : Batch) (s : Memory) → Passes B s → Held Admitted (rays_in B) (start_of (rays_in B) B.rays)
started B s p = start_held Admitted (rays_in B) B.rays (rays_admitted (rays_in B) B.solids B.rays p.rays)

-- ---- fewer rays

abbrev is_passed : Checked Unit → Bool
is_passed (passed u) = true
is_passed (refused_at n place) = false

-- what a test that passed says
pub said : (t : Bool) (n place : ℕ) → ◌≡◌ {A = Checked Unit} (cond t (passed tt) (refused_at n place)) (passed tt) → t ≡ true
said true n place e = refl
said false n place e = false_true (ap is_passed e)

pub exact_lists : (p : Part) → Exact p → check_lists_of (length p.ray_values) (length p.ray_tags) p.rays ≡ passed tt
unfolding check_lists_of
exact_lists p e = rw (eq-eqb _ _ e.ray_values, eq-eqb _ _ e.ray_tags)

pub lists_say : (nv nt n : ℕ) → check_lists_of nv nt n ≡ passed tt → (nv ≡ n * 8) × (nt ≡ n * 10)
unfolding check_lists_of
lists_say nv nt n e =
    let t = said (eqb nv (n * 8) && eqb nt (n * 10)) 17 0 e in
    (eqb-true nv (n * 8) (and_left (eqb nv (n * 8)) (eqb nt (n * 10)) t), eqb-true nt (n * 10) (and_right (eqb nv (n * 8)) (eqb nt (n * 10)) t))

ray_anywhere : (a : ActiveRay) (solids i j : ℕ) → check_ray_of a solids i ≡ passed tt → check_ray_of a solids j ≡ passed tt
unfolding check_ray_of
ray_anywhere a solids i j = go (is_valid_ray_of a.ray) (valid_media_of a.media solids)
  where
    go : (t u : Bool) → ◌≡◌ {A = Checked Unit} (cond t (cond u (passed tt) (refused_at 11 i)) (refused_at 10 i)) (passed tt) → ◌≡◌ {A = Checked Unit} (cond t (cond u (passed tt) (refused_at 11 j)) (refused_at 10 j)) (passed tt)
    go true true e = refl
    go true false e = false_true (ap is_passed e)
    go false u e = false_true (ap is_passed e)

each_ray : (given : ℕ → ActiveRay) (solids n i j : ℕ) → check_rays_of given solids n i ≡ passed tt → j < n → check_ray_of (given (i + j)) solids 0 ≡ passed tt
unfolding check_rays_of
each_ray given solids zero i j e k = absurd (omega arith)
each_ray given solids (suc n) i zero e k = rw add-zero (ray_anywhere (given i) solids i 0 (both_passed tt (check_ray_of (given i) solids i) (check_rays_of given solids n (i + 1)) e).0)
each_ray given solids (suc n) i (suc j) e k =
    let q : i + suc j ≡ i + 1 + j = omega arith in
    rw q (each_ray given solids n (i + 1) j (both_passed tt (check_ray_of (given i) solids i) (check_rays_of given solids n (i + 1)) e).1 (omega arith))

all_rays : (given : ℕ → ActiveRay) (solids n i : ℕ) → ((j : ℕ) → j < n → check_ray_of (given (i + j)) solids 0 ≡ passed tt) → check_rays_of given solids n i ≡ passed tt
unfolding check_rays_of
all_rays given solids zero i f = refl
all_rays given solids (suc n) i f =
    rw (
      ray_anywhere (given i) solids 0 i (rw add-zero at (f 0 (omega arith))),
      all_rays given solids n (i + 1) (λ j k. let q : i + suc j ≡ i + 1 + j = omega arith in rw q at (f (suc j) (omega arith))),
    )

-- the rays from place c on, by another way to fetch them
rays_part : (given again : ℕ → ActiveRay) (solids n c m : ℕ) → c + m ≤ n → ((i : ℕ) → i < m → again i ≡ given (c + i)) → check_rays_of given solids n 0 ≡ passed tt → check_rays_of again solids m 0 ≡ passed tt
rays_part given again solids n c m l same e =
    all_rays again solids m 0
    (λ j k.
    rw (zero-add, same j k) (rw zero-add at (each_ray given solids n 0 (c + j) e (omega arith))))

-- ---- the memory

pub used_room : (s : Memory) → check_lengths_in s ≡ passed tt → s.used ≤ capacity s
unfolding capacity check_lengths_of
used_room s e = (long _ _ _ _ _ _ (said _ 9 0 e)).room

more_used : (ds : Detectors) (nf nh nv nt u v : ℕ) → v ≤ nv / hit_doubles → check_lengths_of ds nf nh nv nt u ≡ passed tt → check_lengths_of ds nf nh nv nt v ≡ passed tt
unfolding check_lengths_of
more_used ds nf nh nv nt u v k e = rw (long_enough ds nf nh nv nt u v k (said _ 9 0 e))

pub reached_lengths : (s m : Memory) → Reached s m → check_lengths_in s ≡ passed tt → check_lengths_in m ≡ passed tt
unfolding capacity
reached_lengths s m r e =
    let b = r.hits in
    ap (λ (x : Memory). check_lengths_of x.detectors (length x.flux) (length x.hits) (length x.hit_values) (length x.hit_tags) m.used) r.sum
    ∙ rw (added_flux b s, added_hits b s, added_values b s, added_tags b s, same_lengths s.detectors _ (length s.flux) (length s.hits) (length s.hit_values) (length s.hit_tags) m.used (added_all b s))
    (more_used s.detectors (length s.flux) (length s.hits) (length s.hit_values) (length s.hit_tags) s.used m.used r.room e)

pub reached_checks : (s m : Memory) → Reached s m → check_detectors_of s.detectors ≡ passed tt → check_detectors_of m.detectors ≡ passed tt
reached_checks s m r e = ap (λ (x : Memory). check_detectors_of x.detectors) r.sum ∙ added_checks r.hits s ∙ e

-- ---- the parts of a batch that passed pass, on what calls leave of its memory

module _ (B : Batch) (p q : Part) (s : Memory) (ep : Exact p) (eq : Exact q) (w : Passes (with_rays B (joined p q)) s) where
  pub former_passes : (m : Memory) → Reached s m → Passes (with_rays B p) m
  former_passes m r =
      record {
        solids = w.solids;
        lists = exact_lists p ep;
        config = w.config;
        few_solids = w.few_solids;
        few_rays = omega (arith, w.few_rays);
        detectors = reached_checks s m r w.detectors;
        lengths = reached_lengths s m r w.lengths;
        rays =
            rays_part (rays_in (with_rays B (joined p q))) (rays_in (with_rays B p)) B.solids (p.rays + q.rays) 0 p.rays (omega arith)
            (λ i k. rw zero-add (former-given p q ep i k)) w.rays;
      }

  pub later_passes : Passes (with_rays B q) s
  later_passes =
      record {
        solids = w.solids;
        lists = exact_lists q eq;
        config = w.config;
        few_solids = w.few_solids;
        few_rays = omega (arith, w.few_rays);
        detectors = w.detectors;
        lengths = w.lengths;
        rays =
            rays_part (rays_in (with_rays B (joined p q))) (rays_in (with_rays B q)) B.solids (p.rays + q.rays) p.rays q.rays (omega arith)
            (λ i k. later-given p q ep i eq k) w.rays;
      }
