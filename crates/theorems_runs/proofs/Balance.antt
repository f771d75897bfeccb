-- Every ray of a run that is not refused ends in one tally. Assumes nothing.
use Rattle.std.specs.Prelude.{Option, None, Some, is_some, IfSome}
use Prim.Native.Nat.{ℕ, zero, suc, ◌≤◌, ◌<◌, ◌+◌, ◌*◌}
use mathlib.Core.Path.{◌≡◌, refl, sym, ap, subst, ◌∙◌}
use mathlib.Core.Bool.{Bool, true, false, cond}
use mathlib.Core.List.{List}
use native.Mathlib.Omega.{arith}
use lib.Ieee.{Float}
use Rattle.detectors.specs.declared.Detectors.{Detectors}
use Rattle.detector.specs.declared.DetectorHit.{DetectorHit}
use Rattle.memory.specs.Memory.{Outcome, done, refused}
use Rattle.step.specs.declared.ActiveRay.{ActiveRay}
use Rattle.step.specs.Rays.{Scene, Step, End, dim, spent, gone, caught, met, refusing, more_of}
use Rattle.step.specs.Steps.{take_step_of}
use Rattle.report.specs.declared.tallies.Tallies.{Tallies}
use Rattle.report.specs.declared.NonSeqTraceReport.{NonSeqTraceReport}
use Rattle.report.specs.Report.{more_if_of, add_dim_of, add_spent_of, add_caught_of, add_gone_of, add_surface_of, tallies_after_of, is_interaction_of, report_after_of, start_report_of}
use Rattle.report.proofs.Meetings.{met_surface}
use Rattle.run.specs.declared.Progress.{Progress}
use Rattle.run.specs.Stack.{empty_stack_of}
use Rattle.run.specs.Run.{hit_in_of, refusal_in_of, put_from, is_left, settle_with, step_on}
use Rattle.trace.specs.Trace.{Batch, rays_in, all_steps, start_of, scene_in, run_on}
use Rattle.theorems_runs.specs.Sums.{sum_first, sum_given, sum_stack, sum_left, sum_some, sum_made, heft, is_surface, refuses, over_in, met_in, Tidy}
use Rattle.theorems_runs.proofs.Bred.{false_true, Born, bred}
use Rattle.theorems_runs.proofs.Stacks.{ray, next, none_left}
use Rattle.theorems_runs.proofs.Weights.{more_is}
use Rattle.theorems_runs.proofs.Runs.{not_done, drive-done, next_less, weight_pos}
use Rattle.theorems_runs.proofs.Places.{next_tidy, next_same}
use Rattle.theorems_runs.proofs.Tracings.{start_full, start_weight, enough}

-- ---- the tallies

pub more_if : (t : Bool) (n : ℕ) → n < 4294967295 → more_if_of t n ≡ n + cond t 1 0
unfolding more_if_of
more_if true n h = more_is n h
more_if false n h = omega arith

pub flag_most : (t : Bool) → cond t 1 0 ≤ 1
flag_most true = omega arith
flag_most false = omega arith

no_flag : (t : Bool) → (t ≡ true → false ≡ true) → ◌≡◌ {A = ℕ} (cond t 1 0) 0
no_flag true h = false_true (h refl)
no_flag false h = refl

-- what a step that is not refused adds
record Added (t u : Tallies) (e : End) (f s : Bool) : Type 0 where
  made : u.made ≡ t.made + (cond f 1 0 + cond s 1 0)
  over : over_in u ≡ over_in t + 1
  met : met_in u ≡ met_in t + cond (is_interaction_of e) 1 0

surfacing_added : (t : Tallies) (e : End) (f s w x : Bool) → is_interaction_of e ≡ true → t.made + 1 < 4294967295 → over_in t < 4294967295 → Added t (add_surface_of t f s w x) e f s
unfolding add_surface_of over_in met_in
surfacing_added t e f s w x i h k =
    let m1 : more_if_of f t.made ≡ t.made + cond f 1 0 = more_if f t.made (omega arith) in
    let m2 : more_if_of s (more_if_of f t.made) ≡ more_if_of f t.made + cond s 1 0 = more_if s (more_if_of f t.made) (omega (arith, m1, flag_most f)) in
    let q : more_of t.surface ≡ t.surface + 1 = more_is t.surface (omega arith) in
    record { made = omega (arith, m1, m2); over = omega (arith, q); met = rw i (omega (arith, q)) }

tallied : (t : Tallies) (e : End) (f s : Bool) → refuses e ≡ false → (f ≡ true → is_surface e ≡ true) → (s ≡ true → is_surface e ≡ true) → t.made + 1 < 4294967295 → over_in t < 4294967295 → Added t (tallies_after_of t e f s) e f s
unfolding tallies_after_of add_dim_of add_spent_of add_caught_of add_gone_of is_interaction_of is_surface refuses over_in met_in
tallied t dim f s r x y h k =
    let q : more_of t.dim ≡ t.dim + 1 = more_is t.dim (omega arith) in
    record { made = omega (arith, no_flag f x, no_flag s y); over = omega (arith, q); met = omega arith }
tallied t spent f s r x y h k =
    let q : more_of t.spent ≡ t.spent + 1 = more_is t.spent (omega arith) in
    record { made = omega (arith, no_flag f x, no_flag s y); over = omega (arith, q); met = omega arith }
tallied t gone f s r x y h k =
    let q : more_of t.gone ≡ t.gone + 1 = more_is t.gone (omega arith) in
    record { made = omega (arith, no_flag f x, no_flag s y); over = omega (arith, q); met = omega (arith, q) }
tallied t (caught d) f s r x y h k =
    let q : more_of t.caught ≡ t.caught + 1 = more_is t.caught (omega arith) in
    record { made = omega (arith, no_flag f x, no_flag s y); over = omega (arith, q); met = omega (arith, q) }
tallied t (met m) f s r x y h k =
    subst (λ (u : Tallies). Added t u (met m) f s) (sym (met_surface t m f s)) (surfacing_added t (met m) f s _ _ refl h k)
tallied t (refusing n) f s r x y h k = false_true (sym r)

-- ---- sums of ones

abbrev one : ActiveRay → ℕ
one a = 1

ones : (xs : List ActiveRay) (n : ℕ) → sum_first one xs n ≡ n
unfolding sum_first
ones xs zero = refl
ones xs (suc n) = omega (arith, ones xs n)

given_ones : (given : ℕ → ActiveRay) (n : ℕ) → sum_given one given n ≡ n
unfolding sum_given
given_ones given zero = refl
given_ones given (suc n) = omega (arith, given_ones given n)

left_ones : (given : ℕ → ActiveRay) (p : Progress) → sum_left one given p ≡ p.stack.len + p.left
unfolding sum_left sum_stack
left_ones given p = omega (arith, ones p.stack.rays p.stack.len, given_ones given p.left)

some_one : (o : Option ActiveRay) → sum_some one o ≡ cond (is_some o) 1 0
some_one (Some a) = refl
some_one None = refl

made_ones : (s : Step) → sum_made one s ≡ cond (is_some s.reflected) 1 0 + cond (is_some s.transmitted) 1 0
unfolding sum_made
made_ones s = omega (arith, some_one s.reflected, some_one s.transmitted)

-- a ray that is made is made at a surface
made_at : (a : ActiveRay) (e : End) (o : Option ActiveRay) → IfSome o (Born a e) → is_some o ≡ true → is_surface e ≡ true
made_at a e (Some c) h q = h.surface
made_at a e None h q = false_true q

-- ---- a step

-- the rays given and made are those whose life is over and those that are left; with room in every tally for all that can come
record Balanced (given : ℕ → ActiveRay) (b n : ℕ) (p : Progress) : Type 0 where
  tidy : Tidy p.stack
  room : p.report.tallies.made + 2 * sum_left (heft b) given p ≤ 1073733632
  all : n + p.report.tallies.made ≡ over_in p.report.tallies + (p.stack.len + p.left)
  met : p.report.total_interactions ≡ met_in p.report.tallies

met_over : (t : Tallies) → met_in t ≤ over_in t
unfolding met_in over_in
met_over t = omega arith

module _ {M : Type 0} (put : M → DetectorHit → Outcome M) where
  put_done : (place : ℕ) (r after : NonSeqTraceReport) (z : M) (o : Outcome M) → (put_from place r after o).outcome ≡ done z → (put_from place r after o).report ≡ after
  put_done place r after z (done m) e = refl
  put_done place r after z (refused n at m) e = not_done n place m z e

  -- a step that is not refused leaves the report after it
  settle_done : (m : M) (place : ℕ) (r after : NonSeqTraceReport) (z : M) (e : End) → (settle_with put m place r after (refusal_in_of e place) (hit_in_of e)).outcome ≡ done z
      → ((settle_with put m place r after (refusal_in_of e place) (hit_in_of e)).report ≡ after) × (refuses e ≡ false)
  unfolding hit_in_of refusal_in_of refuses
  settle_done m place r after z dim h = (refl, refl)
  settle_done m place r after z spent h = (refl, refl)
  settle_done m place r after z gone h = (refl, refl)
  settle_done m place r after z (caught d) h = (put_done place r after z (put m d) h, refl)
  settle_done m place r after z (met x) h = (refl, refl)
  settle_done m place r after z (refusing n) h = not_done n place m z h

  module _ (S : Scene) (given : ℕ → ActiveRay) where
    abbrev made : M → Progress → Step
    made m p = take_step_of S (ray put S given m p)

    next-done : (m z : M) (p : Progress) → (step_on put S given m p).outcome ≡ done z
        → ((next put S given m p).report ≡ report_after_of p.report (ray put S given m p).ray.energy (made m p)) × (refuses (made m p).end ≡ false)
    unfolding step_on
    next-done m z p h = settle_done m _ p.report _ z (made m p).end h

    after-tallies : (r : NonSeqTraceReport) (power : Float) (s : Step) → (report_after_of r power s).tallies ≡ tallies_after_of r.tallies s.end (is_some s.reflected) (is_some s.transmitted)
    unfolding report_after_of
    after-tallies r power s = refl

    after-count : (r : NonSeqTraceReport) (power : Float) (s : Step) → (report_after_of r power s).total_interactions ≡ more_if_of (is_interaction_of s.end) r.total_interactions
    unfolding report_after_of
    after-count r power s = refl

    next-balanced : S.optics.config.max_bounces ≤ 16 → (n : ℕ) → n ≤ 4096 → (m z : M) (p : Progress) → is_left p ≡ true → Balanced given S.optics.config.max_bounces n p → (step_on put S given m p).outcome ≡ done z
        → Balanced given S.optics.config.max_bounces n (next put S given m p)
    next-balanced lim n few m z p l h e =
        let b : ℕ = S.optics.config.max_bounces in
        let s : Step = made m p in
        let t : Tallies = p.report.tallies in
        let r = next-done m z p e in
        let pos : 1 ≤ sum_left (heft b) given p = weight_pos put S given p h.tidy.full l in
        let less : sum_left (heft b) given (next put S given m p) + 1 ≤ sum_left (heft b) given p = next_less put S given m p lim h.tidy.full l in
        let k = bred S (ray put S given m p) in
        let small : t.made ≤ 1073733630 = omega (arith, h.room) in
        let few-over : over_in t ≤ 1073737726 = omega (arith, h.all) in
        let a : Added t (tallies_after_of t s.end (is_some s.reflected) (is_some s.transmitted)) s.end (is_some s.reflected) (is_some s.transmitted) =
        tallied t s.end (is_some s.reflected) (is_some s.transmitted) r.1 (made_at _ s.end s.reflected k.one) (made_at _ s.end s.transmitted k.two) (omega arith) (omega arith) in
        let u : (next put S given m p).report.tallies ≡ tallies_after_of t s.end (is_some s.reflected) (is_some s.transmitted) =
        ap (λ (x : NonSeqTraceReport). x.tallies) r.0 ∙ after-tallies p.report _ s in
        let c : (next put S given m p).report.total_interactions ≡ more_if_of (is_interaction_of s.end) p.report.total_interactions =
        ap (λ (x : NonSeqTraceReport). x.total_interactions) r.0 ∙ after-count p.report _ s in
        let d : more_if_of (is_interaction_of s.end) p.report.total_interactions ≡ p.report.total_interactions + cond (is_interaction_of s.end) 1 0 =
        more_if (is_interaction_of s.end) p.report.total_interactions (omega (arith, h.met, met_over t)) in
        let f1 : cond (is_some s.reflected) 1 0 ≤ 1 = flag_most (is_some s.reflected) in
        let f2 : cond (is_some s.transmitted) 1 0 ≤ 1 = flag_most (is_some s.transmitted) in
        record {
          tidy = next_tidy put S given m p lim h.tidy;
          room = rw u (omega (arith, h.room, a.made));
          all =
              rw u
              (omega (
                arith,
                h.all,
                a.made,
                a.over,
                next_same put S given m p lim h.tidy one l,
                made_ones s,
                left_ones given p,
                left_ones given (next put S given m p),
              ));
          met = c ∙ d ∙ rw u (omega (arith, h.met, a.met));
        }

-- ---- the start

pub start_tidy : (given : ℕ → ActiveRay) (n : ℕ) → Tidy (start_of given n).stack
unfolding start_of empty_stack_of
start_tidy given n = record { full = start_full given n; low = λ i q. absurd (omega arith) }

start_balanced : (b : ℕ) (given : ℕ → ActiveRay) (n : ℕ) → b ≤ 16 → n ≤ 4096 → Balanced given b n (start_of given n)
unfolding start_of empty_stack_of start_report_of over_in met_in
start_balanced b given n lim few =
    record { tidy = start_tidy given n; room = omega (arith, start_weight b given n lim few); all = omega arith; met = refl }

-- ---- the theorem

over_is : (t : Tallies) → over_in t ≡ t.dim + t.spent + t.caught + t.gone + t.surface
unfolding over_in
over_is t = refl

met_is : (t : Tallies) → met_in t ≡ t.caught + t.gone + t.surface
unfolding met_in
met_is t = refl

module _ {M : Type 0} (put : M → DetectorHit → Outcome M) (ds : Detectors) (B : Batch) (m z : M) (lim : B.config.max_bounces ≤ 16) (few : B.rays ≤ 4096) where
  abbrev pub report : NonSeqTraceReport
  report = (run_on put ds B m).progress.report

  balanced : (run_on put ds B m).outcome ≡ done z → Balanced (rays_in B) B.config.max_bounces B.rays (run_on put ds B m).progress
  unfolding run_on
  balanced =
      drive-done put (scene_in B ds) (rays_in B) (Balanced (rays_in B) B.config.max_bounces B.rays)
      (λ u v p l h e. next-balanced put (scene_in B ds) (rays_in B) lim B.rays few u v p l h e)
      all_steps m z (start_of (rays_in B) B.rays) (start_balanced B.config.max_bounces (rays_in B) B.rays lim few)

  -- of a run that is not refused, every ray that was given or made ended in one tally
  pub balance : (run_on put ds B m).outcome ≡ done z
      → B.rays + report.tallies.made ≡ report.tallies.dim + report.tallies.spent + report.tallies.caught + report.tallies.gone + report.tallies.surface
  balance e =
      let k = none_left (run_on put ds B m).progress (enough put ds B m lim z few e) in
      omega (arith, (balanced e).all, over_is report.tallies, k.0, k.1)

  -- and its interactions are the tallies that are interactions
  pub balance_met : (run_on put ds B m).outcome ≡ done z → report.total_interactions ≡ report.tallies.caught + report.tallies.gone + report.tallies.surface
  balance_met e = (balanced e).met ∙ met_is report.tallies
