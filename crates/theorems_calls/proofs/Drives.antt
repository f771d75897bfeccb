-- Runs into two memories side by side, and what a run keeps of its memory. Assumes nothing.
use Prim.Native.Nat.{ℕ, zero, suc}
use mathlib.Core.Path.{◌≡◌, refl, ap, sym, ◌∙◌}
use mathlib.Core.Bool.{Bool, true, false, cond}
use Rattle.detector.specs.declared.DetectorHit.{DetectorHit}
use Rattle.memory.specs.Memory.{Outcome, done, refused, memory_left}
use Rattle.memory.proofs.Plain.{map_outcome}
use Rattle.step.specs.declared.ActiveRay.{ActiveRay}
use Rattle.step.specs.Rays.{Scene, Step, End, dim, spent, gone, caught, met, refusing}
use Rattle.step.specs.Steps.{take_step_of}
use Rattle.report.specs.declared.NonSeqTraceReport.{NonSeqTraceReport}
use Rattle.report.specs.Report.{report_after_of}
use Rattle.run.specs.declared.stack.Taken.{Taken}
use Rattle.run.specs.declared.Progress.{Progress}
use Rattle.run.specs.Stack.{taken_from, stack_after}
use Rattle.run.specs.Run.{Run, Settled, hit_in_of, refusal_in_of, put_from, is_left, and_then, settle_with, step_on, drive}
use Rattle.theorems_runs.specs.Room.{Keeps, Held, next_ray}
use Rattle.theorems_runs.proofs.Bred.{pick}
use Rattle.theorems_runs.proofs.Held.{held_ray, next-held}

-- a hit that a step in scene S can bring, with a ray of which P holds
abbrev pub Brought : (ActiveRay → Type 0) → Scene → DetectorHit → Type 0
Brought P S h = (a : ActiveRay) × (P a × ((take_step_of S a).end ≡ caught h))

-- what a step leaves, from what it settles
abbrev ran : {M : Type 0} → Progress → Taken → Step → Settled M → Run M
ran p t s r = record { outcome = r.outcome; progress = record { stack = stack_after p.stack s; left = t.left; report = r.report } }

-- ---- two memories: φ takes one to the other

module _ {N M : Type 0} (φ : N → M) where
  abbrev map_settled : Settled N → Settled M
  map_settled r = record { outcome = map_outcome φ r.outcome; report = r.report }

  abbrev pub map_run : Run N → Run M
  map_run r = record { outcome = map_outcome φ r.outcome; progress = r.progress }

  map_put : (place : ℕ) (found after : NonSeqTraceReport) (o : Outcome N) → put_from place found after (map_outcome φ o) ≡ map_settled (put_from place found after o)
  map_put place found after (done n) = refl
  map_put place found after (refused k at n) = refl

  module _ (put : M → DetectorHit → Outcome M) (put' : N → DetectorHit → Outcome N) (P : ActiveRay → Type 0) (S : Scene) (kept : Keeps P S) (given : ℕ → ActiveRay) (same : (n : N) (h : DetectorHit) → Brought P S h → put (φ n) h ≡ map_outcome φ (put' n h)) where
    map-settle : (n : N) (place : ℕ) (found after : NonSeqTraceReport) (e : End) → ((h : DetectorHit) → e ≡ caught h → Brought P S h)
        → settle_with put (φ n) place found after (refusal_in_of e place) (hit_in_of e) ≡ map_settled (settle_with put' n place found after (refusal_in_of e place) (hit_in_of e))
    unfolding hit_in_of refusal_in_of
    map-settle n place found after dim b = refl
    map-settle n place found after spent b = refl
    map-settle n place found after gone b = refl
    map-settle n place found after (caught h) b = ap (put_from place found after) (same n h (b h refl)) ∙ map_put place found after (put' n h)
    map-settle n place found after (met x) b = refl
    map-settle n place found after (refusing k) b = refl

    map-step : (n : N) (p : Progress) → P (next_ray given p) → step_on put S given (φ n) p ≡ map_run (step_on put' S given n p)
    unfolding step_on
    map-step n p x =
        let t = taken_from given p.stack p.left in
        let s = take_step_of S t.ray in
        ap (λ r. ran p t s r)
        (map-settle n t.left p.report (report_after_of p.report t.ray.ray.energy s) s.end (λ h e. (t.ray, (x, e))))

    map-then : (k : ℕ) (o : Outcome N) (p : Progress) → ((n : N) → drive put S given k (φ n) p ≡ map_run (drive put' S given k n p))
        → and_then (drive put S given k) (map_outcome φ o) p ≡ map_run (and_then (drive put' S given k) o p)
    map-then k (done n) p f = f n
    map-then k (refused j place n) p f = refl

    -- a run into one is a run into the other
    pub map-drive : (k : ℕ) (n : N) (p : Progress) → Held P given p → drive put S given k (φ n) p ≡ map_run (drive put' S given k n p)
    unfolding drive
    map-drive zero n p x = refl
    map-drive (suc k) n p x = go (λ l n2. map-drive k n2 (step_on put' S given n p).progress (next-held P given put' S kept n p l x)) (is_left p) refl
      where
        go : (is_left p ≡ true → (n2 : N) → drive put S given k (φ n2) (step_on put' S given n p).progress ≡ map_run (drive put' S given k n2 (step_on put' S given n p).progress)) → (b : Bool) → is_left p ≡ b → cond b (and_then (drive put S given k) (step_on put S given (φ n) p).outcome (step_on put S given (φ n) p).progress) (record { outcome = done (φ n); progress = p })
            ≡ map_run (cond b (and_then (drive put' S given k) (step_on put' S given n p).outcome (step_on put' S given n p).progress) (record { outcome = done n; progress = p }))
        go f true l =
            ap (λ (r : Run M). and_then (drive put S given k) r.outcome r.progress) (map-step n p (held_ray P given p l x))
            ∙ map-then k (step_on put' S given n p).outcome (step_on put' S given n p).progress (f l)
        go f false l = refl

map_none : {M : Type 0} (o : Outcome M) → map_outcome (λ x. x) o ≡ o
map_none (done m) = refl
map_none (refused k place m) = refl

-- two ways to put a hit that agree on every hit that a step can bring
pub same_drive : {M : Type 0} (put put' : M → DetectorHit → Outcome M) (P : ActiveRay → Type 0) (S : Scene) (kept : Keeps P S) (given : ℕ → ActiveRay) → ((m : M) (h : DetectorHit) → Brought P S h → put m h ≡ put' m h)
    → (k : ℕ) (m : M) (p : Progress) → Held P given p → (drive put S given k m p).outcome ≡ (drive put' S given k m p).outcome
same_drive put put' P S kept given f k m p x =
    ap (λ (r : Run _). r.outcome) (map-drive (λ y. y) put put' P S kept given (λ m h b. f m h b ∙ sym (map_none (put' m h))) k m p x) ∙ map_none _

-- ---- what every hit that a step can bring keeps of the memory, a run keeps

module _ {M : Type 0} (put : M → DetectorHit → Outcome M) (P : ActiveRay → Type 0) (S : Scene) (kept : Keeps P S) (given : ℕ → ActiveRay) (Q : M → Type 0) (keeps : (m : M) (h : DetectorHit) → Brought P S h → Q m → Q (memory_left (put m h))) where
  put_keeps : (place : ℕ) (found after : NonSeqTraceReport) (o : Outcome M) → Q (memory_left o) → Q (memory_left (put_from place found after o).outcome)
  put_keeps place found after (done m) x = x
  put_keeps place found after (refused k at m) x = x

  settle_keeps : (m : M) (place : ℕ) (found after : NonSeqTraceReport) (e : End) → ((h : DetectorHit) → e ≡ caught h → Brought P S h) → Q m
      → Q (memory_left (settle_with put m place found after (refusal_in_of e place) (hit_in_of e)).outcome)
  unfolding hit_in_of refusal_in_of
  settle_keeps m place found after dim b x = x
  settle_keeps m place found after spent b x = x
  settle_keeps m place found after gone b x = x
  settle_keeps m place found after (caught h) b x = put_keeps place found after (put m h) (keeps m h (b h refl) x)
  settle_keeps m place found after (met y) b x = x
  settle_keeps m place found after (refusing k) b x = x

  step_keeps : (m : M) (p : Progress) → P (next_ray given p) → Q m → Q (memory_left (step_on put S given m p).outcome)
  unfolding step_on
  step_keeps m p y x =
      let t = taken_from given p.stack p.left in
      settle_keeps m t.left p.report (report_after_of p.report t.ray.ray.energy (take_step_of S t.ray)) (take_step_of S t.ray).end (λ h e. (t.ray, (y, e))) x

  then_keeps : (k : ℕ) (o : Outcome M) (p : Progress) → Q (memory_left o) → ((m : M) → Q m → Q (memory_left (drive put S given k m p).outcome)) → Q (memory_left (and_then (drive put S given k) o p).outcome)
  then_keeps k (done m) p x f = f m x
  then_keeps k (refused n place m) p x f = x

  pub drive_keeps : (k : ℕ) (m : M) (p : Progress) → Held P given p → Q m → Q (memory_left (drive put S given k m p).outcome)
  unfolding drive
  drive_keeps zero m p y x = x
  drive_keeps (suc k) m p y x =
      pick (λ (r : Run M). Q (memory_left r.outcome)) (is_left p)
      (λ l.
      then_keeps k (step_on put S given m p).outcome (step_on put S given m p).progress (step_keeps m p (held_ray P given p l y) x)
      (λ m2. drive_keeps k m2 (step_on put S given m p).progress (next-held P given put S kept m p l y)))
      (λ l. x)
