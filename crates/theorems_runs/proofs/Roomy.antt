-- The guards that make definitions total act in no run: the stack has room, and so have the media of a ray. Assumes nothing.
use Rattle.std.specs.Prelude.{Option, None, Some}
use Rattle.std.proofs.lemmas.Option.{IfSome_then}
use Prim.Native.Nat.{ℕ, ◌≤◌, ◌<◌, ◌+◌, ◌-◌, ◌*◌}
use mathlib.Core.Path.{◌≡◌, refl, sym, ◌∙◌}
use mathlib.Core.Bool.{Bool, true, false, cond, ◌&&◌}
use mathlib.Core.List.{List}
use native.Mathlib.Omega.{arith}
use lib.Dec.{ltb, leb}
use lib.ListN.{length, set}
use lib.Ieee.{Float}
use borrow.Author.Tests.{ltb-true, ltb-false, lt-ltb, le-ltb, le-leb}
use Rattle.detectors.specs.declared.Detectors.{Detectors}
use Rattle.scene.specs.declared.SolidNo.{SolidNo}
use Rattle.media.specs.declared.Media.{Media}
use Rattle.media.specs.Media.{newest_of, entered_of, left_of, last_place_of, without_place, solid_in}
use Rattle.detector.specs.declared.DetectorHit.{DetectorHit}
use Rattle.memory.specs.Memory.{Outcome}
use Rattle.step.specs.declared.ActiveRay.{ActiveRay}
use Rattle.step.specs.Rays.{Scene, Step}
use Rattle.step.specs.Steps.{take_step_of}
use Rattle.given_rays.specs.Given.{given_at_of, read_media_of, no_ray_of}
use Rattle.run.specs.declared.stack.Stack.{Stack}
use Rattle.run.specs.declared.Progress.{Progress}
use Rattle.run.specs.Stack.{pushed_if, popped, stack_after}
use Rattle.run.specs.Run.{is_left, drive}
use Rattle.trace.specs.Trace.{Batch, rays_in, start_of, scene_in}
use Rattle.theorems_runs.specs.Sums.{Tidy}
use Rattle.theorems_runs.specs.Room.{EachGiven, Keeps, Held, Housed, next_ray, plain_after, Roomy}
use Rattle.theorems_runs.proofs.Bred.{pick, Later, Born, Bred, bred}
use Rattle.theorems_runs.proofs.Stacks.{next, full_after}
use Rattle.theorems_runs.proofs.Weights.{if_none, born_more}
use Rattle.theorems_runs.proofs.Runs.{drive_keeps}
use Rattle.theorems_runs.proofs.Places.{room_one, room_two, next_tidy}
use Rattle.theorems_runs.proofs.Held.{held_ray, next-held, start_held}
use Rattle.theorems_runs.proofs.Balance.{start_tidy}

-- ---- media with room

pub entered_plain : (m : Media) (s : SolidNo) → m.depth < 24 → entered_of m s ≡ record { list = set m.list m.depth s; depth = m.depth + 1 }
unfolding entered_of
entered_plain m s h = rw (lt-ltb m.depth 24 h)

pub left_plain : (m : Media) (s : SolidNo) → m.depth ≤ 24 → left_of m s ≡ without_place m (last_place_of m.list m.depth s)
unfolding left_of
left_plain m s h = rw (le-leb m.depth 24 h)

and_true : {A : Type 0} (x y : A) (t : Bool) → cond (t && true) x y ≡ cond t x y
and_true x y true = refl
and_true x y false = refl

pub newest_plain : (m : Media) → m.depth ≤ 24 → newest_of m ≡ cond (ltb 0 m.depth) (Some (solid_in m.list (m.depth - 1))) None
unfolding newest_of
newest_plain m h = rw (le-leb m.depth 24 h) (and_true (Some (solid_in m.list (m.depth - 1))) None (ltb 0 m.depth))

-- ---- the stack

pushes_none : (s : Stack) (o : Option ActiveRay) → o ≡ None → pushed_if s o ≡ s
unfolding pushed_if
pushes_none s o e = rw e

after_room : (s : Stack) (e : Step) → (popped s).len < 16 → stack_after s e ≡ plain_after s e
unfolding stack_after
after_room s e h = rw (lt-ltb (popped s).len 16 h)

after_none : (s : Stack) (e : Step) → 16 ≤ (popped s).len → e.reflected ≡ None → e.transmitted ≡ None → stack_after s e ≡ plain_after s e
unfolding stack_after
after_none s e h x y =
    rw (le-ltb (popped s).len 16 h)
    (sym (pushes_none (pushed_if (popped s) e.reflected) e.transmitted y ∙ pushes_none (popped s) e.reflected x))

-- ---- a step

record Orderly (given : ℕ → ActiveRay) (p : Progress) : Type 0 where
  tidy : Tidy p.stack
  held : Held Housed given p

child : (a c : ActiveRay) → c.bounce_count ≡ a.bounce_count + 1 → Later a c → Housed a → Housed c
child a c e l h =
    record {
      deep = omega (arith, h.deep, l.media.depth);
      long = l.media.long ∙ h.long;
      reflections = omega (arith, h.reflections, l.reflections);
      tirs = omega (arith, h.tirs, l.tirs);
    }

housed_kept : (S : Scene) → S.optics.config.max_bounces ≤ 16 → Keeps Housed S
housed_kept S lim a h =
    let b : ℕ = S.optics.config.max_bounces in
    let s : Step = take_step_of S a in
    let k : Bred b a s = bred S a in
    let kept : (c : ActiveRay) → Born a s.end c → Housed c = λ c q. child a c (born_more b a s lim k c q) q.later h in
    (IfSome_then s.reflected k.one kept, IfSome_then s.transmitted k.two kept)

module _ (S : Scene) (given : ℕ → ActiveRay) (lim : S.optics.config.max_bounces ≤ 16) where
  module _ {M : Type 0} (put : M → DetectorHit → Outcome M) where
    next-orderly : (m : M) (p : Progress) → is_left p ≡ true → Orderly given p → Orderly given (next put S given m p)
    next-orderly m p l o =
        record { tidy = next_tidy put S given m p lim o.tidy; held = next-held Housed given put S (housed_kept S lim) m p l o.held }

    next-plain : (m : M) (p : Progress) → Orderly given p → stack_after p.stack (take_step_of S (next_ray given p)) ≡ plain_after p.stack (take_step_of S (next_ray given p))
    next-plain m p o = more (ltb (popped p.stack).len 16) refl
      where
        more : (t : Bool) → ltb (popped p.stack).len 16 ≡ t → stack_after p.stack (take_step_of S (next_ray given p)) ≡ plain_after p.stack (take_step_of S (next_ray given p))
        more true q = after_room p.stack (take_step_of S (next_ray given p)) (ltb-true (popped p.stack).len 16 q)
        more false q =
            let g : 16 ≤ (popped p.stack).len = ltb-false (popped p.stack).len 16 q in
            after_none p.stack (take_step_of S (next_ray given p)) g
            (if_none _ (IfSome_then (take_step_of S (next_ray given p)).reflected (room_one put S given m p lim o.tidy) (λ r y. omega arith)))
            (if_none _ (IfSome_then (take_step_of S (next_ray given p)).transmitted (room_two put S given m p lim o.tidy) (λ r y. omega arith)))

    orderly-roomy : (m : M) (p : Progress) → is_left p ≡ true → Orderly given p → Roomy S given p
    orderly-roomy m p l o =
        let h : Housed (next_ray given p) = held_ray Housed given p l o.held in
        record {
          full = o.tidy.full;
          after_full = full_after p.stack (take_step_of S (next_ray given p)) o.tidy.full;
          after-plain = next-plain m p o;
          long = h.long;
          going = λ q. record { deep = omega (arith, h.deep); bounces = omega arith; reflections = omega (arith, h.reflections); tirs = omega (arith, h.tirs) };
        }

    -- after any k steps of a run, if a ray is left
    pub roomy_after : (n : ℕ) → EachGiven Housed given n → (k : ℕ) (m : M) → is_left (drive put S given k m (start_of given n)).progress ≡ true
        → Roomy S given (drive put S given k m (start_of given n)).progress
    roomy_after n homes k m l =
        orderly-roomy m (drive put S given k m (start_of given n)).progress l
        (drive_keeps put S given (Orderly given) (λ u p q o. next-orderly u p q o) k m (start_of given n) (record { tidy = start_tidy given n; held = start_held Housed given n homes }))

-- ---- the given rays

given_housed : (v : List Float) (t : List ℕ) (i : ℕ) → (given_at_of v t i).media.depth ≤ 8 → Housed (given_at_of v t i)
unfolding given_at_of read_media_of no_ray_of
given_housed v t i =
    pick (λ (a : ActiveRay). (a.media.depth ≤ 8 → Housed a)) (leb (i * 8 + 8) (length v) && leb (i * 10 + 10) (length t))
    (λ q h. record { deep = omega arith; long = refl; reflections = omega arith; tirs = omega arith })
    (λ q h. record { deep = omega arith; long = refl; reflections = omega arith; tirs = omega arith })

-- in a run of any number of steps of rays with at most 8 media no guard acts
pub roomy : {M : Type 0} (put : M → DetectorHit → Outcome M) (ds : Detectors) (B : Batch) (m : M) (k : ℕ) → B.config.max_bounces ≤ 16 → ((i : ℕ) → i < B.rays → (rays_in B i).media.depth ≤ 8)
    → is_left (drive put (scene_in B ds) (rays_in B) k m (start_of (rays_in B) B.rays)).progress ≡ true
    → Roomy (scene_in B ds) (rays_in B) (drive put (scene_in B ds) (rays_in B) k m (start_of (rays_in B) B.rays)).progress
roomy put ds B m k lim few =
    roomy_after (scene_in B ds) (rays_in B) lim put B.rays (λ i q. given_housed B.ray_values B.ray_tags i (few i q)) k m
