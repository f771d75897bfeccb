-- None of 12 to 16 is given unless its condition holds. Assumes nothing.
use Prim.Native.Nat.{ℕ}
use mathlib.Core.Path.{◌≡◌, refl, sym, ap, subst, ◌∙◌}
use mathlib.Core.Logic.{◌⊎◌, inl, inr}
use mathlib.Core.Bool.{true, false}
use lib.Dec.{eqb}
use lib.Ieee.{Float, le}
use borrow.Author.Tests.{eqb-false}
use Rattle.doubles.proofs.Floats.{clash}
use Rattle.doubles.specs.Doubles.{is_finite_of, #0}
use Rattle.error.specs.Refusals.{Checked, passed, refused_at}
use Rattle.detector.specs.declared.DetectorHit.{DetectorHit}
use Rattle.memory.specs.Memory.{Memory, refused, record_of, has_pixel}
use Rattle.step.specs.declared.ActiveRay.{ActiveRay}
use Rattle.step.specs.Rays.{Scene, caught}
use Rattle.step.specs.Steps.{take_step_of}
use Rattle.run.specs.Run.{Run, is_left}
use Rattle.trace.specs.Trace.{Batch, rays_in, scene_in, check_batch, run_on, trace_after, trace_rays_of}
use Rattle.theorems_runs.specs.Room.{Admitted, next_ray}
use Rattle.theorems_runs.proofs.Checked.{trace_admitted}
use Rattle.theorems_marks.specs.Refused.{StepRefused, Reached, RunRefused, ListFull, CountFull, BadWavelength, BadMedium, BadRay, Only, Refusals}
use Rattle.theorems_marks.proofs.Early.{is_early, check_refuses}
use Rattle.theorems_marks.proofs.Refused.{number_in, trace_refuses}

differ : {A : Type 0} (a b : ℕ) → eqb a b ≡ false → a ≡ b → A
differ a b e f = absurd (eqb-false a b e f)

low : (w : Float) → is_finite_of w ≡ true → (le w #0 ≡ true) ⊎ (is_finite_of w ≡ false) → le w #0 ≡ true
low w f (inl e) = e
low w f (inr e) = absurd (clash (sym f ∙ e))

-- ---- of a step that is refused with that number

module _ (t : Memory) (S : Scene) (a : ActiveRay) where
  -- no refusal has the number 0
  at_0 : StepRefused t S a 0 → ⊥
  at_0 (inl (h, (e, inl (n, k)))) = differ 0 9 refl n
  at_0 (inl (h, (e, inr (inl (n, k))))) = differ 0 12 refl n
  at_0 (inl (h, (e, inr (inr (n, k))))) = differ 0 13 refl n
  at_0 (inr (u, (v, (h, (e, inl (f, inl (inl (n, k)))))))) = differ 0 14 refl n
  at_0 (inr (u, (v, (h, (e, inl (f, inl (inr (n, k)))))))) = differ 0 15 refl n
  at_0 (inr (u, (v, (h, (e, inl (f, inr (inl (inl (n, k))))))))) = differ 0 14 refl n
  at_0 (inr (u, (v, (h, (e, inl (f, inr (inl (inr (n, k))))))))) = differ 0 15 refl n
  at_0 (inr (u, (v, (h, (e, inl (f, inr (inr (n, k)))))))) = differ 0 16 refl n
  at_0 (inr (u, (v, (h, (e, inr (n, k)))))) = differ 0 16 refl n

  -- the memory lacks the hit's place: no tracing that passed its checks meets this
  pub at_9 : StepRefused t S a 9 → (h : DetectorHit) × (((take_step_of S a).end ≡ caught h) × (has_pixel t h ≡ false))
  at_9 (inl (h, (e, inl (n, k)))) = (h, (e, k))
  at_9 (inl (h, (e, inr (inl (n, k))))) = differ 9 12 refl n
  at_9 (inl (h, (e, inr (inr (n, k))))) = differ 9 13 refl n
  at_9 (inr (u, (v, (h, (e, inl (f, inl (inl (n, k)))))))) = differ 9 14 refl n
  at_9 (inr (u, (v, (h, (e, inl (f, inl (inr (n, k)))))))) = differ 9 15 refl n
  at_9 (inr (u, (v, (h, (e, inl (f, inr (inl (inl (n, k))))))))) = differ 9 14 refl n
  at_9 (inr (u, (v, (h, (e, inl (f, inr (inl (inr (n, k))))))))) = differ 9 15 refl n
  at_9 (inr (u, (v, (h, (e, inl (f, inr (inr (n, k)))))))) = differ 9 16 refl n
  at_9 (inr (u, (v, (h, (e, inr (n, k)))))) = differ 9 16 refl n

  at_12 : StepRefused t S a 12 → ListFull t S a
  at_12 (inl (h, (e, inl (n, k)))) = differ 12 9 refl n
  at_12 (inl (h, (e, inr (inl (n, k))))) = (h, (e, k))
  at_12 (inl (h, (e, inr (inr (n, k))))) = differ 12 13 refl n
  at_12 (inr (u, (v, (h, (e, inl (f, inl (inl (n, k)))))))) = differ 12 14 refl n
  at_12 (inr (u, (v, (h, (e, inl (f, inl (inr (n, k)))))))) = differ 12 15 refl n
  at_12 (inr (u, (v, (h, (e, inl (f, inr (inl (inl (n, k))))))))) = differ 12 14 refl n
  at_12 (inr (u, (v, (h, (e, inl (f, inr (inl (inr (n, k))))))))) = differ 12 15 refl n
  at_12 (inr (u, (v, (h, (e, inl (f, inr (inr (n, k)))))))) = differ 12 16 refl n
  at_12 (inr (u, (v, (h, (e, inr (n, k)))))) = differ 12 16 refl n

  at_13 : StepRefused t S a 13 → CountFull t S a
  at_13 (inl (h, (e, inl (n, k)))) = differ 13 9 refl n
  at_13 (inl (h, (e, inr (inl (n, k))))) = differ 13 12 refl n
  at_13 (inl (h, (e, inr (inr (n, k))))) = (h, (e, k))
  at_13 (inr (u, (v, (h, (e, inl (f, inl (inl (n, k)))))))) = differ 13 14 refl n
  at_13 (inr (u, (v, (h, (e, inl (f, inl (inr (n, k)))))))) = differ 13 15 refl n
  at_13 (inr (u, (v, (h, (e, inl (f, inr (inl (inl (n, k))))))))) = differ 13 14 refl n
  at_13 (inr (u, (v, (h, (e, inl (f, inr (inl (inr (n, k))))))))) = differ 13 15 refl n
  at_13 (inr (u, (v, (h, (e, inl (f, inr (inr (n, k)))))))) = differ 13 16 refl n
  at_13 (inr (u, (v, (h, (e, inr (n, k)))))) = differ 13 16 refl n

  at_14 : Admitted a → StepRefused t S a 14 → BadWavelength S a
  at_14 w (inl (h, (e, inl (n, k)))) = differ 14 9 refl n
  at_14 w (inl (h, (e, inr (inl (n, k))))) = differ 14 12 refl n
  at_14 w (inl (h, (e, inr (inr (n, k))))) = differ 14 13 refl n
  at_14 w (inr (u, (v, (h, (e, inl (f, inl (inl (n, k)))))))) = (u, (v, (h, (e, (f, low a.ray.wavelength_nm w.wave k)))))
  at_14 w (inr (u, (v, (h, (e, inl (f, inl (inr (n, k)))))))) = differ 14 15 refl n
  at_14 w (inr (u, (v, (h, (e, inl (f, inr (inl (inl (n, k))))))))) = (u, (v, (h, (e, (f, low a.ray.wavelength_nm w.wave k)))))
  at_14 w (inr (u, (v, (h, (e, inl (f, inr (inl (inr (n, k))))))))) = differ 14 15 refl n
  at_14 w (inr (u, (v, (h, (e, inl (f, inr (inr (n, k)))))))) = differ 14 16 refl n
  at_14 w (inr (u, (v, (h, (e, inr (n, k)))))) = differ 14 16 refl n

  at_15 : StepRefused t S a 15 → BadMedium S a
  at_15 (inl (h, (e, inl (n, k)))) = differ 15 9 refl n
  at_15 (inl (h, (e, inr (inl (n, k))))) = differ 15 12 refl n
  at_15 (inl (h, (e, inr (inr (n, k))))) = differ 15 13 refl n
  at_15 (inr (u, (v, (h, (e, inl (f, inl (inl (n, k)))))))) = differ 15 14 refl n
  at_15 (inr (u, (v, (h, (e, inl (f, inl (inr (n, k)))))))) = (u, (v, (h, (e, (f, inl k)))))
  at_15 (inr (u, (v, (h, (e, inl (f, inr (inl (inl (n, k))))))))) = differ 15 14 refl n
  at_15 (inr (u, (v, (h, (e, inl (f, inr (inl (inr (n, k))))))))) = (u, (v, (h, (e, (f, inr k)))))
  at_15 (inr (u, (v, (h, (e, inl (f, inr (inr (n, k)))))))) = differ 15 16 refl n
  at_15 (inr (u, (v, (h, (e, inr (n, k)))))) = differ 15 16 refl n

  at_16 : StepRefused t S a 16 → BadRay S a
  at_16 (inl (h, (e, inl (n, k)))) = differ 16 9 refl n
  at_16 (inl (h, (e, inr (inl (n, k))))) = differ 16 12 refl n
  at_16 (inl (h, (e, inr (inr (n, k))))) = differ 16 13 refl n
  at_16 (inr (u, (v, (h, (e, inl (f, inl (inl (n, k)))))))) = differ 16 14 refl n
  at_16 (inr (u, (v, (h, (e, inl (f, inl (inr (n, k)))))))) = differ 16 15 refl n
  at_16 (inr (u, (v, (h, (e, inl (f, inr (inl (inl (n, k))))))))) = differ 16 14 refl n
  at_16 (inr (u, (v, (h, (e, inl (f, inr (inl (inr (n, k))))))))) = differ 16 15 refl n
  at_16 (inr (u, (v, (h, (e, inl (f, inr (inr (n, k)))))))) = inl (u, (v, (h, (e, (f, k)))))
  at_16 (inr (u, (v, (h, (e, inr (n, k)))))) = inr (u, (v, (h, (e, k))))

-- ---- of a tracing

-- a tracing that is refused in its run passed the checks
ran : (B : Batch) (s : Memory) (n place : ℕ) (t : Memory) → is_early n ≡ false → (trace_rays_of B s).outcome ≡ refused n place t → check_batch B s ≡ passed tt
unfolding trace_rays_of
ran B s n place t late x = go (check_batch B s) refl x
  where
    go : (c : Checked Unit) → check_batch B s ≡ c → (trace_after c s (run_on record_of s.detectors B s)).outcome ≡ refused n place t → check_batch B s ≡ passed tt
    go (passed tt) e x = e
    go (refused_at k at) e x = absurd (clash (sym (check_refuses B s k at e) ∙ ap is_early (ap number_in x) ∙ late))

only : (B : Batch) (s : Memory) (n : ℕ) (C : Memory → Scene → ActiveRay → Type 0) → is_early n ≡ false
    → ((t : Memory) (a : ActiveRay) → Admitted a → StepRefused t (scene_in B s.detectors) a n → C t (scene_in B s.detectors) a) → Only B s n C
only B s n C late w place t x = go (trace_refuses B s n place t x)
  where
    go : (check_batch B s ≡ refused_at n place) ⊎ RunRefused B s n place t → Reached B s place t (C t (scene_in B s.detectors))
    go (inl e) = absurd (clash (sym (check_refuses B s n place e) ∙ late))
    go (inr (j, (p, (r, (l, (at, c)))))) =
        let f : Admitted (next_ray (rays_in B) p) =
        subst (λ (x : Run Memory). (is_left x.progress ≡ true → Admitted (next_ray (rays_in B) x.progress))) r (trace_admitted B s (ran B s n place t late x) j) l in
        (j, (p, (r, (l, (at, w t _ f c)))))

pub refusals : Refusals
refusals B s = (
  only B s 12 ListFull refl (λ (t : Memory) (a : ActiveRay) (w : Admitted a). at_12 t (scene_in B s.detectors) a),
  only B s 13 CountFull refl (λ (t : Memory) (a : ActiveRay) (w : Admitted a). at_13 t (scene_in B s.detectors) a),
  only B s 14 (λ (t : Memory). BadWavelength) refl (λ (t : Memory) (a : ActiveRay) (w : Admitted a). at_14 t (scene_in B s.detectors) a w),
  only B s 15 (λ (t : Memory). BadMedium) refl (λ (t : Memory) (a : ActiveRay) (w : Admitted a). at_15 t (scene_in B s.detectors) a),
  only B s 16 (λ (t : Memory). BadRay) refl (λ (t : Memory) (a : ActiveRay) (w : Admitted a). at_16 t (scene_in B s.detectors) a),
)

-- ---- no tracing is refused by 0

pub never_0 : (B : Batch) (s : Memory) (place : ℕ) (t : Memory) → (trace_rays_of B s).outcome ≡ refused 0 place t → ⊥
never_0 B s place t x = go (trace_refuses B s 0 place t x)
  where
    go : (check_batch B s ≡ refused_at 0 place) ⊎ RunRefused B s 0 place t → ⊥
    go (inl e) = clash (sym (check_refuses B s 0 place e))
    go (inr (j, (q, (e, (l, (at, c)))))) = at_0 t (scene_in B s.detectors) _ c
