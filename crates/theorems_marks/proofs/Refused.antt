-- A run refuses with 12 to 16 only where their conditions hold. Assumes nothing.
use Prim.Native.Nat.{ℕ, zero, suc}
use mathlib.Core.Path.{◌≡◌, refl, sym, ap, ◌∙◌, subst}
use mathlib.Core.Logic.{◌⊎◌, inl, inr}
use mathlib.Core.Bool.{Bool, true, false, cond, ◌||◌}
use lib.Dec.{leb, eqb}
use lib.Ieee.{Float, binary64, sub, mul, div, lt, le}
use lib.ListN.{get_or}
use borrow.Author.Tests.{leb-true, eqb-true}
use Rattle.doubles.proofs.Floats.{clash}
use Rattle.doubles.specs.Doubles.{is_finite_of, #0, #1}
use Rattle.doubles.specs.Root.{sqrt_of}
use Rattle.error.specs.Refusals.{Answer, value, refusal, Checked, passed, refused_at}
use Rattle.rays.specs.declared.vector.Vec3.{Vec3}
use Rattle.rays.specs.declared.Ray.{Ray}
use Rattle.rays.specs.Rays.{is_finite_ray_of}
use Rattle.material.specs.declared.OpticalMedium.{OpticalMedium}
use Rattle.material.specs.declared.OpticalMedium.TheVariants.{Air, Constant, Sellmeier1, Schott}
use Rattle.material.specs.Media.{square_um_of, sellmeier_of, schott_of, constant_of, root_of_square_of, index_at_of, refractive_index_of}
use Rattle.scene.specs.declared.NonSeqHit.{NonSeqHit}
use Rattle.surface.specs.Fresnel.{leaving_of, radicand_of, reflected_direction_of, refracted_direction_of, total_of, both_of, refract_of, compute_snell_fresnel_interaction_of, mirrored_of}
use Rattle.surface.specs.declared.FresnelInteraction.{FresnelInteraction}
use Rattle.surface.specs.declared.FresnelInteraction.TheVariants.{Total, Split}
use Rattle.media.specs.declared.Media.{Media}
use Rattle.detector.specs.declared.DetectorHit.{DetectorHit}
use Rattle.memory.specs.Memory.{Memory, Outcome, done, refused, memory_left, judged, put_of, record_of, has_pixel, capacity, cell_in, hit_detector, written_at}
use Rattle.step.specs.declared.ActiveRay.{ActiveRay}
use Rattle.step.specs.Rays.{Optics, Scene, Step, Meeting, End, dim, spent, gone, caught, met, refusing}
use Rattle.step.specs.Steps.{index_in_of, parted_by, mirror_from_of, surface_of, caught_by_of, take_step_of}
use Rattle.step.proofs.Ways.{Refuses, by_tests, by-ahead, by-surface}
use Rattle.report.specs.declared.NonSeqTraceReport.{NonSeqTraceReport}
use Rattle.run.specs.declared.Progress.{Progress}
use Rattle.run.specs.Stack.{taken_from}
use Rattle.run.specs.Run.{Run, hit_in_of, refusal_in_of, put_from, settle_with, is_left, and_then, step_on, drive}
use Rattle.trace.specs.Trace.{Batch, rays_in, scene_in, all_steps, start_of, run_on, check_batch, trace_after, trace_rays_of}
use Rattle.theorems_marks.specs.Marks.{sent_ray}
use Rattle.theorems_marks.specs.Refused.{BadSquare, BadIndex, IndexRefused, cosine_at, root_at, share_at, mirrored_ray, ClearRefused, HitRefused, SurfaceRefused, RayRefused, StepRefused, Refusing, RunRefused}
use Rattle.theorems_marks.proofs.Sent.{leaving_is}
use Rattle.detector.specs.Pixels.{max_count}

-- ---- what an outcome says

abbrev is_done : {M : Type 0} → Outcome M → Bool
is_done (done m) = true
is_done (refused n place m) = false

abbrev pub number_in : {M : Type 0} → Outcome M → ℕ
number_in (done m) = 0
number_in (refused n place m) = n

abbrev place_in : {M : Type 0} → Outcome M → ℕ
place_in (done m) = 0
place_in (refused n place m) = place

done_refused : {M : Type 0} {m s : M} {n place : ℕ} → done m ≡ refused n place s → ⊥
done_refused e = clash (ap is_done e)

-- ---- a refused run is refused at one of its steps

module _ {M : Type 0} (put : M → DetectorHit → Outcome M) (S : Scene) (given : ℕ → ActiveRay) where
  pub refused_step : (k : ℕ) (m : M) (p : Progress) (n place : ℕ) (s : M) → (drive put S given k m p).outcome ≡ refused n place s → Refusing put S given k m p n place s
  unfolding drive
  refused_step zero m p n place s x = absurd (done_refused x)
  refused_step (suc k) m p n place s x = go (λ (m₁ : M) (p₁ : Progress). refused_step k m₁ p₁ n place s) (is_left p) refl x
    where
      next : Progress
      next = (step_on put S given m p).progress

      stop : Run M
      stop = record { outcome = done m; progress = p }

      on : ((m₁ : M) (p₁ : Progress) → (drive put S given k m₁ p₁).outcome ≡ refused n place s → Refusing put S given k m₁ p₁ n place s) → is_left p ≡ true
          → (o : Outcome M) → (step_on put S given m p).outcome ≡ o → (and_then (drive put S given k) o next).outcome ≡ refused n place s → Refusing put S given (suc k) m p n place s
      on rest e (done m₁) f x =
          let (j, (m₀, (p₀, (r, (l, (y, w)))))) = rest m₁ next x in
          (suc j, (m₀, (p₀, (rw (e, f) r, (l, (y, rw (e, f) w))))))
      on rest e (refused n₁ place₁ m₁) f x = (zero, (m, (p, (refl, (e, (f ∙ x, rw (e, f)))))))

      go : ((m₁ : M) (p₁ : Progress) → (drive put S given k m₁ p₁).outcome ≡ refused n place s → Refusing put S given k m₁ p₁ n place s) → (b : Bool) → is_left p ≡ b
          → (cond b (and_then (drive put S given k) (step_on put S given m p).outcome next) stop).outcome ≡ refused n place s → Refusing put S given (suc k) m p n place s
      go rest true e x = on rest e (step_on put S given m p).outcome refl x
      go rest false e x = absurd (done_refused x)

-- ---- a hit

pub record_refuses : (s : Memory) (h : DetectorHit) (n place : ℕ) (t : Memory) → record_of s h ≡ refused n place t → HitRefused s h n
unfolding record_of put_of judged
record_refuses s h n place t x =
    go (has_pixel s h) (leb (capacity s) s.used) (eqb (get_or s.hits (cell_in s.detectors.list h) 0) max_count) (eqb (hit_detector s h).total_rays_hit max_count) refl refl refl refl x
  where
    go : (a b c d : Bool) → has_pixel s h ≡ a → leb (capacity s) s.used ≡ b → eqb (get_or s.hits (cell_in s.detectors.list h) 0) max_count ≡ c → eqb (hit_detector s h).total_rays_hit max_count ≡ d
        → cond a (cond b (refused 12 0 s) (cond (c || d) (refused 13 0 s) (done (written_at s (cell_in s.detectors.list h) h)))) (refused 9 0 s) ≡ refused n place t → HitRefused s h n
    go false b c d ea eb ec ed x = inl (sym (ap number_in x), ea)
    go true true c d ea eb ec ed x = inr (inl (sym (ap number_in x), leb-true _ _ eb))
    go true false true d ea eb ec ed x = inr (inr (sym (ap number_in x), inl (eqb-true _ _ ec)))
    go true false false true ea eb ec ed x = inr (inr (sym (ap number_in x), inr (eqb-true _ _ ed)))
    go true false false false ea eb ec ed x = absurd (done_refused x)

-- ---- an index, a ray

abbrev is_value : {A : Type 0} → Answer A → Bool
is_value (value a) = true
is_value (refusal n) = false

abbrev answer_number : {A : Type 0} → Answer A → ℕ
answer_number (value a) = 0
answer_number (refusal n) = n

value_refusal : {A : Type 0} {a : A} {n : ℕ} → value a ≡ refusal n → ⊥
value_refusal e = clash (ap is_value e)

same_number : {A : Type 0} (k n : ℕ) → ◌≡◌ {A = Answer A} (refusal k) (refusal n) → n ≡ k
same_number k n x = sym (ap answer_number x)

constant_refuses : (k : Float) (n : ℕ) → constant_of k ≡ refusal n → (n ≡ 15) × ((lt k #1 ≡ true) ⊎ (is_finite_of k ≡ false))
unfolding constant_of
constant_refuses k n x = go (lt k #1) (is_finite_of k) refl refl x
  where
    go : (a b : Bool) → lt k #1 ≡ a → is_finite_of k ≡ b → cond a (refusal 15) (cond b (value k) (refusal 15)) ≡ refusal n → (n ≡ 15) × ((lt k #1 ≡ true) ⊎ (is_finite_of k ≡ false))
    go true b e f x = (same_number 15 n x, inl e)
    go false true e f x = absurd (value_refusal x)
    go false false e f x = (same_number 15 n x, inr f)

square_refuses : (k : Float) (n : ℕ) → root_of_square_of k ≡ refusal n → (n ≡ 15) × BadSquare k
unfolding root_of_square_of
square_refuses k n x = go (le k #0) (is_finite_of k) refl refl x
  where
    go : (a b : Bool) → le k #0 ≡ a → is_finite_of k ≡ b → cond a (refusal 15) (cond b (value (sqrt_of k)) (refusal 15)) ≡ refusal n → (n ≡ 15) × BadSquare k
    go true b e f x = (same_number 15 n x, inl e)
    go false true e f x = absurd (value_refusal x)
    go false false e f x = (same_number 15 n x, inr f)

pub index_at_refuses : (m : OpticalMedium) (w : Float) (n : ℕ) → index_at_of m w ≡ refusal n → (n ≡ 15) × BadIndex m w
unfolding index_at_of
index_at_refuses Air w n x = absurd (value_refusal x)
index_at_refuses (Constant k) w n x = constant_refuses k n x
index_at_refuses (Sellmeier1 b1 c1 b2 c2 b3 c3) w n x = square_refuses (sellmeier_of (square_um_of w) b1 c1 b2 c2 b3 c3) n x
index_at_refuses (Schott a0 a1 a2 a3 a4 a5) w n x = square_refuses (schott_of (square_um_of w) a0 a1 a2 a3 a4 a5) n x

pub index_refuses : (m : OpticalMedium) (w : Float) (n : ℕ) → refractive_index_of m w ≡ refusal n → IndexRefused m w n
unfolding refractive_index_of
index_refuses m w n x = go (le w #0) (is_finite_of w) refl refl x
  where
    go : (a b : Bool) → le w #0 ≡ a → is_finite_of w ≡ b → cond a (refusal 14) (cond b (index_at_of m w) (refusal 14)) ≡ refusal n → IndexRefused m w n
    go true b e f x = inl (same_number 14 n x, inl e)
    go false true e f x = inr (index_at_refuses m w n x)
    go false false e f x = inl (same_number 14 n x, inr f)

leaving_refuses : (r : Ray) (p d : Vec3) (power : Float) (n : ℕ) → leaving_of r p d power ≡ refusal n → (n ≡ 16) × (is_finite_ray_of (sent_ray r p d power) ≡ false)
leaving_refuses r p d power n x = go (is_finite_ray_of (sent_ray r p d power)) refl (sym (leaving_is r p d power) ∙ x)
  where
    go : (b : Bool) → is_finite_ray_of (sent_ray r p d power) ≡ b → cond b (value (sent_ray r p d power)) (refusal 16) ≡ refusal n → (n ≡ 16) × (is_finite_ray_of (sent_ray r p d power) ≡ false)
    go true e x = absurd (value_refusal x)
    go false e x = (same_number 16 n x, e)

total_refuses : (x : Answer Ray) (n : ℕ) → total_of x ≡ refusal n → x ≡ refusal n
total_refuses (value r) n e = absurd (value_refusal e)
total_refuses (refusal k) n e = ap refusal (sym (same_number k n e))

both_refuses : (x y : Answer Ray) (n : ℕ) → both_of x y ≡ refusal n → (x ≡ refusal n) ⊎ (y ≡ refusal n)
both_refuses (value r) (value t) n e = absurd (value_refusal e)
both_refuses (value r) (refusal k) n e = inr (ap refusal (sym (same_number k n e)))
both_refuses (refusal k) y n e = inl (ap refusal (sym (same_number k n e)))

pub snell_refuses : (r : Ray) (h : NonSeqHit) (n1 n2 power : Float) (n : ℕ) → compute_snell_fresnel_interaction_of r h n1 n2 power ≡ refusal n → (n ≡ 16) × ClearRefused r h n1 n2 power
unfolding compute_snell_fresnel_interaction_of refract_of
snell_refuses r h n1 n2 power n x = go (le (radicand_of (div binary64 n1 n2) (cosine_at r h)) #0) refl x
  where
    one : Answer Ray
    one = leaving_of r h.point (reflected_direction_of r.direction h.normal (cosine_at r h)) power

    first : Answer Ray
    first = leaving_of r h.point (reflected_direction_of r.direction h.normal (cosine_at r h)) (mul binary64 power (share_at r h n1 n2))

    second : Answer Ray
    second = leaving_of r h.point (refracted_direction_of r.direction h.normal (div binary64 n1 n2) (cosine_at r h) (root_at r h n1 n2)) (mul binary64 power (sub binary64 #1 (share_at r h n1 n2)))

    two : le (radicand_of (div binary64 n1 n2) (cosine_at r h)) #0 ≡ false → (first ≡ refusal n) ⊎ (second ≡ refusal n) → (n ≡ 16) × ClearRefused r h n1 n2 power
    two e (inl x) = let l = leaving_refuses _ _ _ _ n x in (l.0, inr (e, inl l.1))
    two e (inr x) = let l = leaving_refuses _ _ _ _ n x in (l.0, inr (e, inr l.1))

    go : (b : Bool) → le (radicand_of (div binary64 n1 n2) (cosine_at r h)) #0 ≡ b → cond b (total_of one) (both_of first second) ≡ refusal n → (n ≡ 16) × ClearRefused r h n1 n2 power
    go true e x = let l = leaving_refuses _ _ _ _ n (total_refuses one n x) in (l.0, inl (e, l.1))
    go false e x = two e (both_refuses first second n x)

pub mirror_refuses : (r : Ray) (h : NonSeqHit) (power : Float) (n : ℕ) → mirrored_of r h power ≡ refusal n → (n ≡ 16) × (is_finite_ray_of (mirrored_ray r h power) ≡ false)
unfolding mirrored_of
mirror_refuses r h power n x = leaving_refuses r h.point _ power n x

-- ---- what becomes of a ray

abbrev refusal_no : End → ℕ
refusal_no dim = 0
refusal_no spent = 0
refusal_no gone = 0
refusal_no (caught h) = 0
refusal_no (met m) = 0
refusal_no (refusing n) = n

abbrev is_refusing : End → Bool
is_refusing dim = false
is_refusing spent = false
is_refusing gone = false
is_refusing (caught h) = false
is_refusing (met m) = false
is_refusing (refusing n) = true

-- an end that is no refusal
other : {n : ℕ} (e : End) → is_refusing e ≡ false → e ≡ refusing n → ⊥
other e f x = clash (sym (ap is_refusing x) ∙ f)

module _ (O : Optics) (a : ActiveRay) (h : NonSeqHit) (n : ℕ) where
  why_refuses : Refuses O a h n → SurfaceRefused O a h n
  unfolding index_in_of
  why_refuses (inl (s, inl e)) = inl (s, inl (index_refuses _ _ n e))
  why_refuses (inl (s, inr (inl e))) = inl (s, inr (inl (index_refuses _ _ n e)))
  why_refuses (inl (s, inr (inr (n1, (n2, (e, (f, g))))))) =
      let l = snell_refuses a.ray h n1 n2 a.ray.energy n g in
      inl (s, inr (inr (l.0, (n1, (n2, (e, (f, l.1)))))))
  why_refuses (inr (rho, (s, (e, g)))) =
      let l = mirror_refuses a.ray h _ n g in
      inr (l.0, (rho, (s, (e, l.1))))

  -- a parting and a mirror's ray are no refusals
  parted_ends : (threshold : Float) (m : Media) (p : FresnelInteraction) → (parted_by threshold a m p).end ≡ refusing n → SurfaceRefused O a h n
  unfolding parted_by
  parted_ends threshold m (Total r) x = absurd (other _ refl x)
  parted_ends threshold m (Split r t) x = absurd (other _ refl x)

  mirrored_ends : (m : Meeting) (r : Ray) → (mirror_from_of a m (value r)).end ≡ refusing n → SurfaceRefused O a h n
  unfolding mirror_from_of
  mirrored_ends m r x = absurd (other _ refl x)

  pub surface_refuses : (surface_of O a h).end ≡ refusing n → SurfaceRefused O a h n
  surface_refuses =
      by-surface (λ (s : Step). (s.end ≡ refusing n → SurfaceRefused O a h n)) a O h (λ m x. absurd (other (met m) refl x))
      (λ k g x. why_refuses (subst (Refuses O a h) (ap refusal_no x) g))
      (λ power m r g. mirrored_ends m r) (λ n1 n2 p g. parted_ends _ _ p)

pub ray_refuses : (S : Scene) (a : ActiveRay) (n : ℕ) → (take_step_of S a).end ≡ refusing n → RayRefused S a n
ray_refuses S a n =
    let Q : Step → Type 0 = λ s. (s.end ≡ refusing n → RayRefused S a n) in
    by_tests Q a S (λ e x. absurd (other dim refl x)) (λ e x. absurd (other spent refl x))
    (λ e f.
    by-ahead Q a S (λ s q z x. absurd (other (caught (caught_by_of a s)) refl x)) (λ h q x. (e, (f, (h, (q, surface_refuses S.optics a h n x)))))
    (λ q x. absurd (other gone refl x)))

-- ---- a step

-- a refused hit leaves the memory as it was
pub record_leaves : (s : Memory) (h : DetectorHit) (n place : ℕ) (t : Memory) → record_of s h ≡ refused n place t → s ≡ t
unfolding record_of put_of judged
record_leaves s h n place t x =
    go (has_pixel s h) (leb (capacity s) s.used) (eqb (get_or s.hits (cell_in s.detectors.list h) 0) max_count || eqb (hit_detector s h).total_rays_hit max_count) x
  where
    go : (a b c : Bool) → cond a (cond b (refused 12 0 s) (cond c (refused 13 0 s) (done (written_at s (cell_in s.detectors.list h) h)))) (refused 9 0 s) ≡ refused n place t → s ≡ t
    go false b c x = ap memory_left x
    go true true c x = ap memory_left x
    go true false true x = ap memory_left x
    go true false false x = absurd (done_refused x)

module _ {M : Type 0} (put : M → DetectorHit → Outcome M) where
  -- the hit that it brings is refused, or its end is a refusal, which leaves the memory
  abbrev pub Settling : M → End → ℕ → M → Type 0
  Settling m e n s = ((h : DetectorHit) × ((e ≡ caught h) × ((at : ℕ) × (put m h ≡ refused n at s)))) ⊎ ((e ≡ refusing n) × (m ≡ s))

  pub settle_refuses : (m : M) (at : ℕ) (found after : NonSeqTraceReport) (e : End) (n place : ℕ) (s : M)
      → (settle_with put m at found after (refusal_in_of e at) (hit_in_of e)).outcome ≡ refused n place s → (place ≡ at) × Settling m e n s
  unfolding refusal_in_of hit_in_of
  settle_refuses m at found after dim n place s x = absurd (done_refused x)
  settle_refuses m at found after spent n place s x = absurd (done_refused x)
  settle_refuses m at found after gone n place s x = absurd (done_refused x)
  settle_refuses m at found after (met x) n place s y = absurd (done_refused y)
  settle_refuses m at found after (refusing k) n place s x = (sym (ap place_in x), inr (ap refusing (ap number_in x), ap memory_left x))
  settle_refuses m at found after (caught h) n place s x = go (put m h) refl x
    where
      go : (o : Outcome M) → put m h ≡ o → (put_from at found after o).outcome ≡ refused n place s → (place ≡ at) × Settling m (caught h) n s
      go (done m₁) e x = absurd (done_refused x)
      go (refused k a m₁) e x = (sym (ap place_in x), inl (h, (refl, (a, rw (ap number_in x, ap memory_left x) at e))))

  pub step_refuses : (S : Scene) (given : ℕ → ActiveRay) (m : M) (p : Progress) (n place : ℕ) (s : M) → (step_on put S given m p).outcome ≡ refused n place s
      → (place ≡ (taken_from given p.stack p.left).left) × Settling m (take_step_of S (taken_from given p.stack p.left).ray).end n s
  unfolding step_on
  step_refuses S given m p n place s x = settle_refuses m _ _ _ _ n place s x

-- ---- all of it: a run into the lent memory

why : (S : Scene) (a : ActiveRay) (m : Memory) (n : ℕ) (t : Memory) → Settling record_of m (take_step_of S a).end n t → (m ≡ t) × StepRefused t S a n
why S a m n t (inl (h, (e, (at, x)))) =
    let l = record_leaves m h n at t x in
    (l, inl (h, (e, subst (λ (s : Memory). HitRefused s h n) l (record_refuses m h n at t x))))
why S a m n t (inr (e, l)) = (l, inr (ray_refuses S a n e))

left_is : (m t : Memory) (p : Progress) → m ≡ t → ◌≡◌ {A = Run Memory} (record { outcome = done m; progress = p }) (record { outcome = done t; progress = p })
left_is m t p e = rw e

pub run_refuses : (B : Batch) (s : Memory) (n place : ℕ) (t : Memory) → (run_on record_of s.detectors B s).outcome ≡ refused n place t → RunRefused B s n place t
unfolding run_on
run_refuses B s n place t x =
    let (j, (m, (p, (r, (l, (y, w)))))) = refused_step record_of (scene_in B s.detectors) (rays_in B) all_steps s (start_of (rays_in B) B.rays) n place t x in
    let (at, z) = step_refuses record_of (scene_in B s.detectors) (rays_in B) m p n place t y in
    let (e, c) = why (scene_in B s.detectors) (taken_from (rays_in B) p.stack p.left).ray m n t z in
    (j, (p, (r ∙ left_is m t p e, (l, (at, c)))))

-- a tracing is refused by a check before the run, or so
pub trace_refuses : (B : Batch) (s : Memory) (n place : ℕ) (t : Memory) → (trace_rays_of B s).outcome ≡ refused n place t → (check_batch B s ≡ refused_at n place) ⊎ RunRefused B s n place t
unfolding trace_rays_of
trace_refuses B s n place t x = go (check_batch B s) refl x
  where
    go : (c : Checked Unit) → check_batch B s ≡ c → (trace_after c s (run_on record_of s.detectors B s)).outcome ≡ refused n place t → (check_batch B s ≡ refused_at n place) ⊎ RunRefused B s n place t
    go (passed u) e x = inr (run_refuses B s n place t x)
    go (refused_at k at) e x = inl (rw (e, ap number_in x, ap place_in x))
