-- What a step makes of a ray: which rays come of it, and when. Assumes nothing.
use Rattle.std.specs.Prelude.{Option, None, Some, IfSome}
use Prim.Native.Nat.{ℕ, zero, suc, ◌≤◌, ◌<◌, ◌+◌, ◌-◌}
use mathlib.Core.Path.{◌≡◌, refl, ◌∙◌}
use mathlib.Core.Bool.{Bool, true, false, cond}
use mathlib.Core.List.{List}
use native.Mathlib.Omega.{arith}
use lib.Dec.{ltb, leb}
use lib.ListN.{length, set, length-set}
use lib.Ieee.{Float, lt, le, binary64, of_bits}
use borrow.Author.Tests.{leb-false}
use Rattle.error.specs.Refusals.{value}
use Rattle.rays.specs.declared.Ray.{Ray}
use Rattle.scene.specs.declared.SolidNo.{SolidNo}
use Rattle.scene.specs.declared.NonSeqHit.{NonSeqHit}
use Rattle.surface.specs.declared.FresnelInteraction.{FresnelInteraction}
use Rattle.surface.specs.declared.FresnelInteraction.TheVariants.{Total, Split}
use Rattle.media.specs.declared.Media.{Media}
use Rattle.media.specs.Media.{entered_of, left_of, last_place_of, move_down_of, without_place, solid_in, max_media}
use Rattle.step.specs.declared.ActiveRay.{ActiveRay}
use Rattle.step.specs.Rays.{Scene, Step, Meeting, End, ends_of, dim, spent, gone, caught, met, refusing, more_of, reflected_of, transmitted_of}
use Rattle.step.specs.Steps.{beyond_of, parted_by, mirror_from_of, take_step_of}
use Rattle.step.proofs.Ways.{by_tests, by-ahead, by-surface}
use Rattle.report.specs.Report.{is_interaction_of}
use Rattle.theorems_runs.specs.Sums.{is_surface}

pub false_true : {A : Type 0} → false ≡ true → A
false_true q = let z : ◌≡◌ {A = ℕ} 0 1 = cc in absurd (omega arith)

-- by cases on a test, with what the test says
pub pick : {A : Type 0} (P : A → Type 0) (t : Bool) {x y : A} → (t ≡ true → P x) → (t ≡ false → P y) → P (cond t x y)
pick P true f g = f refl
pick P false f g = g refl

-- ---- the media beyond a surface

moved_length : (k i : ℕ) (l : List SolidNo) → length (move_down_of k i l) ≡ length l
unfolding move_down_of
moved_length zero i l = refl
moved_length (suc k) i l = moved_length k (i + 1) (set l i (solid_in l (i + 1))) ∙ length-set l i (solid_in l (i + 1))

-- one solid deeper at most, in a list as long
pub record Deeper (m n : Media) : Type 0 where
  pub depth : n.depth ≤ m.depth + 1
  pub long : length n.list ≡ length m.list

same : (m : Media) → Deeper m m
same m = record { depth = omega arith; long = refl }

without : (m : Media) (o : Option ℕ) → Deeper m (without_place m o)
unfolding without_place
without m (Some i) = record { depth = omega arith; long = moved_length (m.depth - 1 - i) i m.list }
without m None = same m

entered : (m : Media) (s : SolidNo) → Deeper m (entered_of m s)
unfolding entered_of
entered m s =
    pick (Deeper m) (ltb m.depth max_media) (λ q. record { depth = omega arith; long = length-set m.list m.depth s }) (λ q. same m)

left_of_lem : (m : Media) (s : SolidNo) → Deeper m (left_of m s)
unfolding left_of
left_of_lem m s = pick (Deeper m) (leb m.depth max_media) (λ q. without m (last_place_of m.list m.depth s)) (λ q. same m)

beyond : (m : Media) (h : NonSeqHit) → Deeper m (beyond_of m h)
unfolding beyond_of
beyond m h = pick (Deeper m) h.entering (λ q. entered m h.object_id) (λ q. left_of_lem m h.object_id)

-- ---- a step

-- in media one deeper at most, with at most one reflection of each kind more
pub record Later (a c : ActiveRay) : Type 0 where
  pub media : Deeper a.media c.media
  pub reflections : c.reflection_count ≤ a.reflection_count + 1
  pub tirs : c.tir_count ≤ a.tir_count + 1

pub more_most : (n : ℕ) → more_of n ≤ n + 1
unfolding more_of
more_most n = pick (λ (k : ℕ). k ≤ n + 1) (ltb n 4294967295) (λ q. omega arith) (λ q. omega arith)

reflected_later : (t : Bool) (a : ActiveRay) (r : Ray) → Later a (reflected_of t a r)
unfolding reflected_of
reflected_later true a r = record { media = same a.media; reflections = omega arith; tirs = more_most a.tir_count }
reflected_later false a r = record { media = same a.media; reflections = more_most a.reflection_count; tirs = omega arith }

transmitted_later : (a : ActiveRay) (r : Ray) (m : Media) → Deeper a.media m → Later a (transmitted_of a r m)
unfolding transmitted_of
transmitted_later a r m d = record { media = d; reflections = omega arith; tirs = omega arith }

-- a ray that is made has one bounce more and was made at a surface
pub record Born (a : ActiveRay) (e : End) (c : ActiveRay) : Type 0 where
  pub bounces : c.bounce_count ≡ more_of a.bounce_count
  pub surface : is_surface e ≡ true
  pub later : Later a c

-- an interaction is below the limit
pub record Bred (b : ℕ) (a : ActiveRay) (s : Step) : Type 0 where
  pub busy : is_interaction_of s.end ≡ true → a.bounce_count < b
  pub one : IfSome s.reflected (Born a s.end)
  pub two : IfSome s.transmitted (Born a s.end)

ended_bred : (b : ℕ) (a : ActiveRay) (e : End) → (is_interaction_of e ≡ true → a.bounce_count < b) → Bred b a (ends_of e)
ended_bred b a e h = record { busy = h; one = tt; two = tt }

module _ (b : ℕ) (a : ActiveRay) (low : a.bounce_count < b) where
  parted_bred : (threshold : Float) (m : Media) (p : FresnelInteraction) → Deeper a.media m → Bred b a (parted_by threshold a m p)
  unfolding parted_by reflected_of transmitted_of is_surface
  parted_bred threshold m (Total r) d =
      let e : End = (parted_by threshold a m (Total r)).end in
      record {
        busy = λ q. low;
        one =
            pick (λ o. IfSome o (Born a e)) (lt threshold r.energy) (λ q. record { bounces = refl; surface = refl; later = reflected_later true a r })
            (λ q. tt);
        two = tt;
      }
  parted_bred threshold m (Split r t) d =
      let e : End = (parted_by threshold a m (Split r t)).end in
      record {
        busy = λ q. low;
        one =
            pick (λ o. IfSome o (Born a e)) (lt threshold r.energy) (λ q. record { bounces = refl; surface = refl; later = reflected_later (le t.energy (of_bits binary64 0)) a r })
            (λ q. tt);
        two =
            pick (λ o. IfSome o (Born a e)) (lt threshold t.energy) (λ q. record { bounces = refl; surface = refl; later = transmitted_later a t m d })
            (λ q. tt);
      }

  mirrored_bred : (m : Meeting) (r : Ray) → Bred b a (mirror_from_of a m (value r))
  unfolding mirror_from_of reflected_of is_surface
  mirrored_bred m r =
      record { busy = λ q. low; one = record { bounces = refl; surface = refl; later = reflected_later false a r }; two = tt }

pub bred : (S : Scene) (a : ActiveRay) → Bred S.optics.config.max_bounces a (take_step_of S a)
unfolding is_interaction_of
bred S a =
    let b : ℕ = S.optics.config.max_bounces in
    let Q : Step → Type 0 = Bred b a in
    by_tests Q a S (λ e. ended_bred b a dim (λ z. false_true z)) (λ e. ended_bred b a spent (λ z. false_true z))
    (λ e f.
    let low : a.bounce_count < b = leb-false b a.bounce_count f in
    by-ahead Q a S (λ s q g. ended_bred b a _ (λ z. low))
    (λ h q.
    by-surface Q a S.optics h (λ m. ended_bred b a (met m) (λ z. low)) (λ n g. ended_bred b a (refusing n) (λ z. low))
    (λ power m r g. mirrored_bred b a low m r) (λ n1 n2 p g. parted_bred b a low _ (beyond_of a.media h) p (beyond a.media h)))
    (λ q. ended_bred b a gone (λ z. low)))

-- a ray made at a surface is made in an interaction
pub surface_busy : (e : End) → is_surface e ≡ true → is_interaction_of e ≡ true
unfolding is_surface is_interaction_of
surface_busy dim q = q
surface_busy spent q = q
surface_busy gone q = refl
surface_busy (caught h) q = refl
surface_busy (met m) q = refl
surface_busy (refusing n) q = refl
