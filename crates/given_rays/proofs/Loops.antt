-- The turns of the loops over media and over rays. Assumes nothing.
use Prim.Native.Nat.{ℕ, suc, ◌≤◌, ◌<◌, ◌-◌, ◌+◌}
use mathlib.Core.Path.{◌≡◌}
use mathlib.Core.Bool.{Bool, true, false}
use mathlib.Core.List.{List}
use native.Mathlib.Nat.{sub-zero}
use native.Mathlib.Omega.{arith}
use lib.Ieee.{Float, binary64, of_bits, add}
use borrow.Author.Tests.{lt-ltb, le-ltb}
use Rattle.std.specs.Prelude.{Result, Ok, Err}
use Rattle.error.specs.declared.Refusal.{Refusal}
use Rattle.error.specs.Refusals.{number_of, Checked, passed, refused_at, after, as_checked}
use Rattle.scene.specs.declared.SolidNo.{SolidNo}
use Rattle.media.specs.Media.{solid_in}
use Rattle.step.specs.declared.ActiveRay.{ActiveRay}
use Rattle.given_rays.specs.Given.{all_solids_of, check_ray_of, check_rays_of, launched_from, launched_of}

left_one : (n i : ℕ) → i < n → n - i ≡ suc (n - (i + 1))
left_one n i h = omega arith

left_none : (n i : ℕ) → n ≤ i → n - i ≡ 0
left_none n i h = omega arith

module _ (l : List SolidNo) (s : ℕ) where
  pub solids_start : (n : ℕ) → all_solids_of l s (n - 0) 0 ≡ all_solids_of l s n 0
  solids_start n = rw sub-zero

  module _ (n i : ℕ) (z : Bool) where
    pub solids-again : i < n → (solid_in l i).0 < s → all_solids_of l s (n - i) i ≡ z → all_solids_of l s (n - (i + 1)) (i + 1) ≡ z
    unfolding all_solids_of
    solids-again h e p = rw (lt-ltb _ _ e) at (rw (left_one n i h) at p)

    pub solids-not : i < n → s ≤ (solid_in l i).0 → all_solids_of l s (n - i) i ≡ z → false ≡ z
    unfolding all_solids_of
    solids-not h e p = rw (le-ltb _ _ e) at (rw (left_one n i h) at p)

    pub solids-end : n ≤ i → all_solids_of l s (n - i) i ≡ z → true ≡ z
    unfolding all_solids_of
    solids-end h p = rw (left_none n i h) at p

module _ (given : ℕ → ActiveRay) where
  pub launch_start : (n : ℕ) → launched_from given (n - 0) 0 (of_bits binary64 0) ≡ launched_of given n
  unfolding launched_of
  launch_start n = rw sub-zero

  module _ (n i : ℕ) (sum z : Float) where
    pub launch-again : (a : ActiveRay) → i < n → a ≡ given i → launched_from given (n - i) i sum ≡ z → launched_from given (n - (i + 1)) (i + 1) (add binary64 sum a.ray.energy) ≡ z
    unfolding launched_from
    launch-again a h e p = rw e (rw (left_one n i h) at p)

    pub launch-end : n ≤ i → launched_from given (n - i) i sum ≡ z → sum ≡ z
    unfolding launched_from
    launch-end h p = rw (left_none n i h) at p

  module _ (s : ℕ) where
    pub rays-start : (n : ℕ) → check_rays_of given s (n - 0) 0 ≡ check_rays_of given s n 0
    rays-start n = rw sub-zero

    module _ (n i : ℕ) (z : Checked Unit) where
      pub rays-end : n ≤ i → check_rays_of given s (n - i) i ≡ z → passed tt ≡ z
      unfolding check_rays_of
      rays-end h p = rw (left_none n i h) at p

      module _ (a : ActiveRay) (r : Result Unit Refusal) (h : i < n) (e : a ≡ given i) (said : as_checked r ≡ check_ray_of a s i) (p : check_rays_of given s (n - i) i ≡ z) where
        unfolded : after (as_checked r) (check_rays_of given s (n - (i + 1)) (i + 1)) ≡ z
        unfolding check_rays_of
        unfolded = rw (said, e) (rw (left_one n i h) at p)

        pub rays-again : r ≡ Ok tt → check_rays_of given s (n - (i + 1)) (i + 1) ≡ z
        rays-again k = rw k at unfolded

        pub rays-refused : (x : Refusal) → r ≡ Err x → refused_at (number_of x.error) x.place ≡ z
        rays-refused x k = rw k at unfolded
