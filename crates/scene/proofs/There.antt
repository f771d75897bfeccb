-- After the check every solid of the count is there, and refusals in small scenes. Assumes nothing.
use Rattle.std.specs.Prelude.{Some}
use Prim.Native.Nat.{ℕ, zero, suc, ◌+◌, ◌*◌, ◌≤◌, ◌<◌}
use mathlib.Core.Path.{◌≡◌, refl, sym, ap, subst}
use mathlib.Core.Bool.{Bool, true, false, cond, ◌&&◌}
use mathlib.Core.List.{List}
use native.Mathlib.Omega.{arith}
use native.Mathlib.Decide.{dec_lt}
use lib.Dec.{T, leb, eqb, eqb→eq}
use lib.Ieee.{Float}
use lib.ListN.{length, get_or}
use borrow.Author.Tests.{le-leb, leb-true}
use Rattle.doubles.proofs.Floats.{clash, and_left, and_right}
use Rattle.error.specs.Refusals.{Checked, passed, refused_at}
use Rattle.material.specs.declared.OpticalMedium.{OpticalMedium}
use Rattle.material.specs.declared.SurfaceFinish.{SurfaceFinish}
use Rattle.material.specs.Media.{last_finish, numbered_finish_of, last_medium, numbered_medium_of}
use Rattle.material.proofs.Numbers.{finish_there, medium_there}
use Rattle.geometry.specs.declared.PrimitiveGeometry.{PrimitiveGeometry}
use Rattle.geometry.specs.Shapes.{last_shape}
use Rattle.geometry.proofs.Numbers.{shape_there}
use Rattle.scene.specs.Solids.{shape_in_of, solid_with, object_with, read_object_of, holds, object_at_of, tags_fit_of, check_tags_of, check_solids_of}
use Rattle.scene.proofs.Checks.{fit_at}

equal : {a b : ℕ} → eqb a b ≡ true → a ≡ b
equal {a} {b} e = eqb→eq a b (subst T (sym e) tt)

abbrev is_passed : Checked Unit → Bool
is_passed (passed u) = true
is_passed (refused_at n p) = false

-- of n solids from i on that pass, each fits
tags_passed : (k : List ℕ) (n i j : ℕ) → check_tags_of k n i ≡ passed tt → i ≤ j → j < i + n → fit_at k j ≡ true
unfolding check_tags_of
tags_passed k zero i j e p q = absurd (none_left i j p q)
  where
    none_left : (i j : ℕ) → i ≤ j → j < i + 0 → ⊥
    none_left i j p q = omega arith
tags_passed k (suc n) i j e p q =
    first (λ (g : check_tags_of k n (i + 1) ≡ passed tt) (l : i + 1 ≤ j) (m : j < i + 1 + n). tags_passed k n (i + 1) j g l m) (fit_at k i) refl e (dec_lt i j)
  where
    first : (check_tags_of k n (i + 1) ≡ passed tt → i + 1 ≤ j → j < i + 1 + n → fit_at k j ≡ true) → (b : Bool) → fit_at k i ≡ b → cond b (check_tags_of k n (i + 1)) (refused_at 17 i) ≡ passed tt → Dec (i < j) → fit_at k j ≡ true
    first rest false f g d = absurd (clash (sym (ap is_passed g)))
    first rest true f g (yes l) = rest g (omega arith) (omega arith)
    first rest true f g (no l) = subst (λ (m : ℕ). fit_at k m ≡ true) (same i j p l) f
      where
        same : (i j : ℕ) → i ≤ j → (i < j → ⊥) → i ≡ j
        same i j p l = omega (arith, l)

-- lists that pass have the lengths of n solids
lengths : (x : List Float) (k : List ℕ) (n : ℕ) → check_solids_of x k n ≡ passed tt → ((length x ≡ n * 42) × (length k ≡ n * 4)) × (check_tags_of k n 0 ≡ passed tt)
unfolding check_solids_of
lengths x k n e = judged (eqb (length x) (n * 42)) (eqb (length k) (n * 4)) refl refl e
  where
    judged : (a b : Bool) → eqb (length x) (n * 42) ≡ a → eqb (length k) (n * 4) ≡ b → cond (a && b) (check_tags_of k n 0) (refused_at 17 0) ≡ passed tt → ((length x ≡ n * 42) × (length k ≡ n * 4)) × (check_tags_of k n 0 ≡ passed tt)
    judged true true p q g = ((equal p, equal q), g)
    judged true false p q g = absurd (clash (sym (ap is_passed g)))
    judged false b p q g = absurd (clash (sym (ap is_passed g)))

-- every whole number of a solid that passed is one of its kind
pub checked_fit : (x : List Float) (k : List ℕ) (n i : ℕ) → check_solids_of x k n ≡ passed tt → i < n → fit_at k i ≡ true
checked_fit x k n i e l = tags_passed k n 0 i (lengths x k n e).1 (omega arith) (omega arith)

in_range : (shape active finish medium : ℕ) → tags_fit_of shape active finish medium ≡ true → (shape ≤ last_shape) × ((finish ≤ last_finish) × (medium ≤ last_medium))
unfolding tags_fit_of
in_range a b c d e =
    let p = and_right (leb a last_shape) (leb b 1 && (leb c last_finish && leb d last_medium)) e in
    let q = and_right (leb b 1) (leb c last_finish && leb d last_medium) p in (
      leb-true a last_shape (and_left (leb a last_shape) (leb b 1 && (leb c last_finish && leb d last_medium)) e),
      (leb-true c last_finish (and_left (leb c last_finish) (leb d last_medium) q), leb-true d last_medium (and_right (leb c last_finish) (leb d last_medium) q)),
    )

-- so its finish and its medium are there
pub checked_finish : (x : List Float) (k : List ℕ) (n i : ℕ) (rho : Float) → check_solids_of x k n ≡ passed tt → i < n → (f : SurfaceFinish) × (numbered_finish_of (get_or k (i * 4 + 2) 0) rho ≡ Some f)
checked_finish x k n i rho e l = finish_there _ rho (in_range _ _ _ _ (checked_fit x k n i e l)).1.0

pub checked_medium : (x : List Float) (k : List ℕ) (n i : ℕ) (a b c d p q : Float) → check_solids_of x k n ≡ passed tt → i < n → (m : OpticalMedium) × (numbered_medium_of (get_or k (i * 4 + 3) 0) a b c d p q ≡ Some m)
checked_medium x k n i a b c d p q e l = medium_there _ a b c d p q (in_range _ _ _ _ (checked_fit x k n i e l)).1.1

checked_shape : (x : List Float) (k : List ℕ) (n i : ℕ) → check_solids_of x k n ≡ passed tt → i < n → (g : PrimitiveGeometry) × (shape_in_of x k i ≡ Some g)
unfolding shape_in_of
checked_shape x k n i e l = shape_there _ _ _ _ (in_range _ _ _ _ (checked_fit x k n i e l)).0

-- and the search looks at every solid of the count, with its shape
pub checked_there : (x : List Float) (k : List ℕ) (n i : ℕ) → check_solids_of x k n ≡ passed tt → i < n → (g : PrimitiveGeometry) × ((shape_in_of x k i ≡ Some g) × (object_at_of x k i ≡ Some (solid_with x k i g)))
unfolding object_at_of read_object_of object_with holds
checked_there x k n i e l =
    let u = lengths x k n e in
    let v : length x ≡ n * 42 = u.0.0 in
    let w : length k ≡ n * 4 = u.0.1 in
    let p : leb (i * 42 + 42) (length x) ≡ true = le-leb (i * 42 + 42) (length x) (omega (arith, v, l)) in
    let q : leb (i * 4 + 4) (length k) ≡ true = le-leb (i * 4 + 4) (length k) (omega (arith, w, l)) in
    let s = checked_shape x k n i e l in
    (s.0, (s.1, rw (p, q, s.1)))
