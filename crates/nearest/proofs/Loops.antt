-- The search as code makes it: one offer, one turn of a loop, its end. Assumes nothing.
use Rattle.std.specs.Prelude.{Option, None, Some}
use Prim.Native.Nat.{ℕ, suc, ◌+◌, ◌-◌, ◌≤◌, ◌<◌}
use mathlib.Core.Path.{◌≡◌, refl}
use mathlib.Core.Bool.{true, false}
use native.Mathlib.Nat.{sub-zero}
use native.Mathlib.Omega.{arith}
use lib.Ieee.{Float}
use Rattle.nearest.specs.Nearest.{is_nearer_of, distance_of, nearer_of, nearest_from, nearest_among}

pub nearer_nothing : (A : Type 0) (d : A → Float) (b : Option A) → nearer_of A d b None ≡ b
unfolding nearer_of
nearer_nothing A d b = refl

pub nearer_taken : (A : Type 0) (d : A → Float) (b : Option A) (h : A) → is_nearer_of (d h) (distance_of A d b) ≡ true → nearer_of A d b (Some h) ≡ Some h
unfolding nearer_of
nearer_taken A d b h e = rw e

pub nearer_kept : (A : Type 0) (d : A → Float) (b : Option A) (h : A) → is_nearer_of (d h) (distance_of A d b) ≡ false → nearer_of A d b (Some h) ≡ b
unfolding nearer_of
nearer_kept A d b h e = rw e

pub nearest_start : (A : Type 0) (d : A → Float) (f : ℕ → Option A) (n : ℕ) → nearest_from A d f (n - 0) 0 None ≡ nearest_among A d f n
unfolding nearest_among
nearest_start A d f n = rw sub-zero

pub nearest_again : (A : Type 0) (d : A → Float) (f : ℕ → Option A) (n i : ℕ) (b c z : Option A) → i < n → c ≡ nearer_of A d b (f i) → nearest_from A d f (n - i) i b ≡ z → nearest_from A d f (n - (i + 1)) (i + 1) c ≡ z
unfolding nearest_from
nearest_again A d f n i b c z p g e = let q : n - i ≡ suc (n - (i + 1)) = omega arith in rw g (rw q at e)

pub nearest_end : (A : Type 0) (d : A → Float) (f : ℕ → Option A) (n i : ℕ) (b z : Option A) → n ≤ i → nearest_from A d f (n - i) i b ≡ z → b ≡ z
unfolding nearest_from
nearest_end A d f n i b z p e = let q : n - i ≡ 0 = omega arith in rw q at e
