-- The check of the solids' whole numbers, turn by turn. Assumes nothing.
use Prim.Native.Nat.{ℕ, suc, ◌+◌, ◌-◌, ◌*◌, ◌≤◌, ◌<◌}
use mathlib.Core.Path.{◌≡◌}
use mathlib.Core.Bool.{Bool, true, false}
use mathlib.Core.List.{List}
use native.Mathlib.Omega.{arith}
use lib.ListN.{get_or}
use Rattle.error.specs.Refusals.{Checked, passed, refused_at}
use Rattle.scene.specs.Solids.{tags_fit_of, check_tags_of}

-- whether solid i's whole numbers fit
abbrev pub fit_at : List ℕ → ℕ → Bool
fit_at k i = tags_fit_of (get_or k (i * 4) 0) (get_or k (i * 4 + 1) 0) (get_or k (i * 4 + 2) 0) (get_or k (i * 4 + 3) 0)

pub tags_again : (k : List ℕ) (n i : ℕ) (t : Bool) (z : Checked Unit) → i < n → t ≡ fit_at k i → t ≡ true → check_tags_of k (n - i) i ≡ z → check_tags_of k (n - (i + 1)) (i + 1) ≡ z
unfolding check_tags_of
tags_again k n i t z p f g e = let q : n - i ≡ suc (n - (i + 1)) = omega arith in rw (q, ← f, g) at e

pub tags_refused : (k : List ℕ) (n i : ℕ) (t : Bool) (z : Checked Unit) → i < n → t ≡ fit_at k i → t ≡ false → check_tags_of k (n - i) i ≡ z → refused_at 17 i ≡ z
unfolding check_tags_of
tags_refused k n i t z p f g e = let q : n - i ≡ suc (n - (i + 1)) = omega arith in rw (q, ← f, g) at e

pub tags_end : (k : List ℕ) (n i : ℕ) (z : Checked Unit) → n ≤ i → check_tags_of k (n - i) i ≡ z → passed tt ≡ z
unfolding check_tags_of
tags_end k n i z p e = let q : n - i ≡ 0 = omega arith in rw q at e
