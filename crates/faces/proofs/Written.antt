-- The search of at most 8 faces written out. Assumes nothing.
use Rattle.std.specs.Prelude.{Option, None}
use Prim.Native.Nat.{ℕ, zero, suc, ◌≤◌}
use mathlib.Core.Path.{◌≡◌, refl}
use native.Mathlib.Omega.{arith}
use Rattle.nearest.specs.Nearest.{nearest_from, nearest_among}
use Rattle.faces.specs.declared.Sight.{Sight}
use Rattle.faces.specs.Faces.{sight_distance, seen_of}

all_seen : (f : ℕ → Option Sight) (n : ℕ) → n ≤ 8 → seen_of 7 n (seen_of 6 n (seen_of 5 n (seen_of 4 n (seen_of 3 n (seen_of 2 n (seen_of 1 n (seen_of 0 n None (f 0)) (f 1)) (f 2)) (f 3)) (f 4)) (f 5)) (f 6)) (f 7) ≡ nearest_among Sight sight_distance f n
unfolding seen_of nearest_among nearest_from
all_seen f zero h = refl
all_seen f (suc zero) h = refl
all_seen f (suc (suc zero)) h = refl
all_seen f (suc (suc (suc zero))) h = refl
all_seen f (suc (suc (suc (suc zero)))) h = refl
all_seen f (suc (suc (suc (suc (suc zero))))) h = refl
all_seen f (suc (suc (suc (suc (suc (suc zero)))))) h = refl
all_seen f (suc (suc (suc (suc (suc (suc (suc zero))))))) h = refl
all_seen f (suc (suc (suc (suc (suc (suc (suc (suc zero)))))))) h = refl
all_seen f (suc (suc (suc (suc (suc (suc (suc (suc (suc n))))))))) h = absurd (over n h)
  where
    over : (n : ℕ) → suc (suc (suc (suc (suc (suc (suc (suc (suc n)))))))) ≤ 8 → ⊥
    over n h = omega arith

pub written_out : (f : ℕ → Option Sight) (n : ℕ) (s0 s1 s2 s3 s4 s5 s6 s7 : Option Sight) → n ≤ 8 → s0 ≡ seen_of 0 n None (f 0) → s1 ≡ seen_of 1 n s0 (f 1) → s2 ≡ seen_of 2 n s1 (f 2) → s3 ≡ seen_of 3 n s2 (f 3) → s4 ≡ seen_of 4 n s3 (f 4) → s5 ≡ seen_of 5 n s4 (f 5) → s6 ≡ seen_of 6 n s5 (f 6) → s7 ≡ seen_of 7 n s6 (f 7) → s7 ≡ nearest_among Sight sight_distance f n
written_out f n s0 s1 s2 s3 s4 s5 s6 s7 h e0 e1 e2 e3 e4 e5 e6 e7 = rw (e7, e6, e5, e4, e3, e2, e1, e0) (all_seen f n h)
