-- The turns of the two loops over places. Assumes nothing.
use Rattle.std.specs.Prelude.{Option, None, Some}
use Prim.Native.Nat.{ℕ, zero, suc, ◌≤◌, ◌<◌, ◌-◌, ◌+◌}
use mathlib.Core.Path.{◌≡◌, refl, sym, ap, ◌∙◌}
use mathlib.Core.List.{List}
use mathlib.Core.Bool.{Bool, true, false}
use native.Mathlib.Omega.{arith}
use lib.ListN.{set}
use borrow.Author.Tests.{eq-eqb, ne_eqb}
use Rattle.scene.specs.declared.SolidNo.{SolidNo}
use Rattle.media.specs.Media.{solid_in, last_place_of, move_down_of}
use lib.Dec.{eqb}
use mathlib.Core.Bool.{cond}

pub last_here : (l : List SolidNo) (i : ℕ) (s : SolidNo) → 0 < i → (solid_in l (i - 1)).0 ≡ s.0 → Some (i - 1) ≡ last_place_of l i s
unfolding last_place_of
last_here l zero s h e = absurd (omega arith)
last_here l (suc i) s h e = let q : suc i - 1 ≡ i = omega arith in rw q (rw (eq-eqb _ _ (rw q at e)))

pub last_before : (l : List SolidNo) (i : ℕ) (s : SolidNo) → 0 < i → ((solid_in l (i - 1)).0 ≡ s.0 → ⊥) → last_place_of l (i - 1) s ≡ last_place_of l i s
unfolding last_place_of
last_before l zero s h e = absurd (omega arith)
last_before l (suc i) s h e = let q : suc i - 1 ≡ i = omega arith in rw q (rw (ne_eqb _ _ (rw q at e)))

pub last_none : (l : List SolidNo) (i : ℕ) (s : SolidNo) → i ≤ 0 → None ≡ last_place_of l i s
unfolding last_place_of
last_none l zero s h = refl
last_none l (suc i) s h = absurd (omega arith)

pub down_again : (e i : ℕ) (l z : List SolidNo) → i < e → move_down_of (e - i) i l ≡ z → move_down_of (e - (i + 1)) (i + 1) (set l i (solid_in l (i + 1))) ≡ z
unfolding move_down_of
down_again e i l z h p = let q : e - i ≡ suc (e - (i + 1)) = omega arith in rw q at p

pub down_end : (e i : ℕ) (l z : List SolidNo) → e ≤ i → move_down_of (e - i) i l ≡ z → l ≡ z
unfolding move_down_of
down_end e i l z h p = let q : e - i ≡ 0 = omega arith in rw q at p

abbrev index : Option ℕ → ℕ
index (Some i) = suc i
index None = 0

-- the place found is one of the first i
below : (b : Bool) (l : List SolidNo) (i j : ℕ) (s : SolidNo) → (last_place_of l i s ≡ Some j → j < i) → cond b (Some i) (last_place_of l i s) ≡ Some j → j < suc i
below true l i j s f e = let q : suc i ≡ suc j = ap index e in omega arith
below false l i j s f e = let q : j < i = f e in omega arith

pub last_below : (l : List SolidNo) (i j : ℕ) (s : SolidNo) → last_place_of l i s ≡ Some j → j < i
unfolding last_place_of
last_below l zero j s e = let q : 0 ≡ suc j = ap index e in absurd (omega arith)
last_below l (suc i) j s e = below (eqb (solid_in l i).0 s.0) l i j s (last_below l i j s) e

pub found_below : (l : List SolidNo) (i j : ℕ) (s : SolidNo) (r : Option ℕ) → r ≡ last_place_of l i s → r ≡ Some j → j < i
found_below l i j s r e k = last_below l i j s (sym e ∙ k)
