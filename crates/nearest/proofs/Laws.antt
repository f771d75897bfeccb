-- The search over a list of offers answers the nearest one, and nothing else. Assumes nothing.
use Rattle.std.specs.Prelude.{Option, None, Some}
use Rattle.std.proofs.lemmas.Option.{same_Some}
use Prim.Native.Nat.{ℕ, zero, suc, ◌+◌, ◌<◌}
use mathlib.Core.Path.{◌≡◌, refl, sym, ap, ◌∙◌, subst}
use mathlib.Core.Logic.{◌↔◌, ◌⊎◌, inl, inr}
use mathlib.Core.Bool.{Bool, true, false, cond}
use native.Mathlib.Omega.{arith}
use native.Mathlib.Decide.{dec_lt}
use native.Mathlib.Nat.{add-zero, zero-add, lt_irrefl, eq-or-lt_of_le}
use lib.Ieee.{Float, inf, lt, le}
use Rattle.doubles.proofs.Floats.{clash}
use Rattle.doubles.proofs.Order.{none_below, below_le}
use Rattle.nearest.specs.Nearest.{is_counted, is_nearer_of, distance_of, nearer_of, nearest_from, nearest_among, NoneCounts, NoneNearer, IsNearest}
use Rattle.nearest.proofs.Order.{nearer_counts, nearer_below, counts_not_below, counts_below_infinity, self_le, not_below_le, below_le_below, below_not_le}

-- the last place, or one before it
last_or_before : (i j : ℕ) → j < i + 1 → (j ≡ i) ⊎ (j < i)
last_or_before i j h = eq-or-lt_of_le (omega arith)

abbrev is_some : {A : Type 0} → Option A → Bool
is_some None = false
is_some (Some a) = true

no_offer : {A : Type 0} {g : A} → None ≡ Some g → ⊥
no_offer e = clash (sym (ap is_some e))

-- what holds at the last place and before it holds at both
extend_none : (A : Type 0) (d : A → Float) (f : ℕ → Option A) (i : ℕ) → ((g : A) → f i ≡ Some g → is_counted (d g) ≡ false) → NoneCounts A d f i → NoneCounts A d f (i + 1)
extend_none A d f i l h j g p o = elim (last_or_before i j p) [ inl e ↦ l g (sym (ap f e) ∙ o) | inr q ↦ h j g q o ]

extend_nearer : (A : Type 0) (d : A → Float) (f : ℕ → Option A) (i k : ℕ) (b : A) → ((g : A) → f i ≡ Some g → is_counted (d g) ≡ true → (le (d b) (d g) ≡ true) × (i < k → lt (d b) (d g) ≡ true)) → NoneNearer A d f i k b → NoneNearer A d f (i + 1) k b
extend_nearer A d f i k b l h j g p o c =
    elim (last_or_before i j p) [
      | inl e ↦ subst (λ (x : ℕ). (le (d b) (d g) ≡ true) × (x < k → lt (d b) (d g) ≡ true)) (sym e) (l g (sym (ap f e) ∙ o) c)
      | inr q ↦ h j g q o c
    ]

-- the next place offers nothing
skip : (A : Type 0) (d : A → Float) (f : ℕ → Option A) (i : ℕ) (best : Option A) → f i ≡ None → IsNearest A d f i best → IsNearest A d f (i + 1) best
skip A d f i None e h = extend_none A d f i (λ (g : A) (o : f i ≡ Some g). absurd (no_offer (sym e ∙ o))) h
skip A d f i (Some b) e (k, (l, (o, (c, h)))) =
    (k, (omega arith, (o, (c, extend_nearer A d f i k b (λ (g : A) (p : f i ≡ Some g) (q : is_counted (d g) ≡ true). absurd (no_offer (sym e ∙ p))) h))))

-- it offers something that is not nearer
keep : (A : Type 0) (d : A → Float) (f : ℕ → Option A) (i : ℕ) (best : Option A) (g : A) → f i ≡ Some g → is_nearer_of (d g) (distance_of A d best) ≡ false → IsNearest A d f i best → IsNearest A d f (i + 1) best
keep A d f i None g e n h = extend_none A d f i (λ (x : A) (o : f i ≡ Some x). off x (is_counted (d x)) refl o) h
  where
    off : (x : A) (b : Bool) → is_counted (d x) ≡ b → f i ≡ Some x → is_counted (d x) ≡ false
    off x false c o = c
    off x true c o =
        let s : g ≡ x = same_Some g x (sym e ∙ o) in
        let m : is_nearer_of (d x) (inf false) ≡ false = subst (λ (y : A). is_nearer_of (d y) (inf false) ≡ false) s n in
        absurd (clash (sym (counts_below_infinity (d x) c) ∙ counts_not_below (d x) (inf false) c m))
keep A d f i (Some b) g e n (k, (l, (o, (c, h)))) =
    (k, (omega arith, (o, (c, extend_nearer A d f i k b (λ (x : A) (p : f i ≡ Some x) (q : is_counted (d x) ≡ true). as-far x p q) h))))
  where
    as-far : (x : A) → f i ≡ Some x → is_counted (d x) ≡ true → (le (d b) (d x) ≡ true) × (i < k → lt (d b) (d x) ≡ true)
    as-far x p q =
        let s : g ≡ x = same_Some g x (sym e ∙ p) in
        let m : is_nearer_of (d x) (d b) ≡ false = subst (λ (y : A). is_nearer_of (d y) (d b) ≡ false) s n in
        (not_below_le (d x) (d b) q c (counts_not_below (d x) (d b) q m), λ (t : i < k). absurd (beyond i k l t))
      where
        beyond : (i k : ℕ) → k < i → i < k → ⊥
        beyond i k p q = omega arith

-- the offer of a place compared with itself
itself : (A : Type 0) (d : A → Float) (f : ℕ → Option A) (i : ℕ) (g x : A) → f i ≡ Some g → is_counted (d g) ≡ true → f i ≡ Some x → (le (d g) (d x) ≡ true) × (i < i → lt (d g) (d x) ≡ true)
itself A d f i g x e c o =
    let s : g ≡ x = same_Some g x (sym e ∙ o) in
    (subst (λ (y : A). le (d g) (d y) ≡ true) s (self_le (d g) c), λ (t : i < i). absurd (lt_irrefl i t))

-- it offers something nearer
change : (A : Type 0) (d : A → Float) (f : ℕ → Option A) (i : ℕ) (best : Option A) (g : A) → f i ≡ Some g → is_nearer_of (d g) (distance_of A d best) ≡ true → IsNearest A d f i best → IsNearest A d f (i + 1) (Some g)
change A d f i None g e n h =
    let c : is_counted (d g) ≡ true = nearer_counts (d g) (inf false) n in
    (i, (omega arith, (e, (c, extend_nearer A d f i i g (λ (x : A) (p : f i ≡ Some x) (q : is_counted (d x) ≡ true). itself A d f i g x e c p) (λ (j : ℕ) (x : A) (l : j < i) (o : f j ≡ Some x) (q : is_counted (d x) ≡ true). absurd (clash (sym q ∙ h j x l o)))))))
change A d f i (Some b) g e n (k, (l, (o, (c, h)))) =
    let q : is_counted (d g) ≡ true = nearer_counts (d g) (d b) n in
    (i, (omega arith, (e, (q, extend_nearer A d f i i g (λ (x : A) (p : f i ≡ Some x) (r : is_counted (d x) ≡ true). itself A d f i g x e q p) (λ (j : ℕ) (x : A) (m : j < i) (p : f j ≡ Some x) (r : is_counted (d x) ≡ true). farther j x m p r)))))
  where
    farther : (j : ℕ) (x : A) → j < i → f j ≡ Some x → is_counted (d x) ≡ true → (le (d g) (d x) ≡ true) × (j < i → lt (d g) (d x) ≡ true)
    farther j x m p r =
        let q : is_counted (d g) ≡ true = nearer_counts (d g) (d b) n in
        let u : lt (d g) (d x) ≡ true = below_le_below (d g) (d b) (d x) q c r (nearer_below (d g) (d b) n) (h j x m p r).0 in
        (below_le (d g) (d x) u, λ (t : j < i). u)

step : (A : Type 0) (d : A → Float) (f : ℕ → Option A) (i : ℕ) (best : Option A) → IsNearest A d f i best → IsNearest A d f (i + 1) (nearer_of A d best (f i))
unfolding nearer_of
step A d f i best h = offered (f i) refl
  where
    judged : (g : A) → f i ≡ Some g → (b : Bool) → is_nearer_of (d g) (distance_of A d best) ≡ b → IsNearest A d f (i + 1) (cond b (Some g) best)
    judged g e true n = change A d f i best g e n h
    judged g e false n = keep A d f i best g e n h

    offered : (o : Option A) → f i ≡ o → IsNearest A d f (i + 1) (nearer_of A d best o)
    offered None e = skip A d f i best e h
    offered (Some g) e = judged g e (is_nearer_of (d g) (distance_of A d best)) refl

from_is : (A : Type 0) (d : A → Float) (f : ℕ → Option A) (n i : ℕ) (best : Option A) → IsNearest A d f i best → IsNearest A d f (i + n) (nearest_from A d f n i best)
unfolding nearest_from
from_is A d f zero i best h = subst (λ (m : ℕ). IsNearest A d f m best) (sym (add-zero i)) h
from_is A d f (suc n) i best h =
    subst (λ (m : ℕ). IsNearest A d f m (nearest_from A d f n (i + 1) (nearer_of A d best (f i)))) (moved i n)
    (from_is A d f n (i + 1) (nearer_of A d best (f i)) (step A d f i best h))
  where
    moved : (i n : ℕ) → i + 1 + n ≡ i + suc n
    moved i n = omega arith

-- what the search answers is the nearest
pub nearest_is : (A : Type 0) (d : A → Float) (f : ℕ → Option A) (n : ℕ) → IsNearest A d f n (nearest_among A d f n)
unfolding nearest_among
nearest_is A d f n = subst (λ (m : ℕ). IsNearest A d f m (nearest_from A d f n 0 None)) (zero-add n) (from_is A d f n 0 None (λ (j : ℕ) (g : A) (l : j < 0) (o : f j ≡ Some g). absurd (none_below j l)))

-- two places that each hold the nearest are one
same_place : (A : Type 0) (d : A → Float) (f : ℕ → Option A) (n i k : ℕ) (h g : A) → i < n → k < n → f i ≡ Some h → f k ≡ Some g → is_counted (d h) ≡ true → is_counted (d g) ≡ true → NoneNearer A d f n i h → NoneNearer A d f n k g → i < k → ⊥
same_place A d f n i k h g l m o p c q u v w = below_not_le (d g) (d h) q c ((v i h l o c).1 w) (u k g m p q).0

-- nothing else is
pub nearest_only : (A : Type 0) (d : A → Float) (f : ℕ → Option A) (n : ℕ) (o p : Option A) → IsNearest A d f n o → IsNearest A d f n p → o ≡ p
nearest_only A d f n None None u v = refl
nearest_only A d f n None (Some g) u (k, (m, (p, (q, v)))) = absurd (clash (sym q ∙ u k g m p))
nearest_only A d f n (Some h) None (i, (l, (o, (c, u)))) v = absurd (clash (sym c ∙ v i h l o))
nearest_only A d f n (Some h) (Some g) (i, (l, (o, (c, u)))) (k, (m, (p, (q, v)))) = sym o ∙ ap f (places (dec_lt i k) (dec_lt k i)) ∙ p
  where
    places : Dec (i < k) → Dec (k < i) → i ≡ k
    places (yes w) s = absurd (same_place A d f n i k h g l m o p c q u v w)
    places (no r) (yes w) = absurd (same_place A d f n k i g h m l p o q c v u w)
    places (no r) (no s) = omega (arith, r, s)

-- none is answered precisely if no offer counts
pub none_iff : (A : Type 0) (d : A → Float) (f : ℕ → Option A) (n : ℕ) → (nearest_among A d f n ≡ None) ↔ NoneCounts A d f n
none_iff A d f n = (
  λ (e : nearest_among A d f n ≡ None). subst (IsNearest A d f n) e (nearest_is A d f n),
  λ (h : NoneCounts A d f n). nearest_only A d f n (nearest_among A d f n) None (nearest_is A d f n) h,
)
