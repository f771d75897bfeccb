-- What one ray can lead to covers what the rays that come of it can. Assumes nothing.
use Rattle.std.specs.Prelude.{Option, None, Some, IfSome}
use Rattle.std.proofs.lemmas.Option.{IfSome_then}
use Prim.Native.Nat.{ℕ, suc, ◌≤◌, ◌<◌, ◌+◌, ◌-◌, ◌*◌, ◌^◌, ◌/◌}
use mathlib.Core.Path.{◌≡◌, refl, ◌∙◌}
use mathlib.Core.Bool.{Bool, true, false, cond}
use native.Mathlib.Omega.{arith}
use native.Mathlib.Nat.{pow-suc}
use native.Mathlib.Numerals.{add-one}
use lib.Dec.{leb}
use lib.Pow.{pow_pos, pow_mono}
use borrow.Author.Tests.{leb-true, leb-false, lt-ltb}
use Rattle.step.specs.declared.ActiveRay.{ActiveRay}
use Rattle.step.specs.Rays.{Step, more_of}
use Rattle.report.specs.Report.{is_interaction_of}
use Rattle.theorems_runs.specs.Sums.{sum_some, sum_made, heft, most_interactions, share}
use Rattle.theorems_runs.proofs.Bred.{Born, Bred, surface_busy}

pub more_is : (n : ℕ) → n < 4294967295 → more_of n ≡ n + 1
unfolding more_of
more_is n h = rw (lt-ltb n 4294967295 h)

if_most : (t : Bool) (x c : ℕ) → (t ≡ true → x ≤ c) → cond t x 0 ≤ c
if_most true x c h = h refl
if_most false x c h = omega arith

pub if_none : (o : Option ActiveRay) → IfSome o (λ r. ⊥) → o ≡ None
if_none (Some r) h = absurd h
if_none None h = refl

some_most : (f : ActiveRay → ℕ) (o : Option ActiveRay) (c : ℕ) → IfSome o (λ r. f r ≤ c) → sum_some f o ≤ c
some_most f (Some r) c h = h
some_most f None c h = omega arith

pub made_most : (f : ActiveRay → ℕ) (s : Step) (c : ℕ) → IfSome s.reflected (λ r. f r ≤ c) → IfSome s.transmitted (λ r. f r ≤ c) → sum_made f s ≤ c + c
unfolding sum_made
made_most f s c h k = omega (arith, some_most f s.reflected c h, some_most f s.transmitted c k)

module _ (b : ℕ) where
  pub heft_pos : (a : ActiveRay) → 1 ≤ heft b a
  unfolding heft
  heft_pos a =
      let p : 2 ^ (b - a.bounce_count + 1) ≡ 2 ^ (b - a.bounce_count) * 2 = rw add-one (pow-suc 2 (b - a.bounce_count)) in
      omega (arith, p, pow_pos (b - a.bounce_count))

  pub heft_most : (a : ActiveRay) → b ≤ 16 → heft b a ≤ 131071
  unfolding heft
  heft_most a h =
      let p : 2 ^ (b - a.bounce_count + 1) ≤ 2 ^ 17 = pow_mono {i = b - a.bounce_count + 1} {j = 17} (omega arith) in
      omega (arith, p)

  heft_child : (a c : ActiveRay) → a.bounce_count < b → c.bounce_count ≡ a.bounce_count + 1 → heft b c + heft b c + 1 ≡ heft b a
  unfolding heft
  heft_child a c h e =
      let j : ℕ = b - (a.bounce_count + 1) in
      let q : b - c.bounce_count ≡ j = omega arith in
      let r : b - a.bounce_count ≡ j + 1 = omega arith in
      let p1 : 2 ^ (j + 1) ≡ 2 ^ j * 2 = rw (add-one j) (pow-suc 2 j) in
      let p2 : 2 ^ (j + 1 + 1) ≡ 2 ^ (j + 1) * 2 = rw (add-one (j + 1)) (pow-suc 2 (j + 1)) in
      rw (q, r) (omega (arith, p1, p2, pow_pos j))

  share_child : (a c : ActiveRay) → a.bounce_count < b → c.bounce_count ≡ a.bounce_count + 1 → share b c + share b c + 1 ≡ share b a
  unfolding share most_interactions
  share_child a c h e =
      let j : ℕ = b - (a.bounce_count + 1) in
      let q : b - c.bounce_count ≡ j = omega arith in
      let r : b - a.bounce_count ≡ suc j = omega arith in
      rw (q, r) (omega (arith, pow-suc 2 j, pow_pos j))

  share_pos : (a : ActiveRay) → a.bounce_count < b → 1 ≤ share b a
  unfolding share most_interactions
  share_pos a h =
      let q : b - a.bounce_count ≡ suc (b - (a.bounce_count + 1)) = omega arith in
      rw q (omega (arith, pow-suc 2 (b - (a.bounce_count + 1)), pow_pos (b - (a.bounce_count + 1))))

  module _ (a : ActiveRay) (s : Step) where
    born_low : Bred b a s → (c : ActiveRay) → Born a s.end c → a.bounce_count < b
    born_low k c h = k.busy (surface_busy s.end h.surface)

    pub born_more : b ≤ 16 → Bred b a s → (c : ActiveRay) → Born a s.end c → c.bounce_count ≡ a.bounce_count + 1
    born_more lim k c h = h.bounces ∙ more_is a.bounce_count (omega (arith, born_low k c h))

    pub one_low : Bred b a s → IfSome s.reflected (λ c. a.bounce_count < b)
    one_low k = IfSome_then s.reflected k.one (born_low k)

    pub two_low : Bred b a s → IfSome s.transmitted (λ c. a.bounce_count < b)
    two_low k = IfSome_then s.transmitted k.two (born_low k)

    pub one_more : b ≤ 16 → Bred b a s → IfSome s.reflected (λ c. c.bounce_count ≡ a.bounce_count + 1)
    one_more lim k = IfSome_then s.reflected k.one (born_more lim k)

    pub two_more : b ≤ 16 → Bred b a s → IfSome s.transmitted (λ c. c.bounce_count ≡ a.bounce_count + 1)
    two_more lim k = IfSome_then s.transmitted k.two (born_more lim k)

  pub made_heft : (a : ActiveRay) (s : Step) → b ≤ 16 → Bred b a s → sum_made (heft b) s + 1 ≤ heft b a
  made_heft a s lim k = more (leb b a.bounce_count) refl
    where
      more : (t : Bool) → leb b a.bounce_count ≡ t → sum_made (heft b) s + 1 ≤ heft b a
      more true q =
          let l : b ≤ a.bounce_count = leb-true b a.bounce_count q in
          let z : sum_made (heft b) s ≤ 0 + 0 =
          made_most (heft b) s 0 (IfSome_then s.reflected (one_low a s k) (λ r y. absurd (omega arith))) (IfSome_then s.transmitted (two_low a s k) (λ r y. absurd (omega arith))) in
          omega (arith, heft_pos a)
      more false q =
          let l : a.bounce_count < b = leb-false b a.bounce_count q in
          let c : ℕ = (heft b a - 1) / 2 in
          let z : sum_made (heft b) s ≤ c + c =
          made_most (heft b) s c (IfSome_then s.reflected (one_more a s lim k) (λ r y. omega (arith, heft_child a r l y)))
          (IfSome_then s.transmitted (two_more a s lim k) (λ r y. omega (arith, heft_child a r l y))) in
          omega (arith, heft_pos a)

  pub made_share : (a : ActiveRay) (s : Step) → b ≤ 16 → Bred b a s → sum_made (share b) s + cond (is_interaction_of s.end) 1 0 ≤ share b a
  made_share a s lim k = more (leb b a.bounce_count) refl
    where
      more : (t : Bool) → leb b a.bounce_count ≡ t → sum_made (share b) s + cond (is_interaction_of s.end) 1 0 ≤ share b a
      more true q =
          let l : b ≤ a.bounce_count = leb-true b a.bounce_count q in
          let z : sum_made (share b) s ≤ 0 + 0 =
          made_most (share b) s 0 (IfSome_then s.reflected (one_low a s k) (λ r y. absurd (omega arith))) (IfSome_then s.transmitted (two_low a s k) (λ r y. absurd (omega arith))) in
          let i : cond (is_interaction_of s.end) 1 0 ≤ 0 = if_most (is_interaction_of s.end) 1 0 (λ y. absurd (omega (arith, k.busy y))) in
          omega arith
      more false q =
          let l : a.bounce_count < b = leb-false b a.bounce_count q in
          let c : ℕ = (share b a - 1) / 2 in
          let z : sum_made (share b) s ≤ c + c =
          made_most (share b) s c (IfSome_then s.reflected (one_more a s lim k) (λ r y. omega (arith, share_child a r l y)))
          (IfSome_then s.transmitted (two_more a s lim k) (λ r y. omega (arith, share_child a r l y))) in
          let i : cond (is_interaction_of s.end) 1 0 ≤ 1 = if_most (is_interaction_of s.end) 1 1 (λ y. omega arith) in
          omega (arith, share_pos a l)
