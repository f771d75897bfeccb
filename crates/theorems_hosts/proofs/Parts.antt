-- A batch traced in parts by `nonseq_trace_rays` leaves what it leaves traced whole by it. Assumes nothing.
use Rattle.std.specs.Prelude.{Some}
use Prim.Native.Nat.{ℕ, zero, suc}
use mathlib.Core.Path.{◌≡◌, refl, ap, sym, ◌∙◌}
use mathlib.Core.List.{List, [], ◌∷◌}
use native.Mathlib.Omega.{arith}
use lib.Ieee.{Float}
use borrow.Author.Tests.{ne_eqb}
use Rattle.error.specs.Refusals.{passed}
use Rattle.material.specs.declared.OpticalMedium.{OpticalMedium}
use Rattle.memory.specs.Memory.{Memory, Outcome, done, refused}
use Rattle.trace.specs.Trace.{Trace, check_batch, trace_rays_of}
use Rattle.host_tracing.specs.declared.answers.HostConfig.{HostConfig}
use Rattle.host_tracing.specs.Tracing.{left_by, traced_in, host_trace_rays_of}
use Rattle.theorems_marks.proofs.Only.{never_0}
use Rattle.theorems_calls.specs.Parts.{Part, Splits, shifted, then_on, trace_parts}
use Rattle.theorems_calls.proofs.Split as splitting
use Rattle.theorems_hosts.specs.HostBook.{ambient_in, batch_with}
use Rattle.theorems_hosts.specs.HostParts.{outcome_from, host_trace_parts}

from_left : (t : Trace Memory) → ((place : ℕ) (m : Memory) → t.outcome ≡ refused 0 place m → ⊥) → outcome_from (left_by t) ≡ t.outcome
unfolding outcome_from left_by
from_left t None = go t.outcome refl
  where
    go : (o : Outcome Memory) → t.outcome ≡ o → outcome_from (left_by (record { outcome = o; report = t.report })) ≡ o
    go (done m) e = refl
    go (refused zero place m) e = absurd (None place m e)
    go (refused (suc n) place m) e = rw (ne_eqb (suc n) 0 (λ q. omega (arith, q)))

module _ (g : HostConfig) (x : List Float) (k : List ℕ) (n : ℕ) (medium : OpticalMedium) (is : ambient_in g ≡ Some medium) where
  -- one entry's tracing
  traced_is : (v : List Float) (t : List ℕ) (r : ℕ) (s : Memory) → outcome_from (host_trace_rays_of g x k n v t r s) ≡ (trace_rays_of (batch_with g x k n v t r medium) s).outcome
  unfolding host_trace_rays_of traced_in
  traced_is v t r s =
      ap (λ a. outcome_from (traced_in a (λ medium. trace_rays_of (batch_with g x k n v t r medium) s) s)) is
      ∙ from_left (trace_rays_of (batch_with g x k n v t r medium) s) (never_0 (batch_with g x k n v t r medium) s)

  then_same : (c : ℕ) (o : Outcome Memory) (f h : Memory → Outcome Memory) → ((m : Memory) → f m ≡ h m) → then_on (shifted c o) f ≡ then_on (shifted c o) h
  then_same c (done m) f h e = e m
  then_same c (refused j place m) f h e = refl

  parts_are : (v : List Float) (t : List ℕ) (r : ℕ) (ps : List Part) (s : Memory) → host_trace_parts g x k n ps s ≡ trace_parts (batch_with g x k n v t r medium) ps s
  unfolding host_trace_parts trace_parts
  parts_are v t r [] s = refl
  parts_are v t r (p ∷ ps) s =
      ap (λ o. then_on (shifted p.rays o) (λ m. outcome_from (host_trace_rays_of g x k n p.ray_values p.ray_tags p.rays m))) (parts_are v t r ps s)
      ∙ then_same p.rays (trace_parts (batch_with g x k n v t r medium) ps s) _ _ (λ m. traced_is p.ray_values p.ray_tags p.rays m)

  pub split : (v : List Float) (t : List ℕ) (r : ℕ) (ps : List Part) (s : Memory) → Splits (batch_with g x k n v t r medium) ps → check_batch (batch_with g x k n v t r medium) s ≡ passed tt
      → host_trace_parts g x k n ps s ≡ outcome_from (host_trace_rays_of g x k n v t r s)
  split v t r ps s e c = parts_are v t r ps s ∙ splitting.split (batch_with g x k n v t r medium) ps s e c ∙ sym (traced_is v t r s)
