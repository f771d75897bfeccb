use mathlib.Core.Path.{◌≡◌}
use mathlib.Core.List.{[]}
use Prim.Native.Nat.{◌-◌}
use lib.ListN.{get_or}
use Rattle.fields.specs.Split.{parts_at}
use Rattle.fields.specs.Split.{split}
use Rattle.fields.proofs.split.part.Given as goal

abbrev pub invariant-loop : goal.invariant-loop
invariant-loop l = (get_or (parts_at l.b l.s l.at) (l.k - l.counter) [] ≡ get_or (split l.b l.s) l.k [])
