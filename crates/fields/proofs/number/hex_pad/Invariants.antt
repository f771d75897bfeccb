use mathlib.Core.Path.{◌≡◌}
use Prim.Native.Nat.{◌-◌, ◌^◌, ◌<◌}
use lib.ListN.{drop}
use Rattle.fields.specs.Number.{hex_pad_of}
use Rattle.fields.proofs.number.hex_pad.Given as goal

abbrev pub invariant-loop-i : goal.invariant-loop-i
invariant-loop-i l = (l.v < 16 ^ l.i) × (hex_pad_of l.v (16 - l.i) (drop l.i l.t) ≡ hex_pad_of 0 16 l.t)
