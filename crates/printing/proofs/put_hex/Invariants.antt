use Prim.Native.Nat.{◌<◌, ◌-◌, ◌^◌}
use mathlib.Core.Path.{◌≡◌}
use lib.ListN.{length}
use Rattle.printing.specs.Printing.{put_all, hex_text}
use Rattle.printing.proofs.put_hex.Given as goal

abbrev pub invariant-loop : goal.invariant-loop
invariant-loop l = (l.rest < 2 ^ 64) × (length l.buf ≡ length l.initial.buf) × (put_all l.buf l.p (hex_text (16 - l.counter) l.rest) ≡ put_all l.initial.buf l.at (hex_text 16 l.n))
