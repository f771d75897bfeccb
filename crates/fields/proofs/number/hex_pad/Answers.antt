use Prim.Native.Nat.{◌+◌, ◌*◌, ◌^◌, ◌<◌}
use native.Mathlib.Omega.{arith}
use Rattle.fields.proofs.Digits.{pow_again, pow_fits, pad_step, pad_done, digit_at_lt}
use Rattle.fields.proofs.number.hex_pad.Goals as goal

small : (c : goal.After-digit_at) → c.digit_at.result < 16
small c = rw c.digit_at.ensures (digit_at_lt _ _ c.requires)

pub overflow_mul-v : goal.overflow_mul-v
overflow_mul-v c = let f : c.loop-i.v * 16 + 0 < 2 ^ 64 = pow_fits _ _ 0 c.loop-i.invariant.0 (omega arith) (omega arith) in
    omega arith

pub overflow_add-v : goal.overflow_add-v
overflow_add-v c = record { fits = pow_fits _ _ _ c.loop-i.invariant.0 (omega arith) (small c) }

pub loop-i-preserved : goal.loop-i-preserved
loop-i-preserved c = (
  pow_again _ _ _ c.loop-i.invariant.0 (small c),
  rw c.digit_at.ensures (pad_step _ _ _ _ (omega arith) c.loop-i.invariant.1),
)

pub returns : goal.returns
returns c = pad_done _ _ _ _ (omega arith) c.loop-i.invariant.1
