use Prim.Native.Nat.{◌+◌, ◌*◌}
use mathlib.Core.Path.{sym, ◌∙◌}
use native.Mathlib.Omega.{arith}
use borrow.Author.Rules.{rules}
use lib.ListN.{drop}
use Rattle.fields.proofs.Digits.{dec_again, dec_stop, from_again, from_grows, whole_none, whole-led, whole-bad, whole-big, whole_is, dec_end, from_end}
use Rattle.fields.proofs.number.read_whole.Goals as goal

pub returns-then-is_empty : goal.returns-then-is_empty
returns-then-is_empty c = whole_none _ (sym c.is_empty.ensures ∙ c.if-is_empty.true)

pub returns-then-is_led_by_zero : goal.returns-then-is_led_by_zero
returns-then-is_led_by_zero c = whole-led _ (sym c.is_empty.ensures ∙ c.if-is_empty.false) (sym c.is_led_by_zero.ensures ∙ c.if-is_led_by_zero.true)

pub returns-then-d-ge10 : goal.returns-then-d-ge10
returns-then-d-ge10 c = whole-bad _ (sym c.is_empty.ensures ∙ c.if-is_empty.false) (sym c.is_led_by_zero.ensures ∙ c.if-is_led_by_zero.false)
    (dec_stop _ c.loop-b.b-index c.loop-b-test.true _ (rw c.digit-d.ensures at c.if-d-ge10.true) c.loop-b.invariant.1)

pub returns-then-v-gt4294967295 : goal.returns-then-v-gt4294967295
returns-then-v-gt4294967295 c = let e = from_again _ c.loop-b.b-index c.loop-b-test.true _ _ c.loop-b.invariant.2 in
    let g = from_grows (c.loop-b.v * 10 + c.digit-d.result) (drop (c.loop-b.b-index + 1) c.args.t.now) in
    let m = rw (c.digit-d.ensures, e) at g in
    whole-big _ (sym c.is_empty.ensures ∙ c.if-is_empty.false) (sym c.is_led_by_zero.ensures ∙ c.if-is_led_by_zero.false) (omega (arith, c.digit-d.ensures))

pub loop-b-preserved : goal.loop-b-preserved
loop-b-preserved c = let h = c.loop-b-test.true in
    let d = rw c.digit-d.ensures at c.if-d-ge10.false in (
      search rules,
      dec_again _ c.loop-b.b-index h _ d c.loop-b.invariant.1,
      rw c.digit-d.ensures (from_again _ c.loop-b.b-index h _ _ c.loop-b.invariant.2),
    )

pub returns : goal.returns
returns c = whole_is _ (sym c.is_empty.ensures ∙ c.if-is_empty.false) (sym c.is_led_by_zero.ensures ∙ c.if-is_led_by_zero.false) _
    (dec_end _ _ _ c.loop-b-test.false c.loop-b.invariant.1)
    (from_end _ _ _ _ c.loop-b-test.false c.loop-b.invariant.2)
    c.loop-b.invariant.0
