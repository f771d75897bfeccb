use Rattle.detector.specs.Pixels.{pixel_at_of}
use native.Mathlib.Omega.{arith}
use Rattle.detector.proofs.Grid.{row_fits, place_fits, place_most}
use Rattle.detector.proofs.Detector2D.pixel_at.Goals as goal

pub overflow_mul-result : goal.overflow_mul-result
overflow_mul-result c = omega (arith, row_fits _ _ _ c.args.self.res_x _ c.index_along-py.ensures (omega (arith, c.well_formed)) (omega (arith, c.well_formed)))

pub overflow_add-result : goal.overflow_add-result
overflow_add-result c = omega (
  arith,
  place_fits _ _ _ c.args.self.res_x _ c.index_along-py.ensures (omega (arith, c.well_formed)) (omega (arith, c.well_formed)) _ _ _
      c.index_along-px.ensures,
)

pub returns : goal.returns
unfolding pixel_at_of
returns c = (
  simp (← c.index_along-px.ensures, ← c.index_along-py.ensures),
  place_most _ _ _ c.args.self.res_x _ c.index_along-py.ensures (omega (arith, c.well_formed)) (omega (arith, c.well_formed)) _ _ _
      c.index_along-px.ensures,
)
