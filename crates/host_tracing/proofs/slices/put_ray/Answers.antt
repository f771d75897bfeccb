use native.Mathlib.Omega.{arith}
use Rattle.host_tracing.proofs.Laying.{room_in}
use Rattle.host_tracing.specs.Flat.{put_ray_of}
use Rattle.host_tracing.proofs.slices.put_ray.Goals as goal

pub put_ray_values-requires : goal.put_ray_values-requires
put_ray_values-requires c = omega (arith, room_in _ _ _ _ c.has_room.ensures c.if-has_room.true)

pub put_ray_tags-requires : goal.put_ray_tags-requires
put_ray_tags-requires c = omega (arith, room_in _ _ _ _ c.has_room.ensures c.if-has_room.true)

pub overflow_add-result : goal.overflow_add-result
overflow_add-result c = omega (arith, room_in _ _ _ _ c.has_room.ensures c.if-has_room.true)

pub returns-then-has_room : goal.returns-then-has_room
unfolding put_ray_of
returns-then-has_room c = simp (← c.has_room.ensures, c.if-has_room.true, ← c.put_ray_values.ensures, ← c.put_ray_tags.ensures)

pub returns : goal.returns
unfolding put_ray_of
returns c = simp (← c.has_room.ensures, c.if-has_room.false)
