use Rattle.std.proofs.Common.{◌≡◌, ◌-◌, ◌≤◌, length}
use Rattle.memory.specs.Memory.{hits_from}
use Rattle.filter.specs.Filters.{as_map, plus_each, passes_of, passing, refill_of}
use Rattle.filter.proofs.sifting.refill.Given as goal

abbrev pub invariant-loop-i : goal.invariant-loop-i
invariant-loop-i l = (length l.work ≡ length l.initial.work)
    × (l.t.count ≤ l.i)
    × (plus_each l.d (as_map l.t l.work) (passing (passes_of l.filter l.asked) (hits_from l.hit_values l.hit_tags (l.used - l.i) l.i))
    ≡ refill_of (passes_of l.filter l.asked) l.d (length l.initial.work) (hits_from l.hit_values l.hit_tags l.used 0))
