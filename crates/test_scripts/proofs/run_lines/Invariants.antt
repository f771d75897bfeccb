use Rattle.std.proofs.Common.{◌≡◌, ◌-◌, length}
use Rattle.test_scripts.proofs.run_lines.Given as goal

abbrev pub invariant-loop-at : goal.invariant-loop-at
invariant-loop-at l = (length l.numbers ≡ length l.initial.numbers) × (length l.text ≡ 65538) × (length l.values ≡ 34257) × (length l.tags ≡ 41121) × (length l.flux ≡ 8200) × (length l.hits ≡ 8200) × (length l.hit_values ≡ 8200) × (length l.hit_tags ≡ 8200) × (length l.written ≡ 131072)

abbrev pub decreases-loop-at : goal.decreases-loop-at
decreases-loop-at l = length l.all - l.at
