-- How long the text of a tracing is at most, by the pixels that its memory holds. Assumes nothing.
use Prim.Native.Nat.{ℕ, ◌≤◌}
use native.Mathlib.Nat.{min-le_right}
use native.Mathlib.Omega.{arith}
use lib.ListN.{length, take, replicate, length-take, length-replicate}
use Rattle.detectors.specs.declared.Detectors.{Detectors}
use Rattle.detectors.specs.Detectors.{all_pixels_of}
use Rattle.memory.specs.Memory.{Memory, Outcome, done, refused, memory_left, text_pixels}
use Rattle.filter.specs.declared.RayPathFilter.{RayPathFilter}
use Rattle.report.specs.declared.NonSeqTraceReport.{NonSeqTraceReport}
use Rattle.trace.specs.Trace.{Trace}
use Rattle.answer_text.specs.Answer.{held, few_of}
use Rattle.answer_text.proofs.Lengths.{answer_short, refusal_short}
use Rattle.map_text.specs.Tables.{memory_in, outcome_text, traced_text}
use Rattle.doubles.specs.Doubles.{#0}

outcome_short : (f : RayPathFilter) (r : NonSeqTraceReport) (o : Outcome Memory) → length (memory_left o).flux ≤ text_pixels → length (outcome_text f r o) ≤ 120016
outcome_short f r (done m) h = answer_short r f (held m.detectors m.flux m.hit_values m.hit_tags m.used) h
outcome_short f r (refused n place m) h = omega (arith, refusal_short n place)

pub trace_short : (f : RayPathFilter) (t : Trace Memory) → length (memory_left t.outcome).flux ≤ text_pixels → length (traced_text f t) ≤ 120016
unfolding traced_text
trace_short f t = outcome_short f t.report t.outcome

taken_short : {A : Type 0} (p n : ℕ) (x : A) → length (take p (replicate n x)) ≤ n
taken_short p n x = rw (length-take p (replicate n x), length-replicate n x) (min-le_right p n)

pub memory_short : (ds : Detectors) → length (memory_in ds).flux ≤ text_pixels
unfolding memory_in
memory_short ds = taken_short (few_of (all_pixels_of ds)) text_pixels #0
