-- A local buffer that is long enough holds the whole text. Assumes nothing.
use Prim.Native.Nat.{ℕ, ◌≤◌}
use mathlib.Core.Path.{◌≡◌, refl, sym, ap, ◌∙◌}
use mathlib.Core.Bool.{Bool, true, false, cond, ◌&&◌}
use mathlib.Core.List.{List}
use native.Mathlib.Omega.{arith}
use lib.Dec.{leb, eqb}
use lib.ListN.{length, replicate, length-replicate}
use borrow.Author.Tests.{le-leb, leb-true}
use Rattle.std.specs.Prelude.{Result, Ok}
use Rattle.error.specs.declared.Refusal.{Refusal}
use Rattle.error.specs.Refusals.{Checked, passed, refused_at, as_checked, after}
use Rattle.detector.proofs.Grid.{never}
use Rattle.detectors.specs.declared.Detectors.{Detectors}
use Rattle.report.specs.declared.NonSeqTraceReport.{NonSeqTraceReport}
use Rattle.detectors.specs.Detectors.{all_pixels_of, check_detectors_of}
use Rattle.filter.specs.declared.RayPathFilter.{RayPathFilter}
use Rattle.printing.specs.Printing.{Out, out, put_all}
use Rattle.printing.proofs.Writing.{written, length_put}
use Rattle.answer_text.specs.Answer.{Held, answer_text, refusal_text}
use Rattle.answer_text.proofs.Lengths.{refusal_short, answer_short}
use Rattle.host_texts.specs.Texts.{put_whole_of, is_held_of, check_held_of}
use Rattle.memory.specs.Memory.{is_hit_list_of, text_pixels}
use Rattle.fields.specs.Split.{front_of}

front_is : (l left t : List ℕ) (n : ℕ) → length t ≤ length l → out left n ≡ put_all l 0 t → front_of n left ≡ t
unfolding front_of
front_is l left t n h e =
    let w = written l left t n h e in
    let k : length left ≡ length l = ap (λ (o : Out). length o.buf) e ∙ length_put l 0 t in
    let q : n ≤ length left = omega (arith, w.0, k, h) in
    rw (le-leb _ _ q) w.1

-- what is put from a local buffer of k bytes, where the text has no more
pub whole_in : (k : ℕ) (left t f buf : List ℕ) (n : ℕ) (z : Out) → length t ≤ k → out left n ≡ put_all (replicate k 0) 0 t → f ≡ front_of n left → z ≡ put_whole_of buf f → z ≡ put_whole_of buf t
whole_in k left t f buf n z h e g w =
    let b : ℕ = 0 in
    let q : length t ≤ length (replicate k b) = omega (arith, length-replicate k b, h) in
    w ∙ ap (put_whole_of buf) (g ∙ front_is (replicate k b) left t n q e)

pub refusal_fits : (n place : ℕ) → length (refusal_text n place) ≤ 64
refusal_fits n place = omega (arith, refusal_short n place)

pub answer_held : (r : NonSeqTraceReport) (f : RayPathFilter) (m : Held) → length m.flux ≤ text_pixels → length (answer_text r f m) ≤ 131072
answer_held r f m h = omega (arith, answer_short r f m h)

-- what passed the check has no more pixels than there is room for
pub held_few : (ds : Detectors) (nf nv nt used : ℕ) (a : Result Unit Refusal) → as_checked a ≡ check_held_of ds nf nv nt used → a ≡ Ok tt → nf ≤ text_pixels
unfolding check_held_of is_held_of
held_few ds nf nv nt used a said k = go (check_detectors_of ds) (leb nf text_pixels) (eqb nf (all_pixels_of ds) && is_hit_list_of nv nt used) refl (sym said ∙ ap as_checked k)
  where
    go : (c : Checked Unit) (x y : Bool) → leb nf text_pixels ≡ x → ◌≡◌ {A = Checked Unit} (after c (cond (x && y) (passed tt) (refused_at 9 0))) (passed tt) → nf ≤ text_pixels
    go (refused_at n place) x y e g = never n place tt g
    go (passed u) true y e g = leb-true nf text_pixels e
    go (passed u) false y e g = never 9 0 tt g
