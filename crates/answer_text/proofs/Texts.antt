-- One pixel more, one detector more. Assumes nothing.
use Prim.Native.Nat.{ℕ, suc, ◌+◌, ◌-◌, ◌/◌, ◌%◌, ◌≤◌, ◌<◌}
use mathlib.Core.Path.{◌≡◌, ap, ◌∙◌}
use mathlib.Core.List.{List, ◌++◌}
use native.Mathlib.Numerals.{add-one}
use native.Mathlib.Omega.{arith}
use lib.Ieee.{Float, nan}
use lib.ListN.{length, drop, get_or, drop_of_length-le}
use lib.Seq.{drop-cons}
use Rattle.printing.specs.Printing.{Out, out, put_all}
use Rattle.printing.proofs.Writing.{put_append}
use Rattle.answer_text.specs.Answer.{pixel_text, pixels_text, each_from}

module _ (l l2 : List ℕ) (p p2 : ℕ) (z : Out) where
  -- a text is written, and what follows it is left to be written
  pub text_again : (s t : List ℕ) → out l2 p2 ≡ put_all l p s → put_all l p (s ++ t) ≡ z → put_all l2 p2 t ≡ z
  text_again s t e f = ap (λ (o : Out). put_all o.buf o.at t) e ∙ put_append l p s t ∙ f

  pub pixels_again : (d w i : ℕ) (m : List Float) → i < length m → out l2 p2 ≡ put_all l p (pixel_text d (i % w) (i / w) (get_or m i nan)) → put_all l p (pixels_text d w i (drop i m)) ≡ z
      → put_all l2 p2 (pixels_text d w (i + 1) (drop (i + 1) m)) ≡ z
  unfolding pixels_text
  pixels_again d w i m h e f =
      let f2 = rw (drop-cons m i nan h) at f in
      rw (add-one i) (rw (add-one i) at (text_again (pixel_text d (i % w) (i / w) (get_or m i nan)) (pixels_text d w (i + 1) (drop (suc i) m)) e f2))

  pub each_again : (text : ℕ → List ℕ) (n d : ℕ) → d < n → out l2 p2 ≡ put_all l p (text d) → put_all l p (each_from text (n - d) d) ≡ z → put_all l2 p2 (each_from text (n - (d + 1)) (d + 1)) ≡ z
  unfolding each_from
  each_again text n d h e f =
      let q : n - d ≡ suc (n - (d + 1)) = omega arith in
      text_again (text d) (each_from text (n - (d + 1)) (d + 1)) e (rw q at f)

pub pixels_end : (d w i : ℕ) (m : List Float) (l : List ℕ) (p : ℕ) (z : Out) → length m ≤ i → put_all l p (pixels_text d w i (drop i m)) ≡ z → out l p ≡ z
unfolding pixels_text put_all
pixels_end d w i m l p z h f = rw (drop_of_length-le m h) at f

pub each_end : (text : ℕ → List ℕ) (n d : ℕ) (l : List ℕ) (p : ℕ) (z : Out) → n ≤ d → put_all l p (each_from text (n - d) d) ≡ z → out l p ≡ z
unfolding each_from put_all
each_end text n d l p z h f = let q : n - d ≡ 0 = omega arith in rw q at f
