-- The answer to a text, by what reading it answers. Assumes nothing.
use Prim.Native.Nat.{ℕ}
use mathlib.Core.Path.{◌≡◌, ap, sym, ◌∙◌}
use mathlib.Core.List.{List}
use Rattle.std.specs.Prelude.{Result, Ok, Err}
use Rattle.error.specs.declared.Refusal.{Refusal}
use Rattle.error.specs.Refusals.{number_of}
use Rattle.printing.specs.Printing.{Out, put_all}
use Rattle.answer_text.specs.Answer.{refusal_text}
use Rattle.scene_text.specs.Scene.{Slices, answer_of, read_scene_of}
use Rattle.scene_text.specs.declared.scene.Counts.{Counts}
use Rattle.map_text.specs.Tables.{tables, map_text}
use Rattle.map_text.specs.StrayMap.{room, answer_to, stray_map_text}

module _ (s : List ℕ) (c : Result Counts Refusal) (m : Slices) (q : answer_of c m ≡ read_scene_of s room) (b : List ℕ) (p : ℕ) (w : Out) where
  told : put_all b p (answer_to (answer_of c m)) ≡ put_all b p (stray_map_text s)
  unfolding stray_map_text
  told = ap (λ a. put_all b p (answer_to a)) q

  pub text_refused : (x : Refusal) (n : ℕ) → c ≡ Err x → n ≡ number_of x.error → w ≡ put_all b p (refusal_text n x.place) → w ≡ put_all b p (stray_map_text s)
  unfolding answer_to
  text_refused x n e y z =
      z ∙ ap (λ r. put_all b p (refusal_text r x.place)) y ∙ ap (λ r. put_all b p (answer_to (answer_of r m))) (sym e) ∙ told

  pub text_mapped : (k : Counts) → c ≡ Ok k → w ≡ put_all b p (map_text (tables m.run_values m.run_tags m.solid_values m.solid_tags k.solids m.detector_values m.detector_tags k.detectors m.ray_values m.ray_tags k.rays)) → w ≡ put_all b p (stray_map_text s)
  unfolding answer_to
  text_mapped k e z = z ∙ ap (λ r. put_all b p (answer_to (answer_of r m))) (sym e) ∙ told
