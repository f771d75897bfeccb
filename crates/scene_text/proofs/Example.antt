-- Document 01's scene, read; an empty text; a text that is cut before its last LF.
use Prim.Native.Nat.{ℕ, ◌≤◌}
use Prim.Native.String.{String}
use mathlib.Core.Path.{◌≡◌, refl, ap, ◌∙◌}
use mathlib.Core.List.{List, [], ◌∷◌, ◌++◌}
use mathlib.Core.Bool.{true, false}
use lib.Ieee.{binary64, of_bits}
use lib.ListN.{length, replicate}
use borrow.Author.Tests.{ltb-false}
use Rattle.fields.specs.Split.{before, later, split, is_byte_of, bytes}
use Rattle.fields.specs.Number.{digit_of, is_hex_of, hex_pad_of, read_bits_of, is_decimal, decimal_from, is_led_by_zero_of, read_whole_of}
use Rattle.scene_text.specs.Names.{ended, run_names, run_form, solid_names, solid_form, detector_names, detector_form, ray_names, ray_form}
use Rattle.scene_text.specs.Cells.{values, joined, double_cell, whole_cell, read_below_of, read_filter_of, read_number_of, media_parts, count_media_of, media_row, media_cell, read_media_of, read_cell_of}
use Rattle.scene_text.specs.Lines.{is_nil, has, behind, read_row_of}
use Rattle.scene_text.specs.Blocks.{same_of, line_then, read_one_of, ends_well_of, read_lines_of, read_names_of}
use Rattle.scene_text.specs.Scene.{read_run_of, contents_in, Tally, tally, tallied, Slices, filled_with, refused, answered, read_scene_of}
use Rattle.scene_text.proofs.Gathering.{scene_short}
use Rattle.doubles.specs.Doubles.{#0, #1, #4}

abbrev line : String → List ℕ
line s = ended (bytes s)

-- up to the last ray's line
abbrev start : List ℕ
start =
    line "threshold bounces filter ambient a b c d e f"
    ++ (line "0 4 - 0 0 0 0 0 0 0"
    ++ (line "shape p q r active finish rho medium a b c d e f m w"
    ++ (line "cx cy cz nx ny nz ux uy uz width height resx resy"
    ++ (line "0 0 4024 0 0 3ff 0 3ff 0 401 401 2 2"
    ++ line "ox oy oz dx dy dz nm power bounce media"))))

abbrev scene : List ℕ
scene = start ++ line "3ff 3ff 0 0 0 3ff 40813 3ff 0 -"

pub run_line : read_row_of run_form (line "0 4 - 0 0 0 0 0 0 0") ≡ values true (#0 ∷ #0 ∷ #0 ∷ #0 ∷ #0 ∷ #0 ∷ #0 ∷ []) (4 ∷ 5 ∷ 0 ∷ [])
unfolding read_row_of run_form bytes ended has behind before is_nil joined read_cell_of double_cell whole_cell read_number_of read_filter_of read_below_of is_byte_of read_bits_of is_hex_of hex_pad_of digit_of read_whole_of is_led_by_zero_of is_decimal decimal_from
run_line = refl

pub counted : tallied (contents_in scene) ≡ tally true 8 0 1 1
unfolding tallied contents_in read_run_of read_names_of read_lines_of read_one_of line_then ends_well_of same_of split before later read_row_of run_names run_form solid_names solid_form detector_names detector_form ray_names ray_form bytes ended has behind is_nil joined read_cell_of double_cell whole_cell read_number_of read_filter_of read_below_of is_byte_of read_bits_of is_hex_of hex_pad_of digit_of read_whole_of is_led_by_zero_of is_decimal decimal_from read_media_of media_parts media_cell count_media_of media_row
counted = refl

pub detector_read : (contents_in scene).detectors.read ≡ values true (#0 ∷ #0 ∷ of_bits binary64 0x4024000000000000 ∷ #0 ∷ #0 ∷ #1 ∷ #0 ∷ #1 ∷ #0 ∷ #4 ∷ #4 ∷ []) (2 ∷ 2 ∷ [])
unfolding contents_in read_run_of read_names_of read_lines_of read_one_of line_then ends_well_of same_of split before later read_row_of run_names run_form solid_names solid_form detector_names detector_form ray_names ray_form bytes ended has behind is_nil joined read_cell_of double_cell whole_cell read_number_of read_filter_of read_below_of is_byte_of read_bits_of is_hex_of hex_pad_of digit_of read_whole_of is_led_by_zero_of is_decimal decimal_from read_media_of media_parts media_cell count_media_of media_row
detector_read = refl

pub ray_read : (contents_in scene).rays.read ≡ values true (#1 ∷ #1 ∷ #0 ∷ #0 ∷ #0 ∷ #1 ∷ of_bits binary64 0x4081300000000000 ∷ #1 ∷ []) (replicate 10 0)
unfolding contents_in read_run_of read_names_of read_lines_of read_one_of line_then ends_well_of same_of split before later read_row_of run_names run_form solid_names solid_form detector_names detector_form ray_names ray_form bytes ended has behind is_nil joined read_cell_of double_cell whole_cell read_number_of read_filter_of read_below_of is_byte_of read_bits_of is_hex_of hex_pad_of digit_of read_whole_of is_led_by_zero_of is_decimal decimal_from read_media_of media_parts media_cell count_media_of media_row
ray_read = refl

pub empty_text : (m : Slices) → read_scene_of [] m ≡ refused 1 m
unfolding read_scene_of answered tallied contents_in read_run_of read_names_of read_lines_of read_one_of ends_well_of split before later is_nil run_names bytes ended
empty_text m = refl

abbrev cut : List ℕ
cut = start ++ bytes "3ff 3ff 0 0 0 3ff 40813 3ff 0 -"

cut_counted : tallied (contents_in cut) ≡ tally false 7 0 1 0
unfolding tallied contents_in read_run_of read_names_of read_lines_of read_one_of line_then ends_well_of same_of split before later read_row_of run_names run_form solid_names solid_form detector_names detector_form ray_names ray_form bytes ended has behind is_nil joined read_cell_of double_cell whole_cell read_number_of read_filter_of read_below_of is_byte_of read_bits_of is_hex_of hex_pad_of digit_of read_whole_of is_led_by_zero_of is_decimal decimal_from read_media_of media_parts media_cell count_media_of media_row
cut_counted = refl

cut_short : length cut ≤ 65536
unfolding bytes ended
cut_short = ltb-false 65536 (length cut) refl

-- the ray's line is the seventh
pub cut_text : (m : Slices) → read_scene_of cut m ≡ refused 7 m
unfolding answered
cut_text m = scene_short cut m cut_short ∙ ap (λ (t : Tally). answered t (filled_with (contents_in cut) m) m) cut_counted
