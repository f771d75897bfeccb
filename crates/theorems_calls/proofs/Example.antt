-- A memory, a detector and a list of calls that meet every hypothesis and have hits in them: document 01's scene traced, a hit recorded, a filter, and the scene again, for which the list has no room. And a batch in parts of which one is refused.
use Prim.Native.Nat.{ℕ, zero, suc, ◌*◌, ◌<◌}
use mathlib.Core.Path.{◌≡◌, refl, ap, subst, ◌∙◌}
use mathlib.Core.List.{List, [], ◌∷◌, ◌++◌}
use native.Mathlib.Omega.{arith}
use lib.Ieee.{Float, nan, binary64, add, sub, mul, div, neg, lt, le, of_bits, to_bits, of_int, to_unsigned}
use lib.ListN.{length, replicate, get_or-replicate}
use Rattle.doubles.specs.Doubles.{abs_of, clamp_of, is_finite_of, #0, #1, #4, #10}
use Rattle.doubles.specs.Root.{sqrt_of}
use Rattle.error.specs.Refusals.{passed}
use Rattle.rays.specs.Rays.{at_of, is_finite_ray_of, is_valid_ray_of}
use Rattle.rays.specs.Vectors.{vec3, dot_of, cross_of, plus_of, minus_of, scale_of, divide_of, norm_of, has_direction_of, normalize_of, is_finite_vec_of}
use Rattle.material.specs.declared.OpticalMedium.TheVariants.{Air}
use Rattle.nearest.specs.Nearest.{is_nearer_of, nearer_of, nearest_from, nearest_among}
use Rattle.scene.specs.Solids.{check_tags_of, check_solids_of}
use Rattle.scene.specs.Closest.{closest_object_of}
use Rattle.detector.specs.declared.Detector2D.{Detector2D}
use Rattle.detector.specs.Checks.{is_size_of, is_pose_of, is_parallel_of, check_pose_of, check_grid_of, check_detector_of}
use Rattle.detector.specs.Faces.{orthogonal_of, face_of, across_of, face_intersect_ray_of}
use Rattle.detector.specs.Pixels.{index_along_of, pixels_of, pixel_at_of}
use Rattle.detectors.specs.Detectors.{no_detector, detector_at, first_pixel_of, all_pixels_of, check_list_of, check_detectors_of, check_count_of, check_each_of, check_asked, placed_of, find_of}
use Rattle.detector.specs.declared.DetectorHit.{DetectorHit}
use Rattle.memory.specs.Memory.{Memory, hit_doubles, hit_wholes, done, refused, memory_left, judged, cell_of, cell_in, capacity, is_hit_list_of, are_hits_of, are_lengths_of, is_memory}
use Rattle.memory.specs.Plain.{Empty, sharing, added, part_in, view_in, plus_hit, plus_all}
use Rattle.memory.proofs.Plain.{map_outcome}
use Rattle.filter.specs.declared.RayPathFilter.TheVariants.{All, GhostsOnly}
use Rattle.filter.specs.Handed.{handed, check_placed, check_filter_of}
use Rattle.faces.specs.Faces.{new_faces_of, sight_from, face_count_of, nearest_detector_of}
use Rattle.step.specs.Steps.{first_ahead_of, meets_with, interact_of, take_step_of}
use Rattle.given_rays.specs.Given.{read_ray_of, read_media_of, given_at_of, check_lists_of, all_solids_of, valid_media_of, check_ray_of, check_rays_of, launched_from, launched_of}
use Rattle.run.specs.Stack.{empty_stack_of, load_of, taken_from, pushed_if, popped, stack_after}
use Rattle.run.specs.Run.{hit_in_of, refusal_in_of, is_left, step_on, drive}
use Rattle.trace.specs.Trace.{Batch, check_flat_of, check_config_of, check_counts_of, check_rules_of, check_lengths_of, check_scene_of, checks_with, check_trace_of, check_batch, start_of, run_on}
use Rattle.theorems_calls.specs.Parts.{Part, Exact, AllExact, no_rays, joined_all, with_rays, Splits, trace_parts}
use Rattle.theorems_calls.specs.Calls.{Call, tracing, recording, refilter, filter_said, answer_in, outcome_in, memory_after}
use Rattle.theorems_calls.specs.Book.{granted, check_hit, wish_in, bare, plain_hit, book_granted, book_after, book_view, book_asked, book_filtered, book_answer, Told}
use Rattle.theorems_calls.proofs.Split.{split}
use Rattle.theorems_calls.proofs.Lists.{call_booked, told}
use Rattle.theorems_calls.proofs.Answers.{answers}

abbrev #550 : Float
#550 = of_bits binary64 0x4081300000000000

abbrev #5 : Float
#5 = of_bits binary64 0x4014000000000000

abbrev detector : Detector2D
detector =
    record {
      center = vec3 #0 #0 #10;
      normal = vec3 #0 #0 #1;
      up = vec3 #0 #1 #0;
      width_mm = #4;
      height_mm = #4;
      res_x = 2;
      res_y = 2;
      total_flux_watts = #0;
      total_rays_hit = 0;
    }

-- two by two pixels, room for n hits; the seven array places behind the detector are unset
abbrev room_for : ℕ → Memory
room_for n =
    record {
      detectors = record { list = detector ∷ replicate 7 no_detector; count = 1 };
      flux = replicate 4 #0;
      hits = replicate 4 0;
      hit_values = replicate (hit_doubles * n) nan;
      hit_tags = replicate (hit_wholes * n) 7;
      used = 0;
    }

first_empty : {A : Type 0} (g : Detector2D → A) (d : ℕ) → d < 1 → g (detector_at (detector ∷ replicate 7 no_detector) d) ≡ g detector
first_empty g zero k = refl
first_empty g (suc d) k = absurd (omega arith)

room_empty : (n : ℕ) → Empty (room_for n)
room_empty n =
    record {
      used = refl;
      flux = λ p k. get_or-replicate 4 p #0 nan k;
      hits = λ p k. get_or-replicate 4 p 0 0 k;
      totals = λ d k q. first_empty (λ (e : Detector2D). e.total_flux_watts) d k;
      counts = λ d k q. first_empty (λ (e : Detector2D). e.total_rays_hit) d k;
    }

-- ---- a list of calls, with room for two hits

abbrev pub memory : Memory
memory = room_for 2

pub eight : length memory.detectors.list ≡ 8
eight = refl

pub empty : Empty memory
empty = room_empty 2

-- no solids, one ray from (1, 1, 0) along z
abbrev batch : Batch
batch =
    record {
      config = record { max_bounces = 4; min_power_threshold = #0; ambient_medium = Air };
      solid_values = [];
      solid_tags = [];
      solids = 0;
      ray_values = #1 ∷ #1 ∷ #0 ∷ #0 ∷ #0 ∷ #1 ∷ #550 ∷ #1 ∷ [];
      ray_tags = replicate 10 0;
      rays = 1;
    }

abbrev traced : DetectorHit
traced =
    record { local_x = #1; local_y = #1; flux_watts = #1; wavelength_nm = #550; detector = record { 0 = 0 }; bounce_count = 0; reflection_count = 0; tir_count = 0 }

abbrev recorded : DetectorHit
recorded =
    record { local_x = #0; local_y = #0; flux_watts = #4; wavelength_nm = #550; detector = record { 0 = 0 }; bounce_count = 1; reflection_count = 1; tir_count = 0 }

abbrev sifting : Call
sifting = refilter (record { 0 = 0 }) GhostsOnly (replicate 4 #1)

abbrev pub calls : List Call
calls = tracing batch ∷ recording recorded ∷ sifting ∷ tracing batch ∷ []

one : book_granted (bare memory) (wish_in (tracing batch)) [] ≡ done (traced ∷ [])
unfolding granted wish_in bare run_on drive start_of empty_stack_of launched_of launched_from given_at_of read_ray_of read_media_of is_left step_on taken_from load_of take_step_of interact_of nearest_detector_of nearest_among nearest_from nearer_of is_nearer_of sight_from face_count_of new_faces_of face_of orthogonal_of face_intersect_ray_of across_of normalize_of norm_of dot_of cross_of minus_of plus_of scale_of divide_of at_of closest_object_of first_ahead_of meets_with hit_in_of refusal_in_of stack_after popped pushed_if plain_hit judged cell_in cell_of placed_of first_pixel_of pixels_of pixel_at_of index_along_of clamp_of of_int to_unsigned sharing capacity check_batch check_trace_of check_flat_of check_solids_of check_tags_of check_lists_of check_rules_of check_config_of check_counts_of check_scene_of checks_with check_detectors_of check_count_of check_each_of check_list_of check_detector_of check_grid_of check_pose_of is_size_of is_pose_of has_direction_of is_parallel_of check_lengths_of are_lengths_of is_hit_list_of are_hits_of all_pixels_of is_memory find_of check_asked check_rays_of check_ray_of is_valid_ray_of valid_media_of all_solids_of is_finite_ray_of is_finite_vec_of is_finite_of abs_of sqrt_of of_bits to_bits add sub mul div neg lt le
one = refl

two : book_granted (bare memory) (wish_in (recording recorded)) (traced ∷ []) ≡ done (traced ∷ recorded ∷ [])
unfolding granted wish_in check_hit bare check_asked placed_of check_detectors_of check_count_of check_each_of check_list_of check_detector_of check_grid_of check_pose_of is_size_of is_pose_of has_direction_of is_finite_vec_of is_parallel_of is_memory are_lengths_of is_hit_list_of are_hits_of all_pixels_of first_pixel_of pixels_of plain_hit judged cell_in cell_of pixel_at_of index_along_of clamp_of of_int to_unsigned sharing capacity normalize_of norm_of dot_of divide_of is_finite_of abs_of sqrt_of of_bits to_bits add sub mul div neg lt le
two = refl

unasked : book_granted (bare memory) (wish_in sifting) (traced ∷ recorded ∷ []) ≡ done (traced ∷ recorded ∷ [])
unfolding granted wish_in
unasked = refl

-- the last call ends because the list is full
pub full : book_granted (bare memory) (wish_in (tracing batch)) (traced ∷ recorded ∷ []) ≡ refused 12 0 (traced ∷ recorded ∷ [])
unfolding granted wish_in bare run_on drive start_of empty_stack_of launched_of launched_from given_at_of read_ray_of read_media_of is_left step_on taken_from load_of take_step_of interact_of nearest_detector_of nearest_among nearest_from nearer_of is_nearer_of sight_from face_count_of new_faces_of face_of orthogonal_of face_intersect_ray_of across_of normalize_of norm_of dot_of cross_of minus_of plus_of scale_of divide_of at_of closest_object_of first_ahead_of meets_with hit_in_of refusal_in_of stack_after popped pushed_if plain_hit judged cell_in cell_of placed_of first_pixel_of pixels_of pixel_at_of index_along_of clamp_of of_int to_unsigned sharing capacity check_batch check_trace_of check_flat_of check_solids_of check_tags_of check_lists_of check_rules_of check_config_of check_counts_of check_scene_of checks_with check_detectors_of check_count_of check_each_of check_list_of check_detector_of check_grid_of check_pose_of is_size_of is_pose_of has_direction_of is_parallel_of check_lengths_of are_lengths_of is_hit_list_of are_hits_of all_pixels_of is_memory find_of check_asked check_rays_of check_ray_of is_valid_ray_of valid_media_of all_solids_of is_finite_ray_of is_finite_vec_of is_finite_of abs_of sqrt_of of_bits to_bits add sub mul div neg lt le
full = refl

-- the book has both hits
pub listed : book_after (bare memory) calls [] ≡ traced ∷ recorded ∷ []
unfolding book_after
listed =
    ap (λ o. book_after (bare memory) (recording recorded ∷ sifting ∷ tracing batch ∷ []) (memory_left o)) one
    ∙ ap (λ o. book_after (bare memory) (sifting ∷ tracing batch ∷ []) (memory_left o)) two
    ∙ ap (λ o. book_after (bare memory) (tracing batch ∷ []) (memory_left o)) unasked
    ∙ ap memory_left full

-- so the theorem speaks of this memory: two hits used, and what they make of it
pub example : Told memory (memory_after calls memory) (traced ∷ recorded ∷ [])
example = subst (Told memory (memory_after calls memory)) listed (told memory eight empty calls)

-- and All answers then what both hits make: five watts, two hits, and the work map as it was
abbrev counting : Call
counting = refilter (record { 0 = 0 }) All (replicate 4 #1)

counted : book_answer (bare memory) counting (traced ∷ recorded ∷ []) ≡ filter_said (handed (passed tt) (replicate 4 #1) #5 2)
unfolding book_answer book_filtered book_asked book_view bare plus_all plus_hit view_in part_in check_filter_of check_placed find_of check_asked placed_of check_detectors_of check_count_of check_each_of check_list_of check_detector_of check_grid_of check_pose_of is_size_of is_pose_of has_direction_of is_finite_vec_of is_parallel_of is_hit_list_of are_hits_of all_pixels_of first_pixel_of pixels_of pixel_at_of index_along_of clamp_of of_int to_unsigned normalize_of norm_of dot_of divide_of is_finite_of abs_of sqrt_of of_bits to_bits add sub mul div neg lt le
counted = refl

pub answer_example : answer_in counting (memory_after calls memory) ≡ filter_said (handed (passed tt) (replicate 4 #1) #5 2)
answer_example = answers memory eight empty calls counting ∙ ap (book_answer (bare memory) counting) listed ∙ counted

-- ---- three rays in parts of one, and an empty part, with room for one hit: the last ray fills the list, the one before it
-- is refused by 12 at its place in the batch, the first is not traced

abbrev ray : Float → Part
ray x = record { ray_values = x ∷ x ∷ #0 ∷ #0 ∷ #0 ∷ #1 ∷ #550 ∷ #1 ∷ []; ray_tags = replicate 10 0; rays = 1 }

abbrev parts : List Part
parts = ray #0 ∷ ray #0 ∷ no_rays ∷ ray #1 ∷ []

abbrev three : Batch
three = with_rays batch (record { ray_values = (ray #0).ray_values ++ (ray #0).ray_values ++ (ray #1).ray_values; ray_tags = replicate 30 0; rays = 3 })

abbrev exact : (x : Float) → Exact (ray x)
exact x = record { ray_values = refl; ray_tags = refl }

splits : Splits three parts
unfolding joined_all AllExact
splits = record { exact = (exact #0, (exact #0, (record { ray_values = refl; ray_tags = refl }, (exact #1, tt)))); whole = refl }

passes : check_batch three (room_for 1) ≡ passed tt
unfolding check_batch check_trace_of check_flat_of check_solids_of check_tags_of check_lists_of check_rules_of check_config_of check_counts_of check_scene_of checks_with check_detectors_of check_count_of check_each_of check_list_of check_detector_of check_grid_of check_pose_of is_size_of is_pose_of has_direction_of is_parallel_of check_lengths_of are_lengths_of is_hit_list_of are_hits_of all_pixels_of first_pixel_of pixels_of check_rays_of check_ray_of given_at_of read_ray_of read_media_of is_valid_ray_of valid_media_of all_solids_of is_finite_ray_of is_finite_vec_of is_finite_of abs_of sqrt_of normalize_of norm_of dot_of divide_of of_bits to_bits add sub mul div neg lt le
passes = refl

refused_second : book_granted (bare (room_for 1)) (wish_in (tracing three)) [] ≡ refused 12 1 (traced ∷ [])
unfolding granted wish_in bare run_on drive start_of empty_stack_of launched_of launched_from given_at_of read_ray_of read_media_of is_left step_on taken_from load_of take_step_of interact_of nearest_detector_of nearest_among nearest_from nearer_of is_nearer_of sight_from face_count_of new_faces_of face_of orthogonal_of face_intersect_ray_of across_of normalize_of norm_of dot_of cross_of minus_of plus_of scale_of divide_of at_of closest_object_of first_ahead_of meets_with hit_in_of refusal_in_of stack_after popped pushed_if plain_hit judged cell_in cell_of placed_of first_pixel_of pixels_of pixel_at_of index_along_of clamp_of of_int to_unsigned sharing capacity check_batch check_trace_of check_flat_of check_solids_of check_tags_of check_lists_of check_rules_of check_config_of check_counts_of check_scene_of checks_with check_detectors_of check_count_of check_each_of check_list_of check_detector_of check_grid_of check_pose_of is_size_of is_pose_of has_direction_of is_parallel_of check_lengths_of are_lengths_of is_hit_list_of are_hits_of all_pixels_of is_memory find_of check_asked check_rays_of check_ray_of is_valid_ray_of valid_media_of all_solids_of is_finite_ray_of is_finite_vec_of is_finite_of abs_of sqrt_of of_bits to_bits add sub mul div neg lt le
refused_second = refl

pub split_example : trace_parts three parts (room_for 1) ≡ refused 12 1 (added (room_for 1) (traced ∷ []))
unfolding outcome_in added
split_example =
    split three parts (room_for 1) splits passes ∙ call_booked (room_for 1) refl (room_empty 1) (tracing three) []
    ∙ ap (map_outcome (added (room_for 1))) refused_second
