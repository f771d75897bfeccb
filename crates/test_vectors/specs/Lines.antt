-- Whether a stored line agrees with the definitions that the functions equal. So the number of lines that agree says
-- how the definitions do on the stored answers.
use Rattle.std.specs.Prelude.{ℕ, zero, suc, ◌+◌, Bool, false, cond, ◌&&◌, List, length, drop, ◌==◌, from_bits, nat_lt, slice_index, Float, Option, None, Some}
use Rattle.std.specs.Float.{binary64}
use Rattle.std.specs.Float.Ieee.{to_unsigned}
use Rattle.doubles.specs.Doubles.{abs_of, max_zero_of, clamp_of, is_finite_of}
use Rattle.doubles.specs.Root.{sqrt_of}
use Rattle.error.specs.Refusals.{Answer, value, refusal}
use Rattle.source.specs.declared.Rng64.{Rng64}
use Rattle.source.specs.Random.{new_of, next_u64_of, next_f64_of}
use Rattle.material.specs.declared.OpticalMedium.{OpticalMedium}
use Rattle.material.specs.Media.{numbered_medium_of, refractive_index_of}
use Rattle.fields.specs.Number.{read_bits_of, read_whole_of}
use Rattle.test_vectors.specs.declared.lines.Kind.{Kind}
use Rattle.test_vectors.specs.declared.lines.Kind.TheVariants.{Root, Double, Draw, State, Vector, Matrix, Index}
use Rattle.test_vectors.specs.declared.lines.Kind.TheVariants.{Shape, Solid, Crossing, Recording}
use Rattle.rays.specs.declared.vector.Vec3.{Vec3}
use Rattle.rays.specs.declared.Ray.{Ray}
use Rattle.rays.specs.Vectors.{dot_of, cross_of, plus_of, minus_of, scale_of, divide_of, negate_of, norm_of, normalize_of}
use Rattle.rays.specs.Matrices.{transform_point_of, transform_direction_of, transform_normal_of}
use Rattle.rays.specs.Rays.{at_of}
use Rattle.test_vectors.specs.Parts.{part_in, has_shape_of, is_number, bits_at_of, are_bits_of, double_at_of, is_double_of}
use Rattle.test_vectors.specs.Parts.{is_given_of, vec_at_of, is_vec_of, mat_at_of}
use Rattle.test_vectors.specs.SolidLines.{shape_line_of, solid_line_of}
use Rattle.test_vectors.specs.DetectorLines.{crossing_line_of, recording_line_of}

-- x = the root of x
unfoldable pub root_line_of : List ℕ → Bool
root_line_of l = is_given_of l 3 1 && is_double_of (part_in l 2) (sqrt_of (from_bits binary64 (bits_at_of l 0)))

-- x = its absolute value, its maximum with 0.0, x clamped to 0.0 and 0.999999, 1 if it is finite, x as usize
unfoldable pub double_line_of : List ℕ → Bool
double_line_of l =
    let x = from_bits binary64 (bits_at_of l 0) in
    is_given_of l 7 1
    && (is_double_of (part_in l 2) (abs_of x)
    && (is_double_of (part_in l 3) (max_zero_of x)
    && (is_double_of (part_in l 4) (clamp_of x (from_bits binary64 0) (from_bits binary64 0x3feffffde7210be9))
    && (is_number (read_whole_of (part_in l 5)) (cond (is_finite_of x) 1 0)
    && is_number (read_bits_of (part_in l 6)) (to_unsigned 64 x)))))

-- the parts from k on are n drawn numbers and then one drawn double
unfoldable pub draws_agree_of : List ℕ → ℕ → ℕ → Rng64 → Bool
draws_agree_of l zero k g = is_double_of (part_in l k) (next_f64_of g).value
draws_agree_of l (suc n) k g =
    cond (is_number (read_bits_of (part_in l k)) (next_u64_of g).value) (draws_agree_of l n (k + 1) (next_u64_of g).rng) false

-- seed = five drawn numbers, then one drawn double
unfoldable pub draw_line_of : List ℕ → Bool
draw_line_of l = is_given_of l 8 1 && draws_agree_of l 5 2 (new_of (bits_at_of l 0))

-- state = the next state, and the number drawn with it
unfoldable pub state_line_of : List ℕ → Bool
state_line_of l =
    let g : Rng64 = record { state = bits_at_of l 0 } in
    is_given_of l 4 1 && (is_number (read_bits_of (part_in l 2)) (next_u64_of g).rng.state && is_number
    (read_bits_of (part_in l 3)) (next_u64_of g).value)

unfoldable pub pair_agrees_of : List ℕ → Vec3 → Vec3 → Bool
pair_agrees_of l a b =
    (is_double_of (part_in l 8) (dot_of a b) && is_vec_of l 9 (cross_of a b)) &&
    (is_vec_of l 12 (plus_of a b) && is_vec_of l 15 (minus_of a b))

unfoldable pub one_agrees_of : List ℕ → Vec3 → Float → Bool
one_agrees_of l a k =
    (is_vec_of l 18 (scale_of a k) && is_vec_of l 21 (divide_of a k)) &&
    (is_vec_of l 24 (negate_of a) && (is_double_of (part_in l 27) (norm_of a) && is_vec_of l 28 (normalize_of a)))

-- a, b, k = dot, cross, sum, difference, a scaled by k, divided by k and negated, its length, a normalized, the point
-- at k of the ray from a along b
unfoldable pub vector_line_of : List ℕ → Bool
vector_line_of l =
    let a = vec_at_of l 0 in
    let b = vec_at_of l 3 in
    let k = double_at_of l 6 in
    let r : Ray = record {
      origin = a;
      direction = b;
      wavelength_nm = from_bits binary64 0;
      energy = from_bits binary64 0;
    } in
    is_given_of l 34 7 && ((pair_agrees_of l a b && one_agrees_of l a k) && is_vec_of l 31 (at_of r k))

-- matrix, v = it times v as a point and as a direction, its transpose times v as a normal
unfoldable pub matrix_line_of : List ℕ → Bool
matrix_line_of l =
    let m = mat_at_of l 0 in
    let v = vec_at_of l 16 in
    is_given_of l 29 19 && (is_vec_of l 20 (transform_point_of m v) &&
    (is_vec_of l 23 (transform_direction_of m v) && is_vec_of l 26 (transform_normal_of m v)))

unfoldable pub medium_of : ℕ → List ℕ → Option OpticalMedium
medium_of n l =
    numbered_medium_of n (double_at_of l 1) (double_at_of l 2) (double_at_of l 3) (double_at_of l 4) (double_at_of l 5)
    (double_at_of l 6)

-- r and the number
unfoldable pub is_refusal_of : List ℕ → ℕ → Bool
is_refusal_of t n =
    cond (nat_lt 0 (length t)) (cond (slice_index t 0 == 114) (is_number (read_whole_of (drop 1 t)) n) false) false

unfoldable pub is_answer_of : List ℕ → Answer Float → Bool
is_answer_of t (value n) = is_double_of t n
is_answer_of t (refusal n) = is_refusal_of t n

unfoldable pub index_agrees : List ℕ → Option OpticalMedium → Bool
index_agrees l (Some m) =
    (has_shape_of l 10 8 && are_bits_of l 1 8) && is_answer_of (part_in l 9) (refractive_index_of m (double_at_of l 7))
index_agrees l None = false

unfoldable pub index_of_medium : Option ℕ → List ℕ → Bool
index_of_medium (Some n) l = index_agrees l (medium_of n l)
index_of_medium None l = false

-- medium, its six coefficients, wavelength = index, or r with the number of the refusal
unfoldable pub index_line_of : List ℕ → Bool
index_line_of l = index_of_medium (read_whole_of (part_in l 0)) l

unfoldable pub line_agrees_of : Kind → List ℕ → Bool
line_agrees_of Root l = root_line_of l
line_agrees_of Double l = double_line_of l
line_agrees_of Draw l = draw_line_of l
line_agrees_of State l = state_line_of l
line_agrees_of Vector l = vector_line_of l
line_agrees_of Matrix l = matrix_line_of l
line_agrees_of Index l = index_line_of l
line_agrees_of Shape l = shape_line_of l
line_agrees_of Solid l = solid_line_of l
line_agrees_of Crossing l = crossing_line_of l
line_agrees_of Recording l = recording_line_of l
