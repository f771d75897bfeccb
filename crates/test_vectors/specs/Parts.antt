-- The parts of a stored line, which stand between spaces, read as numbers and compared.
use Rattle.std.specs.Prelude.{ℕ, zero, suc, ◌+◌, ◌-◌, ◌%◌, ◌^◌, Bool, true, false, cond, ◌&&◌, List, [], length, ◌==◌, from_bits, slice_index_or, to_bits, Float, Option, None, Some, is_some, unwrap_or}
use Rattle.std.specs.Float.{binary64}
use Rattle.rays.specs.declared.vector.Vec3.{Vec3}
use Rattle.rays.specs.declared.matrix.Row.{Row}
use Rattle.rays.specs.declared.matrix.Mat4.{Mat4}
use Rattle.rays.specs.Vectors.{vec3}
use Rattle.fields.specs.Split.{split, is_byte_of}
use Rattle.fields.specs.Number.{read_bits_of, read_whole_of}

abbrev pub part_in : List ℕ → ℕ → List ℕ
part_in l k = slice_index_or (split 32 l) k []

-- n parts, of which part k is "="
unfoldable pub has_shape_of : List ℕ → ℕ → ℕ → Bool
has_shape_of l n k = cond (length (split 32 l) == n) (is_byte_of (part_in l k) 61) false

abbrev pub is_read : Option ℕ → Bool
is_read a = is_some a

abbrev pub is_number : Option ℕ → ℕ → Bool
is_number (Some a) b = a == b
is_number None b = false

abbrev pub number_or0 : Option ℕ → ℕ
number_or0 a = unwrap_or a 0

unfoldable pub bits_at_of : List ℕ → ℕ → ℕ
bits_at_of l k = number_or0 (read_bits_of (part_in l k))

-- part k is written as the bits, or as the whole number n
abbrev pub is_bits_of : List ℕ → ℕ → ℕ → Bool
is_bits_of l k n = is_number (read_bits_of (part_in l k)) n

abbrev pub is_whole_of : List ℕ → ℕ → ℕ → Bool
is_whole_of l k n = is_number (read_whole_of (part_in l k)) n

unfoldable pub is_double_of : List ℕ → Float → Bool
is_double_of t x = is_number (read_bits_of t) (to_bits binary64 x)

-- the n parts from k on are bits
unfoldable pub bits_from : List ℕ → ℕ → ℕ → Bool
bits_from l k zero = true
bits_from l k (suc n) = cond (is_read (read_bits_of (part_in l k))) (bits_from l (k + 1) n) false

-- the parts from `from` on and before `to` are
abbrev pub are_bits_of : List ℕ → ℕ → ℕ → Bool
are_bits_of l from to = bits_from l from (to - from)

-- as `has_shape_of`, and the parts before "=" are bits
unfoldable pub is_given_of : List ℕ → ℕ → ℕ → Bool
is_given_of l n k = has_shape_of l n k && are_bits_of l 0 k

unfoldable pub double_at_of : List ℕ → ℕ → Float
double_at_of l k = from_bits binary64 (bits_at_of l k)

-- k + n, as a usize adds
abbrev pub next_of : ℕ → ℕ → ℕ
next_of k n = (k + n) % 2 ^ 64

unfoldable pub vec_at_of : List ℕ → ℕ → Vec3
vec_at_of l k = vec3 (double_at_of l k) (double_at_of l (next_of k 1)) (double_at_of l (next_of k 2))

unfoldable pub is_vec_of : List ℕ → ℕ → Vec3 → Bool
is_vec_of l k v =
    is_double_of (part_in l k) v.x &&
    (is_double_of (part_in l (next_of k 1)) v.y && is_double_of (part_in l (next_of k 2)) v.z)

unfoldable pub row_at_of : List ℕ → ℕ → Row
row_at_of l k =
    record {
      a = double_at_of l k;
      b = double_at_of l (next_of k 1);
      c = double_at_of l (next_of k 2);
      d = double_at_of l (next_of k 3);
    }

unfoldable pub mat_at_of : List ℕ → ℕ → Mat4
mat_at_of l k =
    record { r0 = row_at_of l k; r1 = row_at_of l (next_of k 4); r2 = row_at_of l (next_of k 8); r3 = row_at_of l (next_of k 12) }

unfoldable pub is_dash_of : List ℕ → ℕ → Bool
is_dash_of l k = is_byte_of (part_in l k) 45
