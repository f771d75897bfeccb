-- Vectors of three doubles. Every sum goes left to right and starts at its first product.
use Rattle.std.specs.Prelude.{Bool, ◌&&◌, Float}
use Rattle.std.specs.Float.{binary64}
use Rattle.std.specs.Float.Ieee.{of_bits, add, sub, mul, div, neg, lt}
use Rattle.doubles.specs.Doubles.{is_finite_of}
use Rattle.doubles.specs.Root.{sqrt_of}
use Rattle.rays.specs.declared.vector.Vec3.{Vec3}

abbrev pub vec3 : Float → Float → Float → Vec3
vec3 x y z = record { x = x; y = y; z = z }

unfoldable pub dot_of : Vec3 → Vec3 → Float
dot_of a b =
    add binary64 (add binary64 (mul binary64 a.x b.x) (mul binary64 a.y b.y)) (mul binary64 a.z b.z)

-- each part a product minus a product
unfoldable pub cross_of : Vec3 → Vec3 → Vec3
cross_of a b =
    vec3
    (sub binary64 (mul binary64 a.y b.z) (mul binary64 a.z b.y))
    (sub binary64 (mul binary64 a.z b.x) (mul binary64 a.x b.z))
    (sub binary64 (mul binary64 a.x b.y) (mul binary64 a.y b.x))

unfoldable pub plus_of : Vec3 → Vec3 → Vec3
plus_of a b = vec3 (add binary64 a.x b.x) (add binary64 a.y b.y) (add binary64 a.z b.z)

unfoldable pub minus_of : Vec3 → Vec3 → Vec3
minus_of a b = vec3 (sub binary64 a.x b.x) (sub binary64 a.y b.y) (sub binary64 a.z b.z)

unfoldable pub scale_of : Vec3 → Float → Vec3
scale_of a k = vec3 (mul binary64 a.x k) (mul binary64 a.y k) (mul binary64 a.z k)

unfoldable pub divide_of : Vec3 → Float → Vec3
divide_of a k = vec3 (div binary64 a.x k) (div binary64 a.y k) (div binary64 a.z k)

unfoldable pub negate_of : Vec3 → Vec3
negate_of a = vec3 (neg a.x) (neg a.y) (neg a.z)

-- the length: the root of the vector's dot product with itself
unfoldable pub norm_of : Vec3 → Float
norm_of a = sqrt_of (dot_of a a)

-- 1e-15: a vector of at most this length has no direction
abbrev pub min_length : Float
min_length = of_bits binary64 0x3cd203af9ee75616

-- a length above that and finite
unfoldable pub has_direction_of : Vec3 → Bool
has_direction_of a = lt min_length (norm_of a) && is_finite_of (norm_of a)

-- each part divided by the length
unfoldable pub normalize_of : Vec3 → Vec3
normalize_of a = divide_of a (norm_of a)

unfoldable pub is_finite_vec_of : Vec3 → Bool
is_finite_vec_of a = is_finite_of a.x && is_finite_of a.y && is_finite_of a.z

abbrev pub is_finite_with_of : Vec3 → Float → Float → Bool
is_finite_with_of v a b = is_finite_vec_of v && is_finite_of a && is_finite_of b
