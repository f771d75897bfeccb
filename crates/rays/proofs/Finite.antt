-- Several finite tests in one. Assumes nothing.
use mathlib.Core.Path.{◌≡◌, refl, ap, ◌∙◌}
use mathlib.Core.Bool.{Bool, true, false, cond, ◌&&◌}
use lib.Ieee.{Float, nan, binary64, add, sub, eq, of_bits}
use Rattle.doubles.specs.Doubles.{is_finite_of}
use Rattle.doubles.proofs.Small.{difference_of_itself}
use Rattle.rays.specs.declared.vector.Vec3.{Vec3}
use Rattle.rays.specs.Vectors.{is_finite_vec_of}

abbrev zero_or_nan : Bool → Float
zero_or_nan b = cond b (of_bits binary64 0) nan

all_zero : (a b c : Bool) → eq (add binary64 (add binary64 (zero_or_nan a) (zero_or_nan b)) (zero_or_nan c)) (of_bits binary64 0) ≡ (a && b && c)
unfolding eq add of_bits
all_zero true true true = refl
all_zero true true false = refl
all_zero true false true = refl
all_zero true false false = refl
all_zero false true true = refl
all_zero false true false = refl
all_zero false false true = refl
all_zero false false false = refl

pub all_finite : (x y z : Float) → eq (add binary64 (add binary64 (sub binary64 x x) (sub binary64 y y)) (sub binary64 z z)) (of_bits binary64 0) ≡ (is_finite_of x && is_finite_of y && is_finite_of z)
all_finite x y z =
    ap (λ (t : Float). eq (add binary64 (add binary64 t (sub binary64 y y)) (sub binary64 z z)) (of_bits binary64 0)) (difference_of_itself x)
    ∙ ap (λ (t : Float). eq (add binary64 (add binary64 (zero_or_nan (is_finite_of x)) t) (sub binary64 z z)) (of_bits binary64 0)) (difference_of_itself y)
    ∙ ap (λ (t : Float). eq (add binary64 (add binary64 (zero_or_nan (is_finite_of x)) (zero_or_nan (is_finite_of y))) t) (of_bits binary64 0)) (difference_of_itself z)
    ∙ all_zero (is_finite_of x) (is_finite_of y) (is_finite_of z)

-- ---- more than three

-- a sum of differences is 0 if all its terms are finite, and else NaN
zeros_sum : (a b : Bool) → add binary64 (zero_or_nan a) (zero_or_nan b) ≡ zero_or_nan (a && b)
unfolding add of_bits
zeros_sum true true = refl
zeros_sum true false = refl
zeros_sum false true = refl
zeros_sum false false = refl

sum_of : (a b : Bool) (x y : Float) → x ≡ zero_or_nan a → y ≡ zero_or_nan b → add binary64 x y ≡ zero_or_nan (a && b)
sum_of a b x y p q = ap (λ (t : Float). add binary64 t y) p ∙ ap (add binary64 (zero_or_nan a)) q ∙ zeros_sum a b

zero_is : (a : Bool) → eq (zero_or_nan a) (of_bits binary64 0) ≡ a
unfolding eq of_bits
zero_is true = refl
zero_is false = refl

is_zero : (a : Bool) (x : Float) → x ≡ zero_or_nan a → eq x (of_bits binary64 0) ≡ a
is_zero a x p = ap (λ (t : Float). eq t (of_bits binary64 0)) p ∙ zero_is a

abbrev vector_less : Vec3 → Float
vector_less v = add binary64 (add binary64 (sub binary64 v.x v.x) (sub binary64 v.y v.y)) (sub binary64 v.z v.z)

regroup : (a b c : Bool) → (a && (b && c)) ≡ (a && b && c)
regroup true b c = refl
regroup false b c = refl

regroup_more : (a b c d : Bool) → (a && (b && (c && d))) ≡ (a && b && c && d)
regroup_more true b c d = regroup b c d
regroup_more false b c d = refl

vector_is : (v : Vec3) → vector_less v ≡ zero_or_nan (is_finite_vec_of v)
unfolding is_finite_vec_of
vector_is v =
    sum_of (is_finite_of v.x && is_finite_of v.y) (is_finite_of v.z) (add binary64 (sub binary64 v.x v.x) (sub binary64 v.y v.y)) (sub binary64 v.z v.z)
    (sum_of (is_finite_of v.x) (is_finite_of v.y) (sub binary64 v.x v.x) (sub binary64 v.y v.y) (difference_of_itself v.x) (difference_of_itself v.y))
    (difference_of_itself v.z)

abbrev pair_less : Float → Float → Float
pair_less a b = add binary64 (sub binary64 a a) (sub binary64 b b)

pair_is : (a b : Float) → pair_less a b ≡ zero_or_nan (is_finite_of a && is_finite_of b)
pair_is a b = sum_of (is_finite_of a) (is_finite_of b) (sub binary64 a a) (sub binary64 b b) (difference_of_itself a) (difference_of_itself b)

pub five_finite : (v : Vec3) (a b : Float) → eq (add binary64 (vector_less v) (pair_less a b)) (of_bits binary64 0) ≡ (is_finite_vec_of v && is_finite_of a && is_finite_of b)
five_finite v a b =
    is_zero (is_finite_vec_of v && (is_finite_of a && is_finite_of b)) (add binary64 (vector_less v) (pair_less a b))
    (sum_of (is_finite_vec_of v) (is_finite_of a && is_finite_of b) (vector_less v) (pair_less a b) (vector_is v) (pair_is a b))
    ∙ regroup (is_finite_vec_of v) (is_finite_of a) (is_finite_of b)

pub eight_finite : (o d : Vec3) (a b : Float) → eq (add binary64 (vector_less o) (add binary64 (vector_less d) (pair_less a b))) (of_bits binary64 0) ≡ (is_finite_vec_of o && is_finite_vec_of d && is_finite_of a && is_finite_of b)
eight_finite o d a b =
    is_zero (is_finite_vec_of o && (is_finite_vec_of d && (is_finite_of a && is_finite_of b))) (add binary64 (vector_less o) (add binary64 (vector_less d) (pair_less a b)))
    (sum_of (is_finite_vec_of o) (is_finite_vec_of d && (is_finite_of a && is_finite_of b)) (vector_less o) (add binary64 (vector_less d) (pair_less a b)) (vector_is o)
    (sum_of (is_finite_vec_of d) (is_finite_of a && is_finite_of b) (vector_less d) (pair_less a b) (vector_is d) (pair_is a b)))
    ∙ regroup_more (is_finite_vec_of o) (is_finite_vec_of d) (is_finite_of a) (is_finite_of b)
