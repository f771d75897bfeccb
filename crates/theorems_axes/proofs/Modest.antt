-- How far a rounded product, sum or difference of modest doubles lies from the exact one: by at most 2 ^ -40, since a
-- value of at most 64 is moved by at most one of its 2 ^ 50 parts. Numbers as large as L and E are variables wherever
-- arithmetic is done, since `omega` bounds its coefficients. Assumes nothing.
use Prim.Native.Nat.{ℕ, ◌+◌, ◌-◌, ◌*◌, ◌^◌, ◌≤◌, ◌<◌}
use native.Mathlib.Nat.{le_of_lt, lt_of_le_of_lt, mul_comm, mul-le-mul_left, mul-le-mul_right, mul-pos, le_of_mul-le-mul_right, mul-sub}
use native.Mathlib.Omega.{arith}
use mathlib.Core.Path.{◌≡◌, refl, sym, ap, ◌∙◌, subst}
use mathlib.Core.Bool.{Bool, true, false, not, cond}
use lib.Dec.{T, ltb, ltb→lt, nltb→le, lit≤, lit<}
use lib.Pow.{pow_pos}
use lib.Ieee.{Float, nan, inf, fin, binary64, up, down, unlike, round, sum, add, sub, mul, neg}
use lib.Ieee.Exact.{HasValue}
use lib.Ieee.Fits.{down_pos}
use lib.Ieee.Scale.{grid, round_same}
use Rattle.theorems_axes.specs.Axes.{L, E, Within}
use Rattle.theorems_axes.proofs.Words.{plus, minus}
use Rattle.theorems_axes.proofs.Nearly.{Under, Near}
use Rattle.theorems_axes.proofs.Rounded.{grid_near, round_value}

-- ---- rounding a fraction of at most 64

-- by one of 2 ^ 50 parts and c more, where t is c times 2 ^ -40 and n at most 64 times c
close : (x n t c : ℕ) → 2 * c ≤ t → n ≤ 2 ^ 46 * t → Near 1 c x n → Within t x n
close x n t c p q w = (above w.0, below w.1 (above w.0))
  where
    above : Under 1 c x n → x ≤ n + t
    above h = omega arith

    below : Under 1 c n x → x ≤ n + t → n ≤ x + t
    below h g = omega arith

rounded : (s : Bool) (a c : ℕ) → 0 < c → a ≤ 64 * c → (Z : ℕ) × HasValue (round binary64 s a c) s Z L × Within (c * E) (Z * c) (a * L)
rounded s a c C h =
    let g = grid binary64 a c in
    let near : Within (c * E) (g * c) (a * L) = close (g * c) (a * L) (c * E) c (twice c E (mul-le-mul_left c (lit≤ tt))) (modest a c L E refl (mul-le-mul_right L h)) (grid_near a c C) in
    (g, round_value s a c (lt_of_le_of_lt (le_of_mul-le-mul_right (room g a c L E near.0 (mul-le-mul_right L h)) C) (lit< tt)), near)
  where
    twice : (c e : ℕ) → c * 2 ≤ c * e → 2 * c ≤ c * e
    twice c e h = omega arith

    modest : (a c l e : ℕ) → l ≡ 2 ^ 40 * e → a * l ≤ 64 * c * l → a * l ≤ 2 ^ 46 * (c * e)
    modest a c l e p h =
        let q : c * l ≡ c * (2 ^ 40 * e) = ap (λ (x : ℕ). c * x) p in
        omega arith

    room : (g a c l e : ℕ) → g * c ≤ a * l + c * e → a * l ≤ 64 * c * l → g * c ≤ (64 * l + e) * c
    room g a c l e h k = omega arith

-- ---- products

product_size : (X Y : ℕ) → X ≤ 4 * L → Y ≤ 4 * L → X * Y ≤ 64 * (L * L)
product_size X Y h k = go X Y L h k
  where
    go : (X Y l : ℕ) → X ≤ 4 * l → Y ≤ 4 * l → X * Y ≤ 64 * (l * l)
    go X Y l h k =
        let a : X * Y ≤ 4 * l * Y = mul-le-mul_right Y h in
        let b : l * Y ≤ l * (4 * l) = mul-le-mul_left l k in
        omega arith

-- one power of L is cancelled
fewer : (Z P l e : ℕ) → 0 < l → Within (l * l * e) (Z * (l * l)) (P * l) → Within (e * l) (Z * l) P
fewer Z P l e h w = (le_of_mul-le-mul_right (left Z P l e w.0) h, le_of_mul-le-mul_right (right Z P l e w.1) h)
  where
    left : (Z P l e : ℕ) → Z * (l * l) ≤ P * l + l * l * e → Z * l * l ≤ (P + e * l) * l
    left Z P l e h = omega arith

    right : (Z P l e : ℕ) → P * l ≤ Z * (l * l) + l * l * e → P * l ≤ (Z * l + e * l) * l
    right Z P l e h = omega arith

both_values : (x y X Y l d f : ℕ) → x * l ≡ X * d → y * l ≡ Y * f → x * y * (l * l) ≡ X * Y * (d * f)
both_values x y X Y l d f p q =
    let a : x * l * (y * l) ≡ X * d * (y * l) = ap (λ (z : ℕ). z * (y * l)) p in
    let b : X * d * (y * l) ≡ X * d * (Y * f) = ap (λ (z : ℕ). X * d * z) q in
    omega arith

pub product : (x y : Float) (s t : Bool) (X Y : ℕ) → HasValue x s X L → HasValue y t Y L → X ≤ 4 * L → Y ≤ 4 * L
    → (Z : ℕ) × HasValue (mul binary64 x y) (unlike s t) Z L × Within (E * L) (Z * L) (X * Y)
unfolding mul
product nan y s t X Y v w h k = absurd v
product (inf u) y s t X Y v w h k = absurd v
product (fin u m e) nan s t X Y v w h k = absurd w
product (fin u m e) (inf q) s t X Y v w h k = absurd w
product (fin u m e) (fin q n d) s t X Y v w h k =
    let r = rounded (unlike s t) (X * Y) (L * L) (mul-pos (pow_pos 1074) (pow_pos 1074)) (product_size X Y h k) in
    let same : round binary64 (unlike s t) (X * Y) (L * L) ≡ round binary64 (unlike u q) (m * up e * (n * up d)) (down e * down d) =
    sym (round_same binary64 (unlike s t) (m * up e * (n * up d)) (down e * down d) (X * Y) (L * L) (mul-pos (down_pos e) (down_pos d)) (mul-pos (pow_pos 1074) (pow_pos 1074))
    (both_values (m * up e) (n * up d) X Y L (down e) (down d) v.1 w.1))
    ∙ ap (λ (b : Bool). round binary64 (unlike b t) (m * up e * (n * up d)) (down e * down d)) (sym v.0)
    ∙ ap (λ (b : Bool). round binary64 (unlike u b) (m * up e * (n * up d)) (down e * down d)) (sym w.0) in
    (r.0, subst (λ (z : Float). HasValue z (unlike s t) r.0 L) same r.1, fewer r.0 (X * Y) L E (pow_pos 1074) r.2)

-- ---- sums and differences

-- r Z is nearly s X + t Y, and s X - t Y
abbrev pub NearSum : Bool → ℕ → Bool → ℕ → Bool → ℕ → Type 0
NearSum r Z s X t Y = Within E (plus r Z + minus s X + minus t Y) (minus r Z + plus s X + plus t Y)

abbrev pub NearDifference : Bool → ℕ → Bool → ℕ → Bool → ℕ → Type 0
NearDifference r Z s X t Y = Within E (plus r Z + minus s X + plus t Y) (minus r Z + plus s X + minus t Y)

-- a / c is X units
rounded_near : (s : Bool) (a c X : ℕ) → 0 < c → a * L ≡ X * c → X ≤ 64 * L → (Z : ℕ) × HasValue (round binary64 s a c) s Z L × Within E Z X
rounded_near s a c X C e h =
    let r = rounded s a c C (le_of_mul-le-mul_right (small a c X L e (mul-le-mul_right c h)) (pow_pos 1074)) in
    let above : r.0 * c ≤ (X + E) * c = left r.0 c X (a * L) E e r.2.0 in
    let below : X * c ≤ (r.0 + E) * c = right r.0 c X (a * L) E e r.2.1 in
    (r.0, r.1, (le_of_mul-le-mul_right above C, le_of_mul-le-mul_right below C))
  where
    small : (a c X l : ℕ) → a * l ≡ X * c → X * c ≤ 64 * l * c → a * l ≤ 64 * c * l
    small a c X l e h = omega arith

    left : (Z c X n e : ℕ) → n ≡ X * c → Z * c ≤ n + c * e → Z * c ≤ (X + e) * c
    left Z c X n e p h = omega arith

    right : (Z c X n e : ℕ) → n ≡ X * c → n ≤ Z * c + c * e → X * c ≤ (Z + e) * c
    right Z c X n e p h = omega arith

module _ (a b c X Y : ℕ) (C : 0 < c) (p : a * L ≡ X * c) (q : b * L ≡ Y * c) (h : X ≤ 32 * L) (k : Y ≤ 32 * L) where
  together : (s : Bool) → (Z : ℕ) × HasValue (round binary64 s (a + b) c) s Z L × Within E Z (X + Y)
  together s = rounded_near s (a + b) c (X + Y) C (join a b c X Y L p q) (room X Y L h k)
    where
      join : (a b c X Y l : ℕ) → a * l ≡ X * c → b * l ≡ Y * c → (a + b) * l ≡ (X + Y) * c
      join a b c X Y l p q = omega arith

      room : (X Y l : ℕ) → X ≤ 32 * l → Y ≤ 32 * l → X + Y ≤ 64 * l
      room X Y l h k = omega arith

  -- the order of the fractions is that of the units
  ordered : a ≤ b → X ≤ Y
  ordered l = le_of_mul-le-mul_right (go (a * L) (b * L) (X * c) (Y * c) p q (mul-le-mul_right L l)) C
    where
      go : (a b X Y : ℕ) → a ≡ X → b ≡ Y → a ≤ b → X ≤ Y
      go a b X Y p q l = omega arith

  apart : (s : Bool) → (Z : ℕ) × HasValue (round binary64 s (a - b) c) s Z L × Within E Z (X - Y)
  apart s = rounded_near s (a - b) c (X - Y) C (less a b c X Y L p q) (room X Y L h)
    where
      less : (a b c X Y l : ℕ) → a * l ≡ X * c → b * l ≡ Y * c → (a - b) * l ≡ (X - Y) * c
      less a b c X Y l p q =
          let u : l * (a - b) ≡ l * a - l * b = mul-sub l a b in
          let v : c * (X - Y) ≡ c * X - c * Y = mul-sub c X Y in
          omega arith

      room : (X Y l : ℕ) → X ≤ 32 * l → X - Y ≤ 64 * l
      room X Y l h = omega arith

sum_rounded : (s : Bool) (a : ℕ) (t : Bool) (b c X Y : ℕ) → 0 < c → a * L ≡ X * c → b * L ≡ Y * c → X ≤ 32 * L → Y ≤ 32 * L
    → (r : Bool) × (Z : ℕ) × HasValue (sum binary64 s a t b c) r Z L × NearSum r Z s X t Y
unfolding sum
sum_rounded true a true b c X Y C p q h k = let z = together a b c X Y C p q h k true in (true, z.0, z.1, near z.0 X Y E z.2)
  where
    near : (Z X Y e : ℕ) → Within e Z (X + Y) → Within e (0 + X + Y) (Z + 0 + 0)
    near Z X Y e w = omega arith
sum_rounded false a false b c X Y C p q h k = let z = together a b c X Y C p q h k false in (false, z.0, z.1, near z.0 X Y E z.2)
  where
    near : (Z X Y e : ℕ) → Within e Z (X + Y) → Within e (Z + 0 + 0) (0 + X + Y)
    near Z X Y e w = omega arith
sum_rounded false a true b c X Y C p q h k = go (ltb a b) (ltb→lt a b) (nltb→le a b)
  where
    above : (Z X Y e : ℕ) → X ≤ Y → Within e Z (Y - X) → Within e (0 + 0 + Y) (Z + X + 0)
    above Z X Y e l w = omega arith

    under : (Z X Y e : ℕ) → Y ≤ X → Within e Z (X - Y) → Within e (Z + 0 + Y) (0 + X + 0)
    under Z X Y e l w = omega arith

    go : (o : Bool) → (T o → a < b) → (T (not o) → b ≤ a)
        → (r : Bool) × (Z : ℕ) × HasValue (cond o (round binary64 true (b - a) c) (round binary64 false (a - b) c)) r Z L × NearSum r Z false X true Y
    go true f g = let z = apart b a c Y X C q p k h true in (true, z.0, z.1, above z.0 X Y E (ordered a b c X Y C p q h k (le_of_lt (f tt))) z.2)
    go false f g = let z = apart a b c X Y C p q h k false in (false, z.0, z.1, under z.0 X Y E (ordered b a c Y X C q p k h (g tt)) z.2)
sum_rounded true a false b c X Y C p q h k = go (ltb a b) (ltb b a) (ltb→lt a b) (nltb→le a b) (nltb→le b a)
  where
    above : (Z X Y e : ℕ) → X ≤ Y → Within e Z (Y - X) → Within e (Z + X + 0) (0 + 0 + Y)
    above Z X Y e l w = omega arith

    under : (Z X Y e : ℕ) → Y ≤ X → Within e Z (X - Y) → Within e (0 + X + 0) (Z + 0 + Y)
    under Z X Y e l w = omega arith

    level : (Z X Y e : ℕ) → X ≤ Y → Y ≤ X → Within e Z (X - Y) → Within e (Z + X + 0) (0 + 0 + Y)
    level Z X Y e l m w = omega arith

    go : (o u : Bool) → (T o → a < b) → (T (not o) → b ≤ a) → (T (not u) → a ≤ b)
        → (r : Bool) × (Z : ℕ) × HasValue (cond o (round binary64 false (b - a) c) (round binary64 u (a - b) c)) r Z L × NearSum r Z true X false Y
    go true u f g i = let z = apart b a c Y X C q p k h false in (false, z.0, z.1, above z.0 X Y E (ordered a b c X Y C p q h k (le_of_lt (f tt))) z.2)
    go false true f g i = let z = apart a b c X Y C p q h k true in (true, z.0, z.1, under z.0 X Y E (ordered b a c Y X C q p k h (g tt)) z.2)
    go false false f g i =
        let z = apart a b c X Y C p q h k false in
        (false, z.0, z.1, level z.0 X Y E (ordered a b c X Y C p q h k (i tt)) (ordered b a c Y X C q p k h (g tt)) z.2)

pub total : (x y : Float) (s t : Bool) (X Y : ℕ) → HasValue x s X L → HasValue y t Y L → X ≤ 32 * L → Y ≤ 32 * L
    → (r : Bool) × (Z : ℕ) × HasValue (add binary64 x y) r Z L × NearSum r Z s X t Y
unfolding add
total nan y s t X Y v w h k = absurd v
total (inf u) y s t X Y v w h k = absurd v
total (fin u m e) nan s t X Y v w h k = absurd w
total (fin u m e) (inf o) s t X Y v w h k = absurd w
total (fin u m e) (fin o n d) s t X Y v w h k =
    let z = sum_rounded s (m * up e * down d) t (n * up d * down e) (down e * down d) X Y (mul-pos (down_pos e) (down_pos d))
    (over (m * up e) (down e) (down d) X L v.1) (over (n * up d) (down d) (down e) Y L w.1 ∙ ap (λ (i : ℕ). Y * i) (mul_comm (down d) (down e))) h k in
    let same : sum binary64 s (m * up e * down d) t (n * up d * down e) (down e * down d) ≡ sum binary64 u (m * up e * down d) o (n * up d * down e) (down e * down d) =
    ap (λ (i : Bool). sum binary64 i (m * up e * down d) t (n * up d * down e) (down e * down d)) (sym v.0)
    ∙ ap (λ (i : Bool). sum binary64 u (m * up e * down d) i (n * up d * down e) (down e * down d)) (sym w.0) in
    (z.0, z.1, subst (λ (i : Float). HasValue i z.0 z.1 L) same z.2, z.3)
  where
    over : (x d f X l : ℕ) → x * l ≡ X * d → x * f * l ≡ X * (d * f)
    over x d f X l e =
        let a : x * l * f ≡ X * d * f = ap (λ (z : ℕ). z * f) e in
        omega arith

negated : (y : Float) (t : Bool) (Y : ℕ) → HasValue y t Y L → HasValue (neg y) (not t) Y L
unfolding neg
negated nan t Y v = absurd v
negated (inf u) t Y v = absurd v
negated (fin u m e) t Y v = (ap not v.0, v.1)

pub difference : (x y : Float) (s t : Bool) (X Y : ℕ) → HasValue x s X L → HasValue y t Y L → X ≤ 32 * L → Y ≤ 32 * L
    → (r : Bool) × (Z : ℕ) × HasValue (sub binary64 x y) r Z L × NearDifference r Z s X t Y
unfolding sub
difference x y s true X Y v w h k = total x (neg y) s false X Y v (negated y true Y w) h k
difference x y s false X Y v w h k = total x (neg y) s true X Y v (negated y false Y w) h k
