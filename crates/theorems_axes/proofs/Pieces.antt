-- What the axes are made of, part by part, from unit vectors: the dot product, a part less its share along the normal,
-- and a part of a cross product. Each is the exact value but for a few E, with the signs that `Core` asks for. Assumes
-- nothing.
use Prim.Native.Nat.{ℕ, ◌+◌, ◌*◌, ◌≤◌, ◌<◌}
use native.Mathlib.Nat.{le_trans, le_of_eq, le_of_lt, lt_of_not-le, le_of_suc-le-suc, mul-le-mul, mul-le-mul_left, mul-le-mul_right, mul-pos, le_of_mul-le-mul_right}
use native.Mathlib.Omega.{arith}
use mathlib.Core.Path.{◌≡◌, sym, ap, ◌∙◌, subst}
use mathlib.Core.Bool.{Bool, true, false}
use lib.Dec.{lit≤}
use lib.Pow.{pow_pos}
use lib.Ieee.{Float, binary64, unlike, add, sub, mul}
use lib.Ieee.Exact.{HasValue}
use Rattle.rays.specs.declared.vector.Vec3.{Vec3}
use Rattle.rays.specs.Vectors.{dot_of}
use Rattle.theorems_axes.specs.Axes.{L, E, Within, IsUnit}
use Rattle.theorems_axes.proofs.Words.{plus, minus}
use Rattle.theorems_axes.proofs.Modest.{product, total, difference, NearSum, NearDifference}
use Rattle.theorems_axes.proofs.Signs.{plus_most, minus_most, signed, Turned, turned, turned_times, sum_turned, difference_turned, both_turned, regroup, through, exchange}

-- ---- how large things are

-- at most 1 + 2 ^ -40, as a part of a unit vector is
abbrev pub Part : ℕ → Type 0
Part x = x ≤ L + E

root_most : (l e a : ℕ) → 0 < e → a * a ≤ l * l + e * l → a ≤ l + e
root_most l e a p h = le_of_suc-le-suc (lt_of_not-le (λ (g : l + e < a). over (mul-le-mul (le_of_lt g) (le_of_lt g)) (mul-pos p p)))
  where
    over : (l + e) * (l + e) ≤ a * a → 0 < e * e → ⊥
    over g q = omega arith

pub unit_parts : (a b c : ℕ) → Within (E * L) (a * a + b * b + c * c) (L * L) → Part a × Part b × Part c
unit_parts a b c w =
    let h = each (a * a) (b * b) (c * c) (L * L + E * L) w.0 in
    (root_most L E a (pow_pos 1034) h.0, root_most L E b (pow_pos 1034) h.1, root_most L E c (pow_pos 1034) h.2)
  where
    each : (a b c s : ℕ) → a + b + c ≤ s → (a ≤ s) × (b ≤ s) × (c ≤ s)
    each a b c s h = omega arith

-- an exact value of a size at most x + y, rounded
result_most : (r : Bool) (z x y e a b c d : ℕ) → a ≤ x → b ≤ x → c ≤ y → d ≤ y → Within e (plus r z + b + d) (minus r z + a + c) → z ≤ x + y + e
result_most true z x y e a b c d p q s t w = omega arith
result_most false z x y e a b c d p q s t w = omega arith

sum_most : (r s t : Bool) (Z X Y : ℕ) → NearSum r Z s X t Y → Z ≤ X + Y + E
sum_most r s t Z X Y w = result_most r Z X Y E (plus s X) (minus s X) (plus t Y) (minus t Y) (plus_most s X) (minus_most s X) (plus_most t Y) (minus_most t Y) w

difference_most : (r s t : Bool) (Z X Y : ℕ) → NearDifference r Z s X t Y → Z ≤ X + Y + E
difference_most r s t Z X Y w = result_most r Z X Y E (plus s X) (minus s X) (minus t Y) (plus t Y) (plus_most s X) (minus_most s X) (minus_most t Y) (plus_most t Y) w

-- a little above 1, as a product of parts is
abbrev Small : ℕ → Type 0
Small x = x ≤ L + 4 * E

part_small : (x : ℕ) → Part x → Small x
part_small x h = go x L E h
  where
    go : (x l e : ℕ) → x ≤ l + e → x ≤ l + 4 * e
    go x l e h = omega arith

small_modest : (x : ℕ) → Small x → x ≤ 4 * L
small_modest x h = go x L E h (lit≤ tt)
  where
    go : (x l e : ℕ) → x ≤ l + 4 * e → 4 * e ≤ l → x ≤ 4 * l
    go x l e h k = omega arith

-- what `total` and `difference` take
operand : (x : ℕ) → x ≤ 4 * L → x ≤ 32 * L
operand x h = go x L h
  where
    go : (x l : ℕ) → x ≤ 4 * l → x ≤ 32 * l
    go x l h = omega arith

small_operand : (x : ℕ) → Small x → x ≤ 32 * L
small_operand x h = operand x (small_modest x h)

-- a rounded sum or difference of two such
pair_modest : (z x y : ℕ) → Small x → Small y → z ≤ x + y + E → z ≤ 4 * L
pair_modest z x y h k g = go z x y L E h k g (lit≤ tt)
  where
    go : (z x y l e : ℕ) → x ≤ l + 4 * e → y ≤ l + 4 * e → z ≤ x + y + e → 9 * e ≤ l → z ≤ 4 * l
    go z x y l e h k g t = omega arith

-- ---- the product of two parts

part_product : (x y : Float) (s t : Bool) (X Y : ℕ) → HasValue x s X L → HasValue y t Y L → Part X → Part Y
    → (Z : ℕ) × HasValue (mul binary64 x y) (unlike s t) Z L × Within (E * L) (Z * L) (X * Y) × Small Z
part_product x y s t X Y v w h k =
    let r = product x y s t X Y v w (small_modest X (part_small X h)) (small_modest Y (part_small Y k)) in
    (r.0, r.1, r.2, le_of_mul-le-mul_right (most r.0 X Y L E (lit≤ tt) h k r.2.0) (pow_pos 1074))
  where
    most : (Z X Y l e : ℕ) → e ≤ l → X ≤ l + e → Y ≤ l + e → Z * l ≤ X * Y + e * l → Z * l ≤ (l + 4 * e) * l
    most Z X Y l e t h k g =
        let a : X * Y ≤ (l + e) * (l + e) = mul-le-mul h k in
        let b : e * e ≤ e * l = mul-le-mul_left e t in
        omega arith

-- ---- the dot product of unit vectors

-- two rounded sums of three rounded products
gathered : (l e cp cm sp sm a1 b1 a2 b2 a3 b3 x1 y1 x2 y2 x3 y3 : ℕ) → Within e (sp + b1 + b2) (sm + a1 + a2) → Within e (cp + sm + b3) (cm + sp + a3)
    → Within (e * l) (a1 * l) x1 × Within (e * l) (b1 * l) y1 → Within (e * l) (a2 * l) x2 × Within (e * l) (b2 * l) y2 → Within (e * l) (a3 * l) x3 × Within (e * l) (b3 * l) y3
    → Within (16 * (e * l)) (cp * l + y1 + y2 + y3) (cm * l + x1 + x2 + x3)
gathered l e cp cm sp sm a1 b1 a2 b2 a3 b3 x1 y1 x2 y2 x3 y3 s c p q r =
    let s0 : (sp + b1 + b2) * l ≤ (sm + a1 + a2 + e) * l = mul-le-mul_right l s.0 in
    let s1 : (sm + a1 + a2) * l ≤ (sp + b1 + b2 + e) * l = mul-le-mul_right l s.1 in
    let c0 : (cp + sm + b3) * l ≤ (cm + sp + a3 + e) * l = mul-le-mul_right l c.0 in
    let c1 : (cm + sp + a3) * l ≤ (cp + sm + b3 + e) * l = mul-le-mul_right l c.1 in
    omega arith

-- the sign of a product, relative to the sum's
abbrev pub along : Bool → Bool → Bool → Bool
along n u g = unlike (unlike n u) g

-- the dot product in units, and how near it is to the exact one, in signs relative to its own
abbrev pub Dot : (n u : Vec3) → IsUnit n → IsUnit u → Type 0
Dot n u k o = (g : Bool) × (C : ℕ) × HasValue (dot_of n u) g C L
    × Within (16 * (E * L)) (k.a * plus (along k.r o.r g) o.a + k.b * plus (along k.s o.s g) o.b + k.c * plus (along k.t o.t g) o.c)
    (k.a * minus (along k.r o.r g) o.a + k.b * minus (along k.s o.s g) o.b + k.c * minus (along k.t o.t g) o.c + C * L)

pub dot : (n u : Vec3) (k : IsUnit n) (o : IsUnit u) → Dot n u k o
unfolding dot_of
dot n u k o =
    let kp = unit_parts k.a k.b k.c k.unit in
    let op = unit_parts o.a o.b o.c o.unit in
    let π1 = unlike k.r o.r in
    let π2 = unlike k.s o.s in
    let π3 = unlike k.t o.t in
    let m1 = mul binary64 n.x u.x in
    let m2 = mul binary64 n.y u.y in
    let m3 = mul binary64 n.z u.z in
    let p1 = part_product n.x u.x k.r o.r k.a o.a k.is_x o.is_x kp.0 op.0 in
    let p2 = part_product n.y u.y k.s o.s k.b o.b k.is_y o.is_y kp.1 op.1 in
    let p3 = part_product n.z u.z k.t o.t k.c o.c k.is_z o.is_z kp.2 op.2 in
    let s = total m1 m2 π1 π2 p1.0 p2.0 p1.1 p2.1 (small_operand p1.0 p1.3) (small_operand p2.0 p2.3) in
    let c = total (add binary64 m1 m2) m3 s.0 π3 s.1 p3.0 s.2 p3.1
    (operand s.1 (pair_modest s.1 p1.0 p2.0 p1.3 p2.3 (sum_most s.0 π1 π2 s.1 p1.0 p2.0 s.3))) (small_operand p3.0 p3.3) in
    let g = c.0 in (
      g,
      c.1,
      c.2,
      sum_turned g (16 * (E * L)) L c.1
          (k.a * plus π1 o.a) (k.a * minus π1 o.a) (k.b * plus π2 o.b) (k.b * minus π2 o.b) (k.c * plus π3 o.c) (k.c * minus π3 o.c)
          (k.a * plus (unlike π1 g) o.a) (k.a * minus (unlike π1 g) o.a) (k.b * plus (unlike π2 g) o.b) (k.b * minus (unlike π2 g) o.b) (k.c * plus (unlike π3 g) o.c) (k.c * minus (unlike π3 g) o.c)
          (turned_times g π1 k.a o.a) (turned_times g π2 k.b o.b) (turned_times g π3 k.c o.c)
          (gathered L E (plus g c.1) (minus g c.1) (plus s.0 s.1) (minus s.0 s.1)
          (plus π1 p1.0) (minus π1 p1.0) (plus π2 p2.0) (minus π2 p2.0) (plus π3 p3.0) (minus π3 p3.0)
          (k.a * plus π1 o.a) (k.a * minus π1 o.a) (k.b * plus π2 o.b) (k.b * minus π2 o.b) (k.c * plus π3 o.c) (k.c * minus π3 o.c)
          s.3 c.3
          (signed π1 (E * L) p1.0 L k.a o.a p1.2) (signed π2 (E * L) p2.0 L k.b o.b p2.2) (signed π3 (E * L) p3.0 L k.c o.c p3.2)),
    )

-- ---- a part of up less its share along the normal

-- y less the product P of x and z, in signs relative to that of the product
abbrev pub Lessened : (x y z : Float) → (n u g : Bool) → (N U C : ℕ) → Type 0
Lessened x y z n u g N U C = (w : Bool) × (W : ℕ) × (P : ℕ) × HasValue (sub binary64 y (mul binary64 x z)) w W L × (W ≤ 4 * L) × Within (E * L) (P * L) (N * C)
    × Within E (plus (unlike w (unlike n g)) W + minus (along n u g) U + P) (minus (unlike w (unlike n g)) W + plus (along n u g) U)

pub lessened : (x y z : Float) (n u g : Bool) (N U C : ℕ) → HasValue x n N L → HasValue y u U L → HasValue z g C L → Part N → Part U → Part C → Lessened x y z n u g N U C
lessened x y z n u g N U C a b c h i j =
    let p = unlike n g in
    let m = part_product x z n g N C a c h j in
    let P = m.0 in
    let d = difference y (mul binary64 x z) u p U P b m.1 (small_operand U (part_small U i)) (small_operand P m.3) in
    let w = d.0 in
    let W = d.1 in (
      w,
      W,
      P,
      d.2,
      pair_modest W U P (part_small U i) m.3 (difference_most w u p W U P d.3),
      m.2,
      subst (λ (s : Bool). Within E (plus (unlike w p) W + minus s U + P) (minus (unlike w p) W + plus s U)) (regroup n u g)
          (difference_turned p E P (plus w W) (minus w W) (plus u U) (minus u U) (plus (unlike w p) W) (minus (unlike w p) W) (plus (unlike u p) U) (minus (unlike u p) U)
          (turned p w W) (turned p u U) d.3),
    )

-- ---- a part of the cross product of the up axis and the normal

-- the same two factors the other way round
commuted : (k z x y : ℕ) → Within k z (x * y) → Within k z (y * x)
commuted k z x y w = omega arith

-- a difference of products that is at most E
level : (r q q' : Bool) (l e G Q Q' x y x' y' : ℕ) → G ≤ e → Within e (plus r G + minus q Q + plus q' Q') (minus r G + plus q Q + minus q' Q')
    → Within (e * l) (plus q Q * l) x × Within (e * l) (minus q Q * l) y → Within (e * l) (plus q' Q' * l) x' × Within (e * l) (minus q' Q' * l) y'
    → Within (6 * (e * l)) (y + x') (x + y')
level r q q' l e G Q Q' x y x' y' h w v v' =
    go (plus r G) (minus r G) (plus q Q) (minus q Q) (plus q' Q') (minus q' Q') l e x y x' y' (le_trans (plus_most r G) h) (le_trans (minus_most r G) h) w v v'
  where
    go : (a b c d c' d' l e x y x' y' : ℕ) → a ≤ e → b ≤ e → Within e (a + d + c') (b + c + d')
        → Within (e * l) (c * l) x × Within (e * l) (d * l) y → Within (e * l) (c' * l) x' × Within (e * l) (d' * l) y' → Within (6 * (e * l)) (y + x') (x + y')
    go a b c d c' d' l e x y x' y' h k w v v' =
        let p : d + c' ≤ c + d' + 2 * e = omega arith in
        let q : c + d' ≤ d + c' + 2 * e = omega arith in
        let p' : (d + c') * l ≤ (c + d' + 2 * e) * l = mul-le-mul_right l p in
        let q' : (c + d') * l ≤ (d + c' + 2 * e) * l = mul-le-mul_right l q in
        omega arith

-- the parts a and a' of the axis, the parts n and n' of the normal: a n' - a' n, in the signs that `lessened` has for
-- any g
abbrev pub Crossed : (x x' y y' : Float) → (a a' n n' g : Bool) → (A A' N N' : ℕ) → Type 0
Crossed x x' y y' a a' n n' g A A' N N' = (r : Bool) × (G : ℕ) × HasValue (sub binary64 (mul binary64 x y') (mul binary64 x' y)) r G L × (G ≤ 4 * L)
    × (G ≤ E → Within (6 * (E * L)) (N' * minus (unlike a (unlike n g)) A + N * plus (unlike a' (unlike n' g)) A') (N' * plus (unlike a (unlike n g)) A + N * minus (unlike a' (unlike n' g)) A'))

pub crossed : (x x' y y' : Float) (a a' n n' g : Bool) (A A' N N' : ℕ) → HasValue x a A L → HasValue x' a' A' L → HasValue y n N L → HasValue y' n' N' L
    → Part A → Part A' → Part N → Part N' → Crossed x x' y y' a a' n n' g A A' N N'
crossed x x' y y' a a' n n' g A A' N N' u u' v v' h h' k k' =
    let q = unlike a n' in
    let q' = unlike a' n in
    let m = part_product x y' a n' A N' u v' h k' in
    let m' = part_product x' y a' n A' N u' v h' k in
    let Q = m.0 in
    let Q' = m'.0 in
    let d = difference (mul binary64 x y') (mul binary64 x' y) q q' Q Q' m.1 m'.1 (small_operand Q m.3) (small_operand Q' m'.3) in
    let r = d.0 in
    let G = d.1 in
    let t = unlike a (unlike n g) in
    let t' = unlike a' (unlike n' g) in
    let f = unlike (unlike n g) n' in
    let turn : Turned f (N' * plus t A) (N' * minus t A) (N' * plus q A) (N' * minus q A) =
    subst (λ (s : Bool). Turned f (N' * plus t A) (N' * minus t A) (N' * plus s A) (N' * minus s A)) (through a (unlike n g) n') (turned_times f t N' A) in
    let turn' : Turned f (N * plus t' A') (N * minus t' A') (N * plus q' A') (N * minus q' A') =
    subst (λ (s : Bool). Turned f (N * plus t' A') (N * minus t' A') (N * plus s A') (N * minus s A')) (ap (unlike t') (sym (exchange n g n')) ∙ through a' (unlike n' g) n) (turned_times f t' N A') in (
      r,
      G,
      d.2,
      pair_modest G Q Q' m.3 m'.3 (difference_most r q q' G Q Q' d.3),
      λ (i : G ≤ E). both_turned f (6 * (E * L)) (N' * plus t A) (N' * minus t A) (N * plus t' A') (N * minus t' A') (N' * plus q A) (N' * minus q A) (N * plus q' A') (N * minus q' A') turn turn'
          (level r q q' L E G Q Q' (N' * plus q A) (N' * minus q A) (N * plus q' A') (N * minus q' A') i d.3
          (signed q (E * L) Q L N' A (commuted (E * L) (Q * L) A N' m.2)) (signed q' (E * L) Q' L N A' (commuted (E * L) (Q' * L) A' N m'.2))),
    )

-- ---- back from the axis to the vector that it was made of, whose length is m

-- one of the two bounds, times l
one_way : (l e m p q a b c d w v z u : ℕ) → e ≤ l → p ≤ l + e → q ≤ l + e → m ≤ 8 * l
    → l * w ≤ a * m + e * m → l * v ≤ b * m + e * m → c * m ≤ l * z + e * m → d * m ≤ l * u + e * m
    → p * a + q * b ≤ p * d + q * c + 6 * (e * l) → (p * w + q * v) * l ≤ (q * z + p * u + 1024 * (e * l)) * l
one_way l e m p q a b c d w v z u t h k n i j f g s =
    le_trans (le_of_eq (left p q w v l))
    (le_trans
    (final (p * (l * w)) (q * (l * v)) (q * (l * z)) (p * (l * u)) (p * (a * m)) (q * (b * m)) (q * (c * m)) (p * (d * m)) (p * (e * m)) (q * (e * m)) (e * l * m) (e * l * l)
    (spread p (l * w) (a * m) (e * m) i) (spread q (l * v) (b * m) (e * m) j) (spread q (c * m) (l * z) (e * m) f) (spread p (d * m) (l * u) (e * m) g)
    (lengthened p q a b c d e l m s) (share p l e m t h) (share q l e m t k) (eight (e * l) l m n))
    (le_of_eq (right p q z u l e)))
  where
    left : (p q w v l : ℕ) → (p * w + q * v) * l ≡ p * (l * w) + q * (l * v)
    left p q w v l = omega arith

    right : (p q z u l e : ℕ) → q * (l * z) + p * (l * u) + 1024 * (e * l * l) ≡ (q * z + p * u + 1024 * (e * l)) * l
    right p q z u l e = omega arith

    spread : (p x y z : ℕ) → x ≤ y + z → p * x ≤ p * y + p * z
    spread p x y z h =
        let k : p * x ≤ p * (y + z) = mul-le-mul_left p h in
        omega arith

    lengthened : (p q a b c d e l m : ℕ) → p * a + q * b ≤ p * d + q * c + 6 * (e * l) → p * (a * m) + q * (b * m) ≤ p * (d * m) + q * (c * m) + 6 * (e * l * m)
    lengthened p q a b c d e l m h =
        let k : (p * a + q * b) * m ≤ (p * d + q * c + 6 * (e * l)) * m = mul-le-mul_right m h in
        omega arith

    share : (p l e m : ℕ) → e ≤ l → p ≤ l + e → p * (e * m) ≤ 2 * (e * l * m)
    share p l e m t h =
        let k : p ≤ 2 * l = omega arith in
        let g : p * (e * m) ≤ 2 * l * (e * m) = mul-le-mul_right (e * m) k in
        omega arith

    eight : (x l m : ℕ) → m ≤ 8 * l → x * m ≤ 8 * (x * l)
    eight x l m h =
        let k : x * m ≤ x * (8 * l) = mul-le-mul_left x h in
        omega arith

    final : (pw qv qz pu pa qb qc pd pe qe x y : ℕ) → pw ≤ pa + pe → qv ≤ qb + qe → qc ≤ qz + qe → pd ≤ pu + pe
        → pa + qb ≤ pd + qc + 6 * x → pe ≤ 2 * x → qe ≤ 2 * x → x ≤ 8 * y → pw + qv ≤ qz + pu + 1024 * y
    final pw qv qz pu pa qb qc pd pe qe x y a b c d s h k n = omega arith

-- two parts of a vector are nearly in the ratio of the two of the normal
abbrev pub Level : (N N' : ℕ) → (t t' : Bool) → (W W' : ℕ) → Type 0
Level N N' t t' W W' = Within (1024 * (E * L)) (N' * plus t W + N * minus t' W') (N * plus t' W' + N' * minus t W)

pub returned : (t t' : Bool) (m N N' A A' W W' : ℕ) → Part N → Part N' → m ≤ 8 * L → Within (E * m) (A * m) (W * L) → Within (E * m) (A' * m) (W' * L)
    → Within (6 * (E * L)) (N' * minus t A + N * plus t' A') (N' * plus t A + N * minus t' A')
    → Level N N' t t' W W'
returned t t' m N N' A A' W W' h h' k v v' w =
    let s = signed t (E * m) A m L W (commuted (E * m) (A * m) W L v) in
    let s' = signed t' (E * m) A' m L W' (commuted (E * m) (A' * m) W' L v') in (
      le_of_mul-le-mul_right
          (one_way L E m N' N (plus t A) (minus t' A') (plus t' A') (minus t A) (plus t W) (minus t' W') (plus t' W') (minus t W) (lit≤ tt) h' h k
          s.0.1 s'.1.1 s'.0.0 s.1.0 w.1) (pow_pos 1074),
      le_of_mul-le-mul_right
          (one_way L E m N N' (plus t' A') (minus t A) (plus t A) (minus t' A') (plus t' W') (minus t W) (plus t W) (minus t' W') (lit≤ tt) h h' k
          s'.0.1 s.1.1 s.0.0 s'.1.0 (swapped (N' * minus t A) (N * plus t' A') (N' * plus t A) (N * minus t' A') (6 * (E * L)) w.0)) (pow_pos 1074),
    )
  where
    swapped : (a b c d e : ℕ) → a + b ≤ c + d + e → b + a ≤ d + c + e
    swapped a b c d e h = omega arith

-- a vector whose parts are at most E
pub tiny : (t t' : Bool) (N N' W W' : ℕ) → Part N → Part N' → W ≤ E → W' ≤ E → Level N N' t t' W W'
tiny t t' N N' W W' h h' k k' =
    go L E N N' (plus t W) (minus t W) (plus t' W') (minus t' W') (lit≤ tt) h h' (le_trans (plus_most t W) k) (le_trans (minus_most t W) k) (le_trans (plus_most t' W') k') (le_trans (minus_most t' W') k')
  where
    go : (l e n n' a b c d : ℕ) → e ≤ l → n ≤ l + e → n' ≤ l + e → a ≤ e → b ≤ e → c ≤ e → d ≤ e → Within (1024 * (e * l)) (n' * a + n * d) (n * c + n' * b)
    go l e n n' a b c d t h h' p q r s =
        let x : n' * a ≤ (l + e) * e = mul-le-mul h' p in
        let y : n' * b ≤ (l + e) * e = mul-le-mul h' q in
        let z : n * c ≤ (l + e) * e = mul-le-mul h r in
        let w : n * d ≤ (l + e) * e = mul-le-mul h s in
        let v : e * e ≤ l * e = mul-le-mul_right e t in
        omega arith
