-- A size compared with h, by the number itself and by -h. Assumes nothing.
use Rattle.std.proofs.Common.{◌≡◌, ℕ, zero, suc, ◌+◌, ◌*◌, ◌<◌, ◌≤◌, Bool, true, false, not, ◌&&◌, ◌||◌, T, eqb, ltb, sym, refl, ap, ◌∙◌, subst, arith, eqb→eq, ltb→lt, lt→ltb, nltb→le}
use lib.Dec.{eqb_refl}
use lib.Ieee.{Float, nan, inf, fin, up, down, below, level, neg, lt, le, eq}
use Rattle.doubles.specs.Doubles.{abs_of}

-- ---- tests

alike : (a b : Bool) → (T a → T b) → (T b → T a) → a ≡ b
alike true true f g = refl
alike true false f g = absurd (f tt)
alike false true f g = absurd (g tt)
alike false false f g = refl

or_l : (a b : Bool) → T a → T (a || b)
or_l false b t = elim t [ ]
or_l true b t = tt

or_r : (a b : Bool) → T b → T (a || b)
or_r true b t = tt
or_r false b t = t

and_l : (a b : Bool) → T (a && b) → T a
and_l false b t = elim t [ ]
and_l true b t = tt

and_r : (a b : Bool) → T (a && b) → T b
and_r false b t = elim t [ ]
and_r true b t = t

and_t : (a b : Bool) → T a → T b → T (a && b)
and_t false b s t = elim s [ ]
and_t true false s t = elim t [ ]
and_t true true s t = tt

or_else : (a b : Bool) (P : Type 0) → T (a || b) → (T a → P) → (T b → P) → P
or_else true b P t f g = f tt
or_else false b P t f g = g t

no_more : (a : Bool) → (a || false) ≡ a
no_more true = refl
no_more false = refl

none_left : (a : Bool) → (a && false) ≡ false
none_left true = refl
none_left false = refl

-- ---- on the sizes b of x and a of h

some_above : (a b : ℕ) → T (ltb b a) → T (ltb 0 (a + b))
some_above a b t = lt→ltb 0 (a + b) (more a b (ltb→lt b a t))
  where
    more : (a b : ℕ) → b < a → 0 < a + b
    more a b h = omega arith

swap : (a b : ℕ) → T (ltb 0 (b + a)) → T (ltb 0 (a + b))
swap a b t = lt→ltb 0 (a + b) (more a b (ltb→lt 0 (b + a) t))
  where
    more : (a b : ℕ) → 0 < b + a → 0 < a + b
    more a b h = omega arith

beyond : (s t : Bool) (a b : ℕ) → (below t a s b || below s b (not t) a) ≡ below t a false b
beyond false false a b = no_more (ltb a b)
beyond true false a b = refl
beyond false true a b =
    alike (ltb 0 (a + b) || ltb b a) (ltb 0 (a + b))
    (λ (t : T (ltb 0 (a + b) || ltb b a)). or_else (ltb 0 (a + b)) (ltb b a) (T (ltb 0 (a + b))) t (λ (u : T (ltb 0 (a + b))). u) (some_above a b))
    (or_l (ltb 0 (a + b)) (ltb b a))
beyond true true a b =
    alike (ltb b a || ltb 0 (b + a)) (ltb 0 (a + b))
    (λ (t : T (ltb b a || ltb 0 (b + a))). or_else (ltb b a) (ltb 0 (b + a)) (T (ltb 0 (a + b))) t (some_above a b) (swap a b))
    (λ (u : T (ltb 0 (a + b))). or_r (ltb b a) (ltb 0 (b + a)) (swap b a u))

under : (s t : Bool) (a b : ℕ) → (below s b t a && below (not t) a s b) ≡ below false b t a
under false false a b =
    alike (ltb b a && ltb 0 (a + b)) (ltb b a)
    (and_l (ltb b a) (ltb 0 (a + b)))
    (λ (u : T (ltb b a)). and_t (ltb b a) (ltb 0 (a + b)) u (some_above a b u))
under false true a b = refl
under true false a b =
    alike (ltb 0 (b + a) && ltb b a) (ltb b a)
    (and_r (ltb 0 (b + a)) (ltb b a))
    (λ (u : T (ltb b a)). and_t (ltb 0 (b + a)) (ltb b a) (swap b a (some_above a b u)) u)
under true true a b = none_left (ltb a b)

-- ±b ≤ ±a
abbrev upto : Bool → ℕ → Bool → ℕ → Bool
upto s b t a = below s b t a || level s b t a

same : (a b : ℕ) → b ≡ a → T (eqb b a)
same a b e = subst (λ (n : ℕ). T (eqb b n)) e (eqb_refl b)

ff_le : (a b : ℕ) → T (upto false b false a) → b ≤ a
ff_le a b t =
    or_else (ltb b a) (eqb b a && (true || eqb b 0)) (b ≤ a) t (λ (u : T (ltb b a)). less a b (ltb→lt b a u)) (λ (u : T (eqb b a && (true || eqb b 0))). level a b (eqb→eq b a (and_l (eqb b a) (true || eqb b 0) u)))
  where
    less : (a b : ℕ) → b < a → b ≤ a
    less a b h = omega arith

    level : (a b : ℕ) → b ≡ a → b ≤ a
    level a b h = omega arith

tt_le : (a b : ℕ) → T (upto true b true a) → a ≤ b
tt_le a b t =
    or_else (ltb a b) (eqb b a && (true || eqb b 0)) (a ≤ b) t (λ (u : T (ltb a b)). less a b (ltb→lt a b u)) (λ (u : T (eqb b a && (true || eqb b 0))). level a b (eqb→eq b a (and_l (eqb b a) (true || eqb b 0) u)))
  where
    less : (a b : ℕ) → a < b → a ≤ b
    less a b h = omega arith

    level : (a b : ℕ) → b ≡ a → a ≤ b
    level a b h = omega arith

split : (a b : ℕ) (P : Type 0) → b ≤ a → (b < a → P) → (b ≡ a → P) → P
split a b P h f g = go (ltb b a) (ltb→lt b a) (nltb→le b a)
  where
    only : (a b : ℕ) → b ≤ a → a ≤ b → b ≡ a
    only a b h k = omega arith

    go : (t : Bool) → (T t → b < a) → (T (not t) → a ≤ b) → P
    go true l m = f (l tt)
    go false l m = g (only a b h (m tt))

le_ff : (a b : ℕ) → b ≤ a → T (upto false b false a)
le_ff a b h =
    split a b (T (upto false b false a)) h
    (λ (l : b < a). or_l (ltb b a) (eqb b a && (true || eqb b 0)) (lt→ltb b a l))
    (λ (e : b ≡ a). or_r (ltb b a) (eqb b a && (true || eqb b 0)) (and_t (eqb b a) (true || eqb b 0) (same a b e) tt))

le_tt : (a b : ℕ) → a ≤ b → T (upto true b true a)
le_tt a b h =
    split b a (T (upto true b true a)) h
    (λ (l : a < b). or_l (ltb a b) (eqb b a && (true || eqb b 0)) (lt→ltb a b l))
    (λ (e : a ≡ b). or_r (ltb a b) (eqb b a && (true || eqb b 0)) (and_t (eqb b a) (true || eqb b 0) (same a b (sym e)) tt))

-- -b is at most a
tf_all : (a b : ℕ) → T (upto true b false a)
tf_all a zero =
    split a zero (T (upto true zero false a)) (least a)
    (λ (l : 0 < a). or_l (ltb 0 (0 + a)) (eqb 0 a && (false || eqb 0 0)) (lt→ltb 0 (0 + a) (some a l)))
    (λ (e : 0 ≡ a). or_r (ltb 0 (0 + a)) (eqb 0 a && (false || eqb 0 0)) (and_t (eqb 0 a) (eqb 0 0) (same a 0 e) (eqb_refl 0)))
  where
    least : (a : ℕ) → 0 ≤ a
    least a = omega arith

    some : (a : ℕ) → 0 < a → 0 < 0 + a
    some a h = omega arith
tf_all a (suc b) = or_l (ltb 0 (suc b + a)) (eqb (suc b) a && (false || eqb (suc b) 0)) (lt→ltb 0 (suc b + a) (some a b))
  where
    some : (a b : ℕ) → 0 < suc b + a
    some a b = omega arith

-- b is at most -a only if both are 0
ft_zero : (a b : ℕ) → T (upto false b true a) → (b ≡ 0) × (a ≡ 0)
ft_zero a b t =
    let z = eqb→eq b 0 (and_r (eqb b a) (eqb b 0) t) in
    (z, sym (eqb→eq b a (and_l (eqb b a) (eqb b 0) t)) ∙ z)

zero_ft : (a b : ℕ) → b ≡ 0 → a ≡ 0 → T (upto false b true a)
zero_ft a b e f = and_t (eqb b a) (eqb b 0) (same a b (e ∙ sym f)) (same 0 b e)

both_zero : (a b : ℕ) → b ≡ 0 → a ≡ 0 → a ≤ b
both_zero a b e f = omega arith

within : (s t : Bool) (a b : ℕ) → (upto s b t a && upto (not t) a s b) ≡ upto false b t a
within false false a b =
    alike (upto false b false a && upto true a false b) (upto false b false a)
    (and_l (upto false b false a) (upto true a false b))
    (λ (u : T (upto false b false a)). and_t (upto false b false a) (upto true a false b) u (tf_all b a))
within false true a b =
    alike (upto false b true a && upto false a false b) (upto false b true a)
    (and_l (upto false b true a) (upto false a false b))
    (λ (u : T (upto false b true a)). and_t (upto false b true a) (upto false a false b) u (le_ff b a (both_zero a b (ft_zero a b u).0 (ft_zero a b u).1)))
within true false a b =
    alike (upto true b false a && upto true a true b) (upto false b false a)
    (λ (u : T (upto true b false a && upto true a true b)). le_ff a b (tt_le b a (and_r (upto true b false a) (upto true a true b) u)))
    (λ (u : T (upto false b false a)). and_t (upto true b false a) (upto true a true b) (tf_all a b) (le_tt b a (ff_le a b u)))
within true true a b =
    alike (upto true b true a && upto false a true b) (upto false b true a)
    (λ (u : T (upto true b true a && upto false a true b)). let z = ft_zero b a (and_r (upto true b true a) (upto false a true b) u) in zero_ft a b z.1 z.0)
    (λ (u : T (upto false b true a)). let z = ft_zero a b u in and_t (upto true b true a) (upto false a true b) (le_tt a b (both_zero a b z.0 z.1)) (zero_ft b a z.1 z.0))

-- ---- on floats

pub exceeds_is : (x h : Float) → (lt h x || lt x (neg h)) ≡ lt h (abs_of x)
unfolding lt neg abs_of
exceeds_is nan nan = refl
exceeds_is nan (inf t) = refl
exceeds_is nan (fin t n d) = refl
exceeds_is (inf s) nan = refl
exceeds_is (inf true) (inf true) = refl
exceeds_is (inf true) (inf false) = refl
exceeds_is (inf false) (inf true) = refl
exceeds_is (inf false) (inf false) = refl
exceeds_is (inf true) (fin t n d) = refl
exceeds_is (inf false) (fin t n d) = refl
exceeds_is (fin s m e) nan = refl
exceeds_is (fin s m e) (inf true) = refl
exceeds_is (fin s m e) (inf false) = refl
exceeds_is (fin s m e) (fin t n d) = beyond s t (n * up d * down e) (m * up e * down d)

pub under_is : (x h : Float) → (lt x h && lt (neg h) x) ≡ lt (abs_of x) h
unfolding lt neg abs_of
under_is nan h = refl
under_is (inf s) nan = refl
under_is (inf true) (inf true) = refl
under_is (inf true) (inf false) = refl
under_is (inf false) (inf true) = refl
under_is (inf false) (inf false) = refl
under_is (inf true) (fin t n d) = refl
under_is (inf false) (fin t n d) = refl
under_is (fin s m e) nan = refl
under_is (fin s m e) (inf true) = refl
under_is (fin s m e) (inf false) = refl
under_is (fin s m e) (fin t n d) = under s t (n * up d * down e) (m * up e * down d)

pub within_is : (x h : Float) → (le x h && le (neg h) x) ≡ le (abs_of x) h
unfolding le lt eq neg abs_of
within_is nan h = refl
within_is (inf s) nan = refl
within_is (inf true) (inf true) = refl
within_is (inf true) (inf false) = refl
within_is (inf false) (inf true) = refl
within_is (inf false) (inf false) = refl
within_is (inf true) (fin t n d) = refl
within_is (inf false) (fin t n d) = refl
within_is (fin s m e) nan = refl
within_is (fin s m e) (inf true) = refl
within_is (fin s m e) (inf false) = refl
within_is (fin s m e) (fin t n d) = within s t (n * up d * down e) (m * up e * down d)

-- ---- what the code finds

pub exceeds_first : (x h : Float) → lt h x ≡ true → true ≡ lt h (abs_of x)
exceeds_first x h e = ap (λ (t : Bool). t || lt x (neg h)) (sym e) ∙ exceeds_is x h

pub exceeds_then : (x h : Float) → lt h x ≡ false → lt x (neg h) ≡ lt h (abs_of x)
exceeds_then x h e = ap (λ (t : Bool). t || lt x (neg h)) (sym e) ∙ exceeds_is x h

pub under_first : (x h : Float) → lt x h ≡ true → lt (neg h) x ≡ lt (abs_of x) h
under_first x h e = ap (λ (t : Bool). t && lt (neg h) x) (sym e) ∙ under_is x h

pub under_not : (x h : Float) → lt x h ≡ false → false ≡ lt (abs_of x) h
under_not x h e = ap (λ (t : Bool). t && lt (neg h) x) (sym e) ∙ under_is x h

pub within_first : (x h : Float) → le x h ≡ true → le (neg h) x ≡ le (abs_of x) h
within_first x h e = ap (λ (t : Bool). t && le (neg h) x) (sym e) ∙ within_is x h

pub within_not : (x h : Float) → le x h ≡ false → false ≡ le (abs_of x) h
within_not x h e = ap (λ (t : Bool). t && le (neg h) x) (sym e) ∙ within_is x h
