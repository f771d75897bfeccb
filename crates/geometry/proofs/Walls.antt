-- What a closed cylinder answers is what document 02 says of it: of the candidates that qualify the smallest distance, on a tie the side before the lower end before the upper, and none precisely if none qualifies. Assumes nothing.
use Rattle.std.specs.Prelude.{Option, None, Some}
use lib.Dec.{T}
use lib.Ieee.{Float, binary64, add, sub, mul, div, neg, lt, le, fits}
use lib.Ieee.Fits.{div-fits}
use mathlib.Core.Path.{◌≡◌, refl, sym, ap, ◌∙◌, subst}
use mathlib.Core.Logic.{◌↔◌, ◌⊎◌, inl, inr}
use mathlib.Core.Bool.{Bool, true, false, cond, ◌&&◌}
use Rattle.doubles.specs.Doubles.{abs_of, #0, #2, #4}
use Rattle.doubles.specs.Root.{sqrt_of}
use Rattle.doubles.proofs.Floats.{clash, and_left, and_right, and_both}
use Rattle.doubles.proofs.Order.{above, beyond, self_le, below_le, not_below_le, below_le_below, le_trans_above, below_not_le}
use Rattle.doubles.proofs.Same.{same}
use Rattle.rays.specs.declared.Ray.{Ray}
use Rattle.rays.specs.Rays.{min_local_distance}
use Rattle.geometry.specs.declared.LocalHit.{LocalHit}
use Rattle.geometry.specs.declared.round.Roots.{Roots}
use Rattle.geometry.specs.declared.closed.Wall.{Wall}
use Rattle.geometry.specs.declared.closed.Wall.TheVariants.{Side, Lower, Upper}
use Rattle.geometry.specs.declared.closed.Offer.{Offer}
use Rattle.geometry.specs.Hits.{parallel}
use Rattle.geometry.specs.Round.{cylinder_roots_of, is_on_side_of, solve_of}
use Rattle.geometry.specs.Closed.{side_offer_of, end_distance_of, is_on_end_of, end_offer_of, nearer_offer_of, sides_of, ends_of, closest_wall_of, wall_normal_of, wall_hit, intersect_closed_cylinder_of, IsRoot, IsEnd, Qualifies, is_before, IsMet}
use Rattle.geometry.proofs.Signs.{near_is}

abbrev at : Float → Wall → Option Offer
at t wall = Some (record { t = t; wall = wall })

abbrev two : Float → Float → Option Roots
two t1 t2 = Some (record { first = t1; second = t2 })

-- ---- the least of any candidates, P saying which there are

-- the distance t on a wall comes before every one that there is
abbrev pub First : (Float → Wall → Type 0) → Float → Wall → Type 0
First P t wall =
    (s : Float) (other : Wall) → P s other → (le t s ≡ true) × (is_before other wall ≡ true → lt t s ≡ true)

abbrev pub Least : (Float → Wall → Type 0) → Option Offer → Type 0
Least P None = (t : Float) (wall : Wall) → P t wall → ⊥
Least P (Some a) = P a.t a.wall × First P a.t a.wall

abbrev Either : (Float → Wall → Type 0) → (Float → Wall → Type 0) → Float → Wall → Type 0
Either P Q t wall = P t wall ⊎ Q t wall

-- every distance is above zero
abbrev Above : (Float → Wall → Type 0) → Type 0
Above P = (t : Float) (wall : Wall) → P t wall → T (above t)

-- no wall of Q stands before one of P
abbrev InOrder : (Float → Wall → Type 0) → (Float → Wall → Type 0) → Type 0
InOrder P Q = (t s : Float) (wall other : Wall) → P t wall → Q s other → is_before other wall ≡ false

-- the nearer of two offers is the least of both
module _ (P Q : Float → Wall → Type 0) (p : Above P) (q : Above Q) (o : InOrder P Q) where
  first_wins : (t : Float) (wall : Wall) (s : Float) (other : Wall) → P t wall → First P t wall → Q s other → First Q s other → lt s t ≡ false → First (Either P Q) t wall
  first_wins t wall s other x f y g e u any (inl z) = f u any z
  first_wins t wall s other x f y g e u any (inr z) = (
    le_trans_above t s u (p t wall x) (q s other y) (q u any z) (not_below_le s t (q s other y) (p t wall x) e) (g u any z).0,
    λ (k : is_before any wall ≡ true). absurd (clash (sym k ∙ o t u wall any x z)),
  )

  second_wins : (t : Float) (wall : Wall) (s : Float) (other : Wall) → P t wall → First P t wall → Q s other → First Q s other → lt s t ≡ true → First (Either P Q) s other
  second_wins t wall s other x f y g e u any (inl z) =
      let v : lt s u ≡ true = below_le_below s t u (q s other y) (p t wall x) (p u any z) e (f u any z).0 in
      (below_le s u v, λ (k : is_before any other ≡ true). v)
  second_wins t wall s other x f y g e u any (inr z) = g u any z

  joined : (a b : Option Offer) → Least P a → Least Q b → Least (Either P Q) (nearer_offer_of a b)
  unfolding nearer_offer_of
  joined None None f g = nothing
    where
      nothing : (t : Float) (wall : Wall) → Either P Q t wall → ⊥
      nothing t wall (inl z) = f t wall z
      nothing t wall (inr z) = g t wall z
  joined None (Some b) f (y, g) = (inr y, rest)
    where
      rest : First (Either P Q) b.t b.wall
      rest u any (inl z) = absurd (f u any z)
      rest u any (inr z) = g u any z
  joined (Some a) None (x, f) g = (inl x, rest)
    where
      rest : First (Either P Q) a.t a.wall
      rest u any (inl z) = f u any z
      rest u any (inr z) = absurd (g u any z)
  joined (Some a) (Some b) (x, f) (y, g) = go (lt b.t a.t) refl
    where
      go : (k : Bool) → lt b.t a.t ≡ k → Least (Either P Q) (cond k (Some b) (Some a))
      go true e = (inr y, second_wins a.t a.wall b.t b.wall x f y g e)
      go false e = (inl x, first_wins a.t a.wall b.t b.wall x f y g e)

-- ---- one wall

-- a distance that passes a test, on a wall
abbrev Offered : Float → Wall → Bool → Float → Wall → Type 0
Offered t wall b s other = (s ≡ t) × ((other ≡ wall) × (b ≡ true))

not_before_itself : (wall : Wall) → is_before wall wall ≡ false
not_before_itself Side = refl
not_before_itself Lower = refl
not_before_itself Upper = refl

-- what is offered is the least of the one that there is
offered_least : (t : Float) (wall : Wall) (b : Bool) → (b ≡ true → T (above t)) → Least (Offered t wall b) (cond b (at t wall) None)
offered_least t wall true a = ((refl, (refl, refl)), first)
  where
    first : First (Offered t wall true) t wall
    first s other (e, (k, h)) = (
      subst (λ (x : Float). le t x ≡ true) (sym e) (self_le t (a refl)),
      λ (z : is_before other wall ≡ true). absurd (clash (sym z ∙ ap (λ (w : Wall). is_before w wall) k ∙ not_before_itself wall)),
    )
offered_least t wall false a = λ (s : Float) (other : Wall) (z : Offered t wall false s other). clash (sym z.1.1)

offered_above : (t : Float) (wall : Wall) (b : Bool) → (b ≡ true → T (above t)) → Above (Offered t wall b)
offered_above t wall b a s other (e, (k, h)) = subst (λ (x : Float). T (above x)) (sym e) (a h)

-- candidates that are also described otherwise
described : (P Q : Float → Wall → Type 0) → ((t : Float) (wall : Wall) → P t wall → Q t wall) → ((t : Float) (wall : Wall) → Q t wall → P t wall) → (c : Option Offer) → Least P c → Least Q c
described P Q f g None h = λ (t : Float) (wall : Wall) (z : Q t wall). h t wall (g t wall z)
described P Q f g (Some a) (x, h) = (f a.t a.wall x, λ (s : Float) (other : Wall) (z : Q s other). h s other (g s other z))

-- ---- above 1e-9: above zero

ahead_above : (t : Float) → lt min_local_distance t ≡ true → T (above t)
ahead_above t h = beyond _ _ t (subst (λ (l : Float). lt l t ≡ true) near_is h)

side_above : (half : Float) (r : Ray) (t : Float) → is_on_side_of half r t ≡ true → T (above t)
unfolding is_on_side_of
side_above half r t h = ahead_above t (and_left (lt min_local_distance t) _ h)

end_above : (radius : Float) (r : Ray) (t : Float) → is_on_end_of radius r t ≡ true → T (above t)
unfolding is_on_end_of
end_above radius r t h = ahead_above t (and_left (lt min_local_distance t) _ h)

-- ---- the side

abbrev OnSide : Float → Ray → Option Roots → Float → Wall → Type 0
OnSide half r roots t wall = (wall ≡ Side) × (IsRoot t roots × (is_on_side_of half r t ≡ true))

on_side_above : (half : Float) (r : Ray) (roots : Option Roots) → Above (OnSide half r roots)
on_side_above half r roots t wall (e, (k, h)) = side_above half r t h

side_least : (half : Float) (r : Ray) (t : Float) → Least (Offered t Side (is_on_side_of half r t)) (side_offer_of half r t)
unfolding side_offer_of
side_least half r t = offered_least t Side (is_on_side_of half r t) (side_above half r t)

sides_least : (half : Float) (r : Ray) (roots : Option Roots) → Least (OnSide half r roots) (sides_of half r roots)
unfolding sides_of
sides_least half r None = λ (t : Float) (wall : Wall) (z : OnSide half r None t wall). z.1.0
sides_least half r (Some c) =
    described (Either P Q) (OnSide half r (Some c)) there back (nearer_offer_of (side_offer_of half r c.first) (side_offer_of half r c.second))
    (joined P Q (offered_above c.first Side (is_on_side_of half r c.first) (side_above half r c.first)) (offered_above c.second Side (is_on_side_of half r c.second) (side_above half r c.second)) in_order (side_offer_of half r c.first) (side_offer_of half r c.second)
    (side_least half r c.first) (side_least half r c.second))
  where
    P : Float → Wall → Type 0
    P = Offered c.first Side (is_on_side_of half r c.first)

    Q : Float → Wall → Type 0
    Q = Offered c.second Side (is_on_side_of half r c.second)

    in_order : InOrder P Q
    in_order t s wall other (e, (k, h)) (f, (l, g)) = ap (λ (w : Wall). is_before w wall) l ∙ ap (is_before Side) k

    there : (t : Float) (wall : Wall) → Either P Q t wall → OnSide half r (Some c) t wall
    there t wall (inl (e, (k, h))) = (k, (inl e, subst (λ (x : Float). is_on_side_of half r x ≡ true) (sym e) h))
    there t wall (inr (e, (k, h))) = (k, (inr e, subst (λ (x : Float). is_on_side_of half r x ≡ true) (sym e) h))

    back : (t : Float) (wall : Wall) → OnSide half r (Some c) t wall → Either P Q t wall
    back t wall (k, (inl e, h)) = inl (e, (k, subst (λ (x : Float). is_on_side_of half r x ≡ true) e h))
    back t wall (k, (inr e, h)) = inr (e, (k, subst (λ (x : Float). is_on_side_of half r x ≡ true) e h))

-- ---- the ends

is_offered : Float → Float → Ray → Bool
is_offered radius end r = le parallel (abs_of r.direction.z) && is_on_end_of radius r (end_distance_of end r)

abbrev OnEnd : Float → Float → Ray → Wall → Float → Wall → Type 0
OnEnd radius end r wall = Offered (end_distance_of end r) wall (is_offered radius end r)

offered_end_above : (radius end : Float) (r : Ray) → is_offered radius end r ≡ true → T (above (end_distance_of end r))
unfolding is_offered
offered_end_above radius end r h =
    end_above radius r (end_distance_of end r) (and_right (le parallel (abs_of r.direction.z)) (is_on_end_of radius r (end_distance_of end r)) h)

on_end_above : (radius end : Float) (r : Ray) (wall : Wall) → Above (OnEnd radius end r wall)
on_end_above radius end r wall = offered_above (end_distance_of end r) wall (is_offered radius end r) (offered_end_above radius end r)

end_least : (radius end : Float) (r : Ray) (wall : Wall) → Least (OnEnd radius end r wall) (end_offer_of radius end r wall)
unfolding end_offer_of is_offered
end_least radius end r wall = offered_least (end_distance_of end r) wall (is_offered radius end r) (offered_end_above radius end r)

abbrev OnEnds : Float → Float → Ray → Float → Wall → Type 0
OnEnds radius half r = Either (OnEnd radius (neg half) r Lower) (OnEnd radius half r Upper)

on_ends_above : (radius half : Float) (r : Ray) → Above (OnEnds radius half r)
on_ends_above radius half r t wall (inl z) = on_end_above radius (neg half) r Lower t wall z
on_ends_above radius half r t wall (inr z) = on_end_above radius half r Upper t wall z

ends_least : (radius half : Float) (r : Ray) → Least (OnEnds radius half r) (ends_of radius half r)
unfolding ends_of
ends_least radius half r =
    joined (OnEnd radius (neg half) r Lower) (OnEnd radius half r Upper) (on_end_above radius (neg half) r Lower) (on_end_above radius half r Upper) in_order
    (end_offer_of radius (neg half) r Lower) (end_offer_of radius half r Upper)
    (end_least radius (neg half) r Lower) (end_least radius half r Upper)
  where
    in_order : InOrder (OnEnd radius (neg half) r Lower) (OnEnd radius half r Upper)
    in_order t s wall other (e, (k, h)) (f, (l, g)) = ap (λ (w : Wall). is_before w wall) l ∙ ap (is_before Upper) k

-- ---- all

abbrev Any : Float → Float → Ray → Float → Wall → Type 0
Any radius half r = Either (OnSide half r (cylinder_roots_of radius r)) (OnEnds radius half r)

any_least : (radius half : Float) (r : Ray) → Least (Any radius half r) (closest_wall_of radius half r)
unfolding closest_wall_of
any_least radius half r =
    joined (OnSide half r (cylinder_roots_of radius r)) (OnEnds radius half r) (on_side_above half r (cylinder_roots_of radius r)) (on_ends_above radius half r) in_order
    (sides_of half r (cylinder_roots_of radius r)) (ends_of radius half r)
    (sides_least half r (cylinder_roots_of radius r)) (ends_least radius half r)
  where
    in_order : InOrder (OnSide half r (cylinder_roots_of radius r)) (OnEnds radius half r)
    in_order t s wall other (e, x) (inl (f, (l, g))) = ap (λ (w : Wall). is_before w wall) l ∙ ap (is_before Lower) e
    in_order t s wall other (e, x) (inr (f, (l, g))) = ap (λ (w : Wall). is_before w wall) l ∙ ap (is_before Upper) e

end_there : (radius end : Float) (r : Ray) (wall : Wall) (t : Float) (other : Wall) → OnEnd radius end r wall t other → IsEnd radius end r t
unfolding is_offered
end_there radius end r wall t other (e, (k, h)) =
    let d = end_distance_of end r in (
      e,
      (and_left (le parallel (abs_of r.direction.z)) (is_on_end_of radius r d) h, subst (λ (x : Float). is_on_end_of radius r x ≡ true) (sym e) (and_right (le parallel (abs_of r.direction.z)) (is_on_end_of radius r d) h)),
    )

end_back : (radius end : Float) (r : Ray) (wall : Wall) (t : Float) → IsEnd radius end r t → OnEnd radius end r wall t wall
unfolding is_offered
end_back radius end r wall t (e, (d, h)) = (e, (refl, and_both (le parallel (abs_of r.direction.z)) (is_on_end_of radius r (end_distance_of end r)) d (subst (λ (x : Float). is_on_end_of radius r x ≡ true) e h)))

there : (radius half : Float) (r : Ray) (t : Float) (wall : Wall) → Any radius half r t wall → Qualifies radius half r t wall
there radius half r t wall (inl (e, z)) = subst (Qualifies radius half r t) (sym e) z
there radius half r t wall (inr (inl z)) = subst (Qualifies radius half r t) (sym z.1.0) (end_there radius (neg half) r Lower t wall z)
there radius half r t wall (inr (inr z)) = subst (Qualifies radius half r t) (sym z.1.0) (end_there radius half r Upper t wall z)

back : (radius half : Float) (r : Ray) (t : Float) (wall : Wall) → Qualifies radius half r t wall → Any radius half r t wall
back radius half r t Side z = inl (refl, z)
back radius half r t Lower z = inr (inl (end_back radius (neg half) r Lower t z))
back radius half r t Upper z = inr (inr (end_back radius half r Upper t z))

hit_is : (radius half : Float) (r : Ray) (c : Option Offer) → Least (Qualifies radius half r) c → IsMet radius half r (wall_hit radius r c)
unfolding wall_hit
hit_is radius half r None h = h
hit_is radius half r (Some a) (x, f) = (a.wall, (x, (refl, f)))

-- the wall that is chosen is the least that qualifies
pub closest_wall_is : (radius half : Float) (r : Ray) → Least (Qualifies radius half r) (closest_wall_of radius half r)
closest_wall_is radius half r = described (Any radius half r) (Qualifies radius half r) (there radius half r) (back radius half r) (closest_wall_of radius half r) (any_least radius half r)

-- what a closed cylinder answers is what the request says
pub closed_is : (radius half : Float) (r : Ray) → IsMet radius half r (intersect_closed_cylinder_of radius half r)
unfolding intersect_closed_cylinder_of
closed_is radius half r =
    hit_is radius half r (closest_wall_of radius half r) (closest_wall_is radius half r)

-- none is answered precisely if no candidate qualifies
pub none_precisely : (radius half : Float) (r : Ray) → (intersect_closed_cylinder_of radius half r ≡ None) ↔ ((t : Float) (wall : Wall) → Qualifies radius half r t wall → ⊥)
none_precisely radius half r = (
  λ (e : intersect_closed_cylinder_of radius half r ≡ None). subst (IsMet radius half r) e (closed_is radius half r),
  λ (h : (t : Float) (wall : Wall) → Qualifies radius half r t wall → ⊥). empty (intersect_closed_cylinder_of radius half r) (closed_is radius half r) h,
)
  where
    empty : (o : Option LocalHit) → IsMet radius half r o → ((t : Float) (wall : Wall) → Qualifies radius half r t wall → ⊥) → o ≡ None
    empty None m h = refl
    empty (Some x) (wall, (q, rest)) h = absurd (h x.t wall q)

-- ---- nothing else is

-- every candidate is a quotient, which the format holds
abbrev Fit : Float → Type 0
Fit t = T (fits binary64 t)

abbrev RootsFit : Option Roots → Type 0
RootsFit (Some c) = Fit c.first × Fit c.second
RootsFit None = Unit

unless_fits : (b : Bool) (roots : Option Roots) → RootsFit roots → RootsFit (cond b None roots)
unless_fits true roots f = tt
unless_fits false roots f = f

solve_fits : (a b c : Float) → RootsFit (solve_of a b c)
unfolding solve_of
solve_fits a b c =
    let disc = sub binary64 (mul binary64 b b) (mul binary64 (mul binary64 #4 a) c) in
    let below = sub binary64 (neg b) (sqrt_of disc) in
    let beyond = add binary64 (neg b) (sqrt_of disc) in
    let twice = mul binary64 #2 a in
    unless_fits (lt disc #0) (two (div binary64 below twice) (div binary64 beyond twice)) (div-fits binary64 below twice, div-fits binary64 beyond twice)

roots_fit : (radius : Float) (r : Ray) → RootsFit (cylinder_roots_of radius r)
unfolding cylinder_roots_of
roots_fit radius r = unless_fits (lt a parallel) (solve_of a b c) (solve_fits a b c)
  where
    a : Float
    a = add binary64 (mul binary64 r.direction.x r.direction.x) (mul binary64 r.direction.y r.direction.y)

    b : Float
    b = mul binary64 #2 (add binary64 (mul binary64 r.origin.x r.direction.x) (mul binary64 r.origin.y r.direction.y))

    c : Float
    c = sub binary64 (add binary64 (mul binary64 r.origin.x r.origin.x) (mul binary64 r.origin.y r.origin.y)) (mul binary64 radius radius)

root_fits : (roots : Option Roots) → RootsFit roots → (t : Float) → IsRoot t roots → Fit t
root_fits (Some c) (p, q) t (inl e) = subst Fit (sym e) p
root_fits (Some c) (p, q) t (inr e) = subst Fit (sym e) q
root_fits None f t z = absurd z

end_fits : (end : Float) (r : Ray) → Fit (end_distance_of end r)
unfolding end_distance_of
end_fits end r = div-fits binary64 _ _

qualified_fits : (radius half : Float) (r : Ray) (t : Float) (wall : Wall) → Qualifies radius half r t wall → Fit t
qualified_fits radius half r t Side z = root_fits (cylinder_roots_of radius r) (roots_fit radius r) t z.0
qualified_fits radius half r t Lower z = subst Fit (sym z.0) (end_fits (neg half) r)
qualified_fits radius half r t Upper z = subst Fit (sym z.0) (end_fits half r)

qualified_above : (radius half : Float) (r : Ray) → Above (Qualifies radius half r)
qualified_above radius half r t Side z = side_above half r t z.1
qualified_above radius half r t Lower z = end_above radius r t z.1.1
qualified_above radius half r t Upper z = end_above radius r t z.1.1

-- one of two walls stands before the other, or they are one
compared : (a b : Wall) → (is_before a b ≡ true) ⊎ ((is_before b a ≡ true) ⊎ (a ≡ b))
compared Side Side = inr (inr refl)
compared Side Lower = inl refl
compared Side Upper = inl refl
compared Lower Side = inr (inl refl)
compared Lower Lower = inr (inr refl)
compared Lower Upper = inl refl
compared Upper Side = inr (inl refl)
compared Upper Lower = inr (inl refl)
compared Upper Upper = inr (inr refl)

same_hit : (h g : LocalHit) → h.t ≡ g.t → h.normal ≡ g.normal → h ≡ g
same_hit h g e k = λ i. record { t = e i; normal = k i }

-- no two answers fit what the request says
pub closed_only : (radius half : Float) (r : Ray) (o p : Option LocalHit) → IsMet radius half r o → IsMet radius half r p → o ≡ p
closed_only radius half r None None m n = refl
closed_only radius half r None (Some g) m (v, (z, rest)) = absurd (m g.t v z)
closed_only radius half r (Some h) None (w, (x, rest)) n = absurd (n h.t w x)
closed_only radius half r (Some h) (Some g) (w, (x, (a, f))) (v, (z, (b, k))) = ap Some (walls (compared w v))
  where
    p : T (above h.t)
    p = qualified_above radius half r h.t w x

    q : T (above g.t)
    q = qualified_above radius half r g.t v z

    t-is : h.t ≡ g.t
    t-is = same h.t g.t (qualified_fits radius half r h.t w x) (qualified_fits radius half r g.t v z) p q (f g.t v z).0 (k h.t w x).0

    walls : (is_before w v ≡ true) ⊎ ((is_before v w ≡ true) ⊎ (w ≡ v)) → h ≡ g
    walls (inl e) = absurd (below_not_le g.t h.t q p ((k h.t w x).1 e) (f g.t v z).0)
    walls (inr (inl e)) = absurd (below_not_le h.t g.t p q ((f g.t v z).1 e) (k h.t w x).0)
    walls (inr (inr e)) =
        same_hit h g t-is
        (a ∙ ap (λ (t : Float). wall_normal_of radius r t w) t-is ∙ ap (wall_normal_of radius r g.t) e ∙ sym b)
