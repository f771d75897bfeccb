-- Laws of values that are put into slices. Assumes nothing.
use mathlib.Core.Path.{◌≡◌, refl, ap, ◌∙◌}
use mathlib.Core.List.{List, [], ◌∷◌, ◌++◌}
use mathlib.Core.Bool.{Bool, true, false}
use Prim.Native.Nat.{ℕ}
use lib.ListN.{set}
use lib.Ieee.{Float}
use Rattle.scene_text.specs.Cells.{Values, joined}
use Rattle.scene_text.specs.Tables.{Filled, filled, next_at, put_all}
use Rattle.scene_text.specs.Steps.{Table, table, put}

pub put_append : {A : Type 0} (l : List A) (p : ℕ) (s t : List A) → put_all (put_all l p s).list (put_all l p s).next t ≡ put_all l p (s ++ t)
unfolding put_all
put_append l p [] t = refl
put_append l p (x ∷ s) t = put_append (set l p x) (next_at l p) s t

-- one value, and then more
pub put_again : {A : Type 0} (l l2 : List A) (p p2 : ℕ) (x : A) (t : List A) (z : Filled A) → filled l2 p2 ≡ put_all l p (x ∷ []) → put_all l p (x ∷ t) ≡ z → put_all l2 p2 t ≡ z
unfolding put_all
put_again {A = A} l l2 p p2 x t z e f = ap (λ (o : Filled A). put_all o.list o.next t) e ∙ f

-- ---- a piece of text

pub put_ok : (a : Values) (t : Table) → (put a t).ok ≡ a.ok
unfolding put
put_ok a t = refl

-- whether all was well formed before does not matter
pub put_any : (v : Values) (o : Bool) (d : List Float) (nd : ℕ) (w : List ℕ) (nw : ℕ) → put v (table true d nd w nw) ≡ put v (table o d nd w nw)
unfolding put
put_any v o d nd w nw = refl

pub put_then : (a b : Values) (t : Table) → a.ok ≡ true → put b (put a t) ≡ put (joined a b) t
unfolding put joined
put_then a b t e = rw (e, put_append t.doubles t.nd a.doubles b.doubles, put_append t.wholes t.nw a.wholes b.wholes)

pub put_stop : (a b : Values) (t : Table) → a.ok ≡ false → put a t ≡ put (joined a b) t
unfolding joined
put_stop a b t e = rw e
