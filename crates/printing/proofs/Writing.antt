-- Laws of bytes written one after another. Assumes nothing.
use Prim.Native.Nat.{ℕ, suc, ◌+◌, ◌-◌, ◌*◌, ◌/◌, ◌%◌, ◌^◌, ◌≤◌, ◌<◌}
use mathlib.Core.Path.{◌≡◌, refl, ap, ◌∙◌}
use mathlib.Core.List.{List, [], ◌∷◌, ◌++◌}
use native.Mathlib.Numerals.{add-one}
use native.Mathlib.Omega.{arith}
use lib.ListN.{length, take, drop, get_or, set, drop_of_length-le, length-set}
use lib.Seq.{drop-cons, sets, sets-eq, take-append_seam}
use borrow.Author.Tests.{lt-ltb, ne_eqb, eq-eqb}
use Rattle.printing.specs.Printing.{glyph_of, hex_text, Out, out, next_at, put_all}

pub put_again : (l l2 : List ℕ) (p p2 b : ℕ) (t : List ℕ) (z : Out) → out l2 p2 ≡ put_all l p (b ∷ []) → put_all l p (b ∷ t) ≡ z → put_all l2 p2 t ≡ z
unfolding put_all
put_again l l2 p p2 b t z e f = ap (λ (o : Out). put_all o.buf o.at t) e ∙ f

pub put_end : (l : List ℕ) (p i : ℕ) (t : List ℕ) (z : Out) → length t ≤ i → put_all l p (drop i t) ≡ z → out l p ≡ z
unfolding put_all
put_end l p i t z h e = rw (drop_of_length-le t h) at e

pub put_next : (l l2 : List ℕ) (p p2 i : ℕ) (t : List ℕ) (z : Out) → i < length t → out l2 p2 ≡ put_all l p (get_or t i 0 ∷ []) → put_all l p (drop i t) ≡ z → put_all l2 p2 (drop (i + 1) t) ≡ z
put_next l l2 p p2 i t z h e f = put_again l l2 p p2 (get_or t i 0) (drop (i + 1) t) z e (rw (add-one i) (rw (drop-cons t i 0 h) at f))

pub length_put : (l : List ℕ) (p : ℕ) (t : List ℕ) → length (put_all l p t).buf ≡ length l
unfolding put_all
length_put l p [] = refl
length_put l p (b ∷ t) = length_put (set l p b) (next_at l p) t ∙ length-set l p b

-- ---- hex digits, written

pub hex_put : (l l2 : List ℕ) (p p2 k r g : ℕ) (z : Out) → k < 16 → (r % 2 ^ 60 ≡ 0 → ⊥) → g ≡ glyph_of (r / 2 ^ 60) → out l2 p2 ≡ put_all l p (g ∷ []) → put_all l p (hex_text (16 - k) r) ≡ z → put_all l2 p2 (hex_text (16 - (k + 1)) (r % 2 ^ 60 * 16)) ≡ z
unfolding hex_text
hex_put l l2 p p2 k r g z h n w e f =
    let q : 16 - k ≡ suc (16 - (k + 1)) = omega arith in
    let f2 = simp (ne_eqb _ _ n) at (rw q at f) in
    put_again l l2 p p2 g _ z e (rw w f2)

pub hex_last : (l l2 : List ℕ) (p p2 k r g : ℕ) (z : Out) → k < 16 → r % 2 ^ 60 ≡ 0 → g ≡ glyph_of (r / 2 ^ 60) → out l2 p2 ≡ put_all l p (g ∷ []) → put_all l p (hex_text (16 - k) r) ≡ z → out l2 p2 ≡ z
unfolding hex_text
hex_last l l2 p p2 k r g z h n w e f =
    let q : 16 - k ≡ suc (16 - (k + 1)) = omega arith in
    let f2 = simp (eq-eqb _ _ n) at (rw q at f) in
    e ∙ rw w f2

pub hex_none : (l : List ℕ) (p k r : ℕ) (z : Out) → 16 ≤ k → put_all l p (hex_text (16 - k) r) ≡ z → out l p ≡ z
unfolding hex_text put_all
hex_none l p k r z h f = let q : 16 - k ≡ 0 = omega arith in rw q at f

pub put_append : (l : List ℕ) (p : ℕ) (s t : List ℕ) → put_all (put_all l p s).buf (put_all l p s).at t ≡ put_all l p (s ++ t)
unfolding put_all
put_append l p [] t = refl
put_append l p (b ∷ s) t = put_append (set l p b) (next_at l p) s t

-- one text written after another
pub put_join : (l l2 : List ℕ) (p p2 : ℕ) (s t : List ℕ) (z : Out) → out l2 p2 ≡ put_all l p s → z ≡ put_all l2 p2 t → z ≡ put_all l p (s ++ t)
put_join l l2 p p2 s t z e f = f ∙ ap (λ (o : Out). put_all o.buf o.at t) e ∙ put_append l p s t

-- ---- a buffer that is long enough holds all that is written

put_fits : (l : List ℕ) (p : ℕ) (t : List ℕ) → p + length t ≤ length l → put_all l p t ≡ out (sets l p t) (p + length t)
unfolding put_all next_at
put_fits l p [] h = let e : p ≡ p + 0 = omega arith in ap (λ (n : ℕ). out l n) e
put_fits l p (b ∷ t) h =
    let i : p < length l = omega arith in
    let h2 : suc p + length t ≤ length (set l p b) = rw (length-set l p b) (omega arith) in
    let e : suc p + length t ≡ p + suc (length t) = omega arith in
    simp (lt-ltb _ _ i) (rw (add-one p) (put_fits (set l p b) (suc p) t h2 ∙ ap (λ (n : ℕ). out (sets (set l p b) (suc p) t) n) e))

pub written : (l l2 t : List ℕ) (r : ℕ) → length t ≤ length l → out l2 r ≡ put_all l 0 t → (r ≡ length t) × (take r l2 ≡ t)
written l l2 t r h e =
    let f = e ∙ put_fits l 0 t (omega arith) in
    let n : r ≡ length t = ap (λ (o : Out). o.at) f ∙ omega arith in
    let b : l2 ≡ sets l 0 t = ap (λ (o : Out). o.buf) f in
    let s : sets l 0 t ≡ t ++ drop (0 + length t) l = sets-eq t l 0 (omega arith) in
    (n, rw (n, b, s) (take-append_seam t (drop (0 + length t) l)))
