-- Laws of media, which are joined by commas. Assumes nothing.
use Rattle.std.specs.Prelude.{Option, None, Some, unwrap_or}
use mathlib.Core.Path.{◌≡◌, refl, sym, ap, ◌∙◌}
use mathlib.Core.List.{List, [], ◌∷◌}
use mathlib.Core.Bool.{true, false}
use Prim.Native.Nat.{ℕ, suc, ◌+◌, ◌-◌, ◌≤◌, ◌<◌}
use native.Mathlib.Omega.{arith}
use lib.ListN.{length, take, drop}
use Rattle.fields.specs.Split.{before, later, split, end_at_of, parts_at, is_byte_of}
use Rattle.fields.specs.Number.{read_whole_of}
use Rattle.fields.proofs.Parts.{parts_past, parts_in, later_after, end_part}
use Rattle.scene_text.specs.Cells.{media_parts, one_more_of, is_number, count_media_of, number_or_zero_of, media_row}
use Rattle.scene_text.specs.Tables.{Filled, filled, put_all}
use Rattle.scene_text.proofs.Filling.{put_again}

pub number_is : (v : Option ℕ) → unwrap_or v 0 ≡ number_or_zero_of v
unfolding number_or_zero_of
number_is (Some n) = refl
number_is None = refl

pub start_dash : (f : List ℕ) → is_byte_of f 45 ≡ true → parts_at 44 f (length f + 1) ≡ media_parts f
unfolding media_parts
start_dash f e = let h : length f < length f + 1 = omega arith in rw (e, parts_past 44 f (length f + 1) h)

pub start_list : (f : List ℕ) → is_byte_of f 45 ≡ false → parts_at 44 f 0 ≡ media_parts f
unfolding media_parts
start_list f e = let h : 0 ≤ length f = omega arith in rw (e, parts_in 44 f 0 h)

module _ (s : List ℕ) (at b e : ℕ) (q : e ≡ end_at_of s at b) (h : at ≤ length s) where
  pub here : parts_at b s at ≡ before b (drop at s) ∷ later b (drop at s)
  unfolding split
  here = parts_in b s at h

  pub next : parts_at b s (e + 1) ≡ later b (drop at s)
  next = rw q (sym (later_after s at b h))

  pub text : take (e - at) (drop at s) ≡ before b (drop at s)
  text = rw q (end_part s at b)

module _ (f : List ℕ) (at e : ℕ) (q : e ≡ end_at_of f at 44) (h : at ≤ length f) where
  pub count_again : (v : Option ℕ) (x n : ℕ) (z : Option ℕ) → v ≡ read_whole_of (take (e - at) (drop at f)) → v ≡ Some x → count_media_of (parts_at 44 f at) n ≡ z → count_media_of (parts_at 44 f (e + 1)) (one_more_of n) ≡ z
  unfolding count_media_of is_number
  count_again v x n z p r m =
      let p2 : read_whole_of (before 44 (drop at f)) ≡ Some x = rw (← text f at 44 e q h) (sym p ∙ r) in
      let m2 = simp p2 at (rw (here f at 44 e q h) at m) in
      rw (next f at 44 e q h) m2

  pub count_bad : (v : Option ℕ) (n : ℕ) (z : Option ℕ) → v ≡ read_whole_of (take (e - at) (drop at f)) → v ≡ None → count_media_of (parts_at 44 f at) n ≡ z → None ≡ z
  unfolding count_media_of is_number
  count_bad v n z p r m =
      let p2 : read_whole_of (before 44 (drop at f)) ≡ None = rw (← text f at 44 e q h) (sym p ∙ r) in
      simp p2 at (rw (here f at 44 e q h) at m)

  pub medium_here : (x n : ℕ) → x ≡ number_or_zero_of (read_whole_of (take (e - at) (drop at f))) → ◌≡◌ {A = List ℕ} (x ∷ media_row n (parts_at 44 f (e + 1))) (media_row (suc n) (parts_at 44 f at))
  unfolding media_row
  medium_here x n p = rw (here f at 44 e q h, next f at 44 e q h, p, text f at 44 e q h)

pub count_done : (f : List ℕ) (at n : ℕ) (z : Option ℕ) → length f < at → count_media_of (parts_at 44 f at) n ≡ z → Some n ≡ z
unfolding count_media_of
count_done f at n z h m = rw (parts_past 44 f at h) at m

pub medium_past : (f : List ℕ) (at n : ℕ) → length f < at → ◌≡◌ {A = List ℕ} (0 ∷ media_row n (parts_at 44 f at)) (media_row (suc n) (parts_at 44 f at))
unfolding media_row
medium_past f at n h = rw (parts_past 44 f at h)

pub media_again : (f : List ℕ) (at at2 x j : ℕ) (w w2 : List ℕ) (p p2 : ℕ) (z : Filled ℕ) → j < 8 → ((n : ℕ) → ◌≡◌ {A = List ℕ} (x ∷ media_row n (parts_at 44 f at2)) (media_row (suc n) (parts_at 44 f at))) → filled w2 p2 ≡ put_all w p (x ∷ []) → put_all w p (media_row (8 - j) (parts_at 44 f at)) ≡ z → put_all w2 p2 (media_row (8 - (j + 1)) (parts_at 44 f at2)) ≡ z
media_again f at at2 x j w w2 p p2 z h m a e =
    let o : 8 - j ≡ suc (8 - (j + 1)) = omega arith in
    let e2 = rw o at e in
    put_again w w2 p p2 x (media_row (8 - (j + 1)) (parts_at 44 f at2)) z a (ap (put_all w p) (m (8 - (j + 1))) ∙ e2)

pub media_end : (f : List ℕ) (at j : ℕ) (w : List ℕ) (p : ℕ) (z : Filled ℕ) → 8 ≤ j → put_all w p (media_row (8 - j) (parts_at 44 f at)) ≡ z → filled w p ≡ z
unfolding media_row put_all
media_end f at j w p z h e = let o : 8 - j ≡ 0 = omega arith in rw o at e
