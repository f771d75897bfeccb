-- The rays of parts put together. Assumes nothing.
use Prim.Native.Nat.{ℕ, ◌+◌, ◌*◌, ◌<◌}
use mathlib.Core.Path.{◌≡◌, refl, ap, sym, ◌∙◌}
use mathlib.Core.List.{List, [], ◌∷◌, ◌++◌}
use native.Mathlib.Omega.{arith}
use lib.Ieee.{Float, nan}
use lib.ListN.{length, get_or, length-append, get_or-append}
use lib.Seq.{get_or-append-add}
use borrow.Author.Tests.{le-leb}
use Rattle.given_rays.specs.Given.{read_ray_of, read_media_of, given_at_of}
use Rattle.theorems_calls.specs.Parts.{Part, Exact, AllExact, joined, joined_all}

pub exact_joined : (p q : Part) → Exact p → Exact q → Exact (joined p q)
exact_joined p q e f =
    record {
      ray_values = length-append p.ray_values q.ray_values ∙ omega (arith, e.ray_values, f.ray_values);
      ray_tags = length-append p.ray_tags q.ray_tags ∙ omega (arith, e.ray_tags, f.ray_tags);
    }

pub exact_all : (ps : List Part) → AllExact ps → Exact (joined_all ps)
unfolding joined_all AllExact
exact_all [] e = record { ray_values = refl; ray_tags = refl }
exact_all (p ∷ ps) e = exact_joined p (joined_all ps) e.0 (exact_all ps e.1)

-- ---- the rays of two lists one after the other, w numbers a ray

module _ {A : Type 0} (z : A) (l k : List A) (n w : ℕ) (e : length l ≡ n * w) where
  former_at : (x : ℕ) → x < n * w → get_or (l ++ k) x z ≡ get_or l x z
  former_at x q = get_or-append l k z x (omega (arith, e))

  later_at : (x y : ℕ) → x ≡ n * w + y → get_or (l ++ k) x z ≡ get_or k y z
  later_at x y q = ap (λ x. get_or (l ++ k) x z) (q ∙ ap (λ x. x + y) (sym e)) ∙ get_or-append-add l k y z

module _ (p q : Part) (e : Exact p) (i : ℕ) where
  abbrev ray_values : List Float
  ray_values = p.ray_values ++ q.ray_values

  abbrev ray_tags : List ℕ
  ray_tags = p.ray_tags ++ q.ray_tags

  module _ (k : i < p.rays) where
    old : (j : ℕ) → j < 8 → get_or ray_values (i * 8 + j) nan ≡ get_or p.ray_values (i * 8 + j) nan
    old j l = former_at nan p.ray_values q.ray_values p.rays 8 e.ray_values (i * 8 + j) (omega arith)

    old-tag : (j : ℕ) → j < 10 → get_or ray_tags (i * 10 + j) 0 ≡ get_or p.ray_tags (i * 10 + j) 0
    old-tag j l = former_at 0 p.ray_tags q.ray_tags p.rays 10 e.ray_tags (i * 10 + j) (omega arith)

    former-ray : read_ray_of ray_values i ≡ read_ray_of p.ray_values i
    unfolding read_ray_of
    former-ray =
        rw (
          former_at nan p.ray_values q.ray_values p.rays 8 e.ray_values (i * 8) (omega arith),
          old 1 (omega arith),
          old 2 (omega arith),
          old 3 (omega arith),
          old 4 (omega arith),
          old 5 (omega arith),
          old 6 (omega arith),
          old 7 (omega arith),
        )

    former-media : read_media_of ray_tags i ≡ read_media_of p.ray_tags i
    unfolding read_media_of
    former-media =
        rw (
          old-tag 1 (omega arith),
          old-tag 2 (omega arith),
          old-tag 3 (omega arith),
          old-tag 4 (omega arith),
          old-tag 5 (omega arith),
          old-tag 6 (omega arith),
          old-tag 7 (omega arith),
          old-tag 8 (omega arith),
          old-tag 9 (omega arith),
        )

    pub former-given : given_at_of p.ray_values p.ray_tags i ≡ given_at_of ray_values ray_tags i
    unfolding given_at_of
    former-given =
        rw (
          le-leb (i * 8 + 8) (length p.ray_values) (omega (arith, e.ray_values)),
          le-leb (i * 10 + 10) (length p.ray_tags) (omega (arith, e.ray_tags)),
          le-leb (i * 8 + 8) (length ray_values) (rw length-append (omega (arith, e.ray_values))),
          le-leb (i * 10 + 10) (length ray_tags) (rw length-append (omega (arith, e.ray_tags))),
          former-ray,
          former-media,
          former_at 0 p.ray_tags q.ray_tags p.rays 10 e.ray_tags (i * 10) (omega arith),
        )

  module _ (f : Exact q) (k : i < q.rays) where
    abbrev c : ℕ
    c = p.rays

    new : (j : ℕ) → get_or ray_values ((c + i) * 8 + j) nan ≡ get_or q.ray_values (i * 8 + j) nan
    new j = later_at nan p.ray_values q.ray_values p.rays 8 e.ray_values ((c + i) * 8 + j) (i * 8 + j) (omega arith)

    new-tag : (j : ℕ) → get_or ray_tags ((c + i) * 10 + j) 0 ≡ get_or q.ray_tags (i * 10 + j) 0
    new-tag j = later_at 0 p.ray_tags q.ray_tags p.rays 10 e.ray_tags ((c + i) * 10 + j) (i * 10 + j) (omega arith)

    later-ray : read_ray_of ray_values (c + i) ≡ read_ray_of q.ray_values i
    unfolding read_ray_of
    later-ray =
        rw (later_at nan p.ray_values q.ray_values p.rays 8 e.ray_values ((c + i) * 8) (i * 8) (omega arith), new 1, new 2, new 3, new 4, new 5, new 6, new 7)

    later-media : read_media_of ray_tags (c + i) ≡ read_media_of q.ray_tags i
    unfolding read_media_of
    later-media = rw (new-tag 1, new-tag 2, new-tag 3, new-tag 4, new-tag 5, new-tag 6, new-tag 7, new-tag 8, new-tag 9)

    pub later-given : given_at_of q.ray_values q.ray_tags i ≡ given_at_of ray_values ray_tags (c + i)
    unfolding given_at_of
    later-given =
        rw (
          le-leb (i * 8 + 8) (length q.ray_values) (omega (arith, f.ray_values)),
          le-leb (i * 10 + 10) (length q.ray_tags) (omega (arith, f.ray_tags)),
          le-leb ((c + i) * 8 + 8) (length ray_values) (rw length-append (omega (arith, e.ray_values, f.ray_values))),
          le-leb ((c + i) * 10 + 10) (length ray_tags) (rw length-append (omega (arith, e.ray_tags, f.ray_tags))),
          later-ray,
          later-media,
          later_at 0 p.ray_tags q.ray_tags p.rays 10 e.ray_tags ((c + i) * 10) (i * 10) (omega arith),
        )
