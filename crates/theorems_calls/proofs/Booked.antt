-- One wish granted in the memory and in the plain book: the empty memory with the book's hits added goes to the empty memory with the book's hits added. Assumes nothing.
use Prim.Native.Nat.{ℕ, ◌<◌}
use mathlib.Core.Path.{◌≡◌, refl, ap, sym, subst, ◌∙◌}
use mathlib.Core.Bool.{true}
use mathlib.Core.List.{List, []}
use native.Mathlib.Omega.{arith}
use lib.ListN.{length}
use Rattle.error.specs.Refusals.{Checked, passed, refused_at}
use Rattle.detector.specs.declared.DetectorHit.{DetectorHit}
use Rattle.detector.proofs.Grid.{never}
use Rattle.memory.specs.Memory.{Memory, Outcome, done, refused, memory_left, unless, listed, hits_from, record_of, has_pixel}
use Rattle.memory.specs.Plain.{Empty, added, book_hit}
use Rattle.memory.proofs.Plain.{map_outcome, same_put, record_lists}
use Rattle.memory.proofs.Views.{Fits}
use Rattle.memory.proofs.Booked.{Booked, empty_booked, record_books, holds_checked}
use Rattle.theorems_calls.specs.Book.{bare, with_used, Wish, granted, check_hit, plain_hit, book_granted}
use Rattle.theorems_calls.proofs.Bare.{emptied, bare_used, plain_bare}
use Rattle.theorems_calls.proofs.Wishes.{Lawful, hit_there, hit_blind}

pub left_map : {N M : Type 0} (φ : N → M) (o : Outcome N) → memory_left (map_outcome φ o) ≡ φ (memory_left o)
left_map φ (done n) = refl
left_map φ (refused k place n) = refl

-- what the book does with a hit that the memory holds
plain_held : (s : Memory) (b : List DetectorHit) (h : DetectorHit) → has_pixel s h ≡ true → book_hit s b h ≡ plain_hit s b h
unfolding book_hit plain_hit
plain_held s b h e = rw e

held_used : (s : Memory) (n : ℕ) (h : DetectorHit) → has_pixel (with_used s n) h ≡ true → has_pixel s h ≡ true
unfolding has_pixel
held_used s n h e = e

-- ---- s is the empty memory; n hits are used when the checks are made

module _ (s : Memory) (eight : length s.detectors.list ≡ 8) (empty : Empty s) where
  module _ (n : ℕ) (h : DetectorHit) (e : check_hit h (with_used s n) ≡ passed tt) where
    below : h.detector.0 < s.detectors.count
    below = (hit_there (with_used s n) h e).1

    plain-hit : (b : List DetectorHit) → book_hit s b h ≡ plain_hit (bare s) b h
    plain-hit b =
        let t = hit_there (with_used s n) h e in
        plain_held s b h (held_used s n h (holds_checked (with_used s n) h t.0 t.1 t.2)) ∙ sym (plain_bare s b h)

    -- a hit that passed the checks goes into both alike
    pub put-booked : (b : List DetectorHit) → record_of (added s b) h ≡ map_outcome (added s) (plain_hit (bare s) b h)
    put-booked b = same_put s eight empty b h below ∙ ap (map_outcome (added s)) (plain-hit b)

    fits : Fits s.detectors.list h
    fits =
        let t = hit_there (with_used s n) h e in
        record { named = omega (arith, t.0.most, t.1, eight); grid = t.0.each h.detector.0 t.1 }

  -- ---- what holds of the book after every call: the list read back is it, and its hits are on detectors that are there

  pub record Sane (b : List DetectorHit) : Type 0 where
    pub back : listed (added s b) ≡ b
    pub booked : Booked s eight empty (added s b)

  pub start_sane : Sane []
  unfolding added hits_from
  start_sane = record { back = ap (λ n. hits_from s.hit_values s.hit_tags n 0) empty.used; booked = empty_booked s eight empty }

  module _ (n : ℕ) (h : DetectorHit) (e : check_hit h (with_used s n) ≡ passed tt) where
    left-put : (b : List DetectorHit) → memory_left (record_of (added s b) h) ≡ added s (memory_left (book_hit s b h))
    left-put b = ap memory_left (same_put s eight empty b h (below n h e)) ∙ left_map (added s) (book_hit s b h)

    hit-sane : (b : List DetectorHit) → Sane b → Sane (memory_left (book_hit s b h))
    hit-sane b x =
        record {
          back =
              ap listed (sym (left-put b)) ∙ record_lists s eight empty (added s b) h (below n h e) (ap (added s) x.back) ∙ ap (λ c. memory_left (book_hit s c h)) x.back;
          booked = subst (Booked s eight empty) (left-put b) (record_books s eight empty (added s b) h (below n h e) (fits n h e) x.booked);
        }

    plain_sane : (b : List DetectorHit) → Sane b → Sane (memory_left (plain_hit (bare s) b h))
    plain_sane b x = subst (λ o. Sane (memory_left o)) (plain-hit n h e b) (hit-sane b x)

  -- ---- a book that keeps its sanity by refusing every hit whose check does not pass: where these do not come it is the book

  abbrev SaneBook : Type 0
  SaneBook = (b : List DetectorHit) × Sane b

  abbrev with_sane : (o : Outcome (List DetectorHit)) → Sane (memory_left o) → Outcome SaneBook
  with_sane (done b) x = done (b, x)
  with_sane (refused k place b) x = refused k place (b, x)

  with_map : (o : Outcome (List DetectorHit)) (x : Sane (memory_left o)) → o ≡ map_outcome (λ (c : SaneBook). c.0) (with_sane o x)
  with_map (done b) x = refl
  with_map (refused k place b) x = refl

  abbrev guard : (n : ℕ) (c : SaneBook) (h : DetectorHit) (t : Checked Unit) → check_hit h (with_used s n) ≡ t → Outcome SaneBook
  guard n c h (passed tt) e = with_sane (plain_hit (bare s) c.0 h) (plain_sane n h e c.0 c.1)
  guard n c h (refused_at k place) e = refused k place c

  abbrev guarded : ℕ → SaneBook → DetectorHit → Outcome SaneBook
  guarded n c h = guard n c h (check_hit h (with_used s n)) refl

  guard_map : (n : ℕ) (c : SaneBook) (h : DetectorHit) → check_hit h (with_used s n) ≡ passed tt
      → plain_hit (bare s) c.0 h ≡ map_outcome (λ (c : SaneBook). c.0) (guarded n c h)
  guard_map n c h p = go (check_hit h (with_used s n)) refl p
    where
      go : (t : Checked Unit) (e : check_hit h (with_used s n) ≡ t) → t ≡ passed tt → plain_hit (bare s) c.0 h ≡ map_outcome (λ (c : SaneBook). c.0) (guard n c h t e)
      go (passed tt) e q = with_map (plain_hit (bare s) c.0 h) (plain_sane n h e c.0 c.1)
      go (refused_at k place) e q = never k place tt q

  -- ---- any lawful wish

  module _ (w : Wish) (law : Lawful w) (b : List DetectorHit) where
    module _ (e : w.check (with_used (bare s) (length b)) ≡ passed tt) where
      brought : (h : DetectorHit) → law.Brings (bare s).detectors h → check_hit h (with_used s (length b)) ≡ passed tt
      unfolding bare
      brought h r = sym (hit_blind h (with_used s (length b))) ∙ law.there (with_used (bare s) (length b)) e h r

      write-booked : w.write Memory record_of (bare s).detectors (added s b) ≡ map_outcome (added s) (w.write (List DetectorHit) (plain_hit (bare s)) (bare s).detectors b)
      write-booked = law.natural (List DetectorHit) Memory (added s) record_of (plain_hit (bare s)) (with_used (bare s) (length b)) e (λ c h r. put-booked (length b) h (brought h r) c) b

      write-sane : Sane b → Sane (memory_left (w.write (List DetectorHit) (plain_hit (bare s)) (bare s).detectors b))
      write-sane x =
          let o : Outcome SaneBook = w.write SaneBook (guarded (length b)) (bare s).detectors (b, x) in
          subst Sane
          (sym
          (ap memory_left (law.natural SaneBook (List DetectorHit) (λ c. c.0) (plain_hit (bare s)) (guarded (length b)) (with_used (bare s) (length b)) e (λ c h r. guard_map (length b) c h (brought h r)) (b, x))
          ∙ left_map (λ (c : SaneBook). c.0) o))
          (memory_left o).1

    -- done or refused, with the same number and place, in both
    pub granted-booked : granted w (emptied (added s b)) record_of (added s b) ≡ map_outcome (added s) (book_granted (bare s) w b)
    unfolding granted
    granted-booked =
        ap (λ (t : Memory). unless (w.check t) (added s b) (w.write Memory record_of t.detectors (added s b))) (bare_used s eight empty b)
        ∙ go (w.check (with_used (bare s) (length b))) refl
      where
        go : (c : Checked Unit) → w.check (with_used (bare s) (length b)) ≡ c
            → unless c (added s b) (w.write Memory record_of (bare s).detectors (added s b)) ≡ map_outcome (added s) (unless c b (w.write (List DetectorHit) (plain_hit (bare s)) (bare s).detectors b))
        go (passed tt) e = write-booked e
        go (refused_at n place) e = refl

    pub granted-sane : Sane b → Sane (memory_left (book_granted (bare s) w b))
    unfolding granted
    granted-sane x = go (w.check (with_used (bare s) (length b))) refl
      where
        go : (c : Checked Unit) → w.check (with_used (bare s) (length b)) ≡ c → Sane (memory_left (unless c b (w.write (List DetectorHit) (plain_hit (bare s)) (bare s).detectors b)))
        go (passed tt) e = write-sane e x
        go (refused_at n place) e = x
