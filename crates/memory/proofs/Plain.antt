-- Recording in the memory and in the plain book: the memory is the empty one with the book's hits added in list order. Assumes nothing.
use Prim.{yes, no}
use Prim.Native.Nat.{ℕ, ◌+◌, ◌≤◌, ◌<◌}
use mathlib.Core.Path.{◌≡◌, refl, ap, sym, ◌∙◌, fun_ext}
use mathlib.Core.Bool.{Bool, true, false, cond, ◌||◌}
use mathlib.Core.List.{List, [], ◌∷◌, ◌++◌}
use native.Mathlib.Nat.{add-zero, add_assoc}
use native.Mathlib.Omega.{arith}
use native.Mathlib.Decide.{ℕ_discrete}
use lib.Dec.{leb, ltb, eqb}
use lib.Ieee.{Float}
use lib.ListN.{length, get_or, set, length-append}
use lib.Seq.{get_or-set_same, get_or-set_other}
use borrow.Author.Tests.{eq-eqb, ne_eqb, ltb-true, leb-false}
use Rattle.detector.specs.declared.Detector2D.{Detector2D}
use Rattle.detector.specs.declared.DetectorHit.{DetectorHit}
use Rattle.error.specs.Refusals.{Checked, passed, refused_at}
use Rattle.detectors.specs.declared.Placed.{Placed}
use Rattle.detectors.specs.Detectors.{no_detector, detector_at, find_of}
use Rattle.memory.specs.Memory.{Memory, Outcome, done, refused, raised, written_at, judged, put_of, record_of, cell_in, are_hits_of, capacity, has_pixel, hit_detector, listed, hits_from, memory_left, unless, is_memory, record_hit_classified_of}
use Rattle.memory.specs.Plain.{sharing, number_in, book_hit, added, Empty}
use Rattle.memory.proofs.Records.{both, told_lengths}
use Rattle.detectors.proofs.Passed.{asked_there}
use Rattle.memory.proofs.Keeps.{written_cell, written_hits, written_list, added_cell, added_holds, added_capacity, added_count}
use Rattle.memory.proofs.Listed.{listed_added}
use Rattle.detector.specs.Pixels.{max_count}

-- ---- one more at the end

pub added_snoc : (b : List DetectorHit) (s : Memory) (h : DetectorHit) → added s (b ++ h ∷ []) ≡ written_at (added s b) (cell_in (added s b).detectors.list h) h
unfolding added
added_snoc [] s h = refl
added_snoc (k ∷ b) s h = added_snoc b (written_at s _ k) h

pub added_used : (b : List DetectorHit) (s : Memory) → (added s b).used ≡ s.used + length b
unfolding added written_at
added_used [] s = sym (add-zero _)
added_used (k ∷ b) s = added_used b (written_at s _ k) ∙ omega arith

-- ---- stored counts are numbers of listed hits

bump_at : (l : List ℕ) (i j : ℕ) → j < length l → get_or (set l i (get_or l i 0 + 1)) j 0 ≡ get_or l j 0 + cond (eqb i j) 1 0
bump_at l i j k =
    elim (ℕ_discrete i j) [
      | yes e ↦ rw (e, eq-eqb j j refl) (get_or-set_same l j _ 0 k)
      | no d ↦ rw (ne_eqb i j d) (get_or-set_other l i j _ 0 (λ e. d (sym e)) ∙ sym (add-zero _))
    ]

raise_at : (l : List Detector2D) (i j : ℕ) (f : Float) → j < length l
    → (detector_at (set l i (raised (detector_at l i) f)) j).total_rays_hit ≡ (detector_at l j).total_rays_hit + cond (eqb i j) 1 0
raise_at l i j f k =
    elim (ℕ_discrete i j) [
      | yes e ↦ rw (e, eq-eqb j j refl) (ap (λ d. d.total_rays_hit) (get_or-set_same l j (raised (detector_at l j) f) no_detector k))
      | no d ↦ rw (ne_eqb i j d) (ap (λ d. d.total_rays_hit) (get_or-set_other l i j _ no_detector (λ e. d (sym e))) ∙ sym (add-zero _))
    ]

pub pixel_counts : (b : List DetectorHit) (s : Memory) (c : ℕ) → c < length s.hits → get_or (added s b).hits c 0 ≡ get_or s.hits c 0 + sharing (cell_in s.detectors.list) c b
unfolding added sharing written_at
pixel_counts [] s c k = sym (add-zero _)
pixel_counts (h ∷ b) s c k =
    let w = written_at s (cell_in s.detectors.list h) h in
    pixel_counts b w c (rw (written_hits s _ h) k)
    ∙ ap (λ key. get_or w.hits c 0 + sharing key c b) (fun_ext (written_cell s (cell_in s.detectors.list h) h))
    ∙ ap (λ n. n + sharing (cell_in s.detectors.list) c b) (bump_at s.hits (cell_in s.detectors.list h) c k)
    ∙ add_assoc _ _ _

pub detector_counts : (b : List DetectorHit) (s : Memory) (d : ℕ) → d < length s.detectors.list
    → (detector_at (added s b).detectors.list d).total_rays_hit ≡ (detector_at s.detectors.list d).total_rays_hit + sharing number_in d b
unfolding added sharing written_at
detector_counts [] s d k = sym (add-zero _)
detector_counts (h ∷ b) s d k =
    detector_counts b (written_at s _ h) d (rw (written_list s _ h) k)
    ∙ ap (λ n. n + sharing number_in d b) (raise_at s.detectors.list h.detector.0 d h.flux_watts k)
    ∙ add_assoc _ _ _

-- ---- recording in both

module _ {N M : Type 0} (φ : N → M) where
  abbrev pub map_outcome : Outcome N → Outcome M
  map_outcome (done n) = done (φ n)
  map_outcome (refused k place n) = refused k place (φ n)

  map_judged : (a b : Bool) (m n : N) → judged a b (φ m) (φ n) ≡ map_outcome (judged a b m n)
  unfolding judged
  map_judged true b m n = refl
  map_judged false true m n = refl
  map_judged false false m n = refl

judged_same : {M : Type 0} (a a' b b' : Bool) (m n n' : M) → a ≡ a' → b ≡ b' → n ≡ n' → judged a b m n ≡ judged a' b' m n'
judged_same a a' b b' m n n' ea eb en = cc

-- what a memory that holds a hit has
pub held : (s : Memory) (h : DetectorHit) → has_pixel s h ≡ true
    → (h.detector.0 < 8) × (cell_in s.detectors.list h < length s.flux) × (cell_in s.detectors.list h < length s.hits) × (are_hits_of (length s.hit_values) (length s.hit_tags) ≡ true)
unfolding has_pixel
held s h e =
    let f = both (ltb h.detector.0 8) _ e in
    let l = told_lengths _ _ _ _ _ (sym f.1) in
    (ltb-true _ _ f.0, l.0, l.1, l.2)

module _ (s : Memory) (eight : length s.detectors.list ≡ 8) (empty : Empty s) where
  pub used_by : (b : List DetectorHit) → (added s b).used ≡ length b
  used_by b = added_used b s ∙ (let e = empty.used in omega arith)

  put_held : (b : List DetectorHit) (h : DetectorHit) → h.detector.0 < s.detectors.count → has_pixel s h ≡ true → put_of (added s b) (cell_in (added s b).detectors.list h) h ≡ map_outcome (added s)
      (judged (leb (capacity s) (length b)) (eqb (sharing (cell_in s.detectors.list) (cell_in s.detectors.list h) b) max_count || eqb (sharing number_in h.detector.0 b) max_count) b (b ++ h ∷ []))
  unfolding put_of
  put_held b h n k =
      let t = held s h k in
      let c = cell_in s.detectors.list h in
      let full : leb (capacity (added s b)) (added s b).used ≡ leb (capacity s) (length b) = rw (added_capacity b s, used_by b) in
      let pixel : get_or (added s b).hits (cell_in (added s b).detectors.list h) 0 ≡ sharing (cell_in s.detectors.list) c b =
      ap (λ c. get_or (added s b).hits c 0) (added_cell b s h) ∙ pixel_counts b s c t.2 ∙ (let e = empty.hits c t.2 in omega arith) in
      let count : (hit_detector (added s b) h).total_rays_hit ≡ sharing number_in h.detector.0 b =
      detector_counts b s h.detector.0 (let z = t.0 in omega arith) ∙ (let e = empty.counts h.detector.0 n t.0 in omega arith) in
      judged_same _ _ _ _ _ _ _ full (ap (λ n. eqb n max_count || eqb (hit_detector (added s b) h).total_rays_hit max_count) pixel ∙ ap (λ n. eqb (sharing (cell_in s.detectors.list) c b) max_count || eqb n max_count) count) (sym (added_snoc b s h))
      ∙ map_judged (added s) _ _ b (b ++ h ∷ [])

  -- recording a hit of a detector that is there in the empty memory with the book's hits added is adding to the book
  pub same_put : (b : List DetectorHit) (h : DetectorHit) → h.detector.0 < s.detectors.count → record_of (added s b) h ≡ map_outcome (added s) (book_hit s b h)
  unfolding record_of book_hit
  same_put b h n = go (has_pixel s h) refl
    where
      go : (x : Bool) → has_pixel s h ≡ x → cond (has_pixel (added s b) h) (put_of (added s b) (cell_in (added s b).detectors.list h) h) (refused 9 0 (added s b))
          ≡ map_outcome (added s) (cond (has_pixel s h)
          (judged (leb (capacity s) (length b)) (eqb (sharing (cell_in s.detectors.list) (cell_in s.detectors.list h) b) max_count || eqb (sharing number_in h.detector.0 b) max_count) b (b ++ h ∷ []))
          (refused 9 0 b))
      go true e = rw (added_holds b s h, e) (put_held b h n e)
      go false e = rw (added_holds b s h, e)

  -- the list of the memory is the book, as long as it holds no more than the slices
  pub same_list : (b : List DetectorHit) → are_hits_of (length s.hit_values) (length s.hit_tags) ≡ true → length b ≤ capacity s → listed (added s b) ≡ b
  unfolding hits_from
  same_list b g k = listed_added b s g (let e = empty.used in omega arith) ∙ ap (λ n. hits_from s.hit_values s.hit_tags n 0 ++ b) empty.used

  -- ---- what every recording keeps: the memory is the empty one with its listed hits added in list order

  abbrev pub Kept : Memory → Type 0
  Kept m = added s (listed m) ≡ m

  book_listed : (b : List DetectorHit) (h : DetectorHit) → listed (added s b) ≡ b → listed (added s (memory_left (book_hit s b h))) ≡ memory_left (book_hit s b h)
  unfolding book_hit judged
  book_listed b h e = go (has_pixel s h) (leb (capacity s) (length b)) (eqb (sharing (cell_in s.detectors.list) (cell_in s.detectors.list h) b) max_count || eqb (sharing number_in h.detector.0 b) max_count) refl refl
    where
      go : (x y z : Bool) → has_pixel s h ≡ x → leb (capacity s) (length b) ≡ y
          → let o = cond x (cond y (refused 12 0 b) (cond z (refused 13 0 b) (done (b ++ h ∷ [])))) (refused 9 0 b) in listed (added s (memory_left o)) ≡ memory_left o
      go false y z p q = e
      go true true z p q = e
      go true false true p q = e
      go true false false p q =
          let n : length b < capacity s = leb-false (capacity s) (length b) q in
          same_list (b ++ h ∷ []) (held s h p).3 (rw length-append (omega arith))

  map_left : (o : Outcome (List DetectorHit)) → memory_left (map_outcome (added s) o) ≡ added s (memory_left o)
  map_left (done b) = refl
  map_left (refused n p b) = refl

  left_is : (b : List DetectorHit) (h : DetectorHit) → h.detector.0 < s.detectors.count → memory_left (record_of (added s b) h) ≡ added s (memory_left (book_hit s b h))
  left_is b h n = ap memory_left (same_put b h n) ∙ map_left (book_hit s b h)

  added_keeps : (b : List DetectorHit) (h : DetectorHit) → h.detector.0 < s.detectors.count → listed (added s b) ≡ b → Kept (memory_left (record_of (added s b) h))
  added_keeps b h n e = rw (left_is b h n) (ap (added s) (book_listed b h e))

  -- one hit of a detector that is there into any memory
  pub record_keeps : (m : Memory) (h : DetectorHit) → h.detector.0 < s.detectors.count → Kept m → Kept (memory_left (record_of m h))
  record_keeps m h n e = rw e at (added_keeps (listed m) h n (ap listed e))

  pub record_lists : (m : Memory) (h : DetectorHit) → h.detector.0 < s.detectors.count → Kept m → listed (memory_left (record_of m h)) ≡ memory_left (book_hit s (listed m) h)
  record_lists m h n e = ap (λ x. listed (memory_left (record_of x h))) (sym e) ∙ ap listed (left_is (listed m) h n) ∙ book_listed (listed m) h (ap listed e)

  same_count : (m : Memory) → Kept m → m.detectors.count ≡ s.detectors.count
  same_count m e = ap (λ x. x.detectors.count) (sym e) ∙ added_count (listed m) s

  -- a hit whose detector passed the checks
  pub asked_below : (m : Memory) (h : DetectorHit) (p : Placed) → Kept m → find_of m.detectors h.detector ≡ passed p → h.detector.0 < s.detectors.count
  asked_below m h p e f = let t = asked_there m.detectors h.detector p f in omega (arith, t.1, same_count m e)

  -- the call that is open to hosts, refused or not
  pub recording_keeps : (m : Memory) (h : DetectorHit) → Kept m → Kept (memory_left (record_hit_classified_of m h))
  unfolding record_hit_classified_of
  recording_keeps m h e = go (find_of m.detectors h.detector) (is_memory m) refl
    where
      go : (c : Checked Placed) (x : Bool) → find_of m.detectors h.detector ≡ c → Kept (memory_left (unless c m (cond x (record_of m h) (refused 9 0 m))))
      go (passed p) true f = record_keeps m h (asked_below m h p e f) e
      go (passed p) false f = e
      go (refused_at n place) x f = e

  -- ---- stored counts are numbers of listed hits

  pub kept_pixel_counts : (m : Memory) (c : ℕ) → Kept m → c < length s.hits → get_or m.hits c 0 ≡ sharing (cell_in s.detectors.list) c (listed m)
  kept_pixel_counts m c e k =
      ap (λ x. get_or x.hits c 0) (sym e) ∙ pixel_counts (listed m) s c k ∙ (let z = empty.hits c k in omega arith)

  pub kept_detector_counts : (m : Memory) (d : ℕ) → Kept m → d < s.detectors.count → d < 8 → (detector_at m.detectors.list d).total_rays_hit ≡ sharing number_in d (listed m)
  kept_detector_counts m d e n k =
      ap (λ x. (detector_at x.detectors.list d).total_rays_hit) (sym e) ∙ detector_counts (listed m) s d (omega (arith, eight)) ∙ (let z = empty.counts d n k in omega arith)
