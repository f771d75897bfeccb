-- Laws of the four blocks together. Assumes nothing.
use Rattle.std.specs.Prelude.{Result, Ok, Err}
use Rattle.scene_text.specs.declared.scene.Counts.{Counts}
use mathlib.Core.Path.{◌≡◌, refl, sym, ap, ◌∙◌}
use mathlib.Core.List.{List, []}
use mathlib.Core.Bool.{Bool, true, false, cond}
use Prim.Native.Nat.{ℕ, ◌≤◌, ◌<◌}
use native.Mathlib.Nat.{zero-add}
use lib.ListN.{length}
use lib.Ieee.{Float}
use borrow.Author.Tests.{lt-ltb, le-ltb}
use Rattle.error.specs.Refusals.{passed}
use Rattle.error.specs.declared.Refusal.{Refusal}
use Rattle.fields.specs.Split.{split}
use Rattle.scene_text.specs.Names.{run_names, run_form, solid_names, solid_form, detector_names, detector_form, ray_names, ray_form}
use Rattle.scene_text.specs.Blocks.{Block, read_names_of, read_one_of, read_lines_of}
use Rattle.scene_text.specs.Steps.{Table, table, put, Reading, reading, onto}
use Rattle.scene_text.specs.Scene.{read_run_of, Contents, contents_in, Tally, tally, tallied, told, Slices, slices, doubles_in, wholes_in, filled_with, answer, answer_of, refused, refusal_at, answered, read_scene_of}

pub names_are : (names : List ℕ) (ls : List (List ℕ)) (n : ℕ) (t t2 : Table) (o : Bool) (m k : ℕ) (rs : List (List ℕ)) → reading o m k t2 rs ≡ onto 0 t (read_lines_of names [] ls n) → (o ≡ (read_names_of names ls n).ok) × (m ≡ (read_names_of names ls n).line) × (rs ≡ (read_names_of names ls n).rest)
unfolding read_names_of onto
names_are names ls n t t2 o m k rs e = (ap (λ (x : Reading). x.ok) e, ap (λ (x : Reading). x.line) e, ap (λ (x : Reading). x.rest) e)

-- what a block leaves in its slices, and where it ends
module _ (b : Block) (o q : Bool) (m k : ℕ) (d d2 : List Float) (nd : ℕ) (w w2 : List ℕ) (nw : ℕ) (rs : List (List ℕ)) (e : reading o m k (table q d2 nd w2 nw) rs ≡ onto 0 (table true d 0 w 0) b) where
  ok_is : o ≡ b.ok
  unfolding onto
  ok_is = ap (λ (x : Reading). x.ok) e

  line_is : m ≡ b.line
  unfolding onto
  line_is = ap (λ (x : Reading). x.line) e

  rows_are : k ≡ b.rows
  unfolding onto
  rows_are = ap (λ (x : Reading). x.rows) e ∙ zero-add b.rows

  rest_is : rs ≡ b.rest
  unfolding onto
  rest_is = ap (λ (x : Reading). x.rest) e

  doubles_are : d2 ≡ doubles_in d b
  unfolding onto put
  doubles_are = ap (λ (x : Reading). x.read.doubles) e

  wholes_are : w2 ≡ wholes_in w b
  unfolding onto put
  wholes_are = ap (λ (x : Reading). x.read.wholes) e

lines_are : (names form : List ℕ) (ls rs : List (List ℕ)) (n m : ℕ) → ls ≡ rs → n ≡ m → read_lines_of names form ls n ≡ read_lines_of names form rs m
lines_are names form ls rs n m a b = ap (λ (x : List (List ℕ)). read_lines_of names form x n) a ∙ ap (read_lines_of names form rs) b

-- ---- the run

module _
    (ls : List (List ℕ))
    (ao : Bool)
    (an : ℕ)
    (ar : List (List ℕ))
    (ea : (ao ≡ (read_names_of run_names ls 1).ok) × (an ≡ (read_names_of run_names ls 1).line) × (ar ≡ (read_names_of run_names ls 1).rest))
    (o q : Bool)
    (m k : ℕ)
    (d d2 : List Float)
    (nd : ℕ)
    (w w2 : List ℕ)
    (nw : ℕ)
    (rs : List (List ℕ))
    (e : reading o m k (table q d2 nd w2 nw) rs ≡ onto 0 (table true d 0 w 0) (read_one_of run_form ar an))
  where
    run-block : read_one_of run_form ar an ≡ read_run_of ls
    unfolding read_run_of
    run-block = ap (λ (x : List (List ℕ)). read_one_of run_form x an) ea.2 ∙ ap (read_one_of run_form (read_names_of run_names ls 1).rest) ea.1

    run-read : reading o m k (table q d2 nd w2 nw) rs ≡ onto 0 (table true d 0 w 0) (read_run_of ls)
    run-read = e ∙ ap (onto 0 (table true d 0 w 0)) run-block

    run-names : read_names_of solid_names rs m ≡ read_names_of solid_names (read_run_of ls).rest (read_run_of ls).line
    run-names = ap (λ (x : List (List ℕ)). read_names_of solid_names x m) (rest_is (read_run_of ls) o q m k d d2 nd w w2 nw rs run-read) ∙ ap (read_names_of solid_names (read_run_of ls).rest) (line_is (read_run_of ls) o q m k d d2 nd w w2 nw rs run-read)

    pub run_is :
        (co : Bool) (cn : ℕ) (cr : List (List ℕ)) →
        (co ≡ (read_names_of solid_names rs m).ok) × (cn ≡ (read_names_of solid_names rs m).line) × (cr ≡ (read_names_of solid_names rs m).rest) →
        (d2 ≡ doubles_in d (read_run_of ls))
        × (w2 ≡ wholes_in w (read_run_of ls))
        × (co ≡ (read_names_of solid_names (read_run_of ls).rest (read_run_of ls).line).ok)
        × (cn ≡ (read_names_of solid_names (read_run_of ls).rest (read_run_of ls).line).line)
        × (cr ≡ (read_names_of solid_names (read_run_of ls).rest (read_run_of ls).line).rest)
    run_is co cn cr f = (
      doubles_are (read_run_of ls) o q m k d d2 nd w w2 nw rs run-read,
      wholes_are (read_run_of ls) o q m k d d2 nd w w2 nw rs run-read,
      f.0 ∙ ap (λ (b : Block). b.ok) run-names,
      f.1 ∙ ap (λ (b : Block). b.line) run-names,
      f.2 ∙ ap (λ (b : Block). b.rest) run-names,
    )

-- ---- all

tally_is : (c : Contents) (o : Bool) (n i j k : ℕ) → o ≡ c.rays.ok → n ≡ c.rays.line → i ≡ c.solids.rows → j ≡ c.detectors.rows → k ≡ c.rays.rows → tally o n i j k ≡ tallied c
unfolding tallied
tally_is c o n i j k a b e f g = rw (a, b, e, f, g)

slices_are :
    (c : Contents) (m : Slices) (x1 : List Float) (x2 : List ℕ) (x3 : List Float) (x4 : List ℕ) (x5 : List Float) (x6 : List ℕ) (x7 : List Float) (x8 : List ℕ) →
    x1 ≡ doubles_in m.run_values c.run →
    x2 ≡ wholes_in m.run_tags c.run →
    x3 ≡ doubles_in m.solid_values c.solids →
    x4 ≡ wholes_in m.solid_tags c.solids →
    x5 ≡ doubles_in m.detector_values c.detectors →
    x6 ≡ wholes_in m.detector_tags c.detectors →
    x7 ≡ doubles_in m.ray_values c.rays →
    x8 ≡ wholes_in m.ray_tags c.rays →
    slices x1 x2 x3 x4 x5 x6 x7 x8 ≡ filled_with c m
unfolding filled_with
slices_are c m x1 x2 x3 x4 x5 x6 x7 x8 e1 e2 e3 e4 e5 e6 e7 e8 = rw (e1, e2, e3, e4, e5, e6, e7, e8)

module _
    (s : List ℕ)
    (m : Slices)
    (run : List Float)
    (runs : List ℕ)
    (co : Bool)
    (cn : ℕ)
    (cr : List (List ℕ))
    (c :
    (run ≡ doubles_in m.run_values (read_run_of (split 10 s)))
    × (runs ≡ wholes_in m.run_tags (read_run_of (split 10 s)))
    × (co ≡ (read_names_of solid_names (read_run_of (split 10 s)).rest (read_run_of (split 10 s)).line).ok)
    × (cn ≡ (read_names_of solid_names (read_run_of (split 10 s)).rest (read_run_of (split 10 s)).line).line)
    × (cr ≡ (read_names_of solid_names (read_run_of (split 10 s)).rest (read_run_of (split 10 s)).line).rest))
    (o1 q1 : Bool)
    (n1 k1 : ℕ)
    (d1 : List Float)
    (i1 : ℕ)
    (w1 : List ℕ)
    (j1 : ℕ)
    (r1 : List (List ℕ))
    (e1 : reading o1 n1 k1 (table q1 d1 i1 w1 j1) r1 ≡ onto 0 (table true m.solid_values 0 m.solid_tags 0) (read_lines_of detector_names solid_form cr cn))
    (o2 q2 : Bool)
    (n2 k2 : ℕ)
    (d2 : List Float)
    (i2 : ℕ)
    (w2 : List ℕ)
    (j2 : ℕ)
    (r2 : List (List ℕ))
    (e2 : reading o2 n2 k2 (table q2 d2 i2 w2 j2) r2 ≡ onto 0 (table true m.detector_values 0 m.detector_tags 0) (read_lines_of ray_names detector_form r1 n1))
    (o3 q3 : Bool)
    (n3 k3 : ℕ)
    (d3 : List Float)
    (i3 : ℕ)
    (w3 : List ℕ)
    (j3 : ℕ)
    (r3 : List (List ℕ))
    (e3 : reading o3 n3 k3 (table q3 d3 i3 w3 j3) r3 ≡ onto 0 (table true m.ray_values 0 m.ray_tags 0) (read_lines_of [] ray_form r2 n2))
  where
    solids-read : reading o1 n1 k1 (table q1 d1 i1 w1 j1) r1 ≡ onto 0 (table true m.solid_values 0 m.solid_tags 0) (contents_in s).solids
    unfolding contents_in
    solids-read = e1 ∙ ap (onto 0 (table true m.solid_values 0 m.solid_tags 0)) (lines_are detector_names solid_form cr _ cn _ c.4 c.3)

    detectors-read : reading o2 n2 k2 (table q2 d2 i2 w2 j2) r2 ≡ onto 0 (table true m.detector_values 0 m.detector_tags 0) (contents_in s).detectors
    unfolding contents_in
    detectors-read =
        e2 ∙ ap (onto 0 (table true m.detector_values 0 m.detector_tags 0)) (lines_are ray_names detector_form r1 _ n1 _ (rest_is (contents_in s).solids o1 q1 n1 k1 m.solid_values d1 i1 m.solid_tags w1 j1 r1 solids-read) (line_is (contents_in s).solids o1 q1 n1 k1 m.solid_values d1 i1 m.solid_tags w1 j1 r1 solids-read))

    rays-read : reading o3 n3 k3 (table q3 d3 i3 w3 j3) r3 ≡ onto 0 (table true m.ray_values 0 m.ray_tags 0) (contents_in s).rays
    unfolding contents_in
    rays-read =
        e3 ∙ ap (onto 0 (table true m.ray_values 0 m.ray_tags 0)) (lines_are [] ray_form r2 _ n2 _ (rest_is (contents_in s).detectors o2 q2 n2 k2 m.detector_values d2 i2 m.detector_tags w2 j2 r2 detectors-read) (line_is (contents_in s).detectors o2 q2 n2 k2 m.detector_values d2 i2 m.detector_tags w2 j2 r2 detectors-read))

    run-kept : (run ≡ doubles_in m.run_values (contents_in s).run) × (runs ≡ wholes_in m.run_tags (contents_in s).run)
    unfolding contents_in
    run-kept = (c.0, c.1)

    pub gathered : (tally o3 n3 k1 k2 k3 ≡ tallied (contents_in s)) × (slices run runs d1 w1 d2 w2 d3 w3 ≡ filled_with (contents_in s) m)
    gathered = (
      tally_is (contents_in s) o3 n3 k1 k2 k3 (ok_is (contents_in s).rays o3 q3 n3 k3 m.ray_values d3 i3 m.ray_tags w3 j3 r3 rays-read) (line_is (contents_in s).rays o3 q3 n3 k3 m.ray_values d3 i3 m.ray_tags w3 j3 r3 rays-read) (rows_are (contents_in s).solids o1 q1 n1 k1 m.solid_values d1 i1 m.solid_tags w1 j1 r1 solids-read) (rows_are (contents_in s).detectors o2 q2 n2 k2 m.detector_values d2 i2 m.detector_tags w2 j2 r2 detectors-read) (rows_are (contents_in s).rays o3 q3 n3 k3 m.ray_values d3 i3 m.ray_tags w3 j3 r3 rays-read),
      slices_are (contents_in s) m run runs d1 w1 d2 w2 d3 w3 run-kept.0 run-kept.1 (doubles_are (contents_in s).solids o1 q1 n1 k1 m.solid_values d1 i1 m.solid_tags w1 j1 r1 solids-read) (wholes_are (contents_in s).solids o1 q1 n1 k1 m.solid_values d1 i1 m.solid_tags w1 j1 r1 solids-read) (doubles_are (contents_in s).detectors o2 q2 n2 k2 m.detector_values d2 i2 m.detector_tags w2 j2 r2 detectors-read) (wholes_are (contents_in s).detectors o2 q2 n2 k2 m.detector_values d2 i2 m.detector_tags w2 j2 r2 detectors-read) (doubles_are (contents_in s).rays o3 q3 n3 k3 m.ray_values d3 i3 m.ray_tags w3 j3 r3 rays-read) (wholes_are (contents_in s).rays o3 q3 n3 k3 m.ray_values d3 i3 m.ray_tags w3 j3 r3 rays-read),
    )

-- ---- the answer

told_ok : (n i j k : ℕ) → told (tally true n i j k) ≡ Ok (record { solids = i; detectors = j; rays = k })
unfolding told
told_ok n i j k = refl

told_no : (n i j k : ℕ) → told (tally false n i j k) ≡ Err (refusal_at n)
unfolding told
told_no n i j k = refl

module _ (o : Bool) (n i j k : ℕ) (t : Tally) (e : tally o n i j k ≡ t) where
  pub told_counts : o ≡ true → ◌≡◌ {A = Result Counts Refusal} (Ok (record { solids = i; detectors = j; rays = k })) (told t)
  told_counts h = sym (told_ok n i j k) ∙ ap (λ b. told (tally b n i j k)) (sym h) ∙ ap told e

  pub told_line : (r : Refusal) → o ≡ false → r ≡ refusal_at n → ◌≡◌ {A = Result Counts Refusal} (Err r) (told t)
  told_line r h q = rw q (sym (told_no n i j k) ∙ ap (λ b. told (tally b n i j k)) (sym h) ∙ ap told e)

module _ (t : Tally) (new old : Slices) where
  told_good : (u : Counts) → ◌≡◌ {A = Result Counts Refusal} (Ok u) (told t) → answer_of (told t) new ≡ answered t new old
  unfolding told answered
  told_good u e = go t.ok e
    where
      counts : Counts
      counts = record { solids = t.solids; detectors = t.detectors; rays = t.rays }

      go : (b : Bool) → ◌≡◌ {A = Result Counts Refusal} (Ok u) (cond b (Ok counts) (Err (refusal_at t.line))) → answer_of (cond b (Ok counts) (Err (refusal_at t.line))) new ≡ cond b (answer (passed tt) t.solids t.detectors t.rays new) (refused t.line old)
      go true e = refl
      go false e = cc

  told_bad : (r : Refusal) → ◌≡◌ {A = Result Counts Refusal} (Err r) (told t) → answer_of (Err r) old ≡ answered t new old
  unfolding told answered
  told_bad r e = go t.ok e
    where
      counts : Counts
      counts = record { solids = t.solids; detectors = t.detectors; rays = t.rays }

      go : (b : Bool) → ◌≡◌ {A = Result Counts Refusal} (Err r) (cond b (Ok counts) (Err (refusal_at t.line))) → answer_of (Err r) old ≡ cond b (answer (passed tt) t.solids t.detectors t.rays new) (refused t.line old)
      go true e = cc
      go false e = ap (λ x. answer_of x old) e

module _ (s : List ℕ) (m : Slices) where
  pub scene_long : (r : Refusal) → 65536 < length s → r ≡ refusal_at 0 → answer_of (Err r) m ≡ read_scene_of s m
  unfolding read_scene_of
  scene_long r h e = rw (lt-ltb _ _ h, e)

  pub scene_short : length s ≤ 65536 → read_scene_of s m ≡ answered (tallied (contents_in s)) (filled_with (contents_in s) m) m
  unfolding read_scene_of
  scene_short h = rw (le-ltb _ _ h)

  pub scene_refused : (r : Refusal) → length s ≤ 65536 → ◌≡◌ {A = Result Counts Refusal} (Err r) (told (tallied (contents_in s))) → answer_of (Err r) m ≡ read_scene_of s m
  scene_refused r h e = told_bad (tallied (contents_in s)) (filled_with (contents_in s) m) m r e ∙ sym (scene_short h)

  pub scene_filled : (u : Counts) (x : Result Counts Refusal) (new : Slices) → length s ≤ 65536 → ◌≡◌ {A = Result Counts Refusal} (Ok u) (told (tallied (contents_in s))) → x ≡ told (tallied (contents_in s)) → new ≡ filled_with (contents_in s) m → answer_of x new ≡ read_scene_of s m
  scene_filled u x new h e p q = rw (p, q) (told_good (tallied (contents_in s)) (filled_with (contents_in s) m) m u e) ∙ sym (scene_short h)
