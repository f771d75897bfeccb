-- The scene text, and what reading it answers and leaves in the lent slices.
use Rattle.std.specs.Prelude.{ℕ, List, [], Bool, cond, ltb, length, Float, Result, Ok, Err}
use Rattle.error.specs.Refusals.{Checked, passed, refused_at, number_of}
use Rattle.error.specs.declared.NonSeqError.TheVariants.{InvalidSceneText}
use Rattle.error.specs.declared.Refusal.{Refusal}
use Rattle.fields.specs.Split.{split}
use Rattle.scene_text.specs.declared.scene.Counts.{Counts}
use Rattle.scene_text.specs.Names.{run_names, run_form, solid_names, solid_form, detector_names, detector_form}
use Rattle.scene_text.specs.Names.{ray_names, ray_form, max_text}
use Rattle.scene_text.specs.Tables.{put_all}
use Rattle.scene_text.specs.Blocks.{Block, read_names_of, read_one_of, read_lines_of}

-- The four blocks. The last one is well formed if all are; its line is the first bad or missing one else.
pub record Contents : Type 0 where
  pub run : Block
  pub solids : Block
  pub detectors : Block
  pub rays : Block

abbrev pub contents : Block → Block → Block → Block → Contents
contents a b c d = record { run = a; solids = b; detectors = c; rays = d }

-- the line of names and the one line of the run
unfoldable pub read_run_of : List (List ℕ) → Block
read_run_of ls = let a = read_names_of run_names ls 1 in read_one_of run_form a.rest a.line

-- one block after the other: where one is not well formed there are no lines for the next, which stops at the same
-- number
unfoldable pub contents_in : List ℕ → Contents
contents_in s =
    let b = read_run_of (split 10 s) in
    let c = read_names_of solid_names b.rest b.line in
    let d = read_lines_of detector_names solid_form c.rest c.line in
    let e = read_lines_of ray_names detector_form d.rest d.line in
    let f = read_lines_of [] ray_form e.rest e.line in
    contents b d e f

-- whether a text is well formed, its first bad or missing line, and how many lines each block has
pub record Tally : Type 0 where
  pub ok : Bool
  pub line : ℕ
  pub solids : ℕ
  pub detectors : ℕ
  pub rays : ℕ

abbrev pub tally : Bool → ℕ → ℕ → ℕ → ℕ → Tally
tally b n i j k = record { ok = b; line = n; solids = i; detectors = j; rays = k }

unfoldable pub tallied : Contents → Tally
tallied c = tally c.rays.ok c.rays.line c.solids.rows c.detectors.rows c.rays.rows

abbrev pub refusal_at : ℕ → Refusal
refusal_at n = record { error = InvalidSceneText; place = n }

-- the counts of a well formed text, else 17 with its first bad or missing line
unfoldable pub told : Tally → Result Counts Refusal
told t = cond t.ok (Ok (record { solids = t.solids; detectors = t.detectors; rays = t.rays })) (Err (refusal_at t.line))

abbrev pub check_text_of : List ℕ → Tally
check_text_of s = tallied (contents_in s)

-- The lent slices, doubles and whole numbers of each block in the text's order:
-- of the run 7 (threshold, a to f) and 3 (bounces, filter, ambient);
-- of a solid 42 (p, q, r, rho, a to f, m, w) and 4 (shape, active, finish, medium);
-- of a detector 11 (cx to height) and 2 (resx, resy);
-- of a ray 8 (ox to power) and 10 (bounce, number of media, eight media)
pub record Slices : Type 0 where
  pub run_values : List Float
  pub run_tags : List ℕ
  pub solid_values : List Float
  pub solid_tags : List ℕ
  pub detector_values : List Float
  pub detector_tags : List ℕ
  pub ray_values : List Float
  pub ray_tags : List ℕ

abbrev pub slices : List Float → List ℕ → List Float → List ℕ → List Float → List ℕ → List Float → List ℕ → Slices
slices a b c d e f g h =
    record {
      run_values = a;
      run_tags = b;
      solid_values = c;
      solid_tags = d;
      detector_values = e;
      detector_tags = f;
      ray_values = g;
      ray_tags = h;
    }

abbrev pub doubles_in : List Float → Block → List Float
doubles_in l b = (put_all l 0 b.read.doubles).list

abbrev pub wholes_in : List ℕ → Block → List ℕ
wholes_in l b = (put_all l 0 b.read.wholes).list

unfoldable pub filled_with : Contents → Slices → Slices
filled_with c m =
    slices (doubles_in m.run_values c.run) (wholes_in m.run_tags c.run)
    (doubles_in m.solid_values c.solids) (wholes_in m.solid_tags c.solids)
    (doubles_in m.detector_values c.detectors) (wholes_in m.detector_tags c.detectors)
    (doubles_in m.ray_values c.rays) (wholes_in m.ray_tags c.rays)

pub record Answer : Type 0 where
  pub check : Checked Unit
  pub solids : ℕ
  pub detectors : ℕ
  pub rays : ℕ
  pub left : Slices

abbrev pub answer : Checked Unit → ℕ → ℕ → ℕ → Slices → Answer
answer c i j k m = record { check = c; solids = i; detectors = j; rays = k; left = m }

-- 17 with the line's number; the slices are as they were
abbrev pub refused : ℕ → Slices → Answer
refused n m = answer (refused_at 17 n) 0 0 0 m

-- what the code's answer says in these terms, with what it leaves in the slices
abbrev pub answer_of : Result Counts Refusal → Slices → Answer
answer_of (Ok c) m = answer (passed tt) c.solids c.detectors c.rays m
answer_of (Err r) m = answer (refused_at (number_of r.error) r.place) 0 0 0 m

unfoldable pub answered : Tally → Slices → Slices → Answer
answered t new old = cond t.ok (answer (passed tt) t.solids t.detectors t.rays new) (refused t.line old)

-- a text of at most 65,536 bytes
unfoldable pub read_scene_of : List ℕ → Slices → Answer
read_scene_of s m =
    cond (ltb max_text (length s)) (refused 0 m)
    (let c = contents_in s in answered (tallied c) (filled_with c m) m)
