-- A batch traced in parts.
use Rattle.std.specs.Prelude.{ℕ, ◌+◌, ◌*◌, ◌≡◌, List, [], ◌∷◌, ◌++◌, Float, length}
use Rattle.memory.specs.Memory.{Memory, Outcome, done, refused}
use Rattle.trace.specs.Trace.{Batch, trace_rays_of}
use Rattle.given_rays.specs.Given.{ray_doubles, ray_wholes}

-- given rays as two lists of numbers, eight doubles and ten whole numbers a ray
pub record Part : Type 0 where
  pub ray_values : List Float
  pub ray_tags : List ℕ
  pub rays : ℕ

-- the lists are those of just so many rays
pub record Exact (p : Part) : Type 0 where
  pub ray_values : length p.ray_values ≡ p.rays * ray_doubles
  pub ray_tags : length p.ray_tags ≡ p.rays * ray_wholes

unfoldable pub AllExact : List Part → Type 0
AllExact [] = Unit
AllExact (p ∷ ps) = Exact p × AllExact ps

-- ---- parts put together in order

abbrev pub no_rays : Part
no_rays = record { ray_values = []; ray_tags = []; rays = 0 }

abbrev pub joined : Part → Part → Part
joined p q =
    record { ray_values = p.ray_values ++ q.ray_values; ray_tags = p.ray_tags ++ q.ray_tags; rays = p.rays + q.rays }

unfoldable pub joined_all : List Part → Part
joined_all [] = no_rays
joined_all (p ∷ ps) = joined p (joined_all ps)

-- the same scene and settings with other rays
abbrev pub with_rays : Batch → Part → Batch
with_rays B p =
    record {
      config = B.config;
      solid_values = B.solid_values;
      solid_tags = B.solid_tags;
      solids = B.solids;
      ray_values = p.ray_values;
      ray_tags = p.ray_tags;
      rays = p.rays;
    }

-- parts that put together in order give a batch's rays
pub record Splits (B : Batch) (ps : List Part) : Type 0 where
  pub exact : AllExact ps
  pub whole : with_rays B (joined_all ps) ≡ B

-- ---- traced one by one, the last first, until one is refused

-- a refusal at its place in a batch in which n rays stand before the part
abbrev pub shifted : {M : Type 0} → ℕ → Outcome M → Outcome M
shifted n (done m) = done m
shifted n (refused k place m) = refused k (n + place) m

-- what follows unless there was a refusal
abbrev pub then_on : {M : Type 0} → Outcome M → (M → Outcome M) → Outcome M
then_on (done m) go = go m
then_on (refused k place m) go = refused k place m

unfoldable pub trace_parts : Batch → List Part → Memory → Outcome Memory
trace_parts B [] s = done s
trace_parts B (p ∷ ps) s = then_on (shifted p.rays (trace_parts B ps s)) (λ m. (trace_rays_of (with_rays B p) m).outcome)
