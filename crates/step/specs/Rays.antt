-- A ray on its way, the scene that it is in, and what one step makes of it.
use Rattle.std.specs.Prelude.{ℕ, ◌+◌, Bool, cond, List, ltb, Float, Option, None}
use Rattle.error.specs.Refusals.{number_of}
use Rattle.rays.specs.declared.Ray.{Ray}
use Rattle.material.specs.declared.OpticalMedium.{OpticalMedium}
use Rattle.material.specs.declared.SurfaceFinish.{SurfaceFinish}
use Rattle.scene.specs.declared.SolidNo.{SolidNo}
use Rattle.scene.specs.declared.NonSeqObject.{NonSeqObject}
use Rattle.scene.specs.declared.solids.Solids as code
use Rattle.scene.specs.Solids.{object_at_of, finish_at_of, medium_at_of}
use Rattle.media.specs.declared.Media.{Media}
use Rattle.detector.specs.declared.DetectorHit.{DetectorHit}
use Rattle.faces.specs.declared.Faces.{Faces}
use Rattle.step.specs.declared.NonSeqTraceConfig.{NonSeqTraceConfig}
use Rattle.step.specs.declared.ActiveRay.{ActiveRay}
use Rattle.step.specs.declared.Step as steps
use Rattle.step.specs.declared.End as ends
use Rattle.step.specs.declared.Meeting as meetings
use Rattle.detector.specs.Pixels.{max_count}

-- the solids' finishes and media, and by which rules rays are traced
pub record Optics : Type 0 where
  pub finish : SolidNo → SurfaceFinish
  pub medium : SolidNo → OpticalMedium
  pub config : NonSeqTraceConfig

-- what a ray can meet
pub record Scene : Type 0 where
  pub solids : ℕ
  pub solid : ℕ → Option NonSeqObject
  pub faces : Faces
  pub optics : Optics

-- the scene whose n solids are the lists x and k
abbrev pub listed_optics : List Float → List ℕ → NonSeqTraceConfig → Optics
listed_optics x k g = record { finish = finish_at_of x k; medium = medium_at_of x k; config = g }

abbrev pub listed_scene : List Float → List ℕ → ℕ → Faces → NonSeqTraceConfig → Scene
listed_scene x k n fs g = record { solids = n; solid = object_at_of x k; faces = fs; optics = listed_optics x k g }

-- the same of the code's lists
abbrev pub lent_optics : code.Solids → NonSeqTraceConfig → Optics
lent_optics s g = listed_optics s.values.now s.tags.now g

abbrev pub lent_scene : code.Solids → Faces → NonSeqTraceConfig → Scene
lent_scene s fs g = listed_scene s.values.now s.tags.now s.count fs g

-- what a solid makes of a ray's power: an absorber stops it; a mirror keeps some and reflects some; a clear surface
-- reflects some and transmits some, and the flag says whether the radicand was at most 0
pub data Meeting : Type 0 where
  stopped : Float → Meeting
  mirrored : Float → Float → Meeting
  parted : Float → Float → Bool → Meeting

-- what becomes of the newest ray: at most the threshold; bounced to the limit; nothing ahead; caught by a detector;
-- met by a solid; a refusal
pub data End : Type 0 where
  dim : End
  spent : End
  gone : End
  caught : DetectorHit → End
  met : Meeting → End
  refusing : ℕ → End

-- one step: what becomes of the ray, and the rays that come of it, if they are made
pub record Step : Type 0 where
  pub end : End
  pub reflected : Option ActiveRay
  pub transmitted : Option ActiveRay

-- no ray comes of it
abbrev pub ends_of : End → Step
ends_of e = record { end = e; reflected = None; transmitted = None }

-- a count raised by 1; no traced ray comes near the largest
unfoldable pub more_of : ℕ → ℕ
more_of n = cond (ltb n max_count) (n + 1) n

-- the reflected ray: one bounce more, and one reflection or total reflection
unfoldable pub reflected_of : Bool → ActiveRay → Ray → ActiveRay
reflected_of tir a r =
    record {
      ray = r;
      bounce_count = more_of a.bounce_count;
      reflection_count = cond tir a.reflection_count (more_of a.reflection_count);
      tir_count = cond tir (more_of a.tir_count) a.tir_count;
      media = a.media;
    }

-- the transmitted ray, in the media beyond
unfoldable pub transmitted_of : ActiveRay → Ray → Media → ActiveRay
transmitted_of a r m =
    record {
      ray = r;
      bounce_count = more_of a.bounce_count;
      reflection_count = a.reflection_count;
      tir_count = a.tir_count;
      media = m;
    }

-- what the code's answers say
abbrev pub as_meeting : meetings.Meeting → Meeting
as_meeting (meetings.TheVariants.Stopped p) = stopped p
as_meeting (meetings.TheVariants.Mirrored k r) = mirrored k r
as_meeting (meetings.TheVariants.Parted r t total) = parted r t total

abbrev pub as_end : ends.End → End
as_end ends.TheVariants.Dim = dim
as_end ends.TheVariants.Spent = spent
as_end ends.TheVariants.Gone = gone
as_end (ends.TheVariants.Caught h) = caught h
as_end (ends.TheVariants.Met m) = met (as_meeting m)
as_end (ends.TheVariants.Refused e) = refusing (number_of e)

abbrev pub as_step : steps.Step → Step
as_step e = record { end = as_end e.end; reflected = e.reflected; transmitted = e.transmitted }
