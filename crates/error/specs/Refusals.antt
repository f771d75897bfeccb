-- The numbers of the documents' refusals, and what a call answers in these terms.
use Rattle.std.specs.Prelude.{ℕ, Result, Ok, Err}
use Rattle.error.specs.declared.NonSeqError.{NonSeqError}
use Rattle.error.specs.declared.Refusal.{Refusal}
use Rattle.error.specs.declared.NonSeqError.TheVariants.{InvalidThreshold, BounceLimitTooLarge, ListTooLong}
use Rattle.error.specs.declared.NonSeqError.TheVariants.{NoSuchDetector, InvalidDetectorSize, ZeroResolution}
use Rattle.error.specs.declared.NonSeqError.TheVariants.{ResolutionTooLarge, ParallelUp, InvalidSliceLength}
use Rattle.error.specs.declared.NonSeqError.TheVariants.{InvalidRay, InvalidMedia, HitListFull, HitCountFull}
use Rattle.error.specs.declared.NonSeqError.TheVariants.{InvalidWavelength, InvalidIndex, RayNotFinite}
use Rattle.error.specs.declared.NonSeqError.TheVariants.{InvalidSceneText, InvalidDetectorPose}

-- the first column of document 01's table, and document 02's number
abbrev pub number_of : NonSeqError → ℕ
number_of InvalidThreshold = 1
number_of BounceLimitTooLarge = 2
number_of ListTooLong = 3
number_of NoSuchDetector = 4
number_of InvalidDetectorSize = 5
number_of ZeroResolution = 6
number_of ResolutionTooLarge = 7
number_of ParallelUp = 8
number_of InvalidSliceLength = 9
number_of InvalidRay = 10
number_of InvalidMedia = 11
number_of HitListFull = 12
number_of HitCountFull = 13
number_of InvalidWavelength = 14
number_of InvalidIndex = 15
number_of RayNotFinite = 16
number_of InvalidSceneText = 17
number_of InvalidDetectorPose = 18

-- what a call without a place in a list answers: its value, or the number of the refusal
pub data Answer (A : Type 0) : Type 0 where
  value : A → Answer A
  refusal : ℕ → Answer A

-- what a call answers whose refusals have a list place: its value, or the number of the refusal and the place
pub data Checked (A : Type 0) : Type 0 where
  passed : A → Checked A
  refused_at : ℕ → ℕ → Checked A

-- what the code's answers say in these terms
abbrev pub as_answer : {A : Type 0} → Result A NonSeqError → Answer A
as_answer (Ok a) = value a
as_answer (Err e) = refusal (number_of e)

abbrev pub as_checked : {A : Type 0} → Result A Refusal → Checked A
as_checked (Ok a) = passed a
as_checked (Err r) = refused_at (number_of r.error) r.place

-- the second answer, unless the check before it refuses
abbrev pub after : {A : Type 0} → Checked Unit → Checked A → Checked A
after (passed u) b = b
after (refused_at n p) b = refused_at n p
