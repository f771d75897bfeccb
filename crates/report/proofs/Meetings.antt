-- What a step adds to the tallies at a surface, and to the lost power. Assumes nothing.
use Rattle.std.specs.Prelude.{is_some}
use mathlib.Core.Path.{◌≡◌, refl}
use mathlib.Core.Bool.{Bool, false, true, cond}
use lib.Ieee.{Float, binary64, add}
use Rattle.step.specs.Rays.{Meeting, stopped, mirrored, parted, End, dim, spent, gone, caught, met, refusing, Step}
use Rattle.report.specs.declared.ledger.Ledger.{Ledger}
use Rattle.report.specs.declared.tallies.Tallies.{Tallies}
use Rattle.report.specs.declared.NonSeqTraceReport.{NonSeqTraceReport}
use Rattle.report.specs.Report.{detect_of, absorb_of, escape_of, lose_of, absorb_unless_of, lose_unless_of, ledger_met_of, ledger_after_of, add_surface_of, faint_of, tallies_met_of, report_after_of}

-- ---- the tallies

-- whether the threshold left the first ray of a meeting unmade, and the second
abbrev pub is_weak : Meeting → Bool → Bool
is_weak (stopped x) made = false
is_weak (mirrored kept r) made = cond made false true
is_weak (parted r p total) made = cond made false true

abbrev pub is_faint : Meeting → Bool → Bool
is_faint (stopped x) also = false
is_faint (mirrored kept r) also = false
is_faint (parted r p total) also = faint_of total also

-- whatever a solid makes of a ray, the tallies count one surface and the rays that were made
pub met_surface : (t : Tallies) (m : Meeting) (made also : Bool) → tallies_met_of t m made also ≡ add_surface_of t made also (is_weak m made) (is_faint m also)
unfolding tallies_met_of
met_surface t (stopped x) made also = refl
met_surface t (mirrored kept r) made also = refl
met_surface t (parted r p total) made also = refl

-- ---- the lost power

-- what x becomes: only the reflected power of a mirror whose ray is not made is added
abbrev pub lost_at : Float → Meeting → Bool → Float
lost_at x (stopped y) made = x
lost_at x (mirrored kept r) made = cond made x (add binary64 x r)
lost_at x (parted r p total) made = x

abbrev pub lost_after : Float → End → Bool → Float
lost_after x dim made = x
lost_after x spent made = x
lost_after x gone made = x
lost_after x (caught h) made = x
lost_after x (met m) made = lost_at x m made
lost_after x (refusing n) made = x

unless_same : (made : Bool) (l : Ledger) (x : Float) → (absorb_unless_of made l x).lost_flux_watts ≡ l.lost_flux_watts
unfolding absorb_unless_of absorb_of
unless_same true l x = refl
unless_same false l x = refl

met_lost : (l : Ledger) (m : Meeting) (made also : Bool) → (ledger_met_of l m made also).lost_flux_watts ≡ lost_at l.lost_flux_watts m made
unfolding ledger_met_of absorb_of lose_unless_of lose_of
met_lost l (stopped y) made also = refl
met_lost l (mirrored kept r) true also = refl
met_lost l (mirrored kept r) false also = refl
met_lost l (parted r p total) made also = rw (unless_same also (absorb_unless_of made l r) p) (unless_same made l r)

ledger_lost : (l : Ledger) (power : Float) (e : End) (made also : Bool) → (ledger_after_of l power e made also).lost_flux_watts ≡ lost_after l.lost_flux_watts e made
unfolding ledger_after_of absorb_of escape_of detect_of
ledger_lost l power dim made also = refl
ledger_lost l power spent made also = refl
ledger_lost l power gone made also = refl
ledger_lost l power (caught h) made also = refl
ledger_lost l power (met m) made also = met_lost l m made also
ledger_lost l power (refusing n) made also = refl

pub after_lost : (r : NonSeqTraceReport) (power : Float) (s : Step) → (report_after_of r power s).ledger.lost_flux_watts ≡ lost_after r.ledger.lost_flux_watts s.end (is_some s.reflected)
unfolding report_after_of
after_lost r power s = ledger_lost r.ledger power s.end (is_some s.reflected) (is_some s.transmitted)
