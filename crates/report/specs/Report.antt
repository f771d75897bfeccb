-- What a step adds to the ledger and the tallies.
use Rattle.std.specs.Prelude.{ℕ, Bool, true, false, cond, is_some, Float}
use Rattle.std.specs.Float.{binary64}
use Rattle.std.specs.Float.Ieee.{of_bits, add, div, le}
use Rattle.step.specs.Rays.{Meeting, stopped, mirrored, parted, End, dim, spent, gone, caught, met, refusing, Step}
use Rattle.step.specs.Rays.{more_of}
use Rattle.report.specs.declared.ledger.Ledger.{Ledger}
use Rattle.report.specs.declared.tallies.Tallies.{Tallies}
use Rattle.report.specs.declared.NonSeqTraceReport.{NonSeqTraceReport}
use Rattle.doubles.specs.Doubles.{#0}

-- ---- the ledger, in step order

unfoldable pub detect_of : Ledger → Float → Ledger
detect_of l x =
    record {
      launched_flux_watts = l.launched_flux_watts;
      detected_flux_watts = add binary64 l.detected_flux_watts x;
      absorbed_flux_watts = l.absorbed_flux_watts;
      escaped_flux_watts = l.escaped_flux_watts;
      lost_flux_watts = l.lost_flux_watts;
    }

unfoldable pub absorb_of : Ledger → Float → Ledger
absorb_of l x =
    record {
      launched_flux_watts = l.launched_flux_watts;
      detected_flux_watts = l.detected_flux_watts;
      absorbed_flux_watts = add binary64 l.absorbed_flux_watts x;
      escaped_flux_watts = l.escaped_flux_watts;
      lost_flux_watts = l.lost_flux_watts;
    }

unfoldable pub escape_of : Ledger → Float → Ledger
escape_of l x =
    record {
      launched_flux_watts = l.launched_flux_watts;
      detected_flux_watts = l.detected_flux_watts;
      absorbed_flux_watts = l.absorbed_flux_watts;
      escaped_flux_watts = add binary64 l.escaped_flux_watts x;
      lost_flux_watts = l.lost_flux_watts;
    }

unfoldable pub lose_of : Ledger → Float → Ledger
lose_of l x =
    record {
      launched_flux_watts = l.launched_flux_watts;
      detected_flux_watts = l.detected_flux_watts;
      absorbed_flux_watts = l.absorbed_flux_watts;
      escaped_flux_watts = l.escaped_flux_watts;
      lost_flux_watts = add binary64 l.lost_flux_watts x;
    }

-- the power of a ray that is not made: absorbed at a clear surface, lost at a mirror
unfoldable pub absorb_unless_of : Bool → Ledger → Float → Ledger
absorb_unless_of made l x = cond made l (absorb_of l x)

unfoldable pub lose_unless_of : Bool → Ledger → Float → Ledger
lose_unless_of made l x = cond made l (lose_of l x)

-- made and also say whether the step made its reflected ray and its transmitted one
unfoldable pub ledger_met_of : Ledger → Meeting → Bool → Bool → Ledger
ledger_met_of l (stopped x) made also = absorb_of l x
ledger_met_of l (mirrored kept r) made also = lose_unless_of made (absorb_of l kept) r
ledger_met_of l (parted r t total) made also = absorb_unless_of also (absorb_unless_of made l r) t

-- power is the ray's
unfoldable pub ledger_after_of : Ledger → Float → End → Bool → Bool → Ledger
ledger_after_of l power dim made also = absorb_of l power
ledger_after_of l power spent made also = absorb_of l power
ledger_after_of l power gone made also = escape_of l power
ledger_after_of l power (caught h) made also = detect_of l h.flux_watts
ledger_after_of l power (met m) made also = ledger_met_of l m made also
ledger_after_of l power (refusing n) made also = l

-- ---- the tallies

unfoldable pub more_if_of : Bool → ℕ → ℕ
more_if_of b n = cond b (more_of n) n

unfoldable pub add_dim_of : Tallies → Tallies
add_dim_of t =
    record {
      made = t.made;
      dim = more_of t.dim;
      spent = t.spent;
      caught = t.caught;
      gone = t.gone;
      surface = t.surface;
      weak = t.weak;
    }

unfoldable pub add_spent_of : Tallies → Tallies
add_spent_of t =
    record {
      made = t.made;
      dim = t.dim;
      spent = more_of t.spent;
      caught = t.caught;
      gone = t.gone;
      surface = t.surface;
      weak = t.weak;
    }

unfoldable pub add_caught_of : Tallies → Tallies
add_caught_of t =
    record {
      made = t.made;
      dim = t.dim;
      spent = t.spent;
      caught = more_of t.caught;
      gone = t.gone;
      surface = t.surface;
      weak = t.weak;
    }

unfoldable pub add_gone_of : Tallies → Tallies
add_gone_of t =
    record {
      made = t.made;
      dim = t.dim;
      spent = t.spent;
      caught = t.caught;
      gone = more_of t.gone;
      surface = t.surface;
      weak = t.weak;
    }

-- a solid was nearest: up to two rays are made; the flags after them say whether the threshold left one unmade
unfoldable pub add_surface_of : Tallies → Bool → Bool → Bool → Bool → Tallies
add_surface_of t made also weak faint =
    record {
      made = more_if_of also (more_if_of made t.made);
      dim = t.dim;
      spent = t.spent;
      caught = t.caught;
      gone = t.gone;
      surface = more_of t.surface;
      weak = more_if_of faint (more_if_of weak t.weak);
    }

-- whether the threshold left the second ray unmade: the missing one of a radicand at most 0 isn't weak
unfoldable pub faint_of : Bool → Bool → Bool
faint_of total also = cond total false (cond also false true)

unfoldable pub tallies_met_of : Tallies → Meeting → Bool → Bool → Tallies
tallies_met_of t (stopped x) made also = add_surface_of t made also false false
tallies_met_of t (mirrored kept r) made also = add_surface_of t made also (cond made false true) false
tallies_met_of t (parted r p total) made also = add_surface_of t made also (cond made false true) (faint_of total also)

unfoldable pub tallies_after_of : Tallies → End → Bool → Bool → Tallies
tallies_after_of t dim made also = add_dim_of t
tallies_after_of t spent made also = add_spent_of t
tallies_after_of t gone made also = add_gone_of t
tallies_after_of t (caught h) made also = add_caught_of t
tallies_after_of t (met m) made also = tallies_met_of t m made also
tallies_after_of t (refusing n) made also = t

-- ---- the report

-- whether the step is an interaction: all but dim and spent are
unfoldable pub is_interaction_of : End → Bool
is_interaction_of dim = false
is_interaction_of spent = false
is_interaction_of gone = true
is_interaction_of (caught h) = true
is_interaction_of (met m) = true
is_interaction_of (refusing n) = true

unfoldable pub report_after_of : NonSeqTraceReport → Float → Step → NonSeqTraceReport
report_after_of r power s =
    record {
      ledger = ledger_after_of r.ledger power s.end (is_some s.reflected) (is_some s.transmitted);
      total_rays_traced = r.total_rays_traced;
      total_interactions = more_if_of (is_interaction_of s.end) r.total_interactions;
      tallies = tallies_after_of r.tallies s.end (is_some s.reflected) (is_some s.transmitted);
    }

-- a step that is refused: as it found the report, but its interaction is counted
unfoldable pub counted_of : NonSeqTraceReport → NonSeqTraceReport
counted_of r =
    record {
      ledger = r.ledger;
      total_rays_traced = r.total_rays_traced;
      total_interactions = more_of r.total_interactions;
      tallies = r.tallies;
    }

-- before the first step
unfoldable pub start_report_of : ℕ → Float → NonSeqTraceReport
start_report_of rays launched =
    record {
      ledger = record {
        launched_flux_watts = launched;
        detected_flux_watts = #0;
        absorbed_flux_watts = #0;
        escaped_flux_watts = #0;
        lost_flux_watts = #0;
      };
      total_rays_traced = rays;
      total_interactions = 0;
      tallies = record { made = 0; dim = 0; spent = 0; caught = 0; gone = 0; surface = 0; weak = 0 };
    }

-- detected, absorbed and escaped over launched, without lost; 1 where nothing was launched
unfoldable pub energy_conservation_ratio_of : Ledger → Float
energy_conservation_ratio_of l =
    cond (le l.launched_flux_watts #0) (of_bits binary64 0x3ff0000000000000)
    (div binary64 (add binary64 (add binary64 l.detected_flux_watts l.absorbed_flux_watts)
    l.escaped_flux_watts) l.launched_flux_watts)
