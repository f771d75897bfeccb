-- A refusal as two numbers, its own and its place: 0 and 0 where nothing is refused.
use Rattle.std.specs.Prelude.{Float}
use Rattle.error.specs.Refusals.{Checked, passed, refused_at}
use Rattle.host_numbers.specs.declared.HostChecked.{HostChecked}
use Rattle.host_numbers.specs.declared.HostReading.{HostReading}
use Rattle.doubles.specs.Doubles.{#0}

abbrev pub checked_of : Checked Unit → HostChecked
checked_of (passed u) = record { refusal = 0; place = 0 }
checked_of (refused_at n place) = record { refusal = n; place = place }

-- a double, 0 where it is refused
abbrev pub read_of : Checked Float → HostReading
read_of (passed x) = record { refusal = 0; place = 0; value = x }
read_of (refused_at n place) = record { refusal = n; place = place; value = #0 }
