-- What a finite root or sum is made of. Assumes nothing.
use Rattle.std.proofs.Common.{◌≡◌, true, false, sym, refl}
use lib.Ieee.{Float, nan, inf, fin, binary64, add}
use Rattle.doubles.specs.Doubles.{is_finite_of}
use Rattle.doubles.specs.Root.{sqrt_of, sqrt_in}
use Rattle.doubles.proofs.Floats.{clash}

abbrev pub Finite : Float → Type 0
Finite x = is_finite_of x ≡ true

pub root_of_finite : (x : Float) → Finite (sqrt_of x) → Finite x
unfolding sqrt_of sqrt_in is_finite_of
root_of_finite nan h = h
root_of_finite (inf true) h = h
root_of_finite (inf false) h = h
root_of_finite (fin s m e) h = refl

pub sum_of_finite : (x y : Float) → Finite (add binary64 x y) → Finite x × Finite y
unfolding add is_finite_of
sum_of_finite nan y h = absurd (clash (sym h))
sum_of_finite (inf s) nan h = absurd (clash (sym h))
sum_of_finite (inf true) (inf true) h = absurd (clash (sym h))
sum_of_finite (inf true) (inf false) h = absurd (clash (sym h))
sum_of_finite (inf false) (inf true) h = absurd (clash (sym h))
sum_of_finite (inf false) (inf false) h = absurd (clash (sym h))
sum_of_finite (inf s) (fin t n d) h = absurd (clash (sym h))
sum_of_finite (fin s m e) nan h = absurd (clash (sym h))
sum_of_finite (fin s m e) (inf t) h = absurd (clash (sym h))
sum_of_finite (fin s m e) (fin t n d) h = (refl, refl)
