-- The minutes from one record to the next, by their bit pattern.
use mathlib.Core.Path.{◌≡◌, refl}
use lib.Ieee.{binary64, div, of_int, of_bits}
use Rattle.opening.specs.Opening.{fifth}

pub fifth_is : of_bits binary64 4596373779694328218 ≡ fifth
unfolding div of_int of_bits
fifth_is = refl
