-- Numbers of the code, by their bit patterns.
use mathlib.Core.Path.{◌≡◌, refl}
use lib.Ieee.{binary64, of_int, of_bits}
use Rattle.floats.specs.Doubles.{double}

pub zero_is : of_bits binary64 0 ≡ double 0
unfolding of_int of_bits
zero_is = refl

pub one_is : of_bits binary64 4607182418800017408 ≡ double 1
unfolding of_int of_bits
one_is = refl
