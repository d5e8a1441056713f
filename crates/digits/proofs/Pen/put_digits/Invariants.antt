-- From the last digit to the first.
use Rattle.std.proofs.Common.{◌≡◌}
use Rattle.digits.proofs.Digits.{Digiting}
use Rattle.digits.proofs.Pen.put_digits.Given as goal

abbrev pub invariant-loop-i : goal.invariant-loop-i
invariant-loop-i l = record {
  digits : Digiting l.base l.k l.n l.initial.self.out.now l.initial.self.at l.self.out.now l.i l.rest;
  place : l.self.at ≡ l.initial.self.at;
  same_reference : l.self.out.ghost_name ≡ l.initial.self.out.ghost_name;
}
