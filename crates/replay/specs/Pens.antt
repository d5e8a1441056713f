-- A pen that has put something, whatever it is.
use Rattle.std.specs.Prelude.{◌≤◌, ◌≡◌, length}
use Rattle.digits.specs.declared.Pen.{Pen}

-- from p to q it is over the same memory, and within it
pub record Stays (p q : Pen) : Type 0 where
  pub inside : q.at ≤ length q.out.now
  pub same : length q.out.now ≡ length p.out.now
  pub same_reference : q.out.ghost_name ≡ p.out.ghost_name
