-- A text put into lent memory.
use Rattle.std.specs.Prelude.{ℕ, ◌+◌, ◌≤◌, ◌≡◌, List, ◌++◌, length, take, drop}
use Rattle.digits.specs.declared.Pen.{Pen}

-- l was put at index `at` of old, which is now new; r is the index behind it, and the rest is as it was
pub record Put (l : List ℕ) (at : ℕ) (old : List ℕ) (r : ℕ) (new : List ℕ) : Type 0 where
  pub next : r ≡ at + length l
  pub fits : r ≤ length old
  pub same : length new ≡ length old
  pub holds : new ≡ take at old ++ (l ++ drop r old)

-- l was put by a pen, from p to q, and it is still over the same memory
pub record Puts (l : List ℕ) (p q : Pen) : Type 0 where
  pub put : Put l p.at p.out.now q.at q.out.now
  pub same_reference : q.out.ghost_name ≡ p.out.ghost_name
