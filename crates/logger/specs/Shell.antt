-- What the log program does with its input and output.
use Rattle.std.specs.Prelude.{ℕ, ◌+◌, ◌-◌, ◌≤◌, ◌≡◌, List, [], ◌++◌, length, take, Some, Result, Ok, Err, codes}
use Rattle.std.specs.declared.option.Option.{Option}
use Rattle.streams.specs.declared.Mode.{Mode}
use Rattle.streams.specs.declared.Mode.TheVariants.{Plain, Atlas}
use Rattle.places.specs.declared.Place.{Place}
use Rattle.places.specs.Machine.{took_of}
use Rattle.runs.specs.Whole.{LogOfInput}

-- the program that reads so
abbrev pub name_of : Mode → List ℕ
name_of Plain = codes "chemlog: "
name_of Atlas = codes "atlaslog: "

-- where a run stands, whether all was done or not
abbrev pub place_of : Result Place Place → Place
place_of (Ok p) = p
place_of (Err p) = p

-- a part of the bytes that are left came behind the first n of the buffer, none only at their end, and the run is told of it
pub record TookPart (q : Place) (n : ℕ) (old new : List ℕ) (left : List ℕ) (after : Option (List ℕ)) (p : Place) : Type 0 where
  pub part : List ℕ
  pub rest : List ℕ
  pub came : left ≡ part ++ rest
  pub others : after ≡ Some rest
  pub fits : length part ≤ length old - n
  pub ended : part ≡ [] → rest ≡ []
  pub same_length : length new ≡ length old
  pub behind : take (n + length part) new ≡ take n old ++ part
  pub told : p ≡ took_of q (length part) new

-- what was written behind what stood there is the log of the input
pub record Logged (mode : Mode) (size : ℕ) (input old : List ℕ) (new : Option (List ℕ)) : Type 0 where
  pub log : List ℕ
  pub of_input : LogOfInput mode size input log
  pub written : new ≡ Some (old ++ log)
