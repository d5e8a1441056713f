-- The laws, cited.
use mathlib.Core.Path.{refl}
use Rattle.utf16.specs.Utf16.{unpaired}
use Rattle.letters.specs.Letters.{OfUnits}
use Rattle.letters.proofs.Units.{letters, none, some, inverts}
use Rattle.letters.proofs.Fetched.{tells, tell_all}
use Rattle.letters.proofs.replaced_letters.Goals as goal

of_units : OfUnits
unfolding unpaired
of_units = record { letters = letters; none = none; some = some; inverts = inverts; reversed = refl; doubled = refl; last = refl; paired = refl; stored = refl }

pub returns : goal.returns
returns c = record { decoder = of_units; fetch = λ kind number s r old new o g. tells kind number s r old new g o; texts = λ kind s r m g. tell_all kind s r m g }
