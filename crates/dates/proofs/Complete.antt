-- What is written is found, of the items of a form.
use mathlib.Core.Path.{◌≡◌, refl}
use mathlib.Core.Bool.{Bool, true, false, not, ◌&&◌}
use mathlib.Core.List.{List, [], ◌∷◌, ◌++◌}
use Prim.Native.Nat.{ℕ}
use lib.ListN.{length, drop, get_or}
use lib.Seq.{drop-append_seam}
use Rattle.std.proofs.Common.{Some}
use borrow.Author.Tests.{not-true}
use Rattle.utf8.proofs.Cases.{first, second, never}
use Rattle.items.specs.declared.Item.{Item}
use Rattle.items.specs.declared.Item.TheVariants.{Sign, Two, OneOrTwo, MonthName, HalfDay, PlusMinus}
use Rattle.items.specs.Items.{is_digit}
use Rattle.items.specs.Writing.{sign, two, one, or_two, month, am, pm, plus, minus}
use Rattle.items.proofs.Complete.{Clear, found_of, found, AtMostOne, no_value, a_value, at_most_one}
use Rattle.dates.specs.Dates.{Values, onward, values_of}
use Rattle.dates.specs.Grammar.{Written, none as nil, next}

-- a character that is no digit
abbrev begins : Item → Bool
begins (Sign c) = not (is_digit c)
begins (Two l m) = false
begins (OneOrTwo l m) = false
begins MonthName = false
begins HalfDay = false
begins PlusMinus = false

abbrev no_digit : List Item → Bool
no_digit [] = false
no_digit (i ∷ is) = begins i

-- such a character comes behind a number of one or two digits
abbrev asks : Item → List Item → Bool
asks (Sign c) is = true
asks (Two l m) is = true
asks (OneOrTwo l m) is = no_digit is
asks MonthName is = true
asks HalfDay is = true
asks PlusMinus is = true

abbrev pub spaced : List Item → Bool
spaced [] = true
spaced (i ∷ is) = asks i is && spaced is

no_digit_lem : {is : List Item} {vs t : List ℕ} → Written is vs t → no_digit is ≡ true → is_digit (get_or t 0 0) ≡ false
no_digit_lem nil e = refl
no_digit_lem (next (sign {c}) r) e = not-true (is_digit c) e
no_digit_lem (next (two h k a b) r) e = never e refl
no_digit_lem (next (one h a b) r) e = never e refl
no_digit_lem (next (or_two h k a b) r) e = never e refl
no_digit_lem (next (month a b x) r) e = never e refl
no_digit_lem (next (am x) r) e = never e refl
no_digit_lem (next (pm x) r) e = never e refl
no_digit_lem (next plus r) e = refl
no_digit_lem (next minus r) e = refl

clear : (i : Item) {is : List Item} {vs t : List ℕ} → Written is vs t → asks i is ≡ true → Clear i t
clear (Sign c) r e = tt
clear (Two l m) r e = tt
clear (OneOrTwo l m) r e = no_digit_lem r e
clear MonthName r e = tt
clear HalfDay r e = tt
clear PlusMinus r e = tt

-- the values that come, where those of the rest come behind the item
onward_found : {v vs : List ℕ} (n : ℕ) (rest : ℕ → Values) → AtMostOne v → rest n ≡ Some vs → onward (found_of v n) rest ≡ Some (v ++ vs)
onward_found n rest no_value e = e
onward_found n rest a_value e = rw e

pub complete : {is : List Item} {vs t : List ℕ} → Written is vs t → spaced is ≡ true → values_of is t ≡ Some vs
unfolding values_of
complete nil e = refl
complete (next {i} {is} {v} {vs} {s} {t} w r) e =
    let rest : ℕ → Values = λ n. values_of is (drop n (s ++ t)) in
    rw (found w t (clear i r (first (asks i is) (spaced is) e)))
    (onward_found (length s) rest (at_most_one w) (rw (drop-append_seam s t) (complete r (second (asks i is) (spaced is) e))))
