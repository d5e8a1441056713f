-- The editions that the code knows: those of Table.antt.
use Rattle.std.specs.Prelude.{◌≡◌, List, ◌++◌, ℕ, zero, suc, Option, Some, None, Result, MatchResult, false}
use Rattle.error.specs.declared.Refusal.{Refusal}
use Rattle.error.specs.declared.Refusal.TheVariants.{UnknownEdition}
use Rattle.layouts.specs.Table.{among, olds, news}
use Rattle.layouts.specs.declared.Edition.{Edition}
use Rattle.layouts.specs.declared.Edition.TheVariants.{E2, E30, E31, E81, E102, E130, E131, E179}

unfoldable pub editions : List ℕ
editions = olds ++ news

abbrev pub edition_number : Edition → ℕ
edition_number E2 = 2
edition_number E30 = 30
edition_number E31 = 31
edition_number E81 = 81
edition_number E102 = 102
edition_number E130 = 130
edition_number E131 = 131
edition_number E179 = 179

-- the edition of a number, or the refusal of a number that is none
abbrev pub Decodes : ℕ → Result Edition Refusal → Type 0
Decodes number r = MatchResult r (λ e. edition_number e ≡ number) (λ z. (z ≡ UnknownEdition) × (among editions number ≡ false))

-- where a double is stored: 0 stands for none
abbrev pub stored : ℕ → Option ℕ
stored zero = None
stored (suc n) = Some (suc n)
