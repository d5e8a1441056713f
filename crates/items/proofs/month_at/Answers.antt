-- The month by the place of its name.
use Rattle.std.proofs.Common.{sym, ◌∙◌}
use Rattle.items.proofs.Letters.{the_name}
use Rattle.items.proofs.month_at.Goals as goal

pub returns : goal.returns
returns c =
    the_name c.args.t.now _ _ _ (sym c.letter_at.ensures ∙ c.in_ok-letter_at.was) (sym c.letter_at-2.ensures ∙ c.in_ok-letter_at-2.was) (sym c.letter_at-3.ensures ∙ c.in_ok-letter_at-3.was)
    c.in_ok-place.place (sym c.place_of.ensures ∙ c.in_ok-place.was)
