-- The laws, cited.
use mathlib.Core.Path.{refl}
use Rattle.spectra.proofs.Opened.{no_kind, no_atlas, opened}
use Rattle.spectra.proofs.Ends.{dad_over, dad_ends, uv_ends, dad_begins_lem, uv_begins_lem}
use Rattle.spectra.proofs.Same.{dad_next, uv_next}
use Rattle.spectra.proofs.Spending.{dad_spends, uv_spends}
use Rattle.spectra.proofs.whole_spectra.Goals as goal

pub returns : goal.returns
returns c = record {
  no_kind = no_kind;
  no_atlas = no_atlas;
  opened = opened;
  plainly = λ kind. refl;
  dad = dad_begins_lem;
  uv = uv_begins_lem;
  dad_next = dad_next;
  uv_next = uv_next;
  dad_spends = dad_spends;
  uv_spends = uv_spends;
  dad_over = dad_over;
  dad_ends = dad_ends;
  uv_ends = uv_ends;
}
