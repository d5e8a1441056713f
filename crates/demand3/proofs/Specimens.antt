-- The specimens: one computation, a test, so that a specimen that is not met is refused at once; and the equation that the test shows.
use mathlib.Core.Path.{◌≡◌, refl, ap, ap₂}
use mathlib.Core.Bool.{Bool, true, false, ◌&&◌}
use mathlib.Core.List.{List, [], ◌∷◌}
use Prim.Native.Nat.{ℕ}
use lib.Dec.{T, eqb, eqb→eq}
use lib.Ieee.{add, mul, div, sub, of_int, of_bits, to_bits}
use mir.Facts.{and_yes}
use Rattle.rules.specs.Rule.{read, ◌>>=◌}
use Rattle.rules.specs.Calls.{read_up_to}
use Rattle.utf8.specs.Utf8.{decode}
use Rattle.trim.specs.WhiteSpace.{trimmed_of}
use Rattle.agilent.specs.Header.{header_rule}
use Rattle.pascal.specs.Texts.{pascal, text_rule}
use Rattle.metadata.specs.Metadata.{texts_rule, described_by, metadata_rule, open_rule}
use Rattle.layouts.specs.Table.{minima, texts}
use Rattle.streams.specs.Told.{delta}
use Rattle.streams.specs.Scanning.{scanning}
use Rattle.fid.specs.Fid.{fid_rule}
use Rattle.ms.specs.Ms.{ms_point, ms_scans}
use Rattle.mwd.specs.Mwd.{mwd_point, mwd_rule}
use Rattle.dad.specs.Dad.{dad_point, dad_scan}
use Rattle.uv.specs.Uv.{uv_point, uv_scan}
use Rattle.opening.specs.Opening.{same_bytes, begins}
use Rattle.opening.proofs.Marks.{same_is}
use Rattle.demand3.specs.Specimens.{Reply, sized, refusal, gave, left, Specimen, answered, specimens, atlas_specimens, AllGive}

abbrev same_reply : Reply → Reply → Bool
same_reply (sized m) = elim [ sized n ↦ eqb m n | refusal n ↦ false | gave r n ↦ false | left n y ↦ false ]
same_reply (refusal m) = elim [ sized n ↦ false | refusal n ↦ eqb m n | gave r n ↦ false | left n y ↦ false ]
same_reply (gave l m) = elim [ sized n ↦ false | refusal n ↦ false | gave r n ↦ same_bytes l r && eqb m n | left n y ↦ false ]
same_reply (left m x) = elim [ sized n ↦ false | refusal n ↦ false | gave r n ↦ false | left n y ↦ eqb m n && same_reply x y ]

reply_is : (x y : Reply) → T (same_reply x y) → x ≡ y
reply_is (sized m) = elim [ sized n ↦ λ t. ap sized (eqb→eq m n t) | refusal n ↦ λ t. absurd t | gave r n ↦ λ t. absurd t | left n y ↦ λ t. absurd t ]
reply_is (refusal m) = elim [ sized n ↦ λ t. absurd t | refusal n ↦ λ t. ap refusal (eqb→eq m n t) | gave r n ↦ λ t. absurd t | left n y ↦ λ t. absurd t ]
reply_is (gave l m) = elim [
  | sized n ↦ λ t. absurd t
  | refusal n ↦ λ t. absurd t
  | gave r n ↦ λ t. let p = and_yes (same_bytes l r) (eqb m n) t in ap₂ gave (same_is l r p.0) (eqb→eq m n p.1)
  | left n y ↦ λ t. absurd t
]
reply_is (left m x) = elim [
  | sized n ↦ λ t. absurd t
  | refusal n ↦ λ t. absurd t
  | gave r n ↦ λ t. absurd t
  | left n y ↦ λ t. let p = and_yes (eqb m n) (same_reply x y) t in ap₂ left (eqb→eq m n p.0) (reply_is x y p.1)
]

abbrev test : List Specimen → Bool
test [] = true
test (s ∷ ss) = same_reply (answered s.does) s.answers && test ss

all_give : (ss : List Specimen) → T (test ss) → AllGive ss
all_give [] t = refl
all_give (s ∷ ss) t = let p = and_yes (same_reply (answered s.does) s.answers) (test ss) t in ap₂ (λ x xs. x ∷ xs) (reply_is (answered s.does) s.answers p.0) (all_give ss p.1)

computed : T (test specimens)
unfolding specimens read ◌>>=◌ read_up_to header_rule metadata_rule texts_rule open_rule described_by text_rule pascal trimmed_of decode minima texts begins delta fid_rule ms_point ms_scans mwd_point mwd_rule dad_point dad_scan uv_point uv_scan scanning add mul div sub of_int of_bits to_bits
computed = tt

atlas_computed : T (test atlas_specimens)
unfolding atlas_specimens read ◌>>=◌ read_up_to header_rule metadata_rule texts_rule open_rule described_by text_rule pascal trimmed_of decode minima texts begins delta dad_point dad_scan uv_point uv_scan scanning add mul div sub of_int of_bits to_bits
atlas_computed = tt

pub they_give_too : AllGive atlas_specimens
they_give_too = all_give atlas_specimens atlas_computed

pub they_give : AllGive specimens
they_give = all_give specimens computed
