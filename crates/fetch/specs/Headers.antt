-- A header that was opened, and the texts that stand in it.
use Rattle.std.specs.Prelude.{◌≡◌, Bool, true, false, List, ℕ}
use Rattle.rules.specs.Rule.{Read, got, stops}
use Rattle.error.specs.Number.{number_of}
use Rattle.error.specs.declared.Refusal.{Refusal}
use Rattle.utf16.specs.Utf16.{units, utf8_of, unpaired}
use Rattle.layouts.specs.Table.{field_of}
use Rattle.metadata.specs.Metadata.{Header}
use Rattle.fetch.specs.Fetch.{text_of, replaced_in, number_of_stop}
use Rattle.fetch.specs.declared.described.Described.{Described}
use Rattle.fetch.specs.declared.stored.Stored.{Stored}
use Rattle.fetch.specs.declared.stored.Stored.TheVariants.{Utf8, Utf16}

-- d is the header that Open reads
abbrev pub IsHeader : Described → Read Header → Type 0
IsHeader d (got x n) = (x.bytes ≡ d.bytes.now) × (x.says ≡ d.says)
IsHeader d (stops z) = ⊥

-- r says why it reads none
abbrev pub IsRefusal : Refusal → Read Header → Type 0
IsRefusal r (got x n) = ⊥
IsRefusal r (stops z) = number_of r ≡ number_of_stop z

-- the text of a number less one
abbrev pub text_in : ℕ → Described → List ℕ
text_in k d = text_of (field_of k d.says.edition) d.bytes.now

-- the units of it that are replaced
abbrev pub replaced_units : ℕ → Described → ℕ
replaced_units k d = replaced_in (field_of k d.says.edition) d.bytes.now

-- ---- a text as it stands there

abbrev pub raw : Stored → List ℕ
raw (Utf8 b) = b.now
raw (Utf16 b) = b.now

abbrev pub is_utf16 : Stored → Bool
is_utf16 (Utf8 b) = false
is_utf16 (Utf16 b) = true

-- as UTF-8
abbrev pub utf8_in : Stored → List ℕ
utf8_in (Utf8 b) = b.now
utf8_in (Utf16 b) = utf8_of b.now

-- the units of it that are replaced on the way
abbrev pub unpaired_in : Stored → ℕ
unpaired_in (Utf8 b) = 0
unpaired_in (Utf16 b) = unpaired (units b.now)
