-- Texts behind a length byte: document 01, 'Header' and 'Open' (FORMAT 4.3).
use Rattle.std.specs.Prelude.{cond, List, ℕ, ◌+◌, ◌-◌, ◌*◌, ltb, eqb, length, get_or, Option, Some, None, Result, Ok, Err}
use Rattle.rules.specs.Rule.{Rule, gives, refuses, ◌>>◌}
use Rattle.error.specs.Number.{number_of}
use Rattle.common.specs.Bytes.{part}
use Rattle.trim.specs.WhiteSpace.{trimmed_of}
use Rattle.trim.specs.declared.Extent.{Extent}
use Rattle.agilent.specs.Header.{check}
use Rattle.pascal.specs.declared.TextField.{TextField}
use Rattle.pascal.specs.declared.TextField.TheVariants.{Absent, Pascal, PascalToEnd, Utf16}
use Rattle.error.specs.declared.Refusal.{Refusal}

-- where a text stands: 'the start and length .., in bytes after trimming; 0, 0 for an empty one'
pub record Place : Type 0 where
  pub start : ℕ
  pub bytes : ℕ

abbrev pub place_at : ℕ → ℕ → Place
place_at start bytes = cond (eqb bytes 0) (record { start = 0; bytes = 0 }) (record { start = start; bytes = bytes })

-- '8, not UTF-8'
abbrev pub trimmed_from : ℕ → Option Extent → Rule Place
trimmed_from from None = refuses 8
trimmed_from from (Some e) = gives (place_at (from + e.start) e.count)

-- 'Old: length byte, UTF-8, trimmed of Unicode White_Space at both ends'; '7, length byte not below the field's width'
unfoldable pub pascal : ℕ → ℕ → List ℕ → Rule Place
pascal start width h = do
  check (ltb (get_or h start 0) width) 7
  trimmed_from (start + 1) (trimmed_of (part (start + 1) (get_or h start 0) h))

-- 'New: length byte counts little-endian UTF-16 units, untrimmed'
abbrev pub utf16_pascal : ℕ → List ℕ → Place
utf16_pascal start h = place_at (start + 1) (2 * get_or h start 0)

unfoldable pub text_rule : TextField → List ℕ → Rule Place
text_rule Absent h = gives (place_at 0 0)
text_rule (Pascal start width) h = pascal start width h
text_rule (PascalToEnd start) h = pascal start (length h - start) h
text_rule (Utf16 start) h = gives (utf16_pascal start h)

-- ---- what the code's answers say

abbrev pub place_of : Extent → Place
place_of x = record { start = x.start; bytes = x.count }

abbrev pub place_rule : Result Extent Refusal → Rule Place
place_rule (Ok x) = gives (place_of x)
place_rule (Err r) = refuses (number_of r)

-- so many bytes of a header a field takes, whatever its length byte says
abbrev pub reach : TextField → ℕ
reach Absent = 0
reach (Pascal start width) = start + 1 + (width - 1)
reach (PascalToEnd start) = start + 1
reach (Utf16 start) = start + 511
