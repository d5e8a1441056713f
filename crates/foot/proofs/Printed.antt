-- Document 01's printed run, computed: its text is compared byte by byte, so that a log that differs is refused at once.
use mathlib.Core.Path.{◌≡◌, refl, subst}
use mathlib.Core.List.{List, map}
use native.Mathlib.Omega.{arith}
use Prim.Native.Nat.{ℕ}
use lib.Dec.{T}
use lib.Ieee.{add, mul, div, sub, of_int, of_bits, to_bits, is_nan, to_signed}
use Rattle.rules.specs.Rule.{finished, read, ◌>>=◌}
use Rattle.rules.specs.Calls.{read_up_to}
use Rattle.utf8.specs.Utf8.{decode}
use Rattle.trim.specs.WhiteSpace.{trimmed_of}
use Rattle.agilent.specs.Header.{header_rule}
use Rattle.pascal.specs.Texts.{pascal, text_rule}
use Rattle.metadata.specs.Metadata.{texts_rule, described_by, metadata_rule, open_rule}
use Rattle.layouts.specs.Table.{minima, texts, clocks, offsets, multipliers}
use Rattle.fid.specs.Fid.{fid_rule}
use Rattle.streams.specs.declared.Mode.TheVariants.{Plain}
use Rattle.opening.specs.Opening.{same_bytes, begins}
use Rattle.opening.proofs.Marks.{same_is}
use Rattle.digits.specs.Numbers.{decimal}
use Rattle.lines.specs.Lines.{bits_text, record_line, total_line, answer_text}
use Rattle.lines.specs.Left.{ascii}
use Rattle.runlog.specs.Runs.{lines_of}
use Rattle.runlog.specs.Log.{LogOf, opened_run, one_more, no_more}
use Rattle.foot.specs.Foot.{AllWithin, added_up, printed_run, printed_log, some_totals, some_lines}

printed_as : {t : List ℕ} → LogOf Plain 32768 1 printed_run finished t → T (same_bytes t printed_log) → LogOf Plain 32768 1 printed_run finished printed_log
printed_as {t} l s = subst (LogOf Plain 32768 1 printed_run finished) (same_is t printed_log s) l

pub printed : LogOf Plain 32768 1 printed_run finished printed_log
unfolding printed_run printed_log read ◌>>=◌ header_rule metadata_rule texts_rule open_rule described_by text_rule pascal trimmed_of decode minima texts clocks offsets multipliers begins fid_rule add mul div sub of_int of_bits to_bits is_nan to_signed lines_of record_line bits_text answer_text decimal
printed = printed_as (opened_run refl (one_more refl (one_more refl (no_more refl)))) tt

pub lines : map total_line some_totals ≡ map ascii some_lines
unfolding decimal
lines = refl

pub within : AllWithin (added_up Plain 1 2 printed_run)
unfolding printed_run read ◌>>=◌ read_up_to header_rule metadata_rule texts_rule open_rule described_by text_rule pascal trimmed_of decode minima texts begins fid_rule add mul div sub of_int of_bits to_bits
within = (omega arith, (omega arith, tt))
