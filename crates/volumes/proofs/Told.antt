-- A text that was decoded, and what is told of a file.
use mathlib.Core.Path.{◌≡◌, refl, sym, ap, ◌∙◌}
use mathlib.Core.Bool.{true}
use mathlib.Core.List.{List, ◌++◌}
use Prim.Native.Nat.{ℕ, ◌≤◌}
use native.Mathlib.Omega.{arith}
use lib.ListN.{length, take, drop, length-append}
use lib.Seq.{take-append_seam}
use borrow.Author.Tests.{le-leb}
use Rattle.rules.specs.Rule.{Read, got, stops, read, map_read}
use Rattle.utf16.specs.Utf16.{bytes_of}
use Rattle.utf16.specs.declared.Recoded.{Recoded}
use Rattle.utf16.proofs.Units.{said_bytes}
use Rattle.written.specs.Written.{Puts}
use Rattle.written.proofs.Puts.{room_for, length_for, no_room}
use Rattle.std.specs.Prelude.{Option, None, Some}
use Rattle.metadata.specs.Metadata.{Header, open_rule}
use Rattle.error.specs.Number.{number_of}
use Rattle.error.specs.declared.Refusal.{Refusal}
use Rattle.fetch.specs.declared.described.Described.{Described}
use Rattle.fetch.specs.Headers.{IsHeader, IsRefusal, text_in}
use Rattle.fetch.proofs.Fetches.{text_read, fetch_reads}
use Rattle.dates.specs.Dates.{date_of}
use Rattle.dates.proofs.Forms.{long_text}
use Rattle.volumes.specs.Volume.{told, told_by, refuse, run_date}

-- ---- a text in a buffer

module _ (q : Option Recoded) (old new t : List ℕ) (p : Puts (bytes_of q) old new t) where
  all_written : (r : Recoded) → q ≡ Some r → (r.bytes ≤ length new) × (take r.bytes new ≡ t)
  all_written r e =
      let k = said_bytes e p in
      let h = room_for (length old) t r.bytes k.answer in
      let m = length_for (length old) t r.bytes k.answer in
      let b : new ≡ t ++ drop (length t) old = k.holds ∙ simp (le-leb _ _ h) in
      rw (m, b) (rw length-append (omega arith), take-append_seam t (drop (length t) old))

  pub in_buffer : (r : Recoded) → q ≡ Some r → r.bytes ≤ length new
  in_buffer r e = (all_written r e).0

  pub the_text : (r : Recoded) → q ≡ Some r → take r.bytes new ≡ t
  the_text r e = (all_written r e).1

  -- what has no room in 24 bytes or more is no date
  pub too_long : 24 ≤ length old → q ≡ None → None ≡ date_of t
  too_long l e = let h = no_room (length old) t (sym (ap bytes_of e) ∙ p.answer) in sym (long_text t (omega arith))

-- ---- a file

module _ (kind : ℕ) (s : List ℕ) where
  by_open : run_date kind s ≡ told_by (map_read (text_read 8) (read true (open_rule kind) s))
  unfolding run_date
  by_open = ap told_by (fetch_reads kind 8 s refl)

  pub tells_refusal : (r : Refusal) → IsRefusal r (read true (open_rule kind) s) → refuse (number_of r) ≡ run_date kind s
  tells_refusal r h = go (read true (open_rule kind) s) refl h
    where
      go : (x : Read Header) → read true (open_rule kind) s ≡ x → IsRefusal r x → refuse (number_of r) ≡ run_date kind s
      go (got x n) e h = absurd h
      go (stops z) e h = sym (by_open ∙ rw e (ap refuse (sym h)))

  pub tells_date : (d : Described) → IsHeader d (read true (open_rule kind) s) → told (date_of (text_in 7 d)) ≡ run_date kind s
  tells_date d h = go (read true (open_rule kind) s) refl h
    where
      go : (x : Read Header) → read true (open_rule kind) s ≡ x → IsHeader d x → told (date_of (text_in 7 d)) ≡ run_date kind s
      go (stops z) e h = absurd h
      go (got x n) e h = sym (by_open ∙ rw (e, h.0, h.1) refl)
