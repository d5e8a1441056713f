-- The description first, then what the kind asks.
use mathlib.Core.Path.{sym, ap, ◌∙◌}
use lib.Ieee.{of_int, of_bits}
use Rattle.rules.specs.Rule.{gives}
use Rattle.floats.specs.Doubles.{double}
use Rattle.agilent.specs.Header.{kind_number}
use Rattle.metadata.specs.Metadata.{after_bytes}
use Rattle.metadata.proofs.Opens.{is_described, no_scans, stored_scans}
use Rattle.metadata.proofs.from_header.Goals as goal

pub returns-in-Array : goal.returns-in-Array
returns-in-Array c =
    c.open_array.ensures ∙ sym (is_described 6 c.args.h.now (sym c.in_ok-metadata.ensures)) ∙ ap (λ k. after_bytes (kind_number k) c.args.h.now) (sym c.in-Array.is)

pub returns-in-Fid : goal.returns-in-Fid
unfolding of_int of_bits
returns-in-Fid c =
    sym (is_described _ c.args.h.now (sym c.in_ok-metadata.ensures) ∙ no_scans c.in_ok-metadata.metadata c.args.h.now c.in-Fid.is)

pub returns-in-Ms : goal.returns-in-Ms
unfolding of_int of_bits
returns-in-Ms c =
    ap (λ n. gives (record { bytes = c.args.h.now; says = c.in_ok-metadata.metadata; scans = n; step = double 0 })) c.be_at.ensures
    ∙ sym (is_described _ c.args.h.now (sym c.in_ok-metadata.ensures) ∙ stored_scans c.in_ok-metadata.metadata c.args.h.now c.in-Ms.is)
