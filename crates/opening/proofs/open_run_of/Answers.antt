-- A header that was opened lies within the bytes.
use mathlib.Core.Path.{sym}
use lib.Seq.{length-take-le}
use Rattle.agilent.specs.Header.{kind_number}
use Rattle.metadata.proofs.HeaderReads.{fits}
use Rattle.opening.proofs.open_run_of.Goals as goal

pub slice_bounds-first_state-end : goal.slice_bounds-first_state-end
slice_bounds-first_state-end c =
    let f = fits c.args.last (kind_number c.args.kind) c.args.s.now c.open_header_of.result c.open_header_of.ensures c.in_ok-header.was in
    sym (length-take-le c.in_ok-header.header.metadata.size c.args.s.now f.1)
