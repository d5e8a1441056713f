-- The header's bytes; of a whole header, the rest of the rule says what is opened.
use mathlib.Core.Path.{sym, ap, ◌∙◌}
use lib.ListN.{take}
use lib.Seq.{length-take-le}
use Rattle.std.proofs.lemmas.Result.{err_from_is_err_and}
use Rattle.rules.specs.Rule.{got}
use Rattle.agilent.specs.Header.{kind_number}
use Rattle.agilent.proofs.HeaderLaws.{header_stops, header_gives}
use Rattle.metadata.proofs.Opens.{open_reads, open_gives}
use Rattle.metadata.proofs.HeaderReads.{says_size}
use Rattle.metadata.proofs.open_header_of.Goals as goal

pub returns-in_err-size : goal.returns-in_err-size
returns-in_err-size c =
    let p = err_from_is_err_and c.from_residual.result c.from_residual.ensures.1 in
    rw (p.1, p.2) (sym (open_reads _ _ _ (header_stops (kind_number c.args.kind) c.args.last c.args.s.now _ c.in_err-size.ensures)))

pub slice_bounds-from_header-end : goal.slice_bounds-from_header-end
slice_bounds-from_header-end c =
    let g = header_gives (kind_number c.args.kind) c.args.last c.args.s.now _ c.in_ok-size.ensures in
    sym (length-take-le _ c.args.s.now g.2)

pub from_header-requires : goal.from_header-requires
from_header-requires c =
    let g = header_gives (kind_number c.args.kind) c.args.last c.args.s.now _ c.in_ok-size.ensures in
    rw (length-take-le _ c.args.s.now g.2) g.1

pub returns : goal.returns
returns c =
    let g = header_gives (kind_number c.args.kind) c.args.last c.args.s.now _ c.in_ok-size.ensures in
    let o = sym c.in_ok-opened.ensures in
    let x = c.in_ok-opened.opened in
    let m = says_size (kind_number c.args.kind) _ o ∙ length-take-le _ c.args.s.now g.2 in
    ap (λ n. got (record { bytes = take n c.args.s.now; says = x.metadata; scans = x.scans; step = x.time_step }) n) m
    ∙ sym (open_gives (kind_number c.args.kind) c.args.last c.args.s.now _ g.0 o)
