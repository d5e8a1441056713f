-- Columns of unequal lengths, and columns shorter than N, are answered before Open; then a run that Open refuses, and one that it opens.
use mathlib.Core.Path.{sym, ◌∙◌}
use native.Mathlib.Omega.{arith}
use lib.ListN.{length}
use Rattle.rules.specs.Calls.{asked}
use Rattle.reader.specs.Columns.{held}
use Rattle.calls.specs.MakeCalls.{calls_of}
use Rattle.calls.proofs.Opened.{opened, demanded, above, accepted, no_state, from_state}
use Rattle.calls.proofs.make_calls.Goals as goal

pub returns-then-not-are_even-clause-makes : goal.returns-then-not-are_even-clause-makes
returns-then-not-are_even-clause-makes c =
    let d = demanded c.args.mode c.args.kind (calls_of c.args.calls.now) c.args.file.now c.demand_three.ensures λ i. omega (arith, c.type_inv.file i) in
    let e = sym c.are_even.ensures ∙ c.if-not-are_even.true in
    record { answer = rw e; columns = rw e; demand = d }

pub returns-in_default-clause-makes : goal.returns-in_default-clause-makes
returns-in_default-clause-makes c =
    let cs = calls_of c.args.calls.now in
    let d = demanded c.args.mode c.args.kind cs c.args.file.now c.demand_three.ensures λ i. omega (arith, c.type_inv.file i) in
    let e = sym c.are_even.ensures ∙ c.if-not-are_even.false in
    let h = above (length c.args.columns.now.time.now) (asked cs) (sym c.asked_by_all.ensures ∙ c.in_default.is) in
    record { answer = rw (e, h); columns = rw (e, h); demand = d }

pub returns-in-Err-clause-makes : goal.returns-in-Err-clause-makes
returns-in-Err-clause-makes c =
    let cs = calls_of c.args.calls.now in
    let F = c.args.file.now in
    let d = demanded c.args.mode c.args.kind cs F c.demand_three.ensures λ i. omega (arith, c.type_inv.file i) in
    let h = accepted cs _ (held c.args.columns.now) (sym c.are_even.ensures ∙ c.if-not-are_even.false) (sym c.asked_by_all.ensures ∙ c.in-Some.is) in
    no_state c.args.mode c.args.kind cs F _ (held c.args.columns.now) h _ d (opened c.args.mode c.args.kind F _ c.open_by.ensures _ c.in-Err.is)

pub returns-in-Ok-clause-makes : goal.returns-in-Ok-clause-makes
returns-in-Ok-clause-makes c =
    let cs = calls_of c.args.calls.now in
    let F = c.args.file.now in
    let d = demanded c.args.mode c.args.kind cs F c.demand_three.ensures λ i. omega (arith, c.type_inv.file i) in
    let h = accepted cs _ (held c.args.columns.now) (sym c.are_even.ensures ∙ c.if-not-are_even.false) (sym c.asked_by_all.ensures ∙ c.in-Some.is) in
    let q = opened c.args.mode c.args.kind F _ c.open_by.ensures _ c.in-Ok.is in
    from_state c.args.mode c.args.kind cs F _ (held c.args.columns.now) h _ _ d q _ _ c.calls_from.ensures.comes_to
