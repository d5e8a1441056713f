-- By the answer; behind a header, the records at hand.
use Rattle.std.proofs.Common.{arith, rules}
use Rattle.rules.proofs.Laws.{taken_within}
use Rattle.places.proofs.Steps.{put_at_lem, hand_long, step_out}
use Rattle.machine.proofs.Opens.{open_waits, open_refused, not_more, open_reads, open_runs}
use Rattle.machine.proofs.open.Goals as goal

pub overflow_add-q : goal.overflow_add-q
overflow_add-q c =
    let h = open_reads c.args.mode c.args.kind c.args.p c.args.buf.now c.args.out.now c.open_by.ensures _ c.in-Ok.is in
    omega (arith, taken_within _ _ _ h.1, hand_long c.args.p c.args.buf.now c.requires.0 c.requires.1)

pub log_hand-requires : goal.log_hand-requires
log_hand-requires c =
    let reads = open_reads c.args.mode c.args.kind c.args.p c.args.buf.now c.args.out.now c.open_by.ensures _ c.in-Ok.is in
    let within = taken_within _ _ _ reads.1 in
    let hand = hand_long c.args.p c.args.buf.now c.requires.0 c.requires.1 in
    (omega arith, c.requires.1, omega (arith, c.put_header.ensures.put.put.fits, c.put_header.ensures.put.put.same))

pub returns-in-MoreBytes : goal.returns-in-MoreBytes
returns-in-MoreBytes c = open_waits c.args.mode c.args.kind c.args.p c.args.buf.now c.args.out.now c.open_by.ensures _ c.in-Err.is c.in-MoreBytes.is c.refill.ensures

pub returns-in-Finished : goal.returns-in-Finished
returns-in-Finished c = open_refused c.args.mode c.args.kind c.args.p c.args.buf.now c.args.out.now c.open_by.ensures _ c.in-Err.is (not_more c.in-Finished.is) (c.close.ensures _)

pub returns-in-Ok : goal.returns-in-Ok
returns-in-Ok c =
    let p = c.put_header.ensures.put.put in
    step_out (search rules)
    (open_runs c.args.mode c.args.kind c.args.p c.args.buf.now c.args.out.now c.open_by.ensures _ c.in-Ok.is _ _ _ p.next (put_at_lem p) c.first_total.ensures c.log_hand.ensures)
