-- By what each step asks for.
use Rattle.std.proofs.Common.{◌≡◌, ◌<◌, List, ◌++◌, ℕ, take, sym, ◌∙◌, subst, arith, Result, IfOk, IfSome}
use Rattle.places.specs.declared.Place.{Place}
use Rattle.places.specs.declared.Ask.{Ask}
use Rattle.places.specs.Machine.{step_of}
use Rattle.runs.specs.Whole.{Falls, weight}
use Rattle.runs.proofs.Falls.{falls}
use Rattle.logger.proofs.Runs.{known, writes, tells, reads, ends}
use Rattle.logger.specs.Shell.{name_of, place_of, TookPart}
use Rattle.std.specs.Io.KnownBytes.{Appends}
use Rattle.logger.proofs.log_input.Goals as goal
use Rattle.logger.proofs.log_input.Goals.{in-Write, in-Tell, in-Read}

-- what is asked for
asked : (p : Place) (buf out : List ℕ) {a b : Ask} → a ≡ (step_of p buf out).answer → a ≡ b → Falls p buf out b
asked p buf out e g = subst (Falls p buf out) (sym e ∙ g) (falls p buf out)

-- where the run stands then, its measure has fallen
fell : {a b : Result Place Place} (p : Place) → a ≡ b → weight (place_of b) < weight p → weight (place_of a) < weight p
fell p e h = subst (λ x. weight (place_of x) < weight p) (sym e) h

pub write_out-after-requires : goal.write_out-after-requires
write_out-after-requires g c = let f = asked c.loop-q.p c.loop-q.buf c.loop-q.out c.step.ensures.answer c.in-Write.is in omega (arith, f.1)

pub tell-after-requires : goal.tell-after-requires
tell-after-requires g c = let f = asked c.loop-q.p c.loop-q.buf c.loop-q.out c.step.ensures.answer c.in-Tell.is in omega (arith, f.1)

pub read_more-after-requires : goal.read_more-after-requires
read_more-after-requires g c = let f = asked c.loop-q.p c.loop-q.buf c.loop-q.out c.step.ensures.answer c.in-Read.is in omega (arith, f.3)

pub loop-q-smaller-in-Ok : goal.loop-q-smaller-in-Ok
loop-q-smaller-in-Ok g c =
    let falls : weight (place_of c.match-step.after) < weight c.loop-q.p = elim c.match-step.branch [
      | in-Write w ↦
          let f = asked c.loop-q.p c.loop-q.buf c.loop-q.out c.step.ensures.answer w.in-Write.is in
          fell c.loop-q.p w.after-is (w.write_out-after.ensures.falls c.loop-q.p f.0)
      | in-Tell w ↦
          let f = asked c.loop-q.p c.loop-q.buf c.loop-q.out c.step.ensures.answer w.in-Tell.is in
          fell c.loop-q.p w.after-is (w.tell-after.ensures.falls c.loop-q.p f.0)
      | in-Read w ↦
          let f = asked c.loop-q.p c.loop-q.buf c.loop-q.out c.step.ensures.answer w.in-Read.is in
          fell c.loop-q.p w.after-is (w.read_more-after.ensures.falls c.loop-q.p c.loop-q.buf c.loop-q.out f)
    ] in
    fell c.loop-q.p (sym c.in-Ok.is) falls

pub loop-q-smaller : goal.loop-q-smaller
loop-q-smaller g c =
    let falls : weight (place_of c.match-step.after) < weight c.loop-q.p = elim c.match-step.branch [
      | in-Write w ↦
          let f = asked c.loop-q.p c.loop-q.buf c.loop-q.out c.step.ensures.answer w.in-Write.is in
          fell c.loop-q.p w.after-is (w.write_out-after.ensures.falls c.loop-q.p f.0)
      | in-Tell w ↦
          let f = asked c.loop-q.p c.loop-q.buf c.loop-q.out c.step.ensures.answer w.in-Tell.is in
          fell c.loop-q.p w.after-is (w.tell-after.ensures.falls c.loop-q.p f.0)
      | in-Read w ↦
          let f = asked c.loop-q.p c.loop-q.buf c.loop-q.out c.step.ensures.answer w.in-Read.is in
          fell c.loop-q.p w.after-is (w.read_more-after.ensures.falls c.loop-q.p c.loop-q.buf c.loop-q.out f)
    ] in
    fell c.loop-q.p (sym c.in-Err.is) falls

pub loop-q-preserved-in-Ok : goal.loop-q-preserved-in-Ok
loop-q-preserved-in-Ok g c = λ whole xs ys i o.
    let going = c.loop-q.invariant whole xs ys i o in
    elim c.match-step.branch [
      | in-Write w ↦
          let r = subst (λ a. IfOk a (λ r. Appends (g.W.Write.contents c.loop-q.output) (g.W.Write.contents w.write_out-after.new.output) (take w.in-Write.n c.step.new.out) × (r ≡ w.in-Write.q))) (sym w.after-is ∙ c.in-Ok.is) w.write_out-after.ensures.wrote in
          rw (w.input-is, w.output-is, w.buf-is)
          (writes _ _ _ xs ys c.loop-q.p c.loop-q.buf c.loop-q.out _ _ going w.in-Write.q _ w.in-Write.n c.step.result _ _ c.step.ensures _ w.in-Write.is r.0 r.1)
      | in-Tell w ↦
          let r = subst (λ a. IfOk a (λ r. Appends (g.E.Write.contents c.loop-q.teller.to.now) (g.E.Write.contents w.tell-after.new.self.to.now) (name_of c.loop-q.teller.mode ++ take w.in-Tell.n c.step.new.out) × (r ≡ w.in-Tell.q))) (sym w.after-is ∙ c.in-Ok.is) w.tell-after.ensures.told in
          rw (w.input-is, w.output-is, w.buf-is)
          (tells _ _ _ xs ys c.loop-q.p c.loop-q.buf c.loop-q.out _ _ going w.in-Tell.q _ w.in-Tell.n c.step.result _ _ c.step.ensures w.in-Tell.is r.1)
      | in-Read w ↦
          let r = subst (λ a. IfOk a (λ r. IfSome (g.R.Read.remaining c.loop-q.input) (λ left. TookPart w.in-Read.q w.in-Read.n c.step.new.buf w.read_more-after.new.buf left (g.R.Read.remaining w.read_more-after.new.input) r))) (sym w.after-is ∙ c.in-Ok.is) w.read_more-after.ensures.took in
          rw (w.input-is, w.output-is, w.buf-is)
          (reads _ _ _ xs ys c.loop-q.p c.loop-q.buf c.loop-q.out _ _ going w.in-Read.q _ w.in-Read.n c.step.result _ _ c.step.ensures _ _ w.in-Read.is c.step.auto.buf r)
    ]

pub returns-in-Closed : goal.returns-in-Closed
returns-in-Closed g c = λ whole h k.
    known _ _ _ _ _ λ xs ys i o l.
    ends _ _ _ xs ys c.loop-q.p c.loop-q.buf c.loop-q.out _ _ (c.loop-q.invariant whole xs ys i o) c.loop-q.p c.loop-q.p 0 c.step.result _ _ c.step.ensures c.in-Closed.is h k l
