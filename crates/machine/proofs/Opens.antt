-- What an answer of Open says of the reading.
use mathlib.Core.Path.{◌≡◌, refl, sym, ap, ap₂, ◌∙◌}
use mathlib.Core.Bool.{Bool}
use mathlib.Core.Logic.{◌⊎◌, inl, inr}
use mathlib.Core.List.{List}
use Prim.Native.Nat.{ℕ, ◌+◌}
use lib.ListN.{length}
use Rattle.rules.specs.Rule.{Read, got, stops, read, map_read}
use Rattle.rules.proofs.Laws.{got≢stops}
use Rattle.error.specs.Number.{stop_of}
use Rattle.error.specs.declared.Refusal.{Refusal}
use Rattle.error.specs.declared.Stopped.{Stopped}
use Rattle.error.specs.declared.Stopped.TheVariants.{Refused, Finished, MoreBytes}
use Rattle.metadata.specs.Metadata.{Header}
use Rattle.streams.specs.declared.Mode.{Mode}
use Rattle.opening.specs.Opening.{start_read, says_read}
use Rattle.modes.specs.Modes.{open_by, begins_by, OpensBy}
use Rattle.modes.proofs.ModeLaws.{state_of_lem, says_of}
use Rattle.std.specs.Prelude.{Result, Ok, Err}
use Rattle.opening.specs.declared.OpenedRun.{OpenedRun}
use Rattle.lines.specs.Lines.{header_line}
use Rattle.runlog.specs.Log.{header_text, first_total}
use Rattle.places.specs.declared.Ask.{Ask}
use Rattle.places.specs.declared.Phase.TheVariants.{Records, Over}
use Rattle.places.specs.declared.Place.{Place}
use Rattle.places.specs.Machine.{moved_to, totalled, put_at, IsStep, closes, refills, logs_records, opens}
use Rattle.places.proofs.Steps.{step_as}
use Rattle.sums.specs.Sums.{AnyTotal}

refused_so : (mode : Mode) (kind : ℕ) (x : Read Header) (z : Stopped) → start_read (Err z) ≡ map_read (begins_by mode kind) x → x ≡ stops (stop_of z)
refused_so mode kind (got h n) z e = absurd (got≢stops (sym e))
refused_so mode kind (stops y) z e = cc

record Begun (mode : Mode) (kind : ℕ) (x : Read Header) (run : OpenedRun) : Type 0 where
  header : Header
  reads : x ≡ got header run.size
  state : begins_by mode kind header ≡ run.state
  says : header.says ≡ run.metadata

begun : (mode : Mode) (kind : ℕ) (x : Read Header) (run : OpenedRun) → start_read (Ok run) ≡ map_read (begins_by mode kind) x → says_read (Ok run) ≡ map_read (λ h. h.says) x → Begun mode kind x run
begun mode kind (got h k) run e f = record { header = h; reads = cc; state = cc; says = cc }
begun mode kind (stops y) run e f = absurd (got≢stops e)

pub not_more : {z : Stopped} → (z ≡ Finished) ⊎ ((c : Refusal) × (z ≡ Refused c)) → ¬ (z ≡ MoreBytes)
not_more (inl e) m = absurd (cc)
not_more (inr (c, e)) m = absurd (cc)

module _ (mode : Mode) (kind : ℕ) (p : Place) (buf out : List ℕ) {last : Bool} {s : List ℕ} {r : Result OpenedRun Stopped} (o : OpensBy mode kind last s r) where
  abbrev x : Read Header
  x = read last (open_by mode kind) s

  pub open_waits : {a : Ask} {b t : List ℕ} (z : Stopped) → r ≡ Err z → z ≡ MoreBytes → IsStep (refills p buf out) a b t → IsStep (opens mode kind p buf out x) a b t
  open_waits z e f i = step_as (ap (opens mode kind p buf out) (sym (refused_so mode kind x z (ap start_read (sym e) ∙ state_of_lem o) ∙ ap (λ y. stops (stop_of y)) f))) i

  pub open_refused : {a : Ask} {b t : List ℕ} (z : Stopped) → r ≡ Err z → ¬ (z ≡ MoreBytes) → IsStep (closes p Over (stop_of z) buf out) a b t → IsStep (opens mode kind p buf out x) a b t
  open_refused z e d i = step_as (closed z d ∙ ap (opens mode kind p buf out) (sym (refused_so mode kind x z (ap start_read (sym e) ∙ state_of_lem o)))) i
    where
      closed : (z : Stopped) → ¬ (z ≡ MoreBytes) → closes p Over (stop_of z) buf out ≡ opens mode kind p buf out (stops (stop_of z))
      closed Finished d = refl
      closed (Refused c) d = refl
      closed MoreBytes d = absurd (d refl)

  module _ (run : OpenedRun) (e : r ≡ Ok run) where
    start : Begun mode kind x run
    start = begun mode kind x run (ap start_read (sym e) ∙ state_of_lem o) (ap says_read (sym e) ∙ says_of o)

    pub open_reads : (h : Header) × (x ≡ got h run.size)
    open_reads = (start.header, start.reads)

    line : header_line run.metadata.edition run.metadata.size ≡ header_text start.header
    line = ap (λ d. header_line d.edition d.size) (sym start.says)

    abbrev here : Place
    here = totalled (moved_to p (Records (begins_by mode kind start.header)) (p.from + run.size) p.to (p.at + length (header_text start.header)) p.count) (first_total kind)

    -- behind the header the records at hand are logged
    pub open_runs : {a : Ask} {b t : List ℕ} (out' : List ℕ) (at : ℕ) (total : AnyTotal) → at ≡ p.at + length (header_line run.metadata.edition run.metadata.size) →
        out' ≡ put_at p.at (header_line run.metadata.edition run.metadata.size) out → total ≡ first_total kind →
        IsStep (logs_records run.state (totalled (moved_to p (Records run.state) (p.from + run.size) p.to at p.count) total) buf out') a b t → IsStep (opens mode kind p buf out x) a b t
    open_runs out' at total f g k i =
        let moved : moved_to p (Records run.state) (p.from + run.size) p.to at p.count ≡ moved_to p (Records (begins_by mode kind start.header)) (p.from + run.size) p.to (p.at + length (header_text start.header)) p.count =
        ap₂ (λ s l. moved_to p (Records s) (p.from + run.size) p.to l p.count) (sym start.state) (f ∙ ap (λ l. p.at + length l) line) in
        step_as
        (ap₂ (λ s y. logs_records s y buf out') (sym start.state) (ap₂ totalled moved k) ∙ ap (λ o. logs_records (begins_by mode kind start.header) here buf o) (g ∙ ap (λ l. put_at p.at l out) line) ∙ ap (opens mode kind p buf out) (sym start.reads))
        i
