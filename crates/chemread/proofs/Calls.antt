-- What Open, Fetch a text, Fill columns and a sum promise, as an answer by its number and lent memory.
use mathlib.Core.Path.{◌≡◌, refl, sym, ap, ◌∙◌, subst}
use mathlib.Core.Bool.{Bool, true, false, cond, false≢true}
use mathlib.Core.List.{List, [], ◌∷◌}
use Prim.Native.Nat.{ℕ}
use lib.IntN.{ℤ}
use denote.Triple.Both.{Both}
use Rattle.std.specs.Prelude.{Some, None, Result, Ok, Err}
use lib.ListN.{length}
use Rattle.rules.specs.Rule.{Read, got, stops, refused, read, map_read}
use Rattle.rules.specs.Calls.{stopped, nothing, read_up_to}
use Rattle.rules.proofs.Laws.{got≢stops}
use Rattle.error.specs.Number.{stop_of, stop_number, closing_number}
use Rattle.metadata.specs.Metadata.{Header}
use Rattle.fetch.specs.Fetch.{outcome_of, Fetches}
use Rattle.texts.specs.Eight.{Texts, FetchesAll}
use Rattle.std.specs.Prelude.{Result}
use Rattle.error.specs.declared.Refusal.{Refusal}
use Rattle.utf16.specs.declared.Recoded.{Recoded}
use Rattle.texts.specs.declared.FetchedTexts.{FetchedTexts}
use Rattle.texts.specs.Eight as eight
use Rattle.streams.specs.declared.State.{State}
use Rattle.streams.specs.declared.Mode.{Mode}
use Rattle.chemstation.specs.Next.{rule}
use Rattle.opening.specs.Opening.{start_read, says_read}
use Rattle.modes.specs.Modes.{open_by, begins_by, OpensBy}
use Rattle.modes.proofs.ModeLaws.{state_of_lem, says_of}
use Rattle.reader.specs.Columns.{Held, equal_lengths, closing_of, fill_of, FilledBy}
use Rattle.error.specs.declared.Stopped.{Stopped}
use Rattle.opening.specs.declared.OpenedRun.{OpenedRun}
use Rattle.reader.specs.declared.Filled.{Filled}
use Rattle.streams.specs.Next.{stored_of}
use Rattle.states.specs.State.{numbers_of, counts_of, reading_of, state_by}
use Rattle.states.proofs.States.{keeps_states, kept_reading}
use Rattle.states.proofs.Readings.{reading_stays}
use Rattle.chemread.specs.Answers.{outcome_number}
use Rattle.chemread.specs.Lent.{Run, reading_number, opened_as, OpensInto, size_after, FetchesInto, TextsInto, Filling, FillsInto, SumsInto}
use Rattle.chemread.proofs.Begun.{begun}
use Rattle.sums.specs.Sums.{AnyTotal}

-- ---- Open

abbrev opening_number : Result OpenedRun Stopped → ℕ
opening_number (Ok o) = 103
opening_number (Err z) = stop_number (stop_of z)

abbrev opening_memory : Result OpenedRun Stopped → Run → Run
opening_memory (Ok o) old = opened_as (reading_of o.state) o.metadata o.state
opening_memory (Err z) old = old

-- the state before the first record is of the reading by which the run is opened
abbrev Begun : Mode → ℕ → Read Header → Type 0
Begun mode kind x = (h : Header) (n : ℕ) → x ≡ got h n → reading_of (begins_by mode kind h) ≡ reading_number mode

opened_into : (mode : Mode) (kind : ℕ) (x : Read Header) (a : Result OpenedRun Stopped) (old : Run) → Begun mode kind x → start_read a ≡ map_read (begins_by mode kind) x → says_read a ≡ map_read (λ h. h.says) x →
    OpensInto mode kind x (opening_number a) (record { entry = old; exit = opening_memory a old })
opened_into mode kind (got h n) (Ok o) old b p q =
    let described : o.metadata ≡ h.says = cc in
    let begins : o.state ≡ begins_by mode kind h = cc in
    let reading = ap reading_of begins ∙ b h n refl in
    let same : (k : Header) (i : ℕ) → got h n ≡ got k i → begins_by mode kind h ≡ begins_by mode kind k = λ k i e. cc in
    record { answer = refl; memory = λ j. opened_as (reading j) (described j) (begins j); state = λ k i e. keeps_states o.state ∙ ap Some (begins ∙ same k i e) }
opened_into mode kind (got h n) (Err z) old b p q = absurd (got≢stops (sym p))
opened_into mode kind (stops z) (Ok o) old b p q = absurd (got≢stops p)
opened_into mode kind (stops z) (Err y) old b p q =
    let same : stop_of y ≡ z = cc in
    record { answer = ap stop_number same; memory = refl; state = λ k i e. absurd (got≢stops (sym e)) }

pub opens_into : {mode : Mode} {kind : ℕ} {last : Bool} {s : List ℕ} {r : Result OpenedRun Stopped} (a : Result OpenedRun Stopped) (old : Run) → OpensBy mode kind last s r → r ≡ a →
    OpensInto mode kind (read last (open_by mode kind) s) (opening_number a) (record { entry = old; exit = opening_memory a old })
opens_into {mode = mode} {kind} {last} {s} {r = r} a old o e =
    opened_into mode kind _ a old (begun mode kind last s) (ap start_read (sym e) ∙ state_of_lem o) (ap says_read (sym e) ∙ says_of o)

-- the same memory, said otherwise
pub opens_held : {mode : Mode} {kind n : ℕ} {x : Read Header} {old new held : Run} → new ≡ held → OpensInto mode kind x n (record { entry = old; exit = held }) → OpensInto mode kind x n (record { entry = old; exit = new })
opens_held {mode} {kind} {n} {x} {old} e o = subst (λ m. OpensInto mode kind x n (record { entry = old; exit = m })) (sym e) o

-- ---- Fetch a text

pub texts_into : {x : Read (List (List ℕ))} {f : Result FetchedTexts Refusal} {m : Both Texts Texts} → FetchesAll f m x → TextsInto x (outcome_number (eight.outcome_of f)) m
texts_into h = record { answer = ap outcome_number h.answer; memory = h.memory }

pub fetches_into : {x : Read (List ℕ)} {f : Result Recoded Refusal} {old new : List ℕ} (n : ℕ) → Fetches f old new x →
    FetchesInto x (outcome_number (outcome_of f)) (record { entry = record { bytes = old; size = n }; exit = record { bytes = new; size = size_after (outcome_of f) n } })
fetches_into n h = record { answer = ap outcome_number h.answer; memory = λ j. record { bytes = h.buffer j; size = size_after (h.answer j) n } }

-- ---- Fill columns

state_is : {st t : State} → Some st ≡ Some t → st ≡ t
state_is e = cc

none_is : {t : State} → ¬ (None ≡ Some t)
none_is e = false≢true cc

abbrev filled : Filled → Held → Filling
filled r new = record { numbers = numbers_of r.state; counts = counts_of r.state; stored = stored_of r.state; columns = new; given = r.count ∷ r.consumed ∷ [] }

-- Fill columns leaves the reading as it was
fill_stays : (st : State) (s : List ℕ) (last : Bool) (old : Held) → reading_of (fill_of st s last old).state ≡ reading_of st
fill_stays st s last old = go (equal_lengths old)
  where
    go : (b : Bool) → reading_of (cond b (read_up_to rule last (length old.time) st s) (nothing st (stopped (refused 15)))).state ≡ reading_of st
    go true = reading_stays last (length old.time) st s
    go false = refl

pub fills_into : (reading : ℕ) (st : State) (s : List ℕ) (last : Bool) (r : Filled) (old : Filling) (new : Held) → state_by reading old.numbers old.counts old.stored ≡ Some st → FilledBy (fill_of st s last old.columns) r old.columns new →
    FillsInto reading s last (closing_number (closing_of r.closing)) (record { entry = old; exit = filled r new })
fills_into reading st s last r old new e f =
    let after = r.state in
    let same : reading_of after ≡ reading = ap reading_of f.state ∙ fill_stays st s last old.columns ∙ kept_reading reading old.numbers old.counts old.stored e in
    let holds : state_by reading (numbers_of after) (counts_of after) (stored_of after) ≡ Some after = subst (λ k. state_by k (numbers_of after) (counts_of after) (stored_of after) ≡ Some after) same (keeps_states after) in
    record {
      answer = rw e (ap closing_number f.closing);
      memory = rw e λ j. record { numbers = numbers_of (f.state j); counts = counts_of (f.state j); stored = stored_of (f.state j); columns = f.columns j; given = f.count j ∷ f.consumed j ∷ [] };
      state = λ t h. let before : st ≡ t = state_is (sym e ∙ h) in holds ∙ ap Some (f.state ∙ ap (λ t. (fill_of t s last old.columns).state) before);
    }

pub fills_nothing : (reading : ℕ) (s : List ℕ) (last : Bool) (old : Filling) → state_by reading old.numbers old.counts old.stored ≡ None →
    FillsInto reading s last 1 (record { entry = old; exit = record { numbers = old.numbers; counts = old.counts; stored = old.stored; columns = old.columns; given = 0 ∷ 0 ∷ [] } })
fills_nothing reading s last old e = record { answer = rw e; memory = rw e; state = λ t h. absurd (none_is (sym e ∙ h)) }

-- ---- the sum of a column

-- the same total, said otherwise
pub sums_into : {s t : AnyTotal} {r : ℕ} {old new : ℤ} → s ≡ t → SumsInto s r old new → SumsInto t r old new
sums_into {r = r} {old} {new} e i = subst (λ x. SumsInto x r old new) e i
