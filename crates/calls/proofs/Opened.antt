-- Open, and the calls behind it.
use mathlib.Core.Path.{◌≡◌, refl, sym, ap, ◌∙◌}
use mathlib.Core.Bool.{Bool, true, false, cond, false≢true}
use mathlib.Core.List.{List}
use Prim.Native.Nat.{ℕ, ◌-◌, ◌≤◌, ◌<◌}
use native.Mathlib.Omega.{arith}
use lib.Dec.{leb}
use lib.ListN.{length, take, drop, get_or, length-drop}
use lib.Seq.{take_all}
use borrow.Author.Tests.{leb-true}
use Rattle.rules.specs.Rule.{got, stops, read}
use Rattle.rules.specs.Calls.{Call, asked, called, by_calls}
use Rattle.common.specs.Bytes.{AreBytes}
use Rattle.common.proofs.Sizes.{are_bytes}
use Rattle.error.specs.Number.{stop_of}
use Rattle.error.specs.declared.Stopped.{Stopped}
use Rattle.streams.specs.declared.State.{State}
use Rattle.chemstation.specs.Next.{rule}
use Rattle.opening.specs.Opening.{start_read}
use Rattle.streams.specs.declared.Mode.{Mode}
use Rattle.modes.specs.Modes.{start_by, OpensBy}
use Rattle.opening.specs.declared.OpenedRun.{OpenedRun}
use Rattle.reader.specs.Columns.{Held, equal_lengths, Room}
use Rattle.reader.proofs.ColumnLaws.{even_if}
use Rattle.demand3.specs.Demand3.{Demand3, Demand3Holds}
use Rattle.calls.specs.MakeCalls.{asked_in, ComesTo, Makes}
use Rattle.calls.specs.declared.Rows.{Rows}
use Rattle.std.specs.Prelude.{Some, None, Result, Ok, Err}

-- what Open's contract says of the rule of opening: the one place that cites it
pub opened : (mode : Mode) (kind : ℕ) (F : List ℕ) (r : Result OpenedRun Stopped) → OpensBy mode kind false F r → (y : Result OpenedRun Stopped) → r ≡ y → read false (start_by mode kind) F ≡ start_read y
opened mode kind F r o y e = sym o.state ∙ ap start_read e

-- demand 3 of these calls on F, the bytes of a slice
abbrev pub Demanded : Mode → ℕ → List Call → List ℕ → Type 0
Demanded mode kind cs F = (G : List ℕ) → AreBytes G → 1 ≤ asked cs → Demand3 mode kind cs F G

pub demanded : (mode : Mode) (kind : ℕ) (cs : List Call) (F : List ℕ) → Demand3Holds → ((i : ℕ) → get_or F i 0 < 256) → Demanded mode kind cs F
demanded mode kind cs F d f G g h = d mode kind cs F G (are_bytes F f) g h

-- ---- N and the lent columns

pub above : (room n : ℕ) → asked_in room n ≡ None → leb n room ≡ false
above room n = go (leb n room)
  where
    go : (b : Bool) → cond b (Some n) None ≡ None → b ≡ false
    go true e = absurd (false≢true cc)
    go false e = refl

-- columns of one length with room for N, which is n
pub record Accepted (cs : List Call) (n : ℕ) (old : Held) : Type 0 where
  pub equal : equal_lengths old ≡ true
  pub room : leb (asked cs) (length old.time) ≡ true
  pub same : n ≡ asked cs

pub accepted : (cs : List Call) (n : ℕ) (old : Held) → equal_lengths old ≡ true → asked_in (length old.time) (asked cs) ≡ Some n → Accepted cs n old
accepted cs n old e = go (leb (asked cs) (length old.time)) refl
  where
    go : (b : Bool) → leb (asked cs) (length old.time) ≡ b → cond b (Some (asked cs)) None ≡ Some n → Accepted cs n old
    go true q t = record { equal = e; room = q; same = cc }
    go false q t = absurd (false≢true cc)

module _ (mode : Mode) (kind : ℕ) (cs : List Call) (F : List ℕ) (n : ℕ) (old : Held) (h : Accepted cs n old) where
  pub has_room : Room n old × (n ≡ asked cs)
  has_room = ((even_if old h.equal, omega (arith, h.same, leb-true (asked cs) (length old.time) h.room)), h.same)

  -- ---- Open stops, or gives the state that the calls begin with

  made_so : (r : Rows) (new : Held) → Demanded mode kind cs F → ComesTo (by_calls rule (start_by mode kind) cs F) n r (record { entry = old; exit = new }) → Makes mode kind cs F (Ok r) (record { entry = old; exit = new })
  made_so r new d m = record { answer = rw (h.equal, h.room, ← h.same) m.answer; columns = rw (h.equal, h.room) m.columns; demand = d }

  pub no_state : (z : Stopped) → Demanded mode kind cs F → read false (start_by mode kind) F ≡ stops (stop_of z) → Makes mode kind cs F (Ok (record { asked = n; count = 0; closing = Err z })) (record { entry = old; exit = old })
  no_state z d q = made_so (record { asked = n; count = 0; closing = Err z }) old d (rw q (record { answer = refl; columns = refl }))

  pub from_state : (st : State) (k : ℕ) → Demanded mode kind cs F → read false (start_by mode kind) F ≡ got st k → (r : Rows) (new : Held) →
      ComesTo (called rule cs st (take (length F - k) (drop k F))) n r (record { entry = old; exit = new }) → Makes mode kind cs F (Ok r) (record { entry = old; exit = new })
  from_state st k d q r new m = made_so r new d (rw q (rw (take_all (length F - k) (drop k F) (omega (arith, length-drop k F))) at m))
