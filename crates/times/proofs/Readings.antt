-- Records one behind the other: each has its scan's time, and its double agrees from Open on.
use mathlib.Core.Path.{◌≡◌, refl, ap, ap₂, ◌∙◌, subst}
use mathlib.Core.Bool.{Bool, true, false, cond}
use mathlib.Core.List.{List, [], ◌∷◌, ◌++◌, map}
use Prim.Native.Nat.{ℕ, zero, suc}
use lib.Dec.{eqb}
use lib.ListN.{length, drop, replicate}
use lib.Ieee.{div, of_int}
use Rattle.rules.specs.Rule.{Read, got, stops, read, map_read}
use Rattle.rules.specs.Calls.{Item, Reading, one_record, go_on, read_up_to, Call, next, fill, fill_unequal, call, all_records, called, opening, by_calls}
use Rattle.rules.proofs.Laws.{read_map}
use Rattle.common.proofs.Every.{Gets, leads}
use Rattle.floats.specs.Doubles.{double, minutes}
use Rattle.metadata.specs.Metadata.{Header}
use Rattle.streams.specs.Told.{Told}
use Rattle.streams.specs.Next.{sum_of, stepped, stored_of, atlas_of}
use Rattle.streams.specs.declared.State.{State}
use Rattle.streams.specs.declared.Record.{Record}
use Rattle.streams.specs.declared.Record.TheVariants.{Trace, Mass, Spectrum}
use Rattle.chemstation.specs.Next.{fields, rule}
use Rattle.opening.specs.Opening.{begins}
use Rattle.modes.specs.Modes.{open_by, begins_by, start_by}
use Rattle.streams.specs.declared.Mode.{Mode}
use Rattle.streams.specs.declared.Mode.TheVariants.{Plain, Atlas}
use Rattle.streams.specs.declared.State.TheVariants.{Fid, Ms, Mwd, Dad, Uv, Array, AtlasDad, AtlasUv}
use Rattle.reader.specs.Columns.{row_of, Held, columns_with}
use Rattle.times.specs.Times.{scan_time, scan_minutes, stores, Carries, Stamped, Timed, Agrees, All}
use Rattle.reader.specs.declared.Row.{Row}
use Rattle.times.proofs.Told.{Tells, tells}
use Rattle.times.proofs.Widths.{rows}

-- ---- one record

-- what is read of a state's next record, by what its fields tell
told_of : (st : State) (last : Bool) (s : List ℕ) → Gets (λ x. (t : Told) × (Tells st (scan_time st s) (scan_minutes st s) t × (x ≡ stepped (sum_of st) t))) (read last (rule st) s)
told_of st last s = rw (read_map last (stepped (sum_of st)) (fields st) s) (go (read last (fields st) s) (leads last (tells st s)))
  where
    go : (x : Read Told) → Gets (Tells st (scan_time st s) (scan_minutes st s)) x → Gets (λ x. (t : Told) × (Tells st (scan_time st s) (scan_minutes st s) t × (x ≡ stepped (sum_of st) t))) (map_read (stepped (sum_of st)) x)
    go (got t n) p = (t, (p, refl))
    go (stops z) p = tt

abbrev Next : State → List ℕ → Item State Record → Type 0
Next st s x = Stamped st s x × (Agrees st → Timed x.shows × Agrees x.after)

next_of : (st : State) (last : Bool) (s : List ℕ) → Gets (Next st s) (read last (rule st) s)
next_of st last s = go (read last (rule st) s) (told_of st last s)
  where
    go : (x : Read (Item State Record)) → Gets (λ x. (t : Told) × (Tells st (scan_time st s) (scan_minutes st s) t × (x ≡ stepped (sum_of st) t))) x → Gets (Next st s) x
    go (stops z) p = tt
    go (got x n) p =
        let q = p.1.0 in
        rw p.1.1 (record { carries = q.carries _; shows = q.shows _; holds = q.holds _; kind = q.kind _ }, λ a. (q.timed a _, q.agrees a _))

pub stamped : (st : State) (last : Bool) (s : List ℕ) (x : Item State Record) (n : ℕ) → read last (rule st) s ≡ got x n → Stamped st s x
stamped st last s x n e = (subst (Gets (Next st s)) e (next_of st last s)).0

pub keeps : (st : State) (last : Bool) (s : List ℕ) (x : Item State Record) (n : ℕ) → read last (rule st) s ≡ got x n → Agrees st → Timed x.shows × Agrees x.after
keeps st last s x n e = (subst (Gets (Next st s)) e (next_of st last s)).1

-- ---- readings

pub record Agreeing (x : Reading State Record) : Type 0 where
  pub timed : All Timed x.records
  pub agrees : Agrees x.state

pub reads : (last : Bool) (n : ℕ) (st : State) (s : List ℕ) → Agrees st → Agreeing (read_up_to rule last n st s)
unfolding read_up_to
reads last zero st s a = record { timed = tt; agrees = a }
reads last (suc n) st s a = go (λ st bs. reads last n st bs) (read last (rule st) s) (next_of st last s)
  where
    go : ((st : State) (bs : List ℕ) → Agrees st → Agreeing (read_up_to rule last n st bs)) → (x : Read (Item State Record)) → Gets (Next st s) x → Agreeing (go_on st s (read_up_to rule last n) x)
    go onward (stops z) p = record { timed = tt; agrees = a }
    go onward (got x k) p =
        let q = p.1 a in
        let r = onward x.after (drop k s) q.1 in
        record { timed = (q.0, r.timed); agrees = r.agrees }

-- ---- calls

one_call : (c : Call) (st : State) (s : List ℕ) → Agrees st → Agreeing (call rule c st s)
one_call next st s a = go (read false (rule st) s) (next_of st false s)
  where
    go : (x : Read (Item State Record)) → Gets (Next st s) x → Agreeing (one_record st x)
    go (stops z) p = record { timed = tt; agrees = a }
    go (got x k) p = let q = p.1 a in record { timed = (q.0, tt); agrees = q.1 }
one_call (fill n) st s a = reads false n st s a
one_call fill_unequal st s a = record { timed = tt; agrees = a }

all_append : (P : Record → Type 0) (rs qs : List Record) → All P rs → All P qs → All P (rs ++ qs)
all_append P [] qs p q = q
all_append P (r ∷ rs) qs p q = (p.0, all_append P rs qs p.1 q)

all_calls : (cs : List Call) (st : State) (s : List ℕ) → Agrees st → All Timed (all_records rule cs st s)
unfolding all_records
all_calls [] st s a = tt
all_calls (c ∷ cs) st s a =
    let x = call rule c st s in
    let p = one_call c st s a in
    all_append Timed x.records (all_records rule cs x.state (drop x.consumed s)) p.timed (all_calls cs x.state (drop x.consumed s) p.agrees)

-- ---- Open

zero_minutes : double 0 ≡ minutes (double 0)
unfolding div of_int
zero_minutes = refl

abbrev AtOpen : State → Type 0
AtOpen st = (stored_of st ≡ 0) × Agrees st

by_kind : (b : Bool) (st other : State) → AtOpen st → AtOpen other → AtOpen (cond b st other)
by_kind true st other p q = p
by_kind false st other p q = q

plainly_begun : (kind : ℕ) (x : Header) → AtOpen (begins kind x)
unfolding begins
plainly_begun kind x =
    by_kind (eqb kind 1) _ _ (refl, tt)
    (by_kind (eqb kind 2) _ _ (refl, zero_minutes)
    (by_kind (eqb kind 3) _ _ (refl, tt)
    (by_kind (eqb kind 4) _ _ (refl, refl)
    (by_kind (eqb kind 5) _ _ (refl, zero_minutes)
    (refl, tt)))))

atlas_open : (st : State) → AtOpen st → AtOpen (atlas_of st)
atlas_open (Fid st) a = a
atlas_open (Ms st) a = a
atlas_open (Mwd st) a = a
atlas_open (Dad st) a = a
atlas_open (Uv st) a = a
atlas_open (Array st) a = a
atlas_open (AtlasDad st) a = a
atlas_open (AtlasUv st) a = a

pub begun : (mode : Mode) (kind : ℕ) (x : Header) → AtOpen (begins_by mode kind x)
begun Plain kind x = plainly_begun kind x
begun Atlas kind x = atlas_open (begins kind x) (plainly_begun kind x)

pub calls : (mode : Mode) (kind : ℕ) (cs : List Call) (F : List ℕ) → All Timed (by_calls rule (start_by mode kind) cs F).records
unfolding called
calls mode kind cs F = rw (read_map false (begins_by mode kind) (open_by mode kind) F) (go (read false (open_by mode kind) F))
  where
    go : (x : Read Header) → All Timed (opening F (called rule cs) (map_read (begins_by mode kind) x)).records
    go (stops z) = tt
    go (got x n) = all_calls cs (begins_by mode kind x) (drop n F) (begun mode kind x).1

-- ---- kinds that store no time

abbrev Bare : Record → Type 0
Bare r = Carries false r 0

bare_carries : (b : Bool) (r : Record) (ms : ℕ) → b ≡ false → Carries b r ms → Bare r
bare_carries b r ms e c = go r (subst (λ b. Carries b r ms) e c)
  where
    go : (r : Record) → Carries false r ms → Bare r
    go (Trace t u s) p = tt
    go (Mass t m u s min left) p = p
    go (Spectrum t w u s min left) p = p

bares : (last : Bool) (n : ℕ) (st : State) (s : List ℕ) → stores st ≡ false → All Bare (read_up_to rule last n st s).records
unfolding read_up_to
bares last zero st s e = tt
bares last (suc n) st s e = go (λ st bs. bares last n st bs) (read last (rule st) s) (next_of st last s)
  where
    go : ((st : State) (bs : List ℕ) → stores st ≡ false → All Bare (read_up_to rule last n st bs).records) → (x : Read (Item State Record)) → Gets (Next st s) x → All Bare (go_on st s (read_up_to rule last n) x).records
    go onward (stops z) p = tt
    go onward (got x k) p = (bare_carries (stores st) x.shows _ e p.0.carries, onward x.after (drop k s) (p.0.kind ∙ e))

-- of either column
zero_column : (f : Row → ℕ) → ((r : Record) → Bare r → f (row_of r) ≡ 0) → (rs : List Record) → All Bare rs → map (λ r. f (row_of r)) rs ≡ replicate (length rs) 0
zero_column f h [] p = refl
zero_column f h (r ∷ rs) p = ap₂ (λ x l. x ∷ l) (h r p.0) (zero_column f h rs p.1)

pub zeros : (st : State) → stores st ≡ false → (last : Bool) (n : ℕ) (s : List ℕ) (old : Held) →
    let rs = (read_up_to rule last n st s).records in
    ((columns_with rs old).minutes ≡ replicate (length rs) 0 ++ drop (length rs) old.minutes) × ((columns_with rs old).leftover ≡ replicate (length rs) 0 ++ drop (length rs) old.leftover)
zeros st e last n s old =
    let rs = (read_up_to rule last n st s).records in
    let p = bares last n st s e in (
      ap (λ l. l ++ drop (length rs) old.minutes) (zero_column (λ r. r.minutes) (λ r c. (rows false r 0 c).0) rs p),
      ap (λ l. l ++ drop (length rs) old.leftover) (zero_column (λ r. r.leftover) (λ r c. (rows false r 0 c).1) rs p),
    )
