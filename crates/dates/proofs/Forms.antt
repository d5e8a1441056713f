-- A text reads as an instant exactly when it is written in one of the forms, which differ in length.
use mathlib.Core.Path.{◌≡◌, refl, sym, ap, ◌∙◌, subst}
use mathlib.Core.Bool.{true}
use mathlib.Core.List.{List, [], ◌∷◌}
use mathlib.Core.Logic.{◌⊎◌, inl, inr, ⊎_elim}
use Prim.Native.Nat.{ℕ, suc, ◌+◌, ◌≤◌, ◌<◌}
use native.Mathlib.Omega.{arith}
use lib.ListN.{length, length-append}
use borrow.Author.Tests.{le-leb, lt-leb}
use borrow.Table.Steps.{cases as by}
use Rattle.calendar.specs.Calendar.{leap, days_in, is_day, before_month, of_years, day_number, instant_of, InRange}
use Rattle.calendar.proofs.Onward.{calendar}
use Rattle.items.specs.declared.Item.{Item}
use Rattle.items.specs.declared.Item.TheVariants.{Sign, Two, OneOrTwo, MonthName, HalfDay, PlusMinus}
use Rattle.dates.specs.declared.Form.{Form}
use Rattle.dates.specs.declared.Form.TheVariants.{First, Second, Third, Fourth}
use Rattle.std.proofs.Common.{Option, Some, None}
use Rattle.dates.specs.Dates.{items_of, moment_of, Values, values_of, date_from, date_by, or_else, date_of, form_of}
use Rattle.dates.specs.Grammar.{Written, none as end, next, Dated, FourForms}
use Rattle.items.specs.Items.{stands_at, month_named}
use Rattle.items.specs.Writing.{AnyCase, none as nil, small, capital, Writes, sign, two, one, or_two, month, am, pm, plus, minus}
use Rattle.items.proofs.Letters.{month_letters}
use Rattle.dates.proofs.Sound.{written}
use Rattle.dates.proofs.Complete.{spaced, complete}
use Rattle.dates.proofs.Ranges.{written_ranges, in_span}

-- ---- lengths

abbrev least : Item → ℕ
least (Sign c) = 1
least (Two l m) = 2
least (OneOrTwo l m) = 1
least MonthName = 3
least HalfDay = 2
least PlusMinus = 1

abbrev most : Item → ℕ
most (Sign c) = 1
most (Two l m) = 2
most (OneOrTwo l m) = 2
most MonthName = 3
most HalfDay = 2
most PlusMinus = 1

abbrev shortest : List Item → ℕ
shortest [] = 0
shortest (i ∷ is) = least i + shortest is

abbrev longest : List Item → ℕ
longest [] = 0
longest (i ∷ is) = most i + longest is

cased_length : {s name : List ℕ} → AnyCase s name → length s ≡ length name
cased_length nil = refl
cased_length (small r) = ap suc (cased_length r)
cased_length (capital r) = ap suc (cased_length r)

item_length : {i : Item} {v s : List ℕ} → Writes i v s → (least i ≤ length s) × (length s ≤ most i)
item_length sign = (omega arith, omega arith)
item_length (two p q a b) = (omega arith, omega arith)
item_length (one p a b) = (omega arith, omega arith)
item_length (or_two p q a b) = (omega arith, omega arith)
item_length (month {m} {s} a b r) = let e = (month_letters m s [] a b r).1 in (omega (arith, e), omega (arith, e))
item_length (am r) = (omega (arith, cased_length r), omega (arith, cased_length r))
item_length (pm r) = (omega (arith, cased_length r), omega (arith, cased_length r))
item_length plus = (omega arith, omega arith)
item_length minus = (omega arith, omega arith)

text_length : {is : List Item} {vs t : List ℕ} → Written is vs t → (shortest is ≤ length t) × (length t ≤ longest is)
text_length end = (omega arith, omega arith)
text_length (next {s = s} {t} w r) =
    let p = item_length w in
    let q = text_length r in
    let e = length-append s t in
    (omega (arith, p.0, q.0, e), omega (arith, p.1, q.1, e))

by_length : (f : Form) (n : ℕ) → (shortest (items_of f) ≤ n) × (n ≤ longest (items_of f)) → f ≡ form_of n
by_length First n p = rw (lt-leb n 18 (omega (arith, p.0)), le-leb n 19 p.1)
by_length Second n p = rw (le-leb n 18 p.1)
by_length Third n p = rw (lt-leb n 18 (omega (arith, p.0)), lt-leb n 19 (omega (arith, p.0)), lt-leb n 20 (omega (arith, p.0)))
by_length Fourth n p = rw (lt-leb n 18 (omega (arith, p.0)), lt-leb n 19 (omega (arith, p.0)), le-leb n 20 p.1)

-- ---- a form

all_spaced : (f : Form) → spaced (items_of f) ≡ true
all_spaced First = refl
all_spaced Second = refl
all_spaced Third = refl
all_spaced Fourth = refl

values_written : (f : Form) {vs t : List ℕ} → Written (items_of f) vs t → values_of (items_of f) t ≡ Some vs
values_written f r = complete r (all_spaced f)

one_way : (f g : Form) (t vs us : List ℕ) → Written (items_of f) vs t → Written (items_of g) us t → (f ≡ g) × (vs ≡ us)
one_way f g t vs us r s =
    let e = by_length f (length t) (text_length r) ∙ sym (by_length g (length t) (text_length s)) in
    let q : values_of (items_of g) t ≡ Some vs = subst (λ (x : Form). values_of (items_of x) t ≡ Some vs) e (values_written f r) in
    let p = values_written g s in
    (e, (cc))

-- ---- the date

dated_by : (f : Form) (t : List ℕ) (i : ℕ) → date_by f t ≡ Some i → Dated t i
dated_by f t i e = from (values_of (items_of f) t) refl e
  where
    from : (x : Values) → values_of (items_of f) t ≡ x → date_from f x ≡ Some i → Dated t i
    from None p q = cc
    from (Some vs) p q =
        let x = moment_of f vs in
        by (is_day x.year x.month x.day)
        (λ d. let z : Some (instant_of x) ≡ Some i = simp d at q in record { form = f; values = vs; written = written (items_of f) t vs p; day = d; instant = (cc) })
        (λ d. let z : None ≡ Some i = simp d at q in cc)

either : (a b : Option ℕ) (i : ℕ) → or_else a b ≡ Some i → (a ≡ Some i) ⊎ (b ≡ Some i)
either (Some j) b i e = inl e
either None b i e = inr e

reads_dated : (t : List ℕ) (i : ℕ) → date_of t ≡ Some i → Dated t i
unfolding date_of
reads_dated t i e =
    ⊎_elim (dated_by First t i) (λ e₁.
    ⊎_elim (dated_by Second t i) (λ e₂.
    ⊎_elim (dated_by Third t i) (dated_by Fourth t i)
    (either (date_by Third t) (date_by Fourth t) i e₂))
    (either (date_by Second t) _ i e₁))
    (either (date_by First t) _ i e)

by_form : {t : List ℕ} {i : ℕ} (x : Dated t i) → date_by x.form t ≡ Some i
by_form x = ap (date_from x.form) (values_written x.form x.written) ∙ rw x.day (ap Some (sym x.instant))

-- by a form that the text is not of there is no date
same_or_none : {t : List ℕ} {i : ℕ} → Dated t i → (g : Form) → (date_by g t ≡ Some i) ⊎ (date_by g t ≡ None)
same_or_none {t} {i} x g = from (values_of (items_of g) t) refl
  where
    from : (y : Values) → values_of (items_of g) t ≡ y → (date_from g y ≡ Some i) ⊎ (date_from g y ≡ None)
    from None p = inr refl
    from (Some us) p =
        let e = (one_way x.form g t x.values us x.written (written (items_of g) t us p)).0 in
        inl (ap (date_from g) (sym p) ∙ subst (λ (f : Form). date_by f t ≡ Some i) e (by_form x))

found : {a : Option ℕ} (b : Option ℕ) {i : ℕ} → a ≡ Some i → or_else a b ≡ Some i
found b e = rw e

behind : {a b : Option ℕ} {i : ℕ} → (a ≡ Some i) ⊎ (a ≡ None) → b ≡ Some i → or_else a b ≡ Some i
behind {b = b} h e = ⊎_elim (λ p. found b p) (λ p. rw p e) h

dated_reads : (t : List ℕ) (i : ℕ) → Dated t i → date_of t ≡ Some i
unfolding date_of
dated_reads t i x = of x.form (by_form x)
  where
    at : (g : Form) → (date_by g t ≡ Some i) ⊎ (date_by g t ≡ None)
    at g = same_or_none x g

    of : (f : Form) → date_by f t ≡ Some i → or_else (date_by First t) (or_else (date_by Second t) (or_else (date_by Third t) (date_by Fourth t))) ≡ Some i
    of First e = found _ e
    of Second e = behind (at First) (found _ e)
    of Third e = behind (at First) (behind (at Second) (found _ e))
    of Fourth e = behind (at First) (behind (at Second) (behind (at Third) e))

or_none : (d : Option ℕ) → d ≡ or_else d None
or_none (Some i) = refl
or_none None = refl

-- so the form that its length allows says all of a text
pub by_one_form : (t : List ℕ) → date_by (form_of (length t)) t ≡ date_of t
unfolding date_of
by_one_form t = of (form_of (length t)) refl
  where
    other : (g f : Form) → form_of (length t) ≡ f → (g ≡ f → ⊥) → date_by g t ≡ None
    other g f e h = from (values_of (items_of g) t) refl
      where
        from : (x : Values) → values_of (items_of g) t ≡ x → date_from g x ≡ None
        from None p = refl
        from (Some vs) p = absurd (h (by_length g (length t) (text_length (written (items_of g) t vs p)) ∙ e))

    only_first : (a : Option ℕ) {b c d : Option ℕ} → b ≡ None → c ≡ None → d ≡ None → a ≡ or_else a (or_else b (or_else c d))
    only_first a p q r = rw (p, q, r) (or_none a)

    only_second : {a : Option ℕ} (b : Option ℕ) {c d : Option ℕ} → a ≡ None → c ≡ None → d ≡ None → b ≡ or_else a (or_else b (or_else c d))
    only_second b p q r = rw (p, q, r) (or_none b)

    only_third : {a b : Option ℕ} (c : Option ℕ) {d : Option ℕ} → a ≡ None → b ≡ None → d ≡ None → c ≡ or_else a (or_else b (or_else c d))
    only_third c p q r = rw (p, q, r) (or_none c)

    only_fourth : {a b c : Option ℕ} (d : Option ℕ) → a ≡ None → b ≡ None → c ≡ None → d ≡ or_else a (or_else b (or_else c d))
    only_fourth d p q r = rw (p, q, r)

    of : (f : Form) → form_of (length t) ≡ f → date_by f t ≡ or_else (date_by First t) (or_else (date_by Second t) (or_else (date_by Third t) (date_by Fourth t)))
    of First e = only_first (date_by First t) (other Second First e (λ q. cc)) (other Third First e (λ q. cc)) (other Fourth First e (λ q. cc))
    of Second e = only_second (date_by Second t) (other First Second e (λ q. cc)) (other Third Second e (λ q. cc)) (other Fourth Second e (λ q. cc))
    of Third e = only_third (date_by Third t) (other First Third e (λ q. cc)) (other Second Third e (λ q. cc)) (other Fourth Third e (λ q. cc))
    of Fourth e = only_fourth (date_by Fourth t) (other First Fourth e (λ q. cc)) (other Second Fourth e (λ q. cc)) (other Third Fourth e (λ q. cc))

-- no form is longer than 24 characters
pub long_text : (t : List ℕ) → 24 < length t → date_of t ≡ None
long_text t h = of (date_of t) refl
  where
    most_form : (f : Form) → longest (items_of f) ≤ 24
    most_form First = omega arith
    most_form Second = omega arith
    most_form Third = omega arith
    most_form Fourth = omega arith

    of : (d : Option ℕ) → date_of t ≡ d → d ≡ None
    of (Some i) e = let x = reads_dated t i e in absurd (omega (arith, (text_length x.written).1, most_form x.form))
    of None e = refl

last_instant : (t : List ℕ) (i : ℕ) → date_of t ≡ Some i → i ≤ 3155759999
last_instant t i e =
    let x = reads_dated t i e in
    let s = in_span x.form x.values (written_ranges x.written) in
    let r : InRange (moment_of x.form x.values) = record { year = s.year; month = s.month; day = x.day; hour = s.hour; minute = s.minute; second = s.second } in
    omega (arith, x.instant, calendar.latest (moment_of x.form x.values) r)

pub forms : FourForms
unfolding date_of moment_of values_of stands_at month_named is_day days_in instant_of day_number of_years before_month leap
forms =
    record {
      instants = reads_dated;
      dated = dated_reads;
      one = one_way;
      last = last_instant;
      looked = refl;
    }
