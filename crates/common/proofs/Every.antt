-- What holds of every outcome of a rule over bytes, and so of what it reads.
use mathlib.Core.Path.{◌≡◌, refl, subst}
use mathlib.Core.Bool.{Bool, true, false, cond}
use mathlib.Core.List.{List}
use Prim.Native.Nat.{ℕ, ◌-◌, ◌*◌, ◌^◌, ◌≤◌, ◌<◌}
use native.Mathlib.Omega.{arith}
use lib.IntN.{nat_abs}
use lib.ListN.{length, take, drop, length-take}
use Rattle.rules.specs.Rule.{Rule, gives, field, refuses, ends, Read, got, stops, taking, read, ◌>>=◌, bytes_as, may_end, map_rule}
use Rattle.rules.proofs.Laws.{by_fit, read_fits, read_past}
use Rattle.common.specs.Bytes.{signed, AreBytes}
use Rattle.common.proofs.Sizes.{bytes_take, bytes_drop, Order, signed_within}

pub data Every {A : Type 0} (P : A → Type 0) : Rule A → Type 0 where
  at_gives : {a : A} → P a → Every P (gives a)
  at_field : {may : Bool} {w : ℕ} {k : List ℕ → Rule A} → ((bs : List ℕ) → AreBytes bs → length bs ≡ w → Every P (k bs)) → Every P (field may w k)
  at_refuses : {c : ℕ} → Every P (refuses c)
  at_ends : Every P ends

-- ---- what is read

abbrev pub Gets : {A : Type 0} → (A → Type 0) → Read A → Type 0
Gets P (got a n) = P a
Gets P (stops z) = Unit

gets_taking : {A : Type 0} (P : A → Type 0) (w : ℕ) (x : Read A) → Gets P x → Gets P (taking w x)
gets_taking P w (got a n) h = h
gets_taking P w (stops z) h = tt

-- of the outcome that a rule comes to on these bytes, as far as they go
pub data Leads {A : Type 0} (P : A → Type 0) : Rule A → List ℕ → Type 0 where
  to_gives : {a : A} {bs : List ℕ} → P a → Leads P (gives a) bs
  to_field : {may : Bool} {w : ℕ} {k : List ℕ → Rule A} {bs : List ℕ} → (w ≤ length bs → Leads P (k (take w bs)) (drop w bs)) → Leads P (field may w k) bs
  to_refuses : {c : ℕ} {bs : List ℕ} → Leads P (refuses c) bs
  to_ends : {bs : List ℕ} → Leads P ends bs

pub leads : {A : Type 0} {P : A → Type 0} {r : Rule A} {bs : List ℕ} (last : Bool) → Leads P r bs → Gets P (read last r bs)
leads last (to_gives p) = unfold read in p
leads last to_refuses = unfold read in tt
leads last to_ends = unfold read in tt
leads {P = P} {bs = bs} last (to_field {may = may} {w = w} {k = k} h) =
    by_fit w bs
    (λ l. rw (read_fits last may w k bs l) (gets_taking P w (read last (k (take w bs)) (drop w bs)) (leads last (h l))))
    (λ l. rw (read_past last may w k bs l) tt)

every_leads : {A : Type 0} {P : A → Type 0} {r : Rule A} → Every P r → (bs : List ℕ) → AreBytes bs → Leads P r bs
every_leads (at_gives p) bs h = to_gives p
every_leads at_refuses bs h = to_refuses
every_leads at_ends bs h = to_ends
every_leads {P = P} (at_field {w = w} {k = k} e) bs h =
    let onward : w ≤ length bs → Leads P (k (take w bs)) (drop w bs) = λ l. every_leads (e (take w bs) (bytes_take w bs h) (simp length-take (omega arith))) (drop w bs) (bytes_drop w bs h) in
    to_field onward

pub gets : {A : Type 0} {P : A → Type 0} {r : Rule A} → Every P r → (last : Bool) (bs : List ℕ) → AreBytes bs → Gets P (read last r bs)
gets e last bs h = leads last (every_leads e bs h)

-- ---- rules made of rules

pub every_then : {A B : Type 0} {Q : A → Type 0} {P : B → Type 0} {r : Rule A} {f : A → Rule B} → Every Q r → ((a : A) → Q a → Every P (f a)) → Every P (r >>= f)
unfolding ◌>>=◌
every_then (at_gives {a = a} q) h = h a q
every_then (at_field e) h = at_field λ bs b l. every_then (e bs b l) h
every_then at_refuses h = at_refuses
every_then at_ends h = at_ends

pub every_cond : {A : Type 0} {P : A → Type 0} (b : Bool) {x y : Rule A} → (b ≡ true → Every P x) → (b ≡ false → Every P y) → Every P (cond b x y)
every_cond true f g = f refl
every_cond false f g = g refl

pub every_may_end : {A : Type 0} {P : A → Type 0} {r : Rule A} → Every P r → Every P (may_end r)
every_may_end (at_gives p) = at_gives p
every_may_end (at_field e) = at_field e
every_may_end at_refuses = at_refuses
every_may_end at_ends = at_ends

-- ---- any rule

pub any_outcome : {A : Type 0} (r : Rule A) → Every (λ _. Unit {0}) r
any_outcome (gives a) = at_gives tt
any_outcome (field may w k) = at_field λ bs _ _. any_outcome (k bs)
any_outcome (refuses c) = at_refuses
any_outcome ends = at_ends

-- ---- a field, whatever it says, or by how large a number it is

pub any : {A : Type 0} {w : ℕ} {g : List ℕ → A} → Every (λ _. Unit) (bytes_as w g)
any = at_field λ bs b l. at_gives tt

module _ {order : List ℕ → ℕ} (o : Order order) where
  pub unsigned : (w : ℕ) → Every (λ n. n < 256 ^ w) (bytes_as w order)
  unsigned w = at_field λ bs b l. at_gives (subst (λ n. order bs < 256 ^ n) l (o bs b))

  pub twos_complement : (w : ℕ) → Every (λ v. nat_abs v ≤ 2 ^ (8 * w - 1)) (bytes_as w (signed order))
  twos_complement w = at_field λ bs b l. at_gives (subst (λ n. nat_abs (signed order bs) ≤ 2 ^ (8 * n - 1)) l (signed_within o bs b))

-- ---- by the bytes that are there

pub leads_number : {A B : Type 0} {P : B → Type 0} (w : ℕ) (g : List ℕ → A) (f : A → Rule B) (bs : List ℕ) → Leads P (f (g (take w bs))) (drop w bs) → Leads P (bytes_as w g >>= f) bs
unfolding ◌>>=◌
leads_number w g f bs h = to_field λ _. h

pub leads_cond : {A : Type 0} {P : A → Type 0} {bs : List ℕ} (b : Bool) {x y : Rule A} → (b ≡ true → Leads P x bs) → (b ≡ false → Leads P y bs) → Leads P (cond b x y) bs
leads_cond true f g = f refl
leads_cond false f g = g refl

-- whatever is read
pub leads_map : {A B : Type 0} {P : B → Type 0} (f : A → B) (r : Rule A) (bs : List ℕ) → ((a : A) → P (f a)) → Leads P (map_rule f r) bs
unfolding ◌>>=◌
leads_map f (gives a) bs h = to_gives (h a)
leads_map f (field may w k) bs h = to_field λ _. leads_map f (k (take w bs)) (drop w bs) h
leads_map f (refuses c) bs h = to_refuses
leads_map f ends bs h = to_ends

-- what is read of another rule, and what is made of it
pub leads_made : {A B : Type 0} {Q : A → Type 0} {P : B → Type 0} (f : A → B) {r : Rule A} {bs : List ℕ} → Leads Q r bs → ((a : A) → Q a → P (f a)) → Leads P (map_rule f r) bs
unfolding ◌>>=◌
leads_made f (to_gives {a = a} q) h = to_gives (h a q)
leads_made f (to_field e) h = to_field λ l. leads_made f (e l) h
leads_made f to_refuses h = to_refuses
leads_made f to_ends h = to_ends

pub leads_may_end : {A : Type 0} {P : A → Type 0} {r : Rule A} {bs : List ℕ} → Leads P r bs → Leads P (may_end r) bs
leads_may_end (to_gives p) = to_gives p
leads_may_end (to_field h) = to_field h
leads_may_end to_refuses = to_refuses
leads_may_end to_ends = to_ends
