-- What is opened by the atlas reading, by the kind.
use mathlib.Core.Path.{◌≡◌, refl, sym, ap, ◌∙◌}
use mathlib.Core.Logic.{◌⊎◌, inl, inr}
use mathlib.Core.Bool.{Bool, true, false, ◌&&◌}
use mathlib.Core.List.{List}
use Prim.Native.Nat.{ℕ, ◌≤◌}
use lib.Dec.{leb}
use borrow.Author.Tests.{leb-true}
use Rattle.rules.specs.Rule.{refuses, refused, Read, got, stops, read, map_read, map_rule, ◌>>=◌}
use Rattle.rules.proofs.Laws.{read_map}
use Rattle.metadata.specs.Metadata.{Header, open_rule}
use Rattle.streams.specs.Next.{atlas_of}
use Rattle.streams.specs.declared.Mode.TheVariants.{Atlas}
use Rattle.opening.specs.Opening.{begins, start_rule}
use Rattle.modes.specs.Modes.{open_by, begins_by, start_by}
use Rattle.modes.proofs.ModeLaws as laws

refuses_so : (kind c : ℕ) (last : Bool) (F : List ℕ) → open_by Atlas kind ≡ refuses c → read last (start_by Atlas kind) F ≡ stops (refused c)
unfolding read ◌>>=◌
refuses_so kind c last F e = rw e refl

pub no_kind : (kind : ℕ) (last : Bool) (F : List ℕ) → ¬ ((1 ≤ kind) × (kind ≤ 6)) → read last (start_by Atlas kind) F ≡ stops (refused 1)
no_kind kind last F h = refuses_so kind 1 last F (laws.no_kind kind (go (leb 1 kind) (leb kind 6) refl refl))
  where
    go : (a b : Bool) → leb 1 kind ≡ a → leb kind 6 ≡ b → (a && b) ≡ false
    go true true p q = absurd (h (leb-true 1 kind p, leb-true kind 6 q))
    go true false p q = refl
    go false b p q = refl

pub no_atlas : (kind : ℕ) (last : Bool) (F : List ℕ) → (kind ≡ 1) ⊎ ((kind ≡ 2) ⊎ ((kind ≡ 3) ⊎ (kind ≡ 6))) → read last (start_by Atlas kind) F ≡ stops (refused 18)
no_atlas kind last F (inl e) = rw e (refuses_so 1 18 last F (laws.no_atlas 1 refl refl))
no_atlas kind last F (inr (inl e)) = rw e (refuses_so 2 18 last F (laws.no_atlas 2 refl refl))
no_atlas kind last F (inr (inr (inl e))) = rw e (refuses_so 3 18 last F (laws.no_atlas 3 refl refl))
no_atlas kind last F (inr (inr (inr e))) = rw e (refuses_so 6 18 last F (laws.no_atlas 6 refl refl))

opens_so : (kind : ℕ) (last : Bool) (F : List ℕ) → open_by Atlas kind ≡ open_rule kind → read last (start_by Atlas kind) F ≡ map_read atlas_of (read last (start_rule kind) F)
opens_so kind last F e =
    ap (λ x. read last (map_rule (begins_by Atlas kind) x) F) e ∙ read_map last (begins_by Atlas kind) (open_rule kind) F ∙ go (read last (open_rule kind) F)
    ∙ ap (map_read atlas_of) (sym (read_map last (begins kind) (open_rule kind) F))
  where
    go : (x : Read Header) → map_read (begins_by Atlas kind) x ≡ map_read atlas_of (map_read (begins kind) x)
    go (got h n) = refl
    go (stops z) = refl

pub opened : (kind : ℕ) (last : Bool) (F : List ℕ) → (kind ≡ 4) ⊎ (kind ≡ 5) → read last (start_by Atlas kind) F ≡ map_read atlas_of (read last (start_rule kind) F)
opened kind last F (inl e) = rw e (opens_so 4 last F (laws.as_plain 4 refl refl))
opened kind last F (inr e) = rw e (opens_so 5 last F (laws.as_plain 5 refl refl))
