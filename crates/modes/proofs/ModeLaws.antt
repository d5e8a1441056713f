-- What Open by the atlas reading answers, by the kind and by what Open answers; and a header that was opened by either reading.
use mathlib.Core.Path.{◌≡◌, refl, sym, ap, ◌∙◌}
use mathlib.Core.Bool.{Bool, true, false}
use mathlib.Core.List.{List}
use Prim.Native.Nat.{ℕ}
use Rattle.rules.specs.Rule.{refuses, Read, got, stops, read, map_read, map_rule, ◌>>=◌}
use Rattle.rules.proofs.Laws.{read_map}
use Rattle.error.specs.Number.{number_of}
use Rattle.error.specs.declared.Refusal.{Refusal}
use Rattle.agilent.specs.Header.{known}
use Rattle.metadata.specs.Metadata.{Header, open_rule}
use Rattle.streams.specs.Next.{atlas_of}
use Rattle.streams.specs.declared.Mode.{Mode}
use Rattle.streams.specs.declared.Mode.TheVariants.{Plain, Atlas}
use Rattle.opening.specs.Opening.{begins, start_read, says_read, OpensRun}
use Rattle.std.specs.Prelude.{Result, Ok, Err}
use Rattle.error.specs.declared.Stopped.{Stopped}
use Rattle.error.specs.declared.Stopped.TheVariants.{Refused}
use Rattle.opening.specs.declared.OpenedRun.{OpenedRun}
use Rattle.opening.proofs.HeaderOpens.{state_by_lem}
use Rattle.modes.specs.Modes.{has_atlas, open_by, begins_by, OpensBy}

module _ (kind : ℕ) where
  pub no_kind : known kind ≡ false → open_by Atlas kind ≡ refuses 1
  unfolding ◌>>=◌
  no_kind k = rw k refl

  pub no_atlas : known kind ≡ true → has_atlas kind ≡ false → open_by Atlas kind ≡ refuses 18
  unfolding ◌>>=◌
  no_atlas k a = rw (k, a) refl

  pub as_plain : known kind ≡ true → has_atlas kind ≡ true → open_by Atlas kind ≡ open_rule kind
  unfolding ◌>>=◌
  as_plain k a = rw (k, a) refl

  module _ (last : Bool) (s : List ℕ) where
    -- a kind that is refused
    pub refused_by : (c : Refusal) → open_by Atlas kind ≡ refuses (number_of c) → OpensBy Atlas kind last s (Err (Refused c))
    unfolding read ◌>>=◌
    refused_by c e = record { state = rw e refl; says = rw e refl }

    -- the state, from one reading to the other
    abbrev atlas_opening : Result OpenedRun Stopped → Result OpenedRun Stopped
    atlas_opening (Ok o) = Ok (record { state = atlas_of o.state; size = o.size; metadata = o.metadata })
    atlas_opening (Err z) = Err z

    same_says : (y : Result OpenedRun Stopped) → says_read (atlas_opening y) ≡ says_read y
    same_says (Ok o) = refl
    same_says (Err z) = refl

    same_state : (y : Result OpenedRun Stopped) → start_read (atlas_opening y) ≡ map_read atlas_of (start_read y)
    same_state (Ok o) = refl
    same_state (Err z) = refl

    pub opened_by_lem : (y : Result OpenedRun Stopped) → known kind ≡ true → has_atlas kind ≡ true → OpensRun kind last s y → OpensBy Atlas kind last s (atlas_opening y)
    opened_by_lem y k a p =
        let plain = as_plain k a in
        record {
          state =
              same_state y ∙ ap (map_read atlas_of) (state_by_lem p)
              ∙ go (read last (open_rule kind) s) ∙ sym (read_map last (begins_by Atlas kind) (open_rule kind) s) ∙ ap (λ x. read last (map_rule (begins_by Atlas kind) x) s) (sym plain);
          says = same_says y ∙ p.says ∙ ap (λ x. read last (map_rule (λ h. h.says) x) s) (sym plain);
        }
      where
        go : (x : Read Header) → map_read atlas_of (map_read (begins kind) x) ≡ map_read (begins_by Atlas kind) x
        go (got h n) = refl
        go (stops z) = refl

-- ---- either reading

-- under the plain reading it is Open's own contract
pub plainly : {kind : ℕ} {last : Bool} {s : List ℕ} {r : Result OpenedRun Stopped} → OpensRun kind last s r → OpensBy Plain kind last s r
plainly o = record { state = o.state; says = o.says }

module _ {mode : Mode} {kind : ℕ} {last : Bool} {s : List ℕ} {r : Result OpenedRun Stopped} (o : OpensBy mode kind last s r) where
  pub state_of_lem : start_read r ≡ map_read (begins_by mode kind) (read last (open_by mode kind) s)
  state_of_lem = o.state ∙ read_map last (begins_by mode kind) (open_by mode kind) s

  pub says_of : says_read r ≡ map_read (λ h. h.says) (read last (open_by mode kind) s)
  says_of = o.says ∙ read_map last (λ h. h.says) (open_by mode kind) s
