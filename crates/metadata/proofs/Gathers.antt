-- The eight texts, gathered one after the other.
use mathlib.Core.Path.{◌≡◌, refl, sym, ap, ◌∙◌}
use mathlib.Core.List.{List, [], ◌∷◌, ◌++◌, append-nil, append_assoc, map-append}
use Prim.Native.Nat.{ℕ, ◌+◌, ◌≤◌, ◌<◌}
use native.Mathlib.Numerals.{add-one}
use native.Mathlib.Omega.{arith}
use lib.ListN.{length, take, drop, set, replicate, length-set}
use lib.Seq.{drop-cons, take-suc-set, take_all}
use Rattle.rules.specs.Rule.{gives, refuses, ◌>>=◌}
use Rattle.layouts.specs.Table.{texts, field_of}
use Rattle.pascal.specs.Texts.{Place, text_rule}
use Rattle.metadata.specs.Metadata.{starts_of, lengths_of, texts_rule}

module _ (e : ℕ) (h : List ℕ) where
  -- the texts before k are found: by the rest of the rule the whole is known
  pub record Gathered (k : ℕ) (starts lengths : List ℕ) : Type 0 where
    pub places : List Place
    pub on : (ps : List Place) → texts_rule e h (drop k texts) ≡ gives ps → texts_rule e h texts ≡ gives (places ++ ps)
    pub off : (c : ℕ) → texts_rule e h (drop k texts) ≡ refuses c → texts_rule e h texts ≡ refuses c
    pub first : take k starts ≡ starts_of places
    pub second : take k lengths ≡ lengths_of places
    pub eight : length starts ≡ 8
    pub as_many : length lengths ≡ 8
    pub room : k ≤ 8

  pub starts : Gathered 0 (replicate 8 0) (replicate 8 0)
  starts = record { places = []; on = λ ps q. q; off = λ c q. q; first = refl; second = refl; eight = refl; as_many = refl; room = omega arith }

  module _ (k : ℕ) (l : k < 8) where
    -- the rule from text k on
    next : texts_rule e h (drop k texts) ≡ (text_rule (field_of k e) h >>= λ p. texts_rule e h (drop (k + 1) texts) >>= λ ps. gives (p ∷ ps))
    unfolding texts_rule field_of texts
    next = rw (add-one, drop-cons texts k [] l) refl

    pub refused : (a b : List ℕ) → Gathered k a b → (c : ℕ) → text_rule (field_of k e) h ≡ refuses c → texts_rule e h texts ≡ refuses c
    unfolding ◌>>=◌
    refused a b g c q = g.off c (next ∙ rw q refl)

    pub found : (a b : List ℕ) → Gathered k a b → (p : Place) → text_rule (field_of k e) h ≡ gives p → Gathered (k + 1) (set a k p.start) (set b k p.bytes)
    unfolding ◌>>=◌
    found a b g p q = record {
      places = g.places ++ (p ∷ []);
      on = λ ps r. g.on (p ∷ ps) (next ∙ rw (q, r) refl) ∙ ap gives (sym (append_assoc g.places (p ∷ []) ps));
      off = λ c r. g.off c (next ∙ rw (q, r) refl);
      first = rw (add-one, take-suc-set a k p.start (omega (arith, g.eight)), map-append) (ap (λ l. l ++ (p.start ∷ [])) g.first);
      second = rw (add-one, take-suc-set b k p.bytes (omega (arith, g.as_many)), map-append) (ap (λ l. l ++ (p.bytes ∷ [])) g.second);
      eight = length-set a k p.start ∙ g.eight;
      as_many = length-set b k p.bytes ∙ g.as_many;
      room = omega arith;
    }

  -- all texts are found: two columns hold their starts and lengths
  pub record AllFound (starts lengths : List ℕ) : Type 0 where
    pub places : List Place
    pub given : texts_rule e h texts ≡ gives places
    pub first : starts ≡ starts_of places
    pub second : lengths ≡ lengths_of places

  pub all : (k : ℕ) → 8 ≤ k → (a b : List ℕ) → Gathered k a b → AllFound a b
  unfolding texts_rule texts
  all k l a b g =
      let end : k ≡ 8 = omega (arith, g.room) in
      record {
        places = g.places;
        given = g.on [] (ap (λ i. texts_rule e h (drop i texts)) end) ∙ ap gives (append-nil g.places);
        first = sym (take_all k a (omega (arith, g.eight))) ∙ g.first;
        second = sym (take_all k b (omega (arith, g.as_many))) ∙ g.second;
      }
