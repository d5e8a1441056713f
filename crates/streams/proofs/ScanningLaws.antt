-- Records that come in scans: what is answered, by whether the run is at its end and whether something is due of a scan.
use mathlib.Core.Path.{◌≡◌, refl, sym, ap, ◌∙◌}
use mathlib.Core.Bool.{Bool, true, false}
use mathlib.Core.List.{List}
use Prim.Native.Nat.{ℕ}
use borrow.Author.Tests.{eq-eqb, ne_eqb}
use Rattle.rules.specs.Rule.{Rule, ends, finished, stops, read, read_at}
use Rattle.rules.proofs.Places.{at_start}
use Rattle.streams.specs.Told.{Told}
use Rattle.streams.specs.Scanning.{Scanning, scanning}
use Rattle.streams.specs.declared.State.{State}
use Rattle.streams.proofs.Steps.{Answers, rule_reads}

module _ (st : State) (f : Scanning) (last : Bool) (s : List ℕ) where
  -- the answer is what a rule reads from the first byte on
  abbrev pub AnswersBy : Rule Told → Type 0
  AnswersBy r = Answers st (scanning f) last s (read_at last r 0 s)

  answers_by : (r : Rule Told) → scanning f ≡ r → AnswersBy r
  answers_by r e = rule_reads st (scanning f) last s (ap (λ q. read last q s) e ∙ sym (at_start last r s))

  pub scans_done : f.done ≡ true → Answers st (scanning f) last s (stops finished)
  unfolding scanning read
  scans_done d = answers_by ends (rw d refl)

  pub scan_new : f.done ≡ false → f.due ≡ 0 → AnswersBy f.scan
  unfolding scanning
  scan_new d e = answers_by f.scan (rw (d, eq-eqb f.due 0 e) refl)

  pub scan_within : f.done ≡ false → (f.due ≡ 0 → ⊥) → AnswersBy f.point
  unfolding scanning
  scan_within d e = answers_by f.point (rw (d, ne_eqb f.due 0 e) refl)
