-- The text of the first bytes begins with the scalar.
use mathlib.Core.Path.{sym, ap, ◌∙◌, subst}
use mathlib.Core.List.{List}
use Prim.Native.Nat.{ℕ}
use native.Mathlib.Nat.{sub-zero}
use lib.ListN.{take}
use Rattle.std.specs.Prelude.{slice_get}
use Rattle.std.specs.Str.{chars}
use Rattle.utf8.specs.Utf8.{Utf8}
use Rattle.utf8.proofs.Decodes.{decoded}
use Rattle.utf8.proofs.Library.{Tells, text_tells}
use Rattle.utf8.proofs.first_of.Goals as goal

pub returns : goal.returns
returns c =
    let l = c.args.s.now in
    let n = c.args.n in
    let p = c.in_ok-get.field-0.now in
    let part = c.in_ok-get.ensures.lookup in
    let first = c.next.ensures.steps.2 ∙ ap (λ (q : List ℕ). slice_get (chars q) 0) (c.chars.ensures.rest ∙ c.in_ok-text_in.ensures.0) in
    let front = part.0.2 ∙ ap (λ (k : ℕ). take k l) (sub-zero n) in
    let u = subst (λ (q : List ℕ). Utf8 q (chars p)) front (decoded p (chars p) c.in_ok-text_in.ensures.1) in
    subst (Tells n l) (sym first) (text_tells l (chars p) n c.requires part.0.1 u)
