-- One of the first four lengths is the scalar's, if there is one.
use mathlib.Core.Path.{◌≡◌, sym, ap, ◌∙◌, subst}
use native.Mathlib.Omega.{arith}
use Prim.Native.Nat.{ℕ, ◌-◌, ◌≤◌}
use lib.ListN.{length, drop, length-drop}
use lib.Seq.{take_all}
use Rattle.std.specs.Prelude.{MatchOption, Option, None}
use Rattle.utf8.specs.Utf8.{front, front_in}
use Rattle.utf8.proofs.Library.{IsFront, front_told, same_encode}
use Rattle.utf8.proofs.front_at.Goals as goal

pub returns-in_err-scalar : goal.returns-in_err-scalar
returns-in_err-scalar c =
    let s = c.args.s.now in
    let at = c.args.at in
    let l = drop at s in
    let behind = take_all (length s - at) l (omega (arith, length-drop at s)) in
    let some : 1 ≤ length l = omega (arith, length-drop at s, c.requires) in
    let told = front_told l _ behind some _ _ _ _ _ _ _ c.first_of.ensures c.first_of-2.ensures c.first_of-3.ensures c.first_of-4.ensures c.or-short.ensures c.or.ensures c.or-2.ensures in
    let none = subst (IsFront l) c.in_err-scalar.was told in
    subst (λ (r : Option (ℕ × ℕ)). MatchOption r (None ≡ front_in l) (λ x. front x.0 x.1 ≡ front_in l)) (sym c.from_residual.ensures) none

pub returns : goal.returns
returns c =
    let s = c.args.s.now in
    let at = c.args.at in
    let l = drop at s in
    let x = c.in_ok-scalar.scalar in
    let behind = take_all (length s - at) l (omega (arith, length-drop at s)) in
    let some : 1 ≤ length l = omega (arith, length-drop at s, c.requires) in
    let told = front_told l _ behind some _ _ _ _ _ _ _ c.first_of.ensures c.first_of-2.ensures c.first_of-3.ensures c.first_of-4.ensures c.or-short.ensures c.or.ensures c.or-2.ensures in
    let found = subst (IsFront l) c.in_ok-scalar.was told in
    ap (front x) (c.len_utf8.ensures.len ∙ ap length (same_encode x)) ∙ found
