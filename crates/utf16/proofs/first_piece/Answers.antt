-- A unit that is a scalar by itself; else the next one tells.
use mathlib.Core.Path.{sym, ap, ◌∙◌, subst}
use Prim.Native.Nat.{ℕ, ◌-◌}
use native.Mathlib.Omega.{arith}
use lib.ListN.{length, drop, length-drop}
use lib.Seq.{take_all}
use Rattle.std.specs.Char.{IsScalar}
use Rattle.utf16.specs.Utf16.{piece_of, first_unit, First}
use Rattle.utf16.proofs.Units.{first_is, scalar_is}
use Rattle.utf16.proofs.first_piece.Goals as goal

pub returns-in-Some : goal.returns-in-Some
returns-in-Some c =
    let v = c.in-Some.ensures.value in
    scalar_is c.args.s.now c.requires (omega (arith, c.first_unit-u.ensures)) c.in-Some.scalar (v.1 ∙ c.from.ensures ∙ c.first_unit-u.ensures) (subst IsScalar (sym v.1) v.0)

pub returns : goal.returns
returns c =
    let s = c.args.s.now in
    let behind = take_all (length s - 2) (drop 2 s) (omega (arith, length-drop 2 s)) in
    let e =
    c.piece_of.ensures ∙ ap (λ (n : ℕ). piece_of n c.first_unit.result) c.first_unit-u.ensures
    ∙ ap (piece_of (first_unit s)) (c.first_unit.ensures ∙ ap first_unit behind) in
    subst (First c.args.s.now) (sym e) (first_is c.args.s.now c.requires (omega (arith, c.first_unit-u.ensures)))
