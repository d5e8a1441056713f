-- Windows, by the dates that lie in them.
use mathlib.Core.Path.{◌≡◌, refl}
use mathlib.Core.Bool.{◌&&◌}
use mathlib.Core.List.{List}
use mathlib.Core.Logic.{◌⊎◌, inl, inr}
use Prim.Native.Nat.{ℕ, ◌≤◌, ◌<◌}
use native.Mathlib.Omega.{arith}
use lib.Dec.{leb, ltb}
use borrow.Author.Tests.{leb-true, ltb-true, ltb-false, le-leb, lt-ltb, le-ltb}
use borrow.Table.Steps.{cases as by}
use Rattle.utf8.proofs.Cases.{first, second, both}
use Rattle.volumes.specs.Volume.{Told, instant, no_date, refuse, inside, outside, refused, place_of, run_date, placed, Lies, VolumeWindows}

lies : (a b kind : ℕ) (s : List ℕ) → placed a b kind s ≡ inside → Lies a b kind s
unfolding placed
lies a b kind s e = by (ltb b a)
    (λ r. let z : refused 19 ≡ inside = simp r at e in cc)
    (λ r. of (run_date kind s) refl (simp r at e))
  where
    of : (t : Told) → run_date kind s ≡ t → place_of a b t ≡ inside → Lies a b kind s
    of (instant i) p q = by (leb a i && ltb i b)
        (λ h. record { at = i; date = p; from = leb-true a i (first (leb a i) (ltb i b) h); before = ltb-true i b (second (leb a i) (ltb i b) h) })
        (λ h. let z : outside ≡ inside = simp h at q in cc)
    of no_date p q = cc
    of (refuse c) p q = cc

lying : (a b kind : ℕ) (s : List ℕ) → Lies a b kind s → placed a b kind s ≡ inside
unfolding placed
lying a b kind s l = rw (le-ltb b a (omega (arith, l.from, l.before)), l.date, both (le-leb a l.at l.from) (lt-ltb l.at b l.before))

-- one date is in a window that holds another's
wider : (a b c d kind : ℕ) (s : List ℕ) → c ≤ a → b ≤ d → placed a b kind s ≡ inside → placed c d kind s ≡ inside
wider a b c d kind s p q e = let l = lies a b kind s e in lying c d kind s (record { at = l.at; date = l.date; from = omega (arith, l.from); before = omega (arith, l.before) })

either : (a b c kind : ℕ) (s : List ℕ) → a ≤ b → b ≤ c → placed a c kind s ≡ inside → (placed a b kind s ≡ inside) ⊎ (placed b c kind s ≡ inside)
either a b c kind s p q e =
    let l = lies a c kind s e in
    by (ltb l.at b)
    (λ h. inl (lying a b kind s (record { at = l.at; date = l.date; from = l.from; before = ltb-true l.at b h })))
    (λ h. inr (lying b c kind s (record { at = l.at; date = l.date; from = ltb-false l.at b h; before = l.before })))

apart : (a b c kind : ℕ) (s : List ℕ) → placed a b kind s ≡ inside → placed b c kind s ≡ inside → ⊥
apart a b c kind s e f =
    let l = lies a b kind s e in
    let m = lies b c kind s f in
    let x = l.date in
    let y = m.date in
    let z : l.at ≡ m.at = cc in
    omega (arith, l.before, m.from)

reversed : (a b kind : ℕ) (s : List ℕ) → b < a → placed a b kind s ≡ refused 19
unfolding placed
reversed a b kind s h = rw (lt-ltb b a h)

pub windows : VolumeWindows
windows =
    record {
      lies = lies;
      lying = lying;
      either = either;
      first = λ a b c kind s p q. wider a b a c kind s (omega arith) q;
      second = λ a b c kind s p q. wider b c a c kind s p (omega arith);
      apart = apart;
      reversed = reversed;
      nothing = λ a kind s e. apart a a a kind s e e;
    }
