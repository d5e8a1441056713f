-- How large a number in bytes is: once for every width, and for both byte orders.
use mathlib.Core.Path.{◌≡◌, refl, subst}
use mathlib.Core.Bool.{Bool, true, false, cond}
use mathlib.Core.List.{List, [], ◌∷◌, ◌++◌, reverse, reverse_aux}
use Prim.Native.Nat.{ℕ, zero, suc, ◌-◌, ◌*◌, ◌^◌, ◌≤◌, ◌<◌}
use native.Mathlib.Nat.{pow-succ', two-pow-succ}
use native.Mathlib.Omega.{arith}
use lib.IntN.{pos, negsuc, nat_abs}
use lib.Dec.{ltb}
use Rattle.std.proofs.lemmas.List.{length-reverse}
use lib.ListN.{length, take, drop, get_or}
use borrow.Author.Tests.{ltb-true, ltb-false}
use Rattle.common.specs.Bytes.{le, be, twos, signed, AreBytes}
use Rattle.common.proofs.Laws.{twos_is}

-- ---- bytes

pub are_bytes : (bs : List ℕ) → ((i : ℕ) → get_or bs i 0 < 256) → AreBytes bs
unfolding AreBytes
are_bytes [] h = tt
are_bytes (b ∷ bs) h = (omega (arith, h 0), are_bytes bs (λ i. h (suc i)))

pub bytes_take : (w : ℕ) (bs : List ℕ) → AreBytes bs → AreBytes (take w bs)
unfolding AreBytes
bytes_take zero bs h = tt
bytes_take (suc w) [] h = tt
bytes_take (suc w) (b ∷ bs) h = (h.0, bytes_take w bs h.1)

pub bytes_drop : (w : ℕ) (bs : List ℕ) → AreBytes bs → AreBytes (drop w bs)
unfolding AreBytes
bytes_drop zero bs h = h
bytes_drop (suc w) [] h = h
bytes_drop (suc w) (b ∷ bs) h = bytes_drop w bs h.1

pub bytes_append : (bs cs : List ℕ) → AreBytes bs → AreBytes cs → AreBytes (bs ++ cs)
unfolding AreBytes
bytes_append [] cs h g = g
bytes_append (b ∷ bs) cs h g = (h.0, bytes_append bs cs h.1 g)

bytes_reverse : (bs rs : List ℕ) → AreBytes bs → AreBytes rs → AreBytes (reverse_aux bs rs)
unfolding AreBytes
bytes_reverse [] rs h g = g
bytes_reverse (b ∷ bs) rs h g = bytes_reverse bs (b ∷ rs) h.1 (h.0, g)

-- ---- numbers

-- a byte order: a number of w bytes is below 256 ^ w
abbrev pub Order : (List ℕ → ℕ) → Type 0
Order order = (bs : List ℕ) → AreBytes bs → order bs < 256 ^ length bs

pub le_below : Order le
unfolding AreBytes
le_below [] h = omega arith
le_below (b ∷ bs) h = omega (arith, h.0, le_below bs h.1, pow-succ' 256 (length bs))

pub be_below : Order be
be_below bs h = subst (λ n. be bs < 256 ^ n) (length-reverse bs) (le_below (reverse bs) (bytes_reverse bs [] h (unfold AreBytes in tt)))

-- in bits
bits : (n : ℕ) → 256 ^ n ≡ 2 ^ (8 * n)
bits zero = refl
bits (suc n) =
    let e : 8 * suc n ≡ suc (suc (suc (suc (suc (suc (suc (suc (8 * n)))))))) = omega arith in
    rw (e, pow-succ' 256 n, bits n) (simp two-pow-succ (omega arith))

half : (b : ℕ) → 2 ^ b ≤ 2 * 2 ^ (b - 1)
half zero = omega arith
half (suc b) = let e : suc b - 1 ≡ b = omega arith in rw e (omega (arith, two-pow-succ b))

within : (b n : ℕ) → n < 2 ^ b → nat_abs (twos b n) ≤ 2 ^ (b - 1)
within b n h = rw (twos_is b n h) at (go (ltb n (2 ^ (b - 1))) (ltb-true n (2 ^ (b - 1))) (ltb-false n (2 ^ (b - 1))))
  where
    go : (x : Bool) → (x ≡ true → n < 2 ^ (b - 1)) → (x ≡ false → 2 ^ (b - 1) ≤ n) → nat_abs (cond x (pos n) (negsuc (2 ^ b - suc n))) ≤ 2 ^ (b - 1)
    go true l m = omega (arith, l refl)
    go false l m = omega (arith, m refl, half b)

-- a signed number of w bytes is at most half of 256 ^ w, of either sign
pub signed_within : {order : List ℕ → ℕ} → Order order → (bs : List ℕ) → AreBytes bs → nat_abs (signed order bs) ≤ 2 ^ (8 * length bs - 1)
signed_within {order} o bs h = within (8 * length bs) (order bs) (subst (λ m. order bs < m) (bits (length bs)) (o bs h))
