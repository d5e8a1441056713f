-- No header is 'finished'; one that was opened says its description.
use Rattle.std.proofs.Common.{◌≡◌, Ok, ℕ, zero, suc, ◌<◌, List, [], ◌∷◌, get_or, take, Fits, w8, sym, arith, length-take-le}
use Rattle.std.proofs.lemmas.Grind.{common_steps}
use Rattle.metadata.proofs.HeaderReads.{fits}
use Rattle.fetch.proofs.described.Described.open.Goals as goal

small_take : (n : ℕ) (bs : List ℕ) → ((i : ℕ) → Fits w8 (get_or bs i 0)) → (i : ℕ) → get_or (take n bs) i 0 < 256
small_take zero bs h i = omega arith
small_take (suc n) [] h i = omega arith
small_take (suc n) (b ∷ bs) h zero = (h zero).fits
small_take (suc n) (b ∷ bs) h (suc i) = small_take n bs (λ i. h (suc i)) i

pub slice_bounds-result-end : goal.slice_bounds-result-end
slice_bounds-result-end c =
    let q : c.open_header.result ≡ Ok c.in_ok-opened.opened = grind (arith, common_steps) in
    sym (length-take-le _ _ (fits _ _ _ _ c.open_header.ensures q).1)

pub invariant_of-result : goal.invariant_of-result
invariant_of-result c =
    let q : c.open_header.result ≡ Ok c.in_ok-opened.opened = grind (arith, common_steps) in
    record { small = small_take _ _ c.type_inv.s; described = ∣ (fits _ _ _ _ c.open_header.ensures q).0.described ∣₁ }
