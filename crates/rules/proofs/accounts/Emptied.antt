-- One page emptied, page n by an overwriting or the old reader page by a swap: the slots below used that are left, and their numbers where every place falls by one.
-- Assumes nothing.
use mathlib.Core.Path.{◌≡◌, ap, ◌∙◌, subst}
use mathlib.Core.Logic.{◌≢◌}
use mathlib.Core.List.{List}
use Prim.Native.Nat.{ℕ, suc, ◌+◌, ◌*◌, ◌≤◌, ◌<◌}
use native.Mathlib.Omega.{arith}
use lib.ListN.{length, get_or, set}
use lib.Seq.{get_or-set_same, get_or-set_other}
use Rattle.rules.proofs.Lists.{by-eq}
use Rattle.rules.proofs.invariant.Order.{cell}
use Rattle.rules.proofs.invariant.Accounts.{Numbers}

module _ (used : List ℕ) (x : ℕ) (room : x < length used) where
  pub emptied-other : (p : ℕ) → p ≢ x → get_or (set used x 0) p 0 ≡ get_or used p 0
  emptied-other p n = get_or-set_other used x p 0 0 n

  emptied-here : get_or (set used x 0) x 0 ≡ 0
  emptied-here = get_or-set_same used x 0 0 room

  -- a slot below the new used lay below the old one, on another page
  pub emptied-slot : {A : Type 0} (p j : ℕ) → j < get_or (set used x 0) p 0 → (p ≢ x → j < get_or used p 0 → A) → A
  emptied-slot p j hj old =
      by-eq p x
      (λ q. absurd (omega (arith, ap (λ (k : ℕ). get_or (set used x 0) k 0) q, emptied-here)))
      (λ n. old n (subst (λ (k : ℕ). j < k) (emptied-other p n) hj))

  pub emptied-cap : (N S : ℕ) → ((p : ℕ) → p ≤ N → get_or used p 0 ≤ S) → (p : ℕ) → p ≤ N → get_or (set used x 0) p 0 ≤ S
  emptied-cap N S cap p hp =
      by-eq p x
      (λ q. omega (arith, ap (λ (k : ℕ). get_or (set used x 0) k 0) q, emptied-here))
      (λ n. omega (arith, emptied-other p n, cap p hp))

  module _ {numbers : List ℕ} {N S R : ℕ} {P : ℕ → ℕ} {a r0 taken : ℕ} (k : Numbers numbers used N S R P a r0 taken) where
    pub emptied-below : (p j : ℕ) → p ≤ N → j < get_or (set used x 0) p 0 → get_or numbers (cell S p j) 0 < taken
    emptied-below p j hp hj = emptied-slot p j hj (λ n old. k.below p j hp old)

    -- the page emptied is the newest, and the page at each other place stood one place higher
    pub lower-number : (P' : ℕ → ℕ) → P' N ≡ x → ((i : ℕ) → 1 ≤ i → i < N → P' i ≡ P (suc i)) → (i j : ℕ) → 1 ≤ i → i ≤ N → j < get_or (set used x 0) (P' i) 0
        → get_or numbers (cell S (P' i) j) 0 + S ≡ S * (suc a + i) + j
    lower-number P' newest higher i j lo hi hj =
        emptied-slot (P' i) j hj
        (λ n old.
        let below : i ≢ N = λ q. n (ap P' q ∙ newest) in
        let q = higher i lo (omega arith) in
        let was = k.slot (suc i) j (omega arith) (omega arith) (subst (λ (p : ℕ). j < get_or used p 0) q old) in
        omega (arith, ap (λ (p : ℕ). get_or numbers (cell S p j) 0) q))
