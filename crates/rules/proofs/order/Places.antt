-- The pages by place: each page has one place, what stands after it, and where it stands after an overwriting and after a swap.
-- Assumes nothing.
use mathlib.Core.Path.{◌≡◌, refl, sym, ap, ◌∙◌}
use mathlib.Core.Logic.{◌≢◌}
use mathlib.Core.List.{List}
use Prim.Native.Nat.{ℕ, zero, suc, ◌≤◌, ◌<◌}
use native.Mathlib.Omega.{arith}
use Rattle.rules.specs.State.{page}
use Rattle.rules.specs.declared.state.PageNo.{PageNo}
use Rattle.rules.proofs.invariant.Order.{next_of, Cycle, Links, place, turn, swapped}
use Rattle.rules.proofs.order.Swap.{instead-same, instead-other}
use Rattle.rules.proofs.order.Turn.{again}

pub page-once : {p q : ℕ} → page p ≡ page q → p ≡ q
page-once e = ap (λ (x : PageNo). x.0) e

-- ---- a page and its place

module _ {N R : ℕ} {L : ℕ → ℕ} (c : Cycle N R L) where
  pub place-once : (i j : ℕ) → i ≤ N → j ≤ N → place R L i ≡ place R L j → i ≡ j
  place-once zero zero hi hj e = refl
  place-once zero (suc j) hi hj e = absurd (c.off j (sym e))
  place-once (suc i) zero hi hj e = absurd (c.off i e)
  place-once (suc i) (suc j) hi hj e = ap suc (c.once i j hi hj e)

  pub place-le : (i : ℕ) → place R L i ≤ N
  place-le zero = c.reader
  place-le (suc i) = c.bound i

  -- the ring pages are those from place 1 on
  pub place-off : (i : ℕ) → 1 ≤ i → place R L i ≢ R
  place-off zero h = absurd (omega arith)
  place-off (suc i) h = c.off i

  pub ring-place : (p : ℕ) → p ≤ N → p ≢ R → (i : ℕ) × (1 ≤ i) × (i ≤ N) × (place R L i ≡ p)
  ring-place p hp hr =
      let o = c.onto p hp hr in
      (suc o.0, omega arith, o.1, o.2)

  -- past the last place comes the first of the ring
  pub place-past : place R L (suc N) ≡ place R L 1
  place-past = again c

pub place-next : {words : List ℕ} {N R : ℕ} {L : ℕ → ℕ} → Links words N R L → (i : ℕ) → 1 ≤ i → next_of words (place R L i) ≡ place R L (suc i)
place-next k zero h = absurd (omega arith)
place-next k (suc i) h = k.linked.step i

-- the page after the newest is the oldest
pub last-next : {words : List ℕ} {N R : ℕ} {L : ℕ → ℕ} → Links words N R L → next_of words (place R L N) ≡ L 0
last-next {N = N} k = place-next k N (omega (arith, k.cycle.two)) ∙ place-past k.cycle

-- ---- after an overwriting (from place 1 on) and after a swap (below place N), place i has the page that stood at place i + 1

pub place-turn : (R : ℕ) (L : ℕ → ℕ) (i : ℕ) → 1 ≤ i → place R (turn L) i ≡ place R L (suc i)
place-turn R L zero h = absurd (omega arith)
place-turn R L (suc i) h = refl

module _ {N R : ℕ} {L : ℕ → ℕ} (c : Cycle N R L) where
  pub place-swap : (i : ℕ) → i < N → place (L 0) (swapped L R) i ≡ place R L (suc i)
  place-swap zero h = refl
  place-swap (suc i) h = instead-other (L 0) R (L (suc i)) (λ e. omega (arith, c.once (suc i) 0 h (omega arith) e))

  pub place-swap-last : place (L 0) (swapped L R) N ≡ R
  place-swap-last = go N refl
    where
      go : (k : ℕ) → k ≡ N → place (L 0) (swapped L R) k ≡ R
      go zero e = absurd (omega (arith, c.two))
      go (suc m) e = instead-same (L 0) R (L (suc m)) (ap L e ∙ again c)
