-- The order of the ring pages starts again after N, and what an overwriting makes of it: the order turned by one.
-- Assumes nothing.
use mathlib.Core.Path.{◌≡◌, sym, ap, ◌∙◌}
use mathlib.Core.Logic.{◌≢◌}
use mathlib.Core.List.{List}
use Prim.Native.Nat.{ℕ, zero, suc, ◌-◌, ◌≤◌, ◌<◌}
use native.Mathlib.Omega.{arith}
use native.Mathlib.Nat.{suc-add, zero-add}
use Rattle.rules.proofs.Lists.{by-lt}
use Rattle.rules.proofs.invariant.Order.{next_of, Cycle, Links, turn}

module _ {N R : ℕ} {L : ℕ → ℕ} (c : Cycle N R L) where
  pub again : L N ≡ L 0
  again = rw zero-add at (c.period 0)

  -- the page after the last
  pub wrap : (i : ℕ) → i < N → N ≤ suc i → L (suc i) ≡ L 0
  wrap i h l =
      let e : suc i ≡ N = omega arith in
      rw e again

  pub turn-once : (i j : ℕ) → i < N → j < N → L (suc i) ≡ L (suc j) → i ≡ j
  turn-once i j hi hj e =
      by-lt (suc i) N
      (λ a.
      by-lt (suc j) N
      (λ b. omega (arith, c.once (suc i) (suc j) a b e))
      (λ b. omega (arith, c.once (suc i) 0 a (omega arith) (e ∙ wrap j hj b))))
      (λ a.
      by-lt (suc j) N
      (λ b. omega (arith, c.once 0 (suc j) (omega arith) b (sym (wrap i hi a) ∙ e)))
      (λ b. omega arith))

  turn-onto : (p i : ℕ) → i < N → L i ≡ p → (j : ℕ) × (j < N) × (L (suc j) ≡ p)
  turn-onto p zero h e = (N - 1, omega arith, wrap (N - 1) (omega arith) (omega arith) ∙ e)
  turn-onto p (suc i) h e = (i, omega arith, e)

  pub turn-cycle : Cycle N R (turn L)
  turn-cycle =
      record {
        two = c.two;
        reader = c.reader;
        bound = λ i. c.bound (suc i);
        off = λ i. c.off (suc i);
        period = λ i. rw (← suc-add) (c.period (suc i));
        once = turn-once;
        onto = λ p hp hr.
            let o = c.onto p hp hr in
            turn-onto p o.0 o.1 o.2;
      }

module _ {words : List ℕ} {N R : ℕ} {L : ℕ → ℕ} (k : Links words N R L) where
  pub turn-links : Links words N R (turn L)
  turn-links =
      record {
        cycle = turn-cycle k.cycle;
        linked = record { room = k.linked.room; step = λ i. k.linked.step (suc i) };
      }

  -- two ring pages with one page after them are one page
  pub next-once : (p q : ℕ) → p ≤ N → q ≤ N → p ≢ R → q ≢ R → next_of words p ≡ next_of words q → p ≡ q
  next-once p q hp hq rp rq e =
      let o = k.cycle.onto p hp rp in
      let u = k.cycle.onto q hq rq in
      let after-p : next_of words p ≡ L (suc o.0) = ap (next_of words) (sym o.2) ∙ k.linked.step o.0 in
      let after-q : next_of words q ≡ L (suc u.0) = ap (next_of words) (sym u.2) ∙ k.linked.step u.0 in
      let same : o.0 ≡ u.0 = turn-once k.cycle o.0 u.0 o.1 u.1 (sym after-p ∙ e ∙ after-q) in
      sym o.2 ∙ ap L same ∙ u.2
