-- N moves from any ring page, each to the page in the word, meet each ring page once and end at the start.
-- Assumes nothing.
use mathlib.Core.Path.{◌≡◌, refl, sym, ap, ◌∙◌, subst}
use mathlib.Core.Logic.{◌≢◌}
use mathlib.Core.List.{List}
use Prim.Native.Nat.{ℕ, zero, suc, ◌≤◌, ◌<◌}
use Rattle.rules.proofs.invariant.Order.{next_of, Links}
use Rattle.rules.proofs.order.Turn.{again, turn-once, turn-cycle, turn-links}

-- k moves from p
abbrev pub walk : List ℕ → ℕ → ℕ → ℕ
walk words zero p = p
walk words (suc k) p = next_of words (walk words k p)

pub record Walks (words : List ℕ) (N R p : ℕ) : Type 0 where
  pub stays : (k : ℕ) → (walk words k p ≤ N) × (walk words k p ≢ R)
  pub once : (j k : ℕ) → j < N → k < N → walk words (suc j) p ≡ walk words (suc k) p → j ≡ k
  pub meets : (q : ℕ) → q ≤ N → q ≢ R → (k : ℕ) × (k < N) × (walk words (suc k) p ≡ q)
  pub back : walk words N p ≡ p

-- ---- from the oldest page

walk_at : {words : List ℕ} {N R : ℕ} {L : ℕ → ℕ} → Links words N R L → (k : ℕ) → walk words k (L 0) ≡ L k
walk_at l zero = refl
walk_at {words} l (suc k) = ap (next_of words) (walk_at l k) ∙ l.linked.step k

walks-first : {words : List ℕ} {N R : ℕ} {L : ℕ → ℕ} → Links words N R L → Walks words N R (L 0)
walks-first {N = N} l =
    record {
      stays = λ k. rw (walk_at l k) (l.cycle.bound k, l.cycle.off k);
      once = λ j k hj hk e. turn-once l.cycle j k hj hk (sym (walk_at l (suc j)) ∙ e ∙ walk_at l (suc k));
      meets = λ q hq hr.
          let o = (turn-cycle l.cycle).onto q hq hr in
          (o.0, o.1, walk_at l (suc o.0) ∙ o.2);
      back = walk_at l N ∙ again l.cycle;
    }

-- ---- from any: the order turned until it is the oldest

walks_at : {words : List ℕ} {N R : ℕ} {L : ℕ → ℕ} → Links words N R L → (i : ℕ) → Walks words N R (L i)
walks_at l zero = walks-first l
walks_at l (suc i) = walks_at (turn-links l) i

pub walks : {words : List ℕ} {N R : ℕ} {L : ℕ → ℕ} → Links words N R L → (p : ℕ) → p ≤ N → p ≢ R → Walks words N R p
walks {words} {N} {R} l p hp pr =
    let o = l.cycle.onto p hp pr in
    subst (Walks words N R) o.2 (walks_at l o.0)
