-- What a swap makes of the order of the ring pages: turned by one, with the old reader page in the place of the oldest page, which is now the reader page.
-- Assumes nothing.
use mathlib.Core.Path.{◌≡◌, refl, sym, ap, ◌∙◌}
use mathlib.Core.Logic.{◌≢◌}
use mathlib.Core.List.{List}
use Prim.Native.Nat.{ℕ, suc, ◌+◌, ◌-◌, ◌*◌, ◌/◌, ◌≤◌, ◌<◌}
use native.Mathlib.Omega.{arith}
use borrow.Author.Tests.{eq-eqb, ne_eqb}
use lib.ListN.{get_or, set, length-set}
use lib.Seq.{get_or-set_same, get_or-set_other}
use Rattle.rules.proofs.Lists.{by-eq}
use Rattle.rules.proofs.invariant.Order.{next_of, Cycle, Links, instead, swapped}
use Rattle.rules.proofs.order.Turn.{wrap, turn-once, turn-cycle, next-once}

-- ---- one page instead of another

pub instead-same : (h r x : ℕ) → x ≡ h → instead h r x ≡ r
unfolding instead
instead-same h r x e = rw (eq-eqb x h e) refl

pub instead-other : (h r x : ℕ) → x ≢ h → instead h r x ≡ x
unfolding instead
instead-other h r x n = rw (ne_eqb x h n) refl

instead-once : (h r x y : ℕ) → x ≢ r → y ≢ r → instead h r x ≡ instead h r y → x ≡ y
instead-once h r x y nx ny e =
    by-eq x h
    (λ a. by-eq y h (λ b. a ∙ sym b) (λ b. absurd (ny (sym (sym (instead-same h r x a) ∙ e ∙ instead-other h r y b)))))
    (λ a.
    by-eq y h
    (λ b. absurd (nx (sym (instead-other h r x a) ∙ e ∙ instead-same h r y b)))
    (λ b. sym (instead-other h r x a) ∙ e ∙ instead-other h r y b))

-- ---- the order

module _ {N R : ℕ} {L : ℕ → ℕ} (c : Cycle N R L) where
  -- in the new order, a page is the old reader page, or the page that the turned order has there
  swapped-cases : (A : ℕ → Type 0) (i : ℕ) → (L (suc i) ≡ L 0 → A R) → (L (suc i) ≢ L 0 → A (L (suc i))) → A (swapped L R i)
  swapped-cases A i old other =
      by-eq (L (suc i)) (L 0)
      (λ e. rw (instead-same (L 0) R (L (suc i)) e) (old e))
      (λ n. rw (instead-other (L 0) R (L (suc i)) n) (other n))

  swap-onto : (p : ℕ) → p ≤ N → p ≢ L 0 → (i : ℕ) × (i < N) × (swapped L R i ≡ p)
  swap-onto p hp hr =
      by-eq p R
      (λ e. (N - 1, omega (arith, c.two), instead-same (L 0) R (L (suc (N - 1))) (wrap c (N - 1) (omega (arith, c.two)) (omega arith)) ∙ sym e))
      (λ n.
      let o = (turn-cycle c).onto p hp n in
      (o.0, o.1, instead-other (L 0) R (L (suc o.0)) (λ q. hr (sym o.2 ∙ q)) ∙ o.2))

  swap-cycle : Cycle N (L 0) (swapped L R)
  swap-cycle =
      record {
        two = c.two;
        reader = c.bound 0;
        bound = λ i. swapped-cases (λ (x : ℕ). x ≤ N) i (λ e. c.reader) (λ n. c.bound (suc i));
        off = λ i. swapped-cases (λ (x : ℕ). x ≢ L 0) i (λ e q. c.off 0 (sym q)) (λ n. n);
        period = λ i. ap (instead (L 0) R) ((turn-cycle c).period i);
        once = λ i j hi hj e. turn-once c i j hi hj (instead-once (L 0) R (L (suc i)) (L (suc j)) (c.off (suc i)) (c.off (suc j)) e);
        onto = swap-onto;
      }

-- ---- the words: page p, whose word named the oldest page, now leads to the old reader page, and this to the second oldest page

module _ {words : List ℕ} {N R : ℕ} {L : ℕ → ℕ} (k : Links words N R L) (p : ℕ) (p≤N : p ≤ N) (p≢R : p ≢ R) (to-first : next_of words p ≡ L 0)
    (from-reader : next_of words R ≡ L 1) where
  abbrev words' : List ℕ
  words' = set words p (4 * R + 0)

  here : next_of words' p ≡ R
  here =
      let g : get_or words' p 0 ≡ 4 * R + 0 = get_or-set_same words p (4 * R + 0) 0 (omega (arith, k.linked)) in
      omega arith

  there : (q : ℕ) → q ≢ p → next_of words' q ≡ next_of words q
  there q n = ap (λ (w : ℕ). w / 4) (get_or-set_other words p q (4 * R + 0) 0 n)

  -- from the old reader page
  step-old : (i : ℕ) → L (suc i) ≡ L 0 → next_of words' R ≡ swapped L R (suc i)
  step-old i e =
      let second : L (suc (suc i)) ≡ L 1 = sym (k.linked.step (suc i)) ∙ ap (next_of words) e ∙ k.linked.step 0 in
      let apart : L (suc (suc i)) ≢ L 0 = λ q. omega (arith, k.cycle.once 1 0 k.cycle.two (omega (arith, k.cycle)) (sym second ∙ q)) in
      there R (λ q. p≢R (sym q)) ∙ from-reader ∙ sym second ∙ sym (instead-other (L 0) R (L (suc (suc i))) apart)

  -- from page p
  step-last : (i : ℕ) → L (suc i) ≡ p → next_of words' (L (suc i)) ≡ swapped L R (suc i)
  step-last i e =
      let first : L (suc (suc i)) ≡ L 0 = sym (k.linked.step (suc i)) ∙ ap (next_of words) e ∙ to-first in
      ap (next_of words') e ∙ here ∙ sym (instead-same (L 0) R (L (suc (suc i))) first)

  -- from any other
  step_other : (i : ℕ) → L (suc i) ≢ p → next_of words' (L (suc i)) ≡ swapped L R (suc i)
  step_other i n =
      let apart : L (suc (suc i)) ≢ L 0 = λ q.
      n (next-once k (L (suc i)) p (k.cycle.bound (suc i)) p≤N (k.cycle.off (suc i)) p≢R (k.linked.step (suc i) ∙ q ∙ sym to-first)) in
      there (L (suc i)) n ∙ k.linked.step (suc i) ∙ sym (instead-other (L 0) R (L (suc (suc i))) apart)

  pub swap-links : Links (set words p (4 * R + 0)) N (L 0) (swapped L R)
  swap-links =
      record {
        cycle = swap-cycle k.cycle;
        linked = record {
          room = simp length-set k.linked.room;
          step = λ i.
              swapped-cases k.cycle (λ (x : ℕ). next_of words' x ≡ swapped L R (suc i)) i (step-old i)
              (λ n. by-eq (L (suc i)) p (step-last i) (step_other i));
        };
      }
