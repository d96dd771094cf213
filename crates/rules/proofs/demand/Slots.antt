-- Where a number lies: in one slot only; a number of the reader page on that page, one past the gap on a ring page, each below its page's used. By the invariant's
-- formulas for the number in a slot.
-- Assumes nothing.
use mathlib.Core.Path.{◌≡◌, sym, ap, ◌∙◌}
use mathlib.Core.Logic.{◌≢◌}
use Prim.Native.Nat.{ℕ, suc, ◌+◌, ◌-◌, ◌*◌, ◌/◌, ◌%◌, ◌≤◌, ◌<◌}
use native.Mathlib.Omega.{arith}
use native.Mathlib.Nat.{mul-le-mul_left, div-add-mod, mod-lt, le-div_iff_mul-le}
use Rattle.rules.specs.State.{page, number_at, State}
use Rattle.rules.specs.Remember.{History}
use Rattle.rules.specs.Demand.{LiesAt}
use Rattle.rules.specs.declared.state.PageNo.{PageNo}
use Rattle.rules.proofs.Lists.{by-eq, by-lt}
use Rattle.rules.proofs.invariant.Order.{S, R, T, used_of, place}
use Rattle.rules.proofs.invariant.Control.{Control}
use Rattle.rules.proofs.invariant.Accounts.{Accounts}
use Rattle.rules.proofs.accounts.Laws.{split-once}

module _ {s : State} {h : History} {L : ℕ → ℕ} {pc pt a r0 gap : ℕ} (v : Control s L pc pt) (b : Accounts s h L pc pt a r0 gap) where
  pub lies-below : {m j : ℕ} {p : PageNo} → LiesAt s m p j → m < s.counts.taken
  lies-below {j = j} {p = p} l = rw l.number at (b.contents.numbers.below p.0 j l.page l.below)

  -- ---- the number in a slot

  pub reader-number : {m j : ℕ} {p : PageNo} → LiesAt s m p j → p.0 ≡ R s → (j < used_of s (R s)) × (m ≡ r0 + j)
  reader-number {j = j} l e =
      let lt : j < used_of s (R s) = rw e at l.below in
      (lt, sym l.number ∙ ap (λ (q : ℕ). number_at s (page q) j) e ∙ b.contents.numbers.reader j lt)

  -- of a ring page
  ring-number : {m j : ℕ} {p : PageNo} → LiesAt s m p j → p.0 ≢ R s → (i : ℕ) × (L i ≡ p.0) × (m ≡ S s * (a + i) + j)
  ring-number {m} {j} {p} l n =
      let o = v.links.cycle.onto p.0 l.page n in
      let lt : j < used_of s (L o.0) = rw o.2 l.below in
      let e : number_at s (page (L o.0)) j ≡ m = rw o.2 l.number in
      (o.0, o.2, omega (arith, b.contents.numbers.slot (suc o.0) j (omega arith) o.1 lt))

  pub ring-from : {m j : ℕ} {p : PageNo} → LiesAt s m p j → p.0 ≢ R s → S s * a ≤ m
  ring-from l n = omega (arith, (ring-number l n).2)

  -- the ring's numbers start after the reader page's and the gap
  pub ring-after : r0 + used_of s (R s) + gap ≤ S s * a
  ring-after =
      by-eq pc 0
      (λ e. omega (arith, b.sums.joined e, b.sums.reader_from e, b.contents.cap (R s) v.links.cycle.reader))
      (λ n. omega (arith, b.sums.ring_from (omega arith)))

  -- ---- in one slot only

  -- a number of the reader page is none of the ring's
  apart : {m j k : ℕ} {p q : PageNo} → LiesAt s m p j → LiesAt s m q k → p.0 ≡ R s → ¬ (q.0 ≢ R s)
  apart l o e n = omega (arith, reader-number l e, ring-from o n, ring-after)

  slot-low : {m j : ℕ} {p : PageNo} → LiesAt s m p j → j < S s
  slot-low {p = p} l = omega (arith, b.contents.cap p.0 l.page)

  ring-once : {m j k : ℕ} {p q : PageNo} → LiesAt s m p j → LiesAt s m q k → p.0 ≢ R s → q.0 ≢ R s → (p ≡ q) × (j ≡ k)
  ring-once {j = j} {k = k} l o pr qr =
      let x = ring-number l pr in
      let y = ring-number o qr in
      let e = split-once (S s) (a + x.0) (a + y.0) j k (slot-low l) (slot-low o) (sym x.2 ∙ y.2) in
      (ap page (sym x.1 ∙ ap L (omega (arith, e.0)) ∙ y.1), e.1)

  pub lies-once : {m j k : ℕ} {p q : PageNo} → LiesAt s m p j → LiesAt s m q k → (p ≡ q) × (j ≡ k)
  lies-once {p = p} {q = q} l o =
      by-eq p.0 (R s)
      (λ e. by-eq q.0 (R s)
      (λ f. (ap page (e ∙ sym f), omega (arith, reader-number l e, reader-number o f)))
      (λ f. absurd (apart l o e f)))
      (λ e. by-eq q.0 (R s)
      (λ f. absurd (apart o l f e))
      (λ f. ring-once l o e f))

  -- ---- a number of the reader page

  pub in-reader : (m : ℕ) → r0 ≤ m → m < r0 + used_of s (R s) → LiesAt s m s.places.reader (m - r0)
  in-reader m lo hi =
      record { page = v.links.cycle.reader; below = omega arith; number = b.contents.numbers.reader (m - r0) (omega arith) ∙ omega arith }

  -- ---- a number of a ring page

  tail-used : (i : ℕ) → i ≡ pt → used_of s (place (R s) L i) ≡ used_of s (T s)
  tail-used i e = ap (used_of s) (ap (place (R s) L) e ∙ v.order.tail_at)

  -- a page with a number that was taken is not past the tail page
  to-tail : (i j : ℕ) → S s * (a + i) + j < s.counts.taken → i < pt
  to-tail i j lt =
      by-lt i pt
      (λ z. z)
      (λ le. absurd (omega (arith, mul-le-mul_left {m = a + pt} {n = a + i} (S s) (omega arith), b.sums.taken_is, v.order.cap)))

  slot-used : (i j : ℕ) → j < S s → S s * (a + i) + j < s.counts.taken → j < used_of s (L i)
  slot-used i j hj lt =
      by-eq (suc i) pt
      (λ e. omega (arith, tail-used (suc i) e, b.sums.taken_is, ap (λ (k : ℕ). S s * (a + k)) e))
      (λ n. omega (arith, v.order.full (suc i) (omega arith) (omega (arith, to-tail i j lt))))

  in-page : (i j : ℕ) → j < S s → S s * (a + i) + j < s.counts.taken → LiesAt s (S s * (a + i) + j) (page (L i)) j
  in-page i j hj lt =
      let u = slot-used i j hj lt in
      record {
        page = v.links.cycle.bound i;
        below = u;
        number = omega (arith, b.contents.numbers.slot (suc i) j (omega arith) (omega (arith, to-tail i j lt, v.order.top)) u);
      }

  -- past the gap the ring's numbers start
  past-gap : (m : ℕ) → r0 + used_of s (R s) + gap ≤ m → m < s.counts.taken → S s * a ≤ m
  past-gap m lo hi =
      by-eq pc 0
      (λ e. by-eq 0 pt
      (λ q. absurd (omega (arith, tail-used 0 q, b.sums.taken_is, b.sums.reader_from e, ap (λ (k : ℕ). S s * (a + k)) q)))
      (λ n. omega (arith, b.sums.reader_from e, v.order.full0 e (omega arith))))
      (λ n. omega (arith, b.sums.ring_from (omega arith)))

  -- a number's page and slot are its quotient by S, less a, and its remainder
  split : (m : ℕ) → S s * a ≤ m → S s * (a + (m / S s - a)) + m % S s ≡ m
  split m le =
      let from : a ≤ m / S s = (le-div_iff_mul-le b.contents.sizes.some).1 (omega arith) in
      ap (λ (q : ℕ). S s * q + m % S s) (omega arith) ∙ div-add-mod m (S s)

  pub in-ring : (m : ℕ) → r0 + used_of s (R s) + gap ≤ m → m < s.counts.taken → (p : PageNo) × (j : ℕ) × (p.0 ≢ R s) × LiesAt s m p j
  in-ring m lo hi =
      let e = split m (past-gap m lo hi) in
      let l = in-page (m / S s - a) (m % S s) (mod-lt m b.contents.sizes.some) (rw e hi) in
      (page (L (m / S s - a)), m % S s, v.links.cycle.off (m / S s - a), rw e at l)
