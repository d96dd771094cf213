-- The fourth part of the invariant, bounds, is kept by each step: a law for each change of what the bounds read, which is words, stack,
-- numbers, begun and the reader page. What else a rule stores leaves them as they are.
-- Assumes nothing.
use mathlib.Core.Path.{◌≡◌, ap, subst}
use mathlib.Core.Logic.{◌≢◌}
use mathlib.Core.List.{List}
use Prim.Native.Nat.{ℕ, suc, ◌+◌, ◌*◌, ◌≤◌, ◌<◌}
use native.Mathlib.Omega.{arith}
use lib.ListN.{length, get_or, set}
use lib.Seq.{get_or-set_same, get_or-set_other, set_out}
use Rattle.rules.specs.Limits.{most_count}
use Rattle.rules.specs.State.{page, writer, no_writer, with_words, slot_index, set_phase, pop, State}
use Rattle.rules.specs.Begin.{begin}
use Rattle.rules.specs.Write.{reserve}
use Rattle.rules.specs.Read.{prepare, swap}
use Rattle.rules.specs.declared.state.PageNo.{PageNo}
use Rattle.rules.specs.declared.state.WriterPhase.{WriterPhase}
use Rattle.rules.specs.declared.state.WriterPhase.TheVariants as phase
use Rattle.rules.specs.declared.state.Writer.{Writer}
use Rattle.rules.proofs.Lists.{by-eq, by-lt}
use Rattle.rules.proofs.invariant.Order.{N, R, top_at, next_of, phase_at, rephase, Found, Ready, Links}
use Rattle.rules.proofs.invariant.Control.{ReaderOk, Control}
use Rattle.rules.proofs.invariant.Bounds.{AimFits, Bounds, BoundsOf}
use Rattle.rules.proofs.order.Records.{reflag, phase-other, records-set}

-- ---- words and numbers

-- a flag changed leaves the page in each word
next-same : (words : List ℕ) (x n f p : ℕ) → f < 4 → next_of words x ≡ n → next_of (set words x (4 * n + f)) p ≡ next_of words p
next-same words x n f p hf q =
    by-lt x (length words)
    (λ lt. (reflag words x n f lt hf q).next p)
    (λ ge. ap (λ (l : List ℕ). next_of l p) (set_out words x (4 * n + f) ge))

-- the page in a ring page's word
ring-next : {words : List ℕ} {N R : ℕ} {L : ℕ → ℕ} → Links words N R L → (p : ℕ) → p ≤ N → p ≢ R → next_of words p ≤ N
ring-next k p hp hr =
    let o = k.cycle.onto p hp hr in
    rw (← o.2, k.linked.step o.0) (k.cycle.bound (suc o.0))

-- the page in any word
pub words-fit : {s : State} {L : ℕ → ℕ} {pc pt : ℕ} → Control s L pc pt → BoundsOf s → (p : ℕ) → p ≤ N s → next_of s.words p ≤ N s
words-fit {s} v k p hp = by-eq p (R s) (λ e. rw e k.reader_fits) (ring-next v.links p hp)

-- one element changed
set-le : (l : List ℕ) (i a b : ℕ) → ((j : ℕ) → get_or l j 0 ≤ b) → a ≤ b → (j : ℕ) → get_or (set l i a) j 0 ≤ b
set-le l i a b old h j =
    by-lt i (length l)
    (λ lt. by-eq j i (λ e. rw (e, get_or-set_same l i a 0 lt) h) (λ n. rw (get_or-set_other l i j a 0 n) (old j)))
    (λ ge. rw (set_out l i a ge) (old j))

-- ---- the words and the reader page change

reworded : {N mode begun taken R R' : ℕ} {words words' numbers : List ℕ} {stack : List Writer} {depth : ℕ}
    → Bounds N mode begun taken R words numbers stack depth → next_of words' R' ≤ N → Bounds N mode begun taken R' words' numbers stack depth
reworded k h = record { mode_fits = k.mode_fits; begun_fits = k.begun_fits; numbers_fit = k.numbers_fit; reader_fits = h; aims = k.aims }

-- ---- the stack changes

restacked : {N mode begun taken R : ℕ} {words numbers : List ℕ} {stack stack' : List Writer} {depth depth' : ℕ}
    → Bounds N mode begun taken R words numbers stack depth → ((i : ℕ) → i < depth' → AimFits N (phase_at stack' i))
    → Bounds N mode begun taken R words numbers stack' depth'
restacked k aims = record { mode_fits = k.mode_fits; begun_fits = k.begun_fits; numbers_fit = k.numbers_fit; reader_fits = k.reader_fits; aims = aims }

module _ (s : State) (k : BoundsOf s) where
  -- one flag changed
  pub bounds-flag : (y n f : ℕ) → f < 4 → next_of s.words y ≡ n → BoundsOf (with_words (set s.words y (4 * n + f)) s)
  bounds-flag y n f hf q = reworded k (rw (next-same s.words y n f (R s) hf q) k.reader_fits)

  -- the top record gets another phase
  pub bounds-phase : 1 ≤ s.depth → s.depth ≤ length s.stack → (ph : WriterPhase) → AimFits (N s) ph → BoundsOf (set_phase ph s)
  bounds-phase some room ph f =
      restacked k (records-set (AimFits (N s)) s.stack s.depth (top_at s) (rephase s.stack (top_at s) ph) (omega arith) (λ i hi n. k.aims i hi) f)

  pub bounds-reserve : 1 ≤ s.depth → s.depth ≤ length s.stack → (t : PageNo) (slot : ℕ) → BoundsOf (reserve t slot s)
  bounds-reserve some room t slot =
      record {
        mode_fits = k.mode_fits;
        begun_fits = k.begun_fits;
        numbers_fit =
            set-le s.numbers (slot_index s.size t slot) s.counts.taken (s.counts.taken + 1) (λ i. omega (arith, k.numbers_fit i)) (omega arith);
        reader_fits = k.reader_fits;
        aims = (bounds-phase some room (phase.Held t slot) tt).aims;
      }

  -- the top record is popped: all that a Pending, a drop and a commit change of it
  pub bounds-pop : BoundsOf (pop s)
  bounds-pop =
      restacked k (λ i hi. rw (phase-other s.stack (top_at s) i no_writer (omega arith)) (k.aims i (omega arith)))

  pub bounds-begin : s.depth < length s.stack → s.counts.begun ≢ most_count → (v : ℕ) → BoundsOf (begin v s).state
  bounds-begin room more v =
      record {
        mode_fits = k.mode_fits;
        begun_fits = omega (arith, k.begun_fits);
        numbers_fit = k.numbers_fit;
        reader_fits = k.reader_fits;
        aims = records-set (AimFits (N s)) s.stack (s.depth + 1) s.depth (writer v phase.Want) room (λ i hi n. k.aims i (omega arith)) tt;
      }

-- ---- the reader

module _ {s : State} {L : ℕ → ℕ} {pc pt : ℕ} (v : Control s L pc pt) (k : BoundsOf s) (p h : ℕ) where
  pub bounds-prepare : s.reader ≡ Found p h → BoundsOf (prepare (page p) (page h) s)
  bounds-prepare q =
      let o = subst (ReaderOk s.words (N s) (R s) pc) q v.reader in
      let word = 4 * next_of s.words h + 1 in
      let new = get_or-set_same s.words (R s) word 0 (omega (arith, v.links)) in
      reworded k (omega (arith, ring-next v.links h o.3 o.4))

  pub bounds-swap : s.reader ≡ Ready p h → BoundsOf (swap (page p) (page h) s)
  bounds-swap q =
      let o = subst (ReaderOk s.words (N s) (R s) pc) q v.reader in
      reworded k
      (by-eq h p
      (λ e.
      let new = get_or-set_same s.words p (4 * R s + 0) 0 (omega (arith, v.links)) in
      rw (e, new) (omega (arith, v.links.cycle)))
      (λ n. rw (get_or-set_other s.words p h (4 * R s + 0) 0 n) (ring-next v.links h o.3 o.4)))
