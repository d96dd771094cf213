-- A ring that satisfies the invariant is in shape: a law for each group of tests of specs/Shape, then all of them together.
-- Assumes nothing.
use mathlib.Core.Path.{◌≡◌, refl}
use mathlib.Core.Bool.{true, false}
use Prim.Native.Nat.{ℕ, ◌+◌, ◌≤◌}
use native.Mathlib.Omega.{arith}
use borrow.Author.Tests.{lt-ltb, le-leb, ne_eqb}
use lib.ListN.{get_or}
use Rattle.std.proofs.lemmas.Bool.{and_from}
use Rattle.rules.specs.Limits.{least_pages, most_pages, least_slots, most_slots, most_depth, most_count, stop_mode, both_flags}
use Rattle.rules.specs.Shape.{size_tests, size_fits, places_fit, counts_fit, pages_fit, held_tests, held_fits, writer_fits, reader_fits, record_fits_at, stack_fits, word_fits_at, words_fit, used_fits_at, used_fit, number_fits, numbers_fit, layout_tests, layout_fits, in_shape}
use Rattle.rules.specs.Remember.{History}
use Rattle.rules.specs.State.{State}
use Rattle.rules.specs.declared.state.PageNo.{PageNo}
use Rattle.rules.specs.declared.state.WriterPhase.{WriterPhase}
use Rattle.rules.specs.declared.state.WriterPhase.TheVariants as phase
use Rattle.rules.specs.declared.state.ReaderPhase.{ReaderPhase}
use Rattle.rules.specs.declared.state.ReaderPhase.TheVariants as reading
use Rattle.rules.proofs.Lists.{by-eq, every-each, all_below-all, all_get_d}
use Rattle.rules.proofs.invariant.Order.{N, S, R, C, next_of, flag_of, used_of, phase_at, stored_at, place}
use Rattle.rules.proofs.invariant.Control.{Moving, RecordOk, ReaderOk, Control}
use Rattle.rules.proofs.invariant.Accounts.{Holding, HeldOk, Accounts}
use Rattle.rules.proofs.invariant.Bounds.{AimFits, BoundsOf}
use Rattle.rules.proofs.accounts.Laws.{read-le, page-le, committed-taken}
use Rattle.rules.proofs.bounds.Steps.{words-fit}
use Rattle.rules.proofs.control.Phase.{placed-le, tail-le, commit-le}
use Rattle.rules.proofs.shape.Laws.{pages-true, places-true, counts-true}

module _ {s : State} {h : History} {L : ℕ → ℕ} {pc pt a r0 gap : ℕ} (v : Control s L pc pt) (b : Accounts s h L pc pt a r0 gap) (k : BoundsOf s) where
  abbrev P : ℕ → ℕ
  P = place (R s) L

  -- ---- size and places

  size-fits : size_fits s.size ≡ true
  size-fits =
      every-each (size_tests s.size) (
        le-leb least_pages (N s) v.links.cycle.two,
        (
          le-leb (N s) most_pages b.contents.sizes.pages,
          (le-leb least_slots (S s) b.contents.sizes.some, (le-leb (S s) most_slots b.contents.sizes.slots, (le-leb s.size.mode stop_mode k.mode_fits, tt))),
        ),
      )

  index-fits : s.places.index ≤ S s
  index-fits = omega (arith, b.sums.indexed, b.contents.cap (C s) (commit-le v))

  position-fits : s.places.position ≤ S s
  position-fits = omega (arith, b.sums.read, b.contents.cap (R s) v.links.cycle.reader)

  places-fit : places_fit s.places s.size ≡ true
  places-fit = places-true s.places s.size v.links.cycle.reader (tail-le v) (commit-le v) index-fits position-fits

  -- ---- the reader's phase

  phase-fits : (ph : ReaderPhase) → ReaderOk s.words (N s) (R s) pc ph → reader_fits ph s.size ≡ true
  phase-fits reading.Idle o = refl
  phase-fits (reading.Found p q) o = pages-true p q (N s) o.1 o.3
  phase-fits (reading.Ready p q) o = pages-true p q (N s) o.1 o.3

  -- ---- the stack

  moving-fits : (t n : PageNo) → Moving s.words s.used (N s) (S s) P pc pt t.0 n.0 → pages_fit t n (N s) ≡ true
  moving-fits t n o =
      let ht = placed-le v o.spot.k t.0 o.spot.is in
      pages-true t n (N s) ht (rw (← o.next) (words-fit v k t.0 ht))

  held-fits : (p : PageNo) (j u : ℕ) → Holding s.numbers s.used (S s) P pc pt s.counts.committed h.readings p.0 j u → held_fits p j s.size ≡ true
  held-fits p j u o =
      let hp = placed-le v o.k p.0 o.is in
      every-each (held_tests p j s.size) (le-leb p.0 (N s) hp, (lt-ltb j (S s) (omega (arith, o.slot, b.contents.cap p.0 hp)), tt))

  record-fits : (ph : WriterPhase) (u : ℕ) → RecordOk s.words s.used (N s) (S s) P pc pt ph
      → HeldOk s.numbers s.used (S s) P pc pt s.counts.committed h.readings u ph → AimFits (N s) ph → writer_fits ph s.size ≡ true
  record-fits phase.Want u o q f = refl
  record-fits (phase.Mark t n) u o q f = pages-true t n (N s) (placed-le v o.spot.k t.0 o.spot.is) f
  record-fits (phase.Promote t n true) u o q f = moving-fits t n o.0
  record-fits (phase.Promote t n false) u o q f = moving-fits t n o
  record-fits (phase.Clear t n) u o q f = moving-fits t n o.0
  record-fits (phase.Push t n) u o q f = moving-fits t n o
  record-fits (phase.Held p j) u o q f = held-fits p j u q
  record-fits phase.Filled u o q f = refl

  stack-fits : stack_fits s.stack s.depth s.size ≡ true
  stack-fits =
      and_from _ _
      (le-leb s.depth most_depth (omega (arith, v.depth, b.stack_room)))
      (all_below-all (record_fits_at s.stack s.size) s.depth
      (λ i hi. record-fits (phase_at s.stack i) (stored_at s.stack i) (v.records i hi) (b.values.held i hi) (k.aims i hi)))

  -- ---- words and used

  word-fits : (p : ℕ) → p ≤ N s → word_fits_at s.words (N s) p ≡ true
  word-fits p hp =
      and_from _ _
      (le-leb (next_of s.words p) (N s) (words-fit v k p hp))
      (rw (ne_eqb (flag_of s.words p) both_flags (omega (arith, v.owners.small p hp))))

  all_words : words_fit s.words (N s) ≡ true
  all_words = all_below-all (word_fits_at s.words (N s)) (N s + 1) (λ p hp. word-fits p (omega arith))

  used-fit : used_fit s.used (N s) (S s) ≡ true
  used-fit = all_below-all (used_fits_at s.used (S s)) (N s + 1) (λ p hp. le-leb (used_of s p) (S s) (b.contents.cap p (omega arith)))

  -- ---- counts

  settled-committed : s.counts.handed + s.counts.overwritten ≤ s.counts.committed
  settled-committed =
      by-eq pc 0
      (λ e. omega (arith, b.sums.total, b.sums.joined e, read-le b.sums))
      (λ n. omega (arith, b.sums.total, b.sums.read, page-le b.sums (omega arith)))

  taken-begun : s.counts.taken + s.counts.dropped ≤ s.counts.begun
  taken-begun = omega (arith, b.balance)

  counts-fit : counts_fit s.counts ≡ true
  counts-fit = counts-true s.counts k.begun_fits settled-committed (committed-taken v b) taken-begun

  -- ---- numbers

  numbers-fit : numbers_fit s.numbers ≡ true
  unfolding numbers_fit
  numbers-fit =
      all_get_d number_fits s.numbers
      (λ i. le-leb (get_or s.numbers i 0) most_count (omega (arith, k.numbers_fit i, k.begun_fits, taken-begun)))

  -- ---- all of it

  layout : layout_fits s.size s.places s.reader s.stack s.depth s.words s.used ≡ true
  unfolding layout_fits
  layout =
      every-each (layout_tests s.size s.places s.reader s.stack s.depth s.words s.used)
      (size-fits, (places-fit, (phase-fits s.reader v.reader, (stack-fits, (all_words, (used-fit, tt))))))

  pub invariant-in_shape : in_shape s ≡ true
  unfolding in_shape
  invariant-in_shape = and_from _ _ (and_from _ _ counts-fit layout) numbers-fit
