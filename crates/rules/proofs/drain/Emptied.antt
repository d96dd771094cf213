-- With no writer at work a drain with enough space hands out all that waits. An Event takes one of the readings that wait, Empty comes only where none
-- does, since the reader then stands where commit stands, and Busy never, since there is a header mark; a Read brings one of these within six.
-- Assumes nothing.
use mathlib.Core.Path.{◌≡◌, refl, sym, ap, ◌∙◌, subst}
use mathlib.Core.Bool.{true}
use Prim.Native.Nat.{ℕ, zero, suc, ◌+◌, ◌*◌, ◌≤◌, ◌<◌}
use native.Mathlib.Omega.{arith}
use borrow.Author.Tests.{ltb-false, eqb-true}
use lib.Dec.{ltb}
use Rattle.std.specs.Prelude.{Option, Some, None}
use Rattle.rules.specs.Limits.{header_flag, most_in_row}
use Rattle.rules.specs.State.{State}
use Rattle.rules.specs.Answers.{Outcome}
use Rattle.rules.specs.Words.{reader_on_commit, links, find_header}
use Rattle.rules.specs.Read.{read_limit, find_by, fetched, read_rule}
use Rattle.rules.specs.Receipt.{waiting}
use Rattle.rules.specs.Drain.{DrainKind, event, ending, quiet, drain_kind, DrainOutcome, drain_ends, by_kind, drain_reads}
use Rattle.rules.specs.Emptied.{Emptied, Empties}
use Rattle.rules.specs.declared.state.Answer.{Answer}
use Rattle.rules.specs.declared.state.PageNo.{PageNo}
use Rattle.rules.specs.declared.state.ReaderPhase.{ReaderPhase}
use Rattle.rules.specs.declared.state.ReaderPhase.TheVariants as reading
use Rattle.rules.specs.declared.state.Answer.TheVariants.{Empty}
use Rattle.rules.specs.declared.moves.Fetch.{Fetch}
use Rattle.rules.specs.declared.moves.Fetch.TheVariants as fetch
use Rattle.rules.proofs.Lists.{by_cond, by-eq}
use Rattle.rules.proofs.control.Phase.{headed-unless}
use Rattle.rules.proofs.drain.Soon.{ok_read, Soon, brought, next, not-quiet, following}
use Rattle.rules.proofs.drain.Within.{by-phase, read_is, within-six}
use Rattle.rules.proofs.invariant.Order.{N, S, R, C, place}
use Rattle.rules.proofs.order.Places.{place-le, place-off}
use Rattle.rules.proofs.order.Search.{Tells, search-tells}
use Rattle.rules.proofs.runs.Reached.{RingOk, ok-shape, reached-ok}
use Rattle.rules.proofs.shape.Laws.{in-shape}

-- what an answer of this kind tells of the readings that wait, before it and after it
abbrev Left : State → Outcome → DrainKind → Type 0
Left s o (event e) = waiting s.counts ≡ suc (waiting o.state.counts)
Left s o ending = (o.answer ≡ Empty) × (waiting s.counts ≡ 0) × (waiting o.state.counts ≡ 0)
Left s o quiet = waiting s.counts ≡ waiting o.state.counts

-- o is the outcome of a Read on s
record ReadLeaves (s : State) (o : Outcome) : Type 0 where
  left : Left s o (drain_kind o.answer)
  none : o.state.depth ≡ 0

-- ---- one Read

module _ (s : State) (g : RingOk s) (none : s.depth ≡ 0) where
  abbrev After : Fetch → Type 0
  After f = RingOk (fetched f s).state → ReadLeaves s (fetched f s)

  event-left : After fetch.Event
  event-left z =
      let k = (in-shape (fetched fetch.Event s).state (ok-shape _ z)).handed_overwritten in
      record { left = omega arith; none = none }

  -- the reader stands at the commit position
  emptied : read_limit s.places s.used ≤ s.places.position → reader_on_commit s.places ≡ true → waiting s.counts ≡ 0
  emptied past on =
      let v = g.all.control in
      let c = g.all.accounts.sums in
      let limit : s.places.index ≤ s.places.position = rw on at past in
      by-eq g.all.pc 0
      (λ z.
      let same : S s * (g.all.a + g.all.pc) ≡ S s * (g.all.a + 0) = ap (λ (i : ℕ). S s * (g.all.a + i)) z in
      omega (arith, same, c.committed_is, c.read_committed z, c.joined z, c.reader_from z, c.total))
      (λ n. absurd (place-off v.links.cycle g.all.pc (omega arith) (v.order.commit_at ∙ eqb-true (C s) (R s) on)))

  empty_left : read_limit s.places s.used ≤ s.places.position → reader_on_commit s.places ≡ true → After fetch.Empty
  empty_left past on z = record { left = (refl, emptied past on, emptied past on); none = none }

  find-left : (r : Option (PageNo × PageNo)) → Tells s.words (N s) (R s) r → After (find_by r)
  find-left (Some (p, h)) k z = record { left = refl; none = none }
  find-left None k z =
      let v = g.all.control in
      let c = v.links.cycle in
      let newest : ℕ = place (R s) g.all.L (N s) in
      absurd (k newest (place-le c (N s)) (place-off c (N s) (omega (arith, c.two))) (headed-unless v.flags (λ o. omega (arith, o.below))).last)

  by-phase-left : (ph : ReaderPhase) → After (by-phase s g ph)
  by-phase-left reading.Idle =
      by_cond After (ltb s.places.position (read_limit s.places s.used))
      (λ t. event-left)
      (λ t.
      by_cond After (reader_on_commit s.places)
      (empty_left (ltb-false _ _ t))
      (λ c. find-left (find_header s.words (N s) s.places.reader) (search-tells s.words (N s) s.places.reader)))
  by-phase-left (reading.Found p h) = λ z. record { left = refl; none = none }
  by-phase-left (reading.Ready p h) =
      by_cond After (links s.words p h header_flag)
      (λ e z. record { left = refl; none = none })
      (λ e z. record { left = refl; none = none })

  read-leaves : ReadLeaves s (read_rule s)
  read-leaves =
      subst (λ (o : Outcome). RingOk o.state → ReadLeaves s o) (sym (read_is s g s.reader refl)) (by-phase-left s.reader) (ok_read s g)

-- ---- Reads in a row, and the drain

-- where nothing waits and no writer is at work, all that is taken is handed out or overwritten
nothing_left : (s : State) → RingOk s → s.depth ≡ 0 → waiting s.counts ≡ 0 → s.counts.handed + s.counts.overwritten ≡ s.counts.taken
nothing_left s g none z = omega (arith, (in-shape s (ok-shape s g)).handed_overwritten, g.all.none_open none)

-- `later` hands out all that waits, of fewer readings than the space that is left
module _ (space : ℕ) (later : State → Option Answer → DrainOutcome)
    (empties : (s : State) → RingOk s → s.depth ≡ 0 → waiting s.counts < space → (last : Option Answer) → Emptied s (later s last)) where
  -- after a Read that is not quiet
  by-kind : (s : State) (o : Outcome) → RingOk o.state → o.state.depth ≡ 0 → waiting s.counts < suc space → (on : DrainOutcome) → (kind : DrainKind)
      → Left s o kind → (kind ≡ quiet → ⊥) → Emptied s (by_kind kind (later o.state (Some o.answer)) (drain_ends o.state (Some o.answer)) on)
  by-kind s o g none lt on (event e) left loud =
      let rest = empties o.state g none (omega arith) (Some o.answer) in
      record { last = rest.last; events = omega (arith, rest.events); all = rest.all }
  by-kind s o g none lt on ending left loud =
      record { last = ap Some left.0; events = omega (arith, left.1); all = nothing_left o.state g none left.2 }
  by-kind s o g none lt on quiet left loud = absurd (loud refl)

  in_row : {k : ℕ} (s : State) (o : Outcome) → ReadLeaves s o → RingOk o.state → waiting s.counts < suc space → Soon k o → (n : ℕ) → k ≤ n
      → Emptied s (following later n o)
  in_row s o r g lt (brought b) n le = by-kind s o g r.none lt _ (drain_kind o.answer) r.left (not-quiet b)
  in_row s o r g lt (next q rest) zero le = absurd (omega arith)
  in_row s o r g lt (next q rest) (suc n) le =
      let same : waiting s.counts ≡ waiting o.state.counts = rw q at r.left in
      let t = in_row o.state (read_rule o.state) (read-leaves o.state g r.none) (ok_read o.state g) (omega arith) rest n (omega arith) in
      rw q (record { last = t.last; events = t.events ∙ sym same; all = t.all })

-- a row is its first Read and at most seven more
drain-empties : (space : ℕ) (s : State) → RingOk s → s.depth ≡ 0 → waiting s.counts < space → (last : Option Answer) → Emptied s (drain_reads most_in_row space s last)
drain-empties zero s g none lt last = absurd (omega arith)
drain-empties (suc space) s g none lt last =
    in_row space (drain_reads most_in_row space) (drain-empties space) s (read_rule s) (read-leaves s g none) (ok_read s g) lt (within-six s g) 7 (omega arith)

pub empties : Empties
empties r h none space lt =
    let g = reached-ok r h in
    rw (ok-shape r g) (drain-empties space r g none lt None)
