-- A turn: what the loop's test tells of its ring, that its pieces fit, and that with its stores it is the Reads that the definition makes.
-- Assumes nothing.
use Rattle.std.specs.Prelude.{Option}
use Rattle.std.proofs.Common.{◌≡◌, refl, true, ℕ, Bool, ◌&&◌, ◌+◌, ◌-◌, ◌≤◌, ◌<◌, leb, length, List, arith, sym, ◌∙◌, subst}
use borrow.Author.Tests.{ltb-true, leb-true}
use lib.Dec.{ltb}
use Rattle.rules.specs.Limits.{slot_room}
use Rattle.rules.specs.Shape.{in_shape}
use Rattle.rules.specs.State.{State}
use Rattle.ring.specs.Ring.{state_of}
use Rattle.ring.specs.Pieces.{StoresPrecondition}
use Rattle.ring.specs.Turn.{turn_of}
use Rattle.ring.specs.declared.turn.Turn.{Turn}
use Rattle.rules.proofs.Lists.{and-three}
use Rattle.rules.proofs.shape.Laws.{in-shape}
use Rattle.ring.proofs.turn.Laws.{Turned, turn-precondition, turn-stores, turn-slots}
use Rattle.ring.proofs.drain.Laws.{Progress, start, buffer-length, in_order, turn-does, turn_on, finish}
use Rattle.ring.proofs.state.Ring.drain_shaped.Goals as goal
use Rattle.rules.specs.declared.state.Answer.{Answer}

-- what the loop's test tells: the buffer is not full, a Read is left, and the counts agree; so the ring is in shape
record Test (r : State) (most at left : ℕ) : Type 0 where
  pub buffer_left : at < most
  pub reads_left : 0 < left
  pub agree : r.counts.handed + r.counts.overwritten ≤ r.counts.committed
  pub shape : in_shape r ≡ true

test : {r0 : State} {buffer0 : List ℕ} {r : State} {buffer : List ℕ} {at left : ℕ} {last : Option Answer} {ok : Bool} →
    Progress r0 buffer0 r buffer at left last →
    ok ≡ leb (r.counts.handed + r.counts.overwritten) r.counts.committed →
    (ltb at (length buffer0) && ltb 0 left) && ok ≡ true →
    Test r (length buffer0) at left
test {buffer0 = buffer0} {at = at} {left = left} {ok = ok} p e h =
    let three = and-three (ltb at (length buffer0)) (ltb 0 left) ok h in
    let le = leb-true _ _ (sym e ∙ three.2) in
    record { buffer_left = ltb-true _ _ three.0; reads_left = ltb-true _ _ three.1; agree = le; shape = in_order p le }

-- what the turn leaves fits
record Fits (r : State) (buffer left : ℕ) (last : Option Answer) (t : Turn) : Type 0 where
  pub does : Turned r buffer left last t
  pub stores : StoresPrecondition t.stores
  pub slots : t.from + t.count ≤ slot_room

fits : {r0 : State} {buffer0 : List ℕ} {r : State} {buffer : List ℕ} {at left : ℕ} {last : Option Answer} {t : Turn} →
    Progress r0 buffer0 r buffer at left last →
    Test r (length buffer0) at left →
    t ≡ turn_of r left (length buffer0 - at) →
    Fits r (length buffer0 - at) left last t
fits {buffer0 = buffer0} {r = r} {at = at} {left = left} {last = last} p h e =
    let some : 0 < length buffer0 - at = omega (arith, h.buffer_left) in
    record {
      does = subst (Turned r (length buffer0 - at) left last) (sym e) (turn-does p h.buffer_left h.reads_left h.agree);
      stores = rw e (turn-stores r h.shape (length buffer0 - at) left last some h.reads_left);
      slots = rw e (turn-slots r h.shape (length buffer0 - at) left last some h.reads_left);
    }

pub loop-at-init : goal.loop-at-init
loop-at-init c = start _ _ c.requires

pub agrees-requires : goal.agrees-requires
agrees-requires c =
    let p = c.loop-at.invariant in
    omega (arith, p.agree, in-shape _ p.shape)

pub turn_by-t-requires : goal.turn_by-t-requires
turn_by-t-requires c =
    let h = test c.loop-at.invariant c.agrees.ensures c.loop-at-test.true in
    turn-precondition (state_of c.loop-at.self) h.shape (length c.args.buffer.now - c.loop-at.at) c.loop-at.left c.loop-at.last (omega (arith, h.buffer_left)) h.reads_left

pub lay_events-requires : goal.lay_events-requires
lay_events-requires c =
    let p = c.loop-at.invariant in
    let h = test p c.agrees.ensures c.loop-at-test.true in
    let f = fits p h c.turn_by-t.ensures in
    (omega (arith, f.does.count, h.buffer_left, buffer-length p), f.slots)

pub apply_turn-requires : goal.apply_turn-requires
apply_turn-requires c =
    let p = c.loop-at.invariant in
    (fits p (test p c.agrees.ensures c.loop-at-test.true) c.turn_by-t.ensures).stores

pub loop-at-preserved : goal.loop-at-preserved
loop-at-preserved c =
    let p = c.loop-at.invariant in
    let h = test p c.agrees.ensures c.loop-at-test.true in
    turn_on p h.buffer_left h.reads_left h.agree c.turn_by-t.ensures c.apply_turn.ensures c.lay_events.ensures

pub returns : goal.returns
returns c = rw c.last_after.ensures (finish c.loop-at.invariant _ _ _ refl refl c.agrees.ensures c.loop-at-test.false)
