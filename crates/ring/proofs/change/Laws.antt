-- The pieces that an action of any kind leaves, stored, are the action: `change-acts`. And a ring in shape has what the code asks of its pieces. Each by the action,
-- from the laws of Write and Read; a record, a count or a cell that stays is stored as it was. Assumes nothing.
use Rattle.std.specs.Prelude.{Result, Ok, Err}
use mathlib.Core.Path.{◌≡◌, refl, sym, ap}
use mathlib.Core.Bool.{true}
use mathlib.Core.List.{List}
use Prim.Native.Nat.{ℕ, ◌-◌, ◌<◌}
use native.Mathlib.Omega.{arith}
use borrow.Author.Tests.{eqb-false}
use lib.Dec.{eqb}
use lib.ListN.{set}
use lib.Seq.{set-get_or}
use Rattle.rules.specs.Limits.{most_depth, most_count}
use Rattle.rules.specs.State.{no_writer, with_stack, top, State}
use Rattle.rules.specs.Answers.{Outcome}
use Rattle.rules.specs.Refusals.{begin_verdict, write_verdict, judged}
use Rattle.rules.specs.Shape.{in_shape}
use Rattle.rules.specs.Begin.{begin}
use Rattle.rules.specs.Write.{moved, plan_write}
use Rattle.rules.specs.Read.{fetched, plan_read}
use Rattle.rules.specs.Act.{act}
use Rattle.ring.specs.Pieces.{StoresPrecondition}
use Rattle.ring.specs.Change.{judged_change, begun_change, moved_change, fetched_change, change_of, changed, ChangePrecondition}
use Rattle.rules.specs.declared.state.Writer.{Writer}
use Rattle.rules.specs.declared.state.Refusal.{Refusal}
use Rattle.rules.specs.declared.state.Refusal.TheVariants.{Depth, Nobody, Worn}
use Rattle.rules.specs.declared.state.Action.{Action}
use Rattle.rules.specs.declared.state.Action.TheVariants.{Begin, Write, Read}
use Rattle.rules.specs.declared.moves.Move.{Move}
use Rattle.rules.specs.declared.moves.Move.TheVariants.{Become, Reserve, Drop, DropCommit, Mark, Promote, Clear, Push, Fill, Pend, Commit}
use Rattle.rules.specs.declared.moves.Fetch.{Fetch}
use Rattle.rules.specs.declared.moves.Fetch.TheVariants as fetch
use Rattle.ring.specs.declared.change.Change.{Change}
use Rattle.rules.proofs.Lists.{by_cond}
use Rattle.rules.proofs.shape.Laws.{InShape}
use Rattle.ring.proofs.write.Laws.{top-fits, plan-precondition}
use Rattle.ring.proofs.read.Laws as read
use Rattle.ring.proofs.pieces.Laws.{stores-precondition, read-stores-precondition}

-- ---- the pieces stored are the action

-- an outcome and a change of the ring r tell the same
pub record Agrees (r : State) (o : Outcome) (c : Change) : Type 0 where
  pub state : o.state ≡ changed c r
  pub answer : o.answer ≡ c.answer

module _ (r : State) where
  -- the top record stored as it was
  same-stack : r.stack ≡ set r.stack (r.depth - 1) (top r)
  same-stack = sym (set-get_or r.stack (r.depth - 1) no_writer)

  judged-agrees :
      (v : Result (Unit {0}) Refusal) (o : Outcome) (c : Change) →
      Agrees r o c →
      Agrees r (judged v r o) (judged_change v (top r) r.places r.counts r.depth r.reader c)
  judged-agrees (Ok tt) o c h = h
  judged-agrees (Err why) o c h = record { state = ap (λ (st : List Writer). with_stack st r) same-stack; answer = refl }

  moved-agrees : (m : Move) → Agrees r (moved m r) (moved_change m (top r) r.size r.places r.counts r.depth r.reader r.words r.used)
  moved-agrees (Become next a) = record { state = refl; answer = refl }
  moved-agrees (Reserve t slot) = record { state = refl; answer = refl }
  moved-agrees Drop = record { state = refl; answer = refl }
  moved-agrees DropCommit = record { state = refl; answer = refl }
  moved-agrees (Mark t n) = record { state = refl; answer = refl }
  moved-agrees (Promote n next) = record { state = refl; answer = refl }
  moved-agrees (Clear t n) = record { state = refl; answer = refl }
  moved-agrees (Push n) = record { state = refl; answer = refl }
  moved-agrees (Fill p slot) = record { state = refl; answer = refl }
  moved-agrees Pend = record { state = refl; answer = refl }
  moved-agrees Commit = record { state = refl; answer = refl }

  -- what a Read leaves, with the stack as it was
  kept : (f : Fetch) → with_stack r.stack (fetched f r).state ≡ with_stack (set r.stack (r.depth - 1) (top r)) (fetched f r).state
  kept f = ap (λ (st : List Writer). with_stack st (fetched f r).state) same-stack

  fetched-agrees : (f : Fetch)
      → Agrees r (fetched f r) (fetched_change f (top r) r.size r.places r.counts r.depth r.reader r.words r.numbers r.values)
  fetched-agrees fetch.Event = record { state = kept fetch.Event; answer = refl }
  fetched-agrees fetch.Empty = record { state = kept fetch.Empty; answer = refl }
  fetched-agrees fetch.Busy = record { state = kept fetch.Busy; answer = refl }
  fetched-agrees (fetch.Find p h) = record { state = kept (fetch.Find p h); answer = refl }
  fetched-agrees (fetch.Prepare p h) = record { state = kept (fetch.Prepare p h); answer = refl }
  fetched-agrees (fetch.Swap p h) = record { state = kept (fetch.Swap p h); answer = refl }
  fetched-agrees fetch.Miss = record { state = kept fetch.Miss; answer = refl }

  pub change-acts : in_shape r ≡ true → (a : Action) → Agrees r (act r a) (change_of r a)
  change-acts shape (Begin v) =
      rw shape
      (judged-agrees (begin_verdict true r.depth r.counts.begun) (begin v r) (begun_change v r.places r.counts r.depth r.reader) (record { state = refl; answer = refl }))
  change-acts shape Write = rw shape (judged-agrees (write_verdict true r.depth) (moved (plan_write r) r) _ (moved-agrees (plan_write r)))
  change-acts shape Read = rw shape (fetched-agrees (plan_read r))

-- ---- what the code asks of the pieces

module _ (r : State) (s : InShape r) where
  pub change-precondition : (a : Action) → ChangePrecondition a (top r) r.size r.places r.counts r.depth r.reader r.words r.used
  change-precondition (Begin v) = (s.depth, s.begun)
  change-precondition Write =
      record {
        pages = s.pages_most;
        tail = omega (arith, s);
        phase = λ n. top-fits r s n;
        moved = λ n.
            record {
              move = plan-precondition r s n;
              tail = omega (arith, s);
              taken = s.taken;
              overwritten = s.overwritten;
              dropped = s.dropped;
              somebody = omega (arith, n);
            };
      }
  change-precondition Read =
      record {
        pages = s.pages_most;
        page = omega (arith, s);
        position = omega (arith, s);
        handed = s.handed;
        phase = s.phase;
        fetch = read.plan-precondition r s;
        event = read.event-precondition r s;
      }

  -- the change c where the verdict v allows it
  abbrev judged-by : Change → Result (Unit {0}) Refusal → Change
  judged-by c v = judged_change v (top r) r.places r.counts r.depth r.reader c

  abbrev begun-by : ℕ → Change
  begun-by v = begun_change v r.places r.counts r.depth r.reader

  abbrev moved_by : Change
  moved_by = moved_change (plan_write r) (top r) r.size r.places r.counts r.depth r.reader r.words r.used

  -- the place of the record that is stored is one of the stack's
  top-refused : (c : Change) (why : Refusal) → (judged-by c (Err why)).at < most_depth
  top-refused c why = omega (arith, s)

  pub change-top : (a : Action) → (change_of r a).at < most_depth
  change-top (Begin v) =
      by_cond (λ (w : Result (Unit {0}) Refusal). (judged-by (begun-by v) w).at < most_depth) (eqb r.depth most_depth)
      (λ e. top-refused (begun-by v) Depth)
      (λ e.
      let n = eqb-false r.depth most_depth e in
      by_cond (λ (w : Result (Unit {0}) Refusal). (judged-by (begun-by v) w).at < most_depth) (eqb r.counts.begun most_count)
      (λ e. top-refused (begun-by v) Worn)
      (λ e. omega (arith, s, n)))
  change-top Write =
      by_cond (λ (w : Result (Unit {0}) Refusal). (judged-by moved_by w).at < most_depth) (eqb r.depth 0)
      (λ e. top-refused moved_by Nobody)
      (λ e. omega (arith, s))
  change-top Read = omega (arith, s)

  -- the cells are within the arrays; a refusal stores to none
  pub change-stores : (a : Action) → StoresPrecondition (change_of r a).stores
  change-stores (Begin v) =
      by_cond (λ (w : Result (Unit {0}) Refusal). StoresPrecondition (judged-by (begun-by v) w).stores) (eqb r.depth most_depth)
      (λ e. tt)
      (λ e. by_cond (λ (w : Result (Unit {0}) Refusal). StoresPrecondition (judged-by (begun-by v) w).stores) (eqb r.counts.begun most_count) (λ e. tt) (λ e. tt))
  change-stores Write =
      by_cond (λ (w : Result (Unit {0}) Refusal). StoresPrecondition (judged-by moved_by w).stores) (eqb r.depth 0)
      (λ e. tt)
      (λ e. stores-precondition r.size r.counts.taken (top r).value r.words s.slots_most (plan_write r) (plan-precondition r s (eqb-false r.depth 0 e)))
  change-stores Read = read-stores-precondition r.places.reader r.words (plan_read r) (read.plan-precondition r s) (omega (arith, s))
