-- Laws of Reads in a row, over rings with the invariant. `Soon k o`: with at most k Reads after the outcome o, one of the answers, that of o
-- included, is an Event, Empty or Busy, and those before it are quiet. Where this is so, Reads in a row end with such an answer, and every
-- limit above k gives the same.
-- Assumes nothing.
use mathlib.Core.Path.{◌≡◌, refl, ap}
use Prim.Native.Nat.{ℕ, zero, suc, ◌≤◌}
use native.Mathlib.Omega.{arith}
use Rattle.std.specs.Prelude.{Option, Some}
use Rattle.rules.specs.Answers.{Outcome}
use Rattle.rules.specs.Read.{read_rule}
use Rattle.rules.specs.Drain.{DrainKind, event, ending, quiet, drain_kind, DrainOutcome, drain_ends, event_first, by_kind, after_read, reads_in_row, Brought, an_event, an_empty, a_busy}
use Rattle.rules.specs.State.{State}
use Rattle.rules.specs.declared.state.Answer.{Answer}
use Rattle.rules.proofs.runs.Reached.{RingOk}
use Rattle.rules.proofs.runs.Read.{read_next}

-- a Read keeps the invariant
pub ok_read : (s : State) → RingOk s → RingOk (read_rule s).state
ok_read s g = record { history = _; all = read_next 0 s g.history g.all }

-- ---- how soon

pub data Soon : ℕ → Outcome → Type 0 where
  brought : {k : ℕ} {o : Outcome} → Brought (Some o.answer) → Soon k o
  next : {k : ℕ} {o : Outcome} → drain_kind o.answer ≡ quiet → Soon k (read_rule o.state) → Soon (suc k) o

pub not-quiet : {a : Answer} → Brought (Some a) → drain_kind a ≡ quiet → ⊥
not-quiet (an_event n v) q = cc
not-quiet an_empty q = cc
not-quiet a_busy q = cc

-- ---- Reads in a row

-- what follows an outcome: `reads_in_row later (suc left) r last` is this of the Read of r
abbrev pub following : (State → Option Answer → DrainOutcome) → ℕ → Outcome → DrainOutcome
following later left o = after_read later (reads_in_row later left) o

-- any two limits that are not too low
module _ (later later' : State → Option Answer → DrainOutcome) (same : (s : State) → RingOk s → (last : Option Answer) → later s last ≡ later' s last) where
  brought-same : (a : Answer) (s : State) → RingOk s → Brought (Some a) → (end on on' : DrainOutcome)
      → by_kind (drain_kind a) (later s (Some a)) end on ≡ by_kind (drain_kind a) (later' s (Some a)) end on'
  brought-same a s g b end on on' = go (drain_kind a) refl
    where
      go : (kind : DrainKind) → drain_kind a ≡ kind → by_kind kind (later s (Some a)) end on ≡ by_kind kind (later' s (Some a)) end on'
      go (event e) q = ap (event_first e) (same s g (Some a))
      go ending q = refl
      go quiet q = absurd (not-quiet b q)

  following-same : {k : ℕ} {o : Outcome} → Soon k o → RingOk o.state → (n m : ℕ) → k ≤ n → k ≤ m
      → following later n o ≡ following later' m o
  following-same {o = o} (brought b) g n m x y = brought-same o.answer o.state g b _ _ _
  following-same (next q rest) g zero m x y = absurd (omega arith)
  following-same (next q rest) g (suc n) zero x y = absurd (omega arith)
  following-same {o = o} (next q rest) g (suc n) (suc m) x y = rw q (following-same rest (ok_read o.state g) n m (omega arith) (omega arith))

  pub in-row-same : (k : ℕ) (s : State) → RingOk s → Soon k (read_rule s) → (n m : ℕ) → suc k ≤ n → suc k ≤ m → (last : Option Answer)
      → reads_in_row later n s last ≡ reads_in_row later' m s last
  in-row-same k s g soon zero m x y last = absurd (omega arith)
  in-row-same k s g soon (suc n) zero x y last = absurd (omega arith)
  in-row-same k s g soon (suc n) (suc m) x y last = following-same soon (ok_read s g) n m (omega arith) (omega arith)

-- the last answer
module _ (later : State → Option Answer → DrainOutcome) (lasts : (s : State) → RingOk s → (last : Option Answer) → Brought last → Brought (later s last).last) where
  brought-last : (a : Answer) (s : State) → RingOk s → Brought (Some a) → (on : DrainOutcome)
      → Brought (by_kind (drain_kind a) (later s (Some a)) (drain_ends s (Some a)) on).last
  brought-last a s g b on = go (drain_kind a) refl
    where
      go : (kind : DrainKind) → drain_kind a ≡ kind → Brought (by_kind kind (later s (Some a)) (drain_ends s (Some a)) on).last
      go (event e) q = lasts s g (Some a) b
      go ending q = b
      go quiet q = absurd (not-quiet b q)

  following-brings : {k : ℕ} {o : Outcome} → Soon k o → RingOk o.state → (n : ℕ) → k ≤ n → Brought (following later n o).last
  following-brings {o = o} (brought b) g n x = brought-last o.answer o.state g b _
  following-brings (next q rest) g zero x = absurd (omega arith)
  following-brings {o = o} (next q rest) g (suc n) x = rw q (following-brings rest (ok_read o.state g) n (omega arith))

  pub in-row-brings : (k : ℕ) (s : State) → RingOk s → Soon k (read_rule s) → (n : ℕ) → suc k ≤ n → (last : Option Answer)
      → Brought (reads_in_row later n s last).last
  in-row-brings k s g soon zero x last = absurd (omega arith)
  in-row-brings k s g soon (suc n) x last = following-brings soon (ok_read s g) n (omega arith)
