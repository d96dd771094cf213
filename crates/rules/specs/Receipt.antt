-- The receipt.
-- Assumes nothing.
use Rattle.std.specs.Prelude.{◌≡◌, Bool, true, false, cond, ℕ, ◌+◌, ◌-◌, ◌≤◌, eqb}
use Rattle.rules.specs.Limits.{most_count}
use Rattle.rules.specs.Answers.{refusal_number}
use Rattle.rules.specs.Shape.{in_shape}
use Rattle.rules.specs.State.{State}
use Rattle.rules.specs.declared.state.Counts.{Counts}
use Rattle.rules.specs.declared.state.Refusal.TheVariants.{Shape}
use Rattle.rules.specs.declared.state.Receipt.{Receipt}

-- the refusal's number, the seven counts in the paper's order, and complete
abbrev pub receipt : ℕ → ℕ → ℕ → ℕ → ℕ → ℕ → ℕ → ℕ → Bool → Receipt
receipt refusal begun taken handed overwritten dropped waiting «open» complete =
    record {
      refusal = refusal;
      begun = begun;
      taken = taken;
      handed = handed;
      overwritten = overwritten;
      dropped = dropped;
      waiting = waiting;
      «open» = «open»;
      complete = complete;
    }

-- "waiting = committed − handed − overwritten"
abbrev pub waiting : Counts → ℕ
waiting c = c.committed - c.handed - c.overwritten

-- "open = taken − committed"
abbrev pub uncommitted : Counts → ℕ
uncommitted c = c.taken - c.committed

-- "Complete exactly when begun = handed."
abbrev pub complete : Counts → Bool
complete c = eqb c.begun c.handed

-- "Begun, taken, handed, overwritten, dropped; waiting ...; open ..."
abbrev pub receipt_of : Counts → Receipt
receipt_of c =
    receipt 0 c.begun c.taken c.handed c.overwritten c.dropped (waiting c) (uncommitted c) (complete c)

-- refusal 1: "receipt all zero, not complete"
abbrev pub refused_receipt : Receipt
refused_receipt = receipt (refusal_number Shape) 0 0 0 0 0 0 0 false

abbrev pub receipt_rule : State → Receipt
receipt_rule r = cond (in_shape r) (receipt_of r.counts) refused_receipt

-- "A fresh ring is complete, 0 of 0."
abbrev pub fresh_receipt : Receipt
fresh_receipt = receipt 0 0 0 0 0 0 0 0 true

-- ---- where the readings begun are: a receipt adds up

-- begun and not yet given a place
abbrev pub unplaced : Receipt → ℕ
unplaced r = r.begun - r.taken - r.dropped

-- lost to newer readings, or for want of room
abbrev pub lost : Receipt → ℕ
lost r = r.overwritten + r.dropped

-- still in the logger: finished, not finished, or not yet given a place
abbrev pub remaining : Receipt → ℕ
remaining r = r.waiting + r.«open» + unplaced r

-- Every reading begun is handed out, lost or still in the logger, and those taken are handed out, overwritten, waiting or open; where the receipt is not
-- refused, it is complete exactly when none is lost and none is still in the logger.
pub record AddsUp (r : Receipt) : Type 0 where
  pub begun : r.handed + lost r + remaining r ≡ r.begun
  pub taken : r.handed + r.overwritten + r.waiting + r.«open» ≡ r.taken
  pub small : r.begun ≤ most_count
  pub complete : r.refusal ≡ 0 → r.complete ≡ true → lost r + remaining r ≡ 0
  pub none : r.refusal ≡ 0 → lost r + remaining r ≡ 0 → r.complete ≡ true

-- of every state, in shape or not
abbrev pub ReceiptsAddUp : Type 0
ReceiptsAddUp = (s : State) → AddsUp (receipt_rule s)
