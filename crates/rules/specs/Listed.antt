-- Demand 1: every action, receipt and set-up is refused just as the table lists it, and otherwise not. Of every state, in shape or not, reached or not.
-- "Refusals by number". The numbers are the table's own; no verdict and no refusal's name is used to say them.
-- Assumes nothing.
use Rattle.std.specs.Prelude.{◌≡◌, ◌≢◌, false, not, [], ◌∷◌, ℕ, eqb}
use Rattle.rules.specs.Limits.{most_depth, most_count}
use Rattle.rules.specs.Lists.{first}
use Rattle.rules.specs.State.{size_of, State}
use Rattle.rules.specs.Shape.{size_fits, in_shape}
use Rattle.rules.specs.SetUp.{plain_ring, fresh_rule}
use Rattle.rules.specs.Act.{act}
use Rattle.rules.specs.Receipt.{receipt, receipt_rule}
use Rattle.rules.specs.declared.state.Action.{Action}
use Rattle.rules.specs.declared.state.Action.TheVariants.{Begin, Write, Read}
use Rattle.rules.specs.declared.state.Receipt.{Receipt}

-- ---- the table: the number that is listed, 0 where nothing is refused

-- 1 for "an action ... on a state not in shape", 2 for "Begin at depth 4", 4 for "Begin with begun = 4,294,967,295", 3 for "Write at depth 0".
-- "Order: 1 before all, 2 before 4."
abbrev pub listed : State → Action → ℕ
listed r (Begin v) = first ((not (in_shape r), 1) ∷ (eqb r.depth most_depth, 2) ∷ (eqb r.counts.begun most_count, 4) ∷ []) 0
listed r Write = first ((not (in_shape r), 1) ∷ (eqb r.depth 0, 3) ∷ []) 0
listed r Read = first ((not (in_shape r), 1) ∷ []) 0

-- 1 for "an action or receipt on a state not in shape"
abbrev pub listed_receipt : State → ℕ
listed_receipt r = first ((not (in_shape r), 1) ∷ []) 0

-- 5 for "fresh with N, S or mode out of range"
abbrev pub listed_set_up : ℕ → ℕ → ℕ → ℕ
listed_set_up pages slots mode = first ((not (size_fits (size_of pages slots mode)), 5) ∷ []) 0

-- "receipt all zero, not complete", with the number 1 in it
abbrev pub zeros : Receipt
zeros = receipt 1 0 0 0 0 0 0 0 false

-- ---- demand 1

-- of a state: every action, and the receipt
pub record AsListed (r : State) : Type 0 where
  pub refusals : (a : Action) → (act r a).tells.refusal ≡ listed r a
  -- "Comes back": "the same state"
  pub same : (a : Action) → listed r a ≢ 0 → (act r a).state ≡ r
  pub receipt : (receipt_rule r).refusal ≡ listed_receipt r
  pub zero : listed_receipt r ≢ 0 → receipt_rule r ≡ zeros

-- of a set-up
pub record SetUpAsListed (pages slots mode : ℕ) : Type 0 where
  pub refusal : (fresh_rule pages slots mode).tells.refusal ≡ listed_set_up pages slots mode
  -- "Comes back": "the plain ring"
  pub plain : listed_set_up pages slots mode ≢ 0 → (fresh_rule pages slots mode).state ≡ plain_ring

pub record Demand1 : Type 0 where
  pub states : (r : State) → AsListed r
  pub set_ups : (pages slots mode : ℕ) → SetUpAsListed pages slots mode
