-- Demand 3: for every accepted set-up and every list of actions the whole claim holds of the run. By the invariant, which holds after every list (runs/Always).
-- Assumes nothing.
use mathlib.Core.Path.{◌≡◌, refl, sym, subst}
use mathlib.Core.Bool.{true}
use Rattle.rules.specs.Shape.{in_shape}
use Rattle.rules.specs.Receipt.{receipt_of, receipt_rule}
use Rattle.rules.specs.History.{Run}
use Rattle.rules.specs.Demand.{Claim, CompleteClaim, RunClaim, Demand3}
use Rattle.rules.specs.State.{State}
use Rattle.rules.specs.declared.state.Receipt.{Receipt}
use Rattle.rules.proofs.demand.Claim.{demand}
use Rattle.rules.proofs.demand.Complete.{complete}
use Rattle.rules.proofs.demand.Refusals.{sound}
use Rattle.rules.proofs.demand.Shape.{invariant-in_shape}
use Rattle.rules.proofs.runs.Always.{always}
use Rattle.rules.proofs.runs.Invariant.{Invariant}

-- the receipt of a ring in shape tells its counts
receipt-is : (s : State) → in_shape s ≡ true → receipt_rule s ≡ receipt_of s.counts
receipt-is s fits = rw fits refl

module _ {r : Run} (g : Invariant r.now r.past) where
  fits : in_shape r.now ≡ true
  fits = invariant-in_shape g.control g.accounts g.bounds

  claim : Claim (receipt_of r.now.counts) r
  claim = demand g.control g.accounts g.fates g.none_open

  complete-claim : CompleteClaim (receipt_of r.now.counts) r
  complete-claim = complete r.now r.past g.fates g.accounts.recorded.ordered g.accounts.balance claim

  whole-claim : RunClaim r
  whole-claim =
      let own = sym (receipt-is r.now fits) in
      record {
        demand = subst (λ (c : Receipt). Claim c r) own claim;
        complete = subst (λ (c : Receipt). CompleteClaim c r) own complete-claim;
        sound = sound r.now fits;
      }

pub demand-3 : Demand3
demand-3 pages slots mode accepted actions = whole-claim (always pages slots mode accepted actions)
