-- The list of writers at work: one more begins, the latest, and the others once its work has ended.
-- Assumes nothing.
use mathlib.Core.Path.{◌≡◌, ap, ◌∙◌}
use mathlib.Core.List.{List, [], ◌∷◌, ◌++◌}
use Prim.Native.Nat.{ℕ, ◌+◌, ◌-◌, ◌≤◌, ◌<◌}
use native.Mathlib.Omega.{arith}
use lib.ListN.{length, length-append, get_or-append}
use lib.Seq.{get_or_at, get_or-take, length-take-le}
use Rattle.rules.specs.Remember.{BegunWriter, unbegun}
use Rattle.rules.specs.History.{latest, others}
use Rattle.rules.proofs.invariant.Accounts.{worker_at}

module _ (working : List BegunWriter) {depth : ℕ} (many : length working ≡ depth) where
  -- ---- one more

  pub begun-length : (new : BegunWriter) → length (working ++ (new ∷ [])) ≡ depth + 1
  begun-length new = length-append working (new ∷ []) ∙ omega arith

  pub begun-old : (new : BegunWriter) (i : ℕ) → i < depth → worker_at (working ++ (new ∷ [])) i ≡ worker_at working i
  begun-old new i h = get_or-append working (new ∷ []) unbegun i (omega arith)

  pub begun-new : (new : BegunWriter) → worker_at (working ++ (new ∷ [])) depth ≡ new
  begun-new new = get_or_at working new [] unbegun depth many

  -- ---- the latest and the others

  pub latest-at : latest working ≡ worker_at working (depth - 1)
  latest-at = ap (λ (k : ℕ). worker_at working (k - 1)) many

  pub others-length : 1 ≤ depth → length (others working) ≡ depth - 1
  others-length some = length-take-le (length working - 1) working (omega arith) ∙ omega arith

  pub others-at : (i : ℕ) → i < depth - 1 → worker_at (others working) i ≡ worker_at working i
  others-at i h = get_or-take (length working - 1) working i unbegun (omega arith)
