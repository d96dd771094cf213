-- The numbers that a receipt is printed with besides its own counts: those of the rules, in 64 bits, and that 64 bits are enough.
-- Assumes nothing.
use Rattle.std.specs.Prelude.{◌≡◌, ℕ, ◌+◌, ◌%◌, ◌^◌}
use Rattle.rules.specs.State.{State}
use Rattle.rules.specs.Receipt.{receipt_rule, lost, remaining}
use Rattle.rules.specs.declared.state.Receipt.{Receipt}

-- a number as 64 bits hold it
abbrev pub word64 : ℕ → ℕ
word64 n = n % 2 ^ 64

-- the six places together: handed out, lost in two ways, and still in the logger in three
abbrev pub sum_of_six : Receipt → ℕ
sum_of_six r = r.handed + lost r + remaining r

-- What is printed of a receipt is what it is, and the six places are the readings begun.
pub record Printed (r : Receipt) : Type 0 where
  pub lost_is : word64 (lost r) ≡ lost r
  pub remaining_is : word64 (remaining r) ≡ remaining r
  pub sum_is : word64 (sum_of_six r) ≡ r.begun

-- of every ring's receipt, whatever its state
abbrev pub ReceiptsPrinted : Type 0
ReceiptsPrinted = (s : State) → Printed (receipt_rule s)
