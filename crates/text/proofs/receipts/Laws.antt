-- What is printed of a receipt is what it is: it adds up to the readings begun, which 64 bits hold with ease. Assumes nothing.
use Rattle.std.proofs.Common.{◌≡◌, ℕ, ◌≤◌, arith}
use Rattle.rules.specs.Limits.{most_count}
use Rattle.rules.specs.Receipt.{receipt_rule, AddsUp}
use Rattle.rules.specs.declared.state.Receipt.{Receipt}
use Rattle.rules.proofs.Receipt.{receipts-add-up}
use Rattle.text.specs.Receipts.{word64, Printed, ReceiptsPrinted}

-- a number that is at most a count's limit
word-is : (n m : ℕ) → n ≤ m → m ≤ most_count → word64 n ≡ n
word-is n m l k = omega arith

printed : (r : Receipt) → AddsUp r → Printed r
printed r a =
    record {
      lost_is = word-is _ r.begun (omega (arith, a.begun)) a.small;
      remaining_is = word-is _ r.begun (omega (arith, a.begun)) a.small;
      sum_is = rw a.begun (word-is r.begun r.begun (omega arith) a.small);
    }

pub receipts-printed : ReceiptsPrinted
receipts-printed s = printed (receipt_rule s) (receipts-add-up s)
