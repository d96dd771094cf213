-- Every receipt adds up, whatever the state: of one in shape by the inequalities of its counts, of any other because all is 0.
-- Assumes nothing.
use mathlib.Core.Path.{refl}
use Prim.Native.Nat.{◌+◌, ◌≤◌}
use native.Mathlib.Omega.{arith}
use borrow.Author.Tests.{eqb-true, eq-eqb}
use Rattle.rules.specs.Limits.{most_count}
use Rattle.rules.specs.Shape.{in_shape}
use Rattle.rules.specs.Receipt.{receipt_of, refused_receipt, AddsUp, ReceiptsAddUp}
use Rattle.rules.specs.declared.state.Counts.{Counts}
use Rattle.rules.proofs.Lists.{by_bool}
use Rattle.rules.proofs.shape.Laws.{in-shape}

-- of counts that are in shape
counts-add-up :
    (c : Counts) →
    c.begun ≤ most_count →
    c.handed + c.overwritten ≤ c.committed →
    c.committed ≤ c.taken →
    c.taken + c.dropped ≤ c.begun →
    AddsUp (receipt_of c)
counts-add-up c b h t d =
    record {
      begun = omega arith;
      taken = omega arith;
      small = b;
      complete = λ z e. omega (arith, eqb-true c.begun c.handed e);
      none = λ z e. eq-eqb c.begun c.handed (omega (arith, e));
    }

-- of a receipt that is refused
refused-adds-up : AddsUp refused_receipt
refused-adds-up =
    record {
      begun = refl;
      taken = refl;
      small = omega arith;
      complete = λ z e. refl;
      none = λ z e. absurd (omega (arith, z));
    }

pub receipts-add-up : ReceiptsAddUp
receipts-add-up s =
    by_bool
    (in_shape s)
    (λ fits.
    let i = in-shape s fits in
    rw fits (counts-add-up s.counts i.begun i.handed_overwritten i.committed_taken i.taken_dropped))
    (λ broken. rw broken refused-adds-up)
