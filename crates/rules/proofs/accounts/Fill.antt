-- HELD keeps the accounts: the value goes into the held slot, and it is the slot's number's own.
-- Assumes nothing.
use mathlib.Core.Path.{◌≡◌, refl, sym, ap, ◌∙◌, subst}
use mathlib.Core.List.{List}
use Prim.Native.Nat.{ℕ, ◌≤◌, ◌<◌}
use native.Mathlib.Omega.{arith}
use lib.ListN.{get_or, set, length-set}
use lib.Seq.{get_or-set_same, get_or-set_other}
use Rattle.rules.specs.State.{page, top, State}
use Rattle.rules.specs.Write.{fill}
use Rattle.rules.specs.Remember.{History}
use Rattle.rules.specs.declared.state.WriterPhase.TheVariants as phase
use Rattle.rules.specs.declared.state.Writer.{Writer}
use Rattle.rules.proofs.Lists.{by-eq}
use Rattle.rules.proofs.invariant.Order.{N, S, R, top_at, used_of, cell, phase_at, rephase, Held, place}
use Rattle.rules.proofs.invariant.Control.{Control}
use Rattle.rules.proofs.invariant.Accounts.{nth_value, Holding, HeldOk, early, Accounts}
use Rattle.rules.proofs.accounts.Laws.{work-top, cell_room}
use Rattle.rules.proofs.accounts.Phase.{held-top, unheld, balance-top, earlies-set}
use Rattle.rules.proofs.control.Phase.{placed-le}
use Rattle.rules.proofs.order.Places.{page-once}

module _ {s : State} {h : History} {L : ℕ → ℕ} {pc pt a r0 gap : ℕ} (v : Control s L pc pt) (b : Accounts s h L pc pt a r0 gap) (deep : 1 ≤ s.depth)
    (p j : ℕ) (phase-is : (top s).phase ≡ Held p j) where
  abbrev value : ℕ
  value = (top s).value

  abbrev values' : List ℕ
  values' = set s.values (cell (S s) p j) value

  abbrev filled : Writer
  filled = rephase s.stack (top_at s) phase.Filled

  holding : Holding s.numbers s.used (S s) (place (R s) L) pc pt s.counts.committed h.readings p j value
  holding =
      subst (HeldOk s.numbers s.used (S s) (place (R s) L) pc pt s.counts.committed h.readings value) phase-is (b.values.held (top_at s) (omega arith))

  p≤N : p ≤ N s
  p≤N = placed-le v holding.k p holding.is

  j<S : j < S s
  j<S = omega (arith, b.contents.cap p p≤N, holding.slot)

  -- in the slot itself
  stored_here : get_or values' (cell (S s) p j) 0 ≡ nth_value h.readings (get_or s.numbers (cell (S s) p j) 0)
  stored_here =
      let room = cell_room (S s) p j (omega (arith, p≤N, b.contents.sizes.pages)) b.contents.sizes.slots (omega (arith, j<S, b.contents.sizes.slots)) in
      get_or-set_same s.values (cell (S s) p j) value 0 (omega (arith, b.contents.rooms.values_room)) ∙ holding.own

  -- in any slot that no record holds now
  stored : (q i : ℕ) → q ≤ N s → i < used_of s q → ((k : ℕ) → k < s.depth → phase_at (set s.stack (top_at s) filled) k ≡ Held q i → ⊥)
      → get_or values' (cell (S s) q i) 0 ≡ nth_value h.readings (get_or s.numbers (cell (S s) q i) 0)
  stored q i hq hi free =
      by-eq (cell (S s) q i) (cell (S s) p j)
      (λ same.
      ap (λ (k : ℕ). get_or values' k 0) same ∙ stored_here ∙ ap (λ (k : ℕ). nth_value h.readings (get_or s.numbers k 0)) (sym same))
      (λ other.
      get_or-set_other s.values (cell (S s) p j) (cell (S s) q i) value 0 other
      ∙ b.values.stored q i hq hi (unheld b deep v.depth filled q i (λ y. other (moved (sym phase-is ∙ y))) free))
    where
      moved : Held p j ≡ Held q i → cell (S s) q i ≡ cell (S s) p j
      moved y =
          let same : p ≡ q = page-once cc in
          cc

  pub filled-accounts : Accounts (fill (page p) j s) h L pc pt a r0 gap
  filled-accounts =
      record {
        contents = record {
          sizes = b.contents.sizes;
          rooms = record { numbers_room = b.contents.rooms.numbers_room; values_room = length-set s.values (cell (S s) p j) value ∙ b.contents.rooms.values_room };
          cap = b.contents.cap;
          numbers = b.contents.numbers;
        };
        sums = b.sums;
        values = record { held = held-top b deep v.depth filled tt; stored = stored };
        quiet = b.quiet;
        recorded = b.recorded;
        work = work-top h.marker s.stack s.depth (top_at s) filled h.working (omega (arith, v.depth)) refl (λ k o. absurd o) b.work;
        balance =
            omega (arith, balance-top b deep v.depth, earlies-set b deep v.depth filled, ap early phase-is);
        stack_room = length-set s.stack (top_at s) filled ∙ b.stack_room;
      }
