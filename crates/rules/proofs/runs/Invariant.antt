-- The whole invariant of a ring and a history: control and accounts over the same witnesses, fates, bounds, and none open with no writer at work.
-- Assumes nothing.
use Prim.Native.Nat.{ℕ}
use Rattle.rules.specs.Answers.{Outcome}
use Rattle.rules.specs.Remember.{History}
use Rattle.rules.specs.History.{recall}
use Rattle.rules.specs.State.{State}
use Rattle.rules.proofs.invariant.Control.{Control}
use Rattle.rules.proofs.invariant.Accounts.{Accounts}
use Rattle.rules.proofs.invariant.Fates.{FatesOf}
use Rattle.rules.proofs.invariant.Bounds.{BoundsOf}
use Rattle.rules.proofs.invariant.Open.{NoneOpen}

pub record Invariant (s : State) (h : History) : Type 0 where
  -- the order of the ring pages, the places of commit page and tail page
  pub L : ℕ → ℕ
  pub pc : ℕ
  pub pt : ℕ
  -- by which the numbers are told, see Accounts
  pub a : ℕ
  pub r0 : ℕ
  pub gap : ℕ
  pub control : Control s L pc pt
  pub accounts : Accounts s h L pc pt a r0 gap
  pub fates : FatesOf s h
  pub bounds : BoundsOf s
  pub none_open : NoneOpen s

pub holds : {s : State} {h : History} (L : ℕ → ℕ) (pc pt a r0 gap : ℕ) → Control s L pc pt → Accounts s h L pc pt a r0 gap → FatesOf s h
    → BoundsOf s → NoneOpen s → Invariant s h
holds L pc pt a r0 gap v b f k none =
    record {
      L = L;
      pc = pc;
      pt = pt;
      a = a;
      r0 = r0;
      gap = gap;
      control = v;
      accounts = b;
      fates = f;
      bounds = k;
      none_open = none;
    }

-- the witnesses stay
pub holds_same : {s s' : State} {h h' : History} (g : Invariant s h) → Control s' g.L g.pc g.pt → Accounts s' h' g.L g.pc g.pt g.a g.r0 g.gap
    → FatesOf s' h' → BoundsOf s' → NoneOpen s' → Invariant s' h'
holds_same g v b f k none = holds g.L g.pc g.pt g.a g.r0 g.gap v b f k none

-- the invariant after an outcome on the ring s with the history h; v is the value in the action
abbrev pub Next : ℕ → State → History → Outcome → Type 0
Next v s h o = Invariant o.state (recall v s o.answer h)
