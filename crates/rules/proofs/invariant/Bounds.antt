-- The fourth part of the invariant, bounds: what the other parts leave open of a ring in shape.
-- Assumes nothing.
use mathlib.Core.List.{List}
use Prim.Native.Nat.{ℕ, ◌≤◌, ◌<◌}
use lib.ListN.{get_or}
use Rattle.rules.specs.Limits.{most_count, stop_mode}
use Rattle.rules.specs.State.{State}
use Rattle.rules.specs.declared.state.WriterPhase.{WriterPhase}
use Rattle.rules.specs.declared.state.WriterPhase.TheVariants as phase
use Rattle.rules.specs.declared.state.Writer.{Writer}
use Rattle.rules.proofs.invariant.Order.{N, R, next_of, phase_at}

-- the page n that a MARK names is at most N
abbrev pub AimFits : ℕ → WriterPhase → Type 0
AimFits N phase.Want = Unit {0}
AimFits N (phase.Mark t n) = n.0 ≤ N
AimFits N (phase.Promote t n own) = Unit {0}
AimFits N (phase.Clear t n) = Unit {0}
AimFits N (phase.Push t n) = Unit {0}
AimFits N (phase.Held p slot) = Unit {0}
AimFits N phase.Filled = Unit {0}

-- A step makes this record anew, field by field: `record b { .. }` keeps the type of b, and this type names what the step changes.
pub record Bounds (N mode begun taken R : ℕ) (words numbers : List ℕ) (stack : List Writer) (depth : ℕ) : Type 0 where
  pub mode_fits : mode ≤ stop_mode
  pub begun_fits : begun ≤ most_count
  pub numbers_fit : (k : ℕ) → get_or numbers k 0 ≤ taken
  pub reader_fits : next_of words R ≤ N
  pub aims : (i : ℕ) → i < depth → AimFits N (phase_at stack i)

abbrev pub BoundsOf : State → Type 0
BoundsOf s = Bounds (N s) s.size.mode s.counts.begun s.counts.taken (R s) s.words s.numbers s.stack s.depth
