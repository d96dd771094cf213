-- What holds of every move that a Write may decide on holds of the one that it decides on. By the phase, and the tests of its rule.
-- Assumes nothing.
use mathlib.Core.Bool.{◌&&◌, ◌||◌}
use Prim.Native.Nat.{ℕ}
use lib.Dec.{eqb, ltb}
use Rattle.std.specs.Prelude.{Option, Some, None}
use Rattle.rules.specs.Limits.{stop_mode, header_flag, update_flag}
use Rattle.rules.specs.State.{word_at, used_at, top, State}
use Rattle.rules.specs.Words.{page_in, flag_in, same_page, reader_on_commit, links}
use Rattle.rules.specs.Write.{plan_drop, plan_full, after_promote, promote_by, promote_look, plan_filled, plan_phase, plan_write}
use Rattle.rules.specs.declared.state.PageNo.{PageNo}
use Rattle.rules.specs.declared.state.WriterPhase.{WriterPhase}
use Rattle.rules.specs.declared.state.WriterPhase.TheVariants as phase
use Rattle.rules.specs.declared.state.Answer.TheVariants as answer
use Rattle.rules.specs.declared.moves.Move.{Move}
use Rattle.rules.specs.declared.moves.Move.TheVariants as move
use Rattle.rules.proofs.Lists.{by_cond}

pub record Moves (P : Move → Type 0) (depth : ℕ) : Type 0 where
  pub looked : (next : WriterPhase) → P (move.Become next answer.Looked)
  pub shared : (next : WriterPhase) → P (move.Become next answer.Shared)
  pub retry : (next : WriterPhase) → P (move.Become next answer.Retry)
  pub standing : (next : WriterPhase) → P (move.Become next answer.Standing)
  pub cleared : (next : WriterPhase) → P (move.Become next answer.Cleared)
  pub passed : (next : WriterPhase) → P (move.Become next answer.Passed)
  pub reserve : (t : PageNo) (slot : ℕ) → P (move.Reserve t slot)
  pub drop : P (plan_drop depth)
  pub mark : (t n : PageNo) → P (move.Mark t n)
  pub promote : (n : PageNo) (next : WriterPhase) → P (move.Promote n next)
  pub clear : (t n : PageNo) → P (move.Clear t n)
  pub push : (n : PageNo) → P (move.Push n)
  pub fill : (p : PageNo) (slot : ℕ) → P (move.Fill p slot)
  pub filled : P (plan_filled depth)

module _ (P : Move → Type 0) (s : State) (m : Moves P s.depth) where
  -- each by `search`, and none named: so it holds of a rule with another case too, and such a rule is refused where it is false
  full : (n : PageNo) (flag : ℕ) → P (plan_full s.size s.places s.depth n flag)
  full n flag =
      by_cond P (same_page s.places.tail s.places.reader) (λ e. search (m.looked, m.drop)) (λ e.
      by_cond P (same_page n s.places.commit) (λ e. search (m.looked, m.drop)) (λ e.
      by_cond P (eqb flag header_flag && reader_on_commit s.places) (λ e. search (m.looked, m.drop)) (λ e.
      by_cond P (eqb flag header_flag && eqb s.size.mode stop_mode) (λ e. search (m.looked, m.drop)) (λ e.
      by_cond P (eqb flag header_flag || eqb flag update_flag) (λ e. search (m.looked, m.drop)) (λ e. search (m.looked, m.drop))))))

  promoted : (found : Option (PageNo × PageNo)) (n : PageNo) (next : WriterPhase) → P (promote_by found n next)
  promoted (Some (p, h)) n next = m.standing next
  promoted None n next = m.promote n next

  by-phase : (ph : WriterPhase) → P (plan_phase ph s.size s.places s.depth s.words s.used)
  by-phase phase.Want =
      by_cond P (ltb (used_at s.used s.places.tail) s.size.slots)
      (λ e. m.reserve _ _)
      (λ e. full (page_in (word_at s.words s.places.tail)) (flag_in (word_at s.words s.places.tail)))
  by-phase (phase.Mark t n) =
      by_cond P (links s.words t n header_flag) (λ e. m.mark t n) (λ e.
      by_cond P (links s.words t n update_flag) (λ e. m.shared _) (λ e. m.retry _))
  by-phase (phase.Promote t n own) = promoted (promote_look s.size s.places n s.words) n (after_promote t n own)
  by-phase (phase.Clear t n) = by_cond P (links s.words t n update_flag) (λ e. m.clear t n) (λ e. m.cleared _)
  by-phase (phase.Push t n) = by_cond P (same_page s.places.tail t) (λ e. m.push n) (λ e. m.passed _)
  by-phase (phase.Held p slot) = m.fill p slot
  by-phase phase.Filled = m.filled

  pub of-planned : P (plan_write s)
  of-planned = by-phase (top s).phase
