-- E3, of every state: a Write that is answered Dropped was allowed, and its move is one of the two that drop, by the depth; no other has this answer.
-- Assumes nothing.
use mathlib.Core.Path.{◌≡◌, refl, ap}
use native.Mathlib.Omega.{arith}
use borrow.Author.Tests.{eqb-true, eqb-false}
use lib.Dec.{eqb}
use Rattle.std.specs.Prelude.{Result, Ok, Err}
use Rattle.rules.specs.State.{State}
use Rattle.rules.specs.Answers.{Outcome}
use Rattle.rules.specs.Refusals.{write_verdict, judged}
use Rattle.rules.specs.Shape.{in_shape}
use Rattle.rules.specs.Write.{plan_write, moved}
use Rattle.rules.specs.Codes.{numbers_of}
use Rattle.rules.specs.Drops.{DropLeaves, Drops}
use Rattle.rules.specs.declared.state.Refusal.{Refusal}
use Rattle.rules.specs.declared.state.Answer.{Answer}
use Rattle.rules.specs.declared.state.Answer.TheVariants.{Dropped}
use Rattle.rules.specs.declared.moves.Move.{Move}
use Rattle.rules.proofs.Lists.{by_cond}
use Rattle.rules.proofs.write.Moves.{Moves, of-planned}

-- answers are told apart by their codes
code_is : {a : Answer} → a ≡ Dropped → (numbers_of a).code ≡ 4
code_is e = ap (λ (a : Answer). (numbers_of a).code) e

module _ (s : State) where
  abbrev Leaves : Move → Type 0
  Leaves m = (moved m s).answer ≡ Dropped → DropLeaves s (moved m s).state

  each-leaves : Moves Leaves s.depth
  each-leaves =
      record {
        looked = λ next e. absurd (omega (arith, code_is e));
        shared = λ next e. absurd (omega (arith, code_is e));
        retry = λ next e. absurd (omega (arith, code_is e));
        standing = λ next e. absurd (omega (arith, code_is e));
        cleared = λ next e. absurd (omega (arith, code_is e));
        passed = λ next e. absurd (omega (arith, code_is e));
        reserve = λ t slot e. absurd (omega (arith, code_is e));
        drop =
            by_cond Leaves (eqb s.depth 1)
            (λ d e. record { counted = refl; popped = refl; moves = λ one. refl; stays = λ deeper. absurd (deeper (eqb-true s.depth 1 d)) })
            (λ d e. record { counted = refl; popped = refl; moves = λ one. absurd (eqb-false s.depth 1 d one); stays = λ deeper. refl });
        mark = λ t n e. absurd (omega (arith, code_is e));
        promote = λ n next e. absurd (omega (arith, code_is e));
        clear = λ t n e. absurd (omega (arith, code_is e));
        push = λ n e. absurd (omega (arith, code_is e));
        fill = λ p slot e. absurd (omega (arith, code_is e));
        filled =
            by_cond Leaves (eqb s.depth 1)
            (λ d e. absurd (omega (arith, code_is e)))
            (λ d e. absurd (omega (arith, code_is e)));
      }

-- a refused Write is not answered Dropped
by-verdict : (v : Result (Unit {0}) Refusal) (s : State) (o : Outcome) → (o.answer ≡ Dropped → DropLeaves s o.state) → (judged v s o).answer ≡ Dropped
    → DropLeaves s (judged v s o).state
by-verdict (Ok allowed) s o leaves e = leaves e
by-verdict (Err why) s o leaves e = absurd (omega (arith, code_is e))

pub drops : Drops
drops s = by-verdict (write_verdict (in_shape s) s.depth) s (moved (plan_write s) s) (of-planned (Leaves s) s (each-leaves s))
