-- A turn: its ring is in shape, so that `make` makes the action; there is room for the answer; and with the answer laid it is one action more.
-- Assumes nothing.
use Rattle.std.proofs.Common.{◌≡◌, ℕ, ◌+◌, ◌*◌, ◌≤◌, length, List, arith, ap, sym, ◌∙◌}
use Rattle.rules.specs.Actions.{decoded, coded_at}
use Rattle.rules.specs.Answers.{Outcome}
use Rattle.rules.specs.Codes.{numbers_of}
use Rattle.rules.specs.Replay.{numbers_per_answer}
use Rattle.rules.specs.State.{State}
use Rattle.rules.specs.declared.state.Action.{Action}
use Rattle.rules.specs.declared.codes.Numbers.{Numbers}
use Rattle.rules.specs.declared.actions.Coded.TheVariants.{Whole}
use Rattle.ring.specs.Replay.{laid_at}
use Rattle.rules.proofs.actions.Laws.{decoded-stops}
use Rattle.ring.proofs.actions.Laws.{stops-unless-whole}
use Rattle.ring.proofs.replay.Laws.{Progress, shaped, one_left, buffer-length, turn, finish}
use Rattle.ring.proofs.state.Ring.run.Goals as goal

-- there is room for the answer
buffer-here :
    {r0 : State} {bytes buffer0 : List ℕ} {r : State} {buffer : List ℕ} {at made : ℕ} {a : Action} {next : ℕ} →
    Progress r0 bytes buffer0 r buffer at made →
    coded_at bytes at ≡ Whole a next →
    numbers_per_answer * length (decoded bytes).actions ≤ length buffer0 →
    numbers_per_answer * made + 3 ≤ length buffer
buffer-here p e fits = omega (arith, one_left p e, buffer-length p fits, fits)

pub make-answer-requires : goal.make-answer-requires
make-answer-requires c = shaped c.loop-action.invariant c.requires.0

pub lay_answer-requires : goal.lay_answer-requires
lay_answer-requires c = omega (arith, buffer-here c.loop-action.invariant (sym c.in-Whole.ensures) c.requires.1)

pub loop-action-preserved : goal.loop-action-preserved
loop-action-preserved c =
    let made = c.make-answer.ensures in
    turn c.loop-action.invariant c.requires.1 (sym c.in-Whole.ensures) (ap (λ (o : Outcome). o.state) made)
    (c.lay_answer.ensures
    ∙ ap (λ (n : Numbers). laid_at c.loop-action.buffer (numbers_per_answer * c.loop-action.made) n) c.answer_numbers.ensures
    ∙ ap (λ (o : Outcome). laid_at c.loop-action.buffer (numbers_per_answer * c.loop-action.made) (numbers_of o.answer)) made)

pub returns : goal.returns
returns c =
    let stops = stops-unless-whole c.action_at.result c.in_default.not-Whole in
    let f = finish c.loop-action.invariant (decoded-stops c.args.bytes.now c.loop-action.at (sym c.action_at.ensures) stops) in
    (c.ended.ensures ∙ f.0, f.1)
