-- A change that is decided on a ring in shape and stored is the action (`change-acts`, proofs/change/Laws). Assumes nothing.
use Rattle.std.proofs.Common.{ap, sym, ◌∙◌}
use Rattle.rules.specs.Act.{act}
use Rattle.rules.specs.Answers.{gives}
use Rattle.rules.specs.State.{State}
use Rattle.rules.specs.declared.state.Answer.{Answer}
use Rattle.ring.specs.Ring.{state_of}
use Rattle.ring.specs.Change.{changed}
use Rattle.ring.specs.declared.change.Change.{Change}
use Rattle.rules.proofs.shape.Laws.{in-shape}
use Rattle.ring.proofs.act.Laws.{act-plain}
use Rattle.ring.proofs.change.Laws.{change-acts, change-precondition, change-top, change-stores}
use Rattle.ring.proofs.state.Ring.make.Goals as goal

pub change_by-change-requires : goal.change_by-change-requires
change_by-change-requires c =
    let s = in-shape (state_of c.args.self.now) c.requires in
    (s.depth, change-precondition (state_of c.args.self.now) s c.args.action)

pub apply-requires : goal.apply-requires
apply-requires c =
    let s = in-shape (state_of c.args.self.now) c.requires in
    rw c.change_by-change.ensures (change-top (state_of c.args.self.now) s c.args.action, change-stores (state_of c.args.self.now) s c.args.action)

pub returns : goal.returns
returns c =
    let agrees = change-acts (state_of c.args.self.now) c.requires c.args.action in
    ap (λ (s : State). gives c.change_by-change.result.answer s) (c.apply.ensures ∙ ap (λ (k : Change). changed k (state_of c.args.self.now)) c.change_by-change.ensures ∙ sym agrees.state)
    ∙ ap (λ (a : Answer). gives a (act (state_of c.args.self.now) c.args.action).state) (ap (λ (k : Change). k.answer) c.change_by-change.ensures ∙ sym agrees.answer)
    ∙ act-plain (state_of c.args.self.now) c.args.action
