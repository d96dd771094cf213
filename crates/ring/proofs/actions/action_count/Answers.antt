-- A whole action is counted, and the loop ends where none stands.
use Rattle.std.proofs.Common.{length, arith, ap, sym}
use Rattle.rules.specs.Actions.{Decoded}
use Rattle.rules.proofs.actions.Laws.{whole-moves, decoded-whole, decoded-stops}
use Rattle.ring.proofs.actions.Laws.{stops-unless-whole}
use Rattle.ring.proofs.actions.action_count.Goals as goal

pub loop-action-preserved : goal.loop-action-preserved
loop-action-preserved c =
    let here = sym c.in-Whole.ensures in
    let moves = whole-moves c.args.bytes.now c.loop-action.at here in
    let one = ap (λ (d : Decoded). length d.actions) (decoded-whole c.args.bytes.now c.loop-action.at here) in
    record { all = omega (arith, one, c.loop-action.invariant.all); bytes_enough = omega (arith, moves) }

pub returns : goal.returns
returns c =
    let stops = stops-unless-whole c.action_at.result c.in_default.not-Whole in
    let left = ap (λ (d : Decoded). length d.actions) (decoded-stops c.args.bytes.now c.loop-action.at (sym c.action_at.ensures) stops) in
    omega (arith, left, c.loop-action.invariant.all)
