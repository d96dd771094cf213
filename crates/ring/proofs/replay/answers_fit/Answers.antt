-- Where the buffer has a place for each byte, it has room for the answer of each action: there are not more actions than bytes. Else they are counted.
use Rattle.std.proofs.Common.{◌≡◌, ℕ, ◌*◌, ◌/◌, leb, length, arith, sym, ◌∙◌}
use borrow.Author.Tests.{leb-true, leb-false, le-leb, lt-leb}
use Rattle.rules.specs.Actions.{decoded}
use Rattle.rules.specs.Replay.{numbers_per_answer}
use Rattle.rules.proofs.Lists.{by_bool}
use Rattle.rules.proofs.actions.Laws.{few-actions}
use Rattle.ring.proofs.replay.answers_fit.Goals as goal

-- as many answers as there are places, or as numbers for them
by-places : (n room : ℕ) → leb n (room / numbers_per_answer) ≡ leb (numbers_per_answer * n) room
by-places n room =
    by_bool (leb n (room / numbers_per_answer))
    (λ e. let l = leb-true n (room / numbers_per_answer) e in e ∙ sym (le-leb (numbers_per_answer * n) room (omega arith)))
    (λ e. let l = leb-false n (room / numbers_per_answer) e in e ∙ sym (lt-leb (numbers_per_answer * n) room (omega arith)))

pub returns-then-bytes-places : goal.returns-then-bytes-places
returns-then-bytes-places c =
    let n = length (decoded c.args.bytes.now).actions in
    sym (le-leb (numbers_per_answer * n) c.args.room (omega (arith, few-actions c.args.bytes.now 0, c.if-bytes-places.true)))
