-- One more reading is laid.
use Rattle.std.proofs.Common.{sym, add-one}
use Rattle.rules.specs.Lists.{tabulate}
use Rattle.ring.specs.Turn.{stored_event}
use Rattle.rules.proofs.Lists.{length-tabulate}
use Rattle.ring.proofs.Loops.{sets_more}
use Rattle.ring.proofs.state.Ring.lay_events.Goals as goal

pub loop-i-preserved : goal.loop-i-preserved
loop-i-preserved c =
    let a = c.args in
    let i = c.loop-i.i in
    let f = stored_event a.self.now.numbers a.self.now.values a.from in
    rw (c.loop-i.invariant, c.event_number.ensures, add-one) (sym (sets_more (tabulate i f) a.buffer.now a.at (f i) i (sym (length-tabulate f i))))
