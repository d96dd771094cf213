-- The first page with a HEADER word is found.
use Rattle.std.proofs.Common.{◌+◌, arith}
use Rattle.ring.proofs.Loops.{unseen-seen}
use Rattle.ring.proofs.state.Ring.find_header.Goals as goal

pub returns-then-ne-flag_in : goal.returns-then-ne-flag_in
returns-then-ne-flag_in c =
    let heads-i = rw (c.flag_in.ensures, c.word_at-w.ensures, c.ne.ensures) at c.if-ne-flag_in.true in
    rw (unseen-seen (c.args.self.now.size.pages + 1) c.loop-i.invariant (omega arith) heads-i, c.page_in.ensures, c.word_at-w.ensures)
