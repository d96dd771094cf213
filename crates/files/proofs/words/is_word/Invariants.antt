-- `words::is_word` is the definition. The loop's invariant: `same` is the test of the bytes before `i`. Assumes nothing.
use Rattle.files.specs.Words.{same_at}
use Rattle.ring.proofs.Loops.{Tested}
use Rattle.files.proofs.words.is_word.Given as goal

abbrev pub invariant-loop-i : goal.invariant-loop-i
invariant-loop-i l = Tested (same_at l.bytes l.word) l.i l.same
