-- `Line::inside` is safe and ends. The measure is what is left of the name. Assumes nothing.
use Rattle.std.proofs.Common.{length}
use Rattle.text.proofs.put.Line.inside.Given as goal

abbrev pub decreases-loop-left : goal.decreases-loop-left
decreases-loop-left l = length l.left
