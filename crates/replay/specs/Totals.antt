-- The status that the program tells: the worst of what happened. Assumes nothing.
use Rattle.std.specs.Prelude.{cond, ◌&&◌, ◌==◌}
use Rattle.files.specs.declared.status.Status.{Status}
use Rattle.files.specs.declared.status.Status.TheVariants.{Whole, Refused, NotWritten}
use Rattle.replay.specs.declared.totals.Totals.{Totals}

-- all was read whole exactly when none was refused and none could not be read; and something that was not written comes before both
abbrev pub status_of : Totals → Status
status_of t = cond t.written (cond (t.refused == 0 && t.unreadable == 0) Whole Refused) NotWritten
