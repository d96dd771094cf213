-- The worked traces hold of the definitions. By computation.
-- Assumes nothing.
use mathlib.Core.Path.{refl}
use Rattle.rules.specs.Actions.{decoded_from}
use Rattle.trace.specs.Replays.{replayed_from}
use Rattle.trace.specs.TraceCases.{broken, TraceCases}

pub trace-cases : TraceCases
unfolding decoded_from replayed_from broken
trace-cases =
    record {
      nine = refl;
      made = refl;
      ten = refl;
      ready = refl;
      mark = refl;
      version = refl;
      sizes = refl;
      put = refl;
      long = refl;
      short = refl;
    }
