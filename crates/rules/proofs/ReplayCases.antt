-- The worked replays hold of the rules. By computation.
-- Assumes nothing.
use mathlib.Core.Path.{refl}
use Rattle.rules.specs.Actions.{decoded_from}
use Rattle.rules.specs.ReplayCases.{thirteen_begins, ReplayCases}

pub replay-cases : ReplayCases
unfolding decoded_from thirteen_begins
replay-cases =
    record {
      bytes = refl;
      enough = refl;
      made = refl;
      short = refl;
      number = refl;
      kept = refl;
      none = refl;
      first = refl;
      before = refl;
      stop = refl;
      offset = refl;
    }
