-- The worked drains hold of the rules. By computation.
-- Assumes nothing.
use mathlib.Core.Path.{refl}
use Rattle.rules.specs.Shape.{numbers_fit, layout_fits, in_shape}
use Rattle.rules.specs.SetUp.{fresh_words}
use Rattle.rules.specs.DrainCases.{two_readings, commit_ahead, commit_nowhere, position_past, none_committed, DrainCases}

pub drain-cases : DrainCases
unfolding numbers_fit layout_fits in_shape fresh_words two_readings commit_ahead commit_nowhere position_past none_committed
drain-cases =
    record {
      events = refl;
      empty = refl;
      rest = refl;
      full = refl;
      told = refl;
      refused = refl;
      refused_position = refl;
      no_read = refl;
      eighth = refl;
      out_of_shape = refl;
      out_of_shape_last = refl;
    }
