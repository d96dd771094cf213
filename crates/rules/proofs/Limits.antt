-- The limits agree: there is a place for the reader page beside the most pages, a slot's place for each of the most slots of each page, and a
-- number of 32 bits for each reading that may be counted. By computation.
-- Assumes nothing.
use mathlib.Core.Path.{refl}
use Rattle.rules.specs.Limits.{LimitsAgree}

pub limits-agree : LimitsAgree
limits-agree = record { pages = refl; slots = refl; count = refl }
