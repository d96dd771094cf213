-- K1 to K12 hold of the rules, for any values in the readings of K9 to K11. By computation.
-- Assumes nothing.
use mathlib.Core.Path.{refl}
use Prim.Native.Nat.{ℕ}
use Rattle.rules.specs.Shape.{numbers_fit, layout_fits, in_shape}
use Rattle.rules.specs.SetUp.{fresh_words}
use Rattle.rules.specs.Cases.{Holds, k1_to_k8, k9, k10, k11, table}

pub cases-hold : (A B C D E : ℕ) → Holds (table A B C D E)
unfolding numbers_fit layout_fits in_shape fresh_words k1_to_k8 k9 k10 k11 table
cases-hold A B C D E = refl
