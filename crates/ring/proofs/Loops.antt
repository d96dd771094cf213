-- What loops keep: the numbers below i are tested, none of them is the one looked for, so many elements are stored; the one that is found, and one
-- store more.
-- Assumes nothing.
use mathlib.Core.Path.{◌≡◌, ap, ◌∙◌}
use mathlib.Core.Bool.{Bool, true}
use mathlib.Core.List.{List, [], ◌∷◌, ◌++◌}
use Prim.Native.Nat.{ℕ, suc, ◌+◌, ◌-◌, ◌<◌}
use native.Mathlib.Omega.{arith}
use lib.ListN.{length, set}
use lib.Seq.{sets}
use Rattle.std.specs.Prelude.{Some, None}
use Rattle.rules.specs.Lists.{all_below, least}
use Rattle.rules.proofs.Lists.{least-is}

-- A loop that tests one number after the other: `ok` is the test of those below i. A record, so that f and i are found from it.
pub record Tested (f : ℕ → Bool) (i : ℕ) (ok : Bool) : Type 0 where
  pub is : ok ≡ all_below i f

-- A loop that looks for a number: none of those below i passes. A record, for the same reason.
pub record Unseen (f : ℕ → Bool) (i : ℕ) : Type 0 where
  pub is : least i f ≡ None

pub unseen-seen : {f : ℕ → Bool} {i : ℕ} (m : ℕ) → Unseen f i → i < m → f i ≡ true → least m f ≡ Some i
unseen-seen {f} {i} m h l e = least-is f m i l h.is e

-- a run of stores, and one more
pub sets_more : (xs buffer : List ℕ) (from x k : ℕ) → k ≡ length xs → sets buffer from (xs ++ (x ∷ [])) ≡ set (sets buffer from xs) (from + k) x
sets_more [] buffer from x k e =
    let here : from ≡ from + k = omega arith in
    ap (λ (j : ℕ). set buffer j x) here
sets_more (y ∷ xs) buffer from x k e =
    let there : suc from + (k - 1) ≡ from + k = omega arith in
    sets_more xs (set buffer from y) (suc from) x (k - 1) (omega arith) ∙ ap (λ (j : ℕ). set (sets (set buffer from y) (suc from) xs) j x) there
