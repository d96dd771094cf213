-- Rules tried in order, tests taken together, tests of every number below a bound, and lists made of a function.
-- Assumes nothing.
use Rattle.std.specs.Prelude.{Bool, true, false, cond, ◌&&◌, List, [], ◌∷◌, ◌++◌, ℕ, zero, suc, Option, Some, None}

-- "First that applies": what stands beside the first test that passes, or else `otherwise`
abbrev pub first : {A : Type 0} → List (Bool × A) → A → A
first [] otherwise = otherwise
first (rule ∷ rules) otherwise = cond rule.0 rule.1 (first rules otherwise)

abbrev pub and_then : Bool → List Bool → Bool
and_then a [] = a
and_then a (b ∷ bs) = and_then (a && b) bs

-- every test of the list passes: `every (a ∷ b ∷ c ∷ [])` is `a && b && c`
abbrev pub every : List Bool → Bool
every [] = true
every (b ∷ bs) = and_then b bs

-- every number below the bound passes the test
abbrev pub all_below : ℕ → (ℕ → Bool) → Bool
all_below zero f = true
all_below (suc k) f = all_below k f && f k

-- the number found, or else k where it passes
abbrev pub or_at : Option ℕ → Bool → ℕ → Option ℕ
or_at (Some p) b k = Some p
or_at None true k = Some k
or_at None false k = None

-- the lowest number below the bound that passes the test
abbrev pub least : ℕ → (ℕ → Bool) → Option ℕ
least zero f = None
least (suc k) f = or_at (least k f) (f k) k

-- f 0, f 1, .. f (k - 1)
abbrev pub tabulate : ℕ → (ℕ → ℕ) → List ℕ
tabulate zero f = []
tabulate (suc k) f = tabulate k f ++ (f k ∷ [])
