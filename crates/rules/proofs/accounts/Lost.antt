-- The numbers lost: how many an overwriting adds and which, by recursion on the page's slots and on the list of overwritings.
-- Assumes nothing.
use mathlib.Core.Path.{◌≡◌, refl, ap, ◌∙◌}
use mathlib.Core.List.{List, [], ◌∷◌, ◌++◌, append_assoc, append-nil}
use Prim.Native.Nat.{ℕ, zero, suc, ◌+◌, ◌<◌}
use native.Mathlib.Omega.{arith}
use lib.ListN.{length, get_or}
use Rattle.rules.specs.State.{used_at, number_at, State}
use Rattle.rules.specs.Remember.{Overwriting}
use Rattle.rules.specs.declared.state.PageNo.{PageNo}
use Rattle.rules.proofs.invariant.Accounts.{numbers_on, lost_of}

-- ---- the numbers on a page

pub numbers_on-length : (s : State) (p : PageNo) (j k : ℕ) → length (numbers_on s p j k) ≡ k
numbers_on-length s p j zero = refl
numbers_on-length s p j (suc k) = ap suc (numbers_on-length s p (suc j) k)

pub numbers_on-at : (s : State) (p : PageNo) (j k i : ℕ) → i < k → get_or (numbers_on s p j k) i 0 ≡ number_at s p (j + i)
numbers_on-at s p j zero i h = absurd (omega arith)
numbers_on-at s p j (suc k) zero h = ap (number_at s p) (omega arith)
numbers_on-at s p j (suc k) (suc i) h = numbers_on-at s p (suc j) k i (omega arith) ∙ ap (number_at s p) (omega arith)

-- ---- one more overwriting

pub lost_of-snoc : (os : List Overwriting) (o : Overwriting)
    → lost_of (os ++ (o ∷ [])) ≡ lost_of os ++ numbers_on o.before o.page 0 (used_at o.before.used o.page)
lost_of-snoc [] o = append-nil _
lost_of-snoc (x ∷ rest) o = rw (lost_of-snoc rest o, append_assoc)
