-- Every place from the commit page's on falls by one: what an overwriting and a swap have in common, for the pages that writers have seen.
-- Assumes nothing.
use mathlib.Core.Path.{◌≡◌, ◌∙◌}
use mathlib.Core.List.{List}
use Prim.Native.Nat.{ℕ, ◌-◌, ◌≤◌}
use native.Mathlib.Omega.{arith}
use lib.ListN.{get_or}
use Rattle.rules.proofs.invariant.Control.{At}

module _ {used used' : List ℕ} {S : ℕ} {P P' : ℕ → ℕ} {pc pt : ℕ} (ahead : 1 ≤ pc) (lower : (i : ℕ) → pc ≤ i → i ≤ pt → P' (i - 1) ≡ P i)
    (kept : (t : ℕ) → At used S P pc pt t → get_or used' t 0 ≡ get_or used t 0) where
  pub spot-lower : (t : ℕ) → At used S P pc pt t → At used' S P' (pc - 1) (pt - 1) t
  spot-lower t a =
      record {
        k = a.k - 1;
        lo = omega (arith, a.lo);
        hi = omega (arith, a.hi);
        is = lower a.k a.lo a.hi ∙ a.is;
        full = kept t a ∙ a.full;
      }
