-- A fresh ring's words: their bounds.
-- Assumes nothing.
use Prim.Native.Nat.{ℕ, ◌+◌, ◌≤◌}
use native.Mathlib.Omega.{arith}
use borrow.Author.Tests.{ltb-true}
use lib.Dec.{eqb, ltb}
use Rattle.rules.specs.SetUp.{fresh_next, fresh_flag}
use Rattle.rules.proofs.Lists.{by_bool, by_cond}

pub fresh_next-most : (n i : ℕ) → fresh_next n i ≤ i + 1
fresh_next-most n i = by_cond (λ (k : ℕ). k ≤ i + 1) (ltb (i + 1) n) (λ e. omega arith) (λ e. omega arith)

pub fresh_next-pages : (n i : ℕ) → fresh_next n i ≤ n
fresh_next-pages n i =
    by_bool (ltb (i + 1) n)
    (λ e. rw e (omega (arith, ltb-true (i + 1) n e)))
    (λ e. rw e (omega arith))

pub fresh_flag-most : (n i : ℕ) → fresh_flag n i ≤ 1
fresh_flag-most n i = by_cond (λ (k : ℕ). k ≤ 1) (eqb (i + 1) n) (λ e. omega arith) (λ e. omega arith)
