-- The numbers lost are those that lay on a page taken: an overwriting's own numbers first, then those of the overwritings after it.
-- Assumes nothing.
use mathlib.Core.Path.{◌≡◌, sym, ap, ◌∙◌}
use mathlib.Core.Logic.{◌⊎◌, inl, inr, ⊎_elim}
use mathlib.Core.List.{List, [], ◌∷◌, ◌++◌}
use Prim.Native.Nat.{ℕ, ◌+◌, ◌-◌, ◌<◌}
use native.Mathlib.Omega.{arith}
use lib.ListN.{length, get_or, length-append, get_or-append}
use lib.Seq.{get_or-append-add}
use Rattle.rules.specs.State.{used_at, number_at}
use Rattle.rules.specs.Remember.{Overwriting}
use Rattle.rules.specs.Demand.{Some, LayBelow}
use Rattle.rules.proofs.Lists.{by-lt}
use Rattle.rules.proofs.invariant.Accounts.{numbers_on, lost_of, Lost}
use Rattle.rules.proofs.accounts.Lost.{numbers_on-length, numbers_on-at}

-- ---- lost in a part of the list

lost-left : {xs : List ℕ} {m : ℕ} (ys : List ℕ) → Lost xs m → Lost (xs ++ ys) m
lost-left {xs} ys k = record { nth = k.nth; below = simp length-append (omega arith); is = get_or-append xs ys 0 k.nth k.below ∙ k.is }

lost-right : {ys : List ℕ} {m : ℕ} (xs : List ℕ) → Lost ys m → Lost (xs ++ ys) m
lost-right {ys} xs k = record { nth = length xs + k.nth; below = simp length-append (omega arith); is = get_or-append-add xs ys k.nth 0 ∙ k.is }

lost-parts : (xs ys : List ℕ) (m : ℕ) → Lost (xs ++ ys) m → Lost xs m ⊎ Lost ys m
lost-parts xs ys m k =
    by-lt k.nth (length xs)
    (λ lt. inl (record { nth = k.nth; below = lt; is = sym (get_or-append xs ys 0 k.nth lt) ∙ k.is }))
    (λ le.
    let i : ℕ = k.nth - length xs in
    let e : length xs + (k.nth - length xs) ≡ k.nth = omega arith in
    inr (record { nth = i; below = omega (arith, length-append xs ys); is = sym (get_or-append-add xs ys i 0) ∙ rw e k.is }))

-- ---- one overwriting

-- the numbers on the page taken
abbrev takes : Overwriting → List ℕ
takes o = numbers_on o.before o.page 0 (used_at o.before.used o.page)

module _ (o : Overwriting) where
  takes-length : length (takes o) ≡ used_at o.before.used o.page
  takes-length = numbers_on-length o.before o.page 0 (used_at o.before.used o.page)

  takes_at : (j : ℕ) → j < used_at o.before.used o.page → get_or (takes o) j 0 ≡ number_at o.before o.page j
  takes_at j lt = numbers_on-at o.before o.page 0 (used_at o.before.used o.page) j lt ∙ ap (number_at o.before o.page) (omega arith)

  lay-lost : {m : ℕ} → LayBelow m o → Lost (takes o) m
  lay-lost k = record { nth = k.slot; below = rw takes-length k.below; is = takes_at k.slot k.below ∙ k.number }

  lost-lay : {m : ℕ} → Lost (takes o) m → LayBelow m o
  lost-lay k =
      let lt : k.nth < used_at o.before.used o.page = rw takes-length at k.below in
      record { slot = k.nth; below = lt; number = sym (takes_at k.nth lt) ∙ k.is }

-- ---- all of them

pub lost-in : (os : List Overwriting) (m : ℕ) → Some (LayBelow m) os → Lost (lost_of os) m
lost-in [] m k = absurd k
lost-in (o ∷ rest) m k = ⊎_elim (λ l. lost-left (lost_of rest) (lay-lost o l)) (λ l. lost-right (takes o) (lost-in rest m l)) k

pub lost-out : (os : List Overwriting) (m : ℕ) → Lost (lost_of os) m → Some (LayBelow m) os
lost-out [] m k = absurd (omega arith)
lost-out (o ∷ rest) m k = ⊎_elim (λ l. inl (lost-lay o l)) (λ l. inr (lost-out rest m l)) (lost-parts (takes o) (lost_of rest) m k)
