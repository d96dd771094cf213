-- The numbers handed out, by their places in the list of Events: they rise, so each was given once, and each with its own value.
-- Assumes nothing.
use mathlib.Core.Path.{◌≡◌, ap, ◌∙◌}
use mathlib.Core.List.{List}
use Prim.Native.Nat.{ℕ, ◌+◌, ◌<◌}
use native.Mathlib.Omega.{arith}
use Rattle.rules.specs.Remember.{Numbered, ReadEvent}
use Rattle.rules.specs.Demand.{One, EventAt, EventIn}
use Rattle.rules.proofs.Lists.{by-lt}
use Rattle.rules.proofs.invariant.Accounts.{nth_value, given_value, Past}

-- ---- what an Event gave

module _ {events : List ReadEvent} {lost : List ℕ} {readings : List Numbered} {handed overwritten r0 position uR gap : ℕ}
    (past : Past events lost readings handed overwritten r0 position uR gap) where
  pub given-low : {m k : ℕ} → EventAt events m k → m < r0 + position
  given-low {k = k} x = omega (arith, past.given k x.below)

  pub given-value : {m k : ℕ} → EventAt events m k → given_value events k ≡ nth_value readings m
  given-value {k = k} x = past.own k x.below ∙ ap (nth_value readings) x.gave

  pub given-rising : {m n j k : ℕ} → EventAt events m j → EventAt events n k → j < k → m < n
  given-rising {j = j} {k = k} x y lt = omega (arith, past.rising j k lt y.below)

  given-once : {m j k : ℕ} → EventAt events m j → EventAt events m k → j ≡ k
  given-once {j = j} {k = k} x y =
      by-lt j k
      (λ lt. absurd (omega (arith, given-rising x y lt)))
      (λ le. by-lt k j (λ lt. absurd (omega (arith, given-rising y x lt))) (λ ge. omega arith))

  pub handed-once : {m : ℕ} → EventIn events m → One (EventAt events m)
  handed-once x = record { it = x.nth; has = x.event; alone = λ k y. given-once y x.event }
