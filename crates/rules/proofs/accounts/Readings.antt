-- Lists of readings: one reading more, all of them committed; and that the k-th has the number k, so that a search by number and a look by place find the same one.
-- Assumes nothing.
use mathlib.Core.Path.{◌≡◌, refl, sym, ap, ◌∙◌}
use mathlib.Core.Bool.{true}
use mathlib.Core.List.{List, [], ◌∷◌, ◌++◌}
use Prim.Native.Nat.{ℕ, zero, suc, ◌+◌, ◌<◌}
use native.Mathlib.Omega.{arith}
use borrow.Author.Tests.{eq-eqb, ne_eqb}
use lib.Dec.{ltb}
use lib.ListN.{length, get_or-append}
use lib.Seq.{get_or_at}
use Rattle.rules.specs.Remember.{Numbered}
use Rattle.rules.specs.History.{all_committed}
use Rattle.rules.specs.Demand.{One, unnumbered, reading_of, own_value, is_committed, ReservedAt}
use Rattle.rules.proofs.invariant.Accounts.{nth_reading, nth_value, Ordered}

-- ---- one reading more

pub nth_reading-before : (readings : List Numbered) (q : Numbered) (k : ℕ) → k < length readings → nth_reading (readings ++ (q ∷ [])) k ≡ nth_reading readings k
nth_reading-before readings q k h = get_or-append readings (q ∷ []) unnumbered k h

pub nth_reading-last : (readings : List Numbered) (q : Numbered) (k : ℕ) → length readings ≡ k → nth_reading (readings ++ (q ∷ [])) k ≡ q
nth_reading-last readings q k e = get_or_at readings q [] unnumbered k e

-- ---- all of them committed

pub length-all_committed : (readings : List Numbered) → length (all_committed readings) ≡ length readings
length-all_committed [] = refl
length-all_committed (x ∷ rest) = ap suc (length-all_committed rest)

pub all_committed-number : (readings : List Numbered) (k : ℕ) → (nth_reading (all_committed readings) k).number ≡ (nth_reading readings k).number
all_committed-number [] k = refl
all_committed-number (x ∷ rest) zero = refl
all_committed-number (x ∷ rest) (suc k) = all_committed-number rest k

pub all_committed-own : (readings : List Numbered) (k : ℕ) → (nth_reading (all_committed readings) k).own ≡ (nth_reading readings k).own
all_committed-own [] k = refl
all_committed-own (x ∷ rest) zero = refl
all_committed-own (x ∷ rest) (suc k) = all_committed-own rest k

pub all_committed-committed : (readings : List Numbered) (k : ℕ) → k < length readings → (nth_reading (all_committed readings) k).committed ≡ true
all_committed-committed [] k h = absurd (omega arith)
all_committed-committed (x ∷ rest) zero h = refl
all_committed-committed (x ∷ rest) (suc k) h = all_committed-committed rest k (omega arith)

-- ---- a reading by its number

-- in a list numbered from `from` on
search-at : (readings : List Numbered) (from m : ℕ) → ((k : ℕ) → k < length readings → (nth_reading readings k).number ≡ from + k) → m < length readings
    → reading_of readings (from + m) ≡ nth_reading readings m
search-at [] from m order lt = absurd (omega arith)
search-at (x ∷ rest) from zero order lt = rw (eq-eqb x.number (from + 0) (order 0 (omega arith)))
search-at (x ∷ rest) from (suc m) order lt =
    let here : x.number ≡ from + 0 = order 0 (omega arith) in
    let later : (k : ℕ) → k < length rest → (nth_reading rest k).number ≡ suc from + k = λ k l. order (suc k) (omega arith) ∙ omega arith in
    rw (ne_eqb x.number (from + suc m) (λ e. omega arith)) (ap (reading_of rest) (omega arith) ∙ search-at rest (suc from) m later (omega arith))

module _ {readings : List Numbered} {taken committed : ℕ} (o : Ordered readings taken committed) where
  reading-at : (m : ℕ) → m < taken → reading_of readings m ≡ nth_reading readings m
  reading-at m lt = ap (reading_of readings) (omega arith) ∙ search-at readings 0 m (λ k l. o.nth k (omega arith) ∙ omega arith) (omega arith)

  pub committed-at : (m : ℕ) → m < taken → is_committed readings m ≡ ltb m committed
  committed-at m lt = ap (λ (x : Numbered). x.committed) (reading-at m lt) ∙ o.committed_below m lt

  pub own_at : (m : ℕ) → m < taken → own_value readings m ≡ nth_value readings m
  own_at m lt = ap (λ (x : Numbered). x.own.value) (reading-at m lt)

  -- ---- the numbers that Reserved gave

  -- the k-th gave the number k
  number_is : (m k : ℕ) → ReservedAt readings m k → k ≡ m
  number_is m k x = sym (o.nth k (omega arith)) ∙ x.gave

  pub numbered_below : (m k : ℕ) → ReservedAt readings m k → m < taken
  numbered_below m k x = omega (arith, number_is m k x)

  pub numbered-once : (m : ℕ) → m < taken → One (ReservedAt readings m)
  numbered-once m lt = record { it = m; has = record { below = omega arith; gave = o.nth m lt }; alone = number_is m }
