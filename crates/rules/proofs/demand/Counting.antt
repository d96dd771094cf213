-- Counting the numbers below n that have a property: one count only, all or fewer, a rising list, an interval, and a split in four.
-- Assumes nothing.
use mathlib.Core.Path.{◌≡◌, refl, sym, ap, subst}
use mathlib.Core.Logic.{◌≢◌}
use Prim.Native.Nat.{ℕ, zero, suc, ◌+◌, ◌-◌, ◌≤◌, ◌<◌}
use native.Mathlib.Omega.{arith}
use Rattle.rules.specs.Demand.{ExactlyOne, only_first, only_second, only_third, only_fourth, Count, start, counted, skipped}
use Rattle.rules.proofs.Lists.{by-eq, by-lt}

-- ---- one count only

pub count_map : {A B : ℕ → Type 0} {n k : ℕ} → ((m : ℕ) → m < n → A m → B m) → ((m : ℕ) → m < n → B m → A m) → Count A n k → Count B n k
count_map to from start = start
count_map to from (counted {n = n} c p) = counted (count_map (λ m h. to m (omega arith)) (λ m h. from m (omega arith)) c) (to n (omega arith) p)
count_map to from (skipped {n = n} c p) = skipped (count_map (λ m h. to m (omega arith)) (λ m h. from m (omega arith)) c) (λ q. p (from n (omega arith) q))

pub count-once : {A : ℕ → Type 0} {n j k : ℕ} → Count A n j → Count A n k → j ≡ k
count-once start start = refl
count-once (counted c p) (counted d q) = ap suc (count-once c d)
count-once (counted c p) (skipped d q) = absurd (q p)
count-once (skipped c p) (counted d q) = absurd (p q)
count-once (skipped c p) (skipped d q) = count-once c d

-- ---- all or fewer

pub count-le : {A : ℕ → Type 0} {n k : ℕ} → Count A n k → k ≤ n
count-le start = omega arith
count-le (counted c p) = omega (arith, count-le c)
count-le (skipped c p) = omega (arith, count-le c)

pub count-full : {A : ℕ → Type 0} (n : ℕ) → ((m : ℕ) → m < n → A m) → Count A n n
count-full zero all = start
count-full (suc n) all = counted (count-full n (λ m h. all m (omega arith))) (all n (omega arith))

pub count-all : {A : ℕ → Type 0} {n k : ℕ} → Count A n k → k ≡ n → (m : ℕ) → m < n → A m
count-all start q m h = absurd (omega arith)
count-all {A} (counted {n = n} c p) q m h = by-eq m n (λ e. subst A (sym e) p) (λ ne. count-all c (omega arith) m (omega arith))
count-all (skipped c p) q m h = absurd (omega (arith, count-le c))

-- ---- a rising list

-- m is one of f 0, f 1, .. f (c - 1)
pub record Listed (f : ℕ → ℕ) (c m : ℕ) : Type 0 where
  pub nth : ℕ
  pub below : nth < c
  pub is : f nth ≡ m

listed_more : {f : ℕ → ℕ} {c m : ℕ} → Listed f c m → Listed f (suc c) m
listed_more l = record { nth = l.nth; below = omega arith; is = l.is }

-- the last one is another
listed-less : {f : ℕ → ℕ} {c m : ℕ} → f c ≢ m → Listed f (suc c) m → Listed f c m
listed-less {f} {c} ne l =
    let other : l.nth ≢ c = λ q. ne (rw (← q) l.is) in
    record { nth = l.nth; below = omega arith; is = l.is }

abbrev Rising : (ℕ → ℕ) → ℕ → Type 0
Rising f c = (j k : ℕ) → j < k → k < c → f j < f k

abbrev Under : (ℕ → ℕ) → ℕ → ℕ → Type 0
Under f c n = (k : ℕ) → k < c → f k < n

-- what is under n + 1, with the last one not n, is under n
under-less : {f : ℕ → ℕ} {n c : ℕ} → Rising f (suc c) → Under f (suc c) (suc n) → f c ≢ n → Under f (suc c) n
under-less {f} {n} {c} up low ne k h =
    let top : f c < n = omega (arith, low c (omega arith)) in
    by-eq k c (λ q. rw q top) (λ q. omega (arith, up k c (omega arith) (omega arith)))

skip-under : {f : ℕ → ℕ} {n c k : ℕ} → Under f c n → Count (Listed f c) n k → Count (Listed f c) (suc n) k
skip-under low count = skipped count (λ l. absurd (omega (arith, low l.nth l.below, l.is)))

count-last : {f : ℕ → ℕ} {n c : ℕ} → f c ≡ n → Count (Listed f c) n c → Count (Listed f (suc c)) (suc n) (suc c)
count-last {f} {n} {c} e count =
    counted
    (count_map (λ m h. listed_more) (λ m h. listed-less (λ q. omega arith)) count)
    (record { nth = c; below = omega arith; is = e })

pub rising-count : (f : ℕ → ℕ) (n c : ℕ) → Rising f c → Under f c n → Count (Listed f c) n c
rising-count f zero zero up low = start
rising-count f zero (suc c) up low = absurd (omega (arith, low c (omega arith)))
rising-count f (suc n) zero up low =
    let none-under : Under f 0 n = λ k h. absurd (omega arith) in
    skip-under none-under (rising-count f n zero up none-under)
rising-count f (suc n) (suc c) up low =
    by-eq (f c) n
    (λ e. count-last e (rising-count f n c (λ j k lt h. up j k lt (omega arith)) (λ k h. rw (← e) (up k c h (omega arith)))))
    (λ ne.
    let under = under-less up low ne in
    skip-under under (rising-count f n (suc c) up under))

-- ---- an interval

pub from-count : (c n : ℕ) → Count (λ m. c ≤ m) n (n - c)
from-count c zero = let q : 0 ≡ 0 - c = omega arith in rw (← q) start
from-count c (suc n) =
    by-lt n c
    (λ lt. let q : suc n - c ≡ n - c = omega arith in rw q (skipped (from-count c n) (λ le. absurd (omega arith))))
    (λ le. let q : suc n - c ≡ suc (n - c) = omega arith in rw q (counted (from-count c n) le))

-- ---- four properties, one of which each number has

pub record Parts (A B C D : ℕ → Type 0) (n : ℕ) : Type 0 where
  pub first : ℕ
  pub second : ℕ
  pub third : ℕ
  pub fourth : ℕ
  pub of_a : Count A n first
  pub of_b : Count B n second
  pub of_c : Count C n third
  pub of_d : Count D n fourth
  pub sum : first + second + third + fourth ≡ n

part : {A B C D : ℕ → Type 0} {n a b c d : ℕ} → Count A n a → Count B n b → Count C n c → Count D n d → a + b + c + d ≡ n → Parts A B C D n
part {a = a} {b = b} {c = c} {d = d} x y z w sum = record { first = a; second = b; third = c; fourth = d; of_a = x; of_b = y; of_c = z; of_d = w; sum = sum }

part-more : {A B C D : ℕ → Type 0} {n : ℕ} → Parts A B C D n → ExactlyOne (A n) (B n) (C n) (D n) → Parts A B C D (suc n)
part-more k (only_first p q r s) = part (counted k.of_a p) (skipped k.of_b q) (skipped k.of_c r) (skipped k.of_d s) (omega arith)
part-more k (only_second p q r s) = part (skipped k.of_a p) (counted k.of_b q) (skipped k.of_c r) (skipped k.of_d s) (omega arith)
part-more k (only_third p q r s) = part (skipped k.of_a p) (skipped k.of_b q) (counted k.of_c r) (skipped k.of_d s) (omega arith)
part-more k (only_fourth p q r s) = part (skipped k.of_a p) (skipped k.of_b q) (skipped k.of_c r) (counted k.of_d s) (omega arith)

pub parts : {A B C D : ℕ → Type 0} (n : ℕ) → ((m : ℕ) → m < n → ExactlyOne (A m) (B m) (C m) (D m)) → Parts A B C D n
parts zero one = part start start start start refl
parts (suc n) one = part-more (parts n (λ m h. one m (omega arith))) (one n (omega arith))
