-- Laws of the tests and lists of specs/Lists: what `every`, `all_below` and `least` tell, and what a tabulated list holds; and case splits on tests.
-- Assumes nothing.
use mathlib.Core.Path.{◌≡◌, refl, sym, ap, ◌∙◌}
use mathlib.Core.Bool.{Bool, true, false, cond, ◌&&◌, true≢false}
use mathlib.Core.List.{List, [], ◌∷◌}
use Prim.Native.Nat.{ℕ, zero, suc, ◌≤◌, ◌<◌}
use native.Mathlib.Omega.{arith}
use native.Mathlib.Numerals.{add-one}
use borrow.Author.Tests.{ltb-true, ltb-false, eqb-true, eqb-false}
use lib.Dec.{eqb, ltb}
use lib.ListN.{length, get_or, replicate, length-append, get_or-append}
use lib.Seq.{get_or-append_seam}
use Rattle.std.proofs.lemmas.Bool.{and_from, and_parts}
use Rattle.std.specs.Prelude.{Some, None}
use Rattle.std.specs.List.{list_all}
use Rattle.rules.specs.Lists.{and_then, every, all_below, least, tabulate}

-- ---- case splits

pub by_bool : {P : Type 0} (b : Bool) → (b ≡ true → P) → (b ≡ false → P) → P
by_bool true x y = x refl
by_bool false x y = y refl

pub by-eq : {P : Type 0} (a b : ℕ) → (a ≡ b → P) → ((a ≡ b → ⊥) → P) → P
by-eq a b x y = by_bool (eqb a b) (λ e. x (eqb-true a b e)) (λ e. y (eqb-false a b e))

pub by-lt : {P : Type 0} (a b : ℕ) → (a < b → P) → (b ≤ a → P) → P
by-lt a b x y = by_bool (ltb a b) (λ e. x (ltb-true a b e)) (λ e. y (ltb-false a b e))

-- a fact of both branches is a fact of the choice
pub by_cond : {A : Type 0} (P : A → Type 0) (b : Bool) {x y : A} → (b ≡ true → P x) → (b ≡ false → P y) → P (cond b x y)
by_cond P true f g = f refl
by_cond P false f g = g refl

-- ---- tests taken together

pub and-three : (a b c : Bool) → (a && b) && c ≡ true → (a ≡ true) × (b ≡ true) × (c ≡ true)
and-three a b c h =
    let both = and_parts (a && b) c h in
    let two = and_parts a b both.0 in
    (two.0, two.1, both.1)

pub and-false : (a b : Bool) → a && b ≡ false → a ≡ true → b ≡ false
and-false true b h e = h
and-false false b h e = absurd (true≢false (sym e))

-- each test of a list passes
abbrev pub Each : List Bool → Type 0
Each [] = Unit {0}
Each (b ∷ bs) = (b ≡ true) × Each bs

each_from : (a : Bool) (bs : List Bool) → and_then a bs ≡ true → (a ≡ true) × Each bs
each_from a [] h = (h, tt)
each_from a (b ∷ bs) h =
    let r = each_from (a && b) bs h in
    let both = and_parts a b r.0 in
    (both.0, (both.1, r.1))

pub each : (bs : List Bool) → every bs ≡ true → Each bs
each [] h = tt
each (b ∷ bs) h = each_from b bs h

every-from : (a : Bool) (bs : List Bool) → a ≡ true → Each bs → and_then a bs ≡ true
every-from a [] h e = h
every-from a (b ∷ bs) h e = every-from (a && b) bs (and_from a b h e.0) e.1

pub every-each : (bs : List Bool) → Each bs → every bs ≡ true
every-each [] e = refl
every-each (b ∷ bs) e = every-from b bs e.0 e.1

-- ---- tests of every number below a bound, and of every element

module _ (f : ℕ → Bool) where
  pub all_below-at : (m i : ℕ) → all_below m f ≡ true → i < m → f i ≡ true
  all_below-at zero i h l = absurd (omega arith)
  all_below-at (suc m) i h l =
      by-eq i m
      (λ q. rw q (and_parts (all_below m f) (f m) h).1)
      (λ n. all_below-at m i (and_parts (all_below m f) (f m) h).0 (omega arith))

  pub all_below-all : (m : ℕ) → ((i : ℕ) → i < m → f i ≡ true) → all_below m f ≡ true
  all_below-all zero h = refl
  all_below-all (suc m) h = rw (all_below-all m (λ i l. h i (omega arith))) (h m (omega arith))

  pub all_get_d : (xs : List ℕ) → ((i : ℕ) → f (get_or xs i 0) ≡ true) → list_all f xs ≡ true
  all_get_d [] h = refl
  all_get_d (x ∷ xs) h = rw (h 0) (all_get_d xs (λ i. h (suc i)))

-- ---- the lowest number that passes

module _ (f : ℕ → Bool) where
  pub least-is : (m i : ℕ) → i < m → least i f ≡ None → f i ≡ true → least m f ≡ Some i
  least-is zero i l h e = absurd (omega arith)
  least-is (suc m) i l h e = by-eq i m (λ q. rw (← q, h, e)) (λ n. rw (least-is m i (omega arith) h e))

-- ---- a list made of a function

module _ (f : ℕ → ℕ) where
  pub length-tabulate : (k : ℕ) → length (tabulate k f) ≡ k
  length-tabulate zero = refl
  length-tabulate (suc k) = simp length-append (rw (length-tabulate k) (add-one k))

  pub get_d_tabulate : (k i : ℕ) → i < k → get_or (tabulate k f) i 0 ≡ f i
  get_d_tabulate zero i h = absurd (omega arith)
  get_d_tabulate (suc k) i h =
      let l = length-tabulate k in
      by-eq i (length (tabulate k f))
      (λ q. rw q (get_or-append_seam (tabulate k f) (f k) [] 0 ∙ ap f (sym l)))
      (λ n. get_or-append (tabulate k f) (f k ∷ []) 0 i (omega arith) ∙ get_d_tabulate k i (omega arith))

-- ---- a list of zeros, at any place: the library's get_or-replicate is of the places below its length

pub zeros : (k i : ℕ) → get_or {A = ℕ} (replicate k 0) i 0 ≡ 0
zeros zero i = refl
zeros (suc k) zero = refl
zeros (suc k) (suc i) = zeros k i
