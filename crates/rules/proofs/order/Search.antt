-- What the search for the HEADER word tells: the page found has it and is a ring page, and where none is found no ring page has it.
-- Assumes nothing.
use mathlib.Core.Path.{◌≡◌, refl, sym, ◌∙◌}
use mathlib.Core.Logic.{◌≢◌}
use mathlib.Core.Bool.{Bool, true, false, not, true≢false}
use mathlib.Core.List.{List}
use Prim.Native.Nat.{ℕ, zero, suc, ◌+◌, ◌≤◌, ◌<◌}
use native.Mathlib.Omega.{arith}
use borrow.Author.Tests.{eqb-true, eqb-false, not-true, eq-eqb, ne_eqb}
use lib.Dec.{eqb}
use Rattle.std.proofs.lemmas.Bool.{and_parts}
use Rattle.std.specs.Prelude.{Option, Some, None}
use Rattle.rules.specs.Lists.{or_at, least}
use Rattle.rules.specs.State.{page}
use Rattle.rules.specs.Words.{same_page, heads, found_at, find_header}
use Rattle.rules.specs.declared.state.PageNo.{PageNo}
use Rattle.rules.proofs.Lists.{by-eq}
use Rattle.rules.proofs.invariant.Order.{next_of, flag_of}

-- a number below k that passes, or that none does
abbrev LeastIs : (ℕ → Bool) → ℕ → Option ℕ → Type 0
LeastIs f k None = (i : ℕ) → i < k → f i ≡ false
LeastIs f k (Some p) = (p < k) × (f p ≡ true)

least-is : (f : ℕ → Bool) (k : ℕ) → LeastIs f k (least k f)
least-is f zero = λ i h. absurd (omega arith)
least-is f (suc k) = go (least k f) (least-is f k) (f k) refl
  where
    go : (l : Option ℕ) → LeastIs f k l → (b : Bool) → f k ≡ b → LeastIs f (suc k) (or_at l b k)
    go (Some p) h b e = (omega arith, h.1)
    go None h true e = (omega arith, e)
    go None h false e = λ i l. by-eq i k (λ q. rw q e) (λ n. h i (omega arith))

-- what is told of a page found, and where none is
abbrev pub Tells : List ℕ → ℕ → ℕ → Option (PageNo × PageNo) → Type 0
Tells words N R (Some (p, h)) = (p.0 ≤ N) × (p.0 ≢ R) × (flag_of words p.0 ≡ 1) × (h.0 ≡ next_of words p.0)
Tells words N R None = (p : ℕ) → p ≤ N → p ≢ R → flag_of words p ≢ 1

-- a page that the search stops at is not the reader page
heads-off : (words : List ℕ) (reader : PageNo) (p : ℕ) → heads words reader p ≡ true → p ≢ reader.0
heads-off words reader p h = eqb-false p reader.0 (not-true (eqb p reader.0) (and_parts _ _ h).0)

heads-marked : (words : List ℕ) (reader : PageNo) (p : ℕ) → heads words reader p ≡ true → flag_of words p ≡ 1
heads-marked words reader p h = eqb-true (flag_of words p) 1 (and_parts (not (same_page (page p) reader)) _ h).1

heads-false : (words : List ℕ) (reader : PageNo) (p : ℕ) → heads words reader p ≡ false → p ≢ reader.0 → flag_of words p ≢ 1
heads-false words reader p h n f = true≢false (sym (rw (ne_eqb p reader.0 n, eq-eqb (flag_of words p) 1 f) refl) ∙ h)

pub search-tells : (words : List ℕ) (n : ℕ) (reader : PageNo) → Tells words n reader.0 (find_header words n reader)
search-tells words n reader = go (least (n + 1) (heads words reader)) (least-is (heads words reader) (n + 1))
  where
    go : (l : Option ℕ) → LeastIs (heads words reader) (n + 1) l → Tells words n reader.0 (found_at words l)
    go None h = λ p hp. heads-false words reader p (h p (omega arith))
    go (Some p) h =
        (omega arith, heads-off words reader p h.1, heads-marked words reader p h.1, refl)
