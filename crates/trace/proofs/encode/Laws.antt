-- What the proofs of the encoder and of the round trip share: where a call is not refused the bytes lent suffice.
-- Assumes nothing.
use mathlib.Core.Path.{◌≡◌, refl}
use mathlib.Core.Bool.{true, not}
use Prim.Native.Nat.{ℕ, ◌+◌, ◌≤◌}
use borrow.Author.Tests.{leb-true, ltb-false, not-false}
use lib.Dec.{ltb}
use Rattle.std.specs.Prelude.{Result, Ok, Err}
use Rattle.rules.specs.Limits.{most_pages, most_slots, stop_mode}
use Rattle.rules.specs.State.{size_of}
use Rattle.rules.specs.Shape.{size_tests, size_fits}
use Rattle.trace.specs.Header.{most_length, first_action}
use Rattle.trace.specs.Encode.{place_for, header_place}
use Rattle.rules.specs.declared.state.Refusal.{Refusal}
use Rattle.rules.proofs.Lists.{by_cond, each}

-- ---- what an accepted set-up is

pub record Small (n s m : ℕ) : Type 0 where
  pub pages : n ≤ most_pages
  pub slots : s ≤ most_slots
  pub mode : m ≤ stop_mode

pub small : (pages slots mode : ℕ) → size_fits (size_of pages slots mode) ≡ true → Small pages slots mode
small pages slots mode h =
    let t = each (size_tests (size_of pages slots mode)) h in
    record {
      pages = leb-true pages most_pages t.1.0;
      slots = leb-true slots most_slots t.1.1.1.0;
      mode = leb-true mode stop_mode t.1.1.1.1.0;
    }

-- ---- what is so where a call gives a place

-- a fact of a place, and none of a refusal
abbrev WherePut : (ℕ → Type 0) → Result ℕ Refusal → Type 0
WherePut P (Ok next) = P next
WherePut P (Err why) = Unit {0}

pub record Placed (capacity at count next : ℕ) : Type 0 where
  pub after : next ≡ at + count
  pub short : next ≤ most_length
  pub fits : next ≤ capacity

place-put : (capacity at count : ℕ) → WherePut (Placed capacity at count) (place_for capacity at count)
place-put capacity at count =
    by_cond (WherePut (Placed capacity at count)) (ltb most_length (at + count)) (λ _. tt)
    (λ s. by_cond (WherePut (Placed capacity at count)) (ltb capacity (at + count)) (λ _. tt)
    (λ f. record { after = refl; short = ltb-false most_length (at + count) s; fits = ltb-false capacity (at + count) f }))

pub placed : {next : ℕ} (capacity at count : ℕ) → place_for capacity at count ≡ Ok next → Placed capacity at count next
placed capacity at count e = rw e at (place-put capacity at count)

pub record HeaderPlaced (capacity pages slots mode next : ℕ) : Type 0 where
  pub after : next ≡ first_action
  pub accepted : size_fits (size_of pages slots mode) ≡ true
  pub fits : first_action ≤ capacity

header-put : (capacity pages slots mode : ℕ) → WherePut (HeaderPlaced capacity pages slots mode) (header_place capacity pages slots mode)
header-put capacity pages slots mode =
    by_cond (WherePut (HeaderPlaced capacity pages slots mode)) (not (size_fits (size_of pages slots mode))) (λ _. tt)
    (λ s. by_cond (WherePut (HeaderPlaced capacity pages slots mode)) (ltb capacity first_action) (λ _. tt)
    (λ f. record { after = refl; accepted = not-false (size_fits (size_of pages slots mode)) s; fits = ltb-false capacity first_action f }))

pub header-placed : {next : ℕ} (capacity pages slots mode : ℕ) → header_place capacity pages slots mode ≡ Ok next → HeaderPlaced capacity pages slots mode next
header-placed capacity pages slots mode e = rw e at (header-put capacity pages slots mode)
