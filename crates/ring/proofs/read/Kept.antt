-- What a Read leaves of the shape: a ring in shape with other pieces that fit is in shape; and the cells that a Read stores to fit.
-- Assumes nothing.
use mathlib.Core.Path.{◌≡◌}
use mathlib.Core.Bool.{Bool, true}
use mathlib.Core.List.{List}
use Prim.Native.Nat.{ℕ, ◌+◌, ◌*◌, ◌/◌, ◌%◌, ◌≤◌, ◌<◌}
use native.Mathlib.Omega.{arith}
use borrow.Author.Tests.{le-leb, ne_eqb}
use lib.Dec.{leb}
use lib.ListN.{length, get_or, set}
use lib.Seq.{get_or-set_same, get_or-set_other, set_out}
use Rattle.std.proofs.lemmas.Bool.{and_from, and_parts}
use Rattle.rules.specs.Limits.{both_flags}
use Rattle.rules.specs.State.{with_reader, with_places, with_counts, with_words, with_used, State}
use Rattle.rules.specs.Words.{word_of}
use Rattle.rules.specs.Shape.{places_fit, counts_fit, reader_fits, word_fits, word_fits_at, words_fit, used_fits_at, used_fit, layout_tests, layout_fits, ring_fits, numbers_fit, in_shape}
use Rattle.rules.specs.declared.state.PageNo.{PageNo}
use Rattle.rules.specs.declared.state.Size.{Size}
use Rattle.rules.specs.declared.state.Places.{Places}
use Rattle.rules.specs.declared.state.Counts.{Counts}
use Rattle.rules.proofs.Lists.{by-eq, by-lt, each, every-each, all_below-at, all_below-all}
use Rattle.rules.specs.declared.state.ReaderPhase.{ReaderPhase}

-- ---- a ring in shape with other pieces that fit

-- the tests of the pieces that a Read changes
pub record Parts (size : Size) (places : Places) (reader : ReaderPhase) (words used : List ℕ) : Type 0 where
  pub places_fit : places_fit places size ≡ true
  pub reader_fits : reader_fits reader size ≡ true
  pub words_fit : words_fit words size.pages ≡ true
  pub used_fit : used_fit used size.pages size.slots ≡ true

module _ (r : State) (h : in_shape r ≡ true) where
  pub parts : Parts r.size r.places r.reader r.words r.used
  unfolding in_shape layout_fits
  parts =
      let l = layout_fits r.size r.places r.reader r.stack r.depth r.words r.used in
      let whole = and_parts (ring_fits r) (numbers_fit r.numbers) h in
      let e = each (layout_tests r.size r.places r.reader r.stack r.depth r.words r.used) (and_parts (counts_fit r.counts) l whole.0).1 in
      record { places_fit = e.1.0; reader_fits = e.1.1.0; words_fit = e.1.1.1.1.0; used_fit = e.1.1.1.1.1.0 }

  -- the pieces stored
  abbrev with : Counts → Places → ReaderPhase → List ℕ → List ℕ → State
  with counts places reader words used = with_reader reader (with_places places (with_counts counts (with_words words (with_used used r))))

  pub reshaped :
      (counts : Counts) (places : Places) (reader : ReaderPhase) (words used : List ℕ) →
      counts_fit counts ≡ true →
      Parts r.size places reader words used →
      in_shape (with counts places reader words used) ≡ true
  unfolding in_shape layout_fits
  reshaped counts places reader words used c p =
      let l = layout_fits r.size r.places r.reader r.stack r.depth r.words r.used in
      let whole = and_parts (ring_fits r) (numbers_fit r.numbers) h in
      let e = each (layout_tests r.size r.places r.reader r.stack r.depth r.words r.used) (and_parts (counts_fit r.counts) l whole.0).1 in
      and_from _ _
      (and_from _ _ c
      (every-each (layout_tests r.size places reader r.stack r.depth words used)
      (e.0, (p.places_fit, (p.reader_fits, (e.1.1.1.0, (p.words_fit, (p.used_fit, tt))))))))
      whole.1

-- ---- the cells

-- the element stored, or one that was there; a place that the list does not have is not stored to
set-fits : (f : ℕ → Bool) (l : List ℕ) (i x : ℕ) → f x ≡ true → (j : ℕ) → f (get_or l j 0) ≡ true → f (get_or (set l i x) j 0) ≡ true
set-fits f l i x fx j fj =
    by-lt i (length l)
    (λ lt. by-eq j i (λ e. rw (e, get_or-set_same l i x 0 lt) fx) (λ n. rw (get_or-set_other l i j x 0 n) fj))
    (λ ge. rw (set_out l i x ge) fj)

module _ (n : ℕ) where
  pub word-fits : (p : PageNo) (flag : ℕ) → p.0 ≤ n → flag < both_flags → word_fits (word_of p flag) n ≡ true
  word-fits p flag hp hf =
      let q : (4 * p.0 + flag) / 4 ≡ p.0 = omega arith in
      let m : (4 * p.0 + flag) % 4 ≡ flag = omega arith in
      rw (q, m, le-leb p.0 n hp, ne_eqb flag both_flags (omega arith))

  pub set-word : (words : List ℕ) (i w : ℕ) → words_fit words n ≡ true → word_fits w n ≡ true → words_fit (set words i w) n ≡ true
  set-word words i w all one =
      all_below-all (word_fits_at (set words i w) n) (n + 1)
      (λ p hp. set-fits (λ (x : ℕ). word_fits x n) words i w one p (all_below-at (word_fits_at words n) (n + 1) p all hp))

  pub no-used : (used : List ℕ) (slots i : ℕ) → used_fit used n slots ≡ true → used_fit (set used i 0) n slots ≡ true
  no-used used slots i all =
      all_below-all (used_fits_at (set used i 0) slots) (n + 1)
      (λ p hp. set-fits (λ (x : ℕ). leb x slots) used i 0 (le-leb 0 slots (omega arith)) p (all_below-at (used_fits_at used slots) (n + 1) p all hp))
