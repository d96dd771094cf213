-- A fresh ring of any accepted size is in shape, and so its receipt is complete, 0 of 0. Also of the plain ring that a refused set-up gives.
-- Assumes nothing.
use mathlib.Core.Path.{◌≡◌, refl}
use mathlib.Core.Bool.{true}
use Prim.Native.Nat.{ℕ, ◌+◌, ◌/◌, ◌%◌, ◌≤◌}
use native.Mathlib.Omega.{arith}
use borrow.Author.Tests.{leb-true, le-leb, ne_eqb}
use lib.Dec.{leb-zero}
use lib.ListN.{replicate, get_or-replicate}
use Rattle.std.proofs.lemmas.Bool.{and_from}
use Rattle.rules.specs.Limits.{most_pages, page_room, both_flags}
use Rattle.rules.specs.State.{size_of}
use Rattle.rules.specs.Shape.{size_tests, size_fits, place_tests, places_fit, word_fits, word_fits_at, words_fit, used_fits_at, used_fit, numbers_fit, layout_tests, layout_fits, in_shape}
use Rattle.rules.specs.SetUp.{fresh_word, fresh_words, fresh_ring, plain_ring, fresh_rule}
use Rattle.rules.specs.Receipt.{receipt_rule, fresh_receipt}
use Rattle.rules.specs.declared.state.Size.{Size}
use Rattle.rules.proofs.Lists.{by_bool, each, every-each, all_below-all, get_d_tabulate}
use Rattle.rules.proofs.setup.Laws.{fresh_next-pages, fresh_flag-most}

word-fits : (n i : ℕ) → word_fits (fresh_word n i) n ≡ true
word-fits n i =
    let next = fresh_next-pages n i in
    let flag = fresh_flag-most n i in
    rw (le-leb (fresh_word n i / 4) n (omega arith), ne_eqb (fresh_word n i % 4) both_flags (omega arith))

module _ (size : Size) (fits : size_fits size ≡ true) where
  pages-most : size.pages ≤ most_pages
  pages-most = leb-true size.pages most_pages (each (size_tests size) fits).1.0

  words : words_fit (fresh_words size.pages) size.pages ≡ true
  unfolding fresh_words
  words =
      all_below-all (word_fits_at (fresh_words size.pages) size.pages) (size.pages + 1)
      (λ i l.
      let m = pages-most in
      rw (get_d_tabulate (fresh_word size.pages) page_room i (omega arith)) (word-fits size.pages i))

  used : used_fit (replicate page_room 0) size.pages size.slots ≡ true
  used =
      all_below-all (used_fits_at (replicate page_room 0) size.slots) (size.pages + 1)
      (λ i l.
      let m = pages-most in
      rw (get_or-replicate {A = ℕ} page_room i 0 0 (omega arith)) (leb-zero size.slots))

  places : places_fit (fresh_ring size).places size ≡ true
  places =
      every-each (place_tests (fresh_ring size).places size) (
        le-leb size.pages size.pages (omega arith),
        (leb-zero size.pages, (leb-zero size.pages, (leb-zero size.slots, (leb-zero size.slots, tt)))),
      )

  pub fresh-in_shape : in_shape (fresh_ring size) ≡ true
  unfolding in_shape layout_fits numbers_fit
  fresh-in_shape =
      let r = fresh_ring size in
      and_from _ _
      (every-each (layout_tests r.size r.places r.reader r.stack r.depth r.words r.used)
      (fits, (places, (refl, (refl, (words, (used, tt)))))))
      refl

  pub fresh-complete : receipt_rule (fresh_ring size) ≡ fresh_receipt
  fresh-complete = rw fresh-in_shape

-- and so of the ring of any set-up, the plain ring of a refused one too
pub set_up-complete : (pages slots mode : ℕ) → receipt_rule (fresh_rule pages slots mode).state ≡ fresh_receipt
set_up-complete pages slots mode =
    by_bool (size_fits (size_of pages slots mode))
    (λ e. rw e (fresh-complete (size_of pages slots mode) e))
    (λ e. rw e (fresh-complete plain_ring.size refl))
