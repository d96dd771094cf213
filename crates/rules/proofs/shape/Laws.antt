-- What the test of shape tells: one record of named facts for a ring that passes it.
-- Assumes nothing.
use mathlib.Core.Path.{◌≡◌}
use mathlib.Core.Bool.{true}
use Prim.Native.Nat.{ℕ, ◌+◌, ◌≤◌, ◌<◌}
use native.Mathlib.Omega.{arith}
use borrow.Author.Tests.{leb-true, ltb-true, le-leb}
use lib.Dec.{leb}
use Rattle.std.proofs.lemmas.Bool.{and_from, and_parts}
use Rattle.rules.specs.Limits.{least_pages, most_pages, least_slots, most_slots, most_depth, most_count, stop_mode}
use Rattle.rules.specs.Lists.{all_below}
use Rattle.rules.specs.State.{page, used_at, State}
use Rattle.rules.specs.Shape.{size_tests, place_tests, places_fit, small_tests, counts_small, agree_tests, counts_agree, page_tests, pages_fit, held_tests, held_fits, reader_fits, record_fits_at, word_fits_at, used_fits_at, numbers_fit, counts_fit, layout_tests, layout_fits, ring_fits, in_shape}
use Rattle.rules.specs.declared.state.PageNo.{PageNo}
use Rattle.rules.specs.declared.state.Size.{Size}
use Rattle.rules.specs.declared.state.Places.{Places}
use Rattle.rules.specs.declared.state.Counts.{Counts}
use Rattle.rules.proofs.Lists.{each, every-each, all_below-at}

pub record InShape (r : State) : Type 0 where
  pub pages_least : least_pages ≤ r.size.pages
  pub pages_most : r.size.pages ≤ most_pages
  pub slots_least : least_slots ≤ r.size.slots
  pub slots_most : r.size.slots ≤ most_slots
  pub mode : r.size.mode ≤ stop_mode
  pub reader : r.places.reader.0 ≤ r.size.pages
  pub tail : r.places.tail.0 ≤ r.size.pages
  pub commit : r.places.commit.0 ≤ r.size.pages
  pub index : r.places.index ≤ r.size.slots
  pub position : r.places.position ≤ r.size.slots
  pub begun : r.counts.begun ≤ most_count
  pub taken : r.counts.taken ≤ most_count
  pub committed : r.counts.committed ≤ most_count
  pub handed : r.counts.handed ≤ most_count
  pub overwritten : r.counts.overwritten ≤ most_count
  pub dropped : r.counts.dropped ≤ most_count
  pub handed_overwritten : r.counts.handed + r.counts.overwritten ≤ r.counts.committed
  pub committed_taken : r.counts.committed ≤ r.counts.taken
  pub taken_dropped : r.counts.taken + r.counts.dropped ≤ r.counts.begun
  pub phase : reader_fits r.reader r.size ≡ true
  pub depth : r.depth ≤ most_depth
  pub record_at : (i : ℕ) → i < r.depth → record_fits_at r.stack r.size i ≡ true
  pub word_at : (p : ℕ) → p ≤ r.size.pages → word_fits_at r.words r.size.pages p ≡ true
  pub used_at : (p : ℕ) → p ≤ r.size.pages → used_at r.used (page p) ≤ r.size.slots

-- ---- what fits, from plain facts

pub pages-true : (p q : PageNo) (n : ℕ) → p.0 ≤ n → q.0 ≤ n → pages_fit p q n ≡ true
pages-true p q n hp hq = every-each (page_tests p q n) (le-leb p.0 n hp, (le-leb q.0 n hq, tt))

pub places-true :
    (p : Places) (s : Size) →
    p.reader.0 ≤ s.pages →
    p.tail.0 ≤ s.pages →
    p.commit.0 ≤ s.pages →
    p.index ≤ s.slots →
    p.position ≤ s.slots →
    places_fit p s ≡ true
places-true p s r t c i k =
    every-each (place_tests p s) (
      le-leb p.reader.0 s.pages r,
      (
        le-leb p.tail.0 s.pages t,
        (le-leb p.commit.0 s.pages c, (le-leb p.index s.slots i, (le-leb p.position s.slots k, tt))),
      ),
    )

-- each count is at most begun
pub counts-true :
    (c : Counts) →
    c.begun ≤ most_count →
    c.handed + c.overwritten ≤ c.committed →
    c.committed ≤ c.taken →
    c.taken + c.dropped ≤ c.begun →
    counts_fit c ≡ true
counts-true c b h t d =
    and_from (counts_small c) (counts_agree c)
    (every-each (small_tests c) (
      le-leb c.begun most_count b,
      (
        le-leb c.taken most_count (omega arith),
        (
          le-leb c.committed most_count (omega arith),
          (
            le-leb c.handed most_count (omega arith),
            (le-leb c.overwritten most_count (omega arith), (le-leb c.dropped most_count (omega arith), tt)),
          ),
        ),
      ),
    ))
    (every-each (agree_tests c) (
      le-leb (c.handed + c.overwritten) c.committed h,
      (le-leb c.committed c.taken t, (le-leb (c.taken + c.dropped) c.begun d, tt)),
    ))

-- ---- what it tells that pieces fit

-- two pages, and a held slot
pub pages-fit : (p q : PageNo) (n : ℕ) → pages_fit p q n ≡ true → (p.0 ≤ n) × (q.0 ≤ n)
pages-fit p q n h =
    let e = each (page_tests p q n) h in
    (leb-true _ _ e.0, leb-true _ _ e.1.0)

pub held-fits : (p : PageNo) (slot : ℕ) (s : Size) → held_fits p slot s ≡ true → (p.0 ≤ s.pages) × (slot < s.slots)
held-fits p slot s h =
    let e = each (held_tests p slot s) h in
    (leb-true _ _ e.0, ltb-true _ _ e.1.0)

-- what it tells that the counts fit: the differences of a receipt are not below 0
pub counts-agree : (c : Counts) → counts_fit c ≡ true → (c.handed + c.overwritten ≤ c.committed) × (c.committed ≤ c.taken)
counts-agree c h =
    let e = each (agree_tests c) (and_parts (counts_small c) (counts_agree c) h).1 in
    (leb-true _ _ e.0, leb-true _ _ e.1.0)

module _ (r : State) where
  pub in-shape : in_shape r ≡ true → InShape r
  unfolding in_shape layout_fits
  in-shape whole =
      let h = and_parts (ring_fits r) (numbers_fit r.numbers) whole in
      let l = layout_fits r.size r.places r.reader r.stack r.depth r.words r.used in
      let f = and_parts (counts_fit r.counts) l h.0 in
      let c = and_parts (counts_small r.counts) (counts_agree r.counts) f.0 in
      let e = each (layout_tests r.size r.places r.reader r.stack r.depth r.words r.used) f.1 in
      let s = each (size_tests r.size) e.0 in
      let p = each (place_tests r.places r.size) e.1.0 in
      let k = each (small_tests r.counts) c.0 in
      let a = each (agree_tests r.counts) c.1 in
      let d = and_parts (leb r.depth most_depth) (all_below r.depth (record_fits_at r.stack r.size)) e.1.1.1.0 in
      record {
        pages_least = leb-true _ _ s.0;
        pages_most = leb-true _ _ s.1.0;
        slots_least = leb-true _ _ s.1.1.0;
        slots_most = leb-true _ _ s.1.1.1.0;
        mode = leb-true _ _ s.1.1.1.1.0;
        reader = leb-true _ _ p.0;
        tail = leb-true _ _ p.1.0;
        commit = leb-true _ _ p.1.1.0;
        index = leb-true _ _ p.1.1.1.0;
        position = leb-true _ _ p.1.1.1.1.0;
        begun = leb-true _ _ k.0;
        taken = leb-true _ _ k.1.0;
        committed = leb-true _ _ k.1.1.0;
        handed = leb-true _ _ k.1.1.1.0;
        overwritten = leb-true _ _ k.1.1.1.1.0;
        dropped = leb-true _ _ k.1.1.1.1.1.0;
        handed_overwritten = leb-true _ _ a.0;
        committed_taken = leb-true _ _ a.1.0;
        taken_dropped = leb-true _ _ a.1.1.0;
        phase = e.1.1.0;
        depth = leb-true _ _ d.0;
        record_at = λ i l. all_below-at (record_fits_at r.stack r.size) r.depth i d.1 l;
        word_at = λ i l. all_below-at (word_fits_at r.words r.size.pages) (r.size.pages + 1) i e.1.1.1.1.0 (omega arith);
        used_at = λ i l. leb-true _ _ (all_below-at (used_fits_at r.used r.size.slots) (r.size.pages + 1) i e.1.1.1.1.1.0 (omega arith));
      }
