-- A fresh ring of any accepted size satisfies the invariant, with nothing in the history.
-- Assumes nothing.
use mathlib.Core.Path.{◌≡◌, refl, sym, ap, ◌∙◌}
use mathlib.Core.Logic.{◌≢◌}
use mathlib.Core.Bool.{true}
use mathlib.Core.List.{[]}
use Prim.Native.Nat.{ℕ, zero, suc, ◌+◌, ◌-◌, ◌%◌, ◌≤◌, ◌<◌}
use native.Mathlib.Omega.{arith}
use native.Mathlib.Nat.{mod-lt, mod-eq_of_lt, mod_self, suc-mod, add-mod_right, zero-mod}
use borrow.Author.Tests.{leb-true, lt-ltb, le-ltb, eq-eqb, ne_eqb}
use lib.ListN.{length, get_or, replicate, length-replicate}
use Rattle.rules.specs.Limits.{least_pages, most_pages, least_slots, most_slots, page_room, slot_room, stop_mode}
use Rattle.rules.specs.Shape.{size_tests, size_fits}
use Rattle.rules.specs.SetUp.{fresh_next, fresh_flag, fresh_word, fresh_words, fresh_ring}
use Rattle.rules.specs.History.{nothing}
use Rattle.rules.specs.State.{State}
use Rattle.rules.specs.declared.state.Size.{Size}
use Rattle.rules.proofs.Lists.{by-eq, by-lt, each, length-tabulate, get_d_tabulate, zeros}
use Rattle.rules.proofs.setup.Laws.{fresh_next-pages, fresh_flag-most}
use Rattle.rules.proofs.invariant.Order.{next_of, flag_of, Cycle, Links, place}
use Rattle.rules.proofs.invariant.Control.{Headed, headed, Control}
use Rattle.rules.proofs.invariant.Accounts.{Past, Accounts}
use Rattle.rules.proofs.invariant.Fates.{FatesOf}
use Rattle.rules.proofs.invariant.Bounds.{BoundsOf}
use Rattle.rules.proofs.runs.Invariant.{Invariant, holds}

-- ---- the words

word-at : (n i : ℕ) → i < page_room → get_or (fresh_words n) i 0 ≡ fresh_word n i
unfolding fresh_words
word-at n i h = get_d_tabulate (fresh_word n) page_room i h

words-length : (n : ℕ) → length (fresh_words n) ≡ page_room
unfolding fresh_words
words-length n = length-tabulate (fresh_word n) page_room

-- the page after page i, and its flag
next-is : (n i : ℕ) → i < n → fresh_next n i ≡ suc i % n
next-is n i h =
    by-lt (i + 1) n
    (λ a.
    let e : suc i ≡ i + 1 = omega arith in
    rw (lt-ltb (i + 1) n a) (sym (ap (λ (k : ℕ). k % n) e ∙ mod-eq_of_lt a)))
    (λ a.
    let e : suc i ≡ n = omega arith in
    rw (le-ltb (i + 1) n a) (sym (ap (λ (k : ℕ). k % n) e ∙ mod_self n)))

flag-last : (n i : ℕ) → i + 1 ≡ n → fresh_flag n i ≡ 1
flag-last n i e = rw (eq-eqb (i + 1) n e) refl

flag-other : (n i : ℕ) → i + 1 ≢ n → fresh_flag n i ≡ 0
flag-other n i e = rw (ne_eqb (i + 1) n e) refl

module _ (n : ℕ) (n2 : 2 ≤ n) (n16 : n ≤ most_pages) where
  word_next : (i : ℕ) → i ≤ n → next_of (fresh_words n) i ≡ fresh_next n i
  word_next i h =
      let w = word-at n i (omega arith) in
      let f = fresh_flag-most n i in
      omega arith

  word-flag : (i : ℕ) → i ≤ n → flag_of (fresh_words n) i ≡ fresh_flag n i
  word-flag i h =
      let w = word-at n i (omega arith) in
      let f = fresh_flag-most n i in
      omega arith

  flag-plain : (i : ℕ) → i ≤ n → i ≢ n - 1 → flag_of (fresh_words n) i ≡ 0
  flag-plain i h ne = word-flag i h ∙ flag-other n i (λ e. ne (omega arith))

  flag-head : flag_of (fresh_words n) (n - 1) ≡ 1
  flag-head = word-flag (n - 1) (omega arith) ∙ flag-last n (n - 1) (omega arith)

  cycle : Cycle n n (λ i. i % n)
  cycle =
      let lt : (i : ℕ) → i % n < n = λ i. mod-lt i (omega arith) in
      record {
        two = n2;
        reader = omega arith;
        bound = λ i. omega (arith, lt i);
        off = λ i e. omega (arith, lt i);
        period = λ i. add-mod_right i n;
        once = λ i j hi hj e. sym (mod-eq_of_lt hi) ∙ e ∙ mod-eq_of_lt hj;
        onto = λ p hp hr. (p, omega arith, mod-eq_of_lt (omega arith));
      }

  links : Links (fresh_words n) n n (λ i. i % n)
  links =
      record {
        cycle = cycle;
        linked = record {
          room = omega (arith, words-length n);
          step = λ i.
              let lt = mod-lt i {m = n} (omega arith) in
              word_next (i % n) (omega arith) ∙ next-is n (i % n) lt ∙ sym (suc-mod i n);
        };
      }

  last-is : (n - 1) % n ≡ n - 1
  last-is = mod-eq_of_lt (omega arith)

  place-last : place n (λ i. i % n) n ≡ n - 1
  place-last = go n refl
    where
      go : (k : ℕ) → k ≡ n → place n (λ i. i % n) k ≡ n - 1
      go zero e = absurd (omega arith)
      go (suc k) e =
          let q : k ≡ n - 1 = omega arith in
          ap (λ (i : ℕ). i % n) q ∙ last-is

  headed-fresh : Headed (fresh_words n) n (place n (λ i. i % n))
  headed-fresh =
      record {
        last = ap (flag_of (fresh_words n)) place-last ∙ flag-head;
        only = λ p hp pr f. by-eq p (n - 1) (λ q. q ∙ sym place-last) (λ q. absurd (omega (arith, flag-plain p hp q)));
      }

-- ---- the five parts

module _ (size : Size) (fits : size_fits size ≡ true) where
  abbrev s : State
  s = fresh_ring size

  abbrev n : ℕ
  n = size.pages

  abbrev L : ℕ → ℕ
  L i = i % size.pages

  n2 : 2 ≤ n
  n2 = leb-true least_pages n (each (size_tests size) fits).0

  n16 : n ≤ most_pages
  n16 = leb-true n most_pages (each (size_tests size) fits).1.0

  s1 : 1 ≤ size.slots
  s1 = leb-true least_slots size.slots (each (size_tests size) fits).1.1.0

  s16 : size.slots ≤ most_slots
  s16 = leb-true size.slots most_slots (each (size_tests size) fits).1.1.1.0

  unused : {A : Type 0} (p j : ℕ) → j < get_or (replicate page_room 0) p 0 → A
  unused p j h = absurd (omega (arith, zeros page_room p))

  fresh-control : Control s L 1 1
  fresh-control =
      record {
        links = links n n2 n16;
        order = record {
          tail_at = zero-mod n;
          commit_at = zero-mod n;
          le = omega arith;
          top = omega (arith, n2);
          room = omega (arith, n16);
          cap = omega (arith, zeros page_room 0);
          full = λ i lo hi. absurd (omega arith);
          full0 = λ z hi. absurd (omega arith);
          empty = λ i lo hi. zeros page_room (place n L i);
        };
        joined = λ z. absurd (omega arith);
        flags = headed (headed-fresh n n2 n16);
        owners = record {
          small = λ p hp. omega (arith, word-flag n n2 n16 p hp, fresh_flag-most n p);
          some = λ p hp f. absurd (omega (arith, word-flag n n2 n16 p hp, fresh_flag-most n p));
          one = λ i j p hi hj a b. absurd (omega arith);
        };
        depth = omega arith;
        records = λ i hi. absurd (omega arith);
        reader = tt;
      }

  nothing-past : Past [] [] [] 0 0 0 0 (get_or (replicate page_room 0) n 0) 0
  nothing-past =
      record {
        handed_is = refl;
        overwritten_is = refl;
        given = λ k hk. absurd (omega arith);
        rising = λ j k lt hk. absurd (omega arith);
        own = λ k hk. absurd (omega arith);
        lost_low = λ k hk. absurd (omega arith);
        lost_apart = λ k hk. absurd (omega arith);
        lost_rising = λ j k lt hk. absurd (omega arith);
        covered = λ m hm. absurd (omega arith);
        gone = λ m lo hi. absurd (omega (arith, zeros page_room n));
        apart = λ m o w. omega (arith, o.event.below);
      }

  fresh-accounts : Accounts s nothing L 1 1 0 0 0
  fresh-accounts =
      let uR = zeros page_room n in
      let uT = zeros page_room 0 in
      record {
        contents = record {
          sizes = record { pages = n16; some = s1; slots = s16 };
          rooms = record { numbers_room = length-replicate {A = ℕ} slot_room 0; values_room = length-replicate {A = ℕ} slot_room 0 };
          cap = λ p hp. omega (arith, zeros page_room p);
          numbers = record {
            slot = λ i j lo hi hj. unused (place n L i) j hj;
            reader = λ j hj. unused n j hj;
            below = λ p j hp hj. unused p j hj;
          };
        };
        sums = record {
          taken_is = omega arith;
          committed_is = omega arith;
          indexed = omega arith;
          read = omega arith;
          read_committed = λ q. omega arith;
          joined = λ q. refl;
          reader_from = λ q. absurd (omega arith);
          ring_from = λ q. omega arith;
          total = refl;
        };
        values = record { held = λ i hi. absurd (omega arith); stored = λ p j hp hj no. unused p j hj };
        quiet = tt;
        recorded = record {
          past = nothing-past;
          ordered = record { size = refl; nth = λ k hk. absurd (omega arith); committed_below = λ k hk. absurd (omega arith) };
          rightly = λ k d below. absurd (omega arith);
        };
        work = record { many = refl; value = λ i hi. absurd (omega arith); marks = λ i p hi o. absurd (omega arith) };
        balance = refl;
        stack_room = refl;
      }

  fresh-fates : FatesOf s nothing
  fresh-fates =
      record {
        begun_is = refl;
        dropped_is = refl;
        taken_is = refl;
        working_is = refl;
        workers_known = λ i hi. absurd (omega arith);
        workers_rise = λ i j lt hj. absurd (omega arith);
        owners_known = λ m h. absurd (omega arith);
        owners_once = λ m k hm hk z. absurd (omega arith);
        droppers_known = λ w o. absurd (omega (arith, o.below));
        droppers_free = λ w o y. omega (arith, o.below);
        early_free = λ w y o. omega (arith, y.below);
        droppers_ended = λ w o y. omega (arith, o.below);
        fate = λ w h. absurd (omega arith);
      }

  fresh-bounds : BoundsOf s
  fresh-bounds =
      record {
        mode_fits = leb-true size.mode stop_mode (each (size_tests size) fits).1.1.1.1.0;
        begun_fits = omega arith;
        numbers_fit = λ i. omega (arith, zeros slot_room i);
        reader_fits = omega (arith, word_next n n2 n16 n (omega arith), fresh_next-pages n n);
        aims = λ i hi. absurd (omega arith);
      }

  pub fresh-invariant : Invariant (fresh_ring size) nothing
  fresh-invariant = holds L 1 1 0 0 0 fresh-control fresh-accounts fresh-fates fresh-bounds (λ none. refl)
