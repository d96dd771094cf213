-- The loop that writes a fresh ring's words one after the other makes all of them.
-- Assumes nothing.
use mathlib.Core.Path.{◌≡◌, sym, ◌∙◌}
use mathlib.Core.List.{List}
use Prim.Native.Nat.{ℕ, ◌≤◌, ◌<◌}
use native.Mathlib.Omega.{arith}
use lib.ListN.{length, get_or}
use lib.Seq.{ext_get_or}
use Rattle.rules.specs.Limits.{page_room}
use Rattle.rules.specs.Lists.{tabulate}
use Rattle.rules.specs.SetUp.{fresh_word, fresh_words}
use Rattle.rules.proofs.Lists.{length-tabulate, get_d_tabulate}

-- the first i words are those of a fresh ring
pub record WordsWritten (n : ℕ) (words : List ℕ) (i : ℕ) : Type 0 where
  pub long : length words ≡ page_room
  pub same : (k : ℕ) → k < i → get_or words k 0 ≡ fresh_word n k

pub words-written-all : {n : ℕ} {words : List ℕ} {i : ℕ} → WordsWritten n words i → page_room ≤ i → words ≡ fresh_words n
unfolding fresh_words
words-written-all {n} {words} {i} h l =
    ext_get_or 0 words (tabulate page_room (fresh_word n)) (h.long ∙ sym (length-tabulate (fresh_word n) page_room))
    (λ k lt.
    let m = h.long in
    h.same k (omega arith) ∙ sym (get_d_tabulate (fresh_word n) page_room k (omega arith)))
