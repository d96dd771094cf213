-- When bytes are a word: as many, and each the same. Assumes nothing.
use Rattle.std.specs.Prelude.{Bool, ◌&&◌, List, ℕ, eqb, length, get_or}
use Rattle.rules.specs.Lists.{all_below}

-- the byte at a place is the word's
abbrev pub same_at : List ℕ → List ℕ → ℕ → Bool
same_at bytes word i = eqb (get_or bytes i 0) (get_or word i 0)

abbrev pub is_word : List ℕ → List ℕ → Bool
is_word bytes word = eqb (length bytes) (length word) && all_below (length bytes) (same_at bytes word)
