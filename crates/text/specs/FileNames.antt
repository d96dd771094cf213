-- Which name stands for standard input. Assumes nothing.
use Rattle.std.specs.Prelude.{ℕ, Bool, ◌&&◌, List, length, ◌==◌, slice_index}

-- the one byte -
abbrev pub is_input : List ℕ → Bool
is_input name = length name == 1 && slice_index name 0 == 45
