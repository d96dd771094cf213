-- A tally: how often each kind of answer came, by its code. Assumes nothing.
use Rattle.std.specs.Prelude.{ℕ, ◌+◌, ◌%◌, ◌^◌, List, replicate, slice_index, slice_set}
use Rattle.rules.specs.Codes.{kinds, numbers_of}
use Rattle.rules.specs.declared.state.Answer.{Answer}

-- a tally before any answer
abbrev pub no_answers : List ℕ
no_answers = replicate kinds 0

-- one more at this code, modulo 2^64, and the other counts as they were
abbrev pub one_more : List ℕ → ℕ → List ℕ
one_more counts code = slice_set counts code ((slice_index counts code + 1) % 2 ^ 64)

-- one more answer of its kind
abbrev pub tallied : List ℕ → Answer → List ℕ
tallied counts answer = one_more counts (numbers_of answer).code
