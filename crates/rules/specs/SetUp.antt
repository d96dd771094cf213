-- Set-up: a fresh ring, the plain ring, and what `fresh` gives back.
-- Assumes nothing.
use Rattle.std.specs.Prelude.{cond, List, ℕ, ◌+◌, eqb, ltb}
use Rattle.rules.specs.Limits.{page_room, normal_flag, header_flag, plain_pages, plain_slots, plain_mode}
use Rattle.rules.specs.Lists.{tabulate}
use Rattle.rules.specs.State.{page, size_of, with_words, with_reader_page, blank, State}
use Rattle.rules.specs.Answers.{Outcome, gives}
use Rattle.rules.specs.Refusals.{set_up_verdict, judged}
use Rattle.rules.specs.Words.{word_of}
use Rattle.rules.specs.Shape.{size_fits}
use Rattle.rules.specs.declared.state.Size.{Size}
use Rattle.rules.specs.declared.state.Answer.TheVariants.{Accepted}

-- "page i links to i+1, page N−1 to 0 ...", "Reader page N links to 0 ...", "Words of pages above N are 0."
abbrev pub fresh_next : ℕ → ℕ → ℕ
fresh_next n i = cond (ltb (i + 1) n) (i + 1) 0

-- "page N−1 to 0 with HEADER, other words NORMAL"
abbrev pub fresh_flag : ℕ → ℕ → ℕ
fresh_flag n i = cond (eqb (i + 1) n) header_flag normal_flag

abbrev pub fresh_word : ℕ → ℕ → ℕ
fresh_word n i = word_of (page (fresh_next n i)) (fresh_flag n i)

unfoldable pub fresh_words : ℕ → List ℕ
fresh_words n = tabulate page_room (fresh_word n)

-- "Tail and commit page 0; all else 0; reader IDLE." The reader page is page N.
abbrev pub fresh_ring : Size → State
fresh_ring size = with_words (fresh_words size.pages) (with_reader_page (page size.pages) (blank size))

-- "The plain ring is 8 pages of 16 slots in overwrite mode."
abbrev pub plain_ring : State
plain_ring = fresh_ring (size_of plain_pages plain_slots plain_mode)

-- refusal 5: "fresh with N, S or mode out of range", "the plain ring"
abbrev pub fresh_rule : ℕ → ℕ → ℕ → Outcome
fresh_rule pages slots mode =
    judged (set_up_verdict (size_fits (size_of pages slots mode))) plain_ring (gives Accepted (fresh_ring (size_of pages slots mode)))
