-- Link words, and the search for the HEADER word among the ring pages. "A link word for each page: 4 × (next page) + flag."
-- Assumes nothing.
use Rattle.std.specs.Prelude.{Bool, ◌&&◌, not, List, ℕ, ◌+◌, ◌*◌, ◌/◌, ◌%◌, eqb, Option, Some, None}
use Rattle.rules.specs.Limits.{header_flag}
use Rattle.rules.specs.Lists.{least}
use Rattle.rules.specs.State.{page, word_at}
use Rattle.rules.specs.declared.state.PageNo.{PageNo}
use Rattle.rules.specs.declared.state.Places.{Places}

-- Request E4: "Wanted for every value a word can have, in shape or not: the two parts are its quotient and remainder by 4." Code shifts and masks.

-- the page in a word
abbrev pub page_in : ℕ → PageNo
page_in w = page (w / 4)

-- the flag in a word
abbrev pub flag_in : ℕ → ℕ
flag_in w = w % 4

-- the word with a page and a flag
abbrev pub word_of : PageNo → ℕ → ℕ
word_of p flag = 4 * p.0 + flag

-- two page numbers are the same
abbrev pub same_page : PageNo → PageNo → Bool
same_page p q = eqb p.0 q.0

-- "the commit page is the reader page"
abbrev pub reader_on_commit : Places → Bool
reader_on_commit places = same_page places.commit places.reader

-- the word of page p is n with this flag
abbrev pub links : List ℕ → PageNo → PageNo → ℕ → Bool
links words p n flag = eqb (word_at words p) (word_of n flag)

-- page p is not the reader page, and its word is HEADER. "Taking a prepared reader word for a ring mark" is left out by the first test.
abbrev pub heads : List ℕ → PageNo → ℕ → Bool
heads words reader p = not (same_page (page p) reader) && eqb (flag_in (word_at words (page p))) header_flag

-- a page that was found, with the page in its word
abbrev pub found_at : List ℕ → Option ℕ → Option (PageNo × PageNo)
found_at words None = None
found_at words (Some p) = Some (page p, page_in (word_at words (page p)))

-- "the lowest page p other than the reader page whose word is HEADER, h its page"; n is the last page, N
abbrev pub find_header : List ℕ → ℕ → PageNo → Option (PageNo × PageNo)
find_header words n reader = found_at words (least (n + 1) (heads words reader))
