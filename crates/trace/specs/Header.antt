-- The header of a trace. Request E1: "Bytes: the mark "PTR", version 1 in two bytes, low first, then N, S and mode, one byte each." What the header
-- says, and which refusal comes first.
-- Assumes nothing.
use Rattle.std.specs.Prelude.{Bool, ◌&&◌, cond, not, List, [], ◌∷◌, ℕ, ◌+◌, ◌*◌, eqb, leb, ltb, length, Result, Ok, Err}
use Rattle.rules.specs.Limits.{plain_mode}
use Rattle.rules.specs.Lists.{first, every}
use Rattle.rules.specs.State.{size_of}
use Rattle.rules.specs.Answers.{Told, says, refuses}
use Rattle.rules.specs.Shape.{size_fits}
use Rattle.rules.specs.Actions.{byte_at}
use Rattle.rules.specs.declared.state.Size.{Size}
use Rattle.rules.specs.declared.state.Refusal.{Refusal}
use Rattle.rules.specs.declared.state.Refusal.TheVariants.{Mark, Version, Sizes}

-- "A file has at most 65,536 bytes."
abbrev pub most_length : ℕ
most_length = 65536

abbrev pub too_long : List ℕ → Bool
too_long bytes = ltb most_length (length bytes)

-- "the mark "PTR""
abbrev pub letter_p : ℕ
letter_p = 80

abbrev pub letter_t : ℕ
letter_t = 84

abbrev pub letter_r : ℕ
letter_r = 82

-- where the mark ends, and the version begins
abbrev pub mark_end : ℕ
mark_end = 3

abbrev pub marked : List ℕ → Bool
marked bytes =
    every
    (leb mark_end (length bytes)
    ∷ eqb (byte_at bytes 0) letter_p
    ∷ eqb (byte_at bytes 1) letter_t
    ∷ eqb (byte_at bytes 2) letter_r
    ∷ [])

-- "version 1 in two bytes, low first"
abbrev pub version : ℕ
version = 1

-- where the version ends, and the set-up begins
abbrev pub version_end : ℕ
version_end = 5

abbrev pub low_at : ℕ
low_at = 3

abbrev pub high_at : ℕ
high_at = 4

abbrev pub version_in : List ℕ → ℕ
version_in bytes = byte_at bytes low_at + 256 * byte_at bytes high_at

abbrev pub version_fits : List ℕ → Bool
version_fits bytes = leb version_end (length bytes) && eqb (version_in bytes) version

-- "Mode 2 is whatever mode the plain ring has."
abbrev pub plain_byte : ℕ
plain_byte = 2

abbrev pub mode_of : ℕ → ℕ
mode_of byte = cond (eqb byte plain_byte) plain_mode byte

-- "then N, S and mode, one byte each": what these three bytes say, refused where they are "out of range"
abbrev pub set_up : ℕ → ℕ → ℕ → Result Size Refusal
set_up pages slots mode = cond (size_fits (size_of pages slots (mode_of mode))) (Ok (size_of pages slots (mode_of mode))) (Err Sizes)

-- where the set-up ends: "Then actions"
abbrev pub first_action : ℕ
first_action = 8

abbrev pub pages_at : ℕ
pages_at = 5

abbrev pub slots_at : ℕ
slots_at = 6

abbrev pub mode_at : ℕ
mode_at = 7

abbrev pub set_up_in : List ℕ → Result Size Refusal
set_up_in bytes = set_up (byte_at bytes pages_at) (byte_at bytes slots_at) (byte_at bytes mode_at)

-- "Refusals, in this order: 6 longer than that, or mark wrong or cut; 7 version other or cut; 8 set-up cut, or out of range"
abbrev pub header_rows : List ℕ → List (Bool × Result Size Refusal)
header_rows bytes =
    (too_long bytes, Err Mark)
    ∷ (not (marked bytes), Err Mark)
    ∷ (not (version_fits bytes), Err Version)
    ∷ (ltb (length bytes) first_action, Err Sizes)
    ∷ []

abbrev pub header_of : List ℕ → Result Size Refusal
header_of bytes = first (header_rows bytes) (set_up_in bytes)

-- what the header says, and what that tells: N, S and the mode that the ring gets, or the refusal's number
pub record HeaderOutcome : Type 0 where
  pub header : Result Size Refusal
  pub tells : Told

abbrev pub told_header : Result Size Refusal → Told
told_header (Ok size) = says (size.pages ∷ size.slots ∷ size.mode ∷ [])
told_header (Err why) = refuses why

abbrev pub header_gives : Result Size Refusal → HeaderOutcome
header_gives h = record { header = h; tells = told_header h }

abbrev pub header_rule : List ℕ → HeaderOutcome
header_rule bytes = header_gives (header_of bytes)
