-- The limits of a ring, the sizes of the plain ring, the modes and the flags: each number under one name.
-- Assumes nothing.
use Rattle.std.specs.Prelude.{◌≡◌, ℕ, ◌+◌, ◌*◌, ◌^◌}

-- "N ring pages, 2 to 16, plus one reader page"
abbrev pub least_pages : ℕ
least_pages = 2

abbrev pub most_pages : ℕ
most_pages = 16

-- "S slots in each page, 1 to 16"
abbrev pub least_slots : ℕ
least_slots = 1

abbrev pub most_slots : ℕ
most_slots = 16

-- room for the most pages, the reader page with them; "The ring has room for 272 slots"
abbrev pub page_room : ℕ
page_room = 17

abbrev pub slot_room : ℕ
slot_room = 272

-- "The stack is four writer records, handed over whole, and a depth."
abbrev pub most_depth : ℕ
most_depth = 4

-- "every count, and every slot's number, at most 4,294,967,295"
abbrev pub most_count : ℕ
most_count = 4294967295

-- request E2: "or eight Reads in a row have brought none of these and no Event"
abbrev pub most_in_row : ℕ
most_in_row = 8

-- "Mode: 0 overwrite, 1 stop"
abbrev pub overwrite_mode : ℕ
overwrite_mode = 0

abbrev pub stop_mode : ℕ
stop_mode = 1

-- "NORMAL 0, HEADER 1, UPDATE 2"
abbrev pub normal_flag : ℕ
normal_flag = 0

abbrev pub header_flag : ℕ
header_flag = 1

abbrev pub update_flag : ℕ
update_flag = 2

-- "One word never has both flags": the flag 3 that no word in shape has
abbrev pub both_flags : ℕ
both_flags = 3

-- "The plain ring is 8 pages of 16 slots in overwrite mode."
abbrev pub plain_pages : ℕ
plain_pages = 8

abbrev pub plain_slots : ℕ
plain_slots = 16

abbrev pub plain_mode : ℕ
plain_mode = overwrite_mode

-- what the limits have to do with each other, and with the 32 bits of a reading's number
pub record LimitsAgree : Type 0 where
  -- the reader page is one page more
  pub pages : page_room ≡ most_pages + 1
  pub slots : slot_room ≡ page_room * most_slots
  pub count : most_count + 1 ≡ 2 ^ 32
