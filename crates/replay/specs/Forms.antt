-- Which form a word names. Assumes nothing.
use Rattle.std.specs.Prelude.{List, [], ◌∷◌, ℕ, Option, Some, None}
use Rattle.rules.specs.Lists.{first}
use Rattle.files.specs.Words.{is_word}
use Rattle.replay.specs.declared.forms.Form.{Form}
use Rattle.replay.specs.declared.forms.Form.TheVariants.{Text, Csv, Receipt, Plain}

-- the words text, csv, receipt and plain, byte by byte, and nothing else
abbrev pub form_named : List ℕ → Option Form
form_named name =
    first
    ((is_word name (116 ∷ 101 ∷ 120 ∷ 116 ∷ []), Some Text)
    ∷ (is_word name (99 ∷ 115 ∷ 118 ∷ []), Some Csv)
    ∷ (is_word name (114 ∷ 101 ∷ 99 ∷ 101 ∷ 105 ∷ 112 ∷ 116 ∷ []), Some Receipt)
    ∷ (is_word name (112 ∷ 108 ∷ 97 ∷ 105 ∷ 110 ∷ []), Some Plain)
    ∷ [])
    None
