-- Actions as bytes. Request E1: "Then actions: byte 1 and four value bytes, low first, for Begin; 2 for Write; 3 for Read." What stands at a place, the list of
-- actions that some bytes are and where it stops, and the bytes of a list.
-- Assumes nothing.
use Rattle.std.specs.Prelude.{◌≡◌, cond, List, [], ◌∷◌, ◌++◌, ℕ, zero, suc, ◌+◌, ◌-◌, ◌*◌, ◌/◌, ◌%◌, ◌≤◌, eqb, leb, ltb, length, get_or}
use Rattle.rules.specs.Lists.{first}
use Rattle.rules.specs.declared.state.Action.{Action}
use Rattle.rules.specs.declared.state.Action.TheVariants.{Begin, Write, Read}
use Rattle.rules.specs.declared.actions.Coded.{Coded}
use Rattle.rules.specs.declared.actions.Coded.TheVariants.{Whole, Broken, End}

abbrev pub begin_code : ℕ
begin_code = 1

abbrev pub write_code : ℕ
write_code = 2

abbrev pub read_code : ℕ
read_code = 3

-- "byte 1 and four value bytes"
abbrev pub begin_length : ℕ
begin_length = 5

-- ---- from bytes

-- the number in four bytes, "low first"
abbrev pub value_of : ℕ → ℕ → ℕ → ℕ → ℕ
value_of a b c d = a + 256 * b + 65536 * c + 16777216 * d

abbrev pub byte_at : List ℕ → ℕ → ℕ
byte_at bytes i = get_or bytes i 0

-- the value of a Begin that stands at a place
abbrev pub begin_value : List ℕ → ℕ → ℕ
begin_value bytes at = value_of (byte_at bytes (at + 1)) (byte_at bytes (at + 2)) (byte_at bytes (at + 3)) (byte_at bytes (at + 4))

-- a Begin, which may be cut
abbrev pub begin_at : List ℕ → ℕ → Coded
begin_at bytes at = cond (ltb (length bytes - at) begin_length) Broken (Whole (Begin (begin_value bytes at)) (at + begin_length))

-- what stands at a place: nothing, a whole action with the place after it, or "an unknown or cut action"
abbrev pub coded_at : List ℕ → ℕ → Coded
coded_at bytes at =
    first
    ((leb (length bytes) at, End)
    ∷ (eqb (byte_at bytes at) begin_code, begin_at bytes at)
    ∷ (eqb (byte_at bytes at) write_code, Whole Write (at + 1))
    ∷ (eqb (byte_at bytes at) read_code, Whole Read (at + 1))
    ∷ [])
    Broken

-- the whole actions from a place on, one after the other, and the place where no whole action stands
pub record Decoded : Type 0 where
  pub actions : List Action
  pub stop : ℕ

abbrev pub stopped : ℕ → Decoded
stopped at = record { actions = []; stop = at }

abbrev pub action_first : Action → Decoded → Decoded
action_first a d = record { actions = a ∷ d.actions; stop = d.stop }

abbrev pub go_on : Coded → (ℕ → Decoded) → ℕ → Decoded
go_on (Whole a next) rest at = action_first a (rest next)
go_on Broken rest at = stopped at
go_on End rest at = stopped at

-- at most k actions
abbrev pub decoded_within : ℕ → List ℕ → ℕ → Decoded
decoded_within zero bytes at = stopped at
decoded_within (suc k) bytes at = go_on (coded_at bytes at) (decoded_within k bytes) at

-- each action has a byte at least, so there are no more of them than bytes are left; that no action is left out is `Decodes`, below
unfoldable pub decoded_from : List ℕ → ℕ → Decoded
decoded_from bytes at = decoded_within (length bytes - at) bytes at

abbrev pub decoded : List ℕ → Decoded
decoded bytes = decoded_from bytes 0

-- no whole action stands there
abbrev pub Stops : Coded → Type 0
Stops (Whole a next) = ⊥
Stops Broken = Unit {0}
Stops End = Unit {0}

-- what holds of the actions from a place on (`decodes`, proofs/actions/Laws): a whole action comes first, where none stands there is none, and they stop where no
-- whole action stands: at the end of the bytes, or else at "an unknown or cut action"
pub record Decodes (bytes : List ℕ) (at : ℕ) : Type 0 where
  pub whole : (a : Action) (next : ℕ) → coded_at bytes at ≡ Whole a next
      → decoded_from bytes at ≡ record { actions = a ∷ (decoded_from bytes next).actions; stop = (decoded_from bytes next).stop }
  pub none : Stops (coded_at bytes at) → decoded_from bytes at ≡ record { actions = []; stop = at }
  pub within : at ≤ length bytes → (decoded_from bytes at).stop ≤ length bytes
  pub ended : at ≤ length bytes → (decoded_from bytes at).stop ≡ length bytes → coded_at bytes (decoded_from bytes at).stop ≡ End
  pub broken : at ≤ length bytes → ((decoded_from bytes at).stop ≡ length bytes → ⊥) → coded_at bytes (decoded_from bytes at).stop ≡ Broken

-- ---- to bytes

-- a number below 2^32 as four bytes, "low first"
abbrev pub value_bytes : ℕ → List ℕ
value_bytes v = v % 256 ∷ v / 256 % 256 ∷ v / 65536 % 256 ∷ v / 16777216 % 256 ∷ []

abbrev pub action_bytes : Action → List ℕ
action_bytes (Begin v) = begin_code ∷ value_bytes v
action_bytes Write = write_code ∷ []
action_bytes Read = read_code ∷ []

abbrev pub encoded : List Action → List ℕ
encoded [] = []
encoded (a ∷ rest) = action_bytes a ++ encoded rest
