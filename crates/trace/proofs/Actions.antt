-- Actions as bytes, read back: where the bytes of an action stand it is read, and the bytes of a list of actions are that list.
-- Assumes nothing.
use mathlib.Core.Path.{◌≡◌, ap, ◌∙◌}
use mathlib.Core.List.{List, [], ◌∷◌, ◌++◌, append_assoc, append-nil}
use Prim.Native.Nat.{ℕ, ◌+◌, ◌-◌, ◌/◌, ◌%◌, ◌≤◌, ◌<◌}
use Rattle.std.proofs.lemmas.Nat.{from_le_bytes-to_le_bytes_4}
use native.Mathlib.Omega.{arith}
use borrow.Author.Tests.{le-leb, lt-leb, le-ltb}
use lib.ListN.{length, length-append}
use lib.Seq.{get_or-append_seam, get_or-append-add}
use Rattle.rules.specs.Limits.{most_count}
use Rattle.rules.specs.Actions.{begin_code, write_code, read_code, begin_length, value_of, value_bytes, coded_at, action_first, decoded_from, action_bytes, encoded}
use Rattle.trace.specs.Trace.{ValueFits, ValuesFit}
use Rattle.rules.specs.declared.state.Action.{Action}
use Rattle.rules.specs.declared.state.Action.TheVariants.{Begin, Write, Read}
use Rattle.rules.specs.declared.actions.Coded.TheVariants.{Whole, End}
use Rattle.rules.proofs.actions.Laws.{decoded-whole, decoded-stops}

-- ---- one action

value-back : (v : ℕ) → v ≤ most_count → value_of (v % 256) (v / 256 % 256) (v / 65536 % 256) (v / 16777216 % 256) ≡ v
value-back v h =
    let e = from_le_bytes-to_le_bytes_4 v (omega arith) in
    omega (arith, e)

module _ (pre rest : List ℕ) where
  -- a byte that stands at a place is before the end
  before-end : (x : ℕ) → length pre < length (pre ++ x ∷ rest)
  before-end x = simp length-append (omega arith)

  pub whole-at : (a : Action) → ValueFits a → coded_at (pre ++ (action_bytes a ++ rest)) (length pre) ≡ Whole a (length pre + length (action_bytes a))
  whole-at (Begin v) f =
      let bytes = pre ++ (action_bytes (Begin v) ++ rest) in
      let l : length bytes ≡ length pre + (5 + length rest) = simp length-append (omega arith) in
      rw (
        lt-leb (length bytes) (length pre) (omega arith),
        get_or-append_seam pre begin_code (value_bytes v ++ rest) 0,
        le-ltb (length bytes - length pre) begin_length (omega arith),
        get_or-append-add pre (action_bytes (Begin v) ++ rest) 1 0,
        get_or-append-add pre (action_bytes (Begin v) ++ rest) 2 0,
        get_or-append-add pre (action_bytes (Begin v) ++ rest) 3 0,
        get_or-append-add pre (action_bytes (Begin v) ++ rest) 4 0,
        value-back v f,
      )
  whole-at Write f = rw (lt-leb _ _ (before-end write_code), get_or-append_seam)
  whole-at Read f = rw (lt-leb _ _ (before-end read_code), get_or-append_seam)

-- ---- a list of actions

pub decoded-encoded : (pre : List ℕ) (actions : List Action) → ValuesFit actions → decoded_from (pre ++ encoded actions) (length pre) ≡ record { actions = actions; stop = length (pre ++ encoded actions) }
decoded-encoded pre [] f =
    let e : coded_at (pre ++ []) (length pre) ≡ End = rw append-nil (simp (le-leb (length pre) (length pre) (omega arith))) in
    decoded-stops (pre ++ []) (length pre) e tt ∙ rw append-nil
decoded-encoded pre (a ∷ rest) f =
    decoded-whole (pre ++ (action_bytes a ++ encoded rest)) (length pre) (whole-at pre (encoded rest) a f.0)
    ∙ ap (action_first a) (rw (append_assoc, length-append) at (decoded-encoded (pre ++ action_bytes a) rest f.1))
