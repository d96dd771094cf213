-- Where a walk begins is within the bytes; the set-up of a header that is not refused is one that a ring accepts; what a run says of the buffer; and where a
-- replay ends, `nine-right`: a refusal 9 stands at an unknown or cut action.
-- Assumes nothing.
use mathlib.Core.Path.{◌≡◌, refl, sym, ap, ◌∙◌, subst}
use mathlib.Core.Bool.{Bool, true, false}
use mathlib.Core.List.{List, [], ◌∷◌}
use Prim.Native.Nat.{ℕ, ◌+◌, ◌-◌, ◌≤◌}
use native.Mathlib.Omega.{arith}
use borrow.Author.Tests.{eq-eqb, ne_eqb}
use Rattle.std.proofs.Math.Nat.{min-le_right}
use lib.Dec.{eqb}
use Rattle.std.specs.Prelude.{Result, Ok, Err}
use lib.ListN.{length, take, drop, length-drop}
use lib.Seq.{take_all}
use Rattle.rules.specs.Lists.{first}
use Rattle.rules.specs.State.{size_of, State}
use Rattle.rules.specs.SetUp.{fresh_ring}
use Rattle.rules.specs.Shape.{size_fits}
use Rattle.rules.specs.Actions.{Decoded, byte_at, decoded, Decodes}
use Rattle.rules.specs.Replay.{told_replay, ran_buffer, buffer_fits, buffer_rule, refused_replay, ran, replay_rule, ReplayOutcome}
use Rattle.trace.specs.Header.{mode_of, set_up, pages_at, slots_at, mode_at, set_up_in, header_rows, header_of}
use Rattle.trace.specs.Replays.{walk_place, walk_bytes, walk_actions, walked, replayed_by, replayed_from, NineRight}
use Rattle.rules.specs.declared.state.Size.{Size}
use Rattle.rules.specs.declared.state.Refusal.{Refusal}
use Rattle.rules.specs.declared.state.Refusal.TheVariants as refusal
use Rattle.rules.specs.declared.state.Answer.{Answer}
use Rattle.rules.specs.declared.state.Answer.TheVariants as answer
use Rattle.rules.proofs.Lists.{by_bool, by_cond, by-eq}
use Rattle.rules.proofs.actions.Laws.{stop-within, decodes}
use Rattle.rules.proofs.actions.Shift.{shifted, decoded-drop}

pub place-within : (len at : ℕ) → walk_place len at ≤ len
place-within len at = min-le_right at len

-- ---- the header

-- a refusal of the header is one of its own
abbrev OfHeader : Refusal → Type 0
OfHeader refusal.Mark = Unit {0}
OfHeader refusal.Version = Unit {0}
OfHeader refusal.Sizes = Unit {0}
OfHeader _ = ⊥

-- what it says is a set-up that a ring accepts, or such a refusal
abbrev pub Accepts : Result Size Refusal → Type 0
Accepts (Ok size) = size_fits size ≡ true
Accepts (Err why) = OfHeader why

set-up-accepts : (pages slots mode : ℕ) → Accepts (set_up pages slots mode)
set-up-accepts pages slots mode = by_cond Accepts (size_fits (size_of pages slots (mode_of mode))) (λ e. e) (λ e. tt)

-- what holds beside each test of a list, and otherwise, holds of the first that passes
abbrev Each : (Result Size Refusal → Type 0) → List (Bool × Result Size Refusal) → Type 0
Each P [] = Unit {0}
Each P (row ∷ rows) = P row.1 × Each P rows

first_holds : (P : Result Size Refusal → Type 0) (rows : List (Bool × Result Size Refusal)) (otherwise : Result Size Refusal) → Each P rows → P otherwise → P (first rows otherwise)
first_holds P [] otherwise hs h = h
first_holds P (row ∷ rows) otherwise hs h = by_cond P row.0 (λ e. hs.0) (λ e. first_holds P rows otherwise hs.1 h)

pub header-accepts : (bytes : List ℕ) → Accepts (header_of bytes)
header-accepts bytes =
    first_holds Accepts (header_rows bytes) (set_up_in bytes) (tt, (tt, (tt, (tt, tt))))
    (set-up-accepts (byte_at bytes pages_at) (byte_at bytes slots_at) (byte_at bytes mode_at))

pub ready-fits : (bytes : List ℕ) {pages slots mode : ℕ} → header_of bytes ≡ Ok (size_of pages slots mode) → size_fits (size_of pages slots mode) ≡ true
ready-fits bytes e = subst Accepts e (header-accepts bytes)

-- ---- a walk that begins at `from`

module _ (bytes : List ℕ) (at from : ℕ) (e : from ≡ walk_place (length bytes) at) where
  -- the part of the bytes that the code passes on
  pub walk-part : take (length bytes - from) (drop from bytes) ≡ walk_bytes bytes at
  walk-part = take_all (length bytes - from) (drop from bytes) (rw length-drop (omega arith)) ∙ ap (λ (k : ℕ). drop k bytes) e

  -- its actions are those of all the bytes from there on
  pub walk_same : walk_actions bytes at ≡ shifted from (decoded (walk_bytes bytes at))
  walk_same =
      decoded-drop bytes (walk_place (length bytes) at) (place-within (length bytes) at)
      ∙ ap (λ (k : ℕ). shifted k (decoded (walk_bytes bytes at))) (sym e)

  -- there are as many
  pub walk-fits : (room : ℕ) → buffer_fits (walk_actions bytes at) room ≡ buffer_fits (decoded (walk_bytes bytes at)) room
  walk-fits room = ap (λ (d : Decoded). buffer_fits d room) walk_same

  -- and they stop at one of their places
  pub walk-stop : from + (decoded (walk_bytes bytes at)).stop ≤ length bytes
  walk-stop =
      let l = stop-within bytes (walk_place (length bytes) at) (place-within (length bytes) at) in
      subst (λ (d : Decoded). d.stop ≤ length bytes) walk_same l

-- ---- where a replay ends

module _ (bytes : List ℕ) (at : ℕ) where
  abbrev d : Decoded
  d = walk_actions bytes at

  from_place : Decodes bytes (walk_place (length bytes) at)
  from_place = decodes bytes (walk_place (length bytes) at)

  refused-right : (why : Refusal) (r : ReplayOutcome) → (why ≡ refusal.Action → ⊥) → r.answer ≡ answer.Refused why → NineRight bytes r
  refused-right why r n e =
      record {
        nine = λ h. absurd (n cc);
        told = λ h. absurd (n cc);
        whole = λ h. cc;
      }

  -- a walk is not refused with 10
  pub walked-not-room : (r : State) → (walked (length bytes) r d).answer ≡ answer.Refused refusal.Room → ⊥
  walked-not-room r e =
      by_bool (eqb d.stop (length bytes))
      (λ t. let q : answer.Accepted ≡ answer.Refused refusal.Room = rw t at e in cc)
      (λ f. let q : answer.Refused refusal.Action ≡ answer.Refused refusal.Room = rw f at e in cc)

  walked-right : (r : State) → NineRight bytes (walked (length bytes) r d)
  walked-right r =
      record {
        nine = λ h.
            by-eq d.stop (length bytes)
            (λ e. let q : answer.Accepted ≡ answer.Refused refusal.Action = rw (eq-eqb d.stop (length bytes) e) at h in absurd cc)
            (λ n. from_place.broken (place-within (length bytes) at) n);
        told = λ h. ap (λ (a : Answer). told_replay a d.stop) h;
        whole = λ h.
            by-eq d.stop (length bytes)
            (λ e. e)
            (λ n. let q : answer.Refused refusal.Action ≡ answer.Accepted = rw (ne_eqb d.stop (length bytes) n) at h in cc);
      }

  header-not-action : (why : Refusal) → OfHeader why → why ≡ refusal.Action → ⊥
  header-not-action why h e = subst OfHeader e h

  by_right : (buffer : List ℕ) (h : Result Size Refusal) → Accepts h → NineRight bytes (replayed_by h bytes at buffer)
  by_right buffer (Err why) ok = refused-right why (refused_replay why) (header-not-action why ok) refl
  by_right buffer (Ok size) ok =
      by_cond (NineRight bytes) (buffer_fits (walk_actions bytes at) (length buffer))
      (λ e. walked-right (fresh_ring size))
      (λ e. refused-right refusal.Room (refused_replay refusal.Room) (λ q. cc) refl)

  pub nine-right : (buffer : List ℕ) → NineRight bytes (replayed_from bytes at buffer)
  unfolding replayed_from
  nine-right buffer = by_right buffer (header_of bytes) (header-accepts bytes)

-- ---- a run whose set-up is as it should be: its answer tells whether the buffer was long enough

module _ (pages slots mode : ℕ) (bytes buffer : List ℕ) (fits : size_fits (size_of pages slots mode) ≡ true) where
  pub rule-runs : buffer_fits (decoded bytes) (length buffer) ≡ true → replay_rule pages slots mode bytes buffer ≡ ran (fresh_ring (size_of pages slots mode)) (decoded bytes)
  rule-runs enough = rw (fits, enough)

  pub rule-fills : buffer_fits (decoded bytes) (length buffer) ≡ true → buffer_rule pages slots mode bytes buffer ≡ ran_buffer (fresh_ring (size_of pages slots mode)) (decoded bytes) buffer
  rule-fills enough = rw (fits, enough)

  pub rule-short : buffer_fits (decoded bytes) (length buffer) ≡ false → replay_rule pages slots mode bytes buffer ≡ refused_replay refusal.Room
  rule-short short = rw (fits, short)

  pub rule-keeps : buffer_fits (decoded bytes) (length buffer) ≡ false → buffer_rule pages slots mode bytes buffer ≡ buffer
  rule-keeps short = rw (fits, short)

  pub accepted-fits : (replay_rule pages slots mode bytes buffer).answer ≡ answer.Accepted → buffer_fits (decoded bytes) (length buffer) ≡ true
  accepted-fits e =
      by_bool (buffer_fits (decoded bytes) (length buffer))
      (λ enough. enough)
      (λ short.
      let refused : answer.Refused refusal.Room ≡ answer.Accepted = rw (fits, short) at e in
      cc)

  pub refused-short : ((replay_rule pages slots mode bytes buffer).answer ≡ answer.Accepted → ⊥) → buffer_fits (decoded bytes) (length buffer) ≡ false
  refused-short n =
      by_bool (buffer_fits (decoded bytes) (length buffer))
      (λ enough. absurd (n (rw (fits, enough) refl)))
      (λ short. short)
