-- The actions of some bytes from a place on are those of the part that begins there, with their stop counted from the first of all bytes: `decoded-drop`. What stands
-- at a place of the part is what stands there in the whole. Assumes nothing.
use mathlib.Core.Path.{◌≡◌, refl, sym, ap, ◌∙◌}
use mathlib.Core.Bool.{Bool, true, false, cond}
use mathlib.Core.List.{List}
use Prim.Native.Nat.{ℕ, zero, suc, ◌+◌, ◌-◌, ◌≤◌}
use native.Mathlib.Omega.{arith}
use borrow.Author.Tests.{le-leb, leb-true}
use lib.Dec.{eqb, leb, ltb}
use lib.ListN.{length, drop, length-drop}
use lib.Seq.{get_or-drop}
use Rattle.std.specs.Cmp.{both_ways}
use Rattle.rules.specs.Actions.{Decoded, begin_code, write_code, read_code, begin_length, byte_at, begin_value, begin_at, coded_at, action_first, go_on, decoded_within, decoded_from, decoded}
use Rattle.rules.specs.declared.state.Action.{Action}
use Rattle.rules.specs.declared.state.Action.TheVariants.{Begin, Write, Read}
use Rattle.rules.specs.declared.actions.Coded.{Coded}
use Rattle.rules.specs.declared.actions.Coded.TheVariants.{Whole, Broken, End}

-- what is told from a later place on, told from the first
abbrev pub shifted : ℕ → Decoded → Decoded
shifted from d = record { actions = d.actions; stop = from + d.stop }

abbrev moved : ℕ → Coded → Coded
moved from (Whole a next) = Whole a (from + next)
moved from Broken = Broken
moved from End = End

cond-moved : (from : ℕ) (b b' : Bool) (x x' y y' : Coded) → b ≡ b' → x ≡ moved from x' → y ≡ moved from y' → cond b x y ≡ moved from (cond b' x' y')
cond-moved from b true x x' y y' e p q = rw e p
cond-moved from b false x x' y y' e p q = rw e q

module _ (bytes : List ℕ) (from : ℕ) (l : from ≤ length bytes) where
  abbrev part : List ℕ
  part = drop from bytes

  part_length : length part ≡ length bytes - from
  part_length = length-drop from bytes

  end_same : (i : ℕ) → leb (length bytes) (from + i) ≡ leb (length part) i
  end_same i =
      let n = part_length in
      both_ways _ _
      (λ h. le-leb (length part) i (omega (arith, leb-true (length bytes) (from + i) h)))
      (λ h. le-leb (length bytes) (from + i) (omega (arith, leb-true (length part) i h)))

  byte-same : (i : ℕ) → byte_at bytes (from + i) ≡ byte_at part i
  byte-same i = sym (get_or-drop from bytes i 0)

  byte-after : (i k : ℕ) → byte_at bytes (from + i + k) ≡ byte_at part (i + k)
  byte-after i k =
      let e : from + i + k ≡ from + (i + k) = omega arith in
      ap (λ (n : ℕ). byte_at bytes n) e ∙ byte-same (i + k)

  code_same : (i code : ℕ) → eqb (byte_at bytes (from + i)) code ≡ eqb (byte_at part i) code
  code_same i code = ap (λ (b : ℕ). eqb b code) (byte-same i)

  whole-moved : (a : Action) (i k : ℕ) → Whole a (from + i + k) ≡ moved from (Whole a (i + k))
  whole-moved a i k =
      let e : from + i + k ≡ from + (i + k) = omega arith in
      ap (Whole a) e

  value_same : (i : ℕ) → begin_value bytes (from + i) ≡ begin_value part i
  value_same i = rw (byte-after i 1, byte-after i 2, byte-after i 3, byte-after i 4)

  begin-moved : (i : ℕ) → begin_at bytes (from + i) ≡ moved from (begin_at part i)
  begin-moved i =
      let n = part_length in
      let left : length bytes - (from + i) ≡ length part - i = omega arith in
      cond-moved from (ltb (length bytes - (from + i)) begin_length) (ltb (length part - i) begin_length) Broken Broken
      (Whole (Begin (begin_value bytes (from + i))) (from + i + begin_length)) (Whole (Begin (begin_value part i)) (i + begin_length))
      (ap (λ (k : ℕ). ltb k begin_length) left)
      refl
      (ap (λ (v : ℕ). Whole (Begin v) (from + i + begin_length)) (value_same i) ∙ whole-moved (Begin (begin_value part i)) i begin_length)

  coded-moved : (i : ℕ) → coded_at bytes (from + i) ≡ moved from (coded_at part i)
  coded-moved i =
      cond-moved from _ _ End End _ _ (end_same i) refl
      (cond-moved from _ _ _ _ _ _ (code_same i begin_code) (begin-moved i)
      (cond-moved from _ _ _ _ _ _ (code_same i write_code) (whole-moved Write i 1)
      (cond-moved from _ _ _ _ Broken Broken (code_same i read_code) (whole-moved Read i 1) refl)))

  goes-shifted : (k i : ℕ) → ((next : ℕ) → decoded_within k bytes (from + next) ≡ shifted from (decoded_within k part next)) → (c : Coded)
      → go_on (moved from c) (decoded_within k bytes) (from + i) ≡ shifted from (go_on c (decoded_within k part) i)
  goes-shifted k i h (Whole a next) = ap (action_first a) (h next)
  goes-shifted k i h Broken = refl
  goes-shifted k i h End = refl

  within-shifted : (k i : ℕ) → decoded_within k bytes (from + i) ≡ shifted from (decoded_within k part i)
  within-shifted zero i = refl
  within-shifted (suc k) i =
      ap (λ (c : Coded). go_on c (decoded_within k bytes) (from + i)) (coded-moved i) ∙ goes-shifted k i (within-shifted k) (coded_at part i)

  pub decoded-drop : decoded_from bytes from ≡ shifted from (decoded part)
  unfolding decoded_from
  decoded-drop =
      let n = part_length in
      let start : from ≡ from + 0 = omega arith in
      let left : length bytes - from ≡ length part - 0 = omega arith in
      ap (λ (k : ℕ). decoded_within (length bytes - from) bytes k) start
      ∙ within-shifted (length bytes - from) 0
      ∙ ap (λ (k : ℕ). shifted from (decoded_within k part 0)) left
