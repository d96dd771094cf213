-- Where a slot stands: inside the room for slots, and no two slots at one place. Over any page and any number of slots in a page.
-- Assumes nothing.
use mathlib.Core.Path.{◌≡◌, ap}
use Prim.Native.Nat.{ℕ, ◌+◌, ◌*◌, ◌≤◌, ◌<◌}
use native.Mathlib.Nat.{mul-le-mul_right}
use native.Mathlib.Omega.{arith}
use lib.Dec.{ltb}
use borrow.Author.Tests.{ltb-true, ltb-false}
use Rattle.rules.specs.Limits.{most_pages, most_slots, slot_room}
use Rattle.rules.specs.State.{page, slot_index}
use Rattle.rules.specs.declared.state.PageNo.{PageNo}
use Rattle.rules.specs.declared.state.Size.{Size}
use Rattle.rules.proofs.Lists.{by_bool}

module _ (size : Size) where
  pub slot_index-room : (p : PageNo) (slot : ℕ) → p.0 ≤ most_pages → size.slots ≤ most_slots → slot < most_slots → slot_index size p slot < slot_room
  slot_index-room p slot hp hs hl = omega (arith, mul-le-mul_right size.slots hp)

  -- a slot of an earlier page stands before every slot of a later one
  earlier : (p q : PageNo) (i j : ℕ) → i < size.slots → p.0 < q.0 → slot_index size p i < slot_index size q j
  earlier p q i j hi h = omega (arith, mul-le-mul_right {m = p.0 + 1} {n = q.0} size.slots (omega arith))

  pub slot_index-once : (p q : PageNo) (i j : ℕ) → i < size.slots → j < size.slots → slot_index size p i ≡ slot_index size q j → (p ≡ q) × (i ≡ j)
  slot_index-once p q i j hi hj e =
      by_bool (ltb p.0 q.0)
      (λ h. absurd (omega (arith, earlier p q i j hi (ltb-true _ _ h))))
      (λ h.
      by_bool (ltb q.0 p.0)
      (λ k. absurd (omega (arith, earlier q p j i hj (ltb-true _ _ k))))
      (λ k.
      let same : p.0 ≡ q.0 = omega (arith, ltb-false p.0 q.0 h, ltb-false q.0 p.0 k) in
      (ap page same, omega (arith, ap (λ (x : ℕ). x * size.slots) same))))
