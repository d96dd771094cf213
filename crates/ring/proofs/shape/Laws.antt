-- The code tests the counts and the layout of a ring, and that is the whole test of shape: a slot's number is 32 bits wide, and meets its limit by that.
-- Assumes nothing.
use mathlib.Core.Path.{◌≡◌, refl, sym, ◌∙◌}
use mathlib.Core.Bool.{Bool, true, ◌&&◌, and-true}
use mathlib.Core.List.{[], ◌∷◌}
use Prim.Native.Nat.{ℕ}
use native.Mathlib.Omega.{arith}
use borrow.Author.Tests.{le-leb}
use mir.Syntax.{w32}
use mir.Val.{Val, Fits}
use borrow.Author.Rules.{rules}
use denote.Laws.{Is}
use lib.ListN.{get_or}
use Rattle.rules.specs.Limits.{most_count}
use Rattle.rules.specs.State.{State}
use Rattle.rules.specs.Shape.{counts_fit, layout_fits, ring_fits, number_fits, numbers_fit, in_shape}
use Rattle.rules.proofs.Lists.{all_get_d}
use Rattle.ring.specs.Ring.{state_of}
use Rattle.ring.specs.declared.state.Ring.{Ring}
use Rattle.ring.specs.contracts.state.Ring.{the_row}

module _ (r : State) where
  -- numbers that are 32 bits wide meet their limit
  numbers-fit : ((i : ℕ) → Fits w32 (get_or r.numbers i 0)) → numbers_fit r.numbers ≡ true
  unfolding numbers_fit
  numbers-fit h = all_get_d number_fits r.numbers (λ i. le-leb (get_or r.numbers i 0) most_count (omega (arith, h i)))

  -- so what the code tests, counts and layout, is the whole definition
  pub tested-in_shape :
      {counts layout : Bool} →
      counts ≡ counts_fit r.counts →
      layout ≡ layout_fits r.size r.places r.reader r.stack r.depth r.words r.used →
      ((i : ℕ) → Fits w32 (get_or r.numbers i 0)) →
      counts && layout ≡ in_shape r
  unfolding in_shape
  tested-in_shape c l h = rw (numbers-fit h, and-true, c, l)

-- the slots' numbers of a ring that a function is handed are 32 bits wide
narrow : (r : Ring) (w : Val) → Is the_row r (w ∷ []) → (i : ℕ) → Fits w32 (get_or r.numbers i 0)
narrow r w p i = search rules

-- so of such a ring the code's test is that of the whole shape: what it tells of one it tells of the other
pub fitting : (r : Ring) (w : Val) → Is the_row r (w ∷ []) → {fit told : Bool} → fit ≡ ring_fits (state_of r) → fit ≡ told → in_shape (state_of r) ≡ told
fitting r w p e h = sym (tested-in_shape (state_of r) refl refl (narrow r w p)) ∙ sym e ∙ h
