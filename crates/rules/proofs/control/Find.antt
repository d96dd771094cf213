-- The reader's steps that change only its phase or the read position keep control: Event, Found, Missed.
-- Assumes nothing.
use mathlib.Core.Path.{◌≡◌, sym, ap, ◌∙◌}
use mathlib.Core.Logic.{◌≢◌}
use Prim.Native.Nat.{ℕ, ◌≤◌}
use native.Mathlib.Omega.{arith}
use Rattle.rules.specs.State.{with_reader, State}
use Rattle.rules.specs.Read.{hand_out}
use Rattle.rules.specs.declared.state.ReaderPhase.TheVariants as reading
use Rattle.rules.proofs.invariant.Order.{N, R, C, next_of, flag_of, Found, place}
use Rattle.rules.proofs.invariant.Control.{Control}
use Rattle.rules.proofs.control.Phase.{head_of, reader-control, unread-control}
use Rattle.rules.proofs.order.Places.{last-next}

module _ {s : State} {L : ℕ → ℕ} {pc pt : ℕ} (v : Control s L pc pt) where
  -- Event
  pub handed-control : Control (hand_out s) L pc pt
  handed-control = unread-control v _ _ _

  -- Found: p has the header mark, so it is the newest page, and h the oldest
  pub found-control : C s ≢ R s → (p h : ℕ) → p ≤ N s → p ≢ R s → flag_of s.words p ≡ 1 → h ≡ next_of s.words p → Control (with_reader (Found p h) s) L pc pt
  found-control apart p h p≤N p≢R f next =
      let c = v.links.cycle in
      let newest = (head_of v.flags p p≤N p≢R f).only p p≤N p≢R f in
      let oldest : h ≡ L 0 = next ∙ ap (next_of s.words) newest ∙ last-next v.links in
      let ahead : pc ≢ 0 = λ z. apart (sym v.order.commit_at ∙ ap (place (R s) L) z) in
      reader-control v _ _ _ (Found p h) (omega arith, p≤N, p≢R, rw oldest (c.bound 0), λ q. c.off 0 (sym oldest ∙ q))

  -- Missed: an idle reader has no pages
  pub missed-control : Control (with_reader reading.Idle s) L pc pt
  missed-control = reader-control v _ _ _ reading.Idle tt
