-- A look at the page after a full tail page keeps control: the record goes to PUSH or to MARK.
-- Assumes nothing.
use mathlib.Core.Path.{◌≡◌, refl, sym, ap, ◌∙◌, subst}
use mathlib.Core.Logic.{◌≢◌}
use Prim.Native.Nat.{ℕ, suc, ◌-◌, ◌≤◌}
use native.Mathlib.Omega.{arith}
use Rattle.rules.specs.State.{top, set_phase, State}
use Rattle.rules.specs.declared.state.WriterPhase.TheVariants as phase
use Rattle.rules.proofs.invariant.Order.{N, S, R, T, C, next_of, flag_of, used_of, Mark, Push, place}
use Rattle.rules.proofs.invariant.Control.{At, Free, headed, headless, HeadlessIn, FlagsIn, Control}
use Rattle.rules.proofs.control.Phase.{owner-record, newest-off, phase-control}
use Rattle.rules.proofs.order.Places.{place-once, place-next, last-next}

module _ {s : State} {L : ℕ → ℕ} {pc pt : ℕ} (v : Control s L pc pt) (deep : 1 ≤ s.depth) (want : (top s).phase ≡ phase.Want) (out : S s ≤ used_of s (T s)) where
  abbrev P : ℕ → ℕ
  P = place (R s) L

  -- the page after the tail page
  abbrev n : ℕ
  n = next_of s.words (T s)

  free : Free (top s).phase
  free = subst Free (sym want) (λ p o. o)

  spot : At s.used (S s) P pc pt (T s)
  spot =
      let o = v.order in
      record { k = pt; lo = o.le; hi = omega arith; is = o.tail_at; full = omega (arith, o.cap) }

  -- while there is no header mark, the tail page has the owner's mark, and is not the reader page
  headless-flag : HeadlessIn s L pc → flag_of s.words (T s) ≡ 2
  headless-flag o = ap (flag_of s.words) o.tailed ∙ (owner-record v o).1

  headless-off : HeadlessIn s L pc → T s ≢ R s
  headless-off o q = omega (arith, o.ahead, v.order.le, place-once v.links.cycle pt 0 v.order.top (omega arith) (v.order.tail_at ∙ q))

  -- a. t is the reader page
  pub look-reader : T s ≡ R s → Control (set_phase (Push (T s) (next_of s.words (T s))) s) L pc pt
  look-reader q =
      phase-control v deep (Push (T s) n) free (λ p o. o)
      (record { spot = spot; next = refl; not_last = λ z. newest-off v (sym z ∙ q) })
      (λ o. absurd (headless-off o q))

  -- f. flag NORMAL
  pub look-push : flag_of s.words (T s) ≡ 0 → Control (set_phase (Push (T s) (next_of s.words (T s))) s) L pc pt
  look-push f =
      phase-control v deep (Push (T s) n) free (λ p o. o)
      (record { spot = spot; next = refl; not_last = not_last v.flags })
      (λ o. absurd (omega (arith, headless-flag o)))
    where
      not_last : FlagsIn s L pc → T s ≢ P (N s)
      not_last (headed h) q = omega (arith, ap (flag_of s.words) q, h.last)
      not_last (headless o) q = omega (arith, headless-flag o)

  -- e. flag HEADER or UPDATE, past the cases b and c
  pub look-mark : next_of s.words (T s) ≢ C s → (flag_of s.words (T s) ≡ 1 → C s ≢ R s) → Control (set_phase (Mark (T s) (next_of s.words (T s))) s) L pc pt
  look-mark not-commit not-reader =
      phase-control v deep (Mark (T s) n) free (λ p o. o) (record { spot = spot; room = room v.flags }) (λ o. (o.tailed, to-newest o))
    where
      to-newest : (o : HeadlessIn s L pc) → n ≡ P (N s)
      to-newest o =
          let last : suc (N s - 1) ≡ N s = omega (arith, v.links.cycle.two) in
          ap (next_of s.words) o.tailed ∙ place-next v.links (N s - 1) (omega (arith, v.links.cycle.two)) ∙ ap P last

      room : FlagsIn s L pc → T s ≡ P (N s) → 2 ≤ pc
      room (headed h) q =
          let to-oldest : n ≡ P 1 = ap (next_of s.words) q ∙ last-next v.links in
          let not-one : pc ≢ 1 = λ z. not-commit (to-oldest ∙ ap P (sym z) ∙ v.order.commit_at) in
          let not-zero : pc ≢ 0 = λ z. not-reader (ap (flag_of s.words) q ∙ h.last) (sym v.order.commit_at ∙ ap P z) in
          omega arith
      room (headless o) q =
          absurd (omega (arith, v.links.cycle.two, place-once v.links.cycle (N s - 1) (N s) (omega arith) (omega arith) (sym o.tailed ∙ q)))
