-- PUSH keeps control. Passed changes only the phase. Pushed moves the tail from t, which is full and not the newest page, to the page after it, which is empty.
-- Assumes nothing.
use mathlib.Core.Path.{◌≡◌, sym, ap, ◌∙◌, subst}
use mathlib.Core.Logic.{◌≢◌}
use Prim.Native.Nat.{ℕ, suc, ◌≤◌, ◌<◌}
use native.Mathlib.Omega.{arith}
use lib.ListN.{length-set}
use Rattle.rules.specs.State.{page, top, set_phase, State}
use Rattle.rules.specs.Write.{push}
use Rattle.rules.specs.declared.state.WriterPhase.{WriterPhase}
use Rattle.rules.specs.declared.state.WriterPhase.TheVariants as phase
use Rattle.rules.proofs.Lists.{by-eq, by-lt}
use Rattle.rules.proofs.invariant.Order.{N, S, R, T, C, top_at, next_of, used_of, phase_at, rephase, Push, place}
use Rattle.rules.proofs.invariant.Control.{At, Moving, RecordOk, Free, Above, headed, Order, Control}
use Rattle.rules.proofs.control.Phase.{owner-in, top_below, top-ok, headed-by, owners-free, want-control}
use Rattle.rules.proofs.order.Places.{place-next}
use Rattle.rules.proofs.order.Records.{record-map, records-set}

module _ {s : State} {L : ℕ → ℕ} {pc pt : ℕ} (v : Control s L pc pt) (deep : 1 ≤ s.depth) (t n : ℕ) (phase-is : (top s).phase ≡ Push t n) where
  abbrev P : ℕ → ℕ
  P = place (R s) L

  free : Free (top s).phase
  free = subst Free (sym phase-is) (λ p o. o)

  pub passed-control : Control (set_phase phase.Want s) L pc pt
  passed-control = want-control v deep free

  pub moving : Moving s.words s.used (N s) (S s) P pc pt t n
  moving = top-ok v deep (Push t n) phase-is

  -- ---- Pushed

  module _ (tail : T s ≡ t) where
    tail-place : P pt ≡ t
    tail-place = v.order.tail_at ∙ tail

    tail-below : pt < N s
    tail-below =
        let apart : pt ≢ N s = λ q. moving.not_last (sym tail-place ∙ ap P q) in
        omega (arith, v.order.top)

    next_place : (i : ℕ) → pc ≤ i → next_of s.words (P i) ≡ P (suc i)
    next_place i h =
        by-eq i 0
        (λ q. rw q (v.joined (omega arith)).next)
        (λ q. place-next v.links i (omega arith))

    tail-now : P (suc pt) ≡ n
    tail-now = sym (next_place pt v.order.le) ∙ ap (next_of s.words) tail-place ∙ moving.next

    spot-kept : (x : ℕ) → At s.used (S s) P pc pt x → At s.used (S s) P pc (suc pt) x
    spot-kept x a = record { k = a.k; lo = a.lo; hi = omega (arith, a.hi); is = a.is; full = a.full }

    record-kept : (i : ℕ) → i < s.depth → RecordOk s.words s.used (N s) (S s) P pc (suc pt) (phase_at s.stack i)
    record-kept i hi =
        record-map
        (λ x y m. record { spot = spot-kept x m.spot; next = m.next; not_last = m.not_last })
        (λ x m. record { spot = spot-kept x m.spot; room = m.room })
        (phase_at s.stack i) (λ p o. (owner-in v i p hi o).2) (v.records i hi)

    t-full : used_of s (P pt) ≡ S s
    t-full = ap (used_of s) tail-place ∙ moving.spot.full

    order-kept : Order s.used (N s) (S s) n (C s) P pc (suc pt)
    order-kept =
        let o = v.order in
        record {
          tail_at = tail-now;
          commit_at = o.commit_at;
          le = omega (arith, o.le);
          top = tail-below;
          room = o.room;
          cap = rw (← tail-now) (omega (arith, o.empty (suc pt) (omega arith) tail-below));
          full = λ i lo hi.
              by-lt i pt
              (λ a. o.full i lo a)
              (λ a.
              let q : i ≡ pt = omega arith in
              rw q t-full);
          full0 = λ z hi. by-eq pt 0 (λ q. ap (λ (i : ℕ). used_of s (P i)) (sym q) ∙ t-full) (λ q. o.full0 z (omega arith));
          empty = λ i lo hi. o.empty i (omega arith) hi;
        }

    pub pushed-control : Control (push (page n) s) L pc (suc pt)
    pushed-control =
        let w = rephase s.stack (top_at s) phase.Want in
        record {
          links = v.links;
          order = order-kept;
          joined = v.joined;
          flags = headed (headed-by v deep free (λ a b. subst (λ (x : WriterPhase). Above a b x → ⊥) (sym phase-is) (λ o. o)));
          owners = owners-free v deep w free (λ p o. o);
          depth = rw (length-set s.stack (top_at s) w) v.depth;
          records =
              records-set (RecordOk s.words s.used (N s) (S s) P pc (suc pt)) s.stack s.depth (top_at s) w (top_below v deep)
              (λ i hi ne. record-kept i hi) tt;
          reader = v.reader;
        }
