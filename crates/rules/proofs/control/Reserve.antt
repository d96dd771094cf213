-- A reservation keeps control: only the tail page's used grows, and no record has seen that page as full.
-- Assumes nothing.
use mathlib.Core.Path.{◌≡◌, sym, ap, ◌∙◌, subst}
use mathlib.Core.Logic.{◌≢◌}
use mathlib.Core.List.{List}
use Prim.Native.Nat.{ℕ, ◌+◌, ◌≤◌, ◌<◌}
use native.Mathlib.Omega.{arith}
use lib.ListN.{get_or, set, length-set}
use lib.Seq.{get_or-set_same, get_or-set_other}
use Rattle.rules.specs.State.{top, State}
use Rattle.rules.specs.Write.{reserve}
use Rattle.rules.specs.declared.state.WriterPhase.{WriterPhase}
use Rattle.rules.specs.declared.state.WriterPhase.TheVariants as phase
use Rattle.rules.proofs.invariant.Order.{N, S, R, T, C, top_at, flag_of, used_of, phase_at, rephase, Held, place}
use Rattle.rules.proofs.invariant.Control.{At, RecordOk, Owns, Free, headed, Order, RecordIn, HeadedIn, Control}
use Rattle.rules.proofs.control.Phase.{headed-unless, owner-in, tail-le, owner-record, top_below, owners-free}
use Rattle.rules.proofs.order.Places.{place-once}
use Rattle.rules.proofs.order.Records.{record-map, records-set}

module _ {s : State} {L : ℕ → ℕ} {pc pt : ℕ} (v : Control s L pc pt) (deep : 1 ≤ s.depth) (want : (top s).phase ≡ phase.Want) (room : used_of s (T s) < S s) where
  abbrev P : ℕ → ℕ
  P = place (R s) L

  abbrev used' : List ℕ
  used' = set s.used (T s) (used_of s (T s) + 1)

  -- without a header mark the tail page would be the owner's, and full
  head : HeadedIn s L
  head = headed-unless v.flags (λ o. omega (arith, ap (used_of s) o.tailed, (owner-record v o).0.spot.full))

  kept : (p : ℕ) → p ≢ T s → get_or used' p 0 ≡ used_of s p
  kept p n = get_or-set_other s.used (T s) p _ 0 n

  off_tail : (i : ℕ) → i ≢ pt → i ≤ N s → P i ≢ T s
  off_tail i n h q = n (place-once v.links.cycle i pt h v.order.top (q ∙ sym v.order.tail_at))

  spot-kept : (t : ℕ) → At s.used (S s) P pc pt t → At used' (S s) P pc pt t
  spot-kept t a =
      record {
        k = a.k;
        lo = a.lo;
        hi = a.hi;
        is = a.is;
        full = kept t (λ q. omega (arith, a.full, ap (used_of s) q)) ∙ a.full;
      }

  record-kept : (ph : WriterPhase) → ((p : ℕ) → Owns ph p → flag_of s.words p ≡ 2) → RecordIn s L pc pt ph
      → RecordOk s.words used' (N s) (S s) P pc pt ph
  record-kept =
      record-map
      (λ t n m. record { spot = spot-kept t m.spot; next = m.next; not_last = m.not_last })
      (λ t m. record { spot = spot-kept t m.spot; room = m.room })

  order-kept : Order used' (N s) (S s) (T s) (C s) P pc pt
  order-kept =
      let o = v.order in
      record {
        tail_at = o.tail_at;
        commit_at = o.commit_at;
        le = o.le;
        top = o.top;
        room = rw (length-set s.used (T s) (used_of s (T s) + 1)) o.room;
        cap = rw (get_or-set_same s.used (T s) (used_of s (T s) + 1) 0 (omega (arith, tail-le v, o.room))) (omega arith);
        full = λ i lo hi. kept (P i) (off_tail i (omega arith) (omega arith)) ∙ o.full i lo hi;
        full0 = λ z hi. kept (P 0) (off_tail 0 (omega arith) (omega arith)) ∙ o.full0 z hi;
        empty = λ i lo hi. kept (P i) (off_tail i (omega arith) hi) ∙ o.empty i lo hi;
      }

  pub reserved-control : Control (reserve s.places.tail (used_of s (T s)) s) L pc pt
  reserved-control =
      let held = rephase s.stack (top_at s) (Held (T s) (used_of s (T s))) in
      record {
        links = v.links;
        order = order-kept;
        joined = v.joined;
        flags = headed head;
        owners = owners-free v deep held (subst Free (sym want) (λ p o. o)) (λ p o. o);
        depth = rw (length-set s.stack (top_at s) held) v.depth;
        records =
            records-set (RecordOk s.words used' (N s) (S s) P pc pt) s.stack s.depth (top_at s) held (top_below v deep)
            (λ i hi n. record-kept (phase_at s.stack i) (λ p o. (owner-in v i p hi o).2) (v.records i hi)) tt;
        reader = v.reader;
      }
