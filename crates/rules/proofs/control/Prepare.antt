-- Prepared keeps control: only the reader page's word changes, and while the commit page is another no clause but the reader's own reads it.
-- Assumes nothing.
use mathlib.Core.Path.{◌≡◌, sym, ap, ◌∙◌, subst}
use mathlib.Core.Logic.{◌≢◌}
use mathlib.Core.List.{List}
use Prim.Native.Nat.{ℕ, ◌+◌, ◌*◌, ◌/◌, ◌%◌, ◌<◌}
use native.Mathlib.Omega.{arith}
use lib.ListN.{get_or, set, length-set}
use lib.Seq.{get_or-set_same, get_or-set_other}
use Rattle.rules.specs.State.{page, State}
use Rattle.rules.specs.Read.{prepare}
use Rattle.rules.proofs.invariant.Order.{N, S, R, T, next_of, flag_of, phase_at, Found, place}
use Rattle.rules.proofs.invariant.Control.{At, RecordOk, Flags, headed, headless, ReaderOk, FlagsIn, Control}
use Rattle.rules.proofs.control.Phase.{owner-in, newest-off}
use Rattle.rules.proofs.order.Places.{place-off}
use Rattle.rules.proofs.order.Records.{record-map, owners-word}

module _ {s : State} {L : ℕ → ℕ} {pc pt : ℕ} (v : Control s L pc pt) (p h : ℕ) (found : s.reader ≡ Found p h) where
  abbrev P : ℕ → ℕ
  P = place (R s) L

  abbrev words' : List ℕ
  words' = set s.words (R s) (4 * next_of s.words h + 1)

  reader-ok : ReaderOk s.words (N s) (R s) pc (Found p h)
  reader-ok = subst (ReaderOk s.words (N s) (R s) pc) found v.reader

  here : get_or words' (R s) 0 ≡ 4 * next_of s.words h + 1
  here = get_or-set_same s.words (R s) _ 0 (omega (arith, v.links.linked.room, v.links.cycle.reader))

  other : (q : ℕ) → q ≢ R s → get_or words' q 0 ≡ get_or s.words q 0
  other q n = get_or-set_other s.words (R s) q _ 0 n

  same_flag : (q : ℕ) → q ≢ R s → flag_of words' q ≡ flag_of s.words q
  same_flag q n = ap (λ (w : ℕ). w % 4) (other q n)

  same_next : (q : ℕ) → q ≢ R s → next_of words' q ≡ next_of s.words q
  same_next q n = ap (λ (w : ℕ). w / 4) (other q n)

  -- the commit page is another, so no record has seen the reader page
  seen-off : (x : ℕ) → At s.used (S s) P pc pt x → x ≢ R s
  seen-off x a q = place-off v.links.cycle a.k (omega (arith, a.lo, reader-ok.0)) (a.is ∙ q)

  flags-kept : FlagsIn s L pc → Flags words' (N s) P (T s) pc s.stack s.depth
  flags-kept (headed g) =
      headed (record {
        last = same_flag (P (N s)) (newest-off v) ∙ g.last;
        only = λ q hq nq f. g.only q hq nq (sym (same_flag q nq) ∙ f);
      })
  flags-kept (headless o) =
      headless (record {
        none = λ q hq nq f. o.none q hq nq (sym (same_flag q nq) ∙ f);
        last = same_flag (P (N s)) (newest-off v) ∙ o.last;
        tailed = o.tailed;
        ahead = o.ahead;
        a = o.a;
        below = o.below;
        owner = o.owner;
        above = o.above;
      })

  record-kept : (i : ℕ) → i < s.depth → RecordOk words' s.used (N s) (S s) P pc pt (phase_at s.stack i)
  record-kept i hi =
      record-map
      (λ x y m. record { spot = m.spot; next = same_next x (seen-off x m.spot) ∙ m.next; not_last = m.not_last })
      (λ x m. m)
      (phase_at s.stack i)
      (λ q o.
      let k = owner-in v i q hi o in
      same_flag q (seen-off q k.0) ∙ k.2)
      (v.records i hi)

  pub prepared-control : Control (prepare (page p) (page h) s) L pc pt
  prepared-control =
      record {
        links = record {
          cycle = v.links.cycle;
          linked = record {
            room = rw (length-set s.words (R s) (4 * next_of s.words h + 1)) v.links.linked.room;
            step = λ i. same_next (L i) (v.links.cycle.off i) ∙ v.links.linked.step i;
          };
        };
        order = v.order;
        joined = λ z. absurd (omega (arith, reader-ok.0));
        flags = flags-kept v.flags;
        owners = owners-word v.owners words' (R s) same_flag (omega (arith, here));
        depth = v.depth;
        records = record-kept;
        reader = (reader-ok.0, reader-ok.1, reader-ok.2, reader-ok.3, reader-ok.4, here ∙ ap (λ (w : ℕ). 4 * w + 1) (sym (same_next h reader-ok.4)));
      }
