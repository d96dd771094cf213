-- MARK keeps control. Shared and Retry change only the phase. Marked turns the order by one: t was the newest page and n the oldest, which is now the newest, empty; until a
-- PROMOTE puts one there, there is no header mark.
-- Assumes nothing.
use mathlib.Core.Path.{◌≡◌, refl, sym, ap, ◌∙◌, subst}
use mathlib.Core.Logic.{◌≢◌, inl, inr}
use mathlib.Core.Bool.{true, false}
use mathlib.Core.List.{List}
use Prim.Native.Nat.{ℕ, suc, ◌+◌, ◌-◌, ◌*◌, ◌≤◌, ◌<◌}
use native.Mathlib.Omega.{arith}
use lib.ListN.{get_or, set, length-set}
use lib.Seq.{get_or-set_same, get_or-set_other}
use Rattle.rules.specs.State.{page, top, set_phase, State}
use Rattle.rules.specs.Write.{mark}
use Rattle.rules.specs.declared.state.WriterPhase.TheVariants as phase
use Rattle.rules.specs.declared.state.Writer.{Writer}
use Rattle.rules.proofs.Lists.{by-eq}
use Rattle.rules.proofs.invariant.Order.{N, S, R, T, C, top_at, next_of, flag_of, phase_at, rephase, Mark, Promote, place, turn}
use Rattle.rules.proofs.invariant.Control.{At, Moving, Marking, RecordOk, Owns, Free, Owners, Above, Flags, headless, Order, HeadedIn, Control}
use Rattle.rules.proofs.control.Phase.{head_of, marked-not-last, owner-in, placed-le, top_below, top-ok, top_above, phase-control, want-control}
use Rattle.rules.proofs.order.Lower.{spot-lower}
use Rattle.rules.proofs.order.Places.{place-once, place-past, last-next, place-turn}
use Rattle.rules.proofs.order.Records.{Reflag, reflag, flag-other, flag-apart, reflag-links, reflag-small, record-map, phase-same, records-set, owners-set, reader-map}
use Rattle.rules.proofs.order.Turn.{turn-links}

module _ {s : State} {L : ℕ → ℕ} {pc pt : ℕ} (v : Control s L pc pt) (deep : 1 ≤ s.depth) (t n : ℕ) (phase-is : (top s).phase ≡ Mark t n) where
  abbrev P : ℕ → ℕ
  P = place (R s) L

  free : Free (top s).phase
  free = subst Free (sym phase-is) (λ p o. o)

  pub marking : Marking s.used (N s) (S s) P pc pt t
  marking = top-ok v deep (Mark t n) phase-is

  -- ---- Retry and Shared

  pub retry-control : Control (set_phase phase.Want s) L pc pt
  retry-control = want-control v deep free

  pub shared-control : get_or s.words t 0 ≡ 4 * n + 2 → Control (set_phase (Promote t n false) s) L pc pt
  shared-control word-is =
      phase-control v deep (Promote t n false) free (λ p o. o)
      (record { spot = marking.spot; next = omega arith; not_last = marked-not-last v.flags t (omega arith) })
      (λ o. subst (Above (P (N s - 1)) (P (N s))) phase-is (top_above v deep free o))

  -- ---- Marked

  module _ (word-is : get_or s.words t 0 ≡ 4 * n + 1) where
    abbrev P' : ℕ → ℕ
    P' = place (R s) (turn L)

    abbrev words' : List ℕ
    words' = set s.words t (4 * n + 2)

    abbrev used' : List ℕ
    used' = set s.used n 0

    abbrev owner : Writer
    owner = rephase s.stack (top_at s) (Promote t n true)

    -- ---- t is the newest page and the tail page, n the oldest page, and the commit page is neither the reader page nor n

    t≤N : t ≤ N s
    t≤N = placed-le v marking.spot.k t marking.spot.is

    k≤N : marking.spot.k ≤ N s
    k≤N = omega (arith, marking.spot.hi, v.order.top)

    t≢R : t ≢ R s
    t≢R q =
        let first = place-once v.links.cycle marking.spot.k 0 k≤N (omega arith) (marking.spot.is ∙ q) in
        (v.joined (omega (arith, marking.spot.lo))).flag (rw (← q) (omega arith))

    head : HeadedIn s L
    head = head_of v.flags t t≤N t≢R (omega arith)

    pub t-newest : t ≡ P (N s)
    t-newest = head.only t t≤N t≢R (omega arith)

    pub n-oldest : n ≡ P 1
    n-oldest =
        let next : next_of s.words t ≡ n = omega arith in
        sym next ∙ ap (next_of s.words) t-newest ∙ last-next v.links

    pub tail-newest : pt ≡ N s
    tail-newest =
        let k = place-once v.links.cycle marking.spot.k (N s) k≤N (omega arith) (marking.spot.is ∙ t-newest) in
        omega (arith, marking.spot.hi, v.order.top)

    pub tail-is : T s ≡ t
    tail-is = sym v.order.tail_at ∙ ap P tail-newest ∙ sym t-newest

    pub commit-off : 2 ≤ pc
    commit-off = marking.room t-newest

    pub n≤N : n ≤ N s
    n≤N = rw n-oldest (v.links.cycle.bound 0)

    pub n≢R : n ≢ R s
    n≢R q = v.links.cycle.off 0 (sym n-oldest ∙ q)

    -- the other ring pages
    pub away : (k : ℕ) → 2 ≤ k → k ≤ N s → P k ≢ n
    away k lo hi q = omega (arith, place-once v.links.cycle k 1 hi (omega arith) (q ∙ n-oldest))

    pub t≢n : t ≢ n
    t≢n q = away (N s) v.links.cycle.two (omega arith) (sym t-newest ∙ q)

    reflagged : Reflag s.words words' t 2
    reflagged = reflag s.words t n 2 (omega (arith, v.links.linked.room, t≤N)) (omega arith) (omega arith)

    -- ---- the places, one lower

    pub lower : (i : ℕ) → 2 ≤ i → P' (i - 1) ≡ P i
    lower i h =
        let q : suc (i - 1) ≡ i = omega arith in
        place-turn (R s) L (i - 1) (omega arith) ∙ ap P q

    pub newest-now : P' (N s) ≡ n
    newest-now = place-turn (R s) L (N s) (omega (arith, v.links.cycle.two)) ∙ place-past v.links.cycle ∙ sym n-oldest

    tail-now : P' (N s - 1) ≡ t
    tail-now = lower (N s) v.links.cycle.two ∙ sym t-newest

    -- ---- records

    seen-away : (x : ℕ) → At s.used (S s) P pc pt x → x ≢ n
    seen-away x a q = away a.k (omega (arith, commit-off, a.lo)) (omega (arith, a.hi, v.order.top)) (a.is ∙ q)

    spot-kept : (x : ℕ) → At s.used (S s) P pc pt x → At used' (S s) P' (pc - 1) (pt - 1) x
    spot-kept =
        spot-lower (omega (arith, commit-off)) (λ i lo hi. lower i (omega (arith, commit-off))) (λ x a. get_or-set_other s.used n x 0 0 (seen-away x a))

    moving-kept : (x y : ℕ) → Moving s.words s.used (N s) (S s) P pc pt x y → Moving words' used' (N s) (S s) P' (pc - 1) (pt - 1) x y
    moving-kept x y m =
        record {
          spot = spot-kept x m.spot;
          next = reflagged.next x ∙ m.next;
          not_last = λ q. seen-away x m.spot (q ∙ newest-now);
        }

    marking-kept : (x : ℕ) → Marking s.used (N s) (S s) P pc pt x → Marking used' (N s) (S s) P' (pc - 1) (pt - 1) x
    marking-kept x m = record { spot = spot-kept x m.spot; room = λ q. absurd (seen-away x m.spot (q ∙ newest-now)) }

    -- t's word had the header mark, so no record owns an update mark in it
    pub unowned : (i : ℕ) → i < s.depth → ¬ Owns (phase_at s.stack i) t
    unowned i hi o = omega (arith, (owner-in v i t hi o).2)

    owned-kept : (i p : ℕ) → i < s.depth → Owns (phase_at s.stack i) p → flag_of words' p ≡ 2
    owned-kept i p hi o = flag-other reflagged p (λ q. unowned i hi (subst (Owns (phase_at s.stack i)) q o)) ∙ (owner-in v i p hi o).2

    owner-ok : RecordOk words' used' (N s) (S s) P' (pc - 1) (pt - 1) (Promote t n true)
    owner-ok = (
      record {
        spot = spot-kept t marking.spot;
        next = reflagged.next t ∙ omega arith;
        not_last = λ q. t≢n (q ∙ newest-now);
      },
      reflagged.here,
    )

    -- ---- flags

    -- page n had neither mark: the header mark was t's, and an owner's page is another
    n-unmarked : flag_of s.words n ≡ 0
    n-unmarked =
        let no_header : flag_of s.words n ≢ 1 = λ q. t≢n (t-newest ∙ sym (head.only n n≤N n≢R q)) in
        let no-update : flag_of s.words n ≢ 2 = λ q.
        let o = v.owners.some n n≤N q in
        seen-away n (owner-in v o.0 n o.1 o.2).0 refl in
        omega (arith, v.owners.small n n≤N)

    flags-kept : Flags words' (N s) P' (T s) (pc - 1) (set s.stack (top_at s) owner) s.depth
    flags-kept =
        headless (record {
          none = λ p hp pr f.
              let apart = flag-apart reflagged p 1 (λ z. omega arith) f in
              apart (head.only p hp pr (sym (flag-other reflagged p apart) ∙ f) ∙ sym t-newest);
          last = rw newest-now (flag-other reflagged n (λ q. t≢n (sym q)) ∙ n-unmarked);
          tailed = tail-is ∙ sym tail-now;
          ahead = omega (arith, commit-off);
          a = top_at s;
          below = omega arith;
          owner = rw (tail-now, newest-now) (phase-same s.stack (top_at s) owner (top_below v deep));
          above = λ i lo hi. absurd (omega arith);
        })

    owners-kept : Owners words' (N s) (set s.stack (top_at s) owner) s.depth
    owners-kept =
        owners-set s.stack (top_at s) owner v.owners (omega arith) (top_below v deep)
        (reflag-small reflagged (omega arith) v.owners.small)
        (λ p hp f. by-eq p t (λ q. inl (sym q)) (λ q. inr (sym (flag-other reflagged p q) ∙ f, free p)))
        (λ p j hj nj q o. unowned j hj (subst (Owns (phase_at s.stack j)) (sym q) o))

    -- ---- order

    order-kept : Order used' (N s) (S s) (T s) (C s) P' (pc - 1) (pt - 1)
    order-kept =
        let two = commit-off in
        let last = tail-newest in
        let o = v.order in
        record {
          tail_at = lower pt (omega (arith, o.le)) ∙ o.tail_at;
          commit_at = lower pc two ∙ o.commit_at;
          le = omega (arith, o.le);
          top = omega arith;
          room = rw (length-set s.used n 0) o.room;
          cap = rw (tail-is, get_or-set_other s.used n t 0 0 t≢n) (omega (arith, marking.spot.full));
          full = λ i lo hi.
              rw (place-turn (R s) L i lo, get_or-set_other s.used n (P (suc i)) 0 0 (away (suc i) (omega arith) (omega arith)))
              (o.full (suc i) (omega arith) (omega arith));
          full0 = λ z. absurd (omega arith);
          empty = λ i lo hi.
              let q : i ≡ N s = omega arith in
              rw (q, newest-now) (get_or-set_same s.used n 0 0 (omega (arith, o.room, n≤N)));
        }

    pub marked-control : Control (mark (page t) (page n) s) (turn L) (pc - 1) (pt - 1)
    marked-control =
        record {
          links = turn-links (reflag-links reflagged v.links);
          order = order-kept;
          joined = λ q. absurd (omega (arith, commit-off));
          flags = flags-kept;
          owners = owners-kept;
          depth = rw (length-set s.stack (top_at s) owner) v.depth;
          records =
              records-set (RecordOk words' used' (N s) (S s) P' (pc - 1) (pt - 1)) s.stack s.depth (top_at s) owner (top_below v deep)
              (λ i hi ne. record-map moving-kept marking-kept (phase_at s.stack i) (λ p o. owned-kept i p hi o) (v.records i hi)) owner-ok;
          reader =
              reader-map s.words words' (N s) (R s) pc (pc - 1) (λ h. omega (arith, commit-off)) (λ h. reflagged.other (R s) (λ q. t≢R (sym q)))
              reflagged.next s.reader v.reader;
        }
