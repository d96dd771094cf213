-- PROMOTE keeps control. Standing changes only the phase. Promoted: there was no header mark, so this record is the owner or stands above it, n is the newest page, and its
-- word gets the header mark.
-- Assumes nothing.
use mathlib.Core.Path.{◌≡◌, refl, sym, ap, ◌∙◌, subst}
use mathlib.Core.Logic.{◌≢◌, ◌⊎◌, inl, inr, ⊎_elim}
use mathlib.Core.Bool.{Bool, true, false}
use mathlib.Core.List.{List}
use Prim.Native.Nat.{ℕ, ◌+◌, ◌-◌, ◌*◌, ◌≤◌, ◌<◌}
use native.Mathlib.Omega.{arith}
use lib.ListN.{set, length-set}
use Rattle.rules.specs.State.{page, top, set_phase, State}
use Rattle.rules.specs.Write.{after_promote, promote}
use Rattle.rules.specs.declared.state.WriterPhase.{WriterPhase}
use Rattle.rules.specs.declared.state.Writer.{Writer}
use Rattle.rules.proofs.Lists.{by-eq}
use Rattle.rules.proofs.invariant.Order.{N, S, R, top_at, next_of, flag_of, phase_at, rephase, Promote, place}
use Rattle.rules.proofs.invariant.Control.{Moving, RecordOk, Owns, Owners, Above, headed, headless, RecordIn, HeadedIn, HeadlessIn, FlagsIn, Control}
use Rattle.rules.proofs.control.Phase.{owner-in, newest-off, stack-control, top_below, top-ok}
use Rattle.rules.proofs.order.Places.{page-once, place-le}
use Rattle.rules.proofs.order.Records.{Reflag, reflag, flag-other, flag-apart, reflag-links, reflag-small, record-map, records-set, owners-set, reader-map}

-- ---- the phase after PROMOTE owns what PROMOTE does

pub own-after : (own : Bool) (t n p : ℕ) → Owns (after_promote (page t) (page n) own) p → Owns (Promote t n own) p
own-after true t n p q = q
own-after false t n p q = q

own-or : (own : Bool) (t n p : ℕ) → Owns (after_promote (page t) (page n) own) p ⊎ ¬ Owns (Promote t n own) p
own-or true t n p = by-eq t p (λ q. inl q) (λ q. inr q)
own-or false t n p = inr (λ q. q)

-- and is right where PROMOTE is
after-ok : (words used : List ℕ) (N S : ℕ) (P : ℕ → ℕ) (pc pt : ℕ) (own : Bool) (t n : ℕ) → RecordOk words used N S P pc pt (Promote t n own)
    → RecordOk words used N S P pc pt (after_promote (page t) (page n) own)
after-ok words used N S P pc pt true t n r = r
after-ok words used N S P pc pt false t n r = r

-- ---- (t, n) of the record, where it is above the owner

above-pages : (a b t n : ℕ) (own : Bool) → Above a b (Promote t n own) → (t ≡ a) × (n ≡ b)
above-pages a b t n true q = absurd q
above-pages a b t n false q = q

module _ {s : State} {L : ℕ → ℕ} {pc pt : ℕ} (v : Control s L pc pt) (deep : 1 ≤ s.depth) (t n : ℕ) (own : Bool) (phase-is : (top s).phase ≡ Promote t n own) where
  abbrev P : ℕ → ℕ
  P = place (R s) L

  abbrev next : WriterPhase
  next = after_promote (page t) (page n) own

  abbrev promoted : Writer
  promoted = rephase s.stack (top_at s) (after_promote (page t) (page n) own)

  before : RecordIn s L pc pt (Promote t n own)
  before = top-ok v deep (Promote t n own) phase-is

  -- ---- owners of marks

  -- a mark of the old words is the record's own still, or was not its own
  source : (p : ℕ) → flag_of s.words p ≡ 2 → Owns next p ⊎ ((flag_of s.words p ≡ 2) × ¬ Owns (top s).phase p)
  source p f = ⊎_elim (λ q. inl q) (λ q. inr (f, subst (λ (x : WriterPhase). ¬ Owns x p) (sym phase-is) q)) (own-or own t n p)

  alone : (p j : ℕ) → j < s.depth → j ≢ top_at s → Owns next p → Owns (phase_at s.stack j) p → ⊥
  alone p j hj nj q u =
      nj (v.owners.one j (top_at s) p hj (omega arith) u (subst (λ (x : WriterPhase). Owns x p) (sym phase-is) (own-after own t n p q)))

  -- ---- Standing

  pub standing-control : HeadedIn s L → Control (set_phase (after_promote (page t) (page n) own) s) L pc pt
  standing-control h =
      stack-control v _ _ _ (headed h)
      (owners-set s.stack (top_at s) promoted v.owners (omega arith) (top_below v deep) v.owners.small (λ p hp f. source p f) alone)
      (rw (length-set s.stack (top_at s) promoted) v.depth)
      (records-set (RecordIn s L pc pt) s.stack s.depth (top_at s) promoted (top_below v deep) (λ i hi ne. v.records i hi)
      (after-ok s.words s.used (N s) (S s) P pc pt own t n before))

  -- ---- Promoted

  module _ (none : (p : ℕ) → p ≤ N s → p ≢ R s → flag_of s.words p ≢ 1) where
    abbrev words' : List ℕ
    words' = set s.words n (4 * next_of s.words n + 1)

    no-head : HeadlessIn s L pc
    no-head = go v.flags
      where
        go : FlagsIn s L pc → HeadlessIn s L pc
        go (headed h) = absurd (none (P (N s)) (place-le v.links.cycle (N s)) (newest-off v) h.last)
        go (headless o) = o

    pages : (t ≡ P (N s - 1)) × (n ≡ P (N s))
    pages =
        by-eq no-head.a (top_at s)
        (λ q.
        let same = sym phase-is ∙ ap (phase_at s.stack) (sym q) ∙ no-head.owner in
        (page-once cc, page-once cc))
        (λ q. above-pages _ _ t n own (subst (Above (P (N s - 1)) (P (N s))) phase-is (no-head.above (top_at s) (omega (arith, no-head.below)) (omega arith))))

    n-newest : n ≡ P (N s)
    n-newest = pages.1

    n≢R : n ≢ R s
    n≢R q = newest-off v (sym n-newest ∙ q)

    n≤N : n ≤ N s
    n≤N = rw n-newest (place-le v.links.cycle (N s))

    reflagged : Reflag s.words words' n 1
    reflagged = reflag s.words n (next_of s.words n) 1 (omega (arith, v.links.linked.room, n≤N)) (omega arith) refl

    moving-kept : (x y : ℕ) → Moving s.words s.used (N s) (S s) P pc pt x y → Moving words' s.used (N s) (S s) P pc pt x y
    moving-kept x y m = record { spot = m.spot; next = reflagged.next x ∙ m.next; not_last = m.not_last }

    -- an owner's page is not the newest, so its mark stays
    record-kept : (i : ℕ) → i < s.depth → RecordOk words' s.used (N s) (S s) P pc pt (phase_at s.stack i)
    record-kept i hi =
        record-map moving-kept (λ x m. m) (phase_at s.stack i)
        (λ p o.
        let k = owner-in v i p hi o in
        flag-other reflagged p (λ q. k.1 (q ∙ n-newest)) ∙ k.2)
        (v.records i hi)

    owners-kept : Owners words' (N s) (set s.stack (top_at s) promoted) s.depth
    owners-kept =
        owners-set s.stack (top_at s) promoted v.owners (omega arith) (top_below v deep)
        (reflag-small reflagged (omega arith) v.owners.small)
        (λ p hp f. source p (sym (flag-other reflagged p (flag-apart reflagged p 2 (λ z. omega arith) f)) ∙ f))
        alone

    pub promoted-control : Control (promote (page n) (after_promote (page t) (page n) own) s) L pc pt
    promoted-control =
        record {
          links = reflag-links reflagged v.links;
          order = v.order;
          joined = λ q. absurd (omega (arith, no-head.ahead));
          flags = headed (record {
            last = ap (flag_of words') (sym n-newest) ∙ reflagged.here;
            only = λ p hp pr f. by-eq p n (λ q. q ∙ n-newest) (λ q. absurd (none p hp pr (sym (flag-other reflagged p q) ∙ f)));
          });
          owners = owners-kept;
          depth = rw (length-set s.stack (top_at s) promoted) v.depth;
          records =
              records-set (RecordOk words' s.used (N s) (S s) P pc pt) s.stack s.depth (top_at s) promoted (top_below v deep) (λ i hi ne. record-kept i hi)
              (after-ok words' s.used (N s) (S s) P pc pt own t n (subst (RecordOk words' s.used (N s) (S s) P pc pt) phase-is (record-kept (top_at s) (omega arith))));
          reader =
              reader-map s.words words' (N s) (R s) pc pc (λ h. h) (λ h. reflagged.other (R s) (λ q. n≢R (sym q))) reflagged.next s.reader v.reader;
        }
