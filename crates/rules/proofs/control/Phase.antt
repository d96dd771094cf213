-- What the top record's phase tells, where the tail, the commit and the newest page stand, and that control is kept where only this phase changes, or the reader's, or
-- what control does not read.
-- Assumes nothing.
use mathlib.Core.Path.{◌≡◌, refl, sym, ap, ◌∙◌, subst}
use mathlib.Core.Logic.{◌≢◌, inr}
use mathlib.Core.Bool.{true}
use mathlib.Core.List.{List}
use Prim.Native.Nat.{ℕ, ◌-◌, ◌≤◌, ◌<◌}
use native.Mathlib.Omega.{arith}
use lib.ListN.{length, set, length-set}
use Rattle.rules.specs.State.{top, with_counts, with_depth, with_position, with_reader, with_stack, with_values, set_phase, State}
use Rattle.rules.specs.declared.state.WriterPhase.{WriterPhase}
use Rattle.rules.specs.declared.state.WriterPhase.TheVariants as phase
use Rattle.rules.specs.declared.state.Writer.{Writer}
use Rattle.rules.specs.declared.state.Counts.{Counts}
use Rattle.rules.specs.declared.state.ReaderPhase.{ReaderPhase}
use Rattle.rules.proofs.Lists.{by-eq}
use Rattle.rules.proofs.invariant.Order.{N, S, R, T, C, top_at, flag_of, phase_at, rephase, Promote, place}
use Rattle.rules.proofs.invariant.Control.{At, Owns, Free, Owners, Above, Headed, Headless, Flags, headed, headless, RecordIn, HeadedIn, HeadlessIn, FlagsIn, ReaderIn, Control}
use Rattle.rules.proofs.order.Places.{place-le, place-off}
use Rattle.rules.proofs.order.Records.{owner_at, phase-same, phase-other, records-set, owners-set}

-- a ring page has the header mark, so there is exactly one
pub head_of : {words : List ℕ} {N : ℕ} {P : ℕ → ℕ} {tail pc : ℕ} {stack : List Writer} {depth : ℕ} → Flags words N P tail pc stack depth → (p : ℕ) → p ≤ N → p ≢ P 0
    → flag_of words p ≡ 1 → Headed words N P
head_of (headed h) p hp pr f = h
head_of (headless o) p hp pr f = absurd (o.none p hp pr f)

-- where it can't be that there is no header mark, there is exactly one
pub headed-unless : {words : List ℕ} {N : ℕ} {P : ℕ → ℕ} {tail pc : ℕ} {stack : List Writer} {depth : ℕ} → Flags words N P tail pc stack depth
    → ¬ Headless words N P tail pc stack depth → Headed words N P
headed-unless (headed h) never = h
headed-unless (headless o) never = absurd (never o)

-- a page with the update mark is not the newest
pub marked-not-last : {words : List ℕ} {N : ℕ} {P : ℕ → ℕ} {tail pc : ℕ} {stack : List Writer} {depth : ℕ} → Flags words N P tail pc stack depth → (t : ℕ)
    → flag_of words t ≡ 2 → t ≢ P N
marked-not-last {words} (headed h) t f q = omega (arith, ap (flag_of words) q, h.last)
marked-not-last {words} (headless o) t f q = omega (arith, ap (flag_of words) q, o.last)

-- other records: the owner still stands, and each one above it may
pub headless-records : {words : List ℕ} {N : ℕ} {P : ℕ → ℕ} {tail pc : ℕ} {stack : List Writer} {depth : ℕ} (o : Headless words N P tail pc stack depth)
    (stack' : List Writer) (depth' : ℕ) → o.a < depth' → phase_at stack' o.a ≡ phase_at stack o.a
    → ((i : ℕ) → o.a < i → i < depth' → Above (P (N - 1)) (P N) (phase_at stack' i)) → Headless words N P tail pc stack' depth'
headless-records o stack' depth' below same above =
    record {
      none = o.none;
      last = o.last;
      tailed = o.tailed;
      ahead = o.ahead;
      a = o.a;
      below = below;
      owner = same ∙ o.owner;
      above = above;
    }

module _ {s : State} {L : ℕ → ℕ} {pc pt : ℕ} (v : Control s L pc pt) where
  abbrev P : ℕ → ℕ
  P = place (R s) L

  -- the page of the record at i that owns p's mark
  pub owner-in : (i p : ℕ) → i < s.depth → Owns (phase_at s.stack i) p → At s.used (S s) P pc pt p × (p ≢ P (N s)) × (flag_of s.words p ≡ 2)
  owner-in i p hi o = owner_at s.words s.used (N s) (S s) P pc pt (phase_at s.stack i) p (v.records i hi) o

  -- a page that has a place is at most N; so are the tail page and the commit page
  pub placed-le : (i p : ℕ) → P i ≡ p → p ≤ N s
  placed-le i p q = rw (← q) (place-le v.links.cycle i)

  pub tail-le : T s ≤ N s
  tail-le = placed-le pt (T s) v.order.tail_at

  pub commit-le : C s ≤ N s
  commit-le = placed-le pc (C s) v.order.commit_at

  -- the owner's record, while there is no header mark
  pub owner-record : (o : HeadlessIn s L pc) → RecordIn s L pc pt (Promote (P (N s - 1)) (P (N s)) true)
  owner-record o = subst (RecordIn s L pc pt) o.owner (v.records o.a o.below)

  pub newest-off : P (N s) ≢ R s
  newest-off = place-off v.links.cycle (N s) (omega (arith, v.links.cycle.two))

  -- other records: the flags and the owners are all that reads them beside
  pub stack-control : (counts : Counts) (depth : ℕ) (stack : List Writer) → Flags s.words (N s) P (T s) pc stack depth → Owners s.words (N s) stack depth
      → depth ≤ length stack → ((i : ℕ) → i < depth → RecordIn s L pc pt (phase_at stack i))
      → Control (with_counts counts (with_depth depth (with_stack stack s))) L pc pt
  stack-control counts depth stack flags owners room records =
      record {
        links = v.links;
        order = v.order;
        joined = v.joined;
        flags = flags;
        owners = owners;
        depth = room;
        records = records;
        reader = v.reader;
      }

  -- another phase of the reader; no clause reads the counts, the read position or the values
  pub reader-control : (counts : Counts) (position : ℕ) (values : List ℕ) (ph : ReaderPhase) → ReaderIn (with_reader ph s) pc
      → Control (with_reader ph (with_counts counts (with_position position (with_values values s)))) L pc pt
  reader-control counts position values ph ok =
      record {
        links = v.links;
        order = v.order;
        joined = v.joined;
        flags = v.flags;
        owners = v.owners;
        depth = v.depth;
        records = v.records;
        reader = ok;
      }

  -- the same phase of the reader
  pub unread-control : (counts : Counts) (position : ℕ) (values : List ℕ) → Control (with_counts counts (with_position position (with_values values s))) L pc pt
  unread-control counts position values = reader-control counts position values s.reader v.reader

  module _ (deep : 1 ≤ s.depth) where
    pub top_below : top_at s < length s.stack
    top_below = omega (arith, v.depth)

    pub top-ok : (ph : WriterPhase) → (top s).phase ≡ ph → RecordIn s L pc pt ph
    top-ok ph q = subst (RecordIn s L pc pt) q (v.records (top_at s) (omega arith))

    -- while there is no header mark, a top record that owns no mark stands above the owner
    pub not-owner : Free (top s).phase → (o : HeadlessIn s L pc) → o.a < top_at s
    not-owner free o =
        by-eq o.a (top_at s)
        (λ q. absurd (free (P (N s - 1)) (subst (λ (ph : WriterPhase). Owns ph (P (N s - 1))) (sym o.owner ∙ ap (phase_at s.stack) q) refl)))
        (λ n. omega (arith, o.below))

    pub top_above : Free (top s).phase → (o : HeadlessIn s L pc) → Above (P (N s - 1)) (P (N s)) (top s).phase
    top_above free o = o.above (top_at s) (not-owner free o) (omega arith)

    -- where it can't stand there, there is one header mark
    pub headed-by : Free (top s).phase → ((t n : ℕ) → Above t n (top s).phase → ⊥) → HeadedIn s L
    headed-by free never = headed-unless v.flags (λ o. never _ _ (top_above free o))

    -- ---- the top record replaced by w

    -- the owner below it stays, and w may stand above it
    flags-set : (w : Writer) → Free (top s).phase → (HeadlessIn s L pc → Above (P (N s - 1)) (P (N s)) w.phase) → FlagsIn s L pc
        → Flags s.words (N s) P (T s) pc (set s.stack (top_at s) w) s.depth
    flags-set w free fit (headed h) = headed h
    flags-set w free fit (headless o) =
        headless (
        headless-records o (set s.stack (top_at s) w) s.depth o.below
        (phase-other s.stack (top_at s) o.a w (omega (arith, not-owner free o)))
        (λ i lo hi.
        by-eq i (top_at s)
        (λ q. rw (q, phase-same s.stack (top_at s) w top_below) (fit o))
        (λ n. rw (phase-other s.stack (top_at s) i w n) (o.above i lo hi))))

    -- one that owns no mark becomes another that owns none
    pub owners-free : (w : Writer) → Free (top s).phase → Free w.phase → Owners s.words (N s) (set s.stack (top_at s) w) s.depth
    owners-free w was is =
        owners-set s.stack (top_at s) w v.owners (omega arith) top_below v.owners.small (λ p hp f. inr (f, was p)) (λ p j hj nj o u. is p o)

    pub phase-control : (ph : WriterPhase) → Free (top s).phase → Free ph → RecordIn s L pc pt ph
        → (HeadlessIn s L pc → Above (P (N s - 1)) (P (N s)) ph) → Control (set_phase ph s) L pc pt
    phase-control ph was is ok fit =
        let w = rephase s.stack (top_at s) ph in
        stack-control _ _ _ (flags-set w was fit v.flags) (owners-free w was is) (rw (length-set s.stack (top_at s) w) v.depth)
        (records-set (RecordIn s L pc pt) s.stack s.depth (top_at s) w top_below (λ i hi n. v.records i hi) ok)

    -- to WANT, which may stand above any owner: Retry and Passed
    pub want-control : Free (top s).phase → Control (set_phase phase.Want s) L pc pt
    want-control free = phase-control phase.Want free (λ p o. o) tt (λ o. tt)
