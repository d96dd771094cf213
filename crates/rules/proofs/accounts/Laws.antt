-- One place of the stack replaced: what stays of values, of the count of early records, of held slots and of the writers at work. And laws of the reader's
-- phase, of where slots stand, and of sums.
-- Assumes nothing.
use mathlib.Core.Path.{◌≡◌, refl, sym, ap, ◌∙◌, subst}
use mathlib.Core.Logic.{◌≢◌}
use mathlib.Core.List.{List}
use Prim.Native.Nat.{ℕ, zero, suc, ◌+◌, ◌-◌, ◌*◌, ◌≤◌, ◌<◌}
use native.Mathlib.Omega.{arith}
use native.Mathlib.Nat.{mul-le-mul_left, mul_comm}
use lib.ListN.{length, get_or, set}
use lib.Seq.{get_or-set_same, get_or-set_other}
use Rattle.rules.specs.Limits.{most_pages, most_slots, slot_room}
use Rattle.rules.specs.State.{page, size_of, no_writer, State}
use Rattle.rules.specs.Remember.{BegunWriter, Numbered, Marker, History}
use Rattle.rules.specs.declared.state.PageNo.{PageNo}
use Rattle.rules.specs.declared.state.WriterPhase.{WriterPhase}
use Rattle.rules.specs.declared.state.WriterPhase.TheVariants as phase
use Rattle.rules.specs.declared.state.Writer.{Writer}
use Rattle.rules.specs.declared.state.ReaderPhase.{ReaderPhase}
use Rattle.rules.specs.declared.state.ReaderPhase.TheVariants as reading
use Rattle.rules.proofs.Lists.{by-eq}
use Rattle.rules.proofs.state.Laws.{slot_index-room, slot_index-once}
use Rattle.rules.proofs.invariant.Order.{R, C, used_of, cell, phase_at, stored_at, Held, place}
use Rattle.rules.proofs.invariant.Control.{Owns, ReaderOk, Control}
use Rattle.rules.proofs.invariant.Accounts.{Sums, nth_value, Holding, HeldOk, Values, Quiet, early, earlies, AtWork, Accounts}
use Rattle.rules.proofs.control.Phase.{commit-le}
use Rattle.rules.proofs.order.Records.{phase-same, phase-other}

-- ---- values of records

pub value_same : (stack : List Writer) (e : ℕ) (w : Writer) → e < length stack → stored_at (set stack e w) e ≡ w.value
value_same stack e w h = ap (λ (x : Writer). x.value) (get_or-set_same stack e w no_writer h)

pub value-other : (stack : List Writer) (e i : ℕ) (w : Writer) → i ≢ e → stored_at (set stack e w) i ≡ stored_at stack i
value-other stack e i w n = ap (λ (x : Writer). x.value) (get_or-set_other stack e i w no_writer n)

-- ---- early records

pub earlies-above : (stack : List Writer) (depth e : ℕ) (w : Writer) → depth ≤ e → earlies (set stack e w) depth ≡ earlies stack depth
earlies-above stack zero e w h = refl
earlies-above stack (suc depth) e w h =
    let p = ap early (phase-other stack e depth w (omega arith)) in
    let q = earlies-above stack depth e w (omega arith) in
    omega arith

pub earlies-top : (stack : List Writer) (e : ℕ) (w : Writer) → e < length stack → earlies (set stack e w) (suc e) ≡ early w.phase + earlies stack e
earlies-top stack e w h =
    let p = ap early (phase-same stack e w h) in
    let q = earlies-above stack e e w (omega arith) in
    omega arith

-- ---- held slots

module _ (numbers numbers' used used' : List ℕ) (S : ℕ) (P P' : ℕ → ℕ) (pc pc' pt pt' c c' : ℕ) (readings readings' : List Numbered)
    (f : (p j v : ℕ) → Holding numbers used S P pc pt c readings p j v → Holding numbers' used' S P' pc' pt' c' readings' p j v) where
  pub held-map : (v : ℕ) (ph : WriterPhase) → HeldOk numbers used S P pc pt c readings v ph → HeldOk numbers' used' S P' pc' pt' c' readings' v ph
  held-map v phase.Want o = tt
  held-map v (phase.Mark t n) o = tt
  held-map v (phase.Promote t n own) o = tt
  held-map v (phase.Clear t n) o = tt
  held-map v (phase.Push t n) o = tt
  held-map v (phase.Held p j) o = f p.0 j v o
  held-map v phase.Filled o = tt

pub held-early : (numbers used : List ℕ) (S : ℕ) (P : ℕ → ℕ) (pc pt c : ℕ) (readings : List Numbered) (v : ℕ) (ph : WriterPhase) → early ph ≡ 1
    → HeldOk numbers used S P pc pt c readings v ph
held-early numbers used S P pc pt c readings v phase.Want q = tt
held-early numbers used S P pc pt c readings v (phase.Mark t n) q = tt
held-early numbers used S P pc pt c readings v (phase.Promote t n own) q = tt
held-early numbers used S P pc pt c readings v (phase.Clear t n) q = tt
held-early numbers used S P pc pt c readings v (phase.Push t n) q = tt
held-early numbers used S P pc pt c readings v (phase.Held p j) q = absurd (omega arith)
held-early numbers used S P pc pt c readings v phase.Filled q = tt

-- a number that a record holds is not committed
held-late : (numbers used : List ℕ) (S : ℕ) (P : ℕ → ℕ) (pc pt c : ℕ) (readings : List Numbered) (v : ℕ) (ph : WriterPhase) (p j : ℕ) → ph ≡ Held p j
    → HeldOk numbers used S P pc pt c readings v ph → c ≤ get_or numbers (cell S p j) 0
held-late numbers used S P pc pt c readings v ph p j q o = (subst (HeldOk numbers used S P pc pt c readings v) q o).late

-- so a committed slot has its own writer's value
pub stored-own : {numbers values used : List ℕ} {N S : ℕ} {stack : List Writer} {depth : ℕ} {P : ℕ → ℕ} {pc pt c : ℕ} {readings : List Numbered}
    → Values numbers values used N S stack depth P pc pt c readings
    → (p j : ℕ) → p ≤ N → j < get_or used p 0 → get_or numbers (cell S p j) 0 < c
    → get_or values (cell S p j) 0 ≡ nth_value readings (get_or numbers (cell S p j) 0)
stored-own {numbers} {values} {used} {N} {S} {stack} {depth} {P} {pc} {pt} {c} {readings} k p j hp hj lt =
    k.stored p j hp hj
    (λ i hi z.
    let y = held-late numbers used S P pc pt c readings (stored_at stack i) (phase_at stack i) p j z (k.held i hi) in
    let m : ⊥ = omega arith in
    m)

-- every place from the commit page's on falls by one, and the slot stays below used
pub holding-lower : {numbers used used' : List ℕ} {S : ℕ} {P P' : ℕ → ℕ} {pc pt c : ℕ} {readings : List Numbered} {p j v : ℕ} → 1 ≤ pc
    → ((i : ℕ) → pc ≤ i → i ≤ pt → P' (i - 1) ≡ P i) → (Holding numbers used S P pc pt c readings p j v → get_or used' p 0 ≡ get_or used p 0)
    → Holding numbers used S P pc pt c readings p j v → Holding numbers used' S P' (pc - 1) (pt - 1) c readings p j v
holding-lower ahead lower kept o =
    record {
      k = o.k - 1;
      lo = omega (arith, o.lo);
      hi = omega (arith, o.hi);
      is = lower o.k o.lo o.hi ∙ o.is;
      slot = omega (arith, kept o, o.slot);
      late = o.late;
      own = o.own;
    }

-- ---- writers at work

-- a record keeps its value and owns no more than it did
pub work-top : (marker : PageNo → Marker) (stack : List Writer) (depth e : ℕ) (w : Writer) (working : List BegunWriter) → e < length stack
    → w.value ≡ stored_at stack e → ((p : ℕ) → Owns w.phase p → Owns (phase_at stack e) p)
    → AtWork marker stack depth working → AtWork marker (set stack e w) depth working
work-top marker stack depth e w working h hv ho k =
    record {
      many = k.many;
      value = λ i hi.
          by-eq i e
          (λ q. k.value i hi ∙ ap (stored_at stack) q ∙ sym hv ∙ sym (ap (stored_at (set stack e w)) q ∙ value_same stack e w h))
          (λ n. k.value i hi ∙ sym (value-other stack e i w n));
      marks = λ i p hi o.
          by-eq i e
          (λ q.
          let now = subst (λ (f : WriterPhase). Owns f p) (ap (phase_at (set stack e w)) q ∙ phase-same stack e w h) o in
          k.marks i p hi (subst (λ (j : ℕ). Owns (phase_at stack j) p) (sym q) (ho p now)))
          (λ n. k.marks i p hi (subst (λ (f : WriterPhase). Owns f p) (phase-other stack e i w n) o));
    }

-- ---- the reader

pub quiet-map : (words : List ℕ) (N R pc position uR position' uR' : ℕ) → (1 ≤ pc → position ≡ uR → position' ≡ uR') → (ph : ReaderPhase)
    → ReaderOk words N R pc ph → Quiet ph position uR → Quiet ph position' uR'
quiet-map words N R pc position uR position' uR' f reading.Idle o q = tt
quiet-map words N R pc position uR position' uR' f (reading.Found p h) o q = f o.0 q
quiet-map words N R pc position uR position' uR' f (reading.Ready p h) o q = f o.0 q

-- ---- where slots stand

pub cell-once : (S p q i j : ℕ) → i < S → j < S → cell S p i ≡ cell S q j → (p ≡ q) × (i ≡ j)
cell-once S p q i j hi hj e =
    let o = slot_index-once (size_of 0 S 0) (page p) (page q) i j hi hj e in
    (ap (λ (x : PageNo). x.0) o.0, o.1)

pub cell_room : (S p j : ℕ) → p ≤ most_pages → S ≤ most_slots → j < most_slots → cell S p j < slot_room
cell_room S p j hp hs hj = slot_index-room (size_of 0 S 0) (page p) j hp hs hj

-- a number's page and slot are unique
pub split-once : (S x y i j : ℕ) → i < S → j < S → S * x + i ≡ S * y + j → (x ≡ y) × (i ≡ j)
split-once S x y i j hi hj e = cell-once S x y i j hi hj (ap (λ (z : ℕ). z + i) (mul_comm x S) ∙ e ∙ ap (λ (z : ℕ). z + j) (mul_comm S y))

-- ---- sums

-- the same number at a place one lower, with a one higher
pub lower-sum : (S a i : ℕ) → 1 ≤ i → S * (a + i) ≡ S * (suc a + (i - 1))
lower-sum S a i h = ap (λ (k : ℕ). S * k) (omega arith)

module _ {S uR uT uC index position taken committed handed overwritten pc pt a r0 gap : ℕ}
    (k : Sums S uR uT uC index position taken committed handed overwritten pc pt a r0 gap) where
  committed-le : pc ≤ pt → (pc ≡ pt → uC ≡ uT) → uC ≤ S → committed ≤ taken
  committed-le le same cap =
      by-eq pc pt
      (λ e.
      let q : S * (a + pc) ≡ S * (a + pt) = ap (λ (i : ℕ). S * (a + i)) e in
      let z = same e in
      omega (arith, k))
      (λ n.
      let q : S * (a + suc pc) ≤ S * (a + pt) = mul-le-mul_left S (omega arith) in
      omega (arith, k))

  -- what was read is committed, and so is the whole reader page, with the gap after it, once the commit page is another
  pub read-le : r0 + position ≤ committed
  read-le =
      by-eq pc 0
      (λ e.
      let q : S * (a + pc) ≡ S * (a + 0) = ap (λ (i : ℕ). S * (a + i)) e in
      let z = k.reader_from e in
      let y = k.read_committed e in
      omega (arith, k))
      (λ n.
      let q : S * (a + 1) ≤ S * (a + pc) = mul-le-mul_left S (omega arith) in
      let z = k.ring_from (omega arith) in
      omega (arith, k))

  pub page-le : 1 ≤ pc → r0 + uR + gap ≤ committed
  page-le h =
      let q : S * (a + 1) ≤ S * (a + pc) = mul-le-mul_left S (omega arith) in
      let z = k.ring_from h in
      omega (arith, k)

pub committed-taken : {s : State} {h : History} {L : ℕ → ℕ} {pc pt a r0 gap : ℕ} → Control s L pc pt → Accounts s h L pc pt a r0 gap → s.counts.committed ≤ s.counts.taken
committed-taken {s} {L = L} v b =
    committed-le b.sums v.order.le
    (λ e. ap (used_of s) (sym v.order.commit_at ∙ ap (place (R s) L) e ∙ v.order.tail_at))
    (b.contents.cap (C s) (commit-le v))
