-- What a loop that drains a ring in shape keeps: `Progress`. At its start nothing is done; each turn of the loop makes the Reads of a `Turn`, and
-- where the loop ends all is done that the definition asks. A ring out of shape there is so by its counts alone, and the Read that is due gets
-- its refusal.
-- Assumes nothing.
use Rattle.std.specs.Prelude.{Option, None}
use mathlib.Core.Path.{◌≡◌, refl, sym, ap, ◌∙◌, subst}
use mathlib.Core.Bool.{Bool, true, false, ◌&&◌}
use mathlib.Core.List.{List, [], ◌++◌, append-nil, append_assoc}
use Prim.Native.Nat.{ℕ, zero, suc, ◌+◌, ◌-◌, ◌≤◌, ◌<◌}
use native.Mathlib.Omega.{arith}
use borrow.Author.Tests.{leb-false, ltb-true, ltb-false}
use lib.Dec.{leb, ltb}
use lib.ListN.{length, length-append}
use lib.Seq.{sets}
use Rattle.rules.specs.State.{with_handed, State}
use Rattle.rules.specs.Shape.{in_shape}
use Rattle.rules.specs.Replay.{over}
use Rattle.rules.specs.Limits.{most_in_row}
use Rattle.rules.specs.Drain.{DrainOutcome, told_last, drain_with, drain_ends, drain_reads, buffer_after}
use Rattle.ring.specs.Turn.{events_from, last_after, turn_of, turned}
use Rattle.ring.specs.Drain.{CountMatches}
use Rattle.ring.specs.declared.state.DrainCount.{DrainCount}
use Rattle.ring.specs.declared.turn.Turn.{Turn}
use Rattle.rules.proofs.Lists.{by_bool, length-tabulate}
use Rattle.rules.proofs.shape.Laws.{in-shape}
use Rattle.ring.proofs.Representation.{ring_of}
use Rattle.ring.proofs.read.Kept.{parts, reshaped}
use Rattle.ring.proofs.replay.Laws.{over-length, sets_over}
use Rattle.ring.proofs.turn.Laws.{drains_on, drains-on, events_first, handed-fits, Turned, turn-drains}
use Rattle.rules.specs.declared.state.Answer.{Answer}

-- ---- the shape, and how many were handed out

module _ (r : State) where
  -- the shape, from that with handed at 0 and counts that agree
  handed-shape : in_shape (with_handed 0 r) ≡ true → r.counts.handed + r.counts.overwritten ≤ r.counts.committed → in_shape r ≡ true
  handed-shape h le =
      let q = with_handed 0 r in
      reshaped q h r.counts r.places r.reader r.words r.used (handed-fits q (in-shape q h) r.counts.handed le) (parts q h)

  none-handed : in_shape r ≡ true → in_shape (with_handed 0 r) ≡ true
  none-handed h =
      let s = in-shape r h in
      reshaped r h (with_handed 0 r).counts r.places r.reader r.words r.used (handed-fits r s 0 (omega (arith, s))) (parts r h)

  over-handed : r.counts.committed < r.counts.handed + r.counts.overwritten → in_shape r ≡ false
  over-handed lt =
      by_bool (in_shape r)
      (λ h. let s = in-shape r h in absurd (omega (arith, s)))
      (λ h. h)

-- ---- the loop

abbrev pub drain_count : State → Option Answer → ℕ → DrainCount
drain_count r last count = record { ring = ring_of r; last = last; count = count }

-- `CountMatches` leaves nothing open
pub count-is : (d : DrainOutcome) (r : DrainCount) → CountMatches d r → r ≡ drain_count d.state d.last (length d.events)
count-is d r e =
    ap (λ (s : State). drain_count s r.last r.count) e.state
    ∙ ap (λ (l : Option Answer). drain_count d.state l r.count) e.last_answer
    ∙ ap (drain_count d.state d.last) e.count

abbrev whole : State → List ℕ → DrainOutcome
whole r buffer = drain_reads most_in_row (length buffer) r None

events_first-append : (xs ys : List ℕ) (d : DrainOutcome) → events_first xs (events_first ys d) ≡ events_first (xs ++ ys) d
events_first-append xs ys d = ap (λ (l : List ℕ). drain_with d.state l d.last d.tells) (sym (append_assoc xs ys d.events))

-- the ring r0 has become r, the buffer buffer0 has become buffer, `at` elements are laid, and what is left to do is what is left of the drain
pub record Progress (r0 : State) (buffer0 : List ℕ) (r : State) (buffer : List ℕ) (at left : ℕ) (last : Option Answer) : Type 0 where
  pub events : List ℕ
  pub laid : buffer ≡ over events buffer0
  pub count : at ≡ length events
  pub within : at ≤ length buffer0
  pub shape : in_shape (with_handed 0 r) ≡ true
  pub agree : r.counts.handed + r.counts.overwritten ≤ r.counts.committed + 1
  pub rest : whole r0 buffer0 ≡ events_first events (drains_on (length buffer0 - at) left r last)

pub start : (r : State) (buffer : List ℕ) → in_shape r ≡ true → Progress r buffer r buffer 0 most_in_row None
start r buffer h =
    let s = in-shape r h in
    let n : length buffer ≡ length buffer - 0 = omega arith in
    record {
      events = [];
      laid = refl;
      count = refl;
      within = omega arith;
      shape = none-handed r h;
      agree = omega (arith, s);
      rest = drains-on (length buffer) r None ∙ ap (λ (k : ℕ). drains_on k most_in_row r None) n;
    }

module _ {r0 : State} {buffer0 : List ℕ} {r : State} {buffer : List ℕ} {at left : ℕ} {last : Option Answer} (p : Progress r0 buffer0 r buffer at left last) where
  pub buffer-length : length buffer ≡ length buffer0
  buffer-length =
      let n = p.count in
      let w = p.within in
      ap length p.laid ∙ over-length p.events buffer0 (omega arith)

  pub in_order : r.counts.handed + r.counts.overwritten ≤ r.counts.committed → in_shape r ≡ true
  in_order le = handed-shape r p.shape le

  none_left : (k : ℕ) → drains_on k 0 r last ≡ drain_ends r last
  none_left zero = refl
  none_left (suc k) = refl

  -- the turn that is made next
  abbrev next : Turn
  next = turn_of r left (length buffer0 - at)

  pub turn-does : at < length buffer0 → 0 < left → r.counts.handed + r.counts.overwritten ≤ r.counts.committed → Turned r (length buffer0 - at) left last next
  turn-does lt some le = turn-drains r (in_order le) (length buffer0 - at) left last (omega arith) some

  pub turn_on :
      {r' : State} {buffer' : List ℕ} {t : Turn} →
      at < length buffer0 →
      0 < left →
      r.counts.handed + r.counts.overwritten ≤ r.counts.committed →
      t ≡ next →
      r' ≡ turned t r →
      buffer' ≡ sets buffer at (events_from r.numbers r.values t.from t.count) →
      Progress r0 buffer0 r' buffer' (at + t.count) t.left t.last
  turn_on {r'} {buffer'} {t} lt some le same ring stores =
      let does = subst (λ (k : Turn). Turned r (length buffer0 - at) left last k) (sym same) (turn-does lt some le) in
      let es = events_from r.numbers r.values t.from t.count in
      let n : length es ≡ t.count = length-tabulate _ t.count in
      let c = p.count in
      let fits = does.count in
      let k : length buffer0 - at - t.count ≡ length buffer0 - (at + t.count) = omega arith in
      record {
        events = p.events ++ es;
        laid =
            stores
            ∙ ap (λ (l : List ℕ). sets l at es) p.laid
            ∙ ap (λ (i : ℕ). sets (over p.events buffer0) i es) p.count
            ∙ sets_over p.events es buffer0 (omega arith);
        count = let l = length-append p.events es in omega arith;
        within = omega arith;
        shape = subst (λ (q : State). in_shape (with_handed 0 q) ≡ true) (sym ring) does.shape;
        agree = subst (λ (q : State). q.counts.handed + q.counts.overwritten ≤ q.counts.committed + 1) (sym ring) does.agree;
        rest =
            p.rest
            ∙ ap (events_first p.events) does.rest
            ∙ events_first-append p.events es (drains_on (length buffer0 - at - t.count) t.left (turned t r) t.last)
            ∙ ap (λ (i : ℕ). events_first (p.events ++ es) (drains_on i t.left (turned t r) t.last)) k
            ∙ ap (λ (q : State). events_first (p.events ++ es) (drains_on (length buffer0 - (at + t.count)) t.left q t.last)) (sym ring);
      }

  -- where the loop ends: the buffer is full, no Read is left, or the ring is out of shape
  ends :
      (a b ok : Bool) →
      a ≡ ltb at (length buffer0) →
      b ≡ ltb 0 left →
      ok ≡ leb (r.counts.handed + r.counts.overwritten) r.counts.committed →
      (a && b) && ok ≡ false →
      drains_on (length buffer0 - at) left r last ≡ drain_ends r (last_after (a && b) last)
  ends false b ok ea eb eo h =
      let full = ltb-false at (length buffer0) (sym ea) in
      let n : length buffer0 - at ≡ 0 = omega arith in
      ap (λ (k : ℕ). drains_on k left r last) n
  ends true false ok ea eb eo h =
      let none = ltb-false 0 left (sym eb) in
      let n : left ≡ 0 = omega arith in
      ap (λ (k : ℕ). drains_on (length buffer0 - at) k r last) n ∙ none_left (length buffer0 - at)
  ends true true ok ea eb eo h =
      let buffer-left = ltb-true at (length buffer0) (sym ea) in
      let some = ltb-true 0 left (sym eb) in
      let k : length buffer0 - at ≡ suc (length buffer0 - at - 1) = omega arith in
      let l : left ≡ suc (left - 1) = omega arith in
      ap (λ (i : ℕ). drains_on i left r last) k
      ∙ ap (λ (i : ℕ). drains_on (suc (length buffer0 - at - 1)) i r last) l
      ∙ rw (over-handed r (leb-false (r.counts.handed + r.counts.overwritten) r.counts.committed (sym eo ∙ h)))

  pub finish :
      (a b ok : Bool) →
      a ≡ ltb at (length buffer0) →
      b ≡ ltb 0 left →
      ok ≡ leb (r.counts.handed + r.counts.overwritten) r.counts.committed →
      (a && b) && ok ≡ false →
      CountMatches (whole r0 buffer0) (drain_count r (last_after (a && b) last) at) × (buffer ≡ buffer_after (whole r0 buffer0) buffer0)
  finish a b ok ea eb eo h =
      let end = last_after (a && b) last in
      let all : whole r0 buffer0 ≡ drain_with r p.events end (told_last end) =
      p.rest ∙ ap (events_first p.events) (ends a b ok ea eb eo h) ∙ ap (λ (es : List ℕ). drain_with r es end (told_last end)) (append-nil p.events) in (
        record {
          state = ap (λ (d : DrainOutcome). d.state) (sym all);
          last_answer = ap (λ (d : DrainOutcome). d.last) (sym all);
          tells = ap (λ (d : DrainOutcome). d.tells) (sym all);
          count = p.count ∙ ap (λ (d : DrainOutcome). length d.events) (sym all);
        },
        p.laid ∙ ap (λ (d : DrainOutcome). buffer_after d buffer0) (sym all),
      )
