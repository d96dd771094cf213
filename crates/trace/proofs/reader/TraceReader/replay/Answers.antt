-- `TraceReader::replay` is the definition: by the header, and by the answer of `Ring::replay`, which refuses nothing but the buffer, since the set-up
-- of a header is accepted.
-- Assumes nothing.
use Rattle.std.proofs.Common.{Result, Ok, ◌≡◌, true, ℕ, ◌+◌, ◌-◌, ◌≤◌, List, length, take, drop, arith, ap, sym, ◌∙◌}
use Rattle.rules.specs.State.{size_of}
use Rattle.rules.specs.SetUp.{fresh_ring}
use Rattle.rules.specs.Shape.{size_fits}
use Rattle.rules.specs.Actions.{Decoded, decoded}
use Rattle.rules.specs.Replay.{ran_buffer, buffer_fits, buffer_rule, ran, replay_rule, ReplayOutcome}
use Rattle.ring.specs.Replay.{replay_outcome}
use Rattle.trace.specs.Header.{HeaderOutcome, header_of, header_gives, header_rule}
use Rattle.trace.specs.Replays.{walk_place, walk_bytes, walk_actions, walked, told_from, replayed_from, buffer_from}
use Rattle.rules.specs.declared.state.Size.{Size}
use Rattle.rules.specs.declared.state.Refusal.{Refusal}
use Rattle.rules.specs.declared.state.Answer.TheVariants.{Accepted}
use Rattle.ring.specs.declared.state.Replay.{Replay}
use Rattle.rules.proofs.actions.Shift.{shifted}
use Rattle.trace.proofs.walk.Laws.{ready-fits, walk-part, walk_same, walk-fits, walk-stop, rule-runs, rule-fills, rule-short, rule-keeps, accepted-fits, refused-short}
use Rattle.trace.proofs.reader.TraceReader.replay.Goals as goal

-- what the header's contract says, of its result alone
said : {r : Result Size Refusal} (bytes : List ℕ) → header_gives r ≡ header_rule bytes → header_of bytes ≡ r
said bytes e = sym (ap (λ (h : HeaderOutcome). h.header) e)

-- a header that says a set-up, and what `Ring::replay` gave of the bytes from a place on
record Run (bytes buffer : List ℕ) (place pages slots mode from : ℕ) (r : Replay) (then : List ℕ) : Type 0 where
  pub says : header_of bytes ≡ Ok (size_of pages slots mode)
  pub begins : from ≡ walk_place (length bytes) place
  pub gave : replay_outcome r ≡ replay_rule pages slots mode (walk_bytes bytes place) buffer
  pub filled : then ≡ buffer_rule pages slots mode (walk_bytes bytes place) buffer

-- .. told by what the header's contract says, and with the part of the bytes that the code passes on
run_of : (bytes : List ℕ) {buffer : List ℕ} {place pages slots mode from : ℕ} {r : Replay} {then : List ℕ} →
    header_gives (Ok (size_of pages slots mode)) ≡ header_rule bytes →
    from ≡ walk_place (length bytes) place →
    (replay_outcome r ≡ replay_rule pages slots mode (take (length bytes - from) (drop from bytes)) buffer)
    × (then ≡ buffer_rule pages slots mode (take (length bytes - from) (drop from bytes)) buffer) →
    Run bytes buffer place pages slots mode from r then
run_of bytes {buffer} {place} {pages} {slots} {mode} {from} h e g =
    let part = walk-part bytes place from e in
    record {
      says = said bytes h;
      begins = e;
      gave = g.0 ∙ ap (λ (l : List ℕ). replay_rule pages slots mode l buffer) part;
      filled = g.1 ∙ ap (λ (l : List ℕ). buffer_rule pages slots mode l buffer) part;
    }

module _ {bytes buffer : List ℕ} {place pages slots mode from : ℕ} {r : Replay} {then : List ℕ} (w : Run bytes buffer place pages slots mode from r then) where
  abbrev left : List ℕ
  left = walk_bytes bytes place

  accepts : size_fits (size_of pages slots mode) ≡ true
  accepts = ready-fits bytes w.says

  same : walk_actions bytes place ≡ shifted from (decoded left)
  same = walk_same bytes place from w.begins

  fits-same : buffer_fits (walk_actions bytes place) (length buffer) ≡ buffer_fits (decoded left) (length buffer)
  fits-same = walk-fits bytes place from w.begins (length buffer)

  -- ---- its answer is Accepted

  module _ (ok : r.answer ≡ Accepted) where
    enough : buffer_fits (decoded left) (length buffer) ≡ true
    enough = accepted-fits pages slots mode left buffer accepts (sym (ap (λ (o : ReplayOutcome). o.answer) w.gave) ∙ ok)

    runs : replay_outcome r ≡ ran (fresh_ring (size_of pages slots mode)) (decoded left)
    runs = w.gave ∙ rule-runs pages slots mode left buffer accepts enough

    stop-within : from + r.stop ≤ length bytes
    stop-within =
        let stop = ap (λ (k : ReplayOutcome). k.stop) runs in
        omega (arith, stop, walk-stop bytes place from w.begins)

    whole : {q : ReplayOutcome} → q ≡ told_from (length bytes) from (replay_outcome r) → (q ≡ replayed_from bytes place buffer) × (then ≡ buffer_from bytes place buffer)
    unfolding replayed_from buffer_from
    whole e =
        let ring = fresh_ring (size_of pages slots mode) in
        let room = fits-same ∙ enough in
        let all =
        e
        ∙ ap (λ (k : ReplayOutcome). told_from (length bytes) from k) runs
        ∙ ap (λ (d : Decoded). walked (length bytes) ring d) (sym same) in
        let fills =
        w.filled
        ∙ rule-fills pages slots mode left buffer accepts enough
        ∙ ap (λ (d : Decoded). ran_buffer ring d buffer) (sym same) in
        (rw (w.says, room) all, rw (w.says, room) fills)

  -- ---- its answer is not: the buffer is too short

  short : (r.answer ≡ Accepted → ⊥) → (replay_outcome r ≡ replayed_from bytes place buffer) × (then ≡ buffer_from bytes place buffer)
  unfolding replayed_from buffer_from
  short never =
      let less = refused-short pages slots mode left buffer accepts (λ a. never (ap (λ (o : ReplayOutcome). o.answer) w.gave ∙ a)) in
      let room = fits-same ∙ less in (
        rw (w.says, room) (w.gave ∙ rule-short pages slots mode left buffer accepts less),
        rw (w.says, room) (w.filled ∙ rule-keeps pages slots mode left buffer accepts less),
      )

pub returns-in-Err : goal.returns-in-Err
unfolding replayed_from buffer_from
returns-in-Err c =
    let says = said c.args.self.bytes.now c.in-Err.ensures in
    (rw says c.refused_replay.ensures, rw says)

pub told_from-requires : goal.told_from-requires
told_from-requires c = omega (arith, stop-within (run_of c.args.self.bytes.now c.in-Ok.ensures c.min-from.ensures c.replay-run.ensures) c.in-Accepted.is)

pub returns-in-Accepted : goal.returns-in-Accepted
returns-in-Accepted c = whole (run_of c.args.self.bytes.now c.in-Ok.ensures c.min-from.ensures c.replay-run.ensures) c.in-Accepted.is c.told_from.ensures

pub returns-in_default : goal.returns-in_default
returns-in_default c = short (run_of c.args.self.bytes.now c.in-Ok.ensures c.min-from.ensures c.replay-run.ensures) c.in_default.not-Accepted
