-- There are runs of the code: whatever is asked, of whichever ring, what the rule gives is something that the function may return. So the hypotheses
-- of `code-demand-3` can be met, by every list of calls. Assumes nothing.
use mathlib.Core.Path.{◌≡◌, refl}
use mathlib.Core.Bool.{not}
use mathlib.Core.List.{List}
use Prim.Native.Nat.{ℕ}
use lib.ListN.{length}
use denote.Ref.{at_last}
use Rattle.rules.specs.State.{size_of}
use Rattle.rules.specs.Shape.{size_fits}
use Rattle.rules.specs.Begin.{begin_rule}
use Rattle.rules.specs.Write.{write_rule}
use Rattle.rules.specs.Read.{read_rule}
use Rattle.rules.specs.Act.{act}
use Rattle.rules.specs.SetUp.{plain_ring, fresh_rule}
use Rattle.rules.specs.Receipt.{receipt_rule}
use Rattle.rules.specs.Actions.{decoded}
use Rattle.rules.specs.Replay.{buffer_fits, ReplayOutcome, replay_with, replay_rule, buffer_rule}
use Rattle.rules.specs.Drain.{drain_rule, buffer_after}
use Rattle.ring.specs.Ring.{state_of}
use Rattle.ring.specs.Code.{CodeRuns}
use Rattle.rules.specs.declared.state.Action.TheVariants.{Begin, Write, Read}
use Rattle.rules.proofs.Lists.{by_cond}
use Rattle.rules.proofs.drain.Told.{drain-tells}
use Rattle.ring.proofs.Representation.{ring_of}
use Rattle.ring.proofs.drain.Laws.{drain_count}
use Rattle.ring.proofs.demand.Promises.{promises}
use Rattle.ring.proofs.act.Laws.{step_of, act-plain, fresh-plain}

-- what a replay tells is what its answer and its stop tell
abbrev Whole : ReplayOutcome → Type 0
Whole o = replay_with o.state o.answer o.made o.stop ≡ o

replay-whole : (pages slots mode : ℕ) (bytes buffer : List ℕ) → Whole (replay_rule pages slots mode bytes buffer)
replay-whole pages slots mode bytes buffer =
    by_cond Whole (not (size_fits (size_of pages slots mode))) (λ e. refl) (λ e.
    by_cond Whole (not (buffer_fits (decoded bytes) (length buffer))) (λ f. refl) (λ f. refl))

pub code_runs : CodeRuns promises
code_runs =
    record {
      fresh = λ pages slots mode. (step_of (fresh_rule pages slots mode), fresh-plain pages slots mode);
      plain = (ring_of plain_ring, refl);
      replay = λ pages slots mode bytes buffer.
          let o = replay_rule pages slots mode bytes.now buffer.now in (
            record { ring = ring_of o.state; answer = o.answer; made = o.made; stop = o.stop },
            buffer_rule pages slots mode bytes.now buffer.now,
            (replay-whole pages slots mode bytes.now buffer.now, refl),
          );
      begin = λ r v. (step_of (begin_rule (state_of r) v), act-plain (state_of r) (Begin v));
      write = λ r. (step_of (write_rule (state_of r)), act-plain (state_of r) Write);
      read = λ r. (step_of (read_rule (state_of r)), act-plain (state_of r) Read);
      act = λ r a. (step_of (act (state_of r) a), act-plain (state_of r) a);
      drain_into = λ r buffer.
          let d = drain_rule (state_of r) (length buffer.now) in (
            drain_count d.state d.last (length d.events),
            buffer_after d buffer.now,
            (record { state = refl; last_answer = refl; tells = drain-tells (state_of r) (length buffer.now); count = refl }, refl),
          );
      drain = λ r buffer.
          let d = drain_rule (state_of r) (length buffer.now) in (
            record { part = at_last buffer d.events; ring = ring_of d.state; last = d.last },
            record { state = refl; last_answer = refl; tells = drain-tells (state_of r) (length buffer.now); events = refl; start = refl },
          );
      receipt = λ r. (receipt_rule (state_of r), refl);
    }
