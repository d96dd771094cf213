-- Demand 3 of a run that begins with the replay of a trace: by what its header says, and whether the answers have a place, the run begins with no
-- action on the plain ring, or with the trace's actions, which are single actions, on the ring of its set-up (the ring's proofs/demand/Start).
-- Assumes nothing.
use mathlib.Core.Path.{◌≡◌, refl, sym, ap, ◌∙◌}
use mathlib.Core.Logic.{◌≢◌}
use mathlib.Core.List.{List, []}
use Prim.Native.Nat.{ℕ}
use lib.ListN.{length}
use Rattle.std.specs.Prelude.{Result, Ok, Err}
use seplogic.Ra.Ura.{Ura}
use base.Logic.{SProp}
use prog.Memory.{Memory}
use prog.Routine.{Routine}
use types.Logic.{Logic}
use contract.Lifetimes.{Lfts}
use contract.Monad.{Fun, fact}
use denote.Ref.{Bor, MutBor, at_last}
use denote.Triple.Clauses.{AtExit}
use Rattle.rules.specs.State.{size_of}
use Rattle.rules.specs.SetUp.{fresh_ring}
use Rattle.rules.specs.Replay.{laid, over, ran_buffer, buffer_fits, refused_replay, ReplayOutcome}
use Rattle.ring.specs.Replay.{replay_outcome}
use Rattle.ring.specs.Calls.{Single}
use Rattle.ring.specs.Code.{ForCalls}
use Rattle.trace.specs.Header.{first_action, header_of}
use Rattle.trace.specs.Replays.{walk_actions, walked, replayed_from, buffer_from}
use Rattle.trace.specs.Runs.{TraceReplayed, TraceDemand3}
use Rattle.rules.specs.declared.state.Size.{Size}
use Rattle.rules.specs.declared.state.Refusal.{Refusal}
use Rattle.rules.specs.declared.state.Refusal.TheVariants.{Room}
use Rattle.rules.specs.declared.state.Answer.{Answer}
use Rattle.rules.specs.declared.state.Answer.TheVariants as answer
use Rattle.ring.specs.declared.state.Ring.{Ring}
use Rattle.ring.specs.declared.state.Replay.{Replay}
use Rattle.trace.specs.declared.reader.TraceReader.{TraceReader}
use Rattle.rules.proofs.Lists.{by_bool}
use Rattle.ring.proofs.Representation.{ring_of}
use Rattle.ring.proofs.demand.Promises.{promises}
use Rattle.ring.proofs.demand.Steps.{makes-asked, makes-answered, makes-length}
use Rattle.ring.proofs.demand.Start.{set-up, plain-claim, made-claim}
use Rattle.trace.proofs.walk.Laws.{ready-fits, walked-not-room}
use Rattle.trace.proofs.reader.replay.Reads as replay
use Rattle.trace.specs.contracts.reader.TraceReader.replay as method

-- what callers learn of `trace::replay`; a lifetime plays no part in it
abbrev pub ReplayGives : Bor (List ℕ) → MutBor (List ℕ) → Replay → List ℕ → Type 0
ReplayGives bytes buffer r then = replay.Learnt ([], ([], tt)) (bytes, (buffer, tt)) r (bytes, (at_last buffer then, tt))

-- what a replay gives that begins at a place
abbrev Walks : List ℕ → ℕ → List ℕ → Replay → List ℕ → Type 0
Walks bytes at buffer r then = (replay_outcome r ≡ replayed_from bytes at buffer) × (then ≡ buffer_from bytes at buffer)

-- a reader holds a reference, so that of its `replay` it is the clause itself
abbrev pub ReaderGives : TraceReader → MutBor (List ℕ) → Replay → List ℕ → Type 0
ReaderGives t buffer r then = Walks t.bytes.now t.at buffer.now r then

reader-clause :
    {M : Type 1} {𝓤 : Ura M} (𝓛 : Logic 𝓤) (mem : Memory → SProp 𝓤) (run : Routine → Fun 𝓤) (κs : Lfts 2) (t : TraceReader) (buffer : MutBor (List ℕ)) (r : Replay)
    (end : AtExit method.ended κs) →
    (method.clauses 𝓛 mem run κs (t, (buffer, tt))).ensures tt r end ≡ fact 𝓤 (ReaderGives t buffer r end.1.0.now)
reader-clause 𝓛 mem run κs t buffer r end = refl

-- a header says one thing
abbrev size_in : Result Size Refusal → Size
size_in (Ok size) = size
size_in (Err why) = size_of 0 0 0

module _ (bytes : List ℕ) (at : ℕ) (buffer : List ℕ) (r : Replay) (then : List ℕ) where
  abbrev Began : Ring → List Single → Type 0
  Began = TraceReplayed promises bytes at buffer r then

  -- refused before the first action; `never` says that it is not a header that is read and a buffer that is long enough
  refused-claim :
      (why : Refusal) →
      replay_outcome r ≡ refused_replay why →
      then ≡ buffer →
      ((pages slots mode : ℕ) → header_of bytes ≡ Ok (size_of pages slots mode) → r.answer ≢ answer.Refused Room → ⊥) →
      ForCalls promises Began r.ring
  refused-claim why e kept never =
      plain-claim Began r.ring (ap (λ (o : ReplayOutcome). o.state) e)
      (record {
        made = ap (λ (o : ReplayOutcome). o.made) e;
        answers = kept;
        set_up = λ pages slots mode ready other. absurd (never pages slots mode ready other);
        actions = λ pages slots mode ready other. absurd (never pages slots mode ready other);
        unmade = λ why is. refl;
        unplaced = λ is. refl;
      })

  module _ (pages slots mode : ℕ) (says : header_of bytes ≡ Ok (size_of pages slots mode)) where
    -- the actions are made
    walk-claim :
        replay_outcome r ≡ walked (length bytes) (fresh_ring (size_of pages slots mode)) (walk_actions bytes at) →
        then ≡ ran_buffer (fresh_ring (size_of pages slots mode)) (walk_actions bytes at) buffer →
        ForCalls promises Began r.ring
    walk-claim e filled =
        let fresh = fresh_ring (size_of pages slots mode) in
        let actions = (walk_actions bytes at).actions in
        made-claim pages slots mode (ready-fits bytes says) actions Began r.ring (ap (λ (o : ReplayOutcome). o.state) e)
        (record {
          made = ap (λ (o : ReplayOutcome). o.made) e ∙ sym (makes-length fresh actions);
          answers = filled ∙ ap (λ (l : List Answer). over (laid l) buffer) (sym (makes-answered fresh actions));
          set_up = λ n s m ready other. set-up n s m (ready-fits bytes ready) (ring_of fresh) (ap (λ (h : Result Size Refusal). fresh_ring (size_in h)) (sym says ∙ ready));
          actions = λ n s m ready other. makes-asked fresh actions;
          unmade = λ why is. cc;
          unplaced = λ is. absurd (walked-not-room bytes at (fresh_ring (size_of pages slots mode)) (sym (ap (λ (o : ReplayOutcome). o.answer) e) ∙ is));
        })

  by-header : (h : Result Size Refusal) → header_of bytes ≡ h → Walks bytes at buffer r then → ForCalls promises Began r.ring
  unfolding replayed_from buffer_from
  by-header (Err why) says g =
      refused-claim why (g.0 ∙ rw says refl) (g.1 ∙ rw says refl) (λ pages slots mode ready other. cc)
  by-header (Ok size) says g =
      by_bool (buffer_fits (walk_actions bytes at) (length buffer))
      (λ room. walk-claim size.pages size.slots size.mode says (g.0 ∙ rw (says, room) refl) (g.1 ∙ rw (says, room) refl))
      (λ short.
      let e = g.0 ∙ rw (says, short) refl in
      refused-claim Room e (g.1 ∙ rw (says, short) refl) (λ pages slots mode ready other. other (ap (λ (o : ReplayOutcome). o.answer) e)))

pub trace-demand-3 : TraceDemand3 promises ReplayGives ReaderGives
trace-demand-3 =
    record {
      replay = λ bytes buffer r then g. by-header bytes.now first_action buffer.now r then (header_of bytes.now) refl g;
      reader = λ t buffer r then g. by-header t.bytes.now t.at buffer.now r then (header_of t.bytes.now) refl g;
    }
