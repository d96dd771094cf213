-- A drain is so many Reads made singly, one after the other, by the action itself: its ring, its events and its last answer are theirs
-- (`drain-singly`). So the ring that it leaves is reached where the one that it was given is (`drain-reached`), and what is proved of every list
-- of actions holds of runs with drains among them. By the definition's own recursion. Assumes nothing.
use mathlib.Core.Path.{◌≡◌, refl, sym, ap, ◌∙◌}
use mathlib.Core.Bool.{false, true≢false}
use mathlib.Core.List.{List, [], ◌∷◌}
use Prim.Native.Nat.{ℕ, zero, suc}
use lib.ListN.{replicate}
use Rattle.std.specs.Prelude.{Option, Some, None}
use Rattle.rules.specs.Answers.{Outcome, gives}
use Rattle.rules.specs.Shape.{in_shape}
use Rattle.rules.specs.Read.{read_rule}
use Rattle.rules.specs.Replay.{state_after, answers_of, Reached}
use Rattle.rules.specs.Limits.{most_in_row}
use Rattle.rules.specs.Drain.{DrainKind, event, ending, quiet, drain_kind, DrainOutcome, drain_ends, by_kind, reads_in_row, drain_reads, drain_rule, events_among, last_of, Singly}
use Rattle.rules.specs.State.{State}
use Rattle.rules.specs.declared.state.Answer.{Answer}
use Rattle.rules.specs.declared.state.Action.{Action}
use Rattle.rules.specs.declared.state.Action.TheVariants.{Read}
use Rattle.rules.specs.declared.state.Refusal.TheVariants.{Shape}
use Rattle.rules.specs.declared.state.Answer.TheVariants as answer
use Rattle.rules.proofs.Lists.{by_bool}
use Rattle.rules.proofs.runs.Reached.{reached-more}

abbrev reads : ℕ → List Action
reads k = replicate k Read

-- so many Reads from a ring, after a last answer, leave this
record From (r : State) (last : Option Answer) (d : DrainOutcome) : Type 0 where
  pub count : ℕ
  pub state : d.state ≡ state_after r (reads count)
  pub events : d.events ≡ events_among (answers_of r (reads count))
  pub last_is : d.last ≡ last_of last (answers_of r (reads count))

none_made : (r : State) (last : Option Answer) → From r last (drain_ends r last)
none_made r last = record { count = 0; state = refl; events = refl; last_is = refl }

-- one Read, by the kind of its answer, and what comes after it
module _ (r : State) (last : Option Answer) where
  abbrev then : State
  then = (read_rule r).state

  abbrev told : Option Answer
  told = Some (read_rule r).answer

  one-made :
      (k : DrainKind) → drain_kind (read_rule r).answer ≡ k → (later on : DrainOutcome) → From then told later → From then told on →
      From r last (by_kind k later (drain_ends then told) on)
  one-made (event e) q later on a b =
      record {
        count = suc a.count;
        state = a.state;
        events = rw q (ap (λ (es : List ℕ). e ∷ es) a.events);
        last_is = a.last_is;
      }
  one-made ending q later on a b = record { count = 1; state = refl; events = rw q; last_is = refl }
  one-made quiet q later on a b = record { count = suc b.count; state = b.state; events = rw q b.events; last_is = b.last_is }

in-row-made : (later : State → Option Answer → DrainOutcome) → ((r : State) (last : Option Answer) → From r last (later r last)) → (left : ℕ) (r : State) (last : Option Answer) → From r last (reads_in_row later left r last)
in-row-made later made zero r last = none_made r last
in-row-made later made (suc left) r last =
    one-made r last (drain_kind (read_rule r).answer) refl (later (then r last) (told r last)) (reads_in_row later left (then r last) (told r last))
    (made (then r last) (told r last))
    (in-row-made later made left (then r last) (told r last))

reads_made : (most space : ℕ) (r : State) (last : Option Answer) → From r last (drain_reads most space r last)
reads_made most zero r last = none_made r last
reads_made most (suc space) r last = in-row-made (drain_reads most space) (reads_made most space) most r last

-- out of shape it is the one Read that is refused
refused : (r : State) → in_shape r ≡ false → gives (answer.Refused Shape) r ≡ read_rule r
refused r e = rw e

refused-made : (r : State) → in_shape r ≡ false → From r None (drain_ends r (Some (answer.Refused Shape)))
refused-made r e =
    record {
      count = 1;
      state = ap (λ (o : Outcome). o.state) (refused r e);
      events = ap (λ (o : Outcome). events_among (o.answer ∷ [])) (refused r e);
      last_is = ap (λ (o : Outcome). Some o.answer) (refused r e);
    }

singly : {r : State} {d : DrainOutcome} (m : From r None d) → (in_shape r ≡ false → m.count ≡ 1) → Singly r d
singly m one = record { reads = m.count; state = m.state; events = m.events; last = m.last_is; refused = one }

pub drain-singly : (r : State) (space : ℕ) → Singly r (drain_rule r space)
unfolding refused-made
drain-singly r space =
    by_bool (in_shape r)
    (λ e. rw e (singly (reads_made most_in_row space r None) (λ f. absurd (true≢false (sym e ∙ f)))))
    (λ e. rw e (singly (refused-made r e) (λ f. refl)))

pub drain-reached : (r : State) (space : ℕ) → Reached r → Reached (drain_rule r space).state
drain-reached r space h =
    let m = drain-singly r space in
    rw m.state (reached-more r h (reads m.reads))
