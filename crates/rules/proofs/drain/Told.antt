-- What a drain tells is what its last answer tells: each way to end a drain says so, and an Event before others changes neither of the two.
-- Assumes nothing.
use mathlib.Core.Path.{◌≡◌, refl}
use Prim.Native.Nat.{ℕ, zero, suc}
use Rattle.std.specs.Prelude.{Option, Some, None}
use Rattle.rules.specs.Limits.{most_in_row}
use Rattle.rules.specs.State.{State}
use Rattle.rules.specs.Shape.{in_shape}
use Rattle.rules.specs.Read.{read_rule}
use Rattle.rules.specs.Drain.{DrainKind, event, ending, quiet, drain_kind, DrainOutcome, told_last, drain_ends, by_kind, reads_in_row, drain_reads, drain_rule}
use Rattle.rules.specs.declared.state.Answer.{Answer}
use Rattle.rules.proofs.Lists.{by_cond}

abbrev Tells : DrainOutcome → Type 0
Tells d = told_last d.last ≡ d.tells

kind-tells : (k : DrainKind) (later end on : DrainOutcome) → Tells later → Tells end → Tells on → Tells (by_kind k later end on)
kind-tells (event e) later end on f g h = f
kind-tells ending later end on f g h = g
kind-tells quiet later end on f g h = h

module _ (later : State → Option Answer → DrainOutcome) (tells : (r : State) (last : Option Answer) → Tells (later r last)) where
  row-tells : (left : ℕ) (r : State) (last : Option Answer) → Tells (reads_in_row later left r last)
  row-tells zero r last = refl
  row-tells (suc left) r last =
      let o = read_rule r in
      let answer = Some o.answer in
      kind-tells (drain_kind o.answer) (later o.state answer) (drain_ends o.state answer) (reads_in_row later left o.state answer)
      (tells o.state answer)
      refl
      (row-tells left o.state answer)

reads-tell : (most space : ℕ) (r : State) (last : Option Answer) → Tells (drain_reads most space r last)
reads-tell most zero r last = refl
reads-tell most (suc space) r last = row-tells (drain_reads most space) (reads-tell most space) most r last

pub drain-tells : (r : State) (space : ℕ) → told_last (drain_rule r space).last ≡ (drain_rule r space).tells
drain-tells r space = by_cond Tells (in_shape r) (λ fits. reads-tell most_in_row space r None) (λ broken. refl)
