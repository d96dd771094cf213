-- A ring that is drained again, as it was, into the buffer that it was drained into before: the same comes back, and the buffer stays as it is.
-- Assumes nothing.
use mathlib.Core.Path.{◌≡◌, sym, ap, ◌∙◌, subst}
use mathlib.Core.List.{List, ◌++◌}
use Prim.Native.Nat.{ℕ}
use lib.ListN.{length, drop}
use lib.Seq.{drop-append_seam}
use Rattle.rules.specs.Replay.{over}
use Rattle.rules.specs.Drain.{drain_rule, buffer_after}
use Rattle.rules.specs.State.{State}
use Rattle.ring.specs.Drain.{CountMatches}
use Rattle.ring.specs.declared.state.DrainCount.{DrainCount}
use Rattle.ring.proofs.drain.Laws.{count-is}

over-again : (prefix old : List ℕ) → over prefix (over prefix old) ≡ over prefix old
over-again prefix old = ap (λ (l : List ℕ). prefix ++ l) (drop-append_seam prefix (drop (length prefix) old))

-- after the drain of a ring into `start`, one more into what that left
module _ (ring : State) (start : List ℕ) {buffer buffer' : List ℕ} {made made' : DrainCount} where
  pub again :
      CountMatches (drain_rule ring (length start)) made →
      buffer ≡ buffer_after (drain_rule ring (length start)) start →
      length buffer ≡ length start →
      CountMatches (drain_rule ring (length buffer)) made' →
      buffer' ≡ buffer_after (drain_rule ring (length buffer)) buffer →
      (buffer' ≡ buffer) × (made' ≡ made)
  again m r l m' r' =
      let es = (drain_rule ring (length start)).events in (
        r'
            ∙ ap (λ (n : ℕ). buffer_after (drain_rule ring n) buffer) l
            ∙ ap (over es) r
            ∙ over-again es start
            ∙ sym r,
        count-is _ made' (subst (λ (n : ℕ). CountMatches (drain_rule ring n) made') l m') ∙ sym (count-is _ made m),
      )
