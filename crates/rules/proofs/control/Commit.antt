-- With no record left, commit moves to the tail page and control is kept: what the outermost writer's commit and its drop share. No record is left to own
-- a mark, so that there is a header mark.
-- Assumes nothing.
use mathlib.Core.Path.{◌≡◌, refl}
use Prim.Native.Nat.{ℕ}
use native.Mathlib.Omega.{arith}
use Rattle.rules.specs.State.{State}
use Rattle.rules.specs.Write.{commit_taken}
use Rattle.rules.proofs.invariant.Order.{N, R}
use Rattle.rules.proofs.invariant.Control.{headed, Control}
use Rattle.rules.proofs.control.Phase.{headed-unless}
use Rattle.rules.proofs.order.Records.{reader-map}

pub commit-control : {s : State} {L : ℕ → ℕ} {pc pt : ℕ} → Control s L pc pt → s.depth ≡ 0 → Control (commit_taken s) L pt pt
commit-control {s} {pc = pc} {pt = pt} v none =
    let o = v.order in
    record {
      links = v.links;
      order = record {
        tail_at = o.tail_at;
        commit_at = o.tail_at;
        le = omega arith;
        top = o.top;
        room = o.room;
        cap = o.cap;
        full = o.full;
        full0 = λ z y. absurd (omega arith);
        empty = o.empty;
      };
      joined = λ z. v.joined (omega (arith, o.le));
      flags = headed (headed-unless v.flags (λ u. omega (arith, u.below)));
      owners = v.owners;
      depth = v.depth;
      records = λ i hi. absurd (omega arith);
      reader =
          reader-map s.words s.words (N s) (R s) pc pt (λ z. omega (arith, o.le)) (λ z. refl) (λ p. refl) s.reader v.reader;
    }
