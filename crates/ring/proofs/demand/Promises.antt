-- What callers learn of the ring's functions, as the parameter of specs/Calls: of the parameters, the result, and the parameters again as they are
-- seen at exit. That the functions keep these promises is proved under proofs/state/Ring, not here. Of `Ring::drain`, whose result holds a reference,
-- it is the clause itself (`drain-clause`).
-- Assumes nothing.
use mathlib.Core.Path.{◌≡◌, refl}
use mathlib.Core.List.{List, []}
use Prim.Native.Nat.{ℕ}
use lib.ListN.{length}
use seplogic.Ra.Ura.{Ura}
use base.Logic.{SProp}
use prog.Memory.{Memory}
use prog.Routine.{Routine}
use types.Logic.{Logic}
use contract.Lifetimes.{Lfts}
use contract.Monad.{Fun, fact}
use denote.Ref.{MutBor, at_last}
use denote.Triple.Clauses.{AtExit}
use Rattle.rules.specs.Drain.{drain_rule}
use Rattle.ring.specs.Ring.{state_of}
use Rattle.ring.specs.DrainPart.{HandedBack}
use Rattle.ring.specs.Calls.{Promises}
use Rattle.ring.specs.declared.state.Ring.{Ring}
use Rattle.ring.specs.declared.drain_part.DrainPart.{DrainPart}
use Rattle.ring.proofs.state.Ring.fresh.Reads as fresh
use Rattle.ring.proofs.state.Ring.plain.Reads as plain
use Rattle.ring.proofs.state.Ring.replay.Reads as replay
use Rattle.ring.proofs.state.Ring.begin.Reads as begin
use Rattle.ring.proofs.state.Ring.write.Reads as write
use Rattle.ring.proofs.state.Ring.read.Reads as read
use Rattle.ring.proofs.state.Ring.act.Reads as act
use Rattle.ring.proofs.state.Ring.drain_into.Reads as drain-into
use Rattle.ring.specs.contracts.state.Ring.drain as drain
use Rattle.ring.proofs.state.Ring.receipt.Reads as receipt

abbrev pub DrainGives : Ring → MutBor (List ℕ) → DrainPart → Type 0
DrainGives r buffer d = HandedBack (drain_rule (state_of r) (length buffer.now)) buffer d

-- .. which is the `ensures` of its contract
drain-clause :
    {M : Type 1} {𝓤 : Ura M} (𝓛 : Logic 𝓤) (mem : Memory → SProp 𝓤) (run : Routine → Fun 𝓤) (κs : Lfts 1) (r : Ring) (buffer : MutBor (List ℕ)) (d : DrainPart)
    (end : AtExit drain.ended κs) →
    (drain.clauses 𝓛 mem run κs (r, (buffer, tt))).ensures tt d end ≡ fact 𝓤 (DrainGives r buffer d)
drain-clause 𝓛 mem run κs r buffer d end = refl

-- a lifetime plays no part in what is learnt: [] stands for any
abbrev pub promises : Promises
promises =
    record {
      fresh = λ pages slots mode s. fresh.Learnt tt (pages, (slots, (mode, tt))) s (pages, (slots, (mode, tt)));
      plain = λ r. plain.Learnt tt tt r tt;
      replay = λ pages slots mode bytes buffer r then.
          replay.Learnt ([], ([], tt)) (pages, (slots, (mode, (bytes, (buffer, tt))))) r (pages, (slots, (mode, (bytes, (at_last buffer then, tt)))));
      begin = λ r v s. begin.Learnt tt (r, (v, tt)) s (r, (v, tt));
      write = λ r s. write.Learnt tt (r, tt) s (r, tt);
      read = λ r s. read.Learnt tt (r, tt) s (r, tt);
      act = λ r a s. act.Learnt tt (r, (a, tt)) s (r, (a, tt));
      drain_into = λ r buffer d then. drain-into.Learnt ([], tt) (r, (buffer, tt)) d (r, (at_last buffer then, tt));
      drain = DrainGives;
      receipt = λ r c. receipt.Learnt tt (r, tt) c (r, tt);
    }
