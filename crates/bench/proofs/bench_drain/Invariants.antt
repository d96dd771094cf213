-- `bench_drain` drains the ring that the trace leaves: each further drain gives what the first gave, and leaves the buffer as it is. Assumes nothing.
use Rattle.std.proofs.Common.{◌≡◌}
use Rattle.bench.proofs.bench_drain.Given as goal

abbrev pub invariant-loop : goal.invariant-loop
invariant-loop l = (l.buffer ≡ l.initial.buffer) × (l.made ≡ l.initial.made)
