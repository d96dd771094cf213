-- The third part of the invariant, fates: each accepted Begin's writer is the own writer of one reading, or was dropped, or is at work before its reservation. 'Complete',
-- and the receipt's begun and dropped, rest on it. A writer is told by how many Begins were accepted before its own. E i is 1 while the record at place i of the stack is before its reservation.
-- Assumes nothing.
use mathlib.Core.Path.{◌≡◌}
use mathlib.Core.Logic.{◌⊎◌}
use mathlib.Core.List.{List}
use Prim.Native.Nat.{ℕ, ◌<◌}
use lib.ListN.{length}
use Rattle.rules.specs.Remember.{BegunWriter, Numbered, History}
use Rattle.rules.specs.State.{State}
use Rattle.rules.proofs.invariant.Order.{phase_at}
use Rattle.rules.proofs.invariant.Accounts.{nth_reading, early, worker_at}

-- the writer is at work and before its reservation
pub record Early (E : ℕ → ℕ) (depth : ℕ) (working : List BegunWriter) (writer : ℕ) : Type 0 where
  pub i : ℕ
  pub below : i < depth
  pub before : E i ≡ 1
  pub is : (worker_at working i).nth ≡ writer

-- it is the own writer of a reading
pub record Owner (readings : List Numbered) (taken writer : ℕ) : Type 0 where
  pub number : ℕ
  pub below : number < taken
  pub is : (nth_reading readings number).own.nth ≡ writer

-- it was dropped
pub record Dropper (droppers : List BegunWriter) (writer : ℕ) : Type 0 where
  pub k : ℕ
  pub below : k < length droppers
  pub is : (worker_at droppers k).nth ≡ writer

-- A step makes this record anew, field by field: `record b { .. }` keeps the type of b, and this type names what the step changes.
pub record Fates (begins : ℕ) (working : List BegunWriter) (readings : List Numbered) (droppers : List BegunWriter) (E : ℕ → ℕ) (depth taken dropped begun : ℕ) : Type 0 where
  pub begun_is : begins ≡ begun
  pub dropped_is : length droppers ≡ dropped
  pub taken_is : length readings ≡ taken
  pub working_is : length working ≡ depth
  pub workers_known : (i : ℕ) → i < depth → (worker_at working i).nth < begins
  pub workers_rise : (i j : ℕ) → i < j → j < depth → (worker_at working i).nth < (worker_at working j).nth
  pub owners_known : (m : ℕ) → m < taken → (nth_reading readings m).own.nth < begins
  pub owners_once : (m n : ℕ) → m < taken → n < taken → (nth_reading readings m).own.nth ≡ (nth_reading readings n).own.nth → m ≡ n
  pub droppers_known : (writer : ℕ) → Dropper droppers writer → writer < begins
  pub droppers_free : (writer : ℕ) → Dropper droppers writer → ¬ Owner readings taken writer
  pub early_free : (writer : ℕ) → Early E depth working writer → ¬ Owner readings taken writer
  pub droppers_ended : (writer : ℕ) → Dropper droppers writer → ¬ Early E depth working writer
  pub fate : (writer : ℕ) → writer < begins → Owner readings taken writer ⊎ (Dropper droppers writer ⊎ Early E depth working writer)

-- of a ring and a history
abbrev pub FatesOf : State → History → Type 0
FatesOf s h =
    Fates h.begins h.working h.readings h.droppers (λ i. early (phase_at s.stack i)) s.depth s.counts.taken s.counts.dropped s.counts.begun
