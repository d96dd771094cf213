-- What is remembered of a list of actions: writers, readings, Events, overwritings and marks, and one setter for each part. Section "Receipt", from
-- "Demand 3 tells a reading's place" on.
-- Assumes nothing.
use Rattle.std.specs.Prelude.{Bool, List, ℕ}
use Rattle.rules.specs.State.{State}
use Rattle.rules.specs.declared.state.PageNo.{PageNo}

-- a writer: how many Begins were accepted before its own, and the value in its Begin
pub record BegunWriter : Type 0 where
  pub nth : ℕ
  pub value : ℕ

-- "A reading is numbered when a Reserved gave its number: that writer is its own, and its value is the one in that writer's Begin." It is
-- "committed when an answer Committed has come after its Reserved"; a drop of the only writer at work counts as one (E3).
pub record Numbered : Type 0 where
  pub number : ℕ
  pub own : BegunWriter
  pub committed : Bool

-- an Event: the number and the value that it gave
pub record ReadEvent : Type 0 where
  pub number : ℕ
  pub value : ℕ

-- "An overwriting is a Write answered Marked; it takes page n, and the pages are judged as they stand just before it": page n, the ring just before, and the
-- readings numbered by then
pub record Overwriting : Type 0 where
  pub page : PageNo
  pub before : State
  pub readings : List Numbered

-- "A Marked makes its writer the writer of that update mark": no writer yet, or the one whose Begin was the nth accepted, from 0
pub data Marker : Type 0 where
  Unmarked : Marker
  By : ℕ → Marker

pub record History : Type 0 where
  -- how many Begins were accepted
  pub begins : ℕ
  -- the writers at work, the latest begun last
  pub working : List BegunWriter
  -- the writers whose work ended by Dropped, in order
  pub droppers : List BegunWriter
  -- the numbered readings, in the order of their Reserved
  pub readings : List Numbered
  -- the Events, in order
  pub events : List ReadEvent
  -- the Markeds, in order
  pub overwritings : List Overwriting
  -- for each page, the writer of the last Marked that put an update mark in its word; it stays when the mark is cleared
  pub marker : PageNo → Marker

-- ---- one maker for each record, and what stands where nothing is remembered

abbrev pub begun_writer : ℕ → ℕ → BegunWriter
begun_writer nth value = record { nth = nth; value = value }

abbrev pub numbered : ℕ → BegunWriter → Bool → Numbered
numbered number own committed = record { number = number; own = own; committed = committed }

abbrev pub unbegun : BegunWriter
unbegun = begun_writer 0 0

abbrev pub read_event : ℕ → ℕ → ReadEvent
read_event number value = record { number = number; value = value }

abbrev pub overwriting : PageNo → State → List Numbered → Overwriting
overwriting p before readings = record { page = p; before = before; readings = readings }

abbrev pub history : ℕ → List BegunWriter → List BegunWriter → List Numbered → List ReadEvent → List Overwriting → (PageNo → Marker) → History
history begins working droppers readings events overwritings marker =
    record {
      begins = begins;
      working = working;
      droppers = droppers;
      readings = readings;
      events = events;
      overwritings = overwritings;
      marker = marker;
    }

-- ---- one setter for each part

abbrev pub with_begins : ℕ → History → History
with_begins x h = history x h.working h.droppers h.readings h.events h.overwritings h.marker

abbrev pub with_working : List BegunWriter → History → History
with_working x h = history h.begins x h.droppers h.readings h.events h.overwritings h.marker

abbrev pub with_droppers : List BegunWriter → History → History
with_droppers x h = history h.begins h.working x h.readings h.events h.overwritings h.marker

abbrev pub with_readings : List Numbered → History → History
with_readings x h = history h.begins h.working h.droppers x h.events h.overwritings h.marker

abbrev pub with_events : List ReadEvent → History → History
with_events x h = history h.begins h.working h.droppers h.readings x h.overwritings h.marker

abbrev pub with_overwritings : List Overwriting → History → History
with_overwritings x h = history h.begins h.working h.droppers h.readings h.events x h.marker

abbrev pub with_marker : (PageNo → Marker) → History → History
with_marker x h = history h.begins h.working h.droppers h.readings h.events h.overwritings x
