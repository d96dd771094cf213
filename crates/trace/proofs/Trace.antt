-- The round trip: a trace is read back, and the encoder's calls write it. Assumes nothing.
use mathlib.Core.Path.{◌≡◌, refl, sym, ap, ◌∙◌}
use mathlib.Core.Bool.{true}
use mathlib.Core.List.{List, [], ◌∷◌, ◌++◌, append_assoc, append-nil}
use Prim.Native.Nat.{ℕ, ◌+◌, ◌*◌, ◌≤◌}
use native.Mathlib.Omega.{arith}
use borrow.Author.Tests.{le-leb, le-ltb, eq-eqb, ne_eqb}
use lib.ListN.{length, length-append}
use Rattle.std.specs.Prelude.{Result, Ok, Err}
use Rattle.std.proofs.Math.Nat.{min-eq_left}
use lib.Seq.{take-append_seam, drop-append-add, drop-drop}
use Rattle.rules.specs.State.{size_of}
use Rattle.rules.specs.Shape.{size_fits}
use Rattle.rules.specs.SetUp.{fresh_ring}
use Rattle.rules.specs.Actions.{Decoded, decoded_from, action_bytes, encoded}
use Rattle.rules.specs.Replay.{numbers_per_answer, over, ran_buffer, buffer_fits}
use Rattle.trace.specs.Header.{most_length, mark_end, version_end, first_action, plain_byte, header_of}
use Rattle.trace.specs.Replays.{walk_place, walk_actions, walked, replayed_from, buffer_from}
use Rattle.trace.specs.Encode.{header_bytes, put, kept, place_for, header_place, action_place}
use Rattle.trace.specs.Trace.{ValuesFit, trace_of, Written, written_from, written, ReadBack, WrittenOut, ReplayedBack, RoundTrip}
use Rattle.rules.specs.declared.state.Action.{Action}
use Rattle.rules.specs.declared.state.Refusal.{Refusal}
use Rattle.ring.proofs.replay.Laws.{over-length}
use Rattle.trace.proofs.Actions.{decoded-encoded}
use Rattle.trace.proofs.encode.Laws.{small, placed, header-placed}

-- ---- reading

module _ (pages slots mode : ℕ) (actions : List Action) where
  header-back : size_fits (size_of pages slots mode) ≡ true → length (trace_of pages slots mode actions) ≤ most_length → header_of (trace_of pages slots mode actions) ≡ Ok (size_of pages slots mode)
  header-back h l =
      let s = small pages slots mode h in
      let bytes = trace_of pages slots mode actions in
      rw (
        le-ltb most_length (length bytes) l,
        le-leb mark_end (length bytes) (omega arith),
        le-leb version_end (length bytes) (omega arith),
        le-ltb (length bytes) first_action (omega arith),
        ne_eqb mode plain_byte (omega arith),
        h,
      )

  read_back : ValuesFit actions → size_fits (size_of pages slots mode) ≡ true → length (trace_of pages slots mode actions) ≤ most_length → ReadBack pages slots mode actions
  read_back f h l = record { header = header-back h l; then = decoded-encoded (header_bytes pages slots mode) actions f }

-- ---- writing

-- an answer is a place or a refusal
by-put : {P : Type 0} (p : Result ℕ Refusal) → ((next : ℕ) → p ≡ Ok next → P) → ((why : Refusal) → p ≡ Err why → P) → P
by-put (Ok next) x y = x next refl
by-put (Err why) x y = y why refl

-- after a refusal there is no call
refused-stays : (why : Refusal) (out : List ℕ) (actions : List Action) → (written_from (Err why) out actions).place ≡ Err why
refused-stays why out [] = refl
refused-stays why out (a ∷ rest) = refl

refused-after : {p : Result ℕ Refusal} {why : Refusal} (new old : List ℕ) (actions : List Action) → p ≡ Err why → (written_from p (kept p new old) actions).place ≡ Err why
refused-after {p} {why} new old actions e = ap (λ (q : Result ℕ Refusal). (written_from q (kept q new old) actions).place) e ∙ refused-stays why old actions

module _ (out : List ℕ) where
  -- bytes put after those that are there already
  over-more : (pre bytes : List ℕ) → put bytes (length pre) (over pre out) ≡ over (pre ++ bytes) out
  over-more pre bytes = simp (take-append_seam, drop-append-add, drop-drop, length-append)

  -- bytes that there is room for are put
  has-place : (pre bytes : List ℕ) → length pre + length bytes ≤ most_length → length pre + length bytes ≤ length out → place_for (length (over pre out)) (length pre) (length bytes) ≡ Ok (length pre + length bytes)
  has-place pre bytes s f =
      rw (over-length pre out (omega arith), le-ltb most_length (length pre + length bytes) s, le-ltb (length out) (length pre + length bytes) f)

  -- one call that is not refused, after which the bytes of one action more stand at the start
  one_more : (pre : List ℕ) (a : Action) (rest : List Action) {next : ℕ} → action_place (length (over pre out)) (length pre) a ≡ Ok next → written_from (Ok (length pre)) (over pre out) (a ∷ rest) ≡ written_from (Ok (length (pre ++ action_bytes a))) (over (pre ++ action_bytes a) out) rest
  one_more pre a rest e =
      let n = (placed (length (over pre out)) (length pre) (length (action_bytes a)) e).after ∙ sym (length-append pre (action_bytes a)) in
      ap (λ (p : Result ℕ Refusal). written_from p (kept p (put (action_bytes a) (length pre) (over pre out)) (over pre out)) rest) (e ∙ ap Ok n)
      ∙ ap (λ (l : List ℕ). written_from (Ok (length (pre ++ action_bytes a))) l rest) (over-more pre (action_bytes a))

  write-from : (pre : List ℕ) (actions : List Action) → length (pre ++ encoded actions) ≤ most_length → length (pre ++ encoded actions) ≤ length out → (written_from (Ok (length pre)) (over pre out) actions).place ≡ Ok (length (pre ++ encoded actions))
  write-from pre [] s f = rw append-nil
  write-from pre (a ∷ rest) s f =
      let n = length-append pre (action_bytes a ++ encoded rest) in
      let m = length-append (action_bytes a) (encoded rest) in
      let e = has-place pre (action_bytes a) (omega arith) (omega arith) in
      let q = append_assoc pre (action_bytes a) (encoded rest) in
      rw (one_more pre a rest e, ← q) (write-from (pre ++ action_bytes a) rest (rw q s) (rw q f))

  -- what calls leave that are not refused
  record Left (w : Written) (whole : List ℕ) (end : ℕ) : Type 0 where
    pub stop : end ≡ length whole
    pub short : end ≤ most_length
    pub holds : w.out ≡ over whole out

  wrote-from : (pre : List ℕ) (actions : List Action) (end : ℕ) → length pre ≤ most_length → length pre ≤ length out → (written_from (Ok (length pre)) (over pre out) actions).place ≡ Ok end → Left (written_from (Ok (length pre)) (over pre out) actions) (pre ++ encoded actions) end
  wrote-from pre [] end s f h =
      let e : length pre ≡ end = cc in
      rw (append-nil, ← e) record { stop = refl; short = s; holds = refl }
  wrote-from pre (a ∷ rest) end s f h =
      by-put (action_place (length (over pre out)) (length pre) a)
      (λ next e.
      let p = placed (length (over pre out)) (length pre) (length (action_bytes a)) e in
      let n = length-append pre (action_bytes a) in
      let k = over-length pre out f in
      let o = one_more pre a rest e in
      rw (o, ← append_assoc) (wrote-from (pre ++ action_bytes a) rest end (omega arith) (omega arith) (rw o at h)))
      (λ why e. let r = refused-after (put (action_bytes a) (length pre) (over pre out)) (over pre out) rest e in absurd cc)

module _ (pages slots mode : ℕ) (actions : List Action) (out : List ℕ) where
  -- the first call
  begun : {next : ℕ} → header_place (length out) pages slots mode ≡ Ok next → written pages slots mode actions out ≡ written_from (Ok (length (header_bytes pages slots mode))) (over (header_bytes pages slots mode) out) actions
  begun e =
      let n = (header-placed (length out) pages slots mode e).after in
      ap (λ (p : Result ℕ Refusal). written_from p (kept p (put (header_bytes pages slots mode) 0 out) out) actions) (e ∙ ap Ok n)

  write-out : size_fits (size_of pages slots mode) ≡ true → length (trace_of pages slots mode actions) ≤ most_length → length (trace_of pages slots mode actions) ≤ length out → (written pages slots mode actions out).place ≡ Ok (length (trace_of pages slots mode actions))
  write-out h s f =
      let e : header_place (length out) pages slots mode ≡ Ok first_action = rw (h, le-ltb (length out) first_action (omega arith)) in
      rw (begun e) (write-from out (header_bytes pages slots mode) actions s f)

  wrote-out : (end : ℕ) → ValuesFit actions → (written pages slots mode actions out).place ≡ Ok end → WrittenOut pages slots mode actions out end
  wrote-out end v h =
      by-put (header_place (length out) pages slots mode)
      (λ next e.
      let b = begun e in
      let p = header-placed (length out) pages slots mode e in
      let w = wrote-from out (header_bytes pages slots mode) actions end (omega arith) (omega arith) (rw b at h) in
      record {
        stop = w.stop;
        holds = rw b w.holds;
        reads = read_back pages slots mode actions v p.accepted (rw w.stop at w.short);
      })
      (λ why e. let r = refused-after (put (header_bytes pages slots mode) 0 out) out actions e in absurd cc)

-- ---- the replay of what was written

module _ (pages slots mode : ℕ) (actions : List Action) (buffer : List ℕ) (back : ReadBack pages slots mode actions) (fits : numbers_per_answer * length actions ≤ length buffer) where
  abbrev bytes : List ℕ
  bytes = trace_of pages slots mode actions

  trace-length : length bytes ≡ first_action + length (encoded actions)
  trace-length = length-append (header_bytes pages slots mode) (encoded actions)

  place : walk_place (length bytes) first_action ≡ first_action
  place =
      let n = trace-length in
      min-eq_left (omega arith)

  all : walk_actions bytes first_action ≡ record { actions = actions; stop = length bytes }
  all = ap (decoded_from bytes) place ∙ back.then

  enough : buffer_fits (walk_actions bytes first_action) (length buffer) ≡ true
  enough = ap (λ (d : Decoded). buffer_fits d (length buffer)) all ∙ le-leb (numbers_per_answer * length actions) (length buffer) fits

  replayed-back : ReplayedBack pages slots mode actions buffer
  unfolding replayed_from buffer_from
  replayed-back =
      let r = fresh_ring (size_of pages slots mode) in
      record {
        replays = rw (back.header, enough) (ap (walked (length bytes) r) all ∙ rw (eq-eqb (length bytes) (length bytes) refl));
        answers = rw (back.header, enough) (ap (λ (d : Decoded). ran_buffer r d buffer) all);
      }

pub round_trip : RoundTrip
round_trip =
    record {
      read = read_back;
      write = write-out;
      wrote = λ pages slots mode actions out. wrote-out pages slots mode actions out;
      replayed = replayed-back;
    }
