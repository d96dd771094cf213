-- Write: which rule applies to the top record, what each rule does, and the action. "Begin and Write".
-- The first part reads only what decides; the second changes the ring.
-- Assumes nothing.
use Rattle.std.specs.Prelude.{Bool, true, false, cond, ◌&&◌, ◌||◌, List, [], ◌∷◌, ℕ, ◌+◌, eqb, ltb, Option, Some, None}
use Rattle.rules.specs.Limits.{stop_mode, normal_flag, header_flag, update_flag}
use Rattle.rules.specs.Lists.{first}
use Rattle.rules.specs.State.{reading, word_at, used_at, top, with_tail, with_commit_page, with_commit_index, with_taken, with_committed, with_overwritten, with_dropped, set_word, set_used, set_number, set_value, set_phase, pop, State}
use Rattle.rules.specs.Answers.{Outcome, gives}
use Rattle.rules.specs.Refusals.{write_verdict, judged}
use Rattle.rules.specs.Words.{page_in, flag_in, word_of, same_page, reader_on_commit, links, find_header}
use Rattle.rules.specs.Shape.{in_shape}
use Rattle.rules.specs.declared.state.PageNo.{PageNo}
use Rattle.rules.specs.declared.state.Size.{Size}
use Rattle.rules.specs.declared.state.Places.{Places}
use Rattle.rules.specs.declared.state.WriterPhase.{WriterPhase}
use Rattle.rules.specs.declared.state.WriterPhase.TheVariants as phase
use Rattle.rules.specs.declared.state.Answer.TheVariants as answer
use Rattle.rules.specs.declared.moves.Move.{Move}
use Rattle.rules.specs.declared.moves.Move.TheVariants.{Become, Reserve, Drop, DropCommit, Mark, Promote, Clear, Push, Fill, Pend, Commit}

-- ---- which rule applies

-- a drop: E3 tells the drop at depth 1 from one that is deeper
abbrev pub plan_drop : ℕ → Move
plan_drop depth = cond (eqb depth 1) DropCommit Drop

-- t full: "First that applies", for a depth, a page n and a flag
abbrev pub plan_full : Size → Places → ℕ → PageNo → ℕ → Move
plan_full size places depth n flag =
    first
    -- a. t is the reader page: PUSH (t, n).
    ((same_page places.tail places.reader, Become (phase.Push places.tail n) answer.Looked)
    -- b. n is the commit page: drop.
    ∷ (same_page n places.commit, plan_drop depth)
    -- c. flag HEADER and the commit page is the reader page: drop.
    ∷ (eqb flag header_flag && reader_on_commit places, plan_drop depth)
    -- d. flag HEADER, stop mode: drop.
    ∷ (eqb flag header_flag && eqb size.mode stop_mode, plan_drop depth)
    -- e. flag HEADER or UPDATE: MARK (t, n).
    ∷ (eqb flag header_flag || eqb flag update_flag, Become (phase.Mark places.tail n) answer.Looked)
    ∷ [])
    -- f. flag NORMAL: PUSH (t, n).
    (Become (phase.Push places.tail n) answer.Looked)

-- "WANT, tail page t with used < S": the slot is the one whose number is t's used. "WANT, t full: n is the page in t's word", and the flag is that word's.
abbrev pub plan_want : Size → Places → ℕ → List ℕ → List ℕ → Move
plan_want size places depth words used =
    cond (ltb (used_at used places.tail) size.slots)
    (Reserve places.tail (used_at used places.tail))
    (plan_full size places depth (page_in (word_at words places.tail)) (flag_in (word_at words places.tail)))

-- "MARK: if t's word is n HEADER ... If it is n UPDATE: PROMOTE (t, n, not own). Answer Shared. Otherwise WANT, answer Retry."
abbrev pub plan_mark : PageNo → PageNo → List ℕ → Move
plan_mark t n words =
    first
    ((links words t n header_flag, Mark t n)
    ∷ (links words t n update_flag, Become (phase.Promote t n false) answer.Shared)
    ∷ [])
    (Become phase.Want answer.Retry)

-- "Then CLEAR if own, else PUSH."
abbrev pub after_promote : PageNo → PageNo → Bool → WriterPhase
after_promote t n true = phase.Clear t n
after_promote t n false = phase.Push t n

-- "PROMOTE: if no page other than the reader page has a HEADER word ... Else nothing; answer Standing. The look and the store are one step"
abbrev pub promote_by : Option (PageNo × PageNo) → PageNo → WriterPhase → Move
promote_by (Some (p, h)) n next = Become next answer.Standing
promote_by None n next = Promote n next

-- "no page other than the reader page has a HEADER word": a look at every page, and not at n's word. n is named all the same, since a look at it
-- alone is the easy mistake.
abbrev pub promote_look : Size → Places → PageNo → List ℕ → Option (PageNo × PageNo)
promote_look size places n words = find_header words size.pages places.reader

abbrev pub plan_promote : Size → Places → PageNo → PageNo → Bool → List ℕ → Move
plan_promote size places t n own words = promote_by (promote_look size places n words) n (after_promote t n own)

-- "CLEAR: t's word, if n UPDATE, becomes n NORMAL. Answer Cleared; PUSH."
abbrev pub plan_clear : PageNo → PageNo → List ℕ → Move
plan_clear t n words = cond (links words t n update_flag) (Clear t n) (Become (phase.Push t n) answer.Cleared)

-- "PUSH: if the tail page is t, it becomes n ... else answer Passed. Then WANT."
abbrev pub plan_push : Places → PageNo → PageNo → Move
plan_push places t n = cond (same_page places.tail t) (Push n) (Become phase.Want answer.Passed)

-- "FILLED: record popped. At depth 1 before the pop ... Deeper: answer Pending."
abbrev pub plan_filled : ℕ → Move
plan_filled depth = cond (eqb depth 1) Commit Pend

-- "Write moves the top record by one step": by the record's phase
abbrev pub plan_phase : WriterPhase → Size → Places → ℕ → List ℕ → List ℕ → Move
plan_phase phase.Want size places depth words used = plan_want size places depth words used
plan_phase (phase.Mark t n) size places depth words used = plan_mark t n words
plan_phase (phase.Promote t n own) size places depth words used = plan_promote size places t n own words
plan_phase (phase.Clear t n) size places depth words used = plan_clear t n words
plan_phase (phase.Push t n) size places depth words used = plan_push places t n
plan_phase (phase.Held p slot) size places depth words used = Fill p slot
plan_phase phase.Filled size places depth words used = plan_filled depth

-- the top record of the ring
abbrev pub plan_write : State → Move
plan_write r = plan_phase (top r).phase r.size r.places r.depth r.words r.used

-- ---- what each rule does

-- "slot used gets the number taken; taken + 1, used + 1; phase HELD (t, slot). ... The slot's old value stays."
abbrev pub reserve : PageNo → ℕ → State → State
reserve t slot r =
    with_taken (r.counts.taken + 1)
    (set_used t (slot + 1) (set_number t slot r.counts.taken (set_phase (phase.Held t slot) r)))

-- "Dropped: dropped + 1, record popped", and nothing else where the drop is deeper than depth 1
abbrev pub drop : State → State
drop r = with_dropped (r.counts.dropped + 1) (pop r)

-- "the commit page becomes the tail page, the commit index that page's used, committed becomes taken": the outermost writer's commit, and its drop
abbrev pub commit_taken : State → State
commit_taken r =
    with_commit_page r.places.tail (with_commit_index (used_at r.used r.places.tail) (with_committed r.counts.taken r))

-- E3: "a drop at depth 1 moves commit page, commit index and committed exactly as a commit there does, after counting the drop"
abbrev pub drop_commit : State → State
drop_commit r = commit_taken (drop r)

-- "it becomes n UPDATE, overwritten grows by n's used, n's used becomes 0, all in one step ...; PROMOTE (t, n, own)."
abbrev pub mark : PageNo → PageNo → State → State
mark t n r =
    with_overwritten (r.counts.overwritten + used_at r.used n)
    (set_used n 0 (set_word t (word_of n update_flag) (set_phase (phase.Promote t n true) r)))

-- "n's word becomes HEADER, same page"
abbrev pub promote : PageNo → WriterPhase → State → State
promote n next r = set_word n (word_of (page_in (word_at r.words n)) header_flag) (set_phase next r)

-- "t's word ... becomes n NORMAL ...; PUSH."
abbrev pub clear : PageNo → PageNo → State → State
clear t n r = set_word t (word_of n normal_flag) (set_phase (phase.Push t n) r)

-- "the tail page ... becomes n ... Then WANT."
abbrev pub push : PageNo → State → State
push n r = with_tail n (set_phase phase.Want r)

-- "HELD: the value goes into the slot; phase FILLED."
abbrev pub fill : PageNo → ℕ → State → State
fill p slot r = set_value p slot (top r).value (set_phase phase.Filled r)

-- "FILLED: record popped. At depth 1 before the pop, the commit page becomes the tail page, .."
abbrev pub commit : State → State
commit r = commit_taken (pop r)

-- each rule's answer, with the ring that it leaves: "Answer Reserved(number)", "Dropped", "Answer Marked", and so on; Committed tells committed, which is now taken
abbrev pub moved : Move → State → Outcome
moved (Become next a) r = gives a (set_phase next r)
moved (Reserve t slot) r = gives (answer.Reserved (reading r.counts.taken)) (reserve t slot r)
moved Drop r = gives answer.Dropped (drop r)
moved DropCommit r = gives answer.Dropped (drop_commit r)
moved (Mark t n) r = gives answer.Marked (mark t n r)
moved (Promote n next) r = gives answer.Promoted (promote n next r)
moved (Clear t n) r = gives answer.Cleared (clear t n r)
moved (Push n) r = gives answer.Pushed (push n r)
moved (Fill p slot) r = gives answer.Filled (fill p slot r)
moved Pend r = gives answer.Pending (pop r)
moved Commit r = gives (answer.Committed r.counts.taken) (commit r)

-- ---- the action

-- refused by SHAPE or NOBODY, or else the step
abbrev pub write_rule : State → Outcome
write_rule r = judged (write_verdict (in_shape r) r.depth) r (moved (plan_write r) r)
