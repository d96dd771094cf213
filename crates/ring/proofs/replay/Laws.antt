-- What a loop that makes the actions of some bytes keeps: `Progress`. At its start nothing is done; each turn makes one action more, and where no
-- whole action stands all is done that the definition asks. The ring of each turn is in shape, since it is reached from a set-up.
-- Assumes nothing.
use mathlib.Core.Path.{◌≡◌, refl, sym, ap, ◌∙◌, subst}
use mathlib.Core.Bool.{true}
use mathlib.Core.List.{List, [], ◌∷◌, ◌++◌, append-nil}
use Prim.Native.Nat.{ℕ, suc, ◌+◌, ◌*◌, ◌≤◌}
use native.Mathlib.Omega.{arith}
use lib.ListN.{length, drop, length-append, length-drop}
use lib.Seq.{append_snoc, sets, sets-eq, take_at, drop-append-add, drop-drop}
use Rattle.rules.specs.Codes.{numbers_of}
use Rattle.rules.specs.Shape.{in_shape}
use Rattle.rules.specs.Act.{act}
use Rattle.rules.specs.Actions.{Decoded, stopped, coded_at, decoded, decoded_from}
use Rattle.rules.specs.Replay.{state_after, answers_of, numbers_per_answer, laid, over, ran_buffer, Reached, replay_with, ran}
use Rattle.rules.specs.State.{State}
use Rattle.ring.specs.Replay.{laid_at}
use Rattle.rules.specs.declared.codes.Numbers.{Numbers}
use Rattle.rules.specs.declared.state.Action.{Action}
use Rattle.rules.specs.declared.state.Answer.{Answer}
use Rattle.rules.specs.declared.state.Answer.TheVariants.{Accepted}
use Rattle.rules.specs.declared.actions.Coded.TheVariants.{Whole}
use Rattle.rules.proofs.actions.Laws.{decoded-whole}
use Rattle.rules.proofs.runs.Reached.{after-append, reached-shape}

-- ---- a list of actions, and one more

abbrev one : Action → List Action
one a = a ∷ []

after_more : (r : State) (done : List Action) (a : Action) → state_after r (done ++ one a) ≡ (act (state_after r done) a).state
after_more r done a = after-append r done (one a)

answers-more : (r : State) (done : List Action) (a : Action) → answers_of r (done ++ one a) ≡ answers_of r done ++ ((act (state_after r done) a).answer ∷ [])
answers-more r [] a = refl
answers-more r (b ∷ done) a = ap (λ (l : List Answer). (act r b).answer ∷ l) (answers-more (act r b).state done a)

-- the three numbers of an answer
abbrev three : Numbers → List ℕ
three n = n.code ∷ n.first ∷ n.second ∷ []

laid_more : (answers : List Answer) (a : Answer) → laid (answers ++ (a ∷ [])) ≡ laid answers ++ three (numbers_of a)
laid_more [] a = refl
laid_more (b ∷ answers) a =
    ap (λ (l : List ℕ). (numbers_of b).code ∷ (numbers_of b).first ∷ (numbers_of b).second ∷ l) (laid_more answers a)

laid-length : (r : State) (done : List Action) → length (laid (answers_of r done)) ≡ numbers_per_answer * length done
laid-length r [] = refl
laid-length r (a ∷ done) =
    let l = laid-length (act r a).state done in
    omega arith

-- ---- the buffer

-- a prefix that fits leaves the buffer as long as it was
pub over-length : (prefix old : List ℕ) → length prefix ≤ length old → length (over prefix old) ≡ length old
over-length prefix old fits = simp (length-append, length-drop) (omega arith)

-- elements stored after a prefix that is filled make a longer prefix
module _ (prefix es old : List ℕ) (fits : length prefix + length es ≤ length old) where
  rest-left : drop (length prefix + length es) (over prefix old) ≡ drop (length prefix + length es) old
  rest-left = drop-append-add prefix (drop (length prefix) old) (length es) ∙ drop-drop (length es) (length prefix) old

  pub sets_over : sets (over prefix old) (length prefix) es ≡ over (prefix ++ es) old
  sets_over =
      sets-eq es (over prefix old) (length prefix) (rw (over-length prefix old (omega arith)) fits)
      ∙ ap (λ (l : List ℕ). (l ++ es) ++ drop (length prefix + length es) (over prefix old)) (take_at prefix (drop (length prefix) old) (length prefix) refl)
      ∙ ap (λ (l : List ℕ). (prefix ++ es) ++ l) rest-left
      ∙ ap (λ (k : ℕ). (prefix ++ es) ++ drop k old) (sym (length-append prefix es))

-- one answer more
lay-more : (prefix old : List ℕ) (n : Numbers) → length prefix + 3 ≤ length old → laid_at (over prefix old) (length prefix) n ≡ over (prefix ++ three n) old
lay-more prefix old n fits =
    let e1 : length prefix + 1 ≡ suc (length prefix) = omega arith in
    let e2 : length prefix + 2 ≡ suc (suc (length prefix)) = omega arith in
    rw (e1, e2) (sets_over prefix (three n) old fits)

-- ---- the loop

abbrev ends : List Action → ℕ → Decoded
ends actions stop = record { actions = actions; stop = stop }

-- actions before others
abbrev actions_first : List Action → Decoded → Decoded
actions_first done d = ends (done ++ d.actions) d.stop

-- at place `at`, with `made` actions made: the ring r0 has become r, the buffer buffer0 has become buffer, and what is left of the bytes is what is
-- left to do
pub record Progress (r0 : State) (bytes buffer0 : List ℕ) (r : State) (buffer : List ℕ) (at made : ℕ) : Type 0 where
  pub done : List Action
  pub state : r ≡ state_after r0 done
  pub answers : buffer ≡ over (laid (answers_of r0 done)) buffer0
  pub count : made ≡ length done
  pub rest : decoded bytes ≡ actions_first done (decoded_from bytes at)

pub start : (r : State) (bytes buffer : List ℕ) → Progress r bytes buffer r buffer 0 0
start r bytes buffer =
    record { done = []; state = refl; answers = refl; count = refl; rest = refl }

module _ {r0 : State} {bytes buffer0 : List ℕ} {r : State} {buffer : List ℕ} {at made : ℕ} (p : Progress r0 bytes buffer0 r buffer at made) where
  pub shaped : Reached r0 → in_shape r ≡ true
  shaped h = rw p.state (reached-shape r0 h p.done)

  -- the buffer as long as it was, and where the next answer goes
  prefix-length : length (laid (answers_of r0 p.done)) ≡ numbers_per_answer * made
  prefix-length = laid-length r0 p.done ∙ ap (λ (k : ℕ). numbers_per_answer * k) (sym p.count)

  -- the actions are those made and those left
  counted : length (decoded bytes).actions ≡ made + length (decoded_from bytes at).actions
  counted =
      ap (λ (d : Decoded). length d.actions) p.rest
      ∙ length-append p.done (decoded_from bytes at).actions
      ∙ ap (λ (k : ℕ). k + length (decoded_from bytes at).actions) (sym p.count)

  pub one_left : {a : Action} {to : ℕ} → coded_at bytes at ≡ Whole a to → made + 1 ≤ length (decoded bytes).actions
  one_left coded =
      let n = counted in
      let some = ap (λ (d : Decoded). length d.actions) (decoded-whole bytes at coded) in
      omega arith

  pub buffer-length : numbers_per_answer * length (decoded bytes).actions ≤ length buffer0 → length buffer ≡ length buffer0
  buffer-length fits =
      let n = prefix-length in
      let m = counted in
      ap length p.answers ∙ over-length (laid (answers_of r0 p.done)) buffer0 (omega arith)

  pub turn :
      {a : Action} {to : ℕ} {r' : State} {buffer' : List ℕ} →
      numbers_per_answer * length (decoded bytes).actions ≤ length buffer0 →
      coded_at bytes at ≡ Whole a to →
      r' ≡ (act r a).state →
      buffer' ≡ laid_at buffer (numbers_per_answer * made) (numbers_of (act r a).answer) →
      Progress r0 bytes buffer0 r' buffer' to (made + 1)
  turn {a} {to} {r'} {buffer'} fits coded acts lays =
      let so_far = p.done in
      let prefix = laid (answers_of r0 so_far) in
      let here = (act (state_after r0 so_far) a).answer in
      let number : numbers_of (act r a).answer ≡ numbers_of here = ap (λ (q : State). numbers_of (act q a).answer) p.state in
      let long = prefix-length in
      let left = one_left coded in
      record {
        done = so_far ++ one a;
        state = acts ∙ ap (λ (q : State). (act q a).state) p.state ∙ sym (after_more r0 so_far a);
        answers =
            lays
            ∙ ap (λ (l : List ℕ). laid_at l (numbers_per_answer * made) (numbers_of (act r a).answer)) p.answers
            ∙ ap (λ (k : ℕ). laid_at (over prefix buffer0) k (numbers_of (act r a).answer)) (sym long)
            ∙ ap (λ (n : Numbers). laid_at (over prefix buffer0) (length prefix) n) number
            ∙ lay-more prefix buffer0 (numbers_of here) (omega arith)
            ∙ ap (λ (l : List ℕ). over l buffer0) (sym (laid_more (answers_of r0 so_far) here) ∙ ap laid (sym (answers-more r0 so_far a)));
        count = ap (λ (k : ℕ). k + 1) p.count ∙ sym (length-append so_far (one a));
        rest =
            p.rest
            ∙ ap (actions_first so_far) (decoded-whole bytes at coded)
            ∙ ap (λ (l : List Action). ends l (decoded_from bytes to).stop) (sym (append_snoc so_far a (decoded_from bytes to).actions));
      }

  -- where no whole action stands
  pub finish : decoded_from bytes at ≡ stopped at → (replay_with r Accepted made at ≡ ran r0 (decoded bytes)) × (buffer ≡ ran_buffer r0 (decoded bytes) buffer0)
  finish e =
      let whole : decoded bytes ≡ ends p.done at =
      p.rest ∙ ap (actions_first p.done) e ∙ ap (λ (l : List Action). ends l at) (append-nil p.done) in
      subst (λ (d : Decoded). (replay_with r Accepted made at ≡ ran r0 d) × (buffer ≡ ran_buffer r0 d buffer0)) (sym whole) (
        ap (λ (q : State). replay_with q Accepted made at) p.state ∙ ap (λ (k : ℕ). replay_with (state_after r0 p.done) Accepted k at) p.count,
        p.answers,
      )
