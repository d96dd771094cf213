-- Demand 1: on every state an action and a receipt are refused just as listed, and so is every set-up. The rules of Write and Read answer no refusal,
-- by a look at each rule that may apply; so an action is refused only by its verdict, whose tests are those of the table. And of a ring in shape none
-- is refused with 1.
-- Assumes nothing.
use mathlib.Core.Path.{◌≡◌, refl, sym, ◌∙◌}
use mathlib.Core.Logic.{◌≢◌}
use mathlib.Core.Bool.{true}
use Prim.Native.Nat.{ℕ}
use native.Mathlib.Omega.{arith}
use lib.Dec.{eqb, ltb}
use Rattle.std.specs.Prelude.{Option, Some, None}
use Rattle.rules.specs.Limits.{most_depth, most_count, header_flag}
use Rattle.rules.specs.State.{size_of, State}
use Rattle.rules.specs.Words.{reader_on_commit, links, find_header}
use Rattle.rules.specs.Shape.{size_fits, in_shape}
use Rattle.rules.specs.Write.{plan_write, moved}
use Rattle.rules.specs.Read.{read_limit, find_by, plan_reader, plan_read, fetched}
use Rattle.rules.specs.Act.{act}
use Rattle.rules.specs.Listed.{listed, AsListed, SetUpAsListed, Demand1}
use Rattle.rules.specs.Demand.{Sound}
use Rattle.rules.specs.declared.state.PageNo.{PageNo}
use Rattle.rules.specs.declared.state.ReaderPhase.{ReaderPhase}
use Rattle.rules.specs.declared.state.ReaderPhase.TheVariants as reading
use Rattle.rules.specs.declared.state.Action.{Action}
use Rattle.rules.specs.declared.state.Action.TheVariants as action
use Rattle.rules.specs.declared.moves.Move.{Move}
use Rattle.rules.specs.declared.moves.Fetch.{Fetch}
use Rattle.rules.proofs.Lists.{by_bool, by_cond}
use Rattle.rules.proofs.write.Moves.{Moves, of-planned}

-- ---- what an allowed Write or Read answers

module _ (s : State) where
  abbrev MoveUnrefused : Move → Type 0
  MoveUnrefused m = (moved m s).tells.refusal ≡ 0

  moves-unrefused : Moves MoveUnrefused s.depth
  moves-unrefused =
      record {
        looked = λ next. refl;
        shared = λ next. refl;
        retry = λ next. refl;
        standing = λ next. refl;
        cleared = λ next. refl;
        passed = λ next. refl;
        reserve = λ t slot. refl;
        drop = by_cond MoveUnrefused (eqb s.depth 1) (λ e. refl) (λ e. refl);
        mark = λ t n. refl;
        promote = λ n next. refl;
        clear = λ t n. refl;
        push = λ n. refl;
        fill = λ p slot. refl;
        filled = by_cond MoveUnrefused (eqb s.depth 1) (λ e. refl) (λ e. refl);
      }

  write-not-refused : (moved (plan_write s) s).tells.refusal ≡ 0
  write-not-refused = of-planned MoveUnrefused s moves-unrefused

  abbrev FetchUnrefused : Fetch → Type 0
  FetchUnrefused f = (fetched f s).tells.refusal ≡ 0

  found-unrefused : (found : Option (PageNo × PageNo)) → FetchUnrefused (find_by found)
  found-unrefused (Some (p, h)) = refl
  found-unrefused None = refl

  reader-unrefused : (ph : ReaderPhase) → FetchUnrefused (plan_reader ph s.size s.places s.words s.used)
  reader-unrefused reading.Idle =
      by_cond FetchUnrefused (ltb s.places.position (read_limit s.places s.used)) (λ e. refl) (λ e.
      by_cond FetchUnrefused (reader_on_commit s.places) (λ e. refl) (λ e.
      found-unrefused (find_header s.words s.size.pages s.places.reader)))
  reader-unrefused (reading.Found p h) = refl
  reader-unrefused (reading.Ready p h) = by_cond FetchUnrefused (links s.words p h header_flag) (λ e. refl) (λ e. refl)

  read-not-refused : (fetched (plan_read s) s).tells.refusal ≡ 0
  read-not-refused = reader-unrefused s.reader

-- ---- an action, a receipt and a set-up, of any state

module _ (s : State) where
  refusals : (a : Action) → (act s a).tells.refusal ≡ listed s a
  refusals (action.Begin v) =
      by_bool (in_shape s)
      (λ fits.
      by_bool (eqb s.depth most_depth)
      (λ d. rw (fits, d))
      (λ d. by_bool (eqb s.counts.begun most_count) (λ w. rw (fits, d, w)) (λ w. rw (fits, d, w))))
      (λ broken. rw broken)
  refusals action.Write =
      by_bool (in_shape s)
      (λ fits. by_bool (eqb s.depth 0) (λ d. rw (fits, d)) (λ d. rw (fits, d) (write-not-refused s)))
      (λ broken. rw broken)
  refusals action.Read = by_bool (in_shape s) (λ fits. rw fits (read-not-refused s)) (λ broken. rw broken)

  same-state : (a : Action) → listed s a ≢ 0 → (act s a).state ≡ s
  same-state (action.Begin v) =
      by_bool (in_shape s)
      (λ fits.
      by_bool (eqb s.depth most_depth)
      (λ d. rw (fits, d) (λ n. refl))
      (λ d. by_bool (eqb s.counts.begun most_count) (λ w. rw (fits, d, w) (λ n. refl)) (λ w. rw (fits, d, w) (λ n. absurd (n refl)))))
      (λ broken. rw broken (λ n. refl))
  same-state action.Write =
      by_bool (in_shape s)
      (λ fits. by_bool (eqb s.depth 0) (λ d. rw (fits, d) (λ n. refl)) (λ d. rw (fits, d) (λ n. absurd (n refl))))
      (λ broken. rw broken (λ n. refl))
  same-state action.Read = by_bool (in_shape s) (λ fits. rw fits (λ n. absurd (n refl))) (λ broken. rw broken (λ n. refl))

  pub as-listed : AsListed s
  as-listed =
      record {
        refusals = refusals;
        same = same-state;
        receipt = by_bool (in_shape s) (λ fits. rw fits) (λ broken. rw broken);
        zero = by_bool (in_shape s) (λ fits. rw fits (λ n. absurd (n refl))) (λ broken. rw broken (λ n. refl));
      }

  -- ---- of a ring in shape, 1 is not listed

  module _ (fits : in_shape s ≡ true) where
    not-one : (a : Action) → listed s a ≢ 1
    not-one (action.Begin v) =
        by_bool (eqb s.depth most_depth)
        (λ d. rw (fits, d) (λ e. omega arith))
        (λ d. by_bool (eqb s.counts.begun most_count) (λ w. rw (fits, d, w) (λ e. omega arith)) (λ w. rw (fits, d, w) (λ e. omega arith)))
    not-one action.Write = by_bool (eqb s.depth 0) (λ d. rw (fits, d) (λ e. omega arith)) (λ d. rw (fits, d) (λ e. omega arith))
    not-one action.Read = rw fits (λ e. omega arith)

    pub sound : Sound s
    sound =
        record {
          shape = fits;
          unbroken = λ a e. not-one a (sym (refusals a) ∙ e);
          receipt = rw fits;
          listed = as-listed;
        }

set-up-as-listed : (pages slots mode : ℕ) → SetUpAsListed pages slots mode
set-up-as-listed pages slots mode =
    by_bool (size_fits (size_of pages slots mode))
    (λ fits. record { refusal = rw fits; plain = rw fits (λ n. absurd (n refl)) })
    (λ out. record { refusal = rw out; plain = rw out (λ n. refl) })

pub demand-1 : Demand1
demand-1 = record { states = as-listed; set_ups = set-up-as-listed }
