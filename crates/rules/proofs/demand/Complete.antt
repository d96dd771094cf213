-- The receipt says complete exactly when every reading begun has been handed out. Each writer has one fate: while begun = handed, no writer was dropped and none is before
-- its reservation, so each is the own writer of a reading, and each reading was handed out; and the other way round.
-- Assumes nothing.
use mathlib.Core.Path.{◌≡◌, refl, sym, ◌∙◌}
use mathlib.Core.Logic.{◌≢◌, ◌⊎◌, inl, inr, ⊎_elim}
use mathlib.Core.List.{List}
use Prim.Native.Nat.{ℕ, zero, suc, ◌+◌, ◌≤◌, ◌<◌}
use native.Mathlib.Omega.{arith}
use borrow.Author.Tests.{eqb-true, eq-eqb}
use Rattle.rules.specs.Receipt.{receipt_of}
use Rattle.rules.specs.Remember.{History}
use Rattle.rules.specs.History.{Run, run_at}
use Rattle.rules.specs.Demand.{HandedOut, Claim, HandedOutOf, AllHandedOut, CompleteClaim}
use Rattle.rules.specs.State.{State}
use Rattle.rules.specs.declared.state.WriterPhase.{WriterPhase}
use Rattle.rules.specs.declared.state.WriterPhase.TheVariants as phase
use Rattle.rules.specs.declared.state.Writer.{Writer}
use Rattle.rules.proofs.Lists.{by-eq}
use Rattle.rules.proofs.invariant.Order.{phase_at}
use Rattle.rules.proofs.invariant.Accounts.{nth_reading, Ordered, early, earlies, worker_at}
use Rattle.rules.proofs.invariant.Fates.{Early, Owner, Dropper, FatesOf}
use Rattle.rules.proofs.demand.Counting.{count-once, count-le, count-full, count-all}

-- ---- records before their reservation

early-two : (ph : WriterPhase) → (early ph ≡ 0) ⊎ (early ph ≡ 1)
early-two phase.Want = inr refl
early-two (phase.Mark t n) = inr refl
early-two (phase.Promote t n own) = inr refl
early-two (phase.Clear t n) = inr refl
early-two (phase.Push t n) = inr refl
early-two (phase.Held p slot) = inl refl
early-two phase.Filled = inl refl

-- how many there are: at least one where one is, and none where none is
earlies-some : (stack : List Writer) (depth i : ℕ) → i < depth → early (phase_at stack i) ≡ 1 → 1 ≤ earlies stack depth
earlies-some stack zero i l one = absurd (omega arith)
earlies-some stack (suc depth) i l one =
    by-eq i depth
    (λ e. let top : early (phase_at stack depth) ≡ 1 = rw (← e) one in omega arith)
    (λ n. omega (arith, earlies-some stack depth i (omega arith) one))

earlies-none : (stack : List Writer) (depth : ℕ) → ((i : ℕ) → i < depth → early (phase_at stack i) ≢ 1) → earlies stack depth ≡ 0
earlies-none stack zero never = refl
earlies-none stack (suc depth) never =
    let rest = earlies-none stack depth (λ i l. never i (omega arith)) in
    ⊎_elim (λ z. omega arith) (λ one. absurd (never depth (omega arith) one)) (early-two (phase_at stack depth))

module _ (s : State) (h : History) (k : FatesOf s h) (o : Ordered h.readings s.counts.taken s.counts.committed)
    (balance : s.counts.begun ≡ s.counts.taken + s.counts.dropped + earlies s.stack s.depth)
    (claim : Claim (receipt_of s.counts) (run_at s h)) where
  abbrev run : Run
  run = run_at s h

  abbrev EarlyNow : ℕ → Type 0
  EarlyNow = Early (λ i. early (phase_at s.stack i)) s.depth h.working

  -- ---- begun = handed: each reading begun was handed out

  module _ (equal : s.counts.begun ≡ s.counts.handed) where
    no-dropper : (writer : ℕ) → ¬ Dropper h.droppers writer
    no-dropper writer d = omega (arith, count-le claim.handed_count, k.dropped_is, d.below)

    no-early : (writer : ℕ) → ¬ EarlyNow writer
    no-early writer y = omega (arith, count-le claim.handed_count, earlies-some s.stack s.depth y.i y.below y.before)

    all-handed : (m : ℕ) → m < s.counts.taken → HandedOut run m
    all-handed = count-all claim.handed_count (omega (arith, count-le claim.handed_count))

    owner-given : (writer : ℕ) → Owner h.readings s.counts.taken writer → HandedOutOf run writer
    owner-given writer w =
        record {
          number = w.number;
          reserved = w.number;
          numbered = record { below = omega (arith, o.size, w.below); gave = o.nth w.number w.below };
          own = w.is;
          given = all-handed w.number w.below;
        }

    all-given : AllHandedOut run
    all-given writer known =
        ⊎_elim (owner-given writer) (λ f. absurd (⊎_elim (no-dropper writer) (no-early writer) f)) (k.fate writer known)

  -- ---- each reading begun was handed out: begun = handed

  module _ (all : AllHandedOut run) where
    owned : (writer : ℕ) → writer < h.begins → Owner h.readings s.counts.taken writer
    owned writer known =
        let g = all writer known in
        record { number = g.reserved; below = omega (arith, g.numbered.below, o.size); is = g.own }

    not-dropped : (writer : ℕ) → ¬ Dropper h.droppers writer
    not-dropped writer d = k.droppers_free writer d (owned writer (k.droppers_known writer d))

    none_dropped : s.counts.dropped ≡ 0
    none_dropped =
        by-eq s.counts.dropped 0 (λ e. e)
        (λ n. absurd (not-dropped (worker_at h.droppers 0).nth (record { k = 0; below = omega (arith, k.dropped_is); is = refl })))

    none-early : earlies s.stack s.depth ≡ 0
    none-early =
        earlies-none s.stack s.depth
        (λ i l e.
        let writer = (worker_at h.working i).nth in
        k.early_free writer (record { i = i; below = l; before = e; is = refl }) (owned writer (k.workers_known i l)))

    each-handed : (m : ℕ) → m < s.counts.taken → HandedOut run m
    each-handed m l =
        let g = all (nth_reading h.readings m).own.nth (k.owners_known m l) in
        let below : g.reserved < s.counts.taken = omega (arith, g.numbered.below, o.size) in
        let same : g.reserved ≡ m = k.owners_once g.reserved m below l g.own in
        let number : g.number ≡ m = sym g.numbered.gave ∙ o.nth g.reserved below ∙ same in
        rw number at g.given

    equal-counts : s.counts.begun ≡ s.counts.handed
    equal-counts = omega (arith, count-once claim.handed_count (count-full s.counts.taken each-handed), none_dropped, none-early)

  pub complete : CompleteClaim (receipt_of s.counts) run
  complete =
      record {
        says = λ e. all-given (eqb-true s.counts.begun s.counts.handed e);
        only = λ all. eq-eqb s.counts.begun s.counts.handed (equal-counts all);
      }
