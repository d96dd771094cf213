-- The fates of the writers are kept by each step that changes them: readings committed, and a writer that begins, reserves, ends or is dropped. Shown place by place: the
-- i-th writer at work is the i-th record's. E and F tell which records are before their reservation, before and after the step.
-- Assumes nothing.
use mathlib.Core.Path.{◌≡◌, refl, sym, ap, ◌∙◌}
use mathlib.Core.Logic.{◌⊎◌, inl, inr, ⊎_elim}
use mathlib.Core.Bool.{false}
use mathlib.Core.List.{List, [], ◌∷◌, ◌++◌}
use Prim.Native.Nat.{ℕ, ◌+◌, ◌-◌, ◌≤◌, ◌<◌}
use native.Mathlib.Omega.{arith}
use lib.ListN.{length, length-append}
use Rattle.rules.specs.Remember.{BegunWriter, Numbered, begun_writer, numbered}
use Rattle.rules.specs.History.{latest, others, all_committed}
use Rattle.rules.proofs.Lists.{by-eq, by-lt}
use Rattle.rules.proofs.invariant.Accounts.{worker_at}
use Rattle.rules.proofs.invariant.Fates.{Early, Owner, Dropper, Fates}
use Rattle.rules.proofs.accounts.Readings.{length-all_committed}
use Rattle.rules.proofs.accounts.Working.{begun-length, begun-old, begun-new, latest-at, others-length, others-at}
use Rattle.rules.proofs.fates.Laws.{Agree, agree-back, early-map, early-cases, owner-new, owner-more, owner-cases, owners-known, owners-once, committed-own, owner-committed, committed-owner, dropper-more, dropper-new, dropper-cases}

-- ---- no writer begins

by-fate : {P A B C : Type 0} → (A → P) → (B → P) → (C → P) → A ⊎ (B ⊎ C) → P
by-fate owner dropper waiter f = ⊎_elim owner (λ g. ⊎_elim dropper waiter g) f

module _ {begins : ℕ} {working : List BegunWriter} {readings : List Numbered} {droppers : List BegunWriter} {E : ℕ → ℕ} {depth taken dropped begun : ℕ}
    (k : Fates begins working readings droppers E depth taken dropped begun) where
  -- the places below e keep their writers
  known-below : (vs : List BegunWriter) (e : ℕ) → e ≤ depth → Agree e (worker_at working) (worker_at vs) → (i : ℕ) → i < e → (worker_at vs i).nth < begins
  known-below vs e le workers i h = rw (← workers i h) (k.workers_known i (omega arith))

  rise-below : (vs : List BegunWriter) (e : ℕ) → e ≤ depth → Agree e (worker_at working) (worker_at vs) → (i j : ℕ) → i < j → j < e → (worker_at vs i).nth < (worker_at vs j).nth
  rise-below vs e le workers i j h l = rw (← workers i (omega arith), ← workers j l) (k.workers_rise i j h (omega arith))

  -- and no writer before its reservation is left out
  fates-below : {F : ℕ → ℕ} (vs : List BegunWriter) (e : ℕ) → length vs ≡ e → e ≤ depth → Agree e E F → Agree e (worker_at working) (worker_at vs)
      → ((writer : ℕ) → Early E depth working writer → Early F e vs writer) → Fates begins vs readings droppers F e taken dropped begun
  fates-below {F} vs e size le records workers stay =
      let back : (writer : ℕ) → Early F e vs writer → Early E depth working writer = λ writer. early-map le (agree-back records) (agree-back workers) in
      record {
        begun_is = k.begun_is;
        dropped_is = k.dropped_is;
        taken_is = k.taken_is;
        working_is = size;
        workers_known = known-below vs e le workers;
        workers_rise = rise-below vs e le workers;
        owners_known = k.owners_known;
        owners_once = k.owners_once;
        droppers_known = k.droppers_known;
        droppers_free = k.droppers_free;
        early_free = λ writer y. k.early_free writer (back writer y);
        droppers_ended = λ writer o y. k.droppers_ended writer o (back writer y);
        fate = λ writer h. by-fate inl (λ o. inr (inl o)) (λ y. inr (inr (stay writer y))) (k.fate writer h);
      }

  pub fates-same : {F : ℕ → ℕ} → Agree depth E F → Fates begins working readings droppers F depth taken dropped begun
  fates-same same = fates-below working depth k.working_is (omega arith) same (λ i h. refl) (λ writer. early-map (omega arith) same (λ i h. refl))

  pub fates-committed : Fates begins working (all_committed readings) droppers E depth taken dropped begun
  fates-committed =
      record {
        begun_is = k.begun_is;
        dropped_is = k.dropped_is;
        taken_is = length-all_committed readings ∙ k.taken_is;
        working_is = k.working_is;
        workers_known = k.workers_known;
        workers_rise = k.workers_rise;
        owners_known = λ m h. rw (committed-own readings m) (k.owners_known m h);
        owners_once = λ m n hm hn e. k.owners_once m n hm hn (sym (committed-own readings m) ∙ e ∙ committed-own readings n);
        droppers_known = k.droppers_known;
        droppers_free = λ writer d o. k.droppers_free writer d (committed-owner readings o);
        early_free = λ writer y o. k.early_free writer y (committed-owner readings o);
        droppers_ended = k.droppers_ended;
        fate = λ writer h. by-fate (λ o. inl (owner-committed readings o)) (λ o. inr (inl o)) (λ y. inr (inr y)) (k.fate writer h);
      }

-- ---- a writer begins

abbrev and_new : List BegunWriter → ℕ → ℕ → List BegunWriter
and_new working nth v = working ++ (begun_writer nth v ∷ [])

module _ {begins : ℕ} {working : List BegunWriter} {readings : List Numbered} {droppers : List BegunWriter} {E F : ℕ → ℕ} {depth taken dropped begun : ℕ}
    (k : Fates begins working readings droppers E depth taken dropped begun) (v : ℕ) (same : Agree depth E F) (new : F depth ≡ 1) where
  worker-before : Agree depth (worker_at working) (worker_at (and_new working begins v))
  worker-before i h = sym (begun-old working k.working_is _ i h)

  worker-last : (i : ℕ) → depth ≤ i → i < depth + 1 → (worker_at (and_new working begins v) i).nth ≡ begins
  worker-last i lo hi =
      let e : i ≡ depth = omega arith in
      rw e (ap (λ (w : BegunWriter). w.nth) (begun-new working k.working_is _))

  workers-known : (i : ℕ) → i < depth + 1 → (worker_at (and_new working begins v) i).nth < begins + 1
  workers-known i h =
      by-lt i depth (λ lt. rw (← worker-before i lt) (omega (arith, k.workers_known i lt))) (λ ge. rw (worker-last i ge h) (omega arith))

  workers-rise : (i j : ℕ) → i < j → j < depth + 1 → (worker_at (and_new working begins v) i).nth < (worker_at (and_new working begins v) j).nth
  workers-rise i j h l =
      let lt : i < depth = omega arith in
      by-lt j depth
      (λ le. rw (← worker-before i lt, ← worker-before j le) (k.workers_rise i j h le))
      (λ ge. rw (← worker-before i lt, worker-last j ge l) (k.workers_known i lt))

  -- it alone is new among those before their reservation
  begun-early : Early F (depth + 1) (and_new working begins v) begins
  begun-early = record { i = depth; below = omega arith; before = new; is = worker-last depth (omega arith) (omega arith) }

  begun-cases : {P : Type 0} {writer : ℕ} → Early F (depth + 1) (and_new working begins v) writer → (begins ≡ writer → P) → (Early E depth working writer → P) → P
  begun-cases y last before =
      early-cases depth (omega arith) y
      (λ one e. last (sym (worker-last depth (omega arith) (omega arith)) ∙ e))
      (λ low. before (early-map (omega arith) (agree-back same) (agree-back worker-before) low))

  begun-fate : (writer : ℕ) → writer < begins + 1 → Owner readings taken writer ⊎ (Dropper droppers writer ⊎ Early F (depth + 1) (and_new working begins v) writer)
  begun-fate writer h =
      by-eq begins writer
      (λ e. inr (inr (rw (← e) begun-early)))
      (λ n. by-fate inl (λ o. inr (inl o)) (λ y. inr (inr (early-map (omega arith) same worker-before y))) (k.fate writer (omega arith)))

  pub fates-begun : Fates (begins + 1) (working ++ (begun_writer begins v ∷ [])) readings droppers F (depth + 1) taken dropped (begun + 1)
  fates-begun =
      record {
        begun_is = omega arith;
        dropped_is = k.dropped_is;
        taken_is = k.taken_is;
        working_is = begun-length working k.working_is _;
        workers_known = workers-known;
        workers_rise = workers-rise;
        owners_known = λ m h. omega (arith, k.owners_known m h);
        owners_once = k.owners_once;
        droppers_known = λ writer o. omega (arith, k.droppers_known writer o);
        droppers_free = k.droppers_free;
        early_free = λ writer y o. begun-cases y (λ e. omega (arith, k.owners_known o.number o.below, o.is)) (λ z. k.early_free writer z o);
        droppers_ended = λ writer o y. begun-cases y (λ e. omega (arith, k.droppers_known writer o)) (k.droppers_ended writer o);
        fate = begun-fate;
      }

-- ---- the latest writer, the top record's

module _ {begins : ℕ} {working : List BegunWriter} {readings : List Numbered} {droppers : List BegunWriter} {E F : ℕ → ℕ} {depth taken dropped begun : ℕ}
    (k : Fates begins working readings droppers E depth taken dropped begun) (some : 1 ≤ depth) (same : Agree (depth - 1) E F) where
  latest-top : worker_at working (depth - 1) ≡ latest working
  latest-top = sym (latest-at working k.working_is)

  latest-known : (latest working).nth < begins
  latest-known = rw (← latest-top) (k.workers_known (depth - 1) (omega arith))

  latest-early : E (depth - 1) ≡ 1 → Early E depth working (latest working).nth
  latest-early one = record { i = depth - 1; below = omega arith; before = one; is = rw latest-top refl }

  -- one before its reservation is the latest, or stands below it
  latest-cases : {P : Type 0} {writer : ℕ} → Early E depth working writer → (E (depth - 1) ≡ 1 → (latest working).nth ≡ writer → P) → (Early F (depth - 1) working writer → P) → P
  latest-cases y top below =
      early-cases (depth - 1) (omega arith) y (λ one e. top one (rw (← latest-top) e)) (λ z. below (early-map (omega arith) same (λ i h. refl) z))

  below-early : {writer : ℕ} → Early F (depth - 1) working writer → Early E depth working writer
  below-early = early-map (omega arith) (agree-back same) (λ i h. refl)

  below-lower : {writer : ℕ} → Early F (depth - 1) working writer → writer < (latest working).nth
  below-lower y = rw (← latest-top, ← y.is) (k.workers_rise y.i (depth - 1) y.below (omega arith))

  -- ---- it reserves a number

  reserved-early : {writer : ℕ} → F (depth - 1) ≡ 0 → Early F depth working writer → Early F (depth - 1) working writer
  reserved-early now y = early-cases (depth - 1) (omega arith) y (λ one e. absurd (omega arith)) (λ z. z)

  pub fates-reserved : (m : ℕ) → E (depth - 1) ≡ 1 → F (depth - 1) ≡ 0
      → Fates begins working (readings ++ (numbered m (latest working) false ∷ [])) droppers F depth (taken + 1) dropped begun
  fates-reserved m one now =
      let q : Numbered = numbered m (latest working) false in
      let size = k.taken_is in
      record {
        begun_is = k.begun_is;
        dropped_is = k.dropped_is;
        taken_is = simp length-append (omega arith);
        working_is = k.working_is;
        workers_known = k.workers_known;
        workers_rise = k.workers_rise;
        owners_known = owners-known readings q taken size begins k.owners_known latest-known;
        owners_once = owners-once readings q taken size k.owners_once (k.early_free (latest working).nth (latest-early one));
        droppers_known = k.droppers_known;
        droppers_free = λ writer d o. owner-cases readings q taken size o (k.droppers_free writer d) (λ e. k.droppers_ended writer d (rw (← e) (latest-early one)));
        early_free = λ writer y o.
            let z = reserved-early now y in
            owner-cases readings q taken size o (k.early_free writer (below-early z)) (λ e. omega (arith, below-lower z));
        droppers_ended = λ writer d y. k.droppers_ended writer d (below-early (reserved-early now y));
        fate = λ writer h.
            by-fate (λ o. inl (owner-more readings q taken size o)) (λ d. inr (inl d))
            (λ y. latest-cases y (λ was e. inl (rw (← e) (owner-new readings q taken size))) (λ z. inr (inr (early-map (omega arith) (λ i h. refl) (λ i h. refl) z))))
            (k.fate writer h);
      }

  -- ---- its work ends

  others_below : Agree (depth - 1) (worker_at working) (worker_at (others working))
  others_below i h = sym (others-at working k.working_is i h)

  below-others : {writer : ℕ} → Early F (depth - 1) working writer → Early F (depth - 1) (others working) writer
  below-others = early-map (omega arith) (λ i h. refl) others_below

  others-early : {writer : ℕ} → Early F (depth - 1) (others working) writer → Early F (depth - 1) working writer
  others-early = early-map (omega arith) (λ i h. refl) (agree-back others_below)

  -- it has its reading
  pub fates-ended : E (depth - 1) ≡ 0 → Fates begins (others working) readings droppers F (depth - 1) taken dropped begun
  fates-ended past =
      fates-below k (others working) (depth - 1) (others-length working k.working_is some) (omega arith) same others_below
      (λ writer y. latest-cases y (λ one e. absurd (omega arith)) below-others)

  -- it is before its reservation
  pub fates-dropped : E (depth - 1) ≡ 1 → Fates begins (others working) readings (droppers ++ (latest working ∷ [])) F (depth - 1) taken (dropped + 1) begun
  fates-dropped one =
      record {
        begun_is = k.begun_is;
        dropped_is = simp length-append (omega (arith, k.dropped_is));
        taken_is = k.taken_is;
        working_is = others-length working k.working_is some;
        workers_known = known-below k (others working) (depth - 1) (omega arith) others_below;
        workers_rise = rise-below k (others working) (depth - 1) (omega arith) others_below;
        owners_known = k.owners_known;
        owners_once = k.owners_once;
        droppers_known = λ writer o. dropper-cases droppers (latest working) o (λ e. rw (← e) latest-known) (k.droppers_known writer);
        droppers_free = λ writer o. dropper-cases droppers (latest working) o (λ e. rw (← e) (k.early_free (latest working).nth (latest-early one))) (k.droppers_free writer);
        early_free = λ writer y. k.early_free writer (below-early (others-early y));
        droppers_ended = λ writer o y.
            let z = others-early y in
            dropper-cases droppers (latest working) o (λ e. omega (arith, below-lower z)) (λ old. k.droppers_ended writer old (below-early z));
        fate = λ writer h.
            by-fate inl (λ o. inr (inl (dropper-more droppers (latest working) o)))
            (λ y. latest-cases y (λ was e. inr (inl (rw (← e) (dropper-new droppers (latest working))))) (λ z. inr (inr (below-others z))))
            (k.fate writer h);
      }
