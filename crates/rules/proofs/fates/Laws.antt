-- Writers before their reservation, own writers and droppers, place by place: one writer, one reading or one dropper more, and all readings committed.
-- Assumes nothing.
use mathlib.Core.Path.{◌≡◌, sym, ap, ◌∙◌}
use mathlib.Core.List.{List, [], ◌∷◌, ◌++◌}
use Prim.Native.Nat.{ℕ, ◌+◌, ◌≤◌, ◌<◌}
use native.Mathlib.Omega.{arith}
use lib.ListN.{length, length-append, get_or-append}
use lib.Seq.{get_or_at, get_or-append_seam}
use Rattle.rules.specs.Remember.{BegunWriter, Numbered, unbegun}
use Rattle.rules.specs.History.{all_committed}
use Rattle.rules.proofs.Lists.{by-eq, by-lt}
use Rattle.rules.proofs.invariant.Accounts.{nth_reading, worker_at}
use Rattle.rules.proofs.invariant.Fates.{Early, Owner, Dropper}
use Rattle.rules.proofs.accounts.Readings.{nth_reading-before, nth_reading-last, all_committed-own}

-- the functions agree below d
abbrev pub Agree : {A : Type 0} → ℕ → (ℕ → A) → (ℕ → A) → Type 0
Agree d f g = (i : ℕ) → i < d → f i ≡ g i

pub agree-back : {A : Type 0} {d : ℕ} {f g : ℕ → A} → Agree d f g → Agree d g f
agree-back same i h = sym (same i h)

-- ---- writers before their reservation

-- the places below d keep their records and their writers
pub early-map : {E F : ℕ → ℕ} {d e : ℕ} {ws vs : List BegunWriter} {writer : ℕ} → d ≤ e → Agree d E F → Agree d (worker_at ws) (worker_at vs) → Early E d ws writer → Early F e vs writer
early-map le records workers y =
    record {
      i = y.i;
      below = omega arith;
      before = sym (records y.i y.below) ∙ y.before;
      is = ap (λ (w : BegunWriter). w.nth) (sym (workers y.i y.below)) ∙ y.is;
    }

-- it is the writer of the record at e, the top, or one below
pub early-cases : {P : Type 0} {E : ℕ → ℕ} {d : ℕ} {ws : List BegunWriter} {writer : ℕ} (e : ℕ) → d ≤ e + 1 → Early E d ws writer
    → (E e ≡ 1 → (worker_at ws e).nth ≡ writer → P) → (Early E e ws writer → P) → P
early-cases e le y top below =
    by-eq y.i e
    (λ q. top (rw (← q) y.before) (rw (← q) y.is))
    (λ n. below (record { i = y.i; below = omega arith; before = y.before; is = y.is }))

-- ---- one reading more

module _ (rs : List Numbered) (q : Numbered) (taken : ℕ) (size : length rs ≡ taken) where
  owner-before : (m : ℕ) → m < taken → (nth_reading (rs ++ (q ∷ [])) m).own.nth ≡ (nth_reading rs m).own.nth
  owner-before m h = ap (λ (r : Numbered). r.own.nth) (nth_reading-before rs q m (omega arith))

  owner-last : (m : ℕ) → taken ≤ m → m < taken + 1 → (nth_reading (rs ++ (q ∷ [])) m).own.nth ≡ q.own.nth
  owner-last m lo hi = ap (λ (r : Numbered). r.own.nth) (nth_reading-last rs q m (omega arith))

  pub owner-new : Owner (rs ++ (q ∷ [])) (taken + 1) q.own.nth
  owner-new = record { number = taken; below = omega arith; is = owner-last taken (omega arith) (omega arith) }

  pub owner-more : {writer : ℕ} → Owner rs taken writer → Owner (rs ++ (q ∷ [])) (taken + 1) writer
  owner-more o = record { number = o.number; below = omega arith; is = owner-before o.number o.below ∙ o.is }

  pub owner-cases : {P : Type 0} {writer : ℕ} → Owner (rs ++ (q ∷ [])) (taken + 1) writer → (Owner rs taken writer → P) → (q.own.nth ≡ writer → P) → P
  owner-cases o old new =
      by-lt o.number taken
      (λ lt. old (record { number = o.number; below = lt; is = sym (owner-before o.number lt) ∙ o.is }))
      (λ ge. new (sym (owner-last o.number ge o.below) ∙ o.is))

  pub owners-known : (begins : ℕ) → ((m : ℕ) → m < taken → (nth_reading rs m).own.nth < begins) → q.own.nth < begins
      → (m : ℕ) → m < taken + 1 → (nth_reading (rs ++ (q ∷ [])) m).own.nth < begins
  owners-known begins known new m h = by-lt m taken (λ lt. rw (owner-before m lt) (known m lt)) (λ ge. rw (owner-last m ge h) new)

  -- a new own writer is the own writer of no earlier reading
  pub owners-once : ((m n : ℕ) → m < taken → n < taken → (nth_reading rs m).own.nth ≡ (nth_reading rs n).own.nth → m ≡ n) → ¬ Owner rs taken q.own.nth
      → (m n : ℕ) → m < taken + 1 → n < taken + 1 → (nth_reading (rs ++ (q ∷ [])) m).own.nth ≡ (nth_reading (rs ++ (q ∷ [])) n).own.nth → m ≡ n
  owners-once once fresh m n hm hn e =
      by-lt m taken
      (λ lm. by-lt n taken
      (λ ln. once m n lm ln (sym (owner-before m lm) ∙ e ∙ owner-before n ln))
      (λ gn. absurd (fresh (record { number = m; below = lm; is = sym (owner-before m lm) ∙ e ∙ owner-last n gn hn }))))
      (λ gm. by-lt n taken
      (λ ln. absurd (fresh (record { number = n; below = ln; is = sym (owner-before n ln) ∙ sym e ∙ owner-last m gm hm })))
      (λ gn. omega arith))

-- ---- all readings committed

pub committed-own : (rs : List Numbered) (m : ℕ) → (nth_reading (all_committed rs) m).own.nth ≡ (nth_reading rs m).own.nth
committed-own rs m = ap (λ (w : BegunWriter). w.nth) (all_committed-own rs m)

pub owner-committed : (rs : List Numbered) {taken writer : ℕ} → Owner rs taken writer → Owner (all_committed rs) taken writer
owner-committed rs o = record { number = o.number; below = o.below; is = committed-own rs o.number ∙ o.is }

pub committed-owner : (rs : List Numbered) {taken writer : ℕ} → Owner (all_committed rs) taken writer → Owner rs taken writer
committed-owner rs o = record { number = o.number; below = o.below; is = sym (committed-own rs o.number) ∙ o.is }

-- ---- one dropper more

module _ (droppers : List BegunWriter) (x : BegunWriter) where
  pub dropper-more : {writer : ℕ} → Dropper droppers writer → Dropper (droppers ++ (x ∷ [])) writer
  dropper-more o =
      record {
        k = o.k;
        below = simp length-append (omega arith);
        is = ap (λ (w : BegunWriter). w.nth) (get_or-append droppers (x ∷ []) unbegun o.k o.below) ∙ o.is;
      }

  pub dropper-new : Dropper (droppers ++ (x ∷ [])) x.nth
  dropper-new =
      record {
        k = length droppers;
        below = simp length-append (omega arith);
        is = ap (λ (w : BegunWriter). w.nth) (get_or-append_seam droppers x [] unbegun);
      }

  pub dropper-cases : {P : Type 0} {writer : ℕ} → Dropper (droppers ++ (x ∷ [])) writer → (x.nth ≡ writer → P) → (Dropper droppers writer → P) → P
  dropper-cases o new old =
      by-lt o.k (length droppers)
      (λ lt.
      let same = get_or-append droppers (x ∷ []) unbegun o.k lt in
      old (record { k = o.k; below = lt; is = ap (λ (w : BegunWriter). w.nth) (sym same) ∙ o.is }))
      (λ ge.
      let size : length droppers ≡ o.k = omega (arith, length-append droppers (x ∷ []), o.below) in
      new (ap (λ (w : BegunWriter). w.nth) (sym (get_or_at droppers x [] unbegun o.k size)) ∙ o.is))
