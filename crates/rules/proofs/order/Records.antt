-- Flags and records: one flag changed, one record replaced, and who owns which update mark then.
-- Assumes nothing.
use mathlib.Core.Path.{◌≡◌, refl, sym, ap, ◌∙◌, subst}
use mathlib.Core.Logic.{◌≢◌, ◌⊎◌, ⊎_elim}
use mathlib.Core.Bool.{true, false}
use mathlib.Core.List.{List}
use Prim.Native.Nat.{ℕ, ◌+◌, ◌*◌, ◌%◌, ◌≤◌, ◌<◌}
use native.Mathlib.Omega.{arith}
use lib.ListN.{length, get_or, set, length-set}
use lib.Seq.{get_or-set_same, get_or-set_other}
use Rattle.rules.specs.State.{no_writer}
use Rattle.rules.specs.declared.state.WriterPhase.{WriterPhase}
use Rattle.rules.specs.declared.state.WriterPhase.TheVariants as phase
use Rattle.rules.specs.declared.state.Writer.{Writer}
use Rattle.rules.specs.declared.state.ReaderPhase.{ReaderPhase}
use Rattle.rules.specs.declared.state.ReaderPhase.TheVariants as reading
use Rattle.rules.proofs.Lists.{by-eq}
use Rattle.rules.proofs.invariant.Order.{next_of, flag_of, phase_at, Links}
use Rattle.rules.proofs.invariant.Control.{At, Moving, Marking, RecordOk, Owns, Owners, ReaderOk}

-- ---- one flag changed

pub record Reflag (words words' : List ℕ) (x f : ℕ) : Type 0 where
  pub size : length words' ≡ length words
  pub next : (p : ℕ) → next_of words' p ≡ next_of words p
  pub other : (p : ℕ) → p ≢ x → get_or words' p 0 ≡ get_or words p 0
  pub here : flag_of words' x ≡ f

pub reflag : (words : List ℕ) (x n f : ℕ) → x < length words → f < 4 → next_of words x ≡ n → Reflag words (set words x (4 * n + f)) x f
reflag words x n f hx hf e =
    let new : get_or (set words x (4 * n + f)) x 0 ≡ 4 * n + f = get_or-set_same words x (4 * n + f) 0 hx in
    record {
      size = length-set words x (4 * n + f);
      next = λ p. by-eq p x (λ q. rw q (omega arith)) (λ m. rw (get_or-set_other words x p (4 * n + f) 0 m) refl);
      other = λ p m. get_or-set_other words x p (4 * n + f) 0 m;
      here = omega arith;
    }

module _ {words words' : List ℕ} {x f : ℕ} (r : Reflag words words' x f) where
  -- the flags of other pages stay
  pub flag-other : (p : ℕ) → p ≢ x → flag_of words' p ≡ flag_of words p
  flag-other p n = ap (λ (w : ℕ). w % 4) (r.other p n)

  -- a page with another flag than the new one is another page
  pub flag-apart : (p g : ℕ) → g ≢ f → flag_of words' p ≡ g → p ≢ x
  flag-apart p g ne h q = ne (sym h ∙ ap (flag_of words') q ∙ r.here)

  pub reflag-links : {N R : ℕ} {L : ℕ → ℕ} → Links words N R L → Links words' N R L
  reflag-links {L = L} k =
      record {
        cycle = k.cycle;
        linked = record { room = rw r.size k.linked.room; step = λ i. r.next (L i) ∙ k.linked.step i };
      }

  pub reflag-small : {N : ℕ} → f ≤ 2 → ((p : ℕ) → p ≤ N → flag_of words p ≤ 2) → (p : ℕ) → p ≤ N → flag_of words' p ≤ 2
  reflag-small hf small p hp =
      by-eq p x
      (λ q. omega (arith, ap (flag_of words') q, r.here))
      (λ n. omega (arith, flag-other p n, small p hp))

-- ---- a record's page

module _ (words used : List ℕ) (N S : ℕ) (P : ℕ → ℕ) (pc pt : ℕ) where
  -- an owner's page is seen, not the last, and marked
  pub owner_at : (ph : WriterPhase) (p : ℕ) → RecordOk words used N S P pc pt ph → Owns ph p → At used S P pc pt p × (p ≢ P N) × (flag_of words p ≡ 2)
  owner_at phase.Want p r o = absurd o
  owner_at (phase.Mark t n) p r o = absurd o
  owner_at (phase.Promote t n true) p r o =
      subst (λ (x : ℕ). At used S P pc pt x × (x ≢ P N) × (flag_of words x ≡ 2)) o (r.0.spot, r.0.not_last, r.1)
  owner_at (phase.Promote t n false) p r o = absurd o
  owner_at (phase.Clear t n) p r o =
      subst (λ (x : ℕ). At used S P pc pt x × (x ≢ P N) × (flag_of words x ≡ 2)) o (r.0.spot, r.0.not_last, r.1)
  owner_at (phase.Push t n) p r o = absurd o
  owner_at (phase.Held q j) p r o = absurd o
  owner_at phase.Filled p r o = absurd o

module _ {words words' used used' : List ℕ} {N S : ℕ} {P P' : ℕ → ℕ} {pc pc' pt pt' : ℕ}
    (moving : (t n : ℕ) → Moving words used N S P pc pt t n → Moving words' used' N S P' pc' pt' t n)
    (marking : (t : ℕ) → Marking used N S P pc pt t → Marking used' N S P' pc' pt' t) where
  -- what is seen of t carries over, and the marks that the record owns are there
  pub record-map : (ph : WriterPhase) → ((p : ℕ) → Owns ph p → flag_of words' p ≡ 2) → RecordOk words used N S P pc pt ph → RecordOk words' used' N S P' pc' pt' ph
  record-map phase.Want own r = tt
  record-map (phase.Mark t n) own r = marking t.0 r
  record-map (phase.Promote t n true) own r = (moving t.0 n.0 r.0, own t.0 refl)
  record-map (phase.Promote t n false) own r = moving t.0 n.0 r
  record-map (phase.Clear t n) own r = (moving t.0 n.0 r.0, own t.0 refl)
  record-map (phase.Push t n) own r = moving t.0 n.0 r
  record-map (phase.Held p j) own r = tt
  record-map phase.Filled own r = tt

-- ---- one record replaced

pub phase-same : (stack : List Writer) (e : ℕ) (w : Writer) → e < length stack → phase_at (set stack e w) e ≡ w.phase
phase-same stack e w h = ap (λ (x : Writer). x.phase) (get_or-set_same stack e w no_writer h)

pub phase-other : (stack : List Writer) (e i : ℕ) (w : Writer) → i ≢ e → phase_at (set stack e w) i ≡ phase_at stack i
phase-other stack e i w n = ap (λ (x : Writer). x.phase) (get_or-set_other stack e i w no_writer n)

-- a fact of each record below the depth, after record e is replaced
pub records-set : (B : WriterPhase → Type 0) (stack : List Writer) (depth e : ℕ) (w : Writer) → e < length stack
    → ((i : ℕ) → i < depth → i ≢ e → B (phase_at stack i)) → B w.phase → (i : ℕ) → i < depth → B (phase_at (set stack e w) i)
records-set B stack depth e w he old new i hi =
    by-eq i e
    (λ q. rw (q, phase-same stack e w he) new)
    (λ n. rw (phase-other stack e i w n) (old i hi n))

-- ---- who owns which update mark, after record e is replaced by w

module _ (stack : List Writer) (e : ℕ) (w : Writer) where
  own_out : (i p : ℕ) → i ≢ e → Owns (phase_at (set stack e w) i) p → Owns (phase_at stack i) p
  own_out i p n o = rw (phase-other stack e i w n) at o

  own_in : (i p : ℕ) → i ≢ e → Owns (phase_at stack i) p → Owns (phase_at (set stack e w) i) p
  own_in i p n o = rw (phase-other stack e i w n) o

  own_new : (i p : ℕ) → e < length stack → i ≡ e → Owns (phase_at (set stack e w) i) p → Owns w.phase p
  own_new i p h q o = rw (q, phase-same stack e w h) at o

  -- source: a mark in the new words is w's own, or was in the old words and not the replaced record's; alone: no other record owns what w owns
  pub owners-set : {words words' : List ℕ} {N depth : ℕ} → Owners words N stack depth → e < depth → e < length stack
      → ((p : ℕ) → p ≤ N → flag_of words' p ≤ 2)
      → ((p : ℕ) → p ≤ N → flag_of words' p ≡ 2 → Owns w.phase p ⊎ ((flag_of words p ≡ 2) × ¬ Owns (phase_at stack e) p))
      → ((p j : ℕ) → j < depth → j ≢ e → Owns w.phase p → Owns (phase_at stack j) p → ⊥)
      → Owners words' N (set stack e w) depth
  owners-set owners below long small source alone =
      record {
        small = small;
        some = λ p hp f.
            ⊎_elim
            (λ mine. (e, below, rw (phase-same stack e w long) mine))
            (λ old.
            let u = owners.some p hp old.0 in
            (u.0, u.1, own_in u.0 p (λ q. old.1 (subst (λ (i : ℕ). Owns (phase_at stack i) p) q u.2)) u.2))
            (source p hp f);
        one = λ i j p hi hj a b.
            by-eq i e
            (λ qi. by-eq j e (λ qj. qi ∙ sym qj) (λ nj. absurd (alone p j hj nj (own_new i p long qi a) (own_out j p nj b))))
            (λ ni.
            by-eq j e
            (λ qj. absurd (alone p i hi ni (own_new j p long qj b) (own_out i p ni a)))
            (λ nj. owners.one i j p hi hj (own_out i p ni a) (own_out j p nj b)));
      }

-- one word changed to one with no update mark, the records left alone
pub owners-word : {words : List ℕ} {N : ℕ} {stack : List Writer} {depth : ℕ} → Owners words N stack depth → (words' : List ℕ) (x : ℕ)
    → ((p : ℕ) → p ≢ x → flag_of words' p ≡ flag_of words p) → flag_of words' x ≤ 1 → Owners words' N stack depth
owners-word owners words' x same new =
    record {
      small = λ p hp. by-eq p x (λ q. omega (arith, ap (flag_of words') q)) (λ n. omega (arith, same p n, owners.small p hp));
      some = λ p hp f. by-eq p x (λ q. absurd (omega (arith, ap (flag_of words') q))) (λ n. owners.some p hp (sym (same p n) ∙ f));
      one = owners.one;
    }

-- ---- the reader

pub reader-map : (words words' : List ℕ) (N R pc pc' : ℕ) → (1 ≤ pc → 1 ≤ pc') → (1 ≤ pc → get_or words' R 0 ≡ get_or words R 0)
    → ((p : ℕ) → next_of words' p ≡ next_of words p) → (ph : ReaderPhase) → ReaderOk words N R pc ph → ReaderOk words' N R pc' ph
reader-map words words' N R pc pc' ahead same next reading.Idle r = tt
reader-map words words' N R pc pc' ahead same next (reading.Found p h) r = (ahead r.0, r.1, r.2, r.3, r.4)
reader-map words words' N R pc pc' ahead same next (reading.Ready p h) r = (ahead r.0, r.1, r.2, r.3, r.4, rw (same r.0, next h.0) r.5)
