-- The actions that some bytes are, one after the other: where a whole action stands it comes first, and the rest is what follows it; where none stands,
-- nothing follows: `decodes`. Assumes nothing.
use mathlib.Core.Path.{◌≡◌, refl, subst, ap, ◌∙◌}
use mathlib.Core.List.{List}
use Prim.Native.Nat.{ℕ, zero, suc, ◌-◌, ◌<◌, ◌≤◌}
use native.Mathlib.Omega.{arith}
use borrow.Author.Tests.{leb-true, leb-false, ltb-false, le-leb}
use lib.Dec.{eqb, leb, ltb}
use lib.ListN.{length}
use Rattle.rules.specs.Actions.{Decoded, begin_code, write_code, read_code, begin_length, byte_at, begin_at, coded_at, stopped, action_first, go_on, decoded_within, decoded_from, Stops, Decodes}
use Rattle.rules.specs.declared.state.Action.{Action}
use Rattle.rules.specs.declared.actions.Coded.{Coded}
use Rattle.rules.specs.declared.actions.Coded.TheVariants.{Whole, Broken, End}
use Rattle.rules.proofs.Lists.{by_cond}

-- a whole action has a byte at least, and ends within the bytes
abbrev Moves : List ℕ → ℕ → Coded → Type 0
Moves bytes at (Whole a next) = (at < next) × (next ≤ length bytes)
Moves bytes at Broken = Unit {0}
Moves bytes at End = Unit {0}

module _ (bytes : List ℕ) (at : ℕ) where
  begin-moves : at < length bytes → Moves bytes at (begin_at bytes at)
  begin-moves l =
      by_cond (Moves bytes at) (ltb (length bytes - at) begin_length) (λ _. tt)
      (λ h. let m = ltb-false (length bytes - at) begin_length h in (omega arith, omega arith))

  moves : Moves bytes at (coded_at bytes at)
  moves =
      by_cond (Moves bytes at) (leb (length bytes) at) (λ _. tt)
      (λ h. let l = leb-false (length bytes) at h in
      by_cond (Moves bytes at) (eqb (byte_at bytes at) begin_code) (λ _. begin-moves l)
      (λ _. by_cond (Moves bytes at) (eqb (byte_at bytes at) write_code) (λ _. (omega arith, omega arith))
      (λ _. by_cond (Moves bytes at) (eqb (byte_at bytes at) read_code) (λ _. (omega arith, omega arith)) (λ _. tt))))

  pub whole-moves : {a : Action} {next : ℕ} → coded_at bytes at ≡ Whole a next → (at < next) × (next ≤ length bytes)
  whole-moves e = subst (λ (c : Coded). Moves bytes at c) e moves

  past_end : length bytes ≤ at → coded_at bytes at ≡ End
  past_end l = simp (le-leb _ _ l)

  -- where the two ways to go on agree at every later place, they agree here
  same_rest : (f g : ℕ → Decoded) (c : Coded) → coded_at bytes at ≡ c → ((next : ℕ) → at < next → f next ≡ g next) → go_on c f at ≡ go_on c g at
  same_rest f g (Whole a next) e h = ap (action_first a) (h next (whole-moves e).0)
  same_rest f g Broken e h = refl
  same_rest f g End e h = refl

-- more actions allowed than bytes are left changes nothing
enough : (bytes : List ℕ) (k m at : ℕ) → length bytes - at ≤ k → length bytes - at ≤ m → decoded_within k bytes at ≡ decoded_within m bytes at
enough bytes zero zero at h l = refl
enough bytes zero (suc m) at h l = rw (past_end bytes at (omega arith))
enough bytes (suc k) zero at h l = rw (past_end bytes at (omega arith))
enough bytes (suc k) (suc m) at h l =
    same_rest bytes at (decoded_within k bytes) (decoded_within m bytes) (coded_at bytes at) refl
    (λ next n. enough bytes k m next (omega arith) (omega arith))

-- there are no more of them than bytes are left
goes-few : (k at : ℕ) (f : ℕ → Decoded) → ((next : ℕ) → length (f next).actions ≤ k) → (c : Coded) → length (go_on c f at).actions ≤ suc k
goes-few k at f h (Whole a next) = let n = h next in omega arith
goes-few k at f h Broken = omega arith
goes-few k at f h End = omega arith

few-within : (k : ℕ) (bytes : List ℕ) (at : ℕ) → length (decoded_within k bytes at).actions ≤ k
few-within zero bytes at = omega arith
few-within (suc k) bytes at = goes-few k at (decoded_within k bytes) (few-within k bytes) (coded_at bytes at)

pub few-actions : (bytes : List ℕ) (at : ℕ) → length (decoded_from bytes at).actions ≤ length bytes - at
unfolding decoded_from
few-actions bytes at = few-within (length bytes - at) bytes at

-- they end within the bytes
module _ (bytes : List ℕ) where
  goes-within : (at : ℕ) (f : ℕ → Decoded) → ((next : ℕ) → next ≤ length bytes → (f next).stop ≤ length bytes) → at ≤ length bytes → (c : Coded)
      → coded_at bytes at ≡ c → (go_on c f at).stop ≤ length bytes
  goes-within at f h l (Whole a next) e = h next (whole-moves bytes at e).1
  goes-within at f h l Broken e = l
  goes-within at f h l End e = l

  within-stops : (k at : ℕ) → at ≤ length bytes → (decoded_within k bytes at).stop ≤ length bytes
  within-stops zero at l = l
  within-stops (suc k) at l = goes-within at (decoded_within k bytes) (within-stops k) l (coded_at bytes at) refl

  pub stop-within : (at : ℕ) → at ≤ length bytes → (decoded_from bytes at).stop ≤ length bytes
  unfolding decoded_from
  stop-within at l = within-stops (length bytes - at) at l

module _ (bytes : List ℕ) (at : ℕ) where
  one_more : decoded_from bytes at ≡ go_on (coded_at bytes at) (decoded_from bytes) at
  unfolding decoded_from
  one_more =
      enough bytes (length bytes - at) (suc (length bytes - at)) at (omega arith) (omega arith)
      ∙ same_rest bytes at (decoded_within (length bytes - at) bytes) (λ next. decoded_within (length bytes - next) bytes next) (coded_at bytes at) refl
      (λ next n. enough bytes (length bytes - at) (length bytes - next) next (omega arith) (omega arith))

  pub decoded-whole : {a : Action} {next : ℕ} → coded_at bytes at ≡ Whole a next → decoded_from bytes at ≡ action_first a (decoded_from bytes next)
  decoded-whole e = one_more ∙ ap (λ (c : Coded). go_on c (decoded_from bytes) at) e

  stops : (c : Coded) → Stops c → go_on c (decoded_from bytes) at ≡ stopped at
  stops Broken _ = refl
  stops End _ = refl
  stops (Whole _ _) s = elim s [ ]

  pub decoded-stops : {c : Coded} → coded_at bytes at ≡ c → Stops c → decoded_from bytes at ≡ stopped at
  decoded-stops {c} e s = one_more ∙ ap (λ (c : Coded). go_on c (decoded_from bytes) at) e ∙ stops c s

-- ---- they stop where no whole action stands

-- what stands below the end is something
abbrev Something : Coded → Type 0
Something (Whole a next) = Unit {0}
Something Broken = Unit {0}
Something End = ⊥

module _ (bytes : List ℕ) where
  begin-something : (at : ℕ) → Something (begin_at bytes at)
  begin-something at = by_cond Something (ltb (length bytes - at) begin_length) (λ _. tt) (λ _. tt)

  something : (at : ℕ) → at < length bytes → Something (coded_at bytes at)
  something at l =
      by_cond Something (leb (length bytes) at)
      (λ h. let m = leb-true (length bytes) at h in absurd (omega arith))
      (λ _. by_cond Something (eqb (byte_at bytes at) begin_code) (λ _. begin-something at)
      (λ _. by_cond Something (eqb (byte_at bytes at) write_code) (λ _. tt)
      (λ _. by_cond Something (eqb (byte_at bytes at) read_code) (λ _. tt) (λ _. tt))))

  goes-stops : (at : ℕ) (f : ℕ → Decoded) → ((next : ℕ) → at < next → Stops (coded_at bytes (f next).stop)) → (c : Coded) → coded_at bytes at ≡ c
      → Stops (coded_at bytes (go_on c f at).stop)
  goes-stops at f h (Whole a next) e = h next (whole-moves bytes at e).0
  goes-stops at f h Broken e = rw e tt
  goes-stops at f h End e = rw e tt

  within-ends : (k at : ℕ) → length bytes - at ≤ k → Stops (coded_at bytes (decoded_within k bytes at).stop)
  within-ends zero at l = rw (past_end bytes at (omega arith)) tt
  within-ends (suc k) at l = goes-stops at (decoded_within k bytes) (λ next n. within-ends k next (omega arith)) (coded_at bytes at) refl

  stop-stops : (at : ℕ) → Stops (coded_at bytes (decoded_from bytes at).stop)
  unfolding decoded_from
  stop-stops at = within-ends (length bytes - at) at (omega arith)

  is-broken : (c : Coded) → Stops c → Something c → c ≡ Broken
  is-broken (Whole _ _) s h = elim s [ ]
  is-broken Broken s h = refl
  is-broken End s h = elim h [ ]

  pub decodes : (at : ℕ) → Decodes bytes at
  decodes at =
      record {
        whole = λ a next e. decoded-whole bytes at e;
        none = λ s. decoded-stops bytes at refl s;
        within = λ l. stop-within bytes at l;
        ended = λ l e. past_end bytes (decoded_from bytes at).stop (omega arith);
        broken = λ l n.
            let w = stop-within bytes at l in
            is-broken (coded_at bytes (decoded_from bytes at).stop) (stop-stops at) (something (decoded_from bytes at).stop (omega (arith, n)));
      }
