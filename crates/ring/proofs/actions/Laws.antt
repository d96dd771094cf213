-- Where no whole action stands, the actions stop. Assumes nothing.
use mathlib.Core.Path.{◌≡◌, refl}
use Prim.Native.Nat.{ℕ}
use Rattle.rules.specs.Actions.{Stops}
use Rattle.rules.specs.declared.state.Action.{Action}
use Rattle.rules.specs.declared.actions.Coded.{Coded}
use Rattle.rules.specs.declared.actions.Coded.TheVariants.{Whole, Broken, End}

pub stops-unless-whole : (c : Coded) → ((a : Action) (next : ℕ) → c ≡ Whole a next → ⊥) → Stops c
stops-unless-whole (Whole a next) h = h a next refl
stops-unless-whole Broken h = tt
stops-unless-whole End h = tt
