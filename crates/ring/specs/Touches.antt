-- What the code of `Ring::drain` does to the buffer, read off the code itself, its MIR. The result of `drain` holds a part of the buffer, so that no
-- clause of its contract can speak of the rest (DrainPart). So it is stated of the code: `drain` begins by lending the whole buffer again and calling
-- `drain_into` with its own ring and that; what follows stores to its own locals alone and calls `prefix` alone, once; and `prefix` stores to its own
-- locals alone and calls nothing. That the rest of the buffer is then as the promise of `drain_into` has it is for a reader to conclude.
-- Assumes nothing.
use Rattle.std.specs.Prelude.{Bool, true, false, ◌&&◌, List, [], ◌∷◌, ◌++◌, ◌≡◌}
use mir.Syntax.{w64, ty_int, Step, deref, field, variant, Place, place, copy, addr_of, aggregate, Callee, Body, skip, seq, assign, block, loop, cond, switch, exit, return, call, unreachable, call_v, lend_static, Arms, arm, default, no_default, Fn}

-- a place that is a local or a part of one, and not behind a reference
abbrev pub no_deref : List Step → Bool
no_deref [] = true
no_deref (deref t ∷ rest) = false
no_deref (field n ∷ rest) = no_deref rest
no_deref (variant n ∷ rest) = no_deref rest

abbrev pub is_local : Place → Bool
is_local (place n steps) = no_deref steps

-- it stores to locals alone. A call of a function by its address is left out, since what that function stores to is not told.
abbrev mutual
  pub stores_locally : Body → Bool
  stores_locally skip = true
  stores_locally (seq a b) = stores_locally a && stores_locally b
  stores_locally (assign p v) = is_local p
  stores_locally (block b) = stores_locally b
  stores_locally (loop b) = stores_locally b
  stores_locally (cond o a b) = stores_locally a && stores_locally b
  stores_locally (switch o arms) = arms_store_locally arms
  stores_locally (exit n) = true
  stores_locally return = true
  stores_locally (call f args p) = is_local p
  stores_locally unreachable = true
  stores_locally (call_v f sig args p) = false
  stores_locally (lend_static p t c) = is_local p

  pub arms_store_locally : Arms → Bool
  arms_store_locally (arm ks b rest) = stores_locally b && arms_store_locally rest
  arms_store_locally (default b) = stores_locally b
  arms_store_locally no_default = true

-- the functions that it calls, in the order of the code
abbrev mutual
  pub calls_in : Body → List Callee
  calls_in skip = []
  calls_in (seq a b) = calls_in a ++ calls_in b
  calls_in (assign p v) = []
  calls_in (block b) = calls_in b
  calls_in (loop b) = calls_in b
  calls_in (cond o a b) = calls_in a ++ calls_in b
  calls_in (switch o arms) = arms_call arms
  calls_in (exit n) = []
  calls_in return = []
  calls_in (call f args p) = f ∷ []
  calls_in unreachable = []
  calls_in (call_v f sig args p) = []
  calls_in (lend_static p t c) = []

  pub arms_call : Arms → List Callee
  arms_call (arm ks b rest) = calls_in b ++ arms_call rest
  arms_call (default b) = calls_in b
  arms_call no_default = []

-- a body that stores to locals alone, and makes these calls
pub record Touches (called : List Callee) (b : Body) : Type 0 where
  pub stores : stores_locally b ≡ true
  pub calls : calls_in b ≡ called

-- `drain` has `self` in local 1 and the buffer, a pointer and a length, in local 2: the buffer is lent again in locals 5 and 6, and `drain_into` is
-- called with local 1 and this
abbrev pub drains_first : Callee → Body → Body
drains_first into rest =
    seq (assign (place 5 []) (addr_of (place 2 (field 0 ∷ deref (ty_int w64) ∷ []))))
    (seq (assign (place 6 []) (aggregate (copy (place 5 []) ∷ copy (place 2 (field 1 ∷ [])) ∷ [])))
    (seq (call into (copy (place 1 []) ∷ copy (place 6 []) ∷ []) (place 3 [])) rest))

pub record DrainsOnce (into prefix : Callee) (drain : Fn) : Type 0 where
  pub rest : Body
  pub first : drain.body ≡ drains_first into rest
  pub then : Touches (prefix ∷ []) rest
