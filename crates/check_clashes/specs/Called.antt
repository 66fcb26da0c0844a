-- The effects of a text with those of its calls: what each subprogram touches that calls lead to, at the least token of a
-- call that leads there.
use Rattle.std.specs.Prelude.{ℕ, zero, suc, List, [], ◌∷◌, ◌++◌, length, map, replicate, slice_get, slice_set, Option, Some, None, cond, nat_eq, nat_lt}
use Rattle.check_clashes.specs.declared.effects.Call.{Call}
use Rattle.check_clashes.specs.declared.effects.Touch.{Touch}
use Rattle.check_clashes.specs.declared.effects.Uses.{Uses}

-- the least token by which each subprogram is reached, if it is

abbrev pub least_token : Option ℕ → ℕ → ℕ
least_token None at = at
least_token (Some t) at = cond (nat_lt at t) at t

abbrev pub lowered : List (Option ℕ) → ℕ → ℕ → List (Option ℕ)
lowered tokens s at = go (slice_get tokens s)
  where
    go : Option (Option ℕ) → List (Option ℕ)
    go None = tokens
    go (Some t) = slice_set tokens s (Some (least_token t at))

-- by the calls of an arm
unfoldable pub with_calls : ℕ → List Call → List (Option ℕ) → List (Option ℕ)
with_calls arm [] tokens = tokens
with_calls arm (c ∷ cs) tokens = with_calls arm cs (cond (nat_eq c.arm arm) (lowered tokens c.sub c.at) tokens)

-- by calls of what is reached at a token
unfoldable pub spread : ℕ → List Call → List (Option ℕ) → List (Option ℕ)
spread at [] tokens = tokens
spread at (c ∷ cs) tokens = spread at cs (lowered tokens c.sub at)

abbrev pub spread_of : Option Uses → Option (Option ℕ) → List (Option ℕ) → List (Option ℕ)
spread_of (Some uses) (Some (Some at)) tokens = spread at uses.calls tokens
spread_of uses at tokens = tokens

-- a subprogram calls no later one, so the calls of later ones are all seen before its own
unfoldable pub spread_all : List Uses → ℕ → List (Option ℕ) → List (Option ℕ)
spread_all subs zero tokens = tokens
spread_all subs (suc s) tokens = spread_all subs s (spread_of (slice_get subs s) (slice_get tokens s) tokens)

abbrev pub reached : List Uses → ℕ → List Call → List (Option ℕ)
reached subs arm calls = spread_all subs (length subs) (with_calls arm calls (replicate (length subs) None))

-- effects

abbrev pub moved : ℕ → ℕ → Touch → Touch
moved arm at t = record t { arm = arm; at = at }

unfoldable pub with_called : ℕ → List Uses → List (Option ℕ) → List Touch → List Touch
with_called arm [] tokens found = found
with_called arm (uses ∷ subs) [] found = found
with_called arm (uses ∷ subs) (None ∷ tokens) found = with_called arm subs tokens found
with_called arm (uses ∷ subs) (Some at ∷ tokens) found = with_called arm subs tokens (found ++ map (moved arm at) uses.touches)

-- above all arms of calls
unfoldable pub arm_bound : List Call → ℕ → ℕ
arm_bound [] most = most
arm_bound (c ∷ cs) most = arm_bound cs (cond (nat_lt c.arm most) most (suc c.arm))

unfoldable pub with_arms : List Uses → List Call → ℕ → List Touch → List Touch
with_arms subs calls zero found = found
with_arms subs calls (suc arm) found = with_arms subs calls arm (with_called arm subs (reached subs arm calls) found)

abbrev pub effects_in : List Uses → Uses → List Touch
effects_in subs uses = with_arms subs uses.calls (arm_bound uses.calls 0) uses.touches
