-- Lists of kinds of tokens that can be told apart where a space stands between two tokens.
use Rattle.std.specs.Prelude.{◌≡◌, ℕ, Bool, true, ◌&&◌, ◌||◌, not, ◌==◌, List, [], ◌∷◌}
use Rattle.std.specs.List.{list_all}
use Rattle.ada_base.specs.Kinds.{character, real, tick}

-- neither a character literal nor a real literal
abbrev pub is_spoken : ℕ → Bool
is_spoken kind = not ((kind == character) || (kind == real))

-- After each tick stands another kind: two ticks with a space between would be a character literal.
abbrev pub ticks_followed : List ℕ → Bool
ticks_followed [] = true
ticks_followed (kind ∷ []) = not (kind == tick)
ticks_followed (kind ∷ next ∷ kinds) = not ((kind == tick) && (next == tick)) && ticks_followed (next ∷ kinds)

pub record AreSpoken (kinds : List ℕ) : Type 0 where
  pub each : list_all is_spoken kinds ≡ true
  pub ticks : ticks_followed kinds ≡ true
