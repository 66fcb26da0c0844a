-- What a list of declared names has of each name.
use Rattle.name_rules.specs.declared.entries.Latest.{Latest}
use Rattle.name_rules.specs.declared.scope.Entry.{Entry}
use Rattle.name_rules.specs.declared.scope.What.{What}
use Rattle.std.specs.List.{find, list_any}
use Rattle.std.specs.Prelude.{Bool, List, None, Option, Some, drop, false, nat_le, option_map, reverse, slice_get, ℕ, ◌==◌, ◌≡◌}

-- what a symbol is declared as last
abbrev pub last_of : ℕ → List Entry → Option What
last_of name scope = option_map (λ e. e.what) (find (λ e. e.symbol == name) (reverse scope))

-- whether it is declared from a place on
abbrev pub taken_from : ℕ → ℕ → List Entry → Bool
taken_from name start scope = list_any (λ e. e.symbol == name) (drop start scope)

abbrev pub head_of : Option (Option Latest) → Option Latest
head_of None = None
head_of (Some head) = head

-- the latest entry of a symbol, by a table
abbrev pub head_at : List (Option Latest) → ℕ → Option Latest
head_at heads name = head_of (slice_get heads name)

-- whether it stands at a place or behind it
abbrev pub reached : Option Latest → ℕ → Bool
reached None start = false
reached (Some head) start = nat_le start head.place

-- a table has the latest entry of each symbol
pub record Indexed (heads : List (Option Latest)) (entries : List Entry) : Type 0 where
  pub last : (name : ℕ) → option_map (λ head. head.what) (head_at heads name) ≡ last_of name entries
  pub taken : (name start : ℕ) → reached (head_at heads name) start ≡ taken_from name start entries
