-- Where the objects of a typed program lie (3.3): different objects of one owner have different cells.
use Rattle.ada_base.specs.Tokens.{Tokenized}
use Rattle.syntax_tree.specs.Syntax.{Program}
use Rattle.typed_tree.specs.Layout.{HasCell, LieFrom, first_cell}
use Rattle.typed_tree.specs.Syntax as typed
use Rattle.typed_tree.specs.declared.program.Object.{Object}
use Rattle.name_rules.specs.Resolved.{TypedOf}
use Rattle.name_rules.specs.declared.scope.Names.{Names}
use Rattle.name_symbols.specs.Naming.{names_of, sub_count}
use Rattle.std.specs.Prelude.{Some, length, slice_get, ℕ, ◌<◌, ◌≡◌, ◌≤◌}

-- a text's typed program, where it is known how many subprograms there are
pub record IsTyped (names : Names) (text : Program) (program : typed.Program) : Type 0 where
  pub counted : names.subs ≡ sub_count text.main.units
  pub typed : TypedOf names text ≡ Some program

-- The objects that a text's rules give lie side by side in the order of their declarations, each at the next free cell of
-- its owner. So two of one owner share no cell, and those of a thread body leave its first four cells free. There are as
-- many subprograms as the text has, which is what is counted of it.
pub record CellsLaw : Type 0 where
  pub counted : (t : Tokenized) (text : Program) → (names_of t text).subs ≡ sub_count text.main.units
  pub lie : (names : Names) (text : Program) (program : typed.Program) → IsTyped names text program
      → LieFrom (first_cell (length program.subs)) program.objects
  pub apart : (names : Names) (text : Program) (program : typed.Program) → IsTyped names text program → (i j : ℕ) (a b : Object)
      → slice_get program.objects i ≡ Some a → slice_get program.objects j ≡ Some b → (i ≡ j → ⊥) → a.owner ≡ b.owner
      → (cell : ℕ) → HasCell a cell → HasCell b cell → ⊥
  pub threads : (names : Names) (text : Program) (program : typed.Program) → IsTyped names text program → (i : ℕ) (a : Object)
      → slice_get program.objects i ≡ Some a → length program.subs < a.owner → 4 ≤ a.offset
  pub subs : (names : Names) (text : Program) (program : typed.Program) → IsTyped names text program
      → length program.subs ≡ sub_count text.main.units
