-- Programs written by hand, and all that they do, looks for a cancel among it.
use Rattle.std.specs.Prelude.{pos, negsuc, [], ◌∷◌, Some, None, true, false}
use Rattle.ada_base.specs.declared.reason.Reason.TheVariants as reason
use Rattle.typed_tree.specs.Syntax as syntax
use Rattle.typed_tree.specs.Syntax.{Absent, NoDecl, DeclareDefault, Null, Raise, For, Parallel, Block, Stmts, End, Then, NoArm, Arm, NoHandler, Handler, Program}
use Rattle.ada_base.specs.Cuts.{One}
use Rattle.ada_base.specs.Input.{Nothing, Symbol}
use Rattle.behaviours.specs.Paths.{VariableOf, Instance, Gives, Path, start, nothing_visible}
use Rattle.behaviours.specs.Events.{Writes, Recalls, Keeps, Takes, Looks, Trace}
use Rattle.ada_meaning.specs.Programs.{Setting}
use Rattle.ada_meaning.specs.Law.{behaviour}
use Rattle.ada_meaning.specs.Rows.{object_of, made_of, upto, get_into}

abbrev one_worker : Setting
one_worker = record { plan = One; one = true; limit = 1000 }

-- it has a run to its end that does just this
abbrev Does : Program → Trace Instance → Type 0
Does program trace = (path : Path Instance) × (behaviour program one_worker).runs nothing_visible start trace false path (Gives tt)

abbrev statements : Stmts → Program
statements ss = made_of [] [] [] NoDecl ss

-- for I in 1 .. 1 loop null; end loop;
abbrev pub once : Program
once = statements (Then (For 0 (upto 0 1) End) End)

-- begin raise E; exception when others => null; end;
abbrev pub raises : Program
raises = statements (Then (Block NoDecl (Then (Raise (reason.Declared 0)) End) (Handler syntax.Others (Then Null End) NoHandler)) End)

-- parallel do null; and null; end do;
abbrev pub nothing : Program
nothing = statements (Then (Parallel 0 Absent (Arm End (Arm End NoArm))) End)

-- X : Integer; Get (X);
abbrev pub gets : Program
gets = made_of [] (object_of 0 1 ∷ []) [] (DeclareDefault 0 NoDecl) (Then (get_into 0) End)

abbrev x : Instance
x = record { thread = []; number = 0; object = VariableOf 0 }

-- there is a look before an iteration's turn, at a raise where there are handlers, and before a construct; none in a Get,
-- which asks for the digit 5 and the end
abbrev pub LookRows : Type 0
LookRows = Does once (Looks ∷ []) × Does raises (Looks ∷ []) × Does nothing (Looks ∷ [])
    × Does gets (Writes x 0 (negsuc 2147483647) ∷ Recalls Nothing ∷ Takes 0 (Some 53) ∷ Takes 1 None ∷ Keeps (Symbol None) ∷ Writes x 0 (pos 5) ∷ [])
