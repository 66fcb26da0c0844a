-- What is declared is new: no object that is declared is in scope already (3.1, 8.2).
use Rattle.std.specs.Prelude.{◌≡◌, ℕ, List, [], ◌∷◌, Some, Bool, false, true, cond}
use Rattle.behaviours.specs.Paths.{Entity, VariableOf, ConstantOf, entity_eq}
use Rattle.typed_tree.specs.declared.program.Formal.{Formal}
use Rattle.typed_tree.specs.Syntax.{Decls, NoDecl, DeclareDefault, DeclareVariable, DeclareConstant, Mentions, Stmt, IfThen, Case, Loop, For, ParallelFor, Parallel, Block, Stmts, End, Then, Alternatives, NoAlternative, Alternative, Arms, NoArm, Arm, Handlers, NoHandler, Handler, Sub, Program}
use Rattle.ada_meaning.specs.Meaning.{sub_at}
use Rattle.typed_scopes.specs.Scopes.{entity_of}

-- objects in scope, with one more
abbrev pub with_object : Entity → (Entity → Bool) → Entity → Bool
with_object y t = λ z. cond (entity_eq y z) true (t z)

-- declarations, with what follows in their scope
abbrev pub FreshDecls : (Entity → Bool) → Decls → ((Entity → Bool) → Type 0) → Type 0
FreshDecls t NoDecl rest = rest t
FreshDecls t (DeclareDefault x more) rest = (t (VariableOf x) ≡ false) × FreshDecls (with_object (VariableOf x) t) more rest
FreshDecls t (DeclareVariable x initial more) rest = (t (VariableOf x) ≡ false) × FreshDecls (with_object (VariableOf x) t) more rest
FreshDecls t (DeclareConstant x initial more) rest = (t (ConstantOf x) ≡ false) × FreshDecls (with_object (ConstantOf x) t) more rest
FreshDecls t (Mentions es more) rest = FreshDecls t more rest

abbrev pub behind : (Entity → Bool) → Decls → Entity → Bool
behind t NoDecl = t
behind t (DeclareDefault x more) = behind (with_object (VariableOf x) t) more
behind t (DeclareVariable x initial more) = behind (with_object (VariableOf x) t) more
behind t (DeclareConstant x initial more) = behind (with_object (ConstantOf x) t) more
behind t (Mentions es more) = behind t more

abbrev mutual
  pub FreshStmt : (Entity → Bool) → Stmt → Type 0
  FreshStmt t (IfThen condition stmts otherwise) = FreshAll t stmts × FreshAll t otherwise
  FreshStmt t (Case e alternatives) = FreshCases t alternatives
  FreshStmt t (Loop number condition stmts) = FreshAll t stmts
  FreshStmt t (For number iteration stmts) = FreshAll t stmts
  FreshStmt t (ParallelFor number site chunk iteration stmts) = FreshAll t stmts
  FreshStmt t (Parallel site count arms) = FreshArms t arms
  FreshStmt t (Block decls stmts handlers) = FreshDecls t decls (λ u. FreshAll u stmts × FreshHandlers u handlers)
  FreshStmt t _ = Unit {0}

  pub FreshAll : (Entity → Bool) → Stmts → Type 0
  FreshAll t End = Unit {0}
  FreshAll t (Then first more) = FreshStmt t first × FreshAll t more

  pub FreshCases : (Entity → Bool) → Alternatives → Type 0
  FreshCases t NoAlternative = Unit {0}
  FreshCases t (Alternative others choices mentions stmts rest) = FreshAll t stmts × FreshCases t rest

  pub FreshArms : (Entity → Bool) → Arms → Type 0
  FreshArms t NoArm = Unit {0}
  FreshArms t (Arm stmts rest) = FreshAll t stmts × FreshArms t rest

  pub FreshHandlers : (Entity → Bool) → Handlers → Type 0
  FreshHandlers t NoHandler = Unit {0}
  FreshHandlers t (Handler handled stmts rest) = FreshAll t stmts × FreshHandlers t rest

-- the formal parameters of a subprogram, in order (6.1)
abbrev pub FreshFormals : (Entity → Bool) → List Formal → Type 0
FreshFormals t [] = Unit {0}
FreshFormals t (f ∷ fs) = (t (entity_of f) ≡ false) × FreshFormals (with_object (entity_of f) t) fs

abbrev pub with_formals : (Entity → Bool) → List Formal → Entity → Bool
with_formals t [] = t
with_formals t (f ∷ fs) = with_formals (with_object (entity_of f) t) fs

abbrev pub no_object : Entity → Bool
no_object y = false

-- around a subprogram are the objects of the main procedure, those behind it among them
pub record IsFresh (program : Program) : Type 0 where
  pub main : FreshDecls no_object program.body.decls (λ t. FreshAll t program.body.stmts × FreshHandlers t program.body.handlers)
  pub formals : (k : ℕ) (unit : Sub) → sub_at program.subs k ≡ Some unit → FreshFormals (behind no_object program.body.decls) unit.formals
  pub subs : (k : ℕ) (unit : Sub) → sub_at program.subs k ≡ Some unit
      → FreshStmt (with_formals (behind no_object program.body.decls) unit.formals) (Block unit.body.decls unit.body.stmts unit.body.handlers)
