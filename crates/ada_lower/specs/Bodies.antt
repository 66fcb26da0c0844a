-- Subprograms: the scopes and the code of their bodies, and what lies where in a program's code.
use Rattle.std.specs.Prelude.{◌≡◌, ℕ, ◌+◌, ◌≤◌, List, [], ◌∷◌, length, slice_get, Option, Some, None, Bool, true, false, cond}
use Rattle.ada_base.specs.declared.reason.Reason.TheVariants as reason
use Rattle.behaviours.specs.Paths.{Entity, VariableOf, ConstantOf, entity_eq}
use Rattle.typed_tree.specs.declared.scalars.Scalar.{Scalar}
use Rattle.typed_tree.specs.Syntax.{Expr, Block, Stmt, Sub, Program, Decls, NoDecl, DeclareDefault, DeclareVariable, DeclareConstant, Mentions}
use Rattle.ada_meaning.specs.Meaning.{sub_at, object_layout}
use Rattle.stack_code.specs.declared.code.Code.{Code}
use Rattle.stack_code.specs.declared.code.CodeSub.{CodeSub}
use Rattle.stack_code.specs.declared.instr.Instr.TheVariants as i
use Rattle.stack_code.specs.declared.code.Around.TheVariants as around
use Rattle.lower_emission.specs.Scope as scope
use Rattle.ada_lower.specs.Sights.{ByEnd, ByReturn, ByValue, Emit, Leaving, Main, Named, Scope, Sight, Stands, one, own, taking, with_object, ◌⨟◌}
use Rattle.ada_lower.specs.Emission.{stmt, defaulted, put_into, width, Shape, lead, shapes, shapes_cells}
use Rattle.ada_lower.specs.Defaults.{Filled}
use Rattle.ada_lower.specs.Fitted.{FittedStmt, FittedValue}

-- formals in order, in the first cells
abbrev pub formal_named : ℕ → ℕ → Named
formal_named i n = record { through = false; place = own i; cells = n }

abbrev pub objects : List Shape → ℕ → (Entity → Option Named) → Entity → Option Named
objects [] i o z = o z
objects (h ∷ hs) i o z = objects hs (i + lead h.back + h.cells) (λ z. cond (entity_eq h.formal z) (Some (formal_named (i + lead h.back) h.cells)) (o z)) z

abbrev pub seens : List Shape → (Entity → Bool) → Entity → Bool
seens [] o z = o z
seens (h ∷ hs) o z = seens hs (λ z. cond (entity_eq h.formal z) true (o z)) z

abbrev pub placed : List Shape → ℕ → Sight → Sight
placed hs i s = record s { scope = record (s.scope) { object = λ z. objects hs i s.scope.object z }; seen = λ z. seens hs s.seen z }

abbrev pub AreFresh : List Shape → ℕ → Sight → Type 0
AreFresh [] i s = Unit {0}
AreFresh (h ∷ hs) i s = (s.seen h.formal ≡ false) × AreFresh hs (i + lead h.back + h.cells) (with_object h.formal (formal_named (i + lead h.back) h.cells) s)

-- those that are copied back are visible
abbrev pub AreBack : List Shape → ℕ → Sight → Type 0
AreBack [] i s = Unit {0}
AreBack (h ∷ hs) i s = (h.back ≡ true → s.scope.object h.formal ≡ Some (formal_named (i + lead h.back) h.cells)) × AreBack hs (i + lead h.back + h.cells) s

-- an object of the main procedure
abbrev pub main_named : ℕ → ℕ → Named
main_named i n = record { through = false; place = record { level = Main; cell = i }; cells = n }

abbrev pub main_here : Scope → Entity → ℕ → Scope
main_here s y n = scope.taking n (scope.with_object y (main_named s.free n) s)

abbrev pub main_object : Sight → Entity → ℕ → Sight
main_object s y n = record (taking n (with_object y (main_named s.scope.free n) s)) { main = λ z. cond (entity_eq y z) true (s.main z); global = λ z. cond (entity_eq y z) (Some (main_named s.scope.free n)) (s.global z) }

abbrev pub leaving_of : Option Scalar → Leaving
leaving_of None = ByReturn
leaving_of (Some k) = ByValue

module _ (program : Program) (globals : ℕ → Entity → Option Named) (mains : Entity → Bool) (texts : List (List ℕ)) (text : List ℕ → ℕ) (frames : ℕ → ℕ) where
  abbrev pub outer_scope : ℕ → Sub → ℕ → Sight
  outer_scope sub unit cells = record {
    scope = record {
      object = globals sub;
      parameter = λ k. None;
      item = λ k. None;
      constant_item = λ k. None;
      target = None;
      handled = None;
      exits = λ n. None;
      text = text;
      free = shapes_cells (shapes program unit.formals);
      entry = None;
      leaving = leaving_of unit.result;
      body = around.Sub (sub + 1);
      nest = 0;
    };
    seen = mains;
    main = mains;
    global = globals sub;
    cells = cells;
    frames = frames;
    outside = [];
    texts = texts;
  }

  abbrev pub sub_scope : ℕ → Sub → ℕ → Sight
  sub_scope sub unit cells = placed (shapes program unit.formals) 0 (outer_scope sub unit cells)

  -- a function that reaches its end raises Program_Error
  abbrev pub ending : Scope → Option Scalar → Emit
  ending s None = one s 0 i.Ret
  ending s (Some k) = one s 0 (i.Raise reason.ProgramError)

  abbrev pub sub_code : Scope → Sub → Emit
  sub_code s unit = stmt program s (Block unit.body.decls unit.body.stmts unit.body.handlers) ⨟ ending s unit.result

  -- a subprogram's code is in the code, whatever is behind its frame
  pub record BodyStands (epar : Sight → Expr → Type 0) (par : Sight → Stmt → Type 0) (c : Code) (sub : ℕ) (unit : Sub) : Type 0 where
    pub is : CodeSub
    pub here : slice_get c.subs (sub + 1) ≡ Some is
    pub to : ℕ
    pub enough : shapes_cells (shapes program unit.formals) ≤ is.frame
    pub fresh : (cells : ℕ) → AreFresh (shapes program unit.formals) 0 (outer_scope sub unit cells)
    pub backs : (cells : ℕ) → AreBack (shapes program unit.formals) 0 (sub_scope sub unit cells)
    pub stands : (cells : ℕ) → is.frame ≤ cells → Stands c (sub_code (sub_scope sub unit cells).scope unit) is.entry to
    pub fitted : (cells : ℕ) → is.frame ≤ cells → FittedStmt program globals mains epar par (sub_scope sub unit cells) (Block unit.body.decls unit.body.stmts unit.body.handlers)

  abbrev pub AllStand : (Sight → Expr → Type 0) → (Sight → Stmt → Type 0) → Code → Type 0
  AllStand epar par c = (sub : ℕ) (unit : Sub) → sub_at program.subs sub ≡ Some unit → BodyStands epar par c sub unit

  -- the main procedure, before its declarations
  abbrev pub main_scope : ℕ → Sight
  main_scope cells = record {
    scope = record {
      object = λ y. None;
      parameter = λ k. None;
      item = λ k. None;
      constant_item = λ k. None;
      target = None;
      handled = None;
      exits = λ n. None;
      text = text;
      free = 0;
      entry = None;
      leaving = ByEnd;
      body = around.Sub 0;
      nest = 0;
    };
    seen = λ y. false;
    main = λ y. false;
    global = λ y. None;
    cells = cells;
    frames = frames;
    outside = [];
    texts = texts;
  }

  -- its declarations, and what follows in their scope
  abbrev pub main_declared : Scope → Decls → (Scope → Emit) → Emit
  main_declared s NoDecl rest = rest s
  main_declared s (DeclareDefault x more) rest =
      defaulted program s s.free x ⨟ main_declared (main_here s (VariableOf x) (length (object_layout program x))) more rest
  main_declared s (DeclareVariable x initial more) rest = put_into program (scope.taking (width program initial) s) 0 s.free initial ⨟ main_declared (main_here s (VariableOf x) (width program initial)) more rest
  main_declared s (DeclareConstant x initial more) rest = put_into program (scope.taking (width program initial) s) 0 s.free initial ⨟ main_declared (main_here s (ConstantOf x) (width program initial)) more rest
  main_declared s (Mentions es more) rest = main_declared s more rest

  abbrev pub FittedMain : (Sight → Expr → Type 0) → Sight → Decls → (Sight → Type 0) → Type 0
  FittedMain epar s NoDecl body = body s
  FittedMain epar s (DeclareDefault y more) body =
      (s.seen (VariableOf y) ≡ false) × (s.scope.free + length (object_layout program y) ≤ s.cells) × Filled program y × FittedMain epar (main_object s (VariableOf y) (length (object_layout program y))) more body
  FittedMain epar s (DeclareVariable y initial more) body =
      (s.seen (VariableOf y) ≡ false) × (s.scope.free + width program initial ≤ s.cells) × FittedValue program globals mains epar (taking (width program initial) s) (width program initial) initial × FittedMain epar (main_object s (VariableOf y) (width program initial)) more body
  FittedMain epar s (DeclareConstant y initial more) body =
      (s.seen (ConstantOf y) ≡ false) × (s.scope.free + width program initial ≤ s.cells) × FittedValue program globals mains epar (taking (width program initial) s) (width program initial) initial × FittedMain epar (main_object s (ConstantOf y) (width program initial)) more body
  FittedMain epar s (Mentions es more) body = FittedMain epar s more body

  abbrev pub main_body : Stmt
  main_body = Block NoDecl program.body.stmts program.body.handlers

  abbrev pub main_code : Scope → Emit
  main_code s = main_declared s program.body.decls (λ t. stmt program t main_body) ⨟ one s 0 i.Halt

  abbrev pub MainFitted : (Sight → Expr → Type 0) → (Sight → Stmt → Type 0) → Sight → Type 0
  MainFitted epar par s = FittedMain epar s program.body.decls (λ t. FittedStmt program globals mains epar par t main_body)
