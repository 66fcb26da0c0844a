-- What a program's names owe to its scope: each is visible and leads to cells of what it names, and the frame has the cells
-- that code takes.
use Rattle.std.specs.Prelude.{◌≡◌, ℕ, ◌+◌, ◌*◌, ◌<◌, ◌≤◌, List, [], ◌∷◌, length, slice_get, Option, Some, None, Bool, true, false, not, ◌&&◌}
use Rattle.behaviours.specs.Paths.{Entity, VariableOf, ConstantOf}
use Rattle.typed_tree.specs.declared.scalars.Scalar.{Scalar}
use Rattle.typed_tree.specs.declared.expressions.Run.{Run}
use Rattle.typed_tree.specs.declared.expressions.Reducer.{Reducer}
use Rattle.typed_tree.specs.declared.expressions.Reducer.TheVariants.{Operator, Function}
use Rattle.typed_tree.specs.Syntax.{Expr, Static, Variable, Constant, Parameter, Target, Group, Unary, Binary, AndThen, OrElse, Relation, Membership, If, Call, Convert, Reduction, Iteration, Range, Components, Pieces, NoPiece, Text, Image, Padded, Optional, Absent, Present, Selections, Whole, Field, Index, Actuals, NoActual, In, InOut, Out, CompositeInOut, CompositeOut, Sub, Value, Number, Cells, Composite, WholeVariable, WholeConstant, WholeTarget, CompositeIf, Aggregate, Associations, NoAssociation, Association, Stmt, Null, Assign, CallProcedure, Exit, Return, ReturnValue, Raise, Reraise, IfThen, Case, Loop, For, ParallelFor, Parallel, Block, Put, Get, Stmts, End, Then, Decls, NoDecl, DeclareDefault, DeclareVariable, DeclareConstant, Mentions, Alternatives, NoAlternative, Alternative, Handlers, NoHandler, Handler, Program}
use Rattle.ada_meaning.specs.Values.{count}
use Rattle.ada_meaning.specs.Meaning.{object_layout, sub_at, formals_of, formal_at}
use Rattle.ada_lower.specs.Sights.{Known, Named, Sight, Where, array_root_of, constant_root_of, item_sight, iterated_sight, object_here, own, passing, range_sight, root_of, taking, with_entry, with_exit, with_handled, with_target}
use Rattle.typed_scopes.specs.Scopes.{Without}
use Rattle.ada_lower.specs.Defaults.{Filled}
use Rattle.ada_lower.specs.Emission.{is_whole, is_repeated, width, Shape, lead, shapes, shapes_cells, formal_of, piece_cells, cells_of, composite_width}

-- from so many cells selections lead to so many among them
abbrev pub Reaches : ℕ → Selections → ℕ → Type 0
Reaches n Whole m = m ≤ n
Reaches n (Field number offset rest) m = (k : ℕ) × (offset + k ≤ n) × Reaches k rest m
Reaches n (Index at e low high stride rest) m = (count low high * stride ≤ n) × Reaches stride rest m

abbrev pub Reached : Option Named → Selections → ℕ → Type 0
Reached o selections m = (n : Named) × (o ≡ Some n) × Reaches n.cells selections m

-- a formal with its place: its cells in the frame of a call begin there
pub record Spot : Type 0 where
  pub shape : Shape
  pub at : ℕ

abbrev pub spot : Entity → (back : Bool) → (cells at : ℕ) → Spot
spot x back cells i = record { shape = record { formal = x; back = back; cells = cells }; at = i }

-- the formals one behind the other, from a cell on
abbrev pub spots : ℕ → List Shape → List Spot
spots i [] = []
spots i (h ∷ hs) = record { shape = h; at = i } ∷ spots (i + lead h.back + h.cells) hs

module _ (program : Program) (globals : ℕ → Entity → Option Named) (mains : Entity → Bool) where
  -- a subprogram that may be called: the main procedure's objects that it sees are there
  pub record Callable (s : Sight) (sub : ℕ) : Type 0 where
    pub unit : Sub
    pub is : sub_at program.subs sub ≡ Some unit
    pub outer : (y : Entity) (n : Named) → globals sub y ≡ Some n → s.global y ≡ Some n
    pub main : (y : Entity) → mains y ≡ false → s.main y ≡ false

  -- the parameter of a function that reduces
  abbrev pub fold_shape : ℕ → ℕ → Shape
  fold_shape sub number = record { formal = ConstantOf (formal_at (formals_of program.subs sub) number); back = false; cells = 1 }

  -- a function that reduces has two parameters, for which there are cells
  abbrev pub FittedFold : Sight → Reducer → Type 0
  FittedFold s (Operator at op class) = Unit {0}
  FittedFold s (Function at sub accumulator value) =
      (u : Callable s sub) × ((k : Scalar) × (u.unit.result ≡ Some k)) × (s.scope.free + 2 ≤ s.cells)
      × (shapes program u.unit.formals ≡ fold_shape sub 0 ∷ fold_shape sub 1 ∷ [])

  -- runs of values of so many cells among so many
  abbrev pub FittedRuns : ℕ → ℕ → List Run → Type 0
  FittedRuns n m [] = Unit {0}
  FittedRuns n m (r ∷ rs) = ((k : ℕ) → k < r.count → r.first + k * r.stride + m ≤ n) × FittedRuns n m rs

  -- the one, or the other
  abbrev pub OneOf : Bool → Type 0 → Type 0 → Type 0
  OneOf true a b = a
  OneOf false a b = b

  -- with what is asked of parallel reductions
  module _ (epar : Sight → Expr → Type 0) where
    abbrev mutual
      pub Fitted : Sight → Expr → Type 0
      Fitted s (Static at value literal mentions) = Unit {0}
      Fitted s (Variable at r selections scalar) = Reached (root_of s.scope r) selections 1 × FittedSelections s selections
      Fitted s (Constant at r selections scalar) = Reached (constant_root_of s.scope r) selections 1 × FittedSelections s selections
      Fitted s (Parameter at k) = (w : Where) × (s.scope.parameter k ≡ Some w)
      Fitted s (Target at scalar) = Reached s.scope.target Whole 1
      Fitted s (Group e) = Fitted s e
      Fitted s (Unary at sign class e) = Fitted s e
      Fitted s (Binary at op class e f) = Fitted s e × Fitted s f
      Fitted s (AndThen e f) = Fitted s e × Fitted s f
      Fitted s (OrElse e f) = Fitted s e × Fitted s f
      Fitted s (Relation class comparison e f) = Fitted s e × Fitted s f
      Fitted s (Membership class negated e low high) = (s.scope.free + 1 < s.cells) × Fitted s e × Fitted (taking 1 s) low × Fitted (taking 2 s) high
      Fitted s (If condition value otherwise) = Fitted s condition × Fitted s value × Fitted s otherwise
      Fitted s (Call at callee sub actuals) =
          (u : Callable s sub) × ((k : Scalar) × (u.unit.result ≡ Some k)) × (s.scope.free + shapes_cells (shapes program u.unit.formals) ≡ (passing program sub s).scope.free) × ((passing program sub s).scope.free ≤ s.cells)
          × FittedIn (passing program sub s) sub s.scope.free (spots 0 (shapes program u.unit.formals)) actuals
      Fitted s (Convert check e) = Fitted s e
      Fitted s (Reduction at attribute by initial (Some site) chunk iteration value) = epar s (Reduction at attribute by initial (Some site) chunk iteration value)
      Fitted s (Reduction at attribute by initial None chunk (Components k constant a r selections count stride dimensions filter) value) =
          Fitted s initial × (s.scope.free + 1 + 1 < s.cells) × Reached (array_root_of constant s.scope r) selections (count * stride) × FittedSelections s selections
          × FittedOptional (item_sight s None constant k stride 0) filter × Fitted (item_sight s None constant k stride 0) value × FittedFold (item_sight s None constant k stride 0) by
      Fitted s (Reduction at attribute by initial None chunk (Range k reverse low high check filter) value) =
          Fitted s initial × (s.scope.free + 1 < s.cells) × Fitted s low × Fitted (taking 1 s) high × FittedOptional (range_sight s None k reverse 0) filter × Fitted (range_sight s None k reverse 0) value × FittedFold (range_sight s None k reverse 0) by

      pub FittedOptional : Sight → Optional → Type 0
      FittedOptional s Absent = Unit {0}
      FittedOptional s (Present e) = Fitted s e

      pub FittedSelections : Sight → Selections → Type 0
      FittedSelections s Whole = Unit {0}
      FittedSelections s (Field number offset rest) = FittedSelections s rest
      FittedSelections s (Index at e low high stride rest) = Fitted s e × FittedSelections s rest

      -- actual parameters of a function, in the order of the text: each has the place of its formal, which no other has
      pub FittedIn : Sight → ℕ → ℕ → List Spot → Actuals → Type 0
      FittedIn s sub w ks NoActual = ks ≡ []
      FittedIn s sub w ks (In formal (Number check e) rest) = (i : ℕ) × (zs : List Spot) × Without (spot (ConstantOf formal) false 1 i) ks zs × (formal_of program sub w (ConstantOf formal) ≡ w + i) × Fitted s e × FittedIn s sub w zs rest
      FittedIn s sub w ks (In formal (Cells value) rest) = (i : ℕ) × (n : ℕ) × (zs : List Spot) × Without (spot (ConstantOf formal) false n i) ks zs × (formal_of program sub w (ConstantOf formal) ≡ w + i) × FittedComposite s n value × FittedIn s sub w zs rest
      FittedIn s sub w ks (InOut formal at r selections inner outer rest) = ⊥
      FittedIn s sub w ks (Out formal at r selections inner outer rest) = ⊥
      FittedIn s sub w ks (CompositeInOut formal at r selections subtype rest) = ⊥
      FittedIn s sub w ks (CompositeOut formal at r selections subtype rest) = ⊥

      pub FittedAssociations : Sight → ℕ → Associations → Type 0
      FittedAssociations s n NoAssociation = Unit {0}
      FittedAssociations s n (Association [] None mentions value rest) = FittedAssociations s n rest
      FittedAssociations s n (Association (r ∷ rs) None mentions value rest) = FittedRuns n (width program value) (r ∷ rs) × OneOf (is_repeated (r ∷ rs) value) ((s.scope.free + 1 < s.cells) × FittedComponent (taking 2 s) value) (FittedValue s (width program value) value) × FittedAssociations s n rest
      FittedAssociations s n (Association runs (Some i) mentions value rest) =
          (s.scope.free + 1 + 1 < s.cells) × FittedRuns n (width program value) runs × FittedComponent (iterated_sight s i.parameter) value × FittedAssociations s n rest

      -- a value that goes to where an address says
      pub FittedComponent : Sight → Value → Type 0
      FittedComponent s (Number check e) = Fitted s e
      FittedComponent s (Cells value) = (s.scope.free + composite_width program value ≤ s.cells) × FittedComposite (taking (composite_width program value) s) (composite_width program value) value

      pub FittedComposite : Sight → ℕ → Composite → Type 0
      FittedComposite s n (WholeVariable at r selections subtype) = (cells_of program subtype ≡ n) × Reached (root_of s.scope r) selections n × FittedSelections s selections
      FittedComposite s n (WholeConstant at r selections subtype) = (cells_of program subtype ≡ n) × Reached (constant_root_of s.scope r) selections n × FittedSelections s selections
      FittedComposite s n (WholeTarget at subtype) = (cells_of program subtype ≡ n) × (m : Named) × (s.scope.target ≡ Some m) × (n ≤ m.cells)
      FittedComposite s n (CompositeIf condition value otherwise) = Fitted s condition × FittedComposite s n value × FittedComposite s n otherwise
      FittedComposite s n (Aggregate at size associations) = (size ≡ n) × FittedAssociations s n associations

      -- a value of so many cells
      pub FittedValue : Sight → ℕ → Value → Type 0
      FittedValue s n (Number check e) = (n ≡ 1) × Fitted s e
      FittedValue s n (Cells value) = FittedComposite s n value

    -- a value may be that of a part that is repeated
    abbrev pub FittedGiven : Bool → Sight → Value → Type 0
    FittedGiven repeated s value = OneOf repeated ((s.scope.free + 1 < s.cells) × FittedComponent (taking 2 s) value) (FittedValue s (width program value) value)

    -- an assigned expression, where the target is a whole object that is here, and where its address is kept
    abbrev pub FittedTarget : Sight → Bool → Named → Expr → Type 0
    FittedTarget s true n e = Fitted (with_target n s) e
    FittedTarget s false n e = (s.scope.free < s.cells) × Fitted (with_target (record { through = true; place = own s.scope.free; cells = 1 }) (taking 1 s)) e

    abbrev pub FittedPieces : Sight → Pieces → Type 0
    FittedPieces s NoPiece = Unit {0}
    FittedPieces s (Text bytes rest) = (slice_get s.texts (s.scope.text bytes) ≡ Some bytes) × FittedPieces s rest
    FittedPieces s (Image class e rest) = Fitted s e × FittedPieces (taking 1 s) rest
    FittedPieces s (Padded class e (Static at value literal mentions) rest) = Fitted s e × FittedPieces (taking 1 s) rest
    FittedPieces s (Padded class e width rest) = ⊥

    -- actual parameters of a procedure, likewise
    abbrev pub FittedActuals : Sight → ℕ → ℕ → List Spot → Actuals → Type 0
    FittedActuals s sub w ks NoActual = ks ≡ []
    FittedActuals s sub w ks (In formal value rest) =
        (i : ℕ) × (n : ℕ) × (zs : List Spot) × Without (spot (ConstantOf formal) false n i) ks zs × (formal_of program sub w (ConstantOf formal) ≡ w + i) × FittedValue s n value × FittedActuals s sub w zs rest
    FittedActuals s sub w ks (InOut formal at r selections inner outer rest) =
        (i : ℕ) × (zs : List Spot) × Without (spot (VariableOf formal) true 1 i) ks zs × (formal_of program sub w (VariableOf formal) ≡ w + i) × Reached (root_of s.scope r) selections 1 × FittedSelections s selections × FittedActuals s sub w zs rest
    FittedActuals s sub w ks (Out formal at r selections inner outer rest) =
        (i : ℕ) × (zs : List Spot) × Without (spot (VariableOf formal) true 1 i) ks zs × (formal_of program sub w (VariableOf formal) ≡ w + i) × Reached (root_of s.scope r) selections 1 × FittedSelections s selections × FittedActuals s sub w zs rest
    FittedActuals s sub w ks (CompositeInOut formal at r selections subtype rest) =
        (i : ℕ) × (zs : List Spot) × Without (spot (VariableOf formal) true (cells_of program subtype) i) ks zs × (formal_of program sub w (VariableOf formal) ≡ w + i) × Reached (root_of s.scope r) selections (cells_of program subtype) × FittedSelections s selections × FittedActuals s sub w zs rest
    FittedActuals s sub w ks (CompositeOut formal at r selections subtype rest) =
        (i : ℕ) × (zs : List Spot) × Without (spot (VariableOf formal) true (cells_of program subtype) i) ks zs × (formal_of program sub w (VariableOf formal) ≡ w + i) × Reached (root_of s.scope r) selections (cells_of program subtype) × FittedSelections s selections × FittedActuals s sub w zs rest

    -- declarations, with what is asked of what follows; none is of an object that is visible
    abbrev pub FittedDecls : Sight → Decls → (Sight → Type 0) → Type 0
    FittedDecls s NoDecl body = body s
    FittedDecls s (DeclareDefault y more) body =
        (s.seen (VariableOf y) ≡ false) × (s.scope.free + length (object_layout program y) ≤ s.cells) × Filled program y × FittedDecls (object_here s (VariableOf y) (length (object_layout program y))) more body
    FittedDecls s (DeclareVariable y initial more) body =
        (s.seen (VariableOf y) ≡ false) × (s.scope.free + width program initial ≤ s.cells) × FittedValue (taking (width program initial) s) (width program initial) initial × FittedDecls (object_here s (VariableOf y) (width program initial)) more body
    FittedDecls s (DeclareConstant y initial more) body =
        (s.seen (ConstantOf y) ≡ false) × (s.scope.free + width program initial ≤ s.cells) × FittedValue (taking (width program initial) s) (width program initial) initial × FittedDecls (object_here s (ConstantOf y) (width program initial)) more body
    FittedDecls s (Mentions es more) body = FittedDecls s more body

    -- an iteration, with what is asked of its body
    abbrev pub FittedIteration : Sight → Option ℕ → Iteration → (Sight → Type 0) → Type 0
    FittedIteration s number (Range k reverse low high check filter) body =
        (s.scope.free + 1 < s.cells) × Fitted s low × Fitted (taking 1 s) high × ((exit : ℕ) → FittedOptional (range_sight s number k reverse exit) filter × body (range_sight s number k reverse exit))
    FittedIteration s number (Components k constant at r selections count stride dimensions filter) body =
        (s.scope.free + 1 + 1 < s.cells) × Reached (array_root_of constant s.scope r) selections (count * stride) × FittedSelections s selections
        × ((exit : ℕ) → FittedOptional (item_sight s number constant k stride exit) filter × body (item_sight s number constant k stride exit))

    -- with what is asked of parallel constructs
    module _ (par : Sight → Stmt → Type 0) where
      abbrev mutual
        pub FittedStmt : Sight → Stmt → Type 0
        FittedStmt s Null = Unit {0}
        FittedStmt s (Assign at r selections (Number check e)) =
            (n : Named) × (root_of s.scope r ≡ Some n) × Reaches n.cells selections 1 × FittedSelections s selections × FittedTarget s (is_whole selections && not n.through) n e
        FittedStmt s (Assign at r selections (Cells value)) =
            Reached (root_of s.scope r) selections (composite_width program value) × FittedSelections s selections × (s.scope.free + 1 + composite_width program value ≤ s.cells)
            × FittedComposite (with_target (record { through = true; place = own s.scope.free; cells = composite_width program value }) (taking (composite_width program value) (taking 1 s))) (composite_width program value) value
        FittedStmt s (CallProcedure at callee sub actuals) =
            (u : Callable s sub) × (u.unit.result ≡ None) × (s.scope.free + shapes_cells (shapes program u.unit.formals) ≡ (passing program sub s).scope.free) × ((passing program sub s).scope.free ≤ s.cells)
            × FittedActuals (passing program sub s) sub s.scope.free (spots 0 (shapes program u.unit.formals)) actuals
        FittedStmt s (Exit loop condition) = Known s loop × FittedOptional s condition
        FittedStmt s Return = Unit {0}
        FittedStmt s (ReturnValue (Number check e)) = Fitted s e
        FittedStmt s (ReturnValue (Cells value)) = ⊥
        FittedStmt s (Raise r) = Unit {0}
        FittedStmt s Reraise = (w : Where) × (s.scope.handled ≡ Some w)
        FittedStmt s (IfThen condition stmts otherwise) = Fitted s condition × FittedAll s stmts × FittedAll s otherwise
        FittedStmt s (Case e alternatives) = (s.scope.free < s.cells) × Fitted s e × FittedAlternatives (taking 1 s) alternatives
        FittedStmt s (Loop number condition stmts) = FittedOptional s condition × ((to : ℕ) → FittedAll (with_exit number to s) stmts)
        FittedStmt s (For number iteration stmts) = FittedIteration s (Some number) iteration (λ t. FittedAll t stmts)
        FittedStmt s (ParallelFor number site chunk iteration stmts) = par s (ParallelFor number site chunk iteration stmts)
        FittedStmt s (Parallel site count arms) = par s (Parallel site count arms)
        FittedStmt s (Block decls stmts NoHandler) = FittedDecls s decls (λ t. FittedAll t stmts)
        FittedStmt s (Block decls stmts (Handler handled first rest)) =
            FittedDecls s decls (λ t. (t.scope.free < t.cells) × ((h : ℕ) → FittedAll (with_entry h t) stmts) × FittedAll (with_handled (own t.scope.free) (taking 1 t)) first × FittedHandlers (with_handled (own t.scope.free) (taking 1 t)) rest)
        FittedStmt s (Put at callee pieces line) = (s.scope.free + piece_cells pieces ≤ s.cells) × FittedPieces s pieces
        FittedStmt s (Get at callee first r selections scalar) = Reached (root_of s.scope r) selections 1 × FittedSelections s selections

        pub FittedAll : Sight → Stmts → Type 0
        FittedAll s End = Unit {0}
        FittedAll s (Then first more) = FittedStmt s first × FittedAll s more

        pub FittedAlternatives : Sight → Alternatives → Type 0
        FittedAlternatives s NoAlternative = Unit {0}
        FittedAlternatives s (Alternative others choices mentions stmts rest) = FittedAll s stmts × FittedAlternatives s rest

        pub FittedHandlers : Sight → Handlers → Type 0
        FittedHandlers s NoHandler = Unit {0}
        FittedHandlers s (Handler handled stmts rest) = FittedAll s stmts × FittedHandlers s rest
