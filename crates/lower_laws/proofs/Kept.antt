-- What is found of a program's constructs and objects stays found.
use Rattle.std.proofs.Common.{ℕ, ◌+◌, List, [], ◌∷◌, ◌++◌, length, inl, inr, Option, Some, None, Bool, false, refl}
use Rattle.behaviours.specs.Paths.{Entity, VariableOf, ConstantOf}
use Rattle.typed_tree.specs.Syntax.{Expr, Static, Variable, Constant, Parameter, Target, Group, Unary, Binary, AndThen, OrElse, Relation, Membership, If, Call, Convert, Reduction, Optional, Absent, Present, Selections, Whole, Field, Index, Actuals, NoActual, In, InOut, Out, CompositeInOut, CompositeOut, Value, Number, Cells, Composite, WholeVariable, WholeConstant, WholeTarget, CompositeIf, Aggregate, Associations, NoAssociation, Association, Iteration, Range, Components, Chunk, NoChunk, Count, Each, Pieces, NoPiece, Text, Image, Padded, Decls, NoDecl, DeclareDefault, DeclareVariable, DeclareConstant, Mentions, Stmt, Null, Assign, CallProcedure, Exit, Return, ReturnValue, Raise, Reraise, IfThen, Case, Loop, For, ParallelFor, Parallel, Block, Put, Get, Stmts, End, Then, Alternatives, NoAlternative, Alternative, Arms, NoArm, Arm, Handlers, NoHandler, Handler, Sub, Program}
use Rattle.ada_meaning.specs.Meaning.{object_layout}
use Rattle.lower_emission.specs.Emission.{Shape, lead, shapes, width}
use Rattle.ada_lower.specs.declared.types.Home.{Home}
use Rattle.ada_lower.specs.declared.types.Standing.{Standing}
use Rattle.ada_lower.specs.Homes.{behind, decl_homes, formal_home, formal_homes, subs_homes, turn_cells}
use Rattle.ada_lower.specs.Homes.{arm_homes, case_homes, handler_homes, stmt_homes, stmts_homes}
use Rattle.ada_lower.specs.Standings.{depth_in, subs_standings, with_site}
use Rattle.ada_lower.specs.Standings.{actuals_standings, arm_standings, associations_standings, case_standings, chunk_standings, composite_standings, decls_standings, expr_standings, handler_standings, iteration_standings, optional_standings, pieces_standings, selections_standings, stmt_standings, stmts_standings, value_standings}
use Rattle.ada_lower.specs.Lending.{Among}

pub among_left : {A : Type 0} (x : A) (xs ys : List A) → Among x xs → Among x (xs ++ ys)
among_left x [] ys h = absurd h
among_left x (z ∷ xs) ys (inl e) = inl e
among_left x (z ∷ xs) ys (inr h) = inr (among_left x xs ys h)

pub among_last : {A : Type 0} (x : A) (xs : List A) → Among x (xs ++ x ∷ [])
among_last x [] = inl refl
among_last x (z ∷ xs) = inr (among_last x xs)

module _ (t : Standing) where
  kept_site : (d : ℕ) (site : Option ℕ) (ranges : Bool) (found : List Standing) → Among t found → Among t (with_site d site ranges found)
  kept_site d None ranges found h = h
  kept_site d (Some site) ranges found h = among_left t found _ h

  mutual
    unfolding expr_standings

    pub kept_expr : (d : ℕ) (e : Expr) (found : List Standing) → Among t found → Among t (expr_standings d e found)
    kept_expr d (Static at value literal mentions) found h = h
    kept_expr d (Variable at from g scalar) found h = kept_select d g found h
    kept_expr d (Constant at from g scalar) found h = kept_select d g found h
    kept_expr d (Parameter at k) found h = h
    kept_expr d (Target at scalar) found h = h
    kept_expr d (Group e) found h = kept_expr d e found h
    kept_expr d (Unary at o class e) found h = kept_expr d e found h
    kept_expr d (Binary at o class e f) found h = kept_expr d e _ (kept_expr d f found h)
    kept_expr d (AndThen e f) found h = kept_expr d e _ (kept_expr d f found h)
    kept_expr d (OrElse e f) found h = kept_expr d e _ (kept_expr d f found h)
    kept_expr d (Relation class o e f) found h = kept_expr d e _ (kept_expr d f found h)
    kept_expr d (Membership class negated e low high) found h = kept_expr d high _ (kept_expr d low _ (kept_expr d e found h))
    kept_expr d (If c v o) found h = kept_expr d o _ (kept_expr d v _ (kept_expr d c found h))
    kept_expr d (Call at callee s a) found h = kept_actuals d a found h
    kept_expr d (Convert check e) found h = kept_expr d e found h
    kept_expr d (Reduction at a by initial site chunk it value) found h =
        kept_expr (depth_in d site) value _ (kept_iteration d (depth_in d site) it _ (kept_chunk d chunk _ (kept_expr d initial _ (kept_site d site _ found h))))

    pub kept_optional : (d : ℕ) (e : Optional) (found : List Standing) → Among t found → Among t (optional_standings d e found)
    kept_optional d Absent found h = h
    kept_optional d (Present e) found h = kept_expr d e found h

    pub kept_select : (d : ℕ) (g : Selections) (found : List Standing) → Among t found → Among t (selections_standings d g found)
    kept_select d Whole found h = h
    kept_select d (Field n o g) found h = kept_select d g found h
    kept_select d (Index at e low high stride g) found h = kept_select d g _ (kept_expr d e found h)

    pub kept_actuals : (d : ℕ) (a : Actuals) (found : List Standing) → Among t found → Among t (actuals_standings d a found)
    kept_actuals d NoActual found h = h
    kept_actuals d (In f v a) found h = kept_actuals d a _ (kept_value d v found h)
    kept_actuals d (InOut f at from g x y a) found h = kept_actuals d a _ (kept_select d g found h)
    kept_actuals d (Out f at from g x y a) found h = kept_actuals d a _ (kept_select d g found h)
    kept_actuals d (CompositeInOut f at from g u a) found h = kept_actuals d a _ (kept_select d g found h)
    kept_actuals d (CompositeOut f at from g u a) found h = kept_actuals d a _ (kept_select d g found h)

    pub kept_value : (d : ℕ) (v : Value) (found : List Standing) → Among t found → Among t (value_standings d v found)
    kept_value d (Number c e) found h = kept_expr d e found h
    kept_value d (Cells c) found h = kept_composite d c found h

    pub kept_composite : (d : ℕ) (c : Composite) (found : List Standing) → Among t found → Among t (composite_standings d c found)
    kept_composite d (WholeVariable at from g u) found h = kept_select d g found h
    kept_composite d (WholeConstant at from g u) found h = kept_select d g found h
    kept_composite d (WholeTarget at u) found h = h
    kept_composite d (CompositeIf c v o) found h = kept_composite d o _ (kept_composite d v _ (kept_expr d c found h))
    kept_composite d (Aggregate at size a) found h = kept_associations d a found h

    pub kept_associations : (d : ℕ) (a : Associations) (found : List Standing) → Among t found → Among t (associations_standings d a found)
    kept_associations d NoAssociation found h = h
    kept_associations d (Association [] it es v a) found h = kept_associations d a found h
    kept_associations d (Association (r ∷ rs) it es v a) found h = kept_associations d a _ (kept_value d v found h)

    pub kept_iteration : (d i : ℕ) (it : Iteration) (found : List Standing) → Among t found → Among t (iteration_standings d i it found)
    kept_iteration d i (Range k reverse low high check filter) found h = kept_optional i filter _ (kept_expr d high _ (kept_expr d low found h))
    kept_iteration d i (Components k constant at from g count stride dimensions filter) found h = kept_optional i filter _ (kept_select d g found h)

    pub kept_chunk : (d : ℕ) (c : Chunk) (found : List Standing) → Among t found → Among t (chunk_standings d c found)
    kept_chunk d NoChunk found h = h
    kept_chunk d (Count e) found h = kept_expr d e found h
    kept_chunk d (Each k low high check) found h = kept_expr d high _ (kept_expr d low found h)

  pub kept_pieces : (d : ℕ) (p : Pieces) (found : List Standing) → Among t found → Among t (pieces_standings d p found)
  unfolding pieces_standings
  kept_pieces d NoPiece found h = h
  kept_pieces d (Text bytes p) found h = kept_pieces d p found h
  kept_pieces d (Image class e p) found h = kept_pieces d p _ (kept_expr d e found h)
  kept_pieces d (Padded class e wide p) found h = kept_pieces d p _ (kept_expr d e found h)

  pub kept_decls : (d : ℕ) (x : Decls) (found : List Standing) → Among t found → Among t (decls_standings d x found)
  unfolding decls_standings
  kept_decls d NoDecl found h = h
  kept_decls d (DeclareDefault x more) found h = kept_decls d more found h
  kept_decls d (DeclareVariable x v more) found h = kept_decls d more _ (kept_value d v found h)
  kept_decls d (DeclareConstant x v more) found h = kept_decls d more _ (kept_value d v found h)
  kept_decls d (Mentions es more) found h = kept_decls d more found h

  mutual
    unfolding stmt_standings

    pub kept_stmt : (d : ℕ) (s : Stmt) (found : List Standing) → Among t found → Among t (stmt_standings d s found)
    kept_stmt d Null found h = h
    kept_stmt d (Assign at from g v) found h = kept_value d v _ (kept_select d g found h)
    kept_stmt d (CallProcedure at callee s a) found h = kept_actuals d a found h
    kept_stmt d (Exit n c) found h = kept_optional d c found h
    kept_stmt d Return found h = h
    kept_stmt d (ReturnValue v) found h = kept_value d v found h
    kept_stmt d (Raise x) found h = h
    kept_stmt d Reraise found h = h
    kept_stmt d (IfThen c s u) found h = kept_all d u _ (kept_all d s _ (kept_expr d c found h))
    kept_stmt d (Case e a) found h = kept_cases d a _ (kept_expr d e found h)
    kept_stmt d (Loop n c s) found h = kept_all d s _ (kept_optional d c found h)
    kept_stmt d (For n it s) found h = kept_all d s _ (kept_iteration d d it found h)
    kept_stmt d (ParallelFor n site chunk it s) found h = kept_all (d + 1) s _ (kept_iteration d (d + 1) it _ (kept_chunk d chunk _ (among_left t found _ h)))
    kept_stmt d (Parallel site count a) found h = kept_arms (d + 1) a _ (kept_optional d count _ (among_left t found _ h))
    kept_stmt d (Block x s hs) found h = kept_handlers d hs _ (kept_all d s _ (kept_decls d x found h))
    kept_stmt d (Put at callee p line) found h = kept_pieces d p found h
    kept_stmt d (Get at callee first from g scalar) found h = kept_select d g found h

    pub kept_all : (d : ℕ) (s : Stmts) (found : List Standing) → Among t found → Among t (stmts_standings d s found)
    kept_all d End found h = h
    kept_all d (Then s ss) found h = kept_all d ss _ (kept_stmt d s found h)

    pub kept_cases : (d : ℕ) (a : Alternatives) (found : List Standing) → Among t found → Among t (case_standings d a found)
    kept_cases d NoAlternative found h = h
    kept_cases d (Alternative o c es s a) found h = kept_cases d a _ (kept_all d s found h)

    pub kept_arms : (d : ℕ) (a : Arms) (found : List Standing) → Among t found → Among t (arm_standings d a found)
    kept_arms d NoArm found h = h
    kept_arms d (Arm s a) found h = kept_arms d a _ (kept_all d s found h)

    pub kept_handlers : (d : ℕ) (hs : Handlers) (found : List Standing) → Among t found → Among t (handler_standings d hs found)
    kept_handlers d NoHandler found h = h
    kept_handlers d (Handler x s hs) found h = kept_handlers d hs _ (kept_all d s found h)

  pub kept_subs : (subs : List Sub) (found : List Standing) → Among t found → Among t (subs_standings subs found)
  unfolding stmt_standings handler_standings
  kept_subs [] found h = h
  kept_subs (u ∷ us) found h = kept_subs us _ (kept_stmt 0 (Block u.body.decls u.body.stmts u.body.handlers) found h)

-- ---- objects

module _ (program : Program) (t : Home) where
  pub home_decls : (main : Bool) (d n : ℕ) (x : Decls) (found : List Home) → Among t found → Among t (decl_homes program main d n x found)
  home_decls main d n NoDecl found h = h
  home_decls main d n (DeclareDefault x more) found h = home_decls main d (n + length (object_layout program x)) more _ (among_left t found _ h)
  home_decls main d n (DeclareVariable x v more) found h = home_decls main d (n + width program v) more _ (among_left t found _ h)
  home_decls main d n (DeclareConstant x v more) found h = home_decls main d (n + width program v) more found h
  home_decls main d n (Mentions es more) found h = home_decls main d n more found h

  mutual
    unfolding stmt_homes

    pub home_stmt : (d n : ℕ) (s : Stmt) (found : List Home) → Among t found → Among t (stmt_homes program d n s found)
    home_stmt d n Null found h = h
    home_stmt d n (Assign at from g v) found h = h
    home_stmt d n (CallProcedure at callee s a) found h = h
    home_stmt d n (Exit m c) found h = h
    home_stmt d n Return found h = h
    home_stmt d n (ReturnValue v) found h = h
    home_stmt d n (Raise x) found h = h
    home_stmt d n Reraise found h = h
    home_stmt d n (IfThen c s u) found h = home_all d n u _ (home_all d n s found h)
    home_stmt d n (Case e a) found h = home_cases d (n + 1) a found h
    home_stmt d n (Loop m c s) found h = home_all d n s found h
    home_stmt d n (For m it s) found h = home_all d (n + turn_cells it) s found h
    home_stmt d n (ParallelFor m site chunk it s) found h = home_all (d + 1) (2 + turn_cells it) s found h
    home_stmt d n (Parallel site count a) found h = home_arms (d + 1) 4 a found h
    home_stmt d n (Block x s hs) found h = home_handlers d (behind program n x + 1) hs _ (home_all d (behind program n x) s _ (home_decls false d n x found h))
    home_stmt d n (Put at callee p line) found h = h
    home_stmt d n (Get at callee first from g scalar) found h = h

    pub home_all : (d n : ℕ) (s : Stmts) (found : List Home) → Among t found → Among t (stmts_homes program d n s found)
    home_all d n End found h = h
    home_all d n (Then s ss) found h = home_all d n ss _ (home_stmt d n s found h)

    pub home_cases : (d n : ℕ) (a : Alternatives) (found : List Home) → Among t found → Among t (case_homes program d n a found)
    home_cases d n NoAlternative found h = h
    home_cases d n (Alternative o c es s a) found h = home_cases d n a _ (home_all d n s found h)

    pub home_arms : (d n : ℕ) (a : Arms) (found : List Home) → Among t found → Among t (arm_homes program d n a found)
    home_arms d n NoArm found h = h
    home_arms d n (Arm s a) found h = home_arms d n a _ (home_all d n s found h)

    pub home_handlers : (d n : ℕ) (hs : Handlers) (found : List Home) → Among t found → Among t (handler_homes program d n hs found)
    home_handlers d n NoHandler found h = h
    home_handlers d n (Handler x s hs) found h = home_handlers d n hs _ (home_all d n s found h)

  home_formal : (n : ℕ) (x : Entity) (cells : ℕ) (found : List Home) → Among t found → Among t (formal_home n x cells found)
  home_formal n (VariableOf x) cells found h = among_left t found _ h
  home_formal n (ConstantOf x) cells found h = h

  pub home_formals : (n : ℕ) (hs : List Shape) (found : List Home) → Among t found → Among t (formal_homes n hs found)
  home_formals n [] found h = h
  home_formals n (s ∷ hs) found h = home_formals (n + lead s.back + s.cells) hs _ (home_formal (n + lead s.back) s.formal s.cells found h)

  pub home_subs : (subs : List Sub) (found : List Home) → Among t found → Among t (subs_homes program subs found)
  unfolding stmt_homes
  home_subs [] found h = h
  home_subs (u ∷ us) found h = home_subs us _ (home_stmt 0 _ (Block u.body.decls u.body.stmts u.body.handlers) _ (home_formals 0 (shapes program u.formals) found h))
