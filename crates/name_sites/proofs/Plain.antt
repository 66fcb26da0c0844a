-- A number stands no more often than it counts.
use Rattle.std.proofs.Common.{List, [], arith, ℕ, ◌≤◌, ◌∷◌}
use Rattle.typed_tree.specs.Syntax.{Absent, Actuals, Aggregate, Alternative, Alternatives, AlsoExpr, AndThen, Arm, Arms, Assign, Association, Associations, Binary, Block, Body, Call, CallProcedure, Case, Cells, Chunk, Components, Composite, CompositeIf, CompositeInOut, CompositeOut, Constant, Convert, Count, DeclareConstant, DeclareDefault, DeclareVariable, Decls, Each, End, Exit, Expr, Exprs, Field, For, Get, Group, Handler, Handlers, If, IfThen, Image, In, InOut, Index, Iteration, Loop, Membership, Mentions, NoActual, NoAlternative, NoArm, NoAssociation, NoChunk, NoDecl, NoExpr, NoHandler, NoPiece, Null, Number, Optional, OrElse, Out, Padded, Parallel, ParallelFor, Parameter, Pieces, Present, Program, Put, Raise, Range, Reduction, Relation, Reraise, Return, ReturnValue, Selections, Static, Stmt, Stmts, Sub, Target, Text, Then, Unary, Value, Variable, Whole, WholeConstant, WholeTarget, WholeVariable}
use Rattle.typed_sites.specs.Sites as plain
use Rattle.name_sites.proofs.Counts.{in_actuals, in_alternatives, in_arms, in_associations, in_body, in_chunk, in_composite, in_decls, in_expr, in_exprs, in_handlers, in_iteration, in_optional, in_pieces, in_selections, in_stmt, in_stmts, in_value, in_program, in_subs}

mutual
  pub p-expr : (s : ℕ) (x : Expr) → plain.in_expr s x ≤ in_expr s x
  p-expr s (Static at z alone mentions) = omega (arith, p-exprs s mentions)
  p-expr s (Variable at root ss scalar) = omega (arith, p-selections s ss)
  p-expr s (Constant at root ss scalar) = omega (arith, p-selections s ss)
  p-expr s (Parameter at n) = omega arith
  p-expr s (Target at scalar) = omega arith
  p-expr s (Group e) = omega (arith, p-expr s e)
  p-expr s (Unary at o c e) = omega (arith, p-expr s e)
  p-expr s (Binary at o c l r) = omega (arith, p-expr s l, p-expr s r)
  p-expr s (AndThen l r) = omega (arith, p-expr s l, p-expr s r)
  p-expr s (OrElse l r) = omega (arith, p-expr s l, p-expr s r)
  p-expr s (Relation c by l r) = omega (arith, p-expr s l, p-expr s r)
  p-expr s (Membership c negated e low high) = omega (arith, p-expr s e, p-expr s low, p-expr s high)
  p-expr s (If c v o) = omega (arith, p-expr s c, p-expr s v, p-expr s o)
  p-expr s (Call at callee n as') = omega (arith, p-actuals s as')
  p-expr s (Convert check e) = omega (arith, p-expr s e)
  p-expr s (Reduction at a by initial site chunk iteration v) = omega (arith, p-expr s initial, p-chunk s chunk, p-iteration s iteration, p-expr s v)

  pub p-exprs : (s : ℕ) (x : Exprs) → plain.in_exprs s x ≤ in_exprs s x
  p-exprs s NoExpr = omega arith
  p-exprs s (AlsoExpr e es) = omega (arith, p-expr s e, p-exprs s es)

  pub p-optional : (s : ℕ) (x : Optional) → plain.in_optional s x ≤ in_optional s x
  p-optional s Absent = omega arith
  p-optional s (Present e) = omega (arith, p-expr s e)

  pub p-selections : (s : ℕ) (x : Selections) → plain.in_selections s x ≤ in_selections s x
  p-selections s Whole = omega arith
  p-selections s (Field n offset ss) = omega (arith, p-selections s ss)
  p-selections s (Index at e low high stride ss) = omega (arith, p-expr s e, p-selections s ss)

  pub p-actuals : (s : ℕ) (x : Actuals) → plain.in_actuals s x ≤ in_actuals s x
  p-actuals s NoActual = omega arith
  p-actuals s (In formal v as') = omega (arith, p-value s v, p-actuals s as')
  p-actuals s (InOut formal at root ss a b as') = omega (arith, p-selections s ss, p-actuals s as')
  p-actuals s (Out formal at root ss a b as') = omega (arith, p-selections s ss, p-actuals s as')
  p-actuals s (CompositeInOut formal at root ss n as') = omega (arith, p-selections s ss, p-actuals s as')
  p-actuals s (CompositeOut formal at root ss n as') = omega (arith, p-selections s ss, p-actuals s as')

  pub p-value : (s : ℕ) (x : Value) → plain.in_value s x ≤ in_value s x
  p-value s (Number check e) = omega (arith, p-expr s e)
  p-value s (Cells c) = omega (arith, p-composite s c)

  pub p-composite : (s : ℕ) (x : Composite) → plain.in_composite s x ≤ in_composite s x
  p-composite s (WholeVariable at root ss n) = omega (arith, p-selections s ss)
  p-composite s (WholeConstant at root ss n) = omega (arith, p-selections s ss)
  p-composite s (WholeTarget at n) = omega arith
  p-composite s (CompositeIf c v o) = omega (arith, p-expr s c, p-composite s v, p-composite s o)
  p-composite s (Aggregate at cells as') = omega (arith, p-associations s as')

  pub p-associations : (s : ℕ) (x : Associations) → plain.in_associations s x ≤ in_associations s x
  p-associations s NoAssociation = omega arith
  p-associations s (Association runs iterated mentions v as') = omega (arith, p-exprs s mentions, p-value s v, p-associations s as')

  pub p-iteration : (s : ℕ) (x : Iteration) → plain.in_iteration s x ≤ in_iteration s x
  p-iteration s (Range n backwards low high check filter) = omega (arith, p-expr s low, p-expr s high, p-optional s filter)
  p-iteration s (Components item constant at root ss count stride dimensions filter) = omega (arith, p-selections s ss, p-optional s filter)

  pub p-chunk : (s : ℕ) (x : Chunk) → plain.in_chunk s x ≤ in_chunk s x
  p-chunk s NoChunk = omega arith
  p-chunk s (Count e) = omega (arith, p-expr s e)
  p-chunk s (Each n low high check) = omega (arith, p-expr s low, p-expr s high)

pub p-pieces : (s : ℕ) (x : Pieces) → plain.in_pieces s x ≤ in_pieces s x
p-pieces s NoPiece = omega arith
p-pieces s (Text bytes ps) = omega (arith, p-pieces s ps)
p-pieces s (Image c e ps) = omega (arith, p-expr s e, p-pieces s ps)
p-pieces s (Padded c e width ps) = omega (arith, p-expr s e, p-expr s width, p-pieces s ps)

pub p-decls : (s : ℕ) (x : Decls) → plain.in_decls s x ≤ in_decls s x
p-decls s NoDecl = omega arith
p-decls s (DeclareDefault n ds) = omega (arith, p-decls s ds)
p-decls s (DeclareVariable n v ds) = omega (arith, p-value s v, p-decls s ds)
p-decls s (DeclareConstant n v ds) = omega (arith, p-value s v, p-decls s ds)
p-decls s (Mentions es ds) = omega (arith, p-exprs s es, p-decls s ds)

mutual
  pub p-stmt : (s : ℕ) (x : Stmt) → plain.in_stmt s x ≤ in_stmt s x
  p-stmt s Null = omega arith
  p-stmt s (Assign at root ss v) = omega (arith, p-selections s ss, p-value s v)
  p-stmt s (CallProcedure at callee n as') = omega (arith, p-actuals s as')
  p-stmt s (Exit n condition) = omega (arith, p-optional s condition)
  p-stmt s Return = omega arith
  p-stmt s (ReturnValue v) = omega (arith, p-value s v)
  p-stmt s (Raise reason) = omega arith
  p-stmt s Reraise = omega arith
  p-stmt s (IfThen c ss otherwise) = omega (arith, p-expr s c, p-stmts s ss, p-stmts s otherwise)
  p-stmt s (Case e as') = omega (arith, p-expr s e, p-alternatives s as')
  p-stmt s (Loop n condition ss) = omega (arith, p-optional s condition, p-stmts s ss)
  p-stmt s (For n iteration ss) = omega (arith, p-iteration s iteration, p-stmts s ss)
  p-stmt s (ParallelFor n site chunk iteration ss) = omega (arith, p-chunk s chunk, p-iteration s iteration, p-stmts s ss)
  p-stmt s (Parallel site count arms) = omega (arith, p-optional s count, p-arms s arms)
  p-stmt s (Block ds ss hs) = omega (arith, p-decls s ds, p-stmts s ss, p-handlers s hs)
  p-stmt s (Put at callee ps line) = omega (arith, p-pieces s ps)
  p-stmt s (Get at callee first root ss scalar) = omega (arith, p-selections s ss)

  pub p-stmts : (s : ℕ) (x : Stmts) → plain.in_stmts s x ≤ in_stmts s x
  p-stmts s End = omega arith
  p-stmts s (Then t ts) = omega (arith, p-stmt s t, p-stmts s ts)

  pub p-alternatives : (s : ℕ) (x : Alternatives) → plain.in_alternatives s x ≤ in_alternatives s x
  p-alternatives s NoAlternative = omega arith
  p-alternatives s (Alternative others spans mentions ss as') = omega (arith, p-exprs s mentions, p-stmts s ss, p-alternatives s as')

  pub p-arms : (s : ℕ) (x : Arms) → plain.in_arms s x ≤ in_arms s x
  p-arms s NoArm = omega arith
  p-arms s (Arm ss as') = omega (arith, p-stmts s ss, p-arms s as')

  pub p-handlers : (s : ℕ) (x : Handlers) → plain.in_handlers s x ≤ in_handlers s x
  p-handlers s NoHandler = omega arith
  p-handlers s (Handler handled ss hs) = omega (arith, p-stmts s ss, p-handlers s hs)

pub p-body : (s : ℕ) (x : Body) → plain.in_body s x ≤ in_body s x
p-body s b = omega (arith, p-decls s b.decls, p-stmts s b.stmts, p-handlers s b.handlers)

pub p-subs : (s : ℕ) (x : List Sub) → plain.in_subs s x ≤ in_subs s x
p-subs s [] = omega arith
p-subs s (u ∷ us) = omega (arith, p-body s u.body, p-subs s us)

pub p-program : (s : ℕ) (p : Program) → plain.in_program s p ≤ in_program s p
p-program s p = omega (arith, p-subs s p.subs, p-body s p.body)
