-- What is counted in a typed program, against what is written on the way: constructs by their number, and reductions whose
-- iterations go backwards. What is mentioned and not evaluated counts too.
use Rattle.std.specs.Prelude.{List, None, Option, Some, [], false, length, true, ℕ, ◌+◌, ◌≤◌, ◌∷◌}
use Rattle.typed_tree.specs.Syntax.{Absent, Actuals, Aggregate, Alternative, Alternatives, AlsoExpr, AndThen, Arm, Arms, Assign, Association, Associations, Binary, Block, Body, Call, CallProcedure, Case, Cells, Chunk, Components, Composite, CompositeIf, CompositeInOut, CompositeOut, Constant, Convert, Count, DeclareConstant, DeclareDefault, DeclareVariable, Decls, Each, End, Exit, Expr, Exprs, Field, For, Get, Group, Handler, Handlers, If, IfThen, Image, In, InOut, Index, Iteration, Loop, Membership, Mentions, NoActual, NoAlternative, NoArm, NoAssociation, NoChunk, NoDecl, NoExpr, NoHandler, NoPiece, Null, Number, Optional, OrElse, Out, Padded, Parallel, ParallelFor, Parameter, Pieces, Present, Program, Put, Raise, Range, Reduction, Relation, Reraise, Return, ReturnValue, Selections, Static, Stmt, Stmts, Sub, Target, Text, Then, Unary, Value, Variable, Whole, WholeConstant, WholeTarget, WholeVariable}
use Rattle.name_rules.specs.Iterations.{reverse_rule}
use Rattle.name_rules.specs.Parts.{new_site}
use Rattle.name_rules.specs.declared.log.Log.{Log}
use Rattle.name_rules.specs.declared.scope.Context.{Context}
use Rattle.typed_tree.specs.declared.program.SiteKind.{SiteKind}

-- at least as many sites and faults
abbrev pub More : Log → Log → Type 0
More a b = (length a.sites ≤ length b.sites) × (length a.faults ≤ length b.faults)

-- a reduction counts as well where `reverse` is written
abbrev pub turned_by : ℕ → Option ℕ → ℕ
turned_by n None = 0
turned_by n (Some at) = n

-- what a construct of a number counts for, and a reduction that goes backwards; what is left for that falls, and what is owed
-- for that grows, as more is written
pub record Tally : Type 0 where
  pub number : ℕ → ℕ
  pub backwards : ℕ
  pub left : Log → ℕ
  pub owed : Log → ℕ
  pub falls : (a b : Log) → More a b → left b + owed a ≤ left a + owed b
  pub given : (here : Context) (at : ℕ) (k : SiteKind) (log : Log) → number (length log.sites) + left (new_site here at k log).1 + owed log ≤ left log + owed (new_site here at k log).1
  pub broken : (r : Option ℕ) (log : Log) → turned_by backwards r + left (reverse_rule r log).1 + owed log ≤ left log + owed (reverse_rule r log).1

-- a reduction that isn't parallel has no number
abbrev pub in_site : Tally → Option ℕ → ℕ
in_site s None = 0
in_site s (Some n) = s.number n

abbrev pub in_way : Tally → Iteration → ℕ
in_way s (Range n false low high check filter) = 0
in_way s (Range n true low high check filter) = s.backwards
in_way s (Components item constant at root ss count stride dimensions filter) = 0

abbrev mutual
  pub in_expr : Tally → Expr → ℕ
  in_expr s (Static at z alone mentions) = in_exprs s mentions
  in_expr s (Variable at root ss scalar) = in_selections s ss
  in_expr s (Constant at root ss scalar) = in_selections s ss
  in_expr s (Parameter at n) = 0
  in_expr s (Target at scalar) = 0
  in_expr s (Group e) = in_expr s e
  in_expr s (Unary at o c e) = in_expr s e
  in_expr s (Binary at o c l r) = in_expr s l + in_expr s r
  in_expr s (AndThen l r) = in_expr s l + in_expr s r
  in_expr s (OrElse l r) = in_expr s l + in_expr s r
  in_expr s (Relation c by l r) = in_expr s l + in_expr s r
  in_expr s (Membership c negated e low high) = in_expr s e + (in_expr s low + in_expr s high)
  in_expr s (If c v o) = in_expr s c + (in_expr s v + in_expr s o)
  in_expr s (Call at callee n as') = in_actuals s as'
  in_expr s (Convert check e) = in_expr s e
  in_expr s (Reduction at a by initial site chunk iteration v) = in_site s site + (in_way s iteration + (in_expr s initial + (in_chunk s chunk + (in_iteration s iteration + in_expr s v))))

  pub in_exprs : Tally → Exprs → ℕ
  in_exprs s NoExpr = 0
  in_exprs s (AlsoExpr e es) = in_expr s e + in_exprs s es

  pub in_optional : Tally → Optional → ℕ
  in_optional s Absent = 0
  in_optional s (Present e) = in_expr s e

  pub in_selections : Tally → Selections → ℕ
  in_selections s Whole = 0
  in_selections s (Field n offset ss) = in_selections s ss
  in_selections s (Index at e low high stride ss) = in_expr s e + in_selections s ss

  pub in_actuals : Tally → Actuals → ℕ
  in_actuals s NoActual = 0
  in_actuals s (In formal v as') = in_value s v + in_actuals s as'
  in_actuals s (InOut formal at root ss a b as') = in_selections s ss + in_actuals s as'
  in_actuals s (Out formal at root ss a b as') = in_selections s ss + in_actuals s as'
  in_actuals s (CompositeInOut formal at root ss n as') = in_selections s ss + in_actuals s as'
  in_actuals s (CompositeOut formal at root ss n as') = in_selections s ss + in_actuals s as'

  pub in_value : Tally → Value → ℕ
  in_value s (Number check e) = in_expr s e
  in_value s (Cells c) = in_composite s c

  pub in_composite : Tally → Composite → ℕ
  in_composite s (WholeVariable at root ss n) = in_selections s ss
  in_composite s (WholeConstant at root ss n) = in_selections s ss
  in_composite s (WholeTarget at n) = 0
  in_composite s (CompositeIf c v o) = in_expr s c + (in_composite s v + in_composite s o)
  in_composite s (Aggregate at cells as') = in_associations s as'

  pub in_associations : Tally → Associations → ℕ
  in_associations s NoAssociation = 0
  in_associations s (Association runs iterated mentions v as') = in_exprs s mentions + in_value s v + in_associations s as'

  pub in_iteration : Tally → Iteration → ℕ
  in_iteration s (Range n backwards low high check filter) = in_expr s low + (in_expr s high + in_optional s filter)
  in_iteration s (Components item constant at root ss count stride dimensions filter) = in_selections s ss + in_optional s filter

  pub in_chunk : Tally → Chunk → ℕ
  in_chunk s NoChunk = 0
  in_chunk s (Count e) = in_expr s e
  in_chunk s (Each n low high check) = in_expr s low + in_expr s high

abbrev pub in_pieces : Tally → Pieces → ℕ
in_pieces s NoPiece = 0
in_pieces s (Text bytes ps) = in_pieces s ps
in_pieces s (Image c e ps) = in_expr s e + in_pieces s ps
in_pieces s (Padded c e width ps) = in_expr s e + in_expr s width + in_pieces s ps

abbrev pub in_decls : Tally → Decls → ℕ
in_decls s NoDecl = 0
in_decls s (DeclareDefault n ds) = in_decls s ds
in_decls s (DeclareVariable n v ds) = in_value s v + in_decls s ds
in_decls s (DeclareConstant n v ds) = in_value s v + in_decls s ds
in_decls s (Mentions es ds) = in_exprs s es + in_decls s ds

abbrev mutual
  pub in_stmt : Tally → Stmt → ℕ
  in_stmt s Null = 0
  in_stmt s (Assign at root ss v) = in_selections s ss + in_value s v
  in_stmt s (CallProcedure at callee n as') = in_actuals s as'
  in_stmt s (Exit n condition) = in_optional s condition
  in_stmt s Return = 0
  in_stmt s (ReturnValue v) = in_value s v
  in_stmt s (Raise reason) = 0
  in_stmt s Reraise = 0
  in_stmt s (IfThen c ss otherwise) = in_expr s c + (in_stmts s ss + in_stmts s otherwise)
  in_stmt s (Case e as') = in_expr s e + in_alternatives s as'
  in_stmt s (Loop n condition ss) = in_optional s condition + in_stmts s ss
  in_stmt s (For n iteration ss) = in_iteration s iteration + in_stmts s ss
  in_stmt s (ParallelFor n site chunk iteration ss) = s.number site + (in_chunk s chunk + (in_iteration s iteration + in_stmts s ss))
  in_stmt s (Parallel site count arms) = s.number site + (in_optional s count + in_arms s arms)
  in_stmt s (Block ds ss hs) = in_decls s ds + (in_stmts s ss + in_handlers s hs)
  in_stmt s (Put at callee ps line) = in_pieces s ps
  in_stmt s (Get at callee first root ss scalar) = in_selections s ss

  pub in_stmts : Tally → Stmts → ℕ
  in_stmts s End = 0
  in_stmts s (Then t ts) = in_stmt s t + in_stmts s ts

  pub in_alternatives : Tally → Alternatives → ℕ
  in_alternatives s NoAlternative = 0
  in_alternatives s (Alternative others spans mentions ss as') = in_exprs s mentions + in_stmts s ss + in_alternatives s as'

  pub in_arms : Tally → Arms → ℕ
  in_arms s NoArm = 0
  in_arms s (Arm ss as') = in_stmts s ss + in_arms s as'

  pub in_handlers : Tally → Handlers → ℕ
  in_handlers s NoHandler = 0
  in_handlers s (Handler handled ss hs) = in_stmts s ss + in_handlers s hs

abbrev pub in_body : Tally → Body → ℕ
in_body s b = in_decls s b.decls + (in_stmts s b.stmts + in_handlers s b.handlers)

abbrev pub in_subs : Tally → List Sub → ℕ
in_subs s [] = 0
in_subs s (u ∷ us) = in_body s u.body + in_subs s us

-- how often it stands in a program
abbrev pub in_program : Tally → Program → ℕ
in_program s p = in_subs s p.subs + in_body s p.body
