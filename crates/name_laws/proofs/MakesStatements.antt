-- What is found fits: statements.
use Rattle.std.proofs.Common.{ℕ, zero, suc, List, [], ◌∷◌, length, Option, Some, None, Bool, false, option_map, ◌==◌, ◌-◌, ◌&&◌}
use Rattle.std.specs.Prelude.{not}
use Rattle.ada_base.specs.declared.reason.Reason.{Reason}
use Rattle.syntax_tree.specs.FirstTokens as first_token
use Rattle.syntax_tree.specs.Syntax as syntax
use Rattle.syntax_tree.specs.Syntax.{Alt, Alts, Arms, Body, Branches, Declare, Expr, Handler, Handlers, Iter, MoreStmts, Name, OptionalParallel, OptionalStmts, Pack, Scheme, Simple, Stmt, Stmts}
use Rattle.typed_tree.specs.Decoded as part
use Rattle.typed_tree.specs.Decoded.{TypedPart, as_alternative, as_alternatives, as_arms, as_body, as_expr, as_handler, as_handlers, as_optional, as_stmt, as_stmts}
use Rattle.typed_tree.specs.Latest.{turned}
use Rattle.typed_tree.specs.Syntax as typed
use Rattle.typed_tree.specs.Syntax.{Alternatives, Selections, Handlers as TypedHandlers, Handled as TypedHandled}
use Rattle.typed_tree.specs.declared.program.SiteKind.TheVariants as site
use Rattle.typed_tree.specs.declared.scalars.Class.{Class}
use Rattle.typed_tree.specs.declared.scalars.Class.TheVariants as class
use Rattle.name_rules.specs.Cases.{Choosing, Covering, case_choices, handled_by}
use Rattle.name_rules.specs.Declarations.{declarations}
use Rattle.name_rules.specs.Expressions.{condition, expr, judged_alone, Inside}
use Rattle.name_rules.specs.Found.{Denoted, Found}
use Rattle.name_rules.specs.Iterations.{chunk_count, entered}
use Rattle.name_rules.specs.Judging.{clean, fault, given, joined}
use Rattle.name_rules.specs.Names.{denoted_first, exception}
use Rattle.name_rules.specs.Parts.{new_site, valued_by}
use Rattle.name_rules.specs.Primaries.{inside, level_above}
use Rattle.name_rules.specs.Statements as s
use Rattle.name_rules.specs.Statements.{Around, Selector, around, stmt}
use Rattle.name_rules.specs.TypedParts.{nested_stmts, selections_of, left_of, right_of}
use Rattle.name_rules.specs.Types.{wanted_of}
use Rattle.name_rules.specs.Values.{first_of, is_scalar, settled_found, stored, is_modular_kind, kind_of}
use Rattle.name_rules.specs.declared.found.Denoted.TheVariants as denoted
use Rattle.name_rules.specs.declared.found.Denoted.{Denoted as KnownDenoted}
use Rattle.name_rules.specs.declared.found.Found.TheVariants as known
use Rattle.name_rules.specs.declared.found.ObjectName.{ObjectName}
use Rattle.name_rules.specs.declared.log.Bound.TheVariants as bound
use Rattle.name_rules.specs.declared.log.Rule.TheVariants.{Limit, NotVisible, WrongType}
use Rattle.name_rules.specs.declared.scope.Context.{Context}
use Rattle.name_rules.specs.declared.scope.LoopName.{LoopName}
use Rattle.name_rules.specs.declared.scope.Names.{Names}
use Rattle.name_rules.specs.declared.scope.Returns.TheVariants as returns
use Rattle.name_rules.specs.declared.scope.Returns.{Returns}
use Rattle.name_rules.specs.declared.scope.Target.TheVariants as target
use Rattle.name_rules.specs.declared.types.Kind.TheVariants as kind
use Rattle.name_rules.specs.declared.types.Kind.{Kind}
use Rattle.name_rules.specs.declared.types.Scalar.{Scalar}
use Rattle.name_rules.specs.declared.types.Subtype.TheVariants as subtype
use Rattle.name_rules.specs.declared.types.Wanted.TheVariants as wanted
use Rattle.name_laws.proofs.Based.{spanning}
use Rattle.name_laws.proofs.KeepsCases.{k-case_choices, k-handled_by}
use Rattle.name_laws.proofs.KeepsNames.{k-exception}
use Rattle.name_laws.proofs.KeepsParts.{k-new_site}
use Rattle.name_laws.proofs.KeepsPrimaries.{k-inside, k-level_above}
use Rattle.name_laws.proofs.KeepsStatements.{k-arm_limit, k-backwards_rule, k-closed_where, k-exited, k-loop_ends, k-new_loop}
use Rattle.name_laws.proofs.Makes.{Any, Each, Makes, Maybe, each-turned, joint, m-bind, m-both, m-fault, m-given, m-if, m-kept, m-none, m-pure, m-some, m-where_clean, mapped}
use Rattle.name_laws.proofs.MakesDeclarations.{DeclaringOf, DeclsOf, decls-fit, m-declarations}
use Rattle.name_laws.proofs.MakesExpressions.{Finding, LevelFits, m-condition, m-expr, m-judged_alone}
use Rattle.name_laws.proofs.MakesPrimaries.{above-fits, inside-fits, m-valued_by}
use Rattle.name_laws.proofs.MakesRanges.{EnteredOf, FilterOf, any, filter-of, m-chunk_count, m-entered, some-filter}
use Rattle.name_laws.proofs.MakesReducers.{ChunkOf, IterationOf}
use Rattle.name_laws.proofs.MakesScope.{DenotedOf, DenotesOf}
use Rattle.name_laws.proofs.MakesValues.{AskedOf, ExprOf, FoundOf, ValueOf, m-settled_found, m-stored, selections-fit}
use Rattle.name_laws.specs.Based.{AreBased}
use Rattle.name_laws.specs.Classes.{AlternativesFit, ArmsFit, BodyFits, ExprFits, HandlersFit, OptionalFits, SelectionsFit, StmtFits, StmtsFit}

-- ---- lists

abbrev pub StmtOf : TypedPart → Type 0
StmtOf x = StmtFits (as_stmt x)

abbrev pub StmtsOf : TypedPart → Type 0
StmtsOf x = StmtsFit (as_stmts x)

stmts-list : (x : TypedPart) → Each StmtOf x → StmtsOf x
stmts-list (part.Cons p q) h = (h.0, stmts-list q h.1)
stmts-list x h = tt

stmts-fit : (x : TypedPart) → Each StmtOf x → StmtsOf (turned x)
stmts-fit x h = stmts-list (turned x) (each-turned StmtOf x h)

abbrev IsAlternative : TypedPart → Type 0
IsAlternative p = (as' : Alternatives) → AlternativesFit as' → AlternativesFit (as_alternative p as')

alternatives-list : (x : TypedPart) → Each IsAlternative x → AlternativesFit (as_alternatives x)
alternatives-list (part.Cons p q) h = h.0 (as_alternatives q) (alternatives-list q h.1)
alternatives-list x h = tt

abbrev IsHandler : TypedPart → Type 0
IsHandler p = (hs : TypedHandlers) → HandlersFit hs → HandlersFit (as_handler p hs)

handlers-list : (x : TypedPart) → Each IsHandler x → HandlersFit (as_handlers x)
handlers-list (part.Cons p q) h = h.0 (as_handlers q) (handlers-list q h.1)
handlers-list x h = tt

arms-list : (x : TypedPart) → Each StmtsOf x → ArmsFit (as_arms x)
arms-list (part.Cons p q) h = (h.0, arms-list q h.1)
arms-list x h = tt

-- ---- what judges statements

pub record AroundFits (a : Around) : Type 0 where
  pub level : LevelFits a.level
  pub inner : LevelFits a.inner
  pub within : (here : Context) (x : Stmt) → AreBased here.scope → Makes (Maybe StmtOf) (a.within here x)

m-stmts_from : (a : Around) (here : Context) (made : Option TypedPart) (x : MoreStmts) → AroundFits a → AreBased here.scope → Maybe (Each StmtOf) made → Makes (Maybe (Each StmtOf)) (s.stmts_from a here made x)
m-stmts_from a here made syntax.NoStmt f r g = m-pure (Maybe (Each StmtOf)) made g
m-stmts_from a here made (syntax.AlsoStmt x xs) f r g =
    m-bind (Maybe StmtOf) (Maybe (Each StmtOf)) (a.within here x) _ (f.within here x r) (λ y q. m-stmts_from a here (joined s.with_stmt made y) xs f r (joint (Each StmtOf) StmtOf (Each StmtOf) s.with_stmt made y g q (λ b c m n. (n, m))))

m-stmts : (a : Around) (here : Context) (x : Stmts) → AroundFits a → AreBased here.scope → Makes (Maybe StmtsOf) (s.stmts a here x)
unfolding s.stmts
m-stmts a here (syntax.stmts x xs) f r =
    m-bind (Maybe (Each StmtOf)) (Maybe StmtsOf) (s.stmts_from a here (Some s.no_stmts) (syntax.AlsoStmt x xs)) _ (m-stmts_from a here (Some s.no_stmts) (syntax.AlsoStmt x xs) f r tt) (λ y q.
    m-pure (Maybe StmtsOf) (option_map turned y) (mapped (Each StmtOf) StmtsOf turned y q stmts-fit))

-- ---- assignments and calls

m-stored_place : (p : ObjectName) (ss : Selections) (at : ℕ) (f : Found) → SelectionsFit ss → FoundOf f → Makes (Maybe StmtOf) (s.stored_place p ss at f)
m-stored_place p ss at f h g =
    m-bind (Maybe ValueOf) (Maybe StmtOf) (stored p.subtype at f) _ (m-stored p.subtype at f g) (λ v q. m-pure (Maybe StmtOf) (option_map (s.assigned p ss) v) (mapped ValueOf StmtOf (s.assigned p ss) v q (λ x t. (h, t))))

m-assigned_place : (p : ObjectName) (ss : Selections) (at : ℕ) (x : Option Found) → SelectionsFit ss → Finding x → Makes (Maybe StmtOf) (s.assigned_place p ss at x)
m-assigned_place p ss at x h g = m-if (Maybe StmtOf) (not p.variable) (fault p.first WrongType) (given x (s.stored_place p ss at)) (m-fault StmtOf p.first WrongType) (m-given FoundOf StmtOf x (s.stored_place p ss at) g (λ f q. m-stored_place p ss at f h q))

m-assign_place : (names : Names) (level : Inside) (here : Context) (p : ObjectName) (ss : Selections) (e : Expr) → LevelFits level → AreBased here.scope → SelectionsFit ss → Makes (Maybe StmtOf) (s.assign_place names level here p ss e)
unfolding s.assign_place
m-assign_place names level here p ss e l r h =
    let there = s.with_target here (target.Of p.subtype) in
    m-where_clean Finding StmtOf (expr names level there (wanted_of p.subtype) e) (s.assigned_place p ss (first_token.of_expr e - 1)) (m-expr names level there (wanted_of p.subtype) e l r) (λ x q. m-assigned_place p ss (first_token.of_expr e - 1) x h q)

m-assigned_alone : (names : Names) (level : Inside) (here : Context) (e : Expr) → LevelFits level → AreBased here.scope → Makes Any (s.assigned_alone names level here e)
m-assigned_alone names level here e l r = m-judged_alone names level (s.with_target here target.Faulty) e l r

m-assign_other : (names : Names) (level : Inside) (here : Context) (e : Expr) (first : ℕ) → LevelFits level → AreBased here.scope → Makes (Maybe StmtOf) (s.assign_other names level here e first)
m-assign_other names level here e first l r = m-where_clean Any StmtOf (s.assigned_alone names level here e) (λ u. fault first WrongType) (m-assigned_alone names level here e l r) (λ u q. m-fault StmtOf first WrongType)

m-assign_form : (names : Names) (level : Inside) (here : Context) (e : Expr) (k : KnownDenoted) (x : TypedPart) → LevelFits level → AreBased here.scope → DenotesOf k x → Makes (Maybe StmtOf) (s.assign_form names level here e k x)
m-assign_form names level here e (denoted.Value (known.Object p)) x l r h = m-assign_place names level here p (selections_of x) e l r (selections-fit x h.1)
m-assign_form names level here e k x l r h = m-assign_other names level here e (denoted_first k) l r

m-assign_to : (names : Names) (level : Inside) (here : Context) (e : Expr) (d : Option Denoted) → LevelFits level → AreBased here.scope → Maybe DenotedOf d → Makes (Maybe StmtOf) (s.assign_to names level here e d)
m-assign_to names level here e None l r h = m-bind Any (Maybe StmtOf) (s.assigned_alone names level here e) _ (m-assigned_alone names level here e l r) (λ u q. m-none StmtOf)
m-assign_to names level here e (Some d) l r h = m-assign_form names level here e d.known d.part l r h

m-assign : (names : Names) (level : Inside) (here : Context) (n : Name) (e : Expr) → LevelFits level → AreBased here.scope → Makes (Maybe StmtOf) (s.assign names level here n e)
m-assign names level here n e l r = m-bind (Maybe DenotedOf) (Maybe StmtOf) (level.name here n) (s.assign_to names level here e) (l.name here n r) (λ d q. m-assign_to names level here e d l r q)

m-as_statement : (k : KnownDenoted) (x : TypedPart) → DenotesOf k x → Makes (Maybe StmtOf) (s.as_statement k x)
m-as_statement (denoted.Done first) x h = m-some StmtOf x h
m-as_statement k x h = m-fault StmtOf (denoted_first k) WrongType

m-call_stmt : (names : Names) (level : Inside) (here : Context) (n : Name) → LevelFits level → AreBased here.scope → Makes (Maybe StmtOf) (s.call_stmt names level here n)
unfolding s.call_stmt
m-call_stmt names level here n l r =
    m-bind (Maybe DenotedOf) (Maybe StmtOf) (level.name here n) _ (l.name here n r) (λ x q.
    m-bind (Maybe DenotedOf) (Maybe StmtOf) (given x (valued_by names level here)) _ (m-given DenotedOf DenotedOf x (valued_by names level here) q (λ y t. m-valued_by names level here y l r t)) (λ e t.
    m-given DenotedOf StmtOf e _ t (λ y u. m-as_statement y.known y.part u)))

-- ---- exit, return, raise

m-condition_where : (names : Names) (level : Inside) (here : Context) (e : Option Expr) → LevelFits level → AreBased here.scope → Makes (Maybe FilterOf) (s.condition_where names level here e)
m-condition_where names level here None l r = m-some FilterOf part.Nothing tt
m-condition_where names level here (Some e) l r = record { at = λ log h. let m = (m-condition names level here e l r).at log h in (m.0, some-filter (condition names level here e log).0 m.1) }

m-exited : (names : Names) (here : Context) (at : ℕ) (from : Option ℕ) (x : Option LoopName) → Makes (Maybe Any) (s.exited names here at from x)
m-exited names here at from x = record { at = λ log h. (((k-exited spanning names here at from x tt).at log).at h, any (s.exited names here at from x log).0) }

m-exit_from : (names : Names) (level : Inside) (here : Context) (at : ℕ) (from : Option ℕ) (e : Option Expr) → LevelFits level → AreBased here.scope → Makes (Maybe StmtOf) (s.exit_from names level here at from e)
unfolding s.exit_from
m-exit_from names level here at from e l r =
    m-bind (Maybe Any) (Maybe StmtOf) (s.exited names here at from (s.innermost here.loops)) _ (m-exited names here at from (s.innermost here.loops)) (λ n q.
    m-bind (Maybe FilterOf) (Maybe StmtOf) (s.condition_where names level here e) _ (m-condition_where names level here e l r) (λ c p.
    m-pure (Maybe StmtOf) (joined s.exit_part n c) (joint Any FilterOf StmtOf s.exit_part n c q p (λ a b m t. t))))

m-value_at : (names : Names) (level : Inside) (here : Context) (at : ℕ) (t : Scalar) (e : Expr) → LevelFits level → AreBased here.scope → Makes (Maybe ValueOf) (s.value_at names level here at t e)
unfolding s.value_at
m-value_at names level here at t e l r =
    m-bind Finding (Maybe ValueOf) (expr names level here wanted.Other e) _ (m-expr names level here wanted.Other e l r) (λ x q. m-given FoundOf ValueOf x (stored (subtype.Scalar t) at) q (λ f p. m-stored (subtype.Scalar t) at f p))

m-value_of_nothing : (names : Names) (level : Inside) (here : Context) (at : ℕ) (e : Expr) → LevelFits level → AreBased here.scope → Makes (Maybe StmtOf) (s.value_of_nothing names level here at e)
m-value_of_nothing names level here at e l r =
    m-where_clean Finding StmtOf (expr names level here wanted.Other e) _ (m-expr names level here wanted.Other e l r) (λ x q. m-given FoundOf StmtOf x _ q (λ f p. m-fault StmtOf at WrongType))

m-return_value : (names : Names) (level : Inside) (here : Context) (at : ℕ) (e : Expr) (x : Returns) → LevelFits level → AreBased here.scope → Makes (Maybe StmtOf) (s.return_value names level here at e x)
m-return_value names level here at e returns.Nothing l r = m-value_of_nothing names level here at e l r
m-return_value names level here at e (returns.Value t) l r = m-bind (Maybe ValueOf) (Maybe StmtOf) (s.value_at names level here at t e) _ (m-value_at names level here at t e l r) (λ v q. m-pure (Maybe StmtOf) (option_map s.returned v) (mapped ValueOf StmtOf s.returned v q (λ x p. p)))
m-return_value names level here at e returns.Faulty l r = m-bind Any (Maybe StmtOf) (judged_alone names level here e) _ (m-judged_alone names level here e l r) (λ u q. m-none StmtOf)

m-return_alone : (at : ℕ) (x : Returns) → Makes (Maybe StmtOf) (s.return_alone at x)
m-return_alone at returns.Nothing = m-some StmtOf (part.AStmt typed.Return) tt
m-return_alone at x = m-fault StmtOf at WrongType

m-return_from : (names : Names) (level : Inside) (here : Context) (at : ℕ) (e : Option Expr) → LevelFits level → AreBased here.scope → Makes (Maybe StmtOf) (s.return_from names level here at e)
m-return_from names level here at None l r = m-return_alone at here.returns
m-return_from names level here at (Some e) l r = m-return_value names level here at e here.returns l r

m-raise_from : (names : Names) (here : Context) (at : ℕ) (p : Option Pack) → Makes (Maybe StmtOf) (s.raise_from names here at p)
m-raise_from names here at None = m-if (Maybe StmtOf) here.in_handler _ (fault at NotVisible) (m-some StmtOf (part.AStmt typed.Reraise) tt) (m-fault StmtOf at NotVisible)
m-raise_from names here at (Some p) =
    m-bind Any (Maybe StmtOf) (exception names here p) _ (m-kept (exception names here p) (k-exception spanning names here p tt)) (λ x q. m-pure (Maybe StmtOf) (option_map s.raised x) (mapped Any StmtOf s.raised x (any x) (λ y t. tt)))

-- ---- if statements

-- a condition with its statements
abbrev IsBranch : TypedPart → Type 0
IsBranch p = ExprFits class.Boolean (as_expr (left_of p)) × StmtsOf (right_of p)

with-elsif-if : (made c ss : Option TypedPart) → Maybe (Each IsBranch) made → Maybe (AskedOf kind.Boolean) c → Maybe StmtsOf ss → Maybe (Each IsBranch) (s.with_elsif_if made c ss)
with-elsif-if made None ss g h i = tt
with-elsif-if made (Some c) ss g h i = joint (Each IsBranch) StmtsOf (Each IsBranch) (s.with_elsif c) made ss g i (λ a b m n. ((h, n), m))

m-elsifs : (a : Around) (here : Context) (made : Option TypedPart) (x : Arms) → AroundFits a → AreBased here.scope → Maybe (Each IsBranch) made → Makes (Maybe (Each IsBranch)) (s.elsifs a here made x)
m-elsifs a here made syntax.NoArm f r g = m-pure (Maybe (Each IsBranch)) made g
m-elsifs a here made (syntax.AlsoArm (syntax.arm at e x) xs) f r g =
    m-bind (Maybe (AskedOf kind.Boolean)) (Maybe (Each IsBranch)) (condition a.names a.level here e) _ (m-condition a.names a.level here e f.level r) (λ c q.
    m-bind (Maybe StmtsOf) (Maybe (Each IsBranch)) (s.stmts a here x) _ (m-stmts a here x f r) (λ ss p. m-elsifs a here (s.with_elsif_if made c ss) xs f r (with-elsif-if made c ss g q p)))

m-otherwise_where : (a : Around) (here : Context) (o : OptionalStmts) → AroundFits a → AreBased here.scope → Makes (Maybe StmtsOf) (s.otherwise_where a here o)
m-otherwise_where a here syntax.AbsentStmts f r = m-some StmtsOf s.no_stmts tt
m-otherwise_where a here (syntax.PresentStmts x) f r = m-stmts a here x f r

nested-fit : (xs o : TypedPart) → Each IsBranch xs → StmtsOf o → StmtsOf (nested_stmts xs o)
unfolding nested_stmts
nested-fit (part.Cons p rest) o h g = nested-fit rest (part.Cons (part.AStmt (typed.IfThen (as_expr (left_of p)) (as_stmts (right_of p)) (as_stmts o))) part.Nothing) h.1 ((h.0.0, h.0.1, g), tt)
nested-fit x o h g = g

m-if_stmt : (a : Around) (here : Context) (e : Expr) (x : Stmts) (more : Arms) (o : OptionalStmts) → AroundFits a → AreBased here.scope → Makes (Maybe StmtOf) (s.if_stmt a here e x more o)
unfolding s.if_stmt
m-if_stmt a here e x more o f r =
    m-bind (Maybe (AskedOf kind.Boolean)) (Maybe StmtOf) (condition a.names a.level here e) _ (m-condition a.names a.level here e f.level r) (λ c q1.
    m-bind (Maybe StmtsOf) (Maybe StmtOf) (s.stmts a here x) _ (m-stmts a here x f r) (λ ss q2.
    m-bind (Maybe (Each IsBranch)) (Maybe StmtOf) (s.elsifs a here (Some part.Nothing) more) _ (m-elsifs a here (Some part.Nothing) more f r tt) (λ xs q3.
    m-bind (Maybe StmtsOf) (Maybe StmtOf) (s.otherwise_where a here o) _ (m-otherwise_where a here o f r) (λ ys q4.
    m-both (AskedOf kind.Boolean) StmtsOf StmtOf c ss (s.if_stmt_made xs ys) q1 q2 (λ b t g h.
    m-pure (Maybe StmtOf) (joined (s.if_stmt_part b t) xs ys) (joint (Each IsBranch) StmtsOf StmtOf (s.if_stmt_part b t) xs ys q3 q4 (λ u v m n. (g, h, nested-fit u v m n))))))))

-- ---- case statements

abbrev AlternativesOf : TypedPart → Type 0
AlternativesOf x = Each IsAlternative x

abbrev CasesOf : Covering × Option TypedPart → Type 0
CasesOf r = Maybe AlternativesOf r.1

also-alternative : (d : Choosing) (made ss : Option TypedPart) → Maybe AlternativesOf made → Maybe StmtsOf ss → Maybe AlternativesOf (s.also_alternative d made ss)
unfolding s.also_alternative
also-alternative d made ss g h = joint AlternativesOf StmtsOf AlternativesOf (s.with_alternative d) made ss g h (λ a b m n. ((λ as' r. (n, r)), m))

m-alternative : (a : Around) (here : Context) (k : Option Kind) (last : Bool) (c : Covering) (made : Option TypedPart) (x : Alt) → AroundFits a → AreBased here.scope → Maybe AlternativesOf made → Makes CasesOf (s.alternative a here k last c made x)
unfolding s.alternative
m-alternative a here k last c made (syntax.alt at x ys t) f r g =
    let j = case_choices a.level here k (length ys == 0) last c s.no_choosing (x ∷ ys) in
    m-bind Any CasesOf j _ (m-kept j (k-case_choices spanning a.level here k (length ys == 0) last c s.no_choosing (x ∷ ys) f.level.keeps)) (λ y q.
    m-bind (Maybe StmtsOf) CasesOf (s.stmts a here t) _ (m-stmts a here t f r) (λ ss p. m-pure CasesOf (y.0, s.also_alternative y.1 made ss) (also-alternative y.1 made ss g p)))

m-alts : (a : Around) (here : Context) (k : Option Kind) (c : Covering) (made : Option TypedPart) (xs : Alts) → AroundFits a → AreBased here.scope → Maybe AlternativesOf made → Makes CasesOf (s.alts a here k c made xs)
m-alts a here k c made syntax.NoAlt f r g = m-pure CasesOf (c, made) g
m-alts a here k c made (syntax.AlsoAlt x xs) f r g = m-bind CasesOf CasesOf (s.alternative a here k (s.is_last xs) c made x) _ (m-alternative a here k (s.is_last xs) c made x f r g) (λ y q. m-alts a here k y.0 y.1 xs f r q)

abbrev SelectorOf : Selector → Type 0
SelectorOf x = ExprOf x.part

m-selector : (f : Found) → FoundOf f → Makes (Maybe SelectorOf) (s.selector f)
m-selector f h =
    m-if (Maybe SelectorOf) (is_scalar f.known && not (is_modular_kind (kind_of f.known))) _ (fault (first_of f.known) WrongType)
    (m-bind (Maybe ExprOf) (Maybe SelectorOf) (settled_found f) _ (m-settled_found f h) (λ e q. m-pure (Maybe SelectorOf) (option_map (s.selector_of (s.selecting f.known)) e) (mapped ExprOf SelectorOf (s.selector_of (s.selecting f.known)) e q (λ x t. t))))
    (m-fault SelectorOf (first_of f.known) WrongType)

m-case_stmt : (a : Around) (here : Context) (at : ℕ) (e : Expr) (xs : Alts) → AroundFits a → AreBased here.scope → Makes (Maybe StmtOf) (s.case_stmt a here at e xs)
unfolding s.case_stmt
m-case_stmt a here at e xs f r =
    m-bind Finding (Maybe StmtOf) (expr a.names a.level here wanted.Other e) _ (m-expr a.names a.level here wanted.Other e f.level r) (λ x q.
    m-bind (Maybe SelectorOf) (Maybe StmtOf) (given x s.selector) _ (m-given FoundOf SelectorOf x s.selector q (λ y t. m-selector y t)) (λ y t.
    m-bind CasesOf (Maybe StmtOf) (s.alts a here (s.selector_kind y) (record { ranges = []; faulty = false; others = false }) (Some part.Nothing) xs) _
    (m-alts a here (s.selector_kind y) (record { ranges = []; faulty = false; others = false }) (Some part.Nothing) xs f r tt) (λ z u.
    m-bind Any (Maybe StmtOf) (s.closed_where at y z.0) _ (m-kept (s.closed_where at y z.0) (k-closed_where spanning at y z.0)) (λ v w.
    m-pure (Maybe StmtOf) (joined s.case_part y z.1) (joint SelectorOf AlternativesOf StmtOf s.case_part y z.1 t u (λ b c m n. (m, alternatives-list (turned c) (each-turned IsAlternative c n))))))))

-- ---- loops

m-loop_entered : (a : Around) (here : Context) (p : OptionalParallel) (i : Iter) → AroundFits a → AreBased here.scope → Makes EnteredOf (s.loop_entered a here p i)
unfolding s.loop_entered
m-loop_entered a here p i f r =
    m-bind (λ e. EnteredOf e.0) EnteredOf (clean (entered a.names a.level a.inner here site.Loop p i)) _ (record { at = (m-entered a.names a.level a.inner here site.Loop p i f.level f.inner r).at }) (λ e q.
    m-bind Any EnteredOf (s.backwards_rule e.1 e.0.construct e.0.reverse) _ (m-kept (s.backwards_rule e.1 e.0.construct e.0.reverse) (k-backwards_rule spanning e.1 e.0.construct e.0.reverse)) (λ u t. m-pure EnteredOf e.0 q))

m-for_made : (n : ℕ) (k : Option ℕ) (c : Option TypedPart) (i ss : TypedPart) → Maybe ChunkOf c → IterationOf i → StmtsOf ss → Makes (Maybe StmtOf) (s.for_made n k c i ss)
m-for_made n None c i ss g h j = m-some StmtOf (s.for_part n i ss) (h, j)
m-for_made n (Some k) c i ss g h j = m-pure (Maybe StmtOf) (option_map (s.parallel_part n k i ss) c) (mapped ChunkOf StmtOf (s.parallel_part n k i ss) c g (λ x t. (t, h, j)))

m-for_loop : (a : Around) (here : Context) (label : Option ℕ) (n : ℕ) (x : Stmts) (p : OptionalParallel) (i : Iter) → AroundFits a → AreBased here.scope → Makes (Maybe StmtOf) (s.for_loop a here label n x p i)
unfolding s.for_loop
m-for_loop a here label n x p i f r =
    m-bind EnteredOf (Maybe StmtOf) (s.loop_entered a here p i) _ (m-loop_entered a here p i f r) (λ e q.
    m-bind (Maybe StmtsOf) (Maybe StmtOf) (s.stmts a (s.in_loop a.names e.here label n) x) _ (m-stmts a (s.in_loop a.names e.here label n) x f q.2) (λ ss t.
    m-both IterationOf StmtsOf StmtOf e.iteration ss (s.for_made n e.construct e.chunk) q.1 t (λ j u g h. m-for_made n e.construct e.chunk j u q.0 g h)))

m-loop_with : (a : Around) (here : Context) (label : Option ℕ) (n : ℕ) (x : Stmts) (by : Scheme) → AroundFits a → AreBased here.scope → Makes (Maybe StmtOf) (s.loop_with a here label n x by)
m-loop_with a here label n x (syntax.While at e) f r =
    m-bind (Maybe (AskedOf kind.Boolean)) (Maybe StmtOf) (condition a.names a.level here e) _ (m-condition a.names a.level here e f.level r) (λ c q.
    m-bind (Maybe StmtsOf) (Maybe StmtOf) (s.stmts a (s.in_loop a.names here label n) x) _ (m-stmts a (s.in_loop a.names here label n) x f r) (λ ss t.
    m-pure (Maybe StmtOf) (joined (s.loop_part n) c ss) (joint (AskedOf kind.Boolean) StmtsOf StmtOf (s.loop_part n) c ss q t (λ b u m o. (filter-of b m, o)))))
m-loop_with a here label n x (syntax.For p at i) f r = m-for_loop a here label n x (s.optional_parallel p) i f r

m-loop_by : (a : Around) (here : Context) (label : Option ℕ) (n : ℕ) (x : Stmts) (by : Option Scheme) → AroundFits a → AreBased here.scope → Makes (Maybe StmtOf) (s.loop_by a here label n x by)
m-loop_by a here label n x None f r =
    m-bind (Maybe StmtsOf) (Maybe StmtOf) (s.stmts a (s.in_loop a.names here label n) x) _ (m-stmts a (s.in_loop a.names here label n) x f r) (λ ss t.
    m-pure (Maybe StmtOf) (joined (s.loop_part n) (Some part.Nothing) ss) (joint FilterOf StmtsOf StmtOf (s.loop_part n) (Some part.Nothing) ss tt t (λ b u m o. (m, o))))
m-loop_by a here label n x (Some by) f r = m-loop_with a here label n x by f r

m-loop_stmt : (a : Around) (here : Context) (label : Option ℕ) (by : Option Scheme) (x : Stmts) (last : ℕ) (name : Option ℕ) → AroundFits a → AreBased here.scope → Makes (Maybe StmtOf) (s.loop_stmt a here label by x last name)
unfolding s.loop_stmt
m-loop_stmt a here label by x last name f r =
    m-bind Any (Maybe StmtOf) (s.loop_ends a.names label last name) _ (m-kept (s.loop_ends a.names label last name) (k-loop_ends spanning a.names label last name tt)) (λ u q.
    m-bind Any (Maybe StmtOf) s.new_loop _ (m-kept s.new_loop (k-new_loop spanning)) (λ n t. m-loop_by a here label n x by f r))

-- ---- bodies and blocks

abbrev HandlersOf : TypedPart → Type 0
HandlersOf x = Each IsHandler x

abbrev HandlingOf : List Reason × Option TypedPart → Type 0
HandlingOf r = Maybe HandlersOf r.1

with-handler-if : (made : Option TypedPart) (h : Option TypedHandled) (ss : Option TypedPart) → Maybe HandlersOf made → Maybe StmtsOf ss → Maybe HandlersOf (s.with_handler_if made h ss)
with-handler-if made None ss g i = tt
with-handler-if made (Some h) ss g i = joint HandlersOf StmtsOf HandlersOf (s.with_handler h) made ss g i (λ a b m n. ((λ hs r. (n, r)), m))

m-handler : (a : Around) (here : Context) (last : Bool) (seen : List Reason) (made : Option TypedPart) (h : Handler) → AroundFits a → AreBased here.scope → Maybe HandlersOf made → Makes HandlingOf (s.handler a here last seen made h)
unfolding s.handler
m-handler a here last seen made (syntax.handler at h x) f r g =
    m-bind Any HandlingOf (handled_by a.names here seen last h) _ (m-kept (handled_by a.names here seen last h) (k-handled_by spanning a.names here seen last h tt)) (λ y q.
    m-bind (Maybe StmtsOf) HandlingOf (s.stmts a (s.in_handler_of here) x) _ (m-stmts a (s.in_handler_of here) x f r) (λ ss t. m-pure HandlingOf (y.0, s.with_handler_if made y.1 ss) (with-handler-if made y.1 ss g t)))

m-handlers : (a : Around) (here : Context) (seen : List Reason) (made : Option TypedPart) (hs : Handlers) → AroundFits a → AreBased here.scope → Maybe HandlersOf made → Makes (Maybe HandlersOf) (s.handlers a here seen made hs)
m-handlers a here seen made syntax.NoHandler f r g = m-pure (Maybe HandlersOf) made g
m-handlers a here seen made (syntax.AlsoHandler h hs) f r g = m-bind HandlingOf (Maybe HandlersOf) (s.handler a here (s.is_last_handler hs) seen made h) _ (m-handler a here (s.is_last_handler hs) seen made h f r g) (λ y q. m-handlers a here y.0 y.1 hs f r q)

abbrev pub BodyOf : TypedPart → Type 0
BodyOf x = BodyFits (as_body x)

pub m-body : (a : Around) (here : Context) (ds : Option TypedPart) (b : Body) → AroundFits a → AreBased here.scope → Maybe DeclsOf ds → Makes (Maybe BodyOf) (s.body a here ds b)
unfolding s.body
m-body a here ds (syntax.body x hs) f r g =
    m-bind (Maybe StmtsOf) (Maybe BodyOf) (s.stmts a here x) _ (m-stmts a here x f r) (λ ss q.
    m-bind (Maybe HandlersOf) (Maybe BodyOf) (s.handlers a here [] (Some part.Nothing) hs) _ (m-handlers a here [] (Some part.Nothing) hs f r tt) (λ xs t.
    m-given DeclsOf BodyOf ds (s.body_made ss xs) g (λ d i.
    m-pure (Maybe BodyOf) (joined (s.body_part d) ss xs) (joint StmtsOf HandlersOf BodyOf (s.body_part d) ss xs q t (λ b c m n. (decls-fit d i, m, handlers-list (turned c) (each-turned IsHandler c n)))))))

m-block : (a : Around) (here : Context) (d : Option Declare) (b : Body) → AroundFits a → AreBased here.scope → Makes (Maybe StmtOf) (s.block a here d b)
unfolding s.block
m-block a here d b f r =
    m-bind DeclaringOf (Maybe StmtOf) (declarations a.names a.level (length here.scope) here (Some s.no_decls) (s.block_decls d)) _ (m-declarations a.names a.level (length here.scope) here (Some s.no_decls) (s.block_decls d) f.level r tt) (λ x q.
    m-bind (Maybe BodyOf) (Maybe StmtOf) (s.body a x.0 x.1 b) _ (m-body a x.0 x.1 b f q.0 q.1) (λ y t. m-pure (Maybe StmtOf) (option_map s.block_part y) (mapped BodyOf StmtOf s.block_part y t (λ z u. u))))

-- ---- parallel blocks

-- an expression that may be left out
abbrev CountOf : TypedPart → Type 0
CountOf x = (d : Class) × OptionalFits d (as_optional x)

count-of : (x : TypedPart) → ExprOf x → CountOf x
count-of (part.AnExpr e) h = h
count-of x h = (class.Boolean, tt)

m-count_where : (a : Around) (here : Context) (e : Option Simple) → AroundFits a → AreBased here.scope → Makes (Maybe CountOf) (s.count_where a.inner here e)
m-count_where a here None f r = m-some CountOf part.Nothing (class.Boolean, tt)
m-count_where a here (Some e) f r = record { at = λ log h. let m = (m-chunk_count a.inner here e f.inner r).at log h in (m.0, by (chunk_count a.inner here e log).0 m.1) }
  where
    by : (x : Option TypedPart) → Maybe ExprOf x → Maybe CountOf x
    by None h = tt
    by (Some x) h = count-of x h

m-branches : (a : Around) (here : Context) (made : Option TypedPart) (xs : Branches) → AroundFits a → AreBased here.scope → Maybe (Each StmtsOf) made → Makes (Maybe (Each StmtsOf)) (s.branches a here made xs)
m-branches a here made syntax.NoBranch f r g = m-pure (Maybe (Each StmtsOf)) made g
m-branches a here made (syntax.AlsoBranch x xs) f r g =
    m-bind (Maybe StmtsOf) (Maybe (Each StmtsOf)) (s.stmts a here x) _ (m-stmts a here x f r) (λ y q. m-branches a here (joined s.with_arm made y) xs f r (joint (Each StmtsOf) StmtsOf (Each StmtsOf) s.with_arm made y g q (λ b c m n. (n, m))))

m-parallel : (a : Around) (here : Context) (at : ℕ) (e : Option Simple) (xs : Branches) → AroundFits a → AreBased here.scope → Makes (Maybe StmtOf) (s.parallel a here at e xs)
unfolding s.parallel
m-parallel a here at e xs f r =
    m-bind Any (Maybe StmtOf) (new_site here at (site.Block (s.branch_count xs))) _ (m-kept (new_site here at (site.Block (s.branch_count xs))) (k-new_site spanning here at (site.Block (s.branch_count xs)))) (λ n q.
    m-bind (Maybe CountOf) (Maybe StmtOf) (s.count_where a.inner here e) _ (m-count_where a here e f r) (λ c t.
    m-bind (Maybe (Each StmtsOf)) (Maybe StmtOf) (s.branches a (s.in_threads a.names here n) (Some part.Nothing) xs) _ (m-branches a (s.in_threads a.names here n) (Some part.Nothing) xs f r tt) (λ ys u.
    m-bind Any (Maybe StmtOf) (s.arm_limit at (s.branch_count xs)) _ (m-kept (s.arm_limit at (s.branch_count xs)) (k-arm_limit spanning at (s.branch_count xs))) (λ v w.
    m-pure (Maybe StmtOf) (joined (s.arms_part n) c ys) (joint CountOf (Each StmtsOf) StmtOf (s.arms_part n) c ys t u (λ b z m o. (m, arms-list (turned z) (each-turned StmtsOf z o))))))))

-- ---- statements

m-stmt_form : (a : Around) (here : Context) (x : Stmt) → AroundFits a → AreBased here.scope → Makes (Maybe StmtOf) (s.stmt_form a here x)
m-stmt_form a here (syntax.Null at) f r = m-some StmtOf (part.AStmt typed.Null) tt
m-stmt_form a here (syntax.Assign n e) f r = m-assign a.names a.level here n e f.level r
m-stmt_form a here (syntax.CallStmt n) f r = m-call_stmt a.names a.level here n f.level r
m-stmt_form a here (syntax.Exit at from e) f r = m-exit_from a.names a.level here at from e f.level r
m-stmt_form a here (syntax.Return at e) f r = m-return_from a.names a.level here at e f.level r
m-stmt_form a here (syntax.Raise at p) f r = m-raise_from a.names here at p
m-stmt_form a here (syntax.IfStmt at e x more o) f r = m-if_stmt a here e x more o f r
m-stmt_form a here (syntax.Case at e x xs) f r = m-case_stmt a here at e (syntax.AlsoAlt x xs) f r
m-stmt_form a here (syntax.Loop label by at x last name) f r = m-loop_stmt a here label by x last name f r
m-stmt_form a here (syntax.Block d at b) f r = m-block a here d b f r
m-stmt_form a here (syntax.ParallelBlock at e x y more) f r = m-parallel a here at e (syntax.AlsoBranch x (syntax.AlsoBranch y more)) f r

pub level-fits : (names : Names) (n : ℕ) → LevelFits (level_above names (inside names n))
level-fits names n = above-fits names (inside names n) (k-level_above spanning names (inside names n) tt (k-inside spanning names n tt)) (inside-fits names n)

around-by : (names : Names) (n : ℕ) → ((here : Context) (x : Stmt) → AreBased here.scope → Makes (Maybe StmtOf) (stmt names n here x)) → AroundFits (around names n (stmt names n))
around-by names n f = record { level = level-fits names n; inner = inside-fits names n; within = f }

m-stmt : (names : Names) (n : ℕ) (here : Context) (x : Stmt) → AreBased here.scope → Makes (Maybe StmtOf) (stmt names n here x)
unfolding stmt
m-stmt names zero here x r = m-fault StmtOf (first_token.of_stmt x) (Limit bound.Levels)
m-stmt names (suc n) here x r = m-stmt_form (around names n (stmt names n)) here x (around-by names n (λ there y q. m-stmt names n there y q)) r

pub around-fits : (names : Names) (n : ℕ) → AroundFits (around names n (stmt names n))
around-fits names n = around-by names n (λ here x r. m-stmt names n here x r)
