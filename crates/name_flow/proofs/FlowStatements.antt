-- What is found of statements: their exits stay in loops around them, and they stand in order.
use Rattle.std.proofs.Common.{◌≡◌, refl, sym, subst, ◌∙◌, ℕ, zero, suc, ◌+◌, ◌-◌, ◌⊎◌, inl, inr, List, [], ◌∷◌, ◌++◌, length, reverse, slice_get, Option, Some, None, Bool, true, false, true≢false, if◌then◌else◌, option_map, ◌&&◌, ◌==◌, cond, nat_le, arith, leb-true}
use Rattle.std.proofs.lemmas.List.{reverse-append}
use Rattle.std.specs.List.{find}
use Rattle.std.specs.Prelude.{int_le, not, ℤ}
use Rattle.ada_base.specs.declared.reason.Reason.{Reason}
use Rattle.ada_meaning.specs.Meaning.{arms_of}
use Rattle.syntax_tree.specs.FirstTokens as first_token
use Rattle.syntax_tree.specs.Syntax as syntax
use Rattle.syntax_tree.specs.Syntax.{Alt, Alts, Arms, Body, Branches, Choice, Declare, Expr, Handled, Handler, Handlers, Iter, MoreStmts, Name, OptionalParallel, OptionalStmts, Pack, Scheme, Simple, Stmt, Stmts, Decl}
use Rattle.typed_tree.specs.Decoded as part
use Rattle.typed_tree.specs.Decoded.{TypedPart, as_alternative, as_alternatives, as_arms, as_body, as_expr, as_handler, as_handlers, as_iteration, as_stmt, as_stmts, as_value}
use Rattle.typed_tree.specs.Latest.{onto, turned}
use Rattle.typed_tree.specs.Syntax as typed
use Rattle.typed_tree.specs.Syntax.{Alternatives, Handlers as TypedHandlers, Handled as TypedHandled, Selections}
use Rattle.typed_tree.specs.declared.program.SiteKind.TheVariants as site
use Rattle.name_rules.specs.Cases.{Choosing, Covering, Naming, also_covered, also_mentioned, case_choice, case_choices, covered_by, handled_by, maybe_covered, named_reasons, overlaps, with_others, with_span}
use Rattle.name_rules.specs.Declarations.{declarations}
use Rattle.name_rules.specs.Expressions.{Inside, condition, expr, judged_alone}
use Rattle.name_rules.specs.Found.{Denoted, Found}
use Rattle.name_rules.specs.Iterations.{entered}
use Rattle.name_rules.specs.Judging.{Judging, fault, given, joined, pure, some, unless, ◌>>=◌}
use Rattle.name_rules.specs.Limits.{most_arms}
use Rattle.name_rules.specs.Names.{denoted_first, exception}
use Rattle.name_rules.specs.Parts.{new_site, valued_by}
use Rattle.name_rules.specs.Primaries.{inside}
use Rattle.name_rules.specs.Ranges.{Chosen, chosen_span, chosen_value}
use Rattle.name_rules.specs.Statements as s
use Rattle.name_rules.specs.Statements.{Around as Judges, around, stmt}
use Rattle.name_rules.specs.Symbols.{symbol}
use Rattle.name_rules.specs.TypedParts.{left_of, nested_stmts, right_of, selections_of}
use Rattle.name_rules.specs.Types.{check_at, wanted_of}
use Rattle.name_rules.specs.Values.{asked, stored}
use Rattle.name_rules.specs.declared.found.Denoted.TheVariants as denoted
use Rattle.name_rules.specs.declared.found.Denoted.{Denoted as KnownDenoted}
use Rattle.name_rules.specs.declared.found.Found.TheVariants as known
use Rattle.name_rules.specs.declared.found.ObjectName.{ObjectName}
use Rattle.name_rules.specs.declared.log.Bound.TheVariants as bound
use Rattle.name_rules.specs.declared.log.Log.{Log}
use Rattle.name_rules.specs.declared.log.Rule.TheVariants.{Limit, NotVisible, StaticRange, WrongType}
use Rattle.name_rules.specs.declared.scope.Context.{Context}
use Rattle.name_rules.specs.declared.scope.LoopName.{LoopName}
use Rattle.name_rules.specs.declared.scope.Names.{Names}
use Rattle.name_rules.specs.declared.scope.Returns.TheVariants as returns
use Rattle.name_rules.specs.declared.scope.Returns.{Returns}
use Rattle.name_rules.specs.declared.scope.Target.TheVariants as target
use Rattle.name_rules.specs.declared.types.Kind.{Kind}
use Rattle.name_rules.specs.declared.types.Scalar.{Scalar}
use Rattle.name_rules.specs.declared.types.Subtype.TheVariants as subtype
use Rattle.name_rules.specs.declared.types.Wanted.TheVariants as wanted
use Rattle.name_laws.proofs.KeepsCases.{k-case_choice, k-case_choices, k-handled_by, k-named_reasons}
use Rattle.name_laws.proofs.KeepsDeclarations.{k-declarations}
use Rattle.name_laws.proofs.KeepsExpressions.{k-condition, k-expr}
use Rattle.name_laws.proofs.KeepsIterations.{k-entered}
use Rattle.name_laws.proofs.KeepsParts.{k-new_site}
use Rattle.name_laws.proofs.KeepsStatements as k
use Rattle.name_laws.proofs.Makes.{Any, Each, Maybe, each-turned, joint, mapped}
use Rattle.name_laws.proofs.Walk.{Keeps, k-given}
use Rattle.name_laws.proofs.Walked.{KeepsAround, KeepsInside}
use Rattle.typed_scopes.specs.Outs.{OutAll, OutArms, OutCases, OutHandlers, OutStmt}
use Rattle.typed_scopes.specs.Scopes.{IsLast, IsLastHandler}
use Rattle.name_flow.specs.Order.{IsNumber, OrderedAll, OrderedArms, OrderedCases, OrderedHandlers, OrderedStmt}
use Rattle.name_flow.proofs.Finds.{And, Clean, Finds, any, c-any, c-bind, c-both, c-fact, c-fault, c-given, c-pure, c-some, c-unless, not-none, staying}
use Rattle.name_flow.proofs.FlowNames.{DoneIn, DoneOf, IsPlain, Tells, t-bind, t-fault, t-given, t-given-any, t-if, t-name, t-none, t-pure, t-some, t-then, t-valued_by, t-where_clean}
use Rattle.name_flow.proofs.FlowDeclarations.{GoesForward, Same, declarations-loops, entered-in}

-- ---- the loops around a text

abbrev pub AllMay : (ℕ → Type 0) → List LoopName → Type 0
AllMay may [] = Unit {0}
AllMay may (l ∷ ls) = may l.number × AllMay may ls

may-both : (may : ℕ → Type 0) (a b : List LoopName) → AllMay may a → AllMay may b → AllMay may (a ++ b)
may-both may [] b h k = k
may-both may (l ∷ a) b h k = (h.0, may-both may a b h.1 k)

may-more : (may more : ℕ → Type 0) → ((n : ℕ) → may n → more n) → (ls : List LoopName) → AllMay may ls → AllMay more ls
may-more may more f [] h = tt
may-more may more f (l ∷ ls) h = (f l.number h.0, may-more may more f ls h.1)

may-reverse : (may : ℕ → Type 0) (ls : List LoopName) → AllMay may ls → AllMay may (reverse ls)
may-reverse may [] h = tt
may-reverse may (l ∷ ls) h = subst (AllMay may) (sym (reverse-append (l ∷ []) ls)) (may-both may (reverse ls) (l ∷ []) (may-reverse may ls h.1) (h.0, tt))

may-found : (may : ℕ → Type 0) (p : LoopName → Bool) (ls : List LoopName) → AllMay may ls → Maybe (λ l. may l.number) (find p ls)
may-found may p [] h = tt
may-found may p (l ∷ ls) h = by (p l) (may-found may p ls h.1)
  where
    by : (b : Bool) → Maybe (λ l. may l.number) (find p ls) → Maybe (λ l. may l.number) (cond b (Some l) (find p ls))
    by true r = h.0
    by false r = r

may-at : (may : ℕ → Type 0) (ls : List LoopName) (k : ℕ) → AllMay may ls → Maybe (λ l. may l.number) (slice_get ls k)
may-at may [] k h = tt
may-at may (l ∷ ls) zero h = h.0
may-at may (l ∷ ls) (suc k) h = may-at may ls k h.1

-- those of a loop's statements
abbrev pub Inner : ℕ → (ℕ → Type 0) → ℕ → Type 0
Inner number may = λ n. (n ≡ number) ⊎ may n

may-inner : (may : ℕ → Type 0) (number : ℕ) (l : LoopName) (ls : List LoopName) → l.number ≡ number → AllMay may ls → AllMay (Inner number may) (ls ++ l ∷ [])
may-inner may number l ls e h = may-both (Inner number may) ls (l ∷ []) (may-more may (Inner number may) (λ n m. inr m) ls h) (inl e, tt)

-- which loops are around a text, and whether a handler is
pub record Sight : Type 1 where
  pub may : ℕ → Type 0
  pub handled : Bool

pub record Near (V : Sight) (here : Context) : Type 0 where
  pub loops : AllMay V.may here.loops
  pub handler : here.in_handler ≡ true → V.handled ≡ true

pub near-same : (V : Sight) (a b : Context) → Same a b → Near V b → Near V a
near-same V a b e h = record { loops = subst (AllMay V.may) (sym e.loops) h.loops; handler = λ g. h.handler (sym e.handler ∙ g) }

abbrev inner : ℕ → Sight → Sight
inner n V = record { may = Inner n V.may; handled = V.handled }

near-inner : (V : Sight) (names : Names) (here : Context) (label : Option ℕ) (n : ℕ) → Near V here → Near (inner n V) (s.in_loop names here label n)
near-inner V names here label n h = record { loops = may-inner V.may n _ here.loops refl h.loops; handler = h.handler }

abbrev handling : Sight → Sight
handling V = record { may = V.may; handled = true }

near-handler : (V : Sight) (here : Context) → Near V here → Near (handling V) (s.in_handler_of here)
near-handler V here h = record { loops = h.loops; handler = λ e. refl }

near-threads : (V : Sight) (names : Names) (here : Context) (n : ℕ) → Near V here → Near V (s.in_threads names here n)
near-threads V names here n h = record { loops = h.loops; handler = h.handler }

-- ---- what is asked of statements

abbrev pub StmtIn : Sight → TypedPart → Type 0
StmtIn V x = OutStmt V.may (as_stmt x) × OrderedStmt V.handled (as_stmt x)

abbrev pub StmtsIn : Sight → TypedPart → Type 0
StmtsIn V x = OutAll V.may (as_stmts x) × OrderedAll V.handled (as_stmts x)

abbrev pub CasesIn : Sight → TypedPart → Type 0
CasesIn V x = OutCases V.may (as_alternatives x) × OrderedCases V.handled (as_alternatives x)

abbrev pub HandlersIn : Sight → TypedPart → Type 0
HandlersIn V x = OutHandlers V.may (as_handlers x) × OrderedHandlers (as_handlers x)

stmts-list : (V : Sight) (x : TypedPart) → Each (StmtIn V) x → StmtsIn V x
stmts-list V (part.Cons p q) h = let r = stmts-list V q h.1 in ((h.0.0, r.0), (h.0.1, r.1))
stmts-list V x h = (tt, tt)

stmts-turned : (V : Sight) (x : TypedPart) → Each (StmtIn V) x → StmtsIn V (turned x)
stmts-turned V x h = stmts-list V (turned x) (each-turned (StmtIn V) x h)

-- ---- what judges statements

pub record AroundFinds (a : Judges) : Type 1 where
  pub keeps : KeepsAround staying.walk a
  pub within : (V : Sight) (here : Context) (x : Stmt) → Finds (Near V here) (Maybe (StmtIn V)) (a.within here x)

c-within : (V : Sight) (G : Type 0) (a : Judges) (here : Context) (x : Stmt) → AroundFinds a → (G → Near V here) → Finds G (Maybe (StmtIn V)) (a.within here x)
c-within V G a here x f r = record { keeps = (f.within V here x).keeps; at = λ log l g. (f.within V here x).at log l (r g) }

c-stmts_from : (V : Sight) (G : Type 0) (a : Judges) (here : Context) (made : Option TypedPart) (x : MoreStmts) → AroundFinds a → (G → Near V here) → (G → Maybe (Each (StmtIn V)) made)
    → Finds G (Maybe (Each (StmtIn V))) (s.stmts_from a here made x)
c-stmts_from V G a here made syntax.NoStmt f r g = c-pure G (Maybe (Each (StmtIn V))) made g
c-stmts_from V G a here made (syntax.AlsoStmt x xs) f r g =
    c-bind G (Maybe (StmtIn V)) (Maybe (Each (StmtIn V))) (a.within here x) _ (c-within V G a here x f r) (λ y.
    c-stmts_from V (And G (Maybe (StmtIn V) y)) a here (joined s.with_stmt made y) xs f (λ h. r h.old) (λ h. joint (Each (StmtIn V)) (StmtIn V) (Each (StmtIn V)) s.with_stmt made y (g h.old) h.new (λ b c m n. (n, m))))

pub c-stmts : (V : Sight) (G : Type 0) (a : Judges) (here : Context) (x : Stmts) → AroundFinds a → (G → Near V here) → Finds G (Maybe (StmtsIn V)) (s.stmts a here x)
unfolding s.stmts
c-stmts V G a here (syntax.stmts x xs) f r =
    c-bind G (Maybe (Each (StmtIn V))) (Maybe (StmtsIn V)) (s.stmts_from a here (Some s.no_stmts) (syntax.AlsoStmt x xs)) _ (c-stmts_from V G a here (Some s.no_stmts) (syntax.AlsoStmt x xs) f r (λ g. tt)) (λ y.
    c-pure _ (Maybe (StmtsIn V)) (option_map turned y) (λ g. mapped (Each (StmtIn V)) (StmtsIn V) turned y g.new (stmts-turned V)))

-- ---- simple statements

plain-in : (V : Sight) (x : typed.Stmt) → IsPlain x → OutStmt V.may x × OrderedStmt V.handled x
plain-in V typed.Null h = (tt, tt)
plain-in V (typed.Assign at root ss v) h = (tt, tt)
plain-in V (typed.CallProcedure at callee sub as') h = (tt, tt)
plain-in V typed.Return h = (tt, tt)
plain-in V (typed.ReturnValue v) h = (tt, h)
plain-in V (typed.Raise r) h = (tt, tt)
plain-in V (typed.Put at callee ps line) h = (tt, tt)
plain-in V (typed.Get at callee first root ss scalar) h = (tt, tt)
plain-in V x h = absurd h

abbrev pub PlainOf : TypedPart → Type 0
PlainOf x = IsPlain (as_stmt x)

abbrev pub IsSimple : Judging (Option TypedPart) → Type 0
IsSimple j = Tells (Maybe PlainOf) j

plain-some : (V : Sight) (x : Option TypedPart) → Maybe PlainOf x → Maybe (StmtIn V) x
plain-some V None h = tt
plain-some V (Some x) h = plain-in V (as_stmt x) h

c-simple : (V : Sight) (G : Type 0) (j : Judging (Option TypedPart)) → Keeps staying.walk j → IsSimple j → Finds G (Maybe (StmtIn V)) j
c-simple V G j k m = record { keeps = k; at = λ log l g. plain-some V (j log).0 (m.at log) }

simple-made : {A : Type 0} (g : A → TypedPart) (x : Option A) → ((y : A) → PlainOf (g y)) → Maybe PlainOf (option_map g x)
simple-made g x h = mapped Any PlainOf g x (any x) (λ y t. h y)

simple-assigned : (names : Names) (level : Inside) (here : Context) (p : ObjectName) (ss : Selections) (e : Expr) → IsSimple (s.assign_place names level here p ss e)
unfolding s.assign_place
simple-assigned names level here p ss e =
    t-where_clean PlainOf (expr names level (s.with_target here (target.Of p.subtype)) (wanted_of p.subtype) e) (s.assigned_place p ss (first_token.of_expr e - 1)) (λ x.
    t-if (Maybe PlainOf) (not p.variable) (fault p.first WrongType) (given x (s.stored_place p ss (first_token.of_expr e - 1))) (t-fault PlainOf p.first WrongType)
    (t-given-any PlainOf x (s.stored_place p ss (first_token.of_expr e - 1)) (λ f. t-bind (Maybe PlainOf) (stored p.subtype (first_token.of_expr e - 1) f) _ (λ v. t-pure (Maybe PlainOf) (option_map (s.assigned p ss) v) (simple-made (s.assigned p ss) v (λ y. tt))))))

simple-other : (names : Names) (level : Inside) (here : Context) (e : Expr) (first : ℕ) → IsSimple (s.assign_other names level here e first)
simple-other names level here e first = t-where_clean PlainOf (s.assigned_alone names level here e) (λ u. fault first WrongType) (λ u. t-fault PlainOf first WrongType)

simple-form : (names : Names) (level : Inside) (here : Context) (e : Expr) (d : KnownDenoted) (x : TypedPart) → IsSimple (s.assign_form names level here e d x)
simple-form names level here e (denoted.Value (known.Object p)) x = simple-assigned names level here p (selections_of x) e
simple-form names level here e d x = simple-other names level here e (denoted_first d)

simple-assign_to : (names : Names) (level : Inside) (here : Context) (e : Expr) (d : Option Denoted) → IsSimple (s.assign_to names level here e d)
simple-assign_to names level here e None = t-bind (Maybe PlainOf) (s.assigned_alone names level here e) _ (λ u. t-none PlainOf)
simple-assign_to names level here e (Some d) = simple-form names level here e d.known d.part

pub simple-assign : (names : Names) (level : Inside) (here : Context) (n : Name) (e : Expr) → IsSimple (s.assign names level here n e)
simple-assign names level here n e = t-bind (Maybe PlainOf) (level.name here n) _ (λ d. simple-assign_to names level here e d)

simple-statement : (d : KnownDenoted) (x : TypedPart) → DoneIn d x → IsSimple (s.as_statement d x)
simple-statement (denoted.Done first) x h = t-some PlainOf x h
simple-statement d x h = t-fault PlainOf (denoted_first d) WrongType

pub simple-call : (names : Names) (level : Inside) (here : Context) (n : Name) → Tells (Maybe DoneOf) (level.name here n) → IsSimple (s.call_stmt names level here n)
unfolding s.call_stmt
simple-call names level here n h =
    t-then (Maybe DoneOf) (Maybe PlainOf) (level.name here n) _ h (λ d q.
    t-then (Maybe DoneOf) (Maybe PlainOf) (given d (valued_by names level here)) _ (t-given DoneOf DoneOf d (valued_by names level here) q (λ x r. t-valued_by names level here x r)) (λ e r.
    t-given DoneOf PlainOf e _ r (λ x t. simple-statement x.known x.part t)))

simple-alone : (at : ℕ) (r : Returns) → IsSimple (s.return_alone at r)
simple-alone at returns.Nothing = t-some PlainOf (part.AStmt typed.Return) tt
simple-alone at (returns.Value t) = t-fault PlainOf at WrongType
simple-alone at returns.Faulty = t-fault PlainOf at WrongType

-- what is returned is a number
abbrev pub IsScalar : TypedPart → Type 0
IsScalar v = IsNumber (as_value v)

pub scalar-stored : (t : Scalar) (at : ℕ) (f : Found) → Tells (Maybe IsScalar) (stored (subtype.Scalar t) at f)
unfolding stored
scalar-stored t at f = t-bind (Maybe IsScalar) (asked t.kind f) _ (λ e. t-given-any IsScalar e _ (λ x. t-some IsScalar (part.AValue (typed.Number (check_at at t) (as_expr x))) tt))

scalar-value : (names : Names) (level : Inside) (here : Context) (at : ℕ) (t : Scalar) (e : Expr) → Tells (Maybe IsScalar) (s.value_at names level here at t e)
unfolding s.value_at
scalar-value names level here at t e = t-bind (Maybe IsScalar) (expr names level here wanted.Other e) _ (λ x. t-given-any IsScalar x (stored (subtype.Scalar t) at) (λ f. scalar-stored t at f))

simple-value : (names : Names) (level : Inside) (here : Context) (at : ℕ) (e : Expr) (r : Returns) → IsSimple (s.return_value names level here at e r)
simple-value names level here at e returns.Nothing = t-where_clean PlainOf (expr names level here wanted.Other e) _ (λ x. t-given-any PlainOf x _ (λ f. t-fault PlainOf at WrongType))
simple-value names level here at e (returns.Value t) =
    t-then (Maybe IsScalar) (Maybe PlainOf) (s.value_at names level here at t e) _ (scalar-value names level here at t e) (λ v q. t-pure (Maybe PlainOf) (option_map s.returned v) (mapped IsScalar PlainOf s.returned v q (λ y n. n)))
simple-value names level here at e returns.Faulty = t-bind (Maybe PlainOf) (judged_alone names level here e) _ (λ u. t-none PlainOf)

pub simple-returned : (names : Names) (level : Inside) (here : Context) (at : ℕ) (e : Option Expr) → IsSimple (s.return_from names level here at e)
simple-returned names level here at None = simple-alone at here.returns
simple-returned names level here at (Some e) = simple-value names level here at e here.returns

simple-raised : (names : Names) (here : Context) (at : ℕ) (p : Pack) → IsSimple (s.raise_from names here at (Some p))
simple-raised names here at p = t-bind (Maybe PlainOf) (exception names here p) _ (λ r. t-pure (Maybe PlainOf) (option_map s.raised r) (simple-made s.raised r (λ y. tt)))

raise-again : (V : Sight) (G : Type 0) (at : ℕ) (b : Bool) → (G → b ≡ true → V.handled ≡ true) → Finds G (Maybe (StmtIn V)) (if b then some (part.AStmt typed.Reraise) else fault at NotVisible)
raise-again V G at true h = c-some G (StmtIn V) (part.AStmt typed.Reraise) (λ g. (tt, h g refl))
raise-again V G at false h = c-fault G (StmtIn V) at NotVisible

c-raise : (V : Sight) (G : Type 0) (names : Names) (here : Context) (at : ℕ) (p : Option Pack) → (G → Near V here) → Finds G (Maybe (StmtIn V)) (s.raise_from names here at p)
c-raise V G names here at None r = raise-again V G at here.in_handler (λ g. (r g).handler)
c-raise V G names here at (Some p) r = c-simple V G (s.raise_from names here at (Some p)) (k.k-raise_from staying.walk names here at (Some p) tt) (simple-raised names here at p)

-- ---- exits

c-loop_or : (may : ℕ → Type 0) (G : Type 0) (at : ℕ) (l : Option LoopName) → (G → Maybe (λ l. may l.number) l) → Finds G (Maybe may) (s.loop_or at l)
c-loop_or may G at None h = c-fault G may at NotVisible
c-loop_or may G at (Some l) h = c-some G may l.number h

c-exited : (may : ℕ → Type 0) (G : Type 0) (names : Names) (here : Context) (at : ℕ) (from : Option ℕ) (l : Option LoopName) → (G → AllMay may here.loops) → (G → Maybe (λ l. may l.number) l) → Finds G (Maybe may) (s.exited names here at from l)
c-exited may G names here at from None r h = c-fault G may at NotVisible
c-exited may G names here at None (Some l) r h = c-some G may l.number h
c-exited may G names here at (Some token) (Some l) r h =
    c-loop_or may G token (s.loop_named (symbol names token) here.loops) (λ g. may-found may (λ l. s.is_name (symbol names token) l.symbol) (reverse here.loops) (may-reverse may here.loops (r g)))

c-exit_from : (V : Sight) (G : Type 0) (a : Judges) (here : Context) (at : ℕ) (from : Option ℕ) (e : Option Expr) → AroundFinds a → (G → Near V here) → Finds G (Maybe (StmtIn V)) (s.exit_from a.names a.level here at from e)
unfolding s.exit_from
c-exit_from V G a here at from e f r =
    c-bind G (Maybe V.may) (Maybe (StmtIn V)) (s.exited a.names here at from (s.innermost here.loops)) _ (c-exited V.may G a.names here at from (s.innermost here.loops) (λ g. (r g).loops) (λ g. may-at V.may here.loops (length here.loops - 1) (r g).loops)) (λ n.
    c-bind _ Any (Maybe (StmtIn V)) (s.condition_where a.names a.level here e) _ (c-any _ (s.condition_where a.names a.level here e) (k.k-condition_where staying.walk a.names a.level here e tt f.keeps.level)) (λ c.
    c-pure _ (Maybe (StmtIn V)) (joined s.exit_part n c) (λ g. joint V.may Any (StmtIn V) s.exit_part n c g.old.new (any c) (λ b m t u. (t, tt)))))

-- ---- if statements

-- statements behind a condition
abbrev IsBranch : Sight → TypedPart → Type 0
IsBranch V p = StmtsIn V (right_of p)

with-elsif-if : (V : Sight) (made c ss : Option TypedPart) → Maybe (Each (IsBranch V)) made → Maybe (StmtsIn V) ss → Maybe (Each (IsBranch V)) (s.with_elsif_if made c ss)
with-elsif-if V made None ss g i = tt
with-elsif-if V made (Some c) ss g i = joint (Each (IsBranch V)) (StmtsIn V) (Each (IsBranch V)) (s.with_elsif c) made ss g i (λ a b m n. (n, m))

c-condition : (G : Type 0) (a : Judges) (here : Context) (e : Expr) → AroundFinds a → Finds G Any (condition a.names a.level here e)
c-condition G a here e f = c-any G (condition a.names a.level here e) (k-condition staying.walk a.names a.level here e tt f.keeps.level)

c-elsifs : (V : Sight) (G : Type 0) (a : Judges) (here : Context) (made : Option TypedPart) (x : Arms) → AroundFinds a → (G → Near V here) → (G → Maybe (Each (IsBranch V)) made) → Finds G (Maybe (Each (IsBranch V))) (s.elsifs a here made x)
c-elsifs V G a here made syntax.NoArm f r g = c-pure G (Maybe (Each (IsBranch V))) made g
c-elsifs V G a here made (syntax.AlsoArm (syntax.arm at e x) xs) f r g =
    c-bind G Any (Maybe (Each (IsBranch V))) (condition a.names a.level here e) _ (c-condition G a here e f) (λ c.
    c-bind _ (Maybe (StmtsIn V)) (Maybe (Each (IsBranch V))) (s.stmts a here x) _ (c-stmts V _ a here x f (λ h. r h.old)) (λ ss.
    c-elsifs V (And (And G (Any c)) (Maybe (StmtsIn V) ss)) a here (s.with_elsif_if made c ss) xs f (λ h. r h.old.old) (λ h. with-elsif-if V made c ss (g h.old.old) h.new)))

c-otherwise_where : (V : Sight) (G : Type 0) (a : Judges) (here : Context) (o : OptionalStmts) → AroundFinds a → (G → Near V here) → Finds G (Maybe (StmtsIn V)) (s.otherwise_where a here o)
c-otherwise_where V G a here syntax.AbsentStmts f r = c-some G (StmtsIn V) s.no_stmts (λ g. (tt, tt))
c-otherwise_where V G a here (syntax.PresentStmts x) f r = c-stmts V G a here x f r

nested-in : (V : Sight) (xs o : TypedPart) → Each (IsBranch V) xs → StmtsIn V o → StmtsIn V (nested_stmts xs o)
unfolding nested_stmts
nested-in V (part.Cons p rest) o h g =
    nested-in V rest (part.Cons (part.AStmt (typed.IfThen (as_expr (left_of p)) (as_stmts (right_of p)) (as_stmts o))) part.Nothing) h.1 (((h.0.0, g.0), tt), ((h.0.1, g.1), tt))
nested-in V x o h g = g

c-if_stmt : (V : Sight) (G : Type 0) (a : Judges) (here : Context) (e : Expr) (x : Stmts) (more : Arms) (o : OptionalStmts) → AroundFinds a → (G → Near V here) → Finds G (Maybe (StmtIn V)) (s.if_stmt a here e x more o)
unfolding s.if_stmt
c-if_stmt V G a here e x more o f r =
    c-bind G Any (Maybe (StmtIn V)) (condition a.names a.level here e) _ (c-condition G a here e f) (λ c.
    c-bind _ (Maybe (StmtsIn V)) (Maybe (StmtIn V)) (s.stmts a here x) _ (c-stmts V _ a here x f (λ g. r g.old)) (λ ss.
    c-bind _ (Maybe (Each (IsBranch V))) (Maybe (StmtIn V)) (s.elsifs a here (Some part.Nothing) more) _ (c-elsifs V _ a here (Some part.Nothing) more f (λ g. r g.old.old) (λ g. tt)) (λ xs.
    c-bind _ (Maybe (StmtsIn V)) (Maybe (StmtIn V)) (s.otherwise_where a here o) _ (c-otherwise_where V _ a here o f (λ g. r g.old.old.old)) (λ ys.
    c-both _ Any (StmtsIn V) (StmtIn V) c ss (s.if_stmt_made xs ys) (λ g. any c) (λ g. g.old.old.new) (λ b t.
    c-pure _ (Maybe (StmtIn V)) (joined (s.if_stmt_part b t) xs ys) (λ g. joint (Each (IsBranch V)) (StmtsIn V) (StmtIn V) (s.if_stmt_part b t) xs ys g.old.old.old.new g.old.old.new (λ u v m n. let z = nested-in V u v m n in ((g.new.0, z.0), (g.new.1, z.1)))))))))

-- ---- case statements: an alternative with others stands last

and-false : (b : Bool) → b && false ≡ true → ⊥
and-false true e = true≢false (sym e)
and-false false e = true≢false (sym e)

-- others is among the choices only where it was before
abbrev HasNoOthers : Covering × Choosing → Type 0
HasNoOthers r = r.1.others ≡ false

span-others : (c : Covering) (d : Choosing) (at : ℕ) (low high : ℤ) (log : Log) → (covered_by c d at low high log).0.1.others ≡ d.others
span-others c d at low high log = by (not (int_le low high))
  where
    by : (b : Bool) → ((if b then pure {A = Covering × Choosing} (c, with_span d low high) else (unless (not (overlaps low high c.ranges)) at StaticRange >>= λ u. pure {A = Covering × Choosing} (also_covered c low high, with_span d low high))) log).0.1.others ≡ d.others
    by true = refl
    by false = refl

covered-others : (c : Covering) (d : Choosing) (x : Option Chosen) (log : Log) → (maybe_covered c d x log).0.1.others ≡ d.others
covered-others c d None log = refl
covered-others c d (Some x) log = span-others c (also_mentioned d x.part) x.known.at x.known.low x.known.high log

c-case_choice : (G : Type 0) (level : Inside) (here : Context) (kind : Option Kind) (single : Bool) (c : Covering) (d : Choosing) (x : Choice) → KeepsInside staying.walk level → (G → d.others ≡ false) → Finds G HasNoOthers (case_choice level here kind single false c d x)
unfolding case_choice
c-case_choice G level here kind single c d (syntax.Value t) l h =
    record { keeps = k-case_choice staying.walk level here kind single false c d (syntax.Value t) l; at = λ log m g. let y = chosen_value level here kind t log in covered-others c d y.0 y.1 ∙ h g }
c-case_choice G level here kind single c d (syntax.Span low high) l h =
    record { keeps = k-case_choice staying.walk level here kind single false c d (syntax.Span low high) l; at = λ log m g. let y = chosen_span level here kind low high log in covered-others c d y.0 y.1 ∙ h g }
c-case_choice G level here kind single c d (syntax.Others at) l h =
    c-bind G (λ u. single && false ≡ true) HasNoOthers (unless (single && false) at StaticRange) _ (c-unless G (single && false) at StaticRange) (λ u.
    c-pure _ HasNoOthers (with_others c (single && false), record { spans = d.spans; others = true; mentions = d.mentions }) (λ g. absurd (and-false single g.new)))

c-case_choices : (G : Type 0) (level : Inside) (here : Context) (kind : Option Kind) (single : Bool) (c : Covering) (d : Choosing) (xs : List Choice) → KeepsInside staying.walk level → (G → d.others ≡ false) → Finds G HasNoOthers (case_choices level here kind single false c d xs)
c-case_choices G level here kind single c d [] l h = c-pure G HasNoOthers (c, d) h
c-case_choices G level here kind single c d (x ∷ xs) l h =
    c-bind G HasNoOthers HasNoOthers (case_choice level here kind single false c d x) _ (c-case_choice G level here kind single c d x l h) (λ r. c-case_choices (And G (HasNoOthers r)) level here kind single r.0 r.1 xs l (λ g. g.new))

-- one that V stand before others, and the last one
abbrev IsAlternative : Sight → TypedPart → Type 0
IsAlternative V p = (as' : Alternatives) → OutCases V.may as' → OrderedCases V.handled as' → OutCases V.may (as_alternative p as') × OrderedCases V.handled (as_alternative p as')

abbrev MoreIn : Sight → Covering × Option TypedPart → Type 0
MoreIn V r = Maybe (Each (IsAlternative V)) r.1

abbrev LastIn : Sight → Covering × Option TypedPart → Type 0
LastIn V r = Maybe (λ x. CasesIn V (turned x)) r.1

cases-onto : (V : Sight) (q rest : TypedPart) → Each (IsAlternative V) q → CasesIn V rest → CasesIn V (onto q rest)
cases-onto V (part.Cons p q) rest h r = cases-onto V q (part.Cons p rest) h.1 (h.0 (as_alternatives rest) r.0 r.1)
cases-onto V (part.LeafCons l q) rest h r = cases-onto V q (part.LeafCons l rest) h (tt, tt)
cases-onto V q rest h r = r

before-others : (o : Bool) (as' : Alternatives) → o ≡ false → IsLast o as'
before-others o as' e = subst (λ b. IsLast b as') (sym e) tt

at-end : (o : Bool) → IsLast o typed.NoAlternative
at-end true = tt
at-end false = tt

also-more : (V : Sight) (d : Choosing) (made ss : Option TypedPart) → d.others ≡ false → Maybe (Each (IsAlternative V)) made → Maybe (StmtsIn V) ss → Maybe (Each (IsAlternative V)) (s.also_alternative d made ss)
unfolding s.also_alternative
also-more V d made ss e g h = joint (Each (IsAlternative V)) (StmtsIn V) (Each (IsAlternative V)) (s.with_alternative d) made ss g h (λ a b m n. ((λ as' o r. ((n.0, o), (before-others d.others as' e, n.1, r))), m))

also-last : (V : Sight) (d : Choosing) (made ss : Option TypedPart) → Maybe (Each (IsAlternative V)) made → Maybe (StmtsIn V) ss → Maybe (λ x. CasesIn V (turned x)) (s.also_alternative d made ss)
unfolding s.also_alternative turned
also-last V d made ss g h =
    joint (Each (IsAlternative V)) (StmtsIn V) (λ x. CasesIn V (turned x)) (s.with_alternative d) made ss g h
    (λ a b m n. cases-onto V a (part.Cons (part.AnAlternative (typed.Alternative d.others d.spans _ (as_stmts b))) part.Nothing) m ((n.0, tt), (at-end d.others, n.1, tt)))

c-more_alternative : (V : Sight) (G : Type 0) (a : Judges) (here : Context) (kind : Option Kind) (c : Covering) (made : Option TypedPart) (x : Alt) → AroundFinds a → (G → Near V here) → (G → Maybe (Each (IsAlternative V)) made)
    → Finds G (MoreIn V) (s.alternative a here kind false c made x)
unfolding s.alternative
c-more_alternative V G a here kind c made (syntax.alt at x ys t) f r g =
    let j = case_choices a.level here kind (length ys == 0) false c s.no_choosing (x ∷ ys) in
    c-bind G HasNoOthers (MoreIn V) j _ (c-case_choices G a.level here kind (length ys == 0) c s.no_choosing (x ∷ ys) f.keeps.level (λ g. refl)) (λ y.
    c-bind _ (Maybe (StmtsIn V)) (MoreIn V) (s.stmts a here t) _ (c-stmts V _ a here t f (λ h. r h.old)) (λ ss.
    c-pure _ (MoreIn V) (y.0, s.also_alternative y.1 made ss) (λ h. also-more V y.1 made ss h.old.new (g h.old.old) h.new)))

c-last_alternative : (V : Sight) (G : Type 0) (a : Judges) (here : Context) (kind : Option Kind) (last : Bool) (c : Covering) (made : Option TypedPart) (x : Alt) → AroundFinds a → (G → Near V here) → (G → Maybe (Each (IsAlternative V)) made)
    → Finds G (LastIn V) (s.alternative a here kind last c made x)
unfolding s.alternative
c-last_alternative V G a here kind last c made (syntax.alt at x ys t) f r g =
    let j = case_choices a.level here kind (length ys == 0) last c s.no_choosing (x ∷ ys) in
    c-bind G Any (LastIn V) j _ (c-any G j (k-case_choices staying.walk a.level here kind (length ys == 0) last c s.no_choosing (x ∷ ys) f.keeps.level)) (λ y.
    c-bind _ (Maybe (StmtsIn V)) (LastIn V) (s.stmts a here t) _ (c-stmts V _ a here t f (λ h. r h.old)) (λ ss.
    c-pure _ (LastIn V) (y.0, s.also_alternative y.1 made ss) (λ h. also-last V y.1 made ss (g h.old.old) h.new)))

c-alts : (V : Sight) (G : Type 0) (a : Judges) (here : Context) (kind : Option Kind) (c : Covering) (made : Option TypedPart) (x : Alt) (xs : Alts) → AroundFinds a → (G → Near V here) → (G → Maybe (Each (IsAlternative V)) made)
    → Finds G (LastIn V) (s.alts a here kind c made (syntax.AlsoAlt x xs))
c-alts V G a here kind c made x syntax.NoAlt f r g =
    c-bind G (LastIn V) (LastIn V) (s.alternative a here kind true c made x) _ (c-last_alternative V G a here kind true c made x f r g) (λ y. c-pure _ (LastIn V) (y.0, y.1) (λ h. h.new))
c-alts V G a here kind c made x (syntax.AlsoAlt y ys) f r g =
    c-bind G (MoreIn V) (LastIn V) (s.alternative a here kind false c made x) _ (c-more_alternative V G a here kind c made x f r g) (λ z. c-alts V (And G (MoreIn V z)) a here kind z.0 z.1 y ys f (λ h. r h.old) (λ h. h.new))

c-case_stmt : (V : Sight) (G : Type 0) (a : Judges) (here : Context) (at : ℕ) (e : Expr) (x : Alt) (xs : Alts) → AroundFinds a → (G → Near V here) → Finds G (Maybe (StmtIn V)) (s.case_stmt a here at e (syntax.AlsoAlt x xs))
unfolding s.case_stmt
c-case_stmt V G a here at e x xs f r =
    let none : Covering = record { ranges = []; faulty = false; others = false } in
    c-bind G Any (Maybe (StmtIn V)) (expr a.names a.level here wanted.Other e) _ (c-any G (expr a.names a.level here wanted.Other e) (k-expr staying.walk a.names a.level here wanted.Other e tt f.keeps.level)) (λ y.
    c-bind _ Any (Maybe (StmtIn V)) (given y s.selector) _ (c-any _ (given y s.selector) (k-given staying.walk y s.selector (λ z. k.k-selector staying.walk z))) (λ w.
    c-bind _ (LastIn V) (Maybe (StmtIn V)) (s.alts a here (s.selector_kind w) none (Some part.Nothing) (syntax.AlsoAlt x xs)) _ (c-alts V _ a here (s.selector_kind w) none (Some part.Nothing) x xs f (λ g. r g.old.old) (λ g. tt)) (λ z.
    c-bind _ Any (Maybe (StmtIn V)) (s.closed_where at w z.0) _ (c-any _ (s.closed_where at w z.0) (k.k-closed_where staying.walk at w z.0)) (λ v.
    c-pure _ (Maybe (StmtIn V)) (joined s.case_part w z.1) (λ g. joint Any (λ x. CasesIn V (turned x)) (StmtIn V) s.case_part w z.1 (any w) g.old.new (λ b c m n. n))))))

-- ---- loops

c-loop_entered : (G : Type 0) (a : Judges) (here : Context) (p : OptionalParallel) (i : Iter) → AroundFinds a → Finds G (λ e. (Same e.here here) × ((k : ℕ) → e.construct ≡ Some k → Maybe GoesForward e.iteration)) (s.loop_entered a here p i)
unfolding s.loop_entered
c-loop_entered G a here p i f = record {
  keeps = k.k-loop_entered staying.walk a here p i f.keeps;
  at = λ log l g.
      let e = entered a.names a.level a.inner here site.Loop p i log in
      let x = entered-in a.names a.level a.inner here site.Loop p i log in
      let back = (k.k-backwards_rule staying.walk (length log.faults == length e.1.faults) e.0.construct e.0.reverse).at e.1 in
      let mid : Clean e.1 = back l in
      let first : Clean log = (k-entered staying.walk a.names a.level a.inner here site.Loop p i tt f.keeps.level f.keeps.inner).at log mid in
      (x.same, λ k c. x.forward (forward e.0.construct e.0.reverse k c e.1 (subst (λ fs. Clean (s.backwards_rule (length fs == 0) e.0.construct e.0.reverse e.1).1) first (subst (λ fs. Clean (s.backwards_rule (length log.faults == length fs) e.0.construct e.0.reverse e.1).1) mid l))));
}
  where
    forward : (construct reverse : Option ℕ) (k : ℕ) → construct ≡ Some k → (log : Log) → Clean (s.backwards_rule true construct reverse log).1 → reverse ≡ None
    forward (Some n) None k e log l = refl
    forward (Some n) (Some at) k e log l = absurd (not-none log.faults _ l)
    forward None None k e log l = refl
    forward None (Some at) k e log l = absurd cc

for-made : (V : Sight) (G : Type 0) (n : ℕ) (construct : Option ℕ) (c : Option TypedPart) (i ss : TypedPart) → (G → (k : ℕ) → construct ≡ Some k → GoesForward i) → (G → StmtsIn (inner n V) ss) → Finds G (Maybe (StmtIn V)) (s.for_made n construct c i ss)
for-made V G n None c i ss h g = c-some G (StmtIn V) (s.for_part n i ss) g
for-made V G n (Some k) c i ss h g = c-pure G (Maybe (StmtIn V)) (option_map (s.parallel_part n k i ss) c) (λ t. mapped Any (StmtIn V) (s.parallel_part n k i ss) c (any c) (λ x u. ((g t).0, (h t k refl, (g t).1))))

c-for_loop : (V : Sight) (G : Type 0) (a : Judges) (here : Context) (label : Option ℕ) (n : ℕ) (x : Stmts) (p : OptionalParallel) (i : Iter) → AroundFinds a → (G → Near V here) → Finds G (Maybe (StmtIn V)) (s.for_loop a here label n x p i)
unfolding s.for_loop
c-for_loop V G a here label n x p i f r =
    c-bind G (λ e. (Same e.here here) × ((k : ℕ) → e.construct ≡ Some k → Maybe GoesForward e.iteration)) (Maybe (StmtIn V)) (s.loop_entered a here p i) _ (c-loop_entered G a here p i f) (λ e.
    c-bind _ (Maybe (StmtsIn (inner n V))) (Maybe (StmtIn V)) (s.stmts a (s.in_loop a.names e.here label n) x) _
    (c-stmts (inner n V) _ a (s.in_loop a.names e.here label n) x f (λ g. near-inner V a.names e.here label n (near-same V e.here here g.new.0 (r g.old)))) (λ ss.
    c-both _ (λ y. (k : ℕ) → e.construct ≡ Some k → GoesForward y) (StmtsIn (inner n V)) (StmtIn V) e.iteration ss (s.for_made n e.construct e.chunk) (λ g. forward e.iteration e.construct g.old.new.1) (λ g. g.new) (λ y z.
    for-made V _ n e.construct e.chunk y z (λ g. g.old.new) (λ g. g.new))))
  where
    forward : (i : Option TypedPart) (construct : Option ℕ) → ((k : ℕ) → construct ≡ Some k → Maybe GoesForward i) → Maybe (λ y. (k : ℕ) → construct ≡ Some k → GoesForward y) i
    forward None construct h = tt
    forward (Some y) construct h = h

c-loop_with : (V : Sight) (G : Type 0) (a : Judges) (here : Context) (label : Option ℕ) (n : ℕ) (x : Stmts) (by : Scheme) → AroundFinds a → (G → Near V here) → Finds G (Maybe (StmtIn V)) (s.loop_with a here label n x by)
c-loop_with V G a here label n x (syntax.While at e) f r =
    c-bind G Any (Maybe (StmtIn V)) (condition a.names a.level here e) _ (c-condition G a here e f) (λ c.
    c-bind _ (Maybe (StmtsIn (inner n V))) (Maybe (StmtIn V)) (s.stmts a (s.in_loop a.names here label n) x) _ (c-stmts (inner n V) _ a (s.in_loop a.names here label n) x f (λ g. near-inner V a.names here label n (r g.old))) (λ ss.
    c-pure _ (Maybe (StmtIn V)) (joined (s.loop_part n) c ss) (λ g. joint Any (StmtsIn (inner n V)) (StmtIn V) (s.loop_part n) c ss (any c) g.new (λ b u m o. o))))
c-loop_with V G a here label n x (syntax.For p at i) f r = c-for_loop V G a here label n x (s.optional_parallel p) i f r

c-loop_by : (V : Sight) (G : Type 0) (a : Judges) (here : Context) (label : Option ℕ) (n : ℕ) (x : Stmts) (by : Option Scheme) → AroundFinds a → (G → Near V here) → Finds G (Maybe (StmtIn V)) (s.loop_by a here label n x by)
c-loop_by V G a here label n x None f r =
    c-bind G (Maybe (StmtsIn (inner n V))) (Maybe (StmtIn V)) (s.stmts a (s.in_loop a.names here label n) x) _ (c-stmts (inner n V) G a (s.in_loop a.names here label n) x f (λ g. near-inner V a.names here label n (r g))) (λ ss.
    c-pure _ (Maybe (StmtIn V)) (joined (s.loop_part n) (Some part.Nothing) ss) (λ g. joint Any (StmtsIn (inner n V)) (StmtIn V) (s.loop_part n) (Some part.Nothing) ss tt g.new (λ b u m o. o)))
c-loop_by V G a here label n x (Some by) f r = c-loop_with V G a here label n x by f r

c-loop_stmt : (V : Sight) (G : Type 0) (a : Judges) (here : Context) (label : Option ℕ) (by : Option Scheme) (x : Stmts) (last : ℕ) (name : Option ℕ) → AroundFinds a → (G → Near V here) → Finds G (Maybe (StmtIn V)) (s.loop_stmt a here label by x last name)
unfolding s.loop_stmt
c-loop_stmt V G a here label by x last name f r =
    c-bind G Any (Maybe (StmtIn V)) (s.loop_ends a.names label last name) _ (c-any G (s.loop_ends a.names label last name) (k.k-loop_ends staying.walk a.names label last name tt)) (λ u.
    c-bind _ Any (Maybe (StmtIn V)) s.new_loop _ (c-any _ s.new_loop (k.k-new_loop staying.walk)) (λ n. c-loop_by V _ a here label n x by f (λ g. r g.old.old)))

-- ---- handlers: one for others stands last

abbrev NotOthers : TypedHandled → Type 0
NotOthers typed.Others = ⊥
NotOthers (typed.Reasons rs) = Unit {0}

abbrev NamesReasons : List Reason × Option TypedHandled → Type 0
NamesReasons r = Maybe NotOthers r.1

c-handled_by : (G : Type 0) (names : Names) (here : Context) (seen : List Reason) (h : Handled) → Finds G NamesReasons (handled_by names here seen false h)
unfolding handled_by
c-handled_by G names here seen (syntax.AnyOther at) =
    c-bind G (λ u. false ≡ true) NamesReasons (unless false at StaticRange) _ (c-unless G false at StaticRange) (λ u. c-pure _ NamesReasons (seen, Some typed.Others) (λ g. absurd (true≢false (sym g.new))))
c-handled_by G names here seen (syntax.These p ps) =
    let start : Naming = record { seen = seen; named = Some [] } in
    c-bind G Any NamesReasons (named_reasons names here start (p ∷ ps)) _ (c-any G (named_reasons names here start (p ∷ ps)) (k-named_reasons staying.walk names here start (p ∷ ps) tt)) (λ n.
    c-pure _ NamesReasons (n.seen, option_map typed.Reasons n.named) (λ g. mapped Any NotOthers typed.Reasons n.named (any n.named) (λ y t. tt)))

abbrev IsHandler : Sight → TypedPart → Type 0
IsHandler V p = (hs : TypedHandlers) → OutHandlers V.may hs → OrderedHandlers hs → OutHandlers V.may (as_handler p hs) × OrderedHandlers (as_handler p hs)

abbrev MoreHandlers : Sight → List Reason × Option TypedPart → Type 0
MoreHandlers V r = Maybe (Each (IsHandler V)) r.1

abbrev TurnedHandlers : Sight → TypedPart → Type 0
TurnedHandlers V x = HandlersIn V (turned x)

handlers-onto : (V : Sight) (q rest : TypedPart) → Each (IsHandler V) q → HandlersIn V rest → HandlersIn V (onto q rest)
handlers-onto V (part.Cons p q) rest h r = handlers-onto V q (part.Cons p rest) h.1 (h.0 (as_handlers rest) r.0 r.1)
handlers-onto V (part.LeafCons l q) rest h r = handlers-onto V q (part.LeafCons l rest) h (tt, tt)
handlers-onto V q rest h r = r

before-handlers : (h : TypedHandled) (hs : TypedHandlers) → NotOthers h → IsLastHandler h hs
before-handlers typed.Others hs n = absurd n
before-handlers (typed.Reasons rs) hs n = tt

handler-at-end : (h : TypedHandled) → IsLastHandler h typed.NoHandler
handler-at-end typed.Others = tt
handler-at-end (typed.Reasons rs) = tt

with-more : (V : Sight) (made : Option TypedPart) (h : Option TypedHandled) (ss : Option TypedPart) → Maybe NotOthers h → Maybe (Each (IsHandler V)) made → Maybe (StmtsIn (handling V)) ss → Maybe (Each (IsHandler V)) (s.with_handler_if made h ss)
with-more V made None ss e g i = tt
with-more V made (Some h) ss e g i = joint (Each (IsHandler V)) (StmtsIn (handling V)) (Each (IsHandler V)) (s.with_handler h) made ss g i (λ a b m n. ((λ hs o r. ((n.0, o), (before-handlers h hs e, n.1, r))), m))

with-last : (V : Sight) (made : Option TypedPart) (h : Option TypedHandled) (ss : Option TypedPart) → Maybe (Each (IsHandler V)) made → Maybe (StmtsIn (handling V)) ss → Maybe (TurnedHandlers V) (s.with_handler_if made h ss)
unfolding turned
with-last V made None ss g i = tt
with-last V made (Some h) ss g i =
    joint (Each (IsHandler V)) (StmtsIn (handling V)) (TurnedHandlers V) (s.with_handler h) made ss g i
    (λ a b m n. handlers-onto V a (part.Cons (part.AHandler (typed.Handler h (as_stmts b))) part.Nothing) m ((n.0, tt), (handler-at-end h, n.1, tt)))

c-handler : (V : Sight) (G : Type 0) (a : Judges) (here : Context) (seen : List Reason) (made : Option TypedPart) (h : Handler) → AroundFinds a → (G → Near V here) → (G → Maybe (Each (IsHandler V)) made)
    → Finds G (MoreHandlers V) (s.handler a here false seen made h)
unfolding s.handler
c-handler V G a here seen made (syntax.handler at h x) f r g =
    c-bind G NamesReasons (MoreHandlers V) (handled_by a.names here seen false h) _ (c-handled_by G a.names here seen h) (λ y.
    c-bind _ (Maybe (StmtsIn (handling V))) (MoreHandlers V) (s.stmts a (s.in_handler_of here) x) _ (c-stmts (handling V) _ a (s.in_handler_of here) x f (λ t. near-handler V here (r t.old))) (λ ss.
    c-pure _ (MoreHandlers V) (y.0, s.with_handler_if made y.1 ss) (λ t. with-more V made y.1 ss t.old.new (g t.old.old) t.new)))

abbrev LastHandlers : Sight → List Reason × Option TypedPart → Type 0
LastHandlers V r = Maybe (TurnedHandlers V) r.1

c-last_handler : (V : Sight) (G : Type 0) (a : Judges) (here : Context) (seen : List Reason) (made : Option TypedPart) (h : Handler) → AroundFinds a → (G → Near V here) → (G → Maybe (Each (IsHandler V)) made)
    → Finds G (LastHandlers V) (s.handler a here true seen made h)
unfolding s.handler
c-last_handler V G a here seen made (syntax.handler at h x) f r g =
    c-bind G Any (LastHandlers V) (handled_by a.names here seen true h) _ (c-any G (handled_by a.names here seen true h) (k-handled_by staying.walk a.names here seen true h tt)) (λ y.
    c-bind _ (Maybe (StmtsIn (handling V))) (LastHandlers V) (s.stmts a (s.in_handler_of here) x) _ (c-stmts (handling V) _ a (s.in_handler_of here) x f (λ t. near-handler V here (r t.old))) (λ ss.
    c-pure _ (LastHandlers V) (y.0, s.with_handler_if made y.1 ss) (λ t. with-last V made y.1 ss (g t.old.old) t.new)))

c-handlers : (V : Sight) (G : Type 0) (a : Judges) (here : Context) (seen : List Reason) (made : Option TypedPart) (h : Handler) (hs : Handlers) → AroundFinds a → (G → Near V here) → (G → Maybe (Each (IsHandler V)) made)
    → Finds G (Maybe (TurnedHandlers V)) (s.handlers a here seen made (syntax.AlsoHandler h hs))
c-handlers V G a here seen made h syntax.NoHandler f r g =
    c-bind G (LastHandlers V) (Maybe (TurnedHandlers V)) (s.handler a here true seen made h) _ (c-last_handler V G a here seen made h f r g) (λ y. c-pure _ (Maybe (TurnedHandlers V)) y.1 (λ t. t.new))
c-handlers V G a here seen made h (syntax.AlsoHandler x xs) f r g =
    c-bind G (MoreHandlers V) (Maybe (TurnedHandlers V)) (s.handler a here false seen made h) _ (c-handler V G a here seen made h f r g) (λ y. c-handlers V (And G (MoreHandlers V y)) a here y.0 y.1 x xs f (λ t. r t.old) (λ t. t.new))

c-all_handlers : (V : Sight) (G : Type 0) (a : Judges) (here : Context) (hs : Handlers) → AroundFinds a → (G → Near V here) → Finds G (Maybe (TurnedHandlers V)) (s.handlers a here [] (Some part.Nothing) hs)
unfolding turned
c-all_handlers V G a here syntax.NoHandler f r = c-pure G (Maybe (TurnedHandlers V)) (Some part.Nothing) (λ g. (tt, tt))
c-all_handlers V G a here (syntax.AlsoHandler h hs) f r = c-handlers V G a here [] (Some part.Nothing) h hs f r (λ g. tt)

-- ---- bodies and blocks

pub record BodyIn (V : Sight) (x : TypedPart) : Type 0 where
  pub stmts : OutAll V.may (as_body x).stmts × OrderedAll V.handled (as_body x).stmts
  pub handlers : OutHandlers V.may (as_body x).handlers × OrderedHandlers (as_body x).handlers

pub c-body : (V : Sight) (G : Type 0) (a : Judges) (here : Context) (ds : Option TypedPart) (b : Body) → AroundFinds a → (G → Near V here) → Finds G (Maybe (BodyIn V)) (s.body a here ds b)
unfolding s.body
c-body V G a here ds (syntax.body x hs) f r =
    c-bind G (Maybe (StmtsIn V)) (Maybe (BodyIn V)) (s.stmts a here x) _ (c-stmts V G a here x f r) (λ ss.
    c-bind _ (Maybe (TurnedHandlers V)) (Maybe (BodyIn V)) (s.handlers a here [] (Some part.Nothing) hs) _ (c-all_handlers V _ a here hs f (λ t. r t.old)) (λ xs.
    c-given _ Any (BodyIn V) ds (s.body_made ss xs) (λ t. any ds) (λ d.
    c-pure _ (Maybe (BodyIn V)) (joined (s.body_part d) ss xs) (λ t. joint (StmtsIn V) (TurnedHandlers V) (BodyIn V) (s.body_part d) ss xs t.old.old.new t.old.new (λ b c m n. record { stmts = m; handlers = n })))))

block-of : (V : Sight) (x : TypedPart) → BodyIn V x → StmtIn V (s.block_part x)
block-of V x h = ((h.stmts.0, h.handlers.0), (h.stmts.1, h.handlers.1))

pub c-declarations : (G : Type 0) (names : Names) (level : Inside) (start : ℕ) (here : Context) (made : Option TypedPart) (ds : List Decl) → KeepsInside staying.walk level → Finds G (λ r. Same r.0 here) (declarations names level start here made ds)
c-declarations G names level start here made ds l = c-fact G (λ r. Same r.0 here) (declarations names level start here made ds) (k-declarations staying names level start here made ds tt l) (λ log. declarations-loops names level start here made ds log)

c-block : (V : Sight) (G : Type 0) (a : Judges) (here : Context) (d : Option Declare) (b : Body) → AroundFinds a → (G → Near V here) → Finds G (Maybe (StmtIn V)) (s.block a here d b)
unfolding s.block
c-block V G a here d b f r =
    c-bind G (λ x. Same x.0 here) (Maybe (StmtIn V)) (declarations a.names a.level (length here.scope) here (Some s.no_decls) (s.block_decls d)) _ (c-declarations G a.names a.level (length here.scope) here (Some s.no_decls) (s.block_decls d) f.keeps.level) (λ x.
    c-bind _ (Maybe (BodyIn V)) (Maybe (StmtIn V)) (s.body a x.0 x.1 b) _ (c-body V _ a x.0 x.1 b f (λ g. near-same V x.0 here g.new (r g.old))) (λ y.
    c-pure _ (Maybe (StmtIn V)) (option_map s.block_part y) (λ g. mapped (BodyIn V) (StmtIn V) s.block_part y g.new (block-of V))))

-- ---- parallel blocks

-- so many arms, the latest first
abbrev ChainIn : Sight → ℕ → TypedPart → Type 0
ChainIn V zero part.Nothing = Unit {0}
ChainIn V (suc n) (part.Cons p q) = StmtsIn V p × ChainIn V n q
ChainIn V n x = ⊥

pub record ArmsIn (V : Sight) (n : ℕ) (x : TypedPart) : Type 0 where
  pub out : OutArms V.may (as_arms x)
  pub ordered : OrderedArms V.handled (as_arms x)
  pub many : arms_of (as_arms x) ≡ n

arms-onto : (V : Sight) (n m k : ℕ) (x rest : TypedPart) → k ≡ n + m → ChainIn V n x → ArmsIn V m rest → ArmsIn V k (onto x rest)
arms-onto V zero m k part.Nothing rest e h r = let z : m ≡ k = omega (arith, e) in subst (λ j. ArmsIn V j rest) z r
arms-onto V (suc n) m k (part.Cons p q) rest e h r =
    arms-onto V n (suc m) k q (part.Cons p rest) (omega (arith, e)) h.1 (record { out = (h.0.0, r.out); ordered = (h.0.1, r.ordered); many = omega (arith, r.many) })
arms-onto V n m k x rest e h r = absurd h

arms-turned : (V : Sight) (n : ℕ) (x : TypedPart) → ChainIn V n x → ArmsIn V n (turned x)
unfolding turned
arms-turned V n x h = arms-onto V n 0 n x part.Nothing (omega arith) h (record { out = tt; ordered = tt; many = refl })

c-branches : (V : Sight) (G : Type 0) (a : Judges) (here : Context) (n k : ℕ) (made : Option TypedPart) (xs : Branches) → k ≡ s.branch_count xs + n → AroundFinds a → (G → Near V here) → (G → Maybe (ChainIn V n) made)
    → Finds G (Maybe (ChainIn V k)) (s.branches a here made xs)
c-branches V G a here n k made syntax.NoBranch e f r g = let z : n ≡ k = omega (arith, e) in c-pure G (Maybe (ChainIn V k)) made (λ h. subst (λ j. Maybe (ChainIn V j) made) z (g h))
c-branches V G a here n k made (syntax.AlsoBranch x xs) e f r g =
    c-bind G (Maybe (StmtsIn V)) (Maybe (ChainIn V k)) (s.stmts a here x) _ (c-stmts V G a here x f r) (λ y.
    c-branches V (And G (Maybe (StmtsIn V) y)) a here (suc n) k (joined s.with_arm made y) xs (omega (arith, e)) f (λ h. r h.old)
    (λ h. joint (ChainIn V n) (StmtsIn V) (ChainIn V (suc n)) s.with_arm made y (g h.old) h.new (λ b c m n. (n, m))))

c-parallel : (V : Sight) (G : Type 0) (a : Judges) (here : Context) (at : ℕ) (e : Option Simple) (x : Stmts) (xs : Branches) → AroundFinds a → (G → Near V here) → Finds G (Maybe (StmtIn V)) (s.parallel a here at e (syntax.AlsoBranch x xs))
unfolding s.parallel
c-parallel V G a here at e x xs f r =
    let many : ℕ = s.branch_count xs + 1 in
    let j = new_site here at (site.Block many) in
    c-bind G Any (Maybe (StmtIn V)) j _ (c-any G j (k-new_site staying.walk here at (site.Block many))) (λ n.
    c-bind _ Any (Maybe (StmtIn V)) (s.count_where a.inner here e) _ (c-any _ (s.count_where a.inner here e) (k.k-count_where staying.walk a.inner here e f.keeps.inner)) (λ c.
    c-bind _ (Maybe (ChainIn V many)) (Maybe (StmtIn V)) (s.branches a (s.in_threads a.names here n) (Some part.Nothing) (syntax.AlsoBranch x xs)) _ (c-branches V _ a (s.in_threads a.names here n) 0 many (Some part.Nothing) (syntax.AlsoBranch x xs) (omega arith) f (λ g. near-threads V a.names here n (r g.old.old)) (λ g. tt)) (λ ys.
    c-bind _ (λ u. nat_le many most_arms ≡ true) (Maybe (StmtIn V)) (s.arm_limit at many) _ (c-unless _ (nat_le many most_arms) at (Limit bound.Arms)) (λ v.
    c-pure _ (Maybe (StmtIn V)) (joined (s.arms_part n) c ys) (λ g. joint Any (ChainIn V many) (StmtIn V) (s.arms_part n) c ys (any c) g.old.new (λ b z m o.
    let t = arms-turned V many z o in
    (t.out, (omega (arith, t.many), omega (arith, t.many, leb-true many most_arms g.new), t.ordered))))))))

-- ---- statements

c-stmt_form : (V : Sight) (G : Type 0) (a : Judges) (here : Context) (x : Stmt) → AroundFinds a → ((n : Name) → Tells (Maybe DoneOf) (a.level.name here n)) → (G → Near V here) → Finds G (Maybe (StmtIn V)) (s.stmt_form a here x)
c-stmt_form V G a here (syntax.Null at) f t r = c-some G (StmtIn V) (part.AStmt typed.Null) (λ g. (tt, tt))
c-stmt_form V G a here (syntax.Assign n e) f t r = c-simple V G (s.assign a.names a.level here n e) (k.k-assign staying.walk a.names a.level here n e tt f.keeps.level) (simple-assign a.names a.level here n e)
c-stmt_form V G a here (syntax.CallStmt n) f t r = c-simple V G (s.call_stmt a.names a.level here n) (k.k-call_stmt staying.walk a.names a.level here n tt f.keeps.level) (simple-call a.names a.level here n (t n))
c-stmt_form V G a here (syntax.Exit at from e) f t r = c-exit_from V G a here at from e f r
c-stmt_form V G a here (syntax.Return at e) f t r = c-simple V G (s.return_from a.names a.level here at e) (k.k-return_from staying.walk a.names a.level here at e tt f.keeps.level) (simple-returned a.names a.level here at e)
c-stmt_form V G a here (syntax.Raise at p) f t r = c-raise V G a.names here at p r
c-stmt_form V G a here (syntax.IfStmt at e x more o) f t r = c-if_stmt V G a here e x more o f r
c-stmt_form V G a here (syntax.Case at e x xs) f t r = c-case_stmt V G a here at e x xs f r
c-stmt_form V G a here (syntax.Loop label by at x last name) f t r = c-loop_stmt V G a here label by x last name f r
c-stmt_form V G a here (syntax.Block d at b) f t r = c-block V G a here d b f r
c-stmt_form V G a here (syntax.ParallelBlock at e x y more) f t r = c-parallel V G a here at e x (syntax.AlsoBranch y more) f r

around-by : (names : Names) (n : ℕ) → ((V : Sight) (here : Context) (x : Stmt) → Finds (Near V here) (Maybe (StmtIn V)) (stmt names n here x)) → AroundFinds (around names n (stmt names n))
around-by names n f = record { keeps = k.k-around staying names n tt; within = f }

c-stmt : (names : Names) (n : ℕ) (V : Sight) (here : Context) (x : Stmt) → Finds (Near V here) (Maybe (StmtIn V)) (stmt names n here x)
unfolding stmt
c-stmt names zero V here x = c-fault (Near V here) (StmtIn V) (first_token.of_stmt x) (Limit bound.Levels)
c-stmt names (suc n) V here x =
    c-stmt_form V (Near V here) (around names n (stmt names n)) here x (around-by names n (λ others there y. c-stmt names n others there y)) (λ y. t-name names (inside names n) here y) (λ r. r)

pub around-finds : (names : Names) (n : ℕ) → AroundFinds (around names n (stmt names n))
around-finds names n = around-by names n (λ V here x. c-stmt names n V here x)
