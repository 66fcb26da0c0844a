-- What is found is in scope: statements.
use Rattle.std.proofs.Common.{◌≡◌, refl, sym, subst, ℕ, zero, suc, List, [], ◌∷◌, length, Option, Some, None, Bool, false, option_map, ◌==◌}
use Rattle.ada_base.specs.declared.reason.Reason.{Reason}
use Rattle.syntax_tree.specs.FirstTokens as first_token
use Rattle.syntax_tree.specs.Syntax as syntax
use Rattle.syntax_tree.specs.Syntax.{Alt, Alts, Arms, Body, Branches, Declare, Expr, Handler, Handlers, Iter, MoreStmts, Name, OptionalParallel, OptionalStmts, Pack, Scheme, Simple, Stmt, Stmts}
use Rattle.typed_tree.specs.Decoded as part
use Rattle.typed_tree.specs.Decoded.{TypedPart, as_alternative, as_alternatives, as_arms, as_body, as_chunk, as_decls, as_expr, as_handler, as_handlers, as_iteration, as_optional, as_stmt, as_stmts}
use Rattle.typed_tree.specs.Latest.{turned}
use Rattle.typed_tree.specs.Syntax as typed
use Rattle.typed_tree.specs.Syntax.{Alternatives, Program, Handlers as TypedHandlers, Handled as TypedHandled}
use Rattle.typed_tree.specs.declared.program.SiteKind.TheVariants as site
use Rattle.name_rules.specs.Cases.{Choosing, Covering, case_choices, handled_by}
use Rattle.name_rules.specs.Declarations.{declarations}
use Rattle.name_rules.specs.Expressions.{condition, expr, judged_alone}
use Rattle.name_rules.specs.Iterations.{chunk_count, entered}
use Rattle.name_rules.specs.Judging.{both, clean, fault, given, joined, pure, ◌>>=◌}
use Rattle.name_rules.specs.Names.{exception}
use Rattle.name_rules.specs.Parts.{new_site}
use Rattle.name_rules.specs.Primaries.{inside, level_above}
use Rattle.name_rules.specs.Statements as s
use Rattle.name_rules.specs.Statements.{Around as Judges, Selector, around, stmt}
use Rattle.name_rules.specs.TypedParts.{left_of, nested_stmts, right_of}
use Rattle.name_rules.specs.declared.log.Bound.TheVariants as bound
use Rattle.name_rules.specs.declared.log.Log.{Log}
use Rattle.name_rules.specs.declared.log.Rule.TheVariants.{Limit, NotVisible, WrongType}
use Rattle.name_rules.specs.declared.scope.Context.{Context}
use Rattle.name_rules.specs.declared.scope.Names.{Names}
use Rattle.name_rules.specs.declared.scope.Returns.TheVariants as returns
use Rattle.name_rules.specs.declared.scope.Returns.{Returns}
use Rattle.name_rules.specs.declared.types.Kind.{Kind}
use Rattle.name_rules.specs.declared.types.Wanted.TheVariants as wanted
use Rattle.name_laws.proofs.KeepsCases.{k-case_choices, k-handled_by}
use Rattle.name_laws.proofs.KeepsExpressions.{k-condition, k-expr, k-judged_alone}
use Rattle.name_laws.proofs.KeepsNames.{k-exception}
use Rattle.name_laws.proofs.KeepsIterations.{k-chunk_count}
use Rattle.name_laws.proofs.KeepsParts.{k-new_site}
use Rattle.name_laws.proofs.KeepsStatements as k
use Rattle.name_laws.proofs.Walk.{k-bind, k-both, k-clean, k-given}
use Rattle.name_laws.proofs.Walked.{KeepsAround}
use Rattle.std.proofs.Common.{ap, arith, ◌≤◌, sym, subst, refl}
use Rattle.behaviours.specs.Paths.{Entity}
use Rattle.typed_scopes.specs.Scopes as scopes
use Rattle.name_scopes.proofs.Seen.{SeenAll, SeenAlternatives, SeenArms, SeenChunk, SeenDecls, SeenExpr, SeenHandlers, SeenIteration, SeenOptional, SeenStmt, past}
use Rattle.name_scopes.proofs.Sees.{Any, Maybe, Sight, World, any, seeing, joint, mapped}
use Rattle.name_scopes.proofs.SeesBack.{And, Back, Leads, Near, b-any, b-bind, b-both, b-fault, b-given, b-if, b-lift, b-none, b-pure, b-some, leading, leads_joined, leads_many, now}
use Rattle.name_scopes.proofs.SeesDeclarations.{Grown, Standing, after, b-declarations, begin, near-moved, near-wider}
use Rattle.name_scopes.proofs.SeesExpressions.{v-condition}
use Rattle.name_scopes.proofs.SeesFound.{Each, LevelSees, each-turned}
use Rattle.name_scopes.proofs.SeesIterations.{chunk-around, v-chunk_count, v-entered}
use Rattle.name_scopes.proofs.SeesPrimaries.{above-sees, inside-sees}
use Rattle.name_scopes.proofs.SeesShapes.{Facts}
use Rattle.name_scopes.proofs.SeesSimple.{v-assign, v-call_stmt, v-case_choices, v-returned, v-selecting}
use Rattle.name_scopes.proofs.SeesValues.{exprs-within, iteration-map}

module _ (P : Program) (shown : ℕ → Entity → Bool) (L : Log) (F : Facts P shown L) where
  -- ---- lists

  abbrev pub ExprIn : Sight → TypedPart → Type 0
  ExprIn V x = SeenExpr P shown V.around (as_expr x)

  abbrev pub FilterIn : Sight → TypedPart → Type 0
  FilterIn V x = SeenOptional P shown V.around (as_optional x)

  abbrev pub StmtIn : Sight → TypedPart → Type 0
  StmtIn V x = SeenStmt P shown V.around (as_stmt x)

  abbrev pub StmtsIn : Sight → TypedPart → Type 0
  StmtsIn V x = SeenAll P shown V.around (as_stmts x)

  stmts-list : (V : Sight) (x : TypedPart) → Each (StmtIn V) x → StmtsIn V x
  stmts-list V (part.Cons p q) h = (h.0, stmts-list V q h.1)
  stmts-list V x h = tt

  stmts-formed : (V : Sight) (x : TypedPart) → Each (StmtIn V) x → StmtsIn V (turned x)
  stmts-formed V x h = stmts-list V (turned x) (each-turned (StmtIn V) x h)

  abbrev IsAlternative : Sight → TypedPart → Type 0
  IsAlternative V p = (as' : Alternatives) → SeenAlternatives P shown V.around as' → SeenAlternatives P shown V.around (as_alternative p as')

  alternatives-list : (V : Sight) (x : TypedPart) → Each (IsAlternative V) x → SeenAlternatives P shown V.around (as_alternatives x)
  alternatives-list V (part.Cons p q) h = h.0 (as_alternatives q) (alternatives-list V q h.1)
  alternatives-list V x h = tt

  abbrev IsHandler : Sight → TypedPart → Type 0
  IsHandler V p = (hs : TypedHandlers) → SeenHandlers P shown V.around hs → SeenHandlers P shown V.around (as_handler p hs)

  handlers-list : (V : Sight) (x : TypedPart) → Each (IsHandler V) x → SeenHandlers P shown V.around (as_handlers x)
  handlers-list V (part.Cons p q) h = h.0 (as_handlers q) (handlers-list V q h.1)
  handlers-list V x h = tt

  arms-list : (V : Sight) (x : TypedPart) → Each (StmtsIn V) x → SeenArms P shown V.around (as_arms x)
  arms-list V (part.Cons p q) h = (h.0, arms-list V q h.1)
  arms-list V x h = tt

  -- ---- what judges statements

  pub record AroundSees (a : Judges) : Type 0 where
    pub keeps : KeepsAround leading.walk a
    pub level : (W : World) → LevelSees W a.level
    pub inner : (W : World) → LevelSees W a.inner
    pub within : (V : Sight) (here : Context) (x : Stmt) → Back L V.bound (Near P shown L F V here) (Maybe (StmtIn V)) (a.within here x)

  b-stmts_from : (V : Sight) (G : Type 0) (a : Judges) (here : Context) (made : Option TypedPart) (x : MoreStmts) → AroundSees a → (G → Near P shown L F V here) → (G → Maybe (Each (StmtIn V)) made)
      → Back L V.bound G (Maybe (Each (StmtIn V))) (s.stmts_from a here made x)
  b-stmts_from V G a here made syntax.NoStmt f r g = b-pure L V.bound G (Maybe (Each (StmtIn V))) made g
  b-stmts_from V G a here made (syntax.AlsoStmt x xs) f r g =
      b-bind L V.bound G (Maybe (StmtIn V)) (Maybe (Each (StmtIn V))) (a.within here x) _ (record { keeps = (f.within V here x).keeps; at = λ log l b h. (f.within V here x).at log l b (r h) }) (λ y.
      b-stmts_from V (And G (Maybe (StmtIn V) y)) a here (joined s.with_stmt made y) xs f (λ h. r h.old) (λ h. joint (Each (StmtIn V)) (StmtIn V) (Each (StmtIn V)) s.with_stmt made y (g h.old) h.new (λ b c m n. (n, m))))

  pub b-stmts : (V : Sight) (G : Type 0) (a : Judges) (here : Context) (x : Stmts) → AroundSees a → (G → Near P shown L F V here) → Back L V.bound G (Maybe (StmtsIn V)) (s.stmts a here x)
  unfolding s.stmts
  b-stmts V G a here (syntax.stmts x xs) f r =
      b-bind L V.bound G (Maybe (Each (StmtIn V))) (Maybe (StmtsIn V)) (s.stmts_from a here (Some s.no_stmts) (syntax.AlsoStmt x xs)) _ (b-stmts_from V G a here (Some s.no_stmts) (syntax.AlsoStmt x xs) f r (λ g. tt)) (λ y.
      b-pure L V.bound _ (Maybe (StmtsIn V)) (option_map turned y) (λ g. mapped (Each (StmtIn V)) (StmtsIn V) turned y g.new (stmts-formed V)))

  -- ---- what has no statements in it

  b-condition : (V : Sight) (G : Type 0) (a : Judges) (here : Context) (e : Expr) → AroundSees a → (G → Near P shown L F V here) → Back L V.bound G (Maybe (ExprIn V)) (condition a.names a.level here e)
  b-condition V G a here e f r =
      b-lift P shown L F V G (Maybe (ExprIn V)) (condition a.names a.level here e) (k-condition leading.walk a.names a.level here e tt f.keeps.level) (λ log l g. v-condition (now P shown L F log l) V a.names a.level here e (f.level (now P shown L F log l)) (r g log l))

  filter-of : (V : Sight) (x : TypedPart) → ExprIn V x → FilterIn V x
  filter-of V (part.AnExpr e) h = h
  filter-of V x h = tt

  filter-some : (V : Sight) (x : Option TypedPart) → Maybe (ExprIn V) x → Maybe (FilterIn V) x
  filter-some V None h = tt
  filter-some V (Some x) h = filter-of V x h

  b-condition_where : (V : Sight) (G : Type 0) (a : Judges) (here : Context) (e : Option Expr) → AroundSees a → (G → Near P shown L F V here) → Back L V.bound G (Maybe (FilterIn V)) (s.condition_where a.names a.level here e)
  b-condition_where V G a here None f r = b-some L V.bound G (FilterIn V) part.Nothing (λ g. tt)
  b-condition_where V G a here (Some e) f r =
      let m = b-condition V G a here e f r in
      record { keeps = m.keeps; at = λ log l b g. filter-some V (condition a.names a.level here e log).0 (m.at log l b g) }

  b-assign : (V : Sight) (G : Type 0) (a : Judges) (here : Context) (n : Name) (e : Expr) → AroundSees a → (G → Near P shown L F V here) → Back L V.bound G (Maybe (StmtIn V)) (s.assign a.names a.level here n e)
  b-assign V G a here n e f r =
      b-lift P shown L F V G (Maybe (StmtIn V)) (s.assign a.names a.level here n e) (k.k-assign leading.walk a.names a.level here n e tt f.keeps.level) (λ log l g. v-assign (now P shown L F log l) V a.names a.level here n e (f.level (now P shown L F log l)) (r g log l))

  b-call_stmt : (V : Sight) (G : Type 0) (a : Judges) (here : Context) (n : Name) → AroundSees a → (G → Near P shown L F V here) → Back L V.bound G (Maybe (StmtIn V)) (s.call_stmt a.names a.level here n)
  b-call_stmt V G a here n f r =
      b-lift P shown L F V G (Maybe (StmtIn V)) (s.call_stmt a.names a.level here n) (k.k-call_stmt leading.walk a.names a.level here n tt f.keeps.level) (λ log l g. v-call_stmt (now P shown L F log l) V a.names a.level here n (f.level (now P shown L F log l)) (r g log l))

  b-exit_from : (V : Sight) (G : Type 0) (a : Judges) (here : Context) (at : ℕ) (from : Option ℕ) (e : Option Expr) → AroundSees a → (G → Near P shown L F V here) → Back L V.bound G (Maybe (StmtIn V)) (s.exit_from a.names a.level here at from e)
  unfolding s.exit_from
  b-exit_from V G a here at from e f r =
      let x = s.exited a.names here at from (s.innermost here.loops) in
      b-bind L V.bound G Any (Maybe (StmtIn V)) x _ (b-any L V.bound G x (k.k-exited leading.walk a.names here at from (s.innermost here.loops) tt)) (λ n.
      b-bind L V.bound _ (Maybe (FilterIn V)) (Maybe (StmtIn V)) (s.condition_where a.names a.level here e) _ (b-condition_where V _ a here e f (λ g. r g.old)) (λ c.
      b-pure L V.bound _ (Maybe (StmtIn V)) (joined s.exit_part n c) (λ g. joint Any (FilterIn V) (StmtIn V) s.exit_part n c (any n) g.new (λ b m t u. u))))

  b-return_value : (V : Sight) (G : Type 0) (a : Judges) (here : Context) (at : ℕ) (e : Expr) (x : Returns) → AroundSees a → (G → Near P shown L F V here) → Back L V.bound G (Maybe (StmtIn V)) (s.return_value a.names a.level here at e x)
  b-return_value V G a here at e returns.Nothing f r =
      let x = expr a.names a.level here wanted.Other e in
      b-bind L V.bound G Any (Maybe (StmtIn V)) (clean x) _ (b-any L V.bound G (clean x) (k-clean leading.walk x (k-expr leading.walk a.names a.level here wanted.Other e tt f.keeps.level))) (λ y.
      b-if L V.bound _ (Maybe (StmtIn V)) y.1 (given y.0 (λ z. fault at WrongType)) (pure None) (b-given L V.bound _ Any (StmtIn V) y.0 (λ z. fault at WrongType) (λ g. any y.0) (λ z. b-fault L V.bound _ (StmtIn V) at WrongType)) (b-none L V.bound _ (StmtIn V)))
  b-return_value V G a here at e (returns.Value t) f r =
      b-lift P shown L F V G (Maybe (StmtIn V)) (s.value_at a.names a.level here at t e >>= λ v. pure (option_map s.returned v)) (k.k-return_value leading.walk a.names a.level here at e (returns.Value t) tt f.keeps.level)
      (λ log l g. v-returned (now P shown L F log l) V a.names a.level here at t e (f.level (now P shown L F log l)) (r g log l))
  b-return_value V G a here at e returns.Faulty f r =
      b-bind L V.bound G Any (Maybe (StmtIn V)) (judged_alone a.names a.level here e) _ (b-any L V.bound G (judged_alone a.names a.level here e) (k-judged_alone leading.walk a.names a.level here e tt f.keeps.level)) (λ u. b-none L V.bound _ (StmtIn V))

  b-return_alone : (V : Sight) (G : Type 0) (at : ℕ) (x : Returns) → Back L V.bound G (Maybe (StmtIn V)) (s.return_alone at x)
  b-return_alone V G at returns.Nothing = b-some L V.bound G (StmtIn V) (part.AStmt typed.Return) (λ g. tt)
  b-return_alone V G at (returns.Value t) = b-fault L V.bound G (StmtIn V) at WrongType
  b-return_alone V G at returns.Faulty = b-fault L V.bound G (StmtIn V) at WrongType

  b-return_from : (V : Sight) (G : Type 0) (a : Judges) (here : Context) (at : ℕ) (e : Option Expr) → AroundSees a → (G → Near P shown L F V here) → Back L V.bound G (Maybe (StmtIn V)) (s.return_from a.names a.level here at e)
  b-return_from V G a here at None f r = b-return_alone V G at here.returns
  b-return_from V G a here at (Some e) f r = b-return_value V G a here at e here.returns f r

  b-raise_from : (V : Sight) (G : Type 0) (a : Judges) (here : Context) (at : ℕ) (p : Option Pack) → Back L V.bound G (Maybe (StmtIn V)) (s.raise_from a.names here at p)
  b-raise_from V G a here at None = b-if L V.bound G (Maybe (StmtIn V)) here.in_handler _ (fault at NotVisible) (b-some L V.bound G (StmtIn V) (part.AStmt typed.Reraise) (λ g. tt)) (b-fault L V.bound G (StmtIn V) at NotVisible)
  b-raise_from V G a here at (Some p) =
      b-bind L V.bound G Any (Maybe (StmtIn V)) (exception a.names here p) _ (b-any L V.bound G (exception a.names here p) (k-exception leading.walk a.names here p tt)) (λ x.
      b-pure L V.bound _ (Maybe (StmtIn V)) (option_map s.raised x) (λ g. mapped Any (StmtIn V) s.raised x (any x) (λ y t. tt)))

  -- ---- if statements

  -- a condition with its statements
  abbrev IsBranch : Sight → TypedPart → Type 0
  IsBranch V p = SeenExpr P shown V.around (as_expr (left_of p)) × StmtsIn V (right_of p)

  with-elsif-if : (V : Sight) (made c ss : Option TypedPart) → Maybe (Each (IsBranch V)) made → Maybe (ExprIn V) c → Maybe (StmtsIn V) ss → Maybe (Each (IsBranch V)) (s.with_elsif_if made c ss)
  with-elsif-if V made None ss g h i = tt
  with-elsif-if V made (Some c) ss g h i = joint (Each (IsBranch V)) (StmtsIn V) (Each (IsBranch V)) (s.with_elsif c) made ss g i (λ a b m n. ((h, n), m))

  b-elsifs : (V : Sight) (G : Type 0) (a : Judges) (here : Context) (made : Option TypedPart) (x : Arms) → AroundSees a → (G → Near P shown L F V here) → (G → Maybe (Each (IsBranch V)) made) → Back L V.bound G (Maybe (Each (IsBranch V))) (s.elsifs a here made x)
  b-elsifs V G a here made syntax.NoArm f r g = b-pure L V.bound G (Maybe (Each (IsBranch V))) made g
  b-elsifs V G a here made (syntax.AlsoArm (syntax.arm at e x) xs) f r g =
      b-bind L V.bound G (Maybe (ExprIn V)) (Maybe (Each (IsBranch V))) (condition a.names a.level here e) _ (b-condition V G a here e f r) (λ c.
      b-bind L V.bound _ (Maybe (StmtsIn V)) (Maybe (Each (IsBranch V))) (s.stmts a here x) _ (b-stmts V _ a here x f (λ h. r h.old)) (λ ss.
      b-elsifs V (And (And G (Maybe (ExprIn V) c)) (Maybe (StmtsIn V) ss)) a here (s.with_elsif_if made c ss) xs f (λ h. r h.old.old) (λ h. with-elsif-if V made c ss (g h.old.old) h.old.new h.new)))

  b-otherwise_where : (V : Sight) (G : Type 0) (a : Judges) (here : Context) (o : OptionalStmts) → AroundSees a → (G → Near P shown L F V here) → Back L V.bound G (Maybe (StmtsIn V)) (s.otherwise_where a here o)
  b-otherwise_where V G a here syntax.AbsentStmts f r = b-some L V.bound G (StmtsIn V) s.no_stmts (λ g. tt)
  b-otherwise_where V G a here (syntax.PresentStmts x) f r = b-stmts V G a here x f r

  nested-formed : (V : Sight) (xs o : TypedPart) → Each (IsBranch V) xs → StmtsIn V o → StmtsIn V (nested_stmts xs o)
  unfolding nested_stmts
  nested-formed V (part.Cons p rest) o h g = nested-formed V rest (part.Cons (part.AStmt (typed.IfThen (as_expr (left_of p)) (as_stmts (right_of p)) (as_stmts o))) part.Nothing) h.1 ((h.0.0, h.0.1, g), tt)
  nested-formed V x o h g = g

  b-if_stmt : (V : Sight) (G : Type 0) (a : Judges) (here : Context) (e : Expr) (x : Stmts) (more : Arms) (o : OptionalStmts) → AroundSees a → (G → Near P shown L F V here) → Back L V.bound G (Maybe (StmtIn V)) (s.if_stmt a here e x more o)
  unfolding s.if_stmt
  b-if_stmt V G a here e x more o f r =
      b-bind L V.bound G (Maybe (ExprIn V)) (Maybe (StmtIn V)) (condition a.names a.level here e) _ (b-condition V G a here e f r) (λ c.
      b-bind L V.bound _ (Maybe (StmtsIn V)) (Maybe (StmtIn V)) (s.stmts a here x) _ (b-stmts V _ a here x f (λ g. r g.old)) (λ ss.
      b-bind L V.bound _ (Maybe (Each (IsBranch V))) (Maybe (StmtIn V)) (s.elsifs a here (Some part.Nothing) more) _ (b-elsifs V _ a here (Some part.Nothing) more f (λ g. r g.old.old) (λ g. tt)) (λ xs.
      b-bind L V.bound _ (Maybe (StmtsIn V)) (Maybe (StmtIn V)) (s.otherwise_where a here o) _ (b-otherwise_where V _ a here o f (λ g. r g.old.old.old)) (λ ys.
      b-both L V.bound _ (ExprIn V) (StmtsIn V) (StmtIn V) c ss (s.if_stmt_made xs ys) (λ g. g.old.old.old.new) (λ g. g.old.old.new) (λ b t.
      b-pure L V.bound _ (Maybe (StmtIn V)) (joined (s.if_stmt_part b t) xs ys) (λ g. joint (Each (IsBranch V)) (StmtsIn V) (StmtIn V) (s.if_stmt_part b t) xs ys g.old.old.old.new g.old.old.new (λ u v m n. (g.old.new, g.new, nested-formed V u v m n))))))))

  -- ---- case statements

  abbrev CasesIn : Sight → Covering × Option TypedPart → Type 0
  CasesIn V r = Maybe (Each (IsAlternative V)) r.1

  abbrev ChoicesIn : Sight → Covering × Choosing → Type 0
  ChoicesIn V r = Each (ExprIn V) r.1.mentions

  also-alternative : (V : Sight) (d : Choosing) (made ss : Option TypedPart) → Each (ExprIn V) d.mentions → Maybe (Each (IsAlternative V)) made → Maybe (StmtsIn V) ss → Maybe (Each (IsAlternative V)) (s.also_alternative d made ss)
  unfolding s.also_alternative
  also-alternative V d made ss e g h = joint (Each (IsAlternative V)) (StmtsIn V) (Each (IsAlternative V)) (s.with_alternative d) made ss g h (λ a b m n. ((λ as' r. (exprs-within P shown V.around d.mentions e, n, r)), m))

  b-alternative : (V : Sight) (G : Type 0) (a : Judges) (here : Context) (kind : Option Kind) (last : Bool) (c : Covering) (made : Option TypedPart) (x : Alt) → AroundSees a → (G → Near P shown L F V here) → (G → Maybe (Each (IsAlternative V)) made)
      → Back L V.bound G (CasesIn V) (s.alternative a here kind last c made x)
  unfolding s.alternative
  b-alternative V G a here kind last c made (syntax.alt at x ys t) f r g =
      let j = case_choices a.level here kind (length ys == 0) last c s.no_choosing (x ∷ ys) in
      b-bind L V.bound G (ChoicesIn V) (CasesIn V) j _ (b-lift P shown L F V G (ChoicesIn V) j (k-case_choices leading.walk a.level here kind (length ys == 0) last c s.no_choosing (x ∷ ys) f.keeps.level)
      (λ log l h. v-case_choices (now P shown L F log l) V a.level here kind (length ys == 0) last c s.no_choosing (x ∷ ys) (f.level (now P shown L F log l)) (r h log l) tt)) (λ y.
      b-bind L V.bound _ (Maybe (StmtsIn V)) (CasesIn V) (s.stmts a here t) _ (b-stmts V _ a here t f (λ h. r h.old)) (λ ss.
      b-pure L V.bound _ (CasesIn V) (y.0, s.also_alternative y.1 made ss) (λ h. also-alternative V y.1 made ss h.old.new (g h.old.old) h.new)))

  b-alts : (V : Sight) (G : Type 0) (a : Judges) (here : Context) (kind : Option Kind) (c : Covering) (made : Option TypedPart) (xs : Alts) → AroundSees a → (G → Near P shown L F V here) → (G → Maybe (Each (IsAlternative V)) made)
      → Back L V.bound G (CasesIn V) (s.alts a here kind c made xs)
  b-alts V G a here kind c made syntax.NoAlt f r g = b-pure L V.bound G (CasesIn V) (c, made) g
  b-alts V G a here kind c made (syntax.AlsoAlt x xs) f r g =
      b-bind L V.bound G (CasesIn V) (CasesIn V) (s.alternative a here kind (s.is_last xs) c made x) _ (b-alternative V G a here kind (s.is_last xs) c made x f r g) (λ y.
      b-alts V (And G (CasesIn V y)) a here kind y.0 y.1 xs f (λ h. r h.old) (λ h. h.new))

  abbrev SelectorIn : Sight → Selector → Type 0
  SelectorIn V x = SeenExpr P shown V.around (as_expr x.part)

  b-case_stmt : (V : Sight) (G : Type 0) (a : Judges) (here : Context) (at : ℕ) (e : Expr) (xs : Alts) → AroundSees a → (G → Near P shown L F V here) → Back L V.bound G (Maybe (StmtIn V)) (s.case_stmt a here at e xs)
  unfolding s.case_stmt
  b-case_stmt V G a here at e xs f r =
      let j = expr a.names a.level here wanted.Other e >>= λ x. given x s.selector in
      let none : Covering = record { ranges = []; faulty = false; others = false } in
      b-bind L V.bound G (Maybe (SelectorIn V)) (Maybe (StmtIn V)) j (λ y. s.alts a here (s.selector_kind y) none (Some part.Nothing) xs >>= λ z. s.closed_where at y z.0 >>= λ u. pure (joined s.case_part y z.1))
      (b-lift P shown L F V G (Maybe (SelectorIn V)) j (k-bind leading.walk (expr a.names a.level here wanted.Other e) (λ x. given x s.selector) (k-expr leading.walk a.names a.level here wanted.Other e tt f.keeps.level) (λ x. k-given leading.walk x s.selector (λ y. k.k-selector leading.walk y)))
      (λ log l g. v-selecting (now P shown L F log l) V a.names a.level here e (f.level (now P shown L F log l)) (r g log l))) (λ y.
      b-bind L V.bound _ (CasesIn V) (Maybe (StmtIn V)) (s.alts a here (s.selector_kind y) none (Some part.Nothing) xs) _ (b-alts V _ a here (s.selector_kind y) none (Some part.Nothing) xs f (λ g. r g.old) (λ g. tt)) (λ z.
      b-bind L V.bound _ Any (Maybe (StmtIn V)) (s.closed_where at y z.0) _ (b-any L V.bound _ (s.closed_where at y z.0) (k.k-closed_where leading.walk at y z.0)) (λ v.
      b-pure L V.bound _ (Maybe (StmtIn V)) (joined s.case_part y z.1) (λ g. joint (SelectorIn V) (Each (IsAlternative V)) (StmtIn V) s.case_part y z.1 g.old.old.new g.old.new (λ b c m n. (m, alternatives-list V (turned c) (each-turned (IsAlternative V) c n)))))))

  -- ---- loops

  near-loop : (V : Sight) (a : Judges) (here : Context) (label : Option ℕ) (n : ℕ) → Near P shown L F V here → Near P shown L F V (s.in_loop a.names here label n)
  near-loop V a here label n r log l = let x = r log l in record { scope = x.scope; target = x.target }

  abbrev ChunkIn : Sight → TypedPart → Type 0
  ChunkIn V x = SeenChunk P shown V.around (as_chunk x)

  -- an iteration from around it to around its body
  abbrev Iterates : Sight → scopes.Around → scopes.Around → TypedPart → Type 0
  Iterates V c u x = SeenIteration P shown V.around c (as_iteration x) (λ w. w ≡ u)

  over : (V : Sight) (c u : scopes.Around) (i ss : TypedPart) → Iterates V c u i → SeenAll P shown u (as_stmts ss) → SeenIteration P shown V.around c (as_iteration i) (λ w. SeenAll P shown w (as_stmts ss))
  over V c u i ss h j = iteration-map P shown V.around c (as_iteration i) (λ w. w ≡ u) (λ w. SeenAll P shown w (as_stmts ss)) h (λ w e. subst (λ v. SeenAll P shown v (as_stmts ss)) (sym e) j)

  some-chunk : (V : Sight) (c : Option TypedPart) → c ≡ Some part.Nothing → chunk-around V.around c ≡ V.around
  some-chunk V c e = ap (chunk-around V.around) e

  for-made : (V : Sight) (u : scopes.Around) (n : ℕ) (site : Option ℕ) (c : Option TypedPart) (i ss : TypedPart) (log : Log) → Maybe (ChunkIn V) c → (site ≡ None → c ≡ Some part.Nothing) → Iterates V (chunk-around V.around c) u i → SeenAll P shown u (as_stmts ss)
      → Maybe (StmtIn V) (s.for_made n site c i ss log).0
  for-made V u n None c i ss log g alone h j = subst (λ w. SeenIteration P shown V.around w (as_iteration i) (λ y. SeenAll P shown y (as_stmts ss))) (some-chunk V c (alone refl)) (over V (chunk-around V.around c) u i ss h j)
  for-made V u n (Some k) None i ss log g alone h j = tt
  for-made V u n (Some k) (Some c) i ss log g alone h j = (g, over V (scopes.with_chunk (as_chunk c) V.around) u i ss h j)

  both-made : (V : Sight) (u : scopes.Around) (n : ℕ) (site : Option ℕ) (c : Option TypedPart) (i ss : Option TypedPart) (log : Log) → Maybe (ChunkIn V) c → (site ≡ None → c ≡ Some part.Nothing) → Maybe (Iterates V (chunk-around V.around c) u) i → Maybe (StmtsIn (seeing u V)) ss
      → Maybe (StmtIn V) (both i ss (s.for_made n site c) log).0
  both-made V u n site c None ss log g alone h j = tt
  both-made V u n site c (Some i) None log g alone h j = tt
  both-made V u n site c (Some i) (Some ss) log g alone h j = for-made V u n site c i ss log g alone h j

  b-for_loop : (V : Sight) (G : Type 0) (a : Judges) (here : Context) (label : Option ℕ) (n : ℕ) (x : Stmts) (p : OptionalParallel) (i : Iter) → AroundSees a → (G → Near P shown L F V here) → Back L V.bound G (Maybe (StmtIn V)) (s.for_loop a here label n x p i)
  unfolding s.for_loop s.loop_entered
  b-for_loop V G a here label n x p i f r = record {
    keeps = k.k-for_loop leading.walk a here label n x p i f.keeps;
    at = λ log l b g.
        let e0 = entered a.names a.level a.inner here site.Loop p i log in
        let e = s.loop_entered a here p i log in
        let body = s.in_loop a.names e.0.here label n in
        let t = s.stmts a body x e.1 in
        let made = both e.0.iteration t.0 (s.for_made n e.0.construct e.0.chunk) in
        let l2 : Leads t.1 L = leads_joined t.1 (made t.1).1 L ((k-both leading.walk e.0.iteration t.0 (s.for_made n e.0.construct e.0.chunk) (λ y z. k.k-for_made leading.walk n e.0.construct e.0.chunk y z)).at t.1) l in
        let l1 : Leads e.1 L = leads_joined e.1 t.1 L ((k.k-stmts leading.walk a body x f.keeps).at e.1) l2 in
        let first : Leads log e.1 = (k.k-loop_entered leading.walk a here p i f.keeps).at log in
        let l0 : Leads log L = leads_joined log e.1 L first l1 in
        let q = ((v-entered (now P shown L F log l0) V a.names a.level a.inner here site.Loop p i (f.level (now P shown L F log l0)) (f.inner (now P shown L F log l0)) (r g log l0)).at log refl (refl, b)).2 in
        let u = q.0.around in
        let U = seeing u V in
        let h = (b-stmts U (Unit {0}) a body x f (λ z. near-loop U a e.0.here label n (near-moved P shown L F U e0.0.here log l0 q.0.here))).at e.1 l2 (more-than V.bound (length log.profiles) (length e.1.profiles) b (leads_many log e.1 first)) tt in
        both-made V u n e0.0.construct e0.0.chunk e0.0.iteration t.0 t.1 q.0.chunk q.1 q.0.iteration h;
  }
    where
      more-than : (a b c : ℕ) → a ≤ b → b ≤ c → a ≤ c
      more-than a b c h k = omega (arith, h, k)

  b-loop_with : (V : Sight) (G : Type 0) (a : Judges) (here : Context) (label : Option ℕ) (n : ℕ) (x : Stmts) (by : Scheme) → AroundSees a → (G → Near P shown L F V here) → Back L V.bound G (Maybe (StmtIn V)) (s.loop_with a here label n x by)
  b-loop_with V G a here label n x (syntax.While at e) f r =
      b-bind L V.bound G (Maybe (ExprIn V)) (Maybe (StmtIn V)) (condition a.names a.level here e) _ (b-condition V G a here e f r) (λ c.
      b-bind L V.bound _ (Maybe (StmtsIn V)) (Maybe (StmtIn V)) (s.stmts a (s.in_loop a.names here label n) x) _ (b-stmts V _ a (s.in_loop a.names here label n) x f (λ g. near-loop V a here label n (r g.old))) (λ ss.
      b-pure L V.bound _ (Maybe (StmtIn V)) (joined (s.loop_part n) c ss) (λ g. joint (FilterIn V) (StmtsIn V) (StmtIn V) (s.loop_part n) c ss (filter-some V c g.old.new) g.new (λ b u m o. (m, o)))))
  b-loop_with V G a here label n x (syntax.For p at i) f r = b-for_loop V G a here label n x (s.optional_parallel p) i f r

  b-loop_by : (V : Sight) (G : Type 0) (a : Judges) (here : Context) (label : Option ℕ) (n : ℕ) (x : Stmts) (by : Option Scheme) → AroundSees a → (G → Near P shown L F V here) → Back L V.bound G (Maybe (StmtIn V)) (s.loop_by a here label n x by)
  b-loop_by V G a here label n x None f r =
      b-bind L V.bound G (Maybe (StmtsIn V)) (Maybe (StmtIn V)) (s.stmts a (s.in_loop a.names here label n) x) _ (b-stmts V G a (s.in_loop a.names here label n) x f (λ g. near-loop V a here label n (r g))) (λ ss.
      b-pure L V.bound _ (Maybe (StmtIn V)) (joined (s.loop_part n) (Some part.Nothing) ss) (λ g. joint (FilterIn V) (StmtsIn V) (StmtIn V) (s.loop_part n) (Some part.Nothing) ss tt g.new (λ b u m o. (m, o))))
  b-loop_by V G a here label n x (Some by) f r = b-loop_with V G a here label n x by f r

  b-loop_stmt : (V : Sight) (G : Type 0) (a : Judges) (here : Context) (label : Option ℕ) (by : Option Scheme) (x : Stmts) (last : ℕ) (name : Option ℕ) → AroundSees a → (G → Near P shown L F V here) → Back L V.bound G (Maybe (StmtIn V)) (s.loop_stmt a here label by x last name)
  unfolding s.loop_stmt
  b-loop_stmt V G a here label by x last name f r =
      b-bind L V.bound G Any (Maybe (StmtIn V)) (s.loop_ends a.names label last name) _ (b-any L V.bound G (s.loop_ends a.names label last name) (k.k-loop_ends leading.walk a.names label last name tt)) (λ u.
      b-bind L V.bound _ Any (Maybe (StmtIn V)) s.new_loop _ (b-any L V.bound _ s.new_loop (k.k-new_loop leading.walk)) (λ n. b-loop_by V _ a here label n x by f (λ g. r g.old.old)))

  -- ---- bodies and blocks

  abbrev handled : Sight → Sight
  handled V = seeing (scopes.handling V.around) V

  near-handler : (V : Sight) (here : Context) → Near P shown L F V here → Near P shown L F (handled V) (s.in_handler_of here)
  near-handler V here r log l =
      let x = near-wider P shown L F V.around (scopes.handling V.around) V here (record { object = λ y h. h; outer = λ y h. h; parameter = λ k h. h }) refl r log l in
      record { scope = x.scope; target = x.target }

  abbrev HandlingIn : Sight → List Reason × Option TypedPart → Type 0
  HandlingIn V r = Maybe (Each (IsHandler (handled V))) r.1

  with-handler-if : (V : Sight) (made : Option TypedPart) (h : Option TypedHandled) (ss : Option TypedPart) → Maybe (Each (IsHandler (handled V))) made → Maybe (StmtsIn (handled V)) ss → Maybe (Each (IsHandler (handled V))) (s.with_handler_if made h ss)
  with-handler-if V made None ss g i = tt
  with-handler-if V made (Some h) ss g i = joint (Each (IsHandler (handled V))) (StmtsIn (handled V)) (Each (IsHandler (handled V))) (s.with_handler h) made ss g i (λ a b m n. ((λ hs r. (n, r)), m))

  b-handler : (V : Sight) (G : Type 0) (a : Judges) (here : Context) (last : Bool) (names-seen : List Reason) (made : Option TypedPart) (h : Handler) → AroundSees a → (G → Near P shown L F V here) → (G → Maybe (Each (IsHandler (handled V))) made)
      → Back L V.bound G (HandlingIn V) (s.handler a here last names-seen made h)
  unfolding s.handler
  b-handler V G a here last names-seen made (syntax.handler at h x) f r g =
      b-bind L V.bound G Any (HandlingIn V) (handled_by a.names here names-seen last h) _ (b-any L V.bound G (handled_by a.names here names-seen last h) (k-handled_by leading.walk a.names here names-seen last h tt)) (λ y.
      b-bind L V.bound _ (Maybe (StmtsIn (handled V))) (HandlingIn V) (s.stmts a (s.in_handler_of here) x) _ (b-stmts (handled V) _ a (s.in_handler_of here) x f (λ t. near-handler V here (r t.old))) (λ ss.
      b-pure L V.bound _ (HandlingIn V) (y.0, s.with_handler_if made y.1 ss) (λ t. with-handler-if V made y.1 ss (g t.old.old) t.new)))

  b-handlers : (V : Sight) (G : Type 0) (a : Judges) (here : Context) (names-seen : List Reason) (made : Option TypedPart) (hs : Handlers) → AroundSees a → (G → Near P shown L F V here) → (G → Maybe (Each (IsHandler (handled V))) made)
      → Back L V.bound G (Maybe (Each (IsHandler (handled V)))) (s.handlers a here names-seen made hs)
  b-handlers V G a here names-seen made syntax.NoHandler f r g = b-pure L V.bound G (Maybe (Each (IsHandler (handled V)))) made g
  b-handlers V G a here names-seen made (syntax.AlsoHandler h hs) f r g =
      b-bind L V.bound G (HandlingIn V) (Maybe (Each (IsHandler (handled V)))) (s.handler a here (s.is_last_handler hs) names-seen made h) _ (b-handler V G a here (s.is_last_handler hs) names-seen made h f r g) (λ y.
      b-handlers V (And G (HandlingIn V y)) a here y.0 y.1 hs f (λ t. r t.old) (λ t. t.new))

  pub record BodyIn (main : Bool) (V : Sight) (x : TypedPart) : Type 0 where
    pub decls : SeenDecls P shown main V.around (as_body x).decls
    pub stmts : SeenAll P shown (past main V.around (as_body x).decls) (as_body x).stmts
    pub handlers : SeenHandlers P shown (scopes.handling (past main V.around (as_body x).decls)) (as_body x).handlers

  grown-decls : (main : Bool) (V : Sight) (x : TypedPart) (u : scopes.Around) → Grown P shown L F main V.around u x → SeenDecls P shown main V.around (as_decls (turned x))
  unfolding turned
  grown-decls main V x u h = h.led part.Nothing tt

  b-body_of : (main : Bool) (V : Sight) (lo : scopes.Around) (G : Type 0) (a : Judges) (here : Context) (d : TypedPart) (b : Body) → AroundSees a → (G → Standing P shown L F main V lo here (Some d)) → Back L V.bound G (Maybe (BodyIn main V)) (s.body a here (Some d) b)
  unfolding s.body
  b-body_of main V lo G a here d (syntax.body x hs) f r =
      let U = seeing (after main V.around d) V in
      b-bind L V.bound G (Maybe (StmtsIn U)) (Maybe (BodyIn main V)) (s.stmts a here x) _ (b-stmts U G a here x f (λ g. (r g).1)) (λ ss.
      b-bind L V.bound _ (Maybe (Each (IsHandler (handled U)))) (Maybe (BodyIn main V)) (s.handlers a here [] (Some part.Nothing) hs) _ (b-handlers U _ a here [] (Some part.Nothing) hs f (λ t. (r t.old).1) (λ t. tt)) (λ xs.
      b-pure L V.bound _ (Maybe (BodyIn main V)) (joined (s.body_part d) ss xs) (λ t. joint (StmtsIn U) (Each (IsHandler (handled U))) (BodyIn main V) (s.body_part d) ss xs t.old.new t.new
      (λ b c m n. record { decls = grown-decls main V d (after main V.around d) (r t.old.old).0; stmts = m; handlers = handlers-list (handled U) (turned c) (each-turned (IsHandler (handled U)) c n) }))))

  pub b-body : (main : Bool) (V : Sight) (lo : scopes.Around) (G : Type 0) (a : Judges) (here : Context) (ds : Option TypedPart) (b : Body) → AroundSees a → (G → Standing P shown L F main V lo here ds) → Back L V.bound G (Maybe (BodyIn main V)) (s.body a here ds b)
  unfolding s.body
  b-body main V lo G a here (Some d) b f r = b-body_of main V lo G a here d b f r
  b-body main V lo G a here None (syntax.body x hs) f r = record { keeps = k.k-body leading.walk a here None (syntax.body x hs) f.keeps; at = λ log l n g. tt }

  block-of : (V : Sight) (x : TypedPart) → BodyIn false V x → StmtIn V (s.block_part x)
  block-of V x h = (h.decls, h.stmts, h.handlers)

  b-block : (V : Sight) (G : Type 0) (a : Judges) (here : Context) (d : Option Declare) (b : Body) → AroundSees a → (G → Near P shown L F V here) → Back L V.bound G (Maybe (StmtIn V)) (s.block a here d b)
  unfolding s.block
  b-block V G a here d b f r =
      b-bind L V.bound G (λ x. Standing P shown L F false V V.around x.0 x.1) (Maybe (StmtIn V)) (declarations a.names a.level (length here.scope) here (Some s.no_decls) (s.block_decls d)) _
      (b-declarations P shown L F false V V.around G a.names a.level (length here.scope) here (Some s.no_decls) (s.block_decls d) (record { keeps = f.keeps.level; sees = f.level }) (λ g. begin P shown L F false V here (r g))) (λ x.
      b-bind L V.bound _ (Maybe (BodyIn false V)) (Maybe (StmtIn V)) (s.body a x.0 x.1 b) _ (b-body false V V.around _ a x.0 x.1 b f (λ g. g.new)) (λ y.
      b-pure L V.bound _ (Maybe (StmtIn V)) (option_map s.block_part y) (λ g. mapped (BodyIn false V) (StmtIn V) s.block_part y g.new (block-of V))))

  -- ---- parallel blocks

  near-threads : (V : Sight) (a : Judges) (here : Context) (n : ℕ) → Near P shown L F V here → Near P shown L F V (s.in_threads a.names here n)
  near-threads V a here n r log l = let x = r log l in record { scope = x.scope; target = x.target }

  b-count_where : (V : Sight) (G : Type 0) (a : Judges) (here : Context) (e : Option Simple) → AroundSees a → (G → Near P shown L F V here) → Back L V.bound G (Maybe (FilterIn V)) (s.count_where a.inner here e)
  b-count_where V G a here None f r = b-some L V.bound G (FilterIn V) part.Nothing (λ g. tt)
  b-count_where V G a here (Some e) f r =
      let m = b-lift P shown L F V G (Maybe (ExprIn V)) (chunk_count a.inner here e) (k-chunk_count leading.walk a.inner here e f.keeps.inner) (λ log l g. v-chunk_count (now P shown L F log l) V a.inner here e (f.inner (now P shown L F log l)) (r g log l)) in
      record { keeps = m.keeps; at = λ log l b g. filter-some V (chunk_count a.inner here e log).0 (m.at log l b g) }

  b-branches : (V : Sight) (G : Type 0) (a : Judges) (here : Context) (made : Option TypedPart) (xs : Branches) → AroundSees a → (G → Near P shown L F V here) → (G → Maybe (Each (StmtsIn V)) made) → Back L V.bound G (Maybe (Each (StmtsIn V))) (s.branches a here made xs)
  b-branches V G a here made syntax.NoBranch f r g = b-pure L V.bound G (Maybe (Each (StmtsIn V))) made g
  b-branches V G a here made (syntax.AlsoBranch x xs) f r g =
      b-bind L V.bound G (Maybe (StmtsIn V)) (Maybe (Each (StmtsIn V))) (s.stmts a here x) _ (b-stmts V G a here x f r) (λ y.
      b-branches V (And G (Maybe (StmtsIn V) y)) a here (joined s.with_arm made y) xs f (λ h. r h.old) (λ h. joint (Each (StmtsIn V)) (StmtsIn V) (Each (StmtsIn V)) s.with_arm made y (g h.old) h.new (λ b c m n. (n, m))))

  b-parallel : (V : Sight) (G : Type 0) (a : Judges) (here : Context) (at : ℕ) (e : Option Simple) (xs : Branches) → AroundSees a → (G → Near P shown L F V here) → Back L V.bound G (Maybe (StmtIn V)) (s.parallel a here at e xs)
  unfolding s.parallel
  b-parallel V G a here at e xs f r =
      let j = new_site here at (site.Block (s.branch_count xs)) in
      b-bind L V.bound G Any (Maybe (StmtIn V)) j _ (b-any L V.bound G j (k-new_site leading.walk here at (site.Block (s.branch_count xs)))) (λ n.
      b-bind L V.bound _ (Maybe (FilterIn V)) (Maybe (StmtIn V)) (s.count_where a.inner here e) _ (b-count_where V _ a here e f (λ g. r g.old)) (λ c.
      b-bind L V.bound _ (Maybe (Each (StmtsIn V))) (Maybe (StmtIn V)) (s.branches a (s.in_threads a.names here n) (Some part.Nothing) xs) _ (b-branches V _ a (s.in_threads a.names here n) (Some part.Nothing) xs f (λ g. near-threads V a here n (r g.old.old)) (λ g. tt)) (λ ys.
      b-bind L V.bound _ Any (Maybe (StmtIn V)) (s.arm_limit at (s.branch_count xs)) _ (b-any L V.bound _ (s.arm_limit at (s.branch_count xs)) (k.k-arm_limit leading.walk at (s.branch_count xs))) (λ v.
      b-pure L V.bound _ (Maybe (StmtIn V)) (joined (s.arms_part n) c ys) (λ g. joint (FilterIn V) (Each (StmtsIn V)) (StmtIn V) (s.arms_part n) c ys g.old.old.new g.old.new (λ b z m o. (m, arms-list V (turned z) (each-turned (StmtsIn V) z o))))))))

  -- ---- statements

  b-stmt_form : (V : Sight) (G : Type 0) (a : Judges) (here : Context) (x : Stmt) → AroundSees a → (G → Near P shown L F V here) → Back L V.bound G (Maybe (StmtIn V)) (s.stmt_form a here x)
  b-stmt_form V G a here (syntax.Null at) f r = b-some L V.bound G (StmtIn V) (part.AStmt typed.Null) (λ g. tt)
  b-stmt_form V G a here (syntax.Assign n e) f r = b-assign V G a here n e f r
  b-stmt_form V G a here (syntax.CallStmt n) f r = b-call_stmt V G a here n f r
  b-stmt_form V G a here (syntax.Exit at from e) f r = b-exit_from V G a here at from e f r
  b-stmt_form V G a here (syntax.Return at e) f r = b-return_from V G a here at e f r
  b-stmt_form V G a here (syntax.Raise at p) f r = b-raise_from V G a here at p
  b-stmt_form V G a here (syntax.IfStmt at e x more o) f r = b-if_stmt V G a here e x more o f r
  b-stmt_form V G a here (syntax.Case at e x xs) f r = b-case_stmt V G a here at e (syntax.AlsoAlt x xs) f r
  b-stmt_form V G a here (syntax.Loop label by at x last name) f r = b-loop_stmt V G a here label by x last name f r
  b-stmt_form V G a here (syntax.Block d at b) f r = b-block V G a here d b f r
  b-stmt_form V G a here (syntax.ParallelBlock at e x y more) f r = b-parallel V G a here at e (syntax.AlsoBranch x (syntax.AlsoBranch y more)) f r

  pub level-sees : (names : Names) (n : ℕ) (W : World) → LevelSees W (level_above names (inside names n))
  level-sees names n W = above-sees W names (inside names n) (inside-sees W names n)

  around-by : (names : Names) (n : ℕ) → ((V : Sight) (here : Context) (x : Stmt) → Back L V.bound (Near P shown L F V here) (Maybe (StmtIn V)) (stmt names n here x)) → AroundSees (around names n (stmt names n))
  around-by names n f = record { keeps = k.k-around leading names n tt; level = level-sees names n; inner = λ W. inside-sees W names n; within = f }

  b-stmt : (names : Names) (n : ℕ) (V : Sight) (here : Context) (x : Stmt) → Back L V.bound (Near P shown L F V here) (Maybe (StmtIn V)) (stmt names n here x)
  unfolding stmt
  b-stmt names zero V here x = b-fault L V.bound (Near P shown L F V here) (StmtIn V) (first_token.of_stmt x) (Limit bound.Levels)
  b-stmt names (suc n) V here x = b-stmt_form V (Near P shown L F V here) (around names n (stmt names n)) here x (around-by names n (λ U there y. b-stmt names n U there y)) (λ r. r)

  pub around-sees : (names : Names) (n : ℕ) → AroundSees (around names n (stmt names n))
  around-sees names n = around-by names n (λ V here x. b-stmt names n V here x)
