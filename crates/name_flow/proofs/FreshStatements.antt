-- Objects that statements declare have numbers that rise, of the stretch that their judging takes.
use Rattle.std.proofs.Common.{◌≡◌, refl, sym, subst, ℕ, zero, suc, ◌≤◌, List, [], ◌∷◌, ◌++◌, length, Option, Some, None, Bool, true, false, if◌then◌else◌, ◌==◌, arith}
use Rattle.ada_base.specs.declared.reason.Reason.{Reason}
use Rattle.syntax_tree.specs.Syntax as syntax
use Rattle.syntax_tree.specs.Syntax.{Alt, Alts, Arms, Body, Branches, Declare, Expr, Handler, Handlers, Iter, MoreStmts, Name, OptionalParallel, OptionalStmts, Pack, Scheme, Simple, Stmt, Stmts}
use Rattle.typed_tree.specs.Decoded as part
use Rattle.typed_tree.specs.Decoded.{TypedPart, as_alternative, as_alternatives, as_arms, as_body, as_decl, as_decls, as_expr, as_handler, as_handlers, as_stmt, as_stmts}
use Rattle.typed_tree.specs.Latest.{onto, turned}
use Rattle.typed_objects.specs.Objects.{arm_objects, block_objects, case_objects, decl_objects, handler_objects, stmt_objects, stmts_objects}
use Rattle.typed_tree.specs.Syntax as typed
use Rattle.typed_tree.specs.Syntax.{Alternatives, Decls, Handlers as TypedHandlers, Handled as TypedHandled}
use Rattle.typed_tree.specs.declared.program.SiteKind.TheVariants as site
use Rattle.name_rules.specs.Cases.{Choosing, Covering, case_choices, handled_by}
use Rattle.name_rules.specs.Declarations.{declarations}
use Rattle.name_rules.specs.Expressions.{condition, expr}
use Rattle.name_rules.specs.Judging.{both, fault, given, joined, some}
use Rattle.name_rules.specs.Names.{exception}
use Rattle.name_rules.specs.Parts.{new_site}
use Rattle.name_rules.specs.Primaries.{inside}
use Rattle.name_rules.specs.Statements as s
use Rattle.name_rules.specs.Statements.{Around as Judges, around, stmt}
use Rattle.name_rules.specs.TypedParts.{also, left_of, nested_stmts, right_of}
use Rattle.name_rules.specs.declared.log.Log.{Log}
use Rattle.name_rules.specs.declared.log.Rule.TheVariants.{NotVisible}
use Rattle.name_rules.specs.declared.scope.Context.{Context}
use Rattle.name_rules.specs.declared.scope.Names.{Names}
use Rattle.name_rules.specs.declared.types.Kind.{Kind}
use Rattle.name_rules.specs.declared.types.Wanted.TheVariants as wanted
use Rattle.name_laws.proofs.KeepsCases.{k-case_choices, k-handled_by}
use Rattle.name_laws.proofs.KeepsExpressions.{k-condition, k-expr}
use Rattle.name_laws.proofs.KeepsParts.{k-new_site}
use Rattle.name_laws.proofs.KeepsStatements as k
use Rattle.name_laws.proofs.Makes.{Any, Maybe, joint, mapped}
use Rattle.name_laws.proofs.Walk.{k-given}
use Rattle.name_laws.proofs.Walked.{KeepsAround}
use Rattle.name_flow.proofs.Between.{Avoids, Rises, least, rises-join, rises-wide}
use Rattle.name_flow.proofs.Finds.{any}
use Rattle.name_flow.proofs.FlowNames.{DoneOf, IsPlain, Tells, t-name}
use Rattle.name_flow.proofs.FlowStatements.{simple-assign, simple-call, simple-returned}
use Rattle.name_flow.proofs.FreshDeclarations.{Chain, declarations-in}
use Rattle.name_flow.proofs.Numbers.{growing, many}

-- ---- lists, the latest item first

-- from one number on and up to another
abbrev pub Grown : (ℕ → ℕ → TypedPart → Type 0) → ℕ → ℕ → TypedPart → Type 0
Grown D lo hi part.Nothing = lo ≤ hi
Grown D lo hi (part.Cons p q) = (mid : ℕ) × Grown D lo mid q × D mid hi p
Grown D lo hi x = ⊥

-- where numbers that rise behind an item rise with it, too
module _ (L : TypedPart → List ℕ) (D : ℕ → ℕ → TypedPart → Type 0) (before : (lo hi o : ℕ) (p rest : TypedPart) → D lo hi p → Rises hi o (L rest) → Rises lo o (L (part.Cons p rest))) where
  done-onto : (lo hi o : ℕ) (x rest : TypedPart) → Grown D lo hi x → Rises hi o (L rest) → Rises lo o (L (onto x rest))
  done-onto lo hi o part.Nothing rest h u = rises-wide hi o lo o (L rest) h (least o) u
  done-onto lo hi o (part.Cons p q) rest (mid, g, h) u = done-onto lo mid o q (part.Cons p rest) g (before mid hi o p rest h u)
  done-onto lo hi o x rest h u = absurd h

  pub whole-rises : (lo hi : ℕ) (x : TypedPart) → Rises hi hi (L part.Nothing) → Grown D lo hi x → Rises lo hi (L (turned x))
  unfolding turned
  whole-rises lo hi x e h = done-onto lo hi hi x part.Nothing h e

-- ---- chains of declarations

-- a declaration of a number of a stretch: before those behind the stretch, and outside of other stretches
pub record DeclIn (lo hi : ℕ) (x : TypedPart) : Type 0 where
  pub grows : lo ≤ hi
  pub up : (ds : Decls) (o : ℕ) → Rises hi o (decl_objects ds) → Rises lo o (decl_objects (as_decl x ds))
  pub out : (a b : ℕ) (ds : Decls) → hi ≤ a → Avoids a b (decl_objects ds) → Avoids a b (decl_objects (as_decl x ds))

abbrev pub DoneIn : ℕ → ℕ → TypedPart → Type 0
DoneIn lo hi x = Grown DeclIn lo hi x

decl-wide : (lo hi top : ℕ) (x : TypedPart) → hi ≤ top → DeclIn lo hi x → DeclIn lo top x
decl-wide lo hi top x l h = record { grows = omega (arith, h.grows, l); up = λ ds o u. h.up ds o (rises-wide top o hi o (decl_objects ds) l (least o) u); out = λ a b ds k u. h.out a b ds (omega (arith, l, k)) u }

done-wide : (lo hi top : ℕ) (x : TypedPart) → hi ≤ top → DoneIn lo hi x → DoneIn lo top x
done-wide lo hi top part.Nothing l h = omega (arith, l, h)
done-wide lo hi top (part.Cons p q) l (mid, g, h) = (mid, g, decl-wide mid hi top p l h)
done-wide lo hi top x l h = absurd h

-- one more object
also-object : (lo m n o : ℕ) (x y : TypedPart) → ((ds : Decls) → decl_objects (as_decl y ds) ≡ n ∷ decl_objects ds) → DoneIn lo m x → m ≤ n → suc n ≤ o → DoneIn lo o (also x y)
also-object lo m n o x y e h l k = (
  m,
  h,
  record {
    grows = omega (arith, l, k);
    up = λ ds z u. subst (Rises m z) (sym (e ds)) (l, rises-wide o z (suc n) z (decl_objects ds) k (least z) u);
    out = λ a b ds g u. subst (Avoids a b) (sym (e ds)) ((λ v w. omega (arith, k, g, v)), u);
  },
)

pub done-chain : (lo : ℕ) → Chain (DoneIn lo)
done-chain lo = record {
  lasts = λ m n x l h. done-wide lo m n x l h;
  mention = λ m x es h. (m, h, record { grows = least m; up = λ ds o u. u; out = λ a b ds k u. u });
  default = λ m n o x h l k. also-object lo m n o x (part.ADecl (typed.DeclareDefault n)) (λ ds. refl) h l k;
  variable = λ m n o x v h l k. also-object lo m n o x (part.ADecl (typed.DeclareVariable n v)) (λ ds. refl) h l k;
  constant = λ m n o x v h l k. also-object lo m n o x (part.ADecl (typed.DeclareConstant n v)) (λ ds. refl) h l k;
}

pub done-turned : (lo hi : ℕ) (x : TypedPart) → DoneIn lo hi x → Rises lo hi (decl_objects (as_decls (turned x)))
done-turned lo hi x h = whole-rises (λ y. decl_objects (as_decls y)) DeclIn (λ a b o p rest g u. g.up (as_decls rest) o u) lo hi x (least hi) h

-- ---- statements

abbrev StmtIn : ℕ → ℕ → TypedPart → Type 0
StmtIn lo hi x = Rises lo hi (stmt_objects (as_stmt x))

abbrev StmtsIn : ℕ → ℕ → TypedPart → Type 0
StmtsIn lo hi x = Rises lo hi (stmts_objects (as_stmts x))

pub maybe-more : (Q R : TypedPart → Type 0) → ((x : TypedPart) → Q x → R x) → (x : Option TypedPart) → Maybe Q x → Maybe R x
maybe-more Q R f None h = tt
maybe-more Q R f (Some x) h = f x h

stmt-wide : (a b c d : ℕ) (x : Option TypedPart) → c ≤ a → b ≤ d → Maybe (StmtIn a b) x → Maybe (StmtIn c d) x
stmt-wide a b c d x l m h = maybe-more (StmtIn a b) (StmtIn c d) (λ y g. rises-wide a b c d (stmt_objects (as_stmt y)) l m g) x h

stmts-wide : (a b c d : ℕ) (x : Option TypedPart) → c ≤ a → b ≤ d → Maybe (StmtsIn a b) x → Maybe (StmtsIn c d) x
stmts-wide a b c d x l m h = maybe-more (StmtsIn a b) (StmtsIn c d) (λ y g. rises-wide a b c d (stmts_objects (as_stmts y)) l m g) x h

stmts-list : (lo hi : ℕ) (x : TypedPart) → Grown StmtIn lo hi x → StmtsIn lo hi (turned x)
stmts-list lo hi x h = whole-rises (λ y. stmts_objects (as_stmts y)) StmtIn (λ a b o p rest g u. rises-join a b o (stmt_objects (as_stmt p)) (stmts_objects (as_stmts rest)) g u) lo hi x (least hi) h

-- ---- what judges statements

pub record AroundNumbers (a : Judges) : Type 0 where
  pub keeps : KeepsAround growing.walk a
  pub within : (here : Context) (x : Stmt) (log : Log) → (let r = a.within here x log in Maybe (StmtIn (many log) (many r.1)) r.0)

stmts-from : (a : Judges) (here : Context) (lo : ℕ) (made : Option TypedPart) (x : MoreStmts) (log : Log) → AroundNumbers a → Maybe (Grown StmtIn lo (many log)) made
    → (let r = s.stmts_from a here made x log in Maybe (Grown StmtIn lo (many r.1)) r.0)
stmts-from a here lo made syntax.NoStmt log f h = h
stmts-from a here lo made (syntax.AlsoStmt x xs) log f h =
    let y = a.within here x log in
    stmts-from a here lo (joined s.with_stmt made y.0) xs y.1 f
    (joint (Grown StmtIn lo (many log)) (StmtIn (many log) (many y.1)) (Grown StmtIn lo (many y.1)) s.with_stmt made y.0 h (f.within here x log) (λ b c m n. (many log, m, n)))

pub stmts-in : (a : Judges) (here : Context) (x : Stmts) (log : Log) → AroundNumbers a → (let r = s.stmts a here x log in Maybe (StmtsIn (many log) (many r.1)) r.0)
unfolding s.stmts
stmts-in a here (syntax.stmts x xs) log f =
    let y = s.stmts_from a here (Some s.no_stmts) (syntax.AlsoStmt x xs) log in
    mapped (Grown StmtIn (many log) (many y.1)) (StmtsIn (many log) (many y.1)) turned y.0 (stmts-from a here (many log) (Some s.no_stmts) (syntax.AlsoStmt x xs) log f (least (many log)))
    (λ z h. stmts-list (many log) (many y.1) z h)

-- ---- statements without statements

plain-in : (lo hi : ℕ) (x : typed.Stmt) → IsPlain x → lo ≤ hi → Rises lo hi (stmt_objects x)
plain-in lo hi typed.Null h l = l
plain-in lo hi (typed.Assign at root ss v) h l = l
plain-in lo hi (typed.CallProcedure at callee sub as') h l = l
plain-in lo hi typed.Return h l = l
plain-in lo hi (typed.ReturnValue v) h l = l
plain-in lo hi (typed.Raise r) h l = l
plain-in lo hi (typed.Put at callee ps line) h l = l
plain-in lo hi (typed.Get at callee first root ss scalar) h l = l
plain-in lo hi x h l = absurd h

simple-in : (lo hi : ℕ) (x : Option TypedPart) → lo ≤ hi → Maybe (λ y. IsPlain (as_stmt y)) x → Maybe (StmtIn lo hi) x
simple-in lo hi None l h = tt
simple-in lo hi (Some x) l h = plain-in lo hi (as_stmt x) h l

exit-in : (lo hi : ℕ) (n : Option ℕ) (c : Option TypedPart) → lo ≤ hi → Maybe (StmtIn lo hi) (joined s.exit_part n c)
exit-in lo hi n c l = joint Any Any (StmtIn lo hi) s.exit_part n c (any n) (any c) (λ a b y z. l)

-- ---- if statements

abbrev BranchIn : ℕ → ℕ → TypedPart → Type 0
BranchIn lo hi p = StmtsIn lo hi (right_of p)

with-elsif-if : (lo mid hi : ℕ) (made c ss : Option TypedPart) → Maybe (Grown BranchIn lo mid) made → Maybe (StmtsIn mid hi) ss → Maybe (Grown BranchIn lo hi) (s.with_elsif_if made c ss)
with-elsif-if lo mid hi made None ss g i = tt
with-elsif-if lo mid hi made (Some c) ss g i = joint (Grown BranchIn lo mid) (StmtsIn mid hi) (Grown BranchIn lo hi) (s.with_elsif c) made ss g i (λ a b m n. (mid, m, n))

elsifs-in : (a : Judges) (here : Context) (lo : ℕ) (made : Option TypedPart) (x : Arms) (log : Log) → AroundNumbers a → Maybe (Grown BranchIn lo (many log)) made
    → (let r = s.elsifs a here made x log in Maybe (Grown BranchIn lo (many r.1)) r.0)
elsifs-in a here lo made syntax.NoArm log f h = h
elsifs-in a here lo made (syntax.AlsoArm (syntax.arm at e x) xs) log f h =
    let c = condition a.names a.level here e log in
    let ss = s.stmts a here x c.1 in
    let one = (k-condition growing.walk a.names a.level here e tt f.keeps.level).at log in
    elsifs-in a here lo (s.with_elsif_if made c.0 ss.0) xs ss.1 f
    (with-elsif-if lo (many log) (many ss.1) made c.0 ss.0 h (stmts-wide (many c.1) (many ss.1) (many log) (many ss.1) ss.0 one (least (many ss.1)) (stmts-in a here x c.1 f)))

otherwise-in : (a : Judges) (here : Context) (o : OptionalStmts) (log : Log) → AroundNumbers a → (let r = s.otherwise_where a here o log in Maybe (StmtsIn (many log) (many r.1)) r.0)
otherwise-in a here syntax.AbsentStmts log f = least (many log)
otherwise-in a here (syntax.PresentStmts x) log f = stmts-in a here x log f

nested-in : (lo mid hi : ℕ) (xs o : TypedPart) → Grown BranchIn lo mid xs → StmtsIn mid hi o → StmtsIn lo hi (nested_stmts xs o)
unfolding nested_stmts
nested-in lo mid hi part.Nothing o h g = rises-wide mid hi lo hi (stmts_objects (as_stmts o)) h (least hi) g
nested-in lo mid hi (part.Cons p rest) o (k, m, h) g =
    let both' = stmts_objects (as_stmts (right_of p)) ++ stmts_objects (as_stmts o) in
    nested-in lo k hi rest (part.Cons (part.AStmt (typed.IfThen (as_expr (left_of p)) (as_stmts (right_of p)) (as_stmts o))) part.Nothing) m
    (rises-join k hi hi both' [] (rises-join k mid hi (stmts_objects (as_stmts (right_of p))) (stmts_objects (as_stmts o)) h g) (least hi))
nested-in lo mid hi x o h g = absurd h

if-made : (lo mid last hi : ℕ) (c ss xs ys : Option TypedPart) (log : Log) → Maybe (StmtsIn lo mid) ss → Maybe (Grown BranchIn mid last) xs → Maybe (StmtsIn last hi) ys → Maybe (StmtIn lo hi) (both c ss (s.if_stmt_made xs ys) log).0
if-made lo mid last hi None ss xs ys log g h i = tt
if-made lo mid last hi (Some c) None xs ys log g h i = tt
if-made lo mid last hi (Some c) (Some ss) xs ys log g h i =
    joint (Grown BranchIn mid last) (StmtsIn last hi) (StmtIn lo hi) (s.if_stmt_part c ss) xs ys h i
    (λ u v m n. rises-join lo mid hi (stmts_objects (as_stmts ss)) (stmts_objects (as_stmts (nested_stmts u v))) g (nested-in mid last hi u v m n))

same-log : (c ss : Option TypedPart) (xs ys : Option TypedPart) (log : Log) → many (both c ss (s.if_stmt_made xs ys) log).1 ≡ many log
same-log None ss xs ys log = refl
same-log (Some c) None xs ys log = refl
same-log (Some c) (Some ss) xs ys log = refl

if-in : (a : Judges) (here : Context) (e : Expr) (x : Stmts) (more : Arms) (o : OptionalStmts) (log : Log) → AroundNumbers a → (let r = s.if_stmt a here e x more o log in Maybe (StmtIn (many log) (many r.1)) r.0)
unfolding s.if_stmt
if-in a here e x more o log f =
    let c = condition a.names a.level here e log in
    let ss = s.stmts a here x c.1 in
    let xs = s.elsifs a here (Some part.Nothing) more ss.1 in
    let ys = s.otherwise_where a here o xs.1 in
    let one = (k-condition growing.walk a.names a.level here e tt f.keeps.level).at log in
    subst (λ n. Maybe (StmtIn (many log) n) (both c.0 ss.0 (s.if_stmt_made xs.0 ys.0) ys.1).0) (sym (same-log c.0 ss.0 xs.0 ys.0 ys.1))
    (if-made (many log) (many ss.1) (many xs.1) (many ys.1) c.0 ss.0 xs.0 ys.0 ys.1
    (stmts-wide (many c.1) (many ss.1) (many log) (many ss.1) ss.0 one (least (many ss.1)) (stmts-in a here x c.1 f))
    (elsifs-in a here (many ss.1) (Some part.Nothing) more ss.1 f (least (many ss.1)))
    (otherwise-in a here o xs.1 f))

-- ---- case statements

pub record AlternativeIn (lo hi : ℕ) (p : TypedPart) : Type 0 where
  pub cases : (top : ℕ) (as' : Alternatives) → Rises hi top (case_objects as') → Rises lo top (case_objects (as_alternative p as'))

alternatives-list : (lo hi : ℕ) (x : TypedPart) → Grown AlternativeIn lo hi x → Rises lo hi (case_objects (as_alternatives (turned x)))
alternatives-list lo hi x h = whole-rises (λ y. case_objects (as_alternatives y)) AlternativeIn (λ a b o p rest g u. g.cases o (as_alternatives rest) u) lo hi x (least hi) h

also-alternative : (lo mid hi : ℕ) (c : Choosing) (made ss : Option TypedPart) → Maybe (Grown AlternativeIn lo mid) made → Maybe (StmtsIn mid hi) ss → Maybe (Grown AlternativeIn lo hi) (s.also_alternative c made ss)
unfolding s.also_alternative
also-alternative lo mid hi c made ss g h =
    joint (Grown AlternativeIn lo mid) (StmtsIn mid hi) (Grown AlternativeIn lo hi) (s.with_alternative c) made ss g h
    (λ a b m n. (mid, m, record { cases = λ top as' r. rises-join mid hi top (stmts_objects (as_stmts b)) (case_objects as') n r }))

alternative-in : (a : Judges) (here : Context) (lo : ℕ) (kind : Option Kind) (last : Bool) (c : Covering) (made : Option TypedPart) (x : Alt) (log : Log) → AroundNumbers a → Maybe (Grown AlternativeIn lo (many log)) made
    → (let r = s.alternative a here kind last c made x log in Maybe (Grown AlternativeIn lo (many r.1)) r.0.1)
unfolding s.alternative
alternative-in a here lo kind last c made (syntax.alt at x ys t) log f h =
    let r = case_choices a.level here kind (length ys == 0) last c s.no_choosing (x ∷ ys) log in
    let ss = s.stmts a here t r.1 in
    let one = (k-case_choices growing.walk a.level here kind (length ys == 0) last c s.no_choosing (x ∷ ys) f.keeps.level).at log in
    also-alternative lo (many log) (many ss.1) r.0.1 made ss.0 h (stmts-wide (many r.1) (many ss.1) (many log) (many ss.1) ss.0 one (least (many ss.1)) (stmts-in a here t r.1 f))

alts-in : (a : Judges) (here : Context) (lo : ℕ) (kind : Option Kind) (c : Covering) (made : Option TypedPart) (xs : Alts) (log : Log) → AroundNumbers a → Maybe (Grown AlternativeIn lo (many log)) made
    → (let r = s.alts a here kind c made xs log in Maybe (Grown AlternativeIn lo (many r.1)) r.0.1)
alts-in a here lo kind c made syntax.NoAlt log f h = h
alts-in a here lo kind c made (syntax.AlsoAlt x xs) log f h =
    let r = s.alternative a here kind (s.is_last xs) c made x log in
    alts-in a here lo kind r.0.0 r.0.1 xs r.1 f (alternative-in a here lo kind (s.is_last xs) c made x log f h)

case-in : (a : Judges) (here : Context) (at : ℕ) (e : Expr) (xs : Alts) (log : Log) → AroundNumbers a → (let r = s.case_stmt a here at e xs log in Maybe (StmtIn (many log) (many r.1)) r.0)
unfolding s.case_stmt
case-in a here at e xs log f =
    let none : Covering = record { ranges = []; faulty = false; others = false } in
    let y = expr a.names a.level here wanted.Other e log in
    let w = given y.0 s.selector y.1 in
    let z = s.alts a here (s.selector_kind w.0) none (Some part.Nothing) xs w.1 in
    let u = s.closed_where at w.0 z.0.0 z.1 in
    let one = (k-expr growing.walk a.names a.level here wanted.Other e tt f.keeps.level).at log in
    let two = (k-given growing.walk y.0 s.selector (λ v. k.k-selector growing.walk v)).at y.1 in
    let four = (k.k-closed_where growing.walk at w.0 z.0.0).at z.1 in
    joint Any (Grown AlternativeIn (many log) (many z.1)) (StmtIn (many log) (many u.1)) s.case_part w.0 z.0.1 (any w.0)
    (alts-in a here (many log) (s.selector_kind w.0) none (Some part.Nothing) xs w.1 f (omega (arith, one, two)))
    (λ b c m n. rises-wide (many log) (many z.1) (many log) (many u.1) (case_objects (as_alternatives (turned c))) (least (many log)) four (alternatives-list (many log) (many z.1) c n))

-- ---- loops

for-made : (lo hi n : ℕ) (construct : Option ℕ) (c : Option TypedPart) (i ss : Option TypedPart) (log : Log) → Maybe (StmtsIn lo hi) ss → Maybe (StmtIn lo hi) (both i ss (s.for_made n construct c) log).0
for-made lo hi n construct c None ss log h = tt
for-made lo hi n construct c (Some i) None log h = tt
for-made lo hi n None c (Some i) (Some ss) log h = h
for-made lo hi n (Some k) c (Some i) (Some ss) log h = mapped Any (StmtIn lo hi) (s.parallel_part n k i ss) c (any c) (λ x t. h)

for-same : (n : ℕ) (construct : Option ℕ) (c : Option TypedPart) (i ss : Option TypedPart) (log : Log) → many (both i ss (s.for_made n construct c) log).1 ≡ many log
for-same n construct c None ss log = refl
for-same n construct c (Some i) None log = refl
for-same n None c (Some i) (Some ss) log = refl
for-same n (Some k) c (Some i) (Some ss) log = refl

for-in : (a : Judges) (here : Context) (label : Option ℕ) (n : ℕ) (x : Stmts) (p : OptionalParallel) (i : Iter) (log : Log) → AroundNumbers a → (let r = s.for_loop a here label n x p i log in Maybe (StmtIn (many log) (many r.1)) r.0)
unfolding s.for_loop
for-in a here label n x p i log f =
    let e = s.loop_entered a here p i log in
    let ss = s.stmts a (s.in_loop a.names e.0.here label n) x e.1 in
    let one = (k.k-loop_entered growing.walk a here p i f.keeps).at log in
    let hi = many ss.1 in
    subst (λ m. Maybe (StmtIn (many log) m) (both e.0.iteration ss.0 (s.for_made n e.0.construct e.0.chunk) ss.1).0) (sym (for-same n e.0.construct e.0.chunk e.0.iteration ss.0 ss.1))
    (for-made (many log) hi n e.0.construct e.0.chunk e.0.iteration ss.0 ss.1 (stmts-wide (many e.1) hi (many log) hi ss.0 one (least hi) (stmts-in a (s.in_loop a.names e.0.here label n) x e.1 f)))

loop-made : (lo hi n : ℕ) (c ss : Option TypedPart) → Maybe (StmtsIn lo hi) ss → Maybe (StmtIn lo hi) (joined (s.loop_part n) c ss)
loop-made lo hi n c ss h = joint Any (StmtsIn lo hi) (StmtIn lo hi) (s.loop_part n) c ss (any c) h (λ a b x y. y)

loop-with : (a : Judges) (here : Context) (label : Option ℕ) (n : ℕ) (x : Stmts) (by : Scheme) (log : Log) → AroundNumbers a → (let r = s.loop_with a here label n x by log in Maybe (StmtIn (many log) (many r.1)) r.0)
loop-with a here label n x (syntax.While at e) log f =
    let c = condition a.names a.level here e log in
    let ss = s.stmts a (s.in_loop a.names here label n) x c.1 in
    let one = (k-condition growing.walk a.names a.level here e tt f.keeps.level).at log in
    loop-made (many log) (many ss.1) n c.0 ss.0 (stmts-wide (many c.1) (many ss.1) (many log) (many ss.1) ss.0 one (least (many ss.1)) (stmts-in a (s.in_loop a.names here label n) x c.1 f))
loop-with a here label n x (syntax.For p at i) log f = for-in a here label n x (s.optional_parallel p) i log f

loop-by : (a : Judges) (here : Context) (label : Option ℕ) (n : ℕ) (x : Stmts) (by : Option Scheme) (log : Log) → AroundNumbers a → (let r = s.loop_by a here label n x by log in Maybe (StmtIn (many log) (many r.1)) r.0)
loop-by a here label n x None log f =
    let ss = s.stmts a (s.in_loop a.names here label n) x log in
    loop-made (many log) (many ss.1) n (Some part.Nothing) ss.0 (stmts-in a (s.in_loop a.names here label n) x log f)
loop-by a here label n x (Some by) log f = loop-with a here label n x by log f

loop-in : (a : Judges) (here : Context) (label : Option ℕ) (by : Option Scheme) (x : Stmts) (last : ℕ) (name : Option ℕ) (log : Log) → AroundNumbers a → (let r = s.loop_stmt a here label by x last name log in Maybe (StmtIn (many log) (many r.1)) r.0)
unfolding s.loop_stmt
loop-in a here label by x last name log f =
    let u = s.loop_ends a.names label last name log in
    let n = s.new_loop u.1 in
    let r = s.loop_by a here label n.0 x by n.1 in
    let one : many log ≤ many n.1 = omega (arith, (k.k-loop_ends growing.walk a.names label last name tt).at log, (k.k-new_loop growing.walk).at u.1) in
    maybe-more (StmtIn (many n.1) (many r.1)) (StmtIn (many log) (many r.1)) (λ y g. rises-wide (many n.1) (many r.1) (many log) (many r.1) (stmt_objects (as_stmt y)) one (least (many r.1)) g) r.0 (loop-by a here label n.0 x by n.1 f)

-- ---- bodies and blocks

pub record HandlerIn (lo hi : ℕ) (p : TypedPart) : Type 0 where
  pub handlers : (top : ℕ) (hs : TypedHandlers) → Rises hi top (handler_objects hs) → Rises lo top (handler_objects (as_handler p hs))

handlers-list : (lo hi : ℕ) (x : TypedPart) → Grown HandlerIn lo hi x → Rises lo hi (handler_objects (as_handlers (turned x)))
handlers-list lo hi x h = whole-rises (λ y. handler_objects (as_handlers y)) HandlerIn (λ a b o p rest g u. g.handlers o (as_handlers rest) u) lo hi x (least hi) h

with-handler-if : (lo mid hi : ℕ) (made : Option TypedPart) (h : Option TypedHandled) (ss : Option TypedPart) → Maybe (Grown HandlerIn lo mid) made → Maybe (StmtsIn mid hi) ss → Maybe (Grown HandlerIn lo hi) (s.with_handler_if made h ss)
with-handler-if lo mid hi made None ss g i = tt
with-handler-if lo mid hi made (Some h) ss g i =
    joint (Grown HandlerIn lo mid) (StmtsIn mid hi) (Grown HandlerIn lo hi) (s.with_handler h) made ss g i
    (λ a b m n. (mid, m, record { handlers = λ top hs r. rises-join mid hi top (stmts_objects (as_stmts b)) (handler_objects hs) n r }))

handler-in : (a : Judges) (here : Context) (lo : ℕ) (last : Bool) (seen : List Reason) (made : Option TypedPart) (h : Handler) (log : Log) → AroundNumbers a → Maybe (Grown HandlerIn lo (many log)) made
    → (let r = s.handler a here last seen made h log in Maybe (Grown HandlerIn lo (many r.1)) r.0.1)
unfolding s.handler
handler-in a here lo last seen made (syntax.handler at h x) log f g =
    let r = handled_by a.names here seen last h log in
    let ss = s.stmts a (s.in_handler_of here) x r.1 in
    let one = (k-handled_by growing.walk a.names here seen last h tt).at log in
    with-handler-if lo (many log) (many ss.1) made r.0.1 ss.0 g (stmts-wide (many r.1) (many ss.1) (many log) (many ss.1) ss.0 one (least (many ss.1)) (stmts-in a (s.in_handler_of here) x r.1 f))

handlers-in : (a : Judges) (here : Context) (lo : ℕ) (seen : List Reason) (made : Option TypedPart) (hs : Handlers) (log : Log) → AroundNumbers a → Maybe (Grown HandlerIn lo (many log)) made
    → (let r = s.handlers a here seen made hs log in Maybe (Grown HandlerIn lo (many r.1)) r.0)
handlers-in a here lo seen made syntax.NoHandler log f g = g
handlers-in a here lo seen made (syntax.AlsoHandler h hs) log f g =
    let r = s.handler a here (s.is_last_handler hs) seen made h log in
    handlers-in a here lo r.0.0 r.0.1 hs r.1 f (handler-in a here lo (s.is_last_handler hs) seen made h log f g)

-- with what else is known of its declarations
abbrev pub Begun : (Decls → Type 0) → ℕ → ℕ → TypedPart → Type 0
Begun E lo hi ds = DoneIn lo hi ds × E (as_decls (turned ds))

pub record BodyIn (E : Decls → Type 0) (lo mid hi : ℕ) (x : TypedPart) : Type 0 where
  pub known : E (as_body x).decls
  pub decls : Rises lo mid (decl_objects (as_body x).decls)
  pub rest : Rises mid hi (stmts_objects (as_body x).stmts ++ handler_objects (as_body x).handlers)

pub body-rises : (E : Decls → Type 0) (lo mid hi : ℕ) (x : TypedPart) → BodyIn E lo mid hi x → Rises lo hi (block_objects (as_body x).decls (as_body x).stmts (as_body x).handlers)
body-rises E lo mid hi x h = rises-join lo mid hi (decl_objects (as_body x).decls) (stmts_objects (as_body x).stmts ++ handler_objects (as_body x).handlers) h.decls h.rest

body-made : (E : Decls → Type 0) (lo mid last hi : ℕ) (ds ss hs : Option TypedPart) (log : Log) → Maybe (Begun E lo mid) ds → Maybe (StmtsIn mid last) ss → Maybe (Grown HandlerIn last hi) hs → Maybe (BodyIn E lo mid hi) (given ds (s.body_made ss hs) log).0
body-made E lo mid last hi None ss hs log h g i = tt
body-made E lo mid last hi (Some ds) ss hs log h g i =
    joint (StmtsIn mid last) (Grown HandlerIn last hi) (BodyIn E lo mid hi) (s.body_part ds) ss hs g i
    (λ b c m n. record { known = h.1; decls = done-turned lo mid ds h.0; rest = rises-join mid last hi (stmts_objects (as_stmts b)) (handler_objects (as_handlers (turned c))) m (handlers-list last hi c n) })

body-same : (ds ss hs : Option TypedPart) (log : Log) → many (given ds (s.body_made ss hs) log).1 ≡ many log
body-same None ss hs log = refl
body-same (Some ds) ss hs log = refl

pub body-in : (E : Decls → Type 0) (a : Judges) (here : Context) (lo : ℕ) (ds : Option TypedPart) (b : Body) (log : Log) → AroundNumbers a → Maybe (Begun E lo (many log)) ds → (let r = s.body a here ds b log in Maybe (BodyIn E lo (many log) (many r.1)) r.0)
unfolding s.body
body-in E a here lo ds (syntax.body x hs) log f h =
    let ss = s.stmts a here x log in
    let xs = s.handlers a here [] (Some part.Nothing) hs ss.1 in
    subst (λ n. Maybe (BodyIn E lo (many log) n) (given ds (s.body_made ss.0 xs.0) xs.1).0) (sym (body-same ds ss.0 xs.0 xs.1))
    (body-made E lo (many log) (many ss.1) (many xs.1) ds ss.0 xs.0 xs.1 h (stmts-in a here x log f) (handlers-in a here (many ss.1) [] (Some part.Nothing) hs ss.1 f (least (many ss.1))))

block-in : (a : Judges) (here : Context) (d : Option Declare) (b : Body) (log : Log) → AroundNumbers a → (let r = s.block a here d b log in Maybe (StmtIn (many log) (many r.1)) r.0)
unfolding s.block
block-in a here d b log f =
    let r = declarations a.names a.level (length here.scope) here (Some s.no_decls) (s.block_decls d) log in
    let y = s.body a r.0.0 r.0.1 b r.1 in
    let start : Maybe (DoneIn (many log) (many r.1)) r.0.1 = declarations-in (DoneIn (many log)) (done-chain (many log)) a.names a.level (length here.scope) here (Some s.no_decls) (s.block_decls d) log f.keeps.level (least (many log)) in
    mapped (BodyIn (λ ds. Unit {0}) (many log) (many r.1) (many y.1)) (StmtIn (many log) (many y.1)) s.block_part y.0
    (body-in (λ ds. Unit {0}) a r.0.0 (many log) r.0.1 b r.1 f (maybe-more (DoneIn (many log) (many r.1)) (Begun (λ ds. Unit {0}) (many log) (many r.1)) (λ x h. (h, tt)) r.0.1 start))
    (λ x h. body-rises (λ ds. Unit {0}) (many log) (many r.1) (many y.1) x h)

-- ---- parallel blocks

arms-list : (lo hi : ℕ) (x : TypedPart) → Grown StmtsIn lo hi x → Rises lo hi (arm_objects (as_arms (turned x)))
arms-list lo hi x h = whole-rises (λ y. arm_objects (as_arms y)) StmtsIn (λ a b o p rest g u. rises-join a b o (stmts_objects (as_stmts p)) (arm_objects (as_arms rest)) g u) lo hi x (least hi) h

branches-in : (a : Judges) (here : Context) (lo : ℕ) (made : Option TypedPart) (xs : Branches) (log : Log) → AroundNumbers a → Maybe (Grown StmtsIn lo (many log)) made
    → (let r = s.branches a here made xs log in Maybe (Grown StmtsIn lo (many r.1)) r.0)
branches-in a here lo made syntax.NoBranch log f h = h
branches-in a here lo made (syntax.AlsoBranch x xs) log f h =
    let y = s.stmts a here x log in
    branches-in a here lo (joined s.with_arm made y.0) xs y.1 f
    (joint (Grown StmtsIn lo (many log)) (StmtsIn (many log) (many y.1)) (Grown StmtsIn lo (many y.1)) s.with_arm made y.0 h (stmts-in a here x log f) (λ b c m n. (many log, m, n)))

parallel-in : (a : Judges) (here : Context) (at : ℕ) (e : Option Simple) (xs : Branches) (log : Log) → AroundNumbers a → (let r = s.parallel a here at e xs log in Maybe (StmtIn (many log) (many r.1)) r.0)
unfolding s.parallel
parallel-in a here at e xs log f =
    let n = new_site here at (site.Block (s.branch_count xs)) log in
    let c = s.count_where a.inner here e n.1 in
    let ys = s.branches a (s.in_threads a.names here n.0) (Some part.Nothing) xs c.1 in
    let u = s.arm_limit at (s.branch_count xs) ys.1 in
    let one = (k-new_site growing.walk here at (site.Block (s.branch_count xs))).at log in
    let two = (k.k-count_where growing.walk a.inner here e f.keeps.inner).at n.1 in
    let four = (k.k-arm_limit growing.walk at (s.branch_count xs)).at ys.1 in
    joint Any (Grown StmtsIn (many log) (many ys.1)) (StmtIn (many log) (many u.1)) (s.arms_part n.0) c.0 ys.0 (any c.0)
    (branches-in a (s.in_threads a.names here n.0) (many log) (Some part.Nothing) xs c.1 f (omega (arith, one, two)))
    (λ b z m o. rises-wide (many log) (many ys.1) (many log) (many u.1) (arm_objects (as_arms (turned z))) (least (many log)) four (arms-list (many log) (many ys.1) z o))

-- ---- statements

exit-case : (a : Judges) (here : Context) (at : ℕ) (from : Option ℕ) (e : Option Expr) (log : Log) → (let r = s.exit_from a.names a.level here at from e log in many log ≤ many r.1 → Maybe (StmtIn (many log) (many r.1)) r.0)
unfolding s.exit_from
exit-case a here at from e log l =
    let n = s.exited a.names here at from (s.innermost here.loops) log in
    let c = s.condition_where a.names a.level here e n.1 in
    exit-in (many log) (many c.1) n.0 c.0 l

again-in : (lo hi at : ℕ) (b : Bool) (log : Log) → lo ≤ hi → Maybe (StmtIn lo hi) ((if b then some (part.AStmt typed.Reraise) else fault at NotVisible) log).0
again-in lo hi at true log l = l
again-in lo hi at false log l = tt

raise-in : (names : Names) (here : Context) (at : ℕ) (p : Option Pack) (log : Log) → (let r = s.raise_from names here at p log in many log ≤ many r.1 → Maybe (StmtIn (many log) (many r.1)) r.0)
raise-in names here at None log l = again-in (many log) _ at here.in_handler log l
raise-in names here at (Some p) log l = mapped Any (StmtIn (many log) _) s.raised (exception names here p log).0 (any (exception names here p log).0) (λ y t. l)

form-in : (a : Judges) (here : Context) (x : Stmt) (log : Log) → AroundNumbers a → ((n : Name) → Tells (Maybe DoneOf) (a.level.name here n)) → (let r = s.stmt_form a here x log in many log ≤ many r.1 → Maybe (StmtIn (many log) (many r.1)) r.0)
form-in a here (syntax.Null at) log f t l = least (many log)
form-in a here (syntax.Assign n e) log f t l = simple-in (many log) _ _ l ((simple-assign a.names a.level here n e).at log)
form-in a here (syntax.CallStmt n) log f t l = simple-in (many log) _ _ l ((simple-call a.names a.level here n (t n)).at log)
form-in a here (syntax.Exit at from e) log f t l = exit-case a here at from e log l
form-in a here (syntax.Return at e) log f t l = simple-in (many log) _ _ l ((simple-returned a.names a.level here at e).at log)
form-in a here (syntax.Raise at p) log f t l = raise-in a.names here at p log l
form-in a here (syntax.IfStmt at e x more o) log f t l = if-in a here e x more o log f
form-in a here (syntax.Case at e x xs) log f t l = case-in a here at e (syntax.AlsoAlt x xs) log f
form-in a here (syntax.Loop label by at x last name) log f t l = loop-in a here label by x last name log f
form-in a here (syntax.Block d at b) log f t l = block-in a here d b log f
form-in a here (syntax.ParallelBlock at e x y more) log f t l = parallel-in a here at e (syntax.AlsoBranch x (syntax.AlsoBranch y more)) log f

around-by : (names : Names) (n : ℕ) → ((here : Context) (x : Stmt) (log : Log) → (let r = stmt names n here x log in Maybe (StmtIn (many log) (many r.1)) r.0)) → AroundNumbers (around names n (stmt names n))
around-by names n f = record { keeps = k.k-around growing names n tt; within = f }

stmt-in : (names : Names) (n : ℕ) (here : Context) (x : Stmt) (log : Log) → (let r = stmt names n here x log in Maybe (StmtIn (many log) (many r.1)) r.0)
unfolding stmt
stmt-in names zero here x log = tt
stmt-in names (suc n) here x log =
    let a = around names n (stmt names n) in
    let f = around-by names n (λ there y now. stmt-in names n there y now) in
    form-in a here x log f (λ y. t-name names (inside names n) here y) ((k.k-stmt_form growing a here x f.keeps).at log)

pub around-numbers : (names : Names) (n : ℕ) → AroundNumbers (around names n (stmt names n))
around-numbers names n = around-by names n (λ here x log. stmt-in names n here x log)
