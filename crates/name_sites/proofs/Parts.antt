-- What a part is taken for holds no more sites than the part.
use Rattle.std.proofs.Common.{arith, ℕ, ◌+◌, ◌≤◌}
use Rattle.typed_tree.specs.Classes.{with_class}
use Rattle.typed_tree.specs.Decoded.{TypedPart, Nothing, Cons, LeafCons, AnExpr, ASelection, AnActual, AValue, AComposite, AnAssociation, AnIteration, AChunk, APiece, ADecl, AStmt, AnAlternative, AHandler, ABody, as_expr, as_optional, as_exprs, as_selections, as_actuals, as_composite, as_value, as_associations, as_iteration, as_chunk, as_pieces, as_decls, as_stmt, as_stmts, as_alternatives, as_arms, as_handlers, as_body}
use Rattle.typed_tree.specs.Indexes.{indexes_from, indexes_in}
use Rattle.typed_tree.specs.Latest.{onto, turned}
use Rattle.typed_tree.specs.Syntax as typed
use Rattle.typed_tree.specs.Syntax.{Expr, Iteration, Optional, Selections}
use Rattle.typed_tree.specs.declared.expressions.Reducer.TheVariants as reducer'
use Rattle.typed_tree.specs.declared.scalars.Class.{Class}
use Rattle.name_rules.specs.Iterations.{with_filter}
use Rattle.name_rules.specs.TypedParts.{also_all, exprs_of, left_of, nested_stmts, right_of, selections_of}
use Rattle.name_sites.proofs.Counts.{again-more, in_actuals, in_alternatives, in_arms, in_associations, in_body, in_chunk, in_composite, in_decls, in_expr, in_exprs, in_filter, in_handlers, in_iteration, in_optional, in_pieces, in_selections, in_stmt, in_stmts, in_value}
use Rattle.name_sites.proofs.Measures.{Formed, part-size}

pub n-expr : (s : ℕ) (p : TypedPart) → in_expr s (as_expr p) ≤ part-size s p
n-expr s (AnExpr x) = omega arith
n-expr s p = omega arith

pub n-optional : (s : ℕ) (p : TypedPart) → in_optional s (as_optional p) ≤ part-size s p
n-optional s (AnExpr x) = omega arith
n-optional s p = omega arith

pub n-value : (s : ℕ) (p : TypedPart) → in_value s (as_value p) ≤ part-size s p
n-value s (AValue x) = omega arith
n-value s p = omega arith

pub n-composite : (s : ℕ) (p : TypedPart) → in_composite s (as_composite p) ≤ part-size s p
n-composite s (AComposite x) = omega arith
n-composite s p = omega arith

pub n-iteration : (s : ℕ) (p : TypedPart) → in_iteration s (as_iteration p) ≤ part-size s p
n-iteration s (AnIteration x) = omega arith
n-iteration s p = omega arith

pub n-chunk : (s : ℕ) (p : TypedPart) → in_chunk s (as_chunk p) ≤ part-size s p
n-chunk s (AChunk x) = omega arith
n-chunk s p = omega arith

pub n-stmt : (s : ℕ) (p : TypedPart) → in_stmt s (as_stmt p) ≤ part-size s p
n-stmt s (AStmt x) = omega arith
n-stmt s p = omega arith

pub n-body : (s : ℕ) (p : TypedPart) → in_body s (as_body p) ≤ part-size s p
n-body s (ABody x) = omega arith
n-body s p = omega arith

-- ---- lists

pub n-exprs : (s : ℕ) (p : TypedPart) → in_exprs s (as_exprs p) ≤ part-size s p
n-exprs s (Cons p q) = omega (arith, n-expr s p, n-exprs s q)
n-exprs s p = omega arith

pub n-stmts : (s : ℕ) (p : TypedPart) → in_stmts s (as_stmts p) ≤ part-size s p
n-stmts s (Cons p q) = omega (arith, n-stmt s p, n-stmts s q)
n-stmts s p = omega arith

pub n-arms : (s : ℕ) (p : TypedPart) → in_arms s (as_arms p) ≤ part-size s p
n-arms s (Cons p q) = omega (arith, n-stmts s p, n-arms s q)
n-arms s p = omega arith

pub n-selections : (s : ℕ) (p : TypedPart) → Formed s p → in_selections s (as_selections p) ≤ part-size s p
n-selections s (Cons (ASelection f) q) h = omega (arith, h.0 (as_selections q), n-selections s q h.1)
n-selections s (Cons p q) h = omega (arith, n-selections s q h.1)
n-selections s p h = omega arith

pub n-actuals : (s : ℕ) (p : TypedPart) → Formed s p → in_actuals s (as_actuals p) ≤ part-size s p
n-actuals s (Cons (AnActual f) q) h = omega (arith, h.0 (as_actuals q), n-actuals s q h.1)
n-actuals s (Cons p q) h = omega (arith, n-actuals s q h.1)
n-actuals s p h = omega arith

pub n-associations : (s : ℕ) (p : TypedPart) → Formed s p → in_associations s (as_associations p) ≤ part-size s p
n-associations s (Cons (AnAssociation f) q) h = omega (arith, h.0 (as_associations q), n-associations s q h.1)
n-associations s (Cons p q) h = omega (arith, n-associations s q h.1)
n-associations s p h = omega arith

pub n-pieces : (s : ℕ) (p : TypedPart) → Formed s p → in_pieces s (as_pieces p) ≤ part-size s p
n-pieces s (Cons (APiece f) q) h = omega (arith, h.0 (as_pieces q), n-pieces s q h.1)
n-pieces s (Cons p q) h = omega (arith, n-pieces s q h.1)
n-pieces s p h = omega arith

pub n-decls : (s : ℕ) (p : TypedPart) → Formed s p → in_decls s (as_decls p) ≤ part-size s p
n-decls s (Cons (ADecl f) q) h = omega (arith, h.0 (as_decls q), n-decls s q h.1)
n-decls s (Cons p q) h = omega (arith, n-decls s q h.1)
n-decls s p h = omega arith

pub n-alternatives : (s : ℕ) (p : TypedPart) → Formed s p → in_alternatives s (as_alternatives p) ≤ part-size s p
n-alternatives s (Cons (AnAlternative f) q) h = omega (arith, h.0 (as_alternatives q), n-alternatives s q h.1)
n-alternatives s (Cons p q) h = omega (arith, n-alternatives s q h.1)
n-alternatives s p h = omega arith

pub n-handlers : (s : ℕ) (p : TypedPart) → Formed s p → in_handlers s (as_handlers p) ≤ part-size s p
n-handlers s (Cons (AHandler f) q) h = omega (arith, h.0 (as_handlers q), n-handlers s q h.1)
n-handlers s (Cons p q) h = omega (arith, n-handlers s q h.1)
n-handlers s p h = omega arith

-- ---- lists that grow

size-onto : (s : ℕ) (p rest : TypedPart) → part-size s (onto p rest) ≤ part-size s p + part-size s rest
size-onto s (Cons p q) rest = omega (arith, size-onto s q (Cons p rest))
size-onto s (LeafCons l q) rest = omega (arith, size-onto s q (LeafCons l rest))
size-onto s p rest = omega arith

formed-onto : (s : ℕ) (p rest : TypedPart) → Formed s p → Formed s rest → Formed s (onto p rest)
formed-onto s (Cons p q) rest h k = formed-onto s q (Cons p rest) h.1 (h.0, k)
formed-onto s (LeafCons l q) rest h k = formed-onto s q (LeafCons l rest) h k
formed-onto s p rest h k = k

pub n-turned : (s : ℕ) (p : TypedPart) → part-size s (turned p) ≤ part-size s p
unfolding turned
n-turned s p = omega (arith, size-onto s p Nothing)

pub w-turned : (s : ℕ) (p : TypedPart) → Formed s p → Formed s (turned p)
unfolding turned
w-turned s p h = formed-onto s p Nothing h tt

pub n-also_all : (s : ℕ) (p q : TypedPart) → part-size s (also_all p q) ≤ part-size s p + part-size s q
unfolding also_all
n-also_all s p q = omega (arith, size-onto s (turned q) p, n-turned s q)

pub w-also_all : (s : ℕ) (p q : TypedPart) → Formed s p → Formed s q → Formed s (also_all p q)
unfolding also_all
w-also_all s p q h k = formed-onto s (turned q) p (w-turned s q k) h

pub n-exprs_of : (s : ℕ) (p : TypedPart) → in_exprs s (exprs_of p) ≤ part-size s p
n-exprs_of s p = omega (arith, n-exprs s (turned p), n-turned s p)

pub n-selections_of : (s : ℕ) (p : TypedPart) → Formed s p → in_selections s (selections_of p) ≤ part-size s p
n-selections_of s p h = omega (arith, n-selections s (turned p) (w-turned s p h), n-turned s p)

-- ---- pairs

pub n-sides : (s : ℕ) (p : TypedPart) → part-size s (left_of p) + part-size s (right_of p) ≤ part-size s p
n-sides s (Cons p q) = omega arith
n-sides s p = omega arith

pub w-left_of : (s : ℕ) (p : TypedPart) → Formed s p → Formed s (left_of p)
w-left_of s (Cons p q) h = h.0
w-left_of s p h = tt

pub w-right_of : (s : ℕ) (p : TypedPart) → Formed s p → Formed s (right_of p)
w-right_of s (Cons p q) h = h.1
w-right_of s p h = tt

pub n-nested_stmts : (s : ℕ) (p q : TypedPart) → part-size s (nested_stmts p q) ≤ part-size s p + part-size s q
unfolding nested_stmts
n-nested_stmts s (Cons p rest) q =
    omega (arith, n-nested_stmts s rest (Cons (AStmt (typed.IfThen (as_expr (left_of p)) (as_stmts (right_of p)) (as_stmts q))) Nothing), n-expr s (left_of p), n-stmts s (right_of p), n-stmts s q, n-sides s p)
n-nested_stmts s p q = omega arith

-- ---- indexes, classes and filters

indexes-size : (s : ℕ) (done : TypedPart) (ss : Selections) → part-size s (indexes_from done ss) ≤ part-size s done + in_selections s ss
indexes-size s done typed.Whole = omega arith
indexes-size s done (typed.Field n o ss) = omega (arith, indexes-size s done ss)
indexes-size s done (typed.Index at e l h d ss) = omega (arith, indexes-size s (Cons (AnExpr e) done) ss)

indexes-formed : (s : ℕ) (done : TypedPart) (ss : Selections) → Formed s done → Formed s (indexes_from done ss)
indexes-formed s done typed.Whole k = k
indexes-formed s done (typed.Field n o ss) k = indexes-formed s done ss k
indexes-formed s done (typed.Index at e l h d ss) k = indexes-formed s (Cons (AnExpr e) done) ss (tt, k)

pub n-indexes_in : (s : ℕ) (ss : Selections) → part-size s (indexes_in ss) ≤ in_selections s ss
unfolding indexes_in
n-indexes_in s ss = omega (arith, indexes-size s Nothing ss)

pub w-indexes_in : (s : ℕ) (ss : Selections) → Formed s (indexes_in ss)
unfolding indexes_in
w-indexes_in s ss = indexes-formed s Nothing ss tt

pub n-with_class : (s : ℕ) (c : Class) (e : Expr) → in_expr s (with_class c e) ≤ in_expr s e
n-with_class s c (typed.Group e) = n-with_class s c e
n-with_class s c (typed.Unary at o b e) = n-with_class s c e
n-with_class s c (typed.Binary at o b l r) = omega (arith, n-with_class s c l, n-with_class s c r)
n-with_class s c (typed.If x v o) = omega (arith, n-with_class s c v, n-with_class s c o)
n-with_class s c (typed.Reduction at a (reducer'.Operator n o b) initial site chunk iteration v) =
    let l = n-with_class s c v in
    omega (arith, n-with_class s c initial, l, again-more s site (in_filter s iteration + in_expr s (with_class c v)) (in_filter s iteration + in_expr s v) (omega (arith, l)))
n-with_class s c (typed.Reduction at a (reducer'.Function n x y z) initial site chunk iteration v) = omega arith
n-with_class s c e = omega arith

pub n-with_filter : (s : ℕ) (i : Iteration) (f : Optional) → in_iteration s (with_filter i f) ≤ in_iteration s i + in_optional s f
n-with_filter s (typed.Range n b l h c g) f = omega arith
n-with_filter s (typed.Components n c at r ss m d e g) f = omega arith

-- a filter is part of what it stands in
pub n-filter : (s : ℕ) (i : Iteration) → in_filter s i ≤ in_iteration s i
n-filter s (typed.Range n b l h c f) = omega arith
n-filter s (typed.Components n c at r ss m d e f) = omega arith
