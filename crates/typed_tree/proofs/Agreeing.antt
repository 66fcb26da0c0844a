-- What a node stands for depends on the parts before it alone.
use Rattle.std.specs.Prelude.{◌≡◌, ℕ, ◌<◌}
use Rattle.std.proofs.Common.{refl, ap}
use mathlib.Core.Path.{fun_ext}
use Rattle.typed_tree.specs.Syntax.{Selections, Actuals, Associations, Pieces, Decls, Alternatives, Handlers}
use Rattle.typed_tree.specs.declared.expressions.Expr as tree
use Rattle.typed_tree.specs.declared.expressions.Expr.TheVariants as expr
use Rattle.typed_tree.specs.declared.expressions.Selection as tree-selection
use Rattle.typed_tree.specs.declared.expressions.Selection.TheVariants as selection
use Rattle.typed_tree.specs.declared.expressions.Actual as tree-actual
use Rattle.typed_tree.specs.declared.expressions.Actual.TheVariants as actual
use Rattle.typed_tree.specs.declared.expressions.Value as tree-value
use Rattle.typed_tree.specs.declared.expressions.Value.TheVariants as value
use Rattle.typed_tree.specs.declared.expressions.Composite as tree-composite
use Rattle.typed_tree.specs.declared.expressions.Composite.TheVariants as composite
use Rattle.typed_tree.specs.declared.expressions.Association as tree-association
use Rattle.typed_tree.specs.declared.expressions.Iteration as tree-iteration
use Rattle.typed_tree.specs.declared.expressions.Iteration.TheVariants as iteration
use Rattle.typed_tree.specs.declared.expressions.Chunk as tree-chunk
use Rattle.typed_tree.specs.declared.expressions.Chunk.TheVariants as chunk
use Rattle.typed_tree.specs.declared.statements.Stmt as tree-stmt
use Rattle.typed_tree.specs.declared.statements.Stmt.TheVariants as stmt
use Rattle.typed_tree.specs.declared.statements.Alternative as tree-alternative
use Rattle.typed_tree.specs.declared.statements.Body as tree-body
use Rattle.typed_tree.specs.declared.statements.Handler as tree-handler
use Rattle.typed_tree.specs.declared.statements.Handler.TheVariants as handler
use Rattle.typed_tree.specs.declared.statements.Decl as tree-decl
use Rattle.typed_tree.specs.declared.statements.Decl.TheVariants as decl
use Rattle.typed_tree.specs.declared.statements.Piece as tree-piece
use Rattle.typed_tree.specs.declared.statements.Piece.TheVariants as piece
use Rattle.typed_tree.specs.declared.node.Fold as tree-fold
use Rattle.typed_tree.specs.declared.node.Fold.TheVariants as fold
use Rattle.typed_tree.specs.declared.node.Node.TheVariants as node
use Rattle.typed_tree.specs.declared.node.Node.{Node}
use Rattle.typed_tree.specs.Decoded.{TypedPart, AnExpr, ASelection, AnActual, AValue, AComposite, AnAssociation, AnIteration, AChunk, AReducer, APiece, ADecl, AStmt, AnAlternative, AHandler, ABody, of_expr, of_selection, of_actual, of_value, of_composite, of_association, of_iteration, of_chunk, of_fold, of_piece, of_decl, of_stmt, of_alternative, of_handler, of_body, of_node}
use Rattle.typed_tree.specs.Ordered.{ExprBelow, SelectionBelow, ActualBelow, ValueBelow, CompositeBelow, AssociationBelow, IterationBelow, ChunkBelow, FoldBelow, PieceBelow, DeclBelow, StmtBelow, AlternativeBelow, HandlerBelow, BodyBelow, NodeBelow}

-- the same below a number
abbrev pub Agree : ℕ → (ℕ → TypedPart) → (ℕ → TypedPart) → Type 0
Agree k p q = (j : ℕ) → j < k → p j ≡ q j

pub expr_agrees : (k : ℕ) (p q : ℕ → TypedPart) → Agree k p q → (x : tree.Expr) → ExprBelow k x → of_expr p x ≡ of_expr q x
expr_agrees k p q same (expr.Static n z literal mentions) h = rw (same mentions h)
expr_agrees k p q same (expr.Variable n root selections scalar) h = rw (same selections h)
expr_agrees k p q same (expr.Constant n root selections scalar) h = rw (same selections h)
expr_agrees k p q same (expr.Parameter n parameter) h = refl
expr_agrees k p q same (expr.Target n scalar) h = refl
expr_agrees k p q same (expr.Group e) h = rw (same e h)
expr_agrees k p q same (expr.Unary n sign class e) h = rw (same e h)
expr_agrees k p q same (expr.Binary n op class e f) h = rw (same e h.0, same f h.1)
expr_agrees k p q same (expr.AndThen e f) h = rw (same e h.0, same f h.1)
expr_agrees k p q same (expr.OrElse e f) h = rw (same e h.0, same f h.1)
expr_agrees k p q same (expr.Relation class comparison e f) h = rw (same e h.0, same f h.1)
expr_agrees k p q same (expr.Membership class negated e low high) h = rw (same e h.0, same low h.1, same high h.2)
expr_agrees k p q same (expr.If c e f) h = rw (same c h.0, same e h.1, same f h.2)
expr_agrees k p q same (expr.Call n callee sub actuals) h = rw (same actuals h)
expr_agrees k p q same (expr.Convert check e) h = rw (same e h)
expr_agrees k p q same (expr.Reduction n attribute by initial site chunk iteration e) h = rw (same by h.0, same initial h.1, same chunk h.2, same iteration h.3, same e h.4)

pub selection_agrees : (k : ℕ) (p q : ℕ → TypedPart) → Agree k p q → (x : tree-selection.Selection) → SelectionBelow k x → (rest : Selections) → of_selection p x rest ≡ of_selection q x rest
selection_agrees k p q same (selection.Field number offset) h rest = refl
selection_agrees k p q same (selection.Index n e low high stride) h rest = rw (same e h)

pub actual_agrees : (k : ℕ) (p q : ℕ → TypedPart) → Agree k p q → (x : tree-actual.Actual) → ActualBelow k x → (rest : Actuals) → of_actual p x rest ≡ of_actual q x rest
actual_agrees k p q same (actual.In formal v) h rest = rw (same v h)
actual_agrees k p q same (actual.InOut formal n root selections inner outer) h rest = rw (same selections h.0, same inner h.1, same outer h.2)
actual_agrees k p q same (actual.Out formal n root selections inner outer) h rest = rw (same selections h.0, same inner h.1, same outer h.2)
actual_agrees k p q same (actual.CompositeInOut formal n root selections subtype) h rest = rw (same selections h)
actual_agrees k p q same (actual.CompositeOut formal n root selections subtype) h rest = rw (same selections h)

pub value_agrees : (k : ℕ) (p q : ℕ → TypedPart) → Agree k p q → (x : tree-value.Value) → ValueBelow k x → of_value p x ≡ of_value q x
value_agrees k p q same (value.Number check e) h = rw (same e h)
value_agrees k p q same (value.Cells c) h = rw (same c h)

pub composite_agrees : (k : ℕ) (p q : ℕ → TypedPart) → Agree k p q → (x : tree-composite.Composite) → CompositeBelow k x → of_composite p x ≡ of_composite q x
composite_agrees k p q same (composite.WholeVariable n root selections subtype) h = rw (same selections h)
composite_agrees k p q same (composite.WholeConstant n root selections subtype) h = rw (same selections h)
composite_agrees k p q same (composite.WholeTarget n subtype) h = refl
composite_agrees k p q same (composite.If c v w) h = rw (same c h.0, same v h.1, same w h.2)
composite_agrees k p q same (composite.Aggregate n cells associations) h = rw (same associations h)

pub association_agrees : (k : ℕ) (p q : ℕ → TypedPart) → Agree k p q → (x : tree-association.Association) → AssociationBelow k x → (rest : Associations) → of_association p x rest ≡ of_association q x rest
association_agrees k p q same a h rest = rw (same a.runs h.0, same a.mentions h.1, same a.value h.2)

pub iteration_agrees : (k : ℕ) (p q : ℕ → TypedPart) → Agree k p q → (x : tree-iteration.Iteration) → IterationBelow k x → of_iteration p x ≡ of_iteration q x
iteration_agrees k p q same (iteration.Range k2 reverse low high check filter) h = rw (same low h.0, same high h.1, same check h.2, same filter h.3)
iteration_agrees k p q same (iteration.Components item constant n root selections count stride dimensions filter) h = rw (same selections h.0, same filter h.1)

pub chunk_agrees : (k : ℕ) (p q : ℕ → TypedPart) → Agree k p q → (x : tree-chunk.Chunk) → ChunkBelow k x → of_chunk p x ≡ of_chunk q x
chunk_agrees k p q same (chunk.Count e) h = rw (same e h)
chunk_agrees k p q same (chunk.Each k2 low high check) h = rw (same low h.0, same high h.1, same check h.2)

pub fold_agrees : (k : ℕ) (p q : ℕ → TypedPart) → Agree k p q → (x : tree-fold.Fold) → FoldBelow k x → of_fold p x ≡ of_fold q x
fold_agrees k p q same (fold.Operator n op class) h = refl
fold_agrees k p q same (fold.Function n sub accumulator v) h = rw (same accumulator h.0, same v h.1)

pub piece_agrees : (k : ℕ) (p q : ℕ → TypedPart) → Agree k p q → (x : tree-piece.Piece) → PieceBelow k x → (rest : Pieces) → of_piece p x rest ≡ of_piece q x rest
piece_agrees k p q same (piece.Text bytes) h rest = rw (same bytes h)
piece_agrees k p q same (piece.Image class e) h rest = rw (same e h)
piece_agrees k p q same (piece.Padded class e width) h rest = rw (same e h.0, same width h.1)

pub decl_agrees : (k : ℕ) (p q : ℕ → TypedPart) → Agree k p q → (x : tree-decl.Decl) → DeclBelow k x → (rest : Decls) → of_decl p x rest ≡ of_decl q x rest
decl_agrees k p q same (decl.Default object) h rest = refl
decl_agrees k p q same (decl.Variable object initial) h rest = rw (same initial h)
decl_agrees k p q same (decl.Constant object initial) h rest = rw (same initial h)
decl_agrees k p q same (decl.Mentions es) h rest = rw (same es h)

pub stmt_agrees : (k : ℕ) (p q : ℕ → TypedPart) → Agree k p q → (x : tree-stmt.Stmt) → StmtBelow k x → of_stmt p x ≡ of_stmt q x
stmt_agrees k p q same stmt.Null h = refl
stmt_agrees k p q same (stmt.Assign n root selections v) h = rw (same selections h.0, same v h.1)
stmt_agrees k p q same (stmt.Call n callee sub actuals) h = rw (same actuals h)
stmt_agrees k p q same (stmt.Exit from condition) h = rw (same condition h)
stmt_agrees k p q same stmt.Return h = refl
stmt_agrees k p q same (stmt.ReturnValue v) h = rw (same v h)
stmt_agrees k p q same (stmt.Raise reason) h = refl
stmt_agrees k p q same stmt.Reraise h = refl
stmt_agrees k p q same (stmt.If condition stmts otherwise) h = rw (same condition h.0, same stmts h.1, same otherwise h.2)
stmt_agrees k p q same (stmt.Case e alternatives) h = rw (same e h.0, same alternatives h.1)
stmt_agrees k p q same (stmt.Loop number condition stmts) h = rw (same condition h.0, same stmts h.1)
stmt_agrees k p q same (stmt.For number iteration stmts) h = rw (same iteration h.0, same stmts h.1)
stmt_agrees k p q same (stmt.ParallelFor number site chunk iteration stmts) h = rw (same chunk h.0, same iteration h.1, same stmts h.2)
stmt_agrees k p q same (stmt.Parallel site count arms) h = rw (same count h.0, same arms h.1)
stmt_agrees k p q same (stmt.Block decls stmts handlers) h = rw (same decls h.0, same stmts h.1, same handlers h.2)
stmt_agrees k p q same (stmt.Put n callee pieces line) h = rw (same pieces h)
stmt_agrees k p q same (stmt.Get n callee first root selections scalar) h = rw (same selections h)

pub alternative_agrees : (k : ℕ) (p q : ℕ → TypedPart) → Agree k p q → (x : tree-alternative.Alternative) → AlternativeBelow k x → (rest : Alternatives) → of_alternative p x rest ≡ of_alternative q x rest
alternative_agrees k p q same a h rest = rw (same a.choices h.0, same a.mentions h.1, same a.stmts h.2)

pub handler_agrees : (k : ℕ) (p q : ℕ → TypedPart) → Agree k p q → (x : tree-handler.Handler) → HandlerBelow k x → (rest : Handlers) → of_handler p x rest ≡ of_handler q x rest
handler_agrees k p q same (handler.Others stmts) h rest = rw (same stmts h)
handler_agrees k p q same (handler.Reasons reasons stmts) h rest = rw (same reasons h.0, same stmts h.1)

pub body_agrees : (k : ℕ) (p q : ℕ → TypedPart) → Agree k p q → (x : tree-body.Body) → BodyBelow k x → of_body p x ≡ of_body q x
body_agrees k p q same b h = rw (same b.decls h.0, same b.stmts h.1, same b.handlers h.2)

pub node_agrees : (k : ℕ) (p q : ℕ → TypedPart) → Agree k p q → (n : Node) → NodeBelow k n → of_node p n ≡ of_node q n
node_agrees k p q same node.End h = refl
node_agrees k p q same (node.Cell first rest) h = rw (same first h.0, same rest h.1)
node_agrees k p q same (node.Leaf leaf rest) h = rw (same rest h)
node_agrees k p q same (node.Expr e) h = ap AnExpr (expr_agrees k p q same e h)
node_agrees k p q same (node.Selection s) h = ap ASelection (fun_ext (λ rest. selection_agrees k p q same s h rest))
node_agrees k p q same (node.Actual a) h = ap AnActual (fun_ext (λ rest. actual_agrees k p q same a h rest))
node_agrees k p q same (node.Value v) h = ap AValue (value_agrees k p q same v h)
node_agrees k p q same (node.Composite c) h = ap AComposite (composite_agrees k p q same c h)
node_agrees k p q same (node.Association a) h = ap AnAssociation (fun_ext (λ rest. association_agrees k p q same a h rest))
node_agrees k p q same (node.Iteration i) h = ap AnIteration (iteration_agrees k p q same i h)
node_agrees k p q same (node.Chunk c) h = ap AChunk (chunk_agrees k p q same c h)
node_agrees k p q same (node.Fold f) h = ap AReducer (fold_agrees k p q same f h)
node_agrees k p q same (node.Check c) h = refl
node_agrees k p q same (node.Scalar s) h = refl
node_agrees k p q same (node.Piece x) h = ap APiece (fun_ext (λ rest. piece_agrees k p q same x h rest))
node_agrees k p q same (node.Decl d) h = ap ADecl (fun_ext (λ rest. decl_agrees k p q same d h rest))
node_agrees k p q same (node.Stmt s) h = ap AStmt (stmt_agrees k p q same s h)
node_agrees k p q same (node.Alternative a) h = ap AnAlternative (fun_ext (λ rest. alternative_agrees k p q same a h rest))
node_agrees k p q same (node.Handler x) h = ap AHandler (fun_ext (λ rest. handler_agrees k p q same x h rest))
node_agrees k p q same (node.Body b) h = ap ABody (body_agrees k p q same b h)
