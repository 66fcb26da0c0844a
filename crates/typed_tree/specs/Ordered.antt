-- Each part of a node stands before it.
use Rattle.std.specs.Prelude.{ℕ, ◌<◌, ◌+◌, List, [], ◌∷◌}
use Rattle.typed_tree.specs.declared.expressions.Expr as tree
use Rattle.typed_tree.specs.declared.expressions.Expr.TheVariants as expr
use Rattle.typed_tree.specs.declared.expressions.Selection as tree-selection
use Rattle.typed_tree.specs.declared.expressions.Selection.TheVariants as selection
use Rattle.typed_tree.specs.declared.expressions.Actual as tree-actual
use Rattle.typed_tree.specs.declared.expressions.Actual.TheVariants as actual
use Rattle.typed_tree.specs.declared.expressions.Value as tree-value
use Rattle.typed_tree.specs.declared.expressions.Value.TheVariants as value
use Rattle.typed_tree.specs.declared.expressions.Composite as tree-composite
use Rattle.typed_tree.specs.declared.expressions.Composite.TheVariants as composite
use Rattle.typed_tree.specs.declared.expressions.Association as tree-association
use Rattle.typed_tree.specs.declared.expressions.Iteration as tree-iteration
use Rattle.typed_tree.specs.declared.expressions.Iteration.TheVariants as iteration
use Rattle.typed_tree.specs.declared.expressions.Chunk as tree-chunk
use Rattle.typed_tree.specs.declared.expressions.Chunk.TheVariants as chunk
use Rattle.typed_tree.specs.declared.statements.Stmt as tree-stmt
use Rattle.typed_tree.specs.declared.statements.Stmt.TheVariants as stmt
use Rattle.typed_tree.specs.declared.statements.Alternative as tree-alternative
use Rattle.typed_tree.specs.declared.statements.Body as tree-body
use Rattle.typed_tree.specs.declared.statements.Handler as tree-handler
use Rattle.typed_tree.specs.declared.statements.Handler.TheVariants as handler
use Rattle.typed_tree.specs.declared.statements.Decl as tree-decl
use Rattle.typed_tree.specs.declared.statements.Decl.TheVariants as decl
use Rattle.typed_tree.specs.declared.statements.Piece as tree-piece
use Rattle.typed_tree.specs.declared.statements.Piece.TheVariants as piece
use Rattle.typed_tree.specs.declared.node.Fold as tree-fold
use Rattle.typed_tree.specs.declared.node.Fold.TheVariants as fold
use Rattle.typed_tree.specs.declared.node.Node.{Node}
use Rattle.typed_tree.specs.declared.node.Node.TheVariants as node

abbrev pub ExprBelow : ℕ → tree.Expr → Type 0
ExprBelow k (expr.Static n z literal mentions) = mentions < k
ExprBelow k (expr.Variable n root selections scalar) = selections < k
ExprBelow k (expr.Constant n root selections scalar) = selections < k
ExprBelow k (expr.Parameter n parameter) = Unit {0}
ExprBelow k (expr.Target n scalar) = Unit {0}
ExprBelow k (expr.Group e) = e < k
ExprBelow k (expr.Unary n sign class e) = e < k
ExprBelow k (expr.Binary n op class e f) = (e < k) × (f < k)
ExprBelow k (expr.AndThen e f) = (e < k) × (f < k)
ExprBelow k (expr.OrElse e f) = (e < k) × (f < k)
ExprBelow k (expr.Relation class comparison e f) = (e < k) × (f < k)
ExprBelow k (expr.Membership class negated e low high) = (e < k) × (low < k) × (high < k)
ExprBelow k (expr.If c e f) = (c < k) × (e < k) × (f < k)
ExprBelow k (expr.Call n callee sub actuals) = actuals < k
ExprBelow k (expr.Convert check e) = e < k
ExprBelow k (expr.Reduction n attribute by initial site chunk iteration e) = (by < k) × (initial < k) × (chunk < k) × (iteration < k) × (e < k)

abbrev pub SelectionBelow : ℕ → tree-selection.Selection → Type 0
SelectionBelow k (selection.Field number offset) = Unit {0}
SelectionBelow k (selection.Index n e low high stride) = e < k

abbrev pub ActualBelow : ℕ → tree-actual.Actual → Type 0
ActualBelow k (actual.In formal v) = v < k
ActualBelow k (actual.InOut formal n root selections inner outer) = (selections < k) × (inner < k) × (outer < k)
ActualBelow k (actual.Out formal n root selections inner outer) = (selections < k) × (inner < k) × (outer < k)
ActualBelow k (actual.CompositeInOut formal n root selections subtype) = selections < k
ActualBelow k (actual.CompositeOut formal n root selections subtype) = selections < k

abbrev pub ValueBelow : ℕ → tree-value.Value → Type 0
ValueBelow k (value.Number check e) = e < k
ValueBelow k (value.Cells c) = c < k

abbrev pub CompositeBelow : ℕ → tree-composite.Composite → Type 0
CompositeBelow k (composite.WholeVariable n root selections subtype) = selections < k
CompositeBelow k (composite.WholeConstant n root selections subtype) = selections < k
CompositeBelow k (composite.WholeTarget n subtype) = Unit {0}
CompositeBelow k (composite.If c v w) = (c < k) × (v < k) × (w < k)
CompositeBelow k (composite.Aggregate n cells associations) = associations < k

abbrev pub AssociationBelow : ℕ → tree-association.Association → Type 0
AssociationBelow k a = (a.runs < k) × (a.mentions < k) × (a.value < k)

abbrev pub IterationBelow : ℕ → tree-iteration.Iteration → Type 0
IterationBelow k (iteration.Range n reverse low high check filter) = (low < k) × (high < k) × (check < k) × (filter < k)
IterationBelow k (iteration.Components item constant n root selections count stride dimensions filter) = (selections < k) × (filter < k)

abbrev pub ChunkBelow : ℕ → tree-chunk.Chunk → Type 0
ChunkBelow k (chunk.Count e) = e < k
ChunkBelow k (chunk.Each n low high check) = (low < k) × (high < k) × (check < k)

abbrev pub FoldBelow : ℕ → tree-fold.Fold → Type 0
FoldBelow k (fold.Operator n op class) = Unit {0}
FoldBelow k (fold.Function n sub accumulator v) = (accumulator < k) × (v < k)

abbrev pub PieceBelow : ℕ → tree-piece.Piece → Type 0
PieceBelow k (piece.Text bytes) = bytes < k
PieceBelow k (piece.Image class e) = e < k
PieceBelow k (piece.Padded class e width) = (e < k) × (width < k)

abbrev pub DeclBelow : ℕ → tree-decl.Decl → Type 0
DeclBelow k (decl.Default object) = Unit {0}
DeclBelow k (decl.Variable object initial) = initial < k
DeclBelow k (decl.Constant object initial) = initial < k
DeclBelow k (decl.Mentions es) = es < k

abbrev pub StmtBelow : ℕ → tree-stmt.Stmt → Type 0
StmtBelow k stmt.Null = Unit {0}
StmtBelow k (stmt.Assign n root selections v) = (selections < k) × (v < k)
StmtBelow k (stmt.Call n callee sub actuals) = actuals < k
StmtBelow k (stmt.Exit from condition) = condition < k
StmtBelow k stmt.Return = Unit {0}
StmtBelow k (stmt.ReturnValue v) = v < k
StmtBelow k (stmt.Raise reason) = Unit {0}
StmtBelow k stmt.Reraise = Unit {0}
StmtBelow k (stmt.If condition stmts otherwise) = (condition < k) × (stmts < k) × (otherwise < k)
StmtBelow k (stmt.Case e alternatives) = (e < k) × (alternatives < k)
StmtBelow k (stmt.Loop number condition stmts) = (condition < k) × (stmts < k)
StmtBelow k (stmt.For number iteration stmts) = (iteration < k) × (stmts < k)
StmtBelow k (stmt.ParallelFor number site chunk iteration stmts) = (chunk < k) × (iteration < k) × (stmts < k)
StmtBelow k (stmt.Parallel site count arms) = (count < k) × (arms < k)
StmtBelow k (stmt.Block decls stmts handlers) = (decls < k) × (stmts < k) × (handlers < k)
StmtBelow k (stmt.Put n callee pieces line) = pieces < k
StmtBelow k (stmt.Get n callee first root selections scalar) = selections < k

abbrev pub AlternativeBelow : ℕ → tree-alternative.Alternative → Type 0
AlternativeBelow k a = (a.choices < k) × (a.mentions < k) × (a.stmts < k)

abbrev pub HandlerBelow : ℕ → tree-handler.Handler → Type 0
HandlerBelow k (handler.Others stmts) = stmts < k
HandlerBelow k (handler.Reasons reasons stmts) = (reasons < k) × (stmts < k)

abbrev pub BodyBelow : ℕ → tree-body.Body → Type 0
BodyBelow k b = (b.decls < k) × (b.stmts < k) × (b.handlers < k)

abbrev pub NodeBelow : ℕ → Node → Type 0
NodeBelow k node.End = Unit {0}
NodeBelow k (node.Cell first rest) = (first < k) × (rest < k)
NodeBelow k (node.Leaf leaf rest) = rest < k
NodeBelow k (node.Expr e) = ExprBelow k e
NodeBelow k (node.Selection s) = SelectionBelow k s
NodeBelow k (node.Actual a) = ActualBelow k a
NodeBelow k (node.Value v) = ValueBelow k v
NodeBelow k (node.Composite c) = CompositeBelow k c
NodeBelow k (node.Association a) = AssociationBelow k a
NodeBelow k (node.Iteration i) = IterationBelow k i
NodeBelow k (node.Chunk c) = ChunkBelow k c
NodeBelow k (node.Fold f) = FoldBelow k f
NodeBelow k (node.Check c) = Unit {0}
NodeBelow k (node.Scalar s) = Unit {0}
NodeBelow k (node.Piece p) = PieceBelow k p
NodeBelow k (node.Decl d) = DeclBelow k d
NodeBelow k (node.Stmt s) = StmtBelow k s
NodeBelow k (node.Alternative a) = AlternativeBelow k a
NodeBelow k (node.Handler h) = HandlerBelow k h
NodeBelow k (node.Body b) = BodyBelow k b

abbrev pub OrderedFrom : ℕ → List Node → Type 0
OrderedFrom k [] = Unit {0}
OrderedFrom k (n ∷ ns) = NodeBelow k n × OrderedFrom (k + 1) ns

-- each node has its parts before it
unfoldable pub IsOrdered : List Node → Type 0
IsOrdered nodes = OrderedFrom 0 nodes
