-- What a reader's answer stands for, where `at` is what numbers stand for.
use Rattle.std.specs.Prelude.{ℕ, true, List, [], ◌∷◌, Option, Some, None}
use Rattle.typed_tree.specs.declared.expressions.Expr as tree
use Rattle.typed_tree.specs.declared.expressions.Selection as tree-selection
use Rattle.typed_tree.specs.declared.expressions.Actual as tree-actual
use Rattle.typed_tree.specs.declared.expressions.Value as tree-value
use Rattle.typed_tree.specs.declared.expressions.Association as tree-association
use Rattle.typed_tree.specs.declared.expressions.Iteration as tree-iteration
use Rattle.typed_tree.specs.declared.expressions.Chunk as tree-chunk
use Rattle.typed_tree.specs.declared.expressions.Root.TheVariants as root
use Rattle.typed_tree.specs.declared.statements.Alternative as tree-alternative
use Rattle.typed_tree.specs.declared.statements.Body as tree-body
use Rattle.typed_tree.specs.declared.statements.Handler as tree-handler
use Rattle.typed_tree.specs.declared.statements.Decl as tree-decl
use Rattle.typed_tree.specs.declared.statements.Piece as tree-piece
use Rattle.typed_tree.specs.declared.node.Cell.{Cell}
use Rattle.typed_tree.specs.declared.node.LeafCell.{LeafCell}
use Rattle.typed_tree.specs.declared.node.Leaf.{Leaf}
use Rattle.typed_tree.specs.Syntax.{Exprs, NoExpr, AlsoExpr, Optional, Absent, Present, Selections, Whole, Actuals, NoActual, Value, Cells, Aggregate, Associations, NoAssociation, Iteration, Components, Chunk, NoChunk, Pieces, NoPiece, Decls, NoDecl, Stmts, End, Then, Alternatives, NoAlternative, Arms, NoArm, Arm, Handlers, NoHandler, Body}
use Rattle.typed_tree.specs.Decoded.{TypedPart, as_expr, as_exprs, as_selection, as_selections, as_actual, as_actuals, as_association, as_associations, as_piece, as_pieces, as_decl, as_decls, as_stmt, as_stmts, as_alternative, as_alternatives, as_arms, as_handler, as_handlers, as_leaves, of_expr, of_selection, of_actual, of_value, of_association, of_iteration, of_chunk, of_piece, of_decl, of_alternative, of_handler, of_body}

abbrev pub optional_of : (ℕ → TypedPart) → Option tree.Expr → Optional
optional_of at None = Absent
optional_of at (Some e) = Present (of_expr at e)

abbrev pub value_of : (ℕ → TypedPart) → Option tree-value.Value → Value
value_of at None = Cells (Aggregate 0 0 NoAssociation)
value_of at (Some v) = of_value at v

abbrev pub iteration_of : (ℕ → TypedPart) → Option tree-iteration.Iteration → Iteration
iteration_of at None = Components 0 true 0 (root.Object 0) Whole 0 0 0 Absent
iteration_of at (Some i) = of_iteration at i

abbrev pub chunk_of : (ℕ → TypedPart) → Option tree-chunk.Chunk → Chunk
chunk_of at None = NoChunk
chunk_of at (Some c) = of_chunk at c

abbrev pub body_of : (ℕ → TypedPart) → Option tree-body.Body → Body
body_of at None = record { decls = NoDecl; stmts = End; handlers = NoHandler }
body_of at (Some b) = of_body at b

abbrev pub leaves_of : (ℕ → TypedPart) → Option LeafCell → List Leaf
leaves_of at None = []
leaves_of at (Some c) = c.leaf ∷ as_leaves (at c.rest)

abbrev pub selection_of : (ℕ → TypedPart) → Option tree-selection.Selection → Selections → Selections
selection_of at None = λ rest. rest
selection_of at (Some x) = of_selection at x

abbrev pub actual_of : (ℕ → TypedPart) → Option tree-actual.Actual → Actuals → Actuals
actual_of at None = λ rest. rest
actual_of at (Some x) = of_actual at x

abbrev pub association_of : (ℕ → TypedPart) → Option tree-association.Association → Associations → Associations
association_of at None = λ rest. rest
association_of at (Some x) = of_association at x

abbrev pub piece_of : (ℕ → TypedPart) → Option tree-piece.Piece → Pieces → Pieces
piece_of at None = λ rest. rest
piece_of at (Some x) = of_piece at x

abbrev pub decl_of : (ℕ → TypedPart) → Option tree-decl.Decl → Decls → Decls
decl_of at None = λ rest. rest
decl_of at (Some x) = of_decl at x

abbrev pub alternative_of : (ℕ → TypedPart) → Option tree-alternative.Alternative → Alternatives → Alternatives
alternative_of at None = λ rest. rest
alternative_of at (Some x) = of_alternative at x

abbrev pub handler_of : (ℕ → TypedPart) → Option tree-handler.Handler → Handlers → Handlers
handler_of at None = λ rest. rest
handler_of at (Some x) = of_handler at x

abbrev pub exprs_of : (ℕ → TypedPart) → Option Cell → Exprs
exprs_of at None = NoExpr
exprs_of at (Some c) = AlsoExpr (as_expr (at c.first)) (as_exprs (at c.rest))

abbrev pub stmts_of : (ℕ → TypedPart) → Option Cell → Stmts
stmts_of at None = End
stmts_of at (Some c) = Then (as_stmt (at c.first)) (as_stmts (at c.rest))

abbrev pub arms_of : (ℕ → TypedPart) → Option Cell → Arms
arms_of at None = NoArm
arms_of at (Some c) = Arm (as_stmts (at c.first)) (as_arms (at c.rest))

abbrev pub selections_of : (ℕ → TypedPart) → Option Cell → Selections
selections_of at None = Whole
selections_of at (Some c) = as_selection (at c.first) (as_selections (at c.rest))

abbrev pub actuals_of : (ℕ → TypedPart) → Option Cell → Actuals
actuals_of at None = NoActual
actuals_of at (Some c) = as_actual (at c.first) (as_actuals (at c.rest))

abbrev pub associations_of : (ℕ → TypedPart) → Option Cell → Associations
associations_of at None = NoAssociation
associations_of at (Some c) = as_association (at c.first) (as_associations (at c.rest))

abbrev pub pieces_of : (ℕ → TypedPart) → Option Cell → Pieces
pieces_of at None = NoPiece
pieces_of at (Some c) = as_piece (at c.first) (as_pieces (at c.rest))

abbrev pub decls_of : (ℕ → TypedPart) → Option Cell → Decls
decls_of at None = NoDecl
decls_of at (Some c) = as_decl (at c.first) (as_decls (at c.rest))

abbrev pub alternatives_of : (ℕ → TypedPart) → Option Cell → Alternatives
alternatives_of at None = NoAlternative
alternatives_of at (Some c) = as_alternative (at c.first) (as_alternatives (at c.rest))

abbrev pub handlers_of : (ℕ → TypedPart) → Option Cell → Handlers
handlers_of at None = NoHandler
handlers_of at (Some c) = as_handler (at c.first) (as_handlers (at c.rest))
