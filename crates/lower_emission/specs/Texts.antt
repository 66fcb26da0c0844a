-- The texts that a program puts out (A.10.7), each once.
use Rattle.std.specs.Prelude.{ℕ, ◌+◌, nat_eq, List, [], ◌∷◌, ◌++◌, Bool, true, false, cond}
use Rattle.std.specs.Cmp.Lexicographic.{pointwise}
use Rattle.typed_tree.specs.Syntax.{Pieces, NoPiece, Text, Image, Padded, Stmt, IfThen, Case, Loop, For, ParallelFor, Parallel, Block, Put, Stmts, End, Then, Alternatives, NoAlternative, Alternative, Handlers, NoHandler, Handler, Arms, NoArm, Arm, Sub, Body, Program}

-- ---- in the order in which they stand

abbrev pub pieces_texts : Pieces → List (List ℕ)
pieces_texts NoPiece = []
pieces_texts (Text bytes rest) = bytes ∷ pieces_texts rest
pieces_texts (Image class e rest) = pieces_texts rest
pieces_texts (Padded class e width rest) = pieces_texts rest

unfoldable mutual
  pub stmt_texts : Stmt → List (List ℕ)
  stmt_texts (IfThen condition stmts otherwise) = texts_in stmts ++ texts_in otherwise
  stmt_texts (Case e alternatives) = case_texts alternatives
  stmt_texts (Loop number condition stmts) = texts_in stmts
  stmt_texts (For number iteration stmts) = texts_in stmts
  stmt_texts (ParallelFor number site chunk iteration stmts) = texts_in stmts
  stmt_texts (Parallel site count arms) = arm_texts arms
  stmt_texts (Block decls stmts handlers) = texts_in stmts ++ handler_texts handlers
  stmt_texts (Put at callee pieces line) = pieces_texts pieces
  stmt_texts _ = []

  pub texts_in : Stmts → List (List ℕ)
  texts_in End = []
  texts_in (Then first more) = stmt_texts first ++ texts_in more

  pub case_texts : Alternatives → List (List ℕ)
  case_texts NoAlternative = []
  case_texts (Alternative others choices mentions stmts rest) = texts_in stmts ++ case_texts rest

  pub arm_texts : Arms → List (List ℕ)
  arm_texts NoArm = []
  arm_texts (Arm stmts rest) = texts_in stmts ++ arm_texts rest

  pub handler_texts : Handlers → List (List ℕ)
  handler_texts NoHandler = []
  handler_texts (Handler handled stmts rest) = texts_in stmts ++ handler_texts rest

abbrev pub body_texts : Body → List (List ℕ)
body_texts b = texts_in b.stmts ++ handler_texts b.handlers

abbrev pub subs_texts : List Sub → List (List ℕ)
subs_texts [] = []
subs_texts (unit ∷ more) = body_texts unit.body ++ subs_texts more

-- ---- each once

-- the place of a text among texts, or their number where it isn't among them
abbrev pub place : List (List ℕ) → List ℕ → ℕ
place [] bytes = 0
place (t ∷ ts) bytes = cond (pointwise nat_eq t bytes) 0 (place ts bytes + 1)

abbrev pub is_among : List (List ℕ) → List ℕ → Bool
is_among [] bytes = false
is_among (t ∷ ts) bytes = cond (pointwise nat_eq t bytes) true (is_among ts bytes)

-- one more text, unless it is there already
abbrev pub noted : List (List ℕ) → List ℕ → List (List ℕ)
noted there t = cond (is_among there t) there (there ++ t ∷ [])

abbrev pub gathered : List (List ℕ) → List (List ℕ) → List (List ℕ)
gathered there [] = there
gathered there (t ∷ ts) = gathered (noted there t) ts

abbrev pub texts_of : Program → List (List ℕ)
texts_of program = gathered [] (body_texts program.body ++ subs_texts program.subs)
