-- The readers of declarations (3.1) and formal parameters (6.1), where so many levels may still open.
use Rattle.std.specs.Prelude.{ℕ, zero, suc, List, [], ◌∷◌, Option, Some, None}
use Rattle.syntax_readers.specs.Readers.{Reader, ◌>>=◌, ◌>>◌, pure, symbol, by_next, too_deep}
use Rattle.syntax_readers.specs.Loops.{grown}
use Rattle.ada_base.specs.Kinds as kind
use Rattle.syntax_tree.specs.Joining.{list_and}
use Rattle.syntax_tree.specs.Syntax.{Expr, Range, Ids, Indic, Mark, RangeMark, Array, Comp, ObjectType, Indicated, Anonymous, Definition, RangeType, ArrayType, RecordType, Decl, ObjectDecl, NumberDecl, ExceptionDecl, TypeDecl, SubtypeDecl, Formal, Formals, ModularType}
use Rattle.syntax_tree.specs.declared.operators.Mode.{Mode}
use Rattle.syntax_tree.specs.declared.operators.Mode.TheVariants as mode'
use Rattle.syntax_grammar.specs.Brackets.{constraint, range}
use Rattle.syntax_grammar.specs.Expressions.{expr, simple}
use Rattle.syntax_grammar.specs.Levels.{levels}
use Rattle.syntax_grammar.specs.Read.{Indexes}

-- the kinds with which a declaration begins
abbrev pub decl_kinds : List ℕ
decl_kinds = kind.type_word ∷ kind.subtype_word ∷ kind.identifier ∷ []

unfoldable pub next_identifier : Reader ℕ
next_identifier = symbol kind.comma >> symbol kind.identifier

unfoldable pub ids : Reader Ids
ids = symbol kind.identifier >>= λ n. grown list_and [] (kind.comma ∷ []) next_identifier >>= λ ns. pure (record { first = n; more = ns })

-- ---- formal parameters

unfoldable pub in_mode : Reader (Option Mode)
in_mode = symbol kind.in_word >>= λ at. by_next (kind.out_word ∷ []) (symbol kind.out_word >> pure (Some (mode'.InOut at))) (pure (Some (mode'.In at)))

unfoldable pub out_mode : Reader (Option Mode)
out_mode = symbol kind.out_word >>= λ at. pure (Some (mode'.Out at))

unfoldable pub mode : Reader (Option Mode)
mode = by_next (kind.in_word ∷ []) in_mode (by_next (kind.out_word ∷ []) out_mode (pure None))

unfoldable pub formal : Reader Formal
formal = ids >>= λ ns. symbol kind.colon >> (mode >>= λ m. symbol kind.identifier >>= λ k. pure (record { names = ns; mode = m; mark = k }))

unfoldable pub next_formal : Reader Formal
next_formal = symbol kind.semicolon >> formal

unfoldable pub open_formals : Reader Formals
open_formals = symbol kind.open_round >>= λ b. formal >>= λ f. grown list_and [] (kind.semicolon ∷ []) next_formal >>= λ fs.
    symbol kind.close_round >> pure (record { bracket = b; first = f; more = fs })

unfoldable pub formals : ℕ → Reader Formals
formals zero = too_deep (kind.open_round ∷ [])
formals (suc n) = open_formals

unfoldable pub maybe_formals : ℕ → Reader (Option Formals)
maybe_formals n = by_next (kind.open_round ∷ []) (formals n >>= λ f. pure (Some f)) (pure None)

-- ---- arrays

unfoldable pub next_index : ℕ → Reader Range
next_index n = symbol kind.comma >> range (levels n)

unfoldable pub open_indexes : ℕ → Reader Indexes
open_indexes n = symbol kind.open_round >> (range (levels n) >>= λ r. grown list_and [] (kind.comma ∷ []) (next_index n) >>= λ rs.
    symbol kind.close_round >> pure (record { first = r; more = rs }))

-- the index ranges of an array in their brackets
unfoldable pub indexes : ℕ → Reader Indexes
indexes zero = too_deep (kind.open_round ∷ [])
indexes (suc n) = open_indexes n

module _ (n : ℕ) where
  unfoldable pub indic_from : ℕ → Reader Indic
  indic_from mark = by_next (kind.range_word ∷ []) (constraint (levels n) >>= λ b. pure (RangeMark mark b.0 b.1)) (pure (Mark mark))

  unfoldable pub indic : Reader Indic
  indic = symbol kind.identifier >>= indic_from

  unfoldable pub array : Reader Array
  array = symbol kind.array_word >>= λ at. indexes n >>= λ rs. symbol kind.of_word >> (indic >>= λ i. pure (record { at = at; first = rs.first; more = rs.more; component = i }))

  -- ---- types

  unfoldable pub comp : Reader Comp
  comp = ids >>= λ ns. symbol kind.colon >> (indic >>= λ i. symbol kind.semicolon >> pure (record { names = ns; component = i }))

  unfoldable pub record_type : Reader Definition
  record_type = symbol kind.record_word >> (comp >>= λ c. grown list_and [] (kind.identifier ∷ []) comp >>= λ cs.
      symbol kind.end_word >> (symbol kind.record_word >> pure (RecordType c cs)))

  unfoldable pub modular_type : Reader Definition
  modular_type = symbol kind.mod_word >> (simple (levels n) >>= λ m. pure (ModularType m))

  unfoldable pub definition : Reader Definition
  definition =
      by_next (kind.range_word ∷ []) (constraint (levels n) >>= λ b. pure (RangeType b.0 b.1))
      (by_next (kind.mod_word ∷ []) modular_type
      (by_next (kind.array_word ∷ []) (array >>= λ a. pure (ArrayType a))
      record_type))

  unfoldable pub type_decl : Reader Decl
  type_decl = symbol kind.type_word >>= λ at. symbol kind.identifier >>= λ m. symbol kind.is_word >> (definition >>= λ d. symbol kind.semicolon >> pure (TypeDecl at m d))

  unfoldable pub subtype_decl : Reader Decl
  subtype_decl = symbol kind.subtype_word >>= λ at. symbol kind.identifier >>= λ m. symbol kind.is_word >> (indic >>= λ i. symbol kind.semicolon >> pure (SubtypeDecl at m i))

  -- ---- objects, numbers and exceptions

  unfoldable pub object_type : Reader ObjectType
  object_type = by_next (kind.array_word ∷ []) (array >>= λ a. pure (Anonymous a)) (indic >>= λ i. pure (Indicated i))

  unfoldable pub initial : Reader (Option Expr)
  initial = by_next (kind.assign ∷ []) (symbol kind.assign >> (expr (levels n) >>= λ e. pure (Some e))) (pure None)

  -- an object, after its names, the colon and the token of `constant`
  unfoldable pub object : Ids → Option ℕ → Reader Decl
  object ns constant = object_type >>= λ t. initial >>= λ v. symbol kind.semicolon >> pure (ObjectDecl ns constant t v)

  unfoldable pub number : Ids → ℕ → Reader Decl
  number ns at = symbol kind.assign >> (expr (levels n) >>= λ e. symbol kind.semicolon >> pure (NumberDecl ns at e))

  unfoldable pub constant : Ids → Reader Decl
  constant ns = symbol kind.constant_word >>= λ at. by_next (kind.assign ∷ []) (number ns at) (object ns (Some at))

  unfoldable pub exception : Ids → Reader Decl
  exception ns = symbol kind.exception_word >> (symbol kind.semicolon >> pure (ExceptionDecl ns))

  -- a declaration, after its names and the colon
  unfoldable pub named_decl : Ids → Reader Decl
  named_decl ns =
      by_next (kind.exception_word ∷ []) (exception ns)
      (by_next (kind.constant_word ∷ []) (constant ns)
      (object ns None))

  unfoldable pub names_decl : Reader Decl
  names_decl = ids >>= λ ns. symbol kind.colon >> named_decl ns

  unfoldable pub decl : Reader Decl
  decl = by_next (kind.type_word ∷ []) type_decl (by_next (kind.subtype_word ∷ []) subtype_decl names_decl)

  unfoldable pub decls : Reader (List Decl)
  decls = grown list_and [] decl_kinds decl
