-- What views stand for, where the numbers of parts stand for these.
use Rattle.std.specs.Prelude.{ℕ, Option, Some, None}
use Rattle.syntax_tree.specs.Syntax as syntax
use Rattle.syntax_nodes.specs.Parts as parts
use Rattle.syntax_nodes.specs.Parts.{TreePart, the_addings, the_alt, the_alts, the_arg, the_args, the_arms, the_array, the_aspect, the_assoc, the_assocs, the_body, the_bracketed, the_branches, the_choice, the_choice_list, the_choices, the_clauses, the_comp, the_comps, the_conjuncts, the_decl, the_declare, the_decls, the_definition, the_elsifs, the_expr, the_exprs, the_factor, the_formal, the_formal_list, the_formals, the_handled, the_handlers, the_ids, the_implementation, the_indic, the_iter, the_main, the_many, the_more_stmts, the_multiplyings, the_name, the_object_type, the_pack, the_packs, the_parallel, the_parts, the_policy, the_primary, the_range, the_ranges, the_rel, the_scheme, the_simple, the_stmt, the_stmts, the_sub, the_term, the_tokens, the_units, the_values}
use Rattle.syntax_nodes.specs.Values as value
use Rattle.syntax_nodes.specs.declared.expressions.Expr.{Expr}
use Rattle.syntax_nodes.specs.declared.expressions.Expr.TheVariants as expr'
use Rattle.syntax_nodes.specs.declared.expressions.Conjunct.{Conjunct}
use Rattle.syntax_nodes.specs.declared.expressions.Rel.{Rel}
use Rattle.syntax_nodes.specs.declared.expressions.Rel.TheVariants as rel'
use Rattle.syntax_nodes.specs.declared.expressions.Simple.{Simple}
use Rattle.syntax_nodes.specs.declared.expressions.Adding.{Adding}
use Rattle.syntax_nodes.specs.declared.expressions.Term.{Term}
use Rattle.syntax_nodes.specs.declared.expressions.Multiplying.{Multiplying}
use Rattle.syntax_nodes.specs.declared.expressions.Factor.{Factor}
use Rattle.syntax_nodes.specs.declared.expressions.Factor.TheVariants as factor'
use Rattle.syntax_nodes.specs.declared.expressions.Primary.{Primary}
use Rattle.syntax_nodes.specs.declared.expressions.Primary.TheVariants as primary'
use Rattle.syntax_nodes.specs.declared.expressions.Values.{Values}
use Rattle.syntax_nodes.specs.declared.expressions.Elsif.{Elsif}
use Rattle.syntax_nodes.specs.declared.names.Name.{Name}
use Rattle.syntax_nodes.specs.declared.names.NamePart.{NamePart}
use Rattle.syntax_nodes.specs.declared.names.NamePart.TheVariants as name_part'
use Rattle.syntax_nodes.specs.declared.names.Arg.{Arg}
use Rattle.syntax_nodes.specs.declared.names.Range.{Range}
use Rattle.syntax_nodes.specs.declared.names.Range.TheVariants as range'
use Rattle.syntax_nodes.specs.declared.names.Choice.{Choice}
use Rattle.syntax_nodes.specs.declared.names.Choice.TheVariants as choice'
use Rattle.syntax_nodes.specs.declared.names.Many.{Many}
use Rattle.syntax_nodes.specs.declared.names.Many.TheVariants as many'
use Rattle.syntax_nodes.specs.declared.names.Assoc.{Assoc}
use Rattle.syntax_nodes.specs.declared.names.Assoc.TheVariants as assoc'
use Rattle.syntax_nodes.specs.declared.names.Parallel.{Parallel}
use Rattle.syntax_nodes.specs.declared.names.Parallel.TheVariants as parallel'
use Rattle.syntax_nodes.specs.declared.names.Iter.{Iter}
use Rattle.syntax_nodes.specs.declared.names.Iter.TheVariants as iter'
use Rattle.syntax_nodes.specs.declared.declarations.Ids.{Ids}
use Rattle.syntax_nodes.specs.declared.declarations.Indic.{Indic}
use Rattle.syntax_nodes.specs.declared.declarations.Indic.TheVariants as indic'
use Rattle.syntax_nodes.specs.declared.declarations.Array.{Array}
use Rattle.syntax_nodes.specs.declared.declarations.Comp.{Comp}
use Rattle.syntax_nodes.specs.declared.declarations.ObjectType.{ObjectType}
use Rattle.syntax_nodes.specs.declared.declarations.ObjectType.TheVariants as object_type'
use Rattle.syntax_nodes.specs.declared.declarations.Definition.{Definition}
use Rattle.syntax_nodes.specs.declared.declarations.Definition.TheVariants as definition'
use Rattle.syntax_nodes.specs.declared.declarations.Decl.{Decl}
use Rattle.syntax_nodes.specs.declared.declarations.Decl.TheVariants as decl'
use Rattle.syntax_nodes.specs.declared.declarations.Formal.{Formal}
use Rattle.syntax_nodes.specs.declared.declarations.Formals.{Formals}
use Rattle.syntax_nodes.specs.declared.statements.Pack.{Pack}
use Rattle.syntax_nodes.specs.declared.statements.Declare.{Declare}
use Rattle.syntax_nodes.specs.declared.statements.Scheme.{Scheme}
use Rattle.syntax_nodes.specs.declared.statements.Scheme.TheVariants as scheme'
use Rattle.syntax_nodes.specs.declared.statements.Handled.{Handled}
use Rattle.syntax_nodes.specs.declared.statements.Handled.TheVariants as handled'
use Rattle.syntax_nodes.specs.declared.statements.Stmts.{Stmts}
use Rattle.syntax_nodes.specs.declared.statements.Stmt.{Stmt}
use Rattle.syntax_nodes.specs.declared.statements.Stmt.TheVariants as stmt'
use Rattle.syntax_nodes.specs.declared.statements.Arm.{Arm}
use Rattle.syntax_nodes.specs.declared.statements.Alt.{Alt}
use Rattle.syntax_nodes.specs.declared.statements.Body.{Body}
use Rattle.syntax_nodes.specs.declared.statements.Handler.{Handler}
use Rattle.syntax_nodes.specs.declared.units.Aspect.{Aspect}
use Rattle.syntax_nodes.specs.declared.units.Bracketed.{Bracketed}
use Rattle.syntax_nodes.specs.declared.units.Implementation.{Implementation}
use Rattle.syntax_nodes.specs.declared.units.Sub.{Sub}
use Rattle.syntax_nodes.specs.declared.units.Sub.TheVariants as sub'
use Rattle.syntax_nodes.specs.declared.units.Unit.{Unit as UnitView}
use Rattle.syntax_nodes.specs.declared.units.Unit.TheVariants as unit'
use Rattle.syntax_nodes.specs.declared.units.Policy.{Policy}
use Rattle.syntax_nodes.specs.declared.units.Clause.{Clause}
use Rattle.syntax_nodes.specs.declared.units.Main.{Main}
use Rattle.syntax_nodes.specs.declared.units.Program.{Program}

-- a part that may be left out
abbrev pub optional : {A : Type 0} → (ℕ → TreePart) → (TreePart → A) → Option ℕ → Option A
optional at the None = None
optional at the (Some n) = Some (the (at n))

abbrev pub optional_expr : (ℕ → TreePart) → Option ℕ → syntax.OptionalExpr
optional_expr at None = syntax.AbsentExpr
optional_expr at (Some n) = syntax.PresentExpr (the_expr (at n))

abbrev pub optional_parallel : (ℕ → TreePart) → Option ℕ → syntax.OptionalParallel
optional_parallel at None = syntax.AbsentParallel
optional_parallel at (Some n) = syntax.PresentParallel (the_parallel (at n))

abbrev pub optional_stmts : (ℕ → TreePart) → Option ℕ → syntax.OptionalStmts
optional_stmts at None = syntax.AbsentStmts
optional_stmts at (Some n) = syntax.PresentStmts (the_stmts (at n))

abbrev pub of_expr : (ℕ → TreePart) → Expr → syntax.Expr
of_expr at (expr'.Single n) = syntax.Single (the_rel (at n))
of_expr at (expr'.Joined by first n second more) = syntax.Joined by (the_rel (at first)) n (the_rel (at second)) (the_conjuncts (at more))

abbrev pub of_conjunct : (ℕ → TreePart) → Conjunct → syntax.Conjunct
of_conjunct at v = syntax.conjunct v.at (the_rel (at v.rel))

abbrev pub of_rel : (ℕ → TreePart) → Rel → syntax.Rel
of_rel at (rel'.Alone n) = syntax.Alone (the_simple (at n))
of_rel at (rel'.Compared left by n right) = syntax.Compared (the_simple (at left)) by n (the_simple (at right))
of_rel at (rel'.Within v negation n low high) = syntax.Within (the_simple (at v)) negation n (the_simple (at low)) (the_simple (at high))
of_rel at (rel'.OfMark v negation n mark) = syntax.OfMark (the_simple (at v)) negation n mark

abbrev pub of_simple : (ℕ → TreePart) → Simple → syntax.Simple
of_simple at v = syntax.Sum v.sign (the_term (at v.first)) (the_addings (at v.more))

abbrev pub of_adding : (ℕ → TreePart) → Adding → syntax.Adding
of_adding at v = syntax.adding v.by v.at (the_term (at v.term))

abbrev pub of_term : (ℕ → TreePart) → Term → syntax.Term
of_term at v = syntax.Product (the_factor (at v.first)) (the_multiplyings (at v.more))

abbrev pub of_multiplying : (ℕ → TreePart) → Multiplying → syntax.Multiplying
of_multiplying at v = syntax.multiplying v.by v.at (the_factor (at v.factor))

abbrev pub of_factor : (ℕ → TreePart) → Factor → syntax.Factor
of_factor at (factor'.Operand n) = syntax.Operand (the_primary (at n))
of_factor at (factor'.Power base n exponent) = syntax.Power (the_primary (at base)) n (the_primary (at exponent))
of_factor at (factor'.Abs n operand) = syntax.Abs n (the_primary (at operand))
of_factor at (factor'.Not n operand) = syntax.Not n (the_primary (at operand))

abbrev pub of_primary : (ℕ → TreePart) → Primary → syntax.Primary
of_primary at (primary'.Named n) = syntax.Named (the_name (at n))
of_primary at (primary'.Number n) = syntax.Number n
of_primary at (primary'.Text n) = syntax.Text n
of_primary at (primary'.Target n) = syntax.Target n
of_primary at (primary'.Group bracket expr) = syntax.Group bracket (the_expr (at expr))
of_primary at (primary'.If bracket n condition v more otherwise) = syntax.If bracket n (the_expr (at condition)) (the_expr (at v)) (the_elsifs (at more)) (the_expr (at otherwise))
of_primary at (primary'.Round bracket many) = syntax.Round bracket (the_many (at many))
of_primary at (primary'.Square bracket many) = syntax.Square bracket (the_many (at many))
of_primary at (primary'.OneValue bracket v) = syntax.OneValue bracket (the_expr (at v))
of_primary at (primary'.Reduction bracket values attribute reducer initial) = value.reduction bracket (the_values (at values)) attribute (the_expr (at reducer)) (the_expr (at initial))

abbrev pub of_values : (ℕ → TreePart) → Values → parts.Values
of_values at v = record { parallel = (optional_parallel at v.parallel); at = v.at; iter = (the_iter (at v.iter)); value = (the_expr (at v.value)) }

abbrev pub of_elsif : (ℕ → TreePart) → Elsif → syntax.Elsif
of_elsif at v = syntax.elsif v.at (the_expr (at v.condition)) (the_expr (at v.value))

abbrev pub of_name : (ℕ → TreePart) → Name → syntax.Name
of_name at v = syntax.name v.first (the_parts (at v.parts))

abbrev pub of_name_part : (ℕ → TreePart) → NamePart → syntax.NamePart
of_name_part at (name_part'.Field n) = syntax.Field n
of_name_part at (name_part'.Call bracket first more) = syntax.Call bracket (the_arg (at first)) (the_args (at more))
of_name_part at (name_part'.Attribute n) = syntax.Attribute n
of_name_part at (name_part'.RangeAttribute n) = syntax.RangeAttribute n

abbrev pub of_arg : (ℕ → TreePart) → Arg → syntax.Arg
of_arg at v = syntax.arg v.formal (the_expr (at v.value))

abbrev pub of_range : (ℕ → TreePart) → Range → syntax.Range
of_range at (range'.Whole n) = syntax.Whole (the_name (at n))
of_range at (range'.Bounded low high) = syntax.Bounded (the_simple (at low)) (the_simple (at high))
of_range at (range'.Constrained m low high) = syntax.Constrained (the_name (at m)) (the_simple (at low)) (the_simple (at high))

abbrev pub of_choice : (ℕ → TreePart) → Choice → syntax.Choice
of_choice at (choice'.Value n) = syntax.Value (the_simple (at n))
of_choice at (choice'.Span low high) = syntax.Span (the_simple (at low)) (the_simple (at high))
of_choice at (choice'.Others n) = syntax.Others n

abbrev pub of_many : (ℕ → TreePart) → Many → syntax.Many
of_many at (many'.Positions first second more) = syntax.Positions (the_expr (at first)) (the_expr (at second)) (the_exprs (at more))
of_many at (many'.PositionsOthers first second more n others) = syntax.PositionsOthers (the_expr (at first)) (the_expr (at second)) (the_exprs (at more)) n (the_expr (at others))
of_many at (many'.FirstOthers first n others) = syntax.FirstOthers (the_expr (at first)) n (the_expr (at others))
of_many at (many'.Associations first more) = syntax.Associations (the_assoc (at first)) (the_assocs (at more))

abbrev pub of_assoc : (ℕ → TreePart) → Assoc → syntax.Assoc
of_assoc at (assoc'.Chosen first more v) = syntax.Chosen (the_choice (at first)) (the_choices (at more)) (the_expr (at v))
of_assoc at (assoc'.Each n index r v) = syntax.Each n index (the_range (at r)) (the_expr (at v))

abbrev pub of_parallel : (ℕ → TreePart) → Parallel → syntax.Parallel
of_parallel at (parallel'.Unchunked n) = syntax.Unchunked n
of_parallel at (parallel'.Counted n count) = syntax.Counted n (the_simple (at count))
of_parallel at (parallel'.Chunked n index r) = syntax.Chunked n index (the_range (at r))

abbrev pub of_iter : (ℕ → TreePart) → Iter → syntax.Iter
of_iter at (iter'.InRange index reverse r filter) = syntax.InRange index reverse (the_range (at r)) (optional_expr at filter)
of_iter at (iter'.OfName item m filter) = syntax.OfName item (the_name (at m)) (optional_expr at filter)

abbrev pub of_ids : (ℕ → TreePart) → Ids → syntax.Ids
of_ids at v = record { first = v.first; more = (the_tokens (at v.more)) }

abbrev pub of_indic : (ℕ → TreePart) → Indic → syntax.Indic
of_indic at (indic'.Mark mark) = syntax.Mark mark
of_indic at (indic'.RangeMark mark low high) = syntax.RangeMark mark (the_simple (at low)) (the_simple (at high))

abbrev pub of_array : (ℕ → TreePart) → Array → syntax.Array
of_array at v = record { at = v.at; first = (the_range (at v.first)); more = (the_ranges (at v.more)); component = (the_indic (at v.component)) }

abbrev pub of_comp : (ℕ → TreePart) → Comp → syntax.Comp
of_comp at v = record { names = (the_ids (at v.names)); component = (the_indic (at v.component)) }

abbrev pub of_object_type : (ℕ → TreePart) → ObjectType → syntax.ObjectType
of_object_type at (object_type'.Indicated n) = syntax.Indicated (the_indic (at n))
of_object_type at (object_type'.Anonymous n) = syntax.Anonymous (the_array (at n))

abbrev pub of_definition : (ℕ → TreePart) → Definition → syntax.Definition
of_definition at (definition'.ArrayType n) = syntax.ArrayType (the_array (at n))
of_definition at (definition'.RangeType low high) = syntax.RangeType (the_simple (at low)) (the_simple (at high))
of_definition at (definition'.ModularType n) = syntax.ModularType (the_simple (at n))
of_definition at (definition'.RecordType first more) = syntax.RecordType (the_comp (at first)) (the_comps (at more))

abbrev pub of_decl : (ℕ → TreePart) → Decl → syntax.Decl
of_decl at (decl'.ObjectDecl names constant object_type v) = syntax.ObjectDecl (the_ids (at names)) constant (the_object_type (at object_type)) (optional at the_expr v)
of_decl at (decl'.NumberDecl names n v) = syntax.NumberDecl (the_ids (at names)) n (the_expr (at v))
of_decl at (decl'.ExceptionDecl names) = syntax.ExceptionDecl (the_ids (at names))
of_decl at (decl'.TypeDecl n defined definition) = syntax.TypeDecl n defined (the_definition (at definition))
of_decl at (decl'.SubtypeDecl n defined indic) = syntax.SubtypeDecl n defined (the_indic (at indic))

abbrev pub of_formal : (ℕ → TreePart) → Formal → syntax.Formal
of_formal at v = record { names = (the_ids (at v.names)); mode = v.mode; mark = v.mark }

abbrev pub of_formals : (ℕ → TreePart) → Formals → syntax.Formals
of_formals at v = record { bracket = v.bracket; first = (the_formal (at v.first)); more = (the_formal_list (at v.more)) }

abbrev pub of_pack : (ℕ → TreePart) → Pack → syntax.Pack
of_pack at v = record { first = v.first; more = (the_tokens (at v.more)) }

abbrev pub of_declare : (ℕ → TreePart) → Declare → syntax.Declare
of_declare at v = record { at = v.at; decls = (the_decls (at v.decls)) }

abbrev pub of_scheme : (ℕ → TreePart) → Scheme → syntax.Scheme
of_scheme at (scheme'.While n condition) = syntax.While n (the_expr (at condition))
of_scheme at (scheme'.For parallel n iter) = syntax.For (optional at the_parallel parallel) n (the_iter (at iter))

abbrev pub of_handled : (ℕ → TreePart) → Handled → syntax.Handled
of_handled at (handled'.AnyOther n) = syntax.AnyOther n
of_handled at (handled'.These first more) = syntax.These (the_pack (at first)) (the_packs (at more))

abbrev pub of_stmts : (ℕ → TreePart) → Stmts → syntax.Stmts
of_stmts at v = syntax.stmts (the_stmt (at v.first)) (the_more_stmts (at v.more))

abbrev pub of_stmt : (ℕ → TreePart) → Stmt → syntax.Stmt
of_stmt at (stmt'.Null n) = syntax.Null n
of_stmt at (stmt'.Assign target v) = syntax.Assign (the_name (at target)) (the_expr (at v))
of_stmt at (stmt'.CallStmt m) = syntax.CallStmt (the_name (at m))
of_stmt at (stmt'.Exit n from condition) = syntax.Exit n from (optional at the_expr condition)
of_stmt at (stmt'.Return n v) = syntax.Return n (optional at the_expr v)
of_stmt at (stmt'.Raise n exception) = syntax.Raise n (optional at the_pack exception)
of_stmt at (stmt'.IfStmt n condition stmts more otherwise) = syntax.IfStmt n (the_expr (at condition)) (the_stmts (at stmts)) (the_arms (at more)) (optional_stmts at otherwise)
of_stmt at (stmt'.Case n v first more) = syntax.Case n (the_expr (at v)) (the_alt (at first)) (the_alts (at more))
of_stmt at (stmt'.Loop label scheme n stmts last last_name) = syntax.Loop label (optional at the_scheme scheme) n (the_stmts (at stmts)) last last_name
of_stmt at (stmt'.Block declare n body) = syntax.Block (optional at the_declare declare) n (the_body (at body))
of_stmt at (stmt'.ParallelBlock n count first second more) = syntax.ParallelBlock n (optional at the_simple count) (the_stmts (at first)) (the_stmts (at second)) (the_branches (at more))

abbrev pub of_arm : (ℕ → TreePart) → Arm → syntax.Arm
of_arm at v = syntax.arm v.at (the_expr (at v.condition)) (the_stmts (at v.stmts))

abbrev pub of_alt : (ℕ → TreePart) → Alt → syntax.Alt
of_alt at v = syntax.alt v.at (the_choice (at v.first)) (the_choice_list (at v.more)) (the_stmts (at v.stmts))

abbrev pub of_body : (ℕ → TreePart) → Body → syntax.Body
of_body at v = syntax.body (the_stmts (at v.stmts)) (the_handlers (at v.handlers))

abbrev pub of_handler : (ℕ → TreePart) → Handler → syntax.Handler
of_handler at v = syntax.handler v.at (the_handled (at v.handled)) (the_stmts (at v.stmts))

abbrev pub of_aspect : (ℕ → TreePart) → Aspect → syntax.Aspect
of_aspect at v = record { at = v.at; mark = v.mark; value = v.value }

abbrev pub of_bracketed : (ℕ → TreePart) → Bracketed → parts.Bracketed
of_bracketed at v = record { bracket = v.bracket; value = (the_expr (at v.value)) }

abbrev pub of_implementation : (ℕ → TreePart) → Implementation → parts.Implementation
of_implementation at v = record { decls = (the_decls (at v.decls)); body = (the_body (at v.body)); last_name = v.last_name }

abbrev pub of_sub : (ℕ → TreePart) → Sub → syntax.Sub
of_sub at (sub'.Procedure n defined formals aspect implementation) = value.procedure n defined (optional at the_formals formals) (optional at the_aspect aspect) (the_implementation (at implementation))
of_sub at (sub'.Function n defined formals result_mark aspect implementation) = value.function n defined (optional at the_formals formals) result_mark (optional at the_aspect aspect) (the_implementation (at implementation))
of_sub at (sub'.ExprFunction n defined formals result_mark bracketed aspect) = value.expr_function n defined (optional at the_formals formals) result_mark (the_bracketed (at bracketed)) (optional at the_aspect aspect)

abbrev pub of_unit : (ℕ → TreePart) → UnitView → syntax.Unit'
of_unit at (unit'.Decl n) = syntax.DeclUnit (the_decl (at n))
of_unit at (unit'.Sub n) = syntax.SubUnit (the_sub (at n))

abbrev pub of_policy : (ℕ → TreePart) → Policy → syntax.Policy
of_policy at v = record { at = v.at; mark = v.mark; policy = v.policy }

abbrev pub of_clause : (ℕ → TreePart) → Clause → syntax.Clause
of_clause at v = record { at = v.at; word = v.word; first = (the_pack (at v.first)); more = (the_packs (at v.more)) }

abbrev pub of_main : (ℕ → TreePart) → Main → syntax.Main
of_main at v = record { at = v.at; defined = v.defined; aspect = (optional at the_aspect v.aspect); units = (the_units (at v.units)); body = (the_body (at v.body)); last_name = v.last_name }

abbrev pub of_program : (ℕ → TreePart) → Program → syntax.Program
of_program at v = record { policy = (optional at the_policy v.policy); clauses = (the_clauses (at v.clauses)); main = (the_main (at v.main)) }
