-- What forms make of their parts.
use Rattle.std.specs.Prelude.{ℕ, Option, Some}
use Rattle.syntax_tree.specs.Syntax as syntax
use Rattle.syntax_nodes.specs.Parts.{TreePart, OfToken, OfExpr, OfConjunct, OfRel, OfSimple, OfAdding, OfTerm, OfMultiplying, OfFactor, OfPrimary, OfElsif, OfName, OfNamePart, OfArg, OfRange, OfChoice, OfMany, OfAssoc, OfParallel, OfIter, OfValues, OfIds, OfIndic, OfArray, OfComp, OfDefinition, OfDecl, OfFormal, OfFormals, OfPack, OfDeclare, OfScheme, OfHandled, OfStmt, OfStmts, OfArm, OfAlt, OfBody, OfHandler, OfAspect, OfBracketed, OfImplementation, OfSub, OfPolicy, OfClause, OfMain, OfProgram, Values, Bracketed, Implementation, maybe_aspect, maybe_declare, maybe_expr, maybe_formals, maybe_pack, maybe_parallel, maybe_policy, maybe_scheme, maybe_simple, maybe_token, optional_expr, optional_parallel, optional_stmts, the_addings, the_alt, the_alts, the_arg, the_args, the_arms, the_assoc, the_assocs, the_body, the_bracketed, the_branches, the_choice, the_choice_list, the_choices, the_clauses, the_comp, the_comps, the_conjuncts, the_decls, the_definition, the_elsifs, the_expr, the_exprs, the_factor, the_formal, the_formal_list, the_handled, the_handlers, the_ids, the_implementation, the_indic, the_iter, the_main, the_many, the_more_stmts, the_multiplyings, the_name, the_object_type, the_pack, the_packs, the_parts, the_primary, the_range, the_ranges, the_rel, the_simple, the_stmt, the_stmts, the_term, the_tokens, the_units, the_values}
use Rattle.syntax_nodes.specs.declared.nodes.Leaf.{Leaf}
use Rattle.syntax_nodes.specs.declared.nodes.Leaf.TheVariants as leaf
use Rattle.syntax_nodes.specs.declared.nodes.One.{One}
use Rattle.syntax_nodes.specs.declared.nodes.One.TheVariants as one
use Rattle.syntax_nodes.specs.declared.nodes.Two.{Two}
use Rattle.syntax_nodes.specs.declared.nodes.Two.TheVariants as two
use Rattle.syntax_nodes.specs.declared.nodes.Three.{Three}
use Rattle.syntax_nodes.specs.declared.nodes.Three.TheVariants as three
use Rattle.syntax_nodes.specs.declared.nodes.Four.{Four}
use Rattle.syntax_nodes.specs.declared.nodes.Four.TheVariants as four

abbrev pub reduction : ℕ → Values → ℕ → syntax.Expr → syntax.Expr → syntax.Primary
reduction bracket v attribute reducer initial = syntax.Reduction bracket v.parallel v.at v.iter v.value attribute reducer initial

abbrev pub procedure : ℕ → ℕ → Option syntax.Formals → Option syntax.Aspect → Implementation → syntax.Sub
procedure at defined parameters aspect i = syntax.Procedure at defined parameters aspect i.decls i.body i.last_name

abbrev pub function : ℕ → ℕ → Option syntax.Formals → ℕ → Option syntax.Aspect → Implementation → syntax.Sub
function at defined parameters result aspect i = syntax.Function at defined parameters result aspect i.decls i.body i.last_name

abbrev pub expr_function : ℕ → ℕ → Option syntax.Formals → ℕ → Bracketed → Option syntax.Aspect → syntax.Sub
expr_function at defined parameters result v aspect = syntax.ExprFunction at defined parameters result v.bracket v.value aspect

abbrev pub value_leaf : Leaf → TreePart
value_leaf (leaf.Token at) = OfToken at
value_leaf (leaf.Number at) = OfPrimary (syntax.Number at)
value_leaf (leaf.Text at) = OfPrimary (syntax.Text at)
value_leaf (leaf.Target at) = OfPrimary (syntax.Target at)
value_leaf (leaf.Identifier at) = OfName (syntax.name at syntax.NoPart)
value_leaf (leaf.Field at) = OfNamePart (syntax.Field at)
value_leaf (leaf.Attribute at) = OfNamePart (syntax.Attribute at)
value_leaf (leaf.RangeAttribute at) = OfNamePart (syntax.RangeAttribute at)
value_leaf (leaf.Others at) = OfChoice (syntax.Others at)
value_leaf (leaf.Unchunked at) = OfParallel (syntax.Unchunked at)
value_leaf (leaf.Mark mark) = OfIndic (syntax.Mark mark)
value_leaf (leaf.AnyOther at) = OfHandled (syntax.AnyOther at)
value_leaf (leaf.Null at) = OfStmt (syntax.Null at)
value_leaf (leaf.Aspect at mark value) = OfAspect (record { at = at; mark = mark; value = value })
value_leaf (leaf.Policy at mark policy) = OfPolicy (record { at = at; mark = mark; policy = policy })

abbrev pub value_one : One → TreePart → TreePart
value_one (one.Conjunct at) a = OfConjunct (syntax.conjunct at (the_rel a))
value_one (one.OfMark negation at mark) a = OfRel (syntax.OfMark (the_simple a) negation at mark)
value_one (one.Adding by at) a = OfAdding (syntax.adding by at (the_term a))
value_one (one.Multiplying by at) a = OfMultiplying (syntax.multiplying by at (the_factor a))
value_one (one.Abs at) a = OfFactor (syntax.Abs at (the_primary a))
value_one (one.Not at) a = OfFactor (syntax.Not at (the_primary a))
value_one (one.Group bracket) a = OfPrimary (syntax.Group bracket (the_expr a))
value_one (one.Round bracket) a = OfPrimary (syntax.Round bracket (the_many a))
value_one (one.Square bracket) a = OfPrimary (syntax.Square bracket (the_many a))
value_one (one.OneValue bracket) a = OfPrimary (syntax.OneValue bracket (the_expr a))
value_one (one.Name first) a = OfName (syntax.name first (the_parts a))
value_one (one.NamedArg formal) a = OfArg (syntax.arg (Some formal) (the_expr a))
value_one (one.Counted at) a = OfParallel (syntax.Counted at (the_simple a))
value_one (one.Chunked at index) a = OfParallel (syntax.Chunked at index (the_range a))
value_one (one.Ids first) a = OfIds (record { first = first; more = the_tokens a })
value_one one.ExceptionDecl a = OfDecl (syntax.ExceptionDecl (the_ids a))
value_one (one.TypeDecl at defined) a = OfDecl (syntax.TypeDecl at defined (the_definition a))
value_one (one.SubtypeDecl at defined) a = OfDecl (syntax.SubtypeDecl at defined (the_indic a))
value_one (one.Formal mode mark) a = OfFormal (record { names = the_ids a; mode = mode; mark = mark })
value_one (one.Pack first) a = OfPack (record { first = first; more = the_tokens a })
value_one (one.Declare at) a = OfDeclare (record { at = at; decls = the_decls a })
value_one (one.While at) a = OfScheme (syntax.While at (the_expr a))
value_one one.CallStmt a = OfStmt (syntax.CallStmt (the_name a))
value_one (one.Exit at from) a = OfStmt (syntax.Exit at from (maybe_expr a))
value_one one.ModularType a = OfDefinition (syntax.ModularType (the_simple a))
value_one (one.Return at) a = OfStmt (syntax.Return at (maybe_expr a))
value_one (one.Raise at) a = OfStmt (syntax.Raise at (maybe_pack a))
value_one (one.Bracketed bracket) a = OfBracketed (record { bracket = bracket; value = the_expr a })

abbrev pub value_two : Two → TreePart → TreePart → TreePart
value_two (two.Compared by at) b a = OfRel (syntax.Compared (the_simple b) by at (the_simple a))
value_two (two.Sum sign) b a = OfSimple (syntax.Sum sign (the_term b) (the_addings a))
value_two two.Product b a = OfTerm (syntax.Product (the_factor b) (the_multiplyings a))
value_two (two.Power at) b a = OfFactor (syntax.Power (the_primary b) at (the_primary a))
value_two (two.Elsif at) b a = OfElsif (syntax.elsif at (the_expr b) (the_expr a))
value_two (two.Call bracket) b a = OfNamePart (syntax.Call bracket (the_arg b) (the_args a))
value_two two.Bounded b a = OfRange (syntax.Bounded (the_simple b) (the_simple a))
value_two two.Span b a = OfChoice (syntax.Span (the_simple b) (the_simple a))
value_two (two.FirstOthers at) b a = OfMany (syntax.FirstOthers (the_expr b) at (the_expr a))
value_two two.Associations b a = OfMany (syntax.Associations (the_assoc b) (the_assocs a))
value_two (two.Each at index) b a = OfAssoc (syntax.Each at index (the_range b) (the_expr a))
value_two (two.InRange index reverse) b a = OfIter (syntax.InRange index reverse (the_range b) (optional_expr a))
value_two (two.OfName item) b a = OfIter (syntax.OfName item (the_name b) (optional_expr a))
value_two (two.RangeMark mark) b a = OfIndic (syntax.RangeMark mark (the_simple b) (the_simple a))
value_two two.Comp b a = OfComp (record { names = the_ids b; component = the_indic a })
value_two two.RangeType b a = OfDefinition (syntax.RangeType (the_simple b) (the_simple a))
value_two two.RecordType b a = OfDefinition (syntax.RecordType (the_comp b) (the_comps a))
value_two (two.NumberDecl at) b a = OfDecl (syntax.NumberDecl (the_ids b) at (the_expr a))
value_two (two.Formals bracket) b a = OfFormals (record { bracket = bracket; first = the_formal b; more = the_formal_list a })
value_two (two.For at) b a = OfScheme (syntax.For (maybe_parallel b) at (the_iter a))
value_two two.These b a = OfHandled (syntax.These (the_pack b) (the_packs a))
value_two two.Assign b a = OfStmt (syntax.Assign (the_name b) (the_expr a))
value_two (two.Block at) b a = OfStmt (syntax.Block (maybe_declare b) at (the_body a))
value_two two.Stmts b a = OfStmts (syntax.stmts (the_stmt b) (the_more_stmts a))
value_two (two.Arm at) b a = OfArm (syntax.arm at (the_expr b) (the_stmts a))
value_two two.Body b a = OfBody (syntax.body (the_stmts b) (the_handlers a))
value_two (two.Handler at) b a = OfHandler (syntax.handler at (the_handled b) (the_stmts a))
value_two (two.Implementation last_name) b a = OfImplementation (record { decls = the_decls b; body = the_body a; last_name = last_name })
value_two (two.Clause word at) b a = OfClause (record { at = at; word = word; first = the_pack b; more = the_packs a })

abbrev pub value_three : Three → TreePart → TreePart → TreePart → TreePart
value_three (three.Joined by at) c b a = OfExpr (syntax.Joined by (the_rel c) at (the_rel b) (the_conjuncts a))
value_three (three.Within negation at) c b a = OfRel (syntax.Within (the_simple c) negation at (the_simple b) (the_simple a))
value_three (three.Values at) c b a = OfValues (record { parallel = optional_parallel c; at = at; iter = the_iter b; value = the_expr a })
value_three (three.Reduction bracket attribute) c b a = OfPrimary (reduction bracket (the_values c) attribute (the_expr b) (the_expr a))
value_three three.Constrained c b a = OfRange (syntax.Constrained (the_name c) (the_simple b) (the_simple a))
value_three three.Positions c b a = OfMany (syntax.Positions (the_expr c) (the_expr b) (the_exprs a))
value_three three.Chosen c b a = OfAssoc (syntax.Chosen (the_choice c) (the_choices b) (the_expr a))
value_three (three.Array at) c b a = OfArray (record { at = at; first = the_range c; more = the_ranges b; component = the_indic a })
value_three (three.ObjectDecl constant) c b a = OfDecl (syntax.ObjectDecl (the_ids c) constant (the_object_type b) (maybe_expr a))
value_three (three.Case at) c b a = OfStmt (syntax.Case at (the_expr c) (the_alt b) (the_alts a))
value_three (three.Alt at) c b a = OfAlt (syntax.alt at (the_choice c) (the_choice_list b) (the_stmts a))
value_three (three.Procedure at defined) c b a = OfSub (procedure at defined (maybe_formals c) (maybe_aspect b) (the_implementation a))
value_three (three.Function at defined result_mark) c b a = OfSub (function at defined (maybe_formals c) result_mark (maybe_aspect b) (the_implementation a))
value_three (three.ExprFunction at defined result_mark) c b a = OfSub (expr_function at defined (maybe_formals c) result_mark (the_bracketed b) (maybe_aspect a))
value_three three.Program c b a = OfProgram (record { policy = maybe_policy c; clauses = the_clauses b; main = the_main a })

abbrev pub value_four : Four → TreePart → TreePart → TreePart → TreePart → TreePart
value_four (four.If bracket at) d c b a = OfPrimary (syntax.If bracket at (the_expr d) (the_expr c) (the_elsifs b) (the_expr a))
value_four (four.PositionsOthers at) d c b a = OfMany (syntax.PositionsOthers (the_expr d) (the_expr c) (the_exprs b) at (the_expr a))
value_four (four.IfStmt at) d c b a = OfStmt (syntax.IfStmt at (the_expr d) (the_stmts c) (the_arms b) (optional_stmts a))
value_four (four.Loop at last) d c b a = OfStmt (syntax.Loop (maybe_token d) (maybe_scheme c) at (the_stmts b) last (maybe_token a))
value_four (four.ParallelBlock at) d c b a = OfStmt (syntax.ParallelBlock at (maybe_simple d) (the_stmts c) (the_stmts b) (the_branches a))
value_four (four.Main at defined) d c b a = OfMain (record { at = at; defined = defined; aspect = maybe_aspect d; units = the_units c; body = the_body b; last_name = maybe_token a })
