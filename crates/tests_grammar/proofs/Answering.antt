-- The answer of the reader of programs to an example: what is to be computed, and what follows from it.
use Rattle.std.proofs.Common.{◌≡◌, ℕ, List, [], ◌∷◌, length, map, Bool, true, false, Option, Some, None, subst}
use Rattle.std.specs.Prelude.{All}
use Rattle.std.proofs.lemmas.List.Elements.{All-nil, All-cons}
use Rattle.ada_base.specs.Symbols.{Symbol, numbered}
use Rattle.syntax_readers.specs.Readers.{Answer, Found, Refused, TooDeep}
use Rattle.syntax_readers.specs.Verdicts.{RightAnswer}
use Rattle.syntax_tree.specs.Grammar.{IsFirstFault, ProgramWords}
use Rattle.syntax_tree.specs.Joining as joining
use Rattle.syntax_tree.specs.Syntax.{Program}
use Rattle.syntax_laws.proofs.Bares.{some_is, none_is}
use Rattle.syntax_laws.proofs.Units.{right}
use Rattle.syntax_grammar.specs.Brackets as bracket
use Rattle.syntax_grammar.specs.Declarations as declaration
use Rattle.syntax_grammar.specs.Expressions as expression
use Rattle.syntax_grammar.specs.Levels as level
use Rattle.syntax_grammar.specs.Statements as statement
use Rattle.syntax_grammar.specs.Units as unit
use Rattle.tests_grammar.specs.Depths.{DepthRow, IsTooDeepAt, IsReadWithin}
use Rattle.tests_grammar.specs.Examples.{IsDerived, IsMissed}
use Rattle.tests_grammar.specs.Rows.{Example, changed}

-- ---- all that an answer is computed with: the readers of each page

bare_parts : Unit {0}
unfolding joining.bare_name joining.bare_identifier joining.expr_identifier
bare_parts = tt

bracket_parts : Unit {0}
unfolding bracket.others_choice bracket.reversed bracket.constraint bracket.named_range bracket.range_from bracket.range bracket.arrow_value bracket.named_arg bracket.arg bracket.next_arg bracket.more_args bracket.call bracket.choice_from bracket.choice bracket.next_choice bracket.more_choices bracket.chosen bracket.each bracket.assoc bracket.next_assoc bracket.more_assocs bracket.assocs_from bracket.first_others bracket.position_others bracket.positions_for bracket.positions bracket.positions_from bracket.inside_choice bracket.inside_expr bracket.inside_simple bracket.inside bracket.then_value bracket.next_elsif bracket.elsifs bracket.else_value bracket.if_expr bracket.each_and_more bracket.round_inside bracket.round bracket.filter bracket.iter_of bracket.iter_in bracket.iter bracket.parallel bracket.chunk_in bracket.chunk_from bracket.chunk bracket.reduction bracket.each_end bracket.values_end bracket.values_from bracket.values bracket.square_inside bracket.square
bracket_parts = tt

declaration_parts : Unit {0}
unfolding declaration.next_identifier declaration.ids declaration.in_mode declaration.out_mode declaration.mode declaration.formal declaration.next_formal declaration.open_formals declaration.formals declaration.maybe_formals declaration.next_index declaration.open_indexes declaration.indexes declaration.indic_from declaration.indic declaration.array declaration.comp declaration.record_type declaration.modular_type declaration.definition declaration.type_decl declaration.subtype_decl declaration.object_type declaration.initial declaration.object declaration.number declaration.constant declaration.exception declaration.named_decl declaration.names_decl declaration.decl declaration.decls
declaration_parts = tt

expression_parts : Unit {0}
unfolding expression.sign expression.multiplying_operator expression.adding_operator expression.comparison expression.part expression.name expression.primary expression.factor expression.multiplied expression.term expression.added expression.addings expression.signed expression.simple expression.upper_bound expression.within expression.rel_from expression.rel expression.conjoined expression.conjunct expression.short_conjunct expression.joined expression.after_and expression.after_or expression.expr_from expression.expr
expression_parts = tt

level_parts : Unit {0}
unfolding level.levels
level_parts = tt

statement_parts : Unit {0}
unfolding statement.next_name statement.pack statement.next_exception statement.handled statement.maybe_identifier statement.closing statement.null statement.raise_from statement.raise statement.loop_end statement.exit statement.return_from statement.return statement.assigned statement.stmts statement.then_stmts statement.arrow_stmts statement.and_stmts statement.handler statement.handlers statement.body statement.arm statement.arms statement.otherwise statement.conditional statement.more_choices statement.alt statement.more_alts statement.selection statement.loop_from statement.while_from statement.for_from statement.labelled statement.block_from statement.declaring statement.branches statement.do_from statement.chunked_from statement.parallel_from statement.parallel_stmt statement.named_from statement.named statement.compound statement.open_stmt statement.stmt
statement_parts = tt

unit_parts : Unit {0}
unfolding unit.open_policy_name unit.policy_name unit.policy unit.maybe_policy unit.clause_word unit.next_pack unit.clause unit.clauses unit.aspect_value unit.aspect unit.maybe_aspect unit.open_value unit.function_value unit.ended unit.procedure_is unit.procedure unit.function_body unit.expression_function unit.function_from unit.function unit.open_sub unit.sub unit.unit unit.units unit.main_is unit.main unit.program
unit_parts = tt

unfoldable pub all_readers : Unit {0}
unfolding bare_parts bracket_parts declaration_parts expression_parts level_parts statement_parts unit_parts
all_readers = tt

-- ---- answers

-- more levels than any example has
abbrev pub limit : ℕ
limit = 8

abbrev pub answer_at : ℕ → List ℕ → Answer Program × List Symbol
answer_at levels kinds = unit.program levels (numbered 0 kinds)

-- the place where an answer says that the first fault is
abbrev pub fault_in : List ℕ → Answer Program × List Symbol → Option ℕ
fault_in kinds (Found a, []) = None
fault_in kinds (Found a, t ∷ back) = Some t.number
fault_in kinds (Refused, []) = Some (length kinds)
fault_in kinds (Refused, t ∷ back) = Some t.number
fault_in kinds (TooDeep, back) = None

-- the place where it says that the first token is that is too deep
abbrev pub deep_in : Answer Program × List Symbol → Option ℕ
deep_in (TooDeep, t ∷ back) = Some t.number
deep_in _ = None

-- whether a tree was found
abbrev pub is_found : Answer Program × List Symbol → Bool
is_found (Found a, []) = true
is_found _ = false

derived : (e : Example) → answer_at limit e.kinds ≡ (Found e.tree, []) → IsDerived e
derived e h = let (w, l, s, within) = subst (RightAnswer limit ProgramWords e.kinds) h (right limit e.kinds) in (w, l, s)

missed : (e : Example) → fault_in (changed e.change e.kinds) (answer_at limit (changed e.change e.kinds)) ≡ Some e.fault → IsMissed e
missed e h = at (answer_at limit (changed e.change e.kinds)) (right limit (changed e.change e.kinds)) h where
  at : (answer : Answer Program × List Symbol) → RightAnswer limit ProgramWords (changed e.change e.kinds) answer → fault_in (changed e.change e.kinds) answer ≡ Some e.fault → IsMissed e
  at (Found a, []) v q = none_is e.fault q
  at (Found a, t ∷ back) v q = subst (IsFirstFault (changed e.change e.kinds)) (some_is _ _ q) v.fault
  at (Refused, []) v q = subst (IsFirstFault (changed e.change e.kinds)) (some_is _ _ q) v.fault
  at (Refused, t ∷ back) v q = subst (IsFirstFault (changed e.change e.kinds)) (some_is _ _ q) v.fault
  at (TooDeep, back) v q = none_is e.fault q

deep : (r : DepthRow) → deep_in (answer_at r.limit r.kinds) ≡ Some r.place → IsTooDeepAt r
deep r h = at (answer_at r.limit r.kinds) (right r.limit r.kinds) h where
  at : (answer : Answer Program × List Symbol) → RightAnswer r.limit ProgramWords r.kinds answer → deep_in answer ≡ Some r.place → IsTooDeepAt r
  at (TooDeep, t ∷ back) v q = subst (λ z. IsTooDeepAt (record { limit = r.limit; kinds = r.kinds; place = z; enough = r.enough })) (some_is _ _ q) v
  at (TooDeep, []) v q = absurd v
  at (Found a, []) v q = none_is r.place q
  at (Found a, t ∷ back) v q = none_is r.place q
  at (Refused, []) v q = none_is r.place q
  at (Refused, t ∷ back) v q = none_is r.place q

read : (r : DepthRow) → is_found (answer_at r.enough r.kinds) ≡ true → IsReadWithin r
read r h = at (answer_at r.enough r.kinds) (right r.enough r.kinds) h where
  no_way : {X : Type 0} → false ≡ true → X
  no_way q = absurd (wrong q) where
    wrong : false ≡ true → ⊥
    wrong q = cc

  at : (answer : Answer Program × List Symbol) → RightAnswer r.enough ProgramWords r.kinds answer → is_found answer ≡ true → IsReadWithin r
  at (Found a, []) v q = (a, v)
  at (Found a, t ∷ back) v q = no_way q
  at (Refused, []) v q = no_way q
  at (Refused, t ∷ back) v q = no_way q
  at (TooDeep, []) v q = no_way q
  at (TooDeep, t ∷ back) v q = no_way q

-- ---- what holds of each row, from one equation for all of them

head_is : {A : Type 0} (x y : A) (xs ys : List A) → x ∷ xs ≡ y ∷ ys → x ≡ y
head_is x y xs ys e = cc

tail_is : {A : Type 0} (x y : A) (xs ys : List A) → x ∷ xs ≡ y ∷ ys → xs ≡ ys
tail_is x y xs ys e = cc

each_row : {R A : Type 0} (P : R → Type 0) (f g : R → A) → ((r : R) → f r ≡ g r → P r) → (rs : List R) → map f rs ≡ map g rs → All P rs
each_row P f g h [] e = All-nil P
each_row P f g h (r ∷ rs) e = All-cons P r rs (h r (head_is _ _ _ _ e)) (each_row P f g h rs (tail_is _ _ _ _ e))

pub all_derived : (rs : List Example) → map (λ e. answer_at limit e.kinds) rs ≡ map (λ e. (Found e.tree, [])) rs → All IsDerived rs
all_derived = each_row IsDerived (λ e. answer_at limit e.kinds) (λ e. (Found e.tree, [])) derived

pub all_missed : (rs : List Example) → map (λ e. fault_in (changed e.change e.kinds) (answer_at limit (changed e.change e.kinds))) rs ≡ map (λ e. Some e.fault) rs → All IsMissed rs
all_missed = each_row IsMissed (λ e. fault_in (changed e.change e.kinds) (answer_at limit (changed e.change e.kinds))) (λ e. Some e.fault) missed

pub all_deep : (rs : List DepthRow) → map (λ r. deep_in (answer_at r.limit r.kinds)) rs ≡ map (λ r. Some r.place) rs → All IsTooDeepAt rs
all_deep = each_row IsTooDeepAt (λ r. deep_in (answer_at r.limit r.kinds)) (λ r. Some r.place) deep

pub all_read : (rs : List DepthRow) → map (λ r. is_found (answer_at r.enough r.kinds)) rs ≡ map (λ r. true) rs → All IsReadWithin rs
all_read = each_row IsReadWithin (λ r. is_found (answer_at r.enough r.kinds)) (λ r. true) read
