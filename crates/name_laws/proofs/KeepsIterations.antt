-- What holds of each line of the log holds of what Iterations judges.
use Rattle.name_rules.specs.Attributes.{attribute_at}
use Rattle.name_rules.specs.Expressions.{Inside, expr, simple}
use Rattle.name_rules.specs.Found.{Denoted, Found}
use Rattle.name_rules.specs.Names.{denoted_first, index, is_array}
use Rattle.name_rules.specs.Parts.{array_shape, new_parameter, new_site}
use Rattle.name_rules.specs.Ranges.{range}
use Rattle.name_rules.specs.Reducers.{folded_by, reducer_of}
use Rattle.name_rules.specs.Scope.{is_taken, with_entry}
use Rattle.name_rules.specs.Symbols.{symbol}
use Rattle.name_rules.specs.Values.{any_integer}
use Rattle.name_rules.specs.declared.found.Attribute.{Attribute}
use Rattle.name_rules.specs.declared.found.Denoted.TheVariants as denoted
use Rattle.name_rules.specs.declared.found.Denoted.{Denoted as KnownDenoted}
use Rattle.name_rules.specs.declared.found.Folding.{Folding}
use Rattle.name_rules.specs.declared.found.Found.TheVariants as known
use Rattle.name_rules.specs.declared.found.ObjectName.{ObjectName}
use Rattle.name_rules.specs.declared.log.Rule.TheVariants.{ChunkRule, ReduceRule, Twice, Unknown, WrongType}
use Rattle.name_rules.specs.declared.scope.Context.{Context}
use Rattle.name_rules.specs.declared.scope.Names.{Names}
use Rattle.name_rules.specs.declared.types.Wanted.TheVariants as wanted
use Rattle.syntax_tree.specs.Syntax as syntax
use Rattle.syntax_tree.specs.Syntax.{Expr, Iter, OptionalExpr, OptionalParallel, Parallel, Simple}
use Rattle.typed_tree.specs.Syntax.{Selections}
use Rattle.typed_tree.specs.declared.program.SiteKind.TheVariants as site
use Rattle.typed_tree.specs.declared.program.SiteKind.{SiteKind}
use Rattle.std.specs.Prelude.{Bool, None, Option, Some, is_some, length, not, option_map, ℕ, ◌||◌}
use Rattle.typed_tree.specs.Decoded as part
use Rattle.name_rules.specs.TypedParts.{selections_of}
use Rattle.typed_tree.specs.Decoded.{TypedPart}
use Rattle.name_rules.specs.Judging.{◌>>=◌, Judging, both, breaks, given, pure, unless}
use Rattle.name_rules.specs.Iterations.{Chunked, counted, chunk_count, chunked_by, Walked, array_walked, no_array, over_place, over_form, over_denoted, walked, with_chunk, with_walked, filter_where, Entered, in_construct, entered_with, parallel_at, entered, is_reduce, reverse_rule, only_reduce_rules, sequence_given, sequence_folded, sequence_rules, sequence}
use Rattle.name_laws.proofs.Walk.{Walk, Keeps, k-pure, k-some, k-bind, k-breaks, k-unless, k-if, k-given, k-both}
use Rattle.name_laws.proofs.Walked.{KeepsInside}
use Rattle.name_laws.proofs.KeepsExpressions.{k-condition, k-expr, k-simple}
use Rattle.name_laws.proofs.KeepsParts.{k-new_parameter, k-new_site}
use Rattle.name_laws.proofs.KeepsRanges.{k-range}
use Rattle.name_laws.proofs.KeepsReducers.{k-folded_by, k-reducer_of}
use Rattle.name_laws.proofs.KeepsValues.{k-any_integer}

pub k-chunk_count : (walk : Walk) (x0 : Inside) (x1 : Context) (x2 : Simple) → KeepsInside walk x0 → Keeps walk (chunk_count x0 x1 x2)
unfolding chunk_count
k-chunk_count walk level here s keeps1 = k-bind walk (simple level here wanted.Other s) (λ x. given x any_integer) (k-simple walk level here wanted.Other s keeps1) (λ x. k-given walk x (any_integer) (λ z1. k-any_integer walk z1))

pub k-chunked_by : (walk : Walk) (x0 : Inside) (x1 : Context) (x2 : Parallel) → KeepsInside walk x0 → Keeps walk (chunked_by x0 x1 x2)
unfolding chunked_by
k-chunked_by walk inner here (syntax.Unchunked at) keeps1 = k-pure walk (record { chunk = Some part.Nothing; entry = None })
k-chunked_by walk inner here (syntax.Counted at s) keeps1 = k-bind walk (chunk_count inner here s) (λ e. pure (record { chunk = option_map counted e; entry = None })) (k-chunk_count walk inner here s keeps1) (λ e. k-pure walk (record { chunk = option_map counted e; entry = None }))
k-chunked_by walk inner here (syntax.Chunked at index r) keeps1 = record {
  at = λ log.
      let out1 = range inner here r log in
      let b = out1.0 in
      walk.joins _ _ _ ((k-range walk inner here r keeps1).at log)
      ((k-new_parameter walk).at out1.1);
}

pub k-over_place : (walk : Walk) (x0 : ℕ) (x1 : ℕ) (x2 : OptionalExpr) (x3 : ObjectName) (x4 : Selections) → Keeps walk (over_place x0 x1 x2 x3 x4)
k-over_place walk n token f p ss = (record { at = λ log. (k-if walk (is_array (array_shape log p.subtype)) (pure (array_walked log n token f p ss (array_shape log p.subtype))) ((breaks p.first WrongType >>= λ u. pure (no_array token f))) (k-pure walk (array_walked log n token f p ss (array_shape log p.subtype))) (k-bind walk (breaks p.first WrongType) (λ u. pure (no_array token f)) (k-breaks walk p.first WrongType) (λ u. k-pure walk (no_array token f)))).at log })

pub k-over_form : (walk : Walk) (x0 : ℕ) (x1 : ℕ) (x2 : OptionalExpr) (x3 : KnownDenoted) (x4 : TypedPart) → Keeps walk (over_form x0 x1 x2 x3 x4)
k-over_form walk n token f (denoted.Value (known.Object p)) x = k-over_place walk n token f p (selections_of x)
k-over_form walk n token f d x = k-bind walk (breaks (denoted_first d) WrongType) (λ u. pure (no_array token f)) (k-breaks walk (denoted_first d) WrongType) (λ u. k-pure walk (no_array token f))

pub k-over_denoted : (walk : Walk) (x0 : ℕ) (x1 : ℕ) (x2 : OptionalExpr) (x3 : Option Denoted) → Keeps walk (over_denoted x0 x1 x2 x3)
k-over_denoted walk n token f None = k-pure walk (no_array token f)
k-over_denoted walk n token f (Some d) = k-over_form walk n token f d.known d.part

pub k-walked : (walk : Walk) (x0 : Inside) (x1 : Context) (x2 : Iter) → KeepsInside walk x0 → Keeps walk (walked x0 x1 x2)
unfolding walked
k-walked walk level here (syntax.InRange index back r f) keeps1 = record {
  at = λ log.
      let out1 = range level here r log in
      let b = out1.0 in
      walk.joins _ _ _ ((k-range walk level here r keeps1).at log)
      ((k-new_parameter walk).at out1.1);
}
k-walked walk level here (syntax.OfName index nm f) keeps1 = record {
  at = λ log.
      let out1 = level.name here nm log in
      let d = out1.0 in
      let out2 = new_parameter out1.1 in
      let n = out2.0 in
      walk.joins _ _ _ ((keeps1.name here nm).at log)
      (walk.joins _ _ _ ((k-new_parameter walk).at out1.1)
      ((k-over_denoted walk n index f d).at out2.1));
}

pub k-with_walked : (walk : Walk) (x0 : Names) (x1 : Context) (x2 : ℕ) (x3 : Walked) → walk.Takes x0 → Keeps walk (with_walked x0 x1 x2 x3)
k-with_walked walk names here start w keeps1 = k-bind walk (unless (not (is_taken (symbol names w.token) start here)) w.token Twice) (λ u. pure (with_entry here (symbol names w.token) w.entry)) (k-unless walk (not (is_taken (symbol names w.token) start here)) w.token Twice) (λ u. k-pure walk (with_entry here (symbol names w.token) w.entry))

pub k-filter_where : (walk : Walk) (x0 : Names) (x1 : Inside) (x2 : Context) (x3 : OptionalExpr) → walk.Takes x0 → KeepsInside walk x1 → Keeps walk (filter_where x0 x1 x2 x3)
k-filter_where walk names level here syntax.AbsentExpr keeps1 keeps2 = k-some walk part.Nothing
k-filter_where walk names level here (syntax.PresentExpr e) keeps1 keeps2 = k-condition walk names level here e keeps1 keeps2

pub k-entered_with : (walk : Walk) (x0 : Names) (x1 : Inside) (x2 : Context) (x3 : Option ℕ) (x4 : ℕ) (x5 : Chunked) (x6 : Iter) → walk.Takes x0 → KeepsInside walk x1 → Keeps walk (entered_with x0 x1 x2 x3 x4 x5 x6)
unfolding entered_with
k-entered_with walk names level here construct start c i keeps1 keeps2 = record {
  at = λ log.
      let out1 = walked level here i log in
      let w = out1.0 in
      let out2 = with_walked names (with_chunk names (in_construct names here construct) c.entry) start w out1.1 in
      let inner = out2.0 in
      walk.joins _ _ _ ((k-walked walk level here i keeps2).at log)
      (walk.joins _ _ _ ((k-with_walked walk names (with_chunk names (in_construct names here construct) c.entry) start w keeps1).at out1.1)
      ((k-filter_where walk names level inner w.filter keeps1 keeps2).at out2.1));
}

pub k-entered : (walk : Walk) (x0 : Names) (x1 : Inside) (x2 : Inside) (x3 : Context) (x4 : SiteKind) (x5 : OptionalParallel) (x6 : Iter) → walk.Takes x0 → KeepsInside walk x1 → KeepsInside walk x2 → Keeps walk (entered x0 x1 x2 x3 x4 x5 x6)
unfolding entered
k-entered walk names level inner here k syntax.AbsentParallel i keeps1 keeps2 keeps3 = k-entered_with walk names level here None (length here.scope) (record { chunk = Some part.Nothing; entry = None }) i keeps1 keeps2
k-entered walk names level inner here k (syntax.PresentParallel p) i keeps1 keeps2 keeps3 = record {
  at = λ log.
      let out1 = new_site here (parallel_at p) k log in
      let n = out1.0 in
      let out2 = chunked_by inner here p out1.1 in
      let c = out2.0 in
      walk.joins _ _ _ ((k-new_site walk here (parallel_at p) k).at log)
      (walk.joins _ _ _ ((k-chunked_by walk inner here p keeps3).at out1.1)
      ((k-entered_with walk names level here (Some n) (length here.scope) c i keeps1 keeps2).at out2.1));
}

pub k-reverse_rule : (walk : Walk) (x0 : Option ℕ) → Keeps walk (reverse_rule x0)
k-reverse_rule walk None = k-pure walk tt
k-reverse_rule walk (Some at) = k-breaks walk at ChunkRule

pub k-only_reduce_rules : (walk : Walk) {A : Type 0} (p : Judging A) → Keeps walk p → Keeps walk (only_reduce_rules p)
k-only_reduce_rules walk p h = record { at = h.at }

pub k-sequence_given : (walk : Walk) (x0 : ℕ) (x1 : ℕ) (x2 : Entered) (x3 : Folding) (x4 : Found) (x5 : Found) → Keeps walk (sequence_given x0 x1 x2 x3 x4 x5)
k-sequence_given walk bracket attribute e f x v = k-both walk e.chunk e.iteration (λ c i. folded_by (record { at = bracket; attribute = attribute; site = e.construct }) c i f x v) (λ c i. k-folded_by walk (record { at = bracket; attribute = attribute; site = e.construct }) c i f x v)

pub k-sequence_folded : (walk : Walk) (x0 : Names) (x1 : Inside) (x2 : Context) (x3 : ℕ) (x4 : OptionalParallel) (x5 : Iter) (x6 : Expr) (x7 : ℕ) (x8 : Expr) (x9 : Expr) → walk.Takes x0 → KeepsInside walk x1 → Keeps walk (sequence_folded x0 x1 x2 x3 x4 x5 x6 x7 x8 x9)
k-sequence_folded walk names level here bracket p i value attribute reducer initial keeps1 keeps2 = record {
  at = λ log.
      let out1 = reducer_of names level here reducer log in
      let f = out1.0 in
      let out2 = entered names level level here site.Reduction p i out1.1 in
      let e = out2.0 in
      let out3 = expr names level e.here wanted.Other value out2.1 in
      let x = out3.0 in
      let out4 = expr names level here wanted.Other initial out3.1 in
      let v = out4.0 in
      walk.joins _ _ _ ((k-reducer_of walk names level here reducer keeps1 keeps2).at log)
      (walk.joins _ _ _ ((k-entered walk names level level here site.Reduction p i keeps1 keeps2 keeps2).at out1.1)
      (walk.joins _ _ _ ((k-expr walk names level e.here wanted.Other value keeps1 keeps2).at out2.1)
      (walk.joins _ _ _ ((k-expr walk names level here wanted.Other initial keeps1 keeps2).at out3.1)
      ((k-given walk f (λ g. both x v (sequence_given bracket attribute e g)) (λ g. k-both walk x v (sequence_given bracket attribute e g) (λ z5 z6. k-sequence_given walk bracket attribute e g z5 z6))).at out4.1))));
}

pub k-sequence_rules : (walk : Walk) (x0 : ℕ) (x1 : Option Attribute) (x2 : (Option ℕ × Option Found) × Bool) → Keeps walk (sequence_rules x0 x1 x2)
k-sequence_rules walk attribute a p = k-if walk (not p.1) (pure None) (((unless (not (is_some a) || is_reduce a) attribute ReduceRule) >>= λ u. (reverse_rule p.0.0) >>= λ w. pure p.0.1)) (k-pure walk None) (record { at = λ log. let out1 = unless (not (is_some a) || is_reduce a) attribute ReduceRule log in walk.joins _ _ _ ((k-unless walk (not (is_some a) || is_reduce a) attribute ReduceRule).at log) ((k-reverse_rule walk p.0.0).at out1.1) })

pub k-sequence : (walk : Walk) (x0 : Names) (x1 : Inside) (x2 : Context) (x3 : ℕ) (x4 : OptionalParallel) (x5 : Iter) (x6 : Expr) (x7 : ℕ) (x8 : Expr) (x9 : Expr) → walk.Takes x0 → KeepsInside walk x1 → Keeps walk (sequence x0 x1 x2 x3 x4 x5 x6 x7 x8 x9)
unfolding sequence
k-sequence walk names level here bracket p i value attribute reducer initial keeps1 keeps2 = record {
  at = λ log.
      let out1 = unless (is_some (attribute_at (symbol names attribute))) attribute Unknown log in
      let out2 = only_reduce_rules (sequence_folded names level here bracket p i value attribute reducer initial) out1.1 in
      let r = out2.0 in
      walk.joins _ _ _ ((k-unless walk (is_some (attribute_at (symbol names attribute))) attribute Unknown).at log)
      (walk.joins _ _ _ ((k-only_reduce_rules walk (sequence_folded names level here bracket p i value attribute reducer initial) (k-sequence_folded walk names level here bracket p i value attribute reducer initial keeps1 keeps2)).at out1.1)
      ((k-sequence_rules walk attribute (attribute_at (symbol names attribute)) r).at out2.1));
}
