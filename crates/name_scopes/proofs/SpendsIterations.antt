-- Judging that is counted: iterations.
use Rattle.name_rules.specs.Attributes.{attribute_at}
use Rattle.name_rules.specs.Expressions.{Inside, expr, simple}
use Rattle.name_rules.specs.Found.{Bounded, Denoted, Found}
use Rattle.name_rules.specs.Judging.{both, breaks, given, joined, pure, unless, ◌>>=◌}
use Rattle.name_rules.specs.Names.{denoted_first, index, is_array}
use Rattle.name_rules.specs.Parts.{array_shape, new_parameter, new_site}
use Rattle.name_rules.specs.Ranges.{range}
use Rattle.name_rules.specs.Reducers.{reducer_of}
use Rattle.name_rules.specs.Symbols.{symbol}
use Rattle.name_rules.specs.declared.found.Attribute.{Attribute}
use Rattle.name_rules.specs.declared.found.Denoted.TheVariants as denoted
use Rattle.name_rules.specs.declared.found.Denoted.{Denoted as KnownDenoted}
use Rattle.name_rules.specs.declared.found.Folding.{Folding}
use Rattle.name_rules.specs.declared.found.Found.TheVariants as known
use Rattle.name_rules.specs.declared.found.ObjectName.{ObjectName}
use Rattle.name_rules.specs.declared.log.Log.{Log}
use Rattle.name_rules.specs.declared.log.Rule.TheVariants.{ReduceRule, Unknown, WrongType}
use Rattle.name_rules.specs.declared.log.Shape.{Shape}
use Rattle.name_rules.specs.declared.scope.Context.{Context}
use Rattle.name_rules.specs.declared.scope.Names.{Names}
use Rattle.name_rules.specs.declared.types.Wanted.TheVariants as wanted
use Rattle.syntax_tree.specs.Syntax as syntax
use Rattle.syntax_tree.specs.Syntax.{Expr, Iter, OptionalExpr, OptionalParallel, Parallel, Simple}
use Rattle.typed_tree.specs.Syntax as typed
use Rattle.typed_tree.specs.Syntax.{Selections}
use Rattle.typed_tree.specs.declared.program.SiteKind.TheVariants as site
use Rattle.typed_tree.specs.declared.program.SiteKind.{SiteKind}
use Rattle.std.specs.Prelude.{Bool, None, Option, Some, false, if◌then◌else◌, is_some, length, not, option_map, true, ℕ, ◌+◌, ◌≤◌, ◌||◌}
use Rattle.typed_tree.specs.Decoded as part
use Rattle.name_rules.specs.TypedParts.{selections_of}
use Rattle.typed_tree.specs.Decoded.{TypedPart, as_iteration, as_optional}
use Rattle.name_rules.specs.Iterations.{Chunked, Entered, array_walked, chunk_count, chunked_by, counted, each_chunk, entered, entered_with, filter_where, filtered, in_construct, is_reduce, no_array, only_reduce_rules, over_denoted, over_form, over_place, parallel_at, parameter_what, range_made, sequence, sequence_folded, sequence_given, sequence_rules, walked, with_chunk, with_walked}
use Rattle.std.proofs.Common.{arith}
use Rattle.name_rules.specs.TypedParts.{left_of, right_of}
use Rattle.name_laws.proofs.KeepsIterations.{k-sequence_folded, k-with_walked}
use Rattle.name_laws.proofs.KeepsParts.{k-new_parameter}
use Rattle.name_laws.proofs.KeepsReducers.{k-reducer_of}
use Rattle.name_laws.proofs.Walk.{k-breaks, k-unless}
use Rattle.name_scopes.proofs.SpendsExpressions.{s-condition, s-expr, s-simple}
use Rattle.name_scopes.proofs.SpendsParts.{z-through}
use Rattle.name_scopes.proofs.SpendsRanges.{s-range}
use Rattle.name_scopes.proofs.SpendsReducers.{s-folded_by}
use Rattle.name_scopes.proofs.SpendsValues.{s-any_integer}
use Rattle.name_scopes.proofs.Leaving.{leaving}
use Rattle.name_scopes.proofs.Measures.{counted-by, maybe-known, maybe-part, option-of, part-measure, part-size, with-part}
use Rattle.name_scopes.proofs.Parts.{n-expr, n-iteration, n-optional, n-selections_of, n-sides, n-way_filtered, n-with_filter}
use Rattle.name_scopes.proofs.Records.{SpendsInside, chunked-of, entered-of, iterating-of, iterating-size, site-of, walked-of}
use Rattle.name_scopes.proofs.Spends.{Holds, Spends, h-joined, h-map, s-bind, s-both, s-given, s-given-any, s-if, s-le, s-log, s-new_site, s-pure, s-some, s-then}
use Rattle.name_scopes.proofs.Tallies.{Tally, in_selections, turned_by}

pub z-counted : (which : Tally) (x0 : TypedPart) → (part-measure which).Whole x0 → Holds (part-measure which) (part-size which x0) (counted x0)
z-counted which e h0 = (tt, omega (arith, n-expr which e))

pub z-each_chunk : (which : Tally) (n : ℕ) (b : Bounded) → (with-part which).Whole b → Holds (part-measure which) (part-size which b.part) (each_chunk n b)
z-each_chunk which n b h = (tt, omega (arith, n-expr which (left_of b.part), n-expr which (right_of b.part), n-sides which b.part))

pub s-chunk_count : (which : Tally) (x0 : Inside) (x1 : Context) (x2 : Simple) → SpendsInside which x0 → Spends which (maybe-part which) 0 (chunk_count x0 x1 x2)
unfolding chunk_count
s-chunk_count which level here s h0 =
    s-bind which (maybe-known which) (maybe-part which) 0 0 _ (simple level here wanted.Other s) _ (s-le which (maybe-known which) _ _ _ (s-simple which level here wanted.Other s h0) (omega arith)) (omega arith) (λ x held1.
    s-given which (with-part which) (part-measure which) 0 _ x _ held1 (omega arith) (λ item held2.
    s-le which (maybe-part which) _ _ _ (s-any_integer which item held2) (omega arith)))

pub s-chunked_by : (which : Tally) (x0 : Inside) (x1 : Context) (x2 : Parallel) → SpendsInside which x0 → Spends which (chunked-of which) 0 (chunked_by x0 x1 x2)
unfolding chunked_by
s-chunked_by which inner here (syntax.Unchunked at) h0 = s-pure which (chunked-of which) _ (record { chunk = Some part.Nothing; entry = None }) (tt, omega arith)
s-chunked_by which inner here (syntax.Counted at s) h0 =
    s-bind which (maybe-part which) (chunked-of which) 0 0 _ (chunk_count inner here s) _ (s-le which (maybe-part which) _ _ _ (s-chunk_count which inner here s h0) (omega arith)) (omega arith) (λ e held1.
    s-pure which (chunked-of which) _ (record { chunk = option_map counted e; entry = None }) (let made4 = h-map (part-measure which) (part-measure which) 0 counted e held1 (λ item held2. let made3 = z-counted which item held2 in
    (made3.0, omega (arith, made3.1))) in
    (made4.0, omega (arith, made4.1))))
s-chunked_by which inner here (syntax.Chunked at index r) h0 =
    s-bind which (maybe-known which) (chunked-of which) 0 0 _ (range inner here r) _ (s-le which (maybe-known which) _ _ _ (s-range which inner here r h0) (omega arith)) (omega arith) (λ b held1.
    s-then which (chunked-of which) _ new_parameter _ (k-new_parameter leaving) (λ n.
    s-pure which (chunked-of which) _ (record { chunk = option_map (each_chunk n) b; entry = Some (index, parameter_what n b) }) (let made5 = h-map (with-part which) (part-measure which) 0 (each_chunk n) b held1 (λ item held3. let made4 = z-each_chunk which n item held3 in
    (made4.0, omega (arith, made4.1))) in
    (made5.0, omega (arith, made5.1)))))

pub z-range_made : (which : Tally) (n : ℕ) (back : Option ℕ) (b : Bounded) → (with-part which).Whole b → Holds (iterating-of which (turned_by which.backwards back)) (part-size which b.part) (range_made n (is_some back) b)
z-range_made which n None b h = ((tt, omega arith), omega (arith, n-expr which (left_of b.part), n-expr which (right_of b.part), n-sides which b.part))
z-range_made which n (Some at) b h = ((tt, omega arith), omega (arith, n-expr which (left_of b.part), n-expr which (right_of b.part), n-sides which b.part))

pub z-filtered : (which : Tally) (n : ℕ) (x0 : TypedPart) (x1 : TypedPart) → (iterating-of which n).Whole x0 → (part-measure which).Whole x1 → Holds (iterating-of which n) (part-size which x0 + part-size which x1) (filtered x0 x1)
z-filtered which n i f h0 h1 = ((tt, omega (arith, n-way_filtered which (as_iteration i) (as_optional f), h0.1)), omega (arith, n-with_filter which (as_iteration i) (as_optional f), n-iteration which i, n-optional which f))

pub z-array_walked : (which : Tally) (x0 : Log) (x1 : ℕ) (x2 : ℕ) (x3 : OptionalExpr) (x4 : ObjectName) (x5 : Selections) (x6 : Option Shape) → (counted-by (λ x. in_selections which x)).Whole x5 → Holds (walked-of which) (in_selections which x5) (array_walked x0 x1 x2 x3 x4 x5 x6)
z-array_walked which log n token f p ss t h5 =
    let made1 = z-through which log p ss t n typed.Absent h5 tt in
    ((tt, omega (arith, made1.0)), omega (arith, made1.1))

pub z-no_array : (which : Tally) (x0 : ℕ) (x1 : OptionalExpr) → Holds (walked-of which) 0 (no_array x0 x1)
z-no_array which token f = (tt, omega arith)

pub s-over_place : (which : Tally) (x0 : ℕ) (x1 : ℕ) (x2 : OptionalExpr) (x3 : ObjectName) (x4 : Selections) → (counted-by (λ x. in_selections which x)).Whole x4 → Spends which (walked-of which) (in_selections which x4) (over_place x0 x1 x2 x3 x4)
s-over_place which n token f p ss h4 =
    s-log which (walked-of which) _ (λ log. if is_array (array_shape log p.subtype) then pure (array_walked log n token f p ss (array_shape log p.subtype)) else (breaks p.first WrongType) >>= λ u. pure (no_array token f)) (λ log. s-if which (walked-of which) _ (is_array (array_shape log p.subtype)) (pure (array_walked log n token f p ss (array_shape log p.subtype))) ((breaks p.first WrongType) >>= λ u. pure (no_array token f))
    (s-pure which (walked-of which) _ (array_walked log n token f p ss (array_shape log p.subtype)) (let made1 = z-array_walked which log n token f p ss (array_shape log p.subtype) h4 in
    (made1.0, omega (arith, made1.1))))
    (s-then which (walked-of which) _ (breaks p.first WrongType) _ (k-breaks leaving p.first WrongType) (λ u.
    s-pure which (walked-of which) _ (no_array token f) (let made3 = z-no_array which token f in
    (made3.0, omega (arith, made3.1))))))

pub s-over_form : (which : Tally) (x0 : ℕ) (x1 : ℕ) (x2 : OptionalExpr) (x3 : KnownDenoted) (x4 : TypedPart) → (part-measure which).Whole x4 → Spends which (walked-of which) (part-size which x4) (over_form x0 x1 x2 x3 x4)
s-over_form which n token f (denoted.Value (known.Object p)) x h4 = s-le which (walked-of which) _ _ _ (s-over_place which n token f p (selections_of x) tt) (omega (arith, n-selections_of which x h4))
s-over_form which n token f d x h4 =
    s-then which (walked-of which) _ (breaks (denoted_first d) WrongType) _ (k-breaks leaving (denoted_first d) WrongType) (λ u.
    s-pure which (walked-of which) _ (no_array token f) (let made2 = z-no_array which token f in
    (made2.0, omega (arith, made2.1))))

pub s-over_denoted : (which : Tally) (x0 : ℕ) (x1 : ℕ) (x2 : OptionalExpr) (x3 : Option Denoted) → (maybe-known which).Whole x3 → Spends which (walked-of which) ((maybe-known which).size x3) (over_denoted x0 x1 x2 x3)
s-over_denoted which n token f None h3 =
    s-pure which (walked-of which) _ (no_array token f) (let made1 = z-no_array which token f in
    (made1.0, omega (arith, made1.1)))
s-over_denoted which n token f (Some d) h3 = s-le which (walked-of which) _ _ _ (s-over_form which n token f d.known d.part h3) (omega arith)

pub s-walked : (which : Tally) (x0 : Inside) (x1 : Context) (x2 : Iter) → SpendsInside which x0 → Spends which (walked-of which) 0 (walked x0 x1 x2)
unfolding walked
s-walked which level here (syntax.InRange index back r f) h0 =
    s-bind which (maybe-known which) (walked-of which) 0 0 _ (range level here r) _ (s-le which (maybe-known which) _ _ _ (s-range which level here r h0) (omega arith)) (omega arith) (λ b held1.
    s-then which (walked-of which) _ new_parameter _ (k-new_parameter leaving) (λ n.
    s-pure which (walked-of which) _ (record { made = option_map (range_made n (is_some back)) b; token = index; entry = parameter_what n b; filter = f; reverse = back }) (let made5 = h-map (with-part which) (iterating-of which (turned_by which.backwards back)) 0 (range_made n (is_some back)) b held1 (λ item held3. let made4 = z-range_made which n back item held3 in
    (made4.0, omega (arith, made4.1))) in
    (made5.0, omega (arith, made5.1, iterating-size which (turned_by which.backwards back) (option_map (range_made n (is_some back)) b))))))
s-walked which level here (syntax.OfName index nm f) h0 =
    s-bind which (maybe-known which) (walked-of which) 0 0 _ (level.name here nm) _ (s-le which (maybe-known which) 0 _ _ (h0.name here nm) (omega arith)) (omega arith) (λ d held1.
    s-then which (walked-of which) _ new_parameter _ (k-new_parameter leaving) (λ n.
    s-le which (walked-of which) _ _ _ (s-over_denoted which n index f d held1) (omega arith)))

pub s-filter_where : (which : Tally) (x0 : Names) (x1 : Inside) (x2 : Context) (x3 : OptionalExpr) → SpendsInside which x1 → Spends which (maybe-part which) 0 (filter_where x0 x1 x2 x3)
s-filter_where which names level here syntax.AbsentExpr h1 = s-some which (part-measure which) _ part.Nothing (tt, omega arith)
s-filter_where which names level here (syntax.PresentExpr e) h1 = s-le which (maybe-part which) _ _ _ (s-condition which names level here e h1) (omega arith)

pub s-entered_with : (which : Tally) (x0 : Names) (x1 : Inside) (x2 : Context) (x3 : Option ℕ) (x4 : ℕ) (x5 : Chunked) (x6 : Iter) → SpendsInside which x1 → (site-of which).Whole x3 → (maybe-part which).Whole x5.chunk → Spends which (entered-of which) ((site-of which).size x3 + (maybe-part which).size x5.chunk) (entered_with x0 x1 x2 x3 x4 x5 x6)
unfolding entered_with
s-entered_with which names level here construct start c i h1 h3 h5-chunk =
    s-bind which (walked-of which) (entered-of which) 0 ((site-of which).size construct + (maybe-part which).size c.chunk) _ (walked level here i) _ (s-le which (walked-of which) _ _ _ (s-walked which level here i h1) (omega arith)) (omega arith) (λ w held1.
    s-then which (entered-of which) _ (with_walked names (with_chunk names (in_construct names here construct) c.entry) start w) _ (k-with_walked leaving names (with_chunk names (in_construct names here construct) c.entry) start w tt) (λ inner.
    s-bind which (maybe-part which) (entered-of which) 0 ((site-of which).size construct + (maybe-part which).size c.chunk + (maybe-part which).size w.made) _ (filter_where names level inner w.filter) _ (s-le which (maybe-part which) _ _ _ (s-filter_where which names level inner w.filter h1) (omega arith)) (omega arith) (λ f held3.
    s-pure which (entered-of which) _ (record { construct = construct; chunk = c.chunk; iteration = joined filtered w.made f; here = inner; reverse = w.reverse }) (let made7 = h-joined (iterating-of which (turned_by which.backwards w.reverse)) (part-measure which) (iterating-of which (turned_by which.backwards w.reverse)) 0 filtered w.made f held1 held3 (λ one held4 other held5. let made6 = z-filtered which (turned_by which.backwards w.reverse) one other held4 held5 in
    (made6.0, omega (arith, made6.1))) in
    ((h3, h5-chunk, made7.0), omega (arith, made7.1, iterating-size which (turned_by which.backwards w.reverse) w.made, iterating-size which (turned_by which.backwards w.reverse) (joined filtered w.made f)))))))

pub s-entered : (which : Tally) (x0 : Names) (x1 : Inside) (x2 : Inside) (x3 : Context) (x4 : SiteKind) (x5 : OptionalParallel) (x6 : Iter) → SpendsInside which x1 → SpendsInside which x2 → Spends which (entered-of which) 0 (entered x0 x1 x2 x3 x4 x5 x6)
unfolding entered
s-entered which names level inner here k syntax.AbsentParallel i h1 h2 = s-le which (entered-of which) _ _ _ (s-entered_with which names level here None (length here.scope) (record { chunk = Some part.Nothing; entry = None }) i h1 tt tt) (omega arith)
s-entered which names level inner here k (syntax.PresentParallel p) i h1 h2 =
    s-bind which (counted-by (λ x. which.number x)) (entered-of which) 0 0 _ (new_site here (parallel_at p) k) _ (s-le which (counted-by (λ x. which.number x)) _ _ _ (s-new_site which here (parallel_at p) k) (omega arith)) (omega arith) (λ n held1.
    s-bind which (chunked-of which) (entered-of which) 0 (which.number n) _ (chunked_by inner here p) _ (s-le which (chunked-of which) _ _ _ (s-chunked_by which inner here p h2) (omega arith)) (omega arith) (λ c held2.
    s-le which (entered-of which) _ _ _ (s-entered_with which names level here (Some n) (length here.scope) c i h1 held1 held2) (omega arith)))

pub s-sequence_given : (which : Tally) (x0 : ℕ) (x1 : ℕ) (x2 : Entered) (x3 : Folding) (x4 : Found) (x5 : Found) → (site-of which).Whole x2.construct → (maybe-part which).Whole x2.chunk → (option-of (iterating-of which (turned_by which.backwards x2.reverse))).Whole x2.iteration → (with-part which).Whole x4 → (with-part which).Whole x5 → Spends which (maybe-known which) ((site-of which).size x2.construct + (maybe-part which).size x2.chunk + (maybe-part which).size x2.iteration + part-size which x4.part + part-size which x5.part + turned_by which.backwards x2.reverse) (sequence_given x0 x1 x2 x3 x4 x5)
s-sequence_given which bracket attribute e f x v h2-construct h2-chunk h2-iteration h4 h5 =
    s-both which (part-measure which) (iterating-of which (turned_by which.backwards e.reverse)) (with-part which) ((site-of which).size e.construct + part-size which x.part + part-size which v.part + turned_by which.backwards e.reverse) _ e.chunk e.iteration _ h2-chunk h2-iteration (omega (arith, iterating-size which (turned_by which.backwards e.reverse) e.iteration)) (λ c held1 i held2.
    s-le which (maybe-known which) _ _ _ (s-folded_by which (record { at = bracket; attribute = attribute; site = e.construct }) c i f x v h2-construct held1 held2.0 h4 h5) (omega (arith, held2.1)))

-- what is folded, where its iteration was entered
folded-in : (which : Tally) (names : Names) (level : Inside) (here : Context) (bracket : ℕ) (f : Option Folding) (e : Entered) (value : Expr) (attribute : ℕ) (initial : Expr) → SpendsInside which level → (entered-of which).Whole e
    → Spends which (maybe-known which) ((entered-of which).size e + turned_by which.backwards e.reverse)
    (expr names level e.here wanted.Other value >>= λ x. expr names level here wanted.Other initial >>= λ v. given f (λ g. both x v (sequence_given bracket attribute e g)))
folded-in which names level here bracket f e value attribute initial h1 held2 =
    s-bind which (maybe-known which) (maybe-known which) 0 ((entered-of which).size e + turned_by which.backwards e.reverse) _ (expr names level e.here wanted.Other value) _ (s-le which (maybe-known which) _ _ _ (s-expr which names level e.here wanted.Other value h1) (omega arith)) (omega arith) (λ x held3.
    s-bind which (maybe-known which) (maybe-known which) 0 ((maybe-known which).size x + (entered-of which).size e + turned_by which.backwards e.reverse) _ (expr names level here wanted.Other initial) _ (s-le which (maybe-known which) _ _ _ (s-expr which names level here wanted.Other initial h1) (omega arith)) (omega arith) (λ v held4.
    s-given-any which (with-part which) _ f _ (λ g.
    s-both which (with-part which) (with-part which) (with-part which) ((entered-of which).size e + turned_by which.backwards e.reverse) _ x v _ held3 held4 (omega arith) (λ one held7 other held8.
    s-le which (maybe-known which) _ _ _ (s-sequence_given which bracket attribute e g one other held2.0 held2.1 held2.2 held7 held8) (omega arith)))))

-- what a sequence is found to be counts for no more than its `reverse`
abbrev SequenceIn : Tally → Log → ((Option ℕ × Option Found) × Log) → Type 0
SequenceIn which log r = (maybe-known which).Whole r.0.1 × ((maybe-known which).size r.0.1 + which.left r.1 + which.owed log ≤ turned_by which.backwards r.0.0 + which.left log + which.owed r.1)

sequence-in : (which : Tally) (names : Names) (level : Inside) (here : Context) (bracket : ℕ) (p : OptionalParallel) (i : Iter) (value : Expr) (attribute : ℕ) (reducer initial : Expr) (log : Log) → SpendsInside which level
    → SequenceIn which log (sequence_folded names level here bracket p i value attribute reducer initial log)
sequence-in which names level here bracket p i value attribute reducer initial log h1 =
    let f = reducer_of names level here reducer log in
    let e = entered names level level here site.Reduction p i f.1 in
    let x = (s-entered which names level level here site.Reduction p i h1 h1).at f.1 in
    let y = (folded-in which names level here bracket f.0 e.0 value attribute initial h1 x.0).at e.1 in
    (y.0, omega (arith, y.1, x.1, which.falls log f.1 ((k-reducer_of leaving names level here reducer tt h1.keeps).at log)))

sequence-ruled : (which : Tally) (attribute : ℕ) (a : Option Attribute) (r : (Option ℕ × Option Found) × Bool) (log now : Log) → (maybe-known which).Whole r.0.1
    → (maybe-known which).size r.0.1 + which.left now + which.owed log ≤ turned_by which.backwards r.0.0 + which.left log + which.owed now → which.left now + which.owed log ≤ which.left log + which.owed now
    → (let z = sequence_rules attribute a r now in (maybe-known which).Whole z.0 × ((maybe-known which).size z.0 + which.left z.1 + which.owed log ≤ which.left log + which.owed z.1))
sequence-ruled which attribute a (r, false) log now h l m = (tt, omega (arith, m))
sequence-ruled which attribute a (r, true) log now h l m =
    let u = unless (not (is_some a) || is_reduce a) attribute ReduceRule now in
    (h, omega (arith, l, which.broken r.0 u.1, which.falls now u.1 ((k-unless leaving (not (is_some a) || is_reduce a) attribute ReduceRule).at now)))

sequence-after : (which : Tally) (names : Names) (level : Inside) (here : Context) (bracket : ℕ) (p : OptionalParallel) (i : Iter) (value : Expr) (attribute : ℕ) (reducer initial : Expr) → SpendsInside which level
    → Spends which (maybe-known which) 0 (only_reduce_rules (sequence_folded names level here bracket p i value attribute reducer initial) >>= λ r. sequence_rules attribute (attribute_at (symbol names attribute)) r)
sequence-after which names level here bracket p i value attribute reducer initial h1 = record {
  at = λ log.
      let r = sequence_folded names level here bracket p i value attribute reducer initial in
      let x = sequence-in which names level here bracket p i value attribute reducer initial log h1 in
      let y = sequence-ruled which attribute (attribute_at (symbol names attribute)) (only_reduce_rules r log).0 log (r log).1 x.0 x.1 (which.falls log (r log).1 ((k-sequence_folded leaving names level here bracket p i value attribute reducer initial tt h1.keeps).at log)) in
      (y.0, omega (arith, y.1));
}

pub s-sequence : (which : Tally) (names : Names) (level : Inside) (here : Context) (bracket : ℕ) (p : OptionalParallel) (i : Iter) (value : Expr) (attribute : ℕ) (reducer initial : Expr) → SpendsInside which level
    → Spends which (maybe-known which) 0 (sequence names level here bracket p i value attribute reducer initial)
unfolding sequence
s-sequence which names level here bracket p i value attribute reducer initial h1 =
    s-then which (maybe-known which) _ (unless (is_some (attribute_at (symbol names attribute))) attribute Unknown) _ (k-unless leaving (is_some (attribute_at (symbol names attribute))) attribute Unknown)
    (λ u. sequence-after which names level here bracket p i value attribute reducer initial h1)
