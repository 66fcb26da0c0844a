-- What is found fits: ranges and what iterations go through.
use Rattle.std.proofs.Common.{ℕ, ℤ, List, [], ◌∷◌, ◌++◌, length, Option, Some, None, Bool, option_map}
use Rattle.std.specs.Prelude.{is_some, not}
use Rattle.syntax_tree.specs.FirstTokens as first_token
use Rattle.syntax_tree.specs.Syntax as syntax
use Rattle.syntax_tree.specs.Syntax.{Iter, OptionalExpr, OptionalParallel, Parallel, Range, Simple}
use Rattle.typed_tree.specs.Decoded as part
use Rattle.typed_tree.specs.Decoded.{TypedPart, as_iteration, as_optional}
use Rattle.typed_tree.specs.Syntax as typed
use Rattle.typed_tree.specs.Syntax.{Iteration, Optional, Selections}
use Rattle.typed_tree.specs.declared.program.SiteKind.{SiteKind}
use Rattle.typed_tree.specs.declared.scalars.Class.{Class}
use Rattle.typed_tree.specs.declared.scalars.Class.TheVariants as class
use Rattle.name_rules.specs.Expressions.{Inside, condition, simple}
use Rattle.name_rules.specs.Found.{Bounded, Denoted, Found}
use Rattle.name_rules.specs.Iterations.{Chunked, Entered, Walked, array_walked, chunk_count, chunked_by, counted, each_chunk, entered, entered_with, filter_where, filtered, in_construct, item_what, no_array, over_denoted, over_form, over_place, parallel_at, parameter_what, range_made, walked, with_chunk, with_filter, with_walked}
use Rattle.name_rules.specs.Judging.{◌>>=◌, breaks, fault, given, joined, pure, unless, some}
use Rattle.name_rules.specs.Names.{denoted_first, is_array}
use Rattle.name_rules.specs.Operators.{common_kind}
use Rattle.name_rules.specs.Parts.{array_shape, new_parameter, new_site, through}
use Rattle.name_rules.specs.Ranges.{bounded_by, bounds_of, checked_range, named_range, own_bounds, own_range, range, range_part, scalar_type, two_bounds, whole_range}
use Rattle.name_rules.specs.Scope.{entry, is_taken, with_entry}
use Rattle.name_rules.specs.Symbols.{symbol}
use Rattle.name_rules.specs.TypedParts.{high_of, low_of, selections_of}
use Rattle.name_rules.specs.Types.{base_of, class_of, component_of, is_modular}
use Rattle.name_rules.specs.Values.{any_integer, asked, first_of, is_scalar, kind_of, suits}
use Rattle.name_rules.specs.declared.found.Denoted.TheVariants as denoted
use Rattle.name_rules.specs.declared.found.Denoted.{Denoted as KnownDenoted}
use Rattle.name_rules.specs.declared.found.Found.TheVariants as known
use Rattle.name_rules.specs.declared.found.ObjectName.{ObjectName}
use Rattle.name_rules.specs.declared.log.Log.{Log}
use Rattle.name_rules.specs.declared.log.Rule.TheVariants.{Twice, WrongType}
use Rattle.name_rules.specs.declared.log.Shape.{Shape}
use Rattle.name_rules.specs.declared.scope.Context.{Context}
use Rattle.name_rules.specs.declared.scope.Entry.{Entry}
use Rattle.name_rules.specs.declared.scope.Names.{Names}
use Rattle.name_rules.specs.declared.scope.What.{What}
use Rattle.name_rules.specs.declared.types.Kind.{Kind}
use Rattle.name_rules.specs.declared.types.Kind.TheVariants as kind
use Rattle.name_rules.specs.declared.types.Scalar.{Scalar}
use Rattle.name_rules.specs.declared.types.Subtype.{Subtype}
use Rattle.name_rules.specs.declared.types.Subtype.TheVariants as subtype
use Rattle.name_rules.specs.declared.types.Wanted.TheVariants as wanted
use Rattle.name_laws.proofs.Based.{spanning, plain-span}
use Rattle.name_laws.proofs.KeepsParts.{k-new_parameter, k-new_site}
use Rattle.name_laws.proofs.KeepsRanges.{k-scalar_type}
use Rattle.name_laws.proofs.Makes.{Any, Makes, Maybe, joint, m-bind, m-both, m-breaks, m-fault, m-given, m-if, m-kept, m-pure, m-some, m-unless, mapped, m-rest}
use Rattle.name_laws.proofs.MakesExpressions.{Finding, LevelFits, m-condition, m-simple}
use Rattle.name_laws.proofs.MakesReducers.{ChunkOf, IterationOf}
use Rattle.name_laws.proofs.MakesScope.{DenotedOf, DenotesOf}
use Rattle.name_laws.proofs.MakesValues.{AskedOf, ExprOf, FoundOf, m-any_integer, m-asked, selections-fit, has-plain}
use Rattle.name_laws.specs.Based.{AreBased, IsBasedWhat, IsSpan}
use Rattle.name_laws.specs.Classes.{ExprFits, IterationFits, OptionalFits, SelectionsFit}

-- ---- ranges

-- two bounds of one class
abbrev pub RangeOf : TypedPart → Type 0
RangeOf p = (d : Class) × ExprFits d (low_of p) × ExprFits d (high_of p)

abbrev pub BoundedOf : Bounded → Type 0
BoundedOf b = RangeOf b.part

abbrev pub AreFinding : Option Found × Option Found → Type 0
AreFinding r = Finding r.0 × Finding r.1

pub m-two_bounds : (level : Inside) (here : Context) (low high : Simple) → LevelFits level → AreBased here.scope → Makes AreFinding (two_bounds level here low high)
unfolding two_bounds
m-two_bounds level here low high l r =
    m-bind Finding AreFinding (simple level here wanted.Other low) _ (m-simple level here wanted.Other low l r) (λ x p.
    m-bind Finding AreFinding (simple level here wanted.Other high) _ (m-simple level here wanted.Other high l r) (λ y q. m-pure AreFinding (x, y) (p, q)))

m-bounds_of : (k : Kind) (a z : Found) → FoundOf a → FoundOf z → Makes (Maybe RangeOf) (bounds_of k a z)
unfolding bounds_of
m-bounds_of k a z g h =
    m-bind (Maybe (AskedOf k)) (Maybe RangeOf) (asked k a) _ (m-asked k a g) (λ x p.
    m-bind (Maybe (AskedOf k)) (Maybe RangeOf) (asked k z) _ (m-asked k z h) (λ y q.
    m-pure (Maybe RangeOf) (joined range_part x y) (joint (AskedOf k) (AskedOf k) RangeOf range_part x y p q (λ m n s t. (class_of k, s, t)))))

m-own_range : (first : ℕ) (a z : Found) (k : Kind) → FoundOf a → FoundOf z → Makes (Maybe BoundedOf) (own_range first a z k)
m-own_range first a z k g h =
    m-bind (Maybe RangeOf) (Maybe BoundedOf) (bounds_of k a z) _ (m-bounds_of k a z g h) (λ x q. m-pure (Maybe BoundedOf) (option_map (bounded_by first (base_of k) None a z) x) (mapped RangeOf BoundedOf (bounded_by first (base_of k) None a z) x q (λ y s. s)))

m-own_bounds : (first : ℕ) (a z : Found) → FoundOf a → FoundOf z → Makes (Maybe BoundedOf) (own_bounds first a z)
unfolding own_bounds
m-own_bounds first a z g h =
    let k = common_kind (kind_of a.known) (kind_of z.known) in
    m-if (Maybe BoundedOf) (not (is_scalar a.known)) (fault (first_of a.known) WrongType) _ (m-fault BoundedOf (first_of a.known) WrongType)
    (m-if (Maybe BoundedOf) (not (suits k a.known)) (fault (first_of z.known) WrongType) _ (m-fault BoundedOf (first_of z.known) WrongType)
    (m-if (Maybe BoundedOf) (is_modular k) (fault (first_of a.known) WrongType) (own_range first a z k) (m-fault BoundedOf (first_of a.known) WrongType) (m-own_range first a z k g h)))

m-checked_range : (first : ℕ) (s : Scalar) (a z : Found) → FoundOf a → FoundOf z → Makes (Maybe BoundedOf) (checked_range first s a z)
unfolding checked_range
m-checked_range first s a z g h =
    m-if (Maybe BoundedOf) (is_modular s.kind) (fault first WrongType) _ (m-fault BoundedOf first WrongType)
    (m-bind (Maybe RangeOf) (Maybe BoundedOf) (bounds_of s.kind a z) _ (m-bounds_of s.kind a z g h) (λ x q. m-pure (Maybe BoundedOf) (option_map (bounded_by first s (Some s) a z) x) (mapped RangeOf BoundedOf (bounded_by first s (Some s) a z) x q (λ y t. t))))

whole-range : (first : ℕ) (k : Kind) (low high : ℤ) (ms : TypedPart) → IsSpan k low high → BoundedOf (whole_range first k low high ms)
whole-range first k low high ms h = (class_of k, has-plain k low h.plain h.range.first, has-plain k high h.plain h.range.last)

m-named_range : (k : KnownDenoted) (x : TypedPart) → DenotesOf k x → Makes (Maybe BoundedOf) (named_range k x)
m-named_range (denoted.Range first d) x h = m-some BoundedOf (whole_range first d.kind d.low d.high x) (whole-range first d.kind d.low d.high x h)
m-named_range (denoted.Type first (subtype.Scalar s)) x h =
    m-rest (Maybe BoundedOf) (is_modular s.kind) (fault first WrongType) (some (whole_range first s.kind s.low s.high part.Nothing)) (m-fault BoundedOf first WrongType)
    (λ e. m-some BoundedOf (whole_range first s.kind s.low s.high part.Nothing) (whole-range first s.kind s.low s.high part.Nothing (plain-span s.kind s.low s.high e h)))
m-named_range k x h = m-fault BoundedOf (denoted_first k) WrongType

pub any : {A : Type 0} (x : Option A) → Maybe Any x
any None = tt
any (Some a) = tt

pub m-scalar_type : (d : Option Denoted) → Makes (Maybe Any) (given d (λ x. scalar_type x.known))
m-scalar_type None = record { at = λ log h. (h, tt) }
m-scalar_type (Some d) = record { at = λ log h. (((k-scalar_type spanning d.known).at log).at h, any (scalar_type d.known log).0) }

pub m-range : (level : Inside) (here : Context) (x : Range) → LevelFits level → AreBased here.scope → Makes (Maybe BoundedOf) (range level here x)
unfolding range
m-range level here (syntax.Bounded low high) l r =
    m-bind AreFinding (Maybe BoundedOf) (two_bounds level here low high) _ (m-two_bounds level here low high l r) (λ x q. m-both FoundOf FoundOf BoundedOf x.0 x.1 (own_bounds (first_token.of_simple low)) q.0 q.1 (λ a z g h. m-own_bounds (first_token.of_simple low) a z g h))
m-range level here (syntax.Whole n) l r =
    m-bind (Maybe DenotedOf) (Maybe BoundedOf) (level.name here n) _ (l.name here n r) (λ d q. m-given DenotedOf BoundedOf d _ q (λ x s. m-named_range x.known x.part s))
m-range level here (syntax.Constrained n low high) l r =
    m-bind (Maybe DenotedOf) (Maybe BoundedOf) (level.name here n) _ (l.name here n r) (λ d q.
    m-bind (Maybe Any) (Maybe BoundedOf) (given d (λ x. scalar_type x.known)) _ (m-scalar_type d) (λ s p.
    m-bind AreFinding (Maybe BoundedOf) (two_bounds level here low high) _ (m-two_bounds level here low high l r) (λ x t.
    m-given Any BoundedOf s _ p (λ u v. m-both FoundOf FoundOf BoundedOf x.0 x.1 (checked_range (first_token.of_name n) u) t.0 t.1 (λ a z g h. m-checked_range (first_token.of_name n) u a z g h)))))

-- ---- chunk specifications

parameter-based : (n : ℕ) (b : Option Bounded) → IsBasedWhat (parameter_what n b)
parameter-based n None = tt
parameter-based n (Some b) = tt

pub m-chunk_count : (level : Inside) (here : Context) (s : Simple) → LevelFits level → AreBased here.scope → Makes (Maybe ExprOf) (chunk_count level here s)
unfolding chunk_count
m-chunk_count level here s l r = m-bind Finding (Maybe ExprOf) (simple level here wanted.Other s) _ (m-simple level here wanted.Other s l r) (λ x q. m-given FoundOf ExprOf x any_integer q (λ f t. m-any_integer f t))

abbrev EntryOf : Option (ℕ × What) → Type 0
EntryOf None = Unit {0}
EntryOf (Some e) = IsBasedWhat e.1

abbrev ChunkedOf : Chunked → Type 0
ChunkedOf c = Maybe ChunkOf c.chunk × EntryOf c.entry

m-chunked_by : (inner : Inside) (here : Context) (p : Parallel) → LevelFits inner → AreBased here.scope → Makes ChunkedOf (chunked_by inner here p)
unfolding chunked_by
m-chunked_by inner here (syntax.Unchunked at) l r = m-pure ChunkedOf (record { chunk = Some part.Nothing; entry = None }) (tt, tt)
m-chunked_by inner here (syntax.Counted at s) l r =
    m-bind (Maybe ExprOf) ChunkedOf (chunk_count inner here s) _ (m-chunk_count inner here s l r) (λ e q. m-pure ChunkedOf (record { chunk = option_map counted e; entry = None }) (mapped ExprOf ChunkOf counted e q (λ x t. t), tt))
m-chunked_by inner here (syntax.Chunked at index x) l r =
    m-bind (Maybe BoundedOf) ChunkedOf (range inner here x) _ (m-range inner here x l r) (λ b q.
    m-bind Any ChunkedOf new_parameter _ (m-kept new_parameter (k-new_parameter spanning)) (λ n p.
    m-pure ChunkedOf (record { chunk = option_map (each_chunk n) b; entry = Some (index, parameter_what n b) }) (mapped BoundedOf ChunkOf (each_chunk n) b q (λ y t. t), parameter-based n b)))

-- ---- iterations

abbrev WalkedOf : Walked → Type 0
WalkedOf w = Maybe IterationOf w.made × IsBasedWhat w.entry

item-based : (n : ℕ) (v : Bool) (t : Option Subtype) → IsBasedWhat (item_what n v t)
item-based n v None = tt
item-based n v (Some s) = tt

pub through-fits : (log : Log) (p : ObjectName) (ss : Selections) (t : Option Shape) (n : ℕ) → SelectionsFit ss → IterationOf (part.AnIteration (through log p ss t n typed.Absent))
through-fits log p ss t n h = (h, tt)

m-over_place : (n token : ℕ) (f : OptionalExpr) (p : ObjectName) (ss : Selections) → SelectionsFit ss → Makes WalkedOf (over_place n token f p ss)
m-over_place n token f p ss h = record {
  at = λ log g.
      (m-if WalkedOf (is_array (array_shape log p.subtype)) (pure (array_walked log n token f p ss (array_shape log p.subtype))) _
      (m-pure WalkedOf (array_walked log n token f p ss (array_shape log p.subtype)) ((h, tt), item-based n p.variable (component_of (array_shape log p.subtype))))
      (m-bind Any WalkedOf (breaks p.first WrongType) _ (m-breaks p.first WrongType) (λ u q. m-pure WalkedOf (no_array token f) (tt, tt)))).at log g;
}

m-no_place : (at token : ℕ) (f : OptionalExpr) → Makes WalkedOf (breaks at WrongType >>= λ u. pure (no_array token f))
m-no_place at token f = m-bind Any WalkedOf (breaks at WrongType) _ (m-breaks at WrongType) (λ u q. m-pure WalkedOf (no_array token f) (tt, tt))

m-over_form : (n token : ℕ) (f : OptionalExpr) (k : KnownDenoted) (x : TypedPart) → DenotesOf k x → Makes WalkedOf (over_form n token f k x)
m-over_form n token f (denoted.Value (known.Object p)) x h = m-over_place n token f p (selections_of x) (selections-fit x h.1)
m-over_form n token f k x h = m-no_place (denoted_first k) token f

m-over_denoted : (n token : ℕ) (f : OptionalExpr) (d : Option Denoted) → Maybe DenotedOf d → Makes WalkedOf (over_denoted n token f d)
m-over_denoted n token f None h = m-pure WalkedOf (no_array token f) (tt, tt)
m-over_denoted n token f (Some d) h = m-over_form n token f d.known d.part h

m-walked : (level : Inside) (here : Context) (x : Iter) → LevelFits level → AreBased here.scope → Makes WalkedOf (walked level here x)
unfolding walked
m-walked level here (syntax.InRange index back x f) l r =
    m-bind (Maybe BoundedOf) WalkedOf (range level here x) _ (m-range level here x l r) (λ b q.
    m-bind Any WalkedOf new_parameter _ (m-kept new_parameter (k-new_parameter spanning)) (λ n p.
    m-pure WalkedOf (record { made = option_map (range_made n (is_some back)) b; token = index; entry = parameter_what n b; filter = f; reverse = back }) (mapped BoundedOf IterationOf (range_made n (is_some back)) b q (λ y t. (t, tt)), parameter-based n b)))
m-walked level here (syntax.OfName index x f) l r =
    m-bind (Maybe DenotedOf) WalkedOf (level.name here x) _ (l.name here x r) (λ d q.
    m-bind Any WalkedOf new_parameter _ (m-kept new_parameter (k-new_parameter spanning)) (λ n p. m-over_denoted n index f d q))

pub are-based : (a b : List Entry) → AreBased a → AreBased b → AreBased (a ++ b)
are-based [] b h k = k
are-based (e ∷ a) b h k = (h.0, are-based a b h.1 k)

chunk-based : (names : Names) (here : Context) (e : Option (ℕ × What)) → EntryOf e → AreBased here.scope → AreBased (with_chunk names here e).scope
chunk-based names here None g h = h
chunk-based names here (Some e) g h = are-based here.scope (entry (symbol names e.0) e.1 ∷ []) h (g, tt)

abbrev AroundOf : Context → Type 0
AroundOf c = AreBased c.scope

m-with_walked : (names : Names) (here : Context) (start : ℕ) (w : Walked) → IsBasedWhat w.entry → AreBased here.scope → Makes AroundOf (with_walked names here start w)
m-with_walked names here start w g h =
    m-bind Any AroundOf (unless (not (is_taken (symbol names w.token) start here)) w.token Twice) _ (m-unless (not (is_taken (symbol names w.token) start here)) w.token Twice) (λ u q.
    m-pure AroundOf (with_entry here (symbol names w.token) w.entry) (are-based here.scope (entry (symbol names w.token) w.entry ∷ []) h (g, tt)))

-- a condition that may be left out
abbrev pub FilterOf : TypedPart → Type 0
FilterOf x = OptionalFits class.Boolean (as_optional x)

pub filter-of : (x : TypedPart) → AskedOf kind.Boolean x → FilterOf x
filter-of (part.AnExpr e) h = h
filter-of x h = tt

pub some-filter : (x : Option TypedPart) → Maybe (AskedOf kind.Boolean) x → Maybe FilterOf x
some-filter None h = tt
some-filter (Some x) h = filter-of x h

m-filter_where : (names : Names) (level : Inside) (here : Context) (f : OptionalExpr) → LevelFits level → AreBased here.scope → Makes (Maybe FilterOf) (filter_where names level here f)
m-filter_where names level here syntax.AbsentExpr l r = m-some FilterOf part.Nothing tt
m-filter_where names level here (syntax.PresentExpr e) l r = record { at = λ log h. let m = (m-condition names level here e l r).at log h in (m.0, some-filter (condition names level here e log).0 m.1) }

with-filter : (i : Iteration) (f : Optional) → IterationFits i → OptionalFits class.Boolean f → IterationFits (with_filter i f)
with-filter (typed.Range n b low high c g) f h k = (h.0, k)
with-filter (typed.Components n c at root ss m s d g) f h k = (h.0, k)

abbrev pub EnteredOf : Entered → Type 0
EnteredOf e = Maybe ChunkOf e.chunk × Maybe IterationOf e.iteration × AreBased e.here.scope

construct-based : (names : Names) (here : Context) (c : Option ℕ) → AreBased here.scope → AreBased (in_construct names here c).scope
construct-based names here None h = h
construct-based names here (Some n) h = h

m-entered_with : (names : Names) (level : Inside) (here : Context) (c : Option ℕ) (start : ℕ) (x : Chunked) (i : Iter) → LevelFits level → AreBased here.scope → ChunkedOf x → Makes EnteredOf (entered_with names level here c start x i)
unfolding entered_with
m-entered_with names level here c start x i l r g =
    m-bind WalkedOf EnteredOf (walked level here i) _ (m-walked level here i l r) (λ w q.
    m-bind AroundOf EnteredOf (with_walked names (with_chunk names (in_construct names here c) x.entry) start w) _
    (m-with_walked names (with_chunk names (in_construct names here c) x.entry) start w q.1 (chunk-based names (in_construct names here c) x.entry g.1 (construct-based names here c r))) (λ inner t.
    m-bind (Maybe FilterOf) EnteredOf (filter_where names level inner w.filter) _ (m-filter_where names level inner w.filter l t) (λ f s.
    m-pure EnteredOf (record { construct = c; chunk = x.chunk; iteration = joined filtered w.made f; here = inner; reverse = w.reverse }) (g.0, joint IterationOf FilterOf IterationOf filtered w.made f q.0 s (λ a b m n. with-filter (as_iteration a) (as_optional b) m n), t))))

pub m-entered : (names : Names) (level inner : Inside) (here : Context) (k : SiteKind) (p : OptionalParallel) (i : Iter) → LevelFits level → LevelFits inner → AreBased here.scope → Makes EnteredOf (entered names level inner here k p i)
unfolding entered
m-entered names level inner here k syntax.AbsentParallel i l m r = m-entered_with names level here None (length here.scope) (record { chunk = Some part.Nothing; entry = None }) i l r (tt, tt)
m-entered names level inner here k (syntax.PresentParallel p) i l m r =
    m-bind Any EnteredOf (new_site here (parallel_at p) k) _ (m-kept (new_site here (parallel_at p) k) (k-new_site spanning here (parallel_at p) k)) (λ n q.
    m-bind ChunkedOf EnteredOf (chunked_by inner here p) _ (m-chunked_by inner here p m r) (λ c s. m-entered_with names level here (Some n) (length here.scope) c i l r s))
