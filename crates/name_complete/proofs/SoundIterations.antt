-- What is judged without a fault is found: iterations and reductions of value sequences.
use Rattle.std.proofs.Common.{◌≡◌, sym, ap, ◌∙◌, true≢false, ℕ, [], length, Option, Some, None, Bool, true, false, if◌then◌else◌, option_map, drop}
use Rattle.std.specs.Prelude.{not, ◌||◌, is_some}
use Rattle.syntax_tree.specs.Syntax as syntax
use Rattle.typed_tree.specs.Decoded as part
use Rattle.typed_tree.specs.Decoded.{TypedPart}
use Rattle.name_rules.specs.Expressions.{Inside, expr, simple}
use Rattle.name_rules.specs.Found.{Denoted, Found}
use Rattle.name_rules.specs.Judging.{Judging, ◌>>=◌, both, breaks, given, joined, pure, unless}
use Rattle.name_rules.specs.Scope.{with_entry}
use Rattle.name_rules.specs.Symbols.{symbol}
use Rattle.name_rules.specs.TypedParts.{selections_of}
use Rattle.name_rules.specs.declared.found.Denoted.TheVariants as denoted
use Rattle.name_rules.specs.declared.found.Denoted.{Denoted as KnownDenoted}
use Rattle.name_rules.specs.declared.found.Found.TheVariants as known
use Rattle.name_rules.specs.declared.found.ObjectName.{ObjectName}
use Rattle.name_rules.specs.declared.log.Log.{Log}
use Rattle.name_rules.specs.declared.log.Rule.TheVariants as rule
use Rattle.name_rules.specs.declared.scope.Context.{Context}
use Rattle.name_rules.specs.declared.scope.Names.{Names}
use Rattle.name_rules.specs.declared.types.Wanted.TheVariants as wanted
use Rattle.name_complete.proofs.Explains.{Any, Is, Sound, differ, joint, mapped, ok, s-bind, s-both, s-breaks, s-broken, s-given, s-logged, s-pure, s-test, s-unless}
use Rattle.name_complete.proofs.Facts.{Clear, DenotedOf, FoundOk, LevelSound}
use Rattle.std.specs.List.{list_all}
use Rattle.syntax_tree.specs.Syntax.{Expr, Iter, OptionalExpr, OptionalParallel, Parallel, Simple}
use Rattle.name_rules.specs.declared.found.Attribute.{Attribute}
use Rattle.name_rules.specs.Attributes.{attribute_at}
use Rattle.typed_tree.specs.Syntax.{Selections}
use Rattle.typed_tree.specs.declared.program.SiteKind.{SiteKind}
use Rattle.typed_tree.specs.declared.program.SiteKind.TheVariants as site
use Rattle.name_rules.specs.Found.{Bounded}
use Rattle.name_rules.specs.Iterations as i
use Rattle.name_rules.specs.Iterations.{Chunked, Entered, Walked}
use Rattle.name_rules.specs.Names.{is_array}
use Rattle.name_rules.specs.Parts.{array_shape, new_parameter, new_site}
use Rattle.name_rules.specs.Ranges.{range}
use Rattle.name_rules.specs.Reducers.{reducer_of}
use Rattle.name_rules.specs.Scope.{is_taken}
use Rattle.name_rules.specs.Types.{component_of}
use Rattle.name_rules.specs.declared.found.Folding.{Folding}
use Rattle.name_rules.specs.declared.log.Shape.{Shape}
use Rattle.name_rules.specs.declared.log.Shape.TheVariants as shape
use Rattle.name_rules.specs.declared.scope.What.{What}
use Rattle.name_complete.proofs.Facts.{NotBroken, clear-entry}
use Rattle.name_complete.proofs.SoundExpressions.{s-condition, s-expr, s-simple}
use Rattle.name_complete.proofs.SoundNames.{s-new_parameter, s-new_site}
use Rattle.name_complete.proofs.SoundRanges.{s-range}
use Rattle.name_complete.proofs.SoundReducers.{s-folded_by, s-reducer_of}
use Rattle.name_complete.proofs.SoundValues.{s-any_integer}

-- ---- chunk specifications

abbrev EntryOk : Option (ℕ × What) → Type 0
EntryOk None = Unit {0}
EntryOk (Some e) = NotBroken e.1

abbrev ChunkedOf : Chunked → Type 0
ChunkedOf c = Is Any c.chunk × EntryOk c.entry

parameter-good : (n : ℕ) (b : Option Bounded) → Is Any b → NotBroken (i.parameter_what n b)
parameter-good n None h = h
parameter-good n (Some b) h = tt

pub s-chunk_count : (G : Type 0) (level : Inside) (here : Context) (s : Simple) → LevelSound level → (G → Clear here) → Sound G (Is Any) (i.chunk_count level here s)
unfolding i.chunk_count
s-chunk_count G level here s l c = s-bind G (Is FoundOk) (Is Any) (simple level here wanted.Other s) _ (s-simple G level here wanted.Other s l c (λ g. tt)) (λ x. s-given _ FoundOk Any x _ (λ g. g.1) (λ f. s-any_integer _ f))

s-chunked_by : (G : Type 0) (inner : Inside) (here : Context) (p : Parallel) → LevelSound inner → (G → Clear here) → Sound G ChunkedOf (i.chunked_by inner here p)
unfolding i.chunked_by
s-chunked_by G inner here (syntax.Unchunked at) l c = s-pure G ChunkedOf _ (λ g. (tt, tt))
s-chunked_by G inner here (syntax.Counted at s) l c =
    s-bind G (Is Any) ChunkedOf (i.chunk_count inner here s) _ (s-chunk_count G inner here s l c) (λ e. s-pure _ ChunkedOf (record { chunk = option_map i.counted e; entry = None }) (λ g. (mapped Any Any i.counted e g.1 (λ x y. tt), tt)))
s-chunked_by G inner here (syntax.Chunked at index r) l c =
    s-bind G (Is Any) ChunkedOf (range inner here r) _ (s-range G inner here r l c) (λ b.
    s-bind _ Any ChunkedOf new_parameter _ (s-new_parameter _) (λ n.
    s-pure _ ChunkedOf (record { chunk = option_map (i.each_chunk n) b; entry = Some (index, i.parameter_what n b) }) (λ g. (mapped Any Any (i.each_chunk n) b g.0.1 (λ x y. tt), parameter-good n b g.0.1))))

-- ---- iterations

abbrev WalkedOf : Walked → Type 0
WalkedOf w = Is Any w.made × NotBroken w.entry

array-item : (n : ℕ) (v : Bool) (t : Option Shape) → is_array t ≡ true → NotBroken (i.item_what n v (component_of t))
array-item n v (Some (shape.Array ds c k cells)) h = tt
array-item n v t h = differ (sym h)

s-over_place : (G : Type 0) (n token : ℕ) (f : OptionalExpr) (p : ObjectName) (ss : Selections) → Sound G WalkedOf (i.over_place n token f p ss)
s-over_place G n token f p ss = s-logged G WalkedOf (λ log. if is_array (array_shape log p.subtype) then pure (i.array_walked log n token f p ss (array_shape log p.subtype)) else (breaks p.first rule.WrongType >>= λ u. pure (i.no_array token f))) (λ log.
    s-test G WalkedOf (is_array (array_shape log p.subtype)) _ _ (s-pure _ WalkedOf (i.array_walked log n token f p ss (array_shape log p.subtype)) (λ g. (tt, array-item n p.variable (array_shape log p.subtype) g.1)))
    (s-broken _ WalkedOf p.first rule.WrongType (i.no_array token f)))

s-over_form : (G : Type 0) (n token : ℕ) (f : OptionalExpr) (d : KnownDenoted) (x : TypedPart) → Sound G WalkedOf (i.over_form n token f d x)
s-over_form G n token f (denoted.Value (known.Object p)) x = s-over_place G n token f p (selections_of x)
s-over_form G n token f d x = s-broken G WalkedOf _ rule.WrongType (i.no_array token f)

s-over_denoted : (G : Type 0) (n token : ℕ) (f : OptionalExpr) (d : Option Denoted) → (G → Is DenotedOf d) → Sound G WalkedOf (i.over_denoted n token f d)
s-over_denoted G n token f None h = s-pure G WalkedOf (i.no_array token f) (λ g. absurd (h g))
s-over_denoted G n token f (Some d) h = s-over_form G n token f d.known d.part

s-walked : (G : Type 0) (level : Inside) (here : Context) (x : Iter) → LevelSound level → (G → Clear here) → Sound G WalkedOf (i.walked level here x)
unfolding i.walked
s-walked G level here (syntax.InRange index back r f) l c =
    s-bind G (Is Any) WalkedOf (range level here r) _ (s-range G level here r l c) (λ b.
    s-bind _ Any WalkedOf new_parameter _ (s-new_parameter _) (λ n.
    s-pure _ WalkedOf (record { made = option_map (i.range_made n (is_some back)) b; token = index; entry = i.parameter_what n b; filter = f; reverse = back }) (λ g. (mapped Any Any (i.range_made n (is_some back)) b g.0.1 (λ x y. tt), parameter-good n b g.0.1))))
s-walked G level here (syntax.OfName index nm f) l c =
    s-bind G (Is DenotedOf) WalkedOf (level.name here nm) _ (l.name G here nm c) (λ d.
    s-bind _ Any WalkedOf new_parameter _ (s-new_parameter _) (λ n. s-over_denoted _ n index f d (λ g. g.0.1)))

clear-chunk : (names : Names) (here : Context) (e : Option (ℕ × What)) → EntryOk e → Clear here → Clear (i.with_chunk names here e)
clear-chunk names here None h c = c
clear-chunk names here (Some e) h c = clear-entry here (symbol names e.0) e.1 h c

clear-construct : (names : Names) (here : Context) (n : Option ℕ) → Clear here → Clear (i.in_construct names here n)
clear-construct names here None c = c
clear-construct names here (Some n) c = record { scope = c.scope; target = c.target; returns = c.returns }

s-with_walked : (G : Type 0) (names : Names) (here : Context) (start : ℕ) (w : Walked) → (G → Clear here) → (G → WalkedOf w) → Sound G Clear (i.with_walked names here start w)
s-with_walked G names here start w c h =
    s-bind G _ Clear (unless (not (is_taken (symbol names w.token) start here)) w.token rule.Twice) _ (s-unless G (not (is_taken (symbol names w.token) start here)) w.token rule.Twice) (λ u.
    s-pure _ Clear (with_entry here (symbol names w.token) w.entry) (λ g. clear-entry here (symbol names w.token) w.entry (h g.0).1 (c g.0)))

s-filter_where : (G : Type 0) (names : Names) (level : Inside) (here : Context) (f : OptionalExpr) → LevelSound level → (G → Clear here) → Sound G (Is Any) (i.filter_where names level here f)
s-filter_where G names level here syntax.AbsentExpr l c = ok G _
s-filter_where G names level here (syntax.PresentExpr e) l c = s-condition G names level here e l c

pub record EnteredOf (e : Entered) : Type 0 where
  pub around : Clear e.here
  pub chunk : Is Any e.chunk
  pub iteration : Is Any e.iteration

s-entered_with : (G : Type 0) (names : Names) (level : Inside) (here : Context) (construct : Option ℕ) (start : ℕ) (c : Chunked) (x : Iter) → LevelSound level → (G → Clear here) → (G → ChunkedOf c) → Sound G EnteredOf (i.entered_with names level here construct start c x)
unfolding i.entered_with
s-entered_with G names level here construct start k x l c h =
    s-bind G WalkedOf EnteredOf (i.walked level here x) _ (s-walked G level here x l c) (λ w.
    let near = i.with_chunk names (i.in_construct names here construct) k.entry in
    s-bind _ Clear EnteredOf (i.with_walked names near start w) _ (s-with_walked _ names near start w (λ g. clear-chunk names (i.in_construct names here construct) k.entry (h g.0).1 (clear-construct names here construct (c g.0))) (λ g. g.1)) (λ inner.
    s-bind _ (Is Any) EnteredOf (i.filter_where names level inner w.filter) _ (s-filter_where _ names level inner w.filter l (λ g. g.1)) (λ f.
    s-pure _ EnteredOf (record { construct = construct; chunk = k.chunk; iteration = joined i.filtered w.made f; here = inner; reverse = w.reverse })
    (λ g. record { around = g.0.1; chunk = (h g.0.0.0).0; iteration = joint Any Any Any i.filtered w.made f g.0.0.1.0 g.1 (λ a b p q. tt) }))))

pub s-entered : (G : Type 0) (names : Names) (level inner : Inside) (here : Context) (k : SiteKind) (p : OptionalParallel) (x : Iter) → LevelSound level → LevelSound inner → (G → Clear here) → Sound G EnteredOf (i.entered names level inner here k p x)
unfolding i.entered
s-entered G names level inner here k syntax.AbsentParallel x l m c = s-entered_with G names level here None (length here.scope) (record { chunk = Some part.Nothing; entry = None }) x l c (λ g. (tt, tt))
s-entered G names level inner here k (syntax.PresentParallel p) x l m c =
    s-bind G Any EnteredOf (new_site here (i.parallel_at p) k) _ (s-new_site G here (i.parallel_at p) k) (λ n.
    s-bind _ ChunkedOf EnteredOf (i.chunked_by inner here p) _ (s-chunked_by _ inner here p m (λ g. c g.0)) (λ h.
    s-entered_with _ names level here (Some n) (length here.scope) h x l (λ g. c g.0.0) (λ g. g.1)))

-- ---- reductions of value sequences

s-reverse_rule : (G : Type 0) (x : Option ℕ) → Sound G Any (i.reverse_rule x)
s-reverse_rule G None = s-pure G Any tt (λ g. tt)
s-reverse_rule G (Some at) = s-breaks G Any at rule.ChunkRule

none-else : (a b : Log) → a.faults ≡ [] → b.faults ≡ [] → list_all (λ f. i.is_reduce_rule f.rule) (drop (length a.faults) b.faults) ≡ true
none-else a b e f = ap (λ fs. list_all (λ f. i.is_reduce_rule f.rule) (drop (length fs) b.faults)) e ∙ ap (λ fs. list_all (λ f. i.is_reduce_rule f.rule) fs) f

s-only_reduce_rules : (G : Type 0) {A : Type 0} (Q : A → Type 0) (p : Judging A) → Sound G Q p → Sound G (λ r. Q r.0 × (r.1 ≡ true)) (i.only_reduce_rules p)
s-only_reduce_rules G Q p m = record { grows = m.grows; at = λ log c e g. (m.at log c e g, none-else log (p log).1 ((m.grows log).back e) e) }

abbrev FoldedOf : Option ℕ × Option Found → Type 0
FoldedOf p = Is FoundOk p.1

s-sequence_given : (G : Type 0) (bracket attribute : ℕ) (e : Entered) (f : Folding) (x y : Found) → (G → EnteredOf e) → Sound G (Is FoundOk) (i.sequence_given bracket attribute e f x y)
s-sequence_given G bracket attribute e f x y h = s-both G Any Any FoundOk e.chunk e.iteration _ (λ g. (h g).chunk) (λ g. (h g).iteration) (λ c k. s-folded_by _ (record { at = bracket; attribute = attribute; site = e.construct }) c k f x y)

s-sequence_folded : (G : Type 0) (names : Names) (level : Inside) (here : Context) (bracket : ℕ) (p : OptionalParallel) (x : Iter) (value : Expr) (attribute : ℕ) (reducer initial : Expr) → LevelSound level → (G → Clear here)
    → Sound G FoldedOf (i.sequence_folded names level here bracket p x value attribute reducer initial)
s-sequence_folded G names level here bracket p x value attribute reducer initial l c =
    s-bind G (Is Any) FoldedOf (reducer_of names level here reducer) _ (s-reducer_of G names level here reducer l c) (λ f.
    s-bind _ EnteredOf FoldedOf (i.entered names level level here site.Reduction p x) _ (s-entered _ names level level here site.Reduction p x l l (λ g. c g.0)) (λ e.
    s-bind _ (Is FoundOk) FoldedOf (expr names level e.here wanted.Other value) _ (s-expr _ names level e.here wanted.Other value l (λ g. g.1.around) (λ g. tt)) (λ y.
    s-bind _ (Is FoundOk) FoldedOf (expr names level here wanted.Other initial) _ (s-expr _ names level here wanted.Other initial l (λ g. c g.0.0.0) (λ g. tt)) (λ w.
    s-bind _ (Is FoundOk) FoldedOf (given f (λ g. both y w (i.sequence_given bracket attribute e g))) _
    (s-given _ Any FoundOk f _ (λ g. g.0.0.0.1) (λ k. s-both _ FoundOk FoundOk FoundOk y w _ (λ g. g.0.0.1) (λ g. g.0.1) (λ a b. s-sequence_given _ bracket attribute e k a b (λ g. g.0.0.0.0.0.1)))) (λ z.
    s-pure _ FoldedOf (e.reverse, z) (λ g. g.1))))))

s-sequence_rules : (G : Type 0) (attribute : ℕ) (a : Option Attribute) (p : (Option ℕ × Option Found) × Bool) → (G → FoldedOf p.0) → (G → p.1 ≡ true) → Sound G (Is FoundOk) (i.sequence_rules attribute a p)
s-sequence_rules G attribute a p h t =
    s-test G (Is FoundOk) (not p.1) _ _ (s-pure _ (Is FoundOk) None (λ g. never p.1 (t g.0) g.1))
    (s-bind _ _ (Is FoundOk) (unless (not (is_some a) || i.is_reduce a) attribute rule.ReduceRule) _ (s-unless _ (not (is_some a) || i.is_reduce a) attribute rule.ReduceRule) (λ u.
    s-bind _ Any (Is FoundOk) (i.reverse_rule p.0.0) _ (s-reverse_rule _ p.0.0) (λ w. s-pure _ (Is FoundOk) p.0.1 (λ g. h g.0.0.0))))
  where
    never : (b : Bool) → b ≡ true → not b ≡ true → ⊥
    never true e f = true≢false (sym f)
    never false e f = true≢false (sym e)

pub s-sequence : (G : Type 0) (names : Names) (level : Inside) (here : Context) (bracket : ℕ) (p : OptionalParallel) (x : Iter) (value : Expr) (attribute : ℕ) (reducer initial : Expr) → LevelSound level → (G → Clear here)
    → Sound G (Is FoundOk) (i.sequence names level here bracket p x value attribute reducer initial)
unfolding i.sequence
s-sequence G names level here bracket p x value attribute reducer initial l c =
    s-bind G _ (Is FoundOk) (unless (is_some (attribute_at (symbol names attribute))) attribute rule.Unknown) _ (s-unless G (is_some (attribute_at (symbol names attribute))) attribute rule.Unknown) (λ u.
    s-bind _ (λ r. FoldedOf r.0 × (r.1 ≡ true)) (Is FoundOk) (i.only_reduce_rules (i.sequence_folded names level here bracket p x value attribute reducer initial)) _
    (s-only_reduce_rules _ FoldedOf (i.sequence_folded names level here bracket p x value attribute reducer initial) (s-sequence_folded _ names level here bracket p x value attribute reducer initial l (λ g. c g.0))) (λ r.
    s-sequence_rules _ attribute (attribute_at (symbol names attribute)) r (λ g. g.1.0) (λ g. g.1.1)))
