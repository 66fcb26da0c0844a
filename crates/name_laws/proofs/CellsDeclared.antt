-- Declarations leave what is right: the subtypes that they name stand in the table.
use Rattle.std.proofs.Common.{◌≡◌, refl, true≢false, ℕ, ℤ, ◌<◌, ◌≤◌, int_le, List, [], ◌∷◌, ◌++◌, length, Option, Some, None, Bool, true, false, sym, ap, subst, ◌∙◌, ◌⊎◌, inl, inr, arith, if◌then◌else◌, nat_le, option_map, ◌==◌, ◌&&◌, ◌||◌}
use Rattle.name_rules.specs.declared.types.Kind.TheVariants as kind
use Rattle.name_laws.proofs.Based.{kept-twice, plain-kept}
use Rattle.std.specs.Prelude.{◌||◌}
use Rattle.ada_base.specs.declared.reason.Reason.TheVariants as reason
use Rattle.syntax_tree.specs.Syntax as syntax
use Rattle.syntax_tree.specs.Syntax.{Array, Indic}
use Rattle.typed_tree.specs.Decoded as part
use Rattle.typed_tree.specs.Decoded.{TypedPart}
use Rattle.name_rules.specs.Declarations as d
use Rattle.name_rules.specs.Declarations.{Dimensions, Indicated, indicated}
use Rattle.name_rules.specs.Expressions.{Inside}
use Rattle.name_rules.specs.Found.{Denoted, Found, denote}
use Rattle.name_rules.specs.Judging.{Judging, ◌>>=◌, both, clean, fault, given, joined, pure, some, where_clean}
use Rattle.name_laws.proofs.CellsCounted.{HasValue, HaveValues, values_both}
use Rattle.name_laws.proofs.KeepsRanges.{k-static_range}
use Rattle.syntax_tree.specs.FirstTokens as first_token
use Rattle.name_rules.specs.Ranges as ranges
use Rattle.name_rules.specs.Ranges.{Static}
use Rattle.name_rules.specs.Limits.{most_dimensions}
use Rattle.name_rules.specs.declared.log.Bound.TheVariants as bound
use Rattle.name_rules.specs.declared.log.Rule.TheVariants.{StaticRange, WrongType}
use Rattle.name_rules.specs.Types.{kept, is_modular}
use Rattle.name_rules.specs.Values.{is_number as is_numeric, suits}
use Rattle.name_rules.specs.declared.types.Kind.{Kind}
use Rattle.std.specs.Prelude.{not}
use Rattle.name_rules.specs.Operators.{both_mentions}
use Rattle.name_rules.specs.Ranges.{both_static, two_bounds}
use Rattle.name_rules.specs.Scope.{as_scalar, as_type, declared, entry, free, hidden_where, in_integer_io, in_text_io, is_withed, named, predefined, procedure_of, reach_of, stands, stands_for, subtype_named, undeclared, used_name}
use Rattle.name_rules.specs.Symbols.{ada_name, data_error_name, end_error_name, integer_io_name, symbol, text_io_name}
use Rattle.name_rules.specs.Types.{array_cells, cells_in, lies_in, number_of}
use Rattle.name_rules.specs.TypedParts.{also_all}
use Rattle.name_rules.specs.Values.{first_of}
use Rattle.name_rules.specs.declared.found.Denoted.TheVariants as denoted
use Rattle.name_rules.specs.declared.found.Denoted.{Denoted as Known}
use Rattle.name_rules.specs.declared.found.Reach.{Reach}
use Rattle.name_rules.specs.declared.log.Dimension.{Dimension}
use Rattle.name_rules.specs.declared.log.Log.{Log}
use Rattle.name_rules.specs.declared.log.Rule.{Rule}
use Rattle.name_rules.specs.declared.log.Rule.TheVariants.{Limit, NotVisible, Unknown}
use Rattle.name_rules.specs.declared.log.Shape.TheVariants as shape
use Rattle.name_rules.specs.declared.scope.Context.{Context}
use Rattle.name_rules.specs.declared.scope.Names.{Names}
use Rattle.name_rules.specs.declared.scope.What.{What}
use Rattle.name_rules.specs.declared.scope.What.TheVariants as what
use Rattle.name_rules.specs.declared.types.Scalar.{Scalar}
use Rattle.name_rules.specs.declared.types.Subtype.{Subtype}
use Rattle.name_rules.specs.declared.types.Subtype.TheVariants as subtype
use Rattle.typed_tree.specs.Layout.{cells_of}
use Rattle.name_laws.proofs.CellsCounted.{array_counted}
use Rattle.name_laws.proofs.CellsSound.{number_counted, number_in, table_of, AreRight, IsRight, IsRightWhat, Sound, are_both, are_later, longer_shapes, minding, more_shapes, number_within, one_of, right_later}
use Rattle.name_laws.proofs.Fitting.{is_number}
use Rattle.name_laws.proofs.KeepsDeclarations.{k-dimensions_from, k-indic}
use Rattle.name_laws.proofs.KeepsTypes.{k-number_of}
use Rattle.name_laws.proofs.Lookups.{hiding_law}
use Rattle.name_laws.proofs.Walk.{Keeps}
use Rattle.name_laws.proofs.Walked.{KeepsInside}
use Rattle.name_laws.specs.Hiding.{HasNone, IsLast}

-- ---- what a name denotes

abbrev pub IsRightly : ℕ → Known → Type 0
IsRightly n (denoted.Type first t) = IsRight n t
IsRightly n (denoted.Range first d) = HasValue d
IsRightly n d = Unit {0}

abbrev pub Named : ℕ → Option Denoted → Type 0
Named n None = Unit {0}
Named n (Some d) = IsRightly n d.known

pub record Ends (n : ℕ) (p : Judging (Option Denoted)) : Type 0 where
  pub at : (log : Log) → Named n (p log).0

pub e-none : (n : ℕ) → Ends n (pure None)
e-none n = record { at = λ log. tt }

pub e-some : (n : ℕ) (d : Denoted) → IsRightly n d.known → Ends n (some d)
e-some n d h = record { at = λ log. h }

pub e-fault : (n at : ℕ) (rule : Rule) → Ends n (fault at rule)
e-fault n at rule = record { at = λ log. tt }

pub e-if : (n : ℕ) (b : Bool) (p q : Judging (Option Denoted)) → Ends n p → Ends n q → Ends n (if b then p else q)
e-if n true p q h k = h
e-if n false p q h k = k

pub e-bind : (n : ℕ) {A : Type 0} (p : Judging A) (f : A → Judging (Option Denoted)) → ((a : A) → Ends n (f a)) → Ends n (p >>= f)
e-bind n p f h = record { at = λ log. (h (p log).0).at (p log).1 }

pub e-given : (n : ℕ) {A : Type 0} (x : Option A) (f : A → Judging (Option Denoted)) → ((a : A) → Ends n (f a)) → Ends n (given x f)
e-given n None f h = e-none n
e-given n (Some x) f h = h x

pub e-where_clean : (n : ℕ) {A : Type 0} (p : Judging A) (f : A → Judging (Option Denoted)) → ((a : A) → Ends n (f a)) → Ends n (where_clean p f)
e-where_clean n p f h = e-bind n (clean p) (λ r. if r.1 then f r.0 else pure None) (λ r. e-if n r.1 (f r.0) (pure None) (h r.0) (e-none n))

pub e-map : (n : ℕ) {A : Type 0} (g : A → Denoted) (x : Option A) → ((a : A) → IsRightly n (g a).known) → Ends n (pure (option_map g x))
e-map n g None h = e-none n
e-map n g (Some x) h = e-some n (g x) (h x)

pub e-joined : (n : ℕ) {A B : Type 0} (g : A → B → Denoted) (x : Option A) (y : Option B) → ((a : A) (b : B) → IsRightly n (g a b).known) → Ends n (pure (joined g x y))
e-joined n g None y h = e-none n
e-joined n g (Some x) None h = e-none n
e-joined n g (Some x) (Some y) h = e-some n (g x y) (h x y)

pub e-predefined : (n first token name : ℕ) (reach : Reach) → Ends n (named (predefined first token name reach))
e-predefined n first token name reach = e-some n (denote (predefined first token name reach) part.Nothing) (by (name == data_error_name) (name == end_error_name))
  where
    by : (x y : Bool) → IsRightly n (if x then denoted.Exception first reason.DataError else if y then denoted.Exception first reason.EndError else denoted.Io first token (procedure_of name) reach)
    by true y = tt
    by false true = tt
    by false false = tt

e-used_name : (n : ℕ) (x0 : ℕ) (x1 : ℕ) (x2 : Reach) → Ends n (used_name x0 x1 x2)
e-used_name n token name reach = e-if n (reach.text_io || reach.integer_io) (named (predefined token token name reach)) (fault token NotVisible) (e-predefined n token token name reach) (e-fault n token NotVisible)

e-undeclared : (n : ℕ) (x0 : Context) (x1 : ℕ) (x2 : ℕ) → Ends n (undeclared x0 x1 x2)
e-undeclared n here token name = e-if n (in_text_io name || in_integer_io name) (used_name token name (reach_of here.used name)) (if name == ada_name then named (denoted.Package token ada_name) else if (name == text_io_name || name == integer_io_name) && here.used.ada then (if is_withed here.withed name then named (denoted.Package token name) else fault token NotVisible) else fault token Unknown) (e-used_name n token name (reach_of here.used name)) (e-if n (name == ada_name) (named (denoted.Package token ada_name)) (if (name == text_io_name || name == integer_io_name) && here.used.ada then (if is_withed here.withed name then named (denoted.Package token name) else fault token NotVisible) else fault token Unknown) (e-some n (denote (denoted.Package token ada_name) part.Nothing) tt) (e-if n ((name == text_io_name || name == integer_io_name) && here.used.ada) ((if is_withed here.withed name then named (denoted.Package token name) else fault token NotVisible)) (fault token Unknown) (e-if n (is_withed here.withed name) (named (denoted.Package token name)) (fault token NotVisible) (e-some n (denote (denoted.Package token name) part.Nothing) tt) (e-fault n token NotVisible)) (e-fault n token Unknown)))

e-stands : (n : ℕ) (here : Context) (token name : ℕ) (w : What) → IsRightWhat n w → (log : Log) → Named n (stands here token name (Some w) log).0
e-stands n here token name (what.Type t) h log = h
e-stands n here token name what.Hidden h log = tt
e-stands n here token name what.Broken h log = tt
e-stands n here token name (what.Object k t v z) h log = tt
e-stands n here token name (what.Parameter k t) h log = tt
e-stands n here token name (what.Item k t v) h log = tt
e-stands n here token name (what.Number z) h log = tt
e-stands n here token name (what.Boolean b) h log = tt
e-stands n here token name (what.Sub k) h log = tt
e-stands n here token name (what.Exception r) h log = tt

pub stands-named : (n : ℕ) (names : Names) (here : Context) (token : ℕ) → AreRight n here.scope → (log : Log) → Named n (stands_for names here token log).0
stands-named n names here token h log = by (hiding_law.either (symbol names token) here.scope)
  where
    by : HasNone (symbol names token) here.scope ⊎ ((w : What) × IsLast (symbol names token) w here.scope) → Named n (stands_for names here token log).0
    by (inl none) = subst (λ p. Named n (p log).0) (sym (hiding_law.none names here token none)) ((e-undeclared n here token (symbol names token)).at log)
    by (inr l) =
        subst (λ p. Named n (p log).0) (sym (hiding_law.last names here token l.0 l.1))
        (e-stands n here token (symbol names token) l.0 (one_of n l.1.before (entry (symbol names token) l.0) l.1.after (subst (AreRight n) l.1.splits h)) log)

abbrev pub IsRightOne : ℕ → Option Subtype → Type 0
IsRightOne n None = Unit {0}
IsRightOne n (Some s) = IsRight n s

abbrev pub IsIndicated : ℕ → Option Indicated → Type 0
IsIndicated n None = Unit {0}
IsIndicated n (Some s) = IsRight n s.known

type-right : (n token : ℕ) (k : Known) → IsRightly n k → (log : Log) → IsRightOne n (as_type token k log).0
type-right n token (denoted.Type first s) h log = h
type-right n token k h log = tt

pub subtype-right : (n : ℕ) (names : Names) (here : Context) (token : ℕ) → AreRight n here.scope → (log : Log) → IsRightOne n (subtype_named names here token log).0
unfolding subtype_named
subtype-right n names here token h log = by (stands_for names here token log).0 (stands-named n names here token h log) (stands_for names here token log).1
  where
    by : (x : Option Denoted) → Named n x → (log : Log) → IsRightOne n (given x (λ y. as_type token y.known) log).0
    by None h log = tt
    by (Some x) h log = type-right n token x.known h log

mapped : (n : ℕ) (x : TypedPart) (s : Option Subtype) → IsRightOne n s → IsIndicated n (option_map (indicated x) s)
mapped n x None h = tt
mapped n x (Some s) h = h

-- a scalar subtype has a value: its bounds were tested
pub last-true : (a b c : Bool) → (a && b && c) ≡ true → c ≡ true
last-true true true c e = e
last-true true false c e = absurd (true≢false (sym e))
last-true false b c e = absurd (true≢false (sym e))

scalar-if : (n : ℕ) (b : Bool) (s : Scalar) (log : Log) → (b ≡ true → int_le (kept s.kind s.low) (kept s.kind s.high) ≡ true) → IsRightOne n ((if b then some (subtype.Scalar s) else pure None) log).0
scalar-if n true s log h = h refl
scalar-if n false s log h = tt

kept-order : (k : Kind) (a z : ℤ) → int_le a z ≡ true → int_le (kept k (kept k a)) (kept k (kept k z)) ≡ true
kept-order k a z h = ap (λ x. int_le x (kept k (kept k z))) (kept-twice k a) ∙ ap (λ y. int_le a y) (kept-twice k z) ∙ h

bounds-right : (n : ℕ) (s : Scalar) (a z : Found) (log : Log) → IsIndicated n (d.indic_bounds s a z log).0
bounds-right n s a z log = by (both_static s.kind a z log).0 (both_static s.kind a z log).1
  where
    by : (v : Option (ℤ × ℤ)) (log : Log) → IsIndicated n (option_map (indicated (both_mentions a z)) (given v (d.indic_range s (first_of a.known) (first_of z.known)) log).0)
    by None log = tt
    by (Some r) log = mapped n (both_mentions a z) _ (scalar-if n (lies_in s r.0 && lies_in s r.1 && int_le r.0 r.1) _ _ (λ e. kept-order s.kind r.0 r.1 (last-true (lies_in s r.0) (lies_in s r.1) (int_le r.0 r.1) e)))

ranged : (n : ℕ) (t : Option Scalar) (x y : Option Found) (log : Log) → IsIndicated n (given t (λ s. both x y (d.indic_bounds s)) log).0
ranged n None x y log = tt
ranged n (Some s) None y log = tt
ranged n (Some s) (Some a) None log = tt
ranged n (Some s) (Some a) (Some z) log = bounds-right n s a z log

pub indic-right : (n : ℕ) (names : Names) (level : Inside) (here : Context) (i : Indic) → AreRight n here.scope → (log : Log) → IsIndicated n (d.indic names level here i log).0
unfolding d.indic
indic-right n names level here (syntax.Mark mark) h log = mapped n part.Nothing (subtype_named names here mark log).0 (subtype-right n names here mark h log)
indic-right n names level here (syntax.RangeMark mark low high) h log =
    let s = subtype_named names here mark log in
    let t = given s.0 (as_scalar mark) s.1 in
    let r = two_bounds level here low high t.1 in
    ranged n t.0 r.0.0 r.0.1 r.1

-- ---- what is left: a later log in which what was found is right

pub record Leaves {A : Type 0} (Q : ℕ → A → Type 0) (log : Log) (r : A × Log) : Type 0 where
  pub longer : length log.shapes ≤ length r.1.shapes
  pub sound : Sound r.1
  pub right : Q (length r.1.shapes) r.0

pub now : {A : Type 0} (log : Log) (p : Judging A) → Keeps (minding 0) p → Sound log → (length log.shapes ≤ length (p log).1.shapes) × Sound (p log).1
now log p k h = (k.at log).at (omega arith) h

pub next-leaves : {A : Type 0} (Q : ℕ → A → Type 0) (log mid : Log) (r : A × Log) → length log.shapes ≤ length mid.shapes → Leaves Q mid r → Leaves Q log r
next-leaves Q log mid r l h = record { longer = omega (arith, l, h.longer); sound = h.sound; right = h.right }

indicated-leaves : (x : TypedPart) (log : Log) (r : Option Subtype × Log) → Leaves IsRightOne log r → Leaves IsIndicated log (option_map (indicated x) r.0, r.1)
indicated-leaves x log r h = record { longer = h.longer; sound = h.sound; right = mapped (length r.1.shapes) x r.0 h.right }

pub none-leaves : (log : Log) → Sound log → Leaves IsIndicated log (None, log)
none-leaves log h = record { longer = omega arith; sound = h; right = tt }

fault-leaves : (at : ℕ) (rule : Rule) (log : Log) → Sound log → Leaves IsIndicated log (fault at rule log)
fault-leaves at rule log h = record { longer = omega arith; sound = h; right = tt }

-- ---- arrays

array-written : (ds : List Dimension) (s : Subtype) (log : Log) → HaveValues ds → Sound log → IsRight (length log.shapes) s → Leaves IsRightOne log (d.array_written ds s log)
array-written ds s log vs h r =
    let m = number_of s log in
    let k = now log (number_of s) (k-number_of (minding 0) s) h in
    let cells = array_cells ds (cells_in m.1 s) in
    let l = longer_shapes (shape.Array ds s m.0 cells) m.1.shapes in
    let q = right_later (length log.shapes) (length m.1.shapes) s k.0 r in
    record {
      longer = subst (λ n. length log.shapes ≤ n) (sym l) (omega (arith, k.0));
      sound = more_shapes (shape.Array ds s m.0 cells) m.1 k.1 (vs, number_within s m.0 m.1 q (is_number s log))
          (λ v w. ap (array_cells ds) (number_counted s m.0 m.1 k.1 q (is_number s log) v) ∙ array_counted ds (cells_of (table_of m.1.shapes) m.0) w) (number_in s m.0 m.1 (is_number s log)) (λ v. tt);
      right = subst (λ n. length m.1.shapes < n) (sym l) (omega arith);
    }

array-given : (at : ℕ) (ds : Dimensions) (s : Indicated) (log : Log) → HaveValues ds.dimensions → Sound log → IsRight (length log.shapes) s.known → Leaves IsIndicated log (d.array_given at ds s log)
array-given at ds s log vs h r = by (nat_le (length ds.dimensions) most_dimensions)
  where
    by : (b : Bool) → Leaves IsIndicated log ((if b then (d.array_written ds.dimensions s.known >>= λ t. pure (option_map (indicated (also_all ds.mentions s.part)) t)) else fault at (Limit bound.Dimensions)) log)
    by true = indicated-leaves (also_all ds.mentions s.part) log (d.array_written ds.dimensions s.known log) (array-written ds.dimensions s.known log vs h r)
    by false = fault-leaves at (Limit bound.Dimensions) log h

abbrev HaveDimensions : Option Dimensions → Type 0
HaveDimensions None = Unit {0}
HaveDimensions (Some ds) = HaveValues ds.dimensions

both-given : (at : ℕ) (ds : Option Dimensions) (s : Option Indicated) (log : Log) → HaveDimensions ds → Sound log → IsIndicated (length log.shapes) s → Leaves IsIndicated log (both ds s (d.array_given at) log)
both-given at None s log vs h r = none-leaves log h
both-given at (Some ds) None log vs h r = none-leaves log h
both-given at (Some ds) (Some s) log vs h r = array-given at ds s log vs h r

-- ---- dimensions have values

-- the level below finds what is right
pub record NamesRight (level : Inside) : Type 0 where
  pub name : (here : Context) (x : syntax.Name) (log : Log) → Sound log → AreRight (length log.shapes) here.scope → Named (length log.shapes) (level.name here x log).0

abbrev HasSpan : Option Static → Type 0
HasSpan None = Unit {0}
HasSpan (Some s) = HasValue s.known

record Spans (p : Judging (Option Static)) : Type 0 where
  pub at : (log : Log) → HasSpan (p log).0

s-fault : (at : ℕ) (rule : Rule) → Spans (fault at rule)
s-fault at rule = record { at = λ log. tt }

s-bind : {A : Type 0} (p : Judging A) (f : A → Judging (Option Static)) → ((a : A) → Spans (f a)) → Spans (p >>= f)
s-bind p f h = record { at = λ log. (h (p log).0).at (p log).1 }

s-given : {A : Type 0} (x : Option A) (f : A → Judging (Option Static)) → ((a : A) → Spans (f a)) → Spans (given x f)
s-given None f h = record { at = λ log. tt }
s-given (Some x) f h = h x

s-both : {A B : Type 0} (x : Option A) (y : Option B) (f : A → B → Judging (Option Static)) → ((a : A) (b : B) → Spans (f a b)) → Spans (both x y f)
s-both None y f h = record { at = λ log. tt }
s-both (Some x) None f h = record { at = λ log. tt }
s-both (Some x) (Some y) f h = h x y

s-if : (b : Bool) (p q : Judging (Option Static)) → Spans p → Spans q → Spans (if b then p else q)
s-if true p q h k = h
s-if false p q h k = k

s-spanned : (first : ℕ) (k : Kind) (a z : Found) (r : ℤ × ℤ) → Spans (ranges.spanned first true k a z r)
s-spanned first k a z r = by (int_le r.0 r.1) refl
  where
    by : (b : Bool) → int_le r.0 r.1 ≡ b → Spans (if not b then fault first StaticRange else some (ranges.of_static a z (ranges.dimension k r)))
    by true e = record { at = λ log. e }
    by false e = s-fault first StaticRange

s-checked : (first : ℕ) (s : Scalar) (a z : Found) (r : ℤ × ℤ) → Spans (ranges.checked_span first true s a z r)
s-checked first s a z r =
    let sp = ranges.spanned first true s.kind a z r in
    let last = if lies_in s r.0 && lies_in s r.1 then sp else pure None in
    s-if (not (int_le r.0 r.1)) sp (ranges.inside_subtype s a r.0 >>= λ u. ranges.inside_subtype s z r.1 >>= λ v. last) (s-spanned first s.kind a z r)
    (s-bind (ranges.inside_subtype s a r.0) (λ u. ranges.inside_subtype s z r.1 >>= λ v. last) (λ u. s-bind (ranges.inside_subtype s z r.1) (λ v. last) (λ v. s-if (lies_in s r.0 && lies_in s r.1) sp (pure None) (s-spanned first s.kind a z r) (record { at = λ log. tt }))))

s-bounds : (first : ℕ) (a z : Found) → Spans (ranges.static_bounds first true None a z)
unfolding ranges.static_bounds
s-bounds first a z =
    let k = ranges.preferred None a.known z.known in
    let g = ranges.spanned first true k a z in
    let w = both_static k a z >>= λ s. given s g in
    let v = if not (suits k a.known && suits k z.known) then fault (first_of z.known) WrongType else w in
    s-if (not (is_numeric a.known) || is_modular k) (fault (first_of a.known) WrongType) v (s-fault (first_of a.known) WrongType)
    (s-if (not (suits k a.known && suits k z.known)) (fault (first_of z.known) WrongType) w (s-fault (first_of z.known) WrongType)
    (s-bind (both_static k a z) (λ s. given s g) (λ s. s-given s g (λ r. s-spanned first k a z r))))

s-static_checked : (first : ℕ) (t : Scalar) (a z : Found) → Spans (ranges.static_checked first true t a z)
unfolding ranges.static_checked
s-static_checked first t a z =
    let g = ranges.checked_span first true t a z in
    s-if (ranges.is_index t.kind) (both_static t.kind a z >>= λ v. given v g) (fault first WrongType)
    (s-bind (both_static t.kind a z) (λ v. given v g) (λ v. s-given v g (λ r. s-checked first t a z r))) (s-fault first WrongType)

plain-range : (k : Kind) (low high : ℤ) → is_modular k ≡ false → int_le (kept k low) (kept k high) ≡ true → int_le low high ≡ true
plain-range k low high e h = ap (λ x. int_le x high) (sym (plain-kept k low e)) ∙ ap (λ y. int_le (kept k low) y) (sym (plain-kept k high e)) ∙ h

index-plain : (k : Kind) → ranges.is_index k ≡ true → is_modular k ≡ false
index-plain kind.Boolean e = refl
index-plain kind.Integer e = refl
index-plain (kind.Own n) e = refl
index-plain (kind.Modular n k) e = absurd cc

name-span : (n first : ℕ) (k : Known) (x : TypedPart) → IsRightly n k → Spans (ranges.static_name first k x)
name-span n first (denoted.Range at d) x h = record { at = λ log. h }
name-span n first (denoted.Type at (subtype.Scalar s)) x h = by (ranges.is_index s.kind) refl
  where
    by : (b : Bool) → ranges.is_index s.kind ≡ b → Spans (if b then some (record { known = record { kind = s.kind; low = s.low; high = s.high }; part = part.Nothing }) else fault first WrongType)
    by true e = record { at = λ log. (plain-range s.kind s.low s.high (index-plain s.kind e) h) }
    by false e = s-fault first WrongType
name-span n first d x h = s-fault _ WrongType

static-span : (level : Inside) (here : Context) (r : syntax.Range) (log : Log) → NamesRight level → Sound log → AreRight (length log.shapes) here.scope → HasSpan (ranges.static_range level here true None r log).0
unfolding ranges.static_range
static-span level here (syntax.Bounded low high) log named h r =
    let x = two_bounds level here low high log in
    let g = ranges.static_bounds (first_token.of_simple low) true None in
    (s-both x.0.0 x.0.1 g (λ a z. s-bounds (first_token.of_simple low) a z)).at x.1
static-span level here (syntax.Whole x) log named h r = by (level.name here x log).0 (named.name here x log h r) (level.name here x log).1
  where
    by : (d : Option Denoted) → Named (length log.shapes) d → (end : Log) → HasSpan (given d (λ y. ranges.static_name (first_token.of_name x) y.known y.part) end).0
    by None k end = tt
    by (Some d) k end = (name-span (length log.shapes) (first_token.of_name x) d.known d.part k).at end
static-span level here (syntax.Constrained x low high) log named h r =
    let d = level.name here x log in
    let s = given d.0 (λ y. ranges.scalar_type y.known) d.1 in
    let b = two_bounds level here low high s.1 in
    let g : Scalar → Judging (Option Static) = λ t. both b.0.0 b.0.1 (ranges.static_checked (first_token.of_name x) true t) in
    (s-given s.0 g (λ t. s-both b.0.0 b.0.1 (ranges.static_checked (first_token.of_name x) true t) (λ a z. s-static_checked (first_token.of_name x) t a z))).at b.1

also-values : (ds : Option Dimensions) (s : Option Static) → HaveDimensions ds → HasSpan s → HaveDimensions (joined d.also_dimension ds s)
also-values None s h k = tt
also-values (Some ds) None h k = tt
also-values (Some ds) (Some s) h k = values_both ds.dimensions (s.known ∷ []) h (k, tt)

dimensions-values : (level : Inside) (here : Context) (made : Option Dimensions) (rs : List syntax.Range) (log : Log) → KeepsInside (minding 0) level → NamesRight level → Sound log → AreRight (length log.shapes) here.scope
    → HaveDimensions made → HaveDimensions (d.dimensions_from level here made rs log).0
dimensions-values level here made [] log keeps named h r vs = vs
dimensions-values level here made (x ∷ rs) log keeps named h r vs =
    let s = ranges.static_range level here true None x log in
    let k = now log (ranges.static_range level here true None x) (k-static_range (minding 0) level here true None x keeps) h in
    dimensions-values level here (joined d.also_dimension made s.0) rs s.1 keeps named k.1 (are_later (length log.shapes) (length s.1.shapes) here.scope k.0 r) (also-values made s.0 vs (static-span level here x log named h r))

pub array-leaves : (names : Names) (level : Inside) (here : Context) (a : Array) (log : Log) → KeepsInside (minding 0) level → NamesRight level → Sound log → AreRight (length log.shapes) here.scope → Leaves IsIndicated log (d.array names level here a log)
unfolding d.array
array-leaves names level here a log keeps named h r =
    let start = Some (record { dimensions = []; mentions = part.Nothing }) in
    let ds = d.dimensions_from level here start (a.first ∷ a.more) log in
    let k = now log (d.dimensions_from level here start (a.first ∷ a.more)) (k-dimensions_from (minding 0) level here start (a.first ∷ a.more) keeps) h in
    let s = d.indic names level here a.component ds.1 in
    let j = now ds.1 (d.indic names level here a.component) (k-indic (minding 0) names level here a.component tt keeps) k.1 in
    let i = indic-right (length s.1.shapes) names level here a.component (are_later (length log.shapes) (length s.1.shapes) here.scope (omega (arith, k.0, j.0)) r) ds.1 in
    next-leaves IsIndicated log s.1 (both ds.0 s.0 (d.array_given a.at) s.1) (omega (arith, k.0, j.0)) (both-given a.at ds.0 s.0 s.1 (dimensions-values level here start (a.first ∷ a.more) log keeps named h r tt) j.1 i)

-- ---- contexts

pub hidden-right : (n : ℕ) (names : Names) (here : Context) (t : ℕ) (f : Option ℕ) → AreRight n here.scope → AreRight n (hidden_where names here t f).scope
hidden-right n names here t None h = h
hidden-right n names here t (Some u) h = are_both n here.scope (entry (symbol names t) what.Hidden ∷ []) h (tt, tt)

abbrev pub IsRightMaybe : ℕ → Option What → Type 0
IsRightMaybe n None = Unit {0}
IsRightMaybe n (Some w) = IsRightWhat n w

pub declared-right : (n : ℕ) (names : Names) (here : Context) (t : ℕ) (w : Option What) → AreRight n here.scope → IsRightMaybe n w → AreRight n (declared names here t w).scope
declared-right n names here t None h k = are_both n here.scope (entry (symbol names t) what.Broken ∷ []) h (tt, tt)
declared-right n names here t (Some w) h k = are_both n here.scope (entry (symbol names t) w ∷ []) h (k, tt)

pub ended-right : (n : ℕ) (names : Names) (here : Context) (f : Option ℕ) (w : Option What) → AreRight n here.scope → IsRightMaybe n w → AreRight n (d.ended_name names here f w).scope
ended-right n names here None w h k = h
ended-right n names here (Some t) w h k = declared-right n names here t w h k

pub begun-right : (n : ℕ) (names : Names) (start : ℕ) (here : Context) (made : List (Option ℕ)) (ts : List ℕ) (log : Log) → AreRight n here.scope → AreRight n (d.begun_names names start here made ts log).0.0.scope
begun-right n names start here made [] log h = h
begun-right n names start here made (t ∷ ts) log h =
    let f = free names start here t log in
    begun-right n names start (hidden_where names here t f.0) (made ++ f.0 ∷ []) ts f.1 (hidden-right n names here t f.0 h)
