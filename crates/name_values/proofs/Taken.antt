-- What judges static values without their parts judges as the rules do.
use Rattle.std.proofs.Common.{◌≡◌, refl, sym, ap, ◌∙◌, ℕ, ℤ, Bool, true, false, not, ◌&&◌, Option, Some, None, is_some, if◌then◌else◌, option_map}
use Rattle.std.specs.Prelude.{◌||◌}
use Rattle.ada_base.proofs.Turning.{turned_twice}
use Rattle.typed_tree.specs.Decoded.{TypedPart, as_expr}
use Rattle.typed_tree.specs.Syntax.{Expr, Selections}
use Rattle.typed_tree.specs.declared.statements.Span.{Span}
use Rattle.name_rules.specs.Found.{Found as FoundWith}
use Rattle.name_rules.specs.Judging.{Judging, both, fault, given, pure, some, ◌>>=◌}
use Rattle.name_rules.specs.Operators.{both_mentions}
use Rattle.name_rules.specs.Ranges.{Chosen, both_static, checked_span, is_index, one_value, preferred, spanned, static_bounds, static_checked, two_values}
use Rattle.name_rules.specs.Types.{in_base, is_integer, is_modular, kept, same}
use Rattle.name_rules.specs.TypedParts.{selections_of}
use Rattle.name_rules.specs.Values.{asked, beyond, first_of, is_number, mentions_of, object_value, place_asked, settled, settled_by, static_of_kind, static_value, suits, value_of, valued}
use Rattle.name_rules.specs.declared.found.Found.TheVariants as known
use Rattle.name_rules.specs.declared.found.Found.{Found as Known}
use Rattle.name_rules.specs.declared.found.ObjectName.{ObjectName}
use Rattle.name_rules.specs.declared.log.Log.{Log}
use Rattle.name_rules.specs.declared.log.Rule.{Rule}
use Rattle.name_rules.specs.declared.log.Rule.TheVariants.{StaticRange, WrongType}
use Rattle.name_rules.specs.declared.types.Kind.{Kind}
use Rattle.name_rules.specs.declared.types.Kind.TheVariants as kind
use Rattle.name_rules.specs.declared.types.Scalar.{Scalar}
use Rattle.name_rules.specs.declared.types.Subtype.TheVariants as subtype
use Rattle.name_rules.specs.declared.types.Subtype.{Subtype}
use Rattle.name_values.specs.Bounds.{ends}
use Rattle.name_values.specs.Statics.{kept_in, or_breaks, place_takes, span_of, span_taken, takes, value_in, value_taken, value_takes, within}

-- ---- what is judged of an expression that is asked for a type

record Alike (o : Option TypedPart) (l : Log) (b : Bool) (m : Log) : Type 0 where
  is : is_some o ≡ b
  log : l ≡ m

abbrev AlikeAt : Option TypedPart × Log → Bool × Log → Type 0
AlikeAt p q = Alike p.0 p.1 q.0 q.1

alike-if : (b : Bool) (a : TypedPart) (at : ℕ) (r : Rule) (log : Log) → AlikeAt ((if b then some a else fault at r) log) (or_breaks b at r log)
alike-if true a at r log = record { is = refl; log = refl }
alike-if false a at r log = record { is = refl; log = refl }

alike-not : (at : ℕ) (r : Rule) (log : Log) → AlikeAt (fault at r log) (or_breaks false at r log)
alike-not at r log = record { is = refl; log = refl }

alike-either : (b : Bool) (p : Judging (Option TypedPart)) (q : Judging Bool) (at : ℕ) (s : Rule) (log : Log)
    → AlikeAt (p log) (q log) → AlikeAt ((if b then p else fault at s) log) ((if b then q else or_breaks false at s) log)
alike-either true p q at s log h = h
alike-either false p q at s log h = alike-not at s log

alike-valued : (k : Kind) (first : ℕ) (z : ℤ) (alone : Bool) (x : TypedPart) (log : Log) → AlikeAt (valued k first z alone x log) (or_breaks (in_base k z) first StaticRange log)
unfolding valued
alike-valued k first z alone x log = alike-if (in_base k z) _ first StaticRange log

alike-settled : (k : Kind) (e : Expr) (o : Option ℕ) (log : Log) → AlikeAt (settled_by k e o log) (within o log)
alike-settled k e None log = record { is = refl; log = refl }
alike-settled k e (Some at) log = record { is = refl; log = refl }

alike-object : (k : Kind) (p : ObjectName) (ss : Selections) (s : Scalar) (v : Option ℤ) (log : Log) → AlikeAt (object_value k p ss s v log) (value_takes k p.first v log)
alike-object k p ss s None log = record { is = refl; log = refl }
alike-object k p ss s (Some z) log = alike-valued k p.first z false _ log

alike-place : (k : Kind) (p : ObjectName) (ss : Selections) (s : Subtype) (log : Log) → AlikeAt (place_asked k p ss s log) (place_takes k p s log)
alike-place k p ss (subtype.Scalar s) log = alike-either (same s.kind k) _ _ p.first WrongType log (alike-object k p ss s p.value log)
alike-place k p ss (subtype.Composite n) log = alike-not p.first WrongType log

alike : (k : Kind) (f : Known) (x : TypedPart) (log : Log) → AlikeAt (asked k (record { known = f; part = x }) log) (takes k f x log)
unfolding asked takes settled
alike k (known.Universal first z alone) x log = alike-either (is_integer k) _ _ first WrongType log (alike-valued k first z alone x log)
alike k (known.Open first l) x log = alike-either (is_integer k) _ _ first WrongType log (alike-settled k (as_expr x) (beyond k l (as_expr x)) log)
alike k (known.Static first j z) x log = alike-either (same j k) _ _ first WrongType log (alike-valued k first z false x log)
alike k (known.Object p) x log = alike-place k p (selections_of x) p.subtype log
alike k (known.Scalar first j n) x log = alike-if (same j k) _ first WrongType log
alike k (known.Composite first n) x log = alike-not first WrongType log
alike k (known.Rest first) x log = alike-not first WrongType log
alike k (known.Text first) x log = alike-not first WrongType log

-- ---- what takes a type has its value in the base range

value-there : (b c : Bool) (w : ℤ) (at : ℕ) (r s : Rule) (log : Log)
    → ((if b then or_breaks c at r else or_breaks false at s) log).0 ≡ true → (if c then Some w else None) ≡ Some w
value-there true true w at r s log e = refl
value-there true false w at r s log e = absurd (cc)
value-there false true w at r s log e = refl
value-there false false w at r s log e = absurd (cc)

value-place : (k : Kind) (p : ObjectName) (b : Bool) (v : Option ℤ) (log : Log)
    → ((if b then value_takes k p.first v else or_breaks false p.first WrongType) log).0 ≡ true → kept_in k v ≡ option_map (kept k) v
value-place k p b None log e = refl
value-place k p b (Some z) log e = value-there b (in_base k z) (kept k z) p.first StaticRange WrongType log e

value-object : (k : Kind) (p : ObjectName) (s : Subtype) (log : Log) → (place_takes k p s log).0 ≡ true → kept_in k p.value ≡ option_map (kept k) p.value
value-object k p (subtype.Scalar s) log e = value-place k p (same s.kind k) p.value log e
value-object k p (subtype.Composite n) log e = absurd (cc)

value-in : (k : Kind) (f : Known) (x : TypedPart) (log : Log) → (takes k f x log).0 ≡ true → value_in k f ≡ option_map (kept k) (value_of f)
unfolding takes
value-in k (known.Universal first z alone) x log e = value-there (is_integer k) (in_base k z) (kept k z) first StaticRange WrongType log e
value-in k (known.Open first l) x log e = refl
value-in k (known.Static first j z) x log e = value-there (same j k) (in_base k z) (kept k z) first StaticRange WrongType log e
value-in k (known.Object p) x log e = value-object k p p.subtype log e
value-in k (known.Scalar first j n) x log e = refl
value-in k (known.Composite first n) x log e = refl
value-in k (known.Rest first) x log e = refl
value-in k (known.Text first) x log e = refl

-- ---- one static value

-- what is made of a value, by what a cell keeps of it
given-kept : {A : Type 0} (k : Kind) (at : ℕ) (u : Option ℤ) (next : ℤ → Judging (Option A)) (log : Log)
    → (static_value at u >>= λ v. given v (λ z. next (kept k z))) log ≡ (static_value at (option_map (kept k) u) >>= λ v. given v next) log
given-kept k at None next log = refl
given-kept k at (Some z) next log = refl

one-step : {A : Type 0} (k : Kind) (o : Option TypedPart) (l : Log) (b : Bool) (m : Log) (at : ℕ) (u w : Option ℤ) (next : ℤ → Judging (Option A))
    → Alike o l b m → (b ≡ true → w ≡ option_map (kept k) u)
    → (given o (λ x. static_value at u) >>= λ v. given v (λ z. next (kept k z))) l ≡ ((if b then static_value at w else pure None) >>= λ v. given v next) m
one-step k None l b m at u w next a h = rw (sym a.is, a.log) refl
one-step k (Some x) l b m at u w next a h = rw (h (sym a.is), sym a.is, a.log) (given-kept k at u next m)

taken-alike : {A : Type 0} (k : Kind) (f : Known) (x : TypedPart) (next : ℤ → Judging (Option A)) (log : Log)
    → (static_of_kind k (record { known = f; part = x }) >>= λ v. given v (λ z. next (kept k z))) log ≡ (value_taken k f x >>= λ v. given v next) log
unfolding static_of_kind value_taken
taken-alike k f x next log =
    let r = asked k (record { known = f; part = x }) log in
    let t = takes k f x log in
    one-step k r.0 r.1 t.0 t.1 (first_of f) (value_of f) (value_in k f) next (alike k f x log) (value-in k f x log)

abbrev chosen : ℕ → ℤ → ℤ → TypedPart → Chosen
chosen at low high ms = record { known = record { at = at; low = low; high = high }; part = ms }

pub one_taken : (k : Kind) (f : Known) (x : TypedPart) (log : Log)
    → one_value k (record { known = f; part = x }) log ≡ (value_taken k f x >>= λ v. given v (λ z. some (chosen (first_of f) z z (mentions_of (record { known = f; part = x }))))) log
one_taken k f x log = taken-alike k f x (λ z. some (chosen (first_of f) z z (mentions_of (record { known = f; part = x })))) log

-- the value alone, and what is written
kept-log : (k : Kind) (at : ℕ) (u : Option ℤ) (log : Log) → (option_map (kept k) (static_value at u log).0, (static_value at u log).1) ≡ static_value at (option_map (kept k) u) log
kept-log k at None log = refl
kept-log k at (Some z) log = refl

log-step : (k : Kind) (o : Option TypedPart) (l : Log) (b : Bool) (m : Log) (at : ℕ) (u w : Option ℤ) → Alike o l b m → (b ≡ true → w ≡ option_map (kept k) u)
    → (option_map (kept k) (given o (λ x. static_value at u) l).0, (given o (λ x. static_value at u) l).1) ≡ (if b then static_value at w else pure None) m
log-step k None l b m at u w a h = rw (sym a.is, a.log) refl
log-step k (Some x) l b m at u w a h = rw (h (sym a.is), sym a.is, a.log) (kept-log k at u m)

log-taken : (k : Kind) (f : Known) (x : TypedPart) (log : Log)
    → (let r = static_of_kind k (record { known = f; part = x }) log in (option_map (kept k) r.0, r.1)) ≡ value_taken k f x log
unfolding static_of_kind value_taken
log-taken k f x log =
    let r = asked k (record { known = f; part = x }) log in
    let t = takes k f x log in
    log-step k r.0 r.1 t.0 t.1 (first_of f) (value_of f) (value_in k f) (alike k f x log) (value-in k f x log)

both-kept : {A : Type 0} (k : Kind) (u v : Option ℤ) (next : ℤ → ℤ → Judging (Option A)) (log : Log)
    → both u v (λ x y. next (kept k x) (kept k y)) log ≡ both (option_map (kept k) u) (option_map (kept k) v) next log
both-kept k None v next log = refl
both-kept k (Some i) None next log = refl
both-kept k (Some i) (Some j) next log = refl

pub two_taken : (k : Kind) (f g : Known) (x y : TypedPart) (log : Log)
    → two_values k (record { known = f; part = x }) (record { known = g; part = y }) log
    ≡ (value_taken k f x >>= λ u. value_taken k g y >>= λ v. both u v (λ i j. some (chosen (first_of f) i j (both_mentions (record { known = f; part = x }) (record { known = g; part = y }))))) log
two_taken k f g x y log =
    let a : FoundWith = record { known = f; part = x } in
    let z : FoundWith = record { known = g; part = y } in
    let r = static_of_kind k a log in
    let s = static_of_kind k z r.1 in
    let next = λ (i j : ℤ). some (chosen (first_of f) i j (both_mentions a z)) in
    let one : (option_map (kept k) r.0, r.1) ≡ value_taken k f x log = log-taken k f x log in
    let two : (option_map (kept k) s.0, s.1) ≡ value_taken k g y r.1 = log-taken k g y r.1 in
    both-kept k r.0 s.0 next s.1
    ∙ ap (λ p. both (option_map (kept k) r.0) p.0 next p.1) two
    ∙ ap (λ p. both p.0 (value_taken k g y p.1).0 next (value_taken k g y p.1).1) one

-- ---- two static bounds

kept-twice : (k : Kind) (z : ℤ) → kept k (kept k z) ≡ z
kept-twice kind.Boolean z = refl
kept-twice kind.Integer z = refl
kept-twice (kind.Own n) z = refl
kept-twice (kind.Modular n k) z = turned_twice z

two-values : {A : Type 0} (k : Kind) (m n : ℕ) (u v : Option ℤ) (next : ℤ × ℤ → Judging (Option A)) (log : Log)
    → ((static_value m u >>= λ i. static_value n v >>= λ j. both i j (λ x y. some (x, y))) >>= λ s. given s next) log
    ≡ ((static_value m (option_map (kept k) u) >>= λ i. static_value n (option_map (kept k) v) >>= λ j. pure (span_of i j)) >>= λ s. given s (λ p. next (ends k p))) log
two-values k m n None None next log = refl
two-values k m n None (Some j) next log = refl
two-values k m n (Some i) None next log = refl
two-values k m n (Some i) (Some j) next log = rw (kept-twice k i, kept-twice k j) refl

two-step : {A : Type 0} (d : Kind) (o p : Option TypedPart) (l : Log) (b c : Bool) (k : Log) (m n : ℕ) (u v w t : Option ℤ) (next : ℤ × ℤ → Judging (Option A))
    → is_some o ≡ b → Alike p l c k → (b ≡ true → w ≡ option_map (kept d) u) → (c ≡ true → t ≡ option_map (kept d) v)
    → (both o p (λ e f. static_value m u >>= λ i. static_value n v >>= λ j. both i j (λ x y. some (x, y))) >>= λ s. given s next) l
    ≡ ((if b then (if c then (static_value m w >>= λ i. static_value n t >>= λ j. pure (span_of i j)) else pure None) else pure None) >>= λ s. given s (λ p. next (ends d p))) k
two-step d None p l b c k m n u v w t next e a h g = rw (sym e, a.log) refl
two-step d (Some x) None l b c k m n u v w t next e a h g = rw (sym e, sym a.is, a.log) refl
two-step d (Some x) (Some y) l b c k m n u v w t next e a h g =
    rw (h (sym e), g (sym a.is), sym e, sym a.is, a.log) (two-values d m n u v next k)

pub both-taken : {A : Type 0} (k : Kind) (f g : Known) (x y : TypedPart) (next : ℤ × ℤ → Judging (Option A)) (log : Log)
    → (both_static k (record { known = f; part = x }) (record { known = g; part = y }) >>= λ s. given s next) log
    ≡ (span_taken k (record { known = f; part = x }) (record { known = g; part = y }) >>= λ s. given s (λ p. next (ends k p))) log
unfolding span_taken
both-taken k f g x y next log =
    let a = alike k f x log in
    let t = takes k f x log in
    rw a.log
    (let r = asked k (record { known = g; part = y }) t.1 in
    let s = takes k g y t.1 in
    two-step k (asked k (record { known = f; part = x }) log).0 r.0 r.1 t.0 s.0 s.1 (first_of f) (first_of g) (value_of f) (value_of g) (value_in k f) (value_in k g) next
    a.is (alike k g y t.1) (value-in k f x log) (value-in k g y t.1))

-- a type that isn't modular keeps numbers as they are
plain-ends : (k : Kind) (p : Option Span) {A : Type 0} (next : ℤ × ℤ → Judging (Option A)) (log : Log) → is_modular k ≡ false → given p (λ s. next (ends k s)) log ≡ given p (λ s. next (s.low, s.high)) log
plain-ends k None next log e = refl
plain-ends kind.Boolean (Some p) next log e = refl
plain-ends kind.Integer (Some p) next log e = refl
plain-ends (kind.Own n) (Some p) next log e = refl
plain-ends (kind.Modular n k) (Some p) next log e = absurd (cc)

both-plain : {A : Type 0} (k : Kind) (f g : Known) (x y : TypedPart) (next : ℤ × ℤ → Judging (Option A)) (log : Log) → is_modular k ≡ false
    → (both_static k (record { known = f; part = x }) (record { known = g; part = y }) >>= λ s. given s next) log
    ≡ (span_taken k (record { known = f; part = x }) (record { known = g; part = y }) >>= λ s. given s (λ p. next (p.low, p.high))) log
both-plain k f g x y next log e =
    let r = span_taken k (record { known = f; part = x }) (record { known = g; part = y }) log in
    both-taken k f g x y next log ∙ plain-ends k r.0 next r.1 e

if-alike : {A : Type 0} (b : Bool) (p q s : Judging A) (log : Log) → (b ≡ false → q log ≡ s log) → (if b then p else q) log ≡ (if b then p else s) log
if-alike true p q s log e = refl
if-alike false p q s log e = e refl

if-first : {A : Type 0} (b : Bool) (p q s : Judging A) (log : Log) → (b ≡ true → p log ≡ q log) → (if b then p else s) log ≡ (if b then q else s) log
if-first true p q s log e = e refl
if-first false p q s log e = refl

neither : (a b : Bool) → (a || b) ≡ false → b ≡ false
neither true b e = absurd (cc)
neither false b e = e

pub bounds_taken : (first : ℕ) (must : Bool) (want : Option Kind) (f g : Known) (x y : TypedPart) (log : Log)
    → static_bounds first must want (record { known = f; part = x }) (record { known = g; part = y }) log
    ≡ (if not (is_number f) || is_modular (preferred want f g) then fault (first_of f) WrongType else
    if not (suits (preferred want f g) f && suits (preferred want f g) g) then fault (first_of g) WrongType else
    (span_taken (preferred want f g) (record { known = f; part = x }) (record { known = g; part = y }) >>= λ s. given s (λ p. spanned first must (preferred want f g) (record { known = f; part = x }) (record { known = g; part = y }) (p.low, p.high)))) log
unfolding static_bounds
bounds_taken first must want f g x y log =
    let k = preferred want f g in
    if-alike (not (is_number f) || is_modular k) _ _ _ log (λ e. if-alike (not (suits k f && suits k g)) _ _ _ log
    (λ _. both-plain k f g x y (spanned first must k (record { known = f; part = x }) (record { known = g; part = y })) log (neither (not (is_number f)) (is_modular k) e)))

index-plain : (k : Kind) → is_index k ≡ true → is_modular k ≡ false
index-plain kind.Boolean e = refl
index-plain kind.Integer e = refl
index-plain (kind.Own n) e = refl
index-plain (kind.Modular n k) e = absurd (cc)

pub checked_taken : (first : ℕ) (must : Bool) (t : Scalar) (f g : Known) (x y : TypedPart) (log : Log)
    → static_checked first must t (record { known = f; part = x }) (record { known = g; part = y }) log
    ≡ (if is_index t.kind then (span_taken t.kind (record { known = f; part = x }) (record { known = g; part = y }) >>= λ s. given s (λ p. checked_span first must t (record { known = f; part = x }) (record { known = g; part = y }) (p.low, p.high)))
    else fault first WrongType) log
unfolding static_checked
checked_taken first must t f g x y log =
    if-first (is_index t.kind) _ _ _ log (λ e. both-plain t.kind f g x y (checked_span first must t (record { known = f; part = x }) (record { known = g; part = y })) log (index-plain t.kind e))
