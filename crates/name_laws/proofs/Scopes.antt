-- What declarations put into a scope.
use Rattle.std.proofs.Common.{◌≡◌, ℕ, List, [], ◌∷◌, ◌++◌, Option, Some, None, Bool, true, false, refl, sym, ap, ◌∙◌, if◌then◌else◌}
use Rattle.std.proofs.lemmas.List.{append_assoc, append-nil}
use Rattle.ada_base.specs.declared.reason.Reason.TheVariants as reason
use Rattle.syntax_tree.specs.Syntax as syntax
use Rattle.syntax_tree.specs.Syntax.{Decl, Expr, ObjectType}
use Rattle.typed_tree.specs.Decoded.{TypedPart}
use Rattle.name_rules.specs.Declarations as d
use Rattle.name_rules.specs.Declarations.{Indicated, Initial}
use Rattle.name_rules.specs.Expressions.{Inside}
use Rattle.name_rules.specs.Judging.{fault, some}
use Rattle.name_rules.specs.Scope.{declared, entry, free, hidden_where, is_taken, lookup, stands_for, with_entry}
use Rattle.name_rules.specs.Symbols.{symbol}
use Rattle.name_rules.specs.declared.log.Log.{Log}
use Rattle.name_rules.specs.declared.log.Rule.TheVariants.{Twice}
use Rattle.name_rules.specs.declared.scope.Context.{Context}
use Rattle.name_rules.specs.declared.scope.Entry.{Entry}
use Rattle.name_rules.specs.declared.scope.Names.{Names}
use Rattle.name_rules.specs.declared.scope.What.{What}
use Rattle.name_rules.specs.declared.scope.What.TheVariants as what
use Rattle.name_laws.proofs.Lookups.{lookup-passed, stands-alike}
use Rattle.name_laws.specs.Hiding.{Adds, HasNone, NoneNamed, ScopeLaw, all_declared, declares}

-- what is added declares none of the names of which P holds
pub record AddsWhere (P : ℕ → Type 0) (here there : Context) : Type 0 where
  pub more : List Entry
  pub grows : there ≡ record here { scope = here.scope ++ more }
  pub named : (name : ℕ) → P name → HasNone name more

none-both : (name : ℕ) (a b : List Entry) → HasNone name a → HasNone name b → HasNone name (a ++ b)
none-both name [] b h k = k
none-both name (e ∷ a) b h k = (h.0, none-both name a b h.1 k)

pub adds-none : (P : ℕ → Type 0) (here : Context) → AddsWhere P here here
adds-none P here = record { more = []; grows = ap (λ s. record here { scope = s }) (sym (append-nil here.scope)); named = λ name h. tt }

pub adds-then : (P : ℕ → Type 0) (here mid there : Context) → AddsWhere P here mid → AddsWhere P mid there → AddsWhere P here there
adds-then P here mid there a b = record {
  more = a.more ++ b.more;
  grows = b.grows ∙ ap (λ c. grown c b.more) a.grows ∙ ap (λ s. record here { scope = s }) (append_assoc here.scope a.more b.more);
  named = λ name h. none-both name a.more b.more (a.named name h) (b.named name h);
}
  where
    grown : Context → List Entry → Context
    grown c more = record c { scope = c.scope ++ more }

pub adds-less : (P Q : ℕ → Type 0) (here there : Context) → ((name : ℕ) → Q name → P name) → AddsWhere P here there → AddsWhere Q here there
adds-less P Q here there f a = record { more = a.more; grows = a.grows; named = λ name h. a.named name (f name h) }

pub adds-entry : (here : Context) (s : ℕ) (w : What) → AddsWhere (λ name. s ≡ name → ⊥) here (with_entry here s w)
adds-entry here s w = record { more = entry s w ∷ []; grows = refl; named = λ name h. (h, tt) }

-- ---- identifiers that may be free

-- an identifier, if there is one, hasn't the name
abbrev pub IsOther : Names → Option ℕ → ℕ → Type 0
IsOther names None name = Unit {0}
IsOther names (Some t) name = symbol names t ≡ name → ⊥

abbrev pub AreOthers : Names → List (Option ℕ) → ℕ → Type 0
AreOthers names [] name = Unit {0}
AreOthers names (f ∷ fs) name = IsOther names f name × AreOthers names fs name

abbrev pub OtherThan : Names → ℕ → ℕ → Type 0
OtherThan names t name = symbol names t ≡ name → ⊥

others-both : (names : Names) (name : ℕ) (fs gs : List (Option ℕ)) → AreOthers names fs name → AreOthers names gs name → AreOthers names (fs ++ gs) name
others-both names name [] gs h k = k
others-both names name (f ∷ fs) gs h k = (h.0, others-both names name fs gs h.1 k)

free-other : (names : Names) (start : ℕ) (here : Context) (t : ℕ) (log : Log) (name : ℕ) → OtherThan names t name → IsOther names (free names start here t log).0 name
unfolding free
free-other names start here t log name h = by (is_taken (symbol names t) start here)
  where
    by : (b : Bool) → IsOther names ((if b then fault t Twice else some t) log).0 name
    by true = tt
    by false = h

pub adds-hidden : (names : Names) (here : Context) (t : ℕ) (f : Option ℕ) → AddsWhere (OtherThan names t) here (hidden_where names here t f)
adds-hidden names here t None = adds-none _ here
adds-hidden names here t (Some u) = adds-entry here (symbol names t) what.Hidden

pub adds-declared : (names : Names) (here : Context) (t : ℕ) (w : Option What) → AddsWhere (OtherThan names t) here (declared names here t w)
adds-declared names here t (Some w) = adds-entry here (symbol names t) w
adds-declared names here t None = adds-entry here (symbol names t) what.Broken

pub adds-ended : (names : Names) (here : Context) (f : Option ℕ) (w : Option What) → AddsWhere (IsOther names f) here (d.ended_name names here f w)
adds-ended names here None w = adds-none _ here
adds-ended names here (Some t) w = adds-declared names here t w

-- ---- several names of one declaration

pub adds-begun : (names : Names) (start : ℕ) (here : Context) (made : List (Option ℕ)) (ts : List ℕ) (log : Log)
    → AddsWhere (λ name. NoneNamed names name ts) here (d.begun_names names start here made ts log).0.0
adds-begun names start here made [] log = adds-none _ here
adds-begun names start here made (t ∷ ts) log =
    let f = (free names start here t log).0 in
    let mid = hidden_where names here t f in
    let there = (d.begun_names names start mid (made ++ f ∷ []) ts (free names start here t log).1).0.0 in
    adds-then _ here mid there
    (adds-less _ _ here mid (λ name h. h.0) (adds-hidden names here t f))
    (adds-less _ _ mid there (λ name h. h.1) (adds-begun names start mid (made ++ f ∷ []) ts (free names start here t log).1))

pub begun-others : (names : Names) (start : ℕ) (here : Context) (made : List (Option ℕ)) (ts : List ℕ) (log : Log) (name : ℕ)
    → AreOthers names made name → NoneNamed names name ts → AreOthers names (d.begun_names names start here made ts log).0.1 name
begun-others names start here made [] log name h k = h
begun-others names start here made (t ∷ ts) log name h k =
    let r = free names start here t log in
    begun-others names start (hidden_where names here t r.0) (made ++ r.0 ∷ []) ts r.1 name
    (others-both names name made (r.0 ∷ []) h (free-other names start here t log name k.0, tt)) k.1

pub begun-all : (names : Names) (start : ℕ) (here : Context) (ts : List ℕ) (log : Log) (name : ℕ)
    → NoneNamed names name ts → AreOthers names (d.begun_names names start here [] ts log).0.1 name
begun-all names start here ts log name k = begun-others names start here [] ts log name tt k

-- what is added behind the beginning of several names
behind-begun : (names : Names) (start : ℕ) (here there : Context) (ts : List ℕ) (log : Log)
    → AddsWhere (AreOthers names (d.begun_names names start here [] ts log).0.1) (d.begun_names names start here [] ts log).0.0 there
    → AddsWhere (λ name. NoneNamed names name ts) here there
behind-begun names start here there ts log a =
    let mid = (d.begun_names names start here [] ts log).0.0 in
    adds-then _ here mid there (adds-begun names start here [] ts log)
    (adds-less _ _ mid there (λ name h. begun-all names start here ts log name h) a)

-- ---- objects

object-ended : (names : Names) (here : Context) (token : ℕ) (f : Option ℕ) (constant : Bool) (s : Indicated) (v : Initial) (made : Option TypedPart) (n : Option ℕ)
    → AddsWhere (IsOther names f) here (d.object_ended names here token f constant s v made n).0
object-ended names here token f constant s v made None = adds-ended names here f _
object-ended names here token f constant s v made (Some n) = adds-ended names here f _

one-object : (names : Names) (here : Context) (token : ℕ) (f : Option ℕ) (constant : Bool) (made : Option TypedPart) (s : Option Indicated) (v : Option Initial) (log : Log)
    → AddsWhere (IsOther names f) here (d.one_object names here token f constant made s v log).0.0
one-object names here token f constant made (Some s) (Some v) log = object-ended names here token f constant s v made _
one-object names here token f constant made (Some s) None log = adds-ended names here f _
one-object names here token f constant made None v log = adds-ended names here f _

each-object : (names : Names) (level : Inside) (inner here : Context) (constant : Bool) (first : ℕ) (t : ObjectType) (e : Option Expr) (made : Option TypedPart) (is : List ℕ) (fs : List (Option ℕ)) (log : Log)
    → AddsWhere (AreOthers names fs) here (d.each_object names level inner here constant first t e made is fs log).0.0
each-object names level inner here constant first t e made [] fs log = adds-none _ here
each-object names level inner here constant first t e made (i ∷ is) [] log = adds-none _ here
each-object names level inner here constant first t e made (i ∷ is) (f ∷ fs) log =
    let s = d.typed_object names level inner t log in
    let v = d.initial names level inner s.0 e s.1 in
    let u = d.valued_constant first constant s.0 e v.1 in
    let r = d.one_object names here i f constant made s.0 v.0 u.1 in
    let there = (d.each_object names level inner r.0.0 constant first t e r.0.1 is fs r.1).0.0 in
    adds-then _ here r.0.0 there
    (adds-less _ _ here r.0.0 (λ name h. h.0) (one-object names here i f constant made s.0 v.0 u.1))
    (adds-less _ _ r.0.0 there (λ name h. h.1) (each-object names level inner r.0.0 constant first t e r.0.1 is fs r.1))

-- ---- named numbers and exceptions

all-ended : (names : Names) (here : Context) (w : Option What) (fs : List (Option ℕ)) → AddsWhere (AreOthers names fs) here (d.all_ended names here w fs)
all-ended names here w [] = adds-none _ here
all-ended names here w (f ∷ fs) =
    let mid = d.ended_name names here f w in
    adds-then _ here mid (d.all_ended names mid w fs)
    (adds-less _ _ here mid (λ name h. h.0) (adds-ended names here f w))
    (adds-less _ _ mid (d.all_ended names mid w fs) (λ name h. h.1) (all-ended names mid w fs))

each-exception : (names : Names) (here : Context) (ts : List ℕ) (fs : List (Option ℕ)) (log : Log) → AddsWhere (AreOthers names fs) here (d.each_exception names here ts fs log).0
each-exception names here [] fs log = adds-none _ here
each-exception names here (t ∷ ts) [] log = adds-none _ here
each-exception names here (t ∷ ts) (f ∷ fs) log =
    let n = d.new_exception t log in
    let w = Some (what.Exception (reason.Declared n.0)) in
    let mid = d.ended_name names here f w in
    let there = (d.each_exception names mid ts fs n.1).0 in
    adds-then _ here mid there
    (adds-less _ _ here mid (λ name h. h.0) (adds-ended names here f w))
    (adds-less _ _ mid there (λ name h. h.1) (each-exception names mid ts fs n.1))

-- ---- types: their name hides from the declaration's beginning on

one-type : (names : Names) (start : ℕ) (here : Context) (token : ℕ) (w : Option What) (log : Log)
    → AddsWhere (λ name. NoneNamed names name (token ∷ [])) here
    (d.ended_name names (hidden_where names here token (free names start here token log).0) (free names start here token log).0 w)
one-type names start here token w log =
    let f = (free names start here token log).0 in
    let mid = hidden_where names here token f in
    adds-then _ here mid (d.ended_name names mid f w)
    (adds-less _ _ here mid (λ name h. h.0) (adds-hidden names here token f))
    (adds-less _ _ mid (d.ended_name names mid f w) (λ name h. free-other names start here token log name h.0) (adds-ended names mid f w))

-- ---- declarations

pub one-declaration : (names : Names) (level : Inside) (start : ℕ) (here : Context) (made : Option TypedPart) (x : Decl) (log : Log)
    → AddsWhere (λ name. NoneNamed names name (declares x)) here (d.declaration names level start here made x log).0.0
unfolding d.declaration d.objects d.numbers
one-declaration names level start here made (syntax.ObjectDecl is constant t e) log =
    let r = d.begun_names names start here [] (d.all_ids is) log in
    behind-begun names start here _ (d.all_ids is) log (each-object names level r.0.0 r.0.0 _ is.first t e made (d.all_ids is) r.0.1 r.1)
one-declaration names level start here made (syntax.NumberDecl is at e) log =
    let r = d.begun_names names start here [] (d.all_ids is) log in
    behind-begun names start here _ (d.all_ids is) log (all-ended names r.0.0 _ r.0.1)
one-declaration names level start here made (syntax.ExceptionDecl is) log =
    let r = d.begun_names names start here [] (d.all_ids is) log in
    behind-begun names start here _ (d.all_ids is) log (each-exception names r.0.0 (d.all_ids is) r.0.1 r.1)
one-declaration names level start here made (syntax.TypeDecl at token x) log = one-type names start here token _ log
one-declaration names level start here made (syntax.SubtypeDecl at token i) log = one-type names start here token _ log

pub named-left : (names : Names) (name : ℕ) (a b : List ℕ) → NoneNamed names name (a ++ b) → NoneNamed names name a
named-left names name [] b h = tt
named-left names name (t ∷ a) b h = (h.0, named-left names name a b h.1)

pub named-right : (names : Names) (name : ℕ) (a b : List ℕ) → NoneNamed names name (a ++ b) → NoneNamed names name b
named-right names name [] b h = h
named-right names name (t ∷ a) b h = named-right names name a b h.1

pub all-declarations : (names : Names) (level : Inside) (start : ℕ) (here : Context) (made : Option TypedPart) (ds : List Decl) (log : Log)
    → AddsWhere (λ name. NoneNamed names name (all_declared ds)) here (d.declarations names level start here made ds log).0.0
all-declarations names level start here made [] log = adds-none _ here
all-declarations names level start here made (x ∷ ds) log =
    let r = d.declaration names level start here made x log in
    let there = (d.declarations names level start r.0.0 r.0.1 ds r.1).0.0 in
    adds-then _ here r.0.0 there
    (adds-less _ _ here r.0.0 (λ name h. named-left names name (declares x) (all_declared ds) h) (one-declaration names level start here made x log))
    (adds-less _ _ r.0.0 there (λ name h. named-right names name (declares x) (all_declared ds) h) (all-declarations names level start r.0.0 r.0.1 ds r.1))

pub as-adds : (names : Names) (tokens : List ℕ) (here there : Context) → AddsWhere (λ name. NoneNamed names name tokens) here there → Adds names tokens here there
as-adds names tokens here there a = record { more = a.more; grows = a.grows; named = a.named }

pub kept : (names : Names) (here there : Context) (more : List Entry) → there ≡ record here { scope = here.scope ++ more }
    → (token : ℕ) → HasNone (symbol names token) more → stands_for names there token ≡ stands_for names here token
kept names here there more e token h =
    stands-alike names there here token (ap (λ c. lookup (symbol names token) c.scope) e ∙ lookup-passed (symbol names token) here.scope more h) (ap (λ c. c.used) e) (ap (λ c. c.withed) e)

pub scope_law : ScopeLaw
scope_law = record {
  adds = λ names level start here made ds log. as-adds names (all_declared ds) here _ (all-declarations names level start here made ds log);
  kept = λ names tokens here there a token h. kept names here there a.more a.grows token (a.named (symbol names token) h);
}
