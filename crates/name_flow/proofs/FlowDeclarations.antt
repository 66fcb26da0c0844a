-- Declarations, iterations and clauses stand in the loops that are around them.
use Rattle.std.proofs.Common.{◌≡◌, refl, ◌∙◌, ℕ, List, [], ◌∷◌, ◌++◌, length, Option, Some, None, Bool, true, false, if◌then◌else◌, option_map}
use Rattle.std.specs.Prelude.{is_some, not}
use Rattle.syntax_tree.specs.Syntax as syntax
use Rattle.syntax_tree.specs.Syntax.{Clause, Decl, Expr, Ids, Iter, ObjectType, OptionalParallel, Pack}
use Rattle.syntax_tree.specs.declared.operators.ClauseWord.{ClauseWord}
use Rattle.syntax_tree.specs.declared.operators.ClauseWord.TheVariants as word
use Rattle.typed_tree.specs.Decoded.{Nothing, TypedPart, as_iteration, as_optional}
use Rattle.typed_tree.specs.Syntax as typed
use Rattle.typed_tree.specs.Syntax.{Iteration, Optional, Selections}
use Rattle.typed_tree.specs.declared.program.SiteKind.{SiteKind}
use Rattle.name_rules.specs.Declarations as d
use Rattle.name_rules.specs.Declarations.{Indicated, Initial, all_ids}
use Rattle.name_rules.specs.Expressions.{Inside, expr}
use Rattle.name_rules.specs.Found.{Denoted}
use Rattle.name_rules.specs.Iterations as i
use Rattle.name_rules.specs.Iterations.{Chunked, Entered, Walked, filtered, range_made, with_filter}
use Rattle.name_rules.specs.Judging.{◌>>=◌, breaks, given, pure}
use Rattle.name_rules.specs.Names.{is_array}
use Rattle.name_rules.specs.Parts.{array_shape, new_parameter, new_site}
use Rattle.name_rules.specs.Programs as p
use Rattle.name_rules.specs.Ranges.{range}
use Rattle.name_rules.specs.Scope.{declared, free, hidden_where}
use Rattle.name_rules.specs.TypedParts.{selections_of}
use Rattle.name_rules.specs.declared.found.Denoted.{Denoted as KnownDenoted}
use Rattle.name_rules.specs.declared.found.Denoted.TheVariants as denoted
use Rattle.name_rules.specs.declared.found.Found.TheVariants as known
use Rattle.name_rules.specs.declared.found.ObjectName.{ObjectName}
use Rattle.name_rules.specs.declared.log.Log.{Log}
use Rattle.name_rules.specs.declared.log.Rule.TheVariants.{WrongType}
use Rattle.name_rules.specs.declared.scope.Context.{Context}
use Rattle.name_rules.specs.declared.scope.Names.{Names}
use Rattle.name_rules.specs.declared.scope.What.{What}
use Rattle.name_rules.specs.declared.scope.What.TheVariants as what
use Rattle.name_rules.specs.declared.types.Wanted.TheVariants as wanted
use Rattle.name_laws.proofs.Makes.{Any, Maybe, joint, mapped}
use Rattle.name_flow.proofs.Finds.{any}
use Rattle.syntax_tree.specs.Syntax.{OptionalExpr}
use Rattle.typed_scopes.specs.Scopes.{IsForward}

-- the loops and the handlers around two texts are the same
pub record Same (a b : Context) : Type 0 where
  pub loops : a.loops ≡ b.loops
  pub handler : a.in_handler ≡ b.in_handler

pub itself : {a : Context} → Same a a
itself = record { loops = refl; handler = refl }

pub after : {a b c : Context} → Same a b → Same b c → Same a c
after h k = record { loops = h.loops ∙ k.loops; handler = h.handler ∙ k.handler }

-- ---- what is declared

hidden-loops : (names : Names) (here : Context) (t : ℕ) (f : Option ℕ) → Same (hidden_where names here t f) here
hidden-loops names here t None = record { loops = refl; handler = refl }
hidden-loops names here t (Some u) = record { loops = refl; handler = refl }

declared-loops : (names : Names) (here : Context) (t : ℕ) (w : Option What) → Same (declared names here t w) here
declared-loops names here t None = record { loops = refl; handler = refl }
declared-loops names here t (Some w) = record { loops = refl; handler = refl }

pub ended-loops : (names : Names) (here : Context) (f : Option ℕ) (w : Option What) → Same (d.ended_name names here f w) here
ended-loops names here None w = record { loops = refl; handler = refl }
ended-loops names here (Some t) w = declared-loops names here t w

pub begun-loops : (names : Names) (start : ℕ) (here : Context) (made : List (Option ℕ)) (ts : List ℕ) (log : Log) → Same (d.begun_names names start here made ts log).0.0 here
begun-loops names start here made [] log = record { loops = refl; handler = refl }
begun-loops names start here made (t ∷ ts) log =
    let f = free names start here t log in
    after (begun-loops names start (hidden_where names here t f.0) (made ++ f.0 ∷ []) ts f.1) (hidden-loops names here t f.0)

object-loops : (names : Names) (here : Context) (token : ℕ) (f : Option ℕ) (constant : Bool) (s : Indicated) (v : Initial) (made : Option TypedPart) (n : Option ℕ) → Same (d.object_ended names here token f constant s v made n).0 here
object-loops names here token f constant s v made None = ended-loops names here f None
object-loops names here token f constant s v made (Some n) = ended-loops names here f (Some (what.Object n s.known (not constant) (d.constant_value constant s.known v)))

one-loops : (names : Names) (here : Context) (token : ℕ) (f : Option ℕ) (constant : Bool) (made : Option TypedPart) (s : Option Indicated) (v : Option Initial) (log : Log) → Same (d.one_object names here token f constant made s v log).0.0 here
one-loops names here token f constant made (Some s) (Some v) log = object-loops names here token f constant s v made (d.new_object names here token s.known constant (d.constant_value constant s.known v) log).0
one-loops names here token f constant made None v log = ended-loops names here f None
one-loops names here token f constant made (Some s) None log = ended-loops names here f None

each-loops : (names : Names) (level : Inside) (inner here : Context) (constant : Bool) (first : ℕ) (t : ObjectType) (e : Option Expr) (made : Option TypedPart) (is : List ℕ) (fs : List (Option ℕ)) (log : Log)
    → Same (d.each_object names level inner here constant first t e made is fs log).0.0 here
each-loops names level inner here constant first t e made (i ∷ is) (f ∷ fs) log =
    let s = d.typed_object names level inner t log in
    let v = d.initial names level inner s.0 e s.1 in
    let u = d.valued_constant first constant s.0 e v.1 in
    let r = d.one_object names here i f constant made s.0 v.0 u.1 in
    after (each-loops names level inner r.0.0 constant first t e r.0.1 is fs r.1) (one-loops names here i f constant made s.0 v.0 u.1)
each-loops names level inner here constant first t e made [] fs log = record { loops = refl; handler = refl }
each-loops names level inner here constant first t e made (i ∷ is) [] log = record { loops = refl; handler = refl }

all-ended-loops : (names : Names) (here : Context) (w : Option What) (fs : List (Option ℕ)) → Same (d.all_ended names here w fs) here
all-ended-loops names here w [] = record { loops = refl; handler = refl }
all-ended-loops names here w (f ∷ fs) = after (all-ended-loops names (d.ended_name names here f w) w fs) (ended-loops names here f w)

exceptions-loops : (names : Names) (here : Context) (ts : List ℕ) (fs : List (Option ℕ)) (log : Log) → Same (d.each_exception names here ts fs log).0 here
exceptions-loops names here (t ∷ ts) (f ∷ fs) log =
    let n = d.new_exception t log in
    after (exceptions-loops names (d.ended_name names here f _) ts fs n.1) (ended-loops names here f _)
exceptions-loops names here [] fs log = record { loops = refl; handler = refl }
exceptions-loops names here (t ∷ ts) [] log = record { loops = refl; handler = refl }

objects-loops : (names : Names) (level : Inside) (start : ℕ) (here : Context) (made : Option TypedPart) (is : Ids) (constant : Bool) (t : ObjectType) (e : Option Expr) (log : Log) → Same (d.objects names level start here made is constant t e log).0.0 here
unfolding d.objects
objects-loops names level start here made is constant t e log =
    let r = d.begun_names names start here [] (all_ids is) log in
    after (each-loops names level r.0.0 r.0.0 constant is.first t e made (all_ids is) r.0.1 r.1) (begun-loops names start here [] (all_ids is) log)

numbers-loops : (names : Names) (level : Inside) (start : ℕ) (here : Context) (made : Option TypedPart) (is : Ids) (e : Expr) (log : Log) → Same (d.numbers names level start here made is e log).0.0 here
unfolding d.numbers
numbers-loops names level start here made is e log =
    let r = d.begun_names names start here [] (all_ids is) log in
    let x = expr names level r.0.0 wanted.Other e r.1 in
    let v = given x.0 d.static_number x.1 in
    after (all-ended-loops names r.0.0 (option_map what.Number v.0) r.0.1) (begun-loops names start here [] (all_ids is) log)

declaration-loops : (names : Names) (level : Inside) (start : ℕ) (here : Context) (made : Option TypedPart) (x : Decl) (log : Log) → Same (d.declaration names level start here made x log).0.0 here
unfolding d.declaration
declaration-loops names level start here made (syntax.ObjectDecl is constant t e) log = objects-loops names level start here made is (is_some constant) t e log
declaration-loops names level start here made (syntax.NumberDecl is at e) log = numbers-loops names level start here made is e log
declaration-loops names level start here made (syntax.ExceptionDecl is) log =
    let r = d.begun_names names start here [] (all_ids is) log in
    after (exceptions-loops names r.0.0 (all_ids is) r.0.1 r.1) (begun-loops names start here [] (all_ids is) log)
declaration-loops names level start here made (syntax.TypeDecl at token x) log =
    let f = free names start here token log in
    after (ended-loops names (hidden_where names here token f.0) f.0 _) (hidden-loops names here token f.0)
declaration-loops names level start here made (syntax.SubtypeDecl at token x) log =
    let f = free names start here token log in
    after (ended-loops names (hidden_where names here token f.0) f.0 _) (hidden-loops names here token f.0)

pub declarations-loops : (names : Names) (level : Inside) (start : ℕ) (here : Context) (made : Option TypedPart) (ds : List Decl) (log : Log) → Same (d.declarations names level start here made ds log).0.0 here
declarations-loops names level start here made [] log = record { loops = refl; handler = refl }
declarations-loops names level start here made (x ∷ ds) log =
    let r = d.declaration names level start here made x log in
    after (declarations-loops names level start r.0.0 r.0.1 ds r.1) (declaration-loops names level start here made x log)

pub one-declaration-loops : (names : Names) (level : Inside) (start : ℕ) (here : Context) (made : Option TypedPart) (x : Decl) (log : Log) → Same (d.declaration names level start here made x log).0.0 here
one-declaration-loops = declaration-loops

-- ---- with and use clauses

clause-loops : (w : ClauseWord) (here : Context) (first : ℕ) (name : Option ℕ) (log : Log) → Same (p.clause_name w here first name log).0 here
clause-loops w here first None log = record { loops = refl; handler = refl }
clause-loops word.With here first (Some name) log = record { loops = refl; handler = refl }
clause-loops word.Use here first (Some name) log = record { loops = refl; handler = refl }

packs-loops : (names : Names) (w : ClauseWord) (here : Context) (ps : List Pack) (log : Log) → Same (p.clause_packs names w here ps log).0 here
packs-loops names w here [] log = record { loops = refl; handler = refl }
packs-loops names w here (x ∷ xs) log =
    let n = p.pack names x log in
    let c = p.clause_name w here x.first n.0 n.1 in
    after (packs-loops names w c.0 xs c.1) (clause-loops w here x.first n.0 n.1)

pub clauses-loops : (names : Names) (here : Context) (cs : List Clause) (log : Log) → Same (p.clauses names here cs log).0 here
clauses-loops names here [] log = record { loops = refl; handler = refl }
clauses-loops names here (c ∷ cs) log =
    let x = p.clause_packs names c.word here (c.first ∷ c.more) log in
    after (clauses-loops names x.0 cs x.1) (packs-loops names c.word here (c.first ∷ c.more) log)

-- ---- iterations: one that isn't written backwards goes forward

abbrev pub GoesForward : TypedPart → Type 0
GoesForward x = IsForward (as_iteration x)

pub record EnteredIn (here : Context) (e : Entered) : Type 0 where
  pub same : Same e.here here
  pub forward : e.reverse ≡ None → Maybe GoesForward e.iteration

forward-filtered : (x : Iteration) (f : Optional) → IsForward x → IsForward (with_filter x f)
forward-filtered (typed.Range n b l h c g) f e = e
forward-filtered (typed.Components n c at r ss m s d g) f e = tt

over-forward : (n token : ℕ) (f : OptionalExpr) (q : ObjectName) (ss : Selections) (log : Log) → Maybe GoesForward (i.over_place n token f q ss log).0.made
over-forward n token f q ss log = by (is_array (array_shape log q.subtype))
  where
    by : (b : Bool) → Maybe GoesForward ((if b then pure (i.array_walked log n token f q ss (array_shape log q.subtype)) else (breaks q.first WrongType >>= λ u. pure (i.no_array token f))) log).0.made
    by true = tt
    by false = tt

form-forward : (n token : ℕ) (f : OptionalExpr) (k : KnownDenoted) (x : TypedPart) (log : Log) → Maybe GoesForward (i.over_form n token f k x log).0.made
form-forward n token f (denoted.Value (known.Object q)) x log = over-forward n token f q (selections_of x) log
form-forward n token f k x log = tt

denoted-forward : (n token : ℕ) (f : OptionalExpr) (x : Option Denoted) (log : Log) → Maybe GoesForward (i.over_denoted n token f x log).0.made
denoted-forward n token f None log = tt
denoted-forward n token f (Some x) log = form-forward n token f x.known x.part log

walked-forward : (level : Inside) (here : Context) (x : Iter) (log : Log) → (i.walked level here x log).0.reverse ≡ None → Maybe GoesForward (i.walked level here x log).0.made
unfolding i.walked
walked-forward level here (syntax.InRange index None r f) log e = mapped Any GoesForward (range_made (range level here r log).1.parameters false) (range level here r log).0 (any (range level here r log).0) (λ x t. refl)
walked-forward level here (syntax.InRange index (Some at) r f) log e = absurd (let z : ◌≡◌ {A = Option ℕ} (Some at) None = e in cc)
walked-forward level here (syntax.OfName index nm f) log e =
    let x = level.name here nm log in
    let n = new_parameter x.1 in
    denoted-forward n.0 index f x.0 n.1

chunk-loops : (names : Names) (here : Context) (construct : Option ℕ) (entry : Option (ℕ × What)) → Same (i.with_chunk names (i.in_construct names here construct) entry) here
chunk-loops names here None None = record { loops = refl; handler = refl }
chunk-loops names here None (Some e) = record { loops = refl; handler = refl }
chunk-loops names here (Some n) None = record { loops = refl; handler = refl }
chunk-loops names here (Some n) (Some e) = record { loops = refl; handler = refl }

with-loops : (names : Names) (inner here : Context) (start : ℕ) (w : Walked) (log : Log) → Same inner here → Same (i.with_walked names inner start w log).0 here
with-loops names inner here start w log h = record { loops = h.loops; handler = h.handler }

entered-with-in : (names : Names) (level : Inside) (here : Context) (construct : Option ℕ) (start : ℕ) (c : Chunked) (x : Iter) (log : Log) → EnteredIn here (i.entered_with names level here construct start c x log).0
unfolding i.entered_with
entered-with-in names level here construct start c x log = record {
  same = with-loops names (i.with_chunk names (i.in_construct names here construct) c.entry) here start w.0 w.1 (chunk-loops names here construct c.entry);
  forward = λ e. joint GoesForward Any GoesForward filtered w.0.made f.0 (walked-forward level here x log e) (any f.0) (λ a b g h. forward-filtered (as_iteration a) (as_optional b) g);
}
  where
    w : Walked × Log
    w = i.walked level here x log

    inner : Context × Log
    inner = i.with_walked names (i.with_chunk names (i.in_construct names here construct) c.entry) start w.0 w.1

    f : Option TypedPart × Log
    f = i.filter_where names level inner.0 w.0.filter inner.1

pub entered-in : (names : Names) (level inner : Inside) (here : Context) (k : SiteKind) (parallel : OptionalParallel) (x : Iter) (log : Log) → EnteredIn here (i.entered names level inner here k parallel x log).0
unfolding i.entered
entered-in names level inner here k syntax.AbsentParallel x log = entered-with-in names level here None (length here.scope) (record { chunk = Some Nothing; entry = None }) x log
entered-in names level inner here k (syntax.PresentParallel q) x log =
    let n = new_site here (i.parallel_at q) k log in
    let c = i.chunked_by inner here q n.1 in
    entered-with-in names level here (Some n.0) (length here.scope) c.0 x c.1
