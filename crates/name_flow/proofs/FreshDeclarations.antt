-- Objects that declarations declare have numbers behind those of the objects before them.
use Rattle.std.proofs.Common.{ℕ, ℤ, suc, ◌≤◌, List, [], ◌∷◌, Option, Some, None, Bool, true, false, if◌then◌else◌, arith}
use Rattle.std.specs.Prelude.{is_some}
use Rattle.syntax_tree.specs.Syntax as syntax
use Rattle.syntax_tree.specs.Syntax.{Decl, Expr, Ids, ObjectType}
use Rattle.typed_tree.specs.Decoded as part
use Rattle.typed_tree.specs.Decoded.{TypedPart, as_value}
use Rattle.typed_tree.specs.Syntax as typed
use Rattle.typed_tree.specs.Syntax.{Exprs, Value}
use Rattle.name_rules.specs.Declarations as d
use Rattle.name_rules.specs.Declarations.{Indicated, Initial, all_ids}
use Rattle.name_rules.specs.Expressions.{Inside, expr}
use Rattle.name_rules.specs.Judging.{◌>>=◌, given, joined, pure, some}
use Rattle.name_rules.specs.Scope.{free, hidden_where}
use Rattle.name_rules.specs.TypedParts.{also, exprs_of}
use Rattle.name_rules.specs.Types.{cells_in, number_of}
use Rattle.name_rules.specs.declared.log.Log.{Log}
use Rattle.name_rules.specs.declared.scope.Context.{Context}
use Rattle.name_rules.specs.declared.scope.Names.{Names}
use Rattle.name_rules.specs.declared.types.Subtype.{Subtype}
use Rattle.name_rules.specs.declared.types.Wanted.TheVariants as wanted
use Rattle.name_laws.proofs.KeepsDeclarations as k
use Rattle.name_laws.proofs.KeepsExpressions.{k-expr}
use Rattle.name_laws.proofs.KeepsScope.{k-free}
use Rattle.name_laws.proofs.KeepsTypes.{k-number_of}
use Rattle.name_laws.proofs.Makes.{Any, Maybe, joint, mapped}
use Rattle.name_laws.proofs.Walk.{k-given}
use Rattle.name_laws.proofs.Walked.{KeepsInside}
use Rattle.name_flow.proofs.Finds.{any}
use Rattle.name_flow.proofs.Numbers.{counted-many, growing, many, written-many}

-- what holds of a chain of declarations with so many objects, whatever is declared next
pub record Chain (D : ℕ → TypedPart → Type 0) : Type 0 where
  pub lasts : (m n : ℕ) (x : TypedPart) → m ≤ n → D m x → D n x
  pub mention : (m : ℕ) (x : TypedPart) (es : Exprs) → D m x → D m (also x (part.ADecl (typed.Mentions es)))
  pub default : (m n o : ℕ) (x : TypedPart) → D m x → m ≤ n → suc n ≤ o → D o (also x (part.ADecl (typed.DeclareDefault n)))
  pub variable : (m n o : ℕ) (x : TypedPart) (v : Value) → D m x → m ≤ n → suc n ≤ o → D o (also x (part.ADecl (typed.DeclareVariable n v)))
  pub constant : (m n o : ℕ) (x : TypedPart) (v : Value) → D m x → m ≤ n → suc n ≤ o → D o (also x (part.ADecl (typed.DeclareConstant n v)))

-- a new object has a number of those behind
pub record NewIn (m n : ℕ) (o : Option ℕ) : Type 0 where
  pub grows : m ≤ n
  pub number : Maybe (λ i. (m ≤ i) × (suc i ≤ n)) o

pub new-object : (names : Names) (here : Context) (token : ℕ) (s : Subtype) (constant : Bool) (value : Option ℤ) (log : Log)
    → NewIn (many log) (many (d.new_object names here token s constant value log).1) (d.new_object names here token s constant value log).0
unfolding d.new_object
new-object names here token s constant value log =
    let c = d.cells_counted token (cells_in log s) log in
    let r = number_of s c.1 in
    by c.0 r.1 (omega (arith, counted-many token (cells_in log s) log, (k-number_of growing.walk s).at c.1))
  where
    by : (fits : Bool) (now : Log) → many log ≤ many now
        → (let z = (if fits then (d.object_written names here token (number_of s (d.cells_counted token (cells_in log s) log).1).0 (cells_in log s) constant value >>= λ m. some m) else pure None) now in NewIn (many log) (many z.1) z.0)
    by true now l = let e = written-many names here token (number_of s (d.cells_counted token (cells_in log s) log).1).0 (cells_in log s) constant value now in record { grows = omega (arith, l, e); number = (l, omega (arith, e)) }
    by false now l = record { grows = l; number = tt }

module _ (D : ℕ → TypedPart → Type 0) (C : Chain D) where
  abbrev pub Holds : ℕ → Option TypedPart → Type 0
  Holds m x = Maybe (D m) x

  later : (m n : ℕ) (x : Option TypedPart) → m ≤ n → Holds m x → Holds n x
  later m n None l h = tt
  later m n (Some x) l h = C.lasts m n x l h

  with-mentions : (m : ℕ) (made ms : TypedPart) → D m made → D m (d.with_mentions made ms)
  with-mentions m made part.Nothing h = h
  with-mentions m made ms h = C.mention m made (exprs_of ms) h

  with-object : (m n o : ℕ) (made : TypedPart) (constant : Bool) (v : Option TypedPart) → D m made → m ≤ n → suc n ≤ o → D o (d.with_object made constant n v)
  with-object m n o made true (Some v) h l k = C.constant m n o made (as_value v) h l k
  with-object m n o made true None h l k = C.lasts m o made (omega (arith, l, k)) h
  with-object m n o made false None h l k = C.default m n o made h l k
  with-object m n o made false (Some v) h l k = C.variable m n o made (as_value v) h l k

  object-ended : (m o : ℕ) (names : Names) (here : Context) (token : ℕ) (f : Option ℕ) (constant : Bool) (s : Indicated) (v : Initial) (made : Option TypedPart) (i : Option ℕ) → NewIn m o i → Holds m made → Holds o (d.object_ended names here token f constant s v made i).1
  object-ended m o names here token f constant s v made None n h = tt
  object-ended m o names here token f constant s v made (Some i) n h =
      mapped (D m) (D o) (λ ds. d.with_object (d.with_mentions ds s.part) constant i v.stored) made h (λ x y. with-object m i o (d.with_mentions x s.part) constant v.stored (with-mentions m x s.part y) n.number.0 n.number.1)

  one-object : (names : Names) (here : Context) (token : ℕ) (f : Option ℕ) (constant : Bool) (made : Option TypedPart) (s : Option Indicated) (v : Option Initial) (log : Log) → Holds (many log) made
      → (let r = d.one_object names here token f constant made s v log in Holds (many r.1) r.0.1)
  one-object names here token f constant made (Some s) (Some v) log h =
      let n = d.new_object names here token s.known constant (d.constant_value constant s.known v) log in
      object-ended (many log) (many n.1) names here token f constant s v made n.0 (new-object names here token s.known constant (d.constant_value constant s.known v) log) h
  one-object names here token f constant made None v log h = tt
  one-object names here token f constant made (Some s) None log h = tt

  each-object : (names : Names) (level : Inside) (inner here : Context) (constant : Bool) (first : ℕ) (t : ObjectType) (e : Option Expr) (made : Option TypedPart) (is : List ℕ) (fs : List (Option ℕ)) (log : Log) → KeepsInside growing.walk level → Holds (many log) made
      → (let r = d.each_object names level inner here constant first t e made is fs log in Holds (many r.1) r.0.1)
  each-object names level inner here constant first t e made (i ∷ is) (f ∷ fs) log g h =
      let s = d.typed_object names level inner t log in
      let v = d.initial names level inner s.0 e s.1 in
      let u = d.valued_constant first constant s.0 e v.1 in
      let r = d.one_object names here i f constant made s.0 v.0 u.1 in
      let l : many log ≤ many u.1 = omega (arith, (k.k-typed_object growing names level inner t tt g).at log, (k.k-initial growing.walk names level inner s.0 e tt g).at s.1, (k.k-valued_constant growing.walk first constant s.0 e).at v.1) in
      each-object names level inner r.0.0 constant first t e r.0.1 is fs r.1 g (one-object names here i f constant made s.0 v.0 u.1 (later (many log) (many u.1) made l h))
  each-object names level inner here constant first t e made [] fs log g h = h
  each-object names level inner here constant first t e made (i ∷ is) [] log g h = h

  objects-in : (names : Names) (level : Inside) (start : ℕ) (here : Context) (made : Option TypedPart) (is : Ids) (constant : Bool) (t : ObjectType) (e : Option Expr) (log : Log) → KeepsInside growing.walk level → Holds (many log) made
      → (let r = d.objects names level start here made is constant t e log in Holds (many r.1) r.0.1)
  unfolding d.objects
  objects-in names level start here made is constant t e log g h =
      let r = d.begun_names names start here [] (all_ids is) log in
      each-object names level r.0.0 r.0.0 constant is.first t e made (all_ids is) r.0.1 r.1 g (later (many log) (many r.1) made ((k.k-begun_names growing.walk names start here [] (all_ids is) tt).at log) h)

  numbers-in : (names : Names) (level : Inside) (start : ℕ) (here : Context) (made : Option TypedPart) (is : Ids) (e : Expr) (log : Log) → KeepsInside growing.walk level → Holds (many log) made
      → (let r = d.numbers names level start here made is e log in Holds (many r.1) r.0.1)
  unfolding d.numbers
  numbers-in names level start here made is e log g h =
      let r = d.begun_names names start here [] (all_ids is) log in
      let x = expr names level r.0.0 wanted.Other e r.1 in
      let v = given x.0 d.static_number x.1 in
      let l : many log ≤ many v.1 = omega (arith, (k.k-begun_names growing.walk names start here [] (all_ids is) tt).at log, (k-expr growing.walk names level r.0.0 wanted.Other e tt g).at r.1, (k-given growing.walk x.0 d.static_number (λ y. k.k-static_number growing.walk y)).at x.1) in
      joint (D (many v.1)) Any (D (many v.1)) (d.and_mentions (d.found_mentions x.0)) made v.0 (later (many log) (many v.1) made l h) (any v.0) (λ a b y z. with-mentions (many v.1) a (d.found_mentions x.0) y)

  typed-in : (m n : ℕ) (made : Option TypedPart) (s : Option Indicated) → m ≤ n → Holds m made → Holds n (joined d.and_type made s)
  typed-in m n made s l h = joint (D n) Any (D n) d.and_type made s (later m n made l h) (any s) (λ a b y z. with-mentions n a b.part y)

  pub declaration-in : (names : Names) (level : Inside) (start : ℕ) (here : Context) (made : Option TypedPart) (x : Decl) (log : Log) → KeepsInside growing.walk level → Holds (many log) made
      → (let r = d.declaration names level start here made x log in Holds (many r.1) r.0.1)
  unfolding d.declaration
  declaration-in names level start here made (syntax.ObjectDecl is constant t e) log g h = objects-in names level start here made is (is_some constant) t e log g h
  declaration-in names level start here made (syntax.NumberDecl is at e) log g h = numbers-in names level start here made is e log g h
  declaration-in names level start here made (syntax.ExceptionDecl is) log g h =
      let r = d.begun_names names start here [] (all_ids is) log in
      later (many log) _ made (omega (arith, (k.k-begun_names growing.walk names start here [] (all_ids is) tt).at log, (k.k-each_exception growing.walk names r.0.0 (all_ids is) r.0.1 tt).at r.1)) h
  declaration-in names level start here made (syntax.TypeDecl at token x) log g h =
      let f = free names start here token log in
      let inner = hidden_where names here token f.0 in
      let s = d.defined names level inner token x f.1 in
      typed-in (many log) (many s.1) made s.0 (omega (arith, (k-free growing.walk names start here token tt).at log, (k.k-defined growing names level inner token x tt g).at f.1)) h
  declaration-in names level start here made (syntax.SubtypeDecl at token x) log g h =
      let f = free names start here token log in
      let inner = hidden_where names here token f.0 in
      let s = d.indic names level inner x f.1 in
      typed-in (many log) (many s.1) made s.0 (omega (arith, (k-free growing.walk names start here token tt).at log, (k.k-indic growing.walk names level inner x tt g).at f.1)) h

  pub declarations-in : (names : Names) (level : Inside) (start : ℕ) (here : Context) (made : Option TypedPart) (ds : List Decl) (log : Log) → KeepsInside growing.walk level → Holds (many log) made
      → (let r = d.declarations names level start here made ds log in Holds (many r.1) r.0.1)
  declarations-in names level start here made [] log g h = h
  declarations-in names level start here made (x ∷ ds) log g h =
      let r = d.declaration names level start here made x log in
      declarations-in names level start r.0.0 r.0.1 ds r.1 g (declaration-in names level start here made x log g h)
