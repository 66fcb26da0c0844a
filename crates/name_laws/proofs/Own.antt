-- Whose own name is visible in a body.
use Rattle.std.proofs.Common.{◌≡◌, ℕ, List, [], ◌∷◌, ◌++◌, Option, Some, None, Bool, refl, ap, ◌∙◌, drop, length}
use Rattle.std.proofs.Math.Seq.{drop-append_seam}
use Rattle.syntax_tree.specs.Syntax as syntax
use Rattle.syntax_tree.specs.Syntax.{Clause, Decl, Formal, Formals, Pack, Sub, Unit'}
use Rattle.syntax_tree.specs.declared.operators.ClauseWord.{ClauseWord}
use Rattle.syntax_tree.specs.declared.operators.ClauseWord.TheVariants as word
use Rattle.typed_tree.specs.Decoded.{TypedPart}
use Rattle.typed_tree.specs.declared.program.Mode.{Mode}
use Rattle.name_rules.specs.Declarations as d
use Rattle.name_rules.specs.Expressions.{Inside}
use Rattle.name_rules.specs.Judging.{joined}
use Rattle.name_rules.specs.Programs as p
use Rattle.name_rules.specs.Scope.{standard, lookup, with_entry}
use Rattle.name_rules.specs.Statements.{no_decls}
use Rattle.name_rules.specs.Symbols.{symbol}
use Rattle.name_rules.specs.declared.log.Log.{Log}
use Rattle.name_rules.specs.declared.log.Taken.{Taken}
use Rattle.name_rules.specs.declared.scope.Context.{Context}
use Rattle.name_rules.specs.declared.scope.Entry.{Entry}
use Rattle.name_rules.specs.declared.scope.Names.{Names}
use Rattle.name_rules.specs.declared.scope.What.TheVariants as what
use Rattle.name_rules.specs.declared.types.Scalar.{Scalar}
use Rattle.name_rules.specs.declared.types.Subtype.{Subtype}
use Rattle.name_laws.proofs.Lookups.{lookup-last, lookup-passed, none-found, stands-as}
use Rattle.name_laws.proofs.Places.{own-number, places}
use Rattle.name_laws.proofs.Scopes.{AddsWhere, AreOthers, IsOther, adds-ended, adds-entry, adds-less, adds-none, adds-then, all-declarations, begun-all, adds-begun, named-left, named-right, one-declaration}
use Rattle.name_laws.specs.Hiding.{HasNone, IsLast, NoneNamed, all_declared}
use Rattle.name_laws.specs.OwnNames.{MainNameLaw, OwnNameLaw, around_body, around_main, around_units, formal_names, formals_named, sub_name, unit_names, units_names}

-- ---- formal parameters

formal-entry : (names : Names) (here : Context) (token : ℕ) (f : Option ℕ) (m : Mode) (s : Subtype) (n : ℕ) (o : Option ℕ)
    → AddsWhere (IsOther names f) here (p.formal_entry names here token f m s n o).0
formal-entry names here token f m s n None = adds-ended names here f _
formal-entry names here token f m s n (Some o) = adds-ended names here f _

one-formal : (names : Names) (here : Context) (token : ℕ) (f : Option ℕ) (m : Mode) (s : Option Subtype) (log : Log)
    → AddsWhere (IsOther names f) here (p.one_formal names here token f m s log).0.0
one-formal names here token f m None log = adds-ended names here f _
one-formal names here token f m (Some s) log = formal-entry names here token f m s 0 _

each-formal : (names : Names) (here : Context) (m : Mode) (s : Option Subtype) (made : Option (List Taken)) (ts : List ℕ) (fs : List (Option ℕ)) (log : Log)
    → AddsWhere (AreOthers names fs) here (p.each_formal names here m s made ts fs log).0.0
each-formal names here m s made [] fs log = adds-none _ here
each-formal names here m s made (t ∷ ts) [] log = adds-none _ here
each-formal names here m s made (t ∷ ts) (f ∷ fs) log =
    let r = p.one_formal names here t f m s log in
    let there = (p.each_formal names r.0.0 m s (joined p.also_taken_by made r.0.1) ts fs r.1).0.0 in
    adds-then _ here r.0.0 there
    (adds-less _ _ here r.0.0 (λ name h. h.0) (one-formal names here t f m s log))
    (adds-less _ _ r.0.0 there (λ name h. h.1) (each-formal names r.0.0 m s _ ts fs r.1))

one-of-formals : (names : Names) (function : Bool) (start : ℕ) (here : Context) (made : Option (List Taken)) (f : Formal) (log : Log)
    → AddsWhere (λ name. NoneNamed names name (d.all_ids f.names)) here (p.formal names function start here made f log).0.0
one-of-formals names function start here made f log =
    let r = d.begun_names names start here [] (d.all_ids f.names) log in
    adds-then _ here r.0.0 _ (adds-begun names start here [] (d.all_ids f.names) log)
    (adds-less _ _ r.0.0 _ (λ name h. begun-all names start here (d.all_ids f.names) log name h) (each-formal names r.0.0 _ _ made (d.all_ids f.names) r.0.1 _))

formals-from : (names : Names) (function : Bool) (start : ℕ) (here : Context) (made : Option (List Taken)) (fs : List Formal) (log : Log)
    → AddsWhere (λ name. NoneNamed names name (formals_named fs)) here (p.formals_from names function start here made fs log).0.0
formals-from names function start here made [] log = adds-none _ here
formals-from names function start here made (f ∷ fs) log =
    let r = p.formal names function start here made f log in
    let there = (p.formals_from names function start r.0.0 r.0.1 fs r.1).0.0 in
    adds-then _ here r.0.0 there
    (adds-less _ _ here r.0.0 (λ name h. named-left names name (d.all_ids f.names) (formals_named fs) h) (one-of-formals names function start here made f log))
    (adds-less _ _ r.0.0 there (λ name h. named-right names name (d.all_ids f.names) (formals_named fs) h) (formals-from names function start r.0.0 r.0.1 fs r.1))

all-formals : (names : Names) (function : Bool) (here : Context) (fs : Option Formals) (log : Log)
    → AddsWhere (λ name. NoneNamed names name (formal_names fs)) here (p.formals names function here fs log).0.0
all-formals names function here None log = adds-none _ here
all-formals names function here (Some f) log = formals-from names function _ here _ (f.first ∷ f.more) log

-- ---- profiles

-- a declared subprogram's entry is the last one
own-where : (names : Names) (here : Context) (name : ℕ) (one : Option ℕ) (ts : Option (List Taken)) (r : Option (Option Scalar)) (log : Log) (n : ℕ)
    → (p.profile_where names here name one ts r log).0.0 ≡ Some n → (p.profile_where names here name one ts r log).0.1 ≡ with_entry here (symbol names name) (what.Sub n)
own-where names here name (Some f) (Some ts) (Some r) log n e = ap (λ k. with_entry here (symbol names name) (what.Sub (or_zero k))) e
  where
    or_zero : Option ℕ → ℕ
    or_zero None = 0
    or_zero (Some k) = k
own-where names here name (Some f) (Some ts) None log n e = absurd cc
own-where names here name (Some f) None r log n e = absurd cc
own-where names here name None ts r log n e = absurd cc

-- what a subprogram's name leaves behind it
adds-own : (names : Names) (here : Context) (name : ℕ) (one : Option ℕ) (ts : Option (List Taken)) (r : Option (Option Scalar)) (log : Log)
    → AddsWhere (λ n. symbol names name ≡ n → ⊥) here (p.profile_where names here name one ts r log).0.1
adds-own names here name (Some f) (Some ts) (Some r) log = adds-entry here (symbol names name) _
adds-own names here name (Some f) (Some ts) None log = adds-entry here (symbol names name) _
adds-own names here name (Some f) None r log = adds-entry here (symbol names name) _
adds-own names here name None ts r log = adds-none _ here

profile-outer : (names : Names) (start : ℕ) (here : Context) (name : ℕ) (result : Option ℕ) (fs : Option Formals) (log : Log)
    → AddsWhere (λ n. symbol names name ≡ n → ⊥) here (p.profile names start here name result fs log).0.outer
unfolding p.profile
profile-outer names start here name result fs log = adds-own names here name _ _ _ _

outer-own : (names : Names) (start : ℕ) (here : Context) (name : ℕ) (result : Option ℕ) (fs : Option Formals) (log : Log) (n : ℕ)
    → (p.profile names start here name result fs log).0.number ≡ Some n → (p.profile names start here name result fs log).0.outer ≡ with_entry here (symbol names name) (what.Sub n)
unfolding p.profile
outer-own names start here name result fs log n e = own-where names here name _ _ _ _ n e

-- the body's scope: the formals stand behind the subprogram's own entry
inner-formals : (names : Names) (start : ℕ) (here : Context) (name : ℕ) (result : Option ℕ) (fs : Option Formals) (log : Log)
    → (more : List Entry) × ((p.profile names start here name result fs log).0.inner.scope ≡ (p.profile names start here name result fs log).0.outer.scope ++ more)
    × ((n : ℕ) → NoneNamed names n (formal_names fs) → HasNone n more)
unfolding p.profile
inner-formals names start here name result fs log =
    let owner = p.next_owner log in
    let around = record here { owner = owner.0 } in
    let a = all-formals names (p.is_function result) around fs owner.1 in
    (a.more, ap (λ c. (p.profile names start here name result fs log).0.outer.scope ++ drop (length here.scope) c.scope) a.grows ∙ ap (λ s. (p.profile names start here name result fs log).0.outer.scope ++ s) (drop-append_seam here.scope a.more), a.named)

own-last : (names : Names) (name n : ℕ) (here outer : Context) → outer ≡ with_entry here (symbol names name) (what.Sub n) → IsLast (symbol names name) (what.Sub n) outer.scope
own-last names name n here outer e = record { before = here.scope; after = []; splits = ap (λ c. c.scope) e; unhidden = tt }

visible : (names : Names) (start : ℕ) (here : Context) (name : ℕ) (result : Option ℕ) (fs : Option Formals) (log : Log) (n : ℕ)
    → (p.profile names start here name result fs log).0.number ≡ Some n
    → (level : Inside) (place : ℕ) (made : Option TypedPart) (ds : List Decl) (later : Log)
    → NoneNamed names (symbol names name) (formal_names fs) → NoneNamed names (symbol names name) (all_declared ds)
    → lookup (symbol names name) (around_body names level place (p.profile names start here name result fs log).0 made ds later).scope ≡ Some (what.Sub n)
visible names start here name result fs log n e level place made ds later h k =
    let q = (p.profile names start here name result fs log).0 in
    let i = inner-formals names start here name result fs log in
    let a = all-declarations names level place q.inner made ds later in
    ap (λ c. lookup (symbol names name) c.scope) a.grows
    ∙ lookup-passed (symbol names name) q.inner.scope a.more (a.named (symbol names name) k)
    ∙ ap (lookup (symbol names name)) i.1
    ∙ lookup-passed (symbol names name) q.outer.scope i.0 (i.2 (symbol names name) h)
    ∙ ap (λ c. lookup (symbol names name) c.scope) (outer-own names start here name result fs log n e)
    ∙ lookup-last (symbol names name) here.scope (what.Sub n)

pub own_name_law : OwnNameLaw
own_name_law = record {
  number = own-number;
  places = places;
  declared = λ names start here name result fs log n e. own-last names name n here _ (outer-own names start here name result fs log n e);
  visible = λ names start here name result fs log n e level place made ds later h k token same.
      stands-as names _ token (Some (what.Sub n)) (ap (λ s. lookup s (around_body names level place (p.profile names start here name result fs log).0 made ds later).scope) same ∙ visible names start here name result fs log n e level place made ds later h k);
}

-- ---- the main procedure

clause-scope : (w : ClauseWord) (here : Context) (first : ℕ) (name : Option ℕ) (log : Log) → (p.clause_name w here first name log).0.scope ≡ here.scope
clause-scope w here first None log = refl
clause-scope word.With here first (Some name) log = refl
clause-scope word.Use here first (Some name) log = refl

packs-scope : (names : Names) (w : ClauseWord) (here : Context) (ps : List Pack) (log : Log) → (p.clause_packs names w here ps log).0.scope ≡ here.scope
packs-scope names w here [] log = refl
packs-scope names w here (q ∷ ps) log =
    let n = p.pack names q log in
    let c = p.clause_name w here q.first n.0 n.1 in
    packs-scope names w c.0 ps c.1 ∙ clause-scope w here q.first n.0 n.1

clauses-scope : (names : Names) (here : Context) (cs : List Clause) (log : Log) → (p.clauses names here cs log).0.scope ≡ here.scope
clauses-scope names here [] log = refl
clauses-scope names here (c ∷ cs) log =
    let r = p.clause_packs names c.word here (c.first ∷ c.more) log in
    clauses-scope names r.0 cs r.1 ∙ packs-scope names c.word here (c.first ∷ c.more) log

one-sub : (names : Names) (n : ℕ) (blocking : Bool) (start : ℕ) (here : Context) (s : Sub) (log : Log)
    → AddsWhere (λ name. NoneNamed names name (sub_name s ∷ [])) here (p.subprogram names n blocking start here s log).0.0
unfolding p.subprogram
one-sub names n blocking start here (syntax.Procedure at name fs a ds b last) log = adds-less _ _ here _ (λ m h. h.0) (profile-outer names start here name None fs log)
one-sub names n blocking start here (syntax.Function at name fs result a ds b last) log = adds-less _ _ here _ (λ m h. h.0) (profile-outer names start here name (Some result) fs log)
one-sub names n blocking start here (syntax.ExprFunction at name fs result bracket e a) log = adds-less _ _ here _ (λ m h. h.0) (profile-outer names start here name (Some result) fs log)

one-unit : (names : Names) (n : ℕ) (blocking : Bool) (start : ℕ) (x : p.Declared') (u : Unit') (log : Log)
    → AddsWhere (λ name. NoneNamed names name (unit_names u)) x.here (p.unit_of names n blocking start x u log).0.here
one-unit names n blocking start x (syntax.DeclUnit y) log = one-declaration names (p.level_of names n) start x.here x.decls y log
one-unit names n blocking start x (syntax.SubUnit s) log = one-sub names _ blocking start x.here s log

all-units : (names : Names) (n : ℕ) (blocking : Bool) (start : ℕ) (x : p.Declared') (us : List Unit') (log : Log)
    → AddsWhere (λ name. NoneNamed names name (units_names us)) x.here (p.units names n blocking start x us log).0.here
all-units names n blocking start x [] log = adds-none _ x.here
all-units names n blocking start x (u ∷ us) log =
    let r = p.unit_of names n blocking start x u log in
    let there = (p.units names n blocking start r.0 us r.1).0.here in
    adds-then _ x.here r.0.here there
    (adds-less _ _ x.here r.0.here (λ name h. named-left names name (unit_names u) (units_names us) h) (one-unit names n blocking start x u log))
    (adds-less _ _ r.0.here there (λ name h. named-right names name (unit_names u) (units_names us) h) (all-units names n blocking start r.0 us r.1))

nowhere : (names : Names) (n : ℕ) (blocking : Bool) (cs : List Clause) (us : List Unit') (log later : Log) (name : ℕ)
    → HasNone name standard → NoneNamed names name (units_names us)
    → lookup name (around_units names n blocking (around_main names cs log) us later).scope ≡ None
nowhere names n blocking cs us log later name h k =
    let here = around_main names cs log in
    let a = all-units names n blocking (length here.scope) (record { here = here; decls = Some no_decls; subs = Some [] }) us later in
    ap (λ c. lookup name c.scope) a.grows ∙ lookup-passed name here.scope a.more (a.named name k)
    ∙ ap (lookup name) (clauses-scope names p.outermost cs log) ∙ none-found name standard h

pub main_name_law : MainNameLaw
unfolding p.main
main_name_law = record {
  undeclared = λ names n blocking program us log later h k token same.
      stands-as names _ token None (ap (λ s. lookup s (around_units names n blocking (around_main names program.clauses log) us later).scope) same ∙ nowhere names n blocking program.clauses us log later (symbol names program.main.defined) h k);
  unnamed = λ names n here m name other strict. refl;
}
