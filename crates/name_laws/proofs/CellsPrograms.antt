-- Whole programs leave what is right.
use Rattle.std.proofs.Common.{ℕ, ◌-◌, ◌≤◌, List, [], ◌∷◌, length, Option, Some, None, Bool, false, refl, arith}
use Rattle.syntax_tree.specs.Syntax as syntax
use Rattle.syntax_tree.specs.Syntax.{Aspect, Body, Clause, Decl, Formal, Formals, Main, Program, Sub, Unit'}
use Rattle.syntax_tree.specs.declared.operators.ClauseWord.TheVariants as word
use Rattle.syntax_tree.specs.declared.operators.ClauseWord.{ClauseWord}
use Rattle.typed_tree.specs.Syntax.{Sub as TypedSub}
use Rattle.typed_tree.specs.declared.program.Mode.{Mode}
use Rattle.name_rules.specs.Declarations as d
use Rattle.name_rules.specs.Declarations.{all_ids}
use Rattle.name_rules.specs.Judging.{joined}
use Rattle.name_rules.specs.Programs as p
use Rattle.name_rules.specs.Programs.{Declared', Profiled}
use Rattle.syntax_tree.specs.Parsed.{depth_limit}
use Rattle.name_rules.specs.Resolved.{fresh, judged}
use Rattle.name_rules.specs.Scope.{free, subtype_named}
use Rattle.name_rules.specs.Statements.{around, body, no_decls, stmt}
use Rattle.name_rules.specs.declared.log.Log.{Log}
use Rattle.name_rules.specs.declared.log.Taken.{Taken}
use Rattle.name_rules.specs.declared.scope.Context.{Context}
use Rattle.name_rules.specs.declared.scope.Names.{Names}
use Rattle.name_rules.specs.declared.scope.What.TheVariants as what
use Rattle.name_rules.specs.declared.types.Scalar.{Scalar}
use Rattle.name_rules.specs.declared.types.Subtype.{Subtype}
use Rattle.name_laws.proofs.CellsDeclared.{IsRightOne, Leaves, begun-right, declared-right, ended-right, next-leaves, now, subtype-right}
use Rattle.name_laws.proofs.CellsGrown.{extending}
use Rattle.name_laws.proofs.EndsParts.{level-named}
use Rattle.name_laws.proofs.CellsObjects.{KeepsBoth, IsAround, around-leaves, counted-leaves, declaration-leaves, declarations-leaves, object-sound}
use Rattle.name_laws.proofs.CellsSound.{AreRight, Sound, are_both, are_dropped, are_later, minding, next_same, right_later}
use Rattle.name_laws.proofs.CellsStatements.{c-body, minds_around}
use Rattle.name_laws.proofs.KeepsDeclarations.{k-begun_names}
use Rattle.name_laws.proofs.KeepsPrograms.{k-aspect, k-clauses, k-end_name, k-level_of, k-mode_rule, k-policy, k-profile_where, k-result_named, k-with_value_of}
use Rattle.name_laws.proofs.KeepsScope.{k-free, k-subtype_named}
use Rattle.name_laws.proofs.Walked.{WalksProfiles}

-- ---- formal parameters

entry-right : (n : ℕ) (names : Names) (here : Context) (token : ℕ) (f : Option ℕ) (m : Mode) (s : Subtype) (k : ℕ) (o : Option ℕ) → AreRight n here.scope → AreRight n (p.formal_entry names here token f m s k o).0.scope
entry-right n names here token f m s k None h = ended-right n names here f None h tt
entry-right n names here token f m s k (Some o) h = ended-right n names here f (Some (what.Object o s _ None)) h tt

one-formal : (names : Names) (here : Context) (token : ℕ) (f : Option ℕ) (m : Mode) (s : Option Subtype) (log : Log) → Sound log → AreRight (length log.shapes) here.scope → IsRightOne (length log.shapes) s
    → Leaves IsAround log (p.one_formal names here token f m s log)
one-formal names here token f m None log h r i = counted-leaves names here f token None log h r
one-formal names here token f m (Some s) log h r i =
    let o = d.new_object names here token s (p.is_constant m) None log in
    let k = object-sound names here token s (p.is_constant m) None log h i in
    record { longer = k.0; sound = k.1; right = entry-right _ names here token f m s 0 o.0 (are_later _ _ here.scope k.0 r) }

one-later : (n m : ℕ) (s : Option Subtype) → n ≤ m → IsRightOne n s → IsRightOne m s
one-later n m None l h = tt
one-later n m (Some s) l h = right_later n m s l h

each-formal : (names : Names) (here : Context) (m : Mode) (s : Option Subtype) (made : Option (List Taken)) (ts : List ℕ) (fs : List (Option ℕ)) (log : Log)
    → Sound log → AreRight (length log.shapes) here.scope → IsRightOne (length log.shapes) s → Leaves IsAround log (p.each_formal names here m s made ts fs log)
each-formal names here m s made [] fs log h r i = around-leaves here made log h r
each-formal names here m s made (t ∷ ts) [] log h r i = around-leaves here made log h r
each-formal names here m s made (t ∷ ts) (f ∷ fs) log h r i =
    let x = p.one_formal names here t f m s log in
    let k = one-formal names here t f m s log h r i in
    next-leaves IsAround log x.1 (p.each_formal names x.0.0 m s (joined p.also_taken_by made x.0.1) ts fs x.1) k.longer
    (each-formal names x.0.0 m s (joined p.also_taken_by made x.0.1) ts fs x.1 k.sound k.right (one-later _ _ s k.longer i))

formal-leaves : (names : Names) (function : Bool) (start : ℕ) (here : Context) (made : Option (List Taken)) (f : Formal) (log : Log) → Sound log → AreRight (length log.shapes) here.scope
    → Leaves IsAround log (p.formal names function start here made f log)
formal-leaves names function start here made f log h r =
    let x = d.begun_names names start here [] (all_ids f.names) log in
    let k = now log (d.begun_names names start here [] (all_ids f.names)) (k-begun_names (minding 0) names start here [] (all_ids f.names) tt) h in
    let u = p.mode_rule function f.mode x.1 in
    let q = now x.1 (p.mode_rule function f.mode) (k-mode_rule (minding 0) function f.mode) k.1 in
    let s = subtype_named names x.0.0 f.mark u.1 in
    let j = now u.1 (subtype_named names x.0.0 f.mark) (k-subtype_named (minding 0) names x.0.0 f.mark tt) q.1 in
    let l : length log.shapes ≤ length s.1.shapes = omega (arith, k.0, q.0, j.0) in
    let a = begun-right (length s.1.shapes) names start here [] (all_ids f.names) log (are_later _ _ here.scope l r) in
    next-leaves IsAround log s.1 (p.each_formal names x.0.0 (p.mode_of f.mode) s.0 made (all_ids f.names) x.0.1 s.1) l
    (each-formal names x.0.0 (p.mode_of f.mode) s.0 made (all_ids f.names) x.0.1 s.1 j.1 a (subtype-right _ names x.0.0 f.mark a u.1))

formals-from : (names : Names) (function : Bool) (start : ℕ) (here : Context) (made : Option (List Taken)) (fs : List Formal) (log : Log) → Sound log → AreRight (length log.shapes) here.scope
    → Leaves IsAround log (p.formals_from names function start here made fs log)
formals-from names function start here made [] log h r = around-leaves here made log h r
formals-from names function start here made (f ∷ fs) log h r =
    let x = p.formal names function start here made f log in
    let k = formal-leaves names function start here made f log h r in
    next-leaves IsAround log x.1 (p.formals_from names function start x.0.0 x.0.1 fs x.1) k.longer (formals-from names function start x.0.0 x.0.1 fs x.1 k.sound k.right)

formals-leaves : (names : Names) (function : Bool) (here : Context) (fs : Option Formals) (log : Log) → Sound log → AreRight (length log.shapes) here.scope → Leaves IsAround log (p.formals names function here fs log)
formals-leaves names function here None log h r = around-leaves here (Some []) log h r
formals-leaves names function here (Some f) log h r = formals-from names function (length here.scope) here (Some []) (f.first ∷ f.more) log h r

-- ---- profiles

writing : WalksProfiles (minding 0)
writing = record { profile = λ ts s log. next_same 0 log _ refl refl }

where-right : (n : ℕ) (names : Names) (here : Context) (name : ℕ) (one : Option ℕ) (ts : Option (List Taken)) (r : Option (Option Scalar)) (log : Log) → AreRight n here.scope
    → AreRight n (p.profile_where names here name one ts r log).0.1.scope
where-right n names here name (Some f) (Some ts) (Some r) log h = declared-right n names here name (Some (what.Sub _)) h tt
where-right n names here name (Some f) (Some ts) None log h = declared-right n names here name None h tt
where-right n names here name (Some f) None r log h = declared-right n names here name None h tt
where-right n names here name None ts r log h = h

abbrev IsProfiled : ℕ → Profiled → Type 0
IsProfiled n q = AreRight n q.outer.scope × AreRight n q.inner.scope

profile-leaves : (names : Names) (start : ℕ) (here : Context) (name : ℕ) (result : Option ℕ) (fs : Option Formals) (log : Log) → Sound log → AreRight (length log.shapes) here.scope
    → Leaves IsProfiled log (p.profile names start here name result fs log)
unfolding p.profile
profile-leaves names start here name result fs log h r =
    let inner : Context = record here { owner = (p.next_owner log).0 } in
    let f = p.formals names (p.is_function result) inner fs log in
    let k = formals-leaves names (p.is_function result) inner fs log h r in
    let g = p.result_named names f.0.0 result f.1 in
    let q = now f.1 (p.result_named names f.0.0 result) (k-result_named (minding 0) names f.0.0 result tt) k.sound in
    let one = free names start here name g.1 in
    let j = now g.1 (free names start here name) (k-free (minding 0) names start here name tt) q.1 in
    let w = p.profile_where names here name one.0 f.0.1 g.0 one.1 in
    let i = now one.1 (p.profile_where names here name one.0 f.0.1 g.0) (k-profile_where (minding 0) names here name one.0 f.0.1 g.0 tt writing) j.1 in
    let l : length f.1.shapes ≤ length w.1.shapes = omega (arith, q.0, j.0, i.0) in
    let m : length log.shapes ≤ length w.1.shapes = omega (arith, k.longer, l) in
    let outer = where-right (length w.1.shapes) names here name one.0 f.0.1 g.0 one.1 (are_later _ _ here.scope m r) in
    record {
      longer = m;
      sound = i.1;
      right = (outer, are_both _ w.0.1.scope _ outer (are_dropped _ (length here.scope) f.0.0.scope (are_later _ _ f.0.0.scope l k.right)));
    }

both-level : (names : Names) (n : ℕ) → KeepsBoth (p.level_of names n)
both-level names n = record { minds = k-level_of (minding 0) names n tt; extends = k-level_of extending names n tt; named = level-named names n }

-- ---- subprograms

body-sound : (names : Names) (n : ℕ) (blocking : Bool) (name : ℕ) (q : Profiled) (a : Option Aspect) (ds : List Decl) (b : Body) (last : Option ℕ) (log : Log) → Sound log → AreRight (length log.shapes) q.inner.scope
    → (length log.shapes ≤ length (p.with_body names n blocking name q a ds b last log).1.shapes) × Sound (p.with_body names n blocking name q a ds b last log).1
unfolding p.with_body
body-sound names n blocking name q a ds b last log h r =
    let z = p.aspect names q.inner blocking a log in
    let k = now log (p.aspect names q.inner blocking a) (k-aspect (minding 0) names q.inner blocking a tt) h in
    let x = d.declarations names (p.level_of names n) (length q.outer.scope) q.inner (Some no_decls) ds z.1 in
    let j = declarations-leaves names (p.level_of names n) (length q.outer.scope) q.inner (Some no_decls) ds z.1 (both-level names n) k.1 (are_later _ _ q.inner.scope k.0 r) in
    let y = body (around names n (stmt names n)) x.0.0 x.0.1 b x.1 in
    let i = ((c-body (length x.1.shapes) (around names n (stmt names n)) x.0.0 x.0.1 b (minds_around names n) j.right).at x.1).at (omega arith) j.sound in
    let e = now y.1 (p.end_name names name last) (k-end_name (minding 0) names name last tt) i.1 in
    (omega (arith, k.0, j.longer, i.0, e.0), e.1)

outer-leaves : (q : Profiled) (s : Option TypedSub) (log mid end : Log) → length log.shapes ≤ length mid.shapes → AreRight (length mid.shapes) q.outer.scope → (length mid.shapes ≤ length end.shapes) × Sound end
    → Leaves IsAround log ((q.outer, s), end)
outer-leaves q s log mid end l r h = record { longer = omega (arith, l, h.0); sound = h.1; right = are_later _ _ q.outer.scope h.0 r }

with-body : (names : Names) (n : ℕ) (blocking : Bool) (start : ℕ) (here : Context) (name : ℕ) (result : Option ℕ) (fs : Option Formals) (a : Option Aspect) (ds : List Decl) (b : Body) (last : Option ℕ) (log : Log)
    → Sound log → AreRight (length log.shapes) here.scope
    → (let q = p.profile names start here name result fs log in let s = p.with_body names n blocking name q.0 a ds b last q.1 in Leaves IsAround log ((q.0.outer, s.0), s.1))
with-body names n blocking start here name result fs a ds b last log h r =
    let q = p.profile names start here name result fs log in
    let k = profile-leaves names start here name result fs log h r in
    let s = p.with_body names n blocking name q.0 a ds b last q.1 in
    outer-leaves q.0 s.0 log q.1 s.1 k.longer k.right.0 (body-sound names n blocking name q.0 a ds b last q.1 k.sound k.right.1)

subprogram-leaves : (names : Names) (n : ℕ) (blocking : Bool) (start : ℕ) (here : Context) (x : Sub) (log : Log) → Sound log → AreRight (length log.shapes) here.scope
    → Leaves IsAround log (p.subprogram names n blocking start here x log)
unfolding p.subprogram
subprogram-leaves names n blocking start here (syntax.Procedure at name fs a ds b last) log h r = with-body names n blocking start here name None fs a ds b last log h r
subprogram-leaves names n blocking start here (syntax.Function at name fs result a ds b last) log h r = with-body names n blocking start here name (Some result) fs a ds b last log h r
subprogram-leaves names n blocking start here (syntax.ExprFunction at name fs result bracket e a) log h r =
    let q = p.profile names start here name (Some result) fs log in
    let k = profile-leaves names start here name (Some result) fs log h r in
    let s = p.with_value_of names n blocking q.0 a e q.1 in
    outer-leaves q.0 s.0 log q.1 s.1 k.longer k.right.0 (now q.1 (p.with_value_of names n blocking q.0 a e) (k-with_value_of (minding 0) names n blocking q.0 a e tt) k.sound)

-- ---- the units of the main procedure

abbrev IsRead : ℕ → Declared' → Type 0
IsRead n x = AreRight n x.here.scope

unit-leaves : (names : Names) (n : ℕ) (blocking : Bool) (start : ℕ) (x : Declared') (u : Unit') (log : Log) → Sound log → AreRight (length log.shapes) x.here.scope → Leaves IsRead log (p.unit_of names n blocking start x u log)
unit-leaves names n blocking start x (syntax.DeclUnit y) log h r =
    let k = declaration-leaves names (p.level_of names n) start x.here x.decls y log (both-level names n) h r in
    record { longer = k.longer; sound = k.sound; right = k.right }
unit-leaves names n blocking start x (syntax.SubUnit s) log h r =
    let k = subprogram-leaves names (n - 1) blocking start x.here s log h r in
    record { longer = k.longer; sound = k.sound; right = k.right }

units-leaves : (names : Names) (n : ℕ) (blocking : Bool) (start : ℕ) (x : Declared') (us : List Unit') (log : Log) → Sound log → AreRight (length log.shapes) x.here.scope → Leaves IsRead log (p.units names n blocking start x us log)
units-leaves names n blocking start x [] log h r = record { longer = omega arith; sound = h; right = r }
units-leaves names n blocking start x (u ∷ us) log h r =
    let y = p.unit_of names n blocking start x u log in
    let k = unit-leaves names n blocking start x u log h r in
    next-leaves IsRead log y.1 (p.units names n blocking start y.0 us y.1) k.longer (units-leaves names n blocking start y.0 us y.1 k.sound k.right)

main-sound : (names : Names) (n : ℕ) (here : Context) (m : Main) (s : Bool) (log : Log) → Sound log → AreRight (length log.shapes) here.scope → Sound (p.main names n here m s log).1
unfolding p.main
main-sound names n here m s log h r =
    let z = p.aspect names here false m.aspect log in
    let k = now log (p.aspect names here false m.aspect) (k-aspect (minding 0) names here false m.aspect tt) h in
    let start : Declared' = record { here = here; decls = Some no_decls; subs = Some [] } in
    let x = p.units names n z.0 (length here.scope) start m.units z.1 in
    let j = units-leaves names n z.0 (length here.scope) start m.units z.1 k.1 (are_later _ _ here.scope k.0 r) in
    let y = body (around names n (stmt names n)) x.0.here x.0.decls m.body x.1 in
    let i = ((c-body (length x.1.shapes) (around names n (stmt names n)) x.0.here x.0.decls m.body (minds_around names n) j.right).at x.1).at (omega arith) j.sound in
    (now y.1 (p.end_name names m.defined m.last_name) (k-end_name (minding 0) names m.defined m.last_name tt) i.1).1

-- ---- clauses declare nothing

clause-right : (n : ℕ) (w : ClauseWord) (here : Context) (first : ℕ) (name : Option ℕ) (log : Log) → AreRight n here.scope → AreRight n (p.clause_name w here first name log).0.scope
clause-right n w here first None log h = h
clause-right n word.With here first (Some name) log h = h
clause-right n word.Use here first (Some name) log h = h

packs-right : (n : ℕ) (names : Names) (w : ClauseWord) (here : Context) (ps : List syntax.Pack) (log : Log) → AreRight n here.scope → AreRight n (p.clause_packs names w here ps log).0.scope
packs-right n names w here [] log h = h
packs-right n names w here (x ∷ ps) log h =
    let k = p.pack names x log in
    let c = p.clause_name w here x.first k.0 k.1 in
    packs-right n names w c.0 ps c.1 (clause-right n w here x.first k.0 k.1 h)

clauses-right : (n : ℕ) (names : Names) (here : Context) (cs : List Clause) (log : Log) → AreRight n here.scope → AreRight n (p.clauses names here cs log).0.scope
clauses-right n names here [] log h = h
clauses-right n names here (c ∷ cs) log h =
    let x = p.clause_packs names c.word here (c.first ∷ c.more) log in
    clauses-right n names x.0 cs x.1 (packs-right n names c.word here (c.first ∷ c.more) log h)

outermost-right : (n : ℕ) → AreRight n p.outermost.scope
outermost-right n = (refl, (tt, (tt, (refl, (refl, (refl, (tt, (tt, (tt, tt)))))))))

fresh-sound : Sound fresh
fresh-sound = record { before = λ n t e. absurd cc; within = λ n o e. absurd cc; counted = λ v n t e. absurd cc; cells = λ v n o e. absurd cc; numbered = λ n t e. absurd cc; lie = λ v n t e. absurd cc }

pub all-sound : (names : Names) (text : Program) → Sound (judged names text).1
unfolding judged p.program
all-sound names text =
    let s = p.policy names text.policy fresh in
    let k = now fresh (p.policy names text.policy) (k-policy (minding 0) names text.policy tt) fresh-sound in
    let c = p.clauses names p.outermost text.clauses s.1 in
    let j = now s.1 (p.clauses names p.outermost text.clauses) (k-clauses (minding 0) names p.outermost text.clauses tt) k.1 in
    main-sound names depth_limit c.0 text.main s.0 c.1 j.1 (clauses-right (length c.1.shapes) names p.outermost text.clauses s.1 (outermost-right (length c.1.shapes)))
