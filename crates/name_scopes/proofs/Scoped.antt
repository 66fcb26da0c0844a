-- The typed program of each text without a fault is in scope.
use Rattle.std.proofs.Common.{◌≡◌, refl, sym, ap, subst, ◌∙◌, ℕ, zero, suc, ◌+◌, ◌≤◌, List, [], ◌∷◌, length, Option, Some, None, Bool, true, false, option_map, arith}
use Rattle.ada_meaning.specs.Meaning.{sub_at}
use Rattle.behaviours.specs.Paths.{Entity}
use Rattle.syntax_tree.specs.Parsed.{depth_limit}
use Rattle.syntax_tree.specs.Syntax.{Program}
use Rattle.typed_scopes.specs.Scopes.{IsScoped, ScopedAll, ScopedHandlers, ScopedStmt, handling, outset, sub_around, with_formals}
use Rattle.typed_tree.specs.Syntax as typed
use Rattle.typed_tree.specs.Syntax.{Sub as TypedSub}
use Rattle.name_rules.specs.Programs as p
use Rattle.name_rules.specs.Programs.{Declared', Whole}
use Rattle.name_rules.specs.Resolved.{fresh, judged, typed_by, typed_where}
use Rattle.name_rules.specs.Statements.{no_decls}
use Rattle.name_rules.specs.declared.log.Fault.{Fault}
use Rattle.name_rules.specs.declared.log.Log.{Log}
use Rattle.name_rules.specs.declared.scope.Names.{Names}
use Rattle.name_laws.proofs.CellsFormed.{all-values, formed_law}
use Rattle.name_laws.proofs.CellsPrograms.{all-sound}
use Rattle.name_laws.proofs.KeepsPrograms as k
use Rattle.name_laws.proofs.Lying.{typed-from}
use Rattle.name_laws.proofs.Places.{steady}
use Rattle.name_laws.specs.Formed.{HaveComponents}
use Rattle.name_flow.proofs.FlowPrograms.{flow_law}
use Rattle.name_flow.proofs.FreshPrograms.{fresh_law}
use Rattle.name_flow.specs.Fresh as new
use Rattle.name_flow.specs.Fresh.{IsFresh}
use Rattle.name_flow.specs.Order.{IsOrdered}
use Rattle.name_scopes.proofs.Tallies.{in_body, in_program, in_subs}
use Rattle.name_scopes.proofs.Backwards.{none-backwards}
use Rattle.name_scopes.proofs.Leaving.{backwards}
use Rattle.name_scopes.proofs.Joins.{handled-formals, j-all, j-formals, j-handlers, j-main, j-stmt, past-behind, past-handled, taken-behind, taken-formals}
use Rattle.name_scopes.proofs.Seen.{past}
use Rattle.name_scopes.proofs.Sees.{Maybe}
use Rattle.name_scopes.proofs.SeesBack.{Leads, leads_here}
use Rattle.name_scopes.proofs.SeesPrograms.{SubIn, SubsIn, WholeIn, clauses-near, main-in, outermost-near, place, shown-by}
use Rattle.name_scopes.proofs.SeesShapes.{Facts}
use Rattle.name_scopes.proofs.SeesUnits.{WholeBy, agree-at, program-by}
use Rattle.name_scopes.specs.Law.{ScopedProgramsLaw}

-- what each subprogram of a text sees of the main procedure's objects
abbrev shown-in : Names → Program → ℕ → Entity → Bool
shown-in names text =
    let s = p.policy names text.policy fresh in
    let c = p.clauses names p.outermost text.clauses s.1 in
    let z = p.aspect names c.0 false text.main.aspect c.1 in
    shown-by names depth_limit z.0 (length c.0.scope) (record { here = c.0; decls = Some no_decls; subs = Some [] }) text.main.units z.1

program-in : (P : typed.Program) (L : Log) (names : Names) (text : Program) (F : Facts P (shown-in names text) L) → Leads (judged names text).1 L → Maybe (WholeIn P (shown-in names text) L F) (judged names text).0
unfolding judged p.program
program-in P L names text F l =
    let s = p.policy names text.policy fresh in
    let c = p.clauses names p.outermost text.clauses s.1 in
    let none : length c.1.profiles ≡ 0 = (k.k-clauses steady.walk names p.outermost text.clauses tt).at s.1 ∙ (k.k-policy steady.walk names text.policy tt).at fresh in
    main-in P (shown-in names text) L F names depth_limit c.0 text.main s.0 c.1 l none
    (clauses-near P (shown-in names text) L F (place 0) names p.outermost text.clauses s.1 (outermost-near P (shown-in names text) L F (place 0))) (λ j y. refl)

-- ---- a program that is seen is in scope

no-sub : (s : TypedSub) → ◌≡◌ {A = Option TypedSub} None (Some s) → ⊥
no-sub s e = cc

same-sub : (a b : TypedSub) → ◌≡◌ {A = Option TypedSub} (Some a) (Some b) → a ≡ b
same-sub a b e = cc

one-of : (subs : List TypedSub) (n : ℕ) (unit : TypedSub) → sub_at subs n ≡ Some unit → in_subs backwards subs ≤ 0 → in_body backwards unit.body ≤ 0
one-of [] n unit e h = absurd (no-sub unit e)
one-of (s ∷ ss) zero unit e h = subst (λ u. in_body backwards u.body ≤ 0) (same-sub s unit e) (omega (arith, h))
one-of (s ∷ ss) (suc n) unit e h = one-of ss n unit e (omega (arith, h))

zero-plus : (j : ℕ) → 0 + j ≡ j
zero-plus j = omega arith

module _ (shown : ℕ → Entity → Bool) (L : Log) (w : Whole) (F : Facts (typed_by L w) shown L) where
  abbrev P : typed.Program
  P = typed_by L w

  sub-in : (j : ℕ) (subs : List TypedSub) (n : ℕ) (unit : TypedSub) → SubsIn P shown L F j subs → sub_at subs n ≡ Some unit → SubIn P shown L F (j + n) unit
  sub-in j [] n unit h e = absurd (no-sub unit e)
  sub-in j (s ∷ ss) zero unit h e = subst (λ i. SubIn P shown L F i unit) (omega arith) (subst (SubIn P shown L F j) (same-sub s unit e) h.0)
  sub-in j (s ∷ ss) (suc n) unit h e = subst (λ i. SubIn P shown L F i unit) (omega arith) (sub-in (suc j) ss n unit h.1 e)

  abbrev block : TypedSub → typed.Stmt
  block unit = typed.Block unit.body.decls unit.body.stmts unit.body.handlers

  sub-scoped : SubsIn P shown L F 0 w.subs → IsOrdered P → IsFresh P → in_subs backwards w.subs ≤ 0 → (j : ℕ) (unit : TypedSub) → sub_at w.subs j ≡ Some unit → ScopedStmt P shown (with_formals (sub_around P (shown j)) unit.formals) (block unit)
  sub-scoped h o f n j unit e =
      let x = o.subs j unit e in
      j-stmt P shown (with_formals (sub_around P (shown j)) unit.formals) false (block unit) (subst (λ i. SubIn P shown L F i unit) (zero-plus j) (sub-in 0 w.subs j unit h e)).block (handled-formals (sub_around P (shown j)) unit.formals) (x.stmts, x.handlers)
      (subst (λ t. new.FreshStmt t (block unit)) (ap (λ t. new.with_formals t unit.formals) (taken-behind outset w.body.decls) ∙ taken-formals (sub_around P (shown j)) unit.formals) (f.subs j unit e)) (one-of w.subs j unit e n)

  -- with what is known of the order of statements, of new objects, and of reductions
  scoped : WholeIn P shown L F w → IsOrdered P → IsFresh P → in_program backwards P ≤ 0 → IsScoped P shown
  scoped h o f n =
      let v = past true outset w.body.decls in
      record {
        main = j-main P shown outset w.body.decls (λ t. new.FreshAll t w.body.stmts × new.FreshHandlers t w.body.handlers) (λ u. ScopedAll P shown u w.body.stmts × ScopedHandlers P shown (handling u) w.body.handlers) h.decls f.main (omega (arith, n))
            (λ g. (j-all P shown v false w.body.stmts h.stmts (past-handled true outset w.body.decls) o.stmts g.0 (omega (arith, n)), j-handlers P shown (handling v) w.body.handlers h.handlers refl o.handlers g.1 (omega (arith, n))));
        objects = λ j y e. subst (λ u. u.object y ≡ true) (past-behind outset w.body.decls) (h.objects j y e);
        fresh = λ j unit e. j-formals (sub_around P (shown j)) unit.formals (subst (λ t. new.FreshFormals t unit.formals) (taken-behind outset w.body.decls) (f.formals j unit e));
        subs = λ j unit e. sub-scoped h.subs o f (omega (arith, n)) j unit e;
      }

-- ---- the law

clean : (fs : List Fault) (o : Option typed.Program) (t : typed.Program) → typed_where fs o ≡ Some t → fs ≡ []
clean [] o t e = refl
clean (f ∷ fs) o t e = absurd (let z : ◌≡◌ {A = Option typed.Program} None (Some t) = e in cc)

pub scoped_law : ScopedProgramsLaw
scoped_law names text program e =
    let L = (judged names text).1 in
    let shown = shown-in names text in
    let r = typed-from L.faults L (judged names text).0 program e in
    let ordered : IsOrdered (typed_by L r.0) = subst IsOrdered (sym r.2) (flow_law.ordered names text program e) in
    let first : IsFresh (typed_by L r.0) = subst IsFresh (sym r.2) (fresh_law names text program e) in
    let forward : in_program backwards (typed_by L r.0) ≡ 0 = subst (λ t. in_program backwards t ≡ 0) (sym r.2) (none-backwards names text program e) in
    let agree : WholeBy L.profiles r.0 = subst (Maybe (WholeBy L.profiles)) r.1 (program-by names text) in
    let F : Facts (typed_by L r.0) shown L = record {
      table = record {
        subtypes = refl;
        objects = refl;
        sound = all-sound names text;
        values = all-values L.shapes (subst (λ t. HaveComponents t.subtypes) (sym r.2) (formed_law.components names text program e));
      };
      clean = clean L.faults (option_map (typed_by L) (judged names text).0) program e;
      units = λ n q i. let s = agree-at r.0.subs L.profiles agree n q i in record { unit = s.0; is = s.1; formals = s.2.formals; result = s.2.result; modes = (ordered.subs n s.0 s.1).formals };
    } in
    let h : WholeIn (typed_by L r.0) shown L F r.0 = subst (Maybe (WholeIn (typed_by L r.0) shown L F)) r.1 (program-in (typed_by L r.0) L names text F (leads_here L)) in
    (shown, subst (λ t. IsScoped t shown) r.2 (scoped shown L r.0 F h ordered first (omega (arith, forward))))
