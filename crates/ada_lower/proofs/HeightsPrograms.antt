-- The code of every program is valid, with tables that have what its instructions need.
use Rattle.std.proofs.Common.{◌≡◌, ℕ, zero, suc, ◌+◌, ◌<◌, ◌≤◌, List, [], ◌∷◌, length, slice_get, Option, Some, None, Bool, true, false, cond, refl, sym, ap, ◌∙◌, subst, arith}
use Rattle.std.proofs.lemmas.Option.{none-some}
use Rattle.behaviours.specs.Paths.{Entity, VariableOf, ConstantOf, entity_eq}
use Rattle.ada_meaning.proofs.Cells.{some_same}
use Rattle.ada_meaning.specs.Meaning.{object_layout, sub_at}
use Rattle.typed_tree.specs.declared.scalars.Scalar.{Scalar}
use Rattle.typed_tree.specs.Syntax.{Block, Decls, NoDecl, DeclareDefault, DeclareVariable, DeclareConstant, Mentions, Sub, Program}
use Rattle.stack_code.specs.declared.code.Around.{Around as Body}
use Rattle.stack_code.specs.declared.code.Around.TheVariants as body
use Rattle.stack_code.specs.declared.code.Code.{Code}
use Rattle.stack_code.specs.declared.code.CodeSite.{CodeSite}
use Rattle.stack_code.specs.declared.code.CodeSub.{CodeSub}
use Rattle.stack_code.specs.declared.instr.Instr.{Instr}
use Rattle.stack_code.specs.declared.instr.Instr.TheVariants as i
use Rattle.stack_code.specs.Valid.{FoldFits, Has, HasFrame, Lands, IsEarlier, SiteFits, SubFits, IsValid}
use Rattle.stack_code.proofs.Standing.{has_one, has_fact}
use Rattle.stack_code.proofs.Lists.{has_map}
use Rattle.lower_emission.specs.declared.types.Named.{Named}
use Rattle.lower_emission.specs.declared.types.Leaving.{Leaving}
use Rattle.lower_emission.specs.declared.types.Leaving.TheVariants.{ByEnd}
use Rattle.lower_emission.specs.declared.types.Level.{Level}
use Rattle.lower_emission.specs.declared.types.Level.TheVariants.{Main}
use Rattle.lower_emission.specs.declared.types.Placed.{Placed}
use Rattle.lower_emission.specs.Emits.{Emit, listed}
use Rattle.lower_emission.specs.Scope.{Scope, own, taking, with_object}
use Rattle.lower_emission.specs.Emission.{Shape, lead, shapes, shapes_cells, put_into, width}
use Rattle.lower_emission.specs.Statements.{stmt, defaulted}
use Rattle.lower_emission.specs.Bodies.{placed, leaving_of, ending, main_named, main_scope, sub_scope, sub_code, subs_code, main_declared, behind_main, program_code}
use Rattle.lower_emission.specs.Programs.{has_result, behind, main_halts, main_end, sub_place, sub_entry, whole_code}
use Rattle.ada_lower.specs.Defaults.{Filled}
use Rattle.ada_lower.specs.ProgramCode.{IsCodeOf}
use Rattle.ada_lower.specs.Ready.{Calls, ReadyBody, ReadySubs, IsReady}
use Rattle.ada_lower.specs.HasTables.{HasTables}
use Rattle.ada_lower.proofs.Declared.{length_in}
use Rattle.ada_lower.proofs.Heights.{Place, Here, Nowhere, forks, In, Told, Kept, Firm, Stood, There, Fit, AllFit, there_split, kept, lands, firm_fits}
use Rattle.ada_lower.proofs.HeightsTables.{as_long, spots_fit, handlers_fit, guards_fit, spot_lands}
use Rattle.ada_lower.proofs.HeightsScopes.{at, LevelFits, Known, in_le, known_object, firm_raise}
use Rattle.ada_lower.proofs.HeightsValues.{Same, at_same, firm_into}
use Rattle.ada_lower.proofs.HeightsIdle.{idle_at, firm_idle}
use Rattle.ada_lower.proofs.HeightsStatements.{LeavingFits, Knows, knows_as, firm_stmt, firm_defaulted}

-- ---- lists

there_from : (c : Code) (ps : List Placed) (from : ℕ) (qs : List Placed) → ((k : ℕ) (p : Placed) → slice_get qs k ≡ Some p → slice_get ps (from + k) ≡ Some p) → There c ps from qs
there_from c ps from [] h = tt
there_from c ps from (q ∷ qs) h =
    let z : from + 0 ≡ from = omega arith in
    (subst (λ n. slice_get ps n ≡ Some q) z (h 0 q refl), there_from c ps (from + 1) qs (λ k p e. let w : from + suc k ≡ from + 1 + k = omega arith in subst (λ n. slice_get ps n ≡ Some p) w (h (suc k) p e)))

fit_at : (c : Code) (ps : List Placed) (from : ℕ) (qs : List Placed) (k : ℕ) (p : Placed) → AllFit c ps from qs → slice_get qs k ≡ Some p → Fit c ps (from + k) p
fit_at c ps from [] k p r e = absurd (none-some p e)
fit_at c ps from (q ∷ qs) zero p (r, rs) e = let z : from ≡ from + 0 = omega arith in subst (λ n. Fit c ps n p) z (subst (λ p. Fit c ps from p) (some_same q p e) r)
fit_at c ps from (q ∷ qs) (suc k) p (r, rs) e = let z : from + 1 + k ≡ from + suc k = omega arith in subst (λ n. Fit c ps n p) z (fit_at c ps (from + 1) qs k p rs e)

abbrev nowhere : ℕ → Place → Type 0
nowhere n P = ⊥

module _ (c : Code) (program : Program) (text : List ℕ → ℕ) (filled : (x : ℕ) → Filled program x)
    (mains : Has c.subs 0 (λ s. (s.entry ≡ 0) × (s.takes ≡ 0))) (gives : (k : ℕ) (unit : Sub) → sub_at program.subs k ≡ Some unit → Has c.subs (k + 1) (λ s. (s.takes ≡ 0) × (s.gives ≡ has_result unit.result))) where
  called : (sub : ℕ) (b : Bool) → Calls program sub b → Has c.subs (sub + 1) (λ u. (u.takes ≡ 0) × (u.gives ≡ b))
  called sub b (unit, is, e) = has_map (slice_get c.subs (sub + 1)) (λ s. (s.takes ≡ 0) × (s.gives ≡ has_result unit.result)) (λ u. (u.takes ≡ 0) × (u.gives ≡ b)) (λ s f. (f.0, f.1 ∙ e)) (gives sub unit is)

  -- ---- scopes of bodies: the objects of the main procedure

  abbrev ObjectsFit : (Entity → Option Named) → Type 0
  ObjectsFit o = (x : Entity) (n : Named) → o x ≡ Some n → (n.place.level ≡ Main) × In c (body.Sub 0) n.place.cell

  abbrev outer : (Entity → Option Named) → ℕ → Leaving → Body → Scope
  outer o n w b = record (main_scope text) { object = o; free = n; leaving = w; body = b }

  known_outer : (o : Entity → Option Named) (n : ℕ) (w : Leaving) (b : Body) → ObjectsFit o → Known c nowhere (outer o n w b)
  known_outer o n w b f = record {
    entry = λ e is. absurd (none-some e is);
    object = λ x m e. let (main, cell) = f x m e in at_main m.place.level m.place.cell main cell;
    parameter = λ k w e. absurd (none-some w e);
    item = λ k m e. absurd (none-some m e);
    constant_item = λ k m e. absurd (none-some m e);
    target = λ m e. absurd (none-some m e);
    handled = λ w e. absurd (none-some w e);
  }
    where
      at_main : (level : Level) (cell : ℕ) → level ≡ Main → In c (body.Sub 0) cell → LevelFits c b n level cell
      at_main level cell e r = subst (λ v. LevelFits c b n v cell) (sym e) r

  knows_outer : (o : Entity → Option Named) (n : ℕ) (w : Leaving) (k : ℕ) → ObjectsFit o → LeavingFits c (body.Sub k) w → Knows c nowhere (outer o n w (body.Sub k))
  knows_outer o n w k f leaving = record { names = known_outer o n w (body.Sub k) f; flat = refl; exits = λ n to e. absurd (none-some to e); leaving = leaving; threads = tt }

  known_placed : (hs : List Shape) (n : ℕ) (s : Scope) → n + shapes_cells hs ≤ s.free → Known c nowhere s → Known c nowhere (placed hs n s)
  known_placed [] n s le k = k
  known_placed (h ∷ hs) n s le k =
      known_placed hs (n + lead h.back + h.cells) (with_object h.formal (record { through = false; place = own (n + lead h.back); cells = h.cells }) s) (omega (arith, le))
      (known_object c nowhere s h.formal (record { through = false; place = own (n + lead h.back); cells = h.cells }) (omega (arith, le)) k)

  same_placed : (hs : List Shape) (n : ℕ) (s : Scope) → Same s (placed hs n s)
  same_placed [] n s = (refl, refl, refl, (λ n. refl))
  same_placed (h ∷ hs) n s = same_placed hs (n + lead h.back + h.cells) (with_object h.formal (record { through = false; place = own (n + lead h.back); cells = h.cells }) s)

  -- ---- subprograms

  leaving_fits : (k : ℕ) (result : Option Scalar) → Has c.subs (k + 1) (λ s. (s.takes ≡ 0) × (s.gives ≡ has_result result)) → LeavingFits c (body.Sub (k + 1)) (leaving_of result)
  leaving_fits k None has = (omega arith, has_map (slice_get c.subs (k + 1)) (λ s. (s.takes ≡ 0) × (s.gives ≡ false)) (λ s. s.gives ≡ false) (λ s f. f.1) has)
  leaving_fits k (Some x) has = (omega arith, has_map (slice_get c.subs (k + 1)) (λ s. (s.takes ≡ 0) × (s.gives ≡ true)) (λ s. s.gives ≡ true) (λ s f. f.1) has)

  firm_ending : (u : Scope) (result : Option Scalar) → Known c nowhere u → LeavingFits c u.body (leaving_of result) → (Q : Place) → Firm c nowhere (ending u result) (at u 0) Q
  firm_ending u None k f Q = record { here = refl; marked = k.entry; base = 0; operands = refl; begun = omega arith; ways = tt; belongs = λ q. f }
  firm_ending u (Some x) k f Q = firm_raise c nowhere u k 0 _ Q

  module _ (o : Entity → Option Named) (n : ℕ) (fits : ObjectsFit o) where
    abbrev t : Scope
    t = outer o n ByEnd (body.Sub 0)

    firm_sub : (k : ℕ) (unit : Sub) → sub_at program.subs k ≡ Some unit → ReadyBody program unit.body → Kept c (sub_code program (sub_scope program t k unit) unit) → (Q : Place) → Firm c nowhere (sub_code program (sub_scope program t k unit) unit) (Here (body.Sub (k + 1)) 0 0) Q
    firm_sub k unit is w (r, r') Q =
        let hs : List Shape = shapes program unit.formals in
        let base : Scope = outer o (shapes_cells hs) (leaving_of unit.result) (body.Sub (k + 1)) in
        let u : Scope = sub_scope program t k unit in
        let leaving : LeavingFits c (body.Sub (k + 1)) (leaving_of unit.result) = leaving_fits k unit.result (gives k unit is) in
        let same : Same base u = same_placed hs 0 base in
        let kb : Knows c nowhere base = knows_outer o (shapes_cells hs) (leaving_of unit.result) (k + 1) fits leaving in
        let ku : Knows c nowhere u = knows_as c nowhere nowhere base u (known_placed hs 0 base (omega arith) kb.names) same (λ n P z. z) kb in (
          at u 0,
          subst (λ P. Firm c nowhere (stmt program u (Block unit.body.decls unit.body.stmts unit.body.handlers)) P (at u 0)) (at_same base u 0 same) (firm_stmt c program filled called nowhere u (Block unit.body.decls unit.body.stmts unit.body.handlers) w ku r),
          firm_ending u unit.result ku.names (subst (λ b. LeavingFits c b (leaving_of unit.result)) (sym same.0) leaving) Q,
        )

    -- where subprograms begin, from a number on, and what is behind them
    abbrev start : Place → ℕ → List Sub → Place
    start E k [] = E
    start E k (unit ∷ more) = Here (body.Sub (k + 1)) 0 0

    abbrev From : ℕ → List Sub → Type 0
    From k us = (j : ℕ) (unit : Sub) → sub_at us j ≡ Some unit → sub_at program.subs (k + j) ≡ Some unit

    from_first : (k : ℕ) (unit : Sub) (more : List Sub) → From k (unit ∷ more) → sub_at program.subs k ≡ Some unit
    from_first k unit more f = let z : k + 0 ≡ k = omega arith in subst (λ k. sub_at program.subs k ≡ Some unit) z (f 0 unit refl)

    from_next : (k : ℕ) (unit : Sub) (more : List Sub) → From k (unit ∷ more) → From (k + 1) more
    from_next k unit more f j u e = let z : k + suc j ≡ k + 1 + j = omega arith in subst (λ k. sub_at program.subs k ≡ Some u) z (f (suc j) u e)

    firm_subs : (E : Place) (k : ℕ) (us : List Sub) → From k us → ReadySubs program us → Kept c (subs_code program t k us) → Firm c nowhere (subs_code program t k us) (start E k us) E
    firm_subs E k [] f w r = refl
    firm_subs E k (unit ∷ more) f w (r, r') = (start E (k + 1) more, firm_sub k unit (from_first k unit more f) w.0 r (start E (k + 1) more), firm_subs E (k + 1) more (from_next k unit more f) w.1 r')

    module _ (ps : List Placed) (house : (q : ℕ) (p : Placed) → slice_get ps q ≡ Some p → In c p.body p.cells × Told c p.body p.kind p.instr) where
      subs_begin : (k : ℕ) (us : List Sub) (j q : ℕ) (unit : Sub) → From k us → ReadySubs program us → sub_at us j ≡ Some unit → There c ps q (listed (subs_code program t k us) q) → Stood c ps (body.Sub (k + j + 1)) 0 0 (sub_place program t k us j q)
      subs_begin k [] j q unit f w e s = absurd (none-some unit e)
      subs_begin k (u ∷ more) zero q unit f w e s =
          let code : Emit = sub_code program (sub_scope program t k u) u in
          let (sa, sb) = there_split c ps q (listed code q) (listed (subs_code program t (k + 1) more) (q + length (listed code q))) s in
          let z : k + 1 ≡ k + 0 + 1 = omega arith in
          subst (λ n. Stood c ps (body.Sub n) 0 0 q) z (lands c ps house nowhere code (Here (body.Sub (k + 1)) 0 0) Nowhere q (firm_sub k u (from_first k u more f) w.0 (kept c ps house code q sa) Nowhere) sa tt)
      subs_begin k (u ∷ more) (suc j) q unit f w e s =
          let code : Emit = sub_code program (sub_scope program t k u) u in
          let (sa, sb) = there_split c ps q (listed code q) (listed (subs_code program t (k + 1) more) (q + length (listed code q))) s in
          let z : k + 1 + j + 1 ≡ k + suc j + 1 = omega arith in
          subst (λ n. Stood c ps (body.Sub n) 0 0 (sub_place program t (k + 1) more j (q + length (listed code q)))) z (subs_begin (k + 1) more j (q + length (listed code q)) unit (from_next k u more f) w.1 e sb)

  -- ---- the main procedure

  abbrev main_at : (Entity → Option Named) → ℕ → Scope
  main_at o n = outer o n ByEnd (body.Sub 0)

  abbrev main_code : (Entity → Option Named) → ℕ → Decls → Emit
  main_code o n decls = main_declared program (main_at o n) decls (λ u. behind_main program u)

  main_room : (decls : Decls) (o : Entity → Option Named) (n : ℕ) → Kept c (main_code o n decls) → In c (body.Sub 0) n
  main_room NoDecl o n ((r1, r2), r3) = r2.0
  main_room (DeclareDefault x more) o n (r, r') = in_le c (body.Sub 0) n (n + length (object_layout program x)) (omega arith) (main_room more _ _ r')
  main_room (DeclareVariable x initial more) o n (r, r') = in_le c (body.Sub 0) n (n + width program initial) (omega arith) (main_room more _ _ r')
  main_room (DeclareConstant x initial more) o n (r, r') = in_le c (body.Sub 0) n (n + width program initial) (omega arith) (main_room more _ _ r')
  main_room (Mentions es more) o n r = main_room more o n r

  abbrev more_objects : (Entity → Option Named) → ℕ → Entity → ℕ → Entity → Option Named
  more_objects o n x cells y = cond (entity_eq x y) (Some (main_named n cells)) (o y)

  more_fit : (o : Entity → Option Named) (n : ℕ) (x : Entity) (cells : ℕ) → In c (body.Sub 0) (n + cells) → ObjectsFit o → ObjectsFit (λ y. more_objects o n x cells y)
  more_fit o n x cells r f y m e = go (entity_eq x y) e
    where
      go : (b : Bool) → cond b (Some (main_named n cells)) (o y) ≡ Some m → (m.place.level ≡ Main) × In c (body.Sub 0) m.place.cell
      go true e = subst (λ m. (m.place.level ≡ Main) × In c (body.Sub 0) m.place.cell) (some_same (main_named n cells) m e) (refl, in_le c (body.Sub 0) n (n + cells) (omega arith) r)
      go false e = f y m e

  module _ (ready : ReadySubs program program.subs) where
    all_from : From (λ x. None) 0 (λ x n e. absurd (none-some n e)) 0 program.subs
    all_from j unit e = let z : j ≡ 0 + j = omega arith in subst (λ j. sub_at program.subs j ≡ Some unit) z e

    firm_main : (E : Place) (decls : Decls) (o : Entity → Option Named) (n : ℕ) → ObjectsFit o → ReadyBody program (record (program.body) { decls = decls }) → Kept c (main_code o n decls) → Firm c nowhere (main_code o n decls) (Here (body.Sub 0) 0 0) E
    firm_main E NoDecl o n f w ((r1, r2), r3) =
        let k : Knows c nowhere (main_at o n) = knows_outer o n ByEnd 0 f refl in (
          start o n f E 0 program.subs,
          (at (main_at o n) 0, firm_stmt c program filled called nowhere (main_at o n) (Block NoDecl program.body.stmts program.body.handlers) w k r1, record { here = refl; marked = k.names.entry; base = 0; operands = refl; begun = omega arith; ways = tt; belongs = λ q. refl }),
          firm_subs o n f E 0 program.subs all_from ready r3,
        )
    firm_main E (DeclareDefault x more) o n f w (r, r') =
        let cells : ℕ = length (object_layout program x) in (
          Here (body.Sub 0) 0 0,
          firm_defaulted c program filled nowhere (main_at o n) x (known_outer o n ByEnd (body.Sub 0) f) r,
          firm_main E more (λ y. more_objects o n (VariableOf x) cells y) (n + cells) (more_fit o n (VariableOf x) cells (main_room more (λ y. more_objects o n (VariableOf x) cells y) (n + cells) r') f) w r',
        )
    firm_main E (DeclareVariable x initial more) o n f w (r, r') =
        let cells : ℕ = width program initial in (
          Here (body.Sub 0) 0 0,
          firm_into c program called nowhere (taking cells (main_at o n)) 0 n cells initial w.0.0 (known_outer o (n + cells) ByEnd (body.Sub 0) f) (omega arith) r,
          firm_main E more (λ y. more_objects o n (VariableOf x) cells y) (n + cells) (more_fit o n (VariableOf x) cells (main_room more (λ y. more_objects o n (VariableOf x) cells y) (n + cells) r') f) (w.0.1, w.1, w.2) r',
        )
    firm_main E (DeclareConstant x initial more) o n f w (r, r') =
        let cells : ℕ = width program initial in (
          Here (body.Sub 0) 0 0,
          firm_into c program called nowhere (taking cells (main_at o n)) 0 n cells initial w.0.0 (known_outer o (n + cells) ByEnd (body.Sub 0) f) (omega arith) r,
          firm_main E more (λ y. more_objects o n (ConstantOf x) cells y) (n + cells) (more_fit o n (ConstantOf x) cells (main_room more (λ y. more_objects o n (ConstantOf x) cells y) (n + cells) r') f) (w.0.1, w.1, w.2) r',
        )
    firm_main E (Mentions es more) o n f w r = firm_main E more o n f w r

    module _ (ps : List Placed) (house : (q : ℕ) (p : Placed) → slice_get ps q ≡ Some p → In c p.body p.cells × Told c p.body p.kind p.instr) where
      main_begin : (decls : Decls) (o : Entity → Option Named) (n q : ℕ) → ObjectsFit o → There c ps q (listed (main_code o n decls) q) → (k : ℕ) (unit : Sub) → sub_at program.subs k ≡ Some unit
          → Stood c ps (body.Sub (k + 1)) 0 0 (sub_place program (behind program (main_at o n) decls) 0 program.subs k (main_end program (main_at o n) decls q))
      main_begin NoDecl o n q f s k unit e =
          let (sa, sb) = there_split c ps q (listed (main_halts program (main_at o n)) q) (listed (subs_code program (main_at o n) 0 program.subs) (q + length (listed (main_halts program (main_at o n)) q))) s in
          let z : 0 + k + 1 ≡ k + 1 = omega arith in
          subst (λ m. Stood c ps (body.Sub m) 0 0 (sub_place program (main_at o n) 0 program.subs k (q + length (listed (main_halts program (main_at o n)) q)))) z
          (subs_begin o n f ps house 0 program.subs k (q + length (listed (main_halts program (main_at o n)) q)) unit all_from ready e sb)
      main_begin (DeclareDefault x more) o n q f s k unit e =
          let cells : ℕ = length (object_layout program x) in
          let (sa, sb) = there_split c ps q (listed (defaulted program (main_at o n) n x) q) _ s in
          main_begin more (λ y. more_objects o n (VariableOf x) cells y) (n + cells) (q + length (listed (defaulted program (main_at o n) n x) q)) (more_fit o n (VariableOf x) cells (main_room more (λ y. more_objects o n (VariableOf x) cells y) (n + cells) (kept c ps house (main_code (λ y. more_objects o n (VariableOf x) cells y) (n + cells) more) _ sb)) f) sb k unit e
      main_begin (DeclareVariable x initial more) o n q f s k unit e =
          let cells : ℕ = width program initial in
          let (sa, sb) = there_split c ps q (listed (put_into program (taking cells (main_at o n)) 0 n initial) q) _ s in
          main_begin more (λ y. more_objects o n (VariableOf x) cells y) (n + cells) (q + length (listed (put_into program (taking cells (main_at o n)) 0 n initial) q)) (more_fit o n (VariableOf x) cells (main_room more (λ y. more_objects o n (VariableOf x) cells y) (n + cells) (kept c ps house (main_code (λ y. more_objects o n (VariableOf x) cells y) (n + cells) more) _ sb)) f) sb k unit e
      main_begin (DeclareConstant x initial more) o n q f s k unit e =
          let cells : ℕ = width program initial in
          let (sa, sb) = there_split c ps q (listed (put_into program (taking cells (main_at o n)) 0 n initial) q) _ s in
          main_begin more (λ y. more_objects o n (ConstantOf x) cells y) (n + cells) (q + length (listed (put_into program (taking cells (main_at o n)) 0 n initial) q)) (more_fit o n (ConstantOf x) cells (main_room more (λ y. more_objects o n (ConstantOf x) cells y) (n + cells) (kept c ps house (main_code (λ y. more_objects o n (ConstantOf x) cells y) (n + cells) more) _ sb)) f) sb k unit e
      main_begin (Mentions es more) o n q f s k unit e = main_begin more o n q f s k unit e

-- ---- the law

module _ (program : Program) (text : List ℕ → ℕ) (c : Code) (is : IsCodeOf program text c) (tables : HasTables program text c) (ready : IsReady program) (filled : (x : ℕ) → Filled program x) where
  abbrev ps : List Placed
  ps = listed (whole_code program text) 0

  -- the listing of bodies
  abbrev bodies : List Placed
  bodies = listed (program_code program text) 0

  told : (q : ℕ) (p : Placed) → slice_get ps q ≡ Some p → (j : Instr) → p.instr ≡ j → Told c p.body p.kind j
  told q p e (i.Words k) is = tables.texts q k p e is
  told q p e (i.Fork site) is =
      has_map (slice_get c.sites site) (λ s. (s.entry ≡ q + 1 + 1) × (4 ≤ s.frame) × (s.around ≡ p.body) × (s.kind ≡ p.kind)) (λ s. (s.around ≡ p.body) × (4 ≤ s.frame) × (s.kind ≡ p.kind)) (λ s f. (f.2, f.1, f.3)) (tables.forks q site p e is)
  told q p e j is = tt

  house : (q : ℕ) (p : Placed) → slice_get ps q ≡ Some p → In c p.body p.cells × Told c p.body p.kind p.instr
  house q p e = (tables.cells q p e, told q p e p.instr refl)

  all_there : There c ps 0 ps
  all_there = there_from c ps 0 ps (λ k p e. let w : k ≡ 0 + k = omega arith in subst (λ n. slice_get ps n ≡ Some p) w e)

  none_fit : (x : Entity) (n : Named) → None ≡ Some n → (n.place.level ≡ Main) × In c (body.Sub 0) n.place.cell
  none_fit x n e = absurd (none-some n e)

  all_kept : Kept c (whole_code program text)
  all_kept = kept c ps house (whole_code program text) 0 all_there

  firm_program : Firm c nowhere (whole_code program text) (Here (body.Sub 0) 0 0) Nowhere
  firm_program =
      let idle : Place = idle_at bodies 0 program.sites in
      (idle, firm_main c program text filled tables.main tables.subs ready.1 idle program.body.decls (λ x. None) 0 none_fit ready.0 all_kept.0, firm_idle c text bodies 0 program.sites all_kept.1)

  fit : (q : ℕ) (p : Placed) → slice_get ps q ≡ Some p → Fit c ps q p
  fit q p e =
      let z : 0 + q ≡ q = omega arith in
      subst (λ n. Fit c ps n p) z (fit_at c ps 0 ps q p (firm_fits c ps house nowhere (whole_code program text) (Here (body.Sub 0) 0 0) Nowhere 0 firm_program all_there (λ n P z. absurd z) tt) e)

  lands_at : (b : Body) (h n q : ℕ) → Stood c ps b h n q → Lands c b h n q
  lands_at b h n q w = spot_lands c ps is.lists.instrs tables.spots is.lists.unwind tables.heights fit b h n q w

  sub_fits : (k : ℕ) (s : CodeSub) → slice_get c.subs k ≡ Some s → SubFits c k s
  sub_fits zero s e =
      let f = has_fact (slice_get c.subs 0) (λ s. (s.entry ≡ 0) × (s.takes ≡ 0)) s tables.main e in
      let there : Stood c ps (body.Sub 0) 0 0 0 = lands c ps house nowhere (whole_code program text) (Here (body.Sub 0) 0 0) Nowhere 0 firm_program all_there tt in
      subst (λ n. Lands c (body.Sub 0) n 0 s.entry) (sym f.1) (subst (λ q. Lands c (body.Sub 0) 0 0 q) (sym f.0) (lands_at (body.Sub 0) 0 0 0 there))
  sub_fits (suc k) s e =
      let z : suc k ≡ k + 1 = omega arith in
      let e' : slice_get c.subs (k + 1) ≡ Some s = subst (λ n. slice_get c.subs n ≡ Some s) z e in
      let (unit, eo) = tables.no_more k s e' in
      let (u, there, entry, cells) = is.subs k unit eo in
      let same : u ≡ s = some_same u s (sym there ∙ e') in
      let takes : s.takes ≡ 0 = (has_fact (slice_get c.subs (k + 1)) (λ s. (s.takes ≡ 0) × (s.gives ≡ has_result unit.result)) s (tables.subs k unit eo) e').0 in
      let begins : Stood c ps (body.Sub (k + 1)) 0 0 (sub_entry program text k) = main_begin c program text filled tables.main tables.subs ready.1 ps house program.body.decls (λ x. None) 0 0 none_fit (there_split c ps 0 bodies _ all_there).0 k unit eo in
      subst (λ n. SubFits c n s) (sym z)
      (subst (λ n. Lands c (body.Sub (k + 1)) n 0 s.entry) (sym takes) (subst (λ q. Lands c (body.Sub (k + 1)) 0 0 q) (sym entry ∙ ap (λ u. u.entry) same) (lands_at (body.Sub (k + 1)) 0 0 (sub_entry program text k) begins)))

  earlier : (k : ℕ) (s : CodeSite) → slice_get c.sites k ≡ Some s → (b : Body) → s.around ≡ b → HasFrame c b (λ cells. Unit {0}) → IsEarlier c k b
  earlier k s e (body.Sub j) eb w = let (x, is, f) = has_one (slice_get c.subs j) (λ s. Unit {0}) w in length_in c.subs j x is
  earlier k s e (body.Site j) eb w = tables.earlier k j s e eb

  is_there : (b : Body) (n : ℕ) → HasFrame c b (λ cells. n < cells) → HasFrame c b (λ cells. Unit {0})
  is_there (body.Sub j) n w = has_map (slice_get c.subs j) (λ s. n < s.frame) (λ s. Unit {0}) (λ s f. tt) w
  is_there (body.Site j) n w = has_map (slice_get c.sites j) (λ s. n < s.frame) (λ s. Unit {0}) (λ s f. tt) w

  site_fits : (k : ℕ) (s : CodeSite) → slice_get c.sites k ≡ Some s → SiteFits c k s
  site_fits k s e =
      let (q, p, at_q, fork) = tables.sites k s e in
      let f = has_fact (slice_get c.sites k) (λ s. (s.entry ≡ q + 1 + 1) × (4 ≤ s.frame) × (s.around ≡ p.body) × (s.kind ≡ p.kind)) s (tables.forks q k p at_q fork) e in
      record {
        entry = subst (λ n. Lands c (body.Site k) 0 0 n) (sym f.0) (lands_at (body.Site k) 0 0 (q + 1 + 1) ((fit q p at_q).threads k (ap forks fork)));
        cells = f.1;
        fold = subst FoldFits (sym f.3) (tables.folds q k p at_q fork);
        around = earlier k s e s.around refl (subst (λ b. HasFrame c b (λ cells. Unit {0})) (sym f.2) (is_there p.body p.cells (tables.cells q p at_q)));
        leases = tables.leases k s e;
      }

  pub valid_code : IsValid c
  valid_code = record {
    spots = as_long c ps is.lists.instrs tables.spots is.lists.unwind tables.heights fit;
    main = has_map (slice_get c.subs 0) (λ s. (s.entry ≡ 0) × (s.takes ≡ 0)) (λ s. s.takes ≡ 0) (λ s f. f.1) tables.main;
    instrs = spots_fit c ps is.lists.instrs tables.spots is.lists.unwind tables.heights fit;
    sites = site_fits;
    subs = sub_fits;
    handlers = handlers_fit c ps is.lists.instrs tables.spots is.lists.unwind tables.heights fit;
    guards = guards_fit c ps is.lists.instrs tables.spots is.lists.unwind tables.heights fit;
  }
