-- The whole code of a program has room for what it keeps, and its subprograms see those of the main procedure's objects that
-- they name. So a program that is formed and in scope fits its code.
use Rattle.std.proofs.Common.{◌≡◌, ◌≤◌, ℕ, zero, suc, ◌+◌, List, [], ◌∷◌, length, slice_get, nat_lt, Option, Some, None, Bool, cond, refl, sym, ap, ◌∙◌, subst, arith}
use Rattle.std.proofs.lemmas.Option.{none-some}
use Rattle.behaviours.specs.Paths.{Entity, VariableOf, ConstantOf}
use Rattle.typed_tree.specs.Syntax.{Block, Decls, NoDecl, DeclareDefault, DeclareVariable, DeclareConstant, Mentions, Sub, Program}
use Rattle.typed_sites.specs.Nesting.{SitesAreNested}
use Rattle.typed_sites.specs.Sites.{SitesAreDistinct, SitesAreListed}
use Rattle.typed_scopes.specs.Outs.{StaysIn}
use Rattle.ada_lower.specs.Defaults.{NoneEmpty}
use Rattle.ada_meaning.specs.Meaning.{object_layout, sub_at}
use Rattle.ada_meaning.proofs.Cells.{some_same}
use Rattle.stack_code.specs.declared.code.Around.{Around}
use Rattle.stack_code.specs.declared.code.Around.TheVariants as body
use Rattle.stack_code.specs.declared.code.Code.{Code}
use Rattle.stack_code.specs.declared.code.CodeSub.{CodeSub}
use Rattle.stack_code.specs.declared.code.Lease.{Lease}
use Rattle.stack_code.specs.declared.code.SiteKind.{SiteKind}
use Rattle.stack_code.specs.declared.instr.Instr.{Instr}
use Rattle.stack_code.specs.declared.instr.Instr.TheVariants as i
use Rattle.lower_emission.specs.declared.types.Placed.{Placed}
use Rattle.lower_emission.specs.Emits.{Emit, listed}
use Rattle.lower_emission.specs.Bodies as code
use Rattle.lower_emission.specs.Programs as programs
use Rattle.lower_emission.specs.Programs.{at_least, behind_main, code_of, code_site, code_sub, code_subs, needed, placed_code, text_in}
use Rattle.lower_emission.specs.Tables.{instrs_from, landmark, resolved}
use Rattle.stack_code.specs.declared.code.CodeSite.{CodeSite}
use Rattle.ada_meaning.specs.Formed.{IsFormed}
use Rattle.ada_lower.specs.FittedForks.{unleased}
use Rattle.ada_lower.specs.Law.{IsLoweredBy}
use Rattle.ada_lower.specs.Sights.{Named, Scope, Sight}
use Rattle.ada_lower.specs.Emission.{defaulted, put_into, shapes, shapes_cells, stmt, width}
use Rattle.ada_lower.specs.HasTables.{HasForks}
use Rattle.ada_lower.proofs.Sited.{IsSited}
use Rattle.ada_lower.specs.ProgramCode.{AreNamed, IsCodeOf}
use Rattle.ada_lower.proofs.CodeTables.{construct_row, row_of}
use Rattle.ada_lower.proofs.Constructs.{sited_law}
use Rattle.ada_lower.proofs.Counted.{forks_law, forks_listed}
use Rattle.lower_emission.specs.Texts.{stmt_texts}
use Rattle.lower_laws.proofs.Tables.{HasSite, IsTabled}
use Rattle.lower_laws.proofs.Levels.{levels_stmt, t_stmt}
use Rattle.ada_lower.proofs.Strings.{Stands, main_stands, sub_stands}
use Rattle.ada_lower.proofs.Grounded.{objects_filled}
use Rattle.lower_laws.proofs.Readies.{scoped_ready}
use Rattle.lower_laws.specs.CodeLaw.{LoweredLaw, ReadyLaw, SurroundedLaw, surrounded, frame_of, least_need}
use Rattle.typed_scopes.specs.Scopes as scopes
use Rattle.typed_scopes.specs.Scopes.{IsScoped, ScopedAll, ScopedHandlers, handling, outset, sub_around}
use Rattle.lower_laws.specs.Rooms.{AreFrames, HasRoom, frames_of, seen_names}
use Rattle.lower_laws.proofs.Alike.{Alike, Both}
use Rattle.lower_laws.proofs.AlikeStatements.{a_main, a_stmt, a_sub}
use Rattle.lower_laws.proofs.FitsPrograms.{lowered}
use Rattle.lower_laws.proofs.Placed.{Anywhere, Each, HasRoom', Rowed, Same, each_both, each_left, each_right, needed_grows, needed_more, needs_enough, roomy_so, same_listed}

-- ---- lists of instructions

each_from : (P : Placed → Type 0) (ps : List Placed) → ((k : ℕ) (p : Placed) → slice_get ps k ≡ Some p → P p) → Each P ps
each_from P [] f = tt
each_from P (p ∷ ps) f = (f 0 p refl, each_from P ps (λ k x e. f (suc k) x e))

each_pair : (P Q : Placed → Type 0) (ps : List Placed) → Each P ps → Each Q ps → Each (λ p. P p × Q p) ps
each_pair P Q [] f g = tt
each_pair P Q (p ∷ ps) f g = ((f.0, g.0), each_pair P Q ps f.1 g.1)

each_more : (P Q : Placed → Type 0) → ((p : Placed) → P p → Q p) → (ps : List Placed) → Each P ps → Each Q ps
each_more P Q h [] f = tt
each_more P Q h (p ∷ ps) f = (h p f.0, each_more P Q h ps f.1)

-- a fork in the code is listed
unresolved : (ps : List Placed) (at site : ℕ) (j : Instr) → resolved ps at j ≡ i.Fork site → j ≡ i.Fork site
unresolved ps at site (i.Jump t) e = absurd (let z : i.Jump (cond (nat_lt t at) (landmark (slice_get ps t) t) t) ≡ i.Fork site = e in cc)
unresolved ps at site j e = e

fork_back : (ps : List Placed) (at : ℕ) (qs : List Placed) (k site : ℕ) → slice_get (instrs_from ps at qs) k ≡ Some (i.Fork site) → (p : Placed) × (slice_get qs k ≡ Some p) × (p.instr ≡ i.Fork site)
fork_back ps at [] k site e = absurd (none-some (i.Fork site) e)
fork_back ps at (q ∷ qs) zero site e = (q, refl, unresolved ps at site q.instr (some_same (resolved ps at q.instr) (i.Fork site) e))
fork_back ps at (q ∷ qs) (suc k) site e = fork_back ps (at + 1) qs k site e

both_same : (T : ℕ → ℕ → Type 0) → ((n : ℕ) → T n n) → (o : Option ℕ) → Both T o o
both_same T r None = tt
both_same T r (Some n) = r n

module _ (program : Program) where
  -- ---- parts of the whole code

  module _ (P : Placed → Type 0) where
    main_left : (decls : Decls) (s : Scope) (q : ℕ) → Each P (listed (code.main_declared program s decls (λ t. code.behind_main program t)) q) → Each P (listed (code.main_declared program s decls (λ t. stmt program t (Block NoDecl program.body.stmts program.body.handlers))) q)
    main_left NoDecl s q h = each_left P (listed (stmt program s (Block NoDecl program.body.stmts program.body.handlers)) q) _ (each_left P (listed (programs.main_halts program s) q) _ h)
    main_left (DeclareDefault x more) s q h =
        let a = listed (defaulted program s s.free x) q in
        each_both P a _ (each_left P a _ h) (main_left more (code.main_object s (VariableOf x) (length (object_layout program x))) (q + length a) (each_right P a _ h))
    main_left (DeclareVariable x initial more) s q h =
        let a = listed (put_into program (Rattle.lower_emission.specs.Scope.taking (width program initial) s) 0 s.free initial) q in
        each_both P a _ (each_left P a _ h) (main_left more (code.main_object s (VariableOf x) (width program initial)) (q + length a) (each_right P a _ h))
    main_left (DeclareConstant x initial more) s q h =
        let a = listed (put_into program (Rattle.lower_emission.specs.Scope.taking (width program initial) s) 0 s.free initial) q in
        each_both P a _ (each_left P a _ h) (main_left more (code.main_object s (ConstantOf x) (width program initial)) (q + length a) (each_right P a _ h))
    main_left (Mentions es more) s q h = main_left more s q h

    main_right : (decls : Decls) (s : Scope) (q : ℕ) → Each P (listed (code.main_declared program s decls (λ t. code.behind_main program t)) q) → (r : ℕ) × Each P (listed (code.subs_code program (programs.behind program s decls) 0 program.subs) r)
    main_right NoDecl s q h = (q + length (listed (programs.main_halts program s) q), each_right P (listed (programs.main_halts program s) q) _ h)
    main_right (DeclareDefault x more) s q h = let a = listed (defaulted program s s.free x) q in main_right more (code.main_object s (VariableOf x) (length (object_layout program x))) (q + length a) (each_right P a _ h)
    main_right (DeclareVariable x initial more) s q h =
        let a = listed (put_into program (Rattle.lower_emission.specs.Scope.taking (width program initial) s) 0 s.free initial) q in main_right more (code.main_object s (VariableOf x) (width program initial)) (q + length a) (each_right P a _ h)
    main_right (DeclareConstant x initial more) s q h =
        let a = listed (put_into program (Rattle.lower_emission.specs.Scope.taking (width program initial) s) 0 s.free initial) q in main_right more (code.main_object s (ConstantOf x) (width program initial)) (q + length a) (each_right P a _ h)
    main_right (Mentions es more) s q h = main_right more s q h

    sub_part : (t : Scope) (subs : List Sub) (n k q : ℕ) (unit : Sub) → sub_at subs k ≡ Some unit → Each P (listed (code.subs_code program t n subs) q) → (r : ℕ) × Each P (listed (code.sub_code program (code.sub_scope program t (n + k) unit) unit) r)
    sub_part t [] n k q unit e h = absurd (none-some unit e)
    sub_part t (u ∷ more) n zero q unit e h =
        let z : n ≡ n + 0 = omega arith in
        (q, subst (λ j. Each P (listed (code.sub_code program (code.sub_scope program t j unit) unit) q)) z (subst (λ u. Each P (listed (code.sub_code program (code.sub_scope program t n u) u) q)) (some_same u unit e) (each_left P (listed (code.sub_code program (code.sub_scope program t n u) u) q) _ h)))
    sub_part t (u ∷ more) n (suc k) q unit e h =
        let a = listed (code.sub_code program (code.sub_scope program t n u) u) q in
        let (r, w) = sub_part t more (n + 1) k (q + length a) unit e (each_right P a _ h) in
        let z : n + 1 + k ≡ n + suc k = omega arith in
        (r, subst (λ j. Each P (listed (code.sub_code program (code.sub_scope program t j unit) unit) r)) z w)

  -- ---- names and rooms

  module _ (text : List ℕ → ℕ) (shown : ℕ → Entity → Bool) (scoped : IsScoped program shown) where
    abbrev names : Entity → Option Named
    names = (behind_main program text).object

    abbrev globals : ℕ → Entity → Option Named
    globals = seen_names shown names

    -- the code of a subprogram, with all of the main procedure's objects and with those that it sees
    abbrev whole_sub : ℕ → Sub → Emit
    whole_sub k unit = code.sub_code program (code.sub_scope program (behind_main program text) k unit) unit

    abbrev seen_sub : ℕ → Sub → Emit
    seen_sub k unit = code.sub_code program (code.sub_scope program (record (behind_main program text) { object = globals k }) k unit) unit

    abbrev main_part : Emit
    main_part = code.main_declared program (code.main_scope text) program.body.decls (λ t. stmt program t (Block NoDecl program.body.stmts program.body.handlers))

    sub_alike : (T : ℕ → ℕ → Type 0) → ((n : ℕ) → T n n) → (k : ℕ) (unit : Sub) → sub_at program.subs k ≡ Some unit
        → Alike T (whole_sub k unit) (seen_sub k unit)
    sub_alike T r k unit e =
        let t : Scope = behind_main program text in
        a_sub T program shown (sub_around program (shown k)) k unit t (globals k) t.exits t.entry
        ((λ y q. sym (ap (λ b. cond b (names y) None) q)), (λ n. both_same T r (t.exits n)), both_same T r t.entry) (scoped.subs k unit e)

    pub are_named : AreNamed program text globals
    are_named = record { same = λ k unit e q. same_listed (whole_sub k unit) (seen_sub k unit) (sub_alike Same (λ n. refl) k unit e) q }

    main_alike : Alike Anywhere main_part main_part
    main_alike =
        a_main Anywhere program shown outset (code.main_scope text) (λ y. None) (λ n. None) None program.body.decls _ _ (λ v. ScopedAll program shown v program.body.stmts × ScopedHandlers program shown (handling v) program.body.handlers)
        ((λ y q. refl), (λ n. tt), tt) scoped.main (λ u t o xs en k q. a_stmt Anywhere program shown u t o xs en (Block NoDecl program.body.stmts program.body.handlers) k q)

    pub has_room : (rows : ℕ → SiteKind → Around → Type 0) (room : Around → ℕ) → Each (HasRoom' rows room) (listed (code.program_code program text) 0) → HasRoom program text globals rows room
    has_room rows room h = record {
      main = roomy_so rows room main_part main_part main_alike 0 (main_left (HasRoom' rows room) program.body.decls (code.main_scope text) 0 h);
      subs = λ k unit e.
          let (r, w) = main_right (HasRoom' rows room) program.body.decls (code.main_scope text) 0 h in
          let (q, x) = sub_part (HasRoom' rows room) (behind_main program text) program.subs 0 k r unit e w in
          let z : 0 + k ≡ k = omega arith in
          roomy_so rows room (whole_sub k unit) (seen_sub k unit) (sub_alike Anywhere (λ n. tt) k unit e) q (subst (λ j. Each (HasRoom' rows room) (listed (code.sub_code program (code.sub_scope program (behind_main program text) j unit) unit) q)) z x);
    }

  -- ---- the table of subprograms

  sub_row : (text : List ℕ → ℕ) (c : List Placed) (subs : List Sub) (n k : ℕ) (unit : Sub) → sub_at subs k ≡ Some unit → slice_get (code_subs program text c n subs) k ≡ Some (code_sub program text c (n + k) unit)
  sub_row text c [] n k unit e = absurd (none-some unit e)
  sub_row text c (u ∷ more) n zero unit e = let z : n ≡ n + 0 = omega arith in ap (λ j. Some (code_sub program text c j u)) z ∙ ap (λ u. Some (code_sub program text c (n + 0) u)) (some_same u unit e)
  sub_row text c (u ∷ more) n (suc k) unit e = let z : n + 1 + k ≡ n + suc k = omega arith in sub_row text c more (n + 1) k unit e ∙ ap (λ j. Some (code_sub program text c j unit)) z

  row_sub : (text : List ℕ → ℕ) (c : List Placed) (subs : List Sub) (n k : ℕ) (is : CodeSub) → slice_get (code_subs program text c n subs) k ≡ Some is → (unit : Sub) × (is ≡ code_sub program text c (n + k) unit)
  row_sub text c [] n k is e = absurd (none-some is e)
  row_sub text c (u ∷ more) n zero is e = let z : n ≡ n + 0 = omega arith in (u, sym (some_same (code_sub program text c n u) is e) ∙ ap (λ j. code_sub program text c j u) z)
  row_sub text c (u ∷ more) n (suc k) is e = let z : n + 1 + k ≡ n + suc k = omega arith in let (unit, w) = row_sub text c more (n + 1) k is e in (unit, w ∙ ap (λ j. code_sub program text c j unit) z)

  later : (x : CodeSub) (xs : List CodeSub) (k : ℕ) → slice_get (x ∷ xs) (k + 1) ≡ slice_get xs k
  later x xs k = let z : k + 1 ≡ suc k = omega arith in ap (λ j. slice_get (x ∷ xs) j) z

  module _ (leases : ℕ → List Lease) where
    abbrev ps : List Placed
    ps = placed_code program

    pub is_code : IsCodeOf program (text_in program) (code_of program leases)
    is_code = record {
      lists = record { instrs = refl; unwind = refl };
      subs = λ k unit e.
          let z : 0 + k ≡ k = omega arith in
          let row : CodeSub = code_sub program (text_in program) ps k unit in (
            row,
            later _ (code_subs program (text_in program) ps 0 program.subs) k ∙ sub_row (text_in program) ps program.subs 0 k unit e ∙ ap (λ j. Some (code_sub program (text_in program) ps j unit)) z,
            refl,
            (let g : shapes_cells (shapes program unit.formals) ≤ (needed (body.Sub (k + 1)) (at_least (shapes_cells (shapes program unit.formals))) ps).cells = needed_grows (body.Sub (k + 1)) (at_least (shapes_cells (shapes program unit.formals))) ps in omega (arith, g)),
          );
    }

    pub are_frames : AreFrames (code_of program leases) (frame_of program) (frame_of program (body.Sub 0))
    are_frames = record {
      main = omega arith;
      subs = λ k is e.
          let (unit, w) = row_sub (text_in program) ps program.subs 0 k is (sym (later _ (code_subs program (text_in program) ps 0 program.subs) k) ∙ e) in
          let z : 0 + k ≡ k = omega arith in
          let same : is.frame ≡ (needed (body.Sub (k + 1)) (at_least (shapes_cells (shapes program unit.formals))) ps).cells + 1 = ap (λ i. i.frame) w ∙ ap (λ j. (needed (body.Sub (j + 1)) (at_least (shapes_cells (shapes program unit.formals))) ps).cells + 1) z in
          let y = needed_more (body.Sub (k + 1)) (at_least 0) (at_least (shapes_cells (shapes program unit.formals))) ps (omega arith) in
          omega (arith, same, y);
    }

    -- ---- rows of constructs

    module _ (sited : IsSited program) (distinct : SitesAreDistinct program) (listed' : SitesAreListed program) where
      abbrev pub Row : ℕ → SiteKind → Around → Type 0
      Row = HasSite (code_of program leases) (frames_of (frame_of program))

      counted : HasForks program
      counted = forks_law program sited distinct

      -- the construct of a fork has its row
      row_there : (q site : ℕ) (p : Placed) → slice_get ps q ≡ Some p → p.instr ≡ i.Fork site → Row site p.kind p.body
      row_there q site p e fork =
          let row = row_of program leases counted q site p e fork in
          let grows : 4 ≤ (needed (body.Site site) (at_least 4) ps).cells = needed_grows (body.Site site) (at_least 4) ps in
          let five : 5 ≤ (needed (body.Site site) (at_least 4) ps).cells + 1 = omega (arith, grows) in record {
            row = code_site ps leases site;
            is = construct_row program leases site (forks_listed program sited listed' q site p e fork);
            frame = refl;
            enough = five;
            kind = ap (λ f. f.kind) row;
            around = ap (λ f. f.around) row;
            entry = λ k ek.
                let (p', there, fork') = fork_back ps 0 ps k site ek in
                let same : k ≡ q = counted.once k q site p' p there e fork' fork in
                let two : q + 2 ≡ k + 1 + 1 = omega (arith, same) in
                ap (λ f. f.place + 2) row ∙ two;
          }

      rowed : (q : ℕ) (p : Placed) → slice_get ps q ≡ Some p → Rowed Row (frame_of program) p.kind p.body p.instr
      rowed q p e = go p.instr refl
        where
          go : (j : Instr) → p.instr ≡ j → Rowed Row (frame_of program) p.kind p.body j
          go (i.Fork site) fork = row_there q site p e fork
          go j is = tt

      pub all_room : Each (HasRoom' Row (frame_of program)) (listed (code.program_code program (text_in program)) 0)
      all_room =
          each_left (HasRoom' Row (frame_of program)) (listed (code.program_code program (text_in program)) 0) _
          (each_pair (λ p. p.cells ≤ frame_of program p.body) (λ p. Rowed Row (frame_of program) p.kind p.body p.instr) ps (each_more (λ p. p.cells ≤ (needed p.body (least_need p.body) ps).cells) (λ p. p.cells ≤ frame_of program p.body) (λ p le. let z : p.cells ≤ (needed p.body (least_need p.body) ps).cells + 1 = omega (arith, le) in z) ps (needs_enough least_need ps)) (each_from (λ p. Rowed Row (frame_of program) p.kind p.body p.instr) ps rowed))

-- ---- strings stand in the code's table

-- constructs of a program stand in one another no deeper than there are in its texts
abbrev levels_of : Sub → ℕ
levels_of unit = levels_stmt (Block unit.body.decls unit.body.stmts unit.body.handlers)

abbrev levels_subs : List Sub → ℕ
levels_subs [] = 0
levels_subs (unit ∷ more) = levels_of unit + levels_subs more

abbrev depth_of : Program → ℕ
depth_of program = levels_stmt (Block program.body.decls program.body.stmts program.body.handlers) + levels_subs program.subs

levels_in : (subs : List Sub) (k : ℕ) (unit : Sub) → sub_at subs k ≡ Some unit → levels_of unit ≤ levels_subs subs
levels_in [] k unit e = absurd (none-some unit e)
levels_in (u ∷ more) zero unit e = let z : levels_of u ≡ levels_of unit = ap levels_of (some_same u unit e) in omega (arith, z)
levels_in (u ∷ more) (suc k) unit e = let z = levels_in more k unit e in omega (arith, z)

is_tabled : (program : Program) (leases : ℕ → List Lease) → IsTabled program (text_in program) (code_of program leases) (depth_of program)
unfolding stmt_texts
is_tabled program leases = record {
  main = t_stmt (Stands program) (depth_of program) (Block program.body.decls program.body.stmts program.body.handlers) (λ bytes o. main_stands program bytes o) (omega arith);
  subs = λ k unit e. let z = levels_in program.subs k unit e in t_stmt (Stands program) (depth_of program) (Block unit.body.decls unit.body.stmts unit.body.handlers) (λ bytes o. sub_stands program k unit bytes e o) (omega (arith, z));
}

-- the code fits, with what the rows of constructs give
lowered_with : (program : Program) (shown : ℕ → Entity → Bool) (leases : ℕ → List Lease) (lent : Bool → Sight → ℕ → CodeSite → Type 0)
    → ((items : Bool) (s : Sight) (site : ℕ) (of : SiteKind) (row : HasSite (code_of program leases) (frames_of (frame_of program)) site of s.scope.body) → lent items s site row.row)
    → IsFormed program → NoneEmpty program.subtypes → IsScoped program shown → StaysIn program → SitesAreDistinct program → SitesAreListed program → SitesAreNested program
    → IsLoweredBy lent program (code_of program leases) (seen_names shown (behind_main program (text_in program)).object) (scopes.behind outset program.body.decls).taken
    (code_of program leases).texts (text_in program) (frames_of (frame_of program)) (frame_of program (body.Sub 0)) (depth_of program)
lowered_with program shown leases lent give formed filled scoped stays distinct listed' nested =
    let c : Code = code_of program leases in
    let sited : IsSited program = sited_law program nested listed' in
    let text = text_in program in
    lowered program text c shown (depth_of program) formed filled scoped (frame_of program) (is_tabled program leases) lent give stays.0 (stays.1, stays.2) (is_code program leases) (are_named program text shown scoped)
    (has_room program text shown scoped (Row program leases sited distinct listed') (frame_of program) (all_room program leases sited distinct listed')) (frame_of program (body.Sub 0)) (are_frames program leases)

pub lowered_law : LoweredLaw
lowered_law program shown leases formed filled scoped stays distinct listed' nested =
    (depth_of program, lowered_with program shown leases unleased (λ items s site of row. tt) formed filled scoped stays distinct listed' nested)

pub surrounded_law : SurroundedLaw
surrounded_law program shown leases formed filled scoped stays distinct listed' nested =
    (depth_of program, lowered_with program shown leases surrounded (λ items s site of row. row.around) formed filled scoped stays distinct listed' nested)

pub ready_law : ReadyLaw
ready_law program shown formed filled scoped = (scoped_ready program shown scoped, objects_filled program formed.grounded filled)
