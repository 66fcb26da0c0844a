-- What is in scope at the constructs of whole programs lies where the lists of variables and constructs tell.
use Rattle.std.proofs.Common.{◌≡◌, ℕ, zero, suc, ◌+◌, nat_eq, List, [], ◌∷◌, length, inl, inr, ◌⊎◌, Option, Some, None, Bool, true, false, not, cond, refl, sym, ap, ◌∙◌, subst, true≢false, eqb-true, eq-eqb}
use Rattle.std.proofs.lemmas.Option.{none-some}
use Rattle.behaviours.specs.Paths.{Entity, VariableOf, ConstantOf, entity_eq}
use Rattle.typed_tree.specs.declared.program.Formal.{Formal}
use Rattle.typed_tree.specs.declared.program.Mode.{Mode}
use Rattle.typed_tree.specs.declared.program.Mode.TheVariants as mode
use Rattle.typed_tree.specs.Syntax.{Block, Decls, NoDecl, DeclareDefault, DeclareVariable, DeclareConstant, Mentions, Stmt, Sub, Program}
use Rattle.typed_sites.specs.Sites.{SitesAreDistinct}
use Rattle.typed_scopes.specs.Scopes as scopes
use Rattle.typed_scopes.specs.Scopes.{Around, IsScoped, ScopedAll, ScopedHandlers, ScopedMain, outset, sub_around, with_formals, with_outer}
use Rattle.ada_meaning.specs.Meaning.{object_layout, sub_at}
use Rattle.ada_meaning.proofs.Cells.{some_same}
use Rattle.stack_code.specs.declared.code.Code.{Code}
use Rattle.stack_code.specs.declared.code.CodeSite.{CodeSite}
use Rattle.lower_emission.specs.Bodies as code
use Rattle.lower_emission.specs.Programs as programs
use Rattle.lower_emission.specs.Programs.{behind_main, code_of}
use Rattle.lower_emission.specs.Scope.{Scope}
use Rattle.ada_lower.specs.declared.types.Home.{Home}
use Rattle.ada_lower.specs.declared.types.Standing.{Standing}
use Rattle.ada_lower.specs.Homes.{behind, decl_homes, formal_home, formal_homes, homes_of, stmt_homes, handler_homes, sub_homes, subs_homes}
use Rattle.ada_lower.specs.Places.{home_in, leases_at, names_of, ranges_in, ranges_of, seen_from, standing_in}
use Rattle.ada_lower.specs.Standings.{body_standings, decls_standings, standings_of, stmt_standings, handler_standings, subs_standings}
use Rattle.ada_lower.specs.Lending.{Among}
use Rattle.ada_lower.specs.Sights.{Main, Named, Sight, taking}
use Rattle.ada_lower.specs.Emission.{Shape, lead, shape_by, shapes, shapes_cells, width}
use Rattle.ada_lower.specs.Bodies.{FittedMain, formal_named, main_object, main_scope, objects, outer_scope, sub_scope}
use Rattle.ada_lower.specs.FittedForks.{FittedReductions}
use Rattle.ada_lower.specs.Law.{IsLoweredBy}
use Rattle.lower_laws.specs.Rooms.{seen_names}
use Rattle.ada_lower.specs.HomesLaw.{HomesAreDistinct}
use Rattle.lower_laws.specs.Granted.{seen, told}
use Rattle.lower_laws.specs.LeasesLaw.{LeasedLaw, NamesLaw}
use Rattle.lower_laws.proofs.Homes.{ArePlaced, IsPlaced, Places, main_placed, own_placed, places_object}
use Rattle.lower_laws.proofs.Kept.{among_last, home_decls, home_formals, home_stmt, home_subs, kept_all, kept_decls, kept_handlers, kept_subs}
use Rattle.lower_laws.proofs.Programs.{lent_law}
use Rattle.lower_laws.proofs.Stood.{standings_distinct}
use Rattle.lower_laws.proofs.TellsValues.{tell_value}
use Rattle.lower_laws.proofs.TellsStatements.{no_variable, same_variable, tell_stmt}

-- ---- the one of a number

standing_is : (ss : List Standing) (t : Standing) → Among t ss → ((j : Standing) → Among j ss → j.site ≡ t.site → j ≡ t) → standing_in t.site ss ≡ Some t
standing_is [] t i one = absurd i
standing_is (s ∷ ss) t i one = go (nat_eq t.site s.site) refl i (λ h. standing_is ss t h (λ j k e. one j (inr k) e))
  where
    go : (b : Bool) → nat_eq t.site s.site ≡ b → (t ≡ s) ⊎ Among t ss → (Among t ss → standing_in t.site ss ≡ Some t) → cond b (Some s) (standing_in t.site ss) ≡ Some t
    go true e i more = ap Some (one s (inl refl) (sym (eqb-true t.site s.site e)))
    go false e (inl is) more = absurd (true≢false (sym (ap (λ (z : Standing). nat_eq t.site z.site) (sym is) ∙ eq-eqb t.site t.site refl) ∙ e))
    go false e (inr h) more = more h

home_is : (hs : List Home) (t : Home) (x : ℕ) → t.object ≡ x → Among t hs → ((j : Home) → Among j hs → j.object ≡ x → j ≡ t) → home_in x hs ≡ Some t
home_is [] t x of i one = absurd i
home_is (h ∷ hs) t x of i one = go (nat_eq x h.object) refl i (λ k. home_is hs t x of k (λ j k e. one j (inr k) e))
  where
    go : (b : Bool) → nat_eq x h.object ≡ b → (t ≡ h) ⊎ Among t hs → (Among t hs → home_in x hs ≡ Some t) → cond b (Some h) (home_in x hs) ≡ Some t
    go true e i more = ap Some (one h (inl refl) (sym (eqb-true x h.object e)))
    go false e (inl is) more = absurd (true≢false (sym (eq-eqb x h.object (sym of ∙ ap (λ (z : Home). z.object) is)) ∙ e))
    go false e (inr k) more = more k

-- ---- whole programs

module _ (program : Program) (shown : ℕ → Entity → Bool) (scoped : IsScoped program shown) (text : List ℕ → ℕ) (frames : ℕ → ℕ) (frame depth : ℕ) (c : Code) (lent told : Bool → Sight → ℕ → CodeSite → Type 0)
    (gives : (items : Bool) (d : ℕ) (s : Sight) (site : ℕ) (cs : CodeSite) → Among (record { site = site; depth = d; ranges = not items }) (standings_of program) → Places (homes_of program) d s → told items s site cs → lent items s site cs) where
  abbrev homes : List Home
  homes = homes_of program

  abbrev standings : List Standing
  standings = standings_of program

  abbrev names : Entity → Option Named
  names = (behind_main program text).object

  abbrev globals : ℕ → Entity → Option Named
  globals = seen_names shown names

  abbrev mains : Entity → Bool
  mains = (scopes.behind outset program.body.decls).taken

  abbrev LiesIn : (List Home → List Home) → Type 0
  LiesIn find = (t : Home) → ((found : List Home) → Among t (find found)) → Among t homes

  abbrev StandsIn : (List Standing → List Standing) → Type 0
  StandsIn find = (t : Standing) → ((found : List Standing) → Among t (find found)) → Among t standings

  -- ---- the main procedure's objects

  main_here : (m x cells : ℕ) (free : ℕ) → free ≡ m → Among (record { object = x; main = true; depth = 0; cell = m; cells = cells }) homes → (d y : ℕ) → ◌≡◌ {A = Entity} (VariableOf x) (VariableOf y) → IsPlaced homes d y (record { through = false; place = record { level = Main; cell = free }; cells = cells })
  main_here m x cells free e i d y same =
      subst (λ y. IsPlaced homes d y (record { through = false; place = record { level = Main; cell = free }; cells = cells })) (same_variable same)
      (subst (λ z. IsPlaced homes d x (record { through = false; place = record { level = Main; cell = z }; cells = cells })) (sym e) (main_placed homes d x m cells i))

  names_placed : (decls : Decls) (s : Scope) (m : ℕ) → s.free ≡ m → ArePlaced homes 0 s.object → LiesIn (λ o. decl_homes program true 0 m decls o) → ArePlaced homes 0 (programs.behind program s decls).object
  names_placed NoDecl s m e h l = h
  names_placed (DeclareDefault x more) s m e h l =
      let cells = length (object_layout program x) in
      let t0 : Home = record { object = x; main = true; depth = 0; cell = m; cells = cells } in
      names_placed more (code.main_object s (VariableOf x) cells) (m + cells) (ap (λ z. z + cells) e)
      (places_object homes (VariableOf x) (code.main_named s.free cells) (λ y same. main_here m x cells s.free e (l t0 (λ o. home_decls program t0 true 0 (m + cells) more _ (among_last t0 o))) 0 y same) h) (λ t z. l t (λ o. z _))
  names_placed (DeclareVariable x initial more) s m e h l =
      let cells = width program initial in
      let t0 : Home = record { object = x; main = true; depth = 0; cell = m; cells = cells } in
      names_placed more (code.main_object s (VariableOf x) cells) (m + cells) (ap (λ z. z + cells) e)
      (places_object homes (VariableOf x) (code.main_named s.free cells) (λ y same. main_here m x cells s.free e (l t0 (λ o. home_decls program t0 true 0 (m + cells) more _ (among_last t0 o))) 0 y same) h) (λ t z. l t (λ o. z _))
  names_placed (DeclareConstant x initial more) s m e h l =
      let cells = width program initial in
      names_placed more (code.main_object s (ConstantOf x) cells) (m + cells) (ap (λ z. z + cells) e) (places_object homes (ConstantOf x) (code.main_named s.free cells) (λ y same. absurd (no_variable same)) h) l
  names_placed (Mentions es more) s m e h l = names_placed more s m e h l

  abbrev rest_of_main : Stmt
  rest_of_main = Block NoDecl program.body.stmts program.body.handlers

  main_lies : LiesIn (λ o. decl_homes program true 0 0 program.body.decls o)
  unfolding handler_homes stmt_homes
  main_lies t z = home_subs program t program.subs _ (home_stmt program t 0 (behind program 0 program.body.decls) rest_of_main _ (z []))

  rest_lies : LiesIn (λ o. stmt_homes program 0 (behind program 0 program.body.decls) rest_of_main o)
  unfolding stmt_homes handler_homes
  rest_lies t z = home_subs program t program.subs _ (z (decl_homes program true 0 0 program.body.decls []))

  no_names : ArePlaced homes 0 (λ y. None)
  no_names = record { variable = λ x m e. absurd (none-some m e) }

  all_names : ArePlaced homes 0 names
  all_names = names_placed program.body.decls (code.main_scope text) 0 refl no_names main_lies

  -- ---- subprograms

  sub_lies : (subs : List Sub) (k : ℕ) (unit : Sub) → sub_at subs k ≡ Some unit → (t : Home) → ((found : List Home) → Among t (sub_homes program unit found)) → (found : List Home) → Among t (subs_homes program subs found)
  sub_lies [] k unit e t z found = absurd (none-some unit e)
  sub_lies (u ∷ us) zero unit e t z found = home_subs program t us _ (subst (λ u. Among t (sub_homes program u found)) (sym (some_same u unit e)) (z found))
  sub_lies (u ∷ us) (suc k) unit e t z found = sub_lies us k unit e t z (sub_homes program u found)

  sub_stands : (subs : List Sub) (k : ℕ) (unit : Sub) → sub_at subs k ≡ Some unit → (t : Standing) → ((found : List Standing) → Among t (body_standings unit.body found)) → (found : List Standing) → Among t (subs_standings subs found)
  sub_stands [] k unit e t z found = absurd (none-some unit e)
  sub_stands (u ∷ us) zero unit e t z found = kept_subs t us _ (subst (λ (u : Sub). Among t (body_standings u.body found)) (sym (some_same u unit e)) (z found))
  sub_stands (u ∷ us) (suc k) unit e t z found = sub_stands us k unit e t z (body_standings u.body found)

  formal_here : (x : ℕ) (m : Mode) (i : ℕ) (more : List Shape) → LiesIn (λ o. formal_homes (i + lead (shape_by program x m).back + (shape_by program x m).cells) more (formal_home (i + lead (shape_by program x m).back) (shape_by program x m).formal (shape_by program x m).cells o))
      → (y : ℕ) → (shape_by program x m).formal ≡ VariableOf y → IsPlaced homes 0 y (formal_named (i + lead (shape_by program x m).back) (shape_by program x m).cells)
  formal_here x mode.In i more l y same = absurd (no_variable same)
  formal_here x mode.InOut i more l y same =
      let t0 : Home = record { object = x; main = false; depth = 0; cell = i + 1; cells = length (object_layout program x) } in
      subst (λ y. IsPlaced homes 0 y (formal_named (i + 1) (length (object_layout program x)))) (same_variable same) (own_placed homes 0 x (i + 1) (length (object_layout program x)) (l t0 (λ o. home_formals program t0 _ more _ (among_last t0 o))))
  formal_here x mode.Out i more l y same =
      let t0 : Home = record { object = x; main = false; depth = 0; cell = i + 1; cells = length (object_layout program x) } in
      subst (λ y. IsPlaced homes 0 y (formal_named (i + 1) (length (object_layout program x)))) (same_variable same) (own_placed homes 0 x (i + 1) (length (object_layout program x)) (l t0 (λ o. home_formals program t0 _ more _ (among_last t0 o))))

  places_formals : (fs : List Formal) (i : ℕ) (o : Entity → Option Named) → LiesIn (λ z. formal_homes i (shapes program fs) z) → ArePlaced homes 0 o → ArePlaced homes 0 (λ z. objects (shapes program fs) i o z)
  places_formals [] i o l h = h
  places_formals (f ∷ fs) i o l h =
      let x : Shape = shape_by program f.object f.mode in
      places_formals fs (i + lead x.back + x.cells) (λ z. cond (entity_eq x.formal z) (Some (formal_named (i + lead x.back) x.cells)) (o z)) (λ t z. l t (λ o. z _))
      (places_object homes x.formal (formal_named (i + lead x.back) x.cells) (λ y same. formal_here f.object f.mode i (shapes program fs) l y same) h)

  -- some of the main procedure's objects
  places_outer : (k : ℕ) (unit : Sub) (cells : ℕ) → Places homes 0 (outer_scope program globals mains c.texts text frames k unit cells)
  places_outer k unit cells = record { variable = λ x m e. go x m (shown k (VariableOf x)) e }
    where
      go : (x : ℕ) (m : Named) (b : Bool) → cond b (names (VariableOf x)) None ≡ Some m → IsPlaced homes 0 x m
      go x m true e = all_names.variable x m e
      go x m false e = absurd (none-some m e)

  -- ---- the main procedure

  tell_main : (n m : ℕ) (s : Sight) (v : Around) (x : Decls) (does : Around → Type 0) (old new : Sight → Type 0) → s.scope.free ≡ m → Places homes 0 s → ScopedMain program shown v x does → StandsIn (λ o. decls_standings 0 x o) → LiesIn (λ o. decl_homes program true 0 m x o)
      → ((j : Sight) (u : Around) → j.scope.free ≡ behind program m x → Places homes 0 j → does u → old j → new j)
      → FittedMain program globals mains c.texts text frames (FittedReductions program globals mains told c n) s x old → FittedMain program globals mains c.texts text frames (FittedReductions program globals mains lent c n) s x new
  unfolding decls_standings
  tell_main n m s v NoDecl does old new e h u g l next f = next s v e h u f
  tell_main n m s v (DeclareDefault x more) does old new e h u g l next f =
      let cells = length (object_layout program x) in
      let t0 : Home = record { object = x; main = true; depth = 0; cell = m; cells = cells } in (
        f.0,
        f.1,
        f.2,
        tell_main n (m + cells) (main_object s (VariableOf x) cells) (with_outer (VariableOf x) v) more does old new (ap (λ z. z + cells) e)
            (places_object homes (VariableOf x) (code.main_named s.scope.free cells) (λ y same. main_here m x cells s.scope.free e (l t0 (λ o. home_decls program t0 true 0 (m + cells) more _ (among_last t0 o))) 0 y same) h) u.1 g (λ t z. l t (λ o. z _)) next f.3,
      )
  tell_main n m s v (DeclareVariable x initial more) does old new e h u g l next f =
      let cells = width program initial in
      let t0 : Home = record { object = x; main = true; depth = 0; cell = m; cells = cells } in (
        f.0,
        f.1,
        tell_value program shown globals mains c lent told homes standings gives n 0 (taking cells s) v _ cells initial h u.1 (λ t z. g t (λ o. kept_decls t 0 more _ (z o))) f.2,
        tell_main n (m + cells) (main_object s (VariableOf x) cells) (with_outer (VariableOf x) v) more does old new (ap (λ z. z + cells) e)
            (places_object homes (VariableOf x) (code.main_named s.scope.free cells) (λ y same. main_here m x cells s.scope.free e (l t0 (λ o. home_decls program t0 true 0 (m + cells) more _ (among_last t0 o))) 0 y same) h) u.2 (λ t z. g t (λ o. z _)) (λ t z. l t (λ o. z _)) next f.3,
      )
  tell_main n m s v (DeclareConstant x initial more) does old new e h u g l next f =
      let cells = width program initial in (
        f.0,
        f.1,
        tell_value program shown globals mains c lent told homes standings gives n 0 (taking cells s) v _ cells initial h u.1 (λ t z. g t (λ o. kept_decls t 0 more _ (z o))) f.2,
        tell_main n (m + cells) (main_object s (ConstantOf x) cells) (with_outer (ConstantOf x) v) more does old new (ap (λ z. z + cells) e)
            (places_object homes (ConstantOf x) (code.main_named s.scope.free cells) (λ y same. absurd (no_variable same)) h) u.2 (λ t z. g t (λ o. z _)) l next f.3,
      )
  tell_main n m s v (Mentions es more) does old new e h u g l next f = tell_main n m s v more does old new e h u.1 g l next f

  main_stands : StandsIn (λ o. decls_standings 0 program.body.decls o)
  unfolding stmt_standings handler_standings
  main_stands t z = kept_subs t program.subs _ (kept_handlers t 0 program.body.handlers _ (kept_all t 0 program.body.stmts _ (z [])))

  rest_stands : StandsIn (λ o. stmt_standings 0 rest_of_main o)
  unfolding stmt_standings handler_standings decls_standings
  rest_stands t z = kept_subs t program.subs _ (z (decls_standings 0 program.body.decls []))

  pub told_by : IsLoweredBy told program c globals mains c.texts text frames frame depth → IsLoweredBy lent program c globals mains c.texts text frames frame depth
  unfolding stmt_standings handler_standings stmt_homes handler_homes
  told_by low = record {
    closed = low.closed;
    same_texts = low.same_texts;
    code = low.code;
    named = low.named;
    subs = λ k unit is e at.
        let old = low.subs k unit is e at in
        record {
          fresh = old.fresh;
          backs = old.backs;
          fitted = λ cells le.
              tell_stmt program shown globals mains c lent told homes standings gives depth 0 (shapes_cells (shapes program unit.formals)) (sub_scope program globals mains c.texts text frames k unit cells) (with_formals (sub_around program (shown k)) unit.formals)
              (Block unit.body.decls unit.body.stmts unit.body.handlers) refl
              (places_formals unit.formals 0 (globals k) (λ t z. sub_lies program.subs k unit e t (λ found. home_stmt program t 0 (shapes_cells (shapes program unit.formals)) (Block unit.body.decls unit.body.stmts unit.body.handlers) _ (z found)) _) (places_outer k unit cells)) (scoped.subs k unit e)
              (λ t z. sub_stands program.subs k unit e t z _) (λ t z. sub_lies program.subs k unit e t (λ found. z _) _) (old.fitted cells le);
        };
    main = tell_main depth 0 (main_scope program globals mains c.texts text frames frame) outset program.body.decls (λ v. ScopedAll program shown v program.body.stmts × ScopedHandlers program shown (scopes.handling v) program.body.handlers) _ _ refl no_names scoped.main main_stands main_lies
        (λ j u e see p f. tell_stmt program shown globals mains c lent told homes standings gives depth 0 (behind program 0 program.body.decls) j u rest_of_main e see p rest_stands rest_lies f) low.main;
  }

-- at a construct
tells : (program : Program) → HomesAreDistinct program → SitesAreDistinct program → (items : Bool) (d : ℕ) (s : Sight) (site : ℕ) (cs : CodeSite) → Among (record { site = site; depth = d; ranges = not items }) (standings_of program) → Places (homes_of program) d s → seen program items s site cs
    → told program (names_of program) (ranges_of program) items s site cs
tells program one_home distinct items d s site cs i h sees =
    let t : Standing = record { site = site; depth = d; ranges = not items } in
    let is : standing_in site (standings_of program) ≡ Some t = standing_is (standings_of program) t i (λ j k e. standings_distinct program distinct j t k i e) in (
      ap ranges_in is,
      λ k held num j at a e w.
          let (m, here) = sees k held num j at a e w in
          let z = h.variable a.object m here in
          let at_home : home_in a.object (homes_of program) ≡ Some z.home = home_is (homes_of program) z.home a.object z.of z.among (λ j k e. one_home j z.home k z.among (e ∙ sym z.of)) in (
            m,
            here,
            ap (λ o. seen_from o (home_in a.object (homes_of program))) is ∙ ap (λ o. seen_from (Some t) o) at_home ∙ ap Some (sym z.is),
          ),
    )

pub names_law : NamesLaw
names_law program shown c text frames frame depth one_home distinct scoped low = told_by program shown scoped text frames frame depth c (told program (names_of program) (ranges_of program)) (seen program) (tells program one_home distinct) low

pub leased_law : LeasedLaw
leased_law program shown granted text frames frame depth homes sites scoped are low =
    lent_law program shown (names_of program) (ranges_of program) granted text frames frame depth sites scoped are (names_law program shown (code_of program (leases_at program granted)) text frames frame depth homes sites scoped low)
