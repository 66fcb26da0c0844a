-- Whole programs: their code with the leases of granted paths has those of what threads may write.
use Rattle.std.proofs.Common.{◌≡◌, ℕ, ◌+◌, ◌≤◌, List, [], ◌∷◌, length, inl, inr, ◌⊎◌, Option, Some, None, Bool, true, false, cond, refl, sym, ap, ◌∙◌, subst, true≢false}
use Rattle.std.proofs.lemmas.Option.{none-some}
use Rattle.behaviours.specs.Paths.{Entity, VariableOf, ConstantOf, entity_eq}
use Rattle.typed_tree.specs.declared.program.Formal.{Formal}
use Rattle.typed_tree.specs.declared.program.Mode.{Mode}
use Rattle.typed_tree.specs.declared.program.Mode.TheVariants as mode
use Rattle.typed_tree.specs.Syntax.{Block, Decls, NoDecl, DeclareDefault, DeclareVariable, DeclareConstant, Mentions, Sub, Program}
use Rattle.typed_scopes.specs.Scopes as scopes
use Rattle.typed_scopes.specs.Scopes.{Around, IsScoped, ScopedMain, outset, sub_around, with_formals, with_outer}
use Rattle.ada_meaning.specs.Meaning.{object_layout, sub_at}
use Rattle.ada_meaning.specs.Shapes.{object_shape, size}
use Rattle.ada_meaning.proofs.Cells.{entity_same, some_same}
use Rattle.check_effects.specs.Effects.{unknown, Item, Construct, Holds, InDecls, InAll, InHandlers, InStmt, InCallee}
use Rattle.check_effects.specs.Conflicts.{InProgram}
use Rattle.stack_code.specs.declared.code.Code.{Code}
use Rattle.stack_code.specs.declared.code.CodeSite.{CodeSite}
use Rattle.lower_emission.specs.Bodies as code
use Rattle.lower_emission.specs.Programs as programs
use Rattle.lower_emission.specs.Programs.{behind_main, code_of}
use Rattle.lower_emission.specs.Scope.{Scope}
use Rattle.ada_lower.specs.Leases.{leases_of}
use Rattle.ada_lower.specs.Sights.{Main, Named, Sight, taking, with_object}
use Rattle.ada_lower.specs.Emission.{Shape, lead, shape_by, shapes, width}
use Rattle.ada_lower.specs.Bodies.{AreFresh, FittedMain, formal_named, main_object, main_scope, objects, outer_scope, seens, sub_scope}
use Rattle.ada_lower.specs.FittedForks.{FittedReductions}
use Rattle.ada_lower.specs.Law.{IsLoweredBy}
use Rattle.ada_lower.specs.Leased.{leased}
use Rattle.lower_laws.specs.Rooms.{seen_names}
use Rattle.lower_laws.proofs.Sees.{number_of}
use Rattle.lower_laws.specs.Granted.{told}
use Rattle.lower_laws.specs.LeasesLaw.{LentLaw}
use Rattle.lower_laws.proofs.Leases.{are_leased, row_leases}
use Rattle.lower_laws.proofs.LendsStatements.{default, lend_stmt, wide}
use Rattle.lower_laws.proofs.LendsValues.{lend_value}
use Rattle.lower_laws.proofs.Writes.{Items, also_lies}
use Rattle.lower_laws.proofs.Here.{AreHere, Gives, IsHere, Sees, also_there, sees_main, sees_object}

-- ---- the main procedure's objects

module _ (program : Program) (shown : ℕ → Entity → Bool) where
  -- an object that is one of the main procedure's
  record IsMain (y : Entity) (m : Named) : Type 0 where
    pub direct : m.through ≡ false
    pub enough : size (object_shape program (number_of y)) ≤ m.cells
    pub level : m.place.level ≡ Main

  abbrev AllMain : (Entity → Option Named) → Type 0
  AllMain o = (y : Entity) (m : Named) → o y ≡ Some m → IsMain y m

  also_main : (o : Entity → Option Named) (y : Entity) (n cells : ℕ) → size (object_shape program (number_of y)) ≤ cells → AllMain o → AllMain (λ z. cond (entity_eq y z) (Some (code.main_named n cells)) (o z))
  also_main o y n cells le all z m = go (entity_eq y z) refl
    where
      go : (b : Bool) → entity_eq y z ≡ b → cond b (Some (code.main_named n cells)) (o z) ≡ Some m → IsMain z m
      go true e is = subst (λ m. IsMain z m) (some_same (code.main_named n cells) m is) (record { direct = refl; enough = subst (λ z. size (object_shape program (number_of z)) ≤ cells) (entity_same y z e) le; level = refl })
      go false e is = all z m is

  all_main : (decls : Decls) (s : Scope) (v : Around) (does : Around → Type 0) → ScopedMain program shown v decls does → AllMain s.object → AllMain (programs.behind program s decls).object
  all_main NoDecl s v does p all = all
  all_main (DeclareDefault x more) s v does p all =
      all_main more (code.main_object s (VariableOf x) (length (object_layout program x))) (with_outer (VariableOf x) v) does p.1 (also_main s.object (VariableOf x) s.free (length (object_layout program x)) (default program x) all)
  all_main (DeclareVariable x initial more) s v does p all =
      all_main more (code.main_object s (VariableOf x) (width program initial)) (with_outer (VariableOf x) v) does p.2 (also_main s.object (VariableOf x) s.free (width program initial) (wide program shown v x initial p.1) all)
  all_main (DeclareConstant x initial more) s v does p all =
      all_main more (code.main_object s (ConstantOf x) (width program initial)) (with_outer (ConstantOf x) v) does p.2 (also_main s.object (ConstantOf x) s.free (width program initial) (wide program shown v x initial p.1) all)
  all_main (Mentions es more) s v does p all = all_main more s v does p.1 all

  -- ---- formal parameters

  formal_size : (x : ℕ) (m : Mode) → size (object_shape program (number_of (shape_by program x m).formal)) ≤ (shape_by program x m).cells
  formal_size x mode.In = default program x
  formal_size x mode.InOut = default program x
  formal_size x mode.Out = default program x

  sees_formals : (fs : List Formal) (i : ℕ) (v : Around) (s : Sight) → AreFresh (shapes program fs) i s → Sees program v s → AreHere program (λ z. objects (shapes program fs) i s.scope.object z) s.global (λ z. seens (shapes program fs) s.seen z) s.main v.outer
  sees_formals [] i v s fresh h = h
  sees_formals (f ∷ fs) i v s fresh h =
      let x : Shape = shape_by program f.object f.mode in
      sees_formals fs (i + lead x.back + x.cells) v (with_object x.formal (formal_named (i + lead x.back) x.cells) s) fresh.1 (sees_object program x.formal (formal_named (i + lead x.back) x.cells) refl (formal_size f.object f.mode) fresh.0 h)

  -- ---- declarations of the main procedure

  module _ (globals : ℕ → Entity → Option Named) (mains : Entity → Bool) (texts : List (List ℕ)) (text : List ℕ → ℕ) (frames : ℕ → ℕ) (c : Code) (lent told : Bool → Sight → ℕ → CodeSite → Type 0) (held : Construct → Type 0) (gives : Gives program shown c lent told held) where
    lend_main : (n : ℕ) (s : Sight) (v : Around) (x : Decls) (rest : Item → Type 0) (does : Around → Type 0) (old new : Sight → Type 0) → Sees program v s → Items unknown s → ScopedMain program shown v x does → ((k : Construct) → InDecls program.subtypes unknown x rest (Holds k) → held k)
        → ((j : Sight) (u : Around) → Sees program u j → Items unknown j → does u → ((k : Construct) → rest (Holds k) → held k) → old j → new j)
        → FittedMain program globals mains texts text frames (FittedReductions program globals mains told c n) s x old → FittedMain program globals mains texts text frames (FittedReductions program globals mains lent c n) s x new
    lend_main n s v NoDecl rest does old new h q p i next f = next s v h q p i f
    lend_main n s v (DeclareDefault x more) rest does old new h q p i next f = (
      f.0,
      f.1,
      f.2,
      lend_main n (main_object s (VariableOf x) (length (object_layout program x))) (with_outer (VariableOf x) v) more rest does old new (sees_main program (VariableOf x) s.scope.free (length (object_layout program x)) (default program x) h) (λ k o e. also_lies (VariableOf x) _ s.scope.object _ (q k o e)) p.1 (λ k z. i k (z, tt)) next f.3,
    )
    lend_main n s v (DeclareVariable x initial more) rest does old new h q p i next f = (
      f.0,
      f.1,
      lend_value program globals mains shown c lent told held gives n unknown (taking (width program initial) s) v _ (width program initial) initial h p.1 (λ k z. i k (inl z)) f.2,
      lend_main n (main_object s (VariableOf x) (width program initial)) (with_outer (VariableOf x) v) more rest does old new (sees_main program (VariableOf x) s.scope.free (width program initial) (wide program shown v x initial p.1) h) (λ k o e. also_lies (VariableOf x) _ s.scope.object _ (q k o e)) p.2 (λ k z. i k (inr (z, tt))) next f.3,
    )
    lend_main n s v (DeclareConstant x initial more) rest does old new h q p i next f = (
      f.0,
      f.1,
      lend_value program globals mains shown c lent told held gives n unknown (taking (width program initial) s) v _ (width program initial) initial h p.1 (λ k z. i k (inl z)) f.2,
      lend_main n (main_object s (ConstantOf x) (width program initial)) (with_outer (ConstantOf x) v) more rest does old new (sees_main program (ConstantOf x) s.scope.free (width program initial) (wide program shown v x initial p.1) h) (λ k o e. q k o e) p.2 (λ k z. i k (inr z)) next f.3,
    )
    lend_main n s v (Mentions es more) rest does old new h q p i next f = lend_main n s v more rest does old new h q p.1 (λ k z. i k (inr z)) next f

-- behind its declarations they are named
names_there : (program : Program) (decls : Decls) (s : Scope) (v : Around) → ((y : Entity) → v.object y ≡ true → (m : Named) × (s.object y ≡ Some m)) → (y : Entity) → (scopes.behind v decls).object y ≡ true → (m : Named) × ((programs.behind program s decls).object y ≡ Some m)
names_there program NoDecl s v h y e = h y e
names_there program (DeclareDefault x more) s v h y e =
    names_there program more (code.main_object s (VariableOf x) (length (object_layout program x))) (with_outer (VariableOf x) v) (λ z f. also_there (VariableOf x) (code.main_named s.free (length (object_layout program x))) z (h z) f) y e
names_there program (DeclareVariable x initial more) s v h y e =
    names_there program more (code.main_object s (VariableOf x) (width program initial)) (with_outer (VariableOf x) v) (λ z f. also_there (VariableOf x) (code.main_named s.free (width program initial)) z (h z) f) y e
names_there program (DeclareConstant x initial more) s v h y e =
    names_there program more (code.main_object s (ConstantOf x) (width program initial)) (with_outer (ConstantOf x) v) (λ z f. also_there (ConstantOf x) (code.main_named s.free (width program initial)) z (h z) f) y e
names_there program (Mentions es more) s v h y e = names_there program more s v h y e

pub formals_outer : (fs : List Formal) (v : Around) → (with_formals v fs).outer ≡ v.outer
formals_outer [] v = refl
formals_outer (f ∷ fs) v = formals_outer fs (scopes.with_object (scopes.entity_of f) v)

-- ---- whole programs, where what is asked is given at each construct

module _ (program : Program) (shown : ℕ → Entity → Bool) (text : List ℕ → ℕ) (frames : ℕ → ℕ) (frame depth : ℕ) (c : Code) (scoped : IsScoped program shown) (lent told : Bool → Sight → ℕ → CodeSite → Type 0)
    (gives : Gives program shown c lent told (λ k. InProgram program (Holds k))) where
  abbrev names : Entity → Option Named
  names = (behind_main program text).object

  abbrev globals : ℕ → Entity → Option Named
  globals = seen_names shown names

  abbrev mains : Entity → Bool
  mains = (scopes.behind outset program.body.decls).taken

  -- around a subprogram
  sees_outer : (k : ℕ) (unit : Sub) (cells : ℕ) → Sees program (sub_around program (shown k)) (outer_scope program globals mains c.texts text frames k unit cells)
  sees_outer k unit cells = record {
    named = λ y m e. go y m (shown k y) refl e;
    apart = λ y e. e;
    around = λ y e. (let (m, is) = names_there program program.body.decls (code.main_scope text) outset (λ y e. absurd (true≢false (sym e))) y (scoped.objects k y e) in (m, ap (λ b. cond b (names y) None) e ∙ is));
  }
    where
      main_at : (y : Entity) (m : Named) → names y ≡ Some m → IsMain program shown y m
      main_at = all_main program shown program.body.decls (code.main_scope text) outset _ scoped.main (λ y m e. absurd (none-some m e))

      go : (y : Entity) (m : Named) (b : Bool) → shown k y ≡ b → cond b (names y) None ≡ Some m → IsHere program y (mains y) (cond (shown k y) (names y) None) m
      go y m true s e = let z = main_at y m e in record { direct = z.direct; enough = z.enough; everywhere = λ t. ap (λ b. cond b (names y) None) s ∙ e; level = λ t. z.level }
      go y m false s e = absurd (none-some m e)

  sees_sub : (k : ℕ) (unit : Sub) (cells : ℕ) → AreFresh (shapes program unit.formals) 0 (outer_scope program globals mains c.texts text frames k unit cells)
      → Sees program (with_formals (sub_around program (shown k)) unit.formals) (sub_scope program globals mains c.texts text frames k unit cells)
  sees_sub k unit cells fresh =
      let s : Sight = sub_scope program globals mains c.texts text frames k unit cells in
      subst (λ outer. AreHere program s.scope.object s.global s.seen s.main outer) (sym (formals_outer unit.formals (sub_around program (shown k))))
      (sees_formals program shown unit.formals 0 (sub_around program (shown k)) (outer_scope program globals mains c.texts text frames k unit cells) fresh (sees_outer k unit cells))

  sees_outset : Sees program outset (main_scope program globals mains c.texts text frames frame)
  sees_outset = record { named = λ y m e. absurd (none-some m e); apart = λ y e. refl; around = λ y e. absurd (true≢false (sym e)) }

  held_sub : (k : ℕ) (unit : Sub) → sub_at program.subs k ≡ Some unit → (j : Construct) → InStmt program.subtypes unknown (Block unit.body.decls unit.body.stmts unit.body.handlers) (Holds j) → InProgram program (Holds j)
  held_sub k unit e j h = inr (k, subst (λ o. InCallee program o (Holds j)) (sym e) h)

  pub lowered_by : IsLoweredBy told program c globals mains c.texts text frames frame depth → IsLoweredBy lent program c globals mains c.texts text frames frame depth
  lowered_by low = record {
    closed = low.closed;
    same_texts = low.same_texts;
    code = low.code;
    named = low.named;
    subs = λ k unit is e at.
        let old = low.subs k unit is e at in
        record {
          fresh = old.fresh;
          backs = old.backs;
          fitted = λ cells le.
              lend_stmt program globals mains shown c lent told (λ k. InProgram program (Holds k)) gives depth unknown (sub_scope program globals mains c.texts text frames k unit cells) (with_formals (sub_around program (shown k)) unit.formals)
              (Block unit.body.decls unit.body.stmts unit.body.handlers) (sees_sub k unit cells (old.fresh cells)) (λ k n e. absurd (none-some n e)) (scoped.subs k unit e) (held_sub k unit e) (old.fitted cells le);
        };
    main = lend_main program shown globals mains c.texts text frames c lent told (λ k. InProgram program (Holds k)) gives depth (main_scope program globals mains c.texts text frames frame) outset program.body.decls
        (λ j. InAll program.subtypes unknown program.body.stmts j ⊎ InHandlers program.subtypes unknown program.body.handlers j) _ _ _ sees_outset (λ k n e. absurd (none-some n e)) scoped.main (λ k h. inl h)
        (λ j u see q p into f. lend_stmt program globals mains shown c lent told (λ k. InProgram program (Holds k)) gives depth unknown j u (Block NoDecl program.body.stmts program.body.handlers) see q p into f) low.main;
  }

pub lent_law : LentLaw
lent_law program shown names ranges granted text frames frame depth distinct scoped are low =
    lowered_by program shown text frames frame depth (code_of program (leases_of program names ranges granted)) scoped (leased program) (told program names ranges)
    (λ items v s site cs k held num goes sees is kind writes t. are_leased program names ranges granted distinct are v s site cs k held num items goes sees (row_leases program (leases_of program names ranges granted) site cs is) kind t) low
