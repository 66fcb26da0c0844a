-- What subprograms write of the main procedure's objects, themselves or by calls, they see (8.2).
use Rattle.std.proofs.Common.{◌≡◌, ℕ, zero, suc, ◌+◌, List, [], ◌∷◌, inl, inr, Option, Some, None, Bool, true, false, cond, refl, sym, ◌∙◌, subst, le_refl}
use Rattle.std.proofs.lemmas.Option.{none-some}
use Rattle.behaviours.specs.Paths.{Entity, VariableOf, entity_eq}
use Rattle.typed_tree.specs.declared.program.Formal.{Formal}
use Rattle.typed_tree.specs.declared.program.Mode.{Mode}
use Rattle.typed_tree.specs.declared.program.Mode.TheVariants as mode
use Rattle.typed_tree.specs.Syntax.{Block, Sub, Program}
use Rattle.typed_scopes.specs.Scopes.{IsScoped, behind, outset, sub_around, with_formals}
use Rattle.ada_meaning.specs.Meaning.{sub_at}
use Rattle.ada_meaning.proofs.Cells.{entity_same}
use Rattle.check_effects.specs.Effects.{Access, unknown, Item, Touches, Calls, Holds, InCallee, InStmt, InSub, IsGlobal, Chain}
use Rattle.check_effects.specs.Conflicts.{InProgram, IsThreadEffect}
use Rattle.stack_code.specs.declared.code.Code.{Code}
use Rattle.stack_code.specs.declared.code.CodeSite.{CodeSite}
use Rattle.lower_emission.specs.Programs.{behind_main}
use Rattle.ada_lower.specs.Bodies.{formal_named, objects, sub_scope}
use Rattle.ada_lower.specs.Emission.{Shape, lead, shape_by, shapes}
use Rattle.ada_lower.specs.FittedForks.{unleased}
use Rattle.ada_lower.specs.Law.{IsLoweredBy}
use Rattle.ada_lower.specs.Lending.{Among}
use Rattle.ada_lower.specs.Sights.{Named, Sight}
use Rattle.lower_laws.specs.Rooms.{seen_names}
use Rattle.ada_lower.specs.HomesLaw.{FormalsAreLocal}
use Rattle.lower_laws.specs.Granted.{seen}
use Rattle.lower_laws.specs.LeasesLaw.{SeenLaw}
use Rattle.lower_laws.proofs.Once.{same_construct}
use Rattle.lower_laws.proofs.Programs.{formals_outer, lowered_by}
use Rattle.lower_laws.proofs.Here.{Gives, Shows}
use Rattle.lower_laws.proofs.TellsStatements.{no_variable, same_variable}
use Rattle.lower_laws.proofs.Writes.{Fine, Lies, fine_stmt}

module _ (program : Program) where
  formal_is : (x : ℕ) (m : Mode) (y : ℕ) → (shape_by program x m).formal ≡ VariableOf y → x ≡ y
  formal_is x mode.In y e = absurd (no_variable e)
  formal_is x mode.InOut y e = same_variable e
  formal_is x mode.Out y e = same_variable e

  -- a variable that is no formal parameter is one of what is around
  not_formal : (fs : List Formal) (i : ℕ) (o : Entity → Option Named) (y : ℕ) → ((f : Formal) → Among f fs → f.object ≡ y → ⊥) → Lies (λ z. objects (shapes program fs) i o z) y → Lies o y
  not_formal [] i o y other h = h
  not_formal (f ∷ fs) i o y other h =
      let x : Shape = shape_by program f.object f.mode in
      let rest : Lies (λ z. cond (entity_eq x.formal z) (Some (formal_named (i + lead x.back) x.cells)) (o z)) y =
      not_formal fs (i + lead x.back + x.cells) (λ z. cond (entity_eq x.formal z) (Some (formal_named (i + lead x.back) x.cells)) (o z)) y (λ g k e. other g (inr k) e) h in
      go (entity_eq x.formal (VariableOf y)) refl rest
    where
      go : (b : Bool) → entity_eq (shape_by program f.object f.mode).formal (VariableOf y) ≡ b
          → (n : Named) × (cond b (Some (formal_named (i + lead (shape_by program f.object f.mode).back) (shape_by program f.object f.mode).cells)) (o (VariableOf y)) ≡ Some n) → Lies o y
      go true e r = absurd (other f (inl refl) (formal_is f.object f.mode y (entity_same (shape_by program f.object f.mode).formal (VariableOf y) e)))
      go false e r = r

module _ (program : Program) (shown : ℕ → Entity → Bool) (text : List ℕ → ℕ) (frames : ℕ → ℕ) (frame depth : ℕ) (c : Code) (scoped : IsScoped program shown) (formals : FormalsAreLocal program) (told : Bool → Sight → ℕ → CodeSite → Type 0) where
  abbrev names : Entity → Option Named
  names = (behind_main program text).object

  abbrev globals : ℕ → Entity → Option Named
  globals = seen_names shown names

  abbrev mains : Entity → Bool
  mains = (behind outset program.body.decls).taken

  module _ (low : IsLoweredBy told program c globals mains c.texts text frames frame depth) where
    -- a subprogram's own text
    fine_sub : (k : ℕ) (unit : Sub) → sub_at program.subs k ≡ Some unit → (i : Item) → InStmt program.subtypes unknown (Block unit.body.decls unit.body.stmts unit.body.handlers) i
        → Fine program shown (shown k) (λ z. objects (shapes program unit.formals) 0 (globals k) z) i
    fine_sub k unit e i h =
        let (is, at, entry, enough) = low.code.subs k unit e in
        let s : Sight = sub_scope program globals mains c.texts text frames k unit is.frame in
        subst (λ o. Fine program shown o s.scope.object i) (formals_outer unit.formals (sub_around program (shown k)))
        (fine_stmt program shown globals mains c told depth unknown s (with_formals (sub_around program (shown k)) unit.formals) (Block unit.body.decls unit.body.stmts unit.body.handlers) (λ k n e. absurd (none-some n e)) (scoped.subs k unit e)
        ((low.subs k unit is e at).fitted is.frame (le_refl _)) i h)

    shown_there : (k : ℕ) (y : Entity) (b : Bool) (m : Named) → shown k y ≡ b → cond b (names y) None ≡ Some m → shown k y ≡ true
    shown_there k y true m e is = e
    shown_there k y false m e is = absurd (none-some m is)

    written : (k there : ℕ) (a : Access) → InSub program k (Touches there a) → IsGlobal program a.object → a.writes ≡ true → shown k (VariableOf a.object) ≡ true
    written k there a i global w = go (sub_at program.subs k) refl i
      where
        go : (o : Option Sub) → sub_at program.subs k ≡ o → InCallee program o (Touches there a) → shown k (VariableOf a.object) ≡ true
        go None e h = absurd h
        go (Some unit) e h =
            let (m, is) = not_formal program unit.formals 0 (globals k) a.object (λ f among same. formals k unit e f among (subst (λ x. IsGlobal program x) (sym same) global)) (fine_sub k unit e (Touches there a) h w) in
            shown_there k (VariableOf a.object) (shown k (VariableOf a.object)) m refl is

    called : (k at callee sub : ℕ) → InSub program k (Calls at callee sub) → (y : Entity) → shown sub y ≡ true → shown k y ≡ true
    called k at callee sub i = go (sub_at program.subs k) refl i
      where
        go : (o : Option Sub) → sub_at program.subs k ≡ o → InCallee program o (Calls at callee sub) → (y : Entity) → shown sub y ≡ true → shown k y ≡ true
        go None e h = absurd h
        go (Some unit) e h = fine_sub k unit e (Calls at callee sub) h

    chained : (n k sub : ℕ) → Chain program n k sub → (y : Entity) → shown sub y ≡ true → shown k y ≡ true
    chained zero k sub e y is = subst (λ k. shown k y ≡ true) (sym e) is
    chained (suc n) k sub (next, at, callee, i, more) y is = called k at callee next i y (chained n next sub more y is)

    pub shows : Shows program shown
    shows sub there a (last, n, chain, i) global w = chained n sub last chain (VariableOf a.object) (written last there a i global w)

pub seen_law : SeenLaw
seen_law program shown c text frames frame depth formals distinct scoped low = lowered_by program shown text frames frame depth c scoped (seen program) unleased gives low
  where
    gives : Gives program shown c (seen program) unleased (λ k. InProgram program (Holds k))
    gives items v s site cs k held num goes sees is kind writes told = λ k' held' num' j at a e w.
        let same : k' ≡ k = same_construct program distinct k' k held' held (num' ∙ sym num) in
        writes (shows program shown text frames frame depth c scoped formals unleased low) j at a (subst (λ k. IsThreadEffect program k j at a) same e) w
