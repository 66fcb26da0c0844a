-- Programs that are formed and in scope fit their code: so the laws of code hold of them.
use Rattle.std.proofs.Common.{◌≡◌, ℕ, zero, suc, ◌+◌, ◌≤◌, List, [], ◌∷◌, length, slice_get, Option, Some, None, Bool, true, false, cond, inl, inr, refl, sym, ap, ◌∙◌, subst, true≢false, arith}
use Rattle.std.proofs.lemmas.Option.{none-some}
use Rattle.behaviours.specs.Paths.{Entity, VariableOf, ConstantOf, entity_eq}
use Rattle.typed_tree.specs.declared.program.Formal.{Formal}
use Rattle.typed_tree.specs.declared.program.Mode.{Mode}
use Rattle.typed_tree.specs.declared.program.Mode.TheVariants as mode
use Rattle.typed_tree.specs.Syntax.{Expr, Block, Decls, NoDecl, DeclareDefault, DeclareVariable, DeclareConstant, Mentions, Stmt, Sub, Program}
use Rattle.ada_meaning.specs.Meaning.{object_layout, sub_at}
use Rattle.ada_meaning.specs.Formed.{FormedBody, FormedDecls, FormedSubs, IsFormed, Known, at_first}
use Rattle.ada_meaning.specs.Shapes.{object_shape, size}
use Rattle.ada_meaning.proofs.Cells.{entity_same, some_same}
use Rattle.stack_code.specs.declared.code.Around as body
use Rattle.stack_code.specs.declared.code.Code.{Code}
use Rattle.stack_code.specs.declared.code.CodeSite.{CodeSite}
use Rattle.stack_code.specs.declared.code.CodeSub.{CodeSub}
use Rattle.stack_code.specs.declared.code.SiteKind.{SiteKind}
use Rattle.lower_emission.specs.Emits.{Emit}
use Rattle.lower_emission.specs.Bodies as code
use Rattle.lower_emission.specs.Programs.{behind_main}
use Rattle.lower_emission.specs.Programs as programs
use Rattle.ada_lower.specs.Sights as sights
use Rattle.ada_lower.specs.Sights.{Named, Scope, Sight, taking}
use Rattle.ada_lower.specs.Emission.{Shape, lead, shape_by, shapes, shapes_cells, stmt, width}
use Rattle.ada_lower.specs.Defaults.{NoneEmpty}
use Rattle.ada_lower.specs.FittedForks.{FittedForks, FittedReductions}
use Rattle.ada_lower.specs.Bodies.{AreBack, AreFresh, FittedMain, formal_named, main_named, main_object, main_scope, objects, outer_scope, seens, sub_scope}
use Rattle.ada_lower.specs.ProgramCode.{AreNamed, IsCodeOf, SubFits}
use Rattle.typed_scopes.specs.Outs.{AllClosed, OutAll, OutHandlers}
use Rattle.ada_lower.specs.Law.{IsLoweredBy}
use Rattle.ada_lower.proofs.Grounded.{objects_filled}
use Rattle.ada_lower.proofs.ProgramStands.{sub_scope_same}
use Rattle.typed_scopes.specs.Scopes.{Around, FreshFormals, IsScoped, ScopedMain, ScopedValue, behind, entity_of, object_cells, outset, sub_around, with_formals, with_object, with_outer}
use Rattle.lower_laws.proofs.Tables.{HasSite, IsTabled, TabledDecls}
use Rattle.lower_laws.specs.Rooms.{AreFrames, HasRoom, Roomy, frames_of, seen_names}
use Rattle.lower_laws.proofs.Exits.{all_more, handlers_more}
use Rattle.lower_laws.proofs.FitsStatements.{default_fits, fits_stmt}
use Rattle.lower_laws.proofs.FitsValues.{fits_value, width_is}
use Rattle.lower_laws.proofs.Formals.{AreApart, IsOf, are_apart, entity_refl, shape_entity}
use Rattle.lower_laws.proofs.Room.{put_room}
use Rattle.lower_laws.proofs.Sees.{Named', Sees, also_object, also_taken, number_of, object_size, sees_taking}

entity_other : (x y : Entity) → entity_eq x y ≡ false → entity_eq y x ≡ false
entity_other x y e = go (entity_eq y x) refl
  where
    go : (b : Bool) → entity_eq y x ≡ b → b ≡ false
    go false s = refl
    go true s = absurd (true≢false (sym (ap (λ z. entity_eq z y) (sym (entity_same y x s)) ∙ entity_refl y) ∙ e))

-- ---- formal parameters

-- what is none of them is as before
objects_out : (hs : List Shape) (n : ℕ) (o : Entity → Option Named) (z : Entity) → ((x : Entity) → IsOf x hs → entity_eq x z ≡ false) → objects hs n o z ≡ o z
objects_out [] n o z h = refl
objects_out (x ∷ hs) n o z h =
    objects_out hs (n + lead x.back + x.cells) (λ z. cond (entity_eq x.formal z) (Some (formal_named (n + lead x.back) x.cells)) (o z)) z (λ y is. h y (inr is))
    ∙ ap (λ b. cond b (Some (formal_named (n + lead x.back) x.cells)) (o z)) (h x.formal (inl refl))

backs_all : (hs : List Shape) (n : ℕ) (o : Entity → Option Named) (i : Sight) → AreApart hs → ((z : Entity) → i.scope.object z ≡ objects hs n o z) → AreBack hs n i
backs_all [] n o i apart same = tt
backs_all (h ∷ hs) n o i apart same = (
  (λ back.
      same h.formal
      ∙ objects_out hs (n + lead h.back + h.cells) (λ z. cond (entity_eq h.formal z) (Some (formal_named (n + lead h.back) h.cells)) (o z)) h.formal (λ x is. entity_other h.formal x (apart.0 x is))
      ∙ ap (λ b. cond b (Some (formal_named (n + lead h.back) h.cells)) (o h.formal)) (entity_refl h.formal)),
  backs_all hs (n + lead h.back + h.cells) (λ z. cond (entity_eq h.formal z) (Some (formal_named (n + lead h.back) h.cells)) (o z)) i apart.1 same,
)

module _ (program : Program) where
  fresh_all : (fs : List Formal) (v : Around) (n : ℕ) (i : Sight) → ((y : Entity) → v.taken y ≡ false → i.seen y ≡ false) → FreshFormals v fs → AreFresh (shapes program fs) n i
  fresh_all [] v n i taken fresh = tt
  fresh_all (f ∷ fs) v n i taken fresh =
      let h : Shape = shape_by program f.object f.mode in
      let e : h.formal ≡ entity_of f = shape_entity program f in (
        ap i.seen e ∙ taken (entity_of f) fresh.0,
        fresh_all fs (with_object (entity_of f) v) (n + lead h.back + h.cells) (sights.with_object h.formal (formal_named (n + lead h.back) h.cells) i)
            (λ z q. ap (λ y. cond (entity_eq y z) true (i.seen z)) e ∙ go (entity_eq (entity_of f) z) z q) fresh.1,
      )
    where
      go : (b : Bool) (z : Entity) → cond b true (v.taken z) ≡ false → cond b true (i.seen z) ≡ false
      go true z q = q
      go false z q = taken z q

  formals_taken : (fs : List Formal) (v : Around) (o : Entity → Bool) → ((y : Entity) → v.taken y ≡ false → o y ≡ false) → (y : Entity) → (with_formals v fs).taken y ≡ false → seens (shapes program fs) o y ≡ false
  formals_taken [] v o h y e = h y e
  formals_taken (f ∷ fs) v o h y e =
      let x : Shape = shape_by program f.object f.mode in
      formals_taken fs (with_object (entity_of f) v) (λ z. cond (entity_eq x.formal z) true (o z)) (λ z q. ap (λ y. cond (entity_eq y z) true (o z)) (shape_entity program f) ∙ go (entity_eq (entity_of f) z) z q) y e
    where
      go : (b : Bool) (z : Entity) → cond b true (v.taken z) ≡ false → cond b true (o z) ≡ false
      go true z q = q
      go false z q = h z q

  formals_outer : (fs : List Formal) (v : Around) (y : Entity) → (with_formals v fs).outer y ≡ v.outer y
  formals_outer [] v y = refl
  formals_outer (f ∷ fs) v y = formals_outer fs (with_object (entity_of f) v) y

  shape_size : (f : Formal) → size (object_shape program (number_of (entity_of f))) ≤ (shape_by program f.object f.mode).cells
  shape_size f = go f.mode
    where
      go : (m : Mode) → size (object_shape program (number_of (entity_of (record { object = f.object; mode = m })))) ≤ (shape_by program f.object m).cells
      go mode.In = let z = object_size program f.object in omega (arith, z)
      go mode.InOut = let z = object_size program f.object in omega (arith, z)
      go mode.Out = let z = object_size program f.object in omega (arith, z)

-- ---- subprograms of a formed program

formed_at : (program : Program) (n : ℕ) (subs : List Sub) (k : ℕ) (unit : Sub) → FormedSubs program n subs → sub_at subs k ≡ Some unit → FormedBody program (suc (n + k)) unit.body
formed_at program n [] k unit f e = absurd (none-some unit e)
formed_at program n (u ∷ subs) zero unit f e = let z : n ≡ n + 0 = omega arith in subst (λ j. FormedBody program (suc j) unit.body) z (subst (λ u. FormedBody program (suc n) u.body) (some_same u unit e) f.0)
formed_at program n (u ∷ subs) (suc k) unit f e = let z : suc n + k ≡ n + suc k = omega arith in subst (λ j. FormedBody program (suc j) unit.body) z (formed_at program (suc n) subs k unit f.1 e)

module _ (program : Program) (text : List ℕ → ℕ) (c : Code) (shown : ℕ → Entity → Bool) (depth : ℕ) (formed : IsFormed program) (filled : NoneEmpty program.subtypes) (scoped : IsScoped program shown) (room : body.Around → ℕ) (tabled : IsTabled program text c depth)
    (lent : Bool → Sight → ℕ → CodeSite → Type 0) (give : (items : Bool) (s : Sight) (site : ℕ) (of : SiteKind) (row : HasSite c (frames_of room) site of s.scope.body) → lent items s site row.row) where
  abbrev names : Entity → Option Named
  names = (behind_main program text).object

  abbrev pub globals : ℕ → Entity → Option Named
  globals = seen_names shown names

  abbrev pub mains : Entity → Bool
  mains = (behind outset program.body.decls).taken

  abbrev Row : ℕ → SiteKind → body.Around → Type 0
  Row = HasSite c (frames_of room)

  abbrev T : List ℕ → Type 0
  T bytes = slice_get c.texts (text bytes) ≡ Some bytes

  abbrev S : Known → Around → Sight → Type 0
  S = Sees program names mains T (frames_of room) room

  shows : (sub : ℕ) (y : Entity) (n : Named) → globals sub y ≡ Some n → (shown sub y ≡ true) × (names y ≡ Some n)
  shows sub y n = go (shown sub y)
    where
      go : (b : Bool) → cond b (names y) None ≡ Some n → (b ≡ true) × (names y ≡ Some n)
      go true e = (refl, e)
      go false e = absurd (none-some n e)

  apart : (k : ℕ) (unit : Sub) → sub_at program.subs k ≡ Some unit → AreApart (shapes program unit.formals)
  apart k unit e = are_apart program (sub_around program (shown k)) unit.formals (scoped.fresh k unit e)

  -- ---- the main procedure's declarations

  still : (z y : Entity) (v : Around) → v.taken z ≡ true → (with_outer y v).taken z ≡ true
  still z y v t = go (entity_eq y z)
    where
      go : (b : Bool) → cond b true (v.taken z) ≡ true
      go true = refl
      go false = t

  other : (z y : Entity) (v : Around) (s : Scope) (n : ℕ) → v.taken z ≡ true → v.taken y ≡ false → (code.main_object s y n).object z ≡ s.object z
  other z y v s n t f = go (entity_eq y z) refl
    where
      go : (b : Bool) → entity_eq y z ≡ b → cond b (Some (code.main_named s.free n)) (s.object z) ≡ s.object z
      go true e = absurd (true≢false (sym t ∙ sym (ap v.taken (entity_same y z e)) ∙ f))
      go false e = refl

  taken_kept : (decls : Decls) (v : Around) (z : Entity) → v.taken z ≡ true → (behind v decls).taken z ≡ true
  taken_kept NoDecl v z t = t
  taken_kept (DeclareDefault x more) v z t = taken_kept more (with_outer (VariableOf x) v) z (still z (VariableOf x) v t)
  taken_kept (DeclareVariable x initial more) v z t = taken_kept more (with_outer (VariableOf x) v) z (still z (VariableOf x) v t)
  taken_kept (DeclareConstant x initial more) v z t = taken_kept more (with_outer (ConstantOf x) v) z (still z (ConstantOf x) v t)
  taken_kept (Mentions es more) v z t = taken_kept more v z t

  -- an object that was declared keeps its cells
  names_kept : (decls : Decls) (s : Scope) (v : Around) (does : Around → Type 0) (z : Entity) → ScopedMain program shown v decls does → v.taken z ≡ true → (programs.behind program s decls).object z ≡ s.object z
  names_kept NoDecl s v does z p t = refl
  names_kept (DeclareDefault x more) s v does z p t = names_kept more (code.main_object s (VariableOf x) (length (object_layout program x))) (with_outer (VariableOf x) v) does z p.1 (still z (VariableOf x) v t) ∙ other z (VariableOf x) v s (length (object_layout program x)) t p.0
  names_kept (DeclareVariable x initial more) s v does z p t = names_kept more (code.main_object s (VariableOf x) (width program initial)) (with_outer (VariableOf x) v) does z p.2 (still z (VariableOf x) v t) ∙ other z (VariableOf x) v s (width program initial) t p.0
  names_kept (DeclareConstant x initial more) s v does z p t = names_kept more (code.main_object s (ConstantOf x) (width program initial)) (with_outer (ConstantOf x) v) does z p.2 (still z (ConstantOf x) v t) ∙ other z (ConstantOf x) v s (width program initial) t p.0
  names_kept (Mentions es more) s v does z p t = names_kept more s v does z p.1 t

  -- the main procedure's objects behind its declarations have their cells
  names_enough : (decls : Decls) (s : Scope) (v : Around) (does : Around → Type 0) → ScopedMain program shown v decls does → ((y : Entity) → v.object y ≡ true → Named' (s.object y) (size (object_shape program (number_of y))))
      → (y : Entity) → (behind v decls).object y ≡ true → Named' ((programs.behind program s decls).object y) (size (object_shape program (number_of y)))
  names_enough NoDecl s v does p h y e = h y e
  names_enough (DeclareDefault x more) s v does p h y e =
      let z = object_size program x in
      names_enough more (code.main_object s (VariableOf x) (length (object_layout program x))) (with_outer (VariableOf x) v) does p.1 (also_object program names mains T (frames_of room) room (VariableOf x) (code.main_named s.free (length (object_layout program x))) (omega (arith, z)) h) y e
  names_enough (DeclareVariable x initial more) s v does p h y e =
      let z = object_size program x in
      let u = width_is program shown v (object_cells program x) initial p.1 in
      names_enough more (code.main_object s (VariableOf x) (width program initial)) (with_outer (VariableOf x) v) does p.2 (also_object program names mains T (frames_of room) room (VariableOf x) (code.main_named s.free (width program initial)) (omega (arith, z, u)) h) y e
  names_enough (DeclareConstant x initial more) s v does p h y e =
      let z = object_size program x in
      let u = width_is program shown v (object_cells program x) initial p.1 in
      names_enough more (code.main_object s (ConstantOf x) (width program initial)) (with_outer (ConstantOf x) v) does p.2 (also_object program names mains T (frames_of room) room (ConstantOf x) (code.main_named s.free (width program initial)) (omega (arith, z, u)) h) y e
  names_enough (Mentions es more) s v does p h y e = names_enough more s v does p.1 h y e

  -- an object of the main procedure is declared
  sees_main : {w : Known} {v : Around} {i : Sight} (y : Entity) (n : ℕ) → i.scope.free + n ≤ i.cells → size (object_shape program (number_of y)) ≤ n → names y ≡ Some (main_named i.scope.free n) → mains y ≡ true → S w v i → S w (with_outer y v) (main_object i y n)
  sees_main {w} {v} {i} y n r le named main k = record {
    object = also_object program names mains T (frames_of room) room y (main_named i.scope.free n) le k.object;
    parameter = k.parameter;
    item = k.item;
    constant = k.constant;
    target = k.target;
    handled = k.handled;
    taken = also_taken program names mains T (frames_of room) room y k.taken;
    free = r;
    enough = k.enough;
    global = λ z m o e. found z m (entity_eq y z) refl o e;
    main = λ z e. apart_of z e (entity_eq y z) refl;
    text = k.text;
    rows = k.rows;
  }
    where
      found : (z : Entity) (m : Named) (b : Bool) → entity_eq y z ≡ b → cond b true (v.outer z) ≡ true → names z ≡ Some m → cond b (Some (main_named i.scope.free n)) (i.global z) ≡ Some m
      found z m true same o e = sym named ∙ ap names (entity_same y z same) ∙ e
      found z m false same o e = k.global z m o e

      apart_of : (z : Entity) → mains z ≡ false → (b : Bool) → entity_eq y z ≡ b → cond b true (i.main z) ≡ false
      apart_of z e true same = absurd (true≢false (sym main ∙ ap mains (entity_same y z same) ∙ e))
      apart_of z e false same = k.main z e

  new : (y : Entity) (v : Around) → (with_outer y v).taken y ≡ true
  new y v = ap (λ b. cond b true (v.taken y)) (entity_refl y)

  here : (i : Sight) (y : Entity) (n : ℕ) → (main_object i y n).scope.object y ≡ Some (main_named i.scope.free n)
  here i y n = ap (λ b. cond b (Some (main_named i.scope.free n)) (i.scope.object y)) (entity_refl y)

  abbrev Fold : Sight → Expr → Type 0
  Fold = FittedReductions program globals mains lent c depth

  abbrev Fork : Sight → Stmt → Type 0
  Fork = FittedForks program globals mains lent c depth

  abbrev w0 : Known
  w0 = at_first (length program.subs)

  main_fits : (decls : Decls) (i : Sight) (v : Around) (rest : Scope → Emit) (goal : Sight → Type 0) (does : Around → Type 0) → S w0 v i → FormedDecls program w0 decls → ScopedMain program shown v decls does → TabledDecls T depth decls
      → Roomy Row room (code.main_declared program i.scope decls rest) → ((z : Entity) → names z ≡ (programs.behind program i.scope decls).object z) → ((z : Entity) → mains z ≡ (behind v decls).taken z)
      → ((j : Sight) (u : Around) → S w0 u j → does u → Roomy Row room (rest j.scope) → goal j) → FittedMain program globals mains c.texts text (frames_of room) Fold i decls goal
  main_fits NoDecl i v rest goal does k f p t m same all next = next i v k p m
  main_fits (DeclareDefault x more) i v rest goal does k f p t m same all next =
      let y : Entity = VariableOf x in
      let n = length (object_layout program x) in
      let z = object_size program x in
      let fit : i.scope.free + n ≤ i.cells = default_fits program globals mains c T (frames_of room) room (λ n. refl) apart names shown shows lent give formed.grounded filled i.scope i.scope.free x n refl m.0 i.cells k.free k.enough in (
        k.taken y p.0,
        fit,
        objects_filled program formed.grounded filled x,
        main_fits more (main_object i y n) (with_outer y v) rest goal does
            (sees_main y n fit (omega (arith, z)) (same y ∙ names_kept more (main_object i y n).scope (with_outer y v) does y p.1 (new y v) ∙ here i y n) (all y ∙ taken_kept more (with_outer y v) y (new y v)) k)
            f p.1 t m.1 same all next,
      )
  main_fits (DeclareVariable x initial more) i v rest goal does k f p t m same all next =
      let y : Entity = VariableOf x in
      let n = width program initial in
      let z = object_size program x in
      let wide = width_is program shown v (object_cells program x) initial p.1 in
      let le = put_room program Row room (taking n i).scope 0 i.scope.free initial m.0 in
      let enough = k.enough in
      let fit : i.scope.free + n ≤ i.cells = omega (arith, le, enough) in (
        k.taken y p.0,
        fit,
        fits_value program globals mains c T (frames_of room) room (λ n. refl) apart names shown shows lent give depth (taking n i) w0 v 0 i.scope.free n initial (sees_taking program names mains T (frames_of room) room n fit k) f.0 (subst (λ n. ScopedValue program shown v n initial) (sym wide) p.1) t.0 m.0,
        main_fits more (main_object i y n) (with_outer y v) rest goal does
            (sees_main y n fit (omega (arith, z, wide)) (same y ∙ names_kept more (main_object i y n).scope (with_outer y v) does y p.2 (new y v) ∙ here i y n) (all y ∙ taken_kept more (with_outer y v) y (new y v)) k)
            f.1 p.2 t.1 m.1 same all next,
      )
  main_fits (DeclareConstant x initial more) i v rest goal does k f p t m same all next =
      let y : Entity = ConstantOf x in
      let n = width program initial in
      let z = object_size program x in
      let wide = width_is program shown v (object_cells program x) initial p.1 in
      let le = put_room program Row room (taking n i).scope 0 i.scope.free initial m.0 in
      let enough = k.enough in
      let fit : i.scope.free + n ≤ i.cells = omega (arith, le, enough) in (
        k.taken y p.0,
        fit,
        fits_value program globals mains c T (frames_of room) room (λ n. refl) apart names shown shows lent give depth (taking n i) w0 v 0 i.scope.free n initial (sees_taking program names mains T (frames_of room) room n fit k) f.0 (subst (λ n. ScopedValue program shown v n initial) (sym wide) p.1) t.0 m.0,
        main_fits more (main_object i y n) (with_outer y v) rest goal does
            (sees_main y n fit (omega (arith, z, wide)) (same y ∙ names_kept more (main_object i y n).scope (with_outer y v) does y p.2 (new y v) ∙ here i y n) (all y ∙ taken_kept more (with_outer y v) y (new y v)) k)
            f.1 p.2 t.1 m.1 same all next,
      )
  main_fits (Mentions es more) i v rest goal does k f p t m same all next = main_fits more i v rest goal does k f.1 p.1 t m same all next

  -- ---- the scope of a subprogram

  -- its formals are in scope, with their cells
  formals_enough : (fs : List Formal) (n : ℕ) (v : Around) (o : Entity → Option Named) → ((y : Entity) → v.object y ≡ true → Named' (o y) (size (object_shape program (number_of y))))
      → (y : Entity) → (with_formals v fs).object y ≡ true → Named' (objects (shapes program fs) n o y) (size (object_shape program (number_of y)))
  formals_enough [] n v o h y e = h y e
  formals_enough (f ∷ fs) n v o h y e =
      let x : Shape = shape_by program f.object f.mode in
      let named : Named = formal_named (n + lead x.back) x.cells in
      formals_enough fs (n + lead x.back + x.cells) (with_object (entity_of f) v) (λ z. cond (entity_eq x.formal z) (Some named) (o z))
      (λ z q. subst (λ a. Named' (cond (entity_eq a z) (Some named) (o z)) (size (object_shape program (number_of z)))) (sym (shape_entity program f)) (also_object program names mains T (frames_of room) room (entity_of f) named (shape_size program f) h z q)) y e

  module _ (k : ℕ) (unit : Sub) (cells : ℕ) where
    abbrev there : Sight
    there = sub_scope program globals mains c.texts text (frames_of room) k unit cells

    abbrev around : Around
    around = with_formals (sub_around program (shown k)) unit.formals

    seen_enough : (y : Entity) → shown k y ≡ true → Named' (globals k y) (size (object_shape program (number_of y)))
    seen_enough y e =
        let (n, is, le) = names_enough program.body.decls (code.main_scope text) outset _ scoped.main (λ z q. absurd (let h : false ≡ true = q in cc)) y (scoped.objects k y e) in
        (n, ap (λ b. cond b (names y) None) e ∙ is, le)

    parameters : (fs : List Formal) (v : Around) (j : ℕ) → (with_formals v fs).parameter j ≡ v.parameter j
    parameters [] v j = refl
    parameters (f ∷ fs) v j = parameters fs (with_object (entity_of f) v) j

    targets : (fs : List Formal) (v : Around) → (with_formals v fs).target ≡ v.target
    targets [] v = refl
    targets (f ∷ fs) v = targets fs (with_object (entity_of f) v)

    no_handler : (fs : List Formal) (v : Around) → (with_formals v fs).handled ≡ v.handled
    no_handler [] v = refl
    no_handler (f ∷ fs) v = no_handler fs (with_object (entity_of f) v)

    sees_sub : shapes_cells (shapes program unit.formals) ≤ cells → room (Rattle.stack_code.specs.declared.code.Around.TheVariants.Sub (k + 1)) ≤ cells → S (at_first (suc k)) around there
    sees_sub free enough = record {
      object = formals_enough unit.formals 0 (sub_around program (shown k)) (globals k) (λ y e. seen_enough y e);
      parameter = λ j e. absurd (true≢false (sym e ∙ parameters unit.formals (sub_around program (shown k)) j));
      item = λ j t e. absurd (none-some t e);
      constant = λ j t e. absurd (none-some t e);
      target = λ n e. absurd (none-some n (sym (targets unit.formals (sub_around program (shown k))) ∙ e));
      handled = λ e. absurd (true≢false (sym e ∙ no_handler unit.formals (sub_around program (shown k))));
      taken = formals_taken program unit.formals (sub_around program (shown k)) mains (λ y e. e);
      free = free;
      enough = enough;
      global = λ y n o e. ap (λ b. cond b (names y) None) (sym (formals_outer program unit.formals (sub_around program (shown k)) y) ∙ o) ∙ e;
      main = λ y e. e;
      text = λ bytes e. e;
      rows = λ n. refl;
    }

  no_exit : (j : Sight) (n : ℕ) → ⊥ → sights.Known j n
  no_exit j n h = absurd h

  module _ (closed : AllClosed program) (stays : OutAll (λ n. ⊥) program.body.stmts × OutHandlers (λ n. ⊥) program.body.handlers) (is : IsCodeOf program text c) (named : AreNamed program text globals) (roomy : HasRoom program text globals Row room) (frame : ℕ) (are : AreFrames c room frame) where
    sub_fits : (k : ℕ) (unit : Sub) (sub : CodeSub) → sub_at program.subs k ≡ Some unit → slice_get c.subs (k + 1) ≡ Some sub
        → SubFits program text globals mains c.texts (frames_of room) (FittedReductions program globals mains lent c depth) (FittedForks program globals mains lent c depth) c k unit sub.frame
    sub_fits k unit sub e at =
        let (sub', at', entry, enough) = is.subs k unit e in
        let same : sub' ≡ sub = some_same sub' sub (sym at' ∙ at) in
        let many : sub'.frame ≡ sub.frame = ap (λ s. s.frame) same in
        let fits = are.subs k sub at in
        let formed' = formed_at program 0 program.subs k unit formed.subs e in
        let z : suc (0 + k) ≡ suc k = omega arith in
        let body' : FormedBody program (suc k) unit.body = subst (λ n. FormedBody program n unit.body) z formed' in
        let p = scoped.subs k unit e in
        let t = tabled.subs k unit e in
        record {
          fresh = λ cells. fresh_all program unit.formals (sub_around program (shown k)) 0 (outer_scope program globals mains c.texts text (frames_of room) k unit cells) (λ y q. q) (scoped.fresh k unit e);
          backs = λ cells. backs_all (shapes program unit.formals) 0 (globals k) (sub_scope program globals mains c.texts text (frames_of room) k unit cells) (apart k unit e) (λ z. refl);
          fitted = λ cells le.
              fits_stmt program globals mains c T (frames_of room) room (λ n. refl) apart names shown shows lent give formed.grounded filled depth (there k unit cells) (at_first (suc k)) (around k unit cells)
              (Block unit.body.decls unit.body.stmts unit.body.handlers) (sees_sub k unit cells (omega (arith, enough, many, le)) (omega (arith, fits, le)))
              (body'.decls, body'.stmts, body'.handlers) p t
              (subst (λ s. Roomy Row room (stmt program s (Block unit.body.decls unit.body.stmts unit.body.handlers))) (sub_scope_same program globals mains c.texts text (frames_of room) k unit cells) (roomy.subs k unit e).0)
              (all_more unit.body.stmts (no_exit (there k unit cells)) (closed k unit e).0, handlers_more unit.body.handlers (no_exit (there k unit cells)) (closed k unit e).1);
        }

    outset_sees : S w0 outset (main_scope program globals mains c.texts text (frames_of room) frame)
    outset_sees = record {
      object = λ y e. absurd (true≢false (sym e));
      parameter = λ j e. absurd (true≢false (sym e));
      item = λ j t e. absurd (none-some t e);
      constant = λ j t e. absurd (none-some t e);
      target = λ n e. absurd (none-some n e);
      handled = λ e. absurd (true≢false (sym e));
      taken = λ y e. e;
      free = omega arith;
      enough = are.main;
      global = λ y n o e. absurd (true≢false (sym o));
      main = λ y e. refl;
      text = λ bytes e. e;
      rows = λ n. refl;
    }

    -- every program that is formed and in scope fits its code
    pub lowered : IsLoweredBy lent program c globals mains c.texts text (frames_of room) frame depth
    lowered = record {
      closed = closed;
      same_texts = refl;
      code = is;
      named = named;
      subs = sub_fits;
      main = main_fits program.body.decls (main_scope program globals mains c.texts text (frames_of room) frame) outset _ _ _ outset_sees formed.body.decls scoped.main tabled.main.0 roomy.main (λ z. refl) (λ z. refl)
          (λ j u see p m. fits_stmt program globals mains c T (frames_of room) room (λ n. refl) apart names shown shows lent give formed.grounded filled depth j w0 u (Block NoDecl program.body.stmts program.body.handlers) see
          (tt, formed.body.stmts, formed.body.handlers) p (tt, tabled.main.1, tabled.main.2) m (all_more program.body.stmts (no_exit j) stays.0, handlers_more program.body.handlers (no_exit j) stays.1));
    }
