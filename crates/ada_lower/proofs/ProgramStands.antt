-- A program's code has the main procedure's code and that of each subprogram, where they are listed.
use Rattle.std.proofs.Common.{◌≡◌, ℕ, zero, suc, ◌+◌, List, [], ◌∷◌, length, Option, Some, Bool, refl, sym, ap, ◌∙◌, subst, arith}
use Rattle.std.proofs.lemmas.Option.{none-some}
use Rattle.behaviours.specs.Paths.{Entity, VariableOf, ConstantOf}
use Rattle.typed_tree.specs.Syntax.{Expr, Stmt, Sub, Program, Decls, NoDecl, DeclareDefault, DeclareVariable, DeclareConstant, Mentions}
use Rattle.ada_meaning.specs.Meaning.{sub_at, object_layout}
use Rattle.ada_meaning.proofs.Cells.{some_same}
use Rattle.stack_code.specs.declared.code.Around.TheVariants as around
use Rattle.stack_code.specs.declared.code.Code.{Code}
use Rattle.stack_code.specs.declared.instr.Instr.TheVariants as i
use Rattle.lower_emission.specs.Scope as scope
use Rattle.lower_emission.specs.Bodies as code
use Rattle.lower_emission.specs.Programs.{idle_forks}
use Rattle.ada_lower.specs.Sights.{Emit, Lies, Named, Scope, Sight, Stands, listed, one, ◌⨟◌}
use Rattle.ada_lower.specs.Emission.{put_into, width, defaulted, Shape, lead, shapes, shapes_cells, stmt}
use Rattle.ada_lower.specs.Bodies.{formal_named, objects, leaving_of, sub_scope, sub_code, AllStand, main_scope, main_declared, main_body, main_code}
use Rattle.ada_lower.specs.ProgramCode.{behind, main_halts, main_end, sub_place, behind_main, sub_entry, whole_code, AreNamed, IsCodeOf, AllFit}
use Rattle.ada_lower.proofs.Standing.{lies_end, stands_seq, stands_join}
use Rattle.ada_lower.proofs.Listed.{stands_listed}

-- ---- the scope of a subprogram

placed_same : (hs : List Shape) (n : ℕ) (s : Scope) → ◌≡◌ {A = Scope} (record s { object = λ z. objects hs n s.object z }) (code.placed hs n s)
placed_same [] n s = refl
placed_same (h ∷ hs) n s = placed_same hs (n + lead h.back + h.cells) (scope.with_object h.formal (formal_named (n + lead h.back) h.cells) s)

module _ (program : Program) where
  -- declarations change names and what is free
  behind_is : (decls : Decls) (s : Scope) → ◌≡◌ {A = Scope} (behind program s decls) (record s { object = (behind program s decls).object; free = (behind program s decls).free })
  behind_is NoDecl s = refl
  behind_is (DeclareDefault x more) s = behind_is more (code.main_object s (VariableOf x) (length (object_layout program x)))
  behind_is (DeclareVariable x initial more) s = behind_is more (code.main_object s (VariableOf x) (width program initial))
  behind_is (DeclareConstant x initial more) s = behind_is more (code.main_object s (ConstantOf x) (width program initial))
  behind_is (Mentions es more) s = behind_is more s

  module _ (globals : ℕ → Entity → Option Named) (mains : Entity → Bool) (texts : List (List ℕ)) (text : List ℕ → ℕ) (frames : ℕ → ℕ) where
    pub sub_scope_same : (k : ℕ) (unit : Sub) (cells : ℕ) → ◌≡◌ {A = Scope} (code.sub_scope program (record (behind_main program text) { object = globals k }) k unit) (sub_scope program globals mains texts text frames k unit cells).scope
    sub_scope_same k unit cells =
        let hs : List Shape = shapes program unit.formals in
        ap (λ t. code.placed hs 0 (record t { object = globals k; free = shapes_cells hs; leaving = leaving_of unit.result; body = around.Sub (k + 1) })) (behind_is program.body.decls (code.main_scope text))
        ∙ sym (placed_same hs 0 _)

    module _ (c : Code) where
      -- ---- the main procedure

      pub record MainStands (s : Scope) (decls : Decls) (from to : ℕ) : Type 0 where
        pub mid : ℕ
        pub place : mid ≡ main_end program s decls from
        pub main : Stands c (main_declared program globals mains texts text frames s decls (λ t. stmt program t (main_body program globals mains texts text frames)) ⨟ one s 0 i.Halt) from mid
        pub subs : Stands c (code.subs_code program (behind program s decls) 0 program.subs) mid to

      -- a part in front
      behind_part : (s t : Scope) (decls more : Decls) (a : Emit) (from to : ℕ) → s.entry ≡ t.entry → behind program s decls ≡ behind program t more → ((q : ℕ) → main_end program s decls q ≡ main_end program t more (q + length (listed a q)))
          → main_declared program globals mains texts text frames s decls (λ t. stmt program t (main_body program globals mains texts text frames)) ≡ (a ⨟ main_declared program globals mains texts text frames t more (λ t. stmt program t (main_body program globals mains texts text frames)))
          → (m : ℕ) → Stands c a from m → MainStands t more m to → MainStands s decls from to
      behind_part s t decls more a from to entry scopes ends parts m l w =
          let md : Emit = main_declared program globals mains texts text frames t more (λ t. stmt program t (main_body program globals mains texts text frames)) in
          let (n, l1, (halt, z)) = stands_seq c m w.mid md (one t 0 i.Halt) w.main in
          record {
            mid = w.mid;
            place = w.place ∙ ap (λ q. main_end program t more q) (lies_end c from (listed a from) m l) ∙ sym (ends from);
            main = subst (λ e. Stands c (e ⨟ one s 0 i.Halt) from w.mid) (sym parts)
                (stands_join c from n w.mid (a ⨟ md) (one s 0 i.Halt) (stands_join c from m n a md l l1) (subst (λ e. Rattle.ada_lower.specs.Driven.At c n i.Halt e) (sym entry) halt, z));
            subs = subst (λ u. Stands c (code.subs_code program u 0 program.subs) w.mid to) (sym scopes) w.subs;
          }

      main_stands : (decls : Decls) (s : Scope) (from to : ℕ) → Stands c (code.main_declared program s decls (λ t. code.behind_main program t)) from to → MainStands s decls from to
      main_stands NoDecl s from to l =
          let (m, l1, l2) = stands_seq c from to (main_halts program s) (code.subs_code program s 0 program.subs) l in
          record { mid = m; place = lies_end c from (listed (main_halts program s) from) m l1; main = l1; subs = l2 }
      main_stands (DeclareDefault x more) s from to l =
          let a : Emit = defaulted program s s.free x in
          let t : Scope = code.main_object s (VariableOf x) (length (object_layout program x)) in
          let (m, l1, l2) = stands_seq c from to a (code.main_declared program t more (λ t. code.behind_main program t)) l in
          behind_part s t (DeclareDefault x more) more a from to refl refl (λ q. refl) refl m l1 (main_stands more t m to l2)
      main_stands (DeclareVariable x initial more) s from to l =
          let a : Emit = put_into program (scope.taking (width program initial) s) 0 s.free initial in
          let t : Scope = code.main_object s (VariableOf x) (width program initial) in
          let (m, l1, l2) = stands_seq c from to a (code.main_declared program t more (λ t. code.behind_main program t)) l in
          behind_part s t (DeclareVariable x initial more) more a from to refl refl (λ q. refl) refl m l1 (main_stands more t m to l2)
      main_stands (DeclareConstant x initial more) s from to l =
          let a : Emit = put_into program (scope.taking (width program initial) s) 0 s.free initial in
          let t : Scope = code.main_object s (ConstantOf x) (width program initial) in
          let (m, l1, l2) = stands_seq c from to a (code.main_declared program t more (λ t. code.behind_main program t)) l in
          behind_part s t (DeclareConstant x initial more) more a from to refl refl (λ q. refl) refl m l1 (main_stands more t m to l2)
      main_stands (Mentions es more) s from to l =
          let w = main_stands more s from to l in record { mid = w.mid; place = w.place; main = w.main; subs = w.subs }

      -- ---- subprograms

      subs_stand : (t : Scope) (subs : List Sub) (n k from to : ℕ) (unit : Sub) → sub_at subs k ≡ Some unit → Stands c (code.subs_code program t n subs) from to
          → (end : ℕ) × Stands c (code.sub_code program (code.sub_scope program t (n + k) unit) unit) (sub_place program t n subs k from) end
      subs_stand t [] n k from to unit e l = absurd (none-some unit e)
      subs_stand t (u ∷ more) n zero from to unit e l =
          let (m, l1, l2) = stands_seq c from to (code.sub_code program (code.sub_scope program t n u) u) (code.subs_code program t (n + 1) more) l in
          let z : n ≡ n + 0 = omega arith in
          (m, subst (λ j. Stands c (code.sub_code program (code.sub_scope program t j unit) unit) from m) z (subst (λ u. Stands c (code.sub_code program (code.sub_scope program t n u) u) from m) (some_same u unit e) l1))
      subs_stand t (u ∷ more) n (suc k) from to unit e l =
          let a : Emit = code.sub_code program (code.sub_scope program t n u) u in
          let (m, l1, l2) = stands_seq c from to a (code.subs_code program t (n + 1) more) l in
          let z : n + 1 + k ≡ n + suc k = omega arith in
          let (end, w) = subs_stand t more (n + 1) k (from + length (listed a from)) to unit e (subst (λ q. Stands c (code.subs_code program t (n + 1) more) q to) (lies_end c from (listed a from) m l1) l2) in
          (end, subst (λ j. Stands c (code.sub_code program (code.sub_scope program t j unit) unit) (sub_place program t (n + 1) more k (from + length (listed a from))) end) z w)

      module _ (is : IsCodeOf program text c) (named : AreNamed program text globals) where
        -- the code of bodies, in front of what no run comes to
        bodies : (to : ℕ) × Stands c (code.program_code program text) 0 to
        bodies = let (m, l, r) = stands_seq c 0 (length (listed (whole_code program text) 0)) (code.program_code program text) (idle_forks (code.main_scope text) (listed (code.program_code program text) 0) 0 program.sites) (stands_listed c (whole_code program text) is.lists) in (m, l)

        whole : MainStands (code.main_scope text) program.body.decls 0 bodies.0
        whole = main_stands program.body.decls (code.main_scope text) 0 bodies.0 bodies.1

        -- where the main procedure's code ends
        pub main_to : ℕ
        main_to = whole.mid

        pub main_there : (cells : ℕ) → Stands c (main_code program globals mains texts text frames (main_scope program globals mains texts text frames cells).scope) 0 main_to
        unfolding main_to
        main_there cells = whole.main

        sub_there : (k : ℕ) (unit : Sub) → sub_at program.subs k ≡ Some unit → (end : ℕ) × ((cells : ℕ) → Stands c (sub_code program globals mains texts text frames (sub_scope program globals mains texts text frames k unit cells).scope unit) (sub_entry program text k) end)
        sub_there k unit e =
            let l = subst (λ q. Stands c (code.subs_code program (behind_main program text) 0 program.subs) q bodies.0) whole.place whole.subs in
            let (end, w) = subs_stand (behind_main program text) program.subs 0 k (main_end program (code.main_scope text) program.body.decls 0) bodies.0 unit e l in
            let z : 0 + k ≡ k = omega arith in (
              end,
              λ cells. subst (λ s. Stands c (code.sub_code program s unit) (sub_entry program text k) end) (sub_scope_same k unit cells)
                  (subst (λ ps. Lies c (sub_entry program text k) ps end) (named.same k unit e (sub_entry program text k))
                  (subst (λ j. Stands c (code.sub_code program (code.sub_scope program (behind_main program text) j unit) unit) (sub_entry program text k) end) z w)),
            )

        -- every subprogram stands in the code
        pub all_stand : (epar : Sight → Expr → Type 0) (par : Sight → Stmt → Type 0) → AllFit program text globals mains texts frames epar par c → AllStand program globals mains texts text frames epar par c
        all_stand epar par fit k unit e =
            let (sub, at, entry, enough) = is.subs k unit e in
            let (end, w) = sub_there k unit e in
            let f = fit k unit sub e at in
            record {
              is = sub;
              here = at;
              to = end;
              enough = enough;
              fresh = f.fresh;
              backs = f.backs;
              stands = λ cells le. subst (λ q. Stands c (sub_code program globals mains texts text frames (sub_scope program globals mains texts text frames k unit cells).scope unit) q end) (sym entry) (w cells);
              fitted = f.fitted;
            }
