-- From the parts of the code of a program to the whole.
use Rattle.std.proofs.Common.{◌≡◌, ◌+◌, ◌∙◌, ℕ, suc, List, [], ◌∷◌, ◌++◌, length, drop, refl, sym, ap, subst, arith}
use Rattle.std.specs.Prelude.{false, get_or, map, replicate, slice_get, Some, None}
use Rattle.std.proofs.lemmas.List.{append_assoc, append-nil, length-append}
use Rattle.behaviours.specs.Paths.{VariableOf, ConstantOf}
use Rattle.typed_tree.specs.declared.program.Site.{Site}
use Rattle.typed_tree.specs.declared.program.Sub as tree-sub
use Rattle.typed_tree.specs.declared.typed.Typed.{Typed}
use Rattle.typed_tree.specs.Programs.{program, sub_of}
use Rattle.typed_tree.specs.Decoded.{body_at}
use Rattle.typed_tree.specs.Syntax.{Sub, Program, Body, Decls, NoDecl, DeclareDefault, DeclareVariable, DeclareConstant, Mentions}
use Rattle.ada_meaning.specs.Meaning.{object_layout}
use Rattle.stack_code.specs.declared.code.Around.TheVariants as body
use Rattle.stack_code.specs.declared.code.Code.{Code}
use Rattle.stack_code.specs.declared.code.CodeSite.{CodeSite}
use Rattle.stack_code.specs.declared.code.CodeSub.{CodeSub}
use Rattle.stack_code.specs.declared.code.Lease.{Lease}
use Rattle.lower_emission.specs.declared.types.Need.{Need}
use Rattle.lower_emission.specs.declared.types.Placed.{Placed}
use Rattle.lower_emission.specs.Bodies.{main_declared, main_object, main_scope, program_code, sub_code, sub_scope}
use Rattle.lower_emission.specs.Bodies as bodies
use Rattle.lower_emission.specs.Emission.{put_into, shapes, shapes_cells, width}
use Rattle.lower_emission.specs.Emits.{Emit, written, listed}
use Rattle.lower_emission.specs.Laws.{WrittenLaw}
use Rattle.lower_emission.specs.Programs.{all_subs, at_least, behind, behind_main, code_by, code_of, code_sites, code_sub, code_subs, fork_from, has_result, main_end, main_halts, needed, site_by, sub_by, sub_entry, sub_place, text_in}
use Rattle.lower_emission.specs.Scope.{Scope, taking}
use Rattle.lower_emission.specs.Tables.{instrs_from, spots_from, unwinds_from}
use Rattle.lower_emission.specs.Statements.{defaulted}
use Rattle.lower_emission.specs.Texts.{place, texts_of}
use Rattle.lower_code.specs.declared.body_tables.Begun.{Begun}
use Rattle.lower_code.specs.declared.body_tables.Start.{Start}
use Rattle.lower_code.specs.BodyTables.{each, fork_flags, fresh, site_after, site_with, sites_from, sub_after, sub_table, sub_with, subs_by}
use Rattle.lower_values.specs.Words.{program_of}
use Rattle.lower_code.specs.declared.lowering.Laid.{Laid}
use Rattle.lower_code.specs.Idle.{missing}
use Rattle.lower_code.specs.Lowered.{Lays, tabled}
use Rattle.lower_code.specs.Starts.{main_starts, sub_start, subs_starts}
use Rattle.lower_code.proofs.Missing.{whole_law}
use Rattle.lower_code.proofs.Programs.{program_law}
use Rattle.lower_code.proofs.Texts.{drop_at, none_past}

-- ---- what bodies need

abbrev sub_of_start : Start → CodeSub
sub_of_start s = sub_by s.entry s.need s.gives

sub_needs : (c : List Placed) (k : ℕ) (s : Start) → sub_after c k s ≡ record { entry = s.entry; need = needed (body.Sub k) s.need c; gives = s.gives }
sub_needs [] k s = refl
sub_needs (p ∷ ps) k s = sub_needs ps k (sub_with p k s)

site_needs : (at : ℕ) (c : List Placed) (k : ℕ) (b : Begun) → site_after at c k b ≡ record { fork = fork_from k b.fork at c; need = needed (body.Site k) b.need c }
site_needs at [] k b = refl
site_needs at (p ∷ ps) k b = site_needs (at + 1) ps k (site_with at p k b)

sites_are : (c : List Placed) (leases : List (List Lease)) (k : ℕ) (xs : List Site) →
    sites_from leases k (each (λ k b. site_after 0 c k b) k (replicate (length xs) fresh)) ≡ code_sites c (λ site. get_or leases site []) k xs
sites_are c leases k [] = refl
sites_are c leases k (x ∷ xs) =
    ap (λ b. site_by b.fork b.need (get_or leases k []) ∷ sites_from leases (k + 1) (each (λ k b. site_after 0 c k b) (k + 1) (replicate (length xs) fresh))) (site_needs 0 c k fresh)
    ∙ ap (λ l. site_by (fork_from k fresh.fork 0 c) (needed (body.Site k) fresh.need c) (get_or leases k []) ∷ l) (sites_are c leases (k + 1) xs)

-- ---- where bodies begin

written_length : WrittenLaw → (e : Emit) (c : List Placed) → length (written e c) ≡ length c + length (listed e (length c))
written_length law e c = ap length (law e c) ∙ length-append c (listed e (length c))

module _ (law : WrittenLaw) (program : Program) (text : List ℕ → ℕ) (c : List Placed) where
  subs_are : (t : Scope) (j : ℕ) (more : List Sub) (c0 : List Placed) → ((i : ℕ) → sub_entry program text (j + i) ≡ sub_place program t j more i (length c0)) →
      subs_by (each (λ k s. sub_after c k s) (j + 1) (subs_starts program t j more c0)) ≡ code_subs program text c j more
  subs_are t j [] c0 h = refl
  subs_are t j (unit ∷ more) c0 h =
      let start : Need = at_least (shapes_cells (shapes program unit.formals)) in
      let code : Emit = sub_code program (sub_scope program t j unit) unit in
      let here : sub_entry program text j ≡ length c0 = ap (sub_entry program text) (let z : j ≡ j + 0 = omega arith in z) ∙ h 0 in
      let first : sub_of_start (sub_after c (j + 1) (sub_start program unit c0)) ≡ code_sub program text c j unit =
      ap sub_of_start (sub_needs c (j + 1) (sub_start program unit c0)) ∙ ap (λ e. sub_by e (needed (body.Sub (j + 1)) start c) (has_result unit.result)) (sym here) in
      let rest : subs_by (each (λ k s. sub_after c k s) (j + 1 + 1) (subs_starts program t (j + 1) more (written code c0))) ≡ code_subs program text c (j + 1) more =
      subs_are t (j + 1) more (written code c0) (λ i. ap (sub_entry program text) (let z : j + 1 + i ≡ j + suc i = omega arith in z) ∙ (h (suc i) ∙ ap (sub_place program t (j + 1) more i) (sym (written_length law code c0)))) in
      ap (λ x. x ∷ subs_by (each (λ k s. sub_after c k s) (j + 1 + 1) (subs_starts program t (j + 1) more (written code c0)))) first ∙ ap (λ l. code_sub program text c j unit ∷ l) rest

  -- what is written before the first subprogram
  pub record Before (s : Scope) (decls : Decls) (c0 : List Placed) : Type 0 where
    pub code : List Placed
    pub starts : main_starts program s decls c0 ≡ subs_starts program (behind program s decls) 0 program.subs code
    pub ends : length code ≡ main_end program s decls (length c0)

  before_subs : (decls : Decls) (s : Scope) (c0 : List Placed) → Before s decls c0
  before_subs NoDecl s c0 = record { code = written (main_halts program s) c0; starts = refl; ends = written_length law (main_halts program s) c0 }
  before_subs (DeclareDefault x more) s c0 =
      let e : Emit = defaulted program s s.free x in
      let t : Scope = main_object s (VariableOf x) (length (object_layout program x)) in
      let r = before_subs more t (written e c0) in
      record { code = r.code; starts = r.starts; ends = r.ends ∙ ap (main_end program t more) (written_length law e c0) }
  before_subs (DeclareVariable x initial more) s c0 =
      let e : Emit = put_into program (taking (width program initial) s) 0 s.free initial in
      let t : Scope = main_object s (VariableOf x) (width program initial) in
      let r = before_subs more t (written e c0) in
      record { code = r.code; starts = r.starts; ends = r.ends ∙ ap (main_end program t more) (written_length law e c0) }
  before_subs (DeclareConstant x initial more) s c0 =
      let e : Emit = put_into program (taking (width program initial) s) 0 s.free initial in
      let t : Scope = main_object s (ConstantOf x) (width program initial) in
      let r = before_subs more t (written e c0) in
      record { code = r.code; starts = r.starts; ends = r.ends ∙ ap (main_end program t more) (written_length law e c0) }
  before_subs (Mentions es more) s c0 = let r = before_subs more s c0 in record { code = r.code; starts = r.starts; ends = r.ends }

  abbrev main_begins : Start
  main_begins = record { entry = 0; need = at_least 0; gives = false }

  all_are : sub_table c (main_begins ∷ main_starts program (main_scope text) program.body.decls []) ≡ all_subs program text c
  all_are =
      let r = before_subs program.body.decls (main_scope text) [] in
      let entries : (i : ℕ) → sub_entry program text (0 + i) ≡ sub_place program (behind_main program text) 0 program.subs i (length r.code) =
      λ i. ap (sub_entry program text) (let z : 0 + i ≡ i = omega arith in z) ∙ ap (sub_place program (behind_main program text) 0 program.subs i) (sym r.ends) in
      ap (λ x. sub_of_start x ∷ subs_by (each (λ k s. sub_after c k s) 1 (main_starts program (main_scope text) program.body.decls []))) (sub_needs c 0 main_begins)
      ∙ ap (λ l. sub_by 0 (needed (body.Sub 0) (at_least 0) c) false ∷ l) (ap (λ l. subs_by (each (λ k s. sub_after c k s) 1 l)) r.starts ∙ subs_are (behind_main program text) 0 program.subs r.code entries)

-- ---- the whole

abbrev with_parts : Program → List Placed → List CodeSite → List CodeSub → Code
with_parts program c sites subs = record { instrs = instrs_from c 0 c; spots = spots_from None 0 c; unwind = unwinds_from c None 0 c; sites = sites; subs = subs; texts = texts_of program }

at_texts : WrittenLaw → (program : Program) (leases : List (List Lease)) (laid : Laid) → Lays program (texts_of program) laid → tabled program laid (texts_of program) leases ≡ code_of program (λ site. get_or leases site [])
at_texts law program leases laid l =
    let subs : sub_table laid.code laid.subs ≡ all_subs program (text_in program) laid.code = ap (sub_table laid.code) l.1 ∙ all_are law program (text_in program) laid.code in
    ap (λ x. with_parts program laid.code x (sub_table laid.code laid.subs)) (sites_are laid.code leases 0 program.sites)
    ∙ (ap (with_parts program laid.code (code_sites laid.code (λ site. get_or leases site []) 0 program.sites)) subs
    ∙ ap (λ c. code_by program c (λ site. get_or leases site [])) l.0)

pub lowered_by : WrittenLaw → (program : Program) (leases : List (List Lease)) (texts : List (List ℕ)) (laid : Laid) (code : Code) → texts ≡ texts_of program → Lays program texts laid → code ≡ tabled program laid texts leases →
    code ≡ code_of program (λ site. get_or leases site [])
lowered_by law program leases texts laid code e l f =
    f ∙ (ap (λ x. tabled program laid x leases) e ∙ at_texts law program leases laid (subst (λ x. Lays program x laid) e l))

-- ---- one subprogram after another

pub starts_kept : (t : Typed) (s : Scope) (k n : ℕ) (sub : tree-sub.Sub) (c0 c1 c2 : List Placed) (old new all : List Start) → slice_get (map (sub_of t.nodes) t.subs) k ≡ Some (sub_of t.nodes sub) → (c2 ≡ c1) × (n ≡ k + 1) →
    c1 ≡ written (sub_code (program_of t) (sub_scope (program_of t) s k (sub_of t.nodes sub)) (sub_of t.nodes sub)) c0 → new ≡ old ++ sub_start (program_of t) (sub_of t.nodes sub) c0 ∷ [] →
    old ++ subs_starts (program_of t) s k (drop k (program_of t).subs) c0 ≡ all → new ++ subs_starts (program_of t) s n (drop n (program_of t).subs) c2 ≡ all
unfolding program_of
starts_kept t s k n sub c0 c1 c2 old new all e f g m h =
    let subs = map (sub_of t.nodes) t.subs in
    let unit = sub_of t.nodes sub in
    rw (f.1, f.0, g, m) (append_assoc old (sub_start (program t) unit c0 ∷ []) (subs_starts (program t) s (k + 1) (drop (k + 1) subs) (written (sub_code (program t) (sub_scope (program t) s k unit) unit) c0))
    ∙ (ap (λ l. old ++ subs_starts (program t) s k l c0) (sym (drop_at subs k unit e)) ∙ h))

pub starts_last : (t : Typed) (s : Scope) (k : ℕ) (c : List Placed) (all : List Start) → slice_get (map (sub_of t.nodes) t.subs) k ≡ None → all ++ subs_starts (program_of t) s k (drop k (program_of t).subs) c ≡ all
unfolding program_of
starts_last t s k c all e = ap (λ l. all ++ subs_starts (program t) s k l c) (none_past (map (sub_of t.nodes) t.subs) k e) ∙ append-nil all

-- what is laid out behind nothing

pub laid_by : WrittenLaw → (t : Typed) (texts : List (List ℕ)) (b : Body) (laid : Laid) (c0 c1 : List Placed) (s0 : List Start) → body_at t.nodes t.body ≡ b → c0 ≡ [] → s0 ≡ record { entry = 0; need = at_least 0; gives = false } ∷ [] →
    c1 ≡ written (main_declared (program_of t) (main_scope (λ bytes. place texts bytes)) b.decls (bodies.behind_main (program_of t))) c0 →
    laid.subs ≡ s0 ++ main_starts (program_of t) (main_scope (λ bytes. place texts bytes)) b.decls c0 →
    laid.code ≡ written (missing (main_scope (λ bytes. place texts bytes)) 0 (fork_flags c1 (length (program_of t).sites))) c1 → Lays (program_of t) texts laid
unfolding program_of
laid_by law t texts b laid c0 c1 s0 e f m g h k = (
  whole_law law (program_code (program t) (λ bytes. place texts bytes)) (main_scope (λ bytes. place texts bytes)) (program t).sites c1 laid.code (program_law law t (λ bytes. place texts bytes) b c0 c1 e f g) k,
  h ∙ (ap (λ c. s0 ++ main_starts (program t) (main_scope (λ bytes. place texts bytes)) b.decls c) f ∙ (ap (λ l. l ++ main_starts (program t) (main_scope (λ bytes. place texts bytes)) b.decls []) m
      ∙ ap (λ x. record { entry = 0; need = at_least 0; gives = false } ∷ main_starts (program t) (main_scope (λ bytes. place texts bytes)) x.decls []) (sym e))),
)

pub sites_of_typed : (t : Typed) → (program_of t).sites ≡ t.sites
unfolding program_of
sites_of_typed t = refl
