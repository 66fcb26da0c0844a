-- A profile, and the main procedure, of what was judged of their parts one after another.
use Rattle.std.proofs.Common.{◌≡◌, refl, sym, ℕ, ◌+◌, Bool, true, false, List, [], ◌∷◌, ◌++◌, Option, Some, None, length}
use Rattle.std.specs.Prelude.{◌&&◌}
use Rattle.syntax_tree.specs.Syntax.{Aspect, Body, Formals, Main, Unit'}
use Rattle.typed_tree.specs.Decoded.{TypedPart, Nothing}
use Rattle.typed_tree.specs.Latest.{pop, top}
use Rattle.name_programs.specs.Forms.{declared_so, profiled, subs_if, whole_by}
use Rattle.name_programs.specs.declared.programs.Sound.{Sound}
use Rattle.name_programs.proofs.SubprogramLevels.{around_up}
use Rattle.name_programs.proofs.Subs.{main_joined}
use Rattle.name_rules.specs.Judges.{part_if}
use Rattle.name_rules.specs.Judging.{joined}
use Rattle.name_rules.specs.Programs.{Declared', aspect, behind, end_name, formals, gives_or, is_function, main, profile, profile_where, result_named, returns_of, taken_or, units, whole}
use Rattle.name_rules.specs.Scope.{free}
use Rattle.name_rules.specs.Statements.{around, body, no_decls, stmt}
use Rattle.name_rules.specs.declared.log.Log.{Log}
use Rattle.name_rules.specs.declared.log.Taken.{Taken}
use Rattle.name_rules.specs.declared.scope.Context.{Context}
use Rattle.name_rules.specs.declared.scope.Names.{Names}
use Rattle.name_rules.specs.declared.scope.Returns.{Returns}
use Rattle.name_rules.specs.declared.types.Scalar.{Scalar}
use Rattle.name_programs.specs.Around.{in_levels}
use Rattle.name_tables.specs.Heads.{subs_of}
use Rattle.name_tables.specs.declared.heads.Head.{Head}

pub profile_is : (names : Names) (start : ℕ) (here : Context) (name : ℕ) (result : Option ℕ) (fs : Option Formals) (l0 l1 l2 l3 l4 : Log)
    (inner outer : Context) (found : Option (List Taken)) (gives : Option (Option Scalar)) (one number : Option ℕ)
    → formals names (is_function result) (record here { owner = length l0.profiles + 1 }) fs l0 ≡ ((inner, found), l1)
    → result_named names inner result l1 ≡ (gives, l2)
    → free names start here name l2 ≡ (one, l3)
    → profile_where names here name one found gives l3 ≡ ((number, outer), l4)
    → profile names start here name result fs l0 ≡ (record { outer = outer; inner = behind outer (length here.scope) inner (length l0.profiles + 1) (returns_of result gives); number = number; takes = taken_or found; gives = gives_or gives }, l4)
unfolding profile
profile_is names start here name result fs l0 l1 l2 l3 l4 inner outer found gives one number e1 e2 e3 e4 = rw e1 (rw e2 (rw e3 (rw e4 refl)))

pub main_is : (names : Names) (n : ℕ) (here : Context) (m : Main) (s z : Bool) (l0 l1 l2 l3 l4 : Log) (d : Declared') (b : Option TypedPart)
    → aspect names here false m.aspect l0 ≡ (z, l1)
    → units names n z (length here.scope) (record { here = here; decls = Some no_decls; subs = Some [] }) m.units l1 ≡ (d, l2)
    → body (around names n (stmt names n)) d.here d.decls m.body l2 ≡ (b, l3)
    → end_name names m.defined m.last_name l3 ≡ (tt, l4)
    → main names n here m s l0 ≡ (joined (whole z s) b d.subs, l4)
unfolding main
main_is names n here m s z l0 l1 l2 l3 l4 d b e1 e2 e3 e4 = rw e1 (rw e2 (rw e3 (rw e4 refl)))

pub profile_so : (names : Names) (start : ℕ) (here : Context) (name : ℕ) (result : Option ℕ) (fs : Option Formals) (l0 l1 l2 l3 l4 : Log)
    (inner outer copy inside : Context) (found : Option (List Taken)) (gives : Option (Option Scalar)) (one number : Option ℕ) (owner before : ℕ) (function : Bool) (returned : Returns) (takes : List Taken) (given : Option Scalar)
    → owner ≡ length l0.profiles + 1
    → before ≡ length here.scope
    → copy ≡ here
    → function ≡ is_function result
    → formals names function (record copy { owner = owner }) fs l0 ≡ ((inner, found), l1)
    → result_named names inner result l1 ≡ (gives, l2)
    → free names start here name l2 ≡ (one, l3)
    → profile_where names here name one found gives l3 ≡ ((number, outer), l4)
    → returned ≡ returns_of result gives
    → inside ≡ behind outer before inner owner returned
    → takes ≡ taken_or found
    → given ≡ gives_or gives
    → profile names start here name result fs l0 ≡ (profiled outer (record { inner = inside; number = number; takes = takes; gives = given }), l4)
profile_so names start here name result fs l0 l1 l2 l3 l4 inner outer copy inside found gives one number owner before function returned takes given ho hb hc hf e1 e2 e3 e4 hr hi ht hg =
    let e5 : formals names (is_function result) (record here { owner = length l0.profiles + 1 }) fs l0 ≡ ((inner, found), l1) = rw (sym hf) (rw (sym hc) (rw (sym ho) e1)) in
    let p = profile_is names start here name result fs l0 l1 l2 l3 l4 inner outer found gives one number e5 e2 e3 e4 in
    rw hi (rw ht (rw hg (rw hr (rw hb (rw ho p)))))

pub main_so : (names : Names) (n : ℕ) (here there : Context) (m : Main) (s z : Bool) (l0 l1 l2 l3 l4 : Log) (at defined : ℕ) (a : Option Aspect) (us : List Unit') (b : Body) (last : Option ℕ) (start up : ℕ) (sound : Sound) (hs0 hs : List Head) (rest ps0 ps1 ps2 : List TypedPart) (held given : Bool)
    → m ≡ record { at = at; defined = defined; aspect = a; units = us; body = b; last_name = last }
    → up ≡ n + 1
    → start ≡ length here.scope
    → aspect names here false a l0 ≡ (z, l1)
    → ps0 ≡ Nothing ∷ rest
    → hs0 ≡ []
    → units names n z start (declared_so here (record { decls = true; subs = true }) hs0 ps0) us l1 ≡ (declared_so there sound hs ps1, l2)
    → body (in_levels names up n) there (part_if sound.decls (top ps1)) b l2 ≡ (part_if held (top ps2), l3)
    → pop ps2 ≡ pop ps1
    → end_name names defined last l3 ≡ (tt, l4)
    → given ≡ held && sound.subs
    → main names n here m s l0 ≡ (whole_by given hs z s ps2, l4)
unfolding subs_of
main_so names n here there m s z l0 l1 l2 l3 l4 at defined a us b last start up sound hs0 hs rest ps0 ps1 ps2 held given hm hu hs' e1 hp hn e2 e3 ht e4 hg =
    let e5 : units names n z (length here.scope) (record { here = here; decls = Some no_decls; subs = Some [] }) us l1 ≡ (declared_so there sound hs ps1, l2) = rw (sym hs') (rw hn at (rw hp at e2)) in
    let e6 : body (around names n (stmt names n)) there (part_if sound.decls (top ps1)) b l2 ≡ (part_if held (top ps2), l3) = rw (sym (around_up names n)) (rw (sym hu) e3) in
    let p = main_is names n here (record { at = at; defined = defined; aspect = a; units = us; body = b; last_name = last }) s z l0 l1 l2 l3 l4 (declared_so there sound hs ps1) (part_if held (top ps2)) e1 e5 e6 e4 in
    let q : joined (whole z s) (part_if held (top ps2)) (subs_if sound.subs hs (pop ps1)) ≡ whole_by (held && sound.subs) hs z s ps2 = rw (sym ht) (main_joined z s held sound.subs hs ps2) in
    rw hm (rw hg (rw (sym q) p))
