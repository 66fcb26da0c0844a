-- Each object that is written lies at the next free cell of its owner.
use Rattle.std.proofs.Common.{◌≡◌, ℕ, ◌+◌, nat_eq, nat_le, nat_lt, List, [], ◌∷◌, ◌++◌, length, length-append, Option, Some, None, Bool, true, false, refl, sym, ap, subst, ◌∙◌, arith, ◌==◌}
use Rattle.std.specs.Prelude.{not, option_map, ◌||◌}
use Rattle.syntax_tree.specs.Syntax as syntax
use Rattle.syntax_tree.specs.Syntax.{Main, Program, Unit'}
use Rattle.typed_tree.specs.Decoded.{TypedPart}
use Rattle.typed_tree.specs.Layout.{LieFrom, after, first_cell}
use Rattle.typed_tree.specs.Syntax as typed
use Rattle.typed_tree.specs.Syntax.{Sub as TypedSub}
use Rattle.typed_tree.specs.declared.program.Object.{Object}
use Rattle.name_rules.specs.Declarations.{cells_counted, first_room, room}
use Rattle.name_rules.specs.Judging.{joined, unless}
use Rattle.name_rules.specs.Programs as p
use Rattle.syntax_tree.specs.Parsed.{depth_limit}
use Rattle.name_rules.specs.Resolved.{fresh, judged, typed_by, typed_where}
use Rattle.name_rules.specs.Limits.{most_cells, most_objects}
use Rattle.name_rules.specs.declared.log.Bound.TheVariants as bound
use Rattle.name_rules.specs.declared.log.Fault.{Fault}
use Rattle.name_rules.specs.Statements.{no_decls}
use Rattle.name_rules.specs.Types.{saturated}
use Rattle.name_rules.specs.declared.log.Log.{Log}
use Rattle.name_rules.specs.declared.log.Rule.{Rule}
use Rattle.name_rules.specs.declared.log.Rule.TheVariants.{Limit}
use Rattle.name_rules.specs.declared.scope.Context.{Context}
use Rattle.name_rules.specs.declared.scope.Names.{Names}
use Rattle.name_symbols.specs.Naming.{names_of, one_sub, sub_count}
use Rattle.name_laws.proofs.KeepsPrograms.{k-program}
use Rattle.name_laws.proofs.Sides.{apart, begins_above, own_cells}
use Rattle.name_laws.proofs.Walk.{Wide}
use Rattle.name_laws.specs.Cells.{CellsLaw, IsTyped}

-- ---- the room behind the objects of an owner is the next free cell

after-here : (o : Object) (free : ℕ → ℕ) (owner : ℕ) (b : Bool) → nat_eq owner o.owner ≡ b → o.offset ≡ free o.owner
    → (os : List Object) → room (free owner) owner (o ∷ os) ≡ room (after o free owner) owner os
after-here o free owner true e l os =
    let same : owner ≡ o.owner = grind (arith, e) in
    let z : after o free owner ≡ free owner + o.cells = grind (arith, e, l, same) in
    let y : (o.owner == owner) ≡ true = grind (arith, same) in
    rw (y, z)
after-here o free owner false e l os =
    let z : after o free owner ≡ free owner = grind (arith, e) in
    let y : (o.owner == owner) ≡ false = grind (arith, e) in
    rw (y, z)

-- one more at the end
lies-on : (os : List Object) (free : ℕ → ℕ) (o : Object) → LieFrom free os → o.offset ≡ room (free o.owner) o.owner os → LieFrom free (os ++ o ∷ [])
lies-on [] free o l e = (e, tt)
lies-on (x ∷ os) free o l e = (l.0, lies-on os (after x free) o l.1 (e ∙ after-here x free o.owner (nat_eq o.owner x.owner) refl l.0 os))

first-cells : (names : Names) (subs owner : ℕ) → names.subs ≡ subs → first_room names owner ≡ first_cell subs owner
first-cells names subs owner e = rw (← e) grind arith

-- ---- what lies well does so after whatever is judged

unless-objects : (b : Bool) (at : ℕ) (rule : Rule) (log : Log) → (unless b at rule log).1.objects ≡ log.objects
unless-objects true at rule log = refl
unless-objects false at rule log = refl

counted-objects : (token cells : ℕ) (log : Log) → (cells_counted token cells log).1.objects ≡ log.objects
counted-objects token cells log =
    let all = saturated (log.cells + cells) in
    let now = record log { declared = log.declared + 1; cells = all } in
    let mid = (unless (not (log.declared == most_objects)) token (Limit bound.Objects) now).1 in
    unless-objects (nat_lt most_cells log.cells || nat_le all most_cells) token (Limit bound.Cells) mid ∙ unless-objects (not (log.declared == most_objects)) token (Limit bound.Objects) now

lying : ℕ → Wide
lying subs = record {
  walk = record {
    Takes = λ names. names.subs ≡ subs;
    R = λ a b. LieFrom (first_cell subs) a.objects → LieFrom (first_cell subs) b.objects;
    stays = λ log h. h;
    joins = λ a b c f g h. g (f h);
    breaks = λ at rule log h. h;
    scalar = λ s log h. h;
    counted = λ token cells log h. subst (LieFrom (first_cell subs)) (sym (counted-objects token cells log)) h;
    exception = λ token log h. h;
    site = λ here at k log h. h;
    parameter = λ log h. h;
    loop = λ log h. h;
  };
  shape = λ t log h. h;
  object = λ names here token s n cells constant value e f log i h.
      lies-on log.objects (first_cell subs) _ h (ap (λ f. room f here.owner log.objects) (first-cells names subs here.owner e));
}

all-lie : (names : Names) (text : Program) (subs : ℕ) → names.subs ≡ subs → LieFrom (first_cell subs) (judged names text).1.objects
unfolding judged lying
all-lie names text subs e = (k-program (lying subs) names depth_limit text e (record { profile = λ ts s log h. h })).at fresh tt

-- ---- as many subprograms as the text has

HasLength : {A : Type 0} → Option (List A) → ℕ → Type 0
HasLength None k = Unit {0}
HasLength (Some xs) k = length xs ≡ k

one-more : (ss : Option (List TypedSub)) (s : Option TypedSub) (k : ℕ) → HasLength ss k → HasLength (joined p.also_sub ss s) (k + 1)
unfolding HasLength
one-more None s k h = tt
one-more (Some ss) None k h = tt
one-more (Some ss) (Some s) k h = length-append ss (s ∷ []) ∙ ap (λ n. n + 1) h

unit-subs : (names : Names) (n : ℕ) (blocking : Bool) (start : ℕ) (d : p.Declared') (u : Unit') (log : Log) (k : ℕ)
    → HasLength d.subs k → HasLength (p.unit_of names n blocking start d u log).0.subs (k + one_sub u)
unit-subs names n blocking start d (syntax.DeclUnit x) log k h = subst (HasLength d.subs) (omega arith) h
unit-subs names n blocking start d (syntax.SubUnit s) log k h = one-more d.subs _ k h

units-subs : (names : Names) (n : ℕ) (blocking : Bool) (start : ℕ) (d : p.Declared') (us : List Unit') (log : Log) (k : ℕ)
    → HasLength d.subs k → HasLength (p.units names n blocking start d us log).0.subs (k + sub_count us)
units-subs names n blocking start d [] log k h = subst (HasLength d.subs) (omega arith) h
units-subs names n blocking start d (u ∷ us) log k h =
    let r = p.unit_of names n blocking start d u log in
    subst (HasLength (p.units names n blocking start r.0 us r.1).0.subs) (omega arith)
    (units-subs names n blocking start r.0 us r.1 (k + one_sub u) (unit-subs names n blocking start d u log k h))

subs_of : Option p.Whole → List TypedSub
subs_of None = []
subs_of (Some w) = w.subs

whole-subs : (z s : Bool) (x : Option TypedPart) (ss : Option (List TypedSub)) (k : ℕ) (w : p.Whole) → HasLength ss k → joined (p.whole z s) x ss ≡ Some w → length w.subs ≡ k
unfolding HasLength subs_of
whole-subs z s (Some x) (Some ss) k w h e = ap (λ o. length (subs_of o)) (sym e) ∙ h
whole-subs z s (Some x) None k w h e = absurd cc
whole-subs z s None ss k w h e = absurd cc

main-subs : (names : Names) (n : ℕ) (here : Context) (m : Main) (s : Bool) (log : Log) (w : p.Whole) → (p.main names n here m s log).0 ≡ Some w → length w.subs ≡ sub_count m.units
unfolding p.main HasLength
main-subs names n here m s log w e =
    let z = p.aspect names here false m.aspect log in
    let around : p.Declared' = record { here = here; decls = Some no_decls; subs = Some [] } in
    whole-subs z.0 s _ _ (0 + sub_count m.units) w (units-subs names n z.0 (length here.scope) around m.units z.1 0 refl) e ∙ omega arith

program-subs : (names : Names) (text : Program) (w : p.Whole) → (judged names text).0 ≡ Some w → length w.subs ≡ sub_count text.main.units
unfolding judged p.program
program-subs names text w e = main-subs names depth_limit _ text.main _ _ w e

pub typed-from : (fs : List Fault) (log : Log) (o : Option p.Whole) (t : typed.Program) → typed_where fs (option_map (typed_by log) o) ≡ Some t
    → (w : p.Whole) × (o ≡ Some w) × (typed_by log w ≡ t)
typed-from [] log (Some w) t e = (w, refl, cc)
typed-from [] log None t e = absurd cc
typed-from (f ∷ fs) log o t e = absurd cc

-- ---- the law

same-subs : (names : Names) (text : Program) (program : typed.Program) → IsTyped names text program → length program.subs ≡ sub_count text.main.units
same-subs names text program h =
    let r = typed-from (judged names text).1.faults (judged names text).1 (judged names text).0 program h.typed in
    ap (λ t. length t.subs) (sym r.2) ∙ program-subs names text r.0 r.1

lie : (names : Names) (text : Program) (program : typed.Program) → IsTyped names text program → LieFrom (first_cell (length program.subs)) program.objects
lie names text program h =
    let r = typed-from (judged names text).1.faults (judged names text).1 (judged names text).0 program h.typed in
    subst (λ os. LieFrom (first_cell (length program.subs)) os) (ap (λ t. t.objects) r.2)
    (all-lie names text (length program.subs) (h.counted ∙ sym (same-subs names text program h)))

pub cells_law : CellsLaw
unfolding names_of
cells_law = record {
  counted = λ t text. refl;
  lie = lie;
  apart = λ names text program h i j a b e f differ s cell k m. apart program.objects (first_cell (length program.subs)) i j a b (lie names text program h) e f differ s cell k m;
  threads = λ names text program h i a e less. omega (arith, begins_above program.objects (first_cell (length program.subs)) i a (lie names text program h) e, own_cells (length program.subs) a.owner less);
  subs = same-subs;
}
