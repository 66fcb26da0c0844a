-- The code of a statement does what the statement does.
use Rattle.std.proofs.Common.{◌≡◌, ℕ, zero, suc, ◌+◌, ◌-◌, ◌*◌, ◌<◌, ◌≤◌, ℤ, pos, List, [], ◌∷◌, ◌++◌, length, set, slice_get, nat_eq, int_le, ◌+ℤ◌, ◌-ℤ◌, Option, Some, None, Err, Bool, true, false, not, cond, ◌&&◌, refl, sym, ap, ap₂, ◌∙◌, subst, le_refl, arith, inl, inr, ⊎_elim, true≢false, suc-mul, zero-mul, mul-le-mul_right}
use Rattle.std.proofs.lemmas.Int.{ints}
use Rattle.std.proofs.lemmas.Bool.{ne_eqb}
use Rattle.std.proofs.lemmas.List.{length-map}
use Rattle.ada_base.specs.declared.reason.Reason.{Reason}
use Rattle.ada_base.specs.declared.reason.Reason.TheVariants as reason
use Rattle.behaviours.specs.Paths.{Leave, Exits, Returns, Raises, Entity, VariableOf, ConstantOf, Here}
use Rattle.behaviours.specs.Doings.{through}
use Rattle.typed_tree.specs.declared.scalars.Check.{Check}
use Rattle.typed_tree.specs.declared.expressions.Root.{Root}
use Rattle.typed_tree.specs.Syntax.{Expr, Range, Components, Optional, Absent, Present, Selections, Whole, Field, Index, Value, Number, Cells, Composite, Stmt, Null, Assign, CallProcedure, Exit, Return, ReturnValue, Raise, Reraise, IfThen, Case, Loop, For, ParallelFor, Parallel, Block, Put, Get, Stmts, End, Then, Decls, NoDecl, DeclareDefault, DeclareVariable, DeclareConstant, Mentions, Alternatives, NoAlternative, Alternative, Handled, Others, Reasons, Handlers, NoHandler, Handler, Program}
use Rattle.ada_meaning.specs.Values
use Rattle.ada_meaning.specs.Values.{truth}
use Rattle.ada_meaning.specs.Operations.{RangeCheck, Operations}
use Rattle.ada_meaning.specs.Stored as stored
use Rattle.ada_meaning.specs.Stored.{Stored, Cause, Left, OutOfTurns, Address, Touch}
use Rattle.ada_meaning.specs.Meaning
use Rattle.ada_meaning.specs.Meaning.{Env, ObjectPart, Passed, Returned, variable_root, constant_root}
use Rattle.ada_meaning.proofs.Cells.{some_same}
use Rattle.stack_code.specs.declared.code.Code.{Code}
use Rattle.stack_code.specs.declared.instr.Instr.TheVariants as i
use Rattle.ada_base.specs.Cells.{Mine}
use Rattle.stack_code.specs.Deeds.{GoesOn, Fails, Stores}
use Rattle.stack_code.specs.Listing.{reason_number}
use Rattle.ada_lower.specs.Driven.{Dyn, Fixed, Step, On, on, path, thrown, unnested, At}
use Rattle.lower_emission.specs.Scope as scope
use Rattle.ada_lower.specs.Sights.{Amid, Around, ByEnd, ByLeave, ByReturn, ByValue, Emit, Known, Leaving, Level, Main, Named, Own, Scope, Sight, Stands, Where, address_of, choose, guarded, item_sight, load_at, load_of, looped, none, object_here, one, own, passing, range_sight, root_of, store_at, taking, when_, with_entry, with_exit, with_handled, with_item, with_object, with_parameter, with_target, ◌⨟◌}
use Rattle.ada_lower.specs.Emission
use Rattle.ada_lower.specs.Emission.{emit, selected, stmt, all, away, exiting, returning, returning_value, handled_target, Shape, shapes, shapes_cells}
use Rattle.ada_lower.specs.Fits.{What, Free, Keeps, Access, Ghost, Allows, Fit, Ends, left_by, place_in, IsAt, Leads, Spread, Refers, Holds, Knows, Stands as StandsFor}
use Rattle.ada_lower.specs.Fitted.{spots, Reached, Reaches, Fitted, FittedTarget, FittedSelections, FittedOptional, FittedValue, FittedComposite, FittedDecls, FittedStmt, FittedAll, FittedAlternatives, FittedHandlers}
use Rattle.ada_lower.proofs.Expressions.{composed_does, at_entry, does_hold, fewer_kept_back, value_does, selected_does, address_stands, named_does}
use Rattle.ada_lower.proofs.Copies.{does_copy_to}
use Rattle.ada_lower.proofs.Framework.{any, To, Doing, comes_here, comes_on, comes_goes, comes_fails, does_ret, does_bind, does_before, does_returned, does_assoc}
use Rattle.ada_lower.proofs.Memory.{does_write, set_what, own_free, what_same, fit_unset, number_seen, free_extends}
use Rattle.ada_lower.proofs.Standing.{stands_seq, stands_assoc3, stands_choose, stands_when, stands_looped, stands_guarded, Guard}
use Rattle.ada_lower.proofs.Parts.{Runs, truth_same, does_is, does_to, does_weak, does_first, Fewer, allows_fewer, does_keep, does_choice, does_check, does_set, does_within, set_deed}
use Rattle.ada_lower.proofs.Calls.{called_plainly, given}
use Rattle.ada_lower.proofs.Inner.{InnerDo}
use Rattle.ada_lower.proofs.Names.{root_refers, does_by, comes_number}
use Rattle.ada_lower.proofs.Asked.{does_got}
use Rattle.ada_lower.proofs.Items.{named_entity, array_refers, knows_item, comes_stores, items_at, item_at, knows_items, free_one, free_two, free_three, extends_items, fewer_items, items_does}
use Rattle.ada_lower.proofs.Courses.{unlooped, knows_counts, knows_parameter, count_of, count_none, comes_kept, truth_bit, fit_uncount, fewer_uncount, course_does, first_zero, last_zero}
use Rattle.ada_lower.proofs.Scattered.{AreIn, scattering, fit_unscattered, fewer_scattered, stands_scattered, ext_scattered}
use Rattle.ada_lower.proofs.Sent.{HaveCells, all_passed, pieces, aheads, backs, pieces_in, aheads_in, backs_in, have_cells, fit_backs, also_then}
use Rattle.ada_lower.proofs.Passing.{passing_none}
use Rattle.ada_lower.proofs.Actuals.{targets_more, kept_backs, passed_all, back_all}
use Rattle.ada_lower.proofs.Leaving.{least_at, does_turn, does_handles}
use Rattle.ada_lower.proofs.Declared.{keeping, having, knows_having, knows_kept, laid_out, laid_in, kept_what, among, length_in}
use Rattle.ada_lower.proofs.Blocks.{reason_back, does_elaborates, does_look, comes_reason, comes_chosen, fit_unkept}
use Rattle.ada_lower.proofs.Loops.{while_does, counts_at, first_at, last_at, first_value, last_value, counted_does}
use Rattle.ada_lower.proofs.Defaults.{defaulted_comes}
pub use Rattle.ada_lower.proofs.Suits.{Suits, suits_as, suits_entry}
use Rattle.ada_lower.proofs.Suits.{first_of, store_deed, entered, knows_target, knows_exit, knows_least, knows_handled, knows_entry}
pub use Rattle.ada_lower.proofs.Texts.{knows_taking}
use Rattle.ada_lower.proofs.Texts.{text_comes, sends_does, written_does}

module _ (limit : ℕ) (cuts : ℕ → ℕ → List ℕ) (program : Program) (c : Code) (f : Fixed) (calls : ℕ → ℕ → Stored (Unit {0}) → List Passed → Stored Returned) (globals : ℕ → Entity → Option Named) (mains : Entity → Bool) (epar : Sight → Expr → Type 0) (calls_do : InnerDo limit cuts program globals mains epar c f calls) where
  abbrev ops : Operations {1}
  ops = stored.noted_operations limit cuts

  abbrev pub execs : Stmt → Env → Stored (Unit {0})
  execs t env = Meaning.exec ops limit program calls t env

  abbrev pub executes : Stmts → Env → Stored (Unit {0})
  executes ts env = Meaning.exec_all ops limit program calls ts env

  -- from the one instruction to the other, with no operand
  abbrev pub Acts : Ends → Ghost → Stored (Unit {0}) → ℕ → ℕ → Type 0
  Acts x g m from to = Runs limit c f x g any m (λ d. on f from [] d) (λ _ d. on f to [] d)

  module _ (x : Ends) where
    -- a number that is checked is left on the stack, as the cells of a value
    number_does : (check : Check) (e : Expr) (from to : ℕ) {g : Ghost} {env : Env} (s t : Sight) (h : ℕ) (b : Emit) (st : List ℤ) → Knows limit cuts g f s env → s.scope.entry ≡ x.entry → t.scope.entry ≡ x.entry → Fitted program globals mains epar s e → Stands c (emit program s.scope h e ⨟ Emission.checked t.scope (h + 1) check.scalar ⨟ b) from to
        → (mid : ℕ) × Runs limit c f x g (λ cs. cs ≡ first_of cs ∷ []) (Meaning.cells ops limit program calls (Number check e) env) (λ d. on f from st d) (λ cs d. on f mid (first_of cs ∷ st) d) × Stands c b mid to
    number_does check e from to {g} {env} s t h b st k en en' w l =
        let (m, l1, (j, l2)) = stands_seq c from to (emit program s.scope h e) (Emission.checked t.scope (h + 1) check.scalar ⨟ b) l in (
          m + 1,
          does_bind limit c f x (value_does limit cuts program c f x calls globals mains epar calls_do e from m s h st k en w l1) (λ v _.
              does_bind limit c f x (does_check limit c f x RangeCheck check.at check.scalar v (Values.is_in check.scalar v) st refl (at_entry en' j)) (λ _ _.
              does_ret limit c f x {to = λ cs d. on f (m + 1) (first_of cs ∷ st) d} (v ∷ []) refl)),
          l2,
        )

    -- one cell is written
    writes_does : {g : Ghost} {from : Dyn → Step} {to : Dyn → Step} (y o a : ℕ) (v : ℤ) (p : Address) (access : Access) → ((a b : ℕ) (z w : Access) (pl : Address) → g.what a ≡ StandsFor z pl → g.what b ≡ StandsFor w pl → a ≡ b)
        → place_in g (VariableOf y) o ≡ Some p → g.what a ≡ StandsFor access p
        → ((u : ℤ) (d : Dyn) → slice_get d.cells a ≡ Some (Mine u) → To limit c (from d) (to (record d { cells = set d.cells a (Mine v) }))) → Runs limit c f x g any (Meaning.write_all ops y o (v ∷ [])) from (λ _. to)
    writes_does {g} {from} {to} y o a v p access one here stands k =
        does_bind limit c f x (does_write limit c f x y o a v p access here stands (λ b z e. one a b access z p stands e) k) (λ _ _. does_ret limit c f x {to = λ _. to} tt tt)

    -- what is done where the target is known
    abbrev assigning : ℕ → Root → Selections → Check → Expr → Env → Stored (Unit {0})
    assigning at r selections check e env = stored.bind (Meaning.select ops limit program calls selections env (variable_root r env)) (λ p. stored.bind (Meaning.cells ops limit program calls (Number check e) (Meaning.with_target p env)) (λ cs. Meaning.write_all ops p.object p.offset cs))

    -- the number on the stack is checked and goes to a cell that is named
    stored_does : (check : Check) (v : ℤ) (l : Level) (n a q to : ℕ) {g : Ghost} (s : Sight) (m : Unit {0} → Stored (Unit {0})) → s.scope.entry ≡ x.entry → IsAt f l n a → Stands c (Emission.store_checked s.scope check.scalar l n) q to
        → ((from : Dyn → Step) → ((u : ℤ) (d : Dyn) → slice_get d.cells a ≡ Some (Mine u) → To limit c (from d) (on f to [] (record d { cells = set d.cells a (Mine v) }))) → Runs limit c f x g any (m tt) from (λ _ d. on f to [] d))
        → Runs limit c f x g any (stored.bind (stored.checks RangeCheck check.at (Values.is_in check.scalar v)) m) (λ d. on f q (v ∷ []) d) (λ _ d. on f to [] d)
    stored_does check v Own n a q to s m en lead (j, z) go =
        does_bind limit c f x (does_within limit c f x RangeCheck check.at n check.scalar v (Values.is_in check.scalar v) [] refl (at_entry en j)) (λ _ is.
        go (λ d. on f q (v ∷ []) d) (λ u d mine. subst (λ p. To limit c (on f q (v ∷ []) d) (on f p [] (record d { cells = set d.cells a (Mine v) }))) (sym z)
        (comes_stores limit c f a v u (v ∷ []) [] d j (set_deed limit c f x q n check.scalar v f.below true is ∙ ap (λ b. Stores (pos b) v (GoesOn (q + 1) f.below)) (sym lead)) mine)))
    stored_does check v l n a q to s m en lead (j, (j', z)) go =
        does_bind limit c f x (does_check limit c f x RangeCheck check.at check.scalar v (Values.is_in check.scalar v) [] refl (at_entry en j)) (λ _ _.
        go (λ d. on f (q + 1) (v ∷ []) d) (λ u d mine. subst (λ p. To limit c (on f (q + 1) (v ∷ []) d) (on f p [] (record d { cells = set d.cells a (Mine v) }))) (sym z)
        (comes_stores limit c f a v u (v ∷ []) [] d j' (store_deed limit c f (q + 1) l n a v f.below lead) mine)))

    assign_whole : (at : ℕ) (r : Root) (check : Check) (e : Expr) (from to : ℕ) {g : Ghost} {env : Env} (s : Sight) (n : Named) → Knows limit cuts g f s env → s.scope.entry ≡ x.entry → root_of s.scope r ≡ Some n → n.through ≡ false → 1 ≤ n.cells → Fitted program globals mains epar (with_target n s) e
        → Stands c (emit program (with_target n s).scope 0 e ⨟ Emission.store_checked s.scope check.scalar n.place.level n.place.cell) from to → Acts x g (assigning at r Whole check e env) from to
    assign_whole at r check e from to {g} {env} s n k en is direct some w l =
        let o : ObjectPart = variable_root r env in
        let u : Refers g f n (VariableOf o.object) o.offset = root_refers r n k is in
        let (p, access, here, stands) = u.spread.cell 0 (omega (arith, some)) in
        let z : u.address + 0 ≡ u.address = omega arith in
        let z0 : o.offset + 0 ≡ o.offset = omega arith in
        let (m, l1, l2) = stands_seq c from to (emit program (with_target n s).scope 0 e) (Emission.store_checked s.scope check.scalar n.place.level n.place.cell) l in
        let then : (List ℤ → Stored (Unit {0})) = (λ cs. Meaning.write_all ops o.object o.offset cs) in
        let lead : IsAt f n.place.level n.place.cell u.address = subst (λ t. Leads t g f n.place u.address) direct u.leads in
        does_returned limit c f x _ o
        (does_assoc limit c f x _ _ then
        (does_bind limit c f x (value_does limit cuts program c f x calls globals mains epar calls_do e from m (with_target n s) 0 [] (knows_target n o k u) en w l1) (λ v _.
        does_assoc limit c f x _ _ then
        (stored_does check v n.place.level n.place.cell u.address m to s _ en lead l2 (λ here' comes.
        does_returned limit c f x then (v ∷ [])
        (writes_does o.object o.offset u.address v p access k.one (subst (λ i. place_in g (VariableOf o.object) i ≡ Some p) z0 here) (subst (λ a. g.what a ≡ StandsFor access p) z stands) comes))))))

    abbrev part_sight : Sight → Sight
    part_sight s = with_target (record { through = true; place = own s.scope.free; cells = 1 }) (taking 1 s)

    assign_part : (at : ℕ) (r : Root) (selections : Selections) (check : Check) (e : Expr) (from to : ℕ) {g : Ghost} {env : Env} (s : Sight) (n : Named) → Knows limit cuts g f s env → s.scope.entry ≡ x.entry → root_of s.scope r ≡ Some n → Reaches n.cells selections 1 → FittedSelections program globals mains epar s selections
        → (s.scope.free < s.cells) × Fitted program globals mains epar (part_sight s) e
        → Stands c (one s.scope 0 (address_of n) ⨟ selected program s.scope 1 selections ⨟ one s.scope 1 i.Dup ⨟ Emission.keep s.scope 2 s.scope.free ⨟ emit program (part_sight s).scope 1 e ⨟ Emission.checked s.scope 2 check.scalar ⨟ one s.scope 2 i.Store) from to
        → Acts x g (assigning at r selections check e env) from to
    assign_part at r selections check e from to {g} {env} s n k en is reach ws (room, we) (j1, l2) =
        let o : ObjectPart = variable_root r env in
        let u : Refers g f n (VariableOf o.object) o.offset = root_refers r n k is in
        let t : Sight = part_sight s in
        let stores : Emit = one s.scope 2 i.Store in
        let last : Emit = Emission.keep s.scope 2 s.scope.free ⨟ emit program t.scope 1 e ⨟ Emission.checked s.scope 2 check.scalar ⨟ stores in
        let (m2, l3, (dup, (keep, l4))) = stands_seq c (from + 1) to (selected program s.scope 1 selections) (one s.scope 1 i.Dup ⨟ last) l2 in
        does_bind limit c f x
        (named_does limit cuts program c f x calls globals mains epar calls_do from (from + 1) n (VariableOf o.object) o.offset [] u j1 refl
        (selected_does limit cuts program c f x calls globals mains epar calls_do selections (from + 1) m2 s 1 [] o u.address o.offset n.cells n.cells 1 k en ws reach (le_refl o.offset) (le_refl (o.offset + n.cells)) u.spread.near l3))
        (λ p at_.
        let a : ℕ = u.address + (p.offset - o.offset) in
        let g1 : Ghost = set_what (f.base + s.scope.free) (Keeps (pos a)) g in
        let (pl, access, here, stands) = u.spread.cell (p.offset - o.offset) (let b = at_.1 in let b' = at_.2 in omega (arith, b, b')) in
        let y : o.offset + (p.offset - o.offset) ≡ p.offset = (let b = at_.1 in omega (arith, b)) in
        let here' : place_in g (VariableOf p.object) p.offset ≡ Some pl = ap (λ z. place_in g (VariableOf z) p.offset) at_.0 ∙ ap (λ z. place_in g (VariableOf o.object) z) (sym y) ∙ here in
        does_before limit c f x (λ d. comes_goes limit c f (pos a ∷ []) (m2 + 1) (pos a ∷ pos a ∷ []) d dup refl)
        (does_hold limit c f x (m2 + 1) (pos a) (pos a ∷ []) room k (at_entry en keep) (λ k1.
        let away : (b : ℕ) (z : Access) (q : Address) → g.what b ≡ StandsFor z q → g1.what b ≡ StandsFor z q = (λ b z q e. (free_extends g (f.base + s.scope.free) (Keeps (pos a)) (k.free s.scope.free (le_refl s.scope.free) room)).solid b (StandsFor z q) tt e) in
        let refers : Refers g1 f (record { through = true; place = own s.scope.free; cells = 1 }) (VariableOf p.object) p.offset = record {
          address = a;
          leads = (f.base + s.scope.free, refl, inl (what_same g (f.base + s.scope.free) (Keeps (pos a))));
          spread = record { near = (let n = u.spread.near in let b = at_.1 in let b' = at_.2 in omega (arith, n, b, b')); cell = λ i lt. (pl, access, (let z : p.offset + i ≡ p.offset = omega (arith, lt) in subst (λ i. place_in g (VariableOf p.object) i ≡ Some pl) (sym z) here'), (let z : a + i ≡ a = omega (arith, lt) in subst (λ b. g1.what b ≡ StandsFor access pl) (sym z) (away a access pl stands))) };
        } in
        let (m3, num, (store, z3)) = number_does check e (m2 + 1 + 1) to t s 1 stores (pos a ∷ []) (knows_target _ p k1 refers) en en we l4 in
        does_bind limit c f x num (λ cs one'.
        subst (λ cs'. Runs limit c f x g1 any (Meaning.write_all ops p.object p.offset cs') (λ d. on f m3 (first_of cs ∷ pos a ∷ []) d) (λ _ d. on f to [] d)) (sym one')
        (writes_does p.object p.offset a (first_of cs) pl access k1.one here' (away a access pl stands)
        (λ v d mine. subst (λ q. To limit c (on f m3 (first_of cs ∷ pos a ∷ []) d) (on f q [] (record d { cells = set d.cells a (Mine (first_of cs)) }))) (sym z3)
        (comes_stores limit c f a (first_of cs) v (first_of cs ∷ pos a ∷ []) [] d store refl mine)))))))

    -- both ways
    assign_does : (at : ℕ) (r : Root) (selections : Selections) (check : Check) (e : Expr) (from to : ℕ) {g : Ghost} {env : Env} (s : Sight) (n : Named) → Knows limit cuts g f s env → s.scope.entry ≡ x.entry → root_of s.scope r ≡ Some n → Reaches n.cells selections 1 → FittedSelections program globals mains epar s selections
        → (b : Bool) → n.through ≡ b → FittedTarget program globals mains epar s (Emission.is_whole selections && not b) n e
        → Stands c (cond (Emission.is_whole selections && not b) (emit program (with_target n s).scope 0 e ⨟ Emission.store_checked s.scope check.scalar n.place.level n.place.cell)
        (one s.scope 0 (address_of n) ⨟ selected program s.scope 1 selections ⨟ one s.scope 1 i.Dup ⨟ Emission.keep s.scope 2 s.scope.free ⨟ emit program (part_sight s).scope 1 e ⨟ Emission.checked s.scope 2 check.scalar ⨟ one s.scope 2 i.Store)) from to
        → Acts x g (assigning at r selections check e env) from to
    assign_does at r Whole check e from to s n k en is reach ws false direct we l = assign_whole at r check e from to s n k en is direct reach we l
    assign_does at r Whole check e from to s n k en is reach ws true direct we l = assign_part at r Whole check e from to s n k en is reach ws we l
    assign_does at r (Field number offset rest) check e from to s n k en is reach ws b direct we l = assign_part at r (Field number offset rest) check e from to s n k en is reach ws we l
    assign_does at r (Index at' i' low high stride rest) check e from to s n k en is reach ws b direct we l = assign_part at r (Index at' i' low high stride rest) check e from to s n k en is reach ws we l

    -- the cells of a value are kept, and copied to an object
    assign_cells : (at : ℕ) (r : Root) (selections : Selections) (value : Composite) (n from to : ℕ) {g : Ghost} {env : Env} (s : Sight) → Knows limit cuts g f s env → s.scope.entry ≡ x.entry
        → Reached (root_of s.scope r) selections n × FittedSelections program globals mains epar s selections × (s.scope.free + 1 + n ≤ s.cells) × FittedComposite program globals mains epar (with_target (record { through = true; place = own s.scope.free; cells = n }) (taking n (taking 1 s))) n value
        → Stands c (Emission.address s.scope 0 (root_of s.scope r) ⨟ selected program s.scope 1 selections ⨟ Emission.keep s.scope 1 s.scope.free
        ⨟ Emission.composed program (with_target (record { through = true; place = own s.scope.free; cells = n }) (taking n (taking 1 s))).scope 0 (s.scope.free + 1) value
        ⨟ one s.scope 0 (i.LoadL s.scope.free) ⨟ one s.scope 1 (i.Local (s.scope.free + 1)) ⨟ one s.scope 2 (i.Copy n)) from to
        → Acts x g (stored.bind (Meaning.select ops limit program calls selections env (variable_root r env)) (λ p. stored.bind (Meaning.composite ops limit program calls value (Meaning.with_target p env)) (λ cs. Meaning.write_all ops p.object p.offset cs))) from to
    assign_cells at r selections value n from to {g} {env} s k en ((m, is, reach), ws, room, we) l =
        let o : ObjectPart = variable_root r env in
        let u : Refers g f m (VariableOf o.object) o.offset = root_refers r m k is in
        let t : Sight = with_target (record { through = true; place = own s.scope.free; cells = n }) (taking n (taking 1 s)) in
        let end_ : Emit = one s.scope 0 (i.LoadL s.scope.free) ⨟ one s.scope 1 (i.Local (s.scope.free + 1)) ⨟ one s.scope 2 (i.Copy n) in
        let last : Emit = Emission.keep s.scope 1 s.scope.free ⨟ Emission.composed program t.scope 0 (s.scope.free + 1) value ⨟ end_ in
        let (m1, l1, l2) = stands_seq c from to (Emission.address s.scope 0 (root_of s.scope r)) (selected program s.scope 1 selections ⨟ last) l in
        let (m2, l3, (keep, l4)) = stands_seq c m1 to (selected program s.scope 1 selections) last l2 in
        let (m3, l5, (load, (local, (copy, z)))) = stands_seq c (m2 + 1) to (Emission.composed program t.scope 0 (s.scope.free + 1) value) end_ l4 in
        let (j1, z1) = address_stands limit cuts program c f x calls globals mains epar calls_do s 0 (root_of s.scope r) m from m1 is l1 in
        let some : s.scope.free < s.cells = omega (arith, room) in
        does_bind limit c f x
        (named_does limit cuts program c f x calls globals mains epar calls_do from m1 m (VariableOf o.object) o.offset [] u j1 z1
        (selected_does limit cuts program c f x calls globals mains epar calls_do selections m1 m2 s 1 [] o u.address o.offset m.cells m.cells n k en ws reach (le_refl o.offset) (le_refl (o.offset + m.cells)) u.spread.near l3))
        (λ p at_.
        let a : ℕ = u.address + (p.offset - o.offset) in
        let b : ℕ = f.base + (s.scope.free + 1) in
        let g1 : Ghost = set_what (f.base + s.scope.free) (Keeps (pos a)) g in
        let part : Spread g (VariableOf p.object) p.offset n a = spread_of p o u.spread at_.0 at_.1 at_.2 in
        let away : (b : ℕ) (z : Access) (q : Address) → g.what b ≡ StandsFor z q → g1.what b ≡ StandsFor z q = (λ b z q e. (free_extends g (f.base + s.scope.free) (Keeps (pos a)) (k.free s.scope.free (le_refl s.scope.free) some)).solid b (StandsFor z q) tt e) in
        let part1 : Spread g1 (VariableOf p.object) p.offset n a = record { near = part.near; cell = λ i lt. let (pl, access, here, stands) = part.cell i lt in (pl, access, here, away (a + i) access pl stands) } in
        let refers : Refers g1 f (record { through = true; place = own s.scope.free; cells = n }) (VariableOf p.object) p.offset = record {
          address = a;
          leads = (f.base + s.scope.free, refl, inl (what_same g (f.base + s.scope.free) (Keeps (pos a))));
          spread = part1;
        } in
        does_hold limit c f x m2 (pos a) [] some k (at_entry en keep) (λ k1.
        let kt : Knows limit cuts g1 f (taking n (taking 1 s)) env = record {
          most = k1.most;
          nested = k1.nested;
          plan = k1.plan;
          kept = k1.kept;
          top = k1.top;
          beyond = k1.beyond;
          global = k1.global;
          outside = k1.outside;
          one = k1.one;
          old = k1.old;
          hidden = k1.hidden;
          object = k1.object;
          parameter = k1.parameter;
          item = k1.item;
          constant_item = k1.constant_item;
          target = k1.target;
          handled = k1.handled;
          free = λ i le lt. k1.free i (omega (arith, le)) lt;
        } in
        let free : (i : ℕ) → i < n → g1.what (b + i) ≡ Free = (λ i lt. let e : b + i ≡ f.base + (s.scope.free + 1 + i) = omega arith in ap g1.what e ∙ k1.free (s.scope.free + 1 + i) (omega arith) (omega (arith, lt, room))) in
        composed_does limit cuts program c f x calls globals mains epar calls_do {g = g1} {j = g1} value t 0 (s.scope.free + 1) n [] (λ t d w. w) (knows_target _ p kt refers) en (omega arith) (omega (arith, room)) free (m2 + 1) m3 (λ cs. Meaning.write_all ops p.object p.offset cs) we l5 (λ cs len.
        let g2 : Ghost = keeping b cs g1 in
        let free' : (i : ℕ) → i < length cs → g1.what (b + i) ≡ Free = (λ i lt. free i (omega (arith, lt, len))) in
        let out : (b' : ℕ) (w : What) → g1.what b' ≡ w → (w ≡ Free → ⊥) → g2.what b' ≡ w = (λ b' w e never. behind b' w g1 e never b cs free') in
        does_weak limit c f x (λ t d w. fit_unkept b cs g1 free' w)
        (does_by limit c f x (λ t d fit. comes_number limit c f (own s.scope.free) (pos a) [] d fit (f.base + s.scope.free, refl, inl (out (f.base + s.scope.free) (Keeps (pos a)) (what_same g (f.base + s.scope.free) (Keeps (pos a))) (λ e. cc))) load)
        (does_before limit c f x (λ d. comes_goes limit c f (pos a ∷ []) (m3 + 1 + 1) (pos b ∷ pos a ∷ []) d local refl)
        (subst (λ q. Runs limit c f x g2 any (Meaning.write_all ops p.object p.offset cs) (λ d. on f (m3 + 1 + 1) (pos b ∷ pos a ∷ []) d) (λ _ d. on f q [] d)) (sym z)
        (does_copy_to limit cuts c f x p.object p.offset a b n (m3 + 1 + 1) cs n [] len (le_refl n)
        (record { near = part1.near; cell = λ i lt. let (pl, access, here, stands) = part1.cell i lt in (pl, access, here, out (a + i) (StandsFor access pl) stands (λ e. cc)) })
        (knows_kept {s = taking n (taking 1 s)} {env = env} (s.scope.free + 1) cs (omega (arith, len)) (omega (arith, room)) free' kt).one
        (λ i v e. laid_in b 0 kept_what cs g1.what i v e)
        (at_entry en copy))))))))
      where
        spread_of : {total a : ℕ} (p o : ObjectPart) → Spread g (VariableOf o.object) o.offset total a → p.object ≡ o.object → o.offset ≤ p.offset → p.offset + n ≤ o.offset + total → Spread g (VariableOf p.object) p.offset n (a + (p.offset - o.offset))
        spread_of {total} {a} p o w e le lt = record {
          near = (let n = w.near in omega (arith, n, le, lt));
          cell = λ i il.
              let (pl, access, here, is) = w.cell (p.offset - o.offset + i) (omega (arith, il, le, lt)) in
              let z : o.offset + (p.offset - o.offset + i) ≡ p.offset + i = omega (arith, le) in
              let z' : a + (p.offset - o.offset + i) ≡ a + (p.offset - o.offset) + i = omega arith in
              (pl, access, ap (λ y. place_in g (VariableOf y) (p.offset + i)) e ∙ ap (place_in g (VariableOf o.object)) (sym z) ∙ here, ap g.what (sym z') ∙ is);
        }

        behind : (b' : ℕ) (w : What) (g : Ghost) → g.what b' ≡ w → (w ≡ Free → ⊥) → (b : ℕ) (cs : List ℤ) → ((i : ℕ) → i < length cs → g.what (b + i) ≡ Free) → (keeping b cs g).what b' ≡ w
        behind b' w g e never b cs free = ⊎_elim
            (λ r. let (i, v, z, is) = r in absurd (never (sym e ∙ ap g.what (sym z) ∙ free i (length_in cs i v is))))
            (λ away. laid_out b 0 kept_what cs g.what b' away ∙ e)
            (among b b' cs)

  -- exits of a loop are taken behind it
  abbrev leaving_loop : ℕ → ℕ → Ends → Ends
  leaving_loop number exit x = record x { exits = λ n d. cond (nat_eq number n) (on f exit [] d) (x.exits n d) }

  exit_suits : {x : Ends} {s : Sight} (number exit : ℕ) → Suits limit c f x s → Suits limit c f (leaving_loop number exit x) (with_exit number exit s)
  exit_suits {x} {s} number exit w = record {
    entry = w.entry;
    flat = w.flat;
    rounds = w.rounds;
    kept = w.kept;
    texts = w.texts;
    threads = w.threads;
    away = λ n none' here q en at d. go' n (nat_eq number n) none' here q en at d;
    exits = λ n to e d. go n to (nat_eq number n) e d;
    returns = w.returns;
    gives = w.gives;
  }
    where
      go' : (n : ℕ) (b : Bool) → cond b (Some exit) (s.scope.exits n) ≡ None → Amid n s.outside → (q : ℕ) (e : Option ℕ) → At c q (i.Exit n) e → (d : Dyn) → To limit c (on f q [] d) (cond b (on f exit [] d) (x.exits n d))
      go' n true z here q e at d = absurd (let y : ◌≡◌ {A = Option ℕ} (Some exit) None = z in cc)
      go' n false z here q e at d = w.away n z here q e at d

      go : (n to : ℕ) (b : Bool) → cond b (Some exit) (s.scope.exits n) ≡ Some to → (d : Dyn) → To limit c (on f to [] d) (cond b (on f exit [] d) (x.exits n d))
      go n to true e d = subst (λ q. To limit c (on f q [] d) (on f exit [] d)) (some_same exit to e) (comes_here limit c (on f exit [] d))
      go n to false e d = w.exits n to e d

  -- the code of an exit
  exit_goes : {x : Ends} {s : Sight} (n from to q : ℕ) → Suits limit c f x s → s.scope.exits n ≡ Some q → Stands c (exiting s.scope n (s.scope.exits n)) from to → (d : Dyn) → To limit c (on f from [] d) (x.exits n d)
  exit_goes {x} {s} n from to q u e l d =
      let (j, z) = subst (λ o. Stands c (exiting s.scope n o) from to) e l in
      comes_on limit c (comes_goes limit c f [] q [] d j refl) (u.exits n q e d)

  pub exits_known : {x : Ends} {s : Sight} (n from to : ℕ) → Suits limit c f x s → Known s n → Stands c (exiting s.scope n (s.scope.exits n)) from to → (d : Dyn) → To limit c (on f from [] d) (x.exits n d)
  exits_known {x} {s} n from to u (inl (q, e)) l d = exit_goes n from to q u e l d
  exits_known {x} {s} n from to u (inr (e, here)) l d =
      let (site, is) = u.threads n here in
      u.away n e here from s.scope.entry (subst (λ b. Stands c (away s.scope n b) from to) is (subst (λ o. Stands c (exiting s.scope n o) from to) e l)).0 d

  exits_does : {g j : Ghost} {m : Stored (Unit {0})} {from : Dyn → Step} → ((ts : List Touch) → Allows g ts → Allows j ts) → (x : Ends) (number exit to : ℕ) → At c exit (i.Jump to) x.entry → Doing limit c f (leaving_loop number exit x) g j any m from (λ _ d. on f to [] d)
      → Doing limit c f x g j any (stored.handles m (Meaning.exits number) (λ _. stored.ret (tt {0}))) from (λ _ d. on f to [] d)
  exits_does {g} {j} {m} {from} few x number exit to jump k = does_handles limit c f x cuts (leaving_loop number exit x) few k taken past
    where
      taken : (l : Leave) → Meaning.exits number l ≡ true → Runs limit c f x j any (stored.ret (tt {0})) (λ d. left_by f (leaving_loop number exit x) l d) (λ _ d. on f to [] d)
      taken (Exits n) e = does_before limit c f x (λ d. subst (λ b. To limit c (cond b (on f exit [] d) (x.exits n d)) (on f to [] d)) (sym e) (comes_goes limit c f [] to [] d jump refl)) (does_ret limit c f x {to = λ _ d. on f to [] d} tt tt)
      taken (Returns v) e = absurd (true≢false (sym e))
      taken (Raises r) e = absurd (true≢false (sym e))

      past : (l : Leave) → Meaning.exits number l ≡ false → (d : Dyn) → To limit c (left_by f (leaving_loop number exit x) l d) (left_by f x l d)
      past (Exits n) e d = subst (λ b. To limit c (cond b (on f exit [] d) (x.exits n d)) (x.exits n d)) (sym e) (comes_here limit c (x.exits n d))
      past (Returns v) e d = comes_here limit c (x.returns v d)
      past (Raises r) e d = comes_here limit c (thrown r x.entry f d)

  acts_at : {x : Ends} {g : Ghost} {m : Stored (Unit {0})} {from : Dyn → Step} {to : ℕ} (at : ℕ) → to ≡ at → Runs limit c f x g any m from (λ _ d. on f at [] d) → Runs limit c f x g any m from (λ _ d. on f to [] d)
  acts_at {x} {g} {m} {from} at e k = subst (λ q. Runs limit c f x g any m from (λ _ d. on f q [] d)) (sym e) k

  branch : {x : Ends} {g : Ghost} {m n : Stored (Unit {0})} {p q : ℕ} {to : Unit {0} → Dyn → Step} (b : Bool) → Runs limit c f x g any m (λ d. on f p [] d) to → Runs limit c f x g any n (λ d. on f q [] d) to
      → Runs limit c f x g any (cond b m n) (λ d. cond b (on f p [] d) (on f q [] d)) to
  branch true a b = a
  branch false a b = b

  pub leaves_is : {A : Type 0} (l : Leave) (s : stored.State) → (stored.leaves {A = A} l).does s ≡ stored.at s (Err (Left l))
  unfolding stored.leaves
  leaves_is l s = refl

  -- a test, by which code goes on or to another place
  pub test_false : {g : Ghost} {env : Env} (x : Ends) (e : Expr) (from mid other : ℕ) (s : Sight) (h : ℕ) (st : List ℤ) → Knows limit cuts g f s env → s.scope.entry ≡ x.entry → Fitted program globals mains epar s e → Stands c (emit program s.scope h e) from mid → At c mid (i.JFalse other) x.entry
      → Runs limit c f x g any (Meaning.holds ops limit program calls (Present e) env) (λ d. on f from st d) (λ b d. cond b (on f (mid + 1) st d) (on f other st d))
  test_false x e from mid other s h st k en w l at =
      does_bind limit c f x (value_does limit cuts program c f x calls globals mains epar calls_do e from mid s h st k en w l) (λ v _.
      does_before limit c f x (λ d. goes (truth v) v refl d) (does_ret limit c f x {to = λ b d. cond b (on f (mid + 1) st d) (on f other st d)} (truth v) tt))
    where
      goes : (b : Bool) (v : ℤ) → truth v ≡ b → (d : Dyn) → To limit c (on f mid (v ∷ st) d) (cond b (on f (mid + 1) st d) (on f other st d))
      goes true v e d = comes_goes limit c f (v ∷ st) (mid + 1) st d at (ap (λ b. GoesOn (cond b (mid + 1) other) (st ++ f.below)) (truth_same v ∙ e))
      goes false v e d = comes_goes limit c f (v ∷ st) other st d at (ap (λ b. GoesOn (cond b (mid + 1) other) (st ++ f.below)) (truth_same v ∙ e))

  pub test_true : {g : Ghost} {env : Env} (x : Ends) (e : Expr) (from mid other : ℕ) (s : Sight) (h : ℕ) (st : List ℤ) → Knows limit cuts g f s env → s.scope.entry ≡ x.entry → Fitted program globals mains epar s e → Stands c (emit program s.scope h e) from mid → At c mid (i.JTrue other) x.entry
      → Runs limit c f x g any (Meaning.holds ops limit program calls (Present e) env) (λ d. on f from st d) (λ b d. cond b (on f other st d) (on f (mid + 1) st d))
  test_true x e from mid other s h st k en w l at =
      does_bind limit c f x (value_does limit cuts program c f x calls globals mains epar calls_do e from mid s h st k en w l) (λ v _.
      does_before limit c f x (λ d. goes (truth v) v refl d) (does_ret limit c f x {to = λ b d. cond b (on f other st d) (on f (mid + 1) st d)} (truth v) tt))
    where
      goes : (b : Bool) (v : ℤ) → truth v ≡ b → (d : Dyn) → To limit c (on f mid (v ∷ st) d) (cond b (on f other st d) (on f (mid + 1) st d))
      goes true v e d = comes_goes limit c f (v ∷ st) other st d at (ap (λ b. GoesOn (cond b other (mid + 1)) (st ++ f.below)) (truth_same v ∙ e))
      goes false v e d = comes_goes limit c f (v ∷ st) (mid + 1) st d at (ap (λ b. GoesOn (cond b other (mid + 1)) (st ++ f.below)) (truth_same v ∙ e))

  -- ---- iterations

  pub filtered_does : {g : Ghost} {env : Env} {m : Stored (Unit {0})} (x : Ends) (filter : Optional) (code : Emit) (from to : ℕ) (s : Sight) (h : ℕ) → Knows limit cuts g f s env → s.scope.entry ≡ x.entry → FittedOptional program globals mains epar s filter → Stands c (Emission.filtered program s.scope h filter code) from to
      → ((from : ℕ) → Stands c code from to → Acts x g m from to)
      → Acts x g (stored.bind (Meaning.holds ops limit program calls filter env) (λ p. cond p m (stored.ret tt))) from to
  unfolding Rattle.ada_lower.specs.Emission.emit
  filtered_does {g} {env} {m} x Absent code from to s h k en w l j = does_returned limit c f x (λ p. cond p m (stored.ret tt)) true (j from l)
  filtered_does {g} {env} {m} x (Present e) code from to s h k en w l j =
      let (m1, l1, l2) = stands_seq c from to (emit program s.scope h e) (when_ s.scope h code) l in
      let (at, l3) = stands_when c m1 to s h code l2 in
      does_bind limit c f x (test_false x e from m1 to s h [] k en w l1 (at_entry en at)) (λ b _.
      branch b (j (m1 + 1) l3) (does_ret limit c f x {to = λ _ d. on f to [] d} tt tt))

  handles_ret : {g : Ghost} (x : Ends) (number to : ℕ) → Acts x g (stored.handles (stored.ret tt) (Meaning.exits number) (λ _. stored.ret tt)) to to
  unfolding stored.handles stored.ret
  handles_ret x number to = record { by = λ s d fit al. (tt, record { dyn = d; fit = fit; comes = comes_here limit c (on f to [] d) _; grows = le_refl s.turns }) }

  -- no turn is made
  for_none : {g j : Ghost} → ((s : stored.State) (d : Dyn) → Fit g s d → Fit j s d) → (x : Ends) (number to : ℕ) (body : ℕ → Stored (Unit {0})) (n : ℕ) → n ≡ 0
      → Doing limit c f x g j any (stored.handles (through stored.doings 0 n tt (λ i _. body i)) (Meaning.exits number) (λ _. stored.ret tt)) (λ d. on f to [] d) (λ _ d. on f to [] d)
  for_none {g} {j} weak x number to body n e =
      does_weak limit c f x weak (subst (λ n. Acts x g (stored.handles (through stored.doings 0 n tt (λ i _. body i)) (Meaning.exits number) (λ _. stored.ret tt)) to to) (sym e) (handles_ret x number to))

  -- a turn
  pub iterate_does : {g : Ghost} (test : Stored Bool) (body : Stored (Unit {0})) (x : Ends) (head mid : ℕ) → g.most ≡ limit → At c head i.Turn x.entry → Acts x g (stored.bind test (λ b. cond b body (stored.ret tt))) (head + 1) mid → Acts x g (Meaning.iterate ops test body) head mid
  iterate_does test body x head mid most at j = does_bind limit c f x (does_turn limit c f x cuts [] most at) (λ _ _. j)

  abbrev turn_emit : Sight → ℕ → ℕ → Bool → Optional → (Scope → Emit) → ℕ → Emit
  turn_emit s number p reverse filter code exit = one s.scope 0 i.Turn ⨟ Emission.filtered program (range_sight s (Some number) p reverse exit).scope 0 filter (code (range_sight s (Some number) p reverse exit).scope)

  abbrev loop_emit : Sight → ℕ → ℕ → Bool → Optional → (Scope → Emit) → Emit
  loop_emit s number p reverse filter code = looped s.scope 0 true (λ exit. turn_emit s number p reverse filter code exit) (λ head. one s.scope 0 (Emission.counting reverse s.scope.free head))

  -- the turns of a range that isn't empty
  range_loop : {g : Ghost} {env : Env} (x : Ends) (s : Sight) (number p : ℕ) (reverse : Bool) (filter : Optional) (l h : ℤ) (start to : ℕ) (code : Scope → Emit) (tests : Env → Stored Bool) (does : Env → Stored (Unit {0})) → Knows limit cuts g f s env → Suits limit c f x s → s.scope.free + 1 < s.cells → int_le l h ≡ true
      → Stands c (loop_emit s number p reverse filter code) start to
      → ((exit : ℕ) (env' : Env) (g' : Ghost) (from to : ℕ) → Knows limit cuts g' f (range_sight s (Some number) p reverse exit) env' → Suits limit c f (leaving_loop number exit x) (range_sight s (Some number) p reverse exit)
      → Stands c (Emission.filtered program (range_sight s (Some number) p reverse exit).scope 0 filter (code (range_sight s (Some number) p reverse exit).scope)) from to
      → Acts (leaving_loop number exit x) g' (stored.bind (tests env') (λ b. cond b (does env') (stored.ret tt))) from to)
      → Doing limit c f x (counts_at limit cuts c f x s.scope.free l h g) g any (stored.handles (through stored.doings 0 (Values.count l h) tt (λ i _. Meaning.iterate ops (tests (Meaning.with_parameter p (cond reverse (h -ℤ pos i) (l +ℤ pos i)) env)) (does (Meaning.with_parameter p (cond reverse (h -ℤ pos i) (l +ℤ pos i)) env)))) (Meaning.exits number) (λ _. stored.ret tt)) (λ d. on f start [] d) (λ _ d. on f to [] d)
  range_loop {g} {env} x s number p reverse filter l h start to code tests does k u room e at body =
      let o = stands_looped c start to s 0 true (λ exit. turn_emit s number p reverse filter code exit) (λ head. one s.scope 0 (Emission.counting reverse s.scope.free head)) at in
      let y : Ends = leaving_loop number (start + 1) x in
      let t : Sight = range_sight s (Some number) p reverse (start + 1) in
      let (m, cnt, is) = count_of limit cuts c f l h e in
      let turns : ℕ → Unit {0} → Stored (Unit {0}) = (λ i _. Meaning.iterate ops (tests (Meaning.with_parameter p (cond reverse (h -ℤ pos i) (l +ℤ pos i)) env)) (does (Meaning.with_parameter p (cond reverse (h -ℤ pos i) (l +ℤ pos i)) env))) in
      exits_does (λ ts al. allows_fewer limit c f x (counts_at limit cuts c f x s.scope.free l h g) g ts (fewer_uncount limit cuts c f s l h room k) al) x number (start + 1) to (at_entry u.entry o.exit)
      (does_before limit c f y (λ d. comes_goes limit c f [] (start + 1 + 1) [] d o.enter refl)
      (subst (λ n. Doing limit c f y (counts_at limit cuts c f x s.scope.free l h g) g any (through stored.doings 0 n tt turns) (λ d. on f (start + 1 + 1) [] d) (λ _ d. on f to [] d)) (sym cnt)
      (subst (λ q. Doing limit c f y (counts_at limit cuts c f x s.scope.free l h g) g any (through stored.doings 0 (suc m) tt turns) (λ d. on f (start + 1 + 1) [] d) (λ _ d. on f q [] d)) (sym o.back.1)
      (subst (λ a. Doing limit c f y (counts_at limit cuts c f x s.scope.free a h g) g any (through stored.doings 0 (suc m) tt turns) (λ d. on f (start + 1 + 1) [] d) (λ _ d. on f (o.mid + 1) [] d)) (first_zero limit cuts c f x reverse l)
      (subst (λ a. Doing limit c f y (counts_at limit cuts c f x s.scope.free (first_value limit cuts c f x reverse l 0) a g) g any (through stored.doings 0 (suc m) tt turns) (λ d. on f (start + 1 + 1) [] d) (λ _ d. on f (o.mid + 1) [] d)) (last_zero limit cuts c f x reverse h)
      (counted_does limit cuts c f y (λ _. []) reverse s.scope.free (start + 1 + 1) o.mid l h turns o.back.0 (λ t d a b w. fit_uncount limit cuts c f s a b room k t d w)
      (λ i _. iterate_does _ _ y (start + 1 + 1) o.mid k.most (at_entry u.entry o.turn.0)
      (body (start + 1) _ _ (start + 1 + 1 + 1) o.mid
      (knows_exit number (start + 1) (knows_parameter limit cuts c f p (own (Emission.first_parameter reverse s.scope.free)) (cond reverse (h -ℤ pos i) (l +ℤ pos i)) (knows_counts limit cuts c f s _ _ room k) (holds_count reverse i)))
      (exit_suits number (start + 1) (suits_as (with_parameter p (own (Emission.first_parameter reverse s.scope.free)) (taking 2 s)) s refl refl refl refl refl (λ n. refl) u)) o.turn.1))
      m 0 tt is))))))
    where
      holds_count : (reverse : Bool) (i : ℕ) → Holds (counts_at limit cuts c f x s.scope.free (first_value limit cuts c f x reverse l i) (last_value limit cuts c f x reverse h i) g) f (own (Emission.first_parameter reverse s.scope.free)) (cond reverse (h -ℤ pos i) (l +ℤ pos i))
      holds_count true i = (f.base + (s.scope.free + 1), refl, inl (last_at limit cuts c f x s.scope.free l (h -ℤ pos i) g))
      holds_count false i = (f.base + s.scope.free, refl, inl (first_at limit cuts c f x s.scope.free (l +ℤ pos i) h g))

  -- ---- blocks

  -- a value goes to cells of its own, and what follows is done with it there
  pub into_does : {B : Type 0} {g : Ghost} {env : Env} {q : B → Type 0} {goal : B → Dyn → Step} (x : Ends) (value : Value) (s : Sight) (n from to : ℕ) (code : Emit) (then : List ℤ → Stored B) → s.scope.free + n ≤ s.cells → Knows limit cuts g f (taking n s) env → s.scope.entry ≡ x.entry → FittedValue program globals mains epar (taking n s) n value
      → ((k : ℕ) → k < n → g.what (f.base + s.scope.free + k) ≡ Free)
      → Stands c (Emission.put_into program (taking n s).scope 0 s.scope.free value ⨟ code) from to
      → ((cs : List ℤ) (mid : ℕ) → length cs ≡ n → Stands c code mid to → Doing limit c f x (keeping (f.base + s.scope.free) cs g) g q (then cs) (λ d. on f mid [] d) goal)
      → Runs limit c f x g q (stored.bind (Meaning.cells ops limit program calls value env) then) (λ d. on f from [] d) goal
  unfolding Rattle.ada_lower.specs.Emission.emit
  into_does {B} {g} {env} {q} {goal} x (Number check e) s n from to code then room k en w free l j =
      let one' : n ≡ 1 = w.0 in
      let (m0, l0, lc) = stands_seq c from to (emit program (taking n s).scope 0 e ⨟ Emission.keep_checked (taking n s).scope 1 check.scalar s.scope.free) code l in
      let (m, l1, (jk, z)) = stands_seq c from m0 (emit program (taking n s).scope 0 e) (Emission.keep_checked (taking n s).scope 1 check.scalar s.scope.free) l0 in
      let z0 : f.base + s.scope.free + 0 ≡ f.base + s.scope.free = omega arith in
      let free0 : g.what (f.base + s.scope.free) ≡ Free = subst (λ a. g.what a ≡ Free) z0 (free 0 (omega (arith, one'))) in
      does_assoc limit c f x _ _ then
      (does_bind limit c f x (value_does limit cuts program c f x calls globals mains epar calls_do e from m (taking n s) 0 [] k en w.1 l1) (λ v _.
      does_assoc limit c f x _ _ then
      (does_set limit c f x _ RangeCheck check.at m s.scope.free check.scalar v [] (λ t d w. w) (own_free (g.what (f.base + s.scope.free)) free0) (at_entry en jk)
      (does_returned limit c f x then (v ∷ [])
      (subst (λ p. Doing limit c f x (keeping (f.base + s.scope.free) (v ∷ []) g) g q (then (v ∷ [])) (λ d. on f p [] d) goal) z (j (v ∷ []) m0 (sym one') lc))))))
  into_does {B} {g} {env} {q} {goal} x (Cells value) s n from to code then room k en w free l j =
      let (m0, l0, lc) = stands_seq c from to (Emission.composed program (taking n s).scope 0 s.scope.free value) code l in
      let le : s.scope.free + n ≤ (taking n s).scope.free = omega arith in
      let some : (taking n s).scope.free ≤ (taking n s).cells = omega (arith, room) in
      composed_does limit cuts program c f x calls globals mains epar calls_do {g = g} {j = g} value (taking n s) 0 s.scope.free n [] (λ t d w. w) k en le some free from m0 then w l0 (λ cs len. j cs m0 len lc)

  pub free_at : {g : Ghost} {s : Sight} {env : Env} (n : ℕ) → s.scope.free + n ≤ s.cells → Knows limit cuts g f s env → (k : ℕ) → k < n → g.what (f.base + s.scope.free + k) ≡ Free
  free_at {g} {s} n room k j lt = let z : f.base + s.scope.free + j ≡ f.base + (s.scope.free + j) = omega arith in ap g.what z ∙ k.free (s.scope.free + j) (omega arith) (omega (arith, lt, room))

  pub fewer_keeping : (a : ℕ) (vs : List ℤ) (g : Ghost) → Fewer limit c f (unlooped limit cuts c f) g (keeping a vs g)
  fewer_keeping a vs g b y p e = ⊎_elim
      (λ r. let (k, v, z, is) = r in absurd (let q : Keeps v ≡ StandsFor y p = sym (laid_in a 0 kept_what vs g.what k v is) ∙ ap (keeping a vs g).what z ∙ e in cc))
      (λ out. inl (sym (laid_out a 0 kept_what vs g.what b out) ∙ e))
      (among a b vs)

  decls_does : (decls : Decls) (from to : ℕ) {g : Ghost} {env : Env} (x : Ends) (s : Sight) (code : Scope → Emit) (m : Stored (Unit {0})) (body : Sight → Type 0) → Knows limit cuts g f s env → Suits limit c f x s → FittedDecls program globals mains epar s decls body → Stands c (Emission.declared program s.scope decls code) from to
      → ((t : Sight) (g' : Ghost) (from' : ℕ) → Knows limit cuts g' f t env → Suits limit c f x t → body t → Stands c (code t.scope) from' to → Acts x g' m from' to)
      → Acts x g (Meaning.declared ops limit program calls decls Here env m) from to
  decls_does NoDecl from to {g} x s code m body k u w l j = j s g from k u w l
  decls_does (Mentions es more) from to x s code m body k u w l j = decls_does more from to x s code m body k u w l j
  decls_does (DeclareDefault y more) from to {g} {env} x s code m body k u (new, room, filled, w) l j =
      let vs : List ℤ = Values.defaults (Meaning.object_layout program y) in
      let n : length vs ≡ length (Meaning.object_layout program y) = length-map (Meaning.object_layout program y) (λ z. z.low) in
      let t : Sight = object_here s (VariableOf y) (length (Meaning.object_layout program y)) in
      let (m1, l1, l2) = stands_seq c from to (Emission.defaulted program s.scope s.scope.free y) (Emission.declared program t.scope more code) l in
      let free : (k : ℕ) → k < length vs → g.what (f.base + s.scope.free + k) ≡ Free = (λ i lt. free_at (length (Meaning.object_layout program y)) room k i (omega (arith, lt, n))) in
      does_first limit c f x (fewer_keeping (f.base + s.scope.free) vs g) (λ z d fit. defaulted_comes limit cuts program c f x s.scope s.scope.free from m1 y filled (λ i lt. own_free (g.what (f.base + s.scope.free + i)) (free i lt)) l1 fit)
      (does_elaborates limit c f x (VariableOf y) (f.base + s.scope.free) vs free (λ len fresh slots.
      decls_does more m1 to x t code m body
      (subst (λ n. Knows limit cuts (having (VariableOf y) len (f.base + s.scope.free) vs g) f (object_here s (VariableOf y) n) env) n (knows_having (VariableOf y) len vs (omega (arith, room, n)) slots new fresh k))
      (suits_as t s refl refl refl refl refl (λ n. refl) u) w l2 j))
  decls_does (DeclareVariable y initial more) from to {g} {env} x s code m body k u (new, room, wi, w) l j =
      let n : ℕ = Emission.width program initial in
      let t : Sight = object_here s (VariableOf y) n in
      into_does x initial s n from to (Emission.declared program t.scope more code) _ room (knows_taking limit cuts program c f calls globals mains epar calls_do n k) u.entry wi (free_at n room k) l (λ cs mid len l2.
      does_elaborates limit c f x (VariableOf y) (f.base + s.scope.free) cs (λ i lt. free_at n room k i (omega (arith, lt, len))) (λ at_ fresh slots.
      decls_does more mid to x t code m body
      (subst (λ n. Knows limit cuts (having (VariableOf y) at_ (f.base + s.scope.free) cs g) f (object_here s (VariableOf y) n) env) len (knows_having (VariableOf y) at_ cs (omega (arith, room, len)) slots new fresh k))
      (suits_as t s refl refl refl refl refl (λ n. refl) u) w l2 j))
  decls_does (DeclareConstant y initial more) from to {g} {env} x s code m body k u (new, room, wi, w) l j =
      let n : ℕ = Emission.width program initial in
      let t : Sight = object_here s (ConstantOf y) n in
      into_does x initial s n from to (Emission.declared program t.scope more code) _ room (knows_taking limit cuts program c f calls globals mains epar calls_do n k) u.entry wi (free_at n room k) l (λ cs mid len l2.
      does_elaborates limit c f x (ConstantOf y) (f.base + s.scope.free) cs (λ i lt. free_at n room k i (omega (arith, lt, len))) (λ at_ fresh slots.
      decls_does more mid to x t code m body
      (subst (λ n. Knows limit cuts (having (ConstantOf y) at_ (f.base + s.scope.free) cs g) f (object_here s (ConstantOf y) n) env) len (knows_having (ConstantOf y) at_ cs (omega (arith, room, len)) slots new fresh k))
      (suits_as t s refl refl refl refl refl (λ n. refl) u) w l2 j))

  truth_is : {x : Ends} {g : Ghost} {from : Dyn → Step} {to : ℕ} (m n : Stored (Unit {0})) (b : Bool) → Runs limit c f x g any (cond (truth (Values.bit b)) m n) from (λ _ d. on f to [] d) → Runs limit c f x g any (cond b m n) from (λ _ d. on f to [] d)
  truth_is {x} {g} {from} {to} m n b k = subst (λ t. Runs limit c f x g any (cond t m n) from (λ _ d. on f to [] d)) (truth_bit limit cuts c f b) k

  -- one of two ways
  ways : {g : Ghost} {m n : Stored (Unit {0})} (x : Ends) (s : Sight) (a b : Emit) (from to : ℕ) (t : Bool) → s.scope.entry ≡ x.entry → Stands c (choose s.scope 0 0 a b) from to
      → ((from to : ℕ) → Stands c a from to → Acts x g m from to) → ((from to : ℕ) → Stands c b from to → Acts x g n from to)
      → Runs limit c f x g any (cond t m n) (λ d. on f from (Values.bit t ∷ []) d) (λ _ d. on f to [] d)
  ways {g} {m} {n} x s a b from to t en l j k =
      let o = stands_choose c from to s 0 0 a b l in
      truth_is m n t (does_choice limit c f x (Values.bit t) [] (at_entry en o.test)
      (λ _. does_to limit c f x (λ _ d. on f to [] d) (λ _ d _. comes_goes limit c f [] to [] d o.jump refl) (j (from + 1) o.mid o.first))
      (λ _. k (o.mid + 1) to o.second))

  -- by a handler, or those behind it
  handled_does : {g : Ghost} {m n : Stored (Unit {0})} (x : Ends) (handled : Handled) (a b : Emit) (s : Sight) (k from to : ℕ) (r : Reason) → s.scope.entry ≡ x.entry → g.what (f.base + k) ≡ Keeps (pos (reason_number r)) → Stands c (Emission.handled_by handled a b s.scope k) from to
      → ((from to : ℕ) → Stands c a from to → Acts x g m from to) → ((from to : ℕ) → Stands c b from to → Acts x g n from to) → Acts x g (cond (Values.handles_reason handled r) m n) from to
  handled_does x Others a b s k from to r en is l j j' = j from to l
  handled_does {g} x (Reasons rs) a b s k from to r en is l j j' =
      let (m1, l1, l2) = stands_seq c from to (Emission.has_reason s.scope k rs) (choose s.scope 0 0 a b) l in
      does_by limit c f x (λ t d fit. comes_reason limit c f s k from m1 r rs d (number_seen (g.what (f.base + k)) (pos (reason_number r)) t (slice_get d.cells (f.base + k)) (inl is) (fit.cells (f.base + k))) l1)
      (ways x s a b m1 to (Values.has_reason rs r) en l2 j j')

  unnested_same : f.nest ≡ 0 → f.kept ≡ [] → f.rounds ≡ [] → unnested f ≡ f
  unnested_same e k r =
      let z : f.nested - (f.nest - 0) ≡ f.nested = omega (arith, e) in
      ap₂ (λ vs rs. record f { nest = 0; kept = vs; rounds = rs; nested = f.nested - (f.nest - 0) }) (sym k) (sym r) ∙ ap₂ (λ n m. record f { nest = n; nested = m }) (sym e) z

  -- a part with handlers: the reason goes to a cell of its own
  guarded_does : {g : Ghost} {env : Env} {m : Stored (Unit {0})} {h : Reason → Stored (Unit {0})} (x : Ends) (t : Sight) (code : Emit) (body : ℕ → Emit) (from to : ℕ) → Knows limit cuts g f t env → Suits limit c f x t → t.scope.free < t.cells
      → Stands c (Rattle.ada_lower.specs.Sights.guarded t.scope (Emission.keep t.scope 1 t.scope.free ⨟ code) body) from to
      → ((h from to : ℕ) → Stands c (body h) from to → Acts (entered h x) g m from to)
      → ((r : Reason) (g1 : Ghost) (from to : ℕ) → g1.what (f.base + t.scope.free) ≡ Keeps (pos (reason_number r)) → Knows limit cuts g1 f (taking 1 t) env → Stands c code from to → Acts x g1 (h r) from to)
      → Acts x g (stored.handles m (λ how. true && Meaning.raises how) (λ how. stored.bind stored.look (λ _. h (Meaning.reason_of how)))) from to
  guarded_does {g} {env} {m} {h} x t code body from to k u room l j j' =
      let o = stands_guarded c from to t (Emission.keep t.scope 1 t.scope.free ⨟ code) body l in
      let y : Ends = entered (from + 1) x in
      does_handles limit c f x cuts y (λ ts al. al)
      (does_before limit c f y (λ d. comes_goes limit c f [] (from + 1 + 1) [] d o.enter refl)
      (does_to limit c f y (λ _ d. on f to [] d) (λ _ d _. comes_goes limit c f [] to [] d o.past refl) (j (from + 1) (from + 1 + 1) o.mid o.body_)))
      (taken o) past
    where
      taken : Guard c t.scope.entry (Emission.keep t.scope 1 t.scope.free ⨟ code) body from to → (l : Leave) → (true && Meaning.raises l) ≡ true → Runs limit c f x g any (stored.bind stored.look (λ _. h (Meaning.reason_of l))) (λ d. left_by f (entered (from + 1) x) l d) (λ _ d. on f to [] d)
      taken o (Exits n) e = absurd (true≢false (sym e))
      taken o (Returns v) e = absurd (true≢false (sym e))
      taken o (Raises r) e =
          does_bind limit c f x (does_look limit c f x (λ d. on (unnested f) (from + 1) (pos (reason_number r) ∷ []) d)) (λ _ _.
          subst (λ z. Runs limit c f x g any (h r) (λ d. on z (from + 1) (pos (reason_number r) ∷ []) d) (λ _ d. on f to [] d)) (sym (unnested_same u.flat u.kept u.rounds))
          (does_before limit c f x (λ d. comes_goes limit c f (pos (reason_number r) ∷ []) (o.mid + 1) (pos (reason_number r) ∷ []) d o.caught refl)
          (does_hold limit c f x (o.mid + 1) (pos (reason_number r)) [] room k (at_entry u.entry o.handler.0) (λ k1.
          j' r _ (o.mid + 1 + 1) to (what_same g (f.base + t.scope.free) (Keeps (pos (reason_number r)))) k1 o.handler.1))))

      past : (l : Leave) → (true && Meaning.raises l) ≡ false → (d : Dyn) → To limit c (left_by f (entered (from + 1) x) l d) (left_by f x l d)
      past (Exits n) e d = comes_here limit c (x.exits n d)
      past (Returns v) e d = comes_here limit c (x.returns v d)
      past (Raises r) e d = absurd (true≢false e)

  -- ---- items

  abbrev step_emit : Sight → ℕ → ℕ → Emit
  step_emit s stride head = one s.scope 0 (i.LoadL s.scope.free) ⨟ one s.scope 1 (i.Field stride) ⨟ Emission.keep s.scope 1 s.scope.free ⨟ one s.scope 0 (i.Next (s.scope.free + 1) (s.scope.free + 1 + 1) head)

  abbrev item_emit : Sight → ℕ → ℕ → Bool → ℕ → Optional → (Scope → Emit) → ℕ → Emit
  item_emit s number p constant stride filter code exit = one s.scope 0 i.Turn ⨟ Emission.filtered program (item_sight s (Some number) constant p stride exit).scope 0 filter (code (item_sight s (Some number) constant p stride exit).scope)

  abbrev items_emit : Sight → ℕ → ℕ → Bool → ℕ → Optional → (Scope → Emit) → Emit
  items_emit s number p constant stride filter code = looped s.scope 0 true (λ exit. item_emit s number p constant stride filter code exit) (λ head. step_emit s stride head)

  items_loop : {g : Ghost} {env : Env} (x : Ends) (s : Sight) (number p : ℕ) (constant : Bool) (stride count : ℕ) (filter : Optional) (y : Entity) (first total address off at_ to : ℕ) (code : Scope → Emit) (q : ObjectPart) (tests : Env → Stored Bool) (does : Env → Stored (Unit {0}))
      → Knows limit cuts g f s env → Suits limit c f x s → s.scope.free + 1 + 1 < s.cells → Spread g y first total address → q.offset ≡ first + off → off + suc count * stride ≤ total → named_entity constant q.object ≡ y
      → Stands c (Emission.keep s.scope 1 s.scope.free ⨟ one s.scope 0 (i.Push (pos 1)) ⨟ Emission.keep s.scope 1 (s.scope.free + 1) ⨟ one s.scope 0 (i.Push (pos (suc count))) ⨟ Emission.keep s.scope 1 (s.scope.free + 1 + 1) ⨟ items_emit s number p constant stride filter code) at_ to
      → ((exit : ℕ) (env' : Env) (g' : Ghost) (from to : ℕ) → Knows limit cuts g' f (item_sight s (Some number) constant p stride exit) env' → Suits limit c f (leaving_loop number exit x) (item_sight s (Some number) constant p stride exit)
      → Stands c (Emission.filtered program (item_sight s (Some number) constant p stride exit).scope 0 filter (code (item_sight s (Some number) constant p stride exit).scope)) from to
      → Acts (leaving_loop number exit x) g' (stored.bind (tests env') (λ b. cond b (does env') (stored.ret tt))) from to)
      → Runs limit c f x g any (stored.handles (through stored.doings 0 (suc count) tt (λ i _. Meaning.iterate ops (tests (Meaning.with_item constant p (Meaning.moved q (i * stride)) env)) (does (Meaning.with_item constant p (Meaning.moved q (i * stride)) env)))) (Meaning.exits number) (λ _. stored.ret tt)) (λ d. on f at_ (pos (address + off) ∷ []) d) (λ _ d. on f to [] d)
  items_loop {g} {env} x s number p constant stride count filter y first total address off at_ to code q tests does k u room spread qo fits same (jk, (jp1, (jk1, (jp2, (jk2, l))))) body =
      let start : ℕ = at_ + 1 + 1 + 1 + 1 + 1 in
      let a0 : ℕ = address + off in
      let h : ℤ = pos (suc count) in
      let o = stands_looped c start to s 0 true (λ exit. item_emit s number p constant stride filter code exit) (λ head. step_emit s stride head) l in
      let z : Ends = leaving_loop number (start + 1) x in
      let (b1, (b2, (b3, (b4, be)))) = o.back in
      does_keep limit c f x at_ s.scope.free (pos a0) [] (own_free (g.what (f.base + s.scope.free)) (free_one limit cuts c f s k room a0 h h)) (at_entry u.entry jk)
      (does_before limit c f x (λ d. comes_goes limit c f [] (at_ + 1 + 1) (pos 1 ∷ []) d jp1 refl)
      (does_keep limit c f x (at_ + 1 + 1) (s.scope.free + 1) (pos 1) [] (own_free _ (free_two limit cuts c f s k room a0 h h)) (at_entry u.entry jk1)
      (does_before limit c f x (λ d. comes_goes limit c f [] (at_ + 1 + 1 + 1 + 1) (h ∷ []) d jp2 refl)
      (does_keep limit c f x (at_ + 1 + 1 + 1 + 1) (s.scope.free + 1 + 1) h [] (own_free _ (free_three limit cuts c f s k room a0 (pos 1) h)) (at_entry u.entry jk2)
      (exits_does (λ ts al. allows_fewer limit c f x (items_at limit cuts c f s.scope.free a0 (pos 1) h g) g ts (fewer_items limit cuts c f s k room a0 (pos 1) h) al) x number (start + 1) to (at_entry u.entry o.exit)
      (does_before limit c f z (λ d. comes_goes limit c f [] (start + 1 + 1) [] d o.enter refl)
      (subst (λ q'. Doing limit c f z (items_at limit cuts c f s.scope.free a0 (pos 1) h g) g any (through stored.doings 0 (suc count) tt (λ i _. turn i)) (λ d. on f (start + 1 + 1) [] d) (λ _ d. on f q' [] d)) (sym be)
      (subst (λ a. Doing limit c f z (items_at limit cuts c f s.scope.free a (pos 1) h g) g any (through stored.doings 0 (suc count) tt (λ i _. turn i)) (λ d. on f (start + 1 + 1) [] d) (λ _ d. on f (o.mid + 1 + 1 + 1 + 1) [] d)) (let w : a0 + 0 * stride ≡ a0 = omega (arith, zero-mul stride) in w)
      (items_does limit cuts c f (λ _. []) z s k room stride a0 (start + 1 + 1) o.mid h (λ i _. turn i) b1 b2 b3 b4 count 0 tt (omega (arith, ints))
      (λ i le. (let r = near_turn i (omega (arith, le)) in omega (arith, r)))
      (λ i _ le. iterate_does _ _ z (start + 1 + 1) o.mid k.most (at_entry u.entry o.turn.0)
      (body (start + 1) _ _ (start + 1 + 1 + 1) o.mid (knows_turn (start + 1) i (omega (arith, le))) (suits_turn (start + 1)) o.turn.1)))))))))))
    where
      turn : ℕ → Stored (Unit {0})
      turn i = Meaning.iterate ops (tests (Meaning.with_item constant p (Meaning.moved q (i * stride)) env)) (does (Meaning.with_item constant p (Meaning.moved q (i * stride)) env))

      suits_turn : (exit : ℕ) → Suits limit c f (leaving_loop number exit x) (item_sight s (Some number) constant p stride exit)
      suits_turn exit = exit_suits number exit (suits_item constant)
        where
          suits_item : (b : Bool) → Suits limit c f x (with_item b p (record { through = true; place = own s.scope.free; cells = stride }) (taking 3 s))
          suits_item true = suits_as _ s refl refl refl refl refl (λ n. refl) u
          suits_item false = suits_as _ s refl refl refl refl refl (λ n. refl) u

      in_range : (i j : ℕ) → i ≤ count → j < stride → off + i * stride + j < total
      in_range i j le lt = let b : suc i * stride ≤ suc count * stride = mul-le-mul_right stride (let l : suc i ≤ suc count = omega (arith, le) in l) in omega (arith, b, suc-mul i stride, lt, fits)

      near_turn : (i : ℕ) → i ≤ count → address + off + i * stride + stride ≤ g.top
      near_turn i le =
          let r = spread.near in
          let b : suc i * stride ≤ suc count * stride = mul-le-mul_right stride (let l : suc i ≤ suc count = omega (arith, le) in l) in
          omega (arith, r, b, suc-mul i stride, fits)

      knows_turn : (exit i : ℕ) → i ≤ count → Knows limit cuts (items_at limit cuts c f s.scope.free (address + off + i * stride) (pos 1 +ℤ pos i) (pos (suc count)) g) f (item_sight s (Some number) constant p stride exit) (Meaning.with_item constant p (Meaning.moved q (i * stride)) env)
      knows_turn exit i le =
          let e = extends_items limit cuts c f s k room (address + off + i * stride) (pos 1 +ℤ pos i) (pos (suc count)) in
          knows_exit number exit (knows_item constant p (record { through = true; place = own s.scope.free; cells = stride }) (Meaning.moved q (i * stride)) (knows_items limit cuts c f s k room (address + off + i * stride) (pos 1 +ℤ pos i) (pos (suc count)))
          (record {
            address = address + off + i * stride;
            leads = (f.base + s.scope.free, refl, inl (item_at limit cuts c f s.scope.free (address + off + i * stride) (pos 1 +ℤ pos i) (pos (suc count)) g));
            spread = record {
              near = near_turn i le;
              cell = λ j lt.
                  let (pl, access, here, stands) = spread.cell (off + i * stride + j) (in_range i j le lt) in
                  let w : first + (off + i * stride + j) ≡ q.offset + i * stride + j = omega (arith, qo) in
                  let w' : address + (off + i * stride + j) ≡ address + off + i * stride + j = omega arith in
                  (pl, access, ap (λ n. place_in g (named_entity constant q.object) n) (sym w) ∙ ap (λ n. place_in g n (first + (off + i * stride + j))) same ∙ here, e.solid (address + off + i * stride + j) (StandsFor access pl) tt (ap g.what (sym w') ∙ stands));
            };
          }))

  -- what parallel constructs do, where they are as is asked of them
  abbrev pub ParDoes : (Sight → Stmt → Type 0) → Type 0
  ParDoes par = (t : Stmt) (from to : ℕ) (g : Ghost) (env : Env) (x : Ends) (s : Sight) → Knows limit cuts g f s env → Suits limit c f x s → par s t → Stands c (stmt program s.scope t) from to → Acts x g (execs t env) from to

  module _ (par : Sight → Stmt → Type 0) (par_does : ParDoes par) where
    mutual
      unfolding Rattle.ada_lower.specs.Emission.emit Rattle.ada_lower.specs.Emission.stmt Rattle.ada_lower.specs.Emission.back_code Rattle.ada_lower.specs.Emission.piece_values

      pub stmt_does : (t : Stmt) (from to : ℕ) {g : Ghost} {env : Env} (x : Ends) (s : Sight) → Knows limit cuts g f s env → Suits limit c f x s → FittedStmt program globals mains epar par s t → Stands c (stmt program s.scope t) from to → Acts x g (execs t env) from to
      stmt_does Null from to x s k u w l = acts_at from l (does_ret limit c f x {to = λ _ d. on f from [] d} tt tt)
      stmt_does (Assign at r selections (Number check e)) from to x s k u (n, is, reach, ws, we) l =
          assign_does x at r selections check e from to s n k u.entry is reach ws n.through refl we
          (subst (λ o. Stands c (Emission.assigned s.scope o (Emission.is_whole selections) check.scalar (selected program s.scope 1 selections) (λ t h. emit program t h e)) from to) is l)
      stmt_does (Assign at r selections (Cells value)) from to x s k u w l = assign_cells x at r selections value (Emission.composite_width program value) from to s k u.entry w l
      stmt_does (CallProcedure at callee sub actuals) from to {g} {env} x s k suits (u, none', whole, room, w) l =
          let n : ℕ = s.scope.free in
          let t : Sight = passing program sub s in
          let hs : List Shape = shapes program u.unit.formals in
          let count : ℕ = shapes_cells hs in
          let (m, l1, (j, l2)) = stands_seq c from to (Emission.passed program t.scope 0 sub n actuals) (one s.scope 0 (i.CallAt (sub + 1) n) ⨟ Emission.back_code program s.scope sub n actuals) l in
          let kt : Knows limit cuts g f t env = record { most = k.most; nested = k.nested; plan = k.plan; kept = k.kept; top = k.top; beyond = k.beyond; global = k.global; outside = k.outside; one = k.one; old = k.old; hidden = k.hidden; object = k.object; parameter = k.parameter; item = k.item; constant_item = k.constant_item; target = k.target; handled = k.handled; free = λ i le lt. k.free i (omega (arith, le)) lt } in
          let free : (i : ℕ) → i < count → g.what (f.base + n + i) ≡ Free = (λ i lt. (let e : f.base + n + i ≡ f.base + (n + i) = omega arith in ap g.what e) ∙ k.free (n + i) (omega arith) (omega (arith, lt, whole, room))) in
          passed_all limit cuts program c f x calls globals mains epar calls_do actuals from m t 0 sub n count (spots 0 hs) [] [] _ kt (passing_none n hs (omega (arith, whole)) room free kt) suits.entry w l1 (λ ps suited targets.
          let have : HaveCells count ps = have_cells hs ps suited in
          also_then limit c f x {h = scattering (f.base + n) (aheads ps) g} {j = g} {k = λ r. Meaning.all_copied_back ops limit program calls (all_passed ps) r.cells} (λ t d w. fit_unscattered (f.base + n) count (aheads ps) g (aheads_in count ps have) free w)
          (called_plainly (calls_do.called f.rounds) x t sub n m [] ps (record { unit = u.unit; is = u.is; outer = u.outer; main = u.main }) kt whole room suited free (at_entry suits.entry j))
          (λ r t' d fit bs.
          let G : Ghost = scattering (f.base + n) (backs ps r.cells) g in
          let lie : AreIn count (backs ps r.cells) = backs_in count (f.base + n) ps r.cells d.cells have bs in (
            G,
            fit_backs (f.base + n) count ps r.cells g have free bs fit,
            (λ ts al. allows_fewer limit c f x (scattering (f.base + n) (pieces ps) g) G ts (λ b y p e. fewer_scattered limit c f x (f.base + n) count (pieces ps) g (pieces_in count ps have) free b y p (stands_scattered (f.base + n) (backs ps r.cells) g.what b y p e)) al),
            does_weak limit c f x (λ t d' w. fit_unscattered (f.base + n) count (backs ps r.cells) g lie free w)
                (subst (λ p. Runs limit c f x G any (Meaning.all_copied_back ops limit program calls (all_passed ps) r.cells) (λ d. on f (m + 1) (given p r.value ++ []) d) (λ _ d. on f to [] d)) (sym none')
                (back_all limit cuts program c f x calls globals mains epar actuals (m + 1) to s sub n ps r.cells G suits.entry (targets_more program sub n actuals ps (ext_scattered (f.base + n) count (backs ps r.cells) g lie free) targets)
                (λ a b z w pl e e'. k.one a b z w pl (stands_scattered (f.base + n) (backs ps r.cells) g.what a z pl e) (stands_scattered (f.base + n) (backs ps r.cells) g.what b w pl e'))
                (kept_backs G d.cells (f.base + n) count ps r.cells g.what (λ b. refl) have bs) l2)),
          )))
      stmt_does (Exit loop Absent) from to x s k u w l =
          does_returned limit c f x _ true (does_is limit c f x (Err (Left (Exits loop))) (λ t. leaves_is (Exits loop) t) (λ d. exits_known loop from to u w.0 l d))
      stmt_does (Exit loop (Present e)) from to x s k u w l =
          let (m, l1, l2) = stands_seq c from to (emit program s.scope 0 e) (when_ s.scope 0 (exiting s.scope loop (s.scope.exits loop))) l in
          let (at, l3) = stands_when c m to s 0 (exiting s.scope loop (s.scope.exits loop)) l2 in
          does_bind limit c f x (test_false x e from m to s 0 [] k u.entry w.1 l1 (at_entry u.entry at)) (λ b _.
          branch b (does_is limit c f x (Err (Left (Exits loop))) (λ t. leaves_is (Exits loop) t) (λ d. exits_known loop (m + 1) to u w.0 l3 d)) (does_ret limit c f x {to = λ _ d. on f to [] d} tt tt))
      stmt_does Return from to x s k u w l = does_is limit c f x (Err (Left (Returns None))) (λ t. leaves_is (Returns None) t) (λ d. u.returns s from to l d)
      stmt_does (ReturnValue (Number check e)) from to {g} x s k u w l =
          let (m, num, l2) = number_does x check e from to s s 0 (returning_value s.scope s.scope.leaving) [] k u.entry u.entry w l in
          does_bind limit c f x num (λ cs one'.
          subst (λ o. Runs limit c f x {A = Unit {0}} g any (stored.leaves (Returns o)) (λ d. on f m (first_of cs ∷ []) d) (λ _ d. on f to [] d)) (sym (ap (λ z. slice_get z 0) one'))
          (does_is limit c f x (Err (Left (Returns (Some (first_of cs))))) (λ t. leaves_is (Returns (Some (first_of cs))) t) (λ d. u.gives s m to (first_of cs) l2 d)))
      stmt_does (ReturnValue (Cells value)) from to x s k u w l = absurd w
      stmt_does (Raise r) from to x s k u w l = does_is limit c f x (Err (Left (Raises r))) (λ s. leaves_is (Raises r) s) (λ d. comes_fails limit c f [] [] r d (at_entry u.entry l.0) refl)
      stmt_does Reraise from to {g} {env} x s k u (h, e) l =
          let (j1, (j2, z)) = subst (λ o. Stands c (handled_target s.scope o) from to) e l in
          does_by limit c f x (λ t d fit. comes_number limit c f h (pos (reason_number env.handled)) [] d fit (k.handled h e) j1)
          (does_is limit c f x (Err (Left (Raises env.handled))) (λ s. leaves_is (Raises env.handled) s)
          (λ d. comes_fails limit c f (pos (reason_number env.handled) ∷ []) [] env.handled d (at_entry u.entry j2) (ap (λ r. Fails r f.below) (reason_back env.handled))))
      stmt_does (IfThen condition stmts End) from to x s k u w l =
          let (m, l1, l2) = stands_seq c from to (emit program s.scope 0 condition) (when_ s.scope 0 (all program s.scope stmts)) l in
          let (at, l3) = stands_when c m to s 0 (all program s.scope stmts) l2 in
          does_bind limit c f x (value_does limit cuts program c f x calls globals mains epar calls_do condition from m s 0 [] k u.entry w.0 l1) (λ v _.
          does_choice limit c f x v [] (at_entry u.entry at) (λ _. all_does stmts (m + 1) to x s k u w.1 l3) (λ _. does_ret limit c f x {to = λ _ d. on f to [] d} tt tt))
      stmt_does (IfThen condition stmts (Then first more)) from to x s k u w l =
          let (m, l1, l2) = stands_seq c from to (emit program s.scope 0 condition) (choose s.scope 0 0 (all program s.scope stmts) (stmt program s.scope first ⨟ all program s.scope more)) l in
          let way = stands_choose c m to s 0 0 (all program s.scope stmts) (stmt program s.scope first ⨟ all program s.scope more) l2 in
          let (m2, l3, l4) = stands_seq c (way.mid + 1) to (stmt program s.scope first) (all program s.scope more) way.second in
          does_bind limit c f x (value_does limit cuts program c f x calls globals mains epar calls_do condition from m s 0 [] k u.entry w.0 l1) (λ v _.
          does_choice limit c f x v [] (at_entry u.entry way.test)
          (λ _. does_to limit c f x (λ _ d. on f to [] d) (λ _ d _. comes_goes limit c f [] to [] d way.jump refl) (all_does stmts (m + 1) way.mid x s k u w.1 way.first))
          (λ _. does_bind limit c f x (stmt_does first (way.mid + 1) m2 x s k u w.2.0 l3) (λ _ _. all_does more m2 to x s k u w.2.1 l4)))
      stmt_does (Loop number Absent stmts) from to {g} x s k u w l =
          let o = stands_looped c from to s 0 false (λ exit. one s.scope 0 i.Turn ⨟ all program (with_exit number exit s).scope stmts) (λ head. one s.scope 0 (i.Jump head)) l in
          let y : Ends = leaving_loop number (from + 1) x in
          exits_does (λ ts al. al) x number (from + 1) to (at_entry u.entry o.exit)
          (does_before limit c f y (λ d. comes_goes limit c f [] o.mid [] d o.enter refl)
          (while_does limit cuts c f y _ _ (from + 1 + 1) o.mid to k.most (at_entry u.entry o.turn.0)
          (λ n. does_before limit c f y (λ d. comes_goes limit c f [] (from + 1 + 1) [] d o.back.0 refl) (does_ret limit c f y {to = λ b d. cond b (on f (from + 1 + 1) [] d) (on f to [] d)} true tt))
          (λ n. all_does stmts (from + 1 + 1 + 1) o.mid y (with_exit number (from + 1) s) (knows_exit number (from + 1) (knows_least n k)) (exit_suits number (from + 1) u) (w.1 (from + 1)) o.turn.1)
          (suc limit) g.least (omega arith) (le_refl g.least)))
      stmt_does (Loop number (Present e) stmts) from to {g} {env} x s k u w l =
          let o = stands_looped c from to s 0 false (λ exit. one s.scope 0 i.Turn ⨟ all program (with_exit number exit s).scope stmts) (λ head. emit program s.scope 0 e ⨟ one s.scope 1 (i.JTrue head)) l in
          let y : Ends = leaving_loop number (from + 1) x in
          let (m, l1, (at, z)) = stands_seq c o.mid to (emit program s.scope 0 e) (one s.scope 1 (i.JTrue (from + 1 + 1))) o.back in
          exits_does (λ ts al. al) x number (from + 1) to (at_entry u.entry o.exit)
          (does_before limit c f y (λ d. comes_goes limit c f [] o.mid [] d o.enter refl)
          (while_does limit cuts c f y _ _ (from + 1 + 1) o.mid to k.most (at_entry u.entry o.turn.0)
          (λ n. subst (λ q. Runs limit c f y (least_at n g) any (Meaning.holds ops limit program calls (Present e) env) (λ d. on f o.mid [] d) (λ b d. cond b (on f (from + 1 + 1) [] d) (on f q [] d))) (sym z)
          (test_true y e o.mid m (from + 1 + 1) s 0 [] (knows_least n k) u.entry w.0 l1 (at_entry u.entry at)))
          (λ n. all_does stmts (from + 1 + 1 + 1) o.mid y (with_exit number (from + 1) s) (knows_exit number (from + 1) (knows_least n k)) (exit_suits number (from + 1) u) (w.1 (from + 1)) o.turn.1)
          (suc limit) g.least (omega arith) (le_refl g.least)))
      stmt_does (Case e alternatives) from to {g} x s k u (room, we, w) l =
          let (m1, l1, (j, l2)) = stands_seq c from to (emit program s.scope 0 e) (Emission.keep s.scope 1 s.scope.free ⨟ Emission.cases program (taking 1 s).scope s.scope.free alternatives) l in
          does_bind limit c f x (value_does limit cuts program c f x calls globals mains epar calls_do e from m1 s 0 [] k u.entry we l1) (λ v _.
          does_hold limit c f x m1 v [] room k (at_entry u.entry j) (λ k1.
          cases_does alternatives (m1 + 1) to x (taking 1 s) s.scope.free v (what_same g (f.base + s.scope.free) (Keeps v)) k1 (suits_as (taking 1 s) s refl refl refl refl refl (λ n. refl) u) w l2))
      stmt_does (For number (Range p reverse low high check filter) stmts) from to {g} {env} x s k u (room, wl, wh, w) l =
          course_does limit cuts c f x s 0 p reverse (emit program s.scope 0 low) (emit program (taking 1 s).scope 0 high) (Meaning.eval ops limit program calls low env) (Meaning.eval ops limit program calls high env) check (loop_emit s number p reverse filter (λ t. all program t stmts)) from to [] _ k u.entry room
          (λ from to l. value_does limit cuts program c f x calls globals mains epar calls_do low from to s 0 [] k u.entry wl l) (λ from to g' k' l. value_does limit cuts program c f x calls globals mains epar calls_do high from to (taking 1 s) 0 [] k' u.entry wh l) l
          (λ l h e. for_none (λ t d w. fit_uncount limit cuts c f s l h room k t d w) x number to _ (Values.count l h) (count_none limit cuts c f l h e))
          (λ l h start e at. range_loop x s number p reverse filter l h start to (λ t. all program t stmts) (λ env. Meaning.holds ops limit program calls filter env) (λ env. executes stmts env) k u room e at
          (λ exit env' g' from to k' u' at'. filtered_does (leaving_loop number exit x) filter (all program (range_sight s (Some number) p reverse exit).scope stmts) from to (range_sight s (Some number) p reverse exit) 0 k' u'.entry (w exit).0 at'
          (λ from at''. all_does stmts from to (leaving_loop number exit x) (range_sight s (Some number) p reverse exit) k' u' (w exit).1 at'')))
      stmt_does (For number (Components p constant at r selections zero stride dimensions filter) stmts) from to {g} {env} x s k u (room, (n, e, reach), ws, w) l =
          let o : ObjectPart = Meaning.array_root constant r env in
          let v : Refers g f n (named_entity constant o.object) o.offset = array_refers constant r n k e in
          let turn : ObjectPart → ℕ → Stored (Unit {0}) = (λ q j. Meaning.iterate ops (Meaning.filtered ops limit program calls (Components p constant at r selections 0 stride dimensions filter) (Meaning.with_item constant p (Meaning.moved q (j * stride)) env)) (executes stmts (Meaning.with_item constant p (Meaning.moved q (j * stride)) env))) in
          let rest : Emit = Emission.keep s.scope 1 s.scope.free ⨟ none in
          let free1 : g.what (f.base + s.scope.free) ≡ Free = k.free s.scope.free (le_refl s.scope.free) (omega (arith, room)) in
          let (m1, l1, l2) = stands_seq c from to (Emission.address s.scope 0 (Emission.array_root_of constant s.scope r)) (selected program s.scope 1 selections ⨟ rest) (stands_assoc3 c from to (Emission.address s.scope 0 (Emission.array_root_of constant s.scope r)) (selected program s.scope 1 selections) (Emission.keep s.scope 1 s.scope.free) none l) in
          let (m2, l3, (keep, z2)) = stands_seq c m1 to (selected program s.scope 1 selections) rest l2 in
          let (j1, z1) = address_stands limit cuts program c f x calls globals mains epar calls_do s 0 (Emission.array_root_of constant s.scope r) n from m1 e l1 in
          does_assoc limit c f x _ _ _
          (does_bind limit c f x (named_does limit cuts program c f x calls globals mains epar calls_do from m1 n (named_entity constant o.object) o.offset [] v j1 z1
          (selected_does limit cuts program c f x calls globals mains epar calls_do selections m1 m2 s 1 [] o v.address o.offset n.cells n.cells (0 * stride) k u.entry ws reach (le_refl o.offset) (le_refl (o.offset + n.cells)) v.spread.near l3)) (λ q at_.
          does_returned limit c f x _ _
          (does_keep limit c f x m2 s.scope.free (pos (v.address + (q.offset - o.offset))) [] (own_free (g.what (f.base + s.scope.free)) free1) (at_entry u.entry keep)
          (subst (λ q'. Doing limit c f x (set_what (f.base + s.scope.free) (Keeps (pos (v.address + (q.offset - o.offset)))) g) g any (stored.handles (through stored.doings 0 0 tt (λ j _. turn q j)) (Meaning.exits number) (λ _. stored.ret tt)) (λ d. on f q' [] d) (λ _ d. on f to [] d)) z2
          (for_none (λ t d w. fit_unset (f.base + s.scope.free) (pos (v.address + (q.offset - o.offset))) free1 w) x number to (turn q) 0 refl)))))
      stmt_does (For number (Components p constant at r selections (suc count) stride dimensions filter) stmts) from to {g} {env} x s k u (room, (n, e, reach), ws, w) l =
          let o : ObjectPart = Meaning.array_root constant r env in
          let v : Refers g f n (named_entity constant o.object) o.offset = array_refers constant r n k e in
          let turns : Emit = one s.scope 0 (i.Push (pos 1)) ⨟ Emission.keep s.scope 1 (s.scope.free + 1) ⨟ one s.scope 0 (i.Push (pos (suc count))) ⨟ Emission.keep s.scope 1 (s.scope.free + 1 + 1) ⨟ items_emit s number p constant stride filter (λ t. all program t stmts) in
          let many : Emit = cond (nat_eq (suc count) 0) none turns in
          let rest : Emit = Emission.keep s.scope 1 s.scope.free ⨟ many in
          let some : nat_eq (suc count) 0 ≡ false = ne_eqb (suc count) 0 (λ e. omega (arith, e)) in
          let (m1, l1, l2) = stands_seq c from to (Emission.address s.scope 0 (Emission.array_root_of constant s.scope r)) (selected program s.scope 1 selections ⨟ rest) (stands_assoc3 c from to (Emission.address s.scope 0 (Emission.array_root_of constant s.scope r)) (selected program s.scope 1 selections) (Emission.keep s.scope 1 s.scope.free) many l) in
          let (m2, l3, l4) = stands_seq c m1 to (selected program s.scope 1 selections) rest l2 in
          let (j1, z1) = address_stands limit cuts program c f x calls globals mains epar calls_do s 0 (Emission.array_root_of constant s.scope r) n from m1 e l1 in
          does_assoc limit c f x _ _ _
          (does_bind limit c f x (named_does limit cuts program c f x calls globals mains epar calls_do from m1 n (named_entity constant o.object) o.offset [] v j1 z1
          (selected_does limit cuts program c f x calls globals mains epar calls_do selections m1 m2 s 1 [] o v.address o.offset n.cells n.cells (suc count * stride) k u.entry ws reach (le_refl o.offset) (le_refl (o.offset + n.cells)) v.spread.near l3)) (λ q at_.
          does_returned limit c f x _ _
          (items_loop x s number p constant stride count filter (named_entity constant o.object) o.offset n.cells v.address (q.offset - o.offset) m2 to (λ t. all program t stmts) q (λ env. Meaning.holds ops limit program calls filter env) (λ env. executes stmts env) k u room v.spread
          (let b = at_.1 in omega (arith, b)) (let b = at_.1 in let b' = at_.2 in omega (arith, b, b')) (ap (λ z. named_entity constant z) at_.0) (subst (λ b. Stands c (Emission.keep s.scope 1 s.scope.free ⨟ cond b none turns) m2 to) some l4)
          (λ exit env' g' from to k' u' at'. filtered_does (leaving_loop number exit x) filter (all program (item_sight s (Some number) constant p stride exit).scope stmts) from to (item_sight s (Some number) constant p stride exit) 0 k' u'.entry (w exit).0 at'
          (λ from at''. all_does stmts from to (leaving_loop number exit x) (item_sight s (Some number) constant p stride exit) k' u' (w exit).1 at'')))))
      stmt_does (ParallelFor number site chunk iteration stmts) from to {g} {env} x s k u w l = par_does (ParallelFor number site chunk iteration stmts) from to g env x s k u w l
      stmt_does (Parallel site count arms) from to {g} {env} x s k u w l = par_does (Parallel site count arms) from to g env x s k u w l
      stmt_does (Block decls stmts NoHandler) from to x s k u w l =
          decls_does decls from to x s (λ t. all program t stmts) _ (λ t. FittedAll program globals mains epar par t stmts) k u w l (λ t g' from' k' u' w' l'.
          does_handles limit c f x cuts x (λ ts al. al) (all_does stmts from' to x t k' u' w' l') (λ l e. absurd (true≢false (sym e))) (λ l e d. comes_here limit c (left_by f x l d)))
      stmt_does (Block decls stmts (Handler handled first rest)) from to {g} {env} x s k u w l =
          decls_does decls from to x s (λ t. guarded t (Emission.keep t 1 t.free ⨟ Emission.handled_by handled (all program (scope.with_handled (own t.free) (scope.taking 1 t)) first) (Emission.handling program (scope.with_handled (own t.free) (scope.taking 1 t)) t.free rest) (scope.with_handled (own t.free) (scope.taking 1 t)) t.free) (λ h. all program (scope.with_entry h t) stmts)) _ (λ t. (t.scope.free < t.cells) × ((h : ℕ) → FittedAll program globals mains epar par (with_entry h t) stmts) × FittedAll program globals mains epar par (with_handled (own t.scope.free) (taking 1 t)) first × FittedHandlers program globals mains epar par (with_handled (own t.scope.free) (taking 1 t)) rest) k u w l (λ t g' from' k' u' (room, w0, w1, w2) l'.
          let t' : Sight = with_handled (own t.scope.free) (taking 1 t) in
          guarded_does x t (Emission.handled_by handled (all program t'.scope first) (Emission.handling program t'.scope t.scope.free rest) t'.scope t.scope.free) (λ h. all program (with_entry h t).scope stmts) from' to k' u' room l'
          (λ h from to l. all_does stmts from to (entered h x) (with_entry h t) (knows_entry h k') (suits_entry h u') (w0 h) l)
          (λ r g1 from to is k1 l. handled_does x handled (all program t'.scope first) (Emission.handling program t'.scope t.scope.free rest) t' t.scope.free from to r u'.entry is l
          (λ from to l. all_does first from to x t' (knows_handled (own t.scope.free) r k1 (f.base + t.scope.free, refl, inl is)) (suits_as t' t refl refl refl refl refl (λ n. refl) u') w1 l)
          (λ from to l. handlers_does rest from to env x t' t.scope.free r is (knows_handled (own t.scope.free) r k1 (f.base + t.scope.free, refl, inl is)) (suits_as t' t refl refl refl refl refl (λ n. refl) u') w2 l)))
      stmt_does (Put at callee pieces line) from to {g} {env} x s k u (room, w) l =
          let (m1, l1, l2) = stands_seq c from to (Emission.piece_values program s.scope pieces) (Emission.piece_texts s.scope s.scope.free pieces ⨟ one s.scope 0 (Emission.send_instr line)) l in
          let (m2, l3, (j, z)) = stands_seq c m1 to (Emission.piece_texts s.scope s.scope.free pieces) (one s.scope 0 (Emission.send_instr line)) l2 in
          let free : (i : ℕ) → i < Emission.piece_cells pieces → g.what (f.base + s.scope.free + i) ≡ Free = (λ i lt. free_at (Emission.piece_cells pieces) room k i lt) in
          written_does limit cuts program c f calls globals mains epar calls_do pieces from m1 x s s.scope.free 0 [] [] _ k u.entry (omega arith) (omega (arith, room)) (λ i lt. free i (omega (arith, lt))) w refl l1 (λ us len.
          does_first limit c f x (fewer_kept_back limit cuts program c f x calls globals mains epar calls_do (f.base + s.scope.free) us g (λ i lt. free i (omega (arith, lt, len))))
          (λ t d fit. (
            d,
            fit_unkept (f.base + s.scope.free) us g (λ i lt. free i (omega (arith, lt, len))) fit,
            text_comes limit cuts program c f calls globals mains epar calls_do s s (λ b e. subst (λ z. slice_get z (s.scope.text b) ≡ Some b) u.texts e) pieces us s.scope.free m1 m2 t d [] len w (λ i v is. laid_in (f.base + s.scope.free) 0 kept_what us g.what i v is) fit l3,
          ))
          (subst (λ q. Runs limit c f x g any (stored.puts (cond line (Emission.bytes_of pieces us ++ (10 ∷ [])) (Emission.bytes_of pieces us))) (λ d. On (path f m2 [] (Emission.bytes_of pieces us) None d)) (λ _ d. on f q [] d)) (sym z)
          (sends_does limit cuts program c f calls globals mains epar calls_do x m2 line (Emission.bytes_of pieces us) (at_entry u.entry j))))
      stmt_does (Get at callee first r selections scalar) from to {g} {env} x s k u ((n, is, reach), ws) l =
          let o : ObjectPart = variable_root r env in
          let v : Refers g f n (VariableOf o.object) o.offset = root_refers r n k is in
          let last : Emit = one s.scope 1 i.Get ⨟ Emission.checked s.scope 2 scalar ⨟ one s.scope 2 i.Store in
          let (m1, l1, l2) = stands_seq c from to (Emission.address s.scope 0 (root_of s.scope r)) (selected program s.scope 1 selections ⨟ last) l in
          let (m2, l3, (get, (check, (store, z)))) = stands_seq c m1 to (selected program s.scope 1 selections) last l2 in
          let (j1, z1) = address_stands limit cuts program c f x calls globals mains epar calls_do s 0 (root_of s.scope r) n from m1 is l1 in
          does_bind limit c f x
          (named_does limit cuts program c f x calls globals mains epar calls_do from m1 n (VariableOf o.object) o.offset [] v j1 z1
          (selected_does limit cuts program c f x calls globals mains epar calls_do selections m1 m2 s 1 [] o v.address o.offset n.cells n.cells 1 k u.entry ws reach (le_refl o.offset) (le_refl (o.offset + n.cells)) v.spread.near l3))
          (λ p at_.
          let a : ℕ = v.address + (p.offset - o.offset) in
          let (pl, access, here, stands) = v.spread.cell (p.offset - o.offset) (let b = at_.1 in let b' = at_.2 in omega (arith, b, b')) in
          let y : o.offset + (p.offset - o.offset) ≡ p.offset = (let b = at_.1 in omega (arith, b)) in
          let here' : place_in g (VariableOf p.object) p.offset ≡ Some pl = ap (λ z. place_in g (VariableOf z) p.offset) at_.0 ∙ ap (λ z. place_in g (VariableOf o.object) z) (sym y) ∙ here in
          does_bind limit c f x (does_got limit cuts c f x (pos a ∷ []) k.most (at_entry u.entry get)) (λ w _.
          does_bind limit c f x (does_check limit c f x RangeCheck first scalar w (Values.is_in scalar w) (pos a ∷ []) refl (at_entry u.entry check)) (λ _ _.
          does_write limit c f x p.object p.offset a w pl access here' stands (λ b z e. k.one a b access z pl stands e)
          (λ t d mine. subst (λ q. To limit c (on f (m2 + 1 + 1) (w ∷ pos a ∷ []) d) (on f q [] (record d { cells = set d.cells a (Mine w) }))) (sym z)
          (comes_stores limit c f a w t (w ∷ pos a ∷ []) [] d store refl mine)))))

      cases_does : (as' : Alternatives) (from to : ℕ) {g : Ghost} {env : Env} (x : Ends) (s : Sight) (n : ℕ) (v : ℤ) → g.what (f.base + n) ≡ Keeps v → Knows limit cuts g f s env → Suits limit c f x s → FittedAlternatives program globals mains epar par s as' → Stands c (Emission.cases program s.scope n as') from to
          → Acts x g (Meaning.exec_chosen ops limit program calls as' v env) from to
      cases_does NoAlternative from to x s n v is k u w l =
          does_is limit c f x (Err (Left (Raises reason.ConstraintError))) (λ t. leaves_is (Raises reason.ConstraintError) t) (λ d. comes_fails limit c f [] [] reason.ConstraintError d (at_entry u.entry l.0) refl)
      cases_does (Alternative true choices mentions stmts rest) from to x s n v is k u w l = all_does stmts from to x s k u w.0 l
      cases_does (Alternative false choices mentions stmts rest) from to {g} x s n v is k u w l =
          let (m1, l1, l2) = stands_seq c from to (Emission.chosen s.scope n choices) (choose s.scope 0 0 (all program s.scope stmts) (Emission.cases program s.scope n rest)) l in
          does_by limit c f x (λ t d fit. comes_chosen limit c f s n from m1 v choices d (number_seen (g.what (f.base + n)) v t (slice_get d.cells (f.base + n)) (inl is) (fit.cells (f.base + n))) l1)
          (ways x s (all program s.scope stmts) (Emission.cases program s.scope n rest) m1 to (Values.is_chosen choices v) u.entry l2 (λ from to l. all_does stmts from to x s k u w.0 l) (λ from to l. cases_does rest from to x s n v is k u w.1 l))

      handlers_does : (hs : Handlers) (from to : ℕ) {g : Ghost} (env : Env) (x : Ends) (s : Sight) (n : ℕ) (r : Reason) → g.what (f.base + n) ≡ Keeps (pos (reason_number r)) → Knows limit cuts g f s (Meaning.with_handled r env) → Suits limit c f x s → FittedHandlers program globals mains epar par s hs → Stands c (Emission.handling program s.scope n hs) from to
          → Acts x g (Meaning.exec_handler ops limit program calls hs r env) from to
      handlers_does NoHandler from to env x s n r is k u w (j1, (j2, z)) =
          does_by limit c f x (λ t d fit. comes_kept limit cuts c f n (pos (reason_number r)) [] d fit is j1)
          (does_is limit c f x (Err (Left (Raises r))) (λ t. leaves_is (Raises r) t)
          (λ d. comes_fails limit c f (pos (reason_number r) ∷ []) [] r d (at_entry u.entry j2) (ap (λ r. Fails r f.below) (reason_back r))))
      handlers_does (Handler handled stmts rest) from to {g} env x s n r is k u w l =
          handled_does x handled (all program s.scope stmts) (Emission.handling program s.scope n rest) s n from to r u.entry is l
          (λ from to l. all_does stmts from to x s k u w.0 l) (λ from to l. handlers_does rest from to env x s n r is k u w.1 l)

      pub all_does : (ts : Stmts) (from to : ℕ) {g : Ghost} {env : Env} (x : Ends) (s : Sight) → Knows limit cuts g f s env → Suits limit c f x s → FittedAll program globals mains epar par s ts → Stands c (all program s.scope ts) from to → Acts x g (executes ts env) from to
      all_does End from to x s k u w l = acts_at from l (does_ret limit c f x {to = λ _ d. on f from [] d} tt tt)
      all_does (Then first more) from to x s k u w l =
          let (m, l1, l2) = stands_seq c from to (stmt program s.scope first) (all program s.scope more) l in
          does_bind limit c f x (stmt_does first from m x s k u w.0 l1) (λ _ _. all_does more m to x s k u w.1 l2)
