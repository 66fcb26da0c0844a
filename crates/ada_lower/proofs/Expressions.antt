-- The code of an expression does what the expression does.
use Rattle.std.proofs.Common.{◌≡◌, ℕ, zero, suc, ◌+◌, ◌-◌, ◌*◌, ◌<◌, ◌≤◌, ℤ, pos, ◌-ℤ◌, List, [], ◌∷◌, ◌++◌, length, slice_get, nat_eq, Option, Some, None, Bool, true, false, not, cond, refl, sym, ap, ◌∙◌, subst, le_refl, arith, inl, append-nil, append_assoc}
use Rattle.behaviours.specs.Paths.{Entity, VariableOf, ConstantOf}
use Rattle.behaviours.specs.Doings.{folded}
use Rattle.typed_tree.specs.declared.expressions.Reducer.{Reducer}
use Rattle.typed_tree.specs.declared.expressions.Reducer.TheVariants.{Operator, Function}
use Rattle.typed_tree.specs.declared.expressions.Iterated.{Iterated}
use Rattle.typed_tree.specs.declared.expressions.Run.{Run}
use Rattle.typed_tree.specs.Syntax.{Expr, Static, Variable, Constant, Parameter, Target, Group, Unary, Binary, AndThen, OrElse, Relation, Membership, If, Call, Convert, Reduction, Range, Components, Optional, Absent, Present, Selections, Whole, Field, Index, Actuals, NoActual, In, InOut, Out, CompositeInOut, CompositeOut, Number, Cells, Program, Value, Composite, WholeVariable, WholeConstant, WholeTarget, CompositeIf, Aggregate, Associations, NoAssociation, Association}
use Rattle.ada_meaning.specs.Values
use Rattle.ada_meaning.specs.Values.{between, truth, bit, to_nat, count, compares}
use Rattle.ada_meaning.specs.Operations.{RangeCheck, Operations, operate, reduce}
use Rattle.ada_meaning.specs.Stored as stored
use Rattle.ada_meaning.specs.Stored.{Stored}
use Rattle.ada_meaning.specs.Meaning.{Env, ObjectPart, Passed, Returned, variable_root, constant_root}
use Rattle.stack_code.specs.declared.code.Code.{Code}
use Rattle.ada_base.specs.Cells.{value_in}
use Rattle.stack_code.specs.Deeds.{GoesOn}
use Rattle.ada_lower.specs.Driven.{Dyn, Fixed, Step, on, At}
use Rattle.ada_lower.specs.Sights.{Emit, Named, Sight, Stands, constant_root_of, item_sight, iterated_sight, none, one, own, passing, range_sight, root_of, taking, ◌⨟◌}
use Rattle.ada_lower.specs.Emission
use Rattle.ada_lower.specs.Emission.{emit, read, selected, binary_instr, unary_instr, compare_instr, Shape, shapes, shapes_cells}
use Rattle.ada_lower.specs.Fits.{Free, Keeps, Ghost, Ends, Spread, Refers, Knows, Fit}
use Rattle.ada_lower.specs.Fitted.{Spot, spot, spots, Reaches, Fitted, FittedFold, FittedOptional, FittedSelections, FittedIn, FittedAssociations, FittedComponent, FittedComposite, FittedGiven, FittedRuns}
use Rattle.ada_lower.proofs.Framework.{any, To, Doing, comes_here, comes_on, comes_goes, does_ret, does_bind, does_seq, does_assoc, does_before, does_returned}
use Rattle.ada_lower.proofs.Memory.{number_seen, set_what, own_free, fit_unset, what_same, what_other, fit_alike, IsOwn}
use Rattle.ada_lower.proofs.Standing.{stands_seq, stands_assoc3, stands_choose, stands_when}
use Rattle.ada_lower.proofs.Parts.{Runs, allows_fewer, does_first, does_keep, does_operate, does_check, does_set}
use Rattle.ada_lower.proofs.Declared.{keeping, knows_kept}
use Rattle.ada_lower.proofs.Blocks.{fit_unkept}
use Rattle.ada_lower.proofs.Calls.{called_plainly, given}
use Rattle.ada_lower.proofs.Inner.{InnerDo, inner_rounds}
pub use Rattle.ada_lower.proofs.Courses.{at_entry}
use Rattle.ada_lower.proofs.Items.{named_entity, array_refers, items_folds}
use Rattle.ada_lower.proofs.Courses.{comes_kept, course_does, fit_uncount, count_none, range_folds, folds_none, turn_folds, tests}
use Rattle.ada_lower.proofs.Sent.{Sent, HaveCells, sent_in, suits_in, all_passed, pieces, aheads, pieces_in, aheads_in, have_cells, AreSuited, also_then}
use Rattle.ada_lower.proofs.Scattered.{AreFree, scattering, fit_unscattered, fewer_scattered, both_kept}
use Rattle.ada_lower.proofs.Passing.{Passing, passing_none, passing_more, placing}
use Rattle.ada_lower.proofs.Indexing.{index_does, item_does, named_index_does, named_item_does}
use Rattle.ada_lower.proofs.Names.{root_refers, constant_root_refers, index_below, comes_field, does_by, does_load, comes_address, comes_number}
use Rattle.std.proofs.lemmas.Bool.{ne_eqb}
use Rattle.ada_lower.proofs.Copies.{does_copy}
use Rattle.ada_lower.proofs.Plain.{s_value}
use Rattle.ada_meaning.specs.Meaning
use Rattle.stack_code.specs.declared.instr.Instr.TheVariants as i
pub use Rattle.ada_lower.proofs.Operands.{does_hold, address_stands, load_stands, named_does, knows_two, fewer_kept_back, fewer_one_more}
use Rattle.ada_lower.proofs.Operands.{ends_at, push_does, unary_does, operated_does, compare_deed, choice_does, reads_at, reads_by, comes_within, comes_negated, rows, ends_ret}
use Rattle.ada_lower.proofs.Aggregates as aggregates
pub use Rattle.ada_lower.proofs.Aggregates.{spread_part}
use Rattle.ada_lower.proofs.Aggregates.{each_plain, all_runs, all_turnings, component_does, zeros_length, fewer_kept, fill_goes, either_do, turn_env, turn_values}
use Rattle.ada_lower.proofs.Repeated.{Anywhere, all_repeated}
use Rattle.ada_lower.proofs.Rounds.{with_rounds}

module _ (limit : ℕ) (cuts : ℕ → ℕ → List ℕ) (program : Program) (c : Code) (f : Fixed) (x : Ends) (calls : ℕ → ℕ → Stored (Unit {0}) → List Passed → Stored Returned) (globals : ℕ → Entity → Option Named) (mains : Entity → Bool) (epar : Sight → Expr → Type 0) (calls_do : InnerDo limit cuts program globals mains epar c f calls) where
  abbrev pub ops : Operations {1}
  ops = stored.noted_operations limit cuts

  abbrev pub evals : Expr → Env → Stored ℤ
  evals e env = Meaning.eval ops limit program calls e env

  abbrev pub Gives : Ghost → Stored ℤ → ℕ → ℕ → List ℤ → Type 0
  Gives g m from to st = Runs limit c f x g any m (λ d. on f from st d) (λ v d. on f to (v ∷ st) d)

  abbrev pub Then : {B : Type 0} → Ghost → Ghost → (B → Type 0) → (B → Dyn → Step) → ℕ → ℕ → ℕ → List ℤ → (List ℤ → Stored B) → Type 0
  Then g j q goal t n to st then = aggregates.Then limit cuts program c f x calls globals mains epar g j q goal t n to st then

  abbrev pub Room : (g j : Ghost) (s : Sight) (env : Env) (t n : ℕ) → Type 0
  Room g j s env t n = aggregates.Room limit cuts program c f x calls globals mains epar g j s env t n

  abbrev pub Into : Value → Type 1
  Into value = aggregates.Into limit cuts program c f x calls globals mains epar value

  abbrev pub ValueDone : Expr → Type 1
  ValueDone e = aggregates.ValueDone limit cuts program c f x calls globals mains epar e

  abbrev pub ComponentDone : Value → Type 1
  ComponentDone value = aggregates.ComponentDone limit cuts program c f x calls globals mains epar value

  abbrev pub ActualsDone : Actuals → Type 1
  ActualsDone (In formal (Number check e) rest) = ValueDone e × ActualsDone rest
  ActualsDone (In formal (Cells value) rest) = Into (Cells value) × ActualsDone rest
  ActualsDone _ = Unit {1}

  -- actual parameters of functions go to the cells of their formals
  pub passed_does : (as' : Actuals) (from to : ℕ) → ActualsDone as' → {B : Type 0} {g G : Ghost} {env : Env} {q : B → Type 0} {goal : B → Dyn → Step} → (s : Sight) (h sub w m : ℕ) (ks : List Spot) (st : List ℤ) (so_far : List Passed) (then : List Passed → Stored B)
      → Passing limit cuts f env s w m g G ks → s.scope.entry ≡ x.entry → FittedIn program globals mains epar s sub w ks as'
      → Stands c (Emission.passed program s.scope h sub w as') from to
      → ((ps : List Sent) → AreSuited ks ps → Doing limit c f x (scattering (f.base + w) (pieces ps) G) g q (then (so_far ++ all_passed ps)) (λ d. on f to st d) goal)
      → Doing limit c f x G g q (stored.bind (Meaning.pass ops limit program calls as' env so_far) then) (λ d. on f from st d) goal
  unfolding Rattle.ada_lower.specs.Emission.emit
  passed_does NoActual from to done {g = g} {G = G} {q = q} {goal = goal} s h sub w m ks st so_far then p en e l j =
      does_returned limit c f x then so_far
      (subst (λ p. Doing limit c f x G g q (then so_far) (λ d. on f p st d) goal) l
      (subst (λ ps. Doing limit c f x G g q (then ps) (λ d. on f to st d) goal) (append-nil so_far)
      (j [] e)))
  passed_does (In formal (Number check e) rest) from to done {B} {g} {G} {env} {q} {goal} s h sub w m ks st so_far then p en (o, zs, wo, cell, we, wr) l j =
      let (m1, l1, l2) = stands_seq c from to (emit program s.scope h e ⨟ Emission.keep_checked s.scope (h + 1) check.scalar (Emission.formal_of program sub w (ConstantOf formal))) (Emission.passed program s.scope h sub w rest) l in
      let (m2, l3, (jk, z)) = stands_seq c from m1 (emit program s.scope h e) (Emission.keep_checked s.scope (h + 1) check.scalar (Emission.formal_of program sub w (ConstantOf formal))) l1 in
      let place = placing (spot (ConstantOf formal) false 1 o) zs wo p in
      let loose : G.what (f.base + (w + o)) ≡ Free = (let y : f.base + (w + o) ≡ f.base + w + o + 0 = omega arith in ap G.what y) ∙ place.free 0 (omega arith) in
      let there : f.base + w + (o + 0) ≡ f.base + (w + o) = omega arith in
      let then' : (List ℤ → Stored B) = (λ cs. stored.bind (Meaning.pass ops limit program calls rest env (so_far ++ (record { formal = ConstantOf formal; cells = cs; back = None } ∷ []))) then) in
      does_assoc limit c f x _ _ then
      (does_assoc limit c f x _ _ then'
      (does_seq limit c f x p.weak (λ ts al. al) (done.0 (Unit {0}) from m2 _ env s h st p.knows en we l3) (λ v _.
      does_assoc limit c f x _ _ then'
      (let p' : Passing limit cuts f env s w m g (keeping (f.base + w + (o + 0)) (v ∷ []) G) zs =
      passing_more (spot (ConstantOf formal) false 1 o) (o + 0) (v ∷ []) (omega arith) (omega arith) place.fits (λ n lt. (let y : f.base + w + (o + 0) + n ≡ f.base + w + o + n = omega arith in ap G.what y) ∙ place.free n (omega (arith, lt))) place.off place.rest in
      does_set limit c f x _ RangeCheck check.at m2 (w + o) check.scalar v st p.weak (own_free _ loose) (subst (λ p. At c m2 (Emission.set_instr check.scalar p) x.entry) cell (at_entry en jk))
      (does_returned limit c f x then' (v ∷ [])
      (subst (λ b. Doing limit c f x (keeping b (v ∷ []) G) g q (then' (v ∷ [])) (λ d. on f (m2 + 1) st d) goal) there
      (subst (λ p. Doing limit c f x (keeping (f.base + w + (o + 0)) (v ∷ []) G) g q (then' (v ∷ [])) (λ d. on f p st d) goal) z
      (passed_does rest m1 to done.1 s h sub w m zs st (so_far ++ (record { formal = ConstantOf formal; cells = v ∷ []; back = None } ∷ [])) then p' en wr l2 (λ ps suited.
      subst (λ us. Doing limit c f x (scattering (f.base + w) (pieces (sent_in formal o (v ∷ []) ∷ ps)) G) g q (then us) (λ d. on f to st d) goal) (sym (append_assoc so_far (record { formal = ConstantOf formal; cells = v ∷ []; back = None } ∷ []) (all_passed ps)))
      (j (sent_in formal o (v ∷ []) ∷ ps) (spot (ConstantOf formal) false 1 o, zs, wo, suits_in formal 1 o (v ∷ []) refl, suited)))))))))))
  passed_does (In formal (Cells value) rest) from to done {B} {g} {G} {env} {q} {goal} s h sub w m ks st so_far then p en (o, nv, zs, wo, cell, wv, wr) l j =
      let (m1, l1, l2) = stands_seq c from to (Emission.put_into program s.scope h (Emission.formal_of program sub w (ConstantOf formal)) (Cells value)) (Emission.passed program s.scope h sub w rest) l in
      let place = placing (spot (ConstantOf formal) false nv o) zs wo p in
      let fits = place.fits in
      let below = p.below in
      let loose : (n : ℕ) → n < nv → G.what (f.base + (w + o) + n) ≡ Free = (λ n lt. (let y : f.base + (w + o) + n ≡ f.base + w + o + n = omega arith in ap G.what y) ∙ place.free n (omega (arith, lt))) in
      let there : f.base + w + (o + 0) ≡ f.base + (w + o) = omega arith in
      let then' : (List ℤ → Stored B) = (λ cs. stored.bind (Meaning.pass ops limit program calls rest env (so_far ++ (record { formal = ConstantOf formal; cells = cs; back = None } ∷ []))) then) in
      does_assoc limit c f x _ _ then
      (done.0 B G g env q goal s h (w + o) nv st
      (record {
        below = omega (arith, below, fits);
        own = λ n lt. own_free _ (loose n lt);
        knows = p.knows;
        weak = p.weak;
        kept = λ cs clen. knows_kept (w + o) cs (omega (arith, below, fits, clen)) p.room (λ n lt. loose n (omega (arith, lt, clen))) p.knows;
        less = λ cs clen u d z. p.weak u d (fit_unkept (f.base + (w + o)) cs G (λ n lt. loose n (omega (arith, lt, clen))) z);
      }) en from m1 then' wv (subst (λ t. Stands c (Emission.put_into program s.scope h t (Cells value)) from m1) cell l1) (λ cs clen.
      let p' : Passing limit cuts f env s w m g (keeping (f.base + w + (o + 0)) cs G) zs =
      passing_more (spot (ConstantOf formal) false nv o) (o + 0) cs (omega arith) (omega (arith, clen)) fits (λ n lt. (let y : f.base + w + (o + 0) + n ≡ f.base + w + o + n = omega arith in ap G.what y) ∙ place.free n (omega (arith, lt, clen))) place.off place.rest in
      subst (λ b. Doing limit c f x (keeping b cs G) g q (then' cs) (λ d. on f m1 st d) goal) there
      (passed_does rest m1 to done.1 s h sub w m zs st (so_far ++ (record { formal = ConstantOf formal; cells = cs; back = None } ∷ [])) then p' en wr l2 (λ ps suited.
      subst (λ us. Doing limit c f x (scattering (f.base + w) (pieces (sent_in formal o cs ∷ ps)) G) g q (then us) (λ d. on f to st d) goal) (sym (append_assoc so_far (record { formal = ConstantOf formal; cells = cs; back = None } ∷ []) (all_passed ps)))
      (j (sent_in formal o cs ∷ ps) (spot (ConstantOf formal) false nv o, zs, wo, suits_in formal nv o cs clen, suited))))))
  passed_does (InOut formal at r selections inner outer rest) from to done s h sub w m ks st so_far then p en e l j = absurd e
  passed_does (Out formal at r selections inner outer rest) from to done s h sub w m ks st so_far then p en e l j = absurd e
  passed_does (CompositeInOut formal at r selections subtype rest) from to done s h sub w m ks st so_far then p en e l j = absurd e
  passed_does (CompositeOut formal at r selections subtype rest) from to done s h sub w m ks st so_far then p en e l j = absurd e

  item_entry : (constant : Bool) (s : Sight) (p stride : ℕ) → s.scope.entry ≡ x.entry → (item_sight s None constant p stride 0).scope.entry ≡ x.entry
  item_entry true s p stride e = e
  item_entry false s p stride e = e

  turn_at : (constant : Bool) (s : Sight) (p stride h from to : ℕ) (code : Emit) → Stands c (one s.scope h i.Turn ⨟ code) from to → Stands c (one (item_sight s None constant p stride 0).scope h i.Turn ⨟ code) from to
  turn_at true s p stride h from to code l = l
  turn_at false s p stride h from to code l = l

  -- two numbers on the stack are reduced to one
  reduced_here : (by : Reducer) (token from to : ℕ) {g : Ghost} {env : Env} (s : Sight) (h : ℕ) (a v : ℤ) (st : List ℤ) → Knows limit cuts g f s env → s.scope.entry ≡ x.entry → FittedFold program globals mains s by → Stands c (Emission.folding s.scope h by) from to
      → Runs limit c f x g any (reduce stored.doings stored.checks by token (Meaning.fold_call ops limit program calls by env.nested) a v) (λ d. on f from (v ∷ a ∷ st) d) (λ b d. on f to (b ∷ st) d)
  reduced_here (Operator at op class) token from to {g} s h a v st k en w (j, z) =
      subst (λ q. Runs limit c f x g any (operate stored.doings stored.checks op token class a v) (λ d. on f from (v ∷ a ∷ st) d) (λ b d. on f q (b ∷ st) d)) (sym z) (does_operate limit c f x op token class a v st (at_entry en j))
  reduced_here (Function at sub accumulator kind) token from to {g} {env} s h a v st k en (u, (result, gives), room, formals) (j1, (j3, (j4, (j5, (j6, (j7, z0)))))) =
      let t : Sight = taking 2 s in
      let g1 : Ghost = set_what (f.base + (s.scope.free + 1)) (Keeps v) g in
      let g2 : Ghost = set_what (f.base + s.scope.free) (Keeps a) g1 in
      let free0 : g.what (f.base + s.scope.free) ≡ Free = k.free s.scope.free (le_refl s.scope.free) (omega (arith, room)) in
      let free1 : g.what (f.base + (s.scope.free + 1)) ≡ Free = k.free (s.scope.free + 1) (omega arith) (omega (arith, room)) in
      let apart : (f.base + (s.scope.free + 1) ≡ f.base + s.scope.free → ⊥) = (λ e. omega (arith, e)) in
      let free0' : g1.what (f.base + s.scope.free) ≡ Free = what_other g (f.base + (s.scope.free + 1)) (f.base + s.scope.free) (Keeps v) apart ∙ free0 in
      let kept : g2.what (f.base + (s.scope.free + 1)) ≡ Keeps v = what_other g1 (f.base + s.scope.free) (f.base + (s.scope.free + 1)) (Keeps a) (λ e. apart (sym e)) ∙ what_same g (f.base + (s.scope.free + 1)) (Keeps v) in
      let n : ℕ = f.base + s.scope.free in
      let x0 : ℕ = Meaning.formal_at (Meaning.formals_of program.subs sub) 0 in
      let x1 : ℕ = Meaning.formal_at (Meaning.formals_of program.subs sub) 1 in
      let ps : List Sent = sent_in x0 0 (a ∷ []) ∷ sent_in x1 1 (v ∷ []) ∷ [] in
      let next : f.base + (s.scope.free + 1) ≡ n + 1 = omega arith in
      let alike : (b : ℕ) → g2.what b ≡ (scattering n (pieces ps) g).what b = (λ b. ap (λ m. cond (nat_eq n b) (Keeps a) (cond (nat_eq m b) (Keeps v) (g.what b))) next ∙ both_kept n a v g b) in
      let suited : AreSuited (spots 0 (shapes program u.unit.formals)) ps = subst (λ z. AreSuited (spots 0 z) ps) (sym formals) (spot (ConstantOf x0) false 1 0, spot (ConstantOf x1) false 1 1 ∷ [], inl (refl, refl), suits_in x0 1 0 (a ∷ []) refl, (spot (ConstantOf x1) false 1 1, [], inl (refl, refl), suits_in x1 1 1 (v ∷ []) refl, refl)) in
      let many : shapes_cells (shapes program u.unit.formals) ≡ 2 = ap (λ z. shapes_cells z) formals in
      let have : HaveCells (shapes_cells (shapes program u.unit.formals)) ps = have_cells (shapes program u.unit.formals) ps suited in
      let count : ℕ = shapes_cells (shapes program u.unit.formals) in
      let kt : Knows limit cuts g f t env = record { most = k.most; nested = k.nested; plan = k.plan; kept = k.kept; top = k.top; beyond = k.beyond; global = k.global; outside = k.outside; one = k.one; old = k.old; hidden = k.hidden; object = k.object; parameter = k.parameter; item = k.item; constant_item = k.constant_item; target = k.target; handled = k.handled; free = λ i le lt. k.free i (omega (arith, le)) lt } in
      let free : AreFree n count g.what = (λ i lt. (let e : f.base + s.scope.free + i ≡ f.base + (s.scope.free + i) = omega arith in ap g.what e) ∙ k.free (s.scope.free + i) (omega arith) (omega (arith, lt, room, many))) in
      let q : ℕ = from + 1 + 1 + 1 + 1 + 1 in
      does_keep limit c f x from (s.scope.free + 1) v (a ∷ st) (own_free _ free1) (at_entry en j1)
      (does_assoc limit c f x _ _ _
      (does_set limit c f x {g = g1} {h = g} _ RangeCheck at (from + 1) s.scope.free accumulator a st (λ z d w. fit_unset (f.base + (s.scope.free + 1)) v free1 w) (own_free _ free0') (at_entry en j3)
      (does_by limit c f x (λ z d w. comes_kept limit cuts c f (s.scope.free + 1) v st d w kept j4)
      (does_seq limit c f x {g = g2} {h = g2} {j = g} (λ z d w. fit_unset (f.base + (s.scope.free + 1)) v free1 (fit_unset (f.base + s.scope.free) a free0' w)) (λ ts al. al) (does_check limit c f x RangeCheck at kind v (Values.is_in kind v) st refl (at_entry en j5)) (λ _ _.
      does_before limit c f x (λ d. comes_goes limit c f (v ∷ st) q st d j6 refl)
      (does_first limit c f x (λ b y p e. inl (alike b ∙ e)) (λ z d w. (d, fit_alike (scattering n (pieces ps) g).what alike w, comes_here limit c (on f q st d)))
      (also_then limit c f x {h = scattering n (aheads ps) g} {j = g} {k = λ r. stored.ret r.value} (λ z d w. fit_unscattered n count (aheads ps) g (aheads_in count ps have) free w)
      (called_plainly (calls_do.called f.rounds) x t sub s.scope.free q st ps (record { unit = u.unit; is = u.is; outer = u.outer; main = u.main }) kt (omega (arith, many)) room suited free (at_entry en j7))
      (λ r z d fit _. (
        g,
        fit_unscattered n count (aheads ps) g (aheads_in count ps have) free fit,
        (λ ts al. allows_fewer limit c f x (scattering n (pieces ps) g) g ts (fewer_scattered limit c f x n count (pieces ps) g (pieces_in count ps have) free) al),
        subst (λ p. Runs limit c f x g any (stored.ret r.value) (λ d. on f (q + 1) (given p r.value ++ st) d) (λ v d. on f to (v ∷ st) d)) (sym gives)
            (ends_ret limit cuts program c f x calls globals mains epar calls_do r.value (q + 1) to st z0),
      )))))))))

  -- the same, where the number of constructs is known to be that of the environment
  reduced_does : (by : Reducer) (nested token from to : ℕ) {g : Ghost} {env : Env} (s : Sight) (h : ℕ) (a v : ℤ) (st : List ℤ) → nested ≡ env.nested → Knows limit cuts g f s env → s.scope.entry ≡ x.entry → FittedFold program globals mains s by → Stands c (Emission.folding s.scope h by) from to
      → Runs limit c f x g any (reduce stored.doings stored.checks by token (Meaning.fold_call ops limit program calls by nested) a v) (λ d. on f from (v ∷ a ∷ st) d) (λ b d. on f to (b ∷ st) d)
  reduced_does by nested token from to {g} {env} s h a v st ne k en w l =
      subst (λ n. Runs limit c f x g any (reduce stored.doings stored.checks by token (Meaning.fold_call ops limit program calls by n) a v) (λ d. on f from (v ∷ a ∷ st) d) (λ b d. on f to (b ∷ st) d)) (sym ne)
      (reduced_here by token from to s h a v st k en w l)

  item_nested : (constant : Bool) (p : ℕ) (o : ObjectPart) (env : Env) → env.nested ≡ (Meaning.with_item constant p o env).nested
  item_nested true p o env = refl
  item_nested false p o env = refl

  -- the code of an association without a parameter
  abbrev given_code : Bool → Value → Sight → (h t : ℕ) → List Run → Emit
  given_code repeated value s h t runs =
      cond repeated (Emission.repeating s.scope h t (Emission.component program (taking 2 s).scope h (s.scope.free + 1) value) runs)
      (Emission.fillings s.scope h t (Emission.width program value) (Emission.is_plain value) (λ n. Emission.put_into program s.scope h (t + n) value) runs)

  -- values of iterated associations, which take turns
  turned_into : (it : Iterated) (value : Value) → ComponentDone value → (B : Type 0) (g j : Ghost) (env : Env) (q : B → Type 0) (goal : B → Dyn → Step) (s : Sight) (h t n : ℕ) (st : List ℤ) → Room g j s env t n → s.scope.entry ≡ x.entry → s.scope.free + 1 + 1 < s.cells
      → (runs : List Run) (from to : ℕ) (cur : List ℤ) (then : List ℤ → Stored B) → length cur ≡ n → FittedRuns program globals mains n (Emission.width program value) runs → FittedComponent program globals mains epar (iterated_sight s it.parameter) value
      → Stands c (Emission.turnings s.scope h t (it.first) (Emission.component program (iterated_sight s it.parameter).scope (Emission.turn_height runs h) (s.scope.free + 1 + 1) value) runs) from to → Then g j q goal t n to st then
      → Doing limit c f x (keeping (f.base + t) cur g) j q (stored.bind (Meaning.runs_values ops runs (turn_values limit cuts program c f x calls globals mains epar it value env) cur) then) (λ d. on f from st d) goal
  unfolding Rattle.ada_lower.specs.Emission.emit
  turned_into it value does B g j env q goal s h t n st room en some runs from to cur then len w we l go =
      all_turnings limit cuts program c f x calls globals mains epar it value s h t n st (Emission.component program (iterated_sight s it.parameter).scope (Emission.turn_height runs h) (s.scope.free + 1 + 1) value)
      (λ st B g j q goal k first room kept from to then l go. component_does limit cuts program c f x calls globals mains epar value does B g j (turn_env limit cuts program c f x calls globals mains epar it k env) q goal (iterated_sight s it.parameter) (Emission.turn_height runs h) (s.scope.free + 1 + 1) (t + first) st room
      en (omega arith) kept from to then we l go)
      room en some runs from to cur then len w l go

  -- the values of an association without a parameter, in a part that is repeated or not
  given_into : (repeated : Bool) (value : Value) → Anywhere limit cuts program c f x calls globals mains epar value → Into value → (B : Type 0) (g j : Ghost) (env : Env) (q : B → Type 0) (goal : B → Dyn → Step) (s : Sight) (h t n : ℕ) (st : List ℤ) → Room g j s env t n → s.scope.entry ≡ x.entry
      → (runs : List Run) (from to : ℕ) (cur : List ℤ) (then : List ℤ → Stored B) → length cur ≡ n → FittedRuns program globals mains n (Emission.width program value) runs → FittedGiven program globals mains epar repeated s value
      → Stands c (given_code repeated value s h t runs) from to → Then g j q goal t n to st then
      → Doing limit c f x (keeping (f.base + t) cur g) j q (stored.bind (Meaning.runs_values ops runs (λ k. stored.bind (stored.ret (tt {0})) (λ _. Meaning.cells ops limit program calls value env)) cur) then) (λ d. on f from st d) goal
  unfolding Rattle.ada_lower.specs.Emission.emit
  given_into true value does into B g j env q goal s h t n st room en runs from to cur then len w (some, we) l go =
      all_repeated limit cuts program c f x calls globals mains epar t n some room value does (calls_do.called f.rounds).countable h st en we runs from to cur then len w l go
  given_into false value does into B g j env q goal s h t n st room en runs from to cur then len w we l go =
      let comp : ℕ → Emit = (λ n. Emission.put_into program s.scope h (t + n) value) in
      let val : Stored (List ℤ) = stored.bind (stored.ret (tt {0})) (λ _. Meaning.cells ops limit program calls value env) in
      all_runs limit cuts program c f x calls globals mains epar comp val s h t n (Emission.width program value) st (Emission.is_plain value) (λ p. s_value limit cuts program calls value p env) (each_plain limit cuts program c f x calls globals mains epar value into env s h t (Emission.width program value) st en we) room runs from to cur then len w l go

module _ (limit : ℕ) (cuts : ℕ → ℕ → List ℕ) (program : Program) (c : Code) (x : Ends) (calls : ℕ → ℕ → Stored (Unit {0}) → List Passed → Stored Returned) (globals : ℕ → Entity → Option Named) (mains : Entity → Bool) (epar : Sight → Expr → Type 0) where
  abbrev oper : Operations {1}
  oper = stored.noted_operations limit cuts

  mutual
    unfolding Rattle.ada_lower.specs.Emission.emit

    valued : (f : Fixed) (calls_do : InnerDo limit cuts program globals mains epar c f calls) → (B : Type 0) → (e : Expr) (from to : ℕ) {g : Ghost} {env : Env} (s : Sight) (h : ℕ) (st : List ℤ) → Knows limit cuts g f s env → s.scope.entry ≡ x.entry → Fitted program globals mains epar s e → Stands c (emit program s.scope h e) from to → Gives limit cuts program c f x calls globals mains epar calls_do g (evals limit cuts program c f x calls globals mains epar calls_do e env) from to st
    valued f calls_do B (Static at value literal mentions) from to s h st k en w (j, e) = push_does limit cuts program c f x calls globals mains epar calls_do value st j e refl
    valued f calls_do B (Group e) from to s h st k en w l = valued f calls_do B e from to s h st k en w l
    valued f calls_do B (Unary at sg class e) from to s h st k en w l =
        let (m, l1, (j, z)) = stands_seq c from to (emit program s.scope h e) (one s.scope (h + 1) (unary_instr sg class)) l in
        ends_at limit cuts program c f x calls globals mains epar calls_do _ _ from (m + 1) to st z (does_bind limit c f x (valued f calls_do B e from m s h st k en w l1) (λ v _. unary_does limit cuts program c f x calls globals mains epar calls_do sg at class v st (at_entry en j)))
    valued f calls_do B (Binary at op class e e') from to {g} {env} s h st k en w l =
        let (m, l1, l2) = stands_seq c from to (emit program s.scope h e) (Emission.operated_by s.scope (h + 1) (Emission.static_instr op class e') (binary_instr op class) (emit program s.scope (h + 1) e')) l in
        does_bind limit c f x (valued f calls_do B e from m s h st k en w.0 l1) (λ u _.
        operated_does limit cuts program c f x calls globals mains epar calls_do e' env op at class m to s h u st en (λ r l. valued f calls_do B e' m r s (h + 1) (u ∷ st) k en w.1 l) l2)
    valued f calls_do B (AndThen e e') from to s h st k en w l =
        let (m1, l1, l2) = stands_seq c from to (emit program s.scope h e) (Rattle.ada_lower.specs.Sights.choose s.scope h (h + 1) (emit program s.scope h e') (one s.scope h (i.Push (pos 0)))) l in
        does_bind limit c f x (valued f calls_do B e from m1 s h st k en w.0 l1) (λ u _.
        choice_does limit cuts program c f x calls globals mains epar calls_do m1 to (emit program s.scope h e') (one s.scope h (i.Push (pos 0))) s h u st en l2 (λ from to l. valued f calls_do B e' from to s h st k en w.1 l) (λ from to (j, z). push_does limit cuts program c f x calls globals mains epar calls_do (pos 0) st j z refl))
    valued f calls_do B (OrElse e e') from to s h st k en w l =
        let (m1, l1, l2) = stands_seq c from to (emit program s.scope h e) (Rattle.ada_lower.specs.Sights.choose s.scope h (h + 1) (one s.scope h (i.Push (pos 1))) (emit program s.scope h e')) l in
        does_bind limit c f x (valued f calls_do B e from m1 s h st k en w.0 l1) (λ u _.
        choice_does limit cuts program c f x calls globals mains epar calls_do m1 to (one s.scope h (i.Push (pos 1))) (emit program s.scope h e') s h u st en l2 (λ from to (j, z). push_does limit cuts program c f x calls globals mains epar calls_do (pos 1) st j z refl) (λ from to l. valued f calls_do B e' from to s h st k en w.1 l))
    valued f calls_do B (Relation class r e e') from to s h st k en w l =
        let (m1, l1, l2) = stands_seq c from to (emit program s.scope h e) (emit program s.scope (h + 1) e' ⨟ one s.scope (h + 1 + 1) (compare_instr r class)) l in
        let (m2, l3, (j, z)) = stands_seq c m1 to (emit program s.scope (h + 1) e') (one s.scope (h + 1 + 1) (compare_instr r class)) l2 in
        ends_at limit cuts program c f x calls globals mains epar calls_do _ _ from (m2 + 1) to st z
        (does_bind limit c f x (valued f calls_do B e from m1 s h st k en w.0 l1) (λ u _.
        does_bind limit c f x (valued f calls_do B e' m1 m2 s (h + 1) (u ∷ st) k en w.1 l3) (λ v _.
        does_before limit c f x (λ d. comes_goes limit c f (v ∷ u ∷ st) (m2 + 1) (bit (compares r (Values.number_in class u) (Values.number_in class v)) ∷ st) d j (compare_deed limit cuts program c f x calls globals mains epar calls_do m2 r class u v (st ++ f.below))) (does_ret limit c f x (bit (compares r (Values.number_in class u) (Values.number_in class v))) tt))))
    valued f calls_do B (If condition value otherwise) from to s h st k en w l =
        let (m1, l1, l2) = stands_seq c from to (emit program s.scope h condition) (Rattle.ada_lower.specs.Sights.choose s.scope h (h + 1) (emit program s.scope h value) (emit program s.scope h otherwise)) l in
        does_bind limit c f x (valued f calls_do B condition from m1 s h st k en w.0 l1) (λ u _.
        choice_does limit cuts program c f x calls globals mains epar calls_do m1 to (emit program s.scope h value) (emit program s.scope h otherwise) s h u st en l2 (λ from to l. valued f calls_do B value from to s h st k en w.1 l) (λ from to l. valued f calls_do B otherwise from to s h st k en w.2 l))
    valued f calls_do B (Convert check e) from to s h st k en w l =
        let (m, l1, (j, z)) = stands_seq c from to (emit program s.scope h e) (Emission.checked s.scope (h + 1) check.scalar) l in
        ends_at limit cuts program c f x calls globals mains epar calls_do _ _ from (m + 1) to st z
        (does_bind limit c f x (valued f calls_do B e from m s h st k en w l1) (λ v _.
        does_bind limit c f x (does_check limit c f x RangeCheck check.at check.scalar v (Values.is_in check.scalar v) st refl (at_entry en j)) (λ _ _.
        does_ret limit c f x v tt)))
    valued f calls_do B (Parameter at p) from to {g} {env} s h st k en (w, e) l =
        let (j, z) = subst (λ o. Stands c (Emission.load_where s.scope h o) from to) e l in
        ends_at limit cuts program c f x calls globals mains epar calls_do g (stored.ret (env.parameter p)) from (from + 1) to st z (does_by limit c f x (λ t d fit. comes_number limit c f w (env.parameter p) st d fit (k.parameter p w e) j) (does_ret limit c f x (env.parameter p) tt))
    valued f calls_do B (Target at scalar) from to {g} {env} s h st k en (n, e, some) l =
        does_load limit c f x s h n (VariableOf env.target.object) env.target.offset st en some (k.target n e) (load_stands limit cuts program c f x calls globals mains epar calls_do s h s.scope.target n from to e l)
    valued f calls_do B (Variable at r selections scalar) from to {g} {env} s h st k en ((n, e, reach), w) l =
        named f calls_do B selections (λ y. VariableOf y) from to s h st (variable_root r env) (root_of s.scope r) n e (root_refers r n k e) k en w reach l
    valued f calls_do B (Constant at r selections scalar) from to {g} {env} s h st k en ((n, e, reach), w) l =
        named f calls_do B selections (λ y. ConstantOf y) from to s h st (constant_root r env) (constant_root_of s.scope r) n e (constant_root_refers r n k e) k en w reach l
    valued f calls_do B (Membership class negated e low high) from to {g} {env} s h st k en (room, we, wl, wh) l =
        let (m1, l1, (j1, r1)) = stands_seq c from to (emit program s.scope h e) (Emission.keep s.scope (h + 1) s.scope.free ⨟ emit program (taking 1 s).scope h low ⨟ Emission.keep s.scope (h + 1) (s.scope.free + 1) ⨟ emit program (taking 2 s).scope h high ⨟ Emission.within s.scope h class s.scope.free ⨟ Emission.negated_code s.scope h negated) l in
        let (m2, l2, (j2, r2)) = stands_seq c (m1 + 1) to (emit program (taking 1 s).scope h low) (Emission.keep s.scope (h + 1) (s.scope.free + 1) ⨟ emit program (taking 2 s).scope h high ⨟ Emission.within s.scope h class s.scope.free ⨟ Emission.negated_code s.scope h negated) r1 in
        let (m3, l3, r3) = stands_seq c (m2 + 1) to (emit program (taking 2 s).scope h high) (Emission.within s.scope h class s.scope.free ⨟ Emission.negated_code s.scope h negated) r2 in
        let (m4, l4, l5) = stands_seq c m3 to (Emission.within s.scope h class s.scope.free) (Emission.negated_code s.scope h negated) r3 in
        does_bind limit c f x (valued f calls_do B e from m1 s h st k en we l1) (λ u _.
        does_hold limit c f x m1 u st (omega (arith, room)) k (at_entry en j1) (λ k1.
        does_bind limit c f x (valued f calls_do B low (m1 + 1) m2 (taking 1 s) h st k1 en wl l2) (λ v _.
        does_hold limit c f x m2 v st room k1 (at_entry en j2) (λ k2.
        does_bind limit c f x (valued f calls_do B high (m2 + 1) m3 (taking 2 s) h st (knows_two limit cuts program c f x calls globals mains epar calls_do s k2) en wh l3) (λ z _.
        does_by limit c f x (λ t d fit.
        let g1 : Ghost = set_what (f.base + s.scope.free) (Keeps u) g in
        let n : (f.base + (s.scope.free + 1) ≡ f.base + s.scope.free → ⊥) = (λ e. omega (arith, e)) in
        let eu : value_in (slice_get d.cells (f.base + s.scope.free)) ≡ Some u = number_seen _ u t _ (inl (what_other g1 (f.base + (s.scope.free + 1)) (f.base + s.scope.free) (Keeps v) n ∙ what_same g (f.base + s.scope.free) (Keeps u))) (fit.cells (f.base + s.scope.free)) in
        let ev : value_in (slice_get d.cells (f.base + (s.scope.free + 1))) ≡ Some v = number_seen _ v t _ (inl (what_same g1 (f.base + (s.scope.free + 1)) (Keeps v))) (fit.cells (f.base + (s.scope.free + 1))) in
        comes_on limit c (comes_within limit cuts program c f x calls globals mains epar calls_do s h class s.scope.free m3 m4 u v z st d eu ev l4) (comes_negated limit cuts program c f x calls globals mains epar calls_do s h m4 to negated (Values.is_member class v u z) st d l5))
        (does_ret limit c f x {to = λ v d. on f to (v ∷ st) d} (bit (cond negated (not (Values.is_member class v u z)) (Values.is_member class v u z))) tt))))))
    valued f calls_do B (Call at callee sub actuals) from to {g} {env} s h st k en (u, (kind, gives), whole, room, w) l =
        let n : ℕ = s.scope.free in
        let t : Sight = passing program sub s in
        let hs : List Shape = shapes program u.unit.formals in
        let count : ℕ = shapes_cells hs in
        let (m, l1, (j, z)) = stands_seq c from to (Emission.passed program t.scope h sub n actuals) (one s.scope h (i.CallAt (sub + 1) n)) l in
        let kt : Knows limit cuts g f t env = record { most = k.most; nested = k.nested; plan = k.plan; kept = k.kept; top = k.top; beyond = k.beyond; global = k.global; outside = k.outside; one = k.one; old = k.old; hidden = k.hidden; object = k.object; parameter = k.parameter; item = k.item; constant_item = k.constant_item; target = k.target; handled = k.handled; free = λ i le lt. k.free i (omega (arith, le)) lt } in
        let free : (i : ℕ) → i < count → g.what (f.base + n + i) ≡ Free = (λ i lt. (let e : f.base + n + i ≡ f.base + (n + i) = omega arith in ap g.what e) ∙ k.free (n + i) (omega arith) (omega (arith, lt, whole, room))) in
        passed_does limit cuts program c f x calls globals mains epar calls_do actuals from m (actuals_done f calls_do B actuals) t h sub n count (spots 0 hs) st [] _ (passing_none n hs (omega (arith, whole)) room free kt) en w l1 (λ ps suited.
        let have : HaveCells count ps = have_cells hs ps suited in
        also_then limit c f x {h = scattering (f.base + n) (aheads ps) g} {j = g} {k = λ r. stored.ret r.value} (λ t d w. fit_unscattered (f.base + n) count (aheads ps) g (aheads_in count ps have) free w)
        (called_plainly (calls_do.called f.rounds) x t sub n m st ps (record { unit = u.unit; is = u.is; outer = u.outer; main = u.main }) kt whole room suited free (at_entry en j))
        (λ r t d fit _. (
          g,
          fit_unscattered (f.base + n) count (aheads ps) g (aheads_in count ps have) free fit,
          (λ ts al. allows_fewer limit c f x (scattering (f.base + n) (pieces ps) g) g ts (fewer_scattered limit c f x (f.base + n) count (pieces ps) g (pieces_in count ps have) free) al),
          subst (λ p. Runs limit c f x g any (stored.ret r.value) (λ d. on f (m + 1) (given p r.value ++ st) d) (λ v d. on f to (v ∷ st) d)) (sym gives)
              (ends_ret limit cuts program c f x calls globals mains epar calls_do r.value (m + 1) to st z),
        )))
    valued f calls_do B (Reduction at attribute by initial (Some site) chunk iteration value) from to {g} {env} s h st k en w l = calls_do.forked f.rounds (Reduction at attribute by initial (Some site) chunk iteration value) from to g env x s h st k en w l
    valued f calls_do B (Reduction at attribute by initial None chunk (Components p constant a r selections zero stride dimensions filter) value) from to {g} {env} s h st k en (wi, room, (n, e, reach), ws, wf, wv, wb) l =
        let many : Emit = none in
        let rest : Emit = Emission.keep s.scope (h + 1 + 1) s.scope.free ⨟ many in
        let o : ObjectPart = Meaning.array_root constant r env in
        let room1 : s.scope.free < s.cells = omega (arith, room) in
        let free1 : g.what (f.base + s.scope.free) ≡ Free = k.free s.scope.free (le_refl s.scope.free) room1 in
        let v : Refers g f n (named_entity constant o.object) o.offset = array_refers constant r n k e in
        let (m0, l0, l') = stands_seq c from to (emit program s.scope h initial) (Emission.iterated program s.scope (h + 1) None (Components p constant a r selections zero stride dimensions filter) (λ t. emit program t (h + 1) value ⨟ Emission.folding t h by)) l in
        let (m1, l1, l2) = stands_seq c m0 to (Emission.address s.scope (h + 1) (Emission.array_root_of constant s.scope r)) (selected program s.scope (h + 1 + 1) selections ⨟ rest) (stands_assoc3 c m0 to (Emission.address s.scope (h + 1) (Emission.array_root_of constant s.scope r)) (selected program s.scope (h + 1 + 1) selections) (Emission.keep s.scope (h + 1 + 1) s.scope.free) many l') in
        let (m2, l3, l4) = stands_seq c m1 to (selected program s.scope (h + 1 + 1) selections) rest l2 in
        let (j1, z1) = address_stands limit cuts program c f x calls globals mains epar calls_do s (h + 1) (Emission.array_root_of constant s.scope r) n m0 m1 e l1 in
        does_bind limit c f x (valued f calls_do B initial from m0 s h st k en wi l0) (λ start _.
        does_assoc limit c f x _ _ _
        (does_bind limit c f x (named_does limit cuts program c f x calls globals mains epar calls_do m0 m1 n (named_entity constant o.object) o.offset (start ∷ st) v j1 z1
        (picked f calls_do B selections m1 m2 s (h + 1 + 1) (start ∷ st) o v.address o.offset n.cells n.cells (zero * stride) k en ws reach (le_refl o.offset) (le_refl (o.offset + n.cells)) v.spread.near l3)) (λ q at_.
        does_returned limit c f x _ _
        (does_keep limit c f x m2 s.scope.free (pos (v.address + (q.offset - o.offset))) (start ∷ st) (own_free (g.what (f.base + s.scope.free)) free1) (at_entry en l4.0)
        (subst (λ z. Doing limit c f x (set_what (f.base + s.scope.free) (Keeps (pos (v.address + (q.offset - o.offset)))) g) g any (Rattle.behaviours.specs.Doings.through stored.doings 0 0 start (λ i b. stored.ret b)) (λ d. on f z (start ∷ st) d) (λ b d. on f to (b ∷ st) d)) l4.1
        (folds_none limit cuts c f x (λ z d w. fit_unset (f.base + s.scope.free) (pos (v.address + (q.offset - o.offset))) free1 w) start 0 to st (λ i b. stored.ret b) refl))))))
    valued f calls_do B (Reduction at attribute by initial None chunk (Components p constant a r selections (suc number) stride dimensions filter) value) from to {g} {env} s h st k en (wi, room, (n, e, reach), ws, wf, wv, wb) l =
        let t : Sight = item_sight s None constant p stride 0 in
        let turn : Emit = one s.scope (h + 1) i.Turn ⨟ Emission.filtered program t.scope (h + 1) filter (emit program t.scope (h + 1) value ⨟ Emission.folding t.scope h by) in
        let turns : Emit = one s.scope (h + 1) (i.Push (pos 1)) ⨟ Emission.keep s.scope (h + 1 + 1) (s.scope.free + 1) ⨟ one s.scope (h + 1) (i.Push (pos (suc number))) ⨟ Emission.keep s.scope (h + 1 + 1) (s.scope.free + 1 + 1)
        ⨟ Rattle.ada_lower.specs.Sights.looped s.scope (h + 1) true (λ exit. turn) (λ head. one s.scope (h + 1) (i.LoadL s.scope.free) ⨟ one s.scope (h + 1 + 1) (i.Field stride) ⨟ Emission.keep s.scope (h + 1 + 1) s.scope.free ⨟ one s.scope (h + 1) (i.Next (s.scope.free + 1) (s.scope.free + 1 + 1) head)) in
        let many : Emit = cond (nat_eq (suc number) 0) none turns in
        let rest : Emit = Emission.keep s.scope (h + 1 + 1) s.scope.free ⨟ many in
        let some : nat_eq (suc number) 0 ≡ false = ne_eqb (suc number) 0 (λ e. omega (arith, e)) in
        let o : ObjectPart = Meaning.array_root constant r env in
        let v : Refers g f n (named_entity constant o.object) o.offset = array_refers constant r n k e in
        let (m0, l0, l') = stands_seq c from to (emit program s.scope h initial) (Emission.iterated program s.scope (h + 1) None (Components p constant a r selections (suc number) stride dimensions filter) (λ t. emit program t (h + 1) value ⨟ Emission.folding t h by)) l in
        let (m1, l1, l2) = stands_seq c m0 to (Emission.address s.scope (h + 1) (Emission.array_root_of constant s.scope r)) (selected program s.scope (h + 1 + 1) selections ⨟ rest) (stands_assoc3 c m0 to (Emission.address s.scope (h + 1) (Emission.array_root_of constant s.scope r)) (selected program s.scope (h + 1 + 1) selections) (Emission.keep s.scope (h + 1 + 1) s.scope.free) many l') in
        let (m2, l3, l4) = stands_seq c m1 to (selected program s.scope (h + 1 + 1) selections) rest l2 in
        let (j1, z1) = address_stands limit cuts program c f x calls globals mains epar calls_do s (h + 1) (Emission.array_root_of constant s.scope r) n m0 m1 e l1 in
        does_bind limit c f x (valued f calls_do B initial from m0 s h st k en wi l0) (λ start _.
        does_assoc limit c f x _ _ _
        (does_bind limit c f x (named_does limit cuts program c f x calls globals mains epar calls_do m0 m1 n (named_entity constant o.object) o.offset (start ∷ st) v j1 z1
        (picked f calls_do B selections m1 m2 s (h + 1 + 1) (start ∷ st) o v.address o.offset n.cells n.cells (suc number * stride) k en ws reach (le_refl o.offset) (le_refl (o.offset + n.cells)) v.spread.near l3)) (λ q at_.
        does_returned limit c f x _ _
        (items_folds limit cuts c f x s (h + 1) p constant stride number (named_entity constant o.object) o.offset n.cells v.address (q.offset - o.offset) m2 to st turn q _ k en room v.spread
        (let b = at_.1 in omega (arith, b)) (let b = at_.1 in let b' = at_.2 in omega (arith, b, b')) (ap (λ z. named_entity constant z) at_.0) (subst (λ b. Stands c (Emission.keep s.scope (h + 1 + 1) s.scope.free ⨟ cond b none turns) m2 to) some l4)
        (λ j from to b g' k' at''. fold_does f calls_do B by env.nested attribute filter value from to t h b st (item_nested limit cuts program c f x calls globals mains epar calls_do constant p (Meaning.moved q (j * stride)) env) k' (item_entry limit cuts program c f x calls globals mains epar calls_do constant s p stride en) wf wb (λ from to l. valued f calls_do B value from to t (h + 1) (b ∷ st) k' (item_entry limit cuts program c f x calls globals mains epar calls_do constant s p stride en) wv l) (turn_at limit cuts program c f x calls globals mains epar calls_do constant s p stride (h + 1) from to (Emission.filtered program t.scope (h + 1) filter (emit program t.scope (h + 1) value ⨟ Emission.folding t.scope h by)) at'')) start))))
    valued f calls_do B (Reduction at attribute by initial None chunk (Range p reverse low high check filter) value) from to {g} {env} s h st k en (wi, room, wl, wh, wf, wv, wb) l =
        let t : Sight = range_sight s None p reverse 0 in
        let turn : Emit = one s.scope (h + 1) i.Turn ⨟ Emission.filtered program t.scope (h + 1) filter (emit program t.scope (h + 1) value ⨟ Emission.folding t.scope h by) in
        let loop : Emit = Rattle.ada_lower.specs.Sights.looped s.scope (h + 1) true (λ exit. turn) (λ head. one s.scope (h + 1) (Emission.counting reverse s.scope.free head)) in
        let (m1, l1, l2) = stands_seq c from to (emit program s.scope h initial) (Emission.iterated program s.scope (h + 1) None (Range p reverse low high check filter) (λ t. emit program t (h + 1) value ⨟ Emission.folding t h by)) l in
        does_bind limit c f x (valued f calls_do B initial from m1 s h st k en wi l1) (λ start _.
        course_does limit cuts c f x s (h + 1) p reverse (emit program s.scope (h + 1) low) (emit program (taking 1 s).scope (h + 1) high) (evals limit cuts program c f x calls globals mains epar calls_do low env) (evals limit cuts program c f x calls globals mains epar calls_do high env) check loop m1 to (start ∷ st) _ k en room
        (λ from to l. valued f calls_do B low from to s (h + 1) (start ∷ st) k en wl l)
        (λ from to g' k' l. valued f calls_do B high from to (taking 1 s) (h + 1) (start ∷ st) k' en wh l) l2
        (λ l u e. folds_none limit cuts c f x (λ z d w. fit_uncount limit cuts c f s l u room k z d w) start (Values.count l u) to st _ (count_none limit cuts c f l u e))
        (λ l u q e at'. range_folds limit cuts c f x s (h + 1) p reverse q to l u st turn _ k en room e at'
        (λ j from to a g' k' at''. fold_does f calls_do B by env.nested attribute filter value from to t h a st refl k' en wf wb (λ from to l. valued f calls_do B value from to t (h + 1) (a ∷ st) k' en wv l) at'') start))

    -- a turn of a reduction
    fold_does : (f : Fixed) (calls_do : InnerDo limit cuts program globals mains epar c f calls) → (B : Type 0) → (by : Reducer) (nested token : ℕ) (filter : Optional) (value : Expr) (from to : ℕ) {g : Ghost} {env : Env} (s : Sight) (h : ℕ) (a : ℤ) (st : List ℤ) → nested ≡ env.nested → Knows limit cuts g f s env → s.scope.entry ≡ x.entry → FittedOptional program globals mains epar s filter → FittedFold program globals mains s by → ((from to : ℕ) → Stands c (emit program s.scope (h + 1) value) from to → Gives limit cuts program c f x calls globals mains epar calls_do g (evals limit cuts program c f x calls globals mains epar calls_do value env) from to (a ∷ st))
        → Stands c (one s.scope (h + 1) i.Turn ⨟ Emission.filtered program s.scope (h + 1) filter (emit program s.scope (h + 1) value ⨟ Emission.folding s.scope h by)) from to
        → Runs limit c f x g any (stored.bind (Meaning.iterate_value oper (Meaning.holds oper limit program calls filter env) (evals limit cuts program c f x calls globals mains epar calls_do value env)) (λ v. folded stored.doings (λ a b. reduce stored.doings stored.checks by token (Meaning.fold_call oper limit program calls by nested) a b) a v)) (λ d. on f from (a ∷ st) d) (λ b d. on f to (b ∷ st) d)
    fold_does f calls_do B by nested token Absent value from to {g} {env} s h a st ne k en wf wb vd (turn, l) =
        let (m, l1, l2) = stands_seq c (from + 1) to (emit program s.scope (h + 1) value) (Emission.folding s.scope h by) l in
        turn_folds limit cuts c f x from (from + 1) m to a st (stored.ret true) (evals limit cuts program c f x calls globals mains epar calls_do value env) (λ a b. reduce stored.doings stored.checks by token (Meaning.fold_call oper limit program calls by nested) a b) k.most (at_entry en turn)
        (does_ret limit c f x {to = λ b d. cond b (on f (from + 1) (a ∷ st) d) (on f to (a ∷ st) d)} true tt)
        (vd (from + 1) m l1)
        (λ v. reduced_does limit cuts program c f x calls globals mains epar calls_do by nested token m to s h a v st ne k en wb l2)
    fold_does f calls_do B by nested token (Present e) value from to {g} {env} s h a st ne k en wf wb vd (turn, l) =
        let (m0, l0, l') = stands_seq c (from + 1) to (emit program s.scope (h + 1) e) (Rattle.ada_lower.specs.Sights.when_ s.scope (h + 1) (emit program s.scope (h + 1) value ⨟ Emission.folding s.scope h by)) l in
        let (test, l'') = stands_when c m0 to s (h + 1) (emit program s.scope (h + 1) value ⨟ Emission.folding s.scope h by) l' in
        let (m, l1, l2) = stands_seq c (m0 + 1) to (emit program s.scope (h + 1) value) (Emission.folding s.scope h by) l'' in
        turn_folds limit cuts c f x from (m0 + 1) m to a st (Meaning.holds oper limit program calls (Present e) env) (evals limit cuts program c f x calls globals mains epar calls_do value env) (λ a b. reduce stored.doings stored.checks by token (Meaning.fold_call oper limit program calls by nested) a b) k.most (at_entry en turn)
        (does_bind limit c f x (valued f calls_do B e (from + 1) m0 s (h + 1) (a ∷ st) k en wf l0) (λ v _. tests limit cuts c f x v m0 to (a ∷ st) (at_entry en test)))
        (vd (m0 + 1) m l1)
        (λ v. reduced_does limit cuts program c f x calls globals mains epar calls_do by nested token m to s h a v st ne k en wb l2)

    actuals_done : (f : Fixed) (calls_do : InnerDo limit cuts program globals mains epar c f calls) → (B : Type 0) → (as' : Actuals) → ActualsDone limit cuts program c f x calls globals mains epar calls_do as'
    actuals_done f calls_do B NoActual = tt
    actuals_done f calls_do B (In formal (Number check e) rest) = (λ B from to g env s h st k en w l. valued f calls_do B e from to {g = g} {env = env} s h st k en w l, actuals_done f calls_do B rest)
    actuals_done f calls_do B (In formal (Cells value) rest) = (λ B g j env q goal s h t n st room en from to then w l go. composed_into f calls_do value B g j env q goal s h t n st room en from to then w l go, actuals_done f calls_do B rest)
    actuals_done f calls_do B (InOut formal at r selections inner outer rest) = tt
    actuals_done f calls_do B (Out formal at r selections inner outer rest) = tt
    actuals_done f calls_do B (CompositeInOut formal at r selections subtype rest) = tt
    actuals_done f calls_do B (CompositeOut formal at r selections subtype rest) = tt

    component_done : (f : Fixed) (calls_do : InnerDo limit cuts program globals mains epar c f calls) → (B : Type 0) → (value : Value) → ComponentDone limit cuts program c f x calls globals mains epar calls_do value
    component_done f calls_do B (Number check e) = (λ B from to g env s h st k en w l. valued f calls_do B e from to {g = g} {env = env} s h st k en w l)
    component_done f calls_do B (Cells value) = (λ B g j env q goal s h t n st room en from to then w l go. composed_into f calls_do value B g j env q goal s h t n st room en from to then w l go)

    picked : (f : Fixed) (calls_do : InnerDo limit cuts program globals mains epar c f calls) → (B : Type 0) → (t : Selections) (from to : ℕ) {g : Ghost} {env : Env} (s : Sight) (h : ℕ) (st : List ℤ) (p : ObjectPart) (a first total n m : ℕ) → Knows limit cuts g f s env → s.scope.entry ≡ x.entry → FittedSelections program globals mains epar s t → Reaches n t m
        → first ≤ p.offset → p.offset + n ≤ first + total → a + total ≤ g.top → Stands c (selected program s.scope h t) from to
        → Runs limit c f x g (λ r. (r.object ≡ p.object) × (first ≤ r.offset) × (r.offset + m ≤ first + total)) (Meaning.select oper limit program calls t env p)
        (λ d. on f from (pos (a + (p.offset - first)) ∷ st) d) (λ r d. on f to (pos (a + (r.offset - first)) ∷ st) d)
    picked f calls_do B Whole from to {g} {env} s h st p a first total n m k en w r le room near l =
        subst (λ q. Runs limit c f x g (λ r. (r.object ≡ p.object) × (first ≤ r.offset) × (r.offset + m ≤ first + total)) (stored.ret p) (λ d. on f from (pos (a + (p.offset - first)) ∷ st) d) (λ r d. on f q (pos (a + (r.offset - first)) ∷ st) d)) (sym l)
        (does_ret limit c f x {to = λ r d. on f from (pos (a + (r.offset - first)) ∷ st) d} p (refl, le, omega (arith, r, room)))
    picked f calls_do B (Field number offset rest) from to {g} {env} s h st p a first total n m k en w (i', r, reach) le room near (j, l) =
        let z : a + (p.offset - first) + offset ≡ a + (p.offset + offset - first) = omega (arith, le) in
        does_by limit c f x (λ t d fit. subst (λ v. To limit c (on f from (pos (a + (p.offset - first)) ∷ st) d) (on f (from + 1) (pos v ∷ st) d)) z (comes_field limit c f offset (a + (p.offset - first)) st d fit (omega (arith, near, room, le)) j))
        (picked f calls_do B rest (from + 1) to s h st (Meaning.moved p offset) a first total i' m k en w reach (omega (arith, le)) (omega (arith, room, r)) near l)
    picked f calls_do B (Index at e low high stride rest) from to {g} {env} s h st p a first total n m k en w (r, reach) le room near l =
        let (m1, l1, l2) = stands_seq c from to (Emission.indexed_by s.scope h (Emission.own_cell s.scope e) low high stride (emit program s.scope h e)) (selected program s.scope h rest) l in
        index_does limit cuts program c f x calls globals mains epar e from m1 s h at low high stride (a + (p.offset - first)) st _ (omega (arith, near, room, r, le)) k en w.0 (λ m l. valued f calls_do B e from m s h (pos (a + (p.offset - first)) ∷ st) k en w.0 l) l1 (λ v mid checked.
        does_bind limit c f x checked (λ _ is.
        let t : ℕ = to_nat (v -ℤ low) in
        let lt : t < count low high = (index_below low v high is).0 in
        let z : a + (p.offset - first) + t * stride ≡ a + (p.offset + t * stride - first) = omega (arith, le) in
        let b : t * stride + stride ≤ count low high * stride = rows limit cuts program c f x calls globals mains epar calls_do t (count low high) stride lt in
        does_before limit c f x (λ d. subst (λ q. To limit c (on f m1 (pos (a + (p.offset - first) + t * stride) ∷ st) d) (on f m1 (pos q ∷ st) d)) z (comes_here limit c _))
        (picked f calls_do B rest m1 to s h st (Meaning.moved p (t * stride)) a first total stride m k en w.1 reach (omega (arith, le)) (omega (arith, room, r, b)) near l2)))

    -- what is named is read, or what selections of it lead to
    named : (f : Fixed) (calls_do : InnerDo limit cuts program globals mains epar c f calls) → (B : Type 0) → (t : Selections) (y : ℕ → Entity) (from to : ℕ) {g : Ghost} {env : Env} (s : Sight) (h : ℕ) (st : List ℤ) (p : ObjectPart) (o : Option Named) (n : Named) → o ≡ Some n → (u : Refers g f n (y p.object) p.offset) → Knows limit cuts g f s env → s.scope.entry ≡ x.entry → FittedSelections program globals mains epar s t → Reaches n.cells t 1
        → Stands c (Emission.named_value program s.scope h o t) from to
        → Runs limit c f x g any (stored.bind (Meaning.select oper limit program calls t env p) (λ r. stored.reads (y r.object) r.offset)) (λ d. on f from st d) (λ v d. on f to (v ∷ st) d)
    named f calls_do B Whole y from to s h st p o n e u k en w reach l =
        does_returned limit c f x (λ r. stored.reads (y r.object) r.offset) p
        (does_load limit c f x s h n (y p.object) p.offset st en reach u (load_stands limit cuts program c f x calls globals mains epar calls_do s h o n from to e l))
    named f calls_do B (Field number offset rest) y from to s h st p o n e u k en w (i', r, reach) l =
        let (m1, l1, (j, l2)) = stands_seq c from to (Emission.address s.scope h o) (one s.scope (h + 1) (i.Field offset) ⨟ read program s.scope (h + 1) rest) l in
        let (j1, z1) = address_stands limit cuts program c f x calls globals mains epar calls_do s h o n from m1 e l1 in
        let z : u.address + (p.offset - p.offset) + offset ≡ u.address + (p.offset + offset - p.offset) = omega arith in
        named_does limit cuts program c f x calls globals mains epar calls_do from m1 n (y p.object) p.offset st u j1 z1
        (does_by limit c f x (λ t d fit. subst (λ v. To limit c (on f m1 (pos (u.address + (p.offset - p.offset)) ∷ st) d) (on f (m1 + 1) (pos v ∷ st) d)) z (comes_field limit c f offset (u.address + (p.offset - p.offset)) st d fit (let n' = u.spread.near in omega (arith, n')) j))
        (reading f calls_do B rest y (m1 + 1) to s (h + 1) st (Meaning.moved p offset) p.object u.address p.offset n.cells i' refl k en w reach (omega arith) (omega (arith, r)) u.spread l2))
    named f calls_do B (Index at e low high stride Whole) y from to s h st p o n some u k en w (r, reach) l =
        does_assoc limit c f x _ _ _
        (named_item_does limit cuts program c f x calls globals mains epar e o n from to s h at low high stride (y p.object) p.offset u st _ some k en w.0 (λ a b l. valued f calls_do B e a b s (h + 1) (pos u.address ∷ st) k en w.0 l) l (λ v mid last checked reads.
        does_assoc limit c f x _ _ _
        (does_bind limit c f x checked (λ _ is.
        let t : ℕ = to_nat (v -ℤ low) in
        let lt : t < count low high = (index_below low v high is).0 in
        let z : u.address + t * stride ≡ u.address + (p.offset + t * stride - p.offset) = omega arith in
        let b : t * stride + stride ≤ count low high * stride = rows limit cuts program c f x calls globals mains epar calls_do t (count low high) stride lt in
        does_returned limit c f x (λ r. stored.reads (y r.object) r.offset) (Meaning.moved p (t * stride))
        (reads_by limit cuts program c f x calls globals mains epar calls_do y (Meaning.moved p (t * stride)) p.object p.offset u.address n.cells refl (omega arith) (omega (arith, r, b, reach)) u.spread
        (λ v d seen. reads v d (subst (λ n. value_in (slice_get d.cells n) ≡ Some v) (sym z) seen)))))))
    named f calls_do B (Index at e low high stride rest) y from to s h st p o n some u k en w (r, reach) l =
        let (m1, l1, l2) = stands_seq c from to (Emission.component_address s.scope h o (Emission.main_named o) (Emission.own_cell s.scope e) low high stride (emit program s.scope (h + 1) e)) (read program s.scope (h + 1) rest) l in
        does_assoc limit c f x _ _ _
        (named_index_does limit cuts program c f x calls globals mains epar e o n from m1 s h at low high stride (y p.object) p.offset u st _ (let n' = u.spread.near in omega (arith, n', r)) some k en w.0 (λ a b l. valued f calls_do B e a b s (h + 1) (pos u.address ∷ st) k en w.0 l) l1 (λ v mid checked.
        does_assoc limit c f x _ _ _
        (does_bind limit c f x checked (λ _ is.
        let t : ℕ = to_nat (v -ℤ low) in
        let lt : t < count low high = (index_below low v high is).0 in
        let z : u.address + t * stride ≡ u.address + (p.offset + t * stride - p.offset) = omega arith in
        let b : t * stride + stride ≤ count low high * stride = rows limit cuts program c f x calls globals mains epar calls_do t (count low high) stride lt in
        does_before limit c f x (λ d. subst (λ q. To limit c (on f m1 (pos (u.address + t * stride) ∷ st) d) (on f m1 (pos q ∷ st) d)) z (comes_here limit c _))
        (reading f calls_do B rest y m1 to s (h + 1) st (Meaning.moved p (t * stride)) p.object u.address p.offset n.cells stride refl k en w.1 reach (omega arith) (omega (arith, r, b)) u.spread l2)))))

    -- what selections lead to is read
    reading : (f : Fixed) (calls_do : InnerDo limit cuts program globals mains epar c f calls) → (B : Type 0) → (t : Selections) (y : ℕ → Entity) (from to : ℕ) {g : Ghost} {env : Env} (s : Sight) (h : ℕ) (st : List ℤ) (p : ObjectPart) (o a first total n : ℕ) → p.object ≡ o → Knows limit cuts g f s env → s.scope.entry ≡ x.entry → FittedSelections program globals mains epar s t → Reaches n t 1
        → first ≤ p.offset → p.offset + n ≤ first + total → Spread g (y o) first total a → Stands c (read program s.scope h t) from to
        → Runs limit c f x g any (stored.bind (Meaning.select oper limit program calls t env p) (λ r. stored.reads (y r.object) r.offset)) (λ d. on f from (pos (a + (p.offset - first)) ∷ st) d) (λ v d. on f to (v ∷ st) d)
    reading f calls_do B Whole y from to s h st p o a first total n same k en w reach le room u (j, z) =
        does_returned limit c f x (λ r. stored.reads (y r.object) r.offset) p (reads_at limit cuts program c f x calls globals mains epar calls_do y p o first a total st same le (omega (arith, reach, room)) u (at_entry en j) z)
    reading f calls_do B (Field number offset rest) y from to s h st p o a first total n same k en w (i', r, reach) le room u (j, l) =
        let z : a + (p.offset - first) + offset ≡ a + (p.offset + offset - first) = omega (arith, le) in
        does_by limit c f x (λ t d fit. subst (λ v. To limit c (on f from (pos (a + (p.offset - first)) ∷ st) d) (on f (from + 1) (pos v ∷ st) d)) z (comes_field limit c f offset (a + (p.offset - first)) st d fit (let n' = u.near in omega (arith, n', room, le)) j))
        (reading f calls_do B rest y (from + 1) to s h st (Meaning.moved p offset) o a first total i' same k en w reach (omega (arith, le)) (omega (arith, room, r)) u l)
    reading f calls_do B (Index at e low high stride Whole) y from to s h st p o a first total n same k en w (r, reach) le room u l =
        does_assoc limit c f x _ _ _
        (item_does limit cuts program c f x calls globals mains epar e from to s h at low high stride (a + (p.offset - first)) st _ k en w.0 (λ m l. valued f calls_do B e from m s h (pos (a + (p.offset - first)) ∷ st) k en w.0 l) l (λ v mid last checked reads.
        does_assoc limit c f x _ _ _
        (does_bind limit c f x checked (λ _ is.
        let t : ℕ = to_nat (v -ℤ low) in
        let lt : t < count low high = (index_below low v high is).0 in
        let z : a + (p.offset - first) + t * stride ≡ a + (p.offset + t * stride - first) = omega (arith, le) in
        let b : t * stride + stride ≤ count low high * stride = rows limit cuts program c f x calls globals mains epar calls_do t (count low high) stride lt in
        does_returned limit c f x (λ r. stored.reads (y r.object) r.offset) (Meaning.moved p (t * stride))
        (reads_by limit cuts program c f x calls globals mains epar calls_do y (Meaning.moved p (t * stride)) o first a total same (omega (arith, le)) (omega (arith, room, r, b, reach)) u
        (λ v d seen. reads v d (subst (λ n. value_in (slice_get d.cells n) ≡ Some v) (sym z) seen)))))))
    reading f calls_do B (Index at e low high stride rest) y from to s h st p o a first total n same k en w (r, reach) le room u l =
        let (m1, l1, l2) = stands_seq c from to (Emission.indexed_by s.scope h (Emission.own_cell s.scope e) low high stride (emit program s.scope h e)) (read program s.scope h rest) l in
        does_assoc limit c f x _ _ _
        (index_does limit cuts program c f x calls globals mains epar e from m1 s h at low high stride (a + (p.offset - first)) st _ (let n' = u.near in omega (arith, n', room, r, le)) k en w.0 (λ m l. valued f calls_do B e from m s h (pos (a + (p.offset - first)) ∷ st) k en w.0 l) l1 (λ v mid checked.
        does_assoc limit c f x _ _ _
        (does_bind limit c f x checked (λ _ is.
        let t : ℕ = to_nat (v -ℤ low) in
        let lt : t < count low high = (index_below low v high is).0 in
        let z : a + (p.offset - first) + t * stride ≡ a + (p.offset + t * stride - first) = omega (arith, le) in
        let b : t * stride + stride ≤ count low high * stride = rows limit cuts program c f x calls globals mains epar calls_do t (count low high) stride lt in
        does_before limit c f x (λ d. subst (λ q. To limit c (on f m1 (pos (a + (p.offset - first) + t * stride) ∷ st) d) (on f m1 (pos q ∷ st) d)) z (comes_here limit c _))
        (reading f calls_do B rest y m1 to s h st (Meaning.moved p (t * stride)) o a first total stride same k en w.1 reach (omega (arith, le)) (omega (arith, room, r, b)) u l2)))))

    valued_into : (f : Fixed) (calls_do : InnerDo limit cuts program globals mains epar c f calls) → (value : Value) → Into limit cuts program c f x calls globals mains epar calls_do value
    valued_into f calls_do (Number check e) B g j env q goal s h t n st room en from to then (one', w) l go =
        let (m, l1, (jk, z)) = stands_seq c from to (emit program s.scope h e) (Emission.keep_checked s.scope (h + 1) check.scalar t) l in
        let z0 : f.base + t + 0 ≡ f.base + t = omega arith in
        let own : IsOwn (g.what (f.base + t)) = subst (λ a. IsOwn (g.what a)) z0 (room.own 0 (omega (arith, one'))) in
        does_assoc limit c f x _ _ then
        (does_seq limit c f x room.weak (λ ts al. al) (valued f calls_do B e from m s h st room.knows en w l1) (λ v _.
        does_assoc limit c f x _ _ then
        (does_set limit c f x _ RangeCheck check.at m t check.scalar v st room.weak own (at_entry en jk)
        (does_returned limit c f x then (v ∷ [])
        (subst (λ p. Doing limit c f x (keeping (f.base + t) (v ∷ []) g) j q (then (v ∷ [])) (λ d. on f p st d) goal) z (go (v ∷ []) (sym one')))))))
    valued_into f calls_do (Cells value) B g j env q goal s h t n st room en from to then w l go = composed_into f calls_do value B g j env q goal s h t n st room en from to then w l go

    associations_into : (f : Fixed) (calls_do : InnerDo limit cuts program globals mains epar c f calls) → (as' : Associations) (B : Type 0) (g j : Ghost) (env : Env) (q : B → Type 0) (goal : B → Dyn → Step) (s : Sight) (h t n : ℕ) (st : List ℤ) → Room limit cuts program c f x calls globals mains epar calls_do g j s env t n → s.scope.entry ≡ x.entry → (from to : ℕ) (cur : List ℤ) (then : List ℤ → Stored B) → length cur ≡ n
        → FittedAssociations program globals mains epar s n as' → Stands c (Emission.associated program s.scope h t as') from to → Then limit cuts program c f x calls globals mains epar calls_do g j q goal t n to st then
        → Doing limit c f x (keeping (f.base + t) cur g) j q (stored.bind (Meaning.associated oper limit program calls as' env cur) then) (λ d. on f from st d) goal
    associations_into f calls_do NoAssociation B g j env q goal s h t n st room en from to cur then len w l go =
        does_returned limit c f x then cur (subst (λ p. Doing limit c f x (keeping (f.base + t) cur g) j q (then cur) (λ d. on f p st d) goal) l (go cur len))
    -- what gives no component isn't evaluated
    associations_into f calls_do (Association [] None mentions value rest) B g j env q goal s h t n st room en from to cur then len w l go =
        let comp : ℕ → Emit = (λ n. Emission.put_into program s.scope h (t + n) value) in
        let (m, l1, l2) = stands_seq c from to (Emission.fillings s.scope h t (Emission.width program value) (Emission.is_plain value) comp []) (Emission.associated program s.scope h t rest) l in
        does_assoc limit c f x _ _ then
        (does_returned limit c f x (λ cs. stored.bind (Meaning.associated oper limit program calls rest env cs) then) cur
        (subst (λ p. Doing limit c f x (keeping (f.base + t) cur g) j q (stored.bind (Meaning.associated oper limit program calls rest env cur) then) (λ d. on f p st d) goal) l1
        (associations_into f calls_do rest B g j env q goal s h t n st room en m to cur then len w l2 go)))
    associations_into f calls_do (Association (r ∷ rs) None mentions value rest) B g j env q goal s h t n st room en from to cur then len (w, we, wr) l go =
        let repeated : Bool = Emission.is_repeated (r ∷ rs) value in
        let (m, l1, l2) = stands_seq c from to (given_code limit cuts program c f x calls globals mains epar calls_do repeated value s h t (r ∷ rs)) (Emission.associated program s.scope h t rest) l in
        does_assoc limit c f x _ _ then
        (given_into limit cuts program c f x calls globals mains epar calls_do repeated value (λ rs. component_done (with_rounds rs f) (inner_rounds rs calls_do) B value) (valued_into f calls_do value) B g j env q goal s h t n st room en (r ∷ rs) from m cur _ len w we l1 (λ cs clen.
        associations_into f calls_do rest B g j env q goal s h t n st room en m to cs then clen wr l2 go))
    associations_into f calls_do (Association runs (Some i') mentions value rest) B g j env q goal s h t n st room en from to cur then len (some, w, we, wr) l go =
        let (m, l1, l2) = stands_seq c from to (Emission.turnings s.scope h t i'.first (Emission.component program (iterated_sight s i'.parameter).scope (Emission.turn_height runs h) (s.scope.free + 1 + 1) value) runs) (Emission.associated program s.scope h t rest) l in
        does_assoc limit c f x _ _ then
        (turned_into limit cuts program c f x calls globals mains epar calls_do i' value (component_done f calls_do B value) B g j env q goal s h t n st room en some runs from m cur _ len w we l1 (λ cs clen.
        associations_into f calls_do rest B g j env q goal s h t n st room en m to cs then clen wr l2 go))

    composed_into : (f : Fixed) (calls_do : InnerDo limit cuts program globals mains epar c f calls) → (co : Composite) (B : Type 0) (g j : Ghost) (env : Env) (q : B → Type 0) (goal : B → Dyn → Step) (s : Sight) (h t n : ℕ) (st : List ℤ) → Room limit cuts program c f x calls globals mains epar calls_do g j s env t n → s.scope.entry ≡ x.entry → (from to : ℕ) (then : List ℤ → Stored B)
        → FittedComposite program globals mains epar s n co → Stands c (Emission.composed program s.scope h t co) from to → Then limit cuts program c f x calls globals mains epar calls_do g j q goal t n to st then
        → Doing limit c f x g j q (stored.bind (Meaning.composite oper limit program calls co env) then) (λ d. on f from st d) goal
    composed_into f calls_do (WholeVariable at r selections subtype) B g j env q goal s h t n st room en from to then (size, (m, e, reach), ws) (jl, l) go =
        let o : ObjectPart = variable_root r env in
        let u : Refers g f m (VariableOf o.object) o.offset = root_refers r m room.knows e in
        let (m1, l1, l2) = stands_seq c (from + 1) to (Emission.address s.scope (h + 1) (root_of s.scope r)) (selected program s.scope (h + 1 + 1) selections ⨟ one s.scope (h + 1 + 1) (i.Copy (Emission.cells_of program subtype))) l in
        let (m2, l3, (jc, z)) = stands_seq c m1 to (selected program s.scope (h + 1 + 1) selections) (one s.scope (h + 1 + 1) (i.Copy (Emission.cells_of program subtype))) l2 in
        let (j1, z1) = address_stands limit cuts program c f x calls globals mains epar calls_do s (h + 1) (root_of s.scope r) m (from + 1) m1 e l1 in
        does_assoc limit c f x _ _ then
        (does_before limit c f x (λ d. comes_goes limit c f st (from + 1) (pos (f.base + t) ∷ st) d jl refl)
        (does_seq limit c f x room.weak (λ ts al. al)
        (named_does limit cuts program c f x calls globals mains epar calls_do (from + 1) m1 m (VariableOf o.object) o.offset (pos (f.base + t) ∷ st) u j1 z1
        (picked f calls_do B selections m1 m2 s (h + 1 + 1) (pos (f.base + t) ∷ st) o u.address o.offset m.cells m.cells n room.knows en ws reach (le_refl o.offset) (le_refl (o.offset + m.cells)) u.spread.near l3))
        (λ p is.
        let part : Spread g (VariableOf p.object) p.offset n (u.address + (p.offset - o.offset)) = spread_part limit cuts program c f x calls globals mains epar u.spread (ap (λ y. VariableOf y) is.0) is.1 is.2 in
        does_copy limit cuts c f x (VariableOf p.object) p.offset (u.address + (p.offset - o.offset)) (f.base + t) n m2 (Values.layout program.subtypes subtype) n st then size (le_refl n) part room.own (at_entry en (subst (λ z. At c m2 (i.Copy z) s.scope.entry) size jc)) (λ vs len.
        subst (λ p. Doing limit c f x (keeping (f.base + t) vs g) j q (then vs) (λ d. on f p st d) goal) z (go vs len)))))
    composed_into f calls_do (WholeConstant at r selections subtype) B g j env q goal s h t n st room en from to then (size, (m, e, reach), ws) (jl, l) go =
        let o : ObjectPart = constant_root r env in
        let u : Refers g f m (ConstantOf o.object) o.offset = constant_root_refers r m room.knows e in
        let (m1, l1, l2) = stands_seq c (from + 1) to (Emission.address s.scope (h + 1) (constant_root_of s.scope r)) (selected program s.scope (h + 1 + 1) selections ⨟ one s.scope (h + 1 + 1) (i.Copy (Emission.cells_of program subtype))) l in
        let (m2, l3, (jc, z)) = stands_seq c m1 to (selected program s.scope (h + 1 + 1) selections) (one s.scope (h + 1 + 1) (i.Copy (Emission.cells_of program subtype))) l2 in
        let (j1, z1) = address_stands limit cuts program c f x calls globals mains epar calls_do s (h + 1) (constant_root_of s.scope r) m (from + 1) m1 e l1 in
        does_assoc limit c f x _ _ then
        (does_before limit c f x (λ d. comes_goes limit c f st (from + 1) (pos (f.base + t) ∷ st) d jl refl)
        (does_seq limit c f x room.weak (λ ts al. al)
        (named_does limit cuts program c f x calls globals mains epar calls_do (from + 1) m1 m (ConstantOf o.object) o.offset (pos (f.base + t) ∷ st) u j1 z1
        (picked f calls_do B selections m1 m2 s (h + 1 + 1) (pos (f.base + t) ∷ st) o u.address o.offset m.cells m.cells n room.knows en ws reach (le_refl o.offset) (le_refl (o.offset + m.cells)) u.spread.near l3))
        (λ p is.
        let part : Spread g (ConstantOf p.object) p.offset n (u.address + (p.offset - o.offset)) = spread_part limit cuts program c f x calls globals mains epar u.spread (ap (λ y. ConstantOf y) is.0) is.1 is.2 in
        does_copy limit cuts c f x (ConstantOf p.object) p.offset (u.address + (p.offset - o.offset)) (f.base + t) n m2 (Values.layout program.subtypes subtype) n st then size (le_refl n) part room.own (at_entry en (subst (λ z. At c m2 (i.Copy z) s.scope.entry) size jc)) (λ vs len.
        subst (λ p. Doing limit c f x (keeping (f.base + t) vs g) j q (then vs) (λ d. on f p st d) goal) z (go vs len)))))
    composed_into f calls_do (WholeTarget at subtype) B g j env q goal s h t n st room en from to then (size, m, e, some) (jl, l) go =
        let o : ObjectPart = env.target in
        let u : Refers g f m (VariableOf o.object) o.offset = room.knows.target m e in
        let (m1, l1, (jc, z)) = stands_seq c (from + 1) to (Emission.address s.scope (h + 1) s.scope.target) (one s.scope (h + 1 + 1) (i.Copy (Emission.cells_of program subtype))) l in
        let (j1, z1) = address_stands limit cuts program c f x calls globals mains epar calls_do s (h + 1) s.scope.target m (from + 1) m1 e l1 in
        does_before limit c f x (λ d. comes_goes limit c f st (from + 1) (pos (f.base + t) ∷ st) d jl refl)
        (does_by limit c f x (λ t' d fit. subst (λ p. To limit c (on f (from + 1) (pos (f.base + t) ∷ st) d) (on f p (pos u.address ∷ pos (f.base + t) ∷ st) d)) (sym z1) (comes_address limit c f m u.address (pos (f.base + t) ∷ st) d fit u.leads j1))
        (does_copy limit cuts c f x (VariableOf o.object) o.offset u.address (f.base + t) m.cells m1 (Values.layout program.subtypes subtype) n st then size some u.spread room.own (at_entry en (subst (λ z. At c m1 (i.Copy z) s.scope.entry) size jc)) (λ vs len.
        subst (λ p. Doing limit c f x (keeping (f.base + t) vs g) j q (then vs) (λ d. on f p st d) goal) z (go vs len))))
    composed_into f calls_do (CompositeIf condition value otherwise) B g j env q goal s h t n st room en from to then w l go =
        let (m1, l1, l2) = stands_seq c from to (emit program s.scope h condition) (Rattle.ada_lower.specs.Sights.choose s.scope h h (Emission.composed program s.scope h t value) (Emission.composed program s.scope h t otherwise)) l in
        let z = stands_choose c m1 to s h h (Emission.composed program s.scope h t value) (Emission.composed program s.scope h t otherwise) l2 in
        does_assoc limit c f x _ _ then
        (does_seq limit c f x room.weak (λ ts al. al) (valued f calls_do B condition from m1 s h st room.knows en w.0 l1) (λ v _.
        either_do limit cuts program c f x calls globals mains epar (Meaning.composite oper limit program calls value env) (Meaning.composite oper limit program calls otherwise env) then m1 (z.mid + 1) v st (truth v) refl (at_entry en z.test)
        (composed_into f calls_do value B g j env q goal s h t n st room en (m1 + 1) z.mid then w.1 z.first (λ cs len. does_before limit c f x (λ d. comes_goes limit c f st to st d (at_entry en z.jump) refl) (go cs len)))
        (composed_into f calls_do otherwise B g j env q goal s h t n st room en (z.mid + 1) to then w.2 z.second go)))
    composed_into f calls_do (Aggregate at size associations) B g j env q goal s h t n st room en from to then (same, w) (jl, (jf, l)) go =
        does_before limit c f x (λ d. comes_goes limit c f st (from + 1) (pos (f.base + t) ∷ st) d jl refl)
        (does_first limit c f x (fewer_kept limit cuts program c f x calls globals mains epar (f.base + t) (Values.zeros size) g) (λ t' d fit. fill_goes limit cuts program c f x calls globals mains epar size (f.base + t) st (λ k lt. room.own k (omega (arith, lt, same))) jf fit)
        (associations_into f calls_do associations B g j env q goal s h t n st room en (from + 1 + 1) to (Values.zeros size) then (zeros_length limit cuts program c f x calls globals mains epar size ∙ same) w l go))

module _ (limit : ℕ) (cuts : ℕ → ℕ → List ℕ) (program : Program) (c : Code) (f : Fixed) (x : Ends) (calls : ℕ → ℕ → Stored (Unit {0}) → List Passed → Stored Returned) (globals : ℕ → Entity → Option Named) (mains : Entity → Bool) (epar : Sight → Expr → Type 0) (calls_do : InnerDo limit cuts program globals mains epar c f calls) where
  pub value_into : (value : Value) → Into limit cuts program c f x calls globals mains epar calls_do value
  value_into value = valued_into limit cuts program c x calls globals mains epar f calls_do value

  pub value_does : (e : Expr) (from to : ℕ) {g : Ghost} {env : Env} (s : Sight) (h : ℕ) (st : List ℤ) → Knows limit cuts g f s env → s.scope.entry ≡ x.entry → Fitted program globals mains epar s e → Stands c (emit program s.scope h e) from to → Gives limit cuts program c f x calls globals mains epar calls_do g (evals limit cuts program c f x calls globals mains epar calls_do e env) from to st
  value_does e from to {g} {env} s h st k en w l = valued limit cuts program c x calls globals mains epar f calls_do (Unit {0}) e from to {g = g} {env = env} s h st k en w l

  -- a turn of a reduction, whose accumulator is on the stack
  pub turn_does : (by : Reducer) (nested token : ℕ) (filter : Optional) (value : Expr) (from to : ℕ) {g : Ghost} {env : Env} (s : Sight) (h : ℕ) (a : ℤ) (st : List ℤ) → nested ≡ env.nested → Knows limit cuts g f s env → s.scope.entry ≡ x.entry → FittedOptional program globals mains epar s filter → FittedFold program globals mains s by → Fitted program globals mains epar s value
      → Stands c (one s.scope (h + 1) i.Turn ⨟ Emission.filtered program s.scope (h + 1) filter (emit program s.scope (h + 1) value ⨟ Emission.folding s.scope h by)) from to
      → Runs limit c f x g any (stored.bind (Meaning.iterate_value (stored.noted_operations limit cuts) (Meaning.holds (stored.noted_operations limit cuts) limit program calls filter env) (evals limit cuts program c f x calls globals mains epar calls_do value env)) (λ v. folded stored.doings (λ a b. reduce stored.doings stored.checks by token (Meaning.fold_call (stored.noted_operations limit cuts) limit program calls by nested) a b) a v)) (λ d. on f from (a ∷ st) d) (λ b d. on f to (b ∷ st) d)
  turn_does by nested token filter value from to s h a st ne k en wf wb wv l =
      fold_does limit cuts program c x calls globals mains epar f calls_do (Unit {0}) by nested token filter value from to s h a st ne k en wf wb (λ from to l. valued limit cuts program c x calls globals mains epar f calls_do (Unit {0}) value from to s (h + 1) (a ∷ st) k en wv l) l

  pub selected_does : (t : Selections) (from to : ℕ) {g : Ghost} {env : Env} (s : Sight) (h : ℕ) (st : List ℤ) (p : ObjectPart) (a first total n m : ℕ) → Knows limit cuts g f s env → s.scope.entry ≡ x.entry → FittedSelections program globals mains epar s t → Reaches n t m
      → first ≤ p.offset → p.offset + n ≤ first + total → a + total ≤ g.top → Stands c (selected program s.scope h t) from to
      → Runs limit c f x g (λ r. (r.object ≡ p.object) × (first ≤ r.offset) × (r.offset + m ≤ first + total)) (Meaning.select (stored.noted_operations limit cuts) limit program calls t env p)
      (λ d. on f from (pos (a + (p.offset - first)) ∷ st) d) (λ r d. on f to (pos (a + (r.offset - first)) ∷ st) d)
  selected_does t from to {g} {env} s h st p a first total n m k en w r le room near l = picked limit cuts program c x calls globals mains epar f calls_do (Unit {0}) t from to {g = g} {env = env} s h st p a first total n m k en w r le room near l

  -- the cells of an array or record
  pub composed_does : {B : Type 0} {g j : Ghost} {env : Env} {q : B → Type 0} {goal : B → Dyn → Step} (co : Composite) (s : Sight) (h t n : ℕ) (st : List ℤ) → ((s : stored.State) (d : Dyn) → Fit g s d → Fit j s d) → Knows limit cuts g f s env → s.scope.entry ≡ x.entry → t + n ≤ s.scope.free → s.scope.free ≤ s.cells
      → ((k : ℕ) → k < n → g.what (f.base + t + k) ≡ Free) → (from to : ℕ) (then : List ℤ → Stored B) → FittedComposite program globals mains epar s n co
      → Stands c (Emission.composed program s.scope h t co) from to → Then limit cuts program c f x calls globals mains epar calls_do g j q goal t n to st then
      → Doing limit c f x g j q (stored.bind (Meaning.composite (stored.noted_operations limit cuts) limit program calls co env) then) (λ d. on f from st d) goal
  composed_does {B} {g} {j} {env} {q} {goal} co s h t n st weak k en below room free from to then w l go =
      composed_into limit cuts program c x calls globals mains epar f calls_do co B g j env q goal s h t n st
      (record {
        below = below;
        own = λ i lt. own_free (g.what (f.base + t + i)) (free i lt);
        knows = k;
        weak = weak;
        kept = λ cs len. knows_kept t cs (omega (arith, below, len)) room (λ i lt. free i (omega (arith, lt, len))) k;
        less = λ cs len u d w. weak u d (fit_unkept (f.base + t) cs g (λ i lt. free i (omega (arith, lt, len))) w);
      }) en from to then w l go
