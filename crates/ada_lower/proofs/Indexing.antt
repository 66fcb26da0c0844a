-- An index moves an address: it is pushed first, or the instruction reads it where it lies in a cell of the own frame.
use Rattle.std.proofs.Common.{◌≡◌, ℕ, ◌+◌, ◌*◌, ◌-ℤ◌, ◌<◌, ◌≤◌, ℤ, pos, List, [], ◌∷◌, ◌++◌, slice_get, Option, Some, None, Bool, true, false, cond, refl, sym, ap, ◌∙◌, subst, arith, mul-le-mul_right}
use Rattle.std.proofs.lemmas.Option.{none-some}
use Rattle.behaviours.specs.Paths.{Entity, VariableOf, ConstantOf}
use Rattle.typed_tree.specs.Syntax.{Expr, Variable, Constant, Parameter, Whole, Program}
use Rattle.ada_base.specs.Cells.{value_in}
use Rattle.ada_meaning.specs.Values.{between, to_nat, count}
use Rattle.ada_meaning.specs.Operations.{IndexCheck}
use Rattle.ada_meaning.specs.Stored as stored
use Rattle.ada_meaning.specs.Stored.{Stored}
use Rattle.ada_meaning.specs.Meaning
use Rattle.ada_meaning.specs.Meaning.{Env, Passed, Returned, variable_root, constant_root}
use Rattle.ada_meaning.proofs.Cells.{some_same}
use Rattle.stack_code.specs.declared.code.Code.{Code}
use Rattle.stack_code.specs.declared.instr.Instr.TheVariants as i
use Rattle.stack_code.specs.Deeds.{GoesOn, indexed, item_at, load_from, pointed}
use Rattle.lower_emission.specs.Emission.{address, own_level, own_where, own_named, own_cell, indexed_by, item_by, main_level, main_named, component_address, component_value}
use Rattle.ada_lower.specs.Driven.{Dyn, Fixed, Step, on, state_of, driven, At}
use Rattle.ada_lower.specs.Sights.{Around, Level, Main, Named, Own, Sight, Stands, Where, one, ◌⨟◌}
use Rattle.ada_lower.specs.Emission.{emit}
use Rattle.ada_lower.specs.Fits.{Ghost, Ends, Holds, IsAt, Knows, Leads, Refers, place_in, Stands as StandsFor}
use Rattle.ada_lower.specs.Fitted.{Fitted}
use Rattle.stack_code.specs.Machine.{done, with_value}
use Rattle.ada_lower.proofs.Framework.{any, To, comes_as, comes_instr, does_before, does_bind, does_ret, does_returned}
use Rattle.ada_lower.proofs.Memory.{does_read, number_seen}
use Rattle.ada_lower.proofs.Names.{comes_address, comes_same, comes_to, constant_root_refers, does_by, does_index, does_indexed, does_item, index_below, root_refers}
use Rattle.ada_lower.proofs.Parts.{Runs}
use Rattle.ada_lower.proofs.Standing.{stands_seq}
use Rattle.ada_lower.proofs.Courses.{at_entry}

-- a component of an array in memory is there
component_near : (low high v : ℤ) (stride a top : ℕ) → a + count low high * stride ≤ top → between low v high ≡ true → a + to_nat (v -ℤ low) * stride ≤ top
component_near low high v stride a top near e =
    let lt = (index_below low v high e).0 in
    let b : to_nat (v -ℤ low) * stride ≤ count low high * stride = mul-le-mul_right stride (let l : to_nat (v -ℤ low) ≤ count low high = omega (arith, lt) in l) in
    omega (arith, near, b)

module _ (limit : ℕ) (c : Code) (f : Fixed) where
  at_own : (l : Level) (m a n : ℕ) → own_level l m ≡ Some n → IsAt f l m a → a ≡ f.base + n
  at_own Own m a n e is = is ∙ ap (λ n. f.base + n) (some_same m n e)
  at_own (Around k) m a n e is = absurd (none-some n e)
  at_own Main m a n e is = absurd (none-some n e)

  leads_own : (t : Bool) (g : Ghost) (w : Where) (a n : ℕ) → cond t None (own_level w.level w.cell) ≡ Some n → Leads t g f w a → a ≡ f.base + n
  leads_own true g w a n e l = absurd (none-some n e)
  leads_own false g w a n e l = at_own w.level w.cell a n e l

  -- where an address in the main frame is known
  at_main : (l : Level) (m a n : ℕ) → main_level l m ≡ Some n → IsAt f l m a → a ≡ n
  at_main Own m a n e is = absurd (none-some n e)
  at_main (Around k) m a n e is = absurd (none-some n e)
  at_main Main m a n e is = is ∙ some_same m n e

  leads_main : (t : Bool) (g : Ghost) (w : Where) (a n : ℕ) → cond t None (main_level w.level w.cell) ≡ Some n → Leads t g f w a → a ≡ n
  leads_main true g w a n e l = absurd (none-some n e)
  leads_main false g w a n e l = at_main w.level w.cell a n e l

  -- the instruction that reads the index
  comes_index : {q : ℕ} {e : Option ℕ} (n : ℕ) (low high v : ℤ) (stride a : ℕ) (st : List ℤ) (d : Dyn) → At c q (i.IndexL n low high stride) e → value_in (slice_get d.cells (f.base + n)) ≡ Some v
      → To limit c (on f q (pos a ∷ st) d) (comes_to limit c f q (pos a ∷ st) d (pointed q (indexed low high stride (pos a) v) (st ++ f.below)))
  comes_index {q} n low high v stride a st d at z =
      comes_as limit c f (pos a ∷ st) d at (ap (λ o. driven limit c (with_value o (state_of f q (pos a ∷ st) [] None d) (λ v. done limit (pointed q (indexed low high stride (pos a) v) (st ++ f.below)) (state_of f q (pos a ∷ st) [] None d))) d.world) z)

  comes_item : {q : ℕ} {e : Option ℕ} (n : ℕ) (low high v : ℤ) (stride a : ℕ) (st : List ℤ) (d : Dyn) → At c q (i.ItemL n low high stride) e → value_in (slice_get d.cells (f.base + n)) ≡ Some v
      → To limit c (on f q (pos a ∷ st) d) (comes_to limit c f q (pos a ∷ st) d (item_at q (indexed low high stride (pos a) v) (st ++ f.below)))
  comes_item {q} n low high v stride a st d at z =
      comes_as limit c f (pos a ∷ st) d at (ap (λ o. driven limit c (with_value o (state_of f q (pos a ∷ st) [] None d) (λ v. done limit (item_at q (indexed low high stride (pos a) v) (st ++ f.below)) (state_of f q (pos a ∷ st) [] None d))) d.world) z)

  -- the instruction that knows the address as well
  comes_found : {q : ℕ} {e : Option ℕ} (m n : ℕ) (low high v : ℤ) (stride a : ℕ) (st : List ℤ) (d : Dyn) → a ≡ m → At c q (i.IndexG m low high stride n) e → value_in (slice_get d.cells (f.base + n)) ≡ Some v
      → To limit c (on f q st d) (comes_to limit c f q st d (pointed q (indexed low high stride (pos a) v) (st ++ f.below)))
  comes_found {q} m n low high v stride a st d same at z =
      subst (λ p. To limit c (on f q st d) (comes_to limit c f q st d (pointed q (indexed low high stride (pos p) v) (st ++ f.below)))) (sym same)
      (comes_as limit c f st d at (ap (λ o. driven limit c (with_value o (state_of f q st [] None d) (λ v. done limit (pointed q (indexed low high stride (pos m) v) (st ++ f.below)) (state_of f q st [] None d))) d.world) z))

  comes_found_item : {q : ℕ} {e : Option ℕ} (m n : ℕ) (low high v : ℤ) (stride a : ℕ) (st : List ℤ) (d : Dyn) → a ≡ m → At c q (i.ItemG m low high stride n) e → value_in (slice_get d.cells (f.base + n)) ≡ Some v
      → To limit c (on f q st d) (comes_to limit c f q st d (item_at q (indexed low high stride (pos a) v) (st ++ f.below)))
  comes_found_item {q} m n low high v stride a st d same at z =
      subst (λ p. To limit c (on f q st d) (comes_to limit c f q st d (item_at q (indexed low high stride (pos p) v) (st ++ f.below)))) (sym same)
      (comes_as limit c f st d at (ap (λ o. driven limit c (with_value o (state_of f q st [] None d) (λ v. done limit (item_at q (indexed low high stride (pos m) v) (st ++ f.below)) (state_of f q st [] None d))) d.world) z))

  -- a cell is read where an index has led
  comes_read : (q : ℕ) (su st : List ℤ) (a : ℕ) (v : ℤ) (d : Dyn) → value_in (slice_get d.cells a) ≡ Some v → To limit c (comes_to limit c f q su d (load_from q (st ++ f.below) (pos a))) (on f (q + 1) (v ∷ st) d)
  comes_read q su st a v d z =
      comes_same limit c f (ap (λ o. driven limit c (with_value o (state_of f q su [] None d) (λ v. done limit (GoesOn (q + 1) (v ∷ (st ++ f.below))) (state_of f q su [] None d))) d.world) z)

module _ (limit : ℕ) (cuts : ℕ → ℕ → List ℕ) (program : Program) (c : Code) (f : Fixed) (x : Ends) (calls : ℕ → ℕ → Stored (Unit {0}) → List Passed → Stored Returned) (globals : ℕ → Entity → Option Named) (mains : Entity → Bool) (epar : Sight → Expr → Type 0) where
  abbrev evals : Expr → Env → Stored ℤ
  evals e env = Meaning.eval (stored.noted_operations limit cuts) limit program calls e env

  abbrev Reads : ℕ → (Dyn → Step) → (ℤ → Dyn → Step) → Type 0
  Reads n from to = (v : ℤ) (d : Dyn) → value_in (slice_get d.cells (f.base + n)) ≡ Some v → To limit c (from d) (to v d)

  -- what is named is there
  place_read : {g : Ghost} {from : Dyn → Step} {to : ℤ → Dyn → Step} (m : Named) (n : ℕ) (y : Entity) (first : ℕ) → own_named (Some m) ≡ Some n → 0 < m.cells → Refers g f m y first → Reads n from to → Runs limit c f x g any (stored.reads y first) from to
  place_read {g} m n y first e some r k =
      let (p, access, here, is) = r.spread.cell 0 some in
      let z : first + 0 ≡ first = omega arith in
      let z' : r.address + 0 ≡ r.address = omega arith in
      let at : r.address ≡ f.base + n = leads_own limit c f m.through g m.place r.address n e r.leads in
      does_read limit c f x y first r.address p access (subst (λ i. place_in g y i ≡ Some p) z here) (subst (λ a. g.what a ≡ StandsFor access p) z' is)
      (λ v d w. k v d (subst (λ a. value_in (slice_get d.cells a) ≡ Some v) at w))

  -- a parameter's number is
  number_read : {g : Ghost} {from : Dyn → Step} {to : ℤ → Dyn → Step} (o : Option Where) (n : ℕ) (v : ℤ) → own_where o ≡ Some n → ((w : Where) → o ≡ Some w → Holds g f w v) → Reads n from to → Runs limit c f x g any (stored.ret v) from to
  number_read None n v e h k = absurd (none-some n e)
  number_read {g} {from} {to} (Some w) n v e h k =
      let (a, is, number) = h w refl in
      let at : a ≡ f.base + n = at_own limit c f w.level w.cell a n e is in
      does_by limit c f x (λ s d fit. k v d (subst (λ a. value_in (slice_get d.cells a) ≡ Some v) at (number_seen (g.what a) v s (slice_get d.cells a) number (fit.cells a))))
      (does_ret limit c f x {to = to} v tt)

  -- a value of the own frame comes from a step that reads the cell
  own_does : {g : Ghost} {env : Env} {from : Dyn → Step} {to : ℤ → Dyn → Step} (e : Expr) (s : Sight) (n : ℕ) → own_cell s.scope e ≡ Some n → Knows limit cuts g f s env → Fitted program globals mains epar s e → Reads n from to → Runs limit c f x g any (evals e env) from to
  own_does {env = env} (Variable at r Whole scalar) s n is k ((m, e, some), w) reads =
      does_returned limit c f x (λ p. stored.reads (VariableOf p.object) p.offset) (variable_root r env)
      (place_read m n (VariableOf (variable_root r env).object) (variable_root r env).offset (ap own_named (sym e) ∙ is) some (root_refers r m k e) reads)
  own_does {env = env} (Constant at r Whole scalar) s n is k ((m, e, some), w) reads =
      does_returned limit c f x (λ p. stored.reads (ConstantOf p.object) p.offset) (constant_root r env)
      (place_read m n (ConstantOf (constant_root r env).object) (constant_root r env).offset (ap own_named (sym e) ∙ is) some (constant_root_refers r m k e) reads)
  own_does {env = env} (Parameter at p) s n is k w reads = number_read (s.scope.parameter p) n (env.parameter p) is (λ w e. k.parameter p w e) reads
  own_does e s n is k w reads = absurd (none-some n is)

  -- An index moves the address on the stack; its check leads there, whatever the step before it.
  pub index_does : {B : Type 0} {g : Ghost} {env : Env} {q : B → Type 0} {goal : B → Dyn → Step} (e : Expr) (from to : ℕ) (s : Sight) (h at : ℕ) (low high : ℤ) (stride a : ℕ) (st : List ℤ) (then : ℤ → Stored B)
      → a + count low high * stride ≤ g.top → Knows limit cuts g f s env → s.scope.entry ≡ x.entry → Fitted program globals mains epar s e
      → ((m : ℕ) → Stands c (emit program s.scope h e) from m → Runs limit c f x g any (evals e env) (λ d. on f from (pos a ∷ st) d) (λ v d. on f m (v ∷ pos a ∷ st) d))
      → Stands c (indexed_by s.scope h (own_cell s.scope e) low high stride (emit program s.scope h e)) from to
      → ((v : ℤ) (mid : Dyn → Step) → Runs limit c f x g (λ _. between low v high ≡ true) (stored.checks IndexCheck at (between low v high)) mid (λ _ d. on f to (pos (a + to_nat (v -ℤ low) * stride) ∷ st) d) → Runs limit c f x g q (then v) mid goal)
      → Runs limit c f x g q (stored.bind (evals e env) then) (λ d. on f from (pos a ∷ st) d) goal
  index_does {B} {g} {env} {q} {goal} e from to s h at low high stride a st then near k en w pushes l go = by (own_cell s.scope e) refl l
    where
      inside : (v : ℤ) → between low v high ≡ true → a + to_nat (v -ℤ low) * stride ≤ g.top
      inside v e = component_near low high v stride a g.top near e

      moves : (v : ℤ) (mid : Dyn → Step) (m : ℕ) → to ≡ m + 1 → Runs limit c f x g (λ _. between low v high ≡ true) (stored.checks IndexCheck at (between low v high)) mid (λ _ d. on f (m + 1) (pos (a + to_nat (v -ℤ low) * stride) ∷ st) d) → Runs limit c f x g q (then v) mid goal
      moves v mid m z j = go v mid (subst (λ p. Runs limit c f x g (λ _. between low v high ≡ true) (stored.checks IndexCheck at (between low v high)) mid (λ _ d. on f p (pos (a + to_nat (v -ℤ low) * stride) ∷ st) d)) (sym z) j)

      by : (o : Option ℕ) → own_cell s.scope e ≡ o → Stands c (indexed_by s.scope h o low high stride (emit program s.scope h e)) from to → Runs limit c f x g q (stored.bind (evals e env) then) (λ d. on f from (pos a ∷ st) d) goal
      by None is l =
          let (m, l1, (j, z)) = stands_seq c from to (emit program s.scope h e) (one s.scope (h + 1) (i.Index low high stride)) l in
          does_bind limit c f x (pushes m l1) (λ v _. moves v (λ d. on f m (v ∷ pos a ∷ st) d) m z (does_index limit c f x IndexCheck at low high v stride a st (inside v) (at_entry en j)))
      by (Some n) is (j, z) =
          does_bind limit c f x (own_does e s n is k w (λ v d seen. comes_index limit c f n low high v stride a st d j seen)) (λ v _.
          moves v (λ d. comes_to limit c f from (pos a ∷ st) d (pointed from (indexed low high stride (pos a) v) (st ++ f.below))) from z (does_indexed limit c f x IndexCheck at low high v stride a (pos a ∷ st) st (inside v) (at_entry en j)))

  -- An index to a component that is read: its check leads to a step that reads there.
  pub item_does : {B : Type 0} {g : Ghost} {env : Env} {q : B → Type 0} {goal : B → Dyn → Step} (e : Expr) (from to : ℕ) (s : Sight) (h at : ℕ) (low high : ℤ) (stride a : ℕ) (st : List ℤ) (then : ℤ → Stored B)
      → Knows limit cuts g f s env → s.scope.entry ≡ x.entry → Fitted program globals mains epar s e
      → ((m : ℕ) → Stands c (emit program s.scope h e) from m → Runs limit c f x g any (evals e env) (λ d. on f from (pos a ∷ st) d) (λ v d. on f m (v ∷ pos a ∷ st) d))
      → Stands c (item_by s.scope h (own_cell s.scope e) low high stride (emit program s.scope h e)) from to
      → ((v : ℤ) (mid last : Dyn → Step) → Runs limit c f x g (λ _. between low v high ≡ true) (stored.checks IndexCheck at (between low v high)) mid (λ _ d. last d)
      → ((u : ℤ) (d : Dyn) → value_in (slice_get d.cells (a + to_nat (v -ℤ low) * stride)) ≡ Some u → To limit c (last d) (on f to (u ∷ st) d)) → Runs limit c f x g q (then v) mid goal)
      → Runs limit c f x g q (stored.bind (evals e env) then) (λ d. on f from (pos a ∷ st) d) goal
  item_does {B} {g} {env} {q} {goal} e from to s h at low high stride a st then k en w pushes l go = by (own_cell s.scope e) refl l
    where
      reads : (v : ℤ) (mid : Dyn → Step) (m : ℕ) (su : List ℤ) → to ≡ m + 1
          → Runs limit c f x g (λ _. between low v high ≡ true) (stored.checks IndexCheck at (between low v high)) mid (λ _ d. comes_to limit c f m su d (load_from m (st ++ f.below) (pos (a + to_nat (v -ℤ low) * stride)))) → Runs limit c f x g q (then v) mid goal
      reads v mid m su z j = go v mid (λ d. comes_to limit c f m su d (load_from m (st ++ f.below) (pos (a + to_nat (v -ℤ low) * stride)))) j (λ u d seen.
          subst (λ p. To limit c (comes_to limit c f m su d (load_from m (st ++ f.below) (pos (a + to_nat (v -ℤ low) * stride)))) (on f p (u ∷ st) d)) (sym z) (comes_read limit c f m su st (a + to_nat (v -ℤ low) * stride) u d seen))

      by : (o : Option ℕ) → own_cell s.scope e ≡ o → Stands c (item_by s.scope h o low high stride (emit program s.scope h e)) from to → Runs limit c f x g q (stored.bind (evals e env) then) (λ d. on f from (pos a ∷ st) d) goal
      by None is l =
          let (m, l1, (j, z)) = stands_seq c from to (emit program s.scope h e) (one s.scope (h + 1) (i.Item low high stride)) l in
          does_bind limit c f x (pushes m l1) (λ v _. reads v (λ d. on f m (v ∷ pos a ∷ st) d) m (v ∷ pos a ∷ st) z
          (does_before limit c f x (λ d. comes_instr limit c f (v ∷ pos a ∷ st) d j) (does_item limit c f x IndexCheck at low high v stride a (v ∷ pos a ∷ st) st (at_entry en j))))
      by (Some n) is (j, z) =
          does_bind limit c f x (own_does e s n is k w (λ v d seen. comes_item limit c f n low high v stride a st d j seen)) (λ v _.
          reads v (λ d. comes_to limit c f from (pos a ∷ st) d (item_at from (indexed low high stride (pos a) v) (st ++ f.below))) from (pos a ∷ st) z
          (does_item limit c f x IndexCheck at low high v stride a (pos a ∷ st) st (at_entry en j)))

  -- where what is named begins in the main frame
  begins_at : {g : Ghost} (o : Option Named) (m : Named) (n : ℕ) (y : Entity) (first : ℕ) (u : Refers g f m y first) → o ≡ Some m → main_named o ≡ Some n → u.address ≡ n
  begins_at {g} o m n y first u e is = leads_main limit c f m.through g m.place u.address n (ap main_named (sym e) ∙ is) u.leads

  -- the address of what is named is pushed
  named_then : {A : Type 0} {g : Ghost} {q : A → Type 0} {does : Stored A} {goal : A → Dyn → Step} (o : Option Named) (m : Named) (from mid : ℕ) (s : Sight) (h : ℕ) (y : Entity) (first : ℕ) (u : Refers g f m y first) (st : List ℤ) → o ≡ Some m
      → Stands c (address s.scope h o) from mid → Runs limit c f x g q does (λ d. on f mid (pos u.address ∷ st) d) goal → Runs limit c f x g q does (λ d. on f from st d) goal
  named_then {A} {g} {q} {does} {goal} o m from mid s h y first u st e l run =
      let (j, z) = subst (λ o. Stands c (address s.scope h o) from mid) e l in
      does_by limit c f x (λ t d fit. comes_address limit c f m u.address st d fit u.leads j) (subst (λ p. Runs limit c f x g q does (λ d. on f p (pos u.address ∷ st) d) goal) z run)

  -- An index moves the address of what is named.
  pub named_index_does : {B : Type 0} {g : Ghost} {env : Env} {q : B → Type 0} {goal : B → Dyn → Step} (e : Expr) (o : Option Named) (m : Named) (from to : ℕ) (s : Sight) (h at : ℕ) (low high : ℤ) (stride : ℕ) (y : Entity) (first : ℕ) (u : Refers g f m y first) (st : List ℤ) (then : ℤ → Stored B)
      → u.address + count low high * stride ≤ g.top → o ≡ Some m → Knows limit cuts g f s env → s.scope.entry ≡ x.entry → Fitted program globals mains epar s e
      → ((p r : ℕ) → Stands c (emit program s.scope (h + 1) e) p r → Runs limit c f x g any (evals e env) (λ d. on f p (pos u.address ∷ st) d) (λ v d. on f r (v ∷ pos u.address ∷ st) d))
      → Stands c (component_address s.scope h o (main_named o) (own_cell s.scope e) low high stride (emit program s.scope (h + 1) e)) from to
      → ((v : ℤ) (mid : Dyn → Step) → Runs limit c f x g (λ _. between low v high ≡ true) (stored.checks IndexCheck at (between low v high)) mid (λ _ d. on f to (pos (u.address + to_nat (v -ℤ low) * stride) ∷ st) d) → Runs limit c f x g q (then v) mid goal)
      → Runs limit c f x g q (stored.bind (evals e env) then) (λ d. on f from st d) goal
  named_index_does {B} {g} {env} {q} {goal} e o m from to s h at low high stride y first u st then near some k en w pushes l go = by (main_named o) refl l
    where
      rest : Stands c (address s.scope h o ⨟ indexed_by s.scope (h + 1) (own_cell s.scope e) low high stride (emit program s.scope (h + 1) e)) from to → Runs limit c f x g q (stored.bind (evals e env) then) (λ d. on f from st d) goal
      rest l =
          let (p, l1, l2) = stands_seq c from to (address s.scope h o) (indexed_by s.scope (h + 1) (own_cell s.scope e) low high stride (emit program s.scope (h + 1) e)) l in
          named_then o m from p s h y first u st some l1 (index_does e p to s (h + 1) at low high stride u.address st then near k en w (λ r l. pushes p r l) l2 go)

      both : (n : ℕ) → main_named o ≡ Some n → (own : Option ℕ) → own_cell s.scope e ≡ own → Stands c (component_address s.scope h o (Some n) own low high stride (emit program s.scope (h + 1) e)) from to → Runs limit c f x g q (stored.bind (evals e env) then) (λ d. on f from st d) goal
      both n is None is' l = rest (subst (λ v. Stands c (address s.scope h o ⨟ indexed_by s.scope (h + 1) v low high stride (emit program s.scope (h + 1) e)) from to) (sym is') l)
      both n is (Some i') is' (j, z) =
          does_bind limit c f x (own_does e s i' is' k w (λ v d seen. comes_found limit c f n i' low high v stride u.address st d (begins_at o m n y first u some is) j seen)) (λ v _.
          go v (λ d. comes_to limit c f from st d (pointed from (indexed low high stride (pos u.address) v) (st ++ f.below)))
          (subst (λ p. Runs limit c f x g (λ _. between low v high ≡ true) (stored.checks IndexCheck at (between low v high)) (λ d. comes_to limit c f from st d (pointed from (indexed low high stride (pos u.address) v) (st ++ f.below))) (λ _ d. on f p (pos (u.address + to_nat (v -ℤ low) * stride) ∷ st) d)) (sym z)
          (does_indexed limit c f x IndexCheck at low high v stride u.address st st (component_near low high v stride u.address g.top near) (at_entry en j))))

      by : (n : Option ℕ) → main_named o ≡ n → Stands c (component_address s.scope h o n (own_cell s.scope e) low high stride (emit program s.scope (h + 1) e)) from to → Runs limit c f x g q (stored.bind (evals e env) then) (λ d. on f from st d) goal
      by None is l = rest l
      by (Some n) is l = both n is (own_cell s.scope e) refl l

  -- A component of what is named is read.
  pub named_item_does : {B : Type 0} {g : Ghost} {env : Env} {q : B → Type 0} {goal : B → Dyn → Step} (e : Expr) (o : Option Named) (m : Named) (from to : ℕ) (s : Sight) (h at : ℕ) (low high : ℤ) (stride : ℕ) (y : Entity) (first : ℕ) (u : Refers g f m y first) (st : List ℤ) (then : ℤ → Stored B)
      → o ≡ Some m → Knows limit cuts g f s env → s.scope.entry ≡ x.entry → Fitted program globals mains epar s e
      → ((p r : ℕ) → Stands c (emit program s.scope (h + 1) e) p r → Runs limit c f x g any (evals e env) (λ d. on f p (pos u.address ∷ st) d) (λ v d. on f r (v ∷ pos u.address ∷ st) d))
      → Stands c (component_value s.scope h o (main_named o) (own_cell s.scope e) low high stride (emit program s.scope (h + 1) e)) from to
      → ((v : ℤ) (mid last : Dyn → Step) → Runs limit c f x g (λ _. between low v high ≡ true) (stored.checks IndexCheck at (between low v high)) mid (λ _ d. last d)
      → ((i : ℤ) (d : Dyn) → value_in (slice_get d.cells (u.address + to_nat (v -ℤ low) * stride)) ≡ Some i → To limit c (last d) (on f to (i ∷ st) d)) → Runs limit c f x g q (then v) mid goal)
      → Runs limit c f x g q (stored.bind (evals e env) then) (λ d. on f from st d) goal
  named_item_does {B} {g} {env} {q} {goal} e o m from to s h at low high stride y first u st then some k en w pushes l go = by (main_named o) refl l
    where
      rest : Stands c (address s.scope h o ⨟ item_by s.scope (h + 1) (own_cell s.scope e) low high stride (emit program s.scope (h + 1) e)) from to → Runs limit c f x g q (stored.bind (evals e env) then) (λ d. on f from st d) goal
      rest l =
          let (p, l1, l2) = stands_seq c from to (address s.scope h o) (item_by s.scope (h + 1) (own_cell s.scope e) low high stride (emit program s.scope (h + 1) e)) l in
          named_then o m from p s h y first u st some l1 (item_does e p to s (h + 1) at low high stride u.address st then k en w (λ r l. pushes p r l) l2 go)

      last : ℤ → Dyn → Step
      last v d = comes_to limit c f from st d (load_from from (st ++ f.below) (pos (u.address + to_nat (v -ℤ low) * stride)))

      both : (n : ℕ) → main_named o ≡ Some n → (own : Option ℕ) → own_cell s.scope e ≡ own → Stands c (component_value s.scope h o (Some n) own low high stride (emit program s.scope (h + 1) e)) from to → Runs limit c f x g q (stored.bind (evals e env) then) (λ d. on f from st d) goal
      both n is None is' l = rest (subst (λ v. Stands c (address s.scope h o ⨟ item_by s.scope (h + 1) v low high stride (emit program s.scope (h + 1) e)) from to) (sym is') l)
      both n is (Some i') is' (j, z) =
          does_bind limit c f x (own_does e s i' is' k w (λ v d seen. comes_found_item limit c f n i' low high v stride u.address st d (begins_at o m n y first u some is) j seen)) (λ v _.
          go v (λ d. comes_to limit c f from st d (item_at from (indexed low high stride (pos u.address) v) (st ++ f.below))) (last v)
          (does_item limit c f x IndexCheck at low high v stride u.address st st (at_entry en j))
          (λ r d seen. subst (λ p. To limit c (last v d) (on f p (r ∷ st) d)) (sym z) (comes_read limit c f from st st (u.address + to_nat (v -ℤ low) * stride) r d seen)))

      by : (n : Option ℕ) → main_named o ≡ n → Stands c (component_value s.scope h o n (own_cell s.scope e) low high stride (emit program s.scope (h + 1) e)) from to → Runs limit c f x g q (stored.bind (evals e env) then) (λ d. on f from st d) goal
      by None is l = rest l
      by (Some n) is l = both n is (own_cell s.scope e) refl l
