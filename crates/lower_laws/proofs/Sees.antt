-- What is in scope leads to cells: in the scope of the code what is in scope of the program is named, with enough cells.
use Rattle.std.proofs.Common.{◌≡◌, ℕ, ◌+◌, ◌≤◌, List, [], nat_eq, length, slice_get, Option, Some, None, Bool, true, false, cond, refl, sym, ap, ◌∙◌, subst, arith}
use Rattle.behaviours.specs.Paths.{Entity, VariableOf, ConstantOf, entity_eq}
use Rattle.typed_tree.specs.Syntax.{Chunk, NoChunk, Count, Each, Program}
use Rattle.typed_tree.specs.declared.expressions.Root.{Root}
use Rattle.typed_tree.specs.declared.expressions.Root.TheVariants as root
use Rattle.typed_tree.specs.declared.program.Object.{Object}
use Rattle.ada_meaning.specs.Formed as formed
use Rattle.ada_meaning.specs.Meaning.{object_layout}
use Rattle.ada_meaning.specs.Values.{layout}
use Rattle.typed_tree.specs.declared.scalars.Scalar.{Scalar}
use Rattle.ada_meaning.specs.Shapes.{Shape, Record, NoShape, size, object_shape, subtype_shape}
use Rattle.ada_meaning.proofs.Cells.{entity_same, some_same}
use Rattle.ada_meaning.proofs.Shapes.{shape_law}
use Rattle.stack_code.specs.declared.code.Around as body
use Rattle.stack_code.specs.declared.code.Around.TheVariants.{Site}
use Rattle.lower_emission.specs.Scope as scope
use Rattle.ada_lower.specs.Sights.{Named, Sight, Where, chunk_sight, constant_root_of, item_sight, iterated_sight, nested_sight, object_here, own, range_sight, root_of, taking, thread_sight, with_entry, with_exit, with_handled, with_outside, with_target}
use Rattle.ada_lower.specs.Emission.{first_parameter, turn_item}
use Rattle.typed_scopes.specs.Scopes as scopes
use Rattle.typed_scopes.specs.Scopes.{Around, ConstantSeen, VariableSeen}

abbrev pub number_of : Entity → ℕ
number_of (VariableOf x) = x
number_of (ConstantOf x) = x

abbrev pub layout_at : Program → Option Object → List Scalar
layout_at program None = []
layout_at program (Some o) = layout program.subtypes o.subtype

abbrev pub shape_at : Program → Option Object → Shape
shape_at program None = Record NoShape
shape_at program (Some o) = subtype_shape program o.subtype

-- an object has as many cells as its shape
pub object_size : (program : Program) (x : ℕ) → length (object_layout program x) ≡ size (object_shape program x)
object_size program x = go (slice_get program.objects x) refl
  where
    go : (o : Option Object) → slice_get program.objects x ≡ o → length (object_layout program x) ≡ size (object_shape program x)
    go None e = ap (λ o. length (layout_at program o)) e ∙ sym (ap (λ o. size (shape_at program o)) e)
    go (Some o) e = ap (λ o. length (layout_at program o)) e ∙ (shape_law program o.subtype).1 ∙ sym (ap (λ o. size (shape_at program o)) e)

same_le : {a b : ℕ} → a ≡ b → b ≤ a
same_le e = omega (arith, e)

-- it is named, with so many cells at least
abbrev pub Named' : Option Named → ℕ → Type 0
Named' o m = (n : Named) × (o ≡ Some n) × (m ≤ n.cells)

module _ (program : Program) (names : Entity → Option Named) (mains : Entity → Bool) (T : List ℕ → Type 0) (frames : ℕ → ℕ) (room : body.Around → ℕ) where
  -- what is known of shapes, what is in scope, and the scope of the code
  pub record Sees (w : formed.Known) (v : Around) (s : Sight) : Type 0 where
    pub object : (y : Entity) → v.object y ≡ true → Named' (s.scope.object y) (size (object_shape program (number_of y)))
    pub parameter : (k : ℕ) → v.parameter k ≡ true → (p : Where) × (s.scope.parameter k ≡ Some p)
    pub item : (k : ℕ) (t : Shape) → w.item k ≡ Some t → Named' (s.scope.item k) (size t)
    pub constant : (k : ℕ) (t : Shape) → w.constant k ≡ Some t → Named' (s.scope.constant_item k) (size t)
    pub target : (n : ℕ) → v.target ≡ Some n → Named' s.scope.target n
    pub handled : v.handled ≡ true → (p : Where) × (s.scope.handled ≡ Some p)
    pub taken : (y : Entity) → v.taken y ≡ false → s.seen y ≡ false
    pub free : s.scope.free ≤ s.cells
    pub enough : room s.scope.body ≤ s.cells
    pub global : (y : Entity) (n : Named) → v.outer y ≡ true → names y ≡ Some n → s.global y ≡ Some n
    pub main : (y : Entity) → mains y ≡ false → s.main y ≡ false
    pub text : (bytes : List ℕ) → T bytes → slice_get s.texts (s.scope.text bytes) ≡ Some bytes
    pub rows : (n : ℕ) → s.frames n ≡ frames n

  pub sees_taking : {w : formed.Known} {v : Around} {s : Sight} (n : ℕ) → s.scope.free + n ≤ s.cells → Sees w v s → Sees w v (taking n s)
  sees_taking n r k = record { object = k.object; parameter = k.parameter; item = k.item; constant = k.constant; target = k.target; handled = k.handled; taken = k.taken; free = r; enough = k.enough; global = k.global; main = k.main; text = k.text; rows = k.rows }

  pub sees_entry : {w : formed.Known} {v : Around} {s : Sight} (h : ℕ) → Sees w v s → Sees w v (with_entry h s)
  sees_entry h k = record { object = k.object; parameter = k.parameter; item = k.item; constant = k.constant; target = k.target; handled = k.handled; taken = k.taken; free = k.free; enough = k.enough; global = k.global; main = k.main; text = k.text; rows = k.rows }

  pub sees_exit : {w : formed.Known} {v : Around} {s : Sight} (loop to : ℕ) → Sees w v s → Sees w v (with_exit loop to s)
  sees_exit loop to k = record { object = k.object; parameter = k.parameter; item = k.item; constant = k.constant; target = k.target; handled = k.handled; taken = k.taken; free = k.free; enough = k.enough; global = k.global; main = k.main; text = k.text; rows = k.rows }

  pub sees_outside : {w : formed.Known} {v : Around} {s : Sight} (ns : List ℕ) → Sees w v s → Sees w v (with_outside ns s)
  sees_outside ns k = record { object = k.object; parameter = k.parameter; item = k.item; constant = k.constant; target = k.target; handled = k.handled; taken = k.taken; free = k.free; enough = k.enough; global = k.global; main = k.main; text = k.text; rows = k.rows }

  pub sees_nested : {w : formed.Known} {v : Around} {s : Sight} → Sees w v s → Sees w v (nested_sight s)
  sees_nested k = record { object = k.object; parameter = k.parameter; item = k.item; constant = k.constant; target = k.target; handled = k.handled; taken = k.taken; free = k.free; enough = k.enough; global = k.global; main = k.main; text = k.text; rows = k.rows }

  pub sees_target : {w : formed.Known} {v : Around} {s : Sight} (n : ℕ) (m : Named) → n ≤ m.cells → Sees w v s → Sees w (scopes.with_target n v) (with_target m s)
  sees_target n m le k = record { object = k.object; parameter = k.parameter; item = k.item; constant = k.constant; target = λ j e. (m, refl, subst (λ j. j ≤ m.cells) (some_same n j e) le); handled = k.handled; taken = k.taken; free = k.free; enough = k.enough; global = k.global; main = k.main; text = k.text; rows = k.rows }

  pub sees_aimed : {w : formed.Known} {v : Around} {s : Sight} (t : Shape) → Sees w v s → Sees (formed.with_aim t w) v s
  sees_aimed t k = record { object = k.object; parameter = k.parameter; item = k.item; constant = k.constant; target = k.target; handled = k.handled; taken = k.taken; free = k.free; enough = k.enough; global = k.global; main = k.main; text = k.text; rows = k.rows }

  pub sees_handled : {w : formed.Known} {v : Around} {s : Sight} (p : Where) → Sees w v s → Sees w (scopes.handling v) (with_handled p s)
  sees_handled p k = record { object = k.object; parameter = k.parameter; item = k.item; constant = k.constant; target = k.target; handled = λ e. (p, refl); taken = k.taken; free = k.free; enough = k.enough; global = k.global; main = k.main; text = k.text; rows = k.rows }

  -- a parameter
  also_parameter : {a : ℕ → Bool} {o : ℕ → Option Where} (k : ℕ) (p : Where) → ((j : ℕ) → a j ≡ true → (p : Where) × (o j ≡ Some p))
      → (j : ℕ) → cond (nat_eq j k) true (a j) ≡ true → (q : Where) × (cond (nat_eq j k) (Some p) (o j) ≡ Some q)
  also_parameter {a} {o} k p h j = go (nat_eq j k)
    where
      go : (b : Bool) → cond b true (a j) ≡ true → (q : Where) × (cond b (Some p) (o j) ≡ Some q)
      go true e = (p, refl)
      go false e = h j e

  also_item : {o : ℕ → Option Shape} {u : ℕ → Option Named} (k : ℕ) (t : Shape) (n : Named) → size t ≤ n.cells → ((j : ℕ) (t : Shape) → o j ≡ Some t → Named' (u j) (size t))
      → (j : ℕ) (r : Shape) → cond (nat_eq j k) (Some t) (o j) ≡ Some r → Named' (cond (nat_eq j k) (Some n) (u j)) (size r)
  also_item {o} {u} k t n le h j r = go (nat_eq j k)
    where
      go : (b : Bool) → cond b (Some t) (o j) ≡ Some r → Named' (cond b (Some n) (u j)) (size r)
      go true e = (n, refl, subst (λ r. size r ≤ n.cells) (some_same t r e) le)
      go false e = h j r e

  pub also_object : {a : Entity → Bool} {o : Entity → Option Named} (y : Entity) (n : Named) → size (object_shape program (number_of y)) ≤ n.cells → ((z : Entity) → a z ≡ true → Named' (o z) (size (object_shape program (number_of z))))
      → (z : Entity) → cond (entity_eq y z) true (a z) ≡ true → Named' (cond (entity_eq y z) (Some n) (o z)) (size (object_shape program (number_of z)))
  also_object {a} {o} y n le h z = go (entity_eq y z) refl
    where
      go : (b : Bool) → entity_eq y z ≡ b → cond b true (a z) ≡ true → Named' (cond b (Some n) (o z)) (size (object_shape program (number_of z)))
      go true same e = (n, refl, subst (λ z. size (object_shape program (number_of z)) ≤ n.cells) (entity_same y z same) le)
      go false other e = h z e

  pub also_taken : {a b : Entity → Bool} (y : Entity) → ((z : Entity) → a z ≡ false → b z ≡ false) → (z : Entity) → cond (entity_eq y z) true (a z) ≡ false → cond (entity_eq y z) true (b z) ≡ false
  also_taken {a} {b} y h z = go (entity_eq y z)
    where
      go : (t : Bool) → cond t true (a z) ≡ false → cond t true (b z) ≡ false
      go true e = e
      go false e = h z e

  pub sees_object : {w : formed.Known} {v : Around} {s : Sight} (y : Entity) (n : ℕ) → s.scope.free + n ≤ s.cells → size (object_shape program (number_of y)) ≤ n → Sees w v s → Sees w (scopes.with_object y v) (object_here s y n)
  sees_object {s = i} y n r le k = record { object = also_object y (record { through = false; place = own i.scope.free; cells = n }) le k.object; parameter = k.parameter; item = k.item; constant = k.constant; target = k.target; handled = k.handled; taken = also_taken y k.taken; free = r; enough = k.enough; global = k.global; main = k.main; text = k.text; rows = k.rows }

  pub sees_range : {w : formed.Known} {v : Around} {i : Sight} (number : Option ℕ) (k : ℕ) (reverse : Bool) (exit : ℕ) → i.scope.free + 2 ≤ i.cells → Sees w v i → Sees w (scopes.with_parameter k v) (range_sight i number k reverse exit)
  sees_range {i = i} None p reverse exit r k = record { object = k.object; parameter = also_parameter p (own (first_parameter reverse i.scope.free)) k.parameter; item = k.item; constant = k.constant; target = k.target; handled = k.handled; taken = k.taken; free = r; enough = k.enough; global = k.global; main = k.main; text = k.text; rows = k.rows }
  sees_range {i = i} (Some number) p reverse exit r k = record { object = k.object; parameter = also_parameter p (own (first_parameter reverse i.scope.free)) k.parameter; item = k.item; constant = k.constant; target = k.target; handled = k.handled; taken = k.taken; free = r; enough = k.enough; global = k.global; main = k.main; text = k.text; rows = k.rows }

  pub sees_item : {w : formed.Known} {v : Around} {i : Sight} (number : Option ℕ) (k stride exit : ℕ) (t : Shape) → stride ≡ size t → i.scope.free + 3 ≤ i.cells → Sees w v i → Sees (formed.with_shape k t w) v (item_sight i number false k stride exit)
  sees_item {i = i} None p stride exit t e r k = record { object = k.object; parameter = k.parameter; item = also_item p t (record { through = true; place = own i.scope.free; cells = stride }) (same_le e) k.item; constant = k.constant; target = k.target; handled = k.handled; taken = k.taken; free = r; enough = k.enough; global = k.global; main = k.main; text = k.text; rows = k.rows }
  sees_item {i = i} (Some number) p stride exit t e r k = record { object = k.object; parameter = k.parameter; item = also_item p t (record { through = true; place = own i.scope.free; cells = stride }) (same_le e) k.item; constant = k.constant; target = k.target; handled = k.handled; taken = k.taken; free = r; enough = k.enough; global = k.global; main = k.main; text = k.text; rows = k.rows }

  pub sees_constant_item : {w : formed.Known} {v : Around} {i : Sight} (number : Option ℕ) (k stride exit : ℕ) (t : Shape) → stride ≡ size t → i.scope.free + 3 ≤ i.cells → Sees w v i → Sees (formed.with_constant k t w) v (item_sight i number true k stride exit)
  sees_constant_item {i = i} None p stride exit t e r k = record { object = k.object; parameter = k.parameter; item = k.item; constant = also_item p t (record { through = true; place = own i.scope.free; cells = stride }) (same_le e) k.constant; target = k.target; handled = k.handled; taken = k.taken; free = r; enough = k.enough; global = k.global; main = k.main; text = k.text; rows = k.rows }
  sees_constant_item {i = i} (Some number) p stride exit t e r k = record { object = k.object; parameter = k.parameter; item = k.item; constant = also_item p t (record { through = true; place = own i.scope.free; cells = stride }) (same_le e) k.constant; target = k.target; handled = k.handled; taken = k.taken; free = r; enough = k.enough; global = k.global; main = k.main; text = k.text; rows = k.rows }

  pub sees_turn_item : {w : formed.Known} {v : Around} {i : Sight} (k stride : ℕ) (t : Shape) → stride ≡ size t → i.scope.free + 3 ≤ i.cells → Sees w v i → Sees (formed.with_shape k t w) v (record i { scope = turn_item i.scope false k stride })
  sees_turn_item {i = i} p stride t e r k = record { object = k.object; parameter = k.parameter; item = also_item p t (record { through = true; place = own (i.scope.free + 1 + 1); cells = stride }) (same_le e) k.item; constant = k.constant; target = k.target; handled = k.handled; taken = k.taken; free = r; enough = k.enough; global = k.global; main = k.main; text = k.text; rows = k.rows }

  pub sees_constant_turn_item : {w : formed.Known} {v : Around} {i : Sight} (k stride : ℕ) (t : Shape) → stride ≡ size t → i.scope.free + 3 ≤ i.cells → Sees w v i → Sees (formed.with_constant k t w) v (record i { scope = turn_item i.scope true k stride })
  sees_constant_turn_item {i = i} p stride t e r k = record { object = k.object; parameter = k.parameter; item = k.item; constant = also_item p t (record { through = true; place = own (i.scope.free + 1 + 1); cells = stride }) (same_le e) k.constant; target = k.target; handled = k.handled; taken = k.taken; free = r; enough = k.enough; global = k.global; main = k.main; text = k.text; rows = k.rows }

  pub sees_iterated : {w : formed.Known} {v : Around} {i : Sight} (k : ℕ) → i.scope.free + 3 ≤ i.cells → Sees w v i → Sees w (scopes.with_parameter k v) (iterated_sight i k)
  sees_iterated {i = i} p r k = record { object = k.object; parameter = also_parameter p (own i.scope.free) k.parameter; item = k.item; constant = k.constant; target = k.target; handled = k.handled; taken = k.taken; free = r; enough = k.enough; global = k.global; main = k.main; text = k.text; rows = k.rows }

  pub sees_chunk : {w : formed.Known} {v : Around} {i : Sight} (chunk : Chunk) → Sees w v i → Sees w (scopes.with_chunk chunk v) (chunk_sight chunk i)
  sees_chunk {i = i} NoChunk k = record { object = k.object; parameter = k.parameter; item = k.item; constant = k.constant; target = k.target; handled = k.handled; taken = k.taken; free = k.free; enough = k.enough; global = k.global; main = k.main; text = k.text; rows = k.rows }
  sees_chunk {i = i} (Count e) k = record { object = k.object; parameter = k.parameter; item = k.item; constant = k.constant; target = k.target; handled = k.handled; taken = k.taken; free = k.free; enough = k.enough; global = k.global; main = k.main; text = k.text; rows = k.rows }
  sees_chunk {i = i} (Each p low high check) k = record { object = k.object; parameter = also_parameter p (own 0) k.parameter; item = k.item; constant = k.constant; target = k.target; handled = k.handled; taken = k.taken; free = k.free; enough = k.enough; global = k.global; main = k.main; text = k.text; rows = k.rows }

  -- in threads what is around is one frame further outward
  outer_where : {o : Option Where} → (p : Where) × (o ≡ Some p) → (p : Where) × (scope.moved_where o ≡ Some p)
  outer_where {o} (p, e) = (scope.outer_where p, ap scope.moved_where e)

  outer_named : {o : Option Named} (m : ℕ) → Named' o m → Named' (scope.moved_named o) m
  outer_named m (n, e, le) = (scope.outer_named n, ap scope.moved_named e, le)

  pub sees_thread : {w : formed.Known} {v : Around} {i : Sight} (site cells : ℕ) → room (Site site) ≤ cells → Sees w v i → Sees w v (thread_sight site cells i)
  sees_thread {i = i} site cells r k = record { object = λ y e. outer_named (size (object_shape program (number_of y))) (k.object y e); parameter = λ j e. outer_where (k.parameter j e); item = λ j t e. outer_named (size t) (k.item j t e); constant = λ j t e. outer_named (size t) (k.constant j t e); target = λ n e. outer_named n (k.target n e); handled = λ e. outer_where (k.handled e); taken = k.taken; free = omega arith; enough = r; global = k.global; main = k.main; text = k.text; rows = k.rows }

  -- ---- roots of names

  pub variable_seen : {w : formed.Known} {v : Around} {i : Sight} (r : Root) (t : Shape) → Sees w v i → formed.root_shape program w r ≡ Some t → VariableSeen v r → Named' (root_of i.scope r) (size t)
  variable_seen {i = i} (root.Object x) t k e h = subst (λ t. Named' (i.scope.object (VariableOf x)) (size t)) (some_same (object_shape program x) t e) (k.object (VariableOf x) h)
  variable_seen (root.Item j) t k e h = k.item j t e

  pub constant_seen : {w : formed.Known} {v : Around} {i : Sight} (r : Root) (t : Shape) → Sees w v i → formed.constant_shape program w r ≡ Some t → ConstantSeen v r → Named' (constant_root_of i.scope r) (size t)
  constant_seen {i = i} (root.Object x) t k e h = subst (λ t. Named' (i.scope.object (ConstantOf x)) (size t)) (some_same (object_shape program x) t e) (k.object (ConstantOf x) h)
  constant_seen (root.Item j) t k e h = k.constant j t e
