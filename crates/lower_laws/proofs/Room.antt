-- Where code of a value, of an object or of pieces is, the frame has the cells that its scope uses.
use Rattle.std.proofs.Common.{◌≡◌, ℕ, zero, suc, ◌+◌, ◌≤◌, ℤ, List, [], ◌∷◌, ◌++◌, length, slice_get, max, Option, Some, None, Bool, true, false, cond, refl, sym, subst, true≢false, arith}
use Rattle.std.proofs.Math.Nat.{le-max_left, le-max_right}
use Rattle.typed_tree.specs.declared.scalars.Scalar.{Scalar}
use Rattle.typed_tree.specs.declared.program.Field.{Field as Part}
use Rattle.typed_tree.specs.Syntax.{Expr, Static, Actuals, NoActual, In, InOut, Out, CompositeInOut, CompositeOut, Value, Number, Cells, Composite, WholeVariable, WholeConstant, WholeTarget, CompositeIf, Aggregate, Pieces, NoPiece, Text, Image, Padded, Selections, Whole, Field, Index, Subtype, OfScalar, Array, Record, Program}
use Rattle.ada_meaning.specs.Values.{components, fields, layout_of, layout_within, repeated}
use Rattle.stack_code.specs.declared.code.Around.{Around}
use Rattle.stack_code.specs.declared.code.SiteKind.{SiteKind}
use Rattle.lower_emission.specs.Emits.{Emit, One}
use Rattle.lower_emission.specs.Scope.{Scope, keep_checked, mark_of, one, ◌⨟◌}
use Rattle.lower_emission.specs.declared.types.Named.{Named}
use Rattle.ada_lower.specs.Emission.{cells_of, default_of, defaults_within, emit, field_defaults, indexed_by, is_whole, item_by, own_cell, main_named, component_address, component_value, named_value, operated_by, static_instr, passed, piece_cells, piece_values, put_into, composed, read, selected, send_instr}
use Rattle.lower_emission.proofs.OwnCells.{emit_own}
use Rattle.lower_emission.proofs.Fused.{of_operated, of_set}
use Rattle.ada_base.specs.declared.operation.Op.{Op}
use Rattle.typed_tree.specs.declared.scalars.Class.{Class}
use Rattle.stack_code.specs.declared.instr.Instr.{Instr}
use Rattle.stack_code.specs.declared.instr.Instr.TheVariants as i
use Rattle.lower_laws.specs.Rooms.{Roomy}

module _ (program : Program) (rows : ℕ → SiteKind → Around → Type 0) (room : Around → ℕ) where
  whole_room : (s : Scope) (h : ℕ) (x : Selections) → is_whole x ≡ true → Roomy rows room (selected program s h x)
  unfolding selected
  whole_room s h Whole e = tt
  whole_room s h (Field number offset rest) e = absurd (true≢false (sym e))
  whole_room s h (Index at i' low high stride rest) e = absurd (true≢false (sym e))

  item_room : (s : Scope) (h : ℕ) (o : Option ℕ) (low high : ℤ) (stride : ℕ) (index : Emit) → Roomy rows room (item_by s h o low high stride index) → Roomy rows room (indexed_by s h o low high stride index)
  item_room s h None low high stride index m = m
  item_room s h (Some n) low high stride index m = m

  -- code that reads a part has room where the code of its address has
  read_room : (s : Scope) (h : ℕ) (x : Selections) → Roomy rows room (read program s h x) → Roomy rows room (selected program s h x)
  unfolding read selected
  read_room s h Whole m = tt
  read_room s h (Field number offset rest) m = (m.0, read_room s h rest m.1)
  read_room s h (Index at e low high stride rest) m = by (is_whole rest) refl (λ r. read_room s h rest r) m
    where
      by : (b : Bool) → is_whole rest ≡ b → (Roomy rows room (read program s h rest) → Roomy rows room (selected program s h rest))
          → Roomy rows room (cond b (item_by s h (own_cell s e) low high stride (emit program s h e)) (indexed_by s h (own_cell s e) low high stride (emit program s h e) ⨟ read program s h rest))
          → Roomy rows room (indexed_by s h (own_cell s e) low high stride (emit program s h e) ⨟ selected program s h rest)
      by true is more m = (item_room s h (own_cell s e) low high stride (emit program s h e) m, whole_room s h rest is)
      by false is more m = (m.0, more m.1)

  component_room : (s : Scope) (h : ℕ) (o : Option Named) (first own : Option ℕ) (low high : ℤ) (stride : ℕ) (index : Emit) → Roomy rows room (component_address s h o first own low high stride index) → Roomy rows room (indexed_by s (h + 1) own low high stride index)
  component_room s h o None own low high stride index m = m.1
  component_room s h o (Some g) None low high stride index m = m.1
  component_room s h o (Some g) (Some n) low high stride index m = m

  value_room : (s : Scope) (h : ℕ) (o : Option Named) (first own : Option ℕ) (low high : ℤ) (stride : ℕ) (index : Emit) → Roomy rows room (component_value s h o first own low high stride index) → Roomy rows room (indexed_by s (h + 1) own low high stride index)
  value_room s h o None own low high stride index m = item_room s (h + 1) own low high stride index m.1
  value_room s h o (Some g) None low high stride index m = m.1
  value_room s h o (Some g) (Some n) low high stride index m = m

  -- the code of a part of what is named has that of its selections
  pub part_room : (s : Scope) (h : ℕ) (o : Option Named) (x : Selections) → Roomy rows room (named_value program s h o x) → Roomy rows room (selected program s (h + 1) x)
  unfolding named_value selected
  part_room s h o Whole m = tt
  part_room s h o (Field number offset rest) m = (m.1.0, read_room s (h + 1) rest m.1.1)
  part_room s h o (Index at e low high stride rest) m = by (is_whole rest) refl m
    where
      by : (b : Bool) → is_whole rest ≡ b
          → Roomy rows room (cond b (component_value s h o (main_named o) (own_cell s e) low high stride (emit program s (h + 1) e)) (component_address s h o (main_named o) (own_cell s e) low high stride (emit program s (h + 1) e) ⨟ read program s (h + 1) rest))
          → Roomy rows room (indexed_by s (h + 1) (own_cell s e) low high stride (emit program s (h + 1) e) ⨟ selected program s (h + 1) rest)
      by true is m = (value_room s h o (main_named o) (own_cell s e) low high stride (emit program s (h + 1) e) m, whole_room s (h + 1) rest is)
      by false is m = (component_room s h o (main_named o) (own_cell s e) low high stride (emit program s (h + 1) e) m.0, read_room s (h + 1) rest m.1)

  -- where an index is, its code has room
  pub index_room : (s : Scope) (h : ℕ) (e : Expr) (low high : ℤ) (stride : ℕ) → Roomy rows room (indexed_by s h (own_cell s e) low high stride (emit program s h e)) → Roomy rows room (emit program s h e)
  index_room s h e low high stride m = by (own_cell s e) refl m
    where
      by : (o : Option ℕ) → own_cell s e ≡ o → Roomy rows room (indexed_by s h o low high stride (emit program s h e)) → Roomy rows room (emit program s h e)
      by None is m = m.0
      by (Some n) is m = subst (λ a. Roomy rows room a) (sym (emit_own program s h e n is)) m

  -- where an operation is, the code of its right operand has room
  pub operand_room : (s : Scope) (h : ℕ) (o : Op) (class : Class) (f : Expr) (operates : Instr) → Roomy rows room (operated_by s h (static_instr o class f) operates (emit program s h f)) → Roomy rows room (emit program s h f)
  unfolding emit
  operand_room s h o class (Static at value literal mentions) operates m =
      of_operated (λ a. Roomy rows room a → Roomy rows room (one s h (i.Push value))) s h o class (Static at value literal mentions) operates (one s h (i.Push value)) (λ v m. m) (λ v m. m) (λ v m. m) (λ v m. m) (λ m. m.0) m
  operand_room s h o class f operates m = m.0

  pub composed_room : (s : Scope) (h t : ℕ) (c : Composite) → Roomy rows room (composed program s h t c) → s.free ≤ room s.body
  unfolding composed
  composed_room s h t (WholeVariable at r selections subtype) m = m.0
  composed_room s h t (WholeConstant at r selections subtype) m = m.0
  composed_room s h t (WholeTarget at subtype) m = m.0
  composed_room s h t (CompositeIf condition value otherwise) m = m.1.0
  composed_room s h t (Aggregate at size associations) m = m.0

  kept_room : (s : Scope) (h t : ℕ) (k : Scalar) → Roomy rows room (keep_checked s h k t) → max s.free (t + 1) ≤ room s.body
  kept_room s h t k = of_set (λ j. Roomy rows room (One (mark_of (max s.free (t + 1)) s) h j) → max s.free (t + 1) ≤ room s.body) k t (λ m. m) (λ m. m)

  pub put_room : (s : Scope) (h t : ℕ) (x : Value) → Roomy rows room (put_into program s h t x) → s.free ≤ room s.body
  unfolding put_into
  put_room s h t (Number check e) m = let z = le-max_left s.free (t + 1) in let y = kept_room s (h + 1) t check.scalar m.1 in omega (arith, z, y)
  put_room s h t (Cells c) m = composed_room s h t c m

  -- a line is sent
  pub send_room : (s : Scope) (line : Bool) → Roomy rows room (one s 0 (send_instr line)) → s.free ≤ room s.body
  send_room s true m = m
  send_room s false m = m

  -- actual parameters, if there are any
  pub passed_room : (s : Scope) (h sub w : ℕ) (x : Actuals) → Roomy rows room (passed program s h sub w x) → (x ≡ NoActual → s.free ≤ room s.body) → s.free ≤ room s.body
  unfolding passed
  passed_room s h sub w NoActual m none = none refl
  passed_room s h sub w (In formal value rest) m none = put_room s h _ value m.0
  passed_room s h sub w (InOut formal at r selections inner outer rest) m none = m.0.1.1.0
  passed_room s h sub w (Out formal at r selections inner outer rest) m none = m.0.1.1.1.0
  passed_room s h sub w (CompositeInOut formal at r selections subtype rest) m none = m.0.0
  passed_room s h sub w (CompositeOut formal at r selections subtype rest) m none = m.0.0

  -- pieces of output, where their values are kept
  pub pieces_room : (s : Scope) (x : Pieces) → Roomy rows room (piece_values program s x) → s.free ≤ room s.body → s.free + piece_cells x ≤ room s.body
  unfolding piece_values
  pieces_room s NoPiece m le = omega (arith, le)
  pieces_room s (Text bytes rest) m le = pieces_room s rest m le
  pieces_room s (Image class e rest) m le =
      let z = le-max_right s.free (s.free + 1) in
      let y = m.1.0 in
      let x = pieces_room (record s { free = s.free + 1 }) rest m.1.1 (omega (arith, z, y)) in
      omega (arith, x)
  pieces_room s (Padded class e width rest) m le =
      let z = le-max_right s.free (s.free + 1) in
      let y = m.1.0 in
      let x = pieces_room (record s { free = s.free + 1 }) rest m.1.1 (omega (arith, z, y)) in
      omega (arith, x)

  -- ---- objects without an initial value that have cells

  abbrev Some' : List Scalar → Type 0
  Some' [] = ⊥
  Some' (k ∷ ks) = Unit {0}

  repeated_some : (n : ℕ) (ks : List Scalar) → Some' (repeated n ks) → Some' ks
  repeated_some zero ks h = absurd h
  repeated_some (suc n) [] h = repeated_some n [] h
  repeated_some (suc n) (k ∷ ks) h = tt

  module _ (s : Scope) where
    abbrev Each : (ℕ → List Scalar) → (ℕ → ℕ → Emit) → Type 0
    Each layout within = (t number : ℕ) → Roomy rows room (within t number) → Some' (layout number) → s.free ≤ room s.body

    fields_room : (layout : ℕ → List Scalar) (within : ℕ → ℕ → Emit) → Each layout within → (fs : List Part) (t : ℕ) → Roomy rows room (field_defaults program within t fs) → Some' (fields layout fs) → s.free ≤ room s.body
    fields_room layout within each [] t m h = absurd h
    fields_room layout within each (f ∷ fs) t m h = go (λ h. fields_room layout within each fs (t + cells_of program f.subtype) m.1 h) (layout f.subtype) refl
      where
        go : (Some' (fields layout fs) → s.free ≤ room s.body) → (ks : List Scalar) → layout f.subtype ≡ ks → s.free ≤ room s.body
        go again [] e = again (subst (λ ks. Some' (ks ++ fields layout fs)) e h)
        go again (k ∷ ks) e = each t f.subtype m.0 (subst (λ ks. Some' ks) (sym e) tt)

    entry_room : (layout : ℕ → List Scalar) (within : ℕ → ℕ → Emit) → Each layout within → (t : ℕ) (o : Option Subtype) → Roomy rows room (default_of program s within t o) → Some' (layout_of layout o) → s.free ≤ room s.body
    entry_room layout within each t None m h = absurd h
    entry_room layout within each t (Some (OfScalar k)) m h = m.0
    entry_room layout within each t (Some (Array dimensions component)) m h = each t component m.0 (repeated_some (components dimensions) (layout component) h)
    entry_room layout within each t (Some (Record fs)) m h = fields_room layout within each fs t m h

    within_room : (levels : ℕ) → Each (layout_within program.subtypes levels) (defaults_within program s levels)
    within_room zero t number m h = absurd h
    within_room (suc levels) t number m h = entry_room (layout_within program.subtypes levels) (defaults_within program s levels) (within_room levels) t (slice_get program.subtypes number) m h

    -- one that has cells
    pub defaults_room : (levels t number n : ℕ) → Roomy rows room (defaults_within program s levels t number) → length (layout_within program.subtypes levels number) ≡ suc n → s.free ≤ room s.body
    defaults_room levels t number n m e = within_room levels t number m (go (layout_within program.subtypes levels number) e)
      where
        go : (ks : List Scalar) → length ks ≡ suc n → Some' ks
        go [] e = absurd (omega (arith, e))
        go (k ∷ ks) e = tt
