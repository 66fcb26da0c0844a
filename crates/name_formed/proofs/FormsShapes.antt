-- What holds of a program's table of subtypes, by its log.
use Rattle.std.proofs.Common.{◌≡◌, ℕ, zero, suc, ◌+◌, ◌*◌, ◌<◌, ◌≤◌, List, [], ◌∷◌, ◌++◌, length, slice_get, Option, Some, None, refl, sym, subst, ap, ap₂, ◌∙◌, map, option_map, arith}
use Rattle.std.specs.Prelude.{◌/◌}
use Rattle.std.proofs.lemmas.Option.{slice_get-get_or, slice_get-map, slice_get_within}
use Rattle.std.proofs.Math.Nat.{le-mul_of_pos_right, mul-le-mul_left, mul-div_cancel, mul_assoc, mul_comm}
use Rattle.ada_meaning.specs.Shapes as shapes
use Rattle.ada_meaning.specs.Shapes.{Shape, FieldAt, ComponentAt, AreBefore, IsGrounded, StandsBefore, array_of, fields_of, object_shape, size, sizes, subtype_shape}
use Rattle.ada_meaning.proofs.Shapes.{shape_law}
use Rattle.ada_meaning.proofs.Sizes.{size_law}
use Rattle.typed_tree.specs.Layout as typed
use Rattle.typed_tree.specs.Layout.{components, count}
use Rattle.typed_tree.specs.Syntax.{Program}
use Rattle.typed_tree.specs.declared.program.Object.{Object}
use Rattle.name_rules.specs.Resolved.{dimension_bounds, typed_field, typed_subtype}
use Rattle.name_rules.specs.Types.{array_cells, cells_in, cells_of_shape, extent, saturated}
use Rattle.name_rules.specs.Limits.{most_cells}
use Rattle.name_rules.specs.declared.log.Dimension.{Dimension}
use Rattle.name_rules.specs.declared.log.Field.{Field}
use Rattle.name_rules.specs.declared.log.Log.{Log}
use Rattle.name_rules.specs.declared.log.Shape.{Shape as Entry}
use Rattle.name_rules.specs.declared.log.Shape.TheVariants as entry
use Rattle.name_rules.specs.declared.types.Subtype.{Subtype}
use Rattle.name_rules.specs.declared.types.Subtype.TheVariants as subtype
use Rattle.name_laws.proofs.CellsCounted.{HasValue, HaveValues, array_counted, extent_count}
use Rattle.name_laws.proofs.CellsSound.{AllValues, FieldsBefore, FieldsLie, FieldsNumbered, IsBefore, NumberIn, Sound, get_kept, table_of}
use Rattle.name_formed.proofs.Forms.{AreStrides, HasDimensions, HasFields, Small, World, shape_of}

-- a program by its whole log
pub record Facts (program : Program) (log : Log) : Type 0 where
  pub subtypes : program.subtypes ≡ table_of log.shapes
  pub objects : program.objects ≡ log.objects
  pub sound : Sound log
  pub values : AllValues log.shapes

-- ---- each subtype stands on those before it

fields-stand : (n : ℕ) (fs : List Field) → FieldsBefore n fs → AreBefore n (map typed_field fs)
fields-stand n [] h = tt
fields-stand n (f ∷ fs) h = (h.0, fields-stand n fs h.1)

stands : (n : ℕ) (t : Entry) → IsBefore n t → StandsBefore n (Some (typed_subtype t))
stands n (entry.Scalar s) h = tt
stands n (entry.Array ds c k cells) h = h.1
stands n (entry.Record fs cells) h = fields-stand n fs h

-- ---- counts

few : (n : ℕ) → n ≤ most_cells → saturated n ≡ n
few n h = omega (arith, h)

no-more : (n : ℕ) → saturated n ≤ n
no-more n = omega arith

no-less : (e c : ℕ) → 0 < e → c ≤ e * c
no-less e c h = subst (λ x. c ≤ x) (mul_comm c e) (le-mul_of_pos_right c h)

extent-some : (d : Dimension) → 0 < extent d
extent-some d = omega arith

count-some : (d : Dimension) → HasValue d → 0 < count (dimension_bounds d)
count-some d h = subst (λ k. 0 < k) (extent_count d h) (extent-some d)

array-size : (ds : List Dimension) (t : Shape) → size (array_of (map dimension_bounds ds) t) ≡ components (map dimension_bounds ds) * size t
array-size [] t = omega arith
array-size (d ∷ ds) t = ap (λ z. count (dimension_bounds d) * z) (array-size ds t) ∙ sym (mul_assoc (count (dimension_bounds d)) (components (map dimension_bounds ds)) (size t))

tail-less : (d : Dimension) (ds : List Dimension) (t : Shape) → HasValue d → size (array_of (map dimension_bounds ds) t) ≤ size (array_of (map dimension_bounds (d ∷ ds)) t)
tail-less d ds t h = no-less (count (dimension_bounds d)) (size (array_of (map dimension_bounds ds) t)) (count-some d h)

last-less : (ds : List Dimension) (t : Shape) → HaveValues ds → size t ≤ size (array_of (map dimension_bounds ds) t)
last-less [] t h = omega arith
last-less (d ∷ ds) t h = omega (arith, last-less ds t h.1, tail-less d ds t h.0)

array-many : (ds : List Dimension) (t : Shape) (one : ℕ) → HaveValues ds → one ≡ saturated (size t) → array_cells ds one ≡ saturated (size (array_of (map dimension_bounds ds) t))
array-many ds t one h e = ap (array_cells ds) e ∙ array_counted ds (size t) h ∙ ap saturated (sym (array-size ds t))

strides : (ds : List Dimension) (t : Shape) (one : ℕ) → HaveValues ds → Small (array_of (map dimension_bounds ds) t) → one ≡ saturated (size t) → AreStrides ds one t
strides [] t one h l e = tt
strides (d ∷ ds) t one h l e =
    let k : Small (array_of (map dimension_bounds ds) t) = omega (arith, l, tail-less d ds t h.0) in
    (array-many ds t one h.1 e ∙ few (size (array_of (map dimension_bounds ds) t)) k, strides ds t one h.1 k e)

component-at : (ds : List Dimension) (t : Shape) → ComponentAt (array_of (map dimension_bounds ds) t) (length ds) (components (map dimension_bounds ds)) t
component-at [] t = (refl, refl)
component-at (d ∷ ds) t = (components (map dimension_bounds ds), refl, component-at ds t)

-- ---- the table

pub record FieldIn (parts : shapes.Shapes) (i before : ℕ) (f : Field) (t : Shape) : Type 0 where
  pub offset : ℕ
  pub is : f.offset ≡ before + offset
  pub at : FieldAt parts i offset t
  pub small : size t ≤ sizes parts

module _ (P : Program) (L : Log) (F : Facts P L) where
  pub grounded : IsGrounded P.subtypes
  grounded n = subst (λ ts. StandsBefore n (slice_get ts n)) (sym F.subtypes) (subst (StandsBefore n) (sym (slice_get-map typed_subtype L.shapes n)) (by (slice_get L.shapes n) refl))
    where
      by : (t : Option Entry) → slice_get L.shapes n ≡ t → StandsBefore n (option_map typed_subtype t)
      by None e = tt
      by (Some t) e = stands n t (F.sound.before n t e)

  shape-at : (n : ℕ) (t : Entry) → slice_get L.shapes n ≡ Some t → subtype_shape P n ≡ shapes.shape_of (subtype_shape P) (Some (typed_subtype t))
  shape-at n t e =
      (shape_law P n).0 grounded
      ∙ ap (shapes.shape_of (subtype_shape P)) (ap (λ ts. slice_get ts n) F.subtypes ∙ slice_get-map typed_subtype L.shapes n ∙ ap (option_map typed_subtype) e)

  sized : (n : ℕ) → typed.cells_of (table_of L.shapes) n ≡ size (subtype_shape P n)
  sized n = sym (size_law P n grounded ∙ ap (λ ts. typed.cells_of ts n) F.subtypes) ∙ (shape_law P n).1

  numbered : (c : Subtype) (k : ℕ) → NumberIn L.shapes c k → subtype_shape P k ≡ shape_of P c
  numbered (subtype.Scalar s) k e = shape-at k (entry.Scalar s) e
  numbered (subtype.Composite m) k e = ap (subtype_shape P) e

  counted : (n : ℕ) (t : Entry) → slice_get L.shapes n ≡ Some t → cells_of_shape (Some t) ≡ saturated (size (subtype_shape P n))
  counted n t e = F.sound.counted F.values n t e ∙ ap saturated (sized n)

  values-at : (n : ℕ) (ds : List Dimension) (c : Subtype) (k cells : ℕ) → slice_get L.shapes n ≡ Some (entry.Array ds c k cells) → HaveValues ds
  values-at n ds c k cells e = (F.sound.before n (entry.Array ds c k cells) e).0

  some-at : (n : ℕ) (t : Entry) → slice_get L.shapes n ≡ Some t → ((k : ℕ) → k < n → 0 < size (subtype_shape P k)) → 0 < size (subtype_shape P n)
  some-at n (entry.Scalar s) e f = subst (λ u. 0 < size u) (sym (shape-at n (entry.Scalar s) e)) (omega arith)
  some-at n (entry.Array ds c k cells) e f =
      let b = F.sound.before n (entry.Array ds c k cells) e in
      subst (λ u. 0 < size u) (sym (shape-at n (entry.Array ds c k cells) e)) (omega (arith, f k b.1, last-less ds (subtype_shape P k) b.0))
  some-at n (entry.Record [] cells) e f = absurd (omega (arith, (F.sound.numbered n (entry.Record [] cells) e).0))
  some-at n (entry.Record (g ∷ fs) cells) e f =
      let b = F.sound.before n (entry.Record (g ∷ fs) cells) e in
      subst (λ u. 0 < size u) (sym (shape-at n (entry.Record (g ∷ fs) cells) e)) (omega (arith, f g.number b.0))

  some-below : (m n : ℕ) → n < m → n < length L.shapes → 0 < size (subtype_shape P n)
  some-below zero n l k = absurd (omega (arith, l))
  some-below (suc m) n l k = some-at n _ (slice_get-get_or L.shapes n (entry.Record [] 0) k) (λ j h. some-below m j (omega (arith, l, h)) (omega (arith, h, k)))

  some : (n : ℕ) → n < length L.shapes → 0 < size (subtype_shape P n)
  some n k = some-below (suc n) n (omega arith) k

  -- ---- fields

  field-in : (before : ℕ) (fs : List Field) → FieldsLie L.shapes before fs → FieldsNumbered L.shapes fs → before + sizes (fields_of (subtype_shape P) (map typed_field fs)) ≤ most_cells
      → (i : ℕ) (f : Field) → slice_get fs i ≡ Some f → FieldIn (fields_of (subtype_shape P) (map typed_field fs)) i before f (shape_of P f.subtype)
  field-in before [] h k l i f e = absurd cc
  field-in before (g ∷ fs) h k l zero f e =
      let same : g ≡ f = cc in
      let is = numbered g.subtype g.number k.0 in
      subst (λ x. FieldIn (fields_of (subtype_shape P) (map typed_field (g ∷ fs))) zero before x (shape_of P x.subtype)) same
      (record { offset = 0; is = omega (arith, h.0, l); at = (refl, sym is); small = omega (arith, ap size is) })
  field-in before (g ∷ fs) h k l (suc i) f e =
      let many = sized g.number in
      let x = field-in (before + typed.cells_of (table_of L.shapes) g.number) fs h.1 k.1 (omega (arith, l, many)) i f e in
      record { offset = size (subtype_shape P g.number) + x.offset; is = x.is ∙ omega (arith, many); at = (x.offset, refl, x.at); small = omega (arith, x.small) }

  pub has-fields : (n : ℕ) (fs : List Field) (cells : ℕ) → slice_get L.shapes n ≡ Some (entry.Record fs cells) → Small (subtype_shape P n) → HasFields P n fs
  has-fields n fs cells e l = record { parts = parts; shape = is; at = λ i f g. by f (field-in 0 fs (F.sound.lie F.values n t e) (F.sound.numbered n t e).1 all i f g) }
    where
      t : Entry
      t = entry.Record fs cells

      parts : shapes.Shapes
      parts = fields_of (subtype_shape P) (map typed_field fs)

      is : subtype_shape P n ≡ shapes.Record parts
      is = shape-at n t e

      many : sizes parts ≤ most_cells
      many = subst (λ u. size u ≤ most_cells) is l

      all : 0 + sizes parts ≤ most_cells
      all = omega (arith, many)

      by : {i : ℕ} (f : Field) → FieldIn parts i 0 f (shape_of P f.subtype) → FieldAt parts i f.offset (shape_of P f.subtype) × Small (shape_of P f.subtype)
      by {i} f x = let same : x.offset ≡ f.offset = omega (arith, x.is) in (subst (λ o. FieldAt parts i o (shape_of P f.subtype)) same x.at, omega (arith, x.small, many))

  pub fields-few : (n : ℕ) (fs : List Field) (cells : ℕ) → slice_get L.shapes n ≡ Some (entry.Record fs cells) → cells ≤ size (subtype_shape P n)
  fields-few n fs cells e = omega (arith, counted n (entry.Record fs cells) e, no-more (size (subtype_shape P n)))

  -- ---- arrays, by a log that leads to the whole one

  module _ (now : Log) (more : List Entry) (grows : L.shapes ≡ now.shapes ++ more) where
    pub later : (n : ℕ) (t : Entry) → slice_get now.shapes n ≡ Some t → slice_get L.shapes n ≡ Some t
    later n t e = ap (λ s. slice_get s n) grows ∙ get_kept now.shapes more n t e

    one-in : (c : Subtype) (k : ℕ) → NumberIn L.shapes c k → k < length now.shapes → cells_in now c ≡ saturated (size (shape_of P c))
    one-in (subtype.Scalar s) k e l = refl
    one-in (subtype.Composite m) k e l =
        let g = slice_get-get_or now.shapes m (entry.Record [] 0) (subst (λ j. j < length now.shapes) e l) in
        ap cells_of_shape g ∙ counted m _ (later m _ g)

    array-at : (n : ℕ) (ds : List Dimension) (c : Subtype) (k cells : ℕ) → slice_get L.shapes n ≡ Some (entry.Array ds c k cells) → subtype_shape P n ≡ array_of (map dimension_bounds ds) (shape_of P c)
    array-at n ds c k cells e = shape-at n (entry.Array ds c k cells) e ∙ ap (array_of (map dimension_bounds ds)) (numbered c k (F.sound.numbered n (entry.Array ds c k cells) e))

    one-at : (n : ℕ) (ds : List Dimension) (c : Subtype) (k cells : ℕ) → slice_get now.shapes n ≡ Some (entry.Array ds c k cells) → cells_in now c ≡ saturated (size (shape_of P c))
    one-at n ds c k cells e =
        let g = later n (entry.Array ds c k cells) e in
        one-in c k (F.sound.numbered n (entry.Array ds c k cells) g) (omega (arith, (F.sound.before n (entry.Array ds c k cells) g).1, slice_get_within now.shapes n (entry.Array ds c k cells) e))

    component-some : (n : ℕ) (ds : List Dimension) (c : Subtype) (k cells : ℕ) → slice_get L.shapes n ≡ Some (entry.Array ds c k cells) → 0 < size (shape_of P c)
    component-some n ds c k cells e =
        let t = entry.Array ds c k cells in
        subst (λ u. 0 < size u) (numbered c k (F.sound.numbered n t e)) (some k (omega (arith, (F.sound.before n t e).1, slice_get_within L.shapes n t e)))

    pub has-dimensions : (n : ℕ) (ds : List Dimension) (c : Subtype) (k cells : ℕ) → slice_get now.shapes n ≡ Some (entry.Array ds c k cells) → Small (subtype_shape P n) → HasDimensions P n ds c (cells_in now c) cells
    has-dimensions n ds c k cells e l = record {
      shape = is;
      strides = strides ds t (cells_in now c) values small many;
      small = part;
      component = subst (λ u. ComponentAt u (length ds) (cells / cells_in now c) t) (sym is) (subst (λ j. ComponentAt (array_of (map dimension_bounds ds) t) (length ds) j t) (sym divided) (component-at ds t));
      counted = one;
    }
      where
        g : slice_get L.shapes n ≡ Some (entry.Array ds c k cells)
        g = later n (entry.Array ds c k cells) e

        t : Shape
        t = shape_of P c

        is : subtype_shape P n ≡ array_of (map dimension_bounds ds) t
        is = array-at n ds c k cells g

        values : HaveValues ds
        values = values-at n ds c k cells g

        small : Small (array_of (map dimension_bounds ds) t)
        small = subst Small is l

        part : Small t
        part = omega (arith, small, last-less ds t values)

        many : cells_in now c ≡ saturated (size t)
        many = one-at n ds c k cells e

        one : cells_in now c ≡ size t
        one = many ∙ few (size t) part

        all : cells ≡ components (map dimension_bounds ds) * size t
        all = counted n (entry.Array ds c k cells) g ∙ few (size (subtype_shape P n)) l ∙ ap size is ∙ array-size ds t

        divided : cells / cells_in now c ≡ components (map dimension_bounds ds)
        divided = ap₂ (λ x y. x / y) all one ∙ mul-div_cancel (components (map dimension_bounds ds)) (component-some n ds c k cells g)

    pub dimensions-few : (n : ℕ) (d : Dimension) (ds : List Dimension) (c : Subtype) (k cells : ℕ) → slice_get now.shapes n ≡ Some (entry.Array (d ∷ ds) c k cells) → extent d * array_cells ds (cells_in now c) ≤ size (subtype_shape P n)
    dimensions-few n d ds c k cells e =
        let g = later n (entry.Array (d ∷ ds) c k cells) e in
        let v = values-at n (d ∷ ds) c k cells g in
        let rest = size (array_of (map dimension_bounds ds) (shape_of P c)) in
        let l : array_cells ds (cells_in now c) ≤ rest = omega (arith, array-many ds (shape_of P c) (cells_in now c) v.1 (one-at n (d ∷ ds) c k cells e), no-more rest) in
        let m : extent d * array_cells ds (cells_in now c) ≤ extent d * rest = mul-le-mul_left (extent d) l in
        subst (λ j. extent d * array_cells ds (cells_in now c) ≤ j) (ap (λ j. j * rest) (extent_count d v.0) ∙ sym (ap size (array-at n (d ∷ ds) c k cells g))) m

  -- ---- what is known in a log that leads to the whole one

  pub leads : (log now : Log) (more : List Entry) → L.shapes ≡ log.shapes ++ more → now.shapes ≡ log.shapes → L.shapes ≡ now.shapes ++ more
  leads log now more g e = g ∙ ap (λ s. s ++ more) (sym e)

  abbrev pub world : (log : Log) (more : List Entry) → L.shapes ≡ log.shapes ++ more → World
  world log more g = record {
    program = P;
    shapes = log.shapes;
    counted = λ n. (shape_law P n).1;
    fields = λ now e n fs cells h l. has-fields n fs cells (later now more (leads log now more g e) n (entry.Record fs cells) h) l;
    dimensions = λ now e n ds c k cells h l. has-dimensions now more (leads log now more g e) n ds c k cells h l;
    of_fields = λ now e n fs cells h. fields-few n fs cells (later now more (leads log now more g e) n (entry.Record fs cells) h);
    of_dimensions = λ now e n d ds c k cells h. dimensions-few now more (leads log now more g e) n d ds c k cells h;
  }

  -- an object has the shape of its subtype
  pub object-at : (n : ℕ) (o : Object) (t : Subtype) → slice_get L.objects n ≡ Some o → NumberIn L.shapes t o.subtype → object_shape P n ≡ shape_of P t
  object-at n o t e i = same (ap (λ os. slice_get os n) F.objects ∙ e) ∙ numbered t o.subtype i
    where
      same : slice_get P.objects n ≡ Some o → object_shape P n ≡ subtype_shape P o.subtype
      same g = rw g

  -- it is no larger than it counts
  pub object-small : (n : ℕ) (o : Object) (t : Subtype) → slice_get L.objects n ≡ Some o → NumberIn L.shapes t o.subtype → o.cells ≤ most_cells → Small (shape_of P t)
  object-small n o t e i l = subst (λ u. size u ≤ most_cells) (numbered t o.subtype i) (subst (λ k. k ≤ most_cells) (F.sound.cells F.values n o e ∙ sized o.subtype) l)
