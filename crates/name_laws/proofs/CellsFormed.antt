-- Each subtype of a typed program stands on earlier ones, and each object has one of the table and the cells of it.
use Rattle.std.proofs.Common.{◌≡◌, ℕ, zero, suc, ◌+◌, arith, ◌<◌, List, [], ◌∷◌, length, Option, Some, None, refl, sym, ap, subst, ◌∙◌, slice_get, map, option_map}
use Rattle.std.proofs.lemmas.List.{length-map}
use Rattle.std.proofs.lemmas.Option.{slice_get-map}
use Rattle.syntax_tree.specs.Syntax.{Program}
use Rattle.typed_tree.specs.Layout.{HaveCells, cells_of}
use Rattle.typed_tree.specs.Syntax as typed
use Rattle.typed_tree.specs.Syntax.{Subtype}
use Rattle.typed_tree.specs.declared.program.Object.{Object}
use Rattle.name_rules.specs.Resolved.{TypedOf, dimension_bounds, judged, typed_field, typed_subtype}
use Rattle.name_rules.specs.declared.log.Dimension.{Dimension}
use Rattle.name_rules.specs.declared.log.Field.{Field}
use Rattle.name_rules.specs.declared.log.Log.{Log}
use Rattle.name_rules.specs.declared.log.Shape.TheVariants as shape
use Rattle.name_rules.specs.declared.log.Shape.{Shape}
use Rattle.name_rules.specs.declared.scope.Names.{Names}
use Rattle.name_laws.proofs.CellsCounted.{HaveValues}
use Rattle.name_laws.proofs.CellsPrograms.{all-sound}
use Rattle.name_laws.proofs.CellsSound.{AllValues, FieldsBefore, IsBefore, Sound}
use Rattle.name_laws.proofs.Lying.{cells_law, typed-from}
use Rattle.name_laws.specs.Formed.{AreBefore, FormedLaw, HasComponents, HaveComponents, HaveIndexes, StandsBefore}

fields-stand : (n : ℕ) (fs : List Field) → FieldsBefore n fs → AreBefore n (map typed_field fs)
fields-stand n [] h = tt
fields-stand n (f ∷ fs) h = (h.0, fields-stand n fs h.1)

shape-stands : (n : ℕ) (t : Shape) → IsBefore n t → StandsBefore n (Some (typed_subtype t))
shape-stands n (shape.Scalar s) h = tt
shape-stands n (shape.Array ds c k cells) h = h.1
shape-stands n (shape.Record fs cells) h = fields-stand n fs h

log-stands : (log : Log) (n : ℕ) → Sound log → StandsBefore n (slice_get (map typed_subtype log.shapes) n)
log-stands log n h = subst (StandsBefore n) (sym (slice_get-map typed_subtype log.shapes n)) (by (slice_get log.shapes n) refl)
  where
    by : (t : Option Shape) → slice_get log.shapes n ≡ t → StandsBefore n (option_map typed_subtype t)
    by None e = tt
    by (Some t) e = shape-stands n t (h.before n t e)

-- ---- components

have-indexes : (ds : List Dimension) → HaveValues ds → HaveIndexes (map dimension_bounds ds)
have-indexes [] h = tt
have-indexes (d ∷ ds) h = (h.0, have-indexes ds h.1)

shape-components : (n : ℕ) (t : Shape) → IsBefore n t → HasComponents (typed_subtype t)
shape-components n (shape.Scalar s) h = tt
shape-components n (shape.Array ds c k cells) h = have-indexes ds h.0
shape-components n (shape.Record fs cells) h = tt

components-from : (k : ℕ) (shapes : List Shape) → ((n : ℕ) (t : Shape) → slice_get shapes n ≡ Some t → IsBefore (k + n) t) → HaveComponents (map typed_subtype shapes)
components-from k [] f = tt
components-from k (t ∷ ts) f = (shape-components (k + 0) t (f zero t refl), components-from (suc k) ts (λ n u e. subst (λ m. IsBefore m u) (omega arith) (f (suc n) u e)))

have-components : (shapes : List Shape) → ((n : ℕ) (t : Shape) → slice_get shapes n ≡ Some t → IsBefore n t) → HaveComponents (map typed_subtype shapes)
have-components shapes f = components-from 0 shapes (λ n t e. subst (λ m. IsBefore m t) (omega arith) (f n t e))

-- ---- cells

values-of : (ds : List Dimension) → HaveIndexes (map dimension_bounds ds) → HaveValues ds
values-of [] h = tt
values-of (d ∷ ds) h = (h.0, values-of ds h.1)

pub all-values : (shapes : List Shape) → HaveComponents (map typed_subtype shapes) → AllValues shapes
all-values [] h = tt
all-values (shape.Scalar s ∷ ts) h = (tt, all-values ts h.1)
all-values (shape.Array ds c k cells ∷ ts) h = (values-of ds h.0, all-values ts h.1)
all-values (shape.Record fs cells ∷ ts) h = (tt, all-values ts h.1)

have-cells : (subtypes : List Subtype) (os : List Object) → ((n : ℕ) (o : Object) → slice_get os n ≡ Some o → o.cells ≡ cells_of subtypes o.subtype) → HaveCells subtypes os
have-cells subtypes [] f = tt
have-cells subtypes (o ∷ os) f = (f zero o refl, have-cells subtypes os (λ n x e. f (suc n) x e))

log-cells : (program : typed.Program) (log : Log) → HaveComponents program.subtypes → program.subtypes ≡ map typed_subtype log.shapes → program.objects ≡ log.objects → Sound log → HaveCells program.subtypes program.objects
log-cells program log h e f s =
    let v = all-values log.shapes (subst HaveComponents e h) in
    subst (λ t. HaveCells t program.objects) (sym e) (subst (λ os. HaveCells (map typed_subtype log.shapes) os) (sym f) (have-cells (map typed_subtype log.shapes) log.objects (λ n o g. s.cells v n o g)))

pub formed_law : FormedLaw
formed_law = record {
  grounded = λ names text program e n.
      let log = (judged names text).1 in
      let r = typed-from log.faults log (judged names text).0 program e in
      subst (λ t. StandsBefore n (slice_get t.subtypes n)) r.2 (log-stands log n (all-sound names text));
  objects = λ names text program e i o g.
      let log = (judged names text).1 in
      let r = typed-from log.faults log (judged names text).0 program e in
      let h = (all-sound names text).within i o (ap (λ t. slice_get t.objects i) r.2 ∙ g) in
      subst (λ t. o.subtype < length t.subtypes) r.2 (subst (λ n. o.subtype < n) (sym (length-map log.shapes typed_subtype)) h);
  components = all-components;
  cells = λ names text program e. all-cells names text program e (all-components names text program e);
  laid = λ names text program e. record { lie = cells_law.lie names text program e; cells = all-cells names text program e.typed (all-components names text program e.typed) };
}
  where
    all-components : (names : Names) (text : Program) (program : typed.Program) → TypedOf names text ≡ Some program → HaveComponents program.subtypes
    all-components names text program e =
        let log = (judged names text).1 in
        let r = typed-from log.faults log (judged names text).0 program e in
        subst (λ t. HaveComponents t.subtypes) r.2 (have-components log.shapes (all-sound names text).before)

    all-cells : (names : Names) (text : Program) (program : typed.Program) → TypedOf names text ≡ Some program → HaveComponents program.subtypes → HaveCells program.subtypes program.objects
    all-cells names text program e h =
        let log = (judged names text).1 in
        let r = typed-from log.faults log (judged names text).0 program e in
        log-cells program log h (ap (λ t. t.subtypes) (sym r.2)) (ap (λ t. t.objects) (sym r.2)) (all-sound names text)
