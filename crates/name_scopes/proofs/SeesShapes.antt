-- What holds of a program's table of subtypes and of its subprograms, by its log.
use Rattle.std.proofs.Common.{◌≡◌, refl, sym, ap, ◌∙◌, ℕ, zero, suc, ◌≤◌, List, [], ◌∷◌, ◌++◌, slice_get, Option, Some, None, Bool, arith}
use Rattle.behaviours.specs.Paths.{Entity}
use Rattle.ada_meaning.specs.Shapes.{cells_of, object_shape, size, subtype_shape}
use Rattle.ada_meaning.proofs.Shapes.{shape_law}
use Rattle.ada_meaning.proofs.Sizes.{size_law}
use Rattle.typed_scopes.specs.Scopes.{object_cells}
use Rattle.typed_tree.specs.Layout as typed
use Rattle.typed_tree.specs.Syntax.{Program}
use Rattle.typed_tree.specs.declared.program.Object.{Object}
use Rattle.name_rules.specs.Types.{cells_of_shape, saturated}
use Rattle.name_rules.specs.Limits.{most_cells}
use Rattle.name_rules.specs.declared.log.Dimension.{Dimension}
use Rattle.name_rules.specs.declared.log.Field.{Field}
use Rattle.name_rules.specs.declared.log.Log.{Log}
use Rattle.name_rules.specs.declared.log.Profile.{Profile}
use Rattle.name_rules.specs.declared.log.Shape.{Shape as Entry}
use Rattle.name_rules.specs.declared.log.Shape.TheVariants as entry
use Rattle.name_rules.specs.declared.types.Subtype.{Subtype}
use Rattle.name_laws.proofs.CellsCounted.{HaveValues}
use Rattle.name_laws.proofs.CellsSound.{table_of}
use Rattle.name_formed.proofs.Forms.{Small}
use Rattle.name_formed.proofs.FormsShapes as formed
use Rattle.name_scopes.proofs.Sees.{HasUnit, World}

-- a program by its whole log
pub record Facts (program : Program) (shown : ℕ → Entity → Bool) (log : Log) : Type 0 where
  pub table : formed.Facts program log
  pub clean : log.faults ≡ []
  pub units : (n : ℕ) (p : Profile) → slice_get log.profiles n ≡ Some p → HasUnit program n p

pub kept : {A : Type 0} (xs more : List A) (i : ℕ) (y : A) → slice_get xs i ≡ Some y → slice_get (xs ++ more) i ≡ Some y
kept [] more i y e = absurd cc
kept (a ∷ xs) more zero y e = e
kept (a ∷ xs) more (suc i) y e = kept xs more i y e

few : (n : ℕ) → n ≤ most_cells → saturated n ≡ n
few n h = omega (arith, h)

-- an object has as many cells as its shape
pub object-size : (program : Program) (x : ℕ) → object_cells program x ≡ size (object_shape program x)
object-size program x = by (slice_get program.objects x) refl
  where
    none : slice_get program.objects x ≡ None → object_cells program x ≡ size (object_shape program x)
    none e = rw e

    cells : (o : Object) → slice_get program.objects x ≡ Some o → object_cells program x ≡ cells_of program.subtypes o.subtype
    cells o e = rw e

    shape : (o : Object) → slice_get program.objects x ≡ Some o → object_shape program x ≡ subtype_shape program o.subtype
    shape o e = rw e

    by : (o : Option Object) → slice_get program.objects x ≡ o → object_cells program x ≡ size (object_shape program x)
    by None e = none e
    by (Some o) e = cells o e ∙ (shape_law program o.subtype).1 ∙ ap size (sym (shape o e))

module _ (P : Program) (shown : ℕ → Entity → Bool) (L : Log) (F : Facts P shown L) where
  sized : (n : ℕ) → typed.cells_of (table_of L.shapes) n ≡ size (subtype_shape P n)
  sized n = sym (size_law P n (formed.grounded P L F.table) ∙ ap (λ ts. typed.cells_of ts n) F.table.subtypes) ∙ (shape_law P n).1

  counted : (n : ℕ) (t : Entry) → slice_get L.shapes n ≡ Some t → cells_of_shape (Some t) ≡ saturated (size (subtype_shape P n))
  counted n t e = F.table.sound.counted F.table.values n t e ∙ ap saturated (sized n)

  pub record-cells : (n : ℕ) (fs : List Field) (cells : ℕ) → slice_get L.shapes n ≡ Some (entry.Record fs cells) → Small (subtype_shape P n) → cells ≡ size (subtype_shape P n)
  record-cells n fs cells e l = counted n (entry.Record fs cells) e ∙ few (size (subtype_shape P n)) l

  pub values-at : (n : ℕ) (ds : List Dimension) (c : Subtype) (k cells : ℕ) → slice_get L.shapes n ≡ Some (entry.Array ds c k cells) → HaveValues ds
  values-at n ds c k cells e = (F.table.sound.before n (entry.Array ds c k cells) e).0

  -- what is known in a log that leads to the whole one
  abbrev pub world : (log : Log) (more : List Entry) (others : List Profile) → L.shapes ≡ log.shapes ++ more → L.profiles ≡ log.profiles ++ others → World
  world log more others g h = record {
    program = P;
    shown = shown;
    shapes = log.shapes;
    profiles = log.profiles;
    all = L.profiles;
    among = λ n p e. ap (λ ps. slice_get ps n) h ∙ kept log.profiles others n p e;
    counted = λ n. (shape_law P n).1;
    fields = λ now e n fs cells m l. let z = formed.later P L F.table now more (formed.leads P L F.table log now more g e) n (entry.Record fs cells) m in (formed.has-fields P L F.table n fs cells z l, record-cells n fs cells z l);
    dimensions = λ now e n ds c k cells m l.
        let y = formed.leads P L F.table log now more g e in
        (formed.has-dimensions P L F.table now more y n ds c k cells m l, values-at n ds c k cells (formed.later P L F.table now more y n (entry.Array ds c k cells) m));
    units = λ n p e. F.units n p (ap (λ ps. slice_get ps n) h ∙ kept log.profiles others n p e);
  }
