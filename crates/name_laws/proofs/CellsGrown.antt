-- The table of subtypes only grows, and what it counts of earlier ones stays.
use Rattle.std.proofs.Common.{◌≡◌, ℕ, ◌+◌, ◌<◌, nat_le, nat_lt, List, [], ◌∷◌, ◌++◌, length, length-append, Some, Bool, true, false, refl, sym, ap, subst, ◌∙◌, arith, slice_get, map, ◌==◌}
use Rattle.std.proofs.lemmas.List.{append_assoc, append-nil}
use Rattle.std.specs.Prelude.{not, ◌||◌}
use Rattle.typed_tree.specs.Layout.{cells_of, fields_cells}
use Rattle.name_rules.specs.Declarations.{cells_counted}
use Rattle.name_rules.specs.Judging.{unless}
use Rattle.name_rules.specs.Resolved.{typed_field}
use Rattle.name_rules.specs.Types.{saturated}
use Rattle.name_rules.specs.Limits.{most_cells, most_objects}
use Rattle.name_rules.specs.declared.log.Bound.TheVariants as bound
use Rattle.name_rules.specs.declared.log.Field.{Field}
use Rattle.name_rules.specs.declared.log.Log.{Log}
use Rattle.name_rules.specs.declared.log.Rule.{Rule}
use Rattle.name_rules.specs.declared.log.Rule.TheVariants.{Limit}
use Rattle.name_rules.specs.declared.log.Shape.{Shape}
use Rattle.name_rules.specs.declared.log.Shape.TheVariants as shape
use Rattle.name_laws.proofs.CellsSound.{AllValues, FieldsBefore, FieldsLie, FieldsNumbered, count_kept, fields_numbered, get_kept, table_of, values_left}
use Rattle.name_laws.proofs.Walk.{Walk}

pub record Extends (a b : Log) : Type 0 where
  pub more : List Shape
  pub is : b.shapes ≡ a.shapes ++ more

pub extends_same : (a b : Log) → b.shapes ≡ a.shapes → Extends a b
extends_same a b e = record { more = []; is = e ∙ sym (append-nil a.shapes) }

pub extends_joined : (a b c : Log) → Extends a b → Extends b c → Extends a c
extends_joined a b c f g = record { more = f.more ++ g.more; is = g.is ∙ ap (λ s. s ++ g.more) f.is ∙ append_assoc a.shapes f.more g.more }

unless_shapes : (b : Bool) (at : ℕ) (rule : Rule) (log : Log) → (unless b at rule log).1.shapes ≡ log.shapes
unless_shapes true at rule log = refl
unless_shapes false at rule log = refl

pub counted_shapes : (token cells : ℕ) (log : Log) → (cells_counted token cells log).1.shapes ≡ log.shapes
counted_shapes token cells log =
    let all = saturated (log.cells + cells) in
    let now = record log { declared = log.declared + 1; cells = all } in
    let mid = (unless (not (log.declared == most_objects)) token (Limit bound.Objects) now).1 in
    unless_shapes (nat_lt most_cells log.cells || nat_le all most_cells) token (Limit bound.Cells) mid ∙ unless_shapes (not (log.declared == most_objects)) token (Limit bound.Objects) now

abbrev pub extending : Walk
extending = record {
  Takes = λ names. Unit {0};
  R = Extends;
  stays = λ log. extends_same log log refl;
  joins = extends_joined;
  breaks = λ at rule log. extends_same log _ refl;
  scalar = λ s log. record { more = shape.Scalar s ∷ []; is = refl };
  counted = λ token cells log. extends_same log _ (counted_shapes token cells log);
  exception = λ token log. extends_same log _ refl;
  site = λ here at k log. extends_same log _ refl;
  parameter = λ log. extends_same log _ refl;
  loop = λ log. extends_same log _ refl;
}

count_more : (shapes more : List Shape) (n : ℕ) → n < length shapes → cells_of (table_of (shapes ++ more)) n ≡ cells_of (table_of shapes) n
count_more shapes [] n h = ap (λ s. cells_of (table_of s) n) (append-nil shapes)
count_more shapes (t ∷ more) n h =
    ap (λ s. cells_of (table_of s) n) (sym (append_assoc shapes (t ∷ []) more))
    ∙ count_more (shapes ++ t ∷ []) more n (subst (λ k. n < k) (sym (length-append shapes (t ∷ []))) (omega (arith, h)))
    ∙ count_kept shapes t n h

pub count_later : (a b : Log) → Extends a b → (n : ℕ) → n < length a.shapes → cells_of (table_of b.shapes) n ≡ cells_of (table_of a.shapes) n
count_later a b x n h = ap (λ s. cells_of (table_of s) n) x.is ∙ count_more a.shapes x.more n h

pub values_before : (a b : Log) → Extends a b → AllValues b.shapes → AllValues a.shapes
values_before a b x v = values_left a.shapes x.more (subst AllValues x.is v)

pub shape_later : (a b : Log) → Extends a b → (i : ℕ) (y : Shape) → slice_get a.shapes i ≡ Some y → slice_get b.shapes i ≡ Some y
shape_later a b x i y e = ap (λ s. slice_get s i) x.is ∙ get_kept a.shapes x.more i y e

pub fields_later : (a b : Log) → Extends a b → (fs : List Field) → FieldsBefore (length a.shapes) fs
    → fields_cells (cells_of (table_of b.shapes)) (map typed_field fs) ≡ fields_cells (cells_of (table_of a.shapes)) (map typed_field fs)
fields_later a b x [] h = refl
fields_later a b x (f ∷ fs) h =
    ap (λ n. n + fields_cells (cells_of (table_of b.shapes)) (map typed_field fs)) (count_later a b x f.number h.0)
    ∙ ap (λ n. cells_of (table_of a.shapes) f.number + n) (fields_later a b x fs h.1)

pub lie_later : (a b : Log) → Extends a b → (before : ℕ) (fs : List Field) → FieldsBefore (length a.shapes) fs → FieldsLie a.shapes before fs → FieldsLie b.shapes before fs
lie_later a b x before [] h k = tt
lie_later a b x before (f ∷ fs) h k = (k.0, subst (λ c. FieldsLie b.shapes (before + c) fs) (sym (count_later a b x f.number h.0)) (lie_later a b x (before + cells_of (table_of a.shapes) f.number) fs h.1 k.1))

pub numbered_later : (a b : Log) → Extends a b → (fs : List Field) → FieldsNumbered a.shapes fs → FieldsNumbered b.shapes fs
numbered_later a b x fs h = subst (λ s. FieldsNumbered s fs) (sym x.is) (fields_numbered a.shapes x.more fs h)
