use Rattle.std.proofs.Common.{sym, ◌∙◌}
use Rattle.name_rules.specs.Names as spec
use Rattle.name_rules.specs.Types.{fields_of, shape_in}
use Rattle.typed_tree.specs.Latest.{top}
use Rattle.typed_parts.specs.Stack.{parts}
use Rattle.name_values.proofs.Fields.{found_shows, next_shows}
use Rattle.name_values.proofs.names.field_from.Goals as goal

pub returns-then-field-name : goal.returns-then-field-name
returns-then-field-name c =
    rw c.part_place.ensures
    (found_shows c.args.names.now c.args.place c.args.at c.fields.i (fields_of (shape_in c.fields.judge.log c.args.number)) c.in-Some.field c.fields.judge.log
    (parts c.args.judge.now.out) (parts c.fields.judge.out) (parts c.selected_field.new.out)
    (spec.field_from c.args.names.now c.args.place (top (parts c.args.judge.now.out)) c.args.at 0 (fields_of (shape_in c.args.judge.now.log c.args.number)) c.args.judge.now.log)
    c.fields.invariant.0 (sym c.field_at.ensures ∙ c.in-Some.is) (c.if-field-name.true ∙ c.symbol-name.ensures) c.fields.invariant.1 c.in_ok-selected_field.ensures)

pub fields-preserved : goal.fields-preserved
fields-preserved c = (
  c.fields.invariant.0
      ∙ next_shows c.args.names.now c.args.place (top (parts c.args.judge.now.out)) c.args.at c.fields.i (fields_of (shape_in c.fields.judge.log c.args.number)) c.in-Some.field c.fields.judge.log
      (sym c.field_at.ensures ∙ c.in-Some.is) (λ e. c.if-field-name.false (e ∙ sym c.symbol-name.ensures)),
  c.fields.invariant.1,
)
