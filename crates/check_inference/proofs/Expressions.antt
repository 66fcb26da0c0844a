-- The walk over an expression adds exactly the items of the expression.
use Rattle.std.proofs.Common.{[], Some, None, false, refl}
use Rattle.typed_tree.specs.declared.expressions.Reducer.{Reducer}
use Rattle.typed_tree.specs.declared.expressions.Reducer.TheVariants.{Operator, Function}
use Rattle.typed_tree.specs.Syntax.{Expr, Static, Variable, Constant, Parameter, Target, Group, Unary, Binary, AndThen, OrElse, Relation, Membership, If, Call, Convert, Reduction, Exprs, NoExpr, AlsoExpr, Optional, Absent, Present, Selections, Whole, Field, Index, Actuals, NoActual, In, InOut, Out, CompositeInOut, CompositeOut, Value, Number, Cells, Composite, WholeVariable, WholeConstant, WholeTarget, CompositeIf, Aggregate, Associations, NoAssociation, Association, Iteration, Range, Components, Chunk, NoChunk, Count, Each, Pieces, NoPiece, Text, Image, Padded, Program}
use Rattle.ada_meaning.specs.Shapes.{cells_of}
use Rattle.check_effects.specs.Effects as law
use Rattle.check_effects.specs.Effects.{Roles, ReductionOf, forget, InReducer, InExpr, InExprs, InOptional, InSelections, InActuals, InValue, InComposite, InAssociations, InCourse, InFilter, InChunk, InPieces}
use Rattle.check_inference.specs.declared.gathering.Gathered.{Gathered}
use Rattle.check_inference.specs.Paths.{Surroundings, named}
use Rattle.check_inference.specs.Gather.{gather_reducer, gather_expr, gather_exprs, gather_optional, gather_selections, gather_actuals, gather_value, gather_composite, gather_associations, gather_course, gather_filter, gather_chunk, gather_pieces}
use Rattle.check_inference.proofs.Places.{Fits, same_name, beside_below, beside_iterated, beside_both, beside_threads, fits_course, fits_below, fits_iterated, fits_judging, fits_threads}
use Rattle.check_inference.proofs.Adding.{Adds, after, before, pair, none, moved, reads, writes, updates, call, held_site, tells}

module _ (program : Program) where
  pub adds_reducer : (x : Reducer) {p : Surroundings} {out : Gathered} → Adds program (InReducer x) p out (gather_reducer p x out)
  adds_reducer (Operator at op class) = none (λ i h. h)
  adds_reducer (Function at s accumulator value) {p = p} = call p at at s _

  mutual
    unfolding gather_expr gather_exprs gather_optional gather_selections gather_actuals gather_value gather_composite gather_associations gather_course gather_filter gather_chunk

    pub adds_expr : (x : Expr) (p : Surroundings) (r : Roles) (out : Gathered) → Fits p r → Adds program (InExpr program.subtypes r x) p out (gather_expr p x out)
    adds_expr (Static at value literal mentions) p r out f = adds_exprs mentions p r out f
    adds_expr (Variable at from selections scalar) p r out f = after (reads p at 1 (named p from selections) (law.name r from selections) out (same_name p r f.suits from selections)) (adds_selections selections p r _ f)
    adds_expr (Constant at from selections scalar) p r out f = adds_selections selections p r out f
    adds_expr (Parameter at k) p r out f = none (λ i h. h)
    adds_expr (Target at scalar) p r out f = reads p at 1 p.target r.target out f.suits.target
    adds_expr (Group e) p r out f = adds_expr e p r out f
    adds_expr (Unary at s class e) p r out f = adds_expr e p r out f
    adds_expr (Binary at op class e g) p r out f = before (adds_expr g p r out f) (adds_expr e p r _ f)
    adds_expr (AndThen e g) p r out f = before (adds_expr g p r out f) (adds_expr e p r _ f)
    adds_expr (OrElse e g) p r out f = before (adds_expr g p r out f) (adds_expr e p r _ f)
    adds_expr (Relation class comparison e g) p r out f = before (adds_expr g p r out f) (adds_expr e p r _ f)
    adds_expr (Membership class negated e low high) p r out f = after (adds_expr e p r out f) (after (adds_expr low p r _ f) (adds_expr high p r _ f))
    adds_expr (If condition value otherwise) p r out f = after (adds_expr condition p r out f) (after (adds_expr value p r _ f) (adds_expr otherwise p r _ f))
    adds_expr (Call at callee s actuals) p r out f = after (call p at callee s out) (adds_actuals actuals p r _ f)
    adds_expr (Convert check e) p r out f = adds_expr e p r out f
    adds_expr (Reduction at attribute by initial None chunk iteration value) p r out f = after (adds_reducer by) (after (adds_expr initial p r _ f) (after (adds_course iteration p r _ f)
        (moved (beside_below false iteration p p) (after (adds_filter iteration _ _ _ (fits_course iteration p r f)) (adds_expr value _ _ _ (fits_course iteration p r f))))))
    adds_expr (Reduction at attribute by initial (Some site) chunk iteration value) p r out f = after (held_site p (ReductionOf site (forget r) by chunk iteration value) _ out (λ on. record {
      number = refl;
      block = refl;
      front = tells [] refl (after (adds_chunk chunk _ _ _ (fits_judging p r f on)) (adds_course iteration _ _ _ (fits_judging p r f on)));
      threads = λ j. tells [] refl (after (adds_reducer by) (moved (beside_threads chunk iteration p) (after (adds_filter iteration _ _ _ (fits_threads chunk iteration p r f on)) (adds_expr value _ _ _ (fits_threads chunk iteration p r f on)))));
    })) (after (adds_reducer by) (after (adds_expr initial p r _ f) (after (adds_chunk chunk p r _ f) (after (adds_course iteration p r _ f)
        (moved (beside_both chunk iteration p) (after (adds_filter iteration _ _ _ (fits_below chunk iteration p r f)) (adds_expr value _ _ _ (fits_below chunk iteration p r f))))))))

    pub adds_exprs : (x : Exprs) (p : Surroundings) (r : Roles) (out : Gathered) → Fits p r → Adds program (InExprs program.subtypes r x) p out (gather_exprs p x out)
    adds_exprs NoExpr p r out f = none (λ i h. h)
    adds_exprs (AlsoExpr e es) p r out f = after (adds_expr e p r out f) (adds_exprs es p r _ f)

    pub adds_optional : (x : Optional) (p : Surroundings) (r : Roles) (out : Gathered) → Fits p r → Adds program (InOptional program.subtypes r x) p out (gather_optional p x out)
    adds_optional Absent p r out f = none (λ i h. h)
    adds_optional (Present e) p r out f = adds_expr e p r out f

    pub adds_selections : (x : Selections) (p : Surroundings) (r : Roles) (out : Gathered) → Fits p r → Adds program (InSelections program.subtypes r x) p out (gather_selections p x out)
    adds_selections Whole p r out f = none (λ i h. h)
    adds_selections (Field number offset rest) p r out f = adds_selections rest p r out f
    adds_selections (Index at e low high stride rest) p r out f = after (adds_expr e p r out f) (adds_selections rest p r _ f)

    pub adds_actuals : (x : Actuals) (p : Surroundings) (r : Roles) (out : Gathered) → Fits p r → Adds program (InActuals program.subtypes r x) p out (gather_actuals p x out)
    adds_actuals NoActual p r out f = none (λ i h. h)
    adds_actuals (In formal value rest) p r out f = after (adds_value value p r out f) (adds_actuals rest p r _ f)
    adds_actuals (InOut formal at from selections inner outer rest) p r out f = pair (updates p at 1 (named p from selections) (law.name r from selections) out (same_name p r f.suits from selections)) (after (adds_selections selections p r _ f) (adds_actuals rest p r _ f))
    adds_actuals (Out formal at from selections inner outer rest) p r out f = after (writes p at 1 (named p from selections) (law.name r from selections) out (same_name p r f.suits from selections)) (after (adds_selections selections p r _ f) (adds_actuals rest p r _ f))
    adds_actuals (CompositeInOut formal at from selections subtype rest) p r out f =
        pair (updates p at (cells_of program.subtypes subtype) (named p from selections) (law.name r from selections) out (same_name p r f.suits from selections)) (after (adds_selections selections p r _ f) (adds_actuals rest p r _ f))
    adds_actuals (CompositeOut formal at from selections subtype rest) p r out f =
        pair (updates p at (cells_of program.subtypes subtype) (named p from selections) (law.name r from selections) out (same_name p r f.suits from selections)) (after (adds_selections selections p r _ f) (adds_actuals rest p r _ f))

    pub adds_value : (x : Value) (p : Surroundings) (r : Roles) (out : Gathered) → Fits p r → Adds program (InValue program.subtypes r x) p out (gather_value p x out)
    adds_value (Number check e) p r out f = adds_expr e p r out f
    adds_value (Cells c) p r out f = adds_composite c p r out f

    pub adds_composite : (x : Composite) (p : Surroundings) (r : Roles) (out : Gathered) → Fits p r → Adds program (InComposite program.subtypes r x) p out (gather_composite p x out)
    adds_composite (WholeVariable at from selections subtype) p r out f = after (reads p at (cells_of program.subtypes subtype) (named p from selections) (law.name r from selections) out (same_name p r f.suits from selections)) (adds_selections selections p r _ f)
    adds_composite (WholeConstant at from selections subtype) p r out f = adds_selections selections p r out f
    adds_composite (WholeTarget at subtype) p r out f = reads p at (cells_of program.subtypes subtype) p.target r.target out f.suits.target
    adds_composite (CompositeIf condition value otherwise) p r out f = after (adds_expr condition p r out f) (after (adds_composite value p r _ f) (adds_composite otherwise p r _ f))
    adds_composite (Aggregate at size associations) p r out f = adds_associations associations p r out f

    pub adds_associations : (x : Associations) (p : Surroundings) (r : Roles) (out : Gathered) → Fits p r → Adds program (InAssociations program.subtypes r x) p out (gather_associations p x out)
    adds_associations NoAssociation p r out f = none (λ i h. h)
    adds_associations (Association runs iterated mentions value rest) p r out f = after (adds_exprs mentions p r out f) (after (moved (beside_iterated iterated p) (adds_value value _ _ _ (fits_iterated iterated p r f))) (adds_associations rest p r _ f))

    pub adds_course : (x : Iteration) (p : Surroundings) (r : Roles) (out : Gathered) → Fits p r → Adds program (InCourse program.subtypes r x) p out (gather_course p x out)
    adds_course (Range k reverse low high check filter) p r out f = after (adds_expr low p r out f) (adds_expr high p r _ f)
    adds_course (Components k constant at from selections count stride dimensions filter) p r out f = adds_selections selections p r out f

    pub adds_filter : (x : Iteration) (p : Surroundings) (r : Roles) (out : Gathered) → Fits p r → Adds program (InFilter program.subtypes r x) p out (gather_filter p x out)
    adds_filter (Range k reverse low high check filter) p r out f = adds_optional filter p r out f
    adds_filter (Components k constant at from selections count stride dimensions filter) p r out f = adds_optional filter p r out f

    pub adds_chunk : (x : Chunk) (p : Surroundings) (r : Roles) (out : Gathered) → Fits p r → Adds program (InChunk program.subtypes r x) p out (gather_chunk p x out)
    adds_chunk NoChunk p r out f = none (λ i h. h)
    adds_chunk (Count e) p r out f = adds_expr e p r out f
    adds_chunk (Each k low high check) p r out f = after (adds_expr low p r out f) (adds_expr high p r _ f)

  pub adds_pieces : (x : Pieces) (p : Surroundings) (r : Roles) (out : Gathered) → Fits p r → Adds program (InPieces program.subtypes r x) p out (gather_pieces p x out)
  unfolding gather_pieces
  adds_pieces NoPiece p r out f = none (λ i h. h)
  adds_pieces (Text bytes rest) p r out f = adds_pieces rest p r out f
  adds_pieces (Image class e rest) p r out f = after (adds_expr e p r out f) (adds_pieces rest p r _ f)
  adds_pieces (Padded class e width rest) p r out f = after (adds_expr e p r out f) (after (adds_expr width p r _ f) (adds_pieces rest p r _ f))
