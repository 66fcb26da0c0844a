-- Aggregates, whose values have no fault.
use Rattle.std.proofs.Common.{◌≡◌, ◌≢◌, refl, sym, ap, ◌∙◌, ℕ, ℤ, Bool, true, false, not, ◌||◌, length, List, Option, Some, None, Result, drop}
use Rattle.std.specs.Prelude.{◌==◌, ◌*◌, ◌+ℤ◌, pos, ◌∷◌, [], if◌then◌else◌, option_map}
use Rattle.syntax_tree.specs.Syntax as syntax
use Rattle.syntax_tree.specs.Syntax.{Assoc, Assocs, Exprs, OptionalExpr}
use Rattle.typed_tree.specs.Decoded.{Nothing, TypedPart}
use Rattle.typed_tree.specs.Latest.{pop, top}
use Rattle.name_expressions.specs.Filled.{filled}
use Rattle.name_expressions.specs.Placed.{placed}
use Rattle.name_expressions.specs.declared.fields.Filling.{Filling}
use Rattle.name_expressions.specs.declared.placing.Placing.{Placing}
use Rattle.name_expressions.proofs.Wholes.{clean, faulty}
use Rattle.name_expressions.specs.Contents.{contents_in, exprs_in, second_in}
use Rattle.name_rules.specs.Aggregates as spec
use Rattle.name_rules.specs.Expressions.{Inside, judged_alone}
use Rattle.name_rules.specs.Judges.{part_if}
use Rattle.name_rules.specs.Judging.{Judging, fault, pure, where_clean, ◌>>=◌}
use Rattle.name_rules.specs.Types.{extent}
use Rattle.name_rules.specs.declared.log.Dimension.{Dimension}
use Rattle.name_rules.specs.declared.log.Field.{Field}
use Rattle.name_rules.specs.declared.log.Log.{Log}
use Rattle.name_rules.specs.declared.log.Rule.TheVariants.{StaticRange}
use Rattle.name_rules.specs.declared.scope.Context.{Context}
use Rattle.name_rules.specs.declared.scope.Names.{Names}
use Rattle.syntax_nodes.specs.Parts.{TreePart, the_expr, the_exprs}
use Rattle.syntax_nodes.specs.Views.{optional_expr}

-- ---- one dimension of an array

abbrev covered : ℕ → Dimension → ℕ → spec.Placing → Judging (Option TypedPart)
covered bracket d apart p = spec.covered bracket d apart (extent d * apart) p (spec.gaps_of d.low d.high p.ranges) p.rest

pub dimension_gone : (names : Names) (level : Inside) (here : Context) (bracket : ℕ) (component : spec.Component) (d : Dimension) (apart : ℕ) (ps : spec.Contents) (log now : Log) (p : spec.Placing) (m n : ℕ)
    → spec.array_placed names level here component d apart ps log ≡ (p, now) → m ≡ length log.faults → n ≡ length now.faults → n ≢ m
    → spec.dimension_of names level here bracket component d apart ps log ≡ (None, now)
unfolding spec.dimension_of
dimension_gone names level here bracket component d apart ps log now p m n e f g h = faulty (spec.array_placed names level here component d apart ps) (covered bracket d apart) log now p m n e f g h

pub dimension_whole : (names : Names) (level : Inside) (here : Context) (bracket : ℕ) (component : spec.Component) (d : Dimension) (apart : ℕ) (ps : spec.Contents) (log now : Log) (p : spec.Placing) (m n : ℕ)
    → spec.array_placed names level here component d apart ps log ≡ (p, now) → m ≡ length log.faults → n ≡ length now.faults → n ≡ m
    → spec.dimension_of names level here bracket component d apart ps log ≡ spec.covered bracket d apart (extent d * apart) p (spec.gaps_of d.low d.high p.ranges) p.rest now
unfolding spec.dimension_of
dimension_whole names level here bracket component d apart ps log now p m n e f g h = clean (spec.array_placed names level here component d apart ps) (covered bracket d apart) log now p m n e f g h

-- the associations from none on
pub assocs_placed : (names : Names) (level : Inside) (here : Context) (component : spec.Component) (d : Dimension) (apart : ℕ) (a : Assoc) (as' : Assocs) (log now end : Log) (p q r : spec.Placing) (last : Bool)
    → spec.nothing_placed ≡ p → last ≡ spec.is_final as' → spec.array_assoc names level here component d apart last p a log ≡ (q, now) → spec.array_assocs names level here component d apart q as' now ≡ (r, end)
    → spec.array_placed names level here component d apart (spec.ByAssociation (syntax.AlsoAssoc a as')) log ≡ (r, end)
assocs_placed names level here component d apart a as' log now end p q r last e f g h = rw (e, sym f, g) h

-- the values by position from none on, and the rest
pub values_placed : (names : Names) (level : Inside) (here : Context) (component : spec.Component) (d : Dimension) (apart : ℕ) (es : Exprs) (o : OptionalExpr) (log now end : Log) (p q r : spec.Placing)
    → spec.nothing_placed ≡ p → spec.array_values here component d apart d.low p es log ≡ (q, now) → spec.array_rest here component o q now ≡ (r, end)
    → spec.array_placed names level here component d apart (spec.ByPosition es o) log ≡ (r, end)
values_placed names level here component d apart es o log now end p q r e f g = rw (e, f) g

-- ---- a record

pub record_gone : (names : Names) (level : Inside) (here : Context) (fs : List Field) (bracket cells : ℕ) (ps : spec.Contents) (log now : Log) (f : spec.Filling) (m n : ℕ)
    → spec.record_parts names level here fs ps log ≡ (f, now) → m ≡ length log.faults → n ≡ length now.faults → n ≢ m
    → where_clean (spec.record_parts names level here fs ps) (spec.filled bracket cells) log ≡ (None, now)
record_gone names level here fs bracket cells ps log now f m n e h i j = faulty (spec.record_parts names level here fs ps) (spec.filled bracket cells) log now f m n e h i j

pub record_whole : (names : Names) (level : Inside) (here : Context) (fs : List Field) (bracket cells : ℕ) (ps : spec.Contents) (log now : Log) (x : Option TypedPart) (left : List Field) (over incomplete : Bool) (m n : ℕ)
    → spec.record_parts names level here fs ps log ≡ (spec.filling x left over, now) → m ≡ length log.faults → n ≡ length now.faults → n ≡ m → incomplete ≡ (over || not (length left == 0))
    → where_clean (spec.record_parts names level here fs ps) (spec.filled bracket cells) log ≡ (if incomplete then fault bracket StaticRange else pure (option_map (spec.aggregate_part bracket cells) x)) now
record_whole names level here fs bracket cells ps log now x left over incomplete m n e h i j k =
    clean (spec.record_parts names level here fs ps) (spec.filled bracket cells) log now (spec.filling x left over) m n e h i j
    ∙ ap (λ (b : Bool). (if b then fault bracket StaticRange else pure (option_map (spec.aggregate_part bracket cells) x)) now) (sym k)

pub assocs_filled : (names : Names) (level : Inside) (here : Context) (fs : List Field) (a : Assoc) (as' : Assocs) (log now end : Log) (p q r : spec.Filling) (last : Bool)
    → spec.filling (Some Nothing) fs false ≡ p → last ≡ spec.is_final as' → spec.record_assoc names level here fs last p a log ≡ (q, now) → spec.record_assocs names level here fs q as' now ≡ (r, end)
    → spec.record_parts names level here fs (spec.ByAssociation (syntax.AlsoAssoc a as')) log ≡ (r, end)
assocs_filled names level here fs a as' log now end p q r last e f g h = rw (e, sym f, g) h

pub values_filled : (names : Names) (level : Inside) (here : Context) (fs : List Field) (es : Exprs) (o : OptionalExpr) (log now end : Log) (p q r : spec.Filling)
    → spec.filling (Some Nothing) fs false ≡ p → spec.record_values names level here p es log ≡ (q, now) → spec.record_rest names level here q o now ≡ (r, end)
    → spec.record_parts names level here fs (spec.ByPosition es o) log ≡ (r, end)
values_filled names level here fs es o log now end p q r e f g = rw (e, f) g

-- ---- for themselves

alone_second : (names : Names) (level : Inside) (here : Context) (at : ℕ → TreePart) (second : Option ℕ) (es : Exprs) (log : Log)
    → spec.exprs_alone names level here (second_in at second es) log ≡ (spec.optional_alone names level here (optional_expr at second) >>= λ u. spec.exprs_alone names level here es) log
alone_second names level here at None es log = refl
alone_second names level here at (Some n) es log = refl

-- the values by position, one after another
all_alone_so : (names : Names) (level : Inside) (here : Context) (at : ℕ → TreePart) (first : ℕ) (second : Option ℕ) (more : ℕ) (log a b c : Log)
    → judged_alone names level here (the_expr (at first)) log ≡ (tt, a)
    → spec.optional_alone names level here (optional_expr at second) a ≡ (tt, b)
    → spec.exprs_alone names level here (the_exprs (at more)) b ≡ (tt, c)
    → spec.exprs_alone names level here (exprs_in at first second more) log ≡ (tt, c)
all_alone_so names level here at first second more log a b c e f g =
    ap (λ (r : Unit {0} × Log). spec.exprs_alone names level here (second_in at second (the_exprs (at more))) r.1) e
    ∙ (alone_second names level here at second (the_exprs (at more)) a
    ∙ (ap (λ (r : Unit {0} × Log). spec.exprs_alone names level here (the_exprs (at more)) r.1) f ∙ g))

pub all_alone : (names : Names) (level : Inside) (here : Context) (at : ℕ → TreePart) (first : ℕ) (second : Option ℕ) (more : ℕ) (others : Option ℕ) (log a b c : Log)
    → judged_alone names level here (the_expr (at first)) log ≡ (tt, a)
    → spec.optional_alone names level here (optional_expr at second) a ≡ (tt, b)
    → spec.exprs_alone names level here (the_exprs (at more)) b ≡ (tt, c)
    → spec.contents_alone names level here (contents_in at first second more others) log ≡ spec.optional_alone names level here (optional_expr at others) c
all_alone names level here at first second more others log a b c e f g =
    ap (λ (r : Unit {0} × Log). spec.optional_alone names level here (optional_expr at others) r.1) (all_alone_so names level here at first second more log a b c e f g)

-- ---- two values by position, and those behind them

pub two_placed : (here : Context) (component : spec.Component) (d : Dimension) (apart : ℕ) (at : ℕ → TreePart) (first n : ℕ) (more : ℕ) (log a b : Log) (p q r : Placing) (s t u v w : List TypedPart) (x y z : ℤ) (f g : Bool)
    → x ≡ d.low → y ≡ d.low +ℤ pos 1 → z ≡ (d.low +ℤ pos 1) +ℤ pos 1
    → component here (the_expr (at first)) log ≡ (part_if f (top t), a) → pop t ≡ s
    → spec.with_ranges d apart None Nothing (placed p (pop t)) ((x, x) ∷ []) (part_if f (top t)) ≡ placed q u
    → component here (the_expr (at n)) a ≡ (part_if g (top v), b) → pop v ≡ u
    → spec.with_ranges d apart None Nothing (placed q (pop v)) ((y, y) ∷ []) (part_if g (top v)) ≡ placed r w
    → spec.array_values here component d apart d.low (placed p s) (exprs_in at first (Some n) more) log ≡ spec.array_values here component d apart z (placed r w) (the_exprs (at more)) b
two_placed here component d apart at first n more log a b p q r s t u v w x y z f g xs ys zs e k l h i j =
    let first' : spec.with_ranges d apart None Nothing (placed p s) ((d.low, d.low) ∷ []) (part_if f (top t)) ≡ placed q u =
    ap (λ (o : ℤ). spec.with_ranges d apart None Nothing (placed p s) ((o, o) ∷ []) (part_if f (top t))) (sym xs)
    ∙ (ap (λ (o : List TypedPart). spec.with_ranges d apart None Nothing (placed p o) ((x, x) ∷ []) (part_if f (top t))) (sym k) ∙ l) in
    let second' : spec.with_ranges d apart None Nothing (placed q u) ((d.low +ℤ pos 1, d.low +ℤ pos 1) ∷ []) (part_if g (top v)) ≡ placed r w =
    ap (λ (o : ℤ). spec.with_ranges d apart None Nothing (placed q u) ((o, o) ∷ []) (part_if g (top v))) (sym ys)
    ∙ (ap (λ (o : List TypedPart). spec.with_ranges d apart None Nothing (placed q o) ((y, y) ∷ []) (part_if g (top v))) (sym i) ∙ j) in
    ap (λ (o : Option TypedPart × Log). spec.array_values here component d apart (d.low +ℤ pos 1) (spec.with_ranges d apart None Nothing (placed p s) ((d.low, d.low) ∷ []) o.0) (syntax.AlsoExpr (the_expr (at n)) (the_exprs (at more))) o.1) e
    ∙ (ap (λ (o : spec.Placing). spec.array_values here component d apart (d.low +ℤ pos 1) o (syntax.AlsoExpr (the_expr (at n)) (the_exprs (at more))) a) first'
    ∙ (ap (λ (o : Option TypedPart × Log). spec.array_values here component d apart ((d.low +ℤ pos 1) +ℤ pos 1) (spec.with_ranges d apart None Nothing (placed q u) ((d.low +ℤ pos 1, d.low +ℤ pos 1) ∷ []) o.0) (the_exprs (at more)) o.1) h
    ∙ (ap (λ (o : spec.Placing). spec.array_values here component d apart ((d.low +ℤ pos 1) +ℤ pos 1) o (the_exprs (at more)) b) second'
    ∙ ap (λ (o : ℤ). spec.array_values here component d apart o (placed r w) (the_exprs (at more)) b) (sym zs))))
