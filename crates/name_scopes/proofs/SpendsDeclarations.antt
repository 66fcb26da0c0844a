-- Judging that is counted: declarations.
use Rattle.name_rules.specs.Expressions.{Inside, expr, judged_alone, simple}
use Rattle.syntax_tree.specs.FirstTokens as first_token
use Rattle.name_rules.specs.Found.{Found}
use Rattle.name_rules.specs.Judging.{both, fault, given, joined, pure, read, ◌>>=◌}
use Rattle.name_rules.specs.Operators.{both_mentions}
use Rattle.name_rules.specs.Ranges.{Static, both_static, static_range, two_bounds}
use Rattle.name_rules.specs.Scope.{as_scalar, declared, free, hidden_where, subtype_named}
use Rattle.name_rules.specs.Symbols.{symbol}
use Rattle.name_rules.specs.Types.{cells_in, number_of, saturated, wanted_of, written_shape}
use Rattle.name_rules.specs.Values.{first_of, stored, mentions_of}
use Rattle.name_rules.specs.Limits.{most_dimensions}
use Rattle.name_rules.specs.declared.log.Bound.TheVariants as bound
use Rattle.name_rules.specs.declared.log.Field.{Field}
use Rattle.name_rules.specs.declared.log.Rule.TheVariants.{Limit}
use Rattle.name_rules.specs.declared.log.Shape.TheVariants as shape
use Rattle.name_rules.specs.declared.scope.Context.{Context}
use Rattle.name_rules.specs.declared.scope.Names.{Names}
use Rattle.name_rules.specs.declared.scope.What.TheVariants as what
use Rattle.name_rules.specs.declared.types.Scalar.{Scalar}
use Rattle.name_rules.specs.declared.types.Subtype.TheVariants as subtype
use Rattle.name_rules.specs.declared.types.Subtype.{Subtype}
use Rattle.name_rules.specs.declared.types.Wanted.TheVariants as wanted
use Rattle.syntax_tree.specs.Syntax as syntax
use Rattle.syntax_tree.specs.Syntax.{Array, Comp, Decl, Definition, Expr, Ids, Indic, ObjectType, Range}
use Rattle.typed_tree.specs.Decoded as part
use Rattle.std.specs.Prelude.{Bool, List, None, Option, Some, [], false, is_some, length, nat_le, option_map, true, ℕ, ℤ, ◌+◌, ◌∷◌}
use Rattle.name_rules.specs.TypedParts.{also_all}
use Rattle.typed_tree.specs.Decoded.{TypedPart}
use Rattle.name_rules.specs.Declarations.{Building, Dimensions, Indicated, Initial, all_ended, all_ids, also_dimension, also_field, and_mentions, and_type, array, array_given, array_written, begun_names, cells_counted, component, components, constant_value, declaration, declarations, defined, dimensions_from, each_exception, each_object, ended_name, first_or, found_mentions, indic, indic_bounds, indic_range, indicated, indicated_mentions, initial, initial_value, new_object, no_initial, numbers, object_ended, objects, one_object, one_type, own_type, own_type_of, record_of, record_written, static_number, typed_object, valued_constant, with_field, with_fields, with_mentions, with_object, without_fields, modular_type, modular_by, exponent_from}
use Rattle.std.proofs.Common.{arith}
use Rattle.name_laws.proofs.Fitting.{fits_constant}
use Rattle.name_laws.proofs.KeepsDeclarations.{k-array_written, k-begun_names, k-cells_counted, k-each_exception, k-indic_range, k-new_object, k-own_type, k-static_number, k-valued_constant, k-modular_by}
use Rattle.name_laws.proofs.KeepsExpressions.{k-judged_alone}
use Rattle.name_laws.proofs.KeepsRanges.{k-both_static}
use Rattle.name_laws.proofs.KeepsScope.{k-as_scalar, k-free, k-subtype_named}
use Rattle.name_laws.proofs.KeepsTypes.{k-number_of, k-written_shape}
use Rattle.name_laws.proofs.Walk.{k-both, k-given, k-read}
use Rattle.name_scopes.proofs.SpendsExpressions.{s-expr, s-simple}
use Rattle.name_scopes.proofs.SpendsOperators.{z-both_mentions}
use Rattle.name_scopes.proofs.SpendsRanges.{s-static_range, s-two_bounds}
use Rattle.name_scopes.proofs.SpendsValues.{s-stored, z-mentions_of}
use Rattle.name_scopes.proofs.Leaving.{leaving, leaving-wide}
use Rattle.name_scopes.proofs.Measures.{maybe-known, maybe-part, option-of, pair-of, part-measure, part-size, second-of, with-part}
use Rattle.name_scopes.proofs.Parts.{n-also_all, n-exprs_of, n-value, w-also_all}
use Rattle.name_scopes.proofs.Records.{SpendsInside, building-of, dimensions-of, initial-of}
use Rattle.name_scopes.proofs.Spends.{Holds, Spends, h-joined, h-joined-first, h-map, h-map-any, s-bind, s-both, s-fault, s-given, s-given-any, s-if, s-le, s-pure, s-some, s-then}
use Rattle.name_scopes.proofs.Tallies.{Tally}

pub z-indicated : (which : Tally) (x0 : TypedPart) (x1 : Subtype) → (part-measure which).Whole x0 → Holds (with-part which) (part-size which x0) (indicated x0 x1)
z-indicated which x s h0 = (h0, omega arith)

pub s-indic_bounds : (which : Tally) (x0 : Scalar) (x1 : Found) (x2 : Found) → (with-part which).Whole x1 → (with-part which).Whole x2 → Spends which (maybe-known which) (part-size which x1.part + part-size which x2.part) (indic_bounds x0 x1 x2)
s-indic_bounds which s a z h1 h2 =
    s-then which (maybe-known which) _ (both_static s.kind a z) _ (k-both_static leaving s.kind a z) (λ v.
    s-then which (maybe-known which) _ (given v (indic_range s (first_of a.known) (first_of z.known))) _ (k-given leaving v _ (λ item. k-indic_range leaving s (first_of a.known) (first_of z.known) item)) (λ t.
    s-pure which (maybe-known which) _ (option_map (indicated (both_mentions a z)) t) (let made6 = h-map-any (with-part which) (part-size which a.part + part-size which z.part) (indicated (both_mentions a z)) t (λ item. let made4 = z-both_mentions which a z h1 h2 in
    let made5 = z-indicated which (both_mentions a z) item made4.0 in
    (made5.0, omega (arith, made5.1, made4.1))) in
    (made6.0, omega (arith, made6.1)))))

pub s-indic : (which : Tally) (x0 : Names) (x1 : Inside) (x2 : Context) (x3 : Indic) → SpendsInside which x1 → Spends which (maybe-known which) 0 (indic x0 x1 x2 x3)
unfolding indic
s-indic which names level here (syntax.Mark mark) h1 =
    s-then which (maybe-known which) _ (subtype_named names here mark) _ (k-subtype_named leaving names here mark tt) (λ s.
    s-pure which (maybe-known which) _ (option_map (indicated part.Nothing) s) (let made4 = h-map-any (with-part which) 0 (indicated part.Nothing) s (λ item. let made3 = z-indicated which part.Nothing item tt in
    (made3.0, omega (arith, made3.1))) in
    (made4.0, omega (arith, made4.1))))
s-indic which names level here (syntax.RangeMark mark low high) h1 =
    s-then which (maybe-known which) _ (subtype_named names here mark) _ (k-subtype_named leaving names here mark tt) (λ s.
    s-then which (maybe-known which) _ (given s (as_scalar mark)) _ (k-given leaving s _ (λ item. k-as_scalar leaving mark item)) (λ t.
    s-bind which (pair-of (maybe-known which) (maybe-known which)) (maybe-known which) 0 0 _ (two_bounds level here low high) _ (s-le which (pair-of (maybe-known which) (maybe-known which)) _ _ _ (s-two_bounds which level here low high h1) (omega arith)) (omega arith) (λ r held3.
    s-given-any which (with-part which) _ t _ (λ x.
    s-both which (with-part which) (with-part which) (with-part which) 0 _ r.0 r.1 _ held3.0 held3.1 (omega arith) (λ one held5 other held6.
    s-le which (maybe-known which) _ _ _ (s-indic_bounds which x one other held5 held6) (omega arith))))))

pub z-also_dimension : (which : Tally) (x0 : Dimensions) (x1 : Static) → (part-measure which).Whole x0.mentions → (with-part which).Whole x1 → Holds (dimensions-of which) (part-size which x0.mentions + part-size which x1.part) (also_dimension x0 x1)
z-also_dimension which ds d h0-mentions h1 = (w-also_all which ds.mentions d.part h0-mentions h1, omega (arith, n-also_all which ds.mentions d.part))

pub s-dimensions_from : (which : Tally) (x0 : Inside) (x1 : Context) (x2 : Option Dimensions) (x3 : List Range) → SpendsInside which x0 → (option-of (dimensions-of which)).Whole x2 → Spends which (option-of (dimensions-of which)) ((option-of (dimensions-of which)).size x2) (dimensions_from x0 x1 x2 x3)
s-dimensions_from which level here made [] h0 h2 = s-pure which (option-of (dimensions-of which)) _ made (h2, omega arith)
s-dimensions_from which level here made (r ∷ rs) h0 h2 =
    s-bind which (maybe-known which) (option-of (dimensions-of which)) 0 ((option-of (dimensions-of which)).size made) _ (static_range level here true None r) _ (s-le which (maybe-known which) _ _ _ (s-static_range which level here true None r h0) (omega arith)) (omega arith) (λ d held1.
    let made5 = h-joined (dimensions-of which) (with-part which) (dimensions-of which) 0 also_dimension made d h2 held1 (λ one held2 other held3. let made4 = z-also_dimension which one other held2 held3 in
    (made4.0, omega (arith, made4.1))) in
    s-le which (option-of (dimensions-of which)) _ _ _ (s-dimensions_from which level here (joined also_dimension made d) rs h0 made5.0) (omega (arith, made5.1)))

pub s-array_given : (which : Tally) (x0 : ℕ) (x1 : Dimensions) (x2 : Indicated) → (part-measure which).Whole x1.mentions → (with-part which).Whole x2 → Spends which (maybe-known which) (part-size which x1.mentions + part-size which x2.part) (array_given x0 x1 x2)
s-array_given which at ds s h1-mentions h2 =
    s-if which (maybe-known which) _ (nat_le (length ds.dimensions) most_dimensions) ((array_written ds.dimensions s.known) >>= λ t. pure (option_map (indicated (also_all ds.mentions s.part)) t)) (fault at (Limit bound.Dimensions))
    (s-then which (maybe-known which) _ (array_written ds.dimensions s.known) _ (k-array_written leaving-wide ds.dimensions s.known) (λ t.
    s-pure which (maybe-known which) _ (option_map (indicated (also_all ds.mentions s.part)) t) (let made4 = h-map-any (with-part which) (part-size which ds.mentions + part-size which s.part) (indicated (also_all ds.mentions s.part)) t (λ item. let made3 = z-indicated which (also_all ds.mentions s.part) item (w-also_all which ds.mentions s.part h1-mentions h2) in
    (made3.0, omega (arith, made3.1, n-also_all which ds.mentions s.part))) in
    (made4.0, omega (arith, made4.1)))))
    (s-fault which (with-part which) _ at (Limit bound.Dimensions))

pub s-array : (which : Tally) (x0 : Names) (x1 : Inside) (x2 : Context) (x3 : Array) → SpendsInside which x1 → Spends which (maybe-known which) 0 (array x0 x1 x2 x3)
unfolding array
s-array which names level here a h1 =
    s-bind which (option-of (dimensions-of which)) (maybe-known which) 0 0 _ (dimensions_from level here (Some (record { dimensions = []; mentions = part.Nothing })) (a.first ∷ a.more)) _ (s-le which (option-of (dimensions-of which)) _ _ _ (s-dimensions_from which level here (Some (record { dimensions = []; mentions = part.Nothing })) (a.first ∷ a.more) h1 tt) (omega arith)) (omega arith) (λ ds held1.
    s-bind which (maybe-known which) (maybe-known which) 0 ((option-of (dimensions-of which)).size ds) _ (indic names level here a.component) _ (s-le which (maybe-known which) _ _ _ (s-indic which names level here a.component h1) (omega arith)) (omega arith) (λ s held2.
    s-both which (dimensions-of which) (with-part which) (with-part which) 0 _ ds s _ held1 held2 (omega arith) (λ one held3 other held4.
    s-le which (maybe-known which) _ _ _ (s-array_given which a.at one other held3 held4) (omega arith))))

pub z-without_fields : (which : Tally) (x0 : Building) (x1 : Context) → (part-measure which).Whole x0.mentions → Holds (building-of which) (part-size which x0.mentions) (without_fields x0 x1)
z-without_fields which b here h0-mentions = (h0-mentions, omega arith)

pub s-with_field : (which : Tally) (x0 : Names) (x1 : Building) (x2 : Option ℕ) (x3 : ℕ) (x4 : Option Indicated) → (part-measure which).Whole x1.mentions → Spends which (building-of which) (part-size which x1.mentions) (with_field x0 x1 x2 x3 x4)
s-with_field which names b None token s h1-mentions =
    s-pure which (building-of which) _ (without_fields b b.here) (let made1 = z-without_fields which b b.here h1-mentions in
    (made1.0, omega (arith, made1.1)))
s-with_field which names b (Some t) token None h1-mentions =
    s-pure which (building-of which) _ (without_fields b (declared names b.here token (Some what.Broken))) (let made1 = z-without_fields which b (declared names b.here token (Some what.Broken)) h1-mentions in
    (made1.0, omega (arith, made1.1)))
s-with_field which names b (Some t) token (Some s) h1-mentions =
    s-then which (building-of which) _ (number_of s.known) _ (k-number_of leaving s.known) (λ n.
    s-then which (building-of which) _ (read (λ log. cells_in log s.known)) _ (k-read leaving (λ log. cells_in log s.known)) (λ cells.
    s-pure which (building-of which) _ (record { here = declared names b.here token (Some what.Hidden); fields = option_map (also_field (record { symbol = symbol names token; name = token; subtype = s.known; number = n; offset = b.offset })) b.fields; offset = saturated (b.offset + cells); mentions = b.mentions }) (h1-mentions, omega arith)))

pub s-with_fields : (which : Tally) (x0 : Names) (x1 : Building) (x2 : Option Indicated) (x3 : List ℕ) (x4 : List (Option ℕ)) → (part-measure which).Whole x1.mentions → Spends which (building-of which) (part-size which x1.mentions) (with_fields x0 x1 x2 x3 x4)
s-with_fields which names b s (t ∷ ts) (f ∷ fs) h1-mentions =
    s-bind which (building-of which) (building-of which) (part-size which b.mentions) 0 _ (with_field names b f t s) _ (s-le which (building-of which) _ _ _ (s-with_field which names b f t s h1-mentions) (omega arith)) (omega arith) (λ c held1.
    s-le which (building-of which) _ _ _ (s-with_fields which names c s ts fs held1) (omega arith))
s-with_fields which names b s any1 any2 h1-mentions = s-pure which (building-of which) _ b (h1-mentions, omega arith)

pub z-indicated_mentions : (which : Tally) (x0 : Option Indicated) → (maybe-known which).Whole x0 → Holds (part-measure which) ((maybe-known which).size x0) (indicated_mentions x0)
z-indicated_mentions which None h0 = (tt, omega arith)
z-indicated_mentions which (Some s) h0 = (h0, omega arith)

pub s-component : (which : Tally) (x0 : Names) (x1 : Inside) (x2 : ℕ) (x3 : Building) (x4 : Comp) → SpendsInside which x1 → (part-measure which).Whole x3.mentions → Spends which (building-of which) (part-size which x3.mentions) (component x0 x1 x2 x3 x4)
s-component which names level start b c h1 h3-mentions =
    s-then which (building-of which) _ (begun_names names start b.here [] (all_ids c.names)) _ (k-begun_names leaving names start b.here [] (all_ids c.names) tt) (λ r.
    s-bind which (maybe-known which) (building-of which) 0 (part-size which b.mentions) _ (indic names level r.0 c.component) _ (s-le which (maybe-known which) _ _ _ (s-indic which names level r.0 c.component h1) (omega arith)) (omega arith) (λ s held2.
    let made3 = z-indicated_mentions which s held2 in
    s-le which (building-of which) _ _ _ (s-with_fields which names (record { here = r.0; fields = b.fields; offset = b.offset; mentions = also_all b.mentions (indicated_mentions s) }) s (all_ids c.names) r.1 (w-also_all which b.mentions (indicated_mentions s) h3-mentions made3.0)) (omega (arith, n-also_all which b.mentions (indicated_mentions s), made3.1))))

pub s-components : (which : Tally) (x0 : Names) (x1 : Inside) (x2 : ℕ) (x3 : Building) (x4 : List Comp) → SpendsInside which x1 → (part-measure which).Whole x3.mentions → Spends which (building-of which) (part-size which x3.mentions) (components x0 x1 x2 x3 x4)
s-components which names level start b [] h1 h3-mentions = s-pure which (building-of which) _ b (h3-mentions, omega arith)
s-components which names level start b (c ∷ cs) h1 h3-mentions =
    s-bind which (building-of which) (building-of which) (part-size which b.mentions) 0 _ (component names level start b c) _ (s-le which (building-of which) _ _ _ (s-component which names level start b c h1 h3-mentions) (omega arith)) (omega arith) (λ d held1.
    s-le which (building-of which) _ _ _ (s-components which names level start d cs h1 held1) (omega arith))

pub s-record_written : (which : Tally) (x0 : ℕ) (x1 : TypedPart) (x2 : List Field) → (part-measure which).Whole x1 → Spends which (maybe-known which) (part-size which x1) (record_written x0 x1 x2)
s-record_written which cells ms fs h1 =
    s-then which (maybe-known which) _ (written_shape (shape.Record fs cells)) _ (k-written_shape leaving-wide (shape.Record fs cells)) (λ n.
    s-some which (with-part which) _ (indicated ms (subtype.Composite n)) (let made2 = z-indicated which ms (subtype.Composite n) h1 in
    (made2.0, omega (arith, made2.1))))

pub s-record_of : (which : Tally) (x0 : Names) (x1 : Inside) (x2 : Context) (x3 : List Comp) → SpendsInside which x1 → Spends which (maybe-known which) 0 (record_of x0 x1 x2 x3)
unfolding record_of
s-record_of which names level here cs h1 =
    s-bind which (building-of which) (maybe-known which) 0 0 _ (components names level (length here.scope) (record { here = here; fields = Some []; offset = 0; mentions = part.Nothing }) cs) _ (s-le which (building-of which) _ _ _ (s-components which names level (length here.scope) (record { here = here; fields = Some []; offset = 0; mentions = part.Nothing }) cs h1 tt) (omega arith)) (omega arith) (λ b held1.
    s-given-any which (with-part which) _ b.fields _ (λ item.
    s-le which (maybe-known which) _ _ _ (s-record_written which b.offset b.mentions item held1) (omega arith)))

pub z-found_mentions : (which : Tally) (x0 : Option Found) → (maybe-known which).Whole x0 → Holds (part-measure which) ((maybe-known which).size x0) (found_mentions x0)
z-found_mentions which None h0 = (tt, omega arith)
z-found_mentions which (Some f) h0 =
    let made1 = z-mentions_of which f h0 in
    (made1.0, omega (arith, made1.1))

pub s-own_type_of : (which : Tally) (x0 : ℕ) (x1 : (Option Found) × (Option Found)) → (maybe-known which).Whole x1.0 → (maybe-known which).Whole x1.1 → Spends which (maybe-known which) ((maybe-known which).size x1.0 + (maybe-known which).size x1.1) (own_type_of x0 x1)
s-own_type_of which token r h1-0 h1-1 =
    s-then which (maybe-known which) _ (given r.0 static_number) _ (k-given leaving r.0 _ (λ item. k-static_number leaving item)) (λ a.
    s-then which (maybe-known which) _ (given r.1 static_number) _ (k-given leaving r.1 _ (λ item. k-static_number leaving item)) (λ z.
    s-then which (maybe-known which) _ (both a z (own_type token (first_or r.0) (first_or r.1))) _ (k-both leaving a z _ (λ one other. k-own_type leaving token (first_or r.0) (first_or r.1) one other)) (λ t.
    s-pure which (maybe-known which) _ (option_map (indicated (also_all (found_mentions r.0) (found_mentions r.1))) t) (let made8 = h-map-any (with-part which) ((maybe-known which).size r.0 + (maybe-known which).size r.1) (indicated (also_all (found_mentions r.0) (found_mentions r.1))) t (λ item. let made5 = z-found_mentions which r.0 h1-0 in
    let made6 = z-found_mentions which r.1 h1-1 in
    let made7 = z-indicated which (also_all (found_mentions r.0) (found_mentions r.1)) item (w-also_all which (found_mentions r.0) (found_mentions r.1) made5.0 made6.0) in
    (made7.0, omega (arith, made7.1, n-also_all which (found_mentions r.0) (found_mentions r.1), made5.1, made6.1))) in
    (made8.0, omega (arith, made8.1))))))

pub s-modular_type : (which : Tally) (x0 : ℕ) (x1 : Found) → (with-part which).Whole x1 → Spends which (maybe-known which) (part-size which x1.part) (modular_type x0 x1)
s-modular_type which token f h1 =
    s-then which (maybe-known which) _ (static_number f) _ (k-static_number leaving f) (λ m.
    s-then which (maybe-known which) _ (given m (λ z. modular_by token (first_of f.known) (exponent_from 64 1 z))) _ (k-given leaving m _ (λ z. k-modular_by leaving token (first_of f.known) (exponent_from 64 1 z))) (λ t.
    s-pure which (maybe-known which) _ (option_map (indicated (mentions_of f)) t) (let made3 = h-map-any (with-part which) (part-size which f.part) (indicated (mentions_of f)) t (λ item. let made1 = z-mentions_of which f h1 in
    let made2 = z-indicated which (mentions_of f) item made1.0 in
    (made2.0, omega (arith, made2.1, made1.1))) in
    (made3.0, omega (arith, made3.1)))))

pub s-defined : (which : Tally) (x0 : Names) (x1 : Inside) (x2 : Context) (x3 : ℕ) (x4 : Definition) → SpendsInside which x1 → Spends which (maybe-known which) 0 (defined x0 x1 x2 x3 x4)
unfolding defined
s-defined which names level here token (syntax.RangeType low high) h1 =
    s-bind which (pair-of (maybe-known which) (maybe-known which)) (maybe-known which) 0 0 _ (two_bounds level here low high) _ (s-le which (pair-of (maybe-known which) (maybe-known which)) _ _ _ (s-two_bounds which level here low high h1) (omega arith)) (omega arith) (λ out held1.
    s-le which (maybe-known which) _ _ _ (s-own_type_of which token out held1.0 held1.1) (omega arith))
s-defined which names level here token (syntax.ModularType m) h1 =
    s-bind which (maybe-known which) (maybe-known which) 0 0 _ (simple level here wanted.Other m) _ (s-le which (maybe-known which) _ _ _ (s-simple which level here wanted.Other m h1) (omega arith)) (omega arith) (λ x held1.
    s-given which (with-part which) (with-part which) 0 _ x _ held1 (omega arith) (λ f held2.
    s-le which (maybe-known which) _ _ _ (s-modular_type which token f held2) (omega arith)))
s-defined which names level here token (syntax.ArrayType a) h1 = s-le which (maybe-known which) _ _ _ (s-array which names level here a h1) (omega arith)
s-defined which names level here token (syntax.RecordType c cs) h1 = s-le which (maybe-known which) _ _ _ (s-record_of which names level here (c ∷ cs) h1) (omega arith)

pub z-initial_value : (which : Tally) (x0 : TypedPart) (x1 : Found) → (part-measure which).Whole x0 → Holds (initial-of which) (part-size which x0) (initial_value x0 x1)
z-initial_value which v f h0 = (h0, omega arith)

pub s-initial : (which : Tally) (x0 : Names) (x1 : Inside) (x2 : Context) (x3 : Option Indicated) (x4 : Option Expr) → SpendsInside which x1 → Spends which (option-of (initial-of which)) 0 (initial x0 x1 x2 x3 x4)
unfolding initial
s-initial which names level here s None h1 = s-some which (initial-of which) _ no_initial (tt, omega arith)
s-initial which names level here None (Some e) h1 =
    s-then which (option-of (initial-of which)) _ (judged_alone names level here e) _ (k-judged_alone leaving names level here e tt h1.keeps) (λ u.
    s-pure which (option-of (initial-of which)) _ None (tt, omega arith))
s-initial which names level here (Some s) (Some e) h1 =
    s-bind which (maybe-known which) (option-of (initial-of which)) 0 0 _ (expr names level here (wanted_of s.known) e) _ (s-le which (maybe-known which) _ _ _ (s-expr which names level here (wanted_of s.known) e h1) (omega arith)) (omega arith) (λ x held1.
    s-bind which (maybe-part which) (option-of (initial-of which)) ((maybe-known which).size x) 0 _ (given x (stored s.known (first_token.of_expr e))) _ (s-given which (with-part which) (part-measure which) 0 _ x _ held1 (omega arith) (λ item held7.
    s-le which (maybe-part which) _ _ _ (s-stored which s.known (first_token.of_expr e) item held7) (omega arith))) (omega arith) (λ v held2.
    s-pure which (option-of (initial-of which)) _ (joined initial_value v x) (let made6 = h-joined-first (part-measure which) (initial-of which) 0 initial_value v x held2 (λ one held3 other. let made5 = z-initial_value which one other held3 in
    (made5.0, omega (arith, made5.1))) in
    (made6.0, omega (arith, made6.1)))))

pub z-with_mentions : (which : Tally) (x0 : TypedPart) (x1 : TypedPart) → (part-measure which).Whole x0 → (part-measure which).Whole x1 → Holds (part-measure which) (part-size which x0 + part-size which x1) (with_mentions x0 x1)
z-with_mentions which made part.Nothing h0 h1 = (h0, omega arith)
z-with_mentions which made ms h0 h1 = (((λ r. omega arith), h0), omega (arith, n-exprs_of which ms))

pub z-with_object : (which : Tally) (x0 : TypedPart) (x1 : Bool) (x2 : ℕ) (x3 : Option TypedPart) → (part-measure which).Whole x0 → (maybe-part which).Whole x3 → Holds (part-measure which) (part-size which x0 + (maybe-part which).size x3) (with_object x0 x1 x2 x3)
z-with_object which made true n (Some v) h0 h3 = (((λ r. omega arith), h0), omega (arith, n-value which v))
z-with_object which made true n None h0 h3 = (h0, omega arith)
z-with_object which made false n None h0 h3 = (((λ r. omega arith), h0), omega arith)
z-with_object which made false n (Some v) h0 h3 = (((λ r. omega arith), h0), omega (arith, n-value which v))

pub z-object_ended : (which : Tally) (x0 : Names) (x1 : Context) (x2 : ℕ) (x3 : Option ℕ) (x4 : Bool) (x5 : Indicated) (x6 : Initial) (x7 : Option TypedPart) (x8 : Option ℕ) → (with-part which).Whole x5 → (maybe-part which).Whole x6.stored → (maybe-part which).Whole x7 → Holds (second-of (maybe-part which)) (part-size which x5.part + (maybe-part which).size x6.stored + (maybe-part which).size x7) (object_ended x0 x1 x2 x3 x4 x5 x6 x7 x8)
z-object_ended which names here token f constant s v ds None h5 h6-stored h7 = (tt, omega arith)
z-object_ended which names here token f constant s v made (Some n) h5 h6-stored h7 =
    let made4 = h-map (part-measure which) (part-measure which) (part-size which s.part + (maybe-part which).size v.stored) (λ ds. with_object (with_mentions ds s.part) constant n v.stored) made h7 (λ ds held1. let made2 = z-with_mentions which ds s.part held1 h5 in
    let made3 = z-with_object which (with_mentions ds s.part) constant n v.stored made2.0 h6-stored in
    (made3.0, omega (arith, made3.1, made2.1))) in
    (made4.0, omega (arith, made4.1))

pub s-one_object : (which : Tally) (x0 : Names) (x1 : Context) (x2 : ℕ) (x3 : Option ℕ) (x4 : Bool) (x5 : Option TypedPart) (x6 : Option Indicated) (x7 : Option Initial) → (maybe-part which).Whole x5 → (maybe-known which).Whole x6 → (option-of (initial-of which)).Whole x7 → Spends which (second-of (maybe-part which)) ((maybe-part which).size x5 + (maybe-known which).size x6 + (option-of (initial-of which)).size x7) (one_object x0 x1 x2 x3 x4 x5 x6 x7)
s-one_object which names here token f constant made (Some s) (Some v) h5 h6 h7 =
    s-then which (second-of (maybe-part which)) _ (new_object names here token s.known constant (constant_value constant s.known v)) _ (k-new_object leaving-wide names here token s.known constant (constant_value constant s.known v) tt (fits_constant constant s.known v)) (λ n.
    s-pure which (second-of (maybe-part which)) _ (object_ended names here token f constant s v made n) (let made2 = z-object_ended which names here token f constant s v made n h6 h7 h5 in
    (made2.0, omega (arith, made2.1))))
s-one_object which names here token f constant ds s v h5 h6 h7 =
    s-then which (second-of (maybe-part which)) _ (cells_counted token 0) _ (k-cells_counted leaving token 0) (λ b.
    s-pure which (second-of (maybe-part which)) _ (ended_name names here f None, None) (tt, omega arith))

pub s-typed_object : (which : Tally) (x0 : Names) (x1 : Inside) (x2 : Context) (x3 : ObjectType) → SpendsInside which x1 → Spends which (maybe-known which) 0 (typed_object x0 x1 x2 x3)
s-typed_object which names level here (syntax.Indicated i) h1 = s-le which (maybe-known which) _ _ _ (s-indic which names level here i h1) (omega arith)
s-typed_object which names level here (syntax.Anonymous a) h1 = s-le which (maybe-known which) _ _ _ (s-array which names level here a h1) (omega arith)

pub s-each_object : (which : Tally) (x0 : Names) (x1 : Inside) (x2 : Context) (x3 : Context) (x4 : Bool) (x5 : ℕ) (x6 : ObjectType) (x7 : Option Expr) (x8 : Option TypedPart) (x9 : List ℕ) (x10 : List (Option ℕ)) → SpendsInside which x1 → (maybe-part which).Whole x8 → Spends which (second-of (maybe-part which)) ((maybe-part which).size x8) (each_object x0 x1 x2 x3 x4 x5 x6 x7 x8 x9 x10)
s-each_object which names level inner here constant first t e made (i ∷ is) (f ∷ fs) h1 h8 =
    s-bind which (maybe-known which) (second-of (maybe-part which)) 0 ((maybe-part which).size made) _ (typed_object names level inner t) _ (s-le which (maybe-known which) _ _ _ (s-typed_object which names level inner t h1) (omega arith)) (omega arith) (λ s held1.
    s-bind which (option-of (initial-of which)) (second-of (maybe-part which)) 0 ((maybe-part which).size made + (maybe-known which).size s) _ (initial names level inner s e) _ (s-le which (option-of (initial-of which)) _ _ _ (s-initial which names level inner s e h1) (omega arith)) (omega arith) (λ v held2.
    s-then which (second-of (maybe-part which)) _ (valued_constant first constant s e) _ (k-valued_constant leaving first constant s e) (λ u.
    s-bind which (second-of (maybe-part which)) (second-of (maybe-part which)) ((maybe-part which).size made + (maybe-known which).size s + (option-of (initial-of which)).size v) 0 _ (one_object names here i f constant made s v) _ (s-le which (second-of (maybe-part which)) _ _ _ (s-one_object which names here i f constant made s v h8 held1 held2) (omega arith)) (omega arith) (λ r held4.
    s-le which (second-of (maybe-part which)) _ _ _ (s-each_object which names level inner r.0 constant first t e r.1 is fs h1 held4) (omega arith)))))
s-each_object which names level inner here constant first t e made any1 any2 h1 h8 = s-pure which (second-of (maybe-part which)) _ (here, made) (h8, omega arith)

pub s-objects : (which : Tally) (x0 : Names) (x1 : Inside) (x2 : ℕ) (x3 : Context) (x4 : Option TypedPart) (x5 : Ids) (x6 : Bool) (x7 : ObjectType) (x8 : Option Expr) → SpendsInside which x1 → (maybe-part which).Whole x4 → Spends which (second-of (maybe-part which)) ((maybe-part which).size x4) (objects x0 x1 x2 x3 x4 x5 x6 x7 x8)
unfolding objects
s-objects which names level start here made is constant t e h1 h4 =
    s-then which (second-of (maybe-part which)) _ (begun_names names start here [] (all_ids is)) _ (k-begun_names leaving names start here [] (all_ids is) tt) (λ r.
    s-le which (second-of (maybe-part which)) _ _ _ (s-each_object which names level r.0 r.0 constant is.first t e made (all_ids is) r.1 h1 h4) (omega arith))

pub z-and_mentions : (which : Tally) (x0 : TypedPart) (x1 : TypedPart) (x2 : ℤ) → (part-measure which).Whole x0 → (part-measure which).Whole x1 → Holds (part-measure which) (part-size which x0 + part-size which x1) (and_mentions x0 x1 x2)
z-and_mentions which ms made z h0 h1 =
    let made1 = z-with_mentions which made ms h1 h0 in
    (made1.0, omega (arith, made1.1))

pub s-numbers : (which : Tally) (x0 : Names) (x1 : Inside) (x2 : ℕ) (x3 : Context) (x4 : Option TypedPart) (x5 : Ids) (x6 : Expr) → SpendsInside which x1 → (maybe-part which).Whole x4 → Spends which (second-of (maybe-part which)) ((maybe-part which).size x4) (numbers x0 x1 x2 x3 x4 x5 x6)
unfolding numbers
s-numbers which names level start here made is e h1 h4 =
    s-then which (second-of (maybe-part which)) _ (begun_names names start here [] (all_ids is)) _ (k-begun_names leaving names start here [] (all_ids is) tt) (λ r.
    s-bind which (maybe-known which) (second-of (maybe-part which)) 0 ((maybe-part which).size made) _ (expr names level r.0 wanted.Other e) _ (s-le which (maybe-known which) _ _ _ (s-expr which names level r.0 wanted.Other e h1) (omega arith)) (omega arith) (λ x held2.
    s-then which (second-of (maybe-part which)) _ (given x static_number) _ (k-given leaving x _ (λ item. k-static_number leaving item)) (λ v.
    s-pure which (second-of (maybe-part which)) _ (all_ended names r.0 (option_map what.Number v) r.1, joined (and_mentions (found_mentions x)) made v) (let made8 = h-joined-first (part-measure which) (part-measure which) ((maybe-known which).size x) (and_mentions (found_mentions x)) made v h4 (λ one held4 other. let made6 = z-found_mentions which x held2 in
    let made7 = z-and_mentions which (found_mentions x) one other made6.0 held4 in
    (made7.0, omega (arith, made7.1, made6.1))) in
    (made8.0, omega (arith, made8.1))))))

pub z-and_type : (which : Tally) (x0 : TypedPart) (x1 : Indicated) → (part-measure which).Whole x0 → (with-part which).Whole x1 → Holds (part-measure which) (part-size which x0 + part-size which x1.part) (and_type x0 x1)
z-and_type which made s h0 h1 =
    let made1 = z-with_mentions which made s.part h0 h1 in
    (made1.0, omega (arith, made1.1))

pub z-one_type : (which : Tally) (x0 : Names) (x1 : Context) (x2 : Option TypedPart) (x3 : Option ℕ) (x4 : Option Indicated) → (maybe-part which).Whole x2 → (maybe-known which).Whole x4 → Holds (second-of (maybe-part which)) ((maybe-part which).size x2 + (maybe-known which).size x4) (one_type x0 x1 x2 x3 x4)
z-one_type which names here made f s h2 h4 =
    let made4 = h-joined (part-measure which) (with-part which) (part-measure which) 0 and_type made s h2 h4 (λ one held1 other held2. let made3 = z-and_type which one other held1 held2 in
    (made3.0, omega (arith, made3.1))) in
    (made4.0, omega (arith, made4.1))

pub s-declaration : (which : Tally) (x0 : Names) (x1 : Inside) (x2 : ℕ) (x3 : Context) (x4 : Option TypedPart) (x5 : Decl) → SpendsInside which x1 → (maybe-part which).Whole x4 → Spends which (second-of (maybe-part which)) ((maybe-part which).size x4) (declaration x0 x1 x2 x3 x4 x5)
unfolding declaration
s-declaration which names level start here made (syntax.ObjectDecl is constant t e) h1 h4 = s-le which (second-of (maybe-part which)) _ _ _ (s-objects which names level start here made is (is_some constant) t e h1 h4) (omega arith)
s-declaration which names level start here made (syntax.NumberDecl is at e) h1 h4 = s-le which (second-of (maybe-part which)) _ _ _ (s-numbers which names level start here made is e h1 h4) (omega arith)
s-declaration which names level start here made (syntax.ExceptionDecl is) h1 h4 =
    s-then which (second-of (maybe-part which)) _ (begun_names names start here [] (all_ids is)) _ (k-begun_names leaving names start here [] (all_ids is) tt) (λ r.
    s-then which (second-of (maybe-part which)) _ (each_exception names r.0 (all_ids is) r.1) _ (k-each_exception leaving names r.0 (all_ids is) r.1 tt) (λ c.
    s-pure which (second-of (maybe-part which)) _ (c, made) (h4, omega arith)))
s-declaration which names level start here made (syntax.TypeDecl at token d) h1 h4 =
    s-then which (second-of (maybe-part which)) _ (free names start here token) _ (k-free leaving names start here token tt) (λ f.
    s-bind which (maybe-known which) (second-of (maybe-part which)) 0 ((maybe-part which).size made) _ (defined names level (hidden_where names here token f) token d) _ (s-le which (maybe-known which) _ _ _ (s-defined which names level (hidden_where names here token f) token d h1) (omega arith)) (omega arith) (λ s held2.
    s-pure which (second-of (maybe-part which)) _ (one_type names (hidden_where names here token f) made f s) (let made3 = z-one_type which names (hidden_where names here token f) made f s h4 held2 in
    (made3.0, omega (arith, made3.1)))))
s-declaration which names level start here made (syntax.SubtypeDecl at token i) h1 h4 =
    s-then which (second-of (maybe-part which)) _ (free names start here token) _ (k-free leaving names start here token tt) (λ f.
    s-bind which (maybe-known which) (second-of (maybe-part which)) 0 ((maybe-part which).size made) _ (indic names level (hidden_where names here token f) i) _ (s-le which (maybe-known which) _ _ _ (s-indic which names level (hidden_where names here token f) i h1) (omega arith)) (omega arith) (λ s held2.
    s-pure which (second-of (maybe-part which)) _ (one_type names (hidden_where names here token f) made f s) (let made3 = z-one_type which names (hidden_where names here token f) made f s h4 held2 in
    (made3.0, omega (arith, made3.1)))))

pub s-declarations : (which : Tally) (x0 : Names) (x1 : Inside) (x2 : ℕ) (x3 : Context) (x4 : Option TypedPart) (x5 : List Decl) → SpendsInside which x1 → (maybe-part which).Whole x4 → Spends which (second-of (maybe-part which)) ((maybe-part which).size x4) (declarations x0 x1 x2 x3 x4 x5)
s-declarations which names level start here made [] h1 h4 = s-pure which (second-of (maybe-part which)) _ (here, made) (h4, omega arith)
s-declarations which names level start here made (d ∷ ds) h1 h4 =
    s-bind which (second-of (maybe-part which)) (second-of (maybe-part which)) ((maybe-part which).size made) 0 _ (declaration names level start here made d) _ (s-le which (second-of (maybe-part which)) _ _ _ (s-declaration which names level start here made d h1 h4) (omega arith)) (omega arith) (λ r held1.
    s-le which (second-of (maybe-part which)) _ _ _ (s-declarations which names level start r.0 r.1 ds h1 held1) (omega arith))
