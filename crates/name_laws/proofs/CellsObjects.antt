-- Record types, objects and declarations leave what is right.
use Rattle.std.proofs.Common.{true≢false, leb-true, nat_le, nat_lt, map, ◌≡◌, ℕ, suc, ℤ, ◌+◌, ◌<◌, ◌≤◌, int_le, List, [], ◌∷◌, ◌++◌, length, length-append, Option, Some, None, Bool, true, false, refl, sym, ap, subst, ◌∙◌, arith, if◌then◌else◌, option_map, ◌&&◌, ◌-◌, le-leb, pos}
use Rattle.name_rules.specs.Values.{first_of, mentions_of}
use Rattle.name_rules.specs.Found.{Found}
use Rattle.name_laws.proofs.Walk.{k-given}
use Rattle.name_laws.proofs.KeepsExpressions.{k-simple}
use Rattle.ada_base.proofs.Turning.{turned_twice}
use Rattle.ada_base.specs.Operation.{turned, modulus}
use Rattle.std.specs.Prelude.{is_some, not}
use Rattle.ada_base.specs.declared.reason.Reason.TheVariants as reason
use Rattle.syntax_tree.specs.Syntax as syntax
use Rattle.syntax_tree.specs.Syntax.{Comp, Decl, Definition, Expr, Ids, ObjectType, Simple}
use Rattle.typed_tree.specs.Decoded as part
use Rattle.typed_tree.specs.Decoded.{TypedPart}
use Rattle.name_rules.specs.Declarations as d
use Rattle.name_rules.specs.Declarations.{Building, Indicated, Initial, all_ids, indicated}
use Rattle.name_rules.specs.Expressions.{Inside, expr, simple}
use Rattle.name_rules.specs.Judging.{◌>>=◌, both, given, pure, some, unless}
use Rattle.name_rules.specs.Ranges.{two_bounds}
use Rattle.name_rules.specs.Scope.{declared, free, hidden_where}
use Rattle.name_rules.specs.Symbols.{symbol}
use Rattle.name_rules.specs.Types.{cells_of_shape, cells_in, in_base, number_of, saturated}
use Rattle.name_rules.specs.TypedParts.{also_all}
use Rattle.name_rules.specs.Limits.{most_cells, most_objects}
use Rattle.name_rules.specs.declared.log.Field.{Field}
use Rattle.name_rules.specs.declared.log.Log.{Log}
use Rattle.name_rules.specs.declared.log.Rule.TheVariants.{StaticRange}
use Rattle.name_rules.specs.declared.log.Shape.TheVariants as shape
use Rattle.name_rules.specs.declared.scope.Context.{Context}
use Rattle.name_rules.specs.declared.scope.Names.{Names}
use Rattle.name_rules.specs.declared.scope.What.TheVariants as what
use Rattle.name_rules.specs.declared.scope.What.{What}
use Rattle.name_rules.specs.declared.types.Kind.TheVariants as kind
use Rattle.name_rules.specs.declared.types.Subtype.{Subtype}
use Rattle.name_rules.specs.declared.types.Subtype.TheVariants as subtype
use Rattle.name_rules.specs.declared.types.Wanted.TheVariants as wanted
use Rattle.name_laws.proofs.CellsDeclared.{NamesRight, IsIndicated, IsRightMaybe, Leaves, array-leaves, begun-right, declared-right, ended-right, hidden-right, indic-right, last-true, next-leaves, now, none-leaves}
use Rattle.std.proofs.lemmas.List.{append-nil, append_assoc, map-append}
use Rattle.std.proofs.lemmas.Option.{slice_get-get_or}
use Rattle.typed_tree.specs.Layout.{cells_of, fields_cells}
use Rattle.name_rules.specs.Resolved.{typed_field}
use Rattle.name_rules.specs.declared.log.Shape.{Shape}
use Rattle.name_laws.proofs.CellsCounted.{fields_sum, saturated_least, saturated_sum}
use Rattle.name_laws.proofs.CellsGrown.{Extends, extending, extends_joined, fields_later, lie_later, numbered_later, shape_later, values_before}
use Rattle.name_laws.proofs.CellsSound.{AllValues, FieldsLie, FieldsNumbered, NumberIn, number_in, number_counted, table_of, AreRight, FieldsBefore, IsRight, Sound, are_later, longer_shapes, minding, more_objects, more_shapes, number_within, right_later}
use Rattle.name_laws.proofs.Fitting.{is_number}
use Rattle.name_laws.proofs.KeepsDeclarations.{k-begun_names, k-cells_counted, k-each_exception, k-indic, k-initial, k-numbers, k-own_type_of, k-valued_constant, k-modular_by, k-static_number}
use Rattle.name_laws.proofs.KeepsRanges.{k-two_bounds}
use Rattle.name_laws.proofs.KeepsScope.{k-free}
use Rattle.name_laws.proofs.KeepsTypes.{k-number_of}
use Rattle.name_laws.proofs.Walked.{KeepsInside}

-- ---- records

abbrev AreBefore : ℕ → Option (List Field) → Type 0
AreBefore n None = Unit {0}
AreBefore n (Some fs) = FieldsBefore n fs

abbrev IsBuilt : ℕ → Building → Type 0
IsBuilt n b = AreRight n b.here.scope × AreBefore n b.fields

fields-later : (n m : ℕ) (fs : List Field) → n ≤ m → FieldsBefore n fs → FieldsBefore m fs
fields-later n m [] l h = tt
fields-later n m (f ∷ fs) l h = (omega (arith, l, h.0), fields-later n m fs l h.1)

maybe-later : (n m : ℕ) (fs : Option (List Field)) → n ≤ m → AreBefore n fs → AreBefore m fs
maybe-later n m None l h = tt
maybe-later n m (Some fs) l h = fields-later n m fs l h

fields-both : (n : ℕ) (a b : List Field) → FieldsBefore n a → FieldsBefore n b → FieldsBefore n (a ++ b)
fields-both n [] b h k = k
fields-both n (f ∷ a) b h k = (h.0, fields-both n a b h.1 k)

one-more : (n : ℕ) (f : Field) (fs : Option (List Field)) → f.number < n → AreBefore n fs → AreBefore n (option_map (d.also_field f) fs)
one-more n f None l h = tt
one-more n f (Some fs) l h = fields-both n fs (f ∷ []) h (l, tt)

-- what is judged in brackets
pub record KeepsBoth (level : Inside) : Type 0 where
  pub minds : KeepsInside (minding 0) level
  pub extends : KeepsInside extending level
  pub named : NamesRight level

same-leaves : (b : Building) (log : Log) → Sound log → IsBuilt (length log.shapes) b → Leaves IsBuilt log (b, log)
same-leaves b log h r = record { longer = omega arith; sound = h; right = r }

field-leaves : (names : Names) (b : Building) (f : Option ℕ) (token : ℕ) (s : Option Indicated) (log : Log) → Sound log → IsBuilt (length log.shapes) b → IsIndicated (length log.shapes) s
    → Leaves IsBuilt log (d.with_field names b f token s log)
field-leaves names b None token s log h r i = same-leaves (d.without_fields b b.here) log h (r.0, tt)
field-leaves names b (Some t) token None log h r i =
    same-leaves (d.without_fields b (declared names b.here token (Some what.Broken))) log h (declared-right (length log.shapes) names b.here token (Some what.Broken) r.0 tt, tt)
field-leaves names b (Some t) token (Some s) log h r i =
    let m = number_of s.known log in
    let k = now log (number_of s.known) (k-number_of (minding 0) s.known) h in
    let n = length m.1.shapes in
    let within = number_within s.known m.0 m.1 (right_later (length log.shapes) n s.known k.0 i) (is_number s.known log) in
    let f : Field = record { symbol = symbol names token; name = token; subtype = s.known; number = m.0; offset = b.offset } in
    record {
      longer = k.0;
      sound = k.1;
      right = (
        declared-right n names b.here token (Some what.Hidden) (are_later (length log.shapes) n b.here.scope k.0 r.0) tt,
        one-more n f b.fields within (maybe-later (length log.shapes) n b.fields k.0 r.1),
      );
    }

indicated-later : (n m : ℕ) (s : Option Indicated) → n ≤ m → IsIndicated n s → IsIndicated m s
indicated-later n m None l h = tt
indicated-later n m (Some s) l h = right_later n m s.known l h

fields-leaves : (names : Names) (b : Building) (s : Option Indicated) (ts : List ℕ) (fs : List (Option ℕ)) (log : Log) → Sound log → IsBuilt (length log.shapes) b → IsIndicated (length log.shapes) s
    → Leaves IsBuilt log (d.with_fields names b s ts fs log)
fields-leaves names b s (t ∷ ts) (f ∷ fs) log h r i =
    let x = d.with_field names b f t s log in
    let k = field-leaves names b f t s log h r i in
    next-leaves IsBuilt log x.1 (d.with_fields names x.0 s ts fs x.1) k.longer (fields-leaves names x.0 s ts fs x.1 k.sound k.right (indicated-later (length log.shapes) (length x.1.shapes) s k.longer i))
fields-leaves names b s [] fs log h r i = same-leaves b log h r
fields-leaves names b s (t ∷ ts) [] log h r i = same-leaves b log h r

component-leaves : (names : Names) (level : Inside) (start : ℕ) (b : Building) (c : Comp) (log : Log) → KeepsBoth level → Sound log → IsBuilt (length log.shapes) b
    → Leaves IsBuilt log (d.component names level start b c log)
component-leaves names level start b c log keeps h r =
    let x = d.begun_names names start b.here [] (all_ids c.names) log in
    let k = now log (d.begun_names names start b.here [] (all_ids c.names)) (k-begun_names (minding 0) names start b.here [] (all_ids c.names) tt) h in
    let s = d.indic names level x.0.0 c.component x.1 in
    let j = now x.1 (d.indic names level x.0.0 c.component) (k-indic (minding 0) names level x.0.0 c.component tt keeps.minds) k.1 in
    let n = length s.1.shapes in
    let l : length log.shapes ≤ n = omega (arith, k.0, j.0) in
    let e = begun-right n names start b.here [] (all_ids c.names) log (are_later (length log.shapes) n b.here.scope l r.0) in
    let more : Building = record { here = x.0.0; fields = b.fields; offset = b.offset; mentions = also_all b.mentions (d.indicated_mentions s.0) } in
    next-leaves IsBuilt log s.1 (d.with_fields names more s.0 (all_ids c.names) x.0.1 s.1) l
    (fields-leaves names more s.0 (all_ids c.names) x.0.1 s.1 j.1 (e, maybe-later (length log.shapes) n b.fields l r.1) (indic-right n names level x.0.0 c.component e x.1))

components-leaves : (names : Names) (level : Inside) (start : ℕ) (b : Building) (cs : List Comp) (log : Log) → KeepsBoth level → Sound log → IsBuilt (length log.shapes) b
    → Leaves IsBuilt log (d.components names level start b cs log)
components-leaves names level start b [] log keeps h r = same-leaves b log h r
components-leaves names level start b (c ∷ cs) log keeps h r =
    let x = d.component names level start b c log in
    let k = component-leaves names level start b c log keeps h r in
    next-leaves IsBuilt log x.1 (d.components names level start x.0 cs x.1) k.longer (components-leaves names level start x.0 cs x.1 keeps k.sound k.right)

-- ---- the cells of fields

-- the next field begins behind those so far, as each of them does
abbrev AreCounted : List Shape → ℕ → Option (List Field) → Type 0
AreCounted shapes offset None = Unit {0}
AreCounted shapes offset (Some fs) = (offset ≡ saturated (fields_cells (cells_of (table_of shapes)) (map typed_field fs))) × FieldsLie shapes 0 fs

-- their numbers stand for their subtypes
abbrev AreNumbered : List Shape → Option (List Field) → Type 0
AreNumbered shapes None = Unit {0}
AreNumbered shapes (Some fs) = FieldsNumbered shapes fs

pub record Counts (log : Log) (b : Building) : Type 0 where
  pub counts : AllValues log.shapes → AreCounted log.shapes b.offset b.fields
  pub numbers : AreNumbered log.shapes b.fields

counted-later : (a b : Log) (offset : ℕ) (fs : Option (List Field)) → Extends a b → AreBefore (length a.shapes) fs → (AllValues a.shapes → AreCounted a.shapes offset fs) → AllValues b.shapes → AreCounted b.shapes offset fs
counted-later a b offset None x h c v = tt
counted-later a b offset (Some fs) x h c v = let k = c (values_before a b x v) in (k.0 ∙ ap saturated (sym (fields_later a b x fs h)), lie_later a b x 0 fs h k.1)

are-numbered-later : (a b : Log) (fs : Option (List Field)) → Extends a b → AreNumbered a.shapes fs → AreNumbered b.shapes fs
are-numbered-later a b None x h = tt
are-numbered-later a b (Some fs) x h = numbered_later a b x fs h

lie-more : (shapes : List Shape) (before : ℕ) (f : Field) (fs : List Field) → FieldsLie shapes before fs → f.offset ≡ saturated (before + fields_cells (cells_of (table_of shapes)) (map typed_field fs)) → FieldsLie shapes before (fs ++ f ∷ [])
lie-more shapes before f [] h e = (e ∙ ap saturated (omega arith), tt)
lie-more shapes before f (g ∷ fs) h e = (h.0, lie-more shapes (before + cells_of (table_of shapes) g.number) f fs h.1 (e ∙ ap saturated (omega arith)))

numbered-more : (shapes : List Shape) (f : Field) (fs : List Field) → FieldsNumbered shapes fs → NumberIn shapes f.subtype f.number → FieldsNumbered shapes (fs ++ f ∷ [])
numbered-more shapes f [] h e = (e, tt)
numbered-more shapes f (g ∷ fs) h e = (h.0, numbered-more shapes f fs h.1 e)

are-numbered-more : (shapes : List Shape) (f : Field) (fs : Option (List Field)) → AreNumbered shapes fs → NumberIn shapes f.subtype f.number → AreNumbered shapes (option_map (d.also_field f) fs)
are-numbered-more shapes f None h e = tt
are-numbered-more shapes f (Some fs) h e = numbered-more shapes f fs h e

field-more : (shapes : List Shape) (cells : ℕ) (f : Field) (fs : Option (List Field)) → cells ≡ saturated (cells_of (table_of shapes) f.number) → AreCounted shapes f.offset fs
    → AreCounted shapes (saturated (f.offset + cells)) (option_map (d.also_field f) fs)
field-more shapes cells f None e h = tt
field-more shapes cells f (Some fs) e h =
    let many = cells_of (table_of shapes) in
    let before = fields_cells many (map typed_field fs) in
    let all : fields_cells many (map typed_field (fs ++ f ∷ [])) ≡ before + many f.number =
    ap (fields_cells many) (map-append typed_field fs (f ∷ [])) ∙ fields_sum many (map typed_field fs) (typed_field f ∷ []) ∙ omega arith in
    (ap saturated (ap (λ n. n + cells) h.0 ∙ ap (λ n. saturated before + n) e) ∙ saturated_sum before (many f.number) ∙ ap saturated (sym all), lie-more shapes 0 f fs h.1 (h.0 ∙ ap saturated (omega arith)))

field-counts : (names : Names) (b : Building) (f : Option ℕ) (token : ℕ) (s : Option Indicated) (log : Log) → Sound log → IsBuilt (length log.shapes) b → IsIndicated (length log.shapes) s → Counts log b
    → Counts (d.with_field names b f token s log).1 (d.with_field names b f token s log).0
field-counts names b None token s log h r i c = record { counts = λ v. tt; numbers = tt }
field-counts names b (Some t) token None log h r i c = record { counts = λ v. tt; numbers = tt }
field-counts names b (Some t) token (Some s) log h r i c =
    let m = number_of s.known log in
    let k = now log (number_of s.known) (k-number_of (minding 0) s.known) h in
    let x = (k-number_of extending s.known).at log in
    let q = right_later (length log.shapes) (length m.1.shapes) s.known k.0 i in
    let f : Field = record { symbol = symbol names token; name = token; subtype = s.known; number = m.0; offset = b.offset } in
    record {
      counts = λ v. field-more m.1.shapes (cells_in m.1 s.known) f b.fields (number_counted s.known m.0 m.1 k.1 q (is_number s.known log) v) (counted-later log m.1 b.offset b.fields x r.1 c.counts v);
      numbers = are-numbered-more m.1.shapes f b.fields (are-numbered-later log m.1 b.fields x c.numbers) (number_in s.known m.0 m.1 (is_number s.known log));
    }

fields-count : (names : Names) (b : Building) (s : Option Indicated) (ts : List ℕ) (fs : List (Option ℕ)) (log : Log) → Sound log → IsBuilt (length log.shapes) b → IsIndicated (length log.shapes) s → Counts log b
    → Counts (d.with_fields names b s ts fs log).1 (d.with_fields names b s ts fs log).0
fields-count names b s (t ∷ ts) (f ∷ fs) log h r i c =
    let x = d.with_field names b f t s log in
    let k = field-leaves names b f t s log h r i in
    fields-count names x.0 s ts fs x.1 k.sound k.right (indicated-later (length log.shapes) (length x.1.shapes) s k.longer i) (field-counts names b f t s log h r i c)
fields-count names b s [] fs log h r i c = c
fields-count names b s (t ∷ ts) [] log h r i c = c

component-counts : (names : Names) (level : Inside) (start : ℕ) (b : Building) (c : Comp) (log : Log) → KeepsBoth level → Sound log → IsBuilt (length log.shapes) b → Counts log b
    → Counts (d.component names level start b c log).1 (d.component names level start b c log).0
component-counts names level start b c log keeps h r counts =
    let x = d.begun_names names start b.here [] (all_ids c.names) log in
    let k = now log (d.begun_names names start b.here [] (all_ids c.names)) (k-begun_names (minding 0) names start b.here [] (all_ids c.names) tt) h in
    let s = d.indic names level x.0.0 c.component x.1 in
    let j = now x.1 (d.indic names level x.0.0 c.component) (k-indic (minding 0) names level x.0.0 c.component tt keeps.minds) k.1 in
    let n = length s.1.shapes in
    let l : length log.shapes ≤ n = omega (arith, k.0, j.0) in
    let e = begun-right n names start b.here [] (all_ids c.names) log (are_later (length log.shapes) n b.here.scope l r.0) in
    let more : Building = record { here = x.0.0; fields = b.fields; offset = b.offset; mentions = also_all b.mentions (d.indicated_mentions s.0) } in
    let y = extends_joined log x.1 s.1 ((k-begun_names extending names start b.here [] (all_ids c.names) tt).at log) ((k-indic extending names level x.0.0 c.component tt keeps.extends).at x.1) in
    fields-count names more s.0 (all_ids c.names) x.0.1 s.1 j.1 (e, maybe-later (length log.shapes) n b.fields l r.1) (indic-right n names level x.0.0 c.component e x.1)
    (record { counts = counted-later log s.1 b.offset b.fields y r.1 counts.counts; numbers = are-numbered-later log s.1 b.fields y counts.numbers })

components-count : (names : Names) (level : Inside) (start : ℕ) (b : Building) (cs : List Comp) (log : Log) → KeepsBoth level → Sound log → IsBuilt (length log.shapes) b → Counts log b
    → Counts (d.components names level start b cs log).1 (d.components names level start b cs log).0
components-count names level start b [] log keeps h r counts = counts
components-count names level start b (c ∷ cs) log keeps h r counts =
    let x = d.component names level start b c log in
    let k = component-leaves names level start b c log keeps h r in
    components-count names level start x.0 cs x.1 keeps k.sound k.right (component-counts names level start b c log keeps h r counts)

-- ---- a record has at least one component

-- so many fields at least
abbrev AreMany : ℕ → Option (List Field) → Type 0
AreMany k None = Unit {0}
AreMany k (Some fs) = k ≤ length fs

many-less : (j k : ℕ) (fs : Option (List Field)) → j ≤ k → AreMany k fs → AreMany j fs
many-less j k None l h = tt
many-less j k (Some fs) l h = omega (arith, l, h)

many-more : (k : ℕ) (f : Field) (fs : Option (List Field)) → AreMany k fs → AreMany (suc k) (option_map (d.also_field f) fs)
many-more k f None h = tt
many-more k f (Some fs) h = omega (arith, h, length-append fs (f ∷ []))

field-many : (k : ℕ) (names : Names) (b : Building) (f : Option ℕ) (token : ℕ) (s : Option Indicated) (log : Log) → AreMany k b.fields → AreMany (suc k) (d.with_field names b f token s log).0.fields
field-many k names b None token s log h = tt
field-many k names b (Some t) token None log h = tt
field-many k names b (Some t) token (Some s) log h = many-more k _ b.fields h

fields-many : (k : ℕ) (names : Names) (b : Building) (s : Option Indicated) (ts : List ℕ) (fs : List (Option ℕ)) (log : Log) → AreMany k b.fields → AreMany k (d.with_fields names b s ts fs log).0.fields
fields-many k names b s [] fs log h = h
fields-many k names b s (t ∷ ts) [] log h = h
fields-many k names b s (t ∷ ts) (f ∷ fs) log h =
    let x = d.with_field names b f t s log in
    fields-many k names x.0 s ts fs x.1 (many-less k (suc k) x.0.fields (omega arith) (field-many k names b f t s log h))

-- each name has its own place among those that are free
begun-more : (names : Names) (start : ℕ) (here : Context) (made : List (Option ℕ)) (ts : List ℕ) (log : Log) → (more : List (Option ℕ)) × ((d.begun_names names start here made ts log).0.1 ≡ made ++ more)
begun-more names start here made [] log = ([], sym (append-nil made))
begun-more names start here made (t ∷ ts) log =
    let f = free names start here t log in
    let x = begun-more names start (hidden_where names here t f.0) (made ++ f.0 ∷ []) ts f.1 in
    (f.0 ∷ x.0, x.1 ∙ append_assoc made (f.0 ∷ []) x.0)

begun-some : (k : ℕ) (names : Names) (here : Context) (b : Building) (s : Option Indicated) (t : ℕ) (ts : List ℕ) (fs more : List (Option ℕ)) (f : Option ℕ) (log : Log) → fs ≡ f ∷ more → AreMany k b.fields
    → AreMany (suc k) (d.with_fields names b s (t ∷ ts) fs log).0.fields
begun-some k names here b s t ts fs more f log e h =
    let x = d.with_field names b f t s log in
    subst (λ y. AreMany (suc k) (d.with_fields names b s (t ∷ ts) y log).0.fields) (sym e) (fields-many (suc k) names x.0 s ts more x.1 (field-many k names b f t s log h))

component-many : (k : ℕ) (names : Names) (level : Inside) (start : ℕ) (b : Building) (c : Comp) (log : Log) → AreMany k b.fields → AreMany (suc k) (d.component names level start b c log).0.fields
component-many k names level start b c log h =
    let f = free names start b.here c.names.first log in
    let x = d.begun_names names start b.here [] (all_ids c.names) log in
    let m = begun-more names start (hidden_where names b.here c.names.first f.0) (f.0 ∷ []) c.names.more f.1 in
    let s = d.indic names level x.0.0 c.component x.1 in
    begun-some k names x.0.0 (record { here = x.0.0; fields = b.fields; offset = b.offset; mentions = also_all b.mentions (d.indicated_mentions s.0) }) s.0 c.names.first c.names.more x.0.1 m.0 f.0 s.1 m.1 h

components-many : (k : ℕ) (names : Names) (level : Inside) (start : ℕ) (b : Building) (cs : List Comp) (log : Log) → AreMany k b.fields → AreMany k (d.components names level start b cs log).0.fields
components-many k names level start b [] log h = h
components-many k names level start b (c ∷ cs) log h =
    let x = d.component names level start b c log in
    components-many k names level start x.0 cs x.1 (many-less k (suc k) x.0.fields (omega arith) (component-many k names level start b c log h))

record-many : (names : Names) (level : Inside) (start : ℕ) (b : Building) (c : Comp) (cs : List Comp) (log : Log) → AreMany 0 b.fields → AreMany 1 (d.components names level start b (c ∷ cs) log).0.fields
record-many names level start b c cs log h =
    let x = d.component names level start b c log in
    components-many 1 names level start x.0 cs x.1 (component-many 0 names level start b c log h)

written-leaves : (b : Building) (fs : Option (List Field)) (log : Log) → Sound log → AreBefore (length log.shapes) fs → (AllValues log.shapes → AreCounted log.shapes b.offset fs) → AreNumbered log.shapes fs → AreMany 1 fs
    → Leaves IsIndicated log (given fs (d.record_written b.offset b.mentions) log)
written-leaves b None log h r c m k = record { longer = omega arith; sound = h; right = tt }
written-leaves b (Some fs) log h r c m k =
    let l = longer_shapes (shape.Record fs b.offset) log.shapes in
    record {
      longer = subst (λ n. length log.shapes ≤ n) (sym l) (omega arith);
      sound = more_shapes (shape.Record fs b.offset) log h r (λ v w. (c v).0) (omega (arith, k), m) (λ v. (c v).1);
      right = subst (λ n. length log.shapes < n) (sym l) (omega arith);
    }

record-leaves : (names : Names) (level : Inside) (here : Context) (x : Comp) (xs : List Comp) (log : Log) → KeepsBoth level → Sound log → AreRight (length log.shapes) here.scope
    → Leaves IsIndicated log (d.record_of names level here (x ∷ xs) log)
unfolding d.record_of
record-leaves names level here x xs log keeps h r =
    let cs = x ∷ xs in
    let start : Building = record { here = here; fields = Some []; offset = 0; mentions = part.Nothing } in
    let b = d.components names level (length here.scope) start cs log in
    let k = components-leaves names level (length here.scope) start cs log keeps h (r, tt) in
    let c = components-count names level (length here.scope) start cs log keeps h (r, tt) (record { counts = λ v. (refl, tt); numbers = tt }) in
    let m = record-many names level (length here.scope) start x xs log (omega arith) in
    next-leaves IsIndicated log b.1 (given b.0.fields (d.record_written b.0.offset b.0.mentions) b.1) k.longer (written-leaves b.0 b.0.fields b.1 k.sound k.right.1 c.counts c.numbers m)

-- ---- types

own-right : (n token first last : ℕ) (x : TypedPart) (a z : Option ℤ) (log : Log) → IsIndicated n (option_map (indicated x) (both a z (d.own_type token first last) log).0)
own-right n token first last x None z log = tt
own-right n token first last x (Some a) None log = tt
own-right n token first last x (Some a) (Some z) log = by (in_base (kind.Own token) a && in_base (kind.Own token) z && int_le a z) (last-true (in_base (kind.Own token) a) (in_base (kind.Own token) z) (int_le a z)) (unless (int_le a z) first StaticRange (unless (in_base (kind.Own token) z) last StaticRange (unless (in_base (kind.Own token) a) first StaticRange log).1).1).1
  where
    by : (b : Bool) → (b ≡ true → int_le a z ≡ true) → (log : Log) → IsIndicated n (option_map (indicated x) ((if b then some (subtype.Scalar (record { kind = kind.Own token; low = a; high = z })) else pure None) log).0)
    by true h log = h refl
    by false h log = tt

range-type : (names : Names) (level : Inside) (here : Context) (token : ℕ) (low high : Simple) (log : Log) → KeepsBoth level → Sound log
    → Leaves IsIndicated log ((two_bounds level here low high >>= d.own_type_of token) log)
range-type names level here token low high log keeps h =
    let r = two_bounds level here low high log in
    let k = now log (two_bounds level here low high) (k-two_bounds (minding 0) level here low high keeps.minds) h in
    let j = now r.1 (d.own_type_of token r.0) (k-own_type_of (minding 0) token r.0) k.1 in
    let a = given r.0.0 d.static_number r.1 in
    let z = given r.0.1 d.static_number a.1 in
    record {
      longer = omega (arith, k.0, j.0);
      sound = j.1;
      right = own-right _ token (d.first_or r.0.0) (d.first_or r.0.1) (also_all (d.found_mentions r.0.0) (d.found_mentions r.0.1)) a.0 z.0 z.1;
    }

modular-right : (n token first : ℕ) (x : TypedPart) (m : Option ℤ) (log : Log) → IsIndicated n (option_map (indicated x) (given m (λ z. d.modular_by token first (d.exponent_from 64 1 z)) log).0)
modular-right n token first x None log = tt
modular-right n token first x (Some z) log = by (d.exponent_from 64 1 z)
  where
    at_least : (k : ℕ) → int_le (turned (pos 0)) (turned (turned (pos (modulus k - 1)))) ≡ true
    at_least k = ap (λ y. int_le (pos 0) y) (turned_twice (pos (modulus k - 1))) ∙ le-leb 0 (modulus k - 1) (omega arith)

    by : (k : Option ℕ) → IsIndicated n (option_map (indicated x) (d.modular_by token first k log).0)
    by None = tt
    by (Some k) = at_least k

modular-type : (names : Names) (level : Inside) (here : Context) (token : ℕ) (m : Simple) (log : Log) → KeepsBoth level → Sound log
    → Leaves IsIndicated log ((simple level here wanted.Other m >>= λ x. given x (d.modular_type token)) log)
modular-type names level here token m log keeps h =
    let r = simple level here wanted.Other m log in
    let k = now log (simple level here wanted.Other m) (k-simple (minding 0) level here wanted.Other m keeps.minds) h in
    next-leaves IsIndicated log r.1 (given r.0 (d.modular_type token) r.1) k.0 (by r.0 r.1 k.1)
  where
    by : (x : Option Found) (log : Log) → Sound log → Leaves IsIndicated log (given x (d.modular_type token) log)
    by None log h = none-leaves log h
    by (Some f) log h =
        let v = d.static_number f log in
        let k = now log (d.static_number f) (k-static_number (minding 0) f) h in
        let w = given v.0 (λ z. d.modular_by token (first_of f.known) (d.exponent_from 64 1 z)) v.1 in
        let j = now v.1 (given v.0 (λ z. d.modular_by token (first_of f.known) (d.exponent_from 64 1 z))) (k-given (minding 0) v.0 (λ z. d.modular_by token (first_of f.known) (d.exponent_from 64 1 z)) (λ z. k-modular_by (minding 0) token (first_of f.known) (d.exponent_from 64 1 z))) k.1 in
        record {
          longer = omega (arith, k.0, j.0);
          sound = j.1;
          right = modular-right (length w.1.shapes) token (first_of f.known) (mentions_of f) v.0 v.1;
        }

defined-leaves : (names : Names) (level : Inside) (here : Context) (token : ℕ) (x : Definition) (log : Log) → KeepsBoth level → Sound log → AreRight (length log.shapes) here.scope
    → Leaves IsIndicated log (d.defined names level here token x log)
unfolding d.defined
defined-leaves names level here token (syntax.ModularType m) log keeps h r = modular-type names level here token m log keeps h
defined-leaves names level here token (syntax.RangeType low high) log keeps h r = range-type names level here token low high log keeps h
defined-leaves names level here token (syntax.ArrayType a) log keeps h r = array-leaves names level here a log keeps.minds keeps.named h r
defined-leaves names level here token (syntax.RecordType c cs) log keeps h r = record-leaves names level here c cs log keeps h r

-- ---- objects

-- what is around those behind
abbrev pub IsAround : {B : Type 0} → ℕ → Context × B → Type 0
IsAround n c = AreRight n c.0.scope

object-written : (names : Names) (here : Context) (token n cells : ℕ) (constant : Bool) (value : Option ℤ) (log : Log) (b : Bool) → Sound log → n < length log.shapes
    → (b ≡ true → AllValues log.shapes → cells ≡ cells_of (table_of log.shapes) n)
    → (length log.shapes ≤ length ((if b then (d.object_written names here token n cells constant value >>= λ m. some m) else pure None) log).1.shapes) × Sound ((if b then (d.object_written names here token n cells constant value >>= λ m. some m) else pure None) log).1
object-written names here token n cells constant value log true h l c = (omega arith, more_objects _ log h l (c refl))
object-written names here token n cells constant value log false h l c = (omega arith, h)

cells-same : (a b : Log) (s : Subtype) → Extends a b → IsRight (length a.shapes) s → cells_in a s ≡ cells_in b s
cells-same a b (subtype.Scalar s) x r = refl
cells-same a b (subtype.Composite n) x r =
    let t = slice_get-get_or a.shapes n (shape.Record [] 0) r in
    ap cells_of_shape t ∙ sym (ap cells_of_shape (shape_later a b x n _ t))

both-true : (a b : Bool) → a && b ≡ true → b ≡ true
both-true true b e = e
both-true false b e = absurd (true≢false (sym e))

few-cells : (all cells : ℕ) → nat_le (saturated (all + cells)) most_cells ≡ true → cells ≤ most_cells
few-cells all cells e = omega (arith, leb-true (saturated (all + cells)) most_cells e)

pub object-sound : (names : Names) (here : Context) (token : ℕ) (s : Subtype) (constant : Bool) (value : Option ℤ) (log : Log) → Sound log → IsRight (length log.shapes) s
    → (length log.shapes ≤ length (d.new_object names here token s constant value log).1.shapes) × Sound (d.new_object names here token s constant value log).1
unfolding d.new_object
object-sound names here token s constant value log h r =
    let cells = cells_in log s in
    let c = d.cells_counted token cells log in
    let k = now log (d.cells_counted token cells) (k-cells_counted (minding 0) token cells) h in
    let m = number_of s c.1 in
    let j = now c.1 (number_of s) (k-number_of (minding 0) s) k.1 in
    let q = right_later (length log.shapes) (length m.1.shapes) s (omega (arith, k.0, j.0)) r in
    let y = extends_joined log c.1 m.1 ((k-cells_counted extending token cells).at log) ((k-number_of extending s).at c.1) in
    let count : c.0 ≡ true → AllValues m.1.shapes → cells ≡ cells_of (table_of m.1.shapes) m.0 =
    λ e v. let few = few-cells log.cells cells (both-true (nat_lt log.declared most_objects) (nat_le (saturated (log.cells + cells)) most_cells) e) in
    let same : cells ≡ saturated (cells_of (table_of m.1.shapes) m.0) = cells-same log m.1 s y r ∙ number_counted s m.0 m.1 j.1 q (is_number s c.1) v in
    same ∙ saturated_least (cells_of (table_of m.1.shapes) m.0) (subst (λ n. n ≤ most_cells) same few) in
    let x = object-written names here token m.0 cells constant value m.1 c.0 j.1 (number_within s m.0 m.1 q (is_number s c.1)) count in
    (omega (arith, k.0, j.0, x.0), x.1)

object-ended : (n : ℕ) (names : Names) (here : Context) (token : ℕ) (f : Option ℕ) (constant : Bool) (s : Indicated) (v : Initial) (made : Option TypedPart) (m : Option ℕ) → AreRight n here.scope
    → AreRight n (d.object_ended names here token f constant s v made m).0.scope
object-ended n names here token f constant s v made None h = ended-right n names here f None h tt
object-ended n names here token f constant s v made (Some m) h = ended-right n names here f (Some (what.Object m s.known (not constant) (d.constant_value constant s.known v))) h tt

pub counted-leaves : {B : Type 0} (names : Names) (here : Context) (f : Option ℕ) (token : ℕ) (x : B) (log : Log) → Sound log → AreRight (length log.shapes) here.scope
    → Leaves IsAround log ((d.ended_name names here f None, x), (d.cells_counted token 0 log).1)
counted-leaves names here f token x log h r =
    let k = now log (d.cells_counted token 0) (k-cells_counted (minding 0) token 0) h in
    record { longer = k.0; sound = k.1; right = ended-right _ names here f None (are_later _ _ here.scope k.0 r) tt }

one-object : (names : Names) (here : Context) (token : ℕ) (f : Option ℕ) (constant : Bool) (made : Option TypedPart) (s : Option Indicated) (v : Option Initial) (log : Log) → Sound log → AreRight (length log.shapes) here.scope → IsIndicated (length log.shapes) s
    → Leaves IsAround log (d.one_object names here token f constant made s v log)
one-object names here token f constant made (Some s) (Some v) log h r i =
    let x = d.new_object names here token s.known constant (d.constant_value constant s.known v) log in
    let k = object-sound names here token s.known constant (d.constant_value constant s.known v) log h i in
    record { longer = k.0; sound = k.1; right = object-ended _ names here token f constant s v made x.0 (are_later _ _ here.scope k.0 r) }
one-object names here token f constant made (Some s) None log h r i = counted-leaves names here f token None log h r
one-object names here token f constant made None v log h r i = counted-leaves names here f token None log h r

typed-leaves : (names : Names) (level : Inside) (here : Context) (t : ObjectType) (log : Log) → KeepsBoth level → Sound log → AreRight (length log.shapes) here.scope
    → Leaves IsIndicated log (d.typed_object names level here t log)
typed-leaves names level here (syntax.Indicated i) log keeps h r =
    let k = now log (d.indic names level here i) (k-indic (minding 0) names level here i tt keeps.minds) h in
    record { longer = k.0; sound = k.1; right = indic-right _ names level here i (are_later _ _ here.scope k.0 r) log }
typed-leaves names level here (syntax.Anonymous a) log keeps h r = array-leaves names level here a log keeps.minds keeps.named h r

pub around-leaves : {B : Type 0} (here : Context) (x : B) (log : Log) → Sound log → AreRight (length log.shapes) here.scope → Leaves IsAround log ((here, x), log)
around-leaves here x log h r = record { longer = omega arith; sound = h; right = r }

each-object : (names : Names) (level : Inside) (inner here : Context) (constant : Bool) (first : ℕ) (t : ObjectType) (e : Option Expr) (made : Option TypedPart) (is : List ℕ) (fs : List (Option ℕ)) (log : Log)
    → KeepsBoth level → Sound log → AreRight (length log.shapes) inner.scope → AreRight (length log.shapes) here.scope
    → Leaves IsAround log (d.each_object names level inner here constant first t e made is fs log)
each-object names level inner here constant first t e made [] fs log keeps h i r = around-leaves here made log h r
each-object names level inner here constant first t e made (x ∷ is) [] log keeps h i r = around-leaves here made log h r
each-object names level inner here constant first t e made (x ∷ is) (f ∷ fs) log keeps h i r =
    let s = d.typed_object names level inner t log in
    let k = typed-leaves names level inner t log keeps h i in
    let v = d.initial names level inner s.0 e s.1 in
    let j = now s.1 (d.initial names level inner s.0 e) (k-initial (minding 0) names level inner s.0 e tt keeps.minds) k.sound in
    let u = d.valued_constant first constant s.0 e v.1 in
    let q = now v.1 (d.valued_constant first constant s.0 e) (k-valued_constant (minding 0) first constant s.0 e) j.1 in
    let l : length s.1.shapes ≤ length u.1.shapes = omega (arith, j.0, q.0) in
    let m : length log.shapes ≤ length u.1.shapes = omega (arith, k.longer, l) in
    let o = d.one_object names here x f constant made s.0 v.0 u.1 in
    let y = one-object names here x f constant made s.0 v.0 u.1 q.1 (are_later _ _ here.scope m r) (indicated-later _ _ s.0 l k.right) in
    let z : length log.shapes ≤ length o.1.shapes = omega (arith, m, y.longer) in
    next-leaves IsAround log o.1 (d.each_object names level inner o.0.0 constant first t e o.0.1 is fs o.1) z
    (each-object names level inner o.0.0 constant first t e o.0.1 is fs o.1 keeps y.sound (are_later _ _ inner.scope z i) y.right)

objects-leaves : (names : Names) (level : Inside) (start : ℕ) (here : Context) (made : Option TypedPart) (is : Ids) (constant : Bool) (t : ObjectType) (e : Option Expr) (log : Log)
    → KeepsBoth level → Sound log → AreRight (length log.shapes) here.scope → Leaves IsAround log (d.objects names level start here made is constant t e log)
unfolding d.objects
objects-leaves names level start here made is constant t e log keeps h r =
    let x = d.begun_names names start here [] (all_ids is) log in
    let k = now log (d.begun_names names start here [] (all_ids is)) (k-begun_names (minding 0) names start here [] (all_ids is) tt) h in
    let a = begun-right (length x.1.shapes) names start here [] (all_ids is) log (are_later _ _ here.scope k.0 r) in
    next-leaves IsAround log x.1 (d.each_object names level x.0.0 x.0.0 constant is.first t e made (all_ids is) x.0.1 x.1) k.0
    (each-object names level x.0.0 x.0.0 constant is.first t e made (all_ids is) x.0.1 x.1 keeps k.1 a a)

-- ---- named numbers and exceptions

all-ended : (n : ℕ) (names : Names) (here : Context) (w : Option What) (fs : List (Option ℕ)) → AreRight n here.scope → IsRightMaybe n w → AreRight n (d.all_ended names here w fs).scope
all-ended n names here w [] h k = h
all-ended n names here w (f ∷ fs) h k = all-ended n names (d.ended_name names here f w) w fs (ended-right n names here f w h k) k

number-right : (n : ℕ) (v : Option ℤ) → IsRightMaybe n (option_map what.Number v)
number-right n None = tt
number-right n (Some z) = tt

numbers-leaves : (names : Names) (level : Inside) (start : ℕ) (here : Context) (made : Option TypedPart) (is : Ids) (e : Expr) (log : Log)
    → KeepsBoth level → Sound log → AreRight (length log.shapes) here.scope → Leaves IsAround log (d.numbers names level start here made is e log)
unfolding d.numbers
numbers-leaves names level start here made is e log keeps h r =
    let k = now log (d.numbers names level start here made is e) (k-numbers (minding 0) names level start here made is e tt keeps.minds) h in
    let x = d.begun_names names start here [] (all_ids is) log in
    let f = expr names level x.0.0 wanted.Other e x.1 in
    let v = given f.0 d.static_number f.1 in
    record {
      longer = k.0;
      sound = k.1;
      right = all-ended _ names x.0.0 (option_map what.Number v.0) x.0.1 (begun-right _ names start here [] (all_ids is) log (are_later _ _ here.scope k.0 r)) (number-right _ v.0);
    }

each-exception : (n : ℕ) (names : Names) (here : Context) (ts : List ℕ) (fs : List (Option ℕ)) (log : Log) → AreRight n here.scope → AreRight n (d.each_exception names here ts fs log).0.scope
each-exception n names here [] fs log h = h
each-exception n names here (t ∷ ts) [] log h = h
each-exception n names here (t ∷ ts) (f ∷ fs) log h =
    let x = d.new_exception t log in
    let w = Some (what.Exception (reason.Declared x.0)) in
    each-exception n names (d.ended_name names here f w) ts fs x.1 (ended-right n names here f w h tt)

exceptions-leaves : (names : Names) (start : ℕ) (here : Context) (made : Option TypedPart) (is : Ids) (log : Log) → Sound log → AreRight (length log.shapes) here.scope
    → (let r = d.begun_names names start here [] (all_ids is) log in let c = d.each_exception names r.0.0 (all_ids is) r.0.1 r.1 in Leaves IsAround log ((c.0, made), c.1))
exceptions-leaves names start here made is log h r =
    let x = d.begun_names names start here [] (all_ids is) log in
    let k = now log (d.begun_names names start here [] (all_ids is)) (k-begun_names (minding 0) names start here [] (all_ids is) tt) h in
    let j = now x.1 (d.each_exception names x.0.0 (all_ids is) x.0.1) (k-each_exception (minding 0) names x.0.0 (all_ids is) x.0.1 tt) k.1 in
    let c = d.each_exception names x.0.0 (all_ids is) x.0.1 x.1 in
    let l : length log.shapes ≤ length c.1.shapes = omega (arith, k.0, j.0) in
    record { longer = l; sound = j.1; right = each-exception _ names x.0.0 (all_ids is) x.0.1 x.1 (begun-right _ names start here [] (all_ids is) log (are_later _ _ here.scope l r)) }

-- ---- declarations

type-what : (n : ℕ) (s : Option Indicated) → IsIndicated n s → IsRightMaybe n (option_map (λ t. what.Type t.known) s)
type-what n None h = tt
type-what n (Some s) h = h

type-leaves : (names : Names) (here : Context) (made : Option TypedPart) (f : Option ℕ) (log : Log) (s : Option Indicated × Log) → AreRight (length log.shapes) here.scope → Leaves IsIndicated log s
    → Leaves IsAround log (d.one_type names here made f s.0, s.1)
type-leaves names here made f log s r h = record {
  longer = h.longer;
  sound = h.sound;
  right = ended-right _ names here f (option_map (λ t. what.Type t.known) s.0) (are_later _ _ here.scope h.longer r) (type-what _ s.0 h.right);
}

pub declaration-leaves : (names : Names) (level : Inside) (start : ℕ) (here : Context) (made : Option TypedPart) (x : Decl) (log : Log)
    → KeepsBoth level → Sound log → AreRight (length log.shapes) here.scope → Leaves IsAround log (d.declaration names level start here made x log)
unfolding d.declaration
declaration-leaves names level start here made (syntax.ObjectDecl is constant t e) log keeps h r = objects-leaves names level start here made is (is_some constant) t e log keeps h r
declaration-leaves names level start here made (syntax.NumberDecl is at e) log keeps h r = numbers-leaves names level start here made is e log keeps h r
declaration-leaves names level start here made (syntax.ExceptionDecl is) log keeps h r = exceptions-leaves names start here made is log h r
declaration-leaves names level start here made (syntax.TypeDecl at token x) log keeps h r =
    let f = free names start here token log in
    let k = now log (free names start here token) (k-free (minding 0) names start here token tt) h in
    let c = hidden_where names here token f.0 in
    let a = hidden-right _ names here token f.0 (are_later _ _ here.scope k.0 r) in
    let s = d.defined names level c token x f.1 in
    next-leaves IsAround log f.1 (d.one_type names c made f.0 s.0, s.1) k.0 (type-leaves names c made f.0 f.1 s a (defined-leaves names level c token x f.1 keeps k.1 a))
declaration-leaves names level start here made (syntax.SubtypeDecl at token i) log keeps h r =
    let f = free names start here token log in
    let k = now log (free names start here token) (k-free (minding 0) names start here token tt) h in
    let c = hidden_where names here token f.0 in
    let a = hidden-right _ names here token f.0 (are_later _ _ here.scope k.0 r) in
    let s = d.indic names level c i f.1 in
    let j = now f.1 (d.indic names level c i) (k-indic (minding 0) names level c i tt keeps.minds) k.1 in
    next-leaves IsAround log f.1 (d.one_type names c made f.0 s.0, s.1) k.0
    (type-leaves names c made f.0 f.1 s a (record { longer = j.0; sound = j.1; right = indic-right _ names level c i (are_later _ _ c.scope j.0 a) f.1 }))

pub declarations-leaves : (names : Names) (level : Inside) (start : ℕ) (here : Context) (made : Option TypedPart) (ds : List Decl) (log : Log)
    → KeepsBoth level → Sound log → AreRight (length log.shapes) here.scope → Leaves IsAround log (d.declarations names level start here made ds log)
declarations-leaves names level start here made [] log keeps h r = around-leaves here made log h r
declarations-leaves names level start here made (x ∷ ds) log keeps h r =
    let y = d.declaration names level start here made x log in
    let k = declaration-leaves names level start here made x log keeps h r in
    next-leaves IsAround log y.1 (d.declarations names level start y.0.0 y.0.1 ds y.1) k.longer (declarations-leaves names level start y.0.0 y.0.1 ds y.1 keeps k.sound k.right)
