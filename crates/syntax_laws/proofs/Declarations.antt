-- The readers of declarations are exact at each level.
use Rattle.std.proofs.Common.{◌≡◌, ℕ, zero, suc, ◌+◌, ◌<◌, ◌≤◌, List, [], ◌∷◌, true, false, Option, Some, None, inl, inr, refl, sym, append-nil, arith}
use Rattle.ada_base.specs.Symbols.{Symbol, Word}
use Rattle.ada_base.specs.Languages.{Language, Leaf, Quoted, Then, Or, Pure, Image, ◌⋅◌, Begins}
use Rattle.syntax_readers.specs.Readers.{symbol}
use Rattle.syntax_readers.specs.Sets.{Sets, one_kind}
use Rattle.syntax_readers.specs.Exact.{Rule}
use Rattle.syntax_readers.proofs.Depths.{exact_too_deep}
use Rattle.syntax_readers.proofs.Rules.{read, give, seq, or, to, is}
use Rattle.syntax_readers.proofs.Chains.{items, list_grows}
use Rattle.syntax_readers.proofs.Forms.{from, to_left, to_right, without_before, without_after, at_second, either, form, keep, skip, lead, last}
use Rattle.syntax_readers.proofs.Samples.{sample_free, sample_none, sample_both, sample_leaf, kind_is, first_free, begins_free, sample_of}
use Rattle.ada_base.specs.Kinds as kind
use Rattle.syntax_tree.specs.Syntax.{Expr, Simple, Whole, Ids, Indic, Mark, RangeMark, Array, Comp, ObjectType, Indicated, Anonymous, Definition, RangeType, ArrayType, RecordType, Decl, ObjectDecl, NumberDecl, ExceptionDecl, TypeDecl, SubtypeDecl, ModularType}
use Rattle.syntax_tree.specs.Patterns.{Spelling, free, each_of, each_of_after, optional_of_after, ◌then◌}
use Rattle.syntax_tree.specs.Productions as spell
use Rattle.syntax_grammar.specs.Levels.{levels}
use Rattle.syntax_grammar.specs.Read.{Indexes}
use Rattle.syntax_grammar.specs.Expressions as base
use Rattle.syntax_grammar.specs.Brackets as brackets
use Rattle.syntax_grammar.specs.Declarations as reader
use Rattle.syntax_grammar.specs.Declarations.{decl_kinds}
use Rattle.syntax_laws.proofs.Words.{Words, After, maybe_after, each_listed, each_after_listed}
use Rattle.syntax_laws.proofs.Bares.{name_for, alone_identifier}
use Rattle.syntax_laws.proofs.Openings.{Opening, round_sets, simple_sets, expr_sets}
use Rattle.syntax_laws.proofs.Sums.{rule_simple}
use Rattle.syntax_laws.proofs.Relations.{rule_expr}
use Rattle.syntax_laws.proofs.Associations as association
use Rattle.syntax_laws.proofs.Associations.{range_sets}
use Rattle.syntax_laws.proofs.Levels.{opening_at}
use Rattle.syntax_laws.proofs.Formals.{ids_sets, rule_ids}

-- the index ranges of an array in their brackets
abbrev pub spelled_indexes : Indexes → Spelling
spelled_indexes x = spell.in_round (spell.range x.first then each_of_after (free kind.comma) spell.range x.more)

abbrev pub indic_sets : Sets
indic_sets = record { first = kind.identifier ∷ []; nullable = false; follow_last = kind.range_word ∷ simple_sets.follow_last }

abbrev pub decl_sets : Sets
decl_sets = record { first = decl_kinds; nullable = false; follow_last = [] }

-- ---- index ranges

module _ (limit n depth : ℕ) (levelled : n + suc depth ≡ limit) where
  inner : (k : ℕ) → Rule limit (one_kind k) (Leaf (suc depth) k) (symbol k)
  inner k = read limit (suc depth) (omega (arith, levelled)) k

  range : Rule limit range_sets (Words spell.range (suc depth)) (brackets.range (levels n))
  range = association.rule_range limit (suc depth) (omega (arith, levelled)) (levels n) (opening_at limit n (suc depth) levelled)

  rule_next_index : Rule limit (record { first = kind.comma ∷ []; nullable = false; follow_last = range_sets.follow_last }) (After kind.comma spell.range (suc depth)) (reader.next_index n)
  unfolding reader.next_index
  rule_next_index = is _ (After kind.comma spell.range (suc depth)) (lead (inner kind.comma) range refl) (λ x w l. l) (λ x w l. l) refl

  rule_open_indexes : Rule limit round_sets (Words spelled_indexes depth) (reader.open_indexes n)
  unfolding reader.open_indexes
  rule_open_indexes =
      is round_sets (Words spelled_indexes depth)
      (skip (inner kind.open_round) (keep range (λ r. keep (items (kind.comma ∷ []) (each_after_listed spell.range (suc depth) kind.comma) list_grows rule_next_index refl refl refl refl) (λ rs.
      last (let x : Indexes = record { first = r; more = rs } in x) (inner kind.close_round)) refl) refl) refl)
      (form (Words spelled_indexes depth) (λ b w l. at_second {L = Quoted (suc depth) kind.open_round} (λ v m. to_left m) l))
      (λ x w l. ((x.first, (x.more, tt)), refl, at_second {L = Quoted (suc depth) kind.open_round} (λ v m. to_right m) l)) refl

indexes_begin : (depth : ℕ) (t : Symbol) → kind.open_round ≡ t.kind → Begins (Words spelled_indexes depth) (t ∷ [])
unfolding spell.expr
indexes_begin depth t is_kind =
    begins_free (suc depth) kind.open_round t is_kind (λ (b : (ℕ × Unit {0}) × Unit {0}). let x : Indexes = record { first = Whole (name_for b.0.0); more = [] } in x)
    (λ b w l. at_second {L = Quoted (suc depth) kind.open_round} (λ v m. let (u1, v1, e1, (u2, v2, e2, i, none), c) = m in (u1, v1, e1, (u2, v2, e2, alone_identifier (suc depth) b.0.0 u2 i, none), c)) l)
    (sample_both (sample_both (sample_leaf (suc depth) kind.identifier) sample_none) (sample_free (suc depth) kind.close_round))

rule_indexes : (limit n depth : ℕ) → n + depth ≡ limit → Rule limit round_sets (Words spelled_indexes depth) (reader.indexes n)
unfolding reader.indexes
rule_indexes limit zero depth e =
    let over : limit < suc depth = omega (arith, e) in record {
      exact = exact_too_deep round_sets (Words spelled_indexes depth) (λ x w l. first_free limit (suc depth) (kind.open_round ∷ []) kind.open_round w over refl l) (λ t h. indexes_begin depth t (kind_is t kind.open_round h)) refl;
      sample = sample_of (Words spelled_indexes depth) kind.open_round (indexes_begin depth);
    }
rule_indexes limit (suc n) depth e = rule_open_indexes limit n depth (omega (arith, e))

module _ (limit n depth : ℕ) (levelled : n + depth ≡ limit) where
  within : depth ≤ limit
  within = omega (arith, levelled)

  below : Opening limit depth (levels n)
  below = opening_at limit n depth levelled

  one : (k : ℕ) → Rule limit (one_kind k) (Leaf depth k) (symbol k)
  one k = read limit depth within k

  expr : Rule limit expr_sets (Words spell.expr depth) (base.expr (levels n))
  expr = rule_expr limit depth within (levels n) below

  ids : Rule limit ids_sets (Words spell.ids depth) reader.ids
  ids = rule_ids limit depth within

  abbrev Constraint : Simple × Simple → Language
  Constraint = association.Constraint limit depth within (levels n) below

  constraint : Rule limit (record { first = kind.range_word ∷ []; nullable = false; follow_last = simple_sets.follow_last }) Constraint (brackets.constraint (levels n))
  constraint = association.rule_constraint limit depth within (levels n) below

  -- ---- subtypes and arrays

  abbrev IndicFrom : ℕ → Indic → Language
  IndicFrom m = Or (Image (λ (b : Simple × Simple). RangeMark m b.0 b.1) Constraint) (Pure (Mark m))

  rule_indic_from : (m : ℕ) → Rule limit (record { first = kind.range_word ∷ []; nullable = true; follow_last = kind.range_word ∷ simple_sets.follow_last }) (IndicFrom m) (reader.indic_from n m)
  unfolding reader.indic_from
  rule_indic_from m =
      is _ (IndicFrom m) (or (kind.range_word ∷ []) (to (λ (b : Simple × Simple). RangeMark m b.0 b.1) constraint) (give (Mark m)).exact refl refl refl) (λ x w l. l) (λ x w l. l) refl

  join_indic : (x : Indic) (w : Word) → Then (Leaf depth kind.identifier) IndicFrom x w → Words spell.indic depth x w
  join_indic x w (m, u, v, e, i, inl (b, eq, k)) = from (Words spell.indic depth) eq (u, v, e, i, k)
  join_indic x w (m, u, v, e, i, inr (eq, none)) = from (Words spell.indic depth) eq (without_after {L = Leaf depth kind.identifier m} (u, v, e, i, none))

  split_indic : (x : Indic) (w : Word) → Words spell.indic depth x w → Then (Leaf depth kind.identifier) IndicFrom x w
  split_indic (Mark m) w i = (m, w, [], sym (append-nil w), i, inr (refl, refl))
  split_indic (RangeMark m low high) w (u, v, e, i, k) = (m, u, v, e, i, inl ((low, high), refl, k))

  rule_indic : Rule limit indic_sets (Words spell.indic depth) (reader.indic n)
  unfolding reader.indic
  rule_indic = is indic_sets (Words spell.indic depth) (seq (one kind.identifier) rule_indic_from refl) join_indic split_indic refl

  rule_array : Rule limit (record { first = kind.array_word ∷ []; nullable = false; follow_last = indic_sets.follow_last }) (Words spell.array depth) (reader.array n)
  unfolding reader.array
  rule_array =
      is _ (Words spell.array depth)
      (keep (one kind.array_word) (λ at. keep (rule_indexes limit n depth levelled) (λ rs. skip (one kind.of_word) (to (λ i. let x : Array = record { at = at; first = rs.first; more = rs.more; component = i } in x) rule_indic) refl) refl) refl)
      (form (Words spell.array depth) (λ b w l. l)) (λ x w l. ((x.at, (record { first = x.first; more = x.more }, x.component)), refl, l)) refl

  -- ---- types

  rule_comp : Rule limit (record { first = kind.identifier ∷ []; nullable = false; follow_last = [] }) (Words spell.comp depth) (reader.comp n)
  unfolding reader.comp
  rule_comp =
      is _ (Words spell.comp depth)
      (keep ids (λ ns. skip (one kind.colon) (keep rule_indic (λ i. last (let x : Comp = record { names = ns; component = i } in x) (one kind.semicolon)) refl) refl) refl)
      (form (Words spell.comp depth) (λ b w l. l)) (λ x w l. ((x.names, (x.component, tt)), refl, l)) refl

  abbrev RecordWords : Definition → Language
  RecordWords =
      Image (λ (b : Comp × (List Comp × Unit {0})). RecordType b.0 b.1.0)
      (λ b. Quoted depth kind.record_word ⋅ (Words spell.comp depth b.0 ⋅ (Words (each_of spell.comp) depth b.1.0 ⋅ (Quoted depth kind.end_word ⋅ Quoted depth kind.record_word))))

  rule_record : Rule limit (one_kind kind.record_word) RecordWords (reader.record_type n)
  unfolding reader.record_type
  rule_record =
      is (one_kind kind.record_word) RecordWords
      (skip (one kind.record_word) (keep rule_comp (λ c. keep (items (kind.identifier ∷ []) (each_listed spell.comp depth) list_grows rule_comp refl refl refl refl) (λ cs.
      skip (one kind.end_word) (last (RecordType c cs) (one kind.record_word)) refl) refl) refl) refl)
      (λ x w l. l) (λ x w l. l) refl

  simple : Rule limit simple_sets (Words spell.simple depth) (base.simple (levels n))
  simple = rule_simple limit depth within (levels n) below

  abbrev ModularWords : Definition → Language
  ModularWords = Image ModularType (λ m. Quoted depth kind.mod_word ⋅ Words spell.simple depth m)

  rule_modular : Rule limit (record { first = kind.mod_word ∷ []; nullable = false; follow_last = simple_sets.follow_last }) ModularWords (reader.modular_type n)
  unfolding reader.modular_type
  rule_modular = is _ ModularWords (skip (one kind.mod_word) (to ModularType simple) refl) (λ x w l. l) (λ x w l. l) refl

  split_definition : (x : Definition) (w : Word) → Words spell.definition depth x w
      → Or (Image (λ (b : Simple × Simple). RangeType b.0 b.1) Constraint) (Or ModularWords (Or (Image ArrayType (Words spell.array depth)) RecordWords)) x w
  split_definition (RangeType low high) w l = inl ((low, high), refl, l)
  split_definition (ModularType m) w l = inr (inl (m, refl, l))
  split_definition (ArrayType a) w l = inr (inr (inl (a, refl, l)))
  split_definition (RecordType c cs) w l = inr (inr (inr ((c, (cs, tt)), refl, l)))

  rule_definition : Rule limit (record { first = kind.range_word ∷ kind.mod_word ∷ kind.array_word ∷ kind.record_word ∷ []; nullable = false; follow_last = indic_sets.follow_last }) (Words spell.definition depth) (reader.definition n)
  unfolding reader.definition
  rule_definition =
      is _ (Words spell.definition depth)
      (or (kind.range_word ∷ []) (to (λ (b : Simple × Simple). RangeType b.0 b.1) constraint) (or (kind.mod_word ∷ []) rule_modular (or (kind.array_word ∷ []) (to ArrayType rule_array) rule_record.exact refl refl refl).exact refl refl refl).exact refl refl refl)
      (either (form (Words spell.definition depth) (λ b w l. l)) (either (form (Words spell.definition depth) (λ b w l. l)) (either (form (Words spell.definition depth) (λ b w l. l)) (form (Words spell.definition depth) (λ b w l. l))))) split_definition refl

  abbrev TypeWords : Decl → Language
  TypeWords =
      Image (λ (b : ℕ × (ℕ × (Definition × Unit {0}))). TypeDecl b.0 b.1.0 b.1.1.0)
      (λ b. Leaf depth kind.type_word b.0 ⋅ (Leaf depth kind.identifier b.1.0 ⋅ (Quoted depth kind.is_word ⋅ (Words spell.definition depth b.1.1.0 ⋅ Quoted depth kind.semicolon))))

  rule_type : Rule limit (one_kind kind.type_word) TypeWords (reader.type_decl n)
  unfolding reader.type_decl
  rule_type =
      is (one_kind kind.type_word) TypeWords
      (keep (one kind.type_word) (λ at. keep (one kind.identifier) (λ m. skip (one kind.is_word) (keep rule_definition (λ d. last (TypeDecl at m d) (one kind.semicolon)) refl) refl) refl) refl)
      (λ x w l. l) (λ x w l. l) refl

  abbrev SubtypeWords : Decl → Language
  SubtypeWords =
      Image (λ (b : ℕ × (ℕ × (Indic × Unit {0}))). SubtypeDecl b.0 b.1.0 b.1.1.0)
      (λ b. Leaf depth kind.subtype_word b.0 ⋅ (Leaf depth kind.identifier b.1.0 ⋅ (Quoted depth kind.is_word ⋅ (Words spell.indic depth b.1.1.0 ⋅ Quoted depth kind.semicolon))))

  rule_subtype : Rule limit (one_kind kind.subtype_word) SubtypeWords (reader.subtype_decl n)
  unfolding reader.subtype_decl
  rule_subtype =
      is (one_kind kind.subtype_word) SubtypeWords
      (keep (one kind.subtype_word) (λ at. keep (one kind.identifier) (λ m. skip (one kind.is_word) (keep rule_indic (λ i. last (SubtypeDecl at m i) (one kind.semicolon)) refl) refl) refl) refl)
      (λ x w l. l) (λ x w l. l) refl

  -- ---- objects, numbers and exceptions

  split_object_type : (x : ObjectType) (w : Word) → Words spell.object_type depth x w → Or (Image Anonymous (Words spell.array depth)) (Image Indicated (Words spell.indic depth)) x w
  split_object_type (Anonymous a) w l = inl (a, refl, l)
  split_object_type (Indicated i) w l = inr (i, refl, l)

  rule_object_type : Rule limit (record { first = kind.array_word ∷ kind.identifier ∷ []; nullable = false; follow_last = indic_sets.follow_last }) (Words spell.object_type depth) (reader.object_type n)
  unfolding reader.object_type
  rule_object_type =
      is _ (Words spell.object_type depth) (or (kind.array_word ∷ []) (to Anonymous rule_array) (to Indicated rule_indic).exact refl refl refl)
      (either (form (Words spell.object_type depth) (λ b w l. l)) (form (Words spell.object_type depth) (λ b w l. l))) split_object_type refl

  abbrev Initial : Option Expr → Language
  Initial = Words (optional_of_after (free kind.assign) spell.expr) depth

  rule_initial : Rule limit (record { first = kind.assign ∷ []; nullable = true; follow_last = kind.assign ∷ expr_sets.follow_last }) Initial (reader.initial n)
  unfolding reader.initial
  rule_initial = is _ Initial (maybe_after kind.assign spell.expr depth (kind.assign ∷ []) (skip (one kind.assign) (to Some expr) refl) refl refl refl) (λ x w l. l) (λ x w l. l) refl

  abbrev ObjectFrom : Ids → Option ℕ → Decl → Language
  ObjectFrom ns c =
      Image (λ (b : ObjectType × (Option Expr × Unit {0})). ObjectDecl ns c b.0 b.1.0) (λ b. Words spell.object_type depth b.0 ⋅ (Initial b.1.0 ⋅ Quoted depth kind.semicolon))

  rule_object : (ns : Ids) (c : Option ℕ) → Rule limit (record { first = kind.array_word ∷ kind.identifier ∷ []; nullable = false; follow_last = [] }) (ObjectFrom ns c) (reader.object n ns c)
  unfolding reader.object
  rule_object ns c =
      is _ (ObjectFrom ns c) (keep rule_object_type (λ t. keep rule_initial (λ v. last (ObjectDecl ns c t v) (one kind.semicolon)) refl) refl) (λ x w l. l) (λ x w l. l) refl

  abbrev NumberFrom : Ids → ℕ → Decl → Language
  NumberFrom ns at = Image (λ (b : Expr × Unit {0}). NumberDecl ns at b.0) (λ b. Quoted depth kind.assign ⋅ (Words spell.expr depth b.0 ⋅ Quoted depth kind.semicolon))

  rule_number : (ns : Ids) (at : ℕ) → Rule limit (one_kind kind.assign) (NumberFrom ns at) (reader.number n ns at)
  unfolding reader.number
  rule_number ns at =
      is (one_kind kind.assign) (NumberFrom ns at) (skip (one kind.assign) (keep expr (λ e. last (NumberDecl ns at e) (one kind.semicolon)) refl) refl) (λ x w l. l) (λ x w l. l) refl

  abbrev ConstantFrom : Ids → Decl → Language
  ConstantFrom ns = Then (Leaf depth kind.constant_word) (λ at. Or (NumberFrom ns at) (ObjectFrom ns (Some at)))

  rule_constant : (ns : Ids) → Rule limit (one_kind kind.constant_word) (ConstantFrom ns) (reader.constant n ns)
  unfolding reader.constant
  rule_constant ns =
      is (one_kind kind.constant_word) (ConstantFrom ns) (seq (one kind.constant_word) (λ at. or (kind.assign ∷ []) (rule_number ns at) (rule_object ns (Some at)).exact refl refl refl) refl)
      (λ x w l. l) (λ x w l. l) refl

  abbrev ExceptionFrom : Ids → Decl → Language
  ExceptionFrom ns = Image (λ (_ : Unit {0}). ExceptionDecl ns) (λ _. Quoted depth kind.exception_word ⋅ Quoted depth kind.semicolon)

  rule_exception : (ns : Ids) → Rule limit (one_kind kind.exception_word) (ExceptionFrom ns) (reader.exception n ns)
  unfolding reader.exception
  rule_exception ns = is (one_kind kind.exception_word) (ExceptionFrom ns) (skip (one kind.exception_word) (last (ExceptionDecl ns) (one kind.semicolon)) refl) (λ x w l. l) (λ x w l. l) refl

  abbrev NamedFrom : Ids → Decl → Language
  NamedFrom ns = Or (ExceptionFrom ns) (Or (ConstantFrom ns) (ObjectFrom ns None))

  rule_named : (ns : Ids) → Rule limit (record { first = kind.exception_word ∷ kind.constant_word ∷ kind.array_word ∷ kind.identifier ∷ []; nullable = false; follow_last = [] }) (NamedFrom ns) (reader.named_decl n ns)
  unfolding reader.named_decl
  rule_named ns =
      is _ (NamedFrom ns) (or (kind.exception_word ∷ []) (rule_exception ns) (or (kind.constant_word ∷ []) (rule_constant ns) (rule_object ns None).exact refl refl refl).exact refl refl refl)
      (λ x w l. l) (λ x w l. l) refl

  abbrev NamesWords : Decl → Language
  NamesWords = Then (Words spell.ids depth) (λ ns. Then (Leaf depth kind.colon) (λ _. NamedFrom ns))

  rule_names : Rule limit (one_kind kind.identifier) NamesWords (reader.names_decl n)
  unfolding reader.names_decl
  rule_names = is (one_kind kind.identifier) NamesWords (seq ids (λ ns. seq (one kind.colon) (λ _. rule_named ns) refl) refl) (λ x w l. l) (λ x w l. l) refl

  -- ---- all declarations

  join_names : (x : Decl) (w : Word) → NamesWords x w → Words spell.decl depth x w
  join_names x w (ns, u, v, e, l, (n', u1, v1, e1, i, inl (b, eq, k))) = from (Words spell.decl depth) eq (u, v, e, l, (u1, v1, e1, (n', i), k))
  join_names x w (ns, u, v, e, l, (n', u1, v1, e1, i, inr (inl (at, u2, v2, e2, j, inl (b, eq, k))))) = from (Words spell.decl depth) eq (u, v, e, l, (u1, v1, e1, (n', i), (u2, v2, e2, j, k)))
  join_names x w (ns, u, v, e, l, (n', u1, v1, e1, i, inr (inl (at, u2, v2, e2, j, inr (b, eq, k))))) = from (Words spell.decl depth) eq (u, v, e, l, (u1, v1, e1, (n', i), (u2, v2, e2, j, k)))
  join_names x w (ns, u, v, e, l, (n', u1, v1, e1, i, inr (inr (b, eq, k)))) = from (Words spell.decl depth) eq (u, v, e, l, (u1, v1, e1, (n', i), ([], v1, refl, refl, k)))

  split_decl : (x : Decl) (w : Word) → Words spell.decl depth x w → Or TypeWords (Or SubtypeWords NamesWords) x w
  split_decl (TypeDecl at m d) w l = inl ((at, (m, (d, tt))), refl, l)
  split_decl (SubtypeDecl at m i) w l = inr (inl ((at, (m, (i, tt))), refl, l))
  split_decl (ExceptionDecl ns) w (u, v, e, l, (u1, v1, e1, (n', i), k)) = inr (inr (ns, u, v, e, l, (n', u1, v1, e1, i, inl (tt, refl, k))))
  split_decl (NumberDecl ns at y) w (u, v, e, l, (u1, v1, e1, (n', i), (u2, v2, e2, j, k))) = inr (inr (ns, u, v, e, l, (n', u1, v1, e1, i, inr (inl (at, u2, v2, e2, j, inl ((y, tt), refl, k))))))
  split_decl (ObjectDecl ns (Some at) t y) w (u, v, e, l, (u1, v1, e1, (n', i), (u2, v2, e2, j, k))) =
      inr (inr (ns, u, v, e, l, (n', u1, v1, e1, i, inr (inl (at, u2, v2, e2, j, inr ((t, (y, tt)), refl, k))))))
  split_decl (ObjectDecl ns None t y) w (u, v, e, l, (u1, v1, e1, (n', i), k)) =
      inr (inr (ns, u, v, e, l, (n', u1, v1, e1, i, inr (inr ((t, (y, tt)), refl, without_before {L = Words spell.object_type depth t ⋅ (Initial y ⋅ Quoted depth kind.semicolon)} k)))))

  pub rule_decl : Rule limit decl_sets (Words spell.decl depth) (reader.decl n)
  unfolding reader.decl
  rule_decl =
      is decl_sets (Words spell.decl depth) (or (kind.type_word ∷ []) rule_type (or (kind.subtype_word ∷ []) rule_subtype rule_names.exact refl refl refl).exact refl refl refl)
      (either (form (Words spell.decl depth) (λ b w l. l)) (either (form (Words spell.decl depth) (λ b w l. l)) join_names)) split_decl refl

  pub rule_decls : Rule limit (record { first = decl_kinds; nullable = true; follow_last = decl_kinds }) (Words (each_of spell.decl) depth) (reader.decls n)
  unfolding reader.decls
  rule_decls = items decl_kinds (each_listed spell.decl depth) list_grows rule_decl refl refl refl refl
