-- The readers of subprograms and programs are exact at each level; the answer for a list of kinds is right, and a list
-- has one tree at most.
use Rattle.std.proofs.Common.{◌≡◌, ℕ, zero, suc, ◌+◌, ◌<◌, ◌≤◌, List, [], ◌∷◌, true, false, Option, Some, None, inl, inr, refl, arith}
use Rattle.ada_base.specs.Symbols.{Symbol, Word, numbered, is_member}
use Rattle.ada_base.specs.Languages.{Language, Leaf, Quoted, Then, Or, Image, Empty, Begins, ◌⋅◌}
use Rattle.syntax_readers.specs.Readers.{symbol}
use Rattle.syntax_readers.specs.Sets.{Sets, one_kind}
use Rattle.syntax_readers.specs.Exact.{Rule}
use Rattle.syntax_readers.specs.Verdicts.{RightAnswer}
use Rattle.syntax_readers.proofs.Depths.{BeginsTooDeep, exact_too_deep}
use Rattle.syntax_readers.proofs.Rules.{read, seq, or, to, is}
use Rattle.syntax_readers.proofs.Chains.{items, list_grows}
use Rattle.syntax_readers.proofs.Forms.{from, without_before, either, form, keep, skip, lead, last}
use Rattle.syntax_readers.proofs.Samples.{sample_leaf, sample_free, sample_none, sample_both, kind_is, for_member, first_held, first_free, begins_held, begins_free, sample_of}
use Rattle.syntax_readers.proofs.RightAnswers.{right_answer}
use Rattle.syntax_readers.proofs.OneTree.{one_tree}
use Rattle.syntax_tree.specs.Grammar.{ProgramWords, Derives}
use Rattle.ada_base.specs.Kinds as kind
use Rattle.syntax_tree.specs.Syntax.{Expr, Formals, Decl, Body, Aspect, Sub, Procedure, Function, ExprFunction, Unit', DeclUnit, SubUnit, Policy, Clause, Main, Program}
use Rattle.syntax_tree.specs.Patterns.{Spelling, free, optional_of, optional_of_after, each_of}
use Rattle.syntax_tree.specs.Productions as spell
use Rattle.syntax_tree.specs.declared.operators.ClauseWord.{ClauseWord}
use Rattle.syntax_tree.specs.declared.operators.ClauseWord.TheVariants as word
use Rattle.syntax_grammar.specs.Levels.{levels}
use Rattle.syntax_grammar.specs.Read.{Ended, Valued}
use Rattle.syntax_grammar.specs.Declarations.{decl_kinds}
use Rattle.syntax_grammar.specs.Statements as stated
use Rattle.syntax_grammar.specs.Units as reader
use Rattle.syntax_grammar.specs.Units.{sub_kinds, unit_kinds, clause_kinds}
use Rattle.syntax_laws.proofs.Words.{Words, After, maybe, maybe_after, each_listed, each_after_listed}
use Rattle.syntax_laws.proofs.Openings.{round_sets}
use Rattle.syntax_laws.proofs.Relations.{rule_expr}
use Rattle.syntax_laws.proofs.Levels.{opening_at, sample_expr}
use Rattle.syntax_laws.proofs.Formals.{rule_maybe_formals}
use Rattle.syntax_laws.proofs.Declarations.{rule_decl, rule_decls}
use Rattle.syntax_laws.proofs.Bodies as inside
use Rattle.syntax_laws.proofs.Bodies.{rule_pack, rule_maybe_identifier, rule_body}
use Rattle.syntax_laws.proofs.StatementLevels.{rule_stmt, sample_body}

-- ---- what stands in round brackets here: the policy's name, and the value of an expression function

abbrev policy_words : ℕ → Spelling
policy_words p = spell.in_round (spell.identifier p)

abbrev valued_words : Valued → Spelling
valued_words v = spell.round v.bracket (spell.expr v.value)

module _ (limit depth : ℕ) (deeper : suc depth ≤ limit) where
  deep : (k : ℕ) → Rule limit (one_kind k) (Leaf (suc depth) k) (symbol k)
  deep k = read limit (suc depth) deeper k

  rule_open_policy_name : Rule limit round_sets (Words policy_words depth) reader.open_policy_name
  unfolding reader.open_policy_name
  rule_open_policy_name =
      is round_sets (Words policy_words depth) (skip (deep kind.open_round) (keep (deep kind.identifier) (λ p. last p (deep kind.close_round)) refl) refl)
      (form (Words policy_words depth) (λ b w l. l)) (λ x w l. ((x, tt), refl, l)) refl

policy_begins : (depth : ℕ) (t : Symbol) → kind.open_round ≡ t.kind → Begins (Words policy_words depth) (t ∷ [])
policy_begins depth t is_kind =
    begins_free (suc depth) kind.open_round t is_kind (λ (b : ℕ × Unit {0}). b.0) (λ b w l. l) (sample_both (sample_leaf (suc depth) kind.identifier) (sample_free (suc depth) kind.close_round))

rule_policy_name : (limit n depth : ℕ) → n + depth ≡ limit → Rule limit round_sets (Words policy_words depth) (reader.policy_name n)
unfolding reader.policy_name
rule_policy_name limit zero depth e =
    let over : limit < suc depth = omega (arith, e) in record {
      exact = exact_too_deep round_sets (Words policy_words depth) (λ x w l. first_free limit (suc depth) (kind.open_round ∷ []) kind.open_round w over refl l) (λ t h. policy_begins depth t (kind_is t kind.open_round h)) refl;
      sample = sample_of (Words policy_words depth) kind.open_round (policy_begins depth);
    }
rule_policy_name limit (suc n) depth e = rule_open_policy_name limit depth (omega (arith, e))

module _ (limit n depth : ℕ) (levelled : n + suc depth ≡ limit) where
  inner : (k : ℕ) → Rule limit (one_kind k) (Leaf (suc depth) k) (symbol k)
  inner k = read limit (suc depth) (omega (arith, levelled)) k

  rule_open_value : Rule limit round_sets (Words valued_words depth) (reader.open_value n)
  unfolding reader.open_value
  rule_open_value =
      is round_sets (Words valued_words depth)
      (keep (inner kind.open_round) (λ b. keep (rule_expr limit (suc depth) (omega (arith, levelled)) (levels n) (opening_at limit n (suc depth) levelled)) (λ e.
      last (let v : Valued = record { bracket = b; value = e } in v) (inner kind.close_round)) refl) refl)
      (form (Words valued_words depth) (λ b w l. l)) (λ x w l. ((x.bracket, (x.value, tt)), refl, l)) refl

value_begins : (depth : ℕ) (t : Symbol) → kind.open_round ≡ t.kind → Begins (Words valued_words depth) (t ∷ [])
value_begins depth t is_kind =
    begins_held (suc depth) kind.open_round t is_kind (λ (b : Expr × Unit {0}). let v : Valued = record { bracket = t.number; value = b.0 } in v) (λ b w l. l)
    (sample_both (sample_expr (suc depth)) (sample_free (suc depth) kind.close_round))

rule_value : (limit n depth : ℕ) → n + depth ≡ limit → Rule limit round_sets (Words valued_words depth) (reader.function_value n)
unfolding reader.function_value
rule_value limit zero depth e =
    let over : limit < suc depth = omega (arith, e) in record {
      exact = exact_too_deep round_sets (Words valued_words depth) (λ x w l. first_held limit (suc depth) (kind.open_round ∷ []) kind.open_round x.bracket w over refl l) (λ t h. value_begins depth t (kind_is t kind.open_round h)) refl;
      sample = sample_of (Words valued_words depth) kind.open_round (value_begins depth);
    }
rule_value limit (suc n) depth e = rule_open_value limit n depth (omega (arith, e))

-- ---- aspects

module _ (limit depth : ℕ) (within : depth ≤ limit) where
  plain : (k : ℕ) → Rule limit (one_kind k) (Leaf depth k) (symbol k)
  plain k = read limit depth within k

  rule_aspect_value : Rule limit (record { first = kind.arrow ∷ []; nullable = true; follow_last = kind.arrow ∷ [] }) (Words (optional_of_after (free kind.arrow) spell.identifier) depth) reader.aspect_value
  unfolding reader.aspect_value
  rule_aspect_value = maybe_after kind.arrow spell.identifier depth (kind.arrow ∷ []) (skip (plain kind.arrow) (to Some (plain kind.identifier)) refl) refl refl refl

  rule_aspect : Rule limit (record { first = kind.with_word ∷ []; nullable = false; follow_last = kind.arrow ∷ [] }) (Words spell.aspect depth) reader.aspect
  unfolding reader.aspect
  rule_aspect =
      is _ (Words spell.aspect depth)
      (keep (plain kind.with_word) (λ at. keep (plain kind.identifier) (λ m. to (λ (v : Option ℕ). let a : Aspect = record { at = at; mark = m; value = v } in a) rule_aspect_value) refl) refl)
      (form (Words spell.aspect depth) (λ b w l. l)) (λ x w l. ((x.at, (x.mark, x.value)), refl, l)) refl

  abbrev MaybeAspect : Option Aspect → Language
  MaybeAspect = Words (optional_of spell.aspect) depth

  rule_maybe_aspect : Rule limit (record { first = kind.with_word ∷ []; nullable = true; follow_last = kind.with_word ∷ kind.arrow ∷ [] }) MaybeAspect reader.maybe_aspect
  unfolding reader.maybe_aspect
  rule_maybe_aspect = is _ MaybeAspect (maybe spell.aspect depth (kind.with_word ∷ []) rule_aspect refl refl refl) (λ x w l. l) (λ x w l. l) refl

-- ---- bodies of subprograms

module _ (limit n depth : ℕ) (levelled : n + depth ≡ limit) where
  within : depth ≤ limit
  within = omega (arith, levelled)

  one : (k : ℕ) → Rule limit (one_kind k) (Leaf depth k) (symbol k)
  one k = read limit depth within k

  maybe_aspect : Rule limit (record { first = kind.with_word ∷ []; nullable = true; follow_last = kind.with_word ∷ kind.arrow ∷ [] }) (MaybeAspect limit depth within) reader.maybe_aspect
  maybe_aspect = rule_maybe_aspect limit depth within

  -- from `begin` to the end
  abbrev EndedWords : Ended → Language
  EndedWords x =
      Quoted depth kind.begin_word ⋅ (Words spell.body' depth x.body ⋅ (Quoted depth kind.end_word ⋅ (inside.MaybeIdentifier limit depth within x.last_name ⋅ Quoted depth kind.semicolon)))

  rule_ended : Rule limit (one_kind kind.begin_word) EndedWords (reader.ended n)
  unfolding reader.ended
  rule_ended =
      is (one_kind kind.begin_word) EndedWords
      (skip (one kind.begin_word) (keep (rule_body limit n depth levelled (stated.stmt n) (rule_stmt limit n depth levelled)) (λ b. skip (one kind.end_word) (keep (rule_maybe_identifier limit depth within) (λ e.
      last (let x : Ended = record { body = b; last_name = e } in x) (one kind.semicolon)) refl) refl) refl) refl)
      (λ x w (b, eq, l). from EndedWords eq l) (λ x w l. ((x.body, (x.last_name, tt)), refl, l)) refl

  -- declarations, and then a body
  abbrev DeclaredWords : List Decl × Ended → Language
  DeclaredWords b = Words (each_of spell.decl) depth b.0 ⋅ EndedWords b.1

-- ---- subprograms, where more levels may open

module _ (limit n around : ℕ) (levelled : n + suc around ≡ limit) where
  abbrev D : ℕ
  D = suc around

  inside_one : (k : ℕ) → Rule limit (one_kind k) (Leaf D k) (symbol k)
  inside_one k = read limit D (omega (arith, levelled)) k

  abbrev Declared : List Decl × Ended → Language
  Declared = DeclaredWords limit n D levelled

  abbrev MaybeMark : Option Aspect → Language
  MaybeMark = MaybeAspect limit D (omega (arith, levelled))

  mark : Rule limit (record { first = kind.with_word ∷ []; nullable = true; follow_last = kind.with_word ∷ kind.arrow ∷ [] }) MaybeMark reader.maybe_aspect
  mark = maybe_aspect limit n D levelled

  abbrev MaybeFormals : Option Formals → Language
  MaybeFormals = Words (optional_of spell.formals) D

  abbrev ProcedureIs : ℕ → ℕ → Option Formals → Option Aspect → Sub → Language
  ProcedureIs at m f a = Image (λ (b : List Decl × Ended). Procedure at m f a b.0 b.1.body b.1.last_name) (λ b. Quoted D kind.is_word ⋅ Declared b)

  rule_procedure_is : (at m : ℕ) (f : Option Formals) (a : Option Aspect) → Rule limit (one_kind kind.is_word) (ProcedureIs at m f a) (reader.procedure_is n at m f a)
  unfolding reader.procedure_is
  rule_procedure_is at m f a =
      is (one_kind kind.is_word) (ProcedureIs at m f a)
      (skip (inside_one kind.is_word) (keep (rule_decls limit n D levelled) (λ ds. to (λ (e : Ended). Procedure at m f a ds e.body e.last_name) (rule_ended limit n D levelled)) refl) refl)
      (λ x w l. l) (λ x w l. l) refl

  abbrev ProcedureWords : Sub → Language
  ProcedureWords =
      Image (λ (b : ℕ × (ℕ × (Option Formals × (Option Aspect × (List Decl × Ended))))). Procedure b.0 b.1.0 b.1.1.0 b.1.1.1.0 b.1.1.1.1.0 b.1.1.1.1.1.body b.1.1.1.1.1.last_name)
      (λ b. Leaf D kind.procedure_word b.0 ⋅ (Leaf D kind.identifier b.1.0 ⋅ (MaybeFormals b.1.1.0 ⋅ (MaybeMark b.1.1.1.0 ⋅ (Quoted D kind.is_word ⋅ Declared b.1.1.1.1)))))

  rule_procedure : Rule limit (one_kind kind.procedure_word) ProcedureWords (reader.procedure n)
  unfolding reader.procedure
  rule_procedure =
      is (one_kind kind.procedure_word) ProcedureWords
      (keep (inside_one kind.procedure_word) (λ at. keep (inside_one kind.identifier) (λ m. keep (rule_maybe_formals limit n D levelled) (λ f. keep mark (λ a. rule_procedure_is at m f a) refl) refl) refl) refl)
      (λ x w l. l) (λ x w l. l) refl

  abbrev FunctionFrom : ℕ → ℕ → Option Formals → ℕ → Option Aspect → Sub → Language
  FunctionFrom at m f r a = Image (λ (b : List Decl × Ended). Function at m f r a b.0 b.1.body b.1.last_name) Declared

  rule_function_body : (at m : ℕ) (f : Option Formals) (r : ℕ) (a : Option Aspect) → Rule limit (record { first = kind.begin_word ∷ decl_kinds; nullable = false; follow_last = [] }) (FunctionFrom at m f r a) (reader.function_body n at m f r a)
  unfolding reader.function_body
  rule_function_body at m f r a =
      is _ (FunctionFrom at m f r a) (keep (rule_decls limit n D levelled) (λ ds. to (λ (e : Ended). Function at m f r a ds e.body e.last_name) (rule_ended limit n D levelled)) refl)
      (λ x w l. l) (λ x w l. l) refl

  abbrev ExpressionFrom : ℕ → ℕ → Option Formals → ℕ → Sub → Language
  ExpressionFrom at m f r =
      Image (λ (b : Valued × (Option Aspect × Unit {0})). ExprFunction at m f r b.0.bracket b.0.value b.1.0) (λ b. Words valued_words D b.0 ⋅ (MaybeMark b.1.0 ⋅ Quoted D kind.semicolon))

  rule_expression : (at m : ℕ) (f : Option Formals) (r : ℕ) → Rule limit round_sets (ExpressionFrom at m f r) (reader.expression_function n at m f r)
  unfolding reader.expression_function
  rule_expression at m f r =
      is round_sets (ExpressionFrom at m f r)
      (keep (rule_value limit n D levelled) (λ v. keep mark (λ a. last (ExprFunction at m f r v.bracket v.value a) (inside_one kind.semicolon)) refl) refl)
      (λ x w l. l) (λ x w l. l) refl

  -- after the mark of the result
  abbrev ResultFrom : ℕ → ℕ → Option Formals → ℕ → Sub → Language
  ResultFrom at m f r =
      Or (Then (Words spell.aspect D) (λ a. Then (Leaf D kind.is_word) (λ _. FunctionFrom at m f r (Some a))))
      (Then (Leaf D kind.is_word) (λ _. Or (ExpressionFrom at m f r) (FunctionFrom at m f r None)))

  rule_function_from : (at m : ℕ) (f : Option Formals) (r : ℕ) → Rule limit (record { first = kind.with_word ∷ kind.is_word ∷ []; nullable = false; follow_last = [] }) (ResultFrom at m f r) (reader.function_from n at m f r)
  unfolding reader.function_from
  rule_function_from at m f r =
      is _ (ResultFrom at m f r)
      (or (kind.with_word ∷ []) (seq (rule_aspect limit D (omega (arith, levelled))) (λ a. seq (inside_one kind.is_word) (λ _. rule_function_body at m f r (Some a)) refl) refl)
      (seq (inside_one kind.is_word) (λ _. or (kind.open_round ∷ []) (rule_expression at m f r) (rule_function_body at m f r None).exact refl refl refl) refl).exact refl refl refl)
      (λ x w l. l) (λ x w l. l) refl

  abbrev FunctionWords : Sub → Language
  FunctionWords =
      Then (Leaf D kind.function_word) (λ at. Then (Leaf D kind.identifier) (λ m. Then MaybeFormals (λ f. Then (Leaf D kind.return_word) (λ _. Then (Leaf D kind.identifier) (λ r. ResultFrom at m f r)))))

  rule_function : Rule limit (one_kind kind.function_word) FunctionWords (reader.function n)
  unfolding reader.function
  rule_function =
      is (one_kind kind.function_word) FunctionWords
      (seq (inside_one kind.function_word) (λ at. seq (inside_one kind.identifier) (λ m. seq (rule_maybe_formals limit n D levelled) (λ f. seq (inside_one kind.return_word) (λ _. seq (inside_one kind.identifier) (λ r. rule_function_from at m f r) refl) refl) refl) refl) refl)
      (λ x w l. l) (λ x w l. l) refl

  -- a function's declarations and body, grouped as its words
  join_function : (x : Sub) (w : Word) → FunctionWords x w → Words spell.sub around x w
  join_function x w (at, u, v, q, i, (m, u1, v1, q1, i1, (f, u2, v2, q2, lf, (k3, u3, v3, q3, i3, (r, u4, v4, q4, i4, inl (a, u5, v5, q5, la, (k6, u6, v6, q6, i6, (b, eq, k)))))))) =
      from (Words spell.sub around) eq (u, v, q, i, (u1, v1, q1, i1, (u2, v2, q2, lf, (u3, v3, q3, (k3, i3), (u4, v4, q4, i4, (u5, v5, q5, la, (u6, v6, q6, (k6, i6), k)))))))
  join_function x w (at, u, v, q, i, (m, u1, v1, q1, i1, (f, u2, v2, q2, lf, (k3, u3, v3, q3, i3, (r, u4, v4, q4, i4, inr (k6, u6, v6, q6, i6, inl (b, eq, k))))))) =
      from (Words spell.sub around) eq (u, v, q, i, (u1, v1, q1, i1, (u2, v2, q2, lf, (u3, v3, q3, (k3, i3), (u4, v4, q4, i4, (u6, v6, q6, (k6, i6), k))))))
  join_function x w (at, u, v, q, i, (m, u1, v1, q1, i1, (f, u2, v2, q2, lf, (k3, u3, v3, q3, i3, (r, u4, v4, q4, i4, inr (k6, u6, v6, q6, i6, inr (b, eq, k))))))) =
      from (Words spell.sub around) eq (u, v, q, i, (u1, v1, q1, i1, (u2, v2, q2, lf, (u3, v3, q3, (k3, i3), (u4, v4, q4, i4, ([], v4, refl, refl, (u6, v6, q6, (k6, i6), k)))))))

  split_sub : (x : Sub) (w : Word) → Words spell.sub around x w → Or ProcedureWords FunctionWords x w
  split_sub (Procedure at m f a ds b e) w l = inl ((at, (m, (f, (a, (ds, record { body = b; last_name = e }))))), refl, l)
  split_sub (Function at m f r (Some a) ds b e) w (u, v, q, i, (u1, v1, q1, i1, (u2, v2, q2, lf, (u3, v3, q3, (k3, i3), (u4, v4, q4, i4, (u5, v5, q5, la, (u6, v6, q6, (k6, i6), k))))))) =
      inr (at, u, v, q, i, (m, u1, v1, q1, i1, (f, u2, v2, q2, lf, (k3, u3, v3, q3, i3, (r, u4, v4, q4, i4, inl (a, u5, v5, q5, la, (k6, u6, v6, q6, i6, ((ds, record { body = b; last_name = e }), refl, k))))))))
  split_sub (Function at m f r None ds b e) w (u, v, q, i, (u1, v1, q1, i1, (u2, v2, q2, lf, (u3, v3, q3, (k3, i3), (u4, v4, q4, i4, l))))) =
      let (u6, v6, q6, (k6, i6), k) = without_before {L = Quoted D kind.is_word ⋅ Declared (ds, record { body = b; last_name = e })} l in
      inr (at, u, v, q, i, (m, u1, v1, q1, i1, (f, u2, v2, q2, lf, (k3, u3, v3, q3, i3, (r, u4, v4, q4, i4, inr (k6, u6, v6, q6, i6, inr ((ds, record { body = b; last_name = e }), refl, k)))))))
  split_sub (ExprFunction at m f r b y a) w (u, v, q, i, (u1, v1, q1, i1, (u2, v2, q2, lf, (u3, v3, q3, (k3, i3), (u4, v4, q4, i4, (u6, v6, q6, (k6, i6), k)))))) =
      inr (at, u, v, q, i, (m, u1, v1, q1, i1, (f, u2, v2, q2, lf, (k3, u3, v3, q3, i3, (r, u4, v4, q4, i4, inr (k6, u6, v6, q6, i6, inl ((record { bracket = b; value = y }, (a, tt)), refl, k)))))))

  rule_open_sub : Rule limit (record { first = sub_kinds; nullable = false; follow_last = [] }) (Words spell.sub around) (reader.open_sub n)
  unfolding reader.open_sub
  rule_open_sub =
      is _ (Words spell.sub around) (or (kind.procedure_word ∷ []) rule_procedure rule_function.exact refl refl refl)
      (either (form (Words spell.sub around) (λ b w l. l)) join_function) split_sub refl

-- ---- subprograms at each level

abbrev sub_sets : Sets
sub_sets = record { first = sub_kinds; nullable = false; follow_last = [] }

module _ (depth : ℕ) where
  abbrev EndWords : Body × (Unit {0} × (Unit {0} × Unit {0})) → Language
  EndWords b = Words spell.body' (suc depth) b.0 ⋅ (Quoted (suc depth) kind.end_word ⋅ (Empty ⋅ Quoted (suc depth) kind.semicolon))

  procedure_begins : (t : Symbol) → kind.procedure_word ≡ t.kind → Begins (Words spell.sub depth) (t ∷ [])
  procedure_begins t is_kind =
      begins_held (suc depth) kind.procedure_word t is_kind
      (λ (b : ℕ × (Unit {0} × (Unit {0} × (Unit {0} × (Unit {0} × (Unit {0} × (Body × (Unit {0} × (Unit {0} × Unit {0}))))))))). Procedure t.number b.0 None None [] b.1.1.1.1.1.1.0 None) (λ b w l. l)
      (sample_both (sample_leaf (suc depth) kind.identifier) (sample_both sample_none (sample_both sample_none (sample_both (sample_free (suc depth) kind.is_word) (sample_both sample_none (sample_both (sample_free (suc depth) kind.begin_word)
      (sample_both (sample_body (suc depth)) (sample_both (sample_free (suc depth) kind.end_word) (sample_both sample_none (sample_free (suc depth) kind.semicolon))))))))))

  function_begins : (t : Symbol) → kind.function_word ≡ t.kind → Begins (Words spell.sub depth) (t ∷ [])
  function_begins t is_kind =
      begins_held (suc depth) kind.function_word t is_kind
      (λ (b : ℕ × (Unit {0} × (Unit {0} × (ℕ × (Unit {0} × (Unit {0} × (Unit {0} × (Unit {0} × (Body × (Unit {0} × (Unit {0} × Unit {0}))))))))))). Function t.number b.0 None b.1.1.1.0 None [] b.1.1.1.1.1.1.1.1.0 None) (λ b w l. l)
      (sample_both (sample_leaf (suc depth) kind.identifier) (sample_both sample_none (sample_both (sample_free (suc depth) kind.return_word) (sample_both (sample_leaf (suc depth) kind.identifier) (sample_both sample_none (sample_both (sample_free (suc depth) kind.is_word)
      (sample_both sample_none (sample_both (sample_free (suc depth) kind.begin_word) (sample_both (sample_body (suc depth)) (sample_both (sample_free (suc depth) kind.end_word) (sample_both sample_none (sample_free (suc depth) kind.semicolon))))))))))))

  sub_begins : (t : Symbol) → is_member sub_kinds t.kind ≡ true → Begins (Words spell.sub depth) (t ∷ [])
  sub_begins t = for_member sub_kinds t.kind (procedure_begins t, (function_begins t, tt))

  sub_first : (limit : ℕ) → limit < suc depth → (x : Sub) (w : Word) → Words spell.sub depth x w → BeginsTooDeep limit sub_kinds w
  sub_first limit over (Procedure at m f a ds b e) w l = first_held limit (suc depth) sub_kinds kind.procedure_word at w over refl l
  sub_first limit over (Function at m f r a ds b e) w l = first_held limit (suc depth) sub_kinds kind.function_word at w over refl l
  sub_first limit over (ExprFunction at m f r b y a) w l = first_held limit (suc depth) sub_kinds kind.function_word at w over refl l

rule_sub : (limit n depth : ℕ) → n + depth ≡ limit → Rule limit sub_sets (Words spell.sub depth) (reader.sub n)
unfolding reader.sub
rule_sub limit zero depth e = record {
  exact = exact_too_deep sub_sets (Words spell.sub depth) (sub_first depth limit (omega (arith, e))) (sub_begins depth) refl;
  sample = sample_of (Words spell.sub depth) kind.procedure_word (procedure_begins depth);
}
rule_sub limit (suc n) depth e = rule_open_sub limit n depth (omega (arith, e))

-- ---- programs

module _ (limit n depth : ℕ) (levelled : n + depth ≡ limit) where
  here : (k : ℕ) → Rule limit (one_kind k) (Leaf depth k) (symbol k)
  here k = read limit depth (omega (arith, levelled)) k

  split_unit : (x : Unit') (w : Word) → Words spell.unit depth x w → Or (Image SubUnit (Words spell.sub depth)) (Image DeclUnit (Words spell.decl depth)) x w
  split_unit (SubUnit s) w l = inl (s, refl, l)
  split_unit (DeclUnit d) w l = inr (d, refl, l)

  rule_unit : Rule limit (record { first = unit_kinds; nullable = false; follow_last = [] }) (Words spell.unit depth) (reader.unit n)
  unfolding reader.unit
  rule_unit =
      is _ (Words spell.unit depth) (or sub_kinds (to SubUnit (rule_sub limit n depth levelled)) (to DeclUnit (rule_decl limit n depth levelled)).exact refl refl refl)
      (either (form (Words spell.unit depth) (λ b w l. l)) (form (Words spell.unit depth) (λ b w l. l))) split_unit refl

  rule_units : Rule limit (record { first = unit_kinds; nullable = true; follow_last = unit_kinds }) (Words (each_of spell.unit) depth) (reader.units n)
  unfolding reader.units
  rule_units = items unit_kinds (each_listed spell.unit depth) list_grows rule_unit refl refl refl refl

  rule_policy : Rule limit (one_kind kind.pragma_word) (Words spell.policy depth) (reader.policy n)
  unfolding reader.policy
  rule_policy =
      is (one_kind kind.pragma_word) (Words spell.policy depth)
      (keep (here kind.pragma_word) (λ at. keep (here kind.identifier) (λ m. keep (rule_policy_name limit n depth levelled) (λ p. last (let x : Policy = record { at = at; mark = m; policy = p } in x) (here kind.semicolon)) refl) refl) refl)
      (form (Words spell.policy depth) (λ b w l. l)) (λ x w l. ((x.at, (x.mark, (x.policy, tt))), refl, l)) refl

  rule_maybe_policy : Rule limit (record { first = kind.pragma_word ∷ []; nullable = true; follow_last = kind.pragma_word ∷ [] }) (Words (optional_of spell.policy) depth) (reader.maybe_policy n)
  unfolding reader.maybe_policy
  rule_maybe_policy = is _ (Words (optional_of spell.policy) depth) (maybe spell.policy depth (kind.pragma_word ∷ []) rule_policy refl refl refl) (λ x w l. l) (λ x w l. l) refl

  abbrev WordAt : ClauseWord × ℕ → Language
  WordAt c = Leaf depth (spell.clause_word c.0) c.1

  split_word : (x : ClauseWord × ℕ) (w : Word) → WordAt x w → Or (Image (λ at. (word.With, at)) (Leaf depth kind.with_word)) (Image (λ at. (word.Use, at)) (Leaf depth kind.use_word)) x w
  split_word (word.With, at) w l = inl (at, refl, l)
  split_word (word.Use, at) w l = inr (at, refl, l)

  rule_clause_word : Rule limit (record { first = clause_kinds; nullable = false; follow_last = [] }) WordAt reader.clause_word
  unfolding reader.clause_word
  rule_clause_word =
      is _ WordAt (or (kind.with_word ∷ []) (to (λ at. (word.With, at)) (here kind.with_word)) (to (λ at. (word.Use, at)) (here kind.use_word)).exact refl refl refl)
      (either (form WordAt (λ b w l. l)) (form WordAt (λ b w l. l))) split_word refl

  rule_next_pack : Rule limit (record { first = kind.comma ∷ []; nullable = false; follow_last = kind.point ∷ [] }) (After kind.comma spell.pack depth) reader.next_pack
  unfolding reader.next_pack
  rule_next_pack = is _ (After kind.comma spell.pack depth) (lead (here kind.comma) (rule_pack limit depth (omega (arith, levelled))) refl) (λ x w l. l) (λ x w l. l) refl

  rule_clause : Rule limit (record { first = clause_kinds; nullable = false; follow_last = [] }) (Words spell.clause depth) reader.clause
  unfolding reader.clause
  rule_clause =
      is _ (Words spell.clause depth)
      (keep rule_clause_word (λ c. keep (rule_pack limit depth (omega (arith, levelled))) (λ p. keep (items (kind.comma ∷ []) (each_after_listed spell.pack depth kind.comma) list_grows rule_next_pack refl refl refl refl) (λ ps.
      last (let x : Clause = record { at = c.1; word = c.0; first = p; more = ps } in x) (here kind.semicolon)) refl) refl) refl)
      (form (Words spell.clause depth) (λ b w l. l)) (λ x w l. (((x.word, x.at), (x.first, (x.more, tt))), refl, l)) refl

  rule_clauses : Rule limit (record { first = clause_kinds; nullable = true; follow_last = clause_kinds }) (Words (each_of spell.clause) depth) reader.clauses
  unfolding reader.clauses
  rule_clauses = items clause_kinds (each_listed spell.clause depth) list_grows rule_clause refl refl refl refl

  abbrev main_of : ℕ → ℕ → Option Aspect → List Unit' → Ended → Main
  main_of at m a us e = record { at = at; defined = m; aspect = a; units = us; body = e.body; last_name = e.last_name }

  abbrev MainIs : ℕ → ℕ → Option Aspect → Main → Language
  MainIs at m a = Image (λ (b : List Unit' × Ended). main_of at m a b.0 b.1) (λ b. Quoted depth kind.is_word ⋅ (Words (each_of spell.unit) depth b.0 ⋅ EndedWords limit n depth levelled b.1))

  rule_main_is : (at m : ℕ) (a : Option Aspect) → Rule limit (one_kind kind.is_word) (MainIs at m a) (reader.main_is n at m a)
  unfolding reader.main_is
  rule_main_is at m a =
      is (one_kind kind.is_word) (MainIs at m a) (skip (here kind.is_word) (keep rule_units (λ us. to (main_of at m a us) (rule_ended limit n depth levelled)) refl) refl)
      (λ x w l. l) (λ x w l. l) refl

  rule_main : Rule limit (one_kind kind.procedure_word) (Words spell.main depth) (reader.main n)
  unfolding reader.main
  rule_main =
      is (one_kind kind.procedure_word) (Words spell.main depth)
      (keep (here kind.procedure_word) (λ at. keep (here kind.identifier) (λ m. keep (maybe_aspect limit n depth levelled) (λ a. rule_main_is at m a) refl) refl) refl)
      (form (Words spell.main depth) (λ b w l. l)) (λ x w l. ((x.at, (x.defined, (x.aspect, (x.units, record { body = x.body; last_name = x.last_name })))), refl, l)) refl

  pub rule_program : Rule limit (record { first = kind.pragma_word ∷ kind.with_word ∷ kind.use_word ∷ kind.procedure_word ∷ []; nullable = false; follow_last = [] }) (Words spell.program depth) (reader.program n)
  unfolding reader.program
  rule_program =
      is _ (Words spell.program depth)
      (keep rule_maybe_policy (λ p. keep rule_clauses (λ cs. to (λ (m : Main). let x : Program = record { policy = p; clauses = cs; main = m } in x) rule_main) refl) refl)
      (form (Words spell.program depth) (λ b w l. l)) (λ x w l. ((x.policy, (x.clauses, x.main)), refl, l)) refl

-- what the reader of programs answers to any list of kinds is right: the tree within the limit exactly where there is
-- one, and else the first fault or the first token that is too deep
pub right : (limit : ℕ) (ks : List ℕ) → RightAnswer limit ProgramWords ks (reader.program limit (numbered 0 ks))
right limit ks = right_answer (rule_program limit limit 0 (omega arith)) refl ks

-- a list of kinds is one program at most, however deep
pub one_program : (ks : List ℕ) (x y : Program) → Derives ks x → Derives ks y → x ≡ y
one_program = one_tree reader.program (λ limit. rule_program limit limit 0 (omega arith)) refl
