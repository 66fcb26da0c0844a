-- The readers of relations and expressions are exact, where those of what opens a bracket are.
use Rattle.std.proofs.Common.{◌≡◌, ℕ, ◌≤◌, [], ◌∷◌, true, false, Option, Some, None, inl, inr, refl, sym, subst, append-nil}
use Rattle.ada_base.specs.Symbols.{Word, is_member}
use Rattle.ada_base.specs.Languages.{Language, Leaf, Quoted, Then, Or, Pure, Image, Given, ◌⋅◌}
use Rattle.syntax_readers.specs.Readers.{Reader, symbol, ◌<$>◌}
use Rattle.syntax_readers.specs.Sets.{Sets, one_kind, are_disjoint, is_subset, then_sets, repeat_sets}
use Rattle.syntax_readers.specs.Exact.{Rule}
use Rattle.syntax_readers.proofs.Singles.{exact_given}
use Rattle.syntax_readers.proofs.Rules.{read, give, seq, or, to, is, same}
use Rattle.syntax_readers.proofs.Chains.{items}
use Rattle.syntax_readers.proofs.Forms.{from, to_left, to_right, without_before, without_after, either, form, keep, skip}
use Rattle.ada_base.specs.Kinds as kind
use Rattle.syntax_tree.specs.Syntax as syntax
use Rattle.syntax_tree.specs.Syntax.{Expr, Single, Joined, Conjunct, Conjuncts, Rel, Alone, Compared, Within, OfMark, Simple}
use Rattle.syntax_tree.specs.Joining.{bare_identifier}
use Rattle.syntax_tree.specs.Patterns.{words_of}
use Rattle.syntax_tree.specs.Productions as spell
use Rattle.ada_base.specs.declared.operation.Comparison.{Comparison}
use Rattle.ada_base.specs.declared.operation.Comparison.TheVariants as comparison'
use Rattle.syntax_tree.specs.declared.operators.Logical.{Logical}
use Rattle.syntax_tree.specs.declared.operators.Logical.TheVariants as logical
use Rattle.syntax_grammar.specs.Opened.{Opened}
use Rattle.syntax_grammar.specs.Expressions as reader
use Rattle.syntax_grammar.specs.Expressions.{comparison_kinds}
use Rattle.syntax_laws.proofs.Words.{Words}
use Rattle.syntax_laws.proofs.Lists.{conjuncts_grow, conjuncts_listed}
use Rattle.syntax_laws.proofs.Bares.{sum_of, name_for, identifier_words, words_identifier, identifier_sum}
use Rattle.syntax_laws.proofs.Openings.{Opening, simple_sets, rel_sets, rel_from_sets, expr_sets, expr_from_sets}
use Rattle.syntax_laws.proofs.Sums.{Upper, rule_simple, rule_upper}

module _ (limit depth : ℕ) (within : depth ≤ limit) (inner : Opened) (below : Opening limit depth inner) where
  one : (k : ℕ) → Rule limit (one_kind k) (Leaf depth k) (symbol k)
  one k = read limit depth within k

  simple : Rule limit simple_sets (Words spell.simple depth) (reader.simple inner)
  simple = rule_simple limit depth within inner below

  abbrev Above : Simple → Language
  Above = Upper limit depth within inner below

  -- ---- comparisons

  abbrev Comparing : Comparison × ℕ → Language
  Comparing c = Leaf depth (spell.compared_by c.0) c.1

  abbrev Compares : ℕ → Comparison → Comparison × ℕ → Language
  Compares k c = Image (λ at. (c, at)) (Leaf depth k)

  split_comparison : (x : Comparison × ℕ) (w : Word) → Comparing x w
      → Or (Compares kind.equal comparison'.Equal) (Or (Compares kind.unequal comparison'.Unequal) (Or (Compares kind.less comparison'.Less)
      (Or (Compares kind.at_most comparison'.AtMost) (Or (Compares kind.greater comparison'.Greater) (Compares kind.at_least comparison'.AtLeast))))) x w
  split_comparison (comparison'.Equal, at) w l = inl (at, refl, l)
  split_comparison (comparison'.Unequal, at) w l = inr (inl (at, refl, l))
  split_comparison (comparison'.Less, at) w l = inr (inr (inl (at, refl, l)))
  split_comparison (comparison'.AtMost, at) w l = inr (inr (inr (inl (at, refl, l))))
  split_comparison (comparison'.Greater, at) w l = inr (inr (inr (inr (inl (at, refl, l)))))
  split_comparison (comparison'.AtLeast, at) w l = inr (inr (inr (inr (inr (at, refl, l)))))

  compares : (k : ℕ) (c : Comparison) → Rule limit (one_kind k) (Compares k c) ((λ at. (c, at)) <$> symbol k)
  compares k c = to (λ at. (c, at)) (one k)

  rule_comparison : Rule limit (record { first = comparison_kinds; nullable = false; follow_last = [] }) Comparing reader.comparison
  unfolding reader.comparison
  rule_comparison =
      is _ Comparing
      (or (kind.equal ∷ []) (compares kind.equal comparison'.Equal) (or (kind.unequal ∷ []) (compares kind.unequal comparison'.Unequal)
      (or (kind.less ∷ []) (compares kind.less comparison'.Less) (or (kind.at_most ∷ []) (compares kind.at_most comparison'.AtMost)
      (or (kind.greater ∷ []) (compares kind.greater comparison'.Greater) (compares kind.at_least comparison'.AtLeast).exact refl refl refl).exact refl refl refl).exact refl refl refl).exact refl refl refl).exact refl refl refl)
      (either (form Comparing (λ b w l. l)) (either (form Comparing (λ b w l. l)) (either (form Comparing (λ b w l. l)) (either (form Comparing (λ b w l. l)) (either (form Comparing (λ b w l. l)) (form Comparing (λ b w l. l))))))) split_comparison refl

  -- ---- membership

  -- after "in": bounds, or an identifier
  abbrev AfterIn : Simple → Option ℕ → ℕ → Rel → Language
  AfterIn value negation at =
      Or (Image (λ (b : Simple × Simple). Within value negation at b.0 b.1) (λ b. Words spell.simple depth b.0 ⋅ Above b.1))
      (Image (OfMark value negation at) (Leaf depth kind.identifier))

  abbrev WithinCases : Simple → Option ℕ → ℕ → Rel → Language
  WithinCases value negation at =
      Then (Words spell.simple depth) (λ low.
      Or (Image (Within value negation at low) Above) (Given (bare_identifier low) (λ mark. Pure (OfMark value negation at mark))))

  join_within : (value : Simple) (negation : Option ℕ) (at : ℕ) (x : Rel) (w : Word) → WithinCases value negation at x w → AfterIn value negation at x w
  join_within value negation at x w (low, u, v, e, l, inl (high, eq, m)) = inl ((low, high), eq, (u, v, e, l, m))
  join_within value negation at x w (low, u, v, e, l, inr g) = by (bare_identifier low) refl g where
    by : (o : Option ℕ) → bare_identifier low ≡ o → Given o (λ mark. Pure (OfMark value negation at mark)) x v → AfterIn value negation at x w
    by None h g = absurd g
    by (Some mark) h (eq, none) = inr (mark, eq, without_after {L = Leaf depth kind.identifier mark} (u, v, e, identifier_words depth low mark u h l, none))

  split_within : (value : Simple) (negation : Option ℕ) (at : ℕ) (x : Rel) (w : Word) → AfterIn value negation at x w → WithinCases value negation at x w
  split_within value negation at x w (inl (b, eq, (u, v, e, l, m))) = (b.0, u, v, e, l, inl (b.1, eq, m))
  split_within value negation at x w (inr (mark, eq, l)) = (
    sum_of (name_for mark),
    w,
    [],
    sym (append-nil w),
    words_identifier depth mark w l,
    inr (subst (λ o. Given o (λ m. Pure (OfMark value negation at m)) x []) (sym (identifier_sum mark)) (eq, refl)),
  )

  abbrev within_sets : Sets
  within_sets = record { first = simple_sets.first; nullable = false; follow_last = kind.dots ∷ simple_sets.follow_last }

  rule_within : (value : Simple) (negation : Option ℕ) (at : ℕ) → Rule limit within_sets (AfterIn value negation at) (reader.within inner value negation at)
  unfolding reader.within
  rule_within value negation at =
      is within_sets (AfterIn value negation at)
      (seq simple (λ low. or (kind.dots ∷ []) (to (Within value negation at low) (rule_upper limit depth within inner below))
      (exact_given (bare_identifier low) (λ mark. (give (OfMark value negation at mark)).exact)) refl refl refl) refl)
      (join_within value negation at) (split_within value negation at) refl

  -- ---- relations

  -- after the first sum
  abbrev pub RelFrom : Simple → Rel → Language
  RelFrom s =
      Or (Image (λ (b : (Comparison × ℕ) × Simple). Compared s b.0.0 b.0.1 b.1) (λ b. Comparing b.0 ⋅ Words spell.simple depth b.1))
      (Or (Then (Leaf depth kind.in_word) (AfterIn s None))
      (Or (Then (Leaf depth kind.not_word) (λ n. Then (Leaf depth kind.in_word) (AfterIn s (Some n))))
      (Pure (Alone s))))

  pub rule_rel_from : (s : Simple) → Rule limit rel_from_sets (RelFrom s) (reader.rel_from inner s)
  unfolding reader.rel_from
  rule_rel_from s =
      is rel_from_sets (RelFrom s)
      (or comparison_kinds (keep rule_comparison (λ c. to (Compared s c.0 c.1) simple) refl)
      (or (kind.in_word ∷ []) (seq (one kind.in_word) (rule_within s None) refl)
      (or (kind.not_word ∷ []) (seq (one kind.not_word) (λ n. seq (one kind.in_word) (rule_within s (Some n)) refl) refl)
      (give (Alone s)).exact refl refl refl).exact refl refl refl).exact refl refl refl)
      (λ x w l. l) (λ x w l. l) refl

  pub join_rel : (x : Rel) (w : Word) → Then (Words spell.simple depth) RelFrom x w → Words spell.rel depth x w
  unfolding spell.expr
  join_rel x w (s, u, v, e, l, inl (b, eq, m)) = from (Words spell.rel depth) eq (u, v, e, l, m)
  join_rel x w (s, u, v, e, l, inr (inl (at, u1, v1, e1, i, inl (b, eq, m)))) = from (Words spell.rel depth) eq (u, v, e, l, ([], v, refl, refl, (u1, v1, e1, i, m)))
  join_rel x w (s, u, v, e, l, inr (inl (at, u1, v1, e1, i, inr (mark, eq, m)))) = from (Words spell.rel depth) eq (u, v, e, l, ([], v, refl, refl, (u1, v1, e1, i, m)))
  join_rel x w (s, u, v, e, l, inr (inr (inl (n, u1, v1, e1, i, (at, u2, v2, e2, j, inl (b, eq, m)))))) = from (Words spell.rel depth) eq (u, v, e, l, (u1, v1, e1, i, (u2, v2, e2, j, m)))
  join_rel x w (s, u, v, e, l, inr (inr (inl (n, u1, v1, e1, i, (at, u2, v2, e2, j, inr (mark, eq, m)))))) = from (Words spell.rel depth) eq (u, v, e, l, (u1, v1, e1, i, (u2, v2, e2, j, m)))
  join_rel x w (s, u, v, e, l, inr (inr (inr (eq, none)))) = from (Words spell.rel depth) eq (without_after {L = Words spell.simple depth s} (u, v, e, l, none))

  pub split_rel : (x : Rel) (w : Word) → Words spell.rel depth x w → Then (Words spell.simple depth) RelFrom x w
  unfolding spell.expr
  split_rel (Compared s c at t) w (u, v, e, l, m) = (s, u, v, e, l, inl (((c, at), t), refl, m))
  split_rel (Within s None at low high) w (u, v, e, l, k) = let (u1, v1, e1, i, m) = without_before k in (s, u, v, e, l, inr (inl (at, u1, v1, e1, i, inl ((low, high), refl, m))))
  split_rel (Within s (Some n) at low high) w (u, v, e, l, (u1, v1, e1, i, (u2, v2, e2, j, m))) = (s, u, v, e, l, inr (inr (inl (n, u1, v1, e1, i, (at, u2, v2, e2, j, inl ((low, high), refl, m))))))
  split_rel (OfMark s None at mark) w (u, v, e, l, k) = let (u1, v1, e1, i, m) = without_before k in (s, u, v, e, l, inr (inl (at, u1, v1, e1, i, inr (mark, refl, m))))
  split_rel (OfMark s (Some n) at mark) w (u, v, e, l, (u1, v1, e1, i, (u2, v2, e2, j, m))) = (s, u, v, e, l, inr (inr (inl (n, u1, v1, e1, i, (at, u2, v2, e2, j, inr (mark, refl, m))))))
  split_rel (Alone s) w l = (s, w, [], sym (append-nil w), l, inr (inr (inr (refl, refl))))

  pub rule_rel : Rule limit rel_sets (Words spell.rel depth) (reader.rel inner)
  unfolding reader.rel
  rule_rel = is rel_sets (Words spell.rel depth) (seq simple rule_rel_from refl) join_rel split_rel refl

  -- ---- chains of one logical operator

  -- what begins with a kind and ends with a relation
  abbrev conjunct_sets : ℕ → Sets
  conjunct_sets k = record { first = k ∷ []; nullable = false; follow_last = rel_sets.follow_last }

  abbrev ConjunctWords : Logical → Conjunct → Language
  ConjunctWords op = Words (λ c. spell.conjunct' c op) depth

  -- the word of an operator, and both words of one
  pub rule_conjunct : (op : Logical) (k : ℕ) → ((n : ℕ) (w : Word) → Leaf depth k n w → words_of (spell.logical_word op n depth) w)
      → ((n : ℕ) (w : Word) → words_of (spell.logical_word op n depth) w → Leaf depth k n w) → Rule limit (conjunct_sets k) (ConjunctWords op) (reader.conjunct inner k)
  unfolding reader.conjunct reader.conjoined spell.expr
  rule_conjunct op k f g =
      same (ConjunctWords op) (keep (one k) (λ at. to (syntax.conjunct at) rule_rel) refl)
      (form (ConjunctWords op) (λ b w (u, v, e, i, l). (u, v, e, f b.0 u i, l))) split where
        split : (x : Conjunct) (w : Word) → ConjunctWords op x w → Image (λ (b : ℕ × Rel). syntax.conjunct b.0 b.1) (λ b. Leaf depth k b.0 ⋅ Words spell.rel depth b.1) x w
        split (syntax.conjunct n r) w (u, v, e, i, l) = ((n, r), refl, (u, v, e, g n u i, l))

  pub rule_short : (op : Logical) (k second : ℕ) → ((n : ℕ) (w : Word) → (Leaf depth k n ⋅ Quoted depth second) w → words_of (spell.logical_word op n depth) w)
      → ((n : ℕ) (w : Word) → words_of (spell.logical_word op n depth) w → (Leaf depth k n ⋅ Quoted depth second) w) → Rule limit (conjunct_sets k) (ConjunctWords op) (reader.short_conjunct inner k second)
  unfolding reader.short_conjunct reader.conjoined spell.expr
  rule_short op k second f g =
      same (ConjunctWords op) (keep (one k) (λ at. skip (one second) (to (syntax.conjunct at) rule_rel) refl) refl)
      (form (ConjunctWords op) (λ b w l. let (u, v, e, i, m) = to_left l in (u, v, e, f b.0 u i, m))) split where
        split : (x : Conjunct) (w : Word) → ConjunctWords op x w → Image (λ (b : ℕ × Rel). syntax.conjunct b.0 b.1) (λ b. Leaf depth k b.0 ⋅ (Quoted depth second ⋅ Words spell.rel depth b.1)) x w
        split (syntax.conjunct n r) w (u, v, e, i, l) = ((n, r), refl, to_right {L = Leaf depth k n} {M = Quoted depth second} {N = Words spell.rel depth r} (u, v, e, g n u i, l))

  -- after the first relation and the operator
  abbrev JoinedWords : Logical → Rel → ℕ → Expr → Language
  JoinedWords op first at = Image (λ (b : Rel × Conjuncts). Joined op first at b.0 b.1) (λ b. Words spell.rel depth b.0 ⋅ Words (λ cs. spell.conjuncts cs op) depth b.1)

  rule_joined : {next : Reader Conjunct} (op : Logical) (first : Rel) (at k : ℕ) → Rule limit (conjunct_sets k) (ConjunctWords op) next
      → is_subset (k ∷ []) (k ∷ []) ≡ true → are_disjoint rel_sets.follow_last (k ∷ []) ≡ true → is_member (k ∷ []) 0 ≡ false
      → Rule limit (then_sets rel_sets (repeat_sets (k ∷ []) (conjunct_sets k))) (JoinedWords op first at) (reader.joined inner op first at (k ∷ []) next)
  unfolding reader.joined
  rule_joined op first at k h taken apart no_end =
      keep rule_rel (λ r. to (Joined op first at r) (items (k ∷ []) (conjuncts_listed op depth) conjuncts_grow h refl taken apart no_end)) apart

  abbrev AfterAnd : Rel → ℕ → Expr → Language
  AfterAnd first at =
      Or (Image (λ (b : Rel × Conjuncts). Joined logical.AndThen first at b.0 b.1) (λ b. Quoted depth kind.then_word ⋅ (Words spell.rel depth b.0 ⋅ Words (λ cs. spell.conjuncts cs logical.AndThen) depth b.1)))
      (JoinedWords logical.And first at)

  rule_after_and : (first : Rel) (at : ℕ) → Rule limit (record { first = kind.then_word ∷ rel_sets.first; nullable = false; follow_last = kind.and_word ∷ rel_sets.follow_last }) (AfterAnd first at) (reader.after_and inner first at)
  unfolding reader.after_and
  rule_after_and first at =
      is _ (AfterAnd first at)
      (or (kind.then_word ∷ [])
      (skip (one kind.then_word) (rule_joined logical.AndThen first at kind.and_word (rule_short logical.AndThen kind.and_word kind.then_word (λ n w l. l) (λ n w l. l)) refl refl refl) refl)
      (rule_joined logical.And first at kind.and_word (rule_conjunct logical.And kind.and_word (λ n w l. l) (λ n w l. l)) refl refl refl).exact refl refl refl)
      (λ x w l. l) (λ x w l. l) refl

  abbrev AfterOr : Rel → ℕ → Expr → Language
  AfterOr first at =
      Or (Image (λ (b : Rel × Conjuncts). Joined logical.OrElse first at b.0 b.1) (λ b. Quoted depth kind.else_word ⋅ (Words spell.rel depth b.0 ⋅ Words (λ cs. spell.conjuncts cs logical.OrElse) depth b.1)))
      (JoinedWords logical.Or first at)

  rule_after_or : (first : Rel) (at : ℕ) → Rule limit (record { first = kind.else_word ∷ rel_sets.first; nullable = false; follow_last = kind.or_word ∷ rel_sets.follow_last }) (AfterOr first at) (reader.after_or inner first at)
  unfolding reader.after_or
  rule_after_or first at =
      is _ (AfterOr first at)
      (or (kind.else_word ∷ [])
      (skip (one kind.else_word) (rule_joined logical.OrElse first at kind.or_word (rule_short logical.OrElse kind.or_word kind.else_word (λ n w l. l) (λ n w l. l)) refl refl refl) refl)
      (rule_joined logical.Or first at kind.or_word (rule_conjunct logical.Or kind.or_word (λ n w l. l) (λ n w l. l)) refl refl refl).exact refl refl refl)
      (λ x w l. l) (λ x w l. l) refl

  -- ---- expressions

  -- after the first relation
  abbrev pub ExprFrom : Rel → Expr → Language
  ExprFrom first =
      Or (Then (Leaf depth kind.and_word) (AfterAnd first))
      (Or (Then (Leaf depth kind.or_word) (AfterOr first))
      (Or (Then (Leaf depth kind.xor_word) (JoinedWords logical.Xor first))
      (Pure (Single first))))

  pub rule_expr_from : (first : Rel) → Rule limit expr_from_sets (ExprFrom first) (reader.expr_from inner first)
  unfolding reader.expr_from
  rule_expr_from first =
      is expr_from_sets (ExprFrom first)
      (or (kind.and_word ∷ []) (seq (one kind.and_word) (rule_after_and first) refl)
      (or (kind.or_word ∷ []) (seq (one kind.or_word) (rule_after_or first) refl)
      (or (kind.xor_word ∷ []) (seq (one kind.xor_word) (λ at. rule_joined logical.Xor first at kind.xor_word (rule_conjunct logical.Xor kind.xor_word (λ n w l. l) (λ n w l. l)) refl refl refl) refl)
      (give (Single first)).exact refl refl refl).exact refl refl refl).exact refl refl refl)
      (λ x w l. l) (λ x w l. l) refl

  pub join_expr : (x : Expr) (w : Word) → Then (Words spell.rel depth) ExprFrom x w → Words spell.expr depth x w
  unfolding spell.expr
  join_expr x w (r, u, v, e, l, inl (at, u1, v1, e1, i, inl (b, eq, m))) = from (Words spell.expr depth) eq (u, v, e, l, to_left (u1, v1, e1, i, m))
  join_expr x w (r, u, v, e, l, inl (at, u1, v1, e1, i, inr (b, eq, m))) = from (Words spell.expr depth) eq (u, v, e, l, (u1, v1, e1, i, m))
  join_expr x w (r, u, v, e, l, inr (inl (at, u1, v1, e1, i, inl (b, eq, m)))) = from (Words spell.expr depth) eq (u, v, e, l, to_left (u1, v1, e1, i, m))
  join_expr x w (r, u, v, e, l, inr (inl (at, u1, v1, e1, i, inr (b, eq, m)))) = from (Words spell.expr depth) eq (u, v, e, l, (u1, v1, e1, i, m))
  join_expr x w (r, u, v, e, l, inr (inr (inl (at, u1, v1, e1, i, (b, eq, m))))) = from (Words spell.expr depth) eq (u, v, e, l, (u1, v1, e1, i, m))
  join_expr x w (r, u, v, e, l, inr (inr (inr (eq, none)))) = from (Words spell.expr depth) eq (without_after {L = Words spell.rel depth r} (u, v, e, l, none))

  pub split_expr : (x : Expr) (w : Word) → Words spell.expr depth x w → Then (Words spell.rel depth) ExprFrom x w
  unfolding spell.expr
  split_expr (Joined logical.And r at s more) w (u, v, e, l, (u1, v1, e1, i, m)) = (r, u, v, e, l, inl (at, u1, v1, e1, i, inr ((s, more), refl, m)))
  split_expr (Joined logical.AndThen r at s more) w (u, v, e, l, k) = let (u1, v1, e1, i, m) = to_right k in (r, u, v, e, l, inl (at, u1, v1, e1, i, inl ((s, more), refl, m)))
  split_expr (Joined logical.Or r at s more) w (u, v, e, l, (u1, v1, e1, i, m)) = (r, u, v, e, l, inr (inl (at, u1, v1, e1, i, inr ((s, more), refl, m))))
  split_expr (Joined logical.OrElse r at s more) w (u, v, e, l, k) = let (u1, v1, e1, i, m) = to_right k in (r, u, v, e, l, inr (inl (at, u1, v1, e1, i, inl ((s, more), refl, m))))
  split_expr (Joined logical.Xor r at s more) w (u, v, e, l, (u1, v1, e1, i, m)) = (r, u, v, e, l, inr (inr (inl (at, u1, v1, e1, i, ((s, more), refl, m)))))
  split_expr (Single r) w l = (r, w, [], sym (append-nil w), l, inr (inr (inr (refl, refl))))

  pub rule_expr : Rule limit expr_sets (Words spell.expr depth) (reader.expr inner)
  unfolding reader.expr
  rule_expr = is expr_sets (Words spell.expr depth) (seq rule_rel rule_expr_from refl) join_expr split_expr refl
