-- The readers of ranges, arguments, choices and associations are exact, where those of what opens a bracket are.
use Rattle.std.proofs.Common.{◌≡◌, ℕ, ◌≤◌, [], ◌∷◌, ◌++◌, true, false, Option, Some, None, inl, inr, refl, sym, subst, append-nil}
use Rattle.ada_base.specs.Symbols.{Word}
use Rattle.ada_base.specs.Languages.{Language, Leaf, Quoted, Then, Or, Pure, Image, Given, ◌⋅◌}
use Rattle.syntax_readers.specs.Readers.{symbol}
use Rattle.syntax_readers.specs.Sets.{Sets, one_kind}
use Rattle.syntax_readers.specs.Exact.{Rule}
use Rattle.syntax_readers.proofs.Singles.{exact_given}
use Rattle.syntax_readers.proofs.Rules.{read, give, seq, or, or_second, to, is}
use Rattle.syntax_readers.proofs.Chains.{items}
use Rattle.syntax_readers.proofs.Forms.{from, to_left, to_right, none_before, without_before, without_after, either, form, keep, skip, lead}
use Rattle.ada_base.specs.Kinds as kind
use Rattle.syntax_tree.specs.Syntax as syntax
use Rattle.syntax_tree.specs.Syntax.{Expr, Simple, Name, Arg, Range, Bounded, Whole, Constrained, Choice, Value, Span, Others, Choices, Associations, Assoc, Chosen, Each}
use Rattle.syntax_tree.specs.Joining.{bare_name, expr_identifier}
use Rattle.syntax_tree.specs.Productions as spell
use Rattle.syntax_grammar.specs.Opened.{Opened}
use Rattle.syntax_grammar.specs.Expressions as base
use Rattle.syntax_grammar.specs.Brackets as reader
use Rattle.syntax_laws.proofs.Words.{Words, After}
use Rattle.syntax_laws.proofs.Lists.{args_grow, args_listed, choices_grow, choices_listed, assocs_grow, assocs_listed}
use Rattle.syntax_laws.proofs.Bares.{sum_of, bare_sum, name_words, sum_words, expr_for, identifier_expr, expr_words, words_expr}
use Rattle.syntax_laws.proofs.Openings.{Opening, simple_sets, upper_sets, expr_sets}
use Rattle.syntax_laws.proofs.Sums.{Upper, rule_simple, rule_upper}
use Rattle.syntax_laws.proofs.Relations.{rule_expr}

abbrev pub range_sets : Sets
range_sets = record { first = simple_sets.first; nullable = false; follow_last = kind.range_word ∷ kind.dots ∷ simple_sets.follow_last }

abbrev pub arrow_sets : Sets
arrow_sets = record { first = kind.arrow ∷ []; nullable = false; follow_last = expr_sets.follow_last }

abbrev pub arg_sets : Sets
arg_sets = record { first = simple_sets.first; nullable = false; follow_last = kind.arrow ∷ expr_sets.follow_last }

abbrev pub choice_from_sets : Sets
choice_from_sets = record { first = kind.dots ∷ []; nullable = true; follow_last = kind.dots ∷ simple_sets.follow_last }

abbrev pub choice_sets : Sets
choice_sets = record { first = kind.others_word ∷ simple_sets.first; nullable = false; follow_last = kind.dots ∷ simple_sets.follow_last }

-- choices after the first
abbrev pub more_choices_sets : Sets
more_choices_sets = record { first = kind.bar ∷ []; nullable = true; follow_last = kind.bar ∷ choice_sets.follow_last }

abbrev pub chosen_sets : Sets
chosen_sets = record { first = kind.bar ∷ kind.arrow ∷ []; nullable = false; follow_last = expr_sets.follow_last }

abbrev pub each_sets : Sets
each_sets = record { first = kind.for_word ∷ []; nullable = false; follow_last = expr_sets.follow_last }

abbrev pub assoc_sets : Sets
assoc_sets = record { first = kind.for_word ∷ choice_sets.first; nullable = false; follow_last = expr_sets.follow_last }

-- what follows an item after commas
abbrev pub more_sets : Sets
more_sets = record { first = kind.comma ∷ []; nullable = true; follow_last = kind.comma ∷ expr_sets.follow_last }

module _ (limit depth : ℕ) (within : depth ≤ limit) (inner : Opened) (below : Opening limit depth inner) where
  one : (k : ℕ) → Rule limit (one_kind k) (Leaf depth k) (symbol k)
  one k = read limit depth within k

  simple : Rule limit simple_sets (Words spell.simple depth) (base.simple inner)
  simple = rule_simple limit depth within inner below

  expr : Rule limit expr_sets (Words spell.expr depth) (base.expr inner)
  expr = rule_expr limit depth within inner below

  abbrev Above : Simple → Language
  Above = Upper limit depth within inner below

  upper : Rule limit upper_sets Above (base.upper_bound inner)
  upper = rule_upper limit depth within inner below

  -- ---- ranges

  abbrev pub Constraint : Simple × Simple → Language
  Constraint b = Quoted depth kind.range_word ⋅ (Words spell.simple depth b.0 ⋅ Above b.1)

  pub rule_constraint : Rule limit (record { first = kind.range_word ∷ []; nullable = false; follow_last = simple_sets.follow_last }) Constraint (reader.constraint inner)
  unfolding reader.constraint
  rule_constraint =
      is _ Constraint (skip (one kind.range_word) (keep simple (λ low. to (λ high. (low, high)) upper) refl) refl)
      (form Constraint (λ b w l. l)) (λ x w l. (x, refl, l)) refl

  abbrev NamedRange : Name → Range → Language
  NamedRange n = Or (Image (λ (b : Simple × Simple). Constrained n b.0 b.1) Constraint) (Pure (Whole n))

  rule_named_range : (n : Name) → Rule limit (record { first = kind.range_word ∷ []; nullable = true; follow_last = kind.range_word ∷ simple_sets.follow_last }) (NamedRange n) (reader.named_range inner n)
  unfolding reader.named_range
  rule_named_range n =
      is _ (NamedRange n) (or (kind.range_word ∷ []) (to (λ (b : Simple × Simple). Constrained n b.0 b.1) rule_constraint) (give (Whole n)).exact refl refl refl)
      (λ x w l. l) (λ x w l. l) refl

  abbrev RangeFrom : Simple → Range → Language
  RangeFrom low = Or (Image (Bounded low) Above) (Given (bare_name low) NamedRange)

  rule_range_from : (low : Simple) → Rule limit (record { first = kind.dots ∷ kind.range_word ∷ []; nullable = true; follow_last = range_sets.follow_last }) (RangeFrom low) (reader.range_from inner low)
  unfolding reader.range_from
  rule_range_from low =
      is _ (RangeFrom low) (or (kind.dots ∷ []) (to (Bounded low) upper) (exact_given (bare_name low) (λ n. (rule_named_range n).exact)) refl refl refl)
      (λ x w l. l) (λ x w l. l) refl

  join_range : (x : Range) (w : Word) → Then (Words spell.simple depth) RangeFrom x w → Words spell.range depth x w
  unfolding spell.expr
  join_range x w (low, u, v, e, l, inl (high, eq, m)) = from (Words spell.range depth) eq (u, v, e, l, m)
  join_range x w (low, u, v, e, l, inr g) = by (bare_name low) refl g where
    by : (o : Option Name) → bare_name low ≡ o → Given o NamedRange x v → Words spell.range depth x w
    by None h g = absurd g
    by (Some n) h (inl (b, eq, m)) = from (Words spell.range depth) eq (u, v, e, name_words depth low n u h l, m)
    by (Some n) h (inr (eq, none)) = from (Words spell.range depth) eq (without_after {L = Words spell.name' depth n} (u, v, e, name_words depth low n u h l, none))

  split_range : (x : Range) (w : Word) → Words spell.range depth x w → Then (Words spell.simple depth) RangeFrom x w
  unfolding spell.expr
  split_range (Bounded low high) w (u, v, e, l, m) = (low, u, v, e, l, inl (high, refl, m))
  split_range (Whole n) w l = (sum_of n, w, [], sym (append-nil w), sum_words depth n w l, inr (subst (λ o. Given o NamedRange (Whole n) []) (sym (bare_sum n)) (inr (refl, refl))))
  split_range (Constrained n low high) w (u, v, e, l, m) =
      (sum_of n, u, v, e, sum_words depth n u l, inr (subst (λ o. Given o NamedRange (Constrained n low high) v) (sym (bare_sum n)) (inl ((low, high), refl, m))))

  pub rule_range : Rule limit range_sets (Words spell.range depth) (reader.range inner)
  unfolding reader.range
  rule_range = is range_sets (Words spell.range depth) (seq simple rule_range_from refl) join_range split_range refl

  -- ---- arguments

  -- an arrow and an expression
  abbrev pub ArrowValue : Expr → Language
  ArrowValue v = Quoted depth kind.arrow ⋅ Words spell.expr depth v

  pub rule_arrow_value : Rule limit arrow_sets ArrowValue (reader.arrow_value inner)
  unfolding reader.arrow_value
  rule_arrow_value = is arrow_sets ArrowValue (lead (one kind.arrow) expr refl) (λ x w l. l) (λ x w l. l) refl

  rule_named_arg : (n : ℕ) → Rule limit arrow_sets (Image (syntax.arg (Some n)) ArrowValue) (reader.named_arg inner n)
  unfolding reader.named_arg
  rule_named_arg n = to (syntax.arg (Some n)) rule_arrow_value

  abbrev ArgCases : Arg → Language
  ArgCases = Then (Words spell.expr depth) (λ e. Or (Given (expr_identifier e) (λ n. Image (syntax.arg (Some n)) ArrowValue)) (Pure (syntax.arg None e)))

  join_arg : (x : Arg) (w : Word) → ArgCases x w → Words spell.arg' depth x w
  unfolding spell.expr
  join_arg x w (y, u, v, e, l, inl g) = by (expr_identifier y) refl g where
    by : (o : Option ℕ) → expr_identifier y ≡ o → Given o (λ n. Image (syntax.arg (Some n)) ArrowValue) x v → Words spell.arg' depth x w
    by None h g = absurd g
    by (Some n) h (value, eq, m) = from (Words spell.arg' depth) eq (to_left {L = Leaf depth kind.identifier n} {M = Quoted depth kind.arrow} {N = Words spell.expr depth value} (u, v, e, expr_words depth y n u h l, m))
  join_arg x w (y, u, v, e, l, inr (eq, none)) =
      from (Words spell.arg' depth) eq (none_before {L = Words spell.expr depth y} (without_after {L = Words spell.expr depth y} (u, v, e, l, none)))

  split_arg : (x : Arg) (w : Word) → Words spell.arg' depth x w → ArgCases x w
  unfolding spell.expr
  split_arg (syntax.arg (Some n) value) w l =
      let (u, v, e, i, m) = to_right l in
      (expr_for n, u, v, e, words_expr depth n u i, inl (subst (λ o. Given o (λ k. Image (syntax.arg (Some k)) ArrowValue) (syntax.arg (Some n) value) v) (sym (identifier_expr n)) (value, refl, m)))
  split_arg (syntax.arg None y) w l = (y, w, [], sym (append-nil w), without_before l, inr (refl, refl))

  pub rule_arg : Rule limit arg_sets (Words spell.arg' depth) (reader.arg inner)
  unfolding reader.arg
  rule_arg =
      is arg_sets (Words spell.arg' depth)
      (seq expr (λ e. or_second (kind.arrow ∷ []) (exact_given (expr_identifier e) (λ n. (rule_named_arg n).exact)) (give (syntax.arg None e)) refl refl refl) refl)
      join_arg split_arg refl

  rule_next_arg : Rule limit (record { first = kind.comma ∷ []; nullable = false; follow_last = arg_sets.follow_last }) (After kind.comma spell.arg' depth) (reader.next_arg inner)
  unfolding reader.next_arg
  rule_next_arg = is _ (After kind.comma spell.arg' depth) (lead (one kind.comma) rule_arg refl) (λ x w l. l) (λ x w l. l) refl

  pub rule_more_args : Rule limit (record { first = kind.comma ∷ []; nullable = true; follow_last = arg_sets.follow_last ++ kind.comma ∷ [] }) (Words spell.args depth) (reader.more_args inner)
  unfolding reader.more_args
  rule_more_args = items (kind.comma ∷ []) (args_listed depth) args_grow rule_next_arg refl refl refl refl

  -- ---- choices

  abbrev pub ChoiceFrom : Simple → Choice → Language
  ChoiceFrom low = Or (Image (Span low) Above) (Pure (Value low))

  pub rule_choice_from : (low : Simple) → Rule limit choice_from_sets (ChoiceFrom low) (reader.choice_from inner low)
  unfolding reader.choice_from
  rule_choice_from low = is choice_from_sets (ChoiceFrom low) (or (kind.dots ∷ []) (to (Span low) upper) (give (Value low)).exact refl refl refl) (λ x w l. l) (λ x w l. l) refl

  pub rule_others_choice : Rule limit (one_kind kind.others_word) (Image Others (Leaf depth kind.others_word)) reader.others_choice
  unfolding reader.others_choice
  rule_others_choice = to Others (one kind.others_word)

  pub join_choice_from : (x : Choice) (w : Word) → Then (Words spell.simple depth) ChoiceFrom x w → Words spell.choice depth x w
  unfolding spell.expr
  join_choice_from x w (low, u, v, e, l, inl (high, eq, m)) = from (Words spell.choice depth) eq (u, v, e, l, m)
  join_choice_from x w (low, u, v, e, l, inr (eq, none)) = from (Words spell.choice depth) eq (without_after {L = Words spell.simple depth low} (u, v, e, l, none))

  pub split_choice : (x : Choice) (w : Word) → Words spell.choice depth x w → Or (Image Others (Leaf depth kind.others_word)) (Then (Words spell.simple depth) ChoiceFrom) x w
  unfolding spell.expr
  split_choice (Value low) w l = inr (low, w, [], sym (append-nil w), l, inr (refl, refl))
  split_choice (Span low high) w (u, v, e, l, m) = inr (low, u, v, e, l, inl (high, refl, m))
  split_choice (Others at) w l = inl (at, refl, l)

  pub rule_choice : Rule limit choice_sets (Words spell.choice depth) (reader.choice inner)
  unfolding reader.choice spell.expr
  rule_choice =
      is choice_sets (Words spell.choice depth) (or (kind.others_word ∷ []) rule_others_choice (seq simple rule_choice_from refl).exact refl refl refl)
      (either (form (Words spell.choice depth) (λ b w l. l)) join_choice_from) split_choice refl

  pub rule_next_choice : Rule limit (record { first = kind.bar ∷ []; nullable = false; follow_last = choice_sets.follow_last }) (After kind.bar spell.choice depth) (reader.next_choice inner)
  unfolding reader.next_choice
  rule_next_choice = is _ (After kind.bar spell.choice depth) (lead (one kind.bar) rule_choice refl) (λ x w l. l) (λ x w l. l) refl

  pub rule_more_choices : Rule limit more_choices_sets (Words spell.choices depth) (reader.more_choices inner)
  unfolding reader.more_choices
  rule_more_choices = is more_choices_sets (Words spell.choices depth) (items (kind.bar ∷ []) (choices_listed depth) choices_grow rule_next_choice refl refl refl refl) (λ x w l. l) (λ x w l. l) refl

  -- ---- associations

  -- after the first choice
  abbrev pub ChosenFrom : Choice → Assoc → Language
  ChosenFrom first = Image (λ (b : Choices × Expr). Chosen first b.0 b.1) (λ b. Words spell.choices depth b.0 ⋅ ArrowValue b.1)

  pub rule_chosen : (first : Choice) → Rule limit chosen_sets (ChosenFrom first) (reader.chosen inner first)
  unfolding reader.chosen
  rule_chosen first = is chosen_sets (ChosenFrom first) (keep rule_more_choices (λ cs. to (Chosen first cs) rule_arrow_value) refl) (λ x w l. l) (λ x w l. l) refl

  abbrev pub EachWords : Assoc → Language
  EachWords = Image (λ (b : ℕ × (ℕ × (Range × Expr))). Each b.0 b.1.0 b.1.1.0 b.1.1.1)
      (λ b. Leaf depth kind.for_word b.0 ⋅ (Leaf depth kind.identifier b.1.0 ⋅ (Quoted depth kind.in_word ⋅ (Words spell.range depth b.1.1.0 ⋅ ArrowValue b.1.1.1))))

  pub rule_each : Rule limit each_sets EachWords (reader.each inner)
  unfolding reader.each
  rule_each =
      is each_sets EachWords
      (keep (one kind.for_word) (λ at. keep (one kind.identifier) (λ index. skip (one kind.in_word) (keep rule_range (λ r. to (Each at index r) rule_arrow_value) refl) refl) refl) refl)
      (λ x w l. l) (λ x w l. l) refl

  pub join_assoc : (x : Assoc) (w : Word) → Then (Words spell.choice depth) ChosenFrom x w → Words spell.assoc depth x w
  unfolding spell.expr
  join_assoc x w (c, u, v, e, l, (b, eq, m)) = from (Words spell.assoc depth) eq (u, v, e, l, m)

  pub join_each : (x : Assoc) (w : Word) → EachWords x w → Words spell.assoc depth x w
  unfolding spell.expr
  join_each = form (Words spell.assoc depth) (λ b w l. l)

  pub split_assoc : (x : Assoc) (w : Word) → Words spell.assoc depth x w → Or EachWords (Then (Words spell.choice depth) ChosenFrom) x w
  unfolding spell.expr
  split_assoc (Chosen first more value) w (u, v, e, l, m) = inr (first, u, v, e, l, ((more, value), refl, m))
  split_assoc (Each at index r value) w l = inl ((at, (index, (r, value))), refl, l)

  rule_assoc : Rule limit assoc_sets (Words spell.assoc depth) (reader.assoc inner)
  unfolding reader.assoc
  rule_assoc =
      is assoc_sets (Words spell.assoc depth) (or (kind.for_word ∷ []) rule_each (seq rule_choice rule_chosen refl).exact refl refl refl)
      (either join_each join_assoc) split_assoc refl

  pub rule_next_assoc : Rule limit (record { first = kind.comma ∷ []; nullable = false; follow_last = expr_sets.follow_last }) (After kind.comma spell.assoc depth) (reader.next_assoc inner)
  unfolding reader.next_assoc
  rule_next_assoc = is _ (After kind.comma spell.assoc depth) (lead (one kind.comma) rule_assoc refl) (λ x w l. l) (λ x w l. l) refl

  rule_more_assocs : Rule limit more_sets (Words spell.assocs depth) (reader.more_assocs inner)
  unfolding reader.more_assocs
  rule_more_assocs = is more_sets (Words spell.assocs depth) (items (kind.comma ∷ []) (assocs_listed depth) assocs_grow rule_next_assoc refl refl refl refl) (λ x w l. l) (λ x w l. l) refl

  -- associations after the first
  pub rule_assocs_from : (first : Assoc) → Rule limit more_sets (Image (Associations first) (Words spell.assocs depth)) (reader.assocs_from inner first)
  unfolding reader.assocs_from
  rule_assocs_from first = to (Associations first) rule_more_assocs
