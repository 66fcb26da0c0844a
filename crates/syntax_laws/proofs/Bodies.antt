-- The readers of names of packages and exceptions, of sequences of statements, bodies and alternatives are exact, where
-- that of the statements in them is.
use Rattle.std.proofs.Common.{◌≡◌, ℕ, ◌+◌, ◌≤◌, List, [], ◌∷◌, true, false, Option, inl, inr, refl, sym, append-nil, arith}
use Rattle.ada_base.specs.Symbols.{Word}
use Rattle.ada_base.specs.Languages.{Language, Leaf, Quoted, Then, Or, Pure, Image, ◌⋅◌}
use Rattle.syntax_readers.specs.Readers.{Reader, ◌>>◌, pure, symbol}
use Rattle.syntax_readers.specs.Sets.{Sets, one_kind}
use Rattle.syntax_readers.specs.Exact.{Rule}
use Rattle.syntax_readers.proofs.Rules.{read, give, seq, or, to, is, same}
use Rattle.syntax_readers.proofs.Chains.{items, list_grows}
use Rattle.syntax_readers.proofs.Forms.{from, without_after, either, form, keep, skip, lead}
use Rattle.ada_base.specs.Kinds as kind
use Rattle.syntax_tree.specs.Syntax as syntax
use Rattle.syntax_tree.specs.Syntax.{Expr, Choice, Pack, Handled, AnyOther, These, Stmt, Stmts, MoreStmts, OptionalStmts, AbsentStmts, PresentStmts, Arm, Alt, Body, Handler, Handlers, NoHandler, AlsoHandler}
use Rattle.syntax_tree.specs.Patterns.{free, optional_of, each_of_after}
use Rattle.syntax_tree.specs.Productions as spell
use Rattle.syntax_grammar.specs.Levels.{levels}
use Rattle.syntax_grammar.specs.Expressions as base
use Rattle.syntax_grammar.specs.Brackets as brackets
use Rattle.syntax_grammar.specs.Statements as reader
use Rattle.syntax_grammar.specs.Statements.{stmt_kinds}
use Rattle.syntax_laws.proofs.Words.{Words, After, maybe, each_after_listed}
use Rattle.syntax_laws.proofs.Lists.{stmts_grow, stmts_listed, arms_grow, arms_listed, alts_grow, alts_listed, branches_grow, branches_listed, handlers_grow, handlers_listed}
use Rattle.syntax_laws.proofs.Openings.{Opening, expr_sets}
use Rattle.syntax_laws.proofs.Relations.{rule_expr}
use Rattle.syntax_laws.proofs.Associations as association
use Rattle.syntax_laws.proofs.Associations.{choice_sets}
use Rattle.syntax_laws.proofs.Levels.{opening_at}

abbrev pub pack_sets : Sets
pack_sets = record { first = kind.identifier ∷ []; nullable = false; follow_last = kind.point ∷ [] }

abbrev pub maybe_identifier_sets : Sets
maybe_identifier_sets = record { first = kind.identifier ∷ []; nullable = true; follow_last = kind.identifier ∷ [] }

abbrev pub stmt_sets : Sets
stmt_sets = record { first = stmt_kinds; nullable = false; follow_last = [] }

-- what ends with statements may go on with one
abbrev pub before_stmts : ℕ → Sets
before_stmts k = record { first = k ∷ []; nullable = false; follow_last = stmt_kinds }

abbrev pub stmts_sets : Sets
stmts_sets = record { first = stmt_kinds; nullable = false; follow_last = stmt_kinds }

abbrev pub body_sets : Sets
body_sets = record { first = stmt_kinds; nullable = false; follow_last = kind.exception_word ∷ kind.when_word ∷ stmt_kinds }

-- a list of what begins with a kind and ends with statements
abbrev pub list_sets : ℕ → Sets
list_sets k = record { first = k ∷ []; nullable = true; follow_last = k ∷ stmt_kinds }

module _ (limit depth : ℕ) (within : depth ≤ limit) where
  plain : (k : ℕ) → Rule limit (one_kind k) (Leaf depth k) (symbol k)
  plain k = read limit depth within k

  rule_next_name : Rule limit (one_kind kind.point) (After kind.point spell.identifier depth) reader.next_name
  unfolding reader.next_name
  rule_next_name = lead (plain kind.point) (plain kind.identifier) refl

  pub rule_pack : Rule limit pack_sets (Words spell.pack depth) reader.pack
  unfolding reader.pack
  rule_pack =
      is pack_sets (Words spell.pack depth)
      (keep (plain kind.identifier) (λ n. to (λ (ns : List ℕ). let p : Pack = record { first = n; more = ns } in p) (items (kind.point ∷ []) (each_after_listed spell.identifier depth kind.point) list_grows rule_next_name refl refl refl refl)) refl)
      (form (Words spell.pack depth) (λ b w l. l)) (λ x w l. ((x.first, x.more), refl, l)) refl

  rule_next_exception : Rule limit (record { first = kind.bar ∷ []; nullable = false; follow_last = kind.point ∷ [] }) (After kind.bar spell.pack depth) reader.next_exception
  unfolding reader.next_exception
  rule_next_exception = is _ (After kind.bar spell.pack depth) (lead (plain kind.bar) rule_pack refl) (λ x w l. l) (λ x w l. l) refl

  split_handled : (x : Handled) (w : Word) → Words spell.handled depth x w
      → Or (Image AnyOther (Leaf depth kind.others_word)) (Image (λ (b : Pack × List Pack). These b.0 b.1) (λ b. Words spell.pack depth b.0 ⋅ Words (each_of_after (free kind.bar) spell.pack) depth b.1)) x w
  split_handled (AnyOther at) w i = inl (at, refl, i)
  split_handled (These p ps) w l = inr ((p, ps), refl, l)

  rule_handled : Rule limit (record { first = kind.others_word ∷ kind.identifier ∷ []; nullable = false; follow_last = kind.bar ∷ kind.point ∷ [] }) (Words spell.handled depth) reader.handled
  unfolding reader.handled
  rule_handled =
      is _ (Words spell.handled depth)
      (or (kind.others_word ∷ []) (to AnyOther (plain kind.others_word))
      (keep rule_pack (λ p. to (These p) (items (kind.bar ∷ []) (each_after_listed spell.pack depth kind.bar) list_grows rule_next_exception refl refl refl refl)) refl).exact refl refl refl)
      (either (form (Words spell.handled depth) (λ b w l. l)) (form (Words spell.handled depth) (λ b w l. l))) split_handled refl

  abbrev pub MaybeIdentifier : Option ℕ → Language
  MaybeIdentifier = Words (optional_of spell.identifier) depth

  pub rule_maybe_identifier : Rule limit maybe_identifier_sets MaybeIdentifier reader.maybe_identifier
  unfolding reader.maybe_identifier
  rule_maybe_identifier = maybe spell.identifier depth (kind.identifier ∷ []) (plain kind.identifier) refl refl refl

  -- the end of a statement that repeats its first word
  abbrev pub Closing : ℕ → Language
  Closing k = Quoted depth kind.end_word ⋅ (Quoted depth k ⋅ Quoted depth kind.semicolon)

  pub closed : {A : Type 0} (k : ℕ) (x : A) → Rule limit (one_kind kind.end_word) (Image (λ (_ : Unit {0}). x) (λ _. Closing k)) (reader.closing k >> pure x)
  unfolding reader.closing
  closed k x =
      same (Image (λ (_ : Unit {0}). x) (λ _. Closing k)) (to (λ _. x) (lead (plain kind.end_word) (lead (plain k) (plain kind.semicolon) refl) refl))
      (λ y w (n, eq, (u, v, e, i, (u1, v1, e1, j, s))). (tt, eq, (u, v, e, i, (u1, v1, e1, j, (n, s)))))
      (λ y w (_, eq, (u, v, e, i, (u1, v1, e1, j, (n, s)))). (n, eq, (u, v, e, i, (u1, v1, e1, j, s))))

-- ---- what has statements in it, where `next` reads one

module _ (limit n depth : ℕ) (levelled : n + depth ≡ limit) (next : Reader Stmt) (rule_next : Rule limit stmt_sets (Words spell.stmt depth) next) where
  within : depth ≤ limit
  within = omega (arith, levelled)

  below : Opening limit depth (levels n)
  below = opening_at limit n depth levelled

  one : (k : ℕ) → Rule limit (one_kind k) (Leaf depth k) (symbol k)
  one k = read limit depth within k

  expr : Rule limit expr_sets (Words spell.expr depth) (base.expr (levels n))
  expr = rule_expr limit depth within (levels n) below

  pub rule_stmts : Rule limit stmts_sets (Words spell.stmts' depth) (reader.stmts n next)
  unfolding reader.stmts spell.stmt
  rule_stmts =
      is stmts_sets (Words spell.stmts' depth) (keep rule_next (λ s. to (syntax.stmts s) (items stmt_kinds (stmts_listed depth) stmts_grow rule_next refl refl refl refl)) refl)
      (form (Words spell.stmts' depth) (λ b w l. l)) split refl where
        split : (x : Stmts) (w : Word) → Words spell.stmts' depth x w → Image (λ (b : Stmt × MoreStmts). syntax.stmts b.0 b.1) (λ b. Words spell.stmt depth b.0 ⋅ Words spell.more_stmts depth b.1) x w
        split (syntax.stmts s more) w l = ((s, more), refl, l)

  -- statements after a word or a mark
  pub rule_then_stmts : Rule limit (before_stmts kind.then_word) (After kind.then_word spell.stmts' depth) (reader.then_stmts n next)
  unfolding reader.then_stmts
  rule_then_stmts = is (before_stmts kind.then_word) (After kind.then_word spell.stmts' depth) (lead (one kind.then_word) rule_stmts refl) (λ x w l. l) (λ x w l. l) refl

  pub rule_arrow_stmts : Rule limit (before_stmts kind.arrow) (After kind.arrow spell.stmts' depth) (reader.arrow_stmts n next)
  unfolding reader.arrow_stmts
  rule_arrow_stmts = is (before_stmts kind.arrow) (After kind.arrow spell.stmts' depth) (lead (one kind.arrow) rule_stmts refl) (λ x w l. l) (λ x w l. l) refl

  pub rule_and_stmts : Rule limit (before_stmts kind.and_word) (After kind.and_word spell.stmts' depth) (reader.and_stmts n next)
  unfolding reader.and_stmts
  rule_and_stmts = is (before_stmts kind.and_word) (After kind.and_word spell.stmts' depth) (lead (one kind.and_word) rule_stmts refl) (λ x w l. l) (λ x w l. l) refl

  -- ---- bodies

  rule_handler : Rule limit (before_stmts kind.when_word) (Words spell.handler' depth) (reader.handler n next)
  unfolding reader.handler spell.stmt
  rule_handler =
      is (before_stmts kind.when_word) (Words spell.handler' depth)
      (keep (one kind.when_word) (λ at. keep (rule_handled limit depth within) (λ h. to (syntax.handler at h) rule_arrow_stmts) refl) refl)
      (form (Words spell.handler' depth) (λ b w l. l)) split refl where
        split : (x : Handler) (w : Word) → Words spell.handler' depth x w
            → Image (λ (b : ℕ × (Handled × Stmts)). syntax.handler b.0 b.1.0 b.1.1) (λ b. Leaf depth kind.when_word b.0 ⋅ (Words spell.handled depth b.1.0 ⋅ After kind.arrow spell.stmts' depth b.1.1)) x w
        split (syntax.handler at h s) w l = ((at, (h, s)), refl, l)

  abbrev HandlersWords : Handlers → Language
  HandlersWords = Image (λ (b : Handler × Handlers). AlsoHandler b.0 b.1) (λ b. Quoted depth kind.exception_word ⋅ (Words spell.handler' depth b.0 ⋅ Words spell.handlers depth b.1))

  rule_handlers : Rule limit (record { first = kind.exception_word ∷ []; nullable = false; follow_last = kind.when_word ∷ stmt_kinds }) HandlersWords (reader.handlers n next)
  unfolding reader.handlers
  rule_handlers =
      is _ HandlersWords
      (skip (one kind.exception_word) (keep rule_handler (λ h. to (AlsoHandler h) (items (kind.when_word ∷ []) (handlers_listed depth) handlers_grow rule_handler refl refl refl refl)) refl) refl)
      (λ x w l. l) (λ x w l. l) refl

  abbrev BodyCases : Body → Language
  BodyCases = Then (Words spell.stmts' depth) (λ s. Or (Image (syntax.body s) HandlersWords) (Pure (syntax.body s NoHandler)))

  join_body : (x : Body) (w : Word) → BodyCases x w → Words spell.body' depth x w
  unfolding spell.stmt
  join_body x w (s, u, v, e, l, inl (hs, eq, (b, is', m))) =
      from (λ z. Words spell.body' depth z) eq (from (λ z. Words spell.body' depth (syntax.body s z)) is' (u, v, e, l, m))
  join_body x w (s, u, v, e, l, inr (eq, none)) = from (λ z. Words spell.body' depth z) eq (without_after {L = Words spell.stmts' depth s} (u, v, e, l, none))

  split_body : (x : Body) (w : Word) → Words spell.body' depth x w → BodyCases x w
  unfolding spell.stmt
  split_body (syntax.body s NoHandler) w l = (s, w, [], sym (append-nil w), l, inr (refl, refl))
  split_body (syntax.body s (AlsoHandler h hs)) w (u, v, e, l, m) = (s, u, v, e, l, inl (AlsoHandler h hs, refl, ((h, hs), refl, m)))

  pub rule_body : Rule limit body_sets (Words spell.body' depth) (reader.body n next)
  unfolding reader.body
  rule_body =
      is body_sets (Words spell.body' depth)
      (seq rule_stmts (λ s. or (kind.exception_word ∷ []) (to (syntax.body s) rule_handlers) (give (syntax.body s NoHandler)).exact refl refl refl) refl)
      join_body split_body refl

  -- ---- alternatives

  rule_arm : Rule limit (before_stmts kind.elsif_word) (Words spell.arm' depth) (reader.arm n next)
  unfolding reader.arm spell.stmt
  rule_arm =
      is (before_stmts kind.elsif_word) (Words spell.arm' depth)
      (keep (one kind.elsif_word) (λ at. keep expr (λ c. to (syntax.arm at c) rule_then_stmts) refl) refl)
      (form (Words spell.arm' depth) (λ b w l. l)) split refl where
        split : (x : Arm) (w : Word) → Words spell.arm' depth x w
            → Image (λ (b : ℕ × (Expr × Stmts)). syntax.arm b.0 b.1.0 b.1.1) (λ b. Leaf depth kind.elsif_word b.0 ⋅ (Words spell.expr depth b.1.0 ⋅ After kind.then_word spell.stmts' depth b.1.1)) x w
        split (syntax.arm at c s) w l = ((at, (c, s)), refl, l)

  pub rule_arms : Rule limit (list_sets kind.elsif_word) (Words spell.arms depth) (reader.arms n next)
  unfolding reader.arms
  rule_arms = is (list_sets kind.elsif_word) (Words spell.arms depth) (items (kind.elsif_word ∷ []) (arms_listed depth) arms_grow rule_arm refl refl refl refl) (λ x w l. l) (λ x w l. l) refl

  split_otherwise : (x : OptionalStmts) (w : Word) → Words spell.optional_stmts depth x w → Or (Image PresentStmts (After kind.else_word spell.stmts' depth)) (Pure AbsentStmts) x w
  unfolding spell.stmt
  split_otherwise AbsentStmts w none = inr (refl, none)
  split_otherwise (PresentStmts s) w l = inl (s, refl, l)

  pub rule_otherwise : Rule limit (list_sets kind.else_word) (Words spell.optional_stmts depth) (reader.otherwise n next)
  unfolding reader.otherwise spell.stmt
  rule_otherwise =
      is (list_sets kind.else_word) (Words spell.optional_stmts depth)
      (or (kind.else_word ∷ []) (skip (one kind.else_word) (to PresentStmts rule_stmts) refl) (give AbsentStmts).exact refl refl refl)
      (either (form (Words spell.optional_stmts depth) (λ b w l. l)) (λ x w (eq, none). from (Words spell.optional_stmts depth) eq none)) split_otherwise refl

  rule_next_choice : Rule limit (record { first = kind.bar ∷ []; nullable = false; follow_last = choice_sets.follow_last }) (After kind.bar spell.choice depth) (brackets.next_choice (levels n))
  rule_next_choice = association.rule_next_choice limit depth within (levels n) below

  abbrev MoreChoices : List Choice → Language
  MoreChoices = Words (each_of_after (free kind.bar) spell.choice) depth

  rule_more_choices : Rule limit (record { first = kind.bar ∷ []; nullable = true; follow_last = kind.bar ∷ choice_sets.follow_last }) MoreChoices (reader.more_choices n next)
  unfolding reader.more_choices
  rule_more_choices = is _ MoreChoices (items (kind.bar ∷ []) (each_after_listed spell.choice depth kind.bar) list_grows rule_next_choice refl refl refl refl) (λ x w l. l) (λ x w l. l) refl

  pub rule_alt : Rule limit (before_stmts kind.when_word) (Words spell.alt' depth) (reader.alt n next)
  unfolding reader.alt spell.stmt
  rule_alt =
      is (before_stmts kind.when_word) (Words spell.alt' depth)
      (keep (one kind.when_word) (λ at. keep (association.rule_choice limit depth within (levels n) below) (λ c. keep rule_more_choices (λ cs. to (syntax.alt at c cs) rule_arrow_stmts) refl) refl) refl)
      (form (Words spell.alt' depth) (λ b w l. l)) split refl where
        split : (x : Alt) (w : Word) → Words spell.alt' depth x w
            → Image (λ (b : ℕ × (Choice × (List Choice × Stmts))). syntax.alt b.0 b.1.0 b.1.1.0 b.1.1.1)
            (λ b. Leaf depth kind.when_word b.0 ⋅ (Words spell.choice depth b.1.0 ⋅ (MoreChoices b.1.1.0 ⋅ After kind.arrow spell.stmts' depth b.1.1.1))) x w
        split (syntax.alt at c cs s) w l = ((at, (c, (cs, s))), refl, l)

  pub rule_more_alts : Rule limit (list_sets kind.when_word) (Words spell.alts depth) (reader.more_alts n next)
  unfolding reader.more_alts
  rule_more_alts = is (list_sets kind.when_word) (Words spell.alts depth) (items (kind.when_word ∷ []) (alts_listed depth) alts_grow rule_alt refl refl refl refl) (λ x w l. l) (λ x w l. l) refl

  pub rule_branches : Rule limit (list_sets kind.and_word) (Words spell.branches depth) (reader.branches n next)
  unfolding reader.branches
  rule_branches = is (list_sets kind.and_word) (Words spell.branches depth) (items (kind.and_word ∷ []) (branches_listed depth) branches_grow rule_and_stmts refl refl refl refl) (λ x w l. l) (λ x w l. l) refl
