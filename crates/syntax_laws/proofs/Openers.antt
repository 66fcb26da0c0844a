-- The readers of calls, chunk specifications and round brackets are exact, where those of what opens a bracket in them
-- are.
use Rattle.std.proofs.Common.{◌≡◌, ℕ, suc, ◌≤◌, [], ◌∷◌, true, false, Option, Some, None, inl, inr, refl, sym, ap, ◌∙◌, subst}
use Rattle.ada_base.specs.Symbols.{Word}
use Rattle.ada_base.specs.Languages.{Language, Leaf, Quoted, Or, Pure, Image, Given, ◌⋅◌}
use Rattle.syntax_readers.specs.Readers.{symbol}
use Rattle.syntax_readers.specs.Sets.{Sets, one_kind}
use Rattle.syntax_readers.specs.Exact.{Rule}
use Rattle.syntax_readers.proofs.Singles.{exact_given}
use Rattle.syntax_readers.proofs.Rules.{read, give, or, or_second, to, is}
use Rattle.syntax_readers.proofs.Chains.{items}
use Rattle.syntax_readers.proofs.Forms.{from, to_left, to_right, without_before, at_second, form, keep, skip, lead, last}
use Rattle.ada_base.specs.Kinds as kind
use Rattle.syntax_tree.specs.Syntax as syntax
use Rattle.syntax_tree.specs.Syntax.{Expr, Simple, Primary, Number, Text, Target, Named, Group, If, Round, Square, OneValue, Reduction, Elsif, Elsifs, NamePart, Field, Call, Attribute, RangeAttribute, Arg, Args, Many, Positions, PositionsOthers, FirstOthers, Associations, Assoc, Chosen, Each, Parallel, Unchunked, Counted, Chunked}
use Rattle.syntax_tree.specs.Joining.{bare_identifier}
use Rattle.syntax_tree.specs.Productions as spell
use Rattle.syntax_grammar.specs.Opened.{Opened}
use Rattle.syntax_grammar.specs.Read.{Inside, OneInside, ManyInside, in_round}
use Rattle.syntax_grammar.specs.Expressions as base
use Rattle.syntax_grammar.specs.Brackets as reader
use Rattle.syntax_laws.proofs.Words.{Words}
use Rattle.syntax_laws.proofs.Lists.{elsifs_grow, elsifs_listed}
use Rattle.syntax_laws.proofs.Bares.{sum_of, name_for, identifier_sum, identifier_words, words_identifier}
use Rattle.syntax_laws.proofs.Openings.{Opening, CallWords, RoundWords, ChunkWords, round_sets, simple_sets, expr_sets}
use Rattle.syntax_laws.proofs.Sums.{rule_simple}
use Rattle.syntax_laws.proofs.Relations.{rule_expr}
use Rattle.syntax_laws.proofs.Associations as association
use Rattle.syntax_laws.proofs.Associations.{range_sets}
use Rattle.syntax_laws.proofs.Insides as inside
use Rattle.syntax_laws.proofs.Insides.{inside_sets}

abbrev pub if_sets : Sets
if_sets = record { first = kind.if_word ∷ []; nullable = false; follow_last = expr_sets.follow_last }

abbrev pub elsifs_sets : Sets
elsifs_sets = record { first = kind.elsif_word ∷ []; nullable = true; follow_last = kind.elsif_word ∷ expr_sets.follow_last }

module _ (limit depth : ℕ) (deeper : suc depth ≤ limit) (inner : Opened) (below : Opening limit (suc depth) inner) where
  -- the depth of the brackets, and of what stands in them
  abbrev D : ℕ
  D = suc depth

  one : (k : ℕ) → Rule limit (one_kind k) (Leaf D k) (symbol k)
  one k = read limit D deeper k

  simple : Rule limit simple_sets (Words spell.simple D) (base.simple inner)
  simple = rule_simple limit D deeper inner below

  expr : Rule limit expr_sets (Words spell.expr D) (base.expr inner)
  expr = rule_expr limit D deeper inner below

  range : Rule limit range_sets (Words spell.range D) (reader.range inner)
  range = association.rule_range limit D deeper inner below

  -- ---- calls

  abbrev CallCases : NamePart → Language
  CallCases =
      Image (λ (b : ℕ × (Arg × (Args × Unit {0}))). Call b.0 b.1.0 b.1.1.0)
      (λ b. Leaf D kind.open_round b.0 ⋅ (Words spell.arg' D b.1.0 ⋅ (Words spell.args D b.1.1.0 ⋅ Quoted D kind.close_round)))

  join_call : (x : NamePart) (w : Word) → CallCases x w → CallWords depth x w
  unfolding spell.expr
  join_call = form (CallWords depth) (λ b w l. at_second {L = Leaf D kind.open_round b.0} (λ v m. to_left m) l)

  split_call : (x : NamePart) (w : Word) → CallWords depth x w → CallCases x w
  unfolding spell.expr
  split_call (Call b f m) w l = ((b, (f, (m, tt))), refl, at_second {L = Leaf D kind.open_round b} (λ v k. to_right k) l)
  split_call (Field at) w l = absurd l
  split_call (Attribute at) w l = absurd l
  split_call (RangeAttribute at) w l = absurd l

  pub rule_call : Rule limit round_sets (CallWords depth) (reader.call inner)
  unfolding reader.call
  rule_call =
      is round_sets (CallWords depth)
      (keep (one kind.open_round) (λ b. keep (association.rule_arg limit D deeper inner below) (λ a. keep (association.rule_more_args limit D deeper inner below) (λ more.
      last (Call b a more) (one kind.close_round)) refl) refl) refl)
      join_call split_call refl

  -- ---- chunk specifications

  abbrev ChunkIn : ℕ → ℕ → Parallel → Language
  ChunkIn at index = Image (Chunked at index) (λ r. Quoted D kind.in_word ⋅ Words spell.range D r)

  rule_chunk_in : (at index : ℕ) → Rule limit (record { first = kind.in_word ∷ []; nullable = false; follow_last = range_sets.follow_last }) (ChunkIn at index) (reader.chunk_in inner at index)
  unfolding reader.chunk_in
  rule_chunk_in at index = skip (one kind.in_word) (to (Chunked at index) range) refl

  abbrev ChunkFrom : ℕ → Simple → Parallel → Language
  ChunkFrom at s = Or (Given (bare_identifier s) (ChunkIn at)) (Pure (Counted at s))

  rule_chunk_from : (at : ℕ) (s : Simple) → Rule limit (record { first = kind.in_word ∷ []; nullable = true; follow_last = kind.in_word ∷ range_sets.follow_last }) (ChunkFrom at s) (reader.chunk_from inner at s)
  unfolding reader.chunk_from
  rule_chunk_from at s =
      is _ (ChunkFrom at s) (or_second (kind.in_word ∷ []) (exact_given (bare_identifier s) (λ i. (rule_chunk_in at i).exact)) (give (Counted at s)) refl refl refl)
      (λ x w l. l) (λ x w l. l) refl

  abbrev ChunkCases : ℕ → Parallel → Language
  ChunkCases at =
      Image (λ (b : Simple × (Parallel × Unit {0})). b.1.0)
      (λ b. Quoted D kind.open_round ⋅ (Words spell.simple D b.0 ⋅ (ChunkFrom at b.0 b.1.0 ⋅ Quoted D kind.close_round)))

  join_chunk : (at : ℕ) (x : Parallel) (w : Word) → ChunkCases at x w → ChunkWords depth at x w
  join_chunk at x w (b, eq, (u, v, e, o, (u1, v1, e1, l, (u2, v2, e2, inr (is, none), c)))) =
      from (ChunkWords depth at) (eq ∙ is) (refl, (u, v, e, o, (u1, v1, e1, l, without_before {L = Quoted D kind.close_round} (u2, v2, e2, none, c))))
  join_chunk at x w (b, eq, (u, v, e, o, (u1, v1, e1, l, (u2, v2, e2, inl g, c)))) = by (bare_identifier b.0) refl g where
    by : (i : Option ℕ) → bare_identifier b.0 ≡ i → Given i (ChunkIn at) b.1.0 u2 → ChunkWords depth at x w
    by None h g = absurd g
    by (Some i) h (r, is, m) =
        from (ChunkWords depth at) (eq ∙ is)
        (refl, (u, v, e, o, to_left {L = Leaf D kind.identifier i} {M = Quoted D kind.in_word ⋅ Words spell.range D r} {N = Quoted D kind.close_round} (u1, v1, e1, identifier_words D b.0 i u1 h l, (u2, v2, e2, m, c))))

  split_chunk : (at : ℕ) (x : Parallel) (w : Word) → ChunkWords depth at x w → ChunkCases at x w
  split_chunk at (Counted n s) w (is, (u, v, e, o, (u1, v1, e1, l, c))) = ((s, (Counted n s, tt)), refl, (u, v, e, o, (u1, v1, e1, l, ([], v1, refl, inr (ap (λ z. Counted z s) is, refl), c))))
  split_chunk at (Chunked n i r) w (is, (u, v, e, o, k)) =
      let (u1, v1, e1, l, (u2, v2, e2, m, c)) = to_right {L = Leaf D kind.identifier i} {M = Quoted D kind.in_word ⋅ Words spell.range D r} {N = Quoted D kind.close_round} k in (
        (sum_of (name_for i), (Chunked n i r, tt)),
        refl,
        (u, v, e, o, (u1, v1, e1, words_identifier D i u1 l, (u2, v2, e2, inl (subst (λ z. Given z (ChunkIn at) (Chunked n i r) u2) (sym (identifier_sum i)) (r, ap (λ z. Chunked z i r) is, m)), c))),
      )
  split_chunk at (Unchunked n) w l = absurd l

  pub rule_chunk : (at : ℕ) → Rule limit round_sets (ChunkWords depth at) (reader.chunk inner at)
  unfolding reader.chunk
  rule_chunk at =
      is round_sets (ChunkWords depth at)
      (skip (one kind.open_round) (keep simple (λ s. keep (rule_chunk_from at s) (λ c. last c (one kind.close_round)) refl) refl) refl)
      (join_chunk at) (split_chunk at) refl

  -- ---- if expressions

  abbrev ThenValue : Expr → Language
  ThenValue v = Quoted D kind.then_word ⋅ Words spell.expr D v

  rule_then_value : Rule limit (record { first = kind.then_word ∷ []; nullable = false; follow_last = expr_sets.follow_last }) ThenValue (reader.then_value inner)
  unfolding reader.then_value
  rule_then_value = lead (one kind.then_word) expr refl

  abbrev ElseValue : Expr → Language
  ElseValue v = Quoted D kind.else_word ⋅ Words spell.expr D v

  rule_else_value : Rule limit (record { first = kind.else_word ∷ []; nullable = false; follow_last = expr_sets.follow_last }) ElseValue (reader.else_value inner)
  unfolding reader.else_value
  rule_else_value = lead (one kind.else_word) expr refl

  rule_next_elsif : Rule limit (record { first = kind.elsif_word ∷ []; nullable = false; follow_last = expr_sets.follow_last }) (Words spell.elsif' D) (reader.next_elsif inner)
  unfolding reader.next_elsif spell.expr
  rule_next_elsif =
      is _ (Words spell.elsif' D) (keep (one kind.elsif_word) (λ at. keep expr (λ c. to (syntax.elsif at c) rule_then_value) refl) refl)
      (form (Words spell.elsif' D) (λ b w l. l)) split refl where
        split : (x : Elsif) (w : Word) → Words spell.elsif' D x w
            → Image (λ (b : ℕ × (Expr × Expr)). syntax.elsif b.0 b.1.0 b.1.1) (λ b. Leaf D kind.elsif_word b.0 ⋅ (Words spell.expr D b.1.0 ⋅ ThenValue b.1.1)) x w
        split (syntax.elsif at c v) w l = ((at, (c, v)), refl, l)

  rule_elsifs : Rule limit elsifs_sets (Words spell.elsifs D) (reader.elsifs inner)
  unfolding reader.elsifs
  rule_elsifs = is elsifs_sets (Words spell.elsifs D) (items (kind.elsif_word ∷ []) (elsifs_listed D) elsifs_grow rule_next_elsif refl refl refl refl) (λ x w l. l) (λ x w l. l) refl

  abbrev IfCases : ℕ → Primary → Language
  IfCases b =
      Image (λ (t : ℕ × (Expr × (Expr × (Elsifs × Expr)))). If b t.0 t.1.0 t.1.1.0 t.1.1.1.0 t.1.1.1.1)
      (λ t. Leaf D kind.if_word t.0 ⋅ (Words spell.expr D t.1.0 ⋅ (ThenValue t.1.1.0 ⋅ (Words spell.elsifs D t.1.1.1.0 ⋅ ElseValue t.1.1.1.1))))

  rule_if : (b : ℕ) → Rule limit if_sets (IfCases b) (reader.if_expr inner b)
  unfolding reader.if_expr
  rule_if b =
      is if_sets (IfCases b)
      (keep (one kind.if_word) (λ at. keep expr (λ c. keep rule_then_value (λ v. keep rule_elsifs (λ es. to (If b at c v es) rule_else_value) refl) refl) refl) refl)
      (λ x w l. l) (λ x w l. l) refl

  -- ---- round brackets

  abbrev Insides : Inside → Language
  Insides = inside.InsideWords limit D deeper inner below

  abbrev Eaches : Assoc → Language
  Eaches = association.EachWords limit D deeper inner below

  abbrev EachAndMore : Inside → Language
  EachAndMore = Image (λ (b : Assoc × Many). ManyInside b.1) (λ b. Eaches b.0 ⋅ Image (Associations b.0) (Words spell.assocs D) b.1)

  rule_each_and_more : Rule limit (record { first = kind.for_word ∷ []; nullable = false; follow_last = kind.comma ∷ expr_sets.follow_last }) EachAndMore (reader.each_and_more inner)
  unfolding reader.each_and_more
  rule_each_and_more =
      is _ EachAndMore (keep (association.rule_each limit D deeper inner below) (λ a. to ManyInside (association.rule_assocs_from limit D deeper inner below a)) refl)
      (λ x w l. l) (λ x w l. l) refl

  abbrev RoundInside : ℕ → Primary → Language
  RoundInside b = Or (IfCases b) (Image (in_round b) (Or EachAndMore Insides))

  rule_round_inside : (b : ℕ)
      → Rule limit (record { first = kind.if_word ∷ kind.for_word ∷ inside_sets.first; nullable = false; follow_last = inside_sets.follow_last }) (RoundInside b) (reader.round_inside inner b)
  unfolding reader.round_inside
  rule_round_inside b =
      is _ (RoundInside b)
      (or (kind.if_word ∷ []) (rule_if b) (to (in_round b) (or (kind.for_word ∷ []) rule_each_and_more (inside.rule_inside limit D deeper inner below).exact refl refl refl)).exact refl refl refl)
      (λ x w l. l) (λ x w l. l) refl

  abbrev RoundCases : Primary → Language
  RoundCases =
      Image (λ (t : ℕ × (Primary × Unit {0})). t.1.0)
      (λ t. Leaf D kind.open_round t.0 ⋅ (RoundInside t.0 t.1.0 ⋅ Quoted D kind.close_round))

  -- an association that begins with `for`, and others
  pub each_words : (a : Assoc) (m : Many) (w : Word) → (Eaches a ⋅ Image (Associations a) (Words spell.assocs D) m) w → Words spell.many D m w
  unfolding spell.expr
  each_words a m w (u, v, e, (b, is, l), (more, is', ls)) =
      from (Words spell.many D) (is' ∙ ap (λ z. Associations z more) is) (u, v, e, l, ls)

  if_words : (b : ℕ) (x : Primary) (w : Word) → (Leaf D kind.open_round b ⋅ (IfCases b x ⋅ Quoted D kind.close_round)) w → RoundWords depth x w
  unfolding spell.expr
  if_words b x w (u, v, e, o, (u1, v1, e1, (t, is, l), c)) =
      from (RoundWords depth) is (u, v, e, o, (u1, v1, e1, at_second {L = Leaf D kind.if_word t.0} (λ y k. at_second {L = Words spell.expr D t.1.0} (λ y k. to_right k) k) l, c))

  -- what stands in the bracket, and the brackets
  inside_words : (b : ℕ) (y : Inside) (w : Word) → (Leaf D kind.open_round b ⋅ (Insides y ⋅ Quoted D kind.close_round)) w → RoundWords depth (in_round b y) w
  unfolding spell.expr
  inside_words b (OneInside e) w l = l
  inside_words b (ManyInside (Positions f s m)) w l = l
  inside_words b (ManyInside (PositionsOthers f s m at o)) w l = l
  inside_words b (ManyInside (FirstOthers f at o)) w l = l
  inside_words b (ManyInside (Associations (Chosen f m o) as')) w l = l
  inside_words b (ManyInside (Associations (Each at i r o) as')) w (u, v, e, i', (u1, v1, e1, l, c)) = absurd l

  join_round : (x : Primary) (w : Word) → RoundCases x w → RoundWords depth x w
  unfolding spell.expr
  join_round x w (t, eq, (u, v, e, o, (u1, v1, e1, inl k, c))) = from (RoundWords depth) eq (if_words t.0 t.1.0 w (u, v, e, o, (u1, v1, e1, k, c)))
  join_round x w (t, eq, (u, v, e, o, (u1, v1, e1, inr (y, is, inl (b, is', l)), c))) =
      from (RoundWords depth) (eq ∙ is ∙ ap (in_round t.0) is') (u, v, e, o, (u1, v1, e1, each_words b.0 b.1 u1 l, c))
  join_round x w (t, eq, (u, v, e, o, (u1, v1, e1, inr (y, is, inr l), c))) = from (RoundWords depth) (eq ∙ is) (inside_words t.0 y w (u, v, e, o, (u1, v1, e1, l, c)))

  split_round : (x : Primary) (w : Word) → RoundWords depth x w → RoundCases x w
  unfolding spell.expr
  split_round (Group b y) w (u, v, e, o, (u1, v1, e1, l, c)) = ((b, (Group b y, tt)), refl, (u, v, e, o, (u1, v1, e1, inr (OneInside y, refl, inr l), c)))
  split_round (If b at cond v1' more o1) w (u, v, e, o, (u1, v1, e1, l, c)) = (
    (b, (If b at cond v1' more o1, tt)),
    refl,
    (u, v, e, o, (u1, v1, e1, inl ((at, (cond, (v1', (more, o1)))), refl, at_second {L = Leaf D kind.if_word at} (λ y k. at_second {L = Words spell.expr D cond} (λ y k. to_left k) k) l), c)),
  )
  split_round (Round b (Positions f s m)) w (u, v, e, o, (u1, v1, e1, l, c)) = ((b, (Round b (Positions f s m), tt)), refl, (u, v, e, o, (u1, v1, e1, inr (ManyInside (Positions f s m), refl, inr l), c)))
  split_round (Round b (PositionsOthers f s m at y)) w (u, v, e, o, (u1, v1, e1, l, c)) = ((b, (Round b (PositionsOthers f s m at y), tt)), refl, (u, v, e, o, (u1, v1, e1, inr (ManyInside (PositionsOthers f s m at y), refl, inr l), c)))
  split_round (Round b (FirstOthers f at y)) w (u, v, e, o, (u1, v1, e1, l, c)) = ((b, (Round b (FirstOthers f at y), tt)), refl, (u, v, e, o, (u1, v1, e1, inr (ManyInside (FirstOthers f at y), refl, inr l), c)))
  split_round (Round b (Associations (Chosen f m y) more)) w (u, v, e, o, (u1, v1, e1, l, c)) =
      ((b, (Round b (Associations (Chosen f m y) more), tt)), refl, (u, v, e, o, (u1, v1, e1, inr (ManyInside (Associations (Chosen f m y) more), refl, inr l), c)))
  split_round (Round b (Associations (Each at i r y) more)) w (u, v, e, o, (u1, v1, e1, (u2, v2, e2, l, ls), c)) = (
    (b, (Round b (Associations (Each at i r y) more), tt)),
    refl,
    (u, v, e, o, (u1, v1, e1, inr (ManyInside (Associations (Each at i r y) more), refl, inl ((Each at i r y, Associations (Each at i r y) more), refl, (u2, v2, e2, ((at, (i, (r, y))), refl, l), (more, refl, ls)))), c)),
  )
  split_round (Number n) w l = absurd l
  split_round (Text n) w l = absurd l
  split_round (Target n) w l = absurd l
  split_round (Named n) w l = absurd l
  split_round (Square b m) w l = absurd l
  split_round (OneValue b y) w l = absurd l
  split_round (Reduction b p at i v a f g) w l = absurd l

  pub rule_round : Rule limit round_sets (RoundWords depth) (reader.round inner)
  unfolding reader.round
  rule_round =
      is round_sets (RoundWords depth) (keep (one kind.open_round) (λ b. keep (rule_round_inside b) (λ p. last p (one kind.close_round)) refl) refl)
      join_round split_round refl
