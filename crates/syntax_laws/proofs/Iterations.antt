-- The readers of iterations and chunk specifications are exact, where those of what opens a bracket are.
use Rattle.std.proofs.Common.{◌≡◌, ℕ, ◌≤◌, [], ◌∷◌, true, false, Option, inl, inr, refl, sym, append-nil}
use Rattle.ada_base.specs.Symbols.{Word}
use Rattle.ada_base.specs.Languages.{Language, Leaf, Quoted, Then, Or, Pure, Image, ◌⋅◌}
use Rattle.syntax_readers.specs.Readers.{symbol}
use Rattle.syntax_readers.specs.Sets.{Sets, one_kind}
use Rattle.syntax_readers.specs.Exact.{Rule}
use Rattle.syntax_readers.proofs.Rules.{read, give, seq, or, to, is}
use Rattle.syntax_readers.proofs.Forms.{from, without_after, either, form, keep, skip}
use Rattle.ada_base.specs.Kinds as kind
use Rattle.syntax_tree.specs.Syntax.{Expr, Name, Range, OptionalExpr, AbsentExpr, PresentExpr, Parallel, Unchunked, Counted, Chunked, Iter, InRange, OfName}
use Rattle.syntax_tree.specs.Patterns.{held, optional_of}
use Rattle.syntax_tree.specs.Productions as spell
use Rattle.syntax_grammar.specs.Opened.{Opened}
use Rattle.syntax_grammar.specs.Brackets as reader
use Rattle.syntax_laws.proofs.Words.{Words, maybe}
use Rattle.syntax_laws.proofs.Openings.{Opening, ChunkWords, expr_sets}
use Rattle.syntax_laws.proofs.Sums.{rule_name}
use Rattle.syntax_laws.proofs.Relations.{rule_expr}
use Rattle.syntax_laws.proofs.Associations.{range_sets, rule_range}

abbrev pub filter_sets : Sets
filter_sets = record { first = kind.when_word ∷ []; nullable = true; follow_last = kind.when_word ∷ expr_sets.follow_last }

abbrev pub iter_sets : Sets
iter_sets = record { first = kind.identifier ∷ []; nullable = false; follow_last = kind.when_word ∷ kind.range_word ∷ kind.dots ∷ expr_sets.follow_last }

abbrev pub parallel_sets : Sets
parallel_sets = record { first = kind.parallel_word ∷ []; nullable = false; follow_last = kind.open_round ∷ [] }

module _ (limit depth : ℕ) (within : depth ≤ limit) (inner : Opened) (below : Opening limit depth inner) where
  one : (k : ℕ) → Rule limit (one_kind k) (Leaf depth k) (symbol k)
  one k = read limit depth within k

  range : Rule limit range_sets (Words spell.range depth) (reader.range inner)
  range = rule_range limit depth within inner below

  -- ---- iterations

  split_filter : (x : OptionalExpr) (w : Word) → Words spell.filter depth x w → Or (Image PresentExpr (λ e. Quoted depth kind.when_word ⋅ Words spell.expr depth e)) (Pure AbsentExpr) x w
  unfolding spell.expr
  split_filter (PresentExpr e) w l = inl (e, refl, l)
  split_filter AbsentExpr w none = inr (refl, none)

  pub rule_filter : Rule limit filter_sets (Words spell.filter depth) (reader.filter inner)
  unfolding reader.filter spell.expr
  rule_filter =
      is filter_sets (Words spell.filter depth) (or (kind.when_word ∷ []) (skip (one kind.when_word) (to PresentExpr (rule_expr limit depth within inner below)) refl) (give AbsentExpr).exact refl refl refl)
      (either (form (Words spell.filter depth) (λ e w l. l)) (λ x w (eq, none). from (Words spell.filter depth) eq none)) split_filter refl

  -- the words of a filter
  pub absent_words : (w : Word) → w ≡ [] → Words spell.filter depth AbsentExpr w
  unfolding spell.expr
  absent_words w none = none

  pub present_words : (e : Expr) (w : Word) → (Quoted depth kind.when_word ⋅ Words spell.expr depth e) w → Words spell.filter depth (PresentExpr e) w
  unfolding spell.expr
  present_words e w l = l

  rule_reversed : Rule limit (record { first = kind.reverse_word ∷ []; nullable = true; follow_last = kind.reverse_word ∷ [] }) (Words (optional_of (held kind.reverse_word)) depth) reader.reversed
  unfolding reader.reversed
  rule_reversed = maybe (held kind.reverse_word) depth (kind.reverse_word ∷ []) (one kind.reverse_word) refl refl refl

  abbrev IterOf : ℕ → Iter → Language
  IterOf i = Image (λ (b : Name × OptionalExpr). OfName i b.0 b.1) (λ b. Quoted depth kind.of_word ⋅ (Words spell.name' depth b.0 ⋅ Words spell.filter depth b.1))

  rule_iter_of : (i : ℕ) → Rule limit (record { first = kind.of_word ∷ []; nullable = false; follow_last = iter_sets.follow_last }) (IterOf i) (reader.iter_of inner i)
  unfolding reader.iter_of
  rule_iter_of i =
      is _ (IterOf i) (skip (one kind.of_word) (keep (rule_name limit depth within inner below) (λ n. to (OfName i n) rule_filter) refl) refl)
      (λ x w l. l) (λ x w l. l) refl

  abbrev IterIn : ℕ → Iter → Language
  IterIn i =
      Image (λ (b : Option ℕ × (Range × OptionalExpr)). InRange i b.0 b.1.0 b.1.1)
      (λ b. Quoted depth kind.in_word ⋅ (Words (optional_of (held kind.reverse_word)) depth b.0 ⋅ (Words spell.range depth b.1.0 ⋅ Words spell.filter depth b.1.1)))

  rule_iter_in : (i : ℕ) → Rule limit (record { first = kind.in_word ∷ []; nullable = false; follow_last = iter_sets.follow_last }) (IterIn i) (reader.iter_in inner i)
  unfolding reader.iter_in
  rule_iter_in i =
      is _ (IterIn i) (skip (one kind.in_word) (keep rule_reversed (λ v. keep range (λ r. to (InRange i v r) rule_filter) refl) refl) refl)
      (λ x w l. l) (λ x w l. l) refl

  join_iter : (x : Iter) (w : Word) → Then (Leaf depth kind.identifier) (λ i. Or (IterOf i) (IterIn i)) x w → Words spell.iter depth x w
  unfolding spell.expr
  join_iter x w (i, u, v, e, l, inl (b, eq, m)) = from (Words spell.iter depth) eq (u, v, e, l, m)
  join_iter x w (i, u, v, e, l, inr (b, eq, m)) = from (Words spell.iter depth) eq (u, v, e, l, m)

  split_iter : (x : Iter) (w : Word) → Words spell.iter depth x w → Then (Leaf depth kind.identifier) (λ i. Or (IterOf i) (IterIn i)) x w
  unfolding spell.expr
  split_iter (InRange i reverse r f) w (u, v, e, l, m) = (i, u, v, e, l, inr ((reverse, (r, f)), refl, m))
  split_iter (OfName i n f) w (u, v, e, l, m) = (i, u, v, e, l, inl ((n, f), refl, m))

  pub rule_iter : Rule limit iter_sets (Words spell.iter depth) (reader.iter inner)
  unfolding reader.iter
  rule_iter =
      is iter_sets (Words spell.iter depth) (seq (one kind.identifier) (λ i. or (kind.of_word ∷ []) (rule_iter_of i) (rule_iter_in i).exact refl refl refl) refl)
      join_iter split_iter refl

  -- ---- "parallel" and its chunk specification

  abbrev ParallelCases : Parallel → Language
  ParallelCases = Then (Leaf depth kind.parallel_word) (λ at. Or (ChunkWords depth at) (Pure (Unchunked at)))

  pub with_chunk : (at : ℕ) (x : Parallel) (w : Word) → (Leaf depth kind.parallel_word at ⋅ ChunkWords depth at x) w → Words spell.parallel depth x w
  unfolding spell.expr
  with_chunk at (Counted n count) w (u, v, e, i, (is, l)) = (u, v, e, from (Leaf depth kind.parallel_word) is i, l)
  with_chunk at (Chunked n index r) w (u, v, e, i, (is, l)) = (u, v, e, from (Leaf depth kind.parallel_word) is i, l)
  with_chunk at (Unchunked n) w (u, v, e, i, l) = absurd l

  pub unchunked_words : (at : ℕ) (w : Word) → Leaf depth kind.parallel_word at w → Words spell.parallel depth (Unchunked at) w
  unfolding spell.expr
  unchunked_words at w i = i

  join_parallel : (x : Parallel) (w : Word) → ParallelCases x w → Words spell.parallel depth x w
  unfolding spell.expr
  join_parallel x w (at, u, v, e, i, inl l) = with_chunk at x w (u, v, e, i, l)
  join_parallel x w (at, u, v, e, i, inr (eq, none)) = from (Words spell.parallel depth) eq (without_after {L = Leaf depth kind.parallel_word at} (u, v, e, i, none))

  pub split_parallel : (x : Parallel) (w : Word) → Words spell.parallel depth x w → ParallelCases x w
  unfolding spell.expr
  split_parallel (Unchunked n) w i = (n, w, [], sym (append-nil w), i, inr (refl, refl))
  split_parallel (Counted n count) w (u, v, e, i, l) = (n, u, v, e, i, inl (refl, l))
  split_parallel (Chunked n index r) w (u, v, e, i, l) = (n, u, v, e, i, inl (refl, l))

  pub rule_parallel : Rule limit parallel_sets (Words spell.parallel depth) (reader.parallel inner)
  unfolding reader.parallel
  rule_parallel =
      is parallel_sets (Words spell.parallel depth)
      (seq (one kind.parallel_word) (λ at. or (kind.open_round ∷ []) (below.chunk at) (give (Unchunked at)).exact refl refl refl) refl)
      join_parallel split_parallel refl
