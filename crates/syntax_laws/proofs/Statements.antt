-- The reader of a statement is exact, where that of the statements in it is.
use Rattle.std.proofs.Common.{◌≡◌, ℕ, suc, ◌+◌, ◌≤◌, List, [], ◌∷◌, ◌++◌, false, Option, Some, None, inl, inr, refl, sym, arith}
use Rattle.ada_base.specs.Symbols.{Word}
use Rattle.ada_base.specs.Languages.{Language, Leaf, Quoted, Then, Or, Pure, Image, Given, Empty, ◌⋅◌}
use Rattle.syntax_readers.specs.Readers.{Reader, symbol}
use Rattle.syntax_readers.specs.Sets.{Sets, one_kind}
use Rattle.syntax_readers.specs.Exact.{Rule}
use Rattle.syntax_readers.proofs.Singles.{exact_given}
use Rattle.syntax_readers.proofs.Rules.{read, seq, or, to, is}
use Rattle.syntax_readers.proofs.Forms.{from, to_left, to_right, without_before, without_after, at_second, keep, skip, last}
use Rattle.ada_base.specs.Kinds as kind
use Rattle.syntax_tree.specs.Syntax.{Expr, Simple, Name, OptionalExpr, AbsentExpr, PresentExpr, Parallel, Unchunked, Counted, Chunked, Iter, Pack, Decl, Declare, Scheme, While, For, Stmt, Null, Assign, CallStmt, Exit, Return, Raise, IfStmt, Case, Loop, Block, ParallelBlock, Stmts, OptionalStmts, Arms, Alt, Alts, Branches, Body}
use Rattle.syntax_tree.specs.Joining.{name_identifier}
use Rattle.syntax_tree.specs.Patterns.{free, optional_of, optional_of_after, each_of}
use Rattle.syntax_tree.specs.Productions as spell
use Rattle.syntax_grammar.specs.Levels.{levels}
use Rattle.syntax_grammar.specs.Read.{option_of, count_of}
use Rattle.syntax_grammar.specs.Expressions as base
use Rattle.syntax_grammar.specs.Statements as reader
use Rattle.syntax_laws.proofs.Words.{Words, After}
use Rattle.syntax_laws.proofs.Bares.{name_for, name_view, identifier_alone, alone_identifier}
use Rattle.syntax_laws.proofs.Openings.{Opening, ChunkWords, expr_sets}
use Rattle.syntax_laws.proofs.Sums.{rule_name}
use Rattle.syntax_laws.proofs.Relations.{rule_expr}
use Rattle.syntax_laws.proofs.Iterations as iteration
use Rattle.syntax_laws.proofs.Levels.{opening_at}
use Rattle.syntax_laws.proofs.Declarations.{rule_decls}
use Rattle.syntax_laws.proofs.Bodies as inside
use Rattle.syntax_laws.proofs.Bodies.{stmt_sets, stmts_sets, maybe_identifier_sets, rule_pack, rule_maybe_identifier, closed}

-- around the statement the depth is `around`, in it one more
module _ (limit n around : ℕ) (levelled : n + suc around ≡ limit) (next : Reader Stmt) (rule_next : Rule limit stmt_sets (Words spell.stmt (suc around)) next) where
  abbrev D : ℕ
  D = suc around

  within : suc around ≤ limit
  within = omega (arith, levelled)

  below : Opening limit (suc around) (levels n)
  below = opening_at limit n (suc around) levelled

  one : (k : ℕ) → Rule limit (one_kind k) (Leaf D k) (symbol k)
  one k = read limit D within k

  expr : Rule limit expr_sets (Words spell.expr D) (base.expr (levels n))
  expr = rule_expr limit D within (levels n) below

  stmts : Rule limit stmts_sets (Words spell.stmts' D) (reader.stmts n next)
  stmts = inside.rule_stmts limit n D levelled next rule_next

  abbrev Semicolon : {A : Type 0} → A → A → Language
  Semicolon x = Image (λ (_ : Unit {0}). x) (λ _. Quoted D kind.semicolon)

  abbrev MaybeId : Option ℕ → Language
  MaybeId = inside.MaybeIdentifier limit D within

  maybe_id : Rule limit maybe_identifier_sets MaybeId reader.maybe_identifier
  maybe_id = rule_maybe_identifier limit D within

  abbrev Closing : ℕ → Language
  Closing = inside.Closing limit D within

  -- ---- statements without others in them

  abbrev NullWords : Stmt → Language
  NullWords = Image (λ (b : ℕ × Unit {0}). Null b.0) (λ b. Leaf D kind.null_word b.0 ⋅ Quoted D kind.semicolon)

  rule_null : Rule limit (one_kind kind.null_word) NullWords reader.null
  unfolding reader.null
  rule_null = is (one_kind kind.null_word) NullWords (keep (one kind.null_word) (λ at. last (Null at) (one kind.semicolon)) refl) (λ x w l. l) (λ x w l. l) refl

  abbrev ExitWords : Stmt → Language
  ExitWords =
      Image (λ (b : ℕ × (Option ℕ × (OptionalExpr × Unit {0}))). Exit b.0 b.1.0 (option_of b.1.1.0))
      (λ b. Leaf D kind.exit_word b.0 ⋅ (MaybeId b.1.0 ⋅ (Words spell.filter D b.1.1.0 ⋅ Quoted D kind.semicolon)))

  rule_exit : Rule limit (one_kind kind.exit_word) ExitWords (reader.exit n)
  unfolding reader.exit
  rule_exit =
      is (one_kind kind.exit_word) ExitWords
      (keep (one kind.exit_word) (λ at. keep maybe_id (λ m. keep (iteration.rule_filter limit D within (levels n) below) (λ c. last (Exit at m (option_of c)) (one kind.semicolon)) refl) refl) refl)
      (λ x w l. l) (λ x w l. l) refl

  abbrev ReturnFrom : ℕ → Stmt → Language
  ReturnFrom at = Or (Semicolon (Return at None)) (Image (λ (b : Expr × Unit {0}). Return at (Some b.0)) (λ b. Words spell.expr D b.0 ⋅ Quoted D kind.semicolon))

  rule_return_from : (at : ℕ) → Rule limit (record { first = kind.semicolon ∷ expr_sets.first; nullable = false; follow_last = [] }) (ReturnFrom at) (reader.return_from n at)
  unfolding reader.return_from
  rule_return_from at =
      is _ (ReturnFrom at)
      (or (kind.semicolon ∷ []) (last (Return at None) (one kind.semicolon)) (keep expr (λ e. last (Return at (Some e)) (one kind.semicolon)) refl).exact refl refl refl)
      (λ x w l. l) (λ x w l. l) refl

  abbrev ReturnWords : Stmt → Language
  ReturnWords = Then (Leaf D kind.return_word) ReturnFrom

  rule_return : Rule limit (one_kind kind.return_word) ReturnWords (reader.return n)
  unfolding reader.return
  rule_return = is (one_kind kind.return_word) ReturnWords (seq (one kind.return_word) rule_return_from refl) (λ x w l. l) (λ x w l. l) refl

  abbrev RaiseFrom : ℕ → Stmt → Language
  RaiseFrom at = Or (Semicolon (Raise at None)) (Image (λ (b : Pack × Unit {0}). Raise at (Some b.0)) (λ b. Words spell.pack D b.0 ⋅ Quoted D kind.semicolon))

  rule_raise_from : (at : ℕ) → Rule limit (record { first = kind.semicolon ∷ kind.identifier ∷ []; nullable = false; follow_last = [] }) (RaiseFrom at) (reader.raise_from at)
  unfolding reader.raise_from
  rule_raise_from at =
      is _ (RaiseFrom at)
      (or (kind.semicolon ∷ []) (last (Raise at None) (one kind.semicolon)) (keep (rule_pack limit D within) (λ p. last (Raise at (Some p)) (one kind.semicolon)) refl).exact refl refl refl)
      (λ x w l. l) (λ x w l. l) refl

  abbrev RaiseWords : Stmt → Language
  RaiseWords = Then (Leaf D kind.raise_word) RaiseFrom

  rule_raise : Rule limit (one_kind kind.raise_word) RaiseWords reader.raise
  unfolding reader.raise
  rule_raise = is (one_kind kind.raise_word) RaiseWords (seq (one kind.raise_word) rule_raise_from refl) (λ x w l. l) (λ x w l. l) refl

  abbrev AssignFrom : Name → Stmt → Language
  AssignFrom m = Image (λ (b : Expr × Unit {0}). Assign m b.0) (λ b. Quoted D kind.assign ⋅ (Words spell.expr D b.0 ⋅ Quoted D kind.semicolon))

  rule_assigned : (m : Name) → Rule limit (one_kind kind.assign) (AssignFrom m) (reader.assigned n m)
  unfolding reader.assigned
  rule_assigned m = is (one_kind kind.assign) (AssignFrom m) (skip (one kind.assign) (keep expr (λ e. last (Assign m e) (one kind.semicolon)) refl) refl) (λ x w l. l) (λ x w l. l) refl

  -- ---- conditions and selections

  abbrev IfWords : Stmt → Language
  IfWords =
      Image (λ (b : ℕ × (Expr × (Stmts × (Arms × (OptionalStmts × Unit {0}))))). IfStmt b.0 b.1.0 b.1.1.0 b.1.1.1.0 b.1.1.1.1.0)
      (λ b. Leaf D kind.if_word b.0 ⋅ (Words spell.expr D b.1.0 ⋅ (After kind.then_word spell.stmts' D b.1.1.0 ⋅ (Words spell.arms D b.1.1.1.0 ⋅ (Words spell.optional_stmts D b.1.1.1.1.0 ⋅ Closing kind.if_word)))))

  rule_if : Rule limit (one_kind kind.if_word) IfWords (reader.conditional n next)
  unfolding reader.conditional
  rule_if =
      is (one_kind kind.if_word) IfWords
      (keep (one kind.if_word) (λ at. keep expr (λ c. keep (inside.rule_then_stmts limit n D levelled next rule_next) (λ s. keep (inside.rule_arms limit n D levelled next rule_next) (λ more.
      keep (inside.rule_otherwise limit n D levelled next rule_next) (λ o. closed limit D within kind.if_word (IfStmt at c s more o)) refl) refl) refl) refl) refl)
      (λ x w l. l) (λ x w l. l) refl

  abbrev CaseWords : Stmt → Language
  CaseWords =
      Image (λ (b : ℕ × (Expr × (Alt × (Alts × Unit {0})))). Case b.0 b.1.0 b.1.1.0 b.1.1.1.0)
      (λ b. Leaf D kind.case_word b.0 ⋅ (Words spell.expr D b.1.0 ⋅ (Quoted D kind.is_word ⋅ (Words spell.alt' D b.1.1.0 ⋅ (Words spell.alts D b.1.1.1.0 ⋅ Closing kind.case_word)))))

  rule_case : Rule limit (one_kind kind.case_word) CaseWords (reader.selection n next)
  unfolding reader.selection
  rule_case =
      is (one_kind kind.case_word) CaseWords
      (keep (one kind.case_word) (λ at. keep expr (λ e. skip (one kind.is_word) (keep (inside.rule_alt limit n D levelled next rule_next) (λ a. keep (inside.rule_more_alts limit n D levelled next rule_next) (λ more.
      closed limit D within kind.case_word (Case at e a more)) refl) refl) refl) refl) refl)
      (λ x w l. l) (λ x w l. l) refl

  -- ---- loops

  abbrev LoopEnd : ℕ × Option ℕ → Language
  LoopEnd e = Leaf D kind.end_word e.0 ⋅ (Quoted D kind.loop_word ⋅ (MaybeId e.1 ⋅ Quoted D kind.semicolon))

  rule_loop_end : Rule limit (one_kind kind.end_word) LoopEnd reader.loop_end
  unfolding reader.loop_end
  rule_loop_end =
      is (one_kind kind.end_word) LoopEnd (keep (one kind.end_word) (λ l. skip (one kind.loop_word) (keep maybe_id (λ m. last (l, m) (one kind.semicolon)) refl) refl) refl)
      (λ x w (b, eq, l). from LoopEnd eq l) (λ x w l. ((x.0, (x.1, tt)), refl, l)) refl

  abbrev LoopFrom : Option ℕ → Option Scheme → Stmt → Language
  LoopFrom label scheme =
      Image (λ (b : ℕ × (Stmts × (ℕ × Option ℕ))). Loop label scheme b.0 b.1.0 b.1.1.0 b.1.1.1) (λ b. Leaf D kind.loop_word b.0 ⋅ (Words spell.stmts' D b.1.0 ⋅ LoopEnd b.1.1))

  rule_loop : (label : Option ℕ) (scheme : Option Scheme) → Rule limit (one_kind kind.loop_word) (LoopFrom label scheme) (reader.loop_from n next label scheme)
  unfolding reader.loop_from
  rule_loop label scheme =
      is (one_kind kind.loop_word) (LoopFrom label scheme)
      (keep (one kind.loop_word) (λ at. keep stmts (λ s. to (λ (e : ℕ × Option ℕ). Loop label scheme at s e.0 e.1) rule_loop_end) refl) refl)
      (λ x w l. l) (λ x w l. l) refl

  abbrev WhileFrom : Option ℕ → Stmt → Language
  WhileFrom label = Then (Leaf D kind.while_word) (λ at. Then (Words spell.expr D) (λ c. LoopFrom label (Some (While at c))))

  rule_while : (label : Option ℕ) → Rule limit (one_kind kind.while_word) (WhileFrom label) (reader.while_from n next label)
  unfolding reader.while_from
  rule_while label = is (one_kind kind.while_word) (WhileFrom label) (seq (one kind.while_word) (λ at. seq expr (λ c. rule_loop label (Some (While at c))) refl) refl) (λ x w l. l) (λ x w l. l) refl

  abbrev ForFrom : Option ℕ → Option Parallel → Stmt → Language
  ForFrom label p = Then (Leaf D kind.for_word) (λ at. Then (Words spell.iter D) (λ i. LoopFrom label (Some (For p at i))))

  rule_for : (label : Option ℕ) (p : Option Parallel) → Rule limit (one_kind kind.for_word) (ForFrom label p) (reader.for_from n next label p)
  unfolding reader.for_from
  rule_for label p =
      is (one_kind kind.for_word) (ForFrom label p) (seq (one kind.for_word) (λ at. seq (iteration.rule_iter limit D within (levels n) below) (λ i. rule_loop label (Some (For p at i))) refl) refl)
      (λ x w l. l) (λ x w l. l) refl

  abbrev AnyLoop : ℕ → Stmt → Language
  AnyLoop l = Or (WhileFrom (Some l)) (Or (ForFrom (Some l) None) (Or (Then (Words spell.parallel D) (λ p. ForFrom (Some l) (Some p))) (LoopFrom (Some l) None)))

  abbrev LabelledFrom : ℕ → Stmt → Language
  LabelledFrom l = Then (Leaf D kind.colon) (λ _. AnyLoop l)

  rule_labelled : (l : ℕ) → Rule limit (one_kind kind.colon) (LabelledFrom l) (reader.labelled n next l)
  unfolding reader.labelled
  rule_labelled l =
      is (one_kind kind.colon) (LabelledFrom l)
      (seq (one kind.colon) (λ _. or (kind.while_word ∷ []) (rule_while (Some l)) (or (kind.for_word ∷ []) (rule_for (Some l) None)
      (or (kind.parallel_word ∷ []) (seq (iteration.rule_parallel limit D within (levels n) below) (λ p. rule_for (Some l) (Some p)) refl) (rule_loop (Some l) None).exact refl refl refl).exact refl refl refl).exact refl refl refl) refl)
      (λ x w l. l) (λ x w l. l) refl

  -- ---- blocks

  abbrev BlockFrom : Option Declare → Stmt → Language
  BlockFrom d = Image (λ (b : ℕ × (Body × Unit {0})). Block d b.0 b.1.0) (λ b. Leaf D kind.begin_word b.0 ⋅ (Words spell.body' D b.1.0 ⋅ (Quoted D kind.end_word ⋅ Quoted D kind.semicolon)))

  rule_block : (d : Option Declare) → Rule limit (one_kind kind.begin_word) (BlockFrom d) (reader.block_from n next d)
  unfolding reader.block_from
  rule_block d =
      is (one_kind kind.begin_word) (BlockFrom d)
      (keep (one kind.begin_word) (λ at. keep (inside.rule_body limit n D levelled next rule_next) (λ b. skip (one kind.end_word) (last (Block d at b) (one kind.semicolon)) refl) refl) refl)
      (λ x w l. l) (λ x w l. l) refl

  abbrev declares : ℕ → List Decl → Declare
  declares at ds = record { at = at; decls = ds }

  abbrev DeclareWords : Stmt → Language
  DeclareWords = Then (Leaf D kind.declare_word) (λ at. Then (Words (each_of spell.decl) D) (λ ds. BlockFrom (Some (declares at ds))))

  rule_declare : Rule limit (one_kind kind.declare_word) DeclareWords (reader.declaring n next)
  unfolding reader.declaring
  rule_declare =
      is (one_kind kind.declare_word) DeclareWords (seq (one kind.declare_word) (λ at. seq (rule_decls limit n D levelled) (λ ds. rule_block (Some (declares at ds))) refl) refl)
      (λ x w l. l) (λ x w l. l) refl

  -- ---- parallel blocks and loops

  abbrev DoFrom : ℕ → Option Simple → Stmt → Language
  DoFrom at count =
      Image (λ (b : Stmts × (Stmts × (Branches × Unit {0}))). ParallelBlock at count b.0 b.1.0 b.1.1.0)
      (λ b. Quoted D kind.do_word ⋅ (Words spell.stmts' D b.0 ⋅ (After kind.and_word spell.stmts' D b.1.0 ⋅ (Words spell.branches D b.1.1.0 ⋅ Closing kind.do_word))))

  rule_do : (at : ℕ) (count : Option Simple) → Rule limit (one_kind kind.do_word) (DoFrom at count) (reader.do_from n next at count)
  unfolding reader.do_from
  rule_do at count =
      is (one_kind kind.do_word) (DoFrom at count)
      (skip (one kind.do_word) (keep stmts (λ a. keep (inside.rule_and_stmts limit n D levelled next rule_next) (λ b. keep (inside.rule_branches limit n D levelled next rule_next) (λ more.
      closed limit D within kind.do_word (ParallelBlock at count a b more)) refl) refl) refl) refl)
      (λ x w l. l) (λ x w l. l) refl

  abbrev ChunkedFrom : ℕ → Parallel → Stmt → Language
  ChunkedFrom at p = Or (ForFrom None (Some p)) (Given (count_of p) (λ count. DoFrom at (Some count)))

  abbrev chunked_sets : Sets
  chunked_sets = record { first = kind.for_word ∷ kind.do_word ∷ []; nullable = false; follow_last = [] }

  rule_chunked : (at : ℕ) (p : Parallel) → Rule limit chunked_sets (ChunkedFrom at p) (reader.chunked_from n next at p)
  unfolding reader.chunked_from
  rule_chunked at p =
      is chunked_sets (ChunkedFrom at p) (or (kind.for_word ∷ []) (rule_for None (Some p)) (exact_given (count_of p) (λ count. (rule_do at (Some count)).exact)) refl refl refl)
      (λ x w l. l) (λ x w l. l) refl

  abbrev ParallelFrom : ℕ → Stmt → Language
  ParallelFrom at = Or (DoFrom at None) (Or (ForFrom None (Some (Unchunked at))) (Then (ChunkWords D at) (ChunkedFrom at)))

  rule_parallel_from : (at : ℕ) → Rule limit (record { first = kind.do_word ∷ kind.for_word ∷ kind.open_round ∷ []; nullable = false; follow_last = [] }) (ParallelFrom at) (reader.parallel_from n next at)
  unfolding reader.parallel_from
  rule_parallel_from at =
      is _ (ParallelFrom at)
      (or (kind.do_word ∷ []) (rule_do at None) (or (kind.for_word ∷ []) (rule_for None (Some (Unchunked at))) (seq (below.chunk at) (rule_chunked at) refl).exact refl refl refl).exact refl refl refl)
      (λ x w l. l) (λ x w l. l) refl

  abbrev ParallelWords : Stmt → Language
  ParallelWords = Then (Leaf D kind.parallel_word) ParallelFrom

  rule_parallel : Rule limit (one_kind kind.parallel_word) ParallelWords (reader.parallel_stmt n next)
  unfolding reader.parallel_stmt
  rule_parallel = is (one_kind kind.parallel_word) ParallelWords (seq (one kind.parallel_word) rule_parallel_from refl) (λ x w l. l) (λ x w l. l) refl

  -- ---- statements that begin with a name

  abbrev NamedFrom : Name → Stmt → Language
  NamedFrom m = Or (AssignFrom m) (Or (Semicolon (CallStmt m)) (Given (name_identifier m) LabelledFrom))

  rule_named_from : (m : Name) → Rule limit (record { first = kind.assign ∷ kind.semicolon ∷ kind.colon ∷ []; nullable = false; follow_last = [] }) (NamedFrom m) (reader.named_from n next m)
  unfolding reader.named_from
  rule_named_from m =
      is _ (NamedFrom m)
      (or (kind.assign ∷ []) (rule_assigned m) (or (kind.semicolon ∷ []) (last (CallStmt m) (one kind.semicolon)) (exact_given (name_identifier m) (λ l. (rule_labelled l).exact)) refl refl refl).exact refl refl refl)
      (λ x w l. l) (λ x w l. l) refl

  abbrev NamedWords : Stmt → Language
  NamedWords = Then (Words spell.name' D) NamedFrom

  rule_named : Rule limit (one_kind kind.identifier) NamedWords (reader.named n next)
  unfolding reader.named
  rule_named = is (one_kind kind.identifier) NamedWords (seq (rule_name limit D within (levels n) below) rule_named_from refl) (λ x w l. l) (λ x w l. l) refl

  -- ---- all forms

  abbrev CompoundWords : Stmt → Language
  CompoundWords =
      Or IfWords (Or CaseWords (Or (WhileFrom None) (Or (ForFrom None None) (Or ParallelWords (Or (LoopFrom None None) (Or DeclareWords (BlockFrom None)))))))

  abbrev compound_sets : Sets
  compound_sets = record {
    first = kind.if_word ∷ kind.case_word ∷ kind.while_word ∷ kind.for_word ∷ kind.parallel_word ∷ kind.loop_word ∷ kind.declare_word ∷ kind.begin_word ∷ [];
    nullable = false;
    follow_last = [];
  }

  rule_compound : Rule limit compound_sets CompoundWords (reader.compound n next)
  unfolding reader.compound
  rule_compound =
      is compound_sets CompoundWords
      (or (kind.if_word ∷ []) rule_if (or (kind.case_word ∷ []) rule_case (or (kind.while_word ∷ []) (rule_while None) (or (kind.for_word ∷ []) (rule_for None None)
      (or (kind.parallel_word ∷ []) rule_parallel (or (kind.loop_word ∷ []) (rule_loop None None) (or (kind.declare_word ∷ []) rule_declare (rule_block None).exact
      refl refl refl).exact refl refl refl).exact refl refl refl).exact refl refl refl).exact refl refl refl).exact refl refl refl).exact refl refl refl)
      (λ x w l. l) (λ x w l. l) refl

  abbrev OpenWords : Stmt → Language
  OpenWords = Or NullWords (Or NamedWords (Or ExitWords (Or ReturnWords (Or RaiseWords CompoundWords))))

  -- ---- from what was read to what stands there

  abbrev W : Stmt → Language
  W = Words spell.stmt around

  when_words : (c : OptionalExpr) (w : Word) → Words spell.filter D c w → Words (optional_of_after (free kind.when_word) spell.expr) D (option_of c) w
  unfolding spell.expr
  when_words AbsentExpr w l = l
  when_words (PresentExpr e) w l = l

  -- a loop from its label, its scheme and the rest
  loop_words : (label : Option ℕ) (scheme : Option Scheme) (x : Stmt) (w : Word) → (Words (optional_of spell.label) D label ⋅ (Words (optional_of spell.scheme) D scheme ⋅ LoopFrom label scheme x)) w → W x w
  unfolding spell.stmt
  loop_words label scheme x w (u, v, e, l, (u1, v1, e1, s, (b, eq, k))) = from W eq (u, v, e, l, (u1, v1, e1, s, k))

  while_words : (label : Option ℕ) (x : Stmt) (w : Word) → (Words (optional_of spell.label) D label ⋅ WhileFrom label x) w → W x w
  while_words label x w (u, v, e, l, (at, u1, v1, e1, i, (c, u2, v2, e2, lc, k))) =
      loop_words label (Some (While at c)) x w
      (u, v, e, l, to_left {L = Leaf D kind.while_word at} {M = Words spell.expr D c} {N = LoopFrom label (Some (While at c)) x} (u1, v1, e1, i, (u2, v2, e2, lc, k)))

  for_words : (label : Option ℕ) (p : Option Parallel) (x : Stmt) (w : Word) → (Words (optional_of spell.label) D label ⋅ (Words (optional_of spell.parallel) D p ⋅ ForFrom label p x)) w → W x w
  for_words label p x w (u, v, e, l, (u0, v0, e0, lp, (at, u1, v1, e1, i, (t, u2, v2, e2, lt, k)))) =
      loop_words label (Some (For p at t)) x w (
        u,
        v,
        e,
        l,
        to_left {L = Words (optional_of spell.parallel) D p} {M = Leaf D kind.for_word at ⋅ Words spell.iter D t} {N = LoopFrom label (Some (For p at t)) x}
            (u0, v0, e0, lp, to_left {L = Leaf D kind.for_word at} {M = Words spell.iter D t} {N = LoopFrom label (Some (For p at t)) x} (u1, v1, e1, i, (u2, v2, e2, lt, k))),
      )

  block_words : (d : Option Declare) (x : Stmt) (w : Word) → (Words (optional_of spell.declare) D d ⋅ BlockFrom d x) w → W x w
  unfolding spell.stmt
  block_words d x w (u, v, e, l, (b, eq, k)) = from W eq (u, v, e, l, k)

  do_words : (at : ℕ) (count : Option Simple) (x : Stmt) (w : Word) → (Leaf D kind.parallel_word at ⋅ (Words (optional_of spell.count) D count ⋅ DoFrom at count x)) w → W x w
  unfolding spell.stmt
  do_words at count x w (u, v, e, l, (u1, v1, e1, c, (b, eq, k))) =
      from W eq (u, v, e, l, (u1, v1, e1, c, at_second {L = Quoted D kind.do_word} (λ y m. at_second {L = Words spell.stmts' D b.0} (λ y m. to_right m) m) k))

  labelled_words : (l : ℕ) (x : Stmt) (w : Word) → (Leaf D kind.identifier l ⋅ LabelledFrom l x) w → W x w
  labelled_words l x w (u, v, e, i, (n', u1, v1, e1, j, k)) = by (to_left {L = Leaf D kind.identifier l} {M = Quoted D kind.colon} {N = AnyLoop l x} (u, v, e, i, (u1, v1, e1, (n', j), k))) where
    by : ((Leaf D kind.identifier l ⋅ Quoted D kind.colon) ⋅ AnyLoop l x) w → W x w
    by (y, z, q, lab, inl m) = while_words (Some l) x w (y, z, q, lab, m)
    by (y, z, q, lab, inr (inl m)) = for_words (Some l) None x w (y, z, q, lab, ([], z, refl, refl, m))
    by (y, z, q, lab, inr (inr (inl (p, u2, v2, e2, lp, m)))) = for_words (Some l) (Some p) x w (y, z, q, lab, (u2, v2, e2, lp, m))
    by (y, z, q, lab, inr (inr (inr m))) = loop_words (Some l) None x w (y, z, q, lab, ([], z, refl, refl, m))

  named_words : (x : Stmt) (w : Word) → NamedWords x w → W x w
  unfolding spell.stmt
  named_words x w (m, u, v, e, l, inl (b, eq, k)) = from W eq (u, v, e, l, k)
  named_words x w (m, u, v, e, l, inr (inl (_, eq, k))) = from W eq (u, v, e, l, k)
  named_words x w (m, u, v, e, l, inr (inr g)) = by (name_identifier m) refl g where
    by : (o : Option ℕ) → name_identifier m ≡ o → Given o LabelledFrom x v → W x w
    by None h g = absurd g
    by (Some i) h k = labelled_words i x w (u, v, e, identifier_alone D i u (from (λ z y. Words spell.name' D z y) (sym (name_view m i h)) l), k)

  parallel_words : (x : Stmt) (w : Word) → ParallelWords x w → W x w
  parallel_words x w (at, u, v, e, i, inl k) = do_words at None x w (u, v, e, i, ([], v, refl, refl, k))
  parallel_words x w (at, u, v, e, i, inr (inl k)) = for_words None (Some (Unchunked at)) x w ([], w, refl, refl, (u, v, e, unchunked at u i, k)) where
    unchunked : (at : ℕ) (u : Word) → Leaf D kind.parallel_word at u → Words spell.parallel D (Unchunked at) u
    unchunked at u i = iteration.unchunked_words limit D within (levels n) below at u i
  parallel_words x w (at, u, v, e, i, inr (inr (p, u1, v1, e1, lp, inl k))) =
      for_words None (Some p) x w ([], w, refl, refl, with_chunk (to_left {L = Leaf D kind.parallel_word at} {M = ChunkWords D at p} {N = ForFrom None (Some p) x} (u, v, e, i, (u1, v1, e1, lp, k)))) where
        with_chunk : ((Leaf D kind.parallel_word at ⋅ ChunkWords D at p) ⋅ ForFrom None (Some p) x) w → (Words spell.parallel D p ⋅ ForFrom None (Some p) x) w
        with_chunk (u, v, e, l, k) = (u, v, e, iteration.with_chunk limit D within (levels n) below at p u l, k)
  parallel_words x w (at, u, v, e, i, inr (inr (p, u1, v1, e1, lp, inr g))) = by p lp g where
    by : (p : Parallel) → ChunkWords D at p u1 → Given (count_of p) (λ count. DoFrom at (Some count)) x v1 → W x w
    by (Counted n' count) (_, lc) k = do_words at (Some count) x w (u, v, e, i, (u1, v1, e1, lc, k))
    by (Chunked n' index r) lc k = absurd k
    by (Unchunked n') lc k = absurd k

  join_stmt : (x : Stmt) (w : Word) → OpenWords x w → W x w
  unfolding spell.stmt
  join_stmt x w (inl (b, eq, k)) = from W eq k
  join_stmt x w (inr (inl k)) = named_words x w k
  join_stmt x w (inr (inr (inl (b, eq, (u, v, e, i, (u1, v1, e1, m, (u2, v2, e2, c, z))))))) = from W eq (u, v, e, i, (u1, v1, e1, m, (u2, v2, e2, when_words b.1.1.0 u2 c, z)))
  join_stmt x w (inr (inr (inr (inl (at, u, v, e, i, inl (_, eq, z)))))) = from W eq (u, v, e, i, ([], v, refl, refl, z))
  join_stmt x w (inr (inr (inr (inl (at, u, v, e, i, inr (b, eq, z)))))) = from W eq (u, v, e, i, z)
  join_stmt x w (inr (inr (inr (inr (inl (at, u, v, e, i, inl (_, eq, z))))))) = from W eq (u, v, e, i, ([], v, refl, refl, z))
  join_stmt x w (inr (inr (inr (inr (inl (at, u, v, e, i, inr (b, eq, z))))))) = from W eq (u, v, e, i, z)
  join_stmt x w (inr (inr (inr (inr (inr (inl (b, eq, (u, v, e, i, (u1, v1, e1, c, k))))))))) = from W eq (u, v, e, i, (u1, v1, e1, c, to_right k))
  join_stmt x w (inr (inr (inr (inr (inr (inr (inl (b, eq, k)))))))) = from W eq k
  join_stmt x w (inr (inr (inr (inr (inr (inr (inr (inl k)))))))) = while_words None x w ([], w, refl, refl, k)
  join_stmt x w (inr (inr (inr (inr (inr (inr (inr (inr (inl k))))))))) = for_words None None x w ([], w, refl, refl, ([], w, refl, refl, k))
  join_stmt x w (inr (inr (inr (inr (inr (inr (inr (inr (inr (inl k)))))))))) = parallel_words x w k
  join_stmt x w (inr (inr (inr (inr (inr (inr (inr (inr (inr (inr (inl k))))))))))) = loop_words None None x w ([], w, refl, refl, ([], w, refl, refl, k))
  join_stmt x w (inr (inr (inr (inr (inr (inr (inr (inr (inr (inr (inr (inl (at, u, v, e, i, (ds, u1, v1, e1, l, k)))))))))))))) =
      block_words (Some (declares at ds)) x w (to_left {L = Leaf D kind.declare_word at} {M = Words (each_of spell.decl) D ds} {N = BlockFrom (Some (declares at ds)) x} (u, v, e, i, (u1, v1, e1, l, k)))
  join_stmt x w (inr (inr (inr (inr (inr (inr (inr (inr (inr (inr (inr (inr k)))))))))))) = block_words None x w ([], w, refl, refl, k)

  -- ---- and back

  split_named : (l : ℕ) (x : Stmt) (w : Word) → (Words spell.label D l ⋅ AnyLoop l x) w → OpenWords x w
  split_named l x w k = by (to_right {L = Leaf D kind.identifier l} {M = Quoted D kind.colon} {N = AnyLoop l x} k) where
    by : (Leaf D kind.identifier l ⋅ (Quoted D kind.colon ⋅ AnyLoop l x)) w → OpenWords x w
    by (u, v, e, i, (u1, v1, e1, (n', j), k)) = inr (inl (name_for l, u, v, e, alone_identifier D l u i, inr (inr (n', u1, v1, e1, j, k))))

  split_for : (p : Option Parallel) (at : ℕ) (i : Iter) (label : Option ℕ) (x : Stmt) (w : Word) → (Words spell.scheme D (For p at i) ⋅ LoopFrom label (Some (For p at i)) x) w → (Words (optional_of spell.parallel) D p ⋅ ForFrom label p x) w
  split_for p at i label x w k =
      let (u, v, e, lp, m) = to_right {L = Words (optional_of spell.parallel) D p} {M = Leaf D kind.for_word at ⋅ Words spell.iter D i} {N = LoopFrom label (Some (For p at i)) x} k in
      let (u1, v1, e1, lf, (u2, v2, e2, li, z)) = to_right {L = Leaf D kind.for_word at} {M = Words spell.iter D i} {N = LoopFrom label (Some (For p at i)) x} m in
      (u, v, e, lp, (at, u1, v1, e1, lf, (i, u2, v2, e2, li, z)))

  split_parallel : (p : Parallel) (x : Stmt) (w : Word) → (Words spell.parallel D p ⋅ ForFrom None (Some p) x) w → OpenWords x w
  split_parallel p x w (u, v, e, l, k) = by (iteration.split_parallel limit D within (levels n) below p u l) where
    by : Then (Leaf D kind.parallel_word) (λ at. Or (ChunkWords D at) (Pure (Unchunked at))) p u → OpenWords x w
    by (at, u1, v1, e1, i, inr (eq, none)) =
        inr (inr (inr (inr (inr (inr (inr (inr (inr (inl (at, u, v, e, from_u at u1 v1 e1 i none, inr (inl (from (λ z. ForFrom None (Some z) x) (sym eq) k)))))))))))) where
          from_u : (at : ℕ) (u1 v1 : Word) → u ≡ u1 ++ v1 → Leaf D kind.parallel_word at u1 → v1 ≡ [] → Leaf D kind.parallel_word at u
          from_u at u1 v1 e1 i none = without_after {L = Leaf D kind.parallel_word at} (u1, v1, e1, i, none)
    by (at, u1, v1, e1, i, inl c) =
        let (u2, v2, e2, i', (u3, v3, e3, c', k')) = to_right {L = Leaf D kind.parallel_word at} {M = ChunkWords D at p} {N = ForFrom None (Some p) x} (u, v, e, (u1, v1, e1, i, c), k) in
        inr (inr (inr (inr (inr (inr (inr (inr (inr (inl (at, u2, v2, e2, i', inr (inr (p, u3, v3, e3, c', inl k'))))))))))))

  -- from `do` on, as it is spelled
  abbrev DoWords : Stmts → Stmts → Branches → Language
  DoWords a b more = Quoted D kind.do_word ⋅ (Words spell.stmts' D a ⋅ (Quoted D kind.and_word ⋅ (Words spell.stmts' D b ⋅ (Words spell.branches D more ⋅ Closing kind.do_word))))

  do_parts : (a b : Stmts) (more : Branches) (w : Word) → DoWords a b more w → (Quoted D kind.do_word ⋅ (Words spell.stmts' D a ⋅ (After kind.and_word spell.stmts' D b ⋅ (Words spell.branches D more ⋅ Closing kind.do_word)))) w
  do_parts a b more w k = at_second {L = Quoted D kind.do_word} (λ y m. at_second {L = Words spell.stmts' D a} (λ y m. to_left m) m) k

  split_stmt : (x : Stmt) (w : Word) → W x w → OpenWords x w
  unfolding spell.stmt
  split_stmt (Null at) w l = inl ((at, tt), refl, l)
  split_stmt (Assign m y) w (u, v, e, l, k) = inr (inl (m, u, v, e, l, inl ((y, tt), refl, k)))
  split_stmt (CallStmt m) w (u, v, e, l, k) = inr (inl (m, u, v, e, l, inr (inl (tt, refl, k))))
  split_stmt (Exit at m None) w (u, v, e, i, (u1, v1, e1, l, (u2, v2, e2, c, z))) = inr (inr (inl ((at, (m, (AbsentExpr, tt))), refl, (u, v, e, i, (u1, v1, e1, l, (u2, v2, e2, no_filter u2 c, z)))))) where
    no_filter : (u : Word) → u ≡ [] → Words spell.filter D AbsentExpr u
    no_filter u c = iteration.absent_words limit D within (levels n) below u c
  split_stmt (Exit at m (Some y)) w (u, v, e, i, (u1, v1, e1, l, (u2, v2, e2, c, z))) = inr (inr (inl ((at, (m, (PresentExpr y, tt))), refl, (u, v, e, i, (u1, v1, e1, l, (u2, v2, e2, some_filter u2 c, z)))))) where
    some_filter : (u : Word) → (Quoted D kind.when_word ⋅ Words spell.expr D y) u → Words spell.filter D (PresentExpr y) u
    some_filter u c = iteration.present_words limit D within (levels n) below y u c
  split_stmt (Return at None) w (u, v, e, i, k) = inr (inr (inr (inl (at, u, v, e, i, inl (tt, refl, without_before {L = Quoted D kind.semicolon} k)))))
  split_stmt (Return at (Some y)) w (u, v, e, i, k) = inr (inr (inr (inl (at, u, v, e, i, inr ((y, tt), refl, k)))))
  split_stmt (Raise at None) w (u, v, e, i, k) = inr (inr (inr (inr (inl (at, u, v, e, i, inl (tt, refl, without_before {L = Quoted D kind.semicolon} k))))))
  split_stmt (Raise at (Some p)) w (u, v, e, i, k) = inr (inr (inr (inr (inl (at, u, v, e, i, inr ((p, tt), refl, k))))))
  split_stmt (IfStmt at c s more o) w (u, v, e, i, (u1, v1, e1, l, k)) = inr (inr (inr (inr (inr (inl ((at, (c, (s, (more, (o, tt))))), refl, (u, v, e, i, (u1, v1, e1, l, to_left k))))))))
  split_stmt (Case at y a more) w l = inr (inr (inr (inr (inr (inr (inl ((at, (y, (a, (more, tt)))), refl, l)))))))
  split_stmt (Loop None None at s end m) w l =
      inr (inr (inr (inr (inr (inr (inr (inr (inr (inr (inl ((at, (s, (end, m))), refl, plain l))))))))))) where
        plain : (Empty ⋅ (Empty ⋅ (Leaf D kind.loop_word at ⋅ (Words spell.stmts' D s ⋅ LoopEnd (end, m))))) w → (Leaf D kind.loop_word at ⋅ (Words spell.stmts' D s ⋅ LoopEnd (end, m))) w
        plain l = without_before {L = Leaf D kind.loop_word at ⋅ (Words spell.stmts' D s ⋅ LoopEnd (end, m))} (without_before {L = Empty ⋅ (Leaf D kind.loop_word at ⋅ (Words spell.stmts' D s ⋅ LoopEnd (end, m)))} l)
  split_stmt (Loop (Some l) None at s end m) w (u, v, e, lab, k) =
      split_named l (Loop (Some l) None at s end m) w
      (u, v, e, lab, inr (inr (inr ((at, (s, (end, m))), refl, without_before {L = Leaf D kind.loop_word at ⋅ (Words spell.stmts' D s ⋅ LoopEnd (end, m))} k))))
  split_stmt (Loop None (Some (While n' c)) at s end m) w l =
      let (u, v, e, i, (u1, v1, e1, lc, k)) = to_right {L = Leaf D kind.while_word n'} {M = Words spell.expr D c} {N = Leaf D kind.loop_word at ⋅ (Words spell.stmts' D s ⋅ LoopEnd (end, m))}
      (without_before {L = (Leaf D kind.while_word n' ⋅ Words spell.expr D c) ⋅ (Leaf D kind.loop_word at ⋅ (Words spell.stmts' D s ⋅ LoopEnd (end, m)))} l) in
      inr (inr (inr (inr (inr (inr (inr (inl (n', u, v, e, i, (c, u1, v1, e1, lc, ((at, (s, (end, m))), refl, k))))))))))
  split_stmt (Loop (Some l) (Some (While n' c)) at s end m) w (u0, v0, e0, lab, k0) =
      let (u, v, e, i, (u1, v1, e1, lc, k)) = to_right {L = Leaf D kind.while_word n'} {M = Words spell.expr D c} {N = Leaf D kind.loop_word at ⋅ (Words spell.stmts' D s ⋅ LoopEnd (end, m))} k0 in
      split_named l (Loop (Some l) (Some (While n' c)) at s end m) w (u0, v0, e0, lab, inl (n', u, v, e, i, (c, u1, v1, e1, lc, ((at, (s, (end, m))), refl, k))))
  split_stmt (Loop None (Some (For p n' i)) at s end m) w l =
      by p (split_for p n' i None (Loop None (Some (For p n' i)) at s end m) w (with_image (without_before {L = Words spell.scheme D (For p n' i) ⋅ (Leaf D kind.loop_word at ⋅ (Words spell.stmts' D s ⋅ LoopEnd (end, m)))} l))) where
        with_image : (Words spell.scheme D (For p n' i) ⋅ (Leaf D kind.loop_word at ⋅ (Words spell.stmts' D s ⋅ LoopEnd (end, m)))) w → (Words spell.scheme D (For p n' i) ⋅ LoopFrom None (Some (For p n' i)) (Loop None (Some (For p n' i)) at s end m)) w
        with_image (u, v, e, l, k) = (u, v, e, l, ((at, (s, (end, m))), refl, k))

        by : (q : Option Parallel) → (Words (optional_of spell.parallel) D q ⋅ ForFrom None q (Loop None (Some (For p n' i)) at s end m)) w → OpenWords (Loop None (Some (For p n' i)) at s end m) w
        by None k = inr (inr (inr (inr (inr (inr (inr (inr (inl (without_before {L = ForFrom None None (Loop None (Some (For p n' i)) at s end m)} k)))))))))
        by (Some q) k = split_parallel q (Loop None (Some (For p n' i)) at s end m) w k
  split_stmt (Loop (Some l) (Some (For p n' i)) at s end m) w (u0, v0, e0, lab, (u1, v1, e1, sch, k1)) =
      split_named l (Loop (Some l) (Some (For p n' i)) at s end m) w
      (u0, v0, e0, lab, by p (split_for p n' i (Some l) (Loop (Some l) (Some (For p n' i)) at s end m) v0 (u1, v1, e1, sch, ((at, (s, (end, m))), refl, k1)))) where
        by : (q : Option Parallel) → (Words (optional_of spell.parallel) D q ⋅ ForFrom (Some l) q (Loop (Some l) (Some (For p n' i)) at s end m)) v0
            → AnyLoop l (Loop (Some l) (Some (For p n' i)) at s end m) v0
        by None k = inr (inl (without_before {L = ForFrom (Some l) None (Loop (Some l) (Some (For p n' i)) at s end m)} k))
        by (Some q) (u, v, e, lq, k) = inr (inr (inl (q, u, v, e, lq, k)))
  split_stmt (Block None at b) w l =
      inr (inr (inr (inr (inr (inr (inr (inr (inr (inr (inr (inr ((at, (b, tt)), refl, without_before {L = Leaf D kind.begin_word at ⋅ (Words spell.body' D b ⋅ (Quoted D kind.end_word ⋅ Quoted D kind.semicolon))} l))))))))))))
  split_stmt (Block (Some d) at b) w l =
      let (u, v, e, i, (u1, v1, e1, ld, k)) = to_right {L = Leaf D kind.declare_word d.at} {M = Words (each_of spell.decl) D d.decls} {N = Leaf D kind.begin_word at ⋅ (Words spell.body' D b ⋅ (Quoted D kind.end_word ⋅ Quoted D kind.semicolon))} l in
      inr (inr (inr (inr (inr (inr (inr (inr (inr (inr (inr (inl (d.at, u, v, e, i, (d.decls, u1, v1, e1, ld, ((at, (b, tt)), refl, k))))))))))))))
  split_stmt (ParallelBlock at None a b more) w (u, v, e, i, k) =
      inr (inr (inr (inr (inr (inr (inr (inr (inr (inl (at, u, v, e, i, inl ((a, (b, (more, tt))), refl, do_parts a b more v (without_before {L = DoWords a b more} k))))))))))))
  split_stmt (ParallelBlock at (Some c) a b more) w (u, v, e, i, (u1, v1, e1, lc, k)) =
      inr (inr (inr (inr (inr (inr (inr (inr (inr (inl (at, u, v, e, i, inr (inr (Counted at c, u1, v1, e1, (refl, lc), inr ((a, (b, (more, tt))), refl, do_parts a b more v1 k)))))))))))))

  pub rule_open_stmt : Rule limit stmt_sets (Words spell.stmt around) (reader.open_stmt n next)
  unfolding reader.open_stmt
  rule_open_stmt =
      is stmt_sets (Words spell.stmt around)
      (or (kind.null_word ∷ []) rule_null (or (kind.identifier ∷ []) rule_named (or (kind.exit_word ∷ []) rule_exit (or (kind.return_word ∷ []) rule_return (or (kind.raise_word ∷ []) rule_raise rule_compound.exact
      refl refl refl).exact refl refl refl).exact refl refl refl).exact refl refl refl).exact refl refl refl)
      join_stmt split_stmt refl
