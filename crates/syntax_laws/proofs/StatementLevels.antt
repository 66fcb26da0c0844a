-- The readers of statements are exact at each level, down to the one where no statement may begin.
use Rattle.std.proofs.Common.{◌≡◌, ℕ, zero, suc, ◌+◌, ◌<◌, [], ◌∷◌, true, Some, None, refl, arith}
use Rattle.ada_base.specs.Symbols.{Symbol, Word, is_member}
use Rattle.ada_base.specs.Languages.{Language, Leaf, Quoted, Empty, Begins, Inhabited, ◌⋅◌}
use Rattle.syntax_readers.specs.Exact.{Rule}
use Rattle.syntax_readers.proofs.Depths.{BeginsTooDeep, exact_too_deep}
use Rattle.syntax_readers.proofs.Forms.{to_left, to_right, none_before, without_before, none_after, at_first}
use Rattle.syntax_readers.proofs.Samples.{sample_as, sample_leaf, sample_free, sample_none, sample_both, for_member, first_held, begins_held, sample_of}
use Rattle.ada_base.specs.Kinds as kind
use Rattle.syntax_tree.specs.Syntax as syntax
use Rattle.syntax_tree.specs.Syntax.{Expr, Name, Others, AbsentExpr, Unchunked, Counted, Chunked, Iter, OfName, While, For, Declare, Stmt, Null, Assign, CallStmt, Exit, Return, Raise, IfStmt, Case, Loop, Block, ParallelBlock, Stmts, NoStmt, AbsentStmts, NoArm, Alt, NoAlt, NoBranch, Body, NoHandler}
use Rattle.syntax_tree.specs.Productions as spell
use Rattle.syntax_grammar.specs.Statements as reader
use Rattle.syntax_grammar.specs.Statements.{stmt_kinds}
use Rattle.syntax_laws.proofs.Words.{Words}
use Rattle.syntax_laws.proofs.Bares.{name_for, alone_identifier}
use Rattle.syntax_laws.proofs.Levels.{sample_expr}
use Rattle.syntax_laws.proofs.Bodies.{stmt_sets}
use Rattle.syntax_laws.proofs.Statements.{rule_open_stmt}

-- ---- samples: statements and bodies of one null statement, and what stands in others

pub sample_stmts : (depth : ℕ) → Inhabited (Words spell.stmts' depth)
unfolding spell.stmt
sample_stmts depth =
    sample_as (λ (b : ℕ × Unit {0}). syntax.stmts (Null b.0) NoStmt) (λ b w l. none_after {L = Leaf (suc depth) kind.null_word b.0 ⋅ Quoted (suc depth) kind.semicolon} l)
    (sample_both (sample_leaf (suc depth) kind.null_word) (sample_free (suc depth) kind.semicolon))

pub sample_body : (depth : ℕ) → Inhabited (Words spell.body' depth)
unfolding spell.stmt
sample_body depth = sample_as (λ s. syntax.body s NoHandler) (λ s w l. l) (sample_stmts depth)

sample_alt : (depth : ℕ) → Inhabited (Words spell.alt' depth)
unfolding spell.stmt spell.expr
sample_alt depth =
    sample_as (λ (b : ℕ × (ℕ × (Unit {0} × (Unit {0} × Stmts)))). syntax.alt b.0 (Others b.1.0) [] b.1.1.1.1) (λ b w l. l)
    (sample_both (sample_leaf depth kind.when_word) (sample_both (sample_leaf depth kind.others_word) (sample_both sample_none (sample_both (sample_free depth kind.arrow) (sample_stmts depth)))))

sample_name : (depth : ℕ) → Inhabited (Words spell.name' depth)
sample_name depth = sample_as name_for (alone_identifier depth) (sample_leaf depth kind.identifier)

sample_iter : (depth : ℕ) → Inhabited (Words spell.iter depth)
unfolding spell.expr
sample_iter depth =
    sample_as (λ (b : ℕ × (Unit {0} × (Name × Unit {0}))). OfName b.0 b.1.1.0 AbsentExpr) (λ b w l. l)
    (sample_both (sample_leaf depth kind.identifier) (sample_both (sample_free depth kind.of_word) (sample_both (sample_name depth) sample_none)))

module _ (around : ℕ) where
  abbrev D : ℕ
  D = suc around

  abbrev W : Stmt → Language
  W = Words spell.stmt around

  sample_closing : (k : ℕ) → Inhabited (λ (b : Unit {0} × (Unit {0} × Unit {0})). Quoted D kind.end_word ⋅ (Quoted D k ⋅ Quoted D kind.semicolon))
  sample_closing k = sample_both (sample_free D kind.end_word) (sample_both (sample_free D k) (sample_free D kind.semicolon))

  -- from `loop` on
  abbrev LoopRest : ℕ × (Stmts × (ℕ × (Unit {0} × (Unit {0} × Unit {0})))) → Language
  LoopRest b = Leaf D kind.loop_word b.0 ⋅ (Words spell.stmts' D b.1.0 ⋅ (Leaf D kind.end_word b.1.1.0 ⋅ (Quoted D kind.loop_word ⋅ (Empty ⋅ Quoted D kind.semicolon))))

  sample_after_loop : Inhabited (λ (b : Stmts × (ℕ × (Unit {0} × (Unit {0} × Unit {0})))). Words spell.stmts' D b.0 ⋅ (Leaf D kind.end_word b.1.0 ⋅ (Quoted D kind.loop_word ⋅ (Empty ⋅ Quoted D kind.semicolon))))
  sample_after_loop = sample_both (sample_stmts D) (sample_both (sample_leaf D kind.end_word) (sample_both (sample_free D kind.loop_word) (sample_both sample_none (sample_free D kind.semicolon))))

  sample_loop : Inhabited LoopRest
  sample_loop = sample_both (sample_leaf D kind.loop_word) sample_after_loop

  begins_null : (t : Symbol) → kind.null_word ≡ t.kind → Begins W (t ∷ [])
  unfolding spell.stmt
  begins_null t is_kind = begins_held D kind.null_word t is_kind (λ (_ : Unit {0}). Null t.number) (λ b w l. l) (sample_free D kind.semicolon)

  begins_identifier : (t : Symbol) → kind.identifier ≡ t.kind → Begins W (t ∷ [])
  unfolding spell.stmt
  begins_identifier t is_kind =
      begins_held D kind.identifier t is_kind (λ (_ : Unit {0}). CallStmt (name_for t.number)) (λ b w l. at_first (λ u i. alone_identifier D t.number u i) l) (sample_free D kind.semicolon)

  begins_exit : (t : Symbol) → kind.exit_word ≡ t.kind → Begins W (t ∷ [])
  unfolding spell.stmt
  begins_exit t is_kind =
      begins_held D kind.exit_word t is_kind (λ (_ : Unit {0} × (Unit {0} × Unit {0})). Exit t.number None None) (λ b w l. l) (sample_both sample_none (sample_both sample_none (sample_free D kind.semicolon)))

  begins_return : (t : Symbol) → kind.return_word ≡ t.kind → Begins W (t ∷ [])
  unfolding spell.stmt
  begins_return t is_kind = begins_held D kind.return_word t is_kind (λ (_ : Unit {0} × Unit {0}). Return t.number None) (λ b w l. l) (sample_both sample_none (sample_free D kind.semicolon))

  begins_raise : (t : Symbol) → kind.raise_word ≡ t.kind → Begins W (t ∷ [])
  unfolding spell.stmt
  begins_raise t is_kind = begins_held D kind.raise_word t is_kind (λ (_ : Unit {0} × Unit {0}). Raise t.number None) (λ b w l. l) (sample_both sample_none (sample_free D kind.semicolon))

  begins_if : (t : Symbol) → kind.if_word ≡ t.kind → Begins W (t ∷ [])
  unfolding spell.stmt
  begins_if t is_kind =
      begins_held D kind.if_word t is_kind (λ (b : Expr × (Unit {0} × (Stmts × (Unit {0} × (Unit {0} × (Unit {0} × (Unit {0} × Unit {0}))))))). IfStmt t.number b.0 b.1.1.0 NoArm AbsentStmts) (λ b w l. l)
      (sample_both (sample_expr D) (sample_both (sample_free D kind.then_word) (sample_both (sample_stmts D) (sample_both sample_none (sample_both sample_none (sample_closing kind.if_word))))))

  begins_case : (t : Symbol) → kind.case_word ≡ t.kind → Begins W (t ∷ [])
  unfolding spell.stmt
  begins_case t is_kind =
      begins_held D kind.case_word t is_kind (λ (b : Expr × (Unit {0} × (Alt × (Unit {0} × (Unit {0} × (Unit {0} × Unit {0})))))). Case t.number b.0 b.1.1.0 NoAlt) (λ b w l. l)
      (sample_both (sample_expr D) (sample_both (sample_free D kind.is_word) (sample_both (sample_alt D) (sample_both sample_none (sample_closing kind.case_word)))))

  begins_while : (t : Symbol) → kind.while_word ≡ t.kind → Begins W (t ∷ [])
  unfolding spell.stmt
  begins_while t is_kind =
      begins_held D kind.while_word t is_kind (λ (b : Expr × (ℕ × (Stmts × (ℕ × (Unit {0} × (Unit {0} × Unit {0})))))). Loop None (Some (While t.number b.0)) b.1.0 b.1.1.0 b.1.1.1.0 None)
      (λ b w l. none_before {L = (Leaf D kind.while_word t.number ⋅ Words spell.expr D b.0) ⋅ LoopRest b.1} (to_left {L = Leaf D kind.while_word t.number} {M = Words spell.expr D b.0} {N = LoopRest b.1} l))
      (sample_both (sample_expr D) sample_loop)

  begins_for : (t : Symbol) → kind.for_word ≡ t.kind → Begins W (t ∷ [])
  unfolding spell.stmt
  begins_for t is_kind =
      begins_held D kind.for_word t is_kind (λ (b : Iter × (ℕ × (Stmts × (ℕ × (Unit {0} × (Unit {0} × Unit {0})))))). Loop None (Some (For None t.number b.0)) b.1.0 b.1.1.0 b.1.1.1.0 None)
      (λ b w l. none_before {L = (Empty ⋅ (Leaf D kind.for_word t.number ⋅ Words spell.iter D b.0)) ⋅ LoopRest b.1}
      (at_first (λ u m. none_before {L = Leaf D kind.for_word t.number ⋅ Words spell.iter D b.0} m) (to_left {L = Leaf D kind.for_word t.number} {M = Words spell.iter D b.0} {N = LoopRest b.1} l)))
      (sample_both (sample_iter D) sample_loop)

  begins_parallel : (t : Symbol) → kind.parallel_word ≡ t.kind → Begins W (t ∷ [])
  unfolding spell.stmt
  begins_parallel t is_kind =
      begins_held D kind.parallel_word t is_kind (λ (b : Unit {0} × (Unit {0} × (Stmts × (Unit {0} × (Stmts × (Unit {0} × (Unit {0} × (Unit {0} × Unit {0})))))))). ParallelBlock t.number None b.1.1.0 b.1.1.1.1.0 NoBranch) (λ b w l. l)
      (sample_both sample_none (sample_both (sample_free D kind.do_word) (sample_both (sample_stmts D) (sample_both (sample_free D kind.and_word) (sample_both (sample_stmts D) (sample_both sample_none (sample_closing kind.do_word)))))))

  begins_loop : (t : Symbol) → kind.loop_word ≡ t.kind → Begins W (t ∷ [])
  unfolding spell.stmt
  begins_loop t is_kind =
      begins_held D kind.loop_word t is_kind (λ (b : Stmts × (ℕ × (Unit {0} × (Unit {0} × Unit {0})))). Loop None None t.number b.0 b.1.0 None)
      (λ b w l. none_before {L = Empty ⋅ LoopRest (t.number, b)} (none_before {L = LoopRest (t.number, b)} l)) sample_after_loop

  -- after `begin`
  abbrev BlockRest : Body × (Unit {0} × Unit {0}) → Language
  BlockRest b = Words spell.body' D b.0 ⋅ (Quoted D kind.end_word ⋅ Quoted D kind.semicolon)

  sample_block : Inhabited BlockRest
  sample_block = sample_both (sample_body D) (sample_both (sample_free D kind.end_word) (sample_free D kind.semicolon))

  abbrev declares : ℕ → Declare
  declares at = record { at = at; decls = [] }

  begins_declare : (t : Symbol) → kind.declare_word ≡ t.kind → Begins W (t ∷ [])
  unfolding spell.stmt
  begins_declare t is_kind =
      begins_held D kind.declare_word t is_kind (λ (b : Unit {0} × (ℕ × (Body × (Unit {0} × Unit {0})))). Block (Some (declares t.number)) b.1.0 b.1.1.0)
      (λ b w l. to_left {L = Leaf D kind.declare_word t.number} {M = Empty} {N = Leaf D kind.begin_word b.1.0 ⋅ BlockRest b.1.1} l)
      (sample_both sample_none (sample_both (sample_leaf D kind.begin_word) sample_block))

  begins_block : (t : Symbol) → kind.begin_word ≡ t.kind → Begins W (t ∷ [])
  unfolding spell.stmt
  begins_block t is_kind =
      begins_held D kind.begin_word t is_kind (λ (b : Body × (Unit {0} × Unit {0})). Block None t.number b.0) (λ b w l. none_before {L = Leaf D kind.begin_word t.number ⋅ BlockRest b} l) sample_block

  stmt_begins : (t : Symbol) → is_member stmt_kinds t.kind ≡ true → Begins W (t ∷ [])
  stmt_begins t =
      for_member stmt_kinds t.kind
      (begins_null t, (begins_identifier t, (begins_exit t, (begins_return t, (begins_raise t, (begins_if t, (begins_case t, (begins_while t, (begins_for t, (begins_parallel t, (begins_loop t, (begins_declare t, (begins_block t, tt)))))))))))))

  -- ---- where no statement may begin

  module _ (limit : ℕ) (over : limit < suc around) where
    first : {M : Language} (k n : ℕ) (w : Word) → is_member stmt_kinds k ≡ true → (Leaf D k n ⋅ M) w → BeginsTooDeep limit stmt_kinds w
    first k n w m l = first_held limit D stmt_kinds k n w over m l

    named_first : {M : Language} (m : Name) (w : Word) → (Words spell.name' D m ⋅ M) w → BeginsTooDeep limit stmt_kinds w
    unfolding spell.expr
    named_first (syntax.name i ps) w l = first kind.identifier i w refl (to_right l)

    stmt_first : (x : Stmt) (w : Word) → W x w → BeginsTooDeep limit stmt_kinds w
    unfolding spell.stmt spell.expr
    stmt_first (Null n) w l = first kind.null_word n w refl l
    stmt_first (Assign m y) w l = named_first m w l
    stmt_first (CallStmt m) w l = named_first m w l
    stmt_first (Exit n m c) w l = first kind.exit_word n w refl l
    stmt_first (Return n y) w l = first kind.return_word n w refl l
    stmt_first (Raise n p) w l = first kind.raise_word n w refl l
    stmt_first (IfStmt n c s more o) w l = first kind.if_word n w refl l
    stmt_first (Case n y a more) w l = first kind.case_word n w refl l
    stmt_first (Loop (Some i) scheme n s end m) w l = first kind.identifier i w refl (to_right l)
    stmt_first (Loop None None n s end m) w l = first kind.loop_word n w refl (without_before (without_before l))
    stmt_first (Loop None (Some (While i c)) n s end m) w l = first kind.while_word i w refl (to_right (without_before l))
    stmt_first (Loop None (Some (For None i t)) n s end m) w l = first kind.for_word i w refl (to_right (without_before (to_right (without_before l))))
    stmt_first (Loop None (Some (For (Some (Unchunked p)) i t)) n s end m) w l = first kind.parallel_word p w refl (to_right (without_before l))
    stmt_first (Loop None (Some (For (Some (Counted p c)) i t)) n s end m) w l = first kind.parallel_word p w refl (to_right (to_right (without_before l)))
    stmt_first (Loop None (Some (For (Some (Chunked p j r)) i t)) n s end m) w l = first kind.parallel_word p w refl (to_right (to_right (without_before l)))
    stmt_first (Block None n b) w l = first kind.begin_word n w refl (without_before l)
    stmt_first (Block (Some d) n b) w l = first kind.declare_word d.at w refl (to_right l)
    stmt_first (ParallelBlock n c a b more) w l = first kind.parallel_word n w refl l

-- ---- one level after another

pub rule_stmt : (limit n depth : ℕ) → n + depth ≡ limit → Rule limit stmt_sets (Words spell.stmt depth) (reader.stmt n)
unfolding reader.stmt
rule_stmt limit zero depth e = record {
  exact = exact_too_deep stmt_sets (Words spell.stmt depth) (stmt_first depth limit (omega (arith, e))) (stmt_begins depth) refl;
  sample = sample_of (Words spell.stmt depth) kind.null_word (begins_null depth);
}
rule_stmt limit (suc n) depth e =
    let deeper : n + suc depth ≡ limit = omega (arith, e) in
    rule_open_stmt limit n depth deeper (reader.stmt n) (rule_stmt limit n (suc depth) deeper)
