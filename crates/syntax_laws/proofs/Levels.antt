-- The readers of what opens a bracket are exact at each level, down to the one where no more may open.
use Rattle.std.proofs.Common.{◌≡◌, ℕ, zero, suc, ◌+◌, ◌<◌, ◌≤◌, [], ◌∷◌, true, None, refl, arith}
use Rattle.ada_base.specs.Symbols.{Symbol, Word, is_member}
use Rattle.ada_base.specs.Languages.{Language, Leaf, Begins, Inhabited, ◌⋅◌}
use Rattle.syntax_readers.proofs.Depths.{BeginsTooDeep, exact_too_deep}
use Rattle.syntax_readers.proofs.Forms.{to_right}
use Rattle.syntax_readers.proofs.Samples.{sample_as, sample_leaf, sample_free, sample_none, sample_both, kind_is, first_held, first_free, begins_held, begins_free, sample_of}
use Rattle.ada_base.specs.Kinds as kind
use Rattle.syntax_tree.specs.Syntax as syntax
use Rattle.syntax_tree.specs.Syntax.{Expr, Simple, Primary, Number, Text, Target, Named, Group, If, Round, Square, OneValue, Reduction, NamePart, Field, Call, Attribute, RangeAttribute, NoArg, Parallel, Unchunked, Counted, Chunked}
use Rattle.syntax_tree.specs.Productions as spell
use Rattle.syntax_grammar.specs.Levels.{levels}
use Rattle.syntax_laws.proofs.Words.{Words}
use Rattle.syntax_laws.proofs.Bares.{sum_of, name_for, expr_for, words_identifier, words_expr}
use Rattle.syntax_laws.proofs.Openings.{CallWords, RoundWords, SquareWords, ChunkWords, Opening, round_sets, square_sets}
use Rattle.syntax_laws.proofs.Openers.{rule_call, rule_chunk, rule_round}
use Rattle.syntax_laws.proofs.Squares.{rule_square}

-- an identifier as a sum and as an expression
pub sample_simple : (depth : ℕ) → Inhabited (Words spell.simple depth)
sample_simple depth = sample_as (λ n. sum_of (name_for n)) (words_identifier depth) (sample_leaf depth kind.identifier)

pub sample_expr : (depth : ℕ) → Inhabited (Words spell.expr depth)
sample_expr depth = sample_as expr_for (words_expr depth) (sample_leaf depth kind.identifier)

-- ---- where no more bracket may open

module _ (limit depth : ℕ) (over : limit < suc depth) where
  first_is : {M : Language} (k n : ℕ) (w : Word) → is_member (k ∷ []) k ≡ true → (Leaf (suc depth) k n ⋅ M) w → BeginsTooDeep limit (k ∷ []) w
  first_is k n w m l = first_held limit (suc depth) (k ∷ []) k n w over m l

  round_first : (x : Primary) (w : Word) → RoundWords depth x w → BeginsTooDeep limit (kind.open_round ∷ []) w
  unfolding spell.expr
  round_first (Group b y) w l = first_is kind.open_round b w refl l
  round_first (If b at c v m o) w l = first_is kind.open_round b w refl l
  round_first (Round b m) w l = first_is kind.open_round b w refl l
  round_first (Number n) w l = absurd l
  round_first (Text n) w l = absurd l
  round_first (Target n) w l = absurd l
  round_first (Named n) w l = absurd l
  round_first (Square b m) w l = absurd l
  round_first (OneValue b y) w l = absurd l
  round_first (Reduction b p at i v a f g) w l = absurd l

  square_first : (x : Primary) (w : Word) → SquareWords depth x w → BeginsTooDeep limit (kind.open_square ∷ []) w
  unfolding spell.expr
  square_first (Square b m) w l = first_is kind.open_square b w refl l
  square_first (OneValue b y) w l = first_is kind.open_square b w refl l
  square_first (Reduction b p at i v a f g) w l = first_is kind.open_square b w refl (to_right l)
  square_first (Number n) w l = absurd l
  square_first (Text n) w l = absurd l
  square_first (Target n) w l = absurd l
  square_first (Named n) w l = absurd l
  square_first (Group b y) w l = absurd l
  square_first (If b at c v m o) w l = absurd l
  square_first (Round b m) w l = absurd l

  call_first : (x : NamePart) (w : Word) → CallWords depth x w → BeginsTooDeep limit (kind.open_round ∷ []) w
  unfolding spell.expr
  call_first (Call b a more) w l = first_is kind.open_round b w refl l
  call_first (Field n) w l = absurd l
  call_first (Attribute n) w l = absurd l
  call_first (RangeAttribute n) w l = absurd l

  chunk_first : (at : ℕ) (x : Parallel) (w : Word) → ChunkWords depth at x w → BeginsTooDeep limit (kind.open_round ∷ []) w
  chunk_first at (Counted n c) w (is, l) = first_free limit (suc depth) (kind.open_round ∷ []) kind.open_round w over refl l
  chunk_first at (Chunked n i r) w (is, l) = first_free limit (suc depth) (kind.open_round ∷ []) kind.open_round w over refl l
  chunk_first at (Unchunked n) w l = absurd l

  -- ---- samples: an identifier in the bracket

  round_begins : (t : Symbol) → kind.open_round ≡ t.kind → Begins (RoundWords depth) (t ∷ [])
  unfolding spell.expr
  round_begins t is_kind =
      begins_held (suc depth) kind.open_round t is_kind (λ (b : Expr × Unit {0}). Group t.number b.0) (λ b w l. l) (sample_both (sample_expr (suc depth)) (sample_free (suc depth) kind.close_round))

  square_begins : (t : Symbol) → kind.open_square ≡ t.kind → Begins (SquareWords depth) (t ∷ [])
  unfolding spell.expr
  square_begins t is_kind =
      begins_held (suc depth) kind.open_square t is_kind (λ (b : Expr × Unit {0}). OneValue t.number b.0) (λ b w l. l) (sample_both (sample_expr (suc depth)) (sample_free (suc depth) kind.close_square))

  call_begins : (t : Symbol) → kind.open_round ≡ t.kind → Begins (CallWords depth) (t ∷ [])
  unfolding spell.expr
  call_begins t is_kind =
      begins_held (suc depth) kind.open_round t is_kind (λ (b : ((Unit {0} × Expr) × Unit {0}) × Unit {0}). Call t.number (syntax.arg None b.0.0.1) NoArg) (λ b w l. l)
      (sample_both (sample_both (sample_both sample_none (sample_expr (suc depth))) sample_none) (sample_free (suc depth) kind.close_round))

  chunk_begins : (at : ℕ) (t : Symbol) → kind.open_round ≡ t.kind → Begins (ChunkWords depth at) (t ∷ [])
  chunk_begins at t is_kind =
      begins_free (suc depth) kind.open_round t is_kind (λ (b : Simple × Unit {0}). Counted at b.0) (λ b w l. (refl, l)) (sample_both (sample_simple (suc depth)) (sample_free (suc depth) kind.close_round))

  no_more : Opening limit depth (levels zero)
  unfolding levels
  no_more = record {
    round = record { exact = exact_too_deep round_sets (RoundWords depth) round_first (λ t h. round_begins t (kind_is t kind.open_round h)) refl; sample = sample_of (RoundWords depth) kind.open_round round_begins };
    square = record { exact = exact_too_deep square_sets (SquareWords depth) square_first (λ t h. square_begins t (kind_is t kind.open_square h)) refl; sample = sample_of (SquareWords depth) kind.open_square square_begins };
    call = record { exact = exact_too_deep round_sets (CallWords depth) call_first (λ t h. call_begins t (kind_is t kind.open_round h)) refl; sample = sample_of (CallWords depth) kind.open_round call_begins };
    chunk = λ at. record { exact = exact_too_deep round_sets (ChunkWords depth at) (chunk_first at) (λ t h. chunk_begins at t (kind_is t kind.open_round h)) refl; sample = sample_of (ChunkWords depth at) kind.open_round (chunk_begins at) };
  }

-- ---- one level after another

pub opening_at : (limit n depth : ℕ) → n + depth ≡ limit → Opening limit depth (levels n)
unfolding levels
opening_at limit zero depth e = no_more limit depth (omega (arith, e))
opening_at limit (suc n) depth e =
    let deeper : suc depth ≤ limit = omega (arith, e) in
    let below : Opening limit (suc depth) (levels n) = opening_at limit n (suc depth) (omega (arith, e)) in
    record {
      round = rule_round limit depth deeper (levels n) below;
      square = rule_square limit depth deeper (levels n) below;
      call = rule_call limit depth deeper (levels n) below;
      chunk = rule_chunk limit depth deeper (levels n) below;
    }
