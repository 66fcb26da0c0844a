-- The reader of the positions of an aggregate is exact, where those of what opens a bracket are.
use Rattle.std.proofs.Common.{◌≡◌, ℕ, zero, suc, ◌≤◌, List, [], ◌∷◌, length, Bool, true, false, if◌then◌else◌, ◌⊎◌, inl, inr, refl, sym, ap, ◌∙◌, subst, append-nil}
use mathlib.Core.Path.{fun_ext}
use Rattle.ada_base.specs.Symbols.{Symbol, Word, next_kind, is_member}
use Rattle.ada_base.specs.Languages.{Language, Leaf, Quoted, Then, Or, Image, Empty, Repeated, ◌⋅◌}
use Rattle.syntax_readers.specs.Readers.{Reader, Answer, Found, Refused, TooDeep, read_on, ◌>>=◌, ◌>>◌, ◌<$>◌, pure, symbol, by_next, step, repeat_for, repeat}
use Rattle.syntax_readers.specs.Sets.{one_kind}
use Rattle.syntax_readers.specs.Exact.{Rule}
use Rattle.syntax_readers.proofs.Rules.{read, seq, or, to, is, loop}
use Rattle.syntax_readers.proofs.Forms.{from, to_left, to_right, none_before, without_before, none_after, without_after, at_second, keep}
use Rattle.ada_base.specs.Kinds as kind
use Rattle.syntax_tree.specs.Syntax.{Expr, Exprs, NoExpr, AlsoExpr, Many, Positions, PositionsOthers, FirstOthers}
use Rattle.syntax_tree.specs.Joining.{exprs_and}
use Rattle.syntax_tree.specs.Productions as spell
use Rattle.syntax_grammar.specs.Opened.{Opened}
use Rattle.syntax_grammar.specs.Expressions as base
use Rattle.syntax_grammar.specs.Brackets as reader
use Rattle.syntax_laws.proofs.Words.{Words, After}
use Rattle.syntax_laws.proofs.Lists.{append_exprs, exprs_grow}
use Rattle.syntax_laws.proofs.Openings.{Opening, expr_sets}
use Rattle.syntax_laws.proofs.Relations.{rule_expr}
use Rattle.syntax_laws.proofs.Associations.{arrow_sets, more_sets, ArrowValue, rule_arrow_value}

-- what follows the second expression: more of them, and the value of the others
pub data Tail : Type 0 where
  NoTail : Tail
  LastOthers : (at : ℕ) → Expr → Tail
  AlsoTail : Expr → Tail → Tail

-- positions with their tail
abbrev pub positioned : Expr → Expr → Exprs → Tail → Many
positioned first second more NoTail = Positions first second more
positioned first second more (LastOthers at v) = PositionsOthers first second more at v
positioned first second more (AlsoTail e t) = positioned first second (exprs_and more e) t

-- ---- the reader as a repetition which an item may end

module _ (inner : Opened) where
  abbrev turn : Reader (Expr ⊎ Tail)
  turn = symbol kind.comma >>
      by_next (kind.others_word ∷ []) (symbol kind.others_word >>= λ at. reader.arrow_value inner >>= λ v. pure (inr (LastOthers at v))) (base.expr inner >>= λ e. pure (inl e))

  abbrev again : ℕ → Reader Tail
  again n = repeat_for NoTail AlsoTail n (kind.comma ∷ []) turn

  module _ (first second : Expr) where
    abbrev acted : Exprs → Answer Tail × List Symbol → Answer Many × List Symbol
    acted more x = read_on x.0 (λ t. pure (positioned first second more t)) x.1

    abbrev stepped : ℕ → Answer (Expr ⊎ Tail) × List Symbol → Answer Tail × List Symbol
    stepped n x = read_on x.0 (step AlsoTail (again n)) x.1

    abbrev Same : ℕ → Type 0
    Same n = (more : Exprs) (ts : List Symbol) → reader.positions_for inner n first second more ts ≡ acted more (again n ts)

    shifted : (e : Expr) (more : Exprs) (a : Answer Tail × List Symbol) → acted (exprs_and more e) a ≡ acted more (read_on a.0 (λ t. pure (AlsoTail e t)) a.1)
    shifted e more (Found t, ws) = refl
    shifted e more (Refused, ws) = refl
    shifted e more (TooDeep, ws) = refl

    after_expr : (n : ℕ) → Same n → (more : Exprs) (z : Answer Expr × List Symbol)
        → read_on z.0 (λ e. reader.positions_for inner n first second (exprs_and more e)) z.1 ≡ acted more (stepped n (read_on z.0 (λ e. pure (inl e)) z.1))
    after_expr n rest more (Found e, ws) = rest (exprs_and more e) ws ∙ shifted e more (again n ws)
    after_expr n rest more (Refused, ws) = refl
    after_expr n rest more (TooDeep, ws) = refl

    after_arrow : (n : ℕ) (more : Exprs) (at : ℕ) (z : Answer Expr × List Symbol)
        → read_on z.0 (λ v. pure (PositionsOthers first second more at v)) z.1 ≡ acted more (stepped n (read_on z.0 (λ v. pure (inr (LastOthers at v))) z.1))
    after_arrow n more at (Found v, ws) = refl
    after_arrow n more at (Refused, ws) = refl
    after_arrow n more at (TooDeep, ws) = refl

    after_others : (n : ℕ) (more : Exprs) (y : Answer ℕ × List Symbol)
        → read_on y.0 (λ at. reader.arrow_value inner >>= λ v. pure (PositionsOthers first second more at v)) y.1
        ≡ acted more (stepped n (read_on y.0 (λ at. reader.arrow_value inner >>= λ v. pure (inr (LastOthers at v))) y.1))
    after_others n more (Found at, vs) = after_arrow n more at (reader.arrow_value inner vs)
    after_others n more (Refused, vs) = refl
    after_others n more (TooDeep, vs) = refl

    after_comma : (n : ℕ) → Same n → (more : Exprs) (x : Answer ℕ × List Symbol)
        → read_on x.0 (λ _. by_next (kind.others_word ∷ []) (reader.position_others inner first second more) (base.expr inner >>= λ e. reader.positions_for inner n first second (exprs_and more e))) x.1
        ≡ acted more (stepped n (read_on x.0 (λ _. by_next (kind.others_word ∷ []) (symbol kind.others_word >>= λ at. reader.arrow_value inner >>= λ v. pure (inr (LastOthers at v))) (base.expr inner >>= λ e. pure (inl e))) x.1))
    unfolding reader.position_others
    after_comma n rest more (Found k, us) = by (is_member (kind.others_word ∷ []) (next_kind us)) where
      by : (b : Bool) → (if b then (symbol kind.others_word >>= λ at. reader.arrow_value inner >>= λ v. pure (PositionsOthers first second more at v)) us else (base.expr inner >>= λ e. reader.positions_for inner n first second (exprs_and more e)) us)
          ≡ acted more (stepped n (if b then (symbol kind.others_word >>= λ at. reader.arrow_value inner >>= λ v. pure (inr (LastOthers at v))) us else (base.expr inner >>= λ e. pure (inl e)) us))
      by true = after_others n more (symbol kind.others_word us)
      by false = after_expr n rest more (base.expr inner us)
    after_comma n rest more (Refused, us) = refl
    after_comma n rest more (TooDeep, us) = refl

    positions_same : (n : ℕ) → Same n
    unfolding reader.positions_for
    positions_same zero more ts = refl
    positions_same (suc n) more ts = by (positions_same n) (is_member (kind.comma ∷ []) (next_kind ts)) where
      by : Same n → (b : Bool)
          → (if b then (symbol kind.comma >> by_next (kind.others_word ∷ []) (reader.position_others inner first second more) (base.expr inner >>= λ e. reader.positions_for inner n first second (exprs_and more e))) ts else (Found (Positions first second more), ts))
          ≡ acted more (if b then (turn >>= step AlsoTail (again n)) ts else (Found NoTail, ts))
      by rest true = after_comma n rest more (symbol kind.comma ts)
      by rest false = refl

    positions_repeat : (positioned first second NoExpr <$> repeat NoTail AlsoTail (kind.comma ∷ []) turn) ≡ reader.positions inner first second
    unfolding reader.positions
    positions_repeat = fun_ext (λ ts. sym (positions_same (length ts) NoExpr ts))

-- ---- the rule

module _ (limit depth : ℕ) (within : depth ≤ limit) (inner : Opened) (below : Opening limit depth inner) where
  one : (k : ℕ) → Rule limit (one_kind k) (Leaf depth k) (symbol k)
  one k = read limit depth within k

  expr : Rule limit expr_sets (Words spell.expr depth) (base.expr inner)
  expr = rule_expr limit depth within inner below

  abbrev Arrow : Expr → Language
  Arrow = ArrowValue limit depth within inner below

  arrow : Rule limit arrow_sets Arrow (reader.arrow_value inner)
  arrow = rule_arrow_value limit depth within inner below

  -- `others`, an arrow and a value
  abbrev pub OthersValue : ℕ → Expr → Language
  OthersValue at v = Leaf depth kind.others_word at ⋅ Arrow v

  abbrev TailWords : Tail → Language
  TailWords NoTail = Empty
  TailWords (LastOthers at v) = Quoted depth kind.comma ⋅ OthersValue at v
  TailWords (AlsoTail e t) = After kind.comma spell.expr depth e ⋅ TailWords t

  abbrev TurnWords : Expr ⊎ Tail → Language
  TurnWords (inl e) = After kind.comma spell.expr depth e
  TurnWords (inr NoTail) = λ w. ⊥
  TurnWords (inr (LastOthers at v)) = Quoted depth kind.comma ⋅ OthersValue at v
  TurnWords (inr (AlsoTail e t)) = λ w. ⊥

  abbrev TurnCases : Expr ⊎ Tail → Language
  TurnCases = Then (Leaf depth kind.comma) (λ _. Or (Image (λ (b : ℕ × Expr). inr (LastOthers b.0 b.1)) (λ b. OthersValue b.0 b.1)) (Image inl (Words spell.expr depth)))

  join_turn : (x : Expr ⊎ Tail) (w : Word) → TurnCases x w → TurnWords x w
  join_turn x w (n, u, v, e, i, inl (b, eq, m)) = from TurnWords eq (u, v, e, (n, i), m)
  join_turn x w (n, u, v, e, i, inr (y, eq, m)) = from TurnWords eq (u, v, e, (n, i), m)

  split_turn : (x : Expr ⊎ Tail) (w : Word) → TurnWords x w → TurnCases x w
  split_turn (inl y) w (u, v, e, (n, i), m) = (n, u, v, e, i, inr (y, refl, m))
  split_turn (inr NoTail) w l = absurd l
  split_turn (inr (LastOthers at o)) w (u, v, e, (n, i), m) = (n, u, v, e, i, inl ((at, o), refl, m))
  split_turn (inr (AlsoTail y t)) w l = absurd l

  rule_turn : Rule limit (record { first = kind.comma ∷ []; nullable = false; follow_last = expr_sets.follow_last }) TurnWords (turn inner)
  rule_turn =
      is _ TurnWords
      (seq (one kind.comma) (λ _. or (kind.others_word ∷ []) (keep (one kind.others_word) (λ at. to (λ v. inr (LastOthers at v)) arrow) refl) (to inl expr).exact refl refl refl) refl)
      join_turn split_turn refl

  last_words : (t : Tail) (w : Word) → TurnWords (inr t) w → TailWords t w
  last_words NoTail w l = absurd l
  last_words (LastOthers at v) w l = l
  last_words (AlsoTail e t) w l = absurd l

  join_tail : (x : Tail) (w : Word) → Repeated NoTail AlsoTail TurnWords TailWords x w → TailWords x w
  join_tail x w (inl (inl y, u, v, e, l, (t, eq, m))) = from TailWords eq (u, v, e, l, m)
  join_tail x w (inl (inr t, u, v, e, l, (eq, none))) = from TailWords eq (last_words t w (without_after {L = TurnWords (inr t)} (u, v, e, l, none)))
  join_tail x w (inr (eq, none)) = from TailWords eq none

  split_tail : (x : Tail) (w : Word) → TailWords x w → Repeated NoTail AlsoTail TurnWords TailWords x w
  split_tail NoTail w e = inr (refl, e)
  split_tail (LastOthers at v) w l = inl (inr (LastOthers at v), w, [], sym (append-nil w), l, (refl, refl))
  split_tail (AlsoTail y t) w (u, v, e, l, m) = inl (inl y, u, v, e, l, (t, refl, m))

  rule_tail : Rule limit more_sets TailWords (repeat NoTail AlsoTail (kind.comma ∷ []) (turn inner))
  rule_tail = is more_sets TailWords (loop NoTail AlsoTail TailWords join_tail split_tail (kind.comma ∷ []) rule_turn refl refl refl refl) (λ x w l. l) (λ x w l. l) refl

  -- ---- as the grammar has it

  -- after the second expression
  abbrev pub PositionsFrom : Expr → Expr → Many → Language
  PositionsFrom first second =
      Or (Image (Positions first second) (Words spell.exprs depth))
      (Image (λ (b : Exprs × (ℕ × Expr)). PositionsOthers first second b.0 b.1.0 b.1.1) (λ b. Words spell.exprs depth b.0 ⋅ (Quoted depth kind.comma ⋅ OthersValue b.1.0 b.1.1)))

  exprs_end : (more : Exprs) (x : Expr) (w : Word) → (Words spell.exprs depth more ⋅ After kind.comma spell.expr depth x) w → Words spell.exprs depth (exprs_and more x) w
  unfolding spell.expr
  exprs_end NoExpr x w l = at_second {L = Quoted depth kind.comma} (λ v m. none_after m) (without_before l)
  exprs_end (AlsoExpr y ys) x w l =
      at_second {L = Quoted depth kind.comma} (λ v m. at_second {L = Words spell.expr depth y} (λ v' m'. exprs_end ys x v' m') (to_right m)) (to_right l)

  gathered : (first second : Expr) (t : Tail) (more : Exprs) (w : Word) → (Words spell.exprs depth more ⋅ TailWords t) w → PositionsFrom first second (positioned first second more t) w
  gathered first second NoTail more w l = inl (more, refl, without_after {L = Words spell.exprs depth more} l)
  gathered first second (LastOthers at v) more w l = inr ((more, (at, v)), refl, l)
  gathered first second (AlsoTail x t) more w (u, v, e, l, (u1, v1, e1, k, m)) =
      gathered first second t (exprs_and more x) w
      (let (y, z, e2, lk, m') = to_more in (y, z, e2, exprs_end more x y lk, m')) where
        to_more : ((Words spell.exprs depth more ⋅ After kind.comma spell.expr depth x) ⋅ TailWords t) w
        to_more = to_left (u, v, e, l, (u1, v1, e1, k, m))

  abbrev tail_of : Exprs → Tail → Tail
  tail_of NoExpr t = t
  tail_of (AlsoExpr e es) t = AlsoTail e (tail_of es t)

  tail_words : (more : Exprs) (t : Tail) (w : Word) → (Words spell.exprs depth more ⋅ TailWords t) w → TailWords (tail_of more t) w
  unfolding spell.expr
  tail_words NoExpr t w l = without_before {L = TailWords t} l
  tail_words (AlsoExpr y ys) t w l = go (λ v m. tail_words ys t v m) (to_right l) where
    go : ((v : Word) → (Words spell.exprs depth ys ⋅ TailWords t) v → TailWords (tail_of ys t) v)
        → (Quoted depth kind.comma ⋅ ((Words spell.expr depth y ⋅ Words spell.exprs depth ys) ⋅ TailWords t)) w → TailWords (AlsoTail y (tail_of ys t)) w
    go rest (u, v, e, q, k) =
        let (u1, v1, e1, l1, m1) = to_right {L = Words spell.expr depth y} {M = Words spell.exprs depth ys} {N = TailWords t} k in
        to_left {L = Quoted depth kind.comma} {M = Words spell.expr depth y} {N = TailWords (tail_of ys t)} (u, v, e, q, (u1, v1, e1, l1, rest v1 m1))

  tail_is : (first second : Expr) (more m : Exprs) (t : Tail) → positioned first second m (tail_of more t) ≡ positioned first second (append_exprs m more) t
  tail_is first second NoExpr m t = ap (λ z. positioned first second z t) (sym (exprs_grow.at_end m))
  tail_is first second (AlsoExpr y ys) m t = tail_is first second ys (exprs_and m y) t ∙ ap (λ z. positioned first second z t) (sym (exprs_grow.at_more m y ys))

  join_positions : (first second : Expr) (x : Many) (w : Word) → Image (positioned first second NoExpr) TailWords x w → PositionsFrom first second x w
  unfolding spell.expr
  join_positions first second x w (t, eq, l) = from (PositionsFrom first second) eq (gathered first second t NoExpr w (none_before {L = TailWords t} l))

  split_positions : (first second : Expr) (x : Many) (w : Word) → PositionsFrom first second x w → Image (positioned first second NoExpr) TailWords x w
  split_positions first second x w (inl (more, eq, l)) = (tail_of more NoTail, eq ∙ sym (tail_is first second more NoExpr NoTail), tail_words more NoTail w (none_after {L = Words spell.exprs depth more} l))
  split_positions first second x w (inr (b, eq, l)) =
      (tail_of b.0 (LastOthers b.1.0 b.1.1), eq ∙ sym (tail_is first second b.0 NoExpr (LastOthers b.1.0 b.1.1)), tail_words b.0 (LastOthers b.1.0 b.1.1) w l)

  rule_positions : (first second : Expr) → Rule limit more_sets (PositionsFrom first second) (reader.positions inner first second)
  rule_positions first second =
      is more_sets (PositionsFrom first second)
      (subst (λ q. Rule limit more_sets (Image (positioned first second NoExpr) TailWords) q) (positions_repeat inner first second) (to (positioned first second NoExpr) rule_tail))
      (join_positions first second) (split_positions first second) refl

  -- after the first expression
  abbrev pub ManyFrom : Expr → Many → Language
  ManyFrom first =
      Then (Leaf depth kind.comma) (λ _.
      Or (Image (λ (b : ℕ × Expr). FirstOthers first b.0 b.1) (λ b. OthersValue b.0 b.1)) (Then (Words spell.expr depth) (PositionsFrom first)))

  rule_first_others : (first : Expr) → Rule limit (record { first = kind.others_word ∷ []; nullable = false; follow_last = expr_sets.follow_last }) (Image (λ (b : ℕ × Expr). FirstOthers first b.0 b.1) (λ b. OthersValue b.0 b.1)) (reader.first_others inner first)
  unfolding reader.first_others
  rule_first_others first = keep (one kind.others_word) (λ at. to (FirstOthers first at) arrow) refl

  pub rule_positions_from : (first : Expr) → Rule limit (record { first = kind.comma ∷ []; nullable = false; follow_last = more_sets.follow_last }) (ManyFrom first) (reader.positions_from inner first)
  unfolding reader.positions_from
  rule_positions_from first =
      is _ (ManyFrom first)
      (seq (one kind.comma) (λ _. or (kind.others_word ∷ []) (rule_first_others first) (seq expr (rule_positions first) refl).exact refl refl refl) refl)
      (λ x w l. l) (λ x w l. l) refl
