-- The turns of the loop that reads the expressions of an aggregate.
use Rattle.std.proofs.Common.{◌≡◌, ℕ, suc, ◌+◌, ◌-◌, ◌<◌, ◌≤◌, Bool, true, false, if◌then◌else◌, sym, ap, ◌∙◌, arith, rules, List, [], ◌∷◌, Err}
use Rattle.ada_base.specs.Symbols.{Symbol, next_kind, is_member}
use Rattle.syntax_readers.specs.Readers.{Answer, Found, Refused, TooDeep, read_on, symbol, ◌>>=◌, ◌>>◌, by_next}
use Rattle.syntax_readers.specs.declared.failure.Failure.{Failure}
use Rattle.syntax_readers.specs.declared.failure.Failure.TheVariants as failure
use Rattle.ada_base.specs.Kinds as kind
use Rattle.syntax_tree.specs.Syntax.{Expr, Many, Positions}
use Rattle.syntax_tree.specs.Joining.{exprs_and}
use Rattle.syntax_grammar.specs.Opened.{Opened}
use Rattle.syntax_grammar.specs.Expressions.{expr}
use Rattle.syntax_grammar.specs.Brackets.{positions_for, position_others}
use Rattle.syntax_nodes.specs.Parts.{TreePart, the_expr, the_exprs, the_many, open_exprs, IsPart, IsExpr}
use Rattle.syntax_nodes.specs.Rooted.{top, pop, second, third}
use Rattle.syntax_expressions.specs.Reading.{Reads}

-- these parts, read on at most so many times
abbrev pub read_from : Opened → ℕ → List TreePart → List Symbol → Answer Many × List Symbol
read_from inner n ps ts = positions_for inner n (the_expr (third ps)) (the_expr (second ps)) (open_exprs (top ps)) ts

module _ (inner : Opened) (end turn : ℕ) (ps : List TreePart) (ts : List Symbol) where
  abbrev after_comma : List Symbol → Answer Many × List Symbol
  after_comma = by_next (kind.others_word ∷ []) (position_others inner (the_expr (third ps)) (the_expr (second ps)) (open_exprs (top ps)))
      (expr inner >>= λ e. positions_for inner (end - (turn + 1)) (the_expr (third ps)) (the_expr (second ps)) (exprs_and (open_exprs (top ps)) e))

  abbrev one_turn : Bool → Answer Many × List Symbol
  one_turn b = if b then (symbol kind.comma >> after_comma) ts else (Found (Positions (the_expr (third ps)) (the_expr (second ps)) (open_exprs (top ps))), ts)

  this_turn : turn < end → read_from inner (end - turn) ps ts ≡ one_turn (is_member (kind.comma ∷ []) (next_kind ts))
  unfolding positions_for
  this_turn lt = ap (λ n. read_from inner n ps ts) (let e : end - turn ≡ suc (end - (turn + 1)) = omega (arith, lt) in e)

  -- no comma follows
  pub positions_stop : turn < end → is_member (kind.comma ∷ []) (next_kind ts) ≡ false → read_from inner (end - turn) ps ts ≡ (Found (Positions (the_expr (third ps)) (the_expr (second ps)) (open_exprs (top ps))), ts)
  positions_stop lt off = this_turn lt ∙ ap one_turn off

  -- no turn is left
  pub positions_none : end ≤ turn → read_from inner (end - turn) ps ts ≡ (Found (Positions (the_expr (third ps)) (the_expr (second ps)) (open_exprs (top ps))), ts)
  unfolding positions_for
  positions_none le = ap (λ n. read_from inner n ps ts) (let e : end - turn ≡ 0 = omega (arith, le) in e)

  module _ (lt : turn < end) (on : is_member (kind.comma ∷ []) (next_kind ts) ≡ true) (at : ℕ) (us : List Symbol) (taken : symbol kind.comma ts ≡ (Found at, us)) where
    after : read_from inner (end - turn) ps ts ≡ after_comma us
    after = this_turn lt ∙ ap one_turn on ∙ ap (λ x. read_on x.0 (λ _. after_comma) x.1) taken

    -- `others` follows
    pub positions_others : is_member (kind.others_word ∷ []) (next_kind us) ≡ true → (now : List TreePart) → pop now ≡ pop ps → the_exprs (top now) ≡ open_exprs (top ps)
        → read_from inner (end - turn) ps ts ≡ position_others inner (the_expr (third now)) (the_expr (second now)) (the_exprs (top now)) us
    positions_others found now back whole =
        after ∙ ap (λ b. if b then position_others inner (the_expr (third ps)) (the_expr (second ps)) (open_exprs (top ps)) us else (expr inner >>= λ e. positions_for inner (end - (turn + 1)) (the_expr (third ps)) (the_expr (second ps)) (exprs_and (open_exprs (top ps)) e)) us) found
        ∙ ap (λ q. position_others inner (the_expr (top (pop q))) (the_expr (top q)) (open_exprs (top ps)) us) (sym back)
        ∙ ap (λ m. position_others inner (the_expr (third now)) (the_expr (second now)) m us) (sym whole)

    module _ (other : is_member (kind.others_word ∷ []) (next_kind us) ≡ false) where
      abbrev behind : Answer Expr × List Symbol → Answer Many × List Symbol
      behind x = read_on x.0 (λ e. positions_for inner (end - (turn + 1)) (the_expr (third ps)) (the_expr (second ps)) (exprs_and (open_exprs (top ps)) e)) x.1

      next : (x : Answer Expr × List Symbol) → expr inner us ≡ x → read_from inner (end - turn) ps ts ≡ behind x
      next x e = after ∙ ap (λ b. if b then position_others inner (the_expr (third ps)) (the_expr (second ps)) (open_exprs (top ps)) us else behind (expr inner us)) other ∙ ap behind e

      -- another expression follows
      pub positions_next : (vs : List Symbol) (read now : List TreePart) (also : TreePart) → expr inner us ≡ (Found (the_expr (top read)), vs) → pop read ≡ ps → open_exprs also ≡ exprs_and (open_exprs (second read)) (the_expr (top read))
          → now ≡ also ∷ pop (pop read) → read_from inner (end - turn) ps ts ≡ read_from inner (end - (turn + 1)) now vs
      positions_next vs read now also found back e h =
          next (Found (the_expr (top read)), vs) found
          ∙ ap (λ q. positions_for inner (end - (turn + 1)) (the_expr (third q)) (the_expr (second q)) (exprs_and (open_exprs (top q)) (the_expr (top read))) vs) (sym back)
          ∙ ap (λ m. positions_for inner (end - (turn + 1)) (the_expr (third (pop read))) (the_expr (second (pop read))) m vs) (sym e)
          ∙ ap (λ z. read_from inner (end - (turn + 1)) z vs) (sym h)

      -- its fault is the loop's
      pub positions_fault : (b d : List TreePart) (vs : List Symbol) (qs qs' : List TreePart) (whole : Answer Many × List Symbol) → read_from inner (end - turn) ps ts ≡ whole
          → (f : Failure) → Reads {U = Unit {0}} the_expr IsExpr b (expr inner us) (Err f) vs qs → Reads {U = Unit {0}} the_many IsPart d whole (Err f) vs qs'
      positions_fault b d vs qs qs' whole w failure.Unexpected h = sym w ∙ next (Refused, vs) h
      positions_fault b d vs qs qs' whole w failure.TooDeep h = sym w ∙ next (TooDeep, vs) h
      positions_fault b d vs qs qs' whole w failure.OutOfMemory h = tt

-- a kind that is not this one
pub not_member : (k x : ℕ) → (x ≡ k → ⊥) → is_member (k ∷ []) x ≡ false
not_member k x ne = search (rules, ne)

pub one_member : (k x : ℕ) → x ≡ k → is_member (k ∷ []) x ≡ true
one_member k x e = search (rules, e)
