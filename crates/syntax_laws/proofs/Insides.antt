-- The reader of what stands in brackets and begins with neither `if` nor `for` is exact, where those of what opens a
-- bracket are.
use Rattle.std.proofs.Common.{◌≡◌, ℕ, ◌≤◌, [], ◌∷◌, ◌++◌, true, false, inl, inr, refl, sym, ap, ◌∙◌, append-nil}
use Rattle.ada_base.specs.Symbols.{Word}
use Rattle.ada_base.specs.Languages.{Language, Leaf, Quoted, Then, Or, Pure, Image, ◌⋅◌}
use Rattle.syntax_readers.specs.Sets.{Sets}
use Rattle.syntax_readers.specs.Exact.{Rule}
use Rattle.syntax_readers.proofs.Rules.{give, seq, or, to, is}
use Rattle.syntax_readers.proofs.Forms.{from, to_left, to_right, without_after, keep}
use Rattle.ada_base.specs.Kinds as kind
use Rattle.syntax_tree.specs.Syntax.{Expr, Simple, Rel, Choice, Others, Many, Positions, PositionsOthers, FirstOthers, Associations, Assoc, Chosen, Each}
use Rattle.syntax_tree.specs.Productions as spell
use Rattle.syntax_grammar.specs.Opened.{Opened}
use Rattle.syntax_grammar.specs.Read.{Inside, OneInside, ManyInside}
use Rattle.syntax_grammar.specs.Expressions as base
use Rattle.syntax_grammar.specs.Brackets as reader
use Rattle.syntax_laws.proofs.Words.{Words}
use Rattle.syntax_laws.proofs.Openings.{Opening, simple_sets, rel_from_sets, expr_sets, expr_from_sets}
use Rattle.syntax_laws.proofs.Sums.{rule_simple}
use Rattle.syntax_laws.proofs.Relations as relation
use Rattle.syntax_laws.proofs.Associations as association
use Rattle.syntax_laws.proofs.Positions as position

abbrev pub inside_sets : Sets
inside_sets = record {
  first = kind.others_word ∷ simple_sets.first;
  nullable = false;
  follow_last = kind.dots ∷ kind.bar ∷ kind.arrow ∷ kind.comma ∷ expr_sets.follow_last;
}

module _ (limit depth : ℕ) (within : depth ≤ limit) (inner : Opened) (below : Opening limit depth inner) where
  simple : Rule limit simple_sets (Words spell.simple depth) (base.simple inner)
  simple = rule_simple limit depth within inner below

  abbrev ChoiceFrom : Simple → Choice → Language
  ChoiceFrom = association.ChoiceFrom limit depth within inner below

  abbrev ChosenFrom : Choice → Assoc → Language
  ChosenFrom = association.ChosenFrom limit depth within inner below

  abbrev RelFrom : Simple → Rel → Language
  RelFrom = relation.RelFrom limit depth within inner below

  abbrev ExprFrom : Rel → Expr → Language
  ExprFrom = relation.ExprFrom limit depth within inner below

  abbrev ManyFrom : Expr → Many → Language
  ManyFrom = position.ManyFrom limit depth within inner below

  -- the words of what stands inside
  abbrev pub InsideWords : Inside → Language
  InsideWords (OneInside e) = Words spell.expr depth e
  InsideWords (ManyInside (Positions first second more)) = Words spell.many depth (Positions first second more)
  InsideWords (ManyInside (PositionsOthers first second more at v)) = Words spell.many depth (PositionsOthers first second more at v)
  InsideWords (ManyInside (FirstOthers first at v)) = Words spell.many depth (FirstOthers first at v)
  InsideWords (ManyInside (Associations (Chosen first more v) others)) = Words spell.many depth (Associations (Chosen first more v) others)
  InsideWords (ManyInside (Associations (Each at index r v) others)) = λ w. ⊥

  -- ---- what each reader reads

  -- after the first choice
  abbrev InsideChoice : Choice → Inside → Language
  InsideChoice c = Image (λ (b : Assoc × Many). ManyInside b.1) (λ b. ChosenFrom c b.0 ⋅ Image (Associations b.0) (Words spell.assocs depth) b.1)

  rule_inside_choice : (c : Choice) → Rule limit (record { first = association.chosen_sets.first; nullable = false; follow_last = kind.comma ∷ expr_sets.follow_last }) (InsideChoice c) (reader.inside_choice inner c)
  unfolding reader.inside_choice
  rule_inside_choice c =
      is _ (InsideChoice c)
      (keep (association.rule_chosen limit depth within inner below c) (λ a. to ManyInside (association.rule_assocs_from limit depth within inner below a)) refl)
      (λ x w l. l) (λ x w l. l) refl

  -- after the first expression
  abbrev InsideExpr : Expr → Inside → Language
  InsideExpr e = Or (Image ManyInside (ManyFrom e)) (Pure (OneInside e))

  rule_inside_expr : (e : Expr) → Rule limit (record { first = kind.comma ∷ []; nullable = true; follow_last = kind.comma ∷ expr_sets.follow_last }) (InsideExpr e) (reader.inside_expr inner e)
  unfolding reader.inside_expr
  rule_inside_expr e =
      is _ (InsideExpr e) (or (kind.comma ∷ []) (to ManyInside (position.rule_positions_from limit depth within inner below e)) (give (OneInside e)).exact refl refl refl)
      (λ x w l. l) (λ x w l. l) refl

  -- after the first sum
  abbrev InsideSimple : Simple → Inside → Language
  InsideSimple s = Or (Then (ChoiceFrom s) InsideChoice) (Then (RelFrom s) (λ r. Then (ExprFrom r) InsideExpr))

  rule_inside_simple : (s : Simple)
      → Rule limit (record { first = kind.dots ∷ kind.bar ∷ kind.arrow ∷ kind.comma ∷ rel_from_sets.first ++ expr_from_sets.first; nullable = true; follow_last = inside_sets.follow_last }) (InsideSimple s) (reader.inside_simple inner s)
  unfolding reader.inside_simple
  rule_inside_simple s =
      is _ (InsideSimple s)
      (or (kind.dots ∷ kind.bar ∷ kind.arrow ∷ []) (seq (association.rule_choice_from limit depth within inner below s) rule_inside_choice refl)
      (seq (relation.rule_rel_from limit depth within inner below s) (λ r. seq (relation.rule_expr_from limit depth within inner below r) rule_inside_expr refl) refl).exact refl refl refl)
      (λ x w l. l) (λ x w l. l) refl

  abbrev InsideCases : Inside → Language
  InsideCases = Or (Then (Image Others (Leaf depth kind.others_word)) InsideChoice) (Then (Words spell.simple depth) InsideSimple)

  -- ---- from what was read to what stands there

  from_choice : (c : Choice) (x : Inside) (w : Word) → (Words spell.choice depth c ⋅ InsideChoice c x) w → InsideWords x w
  unfolding spell.expr
  from_choice c x w (u, v, e, lc, (b, eq, (u1, v1, e1, (cs, is, l), (more, is', ls)))) =
      from InsideWords (eq ∙ ap ManyInside (is' ∙ ap (λ a. Associations a more) is))
      (to_left {L = Words spell.choice depth c} {M = Words spell.choices depth cs.0 ⋅ (Quoted depth kind.arrow ⋅ Words spell.expr depth cs.1)} {N = Words spell.assocs depth more}
      (u, v, e, lc, (u1, v1, e1, l, ls)))

  from_expr : (y : Expr) (x : Inside) (w : Word) → (Words spell.expr depth y ⋅ InsideExpr y x) w → InsideWords x w
  unfolding spell.expr
  from_expr y x w (u, v, e, l, inl (m, eq, (n, u1, v1, e1, i, inl (b, is, k)))) = from InsideWords (eq ∙ ap ManyInside is) (u, v, e, l, (u1, v1, e1, (n, i), k))
  from_expr y x w (u, v, e, l, inl (m, eq, (n, u1, v1, e1, i, inr (second, u2, v2, e2, l2, inl (more, is, k))))) =
      from InsideWords (eq ∙ ap ManyInside is) (u, v, e, l, (u1, v1, e1, (n, i), (u2, v2, e2, l2, k)))
  from_expr y x w (u, v, e, l, inl (m, eq, (n, u1, v1, e1, i, inr (second, u2, v2, e2, l2, inr (b, is, k))))) =
      from InsideWords (eq ∙ ap ManyInside is) (u, v, e, l, (u1, v1, e1, (n, i), (u2, v2, e2, l2, k)))
  from_expr y x w (u, v, e, l, inr (eq, none)) = from InsideWords eq (without_after {L = Words spell.expr depth y} (u, v, e, l, none))

  -- a sum and what makes it an expression are that expression
  as_expr : {M : Language} (s : Simple) (r : Rel) (y : Expr) (w : Word) → (Words spell.simple depth s ⋅ (RelFrom s r ⋅ (ExprFrom r y ⋅ M))) w → (Words spell.expr depth y ⋅ M) w
  as_expr {M} s r y w l = second (to_left {L = Words spell.rel depth r} {M = ExprFrom r y} {N = M} (first (to_left {L = Words spell.simple depth s} {M = RelFrom s r} {N = ExprFrom r y ⋅ M} l))) where
    first : ((Words spell.simple depth s ⋅ RelFrom s r) ⋅ (ExprFrom r y ⋅ M)) w → (Words spell.rel depth r ⋅ (ExprFrom r y ⋅ M)) w
    first (u, v, e, (u1, v1, e1, ls, lr), m) = (u, v, e, relation.join_rel limit depth within inner below r u (s, u1, v1, e1, ls, lr), m)

    second : ((Words spell.rel depth r ⋅ ExprFrom r y) ⋅ M) w → (Words spell.expr depth y ⋅ M) w
    second (u, v, e, (u1, v1, e1, lr, le), m) = (u, v, e, relation.join_expr limit depth within inner below y u (r, u1, v1, e1, lr, le), m)

  join_inside : (x : Inside) (w : Word) → InsideCases x w → InsideWords x w
  unfolding spell.expr
  join_inside x w (inl (c, u, v, e, (at, is, i), k)) = from_choice c x w (u, v, e, others at u is i, k) where
    others : (at : ℕ) (u : Word) → c ≡ Others at → Leaf depth kind.others_word at u → Words spell.choice depth c u
    others at u is i = from (Words spell.choice depth) is i
  join_inside x w (inr (s, u, v, e, l, inl (c, u1, v1, e1, lc, k))) =
      from_choice c x w (as_choice (to_left {L = Words spell.simple depth s} {M = ChoiceFrom s c} {N = InsideChoice c x} (u, v, e, l, (u1, v1, e1, lc, k)))) where
        as_choice : ((Words spell.simple depth s ⋅ ChoiceFrom s c) ⋅ InsideChoice c x) w → (Words spell.choice depth c ⋅ InsideChoice c x) w
        as_choice (u, v, e, (u1, v1, e1, l, lc), k) = (u, v, e, association.join_choice_from limit depth within inner below c u (s, u1, v1, e1, l, lc), k)
  join_inside x w (inr (s, u, v, e, l, inr (r, u1, v1, e1, lr, (y, u2, v2, e2, le, k)))) = from_expr y x w (as_expr s r y w (u, v, e, l, (u1, v1, e1, lr, (u2, v2, e2, le, k))))

  -- ---- and back

  -- an expression, and what follows it
  split_expr : (y : Expr) (x : Inside) (w : Word) → (Words spell.expr depth y ⋅ InsideExpr y x) w → InsideCases x w
  split_expr y x w (u, v, e, l, k) =
      let (r, u1, v1, e1, lr, le) = relation.split_expr limit depth within inner below y u l in
      let (s, u2, v2, e2, ls, lm) = relation.split_rel limit depth within inner below r u1 lr in
      regrouped r s (to_right {L = Words spell.simple depth s} {M = RelFrom s r} {N = ExprFrom r y ⋅ InsideExpr y x}
      (to_right {L = Words spell.simple depth s ⋅ RelFrom s r} {M = ExprFrom r y} {N = InsideExpr y x} (u, v, e, (u1, v1, e1, (u2, v2, e2, ls, lm), le), k))) where
        regrouped : (r : Rel) (s : Simple) → (Words spell.simple depth s ⋅ (RelFrom s r ⋅ (ExprFrom r y ⋅ InsideExpr y x))) w → InsideCases x w
        regrouped r s (u, v, e, ls, (u1, v1, e1, lm, (u2, v2, e2, le, k))) = inr (s, u, v, e, ls, inr (r, u1, v1, e1, lm, (y, u2, v2, e2, le, k)))

  split_choice : (c : Choice) (x : Inside) (w : Word) → (Words spell.choice depth c ⋅ InsideChoice c x) w → InsideCases x w
  split_choice c x w (u, v, e, l, k) = by (association.split_choice limit depth within inner below c u l) where
    by : Or (Image Others (Leaf depth kind.others_word)) (Then (Words spell.simple depth) ChoiceFrom) c u → InsideCases x w
    by (inl i) = inl (c, u, v, e, i, k)
    by (inr (s, u1, v1, e1, ls, lc)) = regrouped (to_right {L = Words spell.simple depth s} {M = ChoiceFrom s c} {N = InsideChoice c x} (u, v, e, (u1, v1, e1, ls, lc), k)) where
      regrouped : (Words spell.simple depth s ⋅ (ChoiceFrom s c ⋅ InsideChoice c x)) w → InsideCases x w
      regrouped (u, v, e, ls, (u1, v1, e1, lc, k)) = inr (s, u, v, e, ls, inl (c, u1, v1, e1, lc, k))

  split_inside : (x : Inside) (w : Word) → InsideWords x w → InsideCases x w
  unfolding spell.expr
  split_inside (OneInside y) w l = split_expr y (OneInside y) w (w, [], sym (append-nil w), l, inr (refl, refl))
  split_inside (ManyInside (Positions first second more)) w (u, v, e, l, (u1, v1, e1, (n, i), (u2, v2, e2, l2, k))) =
      split_expr first (ManyInside (Positions first second more)) w (u, v, e, l, inl (Positions first second more, refl, (n, u1, v1, e1, i, inr (second, u2, v2, e2, l2, inl (more, refl, k)))))
  split_inside (ManyInside (PositionsOthers first second more at o)) w (u, v, e, l, (u1, v1, e1, (n, i), (u2, v2, e2, l2, k))) =
      split_expr first (ManyInside (PositionsOthers first second more at o)) w (u, v, e, l, inl (PositionsOthers first second more at o, refl, (n, u1, v1, e1, i, inr (second, u2, v2, e2, l2, inr ((more, (at, o)), refl, k)))))
  split_inside (ManyInside (FirstOthers first at o)) w (u, v, e, l, (u1, v1, e1, (n, i), k)) =
      split_expr first (ManyInside (FirstOthers first at o)) w (u, v, e, l, inl (FirstOthers first at o, refl, (n, u1, v1, e1, i, inl ((at, o), refl, k))))
  split_inside (ManyInside (Associations (Chosen c cs o) more)) w l =
      let (u, v, e, lc, (u1, v1, e1, k, ls)) = to_right {L = Words spell.choice depth c} {M = Words spell.choices depth cs ⋅ (Quoted depth kind.arrow ⋅ Words spell.expr depth o)} {N = Words spell.assocs depth more} l in
      split_choice c (ManyInside (Associations (Chosen c cs o) more)) w (u, v, e, lc, ((Chosen c cs o, Associations (Chosen c cs o) more), refl, (u1, v1, e1, ((cs, o), refl, k), (more, refl, ls))))
  split_inside (ManyInside (Associations (Each at index r o) more)) w l = absurd l

  pub rule_inside : Rule limit inside_sets InsideWords (reader.inside inner)
  unfolding reader.inside
  rule_inside =
      is inside_sets InsideWords
      (or (kind.others_word ∷ []) (seq (association.rule_others_choice limit depth within inner below) rule_inside_choice refl) (seq simple rule_inside_simple refl).exact refl refl refl)
      join_inside split_inside refl
