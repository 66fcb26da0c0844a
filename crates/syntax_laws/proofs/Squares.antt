-- The reader of square brackets, of an aggregate or of a reduction, is exact, where those of what opens a bracket in
-- them are.
use Rattle.std.proofs.Common.{◌≡◌, ℕ, suc, ◌≤◌, [], ◌∷◌, Bool, true, false, if◌then◌else◌, ◌⊎◌, Some, None, inl, inr, refl, sym, ap, ◌∙◌, subst, append-nil, arith}
use Rattle.ada_base.specs.Symbols.{Word}
use Rattle.ada_base.specs.Languages.{Language, Leaf, Quoted, Then, Or, Pure, Image, Empty, ◌⋅◌}
use Rattle.syntax_readers.specs.Readers.{Reader, read_on, ◌>>=◌, ◌>>◌, ◌<$>◌, pure, symbol, by_next}
use Rattle.syntax_readers.specs.Sets.{Sets, one_kind}
use Rattle.syntax_readers.specs.Exact.{Rule}
use Rattle.syntax_readers.proofs.Rules.{read, give, seq, or, to, is}
use Rattle.syntax_readers.proofs.Chains.{first_and_more, some_items, first_read}
use Rattle.syntax_readers.proofs.Forms.{from, to_left, to_right, without_before, without_after, none_before, none_after, at_first, at_second, keep, skip, last}
use Rattle.ada_base.specs.Kinds as kind
use Rattle.syntax_tree.specs.Syntax.{Expr, Primary, Number, Text, Target, Named, Group, If, Round, Square, OneValue, Reduction, Many, Positions, PositionsOthers, FirstOthers, Associations, Assoc, Chosen, Each, Assocs, NoAssoc, AlsoAssoc, AbsentExpr, PresentExpr, OptionalParallel, AbsentParallel, PresentParallel, Range, Iter, InRange, OfName}
use Rattle.syntax_tree.specs.Patterns.{words_of, free, ◌then◌}
use Rattle.syntax_tree.specs.Productions as spell
use Rattle.syntax_grammar.specs.Opened.{Opened}
use Rattle.syntax_grammar.specs.Read.{Inside, OneInside, ManyInside, in_square, is_each, each_of}
use Rattle.syntax_grammar.specs.Expressions as base
use Rattle.syntax_grammar.specs.Brackets as reader
use Rattle.syntax_laws.proofs.Words.{Words, After}
use Rattle.syntax_laws.proofs.Lists.{assocs_grow, assocs_listed}
use Rattle.syntax_laws.proofs.Openings.{Opening, SquareWords, square_sets, expr_sets}
use Rattle.syntax_laws.proofs.Relations.{rule_expr}
use Rattle.syntax_laws.proofs.Associations as association
use Rattle.syntax_laws.proofs.Insides as inside
use Rattle.syntax_laws.proofs.Iterations as iteration

no_true : {X : Type 0} → false ≡ true → X
no_true e = absurd (no e) where
  no : false ≡ true → ⊥
  no q = cc

-- ---- four parts before a fifth, grouped otherwise

group : {A B C E Z : Language} {w : Word} → (A ⋅ (B ⋅ (C ⋅ (E ⋅ Z)))) w → ((A ⋅ (B ⋅ (C ⋅ E))) ⋅ Z) w
group {A} {B} {C} {E} {Z} l =
    to_left {L = A} {M = B ⋅ (C ⋅ E)} {N = Z} (at_second {L = A} (λ v m. to_left {L = B} {M = C ⋅ E} {N = Z} (at_second {L = B} (λ v m. to_left {L = C} {M = E} {N = Z} m) m)) l)

ungroup : {A B C E Z : Language} {w : Word} → ((A ⋅ (B ⋅ (C ⋅ E))) ⋅ Z) w → (A ⋅ (B ⋅ (C ⋅ (E ⋅ Z)))) w
ungroup {A} {B} {C} {E} {Z} l =
    at_second {L = A} (λ v m. at_second {L = B} (λ v m. to_right {L = C} {M = E} {N = Z} m) (to_right {L = B} {M = C ⋅ E} {N = Z} m)) (to_right {L = A} {M = B ⋅ (C ⋅ E)} {N = Z} l)

module _ (limit depth : ℕ) (deeper : suc depth ≤ limit) (inner : Opened) (below : Opening limit (suc depth) inner) where
  abbrev D : ℕ
  D = suc depth

  one : (k : ℕ) → Rule limit (one_kind k) (Leaf D k) (symbol k)
  one k = read limit D deeper k

  -- what stands behind the bracket is around it
  outside : (k : ℕ) → Rule limit (one_kind k) (Leaf depth k) (symbol k)
  outside k = read limit depth (omega (arith, deeper)) k

  expr : Rule limit expr_sets (Words spell.expr D) (base.expr inner)
  expr = rule_expr limit D deeper inner below

  abbrev Arrow : Expr → Language
  Arrow = association.ArrowValue limit D deeper inner below

  abbrev Insides : Inside → Language
  Insides = inside.InsideWords limit D deeper inner below

  -- ---- reductions, after the bracket that closes the values

  abbrev ReductionTail : ℕ → Expr → Expr → Language
  ReductionTail a f g =
      Quoted depth kind.tick ⋅ (Leaf depth kind.identifier a ⋅ (Quoted D kind.open_round ⋅ (Words spell.expr D f ⋅ (Quoted D kind.comma ⋅ (Words spell.expr D g ⋅ Quoted D kind.close_round)))))

  abbrev ReductionFrom : ℕ → OptionalParallel → ℕ → Iter → Expr → Primary → Language
  ReductionFrom b p at i v = Image (λ (t : ℕ × (Expr × (Expr × Unit {0}))). Reduction b p at i v t.0 t.1.0 t.1.1.0) (λ t. ReductionTail t.0 t.1.0 t.1.1.0)

  rule_reduction : (b : ℕ) (p : OptionalParallel) (at : ℕ) (i : Iter) (v : Expr) → Rule limit (one_kind kind.tick) (ReductionFrom b p at i v) (reader.reduction inner b p at i v)
  unfolding reader.reduction
  rule_reduction b p at i v =
      is (one_kind kind.tick) (ReductionFrom b p at i v)
      (skip (outside kind.tick) (keep (outside kind.identifier) (λ a. skip (one kind.open_round) (keep expr (λ f. skip (one kind.comma) (keep expr (λ g. last (Reduction b p at i v a f g) (one kind.close_round)) refl) refl) refl) refl) refl) refl)
      (λ x w l. l) (λ x w l. l) refl

  -- ---- values that are an association

  abbrev SomeAssocs : Assocs → Language
  SomeAssocs l w = (x : Assoc) × (ys : Assocs) × (l ≡ AlsoAssoc x ys) × (After kind.comma spell.assoc D x ⋅ Words spell.assocs D ys) w

  abbrev some_assocs : Reader Assocs
  some_assocs = first_and_more (kind.comma ∷ []) (assocs_listed D) assocs_grow (association.rule_next_assoc limit D deeper inner below) refl refl refl refl

  rule_some_assocs : Rule limit (record { first = kind.comma ∷ []; nullable = false; follow_last = association.more_sets.follow_last }) SomeAssocs some_assocs
  rule_some_assocs =
      is _ SomeAssocs (some_items (kind.comma ∷ []) (assocs_listed D) assocs_grow (association.rule_next_assoc limit D deeper inner below) refl refl refl refl)
      (λ x w l. l) (λ x w l. l) refl

  abbrev EachEnd : ℕ → ℕ → Iter → Expr → Primary → Language
  EachEnd b at i v =
      Or (Image (λ (t : Many × Unit {0}). Square b t.0) (λ t. Image (Associations (each_of at i v)) SomeAssocs t.0 ⋅ Quoted D kind.close_square))
      (Then (Leaf D kind.close_square) (λ _. Or (ReductionFrom b AbsentParallel at i v) (Pure (Square b (Associations (each_of at i v) NoAssoc)))))

  abbrev end_sets : Sets
  end_sets = record { first = kind.comma ∷ kind.close_square ∷ []; nullable = false; follow_last = kind.tick ∷ [] }

  abbrev closed : ℕ → ℕ → Iter → Expr → Reader Primary
  closed b at i v = symbol kind.close_square >> by_next (kind.tick ∷ []) (reader.reduction inner b AbsentParallel at i v) (pure (Square b (Associations (each_of at i v) NoAssoc)))

  each_end_same : (b at : ℕ) (i : Iter) (v : Expr)
      → by_next (kind.comma ∷ []) ((Associations (each_of at i v) <$> some_assocs) >>= λ m. symbol kind.close_square >> pure (Square b m)) (closed b at i v) ≡ reader.each_end inner b at i v
  unfolding reader.each_end reader.assocs_from reader.more_assocs
  each_end_same b at i v =
      first_read (kind.comma ∷ []) (assocs_listed D) assocs_grow (association.rule_next_assoc limit D deeper inner below) refl refl refl refl
      (λ x. read_on (read_on x.0 (λ more. pure (Associations (each_of at i v) more)) x.1).0 (λ m. symbol kind.close_square >> pure (Square b m)) (read_on x.0 (λ more. pure (Associations (each_of at i v) more)) x.1).1)
      (closed b at i v)

  rule_each_end : (b at : ℕ) (i : Iter) (v : Expr) → Rule limit end_sets (EachEnd b at i v) (reader.each_end inner b at i v)
  rule_each_end b at i v =
      subst (λ q. Rule limit end_sets (EachEnd b at i v) q) (each_end_same b at i v)
      (is end_sets (EachEnd b at i v)
      (or (kind.comma ∷ []) (keep (to (Associations (each_of at i v)) rule_some_assocs) (λ m. last (Square b m) (one kind.close_square)) refl)
      (seq (one kind.close_square) (λ _. or (kind.tick ∷ []) (rule_reduction b AbsentParallel at i v) (give (Square b (Associations (each_of at i v) NoAssoc))).exact refl refl refl) refl).exact refl refl refl)
      (λ x w l. l) (λ x w l. l) refl)

  -- ---- values

  abbrev PlainEnd : ℕ → OptionalParallel → ℕ → Iter → Expr → Primary → Language
  PlainEnd b p at i v = Image (λ (t : ℕ × (Expr × (Expr × Unit {0}))). Reduction b p at i v t.0 t.1.0 t.1.1.0) (λ t. Quoted D kind.close_square ⋅ ReductionTail t.0 t.1.0 t.1.1.0)

  abbrev ValuesEnd : ℕ → OptionalParallel → ℕ → Iter → Expr → Primary → Language
  ValuesEnd b p at i v x w = ((is_each p i ≡ true) × EachEnd b at i v x w) ⊎ ((is_each p i ≡ false) × PlainEnd b p at i v x w)

  rule_values_end : (b : ℕ) (p : OptionalParallel) (at : ℕ) (i : Iter) (v : Expr) → Rule limit end_sets (ValuesEnd b p at i v) (reader.values_end inner b p at i v)
  unfolding reader.values_end
  rule_values_end b p at i v = by (is_each p i) refl where
    each_only : is_each p i ≡ true → (x : Primary) (w : Word) → ValuesEnd b p at i v x w → EachEnd b at i v x w
    each_only e x w (inl (_, l)) = l
    each_only e x w (inr (f, l)) = no_true (sym f ∙ e)

    plain_only : is_each p i ≡ false → (x : Primary) (w : Word) → ValuesEnd b p at i v x w → PlainEnd b p at i v x w
    plain_only e x w (inl (f, l)) = no_true (sym e ∙ f)
    plain_only e x w (inr (_, l)) = l

    by : (c : Bool) → is_each p i ≡ c → Rule limit end_sets (ValuesEnd b p at i v) (if c then reader.each_end inner b at i v else (symbol kind.close_square >> reader.reduction inner b p at i v))
    by true e = is end_sets (ValuesEnd b p at i v) (rule_each_end b at i v) (λ x w l. inl (e, l)) (each_only e) refl
    by false e = is end_sets (ValuesEnd b p at i v) (skip (one kind.close_square) (rule_reduction b p at i v) refl) (λ x w l. inr (e, l)) (plain_only e) refl

  abbrev ValuesFrom : ℕ → OptionalParallel → Primary → Language
  ValuesFrom b p = Then (Leaf D kind.for_word) (λ at. Then (Words spell.iter D) (λ i. Then Arrow (λ v. ValuesEnd b p at i v)))

  rule_values_from : (b : ℕ) (p : OptionalParallel) → Rule limit (record { first = kind.for_word ∷ []; nullable = false; follow_last = kind.tick ∷ [] }) (ValuesFrom b p) (reader.values_from inner b p)
  unfolding reader.values_from
  rule_values_from b p =
      is _ (ValuesFrom b p)
      (seq (one kind.for_word) (λ at. seq (iteration.rule_iter limit D deeper inner below) (λ i. seq (association.rule_arrow_value limit D deeper inner below) (λ v. rule_values_end b p at i v) refl) refl) refl)
      (λ x w l. l) (λ x w l. l) refl

  abbrev Values : ℕ → Primary → Language
  Values b = Or (Then (Words spell.parallel D) (λ p. ValuesFrom b (PresentParallel p))) (ValuesFrom b AbsentParallel)

  rule_values : (b : ℕ) → Rule limit (record { first = kind.parallel_word ∷ kind.for_word ∷ []; nullable = false; follow_last = kind.tick ∷ [] }) (Values b) (reader.values inner b)
  unfolding reader.values
  rule_values b =
      is _ (Values b)
      (or (kind.parallel_word ∷ []) (seq (iteration.rule_parallel limit D deeper inner below) (λ p. rule_values_from b (PresentParallel p)) refl) (rule_values_from b AbsentParallel).exact refl refl refl)
      (λ x w l. l) (λ x w l. l) refl

  abbrev SquareInside : ℕ → Primary → Language
  SquareInside b = Image (λ (t : Inside × Unit {0}). in_square b t.0) (λ t. Insides t.0 ⋅ Quoted D kind.close_square)

  rule_square_inside : (b : ℕ) → Rule limit (record { first = inside.inside_sets.first; nullable = false; follow_last = [] }) (SquareInside b) (reader.square_inside inner b)
  unfolding reader.square_inside
  rule_square_inside b =
      is _ (SquareInside b) (keep (inside.rule_inside limit D deeper inner below) (λ x. last (in_square b x) (one kind.close_square)) refl)
      (λ x w l. l) (λ x w l. l) refl

  -- ---- from what was read to what stands there

  inside_words : (b : ℕ) (y : Inside) (w : Word) → (Leaf D kind.open_square b ⋅ (Insides y ⋅ Quoted D kind.close_square)) w → SquareWords depth (in_square b y) w
  unfolding spell.expr
  inside_words b (OneInside e) w l = l
  inside_words b (ManyInside (Positions f s m)) w l = l
  inside_words b (ManyInside (PositionsOthers f s m at o)) w l = l
  inside_words b (ManyInside (FirstOthers f at o)) w l = l
  inside_words b (ManyInside (Associations (Chosen f m o) as')) w l = l
  inside_words b (ManyInside (Associations (Each at i r o) as')) w (u, v, e, i', (u1, v1, e1, l, c)) = absurd l

  -- the values of a reduction before what follows them, and the end of a reduction
  abbrev Valued : OptionalParallel → ℕ → Iter → Expr → Language → Language
  Valued p at i v Z = Words spell.optional_parallel D p ⋅ (Leaf D kind.for_word at ⋅ (Words spell.iter D i ⋅ (Arrow v ⋅ Z)))

  tail_words : (a : ℕ) (f g : Expr) (w : Word) → ReductionTail a f g w
      → words_of ((free kind.tick then spell.identifier a then spell.in_round (spell.expr f then free kind.comma then spell.expr g)) depth) w
  tail_words a f g w l =
      at_second {L = Quoted depth kind.tick} (λ v m. at_second {L = Leaf depth kind.identifier a} (λ v m. at_second {L = Quoted D kind.open_round} (λ v m.
      to_left {L = Words spell.expr D f} {M = Quoted D kind.comma ⋅ Words spell.expr D g} {N = Quoted D kind.close_round}
      (at_second {L = Words spell.expr D f} (λ v m. to_left {L = Quoted D kind.comma} {M = Words spell.expr D g} {N = Quoted D kind.close_round} m) m)) m) m) l

  words_tail : (a : ℕ) (f g : Expr) (w : Word) → words_of ((free kind.tick then spell.identifier a then spell.in_round (spell.expr f then free kind.comma then spell.expr g)) depth) w
      → ReductionTail a f g w
  words_tail a f g w l =
      at_second {L = Quoted depth kind.tick} (λ v m. at_second {L = Leaf depth kind.identifier a} (λ v m. at_second {L = Quoted D kind.open_round} (λ v m.
      at_second {L = Words spell.expr D f} (λ v m. to_right {L = Quoted D kind.comma} {M = Words spell.expr D g} {N = Quoted D kind.close_round} m)
      (to_right {L = Words spell.expr D f} {M = Quoted D kind.comma ⋅ Words spell.expr D g} {N = Quoted D kind.close_round} m)) m) m) l

  abbrev ValueWords : OptionalParallel → ℕ → Iter → Expr → Language
  ValueWords p at i v = Words spell.optional_parallel D p ⋅ (Leaf D kind.for_word at ⋅ (Words spell.iter D i ⋅ Arrow v))

  reduced : (b : ℕ) (p : OptionalParallel) (at : ℕ) (i : Iter) (v : Expr) (a : ℕ) (f g : Expr) (w : Word)
      → (Leaf D kind.open_square b ⋅ Valued p at i v (Quoted D kind.close_square ⋅ ReductionTail a f g)) w → SquareWords depth (Reduction b p at i v a f g) w
  unfolding spell.expr
  reduced b p at i v a f g w l =
      at_second {L = Leaf D kind.open_square b ⋅ (ValueWords p at i v ⋅ Quoted D kind.close_square)} (λ y k. tail_words a f g y k)
      (to_left {L = Leaf D kind.open_square b} {M = ValueWords p at i v ⋅ Quoted D kind.close_square} {N = ReductionTail a f g}
      (at_second {L = Leaf D kind.open_square b} (λ y k. to_left {L = ValueWords p at i v} {M = Quoted D kind.close_square} {N = ReductionTail a f g}
      (group {A = Words spell.optional_parallel D p} {B = Leaf D kind.for_word at} {C = Words spell.iter D i} {E = Arrow v} {Z = Quoted D kind.close_square ⋅ ReductionTail a f g} k)) l))

  unreduced : (b : ℕ) (p : OptionalParallel) (at : ℕ) (i : Iter) (v : Expr) (a : ℕ) (f g : Expr) (w : Word)
      → SquareWords depth (Reduction b p at i v a f g) w → (Leaf D kind.open_square b ⋅ Valued p at i v (Quoted D kind.close_square ⋅ ReductionTail a f g)) w
  unfolding spell.expr
  unreduced b p at i v a f g w l =
      at_second {L = Leaf D kind.open_square b} (λ y k.
      ungroup {A = Words spell.optional_parallel D p} {B = Leaf D kind.for_word at} {C = Words spell.iter D i} {E = Arrow v} {Z = Quoted D kind.close_square ⋅ ReductionTail a f g}
      (to_right {L = ValueWords p at i v} {M = Quoted D kind.close_square} {N = ReductionTail a f g} k))
      (to_right {L = Leaf D kind.open_square b} {M = ValueWords p at i v ⋅ Quoted D kind.close_square} {N = ReductionTail a f g}
      (at_second {L = Leaf D kind.open_square b ⋅ (ValueWords p at i v ⋅ Quoted D kind.close_square)} (λ y k. words_tail a f g y k) l))

  -- an iteration over a range with nothing more to it
  abbrev PlainIter : ℕ → Range → Language
  PlainIter i r = Leaf D kind.identifier i ⋅ (Quoted D kind.in_word ⋅ Words spell.range D r)

  from_iter : (i : ℕ) (r : Range) (w : Word) → Words spell.iter D (InRange i None r AbsentExpr) w → PlainIter i r w
  unfolding spell.expr
  from_iter i r w l = at_second {L = Leaf D kind.identifier i} (λ v m. at_second {L = Quoted D kind.in_word} (λ v m. without_after {L = Words spell.range D r} (without_before {L = Words spell.range D r ⋅ Empty} m)) m) l

  to_iter : (i : ℕ) (r : Range) (w : Word) → PlainIter i r w → Words spell.iter D (InRange i None r AbsentExpr) w
  unfolding spell.expr
  to_iter i r w l = at_second {L = Leaf D kind.identifier i} (λ v m. at_second {L = Quoted D kind.in_word} (λ v m. none_before {L = Words spell.range D r ⋅ Empty} (none_after {L = Words spell.range D r} m)) m) l

  -- as an association before what follows it
  as_each : {Z : Language} (at i : ℕ) (r : Range) (v : Expr) (w : Word) → Valued AbsentParallel at (InRange i None r AbsentExpr) v Z w → (Words spell.assoc D (Each at i r v) ⋅ Z) w
  unfolding spell.expr
  as_each {Z} at i r v w l =
      group {A = Leaf D kind.for_word at} {B = Leaf D kind.identifier i} {C = Quoted D kind.in_word} {E = Words spell.range D r ⋅ Arrow v} {Z = Z}
      (at_second {L = Leaf D kind.for_word at} (λ y k. regroup (at_first (λ y' k'. from_iter i r y' k') k)) (without_before {L = Leaf D kind.for_word at ⋅ (Words spell.iter D (InRange i None r AbsentExpr) ⋅ (Arrow v ⋅ Z))} l)) where
        regroup : {y : Word} → (PlainIter i r ⋅ (Arrow v ⋅ Z)) y → (Leaf D kind.identifier i ⋅ (Quoted D kind.in_word ⋅ ((Words spell.range D r ⋅ Arrow v) ⋅ Z))) y
        regroup k =
            at_second {L = Leaf D kind.identifier i} (λ y k. at_second {L = Quoted D kind.in_word} (λ y k. to_left {L = Words spell.range D r} {M = Arrow v} {N = Z} k) (to_right {L = Quoted D kind.in_word} {M = Words spell.range D r} {N = Arrow v ⋅ Z} k))
            (to_right {L = Leaf D kind.identifier i} {M = Quoted D kind.in_word ⋅ Words spell.range D r} {N = Arrow v ⋅ Z} k)

  from_each : {Z : Language} (at i : ℕ) (r : Range) (v : Expr) (w : Word) → (Words spell.assoc D (Each at i r v) ⋅ Z) w → Valued AbsentParallel at (InRange i None r AbsentExpr) v Z w
  unfolding spell.expr
  from_each {Z} at i r v w l =
      none_before {L = Leaf D kind.for_word at ⋅ (Words spell.iter D (InRange i None r AbsentExpr) ⋅ (Arrow v ⋅ Z))}
      (at_second {L = Leaf D kind.for_word at} (λ y k. at_first (λ y' k'. to_iter i r y' k') (regroup k))
      (ungroup {A = Leaf D kind.for_word at} {B = Leaf D kind.identifier i} {C = Quoted D kind.in_word} {E = Words spell.range D r ⋅ Arrow v} {Z = Z} l)) where
        regroup : {y : Word} → (Leaf D kind.identifier i ⋅ (Quoted D kind.in_word ⋅ ((Words spell.range D r ⋅ Arrow v) ⋅ Z))) y → (PlainIter i r ⋅ (Arrow v ⋅ Z)) y
        regroup k =
            to_left {L = Leaf D kind.identifier i} {M = Quoted D kind.in_word ⋅ Words spell.range D r} {N = Arrow v ⋅ Z}
            (at_second {L = Leaf D kind.identifier i} (λ y k. to_left {L = Quoted D kind.in_word} {M = Words spell.range D r} {N = Arrow v ⋅ Z} (at_second {L = Quoted D kind.in_word} (λ y k. to_right {L = Words spell.range D r} {M = Arrow v} {N = Z} k) k)) k)

  -- values that are an association, and what ends them
  each_words : (b at i : ℕ) (r : Range) (v : Expr) (x : Primary) (w : Word)
      → (Leaf D kind.open_square b ⋅ Valued AbsentParallel at (InRange i None r AbsentExpr) v (EachEnd b at (InRange i None r AbsentExpr) v x)) w → SquareWords depth x w
  unfolding spell.expr
  each_words b at i r v x w (u, v', e, o, k) = by (as_each {Z = EachEnd b at (InRange i None r AbsentExpr) v x} at i r v v' k) k where
    by : (Words spell.assoc D (Each at i r v) ⋅ EachEnd b at (InRange i None r AbsentExpr) v x) v' → Valued AbsentParallel at (InRange i None r AbsentExpr) v (EachEnd b at (InRange i None r AbsentExpr) v x) v' → SquareWords depth x w
    by (u1, v1, e1, l, inl (t, eq, (u2, v2, e2, (more, is, (y, ys, is', m)), c))) _ =
        from (SquareWords depth) (eq ∙ ap (Square b) (is ∙ ap (Associations (Each at i r v)) is'))
        (u, v', e, o, to_left {L = Words spell.assoc D (Each at i r v)} {M = Words spell.assocs D (AlsoAssoc y ys)} {N = Quoted D kind.close_square} (u1, v1, e1, l, (u2, v2, e2, to_right m, c)))
    by (u1, v1, e1, l, inr (n, u2, v2, e2, c, inl (t, eq, m))) (u3, v3, e3, la, (u4, v4, e4, lf, (u5, v5, e5, li, (u6, v6, e6, ly, _)))) =
        from (SquareWords depth) eq
        (reduced b AbsentParallel at (InRange i None r AbsentExpr) v t.0 t.1.0 t.1.1.0 w
        (u, v', e, o, from_each {Z = Quoted D kind.close_square ⋅ ReductionTail t.0 t.1.0 t.1.1.0} at i r v v' (u1, v1, e1, l, (u2, v2, e2, (n, c), m))))
    by (u1, v1, e1, l, inr (n, u2, v2, e2, c, inr (eq, none))) _ =
        from (SquareWords depth) eq
        (u, v', e, o, (u1, v1, e1, none_after {L = Words spell.assoc D (Each at i r v)} l, (n, without_after {L = Leaf D kind.close_square n} (u2, v2, e2, c, none))))

  values_words : (b : ℕ) (p : OptionalParallel) (at : ℕ) (i : Iter) (v : Expr) (x : Primary) (w : Word) → (Leaf D kind.open_square b ⋅ Valued p at i v (ValuesEnd b p at i v x)) w → SquareWords depth x w
  values_words b p at i v x w (u, v1, e, o, (u2, v2, e2, lp, (u3, v3, e3, lf, (u4, v4, e4, li, (u5, v5, e5, ly, inr (h, (t, eq, k))))))) =
      from (SquareWords depth) eq (reduced b p at i v t.0 t.1.0 t.1.1.0 w (u, v1, e, o, (u2, v2, e2, lp, (u3, v3, e3, lf, (u4, v4, e4, li, (u5, v5, e5, ly, k))))))
  values_words b p at i v x w (u, v1, e, o, (u2, v2, e2, lp, (u3, v3, e3, lf, (u4, v4, e4, li, (u5, v5, e5, ly, inl (h, k)))))) = by p i lp li h k where
    by : (p : OptionalParallel) (i : Iter) → Words spell.optional_parallel D p u2 → Words spell.iter D i u4 → is_each p i ≡ true → EachEnd b at i v x v5 → SquareWords depth x w
    by AbsentParallel (InRange i None r AbsentExpr) lp li h k = each_words b at i r v x w (u, v1, e, o, (u2, v2, e2, lp, (u3, v3, e3, lf, (u4, v4, e4, li, (u5, v5, e5, ly, k)))))
    by AbsentParallel (InRange i None r (PresentExpr c)) lp li h k = no_true h
    by AbsentParallel (InRange i (Some n) r f) lp li h k = no_true h
    by AbsentParallel (OfName i n f) lp li h k = no_true h
    by (PresentParallel q) i lp li h k = no_true h

  abbrev SquareCases : Primary → Language
  SquareCases = Then (Leaf D kind.open_square) (λ b. Or (Values b) (SquareInside b))

  join_square : (x : Primary) (w : Word) → SquareCases x w → SquareWords depth x w
  unfolding spell.expr
  join_square x w (b, u, v, e, o, inr (t, eq, k)) = from (SquareWords depth) eq (inside_words b t.0 w (u, v, e, o, k))
  join_square x w (b, u, v, e, o, inl (inl (p, u1, v1, e1, lp, (at, u2, v2, e2, lf, (i, u3, v3, e3, li, (y, u4, v4, e4, ly, k)))))) =
      values_words b (PresentParallel p) at i y x w (u, v, e, o, (u1, v1, e1, lp, (u2, v2, e2, lf, (u3, v3, e3, li, (u4, v4, e4, ly, k)))))
  join_square x w (b, u, v, e, o, inl (inr (at, u2, v2, e2, lf, (i, u3, v3, e3, li, (y, u4, v4, e4, ly, k))))) =
      values_words b AbsentParallel at i y x w (u, v, e, o, ([], v, refl, refl, (u2, v2, e2, lf, (u3, v3, e3, li, (u4, v4, e4, ly, k)))))

  -- ---- and back

  from_values : (b : ℕ) (p : OptionalParallel) (at : ℕ) (i : Iter) (v : Expr) (x : Primary) (w : Word) → (Leaf D kind.open_square b ⋅ Valued p at i v (ValuesEnd b p at i v x)) w → SquareCases x w
  unfolding spell.expr
  from_values b AbsentParallel at i y x w (u, v, e, o, k) =
      let (u2, v2, e2, lf, (u3, v3, e3, li, (u4, v4, e4, ly, k'))) = without_before {L = Leaf D kind.for_word at ⋅ (Words spell.iter D i ⋅ (Arrow y ⋅ ValuesEnd b AbsentParallel at i y x))} k in
      (b, u, v, e, o, inl (inr (at, u2, v2, e2, lf, (i, u3, v3, e3, li, (y, u4, v4, e4, ly, k')))))
  from_values b (PresentParallel p) at i y x w (u, v, e, o, (u1, v1, e1, lp, (u2, v2, e2, lf, (u3, v3, e3, li, (u4, v4, e4, ly, k))))) =
      (b, u, v, e, o, inl (inl (p, u1, v1, e1, lp, (at, u2, v2, e2, lf, (i, u3, v3, e3, li, (y, u4, v4, e4, ly, k))))))

  in_values : {Z Z' : Language} (p : OptionalParallel) (at : ℕ) (i : Iter) (v : Expr) (w : Word) → ((y : Word) → Z y → Z' y) → Valued p at i v Z w → Valued p at i v Z' w
  in_values p at i v w f (u1, v1, e1, lp, (u2, v2, e2, lf, (u3, v3, e3, li, (u4, v4, e4, ly, k)))) = (u1, v1, e1, lp, (u2, v2, e2, lf, (u3, v3, e3, li, (u4, v4, e4, ly, f v4 k))))

  reduction_end : (b : ℕ) (p : OptionalParallel) (at : ℕ) (i : Iter) (v : Expr) (a : ℕ) (f g : Expr) (y : Word) → (Quoted D kind.close_square ⋅ ReductionTail a f g) y → ValuesEnd b p at i v (Reduction b p at i v a f g) y
  reduction_end b p at i v a f g y k = by p (is_each p i) refl where
    by : (q : OptionalParallel) (c : Bool) → is_each q i ≡ c → ValuesEnd b q at i v (Reduction b q at i v a f g) y
    by q false e = inr (e, ((a, (f, (g, tt))), refl, k))
    by AbsentParallel true e = let (u, u', e', (n, c), m) = k in inl (e, inr (n, u, u', e', c, inl ((a, (f, (g, tt))), refl, m)))
    by (PresentParallel q) true e = no_true e

  split_square : (x : Primary) (w : Word) → SquareWords depth x w → SquareCases x w
  unfolding spell.expr
  split_square (Reduction b p at i v a f g) w l =
      from_values b p at i v (Reduction b p at i v a f g) w
      (at_second {L = Leaf D kind.open_square b} (λ y k. in_values p at i v y (λ z m. reduction_end b p at i v a f g z m) k) (unreduced b p at i v a f g w l))
  split_square (OneValue b y) w (u, v, e, o, l) = (b, u, v, e, o, inr ((OneInside y, tt), refl, l))
  split_square (Square b (Positions f s m)) w (u, v, e, o, l) = (b, u, v, e, o, inr ((ManyInside (Positions f s m), tt), refl, l))
  split_square (Square b (PositionsOthers f s m at y)) w (u, v, e, o, l) = (b, u, v, e, o, inr ((ManyInside (PositionsOthers f s m at y), tt), refl, l))
  split_square (Square b (FirstOthers f at y)) w (u, v, e, o, l) = (b, u, v, e, o, inr ((ManyInside (FirstOthers f at y), tt), refl, l))
  split_square (Square b (Associations (Chosen f m y) more)) w (u, v, e, o, l) = (b, u, v, e, o, inr ((ManyInside (Associations (Chosen f m y) more), tt), refl, l))
  split_square (Square b (Associations (Each at i r y) NoAssoc)) w (u, v, e, o, (u1, v1, e1, l, (n, c))) =
      from_values b AbsentParallel at (InRange i None r AbsentExpr) y (Square b (Associations (Each at i r y) NoAssoc)) w (
        u,
        v,
        e,
        o,
        from_each at i r y v
            (u1, v1, e1, without_after {L = Words spell.assoc D (Each at i r y)} l, inl (refl, inr (n, v1, [], sym (append-nil v1), c, inr (refl, refl)))),
      )
  split_square (Square b (Associations (Each at i r y) (AlsoAssoc a more))) w (u, v, e, o, k) =
      let (u1, v1, e1, l, (u2, v2, e2, m, c)) = to_right {L = Words spell.assoc D (Each at i r y)} {M = Words spell.assocs D (AlsoAssoc a more)} {N = Quoted D kind.close_square} k in
      from_values b AbsentParallel at (InRange i None r AbsentExpr) y (Square b (Associations (Each at i r y) (AlsoAssoc a more))) w (
        u,
        v,
        e,
        o,
        from_each at i r y v
            (u1, v1, e1, l, inl (refl, inl ((Associations (Each at i r y) (AlsoAssoc a more), tt), refl, (u2, v2, e2, (AlsoAssoc a more, refl, (a, more, refl, to_left m)), c)))),
      )
  split_square (Number n) w l = absurd l
  split_square (Text n) w l = absurd l
  split_square (Target n) w l = absurd l
  split_square (Named n) w l = absurd l
  split_square (Group b y) w l = absurd l
  split_square (If b at c v m o) w l = absurd l
  split_square (Round b m) w l = absurd l

  pub rule_square : Rule limit square_sets (SquareWords depth) (reader.square inner)
  unfolding reader.square
  rule_square =
      is square_sets (SquareWords depth)
      (seq (one kind.open_square) (λ b. or (kind.parallel_word ∷ kind.for_word ∷ []) (rule_values b) (rule_square_inside b).exact refl refl refl) refl)
      join_square split_square refl
