-- The laws fit a grammar with brackets, a choice and a repetition: its readers are exact at each limit. What a
-- wrong depth and a wrong set would say is false.
use Rattle.std.proofs.Common.{◌≡◌, ℕ, zero, suc, ◌+◌, ◌<◌, ◌≤◌, List, [], ◌∷◌, ◌++◌, Bool, true, false, ◌||◌, ◌==◌, if◌then◌else◌, inl, inr, refl, sym, ap, ◌∙◌, subst, append-nil, arith}
use Rattle.std.proofs.lemmas.Bool.Decides.{Decides-eqb}
use Rattle.ada_base.specs.Symbols.{Symbol, numbered, Nested, Word, is_member}
use Rattle.syntax_readers.specs.Readers.{Reader, Answer, Found, Refused, ◌<$>◌, symbol}
use Rattle.syntax_readers.specs.Loops.{grown}
use Rattle.ada_base.specs.Languages.{Language, ◌⋅◌, Leaf, Quoted, Many, Then, Or, Pure, Image, Begins, Inhabited}
use Rattle.syntax_readers.specs.Sets.{Sets, are_disjoint, one_kind}
use Rattle.syntax_readers.specs.Exact.{Reads, Exact, Rule}
use Rattle.ada_base.specs.Derivations.{Derives}
use Rattle.syntax_readers.specs.Verdicts.{RightAnswer}
use Rattle.syntax_readers.specs.Example as kind
use Rattle.syntax_readers.specs.Example.{bracketed, value, range, more_range, ranges}
use Rattle.syntax_readers.specs.ExampleReaders as reader
use Rattle.syntax_readers.specs.ExampleReaders.{alone, deeper}
use Rattle.syntax_readers.specs.declared.example.Value.{Value}
use Rattle.syntax_readers.specs.declared.example.Range.{Range}
use Rattle.syntax_readers.specs.declared.example.Range.TheVariants.{One, Between}
use Rattle.syntax_readers.proofs.Answers.{deep_found}
use Rattle.syntax_readers.proofs.Depths.{BeginsTooDeep, exact_too_deep}
use Rattle.syntax_readers.proofs.Rules.{read, give, seq, or, to, is}
use Rattle.syntax_readers.proofs.Chains.{more_items, list_grows, many_listed}
use Rattle.syntax_readers.proofs.RightAnswers.{right_answer}
use Rattle.syntax_readers.proofs.OneTree.{one_tree}

-- ---- the sets

abbrev pub value_sets : Sets
value_sets = record { first = kind.open_bracket ∷ kind.number ∷ []; nullable = false; follow_last = [] }

abbrev pub range_sets : Sets
range_sets = record { first = kind.open_bracket ∷ kind.number ∷ []; nullable = false; follow_last = kind.dots ∷ [] }

abbrev pub ranges_sets : Sets
ranges_sets = record { first = kind.open_bracket ∷ kind.number ∷ []; nullable = false; follow_last = kind.dots ∷ kind.comma ∷ [] }

-- ---- brackets, a level for each

-- a value in a bracket
abbrev InBracket : ℕ → Value → Language
InBracket depth = Image deeper (λ v. Quoted (suc depth) kind.open_bracket ⋅ value (suc depth) v ⋅ Quoted (suc depth) kind.close_bracket)

one_more : (v : Value) → record { brackets = suc v.brackets; number = v.number } ≡ deeper v
one_more v = let e : suc v.brackets ≡ v.brackets + 1 = omega arith in ap (λ (n : ℕ). let w : Value = record { brackets = n; number = v.number } in w) e

-- a value is a number alone, or one in a bracket
abbrev ValueCases : ℕ → Value → Language
ValueCases depth = Or (InBracket depth) (Image alone (Leaf depth kind.number))

join_value : (depth : ℕ) (v : Value) (w : Word) → ValueCases depth v w → value depth v w
join_value depth v w (inl (x, is, l)) = subst (λ z. value depth z w) (one_more x ∙ sym is) l
join_value depth v w (inr (n, is, l)) = subst (λ z. value depth z w) (sym is) l

part_value : (depth : ℕ) (v : Value) (w : Word) → value depth v w → ValueCases depth v w
part_value depth v w l = at v.brackets v.number l where
  at : (b n : ℕ) → bracketed depth b n w → ValueCases depth (record { brackets = b; number = n }) w
  at zero n l = inr (n, refl, l)
  at (suc b) n l = let x : Value = record { brackets = b; number = n } in inl (x, one_more x, l)

bracket_first : (limit depth : ℕ) → limit < suc depth → (v : Value) (w : Word) → InBracket depth v w → BeginsTooDeep limit (kind.open_bracket ∷ []) w
bracket_first limit depth over v w (x, is, (u, u', e, (n, i), l)) =
    (record { symbol = record { number = n; kind = kind.open_bracket }; depth = suc depth }, u', e ∙ ap (λ z. z ++ u') i, over, refl)

-- any symbol that is an opening bracket begins a value in a bracket
bracket_begins : (depth : ℕ) (t : Symbol) → is_member (kind.open_bracket ∷ []) t.kind ≡ true → Begins (InBracket depth) (t ∷ [])
bracket_begins depth t opens next =
    let inner : Nested = record { symbol = record { number = next; kind = kind.number }; depth = suc depth } in
    let last : Nested = record { symbol = record { number = suc next; kind = kind.close_bracket }; depth = suc depth } in (
      deeper (alone next),
      record { symbol = t; depth = suc depth } ∷ inner ∷ last ∷ [],
      kind.number ∷ kind.close_bracket ∷ [],
      (
        alone next,
        refl,
        (
          record { symbol = t; depth = suc depth } ∷ [],
          inner ∷ last ∷ [],
          refl,
          (t.number, ap (λ k. record { symbol = record { number = t.number; kind = k }; depth = suc depth } ∷ []) is_bracket),
          (inner ∷ [], last ∷ [], refl, refl, (suc next, refl)),
        ),
      ),
      refl,
    ) where
      is_bracket : t.kind ≡ kind.open_bracket
      is_bracket = at (kind.open_bracket == t.kind) ((Decides-eqb kind.open_bracket t.kind).0) opens where
        at : (b : Bool) → (b ≡ true → kind.open_bracket ≡ t.kind) → (b || false) ≡ true → t.kind ≡ kind.open_bracket
        at true f e = sym (f refl)
        at false f e = absurd (no e) where
          no : false ≡ true → ⊥
          no q = cc

bracket_inhabited : (depth : ℕ) → Inhabited (InBracket depth)
bracket_inhabited depth next =
    let (v, w, more, l, e) = bracket_begins depth (record { number = next; kind = kind.open_bracket }) refl (suc next) in
    (v, w, kind.open_bracket ∷ more, l, e)

module _ (limit : ℕ) where
  rule_number : (depth : ℕ) → depth ≤ limit → Rule limit (one_kind kind.number) (Image alone (Leaf depth kind.number)) (alone <$> symbol kind.number)
  rule_number depth within = to alone (read limit depth within kind.number)

  -- a value, where a value in a bracket is read
  rule_value_of : (depth : ℕ) → depth ≤ limit → (bracket : Reader Value) → Rule limit (one_kind kind.open_bracket) (InBracket depth) bracket
      → Rule limit value_sets (value depth) (reader.value_of bracket)
  unfolding reader.value_of
  rule_value_of depth within bracket rule =
      is value_sets (value depth) (or (kind.open_bracket ∷ []) rule (rule_number depth within).exact refl refl refl) (join_value depth) (part_value depth) refl

  -- a value in a bracket, where what stands in it is read
  rule_bracket_of : (depth : ℕ) → suc depth ≤ limit → (inner : Reader Value) → Rule limit value_sets (value (suc depth)) inner
      → Rule limit (one_kind kind.open_bracket) (InBracket depth) (reader.bracket_of inner)
  unfolding reader.bracket_of
  rule_bracket_of depth within inner rule =
      is (one_kind kind.open_bracket) (InBracket depth)
      (seq (read limit (suc depth) within kind.open_bracket) (λ _. seq rule (λ v. to (λ _. deeper v) (read limit (suc depth) within kind.close_bracket)) refl) refl)
      (λ x w (n, u, v, e, i, (y, u1, v1, e1, l, (m, is, j))). (y, is, (u, v, e, (n, i), (u1, v1, e1, l, (m, j)))))
      (λ x w (y, is, (u, v, e, (n, i), (u1, v1, e1, l, (m, j)))). (n, u, v, e, i, (y, u1, v1, e1, l, (m, is, j)))) refl

  -- one level of brackets after another
  rule_bracket : (levels depth : ℕ) → levels + depth ≡ limit → Rule limit (one_kind kind.open_bracket) (InBracket depth) (reader.bracket levels)
  unfolding reader.bracket
  rule_bracket zero depth e =
      record {
        exact = exact_too_deep (one_kind kind.open_bracket) (InBracket depth) (bracket_first limit depth (omega (arith, e))) (bracket_begins depth) refl;
        sample = bracket_inhabited depth;
      }
  rule_bracket (suc levels) depth e =
      rule_bracket_of depth (omega (arith, e)) (reader.value levels)
      (rule_value_of (suc depth) (omega (arith, e)) (reader.bracket levels) (rule_bracket levels (suc depth) (omega (arith, e))))

  rule_value : Rule limit value_sets (value 0) (reader.value limit)
  rule_value = rule_value_of 0 (omega arith) (reader.bracket limit) (rule_bracket limit 0 (omega arith))

  -- ---- a choice, and a repetition

  abbrev RangeCases : ℕ → Range → Language
  RangeCases depth = Then (value depth) (λ v. Or (Then (Leaf depth kind.dots) (λ _. Image (Between v) (value depth))) (Pure (One v)))

  join_range : (depth : ℕ) (x : Range) (w : Word) → RangeCases depth x w → range depth x w
  join_range depth x w (v, u, u', e, l, inl (n, u1, v1, e1, i, (y, is, j))) = subst (λ z. range depth z w) (sym is) (u, u', e, l, (u1, v1, e1, (n, i), j))
  join_range depth x w (v, u, u', e, l, inr (is, none)) = subst (λ z. range depth z w) (sym is) (subst (value depth v) (sym (e ∙ ap (λ z. u ++ z) none ∙ append-nil u)) l)

  part_range : (depth : ℕ) (x : Range) (w : Word) → range depth x w → RangeCases depth x w
  part_range depth (One v) w l = (v, w, [], sym (append-nil w), l, inr (refl, refl))
  part_range depth (Between v y) w (u, u', e, l, (u1, v1, e1, (n, i), j)) = (v, u, u', e, l, inl (n, u1, v1, e1, i, (y, refl, j)))

  pub rule_range : Rule limit range_sets (range 0) (reader.range limit)
  unfolding reader.range
  rule_range =
      is range_sets (range 0)
      (seq rule_value (λ v. or (kind.dots ∷ []) (seq (read limit 0 (omega arith) kind.dots) (λ _. to (Between v) rule_value) refl) (give (One v)).exact refl refl refl) refl)
      (join_range 0) (part_range 0) refl

  pub rule_more_range : Rule limit (record { first = kind.comma ∷ []; nullable = false; follow_last = kind.dots ∷ [] }) (more_range 0) (reader.more_range limit)
  unfolding reader.more_range
  rule_more_range =
      is _ (more_range 0) (seq (read limit 0 (omega arith) kind.comma) (λ _. rule_range) refl)
      (λ x w (n, u, v, e, i, l). (u, v, e, (n, i), l)) (λ x w (u, v, e, (n, i), l). (n, u, v, e, i, l)) refl

  abbrev RangesCases : List Range → Language
  RangesCases = Then (range 0) (λ r. Image (λ (rs : List Range). r ∷ rs) (Many (more_range 0)))

  join_ranges : (xs : List Range) (w : Word) → RangesCases xs w → ranges xs w
  join_ranges xs w (r, u, v, e, l, (rs, is, m)) = subst (λ z. ranges z w) (sym is) (u, v, e, l, m)

  part_ranges : (xs : List Range) (w : Word) → ranges xs w → RangesCases xs w
  part_ranges [] w l = absurd l
  part_ranges (r ∷ rs) w (u, v, e, l, m) = (r, u, v, e, l, (rs, refl, m))

  pub rule_ranges : Rule limit ranges_sets ranges (reader.ranges limit)
  unfolding reader.ranges
  rule_ranges =
      is ranges_sets ranges (seq rule_range (λ r. more_items (kind.comma ∷ []) (many_listed (more_range 0)) list_grows rule_more_range refl refl refl refl (r ∷ [])) refl) join_ranges part_ranges refl

-- the verdict on any list of kinds, at any limit
pub right : (limit : ℕ) (ks : List ℕ) → RightAnswer limit ranges ks (reader.ranges limit (numbered 0 ks))
right limit ks = right_answer (rule_ranges limit) refl ks

-- a list of kinds is one list of ranges at most, however deep
pub one_list : (ks : List ℕ) (xs ys : List Range) → Derives ranges ks xs → Derives ranges ks ys → xs ≡ ys
one_list = one_tree reader.ranges rule_ranges refl

-- ---- what is refused

-- a symbol is read only where it isn't too deep
pub needs_depth : (limit depth k : ℕ) → Exact limit (one_kind k) (Leaf depth k) (symbol k) → depth ≤ limit
needs_depth limit depth k exact = at (exact.whole 0 (record { symbol = record { number = 0; kind = k }; depth = depth } ∷ []) [] refl refl) where
  found : symbol k (record { number = 0; kind = k } ∷ []) ≡ (Found 0, [])
  found = ap (λ (b : Bool). let r : Answer ℕ × List Symbol = if b then (Found 0, []) else (Refused, record { number = 0; kind = k } ∷ []) in r) ((Decides-eqb k k).1 refl)

  at : Reads limit 0 (record { symbol = record { number = 0; kind = k }; depth = depth } ∷ []) [] (symbol k (record { number = 0; kind = k } ∷ [])) → depth ≤ limit
  at (inl (within, _)) = within.0
  at (inr (f, c, b, e, w, over, deep)) = absurd (deep_found 0 (ap (λ z. z.0) (sym deep ∙ found)))

-- a repetition's sets have the kinds with which it goes on
pub needs_follow_last : (limit : ℕ) → Exact limit (record { first = 1 ∷ []; nullable = true; follow_last = [] }) (Many (Leaf 0 1)) (grown (λ xs x. xs ++ x ∷ []) [] (1 ∷ []) (symbol 1)) → ⊥
needs_follow_last limit exact = at (exact.whole [] [] (t ∷ []) refl refl) where
  t : Symbol
  t = record { number = 0; kind = 1 }

  no_rest : [] ≡ t ∷ [] → ⊥
  no_rest q = cc

  no_part : (f : Word) (c : Nested) (b : Word) → [] ≡ f ++ c ∷ b → ⊥
  no_part [] c b q = cc
  no_part (x ∷ f) c b q = cc

  at : Reads limit [] [] (t ∷ []) (grown (λ xs x. xs ++ x ∷ []) [] (1 ∷ []) (symbol 1) (t ∷ [])) → ⊥
  at (inl (_, e)) = no_rest (ap (λ z. z.1) e)
  at (inr (f, c, b, e, _, _, _)) = no_part f c b e

-- a list can't be followed by a comma: the condition for it computes to false
pub no_comma_after : are_disjoint ranges_sets.follow_last (kind.comma ∷ []) ≡ false
no_comma_after = refl
