-- The readers of names and sums are exact, where those of what opens a bracket are.
use Rattle.std.proofs.Common.{ℕ, ◌≤◌, [], ◌∷◌, ◌++◌, false, true, Some, None, inl, inr, refl, sym, append-nil}
use Rattle.ada_base.specs.Symbols.{Word}
use Rattle.ada_base.specs.Languages.{Language, Leaf, Quoted, Then, Or, Pure, Image, ◌⋅◌}
use Rattle.syntax_readers.specs.Readers.{symbol, ◌<$>◌}
use Rattle.syntax_readers.specs.Sets.{one_kind}
use Rattle.syntax_readers.specs.Exact.{Rule}
use Rattle.syntax_readers.proofs.Rules.{read, give, seq, or, to, is}
use Rattle.syntax_readers.proofs.Chains.{items, begun}
use Rattle.syntax_readers.proofs.Forms.{from, none_before, without_before, without_after, either, form, keep, skip, lead}
use Rattle.ada_base.specs.Kinds as kind
use Rattle.syntax_tree.specs.Syntax as syntax
use Rattle.syntax_tree.specs.Syntax.{Simple, Sum, Adding, Addings, Term, Product, Multiplying, Factor, Operand, Power, Abs, Not, Primary, Number, Text, Target, Named, Group, If, Round, Square, OneValue, Reduction, Name, NamePart, Field, Call, Attribute, RangeAttribute}
use Rattle.syntax_tree.specs.Productions as spell
use Rattle.syntax_tree.specs.declared.operators.Additive.{Additive}
use Rattle.syntax_tree.specs.declared.operators.Additive.TheVariants as additive
use Rattle.syntax_tree.specs.declared.operators.Sign.{Sign}
use Rattle.syntax_tree.specs.declared.operators.Sign.TheVariants as sign'
use Rattle.syntax_tree.specs.declared.operators.Multiplicative.{Multiplicative}
use Rattle.syntax_tree.specs.declared.operators.Multiplicative.TheVariants as by
use Rattle.syntax_grammar.specs.Opened.{Opened}
use Rattle.syntax_grammar.specs.Expressions as reader
use Rattle.syntax_grammar.specs.Expressions.{part_kinds, multiplying_kinds, adding_kinds}
use Rattle.syntax_laws.proofs.Words.{Words}
use Rattle.syntax_laws.proofs.Lists.{parts_grow, parts_listed, multiplyings_grow, multiplyings_listed, addings_grow, addings_listed}
use Rattle.syntax_laws.proofs.Openings.{CallWords, RoundWords, SquareWords, Opening, part_sets, name_sets, primary_sets, factor_sets, multiplying_sets, term_sets, adding_sets, simple_sets, upper_sets}

module _ (limit depth : ℕ) (within : depth ≤ limit) (inner : Opened) (below : Opening limit depth inner) where
  one : (k : ℕ) → Rule limit (one_kind k) (Leaf depth k) (symbol k)
  one k = read limit depth within k

  -- ---- names

  call_words : (x : NamePart) (w : Word) → CallWords depth x w → Words spell.part depth x w
  call_words (Call b f m) w l = l
  call_words (Field at) w l = absurd l
  call_words (Attribute at) w l = absurd l
  call_words (RangeAttribute at) w l = absurd l

  abbrev PartCases : NamePart → Language
  PartCases =
      Or (Image Field (λ at. Quoted depth kind.point ⋅ Leaf depth kind.identifier at))
      (Or (Then (Leaf depth kind.tick) (λ _. Or (Image Attribute (Leaf depth kind.identifier)) (Image RangeAttribute (Leaf depth kind.range_word))))
      (CallWords depth))

  join_part : (x : NamePart) (w : Word) → PartCases x w → Words spell.part depth x w
  unfolding spell.expr
  join_part x w (inl (at, eq, l)) = from (Words spell.part depth) eq l
  join_part x w (inr (inl (n, u, v, e, i, inl (at, eq, j)))) = from (Words spell.part depth) eq (u, v, e, (n, i), j)
  join_part x w (inr (inl (n, u, v, e, i, inr (at, eq, j)))) = from (Words spell.part depth) eq (u, v, e, (n, i), j)
  join_part x w (inr (inr l)) = call_words x w l

  split_part : (x : NamePart) (w : Word) → Words spell.part depth x w → PartCases x w
  unfolding spell.expr
  split_part (Field at) w l = inl (at, refl, l)
  split_part (Attribute at) w (u, v, e, (n, i), j) = inr (inl (n, u, v, e, i, inl (at, refl, j)))
  split_part (RangeAttribute at) w (u, v, e, (n, i), j) = inr (inl (n, u, v, e, i, inr (at, refl, j)))
  split_part (Call b f m) w l = inr (inr l)

  rule_part : Rule limit part_sets (Words spell.part depth) (reader.part inner)
  unfolding reader.part
  rule_part =
      is part_sets (Words spell.part depth)
      (or (kind.point ∷ []) (skip (one kind.point) (to Field (one kind.identifier)) refl)
      (or (kind.tick ∷ [])
      (seq (one kind.tick) (λ _. or (kind.identifier ∷ []) (to Attribute (one kind.identifier)) (to RangeAttribute (one kind.range_word)).exact refl refl refl) refl)
      below.call.exact refl refl refl).exact refl refl refl)
      join_part split_part refl

  pub rule_name : Rule limit name_sets (Words spell.name' depth) (reader.name inner)
  unfolding reader.name spell.expr
  rule_name =
      is name_sets (Words spell.name' depth) (keep (one kind.identifier) (λ n. begun part_kinds (parts_listed depth) parts_grow rule_part refl refl refl refl (syntax.name n)) refl)
      (form (Words spell.name' depth) (λ b w l. l)) split refl where
        split : (x : Name) (w : Word) → Words spell.name' depth x w → Image (λ (b : ℕ × syntax.NameParts). syntax.name b.0 b.1) (λ b. Leaf depth kind.identifier b.0 ⋅ Words spell.parts depth b.1) x w
        split (syntax.name n ps) w l = ((n, ps), refl, l)

  -- ---- primaries and factors

  round_words : (x : Primary) (w : Word) → RoundWords depth x w → Words spell.primary depth x w
  round_words (Group b v) w l = l
  round_words (If b at c v m o) w l = l
  round_words (Round b m) w l = l
  round_words (Number n) w l = absurd l
  round_words (Text n) w l = absurd l
  round_words (Target n) w l = absurd l
  round_words (Named n) w l = absurd l
  round_words (Square b m) w l = absurd l
  round_words (OneValue b v) w l = absurd l
  round_words (Reduction b p at i v a f g) w l = absurd l

  square_words : (x : Primary) (w : Word) → SquareWords depth x w → Words spell.primary depth x w
  square_words (Square b m) w l = l
  square_words (OneValue b v) w l = l
  square_words (Reduction b p at i v a f g) w l = l
  square_words (Group b v) w l = absurd l
  square_words (If b at c v m o) w l = absurd l
  square_words (Round b m) w l = absurd l
  square_words (Number n) w l = absurd l
  square_words (Text n) w l = absurd l
  square_words (Target n) w l = absurd l
  square_words (Named n) w l = absurd l

  abbrev PrimaryCases : Primary → Language
  PrimaryCases =
      Or (Image Number (Leaf depth kind.numeral)) (Or (Image Text (Leaf depth kind.string)) (Or (Image Target (Leaf depth kind.target))
      (Or (Image Named (Words spell.name' depth)) (Or (RoundWords depth) (SquareWords depth)))))

  join_primary : (x : Primary) (w : Word) → PrimaryCases x w → Words spell.primary depth x w
  unfolding spell.expr
  join_primary =
      let W = Words spell.primary depth in
      either (form W (λ b w l. l)) (either (form W (λ b w l. l)) (either (form W (λ b w l. l)) (either (form W (λ b w l. l)) (either round_words square_words))))

  split_primary : (x : Primary) (w : Word) → Words spell.primary depth x w → PrimaryCases x w
  unfolding spell.expr
  split_primary (Number n) w l = inl (n, refl, l)
  split_primary (Text n) w l = inr (inl (n, refl, l))
  split_primary (Target n) w l = inr (inr (inl (n, refl, l)))
  split_primary (Named n) w l = inr (inr (inr (inl (n, refl, l))))
  split_primary (Group b v) w l = inr (inr (inr (inr (inl l))))
  split_primary (If b at c v m o) w l = inr (inr (inr (inr (inl l))))
  split_primary (Round b m) w l = inr (inr (inr (inr (inl l))))
  split_primary (Square b m) w l = inr (inr (inr (inr (inr l))))
  split_primary (OneValue b v) w l = inr (inr (inr (inr (inr l))))
  split_primary (Reduction b p at i v a f g) w l = inr (inr (inr (inr (inr l))))

  rule_primary : Rule limit primary_sets (Words spell.primary depth) (reader.primary inner)
  unfolding reader.primary
  rule_primary =
      is primary_sets (Words spell.primary depth)
      (or (kind.numeral ∷ []) (to Number (one kind.numeral))
      (or (kind.string ∷ []) (to Text (one kind.string))
      (or (kind.target ∷ []) (to Target (one kind.target))
      (or (kind.identifier ∷ []) (to Named rule_name)
      (or (kind.open_round ∷ []) below.round below.square.exact refl refl refl).exact refl refl refl).exact refl refl refl).exact refl refl refl).exact refl refl refl)
      join_primary split_primary refl

  abbrev FactorCases : Factor → Language
  FactorCases =
      Or (Image (λ (b : ℕ × Primary). Abs b.0 b.1) (λ b. Leaf depth kind.abs_word b.0 ⋅ Words spell.primary depth b.1))
      (Or (Image (λ (b : ℕ × Primary). Not b.0 b.1) (λ b. Leaf depth kind.not_word b.0 ⋅ Words spell.primary depth b.1))
      (Then (Words spell.primary depth) (λ base.
      Or (Image (λ (b : ℕ × Primary). Power base b.0 b.1) (λ b. Leaf depth kind.double_star b.0 ⋅ Words spell.primary depth b.1)) (Pure (Operand base)))))

  join_factor : (x : Factor) (w : Word) → FactorCases x w → Words spell.factor depth x w
  unfolding spell.expr
  join_factor x w (inl (b, eq, l)) = from (Words spell.factor depth) eq l
  join_factor x w (inr (inl (b, eq, l))) = from (Words spell.factor depth) eq l
  join_factor x w (inr (inr (base, u, v, e, l, inl (b, eq, m)))) = from (Words spell.factor depth) eq (u, v, e, l, m)
  join_factor x w (inr (inr (base, u, v, e, l, inr (eq, none)))) = from (Words spell.factor depth) eq (without_after {L = Words spell.primary depth base} (u, v, e, l, none))

  split_factor : (x : Factor) (w : Word) → Words spell.factor depth x w → FactorCases x w
  unfolding spell.expr
  split_factor (Abs at p) w l = inl ((at, p), refl, l)
  split_factor (Not at p) w l = inr (inl ((at, p), refl, l))
  split_factor (Power b at p) w (u, v, e, l, m) = inr (inr (b, u, v, e, l, inl ((at, p), refl, m)))
  split_factor (Operand b) w l = inr (inr (b, w, [], sym (append-nil w), l, inr (refl, refl)))

  rule_factor : Rule limit factor_sets (Words spell.factor depth) (reader.factor inner)
  unfolding reader.factor
  rule_factor =
      is factor_sets (Words spell.factor depth)
      (or (kind.abs_word ∷ []) (keep (one kind.abs_word) (λ at. to (Abs at) rule_primary) refl)
      (or (kind.not_word ∷ []) (keep (one kind.not_word) (λ at. to (Not at) rule_primary) refl)
      (seq rule_primary (λ base. or (kind.double_star ∷ []) (keep (one kind.double_star) (λ at. to (Power base at) rule_primary) refl) (give (Operand base)).exact refl refl refl) refl).exact refl refl refl).exact refl refl refl)
      join_factor split_factor refl

  -- ---- terms

  abbrev Operates : {B : Type 0} → ℕ → B → B × ℕ → Language
  Operates k c = Image (λ at. (c, at)) (Leaf depth k)

  operates : {B : Type 0} (k : ℕ) (c : B) → Rule limit (one_kind k) (Operates k c) ((λ at. (c, at)) <$> symbol k)
  operates k c = to (λ at. (c, at)) (one k)

  abbrev Times : Multiplicative × ℕ → Language
  Times o = Leaf depth (spell.multiplied_by o.0) o.1

  split_times : (x : Multiplicative × ℕ) (w : Word) → Times x w → Or (Operates kind.star by.Times) (Or (Operates kind.slash by.Over) (Or (Operates kind.mod_word by.Mod) (Operates kind.rem_word by.Rem))) x w
  split_times (by.Times, at) w l = inl (at, refl, l)
  split_times (by.Over, at) w l = inr (inl (at, refl, l))
  split_times (by.Mod, at) w l = inr (inr (inl (at, refl, l)))
  split_times (by.Rem, at) w l = inr (inr (inr (at, refl, l)))

  rule_times : Rule limit (record { first = multiplying_kinds; nullable = false; follow_last = [] }) Times reader.multiplying_operator
  unfolding reader.multiplying_operator
  rule_times =
      is _ Times
      (or (kind.star ∷ []) (operates kind.star by.Times) (or (kind.slash ∷ []) (operates kind.slash by.Over)
      (or (kind.mod_word ∷ []) (operates kind.mod_word by.Mod) (operates kind.rem_word by.Rem).exact refl refl refl).exact refl refl refl).exact refl refl refl)
      (either (form Times (λ b w l. l)) (either (form Times (λ b w l. l)) (either (form Times (λ b w l. l)) (form Times (λ b w l. l))))) split_times refl

  rule_multiplied : Rule limit multiplying_sets (Words spell.multiplying' depth) (reader.multiplied inner)
  unfolding reader.multiplied spell.expr
  rule_multiplied =
      is multiplying_sets (Words spell.multiplying' depth) (keep rule_times (λ o. to (syntax.multiplying o.0 o.1) rule_factor) refl)
      (form (Words spell.multiplying' depth) (λ b w l. l)) split refl where
        split : (x : Multiplying) (w : Word) → Words spell.multiplying' depth x w
            → Image (λ (b : (Multiplicative × ℕ) × Factor). syntax.multiplying b.0.0 b.0.1 b.1) (λ b. Times b.0 ⋅ Words spell.factor depth b.1) x w
        split (syntax.multiplying o at f) w l = (((o, at), f), refl, l)

  rule_term : Rule limit term_sets (Words spell.term depth) (reader.term inner)
  unfolding reader.term spell.expr
  rule_term =
      is term_sets (Words spell.term depth) (keep rule_factor (λ f. begun multiplying_kinds (multiplyings_listed depth) multiplyings_grow rule_multiplied refl refl refl refl (Product f)) refl)
      (form (Words spell.term depth) (λ b w l. l)) split refl where
        split : (x : Term) (w : Word) → Words spell.term depth x w → Image (λ (b : Factor × syntax.Multiplyings). Product b.0 b.1) (λ b. Words spell.factor depth b.0 ⋅ Words spell.multiplyings depth b.1) x w
        split (Product f ms) w l = ((f, ms), refl, l)

  -- ---- sums

  abbrev Adds : Additive × ℕ → Language
  Adds o = Leaf depth (spell.added_by o.0) o.1

  split_adds : (x : Additive × ℕ) (w : Word) → Adds x w → Or (Operates kind.plus additive.Plus) (Or (Operates kind.minus additive.Minus) (Operates kind.ampersand additive.Joined)) x w
  split_adds (additive.Plus, at) w l = inl (at, refl, l)
  split_adds (additive.Minus, at) w l = inr (inl (at, refl, l))
  split_adds (additive.Joined, at) w l = inr (inr (at, refl, l))

  rule_adds : Rule limit (record { first = adding_kinds; nullable = false; follow_last = [] }) Adds reader.adding_operator
  unfolding reader.adding_operator
  rule_adds =
      is _ Adds
      (or (kind.plus ∷ []) (operates kind.plus additive.Plus) (or (kind.minus ∷ []) (operates kind.minus additive.Minus) (operates kind.ampersand additive.Joined).exact refl refl refl).exact refl refl refl)
      (either (form Adds (λ b w l. l)) (either (form Adds (λ b w l. l)) (form Adds (λ b w l. l)))) split_adds refl

  rule_added : Rule limit adding_sets (Words spell.adding' depth) (reader.added inner)
  unfolding reader.added spell.expr
  rule_added =
      is adding_sets (Words spell.adding' depth) (keep rule_adds (λ o. to (syntax.adding o.0 o.1) rule_term) refl)
      (form (Words spell.adding' depth) (λ b w l. l)) split refl where
        split : (x : Adding) (w : Word) → Words spell.adding' depth x w → Image (λ (b : (Additive × ℕ) × Term). syntax.adding b.0.0 b.0.1 b.1) (λ b. Adds b.0 ⋅ Words spell.term depth b.1) x w
        split (syntax.adding o at t) w l = (((o, at), t), refl, l)

  rule_addings : Rule limit (record { first = adding_kinds; nullable = true; follow_last = term_sets.follow_last ++ adding_kinds }) (Words spell.addings depth) (reader.addings inner)
  unfolding reader.addings
  rule_addings = items adding_kinds (addings_listed depth) addings_grow rule_added refl refl refl refl

  split_sign : (x : Sign) (w : Word) → Words spell.signed depth x w → Or (Image sign'.Plus (Leaf depth kind.plus)) (Image sign'.Minus (Leaf depth kind.minus)) x w
  split_sign (sign'.Plus at) w l = inl (at, refl, l)
  split_sign (sign'.Minus at) w l = inr (at, refl, l)

  rule_sign : Rule limit (record { first = kind.plus ∷ kind.minus ∷ []; nullable = false; follow_last = [] }) (Words spell.signed depth) reader.sign
  unfolding reader.sign
  rule_sign =
      is _ (Words spell.signed depth) (or (kind.plus ∷ []) (to sign'.Plus (one kind.plus)) (to sign'.Minus (one kind.minus)).exact refl refl refl)
      (either (form (Words spell.signed depth) (λ b w l. l)) (form (Words spell.signed depth) (λ b w l. l))) split_sign refl

  abbrev SignedWords : Simple → Language
  SignedWords = Image (λ (b : Sign × (Term × Addings)). Sum (Some b.0) b.1.0 b.1.1) (λ b. Words spell.signed depth b.0 ⋅ (Words spell.term depth b.1.0 ⋅ Words spell.addings depth b.1.1))

  abbrev UnsignedWords : Simple → Language
  UnsignedWords = Image (λ (b : Term × Addings). Sum None b.0 b.1) (λ b. Words spell.term depth b.0 ⋅ Words spell.addings depth b.1)

  rule_signed : Rule limit (record { first = kind.plus ∷ kind.minus ∷ []; nullable = false; follow_last = simple_sets.follow_last }) SignedWords (reader.signed inner)
  unfolding reader.signed
  rule_signed = is _ SignedWords (keep rule_sign (λ s. keep rule_term (λ t. to (Sum (Some s) t) rule_addings) refl) refl) (λ x w l. l) (λ x w l. l) refl

  split_simple : (x : Simple) (w : Word) → Words spell.simple depth x w → Or SignedWords UnsignedWords x w
  unfolding spell.expr
  split_simple (Sum (Some s) t more) w l = inl ((s, (t, more)), refl, l)
  split_simple (Sum None t more) w l = inr ((t, more), refl, without_before l)

  pub rule_simple : Rule limit simple_sets (Words spell.simple depth) (reader.simple inner)
  unfolding reader.simple reader.addings spell.expr
  rule_simple =
      is simple_sets (Words spell.simple depth)
      (or (kind.plus ∷ kind.minus ∷ []) rule_signed
      (keep rule_term (λ t. begun adding_kinds (addings_listed depth) addings_grow rule_added refl refl refl refl (Sum None t)) refl).exact refl refl refl)
      (either (form (Words spell.simple depth) (λ b w l. l)) (form (Words spell.simple depth) (λ b w l. none_before l))) split_simple refl

  -- dots and a sum
  abbrev pub Upper : Simple → Language
  Upper high = Quoted depth kind.dots ⋅ Words spell.simple depth high

  pub rule_upper : Rule limit upper_sets Upper (reader.upper_bound inner)
  unfolding reader.upper_bound
  rule_upper = is upper_sets Upper (lead (one kind.dots) rule_simple refl) (λ x w l. l) (λ x w l. l) refl
