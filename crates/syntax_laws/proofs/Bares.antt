-- What a sum without operators, signs and brackets spells is its name, or its identifier.
use Rattle.std.proofs.Common.{◌≡◌, ℕ, Option, Some, None, refl, ap, ◌∙◌, subst}
use Rattle.ada_base.specs.Symbols.{Word}
use Rattle.ada_base.specs.Languages.{Leaf}
use Rattle.syntax_readers.proofs.Forms.{none_before, without_before, none_after, without_after}
use Rattle.ada_base.specs.Kinds as kind
use Rattle.syntax_tree.specs.Syntax as syntax
use Rattle.syntax_tree.specs.Syntax.{Expr, Single, Joined, Alone, Compared, Within, OfMark, Simple, Sum, NoAdding, AlsoAdding, Product, NoMultiplying, AlsoMultiplying, Operand, Power, Abs, Not, Number, Text, Target, Named, Group, If, Round, Square, OneValue, Reduction, Name, NoPart, AlsoPart}
use Rattle.syntax_tree.specs.Productions as spell
use Rattle.syntax_tree.specs.Joining.{bare_name, bare_identifier, identifier_of, name_identifier, expr_identifier}
use Rattle.syntax_laws.proofs.Words.{Words}

pub some_is : {A : Type 0} (a b : A) → Some a ≡ Some b → a ≡ b
some_is a b e = cc

pub none_is : {A X : Type 0} (b : A) → None ≡ Some b → X
none_is b e = absurd (no e) where
  no : None ≡ Some b → ⊥
  no q = cc

-- a name as a sum, and an identifier as a name and as an expression
abbrev pub sum_of : Name → Simple
sum_of n = Sum None (Product (Operand (Named n)) NoMultiplying) NoAdding

abbrev pub name_for : ℕ → Name
name_for n = syntax.name n NoPart

abbrev pub expr_for : ℕ → Expr
expr_for n = Single (Alone (sum_of (name_for n)))

pub bare_view : (s : Simple) (n : Name) → bare_name s ≡ Some n → s ≡ sum_of n
unfolding bare_name
bare_view (Sum None (Product (Operand (Named m)) NoMultiplying) NoAdding) n h = ap sum_of (some_is m n h)
bare_view (Sum None (Product (Operand (Number _)) NoMultiplying) NoAdding) n h = none_is n h
bare_view (Sum None (Product (Operand (Text _)) NoMultiplying) NoAdding) n h = none_is n h
bare_view (Sum None (Product (Operand (Target _)) NoMultiplying) NoAdding) n h = none_is n h
bare_view (Sum None (Product (Operand (Group _ _)) NoMultiplying) NoAdding) n h = none_is n h
bare_view (Sum None (Product (Operand (If _ _ _ _ _ _)) NoMultiplying) NoAdding) n h = none_is n h
bare_view (Sum None (Product (Operand (Round _ _)) NoMultiplying) NoAdding) n h = none_is n h
bare_view (Sum None (Product (Operand (Square _ _)) NoMultiplying) NoAdding) n h = none_is n h
bare_view (Sum None (Product (Operand (OneValue _ _)) NoMultiplying) NoAdding) n h = none_is n h
bare_view (Sum None (Product (Operand (Reduction _ _ _ _ _ _ _ _)) NoMultiplying) NoAdding) n h = none_is n h
bare_view (Sum None (Product (Power _ _ _) NoMultiplying) NoAdding) n h = none_is n h
bare_view (Sum None (Product (Abs _ _) NoMultiplying) NoAdding) n h = none_is n h
bare_view (Sum None (Product (Not _ _) NoMultiplying) NoAdding) n h = none_is n h
bare_view (Sum None (Product _ (AlsoMultiplying _ _)) NoAdding) n h = none_is n h
bare_view (Sum None _ (AlsoAdding _ _)) n h = none_is n h
bare_view (Sum (Some _) _ _) n h = none_is n h

pub name_view : (m : Name) (n : ℕ) → name_identifier m ≡ Some n → m ≡ name_for n
name_view (syntax.name m NoPart) n h = ap name_for (some_is m n h)
name_view (syntax.name m (AlsoPart _ _)) n h = none_is n h

pub identifier_view : (s : Simple) (n : ℕ) → bare_identifier s ≡ Some n → s ≡ sum_of (name_for n)
unfolding bare_identifier
identifier_view s n h = by (bare_name s) refl h where
  by : (o : Option Name) → bare_name s ≡ o → identifier_of o ≡ Some n → s ≡ sum_of (name_for n)
  by (Some m) e h = bare_view s m e ∙ ap sum_of (name_view m n h)
  by None e h = none_is n h

pub expr_view : (e : Expr) (n : ℕ) → expr_identifier e ≡ Some n → e ≡ expr_for n
unfolding expr_identifier
expr_view (Single (Alone s)) n h = ap (λ z. Single (Alone z)) (identifier_view s n h)
expr_view (Single (Compared _ _ _ _)) n h = none_is n h
expr_view (Single (Within _ _ _ _ _)) n h = none_is n h
expr_view (Single (OfMark _ _ _ _)) n h = none_is n h
expr_view (Joined _ _ _ _ _) n h = none_is n h

pub bare_sum : (n : Name) → bare_name (sum_of n) ≡ Some n
unfolding bare_name
bare_sum n = refl

pub identifier_sum : (n : ℕ) → bare_identifier (sum_of (name_for n)) ≡ Some n
unfolding bare_identifier bare_name
identifier_sum n = refl

pub identifier_expr : (n : ℕ) → expr_identifier (expr_for n) ≡ Some n
unfolding expr_identifier bare_identifier bare_name
identifier_expr n = refl

module _ (d : ℕ) where
  -- a sum that is a name spells that name
  pub sum_words : (n : Name) (w : Word) → Words spell.name' d n w → Words spell.simple d (sum_of n) w
  unfolding spell.expr
  sum_words n w l = none_before (none_after (none_after l))

  pub words_of_sum : (n : Name) (w : Word) → Words spell.simple d (sum_of n) w → Words spell.name' d n w
  unfolding spell.expr
  words_of_sum n w l = without_after (without_after (without_before l))

  pub name_words : (s : Simple) (n : Name) (w : Word) → bare_name s ≡ Some n → Words spell.simple d s w → Words spell.name' d n w
  name_words s n w h l = words_of_sum n w (subst (λ z. Words spell.simple d z w) (bare_view s n h) l)

  pub identifier_alone : (n : ℕ) (w : Word) → Words spell.name' d (name_for n) w → Leaf d kind.identifier n w
  unfolding spell.expr
  identifier_alone n w l = without_after l

  pub alone_identifier : (n : ℕ) (w : Word) → Leaf d kind.identifier n w → Words spell.name' d (name_for n) w
  unfolding spell.expr
  alone_identifier n w l = none_after l

  pub identifier_words : (s : Simple) (n : ℕ) (w : Word) → bare_identifier s ≡ Some n → Words spell.simple d s w → Leaf d kind.identifier n w
  identifier_words s n w h l = identifier_alone n w (words_of_sum (name_for n) w (subst (λ z. Words spell.simple d z w) (identifier_view s n h) l))

  pub words_identifier : (n : ℕ) (w : Word) → Leaf d kind.identifier n w → Words spell.simple d (sum_of (name_for n)) w
  words_identifier n w l = sum_words (name_for n) w (alone_identifier n w l)

  pub expr_words : (e : Expr) (n : ℕ) (w : Word) → expr_identifier e ≡ Some n → Words spell.expr d e w → Leaf d kind.identifier n w
  unfolding spell.expr
  expr_words e n w h l = identifier_words (sum_of (name_for n)) n w (identifier_sum n) (subst (λ z. Words spell.expr d z w) (expr_view e n h) l)

  pub words_expr : (n : ℕ) (w : Word) → Leaf d kind.identifier n w → Words spell.expr d (expr_for n) w
  unfolding spell.expr
  words_expr n w l = words_identifier n w l
