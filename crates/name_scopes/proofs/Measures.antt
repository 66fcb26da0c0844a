-- What is counted of what is judged: what the parts of the typed program that it holds count for, and whether those of them that
-- wait for the rest of a list add what they hold to the rest.
use Rattle.std.proofs.Common.{List, None, Option, Some, [], ℕ, ◌+◌, ◌∷◌, ◌≤◌}
use Rattle.typed_tree.specs.Decoded.{TypedPart, Cons, LeafCons, AnExpr, ASelection, AnActual, AValue, AComposite, AnAssociation, AnIteration, AChunk, APiece, ADecl, AStmt, AnAlternative, AHandler, ABody}
use Rattle.typed_tree.specs.Syntax.{Actuals, Alternatives, Associations, Decls, Handlers, NoActual, NoAlternative, NoAssociation, NoDecl, NoHandler, NoPiece, Pieces, Selections, Whole}
use Rattle.name_rules.specs.Found.{With}
use Rattle.name_scopes.proofs.Tallies.{Tally, in_actuals, in_alternatives, in_associations, in_body, in_chunk, in_composite, in_decls, in_expr, in_handlers, in_iteration, in_pieces, in_selections, in_stmt, in_value}

abbrev pub part-size : Tally → TypedPart → ℕ
part-size s (Cons p q) = part-size s p + part-size s q
part-size s (LeafCons l q) = part-size s q
part-size s (AnExpr e) = in_expr s e
part-size s (ASelection f) = in_selections s (f Whole)
part-size s (AnActual f) = in_actuals s (f NoActual)
part-size s (AValue v) = in_value s v
part-size s (AComposite c) = in_composite s c
part-size s (AnAssociation f) = in_associations s (f NoAssociation)
part-size s (AnIteration i) = in_iteration s i
part-size s (AChunk c) = in_chunk s c
part-size s (APiece f) = in_pieces s (f NoPiece)
part-size s (ADecl f) = in_decls s (f NoDecl)
part-size s (AStmt t) = in_stmt s t
part-size s (AnAlternative f) = in_alternatives s (f NoAlternative)
part-size s (AHandler f) = in_handlers s (f NoHandler)
part-size s (ABody b) = in_body s b
part-size s p = 0

-- what waits for the rest of a list adds what it holds to the rest
abbrev pub Formed : Tally → TypedPart → Type 0
Formed s (Cons p q) = Formed s p × Formed s q
Formed s (LeafCons l q) = Formed s q
Formed s (ASelection f) = (r : Selections) → in_selections s (f r) ≤ in_selections s (f Whole) + in_selections s r
Formed s (AnActual f) = (r : Actuals) → in_actuals s (f r) ≤ in_actuals s (f NoActual) + in_actuals s r
Formed s (AnAssociation f) = (r : Associations) → in_associations s (f r) ≤ in_associations s (f NoAssociation) + in_associations s r
Formed s (APiece f) = (r : Pieces) → in_pieces s (f r) ≤ in_pieces s (f NoPiece) + in_pieces s r
Formed s (ADecl f) = (r : Decls) → in_decls s (f r) ≤ in_decls s (f NoDecl) + in_decls s r
Formed s (AnAlternative f) = (r : Alternatives) → in_alternatives s (f r) ≤ in_alternatives s (f NoAlternative) + in_alternatives s r
Formed s (AHandler f) = (r : Handlers) → in_handlers s (f r) ≤ in_handlers s (f NoHandler) + in_handlers s r
Formed s p = Unit {0}

-- how what is judged is counted, and what it must be for that
pub record Measure (A : Type 0) : Type 1 where
  pub size : A → ℕ
  pub Whole : A → Type 0

abbrev pub part-measure : Tally → Measure TypedPart
part-measure s = record { size = λ p. part-size s p; Whole = λ p. Formed s p }

abbrev pub with-part : {K : Type 0} → Tally → Measure (With K)
with-part s = record { size = λ f. part-size s f.part; Whole = λ f. Formed s f.part }

abbrev pub option-size : {A : Type 0} → Measure A → Option A → ℕ
option-size m None = 0
option-size m (Some a) = m.size a

abbrev pub OptionWhole : {A : Type 0} → Measure A → Option A → Type 0
OptionWhole m None = Unit {0}
OptionWhole m (Some a) = m.Whole a

abbrev pub option-of : {A : Type 0} → Measure A → Measure (Option A)
option-of m = record { size = λ x. option-size m x; Whole = λ x. OptionWhole m x }

abbrev pub maybe-part : Tally → Measure (Option TypedPart)
maybe-part s = option-of (part-measure s)

abbrev pub maybe-known : {K : Type 0} → Tally → Measure (Option (With K))
maybe-known s = option-of (with-part s)

abbrev pub list-size : {A : Type 0} → Measure A → List A → ℕ
list-size m [] = 0
list-size m (a ∷ as') = m.size a + list-size m as'

abbrev pub ListWhole : {A : Type 0} → Measure A → List A → Type 0
ListWhole m [] = Unit {0}
ListWhole m (a ∷ as') = m.Whole a × ListWhole m as'

abbrev pub list-of : {A : Type 0} → Measure A → Measure (List A)
list-of m = record { size = λ xs. list-size m xs; Whole = λ xs. ListWhole m xs }

abbrev pub pair-of : {A B : Type 0} → Measure A → Measure B → Measure (A × B)
pair-of m n = record { size = λ p. m.size p.0 + n.size p.1; Whole = λ p. m.Whole p.0 × n.Whole p.1 }

abbrev pub first-of : {A B : Type 0} → Measure A → Measure (A × B)
first-of m = record { size = λ p. m.size p.0; Whole = λ p. m.Whole p.0 }

abbrev pub second-of : {A B : Type 0} → Measure B → Measure (A × B)
second-of m = record { size = λ p. m.size p.1; Whole = λ p. m.Whole p.1 }

abbrev pub counted-by : {A : Type 0} → (A → ℕ) → Measure A
counted-by f = record { size = λ a. f a; Whole = λ a. Unit {0} }

abbrev pub no-part : {A : Type 0} → Measure A
no-part = record { size = λ a. 0; Whole = λ a. Unit {0} }
