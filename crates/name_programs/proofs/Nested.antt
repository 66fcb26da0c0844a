-- The conditions and statements behind the first of an if statement, one after another.
use Rattle.std.proofs.Common.{◌≡◌, refl, ℕ, ◌<◌, true, false, arith}
use Rattle.typed_tree.specs.Decoded.{TypedPart, Cons, Nothing, LeafCons, AnExpr, ASelection, AnActual, AValue, AComposite, AnAssociation, AnIteration, AChunk, AReducer, ACheck, AScalar, APiece, ADecl, AStmt, AnAlternative, AHandler, ABody}
use Rattle.typed_tree.specs.Latest.{first_of, rest_of}
use Rattle.name_rules.specs.TypedParts.{nested_stmts}
use Rattle.name_programs.specs.Nested.{items_in, nested_once}
use Rattle.typed_parts.specs.Lists.{has_item}

pub nested_more : (p o : TypedPart) → has_item p ≡ true → nested_stmts p o ≡ nested_stmts (rest_of p) (nested_once (first_of p) o)
unfolding nested_stmts
nested_more (Cons p q) o e = refl
nested_more Nothing o e = absurd (cc)
nested_more (LeafCons l q) o e = absurd (cc)
nested_more (AnExpr x) o e = absurd (cc)
nested_more (ASelection x) o e = absurd (cc)
nested_more (AnActual x) o e = absurd (cc)
nested_more (AValue x) o e = absurd (cc)
nested_more (AComposite x) o e = absurd (cc)
nested_more (AnAssociation x) o e = absurd (cc)
nested_more (AnIteration x) o e = absurd (cc)
nested_more (AChunk x) o e = absurd (cc)
nested_more (AReducer x) o e = absurd (cc)
nested_more (ACheck x) o e = absurd (cc)
nested_more (AScalar x) o e = absurd (cc)
nested_more (APiece x) o e = absurd (cc)
nested_more (ADecl x) o e = absurd (cc)
nested_more (AStmt x) o e = absurd (cc)
nested_more (AnAlternative x) o e = absurd (cc)
nested_more (AHandler x) o e = absurd (cc)
nested_more (ABody x) o e = absurd (cc)

pub nested_none : (p o : TypedPart) → has_item p ≡ false → nested_stmts p o ≡ o
unfolding nested_stmts
nested_none (Cons p q) o e = absurd (cc)
nested_none Nothing o e = refl
nested_none (LeafCons l q) o e = refl
nested_none (AnExpr x) o e = refl
nested_none (ASelection x) o e = refl
nested_none (AnActual x) o e = refl
nested_none (AValue x) o e = refl
nested_none (AComposite x) o e = refl
nested_none (AnAssociation x) o e = refl
nested_none (AnIteration x) o e = refl
nested_none (AChunk x) o e = refl
nested_none (AReducer x) o e = refl
nested_none (ACheck x) o e = refl
nested_none (AScalar x) o e = refl
nested_none (APiece x) o e = refl
nested_none (ADecl x) o e = refl
nested_none (AStmt x) o e = refl
nested_none (AnAlternative x) o e = refl
nested_none (AHandler x) o e = refl
nested_none (ABody x) o e = refl

pub nested_less : (p : TypedPart) → has_item p ≡ true → items_in (rest_of p) < items_in p
nested_less (Cons p q) e = omega arith
nested_less Nothing e = absurd (cc)
nested_less (LeafCons l q) e = absurd (cc)
nested_less (AnExpr x) e = absurd (cc)
nested_less (ASelection x) e = absurd (cc)
nested_less (AnActual x) e = absurd (cc)
nested_less (AValue x) e = absurd (cc)
nested_less (AComposite x) e = absurd (cc)
nested_less (AnAssociation x) e = absurd (cc)
nested_less (AnIteration x) e = absurd (cc)
nested_less (AChunk x) e = absurd (cc)
nested_less (AReducer x) e = absurd (cc)
nested_less (ACheck x) e = absurd (cc)
nested_less (AScalar x) e = absurd (cc)
nested_less (APiece x) e = absurd (cc)
nested_less (ADecl x) e = absurd (cc)
nested_less (AStmt x) e = absurd (cc)
nested_less (AnAlternative x) e = absurd (cc)
nested_less (AHandler x) e = absurd (cc)
nested_less (ABody x) e = absurd (cc)
