-- What a declaration mentions is elaborated where it is any.
use Rattle.std.proofs.Common.{◌≡◌, refl, true, false}
use Rattle.typed_tree.specs.Decoded.{TypedPart, Nothing, Cons, LeafCons, AnExpr, ASelection, AnActual, AValue, AComposite, AnAssociation, AnIteration, AChunk, AReducer, ACheck, AScalar, APiece, ADecl, AStmt, AnAlternative, AHandler, ABody}
use Rattle.typed_tree.specs.Syntax as typed
use Rattle.typed_tree.specs.Latest.{turned}
use Rattle.name_rules.specs.Declarations.{with_mentions}
use Rattle.name_rules.specs.TypedParts.{also, also_all, exprs_of}
use Rattle.typed_parts.specs.Looks.{is_nothing}

pub also_none : (p : TypedPart) → also_all p Nothing ≡ p
unfolding also_all turned
also_none p = refl

pub unmentioned : (done p : TypedPart) → is_nothing p ≡ true → with_mentions done p ≡ done
unmentioned done Nothing e = refl
unmentioned done (Cons a b) e = absurd (cc)
unmentioned done (LeafCons a b) e = absurd (cc)
unmentioned done (AnExpr a) e = absurd (cc)
unmentioned done (ASelection a) e = absurd (cc)
unmentioned done (AnActual a) e = absurd (cc)
unmentioned done (AValue a) e = absurd (cc)
unmentioned done (AComposite a) e = absurd (cc)
unmentioned done (AnAssociation a) e = absurd (cc)
unmentioned done (AnIteration a) e = absurd (cc)
unmentioned done (AChunk a) e = absurd (cc)
unmentioned done (AReducer a) e = absurd (cc)
unmentioned done (ACheck a) e = absurd (cc)
unmentioned done (AScalar a) e = absurd (cc)
unmentioned done (APiece a) e = absurd (cc)
unmentioned done (ADecl a) e = absurd (cc)
unmentioned done (AStmt a) e = absurd (cc)
unmentioned done (AnAlternative a) e = absurd (cc)
unmentioned done (AHandler a) e = absurd (cc)
unmentioned done (ABody a) e = absurd (cc)

pub mentioned : (done p : TypedPart) → is_nothing p ≡ false → with_mentions done p ≡ also done (ADecl (typed.Mentions (exprs_of p)))
mentioned done Nothing e = absurd (cc)
mentioned done (Cons a b) e = refl
mentioned done (LeafCons a b) e = refl
mentioned done (AnExpr a) e = refl
mentioned done (ASelection a) e = refl
mentioned done (AnActual a) e = refl
mentioned done (AValue a) e = refl
mentioned done (AComposite a) e = refl
mentioned done (AnAssociation a) e = refl
mentioned done (AnIteration a) e = refl
mentioned done (AChunk a) e = refl
mentioned done (AReducer a) e = refl
mentioned done (ACheck a) e = refl
mentioned done (AScalar a) e = refl
mentioned done (APiece a) e = refl
mentioned done (ADecl a) e = refl
mentioned done (AStmt a) e = refl
mentioned done (AnAlternative a) e = refl
mentioned done (AHandler a) e = refl
mentioned done (ABody a) e = refl
