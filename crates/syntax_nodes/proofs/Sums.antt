-- What is an identifier as an expression is so as a sum.
use Rattle.std.proofs.Common.{◌≡◌, refl, sym, subst, ℕ, zero, suc, ◌+◌, List, Option, Some, None, arith}
use Rattle.std.specs.Prelude.{slice_get}
use Rattle.syntax_tree.specs.Joining.{bare_identifier, bare_name, expr_identifier}
use Rattle.syntax_nodes.specs.Parts.{TreePart, Nothing, the_expr, the_simple}
use Rattle.syntax_nodes.specs.Tables.{part_at, of_node}
use Rattle.syntax_nodes.specs.Rooted.{Fit}
use Rattle.syntax_nodes.proofs.Reading.{part_zero, part_read, part_none}
use Rattle.syntax_nodes.specs.declared.nodes.Node.{Node}
use Rattle.syntax_nodes.specs.declared.nodes.Node.TheVariants as node
use Rattle.syntax_nodes.specs.declared.nodes.Leaf.TheVariants as leaf
use Rattle.syntax_nodes.specs.declared.nodes.One.TheVariants as one
use Rattle.syntax_nodes.specs.declared.nodes.Two.TheVariants as two
use Rattle.syntax_nodes.specs.declared.nodes.Three.TheVariants as three
use Rattle.syntax_nodes.specs.declared.nodes.Four.TheVariants as four

abbrev IsSame : TreePart → Type 0
IsSame p = expr_identifier (the_expr p) ≡ bare_identifier (the_simple p)

same_node : (at : ℕ → TreePart) (n : Node) → IsSame (of_node at n)
unfolding bare_identifier bare_name expr_identifier
same_node at node.Nothing = refl
same_node at (node.Also k b a) = refl
same_node at (node.Cell a rest) = refl
same_node at (node.Leaf (leaf.Token _)) = refl
same_node at (node.Leaf (leaf.Number _)) = refl
same_node at (node.Leaf (leaf.Text _)) = refl
same_node at (node.Leaf (leaf.Target _)) = refl
same_node at (node.Leaf (leaf.Identifier _)) = refl
same_node at (node.Leaf (leaf.Field _)) = refl
same_node at (node.Leaf (leaf.Attribute _)) = refl
same_node at (node.Leaf (leaf.RangeAttribute _)) = refl
same_node at (node.Leaf (leaf.Others _)) = refl
same_node at (node.Leaf (leaf.Unchunked _)) = refl
same_node at (node.Leaf (leaf.Mark _)) = refl
same_node at (node.Leaf (leaf.AnyOther _)) = refl
same_node at (node.Leaf (leaf.Null _)) = refl
same_node at (node.Leaf (leaf.Aspect _ _ _)) = refl
same_node at (node.Leaf (leaf.Policy _ _ _)) = refl
same_node at (node.One (one.Conjunct _) a) = refl
same_node at (node.One (one.OfMark _ _ _) a) = refl
same_node at (node.One (one.Adding _ _) a) = refl
same_node at (node.One (one.Multiplying _ _) a) = refl
same_node at (node.One (one.Abs _) a) = refl
same_node at (node.One (one.Not _) a) = refl
same_node at (node.One (one.Group _) a) = refl
same_node at (node.One (one.Round _) a) = refl
same_node at (node.One (one.Square _) a) = refl
same_node at (node.One (one.OneValue _) a) = refl
same_node at (node.One (one.Name _) a) = refl
same_node at (node.One (one.NamedArg _) a) = refl
same_node at (node.One (one.Counted _) a) = refl
same_node at (node.One (one.Chunked _ _) a) = refl
same_node at (node.One (one.Ids _) a) = refl
same_node at (node.One one.ExceptionDecl a) = refl
same_node at (node.One (one.TypeDecl _ _) a) = refl
same_node at (node.One (one.SubtypeDecl _ _) a) = refl
same_node at (node.One (one.Formal _ _) a) = refl
same_node at (node.One (one.Pack _) a) = refl
same_node at (node.One (one.Declare _) a) = refl
same_node at (node.One (one.While _) a) = refl
same_node at (node.One one.CallStmt a) = refl
same_node at (node.One (one.Exit _ _) a) = refl
same_node at (node.One (one.Return _) a) = refl
same_node at (node.One one.ModularType a) = refl
same_node at (node.One (one.Raise _) a) = refl
same_node at (node.One (one.Bracketed _) a) = refl
same_node at (node.Two (two.Compared _ _) b a) = refl
same_node at (node.Two (two.Sum _) b a) = refl
same_node at (node.Two two.Product b a) = refl
same_node at (node.Two (two.Power _) b a) = refl
same_node at (node.Two (two.Elsif _) b a) = refl
same_node at (node.Two (two.Call _) b a) = refl
same_node at (node.Two two.Bounded b a) = refl
same_node at (node.Two two.Span b a) = refl
same_node at (node.Two (two.FirstOthers _) b a) = refl
same_node at (node.Two two.Associations b a) = refl
same_node at (node.Two (two.Each _ _) b a) = refl
same_node at (node.Two (two.InRange _ _) b a) = refl
same_node at (node.Two (two.OfName _) b a) = refl
same_node at (node.Two (two.RangeMark _) b a) = refl
same_node at (node.Two two.Comp b a) = refl
same_node at (node.Two two.RangeType b a) = refl
same_node at (node.Two two.RecordType b a) = refl
same_node at (node.Two (two.NumberDecl _) b a) = refl
same_node at (node.Two (two.Formals _) b a) = refl
same_node at (node.Two (two.For _) b a) = refl
same_node at (node.Two two.These b a) = refl
same_node at (node.Two two.Assign b a) = refl
same_node at (node.Two (two.Block _) b a) = refl
same_node at (node.Two two.Stmts b a) = refl
same_node at (node.Two (two.Arm _) b a) = refl
same_node at (node.Two two.Body b a) = refl
same_node at (node.Two (two.Handler _) b a) = refl
same_node at (node.Two (two.Implementation _) b a) = refl
same_node at (node.Two (two.Clause _ _) b a) = refl
same_node at (node.Three (three.Joined _ _) c b a) = refl
same_node at (node.Three (three.Within _ _) c b a) = refl
same_node at (node.Three (three.Values _) c b a) = refl
same_node at (node.Three (three.Reduction _ _) c b a) = refl
same_node at (node.Three three.Constrained c b a) = refl
same_node at (node.Three three.Positions c b a) = refl
same_node at (node.Three three.Chosen c b a) = refl
same_node at (node.Three (three.Array _) c b a) = refl
same_node at (node.Three (three.ObjectDecl _) c b a) = refl
same_node at (node.Three (three.Case _) c b a) = refl
same_node at (node.Three (three.Alt _) c b a) = refl
same_node at (node.Three (three.Procedure _ _) c b a) = refl
same_node at (node.Three (three.Function _ _ _) c b a) = refl
same_node at (node.Three (three.ExprFunction _ _ _) c b a) = refl
same_node at (node.Three three.Program c b a) = refl
same_node at (node.Four (four.If _ _) d c b a) = refl
same_node at (node.Four (four.PositionsOthers _) d c b a) = refl
same_node at (node.Four (four.IfStmt _) d c b a) = refl
same_node at (node.Four (four.Loop _ _) d c b a) = refl
same_node at (node.Four (four.ParallelBlock _) d c b a) = refl
same_node at (node.Four (four.Main _ _) d c b a) = refl

same_nothing : IsSame Nothing
unfolding bare_identifier bare_name expr_identifier
same_nothing = refl

same_at : (ns : List Node) (rs : List ℕ) (k : ℕ) (o : Option Node) → slice_get ns k ≡ o → Fit ns rs → IsSame (part_at ns (suc k))
same_at ns rs k (Some n) e f = let z : k + 1 ≡ suc k = omega arith in subst (λ x. IsSame (part_at ns x)) z (subst IsSame (sym (part_read ns k n f.ordered e)) (same_node (part_at ns) n))
same_at ns rs k None e f = let z : k + 1 ≡ suc k = omega arith in subst (λ x. IsSame (part_at ns x)) z (subst IsSame (sym (part_none ns k e)) same_nothing)

pub same_identifier : (ns : List Node) (rs : List ℕ) (k : ℕ) → Fit ns rs → expr_identifier (the_expr (part_at ns k)) ≡ bare_identifier (the_simple (part_at ns k))
same_identifier ns rs zero f = subst IsSame (sym (part_zero ns)) same_nothing
same_identifier ns rs (suc k) f = same_at ns rs k (slice_get ns k) refl f
