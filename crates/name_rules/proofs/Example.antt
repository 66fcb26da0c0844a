-- Programs by hand, their faults and a typed program.
use Rattle.std.proofs.Common.{◌≡◌, [], ◌∷◌, Option, Some, None, pos, negsuc, refl, true, option_map}
use Rattle.ada_base.specs.declared.operation.Base.TheVariants.{Narrow}
use Rattle.ada_base.specs.declared.operation.Op.TheVariants as op
use Rattle.syntax_tree.specs.Syntax as s
use Rattle.syntax_tree.specs.declared.operators.ClauseWord.TheVariants as word
use Rattle.syntax_tree.specs.declared.operators.ClauseWord.{ClauseWord}
use Rattle.syntax_tree.specs.declared.operators.Sign.TheVariants as sign
use Rattle.typed_tree.specs.Syntax as typed
use Rattle.typed_tree.specs.Syntax.{Stmts}
use Rattle.typed_tree.specs.declared.expressions.Root.TheVariants as root
use Rattle.typed_tree.specs.declared.scalars.Class.TheVariants as class
use Rattle.typed_tree.specs.declared.scalars.Scalar.{Scalar}
use Rattle.name_rules.specs.Resolved.{TypedOf}
use Rattle.name_rules.specs.declared.log.Rule.TheVariants as rule
use Rattle.name_rules.proofs.Opened.{all_rules}
use Rattle.name_rules.proofs.Written.{at, equal, faults, ident, name, names, num, one, plus, row, simple, term, tree, variable, whole}

-- X : Integer := 2; .. X := X + 3;
good : faults (tree (variable 10 20 (Some (whole (num 32))) ∷ []) (s.Assign (name 10) (plus (ident 10) 50 (num 33)))) ≡ []
unfolding all_rules faults
good = refl

-- X : Integer; .. X := Y;
unknown : faults (tree (variable 10 20 None ∷ []) (s.Assign (name 10) (whole (ident 11)))) ≡ at 11 rule.Unknown ∷ []
unfolding all_rules faults
unknown = refl

-- X : Integer := X;
hidden : faults (tree (variable 10 20 (Some (whole (ident 10))) ∷ []) (s.Null 60)) ≡ at 10 rule.NotVisible ∷ []
unfolding all_rules faults
hidden = refl

-- X : Boolean; .. X := X + 3;
wrong : faults (tree (variable 10 21 None ∷ []) (s.Assign (name 10) (plus (ident 10) 50 (num 33)))) ≡ at 50 rule.WrongType ∷ []
unfolding all_rules faults
wrong = refl

-- X : Integer := 3_000_000_000;
too_large : faults (tree (variable 10 20 (Some (whole (num 40))) ∷ []) (s.Null 60)) ≡ at 40 rule.StaticRange ∷ []
unfolding all_rules faults
too_large = refl

-- X : Integer; X : Integer;
twice : faults (tree (variable 10 20 None ∷ variable 10 20 None ∷ []) (s.Null 60)) ≡ at 10 rule.Twice ∷ []
unfolding all_rules faults
twice = refl

-- exit;
outside : faults (tree [] (s.Exit 60 None None)) ≡ at 60 rule.NotVisible ∷ []
unfolding all_rules faults
outside = refl

-- X : Integer; for Y in 1 .. 3 loop X := Y; end loop;
looped : faults (tree (variable 10 20 None ∷ []) (s.Loop None (Some (s.For None 61 (s.InRange 11 None (s.Bounded (simple (num 31)) (simple (num 33))) s.AbsentExpr))) 62 (one (s.Assign (name 10) (whole (ident 11)))) 63 None)) ≡ []
unfolding all_rules faults
looped = refl

-- for Y in 1 .. 3 loop Y := 1; end loop;
constant : faults (tree [] (s.Loop None (Some (s.For None 61 (s.InRange 11 None (s.Bounded (simple (num 31)) (simple (num 33))) s.AbsentExpr))) 62 (one (s.Assign (name 11) (whole (num 31)))) 63 None)) ≡ at 11 rule.WrongType ∷ []
unfolding all_rules faults
constant = refl

abbrev integer : Scalar
integer = record { class = class.Integer Narrow; low = negsuc 2147483647; high = pos 2147483647 }

unfoldable statements : s.Program → Option Stmts
statements t = option_map (λ p. p.body.stmts) (TypedOf names t)

-- X : Integer := 2; .. X := X + 3;
good_typed : statements (tree (variable 10 20 (Some (whole (num 32))) ∷ []) (s.Assign (name 10) (plus (ident 10) 50 (num 33))))
    ≡ Some (typed.Then (typed.Assign 10 (root.Object 0) typed.Whole
    (typed.Number (record { at = 9; scalar = integer })
    (typed.Binary 50 op.Add (class.Integer Narrow) (typed.Variable 10 (root.Object 0) typed.Whole integer) (typed.Static 33 (pos 3) true typed.NoExpr)))) typed.End)
unfolding all_rules faults statements
good_typed = refl

-- X : Integer; .. X := +X;
signed_typed : statements (tree (variable 10 20 None ∷ []) (s.Assign (name 10) (s.Single (s.Alone (s.Sum (Some (sign.Plus 50)) (term (ident 10)) s.NoAdding)))))
    ≡ Some (typed.Then (typed.Assign 10 (root.Object 0) typed.Whole
    (typed.Number (record { at = 49; scalar = integer })
    (typed.Group (typed.Variable 10 (root.Object 0) typed.Whole integer)))) typed.End)
unfolding all_rules faults statements
signed_typed = refl

-- X : Integer; X := (if X = 1 then 2 elsif X = 3 then X else 4);
chosen : faults (tree (variable 10 20 None ∷ []) (s.Assign (name 10) (whole (s.If 70 71 (equal (ident 10) 72 (num 31)) (whole (num 32)) (s.AlsoElsif (s.elsif 73 (equal (ident 10) 74 (num 33)) (whole (ident 10))) s.NoElsif) (whole (num 34)))))) ≡ []
unfolding all_rules faults
chosen = refl

-- X : Integer; X := (if X = 1 then 2 elsif X = 3 then X = 5 else 4);
mixed : faults (tree (variable 10 20 None ∷ []) (s.Assign (name 10) (whole (s.If 70 71 (equal (ident 10) 72 (num 31)) (whole (num 32)) (s.AlsoElsif (s.elsif 73 (equal (ident 10) 74 (num 33)) (equal (ident 10) 75 (num 35))) s.NoElsif) (whole (num 34)))))) ≡ at 34 rule.WrongType ∷ at 32 rule.WrongType ∷ []
unfolding all_rules faults
mixed = refl

abbrev clause : ClauseWord → s.Clause
clause w = record { at = 80; word = w; first = record { first = 23; more = 24 ∷ [] }; more = [] }

-- with Ada.Text_IO; use Ada.Text_IO; .. for Y in 1 .. 3 loop Put_Line (Y'Image); end loop;
imaged : faults (record (tree [] (s.Loop None (Some (s.For None 61 (s.InRange 11 None (s.Bounded (simple (num 31)) (simple (num 33))) s.AbsentExpr))) 62 (one (s.CallStmt (s.name 25 (s.AlsoPart (s.Call 64 (s.arg None (whole (s.Named (s.name 11 (s.AlsoPart (s.Attribute 26) s.NoPart))))) s.NoArg) s.NoPart)))) 63 None)) { clauses = clause word.With ∷ clause word.Use ∷ [] }) ≡ []
unfolding all_rules faults
imaged = refl

-- X : array (Natural range 0 .. -1) of Integer;
empty : faults (tree (row (s.Constrained (name 22) (simple (num 30)) (s.Sum (Some (sign.Minus 65)) (term (num 31)) s.NoAdding)) None ∷ []) (s.Null 60)) ≡ at 22 rule.StaticRange ∷ []
unfolding all_rules faults
empty = refl

-- Y : constant Integer := 3; X : array (1 .. (Y)) of Integer;
grouped : faults (tree (s.ObjectDecl (record { first = 11; more = [] }) (Some 67) (s.Indicated (s.Mark 20)) (Some (whole (num 33))) ∷ row (s.Bounded (simple (num 31)) (simple (s.Group 68 (whole (ident 11))))) None ∷ []) (s.Null 60)) ≡ []
unfolding all_rules faults
grouped = refl
