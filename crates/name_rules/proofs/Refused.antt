-- What programs by hand may not do: a rule is broken at a token, and beside it stands the program that just keeps the rule.
use Rattle.std.proofs.Common.{◌≡◌, ℕ, [], ◌∷◌, None, Some, refl}
use Rattle.syntax_tree.specs.Syntax as s
use Rattle.syntax_tree.specs.declared.operators.Mode.TheVariants as mode
use Rattle.name_rules.specs.declared.log.Rule.TheVariants as rule
use Rattle.name_rules.proofs.Opened.{all_rules}
use Rattle.name_rules.proofs.Written.{at, equal, faults, ident, name, num, one, row, simple, span, tree, variable, whole}

-- ---- a name stands for the declaration that hides the others (8.3)

abbrev within : s.Decl → s.Stmt → s.Stmt
within d t = s.Block (Some (record { at = 71; decls = d ∷ [] })) 72 (s.body (one t) s.NoHandler)

-- X : Integer; .. declare X : Boolean; begin X := True; end;
inner : faults (tree (variable 10 20 None ∷ []) (within (variable 10 21 None) (s.Assign (name 10) (whole (ident 19))))) ≡ []
unfolding all_rules faults
inner = refl

-- X : Boolean; .. declare X : Integer; begin X := True; end;
outer : faults (tree (variable 10 21 None ∷ []) (within (variable 10 20 None) (s.Assign (name 10) (whole (ident 19))))) ≡ at 19 rule.WrongType ∷ []
unfolding all_rules faults
outer = refl

-- ---- each value of the selecting subtype is covered (5.4)

-- X : Integer range 1 .. 3;
abbrev small : s.Decl
small = s.ObjectDecl (record { first = 10; more = [] }) None (s.Indicated (s.RangeMark 20 (simple (num 31)) (simple (num 33)))) None

-- case X is when one => null; when other => null; end case;
abbrev select : s.Choice → s.Choice → s.Stmt
select one other = s.Case 73 (whole (ident 10)) (s.alt 74 one [] (s.stmts (s.Null 75) s.NoStmt)) (s.AlsoAlt (s.alt 76 other [] (s.stmts (s.Null 77) s.NoStmt)) s.NoAlt)

-- when 1, when 3
left_open : faults (tree (small ∷ []) (select (s.Value (simple (num 31))) (s.Value (simple (num 33))))) ≡ at 73 rule.StaticRange ∷ []
unfolding all_rules faults
left_open = refl

-- when 1 .. 2, when 3
all_covered : faults (tree (small ∷ []) (select (s.Span (simple (num 31)) (simple (num 32))) (s.Value (simple (num 33))))) ≡ []
unfolding all_rules faults
all_covered = refl

-- ---- a component of a record is given once (4.3.1)

-- type T is record F, G : Integer; end record;
abbrev fields : s.Decl
fields = s.TypeDecl 78 13 (s.RecordType (record { names = record { first = 15; more = 16 ∷ [] }; component = s.Mark 20 }) [])

abbrev given : ℕ → ℕ → s.Assoc
given component value = s.Chosen (s.Value (simple (ident component))) s.NoChoice (whole (num value))

-- X : T := (F => 1, F => 2, G => 3);
field_twice : faults (tree (fields ∷ variable 10 13 (Some (whole (s.Round 79 (s.Associations (given 15 31) (s.AlsoAssoc (given 27 32) (s.AlsoAssoc (given 16 33) s.NoAssoc)))))) ∷ []) (s.Null 60)) ≡ at 27 rule.Twice ∷ []
unfolding all_rules faults
field_twice = refl

-- X : T := (F => 1, G => 3);
field_once : faults (tree (fields ∷ variable 10 13 (Some (whole (s.Round 79 (s.Associations (given 15 31) (s.AlsoAssoc (given 16 33) s.NoAssoc))))) ∷ []) (s.Null 60)) ≡ []
unfolding all_rules faults
field_once = refl

-- ---- a component of an array is given once (4.3.3)

abbrev indexed : ℕ → ℕ → s.Assoc
indexed index value = s.Chosen (s.Value (simple (num index))) s.NoChoice (whole (num value))

-- X : array (1 .. 2) of Integer := (1 => 5, 2 => 6, 1 => 7);
index_twice : faults (tree (row (span 31 32) (Some (whole (s.Round 79 (s.Associations (indexed 31 35) (s.AlsoAssoc (indexed 32 36) (s.AlsoAssoc (indexed 31 37) s.NoAssoc)))))) ∷ []) (s.Null 60)) ≡ at 79 rule.StaticRange ∷ []
unfolding all_rules faults
index_twice = refl

-- X : array (1 .. 2) of Integer := (2 => 6, 1 => 7);
index_once : faults (tree (row (span 31 32) (Some (whole (s.Round 79 (s.Associations (indexed 32 36) (s.AlsoAssoc (indexed 31 37) s.NoAssoc))))) ∷ []) (s.Null 60)) ≡ []
unfolding all_rules faults
index_once = refl

-- ---- the actual of an `out` parameter is a variable (6.4.1)

-- procedure P (A : out Integer) is begin null; end P;
abbrev giving : s.Unit'
giving = s.SubUnit (s.Procedure 61 17 (Some (record { bracket = 62; first = record { names = record { first = 18; more = [] }; mode = Some (mode.Out 63); mark = 20 }; more = [] })) None [] (s.body (one (s.Null 64)) s.NoHandler) (Some 17))

-- .. begin P (X); end;
abbrev calling : s.Decl → s.Program
calling d = record { policy = None; clauses = []; main = record { at = 0; defined = 1; aspect = None; units = giving ∷ s.DeclUnit d ∷ []; body = s.body (one (s.CallStmt (s.name 17 (s.AlsoPart (s.Call 65 (s.arg None (whole (ident 10))) s.NoArg) s.NoPart)))) s.NoHandler; last_name = None } }

-- X : constant Integer := 1;
to_constant : faults (calling (s.ObjectDecl (record { first = 10; more = [] }) (Some 67) (s.Indicated (s.Mark 20)) (Some (whole (num 31))))) ≡ at 10 rule.WrongType ∷ []
unfolding all_rules faults
to_constant = refl

-- X : Integer;
to_variable : faults (calling (variable 10 20 None)) ≡ []
unfolding all_rules faults
to_variable = refl

-- ---- the values of a conditional expression have the type of the first that has one (4.5.7)

-- X : array (1 .. 2) of Integer; F : Integer; .. F := (if F = 1 then a value else another);
abbrev choosing : ℕ → ℕ → s.Program
choosing then_value else_value = tree (row (span 31 32) None ∷ variable 15 20 None ∷ []) (s.Assign (name 15) (whole (s.If 70 71 (equal (ident 15) 72 (num 31)) (whole (ident then_value)) s.NoElsif (whole (ident else_value)))))

-- then X else F
array_first : faults (choosing 10 27) ≡ at 27 rule.WrongType ∷ []
unfolding all_rules faults
array_first = refl

-- then F else X
number_first : faults (choosing 27 10) ≡ at 10 rule.WrongType ∷ []
unfolding all_rules faults
number_first = refl

-- then F else F
numbers_alone : faults (choosing 15 27) ≡ []
unfolding all_rules faults
numbers_alone = refl

-- ---- each type definition defines a type of its own (3.2.1)

-- type T is array (1 .. 2) of Integer;
abbrev array : ℕ → s.Decl
array t = s.TypeDecl 78 t (s.ArrayType (record { at = 66; first = span 31 32; more = []; component = s.Mark 20 }))

-- two types alike; X : T; Y : U; .. X := Y;
two_types : faults (tree (array 13 ∷ array 14 ∷ variable 10 13 None ∷ variable 11 14 None ∷ []) (s.Assign (name 10) (whole (ident 11)))) ≡ at 11 rule.WrongType ∷ []
unfolding all_rules faults
two_types = refl

-- X, Y : T; .. X := Y;
one_type : faults (tree (array 13 ∷ array 14 ∷ variable 10 13 None ∷ variable 11 13 None ∷ []) (s.Assign (name 10) (whole (ident 11)))) ≡ []
unfolding all_rules faults
one_type = refl
