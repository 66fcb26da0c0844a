-- Examples of the grammar of expressions: for each rule a program that it is the
-- point of, with its section, its tree, and a change after which it is at fault.
use Rattle.std.specs.Prelude.{List, [], ◌∷◌, Some, None}
use Rattle.ada_base.specs.Kinds.{abs_word, ampersand, and_word, arrow, at_most, bar, close_round, close_square, comma, dots, double_star, else_word, elsif_word, equal, for_word, identifier, if_word, in_word, minus, mod_word, not_word, numeral, of_word, open_round, open_square, or_word, others_word, parallel_word, plus, point, range_word, semicolon, star, string, target, then_word, tick, xor_word}
use Rattle.syntax_tree.specs.Syntax.{Single, Joined, conjunct, NoConjunct, AlsoConjunct, Alone, Compared, Within, OfMark, Sum, adding, NoAdding, AlsoAdding, Product, multiplying, NoMultiplying, AlsoMultiplying, Operand, Power, Abs, Not, Text, Target, Named, Group, If, Round, Square, OneValue, Reduction, elsif, NoElsif, AlsoElsif, NoExpr, AbsentExpr, name, Field, Call, Attribute, RangeAttribute, NoPart, AlsoPart, arg, NoArg, AlsoArg, Bounded, Value, Span, Others, NoChoice, AlsoChoice, Positions, PositionsOthers, FirstOthers, Associations, Chosen, Each, NoAssoc, AlsoAssoc, Unchunked, AbsentParallel, PresentParallel, InRange, OfName, CallStmt}
use Rattle.syntax_tree.specs.declared.operators.Logical.TheVariants as logical
use Rattle.ada_base.specs.declared.operation.Comparison.TheVariants as comparison
use Rattle.syntax_tree.specs.declared.operators.Additive.TheVariants as additive
use Rattle.syntax_tree.specs.declared.operators.Multiplicative.TheVariants as multiplicative
use Rattle.syntax_tree.specs.declared.operators.Sign.TheVariants as sign
use Rattle.tests_grammar.specs.Rows.{Example, example, Another, Added, LeftOut, term, simple, rel, expr, number, variable, named, kinds_of_stmts, doing, kinds_of_value, doing_value}

abbrev pub rows : List Example
rows =
    -- expr (4.4): procedure P is begin A := B and then C and then D; end;
    -- the second "then" left out
    example (kinds_of_value (identifier ∷ and_word ∷ then_word ∷ identifier ∷ and_word ∷ then_word ∷ identifier
    ∷ []))
    (doing_value (Joined logical.AndThen (rel (variable 6)) 7 (rel (variable 9))
    (AlsoConjunct (conjunct 10 (rel (variable 12))) NoConjunct)))
    (LeftOut 11) 11
    ∷
    -- rel (4.4): procedure P is begin A := B not in 1 .. 5; end;
    -- "in" left out
    example (kinds_of_value (identifier ∷ not_word ∷ in_word ∷ numeral ∷ dots ∷ numeral ∷ []))
    (doing_value (Single (Within (simple (variable 6)) (Some 7) 8 (simple (number 9)) (simple (number 11)))))
    (LeftOut 8) 8
    ∷
    -- simple (4.4): procedure P is begin A := -B + C & D; end;
    -- a second sign
    example (kinds_of_value (minus ∷ identifier ∷ plus ∷ identifier ∷ ampersand ∷ identifier ∷ []))
    (doing_value (Single (Alone (Sum (Some (sign.Minus 6)) (term (variable 7))
    (AlsoAdding (adding additive.Plus 8 (term (variable 9)))
    (AlsoAdding (adding additive.Joined 10 (term (variable 11))) NoAdding))))))
    (Added 9 minus) 9
    ∷
    -- term (4.4): procedure P is begin A := B * C mod 2; end;
    -- the second factor left out
    example (kinds_of_value (identifier ∷ star ∷ identifier ∷ mod_word ∷ numeral ∷ []))
    (doing_value (Single (Alone (Sum None (Product (Operand (variable 6))
    (AlsoMultiplying (multiplying multiplicative.Times 7 (Operand (variable 8)))
    (AlsoMultiplying (multiplying multiplicative.Mod 9 (Operand (number 10))) NoMultiplying))) NoAdding))))
    (LeftOut 8) 8
    ∷
    -- factor (4.4): procedure P is begin A := B ** 2; end;
    -- "abs" before the exponent
    example (kinds_of_value (identifier ∷ double_star ∷ numeral ∷ []))
    (doing_value (Single (Alone (Sum None (Product (Power (variable 6) 7 (number 8)) NoMultiplying) NoAdding))))
    (Added 8 abs_word) 8
    ∷
    -- primary (4.4): procedure P is begin A := (B); end;
    -- the bracket not closed
    example (kinds_of_value (open_round ∷ identifier ∷ close_round ∷ []))
    (doing_value (expr (Group 6 (expr (variable 7)))))
    (LeftOut 8) 8
    ∷
    -- ifexpr (4.5.7): procedure P is begin A := (if B then 1 elsif C then 2 else 3); end;
    -- "else" left out
    example (kinds_of_value (open_round ∷ if_word ∷ identifier ∷ then_word ∷ numeral ∷ elsif_word ∷ identifier
    ∷ then_word ∷ numeral ∷ else_word ∷ numeral ∷ close_round ∷ []))
    (doing_value (expr (If 6 7 (expr (variable 8)) (expr (number 10))
    (AlsoElsif (elsif 11 (expr (variable 12)) (expr (number 14))) NoElsif) (expr (number 16)))))
    (LeftOut 15) 15
    ∷
    -- name (4.1): procedure P is begin A := B.C (D)'E; end;
    -- the identifier after the point left out
    example (kinds_of_value (identifier ∷ point ∷ identifier ∷ open_round ∷ identifier ∷ close_round ∷ tick
    ∷ identifier ∷ []))
    (doing_value (expr (Named (name 6 (AlsoPart (Field 8)
    (AlsoPart (Call 9 (arg None (expr (variable 10))) NoArg) (AlsoPart (Attribute 13) NoPart)))))))
    (LeftOut 8) 8
    ∷
    -- arg (6.4): procedure P is begin Q (A => 1, B); end;
    -- a number in place of the parameter
    example (kinds_of_stmts (identifier ∷ open_round ∷ identifier ∷ arrow ∷ numeral ∷ comma ∷ identifier
    ∷ close_round ∷ semicolon ∷ []))
    (doing (CallStmt (name 4 (AlsoPart (Call 5 (arg (Some 6) (expr (number 8)))
    (AlsoArg (arg None (expr (variable 10))) NoArg)) NoPart))))
    (Another 6 numeral) 7
    ∷
    -- reduction (4.5.10): procedure P is begin A := [for I in 1 .. 5 => I]'Reduce ("+", 0); end;
    -- the comma left out
    example (kinds_of_value (open_square ∷ for_word ∷ identifier ∷ in_word ∷ numeral ∷ dots ∷ numeral ∷ arrow
    ∷ identifier ∷ close_square ∷ tick ∷ identifier ∷ open_round ∷ string ∷ comma ∷ numeral ∷ close_round ∷ []))
    (doing_value (expr (Reduction 6 AbsentParallel 7
    (InRange 8 None (Bounded (simple (number 10)) (simple (number 12))) AbsentExpr) (expr (variable 14)) 17
    (expr (Text 19)) (expr (number 21)))))
    (LeftOut 20) 20
    ∷
    -- aggregate (4.3): procedure P is begin A := [1]; end;
    -- nothing in the brackets
    example (kinds_of_value (open_square ∷ numeral ∷ close_square ∷ []))
    (doing_value (expr (OneValue 6 (expr (number 7)))))
    (LeftOut 7) 7
    ∷
    -- many (4.3.3): procedure P is begin A := (1, 2, others => 3); end;
    -- the arrow left out
    example (kinds_of_value (open_round ∷ numeral ∷ comma ∷ numeral ∷ comma ∷ others_word ∷ arrow ∷ numeral
    ∷ close_round ∷ []))
    (doing_value (expr (Round 6 (PositionsOthers (expr (number 7)) (expr (number 9)) NoExpr 11
    (expr (number 13))))))
    (LeftOut 12) 12
    ∷
    -- assoc (4.3.3): procedure P is begin A := (1 | 2 .. 3 => 4, others => 5); end;
    -- a comma in place of the first arrow
    example (kinds_of_value (open_round ∷ numeral ∷ bar ∷ numeral ∷ dots ∷ numeral ∷ arrow ∷ numeral ∷ comma
    ∷ others_word ∷ arrow ∷ numeral ∷ close_round ∷ []))
    (doing_value (expr (Round 6 (Associations (Chosen (Value (simple (number 7)))
    (AlsoChoice (Span (simple (number 9)) (simple (number 11))) NoChoice) (expr (number 13)))
    (AlsoAssoc (Chosen (Others 15) NoChoice (expr (number 17))) NoAssoc)))))
    (Another 12 comma) 12
    ∷
    -- expr (4.4): procedure P is begin A := B and C and D; end;
    -- "then" after the second "and" alone
    example (kinds_of_value (identifier ∷ and_word ∷ identifier ∷ and_word ∷ identifier ∷ []))
    (doing_value (Joined logical.And (rel (variable 6)) 7 (rel (variable 8))
    (AlsoConjunct (conjunct 9 (rel (variable 10))) NoConjunct)))
    (Added 10 then_word) 10
    ∷
    -- expr (4.4): procedure P is begin A := B or C or D; end;
    -- "and" in place of the second "or"
    example (kinds_of_value (identifier ∷ or_word ∷ identifier ∷ or_word ∷ identifier ∷ []))
    (doing_value (Joined logical.Or (rel (variable 6)) 7 (rel (variable 8))
    (AlsoConjunct (conjunct 9 (rel (variable 10))) NoConjunct)))
    (Another 9 and_word) 9
    ∷
    -- expr (4.4): procedure P is begin A := B xor C; end;
    -- a second "xor" at the end
    example (kinds_of_value (identifier ∷ xor_word ∷ identifier ∷ []))
    (doing_value (Joined logical.Xor (rel (variable 6)) 7 (rel (variable 8)) NoConjunct))
    (Added 9 xor_word) 10
    ∷
    -- expr (4.4): procedure P is begin A := B or else C; end;
    -- a second "else"
    example (kinds_of_value (identifier ∷ or_word ∷ else_word ∷ identifier ∷ []))
    (doing_value (Joined logical.OrElse (rel (variable 6)) 7 (rel (variable 9)) NoConjunct))
    (Added 9 else_word) 9
    ∷
    -- rel (4.4): procedure P is begin A := B <= C; end;
    -- a second relational operator
    example (kinds_of_value (identifier ∷ at_most ∷ identifier ∷ []))
    (doing_value (Single (Compared (simple (variable 6)) comparison.AtMost 7 (simple (variable 8)))))
    (Added 8 equal) 8
    ∷
    -- factor (4.4): procedure P is begin A := abs B; end;
    -- a sign after "abs"
    example (kinds_of_value (abs_word ∷ identifier ∷ []))
    (doing_value (Single (Alone (Sum None (Product (Abs 6 (variable 7)) NoMultiplying) NoAdding))))
    (Added 7 minus) 7
    ∷
    -- factor (4.4): procedure P is begin A := not B; end;
    -- a second "not"
    example (kinds_of_value (not_word ∷ identifier ∷ []))
    (doing_value (Single (Alone (Sum None (Product (Not 6 (variable 7)) NoMultiplying) NoAdding))))
    (Added 7 not_word) 7
    ∷
    -- primary (4.4): procedure P is begin A := @ + 1; end;
    -- a second target
    example (kinds_of_value (target ∷ plus ∷ numeral ∷ []))
    (doing_value (Single (Alone (Sum None (term (Target 6))
    (AlsoAdding (adding additive.Plus 7 (term (number 8))) NoAdding)))))
    (Added 7 target) 7
    ∷
    -- name (4.1): procedure P is begin A := B'range; end;
    -- a number in place of the attribute
    example (kinds_of_value (identifier ∷ tick ∷ range_word ∷ []))
    (doing_value (expr (Named (name 6 (AlsoPart (RangeAttribute 8) NoPart)))))
    (Another 8 numeral) 8
    ∷
    -- aggregate (4.3): procedure P is begin A := [1, 2]; end;
    -- a round bracket in place of the last one
    example (kinds_of_value (open_square ∷ numeral ∷ comma ∷ numeral ∷ close_square ∷ []))
    (doing_value (expr (Square 6 (Positions (expr (number 7)) (expr (number 9)) NoExpr))))
    (Another 10 close_round) 10
    ∷
    -- many (4.3.3): procedure P is begin A := (1, others => 2); end;
    -- a comma at the end
    example (kinds_of_value (open_round ∷ numeral ∷ comma ∷ others_word ∷ arrow ∷ numeral ∷ close_round ∷ []))
    (doing_value (expr (Round 6 (FirstOthers (expr (number 7)) 9 (expr (number 11))))))
    (Added 12 comma) 12
    ∷
    -- assoc (4.3.3): procedure P is begin A := (for I in 1 .. 5 => I); end;
    -- "of" in place of "in"
    example (kinds_of_value (open_round ∷ for_word ∷ identifier ∷ in_word ∷ numeral ∷ dots ∷ numeral ∷ arrow
    ∷ identifier ∷ close_round ∷ []))
    (doing_value (expr (Round 6 (Associations (Each 7 8 (Bounded (simple (number 10)) (simple (number 12)))
    (expr (variable 14))) NoAssoc))))
    (Another 9 of_word) 9
    ∷
    -- reduction (4.5.10): procedure P is begin A := [parallel for I of B => I]'Reduce ("+", 0); end;
    -- the tick left out
    example (kinds_of_value (open_square ∷ parallel_word ∷ for_word ∷ identifier ∷ of_word ∷ identifier ∷ arrow
    ∷ identifier ∷ close_square ∷ tick ∷ identifier ∷ open_round ∷ string ∷ comma ∷ numeral ∷ close_round ∷ []))
    (doing_value (expr (Reduction 6 (PresentParallel (Unchunked 7)) 8 (OfName 9 (named 11) AbsentExpr)
    (expr (variable 13)) 16 (expr (Text 18)) (expr (number 20)))))
    (LeftOut 15) 15
    ∷
    -- rel (4.4): procedure P is begin A := B in T; end;
    -- a number in place of the subtype
    example (kinds_of_value (identifier ∷ in_word ∷ identifier ∷ []))
    (doing_value (Single (OfMark (simple (variable 6)) None 7 8)))
    (Another 8 numeral) 9
    ∷ []
