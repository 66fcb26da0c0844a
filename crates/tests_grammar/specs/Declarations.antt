-- Examples of the grammar of declarations: for each rule a program that it is the
-- point of, with its section, its tree, and a change after which it is at fault.
use Rattle.std.specs.Prelude.{List, [], ◌∷◌, Some, None}
use Rattle.ada_base.specs.Kinds.{array_word, assign, begin_word, close_round, colon, comma, constant_word, dots, double_star, end_word, equal, exception_word, function_word, identifier, in_word, is_word, mod_word, null_word, numeral, of_word, open_round, out_word, procedure_word, range_word, record_word, return_word, semicolon, subtype_word, type_word}
use Rattle.syntax_tree.specs.Syntax.{Simple, Sum, NoAdding, Product, NoMultiplying, Power, Bounded, Whole, Mark, RangeMark, Indicated, RangeType, ModularType, ArrayType, RecordType, ObjectDecl, NumberDecl, ExceptionDecl, TypeDecl, SubtypeDecl, Null, Return, stmts, NoStmt, body, NoHandler, Procedure, Function, SubUnit}
use Rattle.syntax_tree.specs.declared.operators.Mode.TheVariants as mode
use Rattle.tests_grammar.specs.Rows.{Example, example, Another, Added, LeftOut, simple, expr, number, named, ids, array, component, formal, formals, program_of, kinds_of_unit, declaring}

-- 2 ** 64, of the tokens 7 and 9
abbrev pub power_of_two : Simple
power_of_two = Sum None (Product (Power (number 7) 8 (number 9)) NoMultiplying) NoAdding

abbrev pub rows : List Example
rows =
    -- decl (3.1): procedure P is N : constant := 1; begin null; end;
    -- "constant" left out
    example (kinds_of_unit (identifier ∷ colon ∷ constant_word ∷ assign ∷ numeral ∷ semicolon ∷ []))
    (declaring (NumberDecl (ids 3 []) 5 (expr (number 7))) 10)
    (LeftOut 5) 5
    ∷
    -- indic (3.2.2): procedure P is subtype T is Integer range 1 .. 9; begin null; end;
    -- "range" left out
    example (kinds_of_unit (subtype_word ∷ identifier ∷ is_word ∷ identifier ∷ range_word ∷ numeral ∷ dots
    ∷ numeral ∷ semicolon ∷ []))
    (declaring (SubtypeDecl 3 4 (RangeMark 6 (simple (number 8)) (simple (number 10)))) 13)
    (LeftOut 7) 7
    ∷
    -- array (3.6): procedure P is type T is array (1 .. 9, C) of Integer; begin null; end;
    -- "of" left out
    example (kinds_of_unit (type_word ∷ identifier ∷ is_word ∷ array_word ∷ open_round ∷ numeral ∷ dots
    ∷ numeral ∷ comma ∷ identifier ∷ close_round ∷ of_word ∷ identifier ∷ semicolon ∷ []))
    (declaring (TypeDecl 3 4 (ArrayType (array 6 (Bounded (simple (number 8)) (simple (number 10)))
    ((Whole (named 12)) ∷ []) (Mark 15)))) 18)
    (LeftOut 14) 14
    ∷
    -- comp (3.8): procedure P is type T is record A, B : Integer; C : U; end record; begin null; end;
    -- a component that is constant
    example (kinds_of_unit (type_word ∷ identifier ∷ is_word ∷ record_word ∷ identifier ∷ comma ∷ identifier
    ∷ colon ∷ identifier ∷ semicolon ∷ identifier ∷ colon ∷ identifier ∷ semicolon ∷ end_word ∷ record_word
    ∷ semicolon ∷ []))
    (declaring (TypeDecl 3 4 (RecordType (component (ids 7 (9 ∷ [])) (Mark 11))
    ((component (ids 13 []) (Mark 15)) ∷ []))) 21)
    (Added 11 constant_word) 11
    ∷
    -- ids (3.3.1): procedure P is A, B, C : Integer; begin null; end;
    -- the first comma left out
    example (kinds_of_unit (identifier ∷ comma ∷ identifier ∷ comma ∷ identifier ∷ colon ∷ identifier
    ∷ semicolon ∷ []))
    (declaring (ObjectDecl (ids 3 (5 ∷ 7 ∷ [])) None (Indicated (Mark 9)) None) 12)
    (LeftOut 4) 4
    ∷
    -- formal (6.1): procedure P is procedure Q (A, B : in out Integer) is begin null; end Q; begin null; end;
    -- a second "in" in place of "out"
    example (kinds_of_unit (procedure_word ∷ identifier ∷ open_round ∷ identifier ∷ comma ∷ identifier ∷ colon
    ∷ in_word ∷ out_word ∷ identifier ∷ close_round ∷ is_word ∷ begin_word ∷ null_word ∷ semicolon ∷ end_word
    ∷ identifier ∷ semicolon ∷ []))
    (program_of ((SubUnit (Procedure 3 4 (Some (formals 5 (formal (ids 6 (8 ∷ [])) (Some (mode.InOut 10)) 12)
    [])) None [] (body (stmts (Null 16) NoStmt) NoHandler) (Some 19))) ∷ [])
    (body (stmts (Null 22) NoStmt) NoHandler))
    (Another 11 in_word) 11
    ∷
    -- formals (6.1): procedure P is function F (A : Integer; B : out Integer) return Integer is begin return 1; end; begin null; end;
    -- a comma in place of the semicolon
    example (kinds_of_unit (function_word ∷ identifier ∷ open_round ∷ identifier ∷ colon ∷ identifier
    ∷ semicolon ∷ identifier ∷ colon ∷ out_word ∷ identifier ∷ close_round ∷ return_word ∷ identifier ∷ is_word
    ∷ begin_word ∷ return_word ∷ numeral ∷ semicolon ∷ end_word ∷ semicolon ∷ []))
    (program_of ((SubUnit (Function 3 4 (Some (formals 5 (formal (ids 6 []) None 8)
    ((formal (ids 10 []) (Some (mode.Out 12)) 13) ∷ []))) 16 None []
    (body (stmts (Return 19 (Some (expr (number 20)))) NoStmt) NoHandler) None)) ∷ [])
    (body (stmts (Null 25) NoStmt) NoHandler))
    (Another 9 comma) 9
    ∷
    -- decl (3.1): procedure P is A : constant Integer range 1 .. 9 := 5; begin null; end;
    -- "=" in place of ":="
    example (kinds_of_unit (identifier ∷ colon ∷ constant_word ∷ identifier ∷ range_word ∷ numeral ∷ dots
    ∷ numeral ∷ assign ∷ numeral ∷ semicolon ∷ []))
    (declaring (ObjectDecl (ids 3 []) (Some 5) (Indicated
    (RangeMark 6 (simple (number 8)) (simple (number 10)))) (Some (expr (number 12)))) 15)
    (Another 11 equal) 11
    ∷
    -- decl (3.1): procedure P is E : exception; begin null; end;
    -- an exception that is constant
    example (kinds_of_unit (identifier ∷ colon ∷ exception_word ∷ semicolon ∷ []))
    (declaring (ExceptionDecl (ids 3 [])) 8)
    (Added 5 constant_word) 6
    ∷
    -- decl (3.1): procedure P is type T is range 1 .. 9; begin null; end;
    -- the name left out
    example (kinds_of_unit (type_word ∷ identifier ∷ is_word ∷ range_word ∷ numeral ∷ dots ∷ numeral ∷ semicolon
    ∷ []))
    (declaring (TypeDecl 3 4 (RangeType (simple (number 7)) (simple (number 9)))) 12)
    (LeftOut 4) 4
    ∷
    -- decl (3.1, 3.5.4): procedure P is type B is mod 256; begin null; end;
    -- the modulus left out
    example (kinds_of_unit (type_word ∷ identifier ∷ is_word ∷ mod_word ∷ numeral ∷ semicolon ∷ []))
    (declaring (TypeDecl 3 4 (ModularType (simple (number 7)))) 10)
    (LeftOut 7) 7
    ∷
    -- decl (3.1, 3.5.4): procedure P is type H is mod 2 ** 64; begin null; end;
    -- "range" after the modulus
    example (kinds_of_unit (type_word ∷ identifier ∷ is_word ∷ mod_word ∷ numeral ∷ double_star ∷ numeral ∷ semicolon
    ∷ []))
    (declaring (TypeDecl 3 4 (ModularType power_of_two)) 12)
    (Added 10 range_word) 10
    ∷
    -- decl (3.1, 3.5.4): procedure P is type B is mod 8; begin null; end;
    -- "mod" twice
    example (kinds_of_unit (type_word ∷ identifier ∷ is_word ∷ mod_word ∷ numeral ∷ semicolon ∷ []))
    (declaring (TypeDecl 3 4 (ModularType (simple (number 7)))) 10)
    (Added 6 mod_word) 7
    ∷
    -- decl (3.1, 3.5.4): procedure P is type T is range 1 .. 9; begin null; end;
    -- "mod" before "range"
    example (kinds_of_unit (type_word ∷ identifier ∷ is_word ∷ range_word ∷ numeral ∷ dots ∷ numeral ∷ semicolon
    ∷ []))
    (declaring (TypeDecl 3 4 (RangeType (simple (number 7)) (simple (number 9)))) 12)
    (Added 6 mod_word) 7
    ∷
    -- decl (3.1, 3.5.4): procedure P is type T is range 1 .. 9; begin null; end;
    -- "mod" in place of "range"
    example (kinds_of_unit (type_word ∷ identifier ∷ is_word ∷ range_word ∷ numeral ∷ dots ∷ numeral ∷ semicolon
    ∷ []))
    (declaring (TypeDecl 3 4 (RangeType (simple (number 7)) (simple (number 9)))) 12)
    (Another 6 mod_word) 8
    ∷
    -- indic (3.2.2): procedure P is subtype S is T; begin null; end;
    -- "mod" before the name
    example (kinds_of_unit (subtype_word ∷ identifier ∷ is_word ∷ identifier ∷ semicolon ∷ []))
    (declaring (SubtypeDecl 3 4 (Mark 6)) 9)
    (Added 6 mod_word) 6
    ∷
    -- decl (3.1): procedure P is X : T; begin null; end;
    -- "mod" before the name
    example (kinds_of_unit (identifier ∷ colon ∷ identifier ∷ semicolon ∷ []))
    (declaring (ObjectDecl (ids 3 []) None (Indicated (Mark 5)) None) 8)
    (Added 5 mod_word) 5
    ∷ []
