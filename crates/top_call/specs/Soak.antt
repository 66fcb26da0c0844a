-- The text of a soak, and what is told of its run.
use Rattle.std.specs.Prelude.{ℕ, zero, suc, ◌*◌, List, ◌++◌, codes, decimal}
use Rattle.run_reports.specs.Lines.{ended}

abbrev pub front : List ℕ
front = ended (codes "with Ada.Text_IO; use Ada.Text_IO;") ++ (ended (codes "procedure Main is")
    ++ (ended (codes "A : array (1 .. 1000) of Integer := (others => 0);") ++ ended (codes "begin")))

-- the statement of a number: each element is computed anew of itself, its index and that number
abbrev pub statement : ℕ → List ℕ
statement k = codes "parallel for I in 1 .. 1000 loop A (I) := (A (I) * 3 + I + " ++ (decimal k ++ ended (codes ") mod 1000; end loop;"))

-- so many statements, from number 1 on
abbrev pub statements : ℕ → List ℕ
statements zero = codes ""
statements (suc k) = statements k ++ statement (suc k)

abbrev pub back : List ℕ
back = ended (codes "Put_Line (Integer'Image (A'Parallel_Reduce (\"+\", 0)));") ++ ended (codes "end Main;")

unfoldable pub soak_text : ℕ → List ℕ
soak_text n = front ++ (statements n ++ back)

-- what is counted, and its count
abbrev pub count_line : List ℕ → ℕ → List ℕ
count_line what count = what ++ (codes ": " ++ ended (decimal count))

-- The lines on a run of so many statements in a text of so many bytes: 1,000 iterations for each, and what it put out,
-- which ends its own line.
abbrev pub soak_lines : (statements bytes : ℕ) → (output : List ℕ) → List ℕ
soak_lines n bytes output =
    count_line (codes "statements") n ++ (count_line (codes "bytes") bytes ++ (count_line (codes "iterations") (1000 * n) ++ (codes "output:" ++ output)))
