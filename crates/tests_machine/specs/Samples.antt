-- Code and states for tables of what instructions do.
use Rattle.std.specs.Prelude.{ℤ, pos, List, [], ◌∷◌, None, true, false}
use Rattle.ada_base.specs.Cells.{Cell, Gone, Seen, Mine}
use Rattle.stack_code.specs.declared.code.Code.{Code}
use Rattle.stack_code.specs.declared.code.CodeSub.{CodeSub}
use Rattle.stack_code.specs.declared.code.Unwind.{Unwind}
use Rattle.stack_code.specs.declared.instr.Instr.{Instr}
use Rattle.stack_code.specs.Machine.{State}

-- a main procedure, a function of two operands with a frame of three cells, and one that takes none
abbrev pub adder : CodeSub
adder = record { entry = 20; frame = 3; stack = 4; takes = 2; gives = true }

abbrev pub plain : CodeSub
plain = record { entry = 30; frame = 4; stack = 2; takes = 0; gives = true }

abbrev pub code_of : List Instr → List Unwind → Code
code_of instrs unwind = record {
  instrs = instrs;
  spots = [];
  unwind = unwind;
  sites = [];
  subs = record { entry = 0; frame = 5; stack = 9; takes = 0; gives = false } ∷ adder ∷ plain ∷ [];
  texts = (65 ∷ 66 ∷ []) ∷ [];
}

-- a cell to write, one to read, one that is gone, and two to write
abbrev pub five : List Cell
five = Mine (pos 10) ∷ Seen (pos 11) ∷ Gone ∷ Mine (pos 13) ∷ Mine (pos 14) ∷ []

-- at the first instruction, in a body whose frame begins at address 3, with no call
abbrev pub fresh : List ℤ → State
fresh st = record {
  pc = 0;
  stack = st;
  floor = 0;
  nest = 0;
  kept = [];
  rounds = [];
  base = 3;
  outward = 1 ∷ [];
  waiting = [];
  calls = 0;
  nested = 0;
  turns = 0;
  left = None;
  line = [];
  raising = None;
  cells = five;
}
