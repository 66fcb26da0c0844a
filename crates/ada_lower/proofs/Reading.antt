-- That what is asked of programs can be given: a variable of the main procedure, input and a reduction.
--   procedure P is X : Integer := 5; begin Get (X); X := [for I in 1 .. 3 => I]'Reduce ("+", X); Put_Line (X'Image); end P;
use Rattle.std.proofs.Common.{◌≡◌, ℕ, ◌+◌, ◌<◌, ℤ, pos, List, [], ◌∷◌, map, replicate, slice_get, Some, None, Ok, true, false, refl, sym, subst, arith, inl}
use Rattle.std.proofs.lemmas.Option.{none-some}
use Rattle.ada_base.specs.declared.operation.Op.TheVariants as op
use Rattle.ada_base.specs.declared.operation.Base.TheVariants as base
use Rattle.typed_tree.specs.declared.scalars.Class.TheVariants as class
use Rattle.typed_tree.specs.declared.expressions.Root.TheVariants as root
use Rattle.typed_tree.specs.declared.expressions.Reducer.TheVariants.{Operator}
use Rattle.typed_tree.specs.Syntax.{Variable, Parameter, Reduction, Range, NoChunk, Absent, Whole, Number, OfScalar, DeclareVariable, NoDecl, Assign, Get, Put, Image, NoPiece, Stmts, End, Then, NoHandler, Program}
use Rattle.ada_meaning.specs.declared.slots.Variable as slot
use Rattle.ada_meaning.specs.Meaning
use Rattle.ada_base.specs.Notes.{Schedule}
use Rattle.ada_meaning.specs.Stored as stored
use Rattle.ada_meaning.proofs.Cells.{some_same}
use Rattle.stack_code.specs.Valid.{IsCountable}
use Rattle.stack_code.specs.declared.code.Code.{Code}
use Rattle.ada_base.specs.Cells.{Mine}
use Rattle.stack_code.specs.Machine.{Done, begun}
use Rattle.ada_lower.specs.Driven.{Dyn, On, Finally}
use Rattle.ada_lower.specs.Sights.{Named, Stands, listed, own}
use Rattle.ada_lower.specs.Bodies.{main_named, main_scope, main_code, MainFitted}
use Rattle.ada_lower.proofs.Example.{integer, check, number, none_there, none_main, text, four_each, no_fork, no_threads}
use Rattle.ada_lower.proofs.ExecLeaves.{call_only}
use Rattle.ada_lower.proofs.Main.{first_dyn, program_gives}

abbrev pub main : Stmts
main = Then (Get 0 0 0 (root.Object 0) Whole integer)
    (Then (Assign 0 (root.Object 0) Whole (Number check (Reduction 0 0 (Operator 0 op.Add (class.Integer base.Narrow)) (Variable 0 (root.Object 0) Whole integer) None NoChunk (Range 0 false (number 1) (number 3) None Absent) (Parameter 0 0))))
    (Then (Put 0 0 (Image (class.Integer base.Narrow) (Variable 0 (root.Object 0) Whole integer) NoPiece) true) End))

abbrev pub program : Program
program = record {
  subtypes = OfScalar integer ∷ [];
  objects = record { name = 0; subtype = 0; constant = false; owner = 0; offset = 0; cells = 1; value = None } ∷ [];
  subs = [];
  sites = [];
  exceptions = [];
  body = record { decls = DeclareVariable 0 (Number check (number 5)) NoDecl; stmts = main; handlers = NoHandler };
  nonblocking = false;
  strict = false;
}

abbrev pub code : Code
code = record {
  instrs = map (λ p. p.instr) (listed (main_code program none_there none_main [] text four_each (main_scope program none_there none_main [] text four_each 4).scope) 0);
  spots = [];
  unwind = [];
  sites = [];
  subs = record { entry = 0; frame = 4; stack = 3; takes = 0; gives = false } ∷ [];
  texts = [];
}

stands : Stands code (main_code program none_there none_main [] text four_each (main_scope program none_there none_main [] text four_each 4).scope) 0 29
unfolding Rattle.ada_lower.specs.Emission.emit Rattle.ada_lower.specs.Emission.stmt Rattle.ada_lower.specs.Emission.back_code Rattle.ada_lower.specs.Emission.piece_values
stands = (record { is = inl refl; held = tt }, (record { is = inl refl; held = tt }, (record { is = inl refl; held = tt }, (record { is = inl refl; held = tt }, (record { is = inl refl; held = tt }, (record { is = inl refl; held = tt }, (record { is = inl refl; held = tt }, (record { is = inl refl; held = tt }, (record { is = inl refl; held = tt }, (record { is = inl refl; held = tt }, (record { is = inl refl; held = tt }, (record { is = inl refl; held = tt }, (record { is = inl refl; held = tt }, (record { is = inl refl; held = tt }, (record { is = inl refl; held = tt }, (record { is = inl refl; held = tt }, (record { is = inl refl; held = tt }, (record { is = inl refl; held = tt }, (record { is = inl refl; held = tt }, (record { is = inl refl; held = tt }, (record { is = inl refl; held = tt }, (record { is = inl refl; held = tt }, (record { is = inl refl; held = tt }, (record { is = inl refl; held = tt }, (record { is = inl refl; held = tt }, (record { is = inl refl; held = tt }, (record { is = inl refl; held = tt }, (record { is = inl refl; held = tt }, (record { is = inl refl; held = tt }, refl)))))))))))))))))))))))))))))

named : Named
named = main_named 0 1

fitted : MainFitted program none_there none_main [] text four_each no_threads no_fork (main_scope program none_there none_main [] text four_each 4)
unfolding named
fitted = (
  refl,
  omega arith,
  (refl, tt),
  (
    ((named, refl, omega arith), tt),
    (
      (named, refl, omega arith, tt, (((named, refl, omega arith), tt), omega arith, tt, tt, tt, (own 1, refl), tt)),
      ((omega arith, (((named, refl, omega arith), tt), tt)), tt),
    ),
  ),
)

-- no part of it is repeated too often
countable : IsCountable code.instrs
unfolding Rattle.ada_lower.specs.Emission.emit Rattle.ada_lower.specs.Emission.named_value Rattle.ada_lower.specs.Emission.selected Rattle.ada_lower.specs.Emission.read Rattle.ada_lower.specs.Emission.passed Rattle.ada_lower.specs.Emission.put_into Rattle.ada_lower.specs.Emission.composed Rattle.ada_lower.specs.Emission.associated Rattle.ada_lower.specs.Emission.component Rattle.ada_lower.specs.Emission.filtered Rattle.ada_lower.specs.Emission.iterated Rattle.ada_lower.specs.Emission.chunk_code Rattle.ada_lower.specs.Emission.course_code Rattle.ada_lower.specs.Emission.threaded Rattle.ada_lower.specs.Emission.back_code Rattle.ada_lower.specs.Emission.piece_values Rattle.ada_lower.specs.Emission.stmt Rattle.ada_lower.specs.Emission.all Rattle.ada_lower.specs.Emission.cases Rattle.ada_lower.specs.Emission.handling Rattle.ada_lower.specs.Emission.arm_codes
countable = tt

-- where the stored run gives a value, the machine ends with its output, and its first cell has the variable's last value
pub comes : (limit : ℕ) (cuts : ℕ → ℕ → List ℕ) (slots : ℕ) (input before : List ℕ) (notes : Schedule) → let r = (Meaning.main (stored.noted_operations limit cuts) limit program).does (stored.noted_outset slots input before notes) in r.end ≡ Ok tt
    → (d : Dyn) × Finally limit code (On (record { state = begun 0 0 [] 0 0 0 None (replicate 4 (Mine (pos 0))); world = (first_dyn notes cuts 4 input before).world })) (record { how = Done None; dyn = d }) × (d.world.output ≡ r.state.output)
    × ((v : slot.Variable) → slice_get r.state.declared 0 ≡ Some v → (i : ℕ) → i < v.cells → (u : ℤ) × (slice_get r.state.kept (v.address + i) ≡ Some u) × (slice_get d.cells (0 + i) ≡ Some (Mine u)))
comes limit cuts slots input before notes e =
    let (d, a, b, t, w) = program_gives None limit cuts program code none_there none_main no_threads [] text four_each no_fork slots 4 countable refl (call_only limit cuts program (λ n sub e. absurd (none-some sub e)) 1000) (λ f fa depth all. record { forked = (λ rs e from to g env x s h st k en w l. absurd w); parallel = (λ t from to g env x s k u w l. absurd w) }) (λ n unit q. absurd (none-some unit q)) 0 29 stands fitted input before notes tt e in (
      d,
      a,
      b,
      λ v is i lt. let (m, at, final) = w.each 0 v is in
          let (u, kept, mine) = final.values i lt in (u, kept, subst (λ (m : slot.Variable). slice_get d.cells (m.address + i) ≡ Some (Mine u)) (sym (some_same _ m at)) mine),
    )
