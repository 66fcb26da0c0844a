-- Code of aggregates and default values, and that what is asked of them can be given:
--   A : array (1 .. 5) of Integer;   A := (others => 7);   A := (for I in 1 .. 5 => I);   A := (others => 3 + 4), as if it were not static
use Rattle.std.proofs.Common.{◌≡◌, pos, negsuc, List, [], ◌∷◌, map, Some, None, true, false, refl, arith}
use Rattle.typed_tree.specs.declared.expressions.Run.{Run}
use Rattle.ada_base.specs.declared.operation.Base.TheVariants as base
use Rattle.ada_base.specs.declared.operation.Op.TheVariants as op
use Rattle.typed_tree.specs.Syntax.{Static, Parameter, Binary, NoExpr, Number, OfScalar, Array, Composite, Aggregate, NoAssociation, Association, End, NoDecl, NoHandler, Program}
use Rattle.stack_code.specs.declared.instr.Instr.{Instr}
use Rattle.stack_code.specs.declared.instr.Instr.TheVariants as i
use Rattle.ada_lower.specs.Sights.{Emit, Sight, listed, own, taking}
use Rattle.ada_lower.specs.Emission
use Rattle.ada_lower.specs.Bodies.{main_scope}
use Rattle.ada_lower.specs.Defaults.{Filled}
use Rattle.ada_lower.specs.Fitted.{FittedComposite}
use Rattle.ada_lower.proofs.Example.{integer, check, none_there, none_main, no_threads, text, four_each}

abbrev program : Program
program = record {
  subtypes = OfScalar integer ∷ Array (record { low = pos 1; high = pos 5 } ∷ []) 0 ∷ [];
  objects = record { name = 0; subtype = 1; constant = false; owner = 0; offset = 0; cells = 5; value = None } ∷ [];
  subs = [];
  sites = [];
  exceptions = [];
  body = record { decls = NoDecl; stmts = End; handlers = NoHandler };
  nonblocking = false;
  strict = false;
}

-- the first five cells are the object's
abbrev sight : Sight
sight = taking 5 (main_scope program none_there none_main [] text four_each 8)

abbrev five : List Run
five = record { first = 0; count = 5; stride = 1 } ∷ []

abbrev sevens : Composite
sevens = Aggregate 0 5 (Association five None NoExpr (Number check (Static 0 (pos 7) true NoExpr)) NoAssociation)

abbrev numbers : Composite
numbers = Aggregate 0 5 (Association five (Some (record { parameter = 0; first = pos 1 })) NoExpr (Number check (Parameter 0 0)) NoAssociation)

abbrev sums : Composite
sums = Aggregate 0 5 (Association five None NoExpr (Number check (Binary 0 op.Add integer.class (Static 0 (pos 3) true NoExpr) (Static 0 (pos 4) true NoExpr))) NoAssociation)

abbrev instrs : Emit → List Instr
instrs e = map (λ p. p.instr) (listed e 0)

abbrev in_integer : Instr
in_integer = i.Range (negsuc 2147483647) (pos 2147483647)

-- one value is computed, and copied: one component, two, and one
sevens_code : instrs (Emission.composed program sight.scope 0 0 sevens)
    ≡ i.Local 0 ∷ i.Fill 5 (pos 0) ∷ i.Push (pos 7) ∷ i.SetL 0 (negsuc 2147483647) (pos 2147483647)
    ∷ i.Local 1 ∷ i.Local 0 ∷ i.Copy 1 ∷ i.Local 2 ∷ i.Local 0 ∷ i.Copy 2 ∷ i.Local 4 ∷ i.Local 0 ∷ i.Copy 1 ∷ []
unfolding Rattle.ada_lower.specs.Emission.emit
sevens_code = refl

-- cell 5 has the parameter, cell 6 its last value, cell 7 the address of the component
numbers_code : instrs (Emission.composed program sight.scope 0 0 numbers)
    ≡ i.Local 0 ∷ i.Fill 5 (pos 0) ∷ i.Push (pos 1) ∷ i.StoreL 5 ∷ i.Push (pos 5) ∷ i.StoreL 6 ∷ i.Local 0 ∷ i.StoreL 7
    ∷ i.Jump 10 ∷ i.Jump 19 ∷ i.Turn ∷ i.LoadL 7 ∷ i.LoadL 5 ∷ in_integer ∷ i.Store
    ∷ i.LoadL 7 ∷ i.Field 1 ∷ i.StoreL 7 ∷ i.Next 5 6 10 ∷ []
unfolding Rattle.ada_lower.specs.Emission.emit
numbers_code = refl

-- a value that is computed anew for each component, where cell 5 has the number of the round, cell 6 the address of its component
sums_code : instrs (Emission.composed program sight.scope 0 0 sums)
    ≡ i.Local 0 ∷ i.Fill 5 (pos 0) ∷ i.Push (pos 0) ∷ i.StoreL 5 ∷ i.Repeat 5
    ∷ i.Local 0 ∷ i.LoadL 5 ∷ i.Index (pos 0) (pos 4) 1 ∷ i.StoreL 6 ∷ i.LoadL 6 ∷ i.Push (pos 3) ∷ i.AddI (pos 4) base.Narrow ∷ in_integer ∷ i.Store
    ∷ i.LoadL 5 ∷ i.AddI (pos 1) base.Wide ∷ i.StoreL 5 ∷ i.Again 5 ∷ []
unfolding Rattle.ada_lower.specs.Emission.emit
sums_code = refl

defaults_code : instrs (Emission.defaulted program sight.scope 0 0)
    ≡ i.Push (negsuc 2147483647) ∷ i.StoreL 0 ∷ i.Local 1 ∷ i.Local 0 ∷ i.Copy 1 ∷ i.Local 2 ∷ i.Local 0 ∷ i.Copy 2 ∷ i.Local 4 ∷ i.Local 0 ∷ i.Copy 1 ∷ []
defaults_code = refl

sevens_fitted : FittedComposite program none_there none_main no_threads sight 5 sevens
sevens_fitted = (refl, (((λ k lt. omega (arith, lt)), tt), (refl, tt), tt))

numbers_fitted : FittedComposite program none_there none_main no_threads sight 5 numbers
numbers_fitted = (refl, (omega arith, ((λ k lt. omega (arith, lt)), tt), (own 5, refl), tt))

sums_fitted : FittedComposite program none_there none_main no_threads sight 5 sums
sums_fitted = (refl, (((λ k lt. omega (arith, lt)), tt), (omega arith, (tt, tt)), tt))

object_filled : Filled program 0
object_filled = (omega arith, (refl, tt))
