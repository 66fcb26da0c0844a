use Rattle.std.proofs.Common.{refl, sym, ap, rules, arith, FitsSigned, w64}
use Rattle.std.proofs.lemmas.Int.{to_z-of_z}
use Rattle.ada_io.specs.declared.input.GetEnd.TheVariants.{Number}
use Rattle.ada_io.proofs.Reaches.{got_of, still, begins, fewer, looks, faults, spends, asks, gives, raises, seen}
use Rattle.ada_io.proofs.input.Reader.get.Goals as goal

pub loop-symbol-init : goal.loop-symbol-init
loop-symbol-init g c = (refl, begins _ _ _, omega arith)

pub loop-symbol-preserved : goal.loop-symbol-preserved
loop-symbol-preserved g c =
    let going = asks _ _ _ _ _ _ _ _ _ (looks _ _ _ _ _ _ _ _ _ _ _ _ _ c.loop-symbol.invariant.1 c.in-At.ensures) c.in-Asks.ensures in
    (c.loop-symbol.invariant.0, going, fewer _ _ _ _ _ _ _ _ going)

pub returns-in-Gives : goal.returns-in-Gives
returns-in-Gives g c =
    let fits : FitsSigned w64 c.in-Gives.value = search rules in
    seen _ _ _ _ _ _ _ _ _ c.self.view_is refl (ap (λ v. got_of (Number v) c.look.new.took c.look.new.came) (sym (to_z-of_z w64 c.in-Gives.value fits)))
    (gives _ _ _ _ _ _ _ _ _ (looks _ _ _ _ _ _ _ _ _ _ _ _ _ c.loop-symbol.invariant.1 c.in-At.ensures) c.in-Gives.ensures)

pub returns-in-Raises : goal.returns-in-Raises
returns-in-Raises g c =
    seen _ _ _ _ _ _ _ _ _ c.self.view_is refl refl
    (raises _ _ _ _ _ _ _ _ _ (looks _ _ _ _ _ _ _ _ _ _ _ _ _ c.loop-symbol.invariant.1 c.in-At.ensures) c.in-Raises.ensures)

pub returns-in-ReadFault : goal.returns-in-ReadFault
returns-in-ReadFault g c =
    seen _ _ _ _ _ _ _ _ _ c.self.view_is (still (sym c.loop-symbol.invariant.0)) refl
    (faults _ _ _ _ _ _ _ _ _ _ _ _ c.loop-symbol.invariant.1 c.in-ReadFault.ensures)

pub returns-in-Spent : goal.returns-in-Spent
returns-in-Spent g c =
    seen _ _ _ _ _ _ _ _ _ c.self.view_is (still (sym c.loop-symbol.invariant.0)) refl
    (spends _ _ _ _ _ _ _ _ _ _ _ _ c.loop-symbol.invariant.1 c.in-Spent.ensures)
