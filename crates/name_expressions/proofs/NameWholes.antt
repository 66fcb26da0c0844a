-- Arguments that are judged for themselves, and indexes.
use Rattle.std.proofs.Common.{◌≡◌, ◌≢◌, refl, sym, ap, ◌∙◌, ℕ, Bool, true, false, ◌⊎◌, length, drop, List, Option, Some, None}
use Rattle.syntax_tree.specs.Syntax as syntax
use Rattle.syntax_tree.specs.Syntax.{Arg, Args}
use Rattle.typed_tree.specs.Decoded.{TypedPart}
use Rattle.name_expressions.proofs.Wholes.{gone}
use Rattle.name_rules.specs.Expressions.{Inside}
use Rattle.name_rules.specs.Judges.{part_if}
use Rattle.name_rules.specs.Names.{arg_alone, args_alone, count, index, index_shape, indexed, indexes}
use Rattle.name_rules.specs.Parts.{part_alone}
use Rattle.name_rules.specs.Types.{component_of, dimensions_of}
use Rattle.name_rules.specs.declared.found.ObjectName.{ObjectName}
use Rattle.name_rules.specs.declared.log.Dimension.{Dimension}
use Rattle.name_rules.specs.declared.log.Log.{Log}
use Rattle.name_rules.specs.declared.log.Shape.{Shape}
use Rattle.name_rules.specs.declared.scope.Context.{Context}
use Rattle.name_rules.specs.declared.scope.Names.{Names}

pub call_alone : (names : Names) (inside : Inside) (here : Context) (bracket : ℕ) (a : Arg) (as' : Args) (log b c : Log)
    → arg_alone names inside here a log ≡ (tt, b) → args_alone names inside here as' b ≡ (tt, c)
    → part_alone names inside here (syntax.Call bracket a as') log ≡ (None, c)
call_alone names inside here bracket a as' log b c e f =
    ap (λ (r : Unit {0} × Log). (None, (args_alone names inside here as' r.1).1)) e ∙ ap (λ (r : Unit {0} × Log). (None, r.1)) f

none_if : (b : Bool) (p : TypedPart) → b ≡ false → part_if b p ≡ None
none_if b p e = rw e refl

pub shape_gone : (names : Names) (inside : Inside) (here : Context) (place : ObjectName) (ss : TypedPart) (bracket : ℕ) (a : Arg) (as' : Args) (t : Option Shape) (cells cells' : ℕ) (ds : List Dimension) (log b c : Log) (x : Option TypedPart) (r : Bool) (p : TypedPart) (m n : ℕ)
    → ds ≡ dimensions_of t → cells' ≡ cells
    → index names inside here (drop 0 ds) cells' (part_if true ss) a log ≡ (x, b) → indexes names inside here (drop 1 ds) cells' x as' b ≡ (part_if r p, c)
    → m ≡ length log.faults → n ≡ length c.faults → (n ≢ m) ⊎ ((n ≡ m) × (r ≡ false))
    → index_shape names inside here place ss bracket (syntax.AlsoArg a as') t cells log ≡ (None, c)
shape_gone names inside here place ss bracket a as' t cells cells' ds log b c x r p m n d e f g h i j =
    gone (indexes names inside here (dimensions_of t) cells (Some ss) (syntax.AlsoArg a as')) (indexed place bracket (length (dimensions_of t)) (count (syntax.AlsoArg a as')) (component_of t))
    log c (part_if r p) m n r
    (ap (λ (k : List Dimension). indexes names inside here k cells (Some ss) (syntax.AlsoArg a as') log) (sym d)
    ∙ (ap (λ (k : ℕ). indexes names inside here ds k (Some ss) (syntax.AlsoArg a as') log) (sym e)
    ∙ (ap (λ (o : Option TypedPart × Log). indexes names inside here (drop 1 ds) cells' o.0 as' o.1) f ∙ g)))
    h i (none_if r p) j
