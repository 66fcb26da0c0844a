-- What is around the body of an iteration is right, where what is around the iteration is.
use Rattle.std.proofs.Common.{ℕ, Option, Some, None, Bool, true, false, if◌then◌else◌, [], ◌∷◌, length}
use Rattle.syntax_tree.specs.Syntax as syntax
use Rattle.syntax_tree.specs.Syntax.{Iter, OptionalExpr, OptionalParallel, Parallel}
use Rattle.typed_tree.specs.Syntax.{Selections}
use Rattle.typed_tree.specs.declared.program.SiteKind.{SiteKind}
use Rattle.name_rules.specs.Expressions.{Inside}
use Rattle.name_rules.specs.Found.{Bounded, Denoted}
use Rattle.name_rules.specs.Iterations as i
use Rattle.name_rules.specs.Iterations.{Chunked}
use Rattle.name_rules.specs.Judging.{◌>>=◌, breaks, pure}
use Rattle.name_rules.specs.Names.{is_array}
use Rattle.name_rules.specs.Parts.{array_shape, new_parameter, new_site}
use Rattle.name_rules.specs.Ranges.{range}
use Rattle.name_rules.specs.Scope.{entry}
use Rattle.name_rules.specs.Symbols.{symbol}
use Rattle.name_rules.specs.Types.{component_of}
use Rattle.name_rules.specs.declared.found.Denoted.TheVariants as denoted
use Rattle.name_rules.specs.declared.found.Denoted.{Denoted as Known}
use Rattle.name_rules.specs.declared.found.Found.TheVariants as known
use Rattle.name_rules.specs.declared.found.ObjectName.{ObjectName}
use Rattle.name_rules.specs.declared.log.Log.{Log}
use Rattle.name_rules.specs.declared.log.Rule.TheVariants.{WrongType}
use Rattle.name_rules.specs.declared.scope.Context.{Context}
use Rattle.name_rules.specs.declared.scope.Names.{Names}
use Rattle.name_rules.specs.declared.types.Subtype.{Subtype}
use Rattle.name_laws.proofs.CellsSound.{AreRight, IsRightWhat, are_both}

parameter-right : (n m : ℕ) (b : Option Bounded) → IsRightWhat n (i.parameter_what m b)
parameter-right n m None = tt
parameter-right n m (Some b) = tt

item-right : (n m : ℕ) (v : Bool) (t : Option Subtype) → IsRightWhat n (i.item_what m v t)
item-right n m v None = tt
item-right n m v (Some s) = tt

over-right : (n m token : ℕ) (f : OptionalExpr) (d : Option Denoted) (log : Log) → IsRightWhat n (i.over_denoted m token f d log).0.entry
over-right n m token f None log = tt
over-right n m token f (Some d) log = by d.known
  where
    over : (p : ObjectName) (x : Selections) (b : Bool) → IsRightWhat n ((if b then pure (i.array_walked log m token f p x (array_shape log p.subtype)) else (breaks p.first WrongType >>= λ u. pure (i.no_array token f))) log).0.entry
    over p x true = item-right n m p.variable (component_of (array_shape log p.subtype))
    over p x false = tt

    by : (k : Known) → IsRightWhat n (i.over_form m token f k d.part log).0.entry
    by (denoted.Value (known.Object p)) = over p _ (is_array (array_shape log p.subtype))
    by k = tt

walked-right : (n : ℕ) (level : Inside) (here : Context) (x : Iter) (log : Log) → IsRightWhat n (i.walked level here x log).0.entry
unfolding i.walked
walked-right n level here (syntax.InRange index back r f) log = let b = range level here r log in parameter-right n _ b.0
walked-right n level here (syntax.OfName index x f) log = let d = level.name here x log in let m = new_parameter d.1 in over-right n m.0 index f d.0 m.1

chunk-right : (n : ℕ) (names : Names) (inner : Inside) (here : Context) (p : Parallel) (log : Log) (around : Context) → AreRight n around.scope
    → AreRight n (i.with_chunk names around (i.chunked_by inner here p log).0.entry).scope
unfolding i.chunked_by
chunk-right n names inner here (syntax.Unchunked at) log around h = h
chunk-right n names inner here (syntax.Counted at s) log around h = h
chunk-right n names inner here (syntax.Chunked at index r) log around h =
    let b = range inner here r log in
    let m = new_parameter b.1 in
    are_both n around.scope (entry (symbol names index) (i.parameter_what m.0 b.0) ∷ []) h (parameter-right n m.0 b.0, tt)

with-right : (n : ℕ) (names : Names) (level : Inside) (here : Context) (construct : Option ℕ) (start : ℕ) (c : Chunked) (x : Iter) (log : Log)
    → AreRight n (i.with_chunk names (i.in_construct names here construct) c.entry).scope → AreRight n (i.entered_with names level here construct start c x log).0.here.scope
unfolding i.entered_with
with-right n names level here construct start c x log h =
    let w = i.walked level here x log in
    are_both n _ (entry (symbol names w.0.token) w.0.entry ∷ []) h (walked-right n level here x log, tt)

pub entered-right : (n : ℕ) (names : Names) (level inner : Inside) (here : Context) (k : SiteKind) (p : OptionalParallel) (x : Iter) (log : Log) → AreRight n here.scope
    → AreRight n (i.entered names level inner here k p x log).0.here.scope
unfolding i.entered
entered-right n names level inner here k syntax.AbsentParallel x log h = with-right n names level here None (length here.scope) _ x log h
entered-right n names level inner here k (syntax.PresentParallel p) x log h =
    let s = new_site here (i.parallel_at p) k log in
    let c = i.chunked_by inner here p s.1 in
    with-right n names level here (Some s.0) (length here.scope) c.0 x c.1 (chunk-right n names inner here p s.1 (i.in_construct names here (Some s.0)) h)
