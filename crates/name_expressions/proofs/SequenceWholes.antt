-- Reductions of value sequences, whose faults are of reduction rules alone.
use Rattle.std.proofs.Common.{◌≡◌, refl, sym, ap, ◌∙◌, ℕ, Bool, length, drop, Option}
use Rattle.std.specs.List.{list_all}
use Rattle.std.specs.Prelude.{is_some}
use Rattle.syntax_tree.specs.Syntax.{Expr, Iter, OptionalParallel}
use Rattle.name_rules.specs.Attributes.{attribute_at}
use Rattle.name_rules.specs.Expressions.{Inside}
use Rattle.name_rules.specs.Found.{Found}
use Rattle.name_rules.specs.Iterations.{is_reduce_rule, only_reduce_rules, sequence, sequence_folded, sequence_rules}
use Rattle.name_rules.specs.Judging.{Judging, unless, ◌>>=◌}
use Rattle.name_rules.specs.Symbols.{symbol}
use Rattle.name_rules.specs.declared.found.Attribute.{Attribute}
use Rattle.name_rules.specs.declared.log.Log.{Log}
use Rattle.name_rules.specs.declared.log.Rule.TheVariants.{Unknown}
use Rattle.name_rules.specs.declared.scope.Context.{Context}
use Rattle.name_rules.specs.declared.scope.Names.{Names}

rules_behind : {A : Type 0} (p : Judging A) (f : A × Bool → Judging (Option Found)) (log now : Log) (a : A) (from : ℕ) (clean : Bool)
    → p log ≡ (a, now) → from ≡ length log.faults → clean ≡ list_all (λ x. is_reduce_rule x.rule) (drop from now.faults)
    → (only_reduce_rules p >>= f) log ≡ f (a, clean) now
rules_behind p f log now a from clean e h i = rw (e, i, h) refl

pub sequence_whole : (names : Names) (level : Inside) (here : Context) (bracket : ℕ) (p : OptionalParallel) (i : Iter) (value : Expr) (attribute : ℕ) (reducer initial : Expr) (log now end : Log) (which : Option Attribute) (symbol' from : ℕ) (folded : Option ℕ × Option Found) (clean : Bool)
    → which ≡ attribute_at symbol' → symbol' ≡ symbol names attribute → unless (is_some which) attribute Unknown log ≡ (tt, now)
    → sequence_folded names level here bracket p i value attribute reducer initial now ≡ (folded, end)
    → from ≡ length now.faults → clean ≡ list_all (λ x. is_reduce_rule x.rule) (drop from end.faults)
    → sequence names level here bracket p i value attribute reducer initial log ≡ sequence_rules attribute which (folded, clean) end
unfolding sequence
sequence_whole names level here bracket p i value attribute reducer initial log now end which symbol' from folded clean e f g h j k =
    let w : which ≡ attribute_at (symbol names attribute) = e ∙ ap attribute_at f in
    ap (λ a. (unless (is_some a) attribute Unknown >>= λ u. only_reduce_rules (sequence_folded names level here bracket p i value attribute reducer initial) >>= sequence_rules attribute a) log) (sym w)
    ∙ (ap (λ (r : Unit {0} × Log). (only_reduce_rules (sequence_folded names level here bracket p i value attribute reducer initial) >>= sequence_rules attribute which) r.1) g
    ∙ rules_behind (sequence_folded names level here bracket p i value attribute reducer initial) (sequence_rules attribute which) now end folded from clean h j k)
