-- Chains of universal expressions, link by link.
use Rattle.std.proofs.Common.{◌≡◌, refl, sym, ◌∙◌, ap, subst, ℕ, suc, ◌<◌, List, [], ◌∷◌, ◌++◌, arith}
use Rattle.typed_tree.specs.declared.node.Node.{Node}
use Rattle.typed_tree.specs.declared.scalars.Class.{Class}
use Rattle.typed_tree.specs.Decoded.{TypedPart, AnExpr, as_expr, part_at}
use Rattle.typed_tree.specs.Syntax.{Expr}
use Rattle.typed_tree.specs.Classes.{with_class}
use Rattle.typed_tree.specs.Latest.{top, pop}
use Rattle.typed_parts.specs.ClassChains.{joined, rejoined, GoesOn, Leads}
use Rattle.typed_parts.specs.Stack.{AllBelow}
use Rattle.typed_parts.proofs.Stacks.{below_end, below_front}

pub rejoined_end : (c : Class) (at : ℕ → TypedPart) (ks : List ℕ) (k : ℕ) (e : Expr) → rejoined c at (ks ++ k ∷ []) e ≡ rejoined c at ks (joined c (as_expr (at k)) e)
rejoined_end c at [] k e = refl
rejoined_end c at (j ∷ ks) k e = ap (λ x. joined c (as_expr (at j)) x) (rejoined_end c at ks k e)

pub leads_begin : (at : ℕ → TypedPart) (k : ℕ) → Leads at k [] k
leads_begin at k = record { is = λ c. refl; below = tt; least = omega arith }

pub leads_on : (at : ℕ → TypedPart) (from : ℕ) (over : List ℕ) (to next : ℕ) → Leads at from over to → next < to → GoesOn at to next → Leads at from (over ++ to ∷ []) next
leads_on at from over to next l lt g = record {
  is = λ c. l.is c ∙ (ap (λ x. rejoined c at over x) (g c) ∙ sym (rejoined_end c at over to (with_class c (as_expr (at next)))));
  below = below_end (suc from) over to l.below (omega (arith, l.least));
  least = omega (arith, l.least, lt);
}

-- a loop that rejoins a chain from its last expression on

pub record Rejoins (class : Class) (ns : List Node) (id : ℕ) (chain : List ℕ) (before now : List TypedPart) : Type 0 where
  pub held : now ≡ AnExpr (as_expr (top now)) ∷ before
  pub is : rejoined class (part_at ns) chain (as_expr (top now)) ≡ with_class class (as_expr (part_at ns id))
  pub below : AllBelow (suc id) chain

pub link_below : (id : ℕ) (chain rest : List ℕ) (link : ℕ) → chain ≡ rest ++ link ∷ [] → AllBelow (suc id) chain → AllBelow (suc id) rest × (link < suc id)
link_below id chain rest link e b = below_front (suc id) rest link (subst (AllBelow (suc id)) e b)

pub rejoins_on : (class : Class) (ns ms : List Node) (id : ℕ) (chain rest : List ℕ) (link : ℕ) (before now later : List TypedPart) → Rejoins class ns id chain before now
    → chain ≡ rest ++ link ∷ [] → part_at ms link ≡ part_at ns link → later ≡ AnExpr (joined class (as_expr (part_at ms link)) (as_expr (top now))) ∷ pop now
    → Rejoins class ns id rest before later
rejoins_on class ns ms id chain rest link before now later r e same l =
    let e' : Expr = joined class (as_expr (part_at ns link)) (as_expr (top now)) in
    let here : later ≡ AnExpr e' ∷ before = l ∙ (ap (λ x. AnExpr (joined class (as_expr x) (as_expr (top now))) ∷ pop now) same ∙ ap (λ x. AnExpr e' ∷ pop x) r.held) in
    let first : as_expr (top later) ≡ e' = ap (λ x. as_expr (top x)) here in
    record {
      held = here ∙ ap (λ x. AnExpr x ∷ before) (sym first);
      is = ap (λ x. rejoined class (part_at ns) rest x) first ∙ (sym (rejoined_end class (part_at ns) rest link (as_expr (top now))) ∙ (ap (λ x. rejoined class (part_at ns) x (as_expr (top now))) (sym e) ∙ r.is));
      below = (link_below id chain rest link e r.below).0;
    }
