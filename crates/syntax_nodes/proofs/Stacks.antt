-- How the parts that are being joined change with the table and its roots.
use Rattle.std.proofs.Common.{◌≡◌, refl, sym, ◌∙◌, ap, subst, ℕ, zero, suc, ◌≤◌, ◌+◌, ◌-◌, get_or, List, [], ◌∷◌, ◌++◌, length, arith}
use Rattle.std.proofs.lemmas.List.{length-append}
use Rattle.syntax_nodes.specs.declared.nodes.Node.{Node}
use Rattle.syntax_nodes.specs.Parts.{TreePart}
use Rattle.syntax_nodes.specs.Tables.{of_node, part_at, NodeBelow, OrderedFrom, IsOrdered}
use Rattle.syntax_nodes.specs.Rooted.{stack, stacked, top, AllBelow, Fit}
use Rattle.syntax_nodes.proofs.Reading.{part_stable, part_last, part_zero}

stacked-snoc : (at : ℕ → TreePart) (rs : List ℕ) (r : ℕ) (s : List TreePart) → stacked at (rs ++ r ∷ []) s ≡ at r ∷ stacked at rs s
stacked-snoc at [] r s = refl
stacked-snoc at (q ∷ rs) r s = stacked-snoc at rs r (at q ∷ s)

pub stack-snoc : (ns : List Node) (rs : List ℕ) (r : ℕ) → stack ns (rs ++ r ∷ []) ≡ part_at ns r ∷ stack ns rs
unfolding stack
stack-snoc ns rs r = stacked-snoc (part_at ns) rs r []

pub stack_none : (ns : List Node) → stack ns [] ≡ []
unfolding stack
stack_none ns = refl

length-snoc : (ns : List Node) (n : Node) → length (ns ++ n ∷ []) ≡ suc (length ns)
length-snoc ns n = omega (arith, length-append ns (n ∷ []))

below-more : (n m : ℕ) (rs : List ℕ) → n ≤ m → AllBelow n rs → AllBelow m rs
below-more n m [] le h = h
below-more n m (r ∷ rs) le h = (omega (arith, h.0), below-more n m rs le h.1)

below-snoc : (n : ℕ) (rs : List ℕ) (r : ℕ) → AllBelow n rs → r ≤ n → AllBelow n (rs ++ r ∷ [])
below-snoc n [] r h k = (k, tt)
below-snoc n (q ∷ rs) r h k = (h.0, below-snoc n rs r h.1 k)

below-less : (n : ℕ) (rs : List ℕ) (r : ℕ) → AllBelow n (rs ++ r ∷ []) → AllBelow n rs
below-less n [] r h = tt
below-less n (q ∷ rs) r h = (h.0, below-less n rs r h.1)

below-last : (n : ℕ) (rs : List ℕ) (r : ℕ) → AllBelow n (rs ++ r ∷ []) → r ≤ n
below-last n [] r h = h.0
below-last n (q ∷ rs) r h = below-last n rs r h.1

ordered-from : (ns : List Node) (b : ℕ) (n : Node) → OrderedFrom b ns → NodeBelow (b + length ns) n → OrderedFrom b (ns ++ n ∷ [])
ordered-from [] b n o h = let z : b + 0 ≡ b = omega arith in (subst (λ x. NodeBelow x n) z h, tt)
ordered-from (m ∷ ns) b n o h = let z : b + suc (length ns) ≡ (b + 1) + length ns = omega arith in (o.0, ordered-from ns (b + 1) n o.1 (subst (λ x. NodeBelow x n) z h))

ordered-put : (ns : List Node) (n : Node) → IsOrdered ns → NodeBelow (length ns + 1) n → IsOrdered (ns ++ n ∷ [])
unfolding IsOrdered
ordered-put ns n o h = let z : length ns + 1 ≡ 1 + length ns = omega arith in ordered-from ns 1 n o (subst (λ x. NodeBelow x n) z h)

pub fit_none : Fit [] []
unfolding IsOrdered
fit_none = record { ordered = tt; below = tt }

pub fit-less : (ns : List Node) (rs : List ℕ) (r : ℕ) → Fit ns (rs ++ r ∷ []) → Fit ns rs
fit-less ns rs r f = record { ordered = f.ordered; below = below-less (length ns) rs r f.below }

pub fit-last : (ns : List Node) (rs : List ℕ) (r : ℕ) → Fit ns (rs ++ r ∷ []) → r ≤ length ns
fit-last ns rs r f = below-last (length ns) rs r f.below

pub fit-hold : (ns : List Node) (rs : List ℕ) (r : ℕ) → r ≤ length ns → Fit ns rs → Fit ns (rs ++ r ∷ [])
fit-hold ns rs r k f = record { ordered = f.ordered; below = below-snoc (length ns) rs r f.below k }

pub fit-more : (ns : List Node) (n : Node) (rs : List ℕ) → NodeBelow (length ns + 1) n → Fit ns rs → Fit (ns ++ n ∷ []) rs
fit-more ns n rs b f = record {
  ordered = ordered-put ns n f.ordered b;
  below = below-more (length ns) (length (ns ++ n ∷ [])) rs (omega (arith, length-snoc ns n)) f.below;
}

stacked-more : (ns : List Node) (n : Node) (rs : List ℕ) (s : List TreePart) → AllBelow (length ns) rs → stacked (part_at (ns ++ n ∷ [])) rs s ≡ stacked (part_at ns) rs s
stacked-more ns n [] s h = refl
stacked-more ns n (r ∷ rs) s h = rw (part_stable ns (n ∷ []) r h.0) (stacked-more ns n rs (part_at ns r ∷ s) h.1)

pub add-kept : (ns : List Node) (n : Node) (rs : List ℕ) → Fit ns rs → stack (ns ++ n ∷ []) rs ≡ stack ns rs
unfolding stack
add-kept ns n rs f = stacked-more ns n rs [] f.below

pub add-is : (ns : List Node) (n : Node) (k : ℕ) → k ≡ length ns + 1 → (part_at (ns ++ n ∷ []) k ≡ of_node (part_at ns) n) × (k ≤ length (ns ++ n ∷ []))
add-is ns n k e = (rw e (part_last ns n), omega (arith, e, length-snoc ns n))

-- ---- the latest root

stacked-last : (at : ℕ → TreePart) (rs : List ℕ) (s : List TreePart) (n : ℕ) → length rs ≡ suc n → top (stacked at rs s) ≡ at (get_or rs n 0)
stacked-last at [] s n e = let k : ⊥ = omega (arith, e) in absurd k
stacked-last at (r ∷ []) s zero e = refl
stacked-last at (r ∷ []) s (suc n) e = let k : ⊥ = omega (arith, e) in absurd k
stacked-last at (r ∷ q ∷ rs) s zero e = let k : ⊥ = omega (arith, e) in absurd k
stacked-last at (r ∷ q ∷ rs) s (suc n) e = stacked-last at (q ∷ rs) (at r ∷ s) n (omega (arith, e))

pub latest-none : (ns : List Node) (rs slice : List ℕ) → slice ≡ rs → length slice ≡ 0 → part_at ns 0 ≡ top (stack ns rs)
latest-none ns rs [] e z = rw (sym e) (part_zero ns ∙ ap top (sym (stack_none ns)))
latest-none ns rs (r ∷ slice) e z = let k : ⊥ = omega (arith, z) in absurd k

pub latest-last : (ns : List Node) (rs slice : List ℕ) → slice ≡ rs → (length slice ≡ 0 → ⊥) → part_at ns (get_or slice (length slice - 1) 0) ≡ top (stack ns rs)
unfolding stack
latest-last ns rs slice e some = let l : length slice ≡ suc (length slice - 1) = omega (arith, some) in sym (subst (λ z. top (stack ns z) ≡ part_at ns (get_or slice (length slice - 1) 0)) e (stacked-last (part_at ns) slice [] (length slice - 1) l))
