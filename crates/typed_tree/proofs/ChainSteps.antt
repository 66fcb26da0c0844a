-- Operators taken from the end of a chain, or put there.
use Rattle.std.specs.Prelude.{◌≡◌, ℕ, ◌<◌, ◌≤◌, ◌+◌, List, [], ◌∷◌, ◌++◌, length, take, drop}
use Rattle.std.proofs.Common.{refl, ap, sym, subst, ◌∙◌, arith}
use Rattle.std.proofs.lemmas.List.{length-append, append_assoc, append-nil, take-append-drop, take-append-le, drop-append-le}
use Rattle.std.proofs.Math.Seq.{drop-append_seam, take-append_seam, drop-length, take-length}
use Rattle.std.proofs.Math.ListN.{drop_of_length-le}
use Rattle.typed_tree.specs.declared.node.Link.{Link}
use Rattle.typed_tree.specs.declared.node.Node.{Node}
use Rattle.typed_tree.specs.Syntax.{Expr}
use Rattle.typed_tree.specs.Decoded.{TypedPart, part_at, expr_at}
use Rattle.typed_tree.specs.Chained.{applied, linked, right_of, AreBelow}

-- the operator that is applied first
pub linked_end : (ls : List Link) (at : ℕ → TypedPart) (l : Link) (e : Expr) → linked at (ls ++ l ∷ []) e ≡ linked at ls (applied at l e)
linked_end [] at l e = refl
linked_end (m ∷ ls) at l e = ap (λ x. applied at m x) (linked_end ls at l e)

pub below_end : (ls : List Link) (k : ℕ) (l : Link) → AreBelow k ls → right_of l < k → AreBelow k (ls ++ l ∷ [])
below_end [] k l b h = (h, tt)
below_end (m ∷ ls) k l b h = (b.0, below_end ls k l b.1 h)

pub below_front : (ls : List Link) (k : ℕ) (l : Link) → AreBelow k (ls ++ l ∷ []) → AreBelow k ls × (right_of l < k)
below_front [] k l b = (tt, b.0)
below_front (m ∷ ls) k l b = let c = below_front ls k l b.1 in ((b.0, c.0), c.1)

-- a loop that has come down to `first`

pub record Down (nodes : List Node) (id first : ℕ) (old new : List Link) : Type 0 where
  pub is : expr_at nodes id ≡ linked (part_at nodes) (drop (length old) new) (expr_at nodes first)
  pub least : first ≤ id
  pub same : take (length old) new ≡ old
  pub below : AreBelow id (drop (length old) new)

pub down_begin : (nodes : List Node) (id : ℕ) (old : List Link) → Down nodes id id old old
down_begin nodes id old = record { is = rw (drop-length old) refl; least = omega arith; same = take-length old; below = rw (drop-length old) tt }

pub down_step : (nodes : List Node) (id first left : ℕ) (old cur : List Link) (l : Link) → Down nodes id first old cur → expr_at nodes first ≡ applied (part_at nodes) l (expr_at nodes left) → left < first → right_of l < first → Down nodes id left old (cur ++ l ∷ [])
down_step nodes id first left old cur l d e lt rt =
    let s : cur ≡ old ++ drop (length old) cur = sym (take-append-drop (length old) cur) ∙ ap (λ x. x ++ drop (length old) cur) d.same in
    let t : cur ++ l ∷ [] ≡ old ++ (drop (length old) cur ++ l ∷ []) = ap (λ x. x ++ l ∷ []) s ∙ append_assoc old (drop (length old) cur) (l ∷ []) in
    let u : drop (length old) (cur ++ l ∷ []) ≡ drop (length old) cur ++ l ∷ [] = subst (λ x. drop (length old) x ≡ drop (length old) cur ++ l ∷ []) (sym t) (drop-append_seam old (drop (length old) cur ++ l ∷ [])) in
    record {
      is = d.is ∙ (ap (λ x. linked (part_at nodes) (drop (length old) cur) x) e ∙ (sym (linked_end (drop (length old) cur) (part_at nodes) l (expr_at nodes left)) ∙ ap (λ x. linked (part_at nodes) x (expr_at nodes left)) (sym u)));
      least = omega (arith, d.least, lt);
      same = subst (λ x. take (length old) x ≡ old) (sym t) (take-append_seam old (drop (length old) cur ++ l ∷ []));
      below = subst (λ x. AreBelow id x) (sym u) (below_end (drop (length old) cur) id l d.below (omega (arith, rt, d.least)));
    }

-- a loop that takes operators from the end, down to the first `old` of them

pub pop_step : (old cur next : List Link) (l : Link) → take (length old) cur ≡ old → length old < length cur → cur ≡ next ++ l ∷ [] → (take (length old) next ≡ old) × (drop (length old) cur ≡ drop (length old) next ++ l ∷ [])
pop_step old cur next l t h e =
    let n : length cur ≡ length next + 1 = omega (arith, ap length e, length-append next (l ∷ [])) in
    let k : length old ≤ length next = omega (arith, n, h) in (
      sym (take-append-le (length old) next (l ∷ []) k) ∙ (sym (ap (λ x. take (length old) x) e) ∙ t),
      ap (λ x. drop (length old) x) e ∙ drop-append-le (length old) next (l ∷ []) k,
    )

pushed_on : (old rest cur : List Link) (l : Link) → cur ≡ old ++ (l ∷ rest) → (take (length old) cur ≡ old) × (drop (length old) cur ≡ l ∷ rest)
pushed_on old rest cur l e = (
  subst (λ x. take (length old) x ≡ old) (sym e) (take-append_seam old (l ∷ rest)),
  subst (λ x. drop (length old) x ≡ l ∷ rest) (sym e) (drop-append_seam old (l ∷ rest)),
)

-- an operator that is put on before the rest of its chain
pub push_step : (old cur : List Link) (l : Link) → take (length (old ++ l ∷ [])) cur ≡ old ++ l ∷ [] → (take (length old) cur ≡ old) × (drop (length old) cur ≡ l ∷ drop (length (old ++ l ∷ [])) cur)
push_step old cur l t = pushed_on old (drop (length (old ++ l ∷ [])) cur) cur l
    (sym (take-append-drop (length (old ++ l ∷ [])) cur) ∙ (ap (λ x. x ++ drop (length (old ++ l ∷ [])) cur) t ∙ append_assoc old (l ∷ []) (drop (length (old ++ l ∷ [])) cur)))

pub stack_none : (old cur : List Link) → take (length old) cur ≡ old → length cur ≤ length old → (cur ≡ old) × (drop (length old) cur ≡ [])
stack_none old cur t h =
    let d : drop (length old) cur ≡ [] = drop_of_length-le cur h in
    (sym (take-append-drop (length old) cur) ∙ (ap (λ x. x ++ drop (length old) cur) t ∙ (ap (λ x. old ++ x) d ∙ append-nil old)), d)
