-- What the numbers of a table stand for: stable under what is put after, and as the nodes say.
use Rattle.std.specs.Prelude.{◌≡◌, ℕ, ◌<◌, ◌≤◌, ◌+◌, ◌-◌, List, [], ◌∷◌, ◌++◌, length, take, drop, slice_get, Some, None}
use Rattle.std.proofs.Common.{zero, suc, refl, ap, subst, sym, ◌∙◌, arith}
use Rattle.std.proofs.lemmas.List.{length-append, append_assoc, get_or_past, length-take-le}
use Rattle.std.proofs.lemmas.Option.{slice_get_within}
use Rattle.std.proofs.Math.ListN.{get_or-append}
use Rattle.std.proofs.Math.Seq.{get_or-append_seam}
use Rattle.syntax_nodes.specs.declared.nodes.Node.{Node}
use Rattle.syntax_nodes.specs.declared.nodes.Node.TheVariants as node
use Rattle.syntax_nodes.specs.Parts.{TreePart, Nothing}
use Rattle.syntax_nodes.specs.Tables.{of_node, among, parts_from, part_at, NodeBelow, OrderedFrom, IsOrdered}

-- the same below a number
abbrev pub Agree : ℕ → (ℕ → TreePart) → (ℕ → TreePart) → Type 0
Agree k f g = (j : ℕ) → j < k → f j ≡ g j

-- what a node stands for depends on its parts alone
pub node_agrees : (k : ℕ) (f g : ℕ → TreePart) → Agree k f g → (n : Node) → NodeBelow k n → of_node f n ≡ of_node g n
node_agrees k f g e node.Nothing b = refl
node_agrees k f g e (node.Leaf x) b = refl
node_agrees k f g e (node.One x p) b = rw (e p b) refl
node_agrees k f g e (node.Two x q p) b = rw (e q b.0, e p b.1) refl
node_agrees k f g e (node.Three x r q p) b = rw (e r b.0, e q b.1, e p b.2) refl
node_agrees k f g e (node.Four x s r q p) b = rw (e s b.0, e r b.1, e q b.2, e p b.3) refl
node_agrees k f g e (node.Also x q p) b = rw (e q b.0, e p b.1) refl
node_agrees k f g e (node.Cell q p) b = rw (e q b.0, e p b.1) refl

parts_from-append : (ns ms : List Node) (ps : List TreePart) → parts_from ps (ns ++ ms) ≡ parts_from (parts_from ps ns) ms
parts_from-append [] ms ps = refl
parts_from-append (n ∷ ns) ms ps = parts_from-append ns ms _

parts_from-length : (ns : List Node) (ps : List TreePart) → length (parts_from ps ns) ≡ length ps + length ns
parts_from-length [] ps = omega arith
parts_from-length (n ∷ ns) ps = omega (arith, parts_from-length ns (ps ++ of_node (among ps) n ∷ []), length-append ps (of_node (among ps) n ∷ []))

parts_from-kept : (ns : List Node) (ps : List TreePart) (k : ℕ) → k < length ps → among (parts_from ps ns) k ≡ among ps k
parts_from-kept [] ps k h = refl
parts_from-kept (n ∷ ns) ps k h =
    parts_from-kept ns (ps ++ of_node (among ps) n ∷ []) k (omega (arith, length-append ps (of_node (among ps) n ∷ [])))
    ∙ get_or-append ps (of_node (among ps) n ∷ []) Nothing k h

all-length : (ns : List Node) → length (parts_from (Nothing ∷ []) ns) ≡ length ns + 1
all-length ns = omega (arith, parts_from-length ns (Nothing ∷ []))

-- number 0 is nothing
pub part_zero : (ns : List Node) → part_at ns 0 ≡ Nothing
unfolding part_at
part_zero ns = parts_from-kept ns (Nothing ∷ []) 0 (omega arith)

-- what stands after a part changes nothing
pub part_stable : (ns more : List Node) (k : ℕ) → k ≤ length ns → part_at (ns ++ more) k ≡ part_at ns k
unfolding part_at
part_stable ns more k h = rw (parts_from-append ns more (Nothing ∷ [])) (parts_from-kept more (parts_from (Nothing ∷ []) ns) k (omega (arith, all-length ns)))

-- the last node
pub part_last : (ns : List Node) (n : Node) → part_at (ns ++ n ∷ []) (length ns + 1) ≡ of_node (part_at ns) n
unfolding part_at
part_last ns n =
    let e : length (parts_from (Nothing ∷ []) ns) ≡ length ns + 1 = all-length ns in
    rw (parts_from-append ns (n ∷ []) (Nothing ∷ []), ← e) (get_or-append_seam (parts_from (Nothing ∷ []) ns) (of_node (among (parts_from (Nothing ∷ []) ns)) n) [] Nothing)

pub part_past : (ns : List Node) (k : ℕ) → length ns < k → part_at ns k ≡ Nothing
unfolding part_at
part_past ns k h = get_or_past (parts_from (Nothing ∷ []) ns) k Nothing (omega (arith, all-length ns))

node_below : (ns : List Node) (b k : ℕ) (n : Node) → OrderedFrom b ns → slice_get ns k ≡ Some n → NodeBelow (b + k) n
node_below [] b k n o h = absurd (cc)
node_below (m ∷ ns) b zero n o h =
    let e : m ≡ n = cc in
    let z : b ≡ b + 0 = omega arith in
    subst (λ x. NodeBelow x n) z (subst (λ x. NodeBelow b x) e o.0)
node_below (m ∷ ns) b (suc k) n o h =
    let z : (b + 1) + k ≡ b + suc k = omega arith in
    subst (λ x. NodeBelow x n) z (node_below ns (b + 1) k n o.1 h)

pub part_below : (ns : List Node) (k : ℕ) (n : Node) → IsOrdered ns → slice_get ns k ≡ Some n → NodeBelow (k + 1) n
unfolding IsOrdered
part_below ns k n o h =
    let z : 1 + k ≡ k + 1 = omega arith in
    subst (λ x. NodeBelow x n) z (node_below ns 1 k n o h)

pub split_at : (ns : List Node) (k : ℕ) (n : Node) → slice_get ns k ≡ Some n → ns ≡ (take k ns ++ n ∷ []) ++ drop (k + 1) ns
split_at [] k n h = absurd (cc)
split_at (m ∷ ns) zero n h = cc
split_at (m ∷ ns) (suc k) n h =
    let z : suc k + 1 ≡ suc (k + 1) = omega arith in
    rw z (ap (λ x. m ∷ x) (split_at ns k n h))

read_within : (ns as' rest : List Node) (n : Node) → ns ≡ (as' ++ n ∷ []) ++ rest → NodeBelow (length as' + 1) n → part_at ns (length as' + 1) ≡ of_node (part_at ns) n
read_within ns as' rest n e below =
    let same : Agree (length as' + 1) (part_at as') (part_at ns) =
    λ j lt. sym (subst (λ x. part_at x j ≡ part_at as' j) (sym (e ∙ append_assoc as' (n ∷ []) rest)) (part_stable as' (n ∷ rest) j (omega (arith, lt)))) in
    let here : part_at ns (length as' + 1) ≡ of_node (part_at as') n =
    subst (λ x. part_at x (length as' + 1) ≡ of_node (part_at as') n) (sym e)
    (part_stable (as' ++ n ∷ []) rest (length as' + 1) (omega (arith, length-append as' (n ∷ []))) ∙ part_last as' n) in
    here ∙ node_agrees (length as' + 1) (part_at as') (part_at ns) same n below

-- a node of an ordered table stands for what it says
pub part_read : (ns : List Node) (k : ℕ) (n : Node) → IsOrdered ns → slice_get ns k ≡ Some n → part_at ns (k + 1) ≡ of_node (part_at ns) n
part_read ns k n o h =
    let lt : k < length ns = slice_get_within ns k n h in
    let z : length (take k ns) + 1 ≡ k + 1 = omega (arith, length-take-le k ns (omega arith)) in
    subst (λ x. part_at ns x ≡ of_node (part_at ns) n) z
    (read_within ns (take k ns) (drop (k + 1) ns) n (split_at ns k n h) (subst (λ x. NodeBelow x n) (sym z) (part_below ns k n o h)))

get_none : (ns : List Node) (k : ℕ) → slice_get ns k ≡ None → length ns ≤ k
get_none [] k h = omega arith
get_none (n ∷ ns) zero h = absurd (cc)
get_none (n ∷ ns) (suc k) h = omega (arith, get_none ns k h)

pub part_none : (ns : List Node) (k : ℕ) → slice_get ns k ≡ None → part_at ns (k + 1) ≡ Nothing
part_none ns k h = part_past ns (k + 1) (omega (arith, get_none ns k h))

-- ---- by a number that isn't 0

pub read_number : (ns : List Node) (k : ℕ) (n : Node) → IsOrdered ns → (k ≡ 0 → ⊥) → slice_get ns (k - 1) ≡ Some n → (part_at ns k ≡ of_node (part_at ns) n) × NodeBelow k n
read_number ns k n o some h =
    let z : k - 1 + 1 ≡ k = omega (arith, some) in
    (subst (λ x. part_at ns x ≡ of_node (part_at ns) n) z (part_read ns (k - 1) n o h), subst (λ x. NodeBelow x n) z (part_below ns (k - 1) n o h))

pub none_number : (ns : List Node) (k : ℕ) → (k ≡ 0 → ⊥) → slice_get ns (k - 1) ≡ None → part_at ns k ≡ Nothing
none_number ns k some h =
    let z : k - 1 + 1 ≡ k = omega (arith, some) in
    subst (λ x. part_at ns x ≡ Nothing) z (part_none ns (k - 1) h)

pub zero_number : (ns : List Node) (k : ℕ) → k ≡ 0 → part_at ns k ≡ Nothing
zero_number ns k e = rw e (part_zero ns)
