-- What the numbers of a table stand for: stable under what is put after, and as the nodes say.
use Rattle.std.specs.Prelude.{◌≡◌, ℕ, ◌<◌, ◌≤◌, ◌+◌, List, [], ◌∷◌, ◌++◌, length, take, drop, slice_get, Some, None}
use Rattle.std.proofs.Common.{zero, suc, refl, ap, subst, sym, ◌∙◌, arith}
use Rattle.std.proofs.lemmas.List.{length-append, append_assoc, get_or_past, length-take-le}
use Rattle.std.proofs.lemmas.Option.{slice_get_within}
use Rattle.std.proofs.Math.ListN.{get_or-append}
use Rattle.std.proofs.Math.Seq.{get_or-append_seam}
use Rattle.typed_tree.specs.declared.node.Node.{Node}
use Rattle.typed_tree.specs.Decoded.{TypedPart, Nothing, of_node, among, parts_from, part_at}
use Rattle.typed_tree.specs.Ordered.{NodeBelow, OrderedFrom, IsOrdered}
use Rattle.typed_tree.proofs.Agreeing.{Agree, node_agrees}

parts_from-append : (ns ms : List Node) (ps : List TypedPart) → parts_from ps (ns ++ ms) ≡ parts_from (parts_from ps ns) ms
parts_from-append [] ms ps = refl
parts_from-append (n ∷ ns) ms ps = parts_from-append ns ms _

parts_from-length : (ns : List Node) (ps : List TypedPart) → length (parts_from ps ns) ≡ length ps + length ns
parts_from-length [] ps = omega arith
parts_from-length (n ∷ ns) ps = omega (arith, parts_from-length ns (ps ++ of_node (among ps) n ∷ []), length-append ps (of_node (among ps) n ∷ []))

parts_from-kept : (ns : List Node) (ps : List TypedPart) (k : ℕ) → k < length ps → among (parts_from ps ns) k ≡ among ps k
parts_from-kept [] ps k h = refl
parts_from-kept (n ∷ ns) ps k h =
    parts_from-kept ns (ps ++ of_node (among ps) n ∷ []) k (omega (arith, length-append ps (of_node (among ps) n ∷ [])))
    ∙ get_or-append ps (of_node (among ps) n ∷ []) Nothing k h

-- what stands after a part changes nothing
pub part_stable : (ns more : List Node) (k : ℕ) → k < length ns → part_at (ns ++ more) k ≡ part_at ns k
unfolding part_at
part_stable ns more k h = rw (parts_from-append ns more []) (parts_from-kept more (parts_from [] ns) k (omega (arith, parts_from-length ns [])))

-- the last node
pub part_last : (ns : List Node) (n : Node) → part_at (ns ++ n ∷ []) (length ns) ≡ of_node (part_at ns) n
unfolding part_at
part_last ns n =
    let e : length (parts_from [] ns) ≡ length ns = omega (arith, parts_from-length ns []) in
    rw (parts_from-append ns (n ∷ []) [], ← e) (get_or-append_seam (parts_from [] ns) (of_node (among (parts_from [] ns)) n) [] Nothing)

pub part_past : (ns : List Node) (k : ℕ) → length ns ≤ k → part_at ns k ≡ Nothing
unfolding part_at
part_past ns k h = get_or_past (parts_from [] ns) k Nothing (omega (arith, parts_from-length ns []))

node_below : (ns : List Node) (b k : ℕ) (n : Node) → OrderedFrom b ns → slice_get ns k ≡ Some n → NodeBelow (b + k) n
node_below [] b k n o h = absurd (cc)
node_below (m ∷ ns) b zero n o h =
    let e : m ≡ n = cc in
    let z : b ≡ b + 0 = omega arith in
    subst (λ x. NodeBelow x n) z (subst (λ x. NodeBelow b x) e o.0)
node_below (m ∷ ns) b (suc k) n o h =
    let z : (b + 1) + k ≡ b + suc k = omega arith in
    subst (λ x. NodeBelow x n) z (node_below ns (b + 1) k n o.1 h)

pub part_below : (ns : List Node) (k : ℕ) (n : Node) → IsOrdered ns → slice_get ns k ≡ Some n → NodeBelow k n
unfolding IsOrdered
part_below ns k n o h =
    let z : 0 + k ≡ k = omega arith in
    subst (λ x. NodeBelow x n) z (node_below ns 0 k n o h)

pub split_at : (ns : List Node) (k : ℕ) (n : Node) → slice_get ns k ≡ Some n → ns ≡ (take k ns ++ n ∷ []) ++ drop (k + 1) ns
split_at [] k n h = absurd (cc)
split_at (m ∷ ns) zero n h = cc
split_at (m ∷ ns) (suc k) n h =
    let z : suc k + 1 ≡ suc (k + 1) = omega arith in
    rw z (ap (λ x. m ∷ x) (split_at ns k n h))

read_within : (ns as' rest : List Node) (n : Node) → ns ≡ (as' ++ n ∷ []) ++ rest → NodeBelow (length as') n → part_at ns (length as') ≡ of_node (part_at ns) n
read_within ns as' rest n e below =
    let same : Agree (length as') (part_at as') (part_at ns) =
    λ j lt. sym (subst (λ x. part_at x j ≡ part_at as' j) (sym (e ∙ append_assoc as' (n ∷ []) rest)) (part_stable as' (n ∷ rest) j lt)) in
    let here : part_at ns (length as') ≡ of_node (part_at as') n =
    subst (λ x. part_at x (length as') ≡ of_node (part_at as') n) (sym e)
    (part_stable (as' ++ n ∷ []) rest (length as') (omega (arith, length-append as' (n ∷ []))) ∙ part_last as' n) in
    here ∙ node_agrees (length as') (part_at as') (part_at ns) same n below

-- a node of an ordered table stands for what it says
pub part_read : (ns : List Node) (k : ℕ) (n : Node) → IsOrdered ns → slice_get ns k ≡ Some n → part_at ns k ≡ of_node (part_at ns) n
part_read ns k n o h =
    let lt : k < length ns = slice_get_within ns k n h in
    let z : length (take k ns) ≡ k = length-take-le k ns (omega arith) in
    subst (λ x. part_at ns x ≡ of_node (part_at ns) n) z
    (read_within ns (take k ns) (drop (k + 1) ns) n (split_at ns k n h) (subst (λ x. NodeBelow x n) (sym z) (part_below ns k n o h)))

get_none : (ns : List Node) (k : ℕ) → slice_get ns k ≡ None → length ns ≤ k
get_none [] k h = omega arith
get_none (n ∷ ns) zero h = absurd (cc)
get_none (n ∷ ns) (suc k) h = omega (arith, get_none ns k h)

pub part_none : (ns : List Node) (k : ℕ) → slice_get ns k ≡ None → part_at ns k ≡ Nothing
part_none ns k h = part_past ns k (get_none ns k h)
