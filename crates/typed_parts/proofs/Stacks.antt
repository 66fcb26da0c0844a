-- How the parts that are being joined change with the table and its roots.
use Rattle.std.proofs.Common.{◌≡◌, refl, sym, ◌∙◌, ap, subst, ℕ, suc, ◌<◌, ◌≤◌, List, [], ◌∷◌, ◌++◌, length, arith, Some, None}
use Rattle.std.specs.Prelude.{slice_get}
use Rattle.std.proofs.lemmas.List.{length-append}
use Rattle.std.proofs.lemmas.Option.{slice_get_within}
use Rattle.typed_tree.specs.declared.node.Leaf.{Leaf}
use Rattle.typed_tree.specs.declared.node.Node.{Node}
use Rattle.typed_tree.specs.declared.node.Node.TheVariants as node
use Rattle.typed_tree.specs.Decoded.{TypedPart, Nothing, Cons, LeafCons, of_node, part_at}
use Rattle.typed_tree.specs.Ordered.{NodeBelow, IsOrdered}
use Rattle.typed_tree.specs.Written.{put, last}
use Rattle.typed_tree.proofs.Reading.{part_stable, part_below, part_last, part_none, part_read}
use Rattle.typed_tree.proofs.Order.{ordered_put}
use Rattle.typed_tree.specs.Latest.{top, pop, onto}
use Rattle.typed_parts.specs.Stack.{Table, parts, parts_in, stacked, IsLatest, AllBelow, Fit, Stays}

abbrev table : List Node → List ℕ → Table
table ns rs = record { nodes = ns; roots = rs }

length_end : (ns : List Node) (n : Node) → length (ns ++ n ∷ []) ≡ suc (length ns)
length_end ns n = omega (arith, length-append ns (n ∷ []))

stacked_end : (at : ℕ → TypedPart) (rs : List ℕ) (r : ℕ) (s : List TypedPart) → stacked at (rs ++ r ∷ []) s ≡ at r ∷ stacked at rs s
stacked_end at [] r s = refl
stacked_end at (q ∷ rs) r s = stacked_end at rs r (at q ∷ s)

parts_end : (ns : List Node) (rs : List ℕ) (r : ℕ) → parts (table ns (rs ++ r ∷ [])) ≡ part_at ns r ∷ parts (table ns rs)
unfolding parts_in
parts_end ns rs r = stacked_end (part_at ns) rs r []

parts_none : (ns : List Node) → parts (table ns []) ≡ []
unfolding parts_in
parts_none ns = refl

below_more : (n m : ℕ) (rs : List ℕ) → n ≤ m → AllBelow n rs → AllBelow m rs
below_more n m [] le h = h
below_more n m (r ∷ rs) le h = (omega (arith, h.0), below_more n m rs le h.1)

pub below_end : (n : ℕ) (rs : List ℕ) (r : ℕ) → AllBelow n rs → r < n → AllBelow n (rs ++ r ∷ [])
below_end n [] r h k = (k, tt)
below_end n (q ∷ rs) r h k = (h.0, below_end n rs r h.1 k)

pub below_front : (n : ℕ) (rs : List ℕ) (r : ℕ) → AllBelow n (rs ++ r ∷ []) → AllBelow n rs × (r < n)
below_front n [] r h = (tt, h.0)
below_front n (q ∷ rs) r h = let k = below_front n rs r h.1 in ((h.0, k.0), k.1)

-- number 0 is nothing
pub zero_nothing : (ns : List Node) (rs : List ℕ) → Fit ns rs → (part_at ns 0 ≡ Nothing) × (0 < length ns)
zero_nothing ns rs f = (part_read ns 0 node.End f.ordered f.starts, slice_get_within ns 0 node.End f.starts)

more_starts : (ns : List Node) (n m : Node) → slice_get ns 0 ≡ Some m → slice_get (ns ++ n ∷ []) 0 ≡ Some m
more_starts [] n m e = absurd (cc)
more_starts (k ∷ ns) n m e = e

pub fit_new : Fit (node.End ∷ []) []
unfolding IsOrdered
fit_new = record { starts = refl; ordered = (tt, tt); below = tt }

pub fit_more : (ns : List Node) (n : Node) (rs : List ℕ) → NodeBelow (length ns) n → Fit ns rs → Fit (ns ++ n ∷ []) rs
unfolding put
fit_more ns n rs b f = record {
  starts = more_starts ns n node.End f.starts;
  ordered = ordered_put n ns f.ordered b;
  below = below_more (length ns) (length (ns ++ n ∷ [])) rs (omega (arith, length_end ns n)) f.below;
}

pub fit_hold : (ns : List Node) (rs : List ℕ) (r : ℕ) → r < length ns → Fit ns rs → Fit ns (rs ++ r ∷ [])
fit_hold ns rs r k f = record { starts = f.starts; ordered = f.ordered; below = below_end (length ns) rs r f.below k }

pub fit_latest : (ns : List Node) (rs rest : List ℕ) (r : ℕ) → IsLatest rs rest r → Fit ns rs → Fit ns rest
fit_latest ns [] rest r (e, z) f = record { starts = f.starts; ordered = f.ordered; below = subst (AllBelow (length ns)) (sym e) tt }
fit_latest ns (q ∷ rs) rest r e f = record { starts = f.starts; ordered = f.ordered; below = (below_front (length ns) rest r (subst (AllBelow (length ns)) e f.below)).0 }

-- the latest root is taken
pub taken : (ns : List Node) (rs rest : List ℕ) (r : ℕ) (t : Table) → table ns rs ≡ t → IsLatest rs rest r → Fit ns rs
    → (part_at ns r ≡ top (parts t)) × (parts (table ns rest) ≡ pop (parts t)) × (r < length ns) × (ns ≡ t.nodes)
taken ns [] rest r t is (e, z) f =
    let none : parts t ≡ [] = ap parts (sym is) ∙ parts_none ns in
    let same : parts (table ns rest) ≡ [] = ap (λ x. parts (table ns x)) e ∙ parts_none ns in
    (rw (none, z) (zero_nothing ns [] f).0, rw (none, same) refl, rw z (zero_nothing ns [] f).1, ap (λ x. x.nodes) is)
taken ns (q ∷ rs) rest r t is e f =
    let all : parts t ≡ part_at ns r ∷ parts (table ns rest) = ap parts (sym is) ∙ (ap (λ x. parts (table ns x)) e ∙ parts_end ns rest r) in
    (rw all refl, rw all refl, (below_front (length ns) rest r (subst (AllBelow (length ns)) e f.below)).1, ap (λ x. x.nodes) is)

stacked_more : (ns : List Node) (n : Node) (rs : List ℕ) (s : List TypedPart) → AllBelow (length ns) rs → stacked (part_at (ns ++ n ∷ [])) rs s ≡ stacked (part_at ns) rs s
stacked_more ns n [] s h = refl
stacked_more ns n (r ∷ rs) s h = rw (part_stable ns (n ∷ []) r h.0) (stacked_more ns n rs (part_at ns r ∷ s) h.1)

-- one more node changes no part
pub parts_more : (ns : List Node) (n : Node) (rs : List ℕ) → Fit ns rs → parts (table (ns ++ n ∷ []) rs) ≡ parts (table ns rs)
unfolding parts_in
parts_more ns n rs f = stacked_more ns n rs [] f.below

-- a node is written, with its number the latest root
pub put_is : (ns ms : List Node) (n : Node) (rs rs' : List ℕ) (k : ℕ) (t : Table) → table ns rs ≡ t → ms ≡ put n ns → k ≡ last ms → Fit ns rs → rs' ≡ rs ++ k ∷ []
    → (parts (table ms rs') ≡ of_node (part_at t.nodes) n ∷ parts t) × (ms ≡ t.nodes ++ n ∷ [])
unfolding put last
put_is ns ms n rs rs' k t is e z f h =
    let l : k ≡ length ns = omega (arith, z, ap length e, length_end ns n) in
    let here : part_at ms k ≡ of_node (part_at ns) n = rw (e, l) (part_last ns n) in
    let rest : parts (table ms rs) ≡ parts (table ns rs) = ap (λ x. parts (table x rs)) e ∙ parts_more ns n rs f in
    (rw h (parts_end ms rs k ∙ rw (here, rest, ← is) refl), e ∙ ap (λ x. x.nodes ++ n ∷ []) is)

-- a node is written, and is no part yet
pub add_is : (ns ms : List Node) (n : Node) (rs : List ℕ) (k : ℕ) (t : Table) → table ns rs ≡ t → ms ≡ put n ns → k ≡ last ms → Fit ns rs
    → (part_at ms k ≡ of_node (part_at t.nodes) n) × (k < length ms) × (parts (table ms rs) ≡ parts t) × (ms ≡ t.nodes ++ n ∷ [])
unfolding put last
add_is ns ms n rs k t is e z f =
    let l : k ≡ length ns = omega (arith, z, ap length e, length_end ns n) in
    let here : part_at ms k ≡ of_node (part_at ns) n = rw (e, l) (part_last ns n) in (
      here ∙ ap (λ x. of_node (part_at x.nodes) n) is,
      omega (arith, l, ap length e, length_end ns n),
      ap (λ x. parts (table x rs)) e ∙ (parts_more ns n rs f ∙ ap parts is),
      e ∙ ap (λ x. x.nodes ++ n ∷ []) is,
    )

-- a root is held
pub hold_is : (ns : List Node) (rs rs' : List ℕ) (r : ℕ) (t : Table) → table ns rs ≡ t → rs' ≡ rs ++ r ∷ []
    → (parts (table ns rs') ≡ part_at t.nodes r ∷ parts t) × (ns ≡ t.nodes)
hold_is ns rs rs' r t is e = (rw e (parts_end ns rs r ∙ ap (λ x. part_at x.nodes r ∷ parts x) is), ap (λ x. x.nodes) is)

pub fit_held : (ns : List Node) (rs rs' : List ℕ) (r : ℕ) (t : Table) → table ns rs ≡ t → rs' ≡ rs ++ r ∷ [] → r < length t.nodes → Fit ns rs → Fit ns rs'
fit_held ns rs rs' r t is e lt f = subst (Fit ns) (sym e) (fit_hold ns rs r (subst (λ x. r < length x.nodes) (sym is) lt) f)

pub none_is : (ns : List Node) (rs : List ℕ) (t : Table) → table ns rs ≡ t → Fit ns rs → (part_at t.nodes 0 ≡ Nothing) × (0 < length t.nodes)
none_is ns rs t is f = subst (λ x. (part_at x.nodes 0 ≡ Nothing) × (0 < length x.nodes)) is (zero_nothing ns rs f)

-- a node of the table
pub node_is : (ns : List Node) (rs : List ℕ) (k : ℕ) (n : Node) (t : Table) → table ns rs ≡ t → Fit ns rs → slice_get ns k ≡ Some n
    → (part_at t.nodes k ≡ of_node (part_at t.nodes) n) × NodeBelow k n
node_is ns rs k n t is f e = (subst (λ x. part_at x.nodes k ≡ of_node (part_at x.nodes) n) is (part_read ns k n f.ordered e), part_below ns k n f.ordered e)

pub node_none : (ns : List Node) (rs : List ℕ) (k : ℕ) (t : Table) → table ns rs ≡ t → slice_get ns k ≡ None → part_at t.nodes k ≡ Nothing
node_none ns rs k t is e = subst (λ x. part_at x.nodes k ≡ Nothing) is (part_none ns k e)

below_in : (ns : List Node) (rs : List ℕ) (t : Table) (n : Node) → table ns rs ≡ t → NodeBelow (length t.nodes) n → NodeBelow (length ns) n
below_in ns rs t n is b = subst (λ x. NodeBelow (length x.nodes) n) (sym is) b

-- a node that isn't held
pub fit_unheld : (ns ms : List Node) (n : Node) (rs : List ℕ) (t : Table) → table ns rs ≡ t → ms ≡ put n ns → NodeBelow (length t.nodes) n → Fit ns rs → Fit ms rs
unfolding put
fit_unheld ns ms n rs t is e b f = subst (λ x. Fit x rs) (sym e) (fit_more ns n rs (below_in ns rs t n is b) f)

pub fit_written : (ns ms : List Node) (n : Node) (rs rs' : List ℕ) (k : ℕ) (t : Table) → table ns rs ≡ t → ms ≡ put n ns → k ≡ last ms → rs' ≡ rs ++ k ∷ [] → NodeBelow (length t.nodes) n → Fit ns rs → Fit ms rs'
unfolding put last
fit_written ns ms n rs rs' k t is e z h b f = subst (Fit ms) (sym h) (fit_hold ms rs k (omega (arith, z, ap length e, length_end ns n)) (fit_unheld ns ms n rs t is e b f))

pub new_parts : (ns : List Node) (rs : List ℕ) → rs ≡ [] → parts (table ns rs) ≡ []
new_parts ns rs e = ap (λ x. parts (table ns x)) e ∙ parts_none ns

-- the latest part of a finished table is taken
pub finished_some : (ns : List Node) (rs rest : List ℕ) (r : ℕ) → rs ≡ rest ++ r ∷ [] → parts_in ns rs ≡ part_at ns r ∷ parts_in ns rest
finished_some ns rs rest r e = ap (parts_in ns) e ∙ parts_end ns rest r

pub finished_none : (ns : List Node) (rs : List ℕ) → rs ≡ [] → parts_in ns rs ≡ []
finished_none ns rs e = new_parts ns rs e

-- lists are turned

pub turn_cell : (ns ms : List Node) (n : Node) (at k r done id : ℕ) → ms ≡ ns ++ n ∷ [] → at < length ns → r < at → part_at ns at ≡ Cons (part_at ns k) (part_at ns r) → part_at ms id ≡ Cons (part_at ns k) (part_at ns done)
    → (onto (part_at ns at) (part_at ns done) ≡ onto (part_at ms r) (part_at ms id)) × (r < length ms)
turn_cell ns ms n at k r done id e h lt p q =
    let inside : r < length ns = omega (arith, h, lt) in
    let same : part_at ms r ≡ part_at ns r = rw e (part_stable ns (n ∷ []) r inside) in
    (rw (p, q, same) refl, omega (arith, inside, ap length e, length_end ns n))

pub turn_leaf : (ns ms : List Node) (n : Node) (at r done id : ℕ) (l : Leaf) → ms ≡ ns ++ n ∷ [] → at < length ns → r < at → part_at ns at ≡ LeafCons l (part_at ns r) → part_at ms id ≡ LeafCons l (part_at ns done)
    → (onto (part_at ns at) (part_at ns done) ≡ onto (part_at ms r) (part_at ms id)) × (r < length ms)
turn_leaf ns ms n at r done id l e h lt p q =
    let inside : r < length ns = omega (arith, h, lt) in
    let same : part_at ms r ≡ part_at ns r = rw e (part_stable ns (n ∷ []) r inside) in
    (rw (p, q, same) refl, omega (arith, inside, ap length e, length_end ns n))

-- what stood in a table stays

pub stays_put : (ns ms : List Node) (n : Node) → ms ≡ ns ++ n ∷ [] → Stays ns ms
stays_put ns ms n e = rw e (record { more = omega (arith, length_end ns n); same = λ k h. part_stable ns (n ∷ []) k h })

pub stays_same : (ns : List Node) → Stays ns ns
stays_same ns = record { more = omega arith; same = λ k h. refl }

pub stays_on : (ns ms ls : List Node) → Stays ns ms → Stays ms ls → Stays ns ls
stays_on ns ms ls s t = record { more = omega (arith, s.more, t.more); same = λ k h. t.same k (omega (arith, h, s.more)) ∙ s.same k h }
