-- How a list is closed, item by item.
use Rattle.std.proofs.Common.{◌≡◌, refl, ◌∙◌, ap, ℕ, ◌≤◌, List, [], ◌∷◌, ◌++◌, length, true, arith}
use Rattle.std.specs.Prelude.{nat_eq}
use Rattle.std.proofs.lemmas.List.{length-append}
use Rattle.syntax_nodes.specs.Parts.{TreePart, Items, AlsoItem, Open, items_of, opened, open_items, list_number, onto}
use Rattle.syntax_nodes.specs.Tables.{part_at, also_value, cell_value}
use Rattle.syntax_nodes.specs.declared.lists.ListKind.{ListKind}
use Rattle.syntax_nodes.specs.declared.nodes.Node.{Node}
use Rattle.syntax_nodes.proofs.Reading.{part_stable}

same : (n : ℕ) → nat_eq n n ≡ true
same n = grind arith

opened-also : (n : ℕ) (j : ListKind) (xs : Items) → n ≡ list_number j → opened n (Open j xs) ≡ xs
opened-also n j xs e = rw (e, same (list_number j)) refl

pub closes-item : (kind of : ListKind) (ns ms : List Node) (n : Node) (at b a z : ℕ) (r : TreePart) → ms ≡ ns ++ n ∷ [] → b ≤ length ns → list_number kind ≡ list_number of
    → part_at ns at ≡ also_value of (part_at ns b) (part_at ns a) → r ≡ cell_value (part_at ns a) (part_at ns z)
    → onto (open_items kind (part_at ns at)) (items_of (part_at ns z)) ≡ onto (open_items kind (part_at ms b)) (items_of r)
closes-item kind of ns ms n at b a z r e le k h c =
    let p = part_at ns at in
    let g : open_items kind p ≡ AlsoItem (part_at ns a) (opened (list_number of) (part_at ns b)) = ap (opened (list_number kind)) h ∙ opened-also (list_number kind) of _ k in
    let s : part_at ms b ≡ part_at ns b = rw e (part_stable ns (n ∷ []) b le) in
    rw (g, c, s, k) refl

pub longer : (ns ms : List Node) (n : Node) (k : ℕ) → ms ≡ ns ++ n ∷ [] → k ≤ length ns → k ≤ length ms
longer ns ms n k e h = rw e (omega (arith, h, length-append ns (n ∷ [])))
