-- Subtypes taken one by one.
use Rattle.std.proofs.Common.{◌≡◌, sym, ◌∙◌, append-nil, ℕ, ◌+◌, List, [], ◌∷◌, ◌++◌, Some, None, drop}
use Rattle.std.specs.Prelude.{map, slice_get}
use Rattle.typed_tree.specs.Decoded.{TypedPart, part_at}
use Rattle.typed_tree.specs.Programs.{subtype_of}
use Rattle.typed_tree.specs.Syntax as typed
use Rattle.typed_tree.specs.declared.node.Node.{Node}
use Rattle.typed_tree.specs.declared.program.Subtype.{Subtype}
use Rattle.name_rules.specs.declared.log.Shape.{Shape}
use Rattle.name_tables.proofs.Lists.{append_one, drop_get, drop_none, map_one}
use Rattle.name_tables.specs.Shapes.{rest_of, with_part, with_parts}

grown : (n : List Node) (all : List Subtype) (r : Subtype) (x : typed.Subtype) (xs : List typed.Subtype) → subtype_of n r ≡ x
    → map (subtype_of n) (all ++ r ∷ []) ++ xs ≡ map (subtype_of n) all ++ (x ∷ xs)
grown n all r x xs e = rw (map_one (subtype_of n) all r, e) (append_one (map (subtype_of n) all) x xs)

-- what a loop shows: the subtypes so far and those to come, the parts that are left, and the table
record Taken (ss : List Shape) (i : ℕ) (n : List Node) (all : List Subtype) (ps : List TypedPart) (ts : List typed.Subtype) (qs : List TypedPart) (m : List Node) : Type 0 where
  taken : map (subtype_of n) all ++ with_parts (drop i ss) ps ≡ ts
  left : rest_of (drop i ss) ps ≡ qs
  table : n ≡ m

one_further : (ss : List Shape) (i : ℕ) (s : Shape) (n : List Node) (all : List Subtype) (r : Subtype) (k : ℕ) (ps : List TypedPart) (ts : List typed.Subtype) (qs : List TypedPart) (m : List Node)
    → slice_get ss i ≡ Some s → subtype_of n r ≡ with_part s (part_at n k) → Taken ss i n all (part_at n k ∷ ps) ts qs m → Taken ss (i + 1) n (all ++ r ∷ []) ps ts qs m
one_further ss i s n all r k ps ts qs m e f t =
    let d = drop_get ss i s e in
    let a : map (subtype_of n) all ++ (with_part s (part_at n k) ∷ with_parts (drop (i + 1) ss) ps) ≡ ts = rw d at t.taken in
    record {
      taken = grown n all r (with_part s (part_at n k)) (with_parts (drop (i + 1) ss) ps) f ∙ a;
      left = rw d at t.left;
      table = t.table;
    }

pub taken_further : (ss : List Shape) (i : ℕ) (s : Shape) (n n' : List Node) (all more : List Subtype) (r : Subtype) (k : ℕ) (ps ps' : List TypedPart) (ts : List typed.Subtype) (qs : List TypedPart) (m : List Node)
    → slice_get ss i ≡ Some s → n' ≡ n → ps ≡ part_at n k ∷ ps' → subtype_of n' r ≡ with_part s (part_at n' k) → more ≡ all ++ r ∷ []
    → map (subtype_of n) all ++ with_parts (drop i ss) ps ≡ ts → rest_of (drop i ss) ps ≡ qs → n ≡ m
    → (map (subtype_of n') more ++ with_parts (drop (i + 1) ss) ps' ≡ ts) × (rest_of (drop (i + 1) ss) ps' ≡ qs) × (n' ≡ m)
taken_further ss i s n n' all more r k ps ps' ts qs m e same parts f grows a b c =
    let g : subtype_of n r ≡ with_part s (part_at n k) = rw same at f in
    let t = one_further ss i s n all r k ps' ts qs m e g (record { taken = rw parts at a; left = rw parts at b; table = c }) in
    rw (same, grows) (t.taken, t.left, t.table)

pub taken_all : (ss : List Shape) (i : ℕ) (n : List Node) (all : List Subtype) (ps : List TypedPart) (ts : List typed.Subtype) (qs : List TypedPart) (m : List Node)
    → slice_get ss i ≡ None → map (subtype_of n) all ++ with_parts (drop i ss) ps ≡ ts → rest_of (drop i ss) ps ≡ qs → n ≡ m
    → (map (subtype_of n) all ≡ ts) × (ps ≡ qs) × (n ≡ m)
taken_all ss i n all ps ts qs m e a b c =
    let d = drop_none ss i e in
    (sym (append-nil (map (subtype_of n) all)) ∙ (rw d at a), rw d at b, c)
