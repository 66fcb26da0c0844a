-- Tables of paths as they grow.
use Rattle.std.proofs.Common.{◌≡◌, ℕ, zero, suc, ◌<◌, List, [], ◌∷◌, ◌++◌, length, slice_get, Option, Some, None, IfSome, refl, ap, ap₂, subst, ◌∙◌, arith}
use Rattle.std.proofs.lemmas.List.{map-append}
use Rattle.std.proofs.lemmas.Option.{none-some}
use Rattle.typed_tree.specs.declared.node.Node.{Node}
use Rattle.typed_tree.specs.Decoded.{selections_at}
use Rattle.typed_tree.specs.Syntax.{Selections}
use Rattle.run_parts.specs.declared.paths.Path.{Path}
use Rattle.run_parts.specs.Paths.{AreOf, AreWithin, path_at, path_in, paths_in, selections_by}

-- a list of paths that grows changes nothing of the places within it

kept : (list : List Path) (p : Path) (k : ℕ) → k < length list → slice_get (list ++ p ∷ []) k ≡ slice_get list k
kept [] p k lt = Prim.grind arith
kept (x ∷ xs) p zero lt = refl
kept (x ∷ xs) p (suc k) lt = kept xs p k (Prim.omega arith)

last : (list : List Path) (p : Path) → slice_get (list ++ p ∷ []) (length list) ≡ Some p
last [] p = refl
last (x ∷ xs) p = last xs p

rest : (list : List Path) (place : Option ℕ) (places : List (Option ℕ)) → AreWithin list (place ∷ places) → AreWithin list places
rest list place places h = λ k d lt. h (suc k) d (Prim.omega arith)

grown : (list : List Path) (p : Path) (places : List (Option ℕ)) → AreWithin list places → paths_in (list ++ p ∷ []) places ≡ paths_in list places
grown list p [] h = refl
grown list p (None ∷ ks) h = ap (λ ps. None ∷ ps) (grown list p ks (rest list None ks h))
grown list p (Some k ∷ ks) h = ap₂ ◌∷◌ (kept list p k (h zero None (Prim.omega arith))) (grown list p ks (rest list (Some k) ks h))

-- the table of a list and of places that have grown
pub table_grown : (list more : List Path) (places : List (Option ℕ)) (p : Path) → AreWithin list places → more ≡ list ++ p ∷ [] → paths_in more places ≡ paths_in list places
table_grown list more places p h e = subst (λ ps. paths_in ps places ≡ paths_in list places) (Prim.search e) (grown list p places h)

pub table_pushed : (list more : List Path) (places then : List (Option ℕ)) (p : Path) (k : ℕ) → AreWithin list places → more ≡ list ++ p ∷ [] → then ≡ places ++ Some k ∷ [] → k ≡ length list → paths_in more then ≡ paths_in list places ++ Some p ∷ []
table_pushed list more places then p k h e f g = Prim.rw (e, f, g) (map-append (path_in (list ++ p ∷ [])) places (Some (length list) ∷ []) ∙ ap₂ ◌++◌ (grown list p places h) (ap (λ o. o ∷ []) (last list p)))

-- the paths of no number

pub none_are : (nodes : List Node) → AreOf nodes []
none_are nodes = λ id p e. elim (none-some p e) [ ]

-- a path more

more_are : (f : ℕ → Selections) (o : Option Path) (paths : List (Option Path)) → ((id : ℕ) (p : Path) → path_at paths id ≡ Some p → f id ≡ selections_by p) → IfSome o (λ p. f (length paths) ≡ selections_by p) → (id : ℕ) (p : Path) → path_at (paths ++ o ∷ []) id ≡ Some p → f id ≡ selections_by p
more_are f o [] h s zero p e = subst (λ x. IfSome x (λ q. f zero ≡ selections_by q)) e s
more_are f o [] h s (suc id) p e = elim (none-some p e) [ ]
more_are f o (x ∷ xs) h s zero p e = h zero p e
more_are f o (x ∷ xs) h s (suc id) p e = more_are (λ k. f (suc k)) o xs (λ k. h (suc k)) s id p e

pub pushed_are : (nodes : List Node) (o : Option Path) (paths more : List (Option Path)) (id : ℕ) → AreOf nodes paths → length paths ≡ id → IfSome o (λ p. selections_at nodes id ≡ selections_by p) → more ≡ paths ++ o ∷ [] → AreOf nodes more
pushed_are nodes o paths more id h n s e = Prim.rw e (more_are (selections_at nodes) o paths h (subst (λ k. IfSome o (λ p. selections_at nodes k ≡ selections_by p)) (Prim.search n) s))
