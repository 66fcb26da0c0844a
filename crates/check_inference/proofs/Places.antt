-- What names stand for in the walk is what they stand for in the definition of a text's items, in each place of a text.
use Rattle.std.proofs.Common.{◌≡◌, ℕ, zero, suc, ℤ, pos, is_some, nat_eq, List, [], ◌∷◌, ◌++◌, map, Option, Some, None, Bool, true, false, cond, refl, sym, subst, ap, ap₂, ◌∙◌, append_assoc, append-nil}
use Rattle.std.proofs.Math.ListN.{replicate}
use Rattle.std.proofs.lemmas.List.{map-append}
use Rattle.ada_base.specs.declared.operation.Op.{Op}
use Rattle.ada_base.specs.declared.operation.Op.TheVariants as op
use Rattle.typed_tree.specs.declared.scalars.Class.{Class}
use Rattle.ada_meaning.specs.Values.{is_modular}
use Rattle.typed_tree.specs.declared.expressions.Iterated.{Iterated}
use Rattle.typed_tree.specs.declared.expressions.Root.{Root}
use Rattle.typed_tree.specs.declared.expressions.Root.TheVariants as root
use Rattle.typed_tree.specs.Syntax.{Expr, Static, Parameter, Binary, Selections, Whole, Field, Index, Iteration, Range, Components, Chunk, NoChunk, Count, Each}
use Rattle.check_effects.specs.Effects as law
use Rattle.check_effects.specs.Effects.{Step, FieldStep, IndexStep, ItemStep, Roles}
use Rattle.check_effects.specs.Conflicts as law-of
use Rattle.check_effects.specs.Conflicts.{path}
use Rattle.check_clashes.specs.declared.effects.Selector.{Selector}
use Rattle.check_clashes.specs.declared.effects.Selector.TheVariants as selector-of
use Rattle.check_inference.specs.Exact.{plain}
use Rattle.check_inference.specs.Paths.{Name, Surroundings, is_one, other, role, selector, selectors_with, item_name, root_name, named, hide, chunk_hidden, chunk_parameter, item_selector, component, with_item, below, judging, outset}
use Rattle.check_inference.specs.Gather.{iterated_hidden, threads_below}

-- an object and selectors are what an object and steps make
pub record SameName (n : Name) (m : law.Named) : Type 0 where
  pub object : n.object ≡ m.object
  pub selectors : map plain n.selectors ≡ path m.steps

-- a place of the walk and what names stand for there in the definition
pub record Suits (p : Surroundings) (r : Roles) : Type 0 where
  pub loop : p.loop_parameter ≡ r.loop
  pub chunk : p.chunk_parameter ≡ r.chunk
  pub item : (k : ℕ) → SameName (item_name p.items k) (r.item k)
  pub target : SameName p.target r.target

-- it names no parameter of a construct that is judged
abbrev pub Free : Name → Type 0
Free n = map law.forgotten (map plain n.selectors) ≡ map plain n.selectors

-- outside any construct that is judged
pub record Around (p : Surroundings) : Type 0 where
  pub loop : p.loop_parameter ≡ None
  pub chunk : p.chunk_parameter ≡ None
  pub item : (k : ℕ) → Free (item_name p.items k)
  pub target : Free p.target

-- constructs are recorded only there
pub record Fits (p : Surroundings) (r : Roles) : Type 0 where
  pub suits : Suits p r
  pub around : p.sites ≡ true → Around p

-- ---- selectors and steps

path_append : (a b : List Step) → path (a ++ b) ≡ path a ++ path b
path_append [] b = refl
path_append (FieldStep number offset ∷ a) b = ap (λ z. law.At number ∷ z) (path_append a b)
path_append (IndexStep s low high stride ∷ a) b = ap (λ z. s ∷ z) (path_append a b)
path_append (ItemStep judged count stride dimensions ∷ a) b =
    ap (λ z. replicate dimensions (law-of.item_selector judged) ++ z) (path_append a b) ∙ sym (append_assoc (replicate dimensions (law-of.item_selector judged)) (path a) (path b))

map_replicate : {A B : Type 0} (f : A → B) (n : ℕ) (x : A) → map f (replicate n x) ≡ replicate n (f x)
map_replicate f zero x = refl
map_replicate f (suc n) x = ap (λ z. f x ∷ z) (map_replicate f n x)

same_item : (judged : Bool) → plain (item_selector judged) ≡ law-of.item_selector judged
same_item true = refl
same_item false = refl

same_one : (o : Option ℕ) (k : ℕ) → is_one o k ≡ law.is_one o k
same_one None k = refl
same_one (Some j) k = refl

same_other : (k : ℕ) (o : Option ℕ) → other k o ≡ law.other k o
same_other k None = refl
same_other k (Some j) = refl

same_chunk : (c : Chunk) → chunk_parameter c ≡ law.chunk_parameter c
same_chunk NoChunk = refl
same_chunk (Count e) = refl
same_chunk (Each k low high check) = refl

same_cond : (a b : Bool) (n : ℤ) → plain (cond a (selector-of.Chunk n) (cond b (selector-of.Loop n) selector-of.Any)) ≡ cond a (law.ChunkIndex n) (cond b (law.LoopIndex n) law.Any)
same_cond true b n = refl
same_cond false true n = refl
same_cond false false n = refl

-- what an operation of two operands is as an index, told by two ways
module _ {S T : Type 0} (f : S → T) (g : S → T) (any : S) (by : ℕ → ℤ → S) (none : f any ≡ g any) (same : (k : ℕ) (n : ℤ) → f (by k n) ≡ g (by k n)) where
  each_shifted : (p : Option ℕ) (d : Option ℤ) → f (law.shifted any by p d) ≡ g (law.shifted any by p d)
  each_shifted None d = none
  each_shifted (Some k) None = none
  each_shifted (Some k) (Some n) = same k n

  each_cond : (b : Bool) (s t : S) → f s ≡ g s → f t ≡ g t → f (cond b s t) ≡ g (cond b s t)
  each_cond true s t h k = h
  each_cond false s t h k = k

  each_added : (o : Op) (d e : Expr) → f (law.added any by o d e) ≡ g (law.added any by o d e)
  each_added op.Add d e = each_cond (is_some (law.a_parameter d)) _ _ (each_shifted (law.a_parameter d) (law.a_distance e)) (each_shifted (law.a_parameter e) (law.a_distance d))
  each_added op.Sub d e = each_shifted (law.a_parameter d) (law.opposite (law.a_distance e))
  each_added o d e = none

  each_by_distance : (o : Op) (c : Class) (d e : Expr) → f (law.by_distance any by o c d e) ≡ g (law.by_distance any by o c d e)
  each_by_distance o c d e = each_cond (is_modular c) _ _ none (each_added o d e)

module _ {S T : Type 0} (f : S → T) (any : S) (by : ℕ → ℤ → S) (by' : ℕ → ℤ → T) (same : (k : ℕ) (n : ℤ) → f (by k n) ≡ by' k n) where
  map_shifted : (p : Option ℕ) (d : Option ℤ) → f (law.shifted any by p d) ≡ law.shifted (f any) by' p d
  map_shifted None d = refl
  map_shifted (Some k) None = refl
  map_shifted (Some k) (Some n) = same k n

  map_cond : (b : Bool) (s t : S) (s' t' : T) → f s ≡ s' → f t ≡ t' → f (cond b s t) ≡ cond b s' t'
  map_cond true s t s' t' h k = h
  map_cond false s t s' t' h k = k

  map_added : (o : Op) (d e : Expr) → f (law.added any by o d e) ≡ law.added (f any) by' o d e
  map_added op.Add d e = map_cond (is_some (law.a_parameter d)) _ _ _ _ (map_shifted (law.a_parameter d) (law.a_distance e)) (map_shifted (law.a_parameter e) (law.a_distance d))
  map_added op.Sub d e = map_shifted (law.a_parameter d) (law.opposite (law.a_distance e))
  map_added o d e = refl

  map_by_distance : (o : Op) (c : Class) (d e : Expr) → f (law.by_distance any by o c d e) ≡ law.by_distance (f any) by' o c d e
  map_by_distance o c d e = map_cond (is_modular c) _ _ _ _ refl (map_added o d e)

-- ---- names

module _ (p : Surroundings) (r : Roles) (s : Suits p r) where
  same_role : (k : ℕ) (n : ℤ) → plain (role p k n) ≡ law.role r k n
  same_role k n = same_cond (is_one p.chunk_parameter k) (is_one p.loop_parameter k) n
      ∙ ap₂ (λ (a b : Bool). cond a (law.ChunkIndex n) (cond b (law.LoopIndex n) law.Any)) (same_one p.chunk_parameter k ∙ ap (λ o. law.is_one o k) s.chunk) (same_one p.loop_parameter k ∙ ap (λ o. law.is_one o k) s.loop)

  same_selector : (e : Expr) → plain (selector p e) ≡ law.selector r e
  same_selector (Static at value literal mentions) = refl
  same_selector (Parameter at k) = same_role k (pos 0)
  same_selector (Binary at o class e f) = map_by_distance plain selector-of.Any (role p) (law.role r) same_role o class e f
  same_selector e = refl

  same_selections : (x : Selections) (found : List Selector) → map plain (selectors_with p x found) ≡ map plain found ++ path (law.steps_of r x)
  unfolding selectors_with
  same_selections Whole found = sym (append-nil (map plain found))
  same_selections (Field number offset rest) found = same_selections rest (found ++ selector-of.Field number ∷ [])
      ∙ ap (λ z. z ++ path (law.steps_of r rest)) (map-append plain found (selector-of.Field number ∷ [])) ∙ append_assoc (map plain found) (law.At number ∷ []) (path (law.steps_of r rest))
  same_selections (Index at e low high stride rest) found = same_selections rest (found ++ selector p e ∷ [])
      ∙ ap (λ z. z ++ path (law.steps_of r rest)) (map-append plain found (selector p e ∷ [])) ∙ append_assoc (map plain found) (plain (selector p e) ∷ []) (path (law.steps_of r rest))
      ∙ ap (λ z. map plain found ++ z ∷ path (law.steps_of r rest)) (same_selector e)

  same_root : (from : Root) → SameName (root_name p from) (law.root_name r from)
  same_root (root.Object x) = record { object = refl; selectors = refl }
  same_root (root.Item k) = s.item k

  pub same_name : (from : Root) (x : Selections) → SameName (named p from x) (law.name r from x)
  same_name from x = record {
    object = (same_root from).object;
    selectors = same_selections x (root_name p from).selectors ∙ ap (λ z. z ++ path (law.steps_of r x)) (same_root from).selectors ∙ sym (path_append (law.root_name r from).steps (law.steps_of r x));
  }

same_component : (judged : Bool) (count stride dimensions : ℕ) (n : Name) (m : law.Named) → SameName n m
    → SameName (component judged dimensions n) (record { object = m.object; steps = m.steps ++ (ItemStep judged count stride dimensions ∷ []) })
same_component judged count stride dimensions n m s = record {
  object = s.object;
  selectors = map-append plain n.selectors (replicate dimensions (item_selector judged))
      ∙ ap₂ (λ (a b : List law.Selector). a ++ b) s.selectors (map_replicate plain dimensions (item_selector judged) ∙ ap (replicate dimensions) (same_item judged) ∙ sym (append-nil (replicate dimensions (law-of.item_selector judged))))
      ∙ sym (path_append m.steps (ItemStep judged count stride dimensions ∷ []));
}

-- ---- places

same_either : (b : Bool) (n n' : Name) (m m' : law.Named) → SameName n m → SameName n' m' → SameName (cond b n n') (cond b m m')
same_either true n n' m m' s t = s
same_either false n n' m m' s t = t

suits_item : (k : ℕ) (n : Name) (m : law.Named) (p : Surroundings) (r : Roles) → Suits p r → SameName n m → Suits (with_item k n p) (law.with_item k m r)
unfolding item_name
suits_item k n m p r s e = record { loop = s.loop; chunk = s.chunk; item = λ j. same_either (nat_eq j k) n (item_name p.items j) m (r.item j) e (s.item j); target = s.target }

suits_hide : (k : ℕ) (p : Surroundings) (r : Roles) → Suits p r → Suits (hide k p) (law.hide k r)
suits_hide k p r s = record { loop = same_other k p.loop_parameter ∙ ap (law.other k) s.loop; chunk = same_other k p.chunk_parameter ∙ ap (law.other k) s.chunk; item = s.item; target = s.target }

suits_target : (n : Name) (m : law.Named) (p : Surroundings) (r : Roles) → Suits p r → SameName n m → Suits (record p { target = n }) (record r { target = m })
suits_target n m p r s e = record { loop = s.loop; chunk = s.chunk; item = s.item; target = e }

suits_bound : (constant judged : Bool) (k : ℕ) (at : ℕ) (from : Root) (x : Selections) (count stride dimensions : ℕ) (filter : _) (q p : Surroundings) (around r : Roles) → Suits q around → Suits p r
    → Suits (below q judged (Components k constant at from x count stride dimensions filter) p) (law.item_bound constant judged k (law.name around from x) count stride dimensions r)
suits_bound true judged k at from x count stride dimensions filter q p around r t s = s
suits_bound false judged k at from x count stride dimensions filter q p around r t s =
    suits_item k (component judged dimensions (named q from x)) (record { object = (law.name around from x).object; steps = (law.name around from x).steps ++ (ItemStep judged count stride dimensions ∷ []) }) p r s
    (same_component judged count stride dimensions (named q from x) (law.name around from x) (same_name q around t from x))

suits_below : (i : Iteration) (q p : Surroundings) (around r : Roles) → Suits q around → Suits p r → Suits (below q false i p) (law.course_hidden around i r)
suits_below (Range k reverse low high check filter) q p around r t s = suits_hide k p r s
suits_below (Components k constant at from x count stride dimensions filter) q p around r t s = suits_bound constant false k at from x count stride dimensions filter q p around r t s

suits_chunk : (c : Chunk) (p : Surroundings) (r : Roles) → Suits p r → Suits (chunk_hidden c p) (law.chunk_hidden c r)
suits_chunk NoChunk p r s = s
suits_chunk (Count e) p r s = s
suits_chunk (Each k low high check) p r s = suits_hide k p r s

suits_iterated : (i : Option Iterated) (p : Surroundings) (r : Roles) → Suits p r → Suits (iterated_hidden i p) (law.iterated_hidden i r)
suits_iterated None p r s = s
suits_iterated (Some i) p r s = suits_hide i.parameter p r s

-- ---- outside any construct

forgotten_path : (ss : List Step) → path (law.forgotten_steps ss) ≡ map law.forgotten (path ss)
forgotten_path [] = refl
forgotten_path (FieldStep number offset ∷ ss) = ap (λ z. law.At number ∷ z) (forgotten_path ss)
forgotten_path (IndexStep s low high stride ∷ ss) = ap (λ z. law.forgotten s ∷ z) (forgotten_path ss)
forgotten_path (ItemStep judged count stride dimensions ∷ ss) = ap₂ (λ (a b : List law.Selector). a ++ b) (sym (map_replicate law.forgotten dimensions (law-of.item_selector judged) ∙ ap (replicate dimensions) (forgotten_item judged))) (forgotten_path ss)
    ∙ sym (map-append law.forgotten (replicate dimensions (law-of.item_selector judged)) (path ss))
  where
    forgotten_item : (judged : Bool) → law.forgotten (law-of.item_selector judged) ≡ law-of.item_selector false
    forgotten_item true = refl
    forgotten_item false = refl

same_forgotten : (n : Name) (m : law.Named) → SameName n m → Free n → SameName n (law.forgotten_name m)
same_forgotten n m s f = record { object = s.object; selectors = sym f ∙ ap (map law.forgotten) s.selectors ∙ sym (forgotten_path m.steps) }

suits_judging : (p : Surroundings) (r : Roles) → Suits p r → Around p → Suits (judging p) (law.forget r)
suits_judging p r s a = record { loop = a.loop; chunk = a.chunk; item = λ k. same_forgotten (item_name p.items k) (r.item k) (s.item k) (a.item k); target = same_forgotten p.target r.target s.target a.target }

free_append : (found more : List Selector) → map law.forgotten (map plain found) ≡ map plain found → map law.forgotten (map plain more) ≡ map plain more → map law.forgotten (map plain (found ++ more)) ≡ map plain (found ++ more)
free_append found more f g = ap (map law.forgotten) (map-append plain found more) ∙ map-append law.forgotten (map plain found) (map plain more) ∙ ap₂ (λ (a b : List law.Selector). a ++ b) f g ∙ sym (map-append plain found more)

module _ (p : Surroundings) (a : Around p) where
  free_role : (k : ℕ) (n : ℤ) → law.forgotten (plain (role p k n)) ≡ plain (role p k n)
  free_role k n = subst (λ o. law.forgotten (plain (cond (is_one o k) (selector-of.Chunk n) (cond (is_one p.loop_parameter k) (selector-of.Loop n) selector-of.Any))) ≡ plain (cond (is_one o k) (selector-of.Chunk n) (cond (is_one p.loop_parameter k) (selector-of.Loop n) selector-of.Any))) (sym a.chunk)
      (subst (λ o. law.forgotten (plain (cond (is_one o k) (selector-of.Loop n) selector-of.Any)) ≡ plain (cond (is_one o k) (selector-of.Loop n) selector-of.Any)) (sym a.loop) refl)

  free_selector : (e : Expr) → law.forgotten (plain (selector p e)) ≡ plain (selector p e)
  free_selector (Static at value literal mentions) = refl
  free_selector (Parameter at k) = free_role k (pos 0)
  free_selector (Binary at o class e f) = each_by_distance (λ s. law.forgotten (plain s)) plain selector-of.Any (role p) refl free_role o class e f
  free_selector e = refl

  free_selections : (x : Selections) (found : List Selector) → map law.forgotten (map plain found) ≡ map plain found → map law.forgotten (map plain (selectors_with p x found)) ≡ map plain (selectors_with p x found)
  unfolding selectors_with
  free_selections Whole found f = f
  free_selections (Field number offset rest) found f = free_selections rest (found ++ selector-of.Field number ∷ []) (free_append found (selector-of.Field number ∷ []) f refl)
  free_selections (Index at e low high stride rest) found f = free_selections rest (found ++ selector p e ∷ []) (free_append found (selector p e ∷ []) f (ap (λ z. z ∷ []) (free_selector e)))

  free_root : (from : Root) → Free (root_name p from)
  free_root (root.Object x) = refl
  free_root (root.Item k) = a.item k

  free_name : (from : Root) (x : Selections) → Free (named p from x)
  free_name from x = free_selections x (root_name p from).selectors (free_root from)

free_component : (dimensions : ℕ) (n : Name) → Free n → Free (component false dimensions n)
free_component dimensions n f = free_append n.selectors (replicate dimensions selector-of.Any) f
    (ap (map law.forgotten) (map_replicate plain dimensions selector-of.Any) ∙ map_replicate law.forgotten dimensions law.Any ∙ sym (map_replicate plain dimensions selector-of.Any))

free_either : (b : Bool) (n n' : Name) → Free n → Free n' → Free (cond b n n')
free_either true n n' s t = s
free_either false n n' s t = t

around_hide : (k : ℕ) (p : Surroundings) → Around p → Around (hide k p)
around_hide k p a = record { loop = ap (other k) a.loop; chunk = ap (other k) a.chunk; item = a.item; target = a.target }

around_item : (k : ℕ) (n : Name) (p : Surroundings) → Around p → Free n → Around (with_item k n p)
unfolding item_name
around_item k n p a f = record { loop = a.loop; chunk = a.chunk; item = λ j. free_either (nat_eq j k) n (item_name p.items j) f (a.item j); target = a.target }

around_below : (i : Iteration) (q p : Surroundings) → Around q → Around p → Around (below q false i p)
around_below (Range k reverse low high check filter) q p b a = around_hide k p a
around_below (Components k true at from x count stride dimensions filter) q p b a = a
around_below (Components k false at from x count stride dimensions filter) q p b a = around_item k (component false dimensions (named q from x)) p a (free_component dimensions (named q from x) (free_name q b from x))

around_chunk : (c : Chunk) (p : Surroundings) → Around p → Around (chunk_hidden c p)
around_chunk NoChunk p a = a
around_chunk (Count e) p a = a
around_chunk (Each k low high check) p a = around_hide k p a

around_iterated : (i : Option Iterated) (p : Surroundings) → Around p → Around (iterated_hidden i p)
around_iterated None p a = a
around_iterated (Some i) p a = around_hide i.parameter p a

-- ---- what is recorded where, and for which arm

-- the same arm, and the same is left out
pub record Beside (q p : Surroundings) : Type 0 where
  pub arm : q.arm ≡ p.arm
  pub hidden : q.hidden ≡ p.hidden
  pub sites : q.sites ≡ p.sites

pub beside_below : (b : Bool) (i : Iteration) (q p : Surroundings) → Beside (below q b i p) p
beside_below true (Range k reverse low high check filter) q p = record { arm = refl; hidden = refl; sites = refl }
beside_below false (Range k reverse low high check filter) q p = record { arm = refl; hidden = refl; sites = refl }
beside_below b (Components k true at from x count stride dimensions filter) q p = record { arm = refl; hidden = refl; sites = refl }
beside_below b (Components k false at from x count stride dimensions filter) q p = record { arm = refl; hidden = refl; sites = refl }

pub beside_chunk : (c : Chunk) (p : Surroundings) → Beside (chunk_hidden c p) p
beside_chunk NoChunk p = record { arm = refl; hidden = refl; sites = refl }
beside_chunk (Count e) p = record { arm = refl; hidden = refl; sites = refl }
beside_chunk (Each k low high check) p = record { arm = refl; hidden = refl; sites = refl }

pub beside_iterated : (i : Option Iterated) (p : Surroundings) → Beside (iterated_hidden i p) p
beside_iterated None p = record { arm = refl; hidden = refl; sites = refl }
beside_iterated (Some i) p = record { arm = refl; hidden = refl; sites = refl }

pub beside_all : (a b c : Surroundings) → Beside a b → Beside b c → Beside a c
beside_all a b c h g = record { arm = h.arm ∙ g.arm; hidden = h.hidden ∙ g.hidden; sites = h.sites ∙ g.sites }

-- ---- all of it

no_sites : {A : Type 0} (b : Bool) → b ≡ false → b ≡ true → A
no_sites true e f = cc
no_sites false e f = cc

fits_both : (i : Iteration) (q p : Surroundings) (around r : Roles) → q.sites ≡ p.sites → Fits q around → Fits p r → Fits (below q false i p) (law.course_hidden around i r)
fits_both i q p around r e f g = record { suits = suits_below i q p around r f.suits g.suits; around = λ on. around_below i q p (f.around (e ∙ sym (beside_below false i q p).sites ∙ on)) (g.around (sym (beside_below false i q p).sites ∙ on)) }

fits_chunk : (c : Chunk) (p : Surroundings) (r : Roles) → Fits p r → Fits (chunk_hidden c p) (law.chunk_hidden c r)
fits_chunk c p r f = record { suits = suits_chunk c p r f.suits; around = λ on. around_chunk c p (f.around (sym (beside_chunk c p).sites ∙ on)) }

pub fits_course : (i : Iteration) (p : Surroundings) (r : Roles) → Fits p r → Fits (below p false i p) (law.course_hidden r i r)
fits_course i p r f = fits_both i p p r r refl f f

pub fits_below : (c : Chunk) (i : Iteration) (p : Surroundings) (r : Roles) → Fits p r → Fits (below p false i (chunk_hidden c p)) (law.course_hidden r i (law.chunk_hidden c r))
fits_below c i p r f = fits_both i p (chunk_hidden c p) r (law.chunk_hidden c r) (sym (beside_chunk c p).sites) f (fits_chunk c p r f)

pub fits_iterated : (i : Option Iterated) (p : Surroundings) (r : Roles) → Fits p r → Fits (iterated_hidden i p) (law.iterated_hidden i r)
fits_iterated i p r f = record { suits = suits_iterated i p r f.suits; around = λ on. around_iterated i p (f.around (sym (beside_iterated i p).sites ∙ on)) }

pub fits_target : (from : Root) (x : Selections) (p : Surroundings) (r : Roles) → Fits p r → Fits (record p { target = named p from x }) (record r { target = law.name r from x })
fits_target from x p r f = record {
  suits = suits_target (named p from x) (law.name r from x) p r f.suits (same_name p r f.suits from x);
  around = λ on. record { loop = (f.around on).loop; chunk = (f.around on).chunk; item = (f.around on).item; target = free_name p (f.around on) from x };
}

pub fits_hidden : (hidden : List ℕ) (p : Surroundings) (r : Roles) → Fits p r → Fits (record p { hidden = hidden }) r
fits_hidden hidden p r f = record {
  suits = record { loop = f.suits.loop; chunk = f.suits.chunk; item = f.suits.item; target = f.suits.target };
  around = λ on. record { loop = (f.around on).loop; chunk = (f.around on).chunk; item = (f.around on).item; target = (f.around on).target };
}

pub fits_arm : (k : ℕ) (p : Surroundings) (r : Roles) → Fits p r → Fits (record p { arm = k }) r
fits_arm k p r f = record {
  suits = record { loop = f.suits.loop; chunk = f.suits.chunk; item = f.suits.item; target = f.suits.target };
  around = λ on. record { loop = (f.around on).loop; chunk = (f.around on).chunk; item = (f.around on).item; target = (f.around on).target };
}

-- where a construct stands, as it is judged
pub fits_judging : (p : Surroundings) (r : Roles) → Fits p r → p.sites ≡ true → Fits (judging p) (law.forget r)
fits_judging p r f on = record { suits = suits_judging p r f.suits (f.around on); around = λ e. no_sites false refl e }

suits_threads : (c : Chunk) (i : Iteration) (p : Surroundings) (r : Roles) → Suits p r → Suits (below p true i (record p { chunk_parameter = chunk_parameter c })) (law.judging c i r)
suits_threads c (Range k reverse low high check filter) p r s = record { loop = refl; chunk = same_other k (chunk_parameter c) ∙ ap (law.other k) (same_chunk c); item = s.item; target = s.target }
suits_threads c (Components k constant at from x count stride dimensions filter) p r s = suits_bound constant true k at from x count stride dimensions filter p (record p { chunk_parameter = chunk_parameter c }) r (record r { chunk = law.chunk_parameter c }) s
    (record { loop = s.loop; chunk = same_chunk c; item = s.item; target = s.target })

pub fits_threads : (c : Chunk) (i : Iteration) (p : Surroundings) (r : Roles) → Fits p r → p.sites ≡ true → Fits (threads_below p c i) (law.judging c i (law.forget r))
fits_threads c i p r f on = record {
  suits = suits_threads c i (judging p) (law.forget r) (suits_judging p r f.suits (f.around on));
  around = λ e. no_sites (threads_below p c i).sites (beside_below true i (judging p) (record (judging p) { chunk_parameter = chunk_parameter c })).sites e;
}

-- where a body begins
pub fits_outset : Fits (outset true) law.unknown
unfolding item_name
fits_outset = record {
  suits = record { loop = refl; chunk = refl; item = λ k. record { object = refl; selectors = refl }; target = record { object = refl; selectors = refl } };
  around = λ on. record { loop = refl; chunk = refl; item = λ k. refl; target = refl };
}

-- the text of an iteration
pub beside_both : (c : Chunk) (i : Iteration) (p : Surroundings) → Beside (below p false i (chunk_hidden c p)) p
beside_both c i p = beside_all (below p false i (chunk_hidden c p)) (chunk_hidden c p) p (beside_below false i p (chunk_hidden c p)) (beside_chunk c p)

pub beside_threads : (c : Chunk) (i : Iteration) (p : Surroundings) → Beside (threads_below p c i) (judging p)
beside_threads c i p = let h = beside_below true i (judging p) (record (judging p) { chunk_parameter = chunk_parameter c }) in record { arm = h.arm; hidden = h.hidden; sites = h.sites }
