-- The cells of formal parameters: where a call's arguments go, each formal after the ones before it.
use Rattle.std.proofs.Common.{◌≡◌, ◌⊎◌, inl, inr, ℕ, zero, suc, ◌+◌, List, [], ◌∷◌, slice_get, Option, Some, None, Bool, true, false, cond, refl, sym, ap, ◌∙◌, subst, arith, eq-eqb}
use Rattle.behaviours.specs.Paths.{Entity, VariableOf, ConstantOf, entity_eq}
use Rattle.typed_tree.specs.declared.program.Formal.{Formal}
use Rattle.typed_tree.specs.declared.program.Mode.{Mode}
use Rattle.typed_tree.specs.declared.program.Mode.TheVariants as mode
use Rattle.typed_tree.specs.Syntax.{Sub, Program}
use Rattle.ada_meaning.specs.Meaning.{formals_of, sub_at}
use Rattle.ada_lower.specs.Emission.{Shape, formal_cell, formals_in, formals_or_none, lead, shape_by, shapes}
use Rattle.ada_lower.specs.Fitted.{Spot, spots}
use Rattle.typed_scopes.specs.Scopes.{Around, FreshFormals, Without, entity_of, with_object}

pub sub_slice : (subs : List Sub) (k : ℕ) → sub_at subs k ≡ slice_get subs k
sub_slice [] k = refl
sub_slice (u ∷ subs) zero = refl
sub_slice (u ∷ subs) (suc k) = sub_slice subs k

pub formals_at : (subs : List Sub) (k : ℕ) (unit : Sub) → sub_at subs k ≡ Some unit → formals_of subs k ≡ unit.formals
formals_at [] k unit e = absurd (let z : ◌≡◌ {A = Option Sub} None (Some unit) = e in cc)
formals_at (u ∷ subs) zero unit e = ap (λ o. formals_or_none o) e
formals_at (u ∷ subs) (suc k) unit e = formals_at subs k unit e

pub formals_are : (program : Program) (k : ℕ) (unit : Sub) → sub_at program.subs k ≡ Some unit → formals_in program k ≡ unit.formals
formals_are program k unit e = ap formals_or_none (sym (sub_slice program.subs k) ∙ e)

pub entity_refl : (x : Entity) → entity_eq x x ≡ true
entity_refl (VariableOf x) = eq-eqb x x refl
entity_refl (ConstantOf x) = eq-eqb x x refl

-- it is the entity of one of these
abbrev pub IsOf : Entity → List Shape → Type 0
IsOf x [] = ⊥
IsOf x (h ∷ hs) = (h.formal ≡ x) ⊎ IsOf x hs

-- none of them is one of those behind it
abbrev pub AreApart : List Shape → Type 0
AreApart [] = Unit {0}
AreApart (h ∷ hs) = ((x : Entity) → IsOf x hs → entity_eq h.formal x ≡ false) × AreApart hs

module _ (program : Program) where
  pub shape_entity : (f : Formal) → (shape_by program f.object f.mode).formal ≡ entity_of f
  shape_entity f = go f.mode
    where
      go : (m : Mode) → (shape_by program f.object m).formal ≡ entity_of (record { object = f.object; mode = m })
      go mode.In = refl
      go mode.InOut = refl
      go mode.Out = refl

  -- those that are new are not taken
  new_behind : (v : Around) (x : Entity) (fs : List Formal) → v.taken x ≡ true → FreshFormals v fs → IsOf x (shapes program fs) → ⊥
  new_behind v x [] t fresh is = is
  new_behind v x (f ∷ fs) t fresh (inl e) = absurd (let z : v.taken x ≡ false = ap v.taken (sym e ∙ shape_entity f) ∙ fresh.0 in let y : true ≡ false = sym t ∙ z in cc)
  new_behind v x (f ∷ fs) t fresh (inr is) = new_behind (with_object (entity_of f) v) x fs (still (entity_eq (entity_of f) x)) fresh.1 is
    where
      still : (b : Bool) → cond b true (v.taken x) ≡ true
      still true = refl
      still false = t

  pub are_apart : (v : Around) (fs : List Formal) → FreshFormals v fs → AreApart (shapes program fs)
  are_apart v [] fresh = tt
  are_apart v (f ∷ fs) fresh = ((λ x is. go x is (entity_eq (shape_by program f.object f.mode).formal x) refl), are_apart (with_object (entity_of f) v) fs fresh.1)
    where
      go : (x : Entity) → IsOf x (shapes program fs) → (b : Bool) → entity_eq (shape_by program f.object f.mode).formal x ≡ b → b ≡ false
      go x is false e = refl
      go x is true e = absurd (new_behind (with_object (entity_of f) v) x fs (ap (λ b. cond b true (v.taken x)) (ap (λ y. entity_eq y x) (sym (shape_entity f)) ∙ e)) fresh.1 is)

-- ---- where they are

-- each formal is found where its place is
abbrev pub AreFound : List Shape → ℕ → List Spot → Type 0
AreFound all w [] = Unit {0}
AreFound all w (k ∷ ks) = (formal_cell all w k.shape.formal ≡ w + k.at) × AreFound all w ks

-- those from one on are found behind those before
record Behind (all : List Shape) (w i : ℕ) (hs : List Shape) : Type 0 where
  at : (x : Entity) → IsOf x hs → formal_cell all w x ≡ formal_cell hs (w + i) x
  apart : AreApart hs

found_behind : (all : List Shape) (w i : ℕ) (hs : List Shape) → Behind all w i hs → AreFound all w (spots i hs)
found_behind all w i [] b = tt
found_behind all w i (h ∷ hs) b = (
  b.at h.formal (inl refl) ∙ ap (λ b. cond b (w + i) (formal_cell hs (w + i + lead h.back + h.cells) h.formal)) (entity_refl h.formal),
  found_behind all w (i + lead h.back + h.cells) hs (record {
    at = λ x is.
        b.at x (inr is) ∙ ap (λ b. cond b (w + i) (formal_cell hs (w + i + lead h.back + h.cells) x)) (b.apart.0 x is)
        ∙ (let z : w + i + lead h.back + h.cells ≡ w + (i + lead h.back + h.cells) = omega arith in ap (λ n. formal_cell hs n x) z);
    apart = b.apart.1;
  }),
)

pub all_found : (all : List Shape) (w : ℕ) → AreApart all → AreFound all w (spots 0 all)
all_found all w apart = found_behind all w 0 all (record { at = λ x is. (let z : w ≡ w + 0 = omega arith in ap (λ n. formal_cell all n x) z); apart = apart })

-- ---- actual parameters, of which each takes a formal

-- places are of these shapes
abbrev pub AreOf : List Shape → List Spot → Type 0
AreOf [] [] = Unit {0}
AreOf [] (k ∷ ks) = ⊥
AreOf (h ∷ hs) [] = ⊥
AreOf (h ∷ hs) (k ∷ ks) = (k.shape ≡ h) × AreOf hs ks

pub spots_of : (i : ℕ) (hs : List Shape) → AreOf hs (spots i hs)
spots_of i [] = tt
spots_of i (h ∷ hs) = (refl, spots_of (i + lead h.back + h.cells) hs)

pub none_of : (ks : List Spot) → AreOf [] ks → ks ≡ []
none_of [] of = refl
none_of (k ∷ ks) of = absurd of

-- the place of the formal that is taken, and those of the others
pub record Taken (program : Program) (all : List Shape) (w : ℕ) (f : Formal) (gs : List Formal) (ks : List Spot) : Type 0 where
  pub at : ℕ
  pub rest : List Spot
  pub without : Without (record { shape = shape_by program f.object f.mode; at = at }) ks rest
  pub cell : formal_cell all w (shape_by program f.object f.mode).formal ≡ w + at
  pub of : AreOf (shapes program gs) rest
  pub found : AreFound all w rest

pub taken : (program : Program) (all : List Shape) (w : ℕ) (f : Formal) (fs gs : List Formal) (ks : List Spot) → Without f fs gs → AreOf (shapes program fs) ks → AreFound all w ks → Taken program all w f gs ks
taken program all w f [] gs ks wo of found = absurd wo
taken program all w f (e ∷ es) gs [] wo of found = absurd of
taken program all w f (e ∷ es) gs (k ∷ ks) (inl (is, same)) (here, of) (cell, found) =
    let shape : k.shape ≡ shape_by program f.object f.mode = here ∙ ap (λ e. shape_by program e.object e.mode) is in
    subst (λ gs. Taken program all w f gs (k ∷ ks)) (sym same) (record {
      at = k.at;
      rest = ks;
      without = inl (ap (λ h. record { shape = h; at = k.at }) shape, refl);
      cell = ap (λ h. formal_cell all w h.formal) (sym shape) ∙ cell;
      of = of;
      found = found;
    })
taken program all w f (e ∷ es) gs (k ∷ ks) (inr (hs, same, wo)) (here, of) (cell, found) =
    let t : Taken program all w f hs ks = taken program all w f es hs ks wo of found in
    subst (λ gs. Taken program all w f gs (k ∷ ks)) (sym same) (record {
      at = t.at;
      rest = k ∷ t.rest;
      without = inr (t.rest, refl, t.without);
      cell = t.cell;
      of = (here, t.of);
      found = (cell, t.found);
    })
