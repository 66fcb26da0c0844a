-- Formals come into scope in the order of the actual parameters: the scope is the same as in their own order.
use Rattle.std.proofs.Common.{◌≡◌, ℕ, ◌+◌, List, [], ◌∷◌, Option, Some, Bool, true, false, cond, refl, sym, ap, ◌∙◌, subst, inl, inr, true≢false}
use Rattle.behaviours.specs.Paths.{Entity, entity_eq}
use Rattle.ada_meaning.specs.Meaning.{Env}
use Rattle.ada_meaning.proofs.Cells.{entity_same}
use Rattle.typed_scopes.specs.Scopes.{Without}
use Rattle.ada_lower.specs.Driven.{Fixed}
use Rattle.ada_lower.specs.Sights.{Named, Sight}
use Rattle.ada_lower.specs.Emission.{Shape, lead}
use Rattle.ada_lower.specs.Fits.{Ghost, Knows}
use Rattle.ada_lower.specs.Fitted.{Spot, spots}
use Rattle.ada_lower.specs.Bodies.{formal_named, placed, objects, seens, AreFresh, AreBack}
use Rattle.ada_lower.proofs.Spots.{Each}

abbrev pub named_at : Spot → Named
named_at k = formal_named (k.at + lead k.shape.back) k.shape.cells

abbrev pub with_spot : Spot → (Entity → Option Named) → Entity → Option Named
with_spot k o z = cond (entity_eq k.shape.formal z) (Some (named_at k)) (o z)

abbrev pub seen_spot : Spot → (Entity → Bool) → Entity → Bool
seen_spot k o z = cond (entity_eq k.shape.formal z) true (o z)

abbrev pub spot_objects : List Spot → (Entity → Option Named) → Entity → Option Named
spot_objects [] o z = o z
spot_objects (k ∷ ks) o z = spot_objects ks (with_spot k o) z

abbrev pub spot_seens : List Spot → (Entity → Bool) → Entity → Bool
spot_seens [] o z = o z
spot_seens (k ∷ ks) o z = spot_seens ks (seen_spot k o) z

-- the sight with these objects, of which these are seen
abbrev pub sight_with : Sight → (Entity → Option Named) → (Entity → Bool) → Sight
sight_with s o seen = record s { scope = record (s.scope) { object = o }; seen = seen }

abbrev pub spotted : List Spot → Sight → Sight
spotted ks s = sight_with s (λ z. spot_objects ks s.scope.object z) (λ z. spot_seens ks s.seen z)

-- each is new, with those before it
abbrev pub SpotsFresh : List Spot → (Entity → Bool) → Type 0
SpotsFresh [] o = Unit {0}
SpotsFresh (k ∷ ks) o = (o k.shape.formal ≡ false) × SpotsFresh ks (seen_spot k o)

pub knows_same : {limit : ℕ} {cuts : ℕ → ℕ → List ℕ} {g : Ghost} {f : Fixed} {env : Env} (s : Sight) (o o' : Entity → Option Named) (seen seen' : Entity → Bool) → ((z : Entity) → o z ≡ o' z) → ((z : Entity) → seen z ≡ seen' z) → Knows limit cuts g f (sight_with s o seen) env → Knows limit cuts g f (sight_with s o' seen') env
knows_same s o o' seen seen' same same' k = record {
  most = k.most;
  nested = k.nested;
  plan = k.plan;
  kept = k.kept;
  one = k.one;
  old = k.old;
  hidden = λ x i e. k.hidden x i (same' x ∙ e);
  global = k.global;
  outside = k.outside;
  top = k.top;
  beyond = k.beyond;
  object = λ x n e. k.object x n (same x ∙ e);
  parameter = k.parameter;
  item = k.item;
  constant_item = k.constant_item;
  target = k.target;
  handled = k.handled;
  free = k.free;
}

-- ---- one formal after the other

objects_at : (ks : List Spot) (o o' : Entity → Option Named) (z : Entity) → o z ≡ o' z → spot_objects ks o z ≡ spot_objects ks o' z
objects_at [] o o' z e = e
objects_at (k ∷ ks) o o' z e = objects_at ks (with_spot k o) (with_spot k o') z (ap (λ n. cond (entity_eq k.shape.formal z) (Some (named_at k)) n) e)

seens_at : (ks : List Spot) (o o' : Entity → Bool) (z : Entity) → o z ≡ o' z → spot_seens ks o z ≡ spot_seens ks o' z
seens_at [] o o' z e = e
seens_at (k ∷ ks) o o' z e = seens_at ks (seen_spot k o) (seen_spot k o') z (ap (λ n. cond (entity_eq k.shape.formal z) true n) e)

fresh_at : (ks : List Spot) (o o' : Entity → Bool) → ((z : Entity) → o z ≡ o' z) → SpotsFresh ks o → SpotsFresh ks o'
fresh_at [] o o' e fresh = tt
fresh_at (k ∷ ks) o o' e (new, fresh) = (sym (e k.shape.formal) ∙ new, fresh_at ks (seen_spot k o) (seen_spot k o') (λ z. ap (λ n. cond (entity_eq k.shape.formal z) true n) (e z)) fresh)

-- neither hides the other
seen_swap : (k y : Spot) (o : Entity → Bool) (z : Entity) → seen_spot k (seen_spot y o) z ≡ seen_spot y (seen_spot k o) z
seen_swap k y o z = go (entity_eq k.shape.formal z) (entity_eq y.shape.formal z)
  where
    go : (a b : Bool) → cond a true (cond b true (o z)) ≡ cond b true (cond a true (o z))
    go true true = refl
    go true false = refl
    go false true = refl
    go false false = refl

object_swap : (k y : Spot) (o : Entity → Option Named) (z : Entity) → entity_eq y.shape.formal k.shape.formal ≡ false → with_spot k (with_spot y o) z ≡ with_spot y (with_spot k o) z
object_swap k y o z other = go (entity_eq k.shape.formal z) (entity_eq y.shape.formal z) refl refl
  where
    go : (a b : Bool) → entity_eq k.shape.formal z ≡ a → entity_eq y.shape.formal z ≡ b → cond a (Some (named_at k)) (cond b (Some (named_at y)) (o z)) ≡ cond b (Some (named_at y)) (cond a (Some (named_at k)) (o z))
    go true true e e' =
        let same : k.shape.formal ≡ z = entity_same k.shape.formal z e in
        absurd (true≢false (sym e' ∙ ap (λ x. entity_eq y.shape.formal x) (sym same) ∙ other))
    go true false e e' = refl
    go false true e e' = refl
    go false false e e' = refl

seen_parts : (a b : Bool) → cond a true b ≡ false → (a ≡ false) × (b ≡ false)
seen_parts true b e = absurd (true≢false e)
seen_parts false b e = (refl, e)

-- one comes first
pub record Comes (k : Spot) (ks zs : List Spot) (o : Entity → Option Named) (seen : Entity → Bool) : Type 0 where
  pub new : seen k.shape.formal ≡ false
  pub fresh : SpotsFresh zs (seen_spot k seen)
  pub object : (z : Entity) → spot_objects zs (with_spot k o) z ≡ spot_objects ks o z
  pub see : (z : Entity) → spot_seens zs (seen_spot k seen) z ≡ spot_seens ks seen z

pub comes_first : (k : Spot) (ks zs : List Spot) (o : Entity → Option Named) (seen : Entity → Bool) → Without k ks zs → SpotsFresh ks seen → Comes k ks zs o seen
comes_first k [] zs o seen wo fresh = absurd wo
comes_first k (y ∷ ys) zs o seen (inl (is, rest)) (new, fresh) =
    subst (λ zs. Comes k (y ∷ ys) zs o seen) (sym rest) (subst (λ k. Comes k (y ∷ ys) ys o seen) is (record { new = new; fresh = fresh; object = λ z. refl; see = λ z. refl }))
comes_first k (y ∷ ys) zs o seen (inr (ws, rest, wo)) (new, fresh) =
    let c : Comes k ys ws (with_spot y o) (seen_spot y seen) = comes_first k ys ws (with_spot y o) (seen_spot y seen) wo fresh in
    let (other, first) = seen_parts (entity_eq y.shape.formal k.shape.formal) (seen k.shape.formal) c.new in
    subst (λ zs. Comes k (y ∷ ys) zs o seen) (sym rest) (record {
      new = first;
      fresh = (apart other, fresh_at ws (seen_spot k (seen_spot y seen)) (seen_spot y (seen_spot k seen)) (λ z. seen_swap k y seen z) c.fresh);
      object = λ z. objects_at ws (with_spot y (with_spot k o)) (with_spot k (with_spot y o)) z (sym (object_swap k y o z other)) ∙ c.object z;
      see = λ z. seens_at ws (seen_spot y (seen_spot k seen)) (seen_spot k (seen_spot y seen)) z (sym (seen_swap k y seen z)) ∙ c.see z;
    })
  where
    apart : entity_eq y.shape.formal k.shape.formal ≡ false → seen_spot k seen y.shape.formal ≡ false
    apart other = go (entity_eq k.shape.formal y.shape.formal) refl
      where
        go : (b : Bool) → entity_eq k.shape.formal y.shape.formal ≡ b → cond b true (seen y.shape.formal) ≡ false
        go true e = absurd (true≢false (sym e ∙ ap (λ x. entity_eq x y.shape.formal) (entity_same k.shape.formal y.shape.formal e) ∙ ap (λ x. entity_eq y.shape.formal x) (sym (entity_same k.shape.formal y.shape.formal e)) ∙ other))
        go false e = new

-- ---- in their own order

pub placed_objects : (i : ℕ) (hs : List Shape) (o : Entity → Option Named) (z : Entity) → spot_objects (spots i hs) o z ≡ objects hs i o z
placed_objects i [] o z = refl
placed_objects i (h ∷ hs) o z = placed_objects (i + lead h.back + h.cells) hs (λ z. cond (entity_eq h.formal z) (Some (formal_named (i + lead h.back) h.cells)) (o z)) z

pub placed_seens : (i : ℕ) (hs : List Shape) (o : Entity → Bool) (z : Entity) → spot_seens (spots i hs) o z ≡ seens hs o z
placed_seens i [] o z = refl
placed_seens i (h ∷ hs) o z = placed_seens (i + lead h.back + h.cells) hs (λ z. cond (entity_eq h.formal z) true (o z)) z

pub knows_placed : {limit : ℕ} {cuts : ℕ → ℕ → List ℕ} {g : Ghost} {f : Fixed} {env : Env} (hs : List Shape) (s : Sight) → Knows limit cuts g f (spotted (spots 0 hs) s) env → Knows limit cuts g f (placed hs 0 s) env
knows_placed hs s k = knows_same s (λ z. spot_objects (spots 0 hs) s.scope.object z) (λ z. objects hs 0 s.scope.object z) (λ z. spot_seens (spots 0 hs) s.seen z) (λ z. seens hs s.seen z) (λ z. placed_objects 0 hs s.scope.object z) (λ z. placed_seens 0 hs s.seen z) k

pub spots_fresh : (i : ℕ) (hs : List Shape) (s : Sight) → AreFresh hs i s → SpotsFresh (spots i hs) s.seen
spots_fresh i [] s fresh = tt
spots_fresh i (h ∷ hs) s (new, fresh) = (new, spots_fresh (i + lead h.back + h.cells) hs (Rattle.ada_lower.specs.Sights.with_object h.formal (formal_named (i + lead h.back) h.cells) s) fresh)

-- one that is copied back is visible
abbrev pub IsBack : Sight → Spot → Type 0
IsBack t k = k.shape.back ≡ true → t.scope.object k.shape.formal ≡ Some (named_at k)

pub spots_back : (i : ℕ) (hs : List Shape) (t : Sight) → AreBack hs i t → Each (IsBack t) (spots i hs)
spots_back i [] t backs = tt
spots_back i (h ∷ hs) t (here, backs) = (here, spots_back (i + lead h.back + h.cells) hs t backs)
