-- What is known of the objects that are in the scope of the code.
use Rattle.std.proofs.Common.{◌≡◌, ℕ, ◌≤◌, slice_get, Option, Some, None, Bool, true, false, cond, refl, sym, ap, ◌∙◌, subst, true≢false}
use Rattle.std.proofs.lemmas.Option.{none-some}
use Rattle.behaviours.specs.Paths.{Entity, VariableOf, entity_eq}
use Rattle.typed_tree.specs.Syntax.{Chunk, NoChunk, Count, Each, Iteration, Range, Components, Program}
use Rattle.ada_meaning.specs.Shapes.{object_shape, size}
use Rattle.ada_meaning.proofs.Cells.{entity_same, some_same}
use Rattle.stack_code.specs.declared.code.SiteKind.{SiteKind}
use Rattle.stack_code.specs.declared.code.SiteKind.TheVariants as kind
use Rattle.typed_tree.specs.declared.expressions.Reducer.{Reducer}
use Rattle.typed_scopes.specs.Scopes.{Around, with_chunk}
use Rattle.check_effects.specs.Effects.{Access, Construct, IsGlobal, Reached, Touches}
use Rattle.check_effects.specs.Conflicts.{IsThreadEffect}
use Rattle.check_effects.specs.Covered.{arm_of, has_items, site_of}
use Rattle.stack_code.specs.declared.code.Code.{Code}
use Rattle.stack_code.specs.declared.code.CodeSite.{CodeSite}
use Rattle.check_inference.specs.Exact.{OfThread, is_block}
use Rattle.ada_lower.specs.Sights.{Main, Named, Sight, moved_named, outer_named, turn_sight}
use Rattle.ada_lower.specs.Bodies.{main_named}
use Rattle.lower_emission.specs.Scope.{outer_level}
use Rattle.ada_lower.specs.Emission.{loop_kind, reduction_kind}
use Rattle.ada_lower.specs.Lending.{IsOfArm}
use Rattle.lower_laws.proofs.Sees.{number_of}

-- an object has its cells there, and one of the main procedure is where that has it
pub record IsHere (program : Program) (y : Entity) (main : Bool) (global : Option Named) (m : Named) : Type 0 where
  pub direct : m.through ≡ false
  pub enough : size (object_shape program (number_of y)) ≤ m.cells
  pub everywhere : main ≡ true → global ≡ Some m
  pub level : main ≡ true → m.place.level ≡ Main

-- and what a callee may see is named
pub record AreHere (program : Program) (object global : Entity → Option Named) (seen main outer : Entity → Bool) : Type 0 where
  pub named : (y : Entity) (m : Named) → object y ≡ Some m → IsHere program y (main y) (global y) m
  pub apart : (y : Entity) → seen y ≡ false → main y ≡ false
  pub around : (y : Entity) → outer y ≡ true → (m : Named) × (object y ≡ Some m)

abbrev pub Sees : Program → Around → Sight → Type 0
Sees program v s = AreHere program s.scope.object s.global s.seen s.main v.outer

-- what subprograms write of the main procedure's objects, themselves or by calls, they see
abbrev pub Shows : Program → (ℕ → Entity → Bool) → Type 0
Shows program shown = (sub there : ℕ) (a : Access) → Reached program sub (Touches there a) → IsGlobal program a.object → a.writes ≡ true → shown sub (VariableOf a.object) ≡ true

-- what the threads of a construct may write is named there
abbrev pub WritesSeen : Program → Construct → Sight → Type 0
WritesSeen program k s = (j at : ℕ) (a : Access) → IsThreadEffect program k j at a → a.writes ≡ true → (m : Named) × (s.scope.object (VariableOf a.object) ≡ Some m)

-- in a block the arm is that of the iteration
abbrev pub IsKind : Construct → SiteKind → Type 0
IsKind k kd = (j i arm : ℕ) → (IsOfArm kd i arm → OfThread (is_block k) (arm_of k j i) arm) × (OfThread (is_block k) (arm_of k j i) arm → IsOfArm kd i arm)

-- at each construct what is asked is given by what is told there
abbrev pub Gives : (program : Program) (shown : ℕ → Entity → Bool) (c : Code) (lent told : Bool → Sight → ℕ → CodeSite → Type 0) (held : Construct → Type 0) → Type 0
Gives program shown c lent told held =
    (items : Bool) (v : Around) (s : Sight) (site : ℕ) (cs : CodeSite) (k : Construct) → held k → site_of k ≡ site → has_items k ≡ items → Sees program v s → slice_get c.sites site ≡ Some cs → IsKind k cs.kind
    → (Shows program shown → WritesSeen program k s) → told items s site cs → lent items s site cs

any_loop : (chunk : Chunk) (i arm : ℕ) → IsOfArm (loop_kind chunk) i arm
any_loop NoChunk i arm = tt
any_loop (Count e) i arm = tt
any_loop (Each k low high check) i arm = tt

any_fold : (by : Reducer) (chunk : Chunk) (i arm : ℕ) → IsOfArm (reduction_kind by chunk) i arm
any_fold by NoChunk i arm = tt
any_fold by (Count e) i arm = tt
any_fold by (Each k low high check) i arm = tt

pub loop_arm : (kd : SiteKind) (chunk : Chunk) → kd ≡ loop_kind chunk → (i arm : ℕ) → IsOfArm kd i arm
loop_arm kd chunk e i arm = subst (λ kd. IsOfArm kd i arm) (sym e) (any_loop chunk i arm)

pub fold_arm : (kd : SiteKind) (by : Reducer) (chunk : Chunk) → kd ≡ reduction_kind by chunk → (i arm : ℕ) → IsOfArm kd i arm
fold_arm kd by chunk e i arm = subst (λ kd. IsOfArm kd i arm) (sym e) (any_fold by chunk i arm)

pub block_arm : (kd : SiteKind) (n : ℕ) → kd ≡ kind.Block n → (i arm : ℕ) → (IsOfArm kd i arm → arm ≡ i) × (arm ≡ i → IsOfArm kd i arm)
block_arm kd n e i arm = subst (λ kd. (IsOfArm kd i arm → arm ≡ i) × (arm ≡ i → IsOfArm kd i arm)) (sym e) ((λ h. sym h), (λ h. sym h))

pub moved_some : (o : Option Named) (m : Named) → moved_named o ≡ Some m → (n : Named) × (o ≡ Some n) × (outer_named n ≡ m)
moved_some None m e = absurd (none-some m e)
moved_some (Some n) m e = (n, refl, some_same (outer_named n) m e)

also_named : (y : Entity) (m : Named) (o : Option Named) (z : Entity) → (n : Named) × (o ≡ Some n) → (n : Named) × (cond (entity_eq y z) (Some m) o ≡ Some n)
also_named y m o z h = go (entity_eq y z)
  where
    go : (b : Bool) → (n : Named) × (cond b (Some m) o ≡ Some n)
    go true = (m, refl)
    go false = h

pub also_there : {o : Option Named} {b : Bool} (y : Entity) (m : Named) (z : Entity) → (b ≡ true → (n : Named) × (o ≡ Some n)) → cond (entity_eq y z) true b ≡ true → (n : Named) × (cond (entity_eq y z) (Some m) o ≡ Some n)
also_there {o} {b} y m z h = go (entity_eq y z)
  where
    go : (t : Bool) → cond t true b ≡ true → (n : Named) × (cond t (Some m) o ≡ Some n)
    go true e = (m, refl)
    go false e = h e

module _ (program : Program) where
  -- an object that is declared
  pub sees_object : {object global : Entity → Option Named} {seen main outer : Entity → Bool} (y : Entity) (m : Named) → m.through ≡ false → size (object_shape program (number_of y)) ≤ m.cells → seen y ≡ false
      → AreHere program object global seen main outer → AreHere program (λ z. cond (entity_eq y z) (Some m) (object z)) global (λ z. cond (entity_eq y z) true (seen z)) main outer
  sees_object {object} {global} {seen} {main} y m direct enough fresh h = record { named = λ z o e. at z o (entity_eq y z) refl e; apart = λ z e. hidden z (entity_eq y z) e; around = λ z e. also_named y m (object z) z (h.around z e) }
    where
      not_main : main y ≡ true → ⊥
      not_main e = true≢false (sym e ∙ h.apart y fresh)

      here : IsHere program y (main y) (global y) m
      here = record { direct = direct; enough = enough; everywhere = λ e. absurd (not_main e); level = λ e. absurd (not_main e) }

      at : (z : Entity) (o : Named) (b : Bool) → entity_eq y z ≡ b → cond b (Some m) (object z) ≡ Some o → IsHere program z (main z) (global z) o
      at z o true e is = subst (λ o. IsHere program z (main z) (global z) o) (some_same m o is) (subst (λ z. IsHere program z (main z) (global z) m) (entity_same y z e) here)
      at z o false e is = h.named z o is

      hidden : (z : Entity) (b : Bool) → cond b true (seen z) ≡ false → main z ≡ false
      hidden z true e = absurd (true≢false e)
      hidden z false e = h.apart z e

  -- one of the main procedure
  pub sees_main : {object global : Entity → Option Named} {seen main outer : Entity → Bool} (y : Entity) (cell cells : ℕ) → size (object_shape program (number_of y)) ≤ cells
      → AreHere program object global seen main outer
      → AreHere program (λ z. cond (entity_eq y z) (Some (main_named cell cells)) (object z)) (λ z. cond (entity_eq y z) (Some (main_named cell cells)) (global z)) (λ z. cond (entity_eq y z) true (seen z)) (λ z. cond (entity_eq y z) true (main z)) (λ z. cond (entity_eq y z) true (outer z))
  sees_main {object} {global} {seen} {main} {outer} y cell cells enough h = record { named = λ z o e. at z o (entity_eq y z) refl e; apart = λ z e. hidden z (entity_eq y z) e; around = λ z e. also_there y (main_named cell cells) z (h.around z) e }
    where
      at : (z : Entity) (o : Named) (b : Bool) → entity_eq y z ≡ b → cond b (Some (main_named cell cells)) (object z) ≡ Some o → IsHere program z (cond b true (main z)) (cond b (Some (main_named cell cells)) (global z)) o
      at z o true e is =
          subst (λ o. IsHere program z true (Some (main_named cell cells)) o) (some_same (main_named cell cells) o is)
          (record { direct = refl; enough = subst (λ z. size (object_shape program (number_of z)) ≤ cells) (entity_same y z e) enough; everywhere = λ t. refl; level = λ t. refl })
      at z o false e is = h.named z o is

      hidden : (z : Entity) (b : Bool) → cond b true (seen z) ≡ false → cond b true (main z) ≡ false
      hidden z true e = e
      hidden z false e = h.apart z e

  outer_main : (n : Named) → n.place.level ≡ Main → outer_named n ≡ n
  outer_main n e = ap (λ l. record { through = n.through; place = record { level = l; cell = n.place.cell }; cells = n.cells }) (ap (λ l. outer_level l) e ∙ sym e)

  -- within a thread
  pub sees_thread : {object global : Entity → Option Named} {seen main outer : Entity → Bool} → AreHere program object global seen main outer → AreHere program (λ y. moved_named (object y)) global seen main outer
  sees_thread {object} {global} {seen} {main} h = record { named = λ y m e. at y m (moved_some (object y) m e); apart = h.apart; around = λ y e. (let (m, is) = h.around y e in (outer_named m, ap moved_named is)) }
    where
      at : (y : Entity) (m : Named) → (n : Named) × (object y ≡ Some n) × (outer_named n ≡ m) → IsHere program y (main y) (global y) m
      at y m (n, is, same) =
          let z = h.named y n is in
          subst (λ m. IsHere program y (main y) (global y) m) same
          (record { direct = z.direct; enough = z.enough; everywhere = λ t. z.everywhere t ∙ ap Some (sym (outer_main n (z.level t))); level = λ t. ap (λ l. outer_level l) (z.level t) })

  pub sees_turn : (chunk : Chunk) (it : Iteration) (v : Around) (s : Sight) → Sees program v s → Sees program v (turn_sight s chunk it)
  sees_turn NoChunk (Range k reverse low high check filter) v s h = h
  sees_turn (Count e) (Range k reverse low high check filter) v s h = h
  sees_turn (Each p l u c) (Range k reverse low high check filter) v s h = h
  sees_turn NoChunk (Components k constant at r selections count stride dimensions filter) v s h = h
  sees_turn (Count e) (Components k constant at r selections count stride dimensions filter) v s h = h
  sees_turn (Each p l u c) (Components k constant at r selections count stride dimensions filter) v s h = h

  -- chunks have parameters alone
  pub sees_chunk : (chunk : Chunk) (v : Around) (s : Sight) → Sees program v s → Sees program (with_chunk chunk v) s
  sees_chunk NoChunk v s h = h
  sees_chunk (Count e) v s h = h
  sees_chunk (Each p l u c) v s h = h
