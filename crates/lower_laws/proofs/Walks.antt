-- Names reach their parts, arrays that are gone through too; and the cells that code keeps are in the frame.
use Rattle.std.proofs.Common.{◌≡◌, ℤ, pos, ◌-ℤ◌, ℕ, zero, suc, ◌+◌, ◌*◌, ◌<◌, ◌≤◌, max, nat_eq, List, [], ◌∷◌, Option, Bool, true, false, cond, refl, ap, ◌∙◌, subst, arith}
use Rattle.std.proofs.lemmas.Bool.{ne_eqb}
use Rattle.std.proofs.Math.Nat.{le-max_right}
use Rattle.behaviours.specs.Paths.{Entity}
use Rattle.typed_tree.specs.declared.expressions.Root.{Root}
use Rattle.typed_tree.specs.declared.expressions.Run.{Run}
use Rattle.typed_tree.specs.Syntax.{Optional, Selections, Components, Chunk, NoChunk, Count, Each, Program}
use Rattle.ada_meaning.specs.Formed.{FormedIteration, FormedOptional, FormedSelections, Known, Spans, SpansConstant, with_constant, with_shape}
use Rattle.ada_meaning.specs.Shapes.{size}
use Rattle.ada_base.specs.declared.operation.Base.TheVariants.{Wide}
use Rattle.stack_code.specs.declared.code.Around as body
use Rattle.stack_code.specs.declared.code.SiteKind.{SiteKind}
use Rattle.lower_emission.specs.Emits.{Emit}
use Rattle.lower_emission.specs.Scope.{Scope, from, keep, looped, none, one, ◌⨟◌}
use Rattle.stack_code.specs.declared.instr.Instr.TheVariants as i
use Rattle.ada_lower.specs.Sights.{Named, Sight, array_root_of, constant_root_of, item_sight, root_of}
use Rattle.ada_lower.specs.Emission.{chunk_scope, doubled, entering, filling, fillings, components_of, locating, locating_in, repeating, run_steps, run_turnings, turn_item, turning, turnings}
use Rattle.ada_lower.specs.Fitted.{Reached}
use Rattle.typed_scopes.specs.Scopes.{Around, ArraySeen, ConstantSeen, VariableSeen}
use Rattle.lower_laws.specs.Rooms.{Roomy}
use Rattle.lower_laws.proofs.Reaching.{components_in, reaches}
use Rattle.lower_laws.proofs.Sees.{Sees, constant_seen, sees_constant_item, sees_constant_turn_item, sees_item, sees_turn_item, variable_seen}

-- a cell that is kept is one of the frame
pub kept : (free n room cells : ℕ) → max free (n + 1) ≤ room → room ≤ cells → n < cells
kept free n room cells m le = let z = le-max_right free (n + 1) in omega (arith, z, m, le)

pub positive : (n : ℕ) → 1 ≤ n → nat_eq n 0 ≡ false
positive zero le = absurd (omega (arith, le))
positive (suc n) le = ne_eqb (suc n) 0 (λ e. omega (arith, e))

pub chunk_free : (chunk : Chunk) (s : Scope) → (chunk_scope chunk s).free ≡ s.free
chunk_free NoChunk s = refl
chunk_free (Count e) s = refl
chunk_free (Each k low high check) s = refl

-- the code of a value that one component at least is given
pub filled_room : (rows : ℕ → SiteKind → body.Around → Type 0) (room : body.Around → ℕ) (s : Scope) (h t size : ℕ) (plain : Bool) (value : ℕ → Emit) (r : Run) (rs : List Run) → 1 ≤ r.count → Roomy rows room (fillings s h t size plain value (r ∷ rs)) → (n : ℕ) × Roomy rows room (value n)
filled_room rows room s h t size plain value r rs le m = (r.first, by _ r.count le m.0)
  where
    by : (b : Bool) (count : ℕ) → 1 ≤ count → Roomy rows room (cond b (value r.first ⨟ doubled s h (t + r.first) size r.count 1 r.count) (filling value count r.first r.stride)) → Roomy rows room (value r.first)
    by true count le m = m.0
    by false zero le m = absurd (omega (arith, le))
    by false (suc count) le m = m.0

pub turned_room : (rows : ℕ → SiteKind → body.Around → Type 0) (room : body.Around → ℕ) (s : Scope) (h t : ℕ) (low : ℤ) (component : Emit) (r : Run) (rs : List Run) → 1 ≤ r.count → Roomy rows room (turnings s h t low component (r ∷ rs)) → Roomy rows room (keep s h (s.free + 1 + 1)) × Roomy rows room component
turned_room rows room s h t low component r [] le m =
    let w : Roomy rows room (turning s h t low component r.count r.first r.stride) = subst (λ b. Roomy rows room (cond b none (turning s h t low component r.count r.first r.stride))) (positive r.count le) m in
    (w.1.1.1.1.1.0, (w.1.1.1.1.1.1.1 0).1)
turned_room rows room s h t low component r (p ∷ rs) le m =
    let whole : Emit = one s h (i.Push (pos 0)) ⨟ entering s (h + 1) t low r.count r.first ⨟ looped s (h + 1) true (λ exit. one s (h + 1) i.Turn ⨟ component) (λ head. run_steps s h t low head 0 (r ∷ p ∷ rs)) ⨟ one s (h + 1) i.Pop in
    let w : Roomy rows room whole = subst (λ b. Roomy rows room (cond b (run_turnings s h t low component 1 (p ∷ rs)) whole)) (positive r.count le) m in
    (w.1.0.1.1.1.1.1, (w.1.1.0.1 0).1)

-- that of one that is computed anew for each of several components
locating_room : (rows : ℕ → SiteKind → body.Around → Type 0) (room : body.Around → ℕ) (s : Scope) (h t : ℕ) (r : Run) (rs : List Run) → 1 ≤ r.count → Roomy rows room (locating_in s h t 0 (r ∷ rs)) → Roomy rows room (keep s (h + 1) (s.free + 1))
locating_room rows room s h t r rs le m = (subst (λ b. Roomy rows room (cond b none whole)) (positive r.count le) (first rs m)).1.1.1
  where
    whole : Emit
    whole = one s h (i.Local (t + r.first)) ⨟ one s (h + 1) (i.LoadL s.free) ⨟ one s (h + 1 + 1) (i.Index (pos 0) (pos (0 + r.count) -ℤ pos 1) r.stride) ⨟ keep s (h + 1) (s.free + 1)

    first : (rs : List Run) → Roomy rows room (locating_in s h t 0 (r ∷ rs)) → Roomy rows room (locating s h t 0 r)
    first [] m = m
    first (p ∷ rs) m = m.1.1.1.1

pub repeated_room : (rows : ℕ → SiteKind → body.Around → Type 0) (room : body.Around → ℕ) (s : Scope) (h t : ℕ) (component : Emit) (r : Run) (rs : List Run) → 1 ≤ r.count → Roomy rows room (repeating s h t component (r ∷ rs)) → Roomy rows room (keep s (h + 1) (s.free + 1)) × Roomy rows room component
repeated_room rows room s h t component r rs le m =
    let round : ℕ → Emit = λ head. locating_in s h t 0 (r ∷ rs) ⨟ component ⨟ one s h (i.LoadL s.free) ⨟ one s (h + 1) (i.AddI (pos 1) Wide) ⨟ keep s (h + 1) s.free ⨟ one s h (i.Again head) in
    let whole : Emit = one s h (i.Push (pos 0)) ⨟ keep s (h + 1) s.free ⨟ one s h (i.Repeat (components_of (r ∷ rs))) ⨟ from round in
    let w : Roomy rows room whole = subst (λ b. Roomy rows room (cond b none whole)) (positive (components_of (r ∷ rs)) (omega (arith, le))) m in
    let rounds : Roomy rows room (round 0) = w.1.1.1 0 in
    (locating_room rows room s h t r rs le rounds.0, rounds.1.0)

module _ (program : Program) (names : Entity → Option Named) (mains : Entity → Bool) (T : List ℕ → Type 0) (frames : ℕ → ℕ) (room : body.Around → ℕ) where
  abbrev S : Known → Around → Sight → Type 0
  S = Sees program names mains T frames room

  pub reached_variable : {w : Known} {v : Around} {i : Sight} (r : Root) (x : Selections) (m : ℕ) → S w v i → Spans program w r x m → VariableSeen v r → Reached (root_of i.scope r) x m
  reached_variable r x m k f seen =
      let (n, is, le) = variable_seen program names mains T frames room r f.1.0 k f.1.1 seen in
      (n, is, reaches x f.1.0 f.0 n.cells m f.1.2 le f.2)

  pub reached_constant : {w : Known} {v : Around} {i : Sight} (r : Root) (x : Selections) (m : ℕ) → S w v i → SpansConstant program w r x m → ConstantSeen v r → Reached (constant_root_of i.scope r) x m
  reached_constant r x m k f seen =
      let (n, is, le) = constant_seen program names mains T frames room r f.1.0 k f.1.1 seen in
      (n, is, reaches x f.1.0 f.0 n.cells m f.1.2 le f.2)

  -- an array that is gone through, with what is known where its components are named
  pub record Through (w : Known) (v : Around) (k : ℕ) (constant : Bool) (from : Root) (x : Selections) (number stride : ℕ) (passes : Optional) (does : Known → Type 0) : Type 0 where
    pub reached : (i : Sight) → S w v i → Reached (array_root_of constant i.scope from) x (number * stride)
    pub selections : FormedSelections program w x
    pub inner : Known
    pub filter : FormedOptional program inner passes
    pub does_so : does inner
    pub item : (u : Around) (i : Sight) (label : Option ℕ) (exit : ℕ) → i.scope.free + 3 ≤ i.cells → S w u i → S inner u (item_sight i label constant k stride exit)
    pub turn : (u : Around) (i : Sight) → i.scope.free + 3 ≤ i.cells → S w u i → S inner u (record i { scope = turn_item i.scope constant k stride })

  pub through : {w : Known} {v : Around} (k : ℕ) (constant : Bool) (at : ℕ) (from : Root) (x : Selections) (number stride dimensions : ℕ) (passes : Optional) (does : Known → Type 0)
      → FormedIteration program w (Components k constant at from x number stride dimensions passes) does → ArraySeen constant v from → Through w v k constant from x number stride passes does
  through {w = w} k true at from x number stride dimensions passes does f seen =
      let few : number * stride ≡ size f.1.0 = ap (λ n. number * n) f.1.4 ∙ components_in f.1.0 dimensions number f.1.1 f.1.3 in
      record {
        reached = λ i k. reached_constant from x (number * stride) k (f.1.0, f.1.2, omega (arith, few)) seen;
        selections = f.0;
        inner = with_constant k f.1.1 w;
        filter = f.1.5;
        does_so = f.1.6;
        item = λ u i label exit r s. sees_constant_item program names mains T frames room label k stride exit f.1.1 f.1.4 r s;
        turn = λ u i r s. sees_constant_turn_item program names mains T frames room k stride f.1.1 f.1.4 r s;
      }
  through {w = w} k false at from x number stride dimensions passes does f seen =
      let few : number * stride ≡ size f.1.0 = ap (λ n. number * n) f.1.4 ∙ components_in f.1.0 dimensions number f.1.1 f.1.3 in
      record {
        reached = λ i k. reached_variable from x (number * stride) k (f.1.0, f.1.2, omega (arith, few)) seen;
        selections = f.0;
        inner = with_shape k f.1.1 w;
        filter = f.1.5;
        does_so = f.1.6;
        item = λ u i label exit r s. sees_item program names mains T frames room label k stride exit f.1.1 f.1.4 r s;
        turn = λ u i r s. sees_turn_item program names mains T frames room k stride f.1.1 f.1.4 r s;
      }
