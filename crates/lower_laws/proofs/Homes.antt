-- Where what is in scope lies, as the list of a program's variables tells.
use Rattle.std.proofs.Common.{◌≡◌, ℕ, ◌+◌, ◌-◌, ◌≤◌, nat_lt, List, ◌⊎◌, inl, inr, Option, Some, None, Bool, true, false, cond, refl, sym, ap, ◌∙◌, subst, true≢false, arith, ltb-false, ltb-true}
use Rattle.std.proofs.lemmas.Bool.{ne_eqb}
use Rattle.std.proofs.lemmas.Option.{none-some}
use Rattle.behaviours.specs.Paths.{Entity, VariableOf, entity_eq}
use Rattle.typed_tree.specs.Syntax.{Chunk, NoChunk, Count, Each, Iteration, Range, Components}
use Rattle.ada_meaning.proofs.Cells.{entity_same, some_same}
use Rattle.lower_emission.specs.Scope.{outer_level, outer_named, moved_named}
use Rattle.ada_lower.specs.declared.types.Home.{Home}
use Rattle.ada_lower.specs.Places.{level_from, named_from}
use Rattle.ada_lower.specs.Lending.{Among}
use Rattle.ada_lower.specs.Sights.{Own, Around, Main, Named, Sight, turn_sight}

-- a variable lies where its home is, seen from that depth
pub record IsPlaced (homes : List Home) (d x : ℕ) (m : Named) : Type 0 where
  pub home : Home
  pub among : Among home homes
  pub of : home.object ≡ x
  pub around : (home.main ≡ true) ⊎ (home.depth ≤ d)
  pub is : m ≡ named_from d home

pub record ArePlaced (homes : List Home) (d : ℕ) (object : Entity → Option Named) : Type 0 where
  pub variable : (x : ℕ) (m : Named) → object (VariableOf x) ≡ Some m → IsPlaced homes d x m

abbrev pub Places : List Home → ℕ → Sight → Type 0
Places homes d s = ArePlaced homes d s.scope.object

not_below : (d : ℕ) → nat_lt d d ≡ false
not_below d = go (nat_lt d d) refl
  where
    go : (b : Bool) → nat_lt d d ≡ b → b ≡ false
    go false e = refl
    go true e = absurd (let lt = ltb-true d d e in omega (arith, lt))

below_next : (a d : ℕ) → a ≤ d → nat_lt a (d + 1) ≡ true
below_next a d le = go (nat_lt a (d + 1)) refl
  where
    go : (b : Bool) → nat_lt a (d + 1) ≡ b → b ≡ true
    go true e = refl
    go false e = absurd (let ge = ltb-false a (d + 1) e in omega (arith, ge, le))

module _ (homes : List Home) where
  -- one that is declared there
  pub places_object : {d : ℕ} {object : Entity → Option Named} (y : Entity) (m : Named) → ((x : ℕ) → y ≡ VariableOf x → IsPlaced homes d x m) → ArePlaced homes d object → ArePlaced homes d (λ z. cond (entity_eq y z) (Some m) (object z))
  places_object {d} {object} y m here h = record { variable = λ x o e. go x o (entity_eq y (VariableOf x)) refl e }
    where
      go : (x : ℕ) (o : Named) (b : Bool) → entity_eq y (VariableOf x) ≡ b → cond b (Some m) (object (VariableOf x)) ≡ Some o → IsPlaced homes d x o
      go x o true e is = subst (λ o. IsPlaced homes d x o) (some_same m o is) (here x (entity_same y (VariableOf x) e))
      go x o false e is = h.variable x o is

  -- the home of an object in the own frame
  own_home : (d : ℕ) (h : Home) → h.main ≡ false → h.depth ≡ d → named_from d h ≡ record { through = false; place = record { level = Own; cell = h.cell }; cells = h.cells }
  own_home d h e f = ap (λ l. record { through = false; place = record { level = l; cell = h.cell }; cells = h.cells }) (ap (λ b. cond b Main (cond (nat_lt h.depth d) (Around (d - h.depth)) Own)) e ∙ ap (λ b. cond b (Around (d - h.depth)) Own) (ap (λ z. nat_lt z d) f ∙ not_below d))

  main_home : (d : ℕ) (h : Home) → h.main ≡ true → named_from d h ≡ record { through = false; place = record { level = Main; cell = h.cell }; cells = h.cells }
  main_home d h e = ap (λ b. record { through = false; place = record { level = cond b Main (cond (nat_lt h.depth d) (Around (d - h.depth)) Own); cell = h.cell }; cells = h.cells }) e

  pub own_placed : (d x n cells : ℕ) → Among (record { object = x; main = false; depth = d; cell = n; cells = cells }) homes → IsPlaced homes d x (record { through = false; place = record { level = Own; cell = n }; cells = cells })
  own_placed d x n cells i =
      let h : Home = record { object = x; main = false; depth = d; cell = n; cells = cells } in
      record { home = h; among = i; of = refl; around = inr (let z : d ≤ d = omega arith in z); is = sym (own_home d h refl refl) }

  pub main_placed : (d x n cells : ℕ) → Among (record { object = x; main = true; depth = 0; cell = n; cells = cells }) homes → IsPlaced homes d x (record { through = false; place = record { level = Main; cell = n }; cells = cells })
  main_placed d x n cells i =
      let h : Home = record { object = x; main = true; depth = 0; cell = n; cells = cells } in
      record { home = h; among = i; of = refl; around = inl refl; is = sym (main_home d h refl) }

  -- within a thread
  level_out : (d : ℕ) (h : Home) → (h.main ≡ true) ⊎ (h.depth ≤ d) → outer_level (level_from d h) ≡ level_from (d + 1) h
  level_out d h a = go h.main refl a
    where
      lower : (a d : ℕ) → a ≤ d → (b : Bool) → nat_lt a d ≡ b → outer_level (cond b (Around (d - a)) Own) ≡ Around (d + 1 - a)
      lower a d le true e =
          let lt = ltb-true a d e in
          ap Around (ap (λ b. cond b 2 (d - a + 1)) (ne_eqb (d - a) 0 (λ z. let y : d - a ≡ 0 = z in omega (arith, y, lt))) ∙ (let z : d - a + 1 ≡ d + 1 - a = omega (arith, lt) in z))
      lower a d le false e = let ge = ltb-false a d e in ap Around (let z : 1 ≡ d + 1 - a = omega (arith, le, ge) in z)

      go : (b : Bool) → h.main ≡ b → (h.main ≡ true) ⊎ (h.depth ≤ d) → outer_level (cond h.main Main (cond (nat_lt h.depth d) (Around (d - h.depth)) Own)) ≡ cond h.main Main (cond (nat_lt h.depth (d + 1)) (Around (d + 1 - h.depth)) Own)
      go true e a =
          ap (λ b. outer_level (cond b Main (cond (nat_lt h.depth d) (Around (d - h.depth)) Own))) e ∙ sym (ap (λ b. cond b Main (cond (nat_lt h.depth (d + 1)) (Around (d + 1 - h.depth)) Own)) e)
      go false e (inl t) = absurd (true≢false (sym t ∙ e))
      go false e (inr le) =
          ap (λ b. outer_level (cond b Main (cond (nat_lt h.depth d) (Around (d - h.depth)) Own))) e ∙ lower h.depth d le (nat_lt h.depth d) refl
          ∙ sym (ap (λ b. cond b Main (cond (nat_lt h.depth (d + 1)) (Around (d + 1 - h.depth)) Own)) e ∙ ap (λ b. cond b (Around (d + 1 - h.depth)) Own) (below_next h.depth d le))

  moved_some : (o : Option Named) (m : Named) → moved_named o ≡ Some m → (n : Named) × (o ≡ Some n) × (outer_named n ≡ m)
  moved_some None m e = absurd (none-some m e)
  moved_some (Some n) m e = (n, refl, some_same (outer_named n) m e)

  pub places_thread : {d : ℕ} {object : Entity → Option Named} → ArePlaced homes d object → ArePlaced homes (d + 1) (λ y. moved_named (object y))
  places_thread {d} {object} h = record { variable = λ x m e. go x m (moved_some (object (VariableOf x)) m e) }
    where
      wider : (p : Home) → (p.main ≡ true) ⊎ (p.depth ≤ d) → (p.main ≡ true) ⊎ (p.depth ≤ d + 1)
      wider p (inl e) = inl e
      wider p (inr le) = inr (let z : p.depth ≤ d + 1 = omega (arith, le) in z)

      go : (x : ℕ) (m : Named) → (n : Named) × (object (VariableOf x) ≡ Some n) × (outer_named n ≡ m) → IsPlaced homes (d + 1) x m
      go x m (n, is, same) =
          let z = h.variable x n is in
          record {
            home = z.home;
            among = z.among;
            of = z.of;
            around = wider z.home z.around;
            is = sym same ∙ ap outer_named z.is ∙ ap (λ l. record { through = false; place = record { level = l; cell = z.home.cell }; cells = z.home.cells }) (level_out d z.home z.around);
          }

  pub places_turn : (chunk : Chunk) (it : Iteration) (d : ℕ) (s : Sight) → Places homes d s → Places homes d (turn_sight s chunk it)
  places_turn NoChunk (Range k reverse low high check filter) d s h = h
  places_turn (Count e) (Range k reverse low high check filter) d s h = h
  places_turn (Each p l u c) (Range k reverse low high check filter) d s h = h
  places_turn NoChunk (Components k constant at r selections count stride dimensions filter) d s h = h
  places_turn (Count e) (Components k constant at r selections count stride dimensions filter) d s h = h
  places_turn (Each p l u c) (Components k constant at r selections count stride dimensions filter) d s h = h
