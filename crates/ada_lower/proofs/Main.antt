-- A program's code does what the stored run of the program does, from where both begin.
use Rattle.ada_lower.proofs.Rounds.{with_rounds}
use Rattle.ada_lower.proofs.Inner.{InnerDo}
use Rattle.ada_lower.proofs.ForkLaws.{ForksDo}
use Rattle.std.proofs.Common.{◌≡◌, ℕ, zero, suc, ◌+◌, ◌<◌, ◌≤◌, ℤ, pos, List, [], ◌∷◌, ◌++◌, length, replicate, slice_get, nat_eq, nat_lt, Option, Some, None, Result, Ok, Err, Bool, true, false, cond, not, refl, sym, ap, ap₂, ◌∙◌, subst, append_assoc, append-nil, length-append, le_refl, arith, lt-ltb, ltb-true, true≢false}
use Rattle.std.proofs.lemmas.Bool.{le-ltb}
use Rattle.std.proofs.lemmas.List.{length-map}
use Rattle.std.proofs.lemmas.Option.{none-some}
use Rattle.behaviours.specs.Paths.{Exits, Returns, Raises, Entity, VariableOf, ConstantOf, Everywhere}
use Rattle.typed_tree.specs.Syntax.{Expr, Stmt, Decls, NoDecl, DeclareDefault, DeclareVariable, DeclareConstant, Mentions, Value, Program}
use Rattle.ada_meaning.specs.Operations.{Operations}
use Rattle.ada_base.specs.Notes.{Schedule}
use Rattle.ada_meaning.specs.Stored as stored
use Rattle.ada_meaning.specs.declared.slots.Variable.{Variable}
use Rattle.ada_meaning.specs.Stored.{Stored, Cause, Left, OutOfTurns, NoRoom, CutOff, Misnoted, Address, Touch, no_slot, slot_at, key, within}
use Rattle.ada_meaning.specs.Meaning
use Rattle.ada_meaning.specs.Values
use Rattle.stack_code.specs.declared.code.Code.{Code}
use Rattle.stack_code.specs.Valid.{IsCountable}
use Rattle.stack_code.specs.declared.instr.Instr.TheVariants as i
use Rattle.ada_base.specs.Cells.{Mine}
use Rattle.stack_code.specs.Machine.{Done, begun}
use Rattle.ada_lower.specs.Driven.{Finally, Dyn, Fixed, Step, On, on, off, At, Alike}
use Rattle.ada_lower.proofs.Alike.{alike}
use Rattle.ada_lower.specs.Sights.{Emit, Lies, Named, Scope, Sight, Stands, listed, none, one, taking}
use Rattle.ada_lower.specs.Emission
use Rattle.ada_lower.specs.Emission.{stmt}
use Rattle.ada_lower.specs.Teams.{AreSound}
use Rattle.ada_lower.specs.Fits.{Other, Free, Access, Right, Ghost, Fit, Allows, place_in, Knows, Stands as StandsFor}
use Rattle.ada_lower.specs.Fitted.{FittedValue}
pub use Rattle.ada_lower.specs.Outset.{outermost, first_dyn, main_ends}
use Rattle.ada_lower.specs.Bodies.{main_object, main_scope, main_declared, FittedMain, main_body, main_code, MainFitted, AllStand}
use Rattle.ada_lower.proofs.Framework.{any, To, comes_as, leads_on, sound_split}
use Rattle.ada_lower.proofs.Standing.{stands_seq}
use Rattle.ada_lower.proofs.Parts.{Runs}
use Rattle.ada_lower.specs.Homes.{main_variables}
use Rattle.ada_lower.specs.Law.{AreFinals}
use Rattle.ada_lower.proofs.Mains.{holding, knows_holding, fresh_kept_of, Final, AllThere, variable_at, final_on, final_variable, final_constant, AllFull, allows_all, full_holding, Ending, elaborates_main, ending_from, values_main}
use Rattle.ada_lower.proofs.EvalLeaves.{Closed, Raised, c_cells}
use Rattle.ada_lower.proofs.Declared.{keeping}
use Rattle.ada_lower.proofs.Blocks.{fit_unkept}
use Rattle.ada_lower.proofs.Calls.{CallsDo}
use Rattle.ada_lower.proofs.Statements.{Suits, suits_as, into_does, knows_taking, free_at, stmt_does}
use Rattle.ada_lower.proofs.Defaults.{defaulted_comes}
use Rattle.ada_lower.proofs.Memory.{own_free}
use Rattle.ada_lower.proofs.Bodies.{call_do}

no_slots : (n k : ℕ) → slot_at (replicate n no_slot) k ≡ no_slot
no_slots zero k = refl
no_slots (suc n) zero = refl
no_slots (suc n) (suc k) = no_slots n k

cells_there : (n a : ℕ) → a < n → slice_get (replicate n (Mine (pos 0))) a ≡ Some (Mine (pos 0))
cells_there zero a lt = absurd (omega (arith, lt))
cells_there (suc n) zero lt = refl
cells_there (suc n) (suc a) lt = cells_there n a (omega (arith, lt))

cells_many : (n : ℕ) → length (replicate n (Mine (pos 0))) ≡ n
cells_many zero = refl
cells_many (suc n) = ap suc (cells_many n)

abbrev pub first_ghost : (ℕ → ℕ → List ℕ) → ℕ → ℕ → ℕ → Ghost
first_ghost plan limit slots frame = record { plan = plan; ordered = false; here = replicate slots no_slot; everywhere = replicate slots no_slot; declared = []; frame = 1; top = frame; least = 0; most = limit; what = λ a. cond (nat_lt a frame) Free Other }

module _ (asked : Option Program) (limit : ℕ) (cuts : ℕ → ℕ → List ℕ) (program : Program) (c : Code) (globals : ℕ → Entity → Option Named) (mains : Entity → Bool) (epar : Sight → Expr → Type 0) (texts : List (List ℕ)) (text : List ℕ → ℕ) (frames : ℕ → ℕ) (par : Sight → Stmt → Type 0) (slots frame : ℕ) where
  abbrev ops : Operations {1}
  ops = stored.noted_operations limit cuts

  abbrev g : Ghost
  g = first_ghost cuts limit slots frame

  nothing_stands : (a : ℕ) (x : Access) (p : Address) (b : Bool) → cond b Free Other ≡ StandsFor x p → ⊥
  nothing_stands a x p true e = cc
  nothing_stands a x p false e = cc

  nothing_placed : (y : Entity) (i : ℕ) → place_in g y i ≡ None
  nothing_placed y i =
      ap₂ (λ h e. cond (nat_eq h.frame 1) (within stored.Stacked h i) (cond (nat_eq e.frame 1) (within stored.Kept e i) None)) (no_slots slots (key y)) (no_slots slots (key y))

  knows_first : Knows limit cuts g (outermost asked) (main_scope program globals mains texts text frames frame) (Meaning.outset 0)
  knows_first = record {
    most = refl;
    nested = refl;
    plan = refl;
    kept = refl;
    one = λ a b x y p e e'. absurd (nothing_stands a x p (nat_lt a frame) e);
    old = λ k. let z : (slot_at (replicate slots no_slot) k).frame ≡ 0 = ap (λ s. s.frame) (no_slots slots k) in omega (arith, z);
    hidden = λ y i e. nothing_placed y i;
    global = λ y n e. absurd (none-some n e);
    outside = λ y e e'. let z : (slot_at (replicate slots no_slot) (key y)).frame ≡ 0 = ap (λ s. s.frame) (no_slots slots (key y)) in omega (arith, z, e');
    top = omega arith;
    beyond = λ a le. ap (λ b. cond b Free Other) (le-ltb a frame le);
    object = λ y n e. absurd (none-some n e);
    parameter = λ k w e. absurd (none-some w e);
    item = λ k n e. absurd (none-some n e);
    constant_item = λ k n e. absurd (none-some n e);
    target = λ n e. absurd (none-some n e);
    handled = λ w e. absurd (none-some w e);
    free = λ n le lt. ap (λ b. cond b Free Other) (lt-ltb (0 + n) frame (omega (arith, lt)));
  }

  fit_first : (input before : List ℕ) (notes : Schedule) → Fit g (stored.noted_outset slots input before notes) (first_dyn notes cuts frame input before)
  fit_first input before notes = record {
    here = refl;
    everywhere = refl;
    declared = refl;
    frame = refl;
    top = cells_many frame;
    least = le_refl 0;
    most = omega arith;
    agrees = record { turns = refl; left = refl; taken = refl; held = refl; input = refl; output = refl; notes = refl; done = refl };
    plan = refl;
    order = λ e. absurd (true≢false (sym e));
    cells = λ a. right a (nat_lt a frame) refl;
  }
    where
      right : (a : ℕ) (b : Bool) → nat_lt a frame ≡ b → Right (cond (nat_lt a frame) Free Other) (stored.noted_outset slots input before notes) (slice_get (replicate frame (Mine (pos 0))) a)
      right a true e = subst (λ b. Right (cond b Free Other) (stored.noted_outset slots input before notes) (slice_get (replicate frame (Mine (pos 0))) a)) (sym e) (pos 0, cells_there frame a (ltb-true a frame e))
      right a false e = subst (λ b. Right (cond b Free Other) (stored.noted_outset slots input before notes) (slice_get (replicate frame (Mine (pos 0))) a)) (sym e) tt

  all_allowed : (ts : List Touch) → Allows g ts
  all_allowed [] = tt
  all_allowed (t ∷ ts) = (λ a x e. absurd (nothing_stands a x t.place (nat_lt a frame) e), all_allowed ts)

  halts : {q : ℕ} {e : Option ℕ} (st : List ℤ) (d : Dyn) → At c q i.Halt e → To limit c (on (outermost asked) q st d) (off (Done None) d)
  halts st d at = comes_as limit c (outermost asked) st d at refl

  module _ (countable : IsCountable c.instrs) (same_texts : texts ≡ c.texts) (only : (n s : ℕ) (before : Stored (Unit {0})) (passed : List Meaning.Passed) → Closed Raised before → Closed Raised (Meaning.call ops limit program 1000 n s before passed))
      (pars : (f : Fixed) → f.asked ≡ asked → (depth : ℕ) (all : (f' : Fixed) → Alike f' f → CallsDo limit cuts program globals mains c f' (Meaning.call ops limit program depth)) → ForksDo limit cuts program globals mains epar par c f (Meaning.call ops limit program depth) (λ rs. all (with_rounds rs f) (alike f)))
      (stood : AllStand program globals mains texts text frames epar par c) (entry to : ℕ) (stands : Stands c (main_code program globals mains texts text frames (main_scope program globals mains texts text frames frame).scope) entry to)
      (fitted : MainFitted program globals mains texts text frames epar par (main_scope program globals mains texts text frames frame)) where
    abbrev s : Sight
    s = main_scope program globals mains texts text frames frame

    abbrev calls : ℕ → ℕ → Stored (Unit {0}) → List Meaning.Passed → Stored Meaning.Returned
    calls = Meaning.call ops limit program 1000

    calls_all : (f' : Fixed) → Alike f' (outermost asked) → CallsDo limit cuts program globals mains c f' (Meaning.call ops limit program 1000)
    calls_all f' e = call_do limit cuts program c globals mains epar texts text frames par countable same_texts stood asked pars 1000 f' e.1 (ap (λ n. n + 1000) e.0)

    calls_do : InnerDo limit cuts program globals mains epar c (outermost asked) calls
    calls_do = record { called = λ rs. calls_all (with_rounds rs (outermost asked)) (alike (outermost asked)); forked = (pars (outermost asked) refl 1000 calls_all).forked }

    suits : Suits limit c (outermost asked) main_ends s
    suits = record {
      entry = refl;
      flat = refl;
      rounds = refl;
      kept = refl;
      texts = same_texts;
      threads = λ n here. absurd here;
      away = λ n z here q e at d. absurd here;
      exits = λ n p e d. absurd (none-some p e);
      returns = λ t a b w d. halts [] d w.0;
      gives = λ t a b v w d. halts (v ∷ []) d w.0;
    }

    abbrev Ends_in : ℕ → List Variable → Step → ℕ → stored.State → Result (Unit {0}) Cause → Type 0
    Ends_in to ps from turns t e = Ending limit c (outermost asked) main_ends ps from turns (λ d. on (outermost asked) to [] d) t e

    -- a value goes to the first free cells, and what follows begins there
    value_main : {g : Ghost} (y : Entity) (initial : Value) (m : Stored (Unit {0})) (from mid to : ℕ) (s : Sight) (ps : List Variable) (z : stored.State) (d : Dyn) → Knows limit cuts g (outermost asked) s (Meaning.outset 0) → s.scope.entry ≡ None → s.scope.free + Emission.width program initial ≤ s.cells → FittedValue program globals mains epar (taking (Emission.width program initial) s) (Emission.width program initial) initial
        → Stands c (Emission.put_into program (taking (Emission.width program initial) s).scope 0 s.scope.free initial) from mid → Final g ps → AllFull g → Fit g z d → AreSound asked ((stored.bind (Meaning.cells ops limit program calls initial (Meaning.outset 0)) (λ cs. (stored.elaborates Everywhere y cs m))).visits z)
        → ((cs : List ℤ) (t : stored.State) (e : Dyn) → length cs ≡ Emission.width program initial → Fit (keeping (0 + s.scope.free) cs g) t e → AreSound asked ((stored.elaborates Everywhere y cs m).visits t) → (let r = (stored.elaborates Everywhere y cs m).does t in Ends_in to ps (on (outermost asked) mid [] e) t.turns r.state r.end))
        → (let r = (stored.bind (Meaning.cells ops limit program calls initial (Meaning.outset 0)) (λ cs. stored.elaborates Everywhere y cs m)).does z in Ends_in to ps (on (outermost asked) from [] d) z.turns r.state r.end)
    value_main {g} y initial m from mid to s ps z d k en room wi l final full fit sound j =
        let n : ℕ = Emission.width program initial in
        let free : (i : ℕ) → i < n → g.what (0 + s.scope.free + i) ≡ Free = free_at limit cuts program c (outermost asked) calls globals mains epar calls_do n room k in
        values_main limit c (outermost asked) main_ends g from (λ d. on (outermost asked) to [] d) ps n (0 + s.scope.free) mid _ _ z d (c_cells Raised (λ r. tt) limit cuts program calls only initial (Meaning.outset 0)) final full free fit sound
        (λ kept. into_does limit cuts program c (outermost asked) calls globals mains epar calls_do main_ends initial s n from mid none stored.ret room (knows_taking limit cuts program c (outermost asked) calls globals mains epar calls_do n k) en wi free
        (subst (λ ps. Lies c from ps mid) (sym (append-nil (listed (Emission.put_into program (taking n s).scope 0 s.scope.free initial) from))) l)
        (λ cs mid' len same. kept cs mid' len (sym same)))
        j

    -- declarations, and the statements behind them
    decls_does : (decls : Decls) (from to : ℕ) {g : Ghost} (s : Sight) (m : Stored (Unit {0})) (code : Scope → Emit) (body : Sight → Type 0) (ps : List Variable) → Knows limit cuts g (outermost asked) s (Meaning.outset 0) → Suits limit c (outermost asked) main_ends s → ((k : ℕ) → (slot_at g.here k).frame ≡ g.frame → ⊥) → AllFull g → Final g ps → length ps ≡ length g.declared → FittedMain program globals mains texts text frames epar s decls body
        → Stands c (main_declared program globals mains texts text frames s.scope decls code) from to
        → ((t : Sight) (g' : Ghost) (from' : ℕ) → Knows limit cuts g' (outermost asked) t (Meaning.outset 0) → Suits limit c (outermost asked) main_ends t → body t → Stands c (code t.scope) from' to → Runs limit c (outermost asked) main_ends g' any m (λ d. on (outermost asked) from' [] d) (λ _ d. on (outermost asked) to [] d))
        → (z : stored.State) (d : Dyn) → Fit g z d → AreSound asked ((Meaning.declared ops limit program calls decls Everywhere (Meaning.outset 0) m).visits z) → (let r = (Meaning.declared ops limit program calls decls Everywhere (Meaning.outset 0) m).does z in Ends_in to (ps ++ main_variables program s.scope.free decls) (on (outermost asked) from [] d) z.turns r.state r.end)
    decls_does NoDecl from to {g} s m code body ps k u none full final many w l j z d fit sound =
        let r = m.does z in
        (g, (final_on g ps [] final, there r.end), (j s g from k u w l).by z d fit (allows_all g full (m.touches z), sound))
      where
        whole : length g.declared ≡ length (ps ++ [])
        whole = sym many ∙ ap length (sym (append-nil ps))

        there : (e : Result (Unit {0}) Cause) → AllThere e g (ps ++ [])
        there (Ok v) = whole
        there (Err (Left (Returns v))) = whole
        there (Err (Left (Exits n))) = whole
        there (Err (Left (Raises r))) = tt
        there (Err OutOfTurns) = tt
        there (Err NoRoom) = tt
        there (Err CutOff) = tt
        there (Err Misnoted) = tt
    decls_does (Mentions es more) from to s m code body ps k u none full final many w l j z d fit sound = decls_does more from to s m code body ps k u none full final many w l j z d fit sound
    decls_does (DeclareDefault y more) from to {g} s m code body ps k u none full final many (new, room, filled, w) l j z d fit sound =
        let vs : List ℤ = Values.defaults (Meaning.object_layout program y) in
        let n : length vs ≡ length (Meaning.object_layout program y) = length-map (Meaning.object_layout program y) (λ z. z.low) in
        let t : Sight = main_object s (VariableOf y) (length (Meaning.object_layout program y)) in
        let (m1, l1, l2) = stands_seq c from to (Emission.defaulted program s.scope s.scope.free y) (main_declared program globals mains texts text frames t.scope more code) l in
        let free : (k : ℕ) → k < length vs → g.what (0 + s.scope.free + k) ≡ Free = (λ i lt. free_at limit cuts program c (outermost asked) calls globals mains epar calls_do (length (Meaning.object_layout program y)) room k i (omega (arith, lt, n))) in
        let (d', fit', comes) = defaulted_comes limit cuts program c (outermost asked) main_ends s.scope s.scope.free from m1 y filled (λ i lt. own_free (g.what (0 + s.scope.free + i)) (free i lt)) l1 fit in
        let qs : List Variable = main_variables program (s.scope.free + length (Meaning.object_layout program y)) more in
        let rest = Meaning.declared ops limit program calls more Everywhere (Meaning.outset 0) m in
        let r = (stored.elaborates Everywhere (VariableOf y) vs rest).does z in
        subst (λ ps. Ends_in to ps (on (outermost asked) from [] d) z.turns r.state r.end) (append_assoc ps (variable_at y s.scope.free (length (Meaning.object_layout program y)) ∷ []) qs)
        (ending_from limit c (outermost asked) main_ends (λ d. on (outermost asked) to [] d) ((ps ++ (variable_at y s.scope.free (length (Meaning.object_layout program y)) ∷ [])) ++ qs) r.state r.end (comes _) (le_refl z.turns)
        (elaborates_main limit c (outermost asked) main_ends g rest (on (outermost asked) m1 [] d') (λ d. on (outermost asked) to [] d) ((ps ++ (variable_at y s.scope.free (length (Meaning.object_layout program y)) ∷ [])) ++ qs) (VariableOf y) (0 + s.scope.free) vs z d' (final_on g (ps ++ (variable_at y s.scope.free (length (Meaning.object_layout program y)) ∷ [])) qs (final_on g ps (variable_at y s.scope.free (length (Meaning.object_layout program y)) ∷ []) final)) fit' sound (λ slots fith sound'.
        decls_does more m1 to t m code body (ps ++ (variable_at y s.scope.free (length (Meaning.object_layout program y)) ∷ []))
        (subst (λ n. Knows limit cuts (holding (VariableOf y) (length z.kept) (0 + s.scope.free) vs g) (outermost asked) (main_object s (VariableOf y) n) (Meaning.outset 0)) n (knows_holding (VariableOf y) (length z.kept) vs refl (omega (arith, room, n)) none slots new (fresh_kept_of fit) k))
        (suits_as t s refl refl refl refl refl (λ n. refl) u) none (full_holding (VariableOf y) (length z.kept) (0 + s.scope.free) vs g full)
        (final_variable y (length z.kept) (0 + s.scope.free) s.scope.free (length (Meaning.object_layout program y)) vs g ps (omega arith) n many free final)
        (length-append ps (variable_at y s.scope.free (length (Meaning.object_layout program y)) ∷ []) ∙ ap (λ n. n + 1) many ∙ sym (length-append g.declared (record { object = y; address = length z.kept; cells = length vs } ∷ [])))
        w l2 j (stored.begun Everywhere (VariableOf y) vs z) d' fith sound')))
    decls_does (DeclareVariable y initial more) from to {g} s m code body ps k u none full final many (new, room, wi, w) l j z d fit sound =
        let n : ℕ = Emission.width program initial in
        let t : Sight = main_object s (VariableOf y) n in
        let (m1, l1, l2) = stands_seq c from to (Emission.put_into program (taking n s).scope 0 s.scope.free initial) (main_declared program globals mains texts text frames t.scope more code) l in
        let qs : List Variable = main_variables program (s.scope.free + n) more in
        let rest = Meaning.declared ops limit program calls more Everywhere (Meaning.outset 0) m in
        let r = (stored.bind (Meaning.cells ops limit program calls initial (Meaning.outset 0)) (λ cs. stored.elaborates Everywhere (VariableOf y) cs rest)).does z in
        let final' : Final g ((ps ++ (variable_at y s.scope.free n ∷ [])) ++ qs) = final_on g (ps ++ (variable_at y s.scope.free n ∷ [])) qs (final_on g ps (variable_at y s.scope.free n ∷ []) final) in
        subst (λ ps. Ends_in to ps (on (outermost asked) from [] d) z.turns r.state r.end) (append_assoc ps (variable_at y s.scope.free n ∷ []) qs)
        (value_main (VariableOf y) initial rest from m1 to s ((ps ++ (variable_at y s.scope.free n ∷ [])) ++ qs) z d k u.entry room wi l1 final' full fit sound (λ cs z' d' len fit' sound.
        let free : (i : ℕ) → i < length cs → g.what (0 + s.scope.free + i) ≡ Free = (λ i lt. free_at limit cuts program c (outermost asked) calls globals mains epar calls_do n room k i (omega (arith, lt, len))) in
        elaborates_main limit c (outermost asked) main_ends g rest (on (outermost asked) m1 [] d') (λ d. on (outermost asked) to [] d) ((ps ++ (variable_at y s.scope.free n ∷ [])) ++ qs) (VariableOf y) (0 + s.scope.free) cs z' d' final' fit' sound (λ slots fith sound'.
        decls_does more m1 to t m code body (ps ++ (variable_at y s.scope.free n ∷ []))
        (subst (λ n. Knows limit cuts (holding (VariableOf y) (length z'.kept) (0 + s.scope.free) cs g) (outermost asked) (main_object s (VariableOf y) n) (Meaning.outset 0)) len (knows_holding (VariableOf y) (length z'.kept) cs refl (omega (arith, room, len)) none slots new (fresh_kept_of (fit_unkept (0 + s.scope.free) cs g free fit')) k))
        (suits_as t s refl refl refl refl refl (λ n. refl) u) none (full_holding (VariableOf y) (length z'.kept) (0 + s.scope.free) cs g full)
        (final_variable y (length z'.kept) (0 + s.scope.free) s.scope.free n cs g ps (omega arith) len many free final)
        (length-append ps (variable_at y s.scope.free n ∷ []) ∙ ap (λ n. n + 1) many ∙ sym (length-append g.declared (record { object = y; address = length z'.kept; cells = length cs } ∷ [])))
        w l2 j (stored.begun Everywhere (VariableOf y) cs z') d' fith sound')))
    decls_does (DeclareConstant y initial more) from to {g} s m code body ps k u none full final many (new, room, wi, w) l j z d fit sound =
        let n : ℕ = Emission.width program initial in
        let t : Sight = main_object s (ConstantOf y) n in
        let (m1, l1, l2) = stands_seq c from to (Emission.put_into program (taking n s).scope 0 s.scope.free initial) (main_declared program globals mains texts text frames t.scope more code) l in
        let qs : List Variable = main_variables program (s.scope.free + n) more in
        let rest = Meaning.declared ops limit program calls more Everywhere (Meaning.outset 0) m in
        let final' : Final g (ps ++ qs) = final_on g ps qs final in
        value_main (ConstantOf y) initial rest from m1 to s (ps ++ qs) z d k u.entry room wi l1 final' full fit sound (λ cs z' d' len fit' sound.
        let free : (i : ℕ) → i < length cs → g.what (0 + s.scope.free + i) ≡ Free = (λ i lt. free_at limit cuts program c (outermost asked) calls globals mains epar calls_do n room k i (omega (arith, lt, len))) in
        elaborates_main limit c (outermost asked) main_ends g rest (on (outermost asked) m1 [] d') (λ d. on (outermost asked) to [] d) (ps ++ qs) (ConstantOf y) (0 + s.scope.free) cs z' d' final' fit' sound (λ slots fith sound'.
        decls_does more m1 to t m code body ps
        (subst (λ n. Knows limit cuts (holding (ConstantOf y) (length z'.kept) (0 + s.scope.free) cs g) (outermost asked) (main_object s (ConstantOf y) n) (Meaning.outset 0)) len (knows_holding (ConstantOf y) (length z'.kept) cs refl (omega (arith, room, len)) none slots new (fresh_kept_of (fit_unkept (0 + s.scope.free) cs g free fit')) k))
        (suits_as t s refl refl refl refl refl (λ n. refl) u) none (full_holding (ConstantOf y) (length z'.kept) (0 + s.scope.free) cs g full)
        (final_constant y (length z'.kept) (0 + s.scope.free) cs g ps free final) many
        w l2 j (stored.begun Everywhere (ConstantOf y) cs z') d' fith sound'))

    none_here : (k : ℕ) → (slot_at (replicate slots no_slot) k).frame ≡ 1 → ⊥
    none_here k e = let z : (slot_at (replicate slots no_slot) k).frame ≡ 0 = ap (λ s. s.frame) (no_slots slots k) in omega (arith, z, e)

    abbrev pub variables : List Variable
    variables = main_variables program 0 program.body.decls

    -- the path from the code's beginning comes to what the stored run comes to, and the main procedure's variables stand at their positions
    pub program_does : (input before : List ℕ) (notes : Schedule) → AreSound asked ((Meaning.main ops limit program).visits (stored.noted_outset slots input before notes)) → let r = (Meaning.main ops limit program).does (stored.noted_outset slots input before notes) in
        Ending limit c (outermost asked) main_ends variables (on (outermost asked) entry [] (first_dyn notes cuts frame input before)) 0 (λ d. off (Done None) d) r.state r.end
    unfolding stored.handles stored.ret
    program_does input before notes sound =
        let (m, l1, (halt, z)) = stands_seq c entry to (main_declared program globals mains texts text frames s.scope program.body.decls (λ t. stmt program t (main_body program globals mains texts text frames))) (one s.scope 0 i.Halt) stands in
        let d : Dyn = first_dyn notes cuts frame input before in
        let r = (Meaning.declared ops limit program calls program.body.decls Everywhere (Meaning.outset 0) rest).does (stored.noted_outset slots input before notes) in
        go m halt (on (outermost asked) entry [] d) r.state r.end
        (decls_does program.body.decls entry m s rest _ _ [] knows_first suits none_here (λ a x p e. absurd (nothing_stands a x p (nat_lt a frame) e)) (λ k v e. absurd (none-some v e)) refl fitted l1
        (λ t g' from' k' u' w' l'. stmt_does limit cuts program c (outermost asked) calls globals mains epar calls_do par (pars (outermost asked) refl 1000 calls_all).parallel (main_body program globals mains texts text frames) from' m main_ends t k' u' w' l')
        (stored.noted_outset slots input before notes) d (fit_first input before notes) (begun input before notes sound))
      where
        rest : Stored (Unit {0})
        rest = Meaning.guarded ops program.body.handlers (Meaning.exec_all ops limit program calls program.body.stmts (Meaning.outset 0)) (λ r. Meaning.exec_handler ops limit program calls program.body.handlers r (Meaning.outset 0))

        begun : (input before : List ℕ) (notes : Schedule) → AreSound asked ((Meaning.main ops limit program).visits (stored.noted_outset slots input before notes))
            → AreSound asked ((Meaning.declared ops limit program calls program.body.decls Everywhere (Meaning.outset 0) rest).visits (stored.noted_outset slots input before notes))
        begun input before notes sound = (sound_split limit c (outermost asked) main_ends asked ((Meaning.declared ops limit program calls program.body.decls Everywhere (Meaning.outset 0) rest).visits (stored.noted_outset slots input before notes)) _ sound).0

        go : {e' : Option ℕ} (m : ℕ) → At c m i.Halt e' → (from : Step) (t : stored.State) (e : Result (Unit {0}) Cause) → Ends_in m variables from 0 t e
            → (let r = stored.handled t e (λ how. not (Meaning.raises how)) (λ _. stored.ret (tt {0})) in Ending limit c (outermost asked) main_ends variables from 0 (λ d. off (Done None) d) r.state r.end)
        go m halt from t (Ok u) (h, w, l) = (h, w, (tt, record { dyn = l.1.dyn; fit = l.1.fit; comes = leads_on limit c l.1.comes (halts [] l.1.dyn halt _); grows = l.1.grows }))
        go m halt from t (Err (Left (Raises r))) e = e
        go m halt from t (Err (Left (Returns v))) (h, w, l) = (h, w, (tt, l))
        go m halt from t (Err (Left (Exits v))) (h, w, l) = (h, w, (tt, l))
        go m halt from t (Err OutOfTurns) e = e
        go m halt from t (Err CutOff) e = e
        go m halt from t (Err NoRoom) e = e
        go m halt from t (Err Misnoted) e = e

    -- a variable of the main procedure has in the machine's memory what it has in the stored run
    pub finals_of : (h : Ghost) (t : stored.State) (d : Dyn) → Final h variables → length h.declared ≡ length variables → Fit h t d → AreFinals variables t d
    finals_of h t d w all fit = record {
      all = ap length fit.declared ∙ all;
      each = λ k v e.
          let (m, at, is) = w k v (subst (λ gs. slice_get gs k ≡ Some v) fit.declared e) in
          (m, at, record { object = is.0; cells = is.1; values = λ i lt. subst (λ z. Right z t (slice_get d.cells (m.address + i))) (is.2 i lt) (fit.cells (m.address + i)) });
    }

    -- where the stored run gives a value, the machine ends, with the same output and the same finals
    pub program_gives : (input before : List ℕ) (notes : Schedule) → AreSound asked ((Meaning.main ops limit program).visits (stored.noted_outset slots input before notes)) → let r = (Meaning.main ops limit program).does (stored.noted_outset slots input before notes) in r.end ≡ Ok tt
        → (d : Dyn) × Finally limit c (On (record { state = begun entry 0 [] 0 0 0 None (replicate frame (Mine (pos 0))); world = (first_dyn notes cuts frame input before).world })) (record { how = Done None; dyn = d }) × (d.world.output ≡ r.state.output) × (d.turns ≡ r.state.turns) × AreFinals variables r.state d
    program_gives input before notes sound e =
        let r = (Meaning.main ops limit program).does (stored.noted_outset slots input before notes) in
        let (h, w, l) = subst (λ e. Ending limit c (outermost asked) main_ends variables (on (outermost asked) entry [] (first_dyn notes cuts frame input before)) 0 (λ d. off (Done None) d) r.state e) e (program_does input before notes sound) in
        (l.1.dyn, l.1.comes.to (record { how = Done None; dyn = l.1.dyn }) (0, refl), l.1.fit.agrees.output, l.1.fit.agrees.turns, finals_of h r.state l.1.dyn w.0 w.1 l.1.fit)
