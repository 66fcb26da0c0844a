-- What Put writes: the values of its pieces, and the line.
use Rattle.std.proofs.Common.{◌≡◌, ℕ, suc, ◌+◌, ◌<◌, ◌≤◌, ℤ, List, [], ◌∷◌, ◌++◌, length, slice_get, Option, Some, None, Bool, true, false, cond, refl, sym, ap, ap₂, ◌∙◌, subst, le_refl, arith, inl, inr, append-nil, append_assoc, length-append, unwrap_or}
use Rattle.behaviours.specs.Paths.{Entity}
use Rattle.ada_base.specs.Image.{truth_image, padded}
use Rattle.typed_tree.specs.declared.scalars.Class.{Class}
use Rattle.typed_tree.specs.declared.scalars.Class.TheVariants as class
use Rattle.typed_tree.specs.Syntax.{Expr, Static, Pieces, NoPiece, Text, Image, Padded, Program}
use Rattle.ada_base.specs.declared.operation.Base.TheVariants.{Narrow, Wide, Modulo}
use Rattle.ada_meaning.specs.Values
use Rattle.ada_meaning.specs.Values.{truth}
use Rattle.ada_meaning.specs.Operations.{Operations}
use Rattle.ada_meaning.specs.Deeds.{PutOut}
use Rattle.ada_meaning.specs.Stored as stored
use Rattle.ada_meaning.specs.Stored.{also_done, Stored, Cause, Left, OutOfTurns, Address, Touch}
use Rattle.ada_meaning.specs.Meaning
use Rattle.ada_meaning.specs.Meaning.{Env, ObjectPart, Passed, Returned, variable_root, constant_root}
use Rattle.stack_code.specs.declared.code.Code.{Code}
use Rattle.stack_code.specs.declared.instr.Instr.{Instr}
use Rattle.stack_code.specs.declared.instr.Instr.TheVariants as i
use Rattle.ada_base.specs.Cells.{value_in}
use Rattle.stack_code.specs.Deeds.{GoesOn, Writes, deed_of}
use Rattle.stack_code.specs.Machine.{done, after, with_value}
use Rattle.stack_code.specs.declared.path.Gave.TheVariants as gave
use Rattle.ada_lower.specs.Driven.{Dyn, Fixed, Step, On, on, path, state_of, driven, At}
use Rattle.ada_lower.specs.Sights.{Named, Sight, Stands, taking, ◌⨟◌}
use Rattle.ada_lower.specs.Emission
use Rattle.ada_lower.specs.Emission.{emit, selected, stmt, all, exiting, returning, returning_value, handled_target, Shape, shapes, shapes_cells}
use Rattle.ada_lower.specs.Fits.{Free, Keeps, Ghost, Fit, Ends, Knows}
use Rattle.ada_lower.specs.Fitted.{Fitted, FittedPieces}
use Rattle.ada_lower.proofs.Expressions.{at_entry, fewer_one_more, value_does}
use Rattle.ada_lower.proofs.Framework.{any, To, Doing, comes_here, comes_on, comes_lined, itself, does_seq, does_returned, does_assoc}
use Rattle.ada_lower.proofs.Memory.{set_what, own_free, fit_alike, right_same, number_seen}
use Rattle.ada_lower.proofs.Standing.{stands_seq}
use Rattle.ada_lower.proofs.Parts.{Runs, truth_same, does_first, does_keep}
use Rattle.ada_lower.proofs.Inner.{InnerDo}
use Rattle.ada_lower.proofs.Declared.{keeping, knows_kept, keep_one_more, laid_out, kept_what}
use Rattle.ada_lower.proofs.Blocks.{fit_unkept}

module _ (limit : ℕ) (cuts : ℕ → ℕ → List ℕ) (program : Program) (c : Code) (f : Fixed) (calls : ℕ → ℕ → Stored (Unit {0}) → List Passed → Stored Returned) (globals : ℕ → Entity → Option Named) (mains : Entity → Bool) (epar : Sight → Expr → Type 0) (calls_do : InnerDo limit cuts program globals mains epar c f calls) where
  abbrev ops : Operations {1}
  ops = stored.noted_operations limit cuts

  pub knows_taking : {g : Ghost} {s : Sight} {env : Env} (n : ℕ) → Knows limit cuts g f s env → Knows limit cuts g f (taking n s) env
  knows_taking n k = record {
    most = k.most;
    nested = k.nested;
    plan = k.plan;
    kept = k.kept;
    top = k.top;
    beyond = k.beyond;
    global = k.global;
    outside = k.outside;
    one = k.one;
    old = k.old;
    hidden = k.hidden;
    object = k.object;
    parameter = k.parameter;
    item = k.item;
    constant_item = k.constant_item;
    target = k.target;
    handled = k.handled;
    free = λ m le lt. k.free m (omega (arith, le)) lt;
  }

  -- ---- output

  -- an instruction that adds to the line
  comes_text : {q : ℕ} {j : Instr} {e : Option ℕ} (st rest : List ℤ) (line text : List ℕ) (d : Dyn) → At c q j e → deed_of c q (st ++ f.below) f.base f.outward j ≡ Writes text (rest ++ f.below) → To limit c (On (path f q st line None d)) (On (path f (q + 1) rest (line ++ text) None d))
  comes_text {q} st rest line text d at is = subst (λ y. To limit c (On (path f q st line None d)) y) (ap (λ w. driven limit c (done limit w (state_of f q st line None d)) d.world) is) (comes_lined limit c f st line d at)

  comes_kept_lined : {g : Ghost} {t : stored.State} {q : ℕ} {e : Option ℕ} (n : ℕ) (v : ℤ) (line : List ℕ) (d : Dyn) → Fit g t d → g.what (f.base + n) ≡ Keeps v → At c q (i.LoadL n) e → To limit c (On (path f q [] line None d)) (On (path f (q + 1) (v ∷ []) line None d))
  comes_kept_lined {g} {t} {q} n v line d fit is at =
      let z : value_in (slice_get d.cells (f.base + n)) ≡ Some v = number_seen (g.what (f.base + n)) v t (slice_get d.cells (f.base + n)) (inl is) (fit.cells (f.base + n)) in
      subst (λ y. To limit c (On (path f q [] line None d)) y)
      (ap (λ o. driven limit c (with_value o (state_of f q [] line None d) (λ v. done limit (GoesOn (q + 1) (v ∷ f.below)) (state_of f q [] line None d))) d.world) z)
      (comes_lined limit c f [] line d at)

  image_deed : (q : ℕ) (class : Class) (v : ℤ) (st : List ℤ) → deed_of c q (v ∷ st) f.base f.outward (Emission.image_instr class) ≡ Writes (Values.image_of class v) st
  image_deed q class.Boolean v st = ap (λ b. Writes (truth_image b) st) (truth_same v)
  image_deed q (class.Integer Narrow) v st = refl
  image_deed q (class.Integer Wide) v st = refl
  image_deed q (class.Integer (Modulo k)) v st = refl
  image_deed q class.Universal v st = refl

  pub text_comes : {g : Ghost} (s r : Sight) → ((b : List ℕ) → slice_get r.texts (r.scope.text b) ≡ Some b → slice_get c.texts (s.scope.text b) ≡ Some b) → (ps : Pieces) (us : List ℤ) (n from to : ℕ) (t : stored.State) (d : Dyn) (line : List ℕ) → length us ≡ Emission.piece_cells ps → FittedPieces program globals mains epar r ps
      → ((i : ℕ) (v : ℤ) → slice_get us i ≡ Some v → g.what (f.base + n + i) ≡ Keeps v) → Fit g t d → Stands c (Emission.piece_texts s.scope n ps) from to
      → To limit c (On (path f from [] line None d)) (On (path f to [] (line ++ Emission.bytes_of ps us) None d))
  text_comes s r h NoPiece us n from to t d line len w kept fit l =
      subst (λ q. To limit c (On (path f from [] line None d)) (On (path f q [] (line ++ []) None d))) (sym l) (subst (λ z. To limit c (On (path f from [] line None d)) (On (path f from [] z None d))) (sym (append-nil line)) (comes_here limit c _))
  text_comes s r h (Text bytes rest) us n from to t d line len (e, w) kept fit (j, l) =
      comes_on limit c (comes_text [] [] line bytes d j (ap (λ o. Writes (unwrap_or o []) f.below) (h bytes e)))
      (subst (λ z. To limit c (On (path f (from + 1) [] (line ++ bytes) None d)) (On (path f to [] z None d))) (append_assoc line bytes (Emission.bytes_of rest us))
      (text_comes s r h rest us n (from + 1) to t d (line ++ bytes) len w kept fit l))
  text_comes s r h (Image class e rest) [] n from to t d line len w kept fit l = absurd (let z : 0 ≡ 1 + Emission.piece_cells rest = len in omega (arith, z))
  text_comes {g = g} s r h (Image class e rest) (v ∷ us) n from to t d line len w kept fit (j1, (j2, l)) =
      let z0 : f.base + n + 0 ≡ f.base + n = omega arith in
      comes_on limit c (comes_kept_lined n v line d fit (ap g.what (sym z0) ∙ kept 0 v refl) j1)
      (comes_on limit c (comes_text (v ∷ []) [] line (Values.image_of class v) d j2 (image_deed (from + 1) class v f.below))
      (subst (λ z. To limit c (On (path f (from + 1 + 1) [] (line ++ Values.image_of class v) None d)) (On (path f to [] z None d))) (append_assoc line (Values.image_of class v) (Emission.bytes_of rest us))
      (text_comes s (taking 1 r) h rest us (n + 1) (from + 1 + 1) to t d (line ++ Values.image_of class v) (omega (arith, len)) w.1 (λ i u is. (let z : f.base + (n + 1) + i ≡ f.base + n + suc i = omega arith in ap g.what z) ∙ kept (suc i) u is) fit l)))
  text_comes s r h (Padded class e (Static at value literal mentions) rest) [] n from to t d line len w kept fit l = absurd (let z : 0 ≡ 1 + Emission.piece_cells rest = len in omega (arith, z))
  text_comes {g = g} s r h (Padded class e (Static at value literal mentions) rest) (v ∷ us) n from to t d line len w kept fit (j1, (j2, l)) =
      let z0 : f.base + n + 0 ≡ f.base + n = omega arith in
      comes_on limit c (comes_kept_lined n v line d fit (ap g.what (sym z0) ∙ kept 0 v refl) j1)
      (comes_on limit c (comes_text (v ∷ []) [] line (padded v (Values.to_nat value)) d j2 refl)
      (subst (λ z. To limit c (On (path f (from + 1 + 1) [] (line ++ padded v (Values.to_nat value)) None d)) (On (path f to [] z None d))) (append_assoc line (padded v (Values.to_nat value)) (Emission.bytes_of rest us))
      (text_comes s (taking 1 r) h rest us (n + 1) (from + 1 + 1) to t d (line ++ padded v (Values.to_nat value)) (omega (arith, len)) w.1 (λ i u is. (let z : f.base + (n + 1) + i ≡ f.base + n + suc i = omega arith in ap g.what z) ∙ kept (suc i) u is) fit l)))
  text_comes s r h (Padded class e width rest) us n from to t d line len w kept fit l = absurd w

  -- a line is put out
  send_goes : {q : ℕ} {e : Option ℕ} (feed : Bool) (line : List ℕ) (d : Dyn) → At c q (Emission.send_instr feed) e
      → To limit c (On (path f q [] line None d)) (on f (q + 1) [] (record d { world = record d.world { output = d.world.output ++ (line ++ cond feed (10 ∷ []) []); done = also_done (PutOut (line ++ cond feed (10 ∷ []) [])) d.world.done } }))
  send_goes {q} true line d at = comes_on limit c (comes_lined limit c f [] line d at)
      (subst (λ o. To limit c (On (record { state = after o gave.Nothing (state_of f q [] [] None d); world = record d.world { output = d.world.output ++ (line ++ (10 ∷ [])); done = also_done (PutOut (line ++ (10 ∷ []))) d.world.done } })) (on f (q + 1) [] (record d { world = record d.world { output = d.world.output ++ (line ++ (10 ∷ [])); done = also_done (PutOut (line ++ (10 ∷ []))) d.world.done } }))) (sym (itself refl at)) (comes_here limit c _))
  send_goes {q} false line d at = comes_on limit c (comes_lined limit c f [] line d at)
      (subst (λ o. To limit c (On (record { state = after o gave.Nothing (state_of f q [] [] None d); world = record d.world { output = d.world.output ++ (line ++ []); done = also_done (PutOut (line ++ [])) d.world.done } })) (on f (q + 1) [] (record d { world = record d.world { output = d.world.output ++ (line ++ []); done = also_done (PutOut (line ++ [])) d.world.done } }))) (sym (itself refl at)) (comes_here limit c _))

  pub sends_does : {g : Ghost} (x : Ends) (q : ℕ) (feed : Bool) (line : List ℕ) → At c q (Emission.send_instr feed) x.entry → Runs limit c f x g any (stored.puts (cond feed (line ++ (10 ∷ [])) line)) (λ d. On (path f q [] line None d)) (λ _ d. on f (q + 1) [] d)
  unfolding stored.puts
  sends_does {g} x q feed line at = record {
    by = λ s d fit al. (
      tt,
      record {
        dyn = record d { world = record d.world { output = d.world.output ++ (line ++ cond feed (10 ∷ []) []); done = also_done (PutOut (line ++ cond feed (10 ∷ []) [])) d.world.done } };
        fit = record {
          here = fit.here;
          everywhere = fit.everywhere;
          declared = fit.declared;
          frame = fit.frame;
          top = fit.top;
          least = fit.least;
          most = fit.most;
          agrees = record { turns = fit.agrees.turns; left = fit.agrees.left; taken = fit.agrees.taken; held = fit.agrees.held; input = fit.agrees.input; output = ap₂ (λ a b. a ++ b) fit.agrees.output (same feed); notes = fit.agrees.notes; done = ap₂ (λ a b. also_done (PutOut b) a) fit.agrees.done (same feed) };
          plan = fit.plan;
          order = fit.order;
          cells = λ a. right_same (g.what a) s _ (slice_get d.cells a) refl refl (fit.cells a);
        };
        comes = send_goes feed line d at _;
        grows = le_refl s.turns;
      },
    );
  }
    where
      same : (b : Bool) → line ++ cond b (10 ∷ []) [] ≡ cond b (line ++ (10 ∷ [])) line
      same true = refl
      same false = append-nil line

  -- a value goes to the next cell
  piece_does : {B : Type 0} {g : Ghost} {env : Env} {p : B → Type 0} {goal : B → Dyn → Step} (e' : Expr) (rest : Pieces) (from to : ℕ) (x : Ends) (s : Sight) (o n : ℕ) (vs : List ℤ) (then : List ℕ → Stored B) (tail : ℤ → Stored (List ℕ)) → Knows limit cuts g f s env → s.scope.entry ≡ x.entry → s.scope.free ≡ o + n → s.scope.free + (1 + Emission.piece_cells rest) ≤ s.cells
      → ((k : ℕ) → k < n + (1 + Emission.piece_cells rest) → g.what (f.base + o + k) ≡ Free) → Fitted program globals mains epar s e' → length vs ≡ n → Stands c (emit program s.scope 0 e' ⨟ Emission.keep s.scope 1 s.scope.free ⨟ Emission.piece_values program (taking 1 s).scope rest) from to
      → ((v : ℤ) → length (vs ++ (v ∷ [])) ≡ n + 1 → (m : ℕ) → Stands c (Emission.piece_values program (taking 1 s).scope rest) m to → Knows limit cuts g f (taking 1 s) env
      → Doing limit c f x (keeping (f.base + o) (vs ++ (v ∷ [])) g) g p (stored.bind (tail v) then) (λ d. on f m [] d) goal)
      → Doing limit c f x (keeping (f.base + o) vs g) g p (stored.bind (stored.bind (Meaning.eval ops limit program calls e' env) tail) then) (λ d. on f from [] d) goal
  piece_does {g = g} {env = env} {p = p} {goal = goal} e' rest from to x s o n vs then tail k en e room free we len l j =
      let (m, l1, (at, l2)) = stands_seq c from to (emit program s.scope 0 e') (Emission.keep s.scope 1 s.scope.free ⨟ Emission.piece_values program (taking 1 s).scope rest) l in
      let free' : (i : ℕ) → i < length vs → g.what (f.base + o + i) ≡ Free = (λ i lt. free i (omega (arith, lt, len))) in
      let kk : Knows limit cuts (keeping (f.base + o) vs g) f s env = knows_kept o vs (omega (arith, e, len)) (omega (arith, room)) free' k in
      let here : f.base + o + length vs ≡ f.base + (o + n) = omega (arith, len) in
      let loose : (keeping (f.base + o) vs g).what (f.base + (o + n)) ≡ Free =
      ap (keeping (f.base + o) vs g).what (sym here) ∙ laid_out (f.base + o) 0 kept_what vs g.what (f.base + o + length vs) (inr (le_refl (f.base + o + length vs))) ∙ (let z : f.base + o + length vs ≡ f.base + o + n = omega (arith, len) in ap g.what z) ∙ free n (omega arith) in
      does_assoc limit c f x _ _ then
      (does_seq limit c f x (λ t d w'. fit_unkept (f.base + o) vs g free' w') (λ ts al. al) (value_does limit cuts program c f x calls globals mains epar calls_do e' from m s 0 [] kk en we l1) (λ v _.
      does_keep limit c f x m (o + n) v [] (own_free _ loose) (subst (λ q. At c m (i.StoreL q) x.entry) e (at_entry en at))
      (does_first limit c f x (fewer_one_more limit cuts program c f x calls globals mains epar calls_do o n vs v g here) (λ t d' w'. (d', fit_alike (keeping (f.base + o) (vs ++ (v ∷ [])) g).what (λ a. (ap (λ q. (set_what q (Keeps v) (keeping (f.base + o) vs g)).what a) (sym here)) ∙ keep_one_more (f.base + o) vs v g a) w', comes_here limit c (on f (m + 1) [] d')))
      (j v (length-append vs (v ∷ []) ∙ (let z : length vs + 1 ≡ n + 1 = omega (arith, len) in z)) (m + 1) l2 (knows_taking 1 k)))))

  pub written_does : {B : Type 0} {g : Ghost} {env : Env} {p : B → Type 0} {goal : B → Dyn → Step} (ps : Pieces) (from to : ℕ) (x : Ends) (s : Sight) (o n : ℕ) (vs : List ℤ) (so_far : List ℕ) (then : List ℕ → Stored B) → Knows limit cuts g f s env → s.scope.entry ≡ x.entry → s.scope.free ≡ o + n → s.scope.free + Emission.piece_cells ps ≤ s.cells
      → ((k : ℕ) → k < n + Emission.piece_cells ps → g.what (f.base + o + k) ≡ Free) → FittedPieces program globals mains epar s ps → length vs ≡ n → Stands c (Emission.piece_values program s.scope ps) from to
      → ((us : List ℤ) → length us ≡ Emission.piece_cells ps → Doing limit c f x (keeping (f.base + o) (vs ++ us) g) g p (then (so_far ++ Emission.bytes_of ps us)) (λ d. on f to [] d) goal)
      → Doing limit c f x (keeping (f.base + o) vs g) g p (stored.bind (Meaning.written ops limit program calls ps env so_far) then) (λ d. on f from [] d) goal
  unfolding Rattle.ada_lower.specs.Emission.piece_values
  written_does {g = g} {p = p} {goal = goal} NoPiece from to x s o n vs so_far then k en e room free w len l j =
      does_returned limit c f x then so_far
      (subst (λ q. Doing limit c f x (keeping (f.base + o) vs g) g p (then so_far) (λ d. on f q [] d) goal) l
      (subst (λ us. Doing limit c f x (keeping (f.base + o) us g) g p (then so_far) (λ d. on f to [] d) goal) (append-nil vs)
      (subst (λ bs. Doing limit c f x (keeping (f.base + o) (vs ++ []) g) g p (then bs) (λ d. on f to [] d) goal) (append-nil so_far) (j [] refl))))
  written_does {g = g} {p = p} {goal = goal} (Text bytes rest) from to x s o n vs so_far then k en e room free w len l j =
      written_does rest from to x s o n vs (so_far ++ bytes) then k en e room free w.1 len l (λ us ul.
      subst (λ bs. Doing limit c f x (keeping (f.base + o) (vs ++ us) g) g p (then bs) (λ d. on f to [] d) goal) (sym (append_assoc so_far bytes (Emission.bytes_of rest us))) (j us ul))
  written_does {g = g} {env = env} {p = p} {goal = goal} (Image class e' rest) from to x s o n vs so_far then k en e room free w len l j =
      piece_does {g = g} {env = env} e' rest from to x s o n vs then (λ v. Meaning.written ops limit program calls rest env (so_far ++ Values.image_of class v)) k en e room free w.0 len l
      (λ v vl m l2 k2. written_does rest m to x (taking 1 s) o (n + 1) (vs ++ (v ∷ [])) (so_far ++ Values.image_of class v) then k2 en (omega (arith, e)) (omega (arith, room)) (λ i lt. free i (omega (arith, lt))) w.1 vl l2 (λ us ul.
      subst (λ ws. Doing limit c f x (keeping (f.base + o) ws g) g p (then ((so_far ++ Values.image_of class v) ++ Emission.bytes_of rest us)) (λ d. on f to [] d) goal) (sym (append_assoc vs (v ∷ []) us))
      (subst (λ bs. Doing limit c f x (keeping (f.base + o) (vs ++ (v ∷ us)) g) g p (then bs) (λ d. on f to [] d) goal) (sym (append_assoc so_far (Values.image_of class v) (Emission.bytes_of rest us))) (j (v ∷ us) (ap suc ul ∙ (let z : suc (Emission.piece_cells rest) ≡ 1 + Emission.piece_cells rest = omega arith in z))))))
  written_does {g = g} {env = env} {p = p} {goal = goal} (Padded class e' (Static at value literal mentions) rest) from to x s o n vs so_far then k en e room free w len l j =
      piece_does {g = g} {env = env} e' rest from to x s o n vs then (λ v. stored.bind (stored.ret value) (λ z. Meaning.written ops limit program calls rest env (so_far ++ padded v (Values.to_nat z)))) k en e room free w.0 len l
      (λ v vl m l2 k2. does_assoc limit c f x (stored.ret value) _ then (does_returned limit c f x (λ z. stored.bind (Meaning.written ops limit program calls rest env (so_far ++ padded v (Values.to_nat z))) then) value
      (written_does rest m to x (taking 1 s) o (n + 1) (vs ++ (v ∷ [])) (so_far ++ padded v (Values.to_nat value)) then k2 en (omega (arith, e)) (omega (arith, room)) (λ i lt. free i (omega (arith, lt))) w.1 vl l2 (λ us ul.
      subst (λ ws. Doing limit c f x (keeping (f.base + o) ws g) g p (then ((so_far ++ padded v (Values.to_nat value)) ++ Emission.bytes_of rest us)) (λ d. on f to [] d) goal) (sym (append_assoc vs (v ∷ []) us))
      (subst (λ bs. Doing limit c f x (keeping (f.base + o) (vs ++ (v ∷ us)) g) g p (then bs) (λ d. on f to [] d) goal) (sym (append_assoc so_far (padded v (Values.to_nat value)) (Emission.bytes_of rest us))) (j (v ∷ us) (ap suc ul ∙ (let z : suc (Emission.piece_cells rest) ≡ 1 + Emission.piece_cells rest = omega arith in z))))))))
  written_does (Padded class e' width rest) from to x s o n vs so_far then k en e room free w len l j = absurd w
