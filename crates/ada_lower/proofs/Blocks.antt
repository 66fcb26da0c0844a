-- Elaboration, handlers and choices.
use Rattle.std.proofs.Common.{◌≡◌, ℕ, zero, suc, ◌+◌, ◌<◌, ℤ, pos, int_le, List, [], ◌∷◌, length, slice_get, nat_eq, nat_lt, Option, Some, None, Result, Ok, Err, Bool, true, false, cond, ◌&&◌, ◌||◌, refl, sym, ap, ◌∙◌, subst, le_refl, arith, inl, inr, ⊎_elim, true≢false, eqb-true, ltb-true}
use Rattle.std.specs.Int.{int_min}
use Rattle.std.proofs.lemmas.Int.{ints}
use Rattle.std.proofs.lemmas.Bool.{eqb-false}
use Rattle.ada_base.specs.declared.reason.Reason.{Reason}
use Rattle.ada_base.specs.declared.reason.Reason.TheVariants as reason
use Rattle.behaviours.specs.Paths.{Entity, Here}
use Rattle.typed_tree.specs.declared.statements.Span.{Span}
use Rattle.ada_meaning.specs.Values.{bit, between, is_equal, reason_eq, has_reason, is_chosen}
use Rattle.ada_meaning.specs.Stored as stored
use Rattle.ada_meaning.specs.Stored.{Stored, Cause, Left, OutOfTurns, NoRoom, CutOff, Misnoted, Address, Touch, key}
use Rattle.stack_code.specs.declared.code.Code.{Code}
use Rattle.stack_code.specs.declared.instr.Instr.TheVariants as i
use Rattle.ada_base.specs.Cells.{value_in}
use Rattle.stack_code.specs.Deeds
use Rattle.stack_code.specs.Deeds.{GoesOn}
use Rattle.stack_code.specs.Listing.{reason_number}
use Rattle.stack_code.specs.Machine.{Cut}
use Rattle.ada_lower.specs.Driven.{Dyn, Fixed, Step, on, halt, looked}
use Rattle.ada_lower.specs.Sights.{Emit, Sight, Stands, choose, one}
use Rattle.ada_lower.specs.Emission
use Rattle.ada_lower.specs.Fits.{What, Free, Keeps, Access, Full, Right, Ghost, Agrees, Fit, Ends, left_by, Land, Lands, Does, allows, Allows, Stands as StandsFor, Asks}
use Rattle.ada_lower.proofs.Framework.{any, To, Doing, comes_here, comes_on, comes_goes}
use Rattle.ada_lower.proofs.Memory.{right_same, at_same}
use Rattle.ada_lower.proofs.Standing.{Choice, stands_assoc3, stands_choose, stands_seq}
use Rattle.ada_lower.proofs.Names.{comes_loads}
use Rattle.ada_lower.proofs.Parts.{Runs, Fewer, allows_fewer, bit_same}
use Rattle.ada_lower.proofs.Declared.{keeping, having, laid_what, laid_out, laid_in, kept_what, among, Fresh, fresh_of, fit_having, fit_ended, AllFree, length_in}

-- numbers that were kept aren't any more
pub fit_unkept : (a : ℕ) (vs : List ℤ) (g : Ghost) {s : stored.State} {d : Dyn} → ((k : ℕ) → k < length vs → g.what (a + k) ≡ Free) → Fit (keeping a vs g) s d → Fit g s d
fit_unkept a vs g {s} {d} free w = record {
  here = w.here;
  everywhere = w.everywhere;
  declared = w.declared;
  frame = w.frame;
  top = w.top;
  least = w.least;
  most = w.most;
  agrees = w.agrees;
  plan = w.plan;
  order = w.order;
  cells = λ b. ⊎_elim
      (λ r. let (k, v, e, is) = r in subst (λ b. Right (g.what b) s (slice_get d.cells b)) e
      (subst (λ z. Right z s (slice_get d.cells (a + k))) (sym (free k (length_in vs k v is)))
      (v, subst (λ z. Right z s (slice_get d.cells (a + k))) (laid_in a 0 kept_what vs g.what k v is) (w.cells (a + k)))))
      (λ out. subst (λ z. Right z s (slice_get d.cells b)) (laid_out a 0 kept_what vs g.what b out) (w.cells b))
      (among a b vs);
}

module _ (limit : ℕ) (c : Code) (f : Fixed) (x : Ends) where
  pub fewer_kept : (y : Entity) (len a : ℕ) (vs : List ℤ) (g : Ghost) → Fewer limit c f x (keeping a vs g) (having y len a vs g)
  fewer_kept y len a vs g b z p e = ⊎_elim
      (λ r. let (k, v, w, is) = r in inr (full z p (sym (laid_in a len Rattle.ada_lower.proofs.Declared.stacked_what vs g.what k v is) ∙ ap (laid_what a len Rattle.ada_lower.proofs.Declared.stacked_what vs g.what) w ∙ e)))
      (λ out. inl (laid_out a 0 kept_what vs g.what b out ∙ (sym (laid_out a len Rattle.ada_lower.proofs.Declared.stacked_what vs g.what b out) ∙ e)))
      (among a b vs)
    where
      full : {q : Address} (z : Access) (p : Address) → StandsFor Full q ≡ StandsFor z p → (t : Bool) → allows z t ≡ true
      full Full p e t = refl
      full Rattle.ada_lower.specs.Fits.Barred p e t = let z : Full ≡ Rattle.ada_lower.specs.Fits.Barred = cc in absurd cc
      full Rattle.ada_lower.specs.Fits.Readable p e t = let z : Full ≡ Rattle.ada_lower.specs.Fits.Readable = cc in absurd cc

  pub does_elaborates_to : {A : Type 0} {g : Ghost} {q : A → Type 0} {m : Stored A} {from : Dyn → Step} {to : A → Dyn → Step} (y : Entity) (a : ℕ) (vs : List ℤ) → ((k : ℕ) → k < length vs → g.what (a + k) ≡ Free) → (wh : ℕ → What) → ((k : ℕ) → k < length vs → wh (a + k) ≡ Free) → ((b : ℕ) (z : Access) (n : ℕ) → wh b ≡ StandsFor z (Rattle.ada_meaning.specs.Stored.Stacked n) → g.what b ≡ StandsFor z (Rattle.ada_meaning.specs.Stored.Stacked n))
      → ((len : ℕ) → Fresh g len → key y < length g.here → Doing limit c f x (having y len a vs g) (having y len a vs (record g { what = wh })) q m from to)
      → Doing limit c f x (keeping a vs g) (record g { what = wh }) q (stored.elaborates Here y vs m) from to
  unfolding stored.elaborates
  does_elaborates_to {A} {g} {q} {m} {from} {to} y a vs free wh free' old k = record { by = λ s d fit al. go s d fit (nat_lt (key y) (length s.here)) refl al }
    where
      fresh' : (s : stored.State) (d : Dyn) → Fit (keeping a vs g) s d → Fresh (record g { what = wh }) (length s.cells)
      fresh' s d fit b z n e = fresh_of (fit_unkept a vs g free fit) b z n (old b z n e)

      back : (s : stored.State) (d : Dyn) → Fit (keeping a vs g) s d → key y < length g.here → (t : stored.State) (e : Result A Cause)
          → Lands limit c f x q (having y (length s.cells) a vs (record g { what = wh })) (from d) s.turns to t e → Lands limit c f x q (record g { what = wh }) (from d) s.turns to (stored.ended Here y s t) e
      back s d fit slots t (Ok r) l = (l.0, record { dyn = l.1.dyn; fit = fit_ended y a vs (record g { what = wh }) s t slots free' fit.here (fresh' s d fit) l.1.fit; comes = l.1.comes; grows = l.1.grows })
      back s d fit slots t (Err (Left w)) l = record { dyn = l.dyn; fit = fit_ended y a vs (record g { what = wh }) s t slots free' fit.here (fresh' s d fit) l.fit; comes = l.comes; grows = l.grows }
      back s d fit slots t (Err OutOfTurns) l = record { dyn = l.dyn; fit = fit_ended y a vs (record g { what = wh }) s t slots free' fit.here (fresh' s d fit) l.fit; comes = l.comes; grows = l.grows }
      back s d fit slots t (Err CutOff) l = record { dyn = l.dyn; fit = fit_ended y a vs (record g { what = wh }) s t slots free' fit.here (fresh' s d fit) l.fit; comes = l.comes; grows = l.grows }
      back s d fit slots t (Err NoRoom) l = tt
      back s d fit slots t (Err Misnoted) (un, l) = (un, record { dyn = l.dyn; fit = fit_ended y a vs (record g { what = wh }) s t slots free' fit.here (fresh' s d fit) l.fit; comes = l.comes; grows = l.grows })

      go : (s : stored.State) (d : Dyn) → Fit (keeping a vs g) s d → (b : Bool) → nat_lt (key y) (length s.here) ≡ b → Asks f (keeping a vs g) (cond (nat_lt (key y) (length s.here)) (m.touches (stored.begun Here y vs s)) []) (cond (nat_lt (key y) (length s.here)) (m.visits (stored.begun Here y vs s)) [])
          → (let r = m.does (stored.begun Here y vs s) in let z = cond (nat_lt (key y) (length s.here)) (stored.at (stored.ended Here y s r.state) r.end) (stored.at s (Err NoRoom)) in Lands limit c f x q (record g { what = wh }) (from d) s.turns to z.state z.end)
      go s d fit true e al =
          let slots : key y < length g.here = subst (λ h. key y < length h) fit.here (ltb-true (key y) (length s.here) e) in
          let r = m.does (stored.begun Here y vs s) in
          let al' : Asks f (keeping a vs g) (m.touches (stored.begun Here y vs s)) (m.visits (stored.begun Here y vs s)) = subst (λ b. Asks f (keeping a vs g) (cond b (m.touches (stored.begun Here y vs s)) []) (cond b (m.visits (stored.begun Here y vs s)) [])) e al in
          subst (λ b. let z = cond b (stored.at (stored.ended Here y s r.state) r.end) (stored.at s (Err NoRoom)) in Lands limit c f x q (record g { what = wh }) (from d) s.turns to z.state z.end) (sym e)
          (back s d fit slots r.state r.end
          ((k (length s.cells) (fresh_of (fit_unkept a vs g free fit)) slots).by (stored.begun Here y vs s) d (fit_having y a vs g fit)
          (allows_fewer limit c f x (keeping a vs g) (having y (length s.cells) a vs g) (m.touches (stored.begun Here y vs s)) (fewer_kept y (length s.cells) a vs g) al'.0, al'.1)))
      go s d fit false e al =
          let r = m.does (stored.begun Here y vs s) in
          subst (λ b. let z = cond b (stored.at (stored.ended Here y s r.state) r.end) (stored.at s (Err NoRoom)) in Lands limit c f x q (record g { what = wh }) (from d) s.turns to z.state z.end) (sym e) tt

  -- a new object, whose first values stand in its cells, for as long as a part goes on
  pub does_elaborates : {A : Type 0} {g : Ghost} {q : A → Type 0} {m : Stored A} {from : Dyn → Step} {to : A → Dyn → Step} (y : Entity) (a : ℕ) (vs : List ℤ) → ((k : ℕ) → k < length vs → g.what (a + k) ≡ Free)
      → ((len : ℕ) → Fresh g len → key y < length g.here → Runs limit c f x (having y len a vs g) q m from to)
      → Doing limit c f x (keeping a vs g) g q (stored.elaborates Here y vs m) from to
  does_elaborates {g = g} y a vs free k = does_elaborates_to y a vs free g.what free (λ b z n e. e) k

  -- a look, as a handler makes it
  pub does_look : {g : Ghost} (p : Dyn → Step) → Runs limit c f x g any stored.look (λ d. looked f d.left d p) (λ _ d. p d)
  unfolding stored.look
  does_look {g} p = record { by = λ s d fit al. subst (λ o. let r = stored.looked s o in Lands limit c f x any g (looked f d.left d p) s.turns (λ _ d. p d) r.state r.end) fit.agrees.left (go s d fit d.left (sym fit.agrees.left)) }
    where
      go : (s : stored.State) (d : Dyn) → Fit g s d → (o : Option ℕ) → s.left ≡ o → (let r = stored.looked s o in Lands limit c f x any g (looked f o d p) s.turns (λ _ d. p d) r.state r.end)
      go s d fit None e = (tt, record { dyn = d; fit = fit; comes = comes_here limit c (p d) _; grows = le_refl s.turns })
      go s d fit (Some zero) e = record { dyn = d; fit = fit; comes = comes_here limit c (halt f Cut d) _; grows = le_refl s.turns }
      go s d fit (Some (suc n)) e = (
        tt,
        record {
          dyn = record d { left = Some n };
          fit = record {
            here = fit.here;
            everywhere = fit.everywhere;
            declared = fit.declared;
            frame = fit.frame;
            top = fit.top;
            least = fit.least;
            most = fit.most;
            agrees = record { turns = fit.agrees.turns; left = refl; taken = fit.agrees.taken; held = fit.agrees.held; input = fit.agrees.input; output = fit.agrees.output; notes = fit.agrees.notes; done = fit.agrees.done };
            plan = fit.plan;
            order = fit.order;
            cells = λ a. right_same (g.what a) s _ (slice_get d.cells a) refl refl (fit.cells a);
          };
          comes = comes_here limit c (p (record d { left = Some n })) _;
          grows = le_refl s.turns;
        },
      )

-- ---- choices

pub equal_numbers : (a b : ℕ) → is_equal (pos a) (pos b) ≡ nat_eq a b
equal_numbers a b = go (int_le (pos a) (pos b)) (int_le (pos b) (pos a)) (nat_eq a b) refl refl refl
  where
    go : (t u v : Bool) → int_le (pos a) (pos b) ≡ t → int_le (pos b) (pos a) ≡ u → nat_eq a b ≡ v → (t && u) ≡ v
    go true true true e e' e'' = refl
    go true true false e e' e'' = absurd (eqb-false a b e'' (omega (arith, ints, e, e')))
    go true false true e e' e'' = absurd (let z : a ≡ b = eqb-true a b e'' in omega (arith, ints, z, e'))
    go true false false e e' e'' = refl
    go false u true e e' e'' = absurd (let z : a ≡ b = eqb-true a b e'' in omega (arith, ints, z, e))
    go false u false e e' e'' = refl

reason_same : (q r : Reason) → reason_eq q r ≡ true → q ≡ r
reason_same reason.ConstraintError reason.ConstraintError e = refl
reason_same reason.ProgramError reason.ProgramError e = refl
reason_same reason.StorageError reason.StorageError e = refl
reason_same reason.DataError reason.DataError e = refl
reason_same reason.EndError reason.EndError e = refl
reason_same (reason.Declared m) (reason.Declared n) e = ap reason.Declared (eqb-true m n e)
reason_same _ _ e = absurd (true≢false (sym e))

reason_itself : (r : Reason) → reason_eq r r ≡ true
reason_itself reason.ConstraintError = refl
reason_itself reason.ProgramError = refl
reason_itself reason.StorageError = refl
reason_itself reason.DataError = refl
reason_itself reason.EndError = refl
reason_itself (reason.Declared n) = at_same n

pub reason_back : (r : Reason) → Deeds.reason_of (pos (reason_number r)) ≡ r
reason_back reason.ConstraintError = refl
reason_back reason.ProgramError = refl
reason_back reason.StorageError = refl
reason_back reason.DataError = refl
reason_back reason.EndError = refl
reason_back (reason.Declared n) = ap (λ k. Deeds.reason_of (pos k)) (let e : 5 + n ≡ suc (suc (suc (suc (suc n)))) = omega arith in e)

-- reasons are told apart by their numbers
reason_equal : (r q : Reason) → is_equal (pos (reason_number r)) (pos (reason_number q)) ≡ reason_eq q r
reason_equal r q = equal_numbers (reason_number r) (reason_number q) ∙ go (nat_eq (reason_number r) (reason_number q)) (reason_eq q r) refl refl
  where
    same : nat_eq (reason_number r) (reason_number q) ≡ true → r ≡ q
    same e = sym (reason_back r) ∙ ap (λ n. Deeds.reason_of (pos n)) (eqb-true (reason_number r) (reason_number q) e) ∙ reason_back q

    go : (t u : Bool) → nat_eq (reason_number r) (reason_number q) ≡ t → reason_eq q r ≡ u → t ≡ u
    go true true e e' = refl
    go false false e e' = refl
    go true false e e' = absurd (true≢false (sym (reason_itself q) ∙ ap (λ z. reason_eq q z) (sym (same e)) ∙ e'))
    go false true e e' = absurd (eqb-false (reason_number r) (reason_number q) e (ap reason_number (sym (reason_same q r e'))))

min_bits : (a b : Bool) → int_min (Deeds.bit a) (Deeds.bit b) ≡ bit (b && a)
min_bits true true = refl
min_bits true false = refl
min_bits false true = refl
min_bits false false = refl

module _ (limit : ℕ) (c : Code) (f : Fixed) where
  -- a test that pushes its bit, and one more
  comes_or : (s : Sight) (from to : ℕ) (b : Bool) (other : Emit) (u : Bool) (d : Dyn) → Stands c (choose s.scope 0 1 (one s.scope 0 (i.Push (pos 1))) other) from to
      → ((from to : ℕ) → Stands c other from to → To limit c (on f from [] d) (on f to (bit u ∷ []) d))
      → To limit c (on f from (bit b ∷ []) d) (on f to (bit (b || u) ∷ []) d)
  comes_or s from to b other u d l k = go b (stands_choose c from to s 0 1 (one s.scope 0 (i.Push (pos 1))) other l)
    where
      go : (b : Bool) → Choice c s.scope.entry (one s.scope 0 (i.Push (pos 1))) other from to → To limit c (on f from (bit b ∷ []) d) (on f to (bit (b || u) ∷ []) d)
      go true w = comes_on limit c (comes_goes limit c f (pos 1 ∷ []) (from + 1) [] d w.test refl)
          (comes_on limit c (comes_goes limit c f [] (from + 1 + 1) (pos 1 ∷ []) d w.first.0 refl)
          (subst (λ q. To limit c (on f q (pos 1 ∷ []) d) (on f to (pos 1 ∷ []) d)) w.first.1 (comes_goes limit c f (pos 1 ∷ []) to (pos 1 ∷ []) d w.jump refl)))
      go false w = comes_on limit c (comes_goes limit c f (pos 0 ∷ []) (w.mid + 1) [] d w.test refl) (k (w.mid + 1) to w.second)

  -- whether the reason in a cell is one of some
  pub comes_reason : (s : Sight) (n from to : ℕ) (r : Reason) (rs : List Reason) (d : Dyn) → value_in (slice_get d.cells (f.base + n)) ≡ Some (pos (reason_number r)) → Stands c (Emission.has_reason s.scope n rs) from to → To limit c (on f from [] d) (on f to (bit (has_reason rs r) ∷ []) d)
  comes_reason s n from to r [] d e (j, z) = subst (λ q. To limit c (on f from [] d) (on f q (pos 0 ∷ []) d)) (sym z) (comes_goes limit c f [] (from + 1) (pos 0 ∷ []) d j refl)
  comes_reason s n from to r (q ∷ rs) d e l' =
      let (j1, (j2, (j3, l))) = stands_assoc3 c from to (one s.scope 0 (i.LoadL n)) (one s.scope 1 (i.Push (pos (reason_number q)))) (one s.scope 2 i.Eq) (choose s.scope 0 1 (one s.scope 0 (i.Push (pos 1))) (Emission.has_reason s.scope n rs)) l' in
      comes_on limit c (comes_loads limit c f (f.base + n) (pos (reason_number r)) [] [] d j1 refl e)
      (comes_on limit c (comes_goes limit c f (pos (reason_number r) ∷ []) (from + 1 + 1) (pos (reason_number q) ∷ pos (reason_number r) ∷ []) d j2 refl)
      (comes_on limit c (comes_goes limit c f (pos (reason_number q) ∷ pos (reason_number r) ∷ []) (from + 1 + 1 + 1) (bit (reason_eq q r) ∷ []) d j3
      (ap (λ b. GoesOn (from + 1 + 1 + 1) (b ∷ f.below)) (bit_same (is_equal (pos (reason_number r)) (pos (reason_number q))) ∙ ap bit (reason_equal r q))))
      (comes_or s (from + 1 + 1 + 1) to (reason_eq q r) (Emission.has_reason s.scope n rs) (has_reason rs r) d l (λ from to l. comes_reason s n from to r rs d e l))))

  -- whether the number in a cell is in one of some ranges
  pub comes_chosen : (s : Sight) (n from to : ℕ) (v : ℤ) (rs : List Span) (d : Dyn) → value_in (slice_get d.cells (f.base + n)) ≡ Some v → Stands c (Emission.chosen s.scope n rs) from to → To limit c (on f from [] d) (on f to (bit (is_chosen rs v) ∷ []) d)
  comes_chosen s n from to v [] d e (j, z) = subst (λ q. To limit c (on f from [] d) (on f q (pos 0 ∷ []) d)) (sym z) (comes_goes limit c f [] (from + 1) (pos 0 ∷ []) d j refl)
  comes_chosen s n from to v (r ∷ rs) d e l' =
      let (m, (j1, (j2, (j3, (j4, (j5, (j6, (j7, z))))))), l2) = stands_seq c from to (Emission.in_span s.scope n r.low r.high) (choose s.scope 0 1 (one s.scope 0 (i.Push (pos 1))) (Emission.chosen s.scope n rs)) l' in
      let l : Stands c (choose s.scope 0 1 (one s.scope 0 (i.Push (pos 1))) (Emission.chosen s.scope n rs)) (from + 1 + 1 + 1 + 1 + 1 + 1 + 1) to = subst (λ n'. Stands c (choose s.scope 0 1 (one s.scope 0 (i.Push (pos 1))) (Emission.chosen s.scope n rs)) n' to) z l2 in
      comes_on limit c (comes_loads limit c f (f.base + n) v [] [] d j1 refl e)
      (comes_on limit c (comes_goes limit c f (v ∷ []) (from + 1 + 1) (r.low ∷ v ∷ []) d j2 refl)
      (comes_on limit c (comes_goes limit c f (r.low ∷ v ∷ []) (from + 1 + 1 + 1) (Deeds.bit (int_le r.low v) ∷ []) d j3 refl)
      (comes_on limit c (comes_loads limit c f (f.base + n) v (Deeds.bit (int_le r.low v) ∷ []) (Deeds.bit (int_le r.low v) ∷ []) d j4 refl e)
      (comes_on limit c (comes_goes limit c f (v ∷ Deeds.bit (int_le r.low v) ∷ []) (from + 1 + 1 + 1 + 1 + 1) (r.high ∷ v ∷ Deeds.bit (int_le r.low v) ∷ []) d j5 refl)
      (comes_on limit c (comes_goes limit c f (r.high ∷ v ∷ Deeds.bit (int_le r.low v) ∷ []) (from + 1 + 1 + 1 + 1 + 1 + 1) (Deeds.bit (int_le v r.high) ∷ Deeds.bit (int_le r.low v) ∷ []) d j6 refl)
      (comes_on limit c (comes_goes limit c f (Deeds.bit (int_le v r.high) ∷ Deeds.bit (int_le r.low v) ∷ []) (from + 1 + 1 + 1 + 1 + 1 + 1 + 1) (bit (between r.low v r.high) ∷ []) d j7
      (ap (λ b. GoesOn (from + 1 + 1 + 1 + 1 + 1 + 1 + 1) (b ∷ f.below)) (min_other (int_le r.low v) (int_le v r.high))))
      (comes_or s (from + 1 + 1 + 1 + 1 + 1 + 1 + 1) to (between r.low v r.high) (Emission.chosen s.scope n rs) (is_chosen rs v) d l (λ from to l. comes_chosen s n from to v rs d e l))))))))
    where
      min_other : (a b : Bool) → int_min (Deeds.bit a) (Deeds.bit b) ≡ bit (a && b)
      min_other true true = refl
      min_other true false = refl
      min_other false true = refl
      min_other false false = refl
