-- Accumulators of a parallel reduction, combined from the left by calls of a function.
use Rattle.std.proofs.Common.{◌≡◌, ℕ, ◌+◌, ℤ, pos, int_le, List, [], ◌∷◌, ◌++◌, nat_eq, Option, Some, None, Bool, true, false, ◌&&◌, cond, refl, sym, ap, ◌∙◌, subst, le_refl, arith, inl}
use Rattle.std.specs.Int.{int_min}
use Rattle.ada_base.specs.declared.reason.Reason.{Reason}
use Rattle.behaviours.specs.Doings.{onto}
use Rattle.behaviours.specs.Paths.{ConstantOf, Entity, Exits, Raises, Returns}
use Rattle.ada_base.specs.declared.operation.Comparison.TheVariants as comparison
use Rattle.typed_tree.specs.declared.scalars.Scalar.{Scalar}
use Rattle.typed_tree.specs.declared.expressions.Reducer.{Reducer}
use Rattle.typed_tree.specs.declared.expressions.Reducer.TheVariants.{Function}
use Rattle.typed_tree.specs.Syntax.{Expr, Program}
use Rattle.ada_meaning.specs.Values
use Rattle.ada_meaning.specs.Operations.{Operations}
use Rattle.ada_meaning.specs.Stored as stored
use Rattle.ada_meaning.specs.Stored.{Stored}
use Rattle.ada_meaning.specs.Meaning
use Rattle.ada_meaning.specs.Meaning.{Env, Passed, Returned}
use Rattle.stack_code.specs.declared.code.Code.{Code}
use Rattle.stack_code.specs.declared.instr.Instr.TheVariants as i
use Rattle.stack_code.specs.Deeds.{GoesOn, bit}
use Rattle.stack_code.specs.Machine.{Frame}
use Rattle.ada_lower.specs.Driven.{At, Dyn, Fixed, on, passed_on, thrown}
use Rattle.ada_lower.specs.Sights.{Emit, Named, Sight, Stands, one, taking, when_, ◌⨟◌}
use Rattle.ada_lower.specs.Emission
use Rattle.ada_lower.specs.Emission.{shapes, shapes_cells}
use Rattle.ada_lower.specs.Fits.{Free, Keeps, Ghost, Ends, Fit, Knows}
use Rattle.ada_lower.specs.Fitted.{FittedFold, spot, spots}
use Rattle.ada_lower.proofs.Framework.{any, To, comes_here, comes_on, comes_as, comes_goes, does_before, does_bind, does_ret}
use Rattle.ada_lower.proofs.Memory.{set_what, own_free, what_same, what_other, fit_alike}
use Rattle.ada_lower.proofs.Standing.{stands_seq, stands_when}
use Rattle.ada_lower.proofs.Operands.{compare_is}
use Rattle.ada_lower.proofs.Parts.{Runs, allows_fewer, does_first, does_keep}
use Rattle.ada_lower.proofs.Calls.{BothChecked, checked_call, given, with_kept}
use Rattle.ada_lower.proofs.Inner.{InnerDo}
use Rattle.ada_lower.proofs.Courses.{at_entry, comes_kept}
use Rattle.ada_lower.proofs.Scattered.{AreFree, scattering, fit_unscattered, fewer_scattered, both_kept}
use Rattle.ada_lower.proofs.Sent.{Sent, HaveCells, AreSuited, sent_in, suits_in, pieces, aheads, pieces_in, aheads_in, have_cells, also_then}
use Rattle.ada_lower.proofs.Names.{does_by}
use Rattle.ada_lower.proofs.ForkInside.{LeftAs, does_inside}

-- ---- what is checked

min_bits : (a b : Bool) → int_min (bit a) (bit b) ≡ bit (a && b)
min_bits true true = refl
min_bits true false = refl
min_bits false true = refl
min_bits false false = refl

-- where a raise leads doesn't hang on the accumulators that are kept
passed_kept : (f : Fixed) (vs : List ℤ) (r : Reason) (ws : List Frame) (d : Dyn) → passed_on r ws (with_kept vs f) d ≡ passed_on r ws f d
passed_kept f vs r [] d = refl
passed_kept f vs r (w ∷ ws) d = refl

thrown_kept : (f : Fixed) (vs : List ℤ) (r : Reason) (e : Option ℕ) (d : Dyn) → thrown r e (with_kept vs f) d ≡ thrown r e f d
thrown_kept f vs r None d = passed_kept f vs r f.waiting d
thrown_kept f vs r (Some h) d = refl

left_kept : (limit : ℕ) (c : Code) (f : Fixed) (x : Ends) (vs : List ℤ) → LeftAs limit c (with_kept vs f) f x
left_kept limit c f x vs (Exits n) d = comes_here limit c (x.exits n d)
left_kept limit c f x vs (Returns v) d = comes_here limit c (x.returns v d)
left_kept limit c f x vs (Raises r) d = subst (λ y. To limit c y (thrown r x.entry f d)) (sym (thrown_kept f vs r x.entry d)) (comes_here limit c (thrown r x.entry f d))

module _ (limit : ℕ) (cuts : ℕ → ℕ → List ℕ) (program : Program) (c : Code) (f : Fixed) (calls : ℕ → ℕ → Stored (Unit {0}) → List Passed → Stored Returned) (globals : ℕ → Entity → Option Named) (mains : Entity → Bool) (epar : Sight → Expr → Type 0) (calls_do : InnerDo limit cuts program globals mains epar c f calls)
    (x : Ends) (g : Ghost) (env : Env) (s : Sight) (kn : Knows limit cuts g f s env) (en : s.scope.entry ≡ x.entry) (ht : ℕ) (st : List ℤ) (token sub : ℕ) (accumulator value : Scalar) (fitted : FittedFold program globals mains s (Function token sub accumulator value)) where
  abbrev ops : Operations {1}
  ops = stored.noted_operations limit cuts

  abbrev by : Reducer
  by = Function token sub accumulator value

  abbrev combining : ℤ → ℤ → Stored ℤ
  combining a b = Meaning.combine_call ops limit program calls by env.nested a b

  -- whether a number that is kept is in its subtype
  ranged_goes : {g' : Ghost} {t : stored.State} (fk : Fixed) (h from to n : ℕ) (v : ℤ) (subtype : Scalar) (st : List ℤ) (d : Dyn) → Fit g' t d → g'.what (fk.base + n) ≡ Keeps v → Stands c (Emission.ranged s.scope h n subtype) from to → To limit c (on fk from st d) (on fk to (bit (Values.is_in subtype v) ∷ st) d)
  ranged_goes fk h from to n v subtype st d fit is (j1, (j2, (j3, (j4, (j5, (j6, (j7, z))))))) =
      let low : Bool = int_le (Values.number_in subtype.class subtype.low) (Values.number_in subtype.class v) in
      let high : Bool = int_le (Values.number_in subtype.class v) (Values.number_in subtype.class subtype.high) in
      comes_on limit c (comes_kept limit cuts c fk n v st d fit is j1)
      (comes_on limit c (comes_goes limit c fk (v ∷ st) (from + 1 + 1) (subtype.low ∷ v ∷ st) d j2 refl)
      (comes_on limit c (comes_goes limit c fk (subtype.low ∷ v ∷ st) (from + 1 + 1 + 1) (bit low ∷ st) d j3 (compare_is c (from + 1 + 1) fk.base fk.outward comparison.AtLeast subtype.class v subtype.low (st ++ fk.below)))
      (comes_on limit c (comes_kept limit cuts c fk n v (bit low ∷ st) d fit is j4)
      (comes_on limit c (comes_goes limit c fk (v ∷ bit low ∷ st) (from + 1 + 1 + 1 + 1 + 1) (subtype.high ∷ v ∷ bit low ∷ st) d j5 refl)
      (comes_on limit c (comes_goes limit c fk (subtype.high ∷ v ∷ bit low ∷ st) (from + 1 + 1 + 1 + 1 + 1 + 1) (bit high ∷ bit low ∷ st) d j6 (compare_is c (from + 1 + 1 + 1 + 1 + 1) fk.base fk.outward comparison.AtMost subtype.class v subtype.high (bit low ∷ st ++ fk.below)))
      (subst (λ q. To limit c (on fk (from + 1 + 1 + 1 + 1 + 1 + 1) (bit high ∷ bit low ∷ st) d) (on fk q (bit (low && high) ∷ st) d)) (sym z)
      (comes_goes limit c fk (bit high ∷ bit low ∷ st) (from + 1 + 1 + 1 + 1 + 1 + 1 + 1) (bit (low && high) ∷ st) d j7 (ap (λ b. GoesOn (from + 1 + 1 + 1 + 1 + 1 + 1 + 1) (b ∷ (st ++ fk.below))) (min_bits low high)))))))))

  -- the part is combined with the accumulator, and the code goes back
  step_does : (parts : List ℤ) (a b : ℤ) (head from to : ℕ) → Stands c (Emission.reducing s.scope ht accumulator value ⨟ one s.scope (ht + 1) (i.CallTo (sub + 1) s.scope.free head)) from to
      → Runs limit c (with_kept parts f) x g any (combining a b) (λ d. on (with_kept parts f) from (b ∷ a ∷ st) d) (λ v d. on (with_kept parts f) head (v ∷ st) d)
  step_does parts a b head from to stands =
      let (u, (result, gives), room, formals) = fitted in
      let fk : Fixed = with_kept parts f in
      let t : Sight = taking 2 s in
      let g1 : Ghost = set_what (f.base + (s.scope.free + 1)) (Keeps b) g in
      let g2 : Ghost = set_what (f.base + s.scope.free) (Keeps a) g1 in
      let free0 : g.what (f.base + s.scope.free) ≡ Free = kn.free s.scope.free (le_refl s.scope.free) (omega (arith, room)) in
      let free1 : g.what (f.base + (s.scope.free + 1)) ≡ Free = kn.free (s.scope.free + 1) (omega arith) (omega (arith, room)) in
      let apart : (f.base + (s.scope.free + 1) ≡ f.base + s.scope.free → ⊥) = (λ e. omega (arith, e)) in
      let free0' : g1.what (f.base + s.scope.free) ≡ Free = what_other g (f.base + (s.scope.free + 1)) (f.base + s.scope.free) (Keeps b) apart ∙ free0 in
      let kept0 : g2.what (f.base + s.scope.free) ≡ Keeps a = what_same g1 (f.base + s.scope.free) (Keeps a) in
      let kept1 : g2.what (f.base + (s.scope.free + 1)) ≡ Keeps b = what_other g1 (f.base + s.scope.free) (f.base + (s.scope.free + 1)) (Keeps a) (λ e. apart (sym e)) ∙ what_same g (f.base + (s.scope.free + 1)) (Keeps b) in
      let o : ℕ = f.base + s.scope.free in
      let next : f.base + (s.scope.free + 1) ≡ o + 1 = omega arith in
      let x0 : ℕ = Meaning.formal_at (Meaning.formals_of program.subs sub) 0 in
      let x1 : ℕ = Meaning.formal_at (Meaning.formals_of program.subs sub) 1 in
      let ps : List Sent = sent_in x0 0 (a ∷ []) ∷ sent_in x1 1 (b ∷ []) ∷ [] in
      let alike : (n : ℕ) → g2.what n ≡ (scattering o (pieces ps) g).what n = (λ n. ap (λ m. cond (nat_eq o n) (Keeps a) (cond (nat_eq m n) (Keeps b) (g.what n))) next ∙ both_kept o a b g n) in
      let suited : AreSuited (spots 0 (shapes program u.unit.formals)) ps = subst (λ z. AreSuited (spots 0 z) ps) (sym formals) (spot (ConstantOf x0) false 1 0, spot (ConstantOf x1) false 1 1 ∷ [], inl (refl, refl), suits_in x0 1 0 (a ∷ []) refl, (spot (ConstantOf x1) false 1 1, [], inl (refl, refl), suits_in x1 1 1 (b ∷ []) refl, refl)) in
      let count : ℕ = shapes_cells (shapes program u.unit.formals) in
      let many : count ≡ 2 = ap (λ z. shapes_cells z) formals in
      let have : HaveCells count ps = have_cells (shapes program u.unit.formals) ps suited in
      let kt : Knows limit cuts g f t env = record { most = kn.most; nested = kn.nested; plan = kn.plan; kept = kn.kept; top = kn.top; beyond = kn.beyond; global = kn.global; outside = kn.outside; one = kn.one; old = kn.old; hidden = kn.hidden; object = kn.object; parameter = kn.parameter; item = kn.item; constant_item = kn.constant_item; target = kn.target; handled = kn.handled; free = λ n le lt. kn.free n (omega (arith, le)) lt } in
      let free : AreFree o count g.what = (λ n lt. (let e : f.base + s.scope.free + n ≡ f.base + (s.scope.free + n) = omega arith in ap g.what e) ∙ kn.free (s.scope.free + n) (omega arith) (omega (arith, lt, room, many))) in
      let first : Bool = Values.is_in accumulator a in
      let second : Bool = Values.is_in value b in
      let (q, (k1, (k2, lr)), (jc, zc)) = stands_seq c from to (Emission.reducing s.scope ht accumulator value) (one s.scope (ht + 1) (i.CallTo (sub + 1) s.scope.free head)) stands in
      let (m1, l1, r1) = stands_seq c (from + 1 + 1) q (Emission.ranged s.scope ht s.scope.free accumulator) (Emission.ranged s.scope (ht + 1) (s.scope.free + 1) value ⨟ one s.scope (ht + 1 + 1) i.Min) lr in
      let (m2, l2, (jm, zm)) = stands_seq c m1 q (Emission.ranged s.scope (ht + 1) (s.scope.free + 1) value) (one s.scope (ht + 1 + 1) i.Min) r1 in
      let goes : (z : stored.State) (d : Dyn) → Fit g2 z d → To limit c (on fk (from + 1 + 1) st d) (on fk q (bit (first && second) ∷ st) d) = (λ z d w.
      comes_on limit c (ranged_goes fk ht (from + 1 + 1) m1 s.scope.free a accumulator st d w kept0 l1)
      (comes_on limit c (ranged_goes fk (ht + 1) m1 m2 (s.scope.free + 1) b value (bit first ∷ st) d w kept1 l2)
      (subst (λ n. To limit c (on fk m2 (bit second ∷ bit first ∷ st) d) (on fk n (bit (first && second) ∷ st) d)) (sym zm)
      (comes_goes limit c fk (bit second ∷ bit first ∷ st) (m2 + 1) (bit (first && second) ∷ st) d jm (ap (λ v. GoesOn (m2 + 1) (v ∷ (st ++ fk.below))) (min_bits first second)))))) in
      does_keep limit c fk x from (s.scope.free + 1) b (a ∷ st) (own_free _ free1) (at_entry en k1)
      (does_keep limit c fk x (from + 1) s.scope.free a st (own_free _ free0') (at_entry en k2)
      (does_by limit c fk x goes
      (does_first limit c fk x (λ n y p e. inl (alike n ∙ e)) (λ z d w. (d, fit_alike (scattering o (pieces ps) g).what alike w, comes_here limit c (on fk q (bit (first && second) ∷ st) d)))
      (also_then limit c fk x {h = scattering o (aheads ps) g} {j = g} {k = λ r. stored.ret r.value} (λ z d w. fit_unscattered o count (aheads ps) g (aheads_in count ps have) free w)
      ((calls_do.called f.rounds).by x t sub s.scope.free q head (bit (first && second) ∷ st) st parts (BothChecked token first second) ps (record { unit = u.unit; is = u.is; outer = u.outer; main = u.main }) kt (omega (arith, many)) room suited free (checked_call (first && second) st (at_entry en jc)))
      (λ r z d fit _. (
        g,
        fit_unscattered o count (aheads ps) g (aheads_in count ps have) free fit,
        (λ ts al. allows_fewer limit c fk x (scattering o (pieces ps) g) g ts (fewer_scattered limit c fk x o count (pieces ps) g (pieces_in count ps have) free) al),
        subst (λ p. Runs limit c fk x g any (stored.ret r.value) (λ d. on fk head (given p r.value ++ st) d) (λ v d. on fk head (v ∷ st) d)) (sym gives) (does_ret limit c fk x {to = λ v d. on fk head (v ∷ st) d} r.value tt),
      ))))))

  -- all that are kept, from the left
  pub function_combines : (head to : ℕ) → Stands c (Emission.combined s.scope ht by) head to → (more : List ℤ) (a : ℤ) → Runs limit c f x g any (onto stored.doings a more combining) (λ d. on (with_kept more f) head (a ∷ st) d) (λ v d. on f to (v ∷ st) d)
  function_combines head to stands more a =
      let checked : Emit = Emission.reducing s.scope ht accumulator value ⨟ one s.scope (ht + 1) (i.CallTo (sub + 1) s.scope.free head) in
      let (m1, (jp, zp), rest) = stands_seq c head to (one s.scope (ht + 1) i.Part) (when_ s.scope (ht + 1 + 1) checked ⨟ one s.scope (ht + 1 + 1) i.Pop) stands in
      let (m2, lw, (jq, zq)) = stands_seq c m1 to (when_ s.scope (ht + 1 + 1) checked) (one s.scope (ht + 1 + 1) i.Pop) rest in
      let (jf, lb) = stands_when c m1 m2 s (ht + 1 + 1) checked lw in
      go m1 m2 jp zp jf lb jq zq more a
    where
      go : (m1 m2 : ℕ) → At c head i.Part s.scope.entry → m1 ≡ head + 1 → At c m1 (i.JFalse m2) s.scope.entry
          → Stands c (Emission.reducing s.scope ht accumulator value ⨟ one s.scope (ht + 1) (i.CallTo (sub + 1) s.scope.free head)) (m1 + 1) m2 → At c m2 i.Pop s.scope.entry → to ≡ m2 + 1
          → (more : List ℤ) (a : ℤ) → Runs limit c f x g any (onto stored.doings a more combining) (λ d. on (with_kept more f) head (a ∷ st) d) (λ v d. on f to (v ∷ st) d)
      go m1 m2 jp zp jf lb jq zq [] a =
          let fk : Fixed = with_kept [] f in
          let same : fk ≡ f = ap (λ vs. with_kept vs f) (sym kn.kept) in
          does_before limit c f x (λ d.
          comes_on limit c (subst (λ q. To limit c (on fk head (a ∷ st) d) (on fk q (pos 0 ∷ pos 0 ∷ a ∷ st) d)) (sym zp) (comes_as limit c fk (a ∷ st) d jp refl))
          (comes_on limit c (comes_goes limit c fk (pos 0 ∷ pos 0 ∷ a ∷ st) m2 (pos 0 ∷ a ∷ st) d jf refl)
          (subst (λ q. To limit c (on fk m2 (pos 0 ∷ a ∷ st) d) (on f q (a ∷ st) d)) (sym zq)
          (subst (λ y. To limit c (on fk m2 (pos 0 ∷ a ∷ st) d) (on y (m2 + 1) (a ∷ st) d)) same (comes_goes limit c fk (pos 0 ∷ a ∷ st) (m2 + 1) (a ∷ st) d jq refl)))))
          (does_ret limit c f x {to = λ v d. on f to (v ∷ st) d} a tt)
      go m1 m2 jp zp jf lb jq zq (b ∷ more) a =
          let fk : Fixed = with_kept more f in
          does_before limit c f x (λ d.
          comes_on limit c (subst (λ q. To limit c (on (with_kept (b ∷ more) f) head (a ∷ st) d) (on fk q (pos 1 ∷ b ∷ a ∷ st) d)) (sym zp) (comes_as limit c (with_kept (b ∷ more) f) (a ∷ st) d jp refl))
          (comes_goes limit c fk (pos 1 ∷ b ∷ a ∷ st) (m1 + 1) (b ∷ a ∷ st) d jf refl))
          (does_bind limit c f x (does_inside limit c f x fk refl refl (left_kept limit c f x more) (step_does more a b head (m1 + 1) m2 lb)) (λ v _. go m1 m2 jp zp jf lb jq zq more v))
