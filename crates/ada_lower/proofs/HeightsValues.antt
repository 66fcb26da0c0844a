-- The code of expressions, values, aggregates, actual parameters and iterations: its heights fit.
use Rattle.std.proofs.Common.{◌≡◌, ℕ, zero, suc, ◌+◌, ◌-◌, ◌*◌, ◌<◌, ◌≤◌, min, ℤ, pos, ◌-ℤ◌, ◌&&◌, List, [], ◌∷◌, slice_get, nat_eq, nat_lt, Option, Some, None, Bool, true, false, cond, refl, sym, ap, ap₂, ◌∙◌, subst, arith, suc-mul, zero-mul, eqb-true, ltb-true, inr}
use Rattle.std.specs.Prelude.{IsSomeAnd}
use Rattle.std.proofs.lemmas.Bool.{eqb-false}
use Rattle.behaviours.specs.Paths.{Entity, VariableOf, ConstantOf, entity_eq}
use Rattle.ada_base.specs.declared.operation.Comparison.TheVariants as comparison
use Rattle.typed_tree.specs.declared.scalars.Scalar.{Scalar}
use Rattle.typed_tree.specs.declared.expressions.Run.{Run}
use Rattle.typed_tree.specs.declared.expressions.Root.{Root}
use Rattle.typed_tree.specs.declared.expressions.Reducer.{Reducer}
use Rattle.typed_tree.specs.declared.expressions.Reducer.TheVariants.{Operator, Function}
use Rattle.typed_tree.specs.Syntax.{Expr, Static, Variable, Constant, Parameter, Target, Group, Unary, Binary, AndThen, OrElse, Relation, Membership, If, Call, Convert, Reduction, Iteration, Range, Components, Chunk, NoChunk, Count, Each, Optional, Absent, Present, Selections, Whole, Field, Index, Actuals, NoActual, In as InMode, InOut, Out, CompositeInOut, CompositeOut, Value, Number, Cells, Composite, WholeVariable, WholeConstant, WholeTarget, CompositeIf, Aggregate, Associations, NoAssociation, Association, Program}
use Rattle.ada_base.specs.declared.operation.Base.TheVariants.{Wide}
use Rattle.stack_code.specs.declared.code.Around.{Around as Body}
use Rattle.stack_code.specs.declared.code.Around.TheVariants.{Site}
use Rattle.stack_code.specs.declared.code.Code.{Code}
use Rattle.stack_code.specs.declared.code.SiteKind.{SiteKind}
use Rattle.stack_code.specs.declared.instr.Instr.TheVariants as i
use Rattle.stack_code.specs.Operands.{answered_by, is_reduction}
use Rattle.stack_code.specs.Valid.{Has, IsThread, outward, around_of}
use Rattle.stack_code.proofs.Standing.{has_one}
use Rattle.stack_code.proofs.Lists.{has_map}
use Rattle.lower_emission.specs.Emits.{Emit}
use Rattle.lower_emission.specs.Scope.{Scope, own, taking, nested, thread_scope, with_parameter, with_item, root_of, constant_root_of, array_root_of, none, one, keep, looped, from, ◌⨟◌}
use Rattle.lower_emission.specs.Emission.{is_plain, is_repeated, Shape, lead, shapes, shapes_cells, formal_cell, address, folding, ranged, reducing, combined, leaving_by, first_parameter, range_scope, item_scope, doubled, filling, fillings, iterated_scope, turning, turnings, entering, entering_next, run_steps, run_turnings, turn_height, components_of, locating, locating_in, repeating, is_whole, chunk_scope, ends_code, reduction_kind, fork_code, turn_range, turn_component, cells_of, formals_in, formal_of, passing, composite_width, width, own_cell}
use Rattle.lower_emission.specs.declared.types.Named.{Named}
unfoldable use Rattle.lower_emission.specs.Emission.{emit, named_value, selected, read, passed, put_into, composed, associated, component, filtered, iterated, chunk_code, course_code, threaded}
use Rattle.ada_lower.specs.Ready.{RunsIn, Calls, ReadyReducer, ReadyExpr, ReadyOptional, ReadySelections, ReadyActuals, ReadyValue, ReadyComposite, ReadyAssociations, ReadyIteration, ReadyChunk}
use Rattle.lower_emission.proofs.OwnCells.{emit_own}
use Rattle.ada_lower.proofs.Heights.{Place, Here, Behind, up, Also, In, Told, Kept, Firm}
use Rattle.ada_lower.proofs.HeightsScopes.{at, Known, Fits, in_le, known_taking, known_nested, known_more, known_parameter, known_item, known_leaving, known_thread, known_chunk, plain, firm_own, firm_local, kept_next, firm_keep, firm_keep_checked, firm_cond, firm_indexed, firm_item, firm_named, firm_where, firm_address, root_fits, constant_root_fits, array_root_fits, firm_component_address, firm_component_value, firm_unary, firm_binary, firm_operated, firm_compare, firm_within, firm_negated, firm_checked, firm_bounds, firm_ascending, firm_raise_above, firm_raise_beyond, firm_counting, firm_call, firm_call_back, firm_stepping}
use Rattle.ada_meaning.specs.Meaning.{most_threads}

-- ---- scopes that differ in names alone

abbrev pub Same : Scope → Scope → Type 0
Same v u = (u.body ≡ v.body) × (u.nest ≡ v.nest) × (u.leaving ≡ v.leaving) × ((n : ℕ) → u.exits n ≡ v.exits n)

pub at_same : (v u : Scope) (h : ℕ) → Same v u → at u h ≡ at v h
at_same v u h w = ap₂ (λ b n. Here b h n) w.0 w.1

pub chunk_same : (chunk : Chunk) (s : Scope) → Same s (chunk_scope chunk s)
chunk_same NoChunk s = (refl, refl, refl, (λ n. refl))
chunk_same (Count e) s = (refl, refl, refl, (λ n. refl))
chunk_same (Each p low high check) s = (refl, refl, refl, (λ n. refl))

pub leaving_same : (number : Option ℕ) (x : ℕ) (s u : Scope) → Same s u → Same (leaving_by number x s) (leaving_by number x u)
leaving_same None x s u w = w
leaving_same (Some number) x s u w = (w.0, w.1, w.2, (λ n. ap (λ o. cond (nat_eq number n) (Some x) o) (w.3 n)))

at_leaving : (number : Option ℕ) (x : ℕ) (s : Scope) (h : ℕ) → at (leaving_by number x s) h ≡ at s h
at_leaving None x s h = refl
at_leaving (Some number) x s h = refl

and_true : (a b : Bool) → (a && b) ≡ true → (a ≡ true) × (b ≡ true)
and_true true b e = (refl, e)
and_true false b e = absurd (only_false e)
  where
    only : Bool → Type 0
    only true = ⊥
    only false = Unit {0}

    only_false : false ≡ true → ⊥
    only_false e = subst only e tt

-- where a formal's cells begin, from a cell on
pub formal_moved : (hs : List Shape) (first : ℕ) (x : Entity) → formal_cell hs first x ≡ first + formal_cell hs 0 x
formal_moved [] first x = let z : first ≡ first + 0 = omega arith in z
formal_moved (h ∷ hs) first x =
    let a = formal_moved hs (first + lead h.back + h.cells) x in
    let b = formal_moved hs (0 + lead h.back + h.cells) x in
    go (entity_eq h.formal x) a b
  where
    go : (t : Bool) → formal_cell hs (first + lead h.back + h.cells) x ≡ first + lead h.back + h.cells + formal_cell hs 0 x → formal_cell hs (0 + lead h.back + h.cells) x ≡ 0 + lead h.back + h.cells + formal_cell hs 0 x
        → cond t first (formal_cell hs (first + lead h.back + h.cells) x) ≡ first + cond t 0 (formal_cell hs (0 + lead h.back + h.cells) x)
    go true a b = let z : first ≡ first + 0 = omega arith in z
    go false a b = let z : formal_cell hs (first + lead h.back + h.cells) x ≡ first + formal_cell hs (0 + lead h.back + h.cells) x = omega (arith, a, b) in z

module _ (c : Code) where
  -- ---- the threads of a construct

  pub told_around : (site : ℕ) (b : Body) (k : SiteKind) → Told c b k (i.Fork site) → around_of (slice_get c.sites site) ≡ Some b
  told_around site b k told = let (s, is, (around, four, kind)) = has_one (slice_get c.sites site) (λ s. (s.around ≡ b) × (4 ≤ s.frame) × (s.kind ≡ k)) told in ap around_of is ∙ ap Some around

  pub told_cells : (site : ℕ) (b : Body) (k : SiteKind) → Told c b k (i.Fork site) → In c (Site site) 3
  told_cells site b k told = has_map (slice_get c.sites site) (λ s. (s.around ≡ b) × (4 ≤ s.frame) × (s.kind ≡ k)) (λ s. 3 < s.frame) (λ s f. let z = f.1 in omega (arith, z)) told

  pub told_thread : (site : ℕ) (b : Body) (k : SiteKind) (reduces : Bool) → is_reduction k ≡ reduces → Told c b k (i.Fork site) → IsThread c (Site site) reduces
  told_thread site b k reduces e told = has_map (slice_get c.sites site) (λ s. (s.around ≡ b) × (4 ≤ s.frame) × (s.kind ≡ k)) (λ s. is_reduction s.kind ≡ reduces) (λ s f. ap is_reduction f.2 ∙ e) told

  -- the frame around has the cell
  pub told_far : (site : ℕ) (b : Body) (k : SiteKind) (n : ℕ) → Told c b k (i.Fork site) → In c b n → IsSomeAnd (outward c (Some (Site site)) 1) (λ b. In c b n)
  told_far site b k n told r = subst (λ o. IsSomeAnd (outward c o 0) (λ b. In c b n)) (sym (told_around site b k told)) r

  pub firm_fork : (l : ℕ → Place → Type 0) (v : Scope) → Known c l v → (h left : ℕ) (what : SiteKind) (site d : ℕ) (initial body : Emit) → In c v.body d → In c v.body (d + 1) → 1 ≤ v.nest → up h (cond (is_reduction what) 1 2) ≡ left
      → Firm c l initial (at v (h + 1 + 1 + 1 + 1)) (at v (h + 1 + 1 + 1 + 1 + 1)) → Firm c l body (Here (Site site) 0 0) (at v left) → Told c v.body what (i.Fork site) → Firm c l (fork_code v h left what site d initial body) (at v (h + 1 + 1)) (at v left)
  firm_fork l v k h left what site d initial body rd rd' begun enough fi fb told =
      let (s, is, (around, four, kind)) = has_one (slice_get c.sites site) (λ s. (s.around ≡ v.body) × (4 ≤ s.frame) × (s.kind ≡ what)) told in
      let e : answered_by (slice_get c.sites site) ≡ cond (is_reduction what) 1 2 = ap answered_by is ∙ ap (λ k. cond (is_reduction k) 1 2) kind in (
        at v (h + 1 + 1 + 1),
        firm_own c l v k (h + 1 + 1) d rd,
        (
          at v (h + 1 + 1 + 1 + 1),
          firm_own c l v k (h + 1 + 1 + 1) (d + 1) rd',
          (
            at v (h + 1 + 1 + 1 + 1 + 1),
            fi,
            (
              Behind site v.body left v.nest,
              record {
                here = refl;
                marked = k.entry;
                base = h;
                operands = refl;
                begun = begun;
                ways = ap (λ n. Behind site v.body n v.nest) (sym (ap (λ n. up h n) e ∙ enough));
                belongs = λ q. has_map (slice_get c.sites site) (λ s. (s.around ≡ v.body) × (4 ≤ s.frame) × (s.kind ≡ what)) (λ s. s.around ≡ v.body) (λ s f. f.0) told;
              },
              (site, refl, k.entry, refl, fb),
            ),
          ),
        ),
      )

  pub firm_nest : (l : ℕ → Place → Type 0) (s : Scope) → Known c l s → (h : ℕ) → Firm c l (one s h i.Nest) (at s h) (at (nested s) h)
  firm_nest l s k h = record { here = refl; marked = k.entry; base = h; operands = refl; begun = omega arith; ways = refl; belongs = λ q. tt }

  pub firm_unnest : (l : ℕ → Place → Type 0) (s : Scope) → Known c l s → (h : ℕ) → Firm c l (one (nested s) h i.Unnest) (at (nested s) h) (at s h)
  firm_unnest l s k h = record { here = refl; marked = k.entry; base = h; operands = refl; begun = omega arith; ways = (let z : s.nest ≡ s.nest + 1 - 1 = omega arith in ap (λ n. Here s.body h n) z); belongs = λ q. tt }

  -- ---- runs of aggregates

  pub firm_doubled : (l : ℕ → Place → Type 0) (s : Scope) → Known c l s → (h first size steps done count : ℕ) → ((j : ℕ) → j < count → first + j * size ≤ s.free) → Kept c (doubled s h first size steps done count) → Firm c l (doubled s h first size steps done count) (at s h) (at s h)
  firm_doubled l s k h first size zero done count inside r = refl
  firm_doubled l s k h first size (suc steps) done count inside r = go (nat_lt done count) refl r (λ r. firm_doubled l s k h first size steps (done + min done (count - done)) count inside r)
    where
      go : (b : Bool) → nat_lt done count ≡ b → Kept c (cond b ((one s h (i.Local (first + done * size)) ⨟ one s (h + 1) (i.Local first) ⨟ one s (h + 1 + 1) (i.Copy (min done (count - done) * size))) ⨟ doubled s h first size steps (done + min done (count - done)) count) none)
          → (Kept c (doubled s h first size steps (done + min done (count - done)) count) → Firm c l (doubled s h first size steps (done + min done (count - done)) count) (at s h) (at s h))
          → Firm c l (cond b ((one s h (i.Local (first + done * size)) ⨟ one s (h + 1) (i.Local first) ⨟ one s (h + 1 + 1) (i.Copy (min done (count - done) * size))) ⨟ doubled s h first size steps (done + min done (count - done)) count) none) (at s h) (at s h)
      go true e (r, r') rest =
          let less : done < count = ltb-true done count e in
          let far = inside done less in
          let near = inside 0 (omega (arith, less)) in
          let room : In c s.body s.free = r.0.0 in
          (at s h, (at s (h + 1), firm_local c l s k h (first + done * size) (in_le c s.body (first + done * size) s.free far room), (at s (h + 1 + 1), firm_local c l s k (h + 1) first (in_le c s.body first s.free (omega (arith, near, zero-mul size)) room), plain c l s k h (i.Copy (min done (count - done) * size)) tt)), rest r')
      go false e r rest = refl

  module _ (l : ℕ → Place → Type 0) (s : Scope) (k : Known c l s) (room : In c s.body s.free) where
    firm_filling : (h n size : ℕ) (value : ℕ → Emit) (count first stride : ℕ) → ((j : ℕ) → j < count → first + j * stride + size ≤ n) → ((m : ℕ) → m + size ≤ n → Kept c (value m) → Firm c l (value m) (at s h) (at s h)) → Kept c (filling value count first stride) → Firm c l (filling value count first stride) (at s h) (at s h)
    firm_filling h n size value zero first stride inside f r = refl
    firm_filling h n size value (suc count) first stride inside f (r, r') =
        let here = inside 0 (omega arith) in
        (at s h, f first (omega (arith, here, zero-mul stride)) r, firm_filling h n size value count (first + stride) stride (λ j lt. let z = inside (suc j) (omega (arith, lt)) in omega (arith, z, suc-mul j stride)) f r')

    pub firm_fillings : (h t n size : ℕ) (flat : Bool) (value : ℕ → Emit) (rs : List Run) → t + n ≤ s.free → RunsIn n size rs → ((m : ℕ) → m + size ≤ n → Kept c (value m) → Firm c l (value m) (at s h) (at s h)) → Kept c (fillings s h t size flat value rs) → Firm c l (fillings s h t size flat value rs) (at s h) (at s h)
    firm_fillings h t n size flat value [] inside runs f r = refl
    firm_fillings h t n size flat value (q ∷ rs) inside (run, runs) f (r, r') = (at s h, go (flat && (nat_lt 1 q.count && nat_eq q.stride size)) refl r, firm_fillings h t n size flat value rs inside runs f r')
      where
        go : (b : Bool) → (flat && (nat_lt 1 q.count && nat_eq q.stride size)) ≡ b → Kept c (cond b (value q.first ⨟ doubled s h (t + q.first) size q.count 1 q.count) (filling value q.count q.first q.stride))
            → Firm c l (cond b (value q.first ⨟ doubled s h (t + q.first) size q.count 1 q.count) (filling value q.count q.first q.stride)) (at s h) (at s h)
        go true e (r, r') =
            let (some, same) = and_true (nat_lt 1 q.count) (nat_eq q.stride size) (and_true flat (nat_lt 1 q.count && nat_eq q.stride size) e).1 in
            let less : 1 < q.count = ltb-true 1 q.count some in
            let stride : q.stride ≡ size = eqb-true q.stride size same in
            let here = run 0 (omega (arith, less)) in
            (at s h, f q.first (omega (arith, here, zero-mul q.stride)) r, firm_doubled l s k h (t + q.first) size q.count 1 q.count (λ j lt. let z : q.first + j * size + size ≤ n = subst (λ m. q.first + j * m + size ≤ n) stride (run j lt) in omega (arith, z, inside)) r')
        go false e r = firm_filling h n size value q.count q.first q.stride run f r

    firm_turning : (h t : ℕ) (low : ℤ) (part : Emit) (count first stride : ℕ) → t + first ≤ s.free → ((x : ℕ) → In c s.body (s.free + 1 + 1) → Kept c part → Firm c (Also l x (at s h)) part (at s h) (at s h))
        → Kept c (turning s h t low part count first stride) → Firm c l (turning s h t low part count first stride) (at s h) (at s h)
    firm_turning h t low part count first stride inside f (r1, (r2, (r3, (r4, (r5, (r6, r7)))))) =
        let all : In c s.body (s.free + 1 + 1 + 1) = kept_next c l s k (s.free + 1 + 1) r6.0 in
        let c0 : In c s.body s.free = in_le c s.body s.free (s.free + 1 + 1 + 1) (omega arith) all in
        let c1 : In c s.body (s.free + 1) = in_le c s.body (s.free + 1) (s.free + 1 + 1 + 1) (omega arith) all in
        let c2 : In c s.body (s.free + 1 + 1) = in_le c s.body (s.free + 1 + 1) (s.free + 1 + 1 + 1) (omega arith) all in
        (at s (h + 1), plain c l s k h (i.Push _) tt, (at s h, firm_keep c l s k h s.free r2, (at s (h + 1), plain c l s k h (i.Push _) tt, (at s h, firm_keep c l s k h (s.free + 1) r4, (at s (h + 1), firm_local c l s k h (t + first) (in_le c s.body (t + first) s.free inside room), (at s h, firm_keep c l s k h (s.free + 1 + 1) r6, (refl, k.entry, refl, (λ x kx. (at s h, plain c (Also l x (at s h)) s (known_more c l s x (at s h) k) h i.Turn tt, f x c2 kx.1)), (λ x kx. firm_stepping c l s k h (s.free + 1 + 1) stride s.free x c2 c0 c1 kx))))))))

    firm_entering : (h t : ℕ) (low : ℤ) (count first : ℕ) → t + first ≤ s.free → Kept c (entering s h t low count first) → Firm c l (entering s h t low count first) (at s h) (at s h)
    firm_entering h t low count first inside (r1, (r2, (r3, (r4, (r5, r6))))) =
        (at s (h + 1), plain c l s k h (i.Push _) tt, (at s h, firm_keep c l s k h s.free r2, (at s (h + 1), plain c l s k h (i.Push _) tt, (at s h, firm_keep c l s k h (s.free + 1) r4, (at s (h + 1), firm_local c l s k h (t + first) (in_le c s.body (t + first) s.free inside room), firm_keep c l s k h (s.free + 1 + 1) r6)))))

    run_first : (t n size : ℕ) (q : Run) → t + n ≤ s.free → ((j : ℕ) → j < q.count → q.first + j * q.stride + size ≤ n) → nat_eq q.count 0 ≡ false → t + q.first ≤ s.free
    run_first t n size q inside run e =
        let here = run 0 (above q.count (eqb-false q.count 0 e)) in omega (arith, here, inside, zero-mul q.stride)
      where
        above : (n : ℕ) → (n ≡ 0 → ⊥) → 0 < n
        above zero apart = absurd (apart refl)
        above (suc n) apart = omega arith

    firm_next : (h t n size : ℕ) (low : ℤ) (head m : ℕ) (rs : List Run) → t + n ≤ s.free → RunsIn n size rs → l head (at s (h + 1)) → Kept c (entering_next s h t low head m rs) → Firm c l (entering_next s h t low head m rs) (at s (h + 1)) (at s (h + 1))
    firm_next h t n size low head m [] inside runs to r = refl
    firm_next h t n size low head m (q ∷ rs) inside (run, runs) to r = go (nat_eq q.count 0) refl r (λ r. firm_next h t n size low head (m + 1) rs inside runs to r)
      where
        go : (b : Bool) → nat_eq q.count 0 ≡ b → Kept c (cond b (entering_next s h t low head (m + 1) rs) (one s (h + 1) i.Pop ⨟ one s h (i.Push (pos m)) ⨟ entering s (h + 1) t low q.count q.first ⨟ one s (h + 1) (i.Jump head)))
            → (Kept c (entering_next s h t low head (m + 1) rs) → Firm c l (entering_next s h t low head (m + 1) rs) (at s (h + 1)) (at s (h + 1)))
            → Firm c l (cond b (entering_next s h t low head (m + 1) rs) (one s (h + 1) i.Pop ⨟ one s h (i.Push (pos m)) ⨟ entering s (h + 1) t low q.count q.first ⨟ one s (h + 1) (i.Jump head))) (at s (h + 1)) (at s (h + 1))
        go true e r skips = skips r
        go false e (r1, (r2, (r3, r4))) skips =
            (at s h, plain c l s k h i.Pop tt, (at s (h + 1), plain c l s k h (i.Push (pos m)) tt, (at s (h + 1), firm_entering (h + 1) t low q.count q.first (run_first t n size q inside run e) r3, record { here = refl; marked = k.entry; base = h + 1; operands = refl; begun = omega arith; ways = to; belongs = λ q. tt })))

  module _ (l : ℕ → Place → Type 0) (s : Scope) (k : Known c l s) (room : In c s.body s.free) where
    firm_steps : (h t n size : ℕ) (low : ℤ) (head m : ℕ) (rs : List Run) → t + n ≤ s.free → RunsIn n size rs → In c s.body s.free → In c s.body (s.free + 1) → In c s.body (s.free + 1 + 1) → Kept c (run_steps s h t low head m rs)
        → Firm c (Also l head (at s (h + 1))) (run_steps s h t low head m rs) (at s (h + 1)) (at s (h + 1))
    firm_steps h t n size low head m [] inside runs c0 c1 c2 r = refl
    firm_steps h t n size low head m (q ∷ rs) inside (run, runs) c0 c1 c2 ((r1, (r2, (r3, (r4, (r5, r6))))), r7) =
        let l' : (ℕ → Place → Type 0) = Also l head (at s (h + 1)) in
        let k' : Known c l' s = known_more c l s head (at s (h + 1)) k in (
          at s (h + 1),
          (
            at s (h + 1 + 1),
            plain c l' s k' h i.Dup tt,
            (
              at s (h + 1 + 1 + 1),
              plain c l' s k' (h + 1 + 1) (i.Push (pos m)) tt,
              (
                at s (h + 1 + 1),
                plain c l' s k' (h + 1) i.Eq tt,
                (refl, k'.entry, refl, (at s (h + 1), firm_stepping c l s k (h + 1) (s.free + 1 + 1) q.stride s.free head c2 c0 c1 r5, firm_next l' s k' room h t n size low head (m + 1) rs inside runs (inr (refl, refl)) r6)),
              ),
            ),
          ),
          firm_steps h t n size low head (m + 1) rs inside runs c0 c1 c2 r7,
        )

    firm_runs : (h t n size : ℕ) (low : ℤ) (part : Emit) (m : ℕ) (rs : List Run) → t + n ≤ s.free → RunsIn n size rs → ((x : ℕ) → In c s.body (s.free + 1 + 1) → Kept c part → Firm c (Also l x (at s (h + 1))) part (at s (h + 1)) (at s (h + 1)))
        → Kept c (run_turnings s h t low part m rs) → Firm c l (run_turnings s h t low part m rs) (at s h) (at s h)
    firm_runs h t n size low part m [] inside runs f r = refl
    firm_runs h t n size low part m (q ∷ rs) inside (run, runs) f r = go (nat_eq q.count 0) refl r (λ r. firm_runs h t n size low part (m + 1) rs inside runs f r)
      where
        whole : Emit
        whole = one s h (i.Push (pos m)) ⨟ entering s (h + 1) t low q.count q.first ⨟ looped s (h + 1) true (λ exit. one s (h + 1) i.Turn ⨟ part) (λ head. run_steps s h t low head m (q ∷ rs)) ⨟ one s (h + 1) i.Pop

        go : (b : Bool) → nat_eq q.count 0 ≡ b → Kept c (cond b (run_turnings s h t low part (m + 1) rs) whole) → (Kept c (run_turnings s h t low part (m + 1) rs) → Firm c l (run_turnings s h t low part (m + 1) rs) (at s h) (at s h)) → Firm c l (cond b (run_turnings s h t low part (m + 1) rs) whole) (at s h) (at s h)
        go true e r skips = skips r
        go false e (r1, ((e1, (e2, (e3, (e4, (e5, e6))))), (r3, r4))) skips =
            let all : In c s.body (s.free + 1 + 1 + 1) = kept_next c l s k (s.free + 1 + 1) e6.0 in
            let c0 : In c s.body s.free = in_le c s.body s.free (s.free + 1 + 1 + 1) (omega arith) all in
            let c1 : In c s.body (s.free + 1) = in_le c s.body (s.free + 1) (s.free + 1 + 1 + 1) (omega arith) all in
            let c2 : In c s.body (s.free + 1 + 1) = in_le c s.body (s.free + 1 + 1) (s.free + 1 + 1 + 1) (omega arith) all in (
              at s (h + 1),
              plain c l s k h (i.Push (pos m)) tt,
              (
                at s (h + 1),
                firm_entering l s k room (h + 1) t low q.count q.first (run_first l s k room t n size q inside run e) (e1, (e2, (e3, (e4, (e5, e6))))),
                (
                  at s (h + 1),
                  (refl, k.entry, refl, (λ x kx. (at s (h + 1), plain c (Also l x (at s (h + 1))) s (known_more c l s x (at s (h + 1)) k) (h + 1) i.Turn tt, f x c2 kx.1)), (λ x kx. firm_steps h t n size low x m (q ∷ rs) inside (run, runs) c0 c1 c2 kx)),
                  plain c l s k h i.Pop tt,
                ),
              ),
            )

    pub firm_turnings : (h t n size : ℕ) (low : ℤ) (part : Emit) (rs : List Run) → t + n ≤ s.free → RunsIn n size rs → ((x : ℕ) → In c s.body (s.free + 1 + 1) → Kept c part → Firm c (Also l x (at s (turn_height rs h))) part (at s (turn_height rs h)) (at s (turn_height rs h)))
        → Kept c (turnings s h t low part rs) → Firm c l (turnings s h t low part rs) (at s h) (at s h)
    firm_turnings h t n size low part [] inside runs f r = refl
    firm_turnings h t n size low part (q ∷ []) inside (run, runs) f r = go (nat_eq q.count 0) refl r
      where
        go : (b : Bool) → nat_eq q.count 0 ≡ b → Kept c (cond b none (turning s h t low part q.count q.first q.stride)) → Firm c l (cond b none (turning s h t low part q.count q.first q.stride)) (at s h) (at s h)
        go true e r = refl
        go false e r = firm_turning l s k room h t low part q.count q.first q.stride (run_first l s k room t n size q inside run e) f r
    firm_turnings h t n size low part (q ∷ p ∷ rs) inside runs f r = firm_runs h t n size low part 0 (q ∷ p ∷ rs) inside runs f r

    -- ---- parts that are repeated

    firm_locating : (h t n size m : ℕ) (q : Run) → t + n ≤ s.free → ((j : ℕ) → j < q.count → q.first + j * q.stride + size ≤ n) → Kept c (locating s h t m q) → Firm c l (locating s h t m q) (at s h) (at s h)
    firm_locating h t n size m q inside run r = go (nat_eq q.count 0) refl r
      where
        whole : Emit
        whole = one s h (i.Local (t + q.first)) ⨟ one s (h + 1) (i.LoadL s.free) ⨟ one s (h + 1 + 1) (i.Index (pos m) (pos (m + q.count) -ℤ pos 1) q.stride) ⨟ keep s (h + 1) (s.free + 1)

        go : (b : Bool) → nat_eq q.count 0 ≡ b → Kept c (cond b none whole) → Firm c l (cond b none whole) (at s h) (at s h)
        go true e r = refl
        go false e (r1, (r2, (r3, r4))) =
            (at s (h + 1), firm_local c l s k h (t + q.first) (in_le c s.body (t + q.first) s.free (run_first l s k room t n size q inside run e) room), (at s (h + 1 + 1), firm_own c l s k (h + 1) s.free room, (at s (h + 1), plain c l s k h (i.Index _ _ _) tt, firm_keep c l s k h (s.free + 1) r4)))

    firm_locating_in : (h t n size m : ℕ) (rs : List Run) → t + n ≤ s.free → RunsIn n size rs → Kept c (locating_in s h t m rs) → Firm c l (locating_in s h t m rs) (at s h) (at s h)
    firm_locating_in h t n size m [] inside runs r = refl
    firm_locating_in h t n size m (q ∷ []) inside (run, runs) r = firm_locating h t n size m q inside run r
    firm_locating_in h t n size m (q ∷ p ∷ rs) inside (run, runs) (r1, (r2, (r3, (r4, r5, r6)))) = (
      at s (h + 1),
      firm_own c l s k h s.free room,
      (at s (h + 1 + 1), plain c l s k (h + 1) (i.Push _) tt, (at s (h + 1), plain c l s k h i.Lt tt, (refl, k.entry, refl, firm_locating h t n size m q inside run r5, firm_locating_in h t n size (m + q.count) (p ∷ rs) inside runs r6))),
    )

  pub firm_repeating : (l : ℕ → Place → Type 0) (s : Scope) (k : Known c l s) (room : In c s.body s.free) (h t n size : ℕ) (part : Emit) (rs : List Run) → t + n ≤ s.free → RunsIn n size rs → ((x : ℕ) → In c s.body (s.free + 1) → Kept c part → Firm c (Also l x (at s h)) part (at s h) (at s h))
      → Kept c (repeating s h t part rs) → Firm c l (repeating s h t part rs) (at s h) (at s h)
  firm_repeating l s k room h t n size part rs inside runs f r = firm_cond c l s k (nat_eq (components_of rs) 0) none _ (at s h) (at s h) (λ r. refl) repeats r
    where
      round : ℕ → Emit
      round head = locating_in s h t 0 rs ⨟ part ⨟ one s h (i.LoadL s.free) ⨟ one s (h + 1) (i.AddI (pos 1) Wide) ⨟ keep s (h + 1) s.free ⨟ one s h (i.Again head)

      whole : Emit
      whole = one s h (i.Push (pos 0)) ⨟ keep s (h + 1) s.free ⨟ one s h (i.Repeat (components_of rs)) ⨟ from (λ head. round head)

      repeats : Kept c whole → Firm c l whole (at s h) (at s h)
      repeats (r1, (r2, (r3, r4))) = (at s (h + 1), plain c l s k h (i.Push _) tt, (at s h, firm_keep c l s k h s.free r2, (at s h, record { here = refl; marked = k.entry; base = h; operands = refl; begun = omega arith; ways = refl; belongs = λ q. tt }, rounds)))
        where
          rounds : (x : ℕ) → Kept c (round x) → Firm c (Also l x (at s h)) (round x) (at s h) (at s h)
          rounds x (a1, (a2, (a3, (a4, (a5, a6))))) =
              let l' : ℕ → Place → Type 0 = Also l x (at s h) in
              let k' : Known c l' s = known_more c l s x (at s h) k in (
                at s h,
                firm_locating_in l' s k' room h t n size 0 rs inside runs a1,
                (at s h, f x (kept_next c l s k s.free r2.0) a2, (at s (h + 1), firm_own c l' s k' h s.free room, (at s (h + 1), plain c l' s k' h (i.AddI (pos 1) Wide) tt, (at s h, firm_keep c l' s k' h s.free a5, record { here = refl; marked = k'.entry; base = h; operands = refl; begun = omega arith; ways = (inr (refl, refl), refl); belongs = λ q. tt })))),
              )

-- what is done in turns, in a scope that differs in names
abbrev pub FirmTurns : Code → (ℕ → Place → Type 0) → Scope → Option ℕ → Place → (Scope → Emit) → Type 0
FirmTurns c l s number P body = (x : ℕ) (u : Scope) → Same (leaving_by number x s) u → Known c (Also l x P) u → Kept c (body u) → Firm c (Also l x P) (body u) P P

first_below : (reverse : Bool) (n : ℕ) → first_parameter reverse n ≤ n + 2
first_below true n = omega arith
first_below false n = omega arith

module _ (c : Code) (program : Program) (subs : (sub : ℕ) (gives : Bool) → Calls program sub gives → Has c.subs (sub + 1) (λ u. (u.takes ≡ 0) × (u.gives ≡ gives))) where
  firm_folding : (l : ℕ → Place → Type 0) (s : Scope) (h : ℕ) (by : Reducer) → ReadyReducer program by → Known c l s → Kept c (folding s h by) → Firm c l (folding s h by) (at s (h + 1 + 1)) (at s (h + 1))
  firm_folding l s h (Operator a o class) w k r = firm_binary c l s k h o class
  firm_folding l s h (Function a sub accumulator value) w k (r1, (r2, (r3, (r4, (r5, r6))))) =
      let all : In c s.body (s.free + 1 + 1) = kept_next c l s k (s.free + 1) r1.0 in
      (at s (h + 1), firm_keep c l s k (h + 1) (s.free + 1) r1, (at s h, firm_keep_checked c l s k h s.free accumulator r2, (at s (h + 1), firm_own c l s k h (s.free + 1) (in_le c s.body (s.free + 1) (s.free + 1 + 1) (omega arith) all), (at s (h + 1), firm_checked c l s k h value, (at s h, plain c l s k h i.Pop tt, firm_call c l s k h sub s.free true (subs sub true w))))))

  firm_ranged : (l : ℕ → Place → Type 0) (s : Scope) → Known c l s → (h n : ℕ) (subtype : Scalar) → In c s.body n → Firm c l (ranged s h n subtype) (at s h) (at s (h + 1))
  firm_ranged l s k h n subtype r =
      (at s (h + 1), firm_own c l s k h n r, (at s (h + 1 + 1), plain c l s k (h + 1) (i.Push subtype.low) tt, (at s (h + 1), firm_compare c l s k h comparison.AtLeast subtype.class, (at s (h + 1 + 1), firm_own c l s k (h + 1) n r, (at s (h + 1 + 1 + 1), plain c l s k (h + 1 + 1) (i.Push subtype.high) tt, (at s (h + 1 + 1), firm_compare c l s k (h + 1) comparison.AtMost subtype.class, plain c l s k h i.Min tt))))))

  firm_combined : (l : ℕ → Place → Type 0) (s : Scope) (h : ℕ) (by : Reducer) → ReadyReducer program by → Known c l s → Firm c l (combined s h by) (at s (h + 1)) (at s (h + 1))
  firm_combined l s h (Operator a o class) w k = refl
  firm_combined l s h (Function a sub accumulator value) w k = λ x r.
      let (r1, ((r2, ((f1, (f2, f3)), r3)), r4)) = r in
      let l' : ℕ → Place → Type 0 = Also l x (at s (h + 1)) in
      let k' : Known c l' s = known_more c l s x (at s (h + 1)) k in
      let all : In c s.body (s.free + 1 + 1) = kept_next c l s k (s.free + 1) f1.0 in
      let first : In c s.body s.free = in_le c s.body s.free (s.free + 1 + 1) (omega arith) all in
      let second : In c s.body (s.free + 1) = in_le c s.body (s.free + 1) (s.free + 1 + 1) (omega arith) all in
      let checks : Firm c l' (reducing s h accumulator value) (at s (h + 1 + 1)) (at s (h + 1)) =
      (at s (h + 1), firm_keep c l' s k' (h + 1) (s.free + 1) f1, (at s h, firm_keep c l' s k' h s.free f2, (at s (h + 1), firm_ranged l' s k' h s.free accumulator first, (at s (h + 1 + 1), firm_ranged l' s k' (h + 1) (s.free + 1) value second, plain c l' s k' h i.Min tt)))) in (
        at s (h + 1 + 1 + 1),
        plain c l' s k' (h + 1) i.Part tt,
        (at s (h + 1 + 1), (refl, k'.entry, refl, (at s (h + 1), checks, firm_call_back c l s k h sub s.free x (subs sub true w) (at s (h + 1 + 1)))), plain c l' s k' (h + 1) i.Pop tt),
      )

  -- what is kept of a construct's chunks, and of its course
  pub chunk_room : (l : ℕ → Place → Type 0) (s : Scope) (k : Known c l s) (h : ℕ) (chunk : Chunk) → Kept c (chunk_code program s h chunk) → In c s.body (s.free + 1 + 1)
  unfolding emit
  chunk_room l s k h NoChunk (r1, (r2, (r3, r4))) = kept_next c l s k (s.free + 1) r4.0
  chunk_room l s k h (Count e) (r1, (r2, (r3, (r4, (r5, (r6, r7)))))) = kept_next c l s k (s.free + 1) r6.0
  chunk_room l s k h (Each p low high check) (r1, (r2, (r3, (r4, r5)))) = kept_next c l s k (s.free + 1) r4.0

  pub course_room : (l : ℕ → Place → Type 0) (s : Scope) (k : Known c l s) (h : ℕ) (it : Iteration) → Kept c (course_code program s h it) → In c s.body s.free
  unfolding emit
  course_room l s k h (Range p reverse low high check filter) (r1, (r2, (r3, (r4, r5)))) = in_le c s.body s.free (s.free + 1) (omega arith) (kept_next c l s k s.free r2.0)
  course_room l s k h (Components p constant a r selections count stride dimensions filter) (r1, (r2, r3)) = in_le c s.body s.free (s.free + 1) (omega arith) (kept_next c l s k s.free r3.0)

  pub firm_ends : (l : ℕ → Place → Type 0) (s : Scope) (k : Known c l s) (h : ℕ) (it : Iteration) → Kept c (course_code program s h it) → Firm c l (ends_code s h it) (at s h) (at s (h + 1 + 1))
  unfolding emit
  firm_ends l s k h (Range p reverse low high check filter) (r1, (r2, (r3, (r4, r5)))) =
      let all : In c s.body (s.free + 1 + 1) = kept_next c l s k (s.free + 1) r4.0 in
      (at s (h + 1), firm_own c l s k h s.free (in_le c s.body s.free (s.free + 1 + 1) (omega arith) all), firm_own c l s k (h + 1) (s.free + 1) (in_le c s.body (s.free + 1) (s.free + 1 + 1) (omega arith) all))
  firm_ends l s k h (Components p constant a r selections count stride dimensions filter) w = (at s (h + 1), plain c l s k h (i.Push (pos 1)) tt, plain c l s k (h + 1) (i.Push (pos count)) tt)

  -- a value that goes to cells has them
  into_room : (l : ℕ → Place → Type 0) (s : Scope) (k : Known c l s) (h t : ℕ) (x : Composite) → Kept c (composed program s h t x) → In c s.body s.free
  unfolding emit
  into_room l s k h t (WholeVariable a r selections subtype) (r1, r2) = r1.0
  into_room l s k h t (WholeConstant a r selections subtype) (r1, r2) = r1.0
  into_room l s k h t (WholeTarget a subtype) (r1, r2) = r1.0
  into_room l s k h t (CompositeIf condition value otherwise) (r1, r2) = r2.0
  into_room l s k h t (Aggregate a size associations) (r1, r2) = r1.0

  -- a turn of a reduction
  firm_value : (l : ℕ → Place → Type 0) (x : ℕ) (u : Scope) (P : Place) (h : ℕ) (by : Reducer) (value : Emit) → ReadyReducer program by → P ≡ at u (h + 1) → Known c (Also l x P) u → (Kept c value → Firm c (Also l x P) value (at u (h + 1)) (at u (h + 1 + 1)))
      → Kept c (value ⨟ folding u h by) → Firm c (Also l x P) (value ⨟ folding u h by) P P
  firm_value l x u P h by value w e k f (r1, r2) =
      (at u (h + 1 + 1), subst (λ Q. Firm c (Also l x P) value Q (at u (h + 1 + 1))) (sym e) (f r1), subst (λ Q. Firm c (Also l x P) (folding u h by) (at u (h + 1 + 1)) Q) (sym e) (firm_folding (Also l x P) u h by w k r2))

  -- the threads of a reduction
  firm_reducing : (l : ℕ → Place → Type 0) (t : Scope) (site : ℕ) (chunk : Chunk) (turns : Emit) (Q : Place) → t.body ≡ Site site → t.nest ≡ 0 → Known c l t → In c (Site site) 3 → IsThread c (Site site) true
      → (Kept c turns → Firm c l turns (at (chunk_scope chunk (taking 2 t)) 1) (at (chunk_scope chunk (taking 2 t)) 1))
      → Kept c (one (chunk_scope chunk (taking 2 t)) 0 (i.LoadL 1) ⨟ turns ⨟ one (chunk_scope chunk (taking 2 t)) 1 i.EndV)
      → Firm c l (one (chunk_scope chunk (taking 2 t)) 0 (i.LoadL 1) ⨟ turns ⨟ one (chunk_scope chunk (taking 2 t)) 1 i.EndV) (Here (Site site) 0 0) Q
  firm_reducing l t site chunk turns Q eb en k four thread f (r1, (r2, r3)) =
      let cs : Scope = chunk_scope chunk (taking 2 t) in
      let kc : Known c l cs = known_chunk c l chunk (taking 2 t) (known_taking c l t 2 k) in
      let same : Same (taking 2 t) cs = chunk_same chunk (taking 2 t) in
      let eb' : cs.body ≡ Site site = same.0 ∙ eb in
      let begins : at cs 0 ≡ Here (Site site) 0 0 = ap₂ (λ b n. Here b 0 n) eb' (same.1 ∙ en) in
      let four' : In c cs.body 3 = subst (λ b. In c b 3) (sym eb') four in
      (at cs 1, subst (λ P. Firm c l (one cs 0 (i.LoadL 1)) P (at cs 1)) begins (firm_own c l cs kc 0 1 (in_le c cs.body 1 3 (omega arith) four')), (at cs 1, f r2, record { here = refl; marked = kc.entry; base = 0; operands = refl; begun = omega arith; ways = tt; belongs = λ q. subst (λ b. IsThread c b true) (sym eb') thread }))

  -- the cells of what is copied back, with its address ahead
  firm_back : (l : ℕ → Place → Type 0) (s : Scope) (h d : ℕ) (q : Root) (moved : Emit) (subtype : ℕ) → Known c l s → (Kept c moved → Firm c l moved (at s (h + 1 + 1)) (at s (h + 1 + 1)))
      → Kept c (one s h (i.Local (d + 1)) ⨟ address s (h + 1) (root_of s q) ⨟ moved ⨟ one s (h + 1 + 1) i.Dup ⨟ keep s (h + 1 + 1 + 1) d ⨟ one s (h + 1 + 1) (i.Copy (cells_of program subtype)))
      → Firm c l (one s h (i.Local (d + 1)) ⨟ address s (h + 1) (root_of s q) ⨟ moved ⨟ one s (h + 1 + 1) i.Dup ⨟ keep s (h + 1 + 1 + 1) d ⨟ one s (h + 1 + 1) (i.Copy (cells_of program subtype))) (at s h) (at s h)
  firm_back l s h d q moved subtype k f (r1, (r2, (r3, (r4, (r5, r6))))) =
      (at s (h + 1), firm_local c l s k h (d + 1) (kept_next c l s k d r5.0), (at s (h + 1 + 1), firm_address c l s k (h + 1) (root_of s q) (root_fits c l s k q) r2, (at s (h + 1 + 1), f r3, (at s (h + 1 + 1 + 1), plain c l s k (h + 1) i.Dup tt, (at s (h + 1 + 1), firm_keep c l s k (h + 1 + 1) d r5, plain c l s k h (i.Copy (cells_of program subtype)) tt)))))

  -- the values of an association without a parameter, in a part that is repeated or not
  firm_given : (repeated : Bool) (l : ℕ → Place → Type 0) (s : Scope) (h t n size : ℕ) (runs : List Run) (part : Emit) (flat : Bool) (value : ℕ → Emit) → RunsIn n size runs → Known c l s → t + n ≤ s.free → In c s.body s.free
      → ((y : ℕ) → In c s.body (s.free + 1) → Kept c part → Firm c (Also l y (at s h)) part (at s h) (at s h))
      → ((m : ℕ) → m + size ≤ n → Kept c (value m) → Firm c l (value m) (at s h) (at s h))
      → Kept c (cond repeated (repeating s h t part runs) (fillings s h t size flat value runs)) → Firm c l (cond repeated (repeating s h t part runs) (fillings s h t size flat value runs)) (at s h) (at s h)
  firm_given true l s h t n size runs part flat value lie k le room fc fi r = firm_repeating c l s k room h t n size part runs le lie fc r
  firm_given false l s h t n size runs part flat value lie k le room fc fi r = firm_fillings c l s k room h t n size flat value runs le lie fi r

  mutual
    unfolding emit

    pub firm_emit : (l : ℕ → Place → Type 0) (s : Scope) (h : ℕ) (x : Expr) → ReadyExpr program x → Known c l s → Kept c (emit program s h x) → Firm c l (emit program s h x) (at s h) (at s (h + 1))
    firm_emit l s h (Static a value literal mentions) w k r = plain c l s k h (i.Push value) tt
    firm_emit l s h (Variable a q selections scalar) w k r = firm_named_value l s h (root_of s q) selections (root_fits c l s k q) w k r
    firm_emit l s h (Constant a q selections scalar) w k r = firm_named_value l s h (constant_root_of s q) selections (constant_root_fits c l s k q) w k r
    firm_emit l s h (Parameter a j) w k r = firm_where c l s k h (s.parameter j) (k.parameter j) r
    firm_emit l s h (Target a scalar) w k r = firm_named c l s k h s.target k.target r
    firm_emit l s h (Group e) w k r = firm_emit l s h e w k r
    firm_emit l s h (Unary a g class e) w k (r1, r2) = (at s (h + 1), firm_emit l s h e w k r1, firm_unary c l s k h g class)
    firm_emit l s h (Binary a o class e f) w k (r1, r2) = (at s (h + 1), firm_emit l s h e w.0 k r1, firm_operated c l s k h o class f (emit program s (h + 1) f) (λ r. firm_emit l s (h + 1) f w.1 k r) r2)
    firm_emit l s h (AndThen e f) w k (r1, (r2, r3, r4)) = (at s (h + 1), firm_emit l s h e w.0 k r1, (refl, k.entry, refl, firm_emit l s h f w.1 k r3, plain c l s k h (i.Push (pos 0)) tt))
    firm_emit l s h (OrElse e f) w k (r1, (r2, r3, r4)) = (at s (h + 1), firm_emit l s h e w.0 k r1, (refl, k.entry, refl, plain c l s k h (i.Push (pos 1)) tt, firm_emit l s h f w.1 k r4))
    firm_emit l s h (Relation class o e f) w k (r1, (r2, r3)) = (at s (h + 1), firm_emit l s h e w.0 k r1, (at s (h + 1 + 1), firm_emit l s (h + 1) f w.1 k r2, firm_compare c l s k h o class))
    firm_emit l s h (Membership class negated e low high) w k (r1, (r2, (r3, (r4, (r5, (r6, r7)))))) =
        let all : In c s.body (s.free + 1 + 1) = kept_next c l s k (s.free + 1) r4.0 in
        (at s (h + 1), firm_emit l s h e w.0 k r1, (at s h, firm_keep c l s k h s.free r2, (at s (h + 1), firm_emit l (taking 1 s) h low w.1 (known_taking c l s 1 k) r3, (at s h, firm_keep c l s k h (s.free + 1) r4, (at s (h + 1), firm_emit l (taking 2 s) h high w.2 (known_taking c l s 2 k) r5, (at s (h + 1), firm_within c l s k h class s.free (in_le c s.body s.free (s.free + 1 + 1) (omega arith) all) (in_le c s.body (s.free + 1) (s.free + 1 + 1) (omega arith) all), firm_negated c l s k h negated))))))
    firm_emit l s h (If condition value otherwise) w k (r1, (r2, r3, r4)) = (at s (h + 1), firm_emit l s h condition w.0 k r1, (refl, k.entry, refl, firm_emit l s h value w.1 k r3, firm_emit l s h otherwise w.2 k r4))
    firm_emit l s h (Call a callee sub actuals) w k (r1, r2) =
        (at s h, firm_passed l (passing program sub s) h sub s.free actuals w.1 (known_taking c l s (shapes_cells (shapes program (formals_in program sub))) k) (omega arith) r1, firm_call c l s k h sub s.free true (subs sub true w.0))
    firm_emit l s h (Convert check e) w k (r1, r2) = (at s (h + 1), firm_emit l s h e w k r1, firm_checked c l s k h check.scalar)
    firm_emit l s h (Reduction a attribute by initial None chunk it value) w k (r1, r2) = (
      at s (h + 1),
      firm_emit l s h initial w.1 k r1,
      firm_iterated l s (h + 1) None it (λ u. emit program u (h + 1) value ⨟ folding u h by) w.3 k
          (λ x u same k' r. firm_value l x u (at s (h + 1)) h by (emit program u (h + 1) value) w.0 (sym (at_same s u (h + 1) same)) k' (λ r. firm_emit (Also l x (at s (h + 1))) u (h + 1) value w.4 k' r) r) r2,
    )
    firm_emit l s h (Reduction a attribute by initial (Some site) chunk it value) w k (r1, (r2, (r3, (r4, (r5, (r6, ((f1, (f2, (f3, (f4, (f5, (b1, (b2, b3))))))), (r8, r9)))))))) =
        let v : Scope = nested (taking 1 s) in
        let kv : Known c l v = known_nested c l (taking 1 s) (known_taking c l s 1 k) in
        let u : Scope = taking 2 v in
        let ku : Known c l u = known_taking c l v 2 kv in
        let first : In c s.body (s.free + 1) = kept_next c l s k s.free r2.0 in
        let two : In c s.body (s.free + 1 + 1 + 1) = chunk_room l v kv h chunk r4 in
        let course : In c s.body (s.free + 1 + 2) = course_room l u ku h it r5 in
        let told : Told c s.body (reduction_kind by chunk) (i.Fork site) = f4.1 in
        let t : Scope = thread_scope site s in
        let kt : Known c l t = known_thread c l s site (told_around c site s.body (reduction_kind by chunk) told) r3.0 k in (
          at s (h + 1),
          firm_emit l s h initial w.1 k r1,
          (
            at s h,
            firm_keep c l s k h s.free r2,
            (
              at v h,
              firm_nest c l s k h,
              (
                at v h,
                firm_chunk l v h chunk w.2 kv r4,
                (
                  at v h,
                  firm_course l u h it w.3 ku r5,
                  (
                    at v (h + 1 + 1),
                    firm_ends l u ku h it r5,
                    (
                      at v (h + 1),
                      firm_fork c l v kv h (h + 1) (reduction_kind by chunk) site (s.free + 1) (one v (h + 1 + 1 + 1 + 1) (i.LoadL s.free))
                          (one (chunk_scope chunk (taking 2 t)) 0 (i.LoadL 1) ⨟ threaded program t 1 chunk (s.free + 1 + 1 + 1) it (λ y. emit program y 1 value ⨟ folding y 0 by) ⨟ one (chunk_scope chunk (taking 2 t)) 1 i.EndV) (in_le c s.body (s.free + 1) (s.free + 1 + 1 + 1) (omega arith) two) (in_le c s.body (s.free + 1 + 1) (s.free + 1 + 1 + 1) (omega arith) two) (omega arith) (one_answer by chunk)
                          (firm_own c l v kv (h + 1 + 1 + 1 + 1) s.free (in_le c s.body s.free (s.free + 1) (omega arith) first)) (firm_reducing l t site chunk (threaded program t 1 chunk (s.free + 1 + 1 + 1) it (λ y. emit program y 1 value ⨟ folding y 0 by)) (at v (h + 1)) refl refl kt (told_cells c site s.body (reduction_kind by chunk) told)
                          (told_thread c site s.body (reduction_kind by chunk) true (reduces by chunk) told)
                          (λ r. firm_threaded l t 1 chunk (s.free + 1 + 1 + 1) it (λ y. emit program y 1 value ⨟ folding y 0 by) w.3 kt (subst (λ b. In c b 3) (sym (chunk_same chunk (taking 2 t)).0) (told_cells c site s.body (reduction_kind by chunk) told))
                          (subst (λ b. IsSomeAnd (outward c (Some b) 1) (λ b. In c b (s.free + 1 + 1 + 1))) (sym (chunk_same chunk (taking 2 t)).0) (told_far c site s.body (reduction_kind by chunk) (s.free + 1 + 1 + 1) told (in_le c s.body (s.free + 1 + 1 + 1) (s.free + 1 + 2) (omega arith) course)))
                          (λ x y same k' r. firm_value l x y (at (chunk_scope chunk (taking 2 t)) 1) 0 by (emit program y 1 value) w.0 (sym (at_same (chunk_scope chunk (taking 2 t)) y 1 same)) k' (λ r. firm_emit (Also l x (at (chunk_scope chunk (taking 2 t)) 1)) y 1 value w.4 k' r) r) r) (b1, (b2, b3))) told,
                      (at s (h + 1), firm_unnest c l (taking 1 s) (known_taking c l s 1 k) (h + 1), firm_combined l (taking 2 (taking 2 (taking 1 s))) h by w.0 (known_taking c l (taking 2 (taking 1 s)) 2 (known_taking c l (taking 1 s) 2 (known_taking c l s 1 k)))),
                    ),
                  ),
                ),
              ),
            ),
          ),
        )
      where
        one_answer : (by : Reducer) (chunk : Chunk) → up h (cond (is_reduction (reduction_kind by chunk)) 1 2) ≡ h + 1
        one_answer by NoChunk = refl
        one_answer by (Count e) = refl
        one_answer by (Each p low high check) = refl

        reduces : (by : Reducer) (chunk : Chunk) → is_reduction (reduction_kind by chunk) ≡ true
        reduces by NoChunk = refl
        reduces by (Count e) = refl
        reduces by (Each p low high check) = refl

    firm_named_value : (l : ℕ → Place → Type 0) (s : Scope) (h : ℕ) (o : Option Named) (x : Selections) → ((n : Named) → o ≡ Some n → Fits c s n) → ReadySelections program x → Known c l s → Kept c (named_value program s h o x) → Firm c l (named_value program s h o x) (at s h) (at s (h + 1))
    firm_named_value l s h o Whole f w k r = firm_named c l s k h o f r
    firm_named_value l s h o (Field number offset rest) f w k (r1, (r2, r3)) = (at s (h + 1), firm_address c l s k h o f r1, (at s (h + 1), plain c l s k h (i.Field offset) tt, firm_read l s h rest w k r3))
    firm_named_value l s h o (Index a e low high stride rest) f w k r =
        firm_cond c l s k (is_whole rest) _ _ (at s h) (at s (h + 1))
        (λ r. firm_component_value c l s k h o (own_cell s e) low high stride (emit program s (h + 1) e) f (λ n is. emit_own program s (h + 1) e n is) (λ r. firm_emit l s (h + 1) e w.0 k r) r)
        (λ r. (at s (h + 1), firm_component_address c l s k h o (own_cell s e) low high stride (emit program s (h + 1) e) f (λ n is. emit_own program s (h + 1) e n is) (λ r. firm_emit l s (h + 1) e w.0 k r) r.0, firm_read l s h rest w.1 k r.1)) r

    pub firm_selected : (l : ℕ → Place → Type 0) (s : Scope) (h : ℕ) (x : Selections) → ReadySelections program x → Known c l s → Kept c (selected program s (h + 1) x) → Firm c l (selected program s (h + 1) x) (at s (h + 1)) (at s (h + 1))
    firm_selected l s h Whole w k r = refl
    firm_selected l s h (Field number offset rest) w k (r1, r2) = (at s (h + 1), plain c l s k h (i.Field offset) tt, firm_selected l s h rest w k r2)
    firm_selected l s h (Index a e low high stride rest) w k (r1, r2) = (at s (h + 1), firm_indexed c l s k h (own_cell s e) low high stride (emit program s (h + 1) e) (λ n is. emit_own program s (h + 1) e n is) (λ r. firm_emit l s (h + 1) e w.0 k r) r1, firm_selected l s h rest w.1 k r2)

    firm_read : (l : ℕ → Place → Type 0) (s : Scope) (h : ℕ) (x : Selections) → ReadySelections program x → Known c l s → Kept c (read program s (h + 1) x) → Firm c l (read program s (h + 1) x) (at s (h + 1)) (at s (h + 1))
    firm_read l s h Whole w k r = plain c l s k h i.Load tt
    firm_read l s h (Field number offset rest) w k (r1, r2) = (at s (h + 1), plain c l s k h (i.Field offset) tt, firm_read l s h rest w k r2)
    firm_read l s h (Index a e low high stride rest) w k r =
        firm_cond c l s k (is_whole rest) _ _ (at s (h + 1)) (at s (h + 1))
        (λ r. firm_item c l s k h (own_cell s e) low high stride (emit program s (h + 1) e) (λ n is. emit_own program s (h + 1) e n is) (λ r. firm_emit l s (h + 1) e w.0 k r) r)
        (λ r. (at s (h + 1), firm_indexed c l s k h (own_cell s e) low high stride (emit program s (h + 1) e) (λ n is. emit_own program s (h + 1) e n is) (λ r. firm_emit l s (h + 1) e w.0 k r) r.0, firm_read l s h rest w.1 k r.1)) r

    pub firm_passed : (l : ℕ → Place → Type 0) (s : Scope) (h sub n : ℕ) (x : Actuals) → ReadyActuals program sub x → Known c l s → n + shapes_cells (shapes program (formals_in program sub)) ≤ s.free → Kept c (passed program s h sub n x) → Firm c l (passed program s h sub n x) (at s h) (at s h)
    firm_passed l s h sub n NoActual w k le r = refl
    firm_passed l s h sub n (InMode formal (Number check e) rest) w k le ((r1, r2), r3) = (at s h, (at s (h + 1), firm_emit l s h e w.0 k r1, firm_keep_checked c l s k h _ check.scalar r2), firm_passed l s h sub n rest w.1 k le r3)
    firm_passed l s h sub n (InMode formal (Cells x) rest) w k le (r1, r2) =
        let e = formal_moved (shapes program (formals_in program sub)) n (ConstantOf formal) in
        let z = w.0 in
        (at s h, firm_composed l s h (formal_of program sub n (ConstantOf formal)) (composite_width program x) x w.1 k (omega (arith, e, z, le)) r1, firm_passed l s h sub n rest w.2 k le r2)
    firm_passed l s h sub n (InOut formal a q selections inner outer rest) w k le ((r1, (r2, (r3, (r4, (r5, r6))))), r7) =
        (at s h, (at s (h + 1), firm_address c l s k h (root_of s q) (root_fits c l s k q) r1, (at s (h + 1), firm_selected l s h selections w.0 k r2, (at s (h + 1 + 1), plain c l s k h i.Dup tt, (at s (h + 1), firm_keep c l s k (h + 1) _ r4, (at s (h + 1), plain c l s k h i.Load tt, firm_keep_checked c l s k h _ inner r6))))), firm_passed l s h sub n rest w.1 k le r7)
    firm_passed l s h sub n (Out formal a q selections inner outer rest) w k le ((r1, (r2, (r3, (r4, r5)))), r6) = (
      at s h,
      (at s (h + 1), firm_address c l s k h (root_of s q) (root_fits c l s k q) r1, (at s (h + 1), firm_selected l s h selections w.0 k r2, (at s h, firm_keep c l s k h _ r3, (at s (h + 1), plain c l s k h (i.Push inner.low) tt, firm_keep c l s k h _ r5)))),
      firm_passed l s h sub n rest w.1 k le r6,
    )
    firm_passed l s h sub n (CompositeInOut formal a q selections subtype rest) w k le (r1, r2) = (at s h, firm_back l s h (formal_of program sub n (VariableOf formal)) q (selected program s (h + 1 + 1) selections) subtype k (λ r. firm_selected l s (h + 1) selections w.0 k r) r1, firm_passed l s h sub n rest w.1 k le r2)
    firm_passed l s h sub n (CompositeOut formal a q selections subtype rest) w k le (r1, r2) = (at s h, firm_back l s h (formal_of program sub n (VariableOf formal)) q (selected program s (h + 1 + 1) selections) subtype k (λ r. firm_selected l s (h + 1) selections w.0 k r) r1, firm_passed l s h sub n rest w.1 k le r2)

    pub firm_into : (l : ℕ → Place → Type 0) (s : Scope) (h t n : ℕ) (x : Value) → ReadyValue program n x → Known c l s → t + n ≤ s.free → Kept c (put_into program s h t x) → Firm c l (put_into program s h t x) (at s h) (at s h)
    firm_into l s h t n (Number check e) w k le (r1, r2) = (at s (h + 1), firm_emit l s h e w k r1, firm_keep_checked c l s k h t check.scalar r2)
    firm_into l s h t n (Cells x) w k le r = firm_composed l s h t n x w k le r

    pub firm_composed : (l : ℕ → Place → Type 0) (s : Scope) (h t n : ℕ) (x : Composite) → ReadyComposite program n x → Known c l s → t + n ≤ s.free → Kept c (composed program s h t x) → Firm c l (composed program s h t x) (at s h) (at s h)
    firm_composed l s h t n (WholeVariable a q selections subtype) w k le (r1, (r2, (r3, r4))) =
        (at s (h + 1), firm_local c l s k h t (in_le c s.body t s.free (omega (arith, le)) r1.0), (at s (h + 1 + 1), firm_address c l s k (h + 1) (root_of s q) (root_fits c l s k q) r2, (at s (h + 1 + 1), firm_selected l s (h + 1) selections w k r3, plain c l s k h (i.Copy (cells_of program subtype)) tt)))
    firm_composed l s h t n (WholeConstant a q selections subtype) w k le (r1, (r2, (r3, r4))) =
        (at s (h + 1), firm_local c l s k h t (in_le c s.body t s.free (omega (arith, le)) r1.0), (at s (h + 1 + 1), firm_address c l s k (h + 1) (constant_root_of s q) (constant_root_fits c l s k q) r2, (at s (h + 1 + 1), firm_selected l s (h + 1) selections w k r3, plain c l s k h (i.Copy (cells_of program subtype)) tt)))
    firm_composed l s h t n (WholeTarget a subtype) w k le (r1, (r2, r3)) =
        (at s (h + 1), firm_local c l s k h t (in_le c s.body t s.free (omega (arith, le)) r1.0), (at s (h + 1 + 1), firm_address c l s k (h + 1) s.target k.target r2, plain c l s k h (i.Copy (cells_of program subtype)) tt))
    firm_composed l s h t n (CompositeIf condition value otherwise) w k le (r1, (r2, r3, r4)) =
        (at s (h + 1), firm_emit l s h condition w.0 k r1, (refl, k.entry, refl, firm_composed l s h t n value w.1 k le r3, firm_composed l s h t n otherwise w.2 k le r4))
    firm_composed l s h t n (Aggregate a size associations) w k le (r1, (r2, r3)) =
        (at s (h + 1), firm_local c l s k h t (in_le c s.body t s.free (omega (arith, le)) r1.0), (at s h, plain c l s k h (i.Fill size (pos 0)) tt, firm_associated l s h t n associations w k le r1.0 r3))

    firm_associated : (l : ℕ → Place → Type 0) (s : Scope) (h t n : ℕ) (x : Associations) → ReadyAssociations program n x → Known c l s → t + n ≤ s.free → In c s.body s.free → Kept c (associated program s h t x) → Firm c l (associated program s h t x) (at s h) (at s h)
    firm_associated l s h t n NoAssociation w k le room r = refl
    firm_associated l s h t n (Association runs None mentions value rest) w k le room (r1, r2) = (
      at s h,
      firm_given (is_repeated runs value) l s h t n (width program value) runs (component program (taking 2 s) h (s.free + 1) value) (is_plain value) (λ m. put_into program s h (t + m) value) w.0 k le room
          (λ y c1 r. firm_component (Also l y (at s h)) (taking 2 s) h (s.free + 1) value w.1 (known_taking c (Also l y (at s h)) s 2 (known_more c l s y (at s h) k)) c1 r)
          (λ m inside r. firm_into l s h (t + m) (width program value) value w.1 k (omega (arith, inside, le)) r) r1,
      firm_associated l s h t n rest w.2 k le room r2,
    )
    firm_associated l s h t n (Association runs (Some x) mentions value rest) w k le room (r1, r2) = (
      at s h,
      firm_turnings c l s k room h t n (width program value) x.first (component program (iterated_scope s x.parameter) (turn_height runs h) (s.free + 1 + 1) value) runs le w.0
          (λ y c2 r. firm_component (Also l y (at s (turn_height runs h))) (iterated_scope s x.parameter) (turn_height runs h) (s.free + 1 + 1) value w.1 (known_parameter c (Also l y (at s (turn_height runs h))) (taking 3 s) x.parameter (own s.free) (omega arith) (known_taking c (Also l y (at s (turn_height runs h))) s 3 (known_more c l s y (at s (turn_height runs h)) k))) c2 r) r1,
      firm_associated l s h t n rest w.2 k le room r2,
    )

    firm_component : (l : ℕ → Place → Type 0) (s : Scope) (h a : ℕ) (x : Value) → ReadyValue program (width program x) x → Known c l s → In c s.body a → Kept c (component program s h a x) → Firm c l (component program s h a x) (at s h) (at s h)
    firm_component l s h a (Number check e) w k room (r1, (r2, (r3, r4))) =
        (at s (h + 1), firm_own c l s k h a room, (at s (h + 1 + 1), firm_emit l s (h + 1) e w k r2, (at s (h + 1 + 1), firm_checked c l s k (h + 1) check.scalar, plain c l s k h i.Store tt)))
    firm_component l s h a (Cells x) w k room (r1, (r2, (r3, r4))) =
        let u : Scope = taking (composite_width program x) s in
        let ku : Known c l u = known_taking c l s (composite_width program x) k in
        (at s h, firm_composed l u h s.free (composite_width program x) x w ku (omega arith) r1, (at s (h + 1), firm_own c l s k h a room, (at s (h + 1 + 1), firm_local c l u ku (h + 1) s.free (in_le c s.body s.free (s.free + composite_width program x) (omega arith) r3.0), plain c l s k h (i.Copy (composite_width program x)) tt)))

    -- where the filter passes; P is the place of the scope
    pub firm_filtered : (l : ℕ → Place → Type 0) (u : Scope) (h : ℕ) (filter : Optional) (body : Emit) (P : Place) → P ≡ at u h → ReadyOptional program filter → Known c l u → (Kept c body → Firm c l body P P) → Kept c (filtered program u h filter body) → Firm c l (filtered program u h filter body) P P
    firm_filtered l u h Absent body P e w k f r = f r
    firm_filtered l u h (Present x) body P e w k f (r1, (r2, r3)) = (at u (h + 1), subst (λ P. Firm c l (emit program u h x) P (at u (h + 1))) (sym e) (firm_emit l u h x w k r1), (refl, k.entry, e, f r3))

    pub firm_iterated : (l : ℕ → Place → Type 0) (s : Scope) (h : ℕ) (number : Option ℕ) (it : Iteration) (body : Scope → Emit) → ReadyIteration program it → Known c l s → FirmTurns c l s number (at s h) body → Kept c (iterated program s h number it body) → Firm c l (iterated program s h number it body) (at s h) (at s h)
    firm_iterated l s h number (Range p reverse low high check filter) body w k f (r1, (r2, (r3, (r4, (r5, (r6, r7)))))) =
        let all : In c s.body (s.free + 1 + 1) = kept_next c l s k (s.free + 1) r4.0 in
        let c0 : In c s.body s.free = in_le c s.body s.free (s.free + 1 + 1) (omega arith) all in
        let c1 : In c s.body (s.free + 1) = in_le c s.body (s.free + 1) (s.free + 1 + 1) (omega arith) all in
        let v : Scope = with_parameter p (own (first_parameter reverse s.free)) (taking 2 s) in (
          at s (h + 1),
          firm_emit l s h low w.0 k r1,
          (
            at s h,
            firm_keep c l s k h s.free r2,
            (
              at s (h + 1),
              firm_emit l (taking 1 s) h high w.1 (known_taking c l s 1 k) r3,
              (
                at s h,
                firm_keep c l s k h (s.free + 1) r4,
                (
                  at s (h + 1),
                  firm_ascending c l s k h s.free c0 c1,
                  (
                    refl,
                    k.entry,
                    refl,
                    (
                      at s h,
                      firm_bounds c l s k h s.free check c0 c1,
                      (
                        refl,
                        k.entry,
                        refl,
                        (λ x kx.
                            let k1 : Known c (Also l x (at s h)) s = known_more c l s x (at s h) k in
                            let ku : Known c (Also l x (at s h)) (range_scope s number p reverse x) = known_leaving c (Also l x (at s h)) v number x (known_parameter c (Also l x (at s h)) (taking 2 s) p (own (first_parameter reverse s.free)) (first_below reverse s.free) (known_taking c (Also l x (at s h)) s 2 k1)) in (
                              at s h,
                              plain c (Also l x (at s h)) s k1 h i.Turn tt,
                              firm_filtered (Also l x (at s h)) (range_scope s number p reverse x) h filter (body (range_scope s number p reverse x)) (at s h) (sym (at_leaving number x v h)) w.2 ku
                                  (λ r. f x (range_scope s number p reverse x) (leaving_same number x s v (refl, refl, refl, (λ n. refl))) ku r) kx.1,
                            )),
                        (λ x kx. firm_counting c l s k h reverse s.free x c0 c1),
                      ),
                    ),
                  ),
                ),
              ),
            ),
          ),
        )
    firm_iterated l s h number (Components p constant a q selections count stride dimensions filter) body w k f ((r1, (r2, r3)), r4) = (
      at s h,
      (at s (h + 1), firm_address c l s k h (array_root_of constant s q) (array_root_fits c l s k constant q) r1, (at s (h + 1), firm_selected l s h selections w.0 k r2, firm_keep c l s k h s.free r3)),
      firm_cond c l s k (nat_eq count 0) none _ (at s h) (at s h) (λ r. refl)
          (λ r.
          let (b1, (b2, (b3, (b4, b5)))) = r in
          let all : In c s.body (s.free + 1 + 1 + 1) = kept_next c l s k (s.free + 1 + 1) b4.0 in
          let c0 : In c s.body s.free = in_le c s.body s.free (s.free + 1 + 1 + 1) (omega arith) all in
          let c1 : In c s.body (s.free + 1) = in_le c s.body (s.free + 1) (s.free + 1 + 1 + 1) (omega arith) all in
          let c2 : In c s.body (s.free + 1 + 1) = in_le c s.body (s.free + 1 + 1) (s.free + 1 + 1 + 1) (omega arith) all in
          let v : Scope = with_item constant p (record { through = true; place = own s.free; cells = stride }) (taking 3 s) in (
            at s (h + 1),
            plain c l s k h (i.Push (pos 1)) tt,
            (
              at s h,
              firm_keep c l s k h (s.free + 1) b2,
              (
                at s (h + 1),
                plain c l s k h (i.Push (pos count)) tt,
                (
                  at s h,
                  firm_keep c l s k h (s.free + 1 + 1) b4,
                  (
                    refl,
                    k.entry,
                    refl,
                    (λ x kx.
                        let k1 : Known c (Also l x (at s h)) s = known_more c l s x (at s h) k in
                        let ku : Known c (Also l x (at s h)) (item_scope s number constant p stride x) = known_leaving c (Also l x (at s h)) v number x (known_item c (Also l x (at s h)) (taking 3 s) constant p (record { through = true; place = own s.free; cells = stride }) (omega arith) (known_taking c (Also l x (at s h)) s 3 k1)) in (
                          at s h,
                          plain c (Also l x (at s h)) s k1 h i.Turn tt,
                          firm_filtered (Also l x (at s h)) (item_scope s number constant p stride x) h filter (body (item_scope s number constant p stride x)) (at s h) (sym (at_leaving number x v h)) w.1 ku
                              (λ r. f x (item_scope s number constant p stride x) (leaving_same number x s v (refl, refl, refl, (λ n. refl))) ku r) kx.1,
                        )),
                    (λ x kx. firm_stepping c l s k h s.free stride (s.free + 1) x c0 c1 c2 kx),
                  ),
                ),
              ),
            ),
          )) r4,
    )

    pub firm_chunk : (l : ℕ → Place → Type 0) (s : Scope) (h : ℕ) (x : Chunk) → ReadyChunk program x → Known c l s → Kept c (chunk_code program s h x) → Firm c l (chunk_code program s h x) (at s h) (at s h)
    firm_chunk l s h NoChunk w k (r1, (r2, (r3, r4))) = (at s (h + 1), plain c l s k h (i.Push (pos 1)) tt, (at s h, firm_keep c l s k h s.free r2, (at s (h + 1), plain c l s k h (i.Push (pos most_threads)) tt, firm_keep c l s k h (s.free + 1) r4)))
    firm_chunk l s h (Count e) w k (r1, (r2, (r3, (r4, (r5, (r6, r7)))))) =
        let all : In c s.body (s.free + 1 + 1) = kept_next c l s k (s.free + 1) r6.0 in
        (at s (h + 1), plain c l s k h (i.Push (pos 1)) tt, (at s h, firm_keep c l s k h s.free r2, (at s (h + 1), firm_emit l (taking 1 s) h e w (known_taking c l s 1 k) r3, (at s (h + 1 + 1), plain c l s k (h + 1) (i.Push (pos most_threads)) tt, (at s (h + 1), plain c l s k h i.Min tt, (at s h, firm_keep c l s k h (s.free + 1) r6, firm_raise_above c l s k h s.free (in_le c s.body s.free (s.free + 1 + 1) (omega arith) all) (in_le c s.body (s.free + 1) (s.free + 1 + 1) (omega arith) all)))))))
    firm_chunk l s h (Each p low high check) w k (r1, (r2, (r3, (r4, (r5, (r6, r7)))))) =
        let all : In c s.body (s.free + 1 + 1) = kept_next c l s k (s.free + 1) r4.0 in
        let c0 : In c s.body s.free = in_le c s.body s.free (s.free + 1 + 1) (omega arith) all in
        let c1 : In c s.body (s.free + 1) = in_le c s.body (s.free + 1) (s.free + 1 + 1) (omega arith) all in
        (at s (h + 1), firm_emit l s h low w.0 k r1, (at s h, firm_keep c l s k h s.free r2, (at s (h + 1), firm_emit l (taking 1 s) h high w.1 (known_taking c l s 1 k) r3, (at s h, firm_keep c l s k h (s.free + 1) r4, (at s h, firm_raise_above c l s k h s.free c0 c1, (at s h, firm_bounds c l s k h s.free check c0 c1, firm_raise_beyond c l s k h c0 c1))))))

    pub firm_course : (l : ℕ → Place → Type 0) (s : Scope) (h : ℕ) (it : Iteration) → ReadyIteration program it → Known c l s → Kept c (course_code program s h it) → Firm c l (course_code program s h it) (at s h) (at s h)
    firm_course l s h (Range p reverse low high check filter) w k (r1, (r2, (r3, (r4, (r5, (r6, r7)))))) =
        let all : In c s.body (s.free + 1 + 1) = kept_next c l s k (s.free + 1) r4.0 in
        let c0 : In c s.body s.free = in_le c s.body s.free (s.free + 1 + 1) (omega arith) all in
        let c1 : In c s.body (s.free + 1) = in_le c s.body (s.free + 1) (s.free + 1 + 1) (omega arith) all in
        (at s (h + 1), firm_emit l s h low w.0 k r1, (at s h, firm_keep c l s k h s.free r2, (at s (h + 1), firm_emit l (taking 1 s) h high w.1 (known_taking c l s 1 k) r3, (at s h, firm_keep c l s k h (s.free + 1) r4, (at s (h + 1), firm_ascending c l s k h s.free c0 c1, (refl, k.entry, refl, firm_bounds c l s k h s.free check c0 c1))))))
    firm_course l s h (Components p constant a q selections count stride dimensions filter) w k (r1, (r2, r3)) =
        (at s (h + 1), firm_address c l s k h (array_root_of constant s q) (array_root_fits c l s k constant q) r1, (at s (h + 1), firm_selected l s h selections w.0 k r2, firm_keep c l s k h s.free r3))

    -- the turns of a thread
    pub firm_threaded : (l : ℕ → Place → Type 0) (t : Scope) (h : ℕ) (chunk : Chunk) (around : ℕ) (it : Iteration) (body : Scope → Emit) → ReadyIteration program it → Known c l t → In c (chunk_scope chunk (taking 2 t)).body (t.free + 2 + 1)
        → IsSomeAnd (outward c (Some (chunk_scope chunk (taking 2 t)).body) 1) (λ b. In c b around) → FirmTurns c l (chunk_scope chunk (taking 2 t)) None (at (chunk_scope chunk (taking 2 t)) h) body
        → Kept c (threaded program t h chunk around it body) → Firm c l (threaded program t h chunk around it body) (at (chunk_scope chunk (taking 2 t)) h) (at (chunk_scope chunk (taking 2 t)) h)
    firm_threaded l t h chunk around (Range p reverse low high check filter) body w k c1 far f (r1, (r2, r3)) =
        let cs : Scope = chunk_scope chunk (taking 2 t) in
        let kc : Known c l cs = known_chunk c l chunk (taking 2 t) (known_taking c l t 2 k) in
        let v : Scope = turn_range t chunk p in
        let c0 : In c cs.body (t.free + 2) = in_le c cs.body (t.free + 2) (t.free + 2 + 1) (omega arith) c1 in (
          at cs (h + 1),
          firm_ascending c l cs kc h (t.free + 2) c0 c1,
          (
            refl,
            kc.entry,
            refl,
            (
              refl,
              kc.entry,
              refl,
              (λ x kx.
                  let k1 : Known c (Also l x (at cs h)) cs = known_more c l cs x (at cs h) kc in
                  let kv : Known c (Also l x (at cs h)) v = known_parameter c (Also l x (at cs h)) (taking 2 cs) p (own (first_parameter false cs.free)) (first_below false cs.free) (known_taking c (Also l x (at cs h)) cs 2 k1) in
                  (at cs h, plain c (Also l x (at cs h)) cs k1 h i.Turn tt, firm_filtered (Also l x (at cs h)) v h filter (body v) (at cs h) refl w.2 kv (λ r. f x v (refl, refl, refl, (λ n. refl)) kv r) kx.1)),
              (λ x kx. firm_counting c l cs kc h false (t.free + 2) x c0 c1),
            ),
          ),
        )
    firm_threaded l t h chunk around (Components p constant a q selections count stride dimensions filter) body w k c1 far f (r1, (r2, (b1, (b2, (b3, (b4, b5)))))) =
        let cs : Scope = chunk_scope chunk (taking 2 t) in
        let kc : Known c l cs = known_chunk c l chunk (taking 2 t) (known_taking c l t 2 k) in
        let v : Scope = turn_component t chunk constant p stride in
        let c0 : In c cs.body (t.free + 2) = in_le c cs.body (t.free + 2) (t.free + 2 + 1) (omega arith) c1 in
        let c2 : In c cs.body (t.free + 2 + 1 + 1) = in_le c cs.body (t.free + 2 + 1 + 1) (t.free + 2 + 1 + 1 + 1) (omega arith) (kept_next c l cs kc (t.free + 2 + 1 + 1) b4.0) in (
          at cs (h + 1),
          firm_ascending c l cs kc h (t.free + 2) c0 c1,
          (
            refl,
            kc.entry,
            refl,
            (
              at cs (h + 1),
              record { here = refl; marked = kc.entry; base = h; operands = refl; begun = omega arith; ways = refl; belongs = λ n. (omega arith, far) },
              (
                at cs (h + 1 + 1),
                firm_own c l cs kc (h + 1) (t.free + 2) c0,
                (
                  at cs (h + 1),
                  plain c l cs kc h (i.Index (pos 1) (pos count) stride) tt,
                  (
                    at cs h,
                    firm_keep c l cs kc h (t.free + 2 + 1 + 1) b4,
                    (
                      refl,
                      kc.entry,
                      refl,
                      (λ x kx.
                          let k1 : Known c (Also l x (at cs h)) cs = known_more c l cs x (at cs h) kc in
                          let kv : Known c (Also l x (at cs h)) v = known_item c (Also l x (at cs h)) (taking 3 cs) constant p (record { through = true; place = own (cs.free + 1 + 1); cells = stride }) (omega arith) (known_taking c (Also l x (at cs h)) cs 3 k1) in
                          (at cs h, plain c (Also l x (at cs h)) cs k1 h i.Turn tt, firm_filtered (Also l x (at cs h)) v h filter (body v) (at cs h) refl w.1 kv (λ r. f x v (refl, refl, refl, (λ n. refl)) kv r) kx.1)),
                      (λ x kx. firm_stepping c l cs kc h (t.free + 2 + 1 + 1) stride (t.free + 2) x c2 c0 c1 kx),
                    ),
                  ),
                ),
              ),
            ),
          ),
        )
