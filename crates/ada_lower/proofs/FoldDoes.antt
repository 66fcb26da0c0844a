-- Parallel reductions over ranges and over components, whole, at any height of the stack, in one another.
use Rattle.std.proofs.Common.{◌≡◌, ℕ, zero, suc, ◌+◌, ◌*◌, ◌<◌, ◌≤◌, ℤ, List, [], ◌∷◌, slice_get, Option, Some, None, Bool, true, false, refl, sym, ap, ◌∙◌, subst, arith, pos, ◌-ℤ◌, ◌+ℤ◌}
use Rattle.ada_base.specs.declared.operation.Op.{Op}
use Rattle.behaviours.specs.Doings.{folded}
use Rattle.behaviours.specs.Paths.{Leave, Exits, Returns, Raises, Entity}
use Rattle.typed_tree.specs.declared.scalars.Check.{Check}
use Rattle.typed_tree.specs.declared.scalars.Class.{Class}
use Rattle.typed_tree.specs.declared.scalars.Scalar.{Scalar}
use Rattle.typed_tree.specs.declared.expressions.Root.{Root}
use Rattle.typed_tree.specs.declared.expressions.Reducer.{Reducer}
use Rattle.typed_tree.specs.declared.expressions.Reducer.TheVariants.{Operator, Function}
use Rattle.typed_tree.specs.Syntax.{Static, Variable, Constant, Parameter, Target, Group, Unary, Binary, AndThen, OrElse, Relation, Membership, If, Call, Convert, Reduction, Expr, Optional, Range, Components, Selections, Chunk, NoChunk, Count, Each, Program}
use Rattle.ada_meaning.specs.Values
use Rattle.ada_meaning.specs.Values.{base_of}
use Rattle.ada_meaning.specs.Operations.{Operations, reduce}
use Rattle.ada_meaning.specs.Stored as stored
use Rattle.ada_meaning.specs.Stored.{Stored}
use Rattle.ada_meaning.specs.Meaning
use Rattle.ada_meaning.specs.Meaning.{Env, Passed, Returned}
use Rattle.stack_code.specs.declared.code.Code.{Code}
use Rattle.stack_code.specs.declared.code.CodeSite.{CodeSite}
use Rattle.stack_code.specs.declared.instr.Instr.TheVariants as i
use Rattle.stack_code.specs.declared.path.Asked.{Asked}
use Rattle.stack_code.specs.declared.path.Gave.TheVariants as gave
use Rattle.stack_code.specs.Deeds
use Rattle.ada_lower.specs.Driven.{Fixed, on, answer_of, combined_by, Alike, sizes_for}
use Rattle.ada_lower.specs.Sights.{nested_sight, array_root_of, Named, Sight, Stands, taking, thread_sight, turn_sight, ◌⨟◌}
use Rattle.ada_lower.specs.Emission
use Rattle.ada_lower.specs.Emission.{emit, reduction_kind}
use Rattle.ada_lower.specs.Fits.{Ghost, Ends, Knows, Spread}
use Rattle.ada_lower.specs.Fitted.{Reaches, Fitted, FittedFold, FittedOptional, FittedSelections}
use Rattle.ada_lower.specs.FittedForks.{FittedChunk, FittedReductions, Within}
use Rattle.ada_lower.proofs.Forks.{thread_ends}
use Rattle.ada_lower.proofs.Calls.{CallsDo}
use Rattle.ada_lower.proofs.Rounds.{with_rounds}
use Rattle.ada_lower.proofs.Inner.{InnerDo, ExprsDo}
use Rattle.ada_lower.proofs.Framework.{any}
use Rattle.ada_lower.proofs.Parts.{Runs}
use Rattle.ada_lower.proofs.Expressions.{turn_does}
use Rattle.ada_lower.proofs.EvalLeaves.{Closed, Raised, c_bind, c_through, c_iterate_value, c_folded, c_reduce, c_fold_call, c_eval, c_holds}
use Rattle.ada_lower.proofs.Items.{named_entity}
use Rattle.ada_lower.proofs.ForkRange.{chunk_entry, knows_forked, Chunks}
use Rattle.ada_lower.proofs.ForkSteps.{operands}
use Rattle.ada_lower.proofs.ForkReduce.{OnlyRaises, reduced_does}
use Rattle.ada_lower.proofs.ForkKept.{kept_does}
use Rattle.ada_lower.proofs.FoldCalls.{function_combines}
use Rattle.ada_lower.proofs.Alike.{alike}
use Rattle.ada_lower.proofs.ForkSites.{Finish, range_reduction_does, items_reduction_does}
use Rattle.ada_lower.proofs.ForkFine.{Lends}
use Rattle.ada_lower.proofs.ForkInside.{nested_in}
use Rattle.behaviours.specs.Joins.{deal}
use Rattle.ada_lower.proofs.Lent.{Lending, ranged}
use Rattle.ada_lower.proofs.Lent.{listed as items_from}

only_raises : (l : Leave) → Raised l → OnlyRaises l
only_raises (Exits n) m = m
only_raises (Returns v) m = m
only_raises (Raises r) m = m

folded_kind : (c : Code) (chunk : Chunk) (token : ℕ) (o : Op) (class : Class) (q : Asked) (vs : List ℤ) → answer_of c (reduction_kind (Operator token o class) chunk) q (gave.Numbers vs) ≡ combined_by c (Some (record { op = o; base = base_of class })) q.initial vs
folded_kind c NoChunk token o class q vs = refl
folded_kind c (Count e) token o class q vs = refl
folded_kind c (Each k low high check) token o class q vs = refl

module _ (limit : ℕ) (cuts : ℕ → ℕ → List ℕ) (program : Program) (c : Code) (globals : ℕ → Entity → Option Named) (mains : Entity → Bool) (epar : Sight → Expr → Type 0) (calls : ℕ → ℕ → Stored (Unit {0}) → List Passed → Stored Returned) where
  abbrev ops : Operations {1}
  ops = stored.noted_operations limit cuts

  -- what a turn adds
  abbrev pub values_of : Optional → Expr → Env → Stored (Option ℤ)
  values_of filter value e = Meaning.iterate_value ops (Meaning.holds ops limit program calls filter e) (Meaning.eval ops limit program calls value e)

  module _ (f : Fixed) (calls_only : (n s : ℕ) (before : Stored (Unit {0})) (passed : List Passed) → Closed Raised before → Closed Raised (calls n s before passed)) (calls_all : (f' : Fixed) → Alike f' f → InnerDo limit cuts program globals mains epar c f' calls)
      (x : Ends) (g : Ghost) (env : Env) (s : Sight) (kn : Knows limit cuts g f s env) (en : s.scope.entry ≡ x.entry) (room : s.scope.free + 3 < s.cells) (ht : ℕ) (st : List ℤ)
      (chunk : Chunk) (by : Reducer) (attribute at : ℕ) (cs : CodeSite) (site : ℕ) (site_at : slice_get c.sites site ≡ Some cs) (kind : cs.kind ≡ reduction_kind by chunk) (four : 4 ≤ cs.frame) (entry : (qf : ℕ) → slice_get c.instrs qf ≡ Some (i.Fork site) → cs.entry ≡ qf + 1 + 1)
      (initial : Expr) (filter : Optional) (value : Expr) (finish : Finish limit cuts program c f calls globals mains epar calls_all x g env s kn en room ht st chunk by attribute cs site site_at kind four entry initial (values_of filter value)) where
    abbrev s5 : Sight
    s5 = taking 2 (taking 2 (taking 1 s))

    -- the turn of a thread
    turned : (f' : Fixed) → Alike f' f → f'.nested ≡ f.nested + 1 → (u : Sight) → u.scope.entry ≡ None → FittedOptional program globals mains epar u filter → FittedFold program globals mains u by → Fitted program globals mains epar u value → (g' : Ghost) (env' : Env) (a : ℤ) (head mid : ℕ) → Knows limit cuts g' f' u env'
        → Stands c (Rattle.ada_lower.specs.Sights.one u.scope 1 i.Turn ⨟ Emission.filtered program u.scope 1 filter (emit program u.scope 1 value ⨟ Emission.folding u.scope 0 by)) head mid
        → Runs limit c f' thread_ends g' any (stored.bind (values_of filter value env') (folded stored.doings (reduce stored.doings stored.checks by attribute (Meaning.fold_call ops limit program calls by (suc env.nested))) a)) (λ d. on f' head (a ∷ []) d) (λ b d. on f' mid (b ∷ []) d)
    turned f' fc more u none' wf wb wv g' env' a head mid kk ss =
        turn_does limit cuts program c f' thread_ends calls globals mains epar (calls_all f' fc) by (suc env.nested) attribute filter value head mid u 0 a [] (let z = kk.nested in let y = kn.nested in omega (arith, z, y, more)) kk none' wf wb wv ss

    leaves_so : (first size : ℕ) (start : ℤ) (envs : ℕ → Env) (w : stored.State) (l : Leave)
        → ((Rattle.behaviours.specs.Doings.through stored.doings first size start (λ i a. stored.bind (values_of filter value (envs i)) (folded stored.doings (reduce stored.doings stored.checks by attribute (Meaning.fold_call ops limit program calls by (suc env.nested))) a))).does w).end ≡ Rattle.std.proofs.Common.Err (stored.Left l) → OnlyRaises l
    leaves_so first size start envs w l e = only_raises l ((c_through Raised (λ i a. stored.bind (values_of filter value (envs i)) (folded stored.doings (reduce stored.doings stored.checks by attribute (Meaning.fold_call ops limit program calls by (suc env.nested))) a))
        (λ i a. c_bind Raised (c_iterate_value Raised (λ r. tt) limit cuts _ _ (c_holds Raised (λ r. tt) limit cuts program calls calls_only filter (envs i)) (c_eval Raised (λ r. tt) limit cuts program calls calls_only value (envs i)))
        (λ v. c_folded Raised (λ r. tt) _ (λ a b. c_reduce Raised (λ r. tt) by attribute _ (λ a b. c_fold_call Raised (λ r. tt) limit cuts program calls calls_only by (suc env.nested) a b) a b) a v)) first size start).by w l e)

    -- over a range
    pub site_range_does : s.scope.free + 4 < s.cells → (p : ℕ) (low high : Expr) (check : Option Check)
        → ((start cl ch l u : ℤ) (k : Meaning.Chunking) → Chunks chunk cl ch k → (gg : Ghost) → Knows limit cuts gg (nested_in f) s5 (Meaning.inside env)
        → Lends (nested_in f) gg cs (Deeds.asked site l u cl ch start) (Meaning.site_at site chunk (Range p false low high check filter) (Meaning.value_cut_of k (Values.count l u)) k (ranged p l u) (Meaning.inside env)) (deal 0 0 (sizes_for gg.plan cs.kind (Deeds.asked site l u cl ch start))))
        → Fitted program globals mains epar s initial → FittedChunk program globals mains epar (nested_sight (taking 1 s)) chunk → Fitted program globals mains epar (taking 2 (nested_sight (taking 1 s))) low → Fitted program globals mains epar (taking 1 (taking 2 (nested_sight (taking 1 s)))) high
        → FittedOptional program globals mains epar (turn_sight (thread_sight site cs.frame s5) chunk (Range p false low high check filter)) filter → FittedFold program globals mains (turn_sight (thread_sight site cs.frame s5) chunk (Range p false low high check filter)) by
        → Fitted program globals mains epar (turn_sight (thread_sight site cs.frame s5) chunk (Range p false low high check filter)) value
        → (from to : ℕ) → Stands c (emit program s.scope ht (Reduction at attribute by initial (Some site) chunk (Range p false low high check filter) value)) from to
        → Runs limit c f x g any (Meaning.eval ops limit program calls (Reduction at attribute by initial (Some site) chunk (Range p false low high check filter) value) env) (λ d. on f from st d) (λ v d. on f to (v ∷ st) d)
    unfolding Rattle.ada_lower.specs.Emission.emit
    site_range_does room4 p low high check lends wi wc wl wh wf wb wv from to l =
        let u : Sight = turn_sight (thread_sight site cs.frame s5) chunk (Range p false low high check filter) in
        range_reduction_does limit cuts program c f calls globals mains epar calls_all x g env s kn en room ht st chunk by attribute cs site site_at kind four entry initial (values_of filter value) finish room4 p low high check filter
        (λ u. emit program u 1 value ⨟ Emission.folding u 0 by)
        (λ f' fc more g' env' a head mid kk ss. turned f' fc more u (chunk_entry chunk (taking 2 (thread_sight site cs.frame s5))) wf wb wv g' env' a head mid kk ss) leaves_so lends wi wc wl wh from to l

    -- over components
    pub site_items_does : Within cuts → 5 ≤ cs.frame → {e : Named} → (p : ℕ) (constant : Bool) (a : ℕ) (r : Root) (selections : Selections) (count stride dimensions : ℕ)
        → ((start cl ch : ℤ) (q : Meaning.ObjectPart) (a0 : ℕ) (k : Meaning.Chunking) → Chunks chunk cl ch k → (gg : Ghost) → Knows limit cuts gg (nested_in f) s5 (Meaning.inside env) → Spread gg (named_entity constant q.object) q.offset (count * stride) a0
        → Lends (nested_in f) gg cs (Deeds.asked site (pos 1) (pos count) cl ch start) (Meaning.site_at site chunk (Components p constant a r selections count stride dimensions filter) (Meaning.value_cut_of k count) k (items_from constant p count stride q) (Meaning.inside env)) (deal 0 0 (sizes_for gg.plan cs.kind (Deeds.asked site (pos 1) (pos count) cl ch start))))
        → Fitted program globals mains epar s initial → FittedChunk program globals mains epar (nested_sight (taking 1 s)) chunk
        → array_root_of constant (taking 2 (nested_sight (taking 1 s))).scope r ≡ Some e → Reaches e.cells selections (count * stride) → FittedSelections program globals mains epar (taking 2 (nested_sight (taking 1 s))) selections
        → FittedOptional program globals mains epar (turn_sight (thread_sight site cs.frame s5) chunk (Components p constant a r selections count stride dimensions filter)) filter → FittedFold program globals mains (turn_sight (thread_sight site cs.frame s5) chunk (Components p constant a r selections count stride dimensions filter)) by
        → Fitted program globals mains epar (turn_sight (thread_sight site cs.frame s5) chunk (Components p constant a r selections count stride dimensions filter)) value
        → (from to : ℕ) → Stands c (emit program s.scope ht (Reduction at attribute by initial (Some site) chunk (Components p constant a r selections count stride dimensions filter) value)) from to
        → Runs limit c f x g any (Meaning.eval ops limit program calls (Reduction at attribute by initial (Some site) chunk (Components p constant a r selections count stride dimensions filter) value) env) (λ d. on f from st d) (λ v d. on f to (v ∷ st) d)
    unfolding Rattle.ada_lower.specs.Emission.emit
    site_items_does within five p constant a r selections count stride dimensions lends wi wc is reach ws wf wb wv from to l =
        let u : Sight = turn_sight (thread_sight site cs.frame s5) chunk (Components p constant a r selections count stride dimensions filter) in
        items_reduction_does limit cuts program c f calls globals mains epar calls_all x g env s kn en room ht st chunk by attribute cs site site_at kind four entry initial (values_of filter value) finish within five p constant a r selections count stride dimensions filter
        (λ u. emit program u 1 value ⨟ Emission.folding u 0 by)
        (λ f' fc more g' env' a head mid kk ss. turned f' fc more u (chunk_entry chunk (taking 2 (thread_sight site cs.frame s5))) wf wb wv g' env' a head mid kk ss) leaves_so lends wi wc is reach ws from to l

  -- accumulators that an operator combines
  operator_finishes : (f : Fixed) (calls_all : (f' : Fixed) → Alike f' f → InnerDo limit cuts program globals mains epar c f' calls)
      (x : Ends) (g : Ghost) (env : Env) (s : Sight) (kn : Knows limit cuts g f s env) (en : s.scope.entry ≡ x.entry) (room : s.scope.free + 3 < s.cells) (ht : ℕ) (st : List ℤ)
      (chunk : Chunk) (token : ℕ) (o : Op) (class : Class) (attribute : ℕ) (cs : CodeSite) (site : ℕ) (site_at : slice_get c.sites site ≡ Some cs) (kind : cs.kind ≡ reduction_kind (Operator token o class) chunk) (four : 4 ≤ cs.frame) (entry : (qf : ℕ) → slice_get c.instrs qf ≡ Some (i.Fork site) → cs.entry ≡ qf + 1 + 1)
      (initial : Expr) (values : Env → Stored (Option ℤ)) → Finish limit cuts program c f calls globals mains epar calls_all x g env s kn en room ht st chunk (Operator token o class) attribute cs site site_at kind four entry initial values
  operator_finishes f calls_all x g env s kn en room ht st chunk token o class attribute cs site site_at kind four entry initial values gg kg l u cl ch start qf past to jump unnest lz fork some few team body ok threads lends seen js dealt oks =
      let q : Asked = Deeds.asked site l u cl ch start in
      subst (λ b. Runs limit c f x gg any (stored.bind (Meaning.unless ops (Rattle.std.proofs.Common.nat_le (Deeds.many l u) Meaning.most_iterations) Rattle.ada_base.specs.declared.reason.Reason.TheVariants.StorageError)
      (λ _. stored.bind (stored.noted_team team stored.after_all [] js body) (λ accs. stored.combined limit cuts start accs (reduce stored.doings stored.checks (Operator token o class) attribute (Meaning.combine_call ops limit program calls (Operator token o class) env.nested)))))
      (λ d. on (Rattle.ada_lower.proofs.ForkInside.nested_in f) qf (operands limit c (Rattle.ada_lower.proofs.ForkInside.nested_in f) l u cl ch start st) d) (λ v d. on f b (v ∷ st) d)) (sym lz)
      (reduced_does limit cuts c f x gg kn.kept qf past st jump unnest cs site l u cl ch start site_at fork o attribute class
      (λ vs. ap (λ kd. answer_of c kd q (gave.Numbers vs)) kind ∙ folded_kind c chunk token o class q vs) some few team body ok threads (knows_forked kg) lends seen js dealt oks)

  kept_kind : (chunk : Chunk) (token sub : ℕ) (accumulator value : Scalar) (q : Asked) (vs : List ℤ) → answer_of c (reduction_kind (Function token sub accumulator value) chunk) q (gave.Numbers vs) ≡ combined_by c None q.initial vs
  kept_kind NoChunk token sub accumulator value q vs = refl
  kept_kind (Count e) token sub accumulator value q vs = refl
  kept_kind (Each k low high check) token sub accumulator value q vs = refl

  -- accumulators that are kept, and combined by calls of a function
  function_finishes : (f : Fixed) (calls_all : (f' : Fixed) → Alike f' f → InnerDo limit cuts program globals mains epar c f' calls)
      (x : Ends) (g : Ghost) (env : Env) (s : Sight) (kn : Knows limit cuts g f s env) (en : s.scope.entry ≡ x.entry) (room : s.scope.free + 3 < s.cells) (ht : ℕ) (st : List ℤ)
      (chunk : Chunk) (token sub : ℕ) (accumulator value : Scalar) (attribute : ℕ) (cs : CodeSite) (site : ℕ) (site_at : slice_get c.sites site ≡ Some cs) (kind : cs.kind ≡ reduction_kind (Function token sub accumulator value) chunk) (four : 4 ≤ cs.frame) (entry : (qf : ℕ) → slice_get c.instrs qf ≡ Some (i.Fork site) → cs.entry ≡ qf + 1 + 1)
      (initial : Expr) (values : Env → Stored (Option ℤ)) → FittedFold program globals mains (taking 2 (taking 2 (taking 1 s))) (Function token sub accumulator value) → Finish limit cuts program c f calls globals mains epar calls_all x g env s kn en room ht st chunk (Function token sub accumulator value) attribute cs site site_at kind four entry initial values
  function_finishes f calls_all x g env s kn en room ht st chunk token sub accumulator value attribute cs site site_at kind four entry initial values fitted gg kg l u cl ch start qf past to jump unnest lz fork some few team body ok threads lends seen js dealt oks =
      let q : Asked = Deeds.asked site l u cl ch start in
      kept_does limit cuts c f x gg kn.kept qf past st jump unnest cs site l u cl ch start site_at fork (λ vs. ap (λ kd. answer_of c kd q (gave.Numbers vs)) kind ∙ kept_kind chunk token sub accumulator value q vs) some few team body ok threads (knows_forked kg) lends seen js dealt oks
      (reduce stored.doings stored.checks (Function token sub accumulator value) attribute (Meaning.combine_call ops limit program calls (Function token sub accumulator value) env.nested)) to
      (λ a more. function_combines limit cuts program c f calls globals mains epar (calls_all f (alike f)) x gg env (taking 2 (taking 2 (taking 1 s))) kg en ht st token sub accumulator value fitted (past + 1) to lz more a)

  -- accumulators that are combined
  finishes : (f : Fixed) (calls_all : (f' : Fixed) → Alike f' f → InnerDo limit cuts program globals mains epar c f' calls)
      (x : Ends) (g : Ghost) (env : Env) (s : Sight) (kn : Knows limit cuts g f s env) (en : s.scope.entry ≡ x.entry) (room : s.scope.free + 3 < s.cells) (ht : ℕ) (st : List ℤ)
      (chunk : Chunk) (by : Reducer) (attribute : ℕ) (cs : CodeSite) (site : ℕ) (site_at : slice_get c.sites site ≡ Some cs) (kind : cs.kind ≡ reduction_kind by chunk) (four : 4 ≤ cs.frame) (entry : (qf : ℕ) → slice_get c.instrs qf ≡ Some (i.Fork site) → cs.entry ≡ qf + 1 + 1)
      (initial : Expr) (values : Env → Stored (Option ℤ)) → FittedFold program globals mains (taking 2 (taking 2 (taking 1 s))) by → Finish limit cuts program c f calls globals mains epar calls_all x g env s kn en room ht st chunk by attribute cs site site_at kind four entry initial values
  finishes f calls_all x g env s kn en room ht st chunk (Operator token o class) attribute cs site site_at kind four entry initial values fitted =
      operator_finishes f calls_all x g env s kn en room ht st chunk token o class attribute cs site site_at kind four entry initial values
  finishes f calls_all x g env s kn en room ht st chunk (Function token sub accumulator value) attribute cs site site_at kind four entry initial values fitted =
      function_finishes f calls_all x g env s kn en room ht st chunk token sub accumulator value attribute cs site site_at kind four entry initial values fitted

module _ (asked : Option Program) (lent : Bool → Sight → ℕ → CodeSite → Type 0) (limit : ℕ) (cuts : ℕ → ℕ → List ℕ) (lending : Lending limit cuts asked lent) (within : Within cuts) (program : Program) (c : Code) (globals : ℕ → Entity → Option Named) (mains : Entity → Bool) where
  -- parallel reductions, in one another
  pub folds_do : (n : ℕ) (f : Fixed) → f.asked ≡ asked → (calls : ℕ → ℕ → Stored (Unit {0}) → List Passed → Stored Returned) (calls_only : (n s : ℕ) (before : Stored (Unit {0})) (passed : List Passed) → Closed Raised before → Closed Raised (calls n s before passed))
      (calls_all : (f' : Fixed) → Alike f' f → CallsDo limit cuts program globals mains c f' calls) → ExprsDo limit cuts program c f calls (FittedReductions program globals mains lent c n)
  folds_do zero f fa calls calls_only calls_all e from to g env x s h st k en w l = absurd w
  folds_do (suc n) f fa calls calls_only calls_all (Reduction at attribute by initial (Some site) chunk (Range p false low high check filter) value) from to g env x s h st k en (cs, (site_at, frame, four, entry), here, kind, room4, wi, wc, wl, wh, wf, wv, wb, wk) l =
      let room : s.scope.free + 3 < s.cells = omega (arith, room4) in
      let epar : Sight → Expr → Type 0 = FittedReductions program globals mains lent c n in
      let all_in : (f' : Fixed) → Alike f' f → InnerDo limit cuts program globals mains epar c f' calls = (λ f' e. record { called = λ rs. calls_all (with_rounds rs f') e; forked = λ rs. folds_do n (with_rounds rs f') (e.1 ∙ fa) calls calls_only (λ f'' e'. calls_all f'' (e'.0 ∙ e.0, e'.1 ∙ e.1)) }) in
      site_range_does limit cuts program c globals mains epar calls f calls_only all_in x g env s k en room h st chunk by attribute at cs site site_at kind four entry initial filter value
      (finishes limit cuts program c globals mains epar calls f all_in x g env s k en room h st chunk by attribute cs site site_at kind four entry initial (values_of limit cuts program c globals mains epar calls filter value) wk)
      room4 p low high check (λ start cl ch l u k told gg kk. lending.folds f fa s env site cs here chunk p low high check filter k start cl ch l u by kind told gg kk) wi wc wl wh wf wb wv from to l
  folds_do (suc n) f fa calls calls_only calls_all (Reduction at attribute by initial (Some site) chunk (Components p constant a r selections count stride dimensions filter) value) from to g env x s h st k en (cs, (site_at, frame, four, entry), here, five, kind, room, wi, wc, (e, is, reach), ws, wf, wv, wb, wk) l =
      let epar : Sight → Expr → Type 0 = FittedReductions program globals mains lent c n in
      let all_in : (f' : Fixed) → Alike f' f → InnerDo limit cuts program globals mains epar c f' calls = (λ f' e. record { called = λ rs. calls_all (with_rounds rs f') e; forked = λ rs. folds_do n (with_rounds rs f') (e.1 ∙ fa) calls calls_only (λ f'' e'. calls_all f'' (e'.0 ∙ e.0, e'.1 ∙ e.1)) }) in
      site_items_does limit cuts program c globals mains epar calls f calls_only all_in x g env s k en room h st chunk by attribute at cs site site_at kind four entry initial filter value
      (finishes limit cuts program c globals mains epar calls f all_in x g env s k en room h st chunk by attribute cs site site_at kind four entry initial (values_of limit cuts program c globals mains epar calls filter value) wk)
      within five {e = e} p constant a r selections count stride dimensions (λ start cl ch q a0 k told gg kk part. lending.item_folds f fa s env site cs here chunk p constant a r selections count stride dimensions filter k start cl ch q a0 by kind told gg kk part) wi wc is reach ws wf wb wv from to l
  folds_do (suc n) f fa calls calls_only calls_all (Static a1 a2 a3 a4) from to g env x s h st k en w l = absurd w
  folds_do (suc n) f fa calls calls_only calls_all (Variable a1 a2 a3 a4) from to g env x s h st k en w l = absurd w
  folds_do (suc n) f fa calls calls_only calls_all (Constant a1 a2 a3 a4) from to g env x s h st k en w l = absurd w
  folds_do (suc n) f fa calls calls_only calls_all (Parameter a1 a2) from to g env x s h st k en w l = absurd w
  folds_do (suc n) f fa calls calls_only calls_all (Target a1 a2) from to g env x s h st k en w l = absurd w
  folds_do (suc n) f fa calls calls_only calls_all (Group a1) from to g env x s h st k en w l = absurd w
  folds_do (suc n) f fa calls calls_only calls_all (Unary a1 a2 a3 a4) from to g env x s h st k en w l = absurd w
  folds_do (suc n) f fa calls calls_only calls_all (Binary a1 a2 a3 a4 a5) from to g env x s h st k en w l = absurd w
  folds_do (suc n) f fa calls calls_only calls_all (AndThen a1 a2) from to g env x s h st k en w l = absurd w
  folds_do (suc n) f fa calls calls_only calls_all (OrElse a1 a2) from to g env x s h st k en w l = absurd w
  folds_do (suc n) f fa calls calls_only calls_all (Relation a1 a2 a3 a4) from to g env x s h st k en w l = absurd w
  folds_do (suc n) f fa calls calls_only calls_all (Membership a1 a2 a3 a4 a5) from to g env x s h st k en w l = absurd w
  folds_do (suc n) f fa calls calls_only calls_all (If a1 a2 a3) from to g env x s h st k en w l = absurd w
  folds_do (suc n) f fa calls calls_only calls_all (Call a1 a2 a3 a4) from to g env x s h st k en w l = absurd w
  folds_do (suc n) f fa calls calls_only calls_all (Convert a1 a2) from to g env x s h st k en w l = absurd w
  folds_do (suc n) f fa calls calls_only calls_all (Reduction a1 a2 a3 a4 None a6 a7 a8) from to g env x s h st k en w l = absurd w
  folds_do (suc n) f fa calls calls_only calls_all (Reduction a1 a2 a3 a4 (Some a5) a6 (Range c1 true c3 c4 c5 c6) a8) from to g env x s h st k en w l = absurd w

  -- what is done within, where so many may be within one another
  pub inner_all : (n : ℕ) (f : Fixed) → f.asked ≡ asked → (calls : ℕ → ℕ → Stored (Unit {0}) → List Passed → Stored Returned) (calls_only : (n s : ℕ) (before : Stored (Unit {0})) (passed : List Passed) → Closed Raised before → Closed Raised (calls n s before passed))
      (calls_all : (f' : Fixed) → Alike f' f → CallsDo limit cuts program globals mains c f' calls) (f' : Fixed) → Alike f' f → InnerDo limit cuts program globals mains (FittedReductions program globals mains lent c n) c f' calls
  inner_all n f fa calls calls_only calls_all f' e = record { called = λ rs. calls_all (with_rounds rs f') e; forked = λ rs. folds_do n (with_rounds rs f') (e.1 ∙ fa) calls calls_only (λ f'' e'. calls_all f'' (e'.0 ∙ e.0, e'.1 ∙ e.1)) }
