-- What parallel loops and blocks do, in one another: the mutual theorem's cases.
use Rattle.std.proofs.Common.{◌≡◌, ℕ, zero, suc, ◌-◌, ◌≤◌, pos, List, [], ◌∷◌, length, slice_get, Option, Some, None, Bool, true, false, refl, sym, ap, ◌∙◌, subst, ◌⊎◌, inr, ⊎_elim}
use Rattle.behaviours.specs.Paths.{Leave, Exits, Returns, Raises, Entity}
use Rattle.typed_tree.specs.Syntax.{Optional, Range, Components, Chunk, NoChunk, Count, Each, Null, Assign, CallProcedure, Exit, Return, ReturnValue, Raise, Reraise, IfThen, Case, Loop, For, ParallelFor, Parallel, Block, Put, Get, Arms, NoArm, Arm, Program}
use Rattle.ada_meaning.specs.Operations.{Operations}
use Rattle.ada_meaning.specs.Stored as stored
use Rattle.ada_meaning.specs.Stored.{Stored}
use Rattle.ada_meaning.specs.Meaning
use Rattle.ada_meaning.specs.Meaning.{Env, Passed, Returned, inside, arms_of}
use Rattle.stack_code.specs.declared.code.Around.TheVariants.{Site}
use Rattle.stack_code.specs.declared.code.Code.{Code}
use Rattle.stack_code.specs.declared.code.SiteKind.TheVariants as kind
use Rattle.stack_code.specs.declared.instr.Instr.TheVariants as i
use Rattle.ada_lower.specs.Driven.{Fixed, on, Alike}
use Rattle.ada_lower.proofs.Alike.{alike}
use Rattle.lower_emission.specs.Scope as scope
use Rattle.ada_lower.specs.Sights.{Scope, AllKnown, Amid, ByLeave, Emit, Known, Named, Scope, Sight, Stands, chunk_sight, one, range_sight, taking, thread_sight, turn_sight, with_outside, ◌⨟◌}
use Rattle.ada_lower.specs.Emission.{all, arm_codes, exits_of, arm_exits, returning, returning_value, chunk_code, chunk_by, fork_code, arms_code, left_code}
use Rattle.ada_lower.specs.Fits.{Ghost, Knows}
use Rattle.ada_lower.specs.FittedForks.{FittedForks, FittedReductions, FittedArms, Within}
use Rattle.ada_lower.proofs.Forks.{threaded, thread_ends}
use Rattle.typed_scopes.specs.Outs.{Out}
use Rattle.ada_lower.proofs.Calls.{CallsDo}
use Rattle.ada_lower.proofs.Inner.{InnerDo}
use Rattle.ada_lower.proofs.FoldDoes.{inner_all}
use Rattle.ada_lower.proofs.Framework.{comes_as, does_ret}
use Rattle.ada_lower.proofs.Statements.{Suits, suits_as, Acts, ParDoes, exits_known, filtered_does, all_does}
use Rattle.ada_lower.proofs.EvalLeaves.{Closed, Raised, c_ret, c_through, c_iterate}
use Rattle.ada_lower.proofs.ExecLeaves.{o_holds, o_all, o_arm}
use Rattle.ada_lower.proofs.ForkInside.{nested_in}
use Rattle.ada_lower.proofs.ForkLeft.{In, MayLeave}
use Rattle.ada_lower.proofs.ForkRange.{chunk_entry}
use Rattle.ada_lower.proofs.ForkArms.{ArmDoes}
use Rattle.ada_lower.proofs.ForkBlock.{block_does, block_is}
use Rattle.ada_lower.proofs.ForkItems.{component_sight}
use Rattle.ada_lower.proofs.ForkOf.{parallel_of_does}
use Rattle.ada_lower.proofs.ForkWhole.{parallel_loop_does}
use Rattle.ada_lower.proofs.Lent.{Lending}
use Rattle.stack_code.specs.declared.code.CodeSite.{CodeSite}

knows_outside : {limit : ℕ} {cuts : ℕ → ℕ → List ℕ} {g : Ghost} {f : Fixed} {s : Sight} {env : Env} (ns : List ℕ) → Knows limit cuts g f s env → Knows limit cuts g f (with_outside ns s) env
knows_outside ns k = record { most = k.most; nested = k.nested; plan = k.plan; kept = k.kept; top = k.top; beyond = k.beyond; global = k.global; outside = k.outside; one = k.one; old = k.old; hidden = k.hidden; object = k.object; parameter = k.parameter; item = k.item; constant_item = k.constant_item; target = k.target; handled = k.handled; free = k.free }

known_of : (s : Sight) (ns : List ℕ) → AllKnown s ns → (n : ℕ) → In n ns → Known s n
known_of s [] k n here = absurd here
known_of s (m ∷ ns) k n here = ⊎_elim (λ e. subst (λ m. Known s m) (sym e) k.0) (λ h. known_of s ns k.1 n h) here

may_leave : (number : ℕ) (loops : List ℕ) (l : Leave) → Out (λ m. (m ≡ number) ⊎ Amid m loops) l → MayLeave (Some number) loops l
may_leave number loops (Exits n) m = m
may_leave number loops (Returns v) m = tt
may_leave number loops (Raises r) m = tt

-- in a thread exits and returns leave to its construct
thread_suits : (limit : ℕ) (c : Code) (f : Fixed) (top : ℕ) (u : Sight) (site : ℕ) → u.scope.body ≡ Site site → u.scope.entry ≡ None → u.texts ≡ c.texts → u.scope.leaving ≡ ByLeave → ((n : ℕ) → u.scope.exits n ≡ None) → Suits limit c (threaded f top) thread_ends u
thread_suits limit c f top u site is en texts leaving exits = record {
  entry = en;
  flat = refl;
  rounds = refl;
  kept = refl;
  texts = texts;
  exits = λ n to e d. absurd (let z : ◌≡◌ {A = Option ℕ} None (Some to) = sym (exits n) ∙ e in cc);
  threads = λ n here. (site, is);
  away = λ n e here q en at d. comes_as limit c (threaded f top) [] d at refl;
  returns = λ t from to l d. comes_as limit c (threaded f top) [] d (subst (λ o. Stands c (returning t.scope 0 o) from to) leaving l).0 refl;
  gives = λ t from to v l d. comes_as limit c (threaded f top) (v ∷ []) d (subst (λ o. Stands c (returning_value t.scope o) from to) leaving l).0 refl;
}

module _ (asked : Option Program) (lent : Bool → Sight → ℕ → CodeSite → Type 0) (limit : ℕ) (cuts : ℕ → ℕ → List ℕ) (lending : Lending limit cuts asked lent) (within : Within cuts) (program : Program) (c : Code) (globals : ℕ → Entity → Option Named) (mains : Entity → Bool) where
  abbrev ops : Operations {1}
  ops = stored.noted_operations limit cuts

  turn_suits : (f : Fixed) (top : ℕ) (chunk : Chunk) (ns : List ℕ) (s : Sight) (p site : ℕ) → s.scope.body ≡ Site site → s.scope.entry ≡ None → s.texts ≡ c.texts → s.scope.leaving ≡ ByLeave → ((n : ℕ) → s.scope.exits n ≡ None) → Suits limit c (threaded f top) thread_ends (with_outside ns (range_sight (chunk_sight chunk (taking 2 s)) None p false 0))
  turn_suits f top NoChunk ns s p site is en texts leaving exits = thread_suits limit c f top _ site is en texts leaving exits
  turn_suits f top (Count e) ns s p site is en texts leaving exits = thread_suits limit c f top _ site is en texts leaving exits
  turn_suits f top (Each k low high check) ns s p site is en texts leaving exits = thread_suits limit c f top _ site is en texts leaving exits

  item_suits : (f : Fixed) (top : ℕ) (chunk : Chunk) (ns : List ℕ) (s : Sight) (p : ℕ) (constant : Bool) (stride site : ℕ) → s.scope.body ≡ Site site → s.scope.entry ≡ None → s.texts ≡ c.texts → s.scope.leaving ≡ ByLeave → ((n : ℕ) → s.scope.exits n ≡ None) → Suits limit c (threaded f top) thread_ends (with_outside ns (component_sight s chunk constant p stride))
  item_suits f top NoChunk ns s p constant stride site is en texts leaving exits = thread_suits limit c f top _ site is en texts leaving exits
  item_suits f top (Count e) ns s p constant stride site is en texts leaving exits = thread_suits limit c f top _ site is en texts leaving exits
  item_suits f top (Each k low high check) ns s p constant stride site is en texts leaving exits = thread_suits limit c f top _ site is en texts leaving exits

  arms_many : (t : Sight) (arms : Arms) → length (arm_codes program t.scope arms) ≡ arms_of arms
  unfolding Rattle.ada_lower.specs.Emission.stmt
  arms_many t NoArm = refl
  arms_many t (Arm stmts rest) = ap suc (arms_many t rest)

  -- the code of a parallel block
  abbrev block_code : (many : ℕ) → Sight → ℕ → Optional → Arms → Emit
  block_code many s site count arms =
      let t = scope.taking 2 (scope.taking 2 (scope.thread_scope site s.scope)) in
      let es = arm_codes program t arms in
      let r = scope.nested s.scope in
      one s.scope 0 i.Nest ⨟ chunk_code program r 0 (chunk_by program count) ⨟ one r 0 (i.Push (pos 0)) ⨟ one r 1 (i.Push (pos (many - 1)))
      ⨟ fork_code r 0 2 (kind.Block many) site s.scope.free (one r 4 (i.Push (pos 0))) (arms_code program t 0 es ⨟ one t 0 i.End) ⨟ one r 2 i.Unnest ⨟ left_code (taking 2 s).scope None (arm_exits arms)

  block_leaves : (loops : List ℕ) (l : Leave) → Out (λ m. Amid m loops) l → MayLeave None loops l
  block_leaves loops (Exits n) m = inr m
  block_leaves loops (Returns v) m = tt
  block_leaves loops (Raises r) m = tt

  arms_each : (n : ℕ) (f : Fixed) (calls : ℕ → ℕ → Stored (Unit {0}) → List Passed → Stored Returned) (calls_only : (n s : ℕ) (before : Stored (Unit {0})) (passed : List Passed) → Closed Raised before → Closed Raised (calls n s before passed))
      (calls_all : (f' : Fixed) → Alike f' f → InnerDo limit cuts program globals mains (FittedReductions program globals mains lent c n) c f' calls) → ParDoes limit cuts program c f calls globals mains (FittedReductions program globals mains lent c n) (calls_all f (alike f)) (FittedForks program globals mains lent c n)
      → (w t : Sight) (en : t.scope.entry ≡ None) (arms : Arms) (env : Env) (g : Ghost) → Knows limit cuts g f w env → Suits limit c f thread_ends w → FittedArms program globals mains (FittedReductions program globals mains lent c n) (FittedForks program globals mains lent c n) w arms → (j : ℕ)
      → ArmDoes limit cuts program c f calls globals mains (FittedReductions program globals mains lent c n) calls_all t en g (slice_get (arm_codes program w.scope arms) j) (Meaning.exec_arm ops limit program calls arms j env)
  unfolding Rattle.ada_lower.specs.Emission.emit Rattle.ada_lower.specs.Emission.stmt
  arms_each n f calls calls_only calls_all pd w t en NoArm env g k u wa j = λ p. does_ret limit c f thread_ends {to = λ _ d. on f p [] d} tt tt
  arms_each n f calls calls_only calls_all pd w t en (Arm stmts rest) env g k u wa zero = λ p q l.
      all_does limit cuts program c f calls globals mains (FittedReductions program globals mains lent c n) (calls_all f (alike f)) (FittedForks program globals mains lent c n) pd stmts p q thread_ends w k u wa.0 l
  arms_each n f calls calls_only calls_all pd w t en (Arm stmts rest) env g k u wa (suc j) = arms_each n f calls calls_only calls_all pd w t en rest env g k u wa.1 j

  pub forks_do : (n : ℕ) (f : Fixed) (fa : f.asked ≡ asked) (calls : ℕ → ℕ → Stored (Unit {0}) → List Passed → Stored Returned) (calls_only : (n s : ℕ) (before : Stored (Unit {0})) (passed : List Passed) → Closed Raised before → Closed Raised (calls n s before passed))
      (calls_all : (f' : Fixed) → Alike f' f → CallsDo limit cuts program globals mains c f' calls) → ParDoes limit cuts program c f calls globals mains (FittedReductions program globals mains lent c n) (inner_all asked lent limit cuts lending within program c globals mains n f fa calls calls_only calls_all f (alike f)) (FittedForks program globals mains lent c n)
  unfolding Rattle.ada_lower.specs.Emission.emit Rattle.ada_lower.specs.Emission.stmt
  forks_do zero f fa calls calls_only calls_all t from to g env x s k u w l = absurd w
  forks_do (suc n) f fa calls calls_only calls_all (ParallelFor number site chunk (Range p false low high check filter) stmts) from to g env x s k u (cs, (site_at, frame, four, entry), here, kind, room, wc, wl, wh, loops, among, known, outs, wf, ws) l =
      let all_in : (f' : Fixed) → Alike f' f → InnerDo limit cuts program globals mains (FittedReductions program globals mains lent c n) c f' calls = inner_all asked lent limit cuts lending within program c globals mains n f fa calls calls_only calls_all in
      let s4 : Sight = taking 2 (taking 2 s) in
      let turn : Sight = turn_sight (thread_sight site cs.frame s4) chunk (Range p false low high check filter) in
      let body : Scope → Emit = λ u. all program u stmts in
      parallel_loop_does limit cuts program c f calls globals mains (FittedReductions program globals mains lent c n) all_in x g env s k u u.kept k.nested k.plan room number (exits_of stmts) loops among
      (λ m a b there st d. exits_known limit cuts program c f calls globals mains (FittedReductions program globals mains lent c n) (all_in f (alike f)) {x = x} {s = s4} m a b (suits_as s4 s refl refl refl refl refl (λ n. refl) u) (known_of s loops known m there) st d)
      chunk cs site site_at kind four entry p low high check filter (λ e. Meaning.exec_all ops limit program calls stmts e) body
      (λ f' fc top is g' env' a b kk ss.
      filtered_does limit cuts program c f' calls globals mains (FittedReductions program globals mains lent c n) (all_in f' fc) thread_ends filter (body turn.scope) a b turn 0 kk (chunk_entry chunk (taking 2 (thread_sight site cs.frame s4))) wf ss
      (λ a' ss'. all_does limit cuts program c f' calls globals mains (FittedReductions program globals mains lent c n) (all_in f' fc) (FittedForks program globals mains lent c n) (forks_do n f' (fc.1 ∙ fa) calls calls_only (λ f'' e. calls_all f'' (e.0 ∙ fc.0, e.1 ∙ fc.1)))
      stmts a' b thread_ends (with_outside (number ∷ loops) turn) (knows_outside (number ∷ loops) kk)
      (subst (λ y. Suits limit c y thread_ends (with_outside (number ∷ loops) turn)) (sym is) (turn_suits (nested_in f) top chunk (number ∷ loops) (thread_sight site cs.frame s4) p site refl refl u.texts refl (λ n. refl))) ws ss'))
      (λ first size envs st w e. may_leave number loops w
      ((c_through (Out (λ m. (m ≡ number) ⊎ Amid m loops)) (λ i (a : Unit {0}). Meaning.iterate ops (Meaning.holds ops limit program calls filter (envs i)) (Meaning.exec_all ops limit program calls stmts (envs i)))
      (λ i a. c_iterate (Out (λ m. (m ≡ number) ⊎ Amid m loops)) (λ r. tt) limit cuts _ _ (o_holds limit cuts program calls (λ n s ps. calls_only n s (stored.ret tt) ps (c_ret Raised tt)) calls_only (λ m. (m ≡ number) ⊎ Amid m loops) filter (envs i))
      (o_all limit cuts program calls (λ n s ps. calls_only n s (stored.ret tt) ps (c_ret Raised tt)) calls_only (λ m. (m ≡ number) ⊎ Amid m loops) stmts (envs i) outs)) first size tt).by st w e))
      (λ k cl ch l u told gg kk. lending.loops f fa s env site cs here chunk p low high check filter k cl ch l u kind told gg kk)
      wc wl wh from to l
  forks_do (suc n) f fa calls calls_only calls_all (ParallelFor number site chunk (Components p constant a0 r0 selections count stride dimensions filter) stmts) from to g env x s k u (cs, (site_at, frame, four, entry), here, five, kind, room, wc, (e, is, reach), wsel, loops, among, known, outs, wf, ws) l =
      let all_in : (f' : Fixed) → Alike f' f → InnerDo limit cuts program globals mains (FittedReductions program globals mains lent c n) c f' calls = inner_all asked lent limit cuts lending within program c globals mains n f fa calls calls_only calls_all in
      let s4 : Sight = taking 2 (taking 2 s) in
      let turn : Sight = turn_sight (thread_sight site cs.frame s4) chunk (Components p constant a0 r0 selections count stride dimensions filter) in
      let body : Scope → Emit = λ u. all program u stmts in
      parallel_of_does limit cuts within program c f calls globals mains (FittedReductions program globals mains lent c n) all_in x g env s k u u.kept k.nested k.plan room number (exits_of stmts) loops among
      (λ m a b there st d. exits_known limit cuts program c f calls globals mains (FittedReductions program globals mains lent c n) (all_in f (alike f)) {x = x} {s = s4} m a b (suits_as s4 s refl refl refl refl refl (λ n. refl) u) (known_of s loops known m there) st d)
      chunk cs site site_at kind four five entry p constant a0 r0 selections count stride dimensions filter (λ e. Meaning.exec_all ops limit program calls stmts e) body
      (λ f' fc top is g' env' a b kk ss.
      filtered_does limit cuts program c f' calls globals mains (FittedReductions program globals mains lent c n) (all_in f' fc) thread_ends filter (body turn.scope) a b turn 0 kk (chunk_entry chunk (taking 2 (thread_sight site cs.frame s4))) wf ss
      (λ a' ss'. all_does limit cuts program c f' calls globals mains (FittedReductions program globals mains lent c n) (all_in f' fc) (FittedForks program globals mains lent c n) (forks_do n f' (fc.1 ∙ fa) calls calls_only (λ f'' e. calls_all f'' (e.0 ∙ fc.0, e.1 ∙ fc.1)))
      stmts a' b thread_ends (with_outside (number ∷ loops) turn) (knows_outside (number ∷ loops) kk)
      (subst (λ y. Suits limit c y thread_ends (with_outside (number ∷ loops) turn)) (sym is) (item_suits (nested_in f) top chunk (number ∷ loops) (thread_sight site cs.frame s4) p constant stride site refl refl u.texts refl (λ n. refl))) ws ss'))
      (λ first size envs st w e. may_leave number loops w
      ((c_through (Out (λ m. (m ≡ number) ⊎ Amid m loops)) (λ i (a : Unit {0}). Meaning.iterate ops (Meaning.holds ops limit program calls filter (envs i)) (Meaning.exec_all ops limit program calls stmts (envs i)))
      (λ i a. c_iterate (Out (λ m. (m ≡ number) ⊎ Amid m loops)) (λ r. tt) limit cuts _ _ (o_holds limit cuts program calls (λ n s ps. calls_only n s (stored.ret tt) ps (c_ret Raised tt)) calls_only (λ m. (m ≡ number) ⊎ Amid m loops) filter (envs i))
      (o_all limit cuts program calls (λ n s ps. calls_only n s (stored.ret tt) ps (c_ret Raised tt)) calls_only (λ m. (m ≡ number) ⊎ Amid m loops) stmts (envs i) outs)) first size tt).by st w e))
      (λ k cl ch q a told gg kk part. lending.items f fa s env site cs here chunk p constant a0 r0 selections count stride dimensions filter k cl ch q a kind told gg kk part)
      {e = e} wc is reach wsel from to l
  forks_do (suc n) f fa calls calls_only calls_all (Parallel site count arms) from to g env x s k u (cs, (site_at, frame, four, entry), here, kind', room, some_arms, few_arms, wc, loops, among, known, outs, wa) l =
      let all_in : (f' : Fixed) → Alike f' f → InnerDo limit cuts program globals mains (FittedReductions program globals mains lent c n) c f' calls = inner_all asked lent limit cuts lending within program c globals mains n f fa calls calls_only calls_all in
      let s2 : Sight = taking 2 s in
      let t : Sight = taking 2 (taking 2 (thread_sight site cs.frame s2)) in
      let es : List Emit = arm_codes program (with_outside loops t).scope arms in
      let many : length es ≡ arms_of arms = arms_many (with_outside loops t) arms in
      subst (λ m. Acts limit cuts program c f calls globals mains (FittedReductions program globals mains lent c n) (all_in f (alike f)) x g m from to) (sym (block_is limit cuts program calls site count arms (length es) env (sym many)))
      (block_does limit cuts program c f calls globals mains (FittedReductions program globals mains lent c n) all_in x g env s k u u.kept k.nested room (arm_exits arms) loops among
      (λ m a b there st d. exits_known limit cuts program c f calls globals mains (FittedReductions program globals mains lent c n) (all_in f (alike f)) {x = x} {s = s2} m a b (suits_as s2 s refl refl refl refl refl (λ n. refl) u) (known_of s loops known m there) st d)
      cs site site_at four entry count es (subst (λ m. 1 ≤ m) (sym many) some_arms) (subst (λ m. m ≤ 4611686018427387904) (sym many) few_arms) (kind' ∙ ap kind.Block (sym many)) (λ j. Meaning.exec_arm ops limit program calls arms j (inside env))
      (λ f' fc top is gi j kk. arms_each n f' calls calls_only (λ f'' e. all_in f'' (e.0 ∙ fc.0, e.1 ∙ fc.1)) (forks_do n f' (fc.1 ∙ fa) calls calls_only (λ f'' e. calls_all f'' (e.0 ∙ fc.0, e.1 ∙ fc.1))) (with_outside loops t) t refl arms (inside env) gi (knows_outside loops kk)
      (subst (λ y. Suits limit c y thread_ends (with_outside loops t)) (sym is) (thread_suits limit c (nested_in f) top (with_outside loops t) site refl refl u.texts refl (λ n. refl))) wa j)
      (λ first size st w e. block_leaves loops w
      ((c_through (Out (λ m. Amid m loops)) (λ j (a : Unit {0}). Meaning.exec_arm ops limit program calls arms j (inside env))
      (λ j a. o_arm limit cuts program calls (λ n s ps. calls_only n s (stored.ret tt) ps (c_ret Raised tt)) calls_only (λ m. Amid m loops) arms j (inside env) outs) first size tt).by st w e))
      (λ ch gg kk. lending.blocks f fa s env site cs here (length es) ch (kind' ∙ ap kind.Block (sym many)) gg kk)
      wc from to (subst (λ m. Stands c (block_code m s site count arms) from to) (sym many) l))
  forks_do (suc n) f fa calls calls_only calls_all Null from to g env x s k u w l = absurd w
  forks_do (suc n) f fa calls calls_only calls_all (Assign a1 a2 a3 a4) from to g env x s k u w l = absurd w
  forks_do (suc n) f fa calls calls_only calls_all (CallProcedure a1 a2 a3 a4) from to g env x s k u w l = absurd w
  forks_do (suc n) f fa calls calls_only calls_all (Exit a1 a2) from to g env x s k u w l = absurd w
  forks_do (suc n) f fa calls calls_only calls_all Return from to g env x s k u w l = absurd w
  forks_do (suc n) f fa calls calls_only calls_all (ReturnValue a1) from to g env x s k u w l = absurd w
  forks_do (suc n) f fa calls calls_only calls_all (Raise a1) from to g env x s k u w l = absurd w
  forks_do (suc n) f fa calls calls_only calls_all Reraise from to g env x s k u w l = absurd w
  forks_do (suc n) f fa calls calls_only calls_all (IfThen a1 a2 a3) from to g env x s k u w l = absurd w
  forks_do (suc n) f fa calls calls_only calls_all (Case a1 a2) from to g env x s k u w l = absurd w
  forks_do (suc n) f fa calls calls_only calls_all (Loop a1 a2 a3) from to g env x s k u w l = absurd w
  forks_do (suc n) f fa calls calls_only calls_all (For a1 a2 a3) from to g env x s k u w l = absurd w
  forks_do (suc n) f fa calls calls_only calls_all (ParallelFor a1 a2 a3 (Range p true a5 a6 a7 a8) a9) from to g env x s k u w l = absurd w
  forks_do (suc n) f fa calls calls_only calls_all (Block a1 a2 a3) from to g env x s k u w l = absurd w
  forks_do (suc n) f fa calls calls_only calls_all (Put a1 a2 a3 a4) from to g env x s k u w l = absurd w
  forks_do (suc n) f fa calls calls_only calls_all (Get a1 a2 a3 a4 a5 a6) from to g env x s k u w l = absurd w
