-- Parallel loops and reductions over ranges, as statements and expressions are.
use Rattle.std.proofs.Common.{◌≡◌, ℕ, ◌+◌, ◌<◌, ◌≤◌, List, [], slice_get, Option, Some, Err, Bool, false, cond, arith, ℤ, pos, ◌-ℤ◌, ◌+ℤ◌}
use Rattle.behaviours.specs.Doings.{through}
use Rattle.behaviours.specs.Paths.{Leave}
use Rattle.typed_tree.specs.declared.scalars.Check.{Check}
use Rattle.typed_tree.specs.Syntax.{Expr, Optional, Range, Chunk, Program}
use Rattle.ada_meaning.specs.Stored as stored
use Rattle.ada_meaning.specs.Stored.{Stored}
use Rattle.ada_meaning.specs.Meaning
use Rattle.ada_meaning.specs.Meaning.{Env, Passed, Returned, inside, Chunking, cut_of}
use Rattle.stack_code.specs.declared.code.Code.{Code}
use Rattle.stack_code.specs.declared.code.CodeSite.{CodeSite}
use Rattle.stack_code.specs.declared.instr.Instr.TheVariants as i
use Rattle.behaviours.specs.Paths.{Entity}
use Rattle.ada_lower.specs.Driven.{Dyn, Fixed, on, sizes_for, Alike}
use Rattle.ada_lower.proofs.Alike.{alike}
use Rattle.ada_lower.specs.Sights.{nested_sight, Emit, Named, Scope, Sight, Stands, taking}
use Rattle.ada_lower.specs.Emission.{exiting, filtered}
use Rattle.ada_lower.specs.Fits.{Ghost, Ends, Knows}
use Rattle.ada_lower.specs.FittedForks.{FittedChunk}
use Rattle.ada_lower.specs.Fitted.{Fitted}
use Rattle.ada_lower.proofs.Forks.{threaded, thread_ends}
use Rattle.ada_lower.specs.Emission.{loop_kind, parallel_for}
use Rattle.ada_lower.proofs.Inner.{InnerDo}
use Rattle.ada_lower.proofs.Framework.{To}
use Rattle.ada_lower.proofs.Statements.{Suits, Acts}
use Rattle.ada_lower.proofs.ForkInside.{nested_in}
use Rattle.ada_lower.proofs.ForkLeft.{In, MayLeave}
use Rattle.ada_lower.proofs.ForkRange.{knows_nested, turn, parallel, parallel_for_does, knows_forked, Chunks}
use Rattle.ada_lower.proofs.ForkChunks.{chunk_does}
use Rattle.ada_lower.proofs.ForkFine.{Lends}
use Rattle.behaviours.specs.Joins.{deal}

-- a parallel loop over a range, where code does each of its turns
pub parallel_loop_does : (limit : ℕ) (cuts : ℕ → ℕ → List ℕ) (program : Program) (c : Code) (f : Fixed) (calls : ℕ → ℕ → Stored (Unit {0}) → List Passed → Stored Returned) (globals : ℕ → Entity → Option Named) (mains : Entity → Bool) (epar : Sight → Expr → Type 0) (calls_all : (f' : Fixed) → Alike f' f → InnerDo limit cuts program globals mains epar c f' calls)
    (x : Ends) (g : Ghost) (env : Env) (s : Sight) (kn : Knows limit cuts g f s env) (su : Suits limit c f x s) (kept : f.kept ≡ []) (nested : f.nested ≡ env.nested) (plan : g.plan ≡ cuts) (room : s.scope.free + 5 < s.cells)
    (number : ℕ) (all loops : List ℕ) (within : (n : ℕ) → In n loops → In n all) (exits_to : (n from to : ℕ) → In n loops → Stands c (exiting (taking 2 (taking 2 s)).scope n (s.scope.exits n)) from to → (d : Dyn) → To limit c (on f from [] d) (x.exits n d))
    (chunk : Chunk) (cs : CodeSite) (site : ℕ) (site_at : slice_get c.sites site ≡ Some cs) (kind : cs.kind ≡ loop_kind chunk) (four : 4 ≤ cs.frame) (entry : (qf : ℕ) → slice_get c.instrs qf ≡ Some (i.Fork site) → cs.entry ≡ qf + 1 + 1)
    (p : ℕ) (low high : Expr) (check : Option Check) (filter : Optional) (does : Env → Stored (Unit {0})) (body : Scope → Emit)
    (step : let u = turn limit cuts program c f calls globals mains epar calls_all x g env s kn su kept nested plan room number all loops within exits_to chunk cs site site_at kind four entry p low high check filter does body in
    (f' : Fixed) (fc : Alike f' f) (top : ℕ) (is : f' ≡ threaded (nested_in f) top) (g' : Ghost) (env' : Env) (a b : ℕ) → Knows limit cuts g' f' u env' → Stands c (filtered program u.scope 0 filter (body u.scope)) a b
    → Acts limit cuts program c f' calls globals mains epar (calls_all f' fc) thread_ends g' (stored.bind (Meaning.holds (stored.noted_operations limit cuts) limit program calls filter env') (λ z. cond z (does env') (stored.ret (tt {0})))) a b)
    (leaves_so : (first size : ℕ) (envs : ℕ → Env) (st : stored.State) (l : Leave) → ((through stored.doings first size (tt {0}) (λ i _. Meaning.iterate (stored.noted_operations limit cuts) (Meaning.holds (stored.noted_operations limit cuts) limit program calls filter (envs i)) (does (envs i)))).does st).end ≡ Err (stored.Left l) → MayLeave (Some number) loops l)
    (lends : (k : Chunking) (cl ch l u : ℤ) → Chunks chunk cl ch k → (gg : Ghost) → Knows limit cuts gg (nested_in f) (taking 2 (taking 2 s)) (inside env)
    → Lends (nested_in f) gg cs (Rattle.stack_code.specs.Deeds.asked site l u cl ch (pos 0))
    (Meaning.site_at site chunk (Range p false low high check filter) (cut_of k (Rattle.ada_meaning.specs.Values.count l u)) k (record { count = Rattle.ada_meaning.specs.Values.count l u; bound = λ i. Meaning.with_parameter p (cond false (u -ℤ pos i) (l +ℤ pos i)) }) (inside env))
    (deal 0 0 (sizes_for gg.plan cs.kind (Rattle.stack_code.specs.Deeds.asked site l u cl ch (pos 0)))))
    → FittedChunk program globals mains epar (nested_sight s) chunk → Fitted program globals mains epar (taking 2 (nested_sight s)) low → Fitted program globals mains epar (taking 1 (taking 2 (nested_sight s))) high → (from to : ℕ) → Stands c (parallel_for program s.scope number site chunk (Range p false low high check filter) all body) from to
    → Acts limit cuts program c f calls globals mains epar (calls_all f (alike f)) x g (parallel limit cuts program c f calls globals mains epar calls_all x g env s kn su kept nested plan room number all loops within exits_to chunk cs site site_at kind four entry p low high check filter does body step leaves_so lends) from to
parallel_loop_does limit cuts program c f calls globals mains epar calls_all x g env s kn su kept nested plan room number all loops within exits_to chunk cs site site_at kind four entry p low high check filter does body step leaves_so lends wc wl wh from to l =
    parallel_for_does limit cuts program c f calls globals mains epar calls_all x g env s kn su kept nested plan room number all loops within exits_to chunk cs site site_at kind four entry p low high check filter does body step leaves_so lends
    (λ from to l then goal k. chunk_does limit cuts program c (nested_in f) calls globals mains epar calls_all x g (inside env) (nested_sight s) (knows_nested (knows_forked kn)) su.entry (omega (arith, room)) 0 [] (Unit {0}) chunk from to l wc then goal k)
    wl wh from to l
