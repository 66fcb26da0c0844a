-- That what is asked of parallel loops can be given: parallel for I in 1 .. 4 loop null; end loop;
use Rattle.std.proofs.Common.{◌≡◌, ℕ, zero, suc, ◌+◌, List, [], ◌∷◌, length, map, slice_get, nat_eq, Option, Some, None, Err, Bool, true, false, cond, ◌&&◌, refl, sym, ap, ◌∙◌, subst, arith, inl, inr}
use Rattle.std.proofs.lemmas.Bool.{eqb-false}
use Rattle.behaviours.specs.Doings.{through}
use Rattle.behaviours.specs.Paths.{Leave}
use Rattle.typed_tree.specs.Syntax.{Stmt, Expr, Absent, Range, NoChunk, End, ParallelFor, Iteration, Program}
use Rattle.ada_meaning.specs.Stored as stored
use Rattle.ada_meaning.specs.Stored.{Stored}
use Rattle.ada_meaning.specs.Meaning
use Rattle.ada_meaning.specs.Meaning.{Env, Passed, Returned}
use Rattle.ada_meaning.proofs.Cells.{some_same}
use Rattle.stack_code.specs.declared.code.Around.TheVariants as around
use Rattle.stack_code.specs.declared.code.Code.{Code}
use Rattle.stack_code.specs.declared.code.CodeSite.{CodeSite}
use Rattle.stack_code.specs.declared.code.SiteKind.TheVariants as kind
use Rattle.stack_code.specs.declared.instr.Instr.{Instr}
use Rattle.stack_code.specs.declared.instr.Instr.TheVariants as i
use Rattle.ada_lower.specs.Driven.{Fixed, At, Alike}
use Rattle.ada_lower.proofs.Alike.{alike}
use Rattle.ada_lower.specs.Sights.{Emit, Lies, Placed, Scope, Sight, Stands, listed, none}
use Rattle.ada_lower.specs.Fits.{Ghost, Ends, Knows}
use Rattle.ada_lower.specs.Bodies.{main_scope}
use Rattle.ada_lower.specs.Emission.{parallel_for}
use Rattle.ada_lower.proofs.Inner.{InnerDo}
use Rattle.ada_lower.specs.Driven.{on}
use Rattle.ada_lower.proofs.Forks.{thread_ends}
use Rattle.ada_lower.proofs.Framework.{any, does_ret, does_returned}
use Rattle.ada_lower.proofs.Parts.{Runs}
use Rattle.ada_lower.proofs.Statements.{Suits, Acts}
use Rattle.ada_lower.proofs.Example.{number, none_there, none_main, text, no_threads}
use Rattle.ada_lower.proofs.ForkLeft.{In, MayLeave}
use Rattle.ada_lower.proofs.ForkWhole.{parallel_loop_does}
use Rattle.ada_lower.proofs.ForkLeaves.{only_ret, only_through, only_iterate}
use Rattle.ada_lower.proofs.Lent.{unasked}
use Rattle.ada_lower.proofs.ForkInside.{nested_in}

-- ---- where a site's forks stand, by a look at the code

abbrev four_each : ℕ → ℕ
four_each n = 4

abbrev no_fork : Sight → Stmt → Type 0
no_fork s t = ⊥

abbrev pub is_fork : ℕ → Instr → Bool
is_fork site (i.Fork n) = nat_eq n site
is_fork site _ = false

abbrev pub forks_at : ℕ → List Instr → ℕ → List ℕ
forks_at site [] from = []
forks_at site (j ∷ js) from = cond (is_fork site j) (from ∷ forks_at site js (suc from)) (forks_at site js (suc from))

in_later : (b : Bool) (from q : ℕ) (qs : List ℕ) → In q qs → In q (cond b (from ∷ qs) qs)
in_later true from q qs h = inr h
in_later false from q qs h = h

itself : (n : ℕ) → nat_eq n n ≡ true
itself n = go (nat_eq n n) refl
  where
    go : (b : Bool) → nat_eq n n ≡ b → nat_eq n n ≡ true
    go true e = e
    go false e = absurd (eqb-false n n e refl)

pub fork_found : (site : ℕ) (js : List Instr) (from k : ℕ) → slice_get js k ≡ Some (i.Fork site) → In (from + k) (forks_at site js from)
fork_found site [] from k e = absurd (let h : ◌≡◌ {A = Option Instr} None (Some (i.Fork site)) = e in cc)
fork_found site (j ∷ js) from zero e =
    subst (λ b. In (from + 0) (cond b (from ∷ forks_at site js (suc from)) (forks_at site js (suc from)))) (sym (ap (is_fork site) (some_same j (i.Fork site) e) ∙ itself site)) (inl (let h : from + 0 ≡ from = omega arith in h))
fork_found site (j ∷ js) from (suc k) e = in_later (is_fork site j) from (from + suc k) (forks_at site js (suc from)) (subst (λ q. In q (forks_at site js (suc from))) (let h : suc from + k ≡ from + suc k = omega arith in h) (fork_found site js (suc from) k e))

-- ---- the example

abbrev program : Program
program = record { subtypes = []; objects = []; subs = []; sites = []; exceptions = []; body = record { decls = Rattle.typed_tree.specs.Syntax.NoDecl; stmts = End; handlers = Rattle.typed_tree.specs.Syntax.NoHandler }; nonblocking = false; strict = false }

abbrev it : Iteration
it = Range 0 false (number 1) (number 4) None Absent

abbrev sight : Sight
sight = main_scope program none_there none_main [] text four_each 6

-- code that is the whole code lies in it
abbrev without : Option ℕ → Bool
without None = true
without (Some e) = false

abbrev unheld : List Placed → Bool
unheld [] = true
unheld (p ∷ ps) = without p.entry && unheld ps

at_none : (c : Code) → c.unwind ≡ [] → (q : ℕ) (p : Placed) → slice_get c.instrs q ≡ Some p.instr → without p.entry ≡ true → At c q p.instr p.entry
at_none c bare q p e h = go p.entry h
  where
    go : (o : Option ℕ) → without o ≡ true → At c q p.instr o
    go None h = record { is = inl e; held = subst (λ us. Rattle.ada_lower.specs.Driven.HeldBy c (Rattle.stack_code.specs.Machine.entry_of us q) None) (sym bare) tt }
    go (Some e) h = absurd (let z : false ≡ true = h in cc)

both : (a b : Bool) → (a && b) ≡ true → (a ≡ true) × (b ≡ true)
both true true e = (refl, refl)
both true false e = absurd (let z : false ≡ true = e in cc)
both false b e = absurd (let z : false ≡ true = e in cc)

pub lies_at : (c : Code) → c.unwind ≡ [] → (from : ℕ) (ps : List Placed) (to : ℕ) → to ≡ from + length ps → ((k : ℕ) → slice_get c.instrs (from + k) ≡ slice_get (map (λ p. p.instr) ps) k) → unheld ps ≡ true → Lies c from ps to
lies_at c bare from [] to e h n = (let z : to ≡ from + 0 = e in omega (arith, z))
lies_at c bare from (p ∷ ps) to e h n =
    let (n1, n2) = both (without p.entry) (unheld ps) n in
    let z : from + 0 ≡ from = omega arith in (
      at_none c bare from p (ap (λ q. slice_get c.instrs q) (sym z) ∙ h 0) n1,
      lies_at c bare (from + 1) ps to (let y : to ≡ from + suc (length ps) = e in omega (arith, y)) (λ k. (let w : from + 1 + k ≡ from + suc k = omega arith in ap (λ q. slice_get c.instrs q) w) ∙ h (suc k)) n2,
    )

abbrev nothing : Scope → Emit
nothing u = none

abbrev looping : Emit
looping = parallel_for program sight.scope 0 0 NoChunk it [] nothing

abbrev site : CodeSite
site = record { entry = 20; frame = 4; stack = 3; around = around.Sub 0; kind = kind.Loop; leases = [] }

abbrev pub code : Code
code = record { instrs = map (λ p. p.instr) (listed looping 0); spots = []; unwind = []; sites = site ∷ []; subs = []; texts = [] }

sited : (qf : ℕ) → slice_get code.instrs qf ≡ Some (i.Fork 0) → 20 ≡ qf + 1 + 1
unfolding Rattle.ada_lower.specs.Emission.emit Rattle.ada_lower.specs.Emission.stmt Rattle.ada_lower.specs.Emission.back_code Rattle.ada_lower.specs.Emission.piece_values
sited qf e = go (fork_found 0 code.instrs 0 qf e)
  where
    go : In (0 + qf) (18 ∷ []) → 20 ≡ qf + 1 + 1
    go (inl h) = omega (arith, h)
    go (inr h) = absurd h

stands : Stands code looping 0 (length (listed looping 0))
unfolding Rattle.ada_lower.specs.Emission.emit Rattle.ada_lower.specs.Emission.stmt Rattle.ada_lower.specs.Emission.back_code Rattle.ada_lower.specs.Emission.piece_values
stands = lies_at code refl 0 (listed looping 0) (length (listed looping 0)) refl (λ k. (let z : 0 + k ≡ k = omega arith in ap (λ q. slice_get code.instrs q) z)) refl

-- in any state that fits
module _ (limit : ℕ) (cuts : ℕ → ℕ → List ℕ) (f : Fixed) (calls : ℕ → ℕ → Stored (Unit {0}) → List Passed → Stored Returned) (calls_all : (f' : Fixed) → Alike f' f → InnerDo limit cuts program none_there none_main no_threads code f' calls)
    (x : Ends) (g : Ghost) (env : Env) (kn : Knows limit cuts g f sight env) (su : Suits limit code f x sight) (kept : f.kept ≡ []) (nested : f.nested ≡ env.nested) (plan : g.plan ≡ cuts) (not_asked : f.asked ≡ None) where
  turn_does : (f' : Fixed) (fc : Alike f' f) (g' : Ghost) (env' : Env) (a b : ℕ) → b ≡ a
      → Acts limit cuts program code f' calls none_there none_main no_threads (calls_all f' fc) thread_ends g' (stored.bind (Meaning.holds (stored.noted_operations limit cuts) limit program calls Absent env') (λ z. cond z (stored.ret (tt {0})) (stored.ret (tt {0})))) a b
  turn_does f' fc g' env' a b e = does_returned limit code f' thread_ends (λ z. cond z (stored.ret (tt {0})) (stored.ret (tt {0}))) true
      (subst (λ q. Runs limit code f' thread_ends g' any (stored.ret (tt {0})) (λ d. on f' a [] d) (λ _ d. on f' q [] d)) (sym e) (does_ret limit code f' thread_ends {to = λ _ d. on f' a [] d} tt tt))

  leaves_so : (first size : ℕ) (envs : ℕ → Env) (st : stored.State) (l : Leave) → ((through stored.doings first size (tt {0}) (λ i _. Meaning.iterate (stored.noted_operations limit cuts) (Meaning.holds (stored.noted_operations limit cuts) limit program calls Absent (envs i)) (stored.ret (tt {0})))).does st).end ≡ Err (stored.Left l) → MayLeave (Some 0) [] l
  leaves_so first size envs = only_through (MayLeave (Some 0) []) (λ i _. Meaning.iterate (stored.noted_operations limit cuts) (Meaning.holds (stored.noted_operations limit cuts) limit program calls Absent (envs i)) (stored.ret (tt {0})))
      (λ i a. only_iterate (MayLeave (Some 0) []) limit cuts (stored.ret true) (stored.ret tt) (only_ret (MayLeave (Some 0) []) true) (only_ret (MayLeave (Some 0) []) (tt {0}))) first size tt

  pub loop_does : Acts limit cuts program code f calls none_there none_main no_threads (calls_all f (alike f)) x g (Meaning.exec (stored.noted_operations limit cuts) limit program calls (ParallelFor 0 0 NoChunk it End) env) 0 (length (listed looping 0))
  unfolding Rattle.ada_lower.specs.Emission.emit
  loop_does = parallel_loop_does limit cuts program code f calls none_there none_main no_threads calls_all x g env sight kn su kept nested plan (omega arith) 0 [] [] (λ n h. h) (λ n from to h l d. absurd h) NoChunk site 0 refl refl (omega arith) sited
      0 (number 1) (number 4) None Absent (λ e. stored.ret tt) nothing (λ f' fc top is g' env' a b k l. turn_does f' fc g' env' a b l) leaves_so (λ k cl ch l u told gg kk. unasked (nested_in f) not_asked) tt tt tt 0 (length (listed looping 0)) stands
