-- A parallel reduction, of what its parts emit.
use Rattle.std.proofs.Common.{◌≡◌, refl, ap, ◌∙◌, ℕ, ◌+◌, List, length}
use Rattle.std.specs.Prelude.{Some}
use Rattle.typed_tree.specs.Decoded.{chunk_at, expr_at, iteration_at}
use Rattle.typed_tree.specs.Syntax.{Reduction}
use Rattle.typed_tree.specs.declared.expressions.Reducer.{Reducer}
use Rattle.typed_tree.specs.declared.typed.Typed.{Typed}
use Rattle.stack_code.specs.declared.code.SiteKind.{SiteKind}
use Rattle.stack_code.specs.declared.instr.Instr.TheVariants as i
use Rattle.lower_emission.specs.declared.types.Placed.{Placed}
use Rattle.lower_emission.specs.Emission as spec
use Rattle.lower_emission.specs.declared.types.Mark.{Mark}
use Rattle.lower_emission.specs.Emits.{Emit, One, Aside, aimed, gap, put, written}
use Rattle.lower_emission.specs.Scope.{Scope, ◌⨟◌, aside, forks, keep, mark, nested, one, taking, thread_scope}
use Rattle.lower_values.specs.declared.types.Env.{Env}
use Rattle.lower_values.specs.Words.{env_of, nodes, program_of, tables}

emitted : (e : Env) (h site at attribute initial chunk iteration value : ℕ) (by : Reducer) (c0 : List Placed)
    → written (spec.emit (tables e) (env_of e) h (expr_at (nodes e) initial) ⨟ keep (env_of e) (h + 1) (env_of e).free ⨟ one (env_of e) h i.Nest
    ⨟ spec.chunk_code (tables e) (nested (taking 1 (env_of e))) h (chunk_at (nodes e) chunk) ⨟ spec.course_code (tables e) (taking 2 (nested (taking 1 (env_of e)))) h (iteration_at (nodes e) iteration) ⨟ spec.ends_code (taking 2 (nested (taking 1 (env_of e)))) h (iteration_at (nodes e) iteration)
    ⨟ spec.fork_code (nested (taking 1 (env_of e))) h (h + 1) (spec.reduction_kind by (chunk_at (nodes e) chunk)) site ((env_of e).free + 1) (one (nested (taking 1 (env_of e))) (h + 1 + 1 + 1 + 1) (i.LoadL (env_of e).free))
    (one (spec.chunk_scope (chunk_at (nodes e) chunk) (taking 2 (thread_scope site (env_of e)))) 0 (i.LoadL 1)
    ⨟ spec.threaded (tables e) (thread_scope site (env_of e)) 1 (chunk_at (nodes e) chunk) ((env_of e).free + 1 + 1 + 1) (iteration_at (nodes e) iteration) (λ u. spec.emit (tables e) u 1 (expr_at (nodes e) value) ⨟ spec.folding u 0 by)
    ⨟ one (spec.chunk_scope (chunk_at (nodes e) chunk) (taking 2 (thread_scope site (env_of e)))) 1 i.EndV)
    ⨟ one (nested (taking 1 (env_of e))) (h + 1) i.Unnest ⨟ spec.combined (taking 2 (taking 2 (taking 1 (env_of e)))) h by) c0
    ≡ written (spec.emit (tables e) (env_of e) h (Reduction at attribute by (expr_at (nodes e) initial) (Some site) (chunk_at (nodes e) chunk) (iteration_at (nodes e) iteration) (expr_at (nodes e) value))) c0
unfolding Rattle.lower_emission.specs.Emission.emit
emitted e h site at attribute initial chunk iteration value by c0 = refl

steps : (a b body z : Emit) (m : Mark) (h : ℕ) {h1 over : ℕ} {c0 c1 c2 c3 c4 c5 c6 c7 c8 c9 c10 : List Placed}
    → h1 ≡ h + 1 → c1 ≡ c0 → c2 ≡ c1 → c3 ≡ c2 → c4 ≡ written a c3 → c5 ≡ written b c4
    → c6 ≡ gap m h1 c5 → over ≡ length c5 → c7 ≡ written body c6 → c8 ≡ aimed m h1 over c7 → c9 ≡ put m h1 i.Unnest c8 → c10 ≡ written z c9
    → c10 ≡ written (a ⨟ b ⨟ Aside m (h + 1) body ⨟ One m (h + 1) i.Unnest ⨟ z) c0
steps a b body z m h a1 d1 d2 d3 d4 d5 d6 over d7 d8 d9 d10 = rw (d10, d9, d8, over, d7, d6, d5, d4, d3, d2, d1, a1) refl

-- what a construct is asked, with the typed program, scope and first free cell within it
abbrev asked : (t : Typed) (u : Scope) (n : ℕ) (what : SiteKind) (h site first chunk iteration : ℕ) → Emit
asked t u n what h site first chunk iteration =
    spec.chunk_code (program_of t) u h (chunk_at t.nodes chunk) ⨟ spec.course_code (program_of t) (taking 2 u) h (iteration_at t.nodes iteration) ⨟ spec.ends_code (taking 2 u) h (iteration_at t.nodes iteration)
    ⨟ one u (h + 1 + 1) (i.LoadL n) ⨟ one u (h + 1 + 1 + 1) (i.LoadL (n + 1)) ⨟ one u (h + 1 + 1 + 1 + 1) (i.LoadL first) ⨟ forks u (h + 1 + 1 + 1 + 1 + 1) what site

abbrev opening : (e : Env) (h initial : ℕ) → Emit
opening e h initial = spec.emit (tables e) (env_of e) h (expr_at (nodes e) initial) ⨟ keep (env_of e) (h + 1) e.free ⨟ one (env_of e) h i.Nest

abbrev threads : (e : Env) (site chunk iteration value : ℕ) → Reducer → Emit
threads e site chunk iteration value by =
    one (spec.chunk_scope (chunk_at (nodes e) chunk) (taking 2 (thread_scope site (env_of e)))) 0 (i.LoadL 1)
    ⨟ spec.threaded (tables e) (thread_scope site (env_of e)) 1 (chunk_at (nodes e) chunk) (e.free + 1 + 1 + 1) (iteration_at (nodes e) iteration) (λ u. spec.emit (tables e) u 1 (expr_at (nodes e) value) ⨟ spec.folding u 0 by)
    ⨟ one (spec.chunk_scope (chunk_at (nodes e) chunk) (taking 2 (thread_scope site (env_of e)))) 1 i.EndV

abbrev whole : (e : Env) (h site initial chunk iteration value : ℕ) (by : Reducer) (t : Typed) (u v : Scope) (n : ℕ) (what : SiteKind) → Emit
whole e h site initial chunk iteration value by t u v n what =
    opening e h initial ⨟ asked t u n what h site e.free chunk iteration ⨟ aside u (h + 1) (threads e site chunk iteration value by)
    ⨟ one u (h + 1) i.Unnest ⨟ spec.combined (taking 2 (taking 2 v)) h by

pub forked : (e : Env) (h site at attribute initial chunk iteration value : ℕ) (by : Reducer) {f g k : Env} {h1 free nest over : ℕ} {what : SiteKind}
    {c0 c1 c2 c3 c4 c5 c6 c7 c8 c9 c10 : List Placed}
    → h1 ≡ h + 1 → free ≡ e.free + 1 → nest ≡ e.nest + 1
    → f ≡ record e { free = free } → g ≡ record f { nest = nest } → k ≡ record e { free = free }
    → what ≡ spec.reduction_kind by (chunk_at (nodes e) chunk)
    → c1 ≡ c0 → c2 ≡ c1 → c3 ≡ c2
    → c4 ≡ written (spec.emit (tables e) (env_of e) h (expr_at (nodes e) initial) ⨟ keep (env_of e) (h + 1) e.free ⨟ one (env_of e) h i.Nest) c3
    → c5 ≡ written (spec.chunk_code (tables g) (env_of g) h (chunk_at (nodes g) chunk) ⨟ spec.course_code (tables g) (taking 2 (env_of g)) h (iteration_at (nodes g) iteration) ⨟ spec.ends_code (taking 2 (env_of g)) h (iteration_at (nodes g) iteration)
    ⨟ one (env_of g) (h + 1 + 1) (i.LoadL g.free) ⨟ one (env_of g) (h + 1 + 1 + 1) (i.LoadL (g.free + 1)) ⨟ one (env_of g) (h + 1 + 1 + 1 + 1) (i.LoadL e.free) ⨟ forks (env_of g) (h + 1 + 1 + 1 + 1 + 1) what site) c4
    → c6 ≡ gap (mark (env_of g)) h1 c5 → over ≡ length c5
    → c7 ≡ written (one (spec.chunk_scope (chunk_at (nodes e) chunk) (taking 2 (thread_scope site (env_of e)))) 0 (i.LoadL 1)
    ⨟ spec.threaded (tables e) (thread_scope site (env_of e)) 1 (chunk_at (nodes e) chunk) (e.free + 1 + 1 + 1) (iteration_at (nodes e) iteration) (λ u. spec.emit (tables e) u 1 (expr_at (nodes e) value) ⨟ spec.folding u 0 by)
    ⨟ one (spec.chunk_scope (chunk_at (nodes e) chunk) (taking 2 (thread_scope site (env_of e)))) 1 i.EndV) c6
    → c8 ≡ aimed (mark (env_of g)) h1 over c7 → c9 ≡ put (mark (env_of g)) h1 i.Unnest c8
    → c10 ≡ written (spec.combined (taking 2 (taking 2 (env_of k))) h by) c9
    → c10 ≡ written (spec.emit (tables e) (env_of e) h (Reduction at attribute by (expr_at (nodes e) initial) (Some site) (chunk_at (nodes e) chunk) (iteration_at (nodes e) iteration) (expr_at (nodes e) value))) c0
forked e h site at attribute initial chunk iteration value by {f = f} {g = g} {k = k} {free = free} {nest = nest} {what = what} {c0 = c0} a1 a2 a3 b1 b2 b3 w d1 d2 d3 d4 d5 d6 over d7 d8 d9 d10 =
    let outer : env_of k ≡ taking 1 (env_of e) = ap env_of b3 ∙ ap (λ n. env_of (record e { free = n })) a2 in
    let inner : env_of g ≡ nested (taking 1 (env_of e)) = ap env_of b2 ∙ (ap (λ x. env_of (record x { nest = nest })) b1 ∙ (ap (λ n. env_of (record (record e { free = n }) { nest = nest })) a2 ∙ ap (λ n. env_of (record (record e { free = e.free + 1 }) { nest = n })) a3)) in
    let typed : g.typed.now ≡ e.typed.now = ap (λ x. x.typed.now) b2 ∙ ap (λ x. x.typed.now) b1 in
    let next : g.free ≡ e.free + 1 = ap (λ x. x.free) b2 ∙ (ap (λ x. x.free) b1 ∙ a2) in
    steps (opening e h initial) (asked g.typed.now (env_of g) g.free what h site e.free chunk iteration) (threads e site chunk iteration value by) (spec.combined (taking 2 (taking 2 (env_of k))) h by) (mark (env_of g)) h a1 d1 d2 d3 d4 d5 d6 over d7 d8 d9 d10
    ∙ (ap (λ t. written (whole e h site initial chunk iteration value by t (env_of g) (env_of k) g.free what) c0) typed
    ∙ (ap (λ u. written (whole e h site initial chunk iteration value by e.typed.now u (env_of k) g.free what) c0) inner
    ∙ (ap (λ v. written (whole e h site initial chunk iteration value by e.typed.now (nested (taking 1 (env_of e))) v g.free what) c0) outer
    ∙ (ap (λ n. written (whole e h site initial chunk iteration value by e.typed.now (nested (taking 1 (env_of e))) (taking 1 (env_of e)) n what) c0) next
    ∙ (ap (λ y. written (whole e h site initial chunk iteration value by e.typed.now (nested (taking 1 (env_of e))) (taking 1 (env_of e)) (e.free + 1) y) c0) w
    ∙ emitted e h site at attribute initial chunk iteration value by c0)))))
