-- The parts of a program, as what the typed program has.
use Rattle.std.proofs.Common.{◌≡◌, ◌+◌, ◌≤◌, ◌∙◌, ℕ, List, [], drop, length, refl, sym, ap, arith}
use Rattle.std.specs.Prelude.{slice_get, Some, None, map}
use Rattle.std.proofs.lemmas.Option.{slice_get_within}
use Rattle.typed_tree.specs.declared.program.Mode.{Mode}
use Rattle.typed_tree.specs.declared.program.Mode.TheVariants as mode
use Rattle.typed_tree.specs.declared.program.Sub as tree-sub
use Rattle.typed_tree.specs.declared.typed.Typed.{Typed}
use Rattle.typed_tree.specs.Decoded.{body_at}
use Rattle.typed_tree.specs.Programs.{program, sub_of}
use Rattle.typed_tree.specs.Syntax.{Program, Body}
use Rattle.ada_meaning.specs.Meaning.{object_layout}
use Rattle.lower_emission.specs.declared.types.Placed.{Placed}
use Rattle.lower_emission.specs.Emission.{shape_by}
use Rattle.lower_emission.specs.Emits.{written, listed}
use Rattle.lower_emission.specs.Laws.{WrittenLaw}
use Rattle.lower_emission.specs.Scope.{Scope}
use Rattle.lower_emission.specs.Bodies.{subs_code, sub_code, sub_scope, main_scope, main_declared, behind_main, program_code}
use Rattle.lower_values.specs.Words.{program_of}
use Rattle.lower_code.proofs.Subs.{subs_step, subs_end}

pub main_body : (t : Typed) → (program_of t).body ≡ body_at t.nodes t.body
unfolding program_of
main_body t = refl

pub shape_cells : (p : Program) (x : ℕ) (m : Mode) → (shape_by p x m).cells ≡ length (object_layout p x)
shape_cells p x mode.In = refl
shape_cells p x mode.InOut = refl
shape_cells p x mode.Out = refl

pub subs_within : (t : Typed) (k : ℕ) (sub : tree-sub.Sub) → slice_get (map (sub_of t.nodes) t.subs) k ≡ Some (sub_of t.nodes sub) → k + 1 ≤ length (program_of t).subs
unfolding program_of
subs_within t k sub e = omega (arith, slice_get_within (map (sub_of t.nodes) t.subs) k (sub_of t.nodes sub) e)

pub subs_next : (t : Typed) (s : Scope) (k : ℕ) (sub : tree-sub.Sub) (c : List Placed) → slice_get (map (sub_of t.nodes) t.subs) k ≡ Some (sub_of t.nodes sub) →
    written (subs_code (program_of t) s k (drop k (program_of t).subs)) c ≡ written (subs_code (program_of t) s (k + 1) (drop (k + 1) (program_of t).subs)) (written (sub_code (program_of t) (sub_scope (program_of t) s k (sub_of t.nodes sub)) (sub_of t.nodes sub)) c)
unfolding program_of
subs_next t s k sub c e = subs_step (program t) s k (sub_of t.nodes sub) c e

pub subs_last : (t : Typed) (s : Scope) (k : ℕ) (c : List Placed) → slice_get (map (sub_of t.nodes) t.subs) k ≡ None → written (subs_code (program_of t) s k (drop k (program_of t).subs)) c ≡ c
unfolding program_of
subs_last t s k c e = subs_end (program t) s k c e

pub subs_kept : (t : Typed) (s : Scope) (k n : ℕ) (sub : tree-sub.Sub) (c0 c1 c2 all : List Placed) → slice_get (map (sub_of t.nodes) t.subs) k ≡ Some (sub_of t.nodes sub) → (c2 ≡ c1) × (n ≡ k + 1) →
    c1 ≡ written (sub_code (program_of t) (sub_scope (program_of t) s k (sub_of t.nodes sub)) (sub_of t.nodes sub)) c0 →
    written (subs_code (program_of t) s k (drop k (program_of t).subs)) c0 ≡ all → written (subs_code (program_of t) s n (drop n (program_of t).subs)) c2 ≡ all
subs_kept t s k n sub c0 c1 c2 all e f g h = rw (f.1, f.0, g) (sym (subs_next t s k sub c0 e) ∙ h)

main_law : WrittenLaw → (t : Typed) (text : List ℕ → ℕ) (b : Body) → body_at t.nodes t.body ≡ b →
    written (main_declared (program_of t) (main_scope text) b.decls (behind_main (program_of t))) [] ≡ listed (program_code (program_of t) text) 0
unfolding program_of
main_law law t text b e = rw (sym e) (law (program_code (program_of t) text) [])

pub program_law : WrittenLaw → (t : Typed) (text : List ℕ → ℕ) (b : Body) (c0 c1 : List Placed) → body_at t.nodes t.body ≡ b → c0 ≡ [] →
    c1 ≡ written (main_declared (program_of t) (main_scope text) b.decls (behind_main (program_of t))) c0 → c1 ≡ listed (program_code (program_of t) text) 0
program_law law t text b c0 c1 e f g = g ∙ (ap (λ c. written (main_declared (program_of t) (main_scope text) b.decls (behind_main (program_of t))) c) f ∙ main_law law t text b e)
