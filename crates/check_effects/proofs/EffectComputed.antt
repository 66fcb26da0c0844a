use Rattle.std.proofs.Common.{◌≡◌, ℕ, zero, suc, ◌<◌, ◌≤◌, List, [], ◌∷◌, inl, inr, ⊎_elim, true, false, refl, sym, subst, arith, pos}
use Rattle.ada_meaning.specs.Shapes.{Shape, Single, Dimension, IsGrounded}
use Rattle.ada_meaning.specs.Formed.{IsFormed}
use Rattle.typed_tree.specs.declared.expressions.Root.TheVariants as root
use Rattle.typed_tree.specs.declared.scalars.Scalar.{Scalar}
use Rattle.typed_tree.specs.declared.program.Bounds.{Bounds}
use Rattle.typed_tree.specs.Syntax.{OfScalar, Array, Whole, Absent, Components, NoChunk, ParallelFor, Stmts, End, Then}
use Rattle.ada_meaning.specs.Nonblocking.{KeepsRule}
use Rattle.ada_meaning.specs.Rows.{doubled}
use Rattle.check_effects.specs.Effects.{ItemStep, Access, forget, unknown, Construct, LoopOf, Holds, InFront, IsEffect}
use Rattle.check_effects.specs.Conflicts.{path, SomeDiffer, HasParameter, Exempt, IsThreadEffect, IsDisjoint, IsStrict, InProgram}
use Rattle.check_effects.specs.EffectRows.{FormedRow, FreeRow, AcceptedRow}
use Rattle.ada_meaning.proofs.Unblocked.{blocked_law}
use Rattle.check_effects.proofs.Clashes.{clash_law}
use Rattle.check_effects.proofs.Forming.{formed_law}
use Rattle.check_effects.proofs.Races.{race_free}

one : 1 ≤ 1
one = omega arith

less : 0 < 1
less = omega arith

grounded_scalar : (s : Scalar) → IsGrounded (OfScalar s ∷ [])
grounded_scalar s zero = tt
grounded_scalar s (suc n) = tt

grounded_array : (s : Scalar) (ds : List Bounds) → IsGrounded (OfScalar s ∷ (Array ds 0 ∷ []))
grounded_array s ds zero = tt
grounded_array s ds (suc zero) = less
grounded_array s ds (suc (suc n)) = tt

abbrev three : Shape
three = Dimension (pos 1) (pos 3) Single

formed_doubled : IsFormed doubled
formed_doubled = record {
  grounded = grounded_array _ _;
  body = record {
    decls = ((tt, tt, tt), tt);
    stmts = ((tt, (tt, (three, Single, (three, refl, refl), (1, refl, (refl, refl)), refl, tt, (((Single, (Single, refl, refl), one, (tt, (Single, refl, one), tt)), tt), tt)))), tt);
    handlers = tt;
  };
  subs = tt;
}

pub formed_row : FormedRow
formed_row = (
  record { grounded = grounded_scalar _; body = record { decls = (tt, tt); stmts = (((Single, (Single, refl, refl), one, (tt, ((Single, (Single, refl, refl), one), tt), tt)), tt), ((tt, ((Single, (Single, refl, refl), one), tt), tt), tt)); handlers = tt }; subs = tt },
  record {
    grounded = grounded_array _ _;
    body = record {
      decls = ((tt, tt, tt), tt);
      stmts = (((tt, tt), (tt, tt, tt, (((Single, (three, refl, (refl, refl, refl, refl)), one, (tt, ((Single, (three, refl, (refl, refl, refl, refl)), one), (tt, tt)), tt)), (tt, tt)), tt))), tt);
      handlers = tt;
    };
    subs = tt;
  },
  formed_doubled,
  record { grounded = grounded_scalar _; body = record { decls = tt; stmts = ((tt, (less, tt, tt, (tt, tt, tt, tt)), tt), tt); handlers = tt }; subs = (record { decls = tt; stmts = ((tt, ((Single, (Single, refl, refl), one), tt), (tt, ((Single, (Single, refl, refl), one), tt), tt)), tt); handlers = tt }, tt) },
)

keeps_doubled : KeepsRule doubled
keeps_doubled = record { body = record { decls = ((tt, tt, tt), tt); stmts = ((tt, (tt, tt), ((tt, (tt, tt)), tt)), tt); handlers = tt }; subs = tt }

-- what the threads of a construct of this program touch has the thread's component in its path
abbrev Component : Construct → Type 0
Component k = (j at : ℕ) (a : Access) → IsThreadEffect doubled k j at a → a.steps ≡ ItemStep true 3 1 1 ∷ []

abbrev the_loop : Construct
the_loop = LoopOf 0 (forget unknown) NoChunk (Components 0 false 0 (root.Object 0) Whole 3 1 1 Absent) (body_of doubled.body.stmts)
  where
    body_of : Stmts → Stmts
    body_of (Then (ParallelFor number site chunk iteration stmts) rest) = stmts
    body_of ss = End

within : Component the_loop
within j at a h = grind arith

only : (k : Construct) → InProgram doubled (Holds k) → k ≡ the_loop
only k (inl h) = grind arith
only k (inr (s, h)) = absurd h

component : (k : Construct) → InProgram doubled (Holds k) → Component k
component k h = subst Component (sym (only k h)) within

disjoint_doubled : IsDisjoint doubled
disjoint_doubled k h i j compared at other a b e f writes =
    let x = component k h i at a e in let y = component k h j other b f in
    inr (subst (λ z. SomeDiffer (path z) (path b.steps)) (sym x) (subst (λ z. SomeDiffer (path (ItemStep true 3 1 1 ∷ [])) (path z)) (sym y) (inl refl)))

pub free_row : FreeRow
free_row = (keeps_doubled, disjoint_doubled, race_free doubled keeps_doubled (formed_law doubled formed_doubled).0 disjoint_doubled)

-- nothing stands in front of the loop, and what its threads touch goes through the component of the iteration
strict_doubled : IsStrict doubled
strict_doubled k h at x (a, same, touched, refused) = ⊎_elim
    (λ e. none_in_front (subst (λ z. IsEffect doubled (InFront doubled.subtypes z) at a) (only k h) e))
    (λ e. refused (subst (λ z. Exempt doubled z a) (sym (only k h)) (subst (λ z. HasParameter doubled (path z)) (sym (component k h e.0 at a e.1)) (inl refl)))) touched
  where
    none_in_front : IsEffect doubled (InFront doubled.subtypes the_loop) at a → ⊥
    none_in_front e = grind arith

pub accepted_row : AcceptedRow
accepted_row = record {
  formed = formed_doubled;
  unblocked = (blocked_law doubled).0 keeps_doubled;
  apart = λ k h. (clash_law doubled k).0 (disjoint_doubled k h);
  strict = λ e. strict_doubled;
}
