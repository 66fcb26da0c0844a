-- Formal parameters of a function that reduces.
use Rattle.std.proofs.Common.{◌≡◌, ℕ, zero, suc, ◌-◌, ◌≤◌, ℤ, List, [], ◌∷◌, ◌++◌, Some, None, refl, sym, ap, ◌∙◌, arith}
use Rattle.typed_tree.specs.Syntax.{Sub}
use Rattle.typed_tree.specs.declared.program.Formal.{Formal}
use Rattle.typed_tree.specs.Programs.{program}
use Rattle.ada_meaning.specs.Meaning.{formal_at, formals_of, sub_at}
use Rattle.run_parts.specs.declared.work.Work.{Work}
use Rattle.run_parts.specs.declared.passed.Passed.{Passed}
use Rattle.run_parts.specs.Passing.{passed_list, passed_of, value_passed}
use Rattle.run_parts.specs.Words.{reduced_by, formal_of}

pub formals_none : (subs : List Sub) (s : ℕ) → sub_at subs s ≡ None → formals_of subs s ≡ []
formals_none [] s e = refl
formals_none (sub ∷ subs) zero e = cc
formals_none (sub ∷ subs) (suc s) e = formals_none subs s e

pub formals_some : (subs : List Sub) (s : ℕ) (sub : Sub) → sub_at subs s ≡ Some sub → formals_of subs s ≡ sub.formals
formals_some [] s sub e = cc
formals_some (x ∷ subs) zero sub e = let q : x ≡ sub = cc in ap (λ (s : Sub). s.formals) q
formals_some (x ∷ subs) (suc s) sub e = formals_some subs s sub e

pub formal_next : (f : Formal) (fs : List Formal) (k : ℕ) → 1 ≤ k → formal_at (f ∷ fs) k ≡ formal_at fs (k - 1)
formal_next f fs zero h = absurd (omega (arith, h))
formal_next f fs (suc k) h = let e : suc k - 1 ≡ k = omega arith in ap (λ n. formal_at fs n) (sym e)

pub formal_none : (w : Work) (s k : ℕ) → sub_at (program w.typed.now).subs s ≡ None → 0 ≡ formal_of w s k
formal_none w s k e = sym (ap (λ fs. formal_at fs k) (formals_none (program w.typed.now).subs s e))

pub formal_some : (w : Work) (s k n : ℕ) (sub : Sub) → sub_at (program w.typed.now).subs s ≡ Some sub → n ≡ formal_at sub.formals k → n ≡ formal_of w s k
formal_some w s k n sub e h = h ∙ sym (ap (λ fs. formal_at fs k) (formals_some (program w.typed.now).subs s sub e))

pub both_passed : (w : Work) (s : ℕ) (a b a' b' : ℤ) (p q : Passed) (alone both : List Passed) (m n : ℕ) → m ≡ formal_of w s 0 → n ≡ formal_of w s 1 → passed_of w p ≡ value_passed m a' → passed_of w q ≡ value_passed n b' → a' ≡ a → b' ≡ b
    → passed_list w alone ≡ passed_of w p ∷ [] → passed_list w both ≡ passed_list w alone ++ passed_of w q ∷ [] → passed_list w both ≡ reduced_by w s a b
both_passed w s a b a' b' p q alone both m n e f g h x y i j =
    j ∙ ap (λ z. z ++ passed_of w q ∷ []) i ∙ ap (λ z. z ∷ passed_of w q ∷ []) (g ∙ ap (λ z. value_passed z a') e ∙ ap (λ z. value_passed (formal_of w s 0) z) x)
    ∙ ap (λ z. value_passed (formal_of w s 0) a ∷ z ∷ []) (h ∙ ap (λ z. value_passed z b') f ∙ ap (λ z. value_passed (formal_of w s 1) z) y)
