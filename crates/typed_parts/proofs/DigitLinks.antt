-- Chains of universal expressions, link by link: where the first static part is that is no number of so many digits.
use Rattle.std.proofs.Common.{◌≡◌, refl, sym, ◌∙◌, ap, ℕ, Option, Some, None}
use Rattle.ada_base.specs.declared.operation.Op.{Op}
use Rattle.ada_base.specs.declared.operation.Op.TheVariants as op
use Rattle.typed_tree.specs.Classes.{beyond_digits, beyond_left, sooner}
use Rattle.typed_tree.specs.Decoded.{TypedPart, as_expr}
use Rattle.typed_tree.specs.Syntax.{Expr, Binary, If, Reduction}
use Rattle.typed_parts.specs.DigitChains.{beyond_before, beyond_behind, beyond_here, beyond_joined, Ends, GoesOn}

sooner_none : (a : Option ℕ) → sooner a None ≡ a
sooner_none None = refl
sooner_none (Some n) = refl

left_is : (at : ℕ) (o : Op) (d : _) (l r : Expr) (k : ℕ) (x : Option ℕ) → beyond_left o x (beyond_digits k r) ≡ sooner x (beyond_behind k (Binary at o d l r))
left_is at op.Pow d l r k x = sym (sooner_none x)
left_is at op.Add d l r k x = refl
left_is at op.Sub d l r k x = refl
left_is at op.Mul d l r k x = refl
left_is at op.Div d l r k x = refl
left_is at op.Mod d l r k x = refl
left_is at op.Rem d l r k x = refl
left_is at op.And d l r k x = refl
left_is at op.Or d l r k x = refl
left_is at op.Xor d l r k x = refl
left_is at op.Max d l r k x = refl
left_is at op.Min d l r k x = refl

joined_is : (k : ℕ) (e : Expr) (x : Option ℕ) → beyond_joined k e x ≡ sooner (beyond_before k e) (sooner x (beyond_behind k e))
joined_is k (Binary at o d l r) x = left_is at o d l r k x
joined_is k (If c v o) x = ap (sooner (beyond_digits k v)) (sym (sooner_none x))
joined_is k (Reduction at a by initial site chunk iteration v) x = refl
joined_is k e x = sym (sooner_none x)

regrouped : (b p x q a : Option ℕ) → sooner b (sooner (sooner p (sooner x q)) a) ≡ sooner (sooner b p) (sooner x (sooner q a))
regrouped (Some n) p x q a = refl
regrouped None (Some n) x q a = refl
regrouped None None (Some n) q a = refl
regrouped None None None q a = refl

-- a step of the loop: what is found before and behind that which the chain goes on with joins what was found so far
pub goes_on : (at : ℕ → TypedPart) (id last next size : ℕ) (before behind front back found left : Option ℕ)
    → beyond_digits size (as_expr (at id)) ≡ sooner before (sooner (beyond_digits size (as_expr (at last))) behind) → GoesOn at last next
    → front ≡ beyond_before size (as_expr (at last)) → found ≡ sooner before front → back ≡ beyond_behind size (as_expr (at last)) → left ≡ sooner back behind
    → beyond_digits size (as_expr (at id)) ≡ sooner found (sooner (beyond_digits size (as_expr (at next))) left)
goes_on at id last next size before behind front back found left is g first joins second joined =
    let e = as_expr (at last) in
    let x = beyond_digits size (as_expr (at next)) in
    is ∙ (ap (λ y. sooner before (sooner y behind)) (g size ∙ joined_is size e x) ∙ (regrouped before (beyond_before size e) x (beyond_behind size e) behind
    ∙ (ap (λ y. sooner y (sooner x (sooner (beyond_behind size e) behind))) (sym (joins ∙ ap (sooner before) first))
    ∙ ap (λ y. sooner found (sooner x y)) (sym (joined ∙ ap (λ y. sooner y behind) second)))))

pub ends : (at : ℕ → TypedPart) (id last size : ℕ) (before behind : Option ℕ)
    → beyond_digits size (as_expr (at id)) ≡ sooner before (sooner (beyond_digits size (as_expr (at last))) behind) → Ends at last
    → sooner before (sooner (beyond_here size (as_expr (at last))) behind) ≡ beyond_digits size (as_expr (at id))
ends at id last size before behind is e = sym (is ∙ ap (λ y. sooner before (sooner y behind)) (e size))
