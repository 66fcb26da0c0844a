-- Exact phases that follow one another are exact.
use Rattle.std.proofs.Common.{◌≡◌, inl, inr, subst}
use Rattle.driver.specs.Phases.{Phase, IsExact, followed}

pub followed_exact : {A B C F : Type 0} → (p : Phase A B F) → (q : A → Phase B C F) → IsExact p → ((a : A) → IsExact (q a)) → IsExact (followed p q)
followed_exact {A} {B} {C} {F} p q e f = record {
  one_result = λ a c d (b, r, s) (b', r', s'). (f a).one_result b' c d (subst (λ z. (q a).right z c) (e.one_result a b b' r r') s) s';
  one_fault = λ a x y. faults a x y;
  apart = λ a c x (b, r, s). none a c x b r s;
}
  where
    faults : (a : A) (x y : F) → (followed p q).wrong a x → (followed p q).wrong a y → x ≡ y
    faults a x y (inl v) (inl w) = e.one_fault a x y v w
    faults a x y (inl v) (inr (b, r, w)) = absurd (e.apart a b x r v)
    faults a x y (inr (b, r, v)) (inl w) = absurd (e.apart a b y r w)
    faults a x y (inr (b, r, v)) (inr (b', r', w)) = (f a).one_fault b' x y (subst (λ z. (q a).wrong z x) (e.one_result a b b' r r') v) w

    none : (a : A) (c : C) (x : F) (b : B) → p.right a b → (q a).right b c → (followed p q).wrong a x → ⊥
    none a c x b r s (inl v) = e.apart a b x r v
    none a c x b r s (inr (b', r', v)) = (f a).apart b' c x (subst (λ z. (q a).right z c) (e.one_result a b b' r r') s) v
