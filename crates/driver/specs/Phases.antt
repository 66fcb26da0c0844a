-- Phases of compilation. A phase goes from what the one before gave to a result, or tells what is wrong with it.
use Rattle.std.specs.Prelude.{◌≡◌, ◌⊎◌}

-- which results a phase has for what it is given, and which faults
pub record Phase (A B F : Type 0) : Type 1 where
  pub right : A → B → Type 0
  pub wrong : A → F → Type 0

-- a phase has at most one result for what it is given, at most one fault, and not both
pub record IsExact {A B F : Type 0} (p : Phase A B F) : Type 0 where
  pub one_result : (a : A) (b c : B) → p.right a b → p.right a c → b ≡ c
  pub one_fault : (a : A) (f g : F) → p.wrong a f → p.wrong a g → f ≡ g
  pub apart : (a : A) (b : B) (f : F) → p.right a b → p.wrong a f → ⊥

-- a phase, and then another on its result, which may look at what the first was given: the first one that has a fault
-- tells it
abbrev pub followed : {A B C F : Type 0} → Phase A B F → (A → Phase B C F) → Phase A C F
followed {A} {B} {C} {F} p q = record {
  right = λ a c. (b : B) × p.right a b × (q a).right b c;
  wrong = λ a f. p.wrong a f ⊎ ((b : B) × p.right a b × (q a).wrong b f);
}
