-- Repetitions that join each thing that they read to what was read before.
use Rattle.std.specs.Prelude.{ℕ, zero, suc, List, length, if◌then◌else◌}
use Rattle.ada_base.specs.Symbols.{next_kind, is_member}
use Rattle.syntax_readers.specs.Readers.{Reader, ◌>>=◌, pure}

-- reads on from a value for as long as the next kind is one of these, at most so many times
abbrev pub turns : {A : Type 0} → ℕ → List ℕ → (A → Reader A) → A → Reader A
turns zero ks p a = pure a
turns (suc n) ks p a = λ ts. if is_member ks (next_kind ts) then (p a >>= turns n ks p) ts else pure a ts

-- reads on from a value for as long as the next kind is one of these
abbrev pub chain : {A : Type 0} → List ℕ → (A → Reader A) → A → Reader A
chain ks p a = λ ts. turns (length ts) ks p a ts

-- a list of what is read for as long as the next kind is one of these
abbrev pub grown : {L A : Type 0} → (L → A → L) → L → List ℕ → Reader A → Reader L
grown and none ks p = chain ks (λ l. p >>= λ x. pure (and l x)) none
