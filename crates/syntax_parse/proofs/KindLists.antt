-- The kinds of a list of tokens, without the last.
use Rattle.std.proofs.Common.{◌≡◌, suc, ◌-◌, List, [], ◌∷◌, length, take, refl, ap, arith}
use Rattle.ada_base.specs.declared.token.Token.{Token}
use Rattle.ada_base.specs.TokenKinds.{kind_number, kinds_of}
use Rattle.syntax_readers.specs.Ahead.{kinds}

pub taken_kinds : (items : List Token) → kinds (take (length items - 1) items) ≡ kinds_of items
taken_kinds [] = refl
taken_kinds (token ∷ []) = refl
taken_kinds (token ∷ next ∷ tokens) =
    let one_less : length (token ∷ next ∷ tokens) - 1 ≡ suc (length (next ∷ tokens) - 1) = omega arith in
    rw one_less (ap (λ ks. kind_number token.kind ∷ ks) (taken_kinds (next ∷ tokens)))
