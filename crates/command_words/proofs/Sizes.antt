-- The sizes of a listed plan, step by step.
use Rattle.std.proofs.Common.{◌≡◌, ℕ, zero, suc, List, Option, Some, None, Result, Err, arith, refl, sym, ap, subst, ◌∙◌}
use Rattle.command_words.specs.Values.{◌>>=◌, parts_at, sizes, sizes_by, with_size}
use Rattle.command_words.specs.Answers.{GivesSizes}
use Rattle.command_words.specs.declared.request.WordsFault.{WordsFault}
use Rattle.command_words.specs.declared.request.WordsFault.TheVariants.{Usage}

pub none_left : (most : ℕ) (before text : List ℕ) → most ≡ 0 → sizes most before text ≡ None
unfolding sizes
none_left zero before text e = refl
none_left (suc more) before text e = absurd (omega (arith, e))

more_by : (less most : ℕ) (before text : List ℕ) → suc less ≡ most
    → sizes most before text ≡ sizes_by (λ so_far rest. sizes less so_far rest) before text (parts_at 44 text)
unfolding sizes
more_by less most before text e =
    subst (λ m. sizes m before text ≡ sizes_by (λ so_far rest. sizes less so_far rest) before text (parts_at 44 text)) e refl

pub gives_last : (less most : ℕ) (before text : List ℕ) (given : Result (Unit {0}) WordsFault) (new : List ℕ) → suc less ≡ most → None ≡ parts_at 44 text
    → GivesSizes (with_size before text) given new → GivesSizes (sizes most before text) given new
gives_last less most before text given new e none h =
    let others : List ℕ → List ℕ → Option (List ℕ) = λ so_far rest. sizes less so_far rest in
    subst (λ d. GivesSizes d given new) (sym (more_by less most before text e ∙ ap (sizes_by others before text) (sym none))) h

at_comma : (less most : ℕ) (before text first rest : List ℕ) → suc less ≡ most → Some (first, rest) ≡ parts_at 44 text
    → sizes most before text ≡ (with_size before first >>= λ so_far. sizes less so_far rest)
at_comma less most before text first rest e some =
    let others : List ℕ → List ℕ → Option (List ℕ) = λ so_far rest. sizes less so_far rest in
    more_by less most before text e ∙ ap (sizes_by others before text) (sym some)

pub gives_fault : (less most : ℕ) (before text first rest : List ℕ) (fault : WordsFault) (given : Result (Unit {0}) WordsFault) (new : List ℕ) → suc less ≡ most
    → Some (first, rest) ≡ parts_at 44 text → (fault ≡ Usage → with_size before first ≡ None) → given ≡ Err fault → GivesSizes (sizes most before text) given new
gives_fault less most before text first rest fault given new e some none is =
    subst (λ (r : Result (Unit {0}) WordsFault). GivesSizes (sizes most before text) r new) (sym is)
    (λ usage. at_comma less most before text first rest e some ∙ ap (λ o. o >>= λ so_far. sizes less so_far rest) (none usage))

pub gives_more : (less most : ℕ) (before so_far text first rest : List ℕ) (given : Result (Unit {0}) WordsFault) (new : List ℕ) → suc less ≡ most
    → Some (first, rest) ≡ parts_at 44 text → with_size before first ≡ Some so_far → GivesSizes (sizes less so_far rest) given new
    → GivesSizes (sizes most before text) given new
gives_more less most before so_far text first rest given new e some is h =
    subst (λ d. GivesSizes d given new) (sym (at_comma less most before text first rest e some ∙ ap (λ o. o >>= λ so_far. sizes less so_far rest) is)) h
