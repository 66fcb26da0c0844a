use Rattle.std.proofs.Common.{◌≡◌, ◌<◌, ◌++◌, length, get_or, sym, ap, subst, ◌∙◌, inl, inr, arith, lit<, string_bytes}
use Rattle.std.proofs.lemmas.Str.{encode_ascii}
use Rattle.std.specs.Prelude.{All}
use Rattle.ada_base.specs.declared.token.Kind.TheVariants.{Ident}
use Rattle.ada_base.specs.declared.token.Token.{Token}
use Rattle.syntax_print.specs.Canonical.{IsListed, written, written_in}
use Rattle.syntax_print.proofs.Joins.{Separated, join_more, written_at}
use Rattle.syntax_print.proofs.joined.Goals as goal
use Rattle.syntax_print.proofs.joined.Goals.{then-number-gt0+in_ok-push, else-number-gt0}

-- what is read of a token on the way
abbrev first_default : Token
first_default = record { kind = Ident; span = record { start = 0; end = 0 } }

pub append-requires : goal.append-requires
append-requires c =
    let same : c.args.tokens.now.items ≡ c.items-in-loop-number.result.now = sym c.items-in-loop-number.ensures.value in
    let all : All (λ t. IsListed t.kind) c.items-in-loop-number.result.now = subst (All (λ t. IsListed t.kind)) same c.requires in
    all c.loop-number.number first_default (omega (arith, ap length same, ap length c.items.ensures.value))

pub loop-number-preserved : goal.loop-number-preserved
loop-number-preserved c =
    let apart : Separated c.loop-number.number (string_bytes c.loop-number.text) (string_bytes c.if-number-gt0.text) = elim c.if-number-gt0.branch [
      | then-number-gt0+in_ok-push w ↦ inl (w.if-number-gt0.true, ap string_bytes w.text-is ∙ (w.in_ok-push.ensures.bytes ∙ ap (λ s. string_bytes c.loop-number.text ++ s) (encode_ascii 32 (lit< tt))))
      | else-number-gt0 w ↦ inr (omega arith, ap string_bytes w.text-is)
    ] in
    let below : c.loop-number.number < length c.args.tokens.now.items = omega (arith, ap length c.items.ensures.value) in
    let items : (get_or c.items-in-loop-number.result.now c.loop-number.number first_default).kind ≡ (get_or c.args.tokens.now.items c.loop-number.number first_default).kind = ap (λ xs. (get_or xs c.loop-number.number first_default).kind) c.items-in-loop-number.ensures.value in
    let here : written (get_or c.items-in-loop-number.result.now c.loop-number.number first_default).kind c.slice.result.now ≡ written_in c.args.tokens.now.text (get_or c.args.tokens.now.items c.loop-number.number first_default) =
    ap (λ k. written k c.slice.result.now) items ∙ (ap (written (get_or c.args.tokens.now.items c.loop-number.number first_default).kind) c.slice.ensures ∙ written_at c.args.tokens.now c.loop-number.number first_default below) in
    c.in_ok-append.ensures ∙ (ap (λ s. string_bytes c.if-number-gt0.text ++ s) here ∙ join_more (written_in c.args.tokens.now.text) c.args.tokens.now.items c.loop-number.number first_default (string_bytes c.loop-number.text) (string_bytes c.if-number-gt0.text) below c.loop-number.invariant apart)
