-- The word of a fault is that of the token at its place.
use Rattle.std.proofs.Common.{◌≡◌, ◌⊎◌, inl, inr, ℕ, ◌<◌, ◌≤◌, Bool, true, false, List, length, Some, None, refl, sym, ap, ◌∙◌, subst, arith, true≢false, ⊎_elim}
use Rattle.std.proofs.lemmas.Bool.{cases_lt}
use lib.ListN.{get_or-eq_default}
use Rattle.ada_base.specs.Place.{place_at}
use Rattle.ada_base.specs.Tokens.{Tokenized, kind_at, place_of_token}
use Rattle.ada_base.specs.declared.place.Place.{Place}
use Rattle.ada_base.specs.declared.token.Kind.TheVariants.{End}
use Rattle.ada_base.specs.declared.token.Token.{Token}
use Rattle.syntax_lexer.specs.Lexed.{AreLexed}
use Rattle.syntax_tree.specs.Faults.{LexicalFault}
use Rattle.syntax_tree.specs.Faults.LexicalFault.{TooManyBytes, NoCharacter, NoToken, TooWide, TooManyTokens}
use Rattle.syntax_tree.specs.Parsed.{is_left_out}
use Rattle.name_rules.specs.declared.log.Rule.{Rule}
use Rattle.name_rules.specs.declared.log.Rule.TheVariants as rule
use Rattle.driver.specs.Built.{note_of}
use Rattle.driver.specs.Compile.{IsFaultOf}
use Rattle.driver.specs.Complaints.{Complaint, complaint, clash_at, beginning, lexical, unexpected, unexpected_kind}
use Rattle.driver.specs.Lines.{HasFaultAt, IsWordOf, word_text, left_out_text}
use Rattle.driver.specs.Notes.{code_of}
use Rattle.driver.specs.declared.note.Note.{Note}
use Rattle.driver.specs.declared.note.Note.TheVariants as note
use Rattle.driver.proofs.Exact.{compiling_exact, same_tokens}

-- the fault is at a token of the text, whose kind is left out
record IsAtToken (text : List ℕ) (fault : Complaint) : Type 0 where
  tokens : Tokenized
  lexed : AreLexed text tokens
  token : ℕ
  within : token < length tokens.items
  note_is : fault.note ≡ note.LeftOut
  place_is : place_of_token tokens token ≡ fault.at
  kind_is : fault.left_out ≡ Some (kind_at tokens.items token)

abbrev HasNoWord : Complaint → Type 0
HasNoWord fault = (fault.note ≡ note.LeftOut → ⊥) × (fault.left_out ≡ None)

abbrev Tells : List ℕ → Complaint → Type 0
Tells text fault = HasNoWord fault ⊎ IsAtToken text fault

plain : (said : Note) (place : Place) → (code_of said ≡ 4 → ⊥) → HasNoWord (complaint said place)
plain said place h = (λ e. h (ap code_of e), refl)

tells_lexical : (text : List ℕ) (f : LexicalFault) → HasNoWord (lexical text f)
tells_lexical text (TooManyBytes bytes) = plain note.LimitPassed beginning (λ e. omega (arith, e))
tells_lexical text (NoCharacter at) = plain note.NotUtf8 (place_at text at) (λ e. omega (arith, e))
tells_lexical text (NoToken place) = plain note.NoToken place (λ e. omega (arith, e))
tells_lexical text (TooWide place) = plain note.LimitPassed place (λ e. omega (arith, e))
tells_lexical text (TooManyTokens count place) = plain note.LimitPassed place (λ e. omega (arith, e))

end_stays : is_left_out End ≡ false
end_stays = refl

-- there is such a token, since the End isn't left out
is_token : (items : List Token) (token : ℕ) → is_left_out (kind_at items token) ≡ true → token < length items
is_token items token left = ⊎_elim (λ less. less) (λ past. absurd (true≢false (sym left ∙ (ap is_left_out (past_end past) ∙ end_stays)))) (cases_lt token (length items)) where
  past_end : length items ≤ token → kind_at items token ≡ End
  past_end past = ap (λ (t : Token). t.kind) (get_or-eq_default items (record { kind = End; span = record { start = 0; end = 0 } }) past)

tells_unexpected : (text : List ℕ) (t : Tokenized) (token : ℕ) → AreLexed text t → Tells text (unexpected t token)
tells_unexpected text t token lexed = go (is_left_out (kind_at t.items token)) refl where
  go : (b : Bool) → is_left_out (kind_at t.items token) ≡ b → Tells text (unexpected_kind b (kind_at t.items token) (place_of_token t token))
  go true left = inr (record { tokens = t; lexed = lexed; token = token; within = is_token t.items token left; note_is = refl; place_is = refl; kind_is = refl })
  go false left = inl (plain note.Syntax (place_of_token t token) (λ e. omega (arith, e)))

-- no rule of names and types is told by the note of a token that is left out
not_left_out : (r : Rule) → code_of (note_of r) ≡ 4 → ⊥
not_left_out rule.Unknown e = omega (arith, e)
not_left_out rule.Twice e = omega (arith, e)
not_left_out rule.NotVisible e = omega (arith, e)
not_left_out rule.WrongEnd e = omega (arith, e)
not_left_out rule.PolicyName e = omega (arith, e)
not_left_out rule.WrongType e = omega (arith, e)
not_left_out rule.NotStatic e = omega (arith, e)
not_left_out rule.StaticRange e = omega (arith, e)
not_left_out rule.ChunkRule e = omega (arith, e)
not_left_out rule.ReduceRule e = omega (arith, e)
not_left_out (rule.Limit bound) e = omega (arith, e)

no_word_of_clash : (place other : Place) → HasNoWord (clash_at place other)
no_word_of_clash place other = (λ e. ten (ap code_of e), refl) where
  ten : code_of note.Clash ≡ code_of note.LeftOut → ⊥
  ten e = omega (arith, e)

tells : (text : List ℕ) (fault : Complaint) → IsFaultOf text fault → Tells text fault
tells text fault (inl (f, first, same)) = subst (Tells text) (sym same) (inl (tells_lexical text f))
tells text fault (inr (t, lexed, inl (inl (token, first, same)))) = subst (Tells text) (sym same) (tells_unexpected text t token lexed)
tells text fault (inr (t, lexed, inl (inr (token, deep, same)))) = subst (Tells text) (sym same) (inl (plain note.LimitPassed (place_of_token t token) (λ e. omega (arith, e))))
tells text fault (inr (t, lexed, inr (tree, parsed, inl (f, told, same)))) = subst (Tells text) (sym same) (inl (plain (note_of f.rule) (place_of_token t f.at) (not_left_out f.rule)))
tells text fault (inr (t, lexed, inr (tree, parsed, inr (p, named, inl (at, callee, first, same))))) = subst (Tells text) (sym same) (inl (plain note.BlockingCall (place_of_token t at) (λ e. omega (arith, e))))
tells text fault (inr (t, lexed, inr (tree, parsed, inr (p, named, inr (q, kept, inl (inl (asked, (at, object, least, same)))))))) =
    subst (Tells text) (sym same) (inl (plain note.GlobalTouched (place_of_token t at) (λ e. omega (arith, e))))
tells text fault (inr (t, lexed, inr (tree, parsed, inr (p, named, inr (q, kept, inl (inr (strict, (at, other, least, same)))))))) =
    subst (Tells text) (sym same) (inl (no_word_of_clash (place_of_token t at) (place_of_token t other)))
tells text fault (inr (t, lexed, inr (tree, parsed, inr (p, named, inr (q, kept, inr (s, apart, wrong)))))) = absurd wrong

module _ (text : List ℕ) (at : Place) where
  -- a fault with another note has no word
  pub no_word_of : (said : Note) → HasFaultAt text said at → (said ≡ note.LeftOut → ⊥) → IsWordOf text (word_text None)
  no_word_of said (fault, wrong, same, place) differs other is_other = go (tells text other is_other) where
    one : fault ≡ other
    one = compiling_exact.one_fault text fault other wrong is_other

    go : Tells text other → word_text None ≡ word_text other.left_out
    go (inl none) = ap word_text (sym none.1)
    go (inr there) = absurd (differs (sym same ∙ (ap (λ (c : Complaint). c.note) one ∙ there.note_is)))

  -- the word of a fault is that of the token that is found by its place
  pub word_is : (t : Tokenized) (found : ℕ) → HasFaultAt text note.LeftOut at → AreLexed text t → ((token : ℕ) → token < length t.items → place_of_token t token ≡ at → found ≡ token) → IsWordOf text (left_out_text (kind_at t.items found))
  word_is t found (fault, wrong, said, place) lexed finds other is_other = go (tells text other is_other) where
    one : fault ≡ other
    one = compiling_exact.one_fault text fault other wrong is_other

    go : Tells text other → left_out_text (kind_at t.items found) ≡ word_text other.left_out
    go (inl none) = absurd (none.0 (sym (ap (λ (c : Complaint). c.note) one) ∙ said))
    go (inr there) =
        let same : there.tokens ≡ t = same_tokens text there.tokens t there.lexed lexed in
        let inside : there.token < length t.items = subst (λ (x : Tokenized). there.token < length x.items) same there.within in
        let here : place_of_token t there.token ≡ at = ap (λ (x : Tokenized). place_of_token x there.token) (sym same) ∙ (there.place_is ∙ (ap (λ (c : Complaint). c.at) (sym one) ∙ place)) in
        let kind : kind_at t.items found ≡ kind_at there.tokens.items there.token = ap (kind_at t.items) (finds there.token inside here) ∙ ap (λ (x : Tokenized). kind_at x.items there.token) (sym same) in
        ap left_out_text kind ∙ ap word_text (sym there.kind_is)
