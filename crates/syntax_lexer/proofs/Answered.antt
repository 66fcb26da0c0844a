-- What `lex` answers, for each text that has tokens or a fault.
use Rattle.std.proofs.Common.{inl, inr, ℕ, List, Some, Result, Ok, Err, refl, ap}
use Rattle.std.specs.Prelude.{MatchResult}
use Rattle.ada_base.specs.declared.token.Token.{Token}
use Rattle.ada_base.specs.Tokens.{Tokenized}
use Rattle.syntax_lexer.specs.declared.fault.LexFault.{LexFault}
use Rattle.syntax_lexer.specs.declared.fault.LexFault.TheVariants.{TooBig, NotUtf8, BadToken, WideLiteral, TooLong, OutOfMemory}
use Rattle.syntax_lexer.specs.Lexed.{AreLexed, Tells, GivesTokens, GivesFault}
use Rattle.std.specs.Str.{chars}
use Rattle.syntax_tree.specs.Faults.{LexicalFault, IsFirstFault, IsReadable, KeepLimits}
use Rattle.syntax_tree.specs.Faults.LexicalFault.{TooManyBytes, NoCharacter, NoToken, TooWide, TooManyTokens}
use Rattle.syntax_tree.specs.Tokens.{AreTokensOf}
use Rattle.syntax_lexer.proofs.OneList.{one_list}
use Rattle.syntax_lexer.proofs.OneFault.{one_fault, no_fault}

pub gives_tokens : (text : List ℕ) (r : Result Tokenized LexFault) → MatchResult r (AreLexed text) (Tells text) → (items : List Token) → IsReadable text → AreTokensOf text items → KeepLimits items → GivesTokens r items
gives_tokens text (Ok tokens) h items readable t k = one_list (chars text) tokens.items items h.tokens_of t
gives_tokens text (Err (TooBig bytes)) h items readable t k = absurd (no_fault text items (TooManyBytes bytes) readable t k h)
gives_tokens text (Err (NotUtf8 at)) h items readable t k = absurd (no_fault text items (NoCharacter at) readable t k h)
gives_tokens text (Err (BadToken at)) h items readable t k = absurd (no_fault text items (NoToken at) readable t k h)
gives_tokens text (Err (WideLiteral at)) h items readable t k = absurd (no_fault text items (TooWide at) readable t k h)
gives_tokens text (Err (TooLong count at)) h items readable t k = absurd (no_fault text items (TooManyTokens count at) readable t k h)
gives_tokens text (Err OutOfMemory) h items readable t k = refl

pub gives_fault : (text : List ℕ) (r : Result Tokenized LexFault) → MatchResult r (AreLexed text) (Tells text) → (first : LexicalFault) → IsFirstFault text first → GivesFault r first
gives_fault text (Ok tokens) h first f = no_fault text tokens.items first h.readable h.tokens_of h.limits f
gives_fault text (Err (TooBig bytes)) h first f = inr (ap Some (one_fault text (TooManyBytes bytes) first h f))
gives_fault text (Err (NotUtf8 at)) h first f = inr (ap Some (one_fault text (NoCharacter at) first h f))
gives_fault text (Err (BadToken at)) h first f = inr (ap Some (one_fault text (NoToken at) first h f))
gives_fault text (Err (WideLiteral at)) h first f = inr (ap Some (one_fault text (TooWide at) first h f))
gives_fault text (Err (TooLong count at)) h first f = inr (ap Some (one_fault text (TooManyTokens count at) first h f))
gives_fault text (Err OutOfMemory) h first f = inl refl
