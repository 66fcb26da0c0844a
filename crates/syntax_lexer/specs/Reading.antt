-- What the lexer reads at the front of a list of characters: a value, and the characters after it.
use Rattle.std.specs.Prelude.{ℕ, ◌+◌, ◌*◌, ◌^◌, Bool, true, false, ◌&&◌, ◌||◌, not, ◌==◌, nat_le, nat_lt, min, zero, suc, pos, List, [], ◌∷◌, Option, Some, None, if◌then◌else◌}
use Rattle.std.specs.Char.{to_ascii_lowercase, digit_value}
use Rattle.unicode.specs.CaseFolding.{simple_fold}
use Rattle.unicode_ident.specs.Ident.{is_xid_start, is_xid_continue}
use Rattle.ada_base.specs.declared.token.Kind.{Kind}
use Rattle.ada_base.specs.declared.token.Kind.TheVariants.{Ident, Word, Number, Text, Letter, Real, Mark, End}
use Rattle.syntax_lexer.specs.declared.found.Found.TheVariants.{Other}
use Rattle.syntax_lexer.specs.declared.found.Found.{Found}
use Rattle.syntax_tree.specs.Characters.{is_control, is_digit, is_underscore, is_white, line_feed, plus_sign, hyphen, number_sign, point, quotation_mark, apostrophe}
use Rattle.syntax_tree.specs.Gaps.{begins_comment}
use Rattle.syntax_tree.specs.Numbers.{underscores_between, is_digit_or_underscore, begins_with_digit, is_exponent_letter}
use Rattle.syntax_tree.specs.Spelling.{can_follow}
use Rattle.syntax_tree.specs.Words.{words, marks}

-- the characters from the front on that pass the test, and those after them
abbrev pub run : (ℕ → Bool) → List ℕ → List ℕ
run p [] = []
run p (c ∷ cs) = if p c then c ∷ run p cs else []

abbrev pub beyond : (ℕ → Bool) → List ℕ → List ℕ
beyond p [] = []
beyond p (c ∷ cs) = if p c then beyond p cs else c ∷ cs

-- what follows white space and comments; `inside` is whether a comment has begun
abbrev pub beyond_gap : Bool → List ℕ → List ℕ
beyond_gap inside [] = []
beyond_gap true (c ∷ cs) = if c == line_feed then beyond_gap false cs else beyond_gap true cs
beyond_gap false (c ∷ cs) =
    if is_white c then beyond_gap false cs
    else (if begins_comment (c ∷ cs) then beyond_gap true cs else c ∷ cs)

infixl 10 ◌>>=◌
abbrev pub ◌>>=◌ : {A B : Type 0} → Option A → (A → Option B) → Option B
None >>= f = None
(Some x) >>= f = f x

-- A number that isn't below 2 ^ 127 is kept as 2 ^ 127.
abbrev pub wide : ℕ
wide = 2 ^ 127

abbrev pub limited : ℕ → ℕ
limited n = min n wide

-- the number after further digits
abbrev pub number_after : ℕ → ℕ → List ℕ → ℕ
number_after base n [] = n
number_after base n (c ∷ cs) =
    if is_underscore c then number_after base n cs else number_after base (limited (n * base + digit_value c)) cs

-- a numeral and its value
unfoldable pub numeral_at : ℕ → List ℕ → Option (ℕ × List ℕ)
numeral_at base cs =
    let digits = run (is_digit_or_underscore base) cs in
    if begins_with_digit base digits && underscores_between digits
    then Some (number_after base 0 digits, beyond (is_digit_or_underscore base) cs)
    else None

abbrev pub beyond_sign : Bool → List ℕ → List ℕ
beyond_sign minus [] = []
beyond_sign minus (c ∷ cs) = if (c == plus_sign) || (minus && (c == hyphen)) then cs else c ∷ cs

-- an exponent, or none
unfoldable pub exponent_at : Bool → List ℕ → Option (ℕ × List ℕ)
exponent_at minus [] = Some (0, [])
exponent_at minus (c ∷ cs) =
    if is_exponent_letter c then numeral_at 10 (beyond_sign minus cs) else Some (0, c ∷ cs)

-- what follows a character, which has to be there
abbrev pub beyond_one : ℕ → List ℕ → Option (List ℕ)
beyond_one d [] = None
beyond_one d (c ∷ cs) = if c == d then Some cs else None

-- the number after a multiplication, so many times
abbrev pub times : ℕ → ℕ → ℕ → ℕ
times base n zero = n
times base n (suc k) = times base (limited (n * base)) k

-- A number from 1 on that is multiplied 128 times by 2 or more is wide, and 0 stays 0.
unfoldable pub scaled : ℕ → ℕ → ℕ → ℕ
scaled base n exponent = times base n (min exponent 128)

abbrev pub with_power : ℕ → ℕ → ℕ × List ℕ → Option (Found × List ℕ)
with_power base n x = Some (Found.Number (scaled base n x.0), x.1)

-- a number with its exponent, if one follows
unfoldable pub scaled_at : ℕ → ℕ → List ℕ → Option (Found × List ℕ)
scaled_at base n cs = exponent_at false cs >>= with_power base n

-- a based literal, from the first # on
unfoldable pub based_at : ℕ → List ℕ → Option (Found × List ℕ)
based_at base cs =
    if nat_le 2 base && nat_le base 16
    then (numeral_at base cs >>= λ x. beyond_one number_sign x.1 >>= λ rest. scaled_at base x.0 rest)
    else None

abbrev pub as_real : ℕ × List ℕ → Option (Found × List ℕ)
as_real x = Some (Other Real, x.1)

-- a real literal, from its point on
unfoldable pub real_at : List ℕ → Option (Found × List ℕ)
real_at cs = numeral_at 10 cs >>= λ x. exponent_at true x.1 >>= as_real

-- the rest of a numeric literal that begins with this number
unfoldable pub after_numeral : ℕ → List ℕ → Option (Found × List ℕ)
after_numeral n [] = scaled_at 10 n []
after_numeral n (c ∷ cs) =
    if c == number_sign then based_at n cs
    else (if (c == point) && begins_with_digit 10 cs then real_at cs else scaled_at 10 n (c ∷ cs))

unfoldable pub number_at : List ℕ → Option (Found × List ℕ)
number_at cs = numeral_at 10 cs >>= λ x. after_numeral x.0 x.1

-- What follows a string literal, from the character after its first quotation mark on. `ended` is whether a
-- quotation mark stands before, which ends the literal unless another one follows.
abbrev pub beyond_quoted : Bool → List ℕ → Option (List ℕ)
beyond_quoted ended [] = if ended then Some [] else None
beyond_quoted ended (c ∷ cs) =
    if c == quotation_mark then beyond_quoted (not ended) cs
    else (if ended then Some (c ∷ cs) else (if is_control c then None else beyond_quoted false cs))

-- the same characters, after a change of the first ones
abbrev pub same_by : (ℕ → ℕ) → List ℕ → List ℕ → Bool
same_by f [] [] = true
same_by f [] (d ∷ ds) = false
same_by f (c ∷ cs) [] = false
same_by f (c ∷ cs) (d ∷ ds) = (f c == d) && same_by f cs ds

-- the number of the first of the words that is the name after a change of its characters, from a number on
abbrev pub number_from : (ℕ → ℕ) → List ℕ → ℕ → List (List ℕ) → Option ℕ
number_from f name n [] = None
number_from f name n (word ∷ ws) = if same_by f name word then Some n else number_from f name (n + 1) ws

-- the reserved word that a name is
unfoldable pub word_number : (ℕ → ℕ) → List ℕ → Option ℕ
word_number f name = number_from f name 0 words

abbrev pub unless_reserved : Option ℕ → Option Kind
unless_reserved None = Some Ident
unless_reserved (Some n) = None

abbrev pub word_or : Option Kind → Option ℕ → Option Kind
word_or other None = other
word_or other (Some n) = Some (Word n)

-- the kind of an identifier or reserved word
unfoldable pub kind_of_name : List ℕ → Option Kind
kind_of_name name = word_or (unless_reserved (word_number simple_fold name)) (word_number to_ascii_lowercase name)

abbrev pub with_rest : List ℕ → Option Kind → Option (Found × List ℕ)
with_rest rest None = None
with_rest rest (Some kind) = Some (Other kind, rest)

-- an identifier or a reserved word
unfoldable pub name_at : List ℕ → Option (Found × List ℕ)
name_at cs =
    let name = run is_xid_continue cs in
    if underscores_between name then with_rest (beyond is_xid_continue cs) (kind_of_name name) else None

-- what follows a text that begins here
abbrev pub beyond_text : List ℕ → List ℕ → Option (List ℕ)
beyond_text [] cs = Some cs
beyond_text (d ∷ ds) [] = None
beyond_text (d ∷ ds) (c ∷ cs) = if d == c then beyond_text ds cs else None

abbrev pub mark_or : Option (Found × List ℕ) → ℕ → Option (List ℕ) → Option (Found × List ℕ)
mark_or other n None = other
mark_or other n (Some rest) = Some (Other (Mark n), rest)

-- the first of the marks that begins here, from a number on
abbrev pub mark_from : List ℕ → ℕ → List (List ℕ) → Option (Found × List ℕ)
mark_from cs n [] = None
mark_from cs n (mark ∷ ms) = mark_or (mark_from cs (n + 1) ms) n (beyond_text mark cs)

unfoldable pub mark_at : List ℕ → Option (Found × List ℕ)
mark_at cs = mark_from cs 0 marks

-- a character literal, from the character after its first apostrophe on; else the apostrophe is a mark
abbrev pub letter_at : Bool → List ℕ → Option (Found × List ℕ)
letter_at admitted [] = Some (Other (Mark 11), [])
letter_at admitted (c ∷ []) = Some (Other (Mark 11), c ∷ [])
letter_at admitted (c ∷ d ∷ cs) =
    if admitted && ((d == apostrophe) && not (is_control c)) then Some (Other Letter, cs)
    else Some (Other (Mark 11), c ∷ d ∷ cs)

abbrev pub text_or_none : Option (List ℕ) → Option (Found × List ℕ)
text_or_none None = None
text_or_none (Some rest) = Some (Other Text, rest)

-- a token by the first character, before it is seen what follows
unfoldable pub candidate_at : Bool → List ℕ → Option (Found × List ℕ)
candidate_at admitted [] = Some (Other End, [])
candidate_at admitted (c ∷ cs) =
    if is_xid_start c then name_at (c ∷ cs)
    else (if is_digit 10 c then number_at (c ∷ cs)
    else (if c == quotation_mark then text_or_none (beyond_quoted false cs)
    else (if c == apostrophe then letter_at admitted cs
    else mark_at (c ∷ cs))))

-- its kind, but for the value of a number
abbrev pub kind_found : Found → Kind
kind_found (Found.Number n) = Number (pos 0)
kind_found (Other kind) = kind

abbrev pub unless_run_on : Found × List ℕ → Option (Found × List ℕ)
unless_run_on (found, rest) = if can_follow (kind_found found) rest then Some (found, rest) else None

-- the kind of the token that begins here, and what follows it
unfoldable pub token_at : Bool → List ℕ → Option (Found × List ℕ)
token_at admitted cs = candidate_at admitted cs >>= unless_run_on

-- the kind of a token, if its value isn't too wide
abbrev pub kept : Found → Option Kind
kept (Found.Number n) = if nat_lt n wide then Some (Number (pos n)) else None
kept (Other kind) = Some kind
