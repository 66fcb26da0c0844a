-- Each phase is exact, and so is all of compiling.
use Rattle.std.proofs.Common.{◌≡◌, ◌⊎◌, inl, inr, ⊎_elim, ℕ, ◌<◌, ◌≤◌, arith, List, [], ◌∷◌, Option, Some, None, sym, ◌∙◌, ap}
use Rattle.std.specs.Str.{chars}
use Rattle.ada_base.specs.Derivations.{Derives, DerivesWithin}
use Rattle.ada_base.specs.Tokens.{Tokenized}
use Rattle.ada_base.specs.declared.token.Token.{Token}
use Rattle.check_conflicts.specs.Answer.{HasNoClash, IsLeastClash, IsLeastTouched, IsNotAfter}
use Rattle.syntax_lexer.proofs.OneList.{one_list}
use Rattle.syntax_lexer.proofs.OneFault as lexical'
use Rattle.syntax_lexer.specs.Lexed.{AreLexed}
use Rattle.ada_meaning.proofs.Unblocked.{blocked_law}
use Rattle.check_blocking.specs.Answer.{IsFirst}
use Rattle.syntax_tree.specs.Grammar.{ProgramWords}
use Rattle.syntax_tree.specs.Parsed.{IsParsed, depth_limit}
use Rattle.syntax_tree.specs.Syntax as syntax
use Rattle.ada_base.specs.TokenKinds.{kinds_of}
use Rattle.typed_tree.specs.Syntax as typed
use Rattle.name_faults.specs.Least.{least_of}
use Rattle.name_programs.specs.Resolving.{IsTold}
use Rattle.name_rules.specs.Resolved.{TypedOf, judged, typed_where}
use Rattle.name_rules.specs.declared.log.Fault as names
use Rattle.name_symbols.specs.Naming.{names_of}
use Rattle.syntax_parse.proofs.Verdicts.{one_tree, one_deep}
use Rattle.syntax_readers.proofs.FirstFaults as first
use Rattle.driver.specs.Built.{misnamed}
use Rattle.driver.specs.Compile.{lexing, parsing, naming, blocking, separating, building, from_unblocked, from_typed, from_tree, from_tokens, compiling}
use Rattle.driver.specs.Complaints.{Complaint, lexical, unexpected, too_deep, blocking_call, global_touched, clash}
use Rattle.driver.specs.Phases.{IsExact}
use Rattle.driver.proofs.Phases.{followed_exact}

abbrev tokenized : List ℕ → List Token → Tokenized
tokenized text items = record { text = text; items = items }

pub same_tokens : (text : List ℕ) (a b : Tokenized) → AreLexed text a → AreLexed text b → a ≡ b
same_tokens text a b is are =
    let items : a.items ≡ b.items = one_list (chars text) a.items b.items is.tokens_of are.tokens_of in
    let texts : a.text ≡ b.text = is.text_is ∙ sym are.text_is in
    ap (λ (z : List ℕ). tokenized z a.items) texts ∙ ap (tokenized b.text) items

pub lexing_exact : IsExact lexing
lexing_exact = record {
  one_result = same_tokens;
  one_fault = λ text x y (f, is, same) (g, are, same'). same ∙ ap (lexical text) (lexical'.one_fault text f g is are) ∙ sym same';
  apart = λ text t x r (f, is, same). lexical'.no_fault text t.items f r.readable r.tokens_of r.limits is;
}

pub parsing_exact : IsExact parsing
parsing_exact = record {
  one_result = λ t a b is are. one_tree t.items a b is are;
  one_fault = λ t x y v w. faults t x y v w;
  apart = λ t a x r v. none t a x r v;
}
  where
    derived : (ks : List ℕ) (a : syntax.Program) → DerivesWithin depth_limit ProgramWords ks a → Derives ProgramWords ks a
    derived ks a (w, l, e, within) = (w, l, e)

    faults : (t : Tokenized) (x y : Complaint) → parsing.wrong t x → parsing.wrong t y → x ≡ y
    faults t x y (inl (k, f, same)) (inl (l, g, same')) = same ∙ ap (unexpected t) (first.one_fault ProgramWords (kinds_of t.items) k l f.fault g.fault) ∙ sym same'
    faults t x y (inl (k, f, same)) (inr (l, g, same')) = absurd (f.within l g)
    faults t x y (inr (k, f, same)) (inl (l, g, same')) = absurd (g.within k f)
    faults t x y (inr (k, f, same)) (inr (l, g, same')) = same ∙ ap (too_deep t) (one_deep depth_limit ProgramWords (kinds_of t.items) k l f g) ∙ sym same'

    none : (t : Tokenized) (a : syntax.Program) (x : Complaint) → IsParsed t.items a → parsing.wrong t x → ⊥
    none t a x r (inl (k, f, same)) = first.tree_or_fault ProgramWords (kinds_of t.items) a k (derived (kinds_of t.items) a r) f.fault
    none t a x r (inr (k, f, same)) = first.tree_or_deep depth_limit ProgramWords (kinds_of t.items) a k r f

some_is : {A : Type 0} (x y : A) → (let a : Option A = Some x in a ≡ Some y) → x ≡ y
some_is x y e = cc

some_or_none : {A : Type 0} (x : A) → (let a : Option A = Some x in a ≡ None) → ⊥
some_or_none x e = absurd cc

-- a program with a fault has no typed program
no_typed : (fs : List names.Fault) (p : Option typed.Program) (program : typed.Program) (f : names.Fault) → Some program ≡ typed_where fs p → least_of fs ≡ Some f → ⊥
no_typed [] p program f e h = some_or_none f (sym h)
no_typed (g ∷ fs) p program f e h = some_or_none program e

pub naming_exact : (t : Tokenized) → IsExact (naming t)
naming_exact t = record {
  one_result = λ tree p q r s. some_is p q (r ∙ sym s);
  one_fault = λ tree x y (f, v, same) (g, w, same'). same ∙ ap (misnamed t) (some_is f g (sym v.0 ∙ w.0)) ∙ sym same';
  apart = λ tree p x r (f, v, same). none tree p f r v;
}
  where
    none : (tree : syntax.Program) (p : typed.Program) (f : names.Fault) → Some p ≡ TypedOf (names_of t tree) tree → IsTold (names_of t tree) tree (Some f) → ⊥
    none tree p f r v = no_typed (judged (names_of t tree) tree).1.faults _ p f r v.0

-- one call at most is the first that breaks the rule
one_first : (p : typed.Program) (a c b d : ℕ) → IsFirst p a c → IsFirst p b d → a ≡ b
one_first p a c b d f g = go (f.least b d g.breaks) (g.least a c f.breaks) where
  neither : a < b → b < a → ⊥
  neither less more = omega (arith, less, more)

  go : (a < b) ⊎ ((a ≡ b) × (c ≤ d)) → (b < a) ⊎ ((b ≡ a) × (d ≤ c)) → a ≡ b
  go (inr same) other = same.0
  go (inl less) (inr same) = sym same.0
  go (inl less) (inl more) = absurd (neither less more)

pub blocking_exact : (t : Tokenized) → IsExact (blocking t)
blocking_exact t = record {
  one_result = λ p a b (k, is) (l, are). is ∙ sym are;
  one_fault = λ p x y (at, callee, f, same) (at', callee', g, same'). same ∙ ap (blocking_call t) (one_first p at callee at' callee' f g) ∙ sym same';
  apart = λ p q x (k, is) (at, callee, f, same). (blocked_law p).0 k at callee f.breaks;
}

-- of two pairs of which neither stands behind the other each is the other
same_pair : (a b c d : ℕ) → IsNotAfter a b c d → IsNotAfter c d a b → (a ≡ c) × (b ≡ d)
same_pair a b c d (inl less) (inl more) = absurd (omega (arith, less, more))
same_pair a b c d (inl less) (inr (same, more)) = absurd (omega (arith, less, same))
same_pair a b c d (inr (same, less)) (inl more) = absurd (omega (arith, same, more))
same_pair a b c d (inr (same, less)) (inr (same', more)) = (same, omega (arith, less, more))

one_touched : (p : typed.Program) (a x b y : ℕ) → IsLeastTouched p a x → IsLeastTouched p b y → a ≡ b
one_touched p a x b y f g =
    let (k, held, touched) = f.touched in
    let (l, kept, also) = g.touched in
    (same_pair a x b y (f.least l kept b y also) (g.least k held a x touched)).0

one_clash : (p : typed.Program) (a x b y : ℕ) → IsLeastClash p a x → IsLeastClash p b y → (a ≡ b) × (x ≡ y)
one_clash p a x b y f g =
    let (k, held, touched) = f.clash in
    let (l, kept, also) = g.clash in
    same_pair a x b y (f.least l kept b y also) (g.least k held a x touched)

no_clash : (p : typed.Program) (a x : ℕ) → HasNoClash p → IsLeastClash p a x → ⊥
no_clash p a x none f =
    let (k, held, (order, either)) = f.clash in
    ⊎_elim (none k held a x) (none k held x a) either

pub separating_exact : (t : Tokenized) → IsExact (separating t)
separating_exact t = record {
  one_result = λ p a b (k, is) (l, are). is ∙ sym are;
  one_fault = λ p x y v w. faults p x y v w;
  apart = λ p q x r v. none p q x r v;
}
  where
    faults : (p : typed.Program) (x y : Complaint) → (separating t).wrong p x → (separating t).wrong p y → x ≡ y
    faults p x y (inl (asked, (at, object, f, same))) (inl (also, (at', object', g, same'))) = same ∙ ap (global_touched t) (one_touched p at object at' object' f g) ∙ sym same'
    faults p x y (inl (asked, (at, object, f, same))) (inr (strict, clashes)) = let (k, held, touched) = f.touched in absurd (strict asked k held at object touched)
    faults p x y (inr (strict, clashes)) (inl (asked, (at, object, f, same))) = let (k, held, touched) = f.touched in absurd (strict asked k held at object touched)
    faults p x y (inr (strict, (at, other, f, same))) (inr (strict', (at', other', g, same'))) =
        let (one, two) = one_clash p at other at' other' f g in
        same ∙ ap (λ (k : ℕ). clash t k other) one ∙ ap (clash t at') two ∙ sym same'

    none : (p q : typed.Program) (x : Complaint) → (separating t).right p q → (separating t).wrong p x → ⊥
    none p q x ((strict, free), is) (inl (asked, (at, object, f, same))) = let (k, held, touched) = f.touched in strict asked k held at object touched
    none p q x ((strict, free), is) (inr (strict', (at, other, f, same))) = no_clash p at other free f

pub building_exact : (t : Tokenized) → IsExact (building t)
building_exact t = record {
  one_result = λ p a b is are. is ∙ sym are;
  one_fault = λ p x y v w. absurd v;
  apart = λ p a x is v. v;
}

pub from_unblocked_exact : (t : Tokenized) → IsExact (from_unblocked t)
from_unblocked_exact t = followed_exact (separating t) (λ program. building t) (separating_exact t) (λ program. building_exact t)

from_typed_exact : (t : Tokenized) → IsExact (from_typed t)
from_typed_exact t = followed_exact (blocking t) (λ program. from_unblocked t) (blocking_exact t) (λ program. from_unblocked_exact t)

from_tree_exact : (t : Tokenized) → IsExact (from_tree t)
from_tree_exact t = followed_exact (naming t) (λ tree. from_typed t) (naming_exact t) (λ tree. from_typed_exact t)

pub compiling_exact : IsExact compiling
compiling_exact = followed_exact lexing (λ text. from_tokens) lexing_exact (λ text. followed_exact parsing from_tree parsing_exact from_tree_exact)
