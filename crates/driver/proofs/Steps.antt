-- What a phase answers is what all phases answer.
use Rattle.std.proofs.Common.{◌≡◌, inl, inr, ℕ, List, Option, Bool, true, false, Some, None, refl, subst, sym, ◌∙◌, ap, Result, Ok, Err}
use Rattle.ada_base.specs.Tokens.{Tokenized, kind_at, place_of_token}
use Rattle.check_clashes.specs.declared.granted.Grants.{Grants}
use Rattle.check_conflicts.specs.Answer as conflict
use Rattle.check_conflicts.specs.declared.faults.ConflictFault.TheVariants as fault
use Rattle.check_blocking.specs.Answer.{Answers}
use Rattle.check_blocking.specs.declared.calls.Blocked.{Blocked}
use Rattle.check_blocking.specs.declared.calls.Blocked.TheVariants.{Call}
use Rattle.syntax_tree.specs.Parsed.{IsSyntaxFault, IsTooDeep, is_left_out}
use Rattle.syntax_tree.specs.Syntax as syntax
use Rattle.typed_tree.specs.Syntax as typed
use Rattle.name_programs.specs.Resolving.{IsTold, Resolved, fault_of}
use Rattle.name_programs.specs.declared.resolving.NameFault.{NameFault}
use Rattle.name_rules.specs.declared.log.Fault as names
use Rattle.name_symbols.specs.Naming.{names_of}
use Rattle.driver.specs.Built.{misnamed}
use Rattle.driver.specs.Compile.{compiling, parsing, naming, blocking, separating, IsRefusal, Decides, named_refusal, refusal_of, GivesUnit, GivesRefusal, AreApart}
use Rattle.driver.specs.Complaints.{Complaint, complaint, left_out, unexpected, unexpected_kind, too_deep, blocking_call, global_touched, clash}
use Rattle.driver.specs.declared.note.Note.TheVariants as note
use Rattle.driver.specs.Phases.{Phase, followed}
use Rattle.driver.specs.Compiled.{Compiled, compiled_of}
use Rattle.driver.specs.declared.unit.Unit.{Unit}
use Rattle.driver.specs.declared.refusal.Refusal.{Refusal}
use Rattle.driver.specs.declared.refusal.Refusal.TheVariants.{Refused, OutOfMemory}
use Rattle.driver.proofs.Exact.{compiling_exact}

-- the first phase refuses
pub refuses_first : {A B C : Type 0} (p : Phase A B Complaint) (q : A → Phase B C Complaint) (a : A) (r : Refusal) → IsRefusal p a r → IsRefusal (followed p q) a r
refuses_first p q a OutOfMemory is = tt
refuses_first p q a (Refused code at other note) (c, wrong, same) = (c, inl wrong, same)

-- the first phase has a result, and the next refuses that
pub refuses_next : {A B C : Type 0} (p : Phase A B Complaint) (q : A → Phase B C Complaint) (a : A) (b : B) (r : Refusal) → p.right a b → IsRefusal (q a) b r → IsRefusal (followed p q) a r
refuses_next p q a b OutOfMemory right is = tt
refuses_next p q a b (Refused code at other note) right (c, wrong, same) = (c, inr (b, right, wrong), same)

-- the first phase has a result, and the next answers for that
pub decides_next : {A B C X : Type 0} (p : Phase A B Complaint) (q : A → Phase B C Complaint) (see : X → C) (a : A) (b : B) (r : Result X Refusal) → p.right a b → Decides (q a) see b r → Decides (followed p q) see a r
decides_next p q see a b (Ok x) right is = (b, right, is)
decides_next p q see a b (Err refusal) right is = refuses_next p q a b refusal right is

-- a fault gets its refusal
pub refuses : {A B : Type 0} (p : Phase A B Complaint) (a : A) (c : Complaint) (r : Refusal) → p.wrong a c → r ≡ refusal_of c → IsRefusal p a r
refuses p a c r wrong same = subst (IsRefusal p a) (sym same) (c, wrong, refl)

-- what compile says of an accepted text and of one with a fault
pub gives_unit : (text : List ℕ) (result : Result Unit Refusal) (due : Compiled) → Decides compiling compiled_of text result → compiling.right text due → GivesUnit result due
gives_unit text (Ok unit) due is accepted = compiling_exact.one_result text (compiled_of unit) due is accepted
gives_unit text (Err OutOfMemory) due is accepted = refl
gives_unit text (Err (Refused code at other note)) due (c, wrong, same) accepted = absurd (compiling_exact.apart text due c accepted wrong)

pub gives_refusal : (text : List ℕ) (result : Result Unit Refusal) (f : Complaint) → Decides compiling compiled_of text result → compiling.wrong text f → GivesRefusal result (refusal_of f)
gives_refusal text (Ok unit) f is wrong = compiling_exact.apart text (compiled_of unit) f is wrong
gives_refusal text (Err OutOfMemory) f is wrong = inl refl
gives_refusal text (Err (Refused code at other note)) f (c, is, same) wrong = inr (same ∙ ap refusal_of (compiling_exact.one_fault text c f is wrong))

-- the refusals of parsing: of a token that is left out, of another one, and of one that stands too deep
unexpected_refused : (t : Tokenized) (token : ℕ) (b : Bool) (r : Refusal) → IsSyntaxFault t.items token → is_left_out (kind_at t.items token) ≡ b → r ≡ refusal_of (unexpected_kind b (kind_at t.items token) (place_of_token t token)) → IsRefusal parsing t r
unexpected_refused t token b r fault left same =
    refuses parsing t (unexpected t token) r (inl (token, fault, refl)) (same ∙ ap (λ (b : Bool). refusal_of (unexpected_kind b (kind_at t.items token) (place_of_token t token))) (sym left))

pub refuses_left_out : (t : Tokenized) (token : ℕ) (r : Refusal) → IsSyntaxFault t.items token → is_left_out (kind_at t.items token) ≡ true → r ≡ refusal_of (left_out (kind_at t.items token) (place_of_token t token)) → IsRefusal parsing t r
refuses_left_out t token r fault left same = unexpected_refused t token true r fault left same

pub refuses_syntax : (t : Tokenized) (token : ℕ) (r : Refusal) → IsSyntaxFault t.items token → is_left_out (kind_at t.items token) ≡ false → r ≡ refusal_of (complaint note.Syntax (place_of_token t token)) → IsRefusal parsing t r
refuses_syntax t token r fault left same = unexpected_refused t token false r fault left same

pub refuses_deep : (t : Tokenized) (token : ℕ) (r : Refusal) → IsTooDeep t.items token → r ≡ refusal_of (too_deep t token) → IsRefusal parsing t r
refuses_deep t token r fault same = refuses parsing t (too_deep t token) r (inr (token, fault, refl)) same

-- the refusals of names and types
refuses_told : (t : Tokenized) (tree : syntax.Program) (o : Option names.Fault) → IsTold (names_of t tree) tree o → IsRefusal (naming t) tree (named_refusal t o)
refuses_told t tree None told = tt
refuses_told t tree (Some f) told = (misnamed t f, (f, told, refl), refl)

pub refuses_names : (t : Tokenized) (tree : syntax.Program) (fault : NameFault) (r : Refusal) → Resolved (names_of t tree) tree (Err fault) → r ≡ named_refusal t (fault_of fault) → IsRefusal (naming t) tree r
refuses_names t tree fault r told same = subst (IsRefusal (naming t) tree) (sym same) (refuses_told t tree (fault_of fault) told)

abbrev token_of : Blocked → ℕ
token_of (Call at callee) = at

-- the refusal of a call that breaks the rule on nonblocking text
pub refuses_blocking : (t : Tokenized) (p : typed.Program) (fault : Blocked) (r : Refusal) → Answers p (Err fault) → r ≡ refusal_of (blocking_call t (token_of fault)) → IsRefusal (blocking t) p r
refuses_blocking t p (Call at callee) r told same = refuses (blocking t) p (blocking_call t at) r (at, callee, told.0, refl) same

-- threads that are given grants are apart
pub keeps_apart : (p : typed.Program) (grants : Grants) → conflict.IsAdmitted p grants → AreApart p
keeps_apart p grants admitted = (admitted.strict, admitted.apart)

-- the refusals of threads that aren't apart
pub refuses_touched : (t : Tokenized) (p : typed.Program) (at object : ℕ) (r : Refusal) → conflict.Refuses p (fault.GlobalTouched at object) → r ≡ refusal_of (global_touched t at) → IsRefusal (separating t) p r
refuses_touched t p at object r told same = refuses (separating t) p (global_touched t at) r (inl (told.0, (at, object, told.1, refl))) same

pub refuses_clash : (t : Tokenized) (p : typed.Program) (at other : ℕ) (r : Refusal) → conflict.Refuses p (fault.Clash at other) → r ≡ refusal_of (clash t at other) → IsRefusal (separating t) p r
refuses_clash t p at other r told same = refuses (separating t) p (clash t at other) r (inr (told.0, (at, other, told.1, refl))) same
