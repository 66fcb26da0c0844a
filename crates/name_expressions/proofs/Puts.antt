-- Put of a number, among the calls of predefined procedures.
use Rattle.std.proofs.Common.{◌≡◌, refl, ℕ, Bool, true, false, Option}
use Rattle.std.specs.Prelude.{not}
use Rattle.syntax_tree.specs.Syntax.{Args}
use Rattle.name_rules.specs.Found.{Found}
use Rattle.name_rules.specs.Output.{Putting, by_procedure, is_number_put, is_text, put_by, put_complete}
use Rattle.name_rules.specs.declared.found.Put.TheVariants as put
use Rattle.name_rules.specs.declared.found.Put.{Put}
use Rattle.name_rules.specs.declared.found.Reach.{Reach}

number_by : (at first last : ℕ) (reach : Reach) (more : Args) (x : Option Found) (r : Putting) (b : Bool) → is_text x ≡ b → not b ≡ true → put_by at first last reach more x r ≡ put_complete at first last r
number_by at first last reach more x r true e h = absurd (cc)
number_by at first last reach more x r false e h = rw e refl

pub number_only : (at first last : ℕ) (reach : Reach) (more : Args) (p : Put) (x : Option Found) (r : Putting) → is_number_put p x ≡ true → by_procedure at first last reach more p (x, r) ≡ put_complete at first last r
number_only at first last reach more put.Put x r h = number_by at first last reach more x r (is_text x) refl h
number_only at first last reach more put.PutLine x r h = absurd (cc)
number_only at first last reach more put.NewLine x r h = absurd (cc)
number_only at first last reach more put.Get x r h = absurd (cc)
