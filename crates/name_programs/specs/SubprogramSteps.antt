-- One step of what is judged item by item, and what is judged of one kind of subprogram.
use Rattle.syntax_tree.specs.Syntax.{Aspect, Clause, Formals, Pack}
use Rattle.syntax_tree.specs.declared.operators.ClauseWord.{ClauseWord}
use Rattle.typed_tree.specs.Syntax.{Sub as TypedSub}
use Rattle.name_rules.specs.Judging.{Judging, pure, ◌>>=◌}
use Rattle.name_rules.specs.Programs as whole
use Rattle.name_rules.specs.Programs.{Profiled, clause_name, clause_packs, formals_from, pack, profile, with_value_of}
use Rattle.name_rules.specs.Scope.{entry}
use Rattle.name_rules.specs.Symbols.{ada_name, integer_io_name, text_io_name}
use Rattle.name_rules.specs.declared.log.Taken.{Taken}
use Rattle.name_rules.specs.declared.scope.Context.{Context}
use Rattle.name_rules.specs.declared.scope.Entry.{Entry}
use Rattle.name_rules.specs.declared.scope.Names.{Names}
use Rattle.name_rules.specs.declared.scope.What.TheVariants as what
use Rattle.name_rules.specs.declared.types.Kind.{Kind}
use Rattle.name_rules.specs.declared.types.Subtype.TheVariants as subtype
use Rattle.std.specs.Prelude.{Bool, List, None, Option, Some, false, length, true, ℕ, ℤ, ◌&&◌, ◌==◌, ◌||◌, ◌∷◌}
use Rattle.syntax_nodes.specs.Parts.{Bracketed, Implementation}

abbrev pub clause_pack : Names → ClauseWord → Context → Pack → Judging Context
clause_pack names w here p = pack names p >>= λ n. clause_name w here p.first n

abbrev pub clause : Names → Context → Clause → Judging Context
clause names here c = clause_packs names c.word here (c.first ∷ c.more)

-- whether a subprogram is nonblocking, if there is one
abbrev pub sub_where : Option ℕ → Bool → Bool → Option Bool
sub_where None z b = None
sub_where (Some n) z true = Some z
sub_where (Some n) z false = None

abbrev pub with_body : Names → ℕ → Bool → ℕ → Profiled → Option Aspect → Implementation → Judging (Option TypedSub)
with_body names n blocking name p a i = whole.with_body names n blocking name p a i.decls i.body i.last_name

abbrev pub implemented : Names → ℕ → Bool → ℕ → Context → ℕ → Option ℕ → Option Formals → Option Aspect → Implementation → Judging (Context × Option TypedSub)
implemented names n blocking start here name result fs a i = profile names start here name result fs >>= λ p. with_body names n blocking name p a i >>= λ s. pure (p.outer, s)

abbrev pub expressed : Names → ℕ → Bool → ℕ → Context → ℕ → ℕ → Option Formals → Option Aspect → Bracketed → Judging (Context × Option TypedSub)
expressed names n blocking start here name result fs a b = profile names start here name (Some result) fs >>= λ p. with_value_of names n blocking p a b.value >>= λ s. pure (p.outer, s)

-- the parameters of a formal part, behind others
abbrev pub all_formals : Names → Bool → Context → Option (List Taken) → Formals → Judging (Context × Option (List Taken))
all_formals names function here done f = formals_from names function (length here.scope) here done (f.first ∷ f.more)

-- whether identifiers behind the name of a library may go on with this one
abbrev pub goes_on : ℕ → ℕ → Bool
goes_on library name = library == ada_name && (name == text_io_name || name == integer_io_name)

-- a name of package Standard (A.1) that is a subtype
abbrev pub subtype_entry : ℕ → Kind → ℤ → ℤ → Entry
subtype_entry name k low high = entry name (what.Type (subtype.Scalar (record { kind = k; low = low; high = high })))
