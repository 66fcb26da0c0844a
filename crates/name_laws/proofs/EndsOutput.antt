-- What names denote is right: what Output finds.
use Rattle.name_rules.specs.Expressions.{Inside, expr}
use Rattle.name_rules.specs.Found.{Found}
use Rattle.name_rules.specs.Types.{same, typed_scalar}
use Rattle.name_rules.specs.Values.{first_of}
use Rattle.name_rules.specs.declared.found.Found.TheVariants as known
use Rattle.name_rules.specs.declared.found.Found.{Found as Known}
use Rattle.name_rules.specs.declared.found.ObjectName.{ObjectName}
use Rattle.name_rules.specs.declared.found.Put.TheVariants as put
use Rattle.name_rules.specs.declared.found.Put.{Put}
use Rattle.name_rules.specs.declared.found.Reach.{Reach}
use Rattle.name_rules.specs.declared.log.Rule.TheVariants.{NotVisible, WrongType}
use Rattle.name_rules.specs.declared.scope.Context.{Context}
use Rattle.name_rules.specs.declared.scope.Names.{Names}
use Rattle.name_rules.specs.declared.types.Kind.TheVariants as kind
use Rattle.name_rules.specs.declared.types.Subtype.TheVariants as subtype
use Rattle.name_rules.specs.declared.types.Subtype.{Subtype}
use Rattle.name_rules.specs.declared.types.Wanted.TheVariants as wanted
use Rattle.syntax_tree.specs.Syntax as syntax
use Rattle.syntax_tree.specs.Syntax.{Args}
use Rattle.typed_tree.specs.Syntax as typed
use Rattle.typed_tree.specs.Syntax.{Selections}
use Rattle.std.specs.Prelude.{Bool, Option, false, if◌then◌else◌, nat_le, option_map, true, ℕ, ◌&&◌}
use Rattle.name_rules.specs.TypedParts.{selections_of}
use Rattle.typed_tree.specs.Decoded.{TypedPart}
use Rattle.name_rules.specs.Judging.{◌>>=◌, fault, given, joined, pure, some}
use Rattle.name_rules.specs.Output.{done_by, no_name, text_only, alone_given, put_text, text_call, Putting, put_number, width_or, put_complete, is_text, judged_arguments, put_of_text, get_place, get_of, put_by, by_procedure, without_arguments, io_call}
use Rattle.name_laws.proofs.CellsDeclared.{Ends, e-bind, e-fault, e-given, e-if, e-joined, e-map, e-some, e-where_clean}

pub e-text_call : (m0 : ℕ) (x0 : ℕ) (x1 : ℕ) (x2 : ℕ) (x3 : Bool) (x4 : Args) (x5 : Found) → Ends m0 (text_call x0 x1 x2 x3 x4 x5)
e-text_call m0 at first last line more f = e-bind m0 (alone_given at more f) (λ g. given g (λ h. text_only h.known h.part >>= λ ps. pure (option_map (put_text first last line) ps))) (λ g. e-given m0 g (λ h. text_only h.known h.part >>= λ ps. pure (option_map (put_text first last line) ps)) (λ h. e-bind m0 (text_only h.known h.part) (λ ps. pure (option_map (put_text first last line) ps)) (λ ps. e-map m0 (put_text first last line) ps (λ y. tt))))

pub e-put_complete : (m0 : ℕ) (x0 : ℕ) (x1 : ℕ) (x2 : ℕ) (x3 : Putting) → Ends m0 (put_complete x0 x1 x2 x3)
e-put_complete m0 at first last p = e-if m0 (nat_le p.count 2) (pure (joined (put_number first last) p.item (width_or first p))) (fault at WrongType) (e-joined m0 (put_number first last) p.item (width_or first p) (λ y z. tt)) (e-fault m0 at WrongType)

pub e-put_of_text : (m0 : ℕ) (x0 : ℕ) (x1 : ℕ) (x2 : ℕ) (x3 : Reach) (x4 : Args) (x5 : Found) → Ends m0 (put_of_text x0 x1 x2 x3 x4 x5)
e-put_of_text m0 at first last reach more f = e-if m0 (reach.text_io) (text_call at first last false more f) (if reach.expanded then fault (first_of f.known) WrongType else fault first NotVisible) (e-text_call m0 at first last false more f) (e-if m0 (reach.expanded) (fault (first_of f.known) WrongType) (fault first NotVisible) (e-fault m0 (first_of f.known) WrongType) (e-fault m0 first NotVisible))

pub e-get_place : (m0 : ℕ) (x0 : ℕ) (x1 : ℕ) (x2 : ObjectName) (x3 : Selections) (x4 : Subtype) → Ends m0 (get_place x0 x1 x2 x3 x4)
e-get_place m0 first last p ss (subtype.Scalar s) = e-if m0 (p.variable && same s.kind kind.Integer) (some (done_by first (typed.Get first last p.first p.root ss (typed_scalar s)))) (fault p.first WrongType) (e-some m0 (done_by first (typed.Get first last p.first p.root ss (typed_scalar s))) tt) (e-fault m0 p.first WrongType)
e-get_place m0 first last p ss (subtype.Composite n) = e-fault m0 p.first WrongType

pub e-get_of : (m0 : ℕ) (x0 : ℕ) (x1 : ℕ) (x2 : Known) (x3 : TypedPart) → Ends m0 (get_of x0 x1 x2 x3)
e-get_of m0 first last (known.Object p) x = e-get_place m0 first last p (selections_of x) p.subtype
e-get_of m0 first last f x = e-fault m0 (first_of f) WrongType

pub e-put_by : (m0 : ℕ) (x0 : ℕ) (x1 : ℕ) (x2 : ℕ) (x3 : Reach) (x4 : Args) (x5 : Option Found) (x6 : Putting) → Ends m0 (put_by x0 x1 x2 x3 x4 x5 x6)
e-put_by m0 at first last reach more x q = e-if m0 (is_text x) (given x (put_of_text at first last reach more)) (put_complete at first last q) (e-given m0 x (put_of_text at first last reach more) (λ z1. e-put_of_text m0 at first last reach more z1)) (e-put_complete m0 at first last q)

pub e-by_procedure : (m0 : ℕ) (x0 : ℕ) (x1 : ℕ) (x2 : ℕ) (x3 : Reach) (x4 : Args) (x5 : Put) (x6 : Option Found × Putting) → Ends m0 (by_procedure x0 x1 x2 x3 x4 x5 x6)
e-by_procedure m0 at first last reach more put.Put r = e-put_by m0 at first last reach more r.0 r.1
e-by_procedure m0 at first last reach more put.PutLine r = e-given m0 r.0 (text_call at first last true more) (λ z1. e-text_call m0 at first last true more z1)
e-by_procedure m0 at first last reach more put.Get r = e-given m0 r.0 (λ f. alone_given at more f >>= λ g. given g (λ h. get_of first last h.known h.part)) (λ f. e-bind m0 (alone_given at more f) (λ g. given g (λ h. get_of first last h.known h.part)) (λ g. e-given m0 g (λ h. get_of first last h.known h.part) (λ h. e-get_of m0 first last h.known h.part)))
e-by_procedure m0 at first last reach more put.NewLine r = e-fault m0 at WrongType

pub e-without_arguments : (m0 : ℕ) (x0 : ℕ) (x1 : ℕ) (x2 : ℕ) (x3 : Put) → Ends m0 (without_arguments x0 x1 x2 x3)
e-without_arguments m0 at first last put.NewLine = e-some m0 (done_by first (typed.Put first last typed.NoPiece true)) tt
e-without_arguments m0 at first last p = e-fault m0 at WrongType

pub e-io_call : (m0 : ℕ) (x0 : Names) (x1 : Inside) (x2 : Context) (x3 : ℕ) (x4 : ℕ) (x5 : ℕ) (x6 : Put) (x7 : Reach) (x8 : Args) → Ends m0 (io_call x0 x1 x2 x3 x4 x5 x6 x7 x8)
unfolding io_call
e-io_call m0 names inside here at first last p reach syntax.NoArg = e-without_arguments m0 at first last p
e-io_call m0 names inside here at first last p reach (syntax.AlsoArg (syntax.arg name e) as') = e-where_clean m0 (no_name name >>= λ u. expr names inside here wanted.Text e >>= judged_arguments names inside here reach p as') (by_procedure at first last reach as' p) (λ z1. e-by_procedure m0 at first last reach as' p z1)
