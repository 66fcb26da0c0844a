-- The parts of a view have smaller numbers than it has, or its own where it is a part by a lower rule.
use Rattle.std.specs.Prelude.{ℕ, ◌<◌, ◌≤◌, Option, Some, None}
use Rattle.syntax_nodes.specs.declared.expressions.Expr.{Expr}
use Rattle.syntax_nodes.specs.declared.expressions.Expr.TheVariants as expr'
use Rattle.syntax_nodes.specs.declared.expressions.Conjunct.{Conjunct}
use Rattle.syntax_nodes.specs.declared.expressions.Rel.{Rel}
use Rattle.syntax_nodes.specs.declared.expressions.Rel.TheVariants as rel'
use Rattle.syntax_nodes.specs.declared.expressions.Simple.{Simple}
use Rattle.syntax_nodes.specs.declared.expressions.Adding.{Adding}
use Rattle.syntax_nodes.specs.declared.expressions.Term.{Term}
use Rattle.syntax_nodes.specs.declared.expressions.Multiplying.{Multiplying}
use Rattle.syntax_nodes.specs.declared.expressions.Factor.{Factor}
use Rattle.syntax_nodes.specs.declared.expressions.Factor.TheVariants as factor'
use Rattle.syntax_nodes.specs.declared.expressions.Primary.{Primary}
use Rattle.syntax_nodes.specs.declared.expressions.Primary.TheVariants as primary'
use Rattle.syntax_nodes.specs.declared.expressions.Values.{Values}
use Rattle.syntax_nodes.specs.declared.expressions.Elsif.{Elsif}
use Rattle.syntax_nodes.specs.declared.names.Name.{Name}
use Rattle.syntax_nodes.specs.declared.names.NamePart.{NamePart}
use Rattle.syntax_nodes.specs.declared.names.NamePart.TheVariants as name_part'
use Rattle.syntax_nodes.specs.declared.names.Arg.{Arg}
use Rattle.syntax_nodes.specs.declared.names.Range.{Range}
use Rattle.syntax_nodes.specs.declared.names.Range.TheVariants as range'
use Rattle.syntax_nodes.specs.declared.names.Choice.{Choice}
use Rattle.syntax_nodes.specs.declared.names.Choice.TheVariants as choice'
use Rattle.syntax_nodes.specs.declared.names.Many.{Many}
use Rattle.syntax_nodes.specs.declared.names.Many.TheVariants as many'
use Rattle.syntax_nodes.specs.declared.names.Assoc.{Assoc}
use Rattle.syntax_nodes.specs.declared.names.Assoc.TheVariants as assoc'
use Rattle.syntax_nodes.specs.declared.names.Parallel.{Parallel}
use Rattle.syntax_nodes.specs.declared.names.Parallel.TheVariants as parallel'
use Rattle.syntax_nodes.specs.declared.names.Iter.{Iter}
use Rattle.syntax_nodes.specs.declared.names.Iter.TheVariants as iter'
use Rattle.syntax_nodes.specs.declared.declarations.Ids.{Ids}
use Rattle.syntax_nodes.specs.declared.declarations.Indic.{Indic}
use Rattle.syntax_nodes.specs.declared.declarations.Indic.TheVariants as indic'
use Rattle.syntax_nodes.specs.declared.declarations.Array.{Array}
use Rattle.syntax_nodes.specs.declared.declarations.Comp.{Comp}
use Rattle.syntax_nodes.specs.declared.declarations.ObjectType.{ObjectType}
use Rattle.syntax_nodes.specs.declared.declarations.ObjectType.TheVariants as object_type'
use Rattle.syntax_nodes.specs.declared.declarations.Definition.{Definition}
use Rattle.syntax_nodes.specs.declared.declarations.Definition.TheVariants as definition'
use Rattle.syntax_nodes.specs.declared.declarations.Decl.{Decl}
use Rattle.syntax_nodes.specs.declared.declarations.Decl.TheVariants as decl'
use Rattle.syntax_nodes.specs.declared.declarations.Formal.{Formal}
use Rattle.syntax_nodes.specs.declared.declarations.Formals.{Formals}
use Rattle.syntax_nodes.specs.declared.statements.Pack.{Pack}
use Rattle.syntax_nodes.specs.declared.statements.Declare.{Declare}
use Rattle.syntax_nodes.specs.declared.statements.Scheme.{Scheme}
use Rattle.syntax_nodes.specs.declared.statements.Scheme.TheVariants as scheme'
use Rattle.syntax_nodes.specs.declared.statements.Handled.{Handled}
use Rattle.syntax_nodes.specs.declared.statements.Handled.TheVariants as handled'
use Rattle.syntax_nodes.specs.declared.statements.Stmts.{Stmts}
use Rattle.syntax_nodes.specs.declared.statements.Stmt.{Stmt}
use Rattle.syntax_nodes.specs.declared.statements.Stmt.TheVariants as stmt'
use Rattle.syntax_nodes.specs.declared.statements.Arm.{Arm}
use Rattle.syntax_nodes.specs.declared.statements.Alt.{Alt}
use Rattle.syntax_nodes.specs.declared.statements.Body.{Body}
use Rattle.syntax_nodes.specs.declared.statements.Handler.{Handler}
use Rattle.syntax_nodes.specs.declared.units.Bracketed.{Bracketed}
use Rattle.syntax_nodes.specs.declared.units.Implementation.{Implementation}
use Rattle.syntax_nodes.specs.declared.units.Sub.{Sub}
use Rattle.syntax_nodes.specs.declared.units.Sub.TheVariants as sub'
use Rattle.syntax_nodes.specs.declared.units.Unit.{Unit as UnitView}
use Rattle.syntax_nodes.specs.declared.units.Unit.TheVariants as unit'
use Rattle.syntax_nodes.specs.declared.units.Clause.{Clause}
use Rattle.syntax_nodes.specs.declared.units.Main.{Main}
use Rattle.syntax_nodes.specs.declared.units.Program.{Program}

abbrev pub OptionBelow : ℕ → Option ℕ → Type 0
OptionBelow k None = Unit {0}
OptionBelow k (Some n) = n < k

abbrev pub ExprBelow : ℕ → Expr → Type 0
ExprBelow k (expr'.Single n) = n ≤ k
ExprBelow k (expr'.Joined by first n second more) = (first < k) × (second < k) × (more < k)

abbrev pub ConjunctBelow : ℕ → Conjunct → Type 0
ConjunctBelow k v = v.rel ≤ k

abbrev pub RelBelow : ℕ → Rel → Type 0
RelBelow k (rel'.Alone n) = n ≤ k
RelBelow k (rel'.Compared left by n right) = (left < k) × (right < k)
RelBelow k (rel'.Within v negation n low high) = (v < k) × (low < k) × (high < k)
RelBelow k (rel'.OfMark v negation n mark) = v < k

abbrev pub SimpleBelow : ℕ → Simple → Type 0
SimpleBelow k v = (v.first ≤ k) × (v.more ≤ k)

abbrev pub AddingBelow : ℕ → Adding → Type 0
AddingBelow k v = v.term ≤ k

abbrev pub TermBelow : ℕ → Term → Type 0
TermBelow k v = (v.first ≤ k) × (v.more ≤ k)

abbrev pub MultiplyingBelow : ℕ → Multiplying → Type 0
MultiplyingBelow k v = v.factor ≤ k

abbrev pub FactorBelow : ℕ → Factor → Type 0
FactorBelow k (factor'.Operand n) = n ≤ k
FactorBelow k (factor'.Power base n exponent) = (base < k) × (exponent < k)
FactorBelow k (factor'.Abs n operand) = operand < k
FactorBelow k (factor'.Not n operand) = operand < k

abbrev pub PrimaryBelow : ℕ → Primary → Type 0
PrimaryBelow k (primary'.Named n) = n ≤ k
PrimaryBelow k (primary'.Number n) = Unit {0}
PrimaryBelow k (primary'.Text n) = Unit {0}
PrimaryBelow k (primary'.Target n) = Unit {0}
PrimaryBelow k (primary'.Group bracket expr) = expr < k
PrimaryBelow k (primary'.If bracket n condition v more otherwise) = (condition < k) × (v < k) × (more < k) × (otherwise < k)
PrimaryBelow k (primary'.Round bracket many) = many < k
PrimaryBelow k (primary'.Square bracket many) = many < k
PrimaryBelow k (primary'.OneValue bracket v) = v < k
PrimaryBelow k (primary'.Reduction bracket values attribute reducer initial) = (values < k) × (reducer < k) × (initial < k)

abbrev pub ValuesBelow : ℕ → Values → Type 0
ValuesBelow k v = OptionBelow k v.parallel × (v.iter ≤ k) × (v.value ≤ k)

abbrev pub ElsifBelow : ℕ → Elsif → Type 0
ElsifBelow k v = (v.condition ≤ k) × (v.value ≤ k)

abbrev pub NameBelow : ℕ → Name → Type 0
NameBelow k v = v.parts ≤ k

abbrev pub NamePartBelow : ℕ → NamePart → Type 0
NamePartBelow k (name_part'.Field n) = Unit {0}
NamePartBelow k (name_part'.Call bracket first more) = (first < k) × (more < k)
NamePartBelow k (name_part'.Attribute n) = Unit {0}
NamePartBelow k (name_part'.RangeAttribute n) = Unit {0}

abbrev pub ArgBelow : ℕ → Arg → Type 0
ArgBelow k v = v.value ≤ k

abbrev pub RangeBelow : ℕ → Range → Type 0
RangeBelow k (range'.Whole n) = n ≤ k
RangeBelow k (range'.Bounded low high) = (low < k) × (high < k)
RangeBelow k (range'.Constrained m low high) = (m < k) × (low < k) × (high < k)

abbrev pub ChoiceBelow : ℕ → Choice → Type 0
ChoiceBelow k (choice'.Value n) = n ≤ k
ChoiceBelow k (choice'.Span low high) = (low < k) × (high < k)
ChoiceBelow k (choice'.Others n) = Unit {0}

abbrev pub ManyBelow : ℕ → Many → Type 0
ManyBelow k (many'.Positions first second more) = (first < k) × (second < k) × (more < k)
ManyBelow k (many'.PositionsOthers first second more n others) = (first < k) × (second < k) × (more < k) × (others < k)
ManyBelow k (many'.FirstOthers first n others) = (first ≤ k) × (others ≤ k)
ManyBelow k (many'.Associations first more) = (first < k) × (more < k)

abbrev pub AssocBelow : ℕ → Assoc → Type 0
AssocBelow k (assoc'.Chosen first more v) = (first ≤ k) × (more ≤ k) × (v ≤ k)
AssocBelow k (assoc'.Each n index r v) = (r < k) × (v < k)

abbrev pub ParallelBelow : ℕ → Parallel → Type 0
ParallelBelow k (parallel'.Unchunked n) = Unit {0}
ParallelBelow k (parallel'.Counted n count) = count < k
ParallelBelow k (parallel'.Chunked n index r) = r < k

abbrev pub IterBelow : ℕ → Iter → Type 0
IterBelow k (iter'.InRange index reverse r filter) = (r ≤ k) × OptionBelow k filter
IterBelow k (iter'.OfName item m filter) = (m < k) × OptionBelow k filter

abbrev pub IdsBelow : ℕ → Ids → Type 0
IdsBelow k v = v.more ≤ k

abbrev pub IndicBelow : ℕ → Indic → Type 0
IndicBelow k (indic'.Mark mark) = Unit {0}
IndicBelow k (indic'.RangeMark mark low high) = (low < k) × (high < k)

abbrev pub ArrayBelow : ℕ → Array → Type 0
ArrayBelow k v = (v.first ≤ k) × (v.more ≤ k) × (v.component ≤ k)

abbrev pub CompBelow : ℕ → Comp → Type 0
CompBelow k v = (v.names ≤ k) × (v.component ≤ k)

abbrev pub ObjectTypeBelow : ℕ → ObjectType → Type 0
ObjectTypeBelow k (object_type'.Indicated n) = n ≤ k
ObjectTypeBelow k (object_type'.Anonymous n) = n ≤ k

abbrev pub DefinitionBelow : ℕ → Definition → Type 0
DefinitionBelow k (definition'.ArrayType n) = n ≤ k
DefinitionBelow k (definition'.RangeType low high) = (low ≤ k) × (high ≤ k)
DefinitionBelow k (definition'.ModularType n) = n < k
DefinitionBelow k (definition'.RecordType first more) = (first < k) × (more < k)

abbrev pub DeclBelow : ℕ → Decl → Type 0
DeclBelow k (decl'.ObjectDecl names constant object_type v) = (names < k) × (object_type < k) × OptionBelow k v
DeclBelow k (decl'.NumberDecl names n v) = (names < k) × (v < k)
DeclBelow k (decl'.ExceptionDecl names) = names ≤ k
DeclBelow k (decl'.TypeDecl n defined definition) = definition < k
DeclBelow k (decl'.SubtypeDecl n defined indic) = indic < k

abbrev pub FormalBelow : ℕ → Formal → Type 0
FormalBelow k v = v.names ≤ k

abbrev pub FormalsBelow : ℕ → Formals → Type 0
FormalsBelow k v = (v.first ≤ k) × (v.more ≤ k)

abbrev pub PackBelow : ℕ → Pack → Type 0
PackBelow k v = v.more ≤ k

abbrev pub DeclareBelow : ℕ → Declare → Type 0
DeclareBelow k v = v.decls ≤ k

abbrev pub SchemeBelow : ℕ → Scheme → Type 0
SchemeBelow k (scheme'.While n condition) = condition ≤ k
SchemeBelow k (scheme'.For parallel n iter) = OptionBelow k parallel × (iter < k)

abbrev pub HandledBelow : ℕ → Handled → Type 0
HandledBelow k (handled'.AnyOther n) = Unit {0}
HandledBelow k (handled'.These first more) = (first < k) × (more < k)

abbrev pub StmtsBelow : ℕ → Stmts → Type 0
StmtsBelow k v = (v.first ≤ k) × (v.more ≤ k)

abbrev pub StmtBelow : ℕ → Stmt → Type 0
StmtBelow k (stmt'.Null n) = Unit {0}
StmtBelow k (stmt'.Assign target v) = (target < k) × (v < k)
StmtBelow k (stmt'.CallStmt m) = m < k
StmtBelow k (stmt'.Exit n from condition) = OptionBelow k condition
StmtBelow k (stmt'.Return n v) = OptionBelow k v
StmtBelow k (stmt'.Raise n exception) = OptionBelow k exception
StmtBelow k (stmt'.IfStmt n condition stmts more otherwise) = (condition < k) × (stmts < k) × (more < k) × OptionBelow k otherwise
StmtBelow k (stmt'.Case n v first more) = (v < k) × (first < k) × (more < k)
StmtBelow k (stmt'.Loop label scheme n stmts last last_name) = OptionBelow k scheme × (stmts < k)
StmtBelow k (stmt'.Block declare n body) = OptionBelow k declare × (body < k)
StmtBelow k (stmt'.ParallelBlock n count first second more) = OptionBelow k count × (first < k) × (second < k) × (more < k)

abbrev pub ArmBelow : ℕ → Arm → Type 0
ArmBelow k v = (v.condition ≤ k) × (v.stmts ≤ k)

abbrev pub AltBelow : ℕ → Alt → Type 0
AltBelow k v = (v.first ≤ k) × (v.more ≤ k) × (v.stmts ≤ k)

abbrev pub BodyBelow : ℕ → Body → Type 0
BodyBelow k v = (v.stmts ≤ k) × (v.handlers ≤ k)

abbrev pub HandlerBelow : ℕ → Handler → Type 0
HandlerBelow k v = (v.handled ≤ k) × (v.stmts ≤ k)

abbrev pub BracketedBelow : ℕ → Bracketed → Type 0
BracketedBelow k v = v.value ≤ k

abbrev pub ImplementationBelow : ℕ → Implementation → Type 0
ImplementationBelow k v = (v.decls ≤ k) × (v.body ≤ k)

abbrev pub SubBelow : ℕ → Sub → Type 0
SubBelow k (sub'.Procedure n defined formals aspect implementation) = OptionBelow k formals × OptionBelow k aspect × (implementation < k)
SubBelow k (sub'.Function n defined formals result_mark aspect implementation) = OptionBelow k formals × OptionBelow k aspect × (implementation < k)
SubBelow k (sub'.ExprFunction n defined formals result_mark bracketed aspect) = OptionBelow k formals × (bracketed ≤ k) × OptionBelow k aspect

abbrev pub UnitBelow : ℕ → UnitView → Type 0
UnitBelow k (unit'.Decl n) = n ≤ k
UnitBelow k (unit'.Sub n) = n ≤ k

abbrev pub ClauseBelow : ℕ → Clause → Type 0
ClauseBelow k v = (v.first ≤ k) × (v.more ≤ k)

abbrev pub MainBelow : ℕ → Main → Type 0
MainBelow k v = OptionBelow k v.aspect × (v.units ≤ k) × (v.body ≤ k)

abbrev pub ProgramBelow : ℕ → Program → Type 0
ProgramBelow k v = OptionBelow k v.policy × (v.clauses ≤ k) × (v.main ≤ k)
