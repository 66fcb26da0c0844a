-- What holds of the log before and after whatever is judged, where it holds of each line that is written.
use Rattle.std.proofs.Common.{ℕ, ℤ, Option, Some, None, Bool, true, false, if◌then◌else◌}
use Rattle.typed_tree.specs.declared.program.SiteKind.{SiteKind}
use Rattle.name_rules.specs.Declarations.{cells_counted, new_exception, object_written}
use Rattle.name_rules.specs.Judging.{Judging, ◌>>=◌, pure, read, breaks, fault, unless, given, both, some, clean, where_clean}
use Rattle.name_rules.specs.Parts.{new_parameter, new_site}
use Rattle.name_rules.specs.Statements.{new_loop}
use Rattle.name_rules.specs.Types.{written_shape}
use Rattle.name_rules.specs.declared.log.Log.{Log}
use Rattle.name_rules.specs.declared.log.Rule.{Rule}
use Rattle.name_rules.specs.declared.log.Shape.TheVariants as shape
use Rattle.name_rules.specs.declared.log.Shape.{Shape}
use Rattle.name_rules.specs.declared.scope.Context.{Context}
use Rattle.name_rules.specs.declared.scope.Names.{Names}
use Rattle.name_rules.specs.declared.types.Scalar.{Scalar}
use Rattle.name_rules.specs.declared.types.Subtype.{Subtype}
use Rattle.name_laws.proofs.Fitting.{Fits, IsNumber}

-- a relation of logs that holds of each line that is written, and so of lines one after the other, where what is known of
-- the tokens is as is asked
pub record Walk : Type 1 where
  pub Takes : Names → Type 0
  pub R : Log → Log → Type 0
  pub stays : (log : Log) → R log log
  pub joins : (a b c : Log) → R a b → R b c → R a c
  pub breaks : (at : ℕ) (rule : Rule) (log : Log) → R log (breaks at rule log).1
  pub scalar : (s : Scalar) (log : Log) → R log (written_shape (shape.Scalar s) log).1
  pub counted : (token cells : ℕ) (log : Log) → R log (cells_counted token cells log).1
  pub exception : (token : ℕ) (log : Log) → R log (new_exception token log).1
  pub site : (here : Context) (at : ℕ) (k : SiteKind) (log : Log) → R log (new_site here at k log).1
  pub parameter : (log : Log) → R log (new_parameter log).1
  pub loop : (log : Log) → R log (new_loop log).1

-- it holds of objects and of array and record types that are written too; declarations alone write them
pub record Wide : Type 1 where
  pub walk : Walk
  pub shape : (t : Shape) (log : Log) → walk.R log (written_shape t log).1
  pub object : (names : Names) (here : Context) (token : ℕ) (s : Subtype) (n cells : ℕ) (constant : Bool) (value : Option ℤ) → walk.Takes names → Fits s constant value
      → (log : Log) → IsNumber s n log → walk.R log (object_written names here token n cells constant value log).1

-- it holds of the log before and after what is judged
pub record Keeps (walk : Walk) {A : Type 0} (p : Judging A) : Type 0 where
  pub at : (log : Log) → walk.R log (p log).1

pub k-pure : (walk : Walk) {A : Type 0} (a : A) → Keeps walk (pure a)
k-pure walk a = record { at = λ log. walk.stays log }

pub k-some : (walk : Walk) {A : Type 0} (a : A) → Keeps walk (some a)
k-some walk a = record { at = λ log. walk.stays log }

pub k-read : (walk : Walk) {A : Type 0} (f : Log → A) → Keeps walk (read f)
k-read walk f = record { at = λ log. walk.stays log }

pub k-bind : (walk : Walk) {A B : Type 0} (p : Judging A) (f : A → Judging B) → Keeps walk p → ((a : A) → Keeps walk (f a)) → Keeps walk (p >>= f)
k-bind walk p f h k = record { at = λ log. walk.joins log (p log).1 (f (p log).0 (p log).1).1 (h.at log) ((k (p log).0).at (p log).1) }

pub k-breaks : (walk : Walk) (at : ℕ) (rule : Rule) → Keeps walk (breaks at rule)
k-breaks walk at rule = record { at = λ log. walk.breaks at rule log }

pub k-fault : (walk : Walk) {A : Type 0} (at : ℕ) (rule : Rule) → Keeps walk (fault {A = A} at rule)
k-fault walk at rule = record { at = λ log. walk.breaks at rule log }

pub k-unless : (walk : Walk) (b : Bool) (at : ℕ) (rule : Rule) → Keeps walk (unless b at rule)
k-unless walk true at rule = record { at = λ log. walk.stays log }
k-unless walk false at rule = k-breaks walk at rule

pub k-if : (walk : Walk) {A : Type 0} (b : Bool) (p q : Judging A) → Keeps walk p → Keeps walk q → Keeps walk (if b then p else q)
k-if walk true p q h k = h
k-if walk false p q h k = k

pub k-given : (walk : Walk) {A B : Type 0} (x : Option A) (f : A → Judging (Option B)) → ((a : A) → Keeps walk (f a)) → Keeps walk (given x f)
k-given walk None f h = k-pure walk None
k-given walk (Some a) f h = h a

pub k-both : (walk : Walk) {A B C : Type 0} (x : Option A) (y : Option B) (f : A → B → Judging (Option C)) → ((a : A) (b : B) → Keeps walk (f a b)) → Keeps walk (both x y f)
k-both walk None y f h = k-pure walk None
k-both walk (Some a) None f h = k-pure walk None
k-both walk (Some a) (Some b) f h = h a b

pub k-clean : (walk : Walk) {A : Type 0} (p : Judging A) → Keeps walk p → Keeps walk (clean p)
k-clean walk p h = record { at = h.at }

pub k-where_clean : (walk : Walk) {A B : Type 0} (p : Judging A) (f : A → Judging (Option B)) → Keeps walk p → ((a : A) → Keeps walk (f a)) → Keeps walk (where_clean p f)
k-where_clean walk p f h k = k-bind walk (clean p) (λ r. if r.1 then f r.0 else pure None) (k-clean walk p h) (λ r. k-if walk r.1 (f r.0) (pure None) (k r.0) (k-pure walk None))
