-- Judging that finds what is as is asked, where its log leads to the whole one of the program.
use Rattle.std.proofs.Common.{◌≡◌, refl, sym, ap, ◌∙◌, ℕ, ◌+◌, ◌≤◌, List, [], ◌∷◌, ◌++◌, length, length-append, Option, Some, None, Bool, true, false, if◌then◌else◌, nat_le, nat_lt, ◌==◌, arith}
use Rattle.std.specs.Prelude.{not, ◌||◌}
use Rattle.std.proofs.lemmas.List.{append_assoc, append-nil}
use Rattle.typed_tree.specs.Syntax.{Program}
use Rattle.typed_tree.specs.declared.program.Object.{Object}
use Rattle.name_rules.specs.Declarations.{cells_counted}
use Rattle.name_rules.specs.Judging.{Judging, ◌>>=◌, both, fault, given, pure, some, unless}
use Rattle.name_rules.specs.Types.{saturated}
use Rattle.name_rules.specs.Limits.{most_cells, most_objects}
use Rattle.name_rules.specs.declared.log.Bound.TheVariants as bound
use Rattle.name_rules.specs.declared.log.Log.{Log}
use Rattle.name_rules.specs.declared.log.Rule.{Rule}
use Rattle.name_rules.specs.declared.log.Rule.TheVariants.{Limit}
use Rattle.name_rules.specs.declared.log.Shape.{Shape as Entry}
use Rattle.name_rules.specs.declared.scope.Context.{Context}
use Rattle.name_laws.proofs.Walk.{Keeps, Wide}
use Rattle.name_laws.proofs.Walk as walk
use Rattle.name_laws.proofs.Walked.{WalksProfiles}
use Rattle.behaviours.specs.Paths.{Entity}
use Rattle.name_rules.specs.declared.log.Profile.{Profile}
use Rattle.name_scopes.proofs.Sees.{Any, Sees, Maybe, Sight, World}
use Rattle.name_scopes.proofs.SeesFound.{Around}
use Rattle.name_scopes.proofs.SeesShapes.{Facts, world}

-- ---- a log grows

pub record Leads (a b : Log) : Type 0 where
  pub shapes : List Entry
  pub table : b.shapes ≡ a.shapes ++ shapes
  pub objects : List Object
  pub rows : b.objects ≡ a.objects ++ objects
  pub profiles : List Profile
  pub listed : b.profiles ≡ a.profiles ++ profiles
  pub stays : b.faults ≡ [] → a.faults ≡ []

at-most : (a b c : ℕ) → a ≤ b → b ≤ c → a ≤ c
at-most a b c h k = omega (arith, h, k)

pub least : (n : ℕ) → n ≤ n
least n = omega arith

pub leads_same : (a b : Log) → b.shapes ≡ a.shapes → b.objects ≡ a.objects → b.profiles ≡ a.profiles → (b.faults ≡ [] → a.faults ≡ []) → Leads a b
leads_same a b e f h k = record { shapes = []; table = e ∙ sym (append-nil a.shapes); objects = []; rows = f ∙ sym (append-nil a.objects); profiles = []; listed = h ∙ sym (append-nil a.profiles); stays = k }

pub leads_joined : (a b c : Log) → Leads a b → Leads b c → Leads a c
leads_joined a b c f g = record {
  shapes = f.shapes ++ g.shapes;
  table = g.table ∙ ap (λ s. s ++ g.shapes) f.table ∙ append_assoc a.shapes f.shapes g.shapes;
  objects = f.objects ++ g.objects;
  rows = g.rows ∙ ap (λ s. s ++ g.objects) f.rows ∙ append_assoc a.objects f.objects g.objects;
  profiles = f.profiles ++ g.profiles;
  listed = g.listed ∙ ap (λ s. s ++ g.profiles) f.listed ∙ append_assoc a.profiles f.profiles g.profiles;
  stays = λ h. f.stays (g.stays h);
}

-- no fewer profiles
pub leads_many : (a b : Log) → Leads a b → length a.profiles ≤ length b.profiles
leads_many a b l = omega (arith, ap length l.listed, length-append a.profiles l.profiles)

pub leads_here : (a : Log) → Leads a a
leads_here a = leads_same a a refl refl refl (λ h. h)

pub not-none : {A : Type 0} (xs : List A) (x : A) → xs ++ x ∷ [] ≡ [] → ⊥
not-none [] x e = cc
not-none (y ∷ xs) x e = cc

unless_leads : (b : Bool) (at : ℕ) (rule : Rule) (log : Log) → Leads log (unless b at rule log).1
unless_leads true at rule log = leads_here log
unless_leads false at rule log = leads_same log _ refl refl refl (λ h. absurd (not-none log.faults _ h))

pub counted_leads : (token cells : ℕ) (log : Log) → Leads log (cells_counted token cells log).1
counted_leads token cells log =
    let all = saturated (log.cells + cells) in
    let now = record log { declared = log.declared + 1; cells = all } in
    let mid = (unless (not (log.declared == most_objects)) token (Limit bound.Objects) now).1 in
    leads_joined log now _ (leads_same log now refl refl refl (λ h. h))
    (leads_joined now mid _ (unless_leads (not (log.declared == most_objects)) token (Limit bound.Objects) now) (unless_leads (nat_lt most_cells log.cells || nat_le all most_cells) token (Limit bound.Cells) mid))

pub one_shape : (t : Entry) (log : Log) → Leads log (record log { shapes = log.shapes ++ t ∷ [] })
one_shape t log = record { shapes = t ∷ []; table = refl; objects = []; rows = sym (append-nil log.objects); profiles = []; listed = sym (append-nil log.profiles); stays = λ h. h }

abbrev pub leading : Wide
leading = record {
  walk = record {
    Takes = λ names. Unit {0};
    R = Leads;
    stays = leads_here;
    joins = leads_joined;
    breaks = λ at rule log. leads_same log _ refl refl refl (λ h. absurd (not-none log.faults _ h));
    scalar = λ s log. one_shape _ log;
    counted = counted_leads;
    exception = λ token log. leads_same log _ refl refl refl (λ h. h);
    site = λ here at k log. leads_same log _ refl refl refl (λ h. h);
    parameter = λ log. leads_same log _ refl refl refl (λ h. h);
    loop = λ log. leads_same log _ refl refl refl (λ h. h);
  };
  shape = one_shape;
  object = λ names here token s n cells constant value takes fits log i. record {
    shapes = [];
    table = sym (append-nil log.shapes);
    objects = _;
    rows = refl;
    profiles = [];
    listed = sym (append-nil log.profiles);
    stays = λ h. h;
  };
}

pub profiling : WalksProfiles leading.walk
profiling = record { profile = λ ts s log. record { shapes = []; table = sym (append-nil log.shapes); objects = []; rows = sym (append-nil log.objects); profiles = _; listed = refl; stays = λ h. h } }

-- ---- judging

-- what was supposed, and what was found since
pub record And (G H : Type 0) : Type 0 where
  pub old : G
  pub new : H

-- under what is supposed, what is found is as is asked
pub record Back (L : Log) (many : ℕ) (G : Type 0) {A : Type 0} (Q : A → Type 0) (p : Judging A) : Type 0 where
  pub keeps : Keeps leading.walk p
  pub at : (log : Log) → Leads (p log).1 L → many ≤ length log.profiles → G → Q (p log).0

module _ (L : Log) (many : ℕ) (G : Type 0) where
  pub b-pure : {A : Type 0} (Q : A → Type 0) (a : A) → (G → Q a) → Back L many G Q (pure a)
  b-pure Q a q = record { keeps = walk.k-pure leading.walk a; at = λ log l m g. q g }

  pub b-some : {A : Type 0} (Q : A → Type 0) (a : A) → (G → Q a) → Back L many G (Maybe Q) (some a)
  b-some Q a q = record { keeps = walk.k-some leading.walk a; at = λ log l m g. q g }

  pub b-none : {A : Type 0} (Q : A → Type 0) → Back L many G (Maybe Q) (pure None)
  b-none Q = record { keeps = walk.k-pure leading.walk None; at = λ log l m g. tt }

  pub b-fault : {A : Type 0} (Q : A → Type 0) (at : ℕ) (rule : Rule) → Back L many G (Maybe Q) (fault at rule)
  b-fault Q at rule = record { keeps = walk.k-fault leading.walk at rule; at = λ log l m g. tt }

  pub b-any : {A : Type 0} (p : Judging A) → Keeps leading.walk p → Back L many G Any p
  b-any p k = record { keeps = k; at = λ log l m g. tt }

  pub b-bind : {A B : Type 0} (Q : A → Type 0) (R : B → Type 0) (p : Judging A) (f : A → Judging B) → Back L many G Q p → ((a : A) → Back L many (And G (Q a)) R (f a)) → Back L many G R (p >>= f)
  b-bind Q R p f m n = record {
    keeps = walk.k-bind leading.walk p f m.keeps (λ a. (n a).keeps);
    at = λ log l b g.
        let mid = (p log).1 in
        let k = leads_joined mid (f (p log).0 mid).1 L ((n (p log).0).keeps.at mid) l in
        (n (p log).0).at mid l (at-most many (length log.profiles) (length mid.profiles) b (leads_many log mid (m.keeps.at log))) (record { old = g; new = m.at log k b g });
  }

  pub b-given : {A B : Type 0} (Q : A → Type 0) (R : B → Type 0) (x : Option A) (f : A → Judging (Option B)) → (G → Maybe Q x) → ((a : A) → Back L many (And G (Q a)) (Maybe R) (f a)) → Back L many G (Maybe R) (given x f)
  b-given Q R None f q m = b-none R
  b-given Q R (Some a) f q m = record { keeps = (m a).keeps; at = λ log l b g. (m a).at log l b (record { old = g; new = q g }) }

  pub b-both : {A B C : Type 0} (Q : A → Type 0) (R : B → Type 0) (S : C → Type 0) (x : Option A) (y : Option B) (f : A → B → Judging (Option C)) → (G → Maybe Q x) → (G → Maybe R y)
      → ((a : A) (b : B) → Back L many (And (And G (Q a)) (R b)) (Maybe S) (f a b)) → Back L many G (Maybe S) (both x y f)
  b-both Q R S None y f q r m = b-none S
  b-both Q R S (Some a) None f q r m = b-none S
  b-both Q R S (Some a) (Some b) f q r m = record { keeps = (m a b).keeps; at = λ log l k g. (m a b).at log l k (record { old = record { old = g; new = q g }; new = r g }) }

  pub b-if : {A : Type 0} (Q : A → Type 0) (b : Bool) (p q : Judging A) → Back L many G Q p → Back L many G Q q → Back L many G Q (if b then p else q)
  b-if Q true p q m n = m
  b-if Q false p q m n = n

-- what is known in a log that leads to the whole one
module _ (P : Program) (shown : ℕ → Entity → Bool) (L : Log) (F : Facts P shown L) where
  abbrev pub now : (log : Log) → Leads log L → World
  now log l = world P shown L F log l.shapes l.profiles l.table l.listed

  -- what is around a text is right at each such log
  abbrev pub Near : Sight → Context → Type 0
  Near V here = (log : Log) (l : Leads log L) → Around (now log l) V here

  pub b-lift : (V : Sight) (G : Type 0) {A : Type 0} (Q : A → Type 0) (p : Judging A) → Keeps leading.walk p → ((log : Log) (l : Leads log L) → G → Sees (now log l) V Q p) → Back L V.bound G Q p
  b-lift V G Q p k f = record { keeps = k; at = λ log l b g. ((f log (leads_joined log (p log).1 L (k.at log) l) g).at log refl (refl, b)).2 }
