-- What is asked of leases where threads are to go well on their views, at the forks of each kind of construct.
use Rattle.std.proofs.Common.{◌≡◌, ℕ, ◌*◌, ◌-◌, ℤ, pos, ◌+ℤ◌, ◌-ℤ◌, List, Option, Some, None, Bool, true, false, cond, sym, ◌∙◌}
use Rattle.behaviours.specs.Joins.{Site, Share, deal}
use Rattle.typed_tree.specs.declared.scalars.Check.{Check}
use Rattle.typed_tree.specs.declared.expressions.Root.{Root}
use Rattle.typed_tree.specs.Syntax.{Expr, Optional, Range, Components, Selections, Chunk, Program}
use Rattle.ada_meaning.specs.Values
use Rattle.ada_meaning.specs.Meaning
use Rattle.ada_meaning.specs.Meaning.{Env, Chunking, ObjectPart, inside, cut_of, value_cut_of}
use Rattle.stack_code.specs.declared.code.CodeSite.{CodeSite}
use Rattle.stack_code.specs.Deeds.{asked}
use Rattle.ada_lower.specs.Driven.{Fixed, sizes_for}
use Rattle.ada_lower.specs.Sights.{Sight, taking}
use Rattle.ada_lower.specs.Fits.{Ghost, Knows, Spread}
use Rattle.ada_lower.proofs.ForkFine.{Lends}
use Rattle.ada_lower.proofs.ForkInside.{nested_in}
use Rattle.typed_tree.specs.declared.expressions.Reducer.{Reducer}
use Rattle.stack_code.specs.declared.code.SiteKind.TheVariants as kind
use Rattle.ada_lower.specs.Emission.{loop_kind, reduction_kind}
use Rattle.ada_lower.proofs.Items.{named_entity}
use Rattle.ada_lower.proofs.ForkRange.{Chunks}

-- the values of a range, and the items of an array's part
abbrev pub ranged : (p : ℕ) (l u : ℤ) → Meaning.Course
ranged p l u = record { count = Values.count l u; bound = λ i. Meaning.with_parameter p (cond false (u -ℤ pos i) (l +ℤ pos i)) }

abbrev pub listed : Bool → (p count stride : ℕ) → ObjectPart → Meaning.Course
listed constant p count stride q = record { count = count; bound = λ i. Meaning.with_item constant p (Meaning.moved q (i * stride)) }

-- where a site is lent to as `lent` says, no thread touches a cell that another one has
pub record Lending (limit : ℕ) (cuts : ℕ → ℕ → List ℕ) (whose : Option Program) (lent : Bool → Sight → ℕ → CodeSite → Type 0) : Type 0 where
  pub loops : (f : Fixed) → f.asked ≡ whose → (s : Sight) (env : Env) (site : ℕ) (cs : CodeSite) → lent false s site cs → (chunk : Chunk) (p : ℕ) (low high : Expr) (check : Option Check) (filter : Optional) (k : Chunking) (cl ch l u : ℤ) → cs.kind ≡ loop_kind chunk → Chunks chunk cl ch k
      → (g : Ghost) → Knows limit cuts g (nested_in f) (taking 2 (taking 2 s)) (inside env)
      → Lends (nested_in f) g cs (asked site l u cl ch (pos 0)) (Meaning.site_at site chunk (Range p false low high check filter) (cut_of k (Values.count l u)) k (ranged p l u) (inside env)) (deal 0 0 (sizes_for g.plan cs.kind (asked site l u cl ch (pos 0))))
  pub items : (f : Fixed) → f.asked ≡ whose → (s : Sight) (env : Env) (site : ℕ) (cs : CodeSite) → lent true s site cs → (chunk : Chunk) (p : ℕ) (constant : Bool) (at : ℕ) (root : Root) (selections : Selections) (count stride dimensions : ℕ) (filter : Optional) (k : Chunking) (cl ch : ℤ) (q : ObjectPart) (a : ℕ) → cs.kind ≡ loop_kind chunk → Chunks chunk cl ch k
      → (g : Ghost) → Knows limit cuts g (nested_in f) (taking 2 (taking 2 s)) (inside env) → Spread g (named_entity constant q.object) q.offset (count * stride) a
      → Lends (nested_in f) g cs (asked site (pos 1) (pos count) cl ch (pos 0)) (Meaning.site_at site chunk (Components p constant at root selections count stride dimensions filter) (cut_of k count) k (listed constant p count stride q) (inside env)) (deal 0 0 (sizes_for g.plan cs.kind (asked site (pos 1) (pos count) cl ch (pos 0))))
  pub blocks : (f : Fixed) → f.asked ≡ whose → (s : Sight) (env : Env) (site : ℕ) (cs : CodeSite) → lent false s site cs → (arms : ℕ) (ch : ℤ) → cs.kind ≡ kind.Block arms → (g : Ghost) → Knows limit cuts g (nested_in f) (taking 2 s) (inside env)
      → Lends (nested_in f) g cs (asked site (pos 0) (pos (arms - 1)) (pos 1) ch (pos 0)) (Meaning.block_site site) (deal 0 0 (sizes_for g.plan cs.kind (asked site (pos 0) (pos (arms - 1)) (pos 1) ch (pos 0))))
  pub folds : (f : Fixed) → f.asked ≡ whose → (s : Sight) (env : Env) (site : ℕ) (cs : CodeSite) → lent false s site cs → (chunk : Chunk) (p : ℕ) (low high : Expr) (check : Option Check) (filter : Optional) (k : Chunking) (start cl ch l u : ℤ) (by : Reducer) → cs.kind ≡ reduction_kind by chunk → Chunks chunk cl ch k
      → (g : Ghost) → Knows limit cuts g (nested_in f) (taking 2 (taking 2 (taking 1 s))) (inside env)
      → Lends (nested_in f) g cs (asked site l u cl ch start) (Meaning.site_at site chunk (Range p false low high check filter) (value_cut_of k (Values.count l u)) k (ranged p l u) (inside env)) (deal 0 0 (sizes_for g.plan cs.kind (asked site l u cl ch start)))
  pub item_folds : (f : Fixed) → f.asked ≡ whose → (s : Sight) (env : Env) (site : ℕ) (cs : CodeSite) → lent true s site cs → (chunk : Chunk) (p : ℕ) (constant : Bool) (at : ℕ) (root : Root) (selections : Selections) (count stride dimensions : ℕ) (filter : Optional) (k : Chunking) (start cl ch : ℤ) (q : ObjectPart) (a : ℕ) (by : Reducer) → cs.kind ≡ reduction_kind by chunk → Chunks chunk cl ch k
      → (g : Ghost) → Knows limit cuts g (nested_in f) (taking 2 (taking 2 (taking 1 s))) (inside env) → Spread g (named_entity constant q.object) q.offset (count * stride) a
      → Lends (nested_in f) g cs (asked site (pos 1) (pos count) cl ch start) (Meaning.site_at site chunk (Components p constant at root selections count stride dimensions filter) (value_cut_of k count) k (listed constant p count stride q) (inside env)) (deal 0 0 (sizes_for g.plan cs.kind (asked site (pos 1) (pos count) cl ch start)))

-- where that isn't asked
pub unasked : (f : Fixed) {g : Ghost} {cs : CodeSite} {q : _} {team : Site} {shares : List Share} → f.asked ≡ None → Lends f g cs q team shares
unasked f e = λ owner owns p is s d fit. absurd (let z : ◌≡◌ {A = Option Program} None (Some p) = sym e ∙ is in cc)

pub not_lending : (limit : ℕ) (cuts : ℕ → ℕ → List ℕ) (lent : Bool → Sight → ℕ → CodeSite → Type 0) → Lending limit cuts None lent
not_lending limit cuts lent = record {
  loops = λ f e s env site cs h chunk p low high check filter k cl ch l u is told g kn. unasked (nested_in f) e;
  items = λ f e s env site cs h chunk p constant at root selections count stride dimensions filter k cl ch q a is told g kn part. unasked (nested_in f) e;
  blocks = λ f e s env site cs h arms ch is g kn. unasked (nested_in f) e;
  folds = λ f e s env site cs h chunk p low high check filter k start cl ch l u by is told g kn. unasked (nested_in f) e;
  item_folds = λ f e s env site cs h chunk p constant at root selections count stride dimensions filter k start cl ch q a by is told g kn part. unasked (nested_in f) e;
}
