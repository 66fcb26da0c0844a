-- What is known of the names and the handler of a scope, and the code of single instructions and small parts.
use Rattle.std.proofs.Common.{◌≡◌, ℕ, suc, ◌+◌, ◌<◌, ◌≤◌, max, ℤ, ◌&&◌, slice_get, nat_eq, Option, Some, None, Bool, true, false, cond, not, refl, sym, ap, ◌∙◌, subst, arith, inl, inr, eqb-true}
use Rattle.std.specs.Prelude.{IsSomeAnd}
use Rattle.std.proofs.lemmas.Option.{none-some}
use Rattle.ada_meaning.proofs.Cells.{some_same}
use Rattle.ada_meaning.specs.Meaning.{most_threads}
use Rattle.behaviours.specs.Paths.{Entity, VariableOf, ConstantOf, entity_eq}
use Rattle.ada_base.specs.declared.operation.Op.{Op}
use Rattle.ada_base.specs.declared.operation.Op.TheVariants as op
use Rattle.ada_base.specs.declared.reason.Reason.{Reason}
use Rattle.typed_tree.specs.declared.scalars.Class.{Class}
use Rattle.typed_tree.specs.declared.scalars.Scalar.{Scalar}
use Rattle.typed_tree.specs.declared.scalars.Check.{Check}
use Rattle.ada_base.specs.declared.operation.Comparison.{Comparison}
use Rattle.ada_base.specs.declared.operation.Comparison.TheVariants as comparison
use Rattle.typed_tree.specs.declared.expressions.Sign.{Sign}
use Rattle.typed_tree.specs.declared.expressions.Sign.TheVariants as sign
use Rattle.typed_tree.specs.declared.expressions.Root.{Root}
use Rattle.typed_tree.specs.declared.expressions.Root.TheVariants as root
use Rattle.typed_tree.specs.Syntax.{Expr, Chunk, NoChunk, Count, Each}
use Rattle.ada_meaning.specs.Values.{base_of, is_modular}
use Rattle.stack_code.specs.declared.code.Around.{Around as Body}
use Rattle.stack_code.specs.declared.code.Around.TheVariants.{Sub, Site}
use Rattle.stack_code.specs.declared.code.Code.{Code}
use Rattle.stack_code.specs.declared.instr.Instr.{Instr}
use Rattle.stack_code.specs.declared.instr.Instr.TheVariants as i
use Rattle.stack_code.specs.Operands.{takes, pushes, given_by}
use Rattle.stack_code.specs.Valid.{AreDigits, IsRange, Has, outward, around_of}
use Rattle.stack_code.proofs.Standing.{has_one}
use Rattle.stack_code.proofs.Lists.{has_map}
use Rattle.lower_emission.specs.declared.types.Where.{Where}
use Rattle.lower_emission.specs.declared.types.Named.{Named}
use Rattle.lower_emission.specs.declared.types.Mark.{Mark}
use Rattle.lower_emission.specs.declared.types.Level.{Level}
use Rattle.lower_emission.specs.declared.types.Level.TheVariants.{Own, Around, Main}
use Rattle.lower_emission.specs.Emits.{Emit, One}
use Rattle.lower_emission.specs.Scope.{Scope, mark_of, own, taking, nested, thread_scope, with_object, with_parameter, with_item, with_target, with_handled, with_exit, with_entry, root_of, constant_root_of, array_root_of, mark, none, one, keep, load_at, address_at, store_at, address_of, outer_level, outer_where, outer_named, moved_where, moved_named, keep_checked}
use Rattle.lower_emission.specs.Emission.{checked, load_by, load_named, load_where, address, indexed_by, item_by, main_level, main_named, component_address, component_value, unary_instr, binary_instr, static_instr, operated_by, compare_instr, within, negated_code, leaving_by, counting, bounds_code, ascending, stepping, chunk_scope, raise_above, raise_beyond}
use Rattle.lower_emission.proofs.Fused.{of_either, of_check, of_set, of_not, base_is_range, of_operated, of_component_address, of_component_value}
use Rattle.ada_lower.proofs.Heights.{Place, Here, up, Also, In, Kept, Step, Firm}

abbrev pub at : Scope → ℕ → Place
at s h = Here s.body h s.nest

-- instructions that go on, need nothing but operands and belong everywhere
abbrev pub IsPlain : Instr → Type 0
IsPlain (i.Push v) = Unit {0}
IsPlain i.Pop = Unit {0}
IsPlain i.Dup = Unit {0}
IsPlain (i.Index low high size) = Unit {0}
IsPlain (i.Item low high size) = Unit {0}
IsPlain (i.Field n) = Unit {0}
IsPlain i.Load = Unit {0}
IsPlain i.Store = Unit {0}
IsPlain (i.Copy n) = Unit {0}
IsPlain (i.Fill n v) = Unit {0}
IsPlain (i.Add b) = IsRange b
IsPlain (i.Sub b) = IsRange b
IsPlain (i.Mul b) = IsRange b
IsPlain (i.Div b) = IsRange b
IsPlain (i.AddI v b) = IsRange b
IsPlain (i.SubI v b) = IsRange b
IsPlain (i.MulI v b) = IsRange b
IsPlain (i.ModI v b) = IsRange b
IsPlain (i.Mod b) = IsRange b
IsPlain (i.Rem b) = IsRange b
IsPlain (i.Pow b) = IsRange b
IsPlain (i.Neg b) = IsRange b
IsPlain (i.Abs b) = IsRange b
IsPlain i.Max = Unit {0}
IsPlain i.Min = Unit {0}
IsPlain i.Eq = Unit {0}
IsPlain i.Ne = Unit {0}
IsPlain i.Lt = Unit {0}
IsPlain i.Le = Unit {0}
IsPlain i.Gt = Unit {0}
IsPlain i.Ge = Unit {0}
IsPlain (i.Far n) = Unit {0}
IsPlain i.Flip = Unit {0}
IsPlain i.Differ = Unit {0}
IsPlain (i.Range low high) = Unit {0}
IsPlain i.And = Unit {0}
IsPlain i.Or = Unit {0}
IsPlain i.Xor = Unit {0}
IsPlain (i.BNot n) = AreDigits n
IsPlain i.ULt = Unit {0}
IsPlain i.ULe = Unit {0}
IsPlain i.UGt = Unit {0}
IsPlain i.UGe = Unit {0}
IsPlain i.UMax = Unit {0}
IsPlain i.UMin = Unit {0}
IsPlain (i.URange low high) = Unit {0}
IsPlain i.UImg = Unit {0}
IsPlain i.Turn = Unit {0}
IsPlain i.Part = Unit {0}
IsPlain i.Img = Unit {0}
IsPlain i.Bool = Unit {0}
IsPlain (i.Wide w) = Unit {0}
IsPlain i.Send = Unit {0}
IsPlain i.SendLn = Unit {0}
IsPlain i.Get = Unit {0}
IsPlain j = ⊥

module _ (c : Code) where
  -- where a cell stands that a name leads to
  abbrev pub LevelFits : Body → ℕ → Level → ℕ → Type 0
  LevelFits b free Own n = n ≤ free
  LevelFits b free (Around k) n = (0 < k) × IsSomeAnd (outward c (Some b) k) (λ b. In c b n)
  LevelFits b free Main n = In c (Sub 0) n

  abbrev pub WhereFits : Scope → Where → Type 0
  WhereFits s w = LevelFits s.body s.free w.level w.cell

  abbrev pub Fits : Scope → Named → Type 0
  Fits s n = WhereFits s n.place

  -- the handler around is known, and names lead to cells of frames
  pub record Known (l : ℕ → Place → Type 0) (s : Scope) : Type 0 where
    pub entry : (e : ℕ) → s.entry ≡ Some e → l e (Here s.body 1 0)
    pub object : (x : Entity) (n : Named) → s.object x ≡ Some n → Fits s n
    pub parameter : (k : ℕ) (w : Where) → s.parameter k ≡ Some w → WhereFits s w
    pub item : (k : ℕ) (n : Named) → s.item k ≡ Some n → Fits s n
    pub constant_item : (k : ℕ) (n : Named) → s.constant_item k ≡ Some n → Fits s n
    pub target : (n : Named) → s.target ≡ Some n → Fits s n
    pub handled : (w : Where) → s.handled ≡ Some w → WhereFits s w

  level_more : (b : Body) (free free' : ℕ) (level : Level) (n : ℕ) → free ≤ free' → LevelFits b free level n → LevelFits b free' level n
  level_more b free free' Own n le f = omega (arith, le, f)
  level_more b free free' (Around k) n le f = f
  level_more b free free' Main n le f = f

  pub known_taking : (l : ℕ → Place → Type 0) (s : Scope) (n : ℕ) → Known l s → Known l (taking n s)
  known_taking l s n k =
      let le : s.free ≤ s.free + n = omega arith in
      record {
        entry = k.entry;
        object = λ x m e. level_more s.body s.free (s.free + n) m.place.level m.place.cell le (k.object x m e);
        parameter = λ j w e. level_more s.body s.free (s.free + n) w.level w.cell le (k.parameter j w e);
        item = λ j m e. level_more s.body s.free (s.free + n) m.place.level m.place.cell le (k.item j m e);
        constant_item = λ j m e. level_more s.body s.free (s.free + n) m.place.level m.place.cell le (k.constant_item j m e);
        target = λ m e. level_more s.body s.free (s.free + n) m.place.level m.place.cell le (k.target m e);
        handled = λ w e. level_more s.body s.free (s.free + n) w.level w.cell le (k.handled w e);
      }

  pub known_nested : (l : ℕ → Place → Type 0) (s : Scope) → Known l s → Known l (nested s)
  known_nested l s k = record { entry = k.entry; object = k.object; parameter = k.parameter; item = k.item; constant_item = k.constant_item; target = k.target; handled = k.handled }

  pub known_grown : (l l' : ℕ → Place → Type 0) (s : Scope) → ((n : ℕ) (P : Place) → l n P → l' n P) → Known l s → Known l' s
  known_grown l l' s up k = record { entry = λ e is. up e (Here s.body 1 0) (k.entry e is); object = k.object; parameter = k.parameter; item = k.item; constant_item = k.constant_item; target = k.target; handled = k.handled }

  pub known_more : (l : ℕ → Place → Type 0) (s : Scope) (x : ℕ) (P : Place) → Known l s → Known (Also l x P) s
  known_more l s x P k = known_grown l (Also l x P) s (λ n Q z. inl z) k

  one_of : {A : Type 0} (b : Bool) (n : A) (o : Option A) (P : A → Type 0) → P n → ((m : A) → o ≡ Some m → P m) → (m : A) → cond b (Some n) o ≡ Some m → P m
  one_of true n o P p f m e = subst P (some_same n m e) p
  one_of false n o P p f m e = f m e

  pub known_object : (l : ℕ → Place → Type 0) (s : Scope) (x : Entity) (n : Named) → Fits s n → Known l s → Known l (with_object x n s)
  known_object l s x n f k = record { entry = k.entry; object = λ y m e. one_of (entity_eq x y) n (s.object y) (λ m. Fits s m) f (k.object y) m e; parameter = k.parameter; item = k.item; constant_item = k.constant_item; target = k.target; handled = k.handled }

  pub known_parameter : (l : ℕ → Place → Type 0) (s : Scope) (j : ℕ) (w : Where) → WhereFits s w → Known l s → Known l (with_parameter j w s)
  known_parameter l s j w f k = record { entry = k.entry; object = k.object; parameter = λ i v e. one_of (nat_eq i j) w (s.parameter i) (λ v. WhereFits s v) f (k.parameter i) v e; item = k.item; constant_item = k.constant_item; target = k.target; handled = k.handled }

  pub known_item : (l : ℕ → Place → Type 0) (s : Scope) (constant : Bool) (j : ℕ) (n : Named) → Fits s n → Known l s → Known l (with_item constant j n s)
  known_item l s constant j n f k = record {
    entry = k.entry;
    object = k.object;
    parameter = k.parameter;
    item = λ i m e. one_of (not constant && nat_eq i j) n (s.item i) (λ m. Fits s m) f (k.item i) m e;
    constant_item = λ i m e. one_of (constant && nat_eq i j) n (s.constant_item i) (λ m. Fits s m) f (k.constant_item i) m e;
    target = k.target;
    handled = k.handled;
  }

  pub known_target : (l : ℕ → Place → Type 0) (s : Scope) (n : Named) → Fits s n → Known l s → Known l (with_target n s)
  known_target l s n f k = record { entry = k.entry; object = k.object; parameter = k.parameter; item = k.item; constant_item = k.constant_item; target = λ m e. subst (λ m. Fits s m) (some_same n m e) f; handled = k.handled }

  pub known_handled : (l : ℕ → Place → Type 0) (s : Scope) (w : Where) → WhereFits s w → Known l s → Known l (with_handled w s)
  known_handled l s w f k = record { entry = k.entry; object = k.object; parameter = k.parameter; item = k.item; constant_item = k.constant_item; target = k.target; handled = λ v e. subst (λ v. WhereFits s v) (some_same w v e) f }

  pub known_exit : (l : ℕ → Place → Type 0) (s : Scope) (number x : ℕ) → Known l s → Known l (with_exit number x s)
  known_exit l s number x k = record { entry = k.entry; object = k.object; parameter = k.parameter; item = k.item; constant_item = k.constant_item; target = k.target; handled = k.handled }

  pub known_leaving : (l : ℕ → Place → Type 0) (s : Scope) (number : Option ℕ) (x : ℕ) → Known l s → Known l (leaving_by number x s)
  known_leaving l s None x k = k
  known_leaving l s (Some number) x k = known_exit l s number x k

  pub known_entry : (l : ℕ → Place → Type 0) (s : Scope) (h : ℕ) → s.nest ≡ 0 → Known l s → Known (Also l h (Here s.body 1 s.nest)) (with_entry h s)
  known_entry l s h flat k = record {
    entry = λ e is. inr (sym (some_same h e is), ap (Here s.body 1) (sym flat));
    object = k.object;
    parameter = k.parameter;
    item = k.item;
    constant_item = k.constant_item;
    target = k.target;
    handled = k.handled;
  }

  pub in_le : (b : Body) (n m : ℕ) → n ≤ m → In c b m → In c b n
  in_le (Sub k) n m le r = has_map (slice_get c.subs k) (λ s. m < s.frame) (λ s. n < s.frame) (λ s f. omega (arith, le, f)) r
  in_le (Site k) n m le r = has_map (slice_get c.sites k) (λ s. m < s.frame) (λ s. n < s.frame) (λ s f. omega (arith, le, f)) r

  -- ---- threads: what is around is one step further outward

  module _ (l : ℕ → Place → Type 0) (s : Scope) (site : ℕ) (around : around_of (slice_get c.sites site) ≡ Some s.body) (room : In c s.body s.free) (k : Known l s) where
    stepped : (k : ℕ) → outward c (Some (Site site)) (suc k) ≡ outward c (Some s.body) k
    stepped k = ap (λ o. outward c o k) around

    outer_around : (j n : ℕ) → 0 < j → IsSomeAnd (outward c (Some s.body) j) (λ b. In c b n) → (b : Bool) → nat_eq j 0 ≡ b → LevelFits (Site site) 0 (Around (cond b 2 (j + 1))) n
    outer_around j n some f true e = absurd (let z : j ≡ 0 = eqb-true j 0 e in omega (arith, z, some))
    outer_around j n some f false e = let z : suc j ≡ j + 1 = omega arith in (omega arith, subst (λ j. IsSomeAnd (outward c (Some (Site site)) j) (λ b. In c b n)) z (subst (λ o. IsSomeAnd o (λ b. In c b n)) (sym (stepped j)) f))

    outer_fits : (level : Level) (n : ℕ) → LevelFits s.body s.free level n → LevelFits (Site site) 0 (outer_level level) n
    outer_fits Own n f = (omega arith, subst (λ o. IsSomeAnd o (λ b. In c b n)) (sym (stepped 0)) (in_le s.body n s.free f room))
    outer_fits (Around j) n f = outer_around j n f.0 f.1 (nat_eq j 0) refl
    outer_fits Main n f = f

    moved_fits : (o : Option Named) → ((n : Named) → o ≡ Some n → Fits s n) → (n : Named) → moved_named o ≡ Some n → LevelFits (Site site) 0 n.place.level n.place.cell
    moved_fits None f n e = absurd (none-some n e)
    moved_fits (Some m) f n e = subst (λ n. LevelFits (Site site) 0 n.place.level n.place.cell) (some_same (outer_named m) n e) (outer_fits m.place.level m.place.cell (f m refl))

    moved_place : (o : Option Where) → ((w : Where) → o ≡ Some w → WhereFits s w) → (w : Where) → moved_where o ≡ Some w → LevelFits (Site site) 0 w.level w.cell
    moved_place None f w e = absurd (none-some w e)
    moved_place (Some v) f w e = subst (λ w. LevelFits (Site site) 0 w.level w.cell) (some_same (outer_where v) w e) (outer_fits v.level v.cell (f v refl))

    pub known_thread : Known l (thread_scope site s)
    known_thread = record {
      entry = λ e is. absurd (none-some e is);
      object = λ x n e. moved_fits (s.object x) (k.object x) n e;
      parameter = λ j w e. moved_place (s.parameter j) (k.parameter j) w e;
      item = λ j n e. moved_fits (s.item j) (k.item j) n e;
      constant_item = λ j n e. moved_fits (s.constant_item j) (k.constant_item j) n e;
      target = λ n e. moved_fits s.target k.target n e;
      handled = λ w e. moved_place s.handled k.handled w e;
    }

  pub known_chunk : (l : ℕ → Place → Type 0) (chunk : Chunk) (s : Scope) → Known l s → Known l (chunk_scope chunk s)
  known_chunk l NoChunk s k = k
  known_chunk l (Count e) s k = k
  known_chunk l (Each p low high check) s k = known_parameter l s p (own 0) (omega arith) k

  -- ---- instructions

  module _ (l : ℕ → Place → Type 0) (s : Scope) (k : Known l s) where
    plain_step : (m : Mark) → ((e : ℕ) → m.entry ≡ Some e → l e (Here m.body 1 0)) → (base : ℕ) (j : Instr) → IsPlain j → Step c l m (up base (takes c j)) j (Here m.body (up base (takes c j)) m.nest) (Here m.body (up base (pushes c j)) m.nest)
    plain_step m mk base (i.Push v) w = record { here = refl; marked = mk; base = base; operands = refl; begun = omega arith; ways = refl; belongs = λ q. tt }
    plain_step m mk base i.Pop w = record { here = refl; marked = mk; base = base; operands = refl; begun = omega arith; ways = refl; belongs = λ q. tt }
    plain_step m mk base i.Dup w = record { here = refl; marked = mk; base = base; operands = refl; begun = omega arith; ways = refl; belongs = λ q. tt }
    plain_step m mk base (i.Index low high size) w = record { here = refl; marked = mk; base = base; operands = refl; begun = omega arith; ways = refl; belongs = λ q. tt }
    plain_step m mk base (i.Item low high size) w = record { here = refl; marked = mk; base = base; operands = refl; begun = omega arith; ways = refl; belongs = λ q. tt }
    plain_step m mk base (i.Field n) w = record { here = refl; marked = mk; base = base; operands = refl; begun = omega arith; ways = refl; belongs = λ q. tt }
    plain_step m mk base i.Load w = record { here = refl; marked = mk; base = base; operands = refl; begun = omega arith; ways = refl; belongs = λ q. tt }
    plain_step m mk base i.Store w = record { here = refl; marked = mk; base = base; operands = refl; begun = omega arith; ways = refl; belongs = λ q. tt }
    plain_step m mk base (i.Copy n) w = record { here = refl; marked = mk; base = base; operands = refl; begun = omega arith; ways = refl; belongs = λ q. tt }
    plain_step m mk base (i.Fill n v) w = record { here = refl; marked = mk; base = base; operands = refl; begun = omega arith; ways = refl; belongs = λ q. tt }
    plain_step m mk base (i.Add b) w = record { here = refl; marked = mk; base = base; operands = refl; begun = omega arith; ways = refl; belongs = λ q. w }
    plain_step m mk base (i.Sub b) w = record { here = refl; marked = mk; base = base; operands = refl; begun = omega arith; ways = refl; belongs = λ q. w }
    plain_step m mk base (i.Mul b) w = record { here = refl; marked = mk; base = base; operands = refl; begun = omega arith; ways = refl; belongs = λ q. w }
    plain_step m mk base (i.AddI v b) w = record { here = refl; marked = mk; base = base; operands = refl; begun = omega arith; ways = refl; belongs = λ q. w }
    plain_step m mk base (i.SubI v b) w = record { here = refl; marked = mk; base = base; operands = refl; begun = omega arith; ways = refl; belongs = λ q. w }
    plain_step m mk base (i.MulI v b) w = record { here = refl; marked = mk; base = base; operands = refl; begun = omega arith; ways = refl; belongs = λ q. w }
    plain_step m mk base (i.ModI v b) w = record { here = refl; marked = mk; base = base; operands = refl; begun = omega arith; ways = refl; belongs = λ q. w }
    plain_step m mk base (i.Div b) w = record { here = refl; marked = mk; base = base; operands = refl; begun = omega arith; ways = refl; belongs = λ q. w }
    plain_step m mk base (i.Mod b) w = record { here = refl; marked = mk; base = base; operands = refl; begun = omega arith; ways = refl; belongs = λ q. w }
    plain_step m mk base (i.Rem b) w = record { here = refl; marked = mk; base = base; operands = refl; begun = omega arith; ways = refl; belongs = λ q. w }
    plain_step m mk base (i.Pow b) w = record { here = refl; marked = mk; base = base; operands = refl; begun = omega arith; ways = refl; belongs = λ q. w }
    plain_step m mk base (i.Neg b) w = record { here = refl; marked = mk; base = base; operands = refl; begun = omega arith; ways = refl; belongs = λ q. w }
    plain_step m mk base (i.Abs b) w = record { here = refl; marked = mk; base = base; operands = refl; begun = omega arith; ways = refl; belongs = λ q. w }
    plain_step m mk base i.Max w = record { here = refl; marked = mk; base = base; operands = refl; begun = omega arith; ways = refl; belongs = λ q. tt }
    plain_step m mk base i.Min w = record { here = refl; marked = mk; base = base; operands = refl; begun = omega arith; ways = refl; belongs = λ q. tt }
    plain_step m mk base i.Eq w = record { here = refl; marked = mk; base = base; operands = refl; begun = omega arith; ways = refl; belongs = λ q. tt }
    plain_step m mk base i.Ne w = record { here = refl; marked = mk; base = base; operands = refl; begun = omega arith; ways = refl; belongs = λ q. tt }
    plain_step m mk base i.Lt w = record { here = refl; marked = mk; base = base; operands = refl; begun = omega arith; ways = refl; belongs = λ q. tt }
    plain_step m mk base i.Le w = record { here = refl; marked = mk; base = base; operands = refl; begun = omega arith; ways = refl; belongs = λ q. tt }
    plain_step m mk base i.Gt w = record { here = refl; marked = mk; base = base; operands = refl; begun = omega arith; ways = refl; belongs = λ q. tt }
    plain_step m mk base i.Ge w = record { here = refl; marked = mk; base = base; operands = refl; begun = omega arith; ways = refl; belongs = λ q. tt }
    plain_step m mk base (i.Far n) w = record { here = refl; marked = mk; base = base; operands = refl; begun = omega arith; ways = refl; belongs = λ q. tt }
    plain_step m mk base i.Flip w = record { here = refl; marked = mk; base = base; operands = refl; begun = omega arith; ways = refl; belongs = λ q. tt }
    plain_step m mk base i.Differ w = record { here = refl; marked = mk; base = base; operands = refl; begun = omega arith; ways = refl; belongs = λ q. tt }
    plain_step m mk base (i.Range low high) w = record { here = refl; marked = mk; base = base; operands = refl; begun = omega arith; ways = refl; belongs = λ q. tt }
    plain_step m mk base i.And w = record { here = refl; marked = mk; base = base; operands = refl; begun = omega arith; ways = refl; belongs = λ q. tt }
    plain_step m mk base i.Or w = record { here = refl; marked = mk; base = base; operands = refl; begun = omega arith; ways = refl; belongs = λ q. tt }
    plain_step m mk base i.Xor w = record { here = refl; marked = mk; base = base; operands = refl; begun = omega arith; ways = refl; belongs = λ q. tt }
    plain_step m mk base (i.BNot n) w = record { here = refl; marked = mk; base = base; operands = refl; begun = omega arith; ways = refl; belongs = λ q. w }
    plain_step m mk base i.ULt w = record { here = refl; marked = mk; base = base; operands = refl; begun = omega arith; ways = refl; belongs = λ q. tt }
    plain_step m mk base i.ULe w = record { here = refl; marked = mk; base = base; operands = refl; begun = omega arith; ways = refl; belongs = λ q. tt }
    plain_step m mk base i.UGt w = record { here = refl; marked = mk; base = base; operands = refl; begun = omega arith; ways = refl; belongs = λ q. tt }
    plain_step m mk base i.UGe w = record { here = refl; marked = mk; base = base; operands = refl; begun = omega arith; ways = refl; belongs = λ q. tt }
    plain_step m mk base i.UMax w = record { here = refl; marked = mk; base = base; operands = refl; begun = omega arith; ways = refl; belongs = λ q. tt }
    plain_step m mk base i.UMin w = record { here = refl; marked = mk; base = base; operands = refl; begun = omega arith; ways = refl; belongs = λ q. tt }
    plain_step m mk base (i.URange low high) w = record { here = refl; marked = mk; base = base; operands = refl; begun = omega arith; ways = refl; belongs = λ q. tt }
    plain_step m mk base i.UImg w = record { here = refl; marked = mk; base = base; operands = refl; begun = omega arith; ways = refl; belongs = λ q. tt }
    plain_step m mk base i.Turn w = record { here = refl; marked = mk; base = base; operands = refl; begun = omega arith; ways = refl; belongs = λ q. tt }
    plain_step m mk base i.Part w = record { here = refl; marked = mk; base = base; operands = refl; begun = omega arith; ways = refl; belongs = λ q. tt }
    plain_step m mk base i.Img w = record { here = refl; marked = mk; base = base; operands = refl; begun = omega arith; ways = refl; belongs = λ q. tt }
    plain_step m mk base i.Bool w = record { here = refl; marked = mk; base = base; operands = refl; begun = omega arith; ways = refl; belongs = λ q. tt }
    plain_step m mk base (i.Wide n) w = record { here = refl; marked = mk; base = base; operands = refl; begun = omega arith; ways = refl; belongs = λ q. tt }
    plain_step m mk base i.Send w = record { here = refl; marked = mk; base = base; operands = refl; begun = omega arith; ways = refl; belongs = λ q. tt }
    plain_step m mk base i.SendLn w = record { here = refl; marked = mk; base = base; operands = refl; begun = omega arith; ways = refl; belongs = λ q. tt }
    plain_step m mk base i.Get w = record { here = refl; marked = mk; base = base; operands = refl; begun = omega arith; ways = refl; belongs = λ q. tt }
    plain_step m mk base j w = absurd w

    pub plain : (base : ℕ) (j : Instr) → IsPlain j → Firm c l (one s (up base (takes c j)) j) (at s (up base (takes c j))) (at s (up base (pushes c j)))
    plain base j w = plain_step (mark s) k.entry base j w

    -- what ends a path may stand before anything
    pub firm_raise : (h : ℕ) (r : Reason) (Q : Place) → Firm c l (one s h (i.Raise r)) (at s h) Q
    firm_raise h r Q = record { here = refl; marked = k.entry; base = h; operands = refl; begun = omega arith; ways = tt; belongs = λ q. tt }

    -- ---- cells

    pub firm_own : (h n : ℕ) → In c s.body n → Firm c l (one s h (i.LoadL n)) (at s h) (at s (h + 1))
    firm_own h n r = record { here = refl; marked = k.entry; base = h; operands = refl; begun = omega arith; ways = refl; belongs = λ q. r }

    pub firm_local : (h n : ℕ) → In c s.body n → Firm c l (one s h (i.Local n)) (at s h) (at s (h + 1))
    firm_local h n r = record { here = refl; marked = k.entry; base = h; operands = refl; begun = omega arith; ways = refl; belongs = λ q. r }

    pub kept_next : (n : ℕ) → In c s.body (max s.free (n + 1)) → In c s.body (n + 1)
    kept_next n r = in_le s.body (n + 1) (max s.free (n + 1)) (omega arith) r

    pub kept_cell : (n : ℕ) → In c s.body (max s.free (n + 1)) → In c s.body n
    kept_cell n r = in_le s.body n (max s.free (n + 1)) (omega arith) r

    pub firm_keep : (h n : ℕ) → Kept c (keep s (h + 1) n) → Firm c l (keep s (h + 1) n) (at s (h + 1)) (at s h)
    firm_keep h n r = record { here = refl; marked = k.entry; base = h; operands = refl; begun = omega arith; ways = refl; belongs = λ q. kept_cell n r.0 }

    pub firm_keep_checked : (h n : ℕ) (x : Scalar) → Kept c (keep_checked s (h + 1) x n) → Firm c l (keep_checked s (h + 1) x n) (at s (h + 1)) (at s h)
    firm_keep_checked h n x r = of_set (λ j. Firm c l (One (mark_of (max s.free (n + 1)) s) (h + 1) j) (at s (h + 1)) (at s h)) x n
        (record { here = refl; marked = k.entry; base = h; operands = refl; begun = omega arith; ways = refl; belongs = λ q. kept_cell n r.0 })
        (record { here = refl; marked = k.entry; base = h; operands = refl; begun = omega arith; ways = refl; belongs = λ q. kept_cell n r.0 })

    pub firm_load_at : (h : ℕ) (level : Level) (n : ℕ) → LevelFits s.body s.free level n → In c s.body s.free → Firm c l (one s h (load_at level n)) (at s h) (at s (h + 1))
    firm_load_at h Own n f r = firm_own h n (in_le s.body n s.free f r)
    firm_load_at h (Around j) n f r = record { here = refl; marked = k.entry; base = h; operands = refl; begun = omega arith; ways = refl; belongs = λ q. f }
    firm_load_at h Main n f r = record { here = refl; marked = k.entry; base = h; operands = refl; begun = omega arith; ways = refl; belongs = λ q. f }

    pub firm_store_at : (h : ℕ) (level : Level) (n : ℕ) → LevelFits s.body s.free level n → In c s.body s.free → Firm c l (one s (h + 1) (store_at level n)) (at s (h + 1)) (at s h)
    firm_store_at h Own n f r = record { here = refl; marked = k.entry; base = h; operands = refl; begun = omega arith; ways = refl; belongs = λ q. in_le s.body n s.free f r }
    firm_store_at h (Around j) n f r = record { here = refl; marked = k.entry; base = h; operands = refl; begun = omega arith; ways = refl; belongs = λ q. f }
    firm_store_at h Main n f r = record { here = refl; marked = k.entry; base = h; operands = refl; begun = omega arith; ways = refl; belongs = λ q. f }

    firm_address_at : (h : ℕ) (level : Level) (n : ℕ) → LevelFits s.body s.free level n → In c s.body s.free → Firm c l (one s h (address_at level n)) (at s h) (at s (h + 1))
    firm_address_at h Own n f r = firm_local h n (in_le s.body n s.free f r)
    firm_address_at h (Around j) n f r = record { here = refl; marked = k.entry; base = h; operands = refl; begun = omega arith; ways = refl; belongs = λ q. f }
    firm_address_at h Main n f r = record { here = refl; marked = k.entry; base = h; operands = refl; begun = omega arith; ways = refl; belongs = λ q. f }

    pub firm_address_of : (h : ℕ) (n : Named) → Fits s n → In c s.body s.free → Firm c l (one s h (address_of n)) (at s h) (at s (h + 1))
    firm_address_of h n f r = go n.through
      where
        go : (b : Bool) → Firm c l (one s h (cond b (load_at n.place.level n.place.cell) (address_at n.place.level n.place.cell))) (at s h) (at s (h + 1))
        go true = firm_load_at h n.place.level n.place.cell f r
        go false = firm_address_at h n.place.level n.place.cell f r

    -- ---- names

    pub firm_cond : (b : Bool) (x y : Emit) (P Q : Place) → (Kept c x → Firm c l x P Q) → (Kept c y → Firm c l y P Q) → Kept c (cond b x y) → Firm c l (cond b x y) P Q
    firm_cond true x y P Q f g r = f r
    firm_cond false x y P Q f g r = g r

    firm_load_by : (h : ℕ) (b : Bool) (w : Where) → WhereFits s w → Kept c (load_by b s h w) → Firm c l (load_by b s h w) (at s h) (at s (h + 1))
    firm_load_by h true w f (r, r') = (at s (h + 1), firm_load_at h w.level w.cell f r.0, plain h i.Load tt)
    firm_load_by h false w f r = firm_load_at h w.level w.cell f r.0

    pub firm_named : (h : ℕ) (o : Option Named) → ((n : Named) → o ≡ Some n → Fits s n) → Kept c (load_named s h o) → Firm c l (load_named s h o) (at s h) (at s (h + 1))
    firm_named h None f r = firm_raise h _ (at s (h + 1))
    firm_named h (Some n) f r = firm_load_by h n.through n.place (f n refl) r

    pub firm_where : (h : ℕ) (o : Option Where) → ((w : Where) → o ≡ Some w → WhereFits s w) → Kept c (load_where s h o) → Firm c l (load_where s h o) (at s h) (at s (h + 1))
    firm_where h None f r = firm_raise h _ (at s (h + 1))
    firm_where h (Some w) f r = firm_load_at h w.level w.cell (f w refl) r.0

    pub firm_address : (h : ℕ) (o : Option Named) → ((n : Named) → o ≡ Some n → Fits s n) → Kept c (address s h o) → Firm c l (address s h o) (at s h) (at s (h + 1))
    firm_address h None f r = firm_raise h _ (at s (h + 1))
    firm_address h (Some n) f r = firm_address_of h n (f n refl) r.0

    pub root_fits : (r : Root) (n : Named) → root_of s r ≡ Some n → Fits s n
    root_fits (root.Object x) n e = k.object (VariableOf x) n e
    root_fits (root.Item j) n e = k.item j n e

    pub constant_root_fits : (r : Root) (n : Named) → constant_root_of s r ≡ Some n → Fits s n
    constant_root_fits (root.Object x) n e = k.object (ConstantOf x) n e
    constant_root_fits (root.Item j) n e = k.constant_item j n e

    pub array_root_fits : (constant : Bool) (r : Root) (n : Named) → array_root_of constant s r ≡ Some n → Fits s n
    array_root_fits true r n e = constant_root_fits r n e
    array_root_fits false r n e = root_fits r n e

    -- an index, whose code loads the cell where it lies in one
    pub firm_indexed : (h : ℕ) (o : Option ℕ) (low high : ℤ) (stride : ℕ) (index : Emit) → ((n : ℕ) → o ≡ Some n → ◌≡◌ {A = Emit} index (one s (h + 1) (i.LoadL n))) → (Kept c index → Firm c l index (at s (h + 1)) (at s (h + 1 + 1)))
        → Kept c (indexed_by s (h + 1) o low high stride index) → Firm c l (indexed_by s (h + 1) o low high stride index) (at s (h + 1)) (at s (h + 1))
    firm_indexed h None low high stride index is f r = (at s (h + 1 + 1), f r.0, plain h (i.Index low high stride) tt)
    firm_indexed h (Some n) low high stride index is f r =
        let loads : Firm c l (one s (h + 1) (i.LoadL n)) (at s (h + 1)) (at s (h + 1 + 1)) = subst (λ a. Firm c l a (at s (h + 1)) (at s (h + 1 + 1))) (is n refl) (f (subst (λ a. Kept c a) (sym (is n refl)) r)) in
        record { here = refl; marked = k.entry; base = h; operands = refl; begun = omega arith; ways = refl; belongs = loads.belongs }

    pub firm_item : (h : ℕ) (o : Option ℕ) (low high : ℤ) (stride : ℕ) (index : Emit) → ((n : ℕ) → o ≡ Some n → ◌≡◌ {A = Emit} index (one s (h + 1) (i.LoadL n))) → (Kept c index → Firm c l index (at s (h + 1)) (at s (h + 1 + 1)))
        → Kept c (item_by s (h + 1) o low high stride index) → Firm c l (item_by s (h + 1) o low high stride index) (at s (h + 1)) (at s (h + 1))
    firm_item h None low high stride index is f r = (at s (h + 1 + 1), f r.0, plain h (i.Item low high stride) tt)
    firm_item h (Some n) low high stride index is f r =
        let loads : Firm c l (one s (h + 1) (i.LoadL n)) (at s (h + 1)) (at s (h + 1 + 1)) = subst (λ a. Firm c l a (at s (h + 1)) (at s (h + 1 + 1))) (is n refl) (f (subst (λ a. Kept c a) (sym (is n refl)) r)) in
        record { here = refl; marked = k.entry; base = h; operands = refl; begun = omega arith; ways = refl; belongs = loads.belongs }

    -- what begins at a cell of the main frame
    main_cell : (o : Option Named) (g : ℕ) → main_named o ≡ Some g → ((n : Named) → o ≡ Some n → Fits s n) → In c (Sub 0) g
    main_cell None g e f = absurd (none-some g e)
    main_cell (Some n) g e f = by n.through n.place.level e (f n refl)
      where
        by : (b : Bool) (level : Level) → cond b None (main_level level n.place.cell) ≡ Some g → LevelFits s.body s.free level n.place.cell → In c (Sub 0) g
        by true level e r = absurd (none-some g e)
        by false Own e r = absurd (none-some g e)
        by false (Around j) e r = absurd (none-some g e)
        by false Main e r = subst (λ m. In c (Sub 0) m) (some_same n.place.cell g e) r

    -- the index whose code loads a cell of the own frame
    own_there : (h n : ℕ) (index : Emit) → ◌≡◌ {A = Emit} index (one s (h + 1) (i.LoadL n)) → (Kept c index → Firm c l index (at s (h + 1)) (at s (h + 1 + 1))) → Kept c (one s (h + 1) (i.LoadL n)) → (q : ℕ) → In c s.body n
    own_there h n index same g r q =
        let loads : Firm c l (one s (h + 1) (i.LoadL n)) (at s (h + 1)) (at s (h + 1 + 1)) = subst (λ a. Firm c l a (at s (h + 1)) (at s (h + 1 + 1))) same (g (subst (λ a. Kept c a) (sym same) r)) in
        loads.belongs q

    -- a component of what is named
    pub firm_component_address : (h : ℕ) (o : Option Named) (own : Option ℕ) (low high : ℤ) (stride : ℕ) (index : Emit) → ((n : Named) → o ≡ Some n → Fits s n) → ((n : ℕ) → own ≡ Some n → ◌≡◌ {A = Emit} index (one s (h + 1) (i.LoadL n)))
        → (Kept c index → Firm c l index (at s (h + 1)) (at s (h + 1 + 1))) → Kept c (component_address s h o (main_named o) own low high stride index) → Firm c l (component_address s h o (main_named o) own low high stride index) (at s h) (at s (h + 1))
    firm_component_address h o own low high stride index f is g =
        of_component_address (λ a. Kept c a → Firm c l a (at s h) (at s (h + 1))) s h o (main_named o) own low high stride index
        (λ m n e e' r. record { here = refl; marked = k.entry; base = h; operands = refl; begun = omega arith; ways = refl; belongs = λ q. (main_cell o m e f, own_there h n index (is n e') g r q) })
        (λ r. (at s (h + 1), firm_address h o f r.0, firm_indexed h own low high stride index is g r.1))

    pub firm_component_value : (h : ℕ) (o : Option Named) (own : Option ℕ) (low high : ℤ) (stride : ℕ) (index : Emit) → ((n : Named) → o ≡ Some n → Fits s n) → ((n : ℕ) → own ≡ Some n → ◌≡◌ {A = Emit} index (one s (h + 1) (i.LoadL n)))
        → (Kept c index → Firm c l index (at s (h + 1)) (at s (h + 1 + 1))) → Kept c (component_value s h o (main_named o) own low high stride index) → Firm c l (component_value s h o (main_named o) own low high stride index) (at s h) (at s (h + 1))
    firm_component_value h o own low high stride index f is g =
        of_component_value (λ a. Kept c a → Firm c l a (at s h) (at s (h + 1))) s h o (main_named o) own low high stride index
        (λ m n e e' r. record { here = refl; marked = k.entry; base = h; operands = refl; begun = omega arith; ways = refl; belongs = λ q. (main_cell o m e f, own_there h n index (is n e') g r q) })
        (λ r. (at s (h + 1), firm_address h o f r.0, firm_item h own low high stride index is g r.1))

    -- ---- operators

    pub firm_unary : (h : ℕ) (g : Sign) (class : Class) → Firm c l (one s (h + 1) (unary_instr g class)) (at s (h + 1)) (at s (h + 1))
    firm_unary h sign.Minus class = plain h (unary_instr sign.Minus class) (base_is_range class)
    firm_unary h sign.Abs class = plain h (unary_instr sign.Abs class) (base_is_range class)
    firm_unary h sign.Not class = of_not (λ j. Firm c l (one s (h + 1) j) (at s (h + 1)) (at s (h + 1))) class (plain h i.Flip tt) (λ n d. plain h (i.BNot n) d)

    pub firm_binary : (h : ℕ) (o : Op) (class : Class) → Firm c l (one s (h + 1 + 1) (binary_instr o class)) (at s (h + 1 + 1)) (at s (h + 1))
    firm_binary h op.Add class = plain h (binary_instr op.Add class) (base_is_range class)
    firm_binary h op.Sub class = plain h (binary_instr op.Sub class) (base_is_range class)
    firm_binary h op.Mul class = plain h (binary_instr op.Mul class) (base_is_range class)
    firm_binary h op.Div class = plain h (binary_instr op.Div class) (base_is_range class)
    firm_binary h op.Mod class = plain h (binary_instr op.Mod class) (base_is_range class)
    firm_binary h op.Rem class = plain h (binary_instr op.Rem class) (base_is_range class)
    firm_binary h op.Pow class = plain h (binary_instr op.Pow class) (base_is_range class)
    firm_binary h op.And class = of_either (λ j. Firm c l (one s (h + 1 + 1) j) (at s (h + 1 + 1)) (at s (h + 1))) (is_modular class) _ _ (plain h i.And tt) (plain h i.Min tt)
    firm_binary h op.Or class = of_either (λ j. Firm c l (one s (h + 1 + 1) j) (at s (h + 1 + 1)) (at s (h + 1))) (is_modular class) _ _ (plain h i.Or tt) (plain h i.Max tt)
    firm_binary h op.Xor class = of_either (λ j. Firm c l (one s (h + 1 + 1) j) (at s (h + 1 + 1)) (at s (h + 1))) (is_modular class) _ _ (plain h i.Xor tt) (plain h i.Differ tt)
    firm_binary h op.Max class = of_either (λ j. Firm c l (one s (h + 1 + 1) j) (at s (h + 1 + 1)) (at s (h + 1))) (is_modular class) _ _ (plain h i.UMax tt) (plain h i.Max tt)
    firm_binary h op.Min class = of_either (λ j. Firm c l (one s (h + 1 + 1) j) (at s (h + 1 + 1)) (at s (h + 1))) (is_modular class) _ _ (plain h i.UMin tt) (plain h i.Min tt)

    pub firm_operated : (h : ℕ) (o : Op) (class : Class) (f : Expr) (right : Emit) → (Kept c right → Firm c l right (at s (h + 1)) (at s (h + 1 + 1)))
        → Kept c (operated_by s (h + 1) (static_instr o class f) (binary_instr o class) right) → Firm c l (operated_by s (h + 1) (static_instr o class f) (binary_instr o class) right) (at s (h + 1)) (at s (h + 1))
    firm_operated h o class f right g =
        of_operated (λ a. Kept c a → Firm c l a (at s (h + 1)) (at s (h + 1))) s (h + 1) o class f (binary_instr o class) right
        (λ v r. plain h (i.AddI v (base_of class)) (base_is_range class)) (λ v r. plain h (i.SubI v (base_of class)) (base_is_range class)) (λ v r. plain h (i.MulI v (base_of class)) (base_is_range class)) (λ v r. plain h (i.ModI v (base_of class)) (base_is_range class))
        (λ r. (at s (h + 1 + 1), g r.0, firm_binary h o class))

    pub firm_compare : (h : ℕ) (r : Comparison) (class : Class) → Firm c l (one s (h + 1 + 1) (compare_instr r class)) (at s (h + 1 + 1)) (at s (h + 1))
    firm_compare h comparison.Equal class = plain h i.Eq tt
    firm_compare h comparison.Unequal class = plain h i.Ne tt
    firm_compare h comparison.Less class = of_either (λ j. Firm c l (one s (h + 1 + 1) j) (at s (h + 1 + 1)) (at s (h + 1))) (is_modular class) _ _ (plain h i.ULt tt) (plain h i.Lt tt)
    firm_compare h comparison.AtMost class = of_either (λ j. Firm c l (one s (h + 1 + 1) j) (at s (h + 1 + 1)) (at s (h + 1))) (is_modular class) _ _ (plain h i.ULe tt) (plain h i.Le tt)
    firm_compare h comparison.Greater class = of_either (λ j. Firm c l (one s (h + 1 + 1) j) (at s (h + 1 + 1)) (at s (h + 1))) (is_modular class) _ _ (plain h i.UGt tt) (plain h i.Gt tt)
    firm_compare h comparison.AtLeast class = of_either (λ j. Firm c l (one s (h + 1 + 1) j) (at s (h + 1 + 1)) (at s (h + 1))) (is_modular class) _ _ (plain h i.UGe tt) (plain h i.Ge tt)

    pub firm_within : (h : ℕ) (class : Class) (d : ℕ) → In c s.body d → In c s.body (d + 1) → Firm c l (within s h class d) (at s (h + 1)) (at s (h + 1))
    firm_within h class d r r' =
        (at s (h + 1 + 1), firm_own (h + 1) d r, (at s (h + 1), firm_compare h comparison.AtLeast class, (at s (h + 1 + 1), firm_own (h + 1) (d + 1) r', (at s (h + 1 + 1 + 1), firm_own (h + 1 + 1) d r, (at s (h + 1 + 1), firm_compare (h + 1) comparison.AtMost class, plain h i.Min tt)))))

    pub firm_negated : (h : ℕ) (b : Bool) → Firm c l (negated_code s h b) (at s (h + 1)) (at s (h + 1))
    firm_negated h true = plain h i.Flip tt
    firm_negated h false = refl

    pub firm_checked : (h : ℕ) (x : Scalar) → Firm c l (checked s (h + 1) x) (at s (h + 1)) (at s (h + 1))
    firm_checked h x = of_check (λ j. Firm c l (one s (h + 1) j) (at s (h + 1)) (at s (h + 1))) x (plain h (i.URange x.low x.high) tt) (plain h (i.Range x.low x.high) tt)

    -- ---- turns

    pub firm_bounds : (h d : ℕ) (check : Option Check) → In c s.body d → In c s.body (d + 1) → Firm c l (bounds_code s h d check) (at s h) (at s h)
    firm_bounds h d None r r' = refl
    firm_bounds h d (Some x) r r' = (at s (h + 1), firm_own h d r, (at s (h + 1), firm_checked h x.scalar, (at s h, plain h i.Pop tt, (at s (h + 1), firm_own h (d + 1) r', (at s (h + 1), firm_checked h x.scalar, plain h i.Pop tt)))))

    pub firm_ascending : (h d : ℕ) → In c s.body d → In c s.body (d + 1) → Firm c l (ascending s h d) (at s h) (at s (h + 1))
    firm_ascending h d r r' = (at s (h + 1), firm_own h d r, (at s (h + 1 + 1), firm_own (h + 1) (d + 1) r', plain h i.Le tt))

    pub firm_raise_above : (h d : ℕ) → In c s.body d → In c s.body (d + 1) → Firm c l (raise_above s h d) (at s h) (at s h)
    firm_raise_above h d r r' = (at s (h + 1), firm_own h d r, (at s (h + 1 + 1), firm_own (h + 1) (d + 1) r', (at s (h + 1), plain h i.Gt tt, (refl, k.entry, refl, firm_raise h _ (at s h)))))

    pub firm_raise_beyond : (h : ℕ) → In c s.body s.free → In c s.body (s.free + 1) → Firm c l (raise_beyond s h) (at s h) (at s h)
    firm_raise_beyond h r r' =
        (at s (h + 1), firm_own h s.free r, (at s (h + 1 + 1), firm_own (h + 1) (s.free + 1) r', (at s (h + 1), plain h (i.Far most_threads) tt, (refl, k.entry, refl, firm_raise h _ (at s h)))))

    -- the end of a turn
    pub firm_counting : (h : ℕ) (reverse : Bool) (d head : ℕ) → In c s.body d → In c s.body (d + 1) → Firm c (Also l head (at s h)) (one s h (counting reverse d head)) (at s h) (at s h)
    firm_counting h true d head r r' = record { here = refl; marked = λ e is. inl (k.entry e is); base = h; operands = refl; begun = omega arith; ways = (inr (refl, refl), refl); belongs = λ q. (r', r) }
    firm_counting h false d head r r' = record { here = refl; marked = λ e is. inl (k.entry e is); base = h; operands = refl; begun = omega arith; ways = (inr (refl, refl), refl); belongs = λ q. (r, r') }

    -- ---- calls

    pub firm_call : (h sub n : ℕ) (gives : Bool) → Has c.subs (sub + 1) (λ u. (u.takes ≡ 0) × (u.gives ≡ gives)) → Firm c l (one s h (i.CallAt (sub + 1) n)) (at s h) (at s (up h (cond gives 1 0)))
    firm_call h sub n gives has =
        let (u, is, (none, given)) = has_one (slice_get c.subs (sub + 1)) (λ u. (u.takes ≡ 0) × (u.gives ≡ gives)) has in
        let e : given_by (slice_get c.subs (sub + 1)) ≡ cond gives 1 0 = ap given_by is ∙ ap (λ b. cond b 1 0) given in
        record {
          here = refl;
          marked = k.entry;
          base = h;
          operands = refl;
          begun = omega arith;
          ways = ap (λ n. at s (up h n)) (sym e);
          belongs = λ q. (omega arith, has_map (slice_get c.subs (sub + 1)) (λ u. (u.takes ≡ 0) × (u.gives ≡ gives)) (λ u. u.takes ≡ 0) (λ u f. f.0) has);
        }

    -- one that goes on where its value is on the stack
    pub firm_call_back : (h sub n to : ℕ) → Has c.subs (sub + 1) (λ u. (u.takes ≡ 0) × (u.gives ≡ true)) → (Q : Place) → Firm c (Also l to (at s (h + 1))) (one s (h + 1) (i.CallTo (sub + 1) n to)) (at s (h + 1)) Q
    firm_call_back h sub n to has Q =
        let (u, is, (none, given)) = has_one (slice_get c.subs (sub + 1)) (λ u. (u.takes ≡ 0) × (u.gives ≡ true)) has in
        let e : given_by (slice_get c.subs (sub + 1)) ≡ 1 = ap given_by is ∙ ap (λ b. cond b 1 0) given in
        record {
          here = refl;
          marked = λ e is. inl (k.entry e is);
          base = h;
          operands = refl;
          begun = omega arith;
          ways = inr (refl, ap (λ n. at s (up h n)) e);
          belongs = λ q. (omega arith, has_map (slice_get c.subs (sub + 1)) (λ u. (u.takes ≡ 0) × (u.gives ≡ true)) (λ u. u.takes ≡ 0) (λ u f. f.0) has);
        }

  -- the end of a turn over components
  pub firm_stepping : (l : ℕ → Place → Type 0) (s : Scope) → Known l s → (h address stride first head : ℕ) → In c s.body address → In c s.body first → In c s.body (first + 1) → Kept c (stepping s h address stride first head) → Firm c (Also l head (at s h)) (stepping s h address stride first head) (at s h) (at s h)
  firm_stepping l s k h place stride first head ra r r' (r1, (r2, (r3, r4))) =
      let k' = known_more l s head (at s h) k in
      (at s (h + 1), firm_own (Also l head (at s h)) s k' h place ra, (at s (h + 1), plain (Also l head (at s h)) s k' h (i.Field stride) tt, (at s h, firm_keep (Also l head (at s h)) s k' h place r3, record { here = refl; marked = k'.entry; base = h; operands = refl; begun = omega arith; ways = (inr (refl, refl), refl); belongs = λ q. (r, r') })))
