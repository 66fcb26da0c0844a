-- What is known of a log on the way: each subtype stands on those before it, and each object's stands in the table.
use Rattle.std.proofs.Common.{◌≡◌, ℕ, zero, suc, ◌+◌, ◌<◌, ◌≤◌, nat_le, nat_lt, int_le, List, [], ◌∷◌, ◌++◌, length, length-append, Some, Bool, true, false, refl, sym, ap, subst, ◌∙◌, ◌⊎◌, inl, inr, arith, slice_get, drop, map, ◌==◌}
use Rattle.std.proofs.lemmas.List.{length-map, map-append}
use Rattle.std.proofs.lemmas.Option.{slice_get-get_or, slice_get_within}
use Rattle.std.specs.Prelude.{not, ◌||◌}
use Rattle.typed_tree.specs.Layout.{cells_of, subtype_cells}
use Rattle.typed_tree.specs.Syntax.{Subtype as TypedSubtype}
use Rattle.typed_tree.specs.declared.program.Object.{Object}
use Rattle.name_rules.specs.Declarations.{cells_counted}
use Rattle.name_rules.specs.Judging.{unless}
use Rattle.name_rules.specs.Resolved.{typed_subtype}
use Rattle.name_rules.specs.Types.{cells_in, cells_of_shape, dimensions_of, fields_of, saturated, kept}
use Rattle.name_rules.specs.Limits.{most_cells, most_objects}
use Rattle.name_rules.specs.declared.log.Bound.TheVariants as bound
use Rattle.name_rules.specs.declared.log.Field.{Field}
use Rattle.name_rules.specs.declared.log.Log.{Log}
use Rattle.name_rules.specs.declared.log.Rule.{Rule}
use Rattle.name_rules.specs.declared.log.Rule.TheVariants.{Limit}
use Rattle.name_rules.specs.declared.log.Shape.{Shape}
use Rattle.name_rules.specs.declared.log.Shape.TheVariants as shape
use Rattle.name_rules.specs.declared.scope.Entry.{Entry}
use Rattle.name_rules.specs.declared.scope.What.{What}
use Rattle.name_rules.specs.declared.scope.What.TheVariants as what
use Rattle.name_rules.specs.declared.types.Subtype.{Subtype}
use Rattle.name_rules.specs.declared.types.Subtype.TheVariants as subtype
use Rattle.name_laws.proofs.CellsCounted.{HaveValues, cells_kept, cells_last}
use Rattle.name_laws.proofs.Fitting.{IsNumber}
use Rattle.name_laws.proofs.Walk.{Walk}

abbrev pub FieldsBefore : ℕ → List Field → Type 0
FieldsBefore n [] = Unit {0}
FieldsBefore n (f ∷ fs) = (f.number < n) × FieldsBefore n fs

abbrev pub IsBefore : ℕ → Shape → Type 0
IsBefore n (shape.Scalar s) = Unit {0}
IsBefore n (shape.Array ds c k cells) = HaveValues ds × (k < n)
IsBefore n (shape.Record fs cells) = FieldsBefore n fs

abbrev pub table_of : List Shape → List TypedSubtype
table_of shapes = map typed_subtype shapes

-- the dimensions of every array have values
abbrev pub AllValues : List Shape → Type 0
AllValues [] = Unit {0}
AllValues (t ∷ ts) = HaveValues (dimensions_of (Some t)) × AllValues ts

-- a number stands for a subtype
abbrev pub NumberIn : List Shape → Subtype → ℕ → Type 0
NumberIn shapes (subtype.Scalar s) n = slice_get shapes n ≡ Some (shape.Scalar s)
NumberIn shapes (subtype.Composite m) n = n ≡ m

abbrev pub FieldsNumbered : List Shape → List Field → Type 0
FieldsNumbered shapes [] = Unit {0}
FieldsNumbered shapes (f ∷ fs) = NumberIn shapes f.subtype f.number × FieldsNumbered shapes fs

-- a record has a component
abbrev pub IsNumbered : List Shape → Shape → Type 0
IsNumbered shapes (shape.Scalar s) = Unit {0}
IsNumbered shapes (shape.Array ds c k cells) = NumberIn shapes c k
IsNumbered shapes (shape.Record fs cells) = (0 < length fs) × FieldsNumbered shapes fs

-- each field begins behind those before it
abbrev pub FieldsLie : List Shape → ℕ → List Field → Type 0
FieldsLie shapes before [] = Unit {0}
FieldsLie shapes before (f ∷ fs) = (f.offset ≡ saturated before) × FieldsLie shapes (before + cells_of (table_of shapes) f.number) fs

-- where all dimensions have values, counts are those of the layout up to the greatest
pub record SoundIn (shapes : List Shape) (objects : List Object) : Type 0 where
  pub before : (n : ℕ) (t : Shape) → slice_get shapes n ≡ Some t → IsBefore n t
  pub within : (n : ℕ) (o : Object) → slice_get objects n ≡ Some o → o.subtype < length shapes
  pub counted : AllValues shapes → (n : ℕ) (t : Shape) → slice_get shapes n ≡ Some t → cells_of_shape (Some t) ≡ saturated (cells_of (table_of shapes) n)
  pub cells : AllValues shapes → (n : ℕ) (o : Object) → slice_get objects n ≡ Some o → o.cells ≡ cells_of (table_of shapes) o.subtype
  pub numbered : (n : ℕ) (t : Shape) → slice_get shapes n ≡ Some t → IsNumbered shapes t
  pub lie : AllValues shapes → (n : ℕ) (t : Shape) → slice_get shapes n ≡ Some t → FieldsLie shapes 0 (fields_of (Some t))

abbrev pub Sound : Log → Type 0
Sound log = SoundIn log.shapes log.objects

-- where so many subtypes are known, and the log before is right, the later one is longer and right
pub record Next (known : ℕ) (a b : Log) : Type 0 where
  pub at : known ≤ length a.shapes → Sound a → (length a.shapes ≤ length b.shapes) × Sound b

pub next_same : (known : ℕ) (a b : Log) → a.shapes ≡ b.shapes → a.objects ≡ b.objects → Next known a b
next_same known a b e f = record {
  at = λ l h. (subst (λ s. length a.shapes ≤ length s) e (omega arith), subst (λ s. SoundIn s b.objects) e (subst (λ o. SoundIn a.shapes o) f h));
}

pub next_joined : (known : ℕ) (a b c : Log) → Next known a b → Next known b c → Next known a c
next_joined known a b c f g = record {
  at = λ l h. let x = f.at l h in let y = g.at (omega (arith, l, x.0)) x.1 in (omega (arith, x.0, y.0), y.1);
}

get_either : {A : Type 0} (xs : List A) (x : A) (i : ℕ) (y : A) → slice_get (xs ++ x ∷ []) i ≡ Some y → (slice_get xs i ≡ Some y) ⊎ ((i ≡ length xs) × (x ≡ y))
get_either [] x zero y e = inr (refl, cc)
get_either [] x (suc i) y e = absurd cc
get_either (a ∷ xs) x zero y e = inl e
get_either (a ∷ xs) x (suc i) y e = by (get_either xs x i y e)
  where
    by : (slice_get xs i ≡ Some y) ⊎ ((i ≡ length xs) × (x ≡ y)) → (slice_get xs i ≡ Some y) ⊎ ((suc i ≡ suc (length xs)) × (x ≡ y))
    by (inl g) = inl g
    by (inr g) = inr (ap suc g.0, g.1)

pub values_left : (a b : List Shape) → AllValues (a ++ b) → AllValues a
values_left [] b v = tt
values_left (t ∷ a) b v = (v.0, values_left a b v.1)

values_last : (a : List Shape) (t : Shape) → AllValues (a ++ t ∷ []) → HaveValues (dimensions_of (Some t))
values_last [] t v = v.0
values_last (x ∷ a) t v = values_last a t v.1

table_more : (shapes : List Shape) (t : Shape) → table_of (shapes ++ t ∷ []) ≡ table_of shapes ++ typed_subtype t ∷ []
table_more shapes t = map-append typed_subtype shapes (t ∷ [])

pub count_kept : (shapes : List Shape) (t : Shape) (n : ℕ) → n < length shapes → cells_of (table_of (shapes ++ t ∷ [])) n ≡ cells_of (table_of shapes) n
count_kept shapes t n h =
    ap (λ s. cells_of s n) (table_more shapes t) ∙ cells_kept (table_of shapes) (typed_subtype t) n (subst (λ k. n < k) (sym (length-map shapes typed_subtype)) h)

count_last : (shapes : List Shape) (t : Shape) → cells_of (table_of (shapes ++ t ∷ [])) (length shapes) ≡ subtype_cells (cells_of (table_of shapes)) (typed_subtype t)
count_last shapes t = ap (λ s. cells_of s (length shapes)) (table_more shapes t) ∙ cells_last (table_of shapes) (typed_subtype t) (length shapes) (sym (length-map shapes typed_subtype))

-- a shape counts what the layout counts of it
abbrev pub IsCounted : List Shape → Shape → Type 0
IsCounted shapes t = AllValues shapes → HaveValues (dimensions_of (Some t)) → cells_of_shape (Some t) ≡ saturated (subtype_cells (cells_of (table_of shapes)) (typed_subtype t))

pub get_kept : (xs more : List Shape) (i : ℕ) (y : Shape) → slice_get xs i ≡ Some y → slice_get (xs ++ more) i ≡ Some y
get_kept [] more i y e = absurd cc
get_kept (a ∷ xs) more zero y e = e
get_kept (a ∷ xs) more (suc i) y e = get_kept xs more i y e

pub number_kept : (shapes more : List Shape) (s : Subtype) (n : ℕ) → NumberIn shapes s n → NumberIn (shapes ++ more) s n
number_kept shapes more (subtype.Scalar s) n h = get_kept shapes more n (shape.Scalar s) h
number_kept shapes more (subtype.Composite m) n h = h

pub fields_numbered : (shapes more : List Shape) (fs : List Field) → FieldsNumbered shapes fs → FieldsNumbered (shapes ++ more) fs
fields_numbered shapes more [] h = tt
fields_numbered shapes more (f ∷ fs) h = (number_kept shapes more f.subtype f.number h.0, fields_numbered shapes more fs h.1)

numbered_kept : (shapes more : List Shape) (t : Shape) → IsNumbered shapes t → IsNumbered (shapes ++ more) t
numbered_kept shapes more (shape.Scalar s) h = tt
numbered_kept shapes more (shape.Array ds c k cells) h = number_kept shapes more c k h
numbered_kept shapes more (shape.Record fs cells) h = (h.0, fields_numbered shapes more fs h.1)

lie_kept : (shapes : List Shape) (t : Shape) (before : ℕ) (fs : List Field) → FieldsBefore (length shapes) fs → FieldsLie shapes before fs → FieldsLie (shapes ++ t ∷ []) before fs
lie_kept shapes t before [] b h = tt
lie_kept shapes t before (f ∷ fs) b h =
    (h.0, subst (λ k. FieldsLie (shapes ++ t ∷ []) (before + k) fs) (sym (count_kept shapes t f.number b.0)) (lie_kept shapes t (before + cells_of (table_of shapes) f.number) fs b.1 h.1))

fields_before : (n m : ℕ) (fs : List Field) → n ≤ m → FieldsBefore n fs → FieldsBefore m fs
fields_before n m [] l h = tt
fields_before n m (f ∷ fs) l h = (omega (arith, l, h.0), fields_before n m fs l h.1)

shape_before : (n m : ℕ) (t : Shape) → n ≤ m → IsBefore n t → FieldsBefore m (fields_of (Some t))
shape_before n m (shape.Scalar s) l h = tt
shape_before n m (shape.Array ds c k cells) l h = tt
shape_before n m (shape.Record fs cells) l h = fields_before n m fs l h

-- one shape more
pub more_shapes : (t : Shape) (log : Log) → Sound log → IsBefore (length log.shapes) t → IsCounted log.shapes t → IsNumbered log.shapes t
    → (AllValues log.shapes → FieldsLie log.shapes 0 (fields_of (Some t))) → Sound (record log { shapes = log.shapes ++ t ∷ [] })
more_shapes t log h new count number lying = record {
  before = λ n u g. by n u (get_either log.shapes t n u g);
  within = λ n o g. subst (λ k. o.subtype < k) (sym (length-append log.shapes (t ∷ []))) (omega (arith, h.within n o g));
  counted = λ v n u g. counts v n u (get_either log.shapes t n u g);
  cells = λ v n o g. h.cells (values_left log.shapes (t ∷ []) v) n o g ∙ sym (count_kept log.shapes t o.subtype (h.within n o g));
  numbered = λ n u g. numbers n u (get_either log.shapes t n u g);
  lie = λ v n u g. lies v n u (get_either log.shapes t n u g);
}
  where
    numbers : (n : ℕ) (u : Shape) → (slice_get log.shapes n ≡ Some u) ⊎ ((n ≡ length log.shapes) × (t ≡ u)) → IsNumbered (log.shapes ++ t ∷ []) u
    numbers n u (inl g) = numbered_kept log.shapes (t ∷ []) u (h.numbered n u g)
    numbers n u (inr g) = subst (IsNumbered (log.shapes ++ t ∷ [])) g.1 (numbered_kept log.shapes (t ∷ []) t number)

    lies : AllValues (log.shapes ++ t ∷ []) → (n : ℕ) (u : Shape) → (slice_get log.shapes n ≡ Some u) ⊎ ((n ≡ length log.shapes) × (t ≡ u)) → FieldsLie (log.shapes ++ t ∷ []) 0 (fields_of (Some u))
    lies v n u (inl g) =
        lie_kept log.shapes t 0 (fields_of (Some u)) (shape_before n (length log.shapes) u (omega (arith, slice_get_within log.shapes n u g)) (h.before n u g)) (h.lie (values_left log.shapes (t ∷ []) v) n u g)
    lies v n u (inr g) =
        subst (λ x. FieldsLie (log.shapes ++ t ∷ []) 0 (fields_of (Some x))) g.1
        (lie_kept log.shapes t 0 (fields_of (Some t)) (shape_before (length log.shapes) (length log.shapes) t (omega arith) new) (lying (values_left log.shapes (t ∷ []) v)))

    by : (n : ℕ) (u : Shape) → (slice_get log.shapes n ≡ Some u) ⊎ ((n ≡ length log.shapes) × (t ≡ u)) → IsBefore n u
    by n u (inl g) = h.before n u g
    by n u (inr g) = subst (λ k. IsBefore k u) (sym g.0) (subst (IsBefore (length log.shapes)) g.1 new)

    here : AllValues (log.shapes ++ t ∷ []) → cells_of_shape (Some t) ≡ saturated (cells_of (table_of (log.shapes ++ t ∷ [])) (length log.shapes))
    here v = count (values_left log.shapes (t ∷ []) v) (values_last log.shapes t v) ∙ sym (ap saturated (count_last log.shapes t))

    counts : AllValues (log.shapes ++ t ∷ []) → (n : ℕ) (u : Shape) → (slice_get log.shapes n ≡ Some u) ⊎ ((n ≡ length log.shapes) × (t ≡ u)) → cells_of_shape (Some u) ≡ saturated (cells_of (table_of (log.shapes ++ t ∷ [])) n)
    counts v n u (inl g) = h.counted (values_left log.shapes (t ∷ []) v) n u g ∙ ap saturated (sym (count_kept log.shapes t n (slice_get_within log.shapes n u g)))
    counts v n u (inr g) = ap cells_of_shape (ap Some (sym g.1)) ∙ here v ∙ ap (λ k. saturated (cells_of (table_of (log.shapes ++ t ∷ [])) k)) (sym g.0)

pub longer_shapes : (t : Shape) (shapes : List Shape) → length (shapes ++ t ∷ []) ≡ length shapes + 1
longer_shapes t shapes = length-append shapes (t ∷ [])

-- one object more
pub more_objects : (o : Object) (log : Log) → Sound log → o.subtype < length log.shapes → (AllValues log.shapes → o.cells ≡ cells_of (table_of log.shapes) o.subtype) → Sound (record log { objects = log.objects ++ o ∷ [] })
more_objects o log h new count = record {
  before = h.before;
  within = λ n x g. by n x (get_either log.objects o n x g);
  counted = h.counted;
  cells = λ v n x g. counts v n x (get_either log.objects o n x g);
  numbered = h.numbered;
  lie = h.lie;
}
  where
    by : (n : ℕ) (x : Object) → (slice_get log.objects n ≡ Some x) ⊎ ((n ≡ length log.objects) × (o ≡ x)) → x.subtype < length log.shapes
    by n x (inl g) = h.within n x g
    by n x (inr g) = subst (λ y. y.subtype < length log.shapes) g.1 new

    counts : AllValues log.shapes → (n : ℕ) (x : Object) → (slice_get log.objects n ≡ Some x) ⊎ ((n ≡ length log.objects) × (o ≡ x)) → x.cells ≡ cells_of (table_of log.shapes) x.subtype
    counts v n x (inl g) = h.cells v n x g
    counts v n x (inr g) = subst (λ y. y.cells ≡ cells_of (table_of log.shapes) y.subtype) g.1 (count v)

unless_next : (known : ℕ) (b : Bool) (at : ℕ) (rule : Rule) (log : Log) → Next known log (unless b at rule log).1
unless_next known true at rule log = next_same known log log refl refl
unless_next known false at rule log = next_same known log _ refl refl

pub counted_next : (known token cells : ℕ) (log : Log) → Next known log (cells_counted token cells log).1
counted_next known token cells log =
    let all = saturated (log.cells + cells) in
    let now = record log { declared = log.declared + 1; cells = all } in
    let mid = (unless (not (log.declared == most_objects)) token (Limit bound.Objects) now).1 in
    next_joined known log now _ (next_same known log now refl refl)
    (next_joined known now mid _ (unless_next known (not (log.declared == most_objects)) token (Limit bound.Objects) now) (unless_next known (nat_lt most_cells log.cells || nat_le all most_cells) token (Limit bound.Cells) mid))

-- what is written outside of declarations
abbrev pub minding : ℕ → Walk
minding known = record {
  Takes = λ names. Unit {0};
  R = Next known;
  stays = λ log. next_same known log log refl refl;
  joins = next_joined known;
  breaks = λ at rule log. next_same known log _ refl refl;
  scalar = λ s log. record { at = λ l h. (subst (λ n. length log.shapes ≤ n) (sym (longer_shapes (shape.Scalar s) log.shapes)) (omega arith), more_shapes (shape.Scalar s) log h tt (λ v w. refl) tt (λ v. tt)) };
  counted = counted_next known;
  exception = λ token log. next_same known log _ refl refl;
  site = λ here at k log. next_same known log _ refl refl;
  parameter = λ log. next_same known log _ refl refl;
  loop = λ log. next_same known log _ refl refl;
}

-- ---- subtypes that are known, and declarations of such

abbrev pub IsRight : ℕ → Subtype → Type 0
IsRight n (subtype.Scalar s) = int_le (kept s.kind s.low) (kept s.kind s.high) ≡ true
IsRight n (subtype.Composite m) = m < n

pub right_later : (n m : ℕ) (s : Subtype) → n ≤ m → IsRight n s → IsRight m s
right_later n m (subtype.Scalar s) l h = h
right_later n m (subtype.Composite k) l h = omega (arith, l, h)

-- its number stands in the table
pub number_within : (s : Subtype) (n : ℕ) (log : Log) → IsRight (length log.shapes) s → IsNumber s n log → n < length log.shapes
number_within (subtype.Scalar s) n log r i = slice_get_within log.shapes n (shape.Scalar s) i
number_within (subtype.Composite m) n log r i = subst (λ k. k < length log.shapes) (sym i) r

pub number_in : (s : Subtype) (n : ℕ) (log : Log) → IsNumber s n log → NumberIn log.shapes s n
number_in (subtype.Scalar s) n log i = i
number_in (subtype.Composite m) n log i = i

-- its count is that of the layout
pub number_counted : (s : Subtype) (n : ℕ) (log : Log) → Sound log → IsRight (length log.shapes) s → IsNumber s n log → AllValues log.shapes → cells_in log s ≡ saturated (cells_of (table_of log.shapes) n)
number_counted (subtype.Scalar s) n log h r i v = h.counted v n (shape.Scalar s) i
number_counted (subtype.Composite m) n log h r i v =
    let t = slice_get-get_or log.shapes m (shape.Record [] 0) r in
    ap cells_of_shape t ∙ h.counted v m _ t ∙ ap (λ k. saturated (cells_of (table_of log.shapes) k)) (sym i)

abbrev pub IsRightWhat : ℕ → What → Type 0
IsRightWhat n (what.Type t) = IsRight n t
IsRightWhat n w = Unit {0}

abbrev pub AreRight : ℕ → List Entry → Type 0
AreRight n [] = Unit {0}
AreRight n (e ∷ es) = IsRightWhat n e.what × AreRight n es

what_later : (n m : ℕ) (w : What) → n ≤ m → IsRightWhat n w → IsRightWhat m w
what_later n m (what.Type t) l h = right_later n m t l h
what_later n m w l h = tt

pub are_later : (n m : ℕ) (es : List Entry) → n ≤ m → AreRight n es → AreRight m es
are_later n m [] l h = tt
are_later n m (e ∷ es) l h = (what_later n m e.what l h.0, are_later n m es l h.1)

pub are_both : (n : ℕ) (a b : List Entry) → AreRight n a → AreRight n b → AreRight n (a ++ b)
are_both n [] b h k = k
are_both n (e ∷ a) b h k = (h.0, are_both n a b h.1 k)

pub are_dropped : (n k : ℕ) (es : List Entry) → AreRight n es → AreRight n (drop k es)
are_dropped n zero es h = h
are_dropped n (suc k) [] h = tt
are_dropped n (suc k) (e ∷ es) h = are_dropped n k es h.1

pub one_of : (n : ℕ) (before : List Entry) (e : Entry) (after : List Entry) → AreRight n (before ++ e ∷ after) → IsRightWhat n e.what
one_of n [] e after h = h.0
one_of n (x ∷ before) e after h = one_of n before e after h.1
