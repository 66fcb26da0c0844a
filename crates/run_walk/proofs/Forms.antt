-- Forms of the language, as the functions that go by them.
use Rattle.std.proofs.Common.{◌≡◌, ◌&&◌, ◌+◌, ◌+ℤ◌, ◌-ℤ◌, ◌*◌, pos, ℕ, ℤ, List, [], ◌∷◌, Bool, true, false, cond, int_le, Option, Some, None, refl, sym, subst}
use Rattle.std.specs.Prelude.{Result, Ok, Err, slice_get}
use Rattle.ada_base.specs.declared.reason.Reason.TheVariants as reason
use Rattle.behaviours.specs.Paths as paths
use Rattle.typed_tree.specs.declared.scalars.Scalar.{Scalar}
use Rattle.typed_tree.specs.declared.scalars.Check.{Check}
use Rattle.typed_tree.specs.declared.expressions.Root.{Root}
use Rattle.typed_tree.specs.Syntax.{Expr, Optional, Selections, Index, Iteration, Range, Stmt, Get, Value, Number}
use Rattle.ada_meaning.specs.Values.{is_in, count, between, to_nat}
use Rattle.ada_meaning.specs.Operations.{IndexCheck, RangeCheck}
use Rattle.ada_meaning.specs.Meaning as meaning
use Rattle.ada_meaning.specs.Meaning.{Env, variable_root, with_parameter, moved}
use Rattle.ada_meaning.specs.Stored.{Stored, ret, bind, leaves, writes, checks}
use Rattle.run_values.specs.declared.ends.End.{End}
use Rattle.run_values.specs.declared.ends.End.TheVariants as end
use Rattle.run_values.specs.declared.ends.Leave.TheVariants as leave
use Rattle.run_store.specs.declared.env.ObjectPart.{ObjectPart}
use Rattle.run_values.specs.declared.values.Range as code
use Rattle.run_store.specs.Input.{got}
use Rattle.run_store.specs.Environment.{part_of}
use Rattle.run_outside.specs.Outside.{Outside}
use Rattle.run_store.specs.Shows.{Image, ShowsAs, Shows}
use Rattle.run_store.proofs.Going.{stays, goes_refl, goes_ends, then_shows, same_shows}
use Rattle.run_parts.specs.declared.work.Work.{Work}
use Rattle.run_parts.specs.declared.courses.Course.TheVariants as course
use Rattle.run_parts.specs.Passing.{course_of}
use Rattle.run_parts.specs.Words.{ops, bounds_hold, write_all}
use Rattle.run_walk.specs.Walk as walk

bounds_so : (w : Work) (check : Option Check) (low high : ℤ) → bounds_hold check low high ≡ true → meaning.bounds_checked (ops w) check low high ≡ ret tt
bounds_so w None low high e = refl
bounds_so w (Some c) low high e = go (int_le low high) (is_in c.scalar low && is_in c.scalar high) e
  where
    go : (a b : Bool) → cond a b true ≡ true → cond a (checks RangeCheck c.at b) (ret tt) ≡ ret tt
    go true b e = rw e refl
    go false b e = refl

module _ {Tells : List ℕ → Outside → Type 0} (w : Work) (d : ℕ) (env : Env) (s t : Image) where
  pub index_as : (at : ℕ) (e : Expr) (low high a b : ℤ) (stride : ℕ) (rest ss : Selections) (p : meaning.ObjectPart) (r : Result ObjectPart End) → ShowsAs part_of Tells (walk.index w d at e a b stride rest env p) r s t → a ≡ low → b ≡ high → ss ≡ Index at e low high stride rest
      → ShowsAs part_of Tells (walk.select w d ss env p) r s t
  unfolding walk.eval walk.select
  index_as at e low high a b stride rest ss p r h k l is =
      subst (λ z. ShowsAs part_of Tells (walk.select w d z env p) r s t) (sym is)
      (subst (λ z. ShowsAs part_of Tells (walk.index w d at e z high stride rest env p) r s t) k
      (subst (λ z. ShowsAs part_of Tells (walk.index w d at e a z stride rest env p) r s t) l h))

  -- an index in its range, and the part behind it
  pub index_on : (at : ℕ) (e : Expr) (low high i : ℤ) (stride : ℕ) (rest : Selections) (p inner : meaning.ObjectPart) (r : Result ObjectPart End) (u : Image) → Shows Tells (walk.eval w d e env) (Ok i) s u → between low i high ≡ true → inner ≡ moved p (to_nat (i -ℤ low) * stride)
      → ShowsAs part_of Tells (walk.select w d rest env inner) r u t → ShowsAs part_of Tells (walk.index w d at e low high stride rest env p) r s t
  unfolding ret
  index_on at e low high i stride rest p inner r u h within q k =
      let on : ℤ → Stored meaning.ObjectPart = λ i. walk.select w d rest env (moved p (to_nat (i -ℤ low) * stride)) in
      then_shows (λ a. a) part_of (walk.eval w d e env) (λ i. bind (checks IndexCheck at (between low i high)) (λ _. on i)) s u t i r h
      (then_shows (λ a. a) part_of (checks IndexCheck at (between low i high)) (λ _. on i) u u t tt r (refl, stays, λ input told. rw within refl) (subst (λ z. ShowsAs part_of Tells (walk.select w d rest env z) r u t) q k))

  pub index_ends : (at : ℕ) (e : Expr) (low high i : ℤ) (stride : ℕ) (rest : Selections) (p inner : meaning.ObjectPart) (y : End) (r : Result ObjectPart End) (u : Image) → r ≡ Err y → Shows Tells (walk.eval w d e env) (Ok i) s u → between low i high ≡ true
      → inner ≡ moved p (to_nat (i -ℤ low) * stride) → ShowsAs part_of Tells (walk.select w d rest env inner) (Err y) u t → ShowsAs part_of Tells (walk.index w d at e low high stride rest env p) r s t
  index_ends at e low high i stride rest p inner y r u is h within q k = subst (λ z. ShowsAs part_of Tells (walk.index w d at e low high stride rest env p) z s t) (sym is) (index_on at e low high i stride rest p inner (Err y) u h within q k)

  -- a range whose bounds are in its subtype
  pub range_holds : (k : ℕ) (reverse : Bool) (low high : Expr) (check : Option Check) (filter : Optional) (it : Iteration) (l h : ℤ) (range : code.Range) (u : Image) → Shows Tells (walk.eval w d low env) (Ok l) s u → Shows Tells (walk.eval w d high env) (Ok h) u t
      → range.low ≡ l → range.high ≡ h → bounds_hold check range.low range.high ≡ true → it ≡ Range k reverse low high check filter → ShowsAs course_of Tells (walk.course w d it env) (Ok (course.Values k reverse range)) s t
  unfolding walk.course walk.eval ret
  range_holds k reverse low high check filter it l h range u e f a b within is =
      let done : ℤ → ℤ → Stored meaning.Course = λ l h. bind (meaning.bounds_checked (ops w) check l h) (λ _. ret (record { count = count l h; bound = λ i. with_parameter k (cond reverse (h -ℤ pos i) (l +ℤ pos i)) })) in
      subst (λ z. ShowsAs course_of Tells (walk.course w d z env) (Ok (course.Values k reverse range)) s t) (sym is)
      (then_shows (λ a. a) course_of (walk.eval w d low env) (λ l. bind (walk.eval w d high env) (λ h. done l h)) s u t range.low (Ok (course.Values k reverse range)) (subst (λ z. Shows Tells (walk.eval w d low env) (Ok z) s u) (sym a) e)
      (then_shows (λ a. a) course_of (walk.eval w d high env) (λ h. done range.low h) u t t range.high (Ok (course.Values k reverse range)) (subst (λ z. Shows Tells (walk.eval w d high env) (Ok z) u t) (sym b) f)
      (then_shows (λ a. a) course_of (meaning.bounds_checked (ops w) check range.low range.high) (λ _. ret (course_of (course.Values k reverse range))) t t t tt (Ok (course.Values k reverse range))
      (same_shows (λ a. a) (meaning.bounds_checked (ops w) check range.low range.high) (ret tt) (Ok tt) t t (bounds_so w check range.low range.high within) (refl, stays, λ input told. refl))
      (refl, stays, λ input told. refl))))

  -- a number in its subtype
  number_comes : (check : Check) (e : Expr) (x : ℤ) (u : Image) → Shows Tells (walk.eval w d e env) (Ok x) s u → is_in check.scalar x ≡ true → Shows Tells (walk.number w d check e env) (Ok (x ∷ [])) s u
  unfolding ret
  number_comes check e x u h within =
      then_shows (λ a. a) (λ a. a) (walk.eval w d e env) (λ v. bind (meaning.checked (ops w) check v) (λ _. ret (v ∷ []))) s u u x (Ok (x ∷ [])) h
      (then_shows (λ a. a) (λ a. a) (meaning.checked (ops w) check x) (λ _. ret (x ∷ [])) u u u tt (Ok (x ∷ [])) (refl, stays, λ input told. rw within refl) (refl, stays, λ input told. refl))

  -- a number that is returned
  pub number_returns : (check : Check) (e : Expr) (v : Value) (x z : ℤ) → Shows Tells (walk.eval w d e env) (Ok x) s t → is_in check.scalar x ≡ true → z ≡ x → v ≡ Number check e → Shows Tells (walk.return_value w d v env) (Err (end.Left (leave.Returns (Some z)))) s t
  unfolding walk.cells walk.eval leaves
  number_returns check e v x z h within same is =
      subst (λ v. Shows Tells (walk.return_value w d v env) (Err (end.Left (leave.Returns (Some z)))) s t) (sym is)
      (then_shows (λ a. a) (λ a. a) (walk.number w d check e env) (λ cs. leaves (paths.Returns (slice_get cs 0))) s t t (x ∷ []) (Err (end.Left (leave.Returns (Some z)))) (number_comes check e x t h within) (refl, stays, λ input told. rw same refl))

  -- a number that is stored
  number_stored : (check : Check) (e : Expr) (v : Value) (p : meaning.ObjectPart) (x z : ℤ) (u : Image) (r : Result (Unit {0}) End) → Shows Tells (walk.eval w d e env) (Ok x) s u → is_in check.scalar x ≡ true → Shows Tells (write_all w p.object p.offset (z ∷ [])) r u t → z ≡ x → v ≡ Number check e
      → Shows Tells (walk.assigned w d v p env) r s t
  unfolding walk.cells walk.eval
  number_stored check e v p x z u r h within k same is =
      let put : List ℤ → Stored (Unit {0}) = λ cs. write_all w p.object p.offset cs in
      subst (λ z. Shows Tells (walk.assigned w d z p env) r s t) (sym is)
      (then_shows (λ a. a) (λ a. a) (walk.number w d check e env) put s u t (x ∷ []) r (number_comes check e x u h within)
      (subst (λ z. Shows Tells (put (z ∷ [])) r u t) same k))

  pub number_gives : (check : Check) (e : Expr) (v : Value) (p : meaning.ObjectPart) (x z : ℤ) (u : Image) → Shows Tells (walk.eval w d e env) (Ok x) s u → is_in check.scalar x ≡ true → Shows Tells (writes p.object p.offset z) (Ok tt) u t → z ≡ x → v ≡ Number check e → Shows Tells (walk.assigned w d v p env) (Ok tt) s t
  unfolding write_all ret
  number_gives check e v p x z u h within k same is = number_stored check e v p x z u (Ok tt) h within (then_shows (λ a. a) (λ a. a) (writes p.object p.offset z) (λ _. write_all w p.object (p.offset + 1) []) u t t tt (Ok tt) k (refl, stays, λ input told. refl)) same is

  pub number_ends : (check : Check) (e : Expr) (v : Value) (p : meaning.ObjectPart) (x z : ℤ) (u : Image) (y : End) (r : Result (Unit {0}) End) → r ≡ Err y → Shows Tells (walk.eval w d e env) (Ok x) s u → is_in check.scalar x ≡ true → Shows Tells (writes p.object p.offset z) (Err y) u t → z ≡ x
      → v ≡ Number check e → Shows Tells (walk.assigned w d v p env) r s t
  unfolding write_all
  number_ends check e v p x z u y r q h within k same is =
      subst (λ r. Shows Tells (walk.assigned w d v p env) r s t) (sym q)
      (number_stored check e v p x z u (Err y) h within (goes_ends (λ a. a) (λ a. a) (write_all w p.object p.offset (z ∷ [])) (writes p.object p.offset z) (λ _. write_all w p.object (p.offset + 1) []) u u t y (goes_refl _ u) k) same is)

  -- a number that was read
  module _ (first : ℕ) (root : Root) (ss : Selections) (scalar : Scalar) (from : meaning.ObjectPart) (p : ObjectPart) (v : ℤ) (u x : Image) (e : from ≡ variable_root root env) (h : ShowsAs part_of Tells (walk.select w d ss env from) (Ok p) s u) (k : Shows Tells (got w.limit) (Ok v) u x) where
    get_as : (r : Result (Unit {0}) End) (y : Image) → Shows Tells (bind (checks RangeCheck first (is_in scalar v)) (λ _. writes p.object p.offset v)) r x y → Shows Tells (walk.get w d first root ss scalar env) r s y
    get_as r y l =
        then_shows part_of (λ a. a) (walk.select w d ss env (variable_root root env)) (λ p. bind (got w.limit) (λ v. bind (checks RangeCheck first (is_in scalar v)) (λ _. writes p.object p.offset v))) s u y p r
        (subst (λ z. ShowsAs part_of Tells (walk.select w d ss env z) (Ok p) s u) e h)
        (then_shows (λ a. a) (λ a. a) (got w.limit) (λ v. bind (checks RangeCheck first (is_in scalar v)) (λ _. writes p.object p.offset v)) u x y v r k l)

    pub get_on : (a : ℤ) (r : Result (Unit {0}) End) → is_in scalar v ≡ true → Shows Tells (writes p.object p.offset a) r x t → a ≡ v → Shows Tells (walk.get w d first root ss scalar env) r s t
    unfolding ret
    get_on a r within l same =
        get_as r t
        (then_shows (λ a. a) (λ a. a) (checks RangeCheck first (is_in scalar v)) (λ _. writes p.object p.offset v) x x t tt r (refl, stays, λ input told. rw within refl) (subst (λ z. Shows Tells (writes p.object p.offset z) r x t) same l))

    pub get_ends : (a : ℤ) (y : End) (r : Result (Unit {0}) End) → r ≡ Err y → is_in scalar v ≡ true → Shows Tells (writes p.object p.offset a) (Err y) x t → a ≡ v → Shows Tells (walk.get w d first root ss scalar env) r s t
    get_ends a y r q within l same = subst (λ z. Shows Tells (walk.get w d first root ss scalar env) z s t) (sym q) (get_on a (Err y) within l same)

    pub get_not : is_in scalar v ≡ false → Shows Tells (walk.get w d first root ss scalar env) (Err (end.Left (leave.Raises reason.ConstraintError))) s x
    unfolding leaves
    get_not outside =
        get_as (Err (end.Left (leave.Raises reason.ConstraintError))) x
        (goes_ends (λ a. a) (λ a. a) _ (checks RangeCheck first (is_in scalar v)) (λ _. writes p.object p.offset v) x x x (end.Left (leave.Raises reason.ConstraintError)) (goes_refl _ x) (refl, stays, λ input told. rw outside refl))

  -- a statement that reads a number
  pub get_shows : (x : Stmt) (n callee first : ℕ) (root : Root) (ss : Selections) (scalar : Scalar) (r : Result (Unit {0}) End) → x ≡ Get n callee first root ss scalar → Shows Tells (walk.get w d first root ss scalar env) r s t → Shows Tells (walk.exec w d x env) r s t
  unfolding walk.exec walk.select
  get_shows x n callee first root ss scalar r e h = subst (λ z. Shows Tells (walk.exec w d z env) r s t) (sym e) h
