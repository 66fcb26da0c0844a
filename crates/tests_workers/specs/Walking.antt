-- A walker touches no cell but those that its view lets it.
use Rattle.std.proofs.Common.{◌≡◌, ℕ, zero, suc, ◌<◌, ◌≤◌, inl, inr, ℤ, true, false, cond, List, [], ◌∷◌, length, get_or, set, Option, Some, None, arith, refl, sym, ◌∙◌, ap, subst, length-set}
use Rattle.std.specs.Prelude.{slice_get}
use Rattle.std.proofs.lemmas.List.{get_or-set_same, get_or-set_other, get_or_past}
use Rattle.std.proofs.lemmas.Bool.{cases_lt, cases_eq}
use lib.Dec.{ltb}
use Rattle.ada_base.specs.Cells.{Cell, Gone, Seen, Mine}
use Rattle.cell_memory.specs.Sight.{is_mine, is_gone, value_of}
use Rattle.ada_workers.specs.Paths.{Ending, AtEnd, Left, Spent, Cut, Stuck, Shows, Covers, Frames}
use Rattle.ada_workers.specs.Threads.{Touching}
use Rattle.ada_workers.specs.Iterated.{On, KeepsTo, KeepsNext, SameNext, BeginsNext, Uncut, StepFrames, Touch, Reads, Writes, Allowed, AllAllowed, OwnMine, run_touches, FollowsNext, StepTouches}
use Rattle.ada_workers.proofs.Iterating.{frames_of, touching_of}
use Rattle.tests_workers.specs.declared.walker.Op.{Op}
use Rattle.tests_workers.specs.declared.walker.Op.TheVariants as op
use Rattle.tests_workers.specs.declared.walker.Walker.{Walker}
use Rattle.tests_workers.specs.Walks.{ends, onward, turned, turn, look_turn, write, at_op, step, fuel, walk}

-- a walker has no frames of its own: it stays above those that the memory has
abbrev Above : ℕ → Walker → List Cell → Type 0
Above b p vs = b ≤ length vs

stay : (b : ℕ) (vs : List Cell) → b ≤ length vs → KeepsTo b vs vs
stay b vs le = record { long = le; kinds = λ x lt. refl; others = λ x lt e. refl }

pub mine_in : (cs : List Cell) (a : ℕ) → is_mine (get_or cs a Gone) ≡ true → a < length cs
mine_in cs a e = elim (cases_lt a (length cs)) [ inl lt ↦ lt | inr le ↦ let p = get_or_past cs a Gone le in cc ]

wrote : (b : ℕ) (vs : List Cell) (a : ℕ) (v : ℤ) → b ≤ length vs → is_mine (get_or vs a Gone) ≡ true → KeepsTo b vs (set vs a (Mine v))
wrote b vs a v le m = record {
  long = omega (arith, length-set vs a (Mine v));
  kinds = λ x lt. elim (cases_eq x a) as (λ _. is_mine (get_or (set vs a (Mine v)) x Gone) ≡ is_mine (get_or vs x Gone)) [
    | inl e ↦ ap (λ k. is_mine (get_or (set vs a (Mine v)) k Gone)) e ∙ ap is_mine (get_or-set_same vs a (Mine v) Gone (mine_in vs a m)) ∙ sym m ∙ ap (λ k. is_mine (get_or vs k Gone)) (sym e)
    | inr ne ↦ ap is_mine (get_or-set_other vs a x (Mine v) Gone ne)
  ];
  others = λ x lt e. get_or-set_other vs a x (Mine v) Gone (λ same. differ (get_or vs x Gone) e (ap (λ k. is_mine (get_or vs k Gone)) same ∙ m));
} where
  differ : (c : Cell) → is_mine c ≡ false → is_mine c ≡ true → ⊥
  differ c e f = cc

-- what the memory has of a cell that is to write, or to read
shown_mine : (m c : Cell) → Shows m c → is_mine c ≡ true → is_mine m ≡ true
shown_mine m Gone s e = cc
shown_mine m (Seen v) s e = cc
shown_mine m (Mine v) s e = ap is_mine s

shown_there : (m c : Cell) → Shows m c → is_gone c ≡ false → (is_gone m ≡ false) × (value_of m ≡ value_of c)
shown_there m Gone s e = cc
shown_there m (Seen v) s e = (ap is_gone s, ap value_of s)
shown_there m (Mine v) s e = (ap is_gone s, ap value_of s)

covers_set : (ms vs : List Cell) (a : ℕ) (v : ℤ) → Covers ms vs → is_mine (get_or vs a Gone) ≡ true → Covers (set ms a (Mine v)) (set vs a (Mine v))
covers_set ms vs a v c m = (
  length-set ms a (Mine v) ∙ c.0 ∙ sym (length-set vs a (Mine v)),
  λ x. elim (cases_eq x a) as (λ _. Shows (get_or (set ms a (Mine v)) x Gone) (get_or (set vs a (Mine v)) x Gone)) [
    | inl e ↦
        let lt = mine_in vs a m in
        let f : get_or (set vs a (Mine v)) x Gone ≡ Mine v = ap (λ k. get_or (set vs a (Mine v)) k Gone) e ∙ get_or-set_same vs a (Mine v) Gone lt in
        let g : get_or (set ms a (Mine v)) x Gone ≡ Mine v = ap (λ k. get_or (set ms a (Mine v)) k Gone) e ∙ get_or-set_same ms a (Mine v) Gone (omega (arith, c.0)) in
        subst (λ k. Shows (get_or (set ms a (Mine v)) x Gone) k) (sym f) g
    | inr ne ↦ subst (λ k. Shows k (get_or (set vs a (Mine v)) x Gone)) (sym (get_or-set_other ms a x (Mine v) Gone ne)) (subst (λ k. Shows (get_or ms x Gone) k) (sym (get_or-set_other vs a x (Mine v) Gone ne)) (c.1 x))
  ],
)

module _ (p : Walker) where
  keeps_write : (b : ℕ) (n : Option ℕ) (vs : List Cell) (a : ℕ) (v : ℤ) → b ≤ length vs → KeepsNext Above b vs (write p n vs a (Mine v))
  keeps_write b n vs a v le =
      elim (is_mine (get_or vs a Gone)) as (λ y. is_mine (get_or vs a Gone) ≡ y → KeepsNext Above b vs (cond y (On (onward p) n (set vs a (Mine v))) (ends p vs Stuck))) [
        | true ↦ λ e. let k = wrote b vs a v le e in (k.long, k)
        | false ↦ λ e f. absurd f
      ] refl

  same_write : (b : ℕ) (n : Option ℕ) (vs ms : List Cell) (a : ℕ) (v : ℤ) → Covers ms vs → SameNext Above b vs ms (write p n vs a (Mine v)) (write p n ms a (Mine v))
  same_write b n vs ms a v c =
      elim (is_mine (get_or vs a Gone)) as (λ y. is_mine (get_or vs a Gone) ≡ y → SameNext Above b vs ms (cond y (On (onward p) n (set vs a (Mine v))) (ends p vs Stuck)) (write p n ms a (Mine v))) [
        | true ↦ λ e. (
          set ms a (Mine v),
          ap (λ z. cond z (On (onward p) n (set ms a (Mine v))) (ends p ms Stuck)) (shown_mine (get_or ms a Gone) (get_or vs a Gone) (c.1 a) e),
          covers_set ms vs a v c e,
          λ x lt f. get_or-set_other ms a x (Mine v) Gone (λ same. differ (get_or vs x Gone) f (ap (λ k. is_mine (get_or vs k Gone)) same ∙ e)),
        )
        | false ↦ λ e f. absurd f
      ] refl where
        differ : (c : Cell) → is_mine c ≡ false → is_mine c ≡ true → ⊥
        differ c e f = cc

  begins_write : (m : ℕ) (vs : List Cell) (a : ℕ) (v : ℤ) → BeginsNext Above (write p None vs a (Mine v)) (write p (Some m) vs a (Mine v))
  begins_write m vs a v =
      elim (is_mine (get_or vs a Gone)) as (λ y. BeginsNext Above (cond y (On (onward p) None (set vs a (Mine v))) (ends p vs Stuck)) (cond y (On (onward p) (Some m) (set vs a (Mine v))) (ends p vs Stuck))) [
        | true ↦ inl (refl, (m, refl))
        | false ↦ λ f. absurd f
      ]

  keeps_turn : (b : ℕ) (n : Option ℕ) (vs : List Cell) → b ≤ length vs → KeepsNext Above b vs (turn p n vs)
  keeps_turn b n vs le = elim (ltb p.turns p.limit) as (λ y. KeepsNext Above b vs (cond y (On (turned p) n vs) (ends p vs Spent))) [ true ↦ (le, stay b vs le) | false ↦ λ f. stay b vs le ]

  same_ends : (b : ℕ) (vs ms : List Cell) (e : Ending) → Covers ms vs → SameNext Above b vs ms (ends p vs e) (ends p ms e)
  same_ends b vs ms e c f = (record { path = p; cells = ms; end = e }, refl, record { path = refl; end = refl; covers = c; others = λ x lt h. refl })

  same_turn : (b : ℕ) (n : Option ℕ) (vs ms : List Cell) → Covers ms vs → SameNext Above b vs ms (turn p n vs) (turn p n ms)
  same_turn b n vs ms c =
      elim (ltb p.turns p.limit) as (λ y. SameNext Above b vs ms (cond y (On (turned p) n vs) (ends p vs Spent)) (cond y (On (turned p) n ms) (ends p ms Spent))) [
        | true ↦ (ms, refl, c, λ x lt h. refl)
        | false ↦ same_ends b vs ms Spent c
      ]

  begins_turn : (m : ℕ) (vs : List Cell) → BeginsNext Above (turn p None vs) (look_turn p (Some m) vs)
  begins_turn zero vs = elim (ltb p.turns p.limit) as (λ y. BeginsNext Above (cond y (On (turned p) None vs) (ends p vs Spent)) (ends p vs Cut)) [ true ↦ inr (record { path = p; cells = vs; end = Cut }, refl, tt) | false ↦ λ f. (record { path = p; cells = vs; end = Cut }, refl, tt) ]
  begins_turn (suc m) vs =
      elim (ltb p.turns p.limit) as (λ y. BeginsNext Above (cond y (On (turned p) None vs) (ends p vs Spent)) (cond y (On (turned p) (Some m) vs) (ends p vs Spent))) [
        | true ↦ inl (refl, (m, refl))
        | false ↦ λ f. (record { path = p; cells = vs; end = Spent }, refl, tt)
      ]

  keeps_op : (o : Option Op) (b : ℕ) (n : Option ℕ) (vs : List Cell) → b ≤ length vs → KeepsNext Above b vs (at_op o p n vs)
  keeps_op None b n vs le = λ f. stay b vs le
  keeps_op (Some (op.Put a v)) b n vs le = keeps_write b n vs a v le
  keeps_op (Some (op.Copy a c)) b n vs le =
      elim (is_gone (get_or vs a Gone)) as (λ y. KeepsNext Above b vs (cond y (ends p vs Stuck) (write p n vs c (Mine (value_of (get_or vs a Gone)))))) [ true ↦ λ f. absurd f | false ↦ keeps_write b n vs c (value_of (get_or vs a Gone)) le ]
  keeps_op (Some op.Turn) b None vs le = keeps_turn b None vs le
  keeps_op (Some op.Turn) b (Some zero) vs le = λ f. stay b vs le
  keeps_op (Some op.Turn) b (Some (suc n)) vs le = keeps_turn b (Some n) vs le
  keeps_op (Some op.Leave) b n vs le = λ f. stay b vs le

  same_op : (o : Option Op) (b : ℕ) (n : Option ℕ) (vs ms : List Cell) → Covers ms vs → SameNext Above b vs ms (at_op o p n vs) (at_op o p n ms)
  same_op None b n vs ms c = same_ends b vs ms AtEnd c
  same_op (Some (op.Put a v)) b n vs ms c = same_write b n vs ms a v c
  same_op (Some (op.Copy a d)) b n vs ms c =
      elim (is_gone (get_or vs a Gone)) as (λ y. is_gone (get_or vs a Gone) ≡ y → SameNext Above b vs ms (cond y (ends p vs Stuck) (write p n vs d (Mine (value_of (get_or vs a Gone))))) (at_op (Some (op.Copy a d)) p n ms)) [
        | true ↦ λ e f. absurd f
        | false ↦ λ e.
            let s = shown_there (get_or ms a Gone) (get_or vs a Gone) (c.1 a) e in
            subst (λ y. SameNext Above b vs ms (write p n vs d (Mine (value_of (get_or vs a Gone)))) y)
            (sym (λ i. cond (s.0 i) (ends p ms Stuck) (write p n ms d (Mine (s.1 i))))) (same_write b n vs ms d (value_of (get_or vs a Gone)) c)
      ] refl
  same_op (Some op.Turn) b None vs ms c = same_turn b None vs ms c
  same_op (Some op.Turn) b (Some zero) vs ms c = same_ends b vs ms Cut c
  same_op (Some op.Turn) b (Some (suc n)) vs ms c = same_turn b (Some n) vs ms c
  same_op (Some op.Leave) b n vs ms c = same_ends b vs ms Left c

  begins_op : (o : Option Op) (m : ℕ) (vs : List Cell) → BeginsNext Above (at_op o p None vs) (at_op o p (Some m) vs)
  begins_op None m vs = λ f. (record { path = p; cells = vs; end = AtEnd }, refl, tt)
  begins_op (Some (op.Put a v)) m vs = begins_write m vs a v
  begins_op (Some (op.Copy a c)) m vs =
      elim (is_gone (get_or vs a Gone)) as (λ y. BeginsNext Above (cond y (ends p vs Stuck) (write p None vs c (Mine (value_of (get_or vs a Gone))))) (cond y (ends p vs Stuck) (write p (Some m) vs c (Mine (value_of (get_or vs a Gone)))))) [
        | true ↦ λ f. absurd f
        | false ↦ begins_write m vs c (value_of (get_or vs a Gone))
      ]
  begins_op (Some op.Turn) m vs = begins_turn m vs
  begins_op (Some op.Leave) m vs = λ f. (record { path = p; cells = vs; end = Left }, refl, tt)

  uncut_write : (vs : List Cell) (a : ℕ) (c : Cell) → Uncut Above (write p None vs a c)
  uncut_write vs a c = elim (is_mine (get_or vs a Gone)) as (λ y. Uncut Above (cond y (On (onward p) None (set vs a c)) (ends p vs Stuck))) [ true ↦ refl | false ↦ λ e. cc ]

  uncut_op : (o : Option Op) (vs : List Cell) → Uncut Above (at_op o p None vs)
  uncut_op None vs = λ e. cc
  uncut_op (Some (op.Put a v)) vs = uncut_write vs a (Mine v)
  uncut_op (Some (op.Copy a c)) vs =
      elim (is_gone (get_or vs a Gone)) as (λ y. Uncut Above (cond y (ends p vs Stuck) (write p None vs c (Mine (value_of (get_or vs a Gone)))))) [ true ↦ λ e. cc | false ↦ uncut_write vs c (Mine (value_of (get_or vs a Gone))) ]
  uncut_op (Some op.Turn) vs = elim (ltb p.turns p.limit) as (λ y. Uncut Above (cond y (On (turned p) None vs) (ends p vs Spent))) [ true ↦ refl | false ↦ λ e. cc ]
  uncut_op (Some op.Leave) vs = λ e. cc

step_frames : StepFrames Above step
step_frames = record {
  keeps = λ b p n vs a. keeps_op p (slice_get p.ops.items p.at) b n vs a;
  same = λ b p n vs ms a c. same_op p (slice_get p.ops.items p.at) b n vs ms c;
  begins = λ p m vs. begins_op p (slice_get p.ops.items p.at) m vs;
  uncut = λ p vs. uncut_op p (slice_get p.ops.items p.at) vs;
}

pub walk_frames : Frames walk
walk_frames = frames_of Above step step_frames fuel (λ p vs. omega arith)

-- ---- what a walker touches
abbrev pub op_touches : Option Op → List Touch
op_touches None = []
op_touches (Some (op.Put a v)) = Writes a ∷ []
op_touches (Some (op.Copy a c)) = Reads a ∷ Writes c ∷ []
op_touches (Some op.Turn) = []
op_touches (Some op.Leave) = []

abbrev pub touches : Walker → List Cell → List Touch
touches p cs = op_touches (slice_get p.ops.items p.at)

there_mine : (c : Cell) → is_mine c ≡ true → is_gone c ≡ false
there_mine Gone e = cc
there_mine (Seen v) e = cc
there_mine (Mine v) e = refl

-- a cell that the memory has and the view lets be written, or read
module _ (b : ℕ) (vs ms : List Cell) (c : Covers ms vs) (o : OwnMine b vs) where
  writes_in : (a : ℕ) → is_mine (get_or ms a Gone) ≡ true → Allowed b vs (Writes a) → is_mine (get_or vs a Gone) ≡ true
  writes_in a m h = elim (cases_lt a b) [ inl lt ↦ h lt | inr le ↦ o a le (omega (arith, mine_in ms a m, c.0)) ]

  gone_past : (cs : List Cell) (a : ℕ) → is_gone (get_or cs a Gone) ≡ false → a < length cs
  gone_past cs a e = elim (cases_lt a (length cs)) [ inl lt ↦ lt | inr le ↦ let p = get_or_past cs a Gone le in cc ]

  reads_in : (a : ℕ) → is_gone (get_or ms a Gone) ≡ false → Allowed b vs (Reads a) → is_gone (get_or vs a Gone) ≡ false
  reads_in a m h = elim (cases_lt a b) [ inl lt ↦ h lt | inr le ↦ there_mine (get_or vs a Gone) (o a le (omega (arith, gone_past ms a m, c.0))) ]

  own_set : (a : ℕ) (v : ℤ) → is_mine (get_or vs a Gone) ≡ true → OwnMine b (set vs a (Mine v))
  own_set a v m x le lt = elim (cases_eq x a) as (λ _. is_mine (get_or (set vs a (Mine v)) x Gone) ≡ true) [
    | inl e ↦ ap (λ k. is_mine (get_or (set vs a (Mine v)) k Gone)) e ∙ ap is_mine (get_or-set_same vs a (Mine v) Gone (mine_in vs a m))
    | inr ne ↦ ap is_mine (get_or-set_other vs a x (Mine v) Gone ne) ∙ o x le (omega (arith, length-set vs a (Mine v)))
  ]

  module _ (p : Walker) (le : b ≤ length vs) where
    follow_write : (n : Option ℕ) (a : ℕ) (v : ℤ) → Allowed b vs (Writes a) → FollowsNext Above b vs (write p n ms a (Mine v)) (write p n vs a (Mine v))
    follow_write n a v h =
        elim (is_mine (get_or ms a Gone)) as (λ y. is_mine (get_or ms a Gone) ≡ y → FollowsNext Above b vs (cond y (On (onward p) n (set ms a (Mine v))) (ends p ms Stuck)) (write p n vs a (Mine v))) [
          | true ↦ λ e.
              let m = writes_in a e h in
              (set vs a (Mine v), ap (λ z. cond z (On (onward p) n (set vs a (Mine v))) (ends p vs Stuck)) m, covers_set ms vs a v c m, omega (arith, length-set vs a (Mine v)), own_set a v m, wrote b vs a v le m)
          | false ↦ λ e f. absurd f
        ] refl

    follow_end : (e : Ending) → FollowsNext Above b vs (ends p ms e) (ends p vs e)
    follow_end e f = (record { path = p; cells = vs; end = e }, refl, f)

    follow_turn : (n : Option ℕ) → FollowsNext Above b vs (turn p n ms) (turn p n vs)
    follow_turn n = elim (ltb p.turns p.limit) as (λ y. FollowsNext Above b vs (cond y (On (turned p) n ms) (ends p ms Spent)) (cond y (On (turned p) n vs) (ends p vs Spent))) [
      | true ↦ (vs, refl, c, le, o, stay b vs le)
      | false ↦ follow_end Spent
    ]

    follow_op : (x : Option Op) (n : Option ℕ) → AllAllowed b vs (op_touches x) → FollowsNext Above b vs (at_op x p n ms) (at_op x p n vs)
    follow_op None n a = follow_end AtEnd
    follow_op (Some (op.Put d v)) n a = follow_write n d v a.0
    follow_op (Some (op.Copy d g)) n a =
        elim (is_gone (get_or ms d Gone)) as (λ y. is_gone (get_or ms d Gone) ≡ y → FollowsNext Above b vs (cond y (ends p ms Stuck) (write p n ms g (Mine (value_of (get_or ms d Gone))))) (at_op (Some (op.Copy d g)) p n vs)) [
          | true ↦ λ e f. absurd f
          | false ↦ λ e.
              let r = reads_in d e a.0 in let s = shown_there (get_or ms d Gone) (get_or vs d Gone) (c.1 d) r in
              subst (λ y. FollowsNext Above b vs (write p n ms g (Mine (value_of (get_or ms d Gone)))) y)
              (sym (λ i. cond (r i) (ends p vs Stuck) (write p n vs g (Mine (sym s.1 i))))) (follow_write n g (value_of (get_or ms d Gone)) a.1.0)
        ] refl
    follow_op (Some op.Turn) None a = follow_turn None
    follow_op (Some op.Turn) (Some zero) a = follow_end Cut
    follow_op (Some op.Turn) (Some (suc n)) a = follow_turn (Some n)
    follow_op (Some op.Leave) n a = follow_end Left

step_touches : StepTouches Above step touches
step_touches b p n vs ms a c o t = follow_op b vs ms c o p a (slice_get p.ops.items p.at) n t

pub walk_touching : Touching walk (λ p ms. run_touches step touches (fuel p) p None ms)
walk_touching = touching_of Above step touches step_touches fuel (λ b p vs le. le)
