-- One fold, and the folds of the chunks of a plan.
use Rattle.std.proofs.Common.{◌≡◌, ℕ, zero, suc, ◌+◌, ◌≤◌, List, [], ◌∷◌, ◌++◌, Bool, true, false, ◌||◌, inr, refl, sym, subst, ap, ap₂, ◌∙◌, arith, append_assoc, le_trans, true≢false}
use mathlib.Core.Path.{fun_ext}
use Rattle.behaviours.specs.Doings.{through}
use Rattle.behaviours.specs.Paths.{ThreadName, Instance, End, Gives, Leaves, Spent, Stopped, Path, Scope, enter, joined}
use Rattle.behaviours.specs.Memory.{Memory}
use Rattle.behaviours.specs.Joins.{Share, deal}
use Rattle.behaviours.specs.Behaviours.{is_left}
use Rattle.ada_meaning.specs.Operations.{Cut, ByPlan, Sized, chunk_of}
use Rattle.ada_meaning.specs.Planned
use Rattle.ada_meaning.specs.Planned.{Result, Planned, continued, next, follow, before, threads, back_in, doings, ◌>>=◌}
use Rattle.ada_meaning.specs.Sequential.{IsCalm, in_turn, construct, shares_of}
use Rattle.ada_meaning.proofs.Agrees.{gives_inj, gives-ne-leaves, gives-ne-spent, gives-ne-stopped, or_left, or_right}
use Rattle.ada_meaning.proofs.Ties.{Ties, Fair, Agree, goes_enter, goes_joined, fair_goes}
use Rattle.ada_meaning.proofs.Follows.{EachOuter, Start, Further, Alike, further_refl, calm_rest, calm_first, alike_continued, through_tame, next_further}

-- one thing after another is the same, however it is grouped

or_assoc : (a b c : Bool) → ((a || b) || c) ≡ (a || (b || c))
or_assoc true b c = refl
or_assoc false b c = refl

continued_assoc : {A B C : Type 0} (r : Result A) (s : Result B) (t : Result C) → continued (continued r s) t ≡ continued r (continued s t)
continued_assoc r s t =
    let o = append_assoc r.output s.output t.output in
    let n = append_assoc r.noted s.noted t.noted in
    λ i. record { path = t.path; memory = t.memory; output = o i; early = or_assoc r.early s.early t.early i; noted = n i; end = t.end }

continued_next : {A B C : Type 0} (z : Scope Instance) (r : Result A) (s : Result B) (e : End B) (l : B → Planned C) → next z (continued r s) e l ≡ continued r (next z s e l)
continued_next z r s (Gives b) l = continued_assoc r s (l b z s.path s.memory)
continued_next z r s (Leaves x) l = refl
continued_next z r s Spent l = refl
continued_next z r s Stopped l = refl

next_assoc : {A B C : Type 0} (z : Scope Instance) (r : Result A) (e : End A) (k : A → Planned B) (l : B → Planned C) → next z (next z r e k) (next z r e k).end l ≡ next z r e (λ a. ◌>>=◌ (k a) l)
next_assoc z r (Gives a) k l = continued_next z r (k a z r.path r.memory) (k a z r.path r.memory).end l
next_assoc z r (Leaves x) k l = refl
next_assoc z r Spent k l = refl
next_assoc z r Stopped k l = refl

bind_assoc : {A B C : Type 0} (g : Planned A) (k : A → Planned B) (l : B → Planned C) → ◌>>=◌ (◌>>=◌ g k) l ≡ ◌>>=◌ g (λ a. ◌>>=◌ (k a) l)
bind_assoc g k l = fun_ext (λ z. fun_ext (λ q. fun_ext (λ w. next_assoc z (g z q w) (g z q w).end k l)))

through_split : {A : Type 0} (first n m : ℕ) (a : A) (f : ℕ → A → Planned A) → through doings first (n + m) a f ≡ ◌>>=◌ (through doings first n a f) (λ b. through doings (first + n) m b f)
through_split first zero m a f =
    let e : zero + m ≡ m = omega arith in let h : first ≡ first + zero = omega arith in
    ap (λ z. through doings first z a f) e ∙ ap (λ z. through doings z m a f) h
through_split first (suc n) m a f =
    let e : suc n + m ≡ suc (n + m) = omega arith in let h : suc first + n ≡ first + suc n = omega arith in
    ap (λ z. through doings first z a f) e
    ∙ ap (λ z. ◌>>=◌ (f first a) z) (fun_ext (λ b. through_split (suc first) n m b f ∙ ap (λ z. ◌>>=◌ (through doings (suc first) n b f) (λ c. through doings z m c f)) h))
    ∙ sym (bind_assoc (f first a) (λ b. through doings (suc first) n b f) (λ c. through doings (first + suc n) m c f))

abbrev pub adds : List ℕ → ℕ
adds [] = 0
adds (n ∷ ns) = n + adds ns

-- all at once, or chunk after chunk
whole_turns : {A : Type 0} (ns : List ℕ) (number first : ℕ) (a : A) (f : ℕ → A → Planned A) → ◌>>=◌ (through doings first (adds ns) a f) Planned.ret ≡ in_turn (deal number first ns) a (λ j. f)
whole_turns [] number first a f = refl
whole_turns (n ∷ ns) number first a f =
    ap (λ z. ◌>>=◌ z Planned.ret) (through_split first n (adds ns) a f)
    ∙ bind_assoc (through doings first n a f) (λ b. through doings (first + n) (adds ns) b f) Planned.ret
    ∙ ap (λ z. ◌>>=◌ (through doings first n a f) z) (fun_ext (λ b. whole_turns ns (suc number) (first + n) b f))

pub cut_turns : {A : Type 0} (limit : ℕ) (cuts : ℕ → ℕ → List ℕ) → ((most n : ℕ) → adds (cuts most n) ≡ n) → (cut : Cut) (a : A) (body : ℕ → ℕ → A → Planned A)
    → in_turn (shares_of cut) a body ≡ in_turn (deal 0 0 (Planned.sizes_of limit cuts cut)) a (λ j. body (chunk_of cut j))
cut_turns limit cuts whole (Sized sizes) a body = refl
cut_turns limit cuts whole (ByPlan most n) a body = ap (λ z. ◌>>=◌ (through doings 0 z a (body 0)) Planned.ret) (sym (whole most n)) ∙ whole_turns (cuts most n) 0 0 a (body 0)

-- a fold over values

abbrev pub over : {A V : Type 0} → (A → V → A) → A → List V → A
over f a [] = a
over f a (v ∷ vs) = over f (f a v) vs

pub over_append : {A V : Type 0} (f : A → V → A) (a : A) (vs ws : List V) → over f a (vs ++ ws) ≡ over f (over f a vs) ws
over_append f a [] ws = refl
over_append f a (v ∷ vs) ws = over_append f (f a v) vs ws

abbrev pub concat : {V : Type 0} → List (List V) → List V
concat [] = []
concat (vs ∷ vss) = vs ++ concat vss

pub record AlikeGives {A B : Type 0} (w : Ties) (r : Result A) (s : Result B) (a : A) : Type 0 where
  pub alike : Alike false w r s
  pub gives : r.end ≡ Gives a

pub next_alike : {A B C D : Type 0} (w : Ties) (x y : Scope Instance) (r : Result A) (s : Result B) (a : A) (b : B) (k : A → Planned C) (l : B → Planned D) (c : C)
    → AlikeGives w r s a → AlikeGives w (k a x r.path r.memory) (l b y s.path s.memory) c → AlikeGives w (next x r r.end k) (next y s (Gives b) l) c
next_alike w x y r s a b k l c f g =
    subst (λ z. AlikeGives w (next x r z k) (continued s (l b y s.path s.memory)) c) (sym f.gives)
    (record { alike = alike_continued false w r s (k a x r.path r.memory) (l b y s.path s.memory) f.alike g.alike; gives = g.gives })

-- threads

no_name : (i : ℕ) (n : ThreadName) → ◌≡◌ {A = ThreadName} (i ∷ n) [] → ⊥
no_name i n e = absurd (true≢false (ap some e))
  where
    some : ThreadName → Bool
    some [] = false
    some (i ∷ n) = true

-- where any thread of a construct of the one run and the other run may begin
pub record Ready (w : Ties) (p q : Path Instance) (m n : Memory) : Type 0 where
  pub inside : q.name ≡ [] → ⊥
  pub turns : p.turns ≤ q.turns
  pub taken : p.taken ≡ q.taken
  pub globals : p.globals ≡ q.globals
  pub owned : EachOuter p.globals
  pub fair : (i : ℕ) → Fair w (enter i p) q
  pub agree : Agree w m n
  pub held : m.held ≡ n.held
  pub input : m.input ≡ n.input

thread_start : (w : Ties) (p q : Path Instance) (m n : Memory) → Ready w p q m n → (i : ℕ) → Start false w (enter i p) q m n
thread_start w p q m n r i = record {
  level = inr (no_name i (p.constructs ∷ p.name), r.inside);
  outer = λ e. absurd (true≢false (sym e));
  turns = r.turns;
  taken = r.taken;
  globals = r.globals;
  owned = r.owned;
  fair = r.fair i;
  agree = r.agree;
  held = r.held;
  input = r.input;
}

pub ready_inside : (b : Bool) (w : Ties) (p q : Path Instance) (m n : Memory) → Start b w p q m n → Ready w p (enter 0 q) m n
ready_inside b w p q m n st = record {
  inside = no_name 0 (q.constructs ∷ q.name);
  turns = st.turns;
  taken = st.taken;
  globals = st.globals;
  owned = st.owned;
  fair = λ i. fair_goes w p q (enter i p) (enter 0 q) (goes_enter i p) (goes_enter 0 q) st.fair;
  agree = st.agree;
  held = st.held;
  input = st.input;
}

fair_mix : (w : Ties) (p q p' q' : Path Instance) → Fair w p q → Fair w p' q' → Fair w p q'
fair_mix w p q p' q' f g = record { forth = f.forth; back = f.back; left = f.left; right = g.right }

-- what the threads come to, and what the sequential run does in their place
pub record Done {A F : Type 0} (w : Ties) (r : Result A) (s : Result F) : Type 0 where
  pub turns : r.path.turns ≤ s.path.turns
  pub agree : Agree w r.memory s.memory
  pub held : r.memory.held ≡ s.memory.held
  pub input : r.memory.input ≡ s.memory.input
  pub output : r.output ≡ s.output
  pub early : r.early ≡ false

pub joined_start : {A F : Type 0} (b : Bool) (w : Ties) (p q : Path Instance) (m n : Memory) (r : Result A) (s : Result F) → Start b w p q m n → Done w r s → Start b w (joined p r.path.turns) (joined q s.path.turns) r.memory s.memory
joined_start b w p q m n r s st d = record {
  level = st.level;
  outer = st.outer;
  turns = d.turns;
  taken = st.taken;
  globals = st.globals;
  owned = st.owned;
  fair = fair_goes w p q (joined p r.path.turns) (joined q s.path.turns) (goes_joined p r.path.turns) (goes_joined q s.path.turns) st.fair;
  agree = d.agree;
  held = d.held;
  input = d.input;
}

-- what comes chunk after chunk leads on where each iteration does
pub turns_tame : {F : Type 0} (t : Scope Instance) (fs : ℕ → ℕ → F → Planned F) → ((j i : ℕ) (st : F) (q : Path Instance) (m : Memory) → Further false q (fs j i st t q m).path) → (js : List Share) (st : F) (q : Path Instance) (n : Memory)
    → Further false q (in_turn js st fs t q n).path
turns_tame t fs tame [] st q n = further_refl false q
turns_tame t fs tame (c ∷ cs) st q n =
    let f = through doings c.first c.size st (fs c.number) in
    next_further false t q (f t q n) (f t q n).end (λ b. in_turn cs b fs) (through_tame false t c.first c.size st (fs c.number) (tame c.number) q n) (λ b. turns_tame t fs tame cs b (f t q n).path (f t q n).memory)

-- what the fold of the sequential run takes, and what a fold of the plan does with it where that is in order
module _ {A F V : Type 0} (w : Ties) (s t : Scope Instance) (take_up : F → V → F) (put_on : A → V → A) (Ok : A → V → Type 0) (fp : ℕ → ℕ → A → Planned A) (fs : ℕ → ℕ → F → Planned F) where
  abbrev pub AllOk : A → List V → Type 0
  AllOk a [] = Unit {0}
  AllOk a (v ∷ vs) = Ok a v × AllOk (put_on a v) vs

  ok_left : (a : A) (vs ws : List V) → AllOk a (vs ++ ws) → AllOk a vs
  ok_left a [] ws h = tt
  ok_left a (v ∷ vs) ws h = (h.0, ok_left (put_on a v) vs ws h.1)

  ok_right : (a : A) (vs ws : List V) → AllOk a (vs ++ ws) → AllOk (over put_on a vs) ws
  ok_right a [] ws h = h
  ok_right a (v ∷ vs) ws h = ok_right (put_on a v) vs ws h.1

  pub record Took (run : A → Planned A) (q : Path Instance) (n : Memory) (st st' : F) (r : Result F) (vs : List V) : Type 0 where
    pub took : st' ≡ over take_up st vs
    pub planned : (p : Path Instance) (m : Memory) → Start false w p q m n → (a : A) → AllOk a vs → AlikeGives w (run a s p m) r (over put_on a vs)

  module _
      (step : (j i : ℕ) (st : F) (q : Path Instance) (m : Memory) (st' : F) → IsCalm (fs j i st t q m) → (fs j i st t q m).end ≡ Gives st' → (vs : List V) × Took (fp j i) q m st st' (fs j i st t q m) vs)
      (tame : (j i : ℕ) (st : F) (q : Path Instance) (m : Memory) → Further false q (fs j i st t q m).path)
    where
      abbrev pub FoldTook : ℕ → ℕ → ℕ → Type 0
      FoldTook j first n = (st : F) (q : Path Instance) (m : Memory) (st' : F) → IsCalm (through doings first n st (fs j) t q m) → (through doings first n st (fs j) t q m).end ≡ Gives st'
          → (vs : List V) × Took (λ a. through doings first n a (fp j)) q m st st' (through doings first n st (fs j) t q m) vs

      fold_next : (j first n : ℕ) → FoldTook j (suc first) n → (st : F) (q : Path Instance) (m : Memory) (st' : F) (f : End F) → (fs j first st t q m).end ≡ f
          → IsCalm (next t (fs j first st t q m) f (λ b. through doings (suc first) n b (fs j))) → (next t (fs j first st t q m) f (λ b. through doings (suc first) n b (fs j))).end ≡ Gives st'
          → (vs : List V) × Took (λ a. through doings first (suc n) a (fp j)) q m st st' (next t (fs j first st t q m) f (λ b. through doings (suc first) n b (fs j))) vs
      fold_next j first n more st q m st' (Leaves x) eq c e = gives-ne-leaves (sym e)
      fold_next j first n more st q m st' Spent eq c e = gives-ne-spent (sym e)
      fold_next j first n more st q m st' Stopped eq c e = gives-ne-stopped (sym e)
      fold_next j first n more st q m st' (Gives st1) eq c e =
          let s1 = fs j first st t q m in
          let u = through doings (suc first) n st1 (fs j) t s1.path s1.memory in
          let one = step j first st q m st1 (calm_first t s1 (Gives st1) (λ b. through doings (suc first) n b (fs j)) eq c) eq in
          let two = more st1 s1.path s1.memory st' (calm_rest s1 u c) e in (
            one.0 ++ two.0,
            record {
              took = two.1.took ∙ ap (λ z. over take_up z two.0) one.1.took ∙ sym (over_append take_up st one.0 two.0);
              planned = λ p m' start a ok.
                  let r = fp j first a s p m' in
                  let f = one.1.planned p m' start a (ok_left a one.0 two.0 ok) in
                  subst (λ z. AlikeGives w (through doings first (suc n) a (fp j) s p m') (continued s1 u) z) (sym (over_append put_on a one.0 two.0))
                  (next_alike w s t r s1 (over put_on a one.0) st1 (λ b. through doings (suc first) n b (fp j)) (λ b. through doings (suc first) n b (fs j)) (over put_on (over put_on a one.0) two.0)
                  f (two.1.planned r.path r.memory f.alike.after (over put_on a one.0) (ok_right a one.0 two.0 ok)));
            },
          )

      fold_took : (j first n : ℕ) → FoldTook j first n
      fold_took j first zero st q m st' c e = (
        [],
        record {
          took = sym (gives_inj e);
          planned = λ p m' start a ok. record { alike = record { after = start; output = refl; early = refl }; gives = refl };
        },
      )
      fold_took j first (suc n) st q m st' c e = fold_next j first n (fold_took j (suc first) n) st q m st' (fs j first st t q m).end refl c e

      -- the chunks of a plan

      module _ (start : A) where
        abbrev pub plan : Share → Planned A
        plan c = Planned.within c.number (through doings c.first c.size start (fp c.number))

        abbrev pub EachOk : List (List V) → Type 0
        EachOk [] = Unit {0}
        EachOk (vs ∷ vss) = AllOk start vs × EachOk vss

        abbrev pub ends : List (List V) → List A
        ends [] = []
        ends (vs ∷ vss) = over put_on start vs ∷ ends vss

        pub record Threads (r : Result (List A)) (u : Result F) (vss : List (List V)) : Type 0 where
          pub done : Done w r u
          pub gives : r.end ≡ Gives (ends vss)

        pub record TookAll (js : List Share) (q : Path Instance) (n : Memory) (st st' : F) (u : Result F) : Type 0 where
          pub parts : List (List V)
          pub took : st' ≡ over take_up st (concat parts)
          pub planned : (p : Path Instance) (m : Memory) → Ready w p q m n → EachOk parts → Threads (threads (λ j. plan j s) p js m) u parts

        follow_took : (p : Path Instance) (js : List Share) (r : Result A) (s1 u : Result F) (vs : List V) (vss : List (List V)) → AlikeGives w r s1 (over put_on start vs) → s1.path.turns ≤ u.path.turns
            → Threads (threads (λ j. plan j s) p js r.memory) u vss
            → Threads (follow p (back_in p r) r.end (λ m'. threads (λ j. plan j s) p js m')) (continued s1 u) (vs ∷ vss)
        follow_took p js r s1 u vs vss f h g =
            let g1 = g.done.turns in let f1 = f.alike.after.turns in
            subst (λ z. Threads (follow p (back_in p r) z (λ m'. threads (λ j. plan j s) p js m')) (continued s1 u) (vs ∷ vss)) (sym f.gives)
            (record {
              done = record {
                turns = omega arith;
                agree = g.done.agree;
                held = g.done.held;
                input = g.done.input;
                output = ap₂ (λ z w. z ++ w) f.alike.output g.done.output;
                early = ap₂ (λ z w. z || w) f.alike.early g.done.early;
              };
              gives = ap₂ before f.gives g.gives;
            })

        abbrev pub AllTook : List Share → Type 0
        AllTook js = (st : F) (q : Path Instance) (m : Memory) (st' : F) → IsCalm (in_turn js st fs t q m) → (in_turn js st fs t q m).end ≡ Gives st' → TookAll js q m st st' (in_turn js st fs t q m)

        all_next : (c : Share) (cs : List Share) → AllTook cs → (st : F) (q : Path Instance) (m : Memory) (st' : F) (f : End F)
            → (through doings c.first c.size st (fs c.number) t q m).end ≡ f
            → IsCalm (next t (through doings c.first c.size st (fs c.number) t q m) f (λ b. in_turn cs b fs))
            → (next t (through doings c.first c.size st (fs c.number) t q m) f (λ b. in_turn cs b fs)).end ≡ Gives st'
            → TookAll (c ∷ cs) q m st st' (next t (through doings c.first c.size st (fs c.number) t q m) f (λ b. in_turn cs b fs))
        all_next c cs more st q m st' (Leaves x) eq calm e = gives-ne-leaves (sym e)
        all_next c cs more st q m st' Spent eq calm e = gives-ne-spent (sym e)
        all_next c cs more st q m st' Stopped eq calm e = gives-ne-stopped (sym e)
        all_next c cs more st q m st' (Gives st1) eq calm e =
            let s1 = through doings c.first c.size st (fs c.number) t q m in
            let u = in_turn cs st1 fs t s1.path s1.memory in
            let one = fold_took c.number c.first c.size st q m st1 (calm_first t s1 (Gives st1) (λ b. in_turn cs b fs) eq calm) eq in
            let two = more st1 s1.path s1.memory st' (calm_rest s1 u calm) e in
            let far = through_tame false t c.first c.size st (fs c.number) (tame c.number) q m in
            record {
              parts = one.0 ∷ two.parts;
              took = two.took ∙ ap (λ z. over take_up z (concat two.parts)) one.1.took ∙ sym (over_append take_up st one.0 (concat two.parts));
              planned = λ p m' ready ok.
                  let r = through doings c.first c.size start (fp c.number) s (enter c.number p) m' in
                  let f = one.1.planned (enter c.number p) m' (thread_start w p q m' m ready c.number) start ok.0 in
                  let again : Ready w p s1.path r.memory s1.memory = record {
                    inside = λ z. ready.inside (sym far.name ∙ z);
                    turns = le_trans ready.turns far.turns;
                    taken = ready.taken ∙ sym (far.taken refl);
                    globals = ready.globals ∙ sym (far.globals refl);
                    owned = ready.owned;
                    fair = λ i. fair_mix w (enter i p) q r.path s1.path (ready.fair i) f.alike.after.fair;
                    agree = f.alike.after.agree;
                    held = f.alike.after.held;
                    input = f.alike.after.input;
                  } in
                  follow_took p cs r s1 u one.0 two.parts f (turns_tame t fs tame cs st1 s1.path s1.memory).turns (two.planned p r.memory again ok.1);
            }

        pub all_took : (js : List Share) → AllTook js
        all_took [] st q m st' c e = record {
          parts = [];
          took = sym (gives_inj e);
          planned = λ p m' ready ok. record { done = record { turns = ready.turns; agree = ready.agree; held = ready.held; input = ready.input; output = refl; early = refl }; gives = refl };
        }
        all_took (c ∷ cs) st q m st' calm e = all_next c cs (all_took cs) st q m st' (through doings c.first c.size st (fs c.number) t q m).end refl calm e

-- constructs of the sequential run

calm_back : {A : Type 0} (q : Path Instance) (s : Result A) → IsCalm (back_in q s) → IsCalm s
calm_back q s c = record { early = c.early; harmless = c.harmless; spent = c.spent; stopped = c.stopped }

-- a calm construct has a value
gives_value : {A : Type 0} (e : End A) → is_left e ≡ false → (e ≡ Spent → ⊥) → (e ≡ Stopped → ⊥) → (a : A) × (e ≡ Gives a)
gives_value (Gives a) l n o = (a, refl)
gives_value (Leaves x) l n o = absurd (true≢false l)
gives_value Spent l n o = absurd (n refl)
gives_value Stopped l n o = absurd (o refl)

module _ {A : Type 0} (g : Planned A) (t : Scope Instance) (q : Path Instance) (m : Memory) (c : IsCalm (construct (Planned.within 0 g) t q m)) where
  pub calm_inside : IsCalm (g t (enter 0 q) m)
  calm_inside = record { early = or_left (g t (enter 0 q) m).early (is_left (g t (enter 0 q) m).end) c.early; harmless = c.harmless; spent = c.spent; stopped = c.stopped }

  pub value_inside : (a : A) × ((g t (enter 0 q) m).end ≡ Gives a)
  value_inside = gives_value (g t (enter 0 q) m).end (or_right (g t (enter 0 q) m).early (is_left (g t (enter 0 q) m).end) c.early) c.spent c.stopped

pub construct_tame : {A : Type 0} (b : Bool) (g : Planned A) (t : Scope Instance) (q : Path Instance) (n : Memory) → Further false (enter 0 q) (g t (enter 0 q) n).path → Further b q (construct (Planned.within 0 g) t q n).path
construct_tame b g t q n h = record { turns = h.turns; name = refl; taken = λ e. refl; globals = λ e. refl }
