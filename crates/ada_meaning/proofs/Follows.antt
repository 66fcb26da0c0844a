-- Where the sequential run is calm, the planned run is the same: operations outside constructs.
use Rattle.std.proofs.Common.{◌≡◌, ℕ, zero, suc, ◌+◌, ◌<◌, ◌≤◌, ℤ, nat_lt, List, [], ◌∷◌, ◌++◌, ◌⊎◌, inl, inr, Option, Some, None, Bool, true, false, cond, ◌||◌, refl, sym, subst, ap, ap₂, ◌∙◌, true≢false, arith, ltb, ltb-true, ltb-false, le_refl, le_trans, length}
use Rattle.ada_base.specs.declared.reason.Reason.TheVariants as reason
use Rattle.typed_tree.specs.declared.scalars.Scalar.{Scalar}
use Rattle.ada_base.specs.Input.{Held}
use Rattle.behaviours.specs.Doings.{through}
use Rattle.behaviours.specs.Paths.{Leave, Raises, Entity, VariableOf, Region, Everywhere, Here, Instance, End, Gives, Leaves, Spent, Stopped, Path, Scope, Extent, first_of, within_extent, declares, apart_of, entity_eq, one_turn, one_taken, one_elaboration}
use Rattle.behaviours.specs.Memory.{Memory, put, put_all, hold}
use Rattle.ada_meaning.specs.Operations.{CheckKind}
use Rattle.ada_meaning.specs.Planned
use Rattle.ada_meaning.specs.Planned.{Result, Planned, Noted, plain, continued, next, handled, here, doings, ◌>>=◌}
use Rattle.ada_meaning.specs.Sequential.{AllHarmless, IsCalm}
use Rattle.ada_meaning.proofs.Agrees.{gives-ne-spent, gives-ne-stopped, leaves-ne-spent, leaves-ne-stopped, or_left, or_right}
use Rattle.ada_meaning.proofs.Ties.{Pair, not_left, not_right, put_all_new, put_all_other, not_below, Ties, TiedAt, tied_outer, Fair, Agree, goes_one, fair_goes, fair_less, with_new, fair_new, put_tied, put_all_tied}

-- both paths are the outermost one, or both are in threads
abbrev pub Level : Path Instance → Path Instance → Type 0
Level p q = ((p.name ≡ []) × (q.name ≡ []) × (p.elaborations ≡ q.elaborations)) ⊎ ((p.name ≡ [] → ⊥) × (q.name ≡ [] → ⊥))

-- they are all the outermost path's
abbrev pub EachOuter : List Instance → Type 0
EachOuter [] = Unit {0}
EachOuter (x ∷ xs) = (x.thread ≡ []) × EachOuter xs

outer_also : (xs : List Instance) (x : Instance) → EachOuter xs → x.thread ≡ [] → EachOuter (xs ++ (x ∷ []))
outer_also [] x h e = (e, tt)
outer_also (y ∷ xs) x h e = (h.0, outer_also xs x h.1 e)

-- where the two runs may begin; where blocking is allowed the paths are the outermost
pub record Start (b : Bool) (w : Ties) (p q : Path Instance) (m n : Memory) : Type 0 where
  pub level : Level p q
  pub outer : b ≡ true → p.name ≡ []
  pub turns : p.turns ≤ q.turns
  pub taken : p.taken ≡ q.taken
  pub globals : p.globals ≡ q.globals
  pub owned : EachOuter p.globals
  pub fair : Fair w p q
  pub agree : Agree w m n
  pub held : m.held ≡ n.held
  pub input : m.input ≡ n.input

-- where a path of the sequential run may have come to
pub record Further (b : Bool) (q q' : Path Instance) : Type 0 where
  pub turns : q.turns ≤ q'.turns
  pub name : q'.name ≡ q.name
  pub taken : b ≡ false → q'.taken ≡ q.taken
  pub globals : b ≡ false → q'.globals ≡ q.globals

-- two results that are the same but for turns, names and ends
pub record Alike {A B : Type 0} (b : Bool) (w : Ties) (r : Result A) (s : Result B) : Type 0 where
  pub after : Start b w r.path s.path r.memory s.memory
  pub output : r.output ≡ s.output
  pub early : r.early ≡ false

pub record Follows {A : Type 0} (b : Bool) (w : Ties) (r s : Result A) : Type 0 where
  pub alike : Alike b w r s
  pub end : r.end ≡ s.end

abbrev pub TiedExtent : Ties → Option (Extent Instance) → Option (Extent Instance) → Type 0
TiedExtent w None None = Unit {0}
TiedExtent w None (Some y) = ⊥
TiedExtent w (Some x) None = ⊥
TiedExtent w (Some x) (Some y) = (x.cells ≡ y.cells) × ((i : ℕ) → i < x.cells → TiedAt w x.instance y.instance i)

-- the same objects are visible
pub record InScope (w : Ties) (s t : Scope Instance) : Type 0 where
  pub everywhere : (x : Entity) → TiedExtent w (s.everywhere x) (t.everywhere x)
  pub here : (x : Entity) → TiedExtent w (s.here x) (t.here x)

pub record Leads {A : Type 0} (b : Bool) (w : Ties) (s t : Scope Instance) (g h : Planned A) : Type 0 where
  pub lead : (p q : Path Instance) (m n : Memory) → Start b w p q m n → IsCalm (h t q n) → Follows b w (g s p m) (h t q n)
  pub tame : (q : Path Instance) (n : Memory) → Further b q (h t q n).path

-- in whatever scopes in which the same is visible
abbrev pub Follow : {A : Type 0} → Bool → Planned A → Planned A → Type 0
Follow b g h = (w : Ties) (s t : Scope Instance) → InScope w s t → Leads b w s t g h

pub further_refl : (b : Bool) (q : Path Instance) → Further b q q
further_refl b q = record { turns = le_refl q.turns; name = refl; taken = λ e. refl; globals = λ e. refl }

pub further_trans : (b : Bool) (p q r : Path Instance) → Further b p q → Further b q r → Further b p r
further_trans b p q r f g = record { turns = le_trans f.turns g.turns; name = g.name ∙ f.name; taken = λ e. g.taken e ∙ f.taken e; globals = λ e. g.globals e ∙ f.globals e }

-- calm parts

pub harmless_left : (xs ys : List Noted) → AllHarmless (xs ++ ys) → AllHarmless xs
harmless_left [] ys g = tt
harmless_left (x ∷ xs) ys g = (g.0, g.1, harmless_left xs ys g.2)

pub harmless_right : (xs ys : List Noted) → AllHarmless (xs ++ ys) → AllHarmless ys
harmless_right [] ys g = g
harmless_right (x ∷ xs) ys g = harmless_right xs ys g.2

pub calm_rest : {A B : Type 0} (s : Result A) (t : Result B) → IsCalm (continued s t) → IsCalm t
calm_rest s t c = record { early = or_right s.early t.early c.early; harmless = harmless_right s.noted t.noted c.harmless; spent = c.spent; stopped = c.stopped }

pub calm_before : {A B : Type 0} (s : Result A) (t : Result B) → (s.end ≡ Spent → ⊥) → (s.end ≡ Stopped → ⊥) → IsCalm (continued s t) → IsCalm s
calm_before s t n o c = record { early = or_left s.early t.early c.early; harmless = harmless_left s.noted t.noted c.harmless; spent = n; stopped = o }

pub calm_first : {A B : Type 0} (z : Scope Instance) (s : Result A) (e : End A) (l : A → Planned B) → s.end ≡ e → IsCalm (next z s e l) → IsCalm s
calm_first z s (Gives a) l eq c = calm_before s (l a z s.path s.memory) (λ h. gives-ne-spent (sym eq ∙ h)) (λ h. gives-ne-stopped (sym eq ∙ h)) c
calm_first z s (Leaves x) l eq c = record { early = c.early; harmless = c.harmless; spent = λ h. leaves-ne-spent (sym eq ∙ h); stopped = λ h. leaves-ne-stopped (sym eq ∙ h) }
calm_first z s Spent l eq c = absurd (c.spent refl)
calm_first z s Stopped l eq c = absurd (c.stopped refl)

-- what is done at once

pub plain_follows : {A : Type 0} (b : Bool) (w : Ties) (p q : Path Instance) (m n : Memory) (e : End A) → Start b w p q m n → Follows b w (plain p m e) (plain q n e)
plain_follows b w p q m n e st = record { alike = record { after = st; output = refl; early = refl }; end = refl }

pub ret_follows : {A : Type 0} (b : Bool) (a : A) → Follow b (Planned.ret a) (Planned.ret a)
ret_follows b a w s t z = record { lead = λ p q m n st c. plain_follows b w p q m n (Gives a) st; tame = λ q n. further_refl b q }

pub leaves_follows : {A : Type 0} (b : Bool) (x : Leave) → Follow {A = A} b (Planned.leaves x) (Planned.leaves x)
leaves_follows b x w s t z = record { lead = λ p q m n st c. plain_follows b w p q m n (Leaves x) st; tame = λ q n. further_refl b q }

pub spent_follows : {A : Type 0} (b : Bool) → Follow {A = A} b Planned.spent Planned.spent
spent_follows b w s t z = record { lead = λ p q m n st c. plain_follows b w p q m n Spent st; tame = λ q n. further_refl b q }

pub look_follows : (b : Bool) → Follow b Planned.look Planned.look
look_follows b w s t z = record { lead = λ p q m n st c. plain_follows b w p q m n (Gives tt) st; tame = λ q n. further_refl b q }

pub checks_follow : (b : Bool) (kind : CheckKind) (at : ℕ) (holds : Bool) → Follow b (Planned.checks kind at holds) (Planned.checks kind at holds)
checks_follow b kind at true = ret_follows b tt
checks_follow b kind at false = leaves_follows b (Raises reason.ConstraintError)

pub puts_follows : (b : Bool) (piece : List ℕ) → Follow b (Planned.puts piece) (Planned.puts piece)
puts_follows b piece w s t z = record { lead = λ p q m n st c. record { alike = record { after = st; output = refl; early = refl }; end = refl }; tame = λ q n. further_refl b q }

pub recalls_follows : (b : Bool) → Follow b Planned.recalls Planned.recalls
recalls_follows b w s t z = record { lead = λ p q m n st c. record { alike = record { after = st; output = refl; early = refl }; end = ap Gives st.held }; tame = λ q n. further_refl b q }

pub keeps_follows : (b : Bool) (h : Held) → Follow b (Planned.keeps h) (Planned.keeps h)
keeps_follows b h w s t z = record {
  lead = λ p q m n st c. plain_follows b w p q (hold m h) (hold n h) (Gives tt)
      (record { level = st.level; outer = st.outer; turns = st.turns; taken = st.taken; globals = st.globals; owned = st.owned; fair = st.fair; agree = st.agree; held = refl; input = st.input });
  tame = λ q n. further_refl b q;
}

-- input is asked for by the outermost path alone
pub takes_follows : Follow true Planned.takes Planned.takes
takes_follows w s t z = record {
  lead = λ p q m n st c. record {
    alike = record { after = record { level = st.level; outer = st.outer; turns = st.turns; taken = ap suc st.taken; globals = st.globals; owned = st.owned; fair = fair_goes w p q (one_taken p) (one_taken q) (λ x f. f) (λ x f. f) st.fair; agree = st.agree; held = st.held; input = st.input }; output = refl; early = refl };
    end = ap Gives (ap₂ (λ (f : ℕ → Option ℕ) (k : ℕ). f k) st.input st.taken);
  };
  tame = λ q n. record { turns = le_refl q.turns; name = refl; taken = λ e. absurd (true≢false e); globals = λ e. refl };
}

pub turn_follows : (b : Bool) (limit : ℕ) → Follow b (Planned.turn limit) (Planned.turn limit)
turn_follows b limit w s t z = record {
  lead = λ p q m n st c. go p q m n st (ltb q.turns limit) (ltb p.turns limit) refl refl c;
  tame = λ q n. far q n (ltb q.turns limit);
}
  where
    far : (q : Path Instance) (n : Memory) (c : Bool) → Further b q (cond c (plain {A = Unit {0}} (one_turn q) n (Gives tt)) (plain {A = Unit {0}} q n Spent)).path
    far q n true = record { turns = omega arith; name = refl; taken = λ e. refl; globals = λ e. refl }
    far q n false = further_refl b q

    go : (p q : Path Instance) (m n : Memory) → Start b w p q m n → (c d : Bool) → ltb q.turns limit ≡ c → ltb p.turns limit ≡ d → IsCalm (cond c (plain {A = Unit {0}} (one_turn q) n (Gives tt)) (plain {A = Unit {0}} q n Spent))
        → Follows b w (cond d (plain {A = Unit {0}} (one_turn p) m (Gives tt)) (plain {A = Unit {0}} p m Spent)) (cond c (plain {A = Unit {0}} (one_turn q) n (Gives tt)) (plain {A = Unit {0}} q n Spent))
    go p q m n st true true e f c' = plain_follows b w (one_turn p) (one_turn q) m n (Gives tt)
        (record { level = st.level; outer = st.outer; turns = let h = st.turns in omega arith; taken = st.taken; globals = st.globals; owned = st.owned; fair = fair_goes w p q (one_turn p) (one_turn q) (λ x f. f) (λ x f. f) st.fair; agree = st.agree; held = st.held; input = st.input })
    go p q m n st true false e f c' = let h = ltb-true q.turns limit e in let k = ltb-false p.turns limit f in let le = st.turns in absurd (omega arith)
    go p q m n st false d e f c' = absurd (c'.spent refl)

-- cells

pub where_follows : {A : Type 0} (b : Bool) (w : Ties) (s t : Scope Instance) (i : ℕ) (f g : Instance → Planned A) → ((x y : Instance) → TiedAt w x y i → Leads b w s t (f x) (g y))
    → (x y : Option (Extent Instance)) → TiedExtent w x y → Leads b w s t (Planned.where_found f (within_extent i x)) (Planned.where_found g (within_extent i y))
where_follows {A} b w s t i f g h None None e = leads_raise
  where
    leads_raise : Leads {A = A} b w s t (Planned.leaves (Raises reason.ProgramError)) (Planned.leaves (Raises reason.ProgramError))
    leads_raise = record { lead = λ p q m n st c. plain_follows b w p q m n (Leaves (Raises reason.ProgramError)) st; tame = λ q n. further_refl b q }
where_follows b w s t i f g h None (Some y) e = absurd e
where_follows b w s t i f g h (Some x) None e = absurd e
where_follows b w s t i f g h (Some x) (Some y) e = subst (λ z. Leads b w s t (Planned.where_found f (cond (nat_lt i x.cells) (Some x.instance) None)) (Planned.where_found g (cond (nat_lt i z) (Some y.instance) None))) e.0 (go (nat_lt i x.cells) refl)
  where
    go : (c : Bool) → nat_lt i x.cells ≡ c → Leads b w s t (Planned.where_found f (cond c (Some x.instance) None)) (Planned.where_found g (cond c (Some y.instance) None))
    go true k = h x.instance y.instance (e.1 i (ltb-true i x.cells k))
    go false k = record { lead = λ p q m n st c. plain_follows b w p q m n (Leaves (Raises reason.ProgramError)) st; tame = λ q n. further_refl b q }

extent_find : (w : Ties) (s t : Scope Instance) (x : Entity) → InScope w s t → TiedExtent w (first_of (s.here x) (s.everywhere x)) (first_of (t.here x) (t.everywhere x))
extent_find w s t x z = go (s.here x) (t.here x) (s.everywhere x) (t.everywhere x) (z.here x) (z.everywhere x)
  where
    go : (a b c d : Option (Extent Instance)) → TiedExtent w a b → TiedExtent w c d → TiedExtent w (first_of a c) (first_of b d)
    go None None c d e f = f
    go None (Some y) c d e f = absurd e
    go (Some x) None c d e f = absurd e
    go (Some x) (Some y) c d e f = e

pub reads_follows : (b : Bool) (x : Entity) (i : ℕ) (cell : Scalar) → Follow b (Planned.reads x i cell) (Planned.reads x i cell)
reads_follows b x i cell w s t z =
    let h = where_follows b w s t i (λ l u p m. plain p m (Gives (m.cells l i))) (λ l u p m. plain p m (Gives (m.cells l i)))
    (λ l l' tied. record { lead = λ p q m n st c. record { alike = record { after = st; output = refl; early = refl }; end = ap Gives (st.agree l l' i tied) }; tame = λ q n. further_refl b q })
    (first_of (s.here x) (s.everywhere x)) (first_of (t.here x) (t.everywhere x)) (extent_find w s t x z) in
    record { lead = h.lead; tame = h.tame }

written : (b : Bool) (w : Ties) (p q : Path Instance) (m n : Memory) (l l' : Instance) (i : ℕ) (v : ℤ) → TiedAt w l l' i → Start b w p q m n → Start b w p q (put m l i v) (put n l' i v)
written b w p q m n l l' i v tied st = record {
  level = st.level;
  outer = st.outer;
  turns = st.turns;
  taken = st.taken;
  globals = st.globals;
  owned = st.owned;
  fair = st.fair;
  agree = put_tied w p q m n v l l' i st.fair tied st.agree;
  held = st.held;
  input = st.input;
}

pub writes_follows : (b : Bool) (x i : ℕ) (v : ℤ) → Follow b (Planned.writes x i v) (Planned.writes x i v)
writes_follows b x i v w s t z =
    let h = where_follows b w s t i (λ l u p m. plain p (put m l i v) (Gives tt)) (λ l u p m. plain p (put m l i v) (Gives tt))
    (λ l l' tied. record { lead = λ p q m n st c. plain_follows b w p q (put m l i v) (put n l' i v) (Gives tt) (written b w p q m n l l' i v tied st); tame = λ q n. further_refl b q })
    (first_of (s.here (VariableOf x)) (s.everywhere (VariableOf x))) (first_of (t.here (VariableOf x)) (t.everywhere (VariableOf x))) (extent_find w s t (VariableOf x) z) in
    record { lead = h.lead; tame = h.tame }

pub apart_follows : {A : Type 0} (b : Bool) (g h : Planned A) → Follow b g h → Follow b (Planned.apart g) (Planned.apart h)
apart_follows b g h f w s t z = let k = f w (apart_of s) (apart_of t) (record { everywhere = z.everywhere; here = λ x. tt }) in record { lead = k.lead; tame = k.tame }

-- one thing and then another

pub alike_continued : {A B C D : Type 0} (b : Bool) (w : Ties) (r : Result A) (s : Result B) (r' : Result C) (s' : Result D) → Alike b w r s → Alike b w r' s' → Alike b w (continued r r') (continued s s')
alike_continued b w r s r' s' f g = record { after = g.after; output = ap₂ (λ z w. z ++ w) f.output g.output; early = ap₂ (λ z w. z || w) f.early g.early }

continued_follows : {A B : Type 0} (b : Bool) (w : Ties) (r s : Result A) (r' s' : Result B) → Alike b w r s → Follows b w r' s' → Follows b w (continued r r') (continued s s')
continued_follows b w r s r' s' f g = record { alike = alike_continued b w r s r' s' f g.alike; end = g.end }

next_follows : {A B : Type 0} (b : Bool) (w : Ties) (x y : Scope Instance) (r s : Result A) (e : End A) (k l : A → Planned B) → Follows b w r s → ((a : A) → Leads b w x y (k a) (l a)) → IsCalm (next y s e l) → Follows b w (next x r e k) (next y s e l)
next_follows b w x y r s (Gives a) k l f lead c =
    continued_follows b w r s (k a x r.path r.memory) (l a y s.path s.memory) f.alike ((lead a).lead r.path s.path r.memory s.memory f.alike.after (calm_rest s (l a y s.path s.memory) c))
next_follows b w x y r s (Leaves z) k l f lead c = record { alike = record { after = f.alike.after; output = f.alike.output; early = f.alike.early }; end = refl }
next_follows b w x y r s Spent k l f lead c = absurd (c.spent refl)
next_follows b w x y r s Stopped k l f lead c = absurd (c.stopped refl)

pub next_further : {A B : Type 0} (b : Bool) (y : Scope Instance) (q : Path Instance) (s : Result A) (e : End A) (l : A → Planned B) → Further b q s.path → ((a : A) → Further b s.path (l a y s.path s.memory).path) → Further b q (next y s e l).path
next_further b y q s (Gives a) l f h = further_trans b q s.path (l a y s.path s.memory).path f (h a)
next_further b y q s (Leaves x) l f h = f
next_further b y q s Spent l f h = f
next_further b y q s Stopped l f h = f

pub bind_leads : {A B : Type 0} (b : Bool) (w : Ties) (s t : Scope Instance) (g h : Planned A) (k l : A → Planned B) → Leads b w s t g h → ((a : A) → Leads b w s t (k a) (l a)) → Leads b w s t (◌>>=◌ g k) (◌>>=◌ h l)
bind_leads b w s t g h k l first rest = record {
  lead = λ p q m n st c.
      let f = first.lead p q m n st (calm_first t (h t q n) (h t q n).end l refl c) in
      subst (λ z. Follows b w (next s (g s p m) z k) (next t (h t q n) (h t q n).end l)) (sym f.end) (next_follows b w s t (g s p m) (h t q n) (h t q n).end k l f rest c);
  tame = λ q n. next_further b t q (h t q n) (h t q n).end l (first.tame q n) (λ a. (rest a).tame (h t q n).path (h t q n).memory);
}

pub bind_follows : {A B : Type 0} (b : Bool) (g h : Planned A) (k l : A → Planned B) → Follow b g h → ((a : A) → Follow b (k a) (l a)) → Follow b (◌>>=◌ g k) (◌>>=◌ h l)
bind_follows b g h k l first rest w s t z = bind_leads b w s t g h k l (first w s t z) (λ a. rest a w s t z)

-- what is left in some way

handled_further : {A : Type 0} (b : Bool) (y : Scope Instance) (q : Path Instance) (s : Result A) (e : End A) (takes : Leave → Bool) (l : Leave → Planned A) → Further b q s.path → ((x : Leave) → Further b s.path (l x y s.path s.memory).path) → Further b q (handled y s e takes l).path
handled_further b y q s (Gives a) takes l f h = f
handled_further b y q s (Leaves x) takes l f h = go (takes x)
  where
    go : (c : Bool) → Further b q (cond c (continued s (l x y s.path s.memory)) s).path
    go true = further_trans b q s.path (l x y s.path s.memory).path f (h x)
    go false = f
handled_further b y q s Spent takes l f h = f
handled_further b y q s Stopped takes l f h = f

handled_follows : {A : Type 0} (b : Bool) (w : Ties) (x y : Scope Instance) (r s : Result A) (e : End A) (takes : Leave → Bool) (k l : Leave → Planned A) → Follows b w r s → ((z : Leave) → Leads b w x y (k z) (l z)) → IsCalm (handled y s e takes l) → Follows b w (handled x r e takes k) (handled y s e takes l)
handled_follows b w x y r s (Gives a) takes k l f lead c = f
handled_follows b w x y r s (Leaves z) takes k l f lead c = go (takes z) c
  where
    go : (d : Bool) → IsCalm (cond d (continued s (l z y s.path s.memory)) s) → Follows b w (cond d (continued r (k z x r.path r.memory)) r) (cond d (continued s (l z y s.path s.memory)) s)
    go true c' = continued_follows b w r s (k z x r.path r.memory) (l z y s.path s.memory) f.alike ((lead z).lead r.path s.path r.memory s.memory f.alike.after (calm_rest s (l z y s.path s.memory) c'))
    go false c' = f
handled_follows b w x y r s Spent takes k l f lead c = f
handled_follows b w x y r s Stopped takes k l f lead c = f

calm_handled : {A : Type 0} (y : Scope Instance) (s : Result A) (e : End A) (takes : Leave → Bool) (l : Leave → Planned A) → s.end ≡ e → IsCalm (handled y s e takes l) → IsCalm s
calm_handled y s (Gives a) takes l eq c = c
calm_handled y s (Leaves x) takes l eq c = go (takes x) c
  where
    go : (d : Bool) → IsCalm (cond d (continued s (l x y s.path s.memory)) s) → IsCalm s
    go true c' = calm_before s (l x y s.path s.memory) (λ h. leaves-ne-spent (sym eq ∙ h)) (λ h. leaves-ne-stopped (sym eq ∙ h)) c'
    go false c' = c'
calm_handled y s Spent takes l eq c = c
calm_handled y s Stopped takes l eq c = c

pub handles_follows : {A : Type 0} (b : Bool) (g h : Planned A) (takes : Leave → Bool) (k l : Leave → Planned A) → Follow b g h → ((x : Leave) → Follow b (k x) (l x)) → Follow b (Planned.handles g takes k) (Planned.handles h takes l)
handles_follows b g h takes k l first rest w s t z = record {
  lead = λ p q m n st c.
      let f = (first w s t z).lead p q m n st (calm_handled t (h t q n) (h t q n).end takes l refl c) in
      subst (λ e. Follows b w (handled s (g s p m) e takes k) (handled t (h t q n) (h t q n).end takes l)) (sym f.end) (handled_follows b w s t (g s p m) (h t q n) (h t q n).end takes k l f (λ x. rest x w s t z) c);
  tame = λ q n. handled_further b t q (h t q n) (h t q n).end takes l ((first w s t z).tame q n) (λ x. (rest x w s t z).tame (h t q n).path (h t q n).memory);
}

-- elaborations

tied_more : (w w' : Ties) (a b : Option (Extent Instance)) → ((x y : Instance) (i : ℕ) → TiedAt w x y i → TiedAt w' x y i) → TiedExtent w a b → TiedExtent w' a b
tied_more w w' None None h e = tt
tied_more w w' None (Some y) h e = e
tied_more w w' (Some x) None h e = e
tied_more w w' (Some x) (Some y) h e = (e.0, λ i lt. h x.instance y.instance i (e.1 i lt))

scope_declares : (w w' : Ties) (s t : Scope Instance) (region : Region) (x : Entity) (l l' : Instance) (n : ℕ) → ((x y : Instance) (i : ℕ) → TiedAt w x y i → TiedAt w' x y i) → ((i : ℕ) → i < n → TiedAt w' l l' i) → InScope w s t
    → InScope w' (declares region x l n s) (declares region x l' n t)
scope_declares w w' s t Everywhere x l l' n more new z = record { everywhere = λ y. go y (entity_eq x y); here = λ y. tied_more w w' (s.here y) (t.here y) more (z.here y) }
  where
    go : (y : Entity) (c : Bool) → TiedExtent w' (cond c (Some (record { instance = l; cells = n })) (s.everywhere y)) (cond c (Some (record { instance = l'; cells = n })) (t.everywhere y))
    go y true = (refl, new)
    go y false = tied_more w w' (s.everywhere y) (t.everywhere y) more (z.everywhere y)
scope_declares w w' s t Here x l l' n more new z = record { everywhere = λ y. tied_more w w' (s.everywhere y) (t.everywhere y) more (z.everywhere y); here = λ y. go y (entity_eq x y) }
  where
    go : (y : Entity) (c : Bool) → TiedExtent w' (cond c (Some (record { instance = l; cells = n })) (s.here y)) (cond c (Some (record { instance = l'; cells = n })) (t.here y))
    go y true = (refl, new)
    go y false = tied_more w w' (s.here y) (t.here y) more (z.here y)

scope_new : (w : Ties) (s t : Scope Instance) (region : Region) (x : Entity) (l l' : Instance) (n : ℕ) → InScope w s t → InScope (with_new w l l' n) (declares region x l n s) (declares region x l' n t)
scope_new w s t region x l l' n z = scope_declares w (with_new w l l' n) s t region x l l' n (λ a b i k. inr k) (λ i lt. inl (refl, refl, lt)) z

put_all_held : (m : Memory) (x : Instance) (i : ℕ) (vs : List ℤ) → (put_all m x i vs).held ≡ m.held
put_all_held m x i [] = refl
put_all_held m x i (v ∷ vs) = put_all_held (put m x i v) x (suc i) vs

put_all_input : (m : Memory) (x : Instance) (i : ℕ) (vs : List ℤ) → (put_all m x i vs).input ≡ m.input
put_all_input m x i [] = refl
put_all_input m x i (v ∷ vs) = put_all_input (put m x i v) x (suc i) vs

further_one : (b : Bool) (region : Region) (l : Instance) (q : Path Instance) → (region ≡ Everywhere → b ≡ true) → Further b q (one_elaboration region l q)
further_one b Everywhere l q u = record { turns = le_refl q.turns; name = refl; taken = λ e. refl; globals = λ e. absurd (true≢false (sym (u refl) ∙ e)) }
further_one b Here l q u = record { turns = le_refl q.turns; name = refl; taken = λ e. refl; globals = λ e. refl }

start_less : (b : Bool) (c : Pair) (w : Ties) (p q : Path Instance) (m n : Memory) → Start b (c ∷ w) p q m n → Start b w p q m n
start_less b c w p q m n st = record {
  level = st.level;
  outer = st.outer;
  turns = st.turns;
  taken = st.taken;
  globals = st.globals;
  owned = st.owned;
  fair = fair_less c w p q st.fair;
  agree = λ x y i k. st.agree x y i (inr k);
  held = st.held;
  input = st.input;
}

module _ (b : Bool) (w : Ties) (p q : Path Instance) (m n : Memory) (x : Entity) (vs : List ℤ) (st : Start b w p q m n) where
  -- by the outermost path
  module _ (pn : p.name ≡ []) (qn : q.name ≡ []) (same : p.elaborations ≡ q.elaborations) where
    same_here : here x p ≡ here x q
    same_here = λ i. record { thread = (pn ∙ sym qn) i; number = same i; object = x }

    outer_tied : (i : ℕ) → TiedAt w (here x p) (here x q) i
    outer_tied i = tied_outer w (here x p) (here x q) i same_here pn

    outer_start : (region : Region) → Start b w (one_elaboration region (here x p) p) (one_elaboration region (here x q) q) (put_all m (here x p) 0 vs) (put_all n (here x q) 0 vs)
    outer_start Everywhere = record {
      level = inl (pn, qn, ap suc same);
      outer = st.outer;
      turns = st.turns;
      taken = st.taken;
      globals = ap₂ (λ (xs : List Instance) (l : Instance). xs ++ (l ∷ [])) st.globals same_here;
      owned = outer_also p.globals (here x p) st.owned pn;
      fair = fair_goes w p q (one_elaboration Everywhere (here x p) p) (one_elaboration Everywhere (here x q) q) (goes_one Everywhere (here x p) p) (goes_one Everywhere (here x q) q) st.fair;
      agree = put_all_tied w p q m n vs (here x p) (here x q) 0 st.fair outer_tied st.agree;
      held = put_all_held m (here x p) 0 vs ∙ st.held ∙ sym (put_all_held n (here x q) 0 vs);
      input = put_all_input m (here x p) 0 vs ∙ st.input ∙ sym (put_all_input n (here x q) 0 vs);
    }
    outer_start Here = record {
      level = inl (pn, qn, ap suc same);
      outer = st.outer;
      turns = st.turns;
      taken = st.taken;
      globals = st.globals;
      owned = st.owned;
      fair = fair_goes w p q (one_elaboration Here (here x p) p) (one_elaboration Here (here x q) q) (goes_one Here (here x p) p) (goes_one Here (here x q) q) st.fair;
      agree = put_all_tied w p q m n vs (here x p) (here x q) 0 st.fair outer_tied st.agree;
      held = put_all_held m (here x p) 0 vs ∙ st.held ∙ sym (put_all_held n (here x q) 0 vs);
      input = put_all_input m (here x p) 0 vs ∙ st.input ∙ sym (put_all_input n (here x q) 0 vs);
    }

  -- in threads
  module _ (pin : p.name ≡ [] → ⊥) (qin : q.name ≡ [] → ⊥) where
    new_agree : Agree (with_new w (here x p) (here x q) (length vs)) (put_all m (here x p) 0 vs) (put_all n (here x q) 0 vs)
    new_agree a a' i (inl (e, e', lt)) = subst (λ z. (put_all m (here x p) 0 vs).cells z i ≡ (put_all n (here x q) 0 vs).cells a' i) e
        (subst (λ z. (put_all m (here x p) 0 vs).cells (here x p) i ≡ (put_all n (here x q) 0 vs).cells z i) e'
        (put_all_new vs m n (here x p) (here x q) 0 i (let h : i < 0 + length vs = omega arith in h) (λ h. absurd (not_below i h))))
    new_agree a a' i (inr k) =
        put_all_other vs m (here x p) a 0 i (not_left x (length vs) w p q st.fair pin qin a a' i k)
        ∙ st.agree a a' i k
        ∙ sym (put_all_other vs n (here x q) a' 0 i (not_right x (length vs) w p q st.fair pin qin a a' i k))

    new_start : Start b (with_new w (here x p) (here x q) (length vs)) (one_elaboration Here (here x p) p) (one_elaboration Here (here x q) q) (put_all m (here x p) 0 vs) (put_all n (here x q) 0 vs)
    new_start = record {
      level = inr (pin, qin);
      outer = st.outer;
      turns = st.turns;
      taken = st.taken;
      globals = st.globals;
      owned = st.owned;
      fair = fair_new x (length vs) w p q st.fair pin qin Here;
      agree = new_agree;
      held = put_all_held m (here x p) 0 vs ∙ st.held ∙ sym (put_all_held n (here x q) 0 vs);
      input = put_all_input m (here x p) 0 vs ∙ st.input ∙ sym (put_all_input n (here x q) 0 vs);
    }

follows_less : {A : Type 0} (b : Bool) (c : Pair) (w : Ties) (r s : Result A) → Follows b (c ∷ w) r s → Follows b w r s
follows_less b c w r s f = record { alike = record { after = start_less b c w r.path s.path r.memory s.memory f.alike.after; output = f.alike.output; early = f.alike.early }; end = f.end }

pub elaborates_follow : {A : Type 0} (b : Bool) (region : Region) → (region ≡ Everywhere → b ≡ true) → (x : Entity) (vs : List ℤ) (g h : Planned A) → Follow b g h → Follow b (Planned.elaborates region x vs g) (Planned.elaborates region x vs h)
elaborates_follow {A} b region u x vs g h f w s t z = record {
  lead = λ p q m n st c. go region u p q m n st st.level c;
  tame = λ q n.
      let l = here x q in
      let k = (f (with_new w l l (length vs)) (declares region x l (length vs) s) (declares region x l (length vs) t) (scope_new w s t region x l l (length vs) z)).tame (one_elaboration region l q) (put_all n l 0 vs) in
      further_trans b q (one_elaboration region l q) (h (declares region x l (length vs) t) (one_elaboration region l q) (put_all n l 0 vs)).path (further_one b region l q u) k;
}
  where
    outermost : (region : Region) (p q : Path Instance) (m n : Memory) → Start b w p q m n → (pn : p.name ≡ []) (qn : q.name ≡ []) (same : p.elaborations ≡ q.elaborations) → IsCalm (Planned.elaborates region x vs h t q n)
        → Follows b w (Planned.elaborates region x vs g s p m) (Planned.elaborates region x vs h t q n)
    outermost region p q m n st pn qn same c =
        (f w (declares region x (here x p) (length vs) s) (declares region x (here x q) (length vs) t)
        (scope_declares w w s t region x (here x p) (here x q) (length vs) (λ a b i k. k) (λ i lt. outer_tied b w p q m n x vs st pn qn same i) z)).lead
        (one_elaboration region (here x p) p) (one_elaboration region (here x q) q) (put_all m (here x p) 0 vs) (put_all n (here x q) 0 vs) (outer_start b w p q m n x vs st pn qn same region) c

    go : (region : Region) → (region ≡ Everywhere → b ≡ true) → (p q : Path Instance) (m n : Memory) → Start b w p q m n → Level p q → IsCalm (Planned.elaborates region x vs h t q n)
        → Follows b w (Planned.elaborates region x vs g s p m) (Planned.elaborates region x vs h t q n)
    go region u p q m n st (inl (pn, qn, same)) c = outermost region p q m n st pn qn same c
    go Everywhere u p q m n st (inr (pin, qin)) c = absurd (pin (st.outer (u refl)))
    go Here u p q m n st (inr (pin, qin)) c =
        follows_less b (record { left = here x p; right = here x q; cells = length vs }) w (Planned.elaborates Here x vs g s p m) (Planned.elaborates Here x vs h t q n)
        ((f (with_new w (here x p) (here x q) (length vs)) (declares Here x (here x p) (length vs) s) (declares Here x (here x q) (length vs) t) (scope_new w s t Here x (here x p) (here x q) (length vs) z)).lead
        (one_elaboration Here (here x p) p) (one_elaboration Here (here x q) q) (put_all m (here x p) 0 vs) (put_all n (here x q) 0 vs) (new_start b w p q m n x vs st pin qin) c)

-- many

pub through_tame : {A : Type 0} (b : Bool) (t : Scope Instance) (first size : ℕ) (a : A) (f : ℕ → A → Planned A) → ((i : ℕ) (a : A) (q : Path Instance) (n : Memory) → Further b q (f i a t q n).path) → (q : Path Instance) (n : Memory) → Further b q (through doings first size a f t q n).path
through_tame b t first zero a f h q n = further_refl b q
through_tame b t first (suc size) a f h q n = next_further b t q (f first a t q n) (f first a t q n).end (λ c. through doings (suc first) size c f) (h first a q n) (λ c. through_tame b t (suc first) size c f h (f first a t q n).path (f first a t q n).memory)
