-- Code whose heights fit: as it is put together, whatever its place; and what that tells of the list where it stands.
use Rattle.std.proofs.Common.{◌≡◌, ℕ, zero, suc, ◌+◌, ◌-◌, ◌<◌, ◌≤◌, List, [], ◌∷◌, ◌++◌, length, slice_get, Option, Some, None, Bool, true, false, cond, refl, sym, subst, arith, length-append, ◌⊎◌, ⊎_elim}
use Rattle.std.proofs.lemmas.Option.{none-some}
use Rattle.ada_meaning.proofs.Cells.{some_same}
use Rattle.stack_code.specs.declared.code.Around.{Around as Body}
use Rattle.stack_code.specs.declared.code.Around.TheVariants.{Site}
use Rattle.stack_code.specs.declared.code.Code.{Code}
use Rattle.stack_code.specs.declared.code.SiteKind.{SiteKind}
use Rattle.stack_code.specs.declared.instr.Instr.{Instr}
use Rattle.stack_code.specs.declared.instr.Instr.TheVariants.{Jump, JFalse, Fork, Words}
use Rattle.stack_code.specs.declared.flow.Flow.{Flow}
use Rattle.stack_code.specs.declared.flow.Flow.TheVariants.{On, To, Branch, Back, Round, Ends}
use Rattle.stack_code.specs.Operands.{takes, pushes, ends_of, nest_after, flow_of}
use Rattle.stack_code.specs.Valid.{Has, HasFrame, Belongs}
use Rattle.lower_emission.specs.declared.types.Mark.{Mark}
use Rattle.lower_emission.specs.declared.types.Placed.{Placed}
use Rattle.lower_emission.specs.Emits.{Emit, Nothing, One, Seq, Choose, When, Looped, Guarded, Aside, From, listed, placed}

-- where code stands: in which body, with what height, and how many constructs begun; behind a fork, the threads of that
-- construct begin behind what follows
pub data Place : Type 0 where
  Here : Body → (stack nest : ℕ) → Place
  Behind : (site : ℕ) → Body → (stack nest : ℕ) → Place
  -- behind the whole code
  Nowhere : Place

abbrev pub forks : Instr → Option ℕ
forks (Fork site) = Some site
forks i = None

abbrev pub behind : Option ℕ → Body → ℕ → ℕ → Place
behind None b h n = Here b h n
behind (Some site) b h n = Behind site b h n

-- so many operands above a height
abbrev pub up : ℕ → ℕ → ℕ
up h zero = h
up h (suc n) = up h n + 1

pub up_is : (h n : ℕ) → up h n ≡ h + n
up_is h zero = let z : h ≡ h + 0 = omega arith in z
up_is h (suc n) = let e : up h n ≡ h + n = up_is h n in let z : up h n + 1 ≡ h + suc n = omega (arith, e) in z

abbrev pub Also : (ℕ → Place → Type 0) → ℕ → Place → ℕ → Place → Type 0
Also l x P y Q = l y Q ⊎ ((y ≡ x) × (Q ≡ P))

module _ (c : Code) where
  -- a body's frame has the cell
  abbrev pub In : Body → ℕ → Type 0
  In b n = HasFrame c b (λ cells. n < cells)

  -- what the tables have for an instruction in a body
  abbrev pub Told : Body → SiteKind → Instr → Type 0
  Told b k (Words text) = text < length c.texts
  Told b k (Fork site) = Has c.sites site (λ s. (s.around ≡ b) × (4 ≤ s.frame) × (s.kind ≡ k))
  Told b k i = Unit {0}

  -- what is known of code that stands in the list
  abbrev pub Kept : Emit → Type 0
  Kept Nothing = Unit {0}
  Kept (One m h i) = In m.body m.cells × Told m.body m.kind i
  Kept (Seq a b) = Kept a × Kept b
  Kept (Choose m h k a b) = In m.body m.cells × Kept a × Kept b
  Kept (When m h a) = In m.body m.cells × Kept a
  Kept (Looped m h at_body body test) = In m.body m.cells
  Kept (Guarded m handlers body) = In m.body m.cells × Kept handlers
  Kept (Aside m h a) = In m.body m.cells × Kept a
  Kept (From a) = Unit {0}

  -- where the code goes behind an instruction that leaves this
  abbrev pub Ways : (ℕ → Place → Type 0) → Option ℕ → Flow → Body → (stack nest : ℕ) → Place → Type 0
  Ways l o On b h n P = P ≡ behind o b h n
  Ways l o (To t) b h n P = l t (Here b h n)
  Ways l o (Branch t) b h n P = l t (Here b h n) × (P ≡ behind o b h n)
  Ways l o (Back t) b h n P = l t (Here b h n)
  Ways l o (Round t) b h n P = l t (Here b h n) × (P ≡ behind o b h n)
  Ways l o Ends b h n P = Unit {0}

  -- what holds an instruction is known
  abbrev pub Marked : (ℕ → Place → Type 0) → Mark → Type 0
  Marked l m = (e : ℕ) → m.entry ≡ Some e → l e (Here m.body 1 0)

  pub record Step (l : ℕ → Place → Type 0) (m : Mark) (h : ℕ) (i : Instr) (P Q : Place) : Type 0 where
    pub here : P ≡ Here m.body h m.nest
    pub marked : Marked l m
    pub base : ℕ
    pub operands : h ≡ up base (takes c i)
    pub begun : ends_of i ≤ m.nest
    pub ways : Ways l (forks i) (flow_of i) m.body (up base (pushes c i)) (nest_after i m.nest) Q
    pub belongs : (at : ℕ) → Belongs c at m.body i

  -- code that begins at the one place, where the other follows it; jumps lead to places that are known around
  abbrev pub Firm : (ℕ → Place → Type 0) → Emit → Place → Place → Type 0
  Firm l Nothing P Q = P ≡ Q
  Firm l (One m h i) P Q = Step l m h i P Q
  Firm l (Seq a b) P Q = (R : Place) × Firm l a P R × Firm l b R Q
  Firm l (Choose m h k a b) P Q = (P ≡ Here m.body (h + 1) m.nest) × Marked l m × (Q ≡ Here m.body k m.nest) × Firm l a (Here m.body h m.nest) Q × Firm l b (Here m.body h m.nest) Q
  Firm l (When m h a) P Q = (P ≡ Here m.body (h + 1) m.nest) × Marked l m × (Q ≡ Here m.body h m.nest) × Firm l a Q Q
  Firm l (Looped m h at_body body test) P Q =
      (P ≡ Here m.body h m.nest) × Marked l m × (Q ≡ P)
      × ((x : ℕ) → Kept (body x) → Firm (Also l x P) (body x) P P)
      × ((x : ℕ) → Kept (test x) → Firm (Also l x P) (test x) P P)
  Firm l (Guarded m handlers body) P Q =
      (P ≡ Here m.body 0 m.nest) × Marked l m × (Q ≡ P)
      × Firm l handlers (Here m.body 1 m.nest) P
      × ((x : ℕ) → Kept (body x) → Firm (Also l x (Here m.body 1 m.nest)) (body x) P P)
  Firm l (Aside m h a) P Q =
      (site : ℕ) × (P ≡ Behind site m.body h m.nest) × Marked l m × (Q ≡ Here m.body h m.nest) × Firm l a (Here (Site site) 0 0) Q
  Firm l (From a) P Q = (x : ℕ) → Kept (a x) → Firm (Also l x P) (a x) P Q

  -- ---- where it stands in a list

  module _ (ps : List Placed) where
    abbrev pub Stood : Body → ℕ → ℕ → ℕ → Type 0
    Stood b h n q = (p : Placed) × (slice_get ps q ≡ Some p) × (p.body ≡ b) × (p.height ≡ h) × (p.nest ≡ n)

    abbrev pub Landing : Place → ℕ → Type 0
    Landing (Here b h n) q = Stood b h n q
    Landing (Behind site b h n) q = Stood b h n q × Stood (Site site) 0 0 (q + 1)
    Landing Nowhere q = Unit {0}

    -- what may follow is there
    abbrev pub Leads : ℕ → Body → ℕ → ℕ → Flow → Type 0
    Leads q b h n On = Stood b h n (q + 1)
    Leads q b h n (To t) = Stood b h n t
    Leads q b h n (Branch t) = Stood b h n t × Stood b h n (q + 1)
    Leads q b h n (Back t) = Stood b h n t
    Leads q b h n (Round t) = Stood b h n t × Stood b h n (q + 1)
    Leads q b h n Ends = Unit {0}

    pub record Fit (q : ℕ) (p : Placed) : Type 0 where
      pub operands : takes c p.instr ≤ p.height
      pub begun : ends_of p.instr ≤ p.nest
      pub leads : Leads q p.body (p.height - takes c p.instr + pushes c p.instr) (nest_after p.instr p.nest) (flow_of p.instr)
      pub belongs : Belongs c q p.body p.instr
      pub handled : (e : ℕ) → p.entry ≡ Some e → Stood p.body 1 0 e
      pub threads : (site : ℕ) → forks p.instr ≡ Some site → Stood (Site site) 0 0 (q + 1 + 1)

    abbrev pub AllFit : ℕ → List Placed → Type 0
    AllFit q [] = Unit {0}
    AllFit q (p ∷ qs) = Fit q p × AllFit (q + 1) qs

    abbrev pub There : ℕ → List Placed → Type 0
    There q [] = Unit {0}
    There q (p ∷ qs) = (slice_get ps q ≡ Some p) × There (q + 1) qs

    pub there_split : (q : ℕ) (xs ys : List Placed) → There q (xs ++ ys) → There q xs × There (q + length xs) ys
    there_split q [] ys s = let z : q ≡ q + 0 = omega arith in (tt, subst (λ n. There n ys) z s)
    there_split q (x ∷ xs) ys (s, ss) =
        let (a, b) = there_split (q + 1) xs ys ss in
        let z : q + 1 + length xs ≡ q + suc (length xs) = omega arith in
        ((s, a), subst (λ n. There n ys) z b)

    fit_join : (q : ℕ) (xs ys : List Placed) → AllFit q xs → AllFit (q + length xs) ys → AllFit q (xs ++ ys)
    fit_join q [] ys a b = let z : q + 0 ≡ q = omega arith in subst (λ n. AllFit n ys) z b
    fit_join q (x ∷ xs) ys (a, as') b = let z : q + suc (length xs) ≡ q + 1 + length xs = omega arith in (a, fit_join (q + 1) xs ys as' (subst (λ n. AllFit n ys) z b))

    module _ (house : (q : ℕ) (p : Placed) → slice_get ps q ≡ Some p → In p.body p.cells × Told p.body p.kind p.instr) where
      pub kept : (a : Emit) (q : ℕ) → There q (listed a q) → Kept a
      kept Nothing q s = tt
      kept (One m h i) q s = house q (placed m h i) s.0
      kept (Seq a b) q s =
          let (sa, sb) = there_split q (listed a q) (listed b (q + length (listed a q))) s in
          (kept a q sa, kept b (q + length (listed a q)) sb)
      kept (Choose m h k a b) q (s, ss) =
          let xs : List Placed = listed a (q + 1) in
          let at : ℕ = q + 1 + length xs in
          let ys : List Placed = listed b (at + 1) in
          let (sa, sb) = there_split (q + 1) xs (placed m k (Jump (at + 1 + length ys)) ∷ ys) ss in
          ((house q _ s).0, kept a (q + 1) sa, kept b (at + 1) sb.1)
      kept (When m h a) q (s, ss) = ((house q _ s).0, kept a (q + 1) ss)
      kept (Looped m h at_body body test) q (s, ss) = (house q _ s).0
      kept (Guarded m handlers body) q (s, (s2, ss)) =
          let bs : List Placed = listed (body (q + 1)) (q + 1 + 1) in
          let at : ℕ = q + 1 + 1 + length bs in
          let hs : List Placed = listed handlers (at + 1) in
          let (sb, sh) = there_split (q + 1 + 1) bs (placed m 0 (Jump (at + 1 + length hs)) ∷ hs) ss in
          ((house q _ s).0, kept handlers (at + 1) sh.1)
      kept (Aside m h a) q (s, ss) = ((house q _ s).0, kept a (q + 1) ss)
      kept (From a) q s = tt

      abbrev Known : (ℕ → Place → Type 0) → Type 0
      Known l = (n : ℕ) (P : Place) → l n P → Landing P n

      known_also : (l : ℕ → Place → Type 0) (x : ℕ) (P : Place) → Known l → Landing P x → Known (Also l x P)
      known_also l x P k at n Q z = ⊎_elim (λ is. k n Q is) (λ same. subst (λ n. Landing Q n) (sym same.0) (subst (λ P. Landing P x) (sym same.1) at)) z

      marked_fits : (l : ℕ → Place → Type 0) (m : Mark) → Known l → Marked l m → (e : ℕ) → m.entry ≡ Some e → Stood m.body 1 0 e
      marked_fits l m k is e z = k e (Here m.body 1 0) (is e z)

      -- where it begins
      pub lands : (l : ℕ → Place → Type 0) (a : Emit) (P Q : Place) (q : ℕ) → Firm l a P Q → There q (listed a q) → Landing Q (q + length (listed a q)) → Landing P q
      lands l Nothing P Q q f s w = let z : q + 0 ≡ q = omega arith in subst (λ P. Landing P q) (sym f) (subst (λ n. Landing Q n) z w)
      lands l (One m h i) P Q q f s w = subst (λ P. Landing P q) (sym f.here) (placed m h i, s.0, refl, refl, refl)
      lands l (Seq a b) P Q q (R, fa, fb) s w =
          let xs : List Placed = listed a q in
          let ys : List Placed = listed b (q + length xs) in
          let (sa, sb) = there_split q xs ys s in
          let len : length (xs ++ ys) ≡ length xs + length ys = length-append xs ys in
          let z : q + length (xs ++ ys) ≡ q + length xs + length ys = omega (arith, len) in
          lands l a P R q fa sa (lands l b R Q (q + length xs) fb sb (subst (λ n. Landing Q n) z w))
      lands l (Choose m h k a b) P Q q f s w = subst (λ P. Landing P q) (sym f.0) (_, s.0, refl, refl, refl)
      lands l (When m h a) P Q q f s w = subst (λ P. Landing P q) (sym f.0) (_, s.0, refl, refl, refl)
      lands l (Looped m h at_body body test) P Q q f s w = subst (λ P. Landing P q) (sym f.0) (_, s.0, refl, refl, refl)
      lands l (Guarded m handlers body) P Q q f s w = subst (λ P. Landing P q) (sym f.0) (_, s.0, refl, refl, refl)
      lands l (Aside m h a) P Q q (site, eP, mk, eQ, fa) (s, ss) w =
          let xs : List Placed = listed a (q + 1) in
          let z : q + suc (length xs) ≡ q + 1 + length xs = omega arith in
          subst (λ P. Landing P q) (sym eP) ((_, s, refl, refl, refl), lands l a (Here (Site site) 0 0) Q (q + 1) fa ss (subst (λ n. Landing Q n) z w))
      lands l (From a) P Q q f s w = lands (Also l q P) (a q) P Q q (f q (kept (a q) q s)) s w

      forks_on : (i : Instr) (site : ℕ) → forks i ≡ Some site → flow_of i ≡ On
      forks_on (Fork s) site e = refl
      forks_on i site e = absurd (none-some site e)

      abbrev Threads : Option ℕ → ℕ → Type 0
      Threads o q = (site : ℕ) → o ≡ Some site → Stood (Site site) 0 0 (q + 1 + 1)

      leads_on : (o : Option ℕ) (b : Body) (h n q : ℕ) → Landing (behind o b h n) (q + 1) → Stood b h n (q + 1) × Threads o q
      leads_on None b h n q w = (w, (λ site e. absurd (none-some site e)))
      leads_on (Some s) b h n q w = (w.0, (λ site e. subst (λ s. Stood (Site s) 0 0 (q + 1 + 1)) (some_same s site e) w.1))

      leads_by : (l : ℕ → Place → Type 0) (o : Option ℕ) (f : Flow) (b : Body) (h n q : ℕ) (Q : Place) → Known l → Ways l o f b h n Q → Landing Q (q + 1) → (f ≡ On → Threads o q) × Leads q b h n f
      leads_by l o On b h n q Q k w land = let (a, t) = leads_on o b h n q (subst (λ P. Landing P (q + 1)) w land) in ((λ e. t), a)
      leads_by l o (To t) b h n q Q k w land = ((λ e. absurd (to_on t e)), k t (Here b h n) w)
        where
          is_on : Flow → Type 0
          is_on On = Unit {0}
          is_on f = ⊥

          to_on : (t : ℕ) → To t ≡ On → ⊥
          to_on t e = subst is_on (sym e) tt
      leads_by l o (Branch t) b h n q Q k w land = ((λ e. absurd (to_on t e)), (k t (Here b h n) w.0, (leads_on o b h n q (subst (λ P. Landing P (q + 1)) w.1 land)).0))
        where
          is_on : Flow → Type 0
          is_on On = Unit {0}
          is_on f = ⊥

          to_on : (t : ℕ) → Branch t ≡ On → ⊥
          to_on t e = subst is_on (sym e) tt
      leads_by l o (Back t) b h n q Q k w land = ((λ e. absurd (to_on t e)), k t (Here b h n) w)
        where
          is_on : Flow → Type 0
          is_on On = Unit {0}
          is_on f = ⊥

          to_on : (t : ℕ) → Back t ≡ On → ⊥
          to_on t e = subst is_on (sym e) tt
      leads_by l o (Round t) b h n q Q k w land = ((λ e. absurd (to_on t e)), (k t (Here b h n) w.0, (leads_on o b h n q (subst (λ P. Landing P (q + 1)) w.1 land)).0))
        where
          is_on : Flow → Type 0
          is_on On = Unit {0}
          is_on f = ⊥

          to_on : (t : ℕ) → Round t ≡ On → ⊥
          to_on t e = subst is_on (sym e) tt
      leads_by l o Ends b h n q Q k w land = ((λ e. absurd (subst is_on (sym e) tt)), tt)
        where
          is_on : Flow → Type 0
          is_on On = Unit {0}
          is_on f = ⊥

      fits : (q : ℕ) (m : Mark) (h : ℕ) (i : Instr) (base : ℕ) → h ≡ up base (takes c i) → ends_of i ≤ m.nest → Leads q m.body (up base (pushes c i)) (nest_after i m.nest) (flow_of i) → Belongs c q m.body i
          → ((e : ℕ) → m.entry ≡ Some e → Stood m.body 1 0 e) → Threads (forks i) q → Fit q (placed m h i)
      fits q m h i base enough begun leads belongs handled threads =
          let e : up base (takes c i) ≡ base + takes c i = up_is base (takes c i) in
          let f : up base (pushes c i) ≡ base + pushes c i = up_is base (pushes c i) in
          let z : up base (pushes c i) ≡ h - takes c i + pushes c i = omega (arith, e, f, enough) in
          record {
            operands = (let y : takes c i ≤ h = omega (arith, e, enough) in y);
            begun = begun;
            leads = subst (λ n. Leads q m.body n (nest_after i m.nest) (flow_of i)) z leads;
            belongs = belongs;
            handled = handled;
            threads = threads;
          }

      -- a jump of a part's own
      jumps : (q : ℕ) (m : Mark) (h t : ℕ) → ((e : ℕ) → m.entry ≡ Some e → Stood m.body 1 0 e) → Stood m.body h m.nest t → Fit q (placed m h (Jump t))
      jumps q m h t handled there = fits q m h (Jump t) h refl (omega arith) there tt handled (λ site e. absurd (none-some site e))

      tests : (q : ℕ) (m : Mark) (h t : ℕ) → ((e : ℕ) → m.entry ≡ Some e → Stood m.body 1 0 e) → Stood m.body h m.nest t → Stood m.body h m.nest (q + 1) → Fit q (placed m (h + 1) (JFalse t))
      tests q m h t handled there next = fits q m (h + 1) (JFalse t) h refl (omega arith) (there, next) tt handled (λ site e. absurd (none-some site e))

      either : (b : Bool) (x y : ℕ) (P : Place) → Landing P x → Landing P y → Landing P (cond b x y)
      either true x y P u w = u
      either false x y P u w = w

      -- what it tells where it stands
      pub firm_fits : (l : ℕ → Place → Type 0) (a : Emit) (P Q : Place) (q : ℕ) → Firm l a P Q → There q (listed a q) → Known l → Landing Q (q + length (listed a q)) → AllFit q (listed a q)
      firm_fits l Nothing P Q q f s k w = tt
      firm_fits l (One m h i) P Q q f s k w =
          let (t, leads) = leads_by l (forks i) (flow_of i) m.body (up f.base (pushes c i)) (nest_after i m.nest) q Q k f.ways w in
          (fits q m h i f.base f.operands f.begun leads (f.belongs q) (marked_fits l m k f.marked) (λ site e. t (forks_on i site e) site e), tt)
      firm_fits l (Seq a b) P Q q (R, fa, fb) s k w =
          let xs : List Placed = listed a q in
          let ys : List Placed = listed b (q + length xs) in
          let (sa, sb) = there_split q xs ys s in
          let len : length (xs ++ ys) ≡ length xs + length ys = length-append xs ys in
          let z : q + length (xs ++ ys) ≡ q + length xs + length ys = omega (arith, len) in
          let end_ : Landing Q (q + length xs + length ys) = subst (λ n. Landing Q n) z w in
          fit_join q xs ys (firm_fits l a P R q fa sa k (lands l b R Q (q + length xs) fb sb end_)) (firm_fits l b R Q (q + length xs) fb sb k end_)
      firm_fits l (Choose m h j a b) P Q q (eP, mk, eQ, fa, fb) (s, ss) k w =
          let xs : List Placed = listed a (q + 1) in
          let at : ℕ = q + 1 + length xs in
          let ys : List Placed = listed b (at + 1) in
          let jump : Placed = placed m j (Jump (at + 1 + length ys)) in
          let (sa, (sj, sb)) = there_split (q + 1) xs (jump ∷ ys) ss in
          let len : length (xs ++ (jump ∷ ys)) ≡ length xs + suc (length ys) = length-append xs (jump ∷ ys) in
          let z : q + suc (length (xs ++ (jump ∷ ys))) ≡ at + 1 + length ys = omega (arith, len) in
          let end_ : Landing Q (at + 1 + length ys) = subst (λ n. Landing Q n) z w in
          let land_jump : Landing Q at = subst (λ P. Landing P at) (sym eQ) (jump, sj, refl, refl, refl) in
          let land_b : Stood m.body h m.nest (at + 1) = lands l b (Here m.body h m.nest) Q (at + 1) fb sb end_ in
          let land_a : Stood m.body h m.nest (q + 1) = lands l a (Here m.body h m.nest) Q (q + 1) fa sa land_jump in
          let hd = marked_fits l m k mk in (
            tests q m h (at + 1) hd land_b land_a,
            fit_join (q + 1) xs (jump ∷ ys) (firm_fits l a (Here m.body h m.nest) Q (q + 1) fa sa k land_jump)
                (jumps at m j (at + 1 + length ys) hd (subst (λ P. Landing P (at + 1 + length ys)) eQ end_), firm_fits l b (Here m.body h m.nest) Q (at + 1) fb sb k end_),
          )
      firm_fits l (When m h a) P Q q (eP, mk, eQ, fa) (s, ss) k w =
          let xs : List Placed = listed a (q + 1) in
          let z : q + suc (length xs) ≡ q + 1 + length xs = omega arith in
          let end_ : Landing Q (q + 1 + length xs) = subst (λ n. Landing Q n) z w in
          let land_a : Landing Q (q + 1) = lands l a Q Q (q + 1) fa ss end_ in (
            tests q m h (q + 1 + length xs) (marked_fits l m k mk) (subst (λ P. Landing P (q + 1 + length xs)) eQ end_) (subst (λ P. Landing P (q + 1)) eQ land_a),
            firm_fits l a Q Q (q + 1) fa ss k end_,
          )
      firm_fits l (Looped m h at_body body test) P Q q (eP, mk, eQ, fb, ft) (s, (s2, ss)) k w =
          let bs : List Placed = listed (body (q + 1)) (q + 1 + 1) in
          let at : ℕ = q + 1 + 1 + length bs in
          let ts : List Placed = listed (test (q + 1 + 1)) at in
          let (sb, st) = there_split (q + 1 + 1) bs ts ss in
          let len : length (bs ++ ts) ≡ length bs + length ts = length-append bs ts in
          let z : q + suc (suc (length (bs ++ ts))) ≡ at + length ts = omega (arith, len) in
          let end_ : Landing P (at + length ts) = subst (λ P. Landing P (at + length ts)) eQ (subst (λ n. Landing Q n) z w) in
          let f_body : Firm (Also l (q + 1) P) (body (q + 1)) P P = fb (q + 1) (kept (body (q + 1)) (q + 1 + 1) sb) in
          let f_test : Firm (Also l (q + 1 + 1) P) (test (q + 1 + 1)) P P = ft (q + 1 + 1) (kept (test (q + 1 + 1)) at st) in
          let land_test : Landing P at = lands (Also l (q + 1 + 1) P) (test (q + 1 + 1)) P P at f_test st end_ in
          let land_body : Landing P (q + 1 + 1) = lands (Also l (q + 1) P) (body (q + 1)) P P (q + 1 + 1) f_body sb land_test in
          let exit : Landing P (q + 1) = subst (λ P. Landing P (q + 1)) (sym eP) (placed m h (Jump (at + length ts)), s2, refl, refl, refl) in
          let hd = marked_fits l m k mk in (
            jumps q m h (cond at_body (q + 1 + 1) at) hd (subst (λ P. Landing P (cond at_body (q + 1 + 1) at)) eP (either at_body (q + 1 + 1) at P land_body land_test)),
            (
              jumps (q + 1) m h (at + length ts) hd (subst (λ P. Landing P (at + length ts)) eP end_),
              fit_join (q + 1 + 1) bs ts
                  (firm_fits (Also l (q + 1) P) (body (q + 1)) P P (q + 1 + 1) f_body sb (known_also l (q + 1) P k exit) land_test)
                  (firm_fits (Also l (q + 1 + 1) P) (test (q + 1 + 1)) P P at f_test st (known_also l (q + 1 + 1) P k land_body) end_),
            ),
          )
      firm_fits l (Guarded m handlers body) P Q q (eP, mk, eQ, fh, fb) (s, (s2, ss)) k w =
          let bs : List Placed = listed (body (q + 1)) (q + 1 + 1) in
          let at : ℕ = q + 1 + 1 + length bs in
          let hs : List Placed = listed handlers (at + 1) in
          let past : Placed = placed m 0 (Jump (at + 1 + length hs)) in
          let (sb, (sp, sh)) = there_split (q + 1 + 1) bs (past ∷ hs) ss in
          let len : length (bs ++ (past ∷ hs)) ≡ length bs + suc (length hs) = length-append bs (past ∷ hs) in
          let z : q + suc (suc (length (bs ++ (past ∷ hs)))) ≡ at + 1 + length hs = omega (arith, len) in
          let end_ : Landing P (at + 1 + length hs) = subst (λ P. Landing P (at + 1 + length hs)) eQ (subst (λ n. Landing Q n) z w) in
          let H : Place = Here m.body 1 m.nest in
          let f_body : Firm (Also l (q + 1) H) (body (q + 1)) P P = fb (q + 1) (kept (body (q + 1)) (q + 1 + 1) sb) in
          let land_handlers : Stood m.body 1 m.nest (at + 1) = lands l handlers H P (at + 1) fh sh end_ in
          let land_past : Landing P at = subst (λ P. Landing P at) (sym eP) (past, sp, refl, refl, refl) in
          let land_body : Landing P (q + 1 + 1) = lands (Also l (q + 1) H) (body (q + 1)) P P (q + 1 + 1) f_body sb land_past in
          let hd = marked_fits l m k mk in (
            jumps q m 0 (q + 1 + 1) hd (subst (λ P. Landing P (q + 1 + 1)) eP land_body),
            (
              jumps (q + 1) m 1 (at + 1) hd land_handlers,
              fit_join (q + 1 + 1) bs (past ∷ hs)
                  (firm_fits (Also l (q + 1) H) (body (q + 1)) P P (q + 1 + 1) f_body sb (known_also l (q + 1) H k (placed m 1 (Jump (at + 1)), s2, refl, refl, refl)) land_past)
                  (jumps at m 0 (at + 1 + length hs) hd (subst (λ P. Landing P (at + 1 + length hs)) eP end_), firm_fits l handlers H P (at + 1) fh sh k end_),
            ),
          )
      firm_fits l (Aside m h a) P Q q (site, eP, mk, eQ, fa) (s, ss) k w =
          let xs : List Placed = listed a (q + 1) in
          let z : q + suc (length xs) ≡ q + 1 + length xs = omega arith in
          let end_ : Landing Q (q + 1 + length xs) = subst (λ n. Landing Q n) z w in (
            jumps q m h (q + 1 + length xs) (marked_fits l m k mk) (subst (λ P. Landing P (q + 1 + length xs)) eQ end_),
            firm_fits l a (Here (Site site) 0 0) Q (q + 1) fa ss k end_,
          )
      firm_fits l (From a) P Q q f s k w =
          let fa : Firm (Also l q P) (a q) P Q = f q (kept (a q) q s) in
          firm_fits (Also l q P) (a q) P Q q fa s (known_also l q P k (lands (Also l q P) (a q) P Q q fa s w)) w
