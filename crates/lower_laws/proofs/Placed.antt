-- Instructions that are placed: code that is alike is placed alike, and where frames have room for what is placed, and forks
-- their rows, they have it wherever the code stands.
use Rattle.std.proofs.Common.{◌≡◌, ℕ, ◌+◌, ◌≤◌, max, List, [], ◌∷◌, ◌++◌, length, Option, Some, None, Bool, true, false, cond, inl, inr, refl, sym, ap, ◌∙◌, subst, arith, eq-eqb}
use Rattle.std.proofs.Math.Nat.{le-max_left, le-max_right, max-le}
use Rattle.stack_code.specs.declared.code.Around.{Around}
use Rattle.stack_code.specs.declared.code.Around.TheVariants.{Sub, Site}
use Rattle.stack_code.specs.declared.code.SiteKind.{SiteKind}
use Rattle.stack_code.specs.declared.instr.Instr.{Instr}
use Rattle.stack_code.specs.declared.instr.Instr.TheVariants.{Jump, JFalse}
use Rattle.stack_code.specs.declared.instr.Instr.TheVariants as i
use Rattle.lower_emission.specs.declared.types.Mark.{Mark}
use Rattle.lower_emission.specs.declared.types.Need.{Need}
use Rattle.lower_emission.specs.declared.types.Placed.{Placed}
use Rattle.lower_emission.specs.Emits.{Emit, Nothing, One, Seq, Choose, When, Looped, Guarded, Aside, From, listed, placed}
use Rattle.lower_emission.specs.Programs.{is_body, needed, raised}
use Rattle.lower_laws.specs.Rooms.{Roomy}
use Rattle.lower_laws.proofs.Alike.{Alike, Both, IsUnforked, Leaps, Marks}

-- ---- the same code

abbrev pub Same : ℕ → ℕ → Type 0
Same a b = a ≡ b

entry_same : (p q : Option ℕ) → Both Same p q → p ≡ q
entry_same None None t = refl
entry_same (Some a) (Some b) t = ap Some t
entry_same None (Some b) t = absurd t
entry_same (Some a) None t = absurd t

leaps_same : (j k : Instr) → Leaps Same j k → j ≡ k
leaps_same j k (inl e) = e
leaps_same j k (inr (f, a, b, e, e', t, u)) = e ∙ ap f t ∙ sym e'

mark_same : (m n : Mark) → Marks Same m n → m ≡ n
mark_same m n (b, d, c, k, e) =
    ap (λ b. record { body = b; nest = m.nest; entry = m.entry; cells = m.cells; kind = m.kind }) b
    ∙ ap (λ d. record { body = n.body; nest = d; entry = m.entry; cells = m.cells; kind = m.kind }) d
    ∙ ap (λ e. record { body = n.body; nest = n.nest; entry = e; cells = m.cells; kind = m.kind }) (entry_same m.entry n.entry e)
    ∙ ap (λ c. record { body = n.body; nest = n.nest; entry = n.entry; cells = c; kind = m.kind }) c
    ∙ ap (λ k. record { body = n.body; nest = n.nest; entry = n.entry; cells = n.cells; kind = k }) k

placed_same : (m n : Mark) (h g : ℕ) (j k : Instr) → Marks Same m n → h ≡ g → j ≡ k → placed m h j ≡ placed n g k
placed_same m n h g j k e f i = ap (λ m. placed m h j) (mark_same m n e) ∙ ap (λ h. placed n h j) f ∙ ap (λ j. placed n g j) i

seq_same : (a b : ℕ → List Placed) (xs ys : List Placed) (q : ℕ) → xs ≡ ys → ((q : ℕ) → a q ≡ b q) → xs ++ a (q + length xs) ≡ ys ++ b (q + length ys)
seq_same a b xs ys q e f = ap (λ xs. xs ++ a (q + length xs)) e ∙ ap (λ zs. ys ++ zs) (f (q + length ys))

-- what is listed of a choice, a loop and the others, with the lists of their parts
abbrev chooses : (q : ℕ) → Mark → (h k : ℕ) → (xs bs : List Placed) → List Placed
chooses q m h k xs bs = placed m (h + 1) (JFalse (q + 1 + length xs + 1)) ∷ (xs ++ (placed m k (Jump (q + 1 + length xs + 1 + length bs)) ∷ bs))

abbrev whens : (q : ℕ) → Mark → (h : ℕ) → List Placed → List Placed
whens q m h xs = placed m (h + 1) (JFalse (q + 1 + length xs)) ∷ xs

abbrev loops : (q : ℕ) → Mark → (h : ℕ) → Bool → (bs ts : List Placed) → List Placed
loops q m h b bs ts = placed m h (Jump (cond b (q + 1 + 1) (q + 1 + 1 + length bs))) ∷ placed m h (Jump (q + 1 + 1 + length bs + length ts)) ∷ (bs ++ ts)

abbrev guards : (q : ℕ) → Mark → (bs hs : List Placed) → List Placed
guards q m bs hs = placed m 0 (Jump (q + 1 + 1)) ∷ placed m 1 (Jump (q + 1 + 1 + length bs + 1)) ∷ (bs ++ (placed m 0 (Jump (q + 1 + 1 + length bs + 1 + length hs)) ∷ hs))

abbrev asides : (q : ℕ) → Mark → (h : ℕ) → List Placed → List Placed
asides q m h xs = placed m h (Jump (q + 1 + length xs)) ∷ xs

pub same_listed : (a b : Emit) → Alike Same a b → (q : ℕ) → listed a q ≡ listed b q
same_listed Nothing Nothing t q = refl
same_listed (One m h j) (One n g k) (e, f, i) q = ap (λ p. p ∷ []) (placed_same m n h g j k e f (leaps_same j k i))
same_listed (Seq a b) (Seq c d) (f, g) q = seq_same (λ q. listed b q) (λ q. listed d q) (listed a q) (listed c q) q (same_listed a c f q) (λ q. same_listed b d g q)
same_listed (Choose m h k a b) (Choose n g l c d) (e, f, i, fa, fb) q =
    ap (λ m. chooses q m h k (listed a (q + 1)) (listed b (q + 1 + length (listed a (q + 1)) + 1))) (mark_same m n e)
    ∙ ap (λ h. chooses q n h k (listed a (q + 1)) (listed b (q + 1 + length (listed a (q + 1)) + 1))) f
    ∙ ap (λ k. chooses q n g k (listed a (q + 1)) (listed b (q + 1 + length (listed a (q + 1)) + 1))) i
    ∙ ap (λ xs. chooses q n g l xs (listed b (q + 1 + length xs + 1))) (same_listed a c fa (q + 1))
    ∙ ap (λ bs. chooses q n g l (listed c (q + 1)) bs) (same_listed b d fb (q + 1 + length (listed c (q + 1)) + 1))
same_listed (When m h a) (When n g c) (e, f, fa) q =
    ap (λ m. whens q m h (listed a (q + 1))) (mark_same m n e) ∙ ap (λ h. whens q n h (listed a (q + 1))) f ∙ ap (λ xs. whens q n g xs) (same_listed a c fa (q + 1))
same_listed (Looped m h b exit head) (Looped n g d exit' head') (e, f, i, fe, fh) q =
    ap (λ m. loops q m h b (listed (exit (q + 1)) (q + 1 + 1)) (listed (head (q + 1 + 1)) (q + 1 + 1 + length (listed (exit (q + 1)) (q + 1 + 1))))) (mark_same m n e)
    ∙ ap (λ h. loops q n h b (listed (exit (q + 1)) (q + 1 + 1)) (listed (head (q + 1 + 1)) (q + 1 + 1 + length (listed (exit (q + 1)) (q + 1 + 1))))) f
    ∙ ap (λ b. loops q n g b (listed (exit (q + 1)) (q + 1 + 1)) (listed (head (q + 1 + 1)) (q + 1 + 1 + length (listed (exit (q + 1)) (q + 1 + 1))))) i
    ∙ ap (λ bs. loops q n g d bs (listed (head (q + 1 + 1)) (q + 1 + 1 + length bs))) (same_listed (exit (q + 1)) (exit' (q + 1)) (fe (q + 1) (q + 1) refl) (q + 1 + 1))
    ∙ ap (λ ts. loops q n g d (listed (exit' (q + 1)) (q + 1 + 1)) ts) (same_listed (head (q + 1 + 1)) (head' (q + 1 + 1)) (fh (q + 1 + 1) (q + 1 + 1) refl) (q + 1 + 1 + length (listed (exit' (q + 1)) (q + 1 + 1))))
same_listed (Guarded m hs body) (Guarded n hs' body') (e, fh, fb) q =
    ap (λ m. guards q m (listed (body (q + 1)) (q + 1 + 1)) (listed hs (q + 1 + 1 + length (listed (body (q + 1)) (q + 1 + 1)) + 1))) (mark_same m n e)
    ∙ ap (λ bs. guards q n bs (listed hs (q + 1 + 1 + length bs + 1))) (same_listed (body (q + 1)) (body' (q + 1)) (fb (q + 1) (q + 1) refl) (q + 1 + 1))
    ∙ ap (λ hs. guards q n (listed (body' (q + 1)) (q + 1 + 1)) hs) (same_listed hs hs' fh (q + 1 + 1 + length (listed (body' (q + 1)) (q + 1 + 1)) + 1))
same_listed (Aside m h a) (Aside n g c) (e, f, fa) q =
    ap (λ m. asides q m h (listed a (q + 1))) (mark_same m n e) ∙ ap (λ h. asides q n h (listed a (q + 1))) f ∙ ap (λ xs. asides q n g xs) (same_listed a c fa (q + 1))
same_listed (From a) (From b) f q = same_listed (a q) (b q) (f q q refl) q
same_listed a b t q = absurd t

-- ---- room for what is placed

abbrev pub Each : (Placed → Type 0) → List Placed → Type 0
Each P [] = Unit {0}
Each P (p ∷ ps) = P p × Each P ps

pub each_left : (P : Placed → Type 0) (xs ys : List Placed) → Each P (xs ++ ys) → Each P xs
each_left P [] ys h = tt
each_left P (x ∷ xs) ys h = (h.0, each_left P xs ys h.1)

pub each_right : (P : Placed → Type 0) (xs ys : List Placed) → Each P (xs ++ ys) → Each P ys
each_right P [] ys h = h
each_right P (x ∷ xs) ys h = each_right P xs ys h.1

pub each_both : (P : Placed → Type 0) (xs ys : List Placed) → Each P xs → Each P ys → Each P (xs ++ ys)
each_both P [] ys f g = g
each_both P (x ∷ xs) ys f g = (f.0, each_both P xs ys f.1 g)

-- anywhere
abbrev pub Anywhere : ℕ → ℕ → Type 0
Anywhere a b = Unit {0}

module _ (rows : ℕ → SiteKind → Around → Type 0) (room : Around → ℕ) where
  -- a fork's construct has its row
  abbrev pub Rowed : SiteKind → Around → Instr → Type 0
  Rowed k o (i.Fork site) = rows site k o
  Rowed k o j = Unit {0}

  abbrev pub HasRoom' : Placed → Type 0
  HasRoom' p = (p.cells ≤ room p.body) × Rowed p.kind p.body p.instr

  unforked_rowed : (k : SiteKind) (o : Around) (j : Instr) → IsUnforked j → Rowed k o j
  unforked_rowed k o (i.Fork site) u = absurd u
  unforked_rowed k o j u = tt

  same_rowed : (j k : Instr) (d e : SiteKind) (o l : Around) → d ≡ e → o ≡ l → Leaps Anywhere j k → Rowed d o j → Rowed e l k
  same_rowed j k d e o l same body (inl is) r = subst (λ k. Rowed e l k) is (subst (λ l. Rowed e l j) body (subst (λ d. Rowed d o j) same r))
  same_rowed j k d e o l same body (inr (f, a, b, ej, ek, t, u)) r = subst (λ k. Rowed e l k) (sym ek) (unforked_rowed e l (f b) u)

  one_roomy : (n : Mark) (g : ℕ) (k : Instr) → n.cells ≤ room n.body → Rowed n.kind n.body k → Roomy rows room (One n g k)
  one_roomy n g (i.Fork site) le r = (le, r)
  one_roomy n g k le r = le

  moved : (m n : Mark) → Marks Anywhere m n → m.cells ≤ room m.body → n.cells ≤ room n.body
  moved m n (b, d, c, k, e) le = let z : room m.body ≡ room n.body = ap room b in omega (arith, z, c, le)

  pub roomy_so : (a b : Emit) → Alike Anywhere a b → (q : ℕ) → Each HasRoom' (listed a q) → Roomy rows room b
  roomy_so Nothing Nothing t q h = tt
  roomy_so (One m h' j) (One n g k) ((b, d, c, kd, en), f, lp) q h = one_roomy n g k (moved m n (b, d, c, kd, en) h.0.0) (same_rowed j k m.kind n.kind m.body n.body kd b lp h.0.1)
  roomy_so (Seq a b) (Seq c d) (f, g) q h = (roomy_so a c f q (each_left HasRoom' (listed a q) _ h), roomy_so b d g (q + length (listed a q)) (each_right HasRoom' (listed a q) _ h))
  roomy_so (Choose m h' k a b) (Choose n g l c d) (e, f, i, fa, fb) q h =
      let xs = listed a (q + 1) in
      (moved m n e h.0.0, roomy_so a c fa (q + 1) (each_left HasRoom' xs _ h.1), roomy_so b d fb (q + 1 + length xs + 1) (each_right HasRoom' xs _ h.1).1)
  roomy_so (When m h' a) (When n g c) (e, f, fa) q h = (moved m n e h.0.0, roomy_so a c fa (q + 1) h.1)
  roomy_so (Looped m h' b exit head) (Looped n g d exit' head') (e, f, i, fe, fh) q h =
      let bs = listed (exit (q + 1)) (q + 1 + 1) in (
        moved m n e h.0.0,
        (λ p. roomy_so (exit (q + 1)) (exit' p) (fe (q + 1) p tt) (q + 1 + 1) (each_left HasRoom' bs _ h.1.1)),
        (λ p. roomy_so (head (q + 1 + 1)) (head' p) (fh (q + 1 + 1) p tt) (q + 1 + 1 + length bs) (each_right HasRoom' bs _ h.1.1)),
      )
  roomy_so (Guarded m hs body) (Guarded n hs' body') (e, fh, fb) q h =
      let bs = listed (body (q + 1)) (q + 1 + 1) in (
        moved m n e h.0.0,
        roomy_so hs hs' fh (q + 1 + 1 + length bs + 1) (each_right HasRoom' bs _ h.1.1).1,
        (λ p. roomy_so (body (q + 1)) (body' p) (fb (q + 1) p tt) (q + 1 + 1) (each_left HasRoom' bs _ h.1.1)),
      )
  roomy_so (Aside m h' a) (Aside n g c) (e, f, fa) q h = (moved m n e h.0.0, roomy_so a c fa (q + 1) h.1)
  roomy_so (From a) (From b) f q h = λ p. roomy_so (a q) (b p) (f q p tt) q h
  roomy_so a b t q h = absurd t

-- ---- what the instructions of a body need

pub needed_grows : (b : Around) (n : Need) (ps : List Placed) → n.cells ≤ (needed b n ps).cells
needed_grows b n [] = omega arith
needed_grows b n (p ∷ ps) = go (is_body b p.body) (needed_grows b (raised n p) ps) (needed_grows b n ps)
  where
    go : (c : Bool) → (raised n p).cells ≤ (needed b (raised n p) ps).cells → n.cells ≤ (needed b n ps).cells → n.cells ≤ (needed b (cond c (raised n p) n) ps).cells
    go true z y = let w = le-max_left n.cells p.cells in omega (arith, w, z)
    go false z y = y

-- and where more is asked for at least, it is no less
pub needed_more : (b : Around) (n m : Need) (ps : List Placed) → n.cells ≤ m.cells → (needed b n ps).cells ≤ (needed b m ps).cells
needed_more b n m [] le = le
needed_more b n m (p ∷ ps) le = go (is_body b p.body) (needed_more b (raised n p) (raised m p) ps) (needed_more b n m ps le)
  where
    go : (c : Bool) → (max n.cells p.cells ≤ max m.cells p.cells → (needed b (raised n p) ps).cells ≤ (needed b (raised m p) ps).cells) → (needed b n ps).cells ≤ (needed b m ps).cells
        → (needed b (cond c (raised n p) n) ps).cells ≤ (needed b (cond c (raised m p) m) ps).cells
    go true f y = f (max-le (let z = le-max_left m.cells p.cells in omega (arith, le, z)) (le-max_right m.cells p.cells))
    go false f y = y

needed_most : (b : Around) (n : Need) (ps : List Placed) → Each (λ p. is_body b p.body ≡ true → p.cells ≤ (needed b n ps).cells) ps
needed_most b n [] = tt
needed_most b n (p ∷ ps) = ((λ e. subst (λ c. p.cells ≤ (needed b (cond c (raised n p) n) ps).cells) (sym e) here), needed_most b (cond (is_body b p.body) (raised n p) n) ps)
  where
    here : p.cells ≤ (needed b (raised n p) ps).cells
    here = let z = needed_grows b (raised n p) ps in let y = le-max_right n.cells p.cells in omega (arith, y, z)

own_body : (b : Around) → is_body b b ≡ true
own_body (Sub k) = eq-eqb k k refl
own_body (Site k) = eq-eqb k k refl

each_own : (Q : Around → Placed → Type 0) (ps : List Placed) → ((b : Around) → Each (λ p. is_body b p.body ≡ true → Q b p) ps) → Each (λ p. Q p.body p) ps
each_own Q [] h = tt
each_own Q (p ∷ ps) h = ((h p.body).0 (own_body p.body), each_own Q ps (λ b. (h b).1))

-- what a body needs is enough for each of its instructions
pub needs_enough : (least : Around → Need) (ps : List Placed) → Each (λ p. p.cells ≤ (needed p.body (least p.body) ps).cells) ps
needs_enough least ps = each_own (λ b p. p.cells ≤ (needed b (least b) ps).cells) ps (λ b. needed_most b (least b) ps)
