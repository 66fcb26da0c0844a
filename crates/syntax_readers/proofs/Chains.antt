-- A chain is exact where its links are.
use Rattle.std.proofs.Common.{◌≡◌, ℕ, zero, suc, ◌+◌, ◌-◌, ◌≤◌, List, [], ◌∷◌, ◌++◌, length, Bool, true, false, if◌then◌else◌, ◌⊎◌, inl, inr, refl, sym, ap, ◌∙◌, subst, append-nil, append_assoc, arith, length-append}
use mathlib.Core.Path.{fun_ext}
use Rattle.ada_base.specs.Symbols.{Symbol, Nested, Word, symbols_of, is_member, next_kind}
use Rattle.ada_base.specs.Languages.{Language, Many, Then, Or, Pure, Image, Empty, ◌⋅◌, Inhabited}
use Rattle.ada_base.specs.Derivations.{AllWithin}
use Rattle.syntax_readers.specs.Readers.{Answer, Found, Refused, TooDeep, Reader, read_on, ◌>>=◌, ◌<$>◌, pure, by_next}
use Rattle.syntax_readers.specs.Loops.{turns, chain, grown}
use Rattle.syntax_readers.specs.Sets.{Sets, Starts, Stops, are_disjoint, is_subset, then_sets, repeat_sets}
use Rattle.syntax_readers.specs.Exact.{Reads, Steady, Exact, Rule}
use Rattle.syntax_readers.proofs.Rules.{seq, to, same}
use Rattle.syntax_readers.proofs.KindSets.{true_false, is_member-append, is_subset-is_member, are_disjoint-is_member}
use Rattle.syntax_readers.proofs.Words.{regroup, length-symbols_of}
use Rattle.syntax_readers.proofs.Renamings.{steady_as}
use Rattle.syntax_readers.proofs.Singles.{steady_pure}
use Rattle.syntax_readers.proofs.Sequences.{steady_then, reads_then}
use Rattle.syntax_readers.proofs.Choices.{steady_or}

-- `L a b` are the words of a link that leads from `a` to `b`, and `M a b` those of any number of links
module _ {limit : ℕ} {A : Type 0} {s : Sets} {L : A → A → Language} {p : A → Reader A} (M : A → A → Language)
    (join : (a x : A) (w : Word) → Or (Then (L a) M) (Pure a) x w → M a x w)
    (part : (a x : A) (w : Word) → M a x w → Or (Then (L a) M) (Pure a) x w)
    (ks : List ℕ) (h : (a : A) → Exact limit s (L a) (p a)) where
  inhabited : (a : A) → Inhabited (M a)
  inhabited a next = (a, [], [], join a a [] (inr (refl, refl)), refl)

  steady_in : (n : ℕ) (a : A) → Steady (M a) (turns n ks p a)
  steady_in zero a = steady_as (M a) (steady_pure a) (λ x w k. join a x w (inr k))
  steady_in (suc n) a =
      steady_as (M a)
      (steady_or ks (steady_then (L a) M (p a) (turns n ks p) (h a).steady (steady_in n) inhabited) (steady_pure a))
      (join a)

  module _ (not_null : s.nullable ≡ false) (sub : is_subset s.first ks ≡ true) (apart : are_disjoint s.follow_last s.first ≡ true) (no_end : is_member ks 0 ≡ false) where
    head : (a b : A) (w : Word) → L a b w → (c : Nested) × (v : Word) × (w ≡ c ∷ v) × (is_member s.first c.symbol.kind ≡ true)
    head a b w l = at ((h a).starts b w l) where
      at : Starts s w → (c : Nested) × (v : Word) × (w ≡ c ∷ v) × (is_member s.first c.symbol.kind ≡ true)
      at (inl k) = k
      at (inr (e, n)) = true_false (sym n ∙ not_null)

    starts_chain : (a x : A) (w : Word) → M a x w → Starts (repeat_sets ks s) w
    starts_chain a x w m = at (part a x w m) where
      at : Or (Then (L a) M) (Pure a) x w → Starts (repeat_sets ks s) w
      at (inl (b, u, v, e, l, k)) = let k = head a b u l in inl (k.0, k.1 ++ v, e ∙ ap (λ z. z ++ v) k.2, k.3)
      at (inr (eq, e)) = inr (e, refl)

    next_stops : (v : Word) (rest : List Symbol) → Starts (repeat_sets ks s) v → Stops s rest → Stops s (symbols_of v ++ rest)
    next_stops v rest (inl (c, v', e, k)) st = subst (λ z. Stops s (symbols_of z ++ rest)) (sym e) (are_disjoint-is_member s.follow_last s.first c.symbol.kind apart k)
    next_stops v rest (inr (e, n)) st = subst (λ z. Stops s (symbols_of z ++ rest)) (sym e) st

    none_whole : (a x : A) (w : Word) (rest : List Symbol) (n : ℕ) → x ≡ a → w ≡ [] → Stops (repeat_sets ks s) rest → Reads limit x w rest (turns n ks p a (symbols_of w ++ rest))
    none_whole a x w rest zero eq e st = inl (subst (AllWithin limit) (sym e) tt, ap (λ (z : Word). (Found a, symbols_of z ++ rest)) e ∙ ap (λ z. (Found z, rest)) (sym eq))
    none_whole a x w rest (suc n) eq e st =
        let out = (is_member-append s.follow_last ks (next_kind rest) st).1 in
        inl (subst (AllWithin limit) (sym e) tt, ap (λ (z : Word). turns (suc n) ks p a (symbols_of z ++ rest)) e ∙ ap (λ b. if b then (p a >>= turns n ks p) rest else (Found a, rest)) out ∙ ap (λ z. (Found z, rest)) (sym eq))

    one_whole : (n : ℕ) (a b x : A) (u v : Word) (rest : List Symbol) → L a b u → Stops s (symbols_of v ++ rest) → Reads limit x v rest (turns n ks p b (symbols_of v ++ rest)) → Reads limit x (u ++ v) rest (turns (suc n) ks p a (symbols_of (u ++ v) ++ rest))
    one_whole n a b x u v rest l st next =
        let k = head a b u l in
        let here : is_member ks (next_kind (symbols_of u ++ (symbols_of v ++ rest))) ≡ true = subst (λ z. is_member ks (next_kind (symbols_of z ++ (symbols_of v ++ rest))) ≡ true) (sym k.2) (is_subset-is_member s.first ks k.0.symbol.kind sub k.3) in
        subst (λ z. Reads limit x (u ++ v) rest (turns (suc n) ks p a z)) (sym (regroup u v rest))
        (subst (λ t. Reads limit x (u ++ v) rest (if t then (p a >>= turns n ks p) (symbols_of u ++ (symbols_of v ++ rest)) else (Found a, symbols_of u ++ (symbols_of v ++ rest)))) (sym here)
        (reads_then limit (turns n ks p) b x u v rest (p a (symbols_of u ++ (symbols_of v ++ rest))) ((h a).whole b u (symbols_of v ++ rest) l st) next))

    whole_in : (n : ℕ) (a x : A) (w : Word) (rest : List Symbol) → length w ≤ n → M a x w → Stops (repeat_sets ks s) rest → Reads limit x w rest (turns n ks p a (symbols_of w ++ rest))
    whole_in zero a x w rest len m st = at (part a x w m) where
      at : Or (Then (L a) M) (Pure a) x w → Reads limit x w rest (turns zero ks p a (symbols_of w ++ rest))
      at (inr (eq, e)) = none_whole a x w rest zero eq e st
      at (inl (b, u, v, e, l, k)) = let k = head a b u l in absurd (omega (arith, len, ap length e, ap length k.2, length-append u v))
    whole_in (suc n) a x w rest len m st = at (part a x w m) (λ b v. whole_in n b x v rest) where
      at : Or (Then (L a) M) (Pure a) x w → ((b : A) (v : Word) → length v ≤ n → M b x v → Stops (repeat_sets ks s) rest → Reads limit x v rest (turns n ks p b (symbols_of v ++ rest))) → Reads limit x w rest (turns (suc n) ks p a (symbols_of w ++ rest))
      at (inr (eq, e)) f = none_whole a x w rest (suc n) eq e st
      at (inl (b, u, v, e, l, m')) f =
          let k = head a b u l in
          let short : length v ≤ n = omega (arith, len, ap length e, ap length k.2, length-append u v) in
          subst (λ z. Reads limit x z rest (turns (suc n) ks p a (symbols_of z ++ rest))) (sym e)
          (one_whole n a b x u v rest l (next_stops v rest (starts_chain b x v m') (is_member-append s.follow_last ks (next_kind rest) st).0) (f b v short m' st))

    -- more turns than tokens change nothing
    fuel : (n : ℕ) (a : A) (ts : List Symbol) → length ts ≤ n → turns n ks p a ts ≡ turns (suc n) ks p a ts
    fuel zero a [] len = ap (λ b. if b then (p a >>= turns zero ks p) [] else (Found a, [])) (sym no_end)
    fuel zero a (t ∷ ts) len = absurd (omega (arith, len))
    fuel (suc n) a ts len = at (is_member ks (next_kind ts)) (p a ts) refl (λ b m k. fuel n b m k) where
      go_on : (x : Answer A × List Symbol) → p a ts ≡ x → ((b : A) (m : List Symbol) → length m ≤ n → turns n ks p b m ≡ turns (suc n) ks p b m) → read_on x.0 (turns n ks p) x.1 ≡ read_on x.0 (turns (suc n) ks p) x.1
      go_on (Found b, m) e f =
          let k = (h a).steady.sound ts b m e in
          let c = head a b k.0 k.1 in
          let short : length m ≤ n = omega (arith, len, ap length k.2, ap (λ z. length (symbols_of z ++ m)) c.2, length-append (symbols_of c.1) m) in
          f b m short
      go_on (Refused, m) e f = refl
      go_on (TooDeep, m) e f = refl

      at : (t : Bool) (x : Answer A × List Symbol) → p a ts ≡ x → ((b : A) (m : List Symbol) → length m ≤ n → turns n ks p b m ≡ turns (suc n) ks p b m)
          → (if t then read_on x.0 (turns n ks p) x.1 else (Found a, ts)) ≡ (if t then read_on x.0 (turns (suc n) ks p) x.1 else (Found a, ts))
      at true x e f = go_on x e f
      at false x e f = refl

    fuel_up : (k n : ℕ) (a : A) (ts : List Symbol) → length ts ≤ n → turns n ks p a ts ≡ turns (n + k) ks p a ts
    fuel_up zero n a ts len = ap (λ m. turns m ks p a ts) (let e : n ≡ n + 0 = omega arith in e)
    fuel_up (suc k) n a ts len =
        fuel_up k n a ts len ∙ fuel (n + k) a ts (omega (arith, len)) ∙ ap (λ m. turns m ks p a ts) (let e : suc (n + k) ≡ n + suc k = omega arith in e)

    local_chain : (a : A) (xs r r' : List Symbol) (o : Answer A) (y : Symbol) (ys : List Symbol) → chain ks p a (xs ++ r) ≡ (o, (y ∷ ys) ++ r) → chain ks p a (xs ++ r') ≡ (o, (y ∷ ys) ++ r')
    local_chain a xs r r' o y ys e =
        let i = length (xs ++ r) in
        let j = length (xs ++ r') in
        fuel_up i j a (xs ++ r') (omega arith)
        ∙ ap (λ m. turns m ks p a (xs ++ r')) (let c : j + i ≡ i + j = omega arith in c)
        ∙ (steady_in (i + j) a).local xs r r' o y ys (sym (fuel_up j i a (xs ++ r) (omega arith)) ∙ e)

    exact_chain : (a : A) → Exact limit (repeat_sets ks s) (M a) (chain ks p a)
    exact_chain a = record {
      steady = record {
        suffix = λ ts. (steady_in (length ts) a).suffix ts;
        local = local_chain a;
        sound = λ ts. (steady_in (length ts) a).sound ts;
        refused = λ ts. (steady_in (length ts) a).refused ts;
        deep = λ ts. (steady_in (length ts) a).deep ts;
      };
      starts = starts_chain a;
      whole = λ x w rest m st. whole_in (length (symbols_of w ++ rest)) a x w rest (omega (arith, length-symbols_of w, length-append (symbols_of w) rest)) m st;
    }

    -- once a link was read, it is the same whether the turns are counted from before it or from after it
    pub link_first : (a : A) (ts : List Symbol) → is_member ks (next_kind ts) ≡ true → chain ks p a ts ≡ (p a >>= chain ks p) ts
    link_first a [] e = absurd (no (sym e ∙ no_end)) where
      no : true ≡ false → ⊥
      no q = cc
    link_first a (t ∷ ts) e = ap (λ b. if b then (p a >>= turns (length ts) ks p) (t ∷ ts) else (Found a, t ∷ ts)) e ∙ go (p a (t ∷ ts)) refl where
      go : (x : Answer A × List Symbol) → p a (t ∷ ts) ≡ x → read_on x.0 (turns (length ts) ks p) x.1 ≡ read_on x.0 (chain ks p) x.1
      go (Found b, m) e =
          let k = (h a).steady.sound (t ∷ ts) b m e in
          let c = head a b k.0 k.1 in
          let short : length m ≤ length ts = omega (arith, ap length k.2, ap (λ z. length (symbols_of z ++ m)) c.2, length-append (symbols_of c.1) m) in
          let up : length m + (length ts - length m) ≡ length ts = omega (arith, short) in
          sym (fuel_up (length ts - length m) (length m) b m (omega arith) ∙ ap (λ n. turns n ks p b m) up)
      go (Refused, m) e = refl
      go (TooDeep, m) e = refl

    -- a chain is read exactly where a link never stops before what begins the next one
    pub rule_chain : (a : A) → Rule limit (repeat_sets ks s) (M a) (chain ks p a)
    rule_chain a = record { exact = exact_chain a; sample = inhabited a }

-- what a list of items spells
pub record Listed {B S : Type 0} (none : S) (more : B → S → S) (L : B → Language) (M : S → Language) : Type 0 where
  pub at_none : (w : Word) → Empty w → M none w
  pub at_more : (x : B) (xs : S) (w : Word) → (L x ⋅ M xs) w → M (more x xs) w
  pub parts : (xs : S) (w : Word) → M xs w → ((xs ≡ none) × Empty w) ⊎ ((x : B) × (ys : S) × (xs ≡ more x ys) × (L x ⋅ M ys) w)

-- lists that grow at their end, and what it is to append one
pub record Grows {B S : Type 0} (none : S) (more : B → S → S) (and : S → B → S) (append : S → S → S) : Type 0 where
  pub at_front : (l : S) → append none l ≡ l
  pub at_end : (l : S) → append l none ≡ l
  pub at_more : (l : S) (b : B) (m : S) → append l (more b m) ≡ append (and l b) m

module _ {limit : ℕ} {B S : Type 0} {s : Sets} {L : B → Language} {M : S → Language} {none : S} {more : B → S → S} {and : S → B → S} {append : S → S → S} {p : Reader B}
    (ks : List ℕ) (listed : Listed none more L M) (grows : Grows none more and append) (h : Rule limit s L p)
    (not_empty : s.nullable ≡ false) (taken : is_subset s.first ks ≡ true) (apart : are_disjoint s.follow_last s.first ≡ true) (no_end : is_member ks 0 ≡ false) where
  -- a list behind one that was read before
  abbrev Behind : S → S → Language
  Behind l = Image (append l) M

  joined : (l x : S) (w : Word) → Or (Then (Image (and l) L) Behind) (Pure l) x w → Behind l x w
  joined l x w (inl (b, u, v, e, (i, is, k), (m, eq, n))) =
      (more i m, eq ∙ ap (λ z. append z m) is ∙ sym (grows.at_more l i m), listed.at_more i m w (u, v, e, k, n))
  joined l x w (inr (eq, e)) = (none, eq ∙ sym (grows.at_end l), listed.at_none w e)

  parted : (l x : S) (w : Word) → Behind l x w → Or (Then (Image (and l) L) Behind) (Pure l) x w
  parted l x w (m, eq, n) = at (listed.parts m w n) where
    at : ((m ≡ none) × Empty w) ⊎ ((i : B) × (ys : S) × (m ≡ more i ys) × (L i ⋅ M ys) w) → Or (Then (Image (and l) L) Behind) (Pure l) x w
    at (inl (is, e)) = inr (eq ∙ ap (append l) is ∙ grows.at_end l, e)
    at (inr (i, ys, is, (u, v, e, k, n'))) = inl (and l i, u, v, e, (i, refl, k), (ys, eq ∙ ap (append l) is ∙ grows.at_more l i ys, n'))

  -- items behind a list that was read before
  pub more_items : (l : S) → Rule limit (repeat_sets ks s) (Behind l) (chain ks (λ m. and m <$> p) l)
  more_items l = rule_chain Behind joined parted ks (λ l. (to (and l) h).exact) not_empty taken apart no_end l

  -- a list of items
  pub items : Rule limit (repeat_sets ks s) M (grown and none ks p)
  items =
      same M (more_items none)
      (λ x w (m, eq, n). subst (λ z. M z w) (sym (eq ∙ grows.at_front m)) n)
      (λ x w n. (x, sym (grows.at_front x), n))

  -- the same, where a list is begun only at one of these kinds
  pub begun : {C : Type 0} (f : S → C) → Rule limit (repeat_sets ks s) (Image f M) (by_next ks (f <$> grown and none ks p) (pure (f none)))
  begun {C} f = subst (λ q. Rule limit (repeat_sets ks s) (Image f M) q) (fun_ext (λ ts. at (is_member ks (next_kind ts)) ts refl)) (to f items) where
    none_read : (ts : List Symbol) → is_member ks (next_kind ts) ≡ false → grown and none ks p ts ≡ (Found none, ts)
    none_read [] e = refl
    none_read (t ∷ ts) e = ap (λ b. if b then ((and none <$> p) >>= turns (length ts) ks (λ l. and l <$> p)) (t ∷ ts) else (Found none, t ∷ ts)) e

    at : (b : Bool) (ts : List Symbol) → is_member ks (next_kind ts) ≡ b → (f <$> grown and none ks p) ts ≡ (if b then (f <$> grown and none ks p) ts else (Found (f none), ts))
    at true ts e = refl
    at false ts e = ap (λ z. read_on z.0 (λ a. pure (f a)) z.1) (none_read ts e)

  -- ---- where one item is there, since the next kind is one of these

  -- the words of lists with an item
  abbrev pub Some_of : S → Language
  Some_of l w = (x : B) × (ys : S) × (l ≡ more x ys) × (L x ⋅ M ys) w

  abbrev pub first_and_more : Reader S
  first_and_more = (and none <$> p) >>= chain ks (λ l. and l <$> p)

  pub some_items : Rule limit (then_sets s (repeat_sets ks s)) Some_of first_and_more
  some_items =
      same Some_of (seq (to (and none) h) more_items apart)
      (λ x w (l, u, v, e, (i, is, k), (m, eq, n)). (i, m, eq ∙ ap (λ z. append z m) is ∙ sym (grows.at_more none i m) ∙ grows.at_front (more i m), (u, v, e, k, n)))
      (λ x w (i, m, eq, (u, v, e, k, n)). (and none i, u, v, e, (i, refl, k), (m, eq ∙ sym (grows.at_front (more i m)) ∙ grows.at_more none i m, n)))

  pub first_read : {C : Type 0} (f : Answer S × List Symbol → Answer C × List Symbol) (q : Reader C) → by_next ks (λ ts. f (first_and_more ts)) q ≡ by_next ks (λ ts. f (grown and none ks p ts)) q
  first_read {C} f q = fun_ext (λ ts. at (is_member ks (next_kind ts)) ts refl) where
    at : (b : Bool) (ts : List Symbol) → is_member ks (next_kind ts) ≡ b → (if b then f (first_and_more ts) else q ts) ≡ (if b then f (grown and none ks p ts) else q ts)
    at true ts e = ap f (sym (link_first Behind joined parted ks (λ l. (to (and l) h).exact) not_empty taken apart no_end none ts e))
    at false ts e = refl

-- ---- lists of any type

pub list_grows : {A : Type 0} → Grows {B = A} [] (λ x xs. x ∷ xs) (λ xs x. xs ++ x ∷ []) (λ xs ys. xs ++ ys)
list_grows = record { at_front = λ l. refl; at_end = λ l. append-nil l; at_more = λ l x m. sym (append_assoc l (x ∷ []) m) }

pub many_listed : {A : Type 0} (L : A → Language) → Listed [] (λ x xs. x ∷ xs) L (Many L)
many_listed {A} L = record { at_none = λ w e. e; at_more = λ x xs w l. l; parts = parts } where
  parts : (xs : List A) (w : Word) → Many L xs w → ((xs ≡ []) × Empty w) ⊎ ((x : A) × (ys : List A) × (xs ≡ x ∷ ys) × (L x ⋅ Many L ys) w)
  parts [] w e = inl (refl, e)
  parts (x ∷ xs) w l = inr (x, xs, refl, l)
