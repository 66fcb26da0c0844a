-- Repetition, which each item may end.
use Rattle.std.proofs.Common.{◌≡◌, ℕ, zero, suc, ◌+◌, ◌≤◌, List, [], ◌∷◌, ◌++◌, length, Bool, true, false, if◌then◌else◌, ◌⊎◌, inl, inr, refl, sym, ap, ◌∙◌, subst, arith, length-append}
use Rattle.ada_base.specs.Symbols.{Symbol, Nested, Word, symbols_of, is_member, next_kind}
use Rattle.syntax_readers.specs.Readers.{Answer, Found, Refused, TooDeep, Reader, read_on, ◌>>=◌, pure, step, repeat_for, repeat}
use Rattle.ada_base.specs.Languages.{Language, Next, Repeated, Inhabited}
use Rattle.syntax_readers.specs.Sets.{Sets, Starts, Stops, are_disjoint, is_subset, repeat_sets}
use Rattle.ada_base.specs.Derivations.{AllWithin}
use Rattle.syntax_readers.specs.Exact.{Reads, Steady, Exact}
use Rattle.syntax_readers.proofs.KindSets.{true_false, is_member-append, is_subset-is_member, are_disjoint-is_member}
use Rattle.syntax_readers.proofs.Words.{regroup, length-symbols_of}
use Rattle.syntax_readers.proofs.Renamings.{steady_as}
use Rattle.syntax_readers.proofs.Singles.{steady_pure, exact_pure, inhabited_pure}
use Rattle.syntax_readers.proofs.Sequences.{steady_then, reads_then}
use Rattle.syntax_readers.proofs.Choices.{steady_or}
use Rattle.syntax_readers.proofs.Images.{reads_image, steady_image}

module _ {limit : ℕ} {A S : Type 0} {s : Sets} {L : A ⊎ S → Language} {p : Reader (A ⊎ S)} (none : S) (more : A → S → S) (M : S → Language)
    (join : (xs : S) (w : Word) → Repeated none more L M xs w → M xs w)
    (part : (xs : S) (w : Word) → M xs w → Repeated none more L M xs w)
    (ks : List ℕ) (h : Exact limit s L p) where
  word_of_none : M none []
  word_of_none = join none [] (inr (refl, refl))

  inhabited_next : (x : A ⊎ S) → Inhabited (Next more M x)
  inhabited_next (inl a) next = (more a none, [], [], (none, refl, word_of_none), refl)
  inhabited_next (inr y) next = inhabited_pure y next

  steady_step : (n : ℕ) → Steady M (repeat_for none more n ks p) → (x : A ⊎ S) → Steady (Next more M x) (step more (repeat_for none more n ks p) x)
  steady_step n h' (inl a) = steady_image (more a) M (repeat_for none more n ks p) h'
  steady_step n h' (inr y) = steady_pure y

  steady_in : (n : ℕ) → Steady M (repeat_for none more n ks p)
  steady_in zero = steady_as M (steady_pure none) (λ xs w k. join xs w (inr k))
  steady_in (suc n) =
      steady_as M
      (steady_or ks
      (steady_then L (λ x. Next more M x) p (step more (repeat_for none more n ks p)) h.steady
      (steady_step n (steady_in n)) inhabited_next)
      (steady_pure none))
      join

  module _ (not_null : s.nullable ≡ false) (sub : is_subset s.first ks ≡ true) (apart : are_disjoint s.follow_last s.first ≡ true) (no_end : is_member ks 0 ≡ false) where
    head : (a : A ⊎ S) (w : Word) → L a w → (c : Nested) × (v : Word) × (w ≡ c ∷ v) × (is_member s.first c.symbol.kind ≡ true)
    head a w l = at (h.starts a w l) where
      at : Starts s w → (c : Nested) × (v : Word) × (w ≡ c ∷ v) × (is_member s.first c.symbol.kind ≡ true)
      at (inl k) = k
      at (inr (e, n)) = true_false (sym n ∙ not_null)

    starts_repeat : (xs : S) (w : Word) → M xs w → Starts (repeat_sets ks s) w
    starts_repeat xs w m = at (part xs w m) where
      at : Repeated none more L M xs w → Starts (repeat_sets ks s) w
      at (inl (a, u, v, e, l, k)) = let k = head a u l in inl (k.0, k.1 ++ v, e ∙ ap (λ z. z ++ v) k.2, k.3)
      at (inr (eq, e)) = inr (e, refl)

    next_stops : (v : Word) (rest : List Symbol) → Starts (repeat_sets ks s) v → Stops s rest → Stops s (symbols_of v ++ rest)
    next_stops v rest (inl (c, v', e, k)) st = subst (λ z. Stops s (symbols_of z ++ rest)) (sym e) (are_disjoint-is_member s.follow_last s.first c.symbol.kind apart k)
    next_stops v rest (inr (e, n)) st = subst (λ z. Stops s (symbols_of z ++ rest)) (sym e) st

    none_whole : (xs : S) (w : Word) (rest : List Symbol) (n : ℕ) → xs ≡ none → w ≡ [] → Stops (repeat_sets ks s) rest → Reads limit xs w rest (repeat_for none more n ks p (symbols_of w ++ rest))
    none_whole xs w rest zero eq e st = inl (subst (AllWithin limit) (sym e) tt, ap (λ (z : Word). (Found none, symbols_of z ++ rest)) e ∙ ap (λ z. (Found z, rest)) (sym eq))
    none_whole xs w rest (suc n) eq e st =
        let out = (is_member-append s.follow_last ks (next_kind rest) st).1 in
        inl (subst (AllWithin limit) (sym e) tt, ap (λ (z : Word). repeat_for none more (suc n) ks p (symbols_of z ++ rest)) e ∙ ap (λ b. if b then (p >>= (step more (repeat_for none more n ks p))) rest else (Found none, rest)) out ∙ ap (λ z. (Found z, rest)) (sym eq))

    one_whole : (n : ℕ) (x : A ⊎ S) (y : S) (u v : Word) (rest : List Symbol) → L x u → Stops s (symbols_of v ++ rest) → Reads limit y v rest (step more (repeat_for none more n ks p) x (symbols_of v ++ rest)) → Reads limit y (u ++ v) rest (repeat_for none more (suc n) ks p (symbols_of (u ++ v) ++ rest))
    one_whole n x y u v rest l st next =
        let k = head x u l in
        let here : is_member ks (next_kind (symbols_of u ++ (symbols_of v ++ rest))) ≡ true = subst (λ z. is_member ks (next_kind (symbols_of z ++ (symbols_of v ++ rest))) ≡ true) (sym k.2) (is_subset-is_member s.first ks k.0.symbol.kind sub k.3) in
        let q : A ⊎ S → Reader S = step more (repeat_for none more n ks p) in
        subst (λ z. Reads limit y (u ++ v) rest (repeat_for none more (suc n) ks p z)) (sym (regroup u v rest))
        (subst (λ b. Reads limit y (u ++ v) rest (if b then (p >>= q) (symbols_of u ++ (symbols_of v ++ rest)) else (Found none, symbols_of u ++ (symbols_of v ++ rest)))) (sym here)
        (reads_then limit q x y u v rest (p (symbols_of u ++ (symbols_of v ++ rest))) (h.whole x u (symbols_of v ++ rest) l st) next))

    whole_in : (n : ℕ) (xs : S) (w : Word) (rest : List Symbol) → length w ≤ n → M xs w → Stops (repeat_sets ks s) rest → Reads limit xs w rest (repeat_for none more n ks p (symbols_of w ++ rest))
    whole_in zero xs w rest len m st = at (part xs w m) where
      at : Repeated none more L M xs w → Reads limit xs w rest (repeat_for none more zero ks p (symbols_of w ++ rest))
      at (inr (eq, e)) = none_whole xs w rest zero eq e st
      at (inl (a, u, v, e, l, k)) = let k = head a u l in absurd (omega (arith, len, ap length e, ap length k.2, length-append u v))
    whole_in (suc n) xs w rest len m st = at (part xs w m) (λ ys v. whole_in n ys v rest) where
      at : Repeated none more L M xs w → ((ys : S) (v : Word) → length v ≤ n → M ys v → Stops (repeat_sets ks s) rest → Reads limit ys v rest (repeat_for none more n ks p (symbols_of v ++ rest))) → Reads limit xs w rest (repeat_for none more (suc n) ks p (symbols_of w ++ rest))
      at (inr (eq, e)) f = none_whole xs w rest (suc n) eq e st
      at (inl (inl a, u, v, e, l, (ys, eq, m'))) f =
          let k = head (inl a) u l in
          let short : length v ≤ n = omega (arith, len, ap length e, ap length k.2, length-append u v) in
          subst (λ z. Reads limit z w rest (repeat_for none more (suc n) ks p (symbols_of w ++ rest))) (sym eq)
          (subst (λ z. Reads limit (more a ys) z rest (repeat_for none more (suc n) ks p (symbols_of z ++ rest))) (sym e)
          (one_whole n (inl a) (more a ys) u v rest l (next_stops v rest (starts_repeat ys v m') (is_member-append s.follow_last ks (next_kind rest) st).0)
          (reads_image limit (more a) ys v rest (repeat_for none more n ks p (symbols_of v ++ rest)) (f ys v short m' st))))
      at (inl (inr y, u, v, e, l, (eq, nl))) f =
          subst (λ z. Reads limit xs z rest (repeat_for none more (suc n) ks p (symbols_of z ++ rest))) (sym e)
          (one_whole n (inr y) xs u v rest l (next_stops v rest (inr (nl, refl)) (is_member-append s.follow_last ks (next_kind rest) st).0)
          ((exact_pure y).whole xs v rest (eq, nl) refl))

    -- more turns than tokens change no_kind
    fuel : (n : ℕ) (ts : List Symbol) → length ts ≤ n → repeat_for none more n ks p ts ≡ repeat_for none more (suc n) ks p ts
    fuel zero [] len = ap (λ b. if b then (p >>= (step more (repeat_for none more zero ks p))) [] else (Found none, [])) (sym no_end)
    fuel zero (t ∷ ts) len = absurd (omega (arith, len))
    fuel (suc n) ts len = at (is_member ks (next_kind ts)) (p ts) refl (λ m k. fuel n m k) where
      go_on : (x : Answer (A ⊎ S) × List Symbol) → p ts ≡ x → ((m : List Symbol) → length m ≤ n → repeat_for none more n ks p m ≡ repeat_for none more (suc n) ks p m) → read_on x.0 (step more (repeat_for none more n ks p)) x.1 ≡ read_on x.0 (step more (repeat_for none more (suc n) ks p)) x.1
      go_on (Found (inr y), m) e f = refl
      go_on (Found (inl a), m) e f =
          let k = h.steady.sound ts (inl a) m e in
          let c = head (inl a) k.0 k.1 in
          let short : length m ≤ n = omega (arith, len, ap length k.2, ap (λ z. length (symbols_of z ++ m)) c.2, length-append (symbols_of c.1) m) in
          ap (λ z. read_on z.0 (λ rest. pure (more a rest)) z.1) (f m short)
      go_on (Refused, m) e f = refl
      go_on (TooDeep, m) e f = refl

      at : (b : Bool) (x : Answer (A ⊎ S) × List Symbol) → p ts ≡ x → ((m : List Symbol) → length m ≤ n → repeat_for none more n ks p m ≡ repeat_for none more (suc n) ks p m) → (if b then read_on x.0 (step more (repeat_for none more n ks p)) x.1 else (Found none, ts)) ≡ (if b then read_on x.0 (step more (repeat_for none more (suc n) ks p)) x.1 else (Found none, ts))
      at true x e f = go_on x e f
      at false x e f = refl

    fuel_up : (k n : ℕ) (ts : List Symbol) → length ts ≤ n → repeat_for none more n ks p ts ≡ repeat_for none more (n + k) ks p ts
    fuel_up zero n ts len = ap (λ m. repeat_for none more m ks p ts) (let e : n ≡ n + 0 = omega arith in e)
    fuel_up (suc k) n ts len =
        fuel_up k n ts len ∙ fuel (n + k) ts (omega (arith, len)) ∙ ap (λ m. repeat_for none more m ks p ts) (let e : suc (n + k) ≡ n + suc k = omega arith in e)

    local_repeat : (xs r r' : List Symbol) (o : Answer (S)) (y : Symbol) (ys : List Symbol) → repeat none more ks p (xs ++ r) ≡ (o, (y ∷ ys) ++ r) → repeat none more ks p (xs ++ r') ≡ (o, (y ∷ ys) ++ r')
    local_repeat xs r r' o y ys e =
        let a = length (xs ++ r) in
        let b = length (xs ++ r') in
        fuel_up a b (xs ++ r') (omega arith)
        ∙ ap (λ m. repeat_for none more m ks p (xs ++ r')) (let c : b + a ≡ a + b = omega arith in c)
        ∙ (steady_in (a + b)).local xs r r' o y ys (sym (fuel_up b a (xs ++ r) (omega arith)) ∙ e)

    -- a repetition is read exactly where an item never stops before what begins the next one
    pub exact_repeat : Exact limit (repeat_sets ks s) M (repeat none more ks p)
    exact_repeat = record {
      steady = record {
        suffix = λ ts. (steady_in (length ts)).suffix ts;
        local = local_repeat;
        sound = λ ts. (steady_in (length ts)).sound ts;
        refused = λ ts. (steady_in (length ts)).refused ts;
        deep = λ ts. (steady_in (length ts)).deep ts;
      };
      starts = starts_repeat;
      whole = λ xs w rest m st. whole_in (length (symbols_of w ++ rest)) xs w rest (omega (arith, length-symbols_of w, length-append (symbols_of w) rest)) m st;
    }
