-- One reader and then the one that its value names.
use Rattle.std.proofs.Common.{◌≡◌, ℕ, ◌+◌, List, [], ◌∷◌, ◌++◌, length, true, false, ◌&&◌, ◌⊎◌, inl, inr, refl, sym, ap, ◌∙◌, subst, append_assoc}
use Rattle.ada_base.specs.Symbols.{Symbol, numbered, Word, symbols_of, is_member, next_kind}
use Rattle.syntax_readers.specs.Readers.{Answer, Found, Refused, TooDeep, Reader, read_on, ◌>>=◌}
use Rattle.ada_base.specs.Languages.{Language, Then, Begins, Inhabited}
use Rattle.syntax_readers.specs.Sets.{Sets, Starts, Stops, are_disjoint, when, then_sets}
use Rattle.syntax_readers.specs.Exact.{RefusesWell, SinksWell, Reads, Steady, Exact}
use Rattle.syntax_readers.proofs.Answers.{refused_found, deep_found, deep_refused}
use Rattle.syntax_readers.proofs.KindSets.{is_member-left, is_member-right, is_member-append, are_disjoint-is_member}
use Rattle.syntax_readers.proofs.Words.{symbols_of-append, regroup, numbered-append, AllWithin-append}

cons_of : (f : List Symbol) (y : Symbol) (ys : List Symbol) → (z : Symbol) × (zs : List Symbol) × (f ++ y ∷ ys ≡ z ∷ zs)
cons_of [] y ys = (y, ys, refl)
cons_of (z ∷ f) y ys = (z, f ++ y ∷ ys, refl)

-- what begins a word of the first begins one of the sequence
pub begins_then : {A B : Type 0} (L : A → Language) (M : A → B → Language) → ((a : A) → Inhabited (M a)) → (front : List Symbol) → Begins L front → Begins (Then L M) front
begins_then L M sample front begins next =
    let (a, u, xs, l, e) = begins next in
    let (b, v, ys, m, f) = sample a (next + length xs) in (
      b,
      u ++ v,
      xs ++ ys,
      (a, u, v, refl, l, m),
      symbols_of-append u v ∙ ap (λ z. z ++ symbols_of v) e ∙ ap (λ z. (front ++ numbered next xs) ++ z) f
          ∙ append_assoc front (numbered next xs) (numbered (next + length xs) ys) ∙ ap (λ z. front ++ z) (sym (numbered-append next xs ys)),
    )

module _ {A B : Type 0} (L : A → Language) (M : A → B → Language) (p : Reader A) (q : A → Reader B) (hp : Steady L p) (hq : (a : A) → Steady (M a) (q a)) where
  suffix_then : (ts : List Symbol) (x : Answer A × List Symbol) → p ts ≡ x → (front : List Symbol) × (ts ≡ front ++ (read_on x.0 q x.1).1)
  suffix_then ts (Found a, m) e =
      let h = hp.suffix ts in
      let k = (hq a).suffix m in
      (h.0 ++ k.0, h.1 ∙ ap (λ z. h.0 ++ z.1) e ∙ ap (λ z. h.0 ++ z) k.1 ∙ sym (append_assoc h.0 k.0 ((q a m).1)))
  suffix_then ts (Refused, m) e = let h = hp.suffix ts in (h.0, h.1 ∙ ap (λ z. h.0 ++ z.1) e)
  suffix_then ts (TooDeep, m) e = let h = hp.suffix ts in (h.0, h.1 ∙ ap (λ z. h.0 ++ z.1) e)

  local_then : (xs r r' : List Symbol) (o : Answer B) (y : Symbol) (ys : List Symbol) (x : Answer A × List Symbol) → p (xs ++ r) ≡ x → read_on x.0 q x.1 ≡ (o, (y ∷ ys) ++ r) → (p >>= q) (xs ++ r') ≡ (o, (y ∷ ys) ++ r')
  local_then xs r r' o y ys (Found a, m) e h =
      let k = (hq a).suffix m in
      let z = cons_of k.0 y ys in
      let meq : m ≡ (z.0 ∷ z.1) ++ r = k.1 ∙ ap (λ v. k.0 ++ v.1) h ∙ sym (append_assoc k.0 (y ∷ ys) r) ∙ ap (λ v. v ++ r) z.2 in
      let e' = hp.local xs r r' (Found a) z.0 z.1 (e ∙ ap (λ v. (Found a, v)) meq) in
      let h' = (hq a).local (z.0 ∷ z.1) r r' o y ys (ap (q a) (sym meq) ∙ h) in
      ap (λ (v : Answer A × List Symbol). read_on v.0 q v.1) e' ∙ h'
  local_then xs r r' o y ys (Refused, m) e h =
      let e' = hp.local xs r r' Refused y ys (e ∙ ap (λ v. (Refused, v.1)) h) in
      ap (λ (v : Answer A × List Symbol). read_on v.0 q v.1) e' ∙ ap (λ (v : Answer B × List Symbol). (v.0, (y ∷ ys) ++ r')) h
  local_then xs r r' o y ys (TooDeep, m) e h =
      let e' = hp.local xs r r' TooDeep y ys (e ∙ ap (λ v. (TooDeep, v.1)) h) in
      ap (λ (v : Answer A × List Symbol). read_on v.0 q v.1) e' ∙ ap (λ (v : Answer B × List Symbol). (v.0, (y ∷ ys) ++ r')) h

  sound_then : (ts : List Symbol) (b : B) (rest : List Symbol) (x : Answer A × List Symbol) → p ts ≡ x → read_on x.0 q x.1 ≡ (Found b, rest) → (w : Word) × Then L M b w × (ts ≡ symbols_of w ++ rest)
  sound_then ts b rest (Found a, m) e h =
      let s = hp.sound ts a m e in
      let t = (hq a).sound m b rest h in
      (s.0 ++ t.0, (a, s.0, t.0, refl, s.1, t.1), s.2 ∙ ap (λ z. symbols_of s.0 ++ z) t.2 ∙ sym (regroup s.0 t.0 rest))
  sound_then ts b rest (Refused, m) e h = absurd (refused_found b (ap (λ v. v.0) h))
  sound_then ts b rest (TooDeep, m) e h = absurd (deep_found b (ap (λ v. v.0) h))

  module _ (sample : (a : A) → Inhabited (M a)) where
    begins_first : (front : List Symbol) → Begins L front → Begins (Then L M) front
    begins_first = begins_then L M sample

    begins_next : (a : A) (u : Word) (front : List Symbol) → L a u → Begins (M a) front → Begins (Then L M) (symbols_of u ++ front)
    begins_next a u front l begins next =
        let (b, v, more, m, e) = begins next in
        (b, u ++ v, more, (a, u, v, refl, l, m), symbols_of-append u v ∙ ap (λ z. symbols_of u ++ z) e ∙ sym (append_assoc (symbols_of u) front (numbered next more)))

    refused_next : (a : A) (u : Word) (front : List Symbol) → L a u → ((front ≡ []) ⊎ Begins (M a) front) → Begins (Then L M) (symbols_of u ++ front)
    refused_next a u front l (inl e) = subst (λ z. Begins (Then L M) (symbols_of u ++ z)) (sym e) (begins_next a u [] l (sample a))
    refused_next a u front l (inr begins) = begins_next a u front l begins

    refused_first : (front : List Symbol) → ((front ≡ []) ⊎ Begins L front) → ((front ≡ []) ⊎ Begins (Then L M) front)
    refused_first front (inl e) = inl e
    refused_first front (inr begins) = inr (begins_first front begins)

    refused_then : (ts back : List Symbol) (x : Answer A × List Symbol) → p ts ≡ x → read_on x.0 q x.1 ≡ (Refused, back) → RefusesWell (Then L M) ts back
    refused_then ts back (Found a, m) e h =
        let s = hp.sound ts a m e in
        let k = (hq a).refused m back h in
        (symbols_of s.0 ++ k.0, s.2 ∙ ap (λ z. symbols_of s.0 ++ z) k.1 ∙ sym (append_assoc (symbols_of s.0) k.0 back), inr (refused_next a s.0 k.0 s.1 k.2))
    refused_then ts back (Refused, m) e h =
        let k = hp.refused ts back (e ∙ ap (λ v. (Refused, v.1)) h) in
        (k.0, k.1, refused_first k.0 k.2)
    refused_then ts back (TooDeep, m) e h = absurd (deep_refused (ap (λ v. v.0) h))

    deep_then : (ts back : List Symbol) (x : Answer A × List Symbol) → p ts ≡ x → read_on x.0 q x.1 ≡ (TooDeep, back) → SinksWell (Then L M) ts back
    deep_then ts back (Found a, m) e h =
        let s = hp.sound ts a m e in
        let k = (hq a).deep m back h in (
          symbols_of s.0 ++ k.0,
          k.1,
          k.2,
          s.2 ∙ ap (λ z. symbols_of s.0 ++ z) k.3 ∙ sym (append_assoc (symbols_of s.0) k.0 back),
          k.4,
          subst (Begins (Then L M)) (sym (append_assoc (symbols_of s.0) k.0 (k.1 ∷ []))) (begins_next a s.0 (k.0 ++ k.1 ∷ []) s.1 k.5),
        )
    deep_then ts back (TooDeep, m) e h =
        let k = hp.deep ts back (e ∙ ap (λ v. (TooDeep, v.1)) h) in
        (k.0, k.1, k.2, k.3, k.4, begins_first (k.0 ++ k.1 ∷ []) k.5)
    deep_then ts back (Refused, m) e h = absurd (deep_refused (sym (ap (λ v. v.0) h)))

    pub steady_then : Steady (Then L M) (p >>= q)
    steady_then = record {
      suffix = λ ts. suffix_then ts (p ts) refl;
      local = λ xs r r' o y ys h. local_then xs r r' o y ys (p (xs ++ r)) refl h;
      sound = λ ts b rest h. sound_then ts b rest (p ts) refl h;
      refused = λ ts back h. refused_then ts back (p ts) refl h;
      deep = λ ts back h. deep_then ts back (p ts) refl h;
    }

-- what two readers do with a word of two parts
pub reads_then : (limit : ℕ) {A B : Type 0} (q : A → Reader B) (a : A) (b : B) (u v : Word) (rest : List Symbol) (x : Answer A × List Symbol)
    → Reads limit a u (symbols_of v ++ rest) x → Reads limit b v rest (q a (symbols_of v ++ rest)) → Reads limit b (u ++ v) rest (read_on x.0 q x.1)
reads_then limit q a b u v rest x (inl (sh, e)) (inl (sh', e')) = inl (AllWithin-append limit u v sh sh', ap (λ z. read_on z.0 q z.1) e ∙ e')
reads_then limit q a b u v rest x (inl (sh, e)) (inr (f, c, w, eq, sf, dp, e')) =
    inr (u ++ f, c, w, ap (λ z. u ++ z) eq ∙ sym (append_assoc u f (c ∷ w)), AllWithin-append limit u f sh sf, dp, ap (λ z. read_on z.0 q z.1) e ∙ e')
reads_then limit q a b u v rest x (inr (f, c, w, eq, sf, dp, e)) k =
    inr (f, c, w ++ v, ap (λ z. z ++ v) eq ∙ append_assoc f (c ∷ w) v, sf, dp, ap (λ z. read_on z.0 q z.1) e ∙ ap (λ z. (TooDeep, c.symbol ∷ z)) (sym (regroup w v rest)))

stops_between : (s t : Sets) → are_disjoint s.follow_last t.first ≡ true → (v : Word) (rest : List Symbol) → Starts t v → Stops (then_sets s t) rest → Stops s (symbols_of v ++ rest)
stops_between s t d v rest (inl (c, v', e, h)) st = subst (λ z. Stops s (symbols_of z ++ rest)) (sym e) (are_disjoint-is_member s.follow_last t.first c.symbol.kind d h)
stops_between s t d v rest (inr (e, n)) st =
    let k = (is_member-append t.follow_last (when t.nullable s.follow_last) (next_kind rest) st).1 in
    subst (λ z. Stops s (symbols_of z ++ rest)) (sym e) (subst (λ b. is_member (when b s.follow_last) (next_kind rest) ≡ false) n k)

starts_then : (s t : Sets) (u v : Word) → Starts s u → Starts t v → Starts (then_sets s t) (u ++ v)
starts_then s t u v (inl (c, u', e, h)) k = inl (c, u' ++ v, ap (λ z. z ++ v) e, is_member-left s.first (when s.nullable t.first) c.symbol.kind h)
starts_then s t u v (inr (e, n)) (inl (c, v', e', h)) =
    inl (c, v', ap (λ z. z ++ v) e ∙ e', is_member-right s.first (when s.nullable t.first) c.symbol.kind (subst (λ b. is_member (when b t.first) c.symbol.kind ≡ true) (sym n) h))
starts_then s t u v (inr (e, n)) (inr (e', n')) = inr (ap (λ z. z ++ v) e ∙ e', ap (λ b. b && t.nullable) n ∙ n')

-- a sequence is read exactly where no reader of the first goes on with what begins the second
pub exact_then : {limit : ℕ} {A B : Type 0} {s t : Sets} {L : A → Language} {M : A → B → Language} {p : Reader A} {q : A → Reader B}
    → Exact limit s L p → ((a : A) → Exact limit t (M a) (q a)) → ((a : A) → Inhabited (M a))
    → are_disjoint s.follow_last t.first ≡ true → Exact limit (then_sets s t) (Then L M) (p >>= q)
exact_then {limit} {s} {t} {L} {M} {p} {q} hp hq sample d = record {
  steady = steady_then L M p q hp.steady (λ a. (hq a).steady) sample;
  starts = λ b w (a, u, v, e, l, m). subst (Starts (then_sets s t)) (sym e) (starts_then s t u v (hp.starts a u l) ((hq a).starts b v m));
  whole = λ b w rest (a, u, v, e, l, m) st.
      subst (λ z. Reads limit b z rest ((p >>= q) (symbols_of z ++ rest))) (sym e)
      (subst (λ z. Reads limit b (u ++ v) rest ((p >>= q) z)) (sym (regroup u v rest))
      (reads_then limit q a b u v rest (p (symbols_of u ++ (symbols_of v ++ rest)))
      (hp.whole a u (symbols_of v ++ rest) l (stops_between s t d v rest ((hq a).starts b v m) st))
      ((hq a).whole b v rest m (is_member-append t.follow_last (when t.nullable s.follow_last) (next_kind rest) st).0)));
}
