-- A table of the latest entries stays one as entries are added; lists in two parts.
use Rattle.std.proofs.Common.{add-one, ◌≡◌, refl, sym, ap, subst, ◌∙◌, ℕ, zero, suc, ◌+◌, ◌-◌, ◌<◌, ◌==◌, ◌||◌, Bool, true, false, cond, List, [], ◌∷◌, ◌++◌, length, Option, Some, None, drop, eqb-true, eq-eqb, arith, if◌then◌else◌}
use Rattle.std.proofs.lemmas.Bool.{false≢true}
use Rattle.std.proofs.lemmas.Bool.Decides.{nat_tests}
use Rattle.std.proofs.lemmas.List.{append-nil, append_assoc, reverse-append}
use Rattle.std.proofs.lemmas.Option.{slice_get_within}
use Rattle.std.specs.List.{find, list_any}
use Rattle.std.specs.Prelude.{nat_le, option_map, reverse, slice_get, slice_set}
use Rattle.name_rules.specs.Indexed.{Indexed, head_at, last_of, reached, taken_from}
use Rattle.name_rules.specs.declared.entries.Latest.{Latest}
use Rattle.name_rules.specs.declared.scope.Entry.{Entry}
use Rattle.name_rules.specs.declared.scope.What.{What}

-- ---- a list from a place on

drop_some : {A : Type 0} (xs : List A) (i : ℕ) (x : A) → slice_get xs i ≡ Some x → drop i xs ≡ x ∷ drop (suc i) xs
drop_some [] i x e = absurd (cc)
drop_some (y ∷ xs) zero x e = cc
drop_some (y ∷ xs) (suc i) x e = drop_some xs i x e

pub drop_get : {A : Type 0} (xs : List A) (i : ℕ) (x : A) → slice_get xs i ≡ Some x → drop i xs ≡ x ∷ drop (i + 1) xs
drop_get xs i x e = rw (add-one i) (drop_some xs i x e)

pub drop_none : {A : Type 0} (xs : List A) (i : ℕ) → slice_get xs i ≡ None → drop i xs ≡ []
drop_none [] zero e = refl
drop_none [] (suc i) e = refl
drop_none (y ∷ xs) zero e = absurd (cc)
drop_none (y ∷ xs) (suc i) e = drop_none xs i e

pub drop_less : {A : Type 0} (xs : List A) (i : ℕ) (x : A) → slice_get xs i ≡ Some x → length xs - (i + 1) < length xs - i
drop_less xs i x e = omega (arith, slice_get_within xs i x e)

pub append_one : {A : Type 0} (xs : List A) (x : A) (ys : List A) → (xs ++ x ∷ []) ++ ys ≡ xs ++ (x ∷ ys)
append_one xs x ys = append_assoc xs (x ∷ []) ys

pub append_none : {A : Type 0} (xs : List A) → xs ++ [] ≡ xs
append_none xs = append-nil xs

abbrev none : List Entry
none = []

drop_nil : (n : ℕ) → drop n none ≡ none
drop_nil zero = refl
drop_nil (suc n) = refl

none_past : (n : ℕ) → 0 - n ≡ 0
none_past n = omega arith

all_past : (n : ℕ) → n - 0 ≡ n
all_past n = omega arith

one_past : (m n : ℕ) → suc m - suc n ≡ m - n
one_past m n = omega arith

drop_append : (n : ℕ) (xs ys : List Entry) → drop n (xs ++ ys) ≡ drop n xs ++ drop (n - length xs) ys
drop_append n [] ys = sym (ap (λ (k : ℕ). drop n none ++ drop k ys) (all_past n) ∙ ap (λ (zs : List Entry). zs ++ drop n ys) (drop_nil n))
drop_append zero (x ∷ xs) ys = sym (ap (λ (k : ℕ). (x ∷ xs) ++ drop k ys) (none_past (length (x ∷ xs))))
drop_append (suc n) (x ∷ xs) ys = drop_append n xs ys ∙ sym (ap (λ (k : ℕ). drop n xs ++ drop k ys) (one_past n (length xs)))

-- what is left of a list of two parts joins another list in two steps
pub both_parts : (all old one two below kept own : List Entry) (start n after : ℕ) → below ≡ kept → kept ++ own ≡ all → n ≡ length below → after ≡ start - n
    → one ≡ old ++ drop start below → two ≡ one ++ drop after own → two ≡ old ++ drop start all
both_parts all old one two below kept own start n after k v e f g h =
    h
    ∙ (ap (λ (xs : List Entry). xs ++ drop after own) g
    ∙ (append_assoc old (drop start below) (drop after own)
    ∙ (ap (λ (m : ℕ). old ++ (drop start below ++ drop m own)) (f ∙ ap (λ (m : ℕ). start - m) e)
    ∙ (ap (λ (xs : List Entry). old ++ xs) (sym (drop_append start below own))
    ∙ ap (λ (xs : List Entry). old ++ drop start xs) (ap (λ (xs : List Entry). xs ++ own) k ∙ v)))))

-- ---- what passes a test in a list of two parts

or_assoc : (a b c : Bool) → (a || (b || c)) ≡ ((a || b) || c)
or_assoc true b c = refl
or_assoc false b c = refl

or_none : (a : Bool) → (a || false) ≡ a
or_none true = refl
or_none false = refl

or_true : (a : Bool) → (a || true) ≡ true
or_true true = refl
or_true false = refl

any_append : {A : Type 0} (p : A → Bool) (xs ys : List A) → list_any p (xs ++ ys) ≡ (list_any p xs || list_any p ys)
any_append p [] ys = refl
any_append p (x ∷ xs) ys = ap (λ (b : Bool). p x || b) (any_append p xs ys) ∙ or_assoc (p x) (list_any p xs) (list_any p ys)

pub taken_append : (name start : ℕ) (xs ys : List Entry) → taken_from name start (xs ++ ys) ≡ (taken_from name start xs || taken_from name (start - length xs) ys)
taken_append name start xs ys =
    ap (λ (es : List Entry). list_any (λ (e : Entry). e.symbol == name) es) (drop_append start xs ys)
    ∙ any_append (λ (e : Entry). e.symbol == name) (drop start xs) (drop (start - length xs) ys)

abbrev or_found : Option Entry → Option Entry → Option Entry
or_found None y = y
or_found (Some x) y = Some x

found_step : (b : Bool) (x : Entry) (o y : Option Entry) → cond b (Some x) (or_found o y) ≡ or_found (cond b (Some x) o) y
found_step true x o y = refl
found_step false x o y = refl

find_append : (p : Entry → Bool) (xs ys : List Entry) → find p (xs ++ ys) ≡ or_found (find p xs) (find p ys)
find_append p [] ys = refl
find_append p (x ∷ xs) ys = ap (λ (o : Option Entry). cond (p x) (Some x) o) (find_append p xs ys) ∙ found_step (p x) x (find p xs) (find p ys)

abbrev what_of : Entry → What
what_of e = e.what

last_parts : (name : ℕ) (xs ys : List Entry)
    → last_of name (xs ++ ys) ≡ option_map what_of (or_found (find (λ (e : Entry). e.symbol == name) (reverse ys)) (find (λ (e : Entry). e.symbol == name) (reverse xs)))
last_parts name xs ys =
    ap (λ (es : List Entry). option_map what_of (find (λ (e : Entry). e.symbol == name) es)) (reverse-append xs ys)
    ∙ ap (λ (o : Option Entry). option_map what_of o) (find_append (λ (e : Entry). e.symbol == name) (reverse ys) (reverse xs))

some_last : (o y : Option Entry) (w : What) → option_map what_of o ≡ Some w → option_map what_of (or_found o y) ≡ Some w
some_last None y w e = absurd (cc)
some_last (Some x) y w e = e

no_last : (o y : Option Entry) → option_map what_of o ≡ None → option_map what_of (or_found o y) ≡ option_map what_of y
no_last None y e = refl
no_last (Some x) y e = absurd (cc)

pub last_own : (name : ℕ) (xs ys : List Entry) (w : What) → last_of name ys ≡ Some w → last_of name (xs ++ ys) ≡ Some w
last_own name xs ys w e = last_parts name xs ys ∙ some_last _ _ w e

pub last_below : (name : ℕ) (xs ys : List Entry) → last_of name ys ≡ None → last_of name (xs ++ ys) ≡ last_of name xs
last_below name xs ys e = last_parts name xs ys ∙ no_last _ _ e

-- ---- one more entry

mapped_if : (b : Bool) (e : Entry) (o : Option Entry) → option_map what_of (cond b (Some e) o) ≡ (if b then Some e.what else option_map what_of o)
mapped_if true e o = refl
mapped_if false e o = refl

last_push : (name : ℕ) (xs : List Entry) (e : Entry) → last_of name (xs ++ e ∷ []) ≡ (if e.symbol == name then Some e.what else last_of name xs)
last_push name xs e =
    ap (λ (es : List Entry). option_map what_of (find (λ (x : Entry). x.symbol == name) es)) (reverse-append xs (e ∷ []))
    ∙ mapped_if (e.symbol == name) e (find (λ (x : Entry). x.symbol == name) (reverse xs))

taken_other : (name start : ℕ) (xs : List Entry) (e : Entry) → (e.symbol == name) ≡ false → taken_from name start (xs ++ e ∷ []) ≡ taken_from name start xs
taken_other name zero [] e h = ap (λ (b : Bool). b || false) h
taken_other name (suc n) [] e h = ap (λ (es : List Entry). list_any (λ (x : Entry). x.symbol == name) es) (drop_nil n)
taken_other name zero (x ∷ xs) e h = ap (λ (b : Bool). x.symbol == name || b) (taken_other name zero xs e h)
taken_other name (suc n) (x ∷ xs) e h = taken_other name n xs e h

le_suc : (a b : ℕ) → nat_le a b ≡ nat_le (suc a) (suc b)
le_suc a b = grind (arith, nat_tests)

le_none : (n : ℕ) → nat_le (suc n) 0 ≡ false
le_none n = grind (arith, nat_tests)

le_zero : (n : ℕ) → nat_le 0 n ≡ true
le_zero n = grind (arith, nat_tests)

any_last : (name : ℕ) (xs : List Entry) (e : Entry) → (e.symbol == name) ≡ true → list_any (λ (x : Entry). x.symbol == name) (xs ++ e ∷ []) ≡ true
any_last name [] e h = ap (λ (b : Bool). b || false) h
any_last name (x ∷ xs) e h = ap (λ (b : Bool). x.symbol == name || b) (any_last name xs e h) ∙ or_true (x.symbol == name)

taken_here : (name start : ℕ) (xs : List Entry) (e : Entry) → (e.symbol == name) ≡ true → taken_from name start (xs ++ e ∷ []) ≡ nat_le start (length xs)
taken_here name zero xs e h = any_last name xs e h ∙ sym (le_zero (length xs))
taken_here name (suc n) [] e h = ap (λ (es : List Entry). list_any (λ (x : Entry). x.symbol == name) es) (drop_nil n) ∙ sym (le_none n)
taken_here name (suc n) (x ∷ xs) e h = taken_here name n xs e h ∙ le_suc n (length xs)

abbrev pub latest_of : List Entry → Entry → Latest
latest_of xs e = record { place = length xs; what = e.what }

abbrev what_in : Latest → What
what_in l = l.what

head_if : (b : Bool) (l : Latest) (o : Option Latest) → option_map what_in (if b then Some l else o) ≡ (if b then Some l.what else option_map what_in o)
head_if true l o = refl
head_if false l o = refl

taken_by : (b : Bool) (name start : ℕ) (xs : List Entry) (e : Entry) (new old : Option Latest) → (e.symbol == name) ≡ b
    → new ≡ (if b then Some (latest_of xs e) else old) → reached old start ≡ taken_from name start xs → reached new start ≡ taken_from name start (xs ++ e ∷ [])
taken_by true name start xs e new old h n t = ap (λ (o : Option Latest). reached o start) n ∙ sym (taken_here name start xs e h)
taken_by false name start xs e new old h n t = ap (λ (o : Option Latest). reached o start) n ∙ (t ∙ sym (taken_other name start xs e h))

indexed_next : (heads new : List (Option Latest)) (xs : List Entry) (e : Entry)
    → ((name : ℕ) → head_at new name ≡ (if e.symbol == name then Some (latest_of xs e) else head_at heads name))
    → Indexed heads xs → Indexed new (xs ++ e ∷ [])
indexed_next heads new xs e n i = record {
  last = λ (name : ℕ).
      ap (λ (o : Option Latest). option_map what_in o) (n name)
      ∙ (head_if (e.symbol == name) (latest_of xs e) (head_at heads name)
      ∙ (ap (λ (o : Option What). if e.symbol == name then Some e.what else o) (i.last name)
      ∙ sym (last_push name xs e)));
  taken = λ (name start : ℕ). taken_by (e.symbol == name) name start xs e (head_at new name) (head_at heads name) refl (n name) (i.taken name start);
}

-- ---- the table

pub head_none : (heads : List (Option Latest)) (name : ℕ) → head_at (heads ++ None ∷ []) name ≡ head_at heads name
head_none [] zero = refl
head_none [] (suc n) = refl
head_none (h ∷ hs) zero = refl
head_none (h ∷ hs) (suc n) = head_none hs n

head_same : (hs : List (Option Latest)) (at : ℕ) (l : Latest) → at < length hs → head_at (slice_set hs at (Some l)) at ≡ Some l
head_same [] at l h = absurd (omega (arith, h))
head_same (x ∷ hs) zero l h = refl
head_same (x ∷ hs) (suc n) l h = head_same hs n l (omega (arith, h))

head_other : (hs : List (Option Latest)) (at name : ℕ) (l : Latest) → (at ≡ name → ⊥) → head_at (slice_set hs at (Some l)) name ≡ head_at hs name
head_other [] at name l h = refl
head_other (x ∷ hs) zero zero l h = absurd (h refl)
head_other (x ∷ hs) zero (suc m) l h = refl
head_other (x ∷ hs) (suc n) zero l h = refl
head_other (x ∷ hs) (suc n) (suc m) l h = head_other hs n m l (λ e. h (ap suc e))

head_by : (b : Bool) (hs : List (Option Latest)) (at name : ℕ) (l : Latest) → (at == name) ≡ b → at < length hs
    → head_at (slice_set hs at (Some l)) name ≡ (if b then Some l else head_at hs name)
head_by true hs at name l e h = subst (λ (n : ℕ). head_at (slice_set hs at (Some l)) n ≡ Some l) (eqb-true at name e) (head_same hs at l h)
head_by false hs at name l e h = head_other hs at name l (λ f. false≢true (sym e ∙ eq-eqb at name f))

pub indexed_none : Indexed [] []
indexed_none = record {
  last = λ (name : ℕ). refl;
  taken = λ (name start : ℕ). sym (ap (λ (es : List Entry). list_any (λ (x : Entry). x.symbol == name) es) (drop_nil start));
}

pub noted_indexed : (heads wide : List (Option Latest)) (xs : List Entry) (e : Entry) → e.symbol < length wide
    → ((name : ℕ) → head_at wide name ≡ head_at heads name)
    → Indexed heads xs → Indexed (slice_set wide e.symbol (Some (latest_of xs e))) (xs ++ e ∷ [])
noted_indexed heads wide xs e h w i = indexed_next heads (slice_set wide e.symbol (Some (latest_of xs e))) xs e
    (λ (name : ℕ). head_by (e.symbol == name) wide e.symbol name (latest_of xs e) refl h ∙ ap (λ (o : Option Latest). if e.symbol == name then Some (latest_of xs e) else o) (w name)) i
