-- Loops over the characters from the front on that pass a test.
use Rattle.std.proofs.Common.{◌≡◌, ℕ, suc, ◌+◌, ◌<◌, Bool, true, false, List, [], ◌∷◌, ◌++◌, length, get_or, take, drop, refl, sym, ap, ◌∙◌, append_assoc, add-one}
use Rattle.std.proofs.Math.Seq.{drop-cons, take-suc, drop-length}
use Rattle.std.proofs.lemmas.List.{append-nil}
use Rattle.syntax_lexer.specs.Reading.{run, beyond}

-- the first n characters pass
pub record Passed (p : ℕ → Bool) (cs : List ℕ) (n : ℕ) : Type 0 where
  pub front : run p cs ≡ take n cs ++ run p (drop n cs)
  pub rest : beyond p cs ≡ beyond p (drop n cs)

pub record Ended (p : ℕ → Bool) (cs : List ℕ) (n : ℕ) : Type 0 where
  pub front : take n cs ≡ run p cs
  pub rest : drop n cs ≡ beyond p cs

pub passed_none : (p : ℕ → Bool) (cs : List ℕ) → Passed p cs 0
passed_none p cs = record { front = refl; rest = refl }

pub run_here : (p : ℕ → Bool) (c : ℕ) (cs : List ℕ) → p c ≡ true → run p (c ∷ cs) ≡ c ∷ run p cs
run_here p c cs h = rw h refl

pub beyond_here : (p : ℕ → Bool) (c : ℕ) (cs : List ℕ) → p c ≡ true → beyond p (c ∷ cs) ≡ beyond p cs
beyond_here p c cs h = rw h refl

pub run_stop : (p : ℕ → Bool) (c : ℕ) (cs : List ℕ) → p c ≡ false → run p (c ∷ cs) ≡ []
run_stop p c cs h = rw h refl

pub beyond_stop : (p : ℕ → Bool) (c : ℕ) (cs : List ℕ) → p c ≡ false → beyond p (c ∷ cs) ≡ c ∷ cs
beyond_stop p c cs h = rw h refl

pub passed_more : (p : ℕ → Bool) (cs : List ℕ) (n : ℕ) → Passed p cs n → n < length cs → p (get_or cs n 0) ≡ true → Passed p cs (n + 1)
passed_more p cs n h below here =
    let cut = drop-cons cs n 0 below in
    record {
      front = rw (add-one, take-suc cs n 0 below) (h.front ∙ (ap (λ r. take n cs ++ run p r) cut ∙ (ap (λ r. take n cs ++ r) (run_here p _ _ here) ∙ sym (append_assoc (take n cs) (get_or cs n 0 ∷ []) (run p (drop (suc n) cs))))));
      rest = rw add-one (h.rest ∙ (ap (beyond p) cut ∙ beyond_here p _ _ here));
    }

pub ended_here : (p : ℕ → Bool) (cs : List ℕ) (n : ℕ) → Passed p cs n → n < length cs → p (get_or cs n 0) ≡ false → Ended p cs n
ended_here p cs n h below here =
    let cut = drop-cons cs n 0 below in
    record {
      front = sym (h.front ∙ (ap (λ r. take n cs ++ run p r) cut ∙ (ap (λ r. take n cs ++ r) (run_stop p _ _ here) ∙ append-nil (take n cs))));
      rest = sym (h.rest ∙ (ap (beyond p) cut ∙ (beyond_stop p _ _ here ∙ sym cut)));
    }

pub ended_all : (p : ℕ → Bool) (cs : List ℕ) (n : ℕ) → Passed p cs n → n ≡ length cs → Ended p cs n
ended_all p cs n h e =
    let none : drop n cs ≡ [] = rw e (drop-length cs) in
    record {
      front = sym (h.front ∙ (ap (λ r. take n cs ++ run p r) none ∙ append-nil (take n cs)));
      rest = sym (h.rest ∙ (ap (beyond p) none ∙ sym none));
    }
