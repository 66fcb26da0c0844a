-- A function of what a reader finds.
use Rattle.std.proofs.Common.{ℕ, List, ◌++◌, inl, inr, sym, ap, ◌∙◌, subst, append-nil}
use Rattle.ada_base.specs.Symbols.{Symbol, Word, symbols_of}
use Rattle.syntax_readers.specs.Readers.{Answer, Reader, read_on, pure, ◌<$>◌}
use Rattle.ada_base.specs.Languages.{Language, Pure, Image}
use Rattle.syntax_readers.specs.Sets.{Sets}
use Rattle.syntax_readers.specs.Exact.{Reads, Steady, Exact}
use Rattle.syntax_readers.proofs.Renamings.{steady_as}
use Rattle.syntax_readers.proofs.Sequences.{steady_then}
use Rattle.syntax_readers.proofs.Singles.{steady_pure, inhabited_pure}

-- what a reader does with a word, seen through a function of what it finds
pub reads_image : (limit : ℕ) {A B : Type 0} (f : A → B) (a : A) (w : Word) (rest : List Symbol) (x : Answer A × List Symbol)
    → Reads limit a w rest x → Reads limit (f a) w rest (read_on x.0 (λ a. pure (f a)) x.1)
reads_image limit f a w rest x (inl (within, e)) = inl (within, ap (λ z. read_on z.0 (λ a. pure (f a)) z.1) e)
reads_image limit f a w rest x (inr (g, c, b, eq, within, over, e)) = inr (g, c, b, eq, within, over, ap (λ z. read_on z.0 (λ a. pure (f a)) z.1) e)

pub steady_image : {A B : Type 0} (f : A → B) (L : A → Language) (p : Reader A) → Steady L p → Steady (Image f L) (f <$> p)
steady_image f L p h =
    steady_as (Image f L) (steady_then L (λ a. Pure (f a)) p (λ a. pure (f a)) h (λ a. steady_pure (f a)) (λ a. inhabited_pure (f a)))
    (λ b w (a, u, v, e, l, k). (a, k.0, subst (L a) (sym (e ∙ ap (λ z. u ++ z) k.1 ∙ append-nil u)) l))

-- a function changes no sets
pub exact_image : {limit : ℕ} {A B : Type 0} {s : Sets} {L : A → Language} {p : Reader A} (f : A → B) → Exact limit s L p → Exact limit s (Image f L) (f <$> p)
exact_image {limit} {A} {B} {s} {L} {p} f h = record {
  steady = steady_image f L p h.steady;
  starts = λ b w (a, e, l). h.starts a w l;
  whole = λ b w rest (a, e, l) st.
      subst (λ z. Reads limit z w rest ((f <$> p) (symbols_of w ++ rest))) (sym e) (reads_image limit f a w rest (p (symbols_of w ++ rest)) (h.whole a w rest l st));
}
