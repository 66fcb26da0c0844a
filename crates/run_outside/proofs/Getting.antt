-- What ports of a source and a sink do.
use Rattle.std.proofs.Common.{◌≡◌, ◌⊎◌, inl, inr, ℕ, ◌≤◌, List, [], ◌++◌, length, Option, Some, None, IsSome, Result, Ok, Err, IsErr, Bool, true, false, true≢false, refl, sym, ap, ◌∙◌, arith, append_assoc}
use Rattle.std.proofs.lemmas.List.{append-nil}
use Rattle.ada_io.specs.declared.input.GetEnd.{GetEnd}
use Rattle.ada_io.specs.declared.input.GetEnd.TheVariants as get
use Rattle.ada_io.specs.declared.input.Got.{Got}
use Rattle.ada_io.specs.Gets.{Last, Open, AtEnd, Broken, Gave, ReaderState, askings, last_of, met_end, Gets}
use Rattle.std.specs.Io.KnownBytes.{Appends, Consumes, IsAtEnd}
use Rattle.ada_port.specs.declared.ports.Failed.{Failed}
use Rattle.ada_port.specs.Ports.{Stream, IsTold, bytes_of, bytes_told, Puts}
use Rattle.run_outside.specs.Outside.{Outside, HasGot, HasPut, GetCauses, Keeps, MayBe, Follows, Leaves, put_of, opened}

bytes_lost : (old new : Option (List ℕ)) (bytes : List ℕ) → Consumes old new bytes → IsSome old → bytes_told old ≡ bytes ++ bytes_told new
bytes_lost None new bytes c t = cc
bytes_lost (Some xs) None bytes c t = absurd c
bytes_lost (Some xs) (Some ys) bytes c t = c

none_told : (x : Option (List ℕ)) → IsAtEnd x → bytes_told x ≡ []
none_told None e = refl
none_told (Some bytes) e = e

bytes_grown : (old new : Option (List ℕ)) (bytes : List ℕ) → Appends old new bytes → IsSome old → IsSome new × (bytes_told new ≡ bytes_told old ++ bytes)
bytes_grown None new bytes a t = cc
bytes_grown (Some xs) None bytes a t = absurd a
bytes_grown (Some xs) (Some ys) bytes a t = (refl, a)

fewest : (l : Last) (bytes : List ℕ) → length bytes ≤ askings l bytes
fewest Open bytes = omega arith
fewest AtEnd bytes = omega arith
fewest Broken bytes = omega arith

-- ---- the input

-- what a source that tells had left before, and after its end
left_before : (old new : Stream) (last : Last) (bytes : List ℕ) → Gave last old new bytes → IsTold old → bytes_of old ≡ bytes ++ bytes_of new
left_before old new Open bytes g t = bytes_lost old.told new.told bytes g.told t
left_before old new AtEnd bytes g t = bytes_lost old.told new.told bytes g.told t
left_before old new Broken bytes g t = bytes_lost old.told new.told bytes g.told t

left_at_end : (old new : Stream) (last : Last) (bytes : List ℕ) → Gave last old new bytes → IsTold old → last ≡ AtEnd → bytes_of new ≡ []
left_at_end old new Open bytes g t e = cc
left_at_end old new AtEnd bytes g t e = none_told new.told g.none
left_at_end old new Broken bytes g t e = cc

module _ (old new begun sink : Stream) (pieces : List ℕ) (before after : ReaderState) where
  abbrev from : Outside
  from = opened before old begun sink pieces

  abbrev to : Outside
  to = opened after new begun sink pieces

  get_cause : (e : GetEnd) (ended : Bool) (bytes : List ℕ) → Gave (last_of e ended) old new bytes → GetCauses e from.faults to.faults
  get_cause (get.Number v) true bytes g = ap (λ n. record { input = n; output = sink.faults }) g.faults
  get_cause (get.Number v) false bytes g = ap (λ n. record { input = n; output = sink.faults }) g.faults
  get_cause (get.Raise r) true bytes g = ap (λ n. record { input = n; output = sink.faults }) g.faults
  get_cause (get.Raise r) false bytes g = ap (λ n. record { input = n; output = sink.faults }) g.faults
  get_cause get.ReadFault ended bytes g = (g.rose, refl)
  get_cause get.Spent true bytes g = ap (λ n. record { input = n; output = sink.faults }) g.faults
  get_cause get.Spent false bytes g = ap (λ n. record { input = n; output = sink.faults }) g.faults

  module _ {InTells : Type 0} (turns : ℕ) (r : Got) (telling : InTells → IsTold old) (g : Gets old new before after turns r) where
    -- an input that may be the whole one after the Get may be it before
    may_before : (w : List ℕ) → MayBe InTells w to → MayBe InTells w from
    unfolding MayBe
    may_before w k = (g.bytes ++ k.0, (k.1.0 ∙ ap (λ bs. bs ++ k.0) g.log ∙ append_assoc before.came g.bytes k.0, (none, follows)))
      where
        none : met_end before.held ≡ true → g.bytes ++ k.0 ≡ []
        none e = let b = g.kept e in ap (λ bs. bs ++ k.0) b.0 ∙ k.1.1.0 b.1

        later : InTells → met_end before.held ≡ false → (b : Bool) → met_end after.held ≡ b → k.0 ≡ bytes_of new
        later told open_yet true e = go (g.meets e)
          where
            go : (met_end before.held ≡ true) ⊎ (last_of r.end g.ended ≡ AtEnd) → k.0 ≡ bytes_of new
            go (inl was) = absurd (true≢false (sym was ∙ open_yet))
            go (inr at) = k.1.1.0 e ∙ sym (left_at_end old new (last_of r.end g.ended) g.bytes g.gave (telling told) at)
        later told open_yet false e = k.1.1.1 told e

        follows : InTells → met_end before.held ≡ false → g.bytes ++ k.0 ≡ bytes_of old
        follows told open_yet = ap (λ bs. g.bytes ++ bs) (later told open_yet (met_end after.held) refl) ∙ sym (left_before old new (last_of r.end g.ended) g.bytes g.gave (telling told))

    fits : (w : List ℕ) → MayBe InTells w to → Follows w to
    unfolding MayBe
    fits w k = record { more = k.0; whole = k.1.0; none = k.1.1.0 }

    -- a source that told its end has nothing left, and gives nothing more
    pub still_over : (met_end before.held ≡ true → bytes_of old ≡ []) → InTells → met_end after.held ≡ true → bytes_of new ≡ []
    still_over over told e = go (g.meets e)
      where
        go : (met_end before.held ≡ true) ⊎ (last_of r.end g.ended ≡ AtEnd) → bytes_of new ≡ []
        go (inl was) = ap (λ bs. bs ++ bytes_of new) (sym (g.kept was).0) ∙ sym (left_before old new (last_of r.end g.ended) g.bytes g.gave (telling told)) ∙ over was
        go (inr at) = left_at_end old new (last_of r.end g.ended) g.bytes g.gave (telling told) at

    pub port_gets : HasGot (MayBe InTells) turns r from to
    port_gets = record {
      cause = get_cause r.end g.ended g.bytes g.gave;
      within = g.within;
      fewer = let f = fewest (last_of r.end g.ended) g.bytes in omega (arith, f, g.took, g.came);
      keeps = record { back = may_before };
      follows = fits;
      came = record { old = old; new = new; gets = g };
      put = refl;
    }

-- at the end of a run some input may be the one
pub some_input : (InTells : Type 0) (o : Outside) → (w : List ℕ) × MayBe InTells w o
unfolding MayBe
some_input InTells o = go (met_end o.held) refl
  where
    go : (b : Bool) → met_end o.held ≡ b → (w : List ℕ) × MayBe InTells w o
    go true e = (o.came ++ [], ([], (refl, ((λ _. refl), λ told no. absurd (true≢false (sym e ∙ no))))))
    go false e = (o.came ++ o.coming, (o.coming, (refl, ((λ yes. absurd (true≢false (sym yes ∙ e))), λ told no. refl))))

-- and of a source that tells it is what that told at the outset
pub told_input : {InTells : Type 0} (w : List ℕ) (o : Outside) → InTells → met_end o.held ≡ false → o.came ≡ [] → MayBe InTells w o → w ≡ o.coming
unfolding MayBe
told_input w o told open_yet none k = k.1.0 ∙ ap (λ bs. bs ++ k.0) none ∙ k.1.1.1 told open_yet

-- ---- the output

still_told : (old new : Stream) (piece : List ℕ) (r : Result (Unit {0}) Failed) → Puts old new piece r → IsTold old → IsTold new
still_told old new piece (Ok u) p t = (bytes_grown old.told new.told piece p.told t).0
still_told old new piece (Err e) p t = (bytes_grown old.told new.told p.told.0 p.told.3 t).0

module _ (source begun old new : Stream) (reader : ReaderState) (pieces : List ℕ) (tells : IsTold begun → IsTold old) where
  -- a sink that told what it held tells it still
  pub tells_still : (piece : List ℕ) (r : Result (Unit {0}) Failed) → Puts old new piece r → IsTold begun → IsTold new
  tells_still piece r p t = still_told old new piece r p (tells t)

  grown : (piece : List ℕ) → Puts old new piece (Ok tt) → put_of begun.told new.told (pieces ++ piece) ≡ put_of begun.told old.told pieces ++ piece
  grown piece p = go begun.told tells
    where
      go : (told : Option (List ℕ)) → (IsSome told → IsTold old) → put_of told new.told (pieces ++ piece) ≡ put_of told old.told pieces ++ piece
      go None t = refl
      go (Some before) t = (bytes_grown old.told new.told piece p.told (t refl)).1

  abbrev Part : List ℕ → Option (List ℕ) → Type 0
  Part piece told = (passed : List ℕ) × (rest : List ℕ) × (piece ≡ passed ++ rest) × (put_of told new.told pieces ≡ put_of told old.told pieces ++ passed)

  broken : (piece : List ℕ) (e : Failed) → Puts old new piece (Err e) → Part piece begun.told
  broken piece e p = go begun.told tells
    where
      go : (told : Option (List ℕ)) → (IsSome told → IsTold old) → Part piece told
      go None t = ([], piece, refl, sym (append-nil pieces))
      go (Some before) t = (p.told.0, p.told.1, p.told.2, (bytes_grown old.told new.told p.told.0 p.told.3 (t refl)).1)

  module _ (InTells : Type 0) where
    -- what is put changes nothing of which bytes may be the whole input
    may_still : (more : List ℕ) → Keeps (MayBe InTells) (opened reader source begun old pieces) (opened reader source begun new more)
    unfolding MayBe
    may_still more = record { back = λ w k. k }

    pub port_puts : (piece : List ℕ) → Puts old new piece (Ok tt) → HasPut (MayBe InTells) piece (Ok tt) (opened reader source begun old pieces) (opened reader source begun new (pieces ++ piece))
    port_puts piece p = (ap (λ n. record { input = source.faults; output = n }) p.faults, may_still (pieces ++ piece), refl, refl, refl, grown piece p)

    pub port_breaks : (piece : List ℕ) (e : Failed) (r : Result (Unit {0}) Failed) → Puts old new piece (Err e) → IsErr r → HasPut (MayBe InTells) piece r (opened reader source begun old pieces) (opened reader source begun new pieces)
    port_breaks piece e (Ok u) p is = cc
    port_breaks piece e (Err f) p is = ((refl, p.rose), may_still pieces, refl, refl, refl, broken piece e p)

-- what ports leave
pub port_leaves : {InTells OutTells : Type 0} (source begun sink : Stream) (reader : ReaderState) (pieces : List ℕ) → (InTells → met_end reader.held ≡ true → bytes_of source ≡ []) → (OutTells → IsTold begun) → Leaves InTells OutTells (opened reader source begun sink pieces) source sink
port_leaves source begun sink reader pieces over told = record { coming = refl; over = over; put = λ t. go begun.told (told t); input = refl; output = refl }
  where
    go : (x : Option (List ℕ)) → IsSome x → bytes_of sink ≡ put_of x sink.told pieces
    go None t = cc
    go (Some before) t = refl
