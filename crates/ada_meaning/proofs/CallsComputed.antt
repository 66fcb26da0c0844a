-- The rows of calls, copying and exceptions, computed.
use Rattle.std.proofs.Common.{refl}
use Rattle.std.specs.Fmt.{digits}
use Rattle.ada_meaning.specs.CallRows.{Downs, Begins, NotCopied, NoReturn, Reraised, Elaborated, Combines}

pub downs : Downs
unfolding digits
downs = (refl, refl)

pub begins : Begins
unfolding digits
begins = refl

pub not_copied : NotCopied
unfolding digits
not_copied = refl

pub no_return : NoReturn
unfolding digits
no_return = refl

pub reraised : Reraised
unfolding digits
reraised = refl

pub elaborated : Elaborated
unfolding digits
elaborated = refl

pub combines : Combines
unfolding digits
combines = (refl, refl, refl)
