-- What each test of a site says, put together.
use Rattle.std.proofs.Common.{ℕ, ◌≤◌, Bool, IsTrue, ◌↔◌}
use Rattle.stack_code.specs.Valid.{Each, FoldFits, IsEarlier, Lands, LeaseFits, SiteFits}
use Rattle.stack_code.specs.declared.code.Around.TheVariants.{Site}
use Rattle.stack_code.specs.declared.code.Code.{Code}
use Rattle.stack_code.specs.declared.code.CodeSite.{CodeSite}

pub site_whole : {c : Code} {k : ℕ} {s : CodeSite} {b : Bool} → Lands c (Site k) 0 0 s.entry → 4 ≤ s.frame → IsEarlier c k s.around → FoldFits s.kind
    → IsTrue b ↔ Each s.leases (λ n lease. LeaseFits c s.around lease.frame) → IsTrue b ↔ SiteFits c k s
site_whole entry cells around fold leases = (λ t. record { entry = entry; cells = cells; around = around; fold = fold; leases = leases.0 t }, λ h. leases.1 h.leases)
