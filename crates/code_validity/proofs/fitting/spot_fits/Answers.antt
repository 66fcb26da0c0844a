use Rattle.std.proofs.Common.{◌≡◌, ℕ, ◌+◌, ◌-◌, true≢false, sym, ◌∙◌, subst, arith}
use Rattle.stack_code.specs.declared.code.Code.{Code}
use Rattle.stack_code.specs.declared.code.Spot.{Spot}
use Rattle.stack_code.specs.declared.flow.Flow.{Flow}
use Rattle.stack_code.specs.declared.instr.Instr.{Instr}
use Rattle.stack_code.specs.Operands.{takes, pushes, nest_after, flow_of}
use Rattle.stack_code.specs.Valid.{Leads}
use Rattle.code_validity.proofs.fitting.spot_fits.Goals as goal

leads_by : (c : Code) (at : ℕ) (i : Instr) (s : Spot) (h n : ℕ) (f : Flow) → h ≡ s.stack - takes c i + pushes c i → n ≡ nest_after i s.nest → f ≡ flow_of i → Leads c at s.body h n f
    → Leads c at s.body (s.stack - takes c i + pushes c i) (nest_after i s.nest) (flow_of i)
leads_by c at i s h n f e g k l = subst (λ h. Leads c at s.body h (nest_after i s.nest) (flow_of i)) e (subst (λ n. Leads c at s.body h n (flow_of i)) g (subst (λ f. Leads c at s.body h n f) k l))

pub returns-then-not-stack_admits : goal.returns-then-not-stack_admits
returns-then-not-stack_admits c = (
  λ h. absurd (true≢false (sym h)),
  λ f. sym c.if-not-stack_admits.true ∙ c.stack_admits.ensures.1 f.height,
)

pub returns : goal.returns
returns c = (
  λ h. record {
    height = c.stack_admits.ensures.0 c.if-not-stack_admits.false;
    operands = omega arith;
    begun = omega arith;
    leads = leads_by c.args.code.now c.args.at c.args.instr c.args.spot _ _ _ (omega arith) c.nest_after-nest.ensures c.flow_of.ensures (c.leads.ensures.0 c.if-not-leads.false);
    belongs = c.belongs.ensures.0 c.if-not-belongs.false;
    held = c.names_holder.ensures.0 h;
  },
  λ f. c.names_holder.ensures.1 f.held,
)
