-- A mask of no systems has no first and no second.
use mathlib.Core.Path.{ap₂}
use Rattle.reader.specs.declared.mask.SystemPlan.{SystemPlan}
use Rattle.reader.specs.Steps.{mask_plan}
use Rattle.mt1.specs.Records.{at}
use Rattle.reader.proofs.plan.no_mask.Goals as goal

pub returns : goal.returns
unfolding mask_plan at
returns c = λ place. ap₂ (λ (s t : SystemPlan). record { systems = 0; first = s; second = t }) c.no_system.ensures c.no_system-2.ensures
