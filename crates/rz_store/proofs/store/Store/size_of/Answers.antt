use Rattle.std.proofs.Common.{◌≡◌, subst}
use Rattle.rz_events.specs.declared.tree.TreeCall.TheVariants as call
use Rattle.rz_store.specs.declared.faults.NameFault.{NameFault}
use Rattle.rz_store.specs.Causes.{IsNameCause}
use Rattle.rz_store.specs.Store.{model_in}
use Rattle.rz_store.proofs.Opens.{refuses-open}
use Rattle.rz_store.proofs.store.Store.size_of.Goals as goal

pub returns-in-Err-Names-clause-cause : goal.returns-in-Err-Names-clause-cause
returns-in-Err-Names-clause-cause g c =
    λ keeps block.
    refuses-open (model_in c.args.self.now).names c.args.path.now c.in-Err-Names.fault
    (subst (λ (e : NameFault). IsNameCause c.args.self.now (call.Getattr c.args.path.now) e) c.in-Err-Names.field-0-is (c.in-Err-Names.ensures.cause keeps))
