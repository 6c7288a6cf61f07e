use Rattle.rz_store_opening.specs.Opening.{reopened}
use Rattle.rz_store.proofs.LeftDisks.{same-seen}
use Rattle.rz_store.proofs.opening.seen_again.Goals as goal

pub returns : goal.returns
returns g c = λ v h new first o goes. same-seen v h (reopened v new o.parts.nodes.items h) goes.nodes.facts_are goes.nodes.export_word
