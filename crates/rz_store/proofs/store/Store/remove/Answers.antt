use Rattle.std.proofs.Common.{ℕ, List, ◌≡◌, subst}
use Rattle.rz_events.specs.declared.tree.TreeCall.TheVariants as call
use Rattle.rz_store.specs.Names.{HasChanged}
use Rattle.rz_export_model.specs.Refusals.{path_in}
use Rattle.rz_export_model.specs.TreeCalls.{last_name_of}
use Rattle.rz_store.specs.Store.{model_in}
use Rattle.rz_store.proofs.Replies.{has-answered}
use Rattle.rz_store.proofs.store.Store.remove.Goals as goal

pub returns-clause-done : goal.returns-clause-done
returns-clause-done g c = λ keeps. (
  last_name_of (model_in c.args.self.now).names (path_in c.args.path.now),
  (has-answered c.args.self.now c.change.new.self (call.Unlink c.args.path.now) c.in_ok-_made._made
      (subst (λ (p : List ℕ). HasChanged c.args.self.now (call.Unlink p) c.in_ok-_made._made c.change.new.self) c.in_ok-path.ensures (c.in_ok-_made.ensures.done keeps))).0,
)
