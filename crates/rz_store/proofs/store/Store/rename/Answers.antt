use Rattle.std.proofs.Common.{ℕ, List, ◌≡◌, subst}
use Rattle.rz_events.specs.declared.tree.TreeCall.TheVariants as call
use Rattle.rz_store.specs.Names.{HasChanged}
use Rattle.rz_export_model.specs.Refusals.{path_in}
use Rattle.rz_export_model.specs.TreeCalls.{replaced}
use Rattle.rz_store.specs.Store.{model_in}
use Rattle.rz_store.proofs.Replies.{has-answered}
use Rattle.rz_store.proofs.store.Store.rename.Goals as goal

pub returns-clause-done : goal.returns-clause-done
returns-clause-done g c = λ keeps. (
  replaced (model_in c.args.self.now).names (path_in c.args.path.now) (path_in c.args.to.now),
  (has-answered c.args.self.now c.change.new.self (call.Rename c.args.path.now c.args.to.now) c.in_ok-_made._made
      (subst (λ (q : List ℕ). HasChanged c.args.self.now (call.Rename c.args.path.now q) c.in_ok-_made._made c.change.new.self) c.in_ok-to.ensures
      (subst (λ (p : List ℕ). HasChanged c.args.self.now (call.Rename p c.in_ok-to.to) c.in_ok-_made._made c.change.new.self) c.in_ok-path.ensures (c.in_ok-_made.ensures.done keeps)))).0,
)
