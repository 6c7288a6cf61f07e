use Rattle.std.proofs.Common.{ℕ, List, ◌≡◌, subst}
use Rattle.rz_events.specs.declared.tree.TreeCall.TheVariants as call
use Rattle.rz_store.specs.Names.{HasChanged}
use Rattle.rz_store.proofs.Replies.{has-answered}
use Rattle.rz_store.proofs.store.Store.remove_dir.Goals as goal

pub returns-clause-done : goal.returns-clause-done
returns-clause-done g c = λ keeps.
    (has-answered c.args.self.now c.change.new.self (call.Rmdir c.args.path.now) c.in_ok-_made._made
    (subst (λ (p : List ℕ). HasChanged c.args.self.now (call.Rmdir p) c.in_ok-_made._made c.change.new.self) c.in_ok-path.ensures (c.in_ok-_made.ensures.done keeps))).0
