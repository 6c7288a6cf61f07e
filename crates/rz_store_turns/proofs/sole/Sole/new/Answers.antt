use Rattle.std.proofs.Common.{◌≡◌, sym, subst, arith}
use Rattle.rz_events.specs.declared.events.Event.{Event}
use Rattle.std.proofs.Common.{List}
use Rattle.rz_store_turns.specs.Sole.{AreFree}
use Rattle.rz_store_turns.proofs.Soles.{none-open}
use Rattle.rz_store_turns.proofs.sole.Sole.new.Goals as goal

pub invariant_of-result : goal.invariant_of-result
invariant_of-result g c = record {
  volume_is = c.requires.volume;
  cluster_is = c.requires.cluster;
  tokens = c.requires.tokens;
  room = c.requires.room;
  texts = c.requires.texts;
  free = λ legal. subst (λ (h : List Event). AreFree h 1 1) (sym c.requires.fresh) (none-open 1 1);
  clients = (omega arith, omega arith);
  rebuilders = (omega arith, omega arith);
}
