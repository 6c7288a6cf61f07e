use Rattle.rz_operation_model.specs.Ask.{ask_of}
use Rattle.rz_operation.proofs.NodeAsks.{may-miss}
use Rattle.rz_driver_nodes.proofs.messages.without_request.Goals as goal

pub tell_missed-requires : goal.tell_missed-requires
tell_missed-requires c = record { asked = may-miss (ask_of c.args.machine.now.layout c.args.machine.now.work) c.args.number c.args.ask c.requires.asked c.requires.lossy }
