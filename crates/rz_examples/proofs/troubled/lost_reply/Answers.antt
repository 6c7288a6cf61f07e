use Rattle.rz_examples.proofs.Trouble.{legal_lost_reply}
use Rattle.rz_examples.proofs.troubled.lost_reply.Goals as goal

pub returns : goal.returns
returns c = legal_lost_reply
