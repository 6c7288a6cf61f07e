use Rattle.rz_request.proofs.Many.{folder_many}
use Rattle.rz_request.proofs.line.read_folder.Goals as goal

pub returns-in-None : goal.returns-in-None
returns-in-None c = folder_many _ c.in-None.ensures
