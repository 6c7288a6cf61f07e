use Rattle.rz_chronicle.proofs.Numbers.{volume-back-after, earlier-back, keeps-back}
use Rattle.rz_chronicle.proofs.kinds.read_back_after.Goals as goal

pub returns : goal.returns
returns c = λ honest v earlier. (keeps-back honest v earlier, volume-back-after honest v earlier, λ short. record { numbers = earlier-back honest v earlier; short = short })
