use Rattle.rz_safety.proofs.VersionLaws as laws
use Rattle.rz_safety.proofs.sound.Goals as goal

pub returns : goal.returns
returns c = laws.sound
