-- The names of the causes.
use Rattle.std.specs.Prelude.{ℕ, List, codes}
use Rattle.rz_config.specs.declared.fault.VolumeCause.{VolumeCause}
use Rattle.rz_config.specs.declared.fault.VolumeCause.TheVariants as volume
use Rattle.rz_script_words.specs.declared.fault.ScriptCause.{ScriptCause}
use Rattle.rz_script_words.specs.declared.fault.ScriptCause.TheVariants as script

abbrev pub script_cause : ScriptCause → List ℕ
script_cause script.NotUtf8 = codes "NotUtf8"
script_cause script.UnknownLine = codes "UnknownLine"
script_cause script.MissingWord = codes "MissingWord"
script_cause script.ExtraWord = codes "ExtraWord"
script_cause script.BadNumber = codes "BadNumber"
script_cause script.OutOfRange = codes "OutOfRange"
script_cause script.BadActor = codes "BadActor"
script_cause script.BadNode = codes "BadNode"
script_cause script.BadDatum = codes "BadDatum"
script_cause script.BadOperation = codes "BadOperation"
script_cause script.LateVolume = codes "LateVolume"
script_cause script.NotForRun = codes "NotForRun"

abbrev pub volume_cause : VolumeCause → List ℕ
volume_cause volume.NotJson = codes "NotJson"
volume_cause volume.NotObject = codes "NotObject"
volume_cause volume.UnknownKey = codes "UnknownKey"
volume_cause volume.Missing = codes "Missing"
volume_cause volume.NotNumber = codes "NotNumber"
volume_cause volume.OutOfRange = codes "OutOfRange"
volume_cause volume.NotList = codes "NotList"
volume_cause volume.Twice = codes "Twice"
volume_cause volume.TooFewNodes = codes "TooFewNodes"
volume_cause volume.TooMany = codes "TooMany"
