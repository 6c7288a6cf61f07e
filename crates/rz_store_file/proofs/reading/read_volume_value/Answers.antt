use Rattle.std.proofs.Common.{◌≡◌, ◌∙◌, ap, Ok, Err}
use Rattle.serde_json.specs.Read.{read as json}
use Rattle.serde_json.specs.View.{view}
use Rattle.rz_config.specs.Described.{volume_of_text}
use Rattle.rz_store_file.specs.Described.{in_volume}
use Rattle.rz_store_file.proofs.ReadsBack.{volume_read}
use Rattle.rz_store_file.proofs.reading.read_volume_value.Goals as goal

pub returns-in-Ok : goal.returns-in-Ok
returns-in-Ok c =
    let text = ap json c.as_str.ensures.value ∙ c.in_ok-text.ensures.reads_back c.requires in
    ap in_volume (volume_read c.as_str.result.now (view c.args.value.now) (Ok c.in-Ok.volume) text c.in-Ok.ensures)

pub returns : goal.returns
returns c =
    let text = ap json c.as_str.ensures.value ∙ c.in_ok-text.ensures.reads_back c.requires in
    let told = c.in-Err-Refused.ensures in
    let fault : volume_of_text c.as_str.result.now ≡ Err c.in-Err-Refused.fault = rw c.in-Err-Refused.field-0-is at told in
    ap in_volume (volume_read c.as_str.result.now (view c.args.value.now) (Err c.in-Err-Refused.fault) text fault)
