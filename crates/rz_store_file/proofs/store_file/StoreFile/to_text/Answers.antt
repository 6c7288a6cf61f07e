use Rattle.std.proofs.Common.{string_bytes}
use Rattle.std.proofs.lemmas.Result.{IfOk-weaker}
use Rattle.serde_json.specs.View.{view}
use Rattle.rz_store_file.proofs.ReadsBack.{store_text}
use Rattle.rz_store_file.proofs.store_file.StoreFile.to_text.Goals as goal

pub returns : goal.returns
returns c =
    IfOk-weaker c.to_string_pretty.result _ _
    (λ text reads. store_text (string_bytes text) (view c.in_ok-value.value) c.args.self.now c.in_ok-value.ensures.value reads c.in_ok-value.ensures.rules c.in_ok-value.ensures.small c.in_ok-value.ensures.proper)
    c.to_string_pretty.ensures.reads_back
