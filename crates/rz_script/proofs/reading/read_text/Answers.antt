use Rattle.rz_script.specs.Scripts.{Script}
use Rattle.rz_script.proofs.Whole.{limits_kept, few_lines}
use Rattle.rz_script.proofs.reading.read_text.Goals as goal

pub of-requires-clause-limits : goal.of-requires-clause-limits
of-requires-clause-limits c =
    let s : Script = record { volume = c.in_ok-volume.volume; lines = c.in_ok-volume.lines.items } in
    limits_kept c.args.form c.args.text.now s c.utf8.text c.in_ok-volume.ensures

pub of-requires-clause-few : goal.of-requires-clause-few
of-requires-clause-few c =
    let s : Script = record { volume = c.in_ok-volume.volume; lines = c.in_ok-volume.lines.items } in
    few_lines c.args.form c.args.text.now s c.utf8.text c.in_ok-volume.ensures c.requires
