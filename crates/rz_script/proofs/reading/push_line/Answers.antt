use Rattle.std.proofs.Common.{None, sym, ◌∙◌}
use Rattle.std.proofs.lemmas.List.{append-nil}
use Rattle.rz_script.proofs.Loop.{no_bytes}
use Rattle.rz_script.proofs.reading.push_line.Goals as goal

pub returns-then-is_empty : goal.returns-then-is_empty
returns-then-is_empty c =
    (None, no_bytes c.args.form c.args.volume.now c.args.text.now (sym c.is_empty.ensures ∙ c.if-is_empty.true), sym (append-nil c.args.found.now.items))
