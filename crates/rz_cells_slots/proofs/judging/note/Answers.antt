use Rattle.std.proofs.Common.{◌≡◌, Some, None, sym, ◌∙◌}
use Rattle.std.specs.HashMap.{get}
use Rattle.rz_cells_slots.specs.Opening.{same_key}
use Rattle.rz_cells_slots.proofs.Firsts.{none_copied, on_ok, other_key}
use Rattle.rz_cells_slots.proofs.judging.note.Goals as goal

pub returns-then-is_none-clause-noted : goal.returns-then-is_none-clause-noted
returns-then-is_none-clause-noted c =
    let u = on_ok c.insert.result (c.insert.ensures.succeeds c.requires) c.insert.ensures.updates in
    let key = c.args.head.now.key in
    let was : get same_key c.args.firsts.now (key.fid, key.block) ≡ None = sym c.get.ensures.value ∙ none_copied c.get.result c.if-is_none.ensures in
    record {
      first = λ _. u.1;
      kept = λ first is. let no : None ≡ Some first = sym was ∙ is in absurd (cc);
      others = λ other ne. u.2 (other.fid, other.block) (other_key key other ne);
    }
