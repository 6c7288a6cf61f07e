use Rattle.std.proofs.Common.{ℕ, List, take, drop, sym, ◌∙◌, ap, subst}
use Rattle.std.proofs.lemmas.List.{with_items_is}
use Rattle.rz_record.specs.Record.{IsRecord}
use Rattle.rz_cells_slots.proofs.spelling.spell.Goals as goal

pub returns-clause-record : goal.returns-clause-record
returns-clause-record c =
    let items = with_items_is c.args.buffer.now c.spell_into.new.out (c.spell_into.auto.out ∙ c.deref_mut.ensures.len) in
    subst (λ (l : List ℕ). IsRecord (take c.spell_into.result l) c.args.head.now c.args.bins.now) (sym items) c.spell_into.ensures.record

pub returns-clause-behind : goal.returns-clause-behind
returns-clause-behind c =
    let items = with_items_is c.args.buffer.now c.spell_into.new.out (c.spell_into.auto.out ∙ c.deref_mut.ensures.len) in
    ap (drop c.spell_into.result) items ∙ c.spell_into.ensures.behind ∙ ap (drop c.spell_into.result) c.deref_mut.ensures.value
