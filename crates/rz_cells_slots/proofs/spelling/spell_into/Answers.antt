use Rattle.std.proofs.Common.{◌≡◌, ℕ, ◌+◌, ◌*◌, List, length, drop, sym, ◌∙◌, subst, arith}
use Rattle.std.proofs.lemmas.List.{drop_at, length-take-le, take_at}
use Rattle.rz_record.specs.Record.{IsRecord}
use Rattle.rz_cells_slots.proofs.spelling.spell_into.Goals as goal

pub returns-clause-record : goal.returns-clause-record
returns-clause-record c =
    let size : ℕ = 48 + 8 * length c.args.bins.now in
    let out = c.encode_into.new.out in
    let long : length out ≡ 48 + 8 * length c.args.bins.now = c.encode_into.auto.out ∙ length-take-le (48 + 8 * length c.args.bins.now) c.args.out.now (omega (arith, c.requires.room, c.requires.bins)) in
    subst (λ (l : List ℕ). IsRecord l c.args.head.now c.args.bins.now) (sym (take_at out (drop (48 + 8 * length c.args.bins.now) c.args.out.now) (48 + 8 * length c.args.bins.now) long)) c.encode_into.ensures.record

pub returns-clause-behind : goal.returns-clause-behind
returns-clause-behind c =
    let out = c.encode_into.new.out in
    let long : length out ≡ 48 + 8 * length c.args.bins.now = c.encode_into.auto.out ∙ length-take-le (48 + 8 * length c.args.bins.now) c.args.out.now (omega (arith, c.requires.room, c.requires.bins)) in
    drop_at out (drop (48 + 8 * length c.args.bins.now) c.args.out.now) (48 + 8 * length c.args.bins.now) long
