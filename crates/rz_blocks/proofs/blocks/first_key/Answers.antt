use Rattle.std.proofs.Common.{ap, ◌∙◌}
use Rattle.rz_export_model.specs.Firsts.{first_given}
use Rattle.rz_blocks.proofs.Keys.{forward}
use Rattle.rz_blocks.proofs.Ranges.{key_in, skips, hits, ends, no-key, own-key, same-fid, other-fid, first-range}
use Rattle.rz_blocks.proofs.blocks.first_key.Goals as goal

pub range-key-items-requires : goal.range-key-items-requires
range-key-items-requires c = forward c.start_of.result c.end_of.result c.args.fid c.start_of.ensures.within c.end_of.ensures.past

pub loop-key-preserved : goal.loop-key-preserved
loop-key-preserved c =
    skips (key_in c.args.fid) c.loop-key.key-iterator c.next.new.self (c.in-Some.key.now, c.in-Some.field-0-1.now) c.in-Some.ensures.steps
    (no-key c.args.fid c.in-Some.key.now c.in-Some.field-0-1.now (other-fid c.in-Some.key.now.fid c.args.fid c.if-key-fid.false)) ∙ c.loop-key.invariant

pub returns-then-key-fid-clause-first : goal.returns-then-key-fid-clause-first
returns-then-key-fid-clause-first c =
    hits (key_in c.args.fid) c.loop-key.key-iterator c.next.new.self (c.in-Some.key.now, c.in-Some.field-0-1.now) c.in-Some.key.now c.in-Some.ensures.steps
    (own-key c.args.fid c.in-Some.key.now c.in-Some.field-0-1.now (same-fid c.in-Some.key.now.fid c.args.fid c.if-key-fid.true))
    ∙ c.loop-key.invariant ∙ ap (first_given (key_in c.args.fid)) (c.into_iter-key-iterator.ensures.into_iter_gives ∙ c.range-key-items.ensures.between tt)
    ∙ first-range c.start_of.result c.end_of.result c.args.fid c.start_of.ensures.start c.end_of.ensures.end c.args.entries.now.entries

pub returns-clause-first : goal.returns-clause-first
returns-clause-first c =
    ends (key_in c.args.fid) c.loop-key.key-iterator c.in-None.ensures.steps.0
    ∙ c.loop-key.invariant ∙ ap (first_given (key_in c.args.fid)) (c.into_iter-key-iterator.ensures.into_iter_gives ∙ c.range-key-items.ensures.between tt)
    ∙ first-range c.start_of.result c.end_of.result c.args.fid c.start_of.ensures.start c.end_of.ensures.end c.args.entries.now.entries
