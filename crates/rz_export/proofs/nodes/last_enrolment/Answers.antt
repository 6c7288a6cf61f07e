use Rattle.std.proofs.Common.{suc, ◌<◌, None, length, get_or, drop, drop-cons, sym, ap, ◌∙◌}
use Rattle.std.proofs.lemmas.List.{drop_all}
use Rattle.rz_export.specs.declared.nodes.KeptNode.{KeptNode}
use Rattle.rz_export.proofs.Enrolled.{found, found-get, found-first}
use Rattle.rz_export.proofs.nodes.last_enrolment.Goals as goal

pub returns-then-is_some : goal.returns-then-is_some
returns-then-is_some c =
    let ns = c.args.nodes.now in
    let i = c.loop-kept.kept-index in
    let d : KeptNode = record { spec = record { sid = 0; cells = 0 }; used = 0; enrolled = None } in
    let low : i < length ns = c.loop-kept-test.true in
    found-first c.args.node (get_or ns i d) (drop (suc i) ns) c.if-kept-node.true (sym c.is_some.ensures ∙ c.if-is_some.true)
    ∙ ap (found c.args.node) (sym (drop-cons ns i d low)) ∙ c.loop-kept.invariant ∙ sym (found-get ns c.args.node)

pub returns : goal.returns
returns c =
    let ns = c.args.nodes.now in
    sym (ap (found c.args.node) (drop_all c.loop-kept.kept-index ns c.loop-kept-test.false)) ∙ c.loop-kept.invariant ∙ sym (found-get ns c.args.node)
