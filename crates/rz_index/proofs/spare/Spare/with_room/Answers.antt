use Rattle.std.proofs.Common.{◌≡◌, ◌+◌, List, ◌∷◌, [], ◌++◌, length, sym, ap, subst, ◌∙◌, arith}
use Rattle.std.proofs.lemmas.List.{length_push}
use Rattle.rz_index.specs.declared.nodes.IndexNode.{IndexNode}
use Rattle.rz_index.specs.Standing.{Tree, Holds}
use Rattle.rz_index.proofs.Standing.{pushed}
use Rattle.rz_index.proofs.spare.Spare.with_room.Goals as goal

pub loop-link-preserved : goal.loop-link-preserved
loop-link-preserved c =
    let i = c.loop-link.invariant in
    let node = c.node-in-loop-link.result in
    let row = c.loop-link.row.items in
    let items = c.in_ok-push-2.ensures.items in
    let long = length_push row node in
    let more : length c.push-in-loop-link.new.self.items ≡ length (row ++ node ∷ []) = ap length items in (
      node.packed ∷ i.0,
      omega (arith, i.1),
      omega (arith, more, long, i.2),
      subst (λ (xs : List IndexNode). Holds xs (Tree (c.loop-link.link + 1) (node.packed ∷ i.0) ∷ [])) (sym items)
          (pushed row c.loop-link.link i.0 node i.2 c.node-in-loop-link.ensures.left c.node-in-loop-link.ensures.right i.3),
    )

pub invariant_of-result : goal.invariant_of-result
invariant_of-result c =
    let i = c.loop-link.invariant in
    let all : c.loop-link.link ≡ c.args.entries = omega (arith, c.loop-link-test.false, c.loop-link.auto.link-end) in
    record {
      blanks = i.0;
      count = i.1 ∙ all;
      holds = subst (λ k. Holds c.loop-link.row.items (Tree k i.0 ∷ [])) all i.3;
      within = omega (arith, i.2, all);
    }
