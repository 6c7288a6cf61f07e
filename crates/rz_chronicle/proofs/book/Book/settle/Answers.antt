use Rattle.std.proofs.Common.{◌++◌, ◌∷◌, [], List, ap, sym, ◌∙◌}
use Rattle.std.specs.Vec.Iter.{into_iter_items}
use Rattle.std.proofs.lemmas.List.{append_assoc}
use Rattle.rz_chronicle.specs.Rules.{WordTokenView}
use Rattle.rz_chronicle.proofs.Settling.{settled-more}
use Rattle.rz_chronicle.proofs.book.Book.settle.Goals as goal

pub nodes-preserved : goal.nodes-preserved
nodes-preserved g c =
    let inv = c.nodes.invariant in let word_token = c.in-Some.word_token in let one = c.settle_one-in-nodes.ensures in let rest = into_iter_items c.next.new.self in (
      inv.0 ++ word_token ∷ [],
      inv.1 ∙ (ap (λ (l : List WordTokenView). inv.0 ++ l) c.in-Some.ensures.steps.0 ∙ sym (append_assoc inv.0 (word_token ∷ []) rest)),
      settled-more g.J.Naming.kind c.args.front.now (c.args.desk.export ∷ inv.0) c.nodes.front word_token c.settle_one-in-nodes.new.front inv.2 one.same.0 one.same.1 one.later one.stays one.settles one.fit one.apart,
    )
