use Rattle.std.proofs.Common.{◌≡◌, ◌∙◌, sym, subst}
use Rattle.rz_chronicle.specs.Keys.{word_key, count_at}
use Rattle.rz_chronicle.specs.Rules.{WordTokenView}
use Rattle.rz_chronicle.proofs.Histories.{count_history}
use Rattle.rz_chronicle.proofs.TokenLaws.{word_token-count}
use Rattle.rz_chronicle.proofs.Keys.{room-64}
use Rattle.rz_chronicle.proofs.passes.WordToken.room.Goals as goal

pub returns-clause-room : goal.returns-clause-room
returns-clause-room g c =
    let k = word_key c.self.inside.word in
    let m : c.self.inside.moved ≡ count_at k c.self.inside.seen.log = word_token-count g.J.Naming.counters g.J.Naming.copy g.J.Naming.kind k c.self.inside.moved c.self.inside.seen.log c.self.inside.tokens c.self.invariant.2 in
    let n : c.self.inside.moved ≡ count_at (word_key c.args.self.now.word) c.args.self.now.log =
    subst (λ (v : WordTokenView). c.self.inside.moved ≡ count_at (word_key v.word) v.log) c.self.view_is (m ∙ sym (count_history k c.self.inside.seen.log)) in
    room-64 c.self.inside.moved (count_at (word_key c.args.self.now.word) c.args.self.now.log) n
