use Rattle.std.proofs.Common.{sym, ◌∙◌}
use Rattle.std.specs.List.{length_refill}
use Rattle.rz_words.proofs.Block.words_mut.Goals as goal

pub invariant_of-self-lent : goal.invariant_of-self-lent
invariant_of-self-lent c w =
    let words = c.self.inside.words in
    record {
      shape = c.self.invariant.shape;
      full = sym (length_refill words.len words.items w words.ok.0) ∙ words.ok.0 ∙ c.self.invariant.full;
    }
