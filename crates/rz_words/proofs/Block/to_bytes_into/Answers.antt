use Rattle.std.proofs.Common.{◌*◌, length, take, ap, ◌∙◌}
use Rattle.rz_words.specs.Grid.{Grid, bytes_from}
use Rattle.rz_words.proofs.Little.{bytes_from-words_from}
use Rattle.rz_words.proofs.Block.to_bytes_into.Goals as goal

pub returns-clause-loaded : goal.returns-clause-loaded
returns-clause-loaded c text bytes long is =
    let g : Grid = c.args.self.now in
    let held = c.deref.ensures.value ∙ ap (λ s. s.words) c.self.view_is ∙ ap (λ s. s.words) is in
    c.store_words.ensures ∙ ap (λ ws. take (length c.args.out.now) (bytes_from ws)) held
    ∙ bytes_from-words_from text (g.rows * g.cols) (length c.args.out.now) bytes long c.requires
