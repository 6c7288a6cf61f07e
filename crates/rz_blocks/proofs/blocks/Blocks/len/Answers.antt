use Rattle.std.proofs.Common.{◌≡◌, suc, List, [], ◌∷◌, length, map, sym, ap, ◌∙◌, refl}
use Rattle.std.specs.FinMap as maps
use Rattle.std.specs.FinMap.{len-entries}
use Rattle.rz_blocks.specs.Shown.{shown_entries}
use Rattle.rz_blocks.proofs.Shows.{Kept, map_of, entries-shown}
use Rattle.rz_blocks.proofs.blocks.Blocks.len.Goals as goal

length-shown : (es : Kept) → length (shown_entries es) ≡ length es
length-shown [] = refl
length-shown (e ∷ es) = ap suc (length-shown es)

pub returns : goal.returns
returns c =
    let es : Kept = c.self.inside.entries.entries in
    c.len.ensures.len ∙ sym (len-entries (map_of es) ∙ ap length (entries-shown es c.len.ensures.ordered) ∙ length-shown es) ∙ ap maps.len c.self.view_is
