use Rattle.std.proofs.Common.{⊎_elim, ℕ, ◌+◌, ◌<◌, ◌≤◌, length, sym, subst, ◌∙◌, ap, arith}
use Rattle.std.proofs.lemmas.Bool.{cases_lt}
use Rattle.std.proofs.lemmas.List.{ext_get_or, get_or_past}
use Rattle.rz_disk.specs.Images.{window}
use Rattle.rz_disk.specs.Stored.{Stored, padded}
use Rattle.rz_disk.proofs.Images.{window-byte, window-length}
use Rattle.rz_disk.proofs.Patches.{padded-byte}
use Rattle.rz_disk.proofs.medium.Medium.read.Goals as goal

pub returns : goal.returns
returns c =
    let m = c.self.inside in
    let at : ℕ = c.args.at in
    let n : ℕ = length c.args.out.now in
    let fits : at + n ≤ length (padded m.size m.text.items) = subst (λ (s : Stored). at + n ≤ length s.text) (sym c.self.view_is) c.requires in
    let size = window-length at n (padded m.size m.text.items) fits in
    ext_get_or 0 c.copy_out.new.out (window at n (padded m.size m.text.items)) (c.copy_out.ensures.size ∙ sym size) (λ i below.
    let lt : i < n = omega (arith, c.copy_out.ensures.size) in
    ⊎_elim
    (λ (inside : at + i < length m.text.items). c.copy_out.ensures.there i lt inside)
    (λ (past : length m.text.items ≤ at + i). c.copy_out.ensures.behind i lt past ∙ sym (get_or_past m.text.items (at + i) 0 past))
    (cases_lt (at + i) (length m.text.items))
    ∙ sym (padded-byte m.size m.text.items (at + i))
    ∙ sym (window-byte at n (padded m.size m.text.items) i lt))
    ∙ ap (λ (s : Stored). window at n s.text) c.self.view_is
