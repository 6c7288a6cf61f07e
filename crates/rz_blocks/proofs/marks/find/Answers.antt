use Rattle.std.proofs.Common.{◌≡◌, true, false, sym, ◌∙◌, eqb-true}
use Rattle.std.proofs.lemmas.Bool.{eq-eqb}
use Rattle.rz_blocks.specs.Rows.{rank}
use Rattle.rz_blocks.proofs.FoundRows.{within, gap-end, gap-other, is-there}
use Rattle.rz_blocks.proofs.marks.find.Goals as goal

pub returns-in_default-clause-place : goal.returns-in_default-clause-place
returns-in_default-clause-place c = within c.args.rows.now (rank c.args.row) c.count_before-at.result c.requires.rising c.requires.fits c.count_before-at.ensures.count

pub returns-in_default-clause-there : goal.returns-in_default-clause-there
returns-in_default-clause-there c =
    gap-end c.args.rows.now (rank c.args.row) c.count_before-at.result c.requires.rising c.requires.fits c.count_before-at.ensures.count
    (sym c.get.ensures ∙ sym c.copied.ensures ∙ c.in_default.is)

pub returns-then-is_same-clause-place : goal.returns-then-is_same-clause-place
returns-then-is_same-clause-place c = within c.args.rows.now (rank c.args.row) c.count_before-at.result c.requires.rising c.requires.fits c.count_before-at.ensures.count

pub returns-then-is_same-clause-there : goal.returns-then-is_same-clause-there
returns-then-is_same-clause-there c =
    is-there c.args.rows.now (rank c.args.row) c.count_before-at.result c.requires.rising c.requires.fits c.count_before-at.ensures.count
    c.in-Some.there (sym c.get.ensures ∙ sym c.copied.ensures ∙ c.in-Some.is) (eqb-true (rank c.in-Some.there) (rank c.args.row) (sym c.is_same.ensures ∙ c.if-is_same.true))

pub returns-else-is_same-clause-place : goal.returns-else-is_same-clause-place
returns-else-is_same-clause-place c = within c.args.rows.now (rank c.args.row) c.count_before-at.result c.requires.rising c.requires.fits c.count_before-at.ensures.count

pub returns-else-is_same-clause-there : goal.returns-else-is_same-clause-there
returns-else-is_same-clause-there c =
    gap-other c.args.rows.now (rank c.args.row) c.count_before-at.result c.requires.rising c.requires.fits c.count_before-at.ensures.count
    c.in-Some.there (sym c.get.ensures ∙ sym c.copied.ensures ∙ c.in-Some.is)
    (λ same. let never : true ≡ false = sym (eq-eqb (rank c.in-Some.there) (rank c.args.row) same) ∙ sym c.is_same.ensures ∙ c.if-is_same.false in cc)
