-- A version stands where a record does.
use Rattle.std.proofs.Common.{sym, ◌∙◌, ap}
use Rattle.std.specs.Prelude.{is_some}
use Rattle.rz_node.proofs.Firsts.{holds-some, holds-none}
use Rattle.rz_node.proofs.opening.holds.Goals as goal

pub returns-in-Some : goal.returns-in-Some
returns-in-Some c pairs heads tied = c.is_some.ensures ∙ ap is_some c.side_of.ensures ∙ holds-some c.args.index.now c.args.key c.args.stamp pairs heads tied c.in-Some.entry (sym c.in-Some.ensures)

pub returns-in-None : goal.returns-in-None
returns-in-None c pairs heads tied = holds-none c.args.index.now c.args.key c.args.stamp pairs heads tied (sym c.in-None.ensures)
