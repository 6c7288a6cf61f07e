use Rattle.std.proofs.Common.{ℕ, Ok, ◌≡◌, take, ◌≤◌, ◌+◌}
use Rattle.rz_play.specs.Stops.{most_turns}
use Rattle.rz_player.proofs.Amongs.{IsUpTo}
use Rattle.rz_player.specs.Behind.{Before, behind}
use Rattle.rz_player.specs.Ends.{StaysTrue, CountsTurns}
use Rattle.rz_player.proofs.rounds.take_round.Given as goal

abbrev pub invariant-loop-by : goal.invariant-loop-by
invariant-loop-by g l = record {
  ready : g.S.Stage.is_ready l.stage;
  volume : g.S.Stage.volume l.stage ≡ g.S.Stage.volume l.fn.stage;
  journal : g.S.Stage.journaled l.stage ≡ g.S.Stage.journaled l.fn.stage;
  lost : (g.S.Stage.world l.stage).lost + g.L.Link.lost l.fn.link ≤ (g.S.Stage.world l.fn.stage).lost + g.L.Link.lost l.link;
  faults : (first : ℕ) → g.S.Stage.counts_on l.fn.stage first → g.S.Stage.counts_on l.stage first;
  held : StaysTrue (g.S.Stage.holds l.fn.stage) (g.S.Stage.holds l.stage);
  few : (g.S.Stage.world l.stage).turns ≤ most_turns;
  counted : CountsTurns (Ok l.any) (g.S.Stage.world l.fn.stage) (g.S.Stage.world l.stage);
  least : (g.S.Stage.world l.fn.stage).turns ≤ (g.S.Stage.world l.stage).turns;
  up_to : (b : Before) → g.S.Stage.holds l.fn.stage b → IsUpTo (g.S.Stage.volume l.fn.stage) (take l.by-index l.actors) g.S.Stage.tells (behind b.log (g.S.Stage.world l.fn.stage)) l.any (behind b.log (g.S.Stage.world l.stage));
}
