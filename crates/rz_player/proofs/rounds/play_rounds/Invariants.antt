use Rattle.std.proofs.Common.{ℕ, ◌≡◌, ◌≤◌, ◌+◌}
use Rattle.rz_play.specs.Stops.{most_turns}
use Rattle.rz_play.specs.Lines.{IsRoundsOver}
use Rattle.rz_player.specs.Behind.{Before, behind}
use Rattle.rz_player.specs.Ends.{StaysTrue}
use Rattle.rz_player.proofs.rounds.play_rounds.Given as goal

abbrev pub invariant-loop : goal.invariant-loop
invariant-loop g l = record {
  ready : g.S.Stage.is_ready l.stage;
  volume : g.S.Stage.volume l.stage ≡ g.S.Stage.volume l.fn.stage;
  journal : g.S.Stage.journaled l.stage ≡ g.S.Stage.journaled l.fn.stage;
  few : (g.S.Stage.world l.stage).turns ≤ most_turns;
  lost : (g.S.Stage.world l.stage).lost + g.L.Link.lost l.fn.link ≤ (g.S.Stage.world l.fn.stage).lost + g.L.Link.lost l.link;
  faults : (first : ℕ) → g.S.Stage.counts_on l.fn.stage first → g.S.Stage.counts_on l.stage first;
  held : StaysTrue (g.S.Stage.holds l.fn.stage) (g.S.Stage.holds l.stage);
  played : (b : Before) → g.S.Stage.holds l.fn.stage b → IsRoundsOver (g.S.Stage.volume l.fn.stage) l.counter g.S.Stage.tells (behind b.log (g.S.Stage.world l.fn.stage)) (behind b.log (g.S.Stage.world l.stage));
}
