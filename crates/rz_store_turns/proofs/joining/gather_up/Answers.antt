use Rattle.std.proofs.Common.{◌≡◌, [], List, sym, subst, append-nil}
use Rattle.rz_events.specs.declared.keys.Actor.TheVariants.{Admin}
use Rattle.rz_chronicle.specs.Keys.{own_keys}
use Rattle.rz_chronicle.specs.Rules.{PassView}
use Rattle.rz_store_turns.specs.Joined.{HasTokens, HasGathered}
use Rattle.rz_store_turns.proofs.Gathered.{gathered-all}
use Rattle.rz_store_turns.proofs.Soles.{unmoved}
use Rattle.rz_store_turns.proofs.joining.gather_up.Goals as goal

pub returns-clause-tokens : goal.returns-clause-tokens
returns-clause-tokens g c = gathered-all c.args.admin c.args.clients.items c.args.rebuilders.items c.gather_idle.new.front c.gather_idle-2.new.front c.requires.admin c.requires.clients c.requires.rebuilders c.gather_idle.ensures c.gather_idle-2.ensures

pub returns-clause-log : goal.returns-clause-log
returns-clause-log g c =
    let front = c.gather_idle-2.new.front in
    let all = gathered-all c.args.admin c.args.clients.items c.args.rebuilders.items c.gather_idle.new.front front c.requires.admin c.requires.clients c.requires.rebuilders c.gather_idle.ensures c.gather_idle-2.ensures in
    unmoved g.J.Naming.kind front.keys [] front.log c.added_alone.ensures all c.actor-member.ensures.places (front.log, sym (append-nil front.log)) c.gather_idle-2.ensures.idle
